-- How deep the deepest of a list is, and values that are made over others.
use Rattle.std.proofs.Common.{◌≡◌, refl, sym, ap, ◌∙◌, ℕ, ◌+◌, ◌<◌, ◌≤◌, max, Bool, true, false, List, [], ◌∷◌, ◌++◌, length, drop, get_or, Box, Global, arith}
use Rattle.std.proofs.lemmas.List.{at_drop_all}
use Rattle.core_expr.specs.Held.{depth_of_item}
use Rattle.core_expr.specs.Making.{depth_of, depth_of_operand, deepest, deepest_item, made_over, made_index, and_last}
use Rattle.core_expr.specs.Values.{Value, index_value, OperandValue, no_operands, and_operand, ItemList, view_core, view_operand, view_item, values_of, operands_of, items_of}
use Rattle.core_expr.specs.declared.cores.Core.{Core, Index, Index', out-Core, roll-Core, roll-out-Core}
use Rattle.core_expr.specs.declared.cores.Core.TheBlock.{shown-the_row-Operand-0}
use Rattle.core_expr.specs.declared.cores.Operands.{Operands}
use Rattle.core_expr.specs.declared.cores.CoreItem.{CoreItem, Positional, Keyed}
use Rattle.core_expr.specs.declared.cores.Operand.{Operand}
use Rattle.core_expr.proofs.Turns.{left_of}

pub all_deep : {A : Type 0} (deep : List A → ℕ) (items : List A) (i n : ℕ) {whole : ℕ} → length items ≤ i → deep [] ≡ 0 → max n (deep (drop i items)) ≡ whole → n ≡ whole
all_deep deep items i n done none is =
    let left : deep (drop i items) ≡ 0 = at_drop_all deep items i done ∙ none in
    let alone : n ≡ max n 0 = omega arith in
    alone ∙ ap (max n) (sym left) ∙ is

max_turn : (a b c : ℕ) → max (max b a) c ≡ max a (max b c)
max_turn a b c = omega arith

pub value_deep : (items : List Core) (i : ℕ) (c : Core) → i < length items → c ≡ get_or items i c → (n after whole : ℕ) →
    max n (deepest (values_of (drop i items))) ≡ whole → after ≡ max (depth_of (view_core c)) n → max after (deepest (values_of (drop (i + 1) items))) ≡ whole
value_deep items i c below is n after whole whole_is after_is =
    let rest = deepest (values_of (drop (i + 1) items)) in
    ap (λ d. max d rest) after_is ∙ max_turn n (depth_of (view_core c)) rest ∙ ap (λ those. max n (deepest (values_of those))) (sym (left_of items i c below is)) ∙ whole_is

first_deep : (item : CoreItem) (rest : ItemList) → deepest_item (view_item item rest) ≡ max (depth_of_item item) (deepest_item rest)
first_deep (Positional c) rest = refl
first_deep (Keyed key item) rest = refl

pub item_deep : (items : List CoreItem) (i : ℕ) (item : CoreItem) → i < length items → item ≡ get_or items i item → (n after whole : ℕ) →
    max n (deepest_item (items_of (drop i items))) ≡ whole → after ≡ max (depth_of_item item) n → max after (deepest_item (items_of (drop (i + 1) items))) ≡ whole
item_deep items i item below is n after whole whole_is after_is =
    let others = items_of (drop (i + 1) items) in
    let rest = deepest_item others in
    ap (λ d. max d rest) after_is ∙ max_turn n (depth_of_item item) rest
    ∙ ap (max n) (sym (first_deep item others)) ∙ ap (λ those. max n (deepest_item (items_of those))) (sym (left_of items i item below is)) ∙ whole_is

-- ---- chains of keys

abbrev pub is_chain : Value → Bool
is_chain (index_value on keys depth) = true
is_chain v = false

pub no_chain : (c : Core) → ((on : Box Core Global) (keys : Operands) (depth : ℕ) → c ≡ Index on keys depth → ⊥) → is_chain (view_core c) ≡ false
unfolding out-Core roll-Core denote.Hole.Carrier.out denote.Hole.Carrier.roll
no_chain (Index' p on m row depth) apart =
    let place : Box Core Global = record { ptr = p.ptr; alloc = p.alloc; value = on } in
    let keys : Operands = record { operands = shown-the_row-Operand-0 m row } in
    absurd (apart place keys depth (sym (roll-out-Core (Index' p on m row depth))))
no_chain c apart = refl

-- a value that is no chain of keys, with a first key
pub first_key : (v : Value) (key : OperandValue) → is_chain v ≡ false → made_index v key ≡ made_over (max (depth_of v) (depth_of_operand key)) (λ d. index_value v (and_operand key no_operands) d)
first_key (index_value on keys depth) key refusal = cc
first_key v key refusal = refl

pub last_key : (operands : List Operand) (key : Operand) → operands_of (operands ++ key ∷ []) ≡ and_last (operands_of operands) (view_operand key)
last_key [] key = refl
last_key (o ∷ operands) key = ap (and_operand (view_operand o)) (last_key operands key)
