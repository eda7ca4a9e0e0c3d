-- Turns of the loops that count constants.
use Rattle.std.proofs.Common.{◌≡◌, refl, sym, ap, ◌∙◌, ℕ, ◌+◌, ◌<◌, ◌≤◌, List, [], length, drop, get_or}
use Rattle.std.proofs.lemmas.List.{at_drop_all}
use Rattle.core_expr.specs.Counting.{taken_behind, taken_behind_values, taken_behind_operand, taken_behind_operands, taken_behind_items}
use Rattle.core_expr.specs.Held.{taken_behind_item}
use Rattle.core_expr.specs.Values.{ItemList, view_core, view_operand, view_item, values_of, operands_of, items_of}
use Rattle.core_expr.specs.declared.cores.Core.{Core}
use Rattle.core_expr.specs.declared.cores.CoreItem.{CoreItem, Positional, Keyed}
use Rattle.core_expr.specs.declared.cores.Operand.{Operand}
use Rattle.core_expr.proofs.Turns.{left_of}

-- where nothing is left, all are counted
pub all_counted : {A : Type 0} (count : List A → ℕ → ℕ) (items : List A) (i n : ℕ) {whole : ℕ} → length items ≤ i → count [] n ≡ n → count (drop i items) n ≡ whole → n ≡ whole
all_counted count items i n done none is = sym (at_drop_all (λ those. count those n) items i done ∙ none) ∙ is

pub value_counted : (items : List Core) (i : ℕ) (c : Core) → i < length items → c ≡ get_or items i c → (n after whole : ℕ) →
    taken_behind_values (values_of (drop i items)) n ≡ whole → after ≡ taken_behind (view_core c) n → taken_behind_values (values_of (drop (i + 1) items)) after ≡ whole
value_counted items i c below is n after whole whole_is after_is =
    ap (taken_behind_values (values_of (drop (i + 1) items))) after_is ∙ ap (λ those. taken_behind_values (values_of those) n) (sym (left_of items i c below is)) ∙ whole_is

pub operand_counted : (items : List Operand) (i : ℕ) (o : Operand) → i < length items → o ≡ get_or items i o → (n after whole : ℕ) →
    taken_behind_operands (operands_of (drop i items)) n ≡ whole → after ≡ taken_behind_operand (view_operand o) n → taken_behind_operands (operands_of (drop (i + 1) items)) after ≡ whole
operand_counted items i o below is n after whole whole_is after_is =
    ap (taken_behind_operands (operands_of (drop (i + 1) items))) after_is ∙ ap (λ those. taken_behind_operands (operands_of those) n) (sym (left_of items i o below is)) ∙ whole_is

first_counted : (item : CoreItem) (rest : ItemList) (n : ℕ) → taken_behind_items (view_item item rest) n ≡ taken_behind_items rest (taken_behind_item item n)
first_counted (Positional c) rest n = refl
first_counted (Keyed key item) rest n = refl

pub item_counted : (items : List CoreItem) (i : ℕ) (item : CoreItem) → i < length items → item ≡ get_or items i item → (n after whole : ℕ) →
    taken_behind_items (items_of (drop i items)) n ≡ whole → after ≡ taken_behind_item item n → taken_behind_items (items_of (drop (i + 1) items)) after ≡ whole
item_counted items i item below is n after whole whole_is after_is =
    let rest = items_of (drop (i + 1) items) in
    ap (taken_behind_items rest) after_is ∙ sym (first_counted item rest n) ∙ ap (λ those. taken_behind_items (items_of those) n) (sym (left_of items i item below is)) ∙ whole_is
