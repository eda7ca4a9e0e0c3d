-- What the words of a constructor do to what is known: NEWTABLE, SETLIST, and SETTABLE as an item; and what is known between items.
use Rattle.std.proofs.Common.{◌≡◌, ◌⊎◌, ℕ, zero, suc, ◌*◌, ◌+◌, ◌-◌, ◌/◌, ◌<◌, ◌≤◌, max, nat_lt, nat_le, Bool, true, false, List, [], ◌∷◌, ◌++◌, length, length-append, append_assoc, take, Option, Some, None, refl, sym, ap, ap₂, ◌∙◌, subst, arith, le-leb, inl, inr}
use Rattle.std.proofs.lemmas.Bool.Decides.{nat_tests}
use Rattle.std.proofs.lemmas.Option.{same_Some}
use Rattle.std.specs.Prelude.{option_map, option_and_then, if◌then◌else◌, ◌==◌, not}
use Rattle.lua_num.specs.Bytes.{Text}
use Rattle.lua_tree.specs.Syntax.{Expression}
use Rattle.opcode.specs.declared.op.Op.{Op}
use Rattle.proto.specs.declared.parts.Constant.{Constant}
use Rattle.core_expr.specs.Counting.{taken_behind_operand, taken_behind_items}
use Rattle.core_expr.specs.Making.{deepest_item}
use Rattle.core_expr.specs.Values as values
use Rattle.core_expr.specs.Values.{Value, Values, no_values, OperandValue, ItemList, no_items, and_positional, and_keyed}
use Rattle.recover_expr.specs.Assigning.{assignment_from}
use Rattle.recover_expr.specs.Constructors.{behind_list, item_at, item_of, list_items, listed_at, set_list_at, with_keyed}
use Rattle.recover_expr.specs.Drafts.{Did, goes}
use Rattle.recover_expr.specs.Entries.{Entries, EntryValue, maker_entry, held_entry, single_of, singles_of, before_values, and_last_value, join_items, is_temporary, more}
use Rattle.recover_expr.specs.Items.{is_item, is_item_at, is_item_of_height, all_stay}
use Rattle.recover_expr.specs.Locals.{Scope}
use Rattle.recover_expr.specs.Reading.{Turn, on, read_word, turned, turn_at, turn_of, value_as}
use Rattle.recover_expr.specs.Situation.{Function, Situation, pop_operand}
use Rattle.recover_expr.specs.Words.{gone, as_end}
use Rattle.scheme.specs.declared.making.Active.{Active}
use Rattle.scheme.specs.declared.making.Piece.{Piece}
use Rattle.scheme_stands.specs.Expressions.{OperandBy, RkAt, RkBy, RkTextAt, local_at}
use Rattle.scheme_stands.specs.Lists.{SetListBy, SetListIf}
use Rattle.scheme_stands.specs.Relation.{related}
use Rattle.scheme_stands.specs.Words.{Fn, Spot, Stretch, WordAt, instr_by}
use Rattle.reads_back.proofs.BehindWords.{HasLocals, SameLocals, behind_words, starting_same}
use Rattle.reads_back.proofs.BothOperands.{behind_operand, both_taken, counted, first_popped, second_popped, seen_with_both, with_seen}
use Rattle.reads_back.proofs.Comes.{AreEntries, OperandComes, ReadsOperand}
use Rattle.reads_back.proofs.Reaches.{Reaches, here, word, reaches_on}
use Rattle.reads_back.proofs.TableItems.{Ahead, adds_list, IsKept, IsWantedAt, not_none, below_both, item_below, join_assoc, join_none, maker_found, positional_items, take_up_to, height_of, with_maker, held_count}
use Rattle.reads_back.proofs.TakenEntries.{before_some, more_entries}
use Rattle.reads_back.proofs.ValueWords.{and_entry, entry_next, next_free}
use Rattle.reads_back.proofs.WordsBegin.{instr_is, lowest_same, wanted_above}
use Rattle.reads_back.proofs.WordsRead.{IsFunction, IsQuiet, abc_is_read, turn_there, word_of, word_there, quiet_nowhere}
use Rattle.reads_back.specs.Cores.{Items, Counted}

-- ---- words

-- where no local starts, the word does what it does
pub turn_is : {f : Function} {g : Fn} {op : Op} {a b c : ℕ} {p q : Spot} (s : Situation) (last : ℕ) → IsFunction f g → WordAt g (Piece.Abc op a b c) p q → IsQuiet f s.scope p.pc last → p.pc < last →
    turn_at f p.pc s ≡ turn_of f s (word_of p.pc (Piece.Abc op a b c))
turn_is {p = p} s last is_function at quiet below = turn_there p.pc s quiet (omega arith) below (word_there is_function at (abc_is_read is_function at) (omega (arith, below, quiet.within)))

-- ---- NEWTABLE

pub new_table_turn : (f : Function) (pc a b c : ℕ) (s : Situation) → a ≡ next_free s → turn_of f s (word_of pc (Piece.Abc Op.NewTable a b c)) ≡ Some (on (suc pc), and_entry (maker_entry no_items false) s)
new_table_turn f pc a b c s is =
    let w = word_of pc (Piece.Abc Op.NewTable a b c) in
    ap (λ done. option_and_then (λ (p : Did × Situation). turned f w p.1 p.0) (gone (suc pc) done)) (entry_next (maker_entry no_items false) s a is)

-- ---- SETLIST

abbrev pub with_entries : Entries → Situation → Situation
with_entries entries s = record s { entries = entries }

abbrev behind_of : Function → (next : ℕ) → Option ℕ
behind_of f next = if nat_le next f.last then Some next else None

behind_there : (f : Function) (next last : ℕ) → next ≡ last → last ≤ f.last → behind_of f next ≡ Some last
behind_there f next last is within = ap (λ within. if within then Some next else None) (le-leb next f.last (omega (arith, is, within))) ∙ ap Some is

set_list_turn : (f : Function) (pc next t n block : ℕ) (s : Situation) (before : Entries) (items given : ItemList) (all : Bool) (above behind : Entries) → t ≡ s.base + length before → s.entries ≡ before ++ maker_entry items false ∷ above →
    list_items (length before) n s.entries ≡ Some (before ++ maker_entry given all ∷ behind) → behind_list f (word_of pc (Piece.Abc Op.SetList t n block)) ≡ Some next →
    turn_of f s (word_of pc (Piece.Abc Op.SetList t n block)) ≡ Some (on next, with_entries (before ++ maker_entry given all ∷ []) s)
set_list_turn f pc next t n block s before items given all above behind at are listed next_is =
    let w = word_of pc (Piece.Abc Op.SetList t n block) in
    let place = length before in
    let one_more : place + 1 ≡ suc place = omega arith in
    let cut : take (place + 1) (before ++ maker_entry given all ∷ behind) ≡ before ++ maker_entry given all ∷ [] = ap (λ n. take n (before ++ maker_entry given all ∷ behind)) one_more ∙ take_up_to before (maker_entry given all) behind in
    ap (λ found. option_and_then (λ (p : Did × Situation). turned f w p.1 p.0) (set_list_at f w s found)) (maker_found s.base t before items false above s.entries at are)
    ∙ ap (λ entries. option_and_then (λ (p : Did × Situation). turned f w p.1 p.0) (option_and_then (listed_at f w s place) entries)) listed
    ∙ ap₂ (λ (next : Option ℕ) (entries : Entries). option_and_then (λ (p : Did × Situation). turned f w p.1 p.0) (option_map (λ next. (goes next, with_entries entries s)) next)) next_is cut

-- its words stand as one, or with the number of its block behind it
pub list_reached : {f : Function} {g : Fn} (small : Bool) (t n block : ℕ) (p q : Spot) (s : Situation) (before : Entries) (items given : ItemList) (all : Bool) (above behind : Entries) → IsFunction f g → IsQuiet f s.scope p.pc q.pc → 0 < block →
    SetListBy small g t n block p q →
    t ≡ s.base + length before → s.entries ≡ before ++ maker_entry items false ∷ above → list_items (length before) n s.entries ≡ Some (before ++ maker_entry given all ∷ behind) →
    Reaches f p.pc s q.pc (with_entries (before ++ maker_entry given all ∷ []) s)
list_reached {f} true t n block p q s before items given all above behind is_function quiet some at there are listed =
    let later : p.pc < q.pc = omega (arith, at.next) in
    let next_is : behind_list f (word_of p.pc (Piece.Abc Op.SetList t n block)) ≡ Some q.pc =
    ap (λ none. behind_of f (if none then suc p.pc + 1 else suc p.pc)) (not_none block some) ∙ behind_there f (suc p.pc) q.pc (sym at.next) quiet.within in
    word later (turn_is s q.pc is_function at quiet later ∙ set_list_turn f p.pc q.pc t n block s before items given all above behind there are listed next_is) here
list_reached {f} false t n block p q s before items given all above behind is_function quiet some at there are listed =
    let first = at.first_at in
    let second = at.second_at in
    let later : p.pc < q.pc = omega (arith, first.next, second.next) in
    let next_is = behind_there f (suc p.pc + 1) q.pc (omega (arith, first.next, second.next)) quiet.within in
    word later (turn_is s q.pc is_function first quiet later ∙ set_list_turn f p.pc q.pc t n 0 s before items given all above behind there are listed next_is) here

pub list_later : (g : Fn) (small : Bool) (t n block : ℕ) (p q : Spot) → SetListBy small g t n block p q → p.pc < q.pc
list_later g true t n block p q at = omega (arith, at.next)
list_later g false t n block p q at = let first = at.first_at in let second = at.second_at in omega (arith, first.next, second.next)

pub list_if_forward : (g : Fn) (some : Bool) (t n done : ℕ) (p q : Spot) → SetListIf some g t n done p q → p.pc ≤ q.pc
list_if_forward g true t n done p q at = let block = (done - 1) / 50 + 1 in omega (arith, list_later g (nat_le block 511) t n block p q at)
list_if_forward g false t n done p q at = omega (arith, at.pc)

-- no word of it makes a function
pub list_keeps : (g : Fn) (small : Bool) (t n block : ℕ) (p q : Spot) → SetListBy small g t n block p q → q.functions ≡ p.functions
list_keeps g true t n block p q at = at.functions
list_keeps g false t n block p q at = at.second_at.functions ∙ at.first_at.functions

pub list_if_keeps : (g : Fn) (some : Bool) (t n done : ℕ) (p q : Spot) → SetListIf some g t n done p q → q.functions ≡ p.functions
list_if_keeps g true t n done p q at = list_keeps g (nat_le ((done - 1) / 50 + 1) 511) t n ((done - 1) / 50 + 1) p q at
list_if_keeps g false t n done p q at = at.functions

pub list_ahead : {f : Function} {g : Fn} (small : Bool) (base t n block pending : ℕ) (p q : Spot) → IsFunction f g → SetListBy small g t n block p q → Ahead f base t pending p.pc q.pc
list_ahead {g = g} true base t n block pending p q is_function at = adds_list (instr_by p.pc (Piece.Abc Op.SetList t n block)) (instr_is is_function at (abc_is_read is_function at)) refl refl (list_later g true t n block p q at)
list_ahead {g = g} false base t n block pending p q is_function at =
    let first = at.first_at in adds_list (instr_by p.pc (Piece.Abc Op.SetList t n 0)) (instr_is is_function first (abc_is_read is_function first)) refl refl (list_later g false t n block p q at)

-- ---- operands of a SETTABLE

abbrev pub IsBounded : ((free x free1 : ℕ) → Stretch) → Type 0
IsBounded at = (free x free1 : ℕ) (p q : Spot) → at free x free1 p q → free1 ≡ free + 1 → x < 256

pub reaches_none : {f : Function} {pc last : ℕ} {s behind : Situation} → Reaches f pc s last behind → pc ≡ last → behind ≡ s
reaches_none here same = refl
reaches_none (word later turn rest) same = let on = reaches_on rest in absurd (omega arith)

-- an operand with no words is a local or a constant
pub no_words : {f : Function} {g : Fn} {active : List Active} {listed : List ℕ} {Is : Counted OperandValue} {deep : ℕ} {at : (free x free1 : ℕ) → Stretch} → ReadsOperand f g active listed Is deep at →
    (free x free1 : ℕ) (p q : Spot) (s : Situation) → HasLocals active listed s →
    s.base < free → q.pc ≤ f.last → at free x free1 p q → p.pc ≡ q.pc → (free1 ≡ free) × (is_temporary s.base x ≡ false)
no_words {f} {active = active} {listed = listed} {Is} {deep} reads free x free1 p q s locals above within at same = of_kept come.kept
  where
    u : Situation
    u = with_entries (more (free - s.base) held_entry) s

    come : OperandComes f (Is p.functions q.functions) deep u free x free1 p.pc q.pc
    come =
        let count = held_count (free - s.base) in
        reads.comes free x free1 p q u (record { base = locals.base; places = locals.places }) (omega (arith, count, above)) (quiet_nowhere within same)
        (λ is is_next. wanted_above f u q.pc (omega (arith, count, above))) at

    of_kept : ((come.more ≡ []) × (is_temporary s.base x ≡ false)) ⊎ ((entry : EntryValue) × (v : Value) × (come.more ≡ entry ∷ []) × (single_of entry ≡ Some v) × (x ≡ free)) → (free1 ≡ free) × (is_temporary s.base x ≡ false)
    of_kept (inl (none, not)) = (omega (arith, come.counts, ap (λ (some : Entries). length some) none), not)
    of_kept (inr (entry, v, one, single, is)) =
        let size = ap (λ (s : Situation). length s.entries) (reaches_none come.reaches same) in
        absurd (omega (arith, size, length-append u.entries come.more, ap (λ (some : Entries). length some) one))

is_kept : {f : Function} {Is : OperandValue → Type 0} {deep free x free1 first last : ℕ} {s : Situation} (one : OperandComes f Is deep s free x free1 first last) → (free1 ≡ free + 1 → x < 256) → IsKept s.base free x one.more
is_kept {free = free} {x} {free1} {s = s} one small = of_kept one.kept
  where
    of_kept : ((one.more ≡ []) × (is_temporary s.base x ≡ false)) ⊎ ((entry : EntryValue) × (v : Value) × (one.more ≡ entry ∷ []) × (single_of entry ≡ Some v) × (x ≡ free)) → IsKept s.base free x one.more
    of_kept (inl none) = inl none
    of_kept (inr (entry, v, is, single, next)) = inr (entry, v, is, single, next, small (omega (arith, one.counts, ap (λ (some : Entries). length some) is)))

module _ {f : Function} {Key Item : OperandValue → Type 0} {deep free x free1 y free2 first mid last : ℕ} {s : Situation} (one : OperandComes f Key deep s free x free1 first mid) (two : OperandComes f Item deep (behind_operand one) free1 y free2 mid last) where
  -- ---- SETTABLE

  -- the word is an item of the constructor below what is held and pending
  pub keyed_turn : (pc t : ℕ) (before : Entries) (items : ItemList) (above behind : Entries) (pending ending : ℕ) → free ≡ next_free s → t ≡ s.base + length before → s.entries ≡ before ++ maker_entry items false ∷ above → pending ≡ length above →
      with_keyed (length before) one.operand two.operand s.entries ≡ Some behind → Ahead f s.base t pending (suc pc) ending →
      (suc pc < ending → all_stay f two.scope (suc pc) ≡ true) → IsWantedAt f s.base (length before) ending two.scope → (free1 ≡ free + 1 → x < 256) → (free2 ≡ free1 + 1 → y < 256) →
      turn_of f (behind_operand two) (word_of pc (Piece.Abc Op.SetTable t x y)) ≡ Some (on (suc pc), record s { scope = two.scope; entries = behind; seen = taken_behind_operand two.operand (taken_behind_operand one.operand s.seen) })
  keyed_turn pc t before items above behind pending ending next at are counts given_is ahead stays wanted small small_two =
      let w = word_of pc (Piece.Abc Op.SetTable t x y) in
      let place = length before in
      let n = max (max two.seen (counted x)) (counted y) in
      let u = with_seen n (behind_operand two) in
      let height : length s.entries ≡ suc (place + pending) = ap (λ (entries : Entries). length entries) are ∙ omega (arith, length-append before (maker_entry items false ∷ above), counts) in
      let all : u.entries ≡ before ++ maker_entry items false ∷ (above ++ (one.more ++ two.more)) =
      ap (λ entries. (entries ++ one.more) ++ two.more) are ∙ append_assoc (before ++ maker_entry items false ∷ above) one.more two.more ∙ append_assoc before (maker_entry items false ∷ above) (one.more ++ two.more) in
      let found = maker_found s.base t before items false (above ++ (one.more ++ two.more)) u.entries at all in
      let below = below_both s.base place x free y free1 w.instr s.entries one.more two.more u.entries refl refl (is_kept one small) (is_kept two small_two) next one.counts (omega (arith, height)) refl in
      let item_is : is_item f w u ≡ true =
      ap (is_item_at f w u) found ∙ ap (is_item_of_height f w u place) below ∙ item_below pending place (length s.entries) w u ahead stays at refl refl height wanted in
      let turns : Option (Did × Situation) → Option (Turn × Situation) = option_and_then (λ (p : Did × Situation). turned f w p.1 p.0) in
      ap (λ u. turns (read_word f w u)) (seen_with_both x y (behind_operand two))
      ∙ ap (λ is. turns (if not is then option_map as_end (assignment_from f w u) else value_as Op.SetTable f w u)) item_is
      ∙ ap (λ found. turns (item_at f w u found)) found
      ∙ ap (λ popped. turns (option_and_then (λ (item : OperandValue × Situation). option_and_then (item_of w place item.0) (pop_operand f x item.1)) popped)) (second_popped one two n next)
      ∙ ap (λ popped. turns (option_and_then (item_of w place two.operand) popped)) (first_popped one two n next)
      ∙ ap (λ entries. turns (gone (suc pc) (option_map (λ es. record s { scope = two.scope; entries = es; seen = n }) entries))) given_is
      ∙ ap (λ n. Some (on (suc pc), record s { scope = two.scope; entries = behind; seen = n })) (both_taken one two)

-- the constructor has the item of these operands more, and so many registers above it are held
abbrev pub behind_keyed : {f : Function} {Key Item : OperandValue → Type 0} {deep free x free1 y free2 first mid last : ℕ} {s : Situation} (one : OperandComes f Key deep s free x free1 first mid) →
    OperandComes f Item deep (behind_operand one) free1 y free2 mid last → (before : Entries) → (given : ItemList) →
    (held : ℕ) → Situation
behind_keyed {s = s} one two before given held =
    record s { scope = two.scope; entries = with_maker before (join_items given (and_keyed one.operand two.operand no_items)) held []; seen = taken_behind_operand two.operand (taken_behind_operand one.operand s.seen) }

-- ---- the situation between items

pub no_pending : (n : ℕ) → nat_lt 0 n ≡ false → n ≡ 0
no_pending n is = grind (arith, nat_tests)

pub is_full : (n : ℕ) → (n == 50) ≡ true → n ≡ 50
is_full n is = grind (arith, nat_tests)

-- these entries stand below the constructor in the register t; these are its items, the last ones of which are pending, so many with those that are held
pub record Making (active : List Active) (listed : List ℕ) (s : Situation) (before : Entries) (t : ℕ) (given : ItemList) (pending : ℕ) : Type 0 where
  pub items : ItemList
  pub held : ℕ
  pub entries : Entries
  pub vs : Values
  pub is : s.entries ≡ with_maker before items held entries
  pub are : AreEntries entries vs
  pub counts : pending ≡ held + length entries
  pub together : given ≡ join_items items (positional_items vs)
  pub at : t ≡ s.base + length before
  pub locals : HasLocals active listed s

pub making_next : {active : List Active} {listed : List ℕ} {s : Situation} {before : Entries} {t : ℕ} {given : ItemList} {pending : ℕ} → Making active listed s before t given pending → t + suc pending ≡ next_free s
making_next {before = before} making =
    omega (arith, making.at, making.counts, ap (λ (entries : Entries). length entries) making.is, height_of before making.items making.held making.entries)

-- the words of the items that are left come to the constructor with them
pub record ItemsCome (f : Function) (Are : Items) (deep : ℕ) (s : Situation) (before : Entries) (given : ItemList) (first last : ℕ) : Type 0 where
  pub items : ItemList
  pub all : Bool
  pub are : Are items all
  pub shallow : deepest_item items ≤ 2 * deep
  pub scope : Scope
  pub same : SameLocals s.scope scope
  pub seen : ℕ
  pub taken : taken_behind_items items s.seen ≡ seen
  pub reaches : Reaches f first s last (record s { scope = scope; entries = before ++ maker_entry (join_items given items) all ∷ []; seen = seen })

pub wanted_same : (f : Function) (base place last : ℕ) {scope behind : Scope} → SameLocals scope behind → IsWantedAt f base place last scope → IsWantedAt f base place last behind
wanted_same f base place last same (inl above) = inl above
wanted_same f base place last same (inr (inl starts)) =
    inr (inl (subst (λ (n : ℕ). 0 < n) (sym (starting_same f.of.locals last same)) starts))
wanted_same f base place last same (inr (inr wanted)) = inr (inr (lowest_same f base last same ∙ wanted))

-- ---- no item is left

pub none_pending : {active : List Active} {listed : List ℕ} {s : Situation} {before : Entries} {t : ℕ} {given : ItemList} → Making active listed s before t given 0 → s.entries ≡ before ++ maker_entry (join_items given no_items) false ∷ []
none_pending {s = s} {before} {given = given} making = making.is ∙ of_none making.held making.entries making.vs making.are making.counts making.together
  where
    of_none : (held : ℕ) (entries : Entries) (vs : Values) → AreEntries entries vs → 0 ≡ held + length entries → given ≡ join_items making.items (positional_items vs) →
        with_maker before making.items held entries ≡ before ++ maker_entry (join_items given no_items) false ∷ []
    of_none zero [] vs are counts together =
        let none = same_Some no_values vs are in
        ap (λ items. before ++ maker_entry items false ∷ []) (sym (join_none given ∙ together ∙ ap (λ vs. join_items making.items (positional_items vs)) (sym none) ∙ join_none making.items))
    of_none zero (entry ∷ entries) vs are counts together = absurd (omega (arith, counts))
    of_none (suc held) entries vs are counts together = absurd (omega (arith, counts))

-- ---- values behind those that are pending

pub and_last_entry : (entries : Entries) (vs : Values) (entry : EntryValue) (v : Value) → AreEntries entries vs → single_of entry ≡ Some v → AreEntries (entries ++ entry ∷ []) (and_last_value vs v)
and_last_entry [] vs entry v are single =
    let none = same_Some no_values vs are in
    ap (λ single. before_values single (Some no_values)) single ∙ ap (λ vs. Some (and_last_value vs v)) none
and_last_entry (one ∷ entries) vs entry v are single =
    let all = before_some (single_of one) (singles_of entries) vs are in
    more_entries one (entries ++ entry ∷ []) all.0 (and_last_value all.1 v) all.2 (and_last_entry entries all.1 entry v all.3 single)
    ∙ ap (λ vs. Some (and_last_value vs v)) all.4

positional_last : (vs : Values) (v : Value) → positional_items (and_last_value vs v) ≡ join_items (positional_items vs) (and_positional v no_items)
positional_last no_values v = refl
positional_last (values.and_value w vs) v = ap (and_positional w) (positional_last vs v)

pub making_more : {active : List Active} {listed : List ℕ} {s : Situation} {before : Entries} {t : ℕ} {given : ItemList} {pending : ℕ} (making : Making active listed s before t given pending)
    (entry : EntryValue) (v : Value) (scope : Scope) (seen : ℕ) → single_of entry ≡ Some v →
    SameLocals s.scope scope → Making active listed (behind_words scope seen (entry ∷ []) s) before t (join_items given (and_positional v no_items)) (suc pending)
making_more {s = s} {before} {given = given} making entry v scope seen single same =
    let low = maker_entry making.items false ∷ (more making.held held_entry ++ making.entries) in
    record {
      items = making.items;
      held = making.held;
      entries = making.entries ++ entry ∷ [];
      vs = and_last_value making.vs v;
      is =
          ap (λ entries. entries ++ entry ∷ []) making.is ∙ append_assoc before low (entry ∷ [])
          ∙ ap (λ rest. before ++ maker_entry making.items false ∷ rest) (append_assoc (more making.held held_entry) making.entries (entry ∷ []));
      are = and_last_entry making.entries making.vs entry v making.are single;
      counts = omega (arith, making.counts, length-append making.entries (entry ∷ []));
      together =
          ap (λ given. join_items given (and_positional v no_items)) making.together ∙ join_assoc making.items (positional_items making.vs) (and_positional v no_items)
          ∙ ap (join_items making.items) (sym (positional_last making.vs v));
      at = making.at;
      locals = record { base = making.locals.base; places = same.active ∙ making.locals.places };
    }

-- all that were pending are items, and their registers are held or free
pub making_held : {active : List Active} {listed : List ℕ} {s : Situation} {before : Entries} {t : ℕ} {given : ItemList} {pending : ℕ} (making : Making active listed s before t given pending) (behind : Situation) (held : ℕ) →
    behind.base ≡ s.base → SameLocals s.scope behind.scope → (after : ItemList) →
    behind.entries ≡ with_maker before after held [] → Making active listed behind before t after held
making_held making behind held base same after is = record {
  items = after;
  held = held;
  entries = [];
  vs = no_values;
  is = is;
  are = refl;
  counts = omega arith;
  together = sym (join_none after);
  at = omega (arith, making.at, base);
  locals = record { base = base ∙ making.locals.base; places = same.active ∙ making.locals.places };
}

-- ---- operands come to registers that a word can name

operand_small : (g : Fn) (active : List Active) (e : Expression) → g.size ≤ 250 → (o : Option ℕ) (free x free1 : ℕ) (p q : Spot) → OperandBy o g active (related g e) free x free1 p q → free1 ≡ free + 1 → x < 256
operand_small g active e few (Some r) free x free1 p q at next = absurd (omega (arith, at.at_free, next))
operand_small g active e few None free x free1 p q at next = omega (arith, at.at_x, at.room, few)

rk_by_small : (g : Fn) (active : List Active) (e : Expression) → g.size ≤ 250 → (o : Option Constant) (free x free1 : ℕ) (p q : Spot) → RkBy o g active (related g e) free x free1 p q → free1 ≡ free + 1 → x < 256
rk_by_small g active e few (Some k) free x free1 p q (inl at) next = absurd (omega (arith, at.at_free, next))
rk_by_small g active e few (Some k) free x free1 p q (inr (large, at)) next = operand_small g active e few (local_at (related g e).form active p) free x free1 p q at next
rk_by_small g active e few None free x free1 p q at next = operand_small g active e few (local_at (related g e).form active p) free x free1 p q at next

pub rk_small : (g : Fn) (active : List Active) (e : Expression) → g.size ≤ 250 → IsBounded (RkAt g active (related g e))
rk_small g active e few free x free1 p q at next = rk_by_small g active e few (related g e).form.literal free x free1 p q at next

pub text_small : (g : Fn) (text : Text) → g.size ≤ 250 → IsBounded (RkTextAt g text)
text_small g text few free x free1 p q (inl at) next = absurd (omega (arith, at.at_free, next))
text_small g text few free x free1 p q (inr (large, at)) next = omega (arith, at.at_x, at.room, few)
