-- What stands in the registers while the items of a constructor are read: it, held registers of values that are items by now, and pending values that are not.
use Rattle.std.proofs.Common.{◌≡◌, ◌⊎◌, ℕ, zero, suc, ◌+◌, ◌-◌, ◌<◌, ◌≤◌, nat_lt, nat_le, Bool, true, false, List, [], ◌∷◌, ◌++◌, length, length-append, append-nil, append_assoc, take, drop, Option, Some, None, refl, sym, ap, ap₂, ◌∙◌, arith, lt-ltb, le-leb, eq-eqb, inl, inr}
use Rattle.std.specs.Prelude.{option_map, option_and_then, slice_get, slice_set, if◌then◌else◌, ◌==◌, ◌&&◌, ◌||◌, not}
use Rattle.std.proofs.lemmas.Bool.Decides.{nat_tests}
use Rattle.std.proofs.lemmas.Option.{same_Some}
use Rattle.opcode.specs.declared.op.Op.{Op}
use Rattle.opcode.specs.declared.word.Instr.{Instr}
use Rattle.core_expr.specs.Values.{Value, Values, no_values, and_value, OperandValue, ItemList, no_items, and_positional, and_keyed}
use Rattle.recover_expr.specs.Constructors.{maker_at, hold_items, hold_from, hold_next, with_keyed, list_items, open_list}
use Rattle.recover_expr.specs.Effects.{makes_value, reads_from, reads_as, reads_operands}
use Rattle.recover_expr.specs.Entries.{Entries, EntryValue, value_entry, maker_entry, held_entry, single_of, singles_of, is_held, any_held, up_to_held, behind_held, held_at, join_items, with_items, with_items_at, more, open_entry, opened, opened_at, take_open, method_entry, missing_entry, more_entry, is_at, is_maker, is_single, is_place, is_temporary, place_in}
use Rattle.recover_expr.specs.Items.{below_top, below_operand, below_operands, is_so, stores_as, stores_next, stores_alone, is_read_behind, wants, is_wanted, is_item_below, all_stay, makes_above}
use Rattle.recover_expr.specs.Locals.{Scope, starting}
use Rattle.recover_expr.specs.Situation.{Function, Situation, instr_at}
use Rattle.recover_expr.specs.declared.function.Word.{Word}
use Rattle.reads_back.proofs.Comes.{AreEntries, Begins, wants_lowest}
use Rattle.reads_back.proofs.TakenEntries.{at_place, before_some, open_taken}
use Rattle.reads_back.proofs.Tests.{both_hold, or_first, or_second}
use Rattle.reads_back.proofs.ValueWords.{place_of_next}
use Rattle.reads_back.proofs.WordsBegin.{begins_same, begins_above, begins_far}

-- ---- lists

pub set_place : {A : Type 0} (before : List A) (x y : A) (behind : List A) → slice_set (before ++ x ∷ behind) (length before) y ≡ before ++ y ∷ behind
set_place [] x y behind = refl
set_place (z ∷ before) x y behind = ap (λ rest. z ∷ rest) (set_place before x y behind)

drop_behind : {A : Type 0} (before : List A) (x : A) (behind : List A) → drop (suc (length before)) (before ++ x ∷ behind) ≡ behind
drop_behind [] x behind = refl
drop_behind (y ∷ before) x behind = drop_behind before x behind

pub take_up_to : {A : Type 0} (before : List A) (x : A) (behind : List A) → take (suc (length before)) (before ++ x ∷ behind) ≡ before ++ x ∷ []
take_up_to [] x behind = refl
take_up_to (y ∷ before) x behind = ap (λ rest. y ∷ rest) (take_up_to before x behind)

pub not_none : (n : ℕ) → 0 < n → (n == 0) ≡ false
not_none n some = grind (arith, nat_tests)

pub not_lower : (m n : ℕ) → n ≤ m → nat_lt m n ≡ false
not_lower m n above = grind (arith, nat_tests)

-- ---- items

abbrev pub positional_items : Values → ItemList
positional_items no_values = no_items
positional_items (and_value v rest) = and_positional v (positional_items rest)

pub join_none : (items : ItemList) → join_items items no_items ≡ items
join_none no_items = refl
join_none (and_positional v rest) = ap (and_positional v) (join_none rest)
join_none (and_keyed key item rest) = ap (and_keyed key item) (join_none rest)

pub join_assoc : (items some last : ItemList) → join_items (join_items items some) last ≡ join_items items (join_items some last)
join_assoc no_items some last = refl
join_assoc (and_positional v rest) some last = ap (and_positional v) (join_assoc rest some last)
join_assoc (and_keyed key item rest) some last = ap (and_keyed key item) (join_assoc rest some last)

-- ---- the constructor, and what stands above it

abbrev pub with_maker : (before : Entries) → ItemList → (held : ℕ) → (pending : Entries) → Entries
with_maker before items held pending = before ++ maker_entry items false ∷ (more held held_entry ++ pending)

pub held_count : (n : ℕ) → length (more n held_entry) ≡ n
held_count zero = refl
held_count (suc n) = ap suc (held_count n)

pub height_of : (before : Entries) (items : ItemList) (held : ℕ) (pending : Entries) → length (with_maker before items held pending) ≡ suc (length before + (held + length pending))
height_of before items held pending =
    omega (arith, length-append before (maker_entry items false ∷ (more held held_entry ++ pending)), length-append (more held held_entry) pending, held_count held)

held_more : (n : ℕ) (entries : Entries) → more n held_entry ++ held_entry ∷ entries ≡ more (suc n) held_entry ++ entries
held_more zero entries = refl
held_more (suc n) entries = ap (λ rest. held_entry ∷ rest) (held_more n entries)

-- ---- none that is a value is held

single_not_held : (entry : EntryValue) (v : Value) → single_of entry ≡ Some v → is_held entry ≡ false
single_not_held held_entry v is = cc
single_not_held entry v is = refl

none_held : (entries : Entries) (vs : Values) → AreEntries entries vs → any_held entries ≡ false
none_held [] vs are = refl
none_held (entry ∷ entries) vs are =
    let all = before_some (single_of entry) (singles_of entries) vs are in
    ap (λ held. if held then true else any_held entries) (single_not_held entry all.0 all.2) ∙ none_held entries all.1 all.3

none_up : (entries : Entries) → any_held entries ≡ false → up_to_held entries ≡ 0
none_up [] none = refl
none_up (entry ∷ entries) none = ap (λ any. if any then suc (up_to_held entries) else 0) none

up_to_pending : (held : ℕ) (pending : Entries) → any_held pending ≡ false → up_to_held (more held held_entry ++ pending) ≡ held
up_to_pending zero pending none = none_up pending none
up_to_pending (suc held) pending none = ap suc (up_to_pending held pending none)

-- ---- pending values become items

maker_given : (before : Entries) (items last : ItemList) (behind : Entries) → with_items (length before) last (before ++ maker_entry items false ∷ behind) ≡ Some (before ++ maker_entry (join_items items last) false ∷ behind)
maker_given before items last behind =
    let entries = before ++ maker_entry items false ∷ behind in
    ap (with_items_at (length before) last entries) (at_place before (maker_entry items false) behind)
    ∙ ap Some (set_place before (maker_entry items false) (maker_entry (join_items items last) false) behind)

-- the next pending value is held, and an item
one_held : (before : Entries) (items : ItemList) (held : ℕ) (entry : EntryValue) (pending : Entries) (v : Value) (at : ℕ) → single_of entry ≡ Some v → at ≡ suc (length before + held) →
    hold_next (length before) at (with_maker before items held (entry ∷ pending)) ≡ Some (with_maker before (join_items items (and_positional v no_items)) (suc held) pending)
one_held before items held entry pending v at single is =
    let low = before ++ maker_entry items false ∷ more held held_entry in
    let entries = with_maker before items held (entry ∷ pending) in
    let parts = append_assoc before (maker_entry items false ∷ more held held_entry) (entry ∷ pending) in
    let size : at ≡ length low = omega (arith, is, length-append before (maker_entry items false ∷ more held held_entry), held_count held) in
    let there : slice_get entries at ≡ Some entry = ap₂ (λ (entries : Entries) (n : ℕ). slice_get entries n) (sym parts) size ∙ at_place low entry pending in
    let behind : slice_set entries at held_entry ≡ with_maker before items (suc held) pending =
    ap₂ (λ (entries : Entries) (n : ℕ). slice_set entries n held_entry) (sym parts) size
    ∙ set_place low entry held_entry pending
    ∙ append_assoc before (maker_entry items false ∷ more held held_entry) (held_entry ∷ pending)
    ∙ ap (λ rest. before ++ maker_entry items false ∷ rest) (held_more held pending) in
    let gives : (Value × Entries) → Option Entries = λ p. with_items (length before) (and_positional p.0 no_items) p.1 in
    ap (λ there. option_and_then gives (held_at at entries there)) there
    ∙ ap (λ single. option_and_then gives (option_map (λ v. (v, slice_set entries at held_entry)) single)) single
    ∙ ap (with_items (length before) (and_positional v no_items)) behind
    ∙ maker_given before items (and_positional v no_items) (more (suc held) held_entry ++ pending)

held_from : (before : Entries) (items : ItemList) (held : ℕ) (pending : Entries) (vs : Values) (at : ℕ) → AreEntries pending vs → at ≡ suc (length before + held) →
    hold_from (length before) (length pending) at (with_maker before items held pending) ≡ Some (with_maker before (join_items items (positional_items vs)) (held + length pending) [])
held_from before items held [] vs at are is =
    let none = same_Some no_values vs are in
    let same : held ≡ held + 0 = omega arith in
    ap₂ (λ (items : ItemList) (n : ℕ). Some (with_maker before items n [])) (sym (join_none items) ∙ ap (λ vs. join_items items (positional_items vs)) none) same
held_from before items held (entry ∷ pending) vs at are is =
    let all = before_some (single_of entry) (singles_of pending) vs are in
    let same : suc held + length pending ≡ held + suc (length pending) = omega arith in
    ap (option_and_then (hold_from (length before) (length pending) (suc at))) (one_held before items held entry pending all.0 at all.2 is)
    ∙ held_from before (join_items items (and_positional all.0 no_items)) (suc held) pending all.1 (suc at) all.3 (omega (arith, is))
    ∙ ap₂ (λ (items : ItemList) (n : ℕ). Some (with_maker before items n [])) (join_assoc items (and_positional all.0 no_items) (positional_items all.1) ∙ ap (λ vs. join_items items (positional_items vs)) all.4) same

-- all that are pending
all_held : (before : Entries) (items : ItemList) (held : ℕ) (pending : Entries) (vs : Values) → AreEntries pending vs →
    hold_items (length before) (with_maker before items held pending) ≡ Some (with_maker before (join_items items (positional_items vs)) (held + length pending) [])
all_held before items held pending vs are =
    let entries = with_maker before items held pending in
    let place = length before in
    let above = more held held_entry ++ pending in
    let from : behind_held place entries ≡ suc (place + held) =
    ap (λ rest. suc place + up_to_held rest) (drop_behind before (maker_entry items false) above) ∙ ap (λ n. suc place + n) (up_to_pending held pending (none_held pending vs are)) ∙ omega arith in
    let count : length entries - behind_held place entries ≡ length pending = omega (arith, from, height_of before items held pending) in
    ap (λ n. hold_from place n (behind_held place entries) entries) count
    ∙ held_from before items held pending vs (behind_held place entries) are from

-- ---- an item with a key

pub keyed_held : (before : Entries) (items : ItemList) (held : ℕ) (pending : Entries) (vs : Values) (key item : OperandValue) → AreEntries pending vs →
    with_keyed (length before) key item (with_maker before items held pending) ≡ Some (with_maker before (join_items (join_items items (positional_items vs)) (and_keyed key item no_items)) (held + length pending) [])
keyed_held before items held pending vs key item are =
    ap (option_and_then (with_items (length before) (and_keyed key item no_items))) (all_held before items held pending vs are)
    ∙ maker_given before (join_items items (positional_items vs)) (and_keyed key item no_items) (more (held + length pending) held_entry ++ [])

-- ---- a list of items

-- the field counts them
pub some_listed : (before : Entries) (items : ItemList) (held : ℕ) (pending : Entries) (vs : Values) (field : ℕ) → AreEntries pending vs → 0 < field → field ≡ held + length pending →
    list_items (length before) field (with_maker before items held pending) ≡ Some (with_maker before (join_items items (positional_items vs)) (held + length pending) [])
some_listed before items held pending vs field are some counts =
    let entries = with_maker before items held pending in
    let place = length before in
    let height = height_of before items held pending in
    let fits = both_hold _ _ (le-leb (place + 1) (length entries) (omega (arith, height))) (eq-eqb (length entries - (place + 1)) field (omega (arith, height, counts))) in
    ap (λ none. if none then option_and_then (open_list place) (take_open entries) else if nat_le (place + 1) (length entries) && (length entries - (place + 1) == field) then hold_items place entries else None) (not_none field some)
    ∙ ap (λ fits. if fits then hold_items place entries else None) fits
    ∙ all_held before items held pending vs are

-- the last one gives all its values
pub open_listed : (before : Entries) (items : ItemList) (held : ℕ) (pending : Entries) (vs : Values) (v : Value) → AreEntries pending vs →
    list_items (length before) 0 (with_maker before items held pending ++ open_entry v ∷ []) ≡
    Some (before ++ maker_entry (join_items (join_items items (positional_items vs)) (and_positional v no_items)) true ∷ (more (held + length pending) held_entry ++ []))
open_listed before items held pending vs v are =
    let place = length before in
    let last = and_positional v no_items in
    let given = join_items (join_items items (positional_items vs)) last in
    let behind = more (held + length pending) held_entry ++ [] in
    let all = before ++ maker_entry given false ∷ behind in
    ap (option_and_then (open_list place)) (open_taken (with_maker before items held pending) v)
    ∙ ap (λ entries. option_map (opened place) (option_and_then (with_items place last) entries)) (all_held before items held pending vs are)
    ∙ ap (option_map (opened place)) (maker_given before (join_items items (positional_items vs)) last behind)
    ∙ ap (λ there. Some (opened_at place all there)) (at_place before (maker_entry given false) behind)
    ∙ ap Some (set_place before (maker_entry given false) (maker_entry given true) behind)

-- ---- the constructor in a register

pub maker_found : (base a : ℕ) (before : Entries) (items : ItemList) (all : Bool) (behind entries : Entries) → a ≡ base + length before → entries ≡ before ++ maker_entry items all ∷ behind → maker_at entries (place_in base a) ≡ Some (length before)
maker_found base a before items all behind entries is are =
    let place = length before in
    ap (maker_at entries) (place_of_next base place a is)
    ∙ ap (λ there. if is_at is_maker there then Some place else None) (ap (λ entries. slice_get entries place) are ∙ at_place before (maker_entry items all) behind)

-- ---- how high the entries are without the operands of a SETTABLE

-- an operand is a local or a constant, or the single value in the next register
abbrev pub IsKept : (base free x : ℕ) → Entries → Type 0
IsKept base free x more = ((more ≡ []) × (is_temporary base x ≡ false)) ⊎ ((entry : EntryValue) × (v : Value) × (more ≡ entry ∷ []) × (single_of entry ≡ Some v) × (x ≡ free) × (x < 256))

pub single_is : (entry : EntryValue) (v : Value) → single_of entry ≡ Some v → is_single entry ≡ true
single_is (value_entry of) v is = refl
single_is (maker_entry items all) v is = refl
single_is more_entry v is = cc
single_is missing_entry v is = cc
single_is held_entry v is = cc
single_is (open_entry of) v is = cc
single_is (method_entry on name) v is = cc

below_one : (base place x free height : ℕ) (low some high entries : Entries) → IsKept base free x some → free ≡ base + length low → place < length low → entries ≡ low ++ (some ++ high) → height ≡ length low + length some →
    below_operand base place x entries height ≡ Some (length low)
below_one base place x free height low some high entries (inl (none, not)) next above are counts =
    let same : height ≡ length low = omega (arith, counts, ap (λ (some : Entries). length some) none) in
    ap (λ top. if top then below_top base place x entries height else Some height) not ∙ ap Some same
below_one base place x free height low some high entries (inr (entry, v, one, single, at, small)) next above are counts =
    let top : height - 1 ≡ length low = omega (arith, counts, ap (λ (some : Entries). length some) one) in
    let temporary = both_hold _ _ (le-leb base x (omega (arith, at, next))) (lt-ltb x 256 small) in
    let there : slice_get entries (height - 1) ≡ Some entry =
    ap₂ (λ (entries : Entries) (n : ℕ). slice_get entries n) (are ∙ ap (λ some. low ++ (some ++ high)) one) top ∙ at_place low entry high in
    let some_high : nat_lt 0 height ≡ true = lt-ltb 0 height (omega (arith, top, above)) in
    let in_place : is_place (place_in base x) (height - 1) ≡ true = ap (λ place. is_place place (height - 1)) (place_of_next base (length low) x (omega (arith, at, next))) ∙ eq-eqb (length low) (height - 1) (sym top) in
    let is = ap (is_at is_single) there ∙ single_is entry v single in
    let higher : nat_lt place (height - 1) ≡ true = lt-ltb place (height - 1) (omega (arith, top, above)) in
    ap (λ top. if top then below_top base place x entries height else Some height) temporary
    ∙ ap (λ there. if there then Some (height - 1) else None) (both_hold _ _ some_high (both_hold _ _ in_place (both_hold _ _ is higher)))
    ∙ ap Some top

pub below_both : (base place x free y free1 : ℕ) (i : Instr) (low one two entries : Entries) → i.b ≡ x → i.c ≡ y → IsKept base free x one → IsKept base free1 y two → free ≡ base + length low → free1 ≡ free + length one → place < length low →
    entries ≡ (low ++ one) ++ two → below_operands base place i entries ≡ Some (length low)
below_both base place x free y free1 i low one two entries is_x is_y kept kept_two next next_two above are =
    let height : length (low ++ one) ≡ length low + length one = length-append low one in
    ap₂ (λ (x y : ℕ). option_and_then (below_operand base place x entries) (below_operand base place y entries (length entries))) is_x is_y
    ∙ ap (option_and_then (below_operand base place x entries))
    (below_one base place y free1 (length entries) (low ++ one) two [] entries kept_two (omega (arith, next, next_two, height)) (omega (arith, above, height))
    (are ∙ ap (λ two. (low ++ one) ++ two) (sym (append-nil two))) (ap (λ (entries : Entries). length entries) are ∙ length-append (low ++ one) two))
    ∙ below_one base place x free (length (low ++ one)) low one two entries kept next above (are ∙ append_assoc low one two) height

-- ---- which word is the next one

-- in a constructor in the register t, with so many pending: it begins a value above them, adds an item whose value is no temporary, or adds a list; or the constructor ends
pub data Ahead (f : Function) (base t pending pc last : ℕ) : Type 0 where
  begins_value : Begins f (suc (t + pending)) pc → pc < last → Ahead f base t pending pc last
  adds_item : (i : Instr) → instr_at f pc ≡ Some i → i.op ≡ Op.SetTable → i.a ≡ t → is_temporary base i.c ≡ false → pc < last → Ahead f base t pending pc last
  adds_list : (i : Instr) → instr_at f pc ≡ Some i → i.op ≡ Op.SetList → i.a ≡ t → pc < last → Ahead f base t pending pc last
  ends_here : pending ≡ 0 → pc ≡ last → Ahead f base t pending pc last

makes_no_store : (op : Op) (i : Instr) (base : ℕ) → makes_value op ≡ true → base ≤ i.a → stores_as op i base ≡ false
makes_no_store Op.SetGlobal i base makes above = cc
makes_no_store Op.SetUpval i base makes above = cc
makes_no_store Op.SetTable i base makes above = cc
makes_no_store Op.Move i base makes above = not_lower i.a base above
makes_no_store op i base makes above = refl

-- the word stores nothing of the statement
none_stored : {f : Function} {base t pending pc last : ℕ} → Ahead f base t pending pc last → base ≤ t → 0 < pending → stores_next f base pc ≡ false
none_stored {f} {base} (begins_value at later) above some =
    let i = at.instr in ap (is_so (λ i. stores_as i.op i base)) at.there ∙ makes_no_store i.op i base at.makes (omega (arith, begins_above at, above))
none_stored {f} {base} (adds_item i there op a not later) above some = ap (is_so (λ i. stores_as i.op i base)) there ∙ ap (λ op. stores_as op i base) op ∙ not
none_stored {f} {base} (adds_list i there op a later) above some = ap (is_so (λ i. stores_as i.op i base)) there ∙ ap (λ op. stores_as op i base) op
none_stored (ends_here none at) above some = absurd (omega (arith, none, some))

-- ---- a SETTABLE is an item

-- what comes to a place is not the lowest of the statement, or a local starts at a pc, or the word there wants it
abbrev pub IsWantedAt : Function → (base place last : ℕ) → Scope → Type 0
IsWantedAt f base place last scope = (0 < place) ⊎ (0 < starting f.of.locals last scope) ⊎ (is_so (wants_lowest f scope base last) (instr_at f last) ≡ true)

-- a word that is behind this one wants what is in its register, where that is the lowest
pub wants_as_lowest : (f : Function) (scope : Scope) (base last : ℕ) (w : Word) (there : Option Instr) → w.instr.a ≡ base → w.next ≡ last → is_so (wants f scope base w) there ≡ is_so (wants_lowest f scope base last) there
wants_as_lowest f scope base last w there a next =
    ap₂ (λ (a pc : ℕ). is_so (λ i. all_stay f scope pc && (reads_from i base || (makes_above f a pc i || (stores_alone i base && is_read_behind f base pc i)))) there) a next

wants_begun : (f : Function) (scope : Scope) (base : ℕ) (w : Word) (i : Instr) → all_stay f scope w.next ≡ true → makes_above f w.instr.a w.next i ≡ true → wants f scope base w i ≡ true
wants_begun f scope base w i stay makes =
    let stores = stores_alone i base && is_read_behind f base w.next i in
    both_hold _ _ stay (or_second (reads_from i base) _ (or_first _ stores makes))

wants_read : (f : Function) (scope : Scope) (base : ℕ) (w : Word) (i : Instr) → all_stay f scope w.next ≡ true → reads_from i base ≡ true → wants f scope base w i ≡ true
wants_read f scope base w i stay reads = both_hold _ _ stay (or_first (reads_from i base) _ reads)

wanted_next : {f : Function} {base t pc last : ℕ} (place : ℕ) (w : Word) (scope : Scope) → Ahead f base t 0 pc last → (pc < last → all_stay f scope pc ≡ true) → t ≡ base + place → w.instr.a ≡ t → w.next ≡ pc → IsWantedAt f base place last scope →
    (nat_lt 0 place || (nat_lt 0 (starting f.of.locals w.next scope) || is_wanted f scope base w)) ≡ true
wanted_next {f} {base} {t} {pc} {last} place w scope ahead stays is a next wanted = by ahead
  where
    -- what the next word wants
    by_word : (i : Instr) → instr_at f pc ≡ Some i → wants f scope base w i ≡ true → (nat_lt 0 place || (nat_lt 0 (starting f.of.locals w.next scope) || is_wanted f scope base w)) ≡ true
    by_word i there wants_it =
        or_second (nat_lt 0 place) _ (or_second (nat_lt 0 (starting f.of.locals w.next scope)) _
        (ap (λ pc. is_so (wants f scope base w) (instr_at f pc)) next ∙ ap (is_so (wants f scope base w)) there ∙ wants_it))

    stay : pc < last → all_stay f scope w.next ≡ true
    stay later = ap (all_stay f scope) next ∙ stays later

    at_end : (place : ℕ) → t ≡ base + place → pc ≡ last → IsWantedAt f base place last scope → (nat_lt 0 place || (nat_lt 0 (starting f.of.locals w.next scope) || is_wanted f scope base w)) ≡ true
    at_end place is at (inl above) = or_first (nat_lt 0 place) _ (lt-ltb 0 place above)
    at_end place is at (inr (inl starts)) =
        or_second (nat_lt 0 place) _ (or_first _ (is_wanted f scope base w) (ap (λ pc. nat_lt 0 (starting f.of.locals pc scope)) (next ∙ at) ∙ lt-ltb 0 _ starts))
    at_end zero is at (inr (inr wanted)) =
        or_second (nat_lt 0 0) _ (or_second (nat_lt 0 (starting f.of.locals w.next scope)) _
        (ap (λ pc. is_so (wants f scope base w) (instr_at f pc)) (next ∙ at) ∙ wants_as_lowest f scope base last w (instr_at f last) (omega (arith, a, is)) (next ∙ at) ∙ wanted))
    at_end (suc place) is at (inr (inr wanted)) = or_first (nat_lt 0 (suc place)) _ (lt-ltb 0 (suc place) (omega arith))

    by : Ahead f base t 0 pc last → (nat_lt 0 place || (nat_lt 0 (starting f.of.locals w.next scope) || is_wanted f scope base w)) ≡ true
    by (begins_value at later) =
        let begun : Begins f (w.instr.a + 1) pc = begins_same (omega (arith, a)) refl at in
        let makes : makes_above f w.instr.a w.next begun.instr ≡ true = ap (λ pc. makes_above f w.instr.a pc begun.instr) next ∙ begins_far w.instr.a pc begun in
        by_word begun.instr begun.there (wants_begun f scope base w begun.instr (stay later) makes)
    by (adds_item i there op at not later) =
        let reads = ap (λ op. reads_as op i base) op ∙ or_first (nat_le base i.a) (reads_operands Op.SetTable i base) (le-leb base i.a (omega (arith, at, is))) in
        by_word i there (wants_read f scope base w i (stay later) reads)
    by (adds_list i there op at later) =
        let reads = ap (λ op. reads_as op i base) op ∙ le-leb base i.a (omega (arith, at, is)) in
        by_word i there (wants_read f scope base w i (stay later) reads)
    by (ends_here none at) = at_end place is at wanted

pub item_below : {f : Function} {t pc last : ℕ} (pending place height : ℕ) (w : Word) (s : Situation) → Ahead f s.base t pending pc last → (pc < last → all_stay f s.scope pc ≡ true) →
    t ≡ s.base + place → w.instr.a ≡ t → w.next ≡ pc → height ≡ suc (place + pending) →
    IsWantedAt f s.base place last s.scope → is_item_below f w s place height ≡ true
item_below {f} zero place height w s ahead stays is a next high wanted =
    let stores = not (stores_next f s.base w.next) in
    let last = nat_lt 0 place || (nat_lt 0 (starting f.of.locals w.next s.scope) || is_wanted f s.scope s.base w) in
    ap (λ more. if more then stores else last) (not_lower (place + 1) height (omega (arith, high))) ∙ wanted_next place w s.scope ahead stays is a next wanted
item_below {f} (suc pending) place height w s ahead stays is a next high wanted =
    let stores = not (stores_next f s.base w.next) in
    let last = nat_lt 0 place || (nat_lt 0 (starting f.of.locals w.next s.scope) || is_wanted f s.scope s.base w) in
    ap (λ more. if more then stores else last) (lt-ltb (place + 1) height (omega (arith, high)))
    ∙ ap (λ pc. not (stores_next f s.base pc)) next
    ∙ ap (λ stores. not stores) (none_stored ahead (omega (arith, is)) (omega arith))
