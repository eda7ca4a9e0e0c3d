-- Where the lowest entry holds a function that captures its own register, it goes on to hold it, or it is in the values that are taken off.
use Rattle.std.proofs.Common.{◌≡◌, ℕ, zero, suc, ◌+◌, ◌-◌, ◌&&◌, Bool, true, false, nat_le, [], ◌∷◌, ◌++◌, length, Option, Some, None, refl, sym, ap, ◌∙◌, subst, arith}
use Rattle.std.proofs.Math.Bool.{or_assoc, or_comm}
use Rattle.std.specs.Prelude.{◌==◌, ◌||◌, drop, slice_get, take}
use Rattle.core_expr.specs.Values.{ItemList, OperandValue, Value, Values, and_keyed, and_positional, and_value, no_items, no_values}
use Rattle.recover_expr.specs.Constructors.{hold_from, hold_items, hold_next, list_items, open_list, with_keyed}
use Rattle.recover_expr.specs.Entries.{EntryValue, Entries, and_last_value, before_values, behind_held, held_at, hold, is_place, maker_entry, method_entry, open_entry, opened, opened_at, place_in, set_next, singles_of, singles_with, take_at, take_list, take_method, take_open, take_singles, up_to_held, value_entry, with_items, with_items_at}
use Rattle.reads_back.proofs.EachSome.{Each, each_if, each_map, each_none, each_some, each_then, each_there, each_where}
use Rattle.reads_back.proofs.OwnValues.{holds_own, values_own}
use Rattle.reads_back.proofs.Tests.{not_so, not_zero, or_second}

-- a function in it captures its own register; that of a constructor is a later one
abbrev pub entry_own : EntryValue → Bool
entry_own (value_entry v) = holds_own v
entry_own (open_entry v) = holds_own v
entry_own (method_entry v name) = holds_own v
entry_own entry = false

-- it is in the lowest entry; or, where there is none, this says whether it is elsewhere
abbrev pub own_in : (elsewhere : Bool) → Entries → Bool
own_in elsewhere [] = elsewhere
own_in elsewhere (entry ∷ entries) = entry_own entry

abbrev pub first_own : Entries → Bool
first_own entries = own_in false entries

pub own_still : (one other : Bool) (entries : Entries) → (one ≡ true → other ≡ true) → own_in one entries ≡ true → own_in other entries ≡ true
own_still one other [] still own = still own
own_still one other (entry ∷ entries) still own = own

pub own_alone : (elsewhere : Bool) (entries : Entries) → (length entries == 0) ≡ true → own_in elsewhere entries ≡ true → elsewhere ≡ true
own_alone elsewhere [] empty own = own
own_alone elsewhere (entry ∷ entries) empty own = not_so (sym (not_zero (length entries)) ∙ empty)

-- ---- values that are taken off

pub take_at_own : (elsewhere : Bool) (place : ℕ) (entries : Entries) → own_in elsewhere entries ≡ true → Each (λ p. own_in (elsewhere || holds_own p.0) p.1 ≡ true) (take_at place entries)
take_at_own elsewhere zero [] own = each_none
take_at_own elsewhere (suc place) [] own = each_none
take_at_own elsewhere zero (value_entry v ∷ []) own = each_some (or_second elsewhere (holds_own v) own)
take_at_own elsewhere zero (maker_entry items all ∷ []) own = not_so own
take_at_own elsewhere zero (entry ∷ []) own = each_none
take_at_own elsewhere zero (entry ∷ other ∷ entries) own = each_none
take_at_own elsewhere (suc place) (entry ∷ entries) own = each_map _ each_there (λ v is. own)

pub singles_own : (elsewhere : Bool) (entries : Entries) → own_in elsewhere entries ≡ true → Each (λ vs. (elsewhere || values_own vs) ≡ true) (singles_of entries)
singles_own elsewhere [] own = each_some (or_comm elsewhere false ∙ own)
singles_own elsewhere (maker_entry items all ∷ entries) own = not_so own
singles_own elsewhere (value_entry v ∷ entries) own = by (singles_of entries)
  where
    by : (rest : Option Values) → Each (λ vs. (elsewhere || values_own vs) ≡ true) (before_values (Some v) rest)
    by None = each_none
    by (Some vs) = each_some (or_second elsewhere (holds_own v || values_own vs) (ap (λ own. own || values_own vs) own))
singles_own elsewhere (entry ∷ entries) own = each_none

pub take_singles_own : (elsewhere : Bool) (first : ℕ) (entries : Entries) → own_in elsewhere entries ≡ true → Each (λ p. own_in (elsewhere || values_own p.0) p.1 ≡ true) (take_singles first entries)
take_singles_own elsewhere zero entries own = each_then {Holds = λ (p : Entries × Entries). p ≡ (entries, [])} (each_where (nat_le 0 (length entries)) (each_some refl)) (λ p is.
    subst (λ (p : Entries × Entries). Each (λ q. own_in (elsewhere || values_own q.0) q.1 ≡ true) (singles_with p)) (sym is) (each_map _ (singles_own elsewhere entries own) (λ vs is. is)))
take_singles_own elsewhere (suc first) [] own = each_then {Holds = λ (p : Entries × Entries). p ≡ ([], [])} (each_where (nat_le (suc first) 0) (each_some refl)) (λ p is.
    subst (λ (p : Entries × Entries). Each (λ q. own_in (elsewhere || values_own q.0) q.1 ≡ true) (singles_with p)) (sym is) (each_some (or_comm elsewhere false ∙ own)))
take_singles_own elsewhere (suc first) (entry ∷ entries) own =
    each_then {Holds = λ (p : Entries × Entries). (other : Bool) → own_in other p.1 ≡ true} (each_where (nat_le (suc first) (length (entry ∷ entries))) (each_some (λ other. own))) (λ p still. each_map _ each_there (λ vs is. still (elsewhere || values_own vs)))

take_open_own : (entries : Entries) → first_own entries ≡ true → Each (λ p. own_in (holds_own p.0) p.1 ≡ true) (take_open entries)
take_open_own [] own = not_so own
take_open_own (entry ∷ []) own = only entry own
  where
    only : (entry : EntryValue) → entry_own entry ≡ true → Each (λ p. own_in (holds_own p.0) p.1 ≡ true) (take_open (entry ∷ []))
    only (open_entry v) own = each_some own
    only entry own = each_none
take_open_own (entry ∷ other ∷ entries) own = each_map _ each_there (λ v is. subst (λ (count : ℕ). own_in (holds_own v) (take count (entry ∷ other ∷ entries)) ≡ true) (sym more) own)
  where
    more : length (entry ∷ other ∷ entries) - 1 ≡ suc (length entries)
    more = omega arith

last_own : (vs : Values) (v : Value) → values_own (and_last_value vs v) ≡ (holds_own v || values_own vs)
last_own no_values v = refl
last_own (and_value w vs) v =
    ap (λ rest. holds_own w || rest) (last_own vs v) ∙ sym (or_assoc (holds_own w) (holds_own v) (values_own vs)) ∙ ap (λ first. first || values_own vs) (or_comm (holds_own w) (holds_own v)) ∙ or_assoc (holds_own v) (holds_own w) (values_own vs)

pub take_list_own : (first field : ℕ) (entries : Entries) → first_own entries ≡ true → Each (λ p. own_in (values_own p.0.values) p.1 ≡ true) (take_list first field entries)
take_list_own first zero entries own = each_then (take_open_own entries own) (λ p more. each_map _ (take_singles_own (holds_own p.0) first p.1 more) (λ q is. ap (λ own. own_in own q.1) (last_own q.0 p.0) ∙ is))
take_list_own first (suc count) entries own = each_where (nat_le first (length entries) && (length entries - first == count)) (each_map _ (take_singles_own false first entries own) (λ q is. is))

pub take_method_own : (elsewhere : Bool) (place : ℕ) (entries : Entries) → own_in elsewhere entries ≡ true → Each (λ m. own_in (elsewhere || holds_own m.0.0) m.1 ≡ true) (take_method place entries)
take_method_own elsewhere zero [] own = each_none
take_method_own elsewhere (suc place) [] own = each_none
take_method_own elsewhere zero (method_entry on name ∷ second ∷ []) own = each_some (or_second elsewhere (holds_own on) own)
take_method_own elsewhere zero (method_entry on name ∷ []) own = each_none
take_method_own elsewhere zero (method_entry on name ∷ second ∷ third ∷ entries) own = each_none
take_method_own elsewhere zero (entry ∷ entries) own = each_none
take_method_own elsewhere (suc place) (entry ∷ entries) own = each_map _ each_there (λ v is. own)

-- ---- entries that are set next

pub appended_own : (entries more : Entries) → first_own entries ≡ true → first_own (entries ++ more) ≡ true
appended_own [] more own = not_so own
appended_own (entry ∷ entries) more own = own

next_own : (elsewhere : Bool) (one : EntryValue) (entries : Entries) → own_in elsewhere entries ≡ true → (elsewhere ≡ true → entry_own one ≡ true) → first_own (entries ++ one ∷ []) ≡ true
next_own elsewhere one [] own so = so own
next_own elsewhere one (entry ∷ entries) own so = own

pub set_next_own : (elsewhere : Bool) (base register : ℕ) (one : EntryValue) (entries : Entries) → own_in elsewhere entries ≡ true → (elsewhere ≡ true → entry_own one ≡ true) → Each (λ behind. first_own behind ≡ true) (set_next base register one entries)
set_next_own elsewhere base register one entries own so = each_where (is_place (place_in base register) (length entries)) (each_some (next_own elsewhere one entries own so))

-- ---- constructors

held_own : (at : ℕ) (entries : Entries) → first_own entries ≡ true → Each (λ p. first_own p.1 ≡ true) (hold (suc at) entries)
held_own at [] own = not_so own
held_own at (entry ∷ entries) own = by (slice_get entries at)
  where
    by : (there : Option EntryValue) → Each (λ p. first_own p.1 ≡ true) (held_at (suc at) (entry ∷ entries) there)
    by None = each_none
    by (Some other) = each_map _ each_there (λ v is. own)

with_items_own : (place : ℕ) (items : ItemList) (entries : Entries) → first_own entries ≡ true → Each (λ behind. first_own behind ≡ true) (with_items place items entries)
with_items_own place items [] own = not_so own
with_items_own zero items (maker_entry before all ∷ entries) own = not_so own
with_items_own zero items (entry ∷ entries) own = each_none
with_items_own (suc place) items (entry ∷ entries) own = by (slice_get entries place)
  where
    by : (there : Option EntryValue) → Each (λ behind. first_own behind ≡ true) (with_items_at (suc place) items (entry ∷ entries) there)
    by (Some (maker_entry before all)) = each_some own
    by other = each_none

opened_own : (place : ℕ) (entries : Entries) → first_own entries ≡ true → first_own (opened place entries) ≡ true
opened_own place [] own = not_so own
opened_own zero (maker_entry before all ∷ entries) own = not_so own
opened_own zero (entry ∷ entries) own = own
opened_own (suc place) (entry ∷ entries) own = by (slice_get entries place)
  where
    by : (there : Option EntryValue) → first_own (opened_at (suc place) (entry ∷ entries) there) ≡ true
    by (Some (maker_entry before all)) = own
    by other = own

hold_next_own : (place at : ℕ) (entries : Entries) → first_own entries ≡ true → Each (λ behind. first_own behind ≡ true) (hold_next place (suc at) entries)
hold_next_own place at entries own = each_then (held_own at entries own) (λ p more. with_items_own place (and_positional p.0 no_items) p.1 more)

hold_from_own : (place count at : ℕ) (entries : Entries) → first_own entries ≡ true → Each (λ behind. first_own behind ≡ true) (hold_from place count (suc at) entries)
hold_from_own place zero at entries own = each_some own
hold_from_own place (suc count) at entries own = each_then (hold_next_own place at entries own) (λ p more. hold_from_own place count (suc at) p more)

hold_items_own : (place : ℕ) (entries : Entries) → first_own entries ≡ true → Each (λ behind. first_own behind ≡ true) (hold_items place entries)
hold_items_own place entries own =
    let above = up_to_held (drop (suc place) entries) in
    let later : suc (place + above) ≡ suc place + above = omega arith in
    subst (λ (at : ℕ). Each (λ behind. first_own behind ≡ true) (hold_from place (length entries - behind_held place entries) at entries)) later (hold_from_own place (length entries - behind_held place entries) (place + above) entries own)

-- where there are no entries none is a constructor
none_held : (place count at : ℕ) → Each (λ (behind : Entries). behind ≡ []) (hold_from place count at [])
none_held place zero at = each_some refl
none_held place (suc count) at = each_none

none_with : (place : ℕ) (items : ItemList) (entries : Entries) → entries ≡ [] → Each (λ behind. first_own behind ≡ true) (with_items place items entries)
none_with place items entries is = subst (λ (entries : Entries). Each (λ behind. first_own behind ≡ true) (with_items place items entries)) (sym is) each_none

pub keyed_own : (elsewhere : Bool) (place : ℕ) (key item : OperandValue) (entries : Entries) → own_in elsewhere entries ≡ true → Each (λ behind. first_own behind ≡ true) (with_keyed place key item entries)
keyed_own elsewhere place key item [] own = each_then (none_held place (length {A = EntryValue} [] - behind_held place []) (behind_held place [])) (λ p is. none_with place (and_keyed key item no_items) p is)
keyed_own elsewhere place key item (entry ∷ entries) own = each_then (hold_items_own place (entry ∷ entries) own) (λ p more. with_items_own place (and_keyed key item no_items) p more)

open_list_own : (place : ℕ) (v : Value) (entries : Entries) → own_in (holds_own v) entries ≡ true → Each (λ behind. first_own behind ≡ true) (open_list place (v, entries))
open_list_own place v [] own =
    each_map {Holds = λ (behind : Entries). first_own behind ≡ true} _ (each_then (none_held place (length {A = EntryValue} [] - behind_held place []) (behind_held place [])) (λ p is. none_with place (and_positional v no_items) p is)) (λ q more. opened_own place q more)
open_list_own place v (entry ∷ entries) own =
    each_map {Holds = λ (behind : Entries). first_own behind ≡ true} _ (each_then (hold_items_own place (entry ∷ entries) own) (λ p more. with_items_own place (and_positional v no_items) p more)) (λ q more. opened_own place q more)

pub list_items_own : (place field : ℕ) (entries : Entries) → first_own entries ≡ true → Each (λ behind. first_own behind ≡ true) (list_items place field entries)
list_items_own place field entries own =
    each_if (field == 0) (each_then (take_open_own entries own) (λ p more. open_list_own place p.0 p.1 more))
    (each_where (nat_le (place + 1) (length entries) && (length entries - (place + 1) == field)) (hold_items_own place entries own))

pub taken_own : (count : ℕ) (entries : Entries) → first_own entries ≡ true → first_own (take (count + 1) entries) ≡ true
taken_own count entries own = subst (λ (count : ℕ). first_own (take count entries) ≡ true) one_more (by entries own)
  where
    one_more : suc count ≡ count + 1
    one_more = omega arith

    by : (entries : Entries) → first_own entries ≡ true → first_own (take (suc count) entries) ≡ true
    by [] own = not_so own
    by (entry ∷ entries) own = own
