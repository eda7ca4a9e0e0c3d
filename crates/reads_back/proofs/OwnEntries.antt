-- What takes entries off, sets or holds them brings no function that captures its own register.
use Rattle.std.proofs.Common.{◌≡◌, ℕ, zero, suc, ◌+◌, ◌-◌, ◌&&◌, true, false, nat_le, [], ◌∷◌, ◌++◌, length, Option, Some, None, refl}
use Rattle.std.specs.Prelude.{◌==◌, slice_get, slice_set, take}
use Rattle.core_expr.specs.Values.{ItemList, OperandValue, and_keyed, and_positional, local_value, no_items}
use Rattle.recover_expr.specs.Constructors.{hold_from, hold_items, hold_next, list_items, with_keyed}
use Rattle.recover_expr.specs.Declaring.{captures_itself, is_own_function}
use Rattle.recover_expr.specs.Entries.{EntryValue, Entries, value_entry, maker_entry, held_entry, behind_held, held_at, hold, is_place, join_items, more, opened, opened_at, part, part_at, place_in, set_next, take_at, take_from, take_list, take_method, take_open, take_singles, with_items, with_items_at}
use Rattle.reads_back.proofs.EachSome.{Each, each_if, each_map, each_none, each_of, each_some, each_then, each_there, each_where}
use Rattle.reads_back.proofs.Tests.{nor, neither}

-- if none of these captures its own register, none of those does
abbrev pub NoMore : Entries → Entries → Type 0
NoMore before behind = captures_itself before ≡ false → captures_itself behind ≡ false

pub none_appended : (before behind : Entries) → captures_itself behind ≡ false → NoMore before (before ++ behind)
none_appended [] behind is none = is
none_appended (entry ∷ before) behind is none =
    let both = neither (is_own_function entry) (captures_itself before) none in
    nor (is_own_function entry) (captures_itself (before ++ behind)) both.0 (none_appended before behind is both.1)

pub none_taken : (count : ℕ) (entries : Entries) → NoMore entries (take count entries)
none_taken zero entries none = refl
none_taken (suc count) [] none = refl
none_taken (suc count) (entry ∷ entries) none =
    let both = neither (is_own_function entry) (captures_itself entries) none in
    nor (is_own_function entry) (captures_itself (take count entries)) both.0 (none_taken count entries both.1)

none_set : (entries : Entries) (place : ℕ) (one : EntryValue) → is_own_function one ≡ false → NoMore entries (slice_set entries place one)
none_set [] place one is none = refl
none_set (entry ∷ entries) zero one is none = nor (is_own_function one) (captures_itself entries) is (neither (is_own_function entry) (captures_itself entries) none).1
none_set (entry ∷ entries) (suc place) one is none =
    let both = neither (is_own_function entry) (captures_itself entries) none in
    nor (is_own_function entry) (captures_itself (slice_set entries place one)) both.0 (none_set entries place one is both.1)

pub none_more : (count : ℕ) (one : EntryValue) → is_own_function one ≡ false → captures_itself (more count one) ≡ false
none_more zero one is = refl
none_more (suc count) one is = nor (is_own_function one) (captures_itself (more count one)) is (none_more count one is)

-- ---- values that are taken out

held_none : (place : ℕ) (entries : Entries) → Each (λ p. NoMore entries p.1) (hold place entries)
held_none place entries = by (slice_get entries place)
  where
    by : (there : Option EntryValue) → Each (λ p. NoMore entries p.1) (held_at place entries there)
    by None = each_none
    by (Some entry) = each_map _ each_there (λ v is. none_set entries place held_entry refl)

pub part_none : (place : ℕ) (entries : Entries) → Each (λ p. NoMore entries p.1) (part place entries)
part_none place entries = by (slice_get entries place)
  where
    otherwise : (entry : EntryValue) → Each (λ p. NoMore entries p.1) (held_at place entries (Some entry))
    otherwise entry = each_map _ each_there (λ v is. none_set entries place held_entry refl)

    by : (there : Option EntryValue) → Each (λ p. NoMore entries p.1) (part_at place entries there)
    by None = each_none
    by (Some (value_entry (local_value r))) = each_some (λ none. none)
    by (Some entry) = otherwise entry

pub take_at_none : (place : ℕ) (entries : Entries) → Each (λ p. NoMore entries p.1) (take_at place entries)
take_at_none place entries = each_map _ each_there (λ v is. none_taken place entries)

pub take_from_none : (first : ℕ) (entries : Entries) → Each (λ p. NoMore entries p.1) (take_from first entries)
take_from_none first entries = each_where (nat_le first (length entries)) (each_some (none_taken first entries))

pub take_singles_none : (first : ℕ) (entries : Entries) → Each (λ p. NoMore entries p.1) (take_singles first entries)
take_singles_none first entries = each_then (take_from_none first entries) (λ p less. each_map _ each_there (λ vs is. less))

take_open_none : (entries : Entries) → Each (λ p. NoMore entries p.1) (take_open entries)
take_open_none entries = each_map _ each_there (λ v is. none_taken (length entries - 1) entries)

pub take_method_none : (place : ℕ) (entries : Entries) → Each (λ p. NoMore entries p.1) (take_method place entries)
take_method_none place entries = each_map _ each_there (λ v is. none_taken place entries)

pub take_list_none : (first field : ℕ) (entries : Entries) → Each (λ p. NoMore entries p.1) (take_list first field entries)
take_list_none first zero entries = each_then (take_open_none entries) (λ p less. each_map _ (take_singles_none first p.1) (λ q fewer none. fewer (less none)))
take_list_none first (suc count) entries = each_where (nat_le first (length entries) && (length entries - first == count)) (each_map _ (take_singles_none first entries) (λ q fewer. fewer))

-- ---- constructors

with_items_none : (place : ℕ) (items : ItemList) (entries : Entries) → Each (NoMore entries) (with_items place items entries)
with_items_none place items entries = by (slice_get entries place)
  where
    by : (there : Option EntryValue) → Each (NoMore entries) (with_items_at place items entries there)
    by (Some (maker_entry before all)) = each_some (none_set entries place (maker_entry (join_items before items) all) refl)
    by entry = each_none

opened_none : (place : ℕ) (entries : Entries) → NoMore entries (opened place entries)
opened_none place entries = by (slice_get entries place)
  where
    by : (there : Option EntryValue) → NoMore entries (opened_at place entries there)
    by (Some (maker_entry items all)) = none_set entries place (maker_entry items true) refl
    by entry = λ none. none

hold_next_none : (place at : ℕ) (entries : Entries) → Each (NoMore entries) (hold_next place at entries)
hold_next_none place at entries = each_then (held_none at entries) (λ p less. each_of (with_items_none place (and_positional p.0 no_items) p.1) (λ behind fewer none. fewer (less none)))

hold_from_none : (place count at : ℕ) (entries : Entries) → Each (NoMore entries) (hold_from place count at entries)
hold_from_none place zero at entries = each_some (λ none. none)
hold_from_none place (suc count) at entries = each_then (hold_next_none place at entries) (λ p less. each_of (hold_from_none place count (suc at) p) (λ behind fewer none. fewer (less none)))

hold_items_none : (place : ℕ) (entries : Entries) → Each (NoMore entries) (hold_items place entries)
hold_items_none place entries = hold_from_none place (length entries - behind_held place entries) (behind_held place entries) entries

pub with_keyed_none : (place : ℕ) (key item : OperandValue) (entries : Entries) → Each (NoMore entries) (with_keyed place key item entries)
with_keyed_none place key item entries = each_then (hold_items_none place entries) (λ p less. each_of (with_items_none place (and_keyed key item no_items) p) (λ behind fewer none. fewer (less none)))

pub list_items_none : (place field : ℕ) (entries : Entries) → Each (NoMore entries) (list_items place field entries)
list_items_none place field entries =
    each_if (field == 0)
    (each_then (take_open_none entries) (λ p less. each_map {Holds = NoMore entries} _ (each_then (hold_items_none place p.1) (λ q fewer. each_of (with_items_none place (and_positional p.0 no_items) q) (λ r least none. least (fewer (less none))))) (λ q fewer none. opened_none place q (fewer none))))
    (each_where (nat_le (place + 1) (length entries) && (length entries - (place + 1) == field)) (hold_items_none place entries))

-- ---- entries that are set next

pub set_next_if : (base register : ℕ) (one : EntryValue) (entries : Entries) → Each (λ behind. is_own_function one ≡ false → NoMore entries behind) (set_next base register one entries)
set_next_if base register one entries = each_where (is_place (place_in base register) (length entries)) (each_some (λ is. none_appended entries (one ∷ []) (nor (is_own_function one) false is refl)))

pub set_next_none : (base register : ℕ) (one : EntryValue) (entries : Entries) → is_own_function one ≡ false → Each (NoMore entries) (set_next base register one entries)
set_next_none base register one entries is = each_of (set_next_if base register one entries) (λ behind less. less is)
