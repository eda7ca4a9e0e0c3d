-- Serves a body. Lists of values, for so many places.
use Rattle.std.specs.List.{list_all, prefix_len}
use Rattle.std.specs.Prelude.{◌==◌, ◌&&◌, ◌||◌, not, ℕ, suc, Bool, true, false, nat_le, nat_lt, List, [], ◌∷◌, length, take, drop, Option, None, Some, option_map, option_and_then, if◌then◌else◌}
use Rattle.core_expr.specs.Held.{wordings_with}
use Rattle.core_expr.specs.Values.{Value, nil_value, Values, no_values, and_value, OperandValue, value_operand, view_core, view_operand}
use Rattle.core_expr.specs.Writing.{Wordings, is_multiple}
use Rattle.recover_expr.specs.Entries.{EntryValue, missing_entry, more_entry, Entries, Listed, is_single, singles_of}
use Rattle.recover_expr.specs.Situation.{Function, Situation}
use Rattle.recover_expr.specs.Writing.{Wrote, WroteList, value_written, operand_written, list_written}
use Rattle.recover_expr.specs.declared.lists.Straight as declared
use Rattle.recover_expr.specs.declared.stores.Place.{Place}
use Rattle.recover_expr.specs.declared.stores.Store.{Store}

-- what the first store of an assignment stores where it needs no register
pub data Straight : Type 0 where
  straight_value : Value → Straight
  straight_operand : OperandValue → Straight

abbrev pub view_straight : declared.Straight → Straight
view_straight (declared.Straight.Value core) = straight_value (view_core core)
view_straight (declared.Straight.Operand operand) = straight_operand (view_operand operand)

-- ---- lists of values

abbrev pub value_count : Values → ℕ
value_count no_values = 0
value_count (and_value v rest) = suc (value_count rest)

-- the last one, and those before it
abbrev pub split_last : Values → Option (Values × Value)
split_last no_values = None
split_last (and_value v no_values) = Some (no_values, v)
split_last (and_value v rest) = option_map (λ p. (and_value v p.0, p.1)) (split_last rest)

abbrev pub is_last : (Value → Bool) → Option (Values × Value) → Bool
is_last is None = false
is_last is (Some p) = is p.1

-- the last one can give several
abbrev pub ends_multiple : Values → Bool
ends_multiple values = is_last is_multiple (split_last values)

abbrev pub is_nil : Value → Bool
is_nil nil_value = true
is_nil v = false

abbrev pub ends_with_nil : Values → Bool
ends_with_nil values = is_last is_nil (split_last values)

abbrev pub before_last : Option (Values × Value) → Values
before_last None = no_values
before_last (Some p) = p.0

-- each gives what it gives, and the last one all
abbrev pub all_of : Values → Listed
all_of values = record { values = values; all = true }

-- ---- for so many places: the last value may give several, and the last ones may be missing, all of them only where that is allowed

abbrev pub is_missing : EntryValue → Bool
is_missing missing_entry = true
is_missing entry = false

abbrev pub is_further : EntryValue → Bool
is_further more_entry = true
is_further entry = false

-- how many single values come first
abbrev pub leading : Entries → ℕ
leading entries = prefix_len is_single entries

abbrev pub behind_leading : Entries → Entries
behind_leading entries = drop (leading entries) entries

-- what stands behind the single values is missing, and there is some
abbrev pub are_missing : Entries → Bool
are_missing entries = nat_lt (leading entries) (length entries) && list_all is_missing (behind_leading entries)

abbrev pub fits_places : (places : ℕ) → (may_be_none : Bool) → Entries → Values → Bool
fits_places places may_be_none entries values =
    if leading entries == length entries then nat_le places (length entries)
    else if are_missing entries then (places == length entries) && (may_be_none || nat_lt 0 (leading entries))
    else (places == length entries) && (list_all is_further (behind_leading entries) && ends_multiple values)

abbrev pub adjusted_to : (places : ℕ) → (may_be_none : Bool) → Entries → Values → Option Listed
adjusted_to places may_be_none entries values =
    if fits_places places may_be_none entries values then Some (record { values = values; all = not (are_missing entries) })
    else None

abbrev pub adjusted_list : (places : ℕ) → (may_be_none : Bool) → Entries → Option Listed
adjusted_list places may_be_none entries = option_and_then (adjusted_to places may_be_none entries) (singles_of (take (leading entries) entries))

abbrev pub adjusted : Function → (places : ℕ) → (may_be_none : Bool) → (taken : ℕ) → Entries → Situation → WroteList
adjusted f places may_be_none n entries s = option_and_then (λ list. list_written f n list s) (adjusted_list places may_be_none entries)

-- ---- the values of an assignment, from the values in registers and what went straight to the last target

abbrev pub straight_written : Function → (taken : ℕ) → Straight → Situation → Wrote
straight_written f n (straight_value v) s = value_written f n v s
straight_written f n (straight_operand o) s = operand_written f n o s

abbrev pub and_straight : Function → Straight → (Wordings × ℕ × Situation) → WroteList
and_straight f straight list = option_map (λ last. (wordings_with list.0 last.0, last.1, last.2)) (straight_written f list.1 straight list.2)

-- values, and one more behind them
abbrev pub list_and_straight : Function → (taken : ℕ) → Values → Straight → Situation → WroteList
list_and_straight f n values straight s = option_and_then (and_straight f straight) (list_written f n (all_of values) s)

abbrev pub operand_last : Function → (taken : ℕ) → Situation → (Values × Value) → WroteList
operand_last f n s p = list_and_straight f n p.0 (straight_operand (value_operand p.1)) s

abbrev pub first_place : List Store → Option Place
first_place [] = None
first_place (store ∷ stores) = Some store.place

-- as many values as there are stores. The value of a part of a table is an operand of its store. A nil that is stored from a register is one that is missing: another goes straight into a local.
abbrev pub stored_to : Function → Option Place → (count taken : ℕ) → Values → Situation → WroteList
stored_to f (Some (Place.Index on key)) count n values s = option_and_then (operand_last f n s) (split_last values)
stored_to f (Some (Place.Local r)) count n values s =
    if nat_lt 1 count && ends_with_nil values then list_written f n (record { values = before_last (split_last values); all = false }) s
    else list_written f n (all_of values) s
stored_to f place count n values s = list_written f n (all_of values) s

abbrev pub stored_singles : Function → List Store → (taken : ℕ) → Situation → Values → WroteList
stored_singles f stores n s values =
    if value_count values == length stores then stored_to f (first_place stores) (length stores) n values s
    else list_written f n (all_of values) s

abbrev pub stored_values : Function → List Store → (taken : ℕ) → Entries → Situation → WroteList
stored_values f stores n entries s =
    if nat_lt (leading entries) (length entries) then adjusted f (length stores) false n entries s
    else option_and_then (stored_singles f stores n s) (singles_of entries)

abbrev pub assigned_values : Function → List Store → (taken : ℕ) → Entries → Option Straight → Situation → WroteList
assigned_values f stores n entries None s = stored_values f stores n entries s
assigned_values f stores n entries (Some straight) s = option_and_then (λ values. list_and_straight f n values straight s) (singles_of entries)
