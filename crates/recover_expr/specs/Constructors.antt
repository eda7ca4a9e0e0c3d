-- Serves a body. Constructors, and their items.
use Rattle.std.specs.Prelude.{◌==◌, ◌&&◌, ◌+◌, ◌-◌, ℕ, zero, suc, false, nat_le, length, take, slice_get, Option, None, Some, option_map, option_and_then, if◌then◌else◌}
use Rattle.core_expr.specs.Values.{Value, OperandValue, no_items, and_positional, and_keyed}
use Rattle.recover_expr.specs.Entries.{maker_entry, Entries, is_at, is_maker, place_in, take_open, hold, behind_held, with_items, opened}
use Rattle.recover_expr.specs.Drafts.{goes}
use Rattle.recover_expr.specs.Situation.{Function, Situation, pop_operand}
use Rattle.recover_expr.specs.Words.{Done, gone, with_register}
use Rattle.recover_expr.specs.declared.function.Word.{Word}

abbrev pub new_table : Word → Situation → Done
new_table w s = gone w.next (with_register w.instr.a (maker_entry no_items false) s)

abbrev pub maker_at : Entries → Option ℕ → Option ℕ
maker_at entries None = None
maker_at entries (Some place) = if is_at is_maker (slice_get entries place) then Some place else None

-- the place of the constructor in the register A
abbrev pub maker_place : Word → (base : ℕ) → Entries → Option ℕ
maker_place w base entries = maker_at entries (place_in base w.instr.a)

-- ---- values above a constructor become its next items, and stay held in their registers

abbrev pub hold_next : (place at : ℕ) → Entries → Option Entries
hold_next place at entries = option_and_then (λ p. with_items place (and_positional p.0 no_items) p.1) (hold at entries)

-- so many from one on
abbrev pub hold_from : (place count at : ℕ) → Entries → Option Entries
hold_from place zero at entries = Some entries
hold_from place (suc count) at entries = option_and_then (hold_from place count (suc at)) (hold_next place at entries)

-- all above the constructor at a place that are not held yet
abbrev pub hold_items : (place : ℕ) → Entries → Option Entries
hold_items place entries = hold_from place (length entries - behind_held place entries) (behind_held place entries) entries

-- ---- SETTABLE, as an item with a key

abbrev pub with_keyed : (place : ℕ) → (key item : OperandValue) → Entries → Option Entries
with_keyed place key item entries = option_and_then (with_items place (and_keyed key item no_items)) (hold_items place entries)

abbrev pub item_of : Word → (place : ℕ) → (item : OperandValue) → (OperandValue × Situation) → Done
item_of w place item key = gone w.next (option_map (λ es. record key.1 { entries = es }) (with_keyed place key.0 item key.1.entries))

abbrev pub item_at : Function → Word → Situation → Option ℕ → Done
item_at f w s None = None
item_at f w s (Some place) = option_and_then (λ item. option_and_then (item_of w place item.0) (pop_operand f w.instr.b item.1)) (pop_operand f w.instr.c s)

abbrev pub item : Function → Word → Situation → Done
item f w s = item_at f w s (maker_place w s.base s.entries)

-- ---- SETLIST: all values above a constructor have become its items, and their registers are free

-- the last item gives all its values
abbrev pub open_list : (place : ℕ) → (Value × Entries) → Option Entries
open_list place last = option_map (opened place) (option_and_then (with_items place (and_positional last.0 no_items)) (hold_items place last.1))

-- the field counts the values, or is 0 where the last one is open
abbrev pub list_items : (place field : ℕ) → Entries → Option Entries
list_items place field entries =
    if field == 0 then option_and_then (open_list place) (take_open entries)
    else if nat_le (place + 1) (length entries) && (length entries - (place + 1) == field) then hold_items place entries
    else None

-- the pc behind it, whose number may stand in a further word
abbrev pub behind_list : Function → Word → Option ℕ
behind_list f w =
    let next = (if w.instr.c == 0 then w.next + 1 else w.next) in
    if nat_le next f.last then Some next else None

abbrev pub listed_at : Function → Word → Situation → (place : ℕ) → Entries → Done
listed_at f w s place entries = option_map (λ next. (goes next, record s { entries = take (place + 1) entries })) (behind_list f w)

abbrev pub set_list_at : Function → Word → Situation → Option ℕ → Done
set_list_at f w s None = None
set_list_at f w s (Some place) = option_and_then (listed_at f w s place) (list_items place w.instr.b s.entries)

abbrev pub set_list : Function → Word → Situation → Done
set_list f w s = set_list_at f w s (maker_place w s.base s.entries)
