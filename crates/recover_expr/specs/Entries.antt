-- Serves a body. What stands in the registers above the locals while the words of a statement are read, as plain data.
use Rattle.std.specs.Prelude.{◌==◌, ◌&&◌, ◌+◌, ◌-◌, ℕ, zero, suc, Bool, true, false, nat_le, nat_lt, List, [], ◌∷◌, ◌++◌, length, take, drop, map, slice_get, slice_set, Option, None, Some, option_map, option_and_then, if◌then◌else◌}
use Rattle.core_expr.specs.Values.{Value, local_value, Values, no_values, and_value, ItemList, no_items, and_positional, and_keyed, view_core, view_core_list, view_item, view_item_list}
use Rattle.core_expr.specs.Making.{made_table}
use Rattle.core_expr.specs.declared.cores.CoreItem.{CoreItem}
use Rattle.recover_expr.specs.declared.lost.Lost.{Lost}
use Rattle.recover_expr.specs.declared.stack.Entry.{Entry}
use Rattle.recover_expr.specs.declared.stack.Stack.{Stack}
use Rattle.recover_expr.specs.declared.stack.Values as declared

pub data EntryValue : Type 0 where
  value_entry : Value → EntryValue
  -- a constructor, whose items may still come; and whether the last one gives all its values
  maker_entry : ItemList → (all : Bool) → EntryValue
  -- a further value of the call or `...` below, or the second register of a method; a value that is missing; an item that the constructor below has taken
  more_entry missing_entry held_entry : EntryValue
  -- all values of a call or `...`
  open_entry : Value → EntryValue
  -- a method of a value, by the number of its name
  method_entry : Value → (name : ℕ) → EntryValue

abbrev pub view_entry : Entry → EntryValue
view_entry (Entry.Value core) = value_entry (view_core core)
view_entry (Entry.Maker items all) = maker_entry (view_item_list items) all
view_entry Entry.More = more_entry
view_entry Entry.Missing = missing_entry
view_entry Entry.Held = held_entry
view_entry (Entry.Open core) = open_entry (view_core core)
view_entry (Entry.Method on name) = method_entry (view_core on) name

-- from the lowest register on
abbrev pub Entries : Type 0
Entries = List EntryValue

abbrev pub entries_of : Stack → Entries
entries_of stack = map view_entry stack.entries.items

-- words are lost only where this holds, or memory is wanting
abbrev pub IsLostOnlyWhere : Type 0 → Lost → Type 0
IsLostOnlyWhere holds (Lost.NotScheme pc) = holds
IsLostOnlyWhere holds Lost.OutOfMemory = Unit {0}

-- ---- single values

abbrev pub is_single : EntryValue → Bool
is_single (value_entry v) = true
is_single (maker_entry items all) = true
is_single entry = false

abbrev pub single_of : EntryValue → Option Value
single_of (value_entry v) = Some v
single_of (maker_entry items all) = made_table items all
single_of entry = None

abbrev pub before_values : Option Value → Option Values → Option Values
before_values (Some v) (Some vs) = Some (and_value v vs)
before_values v vs = None

abbrev pub singles_of : Entries → Option Values
singles_of [] = Some no_values
singles_of (entry ∷ entries) = before_values (single_of entry) (singles_of entries)

-- whether what stands at a place is so
abbrev pub is_at : (EntryValue → Bool) → Option EntryValue → Bool
is_at is None = false
is_at is (Some entry) = is entry

abbrev pub is_maker : EntryValue → Bool
is_maker (maker_entry items all) = true
is_maker entry = false

abbrev pub is_method : EntryValue → Bool
is_method (method_entry on name) = true
is_method entry = false

abbrev pub is_held : EntryValue → Bool
is_held held_entry = true
is_held entry = false

-- ---- registers by their places above the locals, of which there are `base`

abbrev pub place_in : (base register : ℕ) → Option ℕ
place_in base r = if nat_le base r then Some (r - base) else None

-- an operand that is one of these registers, and no local and no constant
abbrev pub is_temporary : (base operand : ℕ) → Bool
is_temporary base o = nat_le base o && nat_lt o 256

abbrev pub is_place : Option ℕ → ℕ → Bool
is_place None n = false
is_place (Some place) n = place == n

-- the next free register is set, where it is this one
abbrev pub set_next : (base register : ℕ) → EntryValue → Entries → Option Entries
set_next base r entry entries = if is_place (place_in base r) (length entries) then Some (entries ++ entry ∷ []) else None

abbrev pub more : ℕ → EntryValue → Entries
more zero entry = []
more (suc n) entry = entry ∷ more n entry

-- ---- values that are taken off

-- what stands from a place on, and what stands before it
abbrev pub take_from : (first : ℕ) → Entries → Option (Entries × Entries)
take_from first entries = if nat_le first (length entries) then Some (drop first entries, take first entries) else None

abbrev pub singles_with : (Entries × Entries) → Option (Values × Entries)
singles_with p = option_map (λ vs. (vs, p.1)) (singles_of p.0)

-- the single values from a place on
abbrev pub take_singles : (first : ℕ) → Entries → Option (Values × Entries)
take_singles first entries = option_and_then singles_with (take_from first entries)

abbrev pub single_alone : Entries → Option Value
single_alone (entry ∷ []) = single_of entry
single_alone entries = None

-- the single value in the highest register, where that is at this place
abbrev pub take_at : (place : ℕ) → Entries → Option (Value × Entries)
take_at place entries = option_map (λ v. (v, take place entries)) (single_alone (drop place entries))

abbrev pub open_alone : Entries → Option Value
open_alone (open_entry v ∷ []) = Some v
open_alone entries = None

-- all values of the call or `...` in the highest register
abbrev pub take_open : Entries → Option (Value × Entries)
take_open entries = option_map (λ v. (v, take (length entries - 1) entries)) (open_alone (drop (length entries - 1) entries))

abbrev pub method_alone : Entries → Option (Value × ℕ)
method_alone (method_entry on name ∷ second ∷ []) = Some (on, name)
method_alone entries = None

-- the method in the two highest registers, of which the lower one is at this place
abbrev pub take_method : (place : ℕ) → Entries → Option ((Value × ℕ) × Entries)
take_method place entries = option_map (λ m. (m, take place entries)) (method_alone (drop place entries))

-- a list of values, and whether the last one gives all its values
pub record Listed : Type 0 where
  pub values : Values
  pub all : Bool

abbrev pub view_listed : declared.Values → Listed
view_listed list = record { values = view_core_list list.cores; all = list.open }

abbrev pub and_last_value : Values → Value → Values
and_last_value no_values v = and_value v no_values
and_last_value (and_value w ws) v = and_value w (and_last_value ws v)

abbrev pub listed_to : Value → (Values × Entries) → Listed × Entries
listed_to last p = (record { values = and_last_value p.0 last; all = true }, p.1)

abbrev pub listed : (Values × Entries) → Listed × Entries
listed p = (record { values = p.0; all = false }, p.1)

-- the values from a place on that a field of a word counts: one more than there are, or 0 where the last one is open
abbrev pub take_list : (first field : ℕ) → Entries → Option (Listed × Entries)
take_list first zero entries = option_and_then (λ p. option_map (listed_to p.0) (take_singles first p.1)) (take_open entries)
take_list first (suc count) entries = if nat_le first (length entries) && (length entries - first == count) then option_map listed (take_singles first entries) else None

-- ---- values that are taken out, and held from then on

abbrev pub held_at : (place : ℕ) → Entries → Option EntryValue → Option (Value × Entries)
held_at place entries None = None
held_at place entries (Some entry) = option_map (λ v. (v, slice_set entries place held_entry)) (single_of entry)

abbrev pub hold : (place : ℕ) → Entries → Option (Value × Entries)
hold place entries = held_at place entries (slice_get entries place)

-- as a part of a target a local stays, since more than one part can be the same copy of a local
abbrev pub part_at : (place : ℕ) → Entries → Option EntryValue → Option (Value × Entries)
part_at place entries (Some (value_entry (local_value r))) = Some (local_value r, entries)
part_at place entries entry = held_at place entries entry

abbrev pub part : (place : ℕ) → Entries → Option (Value × Entries)
part place entries = part_at place entries (slice_get entries place)

-- ---- constructors

abbrev pub any_held : Entries → Bool
any_held [] = false
any_held (entry ∷ entries) = if is_held entry then true else any_held entries

-- how many stand up to the last one that is held
abbrev pub up_to_held : Entries → ℕ
up_to_held [] = 0
up_to_held (entry ∷ entries) = if any_held (entry ∷ entries) then suc (up_to_held entries) else 0

-- the place behind the highest one above this one that is held, or behind this one where none is
abbrev pub behind_held : (place : ℕ) → Entries → ℕ
behind_held place entries = suc place + up_to_held (drop (suc place) entries)

abbrev pub join_items : ItemList → ItemList → ItemList
join_items no_items last = last
join_items (and_positional v rest) last = and_positional v (join_items rest last)
join_items (and_keyed key item rest) last = and_keyed key item (join_items rest last)

abbrev pub with_items_at : (place : ℕ) → ItemList → Entries → Option EntryValue → Option Entries
with_items_at place more entries (Some (maker_entry items all)) = Some (slice_set entries place (maker_entry (join_items items more) all))
with_items_at place more entries entry = None

-- the constructor at a place has these items more
abbrev pub with_items : (place : ℕ) → ItemList → Entries → Option Entries
with_items place more entries = with_items_at place more entries (slice_get entries place)

-- and an item more
abbrev pub with_item : (place : ℕ) → CoreItem → Entries → Option Entries
with_item place item entries = with_items place (view_item item no_items) entries

abbrev pub opened_at : (place : ℕ) → Entries → Option EntryValue → Entries
opened_at place entries (Some (maker_entry items all)) = slice_set entries place (maker_entry items true)
opened_at place entries entry = entries

-- the last item of the constructor at a place gives all its values
abbrev pub opened : (place : ℕ) → Entries → Entries
opened place entries = opened_at place entries (slice_get entries place)
