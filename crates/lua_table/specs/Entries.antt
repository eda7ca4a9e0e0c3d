-- To be believed. A table as contracts see it: its list of pairs of the program's values.
use Rattle.std.specs.Prelude.{◌≡◌, ℕ, ℤ, ◌+◌, ◌<◌, Bool, true, false, List, Option, Some, pos, if◌then◌else◌}
use Rattle.lua_model.specs.declared.Value.{Value}
use Rattle.lua_model.specs.declared.Value.TheVariants.{Nil, Number}
use Rattle.lua_model.specs.Value.{same_value}
use Rattle.lua_model.specs.Pairs.{get, has, set, first, after}

-- the pairs, in the order in which keys were first given a value
abbrev pub Entries : Type 0
Entries = List (Value × Value)

abbrev pub is_nil_value : Value → Bool
is_nil_value Nil = true
is_nil_value _ = false

-- the value of a key, nil where it has none
abbrev pub entry : Entries → Value → Value
entry ps k = get same_value Nil is_nil_value ps k

-- whether a key has a place, also where its value was set to nil
abbrev pub has_place : Entries → Value → Bool
has_place ps k = has same_value Nil is_nil_value ps k

-- the pairs once a key was set to a value: the key keeps its place, or goes last where its value is not nil
abbrev pub with_entry : Entries → Value → Value → Entries
with_entry ps k v = set same_value Nil is_nil_value ps k v

-- the first pair whose value is not nil
abbrev pub first_pair : Entries → Option (Value × Value)
first_pair ps = first same_value Nil is_nil_value ps

-- the first such pair behind the place of a key: None where the key has no place
abbrev pub pair_after : Entries → Value → Option (Option (Value × Value))
pair_after ps k = after same_value Nil is_nil_value ps k

-- the same, from the front for nil
abbrev pub next_of : Entries → Value → Option (Option (Value × Value))
next_of ps k = if is_nil_value k then Some (first_pair ps) else pair_after ps k

abbrev pub number_key : ℕ → Value
number_key n = Number (pos n)

-- the least n of at least 0 whose entry n + 1 is nil
pub record IsBorder (ps : Entries) (n : ℕ) : Type 0 where
  pub ends : is_nil_value (entry ps (number_key (n + 1))) ≡ true
  pub goes : (m : ℕ) → m < n → is_nil_value (entry ps (number_key (m + 1))) ≡ false

-- the same of a number of the program
abbrev pub HasBorder : Entries → ℤ → Type 0
HasBorder ps z = (n : ℕ) × (z ≡ pos n) × IsBorder ps n
