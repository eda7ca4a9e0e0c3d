-- To be believed. What holds of tables, told by their lists of pairs.
use Rattle.std.specs.Prelude.{◌≡◌, ◌↔◌, ℕ, true, false, not, [], ◌∷◌, Some, None}
use Rattle.std.specs.List.{IsDistinct, AllByRecursion, filter}
use Rattle.std.specs.Map.{keys_of}
use Rattle.lua_model.specs.declared.Value.{Value}
use Rattle.lua_model.specs.declared.Value.TheVariants.{Nil}
use Rattle.lua_model.specs.Value.{same_value}
use Rattle.lua_table.specs.Entries.{Entries, entry, has_place, with_entry, next_of, is_nil_value, IsBorder}

abbrev pub SameValueIsEquality : Type 0
SameValueIsEquality = (a b : Value) → (same_value a b ≡ true) ↔ (a ≡ b)

-- a key has the value that it was set to
abbrev pub SetThenGet : Type 0
SetThenGet = (ps : Entries) (k v : Value) → entry (with_entry ps k v) k ≡ v

-- every other key has the value that it had, and every key that had a place has one still
abbrev pub KeysStayApart : Type 0
KeysStayApart =
    (ps : Entries) (k v l : Value) → (same_value l k ≡ false → entry (with_entry ps k v) l ≡ entry ps l) × (has_place ps l ≡ true → has_place (with_entry ps k v) l ≡ true)

-- each list of pairs has a border, and no other one
abbrev pub OneBorder : Type 0
OneBorder = (ps : Entries) → (n : ℕ) × IsBorder ps n × ((m : ℕ) → IsBorder ps m → m ≡ n)

-- no key stands twice, and none is nil
pub record IsSound (ps : Entries) : Type 0 where
  pub apart : IsDistinct same_value (keys_of ps)
  pub named : AllByRecursion (λ k. is_nil_value k ≡ false) (keys_of ps)

-- so it is with no pairs, and stays so where a key that is not nil is set
abbrev pub SetKeepsSound : Type 0
SetKeepsSound = IsSound [] × ((ps : Entries) (k v : Value) → IsSound ps → is_nil_value k ≡ false → IsSound (with_entry ps k v))

-- the pairs whose values are not nil
abbrev pub live : Entries → Entries
live ps = filter (λ p. not (is_nil_value p.1)) ps

-- from a key on, `next` gives these pairs one after the other, each for the key of the one before, and then none
abbrev pub IsWalk : Entries → Value → Entries → Type 0
IsWalk ps k [] = next_of ps k ≡ Some None
IsWalk ps k (p ∷ qs) = (next_of ps k ≡ Some (Some p)) × IsWalk ps p.0 qs

-- from nil on, `next` gives every pair whose value is not nil, once and in order
abbrev pub NextWalks : Type 0
NextWalks = (ps : Entries) → IsSound ps → IsWalk ps Nil (live ps)
