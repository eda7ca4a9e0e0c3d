-- Serves the bodies: rows of values as pairs, and short lists of pairs.
use Rattle.std.specs.Prelude.{◌≡◌, ◌≢◌, ℕ, ◌+◌, ◌<◌, ◌≤◌, ◌^◌, false, List, [], ◌∷◌, ◌++◌, length, take, drop}
use Rattle.std.specs.List.{IsDistinct}
use Rattle.std.specs.Map.{keys_of}
use Rattle.lua_model.specs.declared.Value.{Value}
use Rattle.lua_model.specs.Value.{same_value}
use Rattle.lua_table.specs.Entries.{Entries, entry, has_place, is_nil_value, number_key}

-- the first n numbers from 1 have values
abbrev pub IsFull : Entries → ℕ → Type 0
IsFull ps n = (m : ℕ) → m < n → is_nil_value (entry ps (number_key (m + 1))) ≡ false

-- so do all of them but the number hole + 1
abbrev pub IsFullBut : Entries → ℕ → ℕ → Type 0
IsFullBut ps hole n = (m : ℕ) → m < n → m ≢ hole → is_nil_value (entry ps (number_key (m + 1))) ≡ false

-- the pairs of a row of values whose first key is n + 1
abbrev pub row_pairs : ℕ → List Value → Entries
row_pairs n [] = []
row_pairs n (v ∷ vs) = (number_key (n + 1), v) ∷ row_pairs (n + 1) vs

-- the key is none of the first n numbers from 1
abbrev pub IsOutside : ℕ → Value → Type 0
IsOutside n k = (i : ℕ) → i < n → same_value k (number_key (i + 1)) ≡ false

-- at most eight pairs, no two with one key
pub record AreFew (ps : Entries) : Type 0 where
  pub few : length ps ≤ 8
  pub apart : IsDistinct same_value (keys_of ps)

-- the pairs that are not in the row, and how many of them come before it
pub record Split : Type 0 where
  pub pairs : Entries
  pub before : ℕ

-- all pairs come before what follows
abbrev pub marked : Split → Split
marked s = record s { before = length s.pairs }

-- these pairs with the row among them
abbrev pub around : Split → List Value → Entries
around s vs = take s.before s.pairs ++ (row_pairs 0 vs ++ drop s.before s.pairs)

-- no key of the row stands among the others
pub record IsRowed (s : Split) (vs : List Value) : Type 0 where
  pub short : length vs ≤ 2 ^ 61
  pub within : s.before ≤ length s.pairs
  pub apart : (i : ℕ) → i < length vs → has_place s.pairs (number_key (i + 1)) ≡ false
