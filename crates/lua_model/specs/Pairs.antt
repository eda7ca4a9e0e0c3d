-- To be believed. A table's list of pairs, in the order in which keys were first given a value (manual 2.2; the order is this suite's own).
-- Over any keys and values, so that it serves the program's values and those of the definitions.
use Rattle.std.specs.Prelude.{ℕ, zero, suc, Bool, true, false, List, [], ◌∷◌, Option, None, Some, if◌then◌else◌}

module _ {K V : Type 0} (eq : K → K → Bool) (absent : V) (is_absent : V → Bool) where
  -- the value of a key
  abbrev pub get : List (K × V) → K → V
  get [] k = absent
  get (p ∷ ps) k = if eq k p.0 then p.1 else get ps k

  -- whether a key has a place
  abbrev pub has : List (K × V) → K → Bool
  has [] k = false
  has (p ∷ ps) k = if eq k p.0 then true else has ps k

  -- a key that has a place keeps it, and another one goes last, where its value is one
  abbrev pub set : List (K × V) → K → V → List (K × V)
  set [] k v = if is_absent v then [] else ((k, v) ∷ [])
  set (p ∷ ps) k v = if eq k p.0 then ((p.0, v) ∷ ps) else (p ∷ set ps k v)

  -- the first pair with a value
  abbrev pub first : List (K × V) → Option (K × V)
  first [] = None
  first (p ∷ ps) = if is_absent p.1 then first ps else Some p

  -- the first pair with a value after the place of a key: None where the key has no place
  abbrev pub after : List (K × V) → K → Option (Option (K × V))
  after [] k = None
  after (p ∷ ps) k = if eq k p.0 then Some (first ps) else after ps k

  -- the least n of at least `from` whose key n + 1 has no value, where one of the next `more` ones has none, else from + more
  abbrev pub border_from : (ℕ → K) → List (K × V) → (more from : ℕ) → ℕ
  border_from key ps zero from = from
  border_from key ps (suc more) from = elim (is_absent (get ps (key (suc from)))) [ true ↦ from | false ↦ border_from key ps more (suc from) ]
