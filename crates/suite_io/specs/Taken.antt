-- To be believed. The bytes that a sink took, and its count of faults.
use Rattle.std.specs.Prelude.{◌≡◌, ℕ, ◌<◌, ◌-◌, ◌^◌, ◌⊎◌, List, ◌++◌, Option, Some, None}

-- where they are told, the bytes taken grow by these
abbrev pub Takes : Option (List ℕ) → Option (List ℕ) → List ℕ → Type 0
Takes (Some old) new bytes = new ≡ Some (old ++ bytes)
Takes None new bytes = new ≡ None

-- the count rose; one that stands at 2^64 - 1 is taken as risen
abbrev pub Rises : ℕ → ℕ → Type 0
Rises old new = (old < new) ⊎ (old ≡ 2 ^ 64 - 1)
