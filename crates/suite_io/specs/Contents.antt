-- To be believed. What files hold: the bytes of each name.
use Rattle.std.specs.Prelude.{◌≡◌, ◌≢◌, ℕ, List, Option, Some, None}
use Rattle.std.specs.Ordering.{nat_cmp}
use Rattle.std.specs.Cmp.Lexicographic.{slice_cmp}
use Rattle.std.specs.FinMap.{FinMap, get, insert}

abbrev pub Contents : Type 0
Contents = FinMap (slice_cmp nat_cmp) (List ℕ)

-- where the contents are told, the name has the bytes afterwards, and nothing else changed
abbrev pub Stores : Option Contents → Option Contents → List ℕ → List ℕ → Type 0
Stores (Some old) new name bytes = new ≡ Some (insert old name bytes)
Stores None new name bytes = new ≡ None

-- names other than this one have what they had, and what is told stays told
abbrev pub OthersStay : Option Contents → Option Contents → List ℕ → Type 0
OthersStay (Some old) (Some new) name = (other : List ℕ) → other ≢ name → get new other ≡ get old other
OthersStay None None name = Unit {0}
OthersStay (Some old) None name = ⊥
OthersStay None (Some new) name = ⊥
