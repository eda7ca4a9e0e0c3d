-- Serves a body. What is found where the functions of a chunk are asked one by one.
use Rattle.std.specs.Prelude.{◌≡◌, ℕ, List, ◌∷◌, ◌++◌, Bool, true, false}
use Rattle.proto.specs.Chunk.{Chunk, Functions}
use Rattle.recover_flow.specs.Debug.{AllTell, EachTells, FirstUntold, FirstUntoldIn}

-- of a function and those in it: behind a path stands the path to the first that does not tell, or all tell
abbrev pub IsFoundBelow : Chunk → List ℕ → List ℕ → Bool → Type 0
IsFoundBelow c before after false = AllTell c × (after ≡ before)
IsFoundBelow c before after true = (below : List ℕ) × (after ≡ before ++ below) × FirstUntold c below

-- of a list of functions
abbrev pub IsFoundIn : Functions → List ℕ → List ℕ → Bool → Type 0
IsFoundIn fs before after false = EachTells fs × (after ≡ before)
IsFoundIn fs before after true = (n : ℕ) × (below : List ℕ) × (after ≡ before ++ n ∷ below) × FirstUntoldIn fs n below
