-- Serves the bodies: what is found of a function and those in it, and where a path then leads.
use Rattle.std.specs.Prelude.{◌≡◌, ℕ, Bool, List, ◌∷◌, ◌++◌, Option, None, Some}
use Rattle.proto.specs.Chunk.{Chunk, Functions}
use Rattle.rules.specs.Sound.{IsSound, AreSound, IsRejected, AreRejected}
use Rattle.verifier.specs.declared.scan.Broken.{Broken}

-- sound, or the path was led on to where the function is rejected
abbrev pub Judged : Chunk → Bool → List ℕ → List ℕ → Option Broken → Type 0
Judged f main before now None = IsSound f main × (now ≡ before)
Judged f main before now (Some broken) = (path : List ℕ) × (now ≡ before ++ path) × IsRejected f main path broken.pc broken.rule

abbrev pub AllJudged : Functions → List ℕ → List ℕ → Option Broken → Type 0
AllJudged inner before now None = AreSound inner × (now ≡ before)
AllJudged inner before now (Some broken) = (n : ℕ) × (path : List ℕ) × (now ≡ before ++ n ∷ path) × AreRejected inner n path broken.pc broken.rule
