-- Serves the bodies: the first rule that is broken at a place.
use Rattle.std.specs.Prelude.{ℕ, Bool, ◌++◌, List, [], ◌∷◌, Option, None, Some, if◌then◌else◌}
use Rattle.proto.specs.Chunk.{Chunk}
use Rattle.rules.specs.declared.rule.Rule.{Rule}
use Rattle.rules.specs.Sound.{HasNotes, RejectedAt}
use Rattle.verifier.specs.declared.operands.Operands.{Operands}
use Rattle.verifier.specs.declared.jumps.Jump.{Jump}
use Rattle.verifier.specs.declared.scan.Broken.{Broken}

abbrev pub listed : Option ℕ → List ℕ
listed None = []
listed (Some n) = n ∷ []

-- the operands of an instruction, as two fields at most
abbrev pub all_of : Operands → List ℕ
all_of o = listed o.b ++ listed o.c

-- where a jump goes, as a list of one at most
abbrev pub gone_to : Jump → List (Option ℕ)
gone_to Jump.Nowhere = []
gone_to Jump.Before = None ∷ []
gone_to (Jump.To t) = Some t ∷ []

-- the first of some rules that meets a test
abbrev pub first_of : (Rule → Bool) → List Rule → Option Rule
first_of test [] = None
first_of test (rule ∷ rest) = if test rule then Some rule else first_of test rest

-- the rules by their numbers: those of a word before Shape, and all
abbrev pub rules_before_shape : List Rule
rules_before_shape = Rule.BadWord ∷ Rule.Register ∷ Rule.Constant ∷ Rule.Function ∷ Rule.Upvalue ∷ Rule.JumpTarget ∷ Rule.NameConstant ∷ Rule.OpenResults ∷ Rule.LoopNumbers ∷ Rule.LoopCaptured ∷ Rule.FurtherWord ∷ Rule.NoJump ∷ []

abbrev pub all_rules : List Rule
all_rules = rules_before_shape ++ (Rule.Shape ∷ Rule.FallsOff ∷ [])

-- What is found of a function under its least notes.
abbrev pub Finds : Chunk → Bool → Option Broken → Type 0
Finds f main None = HasNotes f main
Finds f main (Some broken) = RejectedAt f main broken.pc broken.rule
