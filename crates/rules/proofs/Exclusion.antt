-- No chunk is both sound and rejected.
use Rattle.std.proofs.Common.{◌≡◌, ℕ, zero, suc, Bool, true, false, List, [], ◌∷◌}
use Rattle.proto.specs.Chunk.{Chunk, function, Functions, no_functions, and_function}
use Rattle.rules.specs.declared.rule.Rule.{Rule}
use Rattle.rules.specs.Sound.{IsSound, AreSound, IsRejected, AreRejected}

never_true : (b : Bool) → b ≡ false → b ≡ true → ⊥
never_true b is_false is_true = cc

-- the notes under which a function breaks no rule are consistent, and all consistent notes of a rejected one break a rule
mutual
  pub never_two : (c : Chunk) (main : Bool) (path : List ℕ) (pc : ℕ) (rule : Rule) → IsSound c main → IsRejected c main path pc rule → ⊥
  never_two (function f inner) main [] pc rule sound rejected =
      let noted = sound.0.1 in never_true _ (noted.keeps pc rule) (rejected.always sound.0.0 noted.consistent)
  never_two (function f inner) main (n ∷ path) pc rule sound rejected = none_rejected inner n path pc rule sound.1 rejected.1

  none_rejected : (inner : Functions) (n : ℕ) (path : List ℕ) (pc : ℕ) (rule : Rule) → AreSound inner → AreRejected inner n path pc rule → ⊥
  none_rejected no_functions n path pc rule sound rejected = rejected
  none_rejected (and_function c rest) zero path pc rule sound rejected = never_two c false path pc rule sound.0 rejected
  none_rejected (and_function c rest) (suc n) path pc rule sound rejected = none_rejected rest n path pc rule sound.1 rejected.1
