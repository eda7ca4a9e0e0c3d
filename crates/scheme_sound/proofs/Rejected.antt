-- What is sound is not rejected.
use Rattle.std.proofs.Common.{ℕ, zero, suc, Bool, false, List, [], ◌∷◌, sym, ◌∙◌, true≢false}
use Rattle.proto.specs.Chunk.{Chunk, Functions, function, no_functions, and_function}
use Rattle.rules.specs.declared.rule.Rule.{Rule}
use Rattle.rules.specs.Sound.{IsSound, AreSound, HasNotes, RejectedAt, IsRejected, AreRejected}

at_once : (f : Chunk) (main : Bool) (pc : ℕ) (rule : Rule) → HasNotes f main → RejectedAt f main pc rule → ⊥
at_once f main pc rule h r = true≢false (sym (r.always h.0 h.1.consistent) ∙ h.1.keeps pc rule)

mutual
  pub not_rejected : (f : Chunk) (main : Bool) (path : List ℕ) (pc : ℕ) (rule : Rule) → IsSound f main → IsRejected f main path pc rule → ⊥
  not_rejected (function o inner) main [] pc rule s r = at_once (function o inner) main pc rule s.0 r
  not_rejected (function o inner) main (n ∷ path) pc rule s r = none_rejected inner n path pc rule s.1 r.1

  none_rejected : (fs : Functions) (n : ℕ) (path : List ℕ) (pc : ℕ) (rule : Rule) → AreSound fs → AreRejected fs n path pc rule → ⊥
  none_rejected no_functions n path pc rule s r = r
  none_rejected (and_function c rest) zero path pc rule s r = not_rejected c false path pc rule s.0 r
  none_rejected (and_function c rest) (suc n) path pc rule s r = none_rejected rest n path pc rule s.1 r.1
