-- Answers.
use Rattle.std.proofs.Common.{◌∙◌, ◌+◌, ◌++◌, [], ◌∷◌, None, Some, ap, arith, get_or, length, length-append, refl}
use Rattle.verifier.proofs.Tables.{begun, get_pushed}
use Rattle.verifier.proofs.fixed_point.begin.Goals as goal

pub loop-place-init : goal.loop-place-init
loop-place-init c = (ap length c.in_ok-push.ensures.items ∙ ap (λ xs. length (xs ++ Some c.start-start.result ∷ [])) c.in_ok-notes.ensures.items, c.requires.some, λ p. refl)

pub loop-place-preserved : goal.loop-place-preserved
loop-place-preserved c = (ap length c.in_ok-push-2.ensures.items ∙ length-append c.loop-place.notes.items (None ∷ []) ∙ ap (λ n. n + 1) c.loop-place.invariant.0, omega (arith, c.loop-place-test.true), λ p. ap (λ xs. get_or xs p None) c.in_ok-push-2.ensures.items ∙ get_pushed c.loop-place.notes.items p ∙ c.loop-place.invariant.2 p)

pub returns-clause-begins : goal.returns-clause-begins
returns-clause-begins c f = begun f _ c.start-start.result c.start-start.ensures (λ p. c.loop-place.invariant.2 p ∙ ap (λ xs. get_or xs p None) (c.in_ok-push.ensures.items ∙ ap (λ xs. xs ++ Some c.start-start.result ∷ []) c.in_ok-notes.ensures.items))
