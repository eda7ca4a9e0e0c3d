-- Answers.
use Rattle.std.proofs.Common.{arith, ◌∙◌, ◌≡◌, ◌+◌, ◌++◌, [], ◌∷◌, None, ap, false, map, subst}
use Rattle.proto.specs.Chunk.{functions, functions_of}
use Rattle.proto.proofs.Views.{view_proto_fields}
use Rattle.proto.specs.View.{view_proto}
use Rattle.verifier.specs.Verify.{Judged}
use Rattle.verifier.proofs.Inner.{one_rejected, one_sound, popped}
use Rattle.verifier.proofs.Shortness.{each_short, each_smaller, functions_few, functions_short, functions_smaller}
use Rattle.verifier.proofs.judging.+judging.Goals as goal

pub judge_all-returns-in-Some : goal.judge_all-returns-in-Some
judge_all-returns-in-Some t c = one_rejected (functions_of (map view_proto c.args.functions.now)) c.args.functions.now c.loop-function.function-index c.function-item.result c.args.path.now c.push.new.self c.judge.new.path c.in-Some.broken c.loop-function-test.true c.function-item.is c.loop-function.invariant.2 (c.in_ok-push.ensures.ok ∙ ap (λ p. p ++ c.loop-function.number ∷ []) c.loop-function.invariant.1 ∙ ap (λ n. c.args.path.now ++ n ∷ []) c.loop-function.invariant.0) (subst (λ o. Judged (view_proto c.function-item.result) false c.push.new.self c.judge.new.path o) c.in-Some.is c.in_ok-broken.ensures)

pub judge_all-loop-function-preserved : goal.judge_all-loop-function-preserved
judge_all-loop-function-preserved t c =
    let none : Judged (view_proto c.function-item.result) false c.push.new.self c.judge.new.path None = subst (λ o. Judged (view_proto c.function-item.result) false c.push.new.self c.judge.new.path o) c.in_default.is c.in_ok-broken.ensures in
    let pushed : c.push.new.self ≡ c.args.path.now ++ c.loop-function.function-index ∷ [] = c.in_ok-push.ensures.ok ∙ ap (λ p. p ++ c.loop-function.number ∷ []) c.loop-function.invariant.1 ∙ ap (λ n. c.args.path.now ++ n ∷ []) c.loop-function.invariant.0 in
    (ap (λ n. n + 1) c.loop-function.invariant.0, popped c.pop.result c.args.path.now c.push.new.self c.judge.new.path c.pop.new.self c.loop-function.function-index pushed none.1 c.pop.ensures.some c.pop.ensures.none, one_sound (functions_of (map view_proto c.args.functions.now)) c.args.functions.now c.loop-function.function-index c.function-item.result c.loop-function-test.true c.function-item.is none.0 c.loop-function.invariant.2)

pub judge-judge_all-requires : goal.judge-judge_all-requires
judge-judge_all-requires t c =
    let same = ap functions (view_proto_fields c.args.proto.now) ∙ c.items.ensures.view in
    let smaller = functions_smaller (view_proto c.args.proto.now) c.items.result.now same in
    (omega (arith, smaller, c.decreases), (functions_few (view_proto c.args.proto.now) c.items.result.now same c.requires.short, functions_short (view_proto c.args.proto.now) c.items.result.now same c.requires.short))

pub judge_all-judge-requires : goal.judge_all-judge-requires
judge_all-judge-requires t c =
    let smaller = each_smaller c.args.functions.now c.loop-function.function-index c.function-item.result c.loop-function-test.true c.function-item.is in
    (omega (arith, smaller, c.decreases), each_short c.args.functions.now c.loop-function.function-index c.function-item.result c.loop-function-test.true c.function-item.is c.requires.short)
