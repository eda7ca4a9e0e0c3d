use Rattle.std.proofs.Common.{rules, refl, ap, ◌≡◌, ◌+◌, ◌∙◌}
use Rattle.std.specs.Prelude.{◌++◌, ◌∷◌, [], drop}
use Rattle.std.proofs.lemmas.List.{drop_more}
use Rattle.std.proofs.Math.ListN.{drop_of_length-le}
use Rattle.recover_flow.proofs.Paths.{behind, popped}
use Rattle.recover_flow.proofs.Telling.{so_far_start, so_far_next, so_far_end, found_here}
use Rattle.recover_flow.proofs.debug.+debug.Goals as goal

pub have_untold-loop-proto-init : goal.have_untold-loop-proto-init
have_untold-loop-proto-init t c = (so_far_start _ _ refl, refl)

pub have_untold-returns-then-branch : goal.have_untold-returns-then-branch
have_untold-returns-then-branch t c =
    let rest : drop c.loop-proto.proto-index c.args.protos.now ≡ c.proto-item.result ∷ drop (c.loop-proto.proto-index + 1) c.args.protos.now =
    search (rules, drop_more c.args.protos.now c.loop-proto.proto-index c.proto-item.result, c.proto-item.is) in
    let found = rw c.if-branch.true at c.in_ok-has_untold.ensures in
    (c.loop-proto.number, found.0, behind _ _ _ _ _ (c.in_ok-push.ensures.ok ∙ ap (λ path. path ++ c.loop-proto.number ∷ []) c.loop-proto.invariant.1) found.1, found_here _ _ _ _ _ c.loop-proto.invariant.0 rest _ found.2)

pub have_untold-loop-proto-preserved : goal.have_untold-loop-proto-preserved
have_untold-loop-proto-preserved t c =
    let rest : drop c.loop-proto.proto-index c.args.protos.now ≡ c.proto-item.result ∷ drop (c.loop-proto.proto-index + 1) c.args.protos.now =
    search (rules, drop_more c.args.protos.now c.loop-proto.proto-index c.proto-item.result, c.proto-item.is) in
    let tells = rw c.if-branch.false at c.in_ok-has_untold.ensures in
    let more : c.in_ok-number.number ≡ c.loop-proto.number + 1 = search rules in
    (rw more (so_far_next _ _ _ _ _ c.loop-proto.invariant.0 rest tells.0), popped _ _ _ _ _ (tells.1 ∙ c.in_ok-push.ensures.ok) c.pop.ensures.some c.pop.ensures.none ∙ c.loop-proto.invariant.1)

pub have_untold-returns : goal.have_untold-returns
have_untold-returns t c = (so_far_end _ _ _ c.loop-proto.invariant.0 (drop_of_length-le c.args.protos.now c.loop-proto-test.false), c.loop-proto.invariant.1)
