use Rattle.std.proofs.Common.{◌∙◌, ◌∷◌, ◌++◌, [], ap, arith, sym, take}
use Rattle.std.proofs.lemmas.List.{take_more}
use Rattle.std.proofs.lemmas.Result.{err_from_is_err_and}
use Rattle.proto.specs.Chunk.{functions}
use Rattle.proto.specs.View.{view_proto}
use Rattle.core_expr.specs.Values.{view_recovered}
use Rattle.proto.proofs.Views.{view_proto_fields}
use Rattle.recover_flow.proofs.Failing.{each_short, failed_so, fails_below, fails_here, functions_few, functions_short, lost_below, lost_deep, lost_here, one_lost, stands_at}
use Rattle.recover_flow.proofs.Recovered.{found_behind, one_more_found}
use Rattle.recover_flow.proofs.recovering.+recovering.Goals as goal

pub inner_function-returns-then-depth-gt-LIMIT-clause-failed : goal.inner_function-returns-then-depth-gt-LIMIT-clause-failed
inner_function-returns-then-depth-gt-LIMIT-clause-failed t c = fails_here (view_proto c.args.proto.now) _ _ _ c.new.ensures tt

pub inner_function-inner_functions-requires : goal.inner_function-inner_functions-requires
inner_function-inner_functions-requires t c =
    let same = ap functions (view_proto_fields c.args.proto.now) ∙ c.items.ensures.view in
    (omega arith, (functions_few (view_proto c.args.proto.now) c.items.result.now same c.requires.short, functions_short (view_proto c.args.proto.now) c.items.result.now same c.requires.short))

pub inner_function-returns-in_err-bodies-clause-failed : goal.inner_function-returns-in_err-bodies-clause-failed
inner_function-returns-in_err-bodies-clause-failed t c =
    let same = ap functions (view_proto_fields c.args.proto.now) ∙ c.items.ensures.view in
    let p = err_from_is_err_and c.from_residual.result c.from_residual.ensures.1 in
    rw (p.1, p.2) (fails_below (view_proto c.args.proto.now) c.items.result.now _ same c.in_err-bodies.ensures.failed)

pub inner_function-returns-in-Err-At-clause-failed : goal.inner_function-returns-in-Err-At-clause-failed
inner_function-returns-in-Err-At-clause-failed t c =
    let told = rw c.in-Err-At.field-0-is at c.in-Err-At.ensures.stopped in
    fails_here (view_proto c.args.proto.now) _ _ _ c.new-in-Err-At.ensures told

pub inner_function-returns-then-depth-gt-LIMIT-clause-only : goal.inner_function-returns-then-depth-gt-LIMIT-clause-only
inner_function-returns-then-depth-gt-LIMIT-clause-only t c = lost_deep c.args.short c.args.depth (view_proto c.args.proto.now) c.if-depth-gt-LIMIT.true

pub inner_function-returns-in_err-bodies-clause-only : goal.inner_function-returns-in_err-bodies-clause-only
inner_function-returns-in_err-bodies-clause-only t c =
    let same = ap functions (view_proto_fields c.args.proto.now) ∙ c.items.ensures.view in
    let p = err_from_is_err_and c.from_residual.result c.from_residual.ensures.1 in
    rw (p.1, p.2) (failed_so _ _ (λ same. same) (lost_below c.args.short c.args.depth (view_proto c.args.proto.now) _ same) c.in_err-bodies.ensures.only)

pub inner_function-returns-in-Ok-clause-found : goal.inner_function-returns-in-Ok-clause-found
inner_function-returns-in-Ok-clause-found t c =
    let same = ap functions (view_proto_fields c.args.proto.now) ∙ c.items.ensures.view in
    found_behind c.args.short (view_proto c.args.proto.now) _ _ (view_recovered c.in-Ok.found) same c.in_ok-bodies.ensures.found c.in-Ok.ensures.found

pub inner_function-returns-in-Err-At-clause-only : goal.inner_function-returns-in-Err-At-clause-only
inner_function-returns-in-Err-At-clause-only t c =
    let same = ap functions (view_proto_fields c.args.proto.now) ∙ c.items.ensures.view in
    let refused = rw c.in-Err-At.field-0-is at c.in-Err-At.ensures.refused in
    lost_here c.args.short c.args.depth (view_proto c.args.proto.now) _ _ same c.in_ok-bodies.ensures.found refused

pub inner_functions-inner_function-requires : goal.inner_functions-inner_function-requires
inner_functions-inner_function-requires t c =
    (omega arith, each_short c.args.protos.now c.loop-number.number c.index-protos-number.result c.loop-number-test.true c.index-protos-number.is c.requires.short)

pub inner_functions-returns-in-Err-clause-failed : goal.inner_functions-returns-in-Err-clause-failed
inner_functions-returns-in-Err-clause-failed t c =
    let at = stands_at c.args.protos.now c.loop-number.number c.index-protos-number.result c.loop-number-test.true c.index-protos-number.is in
    c.below.ensures.failed _ _ at c.in-Err.ensures.failed

pub inner_functions-returns-in-Err-clause-only : goal.inner_functions-returns-in-Err-clause-only
inner_functions-returns-in-Err-clause-only t c =
    let at = stands_at c.args.protos.now c.loop-number.number c.index-protos-number.result c.loop-number-test.true c.index-protos-number.is in
    failed_so _ _ c.below.ensures.memory (one_lost c.args.short c.args.depth _ _ _ at) c.in-Err.ensures.only

pub inner_functions-loop-number-preserved : goal.inner_functions-loop-number-preserved
inner_functions-loop-number-preserved t c =
    let number = c.loop-number.number in
    let more = take_more c.args.protos.now number c.index-protos-number.result c.loop-number-test.true ∙ ap (λ proto. take number c.args.protos.now ++ proto ∷ []) (sym c.index-protos-number.is) in
    rw (more, c.in_ok-push-in-Ok.ensures) (one_more_found c.args.short (take number c.args.protos.now) _ c.index-protos-number.result (view_recovered c.in-Ok.found) c.loop-number.invariant c.in-Ok.ensures.found)
