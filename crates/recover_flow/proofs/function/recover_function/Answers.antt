use Rattle.std.proofs.Common.{◌∙◌, sym, ap, subst}
use Rattle.core_expr.specs.Values.{view_bodies}
use Rattle.proto.specs.View.{view_proto}
use Rattle.recover_flow.specs.Held.{IsFewest, view_store}
use Rattle.recover_flow.specs.Parts.{parts_of}
use Rattle.recover_flow.specs.Recovering.{IsRefusedOnlyWhere}
use Rattle.recover_flow.specs.Searching.{whole_body}
use Rattle.recover_flow.proofs.Chained.{same_steps}
use Rattle.recover_flow.proofs.Recovered.{best_found, function_found, refused_as, unbuilt}
use Rattle.recover_flow.proofs.function.recover_function.Goals as goal

pub returns-in_err-block-clause-refused : goal.returns-in_err-block-clause-refused
returns-in_err-block-clause-refused c =
    let found = best_found c.in_ok-search.search _ c.fitting.new.search _ c.in-Some.found c.in_ok-found-2.found _ _ (c.in_ok-search.ensures.steps ∙ c.deref.ensures.value) c.new-builder.ensures.memory c.in_ok-found.ensures c.in-Some.is c.in_ok-found-2.ensures.answers in
    let chunk = view_proto c.args.proto.now in
    let left = view_bodies c.args.bodies in
    refused_as c.from_residual-in_err-block.result _ (IsRefusedOnlyWhere chunk left c.args.short) c.from_residual-in_err-block.ensures.1
    (unbuilt chunk left c.args.short _ _ _ c.in_ok-found-2.found _ c.in_ok-params.ensures.read (ap parts_of c.new-builder.ensures.parts ∙ c.new-2.ensures) found c.in_err-block.ensures.gone)

pub returns-clause-found : goal.returns-clause-found
returns-clause-found c =
    let found = best_found c.in_ok-search.search _ c.fitting.new.search _ c.in-Some.found c.in_ok-found-2.found _ _ (c.in_ok-search.ensures.steps ∙ c.deref.ensures.value) c.new-builder.ensures.memory c.in_ok-found.ensures c.in-Some.is c.in_ok-found-2.ensures.answers in
    function_found c.args.proto.now _ _ c.in_ok-params.field-0 _ _ _ c.in_ok-found-2.found c.in_ok-block.block c.in_ok-params.ensures.read (ap parts_of c.new-builder.ensures.parts ∙ c.new-2.ensures) found c.in_ok-block.ensures.built
    (λ short. subst (λ steps. IsFewest steps (whole_body steps) c.in_ok-found-2.found.levels) (same_steps c.in_ok-search.search c.whole.new.self c.in_ok-found.ensures.keeps ∙ (c.in_ok-search.ensures.steps ∙ c.deref.ensures.value))
    (c.in_ok-found-2.ensures.fewest short))
