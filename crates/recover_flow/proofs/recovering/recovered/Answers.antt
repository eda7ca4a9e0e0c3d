use Rattle.std.proofs.Common.{inr}
use Rattle.proto.specs.View.{view_proto}
use Rattle.recover_flow.proofs.Failing.{fails_here}
use Rattle.recover_flow.proofs.Recovered.{not_formed, source_found}
use Rattle.recover_flow.proofs.recovering.recovered.Goals as goal

pub returns-then-not-is_well_formed : goal.returns-then-not-is_well_formed
returns-then-not-is_well_formed c = record {
  formed = tt;
  lost = fails_here (view_proto c.args.proto.now) _ _ _ c.new.ensures tt;
  found = tt;
  only = inr (_, source_found (view_proto c.args.proto.now) c.in_ok-body.field-0 c.in_ok-body.ensures.found, not_formed c.is_well_formed.result _ c.is_well_formed.ensures c.if-not-is_well_formed.true);
}
