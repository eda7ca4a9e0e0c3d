use Rattle.global_use.proofs.Inner.{inner_there, inner_past}
use Rattle.global_use.proofs.counting.inner_upvalues.Goals as goal

pub returns-in-Some : goal.returns-in-Some
returns-in-Some c = inner_there _ _ c.args.number _ _ c.functions_in.ensures c.in-Some.ensures.lookup.0 c.in-Some.ensures.lookup.1 c.upvalues_of.ensures

pub returns-in-None : goal.returns-in-None
returns-in-None c = inner_past _ _ c.args.number c.functions_in.ensures c.in-None.ensures.lookup.0
