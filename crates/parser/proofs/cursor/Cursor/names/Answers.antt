use Rattle.std.proofs.Common.{rules, append-nil}
use Rattle.parser.proofs.Steps.{steps, finds_names, lead_call, finds, lead_leave, lead_give}
use Rattle.parser.proofs.LoopSteps.{name_turn}
use Rattle.parser.proofs.cursor.Cursor.names.Goals as goal

pub returns-in_err-name-clause-refused : goal.returns-in_err-name-clause-refused
returns-in_err-name-clause-refused c = search (rules, steps, c.loop-alloc.invariant.leads) depth 14

pub loop-alloc-preserved : goal.loop-alloc-preserved
loop-alloc-preserved c = record {
  leads = λ outcome l. c.loop-alloc.invariant.leads outcome (name_turn c.loop-alloc.names c.accept.ensures.accepted c.loop-alloc-test.true c.in_ok-name.ensures.found (rw (← c.in_ok-push-2.ensures.ok) l));
  shorter = search (rules);
}

pub returns-clause-found : goal.returns-clause-found
returns-clause-found c = finds_names (c.loop-alloc.invariant.leads _ (lead_call (finds (lead_leave c.accept.ensures.accepted c.loop-alloc-test.false lead_give)) (rw append-nil lead_give)))
