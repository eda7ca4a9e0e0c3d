use Rattle.std.proofs.Common.{rules, append-nil}
use Rattle.parser.proofs.Steps.{steps, lead_call, lead_accept, lead_leave, finds, lead_no, lead_give}
use Rattle.parser.proofs.LoopSteps.{parameter_turn}
use Rattle.parser.proofs.cursor.Cursor.parameters.Goals as goal

pub returns-then-is-clause-found : goal.returns-then-is-clause-found
returns-then-is-clause-found c = rw c.new-names.ensures (search (rules, steps) depth 12)

pub loop-alloc-init : goal.loop-alloc-init
loop-alloc-init c = record {
  leads = λ outcome l. lead_no c.is.ensures c.if-is.false (rw c.new-names.ensures at l);
  shorter = search rules;
}

pub returns-then-accept-clause-found : goal.returns-then-accept-clause-found
returns-then-accept-clause-found c = finds (c.loop-alloc.invariant.leads _
    (lead_call (finds (lead_accept c.accept.ensures.accepted c.if-accept.true lead_give)) (rw append-nil lead_give)))

pub returns-in_err-name-clause-refused : goal.returns-in_err-name-clause-refused
returns-in_err-name-clause-refused c = search (rules, steps, c.loop-alloc.invariant.leads) depth 14

pub returns-then-not-accept-clause-found : goal.returns-then-not-accept-clause-found
returns-then-not-accept-clause-found c = finds (c.loop-alloc.invariant.leads _ (rw c.in_ok-push.ensures.ok
    (lead_call (finds (lead_leave c.accept.ensures.accepted c.if-accept.false (lead_call c.in_ok-name.ensures.found (lead_call (finds (lead_leave c.accept-in-loop-alloc.ensures.accepted c.if-not-accept.true lead_give)) lead_give)))) lead_give)))

pub loop-alloc-preserved : goal.loop-alloc-preserved
loop-alloc-preserved c = record {
  leads = λ outcome l. c.loop-alloc.invariant.leads outcome
      (parameter_turn c.loop-alloc.names c.accept.ensures.accepted c.if-accept.false c.in_ok-name.ensures.found c.accept-in-loop-alloc.ensures.accepted c.if-not-accept.false (rw (← c.in_ok-push.ensures.ok) l));
  shorter = search rules;
}
