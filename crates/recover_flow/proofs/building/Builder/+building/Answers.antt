use Rattle.std.proofs.Common.{◌∙◌, None, Some, subst, sym, ap, arith}
use Rattle.std.proofs.lemmas.List.{drop_all, drop_more}
use Rattle.lua_tree.specs.Joins.{join_branches}
use Rattle.lua_tree.specs.Syntax.{no_branches}
use Rattle.lua_tree.specs.TreeLists.{statements_of}
use Rattle.lua_tree.specs.View.{view_arms, view_block, view_exp, view_statement}
use Rattle.recover_flow.specs.Held.{BodyHeld, ConditionHeld, view_store}
use Rattle.recover_flow.specs.Parts.{parts_of}
use Rattle.recover_flow.specs.Plans.{body_levels}
use Rattle.recover_flow.specs.declared.plan.Rest.{Rest}
use Rattle.recover_flow.proofs.Builds.{PlansLeft, arm_built, arm_view, arms_built, block_gone, body_held, fewer_inside, handed_on, kept_with, last_built, last_gone, lower_behind, no_body, no_rest, none_left, one_built, one_gone, plan_built, plan_gone, plan_kept, rest_kept, test_gone, while_built, while_empty, while_untested}
use Rattle.recover_flow.proofs.Joinings.{gone_where}
use Rattle.recover_flow.proofs.building.Builder.+building.Goals as goal

pub append_body-returns-in_default-clause-gone : goal.append_body-returns-in_default-clause-gone
append_body-returns-in_default-clause-gone t c = λ steps plans held enough. no_body steps _ c.args.body plans c.in_default.ensures held

pub append_body-returns-in_err-append_planned-clause-gone :
    goal.append_body-returns-in_err-append_planned-clause-gone
append_body-returns-in_err-append_planned-clause-gone t c =
    handed_on _ c.from_residual.result _ c.from_residual.ensures.1
    (λ steps plans held enough. c.in_err-append_planned.ensures.gone steps plans (body_held steps _ c.args.body _ plans c.in-Some.ensures held) enough)

pub append_body-returns-clause-built : goal.append_body-returns-clause-built
append_body-returns-clause-built t c = λ steps plans held. c.in_ok-append_planned.ensures.built steps plans (body_held steps _ c.args.body _ plans c.in-Some.ensures held)

pub append_planned-returns-in_err-statement-clause-gone :
    goal.append_planned-returns-in_err-statement-clause-gone
append_planned-returns-in_err-statement-clause-gone t c =
    handed_on _ c.from_residual.result _ c.from_residual.ensures.1
    (λ steps plans held enough.
    let left = c.loop-next.invariant.1 steps plans held in
    let split = drop_more c.args.planned.now c.loop-next.next-index _ (omega (arith, c.loop-next-test.true)) in
    one_gone steps (view_store c.args.self.now.memory.now) (statements_of c.args.statements.now.items) plans (parts_of c.args.self.now.parts) (statements_of c.loop-next.statements.items) _ _ (parts_of c.loop-next.self.parts) c.args.levels _
    (subst (λ those. PlansLeft steps (view_store c.args.self.now.memory.now) (statements_of c.args.statements.now.items) plans (parts_of c.args.self.now.parts) (statements_of c.loop-next.statements.items) those (parts_of c.loop-next.self.parts)) split left)
    enough
    (λ tree first needs. c.in_err-statement.ensures.gone steps tree (plan_kept steps c.args.self.now.memory c.loop-next.self.memory _ tree c.loop-next.invariant.0 first) needs))

pub append_planned-loop-next-preserved : goal.append_planned-loop-next-preserved
append_planned-loop-next-preserved t c = (
  c.in_ok-statement.ensures.kept ∙ c.loop-next.invariant.0,
  λ steps plans held.
      let left = c.loop-next.invariant.1 steps plans held in
      let split = drop_more c.args.planned.now c.loop-next.next-index _ (omega (arith, c.loop-next-test.true)) in
      one_built steps (view_store c.args.self.now.memory.now) (statements_of c.args.statements.now.items) plans (parts_of c.args.self.now.parts) (statements_of c.loop-next.statements.items) _ _ (parts_of c.loop-next.self.parts) (view_statement c.in_ok-statement.statement) _ (parts_of c.statement.new.self.parts)
      (subst (λ those. PlansLeft steps (view_store c.args.self.now.memory.now) (statements_of c.args.statements.now.items) plans (parts_of c.args.self.now.parts) (statements_of c.loop-next.statements.items) those (parts_of c.loop-next.self.parts)) split left)
      (λ tree first. c.in_ok-statement.ensures.built steps tree (plan_kept steps c.args.self.now.memory c.loop-next.self.memory _ tree c.loop-next.invariant.0 first))
      c.in_ok-append.ensures,
)

pub append_planned-returns-clause-built : goal.append_planned-returns-clause-built
append_planned-returns-clause-built t c = λ steps plans held.
    let left = c.loop-next.invariant.1 steps plans held in
    none_left steps (view_store c.args.self.now.memory.now) (statements_of c.args.statements.now.items) plans (parts_of c.args.self.now.parts) (statements_of c.loop-next.statements.items) (parts_of c.loop-next.self.parts)
    (subst (λ those. PlansLeft steps (view_store c.args.self.now.memory.now) (statements_of c.args.statements.now.items) plans (parts_of c.args.self.now.parts) (statements_of c.loop-next.statements.items) those (parts_of c.loop-next.self.parts)) (drop_all c.loop-next.next-index c.args.planned.now (omega (arith, c.loop-next-test.false))) left)

pub statement-returns-in_err-statement-in-Step-clause-gone :
    goal.statement-returns-in_err-statement-in-Step-clause-gone
statement-returns-in_err-statement-in-Step-clause-gone t c =
    handed_on _ c.from_residual.result _ c.from_residual.ensures.1
    (λ steps tree held. plan_gone steps _ (parts_of c.args.self.now.parts) c.args.levels _ c.args.plan _ tree c.in-Step.is held (λ enough. c.in_err-statement-in-Step.ensures.gone))

pub statement-returns-in_ok-statement-in-Step-clause-built :
    goal.statement-returns-in_ok-statement-in-Step-clause-built
statement-returns-in_ok-statement-in-Step-clause-built t c = λ steps tree held.
    plan_built steps _ (view_statement c.in_ok-statement-in-Step.statement) (parts_of c.statement.new.self) (parts_of c.args.self.now.parts) c.args.plan _ tree c.in-Step.is held (c.in_ok-statement-in-Step.ensures.taken)

pub statement-returns-in_err-statement-in-End-clause-gone :
    goal.statement-returns-in_err-statement-in-End-clause-gone
statement-returns-in_err-statement-in-End-clause-gone t c =
    handed_on _ c.from_residual-in_err-statement-in-End.result _ c.from_residual-in_err-statement-in-End.ensures.1
    (λ steps tree held. plan_gone steps _ (parts_of c.args.self.now.parts) c.args.levels _ c.args.plan _ tree c.in-End.is held (λ enough. c.in_err-statement-in-End.ensures.gone))

pub statement-returns-in_ok-statement-in-End-clause-built :
    goal.statement-returns-in_ok-statement-in-End-clause-built
statement-returns-in_ok-statement-in-End-clause-built t c = λ steps tree held.
    plan_built steps _ (view_statement c.in_ok-statement-in-End.statement) (parts_of c.ending.new.self.parts) (parts_of c.args.self.now.parts) c.args.plan _ tree c.in-End.is held (c.in_ok-statement-in-End.ensures.built)

pub statement-returns-in_err-statement-in-Do-clause-gone :
    goal.statement-returns-in_err-statement-in-Do-clause-gone
statement-returns-in_err-statement-in-Do-clause-gone t c =
    handed_on _ c.from_residual-in_err-statement-in-Do.result _ c.from_residual-in_err-statement-in-Do.ensures.1
    (λ steps tree held. plan_gone steps _ (parts_of c.args.self.now.parts) c.args.levels _ c.args.plan _ tree c.in-Do.is held (λ body there enough. c.in_err-statement-in-Do.ensures.gone steps body there (fewer_inside _ (body_levels steps body) c.args.levels enough)))

pub statement-returns-in_ok-statement-in-Do-clause-built :
    goal.statement-returns-in_ok-statement-in-Do-clause-built
statement-returns-in_ok-statement-in-Do-clause-built t c = λ steps tree held.
    plan_built steps _ (view_statement c.in_ok-statement-in-Do.statement) (parts_of c.scope.new.self.parts) (parts_of c.args.self.now.parts) c.args.plan _ tree c.in-Do.is held (c.in_ok-statement-in-Do.ensures.built steps)

pub statement-returns-in_err-statement-in-For-clause-gone :
    goal.statement-returns-in_err-statement-in-For-clause-gone
statement-returns-in_err-statement-in-For-clause-gone t c =
    handed_on _ c.from_residual-in_err-statement-in-For.result _ c.from_residual-in_err-statement-in-For.ensures.1
    (λ steps tree held. plan_gone steps _ (parts_of c.args.self.now.parts) c.args.levels _ c.args.plan _ tree c.in-For.is held (λ body there enough. c.in_err-statement-in-For.ensures.gone steps body there (fewer_inside _ (body_levels steps body) c.args.levels enough)))

pub statement-returns-in_ok-statement-in-For-clause-built :
    goal.statement-returns-in_ok-statement-in-For-clause-built
statement-returns-in_ok-statement-in-For-clause-built t c = λ steps tree held.
    plan_built steps _ (view_statement c.in_ok-statement-in-For.statement) (parts_of c.counted.new.self.parts) (parts_of c.args.self.now.parts) c.args.plan _ tree c.in-For.is held (c.in_ok-statement-in-For.ensures.built steps)

pub statement-returns-in_err-statement-in-While-clause-gone :
    goal.statement-returns-in_err-statement-in-While-clause-gone
statement-returns-in_err-statement-in-While-clause-gone t c =
    handed_on _ c.from_residual-in_err-statement-in-While.result _ c.from_residual-in_err-statement-in-While.ensures.1
    (λ steps tree held. plan_gone steps _ (parts_of c.args.self.now.parts) c.args.levels _ c.args.plan _ tree c.in-While.is held (λ condition body tested there enough. c.in_err-statement-in-While.ensures.gone steps condition body tested there (fewer_inside _ (body_levels steps body) c.args.levels enough)))

pub statement-returns-in_ok-statement-in-While-clause-built :
    goal.statement-returns-in_ok-statement-in-While-clause-built
statement-returns-in_ok-statement-in-While-clause-built t c = λ steps tree held.
    plan_built steps _ (view_statement c.in_ok-statement-in-While.statement) (parts_of c.while_loop.new.self.parts) (parts_of c.args.self.now.parts) c.args.plan _ tree c.in-While.is held (c.in_ok-statement-in-While.ensures.built steps)

pub statement-returns-in_err-statement-in-Repeat-clause-gone :
    goal.statement-returns-in_err-statement-in-Repeat-clause-gone
statement-returns-in_err-statement-in-Repeat-clause-gone t c =
    handed_on _ c.from_residual-in_err-statement-in-Repeat.result _ c.from_residual-in_err-statement-in-Repeat.ensures.1
    (λ steps tree held. plan_gone steps _ (parts_of c.args.self.now.parts) c.args.levels _ c.args.plan _ tree c.in-Repeat.is held (λ body condition there tested enough. c.in_err-statement-in-Repeat.ensures.gone steps body condition there tested (fewer_inside _ (body_levels steps body) c.args.levels enough)))

pub statement-returns-in_ok-statement-in-Repeat-clause-built :
    goal.statement-returns-in_ok-statement-in-Repeat-clause-built
statement-returns-in_ok-statement-in-Repeat-clause-built t c = λ steps tree held.
    plan_built steps _ (view_statement c.in_ok-statement-in-Repeat.statement) (parts_of c.repeat_loop.new.self.parts) (parts_of c.args.self.now.parts) c.args.plan _ tree c.in-Repeat.is held (c.in_ok-statement-in-Repeat.ensures.built steps)

pub statement-returns-in_err-statement-in-If-clause-gone :
    goal.statement-returns-in_err-statement-in-If-clause-gone
statement-returns-in_err-statement-in-If-clause-gone t c =
    handed_on _ c.from_residual-in_err-statement-in-If.result _ c.from_residual-in_err-statement-in-If.ensures.1
    (λ steps tree held. plan_gone steps _ (parts_of c.args.self.now.parts) c.args.levels _ c.args.plan _ tree c.in-If.is held (c.in_err-statement-in-If.ensures.gone steps))

pub statement-returns-in_ok-statement-in-If-clause-built :
    goal.statement-returns-in_ok-statement-in-If-clause-built
statement-returns-in_ok-statement-in-If-clause-built t c = λ steps tree held.
    plan_built steps _ (view_statement c.in_ok-statement-in-If.statement) (parts_of c.branches.new.self.parts) (parts_of c.args.self.now.parts) c.args.plan _ tree c.in-If.is held (c.in_ok-statement-in-If.ensures.built steps)

pub while_loop-returns-in_err-cond-clause-gone : goal.while_loop-returns-in_err-cond-clause-gone
while_loop-returns-in_err-cond-clause-gone t c =
    handed_on _ c.from_residual.result _ c.from_residual.ensures.1
    (λ steps tree plans tested held enough. gone_where _ (while_untested tree plans (parts_of c.args.self.now.parts)) (c.in_err-cond.ensures.gone (Some tree) tested))

pub while_loop-returns-in_err-body-clause-gone : goal.while_loop-returns-in_err-body-clause-gone
while_loop-returns-in_err-body-clause-gone t c =
    handed_on _ c.from_residual-in_err-body.result _ c.from_residual-in_err-body.ensures.1
    (λ steps tree plans tested held enough. gone_where _
    (while_empty tree plans (parts_of c.args.self.now.parts) (parts_of c.condition.new.self.parts) (view_exp c.in_ok-cond.cond) (c.in_ok-cond.ensures.built (Some tree) tested))
    (c.in_err-body.ensures.gone steps plans (kept_with (λ store. BodyHeld steps store c.args.body plans) c.args.self.now.memory c.condition.new.self.memory c.in_ok-cond.ensures.kept held) enough))

pub while_loop-returns-clause-built : goal.while_loop-returns-clause-built
while_loop-returns-clause-built t c = λ steps tree plans tested held.
    while_built tree plans (parts_of c.args.self.now.parts) (parts_of c.condition.new.self.parts) (parts_of c.inner.new.self.parts) (view_exp c.in_ok-cond.cond) (view_block c.in_ok-body.body) (c.in_ok-cond.ensures.built (Some tree) tested)
    (c.in_ok-body.ensures.built steps plans (kept_with (λ store. BodyHeld steps store c.args.body plans) c.args.self.now.memory c.condition.new.self.memory c.in_ok-cond.ensures.kept held))

pub branches-returns-in_default-clause-gone : goal.branches-returns-in_default-clause-gone
branches-returns-in_default-clause-gone t c = λ steps arms held enough.
    let left = c.loop-rest.invariant.1 steps arms held in
    no_rest steps (view_store c.args.self.now.memory.now) c.loop-rest.number left.rest (rest_kept c.args.self.now.memory c.loop-rest.self.memory c.loop-rest.number None c.loop-rest.invariant.0 c.in_default.ensures) left.held

pub branches-returns-in-Nothing-clause-built : goal.branches-returns-in-Nothing-clause-built
branches-returns-in-Nothing-clause-built t c = λ steps arms held.
    arms_built steps (view_store c.args.self.now.memory.now) arms (parts_of c.args.self.now.parts) (view_arms c.loop-rest.arms) c.loop-rest.number (parts_of c.loop-rest.self.parts)
    (rest_kept c.args.self.now.memory c.loop-rest.self.memory c.loop-rest.number (Some Rest.Nothing) c.loop-rest.invariant.0 (ap Some (sym c.in-Nothing.is) ∙ c.in-Some.ensures))
    (c.loop-rest.invariant.1 steps arms held)

pub branches-returns-in_err-last-in-Last-clause-gone :
    goal.branches-returns-in_err-last-in-Last-clause-gone
branches-returns-in_err-last-in-Last-clause-gone t c =
    handed_on _ c.from_residual.result _ c.from_residual.ensures.1
    (λ steps arms held enough. last_gone steps (view_store c.args.self.now.memory.now) arms (parts_of c.args.self.now.parts) (view_arms c.loop-rest.arms) c.loop-rest.number (parts_of c.loop-rest.self.parts) c.in-Last.body c.args.levels _
    (rest_kept c.args.self.now.memory c.loop-rest.self.memory c.loop-rest.number (Some (Rest.Last c.in-Last.body)) c.loop-rest.invariant.0 (ap Some (sym c.in-Last.is) ∙ c.in-Some.ensures))
    (c.loop-rest.invariant.1 steps arms held) enough
    (λ body there needs. c.in_err-last-in-Last.ensures.gone steps body (kept_with (λ store. BodyHeld steps store c.in-Last.body body) c.args.self.now.memory c.loop-rest.self.memory c.loop-rest.invariant.0 there) needs))

pub branches-returns-in-Last-clause-built : goal.branches-returns-in-Last-clause-built
branches-returns-in-Last-clause-built t c = λ steps arms held.
    last_built steps (view_store c.args.self.now.memory.now) arms (parts_of c.args.self.now.parts) (view_arms c.loop-rest.arms) c.loop-rest.number (parts_of c.loop-rest.self.parts) c.in-Last.body (view_block c.in_ok-last-in-Last.last) (parts_of c.inner.new.self.parts)
    (rest_kept c.args.self.now.memory c.loop-rest.self.memory c.loop-rest.number (Some (Rest.Last c.in-Last.body)) c.loop-rest.invariant.0 (ap Some (sym c.in-Last.is) ∙ c.in-Some.ensures))
    (c.loop-rest.invariant.1 steps arms held)
    (λ body there. c.in_ok-last-in-Last.ensures.built steps body (kept_with (λ store. BodyHeld steps store c.in-Last.body body) c.args.self.now.memory c.loop-rest.self.memory c.loop-rest.invariant.0 there))

pub branches-returns-then-behind-number-clause-gone :
    goal.branches-returns-then-behind-number-clause-gone
branches-returns-then-behind-number-clause-gone t c = λ steps arms held enough.
    let left = c.loop-rest.invariant.1 steps arms held in
    let low = lower_behind steps (view_store c.args.self.now.memory.now) c.loop-rest.number left.rest c.in-Arm.condition c.in-Arm.body c.in-Arm.behind
    (rest_kept c.args.self.now.memory c.loop-rest.self.memory c.loop-rest.number (Some (Rest.Arm c.in-Arm.condition c.in-Arm.body c.in-Arm.behind)) c.loop-rest.invariant.0 (ap Some (sym c.in-Arm.is) ∙ c.in-Some.ensures)) left.held in
    absurd (omega (arith, low, c.if-behind-number.true))

pub branches-returns-in_err-cond-in-Arm-clause-gone :
    goal.branches-returns-in_err-cond-in-Arm-clause-gone
branches-returns-in_err-cond-in-Arm-clause-gone t c =
    handed_on _ c.from_residual-in_err-cond-in-Arm.result _ c.from_residual-in_err-cond-in-Arm.ensures.1
    (λ steps arms held enough. test_gone steps (view_store c.args.self.now.memory.now) arms (parts_of c.args.self.now.parts) (view_arms c.loop-rest.arms) c.loop-rest.number (parts_of c.loop-rest.self.parts) c.in-Arm.condition c.in-Arm.body c.in-Arm.behind _
    (rest_kept c.args.self.now.memory c.loop-rest.self.memory c.loop-rest.number (Some (Rest.Arm c.in-Arm.condition c.in-Arm.body c.in-Arm.behind)) c.loop-rest.invariant.0 (ap Some (sym c.in-Arm.is) ∙ c.in-Some.ensures))
    (c.loop-rest.invariant.1 steps arms held)
    (λ condition tested. c.in_err-cond-in-Arm.ensures.gone condition (kept_with (λ store. ConditionHeld store c.in-Arm.condition condition) c.args.self.now.memory c.loop-rest.self.memory c.loop-rest.invariant.0 tested)))

pub branches-returns-in_err-body-in-Arm-clause-gone :
    goal.branches-returns-in_err-body-in-Arm-clause-gone
branches-returns-in_err-body-in-Arm-clause-gone t c =
    handed_on _ c.from_residual-in_err-body-in-Arm.result _ c.from_residual-in_err-body-in-Arm.ensures.1
    (λ steps arms held enough. block_gone steps (view_store c.args.self.now.memory.now) arms (parts_of c.args.self.now.parts) (view_arms c.loop-rest.arms) c.loop-rest.number (parts_of c.loop-rest.self.parts) c.in-Arm.condition c.in-Arm.body c.in-Arm.behind c.args.levels (view_exp c.in_ok-cond-in-Arm.cond) (parts_of c.condition.new.self.parts) _
    (rest_kept c.args.self.now.memory c.loop-rest.self.memory c.loop-rest.number (Some (Rest.Arm c.in-Arm.condition c.in-Arm.body c.in-Arm.behind)) c.loop-rest.invariant.0 (ap Some (sym c.in-Arm.is) ∙ c.in-Some.ensures))
    (c.loop-rest.invariant.1 steps arms held) enough
    (λ condition tested. c.in_ok-cond-in-Arm.ensures.built condition (kept_with (λ store. ConditionHeld store c.in-Arm.condition condition) c.args.self.now.memory c.loop-rest.self.memory c.loop-rest.invariant.0 tested))
    (λ body there needs. c.in_err-body-in-Arm.ensures.gone steps body (kept_with (λ store. BodyHeld steps store c.in-Arm.body body) c.args.self.now.memory c.condition.new.self.memory (c.in_ok-cond-in-Arm.ensures.kept ∙ c.loop-rest.invariant.0) there) needs))

pub branches-loop-rest-preserved : goal.branches-loop-rest-preserved
branches-loop-rest-preserved t c = (
  c.in_ok-body-in-Arm.ensures.kept ∙ c.in_ok-cond-in-Arm.ensures.kept ∙ c.loop-rest.invariant.0,
  λ steps arms held. arm_built steps (view_store c.args.self.now.memory.now) arms (parts_of c.args.self.now.parts) (view_arms c.loop-rest.arms) c.loop-rest.number (parts_of c.loop-rest.self.parts) c.in-Arm.condition c.in-Arm.body c.in-Arm.behind (view_exp c.in_ok-cond-in-Arm.cond) (parts_of c.condition.new.self.parts) (view_block c.in_ok-body-in-Arm.body) (parts_of c.inner-in-Arm.new.self.parts) (view_arms c.push.new.self)
      (rest_kept c.args.self.now.memory c.loop-rest.self.memory c.loop-rest.number (Some (Rest.Arm c.in-Arm.condition c.in-Arm.body c.in-Arm.behind)) c.loop-rest.invariant.0 (ap Some (sym c.in-Arm.is) ∙ c.in-Some.ensures))
      (c.loop-rest.invariant.1 steps arms held)
      (λ condition tested. c.in_ok-cond-in-Arm.ensures.built condition (kept_with (λ store. ConditionHeld store c.in-Arm.condition condition) c.args.self.now.memory c.loop-rest.self.memory c.loop-rest.invariant.0 tested))
      (λ body there. c.in_ok-body-in-Arm.ensures.built steps body (kept_with (λ store. BodyHeld steps store c.in-Arm.body body) c.args.self.now.memory c.condition.new.self.memory (c.in_ok-cond-in-Arm.ensures.kept ∙ c.loop-rest.invariant.0) there))
      (c.in_ok-push-in-Arm.ensures.view ∙ ap (join_branches (view_arms c.loop-rest.arms)) (arm_view c.in_ok-cond-in-Arm.cond c.in_ok-body-in-Arm.body no_branches)),
)
