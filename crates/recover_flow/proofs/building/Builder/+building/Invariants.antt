-- Each call within the building has fewer levels, or is of a lower rank.
use Rattle.std.proofs.Common.{◌≡◌, ◌+◌, ◌*◌, List, drop}
use Rattle.lua_tree.specs.TreeLists.{statements_of}
use Rattle.lua_tree.specs.View.{view_arms}
use Rattle.recover_expr.specs.declared.steps.Step.{Step}
use Rattle.recover_flow.proofs.Builds.{PlansLeft, ArmsLeft}
use Rattle.recover_flow.specs.Held.{ArmsHeld, PlansHeld, view_store}
use Rattle.recover_flow.specs.Parts.{parts_of}
use Rattle.recover_flow.specs.Plans.{Plans, ArmPlans}
use Rattle.recover_flow.proofs.building.Builder.+building.Given as goal

abbrev pub decreases-append_body : goal.decreases-append_body
decreases-append_body l = 8 * l.levels + 6

abbrev pub decreases-append_planned : goal.decreases-append_planned
decreases-append_planned l = 8 * l.levels + 5

abbrev pub decreases-block : goal.decreases-block
decreases-block l = 8 * l.levels + 7

abbrev pub decreases-branches : goal.decreases-branches
decreases-branches l = 8 * l.levels + 3

abbrev pub decreases-counted : goal.decreases-counted
decreases-counted l = 8 * l.levels + 3

abbrev pub decreases-inner : goal.decreases-inner
decreases-inner l = 8 * l.levels

abbrev pub decreases-repeat_loop : goal.decreases-repeat_loop
decreases-repeat_loop l = 8 * l.levels + 3

abbrev pub decreases-scope : goal.decreases-scope
decreases-scope l = 8 * l.levels + 3

abbrev pub decreases-statement : goal.decreases-statement
decreases-statement l = 8 * l.levels + 4

abbrev pub decreases-while_loop : goal.decreases-while_loop
decreases-while_loop l = 8 * l.levels + 3

abbrev pub invariant-append_planned-loop-next : goal.invariant-append_planned-loop-next
invariant-append_planned-loop-next l =
    (l.self.memory ≡ l.fn.self.memory) × ((steps : List Step) (plans : Plans) → PlansHeld steps (view_store l.fn.self.memory.now) l.planned plans
    → PlansLeft steps (view_store l.fn.self.memory.now) (statements_of l.fn.statements.items) plans (parts_of l.fn.self.parts) (statements_of l.statements.items) (drop l.next-index l.planned) (parts_of l.self.parts))

abbrev pub decreases-branches-loop-rest : goal.decreases-branches-loop-rest
decreases-branches-loop-rest l = l.number

abbrev pub invariant-branches-loop-rest : goal.invariant-branches-loop-rest
invariant-branches-loop-rest l =
    (l.self.memory ≡ l.fn.self.memory) × ((steps : List Step) (arms : ArmPlans) → ArmsHeld steps (view_store l.fn.self.memory.now) l.first arms
    → ArmsLeft steps (view_store l.fn.self.memory.now) arms (parts_of l.fn.self.parts) (view_arms l.arms) l.number (parts_of l.self.parts))
