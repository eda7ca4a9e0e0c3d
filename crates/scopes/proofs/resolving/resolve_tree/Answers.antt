use Rattle.std.proofs.Common.{rules, arith, ◌∙◌}
use Rattle.std.proofs.lemmas.Grind.{common_steps}
use Rattle.lua_tree.specs.View.{view_tree}
use Rattle.lua_tree.specs.Outline.{outline}
use Rattle.scopes.specs.Faults.{StopsBy}
use Rattle.scopes.specs.Standing.{Sound}
use Rattle.scopes.proofs.Beginnings.{answers_whole, breach_whole, answers_resolved}
use Rattle.scopes.proofs.LoopSteps.{fault_on}
use Rattle.scopes.proofs.resolving.resolve_tree.Goals as goal

pub returns-in_err-statements-clause-fault : goal.returns-in_err-statements-clause-fault
returns-in_err-statements-clause-fault c =
    let sound : Sound c.open.new.self = first_of (search rules, grind (arith, common_steps)) in
    fault_on (StopsBy (view_tree c.args.tree.now)) _ _ c.from_residual-in_err-statements.ensures.1
    (breach_whole (view_tree c.args.tree.now) (record { locals = c.new.ensures.items; stack = c.new-2.ensures.items; names = c.new-3.ensures.items; captured = c.new-4.ensures.items; functions = c.new-5.ensures.items }) c.in_ok-open.ensures sound c.in_err-statements.ensures.goes)

pub returns-clause-scoped : goal.returns-clause-scoped
returns-clause-scoped c =
    let sound : Sound c.open.new.self = first_of (search rules, grind (arith, common_steps)) in
    (answers_whole (view_tree c.args.tree.now) (record { locals = c.new.ensures.items; stack = c.new-2.ensures.items; names = c.new-3.ensures.items; captured = c.new-4.ensures.items; functions = c.new-5.ensures.items }) c.in_ok-open.ensures sound c.in_ok-statements.ensures.goes).keeps

pub returns-clause-scopes : goal.returns-clause-scopes
returns-clause-scopes c =
    let sound : Sound c.open.new.self = first_of (search rules, grind (arith, common_steps)) in
    c.new-6.ensures ∙ answers_resolved c.statements.new.self (outline (view_tree c.args.tree.now))
    (answers_whole (view_tree c.args.tree.now) (record { locals = c.new.ensures.items; stack = c.new-2.ensures.items; names = c.new-3.ensures.items; captured = c.new-4.ensures.items; functions = c.new-5.ensures.items }) c.in_ok-open.ensures sound c.in_ok-statements.ensures.goes)
