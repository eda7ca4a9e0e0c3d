use Rattle.std.proofs.Common.{SFits, w64, to_z-of_z, rules, ◌==◌, Some, ap, sym, ◌∙◌}
use Rattle.lua_model.specs.Operators.{compare}
use Rattle.lua_model.specs.Datum.{number}
use Rattle.rules.specs.State.{need, operand}
use Rattle.rules.specs.Calls.{branch}
use Rattle.rules.specs.Step.{give_test, do_compare}
use Rattle.machine.specs.Frames.{showing}
use Rattle.machine.proofs.QuickSteps.{step_at, numbered}
use Rattle.machine.proofs.Showing.{jmp_need, two_needs, shown_runs, same_does}
use Rattle.machine.proofs.words.in_place.quick_compare.Goals as goal

pub returns-clause-some : goal.returns-clause-some
returns-clause-some c h known =
    let values = c.args.registers.now in
    let f = c.args.function.now in
    let pc = c.args.pc in
    let i = c.args.i in
    let op = c.args.op in
    let did = c.branch-function.result in
    let x = c.in-Some.x in
    let y = c.in-Some-number.y in
    let x_fits : SFits w64 x = search rules in
    let y_fits : SFits w64 y = search rules in
    let compared = simp to_z-of_z at c.compared-holds.ensures in
    step_at did c.pc_behind.result c.branch-function.ensures.step c.pc_behind.ensures
    (same_does (λ m. do_compare op m i) h f values pc did known.registers (c.branch-function.ensures.known h) (c.branch-function.ensures.awaited f values pc)
    (λ m runs.
    let s = showing m h values in
    jmp_need s h f pc c.requires.jmp (shown_runs m h f values pc runs) (λ distance. need (operand s i.b) (λ x. need (operand s i.c) (λ y. give_test s i.a (compare s.store op x y))))
    ∙ two_needs (operand s i.b) (operand s i.c) (number x) (number y) (λ x y. give_test s i.a (compare s.store op x y))
    (c.operand.ensures.value h m pc runs ∙ ap Some (numbered h c.operand.result x (sym c.number.ensures ∙ c.in-Some.is)))
    (c.operand-2.ensures.value h m pc runs ∙ ap Some (numbered h c.operand-2.result y (sym c.number-2.ensures ∙ c.in-Some-number.is)))
    ∙ ap (λ act. give_test s i.a act) (compared s.store)
    ∙ ap (λ n. branch s (n == i.a)) (sym c.from.ensures)
    ∙ c.branch-function.ensures.did h s (shown_runs m h f values pc runs)))
