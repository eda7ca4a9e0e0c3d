use Rattle.std.proofs.Common.{◌∙◌, ◌==◌, not, sym, ap}
use Rattle.opcode.specs.declared.op.Op.TheVariants as op
use Rattle.opcode.specs.Word.{truth_field}
use Rattle.lua_model.specs.Datum.{is_true}
use Rattle.lua_heap.specs.State.{datum}
use Rattle.rules.specs.State.{register}
use Rattle.rules.specs.Calls.{branch}
use Rattle.rules.specs.Step.{effect}
use Rattle.machine.specs.Frames.{showing}
use Rattle.machine.proofs.Showing.{one_need, shown_runs, same_does}
use Rattle.machine.proofs.words.tests.test.Goals as goal

pub returns-clause-does : goal.returns-clause-does
returns-clause-does c h known =
    let values = c.args.registers.now in
    let f = c.args.function.now in
    let i = c.args.i in
    same_does (λ m. effect op.Test m i) h f values c.args.pc c.branch-function.result known (c.branch-function.ensures.known h) (c.branch-function.ensures.awaited f values c.args.pc)
    (λ m runs.
    let s = showing m h values in
    one_need (register s i.a) (datum h c.register.result) (λ v. branch s (not (truth_field (not (is_true v)) == i.c))) (c.register.ensures.value h)
    ∙ ap (λ n. branch s (not (n == i.c))) (sym (c.false_field.ensures h))
    ∙ c.branch-function.ensures.did h s (shown_runs m h f values c.args.pc runs))
