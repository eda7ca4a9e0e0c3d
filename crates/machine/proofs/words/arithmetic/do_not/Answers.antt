use Rattle.std.proofs.Common.{ap, ◌∙◌, not, sym}
use Rattle.opcode.specs.declared.op.Op.TheVariants as op
use Rattle.lua_model.specs.Datum.{boolean, is_true}
use Rattle.lua_model.specs.declared.Value.{Value}
use Rattle.lua_heap.specs.State.{datum}
use Rattle.rules.specs.State.{set, register}
use Rattle.rules.specs.Step.{effect}
use Rattle.machine.specs.Frames.{showing}
use Rattle.machine.proofs.Showing.{one_need, set_does}
use Rattle.natives.proofs.Texts.{is_true_is}
use Rattle.machine.proofs.words.arithmetic.do_not.Goals as goal

pub returns-clause-does : goal.returns-clause-does
returns-clause-does c h f pc known =
    let values = c.args.registers.now in
    let i = c.args.i in
    let x = c.register-x.result in
    set_does (λ m. effect op.Not m i) h f values pc i.a (Value.Bool (not c.is_true.result)) known tt c.requires.a
    (λ m runs.
    let s = showing m h values in
    one_need (register s i.b) (datum h x) (λ x. set s i.a (boolean (not (is_true x)))) (c.register-x.ensures.value h)
    ∙ ap (λ b. set s i.a (boolean (not b))) (sym (is_true_is h x) ∙ sym c.is_true.ensures))
