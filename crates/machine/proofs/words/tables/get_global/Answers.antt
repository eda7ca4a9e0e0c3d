use Rattle.std.proofs.Common.{ap, sym, ◌∙◌}
use Rattle.opcode.specs.declared.op.Op.TheVariants as op
use Rattle.lua_model.specs.Store.{global}
use Rattle.rules.specs.State.{set}
use Rattle.rules.specs.Step.{effect}
use Rattle.machine.specs.Frames.{showing}
use Rattle.machine.proofs.Showing.{set_does, name_need, shown_runs}
use Rattle.machine.proofs.words.tables.get_global.Goals as goal

pub returns-clause-does : goal.returns-clause-does
returns-clause-does c pc =
    let h = c.args.heap.now in
    let values = c.args.registers.now in
    let f = c.args.function.now in
    let i = c.args.i in
    set_does (λ m. effect op.GetGlobal m i) h f values pc i.a c.global.result c.requires.known.registers c.global.ensures.known c.requires.a
    (λ m runs.
    let s = showing m h values in
    name_need s h f pc i.bx c.name.result (shown_runs m h f values pc runs) c.name.ensures (λ name. set s i.a (global s.store name))
    ∙ ap (set s i.a) (sym c.global.ensures.value))
