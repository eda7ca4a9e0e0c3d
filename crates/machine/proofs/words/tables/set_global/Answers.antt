use Rattle.std.proofs.Common.{ap, ◌∙◌, get_or, []}
use Rattle.opcode.specs.declared.op.Op.TheVariants as op
use Rattle.lua_model.specs.Store.{with_global}
use Rattle.lua_heap.specs.State.{datum, own_store, store_of}
use Rattle.rules.specs.State.{Goes, need, register, with_store}
use Rattle.rules.specs.Step.{effect}
use Rattle.machine.specs.Frames.{showing}
use Rattle.machine.proofs.Showing.{one_need, name_need, shown_runs}
use Rattle.machine.proofs.Stores.{store_does, only_this_store}
use Rattle.machine.proofs.words.tables.set_global.Goals as goal

pub returns : goal.returns
returns c pc =
    let old = c.args.heap.now in
    let new = c.set_global.new.self in
    let values = c.args.registers.now in
    let f = c.args.function.now in
    let i = c.args.i in
    let name = get_or old.texts c.name.result.index [] in
    let v = datum old c.register.result in
    let state = c.in_ok-set_global.ensures.state in
    store_does (λ m. effect op.SetGlobal m i) old new f values pc (λ s. with_global s name v) c.requires.known.registers c.set_global.ensures.keeps
    (only_this_store old new (with_global (own_store old) name v) state)
    (λ hosts. ap (λ h. store_of h hosts) state)
    (λ m runs.
    let s = showing m old values in
    name_need s old f pc i.bx c.name.result (shown_runs m old f values pc runs) c.name.ensures (λ name. need (register s i.a) (λ v. Goes (with_store s (with_global s.store name v))))
    ∙ one_need (register s i.a) v (λ v. Goes (with_store s (with_global s.store name v))) (c.register.ensures.value old))
