use Rattle.std.proofs.Common.{◌∙◌, ◌-◌, refl, ap}
use Rattle.std.proofs.lemmas.Result.{IfOk-weaker}
use Rattle.std.proofs.lemmas.Bool.{lt-ltb}
use Rattle.opcode.specs.declared.op.Op.TheVariants as op
use Rattle.lua_heap.specs.State.{datum}
use Rattle.rules.specs.State.{State, Effect, need, check, register}
use Rattle.rules.specs.Calls.{join as join_of}
use Rattle.rules.specs.Step.{effect}
use Rattle.machine.specs.Frames.{showing}
use Rattle.machine.proofs.Showing.{one_need, does_from}
use Rattle.machine.proofs.words.joining.concat.Goals as goal

pub returns : goal.returns
returns c =
    let old = c.args.heap.now in
    let values = c.args.registers.now in
    let i = c.args.i in
    let last = datum old c.register-last.result in
    let next : State → Effect = λ s. join_of s i.a i.b (i.c - i.b) last in
    IfOk-weaker c.join.result _ _ (λ did does f pc.
    does_from (λ m. effect op.Concat m i) next old c.join.new.heap f values values c.join.new.registers pc did refl
    (λ m runs.
    let s = showing m old values in
    ap (λ b. check b (need (register s i.c) (λ v. join_of s i.a i.b (i.c - i.b) v))) (lt-ltb i.b i.c c.requires.order)
    ∙ one_need (register s i.c) last (λ v. join_of s i.a i.b (i.c - i.b) v) (c.register-last.ensures.value old))
    (does f pc)) c.join.ensures.does
