use Rattle.std.proofs.Common.{◌+◌, ◌<◌, ℕ, List, length, length-set, arith}
use Rattle.std.specs.Prelude.{slice_set}
use Rattle.std.proofs.lemmas.List.Elements.{All-set}
use Rattle.opcode.specs.declared.op.Op.TheVariants as op
use Rattle.lua_model.specs.declared.Value.{Value}
use Rattle.lua_model.specs.Operators.{index}
use Rattle.lua_heap.specs.State.{HeapState, datum, IsOf}
use Rattle.rules.specs.State.{operand}
use Rattle.rules.specs.Step.{give, effect}
use Rattle.machine.specs.Frames.{showing}
use Rattle.machine.specs.declared.function.Function.{Function}
use Rattle.machine.specs.Words.{AreKnown}
use Rattle.machine.proofs.Beside.{index_beside}
use Rattle.machine.proofs.Methods.{method_of, self_is}
use Rattle.machine.proofs.Showing.{one_need, give_does, does_from}
use Rattle.machine.proofs.words.tables.get_method.Goals as goal

known_with : (h : HeapState) (f : Function) (values : List Value) (a : ℕ) (v : Value) → IsOf h v → AreKnown h f values → AreKnown h f (slice_set values a v)
known_with h f values a v of known = record {
  constants = known.constants;
  registers = All-set (IsOf h) values a v of known.registers;
}

pub index-requires-clause-key : goal.index-requires-clause-key
index-requires-clause-key c =
    let old = c.args.heap.now in
    c.operand-key.ensures.known old (known_with old c.args.function.now c.args.registers.now (c.args.i.a + 1) c.register-on.result (c.register-on.ensures.known old c.requires.known.registers) c.requires.known)

pub returns : goal.returns
returns c pc =
    let old = c.args.heap.now in
    let values = c.args.registers.now in
    let i = c.args.i in
    let object = c.register-on.result in
    let on = datum old object in
    let between = slice_set values (i.a + 1) object in
    let object_known = c.register-on.ensures.known old c.requires.known.registers in
    let known = known_with old c.args.function.now values (i.a + 1) object object_known c.requires.known in
    let key = datum old c.operand-key.result in
    let within : i.a + 1 < length values = omega (arith, c.requires.a) in
    does_from (λ m. effect op.Self_ m i) (method_of on i) old c.index.new.heap c.args.function.now values between c.give.new.registers pc c.give.result (length-set values (i.a + 1) object)
    (λ m runs. self_is m old values i object within (c.register-on.ensures.value old))
    (give_does (method_of on i) old c.index.new.heap c.args.function.now between c.give.new.registers pc i.a c.in_ok-act.act c.give.result (λ s. index s on key) known.registers c.index.ensures.only_texts c.index.ensures.keeps c.in_ok-act.ensures.act c.in_ok-act.ensures.known
    (λ hosts. index_beside old hosts on key)
    (λ m runs.
    let s = showing m old between in
    one_need (operand s i.c) key (λ key. give s i.a (index s.store on key)) (c.operand-key.ensures.value old m pc runs))
    c.give.ensures.did c.give.ensures.known c.give.ensures.registers c.give.ensures.length_is (c.give.ensures.awaited c.args.function.now pc))
