use Rattle.std.proofs.Common.{◌∙◌, ◌+◌, ◌<◌, length, ap, length-set, arith}
use Rattle.std.specs.Prelude.{slice_set}
use Rattle.std.proofs.lemmas.List.Elements.{All-set}
use Rattle.opcode.specs.declared.op.Op.TheVariants as op
use Rattle.lua_model.specs.Operators.{index}
use Rattle.lua_heap.specs.State.{datum, IsOf, AreOf}
use Rattle.rules.specs.State.{operand}
use Rattle.rules.specs.Step.{give, effect}
use Rattle.machine.specs.declared.did.Did.{Did}
use Rattle.machine.specs.Frames.{showing}
use Rattle.machine.proofs.Beside.{index_beside}
use Rattle.machine.proofs.Methods.{method_of, self_is, constant_operand}
use Rattle.machine.proofs.QuickSteps.{step_does, if_none}
use Rattle.machine.proofs.TableEntries.{reads_none}
use Rattle.machine.proofs.Showing.{one_need, set_does, does_from}
use Rattle.machine.proofs.words.entries.get_method_entry.Goals as goal

pub entry-requires-clause-on : goal.entry-requires-clause-on
entry-requires-clause-on c = c.register-on.ensures.known c.args.heap.now c.requires.known.registers

pub entry-requires-clause-key : goal.entry-requires-clause-key
entry-requires-clause-key c = c.constant-key.ensures.known c.args.heap.now c.requires.known.constants

pub returns-clause-some : goal.returns-clause-some
returns-clause-some c =
    let h = c.args.heap.now in
    let values = c.args.registers.now in
    let f = c.args.function.now in
    let pc = c.args.pc in
    let i = c.args.i in
    let object = c.register-on.result in
    let found = c.in_ok-found.found in
    let on = datum h object in
    let key = datum h c.constant-key.result in
    let between = slice_set values (i.a + 1) object in
    let within : i.a + 1 < length values = omega (arith, c.requires.a) in
    let room : i.a < length between = omega (arith, c.requires.a, length-set values (i.a + 1) object) in
    let known : AreOf h between = All-set (IsOf h) values (i.a + 1) object (c.register-on.ensures.known h c.requires.known.registers) c.requires.known.registers in
    step_does Did.Next tt
    (does_from (λ m. effect op.Self_ m i) (method_of on i) h h f values between (slice_set between i.a found) pc Did.Next (length-set values (i.a + 1) object)
    (λ m runs. self_is m h values i object within (c.register-on.ensures.value h))
    (set_does (method_of on i) h f between pc i.a found known c.in_ok-found.ensures.known room
    (λ m runs.
    let s = showing m h between in
    one_need (operand s i.c) key (λ key. give s i.a (index s.store on key)) (constant_operand s i.c c.if-i-lt256.false ∙ c.constant-key.ensures.value h m pc runs)
    ∙ ap (give s i.a) (index_beside h m.store.hosts on key ∙ c.in_ok-found.ensures.value))))

pub returns-in_err-found-clause-taken : goal.returns-in_err-found-clause-taken
returns-in_err-found-clause-taken c =
    let h = c.args.heap.now in
    let values = c.args.registers.now in
    let i = c.args.i in
    if_none c.from_residual.result _ (λ m runs above needs. reads_none h m values i (datum h c.register-on.result) (datum h c.constant-key.result) (c.register-on.ensures.value h) (constant_operand (showing m h values) i.c c.if-i-lt256.false ∙ c.constant-key.ensures.value h m c.args.pc runs) c.in_err-found.ensures.none needs)
