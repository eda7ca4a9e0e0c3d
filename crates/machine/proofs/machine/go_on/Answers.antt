use Rattle.std.proofs.Common.{List, [], subst}
use Rattle.std.proofs.lemmas.Result.{IfOk-weaker}
use Rattle.proto.specs.View.{view_proto}
use Rattle.machine.specs.declared.function.Function.{Function}
use Rattle.machine.specs.Outside.{around}
use Rattle.machine.specs.Ready.{IsOtherNext}
use Rattle.machine.proofs.RunSteps.{whole_in, before_such, is_ready_onwards, went_steps}
use Rattle.machine.proofs.machine.go_on.Goals as goal

pub do_row-requires-clause-safe : goal.do_row-requires-clause-safe
do_row-requires-clause-safe c =
    let (hosts, events, n, now, at) = c.requires in
    (whole_in (view_proto c.args.chunk.now) c.proto.ensures.sound hosts events n now c.args.machine.now at c.as_slice.result.now c.as_slice.ensures.value).safe

pub do_row-requires-clause-ready : goal.do_row-requires-clause-ready
do_row-requires-clause-ready c =
    let (hosts, events, n, now, at) = c.requires in
    is_ready_onwards (view_proto c.args.chunk.now) c.proto.ensures.sound hosts events n now c.args.machine.now at c.as_slice.result.now c.as_slice.ensures.value

pub returns-clause-went : goal.returns-clause-went
returns-clause-went c =
    IfOk-weaker c.do_row.result _ _
    (λ done went hosts events n now at. went_steps (view_proto c.args.chunk.now) c.proto.ensures.sound hosts events n now c.args.machine.now at done c.do_row.new.running c.as_slice.result.now c.as_slice.ensures.value went)
    c.do_row.ensures.went

pub returns-clause-other : goal.returns-clause-other
returns-clause-other c =
    IfOk-weaker c.do_row.result _ _
    (λ done other fewer. subst (λ (fs : List Function). IsOtherNext fs c.do_row.new.running) c.as_slice.ensures.value (other fewer))
    c.do_row.ensures.other

pub returns-clause-in_place : goal.returns-clause-in_place
returns-clause-in_place c = λ one hosts events n now at such.
    let chunk = view_proto c.args.chunk.now in
    let sound = c.proto.ensures.sound in
    let k = c.args.machine.now in
    let whole = whole_in chunk sound hosts events n now k at c.as_slice.result.now c.as_slice.ensures.value in
    c.do_row.ensures.first one chunk (around now events []) whole (before_such chunk sound hosts events n now k at such)
