use Rattle.std.proofs.Common.{◌≡◌, ◌+◌, ◌-◌, ◌<◌, refl, subst, arith}
use Rattle.proto.specs.View.{view_proto}
use Rattle.host.specs.Views.{set_told}
use Rattle.machine.specs.Outside.{hosts_of}
use Rattle.machine.proofs.RunSteps.{not_stepped}
use Rattle.machine.proofs.RunsSoFar.{RanSoFar, not_begun, nothing_yet, unfinished, went_further, went_on, ended, failed, refused, no_memory}
use Rattle.machine.proofs.runs.run.Goals as goal

pub returns-in_default : goal.returns-in_default
returns-in_default g c = not_begun (view_proto c.args.chunk.now) c.args.steps _ _ _

pub loop-left-init : goal.loop-left-init
loop-left-init g c =
    let set = set_told (λ z. (goal.Host-dyn g z).heard z.1) c.args.hosts.now in
    let taken = g.S.Sink.taken c.args.out.now in
    let faults = g.S.Sink.faults c.args.out.now in
    let none_yet : 0 ≡ c.args.steps - c.args.steps = omega arith in
    (omega arith, subst (λ n. RanSoFar (view_proto c.args.chunk.now) n set set c.in-Ok.machine taken taken faults faults) none_yet (nothing_yet (view_proto c.args.chunk.now) set c.in-Ok.machine taken faults c.in-Ok.ensures))

pub returns-in_default-go_on : goal.returns-in_default-go_on
returns-in_default-go_on g c =
    let chunk = view_proto c.args.chunk.now in
    let k = c.loop-left.machine in
    no_memory chunk (c.args.steps - c.loop-left.left) c.args.steps _ _ _ k k _ _ _ _ _ _ (omega (arith, c.loop-left-test.true, c.loop-left.invariant.0)) c.loop-left.invariant.1
    (λ hosts events n at. not_stepped chunk c.proto.ensures.sound hosts events n _ k at _ _ k)

pub returns-then-left-eq0 : goal.returns-then-left-eq0
returns-then-left-eq0 g c =
    let done = c.in-Ok-go_on.done in
    let n = c.args.steps - c.loop-left.left in
    let all : n + done ≡ c.args.steps = omega (arith, c.if-left-eq0.true, c.in-Ok-go_on.ensures.no_more, c.loop-left.invariant.0) in
    unfinished (view_proto c.args.chunk.now) (n + done) c.args.steps _ _ c.go_on.new.machine _ _ _ _ all
    (went_further (view_proto c.args.chunk.now) n done _ _ c.loop-left.machine c.go_on.new.machine _ _ _ _ c.loop-left.invariant.1 c.in-Ok-go_on.ensures.went)

pub step_on-requires-clause-at : goal.step_on-requires-clause-at
step_on-requires-clause-at g c =
    let done = c.in-Ok-go_on.done in
    let n = c.args.steps - c.loop-left.left in
    let so = went_further (view_proto c.args.chunk.now) n done _ _ c.loop-left.machine c.go_on.new.machine _ _ _ _ c.loop-left.invariant.1 c.in-Ok-go_on.ensures.went in
    (hosts_of (set_told (λ z. (goal.Host-dyn g z).heard z.1) c.args.hosts.now), so.es, n + done, so.at)

pub step_on-requires-clause-other : goal.step_on-requires-clause-other
step_on-requires-clause-other g c = c.in-Ok-go_on.ensures.other (omega (arith, c.if-left-eq0.false, c.in-Ok-go_on.ensures.no_more))

pub returns-in-Done : goal.returns-in-Done
returns-in-Done g c =
    let done = c.in-Ok-go_on.done in
    let n = c.args.steps - c.loop-left.left in
    let within : n + done < c.args.steps = omega (arith, c.if-left-eq0.false, c.in-Ok-go_on.ensures.no_more, c.loop-left.invariant.0) in
    ended (view_proto c.args.chunk.now) (n + done) c.args.steps _ _ _ c.go_on.new.machine c.step_on.new.machine _ _ _ _ _ _ within
    (went_further (view_proto c.args.chunk.now) n done _ _ c.loop-left.machine c.go_on.new.machine _ _ _ _ c.loop-left.invariant.1 c.in-Ok-go_on.ensures.went)
    c.in-Done.ensures.steps

pub returns-in-Failed : goal.returns-in-Failed
returns-in-Failed g c =
    let done = c.in-Ok-go_on.done in
    let n = c.args.steps - c.loop-left.left in
    let within : n + done < c.args.steps = omega (arith, c.if-left-eq0.false, c.in-Ok-go_on.ensures.no_more, c.loop-left.invariant.0) in
    failed (view_proto c.args.chunk.now) (n + done) c.args.steps _ _ _ c.go_on.new.machine c.step_on.new.machine _ _ _ _ _ _ within
    (went_further (view_proto c.args.chunk.now) n done _ _ c.loop-left.machine c.go_on.new.machine _ _ _ _ c.loop-left.invariant.1 c.in-Ok-go_on.ensures.went)
    c.in-Failed.text c.in-Failed.ensures.steps

pub returns-in-OutFault : goal.returns-in-OutFault
returns-in-OutFault g c =
    let done = c.in-Ok-go_on.done in
    let n = c.args.steps - c.loop-left.left in
    let within : n + done < c.args.steps = omega (arith, c.if-left-eq0.false, c.in-Ok-go_on.ensures.no_more, c.loop-left.invariant.0) in
    refused (view_proto c.args.chunk.now) (n + done) c.args.steps _ _ _ c.go_on.new.machine c.step_on.new.machine _ _ _ _ _ _ within
    (went_further (view_proto c.args.chunk.now) n done _ _ c.loop-left.machine c.go_on.new.machine _ _ _ _ c.loop-left.invariant.1 c.in-Ok-go_on.ensures.went)
    c.in-OutFault.ensures.steps

pub returns-in-OutOfMemory : goal.returns-in-OutOfMemory
returns-in-OutOfMemory g c =
    let done = c.in-Ok-go_on.done in
    let n = c.args.steps - c.loop-left.left in
    let within : n + done < c.args.steps = omega (arith, c.if-left-eq0.false, c.in-Ok-go_on.ensures.no_more, c.loop-left.invariant.0) in
    no_memory (view_proto c.args.chunk.now) (n + done) c.args.steps _ _ _ c.go_on.new.machine c.step_on.new.machine _ _ _ _ _ _ within
    (went_further (view_proto c.args.chunk.now) n done _ _ c.loop-left.machine c.go_on.new.machine _ _ _ _ c.loop-left.invariant.1 c.in-Ok-go_on.ensures.went)
    c.in-OutOfMemory.ensures.steps

pub loop-left-preserved : goal.loop-left-preserved
loop-left-preserved g c =
    let chunk = view_proto c.args.chunk.now in
    let done = c.in-Ok-go_on.done in
    let left = c.loop-left.left in
    let n = c.args.steps - left in
    let before = set_told (λ z. (goal.Host-dyn g z).heard z.1) c.args.hosts.now in
    let behind = set_told (λ z. (goal.Host-dyn g z).heard z.1) c.step_on.new.hosts in
    let sink = g.S.Sink in
    let within : n + done < c.args.steps = omega (arith, c.if-left-eq0.false, c.in-Ok-go_on.ensures.no_more, c.loop-left.invariant.0) in
    let so = went_further chunk n done _ _ c.loop-left.machine c.go_on.new.machine _ _ _ _ c.loop-left.invariant.1 c.in-Ok-go_on.ensures.went in
    let one_more : (n + done) + 1 ≡ c.args.steps - ((left - done) - 1) = omega (arith, c.if-left-eq0.false, c.in-Ok-go_on.ensures.no_more, c.loop-left.invariant.0) in (
      omega (arith, c.loop-left.invariant.0),
      subst (λ m. RanSoFar chunk m before behind c.step_on.new.machine (sink.taken c.args.out.now) (sink.taken c.step_on.new.out) (sink.faults c.args.out.now) (sink.faults c.step_on.new.out)) one_more
          (went_on chunk (n + done) c.args.steps _ _ _ c.go_on.new.machine c.step_on.new.machine _ _ _ _ _ _ within so (λ hosts events m at. c.in-Going.ensures.closes hosts events m at refl)),
    )

pub returns : goal.returns
returns g c =
    let all : c.args.steps - c.loop-left.left ≡ c.args.steps = omega (arith, c.loop-left-test.false) in
    unfinished (view_proto c.args.chunk.now) (c.args.steps - c.loop-left.left) c.args.steps _ _ c.loop-left.machine _ _ _ _ all c.loop-left.invariant.1
