use Rattle.std.proofs.Common.{List, subst, sym}
use Rattle.proto.specs.View.{view_proto}
use Rattle.proto.specs.declared.proto.Proto.{Proto}
use Rattle.host.specs.Views.{set_told}
use Rattle.machine.specs.declared.function.Function.{Function}
use Rattle.machine.specs.Loaded.{AreLoaded, all_functions}
use Rattle.machine.specs.Whole.{IsSafe}
use Rattle.machine.proofs.FirstFrames.{at_first}
use Rattle.machine.proofs.machine.Machine.new.Goals as goal

pub returns : goal.returns
returns g c =
    let chunk = view_proto c.args.chunk.now in
    let heap = c.load.new.heap in
    let running = c.in_ok-running.running in
    let made = c.in_ok-heap.ensures in
    let first = c.in_ok-running.ensures in
    let loaded : AreLoaded heap (all_functions chunk) c.in_ok-functions.functions.items = subst (λ (p : Proto). AreLoaded heap (all_functions (view_proto p)) c.in_ok-functions.functions.items) c.proto.ensures.proto c.in_ok-functions.ensures.loaded in
    at_first {set = set_told (λ z. (goal.Host-dyn g z).heard z.1) c.args.hosts.now} chunk made.store made.named c.load.ensures.grown loaded
    (λ hosts replies. first.begins chunk hosts replies (subst (λ (fs : List Function). AreLoaded heap (all_functions chunk) fs) (sym c.as_slice.ensures.value) loaded))
    (subst (λ (fs : List Function). IsSafe fs running) c.as_slice.ensures.value first.safe)
    first.keeps first.named first.pieces
