use Rattle.std.proofs.Common.{List, subst}
use Rattle.proto.specs.View.{view_proto}
use Rattle.machine.specs.declared.function.Function.{Function}
use Rattle.machine.specs.Loading.{Loads}
use Rattle.machine.proofs.Loading.{loaded_all}
use Rattle.machine.proofs.load.load.Goals as goal

pub returns-clause-loaded : goal.returns-clause-loaded
returns-clause-loaded c =
    let old = c.args.heap.now in
    let now = c.load_function.new.heap in
    let chunk = view_proto c.args.proto.now in
    let behind = c.load_function.new.loaded.items in
    let number = c.in_ok-load_function.field-0 in
    loaded_all old now chunk behind number (subst (λ (fs : List Function). Loads old now fs behind chunk number) c.new-loaded.ensures.items c.in_ok-load_function.ensures.loads)
