use Rattle.std.proofs.Common.{◌≡◌, ◌∙◌, ℕ, length, map, ap, subst, arith}
use Rattle.proto.specs.Chunk.{Functions, functions, functions_of}
use Rattle.proto.specs.View.{view_proto}
use Rattle.proto.proofs.Views.{view_proto_fields}
use Rattle.verifier.proofs.Shortness.{each_short, each_smaller, functions_short, functions_smaller}
use Rattle.meta_ops.proofs.Tries.{grown_both}
use Rattle.machine.specs.Loading.{Loads, LoadsAll}
use Rattle.machine.proofs.Loading.{inner_are, loads_one, loads_more}
use Rattle.machine.proofs.load.+loading.Goals as goal

pub load_all-loop-proto-preserved : goal.load_all-loop-proto-preserved
load_all-loop-proto-preserved t c =
    let old = c.args.heap.now in
    let now = c.loop-proto.heap in
    let behind = c.load_function.new.heap in
    let so = c.loop-proto.invariant in
    record {
      loads = loads_more old now behind c.args.loaded.now.items c.loop-proto.loaded.items c.load_function.new.loaded.items c.args.protos.now c.loop-proto.proto-index c.proto-item.result c.loop-proto.numbers.items c.push.new.self.items c.in_ok-number.number c.loop-proto-test.true c.proto-item.is so.loads c.in_ok-number.ensures.loads c.in_ok-push.ensures.items;
      grown = grown_both old now behind so.grown c.load_function.ensures.grown;
    }

pub load_function-returns-clause-loads : goal.load_function-returns-clause-loads
load_function-returns-clause-loads t c =
    let old = c.args.heap.now in
    let now = c.load_all.new.heap in
    let behind = c.made.new.heap in
    let before = c.args.loaded.now.items in
    let between = c.load_all.new.loaded.items in
    let chunk = view_proto c.args.proto.now in
    let numbers = c.in_ok-inner.inner.items in
    let inner : functions_of (map view_proto c.items.result.now) ≡ functions chunk = inner_are c.args.proto.now _ c.items.ensures.view in
    let loads : LoadsAll old now before between (functions chunk) numbers = subst (λ (fs : Functions). LoadsAll old now before between fs numbers) inner c.in_ok-inner.ensures.loads in
    let place : length between ≡ c.len-number.result = omega arith in
    subst (λ (n : ℕ). Loads old behind before c.push.new.self.items chunk n) place (loads_one old now behind before between c.push.new.self.items chunk numbers c.in_ok-function.function loads c.made.ensures.grown.keeps c.in_ok-function.ensures.inner c.in_ok-function.ensures.made c.in_ok-push.ensures.items)

pub load_function-load_all-requires : goal.load_function-load_all-requires
load_function-load_all-requires t c =
    let chunk = view_proto c.args.proto.now in
    let same = ap functions (view_proto_fields c.args.proto.now) ∙ c.items.ensures.view in
    let smaller = functions_smaller chunk c.items.result.now same in
    (omega (arith, smaller, c.decreases), functions_short chunk c.items.result.now same c.requires.short)

pub load_all-load_function-requires : goal.load_all-load_function-requires
load_all-load_function-requires t c =
    let smaller = each_smaller c.args.protos.now c.loop-proto.proto-index c.proto-item.result c.loop-proto-test.true c.proto-item.is in
    (omega (arith, smaller, c.decreases), each_short c.args.protos.now c.loop-proto.proto-index c.proto-item.result c.loop-proto-test.true c.proto-item.is c.requires.short)
