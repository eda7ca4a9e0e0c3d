use Rattle.std.proofs.Common.{◌≡◌, ◌++◌, ◌∷◌, [], map}
use Rattle.std.proofs.lemmas.Result.{err_from_is_err_and}
use Rattle.std.proofs.lemmas.List.{map_push}
use Rattle.asm_text.specs.Reading.{Read, no_state, many_at, chunk_at}
use Rattle.proto.specs.Chunk.{Chunk}
use Rattle.proto.specs.View.{view_proto}
use Rattle.asm_text.proofs.Loop.{goes_on, ends, is_done}
use Rattle.asm_text.proofs.function.+reading.Goals as goal

pub many_protos-returns-in_err-proto : goal.many_protos-returns-in_err-proto
many_protos-returns-in_err-proto t c =
    let p = err_from_is_err_and c.from_residual.result c.from_residual.ensures.1 in
    let one : Unit {0} → Read Chunk = λ u. chunk_at c.args.room in
    rw (p.1, p.2) (ends one no_state tt c.in_err-proto.field-0.0 (map view_proto c.loop.protos.items) c.args.count c.loop.counter c.loop.rest.now (many_at one no_state tt c.args.count c.args.bytes.now) c.loop-test.true c.in_err-proto.ensures c.loop.invariant)

pub many_protos-loop-preserved : goal.many_protos-loop-preserved
many_protos-loop-preserved t c =
    let one : Unit {0} → Read Chunk = λ u. chunk_at c.args.room in
    let n = c.in_ok-proto.proto in
    let e : map view_proto c.push.new.self.items ≡ map view_proto c.loop.protos.items ++ view_proto n ∷ [] = rw c.in_ok-push.ensures.items (map_push _ c.loop.protos.items n) in
    rw e (goes_on one no_state tt (map view_proto c.loop.protos.items) c.args.count c.loop.counter c.loop.rest.now (view_proto n) c.in_ok-proto.after.now (many_at one no_state tt c.args.count c.args.bytes.now) c.loop-test.true c.in_ok-proto.ensures c.loop.invariant)

pub many_protos-returns : goal.many_protos-returns
many_protos-returns t c =
    let one : Unit {0} → Read Chunk = λ u. chunk_at c.args.room in
    is_done one no_state tt (map view_proto c.loop.protos.items) c.args.count c.loop.counter c.loop.rest.now (many_at one no_state tt c.args.count c.args.bytes.now) c.loop-test.false c.loop.invariant
