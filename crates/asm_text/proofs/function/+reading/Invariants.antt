use Rattle.std.proofs.Common.{◌≡◌, ◌+◌, ◌*◌, ◌-◌, map}
use Rattle.asm_text.specs.Reading.{no_state, many_at, chunk_at}
use Rattle.proto.specs.View.{view_proto}
use Rattle.asm_text.proofs.Loop.{with_front}
use Rattle.asm_text.proofs.function.+reading.Given as goal

abbrev pub decreases-proto_of : goal.decreases-proto_of
decreases-proto_of l = 2 * l.room

abbrev pub decreases-many_protos : goal.decreases-many_protos
decreases-many_protos l = 2 * l.room + 1

abbrev pub invariant-many_protos-loop : goal.invariant-many_protos-loop
invariant-many_protos-loop l = with_front (map view_proto l.protos.items) (many_at (λ u. chunk_at l.room) no_state tt (l.count - l.counter) l.rest) ≡ many_at (λ u. chunk_at l.room) no_state tt l.count l.bytes
