use Rattle.std.proofs.Common.{◌≡◌, ◌+◌, ◌*◌, ◌-◌, map}
use Rattle.chunk_io.specs.Reading.{many_at, chunk_at}
use Rattle.proto.specs.View.{view_proto}
use Rattle.chunk_io.proofs.Loop.{with_front}
use Rattle.chunk_io.proofs.function.+reading.Given as goal

abbrev pub decreases-proto_of : goal.decreases-proto_of
decreases-proto_of l = 2 * l.room

abbrev pub decreases-many_protos : goal.decreases-many_protos
decreases-many_protos l = 2 * l.room + 1

abbrev pub invariant-many_protos-loop : goal.invariant-many_protos-loop
invariant-many_protos-loop l = with_front (map view_proto l.protos.items) (many_at (chunk_at l.layout l.room) (l.count - l.counter) l.rest) ≡ many_at (chunk_at l.layout l.room) l.count l.bytes
