use Rattle.std.proofs.Common.{◌≡◌, ◌-◌}
use Rattle.chunk_io.specs.Reading.{local_at, many_at}
use Rattle.chunk_io.proofs.Loop.{with_front}
use Rattle.chunk_io.proofs.lists.many_locals.Given as goal

abbrev pub invariant-loop : goal.invariant-loop
invariant-loop l = with_front l.locals.items (many_at (local_at l.layout) (l.count - l.counter) l.rest) ≡ many_at (local_at l.layout) l.count l.bytes
