use Rattle.std.proofs.Common.{◌≡◌, ◌-◌}
use Rattle.chunk_io.specs.Reading.{number_at, many_at}
use Rattle.chunk_io.proofs.Loop.{with_front}
use Rattle.chunk_io.proofs.lists.many_words.Given as goal

abbrev pub invariant-loop : goal.invariant-loop
invariant-loop l = with_front l.words.items (many_at (number_at l.layout 4) (l.count - l.counter) l.rest) ≡ many_at (number_at l.layout 4) l.count l.bytes
