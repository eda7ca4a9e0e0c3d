use Rattle.std.proofs.Common.{◌≡◌, length}
use Rattle.chunk_difference.proofs.Among.{AreSoFar}
use Rattle.chunk_difference.proofs.finding.+difference.Given as goal

abbrev pub invariant-difference_among-loop-mine : goal.invariant-difference_among-loop-mine
invariant-difference_among-loop-mine l =
    (length l.had ≡ length l.got → AreSoFar l.had l.got l.mine-iterator.a.rest.now l.mine-iterator.b.rest.now l.number) × (l.path ≡ l.initial.path)
