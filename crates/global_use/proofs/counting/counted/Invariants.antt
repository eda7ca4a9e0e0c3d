use Rattle.std.proofs.Common.{drop}
use Rattle.proto.specs.View.{view_proto}
use Rattle.global_use.proofs.Sums.{Counting}
use Rattle.global_use.proofs.counting.counted.Given as goal

abbrev pub invariant-loop-word : goal.invariant-loop-word
invariant-loop-word l = Counting (view_proto l.proto) l.counts.items l.left (drop l.word-index l.words)
