use Rattle.std.proofs.Common.{length}
use Rattle.lexer.proofs.StringItems.{Means}
use Rattle.lexer.proofs.strings.short_value.Given as goal

abbrev pub invariant-loop-value : goal.invariant-loop-value
invariant-loop-value l = Means l.quote l.bytes l.initial.rest l.rest

abbrev pub decreases-loop-value : goal.decreases-loop-value
decreases-loop-value l = length l.rest
