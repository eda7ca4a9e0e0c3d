use Rattle.std.proofs.Common.{◌-◌, length}
use Rattle.lexer.proofs.StringItems.{Reaches}
use Rattle.lexer.proofs.strings.short_length.Given as goal

abbrev pub invariant-loop-length : goal.invariant-loop-length
invariant-loop-length l = Reaches l.quote l.at l.text

abbrev pub decreases-loop-length : goal.decreases-loop-length
decreases-loop-length l = length l.text - l.at
