-- What was read and the rest make the whole, and the lines are counted up to here.
use Rattle.std.proofs.Common.{◌≤◌, ◌-◌, length, take, drop}
use Rattle.lexer.specs.Lines.{IsCounted}
use Rattle.lexer.proofs.LexLemmas.{Lexing}
use Rattle.lexer.proofs.tokenize.tokenize.Given as goal

abbrev pub invariant-loop-at : goal.invariant-loop-at
invariant-loop-at l = record {
  within : l.at ≤ length l.bytes;
  lexing : Lexing l.bytes (drop l.at l.bytes) l.at l.tokens;
  counted : IsCounted (take l.at l.bytes) l.lines;
}

abbrev pub decreases-loop-at : goal.decreases-loop-at
decreases-loop-at l = length l.bytes - l.at
