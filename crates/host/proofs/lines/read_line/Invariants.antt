-- The line so far has no line end and is not too long; the reader has lost it and counted it, and did not fail.
use Rattle.std.proofs.Common.{◌≡◌, ◌≢◌, ◌<◌, ◌≤◌, ◌-◌, ◌^◌, All, length}
use Rattle.std.specs.Io.KnownBytes.{Consumes}
use Rattle.host.specs.Lines.{counted}
use Rattle.host.proofs.lines.read_line.Given as goal

abbrev pub invariant-loop-line : goal.invariant-loop-line
invariant-loop-line g l = record {
  within : length l.line.items ≤ 67108864;
  unended : All (λ x. x ≢ 10) l.line.items;
  lost : Consumes (g.R.LineReader.remaining l.initial.reader) (g.R.LineReader.remaining l.reader) l.line.items;
  counts : counted (g.R.LineReader.given l.reader) 0 ≡ counted (g.R.LineReader.given l.initial.reader) (length l.line.items);
  fits : 0 < length l.line.items → g.R.LineReader.given l.reader ≤ 2 ^ 64 - 1;
  quiet : g.R.LineReader.faults l.reader ≡ g.R.LineReader.faults l.initial.reader;
}

abbrev pub decreases-loop-line : goal.decreases-loop-line
decreases-loop-line g l = 67108864 - length l.line.items
