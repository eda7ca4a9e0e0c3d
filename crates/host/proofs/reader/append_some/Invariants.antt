-- Nothing was read so far.
use Rattle.std.proofs.Common.{◌≡◌, []}
use Rattle.std.specs.Io.KnownBytes.{Consumes}
use Rattle.host.proofs.reader.append_some.Given as goal

abbrev pub invariant-loop : goal.invariant-loop
invariant-loop g l = record {
  same : l.line.items ≡ l.initial.line.items;
  kept : Consumes (g.R.Read.remaining l.initial.reader) (g.R.Read.remaining l.reader) [];
}
