-- So many were pushed so far.
use Rattle.std.proofs.Common.{◌≡◌, ◌++◌}
use Rattle.recover_expr.specs.Entries.{entries_of, more, missing_entry}
use Rattle.recover_expr.proofs.stack.Stack.push_missing.Given as goal

abbrev pub invariant-loop : goal.invariant-loop
invariant-loop l = record {
  base : l.self.base ≡ l.initial.self.base;
  entries : entries_of l.self ≡ entries_of l.initial.self ++ more l.counter missing_entry;
}
