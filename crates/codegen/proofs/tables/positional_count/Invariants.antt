use Rattle.std.proofs.Common.{◌≡◌, ◌+◌, ◌≤◌, drop}
use Rattle.lua_tree.specs.TreeLists.{fields_of}
use Rattle.scheme.specs.Lists as lists
use Rattle.scheme.specs.Scheme.{entries}
use Rattle.codegen.proofs.tables.positional_count.Given as goal

abbrev pub invariant-loop-i : goal.invariant-loop-i
invariant-loop-i l = record {
  few : l.count ≤ l.i;
  counted : l.count + lists.positional_count (entries (fields_of (drop l.i l.items))) ≡ lists.positional_count (entries (fields_of l.items));
}
