use Rattle.std.proofs.Common.{◌≡◌, ◌+◌, ◌≤◌, drop}
use Rattle.lua_tree.specs.TreeLists.{fields_of}
use Rattle.scheme.specs.Lists as lists
use Rattle.scheme.specs.Scheme.{entries}
use Rattle.codegen.proofs.tables.other_count.Given as goal

abbrev pub invariant-loop-item : goal.invariant-loop-item
invariant-loop-item l = record {
  few : l.count ≤ l.item-index;
  counted : l.count + lists.other_count (entries (fields_of (drop l.item-index l.items))) ≡ lists.other_count (entries (fields_of l.items));
}
