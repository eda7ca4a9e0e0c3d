use Rattle.std.proofs.Common.{◌≡◌, drop}
use Rattle.lua_tree.specs.TreeLists.{expressions_of}
use Rattle.lua_tree.specs.WellFormed.{are_targets}
use Rattle.well_formed.proofs.shapes.are_targets.Given as goal

abbrev pub invariant-loop-exp : goal.invariant-loop-exp
invariant-loop-exp l = are_targets (expressions_of (drop l.exp-index l.exp-items)) ≡ are_targets (expressions_of l.exp-items)
