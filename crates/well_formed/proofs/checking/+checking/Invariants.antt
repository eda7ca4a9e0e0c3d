use Rattle.std.proofs.Common.{◌≡◌, drop}
use Rattle.lua_tree.specs.TreeLists.{statements_of, branches_of, expressions_of, fields_of}
use Rattle.well_formed.specs.Within.{statements_within, branches_within, expressions_within, fields_within}
use Rattle.well_formed.proofs.checking.+checking.Given as goal

abbrev pub invariant-are_statements-loop-number : goal.invariant-are_statements-loop-number
invariant-are_statements-loop-number l = statements_within l.levels (statements_of (drop l.number l.all)) ≡ statements_within l.levels (statements_of l.all)

abbrev pub invariant-are_arms-loop-arm : goal.invariant-are_arms-loop-arm
invariant-are_arms-loop-arm l = branches_within l.levels (branches_of (drop l.arm-index l.arm-items)) ≡ branches_within l.levels (branches_of l.arm-items)

abbrev pub invariant-are_expressions-loop-exp : goal.invariant-are_expressions-loop-exp
invariant-are_expressions-loop-exp l = expressions_within l.levels (expressions_of (drop l.exp-index l.exp-items)) ≡ expressions_within l.levels (expressions_of l.exp-items)

abbrev pub invariant-are_items-loop-number : goal.invariant-are_items-loop-number
invariant-are_items-loop-number l = fields_within l.levels (fields_of (drop l.number l.all)) ≡ fields_within l.levels (fields_of l.all)
