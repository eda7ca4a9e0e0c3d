use Rattle.std.proofs.Common.{drop}
use Rattle.lua_tree.specs.Outline.{statements_part, branches_part, expressions_part, fields_part}
use Rattle.lua_tree.specs.TreeLists.{statements_of, branches_of, expressions_of, fields_of}
use Rattle.scopes.specs.Standing.{Sound, Extends, Keeps}
use Rattle.scopes.proofs.Goings.{Passes}
use Rattle.scopes.proofs.resolver.Resolver.+walk.Given as goal

-- what was walked of a list, and the part that is left of it

abbrev pub invariant-statements-loop-statement : goal.invariant-statements-loop-statement
invariant-statements-loop-statement l = record {
  sound : Sound l.self;
  extends : Extends l.fn.self l.self;
  passes : Passes (statements_part (statements_of l.statement-items)) (statements_part (statements_of (drop l.statement-index l.statement-items))) l.fn.self l.self;
}

abbrev pub invariant-branches-loop-arm : goal.invariant-branches-loop-arm
invariant-branches-loop-arm l = record {
  sound : Sound l.self;
  keeps : Keeps l.fn.self l.self;
  passes : Passes (branches_part (branches_of l.arm-items)) (branches_part (branches_of (drop l.arm-index l.arm-items))) l.fn.self l.self;
}

abbrev pub invariant-expressions-loop-expression : goal.invariant-expressions-loop-expression
invariant-expressions-loop-expression l = record {
  sound : Sound l.self;
  keeps : Keeps l.fn.self l.self;
  passes : Passes (expressions_part (expressions_of l.expression-items)) (expressions_part (expressions_of (drop l.expression-index l.expression-items))) l.fn.self l.self;
}

abbrev pub invariant-fields-loop-item : goal.invariant-fields-loop-item
invariant-fields-loop-item l = record {
  sound : Sound l.self;
  keeps : Keeps l.fn.self l.self;
  passes : Passes (fields_part (fields_of l.item-items)) (fields_part (fields_of (drop l.item-index l.item-items))) l.fn.self l.self;
}
