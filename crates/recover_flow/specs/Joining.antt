-- Serves a body. Conditions as expressions, whose tests are taken from the parts of the source. All lines are 1.
use Rattle.std.specs.Prelude.{Bool, true, false, List, Option, None, Some, option_map, option_and_then}
use Rattle.lua_tree.specs.Syntax.{Expression, true_literal, false_literal, and_expression, or_expression, binary_expression, unary_expression, parenthesized}
use Rattle.lua_tree.specs.declared.tree.BinaryOp.{BinaryOp}
use Rattle.lua_tree.specs.declared.tree.UnaryOp.{UnaryOp}
use Rattle.recover_expr.specs.Drafts.{Part}
use Rattle.recover_flow.specs.Conditions.{ConditionTree, test_condition, true_condition, false_condition, joined_condition, Conditions, no_conditions, and_condition, is_enclosed}
use Rattle.recover_flow.specs.Parts.{take_condition}
use Rattle.recover_flow.specs.declared.conditions.Junction.{Junction}

abbrev pub in_parentheses : (enclosed : Bool) → Expression → Expression
in_parentheses true exp = parenthesized 1 exp
in_parentheses false exp = exp

abbrev pub joined_expression : Junction → (left right : Expression) → Expression
joined_expression Junction.And left right = and_expression 1 left right
joined_expression Junction.Or left right = or_expression 1 left right

abbrev pub not_expression : Expression → Expression
not_expression exp = unary_expression 1 UnaryOp.Not exp

-- that of `==` is `~=`
abbrev pub negation_of : Expression → Expression
negation_of (binary_expression line BinaryOp.Eq left right) = binary_expression 1 BinaryOp.Ne left right
negation_of (binary_expression line op left right) = not_expression (parenthesized 1 (binary_expression line op left right))
negation_of exp = not_expression exp

abbrev pub negated_where : (negated : Bool) → Expression → Expression
negated_where true exp = negation_of exp
negated_where false exp = exp

-- an expression, and the parts that are left
abbrev pub Joined : Type 0
Joined = Expression × List Part

abbrev mutual
  -- A condition as an expression: none where a test was taken before.
  pub condition_expression : ConditionTree → List Part → Option Joined
  condition_expression (test_condition step negated) parts = option_map (λ taken. (negated_where negated taken.0, taken.1)) (take_condition step parts)
  condition_expression true_condition parts = Some (true_literal 1, parts)
  condition_expression false_condition parts = Some (false_literal 1, parts)
  condition_expression (joined_condition junction conditions) parts = first_joined junction conditions parts

  -- conditions with this junction, joined from the left
  pub first_joined : Junction → Conditions → List Part → Option Joined
  first_joined junction no_conditions parts = None
  first_joined junction (and_condition first rest) parts =
      option_and_then (λ taken. joined_behind junction rest (in_parentheses (is_enclosed junction true first) taken.0) taken.1) (condition_expression first parts)

  -- behind what was joined
  pub joined_behind : Junction → Conditions → (left : Expression) → List Part → Option Joined
  joined_behind junction no_conditions left parts = Some (left, parts)
  joined_behind junction (and_condition next rest) left parts =
      option_and_then (λ taken. joined_behind junction rest (joined_expression junction left (in_parentheses (is_enclosed junction false next) taken.0)) taken.1) (condition_expression next parts)
