-- To be believed. What holds of each part of a block. The laws serve what stands above: each plain block stands on some steps, which have its own parts.
use Rattle.std.specs.Prelude.{◌≡◌, ℕ, Bool, true, false, List, [], ◌∷◌, length, Option, None, Some}
use Rattle.lua_num.specs.Bytes.{Text}
use Rattle.lua_tree.specs.OneLine.{one_line_statements}
use Rattle.lua_tree.specs.Syntax as syntax
use Rattle.lua_tree.specs.Syntax.{Statements, no_statements, Statement, assignment, call_statement, do_block, while_loop, repeat_loop, if_statement, numeric_for, generic_for, function_statement, local_function, local_statement, return_statement, break_statement, Branches, no_branches, branch, Otherwise, no_otherwise, otherwise, Expression, and_expression, or_expression, binary_expression, unary_expression, parenthesized}
use Rattle.lua_tree.specs.declared.tree.BinaryOp.{BinaryOp}
use Rattle.lua_tree.specs.declared.tree.UnaryOp.{UnaryOp}
use Rattle.proto.specs.declared.parts.Constant.{Constant}
use Rattle.recover_expr.specs.Drafts.{Part, nothing_part, statement_part, values_part, condition_part, head_part}
use Rattle.recover_expr.specs.Placing.{Steps}
use Rattle.scheme.specs.Expressions.{literal}
use Rattle.scheme.specs.Making.{Ahead}
use Rattle.same_flow.specs.Laid.{head_values}
use Rattle.same_flow.specs.Performed.{part_at}
use Rattle.same_flow.specs.SameFlow.{AreLaid, HasPlainParts, IsPlainPart}

-- ---- what holds of each part

-- `~=` is tested as `==`
abbrev pub tested_as : Expression → Expression
tested_as (binary_expression line BinaryOp.Ne left right) = binary_expression line BinaryOp.Eq left right
tested_as e = e

-- a literal is not tested
abbrev pub AloneHolds : (Part → Type 0) → Option Constant → Expression → Type 0
AloneHolds P (Some k) e = Unit {0}
AloneHolds P None e = P (condition_part (tested_as e))

abbrev pub TestHolds : (Part → Type 0) → Expression → Type 0
TestHolds P (and_expression line left right) = TestHolds P left × TestHolds P right
TestHolds P (or_expression line left right) = TestHolds P left × TestHolds P right
TestHolds P (unary_expression line UnaryOp.Not e) = TestHolds P e
TestHolds P (parenthesized line e) = TestHolds P e
TestHolds P e = AloneHolds P (literal e) e

abbrev mutual
  -- and breaks stand in loops
  pub StatementsHold : (Part → Type 0) → (looped : Bool) → Statements → Type 0
  StatementsHold P looped no_statements = Unit {0}
  StatementsHold P looped (syntax.statement line semi s rest) = StatementHolds P looped s × StatementsHold P looped rest

  pub StatementHolds : (Part → Type 0) → (looped : Bool) → Statement → Type 0
  StatementHolds P looped (do_block block) = StatementsHold P looped block
  StatementHolds P looped (while_loop e block) = TestHolds P e × StatementsHold P true block
  StatementHolds P looped (repeat_loop block e) = StatementsHold P true block × TestHolds P e
  StatementHolds P looped (if_statement branches last) = BranchesHold P looped branches × OtherwiseHolds P looped last
  StatementHolds P looped (numeric_for name first last by block) = P (head_part (head_values first last by) (name ∷ [])) × StatementsHold P true block
  StatementHolds P looped (generic_for names es block) = P (head_part es names) × StatementsHold P true block
  StatementHolds P looped (return_statement es) = P (values_part es)
  StatementHolds P looped break_statement = looped ≡ true
  StatementHolds P looped s = P (statement_part s)

  pub BranchesHold : (Part → Type 0) → (looped : Bool) → Branches → Type 0
  BranchesHold P looped no_branches = Unit {0}
  BranchesHold P looped (branch e block rest) = TestHolds P e × StatementsHold P looped block × BranchesHold P looped rest

  pub OtherwiseHolds : (Part → Type 0) → (looped : Bool) → Otherwise → Type 0
  OtherwiseHolds P looped no_otherwise = Unit {0}
  OtherwiseHolds P looped (otherwise block) = StatementsHold P looped block

-- ---- the law

-- what holds of the parts of a block holds of the parts of its steps, the others being nothing
abbrev pub BlocksAreLaid : Type 1
BlocksAreLaid =
    (P : Part → Type 0) → P nothing_part → (params names : List Text) (ahead : Ahead) (block : Statements) → one_line_statements block ≡ block → StatementsHold P false block
    → (code : Steps) × (code.params ≡ params) × AreLaid code params names ahead block × ((at : ℕ) (part : Part) → part_at code at ≡ Some part → P part) × (length code.parts ≡ length code.steps)

-- where no part has `and`, `or` or a comparison as a value
abbrev pub PlainBlocksAreLaid : Type 0
PlainBlocksAreLaid =
    (params names : List Text) (ahead : Ahead) (block : Statements) → one_line_statements block ≡ block → StatementsHold IsPlainPart false block
    → (code : Steps) × (code.params ≡ params) × AreLaid code params names ahead block × HasPlainParts code × (length code.parts ≡ length code.steps)
