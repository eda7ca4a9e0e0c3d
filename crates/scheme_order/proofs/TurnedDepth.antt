-- The parts of a turned source lie as deep as those of the source.
use Rattle.std.proofs.Common.{◌≡◌, ℕ, ◌+◌, Bool, true, false, List, ◌∷◌, ◌++◌, max, refl, ap, ap₂, ◌∙◌, arith}
use Rattle.std.specs.Prelude.{◌&&◌, is_some}
use Rattle.lua_num.specs.Bytes.{Text}
use Rattle.lua_tree.specs.Outline.{all_params}
use Rattle.lua_tree.specs.Syntax as syntax
use Rattle.lua_tree.specs.Syntax.{Statements, no_statements, Statement, assignment, call_statement, do_block, while_loop, repeat_loop, if_statement, numeric_for, generic_for, function_statement, local_function, local_statement, return_statement, break_statement, Branches, no_branches, branch, Otherwise, no_otherwise, otherwise, ForStep, no_step, by_step, FunctionBody, function_body, Expressions, no_expressions, Expression, nil_literal, function_expression, index_expression, field_expression, call_expression, method_call, and_expression, or_expression, binary_expression, unary_expression, constructor, parenthesized, Arguments, argument_list, text_argument, table_argument, Fields, no_fields, positional, named, keyed}
use Rattle.lua_tree.specs.declared.tree.BinaryOp.{BinaryOp}
use Rattle.lua_tree.specs.declared.tree.UnaryOp.{UnaryOp}
use Rattle.lua_tree.specs.WellFormed.{depth_of_statements, depth_of_statement, depth_of_branches, depth_of_otherwise, depth_of_step, depth_of_body, depth_of_expressions, depth_of_expression, depth_of_arguments, depth_of_fields}
use Rattle.scheme_order.specs.Turned.{with_declared, with_all_declared, is_turned, turned_both, turned_block, turned_statement, turned_branches, turned_otherwise, turned_step, turned_body, turned_expression, turned_arguments, turned_values, turned_fields}

-- whichever operand is first
both_depth : (turn : Bool) (line : ℕ) (op : BinaryOp) (left right : Expression)
    → depth_of_expression (turned_both turn line op left right) ≡ 1 + max (depth_of_expression left) (depth_of_expression right)
both_depth true line op left right = omega arith
both_depth false line op left right = omega arith

-- each part
mutual
  pub block_depth : (own : List Text) (block : Statements) → depth_of_statements (turned_block own block) ≡ depth_of_statements block
  block_depth own no_statements = refl
  block_depth own (syntax.statement line semi s rest) = ap₂ (λ m n. max (1 + m) n) (statement_depth own s) (block_depth (with_declared own s) rest)

  statement_depth : (own : List Text) (s : Statement) → depth_of_statement (turned_statement own s) ≡ depth_of_statement s
  statement_depth own (assignment targets es) = ap₂ max (values_depth own targets) (values_depth own es)
  statement_depth own (call_statement e) = depth false own e
  statement_depth own (do_block block) = block_depth own block
  statement_depth own (while_loop e block) = ap₂ max (depth true own e) (block_depth own block)
  statement_depth own (repeat_loop block e) = ap₂ max (block_depth own block) (depth true (with_all_declared own block) e)
  statement_depth own (if_statement branches last) = ap₂ max (branches_depth own branches) (otherwise_depth own last)
  statement_depth own (numeric_for name first last by block) = ap₂ max (ap₂ max (depth false own first) (depth false own last)) (ap₂ max (step_depth own by) (block_depth (name ∷ own) block))
  statement_depth own (generic_for names es block) = ap₂ max (values_depth own es) (block_depth (names ++ own) block)
  statement_depth own (function_statement path method body) = ap (λ n. 1 + n) (body_depth (is_some method) body)
  statement_depth own (local_function name body) = ap (λ n. 1 + n) (body_depth false body)
  statement_depth own (local_statement names es) = values_depth own es
  statement_depth own (return_statement es) = values_depth own es
  statement_depth own break_statement = refl

  branches_depth : (own : List Text) (branches : Branches) → depth_of_branches (turned_branches own branches) ≡ depth_of_branches branches
  branches_depth own no_branches = refl
  branches_depth own (branch e block rest) = ap₂ max (ap₂ max (depth true own e) (block_depth own block)) (branches_depth own rest)

  otherwise_depth : (own : List Text) (last : Otherwise) → depth_of_otherwise (turned_otherwise own last) ≡ depth_of_otherwise last
  otherwise_depth own no_otherwise = refl
  otherwise_depth own (otherwise block) = block_depth own block

  step_depth : (own : List Text) (by : ForStep) → depth_of_step (turned_step own by) ≡ depth_of_step by
  step_depth own no_step = refl
  step_depth own (by_step e) = depth false own e

  body_depth : (method : Bool) (body : FunctionBody) → depth_of_body (turned_body method body) ≡ depth_of_body body
  body_depth method (function_body params vararg block first last) = block_depth (all_params method params) block

  values_depth : (own : List Text) (es : Expressions) → depth_of_expressions (turned_values own es) ≡ depth_of_expressions es
  values_depth own no_expressions = refl
  values_depth own (syntax.expression e rest) = ap₂ max (depth false own e) (values_depth own rest)

  depth : (tested : Bool) (own : List Text) (e : Expression) → depth_of_expression (turned_expression tested own e) ≡ depth_of_expression e
  depth tested own (nil_literal line) = refl
  depth tested own (function_expression line body) = ap (λ n. 1 + n) (body_depth false body)
  depth tested own (index_expression line on key) = ap₂ (λ m n. 1 + max m n) (depth false own on) (depth false own key)
  depth tested own (field_expression line on name) = ap (λ n. 1 + n) (depth false own on)
  depth tested own (call_expression line on args on_line) = ap₂ (λ m n. 1 + max m n) (depth false own on) (arguments_depth own args)
  depth tested own (method_call line on name args on_line) = ap₂ (λ m n. 1 + max m n) (depth false own on) (arguments_depth own args)
  depth tested own (and_expression line left right) = ap₂ (λ m n. 1 + max m n) (depth tested own left) (depth tested own right)
  depth tested own (or_expression line left right) = ap₂ (λ m n. 1 + max m n) (depth tested own left) (depth tested own right)
  depth tested own (binary_expression line op left right) =
      both_depth (tested && is_turned own op left right) line op (turned_expression false own left) (turned_expression false own right)
      ∙ ap₂ (λ m n. 1 + max m n) (depth false own left) (depth false own right)
  depth tested own (unary_expression line UnaryOp.Not e) = ap (λ n. 1 + n) (depth tested own e)
  depth tested own (unary_expression line op e) = ap (λ n. 1 + n) (depth false own e)
  depth tested own (constructor line fields) = ap (λ n. 1 + n) (fields_depth own fields)
  depth tested own (parenthesized line e) = ap (λ n. 1 + n) (depth tested own e)
  depth tested own e = refl

  arguments_depth : (own : List Text) (args : Arguments) → depth_of_arguments (turned_arguments own args) ≡ depth_of_arguments args
  arguments_depth own (argument_list es) = values_depth own es
  arguments_depth own (text_argument text) = refl
  arguments_depth own (table_argument fields) = fields_depth own fields

  fields_depth : (own : List Text) (fields : Fields) → depth_of_fields (turned_fields own fields) ≡ depth_of_fields fields
  fields_depth own no_fields = refl
  fields_depth own (positional e separator rest) = ap₂ max (depth false own e) (fields_depth own rest)
  fields_depth own (named name e separator rest) = ap₂ max (depth false own e) (fields_depth own rest)
  fields_depth own (keyed key e separator rest) = ap₂ max (ap₂ max (depth false own key) (depth false own e)) (fields_depth own rest)
