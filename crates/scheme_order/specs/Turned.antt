-- To be believed. A source in which `>` and `>=` are tested the other way round, as `<` and `<=`, where an operand is a local of the function and none is a number or a string.
use Rattle.std.specs.Prelude.{◌∷◌, ◌++◌, ◌&&◌, ◌||◌, ℕ, Bool, true, false, not, List, [], Option, Some, is_some}
use Rattle.std.specs.List.{list_any}
use Rattle.std.specs.Str.{bytes_eq}
use Rattle.lua_num.specs.Bytes.{Text}
use Rattle.lua_tree.specs.Outline.{all_params}
use Rattle.lua_tree.specs.Syntax.{Statements, no_statements, statement, Statement, assignment, call_statement, do_block, while_loop, repeat_loop, if_statement, numeric_for, generic_for, function_statement, local_function, local_statement, return_statement, break_statement, Branches, no_branches, branch, Otherwise, no_otherwise, otherwise, ForStep, no_step, by_step, FunctionBody, function_body, Expressions, no_expressions, expression, Expression, name_expression, function_expression, index_expression, field_expression, call_expression, method_call, and_expression, or_expression, binary_expression, unary_expression, constructor, parenthesized, Arguments, argument_list, text_argument, table_argument, Fields, no_fields, positional, named, keyed, Source}
use Rattle.lua_tree.specs.declared.tree.BinaryOp.{BinaryOp}
use Rattle.lua_tree.specs.declared.tree.UnaryOp.{UnaryOp}
use Rattle.proto.specs.declared.parts.Constant.{Constant}
use Rattle.scheme.specs.Expressions.{literal}
use Rattle.scheme_lines.specs.Alike.{AreAlike}
use Rattle.lua_tree.specs.WellFormed.{WellFormed}
use Rattle.scheme.specs.Shapes.{Plain}

-- ---- locals of the function

abbrev pub is_among : Text → List Text → Bool
is_among text names = list_any (bytes_eq text) names

-- it is one of these names, in parentheses or not
abbrev pub is_own : (own : List Text) → Expression → Bool
is_own own (name_expression line text) = is_among text own
is_own own (parenthesized line e) = is_own own e
is_own own e = false

-- a number or a string
abbrev pub is_constant_literal : Option Constant → Bool
is_constant_literal (Some (Constant.Number n)) = true
is_constant_literal (Some (Constant.Text text)) = true
is_constant_literal k = false

-- which of the names that a statement declares are locals behind it, in its block
abbrev pub with_declared : (own : List Text) → Statement → List Text
with_declared own (local_statement names es) = names ++ own
with_declared own (local_function name body) = name ∷ own
with_declared own s = own

abbrev pub with_all_declared : (own : List Text) → Statements → List Text
with_all_declared own no_statements = own
with_all_declared own (statement line semi s rest) = with_all_declared (with_declared own s) rest

-- a test at the end of a statement may end in another operand when it is turned, which could take arguments
abbrev pub ends_in_test : Statement → Bool
ends_in_test (repeat_loop block e) = true
ends_in_test s = false

-- ---- the other way round

abbrev pub turned_op : BinaryOp → BinaryOp
turned_op BinaryOp.Gt = BinaryOp.Lt
turned_op BinaryOp.Ge = BinaryOp.Le
turned_op op = op

abbrev pub is_greater : BinaryOp → Bool
is_greater BinaryOp.Gt = true
is_greater BinaryOp.Ge = true
is_greater op = false

abbrev pub is_turned : (own : List Text) → BinaryOp → (left right : Expression) → Bool
is_turned own op left right = is_greater op && ((is_own own left || is_own own right) && not (is_constant_literal (literal left) || is_constant_literal (literal right)))

abbrev pub turned_both : (turn : Bool) → (line : ℕ) → BinaryOp → (left right : Expression) → Expression
turned_both true line op left right = binary_expression line (turned_op op) right left
turned_both false line op left right = binary_expression line op left right

abbrev mutual
  pub turned_block : (own : List Text) → Statements → Statements
  turned_block own no_statements = no_statements
  turned_block own (statement line semi s rest) = statement line (semi || ends_in_test s) (turned_statement own s) (turned_block (with_declared own s) rest)

  pub turned_statement : (own : List Text) → Statement → Statement
  turned_statement own (assignment targets es) = assignment (turned_values own targets) (turned_values own es)
  turned_statement own (call_statement e) = call_statement (turned_expression false own e)
  turned_statement own (do_block block) = do_block (turned_block own block)
  turned_statement own (while_loop e block) = while_loop (turned_expression true own e) (turned_block own block)
  turned_statement own (repeat_loop block e) = repeat_loop (turned_block own block) (turned_expression true (with_all_declared own block) e)
  turned_statement own (if_statement branches last) = if_statement (turned_branches own branches) (turned_otherwise own last)
  turned_statement own (numeric_for name first last by block) = numeric_for name (turned_expression false own first) (turned_expression false own last) (turned_step own by) (turned_block (name ∷ own) block)
  turned_statement own (generic_for names es block) = generic_for names (turned_values own es) (turned_block (names ++ own) block)
  turned_statement own (function_statement path method body) = function_statement path method (turned_body (is_some method) body)
  turned_statement own (local_function name body) = local_function name (turned_body false body)
  turned_statement own (local_statement names es) = local_statement names (turned_values own es)
  turned_statement own (return_statement es) = return_statement (turned_values own es)
  turned_statement own break_statement = break_statement

  pub turned_branches : (own : List Text) → Branches → Branches
  turned_branches own no_branches = no_branches
  turned_branches own (branch e block rest) = branch (turned_expression true own e) (turned_block own block) (turned_branches own rest)

  pub turned_otherwise : (own : List Text) → Otherwise → Otherwise
  turned_otherwise own no_otherwise = no_otherwise
  turned_otherwise own (otherwise block) = otherwise (turned_block own block)

  pub turned_step : (own : List Text) → ForStep → ForStep
  turned_step own no_step = no_step
  turned_step own (by_step e) = by_step (turned_expression false own e)

  -- its own locals are its parameters at first
  pub turned_body : (method : Bool) → FunctionBody → FunctionBody
  turned_body method (function_body params vararg block first last) = function_body params vararg (turned_block (all_params method params) block) first last

  -- what is tested, or a value, which has tests only in the functions in it
  pub turned_expression : (tested : Bool) → (own : List Text) → Expression → Expression
  turned_expression tested own (function_expression line body) = function_expression line (turned_body false body)
  turned_expression tested own (index_expression line on key) = index_expression line (turned_expression false own on) (turned_expression false own key)
  turned_expression tested own (field_expression line on name) = field_expression line (turned_expression false own on) name
  turned_expression tested own (call_expression line on args on_line) = call_expression line (turned_expression false own on) (turned_arguments own args) on_line
  turned_expression tested own (method_call line on name args on_line) = method_call line (turned_expression false own on) name (turned_arguments own args) on_line
  turned_expression tested own (and_expression line left right) = and_expression line (turned_expression tested own left) (turned_expression tested own right)
  turned_expression tested own (or_expression line left right) = or_expression line (turned_expression tested own left) (turned_expression tested own right)
  turned_expression tested own (binary_expression line op left right) =
      turned_both (tested && is_turned own op left right) line op (turned_expression false own left) (turned_expression false own right)
  turned_expression tested own (unary_expression line UnaryOp.Not e) = unary_expression line UnaryOp.Not (turned_expression tested own e)
  turned_expression tested own (unary_expression line op e) = unary_expression line op (turned_expression false own e)
  turned_expression tested own (constructor line fields) = constructor line (turned_fields own fields)
  turned_expression tested own (parenthesized line e) = parenthesized line (turned_expression tested own e)
  turned_expression tested own e = e

  pub turned_arguments : (own : List Text) → Arguments → Arguments
  turned_arguments own (argument_list es) = argument_list (turned_values own es)
  turned_arguments own (text_argument text) = text_argument text
  turned_arguments own (table_argument fields) = table_argument (turned_fields own fields)

  pub turned_values : (own : List Text) → Expressions → Expressions
  turned_values own no_expressions = no_expressions
  turned_values own (expression e rest) = expression (turned_expression false own e) (turned_values own rest)

  pub turned_fields : (own : List Text) → Fields → Fields
  turned_fields own no_fields = no_fields
  turned_fields own (positional e separator rest) = positional (turned_expression false own e) separator (turned_fields own rest)
  turned_fields own (named name e separator rest) = named name (turned_expression false own e) separator (turned_fields own rest)
  turned_fields own (keyed key e separator rest) = keyed (turned_expression false own key) (turned_expression false own e) separator (turned_fields own rest)

-- the main function has no parameters
abbrev pub turned : Source → Source
turned source = record source { body = turned_block [] source.body }

-- ---- the law

-- a plain source keeps the rules of form and of scoping so, and has the same chunk
abbrev pub TurnedAreAlike : Type 0
TurnedAreAlike = (source : Source) → WellFormed source → Plain source → WellFormed (turned source) × AreAlike source (turned source)
