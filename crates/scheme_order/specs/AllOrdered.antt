-- To be believed. A source in which no test is turned, in it and in the functions in it: of each tested `>` and `>=` no operand is a local of its function where it stands, or one is a number or a string.
use Rattle.std.specs.Prelude.{◌≡◌, ◌∷◌, ◌++◌, ◌&&◌, ◌||◌, Bool, true, false, not, List, [], is_some}
use Rattle.lua_num.specs.Bytes.{Text}
use Rattle.lua_tree.specs.Outline.{all_params}
use Rattle.lua_tree.specs.Syntax.{Statements, no_statements, statement, Statement, assignment, call_statement, do_block, while_loop, repeat_loop, if_statement, numeric_for, generic_for, function_statement, local_function, local_statement, return_statement, break_statement, Branches, no_branches, branch, Otherwise, no_otherwise, otherwise, ForStep, no_step, by_step, FunctionBody, function_body, Expressions, no_expressions, expression, Expression, function_expression, index_expression, field_expression, call_expression, method_call, and_expression, or_expression, binary_expression, unary_expression, constructor, parenthesized, Arguments, argument_list, text_argument, table_argument, Fields, no_fields, positional, named, keyed, Source}
use Rattle.lua_tree.specs.declared.tree.UnaryOp.{UnaryOp}
use Rattle.scheme_order.specs.Turned.{is_turned, with_all_declared, with_declared}

abbrev mutual
  pub all_ordered_block : (own : List Text) → Statements → Bool
  all_ordered_block own no_statements = true
  all_ordered_block own (statement line semi s rest) = all_ordered_statement own s && all_ordered_block (with_declared own s) rest

  pub all_ordered_statement : (own : List Text) → Statement → Bool
  all_ordered_statement own (assignment targets es) = all_ordered_values own targets && all_ordered_values own es
  all_ordered_statement own (call_statement e) = all_ordered_expression false own e
  all_ordered_statement own (do_block block) = all_ordered_block own block
  all_ordered_statement own (while_loop e block) = all_ordered_expression true own e && all_ordered_block own block
  all_ordered_statement own (repeat_loop block e) = all_ordered_block own block && all_ordered_expression true (with_all_declared own block) e
  all_ordered_statement own (if_statement branches last) = all_ordered_branches own branches && all_ordered_otherwise own last
  all_ordered_statement own (numeric_for name first last by block) = all_ordered_expression false own first && (all_ordered_expression false own last && (all_ordered_step own by && all_ordered_block (name ∷ own) block))
  all_ordered_statement own (generic_for names es block) = all_ordered_values own es && all_ordered_block (names ++ own) block
  all_ordered_statement own (function_statement path method body) = all_ordered_body (is_some method) body
  all_ordered_statement own (local_function name body) = all_ordered_body false body
  all_ordered_statement own (local_statement names es) = all_ordered_values own es
  all_ordered_statement own (return_statement es) = all_ordered_values own es
  all_ordered_statement own break_statement = true

  pub all_ordered_branches : (own : List Text) → Branches → Bool
  all_ordered_branches own no_branches = true
  all_ordered_branches own (branch e block rest) = all_ordered_expression true own e && (all_ordered_block own block && all_ordered_branches own rest)

  pub all_ordered_otherwise : (own : List Text) → Otherwise → Bool
  all_ordered_otherwise own no_otherwise = true
  all_ordered_otherwise own (otherwise block) = all_ordered_block own block

  pub all_ordered_step : (own : List Text) → ForStep → Bool
  all_ordered_step own no_step = true
  all_ordered_step own (by_step e) = all_ordered_expression false own e

  -- its own locals are its parameters at first
  pub all_ordered_body : (method : Bool) → FunctionBody → Bool
  all_ordered_body method (function_body params vararg block first last) = all_ordered_block (all_params method params) block

  -- what is tested, or a value, which has tests only in the functions in it
  pub all_ordered_expression : (tested : Bool) → (own : List Text) → Expression → Bool
  all_ordered_expression tested own (function_expression line body) = all_ordered_body false body
  all_ordered_expression tested own (index_expression line on key) = all_ordered_expression false own on && all_ordered_expression false own key
  all_ordered_expression tested own (field_expression line on name) = all_ordered_expression false own on
  all_ordered_expression tested own (call_expression line on args on_line) = all_ordered_expression false own on && all_ordered_arguments own args
  all_ordered_expression tested own (method_call line on name args on_line) = all_ordered_expression false own on && all_ordered_arguments own args
  all_ordered_expression tested own (and_expression line left right) = all_ordered_expression tested own left && all_ordered_expression tested own right
  all_ordered_expression tested own (or_expression line left right) = all_ordered_expression tested own left && all_ordered_expression tested own right
  all_ordered_expression tested own (binary_expression line op left right) =
      (not tested || not (is_turned own op left right)) && (all_ordered_expression false own left && all_ordered_expression false own right)
  all_ordered_expression tested own (unary_expression line UnaryOp.Not e) = all_ordered_expression tested own e
  all_ordered_expression tested own (unary_expression line op e) = all_ordered_expression false own e
  all_ordered_expression tested own (constructor line fields) = all_ordered_fields own fields
  all_ordered_expression tested own (parenthesized line e) = all_ordered_expression tested own e
  all_ordered_expression tested own e = true

  pub all_ordered_arguments : (own : List Text) → Arguments → Bool
  all_ordered_arguments own (argument_list es) = all_ordered_values own es
  all_ordered_arguments own (text_argument text) = true
  all_ordered_arguments own (table_argument fields) = all_ordered_fields own fields

  pub all_ordered_values : (own : List Text) → Expressions → Bool
  all_ordered_values own no_expressions = true
  all_ordered_values own (expression e rest) = all_ordered_expression false own e && all_ordered_values own rest

  pub all_ordered_fields : (own : List Text) → Fields → Bool
  all_ordered_fields own no_fields = true
  all_ordered_fields own (positional e separator rest) = all_ordered_expression false own e && all_ordered_fields own rest
  all_ordered_fields own (named name e separator rest) = all_ordered_expression false own e && all_ordered_fields own rest
  all_ordered_fields own (keyed key e separator rest) = all_ordered_expression false own key && (all_ordered_expression false own e && all_ordered_fields own rest)

-- the main function has no parameters
abbrev pub IsAllOrdered : Source → Type 0
IsAllOrdered source = all_ordered_block [] source.body ≡ true
