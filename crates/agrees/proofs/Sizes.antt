-- The ticks that a part spends at most, but for those that a step pays for: a call's body, a loop's further turns.
use Rattle.std.proofs.Common.{ℕ, suc, ◌+◌, ◌*◌}
use Rattle.lua_tree.specs.Syntax as syntax
use Rattle.lua_tree.specs.Syntax.{Statements, no_statements, Statement, assignment, call_statement, do_block, while_loop, repeat_loop, if_statement, numeric_for, generic_for, function_statement, local_function, local_statement, return_statement, break_statement, Branches, no_branches, branch, Otherwise, no_otherwise, otherwise, ForStep, no_step, by_step, FunctionBody, function_body, Expressions, no_expressions, Expression, function_expression, index_expression, field_expression, call_expression, method_call, and_expression, or_expression, binary_expression, unary_expression, constructor, parenthesized, Arguments, argument_list, text_argument, table_argument, Fields, no_fields, positional, named, keyed}
use Rattle.std.specs.Prelude.{length}

-- a call, all protected calls that stand directly in one another, and one that is refused
abbrev pub call_cost : ℕ
call_cost = 202

abbrev mutual
  -- an expression as a task is one tick more; a function counts as its block, so that a bound of the whole bounds each function in it
  pub inner : Expression → ℕ
  inner (function_expression line f) = inner_function f
  inner (index_expression line on key) = suc (inner on) + (suc (inner key) + call_cost)
  inner (field_expression line on name) = suc (inner on) + call_cost
  inner (call_expression line on args on_line) = (suc (inner on) + inner_args args) + call_cost
  inner (method_call line on name args on_line) = (suc (inner on) + (call_cost + inner_args args)) + call_cost
  inner (and_expression line left right) = suc (inner left) + suc (inner right)
  inner (or_expression line left right) = suc (inner left) + suc (inner right)
  inner (binary_expression line op left right) = suc (inner left) + (suc (inner right) + call_cost)
  inner (unary_expression line op e) = suc (inner e) + call_cost
  inner (constructor line fs) = inner_fields fs
  inner (parenthesized line e) = suc (inner e)
  inner e = 0

  pub inner_function : FunctionBody → ℕ
  inner_function (function_body params vararg b first last) = suc (inner_block b) + call_cost

  pub inner_args : Arguments → ℕ
  inner_args (argument_list es) = inner_list es
  inner_args (text_argument t) = 1
  inner_args (table_argument fs) = suc (inner_fields fs)

  -- each item of a list is a task in which the expression is one
  pub inner_list : Expressions → ℕ
  inner_list no_expressions = 0
  inner_list (syntax.expression e rest) = suc (suc (inner e)) + inner_list rest

  pub inner_fields : Fields → ℕ
  inner_fields no_fields = 0
  inner_fields (positional e sep rest) = suc (suc (inner e)) + inner_fields rest
  inner_fields (named name e sep rest) = suc (suc (inner e) + call_cost) + inner_fields rest
  inner_fields (keyed key e sep rest) = suc (suc (inner key) + (suc (inner e) + call_cost)) + inner_fields rest

  pub inner_targets : Expressions → ℕ
  inner_targets no_expressions = 0
  inner_targets (syntax.expression e rest) = (suc (suc (inner e) + call_cost)) + inner_targets rest

  pub inner_step : ForStep → ℕ
  inner_step no_step = 0
  inner_step (by_step e) = suc (inner e)

  -- a block as a task is one tick more, and so is a statement
  pub inner_block : Statements → ℕ
  inner_block no_statements = 0
  inner_block (syntax.statement line semi c rest) = suc (inner_statement c) + inner_block rest

  pub inner_statement : Statement → ℕ
  inner_statement (assignment ts es) = inner_targets ts + inner_list es
  inner_statement (call_statement e) = suc (inner e)
  inner_statement (do_block b) = suc (inner_block b)
  inner_statement (while_loop e b) = suc (suc (inner e)) + suc (suc (inner_block b))
  inner_statement (repeat_loop b e) = suc (suc (inner_block b) + suc (suc (inner e)))
  inner_statement (if_statement branches last) = inner_branches branches + inner_last last
  inner_statement (numeric_for name first last step b) = suc (inner first) + (suc (inner last) + (inner_step step + (1 + suc (suc (inner_block b)))))
  inner_statement (generic_for names es b) = inner_list es + (suc call_cost + suc (suc (inner_block b)))
  inner_statement (function_statement path method f) = (4 + (length path + 2) * suc call_cost) + (3 + inner_function f)
  inner_statement (local_function name f) = inner_function f
  inner_statement (local_statement names es) = inner_list es
  inner_statement (return_statement es) = 2 + inner_list es + call_cost
  inner_statement break_statement = 0

  pub inner_branches : Branches → ℕ
  inner_branches no_branches = 0
  inner_branches (branch e b rest) = suc (inner e) + (suc (inner_block b) + inner_branches rest)

  pub inner_last : Otherwise → ℕ
  inner_last no_otherwise = 0
  inner_last (otherwise b) = suc (inner_block b)

abbrev pub size_e : Expression → ℕ
size_e e = suc (inner e)

abbrev pub size_b : Statements → ℕ
size_b b = suc (inner_block b)
