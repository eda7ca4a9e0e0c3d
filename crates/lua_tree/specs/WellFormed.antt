-- To be believed. Which trees are source (manual 2.4, 2.5 and 8). Every tree spells tokens; a well-formed one is what they are read as.
use Rattle.std.specs.Prelude.{◌≡◌, ◌&&◌, ◌||◌, ℕ, ◌+◌, ◌≤◌, ℤ, pos, negsuc, Bool, true, false, not, List, Option, Some, None, max, ◌==◌}
use Rattle.lua_tree.specs.Syntax.{Statements, no_statements, statement, Statement, assignment, call_statement, do_block, while_loop, repeat_loop, if_statement, numeric_for, generic_for, function_statement, local_function, local_statement, return_statement, break_statement, Branches, no_branches, branch, Otherwise, no_otherwise, otherwise, ForStep, no_step, by_step, FunctionBody, function_body, Expressions, no_expressions, expression, Expression, nil_literal, true_literal, false_literal, vararg_expression, number_literal, text_literal, name_expression, function_expression, index_expression, field_expression, call_expression, method_call, and_expression, or_expression, binary_expression, unary_expression, constructor, parenthesized, Arguments, argument_list, text_argument, table_argument, Fields, no_fields, positional, named, keyed, Source}
use Rattle.lua_tree.specs.declared.tree.Separator.{Separator}
use Rattle.lua_tree.specs.Names.{is_name, are_names, are_some_names}
use Rattle.lua_tree.specs.Precedence.{level_of_op, is_right_associative, left_binds, right_binds}

-- what may be assigned to
abbrev pub is_target : Expression → Bool
is_target (name_expression line name) = true
is_target (index_expression line on key) = true
is_target (field_expression line on name) = true
is_target e = false

abbrev pub is_call : Expression → Bool
is_call (call_expression line on args on_line) = true
is_call (method_call line on name args on_line) = true
is_call e = false

-- what may be indexed or called
abbrev pub is_prefix : Expression → Bool
is_prefix (parenthesized line e) = true
is_prefix e = is_target e || is_call e

abbrev pub are_targets : Expressions → Bool
are_targets no_expressions = true
are_targets (expression e rest) = is_target e && are_targets rest

abbrev pub has_expressions : Expressions → Bool
has_expressions no_expressions = false
has_expressions (expression e rest) = true

abbrev pub has_branches : Branches → Bool
has_branches no_branches = false
has_branches (branch cond block rest) = true

-- an item may have no separator only at the end
abbrev pub ends_item : Separator → Fields → Bool
ends_item Separator.Missing (positional e separator rest) = false
ends_item Separator.Missing (named name e separator rest) = false
ends_item Separator.Missing (keyed key e separator rest) = false
ends_item separator rest = true

abbrev pub is_numeral_value : ℤ → Bool
is_numeral_value (pos n) = true
is_numeral_value (negsuc n) = false

abbrev pub is_optional_name : Option (List ℕ) → Bool
is_optional_name None = true
is_optional_name (Some name) = is_name name

-- the `(` of arguments stands on the line of the token before it
abbrev pub on_its_line : Arguments → ℕ → ℕ → Bool
on_its_line (argument_list es) line on_line = line == on_line
on_its_line args line on_line = true

-- an expression's first token is `(`
abbrev pub begins_with_paren : Expression → Bool
begins_with_paren (parenthesized line e) = true
begins_with_paren (index_expression line on key) = begins_with_paren on
begins_with_paren (field_expression line on name) = begins_with_paren on
begins_with_paren (call_expression line on args on_line) = begins_with_paren on
begins_with_paren (method_call line on name args on_line) = begins_with_paren on
begins_with_paren e = false

abbrev pub first_begins_with_paren : Expressions → Bool
first_begins_with_paren no_expressions = false
first_begins_with_paren (expression e rest) = begins_with_paren e

-- a statement's first token is `(`
abbrev pub statement_begins_with_paren : Statement → Bool
statement_begins_with_paren (assignment targets es) = first_begins_with_paren targets
statement_begins_with_paren (call_statement e) = begins_with_paren e
statement_begins_with_paren s = false

-- an expression could take arguments behind it
abbrev pub takes_arguments : Expression → Bool
takes_arguments (binary_expression line op left right) = takes_arguments right
takes_arguments (and_expression line left right) = takes_arguments right
takes_arguments (or_expression line left right) = takes_arguments right
takes_arguments (unary_expression line op of) = takes_arguments of
takes_arguments e = is_prefix e

abbrev pub last_takes_arguments : Expressions → Bool
last_takes_arguments no_expressions = false
last_takes_arguments (expression e no_expressions) = takes_arguments e
last_takes_arguments (expression e rest) = last_takes_arguments rest

abbrev pub statement_takes_arguments : Statement → Bool
statement_takes_arguments (assignment targets es) = last_takes_arguments es
statement_takes_arguments (call_statement e) = true
statement_takes_arguments (repeat_loop block cond) = takes_arguments cond
statement_takes_arguments (local_statement names es) = last_takes_arguments es
statement_takes_arguments s = false

-- `return` and `break` are the last of their block
abbrev pub ends_block : Statement → Bool
ends_block (return_statement es) = true
ends_block break_statement = true
ends_block s = false

-- what may follow a statement, with a semicolon between them or not
abbrev pub may_follow : Statement → Bool → Statements → Bool
may_follow s semi no_statements = true
may_follow s semi (statement line next_semi next rest) = not (ends_block s) && (semi || not (statement_takes_arguments s && statement_begins_with_paren next))

abbrev mutual
  pub formed_statements : Statements → Bool
  formed_statements no_statements = true
  formed_statements (statement line semi s rest) = formed_statement s && (may_follow s semi rest && formed_statements rest)

  pub formed_statement : Statement → Bool
  formed_statement (assignment targets es) = has_expressions targets && (are_targets targets && (formed_expressions targets && (has_expressions es && formed_expressions es)))
  formed_statement (call_statement e) = is_call e && formed_expression e
  formed_statement (do_block block) = formed_statements block
  formed_statement (while_loop cond block) = formed_expression cond && formed_statements block
  formed_statement (repeat_loop block cond) = formed_statements block && formed_expression cond
  formed_statement (if_statement branches last) = has_branches branches && (formed_branches branches && formed_otherwise last)
  formed_statement (numeric_for name first last step block) = is_name name && (formed_expression first && (formed_expression last && (formed_step step && formed_statements block)))
  formed_statement (generic_for names es block) = are_some_names names && (has_expressions es && (formed_expressions es && formed_statements block))
  formed_statement (function_statement path method body) = are_some_names path && (is_optional_name method && formed_body body)
  formed_statement (local_function name body) = is_name name && formed_body body
  formed_statement (local_statement names es) = are_some_names names && formed_expressions es
  formed_statement (return_statement es) = formed_expressions es
  formed_statement break_statement = true

  pub formed_branches : Branches → Bool
  formed_branches no_branches = true
  formed_branches (branch cond block rest) = formed_expression cond && (formed_statements block && formed_branches rest)

  pub formed_otherwise : Otherwise → Bool
  formed_otherwise no_otherwise = true
  formed_otherwise (otherwise block) = formed_statements block

  pub formed_step : ForStep → Bool
  formed_step no_step = true
  formed_step (by_step e) = formed_expression e

  pub formed_body : FunctionBody → Bool
  formed_body (function_body params vararg block first last) = are_names params && formed_statements block

  pub formed_expressions : Expressions → Bool
  formed_expressions no_expressions = true
  formed_expressions (expression e rest) = formed_expression e && formed_expressions rest

  pub formed_expression : Expression → Bool
  formed_expression (nil_literal line) = true
  formed_expression (true_literal line) = true
  formed_expression (false_literal line) = true
  formed_expression (vararg_expression line) = true
  formed_expression (number_literal line n) = is_numeral_value n
  formed_expression (text_literal line text) = true
  formed_expression (name_expression line name) = is_name name
  formed_expression (function_expression line body) = formed_body body
  formed_expression (index_expression line on key) = is_prefix on && (formed_expression on && formed_expression key)
  formed_expression (field_expression line on name) = is_prefix on && (formed_expression on && is_name name)
  formed_expression (call_expression line on args on_line) = is_prefix on && (formed_expression on && (on_its_line args line on_line && formed_arguments args))
  formed_expression (method_call line on name args on_line) = is_prefix on && (formed_expression on && (is_name name && (on_its_line args line on_line && formed_arguments args)))
  formed_expression (and_expression line left right) = left_binds 2 false left && (right_binds 2 false right && (formed_expression left && formed_expression right))
  formed_expression (or_expression line left right) = left_binds 1 false left && (right_binds 1 false right && (formed_expression left && formed_expression right))
  formed_expression (binary_expression line op left right) =
      left_binds (level_of_op op) (is_right_associative op) left && (right_binds (level_of_op op) (is_right_associative op) right && (formed_expression left && formed_expression right))
  formed_expression (unary_expression line op of) = left_binds 7 false of && formed_expression of
  formed_expression (constructor line fields) = formed_fields fields
  formed_expression (parenthesized line e) = formed_expression e

  pub formed_arguments : Arguments → Bool
  formed_arguments (argument_list es) = formed_expressions es
  formed_arguments (text_argument text) = true
  formed_arguments (table_argument fields) = formed_fields fields

  pub formed_fields : Fields → Bool
  formed_fields no_fields = true
  formed_fields (positional e separator rest) = ends_item separator rest && (formed_expression e && formed_fields rest)
  formed_fields (named name e separator rest) = ends_item separator rest && (is_name name && (formed_expression e && formed_fields rest))
  formed_fields (keyed key e separator rest) = ends_item separator rest && (formed_expression key && (formed_expression e && formed_fields rest))

-- how deep the parts of a tree lie: a statement one deeper than the block's holder, an expression one deeper than what holds it
abbrev mutual
  pub depth_of_statements : Statements → ℕ
  depth_of_statements no_statements = 0
  depth_of_statements (statement line semi s rest) = max (1 + depth_of_statement s) (depth_of_statements rest)

  -- the deepest part that a statement holds, counted from it
  pub depth_of_statement : Statement → ℕ
  depth_of_statement (assignment targets es) = max (depth_of_expressions targets) (depth_of_expressions es)
  depth_of_statement (call_statement e) = depth_of_expression e
  depth_of_statement (do_block block) = depth_of_statements block
  depth_of_statement (while_loop cond block) = max (depth_of_expression cond) (depth_of_statements block)
  depth_of_statement (repeat_loop block cond) = max (depth_of_statements block) (depth_of_expression cond)
  depth_of_statement (if_statement branches last) = max (depth_of_branches branches) (depth_of_otherwise last)
  depth_of_statement (numeric_for name first last step block) = max (max (depth_of_expression first) (depth_of_expression last)) (max (depth_of_step step) (depth_of_statements block))
  depth_of_statement (generic_for names es block) = max (depth_of_expressions es) (depth_of_statements block)
  depth_of_statement (function_statement path method body) = 1 + depth_of_body body
  depth_of_statement (local_function name body) = 1 + depth_of_body body
  depth_of_statement (local_statement names es) = depth_of_expressions es
  depth_of_statement (return_statement es) = depth_of_expressions es
  depth_of_statement break_statement = 0

  pub depth_of_branches : Branches → ℕ
  depth_of_branches no_branches = 0
  depth_of_branches (branch cond block rest) = max (max (depth_of_expression cond) (depth_of_statements block)) (depth_of_branches rest)

  pub depth_of_otherwise : Otherwise → ℕ
  depth_of_otherwise no_otherwise = 0
  depth_of_otherwise (otherwise block) = depth_of_statements block

  pub depth_of_step : ForStep → ℕ
  depth_of_step no_step = 0
  depth_of_step (by_step e) = depth_of_expression e

  pub depth_of_body : FunctionBody → ℕ
  depth_of_body (function_body params vararg block first last) = depth_of_statements block

  pub depth_of_expressions : Expressions → ℕ
  depth_of_expressions no_expressions = 0
  depth_of_expressions (expression e rest) = max (depth_of_expression e) (depth_of_expressions rest)

  pub depth_of_expression : Expression → ℕ
  depth_of_expression (nil_literal line) = 1
  depth_of_expression (true_literal line) = 1
  depth_of_expression (false_literal line) = 1
  depth_of_expression (vararg_expression line) = 1
  depth_of_expression (number_literal line n) = 1
  depth_of_expression (text_literal line text) = 1
  depth_of_expression (name_expression line name) = 1
  depth_of_expression (function_expression line body) = 1 + depth_of_body body
  depth_of_expression (index_expression line on key) = 1 + max (depth_of_expression on) (depth_of_expression key)
  depth_of_expression (field_expression line on name) = 1 + depth_of_expression on
  depth_of_expression (call_expression line on args on_line) = 1 + max (depth_of_expression on) (depth_of_arguments args)
  depth_of_expression (method_call line on name args on_line) = 1 + max (depth_of_expression on) (depth_of_arguments args)
  depth_of_expression (and_expression line left right) = 1 + max (depth_of_expression left) (depth_of_expression right)
  depth_of_expression (or_expression line left right) = 1 + max (depth_of_expression left) (depth_of_expression right)
  depth_of_expression (binary_expression line op left right) = 1 + max (depth_of_expression left) (depth_of_expression right)
  depth_of_expression (unary_expression line op of) = 1 + depth_of_expression of
  depth_of_expression (constructor line fields) = 1 + depth_of_fields fields
  depth_of_expression (parenthesized line e) = 1 + depth_of_expression e

  -- a constructor that is the argument of a call is no expression of its own
  pub depth_of_arguments : Arguments → ℕ
  depth_of_arguments (argument_list es) = depth_of_expressions es
  depth_of_arguments (text_argument text) = 0
  depth_of_arguments (table_argument fields) = depth_of_fields fields

  pub depth_of_fields : Fields → ℕ
  depth_of_fields no_fields = 0
  depth_of_fields (positional e separator rest) = max (depth_of_expression e) (depth_of_fields rest)
  depth_of_fields (named name e separator rest) = max (depth_of_expression e) (depth_of_fields rest)
  depth_of_fields (keyed key e separator rest) = max (max (depth_of_expression key) (depth_of_expression e)) (depth_of_fields rest)

-- a tree that keeps every rule but that of depth
abbrev pub is_formed : Source → Bool
is_formed source = formed_statements source.body

-- a well-formed tree
pub record WellFormed (source : Source) : Type 0 where
  pub formed : is_formed source ≡ true
  pub shallow : depth_of_statements source.body ≤ 200
