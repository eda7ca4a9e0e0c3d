-- Names that are free in an expression, a statement or a function: they are mentioned, and no name of its own is meant.
-- Scopes are those of manual 2.6: the condition of a `repeat` sees the locals of its block.
use Rattle.std.specs.Prelude.{◌&&◌, ◌||◌, not, Bool, false, List, [], ◌∷◌, is_some}
use Rattle.std.specs.Str.{bytes_eq}
use Rattle.lua_num.specs.Bytes.{Text}
use Rattle.lua_tree.specs.Outline.{all_params}
use Rattle.lua_tree.specs.Syntax as syntax
use Rattle.lua_tree.specs.Syntax.{Arguments, argument_list, text_argument, table_argument, Branches, no_branches, branch, Otherwise, no_otherwise, otherwise, ForStep, no_step, by_step, Expression, Expressions, no_expressions, Fields, no_fields, positional, named, keyed, FunctionBody, function_body, Statement, Statements, no_statements, assignment, call_statement, do_block, while_loop, repeat_loop, if_statement, numeric_for, generic_for, function_statement, local_function, local_statement, return_statement, break_statement, name_expression, function_expression, index_expression, field_expression, call_expression, method_call, and_expression, or_expression, binary_expression, unary_expression, constructor, parenthesized}
use Rattle.scheme_stands.specs.Words.{is_among}

-- a statement brings the name into scope behind it
abbrev pub brings : Text → Statement → Bool
brings text (local_statement names es) = is_among text names
brings text (local_function name body) = bytes_eq text name
brings text s = false

-- a path begins with the name
abbrev pub begins_with : Text → List Text → Bool
begins_with text [] = false
begins_with text (name ∷ names) = bytes_eq text name

-- a statement of the block brings the name into scope at its end
abbrev pub brings_in_block : Text → Statements → Bool
brings_in_block text no_statements = false
brings_in_block text (syntax.statement line semi s rest) = brings text s || brings_in_block text rest

abbrev mutual
  pub free_in : Text → Expression → Bool
  free_in text (name_expression line name) = bytes_eq text name
  free_in text (function_expression line body) = free_in_body text false body
  free_in text (index_expression line on key) = free_in text on || free_in text key
  free_in text (field_expression line on name) = free_in text on
  free_in text (call_expression line on args on_line) = free_in text on || free_in_given text args
  free_in text (method_call line on name args on_line) = free_in text on || free_in_given text args
  free_in text (and_expression line left right) = free_in text left || free_in text right
  free_in text (or_expression line left right) = free_in text left || free_in text right
  free_in text (binary_expression line op left right) = free_in text left || free_in text right
  free_in text (unary_expression line op e) = free_in text e
  free_in text (constructor line fields) = free_in_fields text fields
  free_in text (parenthesized line e) = free_in text e
  free_in text e = false

  pub free_in_given : Text → Arguments → Bool
  free_in_given text (argument_list es) = free_in_all text es
  free_in_given text (text_argument it) = false
  free_in_given text (table_argument fields) = free_in_fields text fields

  pub free_in_fields : Text → Fields → Bool
  free_in_fields text no_fields = false
  free_in_fields text (positional e separator rest) = free_in text e || free_in_fields text rest
  free_in_fields text (named name e separator rest) = free_in text e || free_in_fields text rest
  free_in_fields text (keyed key e separator rest) = (free_in text key || free_in text e) || free_in_fields text rest

  pub free_in_all : Text → Expressions → Bool
  free_in_all text no_expressions = false
  free_in_all text (syntax.expression e es) = free_in text e || free_in_all text es

  pub free_in_body : Text → (method : Bool) → FunctionBody → Bool
  free_in_body text method (function_body params vararg block first last) = not (is_among text (all_params method params)) && free_in_block text block

  pub free_in_block : Text → Statements → Bool
  free_in_block text no_statements = false
  free_in_block text (syntax.statement line semi s rest) = free_in_statement text s || (not (brings text s) && free_in_block text rest)

  pub free_in_statement : Text → Statement → Bool
  free_in_statement text (call_statement e) = free_in text e
  free_in_statement text (assignment targets es) = free_in_all text targets || free_in_all text es
  free_in_statement text (local_statement names es) = free_in_all text es
  free_in_statement text (return_statement es) = free_in_all text es
  free_in_statement text (function_statement path method body) = begins_with text path || free_in_body text (is_some method) body
  free_in_statement text (local_function name body) = not (bytes_eq text name) && free_in_body text false body
  free_in_statement text (do_block block) = free_in_block text block
  free_in_statement text (while_loop e block) = free_in text e || free_in_block text block
  free_in_statement text (repeat_loop block e) = free_in_block text block || (not (brings_in_block text block) && free_in text e)
  free_in_statement text (if_statement branches last) = free_in_branches text branches || free_otherwise text last
  free_in_statement text (numeric_for name first last by block) =
      free_in text first || (free_in text last || (free_in_step text by || (not (bytes_eq text name) && free_in_block text block)))
  free_in_statement text (generic_for names es block) = free_in_all text es || (not (is_among text names) && free_in_block text block)
  free_in_statement text break_statement = false

  pub free_in_branches : Text → Branches → Bool
  free_in_branches text no_branches = false
  free_in_branches text (branch e block rest) = (free_in text e || free_in_block text block) || free_in_branches text rest

  pub free_otherwise : Text → Otherwise → Bool
  free_otherwise text no_otherwise = false
  free_otherwise text (otherwise block) = free_in_block text block

  pub free_in_step : Text → ForStep → Bool
  free_in_step text no_step = false
  free_in_step text (by_step e) = free_in text e
