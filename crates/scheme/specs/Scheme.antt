-- To be believed. The code scheme: the chunk of a source under a name (manual 2.4 and 2.5, construct by construct).
use Rattle.std.specs.Prelude.{◌≡◌, ℕ, Bool, true, false, ◌||◌, List, [], ◌∷◌, length, drop, Option, Some, None, is_some}
use Rattle.lua_tree.specs.Syntax as syntax
use Rattle.lua_num.specs.Bytes.{Text}
use Rattle.lua_tree.specs.Syntax.{Statements, no_statements, Statement, assignment, call_statement, do_block, while_loop, repeat_loop, if_statement, numeric_for, generic_for, function_statement, local_function, local_statement, return_statement, break_statement, Branches, no_branches, branch, Otherwise, no_otherwise, otherwise, ForStep, no_step, by_step, FunctionBody, function_body, Expressions, no_expressions, Expression, nil_literal, true_literal, false_literal, vararg_expression, number_literal, text_literal, name_expression, function_expression, index_expression, field_expression, call_expression, method_call, and_expression, or_expression, binary_expression, unary_expression, constructor, parenthesized, Arguments, argument_list, text_argument, table_argument, Fields, no_fields, positional, named, keyed, Source}
use Rattle.lua_tree.specs.Outline.{all_params}
use Rattle.lua_tree.specs.Resolved.{Resolved, resolved}
use Rattle.opcode.specs.declared.op.Op.{Op}
use Rattle.proto.specs.Chunk.{Chunk}
use Rattle.scheme.specs.Making.{◌>>=◌, ◌>>◌, Ahead, Part, nothing, put, new_label, place}
use Rattle.scheme.specs.Expressions.{Coded, single, load, next_text, coded_name, coded_index, coded_field, coded_paren, coded_binary, coded_unary, coded_logic}
use Rattle.scheme.specs.Lists.{Given, given_list, given_one, call_at, method_at, coded_call, coded_vararg, Entry, positional_entry, named_entry, keyed_entry, table_at, coded_table}
use Rattle.scheme.specs.Functions.{Inner, Finished, function_from, coded_function}
use Rattle.scheme.specs.Statements.{Loop, block_part, settle, local_part, local_function_part, assign_part, path_from, with_method, while_part, repeat_part, arm_part, numeric_part, generic_part, break_part, return_part}
use Rattle.proto.specs.declared.parts.Constant.{Constant}
use Rattle.scheme.specs.declared.making.Piece.{Piece}

abbrev pub has_branch : Branches → Bool
has_branch no_branches = false
has_branch (branch test block rest) = true

abbrev pub has_otherwise : Otherwise → Bool
has_otherwise no_otherwise = false
has_otherwise (otherwise block) = true

abbrev mutual
  pub statements_made : Statements → Option Loop → Part
  statements_made no_statements loop = nothing
  statements_made (syntax.statement line semi s rest) loop = statement_made s line loop >> settle >> statements_made rest loop

  pub statement_made : Statement → (line : ℕ) → Option Loop → Part
  statement_made (assignment targets es) line loop = assign_part line (all_coded targets) (all_coded es)
  statement_made (call_statement e) line loop = (coded e).multi Op.Call (Some 0)
  statement_made (do_block block) line loop = block_part line (statements_made block loop)
  statement_made (while_loop test block) line loop = while_part line (coded test) (statements_made block)
  statement_made (repeat_loop block test) line loop = repeat_part line (statements_made block) (coded test)
  statement_made (if_statement branches last) line loop = do
    end ← new_label
    branches_made branches line loop end (has_otherwise last)
    otherwise_made last line loop
    place end
  statement_made (numeric_for text first last step block) line loop = numeric_part line text (coded first) (coded last) (step_coded step) (statements_made block)
  statement_made (generic_for names es block) line loop = generic_part line names (all_coded es) (statements_made block)
  statement_made (function_statement path method body) line loop =
      assign_part line (with_method line (path_from line path) method ∷ []) (coded_function line body (inner body (is_some method)) ∷ [])
  statement_made (local_function text body) line loop = local_function_part line text (inner body false)
  statement_made (local_statement names es) line loop = local_part line names (all_coded es)
  statement_made (return_statement es) line loop = return_part line (all_coded es)
  statement_made break_statement line loop = break_part line loop

  pub branches_made : Branches → (line : ℕ) → Option Loop → (end : ℕ) → (more : Bool) → Part
  branches_made no_branches line loop end more = nothing
  branches_made (branch test block rest) line loop end more =
      arm_part line end (has_branch rest || more) (coded test) (statements_made block loop) >> branches_made rest line loop end more

  pub otherwise_made : Otherwise → (line : ℕ) → Option Loop → Part
  otherwise_made no_otherwise line loop = nothing
  otherwise_made (otherwise block) line loop = block_part line (statements_made block loop)

  pub step_coded : ForStep → Option Coded
  step_coded no_step = None
  step_coded (by_step e) = Some (coded e)

  pub inner : FunctionBody → (method : Bool) → Inner
  inner (function_body params vararg block first last) method =
      function_from (record { source = None; first_line = first; last_line = last; params = length (all_params method params); vararg = vararg })
      last (all_params method params) (statements_made block None)

  pub all_coded : Expressions → List Coded
  all_coded no_expressions = []
  all_coded (syntax.expression e rest) = coded e ∷ all_coded rest

  pub coded : Expression → Coded
  coded (nil_literal line) = single line (nil_literal line) (λ r. put line (Piece.Abc Op.LoadNil r r 0))
  coded (true_literal line) = single line (true_literal line) (λ r. put line (Piece.Abc Op.LoadBool r 1 0))
  coded (false_literal line) = single line (false_literal line) (λ r. put line (Piece.Abc Op.LoadBool r 0 0))
  coded (vararg_expression line) = coded_vararg line
  coded (number_literal line n) = single line (number_literal line n) (λ r. load line r (Constant.Number n))
  coded (text_literal line text) = single line (text_literal line text) (λ r. load line r (Constant.Text text))
  coded (name_expression line text) = coded_name line text
  coded (function_expression line body) = coded_function line body (inner body false)
  coded (index_expression line on key) = coded_index line (index_expression line on key) (coded on) (coded key)
  coded (field_expression line on text) = coded_field line (field_expression line on text) (coded on) text
  coded (call_expression line on args on_line) = coded_call line (call_expression line on args on_line) (call_at line (coded on) (given args line))
  coded (method_call line on text args on_line) = coded_call line (method_call line on text args on_line) (method_at line (coded on) text (given args line))
  coded (and_expression line left right) = coded_logic line false (and_expression line left right) (coded left) (coded right)
  coded (or_expression line left right) = coded_logic line true (or_expression line left right) (coded left) (coded right)
  coded (binary_expression line op left right) = coded_binary line op (binary_expression line op left right) (coded left) (coded right)
  coded (unary_expression line op e) = coded_unary line op (unary_expression line op e) (coded e)
  coded (constructor line fields) = coded_table line fields (entries fields)
  coded (parenthesized line e) = coded_paren (parenthesized line e) (coded e)

  pub given : Arguments → (line : ℕ) → Given
  given (argument_list es) line = given_list (all_coded es)
  given (text_argument text) line = given_one (next_text line text)
  given (table_argument fields) line = given_one (table_at line (entries fields))

  pub entries : Fields → List Entry
  entries no_fields = []
  entries (positional e separator rest) = positional_entry (coded e) ∷ entries rest
  entries (named text e separator rest) = named_entry text (coded e) ∷ entries rest
  entries (keyed key e separator rest) = keyed_entry (coded key) (coded e) ∷ entries rest

-- ---- the whole

-- what is ahead of the main chunk, which has no upvalues
abbrev pub ahead_of : Resolved → Ahead
ahead_of scopes = record { names = scopes.names; captures = scopes.captured; sources = drop 1 scopes.upvalues; declarations = 0 }

abbrev pub scheme_by : Resolved → Source → (source_name : Text) → Finished
scheme_by scopes source source_name =
    function_from (record { source = Some source_name; first_line = 0; last_line = 0; params = 0; vararg = true })
    source.last_line [] (statements_made source.body None) [] (ahead_of scopes)

abbrev pub scheme_of : Source → (source_name : Text) → Finished
scheme_of source source_name = scheme_by (resolved source) source source_name

-- the chunk of a source
abbrev pub scheme : Source → (source_name : Text) → Chunk
scheme source source_name = (scheme_of source source_name).chunk

-- it keeps all limits
abbrev pub Fits : Source → Type 0
Fits source = (scheme_of source []).misfits ≡ []
