-- Every part of a tree makes the same but for lines: the induction over the tree.
use Rattle.std.proofs.Common.{◌≡◌, ℕ, Bool, true, false, [], ◌∷◌, length, refl, ap₂}
use Rattle.std.specs.Prelude.{Option, Some, None, is_some, ◌||◌}
use Rattle.lua_tree.specs.Syntax as syntax
use Rattle.lua_tree.specs.Syntax.{Statements, no_statements, Statement, assignment, call_statement, do_block, while_loop, repeat_loop, if_statement, numeric_for, generic_for, function_statement, local_function, local_statement, return_statement, break_statement, Branches, no_branches, branch, Otherwise, no_otherwise, otherwise, ForStep, no_step, by_step, FunctionBody, function_body, Expressions, no_expressions, Expression, nil_literal, true_literal, false_literal, vararg_expression, number_literal, text_literal, name_expression, function_expression, index_expression, field_expression, call_expression, method_call, and_expression, or_expression, binary_expression, unary_expression, constructor, parenthesized, Arguments, argument_list, text_argument, table_argument, Fields, no_fields, positional, named, keyed}
use Rattle.lua_tree.specs.Outline.{all_params}
use Rattle.opcode.specs.declared.op.Op.{Op}
use Rattle.proto.specs.declared.parts.Constant.{Constant}
use Rattle.scheme.specs.Functions.{coded_function}
use Rattle.scheme.specs.Statements.{Loop, with_method, path_from}
use Rattle.scheme.specs.Scheme.{statements_made, statement_made, branches_made, otherwise_made, step_coded, inner, all_coded, coded, given, entries}
use Rattle.scheme.specs.declared.making.Piece.{Piece}
use Rattle.scheme_lines.specs.Bare.{bare_statements, bare_statement, bare_branches, bare_otherwise, bare_step, bare_body, bare_expressions, bare_expression, bare_arguments, bare_fields}
use Rattle.scheme_lines.proofs.Makers.{SamePart, bind, ◌then◌, no_part, same_put, same_label, same_place}
use Rattle.scheme_lines.proofs.Trees.{has_branch_same, has_otherwise_same}
use Rattle.scheme_lines.proofs.Expressions.{Same, AllSame, same_load, same_next_text, same_single, same_coded_name, same_index, same_field, same_paren, same_binary, same_unary, same_logic}
use Rattle.scheme_lines.proofs.Lists.{SameGiven, same_given_list, same_given_one, same_call_at, same_method_at, same_call, same_vararg, SameEntries, same_table_at, same_table}
use Rattle.scheme_lines.proofs.Functions.{SameInner, same_function, same_coded_function}
use Rattle.scheme_lines.proofs.Statements.{same_block, same_settle, same_local, same_local_function, same_assign, same_method, same_while, same_repeat, same_arm, SameStep, same_no_step, same_by_step, same_numeric, same_generic, same_break, same_return}

mutual
  pub statements_same : (block : Statements) (loop : Option Loop) → SamePart (statements_made block loop) (statements_made (bare_statements block) loop)
  statements_same no_statements loop = no_part
  statements_same (syntax.statement line semi s rest) loop = statement_same s line loop then same_settle then statements_same rest loop

  statement_same : (s : Statement) (line : ℕ) (loop : Option Loop) → SamePart (statement_made s line loop) (statement_made (bare_statement s) 1 loop)
  statement_same (assignment targets es) line loop = same_assign line _ _ _ _ (all_same targets) (all_same es)
  statement_same (call_statement e) line loop = (same e).multi Op.Call (Some 0)
  statement_same (do_block block) line loop = same_block line (statements_same block loop)
  statement_same (while_loop test block) line loop = same_while line (same test) (record { same = statements_same block })
  statement_same (repeat_loop block test) line loop = same_repeat line (record { same = statements_same block }) (same test)
  statement_same (if_statement branches last) line loop =
      bind same_label (λ end. branches_same branches line loop end (has_otherwise_same last) then otherwise_same last line loop then same_place end)
  statement_same (numeric_for text first last step block) line loop = same_numeric line text (same first) (same last) (step_same step) (record { same = statements_same block })
  statement_same (generic_for names es block) line loop = same_generic line names _ _ (all_same es) (record { same = statements_same block })
  statement_same (function_statement path method body) line loop =
      same_assign line (with_method line (path_from line path) method ∷ []) (with_method 1 (path_from 1 path) method ∷ [])
      (coded_function line body (inner body (is_some method)) ∷ []) (coded_function 1 (bare_body body) (inner (bare_body body) (is_some method)) ∷ [])
      (same_method line path method, tt) (same_coded_function line body (inner_same body (is_some method)), tt)
  statement_same (local_function text body) line loop = same_local_function line text (inner_same body false)
  statement_same (local_statement names es) line loop = same_local line names _ _ (all_same es)
  statement_same (return_statement es) line loop = same_return line _ _ (all_same es)
  statement_same break_statement line loop = same_break line loop

  branches_same : (branches : Branches) (line : ℕ) (loop : Option Loop) (end : ℕ) {more other : Bool} → more ≡ other →
      SamePart (branches_made branches line loop end more) (branches_made (bare_branches branches) 1 loop end other)
  branches_same no_branches line loop end e = no_part
  branches_same (branch test block rest) line loop end e =
      same_arm line end (ap₂ (λ b d. b || d) (has_branch_same rest) e) (same test) (statements_same block loop) then branches_same rest line loop end e

  otherwise_same : (last : Otherwise) (line : ℕ) (loop : Option Loop) → SamePart (otherwise_made last line loop) (otherwise_made (bare_otherwise last) 1 loop)
  otherwise_same no_otherwise line loop = no_part
  otherwise_same (otherwise block) line loop = same_block line (statements_same block loop)

  step_same : (step : ForStep) → SameStep (step_coded step) (step_coded (bare_step step))
  step_same no_step = same_no_step
  step_same (by_step e) = same_by_step (same e)

  inner_same : (body : FunctionBody) (method : Bool) → SameInner (inner body method) (inner (bare_body body) method)
  inner_same (function_body params vararg block first last) method =
      let params = all_params method params in
      same_function (record { source = None; first_line = first; last_line = last; params = length params; vararg = vararg }) last params (statements_same block None)

  all_same : (es : Expressions) → AllSame (all_coded es) (all_coded (bare_expressions es))
  all_same no_expressions = tt
  all_same (syntax.expression e rest) = (same e, all_same rest)

  same : (e : Expression) → Same (coded e) (coded (bare_expression e))
  same (nil_literal line) = same_single line _ _ _ _ refl (λ r. same_put line (Piece.Abc Op.LoadNil r r 0))
  same (true_literal line) = same_single line _ _ _ _ refl (λ r. same_put line (Piece.Abc Op.LoadBool r 1 0))
  same (false_literal line) = same_single line _ _ _ _ refl (λ r. same_put line (Piece.Abc Op.LoadBool r 0 0))
  same (vararg_expression line) = same_vararg line
  same (number_literal line n) = same_single line (number_literal line n) _ _ _ refl (λ r. same_load line r (Constant.Number n))
  same (text_literal line text) = same_single line (text_literal line text) _ _ _ refl (λ r. same_load line r (Constant.Text text))
  same (name_expression line text) = same_coded_name line text
  same (function_expression line body) = same_coded_function line body (inner_same body false)
  same (index_expression line on key) = same_index line (index_expression line on key) _ refl (same on) (same key)
  same (field_expression line on text) = same_field line (field_expression line on text) _ text refl (same on)
  same (call_expression line on args on_line) = same_call line (call_expression line on args on_line) _ _ _ refl (same_call_at line (same on) (given_same args line))
  same (method_call line on text args on_line) = same_call line (method_call line on text args on_line) _ _ _ refl (same_method_at line text (same on) (given_same args line))
  same (and_expression line left right) = same_logic line false (and_expression line left right) _ refl (same left) (same right)
  same (or_expression line left right) = same_logic line true (or_expression line left right) _ refl (same left) (same right)
  same (binary_expression line op left right) = same_binary line op (binary_expression line op left right) _ refl (same left) (same right)
  same (unary_expression line op e) = same_unary line op (unary_expression line op e) _ refl (same e)
  same (constructor line fields) = same_table line fields _ _ (entries_same fields)
  same (parenthesized line e) = same_paren (parenthesized line e) _ refl (same e)

  given_same : (args : Arguments) (line : ℕ) → SameGiven (given args line) (given (bare_arguments args) 1)
  given_same (argument_list es) line = same_given_list _ _ (all_same es)
  given_same (text_argument text) line = same_given_one (same_next_text line text)
  given_same (table_argument fields) line = same_given_one (same_table_at line _ _ (entries_same fields))

  entries_same : (fields : Fields) → SameEntries (entries fields) (entries (bare_fields fields))
  entries_same no_fields = tt
  entries_same (positional e separator rest) = (same e, entries_same rest)
  entries_same (named text e separator rest) = ((refl, same e), entries_same rest)
  entries_same (keyed key e separator rest) = ((same key, same e), entries_same rest)
