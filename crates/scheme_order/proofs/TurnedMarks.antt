-- What a turned source declares and mentions is what the source does, but for where locals of the function are mentioned.
use Rattle.std.proofs.Common.{◌≡◌, ℕ, Bool, true, false, List, [], ◌∷◌, ◌++◌, refl}
use Rattle.std.specs.Prelude.{◌&&◌, ◌||◌, not, is_some}
use Rattle.std.proofs.lemmas.Bool.{and_parts}
use Rattle.lua_num.specs.Bytes.{Text}
use Rattle.lua_tree.specs.Names.{is_name, are_names, are_some_names}
use Rattle.lua_tree.specs.Precedence.{level_of_op, is_right_associative, left_binds, right_binds}
use Rattle.lua_tree.specs.Syntax as syntax
use Rattle.lua_tree.specs.Syntax.{Statements, no_statements, Statement, assignment, call_statement, do_block, while_loop, repeat_loop, if_statement, numeric_for, generic_for, function_statement, local_function, local_statement, return_statement, break_statement, Branches, no_branches, branch, Otherwise, no_otherwise, otherwise, ForStep, no_step, by_step, FunctionBody, function_body, Expressions, no_expressions, Expression, nil_literal, vararg_expression, number_literal, name_expression, function_expression, index_expression, field_expression, call_expression, method_call, and_expression, or_expression, binary_expression, unary_expression, constructor, parenthesized, Arguments, argument_list, text_argument, table_argument, Fields, no_fields, positional, named, keyed}
use Rattle.lua_tree.specs.declared.tree.BinaryOp.{BinaryOp}
use Rattle.lua_tree.specs.declared.tree.UnaryOp.{UnaryOp}
use Rattle.lua_tree.specs.Outline.{dots, leave, opened, innermost, stay, with_locals, in_loop, in_function, all_params, statements_part, statement_part, branches_part, otherwise_part, step_part, body_part, expressions_part, expression_part, arguments_part, fields_part}
use Rattle.lua_tree.specs.WellFormed.{is_call, is_prefix, are_targets, has_expressions, has_branches, ends_item, is_optional_name, on_its_line, may_follow, formed_statements, formed_statement, formed_branches, formed_otherwise, formed_step, formed_body, formed_expressions, formed_expression, formed_arguments, formed_fields}
use Rattle.scheme.specs.Expressions.{literal}
use Rattle.scheme_order.specs.Permuted.{BlockUses, StatementUses, BranchesUse, OtherwiseUses, StepUses, BodyUses, ExpressionUses, ArgumentsUse, AllUse, FieldsUse}
use Rattle.scheme_order.specs.Turned.{is_own, is_constant_literal, with_declared, with_all_declared, is_greater, is_turned, turned_block, turned_statement, turned_branches, turned_otherwise, turned_step, turned_body, turned_expression, turned_arguments, turned_values, turned_fields}
use Rattle.scheme_order.proofs.KeptParts.{Kept, kept_nothing, ◌then◌, ◌before◌, ◌behind◌, inside, from, also, grouped, four_grouped, kept_mark, kept_declares, kept_come, kept_params, kept_mentions, kept_path}
use Rattle.scheme_order.proofs.OwnNames.{no_own, own_locals}
use Rattle.scheme_order.proofs.TurnedParts.{binary_kept}

-- a comparison that is turned has a local of the function
has_own : (tested : Bool) (own : List Text) (op : BinaryOp) (left right : Expression)
    → (tested && is_turned own op left right) ≡ true → (is_own own left || is_own own right) ≡ true
has_own tested own op left right f =
    let locals = is_own own left || is_own own right in
    let others = not (is_constant_literal (literal left) || is_constant_literal (literal right)) in
    (and_parts locals others (and_parts (is_greater op) (locals && others) (and_parts tested (is_turned own op left right) f).1).1).0

-- ---- each part

mutual
  pub block_kept : (own : List Text) (block : Statements)
      → Kept (formed_statements block) (BlockUses own block) own (with_all_declared own block) (statements_part block) (statements_part (turned_block own block))
  block_kept own no_statements = kept_nothing
  block_kept own (syntax.statement line semi s rest) = statement_kept line own s then also (may_follow s semi rest) (block_kept (with_declared own s) rest)

  pub statement_kept : (line : ℕ) (own : List Text) (s : Statement)
      → Kept (formed_statement s) (StatementUses own s) own (with_declared own s) (statement_part line s) (statement_part line (turned_statement own s))
  statement_kept line own (assignment targets es) = also (has_expressions targets) (also (are_targets targets) (values_kept own targets then also (has_expressions es) (values_kept own es)))
  statement_kept line own (call_statement e) = also (is_call e) (kept false own e)
  statement_kept line own (do_block block) = inside stay (λ place o. o) (block_kept own block)
  statement_kept line own (while_loop e block) = kept true own e then inside in_loop (λ place o. o) (block_kept own block)
  statement_kept line own (repeat_loop block e) = inside in_loop (λ place o. o) (block_kept own block then kept true (with_all_declared own block) e)
  statement_kept line own (if_statement branches last) = also (has_branches branches) (branches_kept own branches then otherwise_kept own last)
  statement_kept line own (numeric_for name first last by block) = record {
    at = λ place.
        (kept_declares line 3 (name ∷ []) before
        also (is_name name) (four_grouped (formed_expression first) (formed_expression last) (formed_step by) (formed_statements block)
        ((kept false own first then (kept false own last then step_kept own by))
        then inside (λ inner. in_loop (with_locals 3 (name ∷ []) place.declarations inner)) (λ inner. own_locals (name ∷ []) own 3 place.declarations inner) (block_kept (name ∷ own) block)))).at place;
  }
  statement_kept line own (generic_for names es block) = record {
    at = λ place.
        (kept_declares line 3 names before
        also (are_some_names names) (also (has_expressions es) (values_kept own es
        then inside (λ inner. in_loop (with_locals 3 names place.declarations inner)) (λ inner. own_locals names own 3 place.declarations inner) (block_kept (names ++ own) block)))).at place;
  }
  statement_kept line own (function_statement path method body) = kept_path line path then also (is_optional_name method) (body_kept own (is_some method) body)
  statement_kept line own (local_function name body) = record {
    at = λ place.
        (kept_declares line 0 (name ∷ []) before (kept_come own 0 (name ∷ []) place.declarations before also (is_name name) (body_kept (name ∷ own) false body))).at place;
  }
  statement_kept line own (local_statement names es) = record {
    at = λ place. (kept_declares line 0 names before (also (are_some_names names) (values_kept own es) behind kept_come own 0 names place.declarations)).at place;
  }
  statement_kept line own (return_statement es) = values_kept own es
  statement_kept line own break_statement = kept_mark (λ place. leave line place.looped) (λ place all. refl)

  branches_kept : (own : List Text) (branches : Branches)
      → Kept (formed_branches branches) (BranchesUse own branches) own own (branches_part branches) (branches_part (turned_branches own branches))
  branches_kept own no_branches = kept_nothing
  branches_kept own (branch e block rest) = kept true own e then (inside stay (λ place o. o) (block_kept own block) then branches_kept own rest)

  otherwise_kept : (own : List Text) (last : Otherwise)
      → Kept (formed_otherwise last) (OtherwiseUses own last) own own (otherwise_part last) (otherwise_part (turned_otherwise own last))
  otherwise_kept own no_otherwise = kept_nothing
  otherwise_kept own (otherwise block) = inside stay (λ place o. o) (block_kept own block)

  step_kept : (own : List Text) (by : ForStep) → Kept (formed_step by) (StepUses own by) own own (step_part by) (step_part (turned_step own by))
  step_kept own no_step = kept_nothing
  step_kept own (by_step e) = kept false own e

  body_kept : (own : List Text) (method : Bool) (body : FunctionBody)
      → Kept (formed_body body) (BodyUses method body) own own (body_part method body) (body_part method (turned_body method body))
  body_kept own method (function_body params vararg block first last) =
      kept_mark (λ place. opened (innermost place.around)) (λ place all. refl) before
      inside {first = []} (in_function vararg) (λ place o. no_own (in_function vararg place)) (record {
        at = λ place.
            (kept_declares first 0 (all_params method params) before
            (kept_params 0 (all_params method params) place.declarations before also (are_names params) (block_kept (all_params method params) block))).at place;
      })

  values_kept : (own : List Text) (es : Expressions) → Kept (formed_expressions es) (AllUse own es) own own (expressions_part es) (expressions_part (turned_values own es))
  values_kept own no_expressions = kept_nothing
  values_kept own (syntax.expression e rest) = kept false own e then values_kept own rest

  pub kept : (tested : Bool) (own : List Text) (e : Expression)
      → Kept (formed_expression e) (ExpressionUses tested own e) own own (expression_part e) (expression_part (turned_expression tested own e))
  kept tested own (nil_literal line) = kept_nothing
  kept tested own (vararg_expression line) = kept_mark (λ place. dots line place.vararg) (λ place all. refl)
  kept tested own (number_literal line n) = from (λ f. refl) kept_nothing
  kept tested own (name_expression line name) = from (λ f. refl) (kept_mentions line name)
  kept tested own (function_expression line body) = body_kept own false body
  kept tested own (index_expression line on key) = also (is_prefix on) (kept false own on then kept false own key)
  kept tested own (field_expression line on name) = also (is_prefix on) (from (λ f. (and_parts (formed_expression on) (is_name name) f).0) (kept false own on))
  kept tested own (call_expression line on args on_line) = also (is_prefix on) (kept false own on then also (on_its_line args line on_line) (arguments_kept own args))
  kept tested own (method_call line on name args on_line) = also (is_prefix on) (kept false own on then also (is_name name) (also (on_its_line args line on_line) (arguments_kept own args)))
  kept tested own (and_expression line left right) = also (left_binds 2 false left) (also (right_binds 2 false right) (kept tested own left then kept tested own right))
  kept tested own (or_expression line left right) = also (left_binds 1 false left) (also (right_binds 1 false right) (kept tested own left then kept tested own right))
  kept tested own (binary_expression line op left right) =
      also (left_binds (level_of_op op) (is_right_associative op) left) (also (right_binds (level_of_op op) (is_right_associative op) right)
      (binary_kept (tested && is_turned own op left right) own line op left right (has_own tested own op left right) (kept false own left) (kept false own right)))
  kept tested own (unary_expression line UnaryOp.Not e) = also (left_binds 7 false e) (kept tested own e)
  kept tested own (unary_expression line op e) = also (left_binds 7 false e) (kept false own e)
  kept tested own (constructor line fields) = fields_kept own fields
  kept tested own (parenthesized line e) = kept tested own e
  kept tested own e = kept_nothing

  arguments_kept : (own : List Text) (args : Arguments) → Kept (formed_arguments args) (ArgumentsUse own args) own own (arguments_part args) (arguments_part (turned_arguments own args))
  arguments_kept own (argument_list es) = values_kept own es
  arguments_kept own (text_argument text) = kept_nothing
  arguments_kept own (table_argument fields) = fields_kept own fields

  fields_kept : (own : List Text) (fields : Fields) → Kept (formed_fields fields) (FieldsUse own fields) own own (fields_part fields) (fields_part (turned_fields own fields))
  fields_kept own no_fields = kept_nothing
  fields_kept own (positional e separator rest) = also (ends_item separator rest) (kept false own e then fields_kept own rest)
  fields_kept own (named name e separator rest) = also (ends_item separator rest) (also (is_name name) (kept false own e then fields_kept own rest))
  fields_kept own (keyed key e separator rest) =
      also (ends_item separator rest) (grouped (formed_expression key) (formed_expression e) (formed_fields rest) ((kept false own key then kept false own e) then fields_kept own rest))
