-- Every part of a tree agrees with the turned one: the induction over the tree; and so does a function.
use Rattle.std.proofs.Common.{◌≡◌, ℕ, Bool, true, false, List, ◌∷◌, ◌++◌, sym, ◌∙◌}
use Rattle.std.specs.Prelude.{None, is_some}
use Rattle.lua_num.specs.Bytes.{Text}
use Rattle.lua_tree.specs.Outline.{all_params}
use Rattle.lua_tree.specs.Scoping.{Use}
use Rattle.lua_tree.specs.Syntax as syntax
use Rattle.lua_tree.specs.Syntax.{Statements, no_statements, Statement, assignment, call_statement, do_block, while_loop, repeat_loop, if_statement, numeric_for, generic_for, function_statement, local_function, local_statement, return_statement, break_statement, Branches, no_branches, branch, Otherwise, no_otherwise, otherwise, ForStep, no_step, by_step, FunctionBody, function_body, Expressions, no_expressions, Expression, nil_literal, true_literal, false_literal, vararg_expression, number_literal, text_literal, name_expression, function_expression, index_expression, field_expression, call_expression, method_call, and_expression, or_expression, binary_expression, unary_expression, constructor, parenthesized, Arguments, argument_list, text_argument, table_argument, Fields, no_fields, positional, named, keyed}
use Rattle.lua_tree.specs.WellFormed.{formed_statements}
use Rattle.lua_tree.specs.declared.tree.UnaryOp.{UnaryOp}
use Rattle.scheme.specs.Making.{Ahead}
use Rattle.scheme.specs.Functions.{Heading, function_from}
use Rattle.scheme.specs.Scheme.{statements_made}
use Rattle.scheme_order.specs.Turned.{with_declared, with_all_declared, turned_block}
use Rattle.scheme_order.specs.Permuted.{BlockUses}
use Rattle.scheme_order.proofs.Makers.{uses}
use Rattle.scheme_order.proofs.Functions.{SameInner, same_function}
use Rattle.scheme_order.proofs.Claims.{BlockAgrees, StatementAgrees, BranchesAgree, OtherwiseAgrees, StepAgrees, BodyAgrees, ExpressionAgrees, ArgumentsAgree, AllAgree, FieldsAgree}
use Rattle.scheme_order.proofs.Values.{nil_agrees, true_agrees, false_agrees, vararg_agrees, number_agrees, text_agrees, name_agrees, function_agrees, index_agrees, field_agrees, call_agrees, method_agrees, and_agrees, or_agrees, binary_agrees, not_agrees, negation_agrees, length_agrees, constructor_agrees, paren_agrees, all_none_agrees, all_more_agrees, list_agrees, text_argument_agrees, table_agrees, no_fields_agree, positional_agrees, named_agrees, keyed_agrees}
use Rattle.scheme_order.proofs.Blocks.{assignment_agrees, call_statement_agrees, do_agrees, while_agrees, repeat_agrees, if_agrees, numeric_agrees, generic_agrees, function_statement_agrees, local_function_agrees, local_agrees, return_agrees, break_agrees, no_branches_agree, branch_agrees, no_otherwise_agrees, otherwise_agrees, no_step_agrees, step_agrees, body_agrees, no_statements_agree, statement_agrees}

mutual
  each_block : (block : Statements) (own : List Text) → BlockAgrees own block
  each_block no_statements own = no_statements_agree own
  each_block (syntax.statement line semi s rest) own = statement_agrees own line semi s rest (each_statement s own) (each_block rest (with_declared own s))

  each_statement : (s : Statement) (own : List Text) → StatementAgrees own s
  each_statement (assignment targets es) own = assignment_agrees own targets es (each_of targets own) (each_of es own)
  each_statement (call_statement e) own = call_statement_agrees own e (each_expression e false own)
  each_statement (do_block block) own = do_agrees own block (each_block block own)
  each_statement (while_loop e block) own = while_agrees own e block (each_expression e true own) (each_block block own)
  each_statement (repeat_loop block e) own = repeat_agrees own block e (each_block block own) (each_expression e true (with_all_declared own block))
  each_statement (if_statement branches last) own = if_agrees own branches last (each_branch branches own) (each_otherwise last own)
  each_statement (numeric_for text first last step block) own =
      numeric_agrees own text first last step block (each_expression first false own) (each_expression last false own) (each_step step own) (each_block block (text ∷ own))
  each_statement (generic_for names es block) own = generic_agrees own names es block (each_of es own) (each_block block (names ++ own))
  each_statement (function_statement path method body) own = function_statement_agrees own path method body (each_body body (is_some method))
  each_statement (local_function text body) own = local_function_agrees own text body (each_body body false)
  each_statement (local_statement names es) own = local_agrees own names es (each_of es own)
  each_statement (return_statement es) own = return_agrees own es (each_of es own)
  each_statement break_statement own = break_agrees own

  each_branch : (branches : Branches) (own : List Text) → BranchesAgree own branches
  each_branch no_branches own = no_branches_agree own
  each_branch (branch e block rest) own = branch_agrees own e block rest (each_expression e true own) (each_block block own) (each_branch rest own)

  each_otherwise : (last : Otherwise) (own : List Text) → OtherwiseAgrees own last
  each_otherwise no_otherwise own = no_otherwise_agrees own
  each_otherwise (otherwise block) own = otherwise_agrees own block (each_block block own)

  each_step : (step : ForStep) (own : List Text) → StepAgrees own step
  each_step no_step own = no_step_agrees own
  each_step (by_step e) own = step_agrees own e (each_expression e false own)

  each_body : (body : FunctionBody) (method : Bool) → BodyAgrees method body
  each_body (function_body params vararg block first last) method = body_agrees method params vararg block first last (each_block block (all_params method params))

  each_of : (es : Expressions) (own : List Text) → AllAgree own es
  each_of no_expressions own = all_none_agrees own
  each_of (syntax.expression e rest) own = all_more_agrees own e rest (each_expression e false own) (each_of rest own)

  each_expression : (e : Expression) (tested : Bool) (own : List Text) → ExpressionAgrees tested own e
  each_expression (nil_literal line) tested own = nil_agrees tested own line
  each_expression (true_literal line) tested own = true_agrees tested own line
  each_expression (false_literal line) tested own = false_agrees tested own line
  each_expression (vararg_expression line) tested own = vararg_agrees tested own line
  each_expression (number_literal line n) tested own = number_agrees tested own line n
  each_expression (text_literal line text) tested own = text_agrees tested own line text
  each_expression (name_expression line text) tested own = name_agrees tested own line text
  each_expression (function_expression line body) tested own = function_agrees tested own line body (each_body body false)
  each_expression (index_expression line on key) tested own = index_agrees tested own line on key (each_expression on false own) (each_expression key false own)
  each_expression (field_expression line on text) tested own = field_agrees tested own line on text (each_expression on false own)
  each_expression (call_expression line on args on_line) tested own = call_agrees tested own line on args on_line (each_expression on false own) (each_arguments args own)
  each_expression (method_call line on text args on_line) tested own = method_agrees tested own line on text args on_line (each_expression on false own) (each_arguments args own)
  each_expression (and_expression line left right) tested own = and_agrees tested own line left right (each_expression left tested own) (each_expression right tested own)
  each_expression (or_expression line left right) tested own = or_agrees tested own line left right (each_expression left tested own) (each_expression right tested own)
  each_expression (binary_expression line op left right) tested own = binary_agrees tested own line op left right (each_expression left false own) (each_expression right false own)
  each_expression (unary_expression line UnaryOp.Not e) tested own = not_agrees tested own line e (each_expression e tested own)
  each_expression (unary_expression line UnaryOp.Neg e) tested own = negation_agrees tested own line e (each_expression e false own)
  each_expression (unary_expression line UnaryOp.Len e) tested own = length_agrees tested own line e (each_expression e false own)
  each_expression (constructor line fields) tested own = constructor_agrees tested own line fields (each_field fields own)
  each_expression (parenthesized line e) tested own = paren_agrees tested own line e (each_expression e tested own)

  each_arguments : (args : Arguments) (own : List Text) → ArgumentsAgree own args
  each_arguments (argument_list es) own = list_agrees own es (each_of es own)
  each_arguments (text_argument text) own = text_argument_agrees own text
  each_arguments (table_argument fields) own = table_agrees own fields (each_field fields own)

  each_field : (fields : Fields) (own : List Text) → FieldsAgree own fields
  each_field no_fields own = no_fields_agree own
  each_field (positional e separator rest) own = positional_agrees own e separator rest (each_expression e false own) (each_field rest own)
  each_field (named text e separator rest) own = named_agrees own text e separator rest (each_expression e false own) (each_field rest own)
  each_field (keyed key e separator rest) own = keyed_agrees own key e separator rest (each_expression key false own) (each_expression e false own) (each_field rest own)

-- ---- blocks and functions

-- a function of a block, and one of the turned block
functions_agree : (heading : Heading) (end_line : ℕ) (params : List Text) (own : List Text) (block : Statements) (here there : List Use) → formed_statements block ≡ true →
    BlockUses own block here there →
    SameInner (uses here) (uses there) (function_from heading end_line params (statements_made block None)) (function_from heading end_line params (statements_made (turned_block own block) None))
functions_agree heading end_line params own block here there f u = same_function heading end_line params (each_block block own here there f u None)

-- a function of a block, and one of the turned block, are the same
pub function_same : (heading : Heading) (end_line : ℕ) (params : List Text) (own : List Text) (block : Statements) (here there : List Use) → formed_statements block ≡ true →
    BlockUses own block here there →
    (upvalue_names : List Text) (ahead : Ahead) (rest : List Use) →
    function_from heading end_line params (statements_made block None) upvalue_names (record ahead { names = here ++ rest })
    ≡ function_from heading end_line params (statements_made (turned_block own block) None) upvalue_names (record ahead { names = there ++ rest })
function_same heading end_line params own block here there f u upvalue_names ahead rest =
    let s = functions_agree heading end_line params own block here there f u in
    s.first upvalue_names ahead rest ∙ sym (s.second upvalue_names ahead rest)
