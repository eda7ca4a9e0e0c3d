-- A turned source is plain where the source is: what is turned is a comparison as before, of the same operands.
use Rattle.std.proofs.Common.{◌≡◌, ℕ, Bool, true, false, List, [], ◌∷◌, ◌++◌, refl, ap, ap₂, ◌∙◌}
use Rattle.std.specs.Prelude.{◌&&◌, is_some}
use Rattle.std.proofs.Math.Bool.{and_comm}
use Rattle.lua_num.specs.Bytes.{Text}
use Rattle.lua_tree.specs.Outline.{all_params}
use Rattle.lua_tree.specs.Syntax as syntax
use Rattle.lua_tree.specs.Syntax.{Statements, no_statements, Statement, assignment, call_statement, do_block, while_loop, repeat_loop, if_statement, numeric_for, generic_for, function_statement, local_function, local_statement, return_statement, break_statement, Branches, no_branches, branch, Otherwise, no_otherwise, otherwise, ForStep, no_step, by_step, FunctionBody, function_body, Expressions, no_expressions, Expression, nil_literal, function_expression, index_expression, field_expression, call_expression, method_call, and_expression, or_expression, binary_expression, unary_expression, constructor, parenthesized, Arguments, argument_list, text_argument, table_argument, Fields, no_fields, positional, named, keyed, Source}
use Rattle.lua_tree.specs.declared.tree.BinaryOp.{BinaryOp}
use Rattle.lua_tree.specs.declared.tree.UnaryOp.{UnaryOp}
use Rattle.scheme.specs.Expressions.{is_comparison}
use Rattle.scheme.specs.Shapes.{Plainness, both, as_condition, plain_comparison, plain_statements, plain_statement, plain_branches, plain_otherwise, plain_step, plain_body, plain_values, plainness, plain_arguments, plain_fields, Plain}
use Rattle.scheme_order.specs.Turned.{with_declared, with_all_declared, turned_op, is_turned, turned_both, turned_block, turned_statement, turned_branches, turned_otherwise, turned_step, turned_body, turned_expression, turned_arguments, turned_values, turned_fields, turned}

-- what is turned is a comparison as before
comparison_kept : (op : BinaryOp) → is_comparison (turned_op op) ≡ is_comparison op
comparison_kept BinaryOp.Gt = refl
comparison_kept BinaryOp.Ge = refl
comparison_kept op = refl

-- whichever operand is first
both_plain : (turn : Bool) (line : ℕ) (op : BinaryOp) (left right : Expression)
    → plainness (turned_both turn line op left right) ≡ plain_comparison (is_comparison op) ((plainness left).value && (plainness right).value)
both_plain true line op left right = ap₂ plain_comparison (comparison_kept op) (and_comm (plainness right).value (plainness left).value)
both_plain false line op left right = refl

-- two conditions
both_conditions : {l l' r r' : Plainness} → l' ≡ l → r' ≡ r → as_condition (l'.condition && r'.condition) ≡ as_condition (l.condition && r.condition)
both_conditions first second = ap₂ (λ (l r : Plainness). as_condition (l.condition && r.condition)) first second

-- a value, and two
one_value : {p p' : Plainness} → p' ≡ p → both p'.value ≡ both p.value
one_value same = ap (λ (p : Plainness). both p.value) same

value_and : {p p' : Plainness} {b b' : Bool} → p' ≡ p → b' ≡ b → (p'.value && b') ≡ (p.value && b)
value_and first second = ap₂ (λ (p : Plainness) b. p.value && b) first second

-- each part
mutual
  block_plain : (own : List Text) (block : Statements) → plain_statements (turned_block own block) ≡ plain_statements block
  block_plain own no_statements = refl
  block_plain own (syntax.statement line semi s rest) = ap₂ ◌&&◌ (statement_plain own s) (block_plain (with_declared own s) rest)

  statement_plain : (own : List Text) (s : Statement) → plain_statement (turned_statement own s) ≡ plain_statement s
  statement_plain own (assignment targets es) = ap₂ ◌&&◌ (values_plain own targets) (values_plain own es)
  statement_plain own (call_statement e) = ap (λ (p : Plainness). p.value) (plain_kept false own e)
  statement_plain own (do_block block) = block_plain own block
  statement_plain own (while_loop e block) = ap₂ (λ (p : Plainness) b. p.condition && b) (plain_kept true own e) (block_plain own block)
  statement_plain own (repeat_loop block e) = ap₂ (λ b (p : Plainness). b && p.condition) (block_plain own block) (plain_kept true (with_all_declared own block) e)
  statement_plain own (if_statement branches last) = ap₂ ◌&&◌ (branches_plain own branches) (otherwise_plain own last)
  statement_plain own (numeric_for name first last by block) =
      ap₂ ◌&&◌ (ap₂ ◌&&◌ (ap₂ (λ (p q : Plainness). p.value && q.value) (plain_kept false own first) (plain_kept false own last)) (step_plain own by)) (block_plain (name ∷ own) block)
  statement_plain own (generic_for names es block) = ap₂ ◌&&◌ (values_plain own es) (block_plain (names ++ own) block)
  statement_plain own (function_statement path method body) = body_plain (is_some method) body
  statement_plain own (local_function name body) = body_plain false body
  statement_plain own (local_statement names es) = values_plain own es
  statement_plain own (return_statement es) = values_plain own es
  statement_plain own break_statement = refl

  branches_plain : (own : List Text) (branches : Branches) → plain_branches (turned_branches own branches) ≡ plain_branches branches
  branches_plain own no_branches = refl
  branches_plain own (branch e block rest) = ap₂ ◌&&◌ (ap₂ (λ (p : Plainness) b. p.condition && b) (plain_kept true own e) (block_plain own block)) (branches_plain own rest)

  otherwise_plain : (own : List Text) (last : Otherwise) → plain_otherwise (turned_otherwise own last) ≡ plain_otherwise last
  otherwise_plain own no_otherwise = refl
  otherwise_plain own (otherwise block) = block_plain own block

  step_plain : (own : List Text) (by : ForStep) → plain_step (turned_step own by) ≡ plain_step by
  step_plain own no_step = refl
  step_plain own (by_step e) = ap (λ (p : Plainness). p.value) (plain_kept false own e)

  body_plain : (method : Bool) (body : FunctionBody) → plain_body (turned_body method body) ≡ plain_body body
  body_plain method (function_body params vararg block first last) = block_plain (all_params method params) block

  values_plain : (own : List Text) (es : Expressions) → plain_values (turned_values own es) ≡ plain_values es
  values_plain own no_expressions = refl
  values_plain own (syntax.expression e rest) = value_and (plain_kept false own e) (values_plain own rest)

  -- as a value, and as a condition
  plain_kept : (tested : Bool) (own : List Text) (e : Expression) → plainness (turned_expression tested own e) ≡ plainness e
  plain_kept tested own (nil_literal line) = refl
  plain_kept tested own (function_expression line body) = ap both (body_plain false body)
  plain_kept tested own (index_expression line on key) = ap₂ (λ (p q : Plainness). both (p.value && q.value)) (plain_kept false own on) (plain_kept false own key)
  plain_kept tested own (field_expression line on name) = one_value (plain_kept false own on)
  plain_kept tested own (call_expression line on args on_line) = ap both (value_and (plain_kept false own on) (arguments_plain own args))
  plain_kept tested own (method_call line on name args on_line) = ap both (value_and (plain_kept false own on) (arguments_plain own args))
  plain_kept tested own (and_expression line left right) = both_conditions (plain_kept tested own left) (plain_kept tested own right)
  plain_kept tested own (or_expression line left right) = both_conditions (plain_kept tested own left) (plain_kept tested own right)
  plain_kept tested own (binary_expression line op left right) =
      both_plain (tested && is_turned own op left right) line op (turned_expression false own left) (turned_expression false own right)
      ∙ ap₂ (λ (p q : Plainness). plain_comparison (is_comparison op) (p.value && q.value)) (plain_kept false own left) (plain_kept false own right)
  plain_kept tested own (unary_expression line UnaryOp.Not e) = plain_kept tested own e
  plain_kept tested own (unary_expression line op e) = one_value (plain_kept false own e)
  plain_kept tested own (constructor line fields) = ap both (fields_plain own fields)
  plain_kept tested own (parenthesized line e) = plain_kept tested own e
  plain_kept tested own e = refl

  arguments_plain : (own : List Text) (args : Arguments) → plain_arguments (turned_arguments own args) ≡ plain_arguments args
  arguments_plain own (argument_list es) = values_plain own es
  arguments_plain own (text_argument text) = refl
  arguments_plain own (table_argument fields) = fields_plain own fields

  fields_plain : (own : List Text) (fields : Fields) → plain_fields (turned_fields own fields) ≡ plain_fields fields
  fields_plain own no_fields = refl
  fields_plain own (positional e separator rest) = value_and (plain_kept false own e) (fields_plain own rest)
  fields_plain own (named name e separator rest) = value_and (plain_kept false own e) (fields_plain own rest)
  fields_plain own (keyed key e separator rest) = ap₂ ◌&&◌ (ap₂ (λ (p q : Plainness). p.value && q.value) (plain_kept false own key) (plain_kept false own e)) (fields_plain own rest)

-- the whole
pub turned_plain : (source : Source) → Plain source → Plain (turned source)
turned_plain source plain = block_plain [] source.body ∙ plain
