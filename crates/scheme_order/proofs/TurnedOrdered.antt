-- In a turned source no test is left to turn: what was turned is tested as `<` or `<=`, and what was not has the operands that it had.
use Rattle.std.proofs.Common.{◌≡◌, ℕ, Bool, true, false, List, [], ◌∷◌, ◌++◌, refl, sym, ap, ap₂, ◌∙◌}
use Rattle.std.specs.Prelude.{◌&&◌, ◌||◌, not, is_some}
use Rattle.lua_num.specs.Bytes.{Text}
use Rattle.lua_tree.specs.Outline.{all_params}
use Rattle.lua_tree.specs.Syntax as syntax
use Rattle.lua_tree.specs.Syntax.{Statements, no_statements, Statement, assignment, call_statement, do_block, while_loop, repeat_loop, if_statement, numeric_for, generic_for, function_statement, local_function, local_statement, return_statement, break_statement, Branches, no_branches, branch, Otherwise, no_otherwise, otherwise, ForStep, no_step, by_step, FunctionBody, function_body, Expressions, no_expressions, Expression, name_expression, function_expression, index_expression, field_expression, call_expression, method_call, and_expression, or_expression, binary_expression, unary_expression, constructor, parenthesized, Arguments, argument_list, text_argument, table_argument, Fields, no_fields, positional, named, keyed, Source}
use Rattle.lua_tree.specs.declared.tree.BinaryOp.{BinaryOp}
use Rattle.lua_tree.specs.declared.tree.UnaryOp.{UnaryOp}
use Rattle.scheme.specs.Expressions.{literal, number_or}
use Rattle.scheme_order.specs.Turned.{is_own, is_constant_literal, with_declared, with_all_declared, turned_op, is_greater, is_turned, turned_both, turned_block, turned_statement, turned_branches, turned_otherwise, turned_step, turned_body, turned_expression, turned_arguments, turned_values, turned_fields, turned}
use Rattle.scheme_order.specs.AllOrdered.{all_ordered_block, all_ordered_statement, all_ordered_branches, all_ordered_otherwise, all_ordered_step, all_ordered_body, all_ordered_expression, all_ordered_arguments, all_ordered_values, all_ordered_fields, IsAllOrdered}
use Rattle.scheme_order.proofs.Trees.{turned_greater, fold_same, plain_same}

-- ---- what a statement declares

-- a statement declares what the turned one does
pub declared_same : (own : List Text) (s : Statement) → with_declared own (turned_statement own s) ≡ with_declared own s
declared_same own (local_statement names es) = refl
declared_same own (local_function name body) = refl
declared_same own s = refl

-- so do all of a block
pub all_declared_same : (own : List Text) (block : Statements) → with_all_declared own (turned_block own block) ≡ with_all_declared own block
all_declared_same own no_statements = refl
all_declared_same own (syntax.statement line semi s rest) =
    ap (λ names. with_all_declared names (turned_block (with_declared own s) rest)) (declared_same own s) ∙ all_declared_same (with_declared own s) rest

-- ---- an operand

-- a comparison is no local, turned or not
both_own : (turn : Bool) (own : List Text) (line : ℕ) (op : BinaryOp) (left right : Expression) → is_own own (turned_both turn line op left right) ≡ false
both_own true own line op left right = refl
both_own false own line op left right = refl

-- an operand is a local where the turned one is
pub own_same : (tested : Bool) (own : List Text) (e : Expression) → is_own own (turned_expression tested own e) ≡ is_own own e
own_same tested own (parenthesized line e) = own_same tested own e
own_same tested own (binary_expression line op left right) = both_own (tested && is_turned own op left right) own line op (turned_expression false own left) (turned_expression false own right)
own_same tested own (unary_expression line UnaryOp.Not e) = refl
own_same tested own (unary_expression line op e) = refl
own_same tested own e = refl

-- it is the same literal
pub literal_same : (tested : Bool) (own : List Text) (e : Expression) → literal (turned_expression tested own e) ≡ literal e
literal_same tested own e = sym (ap₂ number_or (fold_same tested own e) (plain_same tested own e))

-- operands are compared as before
pub operands_same : (own : List Text) (op : BinaryOp) (left right : Expression) → is_turned own op (turned_expression false own left) (turned_expression false own right) ≡ is_turned own op left right
operands_same own op left right =
    ap₂ (λ locals literals. is_greater op && (locals && not literals))
    (ap₂ ◌||◌ (own_same false own left) (own_same false own right))
    (ap₂ (λ one other. is_constant_literal one || is_constant_literal other) (literal_same false own left) (literal_same false own right))

-- ---- a comparison

-- what is turned is neither `>` nor `>=`
less_stays : (own : List Text) (op : BinaryOp) (left right : Expression) → is_greater op ≡ true → is_turned own (turned_op op) left right ≡ false
less_stays own BinaryOp.Gt left right is = refl
less_stays own BinaryOp.Ge left right is = refl
less_stays own op left right is = cc

-- what is not tested, or not turned
not_both : (tested b : Bool) → (tested && b) ≡ false → (not tested || not b) ≡ true
not_both true b e = ap not e
not_both false b e = refl

-- what is never turned is in order
stays_so : (tested b : Bool) → b ≡ false → (not tested || not b) ≡ true
stays_so true b e = ap not e
stays_so false b e = refl

-- whichever operand is first
both_ordered : (tested turn : Bool) (own : List Text) (line : ℕ) (op : BinaryOp) (left right : Expression) →
    (turn ≡ true → is_greater op ≡ true) → (turn ≡ false → (tested && is_turned own op left right) ≡ false) →
    all_ordered_expression false own left ≡ true → all_ordered_expression false own right ≡ true →
    all_ordered_expression tested own (turned_both turn line op left right) ≡ true
both_ordered tested true own line op left right greater stays l r = ap₂ ◌&&◌ (stays_so tested _ (less_stays own op right left (greater refl))) (ap₂ ◌&&◌ r l)
both_ordered tested false own line op left right greater stays l r = ap₂ ◌&&◌ (not_both tested _ (stays refl)) (ap₂ ◌&&◌ l r)

-- ---- each part

mutual
  pub turned_is_ordered : (own : List Text) (block : Statements) → all_ordered_block own (turned_block own block) ≡ true
  turned_is_ordered own no_statements = refl
  turned_is_ordered own (syntax.statement line semi s rest) =
      ap₂ ◌&&◌ (statement_ordered own s) (ap (λ names. all_ordered_block names (turned_block (with_declared own s) rest)) (declared_same own s) ∙ turned_is_ordered (with_declared own s) rest)

  statement_ordered : (own : List Text) (s : Statement) → all_ordered_statement own (turned_statement own s) ≡ true
  statement_ordered own (assignment targets es) = ap₂ ◌&&◌ (values_ordered own targets) (values_ordered own es)
  statement_ordered own (call_statement e) = expression_ordered false own e
  statement_ordered own (do_block block) = turned_is_ordered own block
  statement_ordered own (while_loop e block) = ap₂ ◌&&◌ (expression_ordered true own e) (turned_is_ordered own block)
  statement_ordered own (repeat_loop block e) =
      ap₂ ◌&&◌ (turned_is_ordered own block)
      (ap (λ names. all_ordered_expression true names (turned_expression true (with_all_declared own block) e)) (all_declared_same own block) ∙ expression_ordered true (with_all_declared own block) e)
  statement_ordered own (if_statement branches last) = ap₂ ◌&&◌ (branches_ordered own branches) (otherwise_ordered own last)
  statement_ordered own (numeric_for name first last by block) =
      ap₂ ◌&&◌ (expression_ordered false own first) (ap₂ ◌&&◌ (expression_ordered false own last) (ap₂ ◌&&◌ (step_ordered own by) (turned_is_ordered (name ∷ own) block)))
  statement_ordered own (generic_for names es block) = ap₂ ◌&&◌ (values_ordered own es) (turned_is_ordered (names ++ own) block)
  statement_ordered own (function_statement path method body) = body_ordered (is_some method) body
  statement_ordered own (local_function name body) = body_ordered false body
  statement_ordered own (local_statement names es) = values_ordered own es
  statement_ordered own (return_statement es) = values_ordered own es
  statement_ordered own break_statement = refl

  branches_ordered : (own : List Text) (branches : Branches) → all_ordered_branches own (turned_branches own branches) ≡ true
  branches_ordered own no_branches = refl
  branches_ordered own (branch e block rest) = ap₂ ◌&&◌ (expression_ordered true own e) (ap₂ ◌&&◌ (turned_is_ordered own block) (branches_ordered own rest))

  otherwise_ordered : (own : List Text) (last : Otherwise) → all_ordered_otherwise own (turned_otherwise own last) ≡ true
  otherwise_ordered own no_otherwise = refl
  otherwise_ordered own (otherwise block) = turned_is_ordered own block

  step_ordered : (own : List Text) (by : ForStep) → all_ordered_step own (turned_step own by) ≡ true
  step_ordered own no_step = refl
  step_ordered own (by_step e) = expression_ordered false own e

  body_ordered : (method : Bool) (body : FunctionBody) → all_ordered_body method (turned_body method body) ≡ true
  body_ordered method (function_body params vararg block first last) = turned_is_ordered (all_params method params) block

  expression_ordered : (tested : Bool) (own : List Text) (e : Expression) → all_ordered_expression tested own (turned_expression tested own e) ≡ true
  expression_ordered tested own (function_expression line body) = body_ordered false body
  expression_ordered tested own (index_expression line on key) = ap₂ ◌&&◌ (expression_ordered false own on) (expression_ordered false own key)
  expression_ordered tested own (field_expression line on name) = expression_ordered false own on
  expression_ordered tested own (call_expression line on args on_line) = ap₂ ◌&&◌ (expression_ordered false own on) (arguments_ordered own args)
  expression_ordered tested own (method_call line on name args on_line) = ap₂ ◌&&◌ (expression_ordered false own on) (arguments_ordered own args)
  expression_ordered tested own (and_expression line left right) = ap₂ ◌&&◌ (expression_ordered tested own left) (expression_ordered tested own right)
  expression_ordered tested own (or_expression line left right) = ap₂ ◌&&◌ (expression_ordered tested own left) (expression_ordered tested own right)
  expression_ordered tested own (binary_expression line op left right) =
      both_ordered tested (tested && is_turned own op left right) own line op (turned_expression false own left) (turned_expression false own right)
      (turned_greater tested own op left right) (λ stays. ap (λ b. tested && b) (operands_same own op left right) ∙ stays)
      (expression_ordered false own left) (expression_ordered false own right)
  expression_ordered tested own (unary_expression line UnaryOp.Not e) = expression_ordered tested own e
  expression_ordered tested own (unary_expression line op e) = expression_ordered false own e
  expression_ordered tested own (constructor line fields) = fields_ordered own fields
  expression_ordered tested own (parenthesized line e) = expression_ordered tested own e
  expression_ordered tested own e = refl

  arguments_ordered : (own : List Text) (args : Arguments) → all_ordered_arguments own (turned_arguments own args) ≡ true
  arguments_ordered own (argument_list es) = values_ordered own es
  arguments_ordered own (text_argument text) = refl
  arguments_ordered own (table_argument fields) = fields_ordered own fields

  values_ordered : (own : List Text) (es : Expressions) → all_ordered_values own (turned_values own es) ≡ true
  values_ordered own no_expressions = refl
  values_ordered own (syntax.expression e rest) = ap₂ ◌&&◌ (expression_ordered false own e) (values_ordered own rest)

  fields_ordered : (own : List Text) (fields : Fields) → all_ordered_fields own (turned_fields own fields) ≡ true
  fields_ordered own no_fields = refl
  fields_ordered own (positional e separator rest) = ap₂ ◌&&◌ (expression_ordered false own e) (fields_ordered own rest)
  fields_ordered own (named name e separator rest) = ap₂ ◌&&◌ (expression_ordered false own e) (fields_ordered own rest)
  fields_ordered own (keyed key e separator rest) = ap₂ ◌&&◌ (expression_ordered false own key) (ap₂ ◌&&◌ (expression_ordered false own e) (fields_ordered own rest))

-- ---- a source

pub turned_source_is_ordered : (source : Source) → IsAllOrdered (turned source)
turned_source_is_ordered source = turned_is_ordered [] source.body
