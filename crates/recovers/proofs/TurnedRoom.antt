-- A source that is turned needs as much room as before: what is folded is folded alike, as many conditions never fail, and each part needs as many levels.
use Rattle.std.proofs.Common.{◌≡◌, ℕ, ◌+◌, suc, Bool, true, false, not, ◌&&◌, List, [], ◌∷◌, ◌++◌, Option, is_some, if◌then◌else◌, refl, ap, ap₂, ◌∙◌, arith}
use Rattle.std.specs.Prelude.{ℤ, ◌||◌}
use Rattle.std.proofs.lemmas.Bool.{false≢true}
use Rattle.lua_num.specs.Bytes.{Text}
use Rattle.lua_tree.specs.Outline.{all_params}
use Rattle.lua_tree.specs.Syntax as syntax
use Rattle.lua_tree.specs.Syntax.{Statements, no_statements, Statement, assignment, call_statement, do_block, while_loop, repeat_loop, if_statement, numeric_for, generic_for, function_statement, local_function, local_statement, return_statement, break_statement, Branches, no_branches, branch, Otherwise, no_otherwise, otherwise, ForStep, no_step, by_step, FunctionBody, function_body, Expressions, no_expressions, Expression, function_expression, index_expression, field_expression, call_expression, method_call, and_expression, or_expression, binary_expression, unary_expression, constructor, parenthesized, Arguments, argument_list, text_argument, table_argument, Fields, no_fields, positional, named, keyed, Source}
use Rattle.lua_tree.specs.declared.tree.BinaryOp.{BinaryOp}
use Rattle.lua_tree.specs.declared.tree.UnaryOp.{UnaryOp}
use Rattle.proto.specs.declared.parts.Constant.{Constant}
use Rattle.scheme.specs.Expressions.{arith_op, fold, fold_binary, fold_unary, literal, number_or, plain_literal}
use Rattle.scheme.specs.Shapes.{branch_count, logic_count}
use Rattle.scheme_order.specs.Turned.{is_greater, is_turned, turned, turned_arguments, turned_block, turned_body, turned_both, turned_branches, turned_expression, turned_fields, turned_otherwise, turned_statement, turned_step, turned_values, with_all_declared, with_declared}
use Rattle.same_flow.specs.Never.{is_other_literal, never_arms, never_further, never_is}
use Rattle.same_flow.specs.Space.{around_body, flow_space, flow_space_branches, flow_space_of, flow_space_otherwise, has_block, has_blocks, space_of_arguments, space_of_body, space_of_branches, space_of_expression, space_of_expressions, space_of_fields, space_of_otherwise, space_of_statement, space_of_statements, space_of_step}
use Rattle.reads_back.proofs.Tests.{first_of_both, second_of_both}
use Rattle.recovers.proofs.OneLineBlocks.{armed_most, counted_most, one_more, same_around, same_most}

-- ---- what is folded is folded alike

-- what is turned is `>` or `>=`
turned_is_greater : (tested : Bool) (own : List Text) (op : BinaryOp) (left right : Expression) → (tested && is_turned own op left right) ≡ true → is_greater op ≡ true
turned_is_greater tested own op left right turn = first_of_both (is_greater op) _ (second_of_both tested _ turn)

-- an operation of two operands, turned or not
both_fold : (turn : Bool) (line : ℕ) (op : BinaryOp) (left right : Expression) → (turn ≡ true → is_greater op ≡ true)
    → fold (turned_both turn line op left right) ≡ fold_binary (arith_op op) (fold left) (fold right)
both_fold true line BinaryOp.Gt left right greater = refl
both_fold true line BinaryOp.Ge left right greater = refl
both_fold true line op left right greater = absurd (false≢true (greater refl))
both_fold false line op left right greater = refl

-- each expression
turned_fold : (tested : Bool) (own : List Text) (e : Expression) → fold (turned_expression tested own e) ≡ fold e
turned_fold tested own (binary_expression line op left right) =
    both_fold (tested && is_turned own op left right) line op (turned_expression false own left) (turned_expression false own right) (turned_is_greater tested own op left right)
    ∙ ap₂ (fold_binary (arith_op op)) (turned_fold false own left) (turned_fold false own right)
turned_fold tested own (unary_expression line UnaryOp.Not e) = ap (fold_unary UnaryOp.Not) (turned_fold tested own e)
turned_fold tested own (unary_expression line op e) = ap (fold_unary op) (turned_fold false own e)
turned_fold tested own (parenthesized line e) = turned_fold tested own e
turned_fold tested own e = refl

-- ---- as many further arms have conditions that never fail

-- an operation of two operands is no such literal
both_plain : (turn : Bool) (line : ℕ) (op : BinaryOp) (left right : Expression) → plain_literal (turned_both turn line op left right) ≡ plain_literal (binary_expression line op left right)
both_plain true line op left right = refl
both_plain false line op left right = refl

-- nil, true, false and a string stay
turned_plain : (tested : Bool) (own : List Text) (e : Expression) → plain_literal (turned_expression tested own e) ≡ plain_literal e
turned_plain tested own (binary_expression line op left right) = both_plain (tested && is_turned own op left right) line op (turned_expression false own left) (turned_expression false own right)
turned_plain tested own (unary_expression line UnaryOp.Not e) = refl
turned_plain tested own (unary_expression line op e) = refl
turned_plain tested own e = refl

-- a number or another literal is the same
turned_literal : (tested : Bool) (own : List Text) (e : Expression) → literal (turned_expression tested own e) ≡ literal e
turned_literal tested own e = ap₂ number_or (turned_fold tested own e) (turned_plain tested own e)

-- an operation of two operands never has a truth by its literal alone
both_never : (sense turn : Bool) (line : ℕ) (op : BinaryOp) (left right : Expression)
    → never_is sense (turned_both turn line op left right) ≡ is_other_literal sense (literal (turned_both turn line op left right))
both_never true true line op left right = refl
both_never true false line op left right = refl
both_never false true line op left right = refl
both_never false false line op left right = refl

-- a condition that never has a truth never has it turned, and the other way round
turned_never : (sense tested : Bool) (own : List Text) (e : Expression) → never_is sense (turned_expression tested own e) ≡ never_is sense e
turned_never true tested own (and_expression line left right) = turned_never true tested own right
turned_never false tested own (and_expression line left right) = ap₂ (λ (one other : Bool). one && other) (turned_never false tested own left) (turned_never false tested own right)
turned_never true tested own (or_expression line left right) = ap₂ (λ (one other : Bool). one && other) (turned_never true tested own left) (turned_never true tested own right)
turned_never false tested own (or_expression line left right) = turned_never false tested own right
turned_never sense tested own (unary_expression line UnaryOp.Not e) = turned_never (not sense) tested own e
turned_never sense tested own (unary_expression line op e) = ap (λ (k : Option Constant). is_other_literal sense k) (turned_literal tested own (unary_expression line op e))
turned_never sense tested own (binary_expression line op left right) =
    both_never sense (tested && is_turned own op left right) line op (turned_expression false own left) (turned_expression false own right)
    ∙ ap (λ (k : Option Constant). is_other_literal sense k) (turned_literal tested own (binary_expression line op left right))
turned_never sense tested own (parenthesized line e) = turned_never sense tested own e
turned_never sense tested own e = refl

-- in an `if` as many arms have such a condition, and as many behind the first one
turned_arms : (own : List Text) (branches : Branches) → never_arms (turned_branches own branches) ≡ never_arms branches
turned_arms own no_branches = refl
turned_arms own (branch e block rest) = ap₂ (λ (never : Bool) (others : ℕ). if never then suc others else others) (turned_never false true own e) (turned_arms own rest)

turned_further : (own : List Text) (branches : Branches) → never_further (turned_branches own branches) ≡ never_further branches
turned_further own no_branches = refl
turned_further own (branch e block rest) = turned_arms own rest

-- ---- it has as much `and`, `or` and `not`, and blocks where it had them

-- an operation of two operands has none of them
both_count : (turn : Bool) (line : ℕ) (op : BinaryOp) (left right : Expression) → logic_count (turned_both turn line op left right) ≡ 0
both_count true line op left right = refl
both_count false line op left right = refl

-- each condition
turned_count : (tested : Bool) (own : List Text) (e : Expression) → logic_count (turned_expression tested own e) ≡ logic_count e
turned_count tested own (and_expression line left right) = ap₂ (λ (one other : ℕ). suc (one + other)) (turned_count tested own left) (turned_count tested own right)
turned_count tested own (or_expression line left right) = ap₂ (λ (one other : ℕ). suc (one + other)) (turned_count tested own left) (turned_count tested own right)
turned_count tested own (binary_expression line op left right) = both_count (tested && is_turned own op left right) line op (turned_expression false own left) (turned_expression false own right)
turned_count tested own (unary_expression line UnaryOp.Not e) = ap (λ (count : ℕ). suc count) (turned_count tested own e)
turned_count tested own (unary_expression line op e) = refl
turned_count tested own (parenthesized line e) = turned_count tested own e
turned_count tested own e = refl

-- all arms of an `if`
turned_counts : (own : List Text) (branches : Branches) → branch_count (turned_branches own branches) ≡ branch_count branches
turned_counts own no_branches = refl
turned_counts own (branch e block rest) = ap₂ (λ (one others : ℕ). one + others) (turned_count true own e) (turned_counts own rest)

-- whether a statement has blocks, and one of a block
turned_has : (own : List Text) (s : Statement) → has_block (turned_statement own s) ≡ has_block s
turned_has own (do_block block) = refl
turned_has own s = refl

turned_have : (own : List Text) (block : Statements) → has_blocks (turned_block own block) ≡ has_blocks block
turned_have own no_statements = refl
turned_have own (syntax.statement line semi s rest) = ap₂ (λ (one others : Bool). one || others) (turned_has own s) (turned_have (with_declared own s) rest)

-- ---- it has as much room

-- what is folded needs as many levels, what is not one level more than its parts
same_folded : {folded fold : Option ℤ} {one many : ℕ} → folded ≡ fold → one ≡ many
    → (if is_some folded then 4 else 1 + one) ≡ (if is_some fold then 4 else 1 + many)
same_folded is levels = ap₂ (λ (folded : Option ℤ) (depth : ℕ). if is_some folded then 4 else 1 + depth) is levels

-- whichever operand is first
both_space : (turn : Bool) (line : ℕ) (op : BinaryOp) (left right : Expression) → (turn ≡ true → is_greater op ≡ true)
    → space_of_expression (turned_both turn line op left right) ≡ space_of_expression (binary_expression line op left right)
both_space true line BinaryOp.Gt left right greater = omega arith
both_space true line BinaryOp.Ge left right greater = omega arith
both_space true line op left right greater = absurd (false≢true (greater refl))
both_space false line op left right greater = refl

-- each part
mutual
  block_space : (own : List Text) (block : Statements) → space_of_statements (turned_block own block) ≡ space_of_statements block
  block_space own no_statements = refl
  block_space own (syntax.statement line semi s rest) = same_most (one_more (statement_space own s)) (block_space (with_declared own s) rest)

  statement_space : (own : List Text) (s : Statement) → space_of_statement (turned_statement own s) ≡ space_of_statement s
  statement_space own (assignment targets es) = same_most (values_space own targets) (values_space own es)
  statement_space own (call_statement e) = space false own e
  statement_space own (do_block block) = block_space own block
  statement_space own (while_loop e block) = counted_most (turned_count true own e) (space true own e) (block_space own block)
  statement_space own (repeat_loop block e) = counted_most (turned_count true (with_all_declared own block) e) (block_space own block) (space true (with_all_declared own block) e)
  statement_space own (if_statement branches last) = counted_most (turned_counts own branches) (branches_space own branches) (otherwise_space own last)
  statement_space own (numeric_for name first last by block) = same_most (same_most (space false own first) (space false own last)) (same_most (step_space own by) (block_space (name ∷ own) block))
  statement_space own (generic_for names es block) = same_most (values_space own es) (block_space (names ++ own) block)
  statement_space own (function_statement path method body) = one_more (body_space (is_some method) body)
  statement_space own (local_function name body) = one_more (body_space false body)
  statement_space own (local_statement names es) = values_space own es
  statement_space own (return_statement es) = values_space own es
  statement_space own break_statement = refl

  branches_space : (own : List Text) (branches : Branches) → space_of_branches (turned_branches own branches) ≡ space_of_branches branches
  branches_space own no_branches = refl
  branches_space own (branch e block rest) = same_most (same_most (space true own e) (block_space own block)) (branches_space own rest)

  otherwise_space : (own : List Text) (last : Otherwise) → space_of_otherwise (turned_otherwise own last) ≡ space_of_otherwise last
  otherwise_space own no_otherwise = refl
  otherwise_space own (otherwise block) = block_space own block

  step_space : (own : List Text) (by : ForStep) → space_of_step (turned_step own by) ≡ space_of_step by
  step_space own no_step = refl
  step_space own (by_step e) = space false own e

  -- the same in a function whose statements have blocks
  block_flow : (own : List Text) (block : Statements) → flow_space (turned_block own block) ≡ flow_space block
  block_flow own no_statements = refl
  block_flow own (syntax.statement line semi s rest) = same_most (one_more (statement_flow own s)) (block_flow (with_declared own s) rest)

  statement_flow : (own : List Text) (s : Statement) → flow_space_of (turned_statement own s) ≡ flow_space_of s
  statement_flow own (assignment targets es) = same_most (values_space own targets) (values_space own es)
  statement_flow own (call_statement e) = space false own e
  statement_flow own (do_block block) = same_most refl (block_flow own block)
  statement_flow own (while_loop e block) = counted_most (turned_count true own e) (space true own e) (block_flow own block)
  statement_flow own (repeat_loop block e) = counted_most (turned_count true (with_all_declared own block) e) (block_flow own block) (space true (with_all_declared own block) e)
  statement_flow own (if_statement branches last) = armed_most (turned_counts own branches) (turned_further own branches) (branches_flow own branches) (otherwise_flow own last)
  statement_flow own (numeric_for name first last by block) = same_most (same_most (space false own first) (space false own last)) (same_most (step_space own by) (block_flow (name ∷ own) block))
  statement_flow own (generic_for names es block) = same_most (values_space own es) (block_flow (names ++ own) block)
  statement_flow own (function_statement path method body) = one_more (body_space (is_some method) body)
  statement_flow own (local_function name body) = one_more (body_space false body)
  statement_flow own (local_statement names es) = values_space own es
  statement_flow own (return_statement es) = one_more (values_space own es)
  statement_flow own break_statement = refl

  branches_flow : (own : List Text) (branches : Branches) → flow_space_branches (turned_branches own branches) ≡ flow_space_branches branches
  branches_flow own no_branches = refl
  branches_flow own (branch e block rest) = same_most (same_most (space true own e) (block_flow own block)) (branches_flow own rest)

  otherwise_flow : (own : List Text) (last : Otherwise) → flow_space_otherwise (turned_otherwise own last) ≡ flow_space_otherwise last
  otherwise_flow own no_otherwise = refl
  otherwise_flow own (otherwise block) = block_flow own block

  body_space : (method : Bool) (body : FunctionBody) → space_of_body (turned_body method body) ≡ space_of_body body
  body_space method (function_body params vararg block first last) =
      same_around (turned_have (all_params method params) block) (block_flow (all_params method params) block) (block_space (all_params method params) block)

  values_space : (own : List Text) (es : Expressions) → space_of_expressions (turned_values own es) ≡ space_of_expressions es
  values_space own no_expressions = refl
  values_space own (syntax.expression e rest) = same_most (space false own e) (values_space own rest)

  space : (tested : Bool) (own : List Text) (e : Expression) → space_of_expression (turned_expression tested own e) ≡ space_of_expression e
  space tested own (function_expression line body) = one_more (body_space false body)
  space tested own (index_expression line on key) = one_more (same_most (space false own on) (space false own key))
  space tested own (field_expression line on name) = one_more (space false own on)
  space tested own (call_expression line on args on_line) = one_more (same_most (space false own on) (arguments_space own args))
  space tested own (method_call line on name args on_line) = one_more (same_most (space false own on) (arguments_space own args))
  space tested own (and_expression line left right) = one_more (same_most (space tested own left) (space tested own right))
  space tested own (or_expression line left right) = one_more (same_most (space tested own left) (space tested own right))
  space tested own (binary_expression line op left right) =
      both_space (tested && is_turned own op left right) line op (turned_expression false own left) (turned_expression false own right) (turned_is_greater tested own op left right)
      ∙ same_folded (ap₂ (fold_binary (arith_op op)) (turned_fold false own left) (turned_fold false own right)) (same_most (space false own left) (space false own right))
  space tested own (unary_expression line UnaryOp.Not e) = one_more (space tested own e)
  space tested own (unary_expression line op e) = same_folded (ap (fold_unary op) (turned_fold false own e)) (space false own e)
  space tested own (constructor line fields) = one_more (fields_space own fields)
  space tested own (parenthesized line e) = same_folded (turned_fold tested own e) (space tested own e)
  space tested own e = refl

  arguments_space : (own : List Text) (args : Arguments) → space_of_arguments (turned_arguments own args) ≡ space_of_arguments args
  arguments_space own (argument_list es) = values_space own es
  arguments_space own (text_argument text) = refl
  arguments_space own (table_argument fields) = fields_space own fields

  fields_space : (own : List Text) (fields : Fields) → space_of_fields (turned_fields own fields) ≡ space_of_fields fields
  fields_space own no_fields = refl
  fields_space own (positional e separator rest) = same_most (space false own e) (fields_space own rest)
  fields_space own (named name e separator rest) = same_most (space false own e) (fields_space own rest)
  fields_space own (keyed key e separator rest) = same_most (same_most (space false own key) (space false own e)) (fields_space own rest)

-- ---- the main function needs as many levels

-- a turned source needs as much room as the source
pub turned_room : (source : Source) → around_body (turned source).body (space_of_statements (turned source).body) ≡ around_body source.body (space_of_statements source.body)
turned_room source = same_around (turned_have [] source.body) (block_flow [] source.body) (block_space [] source.body)
