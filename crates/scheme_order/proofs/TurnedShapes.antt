-- What turned expressions and statements begin and end with, and how tightly an expression binds, are as in the source; a test alone may end otherwise.
use Rattle.std.proofs.Common.{◌≡◌, ℕ, ◌+◌, Bool, true, false, List, refl, ap, ap₂, inl, inr}
use Rattle.std.specs.Prelude.{◌&&◌, ◌||◌, ◌⊎◌, nat_le}
use Rattle.std.proofs.lemmas.Bool.{false≢true}
use Rattle.lua_num.specs.Bytes.{Text}
use Rattle.lua_tree.specs.Precedence.{level_of_op, level_of, is_unary, left_binds, right_binds}
use Rattle.lua_tree.specs.Syntax as syntax
use Rattle.lua_tree.specs.Syntax.{Statements, no_statements, Statement, assignment, call_statement, break_statement, local_statement, repeat_loop, return_statement, Branches, no_branches, branch, Expressions, no_expressions, Expression, nil_literal, name_expression, index_expression, field_expression, call_expression, method_call, and_expression, or_expression, binary_expression, unary_expression, parenthesized, Arguments, argument_list, text_argument, table_argument, Fields, no_fields, positional, named, keyed}
use Rattle.lua_tree.specs.declared.tree.BinaryOp.{BinaryOp}
use Rattle.lua_tree.specs.declared.tree.Separator.{Separator}
use Rattle.lua_tree.specs.declared.tree.UnaryOp.{UnaryOp}
use Rattle.lua_tree.specs.WellFormed.{is_target, is_call, is_prefix, are_targets, has_expressions, has_branches, ends_item, on_its_line, begins_with_paren, first_begins_with_paren, statement_begins_with_paren, takes_arguments, last_takes_arguments, statement_takes_arguments, ends_block}
use Rattle.scheme.specs.Shapes.{plainness}
use Rattle.scheme_order.specs.Turned.{ends_in_test, turned_op, is_turned, turned_both, turned_expression, turned_values, turned_fields, turned_arguments, turned_branches, turned_statement}

-- ---- an expression

-- what says the same of all operations of two operands says it of a turned one
of_both {ℓ} : {A : Type ℓ} (f : Expression → A) (a : A) → ((line : ℕ) (op : BinaryOp) (left right : Expression) → f (binary_expression line op left right) ≡ a)
    → (turn : Bool) (line : ℕ) (op : BinaryOp) (left right : Expression) → f (turned_both turn line op left right) ≡ a
of_both f a same true line op left right = same line (turned_op op) right left
of_both f a same false line op left right = same line op left right

-- what may be assigned to, called and indexed
target_same : (tested : Bool) (own : List Text) (e : Expression) → is_target (turned_expression tested own e) ≡ is_target e
target_same tested own (binary_expression line op left right) =
    of_both is_target false (λ line op left right. refl) (tested && is_turned own op left right) line op (turned_expression false own left) (turned_expression false own right)
target_same tested own (unary_expression line UnaryOp.Not e) = refl
target_same tested own (unary_expression line op e) = refl
target_same tested own e = refl

pub call_same : (tested : Bool) (own : List Text) (e : Expression) → is_call (turned_expression tested own e) ≡ is_call e
call_same tested own (binary_expression line op left right) =
    of_both is_call false (λ line op left right. refl) (tested && is_turned own op left right) line op (turned_expression false own left) (turned_expression false own right)
call_same tested own (unary_expression line UnaryOp.Not e) = refl
call_same tested own (unary_expression line op e) = refl
call_same tested own e = refl

pub prefix_same : (tested : Bool) (own : List Text) (e : Expression) → is_prefix (turned_expression tested own e) ≡ is_prefix e
prefix_same tested own (binary_expression line op left right) =
    of_both is_prefix false (λ line op left right. refl) (tested && is_turned own op left right) line op (turned_expression false own left) (turned_expression false own right)
prefix_same tested own (unary_expression line UnaryOp.Not e) = refl
prefix_same tested own (unary_expression line op e) = refl
prefix_same tested own e = refl

-- whether it is an operation of one operand
unary_same : (tested : Bool) (own : List Text) (e : Expression) → is_unary (turned_expression tested own e) ≡ is_unary e
unary_same tested own (binary_expression line op left right) =
    of_both is_unary false (λ line op left right. refl) (tested && is_turned own op left right) line op (turned_expression false own left) (turned_expression false own right)
unary_same tested own (unary_expression line UnaryOp.Not e) = refl
unary_same tested own (unary_expression line op e) = refl
unary_same tested own e = refl

-- how tightly it binds
pub level_same : (op : BinaryOp) → level_of_op (turned_op op) ≡ level_of_op op
level_same BinaryOp.Gt = refl
level_same BinaryOp.Ge = refl
level_same op = refl

both_level : (turn : Bool) (line : ℕ) (op : BinaryOp) (left right : Expression) → level_of (turned_both turn line op left right) ≡ level_of_op op
both_level true line op left right = level_same op
both_level false line op left right = refl

level_kept : (tested : Bool) (own : List Text) (e : Expression) → level_of (turned_expression tested own e) ≡ level_of e
level_kept tested own (binary_expression line op left right) = both_level (tested && is_turned own op left right) line op (turned_expression false own left) (turned_expression false own right)
level_kept tested own (unary_expression line UnaryOp.Not e) = refl
level_kept tested own (unary_expression line op e) = refl
level_kept tested own e = refl

-- whether it needs parentheses on the left, and on the right
pub left_same : (level : ℕ) (right_associative tested : Bool) (own : List Text) (e : Expression)
    → left_binds level right_associative (turned_expression tested own e) ≡ left_binds level right_associative e
left_same level true tested own e = ap (nat_le (level + 1)) (level_kept tested own e)
left_same level false tested own e = ap (nat_le level) (level_kept tested own e)

pub right_same : (level : ℕ) (right_associative tested : Bool) (own : List Text) (e : Expression)
    → right_binds level right_associative (turned_expression tested own e) ≡ right_binds level right_associative e
right_same level true tested own e = ap₂ (λ unary n. unary || nat_le level n) (unary_same tested own e) (level_kept tested own e)
right_same level false tested own e = ap₂ (λ unary n. unary || nat_le (level + 1) n) (unary_same tested own e) (level_kept tested own e)

-- whether it begins with a parenthesis
pub begin_same : (tested : Bool) (own : List Text) (e : Expression) → begins_with_paren (turned_expression tested own e) ≡ begins_with_paren e
begin_same tested own (index_expression line on key) = begin_same false own on
begin_same tested own (field_expression line on name) = begin_same false own on
begin_same tested own (call_expression line on args on_line) = begin_same false own on
begin_same tested own (method_call line on name args on_line) = begin_same false own on
begin_same tested own (binary_expression line op left right) =
    of_both begins_with_paren false (λ line op left right. refl) (tested && is_turned own op left right) line op (turned_expression false own left) (turned_expression false own right)
begin_same tested own (unary_expression line UnaryOp.Not e) = refl
begin_same tested own (unary_expression line op e) = refl
begin_same tested own e = refl

-- a value ends as it did: no test in it is turned but in the functions in it
takes_same : (own : List Text) (e : Expression) → takes_arguments (turned_expression false own e) ≡ takes_arguments e
takes_same own (binary_expression line op left right) = takes_same own right
takes_same own (and_expression line left right) = takes_same own right
takes_same own (or_expression line left right) = takes_same own right
takes_same own (unary_expression line UnaryOp.Not e) = takes_same own e
takes_same own (unary_expression line op e) = takes_same own e
takes_same own e = refl

-- a plain value binds more tightly than a comparison
pub plain_level : (e : Expression) → (plainness e).value ≡ true → nat_le 4 (level_of e) ≡ true
plain_level (and_expression line left right) f = absurd (false≢true f)
plain_level (or_expression line left right) f = absurd (false≢true f)
plain_level (binary_expression line BinaryOp.Eq left right) f = absurd (false≢true f)
plain_level (binary_expression line BinaryOp.Ne left right) f = absurd (false≢true f)
plain_level (binary_expression line BinaryOp.Lt left right) f = absurd (false≢true f)
plain_level (binary_expression line BinaryOp.Le left right) f = absurd (false≢true f)
plain_level (binary_expression line BinaryOp.Gt left right) f = absurd (false≢true f)
plain_level (binary_expression line BinaryOp.Ge left right) f = absurd (false≢true f)
plain_level (binary_expression line op left right) f = refl
plain_level e f = refl

-- ---- lists

-- what a list has, and how it ends
pub targets_same : (own : List Text) (es : Expressions) → are_targets (turned_values own es) ≡ are_targets es
targets_same own no_expressions = refl
targets_same own (syntax.expression e rest) = ap₂ (λ a b. a && b) (target_same false own e) (targets_same own rest)

pub has_same : (own : List Text) (es : Expressions) → has_expressions (turned_values own es) ≡ has_expressions es
has_same own no_expressions = refl
has_same own (syntax.expression e rest) = refl

pub branches_same : (own : List Text) (branches : Branches) → has_branches (turned_branches own branches) ≡ has_branches branches
branches_same own no_branches = refl
branches_same own (branch e block rest) = refl

pub ends_same : (separator : Separator) (own : List Text) (fields : Fields) → ends_item separator (turned_fields own fields) ≡ ends_item separator fields
ends_same Separator.Missing own no_fields = refl
ends_same Separator.Missing own (positional e separator rest) = refl
ends_same Separator.Missing own (named name e separator rest) = refl
ends_same Separator.Missing own (keyed key e separator rest) = refl
ends_same separator own items = refl

pub line_same : (own : List Text) (args : Arguments) (line on_line : ℕ) → on_its_line (turned_arguments own args) line on_line ≡ on_its_line args line on_line
line_same own (argument_list es) line on_line = refl
line_same own (text_argument text) line on_line = refl
line_same own (table_argument items) line on_line = refl

first_begin_same : (own : List Text) (es : Expressions) → first_begins_with_paren (turned_values own es) ≡ first_begins_with_paren es
first_begin_same own no_expressions = refl
first_begin_same own (syntax.expression e rest) = begin_same false own e

last_takes_same : (own : List Text) (es : Expressions) → last_takes_arguments (turned_values own es) ≡ last_takes_arguments es
last_takes_same own no_expressions = refl
last_takes_same own (syntax.expression e no_expressions) = takes_same own e
last_takes_same own (syntax.expression e (syntax.expression other rest)) = last_takes_same own (syntax.expression other rest)

-- ---- a statement

-- how it begins, and whether it ends its block
pub statement_begin_same : (own : List Text) (s : Statement) → statement_begins_with_paren (turned_statement own s) ≡ statement_begins_with_paren s
statement_begin_same own (assignment targets es) = first_begin_same own targets
statement_begin_same own (call_statement e) = begin_same false own e
statement_begin_same own s = refl

pub ends_block_same : (own : List Text) (s : Statement) → ends_block (turned_statement own s) ≡ ends_block s
ends_block_same own (return_statement es) = refl
ends_block_same own s = refl

-- all but `repeat` end as they did
pub statement_takes_same : (own : List Text) (s : Statement) → (statement_takes_arguments (turned_statement own s) ≡ statement_takes_arguments s) ⊎ (ends_in_test s ≡ true)
statement_takes_same own (assignment targets es) = inl (last_takes_same own es)
statement_takes_same own (repeat_loop block e) = inr refl
statement_takes_same own (local_statement names es) = inl (last_takes_same own es)
statement_takes_same own s = inl refl
