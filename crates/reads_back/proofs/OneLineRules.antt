-- What the rules of form ask of a tree is the same on one line.
use Rattle.std.proofs.Common.{◌≡◌, ℕ, Bool, true, false, refl, ap₂}
use Rattle.std.specs.Prelude.{◌&&◌, not}
use Rattle.lua_tree.specs.OneLine.{one_line_statements, one_line_arguments, one_line_expression, one_line_expressions, one_line_fields, one_line_statement}
use Rattle.lua_tree.specs.Precedence.{binds, is_unary, left_binds, level_of, right_binds}
use Rattle.lua_tree.specs.Syntax as syntax
use Rattle.lua_tree.specs.Syntax.{Arguments, Expression, Expressions, Statement, Statements, and_expression, argument_list, assignment, binary_expression, call_expression, call_statement, Fields, no_fields, positional, named, keyed, table_argument, field_expression, index_expression, local_statement, method_call, name_expression, no_expressions, no_statements, or_expression, parenthesized, repeat_loop, return_statement, text_argument, unary_expression}
use Rattle.lua_tree.specs.WellFormed.{are_targets, begins_with_paren, ends_block, ends_item, has_expressions, is_prefix, is_target, last_takes_arguments, may_follow, on_its_line, statement_begins_with_paren, statement_takes_arguments, takes_arguments}
use Rattle.lua_tree.specs.declared.tree.Separator.{Separator}

-- ---- what the rules of form ask of an expression is the same on one line

same_target : (e : Expression) → is_target (one_line_expression e) ≡ is_target e
same_target (name_expression line text) = refl
same_target e = refl

pub same_prefix : (e : Expression) → is_prefix (one_line_expression e) ≡ is_prefix e
same_prefix (parenthesized line e) = refl
same_prefix e = refl

same_level : (e : Expression) → level_of (one_line_expression e) ≡ level_of e
same_level (binary_expression line op left right) = refl
same_level e = refl

same_unary : (e : Expression) → is_unary (one_line_expression e) ≡ is_unary e
same_unary (unary_expression line op e) = refl
same_unary e = refl

same_binds : (level : ℕ) (associates : Bool) (e : Expression) → binds level associates (one_line_expression e) ≡ binds level associates e
same_binds level true e = cc (same_level e)
same_binds level false e = cc (same_level e)

pub same_left : (level : ℕ) (right_associative : Bool) (e : Expression) → left_binds level right_associative (one_line_expression e) ≡ left_binds level right_associative e
same_left level right_associative e = same_binds level (not right_associative) e

pub same_right : (level : ℕ) (right_associative : Bool) (e : Expression) → right_binds level right_associative (one_line_expression e) ≡ right_binds level right_associative e
same_right level right_associative e = cc (same_unary e, same_binds level right_associative e)

same_takes : (e : Expression) → takes_arguments (one_line_expression e) ≡ takes_arguments e
same_takes (binary_expression line op left right) = same_takes right
same_takes (and_expression line left right) = same_takes right
same_takes (or_expression line left right) = same_takes right
same_takes (unary_expression line op e) = same_takes e
same_takes e = refl

last_same_takes : (es : Expressions) → last_takes_arguments (one_line_expressions es) ≡ last_takes_arguments es
last_same_takes no_expressions = refl
last_same_takes (syntax.expression e no_expressions) = same_takes e
last_same_takes (syntax.expression e (syntax.expression d es)) = last_same_takes (syntax.expression d es)

same_begins : (e : Expression) → begins_with_paren (one_line_expression e) ≡ begins_with_paren e
same_begins (index_expression line on key) = same_begins on
same_begins (field_expression line on text) = same_begins on
same_begins (call_expression line on args on_line) = same_begins on
same_begins (method_call line on name args on_line) = same_begins on
same_begins e = refl

-- ---- and so is what they ask of a statement

statement_same_takes : (s : Statement) → statement_takes_arguments (one_line_statement s) ≡ statement_takes_arguments s
statement_same_takes (assignment targets es) = last_same_takes es
statement_same_takes (repeat_loop block test) = same_takes test
statement_same_takes (local_statement names es) = last_same_takes es
statement_same_takes s = refl

statement_same_begins : (s : Statement) → statement_begins_with_paren (one_line_statement s) ≡ statement_begins_with_paren s
statement_same_begins (assignment no_expressions es) = refl
statement_same_begins (assignment (syntax.expression target targets) es) = same_begins target
statement_same_begins (call_statement e) = same_begins e
statement_same_begins s = refl

same_ends : (s : Statement) → ends_block (one_line_statement s) ≡ ends_block s
same_ends (return_statement es) = refl
same_ends s = refl

pub same_follow : (s : Statement) (semi : Bool) (rest : Statements) → may_follow (one_line_statement s) semi (one_line_statements rest) ≡ may_follow s semi rest
same_follow s semi no_statements = refl
same_follow s semi (syntax.statement line next_semi next rest) = cc (same_ends s, statement_same_takes s, statement_same_begins next)

-- ---- and of arguments, fields and lists

-- an argument list on one line stands on the line of the token before it
pub given_on_line : (args : Arguments) → on_its_line (one_line_arguments args) 1 1 ≡ true
given_on_line (argument_list es) = refl
given_on_line (text_argument text) = refl
given_on_line (table_argument items) = refl

pub same_item : (separator : Separator) (fields : Fields) → ends_item separator (one_line_fields fields) ≡ ends_item separator fields
same_item Separator.Missing no_fields = refl
same_item Separator.Missing (positional e separator rest) = refl
same_item Separator.Missing (named text e separator rest) = refl
same_item Separator.Missing (keyed key e separator rest) = refl
same_item separator items = refl

pub same_some : (es : Expressions) → has_expressions (one_line_expressions es) ≡ has_expressions es
same_some no_expressions = refl
same_some (syntax.expression e es) = refl

pub same_targets : (es : Expressions) → are_targets (one_line_expressions es) ≡ are_targets es
same_targets no_expressions = refl
same_targets (syntax.expression e es) = ap₂ (λ (first rest : Bool). first && rest) (same_target e) (same_targets es)
