-- What the scheme reads of an expression does not depend on its lines.
use Rattle.std.proofs.Common.{◌≡◌, refl, ap, ap₂}
use Rattle.lua_tree.specs.Syntax.{Branches, no_branches, branch, Otherwise, no_otherwise, otherwise, Expression, nil_literal, binary_expression, unary_expression, parenthesized}
use Rattle.lua_tree.specs.WellFormed.{is_call}
use Rattle.scheme.specs.Expressions.{arith_op, fold_binary, fold_unary, fold, plain_literal, number_or, literal, is_name, is_vararg}
use Rattle.scheme.specs.Scheme.{has_branch, has_otherwise}
use Rattle.scheme_lines.specs.Bare.{bare_expression, bare_branches, bare_otherwise}

pub fold_same : (e : Expression) → fold e ≡ fold (bare_expression e)
fold_same (binary_expression line op left right) = ap₂ (fold_binary (arith_op op)) (fold_same left) (fold_same right)
fold_same (unary_expression line op e) = ap (fold_unary op) (fold_same e)
fold_same (parenthesized line e) = fold_same e
fold_same e = refl

plain_same : (e : Expression) → plain_literal e ≡ plain_literal (bare_expression e)
plain_same (nil_literal line) = refl
plain_same e = refl

pub literal_same : (e : Expression) → literal e ≡ literal (bare_expression e)
literal_same e = ap₂ number_or (fold_same e) (plain_same e)

pub name_same : (e : Expression) → is_name e ≡ is_name (bare_expression e)
name_same (parenthesized line e) = name_same e
name_same e = refl

pub call_same : (e : Expression) → is_call e ≡ is_call (bare_expression e)
call_same (nil_literal line) = refl
call_same e = refl

pub vararg_same : (e : Expression) → is_vararg e ≡ is_vararg (bare_expression e)
vararg_same (nil_literal line) = refl
vararg_same e = refl

pub has_branch_same : (branches : Branches) → has_branch branches ≡ has_branch (bare_branches branches)
has_branch_same no_branches = refl
has_branch_same (branch test block rest) = refl

pub has_otherwise_same : (last : Otherwise) → has_otherwise last ≡ has_otherwise (bare_otherwise last)
has_otherwise_same no_otherwise = refl
has_otherwise_same (otherwise block) = refl
