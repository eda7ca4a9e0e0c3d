-- To be believed. Conditions that never fail, by their literals: what is behind a further arm of an `if` with such a condition is never reached, and may be found one level deeper.
use Rattle.std.specs.Prelude.{ℕ, suc, if◌then◌else◌, Bool, true, false, ◌&&◌, not, Option, None, Some}
use Rattle.std.specs.Bool.{beq}
use Rattle.lua_tree.specs.Syntax.{Branches, no_branches, branch, Expression, and_expression, or_expression, unary_expression, parenthesized}
use Rattle.lua_tree.specs.declared.tree.UnaryOp.{UnaryOp}
use Rattle.proto.specs.declared.parts.Constant.{Constant}
use Rattle.scheme.specs.Expressions.{literal, is_true_constant}

-- a literal has not this truth
abbrev pub is_other_literal : (sense : Bool) → Option Constant → Bool
is_other_literal sense None = false
is_other_literal sense (Some k) = not (beq (is_true_constant k) sense)

-- a condition never has this truth, by its literals
abbrev pub never_is : (sense : Bool) → Expression → Bool
never_is true (and_expression line left right) = never_is true right
never_is false (and_expression line left right) = never_is false left && never_is false right
never_is true (or_expression line left right) = never_is true left && never_is true right
never_is false (or_expression line left right) = never_is false right
never_is sense (unary_expression line UnaryOp.Not e) = never_is (not sense) e
never_is sense (parenthesized line e) = never_is sense e
never_is sense e = is_other_literal sense (literal e)

-- how many arms have such a condition
abbrev pub never_arms : Branches → ℕ
never_arms no_branches = 0
never_arms (branch e block rest) = if never_is false e then suc (never_arms rest) else never_arms rest

-- and of those behind the first one
abbrev pub never_further : Branches → ℕ
never_further no_branches = 0
never_further (branch e block rest) = never_arms rest
