-- Small facts that several proofs use: tests that hold together or apart, numbers that fit below a depth, and the depth of an expression.
use Rattle.std.proofs.Common.{◌≡◌, ◌&&◌, ◌||◌, ℕ, ◌+◌, ◌≤◌, max, Bool, true, false, Option, Some, None, refl, sym, ◌∙◌, ap, subst, arith}
use Rattle.lua_tree.specs.Syntax.{Expression, nil_literal}
use Rattle.lua_tree.specs.WellFormed.{depth_of_expression}
use Rattle.lua_tree.specs.declared.token.TokenKind.{TokenKind}
use Rattle.parser.specs.Operators.{Infix, infix_expression}

pub both : {a b : Bool} → a ≡ true → b ≡ true → a && b ≡ true
both {a} {b} h i = subst (λ x. x && b ≡ true) (sym h) i

pub and_left : (a b : Bool) → a && b ≡ true → a ≡ true
and_left true b h = cc
and_left false b h = cc

pub and_right : (a b : Bool) → a && b ≡ true → b ≡ true
and_right true b h = h
and_right false b h = cc

pub or_left : (a b : Bool) → a ≡ true → a || b ≡ true
or_left a b h = subst (λ x. x || b ≡ true) (sym h) refl

pub or_right : (a b : Bool) → b ≡ true → a || b ≡ true
or_right true b h = refl
or_right false b h = h

pub not_both : {a : Bool} → a ≡ true → a ≡ false → ⊥
not_both h i = let q : true ≡ false = sym h ∙ i in cc

-- a class of next tokens without another: no member is that other
pub not_it : (class : Option TokenKind → Bool) {next other : Option TokenKind} → class next ≡ true → class other ≡ false → next ≡ other → ⊥
not_it class h o e = not_both h (ap class e ∙ o)

pub none_is : (op : Infix) → None ≡ Some op → ⊥
none_is op i = cc

-- the deeper of two
pub two_fit : (d a b m : ℕ) → d + a ≤ m → d + b ≤ m → d + max a b ≤ m
two_fit d a b m h i = omega arith

pub two_fit_below : (d a b m : ℕ) → d + 1 + a ≤ m → d + 1 + b ≤ m → d + (1 + max a b) ≤ m
two_fit_below d a b m h i = omega arith

pub with_none : (d m : ℕ) → d ≤ m → d + 0 ≤ m
with_none d m h = omega arith

pub without : (d a m : ℕ) → d + a ≤ m → d ≤ m
without d a m h = omega arith

pub under : (d a m : ℕ) → d + 1 + a ≤ m → d + (1 + a) ≤ m
under d a m h = omega arith

pub less_one : (d m : ℕ) → d + 1 ≤ m → d ≤ m
less_one d m h = omega arith

-- an expression lies at least one deep
pub depth_positive : (e : Expression) → 1 ≤ depth_of_expression e
depth_positive (nil_literal line) = omega arith
depth_positive e = omega arith

-- each operator is one deeper than its operands
pub infix_depth : (op : Infix) (start line : ℕ) (left right : Expression) → depth_of_expression (infix_expression start line op left right) ≡ 1 + max (depth_of_expression left) (depth_of_expression right)
infix_depth Infix.And start line left right = refl
infix_depth Infix.Or start line left right = refl
infix_depth (Infix.Binary op) start line left right = refl
