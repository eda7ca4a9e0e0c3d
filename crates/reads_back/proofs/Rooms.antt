-- How much room the parts of a source have: what is folded counts four levels, and a path that a function goes to does not count.
use Rattle.std.proofs.Common.{◌≡◌, ℕ, ◌+◌, suc, max, ◌≤◌, Bool, true, false, List, if◌then◌else◌, Option, Some, None, arith, is_some, refl, ap}
use Rattle.std.specs.Prelude.{ℤ}
use Rattle.lua_num.specs.Bytes.{Text}
use Rattle.lua_tree.specs.Syntax as syntax
use Rattle.lua_tree.specs.Syntax.{Branches, Expression, Expressions, FunctionBody, Otherwise, Statement, Statements, assignment, binary_expression, function_body, function_expression, nil_literal, no_expressions, number_literal, parenthesized, unary_expression}
use Rattle.lua_tree.specs.declared.tree.BinaryOp.{BinaryOp}
use Rattle.lua_tree.specs.declared.tree.UnaryOp.{UnaryOp}
use Rattle.lua_num.specs.declared.arith.ArithOp.{ArithOp}
use Rattle.scheme.specs.Expressions.{arith_op, fold, fold_binary, fold_unary}
use Rattle.scheme.specs.Shapes.{unless_folded}
use Rattle.same_flow.specs.Space.{flow_space, flow_space_branches, flow_space_of, flow_space_otherwise, has_blocks, space_of_body, space_of_branches, space_of_expression, space_of_expressions, space_of_otherwise, space_of_statement, space_of_statements}
use Rattle.reads_back.specs.Acted.{is_path}

-- ---- expressions

unless_one : (folded : Option ℤ) (depth : ℕ) → 1 ≤ depth → 1 ≤ (if is_some folded then 4 else depth)
unless_one (Some n) depth some = omega arith
unless_one None depth some = some

-- an expression has room for one level at least
pub some_room : (e : Expression) → 1 ≤ space_of_expression e
some_room (binary_expression line op left right) = unless_one (fold (binary_expression line op left right)) _ (omega arith)
some_room (unary_expression line op e) = unless_one (fold (unary_expression line op e)) _ (omega arith)
some_room (parenthesized line e) = unless_one (fold e) _ (omega arith)
some_room (nil_literal line) = omega arith
some_room e = omega arith

-- where it is folded, for four
four_folded : (folded : Option ℤ) (n : ℤ) (depth : ℕ) → folded ≡ Some n → (if is_some folded then 4 else depth) ≡ 4
four_folded (Some k) n depth is = refl
four_folded None n depth is = cc

pub folded_room : (e : Expression) (n : ℤ) → fold e ≡ Some n → space_of_expression e ≡ 4
folded_room (number_literal line k) n is = refl
folded_room (binary_expression line op left right) n is = four_folded (fold (binary_expression line op left right)) n _ is
folded_room (unary_expression line op e) n is = four_folded (fold (unary_expression line op e)) n _ is
folded_room (parenthesized line e) n is = four_folded (fold e) n _ is
folded_room e n is = cc

-- where it is not, for its parts
pub unfolded_room : (e : Expression) (depth : ℕ) → fold e ≡ None → unless_folded e depth ≡ depth
unfolded_room e depth is = ap (λ (folded : Option ℤ). if is_some folded then 4 else depth) is

-- the operands of what is folded are folded
pub folded_both : (op : Option ArithOp) (a b : Option ℤ) (n : ℤ) → fold_binary op a b ≡ Some n → ((k : ℤ) × (a ≡ Some k)) × ((k : ℤ) × (b ≡ Some k))
folded_both (Some op) (Some a) (Some b) n is = ((a, refl), (b, refl))
folded_both (Some op) (Some a) None n is = cc
folded_both (Some op) None b n is = cc
folded_both None a b n is = cc

pub folded_one : (op : UnaryOp) (a : Option ℤ) (n : ℤ) → fold_unary op a ≡ Some n → (k : ℤ) × (a ≡ Some k)
folded_one UnaryOp.Neg (Some a) n is = (a, refl)
folded_one UnaryOp.Neg None n is = cc
folded_one UnaryOp.Not a n is = cc
folded_one UnaryOp.Len a n is = cc

-- no part has room for more
pub left_room : (line : ℕ) (op : BinaryOp) (left right : Expression) → max (space_of_expression left) (space_of_expression right) ≤ space_of_expression (binary_expression line op left right)
left_room line op left right = by (fold (binary_expression line op left right)) refl
  where
    by : (folded : Option ℤ) → fold (binary_expression line op left right) ≡ folded → max (space_of_expression left) (space_of_expression right) ≤ (if is_some folded then 4 else 1 + max (space_of_expression left) (space_of_expression right))
    by (Some n) is = let both = folded_both (arith_op op) (fold left) (fold right) n is in omega (arith, folded_room left both.0.0 both.0.1, folded_room right both.1.0 both.1.1)
    by None is = omega arith

pub of_room : (line : ℕ) (op : UnaryOp) (e : Expression) → space_of_expression e ≤ space_of_expression (unary_expression line op e)
of_room line op e = by (fold (unary_expression line op e)) refl
  where
    by : (folded : Option ℤ) → fold (unary_expression line op e) ≡ folded → space_of_expression e ≤ (if is_some folded then 4 else 1 + space_of_expression e)
    by (Some n) is = let one = folded_one op (fold e) n is in omega (arith, folded_room e one.0 one.1)
    by None is = omega arith

pub inside_room : (line : ℕ) (e : Expression) → space_of_expression e ≤ space_of_expression (parenthesized line e)
inside_room line e = by (fold e) refl
  where
    by : (folded : Option ℤ) → fold e ≡ folded → space_of_expression e ≤ (if is_some folded then 4 else 1 + space_of_expression e)
    by (Some n) is = omega (arith, folded_room e n is)
    by None is = omega arith

-- ---- statements

abbrev pub lean_room_assignment : (targets es : Expressions) → ℕ
lean_room_assignment (syntax.expression target no_expressions) (syntax.expression (function_expression line body) no_expressions) = if is_path target then suc (space_of_body body) else max (space_of_expression target) (suc (space_of_body body))
lean_room_assignment targets es = max (space_of_expressions targets) (space_of_expressions es)

abbrev pub lean_room : Statement → ℕ
lean_room (assignment targets es) = lean_room_assignment targets es
lean_room s = space_of_statement s

-- in a function whose statements have blocks no statement takes less room
mutual
  pub flow_more : (block : Statements) → space_of_statements block ≤ flow_space block
  flow_more syntax.no_statements = omega arith
  flow_more (syntax.statement line semi s rest) = omega (arith, flow_more_of s, flow_more rest)

  pub flow_more_of : (s : Statement) → space_of_statement s ≤ flow_space_of s
  flow_more_of (syntax.do_block block) = omega (arith, flow_more block)
  flow_more_of (syntax.while_loop e block) = omega (arith, flow_more block)
  flow_more_of (syntax.repeat_loop block e) = omega (arith, flow_more block)
  flow_more_of (syntax.if_statement branches last) = omega (arith, flow_more_branches branches, flow_more_otherwise last)
  flow_more_of (syntax.numeric_for name first last step block) = omega (arith, flow_more block)
  flow_more_of (syntax.generic_for names es block) = omega (arith, flow_more block)
  flow_more_of s = omega arith

  pub flow_more_branches : (branches : Branches) → space_of_branches branches ≤ flow_space_branches branches
  flow_more_branches syntax.no_branches = omega arith
  flow_more_branches (syntax.branch e block rest) = omega (arith, flow_more block, flow_more_branches rest)

  pub flow_more_otherwise : (last : Otherwise) → space_of_otherwise last ≤ flow_space_otherwise last
  flow_more_otherwise syntax.no_otherwise = omega arith
  flow_more_otherwise (syntax.otherwise block) = flow_more block

-- a function has room for its statements
pub body_room : (params : List Text) (vararg : Bool) (block : Statements) (first last : ℕ) → space_of_statements block ≤ space_of_body (function_body params vararg block first last)
body_room params vararg block first last = by (has_blocks block)
  where
    by : (has : Bool) → space_of_statements block ≤ (if has then flow_space block else space_of_statements block)
    by true = flow_more block
    by false = omega arith
