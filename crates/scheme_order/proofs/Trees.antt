-- What the scheme reads of an expression, it reads of the turned one; a literal has no names, and a name has one.
use Rattle.std.proofs.Common.{◌≡◌, Bool, true, false, ◌&&◌, List, ◌++◌, refl, ap, ap₂, ◌∙◌}
use Rattle.std.proofs.lemmas.Bool.{and_parts}
use Rattle.std.specs.Prelude.{Option, Some, None, is_some, ℕ, ℤ}
use Rattle.lua_num.specs.Bytes.{Text}
use Rattle.lua_num.specs.declared.arith.ArithOp.{ArithOp}
use Rattle.lua_tree.specs.Scoping.{Use}
use Rattle.lua_tree.specs.Syntax.{Branches, no_branches, branch, Otherwise, no_otherwise, otherwise, Expression, nil_literal, true_literal, false_literal, number_literal, text_literal, name_expression, binary_expression, unary_expression, parenthesized}
use Rattle.lua_tree.specs.WellFormed.{is_call}
use Rattle.lua_tree.specs.declared.tree.BinaryOp.{BinaryOp}
use Rattle.lua_tree.specs.declared.tree.UnaryOp.{UnaryOp}
use Rattle.scheme.specs.Expressions.{arith_op, fold_binary, fold_unary, fold, plain_literal, number_or, literal, is_name, is_vararg}
use Rattle.scheme.specs.Scheme.{has_branch, has_otherwise}
use Rattle.scheme_order.specs.Turned.{is_own, is_greater, is_turned, turned_both, turned_expression, turned_branches, turned_otherwise}
use Rattle.scheme_order.specs.Permuted.{Uses, NoUses, OneUse, ComparedUse, ExpressionUses}
use Rattle.scheme_order.proofs.Makers.{Names, no_names, one_name, uses}

-- what is read of an expression, and the same of another; with the names of both
pub record SameLook (here there : Names) (e f : Expression) : Type 0 where
  pub folds : fold e ≡ fold f
  pub literals : literal e ≡ literal f
  pub names : is_name e ≡ is_name f
  pub calls : is_call e ≡ is_call f
  pub varargs : is_vararg e ≡ is_vararg f
  pub none : is_some (literal e) ≡ true → (here ≡ no_names) × (there ≡ no_names)
  pub one : is_name e ≡ true → (meant : Use) × (here ≡ one_name meant) × (there ≡ one_name meant)

-- of expressions that are neither literals nor names
pub look_plain : {here there : Names} {e f : Expression} → literal e ≡ None → literal f ≡ None → fold e ≡ fold f → is_name e ≡ false → is_name f ≡ false → is_call e ≡ is_call f →
    is_vararg e ≡ is_vararg f → SameLook here there e f
look_plain nothing neither folds name other calls varargs = record {
  folds = folds;
  literals = cc;
  names = cc;
  calls = calls;
  varargs = varargs;
  none = λ is. cc;
  one = λ is. cc;
}

-- ---- a turned comparison

-- only `>` and `>=` are turned
pub turned_greater : (tested : Bool) (own : List Text) (op : BinaryOp) (left right : Expression) → (tested && is_turned own op left right) ≡ true → is_greater op ≡ true
turned_greater tested own op left right e = (and_parts _ _ (and_parts tested _ e).1).0

-- of a binary operator, turned or not, what it folds to
fold_turned : (turn : Bool) (line : ℕ) (op : BinaryOp) (left right more other : Expression) → (turn ≡ true → is_greater op ≡ true) → fold left ≡ fold more → fold right ≡ fold other →
    fold_binary (arith_op op) (fold left) (fold right) ≡ fold (turned_both turn line op more other)
fold_turned false line op left right more other g p q = ap₂ (fold_binary (arith_op op)) p q
fold_turned true line BinaryOp.Gt left right more other g p q = refl
fold_turned true line BinaryOp.Ge left right more other g p q = refl
fold_turned true line op left right more other g p q = let e : false ≡ true = g refl in cc

-- what is the same of all operators
of_both : {A : Type 0} (of : Expression → A) (a : A) (turn : Bool) (line : ℕ) (op : BinaryOp) (left right : Expression) →
    ((op : BinaryOp) (left right : Expression) → a ≡ of (binary_expression line op left right)) →
    a ≡ of (turned_both turn line op left right)
of_both of a true line op left right e = e _ right left
of_both of a false line op left right e = e op left right

-- what an expression folds to
pub fold_same : (tested : Bool) (own : List Text) (e : Expression) → fold e ≡ fold (turned_expression tested own e)
fold_same tested own (binary_expression line op left right) =
    fold_turned (tested && is_turned own op left right) line op left right (turned_expression false own left) (turned_expression false own right)
    (turned_greater tested own op left right) (fold_same false own left) (fold_same false own right)
fold_same tested own (unary_expression line UnaryOp.Not e) = ap (fold_unary UnaryOp.Not) (fold_same tested own e)
fold_same tested own (unary_expression line UnaryOp.Neg e) = ap (fold_unary UnaryOp.Neg) (fold_same false own e)
fold_same tested own (unary_expression line UnaryOp.Len e) = ap (fold_unary UnaryOp.Len) (fold_same false own e)
fold_same tested own (parenthesized line e) = fold_same tested own e
fold_same tested own e = refl

-- which literal it is
pub plain_same : (tested : Bool) (own : List Text) (e : Expression) → plain_literal e ≡ plain_literal (turned_expression tested own e)
plain_same tested own (binary_expression line op left right) = of_both plain_literal None (tested && is_turned own op left right) line op _ _ (λ op left right. refl)
plain_same tested own (unary_expression line UnaryOp.Not e) = refl
plain_same tested own (unary_expression line op e) = refl
plain_same tested own e = refl

-- whether it is a name
name_same : (tested : Bool) (own : List Text) (e : Expression) → is_name e ≡ is_name (turned_expression tested own e)
name_same tested own (binary_expression line op left right) = of_both is_name false (tested && is_turned own op left right) line op _ _ (λ op left right. refl)
name_same tested own (unary_expression line UnaryOp.Not e) = refl
name_same tested own (unary_expression line op e) = refl
name_same tested own (parenthesized line e) = name_same tested own e
name_same tested own e = refl

-- whether it is a call
call_same : (tested : Bool) (own : List Text) (e : Expression) → is_call e ≡ is_call (turned_expression tested own e)
call_same tested own (binary_expression line op left right) = of_both is_call false (tested && is_turned own op left right) line op _ _ (λ op left right. refl)
call_same tested own (unary_expression line UnaryOp.Not e) = refl
call_same tested own (unary_expression line op e) = refl
call_same tested own e = refl

-- whether it is `...`
vararg_same : (tested : Bool) (own : List Text) (e : Expression) → is_vararg e ≡ is_vararg (turned_expression tested own e)
vararg_same tested own (binary_expression line op left right) = of_both is_vararg false (tested && is_turned own op left right) line op _ _ (λ op left right. refl)
vararg_same tested own (unary_expression line UnaryOp.Not e) = refl
vararg_same tested own (unary_expression line op e) = refl
vararg_same tested own e = refl

-- ---- names

-- where the operands have no names
compared_none : (turn left_own right_own : Bool) {First Second : Uses} {here there : List Use} → ((one again : List Use) → First one again → NoUses one again) →
    ((more others : List Use) → Second more others → NoUses more others) →
    ComparedUse turn left_own right_own First Second here there → NoUses here there
compared_none true left_own right_own p q u =
    let (one, more, again, others, first, second, left, right, here, there) = u in
    let a = p one again first in
    let b = q more others second in
    (here ∙ ap₂ (λ l k. l ++ k) a.0 b.0, there ∙ ap₂ (λ l k. l ++ k) b.1 a.1)
compared_none false left_own right_own p q u =
    let (one, more, again, others, first, second, here, there) = u in
    let a = p one again first in
    let b = q more others second in
    (here ∙ ap₂ (λ l k. l ++ k) a.0 b.0, there ∙ ap₂ (λ l k. l ++ k) a.1 b.1)

-- only a number is negated
some_negated : (o : Option ℤ) → is_some (fold_unary UnaryOp.Neg o) ≡ true → is_some o ≡ true
some_negated (Some n) e = refl
some_negated None e = e

-- only two numbers are folded
some_both : (op : Option ArithOp) (a b : Option ℤ) → is_some (fold_binary op a b) ≡ true → (is_some a ≡ true) × (is_some b ≡ true)
some_both (Some op) (Some a) (Some b) e = (refl, refl)
some_both op a b e = cc

-- a number that is there
some_number : (o : Option ℤ) → is_some (number_or o None) ≡ true → is_some o ≡ true
some_number (Some n) e = refl
some_number None e = e

-- what is folded has no names
folded_none : (tested : Bool) (own : List Text) (e : Expression) (here there : List Use) → is_some (fold e) ≡ true → ExpressionUses tested own e here there → NoUses here there
folded_none tested own (number_literal line n) here there is u = u
folded_none tested own (parenthesized line e) here there is u = folded_none tested own e here there is u
folded_none tested own (unary_expression line UnaryOp.Neg e) here there is u = folded_none false own e here there (some_negated (fold e) is) u
folded_none tested own (unary_expression line UnaryOp.Not e) here there is u = cc
folded_none tested own (unary_expression line UnaryOp.Len e) here there is u = cc
folded_none tested own (binary_expression line op left right) here there is u =
    let both = some_both (arith_op op) (fold left) (fold right) is in
    compared_none (tested && is_turned own op left right) (is_own own left) (is_own own right)
    (λ one again. folded_none false own left one again both.0) (λ more others. folded_none false own right more others both.1) u
folded_none tested own e here there is u = cc

-- a literal has no names
literal_none : (tested : Bool) (own : List Text) (e : Expression) (here there : List Use) → is_some (literal e) ≡ true → ExpressionUses tested own e here there → NoUses here there
literal_none tested own (nil_literal line) here there is u = u
literal_none tested own (true_literal line) here there is u = u
literal_none tested own (false_literal line) here there is u = u
literal_none tested own (text_literal line text) here there is u = u
literal_none tested own e here there is u = folded_none tested own e here there (some_number (fold e) is) u

-- a name has one
pub name_one : (tested : Bool) (own : List Text) (e : Expression) (here there : List Use) → is_name e ≡ true → ExpressionUses tested own e here there → OneUse here there
name_one tested own (name_expression line text) here there is u = u
name_one tested own (parenthesized line e) here there is u = name_one tested own e here there is u
name_one tested own e here there is u = cc

-- all that is read of an expression
pub look_same : (tested : Bool) (own : List Text) (e : Expression) (here there : List Use) → ExpressionUses tested own e here there →
    SameLook (uses here) (uses there) e (turned_expression tested own e)
look_same tested own e here there u = record {
  folds = fold_same tested own e;
  literals = ap₂ number_or (fold_same tested own e) (plain_same tested own e);
  names = name_same tested own e;
  calls = call_same tested own e;
  varargs = vararg_same tested own e;
  none = λ is. let no_use = literal_none tested own e here there is u in (ap uses no_use.0, ap uses no_use.1);
  one = λ is. let (meant, left, right) = name_one tested own e here there is u in (meant, ap uses left, ap uses right);
}

-- ---- branches

-- whether there is a branch
pub has_branch_same : (own : List Text) (branches : Branches) → has_branch branches ≡ has_branch (turned_branches own branches)
has_branch_same own no_branches = refl
has_branch_same own (branch test block rest) = refl

-- whether there is an `else`
pub has_otherwise_same : (own : List Text) (last : Otherwise) → has_otherwise last ≡ has_otherwise (turned_otherwise own last)
has_otherwise_same own no_otherwise = refl
has_otherwise_same own (otherwise block) = refl
