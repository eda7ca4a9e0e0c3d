-- How strongly the edges of an expression bind, and what may follow it.
use Rattle.std.proofs.Common.{◌≡◌, ◌&&◌, ◌⊎◌, inl, inr, ℕ, ◌+◌, ◌<◌, ◌≤◌, min, Bool, true, false, List, Option, Some, refl, subst, arith}
use Rattle.std.proofs.lemmas.Bool.Decides.{nat_tests}
use Rattle.lua_tree.specs.Syntax.{Expression, and_expression, or_expression, binary_expression, unary_expression}
use Rattle.lua_tree.specs.WellFormed.{takes_arguments, formed_expression}
use Rattle.lua_tree.specs.Precedence.{level_of, level_of_op, is_right_associative, binds, left_binds, right_binds}
use Rattle.lua_tree.specs.declared.token.TokenKind.{TokenKind}
use Rattle.lua_tree.specs.declared.token.Token.{Token}
use Rattle.lua_tree.specs.declared.tree.BinaryOp.{BinaryOp}
use Rattle.parser.specs.Classes.{Suffix, suffix_of}
use Rattle.parser.specs.Operators.{Infix, infix_of, left_power, right_power}
use Rattle.parser.specs.Runs.{kind_of}
use Rattle.parser.proofs.Small.{and_left, and_right}

-- the least power of the operators at the left edge of an expression, and at its right edge
abbrev pub left_edge : Expression → ℕ
left_edge (and_expression line left right) = min 2 (left_edge left)
left_edge (or_expression line left right) = min 1 (left_edge left)
left_edge (binary_expression line op left right) = min (left_power (Infix.Binary op)) (left_edge left)
left_edge e = 11

abbrev pub right_edge : Expression → ℕ
right_edge (and_expression line left right) = min 2 (right_edge right)
right_edge (or_expression line left right) = min 1 (right_edge right)
right_edge (binary_expression line op left right) = min (right_power (Infix.Binary op)) (right_edge right)
right_edge (unary_expression line op of) = min 8 (right_edge of)
right_edge e = 11

-- what can stand behind an expression: no operator that an operand at its right edge takes, and no arguments that it takes
pub record Follows (e : Expression) (rest : List Token) : Type 0 where
  pub operators : (op : Infix) → infix_of (kind_of rest) ≡ Some op → left_power op ≤ right_edge e
  pub suffix : takes_arguments e ≡ true → suffix_of (kind_of rest) ≡ Suffix.Missing

-- the grammar's words for an operator
abbrev pub level : Infix → ℕ
level Infix.Or = 1
level Infix.And = 2
level (Infix.Binary op) = level_of_op op

abbrev pub associates_right : Infix → Bool
associates_right (Infix.Binary op) = is_right_associative op
associates_right op = false

-- a level more than an operator's own
abbrev pub more : Bool → ℕ
more true = 1
more false = 0

-- levels and powers go together
pub record Powers (level left right extra : ℕ) : Type 0 where
  pub kinds : ((1 ≤ level) × (level ≤ 3) × (left ≡ level) × (right ≡ level) × (extra ≡ 0)) ⊎ ((level ≡ 4) × (left ≡ 5) × (right ≡ 4) × (extra ≡ 1)) ⊎ ((5 ≤ level) × (level ≤ 6) × (left ≡ level + 1) × (right ≡ level + 1) × (extra ≡ 0)) ⊎ ((level ≡ 8) × (left ≡ 10) × (right ≡ 9) × (extra ≡ 1))

pub powers : (op : Infix) → Powers (level op) (left_power op) (right_power op) (more (associates_right op))
powers Infix.Or = record { kinds = inl (omega arith, omega arith, refl, refl, refl) }
powers Infix.And = record { kinds = inl (omega arith, omega arith, refl, refl, refl) }
powers (Infix.Binary BinaryOp.Lt) = record { kinds = inl (omega arith, omega arith, refl, refl, refl) }
powers (Infix.Binary BinaryOp.Gt) = record { kinds = inl (omega arith, omega arith, refl, refl, refl) }
powers (Infix.Binary BinaryOp.Le) = record { kinds = inl (omega arith, omega arith, refl, refl, refl) }
powers (Infix.Binary BinaryOp.Ge) = record { kinds = inl (omega arith, omega arith, refl, refl, refl) }
powers (Infix.Binary BinaryOp.Ne) = record { kinds = inl (omega arith, omega arith, refl, refl, refl) }
powers (Infix.Binary BinaryOp.Eq) = record { kinds = inl (omega arith, omega arith, refl, refl, refl) }
powers (Infix.Binary BinaryOp.Concat) = record { kinds = inr (inl (refl, refl, refl, refl)) }
powers (Infix.Binary BinaryOp.Add) = record { kinds = inr (inr (inl (omega arith, omega arith, refl, refl, refl))) }
powers (Infix.Binary BinaryOp.Sub) = record { kinds = inr (inr (inl (omega arith, omega arith, refl, refl, refl))) }
powers (Infix.Binary BinaryOp.Mul) = record { kinds = inr (inr (inl (omega arith, omega arith, refl, refl, refl))) }
powers (Infix.Binary BinaryOp.Div) = record { kinds = inr (inr (inl (omega arith, omega arith, refl, refl, refl))) }
powers (Infix.Binary BinaryOp.Rem) = record { kinds = inr (inr (inl (omega arith, omega arith, refl, refl, refl))) }
powers (Infix.Binary BinaryOp.Pow) = record { kinds = inr (inr (inr (refl, refl, refl, refl))) }

-- what the tests of the grammar say of levels
level_left : (l : ℕ) (b : Bool) (e : Expression) → left_binds l b e ≡ true → l + more b ≤ level_of e
level_left l true e h = grind (arith, nat_tests)
level_left l false e h = grind (arith, nat_tests)

level_right : (l : ℕ) (b : Bool) (e : Expression) → binds l b e ≡ true → l + 1 ≤ level_of e + more b
level_right l true e h = grind (arith, nat_tests)
level_right l false e h = grind (arith, nat_tests)

-- an operator's left operand that has an operator
inner_left : {l p r x l' p' r' x' : ℕ} → Powers l p r x → Powers l' p' r' x' → l + x ≤ l' → (p ≤ p') × (p ≤ min 8 r')
inner_left a b h = (omega arith, omega arith)

inner_right : {l p r x l' p' r' x' : ℕ} → Powers l p r x → Powers l' p' r' x' → l + 1 ≤ l' + x → (r < p') × (min 8 r ≤ min 8 r')
inner_right a b h = (omega arith, omega arith)

-- the power of an expression's own operator, on each side
abbrev left_strength : Expression → ℕ
left_strength (and_expression line left right) = 2
left_strength (or_expression line left right) = 1
left_strength (binary_expression line op left right) = left_power (Infix.Binary op)
left_strength e = 11

abbrev right_strength : Expression → ℕ
right_strength (and_expression line left right) = 2
right_strength (or_expression line left right) = 1
right_strength (binary_expression line op left right) = min 8 (right_power (Infix.Binary op))
right_strength (unary_expression line op of) = 8
right_strength e = 11

-- bounds of an operator's powers
record Bounds (level left right extra : ℕ) : Type 0 where
  left_most : left ≤ 10
  right_most : right ≤ 9
  before_unary : level + extra ≤ 7 → left ≤ 8

bounds : {l p r x : ℕ} → Powers l p r x → Bounds l p r x
bounds a = record { left_most = omega arith; right_most = omega arith; before_unary = λ h. omega arith }

-- the left operand of an operator
in_left : (op : Infix) (e : Expression) → left_binds (level op) (associates_right op) e ≡ true → (left_power op ≤ left_strength e) × (left_power op ≤ right_strength e)
in_left op e h = by e (level_left (level op) (associates_right op) e h)
  where
    most : Bounds (level op) (left_power op) (right_power op) (more (associates_right op))
    most = bounds (powers op)

    by : (e : Expression) → level op + more (associates_right op) ≤ level_of e → (left_power op ≤ left_strength e) × (left_power op ≤ right_strength e)
    by (and_expression line left right) h = inner_left (powers op) (powers Infix.And) h
    by (or_expression line left right) h = inner_left (powers op) (powers Infix.Or) h
    by (binary_expression line op' left right) h = inner_left (powers op) (powers (Infix.Binary op')) h
    by (unary_expression line op' of) h = (omega (arith, most.left_most), most.before_unary h)
    by e h = (omega (arith, most.left_most), omega (arith, most.left_most))

-- the right operand of an operator
in_right : (op : Infix) (e : Expression) → right_binds (level op) (associates_right op) e ≡ true → (right_power op < left_strength e) × (min 8 (right_power op) ≤ right_strength e)
in_right op e h = by e h
  where
    most : Bounds (level op) (left_power op) (right_power op) (more (associates_right op))
    most = bounds (powers op)

    by : (e : Expression) → right_binds (level op) (associates_right op) e ≡ true → (right_power op < left_strength e) × (min 8 (right_power op) ≤ right_strength e)
    by (and_expression line left right) h = inner_right (powers op) (powers Infix.And) (level_right (level op) (associates_right op) (and_expression line left right) h)
    by (or_expression line left right) h = inner_right (powers op) (powers Infix.Or) (level_right (level op) (associates_right op) (or_expression line left right) h)
    by (binary_expression line op' left right) h = inner_right (powers op) (powers (Infix.Binary op')) (level_right (level op) (associates_right op) (binary_expression line op' left right) h)
    by (unary_expression line op' of) h = (omega (arith, most.right_most), omega arith)
    by e h = (omega (arith, most.right_most), omega arith)

above_seven : {l p r x : ℕ} → Powers l p r x → 7 ≤ l → (8 < p) × (8 ≤ min 8 r)
above_seven a h = (omega arith, omega arith)

-- the operand of a unary operator
in_unary : (e : Expression) → left_binds 7 false e ≡ true → (8 < left_strength e) × (8 ≤ right_strength e)
in_unary e h = by e (level_left 7 false e h)
  where
    by : (e : Expression) → 7 + 0 ≤ level_of e → (8 < left_strength e) × (8 ≤ right_strength e)
    by (and_expression line left right) h = absurd (omega arith)
    by (or_expression line left right) h = absurd (omega arith)
    by (binary_expression line op' left right) h = above_seven (powers (Infix.Binary op')) h
    by (unary_expression line op' of) h = (omega arith, omega arith)
    by e h = (omega arith, omega arith)

-- what a formed expression of an operator says
pub record Formed (op : Infix) (left right : Expression) : Type 0 where
  pub left_binds : left_binds (level op) (associates_right op) left ≡ true
  pub right_binds : right_binds (level op) (associates_right op) right ≡ true
  pub left_formed : formed_expression left ≡ true
  pub right_formed : formed_expression right ≡ true

-- from the conjunction in the tree's rule
pub formed_parts : (op : Infix) (left right : Expression) →
    left_binds (level op) (associates_right op) left && (right_binds (level op) (associates_right op) right && (formed_expression left && formed_expression right)) ≡ true → Formed op left right
formed_parts op left right h =
    let a = and_right _ _ h in
    let b = and_right _ _ a in
    record { left_binds = and_left _ _ h; right_binds = and_left _ _ a; left_formed = and_left _ _ b; right_formed = and_right _ _ b }

-- the edges of a formed expression bind as strongly as its own operator
left_strong : (e : Expression) → formed_expression e ≡ true → left_strength e ≤ left_edge e
left_strong (and_expression line left right) f =
    let p = formed_parts Infix.And left right f in
    omega (arith, in_left Infix.And left p.left_binds, left_strong left p.left_formed)
left_strong (or_expression line left right) f =
    let p = formed_parts Infix.Or left right f in
    omega (arith, in_left Infix.Or left p.left_binds, left_strong left p.left_formed)
left_strong (binary_expression line op left right) f =
    let p = formed_parts (Infix.Binary op) left right f in
    omega (arith, in_left (Infix.Binary op) left p.left_binds, left_strong left p.left_formed)
left_strong e f = omega arith

right_strong : (e : Expression) → formed_expression e ≡ true → right_strength e ≤ right_edge e
right_strong (and_expression line left right) f =
    let p = formed_parts Infix.And left right f in
    omega (arith, in_right Infix.And right p.right_binds, right_strong right p.right_formed)
right_strong (or_expression line left right) f =
    let p = formed_parts Infix.Or left right f in
    omega (arith, in_right Infix.Or right p.right_binds, right_strong right p.right_formed)
right_strong (binary_expression line op left right) f =
    let p = formed_parts (Infix.Binary op) left right f in
    omega (arith, in_right (Infix.Binary op) right p.right_binds, right_strong right p.right_formed)
right_strong (unary_expression line op of) f =
    omega (arith, in_unary of (and_left _ _ f), right_strong of (and_right _ _ f))
right_strong e f = omega arith

-- an operator is not taken inside its left operand
pub left_closed : (op : Infix) (e : Expression) → left_binds (level op) (associates_right op) e ≡ true → formed_expression e ≡ true → left_power op ≤ right_edge e
left_closed op e h f = omega (arith, in_left op e h, right_strong e f)

-- an operator's right operand is read whole
pub right_open : (op : Infix) (e : Expression) → right_binds (level op) (associates_right op) e ≡ true → formed_expression e ≡ true → right_power op < left_edge e
right_open op e h f = omega (arith, in_right op e h, left_strong e f)

-- and so is the operand of a unary operator
pub unary_open : (e : Expression) → left_binds 7 false e ≡ true → formed_expression e ≡ true → 8 < left_edge e
unary_open e h f = omega (arith, in_unary e h, left_strong e f)

one_at_least : {l p r x : ℕ} → Powers l p r x → 1 ≤ p
one_at_least a = omega arith

-- every operator is read at limit 0
pub zero_open : (e : Expression) → 0 < left_edge e
zero_open (and_expression line left right) = omega (arith, zero_open left)
zero_open (or_expression line left right) = omega (arith, zero_open left)
zero_open (binary_expression line op left right) = omega (arith, zero_open left, one_at_least (powers (Infix.Binary op)))
zero_open e = omega arith

-- an operator adds nothing to a prefix expression
pub operator_no_suffix : (next : Option TokenKind) (op : Infix) → infix_of next ≡ Some op → suffix_of next ≡ Suffix.Missing
operator_no_suffix (Some TokenKind.Dot) op h = cc
operator_no_suffix (Some TokenKind.OpenBracket) op h = cc
operator_no_suffix (Some TokenKind.Colon) op h = cc
operator_no_suffix (Some TokenKind.OpenParen) op h = cc
operator_no_suffix (Some TokenKind.OpenBrace) op h = cc
operator_no_suffix (Some (TokenKind.Text text)) op h = cc
operator_no_suffix next op h = refl

-- an operator can follow its left operand
pub operator_follows : (op : Infix) (e : Expression) (tokens : List Token) → infix_of (kind_of tokens) ≡ Some op → left_binds (level op) (associates_right op) e ≡ true → formed_expression e ≡ true → Follows e tokens
operator_follows op e tokens k h f = record {
  operators = λ other i.
      let same : op ≡ other = cc in
      subst (λ x. left_power x ≤ right_edge e) same (left_closed op e h f);
  suffix = λ t. operator_no_suffix (kind_of tokens) op k;
}
