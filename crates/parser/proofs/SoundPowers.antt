-- The numbers by which operators bind, and the levels of the grammar.
use Rattle.std.proofs.Common.{◌≡◌, ℕ, ◌+◌, ◌<◌, ◌≤◌, Bool, true, false, not, Option, Some, refl, ap, arith}
use Rattle.lua_tree.specs.Syntax.{Expression, and_expression, or_expression, binary_expression, unary_expression}
use Rattle.lua_tree.specs.Precedence.{level_of, is_unary, binds, left_binds, right_binds}
use Rattle.lua_tree.specs.WellFormed.{is_prefix, takes_arguments, formed_expression}
use Rattle.lua_tree.specs.declared.token.TokenKind.{TokenKind}
use Rattle.lua_tree.specs.declared.tree.BinaryOp.{BinaryOp}
use Rattle.lua_tree.specs.declared.tree.UnaryOp.{UnaryOp}
use Rattle.lua_tree.specs.Spelling.{spell_op, spell_unary}
use Rattle.parser.specs.Operators.{Infix, infix_of, unary_of, left_power, right_power, infix_expression}
use Rattle.parser.proofs.Small.{both, or_left, or_right}
use Rattle.parser.proofs.Posts.{level_of_infix, is_right_infix, Shape, simple_shape, unary_shape, infix_shape}
use Rattle.parser.proofs.SoundSteps.{at_most}

-- the least level of an operand on a side where the operator associates, or on the other
abbrev least : ℕ → Bool → ℕ
least level true = level
least level false = level + 1

-- an operator's level, its powers, and the least levels of its left and right operands
data Power (level power right left_least right_least : ℕ) : Type 0 where
  low : level ≤ 3 → power ≡ level → right ≡ level → left_least ≡ level → right_least ≡ level + 1 → Power level power right left_least right_least
  concat : level ≡ 4 → power ≡ 5 → right ≡ 4 → left_least ≡ 5 → right_least ≡ 4 → Power level power right left_least right_least
  middle : 5 ≤ level → level ≤ 6 → power ≡ level + 1 → right ≡ level + 1 → left_least ≡ level → right_least ≡ level + 1 → Power level power right left_least right_least
  pow : level ≡ 8 → power ≡ 10 → right ≡ 9 → left_least ≡ 9 → right_least ≡ 8 → Power level power right left_least right_least

abbrev PowerOf : Infix → Type 0
PowerOf op = Power (level_of_infix op) (left_power op) (right_power op) (least (level_of_infix op) (not (is_right_infix op))) (least (level_of_infix op) (is_right_infix op))

power_of : (op : Infix) → PowerOf op
power_of Infix.Or = low (omega arith) refl refl refl refl
power_of Infix.And = low (omega arith) refl refl refl refl
power_of (Infix.Binary BinaryOp.Lt) = low (omega arith) refl refl refl refl
power_of (Infix.Binary BinaryOp.Gt) = low (omega arith) refl refl refl refl
power_of (Infix.Binary BinaryOp.Le) = low (omega arith) refl refl refl refl
power_of (Infix.Binary BinaryOp.Ge) = low (omega arith) refl refl refl refl
power_of (Infix.Binary BinaryOp.Ne) = low (omega arith) refl refl refl refl
power_of (Infix.Binary BinaryOp.Eq) = low (omega arith) refl refl refl refl
power_of (Infix.Binary BinaryOp.Concat) = concat refl refl refl refl refl
power_of (Infix.Binary BinaryOp.Add) = middle (omega arith) (omega arith) refl refl refl refl
power_of (Infix.Binary BinaryOp.Sub) = middle (omega arith) (omega arith) refl refl refl refl
power_of (Infix.Binary BinaryOp.Mul) = middle (omega arith) (omega arith) refl refl refl refl
power_of (Infix.Binary BinaryOp.Div) = middle (omega arith) (omega arith) refl refl refl refl
power_of (Infix.Binary BinaryOp.Rem) = middle (omega arith) (omega arith) refl refl refl refl
power_of (Infix.Binary BinaryOp.Pow) = pow refl refl refl refl refl

-- an operator that binds more strongly than another's right side may stand there
right_level : {l p r u v l' p' r' u' v' : ℕ} → Power l p r u v → Power l' p' r' u' v' → r < p' → v ≤ l'
right_level (low a b c d e) (low a' b' c' d' e') h = omega arith
right_level (low a b c d e) (concat a' b' c' d' e') h = omega arith
right_level (low a b c d e) (middle a' a'' b' c' d' e') h = omega arith
right_level (low a b c d e) (pow a' b' c' d' e') h = omega arith
right_level (concat a b c d e) (low a' b' c' d' e') h = omega arith
right_level (concat a b c d e) (concat a' b' c' d' e') h = omega arith
right_level (concat a b c d e) (middle a' a'' b' c' d' e') h = omega arith
right_level (concat a b c d e) (pow a' b' c' d' e') h = omega arith
right_level (middle a a''' b c d e) (low a' b' c' d' e') h = omega arith
right_level (middle a a''' b c d e) (concat a' b' c' d' e') h = omega arith
right_level (middle a a''' b c d e) (middle a' a'' b' c' d' e') h = omega arith
right_level (middle a a''' b c d e) (pow a' b' c' d' e') h = omega arith
right_level (pow a b c d e) (low a' b' c' d' e') h = omega arith
right_level (pow a b c d e) (concat a' b' c' d' e') h = omega arith
right_level (pow a b c d e) (middle a' a'' b' c' d' e') h = omega arith
right_level (pow a b c d e) (pow a' b' c' d' e') h = omega arith

-- an operator may stand on the left of one that its right side does not take
left_level : {l p r u v l' p' r' u' v' : ℕ} → Power l p r u v → Power l' p' r' u' v' → p' ≤ r → u' ≤ l
left_level (low a b c d e) (low a' b' c' d' e') h = omega arith
left_level (low a b c d e) (concat a' b' c' d' e') h = omega arith
left_level (low a b c d e) (middle a' a'' b' c' d' e') h = omega arith
left_level (low a b c d e) (pow a' b' c' d' e') h = omega arith
left_level (concat a b c d e) (low a' b' c' d' e') h = omega arith
left_level (concat a b c d e) (concat a' b' c' d' e') h = omega arith
left_level (concat a b c d e) (middle a' a'' b' c' d' e') h = omega arith
left_level (concat a b c d e) (pow a' b' c' d' e') h = omega arith
left_level (middle a a''' b c d e) (low a' b' c' d' e') h = omega arith
left_level (middle a a''' b c d e) (concat a' b' c' d' e') h = omega arith
left_level (middle a a''' b c d e) (middle a' a'' b' c' d' e') h = omega arith
left_level (middle a a''' b c d e) (pow a' b' c' d' e') h = omega arith
left_level (pow a b c d e) (low a' b' c' d' e') h = omega arith
left_level (pow a b c d e) (concat a' b' c' d' e') h = omega arith
left_level (pow a b c d e) (middle a' a'' b' c' d' e') h = omega arith
left_level (pow a b c d e) (pow a' b' c' d' e') h = omega arith

-- what is no operator may stand on each side
least_of_all : {l p r u v : ℕ} → Power l p r u v → (u ≤ 9) × (v ≤ 9)
least_of_all (low a b c d e) = (omega arith, omega arith)
least_of_all (concat a b c d e) = (omega arith, omega arith)
least_of_all (middle a a'' b c d e) = (omega arith, omega arith)
least_of_all (pow a b c d e) = (omega arith, omega arith)

-- a unary expression on the left
unary_level : {l p r u v : ℕ} → Power l p r u v → p ≤ 8 → u ≤ 7
unary_level (low a b c d e) h = omega arith
unary_level (concat a b c d e) h = omega arith
unary_level (middle a a'' b c d e) h = omega arith
unary_level (pow a b c d e) h = omega arith

-- the operand of a unary operator
operand_level : {l p r u v : ℕ} → Power l p r u v → 8 < p → 7 ≤ l
operand_level (low a b c d e) h = omega arith
operand_level (concat a b c d e) h = omega arith
operand_level (middle a a'' b c d e) h = omega arith
operand_level (pow a b c d e) h = omega arith

binds_by : (level : ℕ) (side : Bool) (e : Expression) (n : ℕ) → level_of e ≡ n → least level side ≤ n → binds level side e ≡ true
binds_by level true e n i h = at_most level (level_of e) (omega arith)
binds_by level false e n i h = at_most (level + 1) (level_of e) (omega arith)

pub right_operand : (op : Infix) (e : Expression) → Shape (right_power op) e → right_binds (level_of_infix op) (is_right_infix op) e ≡ true
right_operand op e (simple_shape i) =
    or_right (is_unary e) (binds (level_of_infix op) (is_right_infix op) e) (binds_by (level_of_infix op) (is_right_infix op) e 9 i (least_of_all (power_of op)).1)
right_operand op e (unary_shape i u) = or_left (is_unary e) (binds (level_of_infix op) (is_right_infix op) e) u
right_operand op e (infix_shape other h i) =
    or_right (is_unary e) (binds (level_of_infix op) (is_right_infix op) e) (binds_by (level_of_infix op) (is_right_infix op) e (level_of_infix other) i (right_level (power_of op) (power_of other) h))

pub unary_operand : (e : Expression) → Shape 8 e → left_binds 7 false e ≡ true
unary_operand e (simple_shape i) = at_most 7 (level_of e) (omega arith)
unary_operand e (unary_shape i u) = at_most 7 (level_of e) (omega arith)
unary_operand e (infix_shape op h i) = let l = operand_level (power_of op) h in at_most 7 (level_of e) (omega arith)

pub left_simple : (op : Infix) (e : Expression) → level_of e ≡ 9 → left_binds (level_of_infix op) (is_right_infix op) e ≡ true
left_simple op e i = binds_by (level_of_infix op) (not (is_right_infix op)) e 9 i (least_of_all (power_of op)).0

pub left_unary : (op : Infix) (e : Expression) → level_of e ≡ 7 → left_power op ≤ 8 → left_binds (level_of_infix op) (is_right_infix op) e ≡ true
left_unary op e i h = binds_by (level_of_infix op) (not (is_right_infix op)) e 7 i (unary_level (power_of op) h)

pub left_infix : (op other : Infix) (e : Expression) → level_of e ≡ level_of_infix other → left_power op ≤ right_power other → left_binds (level_of_infix op) (is_right_infix op) e ≡ true
left_infix op other e i h = binds_by (level_of_infix op) (not (is_right_infix op)) e (level_of_infix other) i (left_level (power_of other) (power_of op) h)

-- the expression of an operator
pub infix_level : (op : Infix) (start line : ℕ) (left right : Expression) → level_of (infix_expression start line op left right) ≡ level_of_infix op
infix_level Infix.And start line left right = refl
infix_level Infix.Or start line left right = refl
infix_level (Infix.Binary op) start line left right = refl

pub infix_takes : (op : Infix) (start line : ℕ) (left right : Expression) → takes_arguments (infix_expression start line op left right) ≡ takes_arguments right
infix_takes Infix.And start line left right = refl
infix_takes Infix.Or start line left right = refl
infix_takes (Infix.Binary op) start line left right = refl

pub infix_formed : (op : Infix) (start line : ℕ) (left right : Expression) →
    left_binds (level_of_infix op) (is_right_infix op) left ≡ true → right_binds (level_of_infix op) (is_right_infix op) right ≡ true →
    formed_expression left ≡ true → formed_expression right ≡ true → formed_expression (infix_expression start line op left right) ≡ true
infix_formed Infix.And start line left right a b c d = both a (both b (both c d))
infix_formed Infix.Or start line left right a b c d = both a (both b (both c d))
infix_formed (Infix.Binary op) start line left right a b c d = both a (both b (both c d))

-- the token of an operator
abbrev pub infix_word : Infix → TokenKind
infix_word Infix.And = TokenKind.And
infix_word Infix.Or = TokenKind.Or
infix_word (Infix.Binary op) = spell_op op

some_infix : (a b : Infix) → Some a ≡ Some b → Some (infix_word a) ≡ Some (infix_word b)
some_infix a b h = let same : a ≡ b = cc in ap (λ x. Some (infix_word x)) same

pub infix_kind : (kind : Option TokenKind) (op : Infix) → infix_of kind ≡ Some op → kind ≡ Some (infix_word op)
infix_kind (Some TokenKind.And) op h = some_infix Infix.And op h
infix_kind (Some TokenKind.Or) op h = some_infix Infix.Or op h
infix_kind (Some TokenKind.Plus) op h = some_infix (Infix.Binary BinaryOp.Add) op h
infix_kind (Some TokenKind.Minus) op h = some_infix (Infix.Binary BinaryOp.Sub) op h
infix_kind (Some TokenKind.Star) op h = some_infix (Infix.Binary BinaryOp.Mul) op h
infix_kind (Some TokenKind.Slash) op h = some_infix (Infix.Binary BinaryOp.Div) op h
infix_kind (Some TokenKind.Percent) op h = some_infix (Infix.Binary BinaryOp.Rem) op h
infix_kind (Some TokenKind.Caret) op h = some_infix (Infix.Binary BinaryOp.Pow) op h
infix_kind (Some TokenKind.DotDot) op h = some_infix (Infix.Binary BinaryOp.Concat) op h
infix_kind (Some TokenKind.EqualEqual) op h = some_infix (Infix.Binary BinaryOp.Eq) op h
infix_kind (Some TokenKind.TildeEqual) op h = some_infix (Infix.Binary BinaryOp.Ne) op h
infix_kind (Some TokenKind.Less) op h = some_infix (Infix.Binary BinaryOp.Lt) op h
infix_kind (Some TokenKind.LessEqual) op h = some_infix (Infix.Binary BinaryOp.Le) op h
infix_kind (Some TokenKind.Greater) op h = some_infix (Infix.Binary BinaryOp.Gt) op h
infix_kind (Some TokenKind.GreaterEqual) op h = some_infix (Infix.Binary BinaryOp.Ge) op h
infix_kind kind op h = cc

some_unary : (a b : UnaryOp) → Some a ≡ Some b → Some (spell_unary a) ≡ Some (spell_unary b)
some_unary a b h = let same : a ≡ b = cc in ap (λ x. Some (spell_unary x)) same

pub unary_kind : (kind : Option TokenKind) (op : UnaryOp) → unary_of kind ≡ Some op → kind ≡ Some (spell_unary op)
unary_kind (Some TokenKind.Minus) op h = some_unary UnaryOp.Neg op h
unary_kind (Some TokenKind.Not) op h = some_unary UnaryOp.Not op h
unary_kind (Some TokenKind.Hash) op h = some_unary UnaryOp.Len op h
unary_kind kind op h = cc

-- a prefix expression has no operator on top, and could take arguments
pub prefix_level : (e : Expression) → is_prefix e ≡ true → level_of e ≡ 9
prefix_level (and_expression line left right) h = cc
prefix_level (or_expression line left right) h = cc
prefix_level (binary_expression line op left right) h = cc
prefix_level (unary_expression line op right) h = cc
prefix_level e h = refl
