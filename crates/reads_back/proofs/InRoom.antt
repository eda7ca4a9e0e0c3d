-- What is written of an expression needs no more levels than the expression has room for, and none more for parentheses: they were paid for, or it binds as the expression does, which has none.
use Rattle.std.proofs.Common.{◌≡◌, ℕ, suc, ◌≤◌, ◌⊎◌, inl, inr, Bool, true, false, not, Option, None, Some, refl, sym, ap, ap₂, ◌∙◌, arith}
use Rattle.std.specs.Prelude.{◌||◌, ◌+◌, ℤ}
use Rattle.lua_tree.specs.Precedence.{binds, is_right_associative, is_unary, left_binds, level_of, level_of_op, right_binds}
use Rattle.lua_tree.specs.Syntax.{Expression, parenthesized}
use Rattle.lua_tree.specs.WellFormed.{is_prefix}
use Rattle.lua_tree.specs.declared.tree.BinaryOp.{BinaryOp}
use Rattle.core_expr.specs.Writing.{Wording, as_prefix, is_power, on_left, on_right, unless}
use Rattle.scheme.specs.Expressions.{fold, is_multiple, literal}
use Rattle.same_flow.specs.Space.{space_of_expression}
use Rattle.reads_back.proofs.Rooms.{folded_room, unfolded_room}

-- what is written asks for parentheses where the expression does
pub record BindsAlike (e x : Expression) : Type 0 where
  pub prefix : is_prefix x ≡ is_prefix e
  pub level : level_of x ≡ level_of e
  pub unary : is_unary x ≡ is_unary e
  pub several : is_multiple x ≡ is_multiple e

-- and stands without them as an operand
pub record IsAlike (bare : Bool) (e : Expression) (w : Wording) : Type 0 where
  pub low : w.levels ≤ space_of_expression e
  pub binds : BindsAlike e w.words
  pub bare_there : literal e ≡ None → bare ≡ true
  pub unfolded : fold e ≡ None

-- `bare`: it needs no parentheses as an operand
abbrev pub IsInRoom : (bare : Bool) → Expression → Wording → Type 0
IsInRoom bare e w = (suc w.levels ≤ space_of_expression e) ⊎ IsAlike bare e w

binds_alike : (level : ℕ) (even : Bool) (x e : Expression) → level_of x ≡ level_of e → binds level even x ≡ binds level even e
binds_alike level true x e same = cc same
binds_alike level false x e same = cc same

module _ (bare : Bool) (e : Expression) (w : Wording) where
  pub levels_in : IsInRoom bare e w → w.levels ≤ space_of_expression e
  levels_in (inl paid) = omega (arith, paid)
  levels_in (inr alike) = alike.low

  -- in parentheses or not
  pub unless_in : (stays : Bool) → IsInRoom bare e w → (BindsAlike e w.words → stays ≡ true) → (unless stays w).levels ≤ space_of_expression e
  unless_in true low stays = levels_in low
  unless_in false (inl paid) stays = omega (arith, paid)
  unless_in false (inr alike) stays = let so = stays alike.binds in cc

  pub prefix_in : IsInRoom bare e w → is_prefix e ≡ true → (as_prefix w).levels ≤ space_of_expression e
  prefix_in low is = unless_in (is_prefix w.words) low (λ alike. alike.prefix ∙ is)

  pub left_in : (level : ℕ) (right_associative : Bool) → IsInRoom bare e w → left_binds level right_associative e ≡ true → (unless (left_binds level right_associative w.words) w).levels ≤ space_of_expression e
  left_in level right_associative low is = unless_in (left_binds level right_associative w.words) low (λ alike. binds_alike level (not right_associative) w.words e alike.level ∙ is)

  pub right_in : (level : ℕ) (right_associative : Bool) → IsInRoom bare e w → right_binds level right_associative e ≡ true → (unless (right_binds level right_associative w.words) w).levels ≤ space_of_expression e
  right_in level right_associative low is =
      unless_in (right_binds level right_associative w.words) low (λ alike. ap₂ (λ (unary binds : Bool). unary || binds) alike.unary (binds_alike level right_associative w.words e alike.level) ∙ is)

  -- where one value is wanted
  pub closed_in : (several : Bool) → IsInRoom bare e w → is_multiple w.words ≡ several → is_multiple e ≡ false → (unless (not several) w).levels ≤ space_of_expression e
  closed_in several low is single = unless_in (not several) low (λ alike. ap not (sym is ∙ alike.several ∙ single))

-- ---- operands

-- an operand of an operator
pub record IsOperandInRoom (e : Expression) (w : Wording) : Type 0 where
  pub low : w.levels ≤ space_of_expression e
  pub left : (op : BinaryOp) → left_binds (level_of_op op) (is_right_associative op) e ≡ true → (on_left op w).levels ≤ space_of_expression e
  pub right : (op : BinaryOp) → right_binds (level_of_op op) (is_power op) e ≡ true → (on_right op w).levels ≤ space_of_expression e

-- parentheses bind as tightly as can be
parens_bind : (op : BinaryOp) (even : Bool) (x : Expression) → binds (level_of_op op) even (parenthesized 1 x) ≡ true
parens_bind BinaryOp.Lt true x = refl
parens_bind BinaryOp.Lt false x = refl
parens_bind op true x = refl
parens_bind op false x = refl

stays_so : (stays : Bool) (w : Wording) (most : ℕ) → stays ≡ true → w.levels ≤ most → (unless stays w).levels ≤ most
stays_so true w most is low = low
stays_so false w most is low = cc

pub bare_in : (e : Expression) (w : Wording) → IsInRoom true e w → IsOperandInRoom e w
bare_in e w low = record {
  low = levels_in true e w low;
  left = λ op is. left_in true e w (level_of_op op) (is_right_associative op) low is;
  right = λ op is. right_in true e w (level_of_op op) (is_power op) low is;
}

-- what is no literal, or stands without parentheses
pub operand_in : (bare : Bool) (e : Expression) (w : Wording) → IsInRoom bare e w → (IsAlike bare e w → (literal e ≡ None) ⊎ (bare ≡ true)) → IsOperandInRoom e (unless bare w)
operand_in true e w low either = bare_in e w low
operand_in false e w (inl paid) either =
    let high : (unless false w).levels ≤ space_of_expression e = omega (arith, paid) in
    record {
      low = high;
      left = λ op is. stays_so (left_binds (level_of_op op) (is_right_associative op) (parenthesized 1 w.words)) (unless false w) (space_of_expression e) (parens_bind op (not (is_right_associative op)) w.words) high;
      right = λ op is. stays_so (right_binds (level_of_op op) (is_power op) (parenthesized 1 w.words)) (unless false w) (space_of_expression e) (parens_bind op (is_power op) w.words) high;
    }
operand_in false e w (inr alike) either = by (either alike)
  where
    by : (literal e ≡ None) ⊎ (false ≡ true) → IsOperandInRoom e (unless false w)
    by (inl none) = let so = alike.bare_there none in cc
    by (inr bare) = cc

-- ---- in parentheses

pub parens_in : (bare : Bool) (line : ℕ) (e : Expression) (w : Wording) → IsInRoom bare e w → IsInRoom bare (parenthesized line e) w
parens_in bare line e w low = by (fold e) refl low
  where
    by : (folded : Option ℤ) → fold e ≡ folded → IsInRoom bare e w → IsInRoom bare (parenthesized line e) w
    by (Some n) is (inl paid) = inl (omega (arith, paid, folded_room e n is, folded_room (parenthesized line e) n is))
    by (Some n) is (inr alike) = let none = alike.unfolded in cc
    by None is low = inl (omega (arith, levels_in bare e w low, unfolded_room (parenthesized line e) (1 + space_of_expression e) is))
