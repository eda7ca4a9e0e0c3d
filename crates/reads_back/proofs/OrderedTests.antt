-- A condition in which no local of the function changes places can be tested with its operands written the other way round, where they are; the numbers of its constants do not matter.
use Rattle.std.proofs.Common.{◌≡◌, ℕ, ◌<◌, ◌≤◌, ◌⊎◌, inl, inr, ◌&&◌, ◌||◌, nat_lt, Bool, true, false, not, List, length, Some, refl, sym, ◌∙◌, subst, arith}
use Rattle.std.proofs.lemmas.Bool.Decides.{nat_tests}
use Rattle.lua_num.specs.Bytes.{Text}
use Rattle.lua_tree.specs.Syntax.{Expression, binary_expression, name_expression, parenthesized}
use Rattle.lua_tree.specs.declared.tree.BinaryOp.{BinaryOp}
use Rattle.core_expr.specs.Targets.{is_constant_field, is_swapped, swapped_fields}
use Rattle.core_expr.specs.Values.{OperandValue}
use Rattle.scheme.specs.Expressions.{is_comparison, literal}
use Rattle.scheme.specs.declared.making.Active.{Active}
use Rattle.scheme_order.specs.Ordered.{keeps_order}
use Rattle.scheme_order.specs.Turned.{is_constant_literal, is_own}
use Rattle.scheme_stands.specs.Words.{Fn, Names, is_among, own_register}
use Rattle.reads_back.proofs.ComparisonOrder.{HasLocal, fields_are, register_field}
use Rattle.reads_back.proofs.ComparisonsSame.{CanTurn, KeepsNames}
use Rattle.reads_back.proofs.LocalOperands.{IsNameOf, LocalOperand, OneConstant, some_local}
use Rattle.reads_back.proofs.TestedAs.{BothTested, IsField, comparison_of, is_turned}
use Rattle.reads_back.proofs.Tests.{or_first, or_second}

-- ---- operands that keep their order

-- where one is a local, one is a number or a string
one_stays : (own constant : Bool) → not (own && not constant) ≡ true → own ≡ true → constant ≡ true
one_stays true true stays is = refl
one_stays true false stays is = cc
one_stays false constant stays is = cc

-- neither operand is one of these names, or one of the operands is a number or a string
abbrev StayInOrder : (own : List Text) → (l r : Expression) → Type 0
StayInOrder own l r = not ((is_own own l || is_own own r) && not (is_constant_literal (literal l) || is_constant_literal (literal r))) ≡ true

-- the names of the locals that are active are among these
abbrev pub AreOwn : (own : List Text) → List Active → Type 0
AreOwn own active = (text : Text) (r : ℕ) → own_register text active ≡ Some r → is_among text own ≡ true

-- so a name that means one of them is one of these names
name_own : (own : List Text) (active : List Active) → AreOwn own active → (r : ℕ) (e : Expression) → IsNameOf active r e → is_own own e ≡ true
name_own own active named r (name_expression line text) means = named text r means
name_own own active named r (parenthesized line e) means = name_own own active named r e means
name_own own active named r e means = absurd means

module _ {g : Fn} {active : List Active} (few_locals : length active ≤ 250) {l r : Expression} {before behind : ℕ} (both : BothTested g active l r before behind) where
  abbrev count : ℕ
  count = length active

  names_kept : (names : Names) → g.law ≡ Some names → (own : List Text) → AreOwn own active → StayInOrder own l r → HasLocal count both.x both.y both.first both.second → OneConstant l r
  names_kept names law own named keeps locals = one_stays (is_own own l || is_own own r) _ keeps (one_own (some_local both locals))
    where
      local_own : {e : Expression} {one other : ℕ} {o : OperandValue} → LocalOperand g active e one other o → is_own own e ≡ true
      local_own {e} local = name_own own active named local.register e (local.means names law)

      one_own : LocalOperand g active l before both.mid both.first ⊎ LocalOperand g active r both.mid behind both.second → (is_own own l || is_own own r) ≡ true
      one_own (inl local) = or_first (is_own own l) (is_own own r) (local_own local)
      one_own (inr local) = or_second (is_own own l) (is_own own r) (local_own local)

  -- in the word of `<` and `<=` a local and another register keep their order
  plain_stays : (n : ℕ) → HasLocal count both.x both.y both.first both.second → swapped_fields count n both.x both.y both.first both.second (is_constant_field both.x) (is_constant_field both.y) ≡ true → ⊥
  plain_stays n (v, w, first, second, below) swapped =
      let at_x = subst (IsField count count both.x both.free1) first both.at_first in
      let at_y = subst (IsField count both.free1 both.y both.free2) second both.at_second in
      let fields = fields_are count n both.x both.y both.free1 both.free2 few_locals both.x both.y both.first both.second false false (register_field count n both.x both.y both.free1 both.free2 few_locals both.x v at_x) (register_field count n both.x both.y both.free1 both.free2 few_locals both.y w at_y) in
      by both.x both.y below (sym fields ∙ swapped)
    where
      by : (x y : ℕ) → (x < count) ⊎ (y < count) → (not (nat_lt x count) && (not (nat_lt y count) && nat_lt y x)) ≡ true → ⊥
      by x y (inl low) is = grind (arith, nat_tests)
      by x y (inr low) is = grind (arith, nat_tests)

-- where the law is asked, and the names of the locals are these, a condition in which none of them changes places can be written the other way round where it is
module _ (g : Fn) (active : List Active) (few_locals : length active ≤ 250) (names : Names) (law : g.law ≡ Some names) (own : List Text) (named : AreOwn own active) (n : ℕ) where
  operands_turn : (line : ℕ) (op : BinaryOp) (l r : Expression) {before behind : ℕ} → keeps_order own (binary_expression line op l r) ≡ true → is_comparison op ≡ true → (both : BothTested g active l r before behind) →
      is_swapped (length active) n (comparison_of op both.x both.y both.first both.second) ≡ not (is_turned op) → CanTurn both
  operands_turn line BinaryOp.Eq l r keeps is both swapped = cc
  operands_turn line BinaryOp.Ne l r keeps is both swapped = cc
  operands_turn line BinaryOp.Lt l r keeps is both swapped = λ locals. absurd (plain_stays few_locals both n locals swapped)
  operands_turn line BinaryOp.Le l r keeps is both swapped = λ locals. absurd (plain_stays few_locals both n locals swapped)
  operands_turn line BinaryOp.Gt l r keeps is both swapped = names_kept few_locals both names law own named keeps
  operands_turn line BinaryOp.Ge l r keeps is both swapped = names_kept few_locals both names law own named keeps
  operands_turn line op l r keeps is both swapped = cc

  pub ordered_turns : (before behind : ℕ) (e : Expression) → keeps_order own e ≡ true → KeepsNames g active n before behind e
  ordered_turns before behind (binary_expression line op l r) keeps = operands_turn line op l r keeps
  ordered_turns before behind e keeps = tt
