-- What is written of the leaf of a condition mentions what the leaf does, where not two operands in registers are written the other way round, or one of them is a number or a string; so it can be written, and leaves the same functions.
use Rattle.std.proofs.Common.{arith, ◌≡◌, ℕ, ◌≤◌, ◌⊎◌, inl, inr, Bool, true, false, not, List, length, Option, Some, None, refl, sym, ap, ◌∙◌, subst}
use Rattle.std.specs.Prelude.{◌||◌, if◌then◌else◌}
use Rattle.lua_tree.specs.OneLine.{one_line_expression}
use Rattle.lua_tree.specs.Outline.{Part, both, expression_part, nothing}
use Rattle.lua_tree.specs.WellFormed.{depth_of_expression}
use Rattle.lua_tree.specs.Syntax.{Expression, binary_expression, parenthesized, unary_expression}
use Rattle.lua_tree.specs.declared.tree.BinaryOp.{BinaryOp}
use Rattle.lua_tree.specs.declared.tree.UnaryOp.{UnaryOp}
use Rattle.proto.specs.declared.parts.Constant.{Constant}
use Rattle.core_expr.specs.Counting.{left_by_operand, taken_behind_operand}
use Rattle.core_expr.specs.Places.{Place, place}
use Rattle.core_expr.specs.Targets.{Comparison, can_write_both, can_write_comparison, is_swapped, left_by_comparison, mirrored, word_both, word_comparison}
use Rattle.core_expr.specs.Values.{Inner, OperandValue, Value, constant_operand, value_operand}
use Rattle.core_expr.specs.Writing.{Wording, word_operand}
use Rattle.recover_expr.specs.Situation.{Function}
use Rattle.recover_expr.specs.Testing.{TestedValue, tested_comparison}
use Rattle.scheme.specs.Expressions.{is_comparison, literal}
use Rattle.scheme.specs.declared.making.Active.{Active}
use Rattle.scheme_order.specs.Turned.{is_constant_literal}
use Rattle.scheme_stands.specs.Words.{Fn}
use Rattle.reads_back.specs.Cores.{HasCore}
use Rattle.reads_back.proofs.ComparisonOrder.{HasLocal, IsNextNumber, early_second, has_local, late_first}
use Rattle.reads_back.proofs.ComparisonsSame.{CanTurn, KeepsNames, Order, order_of, ordered, other_op, tested_op, turned}
use Rattle.reads_back.proofs.FunctionsLeft.{each_by_operand}
use Rattle.reads_back.proofs.Marks.{ArePartsLeft, IsPartLeft, SamePart, both_same, exact_part, nothing_behind, operand_part, part_back, part_of_operand, part_then, same_part, word_part, unless_part}
use Rattle.reads_back.proofs.MarksSame.{ArePartsMade, literal_part, marks_of, of_operand}
use Rattle.reads_back.proofs.NameReads.{AreListed}
use Rattle.reads_back.proofs.TestedAs.{BothTested, HasTest, HasTestBy, IsTested, IsTestedBy, IsValueTested, can_test, comparison_of, condition_word, is_turned}
use Rattle.reads_back.proofs.Tests.{first_of_both, not_so, second_of_both}
use Rattle.reads_back.proofs.WordsRead.{IsFunction}

-- ---- in one order or the other

module _ (at : Place) (n : ℕ) (fs : List (Option Inner)) (x y : ℕ) (o1 o2 : OperandValue) where
  -- what is written, whether it can be, and what it leaves
  pub record InOrder (op : BinaryOp) (first second : OperandValue) (c : Comparison) : Type 0 where
    pub word_is : word_comparison at n fs c ≡ word_both at n fs op first second
    pub can_is : can_write_comparison at n fs c ≡ can_write_both at fs first second
    pub left_is : left_by_comparison at n fs c ≡ left_by_operand second (left_by_operand first fs)

  abbrev swaps : BinaryOp → Bool
  swaps op = is_swapped (length at.entries) n (comparison_of op x y o1 o2)

  by_test : (c : Comparison) (is : Bool) → is_swapped (length at.entries) n c ≡ is →
      (word_comparison at n fs c ≡ (if is then word_both at n fs (mirrored c.op) c.right c.left else word_both at n fs c.op c.left c.right))
      × (can_write_comparison at n fs c ≡ (if is then can_write_both at fs c.right c.left else can_write_both at fs c.left c.right))
      × (left_by_comparison at n fs c ≡ (if is then left_by_operand c.left (left_by_operand c.right fs) else left_by_operand c.right (left_by_operand c.left fs)))
  by_test c is same = (
    ap (λ is. if is then word_both at n fs (mirrored c.op) c.right c.left else word_both at n fs c.op c.left c.right) same,
    ap (λ is. if is then can_write_both at fs c.right c.left else can_write_both at fs c.left c.right) same,
    ap (λ is. if is then left_by_operand c.left (left_by_operand c.right fs) else left_by_operand c.right (left_by_operand c.left fs)) same,
  )

  plain_either : (c : Comparison) (is : Bool) → c.left ≡ o1 → c.right ≡ o2 → is_swapped (length at.entries) n c ≡ is → InOrder c.op o1 o2 c ⊎ (InOrder (mirrored c.op) o2 o1 c × (is ≡ true))
  plain_either c true left right same = let all = by_test c true same in
      inr (subst (λ o2. InOrder (mirrored c.op) o2 o1 c) right (subst (λ o1. InOrder (mirrored c.op) c.right o1 c) left (record { word_is = all.0; can_is = all.1; left_is = all.2 })), refl)
  plain_either c false left right same = let all = by_test c false same in
      inl (subst (λ o2. InOrder c.op o1 o2 c) right (subst (λ o1. InOrder c.op o1 c.right c) left (record { word_is = all.0; can_is = all.1; left_is = all.2 })))

  turned_either : (c : Comparison) (is : Bool) → c.left ≡ o2 → c.right ≡ o1 → is_swapped (length at.entries) n c ≡ is → InOrder (mirrored c.op) o1 o2 c ⊎ (InOrder c.op o2 o1 c × (is ≡ false))
  turned_either c true left right same = let all = by_test c true same in
      inl (subst (λ o1. InOrder (mirrored c.op) o1 o2 c) right (subst (λ o2. InOrder (mirrored c.op) c.right o2 c) left (record { word_is = all.0; can_is = all.1; left_is = all.2 })))
  turned_either c false left right same = let all = by_test c false same in
      inr (subst (λ o1. InOrder c.op o2 o1 c) right (subst (λ o2. InOrder c.op o2 c.right c) left (record { word_is = all.0; can_is = all.1; left_is = all.2 })), refl)

  -- its own order, or the other
  pub either_order : (op : BinaryOp) → is_comparison op ≡ true → InOrder (tested_op op) o1 o2 (comparison_of op x y o1 o2) ⊎ (InOrder (other_op op) o2 o1 (comparison_of op x y o1 o2) × (swaps op ≡ not (is_turned op)))
  either_order BinaryOp.Eq is = inl (record { word_is = refl; can_is = refl; left_is = refl })
  either_order BinaryOp.Ne is = inl (record { word_is = refl; can_is = refl; left_is = refl })
  either_order BinaryOp.Lt is = plain_either (comparison_of BinaryOp.Lt x y o1 o2) (swaps BinaryOp.Lt) refl refl refl
  either_order BinaryOp.Le is = plain_either (comparison_of BinaryOp.Le x y o1 o2) (swaps BinaryOp.Le) refl refl refl
  either_order BinaryOp.Gt is = turned_either (comparison_of BinaryOp.Gt x y o1 o2) (swaps BinaryOp.Gt) refl refl refl
  either_order BinaryOp.Ge is = turned_either (comparison_of BinaryOp.Ge x y o1 o2) (swaps BinaryOp.Ge) refl refl refl
  either_order op is = cc

-- ---- which operand is a constant, where the other order is taken

-- one of them is a constant, or they are in registers of which one is a local's
pub data OneIs (count x y : ℕ) (o1 o2 : OperandValue) : Type 0 where
  first_constant : (number : ℕ) → o1 ≡ constant_operand number → OneIs count x y o1 o2
  second_constant : (number : ℕ) → o2 ≡ constant_operand number → OneIs count x y o1 o2
  local_among : HasLocal count x y o1 o2 → OneIs count x y o1 o2

opposite : (a b : Bool) → a ≡ b → a ≡ not b → ⊥
opposite true true same other = cc
opposite true false same other = cc
opposite false true same other = cc
opposite false false same other = cc

module _ {g : Fn} {active : List Active} {l r : Expression} {before behind : ℕ} (both_are : BothTested g active l r before behind) (few : length active ≤ 250) (n : ℕ) (op : BinaryOp) (is : is_comparison op ≡ true) where
  pub one_is : is_swapped (length active) n (comparison_of op both_are.x both_are.y both_are.first both_are.second) ≡ not (is_turned op) → OneIs (length active) both_are.x both_are.y both_are.first both_are.second
  one_is swapped = by both_are.first both_are.second refl refl
    where
      of_order : IsNextNumber n both_are.first → ((number : ℕ) → both_are.first ≡ constant_operand number → ⊥) → Order (length active) n op both_are.x both_are.y both_are.first both_are.second → OneIs (length active) both_are.x both_are.y both_are.first both_are.second
      of_order next other (ordered same) = absurd (opposite _ _ same swapped)
      of_order next other (turned mirror same (late_first late)) = absurd (other late.0 late.1)
      of_order next other (turned mirror same (early_second early)) = second_constant early.0 early.1
      of_order next other (turned mirror same (has_local locals)) = local_among locals

      by : (o1 o2 : OperandValue) → both_are.first ≡ o1 → both_are.second ≡ o2 → OneIs (length active) both_are.x both_are.y both_are.first both_are.second
      by (constant_operand number) o2 first second = first_constant number first
      by (value_operand v) (constant_operand number) first second = second_constant number second
      by (value_operand v) (value_operand w) first second =
          let next : IsNextNumber n both_are.first = subst (IsNextNumber n) (sym first) tt in
          of_order next (λ number same. value_no_constant v number (sym first ∙ same)) (order_of both_are n few next op is)
        where
          value_no_constant : (v : Value) (number : ℕ) → value_operand v ≡ constant_operand number → ⊥
          value_no_constant v number same = cc

-- ---- what is mentioned

-- nothing has no place
nothing_turns : (a b : Part) → SamePart a nothing → SamePart (both b a) (both a b)
nothing_turns a b none = part_then (both_same (same_part b) none) (part_then (nothing_behind b) (part_back (both_same none (same_part b))))

module _ (at : Place) (of : ℕ → Part) where
  both_part : (op : BinaryOp) (n : ℕ) (fs : List (Option Inner)) (o1 o2 : OperandValue) → ArePartsLeft of fs → can_write_both at fs o1 o2 ≡ true → SamePart (expression_part (word_both at n fs op o1 o2).words) (both (part_of_operand at of o1) (part_of_operand at of o2))
  both_part op n fs o1 o2 parts_left can =
      both_same (part_then (unless_part _ (word_operand at n fs o1)) (operand_part at of o1 n fs parts_left (first_of_both _ _ can)))
      (part_then (unless_part _ (word_operand at (taken_behind_operand o1 n) (left_by_operand o1 fs) o2)) (operand_part at of o2 (taken_behind_operand o1 n) (left_by_operand o1 fs) (each_by_operand (IsPartLeft of) o1 fs parts_left) (second_of_both _ _ can)))

  constant_nothing : (number : ℕ) (o : OperandValue) → o ≡ constant_operand number → SamePart (part_of_operand at of o) nothing
  constant_nothing number o is = exact_part (λ here. ap (λ o. part_of_operand at of o here) is)

module _ {f : Function} {g : Fn} {active : List Active} {listed : List ℕ} (is_function : IsFunction f g) (listed_names : AreListed f g active listed) (sized : length listed ≡ length active) (of : ℕ → Part) (parts_made : ArePartsMade g active of) where
  abbrev at_place : Place
  at_place = place f.of listed f.short

  module _ (n before behind : ℕ) (tested : TestedValue) (left : List (Option Inner)) (parts_left : ArePartsLeft of left) (can : can_test at_place n left tested ≡ true) where
    value_marks : (e : Expression) → HasCore e → depth_of_expression e ≤ 200 → IsValueTested g active e before behind tested → SamePart (expression_part (condition_word at_place n left tested).words) (expression_part (one_line_expression e))
    value_marks e has shallow (v, core, is) =
        part_then (exact_part (λ here. ap (λ (tested : TestedValue). expression_part (condition_word at_place n left tested).words here) is))
        (part_then (word_part at_place of v n left parts_left (subst (λ (tested : TestedValue). can_test at_place n left tested ≡ true) is can)) ((marks_of is_function listed_names of parts_made e has shallow).one before behind v core))

    both_marks : (op : BinaryOp) (l r : Expression) → is_comparison op ≡ true → HasCore l → HasCore r → depth_of_expression l ≤ 200 → depth_of_expression r ≤ 200 → (both_are : BothTested g active l r before behind) → tested ≡ tested_comparison (comparison_of op both_are.x both_are.y both_are.first both_are.second) →
        (is_swapped (length active) n (comparison_of op both_are.x both_are.y both_are.first both_are.second) ≡ not (is_turned op) → CanTurn both_are) →
        SamePart (expression_part (condition_word at_place n left tested).words) (both (expression_part (one_line_expression l)) (expression_part (one_line_expression r)))
    both_marks op l r is has_l has_r shallow_l shallow_r both_are same names = part_then (exact_part (λ here. ap (λ (tested : TestedValue). expression_part (condition_word at_place n left tested).words here) same)) (by (either_order at_place n left both_are.x both_are.y both_are.first both_are.second op is))
      where
        c : Comparison
        c = comparison_of op both_are.x both_are.y both_are.first both_are.second

        writes : can_write_comparison at_place n left c ≡ true
        writes = subst (λ (tested : TestedValue). can_test at_place n left tested ≡ true) same can

        first : SamePart (part_of_operand at_place of both_are.first) (expression_part (one_line_expression l))
        first = of_operand is_function listed_names of parts_made l before both_are.mid both_are.first (literal l) refl (marks_of is_function listed_names of parts_made l has_l shallow_l).one both_are.is_first

        second : SamePart (part_of_operand at_place of both_are.second) (expression_part (one_line_expression r))
        second = of_operand is_function listed_names of parts_made r both_are.mid behind both_are.second (literal r) refl (marks_of is_function listed_names of parts_made r has_r shallow_r).one both_are.is_second

        silent : (e : Expression) (o : OperandValue) → SamePart (part_of_operand at_place of o) (expression_part (one_line_expression e)) → (k : Option Constant) → literal e ≡ k → is_constant_literal k ≡ true → SamePart (part_of_operand at_place of o) nothing
        silent e o same (Some k) is constant = part_then same (literal_part e k is)
        silent e o same None is constant = not_so constant

        one_silent : (a b : Bool) → is_constant_literal (literal l) ≡ a → is_constant_literal (literal r) ≡ b → (a || b) ≡ true → SamePart (both (part_of_operand at_place of both_are.second) (part_of_operand at_place of both_are.first)) (both (part_of_operand at_place of both_are.first) (part_of_operand at_place of both_are.second))
        one_silent true b is_a is_b one = nothing_turns _ _ (silent l both_are.first first (literal l) refl is_a)
        one_silent false true is_a is_b one = part_back (nothing_turns _ _ (silent r both_are.second second (literal r) refl is_b))
        one_silent false false is_a is_b one = cc

        turn : OneIs (length active) both_are.x both_are.y both_are.first both_are.second → CanTurn both_are →
            SamePart (both (part_of_operand at_place of both_are.second) (part_of_operand at_place of both_are.first)) (both (part_of_operand at_place of both_are.first) (part_of_operand at_place of both_are.second))
        turn (first_constant number constant) names = nothing_turns _ _ (constant_nothing at_place of number both_are.first constant)
        turn (second_constant number constant) names = part_back (nothing_turns _ _ (constant_nothing at_place of number both_are.second constant))
        turn (local_among locals) names = one_silent (is_constant_literal (literal l)) (is_constant_literal (literal r)) refl refl (names locals)

        by : InOrder at_place n left both_are.x both_are.y both_are.first both_are.second (tested_op op) both_are.first both_are.second c
            ⊎ (InOrder at_place n left both_are.x both_are.y both_are.first both_are.second (other_op op) both_are.second both_are.first c × (is_swapped (length listed) n c ≡ not (is_turned op))) →
            SamePart (expression_part (word_comparison at_place n left c).words) (both (expression_part (one_line_expression l)) (expression_part (one_line_expression r)))
        by (inl order) =
            part_then (exact_part (λ here. ap (λ (w : Wording). expression_part w.words here) order.word_is))
            (part_then (both_part at_place of (tested_op op) n left both_are.first both_are.second parts_left (sym order.can_is ∙ writes)) (both_same first second))
        by (inr (order, swapped)) =
            let swapped' = ap (λ count. is_swapped count n c) (sym sized) ∙ swapped in
            part_then (exact_part (λ here. ap (λ (w : Wording). expression_part w.words here) order.word_is))
            (part_then (both_part at_place of (other_op op) n left both_are.second both_are.first parts_left (sym order.can_is ∙ writes))
            (part_then (turn (one_is both_are listed_names.few n op is swapped') (names swapped')) (both_same first second)))

    operator_marks : (compares : Bool) (line : ℕ) (op : BinaryOp) (l r : Expression) → is_comparison op ≡ compares → HasTestBy compares l r (binary_expression line op l r) → depth_of_expression (binary_expression line op l r) ≤ 200 → IsTestedBy compares g active op l r (binary_expression line op l r) before behind tested → KeepsNames g active n before behind (binary_expression line op l r) →
        SamePart (expression_part (condition_word at_place n left tested).words) (expression_part (one_line_expression (binary_expression line op l r)))
    operator_marks true line op l r is has shallow (both_are, same) names = both_marks op l r is has.0 has.1 (omega (arith, shallow)) (omega (arith, shallow)) both_are same (names is both_are)
    operator_marks false line op l r is has shallow value names = value_marks (binary_expression line op l r) has.0 shallow value

    pub test_marks : (e : Expression) → HasTest e → depth_of_expression e ≤ 200 → IsTested g active e before behind tested → KeepsNames g active n before behind e → SamePart (expression_part (condition_word at_place n left tested).words) (expression_part (one_line_expression e))
    test_marks (binary_expression line op l r) has shallow is names = operator_marks (is_comparison op) line op l r refl has shallow is names
    test_marks (unary_expression line UnaryOp.Not e) has shallow is names = absurd has
    test_marks (parenthesized line e) has shallow is names = absurd has
    test_marks e has shallow is names = value_marks e has.0 shallow is
