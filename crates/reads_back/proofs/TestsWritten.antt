-- The leaf of a condition can be written, whatever it is tested as, with few levels, and leaves the functions that are made behind it.
use Rattle.std.proofs.Common.{◌≡◌, ℕ, suc, ◌*◌, ◌+◌, ◌≤◌, ◌⊎◌, inl, inr, max, Bool, true, false, not, List, length, Option, refl, sym, ap, ◌∙◌, subst, arith}
use Rattle.std.proofs.lemmas.Bool.{and_from}
use Rattle.lua_tree.specs.Precedence.{is_right_associative, left_binds, level_of_op, right_binds}
use Rattle.lua_tree.specs.Syntax.{Expression, binary_expression, parenthesized, unary_expression}
use Rattle.lua_tree.specs.WellFormed.{depth_of_expression}
use Rattle.lua_tree.specs.declared.tree.BinaryOp.{BinaryOp}
use Rattle.lua_tree.specs.declared.tree.UnaryOp.{UnaryOp}
use Rattle.core_expr.specs.Counting.{left_by_operand, taken_behind_operand}
use Rattle.core_expr.specs.Places.{Place, place}
use Rattle.core_expr.specs.Targets.{Comparison, can_write_both, is_swapped, word_both}
use Rattle.core_expr.specs.Values.{Inner, OperandValue, constant_operand, local_value, value_operand}
use Rattle.core_expr.specs.Writing.{Wording, can_write_operand, is_power, on_left, on_right, word_operand}
use Rattle.recover_expr.specs.Situation.{Function}
use Rattle.recover_expr.specs.Testing.{TestedValue, tested_comparison}
use Rattle.scheme.specs.Expressions.{is_comparison}
use Rattle.scheme.specs.Making.{Maker}
use Rattle.scheme.specs.declared.making.Active.{Active}
use Rattle.scheme_stands.specs.Words.{Fn}
use Rattle.reads_back.specs.Cores.{HasCore}
use Rattle.reads_back.proofs.ComparisonsSame.{other_op, tested_op}
use Rattle.reads_back.proofs.OperandsSame.{operand_rewritten}
use Rattle.reads_back.proofs.OperatorsSame.{few_more}
use Rattle.reads_back.proofs.Rewriting.{AreAgain, IsMadeBy, RewrittenOperand}
use Rattle.reads_back.proofs.TestedAs.{BothTested, HasTest, HasTestBy, IsField, IsTested, IsTestedBy, IsValueTested, can_test, comparison_of, condition_word, is_turned, left_by_test}
use Rattle.reads_back.proofs.TestsMarks.{InOrder, OneIs, either_order, first_constant, local_among, one_is, second_constant}
use Rattle.reads_back.proofs.TestsRead.{CanTest}
use Rattle.reads_back.proofs.WordsSame.{levels_wrapped}
use Rattle.reads_back.proofs.WrittenSame.{rewritten_all}

-- an operand that makes no function: a constant, or a local
data MakesNone (o : OperandValue) : Type 0 where
  by_constant : (number : ℕ) → o ≡ constant_operand number → MakesNone o
  by_local : (r : ℕ) → o ≡ value_operand (local_value r) → MakesNone o

none_left : (o : OperandValue) → MakesNone o → (fs : List (Option Inner)) → left_by_operand o fs ≡ fs
none_left o (by_constant number is) fs = ap (λ o. left_by_operand o fs) is
none_left o (by_local r is) fs = ap (λ o. left_by_operand o fs) is

-- it can be written where it can be at all
none_can : (at : Place) (o : OperandValue) → MakesNone o → (fs others : List (Option Inner)) → can_write_operand at fs o ≡ can_write_operand at others o
none_can at o (by_constant number is) fs others = ap (can_write_operand at fs) is ∙ sym (ap (can_write_operand at others) is)
none_can at o (by_local r is) fs others = ap (can_write_operand at fs) is ∙ sym (ap (can_write_operand at others) is)

-- it is written the same
none_word : (at : Place) (o : OperandValue) → MakesNone o → (n : ℕ) (fs others : List (Option Inner)) → word_operand at n fs o ≡ word_operand at n others o
none_word at o (by_constant number is) n fs others = ap (word_operand at n fs) is ∙ sym (ap (word_operand at n others) is)
none_word at o (by_local r is) n fs others = ap (word_operand at n fs) is ∙ sym (ap (word_operand at n others) is)

-- the levels of a comparison
both_few : (at : Place) (n : ℕ) (fs : List (Option Inner)) (op : BinaryOp) (o1 o2 : OperandValue) (most : ℕ) → (word_operand at n fs o1).levels ≤ most → (word_operand at (taken_behind_operand o1 n) (left_by_operand o1 fs) o2).levels ≤ most → (word_both at n fs op o1 o2).levels ≤ suc (suc most)
both_few at n fs op o1 o2 most first second =
    let w = word_operand at n fs o1 in
    let u = word_operand at (taken_behind_operand o1 n) (left_by_operand o1 fs) o2 in
    let one = levels_wrapped (left_binds (level_of_op op) (is_right_associative op) w.words) w in
    let other = levels_wrapped (right_binds (level_of_op op) (is_power op) u.words) u in
    omega (arith, first, second, one, other, few_more (max (on_left op w).levels (on_right op u).levels))

-- of two operands that are written the other way round one makes no function
none_of : {g : Fn} {active : List Active} {l r : Expression} {before behind : ℕ} (both : BothTested g active l r before behind) → OneIs (length active) both.x both.y both.first both.second → MakesNone both.first ⊎ MakesNone both.second
none_of both (first_constant number is) = inl (by_constant number is)
none_of both (second_constant number is) = inr (by_constant number is)
none_of {active = active} both (local_among (v, w, first, second, inl low)) = inl (by (subst (IsField (length active) (length active) both.x both.free1) first both.at_first))
  where
    by : IsField (length active) (length active) both.x both.free1 (value_operand v) → MakesNone both.first
    by (inl at) = by_local both.x (first ∙ ap value_operand at.1)
    by (inr at) = let is = at.0 in absurd (omega (arith, is, low))
none_of {active = active} both (local_among (v, w, first, second, inr low)) = inr (by (subst (IsField (length active) both.free1 both.y both.free2) second both.at_second) both.at_first)
  where
    above : (o : OperandValue) → IsField (length active) (length active) both.x both.free1 o → length active ≤ both.free1
    above (constant_operand number) at = omega (arith, at.1)
    above (value_operand u) (inl at) = omega (arith, at.2)
    above (value_operand u) (inr at) = omega (arith, at.2)

    by : IsField (length active) both.free1 both.y both.free2 (value_operand w) → IsField (length active) (length active) both.x both.free1 both.first → MakesNone both.second
    by (inl at) field = by_local both.y (second ∙ ap value_operand at.1)
    by (inr at) field = let is = at.0 in let up = above both.first field in absurd (omega (arith, is, low, up))

-- what is known of a leaf where so many constants were taken
pub record WritesTest (f : Function) (listed : List ℕ) (lefts : ℕ → List (Option Inner)) (before behind : ℕ) (e : Expression) (tested : TestedValue) (n : ℕ) : Type 0 where
  pub can : can_test (place f.of listed f.short) n (lefts before) tested ≡ true
  pub leaves : left_by_test (place f.of listed f.short) n (lefts before) tested ≡ lefts behind
  pub few : (condition_word (place f.of listed f.short) n (lefts before) tested).levels ≤ 3 * depth_of_expression e + 202

module _ (lefts : ℕ → List (Option Inner)) {f : Function} {g : Fn} {active : List Active} {listed : List ℕ} {z : Maker} (made : IsMadeBy f g active listed z) (again : AreAgain f g lefts) (sized : length listed ≡ length active) (n before behind : ℕ) where
  abbrev at_place : Place
  at_place = place f.of listed f.short

  value_writes : (e : Expression) → HasCore e → depth_of_expression e ≤ 200 → (tested : TestedValue) → IsValueTested g active e before behind tested → WritesTest f listed lefts before behind e tested n
  value_writes e has few tested (v, core, is) =
      let rewritten = (rewritten_all lefts made again e has few).value before behind v core in
      subst (λ (tested : TestedValue). WritesTest f listed lefts before behind e tested n) (sym is) (record { can = rewritten.can; leaves = rewritten.leaves; few = rewritten.few n })

  module _ (line : ℕ) (op : BinaryOp) (is : is_comparison op ≡ true) (l r : Expression) (has_l : HasCore l) (has_r : HasCore r) (few_l : depth_of_expression l ≤ 200) (few_r : depth_of_expression r ≤ 200) (both : BothTested g active l r before behind) where
    first : RewrittenOperand f g active listed z lefts before both.mid l both.first
    first = operand_rewritten lefts made l before both.mid both.first has_l both.is_first (λ v core. (rewritten_all lefts made again l has_l few_l).value before both.mid v core)

    second : RewrittenOperand f g active listed z lefts both.mid behind r both.second
    second = operand_rewritten lefts made r both.mid behind both.second has_r both.is_second (λ v core. (rewritten_all lefts made again r has_r few_r).value both.mid behind v core)

    abbrev c : Comparison
    c = comparison_of op both.x both.y both.first both.second

    abbrev most : ℕ
    most = 3 * max (depth_of_expression l) (depth_of_expression r) + 203

    record WritesBoth (o1 o2 : OperandValue) : Type 0 where
      can : can_write_both at_place (lefts before) o1 o2 ≡ true
      leaves : left_by_operand o2 (left_by_operand o1 (lefts before)) ≡ lefts behind
      one : (word_operand at_place n (lefts before) o1).levels ≤ most
      other : (word_operand at_place (taken_behind_operand o1 n) (left_by_operand o1 (lefts before)) o2).levels ≤ most

    in_their_order : WritesBoth both.first both.second
    in_their_order = record {
      can = and_from _ _ first.can (ap (λ fs. can_write_operand at_place fs both.second) first.leaves ∙ second.can);
      leaves = ap (left_by_operand both.second) first.leaves ∙ second.leaves;
      one = let few = first.few n in omega (arith, few);
      other =
          let few = second.few (taken_behind_operand both.first n) in
          let same = ap (λ fs. (word_operand at_place (taken_behind_operand both.first n) fs both.second).levels) first.leaves in
          omega (arith, few, same);
    }

    other_way : MakesNone both.first ⊎ MakesNone both.second → WritesBoth both.second both.first
    other_way (inl none) =
        let stays : lefts before ≡ lefts both.mid = sym (none_left both.first none (lefts before)) ∙ first.leaves in
        record {
          can = and_from _ _ (ap (λ fs. can_write_operand at_place fs both.second) stays ∙ second.can) (none_can at_place both.first none (left_by_operand both.second (lefts before)) (lefts before) ∙ first.can);
          leaves = none_left both.first none (left_by_operand both.second (lefts before)) ∙ ap (left_by_operand both.second) stays ∙ second.leaves;
          one =
              let few = second.few n in
              let same = ap (λ fs. (word_operand at_place n fs both.second).levels) stays in
              omega (arith, few, same);
          other =
              let few = first.few (taken_behind_operand both.second n) in
              let same = ap (λ (w : Wording). w.levels) (none_word at_place both.first none (taken_behind_operand both.second n) (left_by_operand both.second (lefts before)) (lefts before)) in
              omega (arith, few, same);
        }
    other_way (inr none) =
        let stays : lefts both.mid ≡ lefts behind = sym (none_left both.second none (lefts both.mid)) ∙ second.leaves in
        let passes : left_by_operand both.second (lefts before) ≡ lefts before = none_left both.second none (lefts before) in
        record {
          can = and_from _ _ (none_can at_place both.second none (lefts before) (lefts both.mid) ∙ second.can) (ap (λ fs. can_write_operand at_place fs both.first) passes ∙ first.can);
          leaves = ap (left_by_operand both.first) passes ∙ first.leaves ∙ stays;
          one =
              let few = second.few n in
              let same = ap (λ (w : Wording). w.levels) (none_word at_place both.second none n (lefts before) (lefts both.mid)) in
              omega (arith, few, same);
          other =
              let few = first.few (taken_behind_operand both.second n) in
              let same = ap (λ fs. (word_operand at_place (taken_behind_operand both.second n) fs both.first).levels) passes in
              omega (arith, few, same);
        }

    by_order : (op' : BinaryOp) (o1 o2 : OperandValue) → InOrder at_place n (lefts before) both.x both.y both.first both.second op' o1 o2 c → WritesBoth o1 o2 → WritesTest f listed lefts before behind (binary_expression line op l r) (tested_comparison c) n
    by_order op' o1 o2 order writes =
        let few = both_few at_place n (lefts before) op' o1 o2 most writes.one writes.other in
        record { can = order.can_is ∙ writes.can; leaves = order.left_is ∙ writes.leaves; few = omega (arith, few, ap (λ (w : Wording). w.levels) order.word_is) }

    comparison_writes : WritesTest f listed lefts before behind (binary_expression line op l r) (tested_comparison c) n
    comparison_writes = by (either_order at_place n (lefts before) both.x both.y both.first both.second op is)
      where
        by : InOrder at_place n (lefts before) both.x both.y both.first both.second (tested_op op) both.first both.second c
            ⊎ (InOrder at_place n (lefts before) both.x both.y both.first both.second (other_op op) both.second both.first c × (is_swapped (length listed) n c ≡ not (is_turned op))) →
            WritesTest f listed lefts before behind (binary_expression line op l r) (tested_comparison c) n
        by (inl order) = by_order (tested_op op) both.first both.second order in_their_order
        by (inr (order, swapped)) = by_order (other_op op) both.second both.first order (other_way (none_of both (one_is both made.all.few n op is (ap (λ count. is_swapped count n c) (sym sized) ∙ swapped))))

  operator_writes : (compares : Bool) (line : ℕ) (op : BinaryOp) (l r : Expression) → is_comparison op ≡ compares → HasTestBy compares l r (binary_expression line op l r) → depth_of_expression (binary_expression line op l r) ≤ 200 → (tested : TestedValue) → IsTestedBy compares g active op l r (binary_expression line op l r) before behind tested →
      WritesTest f listed lefts before behind (binary_expression line op l r) tested n
  operator_writes true line op l r is has few tested (both, same) =
      subst (λ (tested : TestedValue). WritesTest f listed lefts before behind (binary_expression line op l r) tested n) (sym same) (comparison_writes line op is l r has.0 has.1 (omega (arith, few)) (omega (arith, few)) both)
  operator_writes false line op l r is has few tested value = value_writes (binary_expression line op l r) has.0 few tested value

  pub test_writes : (e : Expression) → HasTest e → depth_of_expression e ≤ 200 → (tested : TestedValue) → IsTested g active e before behind tested → WritesTest f listed lefts before behind e tested n
  test_writes (binary_expression line op l r) has few tested is = operator_writes (is_comparison op) line op l r refl has few tested is
  test_writes (unary_expression line UnaryOp.Not e) has few tested is = absurd has
  test_writes (parenthesized line e) has few tested is = absurd has
  test_writes e has few tested is = value_writes e has.0 few tested is

-- whatever it is tested as, it can be written
pub tests_can : (lefts : ℕ → List (Option Inner)) {f : Function} {g : Fn} {active : List Active} {listed : List ℕ} {z : Maker} → IsMadeBy f g active listed z → AreAgain f g lefts → length listed ≡ length active → (e : Expression) → HasTest e → depth_of_expression e ≤ 200 → CanTest f (IsTested g active e) listed lefts
tests_can lefts made again sized e has few = record { can = λ n before behind tested is. (test_writes lefts made again sized n before behind e has few tested is).can }
