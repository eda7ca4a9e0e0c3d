-- In the forms of fewest levels, what is written of a test needs no more than the leaf has room for, and so it is with `~=` for `==`.
use Rattle.std.proofs.Common.{◌≡◌, ℕ, ◌+◌, max, ◌≤◌, Bool, true, false, List, length, Option, None, refl, sym, ap, subst, arith}
use Rattle.lua_num.specs.declared.arith.ArithOp.{ArithOp}
use Rattle.lua_tree.specs.Precedence.{is_right_associative, left_binds, level_of_op, right_binds}
use Rattle.lua_tree.specs.Syntax.{Expression, binary_expression, parenthesized, unary_expression}
use Rattle.lua_tree.specs.WellFormed.{depth_of_expression, formed_expression}
use Rattle.lua_tree.specs.declared.tree.BinaryOp.{BinaryOp}
use Rattle.lua_tree.specs.declared.tree.UnaryOp.{UnaryOp}
use Rattle.core_expr.specs.Places.{place}
use Rattle.core_expr.specs.Values.{Inner}
use Rattle.core_expr.specs.Writing.{is_bare}
use Rattle.recover_expr.specs.Situation.{Function}
use Rattle.recover_expr.specs.Testing.{TestedValue, negated_levels, tested_comparison}
use Rattle.scheme.specs.Expressions.{arith_op, fold, fold_binary, is_comparison, literal}
use Rattle.scheme.specs.Making.{Maker}
use Rattle.scheme.specs.declared.making.Active.{Active}
use Rattle.scheme_stands.proofs.Growth.{Final}
use Rattle.scheme_stands.specs.Words.{Fn}
use Rattle.same_flow.specs.Space.{space_of_expression}
use Rattle.same_flow.specs.Written.{NegatedInRoom}
use Rattle.reads_back.specs.Cores.{HasCore}
use Rattle.reads_back.proofs.ComparisonsSame.{comparison_low, tested_op}
use Rattle.reads_back.proofs.InRoom.{levels_in}
use Rattle.reads_back.proofs.Mentions.{IsAhead, mentions_in}
use Rattle.reads_back.proofs.Rewriting.{AreAgain, IsMadeBy, code, wording}
use Rattle.reads_back.proofs.Rooms.{unfolded_room}
use Rattle.reads_back.proofs.TestedAs.{BothTested, HasTest, HasTestBy, IsTested, IsTestedBy, IsValueTested, comparison_of, condition_word}
use Rattle.reads_back.proofs.Tests.{first_of_both, second_of_both}
use Rattle.reads_back.proofs.TestsSame.{plain_op, tested_expression}
use Rattle.reads_back.proofs.ValuesTested.{operand_is_final}
use Rattle.reads_back.proofs.WordsSame.{operand_low}
use Rattle.reads_back.proofs.WrittenSame.{rewritten_all}

-- no comparison is folded
pub no_arithmetic : (op : BinaryOp) → is_comparison op ≡ true → arith_op op ≡ None
no_arithmetic BinaryOp.Eq is = refl
no_arithmetic BinaryOp.Ne is = refl
no_arithmetic BinaryOp.Lt is = refl
no_arithmetic BinaryOp.Le is = refl
no_arithmetic BinaryOp.Gt is = refl
no_arithmetic BinaryOp.Ge is = refl
no_arithmetic op is = cc

compared_room : (line : ℕ) (op : BinaryOp) (l r : Expression) → is_comparison op ≡ true → space_of_expression (binary_expression line op l r) ≡ 1 + max (space_of_expression l) (space_of_expression r)
compared_room line op l r is = unfolded_room (binary_expression line op l r) (1 + max (space_of_expression l) (space_of_expression r)) (ap (λ (op : Option ArithOp). fold_binary op (fold l) (fold r)) (no_arithmetic op is))

-- what is no `==` is negated with more levels
no_equality : (negated line : ℕ) (op : BinaryOp) (l r : Expression) → is_comparison op ≡ false → NegatedInRoom negated (binary_expression line op l r)
no_equality negated line BinaryOp.Eq l r is = cc
no_equality negated line op l r is = tt

-- there is room for it
pub record TestInRoom (f : Function) (listed : List ℕ) (lefts : ℕ → List (Option Inner)) (before : ℕ) (e : Expression) (tested : TestedValue) (n : ℕ) : Type 0 where
  pub low : (condition_word (place f.of listed f.short) n (lefts before) tested).levels ≤ space_of_expression e
  pub negated : NegatedInRoom (negated_levels (condition_word (place f.of listed f.short) n (lefts before) tested).words (condition_word (place f.of listed f.short) n (lefts before) tested).levels) e

module _ (lefts : ℕ → List (Option Inner)) {f : Function} {g : Fn} {active : List Active} {listed : List ℕ} {z : Maker} (made : IsMadeBy f g active listed z) (again : AreAgain f g lefts) (sized : length listed ≡ length active) (before behind : ℕ) (truth : Bool) (label : ℕ) (m : Maker) (short : f.short ≡ true) where
  value_low : (e : Expression) (tested : TestedValue) → HasTest e → HasCore e → literal e ≡ None → depth_of_expression e ≤ 200 → IsValueTested g active e before behind tested → formed_expression e ≡ true → IsAhead g active before (mentions_in e) m → Final (length m.labels) ((code e).jump_if truth label m) z →
      (condition_word (place f.of listed f.short) (length m.constants) (lefts before) tested).levels ≤ space_of_expression e
  value_low e tested test has none few (v, core, is) formed ahead final =
      let rewritten = (rewritten_all lefts made again e has few).value before behind v core in
      let room = operand_low rewritten short formed m ahead (operand_is_final e v test has none core rewritten truth label m ahead final) in
      let low = levels_in (is_bare (place f.of listed f.short) (length m.constants) v) e (wording f listed z lefts before (length m.constants) v) room in
      subst (λ (tested : TestedValue). (condition_word (place f.of listed f.short) (length m.constants) (lefts before) tested).levels ≤ space_of_expression e) (sym is) low

  -- a comparison, with `~=` for `==`
  compared_in_room : (line : ℕ) (op : BinaryOp) (l r : Expression) → is_comparison op ≡ true → (both : BothTested g active l r before behind) →
      (condition_word (place f.of listed f.short) (length m.constants) (lefts before) (tested_comparison (comparison_of op both.x both.y both.first both.second))).levels ≤ space_of_expression (binary_expression line op l r) →
      TestInRoom f listed lefts before (binary_expression line op l r) (tested_comparison (comparison_of op both.x both.y both.first both.second)) (length m.constants)
  compared_in_room line BinaryOp.Eq l r is both low = record { low = low; negated = low }
  compared_in_room line op l r is both low = record { low = low; negated = tt }

  operator_low : (compares : Bool) (line : ℕ) (op : BinaryOp) (l r : Expression) (tested : TestedValue) → is_comparison op ≡ compares → HasTestBy compares l r (binary_expression line op l r) → depth_of_expression (binary_expression line op l r) ≤ 200 →
      IsTestedBy compares g active op l r (binary_expression line op l r) before behind tested → formed_expression (binary_expression line op l r) ≡ true → IsAhead g active before (mentions_in (binary_expression line op l r)) m →
      Final (length m.labels) ((code (binary_expression line (tested_op op) l r)).jump_if truth label m) z → TestInRoom f listed lefts before (binary_expression line op l r) tested (length m.constants)
  operator_low true line op l r tested is has few (both, same) formed ahead final =
      let level = level_of_op op in
      let associative = is_right_associative op in
      let parts = second_of_both (right_binds level associative r) _ (second_of_both (left_binds level associative l) _ formed) in
      let low = comparison_low lefts made again sized line op is l r has.0 has.1 (omega (arith, few)) (omega (arith, few)) both truth label m ahead final short (first_of_both _ _ parts) (second_of_both (formed_expression l) _ parts) in
      subst (λ (tested : TestedValue). TestInRoom f listed lefts before (binary_expression line op l r) tested (length m.constants)) (sym same) (compared_in_room line op l r is both (omega (arith, low, compared_room line op l r is)))
  operator_low false line op l r tested is has few value formed ahead final =
      let e = binary_expression line op l r in
      let final' = subst (λ op. Final (length m.labels) ((code (binary_expression line op l r)).jump_if truth label m) z) (plain_op lefts made again sized before behind tested truth label m op is) final in
      let low = value_low e tested (subst (λ (compares : Bool). HasTestBy compares l r e) (sym is) has) has.0 has.1 few value formed ahead final' in
      record { low = low; negated = no_equality (negated_levels (condition_word (place f.of listed f.short) (length m.constants) (lefts before) tested).words (condition_word (place f.of listed f.short) (length m.constants) (lefts before) tested).levels) line op l r is }

  -- every test, in whichever order its operands are written
  pub test_low : (e : Expression) (tested : TestedValue) → HasTest e → depth_of_expression e ≤ 200 → IsTested g active e before behind tested → formed_expression e ≡ true → IsAhead g active before (mentions_in e) m →
      Final (length m.labels) ((code (tested_expression e)).jump_if truth label m) z → TestInRoom f listed lefts before e tested (length m.constants)
  test_low (binary_expression line op l r) tested has few is formed ahead final = operator_low (is_comparison op) line op l r tested refl has few is formed ahead final
  test_low (unary_expression line UnaryOp.Not e) tested has few is formed ahead final = absurd has
  test_low (parenthesized line e) tested has few is formed ahead final = absurd has
  test_low e tested has few is formed ahead final = record { low = value_low e tested has has.0 has.1 few is formed ahead final; negated = tt }
