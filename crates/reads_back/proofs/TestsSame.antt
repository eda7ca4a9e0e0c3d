-- What is written of the leaf of a condition makes the same test as the leaf, with `==` for `~=`, and takes the constants that the reader counts.
use Rattle.std.proofs.Common.{◌≡◌, ℕ, ◌≤◌, Bool, true, false, List, length, Option, None, refl, sym, ap, ◌∙◌, subst, arith}
use Rattle.lua_tree.specs.Syntax.{Expression, binary_expression, parenthesized, unary_expression}
use Rattle.lua_tree.specs.WellFormed.{depth_of_expression}
use Rattle.lua_tree.specs.declared.tree.BinaryOp.{BinaryOp}
use Rattle.lua_tree.specs.declared.tree.UnaryOp.{UnaryOp}
use Rattle.core_expr.specs.Places.{place}
use Rattle.core_expr.specs.Values.{Inner}
use Rattle.recover_expr.specs.Situation.{Function}
use Rattle.recover_expr.specs.Testing.{TestedValue}
use Rattle.scheme.specs.Expressions.{is_comparison, literal}
use Rattle.scheme.specs.Making.{Maker}
use Rattle.scheme.specs.Scheme.{coded}
use Rattle.scheme.specs.declared.making.Active.{Active}
use Rattle.scheme_stands.proofs.Growth.{Final}
use Rattle.scheme_stands.specs.Words.{Fn}
use Rattle.reads_back.specs.Cores.{HasCore}
use Rattle.reads_back.proofs.ComparisonsSame.{KeepsNames, comparison_same, comparison_taken, tested_op}
use Rattle.reads_back.proofs.Mentions.{IsAhead, mentions_in}
use Rattle.reads_back.proofs.Rewriting.{AreAgain, IsMadeBy, code}
use Rattle.reads_back.proofs.TestedAs.{HasTest, HasTestBy, IsTested, IsTestedBy, IsValueTested, condition_word, taken_behind_test}
use Rattle.reads_back.proofs.ValuesTested.{value_test_same, value_test_taken}
use Rattle.reads_back.proofs.WrittenSame.{rewritten_all}

-- the leaf as it is tested
abbrev pub tested_expression : Expression → Expression
tested_expression (binary_expression line op l r) = binary_expression line (tested_op op) l r
tested_expression e = e

module _ (lefts : ℕ → List (Option Inner)) {f : Function} {g : Fn} {active : List Active} {listed : List ℕ} {z : Maker} (made : IsMadeBy f g active listed z) (again : AreAgain f g lefts) (sized : length listed ≡ length active) (before behind : ℕ) (tested : TestedValue) (truth : Bool) (label : ℕ) (m : Maker) where
  -- one test is that of an expression
  abbrev SameTest : Expression → Type 0
  SameTest e = (coded (condition_word (place f.of listed f.short) (length m.constants) (lefts before) tested).words).jump_if truth label m ≡ (code (tested_expression e)).jump_if truth label m

  value_same : (e : Expression) → HasTest e → HasCore e → literal e ≡ None → depth_of_expression e ≤ 200 → IsValueTested g active e before behind tested → IsAhead g active before (mentions_in e) m → Final (length m.labels) ((code e).jump_if truth label m) z →
      (coded (condition_word (place f.of listed f.short) (length m.constants) (lefts before) tested).words).jump_if truth label m ≡ (code e).jump_if truth label m
  value_same e test has none few (v, core, is) ahead final =
      let rewritten = (rewritten_all lefts made again e has few).value before behind v core in
      ap (λ (tested : TestedValue). (coded (condition_word (place f.of listed f.short) (length m.constants) (lefts before) tested).words).jump_if truth label m) is ∙ value_test_same e v test has none core rewritten truth label m ahead final

  value_taken : (e : Expression) → HasTest e → HasCore e → literal e ≡ None → depth_of_expression e ≤ 200 → IsValueTested g active e before behind tested → IsAhead g active before (mentions_in e) m → Final (length m.labels) ((code e).jump_if truth label m) z →
      length ((code e).jump_if truth label m).constants ≡ taken_behind_test tested (length m.constants)
  value_taken e test has none few (v, core, is) ahead final =
      let rewritten = (rewritten_all lefts made again e has few).value before behind v core in
      value_test_taken e v test has none core rewritten truth label m ahead final ∙ ap (λ (tested : TestedValue). taken_behind_test tested (length m.constants)) (sym is)

  pub plain_op : (op : BinaryOp) → is_comparison op ≡ false → tested_op op ≡ op
  plain_op BinaryOp.Ne is = cc
  plain_op op is = refl

  operator_is : (compares : Bool) (line : ℕ) (op : BinaryOp) (l r : Expression) → is_comparison op ≡ compares → HasTestBy compares l r (binary_expression line op l r) → depth_of_expression (binary_expression line op l r) ≤ 200 → IsTestedBy compares g active op l r (binary_expression line op l r) before behind tested →
      KeepsNames g active (length m.constants) before behind (binary_expression line op l r) → IsAhead g active before (mentions_in (binary_expression line op l r)) m → Final (length m.labels) ((code (binary_expression line (tested_op op) l r)).jump_if truth label m) z →
      SameTest (binary_expression line op l r)
  operator_is true line op l r is has few (both, same) can ahead final =
      ap (λ (tested : TestedValue). (coded (condition_word (place f.of listed f.short) (length m.constants) (lefts before) tested).words).jump_if truth label m) same
      ∙ comparison_same lefts made again sized line op is l r has.0 has.1 (omega (arith, few)) (omega (arith, few)) both truth label m ahead final (can is both)
  operator_is false line op l r is has few value can ahead final =
      let e = binary_expression line op l r in
      let same_op = plain_op op is in
      let final' = subst (λ op. Final (length m.labels) ((code (binary_expression line op l r)).jump_if truth label m) z) same_op final in
      let found = value_same e (subst (λ (compares : Bool). HasTestBy compares l r e) (sym is) has) has.0 has.1 few value ahead final' in
      found ∙ ap (λ op. (code (binary_expression line op l r)).jump_if truth label m) (sym same_op)

  pub test_same : (e : Expression) → HasTest e → depth_of_expression e ≤ 200 → IsTested g active e before behind tested → KeepsNames g active (length m.constants) before behind e → IsAhead g active before (mentions_in e) m → Final (length m.labels) ((code (tested_expression e)).jump_if truth label m) z →
      SameTest e
  test_same (binary_expression line op l r) has few is can ahead final = operator_is (is_comparison op) line op l r refl has few is can ahead final
  test_same (unary_expression line UnaryOp.Not e) has few is can ahead final = absurd has
  test_same (parenthesized line e) has few is can ahead final = absurd has
  test_same e has few is can ahead final = value_same e has has.0 has.1 few is ahead final

  -- it takes these constants, whichever way its operands are written
  operator_taken : (compares : Bool) (line : ℕ) (op : BinaryOp) (l r : Expression) → is_comparison op ≡ compares → HasTestBy compares l r (binary_expression line op l r) → depth_of_expression (binary_expression line op l r) ≤ 200 → IsTestedBy compares g active op l r (binary_expression line op l r) before behind tested →
      IsAhead g active before (mentions_in (binary_expression line op l r)) m → Final (length m.labels) ((code (binary_expression line (tested_op op) l r)).jump_if truth label m) z →
      length ((code (binary_expression line (tested_op op) l r)).jump_if truth label m).constants ≡ taken_behind_test tested (length m.constants)
  operator_taken true line op l r is has few (both, same) ahead final =
      comparison_taken lefts made again sized line op is l r has.0 has.1 (omega (arith, few)) (omega (arith, few)) both truth label m ahead final ∙ ap (λ (tested : TestedValue). taken_behind_test tested (length m.constants)) (sym same)
  operator_taken false line op l r is has few value ahead final =
      let e = binary_expression line op l r in
      let same_op = plain_op op is in
      let final' = subst (λ op. Final (length m.labels) ((code (binary_expression line op l r)).jump_if truth label m) z) same_op final in
      let found = value_taken e (subst (λ (compares : Bool). HasTestBy compares l r e) (sym is) has) has.0 has.1 few value ahead final' in
      ap (λ op. length ((code (binary_expression line op l r)).jump_if truth label m).constants) same_op ∙ found

  pub test_taken : (e : Expression) → HasTest e → depth_of_expression e ≤ 200 → IsTested g active e before behind tested → IsAhead g active before (mentions_in e) m → Final (length m.labels) ((code (tested_expression e)).jump_if truth label m) z →
      length ((code (tested_expression e)).jump_if truth label m).constants ≡ taken_behind_test tested (length m.constants)
  test_taken (binary_expression line op l r) has few is ahead final = operator_taken (is_comparison op) line op l r refl has few is ahead final
  test_taken (unary_expression line UnaryOp.Not e) has few is ahead final = absurd has
  test_taken (parenthesized line e) has few is ahead final = absurd has
  test_taken e has few is ahead final = value_taken e has has.0 has.1 few is ahead final
