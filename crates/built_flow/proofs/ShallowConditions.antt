-- What is built of a condition is no deeper than its levels, where these are no more than a tree may have.
use Rattle.std.proofs.Common.{◌≡◌, ℕ, ◌≤◌, Bool, true, false, max, List, sym, ap, ◌∙◌, arith, subst}
use Rattle.std.specs.Prelude.{Option, None, Some, slice_get}
use Rattle.lua_tree.specs.Syntax.{Expression, true_literal, false_literal, binary_expression}
use Rattle.lua_tree.specs.WellFormed.{depth_of_expression}
use Rattle.lua_tree.specs.declared.tree.BinaryOp.{BinaryOp}
use Rattle.core_expr.specs.Counting.{one_more}
use Rattle.recover_expr.specs.Drafts.{Part, condition_part}
use Rattle.recover_expr.specs.Placing.{Steps}
use Rattle.recover_expr.specs.Testing.{negated_levels}
use Rattle.recover_expr.specs.declared.steps.Step.{Step}
use Rattle.recover_expr.specs.declared.steps.StepKind.{StepKind}
use Rattle.recover_flow.specs.Asked.{kind_at}
use Rattle.recover_flow.specs.Built.{built_condition}
use Rattle.recover_flow.specs.Conditions as conditions
use Rattle.recover_flow.specs.Conditions.{ConditionTree, test_condition, true_condition, false_condition, joined_condition, Conditions, no_conditions, and_condition, is_enclosed, test_levels, enclosed_levels, part_levels, condition_levels, first_levels, levels_behind}
use Rattle.recover_flow.specs.Joining.{Joined, in_parentheses, joined_expression, negation_of, negated_where, condition_expression, first_joined, joined_behind}
use Rattle.recover_flow.specs.Lying.{decides, decided_to, ConditionLies, PartsLie, TestLies}
use Rattle.recover_flow.specs.Parts.{take_condition}
use Rattle.recover_flow.specs.Plans.{tested_levels}
use Rattle.recover_flow.specs.declared.conditions.Junction.{Junction}
use Rattle.same_flow.specs.Written.{ArePartsDeep, IsPartDeep}
use Rattle.built_flow.proofs.LyingBuilt.{test_there}
use Rattle.built_flow.proofs.PartsTaken.{AreOf, same_some, mapped, chained, condition_taken}
use Rattle.built_flow.proofs.StepsTold.{stood}

-- ---- tests

negation_depth : (e : Expression) (levels : ℕ) → depth_of_expression e ≤ levels → negated_levels e levels ≤ 200 → depth_of_expression (negation_of e) ≤ negated_levels e levels
negation_depth (binary_expression line BinaryOp.Eq left right) levels h few = h
negation_depth (binary_expression line op left right) levels h few = omega arith
negation_depth e levels h few = omega arith

-- of a step that is a test
test_depth : (negated when : Bool) (target other : ℕ) (step : Step) (e : Expression) → step.kind ≡ StepKind.Test when target other → IsPartDeep step.levels step.kind (condition_part e) → test_levels negated (Some step) ≤ 200 →
    depth_of_expression (negated_where negated e) ≤ test_levels negated (Some step)
test_depth false when target other step e is deep few = (subst (λ k. IsPartDeep step.levels k (condition_part e)) is deep).0
test_depth true when target other step e is deep few =
    let d = subst (λ k. IsPartDeep step.levels k (condition_part e)) is deep in
    let same : conditions.negated_levels step.kind step.levels ≡ negated_levels e step.levels = ap (λ k. conditions.negated_levels k step.levels) is ∙ d.1 in
    subst (λ n. depth_of_expression (negation_of e) ≤ n) (sym same) (negation_depth e step.levels d.0 (subst (λ n. n ≤ 200) same few))

-- ---- joined conditions

enclosed_less : (enclosed : Bool) (levels : ℕ) → enclosed_levels enclosed levels ≤ 200 → levels ≤ 200
enclosed_less true levels few = omega arith
enclosed_less false levels few = few

enclosed_depth : (enclosed : Bool) (e : Expression) (levels : ℕ) → depth_of_expression e ≤ levels → enclosed_levels enclosed levels ≤ 200 → depth_of_expression (in_parentheses enclosed e) ≤ enclosed_levels enclosed levels
enclosed_depth true e levels h few = omega arith
enclosed_depth false e levels h few = h

joined_depth : (junction : Junction) (left right : Expression) (before next : ℕ) → depth_of_expression left ≤ before → depth_of_expression right ≤ next → one_more (max next before) ≤ 200 →
    depth_of_expression (joined_expression junction left right) ≤ one_more (max next before)
joined_depth Junction.And left right before next a b few = omega arith
joined_depth Junction.Or left right before next a b few = omega arith

-- with others behind it, a condition has no fewer levels
behind_less : (steps : List Step) (junction : Junction) (rest : Conditions) (before : ℕ) → levels_behind steps junction rest before ≤ 200 → before ≤ 200
behind_less steps junction no_conditions before few = few
behind_less steps junction (and_condition next rest) before few =
    let p = part_levels junction false next (condition_levels steps next) in
    let h = behind_less steps junction rest (one_more (max p before)) few in
    omega arith

-- ---- conditions

pub record ConditionShallow (code : Steps) (levels : ℕ) (made : Joined) : Type 0 where
  pub depth : depth_of_expression made.0 ≤ levels
  pub left : AreOf code.parts made.1

module _ (code : Steps) (deep : ArePartsDeep code) where
  mutual
    pub condition_shallow : (condition : ConditionTree) (sense : Bool) (target from to : ℕ) (parts : List Part) → AreOf code.parts parts → ConditionLies code.steps condition sense target from to →
        condition_levels code.steps condition ≤ 200 →
        (made : Joined) → condition_expression condition parts ≡ Some made → ConditionShallow code (condition_levels code.steps condition) made
    condition_shallow (test_condition step negated) sense target from to parts of (s, t, goes) few made e =
        let m = mapped (λ taken. (negated_where negated taken.0, taken.1)) (take_condition step parts) made e in
        let x = condition_taken code.parts parts step of m.found m.there in
        let k = test_there negated sense target (kind_at code.steps from) goes in
        let st = stood code.steps from (StepKind.Test k.0 target k.1) k.2 in
        let there : slice_get code.steps step ≡ Some st.step = ap (λ p. slice_get code.steps p) s ∙ st.there in
        let same : test_levels negated (slice_get code.steps step) ≡ test_levels negated (Some st.step) = ap (λ o. test_levels negated o) there in
        let d = test_depth negated k.0 target k.1 st.step m.found.0 st.is (deep step st.step (condition_part m.found.0) there x.is) (subst (λ n. n ≤ 200) same few) in
        subst (λ (pair : Joined). ConditionShallow code (test_levels negated (slice_get code.steps step)) pair) m.gives
        (record { depth = subst (λ n. depth_of_expression (negated_where negated m.found.0) ≤ n) (sym same) d; left = x.left })
    condition_shallow true_condition sense target from to parts of lies few made e =
        subst (λ (pair : Joined). ConditionShallow code 1 pair) (same_some (true_literal 1, parts) made e) (record { depth = omega arith; left = of })
    condition_shallow false_condition sense target from to parts of lies few made e =
        subst (λ (pair : Joined). ConditionShallow code 1 pair) (same_some (false_literal 1, parts) made e) (record { depth = omega arith; left = of })
    condition_shallow (joined_condition junction conditions) sense target from to parts of lies few made e =
        first_shallow junction (decided_to junction sense to target) conditions sense target from to parts of lies few made e

    first_shallow : (junction : Junction) (early : ℕ) (conditions : Conditions) (sense : Bool) (target from to : ℕ) (parts : List Part) → AreOf code.parts parts →
        PartsLie code.steps junction early conditions sense target from to → first_levels code.steps junction conditions ≤ 200 →
        (made : Joined) → first_joined junction conditions parts ≡ Some made → ConditionShallow code (first_levels code.steps junction conditions) made
    first_shallow junction early no_conditions sense target from to parts of lies few made e = absurd lies
    first_shallow junction early (and_condition last no_conditions) sense target from to parts of lies few made e =
        let enclosed = is_enclosed junction true last in
        let levels = condition_levels code.steps last in
        let c = chained (λ taken. joined_behind junction no_conditions (in_parentheses enclosed taken.0) taken.1) (condition_expression last parts) made e in
        let x = condition_shallow last sense target from to parts of lies (enclosed_less enclosed levels few) c.found c.there in
        subst (λ (pair : Joined). ConditionShallow code (enclosed_levels enclosed levels) pair) (same_some (in_parentheses enclosed c.found.0, c.found.1) made c.gives)
        (record { depth = enclosed_depth enclosed c.found.0 levels x.depth few; left = x.left })
    first_shallow junction early (and_condition first (and_condition next rest)) sense target from to parts of (mid, a, b, lies, rest_lies) few made e =
        let enclosed = is_enclosed junction true first in
        let levels = condition_levels code.steps first in
        let part_few = behind_less code.steps junction (and_condition next rest) (enclosed_levels enclosed levels) few in
        let c = chained (λ taken. joined_behind junction (and_condition next rest) (in_parentheses enclosed taken.0) taken.1) (condition_expression first parts) made e in
        let x = condition_shallow first (decides junction) early from mid parts of lies (enclosed_less enclosed levels part_few) c.found c.there in
        behind_shallow junction early (and_condition next rest) (in_parentheses enclosed c.found.0) (enclosed_levels enclosed levels) sense target mid to c.found.1 x.left
        (enclosed_depth enclosed c.found.0 levels x.depth part_few) rest_lies few made c.gives

    behind_shallow : (junction : Junction) (early : ℕ) (conditions : Conditions) (before : Expression) (before_levels : ℕ) (sense : Bool) (target from to : ℕ) (parts : List Part) → AreOf code.parts parts →
        depth_of_expression before ≤ before_levels → PartsLie code.steps junction early conditions sense target from to → levels_behind code.steps junction conditions before_levels ≤ 200 →
        (made : Joined) → joined_behind junction conditions before parts ≡ Some made → ConditionShallow code (levels_behind code.steps junction conditions before_levels) made
    behind_shallow junction early no_conditions before before_levels sense target from to parts of h lies few made e = absurd lies
    behind_shallow junction early (and_condition last no_conditions) before before_levels sense target from to parts of h lies few made e =
        let enclosed = is_enclosed junction false last in
        let levels = condition_levels code.steps last in
        let part = enclosed_levels enclosed levels in
        let part_few : enclosed_levels enclosed levels ≤ 200 = omega arith in
        let c = chained (λ taken. joined_behind junction no_conditions (joined_expression junction before (in_parentheses enclosed taken.0)) taken.1) (condition_expression last parts) made e in
        let x = condition_shallow last sense target from to parts of lies (enclosed_less enclosed levels part_few) c.found c.there in
        let right = in_parentheses enclosed c.found.0 in
        subst (λ (pair : Joined). ConditionShallow code (one_more (max part before_levels)) pair) (same_some (joined_expression junction before right, c.found.1) made c.gives)
        (record { depth = joined_depth junction before right before_levels part h (enclosed_depth enclosed c.found.0 levels x.depth part_few) few; left = x.left })
    behind_shallow junction early (and_condition first (and_condition next rest)) before before_levels sense target from to parts of h (mid, a, b, lies, rest_lies) few made e =
        let enclosed = is_enclosed junction false first in
        let levels = condition_levels code.steps first in
        let part = enclosed_levels enclosed levels in
        let joined_few = behind_less code.steps junction (and_condition next rest) (one_more (max part before_levels)) few in
        let part_few : enclosed_levels enclosed levels ≤ 200 = omega arith in
        let c = chained (λ taken. joined_behind junction (and_condition next rest) (joined_expression junction before (in_parentheses enclosed taken.0)) taken.1) (condition_expression first parts) made e in
        let x = condition_shallow first (decides junction) early from mid parts of lies (enclosed_less enclosed levels part_few) c.found c.there in
        let right = in_parentheses enclosed c.found.0 in
        behind_shallow junction early (and_condition next rest) (joined_expression junction before right) (one_more (max part before_levels)) sense target mid to c.found.1 x.left
        (joined_depth junction before right before_levels part h (enclosed_depth enclosed c.found.0 levels x.depth part_few) joined_few) rest_lies few made c.gives

  -- no condition is `true`
  pub tested_shallow : (condition : Option ConditionTree) (target from to most : ℕ) (parts : List Part) → AreOf code.parts parts → TestLies code.steps condition target from to → tested_levels code.steps condition ≤ most → most ≤ 200 →
      (made : Joined) → built_condition condition parts ≡ Some made → ConditionShallow code most made
  tested_shallow None target from to most parts of lies h few made e =
      subst (λ (pair : Joined). ConditionShallow code most pair) (same_some (true_literal 1, parts) made e) (record { depth = h; left = of })
  tested_shallow (Some condition) target from to most parts of lies h few made e =
      let levels = condition_levels code.steps condition in
      let x = condition_shallow condition false target from to parts of lies (omega arith) made e in
      let d = x.depth in
      record { depth = omega arith; left = x.left }
