-- What is built of a condition that lies on steps stands on them as a test, where a comparison that is tested is on line 1.
use Rattle.std.proofs.Common.{◌≡◌, ℕ, suc, ◌≤◌, Bool, true, false, not, inl, inr, List, refl, sym, ap, arith, subst}
use Rattle.std.specs.Prelude.{Option, None, Some, slice_get}
use Rattle.std.specs.Bool.{beq}
use Rattle.lua_num.specs.Bytes.{Text}
use Rattle.lua_tree.specs.Syntax.{Expression, true_literal, false_literal, and_expression, or_expression, binary_expression, unary_expression, parenthesized}
use Rattle.lua_tree.specs.declared.tree.BinaryOp.{BinaryOp}
use Rattle.lua_tree.specs.declared.tree.UnaryOp.{UnaryOp}
use Rattle.proto.specs.declared.parts.Constant.{Constant}
use Rattle.recover_expr.specs.Drafts.{Part, condition_part}
use Rattle.recover_expr.specs.Placing.{Steps}
use Rattle.recover_expr.specs.declared.steps.StepKind.{StepKind}
use Rattle.recover_flow.specs.Asked.{kind_at}
use Rattle.recover_flow.specs.Conditions.{ConditionTree, test_condition, true_condition, false_condition, joined_condition, Conditions, no_conditions, and_condition, is_enclosed}
use Rattle.recover_flow.specs.Built.{built_condition}
use Rattle.recover_flow.specs.Joining.{in_parentheses, joined_expression, negation_of, negated_where, Joined, condition_expression, first_joined, joined_behind}
use Rattle.recover_flow.specs.Lying.{TestGoes, LiteralLies, decides, decided_to, ConditionLies, PartsLie, TestLies}
use Rattle.recover_flow.specs.Parts.{take_condition}
use Rattle.recover_flow.specs.declared.conditions.Junction.{Junction}
use Rattle.scheme.specs.Making.{Ahead}
use Rattle.scheme.specs.declared.making.Active.{Active}
use Rattle.same_flow.specs.Written.{ComparedOnOne}
use Rattle.same_flow.specs.Laid.{HasStep, LiteralLaid, AloneLaid, LeafLaid, TestLaid}
use Rattle.same_flow.specs.SameFlow.{HasPlainParts}
use Rattle.same_flow.specs.Told.{IsLeaf, AreTold}
use Rattle.same_flow.proofs.Followed.{LastTo, last_weaker}
use Rattle.built_flow.proofs.PartsTaken.{AreOf, same_some, mapped, chained, condition_taken}
use Rattle.built_flow.proofs.StepsTold.{run_of, Here, has_step, has_kind, fits_there, test_here}

-- ---- one test

leaf_laid : (code : Steps) (active : List Active) (e : Expression) (sense : Bool) (target from to : ℕ) → IsLeaf e → LeafLaid code active e sense target from to →
    TestLaid code active e sense target from to
leaf_laid code active (and_expression line left right) sense target from to is standing = absurd is
leaf_laid code active (or_expression line left right) sense target from to is standing = absurd is
leaf_laid code active (unary_expression line UnaryOp.Not e) sense target from to is standing = absurd is
leaf_laid code active (parenthesized line e) sense target from to is standing = absurd is
leaf_laid code active e sense target from to is standing = subst (λ (o : Option Constant). AloneLaid code active o e sense target from to) (sym is) standing

not_not : (b : Bool) → not (not b) ≡ b
not_not true = refl
not_not false = refl

negated_laid : (code : Steps) (active : List Active) (e : Expression) (sense : Bool) (levels target from to : ℕ) → ComparedOnOne code → IsLeaf e →
    HasStep code active from (StepKind.Test (not sense) target levels) (condition_part e) → to ≡ suc from → TestLaid code active (negation_of e) sense target from to
negated_laid code active (binary_expression line BinaryOp.Eq left right) sense levels target from to one is standing t =
    (not sense, levels, binary_expression line BinaryOp.Eq left right, standing, inr ((one from line left right standing.1, refl), refl), t)
negated_laid code active (and_expression line left right) sense levels target from to one is standing t = absurd is
negated_laid code active (or_expression line left right) sense levels target from to one is standing t = absurd is
negated_laid code active (unary_expression line UnaryOp.Not e) sense levels target from to one is standing t = absurd is
negated_laid code active (parenthesized line e) sense levels target from to one is standing t = absurd is
negated_laid code active e sense levels target from to one is standing t = leaf_laid code active e (not sense) target from to is (not sense, levels, e, standing, inl (refl, refl), t)

tested_laid : (code : Steps) (active : List Active) (e : Expression) (sense when negated : Bool) (levels target from to : ℕ) → ComparedOnOne code → IsLeaf e →
    HasStep code active from (StepKind.Test when target levels) (condition_part e) → negated ≡ not (beq when sense) → to ≡ suc from →
    TestLaid code active (negated_where negated e) sense target from to
tested_laid code active e true true false levels target from to one is standing n t = leaf_laid code active e true target from to is (true, levels, e, standing, inl (refl, refl), t)
tested_laid code active e false false false levels target from to one is standing n t = leaf_laid code active e false target from to is (false, levels, e, standing, inl (refl, refl), t)
tested_laid code active e true false true levels target from to one is standing n t = negated_laid code active e true levels target from to one is standing t
tested_laid code active e false true true levels target from to one is standing n t = negated_laid code active e false levels target from to one is standing t
tested_laid code active e true false false levels target from to one is standing n t = cc
tested_laid code active e false true false levels target from to one is standing n t = cc
tested_laid code active e true true true levels target from to one is standing n t = cc
tested_laid code active e false false true levels target from to one is standing n t = cc

-- what a step's kind says where a test lies
record Going (negated sense : Bool) (target : ℕ) (kind : Option StepKind) : Type 0 where
  when : Bool
  levels : ℕ
  is : kind ≡ Some (StepKind.Test when target levels)
  says : negated ≡ not (beq when sense)

going : (negated sense : Bool) (target : ℕ) (kind : Option StepKind) → TestGoes negated sense target kind → Going negated sense target kind
going negated sense target (Some (StepKind.Test when to levels)) growth = record { when = when; levels = levels; is = ap (λ x. Some (StepKind.Test when x levels)) growth.0; says = growth.1 }
going negated sense target None growth = absurd growth
going negated sense target (Some kind) growth = absurd growth

-- ---- joined tests

enclosed_laid : (code : Steps) (active : List Active) (b : Bool) (e : Expression) (sense : Bool) (target from to : ℕ) → TestLaid code active e sense target from to →
    TestLaid code active (in_parentheses b e) sense target from to
enclosed_laid code active true e sense target from to test_standing = test_standing
enclosed_laid code active false e sense target from to test_standing = test_standing

-- behind a part that goes to the early place, the last goes where the whole does
joined_last : (code : Steps) (active : List Active) (junction : Junction) (left right : Expression) (sense : Bool) (target from mid to : ℕ) → from ≤ mid → mid ≤ to →
    TestLaid code active left (decides junction) (decided_to junction sense to target) from mid → TestLaid code active right sense target mid to →
    TestLaid code active (joined_expression junction left right) sense target from to
joined_last code active Junction.And left right true target from mid to a b test_standing U = (mid, a, b, test_standing, U)
joined_last code active Junction.And left right false target from mid to a b test_standing U = (mid, a, b, test_standing, U)
joined_last code active Junction.Or left right true target from mid to a b test_standing U = (mid, a, b, test_standing, U)
joined_last code active Junction.Or left right false target from mid to a b test_standing U = (mid, a, b, test_standing, U)

joined_more : (code : Steps) (active : List Active) (junction : Junction) (left right : Expression) (early from mid to : ℕ) → from ≤ mid → mid ≤ to →
    TestLaid code active left (decides junction) early from mid → TestLaid code active right (decides junction) early mid to →
    TestLaid code active (joined_expression junction left right) (decides junction) early from to
joined_more code active Junction.And left right early from mid to a b test_standing U = (mid, a, b, test_standing, U)
joined_more code active Junction.Or left right early from mid to a b test_standing U = (mid, a, b, test_standing, U)

-- ---- conditions

pub record TestStands (code : Steps) (active : List Active) (sense : Bool) (target from to : ℕ) (made : Joined) : Type 0 where
  pub laid : TestLaid code active made.0 sense target from to
  pub left : AreOf code.parts made.1
  pub order : from ≤ to

module _ (code : Steps) (params names : List Text) (ahead : Ahead) (told : AreTold code params names ahead) (plain : HasPlainParts code) (one : ComparedOnOne code) (active : List Active) (ends : List ℕ) where
  literal_laid : (jumps : Bool) (target from to : ℕ) → Here (run_of code params names ahead) active ends from → LastTo to ends → LiteralLies code.steps jumps from to target →
      LiteralLaid code active jumps target from to
  literal_laid true target from to standing l lying = (has_kind code params names ahead told active ends from standing (subst (λ x. LastTo x ends) lying.1 l) (StepKind.Jump target) lying.0, lying.1)
  literal_laid false target from to standing l lying = lying

  literal_order : (jumps : Bool) (target from to : ℕ) → LiteralLies code.steps jumps from to target → from ≤ to
  literal_order true target from to lying = let t = lying.1 in omega arith
  literal_order false target from to lying = omega arith

  true_laid : (sense : Bool) (target from to : ℕ) → LiteralLaid code active sense target from to → TestLaid code active (true_literal 1) sense target from to
  true_laid true target from to lying = (refl, lying)
  true_laid false target from to lying = (refl, lying)

  false_laid : (sense : Bool) (target from to : ℕ) → LiteralLaid code active (not sense) target from to → TestLaid code active (false_literal 1) sense target from to
  false_laid true target from to lying = (refl, lying)
  false_laid false target from to lying = (refl, lying)

  mutual
    pub condition_stands : (condition : ConditionTree) (sense : Bool) (target from to : ℕ) (parts : List Part) → AreOf code.parts parts → Here (run_of code params names ahead) active ends from →
        LastTo to ends →
        ConditionLies code.steps condition sense target from to → (made : Joined) → condition_expression condition parts ≡ Some made → TestStands code active sense target from to made
    condition_stands (test_condition step negated) sense target from to parts of standing l (s, t, growth) made e =
        let m = mapped (λ taken. (negated_where negated taken.0, taken.1)) (take_condition step parts) made e in
        let x = condition_taken code.parts parts step of m.found m.there in
        let g = going negated sense target (kind_at code.steps from) growth in
        let is = subst (λ p. slice_get code.parts p ≡ Some (condition_part m.found.0)) s x.is in
        let kind = StepKind.Test g.when target g.levels in
        let h = has_step code params names ahead told active ends from standing (subst (λ y. LastTo y ends) t l) kind g.is (condition_part m.found.0) is in
        subst (λ (pair : Joined). TestStands code active sense target from to pair) m.gives (record {
          laid = tested_laid code active m.found.0 sense g.when negated g.levels target from to one (fits_there code params names ahead told from kind g.is (condition_part m.found.0) is) h g.says t;
          left = x.left;
          order = omega arith;
        })
    condition_stands true_condition sense target from to parts of standing l lying made e =
        subst (λ (pair : Joined). TestStands code active sense target from to pair) (same_some (true_literal 1, parts) made e)
        (record { laid = true_laid sense target from to (literal_laid sense target from to standing l lying); left = of; order = literal_order sense target from to lying })
    condition_stands false_condition sense target from to parts of standing l lying made e =
        subst (λ (pair : Joined). TestStands code active sense target from to pair) (same_some (false_literal 1, parts) made e)
        (record { laid = false_laid sense target from to (literal_laid (not sense) target from to standing l lying); left = of; order = literal_order (not sense) target from to lying })
    condition_stands (joined_condition junction conditions) sense target from to parts of standing l lying made e = first_stands junction conditions sense target from to parts of standing l lying made e

    first_stands : (junction : Junction) (conditions : Conditions) (sense : Bool) (target from to : ℕ) (parts : List Part) → AreOf code.parts parts →
        Here (run_of code params names ahead) active ends from → LastTo to ends →
        PartsLie code.steps junction (decided_to junction sense to target) conditions sense target from to → (made : Joined) → first_joined junction conditions parts ≡ Some made →
        TestStands code active sense target from to made
    first_stands junction no_conditions sense target from to parts of standing l lying made e = absurd lying
    first_stands junction (and_condition last no_conditions) sense target from to parts of standing l lying made e =
        let enclosed = is_enclosed junction true last in
        let c = chained (λ taken. joined_behind junction no_conditions (in_parentheses enclosed taken.0) taken.1) (condition_expression last parts) made e in
        let test_standing = condition_stands last sense target from to parts of standing l lying c.found c.there in
        subst (λ (pair : Joined). TestStands code active sense target from to pair) (same_some (in_parentheses enclosed c.found.0, c.found.1) made c.gives)
        (record { laid = enclosed_laid code active enclosed c.found.0 sense target from to test_standing.laid; left = test_standing.left; order = test_standing.order })
    first_stands junction (and_condition first (and_condition next rest)) sense target from to parts of standing l (mid, a, b, closing_there, lying) made e =
        let early = decided_to junction sense to target in
        let enclosed = is_enclosed junction true first in
        let c = chained (λ taken. joined_behind junction (and_condition next rest) (in_parentheses enclosed taken.0) taken.1) (condition_expression first parts) made e in
        let until = last_weaker mid to ends b l in
        let test_standing = condition_stands first (decides junction) early from mid parts of standing until closing_there c.found c.there in
        let here = test_here code params names ahead told plain active ends c.found.0 (decides junction) early from mid standing test_standing.laid until in
        behind_stands junction (and_condition next rest) (in_parentheses enclosed c.found.0) sense target from mid to c.found.1 test_standing.left a
        (enclosed_laid code active enclosed c.found.0 (decides junction) early from mid test_standing.laid) here l lying made c.gives

    behind_stands : (junction : Junction) (conditions : Conditions) (left : Expression) (sense : Bool) (target from mid to : ℕ) (parts : List Part) → AreOf code.parts parts → from ≤ mid →
        TestLaid code active left (decides junction) (decided_to junction sense to target) from mid → Here (run_of code params names ahead) active ends mid → LastTo to ends →
        PartsLie code.steps junction (decided_to junction sense to target) conditions sense target mid to →
        (made : Joined) → joined_behind junction conditions left parts ≡ Some made → TestStands code active sense target from to made
    behind_stands junction no_conditions left sense target from mid to parts of a U standing l lying made e = absurd lying
    behind_stands junction (and_condition next no_conditions) left sense target from mid to parts of a U standing l lying made e =
        let enclosed = is_enclosed junction false next in
        let c = chained (λ taken. joined_behind junction no_conditions (joined_expression junction left (in_parentheses enclosed taken.0)) taken.1) (condition_expression next parts) made e in
        let test_standing = condition_stands next sense target mid to parts of standing l lying c.found c.there in
        let right = in_parentheses enclosed c.found.0 in
        let order = test_standing.order in
        subst (λ (pair : Joined). TestStands code active sense target from to pair) (same_some (joined_expression junction left right, c.found.1) made c.gives)
        (record {
          laid = joined_last code active junction left right sense target from mid to a order U (enclosed_laid code active enclosed c.found.0 sense target mid to test_standing.laid);
          left = test_standing.left;
          order = omega arith;
        })
    behind_stands junction (and_condition next (and_condition other rest)) left sense target from mid to parts of a U standing l (stop, b, d, closing_there, lying) made e =
        let early = decided_to junction sense to target in
        let enclosed = is_enclosed junction false next in
        let c = chained (λ taken. joined_behind junction (and_condition other rest) (joined_expression junction left (in_parentheses enclosed taken.0)) taken.1) (condition_expression next parts) made e in
        let until = last_weaker stop to ends d l in
        let test_standing = condition_stands next (decides junction) early mid stop parts of standing until closing_there c.found c.there in
        let here = test_here code params names ahead told plain active ends c.found.0 (decides junction) early mid stop standing test_standing.laid until in
        let right = in_parentheses enclosed c.found.0 in
        behind_stands junction (and_condition other rest) (joined_expression junction left right) sense target from stop to c.found.1 test_standing.left (omega arith)
        (joined_more code active junction left right early from mid stop a b U (enclosed_laid code active enclosed c.found.0 (decides junction) early mid stop test_standing.laid)) here l lying made c.gives

  -- no condition is `true`
  pub test_stands : (condition : Option ConditionTree) (target from to : ℕ) (parts : List Part) → AreOf code.parts parts → Here (run_of code params names ahead) active ends from → LastTo to ends →
      TestLies code.steps condition target from to → (made : Joined) → built_condition condition parts ≡ Some made → TestStands code active false target from to made
  test_stands None target from to parts of standing l lying made e =
      subst (λ (pair : Joined). TestStands code active false target from to pair) (same_some (true_literal 1, parts) made e) (record { laid = (refl, lying); left = of; order = omega arith })
  test_stands (Some condition) target from to parts of standing l lying made e = condition_stands condition false target from to parts of standing l lying made e
