-- What is built of a condition whose tests keep the rules of form keeps them: it binds as tightly as its junction, and parts that bind less stand in parentheses.
use Rattle.std.proofs.Common.{◌≡◌, ℕ, ◌+◌, ◌≤◌, Bool, true, false, List, refl, sym, ◌∙◌, arith, subst}
use Rattle.std.proofs.lemmas.Bool.{and_from, or_right}
use Rattle.std.proofs.lemmas.Bool.Decides.{nat_tests}
use Rattle.std.specs.Prelude.{◌&&◌, Option, None, Some, nat_le, slice_get}
use Rattle.lua_tree.specs.Precedence.{level_of_op, level_of, is_unary, binds, left_binds, right_binds}
use Rattle.lua_tree.specs.Syntax.{Expression, true_literal, false_literal, and_expression, or_expression, binary_expression, unary_expression}
use Rattle.lua_tree.specs.WellFormed.{formed_expression}
use Rattle.lua_tree.specs.declared.tree.BinaryOp.{BinaryOp}
use Rattle.recover_expr.specs.Drafts.{Part, condition_part}
use Rattle.recover_expr.specs.Placing.{Steps}
use Rattle.recover_expr.specs.declared.steps.StepKind.{StepKind}
use Rattle.recover_flow.specs.Asked.{kind_at}
use Rattle.recover_flow.specs.Built.{built_condition}
use Rattle.recover_flow.specs.Conditions.{ConditionTree, test_condition, true_condition, false_condition, joined_condition, Conditions, no_conditions, and_condition, junction_of, encloses, is_enclosed}
use Rattle.recover_flow.specs.Joining.{Joined, in_parentheses, joined_expression, not_expression, negation_of, negated_where, condition_expression, first_joined, joined_behind}
use Rattle.recover_flow.specs.Lying.{decides, decided_to, ConditionLies, PartsLie, TestLies}
use Rattle.recover_flow.specs.Parts.{take_condition}
use Rattle.recover_flow.specs.declared.conditions.Junction.{Junction}
use Rattle.same_flow.specs.Written.{ArePartsFormed, HaveParts}
use Rattle.same_flow.specs.Told.{PartFits, IsLeaf}
use Rattle.built_flow.proofs.LyingBuilt.{test_there, part_there}
use Rattle.built_flow.proofs.PartsTaken.{AreOf, same_some, mapped, chained, condition_taken}

-- ---- how tightly conditions bind

abbrev pub own_level : Junction → ℕ
own_level Junction.And = 2
own_level Junction.Or = 1

-- a test binds at least as a comparison does
abbrev pub least_level : Option Junction → ℕ
least_level None = 3
least_level (Some junction) = own_level junction

op_level : (op : BinaryOp) → 3 ≤ level_of_op op
op_level BinaryOp.Add = omega arith
op_level BinaryOp.Sub = omega arith
op_level BinaryOp.Mul = omega arith
op_level BinaryOp.Div = omega arith
op_level BinaryOp.Rem = omega arith
op_level BinaryOp.Pow = omega arith
op_level BinaryOp.Concat = omega arith
op_level BinaryOp.Eq = omega arith
op_level BinaryOp.Ne = omega arith
op_level BinaryOp.Lt = omega arith
op_level BinaryOp.Le = omega arith
op_level BinaryOp.Gt = omega arith
op_level BinaryOp.Ge = omega arith

is_at_least : (a b : ℕ) → a ≤ b → nat_le a b ≡ true
is_at_least a b h = grind (arith, nat_tests)

-- ---- tests

leaf_level : (e : Expression) → IsLeaf e → 3 ≤ level_of e
leaf_level (binary_expression line op left right) leaf = op_level op
leaf_level (and_expression line left right) leaf = absurd leaf
leaf_level (or_expression line left right) leaf = absurd leaf
leaf_level (unary_expression line op of) leaf = omega arith
leaf_level e leaf = omega arith

-- what binds tightly may stand behind `not`
not_formed : (e : Expression) → formed_expression e ≡ true → 7 ≤ level_of e → formed_expression (not_expression e) ≡ true
not_formed e formed h = and_from (left_binds 7 false e) (formed_expression e) (is_at_least 7 (level_of e) h) formed

negation_formed : (e : Expression) → IsLeaf e → formed_expression e ≡ true → formed_expression (negation_of e) ≡ true
negation_formed (binary_expression line BinaryOp.Eq left right) leaf formed = formed
negation_formed (binary_expression line op left right) leaf formed = formed
negation_formed (and_expression line left right) leaf formed = absurd leaf
negation_formed (or_expression line left right) leaf formed = absurd leaf
negation_formed (unary_expression line op of) leaf formed = not_formed (unary_expression line op of) formed (omega arith)
negation_formed e leaf formed = not_formed e formed (omega arith)

negation_level : (e : Expression) → 3 ≤ level_of (negation_of e)
negation_level (binary_expression line BinaryOp.Eq left right) = omega arith
negation_level (binary_expression line op left right) = omega arith
negation_level e = omega arith

test_formed : (negated : Bool) (e : Expression) → IsLeaf e → formed_expression e ≡ true → formed_expression (negated_where negated e) ≡ true
test_formed true e leaf formed = negation_formed e leaf formed
test_formed false e leaf formed = formed

test_level : (negated : Bool) (e : Expression) → IsLeaf e → 3 ≤ level_of (negated_where negated e)
test_level true e leaf = negation_level e
test_level false e leaf = leaf_level e leaf

-- the part of a test is tested as a whole
leaf_there : (when : Bool) (target levels : ℕ) (e : Expression) → PartFits (StepKind.Test when target levels) (condition_part e) → IsLeaf e
leaf_there when target levels e fits = fits

-- ---- joined conditions

enclosed_formed : (enclosed : Bool) (e : Expression) → formed_expression e ≡ true → formed_expression (in_parentheses enclosed e) ≡ true
enclosed_formed true e formed = formed
enclosed_formed false e formed = formed

-- the first part of a junction binds as it does
first_level : (junction : Junction) (within : Option Junction) (e : Expression) → least_level within ≤ level_of e → own_level junction ≤ level_of (in_parentheses (encloses junction true within) e)
first_level Junction.And None e h = omega arith
first_level Junction.And (Some Junction.And) e h = h
first_level Junction.And (Some Junction.Or) e h = omega arith
first_level Junction.Or None e h = omega arith
first_level Junction.Or (Some Junction.And) e h = omega arith
first_level Junction.Or (Some Junction.Or) e h = h

-- and a further one binds more tightly
next_level : (junction : Junction) (within : Option Junction) (e : Expression) → least_level within ≤ level_of e → own_level junction + 1 ≤ level_of (in_parentheses (encloses junction false within) e)
next_level Junction.And None e h = h
next_level Junction.And (Some Junction.And) e h = omega arith
next_level Junction.And (Some Junction.Or) e h = omega arith
next_level Junction.Or None e h = omega arith
next_level Junction.Or (Some Junction.And) e h = h
next_level Junction.Or (Some Junction.Or) e h = omega arith

joined_formed : (junction : Junction) (left right : Expression) → own_level junction ≤ level_of left → own_level junction + 1 ≤ level_of right → formed_expression left ≡ true → formed_expression right ≡ true →
    formed_expression (joined_expression junction left right) ≡ true
joined_formed Junction.And left right a b f g =
    and_from (left_binds 2 false left) (right_binds 2 false right && (formed_expression left && formed_expression right)) (is_at_least 2 (level_of left) a)
    (and_from (right_binds 2 false right) (formed_expression left && formed_expression right) (or_right (is_unary right) (binds 2 false right) (is_at_least 3 (level_of right) b))
    (and_from (formed_expression left) (formed_expression right) f g))
joined_formed Junction.Or left right a b f g =
    and_from (left_binds 1 false left) (right_binds 1 false right && (formed_expression left && formed_expression right)) (is_at_least 1 (level_of left) a)
    (and_from (right_binds 1 false right) (formed_expression left && formed_expression right) (or_right (is_unary right) (binds 1 false right) (is_at_least 2 (level_of right) b))
    (and_from (formed_expression left) (formed_expression right) f g))

joined_level : (junction : Junction) (left right : Expression) → own_level junction ≤ level_of (joined_expression junction left right)
joined_level Junction.And left right = omega arith
joined_level Junction.Or left right = omega arith

-- ---- conditions

-- it keeps the rules of form and binds at least so, and the parts are left
pub record ConditionFormed (code : Steps) (least : ℕ) (made : Joined) : Type 0 where
  pub formed : formed_expression made.0 ≡ true
  pub level : least ≤ level_of made.0
  pub left : AreOf code.parts made.1

module _ (code : Steps) (have : HaveParts code) (parts_formed : ArePartsFormed code) where
  mutual
    pub condition_formed : (condition : ConditionTree) (sense : Bool) (target from to : ℕ) (parts : List Part) → AreOf code.parts parts → ConditionLies code.steps condition sense target from to →
        (made : Joined) → condition_expression condition parts ≡ Some made → ConditionFormed code (least_level (junction_of condition)) made
    condition_formed (test_condition step negated) sense target from to parts of (s, t, goes) made e =
        let m = mapped (λ taken. (negated_where negated taken.0, taken.1)) (take_condition step parts) made e in
        let x = condition_taken code.parts parts step of m.found m.there in
        let is = subst (λ p. slice_get code.parts p ≡ Some (condition_part m.found.0)) s x.is in
        let k = test_there negated sense target (kind_at code.steps from) goes in
        let p = part_there code have from (StepKind.Test k.0 target k.1) k.2 in
        let leaf = leaf_there k.0 target k.1 m.found.0 (subst (λ y. PartFits (StepKind.Test k.0 target k.1) y) (same_some p.0 (condition_part m.found.0) (sym p.1 ∙ is)) p.2) in
        subst (λ (pair : Joined). ConditionFormed code 3 pair) m.gives
        (record { formed = test_formed negated m.found.0 leaf (parts_formed from (condition_part m.found.0) is); level = test_level negated m.found.0 leaf; left = x.left })
    condition_formed true_condition sense target from to parts of lies made e =
        subst (λ (pair : Joined). ConditionFormed code 3 pair) (same_some (true_literal 1, parts) made e) (record { formed = refl; level = omega arith; left = of })
    condition_formed false_condition sense target from to parts of lies made e =
        subst (λ (pair : Joined). ConditionFormed code 3 pair) (same_some (false_literal 1, parts) made e) (record { formed = refl; level = omega arith; left = of })
    condition_formed (joined_condition junction conditions) sense target from to parts of lies made e =
        first_formed junction (decided_to junction sense to target) conditions sense target from to parts of lies made e

    first_formed : (junction : Junction) (early : ℕ) (conditions : Conditions) (sense : Bool) (target from to : ℕ) (parts : List Part) → AreOf code.parts parts →
        PartsLie code.steps junction early conditions sense target from to → (made : Joined) → first_joined junction conditions parts ≡ Some made → ConditionFormed code (own_level junction) made
    first_formed junction early no_conditions sense target from to parts of lies made e = absurd lies
    first_formed junction early (and_condition last no_conditions) sense target from to parts of lies made e =
        let enclosed = is_enclosed junction true last in
        let c = chained (λ taken. joined_behind junction no_conditions (in_parentheses enclosed taken.0) taken.1) (condition_expression last parts) made e in
        let x = condition_formed last sense target from to parts of lies c.found c.there in
        subst (λ (pair : Joined). ConditionFormed code (own_level junction) pair) (same_some (in_parentheses enclosed c.found.0, c.found.1) made c.gives)
        (record { formed = enclosed_formed enclosed c.found.0 x.formed; level = first_level junction (junction_of last) c.found.0 x.level; left = x.left })
    first_formed junction early (and_condition first (and_condition next rest)) sense target from to parts of (mid, a, b, lies, rest_lies) made e =
        let enclosed = is_enclosed junction true first in
        let c = chained (λ taken. joined_behind junction (and_condition next rest) (in_parentheses enclosed taken.0) taken.1) (condition_expression first parts) made e in
        let x = condition_formed first (decides junction) early from mid parts of lies c.found c.there in
        behind_formed junction early (and_condition next rest) (in_parentheses enclosed c.found.0) sense target mid to c.found.1 x.left (enclosed_formed enclosed c.found.0 x.formed)
        (first_level junction (junction_of first) c.found.0 x.level) rest_lies made c.gives

    behind_formed : (junction : Junction) (early : ℕ) (conditions : Conditions) (before : Expression) (sense : Bool) (target from to : ℕ) (parts : List Part) → AreOf code.parts parts →
        formed_expression before ≡ true → own_level junction ≤ level_of before → PartsLie code.steps junction early conditions sense target from to → (made : Joined) → joined_behind junction conditions before parts ≡ Some made →
        ConditionFormed code (own_level junction) made
    behind_formed junction early no_conditions before sense target from to parts of formed level lies made e = absurd lies
    behind_formed junction early (and_condition last no_conditions) before sense target from to parts of formed level lies made e =
        let enclosed = is_enclosed junction false last in
        let c = chained (λ taken. joined_behind junction no_conditions (joined_expression junction before (in_parentheses enclosed taken.0)) taken.1) (condition_expression last parts) made e in
        let x = condition_formed last sense target from to parts of lies c.found c.there in
        let right = in_parentheses enclosed c.found.0 in
        subst (λ (pair : Joined). ConditionFormed code (own_level junction) pair) (same_some (joined_expression junction before right, c.found.1) made c.gives) (record {
          formed = joined_formed junction before right level (next_level junction (junction_of last) c.found.0 x.level) formed (enclosed_formed enclosed c.found.0 x.formed);
          level = joined_level junction before right;
          left = x.left;
        })
    behind_formed junction early (and_condition first (and_condition next rest)) before sense target from to parts of formed level (mid, a, b, lies, rest_lies) made e =
        let enclosed = is_enclosed junction false first in
        let c = chained (λ taken. joined_behind junction (and_condition next rest) (joined_expression junction before (in_parentheses enclosed taken.0)) taken.1) (condition_expression first parts) made e in
        let x = condition_formed first (decides junction) early from mid parts of lies c.found c.there in
        let right = in_parentheses enclosed c.found.0 in
        behind_formed junction early (and_condition next rest) (joined_expression junction before right) sense target mid to c.found.1 x.left
        (joined_formed junction before right level (next_level junction (junction_of first) c.found.0 x.level) formed (enclosed_formed enclosed c.found.0 x.formed)) (joined_level junction before right) rest_lies made c.gives

  -- no condition is `true`
  pub until_formed : (condition : Option ConditionTree) (target from to : ℕ) (parts : List Part) → AreOf code.parts parts → TestLies code.steps condition target from to →
      (made : Joined) → built_condition condition parts ≡ Some made → ConditionFormed code 0 made
  until_formed None target from to parts of lies made e =
      subst (λ (pair : Joined). ConditionFormed code 0 pair) (same_some (true_literal 1, parts) made e) (record { formed = refl; level = omega arith; left = of })
  until_formed (Some condition) target from to parts of lies made e =
      let x = condition_formed condition false target from to parts of lies made e in
      record { formed = x.formed; level = omega arith; left = x.left }
