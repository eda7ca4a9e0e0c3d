-- A condition that stands on steps lies there, no deeper than the room that it takes, and its steps tell what is around them.
use Rattle.std.proofs.Common.{◌≡◌, ◌≤◌, ℕ, suc, ◌+◌, Bool, true, false, not, inl, inr, List, length, refl, sym, ap, ap₂, ◌∙◌, arith, subst}
use Rattle.std.proofs.lemmas.Bool.Decides.{nat_tests}
use Rattle.std.specs.Prelude.{Option, None, Some, ◌&&◌, is_some, max, nat_lt, slice_get, if◌then◌else◌}
use Rattle.std.specs.Bool.{beq}
use Rattle.lua_tree.specs.declared.tree.BinaryOp.{BinaryOp}
use Rattle.lua_tree.specs.declared.tree.UnaryOp.{UnaryOp}
use Rattle.lua_tree.specs.Syntax.{Expression, and_expression, or_expression, binary_expression, unary_expression, number_literal, nil_literal, parenthesized}
use Rattle.proto.specs.declared.parts.Constant.{Constant}
use Rattle.recover_expr.specs.Drafts.{Part, condition_part}
use Rattle.recover_expr.specs.Placing.{Steps}
use Rattle.recover_expr.specs.declared.steps.Step.{Step}
use Rattle.recover_expr.specs.declared.steps.StepKind.{StepKind}
use Rattle.recover_flow.specs.Conditions.{negated_levels, test_levels}
use Rattle.recover_flow.specs.Flow.{Around, IsTold, IsAt, AreTold}
use Rattle.recover_flow.specs.Logic.{Logic, test_logic, literal_logic, not_logic, and_logic, or_logic, LogicLies, logic_levels, operators, is_never}
use Rattle.recover_flow.specs.Lying.{LiteralLies, TestGoes}
use Rattle.scheme.specs.Expressions.{fold, literal, is_true_constant}
use Rattle.scheme.specs.Shapes.{logic_count}
use Rattle.scheme.specs.declared.making.Active.{Active}
use Rattle.same_flow.specs.Written.{AreInRoom, KindInRoom, NegatedInRoom}
use Rattle.same_flow.specs.Laid.{IsStep, HasStep, IsNegated, LiteralLaid, LeafLaid, AloneLaid, TestLaid, highest_captured}
use Rattle.same_flow.specs.Never.{is_other_literal, never_is}
use Rattle.same_flow.specs.Space.{space_of_expression}
use Rattle.same_flow.proofs.TestsFollowed.{kind_there}

-- ---- what is around a step

-- how many locals are active, and the highest captured one
pub record Counts (around : Around) (active : List Active) : Type 0 where
  pub count : around.count ≡ length active
  pub captured : around.captured ≡ highest_captured 0 active

pub told_at : (code : Steps) (around : Around) (active : List Active) (at : ℕ) (kind : StepKind) → Counts around active → IsStep code active at kind → IsTold code.steps around at
told_at code around active at kind counts standing =
    record { step = standing.step; there = standing.there; base = standing.tells.base ∙ sym counts.count; captured = standing.tells.captured ∙ sym counts.captured }

pub kind_told : (code : Steps) (around : Around) (active : List Active) (at : ℕ) (kind : StepKind) → Counts around active → IsStep code active at kind → IsAt code.steps around at kind
kind_told code around active at kind counts standing = (told_at code around active at kind counts standing, kind_there standing)

pub none_told : (steps : List Step) (around : Around) (from to : ℕ) → to ≡ from → AreTold steps around from to
none_told steps around from to e at h l = absurd (omega arith)

pub one_told : (steps : List Step) (around : Around) (from to : ℕ) → to ≡ suc from → IsTold steps around from → AreTold steps around from to
one_told steps around from to e told at h l = subst (λ p. IsTold steps around p) (omega arith) told

pub both_told : (steps : List Step) (around : Around) (from mid to : ℕ) → AreTold steps around from mid → AreTold steps around mid to → AreTold steps around from to
both_told steps around from mid to one two at h l = by (nat_lt at mid) refl
  where
    by : (b : Bool) → nat_lt at mid ≡ b → IsTold steps around at
    by true e = one at h (grind (arith, nat_tests))
    by false e = two at (grind (arith, nat_tests)) l

-- ---- conditions are told

literal_told : (code : Steps) (around : Around) (active : List Active) (jumps : Bool) (target from to : ℕ) → Counts around active → LiteralLaid code active jumps target from to → AreTold code.steps around from to
literal_told code around active true target from to counts standing = one_told code.steps around from to standing.1 (told_at code around active from (StepKind.Jump target) counts standing.0.1.0)
literal_told code around active false target from to counts standing = none_told code.steps around from to standing

alone_told : (code : Steps) (around : Around) (active : List Active) (e : Expression) (o : Option Constant) (sense : Bool) (target from to : ℕ) → Counts around active →
    AloneLaid code active o e sense target from to → AreTold code.steps around from to
alone_told code around active e (Some k) sense target from to counts standing = literal_told code around active (beq sense (is_true_constant k)) target from to counts standing.1
alone_told code around active e None sense target from to counts (when, levels, tested, standing, said, t) =
    one_told code.steps around from to t (told_at code around active from (StepKind.Test when target levels) counts standing.0)

pub test_told : (code : Steps) (around : Around) (active : List Active) (e : Expression) (sense : Bool) (target from to : ℕ) → Counts around active → TestLaid code active e sense target from to →
    AreTold code.steps around from to
test_told code around active (and_expression line left right) sense target from to counts (mid, a, b, one, two) =
    both_told code.steps around from mid to (test_told code around active left false _ from mid counts one) (test_told code around active right sense target mid to counts two)
test_told code around active (or_expression line left right) sense target from to counts (mid, a, b, one, two) =
    both_told code.steps around from mid to (test_told code around active left true _ from mid counts one) (test_told code around active right sense target mid to counts two)
test_told code around active (unary_expression line UnaryOp.Not e) sense target from to counts standing = test_told code around active e (not sense) target from to counts standing
test_told code around active (parenthesized line e) sense target from to counts standing = test_told code around active e sense target from to counts standing
test_told code around active e sense target from to counts standing = alone_told code around active e (literal e) sense target from to counts standing

-- ---- conditions lie

pub record LogicFound (code : Steps) (e : Expression) (sense : Bool) (target from to : ℕ) : Type 0 where
  pub logic : Logic
  pub lies : LogicLies code.steps logic sense target from to
  pub never_false : is_never false logic ≡ never_is false e
  pub never_true : is_never true logic ≡ never_is true e
  pub count : operators logic ≡ logic_count e
  pub levels : AreInRoom code → logic_levels code.steps logic ≤ space_of_expression e

same_sense : (when sense : Bool) → when ≡ sense → false ≡ not (beq when sense)
same_sense true true e = refl
same_sense false false e = refl
same_sense true false e = cc
same_sense false true e = cc

other_sense : (when sense : Bool) → when ≡ not sense → true ≡ not (beq when sense)
other_sense true false e = refl
other_sense false true e = refl
other_sense true true e = cc
other_sense false false e = cc

either_way : (a b : Bool) → beq a b ≡ beq b a
either_way true true = refl
either_way true false = refl
either_way false true = refl
either_way false false = refl

-- an expression has room for one level at least
unless_one : (folded : Bool) (levels : ℕ) → 1 ≤ levels → 1 ≤ (if folded then 4 else levels)
unless_one true levels some = omega arith
unless_one false levels some = some

pub some_room : (e : Expression) → 1 ≤ space_of_expression e
some_room (binary_expression line op left right) = unless_one (is_some (fold (binary_expression line op left right))) _ (omega arith)
some_room (unary_expression line op e) = unless_one (is_some (fold (unary_expression line op e))) _ (omega arith)
some_room (parenthesized line e) = unless_one (is_some (fold e)) _ (omega arith)
some_room (nil_literal line) = omega arith
some_room e = omega arith

literal_lies : (code : Steps) (active : List Active) (jumps : Bool) (target from to : ℕ) → LiteralLaid code active jumps target from to → LiteralLies code.steps jumps from to target
literal_lies code active true target from to standing = (kind_there standing.0.1.0, standing.1)
literal_lies code active false target from to standing = standing

-- `==` takes as much room as the `~=` for which it stands
negated_room : (levels : ℕ) (tested e : Expression) → IsNegated tested e → NegatedInRoom levels tested → levels ≤ space_of_expression e
negated_room levels (binary_expression line BinaryOp.Eq left right) e is room = subst (λ x. levels ≤ space_of_expression x) (sym is.1) room
negated_room levels tested e is room = absurd is

-- what a step takes fits in the room of its part
pub in_room : (code : Steps) (active : List Active) (at : ℕ) (kind : StepKind) (part : Part) (standing : HasStep code active at kind part) → AreInRoom code → KindInRoom standing.0.step.levels kind part
in_room code active at kind part standing room = subst (λ k. KindInRoom standing.0.step.levels k part) standing.0.is (room at standing.0.step part standing.0.there standing.1)

leaf_found : (code : Steps) (active : List Active) (e : Expression) (sense : Bool) (target from to : ℕ) → false ≡ never_is false e → false ≡ never_is true e → 0 ≡ logic_count e →
    LeafLaid code active e sense target from to → LogicFound code e sense target from to
leaf_found code active e sense target from to never never_true count (when, levels, tested, standing, inl said, t) = record {
  logic = test_logic from false;
  lies = (refl, t, subst (λ k. TestGoes false sense target k) (sym (kind_there standing.0)) (refl, same_sense when sense said.1));
  never_false = never;
  never_true = never_true;
  count = count;
  levels = λ room.
      let a = (in_room code active from (StepKind.Test when target levels) (condition_part tested) standing room).0 in
      let b : test_levels false (slice_get code.steps from) ≡ standing.0.step.levels = ap (test_levels false) standing.0.there in
      let c = ap space_of_expression said.0 in
      omega arith;
}
leaf_found code active e sense target from to never never_true count (when, levels, tested, standing, inr said, t) = record {
  logic = test_logic from true;
  lies = (refl, t, subst (λ k. TestGoes true sense target k) (sym (kind_there standing.0)) (refl, other_sense when sense said.1));
  never_false = never;
  never_true = never_true;
  count = count;
  levels = λ room.
      let a = negated_room levels tested e said.0 (in_room code active from (StepKind.Test when target levels) (condition_part tested) standing room).1 in
      let b : test_levels true (slice_get code.steps from) ≡ levels = ap (test_levels true) standing.0.there ∙ ap (λ k. negated_levels k standing.0.step.levels) standing.0.is in
      omega arith;
}

alone_found : (code : Steps) (active : List Active) (e : Expression) (o : Option Constant) (sense : Bool) (target from to : ℕ) → is_other_literal false o ≡ never_is false e →
    is_other_literal true o ≡ never_is true e → 0 ≡ logic_count e → AloneLaid code active o e sense target from to → LogicFound code e sense target from to
alone_found code active e (Some k) sense target from to never never_true count standing = record {
  logic = literal_logic (is_true_constant k);
  lies = subst (λ b. LiteralLies code.steps b from to target) (either_way sense (is_true_constant k)) (literal_lies code active (beq sense (is_true_constant k)) target from to standing.1);
  never_false = never;
  never_true = never_true;
  count = count;
  levels = λ room. some_room e;
}
alone_found code active e None sense target from to never never_true count standing = leaf_found code active e sense target from to never never_true count standing

-- what is folded takes the room of a numeral
folded_room : (e : Expression) → is_some (fold e) ≡ true → space_of_expression e ≡ 4
folded_room (number_literal line n) h = refl
folded_room (parenthesized line e) h = ap (λ b. if b then 4 else (1 + space_of_expression e)) h
folded_room (unary_expression line op e) h = ap (λ b. if b then 4 else (1 + space_of_expression e)) h
folded_room (binary_expression line op left right) h = ap (λ b. if b then 4 else (1 + max (space_of_expression left) (space_of_expression right))) h
folded_room e h = cc

-- parentheses take no less room than what is in them
enclosed_room : (line : ℕ) (e : Expression) → space_of_expression e ≤ space_of_expression (parenthesized line e)
enclosed_room line e = by (is_some (fold e)) refl
  where
    by : (b : Bool) → is_some (fold e) ≡ b → space_of_expression e ≤ space_of_expression (parenthesized line e)
    by true h =
        let a = folded_room e h in
        let b : space_of_expression (parenthesized line e) ≡ 4 = ap (λ b. if b then 4 else (1 + space_of_expression e)) h in
        omega arith
    by false h =
        let b : space_of_expression (parenthesized line e) ≡ 1 + space_of_expression e = ap (λ b. if b then 4 else (1 + space_of_expression e)) h in
        omega arith

both_never : {a b c d : Bool} → a ≡ b → c ≡ d → (a && c) ≡ (b && d)
both_never e f = ap₂ (λ x y. x && y) e f

pub test_found : (code : Steps) (active : List Active) (e : Expression) (sense : Bool) (target from to : ℕ) → TestLaid code active e sense target from to → LogicFound code e sense target from to
test_found code active (and_expression line left right) sense target from to (mid, a, b, one, two) =
    let first = test_found code active left false _ from mid one in
    let second = test_found code active right sense target mid to two in
    record {
      logic = and_logic first.logic second.logic;
      lies = (mid, a, b, first.lies, second.lies);
      never_false = both_never first.never_false second.never_false;
      never_true = second.never_true;
      count = let c = first.count in let d = second.count in omega arith;
      levels = λ room. let c = first.levels room in let d = second.levels room in omega arith;
    }
test_found code active (or_expression line left right) sense target from to (mid, a, b, one, two) =
    let first = test_found code active left true _ from mid one in
    let second = test_found code active right sense target mid to two in
    record {
      logic = or_logic first.logic second.logic;
      lies = (mid, a, b, first.lies, second.lies);
      never_false = second.never_false;
      never_true = both_never first.never_true second.never_true;
      count = let c = first.count in let d = second.count in omega arith;
      levels = λ room. let c = first.levels room in let d = second.levels room in omega arith;
    }
test_found code active (unary_expression line UnaryOp.Not e) sense target from to standing =
    let inner = test_found code active e (not sense) target from to standing in
    record {
      logic = not_logic inner.logic;
      lies = inner.lies;
      never_false = inner.never_true;
      never_true = inner.never_false;
      count = ap suc inner.count;
      levels = λ room. let c = inner.levels room in omega arith;
    }
test_found code active (parenthesized line e) sense target from to standing =
    let inner = test_found code active e sense target from to standing in
    record {
      logic = inner.logic;
      lies = inner.lies;
      never_false = inner.never_false;
      never_true = inner.never_true;
      count = inner.count;
      levels = λ room. let c = inner.levels room in let d = enclosed_room line e in omega arith;
    }
test_found code active e sense target from to standing = alone_found code active e (literal e) sense target from to refl refl refl standing
