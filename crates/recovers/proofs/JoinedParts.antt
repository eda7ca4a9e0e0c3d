-- A part of a readable block is on one line what must be known of it: an act, values, the head of a loop, and what is tested in a condition.
use Rattle.std.proofs.Common.{◌≡◌, ◌<◌, ◌≤◌, ℕ, true, false, List, Option, Some, None, refl, sym, ap, ◌∙◌, arith, subst}
use Rattle.std.specs.Prelude.{is_some}
use Rattle.lua_num.specs.Bytes.{Text}
use Rattle.lua_tree.specs.Names.{are_some_names}
use Rattle.lua_tree.specs.OneLine.{one_line_expression, one_line_expressions, one_line_statement}
use Rattle.lua_tree.specs.Precedence.{is_right_associative, left_binds, level_of_op, right_binds}
use Rattle.lua_tree.specs.Syntax.{Statement, function_statement, return_statement, Expressions, Expression, and_expression, or_expression, binary_expression, unary_expression, parenthesized}
use Rattle.lua_tree.specs.WellFormed.{depth_of_expression, depth_of_expressions, depth_of_statement, ends_block, formed_expression, formed_expressions, formed_statement, has_expressions}
use Rattle.lua_tree.specs.declared.tree.BinaryOp.{BinaryOp}
use Rattle.lua_tree.specs.declared.tree.UnaryOp.{UnaryOp}
use Rattle.proto.specs.declared.parts.Constant.{Constant}
use Rattle.recover_expr.specs.Drafts.{condition_part, head_part, statement_part, values_part}
use Rattle.scheme.specs.Expressions.{literal}
use Rattle.scheme.specs.Shapes.{plainness}
use Rattle.same_flow.specs.Blocks.{AloneHolds, TestHolds, tested_as}
use Rattle.same_flow.specs.Renaming.{IsOneStep, IsTested}
use Rattle.same_flow.specs.Space.{space_of_expression, space_of_expressions, space_of_statement}
use Rattle.reads_back.specs.Acted.{lean_depth}
use Rattle.reads_back.specs.Assignments.{as_assignment}
use Rattle.reads_back.specs.Cores.{AllHaveCores, HasCore}
use Rattle.reads_back.specs.Flows.{IsFlowBody, IsFlowLeafBy, IsFlowPartBy}
use Rattle.reads_back.specs.Straight.{AllHaveCoresBy, HasCoreBy, IsActBy, IsStraightStatementBy}
use Rattle.reads_back.proofs.FlowThere.{IsFlowAct, IsFlowStatement}
use Rattle.reads_back.proofs.FunctionStatements.{assigned_formed, assigned_roomy, assigned_shallow, path_on_line, statement_is_act}
use Rattle.reads_back.proofs.OneLineActs.{act_on_line, core_on_line, cores_on_line, self_on_line, straight_statement_on_line}
use Rattle.reads_back.proofs.PlainBodies.{plain_act, plain_core, plain_cores}
use Rattle.reads_back.proofs.OneLineRules.{same_some}
use Rattle.reads_back.proofs.Rooms.{inside_room, lean_room, left_room}
use Rattle.reads_back.proofs.TestedAs.{HasTest}
use Rattle.reads_back.proofs.Tests.{both_hold, first_of_both, second_of_both}
use Rattle.reads_back.proofs.WordsSame.{same_literal}
use Rattle.recovers.specs.Joined.{IsJoinedPart}
use Rattle.recovers.proofs.CoresPlain.{core_plain, cores_plain, straight_statement_plain}
use Rattle.recovers.proofs.FlowOnLine.{flow_stays, tested_on_line}
use Rattle.recovers.proofs.FlowPlain.{flow_plain}
use Rattle.recovers.proofs.LeanOneLine.{lean_as_deep, lean_as_roomy}
use Rattle.recovers.proofs.OneLineBlocks.{expression_again, expression_as_deep, expression_as_roomy, expression_formed, expressions_again, expressions_as_deep, expressions_as_roomy, expressions_formed, statement_again, statement_as_roomy, statement_formed}

-- ---- the assignment that a function statement stands for

assignment_line : (s : Statement) → one_line_statement (as_assignment s) ≡ as_assignment (one_line_statement s)
assignment_line (function_statement path method body) = cc (path_on_line path method, self_on_line (is_some method) body)
assignment_line s = refl

-- ---- what a leaf is tested as

-- what is tested as a whole
abbrev IsLeaf : Expression → Type 0
IsLeaf (and_expression line left right) = ⊥
IsLeaf (or_expression line left right) = ⊥
IsLeaf (unary_expression line UnaryOp.Not e) = ⊥
IsLeaf (parenthesized line e) = ⊥
IsLeaf e = Unit {0}

tested_again : (e : Expression) → tested_as (tested_as e) ≡ tested_as e
tested_again (binary_expression line BinaryOp.Ne left right) = refl
tested_again e = refl

tested_as_deep : (e : Expression) → depth_of_expression (tested_as e) ≡ depth_of_expression e
tested_as_deep (binary_expression line BinaryOp.Ne left right) = refl
tested_as_deep e = refl

tested_as_roomy : (e : Expression) → space_of_expression (tested_as e) ≡ space_of_expression e
tested_as_roomy (binary_expression line BinaryOp.Ne left right) = refl
tested_as_roomy e = refl

tested_formed : (e : Expression) → formed_expression (tested_as e) ≡ formed_expression e
tested_formed (binary_expression line BinaryOp.Ne left right) = refl
tested_formed e = refl

-- a comparison of values, or a value that is no literal
binary_test : (op : BinaryOp) (left right : Expression) → HasCore left × HasCore right → literal (binary_expression 1 op left right) ≡ None → HasTest (tested_as (binary_expression 1 op left right))
binary_test BinaryOp.Ne left right are none = are
binary_test BinaryOp.Eq left right are none = are
binary_test BinaryOp.Lt left right are none = are
binary_test BinaryOp.Gt left right are none = are
binary_test BinaryOp.Le left right are none = are
binary_test BinaryOp.Ge left right are none = are
binary_test op left right are none = ((refl, are.0, are.1), none)

binary_tested : (op : BinaryOp) (left right : Expression) → (plainness left).value ≡ true → (plainness right).value ≡ true → IsTested (tested_as (binary_expression 1 op left right))
binary_tested BinaryOp.Ne left right first second = both_hold _ _ first second
binary_tested op left right first second = both_hold _ _ first second

module _ (most : ℕ) (few : most ≤ 200) (deep : ℕ) where
  -- ---- values

  core_joined : (e : Expression) → HasCoreBy (IsFlowBody deep) e → formed_expression e ≡ true → space_of_expression e ≤ 200 → HasCore (one_line_expression e)
  core_joined e has formed roomy =
      plain_core deep (one_line_expression e) (core_on_line (flow_stays deep) e has) (expression_formed e formed) (expression_again e) (omega (arith, roomy, expression_as_roomy e))

  value_plain : (e : Expression) → HasCoreBy (IsFlowBody deep) e → (plainness (one_line_expression e)).value ≡ true
  value_plain e has = core_plain (flow_plain deep) (one_line_expression e) (core_on_line (flow_stays deep) e has)

  cores_joined : (es : Expressions) → AllHaveCoresBy (IsFlowBody deep) es → formed_expressions es ≡ true → space_of_expressions es ≤ 200 → AllHaveCores (one_line_expressions es)
  cores_joined es have formed roomy =
      plain_cores deep (one_line_expressions es) (cores_on_line (flow_stays deep) es have) (expressions_formed es formed) (expressions_again es) (omega (arith, roomy, expressions_as_roomy es))

  -- ---- acts

  flow_act : (s : Statement) → IsActBy (IsFlowBody deep) s → formed_statement s ≡ true → lean_depth s ≤ 199 → lean_room s ≤ 200 → IsFlowAct (one_line_statement s)
  flow_act s is formed shallow roomy = record {
    is = plain_act deep (one_line_statement s) (act_on_line (flow_stays deep) s is) (statement_formed s formed) (statement_again s) (omega (arith, roomy, lean_as_roomy s));
    shallow = subst (λ (depth : ℕ). depth ≤ 199) (sym (lean_as_deep s)) shallow;
    on_line = statement_again s;
  }

  -- a function statement stands for an assignment
  flow_statement : (s : Statement) → IsStraightStatementBy (IsFlowBody deep) s → formed_statement s ≡ true → depth_of_statement s ≤ 199 → space_of_statement s ≤ 200 → IsFlowStatement (one_line_statement s)
  flow_statement s is formed shallow roomy = record {
    formed = statement_formed s formed;
    act = subst IsFlowAct (assignment_line s) (flow_act (as_assignment s) (statement_is_act (IsFlowBody deep) s is formed) (assigned_formed s formed)
        (omega (arith, shallow, assigned_shallow s formed)) (omega (arith, roomy, assigned_roomy s formed)));
  }

  pub act_joined : (s : Statement) → IsOneStep (one_line_statement s) → ends_block (one_line_statement s) ≡ false → IsStraightStatementBy (IsFlowBody deep) s →
      formed_statement s ≡ true → depth_of_statement s ≤ 199 → space_of_statement s < most →
      IsJoinedPart most (statement_part (one_line_statement s))
  act_joined s one goes_on is formed shallow roomy = record {
    plain = (one, straight_statement_plain (flow_plain deep) (one_line_statement s) (straight_statement_on_line (flow_stays deep) s is));
    flow = flow_statement s is formed shallow (omega (arith, few, roomy));
    formed = (statement_formed s formed, goes_on);
    roomy = subst (λ (room : ℕ). room < most) (sym (statement_as_roomy s)) roomy;
  }

  pub values_joined : (es : Expressions) → AllHaveCoresBy (IsFlowBody deep) es →
      formed_expressions es ≡ true → depth_of_expressions es ≤ 199 → space_of_expressions es < most → IsJoinedPart most (values_part (one_line_expressions es))
  values_joined es have formed shallow roomy = record {
    plain = cores_plain (flow_plain deep) (one_line_expressions es) (cores_on_line (flow_stays deep) es have);
    flow = flow_act (return_statement es) have formed shallow (omega (arith, few, roomy));
    formed = expressions_formed es formed;
    roomy = subst (λ (room : ℕ). room < most) (sym (expressions_as_roomy es)) roomy;
  }

  pub head_joined : (es : Expressions) (names : List Text) → AllHaveCoresBy (IsFlowBody deep) es → has_expressions es ≡ true → are_some_names names ≡ true →
      formed_expressions es ≡ true → depth_of_expressions es ≤ 200 → space_of_expressions es < most → IsJoinedPart most (head_part (one_line_expressions es) names)
  head_joined es names have some good formed shallow roomy =
      let some_there : has_expressions (one_line_expressions es) ≡ true = same_some es ∙ some in
      record {
        plain = cores_plain (flow_plain deep) (one_line_expressions es) (cores_on_line (flow_stays deep) es have);
        flow = record {
          has = cores_joined es have formed (omega (arith, few, roomy));
          some = some_there;
          good = good;
          shallow = subst (λ (depth : ℕ). depth ≤ 200) (sym (expressions_as_deep es)) shallow;
          on_line = expressions_again es;
        };
        formed = (good, some_there, expressions_formed es formed);
        roomy = subst (λ (room : ℕ). room < most) (sym (expressions_as_roomy es)) roomy;
      }

  -- ---- conditions

  operands_have : (line : ℕ) (op : BinaryOp) (left right : Expression) → IsFlowLeafBy (IsFlowBody deep) (tested_as (binary_expression line op left right)) →
      HasCoreBy (IsFlowBody deep) left × HasCoreBy (IsFlowBody deep) right
  operands_have line BinaryOp.Ne left right are = are
  operands_have line op left right are = are

  leaf_tested : (e : Expression) → IsLeaf e → IsFlowLeafBy (IsFlowBody deep) (tested_as e) → IsTested (tested_as (one_line_expression e))
  leaf_tested (binary_expression line op left right) leaf is =
      let have = operands_have line op left right is in
      binary_tested op (one_line_expression left) (one_line_expression right) (value_plain left have.0) (value_plain right have.1)
  leaf_tested (and_expression line left right) leaf is = absurd leaf
  leaf_tested (or_expression line left right) leaf is = absurd leaf
  leaf_tested (unary_expression line UnaryOp.Not e) leaf is = absurd leaf
  leaf_tested (parenthesized line e) leaf is = absurd leaf
  leaf_tested e leaf is = value_plain e is

  leaf_has : (e : Expression) → IsLeaf e → literal e ≡ None → IsFlowLeafBy (IsFlowBody deep) (tested_as e) → formed_expression e ≡ true → space_of_expression e ≤ 200 → HasTest (tested_as (one_line_expression e))
  leaf_has (binary_expression line op left right) leaf none is formed roomy =
      let inside = left_room line op left right in
      let have = operands_have line op left right is in
      let level = level_of_op op in
      let associative = is_right_associative op in
      let parts = second_of_both (right_binds level associative right) _ (second_of_both (left_binds level associative left) _ formed) in
      binary_test op (one_line_expression left) (one_line_expression right)
      (core_joined left have.0 (first_of_both _ _ parts) (omega (arith, inside, roomy)), core_joined right have.1 (second_of_both (formed_expression left) _ parts) (omega (arith, inside, roomy)))
      (same_literal (binary_expression line op left right) ∙ none)
  leaf_has (and_expression line left right) leaf none is formed roomy = absurd leaf
  leaf_has (or_expression line left right) leaf none is formed roomy = absurd leaf
  leaf_has (unary_expression line UnaryOp.Not e) leaf none is formed roomy = absurd leaf
  leaf_has (parenthesized line e) leaf none is formed roomy = absurd leaf
  leaf_has e leaf none is formed roomy = (core_joined e is formed roomy, same_literal e ∙ none)

  leaf_joined : (e : Expression) → IsLeaf e → literal e ≡ None → IsFlowPartBy (IsFlowBody deep) (condition_part (tested_as e)) →
      formed_expression e ≡ true → depth_of_expression e ≤ 200 → space_of_expression e < most → IsJoinedPart most (condition_part (tested_as (one_line_expression e)))
  leaf_joined e leaf none is formed shallow roomy =
      let line = one_line_expression e in
      record {
        plain = leaf_tested e leaf is;
        flow = record {
          has = leaf_has e leaf none is formed (omega (arith, few, roomy));
          shallow = subst (λ (depth : ℕ). depth ≤ 200) (sym (tested_as_deep line ∙ expression_as_deep e)) shallow;
          on_line = tested_on_line line ∙ ap tested_as (expression_again e);
          tested = tested_again line;
        };
        formed = tested_formed line ∙ expression_formed e formed;
        roomy = subst (λ (room : ℕ). room < most) (sym (tested_as_roomy line ∙ expression_as_roomy e)) roomy;
      }

  alone_joined : (e : Expression) → IsLeaf e → (k : Option Constant) → literal e ≡ k → AloneHolds (IsFlowPartBy (IsFlowBody deep)) k e →
      formed_expression e ≡ true → depth_of_expression e ≤ 200 → space_of_expression e < most → AloneHolds (IsJoinedPart most) (literal (one_line_expression e)) (one_line_expression e)
  alone_joined e leaf k is holds formed shallow roomy = subst (λ (k : Option Constant). AloneHolds (IsJoinedPart most) k (one_line_expression e)) (sym (same_literal e ∙ is)) (by k is holds)
    where
      by : (k : Option Constant) → literal e ≡ k → AloneHolds (IsFlowPartBy (IsFlowBody deep)) k e → AloneHolds (IsJoinedPart most) k (one_line_expression e)
      by (Some k) is holds = tt
      by None is holds = leaf_joined e leaf is holds formed shallow roomy

  -- the leaves of a condition
  pub test_joined : (e : Expression) → TestHolds (IsFlowPartBy (IsFlowBody deep)) e →
      formed_expression e ≡ true → depth_of_expression e ≤ 200 → space_of_expression e < most → TestHolds (IsJoinedPart most) (one_line_expression e)
  test_joined (and_expression line left right) holds formed shallow roomy =
      let parts = second_of_both (right_binds 2 false right) _ (second_of_both (left_binds 2 false left) _ formed) in (
        test_joined left holds.0 (first_of_both _ _ parts) (omega (arith, shallow)) (omega (arith, roomy)),
        test_joined right holds.1 (second_of_both (formed_expression left) _ parts) (omega (arith, shallow)) (omega (arith, roomy)),
      )
  test_joined (or_expression line left right) holds formed shallow roomy =
      let parts = second_of_both (right_binds 1 false right) _ (second_of_both (left_binds 1 false left) _ formed) in (
        test_joined left holds.0 (first_of_both _ _ parts) (omega (arith, shallow)) (omega (arith, roomy)),
        test_joined right holds.1 (second_of_both (formed_expression left) _ parts) (omega (arith, shallow)) (omega (arith, roomy)),
      )
  test_joined (unary_expression line UnaryOp.Not e) holds formed shallow roomy = test_joined e holds (second_of_both (left_binds 7 false e) _ formed) (omega (arith, shallow)) (omega (arith, roomy))
  test_joined (parenthesized line e) holds formed shallow roomy = let inside = inside_room line e in test_joined e holds formed (omega (arith, shallow)) (omega (arith, inside, roomy))
  test_joined e holds formed shallow roomy = alone_joined e tt (literal e) refl holds formed shallow roomy
