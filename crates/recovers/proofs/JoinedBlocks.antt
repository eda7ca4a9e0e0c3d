-- A readable block on one line: what must be known of all its parts, where it is well formed, not too deep and has room.
use Rattle.std.proofs.Common.{◌∙◌, ◌≡◌, ◌<◌, ◌≤◌, ℕ, zero, suc, Bool, true, false, List, [], ◌∷◌, refl, sym, subst, arith}
use Rattle.lua_num.specs.Bytes.{Text}
use Rattle.lua_tree.specs.Names.{are_names, are_some_names, is_name}
use Rattle.lua_tree.specs.OneLine.{one_line_branches, one_line_expression, one_line_otherwise, one_line_statement, one_line_statements, one_line_step}
use Rattle.lua_tree.specs.Syntax as syntax
use Rattle.lua_tree.specs.Syntax.{function_body, Statements, no_statements, Statement, assignment, call_statement, do_block, while_loop, repeat_loop, if_statement, numeric_for, generic_for, function_statement, local_function, local_statement, return_statement, break_statement, Branches, no_branches, branch, Otherwise, no_otherwise, otherwise, ForStep, no_step, by_step, Expression, no_expressions}
use Rattle.lua_tree.specs.WellFormed.{depth_of_branches, depth_of_expression, depth_of_otherwise, depth_of_statement, depth_of_statements, depth_of_step, formed_branches, formed_expression, formed_expressions, formed_otherwise, formed_statement, formed_statements, formed_step, has_branches, has_expressions, may_follow}
use Rattle.recover_expr.specs.Drafts.{head_part}
use Rattle.scheme_order.specs.Ordered.{ordered_block}
use Rattle.same_flow.specs.Blocks.{BranchesHold, OtherwiseHolds, StatementHolds, StatementsHold}
use Rattle.same_flow.specs.Laid.{head_values}
use Rattle.same_flow.specs.Space.{around_body, space_of_branches, space_of_expression, space_of_otherwise, space_of_statement, space_of_statements, space_of_step}
use Rattle.reads_back.specs.Assignments.{with_self}
use Rattle.reads_back.specs.Flows.{IsFlowBody, IsFlowPartBy}
use Rattle.reads_back.specs.Straight.{AllHaveCoresBy}
use Rattle.reads_back.proofs.Rooms.{body_room}
use Rattle.reads_back.proofs.Tests.{both_hold, first_of_both, second_of_both}
use Rattle.reads_back.specs.Cores.{IsPlainBody}
use Rattle.recovers.specs.Joined.{IsJoined, IsJoinedPart}
use Rattle.recovers.proofs.OrderedOnLine.{ordered_on_line}
use Rattle.lua_tree.specs.Outline.{all_params}
use Rattle.recovers.proofs.JoinedParts.{act_joined, head_joined, test_joined, values_joined}
use Rattle.recovers.proofs.OneLineBlocks.{block_again, block_as_around, block_as_roomy, block_formed}

module _ (most : ℕ) (few : most ≤ 200) (deep : ℕ) where
  -- ---- the values of a loop that counts

  numeric_joined : (name : Text) (first last : Expression) (by : ForStep) → AllHaveCoresBy (IsFlowBody deep) (head_values first last by) → is_name name ≡ true →
      formed_expression first ≡ true → formed_expression last ≡ true → formed_step by ≡ true →
      depth_of_expression first ≤ 200 → depth_of_expression last ≤ 200 → depth_of_step by ≤ 200 → space_of_expression first < most → space_of_expression last < most → space_of_step by < most →
      IsJoinedPart most (head_part (head_values (one_line_expression first) (one_line_expression last) (one_line_step by)) (name ∷ []))
  numeric_joined name first last no_step have good formed_first formed_last formed_by deep_first deep_last deep_by room_first room_last room_by =
      head_joined most few deep (syntax.expression first (syntax.expression last no_expressions)) (name ∷ []) have refl (both_hold _ _ good refl)
      (both_hold _ _ formed_first (both_hold _ _ formed_last refl)) (omega (arith, deep_first, deep_last)) (omega (arith, room_first, room_last))
  numeric_joined name first last (by_step e) have good formed_first formed_last formed_by deep_first deep_last deep_by room_first room_last room_by =
      head_joined most few deep (syntax.expression first (syntax.expression last (syntax.expression e no_expressions))) (name ∷ []) have refl (both_hold _ _ good refl)
      (both_hold _ _ formed_first (both_hold _ _ formed_last (both_hold _ _ formed_by refl))) (omega (arith, deep_first, deep_last, deep_by)) (omega (arith, room_first, room_last, room_by))

  -- ---- statements

  mutual
    block_joined : (looped : Bool) (block : Statements) → StatementsHold (IsFlowPartBy (IsFlowBody deep)) looped block →
        formed_statements block ≡ true → depth_of_statements block ≤ 200 → space_of_statements block ≤ most → StatementsHold (IsJoinedPart most) looped (one_line_statements block)
    block_joined looped no_statements holds formed shallow roomy = tt
    block_joined looped (syntax.statement line semi s rest) holds formed shallow roomy =
        let behind = second_of_both (may_follow s semi rest) _ (second_of_both (formed_statement s) _ formed) in (
          statement_joined looped s holds.0 (first_of_both _ _ formed) (omega (arith, shallow)) (omega (arith, roomy)),
          block_joined looped rest holds.1 behind (omega (arith, shallow)) (omega (arith, roomy)),
        )

    statement_joined : (looped : Bool) (s : Statement) → StatementHolds (IsFlowPartBy (IsFlowBody deep)) looped s →
        formed_statement s ≡ true → depth_of_statement s ≤ 199 → space_of_statement s < most → StatementHolds (IsJoinedPart most) looped (one_line_statement s)
    statement_joined looped (do_block block) holds formed shallow roomy = block_joined looped block holds formed (omega (arith, shallow)) (omega (arith, roomy))
    statement_joined looped (while_loop e block) holds formed shallow roomy = (
      test_joined most few deep e holds.0 (first_of_both _ _ formed) (omega (arith, shallow)) (omega (arith, roomy)),
      block_joined true block holds.1 (second_of_both (formed_expression e) _ formed) (omega (arith, shallow)) (omega (arith, roomy)),
    )
    statement_joined looped (repeat_loop block e) holds formed shallow roomy = (
      block_joined true block holds.0 (first_of_both _ _ formed) (omega (arith, shallow)) (omega (arith, roomy)),
      test_joined most few deep e holds.1 (second_of_both (formed_statements block) _ formed) (omega (arith, shallow)) (omega (arith, roomy)),
    )
    statement_joined looped (if_statement branches last) holds formed shallow roomy =
        let arms = second_of_both (has_branches branches) _ formed in (
          branches_joined looped branches holds.0 (first_of_both _ _ arms) (omega (arith, shallow)) (omega (arith, roomy)),
          otherwise_joined looped last holds.1 (second_of_both (formed_branches branches) _ arms) (omega (arith, shallow)) (omega (arith, roomy)),
        )
    statement_joined looped (numeric_for name first last by block) holds formed shallow roomy =
        let values = second_of_both (is_name name) _ formed in
        let behind = second_of_both (formed_expression first) _ values in
        let steps = second_of_both (formed_expression last) _ behind in (
          numeric_joined name first last by holds.0 (first_of_both _ _ formed) (first_of_both _ _ values) (first_of_both _ _ behind) (first_of_both _ _ steps)
              (omega (arith, shallow)) (omega (arith, shallow)) (omega (arith, shallow)) (omega (arith, roomy)) (omega (arith, roomy)) (omega (arith, roomy)),
          block_joined true block holds.1 (second_of_both (formed_step by) _ steps) (omega (arith, shallow)) (omega (arith, roomy)),
        )
    statement_joined looped (generic_for names es block) holds formed shallow roomy =
        let some = second_of_both (are_some_names names) _ formed in
        let values = second_of_both (has_expressions es) _ some in (
          head_joined most few deep es names holds.0 (first_of_both _ _ some) (first_of_both _ _ formed) (first_of_both _ _ values) (omega (arith, shallow)) (omega (arith, roomy)),
          block_joined true block holds.1 (second_of_both (formed_expressions es) _ values) (omega (arith, shallow)) (omega (arith, roomy)),
        )
    statement_joined looped (return_statement es) holds formed shallow roomy = values_joined most few deep es holds formed shallow roomy
    statement_joined looped break_statement holds formed shallow roomy = holds
    statement_joined looped (call_statement e) holds formed shallow roomy = act_joined most few deep (call_statement e) tt refl holds formed shallow roomy
    statement_joined looped (assignment targets es) holds formed shallow roomy = act_joined most few deep (assignment targets es) tt refl holds formed shallow roomy
    statement_joined looped (local_statement names es) holds formed shallow roomy = act_joined most few deep (local_statement names es) tt refl holds formed shallow roomy
    statement_joined looped (local_function name body) holds formed shallow roomy = act_joined most few deep (local_function name body) tt refl holds formed shallow roomy
    statement_joined looped (function_statement path method body) holds formed shallow roomy = act_joined most few deep (function_statement path method body) tt refl holds formed shallow roomy

    branches_joined : (looped : Bool) (branches : Branches) → BranchesHold (IsFlowPartBy (IsFlowBody deep)) looped branches →
        formed_branches branches ≡ true → depth_of_branches branches ≤ 199 → space_of_branches branches < most → BranchesHold (IsJoinedPart most) looped (one_line_branches branches)
    branches_joined looped no_branches holds formed shallow roomy = tt
    branches_joined looped (branch e block rest) holds formed shallow roomy =
        let behind = second_of_both (formed_expression e) _ formed in (
          test_joined most few deep e holds.0 (first_of_both _ _ formed) (omega (arith, shallow)) (omega (arith, roomy)),
          block_joined looped block holds.1 (first_of_both _ _ behind) (omega (arith, shallow)) (omega (arith, roomy)),
          branches_joined looped rest holds.2 (second_of_both (formed_statements block) _ behind) (omega (arith, shallow)) (omega (arith, roomy)),
        )

    otherwise_joined : (looped : Bool) (last : Otherwise) → OtherwiseHolds (IsFlowPartBy (IsFlowBody deep)) looped last →
        formed_otherwise last ≡ true → depth_of_otherwise last ≤ 199 → space_of_otherwise last < most → OtherwiseHolds (IsJoinedPart most) looped (one_line_otherwise last)
    otherwise_joined looped no_otherwise holds formed shallow roomy = tt
    otherwise_joined looped (otherwise block) holds formed shallow roomy = block_joined looped block holds formed (omega (arith, shallow)) (omega (arith, roomy))

-- ---- all that must be known of it

pub on_one_line_joined : (deep : ℕ) (params : List Text) (block : Statements) → formed_statements block ≡ true → depth_of_statements block ≤ 200 → StatementsHold (IsFlowPartBy (IsFlowBody deep)) false block →
    ordered_block params block ≡ true → around_body block (space_of_statements block) ≤ 200 → IsJoined params (one_line_statements block)
on_one_line_joined deep params block formed shallow holds ordered room =
    let levels = space_of_statements block in
    let roomy : space_of_statements (one_line_statements block) ≡ levels = block_as_roomy block in
    record {
      again = block_again block;
      formed = block_formed block formed;
      parts = subst (λ (most : ℕ). StatementsHold (IsJoinedPart most) false (one_line_statements block)) (sym roomy)
          (block_joined levels (omega (arith, room, body_room [] false block 1 1)) deep false block holds formed shallow (omega arith));
      ordered = ordered_on_line params block ∙ ordered;
      room = omega (arith, room, block_as_around block);
    }

-- so is the block of a plain function, which is on one line already
plain_is_joined : (params : List Text) (vararg : Bool) (block : Statements) → IsPlainBody (function_body params vararg block 1 1) → depth_of_statements block ≤ 199 → IsJoined params block
plain_is_joined params vararg block plain shallow = by plain.deep plain.flow
  where
    line : one_line_statements block ≡ block
    line = let on_line = plain.on_line in cc

    by : (deep : ℕ) → IsFlowBody deep (function_body params vararg block 1 1) → IsJoined params block
    by zero none = absurd none
    by (suc deep) holds =
        subst (IsJoined params) line (on_one_line_joined deep params block (second_of_both (are_names params) _ plain.formed) (omega (arith, shallow)) holds.0 holds.1 plain.room)

-- a method has `self` among its parameters
pub plain_are_joined : (method : Bool) (params : List Text) (vararg : Bool) (block : Statements) → IsPlainBody (with_self method (function_body params vararg block 1 1)) → depth_of_statements block ≤ 199 →
    IsJoined (all_params method params) block
plain_are_joined true params vararg block plain shallow = plain_is_joined (all_params true params) vararg block plain shallow
plain_are_joined false params vararg block plain shallow = plain_is_joined params vararg block plain shallow
