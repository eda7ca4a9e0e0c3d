-- An arm of an `if` stands, with its law, where its block does, and what is behind it stands there.
use Rattle.std.proofs.Common.{◌≡◌, ◌≤◌, ℕ, suc, Bool, true, false, List, length, get_or, refl, sym, ap, ◌∙◌, subst, arith}
use Rattle.std.specs.Prelude.{Option, is_some, ◌||◌}
use Rattle.lua_tree.specs.Outline as outline
use Rattle.lua_tree.specs.Outline.{Mark, Place, both, expression_part, stay, statements_part, within}
use Rattle.lua_tree.specs.Syntax.{Branches, Expression, Statements, branch, no_branches}
use Rattle.lua_tree.specs.WellFormed.{formed_expression, formed_statements}
use Rattle.opcode.specs.declared.op.Op.{Op}
use Rattle.scheme.specs.Making.{Maker, active_count, jump_to, when}
use Rattle.scheme.specs.Scheme.{branches_made, coded, has_branch, statements_made}
use Rattle.scheme.specs.Statements.{Loop, arm_part, block_part}
use Rattle.scheme.specs.declared.making.Piece.{Piece}
use Rattle.scheme_stands.specs.Placed.{RulesKept}
use Rattle.scheme_stands.specs.Relation.{BranchesAt, StatementsAt, related}
use Rattle.scheme_stands.specs.Words.{Names, asking}
use Rattle.scheme_stands.proofs.Blocks.{Settled, arm_at, arm_calm, block_grows, loop_at}
use Rattle.scheme_stands.proofs.Counting.{closed_inner, expression_closed, statements_counted}
use Rattle.scheme_stands.proofs.Every.{links, statements_at}
use Rattle.scheme_stands.proofs.Growth.{Final, Grown, before, calm, fn_of, later, length_end, on_put, spot, start, unplaced}
use Rattle.scheme_stands.proofs.Here.{Tame, tame_both, tame_expression, tame_statements, tame_stay}
use Rattle.scheme_stands.proofs.Lifts as lifts
use Rattle.scheme_stands.proofs.Lifts.{Stands, stands_behind, stands_first}
use Rattle.scheme_stands.proofs.Links.{jump_on}
use Rattle.scheme_stands.proofs.Moving.{behind}
use Rattle.scheme_stands.proofs.Parts.{grows, grows_when}
use Rattle.scheme_stands.proofs.Scopes.{statements_move}
use Rattle.scheme_stands.proofs.Small.{Setting}
use Rattle.scheme_stands.proofs.Statements.{calm_branches, grow_statements}
use Rattle.scheme_stands.proofs.Walks.{block_moves, jump_same, within_moves}
use Rattle.scheme_stands.proofs.Words.{Lifted}
use Rattle.same_flow.specs.Laid.{arm_begun, with_new_labels}
use Rattle.reads_back.proofs.ThroughParts.{IsThrough, before_ends, block_lifted, block_words, in_block, jump_if_lifted}
use Rattle.reads_back.proofs.ThroughTests.{behind_test, stands_made, still_settled, test_through}
use Rattle.reads_back.specs.Through.{BodyThrough, EndsThrough, JumpThrough, TestThrough}

-- the words of all arms, with nothing asked of them
pub branch_words : (z : Maker) (branches : Branches) (line : ℕ) (loop : Option Loop) (end : ℕ) (more : Bool) (m : Maker) → Settled m → Final (length m.labels) (branches_made branches line loop end more m) z →
    BranchesAt (fn_of z) (loop_at z loop) (get_or z.labels end 0) more branches m.active (spot m) (spot (branches_made branches line loop end more m))
branch_words z no_branches line loop end more m settled final = record { pc = refl; ahead = refl; functions = refl }
branch_words z (branch e block rest) line loop end more m settled final =
    let on = has_branch rest || more in
    let arm = arm_part line end on (coded e) (statements_made block loop) m in
    let one = arm_calm line end on (coded e) (statements_made block loop) (grows calm e) (grow_statements block loop) m settled in
    let others = calm_branches rest line loop end more arm one.settled in
    let grown = one.grown in
    record {
      mid = spot arm;
      first_at = arm_at z line end on (coded e) (related (fn_of z) e) (statements_made block loop) (StatementsAt (fn_of z) (loop_at z loop) block) (grows calm e) (links z e) (grow_statements block loop) (statements_at z block loop) m settled (before others.grown final);
      second_at = subst (λ active. BranchesAt (fn_of z) (loop_at z loop) (get_or z.labels end 0) more rest active (spot arm) (spot (branches_made rest line loop end more arm))) grown.active (branch_words z rest line loop end more arm one.settled (later grown.more final));
    }

calm_block : (block : Statements) → lifts.Calm (within stay (statements_part block))
calm_block block = record { tame = tame_stay (statements_part block) (tame_statements block); closed = λ at. closed_inner stay (statements_part block) at refl refl (statements_counted block at) }

module _ (all : List Mark) (rules : RulesKept all) (n : Names) (z : Maker) (setting : Setting n (fn_of z)) where
  module _ (line end : ℕ) (more : Bool) (e : Expression) (block : Statements) (loop : Option Loop) (m : Maker) (formed : formed_expression e ≡ true) (formed_block : formed_statements block ≡ true) (settled : Settled m)
      (final : Final (length m.labels) (arm_part line end more (coded e) (statements_made block loop) m) z) where
    abbrev body : outline.Part
    body = within stay (statements_part block)

    abbrev made : Maker
    made = block_part line (statements_made block loop) (arm_begun e m)

    begun_count : length (with_new_labels 1 m).labels ≡ suc (length m.labels)
    begun_count = length_end m.labels 0

    test_grown : Grown calm (with_new_labels 1 m) (arm_begun e m)
    test_grown = (grows calm e).jump_if false (length m.labels) (with_new_labels 1 m)

    begun_settled : Settled (arm_begun e m)
    begun_settled = still_settled m (arm_begun e m) settled ((grows calm e).jump_free false (length m.labels) (with_new_labels 1 m)) test_grown.active

    leave_final : Final (suc (length m.labels)) (when more (jump_to line end) made) z
    leave_final = unplaced {n = when more (jump_to line end) made} (length m.labels) (omega arith) final

    made_final : Final (suc (length m.labels)) made z
    made_final = before (grows_when more (jump_to line end) made (on_put {v = calm} line (Piece.Jump Op.Jmp 0 end) (start made))) leave_final

    test_final : Final (length (with_new_labels 1 m).labels) (arm_begun e m) z
    test_final = later (omega (arith, begun_count)) (before (grow_statements block loop (arm_begun e m) begun_settled) (before_ends line (active_count (arm_begun e m)) (statements_made block loop (arm_begun e m)) made_final))

    block_final : Final (length (arm_begun e m).labels) made z
    block_final = let grown = test_grown in later (omega (arith, begun_count, grown.more)) made_final

    module _ (c : outline.Part) (tame : Tame c) (at : Place) (rest : List Mark) (stands : Stands all n (fn_of z) (both (expression_part e) (both body c)) at rest m.active (spot m)) where
      tame_body : Tame body
      tame_body = tame_stay (statements_part block) (tame_statements block)

      tame_two : Tame (both body c)
      tame_two = tame_both body c tame_body tame

      at_body : Stands all n (fn_of z) (both body c) (expression_part e at).next rest (arm_begun e m).active (spot (arm_begun e m))
      at_body = behind_test all rules n z setting e formed (both body c) tame_two false (length m.labels) (with_new_labels 1 m) at rest settled test_final stands

      pub arm_through : IsThrough all rules n z setting block → is_some loop ≡ at.looped → Lifted (fn_of z)
          (TestThrough (asking n (fn_of z)) z e false (length m.labels) (with_new_labels 1 m) × BodyThrough (asking n (fn_of z)) z loop block (arm_begun e m) × EndsThrough (asking n (fn_of z)) line (active_count m) (statements_made block loop (arm_begun e m)) × JumpThrough (asking n (fn_of z)) z more line end made)
          (spot (when more (jump_to line end) made))
      arm_through through some =
          let test = test_through all rules n z setting e formed false (length m.labels) (with_new_labels 1 m) at _ settled test_final (stands_first all n (fn_of z) (expression_part e) (both body c) at rest m.active (spot m) (tame_expression e) tame_two stands) in
          let first = stands_first all n (fn_of z) body c (expression_part e at).next rest (arm_begun e m).active (spot (arm_begun e m)) tame_body tame at_body in
          let inside = block_lifted all rules n z setting line block through loop (arm_begun e m) (expression_part e at).next _ formed_block begun_settled block_final (some ∙ sym (expression_closed e at).counted.looped)
          (in_block all rules n z setting block (expression_part e at).next _ (arm_begun e m).active (spot (arm_begun e m)) first) in
          let leave = jump_if_lifted all rules n z setting more line end made leave_final inside.plain in
          let grown = test_grown in
          record { is = (test, inside.is.0, subst (λ k. EndsThrough (asking n (fn_of z)) line k (statements_made block loop (arm_begun e m))) (ap length grown.active) inside.is.1, leave.is); plain = leave.plain }

      pub arm_behind : Lifted (fn_of z) (Unit {0}) (spot (when more (jump_to line end) made)) → Stands all n (fn_of z) c (body (expression_part e at).next).next rest (arm_part line end more (coded e) (statements_made block loop) m).active (spot (when more (jump_to line end) made))
      arm_behind lifted =
          let begun = arm_begun e m in
          let left = when more (jump_to line end) made in
          let words = block_words all rules n z setting line block loop begun begun_settled block_final in
          let moved = within_moves all (fn_of z) stay (statements_part block) (λ at. refl) (λ at. refl) (spot begun) (spot made)
          (block_moves all (fn_of z) (statements_part block) _ (statements_move all (fn_of z) (loop_at z loop) block formed_block) begun.active (spot begun) (spot made) words) in
          let same = jump_same all (fn_of z) more (get_or z.labels end 0) (spot made) (spot left) (jump_on z more line end made (later made_more leave_final)) in
          let made_grown = block_grows line (statements_made block loop) begun (grow_statements block loop begun begun_settled) in
          let left_grown = grows_when more (jump_to line end) made (on_put {v = calm} line (Piece.Jump Op.Jmp 0 end) (start made)) in
          stands_made all rules n z setting c (body (expression_part e at).next).next rest begun.active left.active (spot left) (left_grown.active ∙ made_grown.active)
          (stands_behind all n (fn_of z) body c (expression_part e at).next rest begun.active (spot begun) (spot left) (calm_block block) (behind all body (spot begun) (spot made) (spot left) moved same) lifted.plain at_body)
        where
          made_more : suc (length m.labels) ≤ length made.labels
          made_more = let made_grown = block_grows line (statements_made block loop) (arm_begun e m) (grow_statements block loop (arm_begun e m) begun_settled) in let grown = test_grown in omega (arith, begun_count, grown.more, made_grown.more)
