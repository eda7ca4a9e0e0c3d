-- Blocks and the loops `while` and `repeat` that stand on steps lie there.
use Rattle.std.proofs.Common.{◌≡◌, ◌≤◌, ℕ, suc, ◌+◌, false, inl, inr, List, [], ◌++◌, refl, sym, ap, ◌∙◌, arith, subst}
use Rattle.std.specs.Prelude.{Option, Some}
use Rattle.lua_num.specs.Bytes.{Text}
use Rattle.lua_tree.specs.Syntax.{Statements, do_block, while_loop, repeat_loop, Expression}
use Rattle.recover_expr.specs.Placing.{Steps}
use Rattle.recover_expr.specs.declared.steps.StepKind.{StepKind}
use Rattle.recover_flow.specs.Flow as flowing
use Rattle.recover_flow.specs.Flow.{do_flow, while_flow, repeat_flow, Around, in_loop, logic_room, flow_levels}
use Rattle.scheme.specs.Making.{Ahead, Maker, active_count, place}
use Rattle.scheme.specs.Scheme.{statements_made}
use Rattle.scheme.specs.Statements.{Loop}
use Rattle.scheme.specs.declared.making.Active.{Active}
use Rattle.same_flow.specs.Declaring.{ClosesTell}
use Rattle.same_flow.specs.Laid.{Exit, IsJump, IsClose, TestLaid, StatementLaid, label_of, with_new_labels, while_begun, repeat_begun, loop_of, exit_to}
use Rattle.same_flow.specs.SameFlow.{HasPlainParts}
use Rattle.same_flow.proofs.BlocksFollowed.{Matches}
use Rattle.same_flow.proofs.Followed.{Run, Follows, nought, EndBy, LastTo, last_weaker, last_both, followed, relabelled, ended}
use Rattle.same_flow.proofs.LoopsTold.{jump_passes, close_passes}
use Rattle.same_flow.proofs.RenamedStatements.{statements_rename}
use Rattle.same_flow.proofs.StatementsFollowed.{body_goes}
use Rattle.same_flow.proofs.StepsTold.{same_active}
use Rattle.same_flow.proofs.TestsFollowed.{test_goes}
use Rattle.built_flow.proofs.BlocksBuilt.{as_laid}
use Rattle.built_flow.proofs.LaidFlow.{Knows, StatementFound, BodyFinds, knows_behind, close_found, block_found}
use Rattle.built_flow.proofs.LaidSteps.{quiet_found}
use Rattle.built_flow.proofs.LaidTests.{kind_told, some_room, test_told, test_found}
use Rattle.built_flow.proofs.StepsTold.{run_of}

module _ (code : Steps) (params names : List Text) (ahead : Ahead) (plain : HasPlainParts code) (closes : ClosesTell code params names ahead) where
  abbrev run : Run
  run = run_of code params names ahead

  -- the same is known inside a loop
  pub knows_in_loop : (to : ℕ) (around : Around) (active : List Active) (p : ℕ) → Knows code params names ahead around active p → Knows code params names ahead (in_loop to around) active p
  knows_in_loop to around active p knows = record { counts = record { count = knows.counts.count; captured = knows.counts.captured }; declared = knows.declared }

  pub loop_exit : (to : ℕ) (around : Around) (m : Maker) (p : ℕ) → Knows code params names ahead around m.active p → exit_to to m ≡ as_laid (in_loop to around).exit
  loop_exit to around m p knows = let there : ℕ → Exit = λ n. record { place = to; locals = n } in ap (λ n. Some (there n)) (sym knows.counts.count)

  pub do_found : (block : Statements) → BodyFinds code params names ahead plain closes block → (around : Around) (exit : Option Exit) (stop : ℕ) (loop : Option Loop) (m : Maker) (ends : List ℕ) (from to : ℕ) →
      Follows run nought nought m ends from → Matches loop exit → exit ≡ as_laid around.exit → Knows code params names ahead around m.active from → LastTo stop ends → to ≤ stop → from ≤ to →
      StatementLaid code exit stop (do_block block) loop m from to → StatementFound code params names ahead around stop (do_block block) loop m from to
  do_found block finds around exit stop loop m ends from to follows matches same knows l h order standing =
      let it = block_found code params names ahead plain closes block finds around around exit loop m ends (active_count m) m.active from to follows matches same knows knows knows.counts follows.count
      (last_weaker to stop ends h l) standing in
      quiet_found code params names ahead plain closes (do_block block) (λ d. d) around exit stop loop m ends from to follows matches knows l h order standing (do_flow it.found) (refl, it.lies) refl
      (λ room. let a = it.levels room in omega arith) (λ e. cc)

  pub while_found : (x : Expression) (block : Statements) → BodyFinds code params names ahead plain closes block → (around : Around) (exit : Option Exit) (stop : ℕ) (loop : Option Loop) (m : Maker) (ends : List ℕ)
      (from to : ℕ) →
      Follows run nought nought m ends from → Matches loop exit → exit ≡ as_laid around.exit → Knows code params names ahead around m.active from → LastTo stop ends → to ≤ stop → from ≤ to →
      StatementLaid code exit stop (while_loop x block) loop m from to → StatementFound code params names ahead around stop (while_loop x block) loop m from to
  while_found x block finds around exit stop loop m ends from to follows matches same knows l h order (start, back, a, b, test, body, jump, t) =
      let last = last_weaker to stop ends h l in
      let first = last_weaker start to ends (omega arith) last in
      let later = last_weaker back to ends (omega arith) last in
      let begun = followed (test_goes run statements_rename plain m.active (place (suc (label_of m)) (with_new_labels 2 m)) ends x false (label_of m) to from start test first) (relabelled _ follows) in
      let known = knows_behind code params names ahead plain closes around m ends from start (while_begun x m).active follows knows (same_active plain follows begun a first) a first in
      let logic = test_found code m.active x false to from start test in
      let it = block_found code params names ahead plain closes block finds around (in_loop to around) (exit_to to m) (loop_of m) (while_begun x m) ends (active_count m) m.active start back begun refl
      (loop_exit to around m from knows) known (knows_in_loop to around (while_begun x m).active start known) knows.counts follows.count later body in
      quiet_found code params names ahead plain closes (while_loop x block) (λ d. d) around exit stop loop m ends from to follows matches knows l h order (start, back, a, b, test, body, jump, t)
      (while_flow logic.logic it.found)
      (refl, start, back, a, b, logic.lies, test_told code around m.active x false to from start knows.counts test, it.lies, kind_told code around m.active back (StepKind.Jump from) knows.counts jump.1.0, t) refl
      (λ room. let c = it.levels room in let d = logic.levels room in let e = logic.count in let f = some_room x in omega arith) (λ e. cc)

  -- what is closed twice at the end of a `repeat`
  record ClosesTwice (around inside : Around) (tested : ℕ) : Type 0 where
    first : flowing.IsClose code.steps inside tested around.count
    second : flowing.IsClose code.steps around (tested + 2) around.count

  closes_twice : (x : Expression) (around within : Around) (m inside : Maker) (ends new : List ℕ) (from to start tested : ℕ) → Follows run nought nought m ends from → Follows run nought nought inside (ends ++ new) start →
      Knows code params names ahead around m.active from → Knows code params names ahead within inside.active start → EndBy (tested + 2) new → LastTo (tested + 2) (ends ++ new) → from ≤ start → start ≤ tested →
      TestLaid code inside.active x false (tested + 2) start tested → IsClose code inside.active tested (active_count m) → IsJump code inside.active (tested + 1) to → IsClose code m.active (tested + 2) (active_count m) →
      to ≡ tested + 4 → LastTo to ends → ClosesTwice around within tested
  closes_twice x around within m inside ends new from to start tested follows inner knows known ended_by last a b test close jump again t l =
      let all = ends ++ new in
      let n = active_count m in
      let outside : from ≤ tested + 2 = omega arith in
      let until = last_weaker (tested + 2) to ends (omega arith) l in
      let until_next = last_weaker (suc (tested + 2)) to ends (omega arith) l in
      let first = last_weaker tested (tested + 2) all (omega arith) last in
      let next = last_weaker (tested + 1) (tested + 2) all (omega arith) last in
      let next_one : LastTo (suc tested) all = last_weaker (suc tested) (tested + 2) all (omega arith) last in
      let behind_test = followed (test_goes run statements_rename plain inside.active inside all x false 0 (tested + 2) start tested test first) inner in
      let same = same_active plain inner behind_test b first in
      let at_close = knows_behind code params names ahead plain closes within inside all start tested _ inner known same b first in
      let closed = close_passes _ all tested (tested + 1) n (omega arith) next behind_test same close in
      let jumped = jump_passes _ all (tested + 1) (tested + 2) 0 to (omega arith) last closed.follows (same_active plain inner closed.follows (omega arith) next) jump in
      let behind = followed {outer = []} (ended n new follows.count ended_by) jumped.follows in
      let at_again = knows_behind code params names ahead plain closes around m ends from (tested + 2) _ follows knows (same_active plain follows behind outside until) outside until in
      let number = sym knows.counts.count in
      record {
        first = subst (λ k. flowing.IsClose code.steps within tested k) number (close_found code params names ahead plain closes within _ all tested n inside.active behind_test at_close next_one known.counts close);
        second = subst (λ k. flowing.IsClose code.steps around (tested + 2) k) number
            (close_found code params names ahead plain closes around _ ends (tested + 2) n m.active behind at_again until_next knows.counts again);
      }

  pub repeat_found : (x : Expression) (block : Statements) → BodyFinds code params names ahead plain closes block → (around : Around) (exit : Option Exit) (stop : ℕ) (loop : Option Loop) (m : Maker) (ends : List ℕ)
      (from to : ℕ) →
      Follows run nought nought m ends from → Matches loop exit → exit ≡ as_laid around.exit → Knows code params names ahead around m.active from → LastTo stop ends → to ≤ stop → from ≤ to →
      StatementLaid code exit stop (repeat_loop block x) loop m from to → StatementFound code params names ahead around stop (repeat_loop block x) loop m from to
  repeat_found x block finds around exit stop loop m ends from to follows matches same knows l h order (start, a, inl (c, b, body, test)) =
      let last = last_weaker to stop ends h l in
      let inside = statements_made block (loop_of m) (repeat_begun m) in
      let it = finds (in_loop to around) (exit_to to m) to (loop_of m) (repeat_begun m) ends from start (relabelled _ follows) refl (loop_exit to around m from knows) (knows_in_loop to around m.active from knows) last b body in
      let logic = test_found code inside.active x false from start to test in
      quiet_found code params names ahead plain closes (repeat_loop block x) (λ d. d) around exit stop loop m ends from to follows matches knows l h order (start, a, inl (c, b, body, test))
      (repeat_flow it.found logic.logic)
      (refl, start, it.behind, a, inl (it.captures ∙ c, b, it.lies, logic.lies, test_told code it.behind inside.active x false from start to it.knows.counts test)) refl
      (λ room. let c = it.levels room in let d = logic.levels room in let e = logic.count in let f = some_room x in omega arith) (λ e. cc)
  repeat_found x block finds around exit stop loop m ends from to follows matches same knows l h order (start, a, inr (c, tested, b, body, test, close, jump, again, back, t)) =
      let last = last_weaker to stop ends h l in
      let later = last_weaker (tested + 2) to ends (omega arith) last in
      let begun = repeat_begun m in
      let inside = statements_made block (loop_of m) begun in
      let it = finds (in_loop to around) (exit_to to m) (tested + 2) (loop_of m) begun ends from start (relabelled _ follows) refl (loop_exit to around m from knows) (knows_in_loop to around m.active from knows)
      later (omega arith) body in
      let growth = body_goes run statements_rename plain block (exit_to to m) (tested + 2) (loop_of m) begun ends from start (relabelled _ follows) refl later (omega arith) body in
      let logic = test_found code inside.active x false (tested + 2) start tested test in
      let twice = closes_twice x around it.behind m inside ends growth.new from to start tested follows (followed growth.goes (relabelled _ follows)) knows it.knows growth.ends_by
      (last_both (tested + 2) ends growth.new later growth.lasts) a b test close jump again t last in
      quiet_found code params names ahead plain closes (repeat_loop block x) (λ d. d) around exit stop loop m ends from to follows matches knows l h order
      (start, a, inr (c, tested, b, body, test, close, jump, again, back, t))
      (repeat_flow it.found logic.logic) (
        refl,
        start,
        it.behind,
        a,
        inr (
          it.captures ∙ c,
          tested,
          b,
          it.lies,
          logic.lies,
          test_told code it.behind inside.active x false (tested + 2) start tested it.knows.counts test,
          twice.first,
          kind_told code it.behind inside.active (tested + 1) (StepKind.Jump to) it.knows.counts jump.1.0,
          twice.second,
          kind_told code around m.active (tested + 3) (StepKind.Jump from) knows.counts back.1.0,
          t,
        ),
      ) refl
      (λ room. let c = it.levels room in let d = logic.levels room in let e = logic.count in let f = some_room x in omega arith) (λ e. cc)
