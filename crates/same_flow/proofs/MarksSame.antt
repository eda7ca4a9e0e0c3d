-- Statements that stand on the same steps declare and mention the same: what stands in the tree is what the steps say, one after the other.
use Rattle.std.proofs.Common.{◌≡◌, ◌≤◌, ℕ, suc, ◌+◌, Bool, true, false, inl, inr, List, [], ◌∷◌, length, refl, sym, ap, ◌∙◌, subst, arith}
use Rattle.std.specs.Prelude.{Option, Some, None, ◌||◌}
use Rattle.lua_num.specs.Bytes.{Text}
use Rattle.lua_tree.specs.Syntax as syntax
use Rattle.lua_tree.specs.Syntax.{Statements, no_statements, Statement, assignment, call_statement, do_block, while_loop, repeat_loop, if_statement, numeric_for, generic_for, function_statement, local_function, local_statement, return_statement, break_statement, Branches, no_branches, branch, Otherwise, no_otherwise, otherwise}
use Rattle.lua_tree.specs.Outline as outline
use Rattle.lua_tree.specs.Outline.{Place, Mark, leave, Walk, both, within, stay, in_loop, statements_part, branches_part, otherwise_part, expressions_part, expression_part}
use Rattle.recover_expr.specs.Drafts.{statement_part, values_part}
use Rattle.recover_expr.specs.Placing.{Steps}
use Rattle.recover_expr.specs.declared.steps.StepKind.{StepKind}
use Rattle.scheme.specs.Making.{Ahead, Maker, captured_from, active_count}
use Rattle.scheme.specs.Scheme.{coded, has_branch, has_otherwise, statement_made, statements_made, branches_made}
use Rattle.scheme.specs.Statements.{Loop, arm_part, settle}
use Rattle.same_flow.specs.Laid.{Exit, LeavesTo, IsBlock, label_of, with_new_labels, while_begun, repeat_begun, arm_begun, loop_of, for_loop_of, numeric_valued, numeric_begun, generic_valued, generic_begun, head_values, exit_to, BodyLaid, StatementLaid, BranchesLaid, OtherwiseLaid}
use Rattle.same_flow.specs.SameFlow.{AreLaid, begun_of}
use Rattle.same_flow.specs.SameMarks.{but_breaks, SameMarks}
use Rattle.same_flow.proofs.Walks.{Entry, State, state_of, passed, Goes, goes_nowhere, goes_to_equal, goes_by_equal, one_way}
use Rattle.same_flow.proofs.Steady.{calm, calm_expressions, calm_assignment, calm_function, steady_local, steady_local_function}
use Rattle.same_flow.proofs.Kept.{Live, live_less, Walked, walked_nowhere, walked_both, Kept, walked_kept, kept_both, Quiet, quiet_both, jumps, closes, kept_quiet, steps_calm, walked_declaration, block_goes, quiet_arm, arm_before}
use Rattle.same_flow.proofs.Tests.{test_kept}
use Rattle.same_flow.proofs.Loops.{inside_for, for_kept, numeric_same, repeat_kept}

-- a loop is around where a break has a way out
abbrev Fits : Option Exit → Place → Type 0
Fits None place = Unit {0}
Fits (Some exit) place = place.looped ≡ true

fits_looped : (exit : Option Exit) (place next : Place) → next.looped ≡ place.looped → Fits exit place → Fits exit next
fits_looped None place next e fits = tt
fits_looped (Some exit) place next e fits = e ∙ fits

fits_kept : {code : Steps} {from to : ℕ} {before : List Entry} {place : Place} {walk : Walk} (exit : Option Exit) → Kept code from to before place walk → Fits exit place → Fits exit walk.next
fits_kept {place = place} {walk = walk} exit k fits = fits_looped exit place walk.next (ap (λ (p : Place). p.looped) k.stays) fits

break_quiet : (code : Steps) (exit : Exit) (m : Maker) (from to : ℕ) → LeavesTo code (Some exit) m from to → Quiet code from to
break_quiet code exit m from to (inl h) = jumps exit.place to h.2 h.1
break_quiet code exit m from to (inr h) = quiet_both (closes exit.locals (suc from) refl h.1) (jumps exit.place to h.3 h.2)

break_kept : (code : Steps) (exit : Option Exit) (m : Maker) (from to : ℕ) → LeavesTo code exit m from to → (place : Place) (before : List Entry) → Fits exit place →
    Kept code from to before place (outline.statement_part 1 break_statement place)
break_kept code None m from to h place before fits = absurd h
break_kept code (Some exit) m from to h place before fits = record {
  goes = goes_by_equal {marks = []} (ap (λ b. but_breaks (leave 1 b ∷ [])) (sym fits)) ((break_quiet code exit m from to h).goes (state_of place before));
  stays = refl;
}

mutual
  statements_walked : (block : Statements) (code : Steps) (exit : Option Exit) (ends : ℕ) (loop : Option Loop) (m : Maker) (from to : ℕ) → BodyLaid code exit ends block loop m from to → to ≤ ends →
      (place : Place) (before : List Entry) → Live ends before → Fits exit place → Walked code from to ends place before (statements_part block place)
  statements_walked no_statements code exit ends loop m from to h le place before live fits =
      subst (λ at. Walked code from at ends place before (outline.nothing place)) (sym h) (walked_nowhere code from ends place before live)
  statements_walked (syntax.statement line semi s rest) code exit ends loop m from to h le place before live fits =
      let w = statement_walked s code exit ends loop m from h.1 h.4 (let l = h.3 in omega (arith, l, le)) place before live fits in
      let next = (outline.statement_part 1 s place).next in
      let v = statements_walked rest code exit ends loop (settle (statement_made s 1 loop m)) h.1 to h.5 le next w.after w.ended.live (fits_looped exit place next w.ended.looped fits) in
      subst (λ n. Walked code from to ends place before (both (outline.statement_part n s) (statements_part rest) place)) (sym h.0)
      (walked_both (outline.statement_part 1 s) (statements_part rest) w v)

  statement_walked : (s : Statement) (code : Steps) (exit : Option Exit) (ends : ℕ) (loop : Option Loop) (m : Maker) (from to : ℕ) → StatementLaid code exit ends s loop m from to → to ≤ ends →
      (place : Place) (before : List Entry) → Live ends before → Fits exit place → Walked code from to ends place before (outline.statement_part 1 s place)
  statement_walked (assignment targets es) code exit ends loop m from to h le place before live fits =
      walked_kept (steps_calm from to ends StepKind.Act (statement_part (assignment targets es)) (λ state. refl) (calm_assignment targets es) h.0 h.1 le place before live) live
  statement_walked (call_statement e) code exit ends loop m from to h le place before live fits =
      walked_kept (steps_calm from to ends StepKind.Act (statement_part (call_statement e)) (λ state. refl) (calm e) h.0 h.1 le place before live) live
  statement_walked (function_statement path method body) code exit ends loop m from to h le place before live fits =
      walked_kept (steps_calm from to ends StepKind.Act (statement_part (function_statement path method body)) (λ state. refl) (calm_function path method body) h.0 h.1 le place before live) live
  statement_walked (return_statement es) code exit ends loop m from to h le place before live fits =
      walked_kept (steps_calm from to ends StepKind.Return (values_part es) (λ state. refl) (calm_expressions es) h.0 h.1 le place before live) live
  statement_walked (local_function name body) code exit ends loop m from to h le place before live fits =
      walked_declaration from to ends (StepKind.Declaration ends (captured_from (active_count m) (statement_made (local_function name body) 1 None m))) (statement_part (local_function name body)) (λ state. refl) (steady_local_function name body) h.0 h.1 le place before live
  statement_walked (local_statement names es) code exit ends loop m from to h le place before live fits =
      walked_declaration from to ends (StepKind.Declaration ends (captured_from (active_count m) (statement_made (local_statement names es) 1 None m))) (statement_part (local_statement names es)) (λ state. refl) (steady_local names es) h.0 h.1 le place before live
  statement_walked break_statement code exit ends loop m from to h le place before live fits = walked_kept (break_kept code exit m from to h place before fits) live
  statement_walked (do_block block) code exit ends loop m from to h le place before live fits =
      walked_kept (record {
        goes =
            block_goes code m.active (active_count m) (captured_from (active_count m) (statements_made block loop m)) (λ ends end. BodyLaid code exit ends block loop m from end)
            from to place before (statements_part block) h (live_less to ends before le live)
            (λ end laid less inner. statements_walked block code exit end loop m from end laid (omega arith) place before inner fits);
        stays = refl;
      }) live
  statement_walked (while_loop e block) code exit ends loop m from to h le place before live fits =
      let begun = while_begun e m in
      let start : ℕ = h.0 in
      let back : ℕ = h.1 in
      let early : back ≤ ends = let q = h.7 in omega (arith, q, le) in
      let test = test_kept e code m.active false to from start ends h.4 (let l = h.3 in omega (arith, early, l)) place before live in
      let inside : Place = in_loop (expression_part e place).next in
      let goes =
      block_goes code m.active (active_count m) (captured_from (active_count m) (statements_made block (loop_of m) begun)) (λ ends end. BodyLaid code (exit_to to m) ends block (loop_of m) begun start end)
      start back inside before (statements_part block) h.5 (live_less back ends before early live)
      (λ end laid less inner. statements_walked block code (exit_to to m) end (loop_of m) begun start end laid (omega arith) inside before inner refl) in
      walked_kept (kept_quiet (kept_both (expression_part e) (within in_loop (statements_part block)) test (record { goes = goes; stays = refl })) (jumps from to h.7 h.6)) live
  statement_walked (repeat_loop block e) code exit ends loop m from to h le place before live fits =
      let begun = repeat_begun m in
      let inside = statements_made block (loop_of m) begun in
      walked_kept (repeat_kept code e m.active inside.active (active_count m) (captured_from (active_count m) inside) (λ ends start. BodyLaid code (exit_to to m) ends block (loop_of m) begun from start)
      from h.0 to ends h.2 le place before live (statements_part block)
      (λ stop laid less alive. statements_walked block code (exit_to to m) stop (loop_of m) begun from h.0 laid less (in_loop place) before alive refl)) live
  statement_walked (if_statement branches last) code exit ends loop m from to h le place before live fits =
      let one = branches_kept branches code exit (has_otherwise last) (label_of m) to loop (with_new_labels 1 m) from h.0 h.3 ends (let l = h.2 in omega (arith, l, le)) place before live fits in
      let next = (branches_part branches place).next in
      let two = otherwise_kept last code exit loop (branches_made branches 1 loop (label_of m) (has_otherwise last) (with_new_labels 1 m)) h.0 to h.4 ends le next before live (fits_kept exit one fits) in
      walked_kept (kept_both (branches_part branches) (otherwise_part last) one two) live
  statement_walked (numeric_for name first last step block) code exit ends loop m from to h le place before live fits =
      let valued = numeric_valued 1 name first last step m in
      let begun = numeric_begun 1 name first last step m in
      let around = for_loop_of (active_count m) valued in
      let es = head_values first last step in
      let inside : Place = inside_for (name ∷ []) es place in
      let captured = captured_from (active_count begun) (statements_made block around begun) in
      subst (λ (walk : Walk). Walked code from to ends place before walk) (numeric_same name first last step block place)
      (walked_kept (for_kept code true (name ∷ []) es (statements_part block) m.active valued.active (active_count m) (captured_from (active_count m + 3) begun)
      (λ from to'. IsBlock code begun.active (active_count begun) captured (λ ends end. BodyLaid code (exit_to to m) ends block around begun from end) from to')
      from to ends h le place before live
      (λ end inner laid alive.
      block_goes code begun.active (active_count begun) captured (λ ends end. BodyLaid code (exit_to to m) ends block around begun (suc from) end) (suc from) end inside inner (statements_part block) laid alive
      (λ stop laid less living. statements_walked block code (exit_to to m) stop around begun (suc from) stop laid (omega arith) inside inner living refl))) live)
  statement_walked (generic_for names es block) code exit ends loop m from to h le place before live fits =
      let valued = generic_valued 1 names es m in
      let begun = generic_begun 1 names es m in
      let around = for_loop_of (active_count m) valued in
      let inside : Place = inside_for names es place in
      let captured = captured_from (active_count begun) (statements_made block around begun) in
      walked_kept (for_kept code false names es (statements_part block) m.active valued.active (active_count m) (captured_from (active_count m + 3) begun)
      (λ from to'. IsBlock code begun.active (active_count begun) captured (λ ends end. BodyLaid code (exit_to to m) ends block around begun from end) from to')
      from to ends h le place before live
      (λ end inner laid alive.
      block_goes code begun.active (active_count begun) captured (λ ends end. BodyLaid code (exit_to to m) ends block around begun (suc from) end) (suc from) end inside inner (statements_part block) laid alive
      (λ stop laid less living. statements_walked block code (exit_to to m) stop around begun (suc from) stop laid (omega arith) inside inner living refl))) live

  branches_kept : (branches : Branches) (code : Steps) (exit : Option Exit) (more : Bool) (label end : ℕ) (loop : Option Loop) (m : Maker) (from to : ℕ) →
      BranchesLaid code exit branches more label end loop m from to → (ends : ℕ) → to ≤ ends → (place : Place) (before : List Entry) → Live ends before → Fits exit place →
      Kept code from to before place (branches_part branches place)
  branches_kept no_branches code exit more label end loop m from to h ends le place before live fits =
      subst (λ at. Kept code from at before place (outline.nothing place)) (sym h) (record { goes = goes_nowhere code from (state_of place before); stays = refl })
  branches_kept (branch e block rest) code exit more label end loop m from to h ends le place before live fits =
      let begun = arm_begun e m in
      let start : ℕ = h.0 in
      let last : ℕ = h.1 in
      let next : ℕ = h.2 in
      let others = has_branch rest || more in
      let arm : last ≤ next = arm_before code m.active others last end next h.8 in
      let early : last ≤ ends = let l = h.5 in omega (arith, arm, l, le) in
      let test = test_kept e code m.active false next from start ends h.6 (let l = h.4 in omega (arith, early, l)) place before live in
      let inside : Place = (expression_part e place).next in
      let fits_inside = fits_kept exit test fits in
      let goes =
      block_goes code m.active (active_count m) (captured_from (active_count m) (statements_made block loop begun)) (λ ends stop. BodyLaid code exit ends block loop begun start stop)
      start last inside before (statements_part block) h.7 (live_less last ends before early live)
      (λ stop laid less inner. statements_walked block code exit stop loop begun start stop laid (omega arith) inside before inner fits_inside) in
      let block_kept = kept_quiet (record { goes = goes; stays = refl }) (quiet_arm code m.active others last end next h.8) in
      let behind : Place = (within stay (statements_part block) inside).next in
      let rest_kept = branches_kept rest code exit more label end loop (arm_part 1 label others (coded e) (statements_made block loop) m) next to h.9 ends le behind before live (fits_kept exit block_kept fits_inside) in
      kept_both (expression_part e) (both (within stay (statements_part block)) (branches_part rest)) test
      (kept_both (within stay (statements_part block)) (branches_part rest) block_kept rest_kept)

  otherwise_kept : (last : Otherwise) (code : Steps) (exit : Option Exit) (loop : Option Loop) (m : Maker) (from to : ℕ) → OtherwiseLaid code exit last loop m from to → (ends : ℕ) → to ≤ ends →
      (place : Place) (before : List Entry) → Live ends before → Fits exit place → Kept code from to before place (otherwise_part last place)
  otherwise_kept no_otherwise code exit loop m from to h ends le place before live fits =
      subst (λ at. Kept code from at before place (outline.nothing place)) (sym h) (record { goes = goes_nowhere code from (state_of place before); stays = refl })
  otherwise_kept (otherwise block) code exit loop m from to h ends le place before live fits = record {
    goes =
        block_goes code m.active (active_count m) (captured_from (active_count m) (statements_made block loop m)) (λ ends end. BodyLaid code exit ends block loop m from end)
        from to place before (statements_part block) h (live_less to ends before le live)
        (λ end laid less inner. statements_walked block code exit end loop m from end laid (omega arith) place before inner fits);
    stays = refl;
  }

-- ---- a function

pub whole_walk : (code : Steps) (params names : List Text) (ahead : Ahead) (block : Statements) → AreLaid code params names ahead block → (place : Place) →
    let walk = statements_part block place in Goes code 0 (length code.steps) (state_of place []) walk.marks (state_of (passed place walk.next) [])
whole_walk code params names ahead block laid place =
    let all = length code.steps in
    let w = statements_walked block code None all None (begun_of params names ahead) 0 all laid (omega arith) place [] tt tt in
    goes_to_equal (w.ended.left all (omega arith)) w.goes

pub same_marks : SameMarks
same_marks code params names ahead block other laid others place =
    let same = one_way (whole_walk code params names ahead block laid place) (whole_walk code params names ahead other others place) in
    (same.0, ap (λ (state : State). state.place.declarations) same.1, ap (λ (state : State). state.place.functions) same.1)
