-- Each step of a function on which statements stand has the words of its part of them: the induction over the tree.
use Rattle.std.proofs.Common.{◌≡◌, ◌≤◌, ℕ, suc, ◌+◌, Bool, false, inl, inr, List, ◌++◌, length, refl, sym, ap, ◌∙◌, subst, arith, true, []}
use Rattle.std.proofs.lemmas.Option.{slice_get_within}
use Rattle.std.specs.Prelude.{None, Option, ◌||◌}
use Rattle.lua_num.specs.Bytes.{Text}
use Rattle.lua_tree.specs.Syntax as syntax
use Rattle.lua_tree.specs.Syntax.{Statements, no_statements, Statement, assignment, call_statement, do_block, while_loop, repeat_loop, if_statement, numeric_for, generic_for, function_statement, local_function, local_statement, return_statement, break_statement, Branches, no_branches, branch, Otherwise, no_otherwise, otherwise}
use Rattle.opcode.specs.declared.op.Op.{Op}
use Rattle.recover_expr.specs.Placing.{Steps}
use Rattle.scheme.specs.Making.{Ahead, Maker, active_count, captured_from, jump_to, new_label, place, put}
use Rattle.scheme.specs.Scheme.{branches_made, coded, has_branch, has_otherwise, otherwise_made, statement_made, statements_made}
use Rattle.scheme.specs.Statements.{Loop, arm_part, block_part, settle, end_block}
use Rattle.scheme.specs.declared.making.Active.{Active}
use Rattle.scheme.specs.declared.making.Piece.{Piece}
use Rattle.scheme_stands.proofs.Growth.{spot}
use Rattle.scheme_stands.proofs.Statements.{calm_branches, grow_statement, grow_statements}
use Rattle.scheme_stands.specs.Statements.{CloseAt}
use Rattle.scheme_stands.specs.Words.{Fn}
use Rattle.same_flow.specs.Laid.{BodyLaid, BranchesLaid, Exit, IsBlock, OtherwiseLaid, StatementLaid, arm_begun, exit_to, for_loop_of, generic_begun, generic_valued, label_of, loop_of, numeric_begun, numeric_valued, repeat_begun, while_begun}
use Rattle.same_flow.specs.Renaming.{StatementsRename}
use Rattle.same_flow.specs.SameFlow.{AreLaid, HasPlainParts, begun_of}
use Rattle.same_flow.proofs.BlocksFollowed.{Matches, outer_of, replicate_lasts, Grows}
use Rattle.same_flow.proofs.Followed.{Follows, LastTo, Outer, Run, at_pc, followed, last_both, last_weaker, nought, pc_of, relabelled, settled, ended}
use Rattle.same_flow.proofs.ForStatements.{for_last}
use Rattle.same_flow.proofs.ForsFollowed.{at_begun, for_ends, hidden_to}
use Rattle.same_flow.proofs.HeadsFollowed.{generic_head_goes, numeric_head_goes}
use Rattle.same_flow.proofs.LoopsTold.{arm_order, arm_passes}
use Rattle.same_flow.proofs.RenamedStatements.{statements_rename}
use Rattle.same_flow.proofs.StatementsFollowed.{body_goes}
use Rattle.same_flow.proofs.StatementsTold as told
use Rattle.same_flow.proofs.StatementsTold.{block_follows, branches_passed, starts, statement_grows}
use Rattle.same_flow.proofs.StepsTold.{same_active}
use Rattle.same_flow.proofs.TestsFollowed.{test_goes}
use Rattle.reads_back.proofs.ActsStand.{act_stands, break_stands, declaration_stands, return_stands}
use Rattle.reads_back.proofs.ForLabels.{for_labels, turned_to}
use Rattle.reads_back.proofs.ForsStand.{for_turned, generic_foot_stands, generic_head_stands, numeric_foot_stands, numeric_head_stands, variables_stand}
use Rattle.reads_back.proofs.LabelsStand.{Owned, all_owned, owned_before, owned_ends, owned_later}
use Rattle.reads_back.proofs.LoopLabels.{arm_labels, if_labels, repeat_labels, while_labels}
use Rattle.reads_back.proofs.LoopsStand.{arm_ends_stand, captured_stands}
use Rattle.reads_back.proofs.StepsStand.{Standing, jump_stands, stands_both, stands_nowhere, stands_to, close_stands}
use Rattle.reads_back.proofs.TestsStand.{test_stands}
use Rattle.reads_back.proofs.ThroughGeneric.{generic_laid}
use Rattle.reads_back.proofs.ThroughLoops.{tested_by}
use Rattle.reads_back.proofs.ThroughNumeric.{numeric_laid}
use Rattle.reads_back.specs.Stepped.{StepStands}
use Rattle.reads_back.specs.Through.{BodyThrough, BranchesThrough, EndsThrough, OtherwiseThrough, StatementThrough, UntilThrough, pc_of_label}

-- behind the statements there is a CLOSE where a local of the block is captured
block_stands : {g : Fn} {run : Run} {outer : List (ℕ × ℕ)} {m inside : Maker} {ends : List ℕ} {from : ℕ} (active : List Active) (n : ℕ) (b : Bool) → captured_from n inside ≡ b → length ends ≡ n →
    (laid : ℕ → ℕ → Type 0) (to : ℕ) → Follows run nought nought m ends from → ((stop : ℕ) → stop ≤ to → laid stop stop → Grows run outer m ends stop from inside stop) →
    ((stop : ℕ) → stop ≤ to → laid stop stop → Standing g run from stop) → EndsThrough g 1 n inside → IsBlock run.code active n b laid from to → Standing g run from to
block_stands active n false c e laid to follows body stands at block_laid = stands to (omega arith) block_laid
block_stands {g} {run} {inside = inside} {from = from} active n true c e laid to follows body stands at (stop, t, h, close, block_laid) =
    let growth = body stop (omega arith) block_laid in
    let reached = followed {outer = []} (ended n growth.new e growth.ends_by) (followed growth.goes follows) in
    stands_to t (stands_both g run from stop (suc stop) (stands stop (omega arith) block_laid)
    (close_stands reached close (subst (λ b. CloseAt b g n (spot inside) (spot (end_block 1 n inside))) c at)))

module _ (g : Fn) (z : Maker) (run : Run) (renames : StatementsRename) (plain : HasPlainParts run.code) where
  -- where the loop around is left to
  abbrev Leaves : Option Loop → Option Exit → Type 0
  Leaves loop exit = Outer (pc_of_label z) (pc_of run) (outer_of loop exit)

  -- a block stands where its statements do
  inner_stands : (block : Statements) (exit : Option Exit) (loop : Option Loop) (m : Maker) (ends : List ℕ) (n : ℕ) (active : List Active) (from to : ℕ) → Follows run nought nought m ends from →
      length ends ≡ n → Matches loop exit → LastTo to ends → EndsThrough g 1 n (statements_made block loop m) →
      ((stop : ℕ) → LastTo stop ends → BodyLaid run.code exit stop block loop m from stop → Standing g run from stop) →
      IsBlock run.code active n (captured_from n (statements_made block loop m)) (λ stop end. BodyLaid run.code exit stop block loop m from end) from to → Standing g run from to
  inner_stands block exit loop m ends n active from to follows c e l at stands block_laid =
      block_stands active n (captured_from n (statements_made block loop m)) refl c (λ stop end. BodyLaid run.code exit stop block loop m from end) to follows
      (λ stop h laid. body_goes run renames plain block exit stop loop m ends from stop follows e (last_weaker stop to ends h l) (omega arith) laid) (λ stop h laid. stands stop (last_weaker stop to ends h l) laid) at block_laid

  mutual
    -- `owned`: the labels of what is made stand where they are placed
    body_stands : (block : Statements) (exit : Option Exit) (stop : ℕ) (loop : Option Loop) (m : Maker) (ends : List ℕ) (from to : ℕ) → Follows run nought nought m ends from → Matches loop exit →
        LastTo stop ends → to ≤ stop → BodyLaid run.code exit stop block loop m from to → Owned (label_of m) (statements_made block loop m).labels z → Leaves loop exit →
        BodyThrough g z loop block m → Standing g run from to
    body_stands no_statements exit stop loop m ends from to follows e l h laid owned leaves through = stands_nowhere g run from to laid
    body_stands (syntax.statement line semi s rest) exit stop loop m ends from to follows e l h (one, mid, a, b, first_laid, laid) owned leaves through =
        let growth = statement_grows run renames plain s exit stop loop m ends from mid follows e l (omega arith) a first_laid in
        let reached = followed growth.goes follows in
        let made = settle (statement_made s 1 loop m) in
        let first = grow_statement s 1 loop m (settled follows) in
        let all : Owned (label_of m) (statements_made rest loop made).labels z = subst (λ n. Owned (label_of m) (statements_made rest loop (settle (statement_made s n loop m))).labels z) one owned in
        let on_one = subst (λ n. StatementThrough g z n loop s m × BodyThrough g z loop rest (settle (statement_made s n loop m))) one through in
        stands_both g run from mid to
        (statement_stands s exit stop loop m ends from mid follows e l (omega arith) first_laid on_one.0 leaves (owned_before (grow_statements rest loop made (settled reached)) all) (at_pc reached))
        (body_stands rest exit stop loop made (ends ++ growth.new) mid to reached e (last_both stop ends growth.new l growth.lasts) h laid (owned_later first.more all) leaves on_one.1)

    -- a statement ends where the step behind it stands
    statement_stands : (s : Statement) (exit : Option Exit) (stop : ℕ) (loop : Option Loop) (m : Maker) (ends : List ℕ) (from to : ℕ) → Follows run nought nought m ends from → Matches loop exit →
        LastTo stop ends → to ≤ stop → StatementLaid run.code exit stop s loop m from to → StatementThrough g z 1 loop s m → Leaves loop exit →
        Owned (label_of m) (statement_made s 1 loop m).labels z → length (statement_made s 1 loop m).items ≡ pc_of run to → Standing g run from to
    statement_stands (assignment targets es) exit stop loop m ends from to follows e l h laid through leaves owned end =
        act_stands g run renames plain (assignment targets es) m ends from to follows laid (last_weaker to stop ends h l) through
    statement_stands (call_statement x) exit stop loop m ends from to follows e l h laid through leaves owned end = act_stands g run renames plain (call_statement x) m ends from to follows laid (last_weaker to stop ends h l) through
    statement_stands (function_statement path method body) exit stop loop m ends from to follows e l h laid through leaves owned end =
        act_stands g run renames plain (function_statement path method body) m ends from to follows laid (last_weaker to stop ends h l) through
    statement_stands (local_function name body) exit stop loop m ends from to follows e l h laid through leaves owned end =
        declaration_stands g run renames plain (local_function name body) m ends stop from to follows laid (last_weaker to stop ends h l) through
    statement_stands (local_statement names es) exit stop loop m ends from to follows e l h laid through leaves owned end =
        declaration_stands g run renames plain (local_statement names es) m ends stop from to follows laid (last_weaker to stop ends h l) through
    statement_stands (return_statement es) exit stop loop m ends from to follows e l h laid through leaves owned end = return_stands g run renames plain es m ends from to follows laid (last_weaker to stop ends h l) through
    statement_stands break_statement exit stop loop m ends from to follows e l h laid through leaves owned end = break_stands g z run loop exit m ends from to follows e laid (last_weaker to stop ends h l) leaves through
    statement_stands (do_block block) exit stop loop m ends from to follows e l h laid through leaves owned end =
        inner_stands block exit loop m ends (active_count m) m.active from to follows follows.count e (last_weaker to stop ends h l) through.1
        (λ x k inside. body_stands block exit x loop m ends from x follows e k (omega arith) inside (owned_ends 1 (active_count m) (statements_made block loop m) owned) leaves through.0) laid
    statement_stands (while_loop x block) exit stop loop m ends from to follows e l h (start, back, a, b, test_laid, block_laid, jump, t) (test_through, body_through, end_through, word_through) leaves owned end =
        let last = last_weaker to stop ends h l in
        let first = last_weaker start to ends (omega arith) last in
        let later = last_weaker back to ends (omega arith) last in
        let around = exit_to to m in
        let ready = repeat_begun m in
        let begun = followed (test_goes run renames plain m.active ready ends x false (label_of m) to from start test_laid first) (relabelled _ follows) in
        let behind = block_follows run renames plain block around (loop_of m) (while_begun x m) ends (active_count m) m.active start back begun follows.count refl later block_laid in
        let labels = while_labels z x block loop m (settled begun) owned in
        let left = labels.exit ∙ end in
        stands_both g run from start to (test_stands g z run renames plain x m.active false (label_of m) to from start ready ends (relabelled _ follows) first test_laid test_through left labels.test)
        (stands_both g run start back to
        (inner_stands block around (loop_of m) (while_begun x m) ends (active_count m) m.active start back begun follows.count refl later end_through
        (λ y k laid. body_stands block around y (loop_of m) (while_begun x m) ends start y begun refl k (omega arith) laid labels.body (left, tt) body_through) block_laid)
        (stands_to t (jump_stands behind jump (labels.start ∙ at_pc follows) word_through)))
    statement_stands (repeat_loop block x) exit stop loop m ends from to follows e l h (start, a, inl (c, b, block_laid, test_laid)) (body_through, until_through) leaves owned end =
        let last = last_weaker to stop ends h l in
        let begun = repeat_begun m in
        let inside = statements_made block (loop_of m) begun in
        let again = suc (label_of m) in
        let growth = body_goes run renames plain block (exit_to to m) to (loop_of m) begun ends from start (relabelled _ follows) refl last b block_laid in
        let labels = repeat_labels z block x loop m (settled follows) owned in
        stands_both g run from start to (body_stands block (exit_to to m) to (loop_of m) begun ends from start (relabelled _ follows) refl last b block_laid labels.body (labels.exit ∙ end, tt) body_through)
        (test_stands g z run renames plain x inside.active false again from start to inside (ends ++ growth.new) (followed growth.goes (relabelled _ follows)) (last_both to ends growth.new last growth.lasts) test_laid
        (subst (λ some. UntilThrough g z some x 1 again (label_of m) (active_count m) inside) c until_through) (labels.start ∙ at_pc follows)
        (subst (λ some. Owned (label_of inside) (tested_by some 1 again (label_of m) (active_count m) x inside).labels z) c labels.tested))
    statement_stands (repeat_loop block x) exit stop loop m ends from to follows e l h (start, a, inr (c, tested, b, block_laid, test_laid, close, jump, close_again, back, t)) (body_through, until_through) leaves owned end =
        let last = last_weaker to stop ends h l in
        let begun = repeat_begun m in
        let inside = statements_made block (loop_of m) begun in
        let again = suc (label_of m) in
        let later = last_weaker (tested + 2) to ends (omega arith) last in
        let growth = body_goes run renames plain block (exit_to to m) (tested + 2) (loop_of m) begun ends from start (relabelled _ follows) refl later (omega arith) block_laid in
        let labels = repeat_labels z block x loop m (settled follows) owned in
        let left = labels.exit ∙ end in
        stands_both g run from start to
        (body_stands block (exit_to to m) (tested + 2) (loop_of m) begun ends from start (relabelled _ follows) refl later (omega arith) block_laid labels.body (left, tt) body_through)
        (captured_stands g z run renames plain inside.active m.active x m inside ends growth.new (label_of m) again from to start tested (followed growth.goes (relabelled _ follows)) follows.count growth.ends_by
        (last_both (tested + 2) ends growth.new later growth.lasts) b test_laid close jump close_again back t last left (labels.start ∙ at_pc follows)
        (subst (λ some. Owned (label_of inside) (tested_by some 1 again (label_of m) (active_count m) x inside).labels z) c labels.tested)
        (subst (λ some. UntilThrough g z some x 1 again (label_of m) (active_count m) inside) c until_through))
    statement_stands (if_statement branches other) exit stop loop m ends from to follows e l h (else_from, a, b, arms_laid, other_laid) (body_through, other_through) leaves owned end =
        let last = last_weaker to stop ends h l in
        let begun = (new_label m).after in
        let before_else = last_weaker else_from to ends b last in
        let arms = branches_passed run renames plain branches exit (has_otherwise other) (label_of m) to loop begun ends from else_from (relabelled _ follows) e before_else arms_laid in
        let labels = if_labels z branches other loop m (settled follows) owned in
        stands_both g run from else_from to
        (branches_stand branches exit (has_otherwise other) (label_of m) to loop begun ends from else_from (relabelled _ follows) e before_else arms_laid labels.arms (labels.end ∙ end) leaves body_through)
        (otherwise_stands other exit loop (branches_made branches 1 loop (label_of m) (has_otherwise other) begun) ends else_from to arms.follows e last other_laid labels.rest leaves other_through)
    statement_stands (numeric_for name first final by block) exit stop loop m ends from to follows e l h (foot, variables_end, has_head, less, block_laid, variables_laid, has_foot, t) (head_through, prepare_through, body_through, end_through, variables_through, back_through) leaves owned end =
        let last = last_weaker to stop ends h l in
        let head = numeric_head_goes renames run plain name first final by m from foot to variables_end _ has_head in
        let valued = numeric_valued 1 name first final by m in
        let begun = numeric_begun 1 name first final by m in
        let label = label_of valued in
        let n = active_count m in
        let around = for_loop_of n valued in
        let lasting = for_last run valued.active (n + 3) (captured_from (n + 3) begun) from variables_end foot to ends variables_laid less t last in
        let all = for_ends ends to head.variables variables_end in
        let start = at_begun head lasting.0 nought nought refl follows in
        let turned = block_part 1 (statements_made block around) begun in
        let behind = block_follows run renames plain block (exit_to to m) around begun all (active_count begun) begun.active (suc from) variables_end start start.count refl (lasting.1 head.variables) block_laid in
        let turn = for_turned plain valued.active begun turned ends n m.free head.variables from foot to variables_end (settled follows) follows.count start behind less (lasting.1 head.variables) variables_laid t last in
        let ended = turned_to m.free block around begun in
        let left = put 1 (Piece.Jump Op.ForLoop m.free label) (place (suc label) ended) in
        let laid = numeric_laid 1 name first final by block m loop in
        let labels = for_labels z head m.free block around left refl (settled start) (subst (λ (o : Maker). Owned (label_of m) o.labels z) laid owned) in
        let exits = labels.exit ∙ ap (λ (o : Maker). length o.items) (sym laid) ∙ end in
        stands_both g run from (suc from) to (numeric_head_stands g z run name first final by m ends all from foot to variables_end _ has_head follows lasting.0 start head_through prepare_through (labels.end ∙ at_pc turn.follows))
        (stands_both g run (suc from) variables_end to
        (inner_stands block (exit_to to m) around begun all (active_count begun) begun.active (suc from) variables_end start start.count refl (lasting.1 head.variables) end_through
        (λ y k inside. body_stands block (exit_to to m) y around begun all (suc from) y start refl k (omega arith) inside labels.body (exits, tt) body_through) block_laid)
        (stands_both g run variables_end foot to (variables_stand g z run valued.active turned all n m.free (captured_from (n + 3) begun) variables_end foot _ behind variables_laid (settled follows) turn.captured variables_through)
        (stands_to t (numeric_foot_stands g z run valued.active ended (hidden_to ends to) m.free foot from _ _ turn.follows turn.lasts turn.count has_foot (labels.begin ∙ at_pc start) back_through))))
    statement_stands (generic_for names es block) exit stop loop m ends from to follows e l h (foot, variables_end, has_head, less, block_laid, variables_laid, has_foot, t) (head_through, prepare_through, body_through, end_through, variables_through, call_through, back_through) leaves owned end =
        let last = last_weaker to stop ends h l in
        let head = generic_head_goes renames run plain names es m from foot to variables_end _ has_head in
        let valued = generic_valued 1 names es m in
        let begun = generic_begun 1 names es m in
        let label = label_of valued in
        let n = active_count m in
        let around = for_loop_of n valued in
        let lasting = for_last run valued.active (n + 3) (captured_from (n + 3) begun) from variables_end foot to ends variables_laid less t last in
        let all = for_ends ends to head.variables variables_end in
        let start = at_begun head lasting.0 nought nought refl follows in
        let turned = block_part 1 (statements_made block around) begun in
        let behind = block_follows run renames plain block (exit_to to m) around begun all (active_count begun) begun.active (suc from) variables_end start start.count refl (lasting.1 head.variables) block_laid in
        let turn = for_turned plain valued.active begun turned ends n m.free head.variables from foot to variables_end (settled follows) follows.count start behind less (lasting.1 head.variables) variables_laid t last in
        let ended = turned_to m.free block around begun in
        let left = jump_to 1 label (put 1 (Piece.Abc Op.TForLoop m.free 0 (length names)) (place (suc label) ended)) in
        let laid = generic_laid 1 names es block m loop in
        let labels = for_labels z head m.free block around left refl (settled start) (subst (λ (o : Maker). Owned (label_of m) o.labels z) laid owned) in
        let exits = labels.exit ∙ ap (λ (o : Maker). length o.items) (sym laid) ∙ end in
        stands_both g run from (suc from) to (generic_head_stands g z run names es m ends all from foot to variables_end _ has_head follows lasting.0 start head_through prepare_through (labels.end ∙ at_pc turn.follows))
        (stands_both g run (suc from) variables_end to
        (inner_stands block (exit_to to m) around begun all (active_count begun) begun.active (suc from) variables_end start start.count refl (lasting.1 head.variables) end_through
        (λ y k inside. body_stands block (exit_to to m) y around begun all (suc from) y start refl k (omega arith) inside labels.body (exits, tt) body_through) block_laid)
        (stands_both g run variables_end foot to (variables_stand g z run valued.active turned all n m.free (captured_from (n + 3) begun) variables_end foot _ behind variables_laid (settled follows) turn.captured variables_through)
        (stands_to t (generic_foot_stands g z run valued.active es names ended (hidden_to ends to) m.free foot from _ _ _ turn.follows turn.lasts turn.count has_head.1 has_foot (labels.begin ∙ at_pc start) call_through back_through))))

    branches_stand : (branches : Branches) (exit : Option Exit) (more : Bool) (label end : ℕ) (loop : Option Loop) (m : Maker) (ends : List ℕ) (from to : ℕ) → Follows run nought nought m ends from →
        Matches loop exit → LastTo to ends → BranchesLaid run.code exit branches more label end loop m from to → Owned (label_of m) (branches_made branches 1 loop label more m).labels z →
        pc_of_label z label ≡ pc_of run end → Leaves loop exit → BranchesThrough g z 1 loop label more branches m → Standing g run from to
    branches_stand no_branches exit more label end loop m ends from to follows e l block_laid owned there leaves through = stands_nowhere g run from to block_laid
    branches_stand (branch x block rest) exit more label end loop m ends from to follows e l (start, last, next, a, b, c, test_laid, block_laid, arm_end, rest_laid) owned there leaves (test_through, body_through, end_through, leave_through, rest_through) =
        let further = has_branch rest || more in
        let order = arm_order run further m.active last end next arm_end in
        let first = last_weaker start to ends (omega arith) l in
        let later = last_weaker last to ends (omega arith) l in
        let ready = (new_label m).after in
        let begun = followed (test_goes run renames plain m.active ready ends x false (label_of m) next from start test_laid first) (relabelled _ follows) in
        let behind = block_follows run renames plain block exit loop (arm_begun x m) ends (active_count m) m.active start last begun follows.count e later block_laid in
        let made = block_part 1 (statements_made block loop) (arm_begun x m) in
        let passes = arm_passes further made ends label last end next behind (same_active plain follows behind (omega arith) later) arm_end (last_weaker next to ends c l) in
        let arm = arm_part 1 label further (coded x) (statements_made block loop) m in
        let others = calm_branches rest 1 loop label more arm (settled passes.follows) in
        let others_grown = others.grown in
        let labels = arm_labels z x block loop label further m (settled begun) (owned_before others_grown owned) in
        stands_both g run from start to (test_stands g z run renames plain x m.active false (label_of m) next from start ready ends (relabelled _ follows) first test_laid test_through (labels.next ∙ at_pc passes.follows) labels.test)
        (stands_both g run start last to
        (inner_stands block exit loop (arm_begun x m) ends (active_count m) m.active start last begun follows.count e later end_through
        (λ y k inside. body_stands block exit y loop (arm_begun x m) ends start y begun e k (omega arith) inside labels.body leaves body_through) block_laid)
        (stands_both g run last next to (arm_ends_stand g z run m.active further made ends label last end next behind arm_end there leave_through)
        (branches_stand rest exit more label end loop arm ends next to (relabelled _ passes.follows) e l rest_laid (owned_later labels.more owned) there leaves rest_through)))

    otherwise_stands : (other : Otherwise) (exit : Option Exit) (loop : Option Loop) (m : Maker) (ends : List ℕ) (from to : ℕ) → Follows run nought nought m ends from → Matches loop exit →
        LastTo to ends → OtherwiseLaid run.code exit other loop m from to → Owned (label_of m) (otherwise_made other 1 loop m).labels z → Leaves loop exit → OtherwiseThrough g z 1 loop other m →
        Standing g run from to
    otherwise_stands no_otherwise exit loop m ends from to follows e l laid owned leaves through = stands_nowhere g run from to laid
    otherwise_stands (otherwise block) exit loop m ends from to follows e l laid owned leaves through =
        inner_stands block exit loop m ends (active_count m) m.active from to follows follows.count e l through.1
        (λ x k inside. body_stands block exit x loop m ends from x follows e k (omega arith) inside (owned_ends 1 (active_count m) (statements_made block loop m) owned) leaves through.0) laid

-- ---- a function

-- the words of a function stand step by step, where its statements stand on these steps
pub laid_stand : (code : Steps) → HasPlainParts code → (params names : List Text) (ahead : Ahead) (block : Statements) → AreLaid code params names ahead block
    → (g : Fn) (z : Maker) → z.labels ≡ (statements_made block None (begun_of params names ahead)).labels → BodyThrough g z None block (begun_of params names ahead)
    → (at : ℕ) → StepStands g code params names ahead at
laid_stand code plain params names ahead block laid g z labels through at step part there also =
    let run = told.run code params names ahead in
    let begun = begun_of params names ahead in
    let last = length code.steps in
    (body_stands g z run statements_rename plain block None last None begun run.first.ends 0 last (starts code params names ahead) tt (replicate_lasts (active_count begun) last) (omega arith) laid
    (all_owned (label_of begun) (statements_made block None begun).labels z labels) tt through).each at step part (omega arith) (slice_get_within code.steps at step there) there also
