-- Each block on one line, whose breaks stand in loops, stands on steps with its own parts: the induction over the tree.
use Rattle.std.proofs.lemmas.List.{length-map}
use Rattle.std.proofs.Common.{◌≡◌, ◌⊎◌, ◌≤◌, ℕ, ◌+◌, Bool, true, false, inl, inr, [], ◌∷◌, length, refl, sym, ◌∙◌, subst, arith}
use Rattle.std.specs.Prelude.{Option, None, ◌||◌}
use Rattle.lua_tree.specs.OneLine.{one_line_statements, one_line_statement, one_line_branches, one_line_otherwise}
use Rattle.lua_tree.specs.Syntax as syntax
use Rattle.lua_tree.specs.Syntax.{Statements, no_statements, Statement, assignment, call_statement, do_block, while_loop, repeat_loop, if_statement, numeric_for, generic_for, function_statement, local_function, local_statement, return_statement, break_statement, Branches, no_branches, branch, Otherwise, no_otherwise, otherwise, Expression}
use Rattle.recover_expr.specs.Drafts.{Part, nothing_part, values_part, head_part}
use Rattle.recover_expr.specs.declared.steps.StepKind.{StepKind}
use Rattle.scheme.specs.Making.{Maker, captured_from, active_count}
use Rattle.scheme.specs.Scheme.{coded, has_branch, has_otherwise, statement_made, statements_made, branches_made}
use Rattle.scheme.specs.Statements.{Loop, arm_part, settle}
use Rattle.same_flow.specs.Blocks.{StatementsHold, StatementHolds, BranchesHold, OtherwiseHolds, BlocksAreLaid}
use Rattle.same_flow.specs.Laid.{BodyLaid, StatementLaid, BranchesLaid, OtherwiseLaid, IsClose, IsJump, TestLaid, label_of, with_new_labels, while_begun, repeat_begun, arm_begun, loop_of, for_loop_of, exit_to, numeric_valued, numeric_begun, generic_valued, generic_begun, head_values}
use Rattle.same_flow.specs.SameFlow.{begun_of}
use Rattle.same_flow.proofs.Laying.{Entry, Lays, laid_by, both, no_steps, one_step, jump_lays, has_all, code_of, code_length, each_holds}
use Rattle.same_flow.proofs.TestsPlaced.{test_lays}
use Rattle.same_flow.proofs.StatementsPlaced.{Around, exit_at, act_lays, declaration_lays, break_lays, block_lays, arm_end_lays, again_lays, for_lays}

-- where an arm stands: the place behind the loop around, and the end of the `if`
abbrev Arm : Type 0
Arm = ℕ × ℕ

module _ (P : Part → Type 0) (nothing_holds : P nothing_part) where
  abbrev BodyLays : Statements → (looped : Bool) → (locals : ℕ) → Option Loop → Maker → Type 0
  BodyLays block looped locals loop m = Lays P Around (λ around code from to. BodyLaid code (exit_at looped locals around.place) around.ends block loop m from to)

  abbrev StatementLays : Statement → (looped : Bool) → (locals : ℕ) → Option Loop → Maker → Type 0
  StatementLays s looped locals loop m = Lays P Around (λ around code from to. StatementLaid code (exit_at looped locals around.place) around.ends s loop m from to)

  -- a `repeat`, whose own locals are captured or not
  repeat_lays : (m inside : Maker) (e : Expression) (block : Statements) (loop : Option Loop) (begun : Maker) (captured : Bool) → captured_from (active_count m) inside ≡ captured →
      BodyLays block true (active_count m) loop begun → Lays P ℕ (λ target code from to. TestLaid code inside.active e false target from to) →
      Lays P Around (λ around code from to. (start : ℕ) × (from ≤ start)
      × (((captured_from (active_count m) inside ≡ false) × (start ≤ to) × BodyLaid code (exit_to to m) to block loop begun from start × TestLaid code inside.active e false from start to)
      ⊎ ((captured_from (active_count m) inside ≡ true) × (tested : ℕ) × (start ≤ tested) × BodyLaid code (exit_to to m) (tested + 2) block loop begun from start
      × TestLaid code inside.active e false (tested + 2) start tested × IsClose code inside.active tested (active_count m) × IsJump code inside.active (tested + 1) to
      × IsClose code m.active (tested + 2) (active_count m) × IsJump code m.active (tested + 3) from × (to ≡ tested + 4))))
  repeat_lays m inside e block loop begun false c A B =
      let steps : Lays P Around _ = both (λ (around : Around) from mid to. record { place = to; ends = to }) (λ (around : Around) from mid to. from) A B in
      laid_by (λ around from to. around) (λ code around from to le (start, a, b, S, T). (start, a, inl (c, b, S, T))) steps
  repeat_lays m inside e block loop begun true c A B =
      let first : Lays P Around _ = both (λ (around : Around) from mid to. around) (λ (around : Around) from mid to. around.ends) A B in
      let last = again_lays P nothing_holds inside.active m.active (active_count m) in
      let steps : Lays P Around _ = both (λ (around : Around) from mid to. record { place = to; ends = mid + 2 }) (λ (around : Around) from mid to. from) first last in
      laid_by (λ around from to. around)
      (λ code around from to le (tested, a, b, (start, x, y, S, T), again). (start, x, inr (c, tested, y, S, T, again.close, again.out, again.close_again, again.back, again.ends))) steps

  mutual
    body_lays : (block : Statements) (looped : Bool) (locals : ℕ) (loop : Option Loop) (m : Maker) → one_line_statements block ≡ block → StatementsHold P looped block →
        BodyLays block looped locals loop m
    body_lays no_statements looped locals loop m one h = no_steps
    body_lays (syntax.statement line semi s rest) looped locals loop m one h =
        let on_one : line ≡ 1 = cc in
        let steps : Lays P Around _ =
        both (λ (around : Around) from mid to. around) (λ (around : Around) from mid to. around) (statement_lays s looped locals loop m (cc) h.0)
        (body_lays rest looped locals loop (settle (statement_made s 1 loop m)) (cc) h.1) in
        laid_by (λ around from to. around) (λ code around from to le (mid, a, b, S, B). (on_one, mid, a, b, S, B)) steps

    statement_lays : (s : Statement) (looped : Bool) (locals : ℕ) (loop : Option Loop) (m : Maker) → one_line_statement s ≡ s → StatementHolds P looped s → StatementLays s looped locals loop m
    statement_lays (assignment targets es) looped locals loop m one h = act_lays P m (assignment targets es) h
    statement_lays (call_statement e) looped locals loop m one h = act_lays P m (call_statement e) h
    statement_lays (function_statement path method body) looped locals loop m one h = act_lays P m (function_statement path method body) h
    statement_lays (local_function name body) looped locals loop m one h = declaration_lays P m (local_function name body) h
    statement_lays (local_statement names es) looped locals loop m one h = declaration_lays P m (local_statement names es) h
    statement_lays (return_statement es) looped locals loop m one h = laid_by (λ around from to. StepKind.Return) (λ code around from to le is. is) (one_step m.active (values_part es) h)
    statement_lays break_statement looped locals loop m one h = break_lays P nothing_holds m locals looped h
    statement_lays (do_block block) looped locals loop m one h =
        laid_by (λ (around : Around) from to. around.place) (λ code around from to le is. is)
        (block_lays P nothing_holds m.active (active_count m) (captured_from (active_count m) (statements_made block loop m)) (body_lays block looped locals loop m (cc) h))
    statement_lays (while_loop e block) looped locals loop m one h =
        let begun = while_begun e m in
        let inner = block_lays P nothing_holds m.active (active_count m) (captured_from (active_count m) (statements_made block (loop_of m) begun))
        (body_lays block true (active_count m) (loop_of m) begun (cc) h.1) in
        let last : Lays P (ℕ × ℕ) _ = both (λ (d : ℕ × ℕ) from mid to. d.0) (λ (d : ℕ × ℕ) from mid to. d.1) inner (jump_lays nothing_holds m.active) in
        let steps : Lays P Around _ = both (λ (around : Around) from mid to. to) (λ (around : Around) from mid to. (to, from)) (test_lays P nothing_holds m.active e false (cc) h.0) last in
        laid_by (λ around from to. around) (λ code around from to le (start, a, b, T, (back, c, d, B, (J, t))). (start, back, a, c, T, B, J, t)) steps
    statement_lays (repeat_loop block e) looped locals loop m one h =
        let begun = repeat_begun m in
        let inside = statements_made block (loop_of m) begun in
        repeat_lays m inside e block (loop_of m) begun (captured_from (active_count m) inside) refl (body_lays block true (active_count m) (loop_of m) begun (cc) h.0)
        (test_lays P nothing_holds inside.active e false (cc) h.1)
    statement_lays (if_statement branches last) looped locals loop m one h =
        both (λ (around : Around) from mid to. (around.place, to)) (λ (around : Around) from mid to. around.place)
        (branches_lay branches (has_otherwise last) (label_of m) looped locals loop (with_new_labels 1 m) (cc) h.0)
        (otherwise_lays last looped locals loop (branches_made branches 1 loop (label_of m) (has_otherwise last) (with_new_labels 1 m)) (cc) h.1)
    statement_lays (numeric_for name first final by block) looped locals loop m one h =
        let valued = numeric_valued 1 name first final by m in
        let begun = numeric_begun 1 name first final by m in
        let inner_loop = for_loop_of (active_count m) valued in
        for_lays P nothing_holds true (head_part (head_values first final by) (name ∷ [])) h.0 m.active valued.active (active_count m) (captured_from (active_count m + 3) begun)
        (block_lays P nothing_holds begun.active (active_count begun) (captured_from (active_count begun) (statements_made block inner_loop begun))
        (body_lays block true (active_count m) inner_loop begun (cc) h.1))
    statement_lays (generic_for names es block) looped locals loop m one h =
        let valued = generic_valued 1 names es m in
        let begun = generic_begun 1 names es m in
        let inner_loop = for_loop_of (active_count m) valued in
        for_lays P nothing_holds false (head_part es names) h.0 m.active valued.active (active_count m) (captured_from (active_count m + 3) begun)
        (block_lays P nothing_holds begun.active (active_count begun) (captured_from (active_count begun) (statements_made block inner_loop begun))
        (body_lays block true (active_count m) inner_loop begun (cc) h.1))

    branches_lay : (branches : Branches) (more : Bool) (label : ℕ) (looped : Bool) (locals : ℕ) (loop : Option Loop) (m : Maker) → one_line_branches branches ≡ branches → BranchesHold P looped branches →
        Lays P Arm (λ d code from to. BranchesLaid code (exit_at looped locals d.0) branches more label d.1 loop m from to)
    branches_lay no_branches more label looped locals loop m one h = no_steps
    branches_lay (branch e block rest) more label looped locals loop m one h =
        let begun = arm_begun e m in
        let further = has_branch rest || more in
        let inner = block_lays P nothing_holds m.active (active_count m) (captured_from (active_count m) (statements_made block loop begun)) (body_lays block looped locals loop begun (cc) h.1) in
        let ended : Lays P Arm _ = both (λ (d : Arm) from mid to. d.0) (λ (d : Arm) from mid to. d.1) inner (arm_end_lays P nothing_holds m.active further) in
        let arm : Lays P Arm _ = both (λ (d : Arm) from mid to. to) (λ (d : Arm) from mid to. d) (test_lays P nothing_holds m.active e false (cc) h.0) ended in
        let steps : Lays P Arm _ =
        both (λ (d : Arm) from mid to. d) (λ (d : Arm) from mid to. d) arm
        (branches_lay rest more label looped locals loop (arm_part 1 label further (coded e) (statements_made block loop) m) (cc) h.2) in
        laid_by (λ d from to. d) (λ code d from to le (next, a, b, (start, x, y, T, (last, z, w, B, A)), R). (start, last, next, x, z, b, T, B, A, R)) steps

    otherwise_lays : (other : Otherwise) (looped : Bool) (locals : ℕ) (loop : Option Loop) (m : Maker) → one_line_otherwise other ≡ other → OtherwiseHolds P looped other →
        Lays P ℕ (λ place code from to. OtherwiseLaid code (exit_at looped locals place) other loop m from to)
    otherwise_lays no_otherwise looped locals loop m one h = no_steps
    otherwise_lays (otherwise block) looped locals loop m one h =
        block_lays P nothing_holds m.active (active_count m) (captured_from (active_count m) (statements_made block loop m)) (body_lays block looped locals loop m (cc) h)

pub blocks_are_laid : BlocksAreLaid
blocks_are_laid P nothing_holds params names ahead block one h =
    let begun = begun_of params names ahead in
    let whole = body_lays P nothing_holds block false 0 None begun one h in
    let around : Around = record { place = 0; ends = whole.size } in
    let entries = whole.entries around 0 in
    let code = code_of params entries in
    let long : length code.steps ≡ whole.size = code_length params entries ∙ whole.count around 0 in
    let same : 0 + whole.size ≡ whole.size = omega arith in
    let laid : BodyLaid code None whole.size block None begun 0 whole.size = subst (λ (x : ℕ). BodyLaid code None whole.size block None begun 0 x) same (whole.lays code around 0 (has_all params entries)) in
    (code, refl, subst (λ (x : ℕ). BodyLaid code None x block None begun 0 x) (sym long) laid, each_holds P entries (whole.holds around 0), length-map entries (λ (entry : Entry). entry.part) ∙ sym (code_length params entries))
