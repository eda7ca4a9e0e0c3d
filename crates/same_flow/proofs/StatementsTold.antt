-- The steps of a function on which its statements stand tell of its locals: the induction over the tree.
use Rattle.std.proofs.Common.{◌≡◌, ◌≤◌, ℕ, suc, ◌+◌, Bool, true, false, inl, inr, List, [], ◌∷◌, ◌++◌, length, refl, sym, ap, ◌∙◌, arith, subst}
use Rattle.std.proofs.lemmas.Option.{slice_get_within}
use Rattle.std.specs.Prelude.{Option, None, ◌||◌}
use Rattle.lua_num.specs.Bytes.{Text}
use Rattle.lua_tree.specs.Syntax as syntax
use Rattle.lua_tree.specs.Syntax.{Statements, no_statements, Statement, assignment, call_statement, do_block, while_loop, repeat_loop, if_statement, numeric_for, generic_for, function_statement, local_function, local_statement, return_statement, break_statement, Branches, no_branches, branch, Otherwise, no_otherwise, otherwise}
use Rattle.recover_expr.specs.Drafts.{head_part}
use Rattle.recover_expr.specs.Placing.{Steps}
use Rattle.scheme.specs.Making.{Ahead, Maker, new_label, place, captured_from, active_count}
use Rattle.scheme.specs.Statements.{Loop, end_block, block_part, settle, arm_part}
use Rattle.scheme.specs.Scheme.{coded, has_branch, has_otherwise, statement_made, statements_made, branches_made}
use Rattle.scheme.specs.declared.making.Active.{Active}
use Rattle.same_flow.specs.Laid.{Exit, IsBlock, BodyLaid, StatementLaid, BranchesLaid, OtherwiseLaid, label_of, with_new_labels, while_begun, repeat_begun, arm_begun, loop_of, exit_to, head_values, numeric_valued, numeric_begun, generic_valued, generic_begun, for_loop_of}
use Rattle.same_flow.specs.Renaming.{StatementsRename}
use Rattle.same_flow.specs.SameFlow.{AreLaid, HasPlainParts, begun_of}
use Rattle.same_flow.specs.Told.{at_beginning, LaidAreTold}
use Rattle.same_flow.proofs.Endings.{numbered, end_none}
use Rattle.same_flow.proofs.Followed.{Run, Follows, nought, EndBy, LastTo, end_append, last_weaker, last_both, append_nothing, settle_same, relabelled, made_as, followed}
use Rattle.same_flow.proofs.TestsFollowed.{test_goes}
use Rattle.same_flow.proofs.BlocksFollowed.{outer_of, Matches, Grows, block_ends, replicated, replicate_ends, replicate_lasts}
use Rattle.same_flow.proofs.HeadsFollowed.{numeric_head_goes, generic_head_goes}
use Rattle.same_flow.proofs.ForsFollowed.{for_ends, at_begun}
use Rattle.same_flow.proofs.ForStatements.{for_last}
use Rattle.same_flow.proofs.StatementsFollowed.{body_goes}
use Rattle.same_flow.proofs.RenamedStatements.{statements_rename}
use Rattle.same_flow.proofs.StepsTold.{Told, told_nowhere, told_both, same_active, block_told}
use Rattle.same_flow.proofs.FlowSame.{begun_settled}
use Rattle.same_flow.proofs.TestsTold.{test_told}
use Rattle.same_flow.proofs.ActsTold.{act_told, return_told, declaration_told, break_told}
use Rattle.same_flow.proofs.LoopsTold.{Passes, jump_passes, arm_passes, arm_order, captured_told}
use Rattle.same_flow.proofs.ForsTold.{counted_fits, numeric_hidden, generic_hidden, numeric_variables, generic_variables, for_told}

module _ (run : Run) (renames : StatementsRename) (plain : HasPlainParts run.code) where
  -- one statement goes as the block of it alone
  pub statement_grows : (s : Statement) (exit : Option Exit) (stop : ℕ) (loop : Option Loop) (m : Maker) (ends : List ℕ) (from to : ℕ) → Follows run nought nought m ends from → Matches loop exit →
      LastTo stop ends → to ≤ stop → from ≤ to → StatementLaid run.code exit stop s loop m from to → Grows run (outer_of loop exit) m ends stop from (settle (statement_made s 1 loop m)) to
  statement_grows s exit stop loop m ends from to F e l h a S =
      body_goes run renames plain (syntax.statement 1 false s no_statements) exit stop loop m ends from to F e l h (refl, to, a, omega arith, S, refl)

  -- what follows behind a block
  pub block_follows : (block : Statements) (exit : Option Exit) (loop : Option Loop) (m : Maker) (ends : List ℕ) (n : ℕ) (active : List Active) (from to : ℕ) → Follows run nought nought m ends from →
      length ends ≡ n → Matches loop exit → LastTo to ends →
      IsBlock run.code active n (captured_from n (statements_made block loop m)) (λ stop end. BodyLaid run.code exit stop block loop m from end) from to →
      Follows run nought nought (block_part 1 (statements_made block loop) m) ends to
  block_follows block exit loop m ends n active from to F c e l B =
      followed (made_as (ap (λ k. end_block 1 k (statements_made block loop m)) (sym c ∙ F.count))
      (block_ends active n (captured_from n (statements_made block loop m)) refl c (λ stop end. BodyLaid run.code exit stop block loop m from end) to l
      (λ stop h D. body_goes run renames plain block exit stop loop m ends from stop F e (last_weaker stop to ends h l) (omega arith) D) B)) F

  -- a block tells where its statements do
  inner_told : (block : Statements) (exit : Option Exit) (loop : Option Loop) (m : Maker) (ends : List ℕ) (n : ℕ) (active : List Active) (from to : ℕ) → Follows run nought nought m ends from →
      m.active ≡ active → length ends ≡ n → Matches loop exit → LastTo to ends →
      ((stop : ℕ) → LastTo stop ends → BodyLaid run.code exit stop block loop m from stop → Told run from stop) →
      IsBlock run.code active n (captured_from n (statements_made block loop m)) (λ stop end. BodyLaid run.code exit stop block loop m from end) from to → Told run from to
  inner_told block exit loop m ends n active from to F is c e l told B =
      block_told plain active n (captured_from n (statements_made block loop m)) c (λ stop end. BodyLaid run.code exit stop block loop m from end) to l F is
      (λ stop h D. body_goes run renames plain block exit stop loop m ends from stop F e (last_weaker stop to ends h l) (omega arith) D) (λ stop h D. told stop (last_weaker stop to ends h l) D) B

  mutual
    body_told : (block : Statements) (exit : Option Exit) (stop : ℕ) (loop : Option Loop) (m : Maker) (ends : List ℕ) (from to : ℕ) → Follows run nought nought m ends from → Matches loop exit →
        LastTo stop ends → to ≤ stop → BodyLaid run.code exit stop block loop m from to → Told run from to
    body_told no_statements exit stop loop m ends from to F e l h B = told_nowhere run from to B
    body_told (syntax.statement line semi s rest) exit stop loop m ends from to F e l h (one, mid, a, b, S, B) =
        let G = statement_grows s exit stop loop m ends from mid F e l (omega arith) a S in
        told_both run from mid to (statement_told s exit stop loop m ends from mid F e l (omega arith) S)
        (body_told rest exit stop loop (settle (statement_made s 1 loop m)) (ends ++ G.new) mid to (followed G.goes F) e (last_both stop ends G.new l G.lasts) h B)

    statement_told : (s : Statement) (exit : Option Exit) (stop : ℕ) (loop : Option Loop) (m : Maker) (ends : List ℕ) (from to : ℕ) → Follows run nought nought m ends from → Matches loop exit →
        LastTo stop ends → to ≤ stop → StatementLaid run.code exit stop s loop m from to → Told run from to
    statement_told (assignment targets es) exit stop loop m ends from to F e l h S = act_told (assignment targets es) tt m ends from to F S (last_weaker to stop ends h l)
    statement_told (call_statement x) exit stop loop m ends from to F e l h S = act_told (call_statement x) tt m ends from to F S (last_weaker to stop ends h l)
    statement_told (function_statement path method body) exit stop loop m ends from to F e l h S =
        act_told (function_statement path method body) tt m ends from to F S (last_weaker to stop ends h l)
    statement_told (local_function name body) exit stop loop m ends from to F e l h S =
        declaration_told renames plain (local_function name body) tt m ends stop from to F S (last_weaker to stop ends h l) h
    statement_told (local_statement names es) exit stop loop m ends from to F e l h S =
        declaration_told renames plain (local_statement names es) tt m ends stop from to F S (last_weaker to stop ends h l) h
    statement_told (return_statement es) exit stop loop m ends from to F e l h S = return_told es m ends from to F S (last_weaker to stop ends h l)
    statement_told break_statement exit stop loop m ends from to F e l h S = break_told exit m ends from to F S (last_weaker to stop ends h l)
    statement_told (do_block block) exit stop loop m ends from to F e l h S =
        inner_told block exit loop m ends (active_count m) m.active from to F refl F.count e (last_weaker to stop ends h l)
        (λ x k D. body_told block exit x loop m ends from x F e k (omega arith) D) S
    statement_told (while_loop x block) exit stop loop m ends from to F e l h (start, back, a, b, T, B, jump, t) =
        let last = last_weaker to stop ends h l in
        let first = last_weaker start to ends (omega arith) last in
        let later = last_weaker back to ends (omega arith) last in
        let around = exit_to to m in
        let begun = followed (test_goes run renames plain m.active (place (suc (label_of m)) (with_new_labels 2 m)) ends x false (label_of m) to from start T first) (relabelled _ F) in
        let behind = block_follows block around (loop_of m) (while_begun x m) ends (active_count m) m.active start back begun F.count refl later B in
        told_both run from start to (test_told run renames plain m.active x false to from start T m ends F refl first)
        (told_both run start back to
        (inner_told block around (loop_of m) (while_begun x m) ends (active_count m) m.active start back begun (same_active plain F begun a first) F.count refl later
        (λ y k D. body_told block around y (loop_of m) (while_begun x m) ends start y begun refl k (omega arith) D) B)
        (jump_passes _ ends back to 0 from t last behind (same_active plain F behind (omega arith) later) jump).told)
    statement_told (repeat_loop block x) exit stop loop m ends from to F e l h (start, a, inl (c, b, B, T)) =
        let last = last_weaker to stop ends h l in
        let begun = repeat_begun m in
        let inside = statements_made block (loop_of m) begun in
        let G = body_goes run renames plain block (exit_to to m) to (loop_of m) begun ends from start (relabelled _ F) refl last b B in
        told_both run from start to (body_told block (exit_to to m) to (loop_of m) begun ends from start (relabelled _ F) refl last b B)
        (test_told run renames plain inside.active x false from start to T inside (ends ++ G.new) (followed G.goes (relabelled _ F)) refl (last_both to ends G.new last G.lasts))
    statement_told (repeat_loop block x) exit stop loop m ends from to F e l h (start, a, inr (c, tested, b, B, T, C, jump, D, K, t)) =
        let last = last_weaker to stop ends h l in
        let begun = repeat_begun m in
        let inside = statements_made block (loop_of m) begun in
        let later = last_weaker (tested + 2) to ends (omega arith) last in
        let G = body_goes run renames plain block (exit_to to m) (tested + 2) (loop_of m) begun ends from start (relabelled _ F) refl later (omega arith) B in
        told_both run from start to (body_told block (exit_to to m) (tested + 2) (loop_of m) begun ends from start (relabelled _ F) refl later (omega arith) B)
        (captured_told run renames plain x m inside ends G.new from to start tested F (followed G.goes (relabelled _ F)) G.ends_by (last_both (tested + 2) ends G.new later G.lasts) a b T C jump D K t last)
    statement_told (if_statement branches other) exit stop loop m ends from to F e l h (else_from, a, b, B, O) =
        let last = last_weaker to stop ends h l in
        let arms = branches_passed branches exit (has_otherwise other) (label_of m) to loop (new_label m).after ends from else_from (relabelled _ F) e (last_weaker else_from to ends b last) B in
        told_both run from else_from to arms.told
        (otherwise_told other exit loop (branches_made branches 1 loop (label_of m) (has_otherwise other) (new_label m).after) ends else_from to arms.follows e last O)
    statement_told (numeric_for name first final by block) exit stop loop m ends from to F e l h (foot, variables_end, H, less, B, V, K, t) =
        let last = last_weaker to stop ends h l in
        let head = numeric_head_goes renames run plain name first final by m from foot to variables_end _ H in
        let valued = numeric_valued 1 name first final by m in
        let begun = numeric_begun 1 name first final by m in
        let around = for_loop_of (active_count m) valued in
        let lasting = for_last run valued.active (active_count m + 3) (captured_from (active_count m + 3) begun) from variables_end foot to ends V less t last in
        let all = for_ends ends to head.variables variables_end in
        let start = at_begun head lasting.0 nought nought refl F in
        let behind = block_follows block (exit_to to m) around begun all (active_count begun) begun.active (suc from) variables_end start start.count refl (lasting.1 head.variables) B in
        let others = numeric_variables name first final by m in
        for_told plain true (head_part (head_values first final by) (name ∷ [])) valued.active others.0 ends head others.1 (numeric_hidden name first final by m) F H (counted_fits first final by, refl)
        less V K t last lasting.0 (lasting.1 head.variables) start behind
        (inner_told block (exit_to to m) around begun all (active_count begun) begun.active (suc from) variables_end start refl start.count refl (lasting.1 head.variables)
        (λ x k D. body_told block (exit_to to m) x around begun all (suc from) x start refl k (omega arith) D) B)
    statement_told (generic_for names es block) exit stop loop m ends from to F e l h (foot, variables_end, H, less, B, V, K, t) =
        let last = last_weaker to stop ends h l in
        let head = generic_head_goes renames run plain names es m from foot to variables_end _ H in
        let valued = generic_valued 1 names es m in
        let begun = generic_begun 1 names es m in
        let around = for_loop_of (active_count m) valued in
        let lasting = for_last run valued.active (active_count m + 3) (captured_from (active_count m + 3) begun) from variables_end foot to ends V less t last in
        let all = for_ends ends to head.variables variables_end in
        let start = at_begun head lasting.0 nought nought refl F in
        let behind = block_follows block (exit_to to m) around begun all (active_count begun) begun.active (suc from) variables_end start start.count refl (lasting.1 head.variables) B in
        let others = generic_variables names es m in
        for_told plain false (head_part es names) valued.active others.0 ends head others.1 (generic_hidden names es m) F H tt
        less V K t last lasting.0 (lasting.1 head.variables) start behind
        (inner_told block (exit_to to m) around begun all (active_count begun) begun.active (suc from) variables_end start refl start.count refl (lasting.1 head.variables)
        (λ x k D. body_told block (exit_to to m) x around begun all (suc from) x start refl k (omega arith) D) B)

    pub branches_passed : (branches : Branches) (exit : Option Exit) (more : Bool) (label end : ℕ) (loop : Option Loop) (m : Maker) (ends : List ℕ) (from to : ℕ) → Follows run nought nought m ends from →
        Matches loop exit → LastTo to ends → BranchesLaid run.code exit branches more label end loop m from to → Passes run from (branches_made branches 1 loop label more m) ends to
    branches_passed no_branches exit more label end loop m ends from to F e l B =
        record { told = told_nowhere run from to B; follows = subst (λ x. Follows run nought nought m ends x) (sym B) F }
    branches_passed (branch x block rest) exit more label end loop m ends from to F e l (start, last, next, a, b, c, T, B, A, R) =
        let further = has_branch rest || more in
        let order = arm_order run further m.active last end next A in
        let first = last_weaker start to ends (omega arith) l in
        let later = last_weaker last to ends (omega arith) l in
        let begun = followed (test_goes run renames plain m.active (new_label m).after ends x false (label_of m) next from start T first) (relabelled _ F) in
        let behind = block_follows block exit loop (arm_begun x m) ends (active_count m) m.active start last begun F.count e later B in
        let arm = arm_passes further (block_part 1 (statements_made block loop) (arm_begun x m)) ends label last end next behind (same_active plain F behind (omega arith) later) A
        (last_weaker next to ends c l) in
        let others = branches_passed rest exit more label end loop (arm_part 1 label further (coded x) (statements_made block loop) m) ends next to (relabelled _ arm.follows) e l R in
        record {
          told =
              told_both run from start to (test_told run renames plain m.active x false next from start T m ends F refl first)
              (told_both run start last to
              (inner_told block exit loop (arm_begun x m) ends (active_count m) m.active start last begun (same_active plain F begun a first) F.count e later
              (λ y k D. body_told block exit y loop (arm_begun x m) ends start y begun e k (omega arith) D) B)
              (told_both run last next to arm.told others.told));
          follows = others.follows;
        }

    otherwise_told : (other : Otherwise) (exit : Option Exit) (loop : Option Loop) (m : Maker) (ends : List ℕ) (from to : ℕ) → Follows run nought nought m ends from → Matches loop exit →
        LastTo to ends → OtherwiseLaid run.code exit other loop m from to → Told run from to
    otherwise_told no_otherwise exit loop m ends from to F e l O = told_nowhere run from to O
    otherwise_told (otherwise block) exit loop m ends from to F e l O =
        inner_told block exit loop m ends (active_count m) m.active from to F refl F.count e l (λ x k D. body_told block exit x loop m ends from x F e k (omega arith) D) O

-- ---- a function

module _ (code : Steps) (params names : List Text) (ahead : Ahead) where
  abbrev pub run : Run
  run = record { code = code; first = at_beginning code params names ahead }

  pub starts : Follows run nought nought run.first.maker run.first.ends 0
  starts =
      let begun = run.first.maker in
      record {
        behind = [];
        all_ends = sym (append_nothing run.first.ends);
        count = replicated (active_count begun) (length code.steps);
        gone = tt;
        same = ap (numbered nought) (sym (ap settle (end_none begun) ∙ settle_same begun (begun_settled params names ahead)));
      }

pub laid_tell : (code : Steps) → HasPlainParts code → (params names : List Text) (ahead : Ahead) (block : Statements) → AreLaid code params names ahead block →
    Told (run code params names ahead) 0 (length code.steps)
laid_tell code plain params names ahead block laid =
    let all = run code params names ahead in
    let last = length code.steps in
    body_told all statements_rename plain block None last None all.first.maker all.first.ends 0 last (starts code params names ahead) tt
    (replicate_lasts (active_count all.first.maker) last) (omega arith) laid

-- what is made follows all steps, and the locals that are active there end there
pub laid_follow : (code : Steps) → HasPlainParts code → (params names : List Text) (ahead : Ahead) (block : Statements) → AreLaid code params names ahead block →
    (ends : List ℕ) × EndBy (length code.steps) ends × Follows (run code params names ahead) nought nought (statements_made block None (begun_of params names ahead)) ends (length code.steps)
laid_follow code plain params names ahead block laid =
    let all = run code params names ahead in
    let last = length code.steps in
    let G = body_goes all statements_rename plain block None last None all.first.maker all.first.ends 0 last (starts code params names ahead) tt
    (replicate_lasts (active_count all.first.maker) last) (omega arith) laid in
    (all.first.ends ++ G.new, end_append last all.first.ends G.new (replicate_ends (active_count all.first.maker) last) G.ends_by, followed G.goes (starts code params names ahead))

pub laid_are_told : LaidAreTold
laid_are_told code plain params names ahead block laid at step there =
    ((laid_tell code plain params names ahead block laid).each at step (omega arith) (slice_get_within code.steps at step there) there).told
