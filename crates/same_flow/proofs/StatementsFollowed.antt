-- Statements follow the steps that they stand on: the induction over the tree.
use Rattle.std.proofs.Common.{◌≡◌, ℕ, suc, ◌+◌, ◌≤◌, Bool, true, false, inl, inr, List, ◌∷◌, ◌++◌, length, refl, sym, ap, ◌∙◌, arith, subst}
use Rattle.std.specs.Prelude.{Option, Some, ◌||◌}
use Rattle.lua_tree.specs.Syntax as syntax
use Rattle.lua_tree.specs.Syntax.{Statements, no_statements, Statement, assignment, call_statement, do_block, while_loop, repeat_loop, if_statement, numeric_for, generic_for, function_statement, local_function, local_statement, return_statement, break_statement, Branches, no_branches, branch, Otherwise, no_otherwise, otherwise}
use Rattle.opcode.specs.declared.op.Op.{Op}
use Rattle.scheme.specs.Making.{Maker, new_label, place, jump_to, captured_from, active_count, when}
use Rattle.scheme.specs.Statements.{Loop, end_block, block_part, settle, arm_part}
use Rattle.scheme.specs.Scheme.{coded, has_branch, has_otherwise, statement_made, statements_made, branches_made, otherwise_made}
use Rattle.scheme.specs.declared.making.Active.{Active}
use Rattle.same_flow.specs.Laid.{Exit, IsBlock, ArmEnds, BodyLaid, StatementLaid, BranchesLaid, OtherwiseLaid, label_of, with_new_labels, while_begun, repeat_begun, arm_begun, loop_of, exit_to, numeric_valued, numeric_begun, generic_valued, generic_begun, for_loop_of}
use Rattle.same_flow.specs.Renaming.{StatementsRename}
use Rattle.same_flow.specs.SameFlow.{HasPlainParts}
use Rattle.same_flow.proofs.KeptActive.{active_kept, kept, assignment_kept, function_statement_kept}
use Rattle.same_flow.proofs.Followed.{Run, Follows, nought, Goes, LastTo, last_weaker, last_both, end_append, append_again, relabelled, stays, ◌onward◌, within, made_as, ends_as, at_place, settling, followed, label_ends}
use Rattle.same_flow.proofs.TestsFollowed.{jump_step, test_goes}
use Rattle.same_flow.proofs.BlocksFollowed.{outer_of, Matches, Grows, no_growth, block_ends, act_goes, return_goes, declaration_goes, break_goes}
use Rattle.same_flow.proofs.LoopsFollowed.{while_goes, plain_repeat_goes, captured_repeat_goes}
use Rattle.same_flow.proofs.HeadsFollowed.{numeric_head_goes, generic_head_goes}
use Rattle.same_flow.proofs.ForsFollowed.{for_ends, at_begun}
use Rattle.same_flow.proofs.ForStatements.{numeric_goes, generic_goes, for_last}

arm_ends : {run : Run} {outer : List (ℕ × ℕ)} (more : Bool) (active : List Active) (m : Maker) (ends : List ℕ) (label last end next : ℕ) → ArmEnds run.code active more last end next →
    LastTo next ends →
    Goes run ((label, end) ∷ outer) m ends last (when more (jump_to 1 label) m) ends next
arm_ends true active m ends label last end next (jump, t) l = at_place (sym t) (within (λ f g o. (o.0, tt)) (jump_step m ends last label end jump (subst (λ x. LastTo x ends) t l)))
arm_ends false active m ends label last end next t l = at_place (sym t) stays

arm_order : (run : Run) (more : Bool) (active : List Active) (last end next : ℕ) → ArmEnds run.code active more last end next → last ≤ next
arm_order run true active last end next (jump, t) = omega arith
arm_order run false active last end next t = omega arith

block_goes : {run : Run} (block : Statements) (exit : Option Exit) (loop : Option Loop) (m : Maker) (ends : List ℕ) (n : ℕ) (active : List Active) (from to : ℕ) →
    Follows run nought nought m ends from → length ends ≡ n → LastTo to ends →
    ((stop : ℕ) → LastTo stop ends → BodyLaid run.code exit stop block loop m from stop → Grows run (outer_of loop exit) m ends stop from (statements_made block loop m) stop) →
    IsBlock run.code active n (captured_from n (statements_made block loop m)) (λ stop end. BodyLaid run.code exit stop block loop m from end) from to →
    Goes run (outer_of loop exit) m ends from (block_part 1 (statements_made block loop) m) ends to
block_goes {run} block exit loop m ends n active from to F c l body B =
    made_as (ap (λ k. end_block 1 k (statements_made block loop m)) (sym c ∙ F.count))
    (block_ends active n (captured_from n (statements_made block loop m)) refl c (λ stop end. BodyLaid run.code exit stop block loop m from end) to l
    (λ stop h D. body stop (last_weaker stop to ends h l) D) B)

module _ (run : Run) (renames : StatementsRename) (plain : HasPlainParts run.code) where
  mutual
    pub body_goes : (block : Statements) (exit : Option Exit) (stop : ℕ) (loop : Option Loop) (m : Maker) (ends : List ℕ) (from to : ℕ) → Follows run nought nought m ends from → Matches loop exit →
        LastTo stop ends → to ≤ stop →
        BodyLaid run.code exit stop block loop m from to → Grows run (outer_of loop exit) m ends stop from (statements_made block loop m) to
    body_goes no_statements exit stop loop m ends from to F e l h B = no_growth stop (at_place (sym B) stays)
    body_goes (syntax.statement line semi s rest) exit stop loop m ends from to F e l h (one, mid, a, b, S, B) =
        let G = statement_goes s exit stop loop m ends from mid F e l (omega arith) S in
        let H = body_goes rest exit stop loop (settle (statement_made s 1 loop m)) (ends ++ G.new) mid to (followed G.goes F) e (last_both stop ends G.new l G.lasts) h B in
        record {
          new = G.new ++ H.new;
          ends_by = end_append stop G.new H.new G.ends_by H.ends_by;
          lasts = last_both stop G.new H.new G.lasts H.lasts;
          goes = made_as (ap (λ n. statements_made rest loop (settle (statement_made s n loop m))) (sym one)) (ends_as (append_again ends G.new H.new) (G.goes onward H.goes));
        }

    statement_goes : (s : Statement) (exit : Option Exit) (stop : ℕ) (loop : Option Loop) (m : Maker) (ends : List ℕ) (from to : ℕ) → Follows run nought nought m ends from → Matches loop exit →
        LastTo stop ends → to ≤ stop →
        StatementLaid run.code exit stop s loop m from to → Grows run (outer_of loop exit) m ends stop from (settle (statement_made s 1 loop m)) to
    statement_goes (assignment targets es) exit stop loop m ends from to F e l h S =
        act_goes run renames plain (assignment targets es) loop (λ n. refl) m ends stop from to (active_kept (assignment_kept 1 targets es) m) S (last_weaker to stop ends h l)
    statement_goes (call_statement x) exit stop loop m ends from to F e l h S =
        act_goes run renames plain (call_statement x) loop (λ n. refl) m ends stop from to (active_kept ((kept x).multi Op.Call (Some 0)) m) S (last_weaker to stop ends h l)
    statement_goes (function_statement path method body) exit stop loop m ends from to F e l h S =
        act_goes run renames plain (function_statement path method body) loop (λ n. refl) m ends stop from to (active_kept (function_statement_kept 1 path method body) m) S (last_weaker to stop ends h l)
    statement_goes (local_function name body) exit stop loop m ends from to F e l h S =
        declaration_goes run renames plain (local_function name body) loop (λ n. refl) m ends stop from to S (last_weaker to stop ends h l)
    statement_goes (local_statement names es) exit stop loop m ends from to F e l h S =
        declaration_goes run renames plain (local_statement names es) loop (λ n. refl) m ends stop from to S (last_weaker to stop ends h l)
    statement_goes (return_statement es) exit stop loop m ends from to F e l h S = return_goes run renames plain es loop m ends stop from to S (last_weaker to stop ends h l)
    statement_goes break_statement exit stop loop m ends from to F e l h S = no_growth stop (break_goes loop exit m ends from to e S (last_weaker to stop ends h l))
    statement_goes (do_block block) exit stop loop m ends from to F e l h S =
        no_growth stop (settling (block_goes block exit loop m ends (active_count m) m.active from to F F.count (last_weaker to stop ends h l)
        (λ x k D. body_goes block exit x loop m ends from x F e k (omega arith) D) S))
    statement_goes (while_loop x block) exit stop loop m ends from to F e l h (start, back, a, b, T, B, jump, t) =
        let last = last_weaker to stop ends h l in
        let test = test_goes run renames plain m.active (place (suc (label_of m)) (with_new_labels 2 m)) ends x false (label_of m) to from start T (last_weaker start to ends (omega arith) last) in
        let begun = followed test (relabelled _ F) in
        let inner = block_goes block (exit_to to m) (loop_of m) (while_begun x m) ends (active_count m) m.active start back begun F.count (last_weaker back to ends (omega arith) last)
        (λ y k D. body_goes block (exit_to to m) y (loop_of m) (while_begun x m) ends start y begun refl k (omega arith) D) B in
        no_growth stop (while_goes m.active x block loop m ends from to start back test inner jump t last)
    statement_goes (repeat_loop block x) exit stop loop m ends from to F e l h (start, a, inl (c, b, B, T)) =
        let last = last_weaker to stop ends h l in
        let body = body_goes block (exit_to to m) to (loop_of m) (repeat_begun m) ends from start (relabelled _ F) refl last b B in
        no_growth stop (plain_repeat_goes run renames plain _ x block loop m ends from to start c F.count body T last)
    statement_goes (repeat_loop block x) exit stop loop m ends from to F e l h (start, a, inr (c, tested, b, B, T, C, jump, D, K, t)) =
        let last = last_weaker to stop ends h l in
        let body = body_goes block (exit_to to m) (tested + 2) (loop_of m) (repeat_begun m) ends from start (relabelled _ F) refl (last_weaker (tested + 2) to ends (omega arith) last) (omega arith) B in
        no_growth stop (captured_repeat_goes run renames plain _ _ x block loop m ends from to start tested c F.count body T C jump D K t last)
    statement_goes (if_statement branches other) exit stop loop m ends from to F e l h (else_from, a, b, B, O) =
        let last = last_weaker to stop ends h l in
        let arms = branches_go branches exit (has_otherwise other) (label_of m) to loop (new_label m).after ends from else_from (relabelled _ F) e (last_weaker else_from to ends b last) B in
        let rest = otherwise_goes other exit loop (branches_made branches 1 loop (label_of m) (has_otherwise other) (new_label m).after) ends else_from to (followed arms (relabelled _ F)) e last O in
        no_growth stop (settling (label_ends (arms onward within (λ f g o. o.1) rest)))
    statement_goes (numeric_for name first final by block) exit stop loop m ends from to F e l h (foot, variables_end, H, less, B, V, K, t) =
        let last = last_weaker to stop ends h l in
        let head = numeric_head_goes renames run plain name first final by m from foot to variables_end _ H in
        let valued = numeric_valued 1 name first final by m in
        let begun = numeric_begun 1 name first final by m in
        let lasting = for_last run valued.active (active_count m + 3) (captured_from (active_count m + 3) begun) from variables_end foot to ends V less t last in
        let start = at_begun head lasting.0 nought nought refl F in
        let inner = block_goes block (exit_to to m) (for_loop_of (active_count m) valued) begun (for_ends ends to head.variables variables_end) (active_count begun) begun.active
        (suc from) variables_end start start.count
        (lasting.1 head.variables) (λ x k D. body_goes block (exit_to to m) x (for_loop_of (active_count m) valued) begun (for_ends ends to head.variables variables_end) (suc from) x start refl k
        (omega arith) D) B in
        no_growth stop (numeric_goes plain valued.active name first final by block loop m ends from to foot variables_end head F less inner V K t last)
    statement_goes (generic_for names es block) exit stop loop m ends from to F e l h (foot, variables_end, H, less, B, V, K, t) =
        let last = last_weaker to stop ends h l in
        let head = generic_head_goes renames run plain names es m from foot to variables_end _ H in
        let valued = generic_valued 1 names es m in
        let begun = generic_begun 1 names es m in
        let lasting = for_last run valued.active (active_count m + 3) (captured_from (active_count m + 3) begun) from variables_end foot to ends V less t last in
        let start = at_begun head lasting.0 nought nought refl F in
        let inner = block_goes block (exit_to to m) (for_loop_of (active_count m) valued) begun (for_ends ends to head.variables variables_end) (active_count begun) begun.active
        (suc from) variables_end start start.count
        (lasting.1 head.variables) (λ x k D. body_goes block (exit_to to m) x (for_loop_of (active_count m) valued) begun (for_ends ends to head.variables variables_end) (suc from) x start refl k
        (omega arith) D) B in
        no_growth stop (generic_goes plain valued.active names es block loop m ends from to foot variables_end head F less inner V H.1 K t last)

    branches_go : (branches : Branches) (exit : Option Exit) (more : Bool) (label end : ℕ) (loop : Option Loop) (m : Maker) (ends : List ℕ) (from to : ℕ) → Follows run nought nought m ends from →
        Matches loop exit → LastTo to ends →
        BranchesLaid run.code exit branches more label end loop m from to → Goes run ((label, end) ∷ outer_of loop exit) m ends from (branches_made branches 1 loop label more m) ends to
    branches_go no_branches exit more label end loop m ends from to F e l B = at_place (sym B) stays
    branches_go (branch x block rest) exit more label end loop m ends from to F e l (start, last, next, a, b, c, T, B, A, R) =
        let further = has_branch rest || more in
        let order = arm_order run further m.active last end next A in
        let test = test_goes run renames plain m.active (new_label m).after ends x false (label_of m) next from start T (last_weaker start to ends (omega arith) l) in
        let begun = followed test (relabelled _ F) in
        let inner = block_goes block exit loop (arm_begun x m) ends (active_count m) m.active start last begun F.count (last_weaker last to ends (omega arith) l)
        (λ y k D. body_goes block exit y loop (arm_begun x m) ends start y begun e k (omega arith) D) B in
        let jump = arm_ends further m.active (block_part 1 (statements_made block loop) (arm_begun x m)) ends label last end next A (last_weaker next to ends c l) in
        let arm : Goes run ((label, end) ∷ outer_of loop exit) m ends from (arm_part 1 label further (coded x) (statements_made block loop) m) ends next =
        label_ends (within (λ f g o. (o.0, tt)) test onward within (λ f g o. o.1.1) inner onward within (λ f g o. o.1) jump) in
        arm onward branches_go rest exit more label end loop (arm_part 1 label further (coded x) (statements_made block loop) m) ends next to (followed arm F) e l R

    otherwise_goes : (other : Otherwise) (exit : Option Exit) (loop : Option Loop) (m : Maker) (ends : List ℕ) (from to : ℕ) → Follows run nought nought m ends from → Matches loop exit →
        LastTo to ends →
        OtherwiseLaid run.code exit other loop m from to → Goes run (outer_of loop exit) m ends from (otherwise_made other 1 loop m) ends to
    otherwise_goes no_otherwise exit loop m ends from to F e l O = at_place (sym O) stays
    otherwise_goes (otherwise block) exit loop m ends from to F e l O = block_goes block exit loop m ends (active_count m) m.active from to F F.count l
        (λ x k D. body_goes block exit x loop m ends from x F e k (omega arith) D) O
