-- Statements that stand on the steps of a function lie there: the induction over the tree.
use Rattle.std.proofs.Common.{◌≡◌, ◌≤◌, ℕ, Bool, true, false, not, List, ◌++◌, length, refl, sym, ap, ap₂, ◌∙◌, arith, subst}
use Rattle.std.specs.Prelude.{Option, None, ◌||◌}
use Rattle.lua_num.specs.Bytes.{Text}
use Rattle.lua_tree.specs.Names.{is_name, are_some_names}
use Rattle.lua_tree.specs.Syntax as syntax
use Rattle.lua_tree.specs.Syntax.{Statements, no_statements, Statement, assignment, call_statement, do_block, while_loop, repeat_loop, if_statement, numeric_for, generic_for, function_statement, local_function, local_statement, return_statement, break_statement, Branches, no_branches, branch, Otherwise, no_otherwise, otherwise, ForStep, Expressions, Expression}
use Rattle.lua_tree.specs.WellFormed.{has_expressions, ends_block, may_follow, formed_expression, formed_expressions, formed_step, formed_statements, formed_statement, formed_branches, formed_otherwise}
use Rattle.recover_expr.specs.Placing.{Steps}
use Rattle.recover_expr.specs.declared.steps.Step.{Step}
use Rattle.recover_flow.specs.Flow.{Flow, no_flow, and_flow, FlowStatement, step_flow, Around, EndsWell, captures_flow, is_break}
use Rattle.scheme.specs.Making.{Ahead, Maker, new_label, active_count, captured_from}
use Rattle.scheme.specs.Scheme.{has_otherwise, statement_made, statements_made, branches_made}
use Rattle.scheme.specs.Statements.{Loop, settle}
use Rattle.same_flow.specs.Declaring.{ClosesTell}
use Rattle.same_flow.specs.Laid.{Exit, StatementLaid, BranchesLaid, OtherwiseLaid, label_of}
use Rattle.same_flow.specs.SameFlow.{HasPlainParts}
use Rattle.same_flow.proofs.BlocksFollowed.{Matches, replicate_lasts}
use Rattle.same_flow.proofs.Followed.{Run, Follows, nought, LastTo, last_weaker, last_both, length_both, followed, relabelled}
use Rattle.same_flow.proofs.HeadsFollowed.{first_of, second_of}
use Rattle.same_flow.proofs.RenamedStatements.{statements_rename}
use Rattle.same_flow.proofs.StatementsFollowed.{body_goes}
use Rattle.same_flow.proofs.StatementsTold.{statement_grows, starts}
use Rattle.built_flow.specs.BuiltLaid.{FewLocals}
use Rattle.built_flow.specs.LaidLie.{around_of, LaidLie}
use Rattle.built_flow.proofs.BlocksBuilt.{as_laid}
use Rattle.built_flow.proofs.CapturesKept.{kept_front, none_captured, captured_more}
use Rattle.built_flow.proofs.LaidArms.{ArmsFound, alone_found, before_else, before_arms, if_found}
use Rattle.built_flow.proofs.LaidDeclaring.{equal_at}
use Rattle.built_flow.proofs.LaidFlow.{Knows, statement_captures, StatementFound, BodyFinds}
use Rattle.built_flow.proofs.LaidFors.{numeric_found, generic_found}
use Rattle.built_flow.proofs.LaidLoops.{do_found, while_found, repeat_found}
use Rattle.built_flow.proofs.LaidSteps.{act_found, return_found, break_found, local_found, local_function_found}
use Rattle.built_flow.proofs.StepsTold.{run_of}

-- ---- what ends a block

free_ends : (found : FlowStatement) (rest : Flow) → is_break found ≡ false → EndsWell found rest
free_ends found no_flow e = tt
free_ends found (and_flow next rest) e = e

-- a `break` is the last of its block
ends_well : (s : Statement) (semi : Bool) (block : Statements) (found : FlowStatement) (rest : Flow) → may_follow s semi block ≡ true → (is_break found ≡ true → ends_block s ≡ true) →
    (block ≡ no_statements → rest ≡ no_flow) → EndsWell found rest
ends_well s semi no_statements found rest follows last none = subst (λ x. EndsWell found x) (sym (none refl)) tt
ends_well s semi (syntax.statement line next_semi next block) found rest follows last none = free_ends found rest (by (is_break found) refl)
  where
    other : (b : Bool) → not b ≡ true → b ≡ true → true ≡ false
    other true e h = sym e
    other false e h = cc

    by : (b : Bool) → is_break found ≡ b → b ≡ false
    by true e = other (ends_block s) (first_of (not (ends_block s)) _ follows) (last e)
    by false e = refl

captures_more : (steps : List Step) (found : FlowStatement) (rest : Flow) → captures_flow steps (and_flow found rest) ≡ (statement_captures steps found || captures_flow steps rest)
captures_more steps (step_flow step) rest = refl
captures_more steps found rest = refl

-- ---- the blocks of well-formed loops

numeric_formed : (name : Text) (first last : Expression) (by : ForStep) (block : Statements) → formed_statement (numeric_for name first last by block) ≡ true → formed_statements block ≡ true
numeric_formed name first last by block e = second_of (formed_step by) _ (second_of (formed_expression last) _ (second_of (formed_expression first) _ (second_of (is_name name) _ e)))

generic_formed : (texts : List Text) (es : Expressions) (block : Statements) → formed_statement (generic_for texts es block) ≡ true → formed_statements block ≡ true
generic_formed texts es block e = second_of (formed_expressions es) _ (second_of (has_expressions es) _ (second_of (are_some_names texts) _ e))

-- the first arm, where there is one
abbrev ArmsOf : Steps → Around → Branches → Otherwise → (from to : ℕ) → Type 0
ArmsOf code around no_branches other from to = Unit {0}
ArmsOf code around (branch e block rest) other from to = ArmsFound code around e block rest other from to

module _ (code : Steps) (params names : List Text) (ahead : Ahead) (plain : HasPlainParts code) (closes : ClosesTell code params names ahead) (few : FewLocals code) where
  abbrev run : Run
  run = run_of code params names ahead

  -- what is found of the block of an `else`
  abbrev OtherwiseFinds : Otherwise → Type 0
  OtherwiseFinds no_otherwise = Unit {0}
  OtherwiseFinds (otherwise block) = BodyFinds code params names ahead plain closes block

  mutual
    body_found : (block : Statements) → formed_statements block ≡ true → BodyFinds code params names ahead plain closes block
    body_found no_statements formed around exit stop loop m ends from to follows matches same knows l h standing = record {
      found = no_flow;
      behind = around;
      lies = (refl, standing);
      knows = subst (λ p. Knows code params names ahead around m.active p) (sym standing) knows;
      captures = sym (none_captured (active_count m) m (omega arith));
      levels = λ room. omega arith;
      none = λ e. refl;
    }
    body_found (syntax.statement line semi s rest) formed around exit stop loop m ends from to follows matches same knows l h (one, mid, a, b, standing, body) =
        let others = second_of (formed_statement s) _ formed in
        let before_mid : mid ≤ stop = omega arith in
        let growth = statement_grows run statements_rename plain s exit stop loop m ends from mid follows matches l before_mid a standing in
        let first = statement_found s (first_of (formed_statement s) _ formed) around exit stop loop m ends from mid follows matches same knows l before_mid a standing in
        let middle = settle (statement_made s 1 loop m) in
        let all = ends ++ growth.new in
        let lasts = last_both stop ends growth.new l growth.lasts in
        let there : Follows run nought nought middle all mid = followed growth.goes follows in
        let behind = body_found rest (second_of (may_follow s semi rest) _ others) first.behind exit stop loop middle all mid to there matches (same ∙ ap as_laid (sym first.exit)) first.knows lasts h body in
        let further = body_goes run statements_rename plain rest exit stop loop middle all mid to there matches lasts h body in
        let made = statements_made rest loop middle in
        let front = kept_front run plain middle made all further.new mid to there (followed further.goes there) b (last_weaker to stop all h lasts) in
        let fewer : active_count m ≤ active_count middle = (let c = follows.count in let d = there.count in let e = length_both ends growth.new in omega arith) in
        let whole : made ≡ statements_made (syntax.statement line semi s rest) loop m = ap (λ n. statements_made rest loop (settle (statement_made s n loop m))) (sym one) in
        record {
          found = and_flow first.found behind.found;
          behind = behind.behind;
          lies = (ends_well s semi rest first.found behind.found (first_of (may_follow s semi rest) _ others) first.last behind.none, mid, first.behind, a, b, first.lies, behind.lies);
          knows = subst (λ (n : Maker). Knows code params names ahead behind.behind n.active to) whole behind.knows;
          captures =
              captures_more code.steps first.found behind.found ∙ ap₂ (λ x y. x || y) first.captures behind.captures ∙ sym (captured_more (active_count m) middle made fewer front)
              ∙ ap (captured_from (active_count m)) whole;
          levels = λ room. let c = first.levels room in let d = behind.levels room in omega arith;
          none = λ e. cc;
        }

    statement_found : (s : Statement) → formed_statement s ≡ true → (around : Around) (exit : Option Exit) (stop : ℕ) (loop : Option Loop) (m : Maker) (ends : List ℕ) (from to : ℕ) → Follows run nought nought m ends from →
        Matches loop exit → exit ≡ as_laid around.exit → Knows code params names ahead around m.active from → LastTo stop ends → to ≤ stop → from ≤ to → StatementLaid code exit stop s loop m from to →
        StatementFound code params names ahead around stop s loop m from to
    statement_found (assignment targets es) formed around exit stop loop m ends from to follows matches same knows l h order standing =
        act_found code params names ahead plain closes (assignment targets es) tt around exit stop loop m ends from to follows matches knows l h order standing standing
    statement_found (call_statement x) formed around exit stop loop m ends from to follows matches same knows l h order standing =
        act_found code params names ahead plain closes (call_statement x) tt around exit stop loop m ends from to follows matches knows l h order standing standing
    statement_found (function_statement path method body) formed around exit stop loop m ends from to follows matches same knows l h order standing =
        act_found code params names ahead plain closes (function_statement path method body) tt around exit stop loop m ends from to follows matches knows l h order standing standing
    statement_found (local_function name body) formed around exit stop loop m ends from to follows matches same knows l h order standing =
        local_function_found code params names ahead plain closes name body around exit stop loop m ends from to follows matches knows l h order standing
    statement_found (local_statement texts es) formed around exit stop loop m ends from to follows matches same knows l h order standing =
        local_found code params names ahead plain closes texts es (first_of _ _ formed) around exit stop loop m ends from to follows matches knows l h order standing
    statement_found (return_statement es) formed around exit stop loop m ends from to follows matches same knows l h order standing =
        return_found code params names ahead plain closes es around exit stop loop m ends from to follows matches knows l h order standing
    statement_found break_statement formed around exit stop loop m ends from to follows matches same knows l h order standing =
        break_found code params names ahead plain closes around exit stop loop m ends from to follows matches same knows l h order standing
    statement_found (do_block block) formed around exit stop loop m ends from to follows matches same knows l h order standing =
        do_found code params names ahead plain closes block (body_found block formed) around exit stop loop m ends from to follows matches same knows l h order standing
    statement_found (while_loop x block) formed around exit stop loop m ends from to follows matches same knows l h order standing =
        while_found code params names ahead plain closes x block (body_found block (second_of _ _ formed)) around exit stop loop m ends from to follows matches same knows l h order standing
    statement_found (repeat_loop block x) formed around exit stop loop m ends from to follows matches same knows l h order standing =
        repeat_found code params names ahead plain closes x block (body_found block (first_of _ _ formed)) around exit stop loop m ends from to follows matches same knows l h order standing
    statement_found (if_statement no_branches other) formed around exit stop loop m ends from to follows matches same knows l h order standing = cc
    statement_found (if_statement (branch x block rest) other) formed around exit stop loop m ends from to follows matches same knows l h order (else_from, a, b, branches_laid, other_laid) =
        let parts = second_of (formed_branches (branch x block rest)) (formed_otherwise other) formed in
        let arms = arms_found (branch x block rest) other (first_of (formed_branches (branch x block rest)) (formed_otherwise other) formed) (otherwise_found other parts) around exit loop (label_of m) (new_label m).after ends from else_from to
        (relabelled _ follows) matches same knows (last_weaker to stop ends h l) b branches_laid other_laid in
        if_found code params names ahead plain closes x block rest other around exit stop loop m ends from to follows matches knows l h order (else_from, a, b, branches_laid, other_laid) arms
    statement_found (numeric_for name first final by block) formed around exit stop loop m ends from to follows matches same knows l h order standing =
        numeric_found code params names ahead plain closes few name first final by block (body_found block (numeric_formed name first final by block formed))
        around exit stop loop m ends from to follows matches knows l h order standing
    statement_found (generic_for texts es block) formed around exit stop loop m ends from to follows matches same knows l h order standing =
        generic_found code params names ahead plain closes few texts es block (first_of (are_some_names texts) _ formed) (first_of (has_expressions es) _ (second_of (are_some_names texts) _ formed))
        (body_found block (generic_formed texts es block formed)) around exit stop loop m ends from to follows matches knows l h order standing

    otherwise_found : (other : Otherwise) → formed_otherwise other ≡ true → OtherwiseFinds other
    otherwise_found no_otherwise formed = tt
    otherwise_found (otherwise block) formed = body_found block formed

    arms_found : (branches : Branches) (other : Otherwise) → formed_branches branches ≡ true → OtherwiseFinds other → (around : Around) (exit : Option Exit) (loop : Option Loop) (label : ℕ) (m : Maker)
        (ends : List ℕ) (from else_from to : ℕ) → Follows run nought nought m ends from → Matches loop exit → exit ≡ as_laid around.exit → Knows code params names ahead around m.active from → LastTo to ends → else_from ≤ to →
        BranchesLaid code exit branches (has_otherwise other) label to loop m from else_from →
        OtherwiseLaid code exit other loop (branches_made branches 1 loop label (has_otherwise other) m) else_from to → ArmsOf code around branches other from to
    arms_found no_branches other formed also around exit loop label m ends from else_from to follows matches same knows l h branches_laid other_laid = tt
    arms_found (branch x block no_branches) no_otherwise formed also around exit loop label m ends from else_from to follows matches same knows l h branches_laid other_laid =
        alone_found code params names ahead plain closes x block (body_found block (first_of _ _ (second_of _ _ formed))) around exit loop label m ends from else_from to follows matches same knows l h branches_laid
        other_laid
    arms_found (branch x block no_branches) (otherwise last) formed also around exit loop label m ends from else_from to follows matches same knows l h branches_laid other_laid =
        before_else code params names ahead plain closes x block last (body_found block (first_of _ _ (second_of _ _ formed))) also around exit loop label m ends from else_from to
        follows matches same knows l h branches_laid other_laid
    arms_found (branch x block (branch next_x next_block rest)) other formed also around exit loop label m ends from else_from to follows matches same knows l h branches_laid other_laid =
        let parts = second_of _ _ formed in
        before_arms code params names ahead plain closes x block next_x next_block rest other (body_found block (first_of _ _ parts)) around exit loop label m ends from else_from to follows matches same knows l h
        (λ made next there known laid_next laid_other.
        arms_found (branch next_x next_block rest) other (second_of _ _ parts) also around exit loop label made ends next else_from to there matches same known l h laid_next laid_other) branches_laid other_laid

-- statements that stand on all steps of a function lie there
pub laid_lie : LaidLie
laid_lie code plain few params names ahead closes block formed standing =
    let around = around_of params names ahead in
    let first = (run_of code params names ahead).first in
    let last = length code.steps in
    let knows : Knows code params names ahead around first.maker.active 0 = record {
      counts = record { count = refl; captured = refl };
      declared = λ register less. equal_at (active_count first.maker) None register less;
    } in
    let it = body_found code params names ahead plain closes few block formed around None last None first.maker first.ends 0 last (starts code params names ahead) tt refl knows
    (replicate_lasts (active_count first.maker) last) (omega arith) standing in
    record { flow = it.found; behind = it.behind; lies = it.lies; levels = it.levels }
