-- What the steps of a function test keeps its order among the names that are in scope there, where its block does: the induction over the tree, with the names of the locals that are active.
use Rattle.std.proofs.Common.{◌≡◌, ◌≤◌, ◌<◌, ℕ, suc, ◌+◌, Bool, true, false, not, inl, inr, List, ◌∷◌, ◌++◌, length, refl, sym, ap, ◌∙◌, arith, subst}
use Rattle.std.proofs.lemmas.Bool.Decides.{nat_tests}
use Rattle.std.proofs.lemmas.Option.{same_Some}
use Rattle.std.specs.Prelude.{◌||◌, Option, None, Some, nat_lt}
use Rattle.std.specs.Bool.{beq}
use Rattle.lua_num.specs.Bytes.{Text}
use Rattle.lua_tree.specs.Syntax as syntax
use Rattle.lua_tree.specs.Syntax.{Statements, no_statements, Statement, assignment, call_statement, do_block, while_loop, repeat_loop, if_statement, numeric_for, generic_for, function_statement, local_function, local_statement, return_statement, break_statement, Branches, no_branches, branch, Otherwise, no_otherwise, otherwise, Expression, and_expression, or_expression, binary_expression, unary_expression, parenthesized}
use Rattle.lua_tree.specs.declared.tree.BinaryOp.{BinaryOp}
use Rattle.lua_tree.specs.declared.tree.UnaryOp.{UnaryOp}
use Rattle.proto.specs.declared.parts.Constant.{Constant}
use Rattle.recover_expr.specs.Drafts.{Part, condition_part, statement_part, values_part}
use Rattle.recover_expr.specs.Placing.{Steps}
use Rattle.recover_expr.specs.declared.steps.StepKind.{StepKind}
use Rattle.scheme.specs.Expressions.{is_true_constant, literal}
use Rattle.scheme.specs.Making.{Ahead, Maker, active_count, captured_from, new_label, place}
use Rattle.scheme.specs.Scheme.{branches_made, coded, has_branch, has_otherwise, statement_made, statements_made}
use Rattle.scheme.specs.Statements.{Loop, arm_part, block_part, settle}
use Rattle.scheme.specs.declared.making.Active.{Active}
use Rattle.scheme_order.specs.Ordered.{keeps_order, ordered_block, ordered_branches, ordered_otherwise, ordered_statement, ordered_test}
use Rattle.scheme_order.specs.Turned.{with_all_declared, with_declared}
use Rattle.same_flow.specs.Laid.{AloneLaid, ArmEnds, BodyLaid, BranchesLaid, Exit, HasKind, HasStep, IsBlock, IsClose, IsJump, IsNegated, IsSaid, LeavesTo, LiteralLaid, OtherwiseLaid, StatementLaid, TestLaid, VariablesEnd, arm_begun, exit_to, for_loop_of, generic_begun, generic_valued, label_of, loop_of, numeric_begun, numeric_valued, repeat_begun, while_begun, with_new_labels}
use Rattle.same_flow.specs.Performed.{kind_at, part_at}
use Rattle.same_flow.specs.Renaming.{StatementsRename}
use Rattle.same_flow.specs.SameFlow.{AreLaid, HasPlainParts, begun_of}
use Rattle.same_flow.proofs.BlocksFollowed.{Matches, replicate_lasts}
use Rattle.same_flow.proofs.Followed.{Follows, LastTo, Run, followed, last_both, last_weaker, nought, relabelled, settled}
use Rattle.same_flow.proofs.ForStatements.{for_last}
use Rattle.same_flow.proofs.ForsFollowed.{at_begun, for_ends}
use Rattle.same_flow.proofs.HeadsFollowed.{generic_head_goes, numeric_head_goes}
use Rattle.same_flow.proofs.LoopsTold.{arm_order, arm_passes}
use Rattle.same_flow.proofs.RenamedStatements.{statements_rename}
use Rattle.same_flow.proofs.StatementsFollowed.{body_goes}
use Rattle.same_flow.proofs.StatementsTold as told
use Rattle.same_flow.proofs.StatementsTold.{block_follows, branches_passed, starts, statement_grows}
use Rattle.same_flow.proofs.StepsTold.{before, before_active, same_active}
use Rattle.same_flow.proofs.TestsFollowed.{kind_there, test_goes}
use Rattle.reads_back.proofs.AmongNames.{ActiveAmong, generic_among, numeric_among, params_among, same_among, statement_among, statements_among}
use Rattle.reads_back.proofs.Tests.{first_of_both, second_of_both}

-- ---- steps

-- what is tested keeps its order among these names, which the active locals have
pub record KeepsAmong (active : List Active) (e : Expression) : Type 0 where
  pub own : List Text
  pub among : ActiveAmong own active
  pub keeps : keeps_order own e ≡ true

abbrev pub KeptAt : (active : List Active) → StepKind → Part → Type 0
KeptAt active (StepKind.Test when target levels) (condition_part e) = KeepsAmong active e
KeptAt active kind part = Unit {0}

-- so it is in each step from one place to another
pub record Ordered (run : Run) (from to : ℕ) : Type 0 where
  pub each : (at : ℕ) (kind : StepKind) (part : Part) → from ≤ at → at < to → kind_at run.code.steps at ≡ Some kind → part_at run.code at ≡ Some part → KeptAt (before run at).active kind part

ordered_nowhere : (run : Run) (from to : ℕ) → to ≡ from → Ordered run from to
ordered_nowhere run from to e = record { each = λ at kind part h l s t. absurd (omega arith) }

ordered_both : (run : Run) (from mid to : ℕ) → Ordered run from mid → Ordered run mid to → Ordered run from to
ordered_both run from mid to one two = record { each = λ at kind part h l s t. by at kind part h l s t (nat_lt at mid) refl }
  where
    by : (at : ℕ) (kind : StepKind) (part : Part) → from ≤ at → at < to → kind_at run.code.steps at ≡ Some kind → part_at run.code at ≡ Some part → (b : Bool) → nat_lt at mid ≡ b →
        KeptAt (before run at).active kind part
    by at kind part h l s t true e = one.each at kind part h (grind (arith, nat_tests)) s t
    by at kind part h l s t false e = two.each at kind part (grind (arith, nat_tests)) l s t

ordered_to : {run : Run} {from mid to : ℕ} → to ≡ mid → Ordered run from mid → Ordered run from to
ordered_to {run} {from} e ordered = subst (λ x. Ordered run from x) (sym e) ordered

-- one step
step_ordered : {run : Run} {active : List Active} (p : ℕ) (kind : StepKind) (part : Part) → HasStep run.code active p kind part → KeptAt (before run p).active kind part → Ordered run p (suc p)
step_ordered {run} p kind part has kept = record {
  each = λ at k q h l s t.
      subst (λ x. kind_at run.code.steps x ≡ Some k → part_at run.code x ≡ Some q → KeptAt (before run x).active k q) (omega arith)
      (λ there also.
      subst (λ it. KeptAt (before run p).active k it) (same_Some part q (sym has.1 ∙ also))
      (subst (λ it. KeptAt (before run p).active it part) (same_Some kind k (sym (kind_there has.0) ∙ there)) kept)) s t;
}

jump_ordered : {run : Run} {active : List Active} (p target : ℕ) → IsJump run.code active p target → Ordered run p (suc p)
jump_ordered p target jump = step_ordered p (StepKind.Jump target) jump.0 jump.1 tt

close_ordered : {run : Run} {active : List Active} (p n : ℕ) → IsClose run.code active p n → Ordered run p (suc p)
close_ordered p n close = step_ordered p (StepKind.Close n close.0) close.1.0 close.1.1 tt

leave_ordered : {run : Run} (exit : Option Exit) (m : Maker) (from to : ℕ) → LeavesTo run.code exit m from to → Ordered run from to
leave_ordered None m from to leaves = absurd leaves
leave_ordered (Some exit) m from to (inl (c, jump, t)) = ordered_to t (jump_ordered from exit.place jump)
leave_ordered {run} (Some exit) m from to (inr (c, close, jump, t)) =
    ordered_to t (ordered_both run from (suc from) (suc (suc from)) (close_ordered from exit.locals close) (jump_ordered (suc from) exit.place jump))

arm_end_ordered : (run : Run) (active : List Active) (more : Bool) (last end next : ℕ) → ArmEnds run.code active more last end next → Ordered run last next
arm_end_ordered run active true last end next (jump, t) = ordered_to t (jump_ordered last end jump)
arm_end_ordered run active false last end next t = ordered_nowhere run last next t

-- behind the statements of a block there is a CLOSE or nothing
block_ordered : (run : Run) (active : List Active) (n : ℕ) (b : Bool) (laid : ℕ → ℕ → Type 0) (from to : ℕ) → ((stop : ℕ) → stop ≤ to → laid stop stop → Ordered run from stop) →
    IsBlock run.code active n b laid from to → Ordered run from to
block_ordered run active n false laid from to ordered block = ordered to (omega arith) block
block_ordered run active n true laid from to ordered (stop, t, h, close, block) = ordered_to t (ordered_both run from stop (suc stop) (ordered stop (omega arith) block) (close_ordered stop n close))

-- the end of a loop over numbers or of another
feet_ordered : (run : Run) (numeric : Bool) (hidden : List Active) (n : ℕ) (b : Bool) (end foot target to : ℕ) → VariablesEnd run.code hidden n b end foot →
    HasKind run.code hidden foot (StepKind.Foot numeric target) → to ≡ suc foot → Ordered run end to
feet_ordered run numeric hidden n false end foot target to ends has t =
    ordered_to (t ∙ ap suc ends) (step_ordered end (StepKind.Foot numeric target) has.0 (subst (λ x. HasStep run.code hidden x (StepKind.Foot numeric target) has.0) ends has.1) tt)
feet_ordered run numeric hidden n true end foot target to (ends, close) has t =
    ordered_both run end (suc end) to (close_ordered end n close)
    (ordered_to (t ∙ ap suc ends) (step_ordered (suc end) (StepKind.Foot numeric target) has.0 (subst (λ x. HasStep run.code hidden x (StepKind.Foot numeric target) has.0) ends has.1) tt))

-- ---- conditions

-- `~=` is tested as `==`, which has no order
negated_keeps : (own : List Text) (tested e : Expression) → IsNegated tested e → keeps_order own tested ≡ true
negated_keeps own (binary_expression line BinaryOp.Eq left right) e is = refl
negated_keeps own tested e is = absurd is

said_keeps : (own : List Text) (e : Expression) (sense : Bool) (tested : Expression) (when : Bool) → IsSaid e sense tested when → keeps_order own e ≡ true → keeps_order own tested ≡ true
said_keeps own e sense tested when (inl is) keeps = ap (keeps_order own) is.0 ∙ keeps
said_keeps own e sense tested when (inr is) keeps = negated_keeps own tested e is.0

literal_ordered : (run : Run) (active : List Active) (jumps : Bool) (target from to : ℕ) → LiteralLaid run.code active jumps target from to → Ordered run from to
literal_ordered run active true target from to laid = ordered_to laid.1 (jump_ordered from target laid.0)
literal_ordered run active false target from to laid = ordered_nowhere run from to laid

alone_ordered : {run : Run} (own : List Text) (active : List Active) (m : Maker) (ends : List ℕ) (e : Expression) (o : Option Constant) (sense : Bool) (target from to : ℕ) → Follows run nought nought m ends from →
    m.active ≡ active → LastTo to ends → ActiveAmong own active → keeps_order own e ≡ true → AloneLaid run.code active o e sense target from to → Ordered run from to
alone_ordered {run} own active m ends e (Some k) sense target from to follows is l among keeps laid = literal_ordered run active (beq sense (is_true_constant k)) target from to laid.1
alone_ordered {run} own active m ends e None sense target from to follows is l among keeps (when, levels, tested, has, s, t) =
    let last = subst (λ x. LastTo x ends) t l in
    ordered_to t (step_ordered from (StepKind.Test when target levels) (condition_part tested) has
    (record { own = own; among = same_among own (before_active follows last ∙ is) among; keeps = said_keeps own e sense tested when s keeps }))

module _ (run : Run) (renames : StatementsRename) (plain : HasPlainParts run.code) where
  -- an operand, and the other behind it
  both_ordered : (active : List Active) (m : Maker) (ends : List ℕ) (left : Expression) (sense : Bool) (target from mid to : ℕ) → Follows run nought nought m ends from → m.active ≡ active → from ≤ mid →
      mid ≤ to → LastTo to ends → TestLaid run.code active left sense target from mid → Ordered run from mid →
      ((n : Maker) → Follows run nought nought n ends mid → n.active ≡ active → Ordered run mid to) → Ordered run from to
  both_ordered active m ends left sense target from mid to follows is a b l one ordered rest =
      let last = last_weaker mid to ends b l in
      let reached = followed (test_goes run renames plain active m ends left sense 0 target from mid one last) follows in
      ordered_both run from mid to ordered (rest _ reached (same_active plain follows reached a last ∙ is))

  test_ordered : (own : List Text) (active : List Active) → ActiveAmong own active → (e : Expression) (sense : Bool) (target from to : ℕ) → ordered_test own e ≡ true →
      TestLaid run.code active e sense target from to → (m : Maker) (ends : List ℕ) → Follows run nought nought m ends from → m.active ≡ active → LastTo to ends → Ordered run from to
  test_ordered own active among (and_expression line left right) sense target from to keeps laid m ends follows is l =
      both_ordered active m ends left false _ from laid.0 to follows is laid.1 laid.2 l laid.3
      (test_ordered own active among left false _ from laid.0 (first_of_both _ _ keeps) laid.3 m ends follows is (last_weaker laid.0 to ends laid.2 l))
      (λ n reached same. test_ordered own active among right sense target laid.0 to (second_of_both (ordered_test own left) _ keeps) laid.4 n ends reached same l)
  test_ordered own active among (or_expression line left right) sense target from to keeps laid m ends follows is l =
      both_ordered active m ends left true _ from laid.0 to follows is laid.1 laid.2 l laid.3
      (test_ordered own active among left true _ from laid.0 (first_of_both _ _ keeps) laid.3 m ends follows is (last_weaker laid.0 to ends laid.2 l))
      (λ n reached same. test_ordered own active among right sense target laid.0 to (second_of_both (ordered_test own left) _ keeps) laid.4 n ends reached same l)
  test_ordered own active among (unary_expression line UnaryOp.Not e) sense target from to keeps laid m ends follows is l = test_ordered own active among e (not sense) target from to keeps laid m ends follows is l
  test_ordered own active among (parenthesized line e) sense target from to keeps laid m ends follows is l = test_ordered own active among e sense target from to keeps laid m ends follows is l
  test_ordered own active among e sense target from to keeps laid m ends follows is l = alone_ordered own active m ends e (literal e) sense target from to follows is l among keeps laid

  -- ---- statements

  inner_ordered : (block : Statements) (exit : Option Exit) (loop : Option Loop) (m : Maker) (ends : List ℕ) (n : ℕ) (active : List Active) (from to : ℕ) → LastTo to ends →
      ((stop : ℕ) → LastTo stop ends → BodyLaid run.code exit stop block loop m from stop → Ordered run from stop) →
      IsBlock run.code active n (captured_from n (statements_made block loop m)) (λ stop end. BodyLaid run.code exit stop block loop m from end) from to → Ordered run from to
  inner_ordered block exit loop m ends n active from to l ordered laid =
      block_ordered run active n (captured_from n (statements_made block loop m)) (λ stop end. BodyLaid run.code exit stop block loop m from end) from to
      (λ stop h inside. ordered stop (last_weaker stop to ends h l) inside) laid

  mutual
    body_ordered : (own : List Text) (block : Statements) (exit : Option Exit) (stop : ℕ) (loop : Option Loop) (m : Maker) (ends : List ℕ) (from to : ℕ) → ActiveAmong own m.active → ordered_block own block ≡ true →
        Follows run nought nought m ends from → Matches loop exit → LastTo stop ends → to ≤ stop → BodyLaid run.code exit stop block loop m from to → Ordered run from to
    body_ordered own no_statements exit stop loop m ends from to among keeps follows e l h laid = ordered_nowhere run from to laid
    body_ordered own (syntax.statement line semi s rest) exit stop loop m ends from to among keeps follows e l h (one, mid, a, b, first_laid, laid) =
        let growth = statement_grows run renames plain s exit stop loop m ends from mid follows e l (omega arith) a first_laid in
        ordered_both run from mid to (statement_ordered own s exit stop loop m ends from mid among (first_of_both _ _ keeps) follows e l (omega arith) first_laid)
        (body_ordered (with_declared own s) rest exit stop loop (settle (statement_made s 1 loop m)) (ends ++ growth.new) mid to (statement_among own s 1 loop m (settled follows) among)
        (second_of_both (ordered_statement own s) _ keeps) (followed growth.goes follows) e (last_both stop ends growth.new l growth.lasts) h laid)

    statement_ordered : (own : List Text) (s : Statement) (exit : Option Exit) (stop : ℕ) (loop : Option Loop) (m : Maker) (ends : List ℕ) (from to : ℕ) → ActiveAmong own m.active → ordered_statement own s ≡ true →
        Follows run nought nought m ends from → Matches loop exit → LastTo stop ends → to ≤ stop → StatementLaid run.code exit stop s loop m from to → Ordered run from to
    statement_ordered own (assignment targets es) exit stop loop m ends from to among keeps follows e l h laid = ordered_to laid.1 (step_ordered from StepKind.Act (statement_part (assignment targets es)) laid.0 tt)
    statement_ordered own (call_statement x) exit stop loop m ends from to among keeps follows e l h laid = ordered_to laid.1 (step_ordered from StepKind.Act (statement_part (call_statement x)) laid.0 tt)
    statement_ordered own (function_statement path method body) exit stop loop m ends from to among keeps follows e l h laid =
        ordered_to laid.1 (step_ordered from StepKind.Act (statement_part (function_statement path method body)) laid.0 tt)
    statement_ordered own (local_function name body) exit stop loop m ends from to among keeps follows e l h laid =
        ordered_to laid.1 (step_ordered from (StepKind.Declaration stop (captured_from (active_count m) (statement_made (local_function name body) 1 None m))) (statement_part (local_function name body)) laid.0 tt)
    statement_ordered own (local_statement names es) exit stop loop m ends from to among keeps follows e l h laid =
        ordered_to laid.1 (step_ordered from (StepKind.Declaration stop (captured_from (active_count m) (statement_made (local_statement names es) 1 None m))) (statement_part (local_statement names es)) laid.0 tt)
    statement_ordered own (return_statement es) exit stop loop m ends from to among keeps follows e l h laid = ordered_to laid.1 (step_ordered from StepKind.Return (values_part es) laid.0 tt)
    statement_ordered own break_statement exit stop loop m ends from to among keeps follows e l h laid = leave_ordered exit m from to laid
    statement_ordered own (do_block block) exit stop loop m ends from to among keeps follows e l h laid =
        inner_ordered block exit loop m ends (active_count m) m.active from to (last_weaker to stop ends h l)
        (λ x k inside. body_ordered own block exit x loop m ends from x among keeps follows e k (omega arith) inside) laid
    statement_ordered own (while_loop x block) exit stop loop m ends from to among keeps follows e l h (start, back, a, b, test_laid, block_laid, jump, t) =
        let last = last_weaker to stop ends h l in
        let first = last_weaker start to ends (omega arith) last in
        let later = last_weaker back to ends (omega arith) last in
        let begun = followed (test_goes run renames plain m.active (place (suc (label_of m)) (with_new_labels 2 m)) ends x false (label_of m) to from start test_laid first) (relabelled _ follows) in
        let inside = same_among own (same_active plain follows begun a first) among in
        ordered_both run from start to (test_ordered own m.active among x false to from start (first_of_both _ _ keeps) test_laid m ends follows refl first)
        (ordered_both run start back to
        (inner_ordered block (exit_to to m) (loop_of m) (while_begun x m) ends (active_count m) m.active start back later
        (λ y k laid. body_ordered own block (exit_to to m) y (loop_of m) (while_begun x m) ends start y inside (second_of_both (ordered_test own x) _ keeps) begun refl k (omega arith) laid) block_laid)
        (ordered_to t (jump_ordered back from jump)))
    statement_ordered own (repeat_loop block x) exit stop loop m ends from to among keeps follows e l h (start, a, inl (c, b, block_laid, test_laid)) =
        let last = last_weaker to stop ends h l in
        let begun = repeat_begun m in
        let inside = statements_made block (loop_of m) begun in
        let growth = body_goes run renames plain block (exit_to to m) to (loop_of m) begun ends from start (relabelled _ follows) refl last b block_laid in
        ordered_both run from start to (body_ordered own block (exit_to to m) to (loop_of m) begun ends from start among (first_of_both _ _ keeps) (relabelled _ follows) refl last b block_laid)
        (test_ordered (with_all_declared own block) inside.active (statements_among own block (loop_of m) begun (settled follows) among) x false from start to (second_of_both (ordered_block own block) _ keeps) test_laid
        inside (ends ++ growth.new) (followed growth.goes (relabelled _ follows)) refl (last_both to ends growth.new last growth.lasts))
    statement_ordered own (repeat_loop block x) exit stop loop m ends from to among keeps follows e l h (start, a, inr (c, tested, b, block_laid, test_laid, close, jump, close_again, back, t)) =
        let last = last_weaker to stop ends h l in
        let begun = repeat_begun m in
        let inside = statements_made block (loop_of m) begun in
        let later = last_weaker (tested + 2) to ends (omega arith) last in
        let growth = body_goes run renames plain block (exit_to to m) (tested + 2) (loop_of m) begun ends from start (relabelled _ follows) refl later (omega arith) block_laid in
        let all = ends ++ growth.new in
        ordered_both run from start to (body_ordered own block (exit_to to m) (tested + 2) (loop_of m) begun ends from start among (first_of_both _ _ keeps) (relabelled _ follows) refl later (omega arith) block_laid)
        (ordered_both run start tested to
        (test_ordered (with_all_declared own block) inside.active (statements_among own block (loop_of m) begun (settled follows) among) x false (tested + 2) start tested (second_of_both (ordered_block own block) _ keeps)
        test_laid inside all (followed growth.goes (relabelled _ follows)) refl (last_weaker tested (tested + 2) all (omega arith) (last_both (tested + 2) ends growth.new later growth.lasts)))
        (ordered_both run tested (tested + 1) to (ordered_to (omega arith) (close_ordered tested (active_count m) close))
        (ordered_both run (tested + 1) (tested + 2) to (ordered_to (omega arith) (jump_ordered (tested + 1) to jump))
        (ordered_both run (tested + 2) (tested + 3) to (ordered_to (omega arith) (close_ordered (tested + 2) (active_count m) close_again)) (ordered_to (omega arith) (jump_ordered (tested + 3) from back))))))
    statement_ordered own (if_statement branches other) exit stop loop m ends from to among keeps follows e l h (else_from, a, b, arms_laid, other_laid) =
        let last = last_weaker to stop ends h l in
        let begun = (new_label m).after in
        let before_else = last_weaker else_from to ends b last in
        let arms = branches_passed run renames plain branches exit (has_otherwise other) (label_of m) to loop begun ends from else_from (relabelled _ follows) e before_else arms_laid in
        let behind = same_among own (same_active plain follows arms.follows a before_else) among in
        ordered_both run from else_from to (branches_ordered own branches exit (has_otherwise other) (label_of m) to loop begun ends from else_from among (first_of_both _ _ keeps) (relabelled _ follows) e before_else arms_laid)
        (otherwise_ordered own other exit loop (branches_made branches 1 loop (label_of m) (has_otherwise other) begun) ends else_from to behind (second_of_both (ordered_branches own branches) _ keeps) arms.follows e last other_laid)
    statement_ordered own (numeric_for name first final by block) exit stop loop m ends from to among keeps follows e l h (foot, variables_end, has_head, less, block_laid, variables_laid, has_foot, t) =
        let last = last_weaker to stop ends h l in
        let head = numeric_head_goes renames run plain name first final by m from foot to variables_end _ has_head in
        let valued = numeric_valued 1 name first final by m in
        let begun = numeric_begun 1 name first final by m in
        let n = active_count m in
        let around = for_loop_of n valued in
        let lasting = for_last run valued.active (n + 3) (captured_from (n + 3) begun) from variables_end foot to ends variables_laid less t last in
        let all = for_ends ends to head.variables variables_end in
        let start = at_begun head lasting.0 nought nought refl follows in
        ordered_both run from (suc from) to (step_ordered from _ _ has_head tt)
        (ordered_both run (suc from) variables_end to
        (inner_ordered block (exit_to to m) around begun all (active_count begun) begun.active (suc from) variables_end (lasting.1 head.variables)
        (λ y k laid. body_ordered (name ∷ own) block (exit_to to m) y around begun all (suc from) y (numeric_among own 1 name first final by m among) keeps start refl k (omega arith) laid) block_laid)
        (feet_ordered run true valued.active (n + 3) (captured_from (n + 3) begun) variables_end foot (suc from) to variables_laid has_foot t))
    statement_ordered own (generic_for names es block) exit stop loop m ends from to among keeps follows e l h (foot, variables_end, has_head, less, block_laid, variables_laid, has_foot, t) =
        let last = last_weaker to stop ends h l in
        let head = generic_head_goes renames run plain names es m from foot to variables_end _ has_head in
        let valued = generic_valued 1 names es m in
        let begun = generic_begun 1 names es m in
        let n = active_count m in
        let around = for_loop_of n valued in
        let lasting = for_last run valued.active (n + 3) (captured_from (n + 3) begun) from variables_end foot to ends variables_laid less t last in
        let all = for_ends ends to head.variables variables_end in
        let start = at_begun head lasting.0 nought nought refl follows in
        ordered_both run from (suc from) to (step_ordered from _ _ has_head tt)
        (ordered_both run (suc from) variables_end to
        (inner_ordered block (exit_to to m) around begun all (active_count begun) begun.active (suc from) variables_end (lasting.1 head.variables)
        (λ y k laid. body_ordered (names ++ own) block (exit_to to m) y around begun all (suc from) y (generic_among own 1 names es m among) keeps start refl k (omega arith) laid) block_laid)
        (feet_ordered run false valued.active (n + 3) (captured_from (n + 3) begun) variables_end foot (suc from) to variables_laid has_foot t))

    branches_ordered : (own : List Text) (branches : Branches) (exit : Option Exit) (more : Bool) (label end : ℕ) (loop : Option Loop) (m : Maker) (ends : List ℕ) (from to : ℕ) → ActiveAmong own m.active →
        ordered_branches own branches ≡ true → Follows run nought nought m ends from → Matches loop exit → LastTo to ends → BranchesLaid run.code exit branches more label end loop m from to → Ordered run from to
    branches_ordered own no_branches exit more label end loop m ends from to among keeps follows e l laid = ordered_nowhere run from to laid
    branches_ordered own (branch x block rest) exit more label end loop m ends from to among keeps follows e l (start, last, next, a, b, c, test_laid, block_laid, arm_end, rest_laid) =
        let further = has_branch rest || more in
        let order = arm_order run further m.active last end next arm_end in
        let first = last_weaker start to ends (omega arith) l in
        let later = last_weaker last to ends (omega arith) l in
        let next_last = last_weaker next to ends c l in
        let begun = followed (test_goes run renames plain m.active (new_label m).after ends x false (label_of m) next from start test_laid first) (relabelled _ follows) in
        let behind = block_follows run renames plain block exit loop (arm_begun x m) ends (active_count m) m.active start last begun follows.count e later block_laid in
        let passes = arm_passes further (block_part 1 (statements_made block loop) (arm_begun x m)) ends label last end next behind (same_active plain follows behind (omega arith) later) arm_end next_last in
        let arm = arm_part 1 label further (coded x) (statements_made block loop) m in
        let parts = second_of_both (ordered_test own x) _ keeps in
        ordered_both run from start to (test_ordered own m.active among x false next from start (first_of_both _ _ keeps) test_laid m ends follows refl first)
        (ordered_both run start last to
        (inner_ordered block exit loop (arm_begun x m) ends (active_count m) m.active start last later
        (λ y k laid. body_ordered own block exit y loop (arm_begun x m) ends start y (same_among own (same_active plain follows begun a first) among) (first_of_both _ _ parts) begun e k (omega arith) laid) block_laid)
        (ordered_both run last next to (arm_end_ordered run m.active further last end next arm_end)
        (branches_ordered own rest exit more label end loop arm ends next to (same_among own (same_active plain follows passes.follows (omega arith) next_last) among) (second_of_both (ordered_block own block) _ parts)
        (relabelled _ passes.follows) e l rest_laid)))

    otherwise_ordered : (own : List Text) (other : Otherwise) (exit : Option Exit) (loop : Option Loop) (m : Maker) (ends : List ℕ) (from to : ℕ) → ActiveAmong own m.active → ordered_otherwise own other ≡ true →
        Follows run nought nought m ends from → Matches loop exit → LastTo to ends → OtherwiseLaid run.code exit other loop m from to → Ordered run from to
    otherwise_ordered own no_otherwise exit loop m ends from to among keeps follows e l laid = ordered_nowhere run from to laid
    otherwise_ordered own (otherwise block) exit loop m ends from to among keeps follows e l laid =
        inner_ordered block exit loop m ends (active_count m) m.active from to l (λ x k inside. body_ordered own block exit x loop m ends from x among keeps follows e k (omega arith) inside) laid

-- ---- a function

-- each step of a function on which an ordered block stands
pub laid_ordered : (code : Steps) → HasPlainParts code → (params names : List Text) (ahead : Ahead) (block : Statements) → AreLaid code params names ahead block → ordered_block params block ≡ true →
    Ordered (told.run code params names ahead) 0 (length code.steps)
laid_ordered code plain params names ahead block laid keeps =
    let run = told.run code params names ahead in
    let begun = begun_of params names ahead in
    let last = length code.steps in
    body_ordered run statements_rename plain params block None last None begun run.first.ends 0 last (params_among params names ahead) keeps (starts code params names ahead) tt
    (replicate_lasts (active_count begun) last) (omega arith) laid
