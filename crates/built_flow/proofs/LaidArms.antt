-- The arms of an `if` that stand on steps lie there.
use Rattle.std.proofs.Common.{◌≡◌, ◌≤◌, ℕ, suc, ◌+◌, ◌*◌, Bool, true, false, List, refl, sym, ap, ◌∙◌, arith, subst}
use Rattle.std.specs.Prelude.{Option, max, if◌then◌else◌}
use Rattle.lua_num.specs.Bytes.{Text}
use Rattle.lua_tree.specs.Syntax.{Statements, if_statement, Branches, no_branches, branch, Otherwise, no_otherwise, otherwise, Expression}
use Rattle.recover_expr.specs.Placing.{Steps}
use Rattle.recover_expr.specs.declared.steps.StepKind.{StepKind}
use Rattle.recover_flow.specs.Flow.{Flow, FlowArms, no_more, else_flow, elseif_flow, if_flow, Around, AreTold, IsFlowBlock, FlowLies, ArmLies, captures_flow, logic_room, raised, flow_levels, flow_arms_levels}
use Rattle.recover_flow.specs.Logic.{Logic, LogicLies, is_never}
use Rattle.scheme.specs.Making.{Ahead, Maker, new_label, active_count, captured_from}
use Rattle.scheme.specs.Scheme.{coded, has_otherwise, statements_made, branches_made}
use Rattle.scheme.specs.Shapes.{branch_count}
use Rattle.scheme.specs.Statements.{Loop, arm_part, block_part}
use Rattle.same_flow.specs.Written.{AreInRoom}
use Rattle.same_flow.specs.Declaring.{ClosesTell}
use Rattle.same_flow.specs.Laid.{Exit, IsBlock, BodyLaid, TestLaid, ArmEnds, BranchesLaid, OtherwiseLaid, StatementLaid, label_of, arm_begun}
use Rattle.same_flow.specs.Never.{never_is, never_arms}
use Rattle.same_flow.specs.SameFlow.{HasPlainParts}
use Rattle.same_flow.specs.Space.{flow_space_branches, flow_space_otherwise}
use Rattle.same_flow.proofs.BlocksFollowed.{Matches}
use Rattle.same_flow.proofs.Followed.{Run, Follows, nought, LastTo, last_weaker, followed, relabelled}
use Rattle.same_flow.proofs.LoopsTold.{arm_passes, arm_order}
use Rattle.same_flow.proofs.RenamedStatements.{statements_rename}
use Rattle.same_flow.proofs.StatementsTold.{block_follows}
use Rattle.same_flow.proofs.StepsTold.{same_active}
use Rattle.same_flow.proofs.TestsFollowed.{test_goes}
use Rattle.built_flow.proofs.BlocksBuilt.{as_laid}
use Rattle.built_flow.proofs.LaidFlow.{Knows, StatementFound, BlockFound, BodyFinds, knows_behind, block_found}
use Rattle.built_flow.proofs.LaidSteps.{quiet_found}
use Rattle.built_flow.proofs.LaidTests.{LogicFound, kind_told, some_room, test_told, test_found}
use Rattle.built_flow.proofs.StepsTold.{run_of}

-- the statements of an arm
abbrev pub InArm : (code : Steps) → Around → Flow → (from ends end : ℕ) → Type 0
InArm code around body from ends end = (inside : Around) × FlowLies code.steps around inside ends body from end

-- an arm, and what stands behind it
pub record ArmsFound (code : Steps) (around : Around) (e : Expression) (block : Statements) (rest : Branches) (other : Otherwise) (from to : ℕ) : Type 0 where
  pub logic : Logic
  pub body : Flow
  pub others : FlowArms
  pub lies : ArmLies code.steps around logic (captures_flow code.steps body) (InArm code around body) others from to
  pub never : is_never false logic ≡ never_is false e
  pub levels : AreInRoom code → max (max (max 1 (logic_room code.steps logic)) (flow_levels code.steps body)) (flow_arms_levels code.steps others)
      ≤ 2 * branch_count (branch e block rest) + never_arms rest + max (flow_space_branches (branch e block rest)) (flow_space_otherwise other)

raised_most : (more : Bool) (own count nevers room : ℕ) → own ≤ count + nevers + room → raised more own ≤ count + (if more then suc nevers else nevers) + room
raised_most true own count nevers room h = omega arith
raised_most false own count nevers room h = omega arith

module _ (code : Steps) (params names : List Text) (ahead : Ahead) (plain : HasPlainParts code) (closes : ClosesTell code params names ahead) where
  abbrev run : Run
  run = run_of code params names ahead

  -- one arm, and the function in the making behind it
  record ArmFound (around : Around) (e : Expression) (block : Statements) (made : Maker) (ends : List ℕ) (from start last next : ℕ) : Type 0 where
    logic : LogicFound code e false next from start
    told : AreTold code.steps around from start
    body : BlockFound code around around block start last
    follows : Follows run nought nought made ends next
    knows : Knows code params names ahead around made.active next
    order : last ≤ next

  arm_found : (e : Expression) (block : Statements) → BodyFinds code params names ahead plain closes block → (further : Bool) (around : Around) (exit : Option Exit) (loop : Option Loop) (label : ℕ) (m : Maker) (ends : List ℕ)
      (from start last next to : ℕ) →
      Follows run nought nought m ends from → Matches loop exit → exit ≡ as_laid around.exit → Knows code params names ahead around m.active from → LastTo to ends → next ≤ to → from ≤ start → start ≤ last →
      TestLaid code m.active e false next from start →
      IsBlock code m.active (active_count m) (captured_from (active_count m) (statements_made block loop (arm_begun e m))) (λ ends stop. BodyLaid code exit ends block loop (arm_begun e m) start stop) start last →
      ArmEnds code m.active further last to next → ArmFound around e block (arm_part 1 label further (coded e) (statements_made block loop) m) ends from start last next
  arm_found e block finds further around exit loop label m ends from start last next to follows matches same knows l c a b test body arm =
      let order = arm_order run further m.active last to next arm in
      let first = last_weaker start to ends (omega arith) l in
      let later = last_weaker last to ends (omega arith) l in
      let until = last_weaker next to ends c l in
      let before_last : from ≤ last = omega arith in
      let before_next : from ≤ next = omega arith in
      let begun = followed (test_goes run statements_rename plain m.active (new_label m).after ends e false (label_of m) next from start test first) (relabelled _ follows) in
      let known = knows_behind code params names ahead plain closes around m ends from start (arm_begun e m).active follows knows (same_active plain follows begun a first) a first in
      let behind = block_follows run statements_rename plain block exit loop (arm_begun e m) ends (active_count m) m.active start last begun follows.count matches later body in
      let passed = arm_passes further (block_part 1 (statements_made block loop) (arm_begun e m)) ends label last to next behind (same_active plain follows behind before_last later) arm until in
      let made = arm_part 1 label further (coded e) (statements_made block loop) m in
      let whole : Follows run nought nought made ends next = relabelled _ passed.follows in
      record {
        logic = test_found code m.active e false next from start test;
        told = test_told code around m.active e false next from start knows.counts test;
        body = block_found code params names ahead plain closes block finds around around exit loop (arm_begun e m) ends (active_count m) m.active start last begun matches same known known knows.counts
            follows.count later body;
        follows = whole;
        knows = knows_behind code params names ahead plain closes around m ends from next made.active follows knows (same_active plain follows whole before_next until) before_next until;
        order = order;
      }

  -- an arm with nothing behind it
  pub alone_found : (e : Expression) (block : Statements) → BodyFinds code params names ahead plain closes block → (around : Around) (exit : Option Exit) (loop : Option Loop) (label : ℕ) (m : Maker) (ends : List ℕ)
      (from else_from to : ℕ) →
      Follows run nought nought m ends from → Matches loop exit → exit ≡ as_laid around.exit → Knows code params names ahead around m.active from → LastTo to ends → else_from ≤ to →
      BranchesLaid code exit (branch e block no_branches) false label to loop m from else_from →
      OtherwiseLaid code exit no_otherwise loop (branches_made (branch e block no_branches) 1 loop label false m) else_from to → ArmsFound code around e block no_branches no_otherwise from to
  alone_found e block finds around exit loop label m ends from else_from to follows matches same knows l h (start, last, next, a, b, c, test, body, arm, rest) other =
      let it = arm_found e block finds false around exit loop label m ends from start last next to follows matches same knows l (omega arith) a b test body arm in
      let here : next ≡ to = omega arith in
      let end : last ≡ to = omega arith in
      record {
        logic = it.logic.logic;
        body = it.body.found;
        others = no_more;
        lies = (
          start,
          a,
          omega arith,
          subst (λ x. LogicLies code.steps it.logic.logic false x from start) here it.logic.lies,
          it.told,
          subst (λ x. IsFlowBlock code.steps around (captures_flow code.steps it.body.found) (InArm code around it.body.found start) start x) end it.body.lies,
        );
        never = it.logic.never_false;
        levels = λ room. let r = some_room e in let d = it.logic.levels room in let c = it.logic.count in let f = it.body.levels room in omega arith;
      }

  -- an arm before an `else`
  pub before_else : (e : Expression) (block last_block : Statements) → BodyFinds code params names ahead plain closes block → BodyFinds code params names ahead plain closes last_block →
      (around : Around) (exit : Option Exit) (loop : Option Loop) (label : ℕ) (m : Maker) (ends : List ℕ) (from else_from to : ℕ) →
      Follows run nought nought m ends from → Matches loop exit → exit ≡ as_laid around.exit → Knows code params names ahead around m.active from → LastTo to ends → else_from ≤ to →
      BranchesLaid code exit (branch e block no_branches) true label to loop m from else_from →
      OtherwiseLaid code exit (otherwise last_block) loop (branches_made (branch e block no_branches) 1 loop label true m) else_from to →
      ArmsFound code around e block no_branches (otherwise last_block) from to
  before_else e block last_block finds also around exit loop label m ends from else_from to follows matches same knows l h (start, last, next, a, b, c, test, body, arm, rest) other =
      let it = arm_found e block finds true around exit loop label m ends from start last next to follows matches same knows l (omega arith) a b test body arm in
      let made = arm_part 1 label true (coded e) (statements_made block loop) m in
      let here : else_from ≡ next = rest in
      let behind = block_found code params names ahead plain closes last_block also around around exit loop made ends (active_count made) made.active else_from to
      (subst (λ p. Follows run nought nought made ends p) (sym here) it.follows) matches same
      (subst (λ p. Knows code params names ahead around made.active p) (sym here) it.knows) (subst (λ p. Knows code params names ahead around made.active p) (sym here) it.knows) it.knows.counts it.follows.count l other in
      let jump = arm.0 in
      let t : next ≡ suc last = arm.1 in
      let t' : else_from ≡ suc last = here ∙ t in
      record {
        logic = it.logic.logic;
        body = it.body.found;
        others = else_flow behind.found;
        lies = (
          start,
          last,
          a,
          b,
          omega arith,
          subst (λ x. LogicLies code.steps it.logic.logic false x from start) t it.logic.lies,
          it.told,
          it.body.lies,
          kind_told code around m.active last (StepKind.Jump to) knows.counts jump.1.0,
          subst (λ x. IsFlowBlock code.steps around (captures_flow code.steps behind.found) (λ ends end. (inside : Around) × FlowLies code.steps around inside ends behind.found x end) x to) t' behind.lies,
        );
        never = it.logic.never_false;
        levels = λ room. let r = some_room e in let d = it.logic.levels room in let c = it.logic.count in let f = it.body.levels room in let g = behind.levels room in omega arith;
      }

  -- an arm before further ones
  pub before_arms : (e : Expression) (block : Statements) (next_e : Expression) (next_block : Statements) (rest : Branches) (other : Otherwise) → BodyFinds code params names ahead plain closes block →
      (around : Around) (exit : Option Exit) (loop : Option Loop) (label : ℕ) (m : Maker) (ends : List ℕ) (from else_from to : ℕ) →
      Follows run nought nought m ends from → Matches loop exit → exit ≡ as_laid around.exit → Knows code params names ahead around m.active from → LastTo to ends → else_from ≤ to →
      ((made : Maker) (next : ℕ) → Follows run nought nought made ends next → Knows code params names ahead around made.active next →
      BranchesLaid code exit (branch next_e next_block rest) (has_otherwise other) label to loop made next else_from →
      OtherwiseLaid code exit other loop (branches_made (branch next_e next_block rest) 1 loop label (has_otherwise other) made) else_from to → ArmsFound code around next_e next_block rest other next to) →
      BranchesLaid code exit (branch e block (branch next_e next_block rest)) (has_otherwise other) label to loop m from else_from →
      OtherwiseLaid code exit other loop (branches_made (branch e block (branch next_e next_block rest)) 1 loop label (has_otherwise other) m) else_from to →
      ArmsFound code around e block (branch next_e next_block rest) other from to
  before_arms e block next_e next_block rest other finds around exit loop label m ends from else_from to follows matches same knows l h further (start, last, next, a, b, c, test, body, arm, others) behind =
      let it = arm_found e block finds true around exit loop label m ends from start last next to follows matches same knows l (omega arith) a b test body arm in
      let made = arm_part 1 label true (coded e) (statements_made block loop) m in
      let more = further made next it.follows it.knows others behind in
      let jump = arm.0 in
      let t : next ≡ suc last = arm.1 in
      record {
        logic = it.logic.logic;
        body = it.body.found;
        others = elseif_flow more.logic more.body more.others;
        lies = (
          start,
          last,
          a,
          b,
          omega arith,
          subst (λ x. LogicLies code.steps it.logic.logic false x from start) t it.logic.lies,
          it.told,
          it.body.lies,
          kind_told code around m.active last (StepKind.Jump to) knows.counts jump.1.0,
          subst (λ x. ArmLies code.steps around more.logic (captures_flow code.steps more.body) (InArm code around more.body) more.others x to) t more.lies,
        );
        never = it.logic.never_false;
        levels = λ room.
            let r = some_room e in
            let d = it.logic.levels room in
            let c = it.logic.count in
            let f = it.body.levels room in
            let g = raised_most (is_never false more.logic) _ (2 * branch_count (branch next_e next_block rest)) (never_arms rest) _ (more.levels room) in
            let k = ap (λ b. if b then suc (never_arms rest) else never_arms rest) more.never in
            omega arith;
      }

  -- ---- the whole

  pub if_found : (e : Expression) (block : Statements) (rest : Branches) (other : Otherwise) → (around : Around) (exit : Option Exit) (stop : ℕ) (loop : Option Loop) (m : Maker) (ends : List ℕ) (from to : ℕ) →
      Follows run nought nought m ends from → Matches loop exit → Knows code params names ahead around m.active from → LastTo stop ends → to ≤ stop → from ≤ to →
      StatementLaid code exit stop (if_statement (branch e block rest) other) loop m from to → ArmsFound code around e block rest other from to →
      StatementFound code params names ahead around stop (if_statement (branch e block rest) other) loop m from to
  if_found e block rest other around exit stop loop m ends from to follows matches knows l h order standing it =
      quiet_found code params names ahead plain closes (if_statement (branch e block rest) other) (λ d. d) around exit stop loop m ends from to follows matches knows l h order standing
      (if_flow it.logic it.body it.others) (refl, it.lies) refl (λ room. let a = it.levels room in omega arith) (λ e. cc)
