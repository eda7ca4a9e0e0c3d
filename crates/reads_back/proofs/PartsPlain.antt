-- What is written of a step is plain, where the functions that are left are.
use Rattle.std.proofs.Common.{ℕ, List, length, sym, subst}
use Rattle.std.specs.Prelude.{Option}
use Rattle.lua_num.specs.Bytes.{Text}
use Rattle.lua_tree.specs.Outline as outline
use Rattle.lua_tree.specs.Syntax.{Statement, Statements, return_statement}
use Rattle.core_expr.specs.Values.{Inner}
use Rattle.recover_expr.specs.Drafts.{Drafted, Part}
use Rattle.recover_expr.specs.Placing.{Steps}
use Rattle.recover_expr.specs.Situation.{Function}
use Rattle.recover_expr.specs.declared.steps.StepKind.{StepKind}
use Rattle.scheme.specs.Making.{Ahead, Maker}
use Rattle.scheme_stands.specs.Words.{Fn}
use Rattle.same_flow.specs.SameFlow.{HasPlainParts, IsPlainPart}
use Rattle.reads_back.specs.Acted.{act_statement}
use Rattle.reads_back.specs.Assignments.{as_assignment}
use Rattle.reads_back.specs.ReadAs.{part_of}
use Rattle.reads_back.proofs.FlowRead.{PartRead, writing}
use Rattle.reads_back.proofs.FlowThere.{IsFlowFunction, StepIs, before_at, made_at, pcs}
use Rattle.reads_back.proofs.PartsCases.{ActThere, Cases, by_cases}
use Rattle.reads_back.proofs.PlacedEach.{part_placed}
use Rattle.reads_back.proofs.PlacedReads.{ArePlaced}
use Rattle.reads_back.proofs.PlainActs.{IsPlainStep, act_none, act_plain, condition_plain, head_none, head_plain, test_none}
use Rattle.reads_back.proofs.PlainValues.{ArePlainLeft}

-- a return stands in its step with its values
step_plain : (s : Statement) → IsPlainStep s → IsPlainPart (part_of s)
step_plain (return_statement es) plain = plain.1
step_plain s plain = plain

module _ {f : Function} {g : Fn} {z : Maker} {lefts : ℕ → List (Option Inner)} {parts : ℕ → outline.Part} {code : Steps} {params names : List Text} {ahead : Ahead} {block : Statements} (of : IsFlowFunction f g z lefts parts code params names ahead block) (plain : (made : ℕ) → ArePlainLeft (lefts made)) where
  abbrev IsPlain : StepKind → Part → Drafted → Type 0
  IsPlain kind part draft = IsPlainPart draft.part

  act_part_plain : (at : ℕ) (s : Statement) (behind : ℕ) (draft : Drafted) → ActThere of at s behind draft → IsPlainPart draft.part
  act_part_plain at s behind draft act =
      let m = before_at of at in
      let n = length m.constants in
      let before = length m.functions in
      let acted = act.read.acted in
      subst IsPlainPart (sym act.read.part) (step_plain (act_statement (writing f g lefts m) n (lefts before) acted) (act_plain (writing f g lefts m) acted n (lefts before) (plain before) (act_none g m.active s before behind acted act.read.is)))

  plain_cases : Cases of IsPlain
  plain_cases = record {
    acts = λ at kind s behind draft is goes_on act. act_part_plain at (as_assignment s) behind draft act;
    returns = λ at es behind draft act. act_part_plain at (return_statement es) behind draft act;
    tests = λ at target negated when e behind draft test.
        let m = before_at of at in
        let before = length m.functions in
        subst IsPlainPart (sym test.read.part) (condition_plain (writing f g lefts m) (length m.constants) (lefts before) (plain before) test.read.tested (test_none g m.active before behind test.read.tested e test.read.is));
    heads = λ at foot end variables_end captured numeric es texts behind draft head.
        let m = before_at of at in
        let before = length m.functions in
        subst IsPlainPart (sym head.read.part) (head_plain (writing f g lefts m) numeric head.read.headed (length m.constants) (lefts before) (plain before) (head_none g m.active numeric es before behind head.read.headed head.read.is));
    lones = λ at kind part draft is lone. subst IsPlainPart (sym lone.part) tt;
  }

  -- what is written of one step is plain
  part_plain : {at : ℕ} (kind : StepKind) (part : Part) → StepIs of at kind part → (draft : Drafted) → PartRead f g lefts (before_at of at) (pcs of) kind part (length (made_at of at kind part).functions) draft → IsPlainPart draft.part
  part_plain kind part is draft read = by_cases of IsPlain plain_cases kind part is draft read

  -- and of all steps
  pub parts_plain : (other : Steps) → ArePlaced of other → HasPlainParts other
  parts_plain other are at part there =
      let one = part_placed f are.scope params are.drafts other are.is at part there in
      let read = are.each at one.0 one.1 in
      subst IsPlainPart one.2 (part_plain read.kind read.part read.is one.0 read.part_read)
