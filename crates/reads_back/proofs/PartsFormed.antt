-- What is written of a step keeps the rules of form, and ends no block but as a return.
use Rattle.std.proofs.Common.{◌≡◌, ℕ, Bool, true, false, List, length, refl, sym, subst, ◌∙◌}
use Rattle.std.specs.Prelude.{Option}
use Rattle.lua_num.specs.Bytes.{Text}
use Rattle.lua_tree.specs.Outline as outline
use Rattle.lua_tree.specs.Syntax as syntax
use Rattle.lua_tree.specs.Syntax.{Expression, Expressions, Statement, Statements, return_statement, no_expressions}
use Rattle.lua_tree.specs.WellFormed.{ends_block, formed_statement, has_expressions}
use Rattle.core_expr.specs.Places.{Place}
use Rattle.core_expr.specs.Values.{Inner}
use Rattle.recover_expr.specs.Drafts.{Drafted, Part}
use Rattle.recover_expr.specs.Placing.{Steps}
use Rattle.recover_expr.specs.Situation.{Function}
use Rattle.recover_expr.specs.declared.steps.StepKind.{StepKind}
use Rattle.scheme.specs.Making.{Ahead, Maker}
use Rattle.scheme.specs.declared.making.Active.{Active}
use Rattle.scheme_stands.specs.Words.{Fn}
use Rattle.same_flow.specs.Written.{ArePartsFormed, IsPartFormed}
use Rattle.reads_back.specs.Acted.{Acted, IsActed, act_statement, returned}
use Rattle.reads_back.specs.Assignments.{as_assignment}
use Rattle.reads_back.specs.ReadAs.{part_of}
use Rattle.reads_back.proofs.FlowActs.{part_stays}
use Rattle.reads_back.proofs.FlowRead.{PartRead, writing}
use Rattle.reads_back.proofs.FlowThere.{IsFlowFunction, StepIs, before_at, made_at, pcs}
use Rattle.reads_back.proofs.HeadValues.{head_wording}
use Rattle.reads_back.proofs.HeadsFormed.{head_fine, head_of_written}
use Rattle.reads_back.proofs.HeadsSame.{AreCounted, AreOfHead}
use Rattle.reads_back.proofs.PartsCases.{ActThere, Cases, HeadThere, TestThere, by_cases}
use Rattle.reads_back.proofs.PlacedEach.{part_placed}
use Rattle.reads_back.proofs.PlacedReads.{ArePlaced}
use Rattle.reads_back.proofs.ActsKnown.{written_ends, written_formed}
use Rattle.reads_back.proofs.WrittenFormed.{condition_fine}

-- ---- statements as parts

-- a return, and what holds of its values
pub returned_holds : (Holds : Statement → Type 0) (at : Place) (n : ℕ) (fs : List (Option Inner)) (g : Fn) (active : List Active) (es : Expressions) (before behind : ℕ) (acted : Acted) → IsActed g active (return_statement es) before behind acted →
    ((others : Expressions) → act_statement at n fs acted ≡ return_statement others → Holds (return_statement others)) → Holds (act_statement at n fs acted)
returned_holds Holds at n fs g active es before behind (returned vs all) acts holds = holds _ refl
returned_holds Holds at n fs g active es before behind acted acts holds = absurd acts

counted_some : (es : Expressions) → AreCounted es → has_expressions es ≡ true
counted_some no_expressions counted = absurd counted
counted_some (syntax.expression e es) counted = refl

head_some : (numeric : Bool) (es : Expressions) → AreOfHead numeric es → has_expressions es ≡ true
head_some true es are = counted_some es are
head_some false es are = are

module _ {f : Function} {g : Fn} {z : Maker} {lefts : ℕ → List (Option Inner)} {parts : ℕ → outline.Part} {code : Steps} {params names : List Text} {ahead : Ahead} {block : Statements} (of : IsFlowFunction f g z lefts parts code params names ahead block) where
  abbrev Formed : StepKind → Part → Drafted → Type 0
  Formed kind part draft = IsPartFormed draft.part

  act_formed : (at : ℕ) (s : Statement) (behind : ℕ) (draft : Drafted) → ActThere of at s behind draft → ends_block s ≡ false → IsPartFormed draft.part
  act_formed at s behind draft act goes_on =
      let m = before_at of at in
      let n = length m.constants in
      let before = length m.functions in
      let acted = act.read.acted in
      let ends = written_ends act.made of.left s act.flow.is act.flow.shallow act.own before behind acted n act.read.is ∙ goes_on in
      let formed = written_formed act.made of.left s act.flow.is act.flow.shallow act.own before behind acted n act.read.is in
      let t = act_statement (writing f g lefts m) n (lefts before) acted in
      subst IsPartFormed (sym (act.read.part ∙ part_stays t ends)) (formed, ends)

  return_formed : (at : ℕ) (es : Expressions) (behind : ℕ) (draft : Drafted) → ActThere of at (return_statement es) behind draft → IsPartFormed draft.part
  return_formed at es behind draft act =
      let m = before_at of at in
      let n = length m.constants in
      let before = length m.functions in
      let acted = act.read.acted in
      let formed = written_formed act.made of.left (return_statement es) act.flow.is act.flow.shallow act.own before behind acted n act.read.is in
      subst IsPartFormed (sym act.read.part)
      (returned_holds (λ t. IsPartFormed (part_of t)) (writing f g lefts m) n (lefts before) g m.active es before behind acted act.read.is (λ others same. subst (λ t. formed_statement t ≡ true) same formed))

  test_formed : (at target negated : ℕ) (when : Bool) (e : Expression) (behind : ℕ) (draft : Drafted) → TestThere of at target negated when e behind draft → IsPartFormed draft.part
  test_formed at target negated when e behind draft test =
      let m = before_at of at in
      let fine = condition_fine (writing f g lefts m) (length m.constants) (lefts (length m.functions)) (of.left.fine (length m.functions)) test.read.tested test.written.can in
      subst IsPartFormed (sym test.read.part) fine.formed

  head_formed : (at foot end variables_end : ℕ) (captured numeric : Bool) (es : Expressions) (texts : List Text) (behind : ℕ) (draft : Drafted) → HeadThere of at foot end variables_end captured numeric es texts behind draft → IsPartFormed draft.part
  head_formed at foot end variables_end captured numeric es texts behind draft head =
      let m = before_at of at in
      let n = length m.constants in
      let before = length m.functions in
      let headed = head.read.headed in
      let fine = head_fine (writing f g lefts m) numeric headed n (lefts before) (of.left.fine before) head.rewritten.can in
      let some = head_some numeric (head_wording numeric (writing f g lefts m) n (lefts before) headed).words (head_of_written g m.active (writing f g lefts m) n (lefts before) numeric es before behind headed head.values head.read.is) in
      subst IsPartFormed (sym head.read.part) (head.flow.good, some, fine.formed)

  formed_cases : Cases of Formed
  formed_cases = record {
    acts = λ at kind s behind draft is goes_on act. act_formed at (as_assignment s) behind draft act goes_on;
    returns = return_formed;
    tests = test_formed;
    heads = head_formed;
    lones = λ at kind part draft is lone. subst IsPartFormed (sym lone.part) tt;
  }

  -- what is written of one step keeps the rules of form
  part_formed : {at : ℕ} (kind : StepKind) (part : Part) → StepIs of at kind part → (draft : Drafted) → PartRead f g lefts (before_at of at) (pcs of) kind part (length (made_at of at kind part).functions) draft → IsPartFormed draft.part
  part_formed kind part is draft read = by_cases of Formed formed_cases kind part is draft read

  -- and of all steps
  pub parts_formed : (other : Steps) → ArePlaced of other → ArePartsFormed other
  parts_formed other are at part there =
      let one = part_placed f are.scope params are.drafts other are.is at part there in
      let read = are.each at one.0 one.1 in
      subst IsPartFormed one.2 (part_formed read.kind read.part read.is one.0 read.part_read)
