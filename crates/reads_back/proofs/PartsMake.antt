-- What is written of a step makes the same as its part in the source.
use Rattle.std.proofs.Common.{◌≡◌, ℕ, ◌-◌, Bool, true, false, List, length, refl, sym, ap, ◌∙◌, subst}
use Rattle.std.proofs.lemmas.Option.{same_Some}
use Rattle.std.specs.Prelude.{None, Option, Some, option_map}
use Rattle.lua_num.specs.Bytes.{Text}
use Rattle.lua_tree.specs.Outline as outline
use Rattle.lua_tree.specs.Syntax.{Expression, Expressions, Statement, Statements, return_statement}
use Rattle.opcode.specs.declared.op.Op.{Op}
use Rattle.core_expr.specs.Values.{Inner}
use Rattle.recover_expr.specs.Drafts.{Drafted, Part, condition_part, head_part, statement_part, values_part}
use Rattle.recover_expr.specs.Placing.{Steps}
use Rattle.recover_expr.specs.Situation.{Function}
use Rattle.recover_expr.specs.declared.steps.Step.{Step}
use Rattle.recover_expr.specs.declared.steps.StepKind.{StepKind}
use Rattle.scheme.specs.Making.{Ahead, Maker, active_count, jump_to, put}
use Rattle.scheme.specs.Scheme.{statement_made}
use Rattle.scheme.specs.declared.making.Piece.{Piece}
use Rattle.scheme_stands.proofs.Growth.{spot}
use Rattle.scheme_stands.specs.Relation.{StatementAt}
use Rattle.scheme_stands.specs.Words.{Fn}
use Rattle.same_flow.specs.Performed.{head_made, kind_at, kind_made, names_in, part_at, part_made, tested_made}
use Rattle.same_flow.proofs.ListedRun.{step_there}
use Rattle.reads_back.specs.Acted.{act_statement}
use Rattle.reads_back.specs.Assignments.{as_assignment}
use Rattle.reads_back.specs.ReadAs.{part_of}
use Rattle.reads_back.proofs.ComparisonsSame.{KeepsNames}
use Rattle.reads_back.proofs.FlowActs as acts
use Rattle.reads_back.proofs.FlowActs.{act_own, act_stands, declaration_stands, own_listed, same_made}
use Rattle.reads_back.proofs.FlowHeads as heads
use Rattle.reads_back.proofs.FlowHeads.{head_final, head_made_here, rewritten}
use Rattle.reads_back.proofs.FlowRead.{ActPart, HeadPart, PartRead, TestPart, as_many, left, taken, writing}
use Rattle.reads_back.proofs.FlowTests as tests
use Rattle.reads_back.proofs.FlowTests.{same_test_made, test_final}
use Rattle.reads_back.proofs.FlowThere.{IsFlowAct, IsFlowFunction, StepIs, before_at, made_at, pcs}
use Rattle.reads_back.proofs.HeadsSame.{head_same}
use Rattle.reads_back.proofs.PlacedInside.{GoesBack, laid_back}
use Rattle.reads_back.proofs.Rewriting.{OwnListed}
use Rattle.reads_back.proofs.SameStatements.{assigned_makes}
use Rattle.reads_back.proofs.ActsKnown.{written}
use Rattle.reads_back.proofs.TestsSame.{test_same}

-- each head of a loop over other things has as many variables among other steps
abbrev pub SameHeads : (code other : Steps) → Type 0
SameHeads code other = (at foot end variables_end : ℕ) (captured : Bool) → kind_at code.steps at ≡ Some (StepKind.Head false foot end variables_end captured) → names_in (part_at other at) ≡ names_in (part_at code at)

-- what stands of a statement in a step makes the statement
part_of_made : (s : Statement) (m : Maker) → part_made (part_of s) m ≡ statement_made s 1 None m
part_of_made (return_statement es) m = refl
part_of_made s m = refl

module _ {f : Function} {g : Fn} {z : Maker} {lefts : ℕ → List (Option Inner)} {parts : ℕ → outline.Part} {code : Steps} {params names : List Text} {ahead : Ahead} {block : Statements} (of : IsFlowFunction f g z lefts parts code params names ahead block) where
  -- a leaf whose operands are written the other way round has no names that change places
  abbrev pub TestTurns : (at : ℕ) → StepKind → Part → Type 0
  TestTurns at (StepKind.Test when target levels) (condition_part e) =
      let m = before_at of at in
      let behind = length (made_at of at (StepKind.Test when target levels) (condition_part e)).functions in
      KeepsNames g m.active (length m.constants) (length m.functions) behind e
  TestTurns at kind part = Unit {0}

  act_made : {at : ℕ} {kind : StepKind} {part : Part} (is : StepIs of at kind part) (s : Statement) (flow : IsFlowAct s) (makes : made_at of at kind part ≡ statement_made s 1 None (before_at of at))
      (stands : StatementAt g None s (before_at of at).active (made_at of at kind part).active (spot (before_at of at)) (spot (made_at of at kind part))) (own : OwnListed f g (before_at of at).active s) →
      (draft : Drafted) → ActPart f g lefts (before_at of at) s (length (made_at of at kind part).functions) draft → part_made draft.part (before_at of at) ≡ made_at of at kind part
  act_made {at} {kind} {part} is s flow makes stands own draft read =
      let m = before_at of at in
      let made = made_at of at kind part in
      let t = act_statement (writing f g lefts m) (taken f g lefts m) (left f g lefts m) read.acted in
      let rewritten = written (acts.here of is s flow makes stands own) of.left s flow.is flow.shallow own (length m.functions) (length made.functions) read.acted read.is in
      ap (λ part. part_made part m) read.part
      ∙ part_of_made t m
      ∙ rewritten.made m (acts.comes of is s flow makes stands own) (acts.final of is s flow makes stands own)
      ∙ sym (same_made of is s flow makes stands own)

  test_made : {at target negated : ℕ} {when : Bool} {e : Expression} (is : StepIs of at (StepKind.Test when target negated) (condition_part e)) → KeepsNames g (before_at of at).active (length (before_at of at).constants) (length (before_at of at).functions) (length (made_at of at (StepKind.Test when target negated) (condition_part e)).functions) e →
      (draft : Drafted) → TestPart f g lefts (before_at of at) when (pcs of target) e (length (made_at of at (StepKind.Test when target negated) (condition_part e)).functions) draft →
      tested_made when target draft.part (before_at of at) ≡ made_at of at (StepKind.Test when target negated) (condition_part e)
  test_made {at} {target} {negated} {when} {e} is turns draft read =
      let m = before_at of at in
      let made = made_at of at (StepKind.Test when target negated) (condition_part e) in
      let same = test_same lefts (tests.here of is) of.left.again (as_many of at) (length m.functions) (length made.functions) read.tested when target m e is.flow.has is.flow.shallow read.is turns (tests.comes of is) (test_final of is) in
      ap (λ part. tested_made when target part m) read.part ∙ same ∙ same_test_made of is

  head_made_same : {at foot end variables_end : ℕ} {captured : Bool} {es : Expressions} {texts : List Text} (numeric : Bool) (is : StepIs of at (StepKind.Head numeric foot end variables_end captured) (head_part es texts)) →
      (draft : Drafted) → HeadPart f g lefts (before_at of at) numeric es texts (length (made_at of at (StepKind.Head numeric foot end variables_end captured) (head_part es texts)).functions) draft →
      head_made numeric foot draft.part (before_at of at) ≡ made_at of at (StepKind.Head numeric foot end variables_end captured) (head_part es texts)
  head_made_same {at} {foot} {end} {variables_end} {captured} {es} {texts} numeric is draft read =
      let m = before_at of at in
      let same = head_same (rewritten of at foot end variables_end captured es texts numeric is read.headed read.is) code foot end variables_end captured texts m (heads.comes of at foot end variables_end captured es texts numeric is) (head_final of at foot end variables_end captured es texts numeric is) in
      ap (λ part. head_made numeric foot part m) read.part ∙ same ∙ head_made_here of at foot end variables_end captured es texts numeric is

  -- the foot of a loop over other things reads how many variables the head has that stands before its target
  foot_same : (other : Steps) → SameHeads code other → (numeric : Bool) (target : ℕ) → GoesBack code (StepKind.Foot numeric target) → (one two : Part) (m : Maker) → kind_made code (StepKind.Foot numeric target) one m ≡ kind_made other (StepKind.Foot numeric target) two m
  foot_same other same true target back one two m = refl
  foot_same other same false target (foot, end, variables_end, captured, head) one two m = ap (λ count. jump_to 1 target (put 1 (Piece.Abc Op.TForLoop (active_count m - 3) 0 count) m)) (sym (same (target - 1) foot end variables_end captured head))

  goes_back : {at : ℕ} {kind : StepKind} {part : Part} → StepIs of at kind part → GoesBack code kind
  goes_back {at} {kind} is =
      let less = is.within in
      let step = step_there code.steps at less in
      let same : kind ≡ step.0.kind = same_Some kind step.0.kind (sym is.there ∙ ap (option_map (λ (it : Step). it.kind)) step.1) in
      subst (GoesBack code) (sym same) (laid_back code params names ahead block of.laid at step.0 step.1)

  -- what is written of a step makes the same among steps that have as many variables in each head
  pub kind_made_same : (other : Steps) → SameHeads code other → {at : ℕ} (kind : StepKind) (part : Part) (is : StepIs of at kind part) → TestTurns at kind part →
      (draft : Drafted) → PartRead f g lefts (before_at of at) (pcs of) kind part (length (made_at of at kind part).functions) draft → kind_made code kind part (before_at of at) ≡ kind_made other kind draft.part (before_at of at)
  kind_made_same other same {at} StepKind.Act (statement_part s) is turns draft read =
      sym (act_made is (as_assignment s) is.flow.act (assigned_makes s (before_at of at) is.flow.formed) (act_stands of is) (act_own of s is.fits (before_at of at).active) draft read)
  kind_made_same other same {at} (StepKind.Declaration end captured) (statement_part s) is turns draft read =
      sym (act_made is (as_assignment s) is.flow.act (assigned_makes s (before_at of at) is.flow.formed) (declaration_stands of is) (own_listed of s is.fits is) draft read)
  kind_made_same other same StepKind.Return (values_part es) is turns draft read = sym (act_made is (return_statement es) is.flow refl is.stands tt draft read)
  kind_made_same other same (StepKind.Test when target negated) (condition_part e) is turns draft read = sym (test_made is turns draft read)
  kind_made_same other same (StepKind.Jump target) part is turns draft read = refl
  kind_made_same other same (StepKind.Close from declared) part is turns draft read = refl
  kind_made_same other same (StepKind.Head numeric foot end variables_end captured) (head_part es texts) is turns draft read = sym (head_made_same numeric is draft read)
  kind_made_same other same {at} (StepKind.Foot numeric target) part is turns draft read = foot_same other same numeric target (goes_back is) part draft.part (before_at of at)
  kind_made_same other same kind part is turns draft read = absurd read
