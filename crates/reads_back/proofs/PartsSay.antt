-- What is written of a step declares and mentions the same as its part in the source.
use Rattle.std.proofs.Common.{◌≡◌, ℕ, Bool, true, false, List, length, refl, sym, ap, ◌∙◌, subst}
use Rattle.std.specs.Prelude.{None, Option}
use Rattle.lua_num.specs.Bytes.{Text}
use Rattle.lua_tree.specs.Outline as outline
use Rattle.lua_tree.specs.Outline.{Walk, both, come, declares, expression_part, expressions_part}
use Rattle.lua_tree.specs.Syntax.{Expression, Expressions, Statement, Statements, return_statement}
use Rattle.lua_tree.specs.WellFormed.{ends_block, formed_statement}
use Rattle.core_expr.specs.Values.{Inner}
use Rattle.recover_expr.specs.Drafts.{Drafted, Part, condition_part, head_part, statement_part, values_part}
use Rattle.recover_expr.specs.Placing.{Steps}
use Rattle.recover_expr.specs.Situation.{Function}
use Rattle.recover_expr.specs.declared.steps.StepKind.{StepKind}
use Rattle.scheme.specs.Making.{Ahead, Maker}
use Rattle.scheme.specs.Scheme.{statement_made}
use Rattle.scheme_stands.proofs.Growth.{spot}
use Rattle.scheme_stands.specs.Relation.{StatementAt}
use Rattle.scheme_stands.specs.Words.{Fn}
use Rattle.same_flow.specs.Alike.{SayLike, SaysLike}
use Rattle.same_flow.specs.SameMarks.{but_breaks}
use Rattle.reads_back.specs.Acted.{Acted, IsActed, act_statement, returned}
use Rattle.reads_back.specs.Assignments.{as_assignment}
use Rattle.reads_back.specs.ReadAs.{part_of}
use Rattle.reads_back.proofs.ComparisonsSame.{KeepsNames}
use Rattle.reads_back.proofs.FlowActs as acts
use Rattle.reads_back.proofs.FlowActs.{act_own, act_stands, declaration_stands, own_listed, act_goes_on, declaration_goes_on, part_stays}
use Rattle.reads_back.proofs.FlowHeads as of_heads
use Rattle.reads_back.proofs.FlowHeads.{rewritten}
use Rattle.reads_back.proofs.FlowRead.{ActPart, HeadPart, PartRead, TestPart, as_many, left, taken, writing}
use Rattle.reads_back.proofs.FlowTests as tests
use Rattle.reads_back.proofs.FlowThere.{IsFlowAct, IsFlowFunction, StepIs, before_at, made_at, pcs}
use Rattle.reads_back.proofs.FunctionStatements.{same_ends}
use Rattle.reads_back.proofs.HeadValues.{head_wording}
use Rattle.reads_back.proofs.HeadsMarks.{head_marks}
use Rattle.reads_back.proofs.LocalsLeave.{listed_of}
use Rattle.reads_back.proofs.Marks.{SamePart, both_same, exact_part, part_back, part_then, same_part}
use Rattle.reads_back.proofs.PartsMake.{TestTurns}
use Rattle.reads_back.proofs.Rewriting.{OwnListed}
use Rattle.reads_back.proofs.SameStatements.{assigned_makes, statement_part_same}
use Rattle.reads_back.proofs.ActsKnown.{written_ends, written_marks}
use Rattle.reads_back.proofs.TestsMarks.{test_marks}
use Rattle.reads_back.proofs.TestsWritten.{test_writes}

-- parts of an outline that are the same say the same
says_like : {one other : outline.Part} → SamePart one other → SaysLike one other
says_like same = record { marks = λ here. ap (λ (walk : Walk). walk.marks) (same.each here); next = λ here. ap (λ (walk : Walk). walk.next) (same.each here) }

-- a function statement says what its assignment says
assigned_says : (s : Statement) → formed_statement s ≡ true → {other : outline.Part} → SaysLike (outline.statement_part 1 (as_assignment s)) other → SaysLike (outline.statement_part 1 s) other
assigned_says s formed {other} says = record {
  marks = λ place. ap (λ (walk : Walk). but_breaks walk.marks) (sym (statement_part_same 1 s formed refl place)) ∙ says.marks place;
  next = λ place. ap (λ (walk : Walk). walk.next) (sym (statement_part_same 1 s formed refl place)) ∙ says.next place;
}

module _ {f : Function} {g : Fn} {z : Maker} {lefts : ℕ → List (Option Inner)} {parts : ℕ → outline.Part} {code : Steps} {params names : List Text} {ahead : Ahead} {block : Statements} (of : IsFlowFunction f g z lefts parts code params names ahead block) where
  module _ {at : ℕ} {kind : StepKind} {part : Part} (is : StepIs of at kind part) (s : Statement) (flow : IsFlowAct s) (makes : made_at of at kind part ≡ statement_made s 1 None (before_at of at))
      (stands : StatementAt g None s (before_at of at).active (made_at of at kind part).active (spot (before_at of at)) (spot (made_at of at kind part))) (own : OwnListed f g (before_at of at).active s) (draft : Drafted) (read : ActPart f g lefts (before_at of at) s (length (made_at of at kind part).functions) draft) where
    -- the statement that is written
    abbrev statement : Statement
    statement = act_statement (writing f g lefts (before_at of at)) (taken f g lefts (before_at of at)) (left f g lefts (before_at of at)) read.acted

    act_says : SaysLike (outline.statement_part 1 s) (outline.statement_part 1 statement)
    act_says =
        let m = before_at of at in
        let same = written_marks (acts.here of is s flow makes stands own) of.left s flow.is flow.shallow own (length m.functions) (length (made_at of at kind part).functions) read.acted (length m.constants) read.is in
        says_like (part_back (part_then same (exact_part (λ here. ap (λ s. outline.statement_part 1 s here) flow.on_line))))

    act_part : ends_block s ≡ false → draft.part ≡ statement_part statement
    act_part goes_on =
        let m = before_at of at in
        read.part ∙ part_stays statement (written_ends (acts.here of is s flow makes stands own) of.left s flow.is flow.shallow own (length m.functions) (length (made_at of at kind part).functions) read.acted (length m.constants) read.is ∙ goes_on)

  -- what is written of a return is one
  return_says : {at : ℕ} {es : Expressions} (is : StepIs of at StepKind.Return (values_part es)) (draft : Drafted) → ActPart f g lefts (before_at of at) (return_statement es) (length (made_at of at StepKind.Return (values_part es)).functions) draft → SayLike StepKind.Return (values_part es) draft.part
  return_says {at} {es} is draft read = by read.acted refl read.is
    where
      by : (acted : Acted) → read.acted ≡ acted → IsActed g (before_at of at).active (return_statement es) (length (before_at of at).functions) (length (made_at of at StepKind.Return (values_part es)).functions) acted → SayLike StepKind.Return (values_part es) draft.part
      by (returned vs all) same acts =
          let m = before_at of at in
          let statement_of = λ (acted : Acted). act_statement (writing f g lefts m) (taken f g lefts m) (left f g lefts m) acted in
          let says = act_says is (return_statement es) is.flow refl is.stands tt draft read in
          subst (SayLike StepKind.Return (values_part es)) (sym (read.part ∙ ap (λ (acted : Acted). part_of (statement_of acted)) same))
          (subst (λ (acted : Acted). SaysLike (outline.statement_part 1 (return_statement es)) (outline.statement_part 1 (statement_of acted))) same says)
      by acted same acts = absurd acts

  test_says : {at target negated : ℕ} {when : Bool} {e : Expression} (is : StepIs of at (StepKind.Test when target negated) (condition_part e)) → KeepsNames g (before_at of at).active (length (before_at of at).constants) (length (before_at of at).functions) (length (made_at of at (StepKind.Test when target negated) (condition_part e)).functions) e →
      (draft : Drafted) → TestPart f g lefts (before_at of at) when (pcs of target) e (length (made_at of at (StepKind.Test when target negated) (condition_part e)).functions) draft → SayLike (StepKind.Test when target negated) (condition_part e) draft.part
  test_says {at} {target} {negated} {when} {e} is keeps draft read =
      let m = before_at of at in
      let behind = length (made_at of at (StepKind.Test when target negated) (condition_part e)).functions in
      let known = tests.here of is in
      let writes = test_writes lefts known of.left.again (as_many of at) (length m.constants) (length m.functions) behind e is.flow.has is.flow.shallow read.tested read.is in
      let same = test_marks of.made.is_function known.all (as_many of at) parts (of.left.made m.active (listed_of m.active) known.all) (length m.constants) (length m.functions) behind read.tested (lefts (length m.functions)) (of.left.parts (length m.functions)) writes.can e is.flow.has is.flow.shallow read.is keeps in
      subst (SayLike (StepKind.Test when target negated) (condition_part e)) (sym read.part)
      (says_like (part_back (part_then same (exact_part (λ here. ap (λ e. expression_part e here) is.flow.on_line)))))

  head_says : {at foot end variables_end : ℕ} {captured : Bool} {es : Expressions} {texts : List Text} (numeric : Bool) (is : StepIs of at (StepKind.Head numeric foot end variables_end captured) (head_part es texts)) →
      (draft : Drafted) → HeadPart f g lefts (before_at of at) numeric es texts (length (made_at of at (StepKind.Head numeric foot end variables_end captured) (head_part es texts)).functions) draft →
      SayLike (StepKind.Head numeric foot end variables_end captured) (head_part es texts) draft.part
  head_says {at} {foot} {end} {variables_end} {captured} {es} {texts} numeric is draft read =
      let m = before_at of at in
      let kind = StepKind.Head numeric foot end variables_end captured in
      let behind = length (made_at of at kind (head_part es texts)).functions in
      let known = of_heads.here of at foot end variables_end captured es texts is in
      let written = rewritten of at foot end variables_end captured es texts numeric is read.headed read.is in
      let values : SamePart (expressions_part es) (expressions_part (head_wording numeric (writing f g lefts m) (length m.constants) (lefts (length m.functions)) read.headed).words) =
      part_back
      (part_then
      (head_marks of.made.is_function known.all parts (of.left.made m.active (listed_of m.active) known.all) numeric es (of_heads.of_head of at foot end variables_end captured es texts numeric is) is.flow.has is.flow.shallow (length m.functions) behind read.headed (length m.constants) (lefts (length m.functions)) (of.left.parts (length m.functions)) read.is written.can)
      (exact_part (λ here. ap (λ es. expressions_part es here) is.flow.on_line))) in
      subst (SayLike kind (head_part es texts)) (sym read.part)
      (says_like (record { each = λ here. (both_same (same_part (declares 1 3 texts)) (both_same values (same_part (come 3 texts here.declarations)))).each here }))

  -- what is written of a step says the same as its part
  pub say_like : {at : ℕ} (kind : StepKind) (part : Part) (is : StepIs of at kind part) → TestTurns of at kind part → (draft : Drafted) → PartRead f g lefts (before_at of at) (pcs of) kind part (length (made_at of at kind part).functions) draft → SayLike kind part draft.part
  say_like {at} StepKind.Act (statement_part s) is turns draft read =
      let m = before_at of at in
      let formed = is.flow.formed in
      let makes = assigned_makes s m formed in
      let stands = act_stands of is in
      let own = act_own of s is.fits m.active in
      subst (SayLike StepKind.Act (statement_part s)) (sym (act_part is (as_assignment s) is.flow.act makes stands own draft read (same_ends s ∙ act_goes_on s is.fits)))
      (assigned_says s formed (act_says is (as_assignment s) is.flow.act makes stands own draft read))
  say_like {at} (StepKind.Declaration end captured) (statement_part s) is turns draft read =
      let formed = is.flow.formed in
      let makes = assigned_makes s (before_at of at) formed in
      let stands = declaration_stands of is in
      let own = own_listed of s is.fits is in
      subst (SayLike (StepKind.Declaration end captured) (statement_part s)) (sym (act_part is (as_assignment s) is.flow.act makes stands own draft read (same_ends s ∙ declaration_goes_on s is.fits)))
      (assigned_says s formed (act_says is (as_assignment s) is.flow.act makes stands own draft read))
  say_like StepKind.Return (values_part es) is turns draft read = return_says is draft read
  say_like (StepKind.Test when target negated) (condition_part e) is turns draft read = test_says is turns draft read
  say_like (StepKind.Jump target) part is turns draft read = tt
  say_like (StepKind.Close from declared) part is turns draft read = tt
  say_like (StepKind.Head numeric foot end variables_end captured) (head_part es texts) is turns draft read = head_says numeric is draft read
  say_like (StepKind.Foot numeric target) part is turns draft read = tt
  say_like kind part is turns draft read = absurd read
