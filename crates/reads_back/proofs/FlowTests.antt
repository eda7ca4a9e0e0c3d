-- The words of a test are read as one step, with what is written of the leaf that is tested.
use Rattle.std.proofs.Common.{◌≡◌, ℕ, suc, Bool, List, length, refl, sym, ap, ap₂, ◌∙◌, arith, subst}
use Rattle.std.specs.Prelude.{Option}
use Rattle.lua_num.specs.Bytes.{Text}
use Rattle.lua_tree.specs.Outline as outline
use Rattle.lua_tree.specs.Syntax.{Expression, Statements, binary_expression}
use Rattle.lua_tree.specs.declared.tree.BinaryOp.{BinaryOp}
use Rattle.core_expr.specs.Places.{place}
use Rattle.core_expr.specs.Values.{Inner}
use Rattle.recover_expr.specs.Drafts.{condition_part}
use Rattle.recover_expr.specs.Placing.{Steps}
use Rattle.recover_expr.specs.Situation.{Function, Situation}
use Rattle.recover_expr.specs.Testing.{negated_levels}
use Rattle.recover_expr.specs.declared.draft.DraftKind.{DraftKind}
use Rattle.recover_expr.specs.declared.steps.StepKind.{StepKind}
use Rattle.scheme.specs.Making.{Ahead, Maker}
use Rattle.scheme.specs.Scheme.{coded}
use Rattle.scheme_stands.proofs.Growth.{Final, spot}
use Rattle.scheme_stands.specs.Words.{Fn}
use Rattle.same_flow.specs.Blocks.{tested_as}
use Rattle.reads_back.proofs.FlowLones.{quiet_here, target_within}
use Rattle.reads_back.proofs.FlowRead.{Begins, KindRead, as_many, final_here, has_locals, last_is, upvalues_here}
use Rattle.reads_back.proofs.FlowStarts.{from_at}
use Rattle.reads_back.proofs.FlowThere.{IsFlowFunction, StepIs, before_at, made_at, made_before, pcs}
use Rattle.reads_back.proofs.LeavesRead.{test_read}
use Rattle.reads_back.proofs.LocalsLeave.{listed_of}
use Rattle.reads_back.proofs.Mentions.{IsAhead, mentions_in}
use Rattle.reads_back.proofs.Rewriting.{IsMadeBy, code}
use Rattle.reads_back.proofs.StartingLocals.{StartFrom}
use Rattle.reads_back.proofs.TestedAs.{condition_word, left_by_test, taken_behind_test, when_tested}
use Rattle.reads_back.proofs.TestsMeant.{test_meant}
use Rattle.reads_back.proofs.TestsSame.{test_taken, tested_expression}
use Rattle.reads_back.proofs.TestsWritten.{test_writes, tests_can}

-- what is no `~=` is tested as it is
when_is : (e : Expression) (sense : Bool) → tested_as e ≡ e → when_tested e sense ≡ sense
when_is (binary_expression line BinaryOp.Ne left right) sense is = cc
when_is e sense is = refl

pub tested_is : (e : Expression) → tested_as e ≡ e → tested_expression e ≡ e
tested_is (binary_expression line BinaryOp.Ne left right) is = cc
tested_is e is = refl

module _ {f : Function} {g : Fn} {z : Maker} {lefts : ℕ → List (Option Inner)} {parts : ℕ → outline.Part} {code_of : Steps} {params names : List Text} {ahead : Ahead} {block : Statements} (of : IsFlowFunction f g z lefts parts code_of params names ahead block) where
  module _ {at target negated : ℕ} {when : Bool} {e : Expression} (is : StepIs of at (StepKind.Test when target negated) (condition_part e)) where
    abbrev m : Maker
    m = before_at of at

    abbrev made : Maker
    made = made_at of at (StepKind.Test when target negated) (condition_part e)

    pub here : IsMadeBy f g m.active (listed_of m.active) z
    here = let less = is.within in made_before of at (omega (arith, less))

    -- what the leaf mentions means what the scope finds by it
    pub comes : IsAhead g m.active (length m.functions) (mentions_in e) m
    comes = record { active_are = refl; upvalues_are = upvalues_here of is; made_are = refl; meant = (test_meant g m.active (length m.active) when (pcs of target) e is.flow.has (spot m) (spot made) is.stands).meant }

    -- it makes the test of the leaf as it is tested
    pub same_test_made : (code (tested_expression e)).jump_if when target m ≡ made
    same_test_made = ap (λ e. (code e).jump_if when target m) (tested_is e is.flow.tested) ∙ ap (λ e. (coded e).jump_if when target m) is.flow.on_line

    pub test_final : Final (length m.labels) ((code (tested_expression e)).jump_if when target m) z
    test_final = subst (λ n. Final (length m.labels) n z) (sym same_test_made) (final_here of is)

  pub test_step_read : {at target negated : ℕ} {when : Bool} {e : Expression} → StepIs of at (StepKind.Test when target negated) (condition_part e) → (now : Situation) → Begins of at now → StartFrom (suc (pcs of (suc at))) (from_at of (suc at)) →
      KindRead of at (StepKind.Test when target negated) (condition_part e) now
  test_step_read {at} {target} {negated} {when} {e} is now begins rest =
      let kind = StepKind.Test when target negated in
      let m = before_at of at in
      let made = made_at of at kind (condition_part e) in
      let flow = is.flow in
      let listed = listed_of m.active in
      let known = here is in
      let can = tests_can lefts known of.left.again (as_many of at) e flow.has flow.shallow in
      let read = test_read of.made.is_function known.all e flow.has flow.shallow can (pcs of target) when (spot m) (spot made) now (has_locals of begins) begins.left begins.entries (target_within of target is.inside) (quiet_here of is now begins rest tt) is.stands in
      let writes = test_writes lefts known of.left.again (as_many of at) now.taken (length m.functions) (length made.functions) e flow.has flow.shallow read.tested read.is in
      let taken = test_taken lefts known of.left.again (as_many of at) (length m.functions) (length made.functions) read.tested when target m e flow.has flow.shallow read.is (comes is) (test_final is) in
      let as_taken = begins.taken ∙ begins.seen in
      let is_when = when_is e when flow.tested in
      let levels_now = λ (listed : List ℕ) (left : List (Option Inner)) (taken : ℕ). negated_levels (condition_word (place f.of listed f.short) taken left read.tested).words (condition_word (place f.of listed f.short) taken left read.tested).levels in
      let negated_is : read.draft.kind ≡ DraftKind.Test when (pcs of target) (levels_now listed (lefts (length m.functions)) (length m.constants)) =
      read.kind ∙ ap (λ when. DraftKind.Test when (pcs of target) (levels_now now.scope.active now.left now.taken)) is_when
      ∙ ap₂ (λ (listed : List ℕ) (left : List (Option Inner)). DraftKind.Test when (pcs of target) (levels_now listed left now.taken)) begins.active begins.left
      ∙ ap (λ (taken : ℕ). DraftKind.Test when (pcs of target) (levels_now listed (lefts (length m.functions)) taken)) as_taken in
      record {
        draft = read.draft;
        behind = read.behind;
        reads = λ n few. read.reads n (omega (arith, few, last_is of is));
        kind_is = (levels_now listed (lefts (length m.functions)) (length m.constants), negated_is);
        next = read.next ∙ sym (last_is of is);
        declares = read.declares;
        left =
            read.left
            ∙ ap₂ (λ (listed : List ℕ) (left : List (Option Inner)). left_by_test (place f.of listed f.short) now.taken left read.tested) begins.active begins.left
            ∙ writes.leaves;
        seen = read.seen ∙ ap (taken_behind_test read.tested) begins.seen ∙ sym taken ∙ ap (λ (n : Maker). length n.constants) (same_test_made is);
        later = let later = read.later in omega (arith, later, last_is of is);
        own_later = tt;
        part_read = record {
          tested = read.tested;
          is = read.is;
          part =
              read.part
              ∙ ap₂ (λ (listed : List ℕ) (left : List (Option Inner)). condition_part (condition_word (place f.of listed f.short) now.taken left read.tested).words) begins.active begins.left
              ∙ ap (λ (taken : ℕ). condition_part (condition_word (place f.of listed f.short) taken (lefts (length m.functions)) read.tested).words) as_taken;
          levels =
              read.levels
              ∙ ap₂ (λ (listed : List ℕ) (left : List (Option Inner)). (condition_word (place f.of listed f.short) now.taken left read.tested).levels) begins.active begins.left
              ∙ ap (λ (taken : ℕ). (condition_word (place f.of listed f.short) taken (lefts (length m.functions)) read.tested).levels) as_taken;
          negated = negated_is;
        };
      }
