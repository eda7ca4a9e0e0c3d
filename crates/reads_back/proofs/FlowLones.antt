-- The words of a jump, of a CLOSE and of the foot of a loop are read as one step, in which nothing is written.
use Rattle.std.proofs.Common.{◌≡◌, ◌≤◌, ℕ, suc, Bool, true, false, List, [], length, refl, sym, ap, ◌∙◌, arith, subst}
use Rattle.std.specs.Prelude.{Option}
use Rattle.lua_num.specs.Bytes.{Text}
use Rattle.lua_tree.specs.Outline as outline
use Rattle.lua_tree.specs.Syntax.{Statements}
use Rattle.core_expr.specs.Values.{Inner}
use Rattle.recover_expr.specs.Drafts.{Drafted, Part}
use Rattle.recover_expr.specs.Locals.{declaring_step}
use Rattle.recover_expr.specs.Placing.{Steps}
use Rattle.recover_expr.specs.Situation.{Function, Situation}
use Rattle.recover_expr.specs.declared.draft.DraftKind.{DraftKind}
use Rattle.recover_expr.specs.declared.steps.StepKind.{StepKind}
use Rattle.scheme.specs.Making.{Ahead, Maker}
use Rattle.scheme_stands.specs.Words.{Fn}
use Rattle.same_flow.specs.Listed.{entries_by}
use Rattle.reads_back.specs.Placed.{IsDraftKind, listed_before}
use Rattle.reads_back.proofs.ActsRead.{Declares}
use Rattle.reads_back.proofs.FlowRead.{Begins, KindRead, LonePart, PartRead, kind_in, last_is, within_last}
use Rattle.reads_back.proofs.FlowStarts.{from_at, quiet_to}
use Rattle.reads_back.proofs.FlowThere.{IsFlowFunction, StepIs, before_at, made_at, pcs}
use Rattle.reads_back.proofs.LonesRead.{LoneRead, close_read, foot_read, generic_foot_read, jump_read}
use Rattle.reads_back.proofs.StartingLocals.{StartFrom, start_later}
use Rattle.reads_back.proofs.StepsGrow.{pcs_grow}
use Rattle.reads_back.proofs.WordsRead.{IsQuiet}

module _ {f : Function} {g : Fn} {z : Maker} {lefts : ℕ → List (Option Inner)} {parts : ℕ → outline.Part} {code : Steps} {params names : List Text} {ahead : Ahead} {block : Statements} (of : IsFlowFunction f g z lefts parts code params names ahead block) where
  -- no local starts where its words are read
  pub quiet_here : {at : ℕ} {kind : StepKind} {part : Part} (is : StepIs of at kind part) (now : Situation) → Begins of at now → StartFrom (suc (pcs of (suc at))) (from_at of (suc at)) → StartFrom (pcs of (suc at)) (entries_by (pcs of) at kind part) →
      IsQuiet f now.scope (pcs of at) (length (made_at of at kind part).items)
  quiet_here {at} {kind} {part} is now begins rest own =
      let start = start_later (pcs of (suc at)) (suc (pcs of (suc at))) (from_at of (suc at)) (omega arith) rest in
      subst (λ pc. IsQuiet f now.scope (pcs of at) pc) (last_is of is) (quiet_to of at kind part is (pcs of at) (pcs of (suc at)) now.scope begins.declared begins.active (omega arith) own start (within_last of is))

  -- where a step goes is in the code
  pub target_within : (target : ℕ) → target ≤ length code.steps → pcs of target ≤ f.last
  target_within target inside = omega (arith, of.last, pcs_grow code params names ahead target (length code.steps) inside)

  -- such a step declares no local and makes no function and no constant
  lone_step : {at : ℕ} {kind : StepKind} {part : Part} (is : StepIs of at kind part) (draft_kind : DraftKind) (now : Situation) → Begins of at now → LoneRead f draft_kind now (pcs of at) (length (made_at of at kind part).items) → entries_by (pcs of) at kind part ≡ [] →
      length (made_at of at kind part).functions ≡ length (before_at of at).functions → length (made_at of at kind part).constants ≡ length (before_at of at).constants →
      IsDraftKind (pcs of) (listed_before code params names ahead at) (length (entries_by (pcs of) at kind part)) (kind_in now.scope kind) draft_kind →
      ((draft : Drafted) → LonePart f g lefts (before_at of at) draft → PartRead f g lefts (before_at of at) (pcs of) kind part (length (made_at of at kind part).functions) draft) → KindRead of at kind part now
  lone_step {at} {kind} {part} is draft_kind now begins read none functions constants kind_is lone = record {
    draft = read.draft;
    behind = read.behind;
    reads = λ n few. read.reads n (omega (arith, few, last_is of is));
    kind_is = subst (IsDraftKind (pcs of) (listed_before code params names ahead at) (length (entries_by (pcs of) at kind part)) (kind_in now.scope kind)) (sym read.kind) kind_is;
    next = read.next ∙ sym (last_is of is);
    declares = subst (λ n. Declares n now.scope read.behind.scope) (sym (ap length none)) read.declares;
    left = read.left ∙ begins.left ∙ ap lefts (sym functions);
    seen = read.seen ∙ begins.seen ∙ sym constants;
    later = let later = read.later in omega (arith, later, last_is of is);
    own_later = subst (StartFrom (suc (pcs of at))) (sym none) tt;
    part_read = lone read.draft (record { part = read.part; levels = read.levels });
  }

  pub jump_step_read : {at target : ℕ} {part : Part} → StepIs of at (StepKind.Jump target) part → (now : Situation) → Begins of at now → StartFrom (suc (pcs of (suc at))) (from_at of (suc at)) → KindRead of at (StepKind.Jump target) part now
  jump_step_read {at} {target} is now begins rest =
      lone_step is (DraftKind.Jump (pcs of target)) now begins (jump_read of.made.is_function now begins.pc begins.entries (target_within target is.inside) (quiet_here is now begins rest tt) is.stands) refl refl refl refl (λ draft part. part)

  pub close_step_read : {at from : ℕ} {declared : Option ℕ} {part : Part} → StepIs of at (StepKind.Close from declared) part → (now : Situation) → Begins of at now → StartFrom (suc (pcs of (suc at))) (from_at of (suc at)) → KindRead of at (StepKind.Close from declared) part now
  close_step_read {at} {from} is now begins rest =
      lone_step is (DraftKind.Close from (declaring_step from now.scope)) now begins (close_read of.made.is_function now begins.pc begins.entries (quiet_here is now begins rest tt) is.stands) refl refl refl refl (λ draft part. part)

  pub foot_step_read : {at target : ℕ} (numeric : Bool) {part : Part} → StepIs of at (StepKind.Foot numeric target) part → (now : Situation) → Begins of at now → StartFrom (suc (pcs of (suc at))) (from_at of (suc at)) → KindRead of at (StepKind.Foot numeric target) part now
  foot_step_read {at} {target} true is now begins rest =
      lone_step is (DraftKind.Foot true (pcs of target)) now begins (foot_read of.made.is_function now begins.pc begins.entries (target_within target is.inside) (quiet_here is now begins rest tt) is.stands) refl refl refl refl (λ draft part. part)
  foot_step_read {at} {target} false is now begins rest =
      lone_step is (DraftKind.Foot false (pcs of target)) now begins (generic_foot_read of.made.is_function now begins.pc begins.entries (target_within target is.inside) (quiet_here is now begins rest tt) is.stands) refl refl refl refl (λ draft part. part)
