-- Each step that is placed of the drafts of a function is that of one which is read of the step of its number.
use Rattle.std.proofs.Common.{◌≡◌, ℕ, List, map, sym, ap, ◌∙◌, subst}
use Rattle.std.proofs.lemmas.Option.{same_Some}
use Rattle.std.specs.Prelude.{Option, Some, option_map, slice_get}
use Rattle.lua_num.specs.Bytes.{Text}
use Rattle.lua_tree.specs.Outline as outline
use Rattle.lua_tree.specs.Syntax.{Statements}
use Rattle.core_expr.specs.Values.{Inner}
use Rattle.recover_expr.specs.Drafts.{Drafted}
use Rattle.recover_expr.specs.Locals.{Scope}
use Rattle.recover_expr.specs.Placing.{Steps, placed}
use Rattle.recover_expr.specs.Situation.{Function, Situation}
use Rattle.recover_expr.specs.declared.steps.Step.{Step}
use Rattle.scheme.specs.Making.{Ahead, Maker}
use Rattle.scheme_stands.specs.Words.{Fn}
use Rattle.same_flow.specs.Alike.{AreStepsLike, IsKindLike, IsStepLike}
use Rattle.same_flow.specs.Performed.{part_at}
use Rattle.reads_back.specs.Placed.{ArePlacedLike, HasNegated}
use Rattle.reads_back.proofs.FlowDrafts.{FlowRead}
use Rattle.reads_back.proofs.FlowNext.{DraftRead}
use Rattle.reads_back.proofs.FlowThere.{IsFlowFunction}
use Rattle.reads_back.proofs.PlacedEach.{step_placed}

module _ {f : Function} {g : Fn} {z : Maker} {lefts : ℕ → List (Option Inner)} {parts : ℕ → outline.Part} {code : Steps} {params names : List Text} {ahead : Ahead} {block : Statements} (of : IsFlowFunction f g z lefts parts code params names ahead block) where
  -- a step that is placed, and its draft
  pub record PlacedRead (at : ℕ) (other : Steps) (step : Step) : Type 0 where
    pub draft : Drafted
    pub read : DraftRead of at draft
    pub levels : step.levels ≡ draft.levels
    pub like : IsKindLike read.kind step.kind
    pub negated : HasNegated draft.kind step.kind
    pub part : part_at other at ≡ Some draft.part

  -- the drafts are placed as these steps, like those of the function
  pub record ArePlaced (other : Steps) : Type 0 where
    pub scope : Scope
    pub drafts : List Drafted
    pub is : placed f scope params drafts ≡ Some other
    pub like : AreStepsLike code.steps other.steps
    pub each : (at : ℕ) (draft : Drafted) → slice_get drafts at ≡ Some draft → DraftRead of at draft

  pub placed_read : (other : Steps) → ArePlaced other → (at : ℕ) (step : Step) → slice_get other.steps at ≡ Some step → PlacedRead at other step
  placed_read other are at step there =
      let one = step_placed f are.scope params are.drafts other are.is at step there in
      let read = are.each at one.draft one.there in
      let own = read.draft_is in
      let like = are.like.each at own.step own.there in
      let same : like.0 ≡ step = same_Some like.0 step (sym like.1 ∙ there) in
      let kind : own.step.kind ≡ read.kind = same_Some own.step.kind read.kind (sym (ap (option_map (λ (it : Step). it.kind)) own.there) ∙ read.is.there) in
      let alike = subst (IsStepLike own.step) same like.2 in
      record {
        draft = one.draft;
        read = read;
        levels = one.is.levels;
        like = subst (λ kind. IsKindLike kind step.kind) kind alike.kind;
        negated = one.is.negated;
        part = one.part;
      }

  -- the drafts of all words, where they are placed like the steps of the function
  pub placed_flow : {now : Situation} (read : FlowRead of now) (scope : Scope) (like : ArePlacedLike code params f scope read.drafts) → ArePlaced (record { params = params; steps = like.steps; parts = map (λ (draft : Drafted). draft.part) read.drafts })
  placed_flow read scope like = record { scope = scope; drafts = read.drafts; is = like.is; like = like.like; each = read.each }
