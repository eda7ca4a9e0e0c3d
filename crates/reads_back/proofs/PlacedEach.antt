-- Each step that is placed is that of its draft, with its levels and its part.
use Rattle.std.proofs.Common.{◌≡◌, ℕ, zero, suc, List, [], ◌∷◌, ◌++◌, map, append-nil, append_assoc, refl, sym, ap, ◌∙◌, subst}
use Rattle.std.proofs.lemmas.Option.{none-some, same_Some, slice_get-map}
use Rattle.std.specs.Prelude.{Option, None, Some, option_and_then, option_map, slice_get}
use Rattle.lua_num.specs.Bytes.{Text}
use Rattle.recover_expr.specs.Drafts.{Drafted, Part}
use Rattle.recover_expr.specs.Locals.{Scope, highest_captured, up_to}
use Rattle.recover_expr.specs.Placing.{Numbers, Steps, and_step, kind_placed, number_at, numbers_of, placed, step_of_kind, steps_placed}
use Rattle.recover_expr.specs.Situation.{Function}
use Rattle.recover_expr.specs.declared.draft.DraftKind.{DraftKind}
use Rattle.recover_expr.specs.declared.steps.Step.{Step}
use Rattle.recover_expr.specs.declared.steps.StepKind.{StepKind}
use Rattle.reads_back.specs.Placed.{HasNegated}

-- a step that is placed of a draft
pub record IsPlacedOf (draft : Drafted) (step : Step) : Type 0 where
  pub levels : step.levels ≡ draft.levels
  pub negated : HasNegated draft.kind step.kind

abbrev ArePlacedOf : List Drafted → List Step → Type 0
ArePlacedOf [] steps = steps ≡ []
ArePlacedOf (draft ∷ drafts) [] = ⊥
ArePlacedOf (draft ∷ drafts) (step ∷ steps) = IsPlacedOf draft step × ArePlacedOf drafts steps

kind_negated : (f : Function) (scope : Scope) (numbers : Numbers) (draft : DraftKind) (kind : StepKind) → kind_placed f scope numbers draft ≡ Some kind → HasNegated draft kind
kind_negated f scope numbers (DraftKind.Test when target negated) kind is = by (number_at numbers target) is
  where
    by : (found : Option ℕ) → option_map (λ to. StepKind.Test when to negated) found ≡ Some kind → HasNegated (DraftKind.Test when target negated) kind
    by None none = absurd (none-some kind none)
    by (Some to) same = subst (HasNegated (DraftKind.Test when target negated)) (same_Some (StepKind.Test when to negated) kind same) refl
kind_negated f scope numbers draft kind is = tt

module _ (f : Function) (scope : Scope) (numbers : Numbers) (highest : List ℕ) where
  -- behind the steps that are there already
  record PlacedBehind (drafts : List Drafted) (sofar other : Steps) : Type 0 where
    more : List Step
    steps : other.steps ≡ sofar.steps ++ more
    are : ArePlacedOf drafts more
    parts : other.parts ≡ sofar.parts ++ map (λ (draft : Drafted). draft.part) drafts

  placed_behind : (drafts : List Drafted) (sofar other : Steps) → steps_placed f scope numbers highest drafts sofar ≡ Some other → PlacedBehind drafts sofar other
  placed_behind [] sofar other is =
      let same = same_Some sofar other is in
      record {
        more = [];
        steps = sym (ap (λ (steps : Steps). steps.steps) same) ∙ sym (append-nil sofar.steps);
        are = refl;
        parts = sym (ap (λ (steps : Steps). steps.parts) same) ∙ sym (append-nil sofar.parts);
      }
  placed_behind (draft ∷ drafts) sofar other is = by (λ kind same. placed_behind drafts (and_step draft (step_of_kind kind (up_to highest draft.innermost) draft) sofar) other same) (kind_placed f scope numbers draft.kind) refl is
    where
      others_placed : StepKind → Option Steps
      others_placed kind = steps_placed f scope numbers highest drafts (and_step draft (step_of_kind kind (up_to highest draft.innermost) draft) sofar)

      by : ((kind : StepKind) → others_placed kind ≡ Some other → PlacedBehind drafts (and_step draft (step_of_kind kind (up_to highest draft.innermost) draft) sofar) other) → (found : Option StepKind) → kind_placed f scope numbers draft.kind ≡ found →
          option_and_then others_placed found ≡ Some other → PlacedBehind (draft ∷ drafts) sofar other
      by behind None known none = absurd (none-some other none)
      by behind (Some kind) known same =
          let step = step_of_kind kind (up_to highest draft.innermost) draft in
          let rest = behind kind same in
          record {
            more = step ∷ rest.more;
            steps = rest.steps ∙ append_assoc sofar.steps (step ∷ []) rest.more;
            are = (record { levels = refl; negated = kind_negated f scope numbers draft.kind kind known }, rest.are);
            parts = rest.parts ∙ append_assoc sofar.parts (draft.part ∷ []) (map (λ (draft : Drafted). draft.part) drafts);
          }

each_placed : (drafts : List Drafted) (steps : List Step) → ArePlacedOf drafts steps → (at : ℕ) (step : Step) → slice_get steps at ≡ Some step → (draft : Drafted) × (slice_get drafts at ≡ Some draft) × IsPlacedOf draft step
each_placed [] steps are at step is = absurd (none-some step (sym (ap (λ (steps : List Step). slice_get steps at) are) ∙ is))
each_placed (draft ∷ drafts) [] are at step is = absurd are
each_placed (draft ∷ drafts) (first ∷ steps) are zero step is = (draft, refl, subst (IsPlacedOf draft) (same_Some first step is) are.0)
each_placed (draft ∷ drafts) (first ∷ steps) are (suc at) step is = each_placed drafts steps are.1 at step is

-- what is known of a step that is placed
pub record IsPlacedAt (drafts : List Drafted) (other : Steps) (at : ℕ) (step : Step) : Type 0 where
  pub draft : Drafted
  pub there : slice_get drafts at ≡ Some draft
  pub is : IsPlacedOf draft step
  pub part : slice_get other.parts at ≡ Some draft.part

module _ (f : Function) (scope : Scope) (params : List Text) (drafts : List Drafted) (other : Steps) (is : placed f scope params drafts ≡ Some other) where
  -- the parts are those of the drafts
  placed_parts : other.parts ≡ map (λ (draft : Drafted). draft.part) drafts
  placed_parts = let all = placed_behind f scope (numbers_of f drafts) (highest_captured scope) drafts (record { params = params; steps = []; parts = [] }) other is in all.parts

  pub step_placed : (at : ℕ) (step : Step) → slice_get other.steps at ≡ Some step → IsPlacedAt drafts other at step
  step_placed at step there =
      let all = placed_behind f scope (numbers_of f drafts) (highest_captured scope) drafts (record { params = params; steps = []; parts = [] }) other is in
      let one = each_placed drafts all.more all.are at step (sym (ap (λ (steps : List Step). slice_get steps at) all.steps) ∙ there) in
      record {
        draft = one.0;
        there = one.1;
        is = one.2;
        part = ap (λ (parts : List Part). slice_get parts at) placed_parts ∙ slice_get-map (λ (draft : Drafted). draft.part) drafts at ∙ ap (option_map (λ (draft : Drafted). draft.part)) one.1;
      }

  -- each part that is there is that of a draft
  pub part_placed : (at : ℕ) (part : Part) → slice_get other.parts at ≡ Some part → (draft : Drafted) × (slice_get drafts at ≡ Some draft) × (draft.part ≡ part)
  part_placed at part there = by (slice_get drafts at) refl (sym (slice_get-map (λ (draft : Drafted). draft.part) drafts at) ∙ sym (ap (λ (parts : List Part). slice_get parts at) placed_parts) ∙ there)
    where
      by : (found : Option Drafted) → slice_get drafts at ≡ found → option_map (λ (draft : Drafted). draft.part) found ≡ Some part → (draft : Drafted) × (slice_get drafts at ≡ Some draft) × (draft.part ≡ part)
      by None known none = absurd (none-some part none)
      by (Some draft) known same = (draft, known, same_Some draft.part part same)
