-- Steps that are like each other are so both ways, and what CLOSEs tell, likeness of parts and what steps tell go over to like steps and like parts.
use Rattle.std.proofs.Common.{◌≡◌, ℕ, Bool, List, Option, None, Some, option_map, refl, sym, ap, ◌∙◌, subst}
use Rattle.std.specs.Prelude.{slice_get}
use Rattle.std.proofs.lemmas.Option.{none-some, same_Some}
use Rattle.lua_num.specs.Bytes.{Text}
use Rattle.recover_expr.specs.Drafts.{Part, condition_part}
use Rattle.recover_expr.specs.Placing.{Steps}
use Rattle.recover_expr.specs.declared.steps.Step.{Step}
use Rattle.recover_expr.specs.declared.steps.StepKind.{StepKind}
use Rattle.scheme.specs.Making.{Ahead, Maker}
use Rattle.same_flow.specs.Alike.{ArePartsLike, AreStepsLike, IsKindLike, IsStepLike, SayLike}
use Rattle.same_flow.specs.Declaring.{ClosesTell}
use Rattle.same_flow.specs.Performed.{Performance, ended_before, kind_at, kind_made, part_at, performed_to}
use Rattle.same_flow.specs.Told.{AreTold, FlagTells, IsTold, PartFits, at_beginning, before_step}
use Rattle.same_flow.proofs.ClosesTold.{declaring_before_loose, made_same, performed_loose}
use Rattle.same_flow.proofs.PartsAlike.{none_in_both, performed_same}
use Rattle.same_flow.proofs.StepsAlike.{loose, loose_steps}

-- ---- both ways

kind_again : (kind other : StepKind) → IsKindLike kind other → IsKindLike other kind
kind_again (StepKind.Test when target negated) other like = subst (λ other. IsKindLike other (StepKind.Test when target negated)) (sym like.1) (negated, refl)
kind_again StepKind.Act other like = subst (λ other. IsKindLike other StepKind.Act) (sym like) refl
kind_again StepKind.Return other like = subst (λ other. IsKindLike other StepKind.Return) (sym like) refl
kind_again (StepKind.Declaration end captured) other like = subst (λ other. IsKindLike other (StepKind.Declaration end captured)) (sym like) refl
kind_again (StepKind.Jump target) other like = subst (λ other. IsKindLike other (StepKind.Jump target)) (sym like) refl
kind_again (StepKind.Close from declared) other like = subst (λ other. IsKindLike other (StepKind.Close from declared)) (sym like) refl
kind_again (StepKind.Head numeric foot end variables_end captured) other like = subst (λ other. IsKindLike other (StepKind.Head numeric foot end variables_end captured)) (sym like) refl
kind_again (StepKind.Foot numeric target) other like = subst (λ other. IsKindLike other (StepKind.Foot numeric target)) (sym like) refl

step_again : (step other : Step) → IsStepLike step other → IsStepLike other step
step_again step other like = record { kind = kind_again step.kind other.kind like.kind; base = sym like.base; captured = sym like.captured }

pub like_again : (steps others : List Step) → AreStepsLike steps others → AreStepsLike others steps
like_again steps others like = record { count = sym like.count; each = λ at other there. by at other there (slice_get steps at) refl }
  where
    by : (at : ℕ) (other : Step) → slice_get others at ≡ Some other → (found : Option Step) → slice_get steps at ≡ found → (step : Step) × (slice_get steps at ≡ Some step) × IsStepLike other step
    by at other there None none = absurd (none_in_both steps others at other like.count none there)
    by at other there (Some step) is =
        let found = like.each at step is in
        let same : found.0 ≡ other = same_Some found.0 other (sym found.1 ∙ there) in
        (step, is, step_again step other (subst (λ other. IsStepLike step other) same found.2))

-- of a step of such steps, the kind that it had
kind_before : (steps others : List Step) → AreStepsLike steps others → (at : ℕ) (kind : StepKind) → kind_at others at ≡ Some kind
    → (was : StepKind) × (kind_at steps at ≡ Some was) × IsKindLike was kind
kind_before steps others like at kind is = by (slice_get others at) refl
  where
    by : (found : Option Step) → slice_get others at ≡ found → (was : StepKind) × (kind_at steps at ≡ Some was) × IsKindLike was kind
    by None none = absurd (none-some kind (sym (ap (option_map (λ (step : Step). step.kind)) none) ∙ is))
    by (Some other) there =
        let found = (like_again steps others like).each at other there in
        let same : other.kind ≡ kind = same_Some other.kind kind (sym (ap (option_map (λ (step : Step). step.kind)) there) ∙ is) in
        (found.0.kind, ap (option_map (λ (step : Step). step.kind)) found.1, kind_again kind found.0.kind (subst (λ kind. IsKindLike kind found.0.kind) same found.2.kind))

-- ---- what CLOSEs tell

-- a CLOSE is the same on both
close_before : (steps others : List Step) → AreStepsLike steps others → (at register : ℕ) (declared : Option ℕ)
    → kind_at others at ≡ Some (StepKind.Close register declared) → kind_at steps at ≡ Some (StepKind.Close register declared)
close_before steps others like at register declared is =
    let found = kind_before steps others like at (StepKind.Close register declared) is in
    found.1 ∙ ap Some (kind_again found.0 (StepKind.Close register declared) found.2)

pub closes_like : (code : Steps) (others : List Step) → AreStepsLike code.steps others → (params names : List Text) (ahead : Ahead) → ClosesTell code params names ahead
    → ClosesTell (record code { steps = others }) params names ahead
closes_like code others like params names ahead tell = λ at register declared is.
    tell at register declared (close_before code.steps others like at register declared is) ∙ declaring_before_loose code others (loose_steps code.steps others like) params names ahead at register

-- ---- parts that are alike

tests_say : (when : Bool) (target negated levels : ℕ) (one two : Part) → SayLike (StepKind.Test when target negated) one two → SayLike (StepKind.Test when target levels) one two
tests_say when target negated levels (condition_part e) (condition_part other) said = said
tests_say when target negated levels one two said = absurd said

say_like : (kind other : StepKind) → IsKindLike kind other → (one two : Part) → SayLike kind one two → SayLike other one two
say_like (StepKind.Test when target negated) other like one two said = subst (λ other. SayLike other one two) (sym like.1) (tests_say when target negated like.0 one two said)
say_like StepKind.Act other like one two said = subst (λ other. SayLike other one two) (sym like) said
say_like StepKind.Return other like one two said = subst (λ other. SayLike other one two) (sym like) said
say_like (StepKind.Declaration end captured) other like one two said = subst (λ other. SayLike other one two) (sym like) said
say_like (StepKind.Jump target) other like one two said = subst (λ other. SayLike other one two) (sym like) said
say_like (StepKind.Close from declared) other like one two said = subst (λ other. SayLike other one two) (sym like) said
say_like (StepKind.Head numeric foot end variables_end captured) other like one two said = subst (λ other. SayLike other one two) (sym like) said
say_like (StepKind.Foot numeric target) other like one two said = subst (λ other. SayLike other one two) (sym like) said

pub parts_on_like : (code : Steps) (others : List Step) → AreStepsLike code.steps others → (parts : List Part) (params names : List Text) (ahead : Ahead)
    → ArePartsLike code (record code { parts = parts }) params names ahead
    → ArePartsLike (record code { steps = others }) (record { params = code.params; steps = others; parts = parts }) params names ahead
parts_on_like code others like parts params names ahead alike = record {
  steps = refl;
  count = alike.count;
  make = λ at kind one two is one_is two_is. makes at kind one two one_is two_is (kind_before code.steps others like at kind is);
  say = λ at kind one two is one_is two_is.
      let found = kind_before code.steps others like at kind is in
      say_like found.0 kind found.2 one two (alike.say at found.0 one two found.1 one_is two_is);
}
  where
    here : Steps
    here = record code { steps = others }

    there : Steps
    there = record { params = code.params; steps = others; parts = parts }

    makes : (at : ℕ) (kind : StepKind) (one two : Part) → part_at code at ≡ Some one → slice_get parts at ≡ Some two → (was : StepKind) × (kind_at code.steps at ≡ Some was) × IsKindLike was kind
        → kind_made here kind one (before_step here params names ahead at) ≡ kind_made there kind two (before_step here params names ahead at)
    makes at kind one two one_is two_is (was, was_is, was_like) =
        let same : before_step code params names ahead at ≡ before_step here params names ahead at =
        ap (λ (now : Performance). (ended_before at now).maker) (performed_loose code others (loose_steps code.steps others like) params names ahead at) in
        let m = before_step code params names ahead at in
        let made : kind_made here kind one m ≡ kind_made there kind two m =
        sym (made_same code others was kind (loose was kind was_like) one m)
        ∙ alike.make at was one two was_is one_is two_is
        ∙ made_same (record code { parts = parts }) others was kind (loose was kind was_like) two m in
        subst (λ (m : Maker). kind_made here kind one m ≡ kind_made there kind two m) same made

-- ---- what steps tell

pub before_alike : (code other : Steps) (params names : List Text) (ahead : Ahead) → ArePartsLike code other params names ahead
    → (at : ℕ) → performed_to other (at_beginning other params names ahead) at ≡ performed_to code (at_beginning code params names ahead) at
before_alike code other params names ahead like at = sym (performed_same code other params names ahead like at)

pub told_alike : (code other : Steps) (params names : List Text) (ahead : Ahead) → ArePartsLike code other params names ahead
    → ((at : ℕ) (step : Step) → slice_get other.steps at ≡ Some step → (part : Part) × (part_at other at ≡ Some part) × PartFits step.kind part)
    → AreTold code params names ahead → AreTold other params names ahead
told_alike code other params names ahead like fits told = λ at step there.
    let before = before_step code params names ahead at in
    let same : before ≡ before_step other params names ahead at = ap (λ (now : Performance). (ended_before at now).maker) (performed_same code other params names ahead like at) in
    let also : slice_get code.steps at ≡ Some step = ap (λ (steps : List Step). slice_get steps at) (sym like.steps) ∙ there in
    let was = told at step also in
    let found = fits at step there in
    let made = like.make at step.kind was.part found.0 (ap (option_map (λ (step : Step). step.kind)) also) was.there found.1 in
    let flag = subst (λ (behind : Maker). FlagTells step.kind before behind) made was.flag in
    subst (λ (before : Maker). IsTold other before at step) same (record { part = found.0; there = found.1; fits = found.2; tells = was.tells; flag = flag; ends = was.ends })
