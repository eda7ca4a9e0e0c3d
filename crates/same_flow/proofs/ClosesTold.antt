-- The CLOSEs of steps may name the steps that declare what they close: nothing that is performed depends on it.
use Rattle.std.proofs.Common.{◌≡◌, ℕ, zero, suc, ◌+◌, List, [], ◌∷◌, length, Option, None, Some, ◌⊎◌, inl, inr, refl, sym, ap, ap₂, ◌∙◌, subst, arith}
use Rattle.std.specs.Prelude.{slice_get, ◌-◌, ◌++◌, option_map, option_and_then, take, replicate}
use Rattle.std.proofs.lemmas.Option.{none-some, same_Some}
use Rattle.lua_num.specs.Bytes.{Text}
use Rattle.recover_expr.specs.Drafts.{Part}
use Rattle.recover_expr.specs.Placing.{Steps}
use Rattle.recover_expr.specs.declared.steps.Step.{Step}
use Rattle.recover_expr.specs.declared.steps.StepKind.{StepKind}
use Rattle.scheme.specs.Making.{Ahead, Maker, active_count}
use Rattle.same_flow.specs.Alike.{AreStepsLoose, IsKindLoose}
use Rattle.same_flow.specs.Declaring.{ClosesMayTell, declaring, declaring_before, same_option}
use Rattle.same_flow.specs.Performed.{Performance, behind_step, ended_before, ends_of, kind_at, kind_made, part_at, performed_to}
use Rattle.same_flow.specs.SameFlow.{begun_of}
use Rattle.same_flow.specs.Told.{at_beginning}
use Rattle.scheme.specs.Statements.{settle}

-- ---- names of CLOSEs

abbrev renamed_kind : (name : ℕ → Option ℕ) → StepKind → StepKind
renamed_kind name (StepKind.Close register declared) = StepKind.Close register (name register)
renamed_kind name kind = kind

abbrev renamed : (names : (at register : ℕ) → Option ℕ) → (at : ℕ) → List Step → List Step
renamed names at [] = []
renamed names at (step ∷ steps) = record step { kind = renamed_kind (names at) step.kind } ∷ renamed names (suc at) steps

renamed_loose : (name : ℕ → Option ℕ) (kind : StepKind) → IsKindLoose kind (renamed_kind name kind)
renamed_loose name (StepKind.Close register declared) = (name register, refl)
renamed_loose name (StepKind.Test when target negated) = (negated, refl)
renamed_loose name StepKind.Act = refl
renamed_loose name StepKind.Return = refl
renamed_loose name (StepKind.Declaration end captured) = refl
renamed_loose name (StepKind.Jump target) = refl
renamed_loose name (StepKind.Head numeric foot end variables_end captured) = refl
renamed_loose name (StepKind.Foot numeric target) = refl

renamed_count : (names : (at register : ℕ) → Option ℕ) (at : ℕ) (steps : List Step) → length (renamed names at steps) ≡ length steps
renamed_count names at [] = refl
renamed_count names at (step ∷ steps) = ap suc (renamed_count names (suc at) steps)

renamed_there : (names : (at register : ℕ) → Option ℕ) (first at : ℕ) (steps : List Step) (step : Step) → slice_get steps at ≡ Some step
    → slice_get (renamed names first steps) at ≡ Some (record step { kind = renamed_kind (names (first + at)) step.kind })
renamed_there names first at [] step there = absurd (none-some step there)
renamed_there names first zero (one ∷ steps) step there =
    let here : first ≡ first + 0 = omega arith in
    ap₂ (λ (step : Step) (at : ℕ). Some (record step { kind = renamed_kind (names at) step.kind })) (same_Some one step there) here
renamed_there names first (suc at) (one ∷ steps) step there =
    let here : suc first + at ≡ first + suc at = omega arith in
    renamed_there names (suc first) at steps step there ∙ ap (λ at. Some (record step { kind = renamed_kind (names at) step.kind })) here

renamed_past : (names : (at register : ℕ) → Option ℕ) (first at : ℕ) (steps : List Step) → slice_get steps at ≡ None → slice_get (renamed names first steps) at ≡ None
renamed_past names first at [] none = refl
renamed_past names first zero (one ∷ steps) none = absurd (none-some one (sym none))
renamed_past names first (suc at) (one ∷ steps) none = renamed_past names (suc first) at steps none

pub renamed_are_loose : (names : (at register : ℕ) → Option ℕ) (steps : List Step) → AreStepsLoose steps (renamed names 0 steps)
renamed_are_loose names steps = record {
  count = renamed_count names 0 steps;
  each = λ at step there. (record step { kind = renamed_kind (names (0 + at)) step.kind }, renamed_there names 0 at steps step there, record { kind = renamed_loose (names (0 + at)) step.kind; base = refl; captured = refl });
}

-- ---- what is performed

pub made_same : (code : Steps) (steps : List Step) (kind other : StepKind) → IsKindLoose kind other → (part : Part) (m : Maker) → kind_made code kind part m ≡ kind_made (record code { steps = steps }) other part m
made_same code steps (StepKind.Test when target negated) other like part m = ap (λ other. kind_made (record code { steps = steps }) other part m) (sym like.1)
made_same code steps (StepKind.Close from declared) other like part m = ap (λ other. kind_made (record code { steps = steps }) other part m) (sym like.1)
made_same code steps StepKind.Act other like part m = ap (λ other. kind_made (record code { steps = steps }) other part m) (sym like)
made_same code steps StepKind.Return other like part m = ap (λ other. kind_made (record code { steps = steps }) other part m) (sym like)
made_same code steps (StepKind.Declaration end captured) other like part m = ap (λ other. kind_made (record code { steps = steps }) other part m) (sym like)
made_same code steps (StepKind.Jump target) other like part m = ap (λ other. kind_made (record code { steps = steps }) other part m) (sym like)
made_same code steps (StepKind.Head numeric foot end variables_end captured) other like part m = ap (λ other. kind_made (record code { steps = steps }) other part m) (sym like)
made_same code steps (StepKind.Foot numeric target) other like part m = ap (λ other. kind_made (record code { steps = steps }) other part m) (sym like)

ends_same : (kind other : StepKind) → IsKindLoose kind other → (count : ℕ) → ends_of kind count ≡ ends_of other count
ends_same (StepKind.Test when target negated) other like count = ap (λ other. ends_of other count) (sym like.1)
ends_same (StepKind.Close from declared) other like count = ap (λ other. ends_of other count) (sym like.1)
ends_same StepKind.Act other like count = ap (λ other. ends_of other count) (sym like)
ends_same StepKind.Return other like count = ap (λ other. ends_of other count) (sym like)
ends_same (StepKind.Declaration end captured) other like count = ap (λ other. ends_of other count) (sym like)
ends_same (StepKind.Jump target) other like count = ap (λ other. ends_of other count) (sym like)
ends_same (StepKind.Head numeric foot end variables_end captured) other like count = ap (λ other. ends_of other count) (sym like)
ends_same (StepKind.Foot numeric target) other like count = ap (λ other. ends_of other count) (sym like)

module _ (code : Steps) (steps : List Step) (like : AreStepsLoose code.steps steps) where
  abbrev here : Steps
  here = record code { steps = steps }

  none_there : (at : ℕ) → slice_get code.steps at ≡ None → slice_get steps at ≡ None
  none_there at none = by (slice_get steps at) refl
    where
      by : (found : Option Step) → slice_get steps at ≡ found → slice_get steps at ≡ None
      by None is = is
      by (Some step) is = absurd (past code.steps steps at step (sym like.count) none is)
        where
          past : {A B : Type 0} (xs : List A) (ys : List B) (at : ℕ) (y : B) → length xs ≡ length ys → slice_get xs at ≡ None → slice_get ys at ≡ Some y → ⊥
          past List.[] List.[] at y same none there = none-some y there
          past List.[] (y ∷ ys) at one same none there = absurd (let a = same in omega (arith, a))
          past (x ∷ xs) List.[] at y same none there = none-some y there
          past (x ∷ xs) (y ∷ ys) zero one same none there = none-some x (sym none)
          past (x ∷ xs) (y ∷ ys) (suc at) one same none there = past xs ys at one (let a = same in omega (arith, a)) none there

  kinds_loose : (at : ℕ) → (kind_at code.steps at ≡ None) × (kind_at steps at ≡ None) ⊎ ((kind other : StepKind) × (kind_at code.steps at ≡ Some kind) × (kind_at steps at ≡ Some other) × IsKindLoose kind other)
  kinds_loose at = by (slice_get code.steps at) refl
    where
      by : (found : Option Step) → slice_get code.steps at ≡ found → (kind_at code.steps at ≡ None) × (kind_at steps at ≡ None) ⊎ ((kind other : StepKind) × (kind_at code.steps at ≡ Some kind) × (kind_at steps at ≡ Some other) × IsKindLoose kind other)
      by None is = inl (ap (option_map (λ (step : Step). step.kind)) is, ap (option_map (λ (step : Step). step.kind)) (none_there at is))
      by (Some step) is =
          let found = like.each at step is in
          inr (step.kind, found.0.kind, ap (option_map (λ (step : Step). step.kind)) is, ap (option_map (λ (step : Step). step.kind)) found.1, found.2.kind)

  behind_same : (at : ℕ) (now : Performance) → behind_step code (kind_at code.steps at) (part_at code at) now ≡ behind_step here (kind_at steps at) (part_at code at) now
  behind_same at now = by (kinds_loose at) (part_at code at)
    where
      some : (kind other : StepKind) → IsKindLoose kind other → (part : Option Part) → behind_step code (Some kind) part now ≡ behind_step here (Some other) part now
      some kind other loose None = refl
      some kind other loose (Some part) =
          ap (λ (made : Maker). record { maker = settle made; ends = now.ends ++ ends_of kind (active_count made - active_count now.maker) }) (made_same code steps kind other loose part now.maker)
          ∙ ap (λ (more : List ℕ). record { maker = settle (kind_made here other part now.maker); ends = now.ends ++ more }) (ends_same kind other loose (active_count (kind_made here other part now.maker) - active_count now.maker))

      by : (kind_at code.steps at ≡ None) × (kind_at steps at ≡ None) ⊎ ((kind other : StepKind) × (kind_at code.steps at ≡ Some kind) × (kind_at steps at ≡ Some other) × IsKindLoose kind other) → (part : Option Part)
          → behind_step code (kind_at code.steps at) part now ≡ behind_step here (kind_at steps at) part now
      by (inl none) part = ap (λ kind. behind_step code kind part now) none.0 ∙ ap (λ kind. behind_step here kind part now) (sym none.1)
      by (inr (kind, other, one, two, loose)) part = ap (λ kind. behind_step code kind part now) one ∙ some kind other loose part ∙ ap (λ kind. behind_step here kind part now) (sym two)

  module _ (params names : List Text) (ahead : Ahead) where
    pub performed_loose : (at : ℕ) → performed_to code (at_beginning code params names ahead) at ≡ performed_to here (at_beginning here params names ahead) at
    performed_loose zero = ap (λ (count : ℕ). record { maker = begun_of params names ahead; ends = replicate (active_count (begun_of params names ahead)) count }) (sym like.count)
    performed_loose (suc at) =
        behind_same at (ended_before at (performed_to code (at_beginning code params names ahead) at))
        ∙ ap (λ (now : Performance). behind_step here (kind_at steps at) (part_at code at) (ended_before at now)) (performed_loose at)

    pub declaring_loose : (at : ℕ) → declaring code params names ahead at ≡ declaring here params names ahead at
    declaring_loose zero = refl
    declaring_loose (suc at) =
        ap₂ (λ (now next : Performance). let left = active_count (ended_before at now).maker in take left (declaring code params names ahead at) ++ replicate (active_count next.maker - left) (Some at)) (performed_loose at) (performed_loose (suc at))
        ∙ ap (λ (list : List (Option ℕ)).
        let left = active_count (ended_before at (performed_to here (at_beginning here params names ahead) at)).maker in
        take left list ++ replicate (active_count (performed_to here (at_beginning here params names ahead) (suc at)).maker - left) (Some at)) (declaring_loose at)

    pub declaring_before_loose : (at register : ℕ) → declaring_before code params names ahead at register ≡ declaring_before here params names ahead at register
    declaring_before_loose at register =
        ap₂ (λ (now : Performance) (list : List (Option ℕ)). option_and_then same_option (slice_get (take (active_count (ended_before at now).maker) list) register)) (performed_loose at) (declaring_loose at)

-- ---- the names that tell

renamed_closes : (names : (at register : ℕ) → Option ℕ) (steps : List Step) (at register : ℕ) (declared : Option ℕ) → kind_at (renamed names 0 steps) at ≡ Some (StepKind.Close register declared) → declared ≡ names at register
renamed_closes names steps at register declared is = by (slice_get steps at) refl
  where
    names_of : StepKind → Option ℕ
    names_of (StepKind.Close register declared) = declared
    names_of kind = None

    registers_of : StepKind → ℕ
    registers_of (StepKind.Close register declared) = register
    registers_of kind = 0

    is_close : StepKind → Type 0
    is_close (StepKind.Close register declared) = Unit {0}
    is_close kind = ⊥

    of_kind : (kind : StepKind) → renamed_kind (names at) kind ≡ StepKind.Close register declared → declared ≡ names at register
    of_kind (StepKind.Close from name) same = sym (ap names_of same) ∙ ap (names at) (ap registers_of same)
    of_kind StepKind.Act same = absurd (subst is_close (sym same) tt)
    of_kind StepKind.Return same = absurd (subst is_close (sym same) tt)
    of_kind (StepKind.Declaration end captured) same = absurd (subst is_close (sym same) tt)
    of_kind (StepKind.Test when target negated) same = absurd (subst is_close (sym same) tt)
    of_kind (StepKind.Jump target) same = absurd (subst is_close (sym same) tt)
    of_kind (StepKind.Head numeric foot end variables_end captured) same = absurd (subst is_close (sym same) tt)
    of_kind (StepKind.Foot numeric target) same = absurd (subst is_close (sym same) tt)

    by : (found : Option Step) → slice_get steps at ≡ found → declared ≡ names at register
    by None none = absurd (none-some (StepKind.Close register declared) (sym (ap (option_map (λ (step : Step). step.kind)) (renamed_past names 0 at steps none)) ∙ is))
    by (Some step) there =
        let zero_more : at ≡ 0 + at = omega arith in
        of_kind step.kind (ap (λ n. renamed_kind (names n) step.kind) zero_more ∙ same_Some (renamed_kind (names (0 + at)) step.kind) (StepKind.Close register declared) (sym (ap (option_map (λ (step : Step). step.kind)) (renamed_there names 0 at steps step there)) ∙ is))

pub closes_may_tell : ClosesMayTell
closes_may_tell code params names ahead =
    let told = declaring_before code params names ahead in
    let steps = renamed told 0 code.steps in
    let like = renamed_are_loose told code.steps in
    (steps, like, λ at register declared is. renamed_closes told code.steps at register declared is ∙ declaring_before_loose code steps like params names ahead at register)
