-- A condition is cut in two at a place that none of its jumps goes across, and neither part is deeper than the whole.
use Rattle.std.proofs.Common.{◌≡◌, ◌∙◌, ◌≤◌, ◌<◌, ◌⊎◌, inl, inr, refl, sym, ap, subst, ℕ, suc, Bool, true, false, List, slice_get, Option, None, Some, arith}
use Rattle.std.specs.Prelude.{not, option_map, option_and_then, if◌then◌else◌}
use Rattle.std.specs.Bool.{beq}
use Rattle.recover_expr.specs.declared.steps.Step.{Step}
use Rattle.recover_expr.specs.declared.steps.StepKind.{StepKind}
use Rattle.recover_flow.specs.Asked.{kind_at, target_at, target_of}
use Rattle.recover_flow.specs.Conditions.{negated_levels, test_levels}
use Rattle.recover_flow.specs.Logic.{AreLevelled, IsLevelled, Logic, LogicLies, test_logic, literal_logic, not_logic, and_logic, or_logic, logic_levels, operators}
use Rattle.recover_flow.specs.Lying.{LiteralLies, TestGoes}
use Rattle.recover_flow.proofs.PartsInside.{order}

-- a test or a jump to a place stands in a part
pub record Hits (steps : List Step) (from to target : ℕ) : Type 0 where
  pub place : ℕ
  pub least : from ≤ place
  pub most : place < to
  pub there : target_at steps place ≡ Some target

-- one condition is no deeper than another, and has no more operators
abbrev pub IsLower : List Step → (lower logic : Logic) → Type 0
IsLower steps lower logic = (logic_levels steps lower ≤ logic_levels steps logic) × (operators lower ≤ operators logic)

module _ (steps : List Step) where
  goes_there : (place target : ℕ) (kind : StepKind) → kind_at steps place ≡ Some kind → target_of kind ≡ Some target → target_at steps place ≡ Some target
  goes_there place target kind is goes = ap (option_and_then target_of) is ∙ goes

  one_hit : (from to target : ℕ) → target_at steps from ≡ Some target → to ≡ suc from → Hits steps from to target
  one_hit from to target there next = record { place = from; least = omega arith; most = omega (arith, next); there = there }

  pub test_hit : (negated sense : Bool) (target from : ℕ) (kind : Option StepKind) → kind_at steps from ≡ kind → TestGoes negated sense target kind → target_at steps from ≡ Some target
  test_hit negated sense target from (Some (StepKind.Test when to levels)) is goes = goes_there from target (StepKind.Test when to levels) is (ap Some goes.0)
  test_hit negated sense target from None is goes = absurd goes
  test_hit negated sense target from (Some StepKind.Act) is goes = absurd goes
  test_hit negated sense target from (Some StepKind.Return) is goes = absurd goes
  test_hit negated sense target from (Some (StepKind.Declaration end captured)) is goes = absurd goes
  test_hit negated sense target from (Some (StepKind.Jump to)) is goes = absurd goes
  test_hit negated sense target from (Some (StepKind.Close close declared)) is goes = absurd goes
  test_hit negated sense target from (Some (StepKind.Head numeric foot end variables_end captured)) is goes = absurd goes
  test_hit negated sense target from (Some (StepKind.Foot numeric to)) is goes = absurd goes

  -- a condition goes to its target, or lies with any
  abbrev pub AnyTarget : Logic → Bool → (target from to : ℕ) → Type 0
  AnyTarget logic sense target from to = Hits steps from to target ⊎ ((other : ℕ) → LogicLies steps logic sense other from to)

  literal_any : (truth sense jumps : Bool) (target from to : ℕ) → beq truth sense ≡ jumps → LiteralLies steps jumps from to target → AnyTarget (literal_logic truth) sense target from to
  literal_any truth sense true target from to is lies = inl (one_hit from to target (goes_there from target (StepKind.Jump target) lies.0 refl) lies.1)
  literal_any truth sense false target from to is lies = inr (λ other. subst (λ b. LiteralLies steps b from to other) (sym is) lies)

  pub in_front : (from mid to target : ℕ) → mid ≤ to → Hits steps from mid target → Hits steps from to target
  in_front from mid to target low hit = let most = hit.most in record { place = hit.place; least = hit.least; most = omega (arith, most, low); there = hit.there }

  pub behind_it : (from mid to target : ℕ) → from ≤ mid → Hits steps mid to target → Hits steps from to target
  behind_it from mid to target low hit = let least = hit.least in record { place = hit.place; least = omega (arith, least, low); most = hit.most; there = hit.there }

  abbrev Both : Logic → Bool → Logic → Bool → (early target from to : ℕ) → Type 0
  Both left first right second early target from to = (mid : ℕ) × (from ≤ mid) × (mid ≤ to) × LogicLies steps left first early from mid × LogicLies steps right second target mid to

  same_any : (left right : Logic) (first second : Bool) (target from mid to : ℕ) → from ≤ mid → mid ≤ to → AnyTarget left first target from mid → AnyTarget right second target mid to
      → Hits steps from to target ⊎ ((other : ℕ) → Both left first right second other other from to)
  same_any left right first second target from mid to low high (inl hit) two = inl (in_front from mid to target high hit)
  same_any left right first second target from mid to low high (inr one) (inl hit) = inl (behind_it from mid to target low hit)
  same_any left right first second target from mid to low high (inr one) (inr two) = inr (λ other. (mid, low, high, one other, two other))

  over_any : (left right : Logic) (first second : Bool) (target from mid to : ℕ) → from ≤ mid → mid ≤ to → LogicLies steps left first to from mid → AnyTarget right second target mid to
      → Hits steps from to target ⊎ ((other : ℕ) → Both left first right second to other from to)
  over_any left right first second target from mid to low high one (inl hit) = inl (behind_it from mid to target low hit)
  over_any left right first second target from mid to low high one (inr two) = inr (λ other. (mid, low, high, one, two other))

  pub any_target : (logic : Logic) (sense : Bool) (target from to : ℕ) → LogicLies steps logic sense target from to → AnyTarget logic sense target from to
  any_target (test_logic step negated) sense target from to lies = inl (one_hit from to target (test_hit negated sense target from (kind_at steps from) refl lies.2) lies.1)
  any_target (literal_logic truth) sense target from to lies = literal_any truth sense (beq truth sense) target from to refl lies
  any_target (not_logic inner) sense target from to lies = any_target inner (not sense) target from to lies
  any_target (and_logic left right) true target from to (mid, low, high, one, two) = over_any left right false true target from mid to low high one (any_target right true target mid to two)
  any_target (and_logic left right) false target from to (mid, low, high, one, two) = same_any left right false false target from mid to low high (any_target left false target from mid one) (any_target right false target mid to two)
  any_target (or_logic left right) true target from to (mid, low, high, one, two) = same_any left right true true target from mid to low high (any_target left true target from mid one) (any_target right true target mid to two)
  any_target (or_logic left right) false target from to (mid, low, high, one, two) = over_any left right true false target from mid to low high one (any_target right false target mid to two)

  -- nothing of a part goes past a place
  abbrev pub StaysBefore : (from to cut : ℕ) → Type 0
  StaysBefore from to cut = (place target : ℕ) → from ≤ place → place < to → target_at steps place ≡ Some target → target ≤ cut

  -- so its target may be any where it is past that place
  pub unlabelled : (logic : Logic) (sense : Bool) (target from to cut : ℕ) → cut < target → StaysBefore from to cut → LogicLies steps logic sense target from to → (other : ℕ) → LogicLies steps logic sense other from to
  unlabelled logic sense target from to cut past stays lies = by (any_target logic sense target from to lies)
    where
      by : AnyTarget logic sense target from to → (other : ℕ) → LogicLies steps logic sense other from to
      by (inl hit) other = let most = hit.most in let within = stays hit.place target hit.least most hit.there in absurd (omega (arith, within, past))
      by (inr any) other = any other

  -- nothing from a place on goes there
  abbrev pub Never : (cut to target : ℕ) → Type 0
  Never cut to target = (place : ℕ) → cut ≤ place → place < to → target_at steps place ≡ Some target → ⊥

  pub never_any : (logic : Logic) (sense : Bool) (target from to cut : ℕ) → cut ≤ from → Never cut to target → LogicLies steps logic sense target from to → (other : ℕ) → LogicLies steps logic sense other from to
  never_any logic sense target from to cut low never lies = by (any_target logic sense target from to lies)
    where
      by : AnyTarget logic sense target from to → (other : ℕ) → LogicLies steps logic sense other from to
      by (inl hit) other = let least = hit.least in absurd (never hit.place (omega (arith, least, low)) hit.most hit.there)
      by (inr any) other = any other

  -- ---- levels

  module _ (levelled : AreLevelled steps) where
    test_least : (negated : Bool) (step : Step) (kind : StepKind) → IsLevelled step.levels kind → step.kind ≡ kind → (sense : Bool) (target : ℕ) → TestGoes negated sense target (Some kind) → 1 ≤ test_levels negated (Some step)
    test_least false step (StepKind.Test when to levels) known is sense target goes = known.0
    test_least true step (StepKind.Test when to levels) known is sense target goes = subst (λ k. 1 ≤ negated_levels k step.levels) (sym is) (omega (arith, known.0, known.1))
    test_least negated step StepKind.Act known is sense target goes = absurd goes
    test_least negated step StepKind.Return known is sense target goes = absurd goes
    test_least negated step (StepKind.Declaration end captured) known is sense target goes = absurd goes
    test_least negated step (StepKind.Jump to) known is sense target goes = absurd goes
    test_least negated step (StepKind.Close close declared) known is sense target goes = absurd goes
    test_least negated step (StepKind.Head numeric foot end variables_end captured) known is sense target goes = absurd goes
    test_least negated step (StepKind.Foot numeric to) known is sense target goes = absurd goes

    pub levels_least : (logic : Logic) (sense : Bool) (target from to : ℕ) → LogicLies steps logic sense target from to → 1 ≤ logic_levels steps logic
    levels_least (test_logic step negated) sense target from to lies = by (slice_get steps from) refl lies.2
      where
        by : (found : Option Step) → slice_get steps from ≡ found → TestGoes negated sense target (option_map (λ (s : Step). s.kind) found) → 1 ≤ test_levels negated (slice_get steps step)
        by None there goes = absurd goes
        by (Some s) there goes =
            subst (λ n. 1 ≤ test_levels negated (slice_get steps n)) (sym lies.0) (subst (λ found. 1 ≤ test_levels negated found) (sym there) (test_least negated s s.kind (levelled from s there) refl sense target goes))
    levels_least (literal_logic truth) sense target from to lies = omega arith
    levels_least (not_logic inner) sense target from to lies = omega arith
    levels_least (and_logic left right) sense target from to lies = omega arith
    levels_least (or_logic left right) sense target from to lies = omega arith

    -- ---- a condition whose target is past the cut

    pub record Tested (wanted : Bool) (logic : Logic) (sense : Bool) (target from to cut : ℕ) : Type 0 where
      pub first : Logic
      pub rest : Logic
      pub first_at : LogicLies steps first wanted cut from cut
      pub rest_at : LogicLies steps rest sense target cut to
      pub first_low : IsLower steps first logic
      pub rest_low : IsLower steps rest logic

    nothing : (wanted : Bool) (place : ℕ) → LogicLies steps (literal_logic (not wanted)) wanted place place place
    nothing true place = refl
    nothing false place = refl

    all_behind : (wanted : Bool) (logic : Logic) (sense : Bool) (target from to cut : ℕ) → from ≡ cut → LogicLies steps logic sense target from to → Tested wanted logic sense target from to cut
    all_behind wanted logic sense target from to cut same lies =
        subst (λ n. Tested wanted logic sense target from to n) same
        (record { first = literal_logic (not wanted); rest = logic; first_at = nothing wanted from; rest_at = lies; first_low = (levels_least logic sense target from to lies, omega arith); rest_low = (omega arith, omega arith) })

    chosen_past : (sense : Bool) (cut a b : ℕ) → cut < a → cut < b → cut < (if sense then a else b)
    chosen_past true cut a b one two = one
    chosen_past false cut a b one two = two

    shorter : (from from' to to' cut : ℕ) → from ≤ from' → to' ≤ to → StaysBefore from to cut → StaysBefore from' to' cut
    shorter from from' to to' cut low high stays place target begins ends there = stays place target (omega (arith, low, begins)) (omega (arith, high, ends)) there

    literal_cut : (wanted truth sense jumps : Bool) (target from to cut : ℕ) → beq truth sense ≡ jumps → from ≤ cut → cut < to → LiteralLies steps jumps from to target → Tested wanted (literal_logic truth) sense target from to cut
    literal_cut wanted truth sense true target from to cut is low high lies = all_behind wanted (literal_logic truth) sense target from to cut (omega (arith, low, high, lies.1)) (subst (λ b. LiteralLies steps b from to target) (sym is) lies)
    literal_cut wanted truth sense false target from to cut is low high lies = absurd (omega (arith, low, high, lies))

    pub cut_test : (wanted : Bool) (logic : Logic) (sense : Bool) (target from to cut : ℕ) → from ≤ cut → cut < to → cut < target → StaysBefore from cut cut → LogicLies steps logic sense target from to → Tested wanted logic sense target from to cut
    cut_test wanted (test_logic step negated) sense target from to cut low high past stays lies = all_behind wanted (test_logic step negated) sense target from to cut (omega (arith, low, high, lies.1)) lies
    cut_test wanted (literal_logic truth) sense target from to cut low high past stays lies = literal_cut wanted truth sense (beq truth sense) target from to cut refl low high lies
    cut_test wanted (not_logic inner) sense target from to cut low high past stays lies =
        let r = cut_test wanted inner (not sense) target from to cut low high past stays lies in
        let a = r.first_low in
        let b = r.rest_low in
        record { first = r.first; rest = not_logic r.rest; first_at = r.first_at; rest_at = r.rest_at; first_low = (omega (arith, a.0), omega (arith, a.1)); rest_low = (omega (arith, b.0), omega (arith, b.1)) }
    cut_test wanted (and_logic left right) sense target from to cut low high past stays (mid, begins, ends, one, two) =
        by (order cut mid) (λ z. cut_test wanted left false (if sense then to else target) from mid cut low z (chosen_past sense cut to target high past) stays one) (λ z. cut_test wanted right sense target mid to cut z high past (shorter from mid cut cut cut begins (omega arith) stays) two)
      where
        by : (cut < mid) ⊎ (mid ≤ cut) → (cut < mid → Tested wanted left false (if sense then to else target) from mid cut) → (mid ≤ cut → Tested wanted right sense target mid to cut) → Tested wanted (and_logic left right) sense target from to cut
        by (inl z) early late =
            let r = early z in
            let a = r.first_low in
            let b = r.rest_low in
            record { first = r.first; rest = and_logic r.rest right; first_at = r.first_at; rest_at = (mid, omega (arith, z), ends, r.rest_at, two); first_low = (omega (arith, a.0), omega (arith, a.1)); rest_low = (omega (arith, b.0), omega (arith, b.1)) }
        by (inr z) early late =
            let r = late z in
            let a = r.first_low in
            let b = r.rest_low in
            record {
              first = and_logic left r.first;
              rest = r.rest;
              first_at = (mid, begins, z, unlabelled left false (if sense then to else target) from mid cut (chosen_past sense cut to target high past) (shorter from from cut mid cut (omega arith) z stays) one (if wanted then cut else cut), r.first_at);
              rest_at = r.rest_at;
              first_low = (omega (arith, a.0), omega (arith, a.1));
              rest_low = (omega (arith, b.0), omega (arith, b.1));
            }
    cut_test wanted (or_logic left right) sense target from to cut low high past stays (mid, begins, ends, one, two) =
        by (order cut mid) (λ z. cut_test wanted left true (if sense then target else to) from mid cut low z (chosen_past sense cut target to past high) stays one) (λ z. cut_test wanted right sense target mid to cut z high past (shorter from mid cut cut cut begins (omega arith) stays) two)
      where
        by : (cut < mid) ⊎ (mid ≤ cut) → (cut < mid → Tested wanted left true (if sense then target else to) from mid cut) → (mid ≤ cut → Tested wanted right sense target mid to cut) → Tested wanted (or_logic left right) sense target from to cut
        by (inl z) early late =
            let r = early z in
            let a = r.first_low in
            let b = r.rest_low in
            record { first = r.first; rest = or_logic r.rest right; first_at = r.first_at; rest_at = (mid, omega (arith, z), ends, r.rest_at, two); first_low = (omega (arith, a.0), omega (arith, a.1)); rest_low = (omega (arith, b.0), omega (arith, b.1)) }
        by (inr z) early late =
            let r = late z in
            let a = r.first_low in
            let b = r.rest_low in
            record {
              first = or_logic left r.first;
              rest = r.rest;
              first_at = (mid, begins, z, unlabelled left true (if sense then target else to) from mid cut (chosen_past sense cut target to past high) (shorter from from cut mid cut (omega arith) z stays) one (if wanted then cut else cut), r.first_at);
              rest_at = r.rest_at;
              first_low = (omega (arith, a.0), omega (arith, a.1));
              rest_low = (omega (arith, b.0), omega (arith, b.1));
            }
