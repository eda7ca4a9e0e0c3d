-- Conditions of several parts, and of a stretch of steps.
use Rattle.std.proofs.Common.{◌≡◌, ◌+◌, ◌-◌, ◌<◌, ◌≤◌, ℕ, zero, suc, List, [], ◌∷◌, length, drop, get_or, None, Some, refl, sym, ap, ◌∙◌, arith}
use Rattle.std.proofs.lemmas.Bool.{le-leb}
use Rattle.std.specs.Prelude.{slice_range}
use Rattle.recover_expr.specs.declared.steps.Step.{Step}
use Rattle.recover_flow.specs.Conditions.{ConditionTree, Finds, part_before, joined_parts, unit_of, condition_parts, of_parts, of_stretch, condition_within}
use Rattle.recover_flow.specs.declared.conditions.Goal.{Goal}
use Rattle.recover_flow.specs.declared.conditions.Part.{Part}

-- ---- parts, from the last one on

module _ (finds : Finds) (to : ℕ) (goal : Goal) where
  -- the last one alone
  pub last_is : (parts : List Part) (number : ℕ) (other : Part) → number + 1 ≡ length parts → joined_parts finds to goal (drop number parts) ≡ finds (get_or parts number other).from (get_or parts number other).to goal
  last_is [] number other last = absurd (omega (arith, last))
  last_is (part ∷ []) zero other last = refl
  last_is (part ∷ next ∷ parts) zero other last = absurd (omega (arith, last))
  last_is (part ∷ parts) (suc number) other last = last_is parts number other (omega (arith, last))

  joined_before : (part : Part) (rest : List Part) (whole : ConditionTree) → Some whole ≡ joined_parts finds to goal rest → joined_parts finds to goal (part ∷ rest) ≡ part_before finds to goal part whole
  joined_before part [] whole is = cc is
  joined_before part (next ∷ rest) whole is = rw (sym is) refl

  part_joined : (parts : List Part) (number : ℕ) (other : Part) (whole : ConditionTree) → suc number < length parts → Some whole ≡ joined_parts finds to goal (drop (suc number) parts) → joined_parts finds to goal (drop number parts) ≡ part_before finds to goal (get_or parts number other) whole
  part_joined [] number other whole low is = absurd (omega (arith, low))
  part_joined (part ∷ parts) zero other whole low is = joined_before part parts whole is
  part_joined (part ∷ parts) (suc number) other whole low is = part_joined parts number other whole (omega (arith, low)) is

  -- one more is joined
  pub next_is : (parts : List Part) (number : ℕ) (other : Part) (whole : ConditionTree) → 0 < number → number < length parts → Some whole ≡ joined_parts finds to goal (drop number parts) → joined_parts finds to goal (drop (number - 1) parts) ≡ part_before finds to goal (get_or parts (number - 1) other) whole
  next_is parts number other whole above low is =
      let e : number ≡ suc (number - 1) = omega (arith, above) in
      part_joined parts (number - 1) other whole (omega (arith, above, low)) (is ∙ ap (λ n. joined_parts finds to goal (drop n parts)) e)

  lost_before : (part : Part) (rest : List Part) → 0 < length rest → joined_parts finds to goal rest ≡ None → joined_parts finds to goal (part ∷ rest) ≡ None
  lost_before part [] some none = absurd (omega (arith, some))
  lost_before part (next ∷ rest) some none = rw none refl

  lost : (parts : List Part) (number : ℕ) → number < length parts → joined_parts finds to goal (drop number parts) ≡ None → joined_parts finds to goal parts ≡ None
  lost [] number low none = absurd (omega (arith, low))
  lost (part ∷ parts) zero low none = none
  lost (part ∷ parts) (suc number) low none = lost_before part parts (omega (arith, low)) (lost parts number (omega (arith, low)) none)

  -- where some of them have none, they have none
  pub lost_behind : (parts : List Part) (number : ℕ) → number < length parts → joined_parts finds to goal (drop number parts) ≡ None → None ≡ joined_parts finds to goal parts
  lost_behind parts number low none = sym (lost parts number low none)

-- ---- a stretch

pub within_is : (steps stretch : List Step) (depth less from to : ℕ) (goal : Goal) → 1 ≤ depth → less ≡ depth - 1 → from ≤ to → to ≤ length steps → stretch ≡ slice_range steps from to → condition_within steps depth from to goal ≡ of_stretch (condition_within steps less) steps from to goal stretch
within_is steps stretch zero less from to goal some l low high is = absurd (omega (arith, some))
within_is steps stretch (suc depth) less from to goal some l low high is =
    let e : less ≡ depth = omega (arith, l) in
    rw e (rw is (rw (le-leb from to low) (rw (le-leb to (length steps) high) refl)))

module _ (finds : Finds) (steps : List Step) (from to : ℕ) (goal : Goal) where
  pub stretch_one : (stretch : List Step) (other : Step) → 1 ≤ length stretch → length stretch < 2 → of_stretch finds steps from to goal stretch ≡ unit_of (get_or stretch 0 other) from to goal
  stretch_one [] other some few = absurd (omega (arith, some))
  stretch_one (step ∷ []) other some few = refl
  stretch_one (step ∷ next ∷ steps) other some few = absurd (omega (arith, few))

  pub stretch_more : (stretch : List Step) (parts : List Part) → 2 ≤ length stretch → Some parts ≡ condition_parts steps from to goal.target → of_stretch finds steps from to goal stretch ≡ of_parts finds from to goal parts
  stretch_more [] parts many is = absurd (omega (arith, many))
  stretch_more (step ∷ []) parts many is = absurd (omega (arith, many))
  stretch_more (step ∷ next ∷ steps) parts many is = rw (sym is) refl
