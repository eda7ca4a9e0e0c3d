-- How many levels a condition has at most: two for each place where two of its parts are joined, over those of its tests. And how many those are where logic lies.
use Rattle.std.proofs.Common.{◌≡◌, ◌∙◌, ◌≤◌, ◌<◌, ◌+◌, ◌*◌, ◌-◌, ⊎_elim, refl, sym, ap, subst, ℕ, suc, max, Bool, true, false, not, List, slice_get, Option, None, Some, option_map, if◌then◌else◌, arith}
use Rattle.std.proofs.lemmas.Bool.Decides.{leb_tells}
use Rattle.std.proofs.lemmas.Option.{same_Some}
use Rattle.std.specs.Bool.{beq}
use Rattle.core_expr.specs.Counting.{one_more}
use Rattle.recover_expr.specs.declared.steps.Step.{Step}
use Rattle.recover_expr.specs.declared.steps.StepKind.{StepKind}
use Rattle.recover_flow.specs.Asked.{kind_at}
use Rattle.recover_flow.specs.Conditions.{ConditionTree, test_condition, true_condition, false_condition, joined_condition, Conditions, no_conditions, and_condition, parts_in, and_last_condition, joined_with, encloses, is_enclosed, enclosed_levels, negated_levels, test_levels, part_levels, condition_levels, first_levels, levels_behind}
use Rattle.recover_flow.specs.Logic.{Logic, test_logic, literal_logic, not_logic, and_logic, or_logic, LogicLies, logic_levels, operators, IsLevelled, AreLevelled}
use Rattle.recover_flow.specs.Lying.{ConditionLies, LiteralLies, PartsLie, TestGoes, decides, decided_to}
use Rattle.recover_flow.specs.declared.conditions.Junction.{Junction}

-- ---- how often parts are joined

abbrev mutual
  pub joins : ConditionTree → ℕ
  joins (test_condition step negated) = 0
  joins true_condition = 0
  joins false_condition = 0
  joins (joined_condition junction parts) = row_joins parts

  pub row_joins : Conditions → ℕ
  row_joins no_conditions = 1
  row_joins (and_condition first no_conditions) = suc (joins first)
  row_joins (and_condition first (and_condition next rest)) = joins first + suc (joins next + joins_behind rest)

  pub joins_behind : Conditions → ℕ
  joins_behind no_conditions = 0
  joins_behind (and_condition next rest) = suc (joins next + joins_behind rest)

row_is_joined : (parts : Conditions) → 1 ≤ row_joins parts
row_is_joined no_conditions = omega arith
row_is_joined (and_condition first no_conditions) = omega arith
row_is_joined (and_condition first (and_condition next rest)) = omega arith

row_before : (first : ConditionTree) (parts : Conditions) → row_joins (and_condition first parts) ≤ suc (joins first + row_joins parts)
row_before first no_conditions = omega arith
row_before first (and_condition next no_conditions) = omega arith
row_before first (and_condition next (and_condition third rest)) = omega arith

-- a condition before another one is one join more
pub joins_with : (junction : Junction) (first rest : ConditionTree) → joins (joined_with junction first rest) ≤ suc (joins first + joins rest)
joins_with Junction.And first (test_condition step negated) = omega arith
joins_with Junction.And first true_condition = omega arith
joins_with Junction.And first false_condition = omega arith
joins_with Junction.And first (joined_condition Junction.And parts) = row_before first parts
joins_with Junction.And first (joined_condition Junction.Or parts) = omega arith
joins_with Junction.Or first (test_condition step negated) = omega arith
joins_with Junction.Or first true_condition = omega arith
joins_with Junction.Or first false_condition = omega arith
joins_with Junction.Or first (joined_condition Junction.And parts) = omega arith
joins_with Junction.Or first (joined_condition Junction.Or parts) = row_before first parts

behind_last : (parts : Conditions) (last : ConditionTree) → joins last ≡ 0 → joins_behind (and_last_condition parts last) ≤ suc (joins_behind parts)
behind_last no_conditions last single = omega (arith, single)
behind_last (and_condition next rest) last single = omega (arith, behind_last rest last single)

row_last : (parts : Conditions) (last : ConditionTree) → joins last ≡ 0 → row_joins (and_last_condition parts last) ≤ suc (row_joins parts)
row_last no_conditions last single = omega (arith, single)
row_last (and_condition first no_conditions) last single = omega (arith, single)
row_last (and_condition first (and_condition next rest)) last single = omega (arith, behind_last rest last single)

-- and so is one before a literal
pub joins_before : (junction : Junction) (whole last : ConditionTree) → joins last ≡ 0 → row_joins (and_last_condition (parts_in junction whole) last) ≤ suc (joins whole)
joins_before Junction.And (test_condition step negated) last single = omega (arith, single)
joins_before Junction.And true_condition last single = omega (arith, single)
joins_before Junction.And false_condition last single = omega (arith, single)
joins_before Junction.And (joined_condition Junction.And parts) last single = row_last parts last single
joins_before Junction.And (joined_condition Junction.Or parts) last single = omega (arith, single)
joins_before Junction.Or (test_condition step negated) last single = omega (arith, single)
joins_before Junction.Or true_condition last single = omega (arith, single)
joins_before Junction.Or false_condition last single = omega (arith, single)
joins_before Junction.Or (joined_condition Junction.And parts) last single = omega (arith, single)
joins_before Junction.Or (joined_condition Junction.Or parts) last single = row_last parts last single

-- ---- the levels of what is joined

one_more_at_most : (levels : ℕ) → one_more levels ≤ levels + 1
one_more_at_most levels = omega arith

enclosed_at_most : (enclosed : Bool) (levels : ℕ) → enclosed_levels enclosed levels ≤ levels + 1
enclosed_at_most true levels = one_more_at_most levels
enclosed_at_most false levels = omega arith

none_enclosed : (junction : Junction) (is_first : Bool) → encloses junction is_first None ≡ false
none_enclosed Junction.And is_first = refl
none_enclosed Junction.Or is_first = refl

module _ (steps : List Step) (most : ℕ) where
  -- no test has more levels
  abbrev mutual
    pub LeavesFit : ConditionTree → Type 0
    LeavesFit (test_condition step negated) = test_levels negated (slice_get steps step) ≤ most
    LeavesFit true_condition = Unit {0}
    LeavesFit false_condition = Unit {0}
    LeavesFit (joined_condition junction parts) = RowFits parts

    pub RowFits : Conditions → Type 0
    RowFits no_conditions = Unit {0}
    RowFits (and_condition first rest) = LeavesFit first × RowFits rest

  part_fits : (junction : Junction) (is_first : Bool) (condition : ConditionTree) (levels : ℕ) → levels ≤ most + (2 * joins condition - 1) → part_levels junction is_first condition levels ≤ most + 2 * joins condition
  part_fits junction is_first (test_condition step negated) levels fits = let none = none_enclosed junction is_first in rw none (omega (arith, fits))
  part_fits junction is_first true_condition levels fits = let none = none_enclosed junction is_first in rw none (omega (arith, fits))
  part_fits junction is_first false_condition levels fits = let none = none_enclosed junction is_first in rw none (omega (arith, fits))
  part_fits junction is_first (joined_condition within parts) levels fits =
      omega (arith, fits, row_is_joined parts, enclosed_at_most (is_enclosed junction is_first (joined_condition within parts)) levels)

  mutual
    pub levels_fit : (condition : ConditionTree) → 1 ≤ most → LeavesFit condition → condition_levels steps condition ≤ most + (2 * joins condition - 1)
    levels_fit (test_condition step negated) some fits = omega (arith, fits)
    levels_fit true_condition some fits = omega (arith, some)
    levels_fit false_condition some fits = omega (arith, some)
    levels_fit (joined_condition junction parts) some fits = row_fits parts junction some fits

    row_fits : (parts : Conditions) (junction : Junction) → 1 ≤ most → RowFits parts → first_levels steps junction parts ≤ most + (2 * row_joins parts - 1)
    row_fits no_conditions junction some fits = omega arith
    row_fits (and_condition first no_conditions) junction some fits =
        omega (arith, part_fits junction true first (condition_levels steps first) (levels_fit first some fits.0))
    row_fits (and_condition first (and_condition next rest)) junction some fits =
        omega (
          arith,
          behind_fits (and_condition next rest) junction (most + 2 * joins first) (part_levels junction true first (condition_levels steps first)) some fits.1 (omega arith)
              (part_fits junction true first (condition_levels steps first) (levels_fit first some fits.0)),
        )

    behind_fits : (parts : Conditions) (junction : Junction) (base before : ℕ) → 1 ≤ most → RowFits parts → most ≤ base → before ≤ base → levels_behind steps junction parts before ≤ base + (2 * joins_behind parts - 1)
    behind_fits no_conditions junction base before some fits high low = omega (arith, low)
    behind_fits (and_condition next rest) junction base before some fits high low =
        let part = part_fits junction false next (condition_levels steps next) (levels_fit next some fits.0) in
        let more = one_more_at_most (max (part_levels junction false next (condition_levels steps next)) before) in
        omega (arith, behind_fits rest junction (base + 2 * joins next + 1) (one_more (max (part_levels junction false next (condition_levels steps next)) before)) some fits.1 (omega (arith, high)) (omega (arith, part, more, high, low)))

-- ---- the levels of tests

abbrev KindFits : (most levels : ℕ) → StepKind → Type 0
KindFits most levels (StepKind.Test when target negated) = (levels ≤ most) × (negated ≤ most)
KindFits most levels kind = Unit {0}

-- a test has so many levels at most, negated or not
abbrev pub StepFits : (most : ℕ) → Option Step → Type 0
StepFits most None = Unit {0}
StepFits most (Some step) = KindFits most step.levels step.kind

kind_fits_more : (few most levels : ℕ) (kind : StepKind) → few ≤ most → KindFits few levels kind → KindFits most levels kind
kind_fits_more few most levels StepKind.Act more fits = tt
kind_fits_more few most levels StepKind.Return more fits = tt
kind_fits_more few most levels (StepKind.Declaration end captured) more fits = tt
kind_fits_more few most levels (StepKind.Test when target negated) more fits = (omega (arith, more, fits.0), omega (arith, more, fits.1))
kind_fits_more few most levels (StepKind.Jump target) more fits = tt
kind_fits_more few most levels (StepKind.Close from declared) more fits = tt
kind_fits_more few most levels (StepKind.Head numeric foot end variables_end captured) more fits = tt
kind_fits_more few most levels (StepKind.Foot numeric head) more fits = tt

step_fits_more : (few most : ℕ) (found : Option Step) → few ≤ most → StepFits few found → StepFits most found
step_fits_more few most None more fits = tt
step_fits_more few most (Some step) more fits = kind_fits_more few most step.levels step.kind more fits

plain_fits : (levels : ℕ) (kind : StepKind) → IsLevelled levels kind → KindFits (levels + 2) levels kind
plain_fits levels StepKind.Act levelled = tt
plain_fits levels StepKind.Return levelled = tt
plain_fits levels (StepKind.Declaration end captured) levelled = tt
plain_fits levels (StepKind.Test when target negated) levelled = (omega arith, levelled.2)
plain_fits levels (StepKind.Jump target) levelled = tt
plain_fits levels (StepKind.Close from declared) levelled = tt
plain_fits levels (StepKind.Head numeric foot end variables_end captured) levelled = tt
plain_fits levels (StepKind.Foot numeric head) levelled = tt

negated_fits : (levels : ℕ) (kind : StepKind) → IsLevelled levels kind → KindFits (negated_levels kind levels + 2) levels kind
negated_fits levels StepKind.Act levelled = tt
negated_fits levels StepKind.Return levelled = tt
negated_fits levels (StepKind.Declaration end captured) levelled = tt
negated_fits levels (StepKind.Test when target negated) levelled = (omega (arith, levelled.1), omega arith)
negated_fits levels (StepKind.Jump target) levelled = tt
negated_fits levels (StepKind.Close from declared) levelled = tt
negated_fits levels (StepKind.Head numeric foot end variables_end captured) levelled = tt
negated_fits levels (StepKind.Foot numeric head) levelled = tt

-- a test that is written so has at most two levels more where it is written otherwise
written_fits : (found : Option Step) (negated : Bool) → ((step : Step) → found ≡ Some step → IsLevelled step.levels step.kind) → StepFits (test_levels negated found + 2) found
written_fits None negated levelled = tt
written_fits (Some step) false levelled = plain_fits step.levels step.kind (levelled step refl)
written_fits (Some step) true levelled = negated_fits step.levels step.kind (levelled step refl)

kind_levels : (most levels : ℕ) (kind : StepKind) (negated sense : Bool) (target : ℕ) → TestGoes negated sense target (Some kind) → KindFits most levels kind → (levels ≤ most) × (negated_levels kind levels ≤ most)
kind_levels most levels StepKind.Act negated sense target goes fits = absurd goes
kind_levels most levels StepKind.Return negated sense target goes fits = absurd goes
kind_levels most levels (StepKind.Declaration end captured) negated sense target goes fits = absurd goes
kind_levels most levels (StepKind.Test when to other) negated sense target goes fits = fits
kind_levels most levels (StepKind.Jump to) negated sense target goes fits = absurd goes
kind_levels most levels (StepKind.Close from declared) negated sense target goes fits = absurd goes
kind_levels most levels (StepKind.Head numeric foot end variables_end captured) negated sense target goes fits = absurd goes
kind_levels most levels (StepKind.Foot numeric head) negated sense target goes fits = absurd goes

test_fits : (most : ℕ) (found : Option Step) (negated written sense : Bool) (target : ℕ) → TestGoes negated sense target (option_map (λ (step : Step). step.kind) found) → StepFits most found → test_levels written found ≤ most
test_fits most None negated written sense target goes fits = absurd goes
test_fits most (Some step) negated false sense target goes fits = (kind_levels most step.levels step.kind negated sense target goes fits).0
test_fits most (Some step) negated true sense target goes fits = (kind_levels most step.levels step.kind negated sense target goes fits).1

-- where the tests between two places fit, so does what lies there
module _ (steps : List Step) (most low high : ℕ) (fit : (place : ℕ) → low ≤ place → place < high → StepFits most (slice_get steps place)) where
  mutual
    pub leaves_fit : (condition : ConditionTree) (sense : Bool) (target from to : ℕ) → ConditionLies steps condition sense target from to → low ≤ from → to ≤ high → LeavesFit steps most condition
    leaves_fit (test_condition step negated) sense target from to (here, one, goes) begins ends =
        subst (λ n. test_levels negated (slice_get steps n) ≤ most) (sym here) (test_fits most (slice_get steps from) negated negated sense target goes (fit from begins (omega (arith, one, ends))))
    leaves_fit true_condition sense target from to lies begins ends = tt
    leaves_fit false_condition sense target from to lies begins ends = tt
    leaves_fit (joined_condition junction parts) sense target from to lies begins ends = parts_fit parts junction (decided_to junction sense to target) sense target from to lies begins ends

    parts_fit : (parts : Conditions) (junction : Junction) (early : ℕ) (sense : Bool) (target from to : ℕ) → PartsLie steps junction early parts sense target from to → low ≤ from → to ≤ high → RowFits steps most parts
    parts_fit no_conditions junction early sense target from to lies begins ends = absurd lies
    parts_fit (and_condition last no_conditions) junction early sense target from to lies begins ends = (leaves_fit last sense target from to lies begins ends, tt)
    parts_fit (and_condition first (and_condition next rest)) junction early sense target from to (mid, above, below, lies, others) begins ends =
        (leaves_fit first (decides junction) early from mid lies begins (omega (arith, below, ends)), parts_fit (and_condition next rest) junction early sense target mid to others (omega (arith, begins, above)) ends)

-- ---- the levels of logic

module _ (steps : List Step) (levelled : AreLevelled steps) where
  literal_fits : (jumps : Bool) (most from to target place : ℕ) → LiteralLies steps jumps from to target → from ≤ place → place < to → StepFits most (slice_get steps place)
  literal_fits true most from to target place lies low high =
      let here : from ≡ place = omega (arith, lies.1, low, high) in
      subst (λ n. StepFits most (slice_get steps n)) here (by (slice_get steps from) lies.0)
    where
      jump_fits : (levels : ℕ) (kind : StepKind) → Some kind ≡ Some (StepKind.Jump target) → KindFits most levels kind
      jump_fits levels kind is = subst (KindFits most levels) (sym (same_Some kind (StepKind.Jump target) is)) tt

      by : (found : Option Step) → option_map (λ (step : Step). step.kind) found ≡ Some (StepKind.Jump target) → StepFits most found
      by None is = tt
      by (Some step) is = jump_fits step.levels step.kind is
  literal_fits false most from to target place lies low high = absurd (omega (arith, lies, low, high))

  either_fits : (few many most mid place : ℕ) → few ≤ most → many ≤ most → (place < mid → StepFits few (slice_get steps place)) → (mid ≤ place → StepFits many (slice_get steps place)) → StepFits most (slice_get steps place)
  either_fits few many most mid place less more first second =
      ⊎_elim (λ h. step_fits_more many most (slice_get steps place) more (second h.1)) (λ h. step_fits_more few most (slice_get steps place) less (first h.1)) (leb_tells mid place)

  -- each test has at most two levels more than the logic that it stands in
  tests_fit : (logic : Logic) (sense : Bool) (target from to : ℕ) → LogicLies steps logic sense target from to → (place : ℕ) → from ≤ place → place < to → StepFits (logic_levels steps logic + 2) (slice_get steps place)
  tests_fit (test_logic step negated) sense target from to (same, one, goes) place low high =
      let here : step ≡ place = omega (arith, same, one, low, high) in
      subst (λ n. StepFits (test_levels negated (slice_get steps step) + 2) (slice_get steps n)) here (written_fits (slice_get steps step) negated (levelled step))
  tests_fit (literal_logic truth) sense target from to lies place low high = literal_fits (beq truth sense) 3 from to target place lies low high
  tests_fit (not_logic inner) sense target from to lies place low high =
      step_fits_more (logic_levels steps inner + 2) (suc (logic_levels steps inner) + 2) (slice_get steps place) (omega arith) (tests_fit inner (not sense) target from to lies place low high)
  tests_fit (and_logic left right) sense target from to (mid, begins, ends, lies, rest) place low high =
      either_fits (logic_levels steps left + 2) (logic_levels steps right + 2) (suc (max (logic_levels steps left) (logic_levels steps right)) + 2) mid place (omega arith) (omega arith)
      (tests_fit left false (if sense then to else target) from mid lies place low) (λ behind. tests_fit right sense target mid to rest place behind high)
  tests_fit (or_logic left right) sense target from to (mid, begins, ends, lies, rest) place low high =
      either_fits (logic_levels steps left + 2) (logic_levels steps right + 2) (suc (max (logic_levels steps left) (logic_levels steps right)) + 2) mid place (omega arith) (omega arith)
      (tests_fit left true (if sense then target else to) from mid lies place low) (λ behind. tests_fit right sense target mid to rest place behind high)

  -- and at most one more under an operator
  pub operands_fit : (logic : Logic) (sense : Bool) (target from to : ℕ) → LogicLies steps logic sense target from to → 1 ≤ operators logic → (place : ℕ) → from ≤ place → place < to
      → StepFits (logic_levels steps logic + 1) (slice_get steps place)
  operands_fit (test_logic step negated) sense target from to lies some place low high = absurd (omega (arith, some))
  operands_fit (literal_logic truth) sense target from to lies some place low high = absurd (omega (arith, some))
  operands_fit (not_logic inner) sense target from to lies some place low high =
      step_fits_more (logic_levels steps inner + 2) (suc (logic_levels steps inner) + 1) (slice_get steps place) (omega arith) (tests_fit inner (not sense) target from to lies place low high)
  operands_fit (and_logic left right) sense target from to (mid, begins, ends, lies, rest) some place low high =
      either_fits (logic_levels steps left + 2) (logic_levels steps right + 2) (suc (max (logic_levels steps left) (logic_levels steps right)) + 1) mid place (omega arith) (omega arith)
      (tests_fit left false (if sense then to else target) from mid lies place low) (λ behind. tests_fit right sense target mid to rest place behind high)
  operands_fit (or_logic left right) sense target from to (mid, begins, ends, lies, rest) some place low high =
      either_fits (logic_levels steps left + 2) (logic_levels steps right + 2) (suc (max (logic_levels steps left) (logic_levels steps right)) + 1) mid place (omega arith) (omega arith)
      (tests_fit left true (if sense then target else to) from mid lies place low) (λ behind. tests_fit right sense target mid to rest place behind high)

-- ---- logic without operators

abbrev pub links : Logic → ℕ
links (test_logic step negated) = 0
links (literal_logic truth) = 0
links (not_logic inner) = links inner
links (and_logic left right) = suc (links left + links right)
links (or_logic left right) = suc (links left + links right)

pub links_are_operators : (logic : Logic) → links logic ≤ operators logic
links_are_operators (test_logic step negated) = omega arith
links_are_operators (literal_logic truth) = omega arith
links_are_operators (not_logic inner) = omega (arith, links_are_operators inner)
links_are_operators (and_logic left right) = omega (arith, links_are_operators left, links_are_operators right)
links_are_operators (or_logic left right) = omega (arith, links_are_operators left, links_are_operators right)

-- a test is written in one way
one_writing : (found : Option StepKind) (first second sense : Bool) (target other : ℕ) → TestGoes first sense target found → TestGoes second sense other found → first ≡ second
one_writing None first second sense target other goes also = absurd goes
one_writing (Some StepKind.Act) first second sense target other goes also = absurd goes
one_writing (Some StepKind.Return) first second sense target other goes also = absurd goes
one_writing (Some (StepKind.Declaration end captured)) first second sense target other goes also = absurd goes
one_writing (Some (StepKind.Test when to levels)) first second sense target other goes also = goes.1 ∙ sym also.1
one_writing (Some (StepKind.Jump to)) first second sense target other goes also = absurd goes
one_writing (Some (StepKind.Close from declared)) first second sense target other goes also = absurd goes
one_writing (Some (StepKind.Head numeric foot end variables_end captured)) first second sense target other goes also = absurd goes
one_writing (Some (StepKind.Foot numeric head)) first second sense target other goes also = absurd goes

no_literal_test : (steps : List Step) (jumps negated sense : Bool) (from to target other : ℕ) → LiteralLies steps jumps from to target → to ≡ suc from → TestGoes negated sense other (kind_at steps from) → ⊥
no_literal_test steps true negated sense from to target other lies one goes = subst (TestGoes negated sense other) lies.0 goes
no_literal_test steps false negated sense from to target other lies one goes = omega (arith, lies, one)

-- where logic of no operator lies, a condition that joins nothing has no more levels
pub alone_fits : (steps : List Step) (logic : Logic) (condition : ConditionTree) (target from to : ℕ) → LogicLies steps logic false target from to → ConditionLies steps condition false target from to
    → operators logic ≡ 0 → joins condition ≡ 0 → condition_levels steps condition ≤ logic_levels steps logic
alone_fits steps (test_logic step negated) (test_condition place other) target from to (same, one, goes) (here, next, also) none single =
    let writing = one_writing (kind_at steps from) other negated false target target also goes in
    let alike : test_levels other (slice_get steps place) ≡ test_levels negated (slice_get steps step) = ap (λ b. test_levels b (slice_get steps place)) writing ∙ ap (λ n. test_levels negated (slice_get steps n)) (here ∙ sym same) in
    omega (arith, alike)
alone_fits steps (test_logic step negated) true_condition target from to (same, one, goes) lies none single = absurd (no_literal_test steps false negated false from to target target lies one goes)
alone_fits steps (test_logic step negated) false_condition target from to (same, one, goes) lies none single = absurd (no_literal_test steps true negated false from to target target lies one goes)
alone_fits steps (literal_logic truth) (test_condition place other) target from to lies (here, next, also) none single = absurd (no_literal_test steps (beq truth false) other false from to target target lies next also)
alone_fits steps (literal_logic truth) true_condition target from to lies also none single = omega arith
alone_fits steps (literal_logic truth) false_condition target from to lies also none single = omega arith
alone_fits steps (test_logic step negated) (joined_condition junction parts) target from to lies also none single = absurd (omega (arith, single, row_is_joined parts))
alone_fits steps (literal_logic truth) (joined_condition junction parts) target from to lies also none single = absurd (omega (arith, single, row_is_joined parts))
alone_fits steps (not_logic inner) condition target from to lies also none single = absurd (omega (arith, none))
alone_fits steps (and_logic left right) condition target from to lies also none single = absurd (omega (arith, none))
alone_fits steps (or_logic left right) condition target from to lies also none single = absurd (omega (arith, none))
