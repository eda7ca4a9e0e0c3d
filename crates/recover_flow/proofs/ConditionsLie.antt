-- A condition that is found between two places lies between them: its steps go to the target where it is false, and else come to the end.
use Rattle.std.proofs.Common.{◌≡◌, refl, sym, ap, subst, subst₂, ◌∙◌, ℕ, zero, suc, max, ◌+◌, ◌-◌, ◌<◌, ◌≤◌, Bool, true, false, not, ◌&&◌, ◌||◌, ◌==◌, nat_le, nat_lt, List, [], ◌∷◌, length, take, drop, slice_get, Option, None, Some, option_map, if◌then◌else◌, arith, length-drop, length-take-le}
use Rattle.std.proofs.lemmas.Bool.{and_parts}
use Rattle.std.proofs.lemmas.Bool.Decides.{nat_tests}
use Rattle.std.proofs.lemmas.Option.{none-some, same_Some, option_and_then_some}
use Rattle.std.specs.Bool.{beq}
use Rattle.std.specs.Prelude.{option_and_then}
use Rattle.recover_expr.specs.declared.steps.Step.{Step}
use Rattle.recover_expr.specs.declared.steps.StepKind.{StepKind}
use Rattle.recover_flow.specs.Asked.{kind_at, target_at, target_of}
use Rattle.recover_flow.specs.Conditions.{ConditionTree, test_condition, true_condition, false_condition, joined_condition, Conditions, no_conditions, and_condition, literal_of, parts_in, and_last_condition, joined_with, idle_of, turned_to, junction_to, empty_part, part_with, before_parts, parts_from, condition_parts, leaf_of, unit_to, unit_of, Finds, part_goal, part_before, joined_parts, only_part, of_parts, of_stretch, condition_within}
use Rattle.recover_flow.specs.Lying.{ConditionLies, PartsLie, TestGoes, decides, decided_to}
use Rattle.recover_flow.specs.declared.conditions.Goal.{Goal}
use Rattle.recover_flow.specs.declared.conditions.Junction.{Junction}
use Rattle.recover_flow.specs.declared.conditions.Part.{Part}
use Rattle.recover_flow.proofs.LyingParts.{ConditionsLie}

-- ---- choices

-- what follows from what one of two choices gives
if_some : {X P : Type 0} (b : Bool) (first second : Option X) (x : X) → (if b then first else second) ≡ Some x → (b ≡ true → first ≡ Some x → P) → (b ≡ false → second ≡ Some x → P) → P
if_some true first second x is passes fails = passes refl is
if_some false first second x is passes fails = fails refl is

map_some : {X Y P : Type 0} (f : X → Y) (o : Option X) (y : Y) → option_map f o ≡ Some y → ((x : X) → o ≡ Some x → f x ≡ y → P) → P
map_some f None y is follows = absurd (none-some y is)
map_some f (Some x) y is follows = follows x refl (same_Some (f x) y is)

-- ---- joined conditions

module _ (steps : List Step) where
  -- a part before others
  parts_before : (junction : Junction) (early : ℕ) (first : ConditionTree) (rest : Conditions) (sense : Bool) (target from mid to : ℕ) → from ≤ mid → mid ≤ to
      → ConditionLies steps first (decides junction) early from mid → PartsLie steps junction early rest sense target mid to → PartsLie steps junction early (and_condition first rest) sense target from to
  parts_before junction early first no_conditions sense target from mid to low high lies rest_lies = absurd rest_lies
  parts_before junction early first (and_condition next rest) sense target from mid to low high lies rest_lies = (mid, low, high, lies, rest_lies)

  -- a part behind others, which decide the whole
  part_behind : (junction : Junction) (early : ℕ) (parts : Conditions) (last : ConditionTree) (sense : Bool) (target from mid to : ℕ) → from ≤ mid → mid ≤ to
      → PartsLie steps junction early parts (decides junction) early from mid → ConditionLies steps last sense target mid to → PartsLie steps junction early (and_last_condition parts last) sense target from to
  part_behind junction early no_conditions last sense target from mid to low high lies last_lies = absurd lies
  part_behind junction early (and_condition first no_conditions) last sense target from mid to low high lies last_lies = (mid, low, high, lies, last_lies)
  part_behind junction early (and_condition first (and_condition next rest)) last sense target from mid to low high lies last_lies =
      (lies.0, lies.1, omega (arith, lies.2, high), lies.3, part_behind junction early (and_condition next rest) last sense target lies.0 mid to lies.2 high lies.4 last_lies)

  -- a condition lies as its parts do
  parts_lie : (junction : Junction) (whole : ConditionTree) (sense : Bool) (target from to : ℕ) → ConditionLies steps whole sense target from to
      → PartsLie steps junction (decided_to junction sense to target) (parts_in junction whole) sense target from to
  parts_lie Junction.And (test_condition step negated) sense target from to lies = lies
  parts_lie Junction.And true_condition sense target from to lies = lies
  parts_lie Junction.And false_condition sense target from to lies = lies
  parts_lie Junction.And (joined_condition Junction.And parts) sense target from to lies = lies
  parts_lie Junction.And (joined_condition Junction.Or parts) sense target from to lies = lies
  parts_lie Junction.Or (test_condition step negated) sense target from to lies = lies
  parts_lie Junction.Or true_condition sense target from to lies = lies
  parts_lie Junction.Or false_condition sense target from to lies = lies
  parts_lie Junction.Or (joined_condition Junction.And parts) sense target from to lies = lies
  parts_lie Junction.Or (joined_condition Junction.Or parts) sense target from to lies = lies

  -- one that goes to its end with the other truth has the steps of one that goes nowhere
  idle_lies : (inner : ConditionTree) (sense : Bool) (target from to : ℕ) → from ≤ to → ConditionLies steps inner (not sense) to from to → ConditionLies steps (idle_of inner sense) sense target from to
  idle_lies inner true target from to low lies = part_behind Junction.And to (parts_in Junction.And inner) false_condition true target from to to low (omega arith) (parts_lie Junction.And inner false to from to lies) refl
  idle_lies inner false target from to low lies = part_behind Junction.Or to (parts_in Junction.Or inner) true_condition false target from to to low (omega arith) (parts_lie Junction.Or inner true to from to lies) refl

  -- where a part goes
  abbrev goal_of : (sense : Bool) → (target to : ℕ) → (end : Bool) → Goal
  goal_of sense target to end = if end then turned_to (record { sense = sense; target = target }) to else record { sense = sense; target = target }

  -- a part that goes to the target, or to the end with the other truth, before the rest of the condition
  joined_lies : (first rest : ConditionTree) (sense end : Bool) (target from mid to : ℕ) → from ≤ mid → mid ≤ to → ConditionLies steps first (goal_of sense target to end).sense (goal_of sense target to end).target from mid
      → ConditionLies steps rest sense target mid to → ConditionLies steps (joined_with (junction_to (goal_of sense target to end)) first rest) sense target from to
  joined_lies first rest true true target from mid to low high lies rest_lies = parts_before Junction.And to first (parts_in Junction.And rest) true target from mid to low high lies (parts_lie Junction.And rest true target mid to rest_lies)
  joined_lies first rest true false target from mid to low high lies rest_lies = parts_before Junction.Or target first (parts_in Junction.Or rest) true target from mid to low high lies (parts_lie Junction.Or rest true target mid to rest_lies)
  joined_lies first rest false true target from mid to low high lies rest_lies = parts_before Junction.Or to first (parts_in Junction.Or rest) false target from mid to low high lies (parts_lie Junction.Or rest false target mid to rest_lies)
  joined_lies first rest false false target from mid to low high lies rest_lies = parts_before Junction.And target first (parts_in Junction.And rest) false target from mid to low high lies (parts_lie Junction.And rest false target mid to rest_lies)

  -- ---- one step

  -- a step that goes to its target
  leaf_lies : (kind : StepKind) (place to target : ℕ) (sense : Bool) → kind_at steps place ≡ Some kind → target_of kind ≡ Some target → to ≡ suc place → ConditionLies steps (leaf_of kind place sense) sense target place to
  leaf_lies StepKind.Act place to target sense there goes one = absurd (none-some target goes)
  leaf_lies StepKind.Return place to target sense there goes one = absurd (none-some target goes)
  leaf_lies (StepKind.Declaration end captured) place to target sense there goes one = absurd (none-some target goes)
  leaf_lies (StepKind.Close from declared) place to target sense there goes one = absurd (none-some target goes)
  leaf_lies (StepKind.Head numeric foot end variables_end captured) place to target sense there goes one = absurd (none-some target goes)
  leaf_lies (StepKind.Foot numeric head) place to target sense there goes one = absurd (none-some target goes)
  leaf_lies (StepKind.Jump other) place to target true there goes one = (there ∙ ap (λ n. Some (StepKind.Jump n)) (same_Some other target goes), one)
  leaf_lies (StepKind.Jump other) place to target false there goes one = (there ∙ ap (λ n. Some (StepKind.Jump n)) (same_Some other target goes), one)
  leaf_lies (StepKind.Test when other levels) place to target sense there goes one =
      (refl, one, subst (TestGoes (if when then not sense else sense) sense target) (sym there) (same_Some other target goes, truth when sense))
    where
      truth : (when sense : Bool) → (if when then not sense else sense) ≡ not (beq when sense)
      truth true true = refl
      truth true false = refl
      truth false true = refl
      truth false false = refl

  unit_lies : (kind : StepKind) (place to target : ℕ) (goal : Goal) (condition : ConditionTree) → kind_at steps place ≡ Some kind → target_of kind ≡ Some target → to ≡ suc place
      → unit_to kind place to goal target ≡ Some condition → ConditionLies steps condition goal.sense goal.target place to
  unit_lies kind place to target goal condition there goes one is =
      if_some (target == goal.target) _ _ condition is
      (λ same found.
      let there_goes : target ≡ goal.target = grind (arith, nat_tests) in
      subst (λ c. ConditionLies steps c goal.sense goal.target place to) (same_Some (leaf_of kind place goal.sense) condition found) (leaf_lies kind place to goal.target goal.sense there (goes ∙ ap Some there_goes) one))
      (λ other left.
      if_some (target == to) _ _ condition left
      (λ ends found.
      let end_goes : target ≡ to = grind (arith, nat_tests) in
      subst (λ c. ConditionLies steps c goal.sense goal.target place to) (same_Some (idle_of (leaf_of kind place (not goal.sense)) goal.sense) condition found)
      (idle_lies (leaf_of kind place (not goal.sense)) goal.sense goal.target place to (omega (arith, one)) (leaf_lies kind place to to (not goal.sense) there (goes ∙ ap Some end_goes) one)))
      (λ past none. absurd (none-some condition none)))

  step_lies : (step : Step) (place to : ℕ) (goal : Goal) (condition : ConditionTree) → slice_get steps place ≡ Some step → to ≡ suc place → unit_of step place to goal ≡ Some condition → ConditionLies steps condition goal.sense goal.target place to
  step_lies step place to goal condition there one is =
      option_and_then_some (unit_to step.kind place to goal) (target_of step.kind) condition is
      (λ target goes found. unit_lies step.kind place to target goal condition (ap (option_map (λ (s : Step). s.kind)) there) goes one found)

-- ---- the parts of a condition

-- each part begins where the one before it ends
abbrev FollowParts : List Part → (from to : ℕ) → Type 0
FollowParts [] from to = to ≡ from
FollowParts (part ∷ rest) from to = (part.from ≡ from) × (from ≤ part.to) × (part.to ≤ to) × FollowParts rest part.to to

-- a part with one more step begins where it began, and does not go past the end
part_grows : (target end place goes : ℕ) (part longer : Part) → part.to ≤ end → part_with target end place part goes ≡ Some longer → (longer.from ≡ part.from) × (longer.to ≤ end)
part_grows target end place goes part longer fits is =
    if_some (goes == target) _ _ longer is
    (λ there found. let same = same_Some _ longer found in (ap (λ (p : Part). p.from) (sym same), subst (λ (p : Part). p.to ≤ end) same fits))
    (λ elsewhere left.
    if_some (goes == end) _ _ longer left
    (λ ends found. let same = same_Some _ longer found in (ap (λ (p : Part). p.from) (sym same), subst (λ (p : Part). p.to ≤ end) same fits))
    (λ past rest.
    if_some (nat_lt place goes && nat_lt goes end) _ _ longer rest
    (λ inside found.
    let same = same_Some _ longer found in
    let before = (and_parts (nat_lt place goes) (nat_lt goes end) inside).1 in
    let below : goes < end = grind (arith, nat_tests) in
    let within : max part.to goes ≤ end = omega arith in
    (ap (λ (p : Part). p.from) (sym same), subst (λ (p : Part). p.to ≤ end) same within))
    (λ outside none. absurd (none-some longer none))))

-- behind a step a part ends, or goes on
behind_follow : (others : Part → Option (List Part)) (behind end : ℕ) (part : Part) (parts : List Part) → behind ≤ end → part.from ≤ behind → part.to ≤ end
    → ((next : Part) (rest : List Part) → others next ≡ Some rest → next.from ≤ behind → next.to ≤ end → (behind ≡ end → next.from ≡ end) → FollowParts rest next.from end)
    → before_parts others behind part ≡ Some parts → FollowParts parts part.from end
behind_follow others behind end part parts within low fits follow is =
    if_some (nat_le part.to behind) _ _ parts is
    (λ over found.
    map_some (λ rest. record part { to = behind } ∷ rest) (others (empty_part behind)) parts found
    (λ rest rest_found same. subst (λ ps. FollowParts ps part.from end) same (refl, low, within, follow (empty_part behind) rest rest_found (omega arith) within (λ last. last))))
    (λ on left.
    let above : behind < part.to = grind (arith, nat_tests) in
    follow part parts left low fits (λ last. absurd (omega (arith, last, above, fits))))

parts_follow : (steps : List Step) (target end count place : ℕ) (part : Part) (parts : List Part) → place + count ≡ end → part.from ≤ place → part.to ≤ end → (place ≡ end → part.from ≡ end)
    → parts_from steps target end count place part ≡ Some parts → FollowParts parts part.from end
parts_follow steps target end zero place part parts all low fits over is = subst (λ ps. FollowParts ps part.from end) (same_Some [] parts is) (sym (over (omega (arith, all))))
parts_follow steps target end (suc count) place part parts all low fits over is =
    option_and_then_some (before_parts (parts_from steps target end count (place + 1)) (place + 1)) (option_and_then (part_with target end place part) (target_at steps place)) parts is
    (λ longer found rest.
    option_and_then_some (part_with target end place part) (target_at steps place) longer found
    (λ goes there with_goes.
    let grows = part_grows target end place goes part longer fits with_goes in
    subst (λ n. FollowParts parts n end) grows.0
    (behind_follow (parts_from steps target end count (place + 1)) (place + 1) end longer parts (omega (arith, all)) (omega (arith, grows.0, low)) grows.1
    (λ next others is_next next_low next_fits last. parts_follow steps target end count (place + 1) next others (omega (arith, all)) next_low next_fits last is_next)
    rest)))

condition_parts_follow : (steps : List Step) (from to target : ℕ) (parts : List Part) → from < to → condition_parts steps from to target ≡ Some parts → FollowParts parts from to
condition_parts_follow steps from to target parts some is = parts_follow steps target to (to - from) from (empty_part from) parts (omega (arith, some)) (omega arith) (omega (arith, some)) (λ none. absurd (omega (arith, some, none))) is

-- ---- several steps

-- what is found between two places lies there
abbrev FindsLying : List Step → Finds → Type 0
FindsLying steps finds = (from to : ℕ) (goal : Goal) (condition : ConditionTree) → finds from to goal ≡ Some condition → (from ≤ to) × (to ≤ length steps) × ConditionLies steps condition goal.sense goal.target from to

module _ (steps : List Step) (finds : Finds) (lie : FindsLying steps finds) (to : ℕ) (goal : Goal) where
  before_lies : (part : Part) (rest whole : ConditionTree) → part.to ≤ to → part_before finds to goal part rest ≡ Some whole → ConditionLies steps rest goal.sense goal.target part.to to → ConditionLies steps whole goal.sense goal.target part.from to
  before_lies part rest whole high is rest_lies =
      if_some (part.there && part.end) _ _ whole is
      (λ both none. absurd (none-some whole none))
      (λ one left.
      map_some (λ first. joined_with (junction_to (part_goal to goal part)) first rest) (finds part.from part.to (part_goal to goal part)) whole left
      (λ first found same.
      let lies = lie part.from part.to (part_goal to goal part) first found in
      subst (λ c. ConditionLies steps c goal.sense goal.target part.from to) same (joined_lies steps first rest goal.sense part.end goal.target part.from part.to to lies.0 high lies.2 rest_lies)))

  joined_parts_lie : (parts : List Part) (from : ℕ) (whole : ConditionTree) → FollowParts parts from to → joined_parts finds to goal parts ≡ Some whole → ConditionLies steps whole goal.sense goal.target from to
  joined_parts_lie [] from whole follow is = absurd (none-some whole is)
  joined_parts_lie (last ∷ []) from whole follow is =
      subst₂ (λ n m. ConditionLies steps whole goal.sense goal.target n m) follow.0 (sym follow.3) (lie last.from last.to goal whole is).2
  joined_parts_lie (part ∷ next ∷ parts) from whole follow is =
      option_and_then_some (part_before finds to goal part) (joined_parts finds to goal (next ∷ parts)) whole is
      (λ rest found before.
      let rest_lies = joined_parts_lie (next ∷ parts) part.to rest follow.3 found in
      subst (λ n. ConditionLies steps whole goal.sense goal.target n to) follow.0 (before_lies part rest whole follow.2 before rest_lies))

  only_lies : (from : ℕ) (part : Part) (whole : ConditionTree) → only_part finds from to goal part ≡ Some whole → ConditionLies steps whole goal.sense goal.target from to
  only_lies from part whole is =
      if_some (part.there || (goal.target == to)) _ _ whole is
      (λ goes none. absurd (none-some whole none))
      (λ stays left.
      map_some (λ inner. idle_of inner goal.sense) (finds from to (turned_to goal to)) whole left
      (λ inner found same.
      let lies = lie from to (turned_to goal to) inner found in
      subst (λ c. ConditionLies steps c goal.sense goal.target from to) same (idle_lies steps inner goal.sense goal.target from to lies.0 lies.2)))

  of_parts_lie : (parts : List Part) (from : ℕ) (whole : ConditionTree) → FollowParts parts from to → of_parts finds from to goal parts ≡ Some whole → ConditionLies steps whole goal.sense goal.target from to
  of_parts_lie [] from whole follow is = absurd (none-some whole is)
  of_parts_lie (only ∷ []) from whole follow is = only_lies from only whole is
  of_parts_lie (part ∷ next ∷ parts) from whole follow is = joined_parts_lie (part ∷ next ∷ parts) from whole follow is

-- ---- a stretch

first_of_drop : (steps : List Step) (from : ℕ) → slice_get (drop from steps) 0 ≡ slice_get steps from
first_of_drop [] zero = refl
first_of_drop [] (suc from) = refl
first_of_drop (step ∷ steps) zero = refl
first_of_drop (step ∷ steps) (suc from) = first_of_drop steps from

first_of_take : (steps : List Step) (count : ℕ) (step : Step) → slice_get (take count steps) 0 ≡ Some step → slice_get steps 0 ≡ Some step
first_of_take [] zero step is = is
first_of_take [] (suc count) step is = is
first_of_take (first ∷ steps) zero step is = absurd (none-some step is)
first_of_take (first ∷ steps) (suc count) step is = is

pub first_of_stretch : (steps : List Step) (from count : ℕ) (step : Step) (rest : List Step) → take count (drop from steps) ≡ step ∷ rest → slice_get steps from ≡ Some step
first_of_stretch steps from count step rest is = sym (first_of_drop steps from) ∙ first_of_take (drop from steps) count step (ap (λ ss. slice_get ss 0) is)

pub stretch_length : (steps stretch : List Step) (from to : ℕ) → from ≤ to → to ≤ length steps → take (to - from) (drop from steps) ≡ stretch → length stretch ≡ to - from
stretch_length steps stretch from to low high is =
    let left : to - from ≤ length (drop from steps) = omega (arith, length-drop from steps, low, high) in
    sym (ap length is) ∙ length-take-le (to - from) (drop from steps) left

literal_lies : (steps : List Step) (sense : Bool) (target from to : ℕ) → to ≡ from → ConditionLies steps (literal_of (not sense)) sense target from to
literal_lies steps true target from to same = same
literal_lies steps false target from to same = same

stretch_lies : (steps : List Step) (finds : Finds) → FindsLying steps finds → (from to : ℕ) (goal : Goal) (condition : ConditionTree) (stretch : List Step) → from ≤ to → to ≤ length steps → take (to - from) (drop from steps) ≡ stretch
    → of_stretch finds steps from to goal stretch ≡ Some condition → ConditionLies steps condition goal.sense goal.target from to
stretch_lies steps finds lie from to goal condition [] low high are is =
    let none = stretch_length steps [] from to low high are in
    subst (λ c. ConditionLies steps c goal.sense goal.target from to) (same_Some (literal_of (not goal.sense)) condition is) (literal_lies steps goal.sense goal.target from to (omega (arith, none, low)))
stretch_lies steps finds lie from to goal condition (step ∷ []) low high are is =
    let one = stretch_length steps (step ∷ []) from to low high are in
    step_lies steps step from to goal condition (first_of_stretch steps from (to - from) step [] are) (omega (arith, one, low)) is
stretch_lies steps finds lie from to goal condition (step ∷ next ∷ rest) low high are is =
    let many = stretch_length steps (step ∷ next ∷ rest) from to low high are in
    option_and_then_some (of_parts finds from to goal) (condition_parts steps from to goal.target) condition is
    (λ parts found joined. of_parts_lie steps finds lie to goal parts from condition (condition_parts_follow steps from to goal.target parts (omega (arith, many)) found) joined)

-- what is found at any depth lies there
within_lies : (steps : List Step) (depth : ℕ) → FindsLying steps (condition_within steps depth)
within_lies steps zero from to goal condition is = absurd (none-some condition is)
within_lies steps (suc depth) from to goal condition is =
    if_some (nat_le from to && nat_le to (length steps)) _ _ condition is
    (λ inside found.
    let tests = and_parts (nat_le from to) (nat_le to (length steps)) inside in
    let low : from ≤ to = grind (arith, nat_tests, tests.0) in
    let high : to ≤ length steps = grind (arith, nat_tests, tests.1) in
    (low, high, stretch_lies steps (condition_within steps depth) (within_lies steps depth) from to goal condition (take (to - from) (drop from steps)) low high refl found))
    (λ outside none. absurd (none-some condition none))

pub conditions_lie : ConditionsLie
conditions_lie steps at condition is = within_lies steps 200 at.from at.to (record { sense = false; target = at.target }) condition is
