-- Captured locals that are declared in a body are its own, or end before it does; so a CLOSE at its end is wanted where one of them is captured.
use Rattle.std.proofs.Common.{◌≡◌, ◌∙◌, ◌≤◌, ◌<◌, ◌+◌, ◌⊎◌, inl, inr, ⊎_elim, refl, sym, ap, subst, ℕ, zero, suc, Bool, true, false, List, length, slice_get, Option, None, Some, arith}
use Rattle.std.specs.Prelude.{◌==◌, ◌&&◌, ◌||◌, not, nat_le, option_map}
use Rattle.std.proofs.Math.Bool.{or-true}
use Rattle.std.proofs.lemmas.Bool.{and_parts, false≢true}
use Rattle.std.proofs.lemmas.Bool.Decides.{leb_tells, nat_tests}
use Rattle.std.proofs.lemmas.Option.{none-some, same_Some, slice_get_within}
use Rattle.recover_expr.specs.declared.steps.Step.{Step}
use Rattle.recover_expr.specs.declared.steps.StepKind.{StepKind}
use Rattle.recover_flow.specs.Asked.{any_between, closes, closes_from, ends_captured, ends_there, kind_at}
use Rattle.recover_flow.specs.Conditions.{ConditionTree, test_condition, true_condition, false_condition, joined_condition, Conditions, no_conditions, and_condition}
use Rattle.recover_flow.specs.Forms.{variables_from}
use Rattle.recover_flow.specs.Lying.{AreOrdered, ArmsLie, BlockLies, BodyLies, ClosesFrom, ClosesTwice, ConditionLies, EndLies, EndsBehind, IsBlock, IsOwn, Jumps, LeavesTo, LiteralLies, PartsLie, PlanLies, StepLies, TestGoes, TestLies, VariablesEnd, captures_own, decided_to, decides, exit_to, is_captured_at}
use Rattle.recover_flow.specs.Plans.{Plans, no_plans, and_plan, PlanTree, step_plan, end_plan, do_plan, for_plan, while_plan, repeat_plan, if_plan, ArmPlans, no_arms, last_arm, and_arm}
use Rattle.recover_flow.specs.declared.conditions.Junction.{Junction}
use Rattle.recover_flow.specs.declared.plan.End.{End}
use Rattle.recover_flow.specs.declared.regions.Exit.{Exit}
use Rattle.recover_flow.proofs.FormsLie.{below_or_same, same_numbers, step_kind}
use Rattle.recover_flow.proofs.ExitsKept.{DoInside}

-- ---- where captured locals are declared

-- a captured local is declared at a place, and ends there
abbrev pub Declares : List Step → (place end : ℕ) → Type 0
Declares steps place end = kind_at steps place ≡ Some (StepKind.Declaration end true)

-- the first statement of a body declares some of the body's own
abbrev pub own_of : List Step → PlanTree → Bool
own_of steps (step_plan step) = is_captured_at (kind_at steps step)
own_of steps plan = false

pub own_first : (steps : List Step) (plan : PlanTree) (rest : Plans) → own_of steps plan ≡ true → captures_own steps (and_plan plan rest) ≡ true
own_first steps (step_plan step) rest own = ap (λ b. b || captures_own steps rest) own
own_first steps (end_plan end enclosed) rest own = absurd (false≢true own)
own_first steps (do_plan step body) rest own = absurd (false≢true own)
own_first steps (for_plan step numeric body) rest own = absurd (false≢true own)
own_first steps (while_plan condition body) rest own = absurd (false≢true own)
own_first steps (repeat_plan body condition) rest own = absurd (false≢true own)
own_first steps (if_plan arms) rest own = absurd (false≢true own)

pub own_rest : (steps : List Step) (plan : PlanTree) (rest : Plans) → captures_own steps rest ≡ true → captures_own steps (and_plan plan rest) ≡ true
own_rest steps (step_plan step) rest own = ap (λ b. is_captured_at (kind_at steps step) || b) own ∙ or-true (is_captured_at (kind_at steps step))
own_rest steps (end_plan end enclosed) rest own = own
own_rest steps (do_plan step body) rest own = own
own_rest steps (for_plan step numeric body) rest own = own
own_rest steps (while_plan condition body) rest own = own
own_rest steps (repeat_plan body condition) rest own = own
own_rest steps (if_plan arms) rest own = own

pub own_neither : (steps : List Step) (plan : PlanTree) (rest : Plans) → own_of steps plan ≡ false → captures_own steps rest ≡ false → captures_own steps (and_plan plan rest) ≡ false
own_neither steps (step_plan step) rest first none = ap (λ b. b || captures_own steps rest) first ∙ none
own_neither steps (end_plan end enclosed) rest first none = none
own_neither steps (do_plan step body) rest first none = none
own_neither steps (for_plan step numeric body) rest first none = none
own_neither steps (while_plan condition body) rest first none = none
own_neither steps (repeat_plan body condition) rest first none = none
own_neither steps (if_plan arms) rest first none = none

-- an own one ends where the body's own locals do, and another one before the end
abbrev EndsOwn : (own : Bool) (ends end to : ℕ) → Type 0
EndsOwn own ends end to = ((own ≡ true) × (end ≡ ends)) ⊎ (end < to)

pub captured_kind : (kind : Option StepKind) → is_captured_at kind ≡ true → (end : ℕ) × (kind ≡ Some (StepKind.Declaration end true))
captured_kind (Some (StepKind.Declaration end true)) is = (end, refl)
captured_kind (Some (StepKind.Declaration end false)) is = absurd (false≢true is)
captured_kind None is = absurd (false≢true is)
captured_kind (Some StepKind.Act) is = absurd (false≢true is)
captured_kind (Some StepKind.Return) is = absurd (false≢true is)
captured_kind (Some (StepKind.Test when to negated)) is = absurd (false≢true is)
captured_kind (Some (StepKind.Jump to)) is = absurd (false≢true is)
captured_kind (Some (StepKind.Close from declared)) is = absurd (false≢true is)
captured_kind (Some (StepKind.Head numeric foot end variables_end captured)) is = absurd (false≢true is)
captured_kind (Some (StepKind.Foot numeric to)) is = absurd (false≢true is)

module _ (steps : List Step) (place end : ℕ) (declared : Declares steps place end) where
  other_kind : (at : ℕ) (kind : StepKind) → kind_at steps at ≡ Some kind → is_captured_at (Some kind) ≡ false → place ≡ at → ⊥
  other_kind at kind is other here = false≢true (sym other ∙ ap is_captured_at (sym is ∙ ap (kind_at steps) (sym here) ∙ declared))

  no_jump : (at target : ℕ) → Jumps steps at target → place ≡ at → ⊥
  no_jump at target jumps here = other_kind at (StepKind.Jump target) jumps refl here

  no_close : (at locals : ℕ) → closes steps at locals ≡ true → place ≡ at → ⊥
  no_close at locals closing here = false≢true (sym (ap (closes_from locals) declared) ∙ ap (λ n. closes steps n locals) here ∙ closing)

  -- ---- conditions declare nothing

  no_literal : (jumps : Bool) (from to target : ℕ) → LiteralLies steps jumps from to target → from ≤ place → place < to → ⊥
  no_literal true from to target (jumps, next) low high = no_jump from target jumps (omega (arith, next, low, high))
  no_literal false from to target same low high = omega (arith, same, low, high)

  -- nothing that lies so between two places
  abbrev NoneIn : (lies : (from to : ℕ) → Type 0) → Type 0
  NoneIn lies = (from to : ℕ) → lies from to → from ≤ place → place < to → ⊥

  no_parts : (junction : Junction) (early : ℕ) (first : ConditionTree) (rest : Conditions) (sense : Bool) (target : ℕ) → ((sense : Bool) (target : ℕ) → NoneIn (λ from to. ConditionLies steps first sense target from to))
      → NoneIn (λ from to. PartsLie steps junction early rest sense target from to)
      → NoneIn (λ from to. PartsLie steps junction early (and_condition first rest) sense target from to)
  no_parts junction early first no_conditions sense target here behind from to lies low high = here sense target from to lies low high
  no_parts junction early first (and_condition next rest) sense target here behind from to (mid, begins, goes, lies, others) low high =
      ⊎_elim (λ h. behind mid to others h.1 high) (λ h. here (decides junction) early from mid lies low h.1) (leb_tells mid place)

  mutual
    pub no_condition : (condition : ConditionTree) (sense : Bool) (target from to : ℕ) → ConditionLies steps condition sense target from to → from ≤ place → place < to → ⊥
    no_condition (test_condition step negated) sense target from to (here, next, goes) low high =
        let same : from ≡ place = omega (arith, next, low, high) in
        subst (TestGoes negated sense target) (ap (kind_at steps) same ∙ declared) goes
    no_condition true_condition sense target from to lies low high = no_literal sense from to target lies low high
    no_condition false_condition sense target from to lies low high = no_literal (not sense) from to target lies low high
    no_condition (joined_condition junction parts) sense target from to lies low high = no_part parts junction (decided_to junction sense to target) sense target from to lies low high

    no_part : (parts : Conditions) (junction : Junction) (early : ℕ) (sense : Bool) (target from to : ℕ) → PartsLie steps junction early parts sense target from to → from ≤ place → place < to → ⊥
    no_part no_conditions junction early sense target from to lies low high = lies
    no_part (and_condition first rest) junction early sense target from to lies low high =
        no_parts junction early first rest sense target (no_condition first) (no_part rest junction early sense target) from to lies low high

  no_test : (condition : Option ConditionTree) (target from to : ℕ) → TestLies steps condition target from to → from ≤ place → place < to → ⊥
  no_test None target from to same low high = omega (arith, same, low, high)
  no_test (Some condition) target from to lies low high = no_condition condition false target from to lies low high

  -- ---- statements

  no_leave : (exit : Option Exit) (from to : ℕ) → LeavesTo steps exit from to → from ≤ place → place < to → ⊥
  no_leave None from to leaves low high = leaves
  no_leave (Some exit) from to (step, there, inl (none, jumps, next)) low high = no_jump from exit.place jumps (omega (arith, next, low, high))
  no_leave (Some exit) from to (step, there, inr (some, closing, jumps, next)) low high =
      ⊎_elim (λ h. no_close from exit.locals closing (omega (arith, h.1, low))) (λ h. no_jump (suc from) exit.place jumps (omega (arith, next, h.1, high))) (leb_tells place from)

  no_end : (exit : Option Exit) (which : End) (from to : ℕ) → EndLies steps exit which from to → from ≤ place → place < to → ⊥
  no_end exit (End.Return step) from to (here, returns, next) low high = other_kind from StepKind.Return returns refl (omega (arith, next, low, high))
  no_end exit End.Break from to leaves low high = no_leave exit from to leaves low high

  own_step : (ends from : ℕ) → StepLies steps ends from (suc from) → place ≡ from → (is_captured_at (kind_at steps from) ≡ true) × (end ≡ ends)
  own_step ends from (kind, there, own, next) here =
      let is : kind_at steps from ≡ Some (StepKind.Declaration end true) = ap (kind_at steps) (sym here) ∙ declared in
      (ap is_captured_at is, subst (IsOwn ends) (same_Some kind (StepKind.Declaration end true) (sym there ∙ is)) own)

  -- those of a block end before its end, or are its own
  abbrev OwnIn : (own : Bool) (from : ℕ) (lies : (ends to : ℕ) → Type 0) → Type 0
  OwnIn own from lies = (ends to : ℕ) → lies ends to → from ≤ place → place < to → EndsOwn own ends end to

  block_ends : (own : Bool) (lies : (ends to : ℕ) → Type 0) (from to : ℕ) → OwnIn own from lies → IsBlock steps own lies from to → from ≤ place → place < to → end < to
  block_ends own lies from to each (inl (none, whole)) low high = ⊎_elim (λ h. absurd (false≢true (sym none ∙ h.0))) (λ h. h) (each to to whole low high)
  block_ends own lies from to each (inr (last, is, begins, some, closing, before)) low high =
      ⊎_elim
      (λ h. absurd (closed closing (omega (arith, is, h.1, high))))
      (λ h. ⊎_elim (λ g. omega (arith, is, g.1)) (λ g. omega (arith, is, g)) (each last last before low h.1))
      (leb_tells last place)
    where
      closed : ClosesFrom steps last from ⊎ ClosesFrom steps last last → place ≡ last → ⊥
      closed (inl (step, there, closes_it)) here = no_close last step.base closes_it here
      closed (inr (step, there, closes_it)) here = no_close last step.base closes_it here

  abbrev BodyEnds : Plans → Type 0
  BodyEnds body = (exit : Option Exit) (from : ℕ) → OwnIn (captures_own steps body) from (λ ends to. BodyLies steps exit ends body from to)

  body_block_ends : (exit : Option Exit) (body : Plans) (from to : ℕ) → BodyEnds body → BlockLies steps exit body from to → from ≤ place → place < to → end < to
  body_block_ends exit body from to each block low high = block_ends (captures_own steps body) (λ ends end. BodyLies steps exit ends body from end) from to (each exit from) block low high

  first_or_rest : (plan : PlanTree) (rest : Plans) (ends mid to : ℕ) → mid ≤ to → (place < mid → EndsOwn (own_of steps plan) ends end mid) → (mid ≤ place → EndsOwn (captures_own steps rest) ends end to)
      → EndsOwn (captures_own steps (and_plan plan rest)) ends end to
  first_or_rest plan rest ends mid to goes first others = ⊎_elim
      (λ h. ⊎_elim (λ g. inl (own_rest steps plan rest g.0, g.1)) (λ g. inr g) (others h.1))
      (λ h. ⊎_elim (λ g. inl (own_first steps plan rest g.0, g.1)) (λ g. inr (omega (arith, g, goes))) (first h.1))
      (leb_tells mid place)

  abbrev ArmsEnd : Option Exit → ArmPlans → Type 0
  ArmsEnd exit arms = (from to : ℕ) → ArmsLie steps exit arms from to → from ≤ place → place < to → end < to

  -- an arm with something behind it
  arm_before : (condition : Option ConditionTree) (body : Plans) (rest : ArmPlans) (exit : Option Exit) (from to start last : ℕ) → BodyEnds body
      → ArmsEnd exit rest → suc last ≤ to → TestLies steps condition (suc last) from start → BlockLies steps exit body start last → Jumps steps last to → ArmsLie steps exit rest (suc last) to
      → from ≤ place → place < to → end < to
  arm_before condition body rest exit from to start last each behind ends tests block jumps others low high =
      ⊎_elim
      (λ h. ⊎_elim
      (λ g. ⊎_elim
      (λ f. behind (suc last) to others f.1 high)
      (λ f. absurd (no_jump last to jumps (omega (arith, g.1, f.1))))
      (leb_tells (suc last) place))
      (λ g. let before = body_block_ends exit body start last each block h.1 g.1 in omega (arith, before, ends))
      (leb_tells last place))
      (λ h. absurd (no_test condition (suc last) from start tests low h.1))
      (leb_tells start place)

  arm_ends : (condition : Option ConditionTree) (body : Plans) (rest : ArmPlans) (exit : Option Exit) (from to : ℕ) → BodyEnds body
      → ArmsEnd exit rest → ArmsLie steps exit (and_arm condition body rest) from to → from ≤ place → place < to → end < to
  arm_ends condition body no_arms exit from to each behind (start, begins, goes, tests, block) low high =
      ⊎_elim (λ h. body_block_ends exit body start to each block h.1 high) (λ h. absurd (no_test condition to from start tests low h.1)) (leb_tells start place)
  arm_ends condition body (last_arm other) exit from to each behind (start, last, begins, goes, ends, tests, block, jumps, others) low high =
      arm_before condition body (last_arm other) exit from to start last each behind ends tests block jumps others low high
  arm_ends condition body (and_arm next other rest) exit from to each behind (start, last, begins, goes, ends, tests, block, jumps, others) low high =
      arm_before condition body (and_arm next other rest) exit from to start last each behind ends tests block jumps others low high

  do_ends : (step : ℕ) (body : Plans) (exit : Option Exit) (ends from to : ℕ) → BodyEnds body → PlanLies steps exit ends (do_plan step body) from to → from ≤ place → place < to → end < to
  do_ends step body exit ends from to each (here, block) low high =
      block_ends (captures_own steps (and_plan (step_plan step) body)) (DoInside steps exit body from) from to own block low high
    where
      own : OwnIn (captures_own steps (and_plan (step_plan step) body)) from (DoInside steps exit body from)
      own ends to lies low high =
          first_or_rest (step_plan step) body ends (suc from) to lies.1
          (λ first. let known = own_step ends from lies.0 (omega (arith, low, first)) in inl (ap (λ n. is_captured_at (kind_at steps n)) here ∙ known.0, known.1))
          (λ behind. each exit (suc from) ends to lies.2 behind high)

  -- what stands at the end of the variables of a `for`
  no_foot : (head : Step) (captured : Bool) (variables_end foot to : ℕ) (numeric : Bool) (target : ℕ) → VariablesEnd steps head captured variables_end foot → kind_at steps foot ≡ Some (StepKind.Foot numeric target)
      → to ≡ suc foot → variables_end ≤ place → place < to → ⊥
  no_foot head false variables_end foot to numeric target same is next low high = other_kind foot (StepKind.Foot numeric target) is refl (omega (arith, same, next, low, high))
  no_foot head true variables_end foot to numeric target (closing, behind) is next low high =
      ⊎_elim (λ h. other_kind foot (StepKind.Foot numeric target) is refl (omega (arith, next, h.1, high))) (λ h. no_close variables_end (variables_from head) closing (omega (arith, behind, low, h.1))) (leb_tells foot place)

  variables_before : (head : Step) (captured : Bool) (variables_end foot : ℕ) → VariablesEnd steps head captured variables_end foot → variables_end ≤ foot
  variables_before head false variables_end foot same = omega (arith, same)
  variables_before head true variables_end foot (closing, behind) = omega (arith, behind)

  for_ends : (step : ℕ) (numeric : Bool) (body : Plans) (exit : Option Exit) (ends from to : ℕ) → BodyEnds body → PlanLies steps exit ends (for_plan step numeric body) from to
      → from ≤ place → place < to → end < to
  for_ends step numeric body exit ends from to each (here, (head, foot, variables_end, captured, there, kind, begins, block, variables, foot_is, next)) low high =
      ⊎_elim
      (λ h. ⊎_elim
      (λ g. absurd (no_foot head captured variables_end foot to numeric (suc from) variables foot_is next g.1 high))
      (λ g.
      let before = body_block_ends (exit_to to head) body (suc from) variables_end each block h.1 g.1 in
      omega (arith, before, variables_before head captured variables_end foot variables, next))
      (leb_tells variables_end place))
      (λ h. absurd (other_kind from (StepKind.Head numeric foot to variables_end captured) (step_kind steps from head there ∙ ap Some kind) refl (omega (arith, low, h.1))))
      (leb_tells (suc from) place)

  while_ends : (condition : ConditionTree) (body : Plans) (exit : Option Exit) (ends from to : ℕ) → BodyEnds body → PlanLies steps exit ends (while_plan condition body) from to
      → from ≤ place → place < to → end < to
  while_ends condition body exit ends from to each (first, start, back, there, begins, goes, tests, block, jumps, next) low high =
      ⊎_elim
      (λ h. ⊎_elim
      (λ g. absurd (no_jump back from jumps (omega (arith, next, g.1, high))))
      (λ g. let before = body_block_ends (exit_to to first) body start back each block h.1 g.1 in omega (arith, before, next))
      (leb_tells back place))
      (λ h. absurd (no_condition condition false to from start tests low h.1))
      (leb_tells start place)

  -- behind the tests of a `repeat` that closes its locals
  pub no_second : (first : Step) (from tested to : ℕ) → ClosesTwice steps first from tested to → tested ≤ place → place < to → ⊥
  no_second first from tested to (closing, out, again, back, is) low high =
      ⊎_elim
      (λ h. ⊎_elim
      (λ g. ⊎_elim
      (λ f. no_jump (tested + 3) from back (omega (arith, is, f.1, high)))
      (λ f. no_close (tested + 2) first.base again (omega (arith, g.1, f.1)))
      (leb_tells (tested + 3) place))
      (λ g. no_jump (tested + 1) to out (omega (arith, h.1, g.1)))
      (leb_tells (tested + 2) place))
      (λ h. no_close tested first.base closing (omega (arith, low, h.1)))
      (leb_tells (tested + 1) place)

  repeat_ends : (body : Plans) (condition : Option ConditionTree) (exit : Option Exit) (ends from to : ℕ) → BodyEnds body → PlanLies steps exit ends (repeat_plan body condition) from to
      → from ≤ place → place < to → end < to
  repeat_ends body condition exit ends from to each (first, start, there, begins, inl (goes, none, lies, tests)) low high =
      ⊎_elim
      (λ h. absurd (no_test condition from start to tests h.1 high))
      (λ h. ⊎_elim (λ g. absurd (false≢true (sym none ∙ g.0))) (λ g. omega (arith, g, goes)) (each (exit_to to first) from to start lies low h.1))
      (leb_tells start place)
  repeat_ends body condition exit ends from to each (first, start, there, begins, inr (tested, goes, some, lies, tests, twice)) low high =
      ⊎_elim
      (λ h. ⊎_elim
      (λ g. absurd (no_second first from tested to twice g.1 high))
      (λ g. absurd (no_test condition (tested + 2) start tested tests h.1 g.1))
      (leb_tells tested place))
      (λ h. ⊎_elim (λ g. omega (arith, g.1, twice.4)) (λ g. omega (arith, g, goes, twice.4)) (each (exit_to to first) from (tested + 2) start lies low h.1))
      (leb_tells start place)

  mutual
    body_ends : (plans : Plans) (exit : Option Exit) (from ends to : ℕ) → BodyLies steps exit ends plans from to → from ≤ place → place < to → EndsOwn (captures_own steps plans) ends end to
    body_ends no_plans exit from ends to same low high = absurd (omega (arith, same, low, high))
    body_ends (and_plan plan rest) exit from ends to (mid, begins, goes, first, others) low high =
        first_or_rest plan rest ends mid to goes (λ before. plan_ends plan exit ends from mid first low before) (λ behind. body_ends rest exit mid ends to others behind high)

    plan_ends : (plan : PlanTree) (exit : Option Exit) (ends from to : ℕ) → PlanLies steps exit ends plan from to → from ≤ place → place < to → EndsOwn (own_of steps plan) ends end to
    plan_ends (step_plan step) exit ends from to (here, lies) low high =
        let next : to ≡ suc from = lies.3 in
        let known = own_step ends from (subst (λ n. StepLies steps ends from n) next lies) (omega (arith, next, low, high)) in
        inl (ap (λ n. is_captured_at (kind_at steps n)) here ∙ known.0, known.1)
    plan_ends (end_plan which enclosed) exit ends from to lies low high = absurd (no_end exit which from to lies low high)
    plan_ends (do_plan step body) exit ends from to lies low high = inr (do_ends step body exit ends from to (body_ends body) lies low high)
    plan_ends (for_plan step numeric body) exit ends from to lies low high =
        inr (for_ends step numeric body exit ends from to (body_ends body) lies low high)
    plan_ends (while_plan condition body) exit ends from to lies low high =
        inr (while_ends condition body exit ends from to (body_ends body) lies low high)
    plan_ends (repeat_plan body condition) exit ends from to lies low high =
        inr (repeat_ends body condition exit ends from to (body_ends body) lies low high)
    plan_ends (if_plan arms) exit ends from to lies low high = inr (arms_end arms exit from to lies low high)

    arms_end : (arms : ArmPlans) (exit : Option Exit) (from to : ℕ) → ArmsLie steps exit arms from to → from ≤ place → place < to → end < to
    arms_end no_arms exit from to same low high = absurd (omega (arith, same, low, high))
    arms_end (last_arm body) exit from to (begins, block) low high = body_block_ends exit body from to (body_ends body) block low high
    arms_end (and_arm condition body rest) exit from to lies low high =
        arm_ends condition body rest exit from to (body_ends body) (arms_end rest exit) lies low high

-- captured locals that end where a body's own do, or behind it, are its own
pub own_declared : (steps : List Step) (place : ℕ) (plans : Plans) (exit : Option Exit) (ends from to : ℕ) → Declares steps place ends → BodyLies steps exit ends plans from to → to ≤ ends → from ≤ place → place < to
    → captures_own steps plans ≡ true
own_declared steps place plans exit ends from to declared lies within low high = ⊎_elim (λ h. h.0) (λ h. absurd (omega (arith, h, within))) (body_ends steps place ends declared plans exit from ends to lies low high)

-- ---- whether some are declared

found_between : (holds : ℕ → Bool) (from to : ℕ) → any_between holds from to ≡ true → (n : ℕ) × (from ≤ n) × (holds n ≡ true)
found_between holds from zero is = absurd (false≢true is)
found_between holds from (suc n) is = by (nat_le from n && holds n) refl is (found_between holds from n)
  where
    by : (b : Bool) → (nat_le from n && holds n) ≡ b → (b || any_between holds from n) ≡ true → (any_between holds from n ≡ true → (n : ℕ) × (from ≤ n) × (holds n ≡ true)) → (n : ℕ) × (from ≤ n) × (holds n ≡ true)
    by true here e behind = let both = and_parts (nat_le from n) (holds n) here in (n, below_or_same from n both.0, both.1)
    by false here e behind = behind e

pub one_between : (holds : ℕ → Bool) (from to n : ℕ) → from ≤ n → n < to → holds n ≡ true → any_between holds from to ≡ true
one_between holds from zero n low high is = absurd (omega (arith, high))
one_between holds from (suc m) n low high is =
    ⊎_elim
    (λ h.
    let same : n ≡ m = omega (arith, h.1, high) in
    let far : nat_le from n ≡ true = grind (arith, nat_tests) in
    ap (λ k. (nat_le from k && holds k) || any_between holds from m) (sym same) ∙ ap (λ b. (b && holds n) || any_between holds from m) far ∙ ap (λ b. b || any_between holds from m) is)
    (λ h. ap (λ b. (nat_le from m && holds m) || b) (one_between holds from m n low h.1 is) ∙ or-true (nat_le from m && holds m))
    (leb_tells m n)

pub ending_kind : (end : ℕ) (kind : Option StepKind) → ends_there end kind ≡ true → kind ≡ Some (StepKind.Declaration end true)
ending_kind end (Some (StepKind.Declaration to true)) is = ap (λ n. Some (StepKind.Declaration n true)) (same_numbers to end is)
ending_kind end (Some (StepKind.Declaration to false)) is = absurd (false≢true is)
ending_kind end None is = absurd (false≢true is)
ending_kind end (Some StepKind.Act) is = absurd (false≢true is)
ending_kind end (Some StepKind.Return) is = absurd (false≢true is)
ending_kind end (Some (StepKind.Test when to negated)) is = absurd (false≢true is)
ending_kind end (Some (StepKind.Jump to)) is = absurd (false≢true is)
ending_kind end (Some (StepKind.Close from declared)) is = absurd (false≢true is)
ending_kind end (Some (StepKind.Head numeric foot to variables_end captured)) is = absurd (false≢true is)
ending_kind end (Some (StepKind.Foot numeric to)) is = absurd (false≢true is)

-- captured locals that end at a place are declared before it
pub captured_there : (steps : List Step) (end from : ℕ) → AreOrdered steps → ends_captured steps end from ≡ true → (place : ℕ) × (from ≤ place) × (place < end) × Declares steps place end
captured_there steps end from ordered is =
    let both = and_parts (nat_le end (length steps)) (any_between (λ place. ends_there end (kind_at steps place)) from (length steps)) is in
    let found = found_between (λ place. ends_there end (kind_at steps place)) from (length steps) both.1 in
    let declared = ending_kind end (kind_at steps found.0) found.2 in
    (found.0, found.1, subst (EndsBehind found.0) declared (ordered found.0), declared)

pub declared_ends : (steps : List Step) (place end from : ℕ) → Declares steps place end → from ≤ place → end ≤ length steps → ends_captured steps end from ≡ true
declared_ends steps place end from declared low within = by (slice_get steps place) refl
  where
    by : (found : Option Step) → slice_get steps place ≡ found → ends_captured steps end from ≡ true
    by None there = absurd (none-some (StepKind.Declaration end true) (sym (ap (option_map (λ (one : Step). one.kind)) there) ∙ declared))
    by (Some step) there =
        let far : nat_le end (length steps) ≡ true = grind (arith, nat_tests) in
        let same : (end == end) ≡ true = grind (arith, nat_tests) in
        ap (λ b. b && any_between (λ place. ends_there end (kind_at steps place)) from (length steps)) far
        ∙ one_between (λ place. ends_there end (kind_at steps place)) from (length steps) place low (slice_get_within steps place step there) (ap (ends_there end) declared ∙ same)

-- where a body captures some of its own, one is declared
pub own_place : (steps : List Step) (plans : Plans) (exit : Option Exit) (ends from to : ℕ) → BodyLies steps exit ends plans from to → captures_own steps plans ≡ true → (place : ℕ) × (from ≤ place) × Declares steps place ends
own_place steps no_plans exit ends from to lies own = absurd (false≢true own)
own_place steps (and_plan (step_plan step) rest) exit ends from to (mid, begins, goes, (here, lies), others) own =
    by (is_captured_at (kind_at steps step)) refl own (own_place steps rest exit ends mid to others)
  where
    by : (b : Bool) → is_captured_at (kind_at steps step) ≡ b → (b || captures_own steps rest) ≡ true → (captures_own steps rest ≡ true → (place : ℕ) × (mid ≤ place) × Declares steps place ends)
        → (place : ℕ) × (from ≤ place) × Declares steps place ends
    by true first e behind =
        let known = captured_kind (kind_at steps from) (ap (λ n. is_captured_at (kind_at steps n)) (sym here) ∙ first) in
        let same : known.0 ≡ ends = subst (IsOwn ends) (same_Some lies.0 (StepKind.Declaration known.0 true) (sym lies.1 ∙ known.1)) lies.2 in
        (from, omega arith, known.1 ∙ ap (λ n. Some (StepKind.Declaration n true)) same)
    by false first e behind = let known = behind e in (known.0, omega (arith, begins, known.1), known.2)
own_place steps (and_plan (end_plan end enclosed) rest) exit ends from to (mid, begins, goes, lies, others) own = let known = own_place steps rest exit ends mid to others own in (known.0, omega (arith, begins, known.1), known.2)
own_place steps (and_plan (do_plan step body) rest) exit ends from to (mid, begins, goes, lies, others) own = let known = own_place steps rest exit ends mid to others own in (known.0, omega (arith, begins, known.1), known.2)
own_place steps (and_plan (for_plan step numeric body) rest) exit ends from to (mid, begins, goes, lies, others) own = let known = own_place steps rest exit ends mid to others own in (known.0, omega (arith, begins, known.1), known.2)
own_place steps (and_plan (while_plan condition body) rest) exit ends from to (mid, begins, goes, lies, others) own = let known = own_place steps rest exit ends mid to others own in (known.0, omega (arith, begins, known.1), known.2)
own_place steps (and_plan (repeat_plan body condition) rest) exit ends from to (mid, begins, goes, lies, others) own = let known = own_place steps rest exit ends mid to others own in (known.0, omega (arith, begins, known.1), known.2)
own_place steps (and_plan (if_plan arms) rest) exit ends from to (mid, begins, goes, lies, others) own = let known = own_place steps rest exit ends mid to others own in (known.0, omega (arith, begins, known.1), known.2)
