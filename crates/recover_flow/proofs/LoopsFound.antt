-- Loops are found where each is a piece of a body, if their blocks are.
use Rattle.std.proofs.Common.{◌≡◌, ◌∙◌, ◌≤◌, ◌<◌, ◌+◌, ◌-◌, ◌*◌, ◌^◌, ◌⊎◌, inl, inr, refl, sym, ap, subst, ℕ, zero, suc, min, Bool, true, false, List, length, slice_get, Option, None, Some, arith}
use Rattle.std.specs.Prelude.{◌==◌, ◌&&◌, not, nat_le, option_map, option_and_then, if◌then◌else◌}
use Rattle.std.specs.Bool.{beq}
use Rattle.std.proofs.lemmas.Bool.{false≢true}
use Rattle.std.proofs.lemmas.Bool.Decides.{nat_tests}
use Rattle.std.proofs.lemmas.Option.{same_Some}
use Rattle.recover_expr.specs.declared.steps.Step.{Step}
use Rattle.recover_expr.specs.declared.steps.StepKind.{StepKind}
use Rattle.recover_flow.specs.Asked.{block_at, goes_back, is_single, is_this, is_unit, jump_of, jumps_to, kind_at, last_back, length_at, lengths_after, lengths_before, number_before, run_before, run_behind}
use Rattle.recover_flow.specs.Conditions.{ConditionTree, condition_levels}
use Rattle.recover_flow.specs.Flow.{Around, Flow, FlowLies, FlowStatementLies, captures_flow, flow_levels, flow_statement_levels, in_loop, logic_room, while_flow, repeat_flow}
use Rattle.recover_flow.specs.Forms.{exit_of, is_own}
use Rattle.recover_flow.specs.Logic.{AreLevelled, Logic, LogicIsFound, LogicLies, test_logic, literal_logic, not_logic, and_logic, or_logic, logic_levels, operators}
use Rattle.recover_flow.specs.Loops.{ends_back, loop_at, open_parts, while_parts}
use Rattle.recover_flow.specs.Lying.{Jumps, LiteralLies, TestGoes}
use Rattle.recover_flow.specs.Plans.{Plans, PlanTree, while_plan, repeat_plan, body_levels, plan_levels}
use Rattle.recover_flow.specs.Standing.{BodyStands, InBlock, PlanStands, with_used}
use Rattle.recover_flow.specs.declared.loops.LoopAt.{LoopAt}
use Rattle.recover_flow.specs.declared.loops.LoopKind.{LoopKind}
use Rattle.recover_flow.specs.declared.regions.BodyAt.{BodyAt}
use Rattle.recover_flow.specs.declared.regions.Exit.{Exit}
use Rattle.recover_flow.specs.declared.regions.Piece.{Piece}
use Rattle.recover_flow.specs.declared.tables.Lengths.{Lengths}
use Rattle.recover_flow.proofs.BlocksFound.{BodyFound, block_found, calm_before, serves_itself, statement_base, whole_found}
use Rattle.recover_flow.proofs.FlowInside.{IsReady, jump_back, ready_loop}
use Rattle.recover_flow.proofs.LogicCut.{levels_least}
use Rattle.recover_flow.proofs.PartsInside.{kind_there, order}
use Rattle.recover_flow.proofs.StepsFound.{both_true, if_false, if_true, le_is, loop_is, same_is, second_false}

-- ---- the length of a condition

pub run_least : (holds : ℕ → Bool) (from most count : ℕ) → count ≤ most → ((n : ℕ) → from ≤ n → n < from + count → holds n ≡ true) → count ≤ run_behind holds from most
run_least holds from most zero low each = omega arith
run_least holds from zero (suc count) low each = absurd (omega (arith, low))
run_least holds from (suc most) (suc count) low each =
    let rest = run_least holds (from + 1) most count (omega (arith, low)) (λ n begin end. each n (omega (arith, begin)) (omega (arith, end))) in
    let here = if_true (holds from) (suc (run_behind holds (from + 1) most)) 0 (each from (omega arith) (omega arith)) in
    subst (λ n. suc count ≤ n) (sym here) (omega (arith, rest))

pub run_back : (holds : ℕ → Bool) (to most count : ℕ) → count ≤ most → count ≤ to → ((n : ℕ) → to ≤ n + count → n < to → holds n ≡ true) → count ≤ run_before holds to most
run_back holds to most zero low fits each = omega arith
run_back holds zero most (suc count) low fits each = absurd (omega (arith, fits))
run_back holds (suc to) zero (suc count) low fits each = absurd (omega (arith, low))
run_back holds (suc to) (suc most) (suc count) low fits each =
    let rest = run_back holds to most count (omega (arith, low)) (omega (arith, fits)) (λ n begin end. each n (omega (arith, begin)) (omega (arith, end))) in
    let here = if_true (holds to) (suc (run_before holds to most)) 0 (each to (omega arith) (omega arith)) in
    subst (λ n. suc count ≤ n) (sym here) (omega (arith, rest))

-- each length that units may have is one of some turn
pub turn_of : (lengths : Lengths) (count : ℕ) → count ≤ lengths.jumps → (turn : ℕ) × (length_at lengths turn ≡ Some count)
turn_of lengths count low = by (order lengths.tests count)
  where
    by : (lengths.tests < count) ⊎ (count ≤ lengths.tests) → (turn : ℕ) × (length_at lengths turn ≡ Some count)
    by (inl past) =
        let fails : nat_le count lengths.tests ≡ false = grind (arith, nat_tests) in
        (count, if_false (nat_le count lengths.tests) _ _ fails ∙ if_true (nat_le count lengths.jumps) _ _ (le_is count lengths.jumps low))
    by (inr within) =
        let same : lengths.tests - (lengths.tests - count) ≡ count = omega (arith, within) in
        (lengths.tests - count, if_true (nat_le (lengths.tests - count) lengths.tests) _ _ (le_is (lengths.tests - count) lengths.tests (omega arith)) ∙ ap Some same)

module _ (steps : List Step) where
  test_unit : (negated sense : Bool) (target : ℕ) (kind : Option StepKind) → TestGoes negated sense target kind → is_unit kind ≡ true
  test_unit negated sense target (Some (StepKind.Test when to levels)) goes = refl
  test_unit negated sense target None goes = absurd goes
  test_unit negated sense target (Some StepKind.Act) goes = absurd goes
  test_unit negated sense target (Some StepKind.Return) goes = absurd goes
  test_unit negated sense target (Some (StepKind.Declaration end captured)) goes = absurd goes
  test_unit negated sense target (Some (StepKind.Jump to)) goes = absurd goes
  test_unit negated sense target (Some (StepKind.Close close declared)) goes = absurd goes
  test_unit negated sense target (Some (StepKind.Head numeric foot end variables_end captured)) goes = absurd goes
  test_unit negated sense target (Some (StepKind.Foot numeric to)) goes = absurd goes

  literal_units : (jumps : Bool) (from to target : ℕ) → LiteralLies steps jumps from to target → (n : ℕ) → from ≤ n → n < to → is_unit (kind_at steps n) ≡ true
  literal_units true from to target lies n low high = let same : from ≡ n = omega (arith, low, high, lies.1) in subst (λ m. is_unit (kind_at steps m) ≡ true) same (ap is_unit lies.0)
  literal_units false from to target lies n low high = absurd (omega (arith, low, high, lies))

  pub logic_units : (logic : Logic) (sense : Bool) (target from to : ℕ) → LogicLies steps logic sense target from to → (n : ℕ) → from ≤ n → n < to → is_unit (kind_at steps n) ≡ true
  logic_units (test_logic step negated) sense target from to lies n low high = let same : from ≡ n = omega (arith, low, high, lies.1) in subst (λ m. is_unit (kind_at steps m) ≡ true) same (test_unit negated sense target (kind_at steps from) lies.2)
  logic_units (literal_logic truth) sense target from to lies n low high = literal_units (beq truth sense) from to target lies n low high
  logic_units (not_logic inner) sense target from to lies n low high = logic_units inner (not sense) target from to lies n low high
  logic_units (and_logic left right) sense target from to (mid, begins, ends, one, two) n low high = by (order n mid) (λ h. logic_units left false (if sense then to else target) from mid one n low h) (λ h. logic_units right sense target mid to two n h high)
    where
      by : (n < mid) ⊎ (mid ≤ n) → (n < mid → is_unit (kind_at steps n) ≡ true) → (mid ≤ n → is_unit (kind_at steps n) ≡ true) → is_unit (kind_at steps n) ≡ true
      by (inl before) first second = first before
      by (inr behind) first second = second behind
  logic_units (or_logic left right) sense target from to (mid, begins, ends, one, two) n low high = by (order n mid) (λ h. logic_units left true (if sense then target else to) from mid one n low h) (λ h. logic_units right sense target mid to two n h high)
    where
      by : (n < mid) ⊎ (mid ≤ n) → (n < mid → is_unit (kind_at steps n) ≡ true) → (mid ≤ n → is_unit (kind_at steps n) ≡ true) → is_unit (kind_at steps n) ≡ true
      by (inl before) first second = first before
      by (inr behind) first second = second behind

  literal_short : (jumps : Bool) (from to target : ℕ) → LiteralLies steps jumps from to target → to ≤ suc from
  literal_short true from to target lies = omega (arith, lies.1)
  literal_short false from to target lies = omega (arith, lies)

  -- a condition has at most a step more than operators
  pub logic_short : (logic : Logic) (sense : Bool) (target from to : ℕ) → LogicLies steps logic sense target from to → to ≤ from + operators logic + 1
  logic_short (test_logic step negated) sense target from to lies = omega (arith, lies.1)
  logic_short (literal_logic truth) sense target from to lies = let low = literal_short (beq truth sense) from to target lies in omega (arith, low)
  logic_short (not_logic inner) sense target from to lies = let low = logic_short inner (not sense) target from to lies in omega (arith, low)
  logic_short (and_logic left right) sense target from to (mid, begins, ends, one, two) =
      let a = logic_short left false (if sense then to else target) from mid one in let b = logic_short right sense target mid to two in omega (arith, a, b)
  logic_short (or_logic left right) sense target from to (mid, begins, ends, one, two) =
      let a = logic_short left true (if sense then target else to) from mid one in let b = logic_short right sense target mid to two in omega (arith, a, b)

  pub room_short : AreLevelled steps → (logic : Logic) (sense : Bool) (target from to : ℕ) → LogicLies steps logic sense target from to → logic_room steps logic < 200 → to - from ≤ 100
  room_short levelled logic sense target from to lies room = let a = logic_short logic sense target from to lies in let b = levels_least steps levelled logic sense target from to lies in omega (arith, a, b, room)

  -- the last jump back is the last step
  pub last_is : (first last to : ℕ) → to ≡ suc last → goes_back steps first last ≡ true → last_back steps first to ≡ Some last
  last_is first last to next back = ap (last_back steps first) next ∙ if_true (goes_back steps first last) _ _ back

  pub jumps_is : (place target : ℕ) → Jumps steps place target → jumps_to steps place target ≡ true
  jumps_is place target jump = ap (λ found. is_this (option_and_then jump_of found) target) jump ∙ same_is target

  pub this_before : (to last : ℕ) → to ≡ suc last → is_this (number_before to) last ≡ true
  this_before to last next = ap (λ n. is_this (number_before n) last) next ∙ same_is last

module _ (steps : List Step) (levelled : AreLevelled steps) (small : length steps < 2 ^ 32) (logic_found : LogicIsFound) (at : BodyAt) (piece : Piece) where
  -- a loop is no statement by itself
  pub not_single : (step : Step) (last : ℕ) → slice_get steps piece.from ≡ Some step → piece.from ≤ last → piece.to ≡ suc last → Jumps steps last piece.from → (is_single piece && is_own at step.kind) ≡ false
  not_single step last there low next jump = by (order piece.from last)
    where
      by : (piece.from < last) ⊎ (last ≤ piece.from) → (is_single piece && is_own at step.kind) ≡ false
      by (inl past) = ap (λ b. b && is_own at step.kind) (ap (λ n. is_this (number_before n) piece.from) next ∙ later)
        where
          later : (last == piece.from) ≡ false
          later = grind (arith, nat_tests)
      by (inr here) =
          let same : last ≡ piece.from = omega (arith, here, low) in
          let kind = same_Some step.kind (StepKind.Jump piece.from) (sym (kind_there steps piece.from step there) ∙ subst (λ n. Jumps steps n piece.from) same jump) in
          ap (λ k. is_single piece && is_own at k) kind ∙ either (is_single piece)
        where
          either : (b : Bool) → (b && false) ≡ false
          either true = refl
          either false = refl

  pub while_found : (logic : Logic) (body : Flow) (before between : Around) (ends : ℕ) → FlowStatementLies steps before between ends (while_flow logic body) piece.from piece.to → IsReady 0 before ⊎ (before.captured ≤ before.count) → piece.to ≤ length steps
      → ((inner : BodyAt) → piece.from ≤ inner.from → inner.to < piece.to → BodyFound steps inner) → flow_statement_levels steps (while_flow logic body) ≤ 200
      → (plan : PlanTree) × PlanStands steps at piece plan × (plan_levels steps plan ≤ flow_statement_levels steps (while_flow logic body))
  while_found logic body before between ends lies ready fits each levels = by lies
    where
      sound : IsReady 0 before ⊎ (before.captured ≤ before.count) → before.captured ≤ before.count
      sound (inl known) = known.captured
      sound (inr low) = low

      by : FlowStatementLies steps before between ends (while_flow logic body) piece.from piece.to → (plan : PlanTree) × PlanStands steps at piece plan × (plan_levels steps plan ≤ flow_statement_levels steps (while_flow logic body))
      by (same, start, back, begins, goes, tests, told, block, jump, next) =
          let base = statement_base steps (while_flow logic body) before between ends piece.from piece.to (omega (arith, begins, goes, next)) lies in
          let step : Step = base.0 in
          let loop : LoopAt = loop_at piece (LoopKind.While back) step in
          let exit_is : exit_of piece step ≡ record { place = piece.to; locals = before.count } = ap (λ n. record { place = piece.to; locals = n }) base.2 in
          let short = room_short steps levelled logic false piece.to piece.from start tests (omega (arith, levels)) in
          let condition = logic_found steps levelled logic piece.from start piece.to (inr (omega (arith, goes, next))) tests (omega (arith, goes, next, fits)) short in
          let count : ℕ = start - piece.from in
          let turn = turn_of (lengths_after steps piece.from back) count
          (run_least (λ place. is_unit (kind_at steps place)) piece.from (min 100 (back - piece.from)) count (omega (arith, short, goes)) (λ n low high. logic_units steps logic false piece.to piece.from start tests n low (omega (arith, high, begins)))) in
          let here : piece.from + count ≡ start = omega (arith, begins) in
          let inner = block_found steps body before (in_loop piece.to before) (Some (record { place = piece.to; locals = before.count })) piece.from start back small refl
          (λ inner low high. each inner (omega (arith, low, begins)) (omega (arith, high, next)))
          (serves_itself steps (Some (record { place = piece.to; locals = before.count })) start back (λ e is. subst (λ (x : Exit). x.place ≤ length steps) (same_Some _ e is) fits)) (omega (arith, next)) (ready_loop piece.to piece.from before (sound ready)) begins goes (omega (arith, next, fits)) block
          (omega (arith, levels)) (λ e is there. let one = ap (λ (x : Exit). x.place) (same_Some _ e is) in absurd (omega (arith, one, there, next))) in
          let plan : PlanTree = while_plan condition.0 inner.0 in (
            plan,
            (
              back,
              loop,
              while_parts steps loop start back,
              loop_is steps at piece step step.kind back base.1 refl (not_single step back base.1 (omega (arith, begins, goes)) next jump.1) (last_is steps piece.from back piece.to next (jump_back steps piece.from back jump.1 (omega (arith, begins, goes)))),
              if_true (ends_back steps piece back) _ _ (both_true (is_this (number_before piece.to) back) _ (this_before steps piece.to back next) (jumps_is steps back piece.from jump.1)) ∙ ap (option_map (loop_at piece (LoopKind.While back))) base.1,
              record {
                turn = turn.0;
                length = count;
                turned = turn.1;
                parted = ap (λ n. if nat_le n back then Some (while_parts steps loop n back) else None) here ∙ if_true (nat_le start back) _ _ (le_is start back goes);
                tested = condition.1;
              },
              subst (λ e. InBlock (λ inside. BodyStands steps inside inner.0) steps (block_at steps start back (Some e))) (sym exit_is) inner.1,
            ),
            while_low condition.0 inner.0 condition.2 inner.2,
          )
        where
          while_low : (condition : ConditionTree) (plans : Plans) → condition_levels steps condition ≤ logic_levels steps logic + 2 * operators logic → body_levels steps plans ≤ flow_levels steps body → plan_levels steps (while_plan condition plans) ≤ flow_statement_levels steps (while_flow logic body)
          while_low condition plans one two = omega (arith, one, two)

  pub open_found : (logic : Logic) (body : Flow) (before between inside : Around) (ends start : ℕ) → FlowStatementLies steps before between ends (repeat_flow body logic) piece.from piece.to → before.captured ≤ before.count → piece.to ≤ length steps → piece.from ≤ start → start ≤ piece.to
      → captures_flow steps body ≡ false → FlowLies steps (in_loop piece.to before) inside piece.to body piece.from start → LogicLies steps logic false piece.from start piece.to → (last : ℕ) → start ≤ last → last_back steps piece.from piece.to ≡ Some last → (is_single piece ≡ false) ⊎ ((step : Step) → slice_get steps piece.from ≡ Some step → is_own at step.kind ≡ false)
      → ((inner : BodyAt) → piece.from ≤ inner.from → inner.to < piece.to → BodyFound steps inner) → flow_statement_levels steps (repeat_flow body logic) ≤ 200 → last < piece.to
      → (plan : PlanTree) × PlanStands steps at piece plan × (plan_levels steps plan ≤ flow_statement_levels steps (repeat_flow body logic))
  open_found logic body before between inside ends start lies sound fits begins goes none body_at tests last start_low back alone each levels within =
      let base = statement_base steps (repeat_flow body logic) before between ends piece.from piece.to (omega (arith, begins, start_low, within)) lies in
      let step : Step = base.0 in
      let loop : LoopAt = loop_at piece (LoopKind.Open last) step in
      let exit_is : exit_of piece step ≡ record { place = piece.to; locals = before.count } = ap (λ n. record { place = piece.to; locals = n }) base.2 in
      let short = room_short steps levelled logic false piece.from start piece.to tests (omega (arith, levels)) in
      let condition = logic_found steps levelled logic start piece.to piece.from (inl begins) tests fits short in
      let count : ℕ = piece.to - start in
      let turn = turn_of (lengths_before steps piece.from piece.to) count
      (run_back (λ place. is_unit (kind_at steps place)) piece.to (min 100 (piece.to - piece.from)) count (omega (arith, short, begins)) (omega arith) (λ n low high. logic_units steps logic false piece.from start piece.to tests n (omega (arith, low, goes)) high)) in
      let here : piece.to - count ≡ start = omega (arith, goes) in
      let whole : BodyAt = record { from = piece.from; to = start; locals_end = piece.to; may_capture = false; exit = Some (record { place = piece.to; locals = before.count }) } in
      let inner = whole_found steps whole body (in_loop piece.to before) inside piece.from small (each (with_used steps whole) (omega arith) (omega (arith, start_low, within)))
      (serves_itself steps (Some (record { place = piece.to; locals = before.count })) piece.from start (λ e is. subst (λ (x : Exit). x.place ≤ length steps) (same_Some _ e is) fits)) (omega (arith, goes)) (ready_loop piece.to piece.from before sound) (omega arith) begins (omega (arith, goes)) (omega (arith, goes, fits)) body_at
      (λ is. absurd (false≢true (sym none ∙ is))) (omega (arith, levels)) (calm_before start (captures_flow steps body) (in_loop piece.to before) (record { place = piece.to; locals = before.count }) refl (omega (arith, start_low, within))) in (
        repeat_plan inner.0 (Some condition.0),
        (
          last,
          loop,
          open_parts loop start,
          loop_is steps at piece step step.kind last base.1 refl (not_own step base.1 alone) back,
          inr (ap (option_map (loop_at piece (LoopKind.Open last))) base.1),
          record {
            turn = turn.0;
            length = count;
            turned = turn.1;
            parted = if_true (nat_le count piece.to && nat_le (piece.to - count) last) _ _ (both_true (nat_le count piece.to) _ (le_is count piece.to (omega arith)) (le_is (piece.to - count) last (omega (arith, here, start_low)))) ∙ ap (λ n. Some (open_parts loop n)) here;
            tested = condition.1;
          },
          inr (subst (λ e. BodyStands steps (with_used steps (record { from = piece.from; to = start; locals_end = piece.to; may_capture = false; exit = Some e })) inner.0) (sym exit_is) inner.1),
        ),
        repeat_low condition.0 inner.0 condition.2 inner.2,
      )
    where
      not_own : (step : Step) → slice_get steps piece.from ≡ Some step → (is_single piece ≡ false) ⊎ ((step : Step) → slice_get steps piece.from ≡ Some step → is_own at step.kind ≡ false) → (is_single piece && is_own at step.kind) ≡ false
      not_own step there (inl single) = ap (λ b. b && is_own at step.kind) single
      not_own step there (inr own) = second_false (is_single piece) (is_own at step.kind) (own step there)

      repeat_low : (condition : ConditionTree) (plans : Plans) → condition_levels steps condition ≤ logic_levels steps logic + 2 * operators logic → body_levels steps plans ≤ flow_levels steps body → plan_levels steps (repeat_plan plans (Some condition)) ≤ flow_statement_levels steps (repeat_flow body logic)
      repeat_low condition plans one two = omega (arith, one, two)
