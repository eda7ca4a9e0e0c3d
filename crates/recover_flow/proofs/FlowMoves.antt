-- Statements whose breaks are those of another loop, or that do not break out of the loop around them, stand as well in that one; and where none of a block's statements is a `break`, others may follow.
use Rattle.std.proofs.Common.{◌≡◌, ◌∙◌, ◌≤◌, ◌<◌, ◌+◌, ◌⊎◌, inl, inr, refl, sym, ap, subst, ℕ, suc, max, Bool, true, false, List, Option, Some, arith}
use Rattle.std.specs.Prelude.{◌||◌}
use Rattle.recover_expr.specs.declared.steps.Step.{Step}
use Rattle.recover_expr.specs.declared.steps.StepKind.{StepKind}
use Rattle.recover_flow.specs.Asked.{kind_at}
use Rattle.recover_flow.specs.Flow.{AreTold, Around, ArmLies, BreakLies, CapturedBehind, Declares, Flow, no_flow, and_flow, FlowStatement, step_flow, return_flow, break_flow, do_flow, while_flow, repeat_flow, for_flow, if_flow, FlowArms, no_more, else_flow, elseif_flow, FlowLies, FlowStatementLies, IsAt, IsFlowBlock, IsTold, StepLies, captures_flow, flow_arms_levels, flow_levels, flow_statement_levels, in_loop, is_break, logic_room, raised}
use Rattle.recover_flow.specs.Logic.{Logic, is_never}
use Rattle.recover_flow.specs.Lying.{is_captured_at}
use Rattle.recover_flow.specs.declared.regions.Exit.{Exit}
use Rattle.recover_flow.proofs.LogicRest.{NoneLast, ends_well}

-- what is around, in another loop
abbrev pub moved_to : Option Exit → Around → Around
moved_to exit around = record around { exit = exit }

-- the locals around are active inside, too; and none of them is captured that is not so outside
abbrev pub Grown : (base around : Around) → Type 0
Grown base around = (base.count ≤ around.count) × ((register : ℕ) → register < base.count → around.declared register ≡ base.declared register) × (around.captured ≤ base.count → around.captured ≡ base.captured)

module _ (steps : List Step) where
  told_moved : (exit : Option Exit) (around : Around) (place : ℕ) → IsTold steps around place → IsTold steps (moved_to exit around) place
  told_moved exit around place told = record { step = told.step; there = told.there; base = told.base; captured = told.captured }

  pub at_moved : (exit : Option Exit) (around : Around) (place : ℕ) (kind : StepKind) → IsAt steps around place kind → IsAt steps (moved_to exit around) place kind
  at_moved exit around place kind is = (told_moved exit around place is.0, is.1)

  pub all_told_moved : (exit : Option Exit) (around : Around) (from to : ℕ) → AreTold steps around from to → AreTold steps (moved_to exit around) from to
  all_told_moved exit around from to told place low high = told_moved exit around place (told place low high)

  pub declares_moved : (exit : Option Exit) (step : ℕ) (captured : Bool) (before behind : Around) → Declares step captured before behind → Declares step captured (moved_to exit before) (moved_to exit behind)
  declares_moved exit step captured before behind declares = record { more = declares.more; highest = highest captured declares.highest; same = declares.same; new = declares.new; exit = refl }
    where
      highest : (captured : Bool) → CapturedBehind captured before behind → CapturedBehind captured (moved_to exit before) (moved_to exit behind)
      highest true is = is
      highest false is = is

  pub block_moved : (exit : Option Exit) (around : Around) (captured : Bool) (lies more : (ends end : ℕ) → Type 0) (from to : ℕ) → ((ends end : ℕ) → end ≤ to → lies ends end → more ends end)
      → IsFlowBlock steps around captured lies from to → IsFlowBlock steps (moved_to exit around) captured more from to
  block_moved exit around false lies more from to each block = each to to (omega arith) block
  block_moved exit around true lies more from to each (end, is, low, close, before) = (end, is, low, at_moved exit around end _ close, each end end (omega (arith, is)) before)

  pub exit_kept : (s : FlowStatement) (before behind : Around) (ends from to : ℕ) → FlowStatementLies steps before behind ends s from to → behind.exit ≡ before.exit
  exit_kept (step_flow step) before behind ends from to (here, next, inl (act, same)) = ap (λ (a : Around). a.exit) same
  exit_kept (step_flow step) before behind ends from to (here, next, inr (captured, declaration, declares)) = declares.exit
  exit_kept (return_flow step) before behind ends from to lies = ap (λ (a : Around). a.exit) lies.0
  exit_kept break_flow before behind ends from to lies = ap (λ (a : Around). a.exit) lies.0
  exit_kept (do_flow body) before behind ends from to lies = ap (λ (a : Around). a.exit) lies.0
  exit_kept (while_flow logic body) before behind ends from to lies = ap (λ (a : Around). a.exit) lies.0
  exit_kept (repeat_flow body logic) before behind ends from to lies = ap (λ (a : Around). a.exit) lies.0
  exit_kept (for_flow step numeric body) before behind ends from to lies = ap (λ (a : Around). a.exit) lies.0
  exit_kept (if_flow logic body rest) before behind ends from to lies = ap (λ (a : Around). a.exit) lies.0

  -- ---- no `break`

  -- a `do` around a `break`, which must be the last statement of its block
  abbrev pub calmed : FlowStatement → FlowStatement
  calmed break_flow = do_flow (and_flow break_flow no_flow)
  calmed s = s

  abbrev pub calm_flow : Flow → Flow
  calm_flow no_flow = no_flow
  calm_flow (and_flow s rest) = and_flow (calmed s) (calm_flow rest)

  pub calmed_calm : (s : FlowStatement) → is_break (calmed s) ≡ false
  calmed_calm (step_flow step) = refl
  calmed_calm (return_flow step) = refl
  calmed_calm break_flow = refl
  calmed_calm (do_flow body) = refl
  calmed_calm (while_flow logic body) = refl
  calmed_calm (repeat_flow body logic) = refl
  calmed_calm (for_flow step numeric body) = refl
  calmed_calm (if_flow logic body rest) = refl

  pub calm_none_last : (flow : Flow) → NoneLast (calm_flow flow)
  calm_none_last no_flow = tt
  calm_none_last (and_flow s rest) = (calmed_calm s, calm_none_last rest)

  pub step_levels_least : (s : FlowStatement) → 1 ≤ flow_statement_levels steps s
  step_levels_least (step_flow step) = omega arith
  step_levels_least (return_flow step) = omega arith
  step_levels_least break_flow = omega arith
  step_levels_least (do_flow body) = omega arith
  step_levels_least (while_flow logic body) = omega arith
  step_levels_least (repeat_flow body logic) = omega arith
  step_levels_least (for_flow step numeric body) = omega arith
  step_levels_least (if_flow logic body rest) = omega arith

  -- an arm and those behind it are no deeper than what is counted for them
  pub further_low : (logic : Logic) (body : Flow) (rest : FlowArms) → max (max (max 1 (logic_room steps logic)) (flow_levels steps body)) (flow_arms_levels steps rest) ≤ flow_arms_levels steps (elseif_flow logic body rest)
  further_low logic body rest = by (is_never false logic) (max (max (max 1 (logic_room steps logic)) (flow_levels steps body)) (flow_arms_levels steps rest))
    where
      by : (more : Bool) (levels : ℕ) → levels ≤ raised more levels
      by true levels = omega arith
      by false levels = omega arith

  pub calmed_levels : (s : FlowStatement) → flow_statement_levels steps (calmed s) ≤ max 2 (flow_statement_levels steps s)
  calmed_levels (step_flow step) = omega arith
  calmed_levels (return_flow step) = omega arith
  calmed_levels break_flow = omega arith
  calmed_levels (do_flow body) = omega arith
  calmed_levels (while_flow logic body) = omega arith
  calmed_levels (repeat_flow body logic) = omega arith
  calmed_levels (for_flow step numeric body) = omega arith
  calmed_levels (if_flow logic body rest) = omega arith

  -- no deeper, where two levels are allowed
  pub calm_levels : (flow : Flow) (bound : ℕ) → 2 ≤ bound → flow_levels steps flow ≤ bound → flow_levels steps (calm_flow flow) ≤ bound
  calm_levels no_flow bound two low = omega arith
  calm_levels (and_flow s rest) bound two low = let one = calmed_levels s in let more = calm_levels rest bound two (omega (arith, low)) in omega (arith, one, more, two, low)

  pub calmed_lies : (s : FlowStatement) (before behind : Around) (ends from to : ℕ) → from ≤ to → FlowStatementLies steps before behind ends s from to → FlowStatementLies steps before behind ends (calmed s) from to
  calmed_lies (step_flow step) before behind ends from to low lies = lies
  calmed_lies (return_flow step) before behind ends from to low lies = lies
  calmed_lies break_flow before behind ends from to low (same, lies) = (same, (before, (tt, to, before, low, omega arith, (refl, lies), (refl, refl))))
  calmed_lies (do_flow body) before behind ends from to low lies = lies
  calmed_lies (while_flow logic body) before behind ends from to low lies = lies
  calmed_lies (repeat_flow body logic) before behind ends from to low lies = lies
  calmed_lies (for_flow step numeric body) before behind ends from to low lies = lies
  calmed_lies (if_flow logic body rest) before behind ends from to low lies = lies

  pub calm_lies : (flow : Flow) (before behind : Around) (ends from to : ℕ) → FlowLies steps before behind ends flow from to → FlowLies steps before behind ends (calm_flow flow) from to
  calm_lies no_flow before behind ends from to lies = lies
  calm_lies (and_flow s rest) before behind ends from to (well, mid, between, starts, stops, one, others) =
      (ends_well (calmed s) (calm_flow rest) (calmed_calm s), mid, between, starts, stops, calmed_lies s before between ends from mid starts one, calm_lies rest between behind ends mid to others)

  pub calm_captures : (flow : Flow) → captures_flow steps (calm_flow flow) ≡ captures_flow steps flow
  calm_captures no_flow = refl
  calm_captures (and_flow (step_flow step) rest) = ap (λ b. is_captured_at (kind_at steps step) || b) (calm_captures rest)
  calm_captures (and_flow (return_flow step) rest) = calm_captures rest
  calm_captures (and_flow break_flow rest) = calm_captures rest
  calm_captures (and_flow (do_flow body) rest) = calm_captures rest
  calm_captures (and_flow (while_flow logic body) rest) = calm_captures rest
  calm_captures (and_flow (repeat_flow body logic) rest) = calm_captures rest
  calm_captures (and_flow (for_flow step numeric body) rest) = calm_captures rest
  calm_captures (and_flow (if_flow logic body arms) rest) = calm_captures rest

  -- ---- own locals

  -- one of the body's own locals is declared in a part
  pub record DeclaredIn (ends from to : ℕ) : Type 0 where
    pub place : ℕ
    pub captured : Bool
    pub least : from ≤ place
    pub most : place < to
    pub there : kind_at steps place ≡ Some (StepKind.Declaration ends captured)

  -- a statement declares none of them, or is a declaration
  pub statement_flat : (s : FlowStatement) (before behind : Around) (ends from to : ℕ) → FlowStatementLies steps before behind ends s from to
      → ((behind ≡ before) × ((other : ℕ) → FlowStatementLies steps before before other s from to)) ⊎ ((to ≡ suc from) × ((step : ℕ) × (s ≡ step_flow step) × (captured : Bool) × IsAt steps before from (StepKind.Declaration ends captured) × Declares from captured before behind))
  statement_flat (step_flow step) before behind ends from to (here, next, inl (act, same)) = inl (same, λ other. (here, next, inl (act, refl)))
  statement_flat (step_flow step) before behind ends from to (here, next, inr (captured, declaration, declares)) = inr (next, (step, refl, captured, declaration, declares))
  statement_flat (return_flow step) before behind ends from to lies = inl (lies.0, λ other. subst (λ b. FlowStatementLies steps before b other (return_flow step) from to) lies.0 lies)
  statement_flat break_flow before behind ends from to lies = inl (lies.0, λ other. subst (λ b. FlowStatementLies steps before b other break_flow from to) lies.0 lies)
  statement_flat (do_flow body) before behind ends from to lies = inl (lies.0, λ other. subst (λ b. FlowStatementLies steps before b other (do_flow body) from to) lies.0 lies)
  statement_flat (while_flow logic body) before behind ends from to lies = inl (lies.0, λ other. subst (λ b. FlowStatementLies steps before b other (while_flow logic body) from to) lies.0 lies)
  statement_flat (repeat_flow body logic) before behind ends from to lies = inl (lies.0, λ other. subst (λ b. FlowStatementLies steps before b other (repeat_flow body logic) from to) lies.0 lies)
  statement_flat (for_flow step numeric body) before behind ends from to lies = inl (lies.0, λ other. subst (λ b. FlowStatementLies steps before b other (for_flow step numeric body) from to) lies.0 lies)
  statement_flat (if_flow logic body rest) before behind ends from to lies = inl (lies.0, λ other. subst (λ b. FlowStatementLies steps before b other (if_flow logic body rest) from to) lies.0 lies)

  pub flat_or_declared : (flow : Flow) (before behind : Around) (ends from to : ℕ) → FlowLies steps before behind ends flow from to → ((behind ≡ before) × ((other : ℕ) → FlowLies steps before before other flow from to)) ⊎ DeclaredIn ends from to
  flat_or_declared no_flow before behind ends from to (same, ended) = inl (same, λ other. (refl, ended))
  flat_or_declared (and_flow s rest) before behind ends from to (well, mid, between, starts, stops, one, others) = by (statement_flat s before between ends from mid one) (flat_or_declared rest between behind ends mid to others)
    where
      by : ((between ≡ before) × ((other : ℕ) → FlowStatementLies steps before before other s from mid)) ⊎ ((mid ≡ suc from) × ((step : ℕ) × (s ≡ step_flow step) × (captured : Bool) × IsAt steps before from (StepKind.Declaration ends captured) × Declares from captured before between))
          → ((behind ≡ between) × ((other : ℕ) → FlowLies steps between between other rest mid to)) ⊎ DeclaredIn ends mid to
          → ((behind ≡ before) × ((other : ℕ) → FlowLies steps before before other (and_flow s rest) from to)) ⊎ DeclaredIn ends from to
      by (inl flat) (inl more) = inl (more.0 ∙ flat.0, λ other. (well, mid, before, starts, stops, flat.1 other, subst (λ a. FlowLies steps a a other rest mid to) flat.0 (more.1 other)))
      by (inr (next, (step, is, captured, declaration, declares))) more = inr (record { place = from; captured = captured; least = omega arith; most = omega (arith, next, stops); there = declaration.1 })
      by (inl flat) (inr more) = let least = more.least in inr (record { place = more.place; captured = more.captured; least = omega (arith, least, starts); most = more.most; there = more.there })

  -- ---- in another loop

  pub grown_behind : (base : Around) (s : FlowStatement) (before between : Around) (ends from mid : ℕ) → FlowStatementLies steps before between ends s from mid → Grown base before → Grown base between
  grown_behind base s before between ends from mid one grown = by (statement_flat s before between ends from mid one)
    where
      captured_same : (captured : Bool) → CapturedBehind captured before between → between.captured ≤ base.count → between.captured ≡ base.captured
      captured_same true highest low = let count = grown.0 in absurd (omega (arith, highest.0, low, count))
      captured_same false highest low = highest ∙ grown.2 (omega (arith, highest, low))

      by : ((between ≡ before) × ((other : ℕ) → FlowStatementLies steps before before other s from mid)) ⊎ ((mid ≡ suc from) × ((step : ℕ) × (s ≡ step_flow step) × (captured : Bool) × IsAt steps before from (StepKind.Declaration ends captured) × Declares from captured before between)) → Grown base between
      by (inl flat) = subst (Grown base) (sym flat.0) grown
      by (inr (next, (step, is, captured, declaration, declares))) =
          let more = declares.more in
          let count = grown.0 in
          (omega (arith, more, count), (λ register low. declares.same register (omega (arith, low, count)) ∙ grown.1 register low), captured_same captured declares.highest)

  module _ (old exit : Option Exit) (lo hi : ℕ) (base : Around) (breaks : (around : Around) (from to : ℕ) → lo ≤ from → to ≤ hi → Grown base around → BreakLies steps around old from to → BreakLies steps (moved_to exit around) exit from to) where
    step_moved : (before behind : Around) (ends step from to : ℕ) → StepLies steps before behind ends step from to → StepLies steps (moved_to exit before) (moved_to exit behind) ends step from to
    step_moved before behind ends step from to (here, next, inl (act, same)) = (here, next, inl (at_moved exit before from StepKind.Act act, ap (moved_to exit) same))
    step_moved before behind ends step from to (here, next, inr (captured, declaration, declares)) =
        (here, next, inr (captured, at_moved exit before from (StepKind.Declaration ends captured) declaration, declares_moved exit from captured before behind declares))

    mutual
      pub flow_moved_by : (flow : Flow) (before behind : Around) (ends from to : ℕ) → before.exit ≡ old → Grown base before → lo ≤ from → to ≤ hi → FlowLies steps before behind ends flow from to → FlowLies steps (moved_to exit before) (moved_to exit behind) ends flow from to
      flow_moved_by no_flow before behind ends from to is grown above low (same, ended) = (ap (moved_to exit) same, ended)
      flow_moved_by (and_flow s rest) before behind ends from to is grown above low (well, mid, between, starts, stops, one, others) = (
        well,
        mid,
        moved_to exit between,
        starts,
        stops,
        statement_moved_by s before between ends from mid is grown above (omega (arith, stops, low)) one,
        flow_moved_by rest between behind ends mid to (exit_kept s before between ends from mid one ∙ is) (grown_behind base s before between ends from mid one grown) (omega (arith, above, starts)) low others,
      )

      pub statement_moved_by : (s : FlowStatement) (before behind : Around) (ends from to : ℕ) → before.exit ≡ old → Grown base before → lo ≤ from → to ≤ hi → FlowStatementLies steps before behind ends s from to → FlowStatementLies steps (moved_to exit before) (moved_to exit behind) ends s from to
      statement_moved_by (step_flow step) before behind ends from to is grown above low lies = step_moved before behind ends step from to lies
      statement_moved_by (return_flow step) before behind ends from to is grown above low (same, here, at, next) = (ap (moved_to exit) same, here, at_moved exit before from StepKind.Return at, next)
      statement_moved_by break_flow before behind ends from to is grown above low (same, lies) = (ap (moved_to exit) same, breaks before from to above low grown (subst (λ e. BreakLies steps before e from to) is lies))
      statement_moved_by (do_flow body) before behind ends from to is grown above low (same, block) = (
        ap (moved_to exit) same,
        block_moved exit before (captures_flow steps body) (λ ends end. (inside : Around) × FlowLies steps before inside ends body from end) (λ ends end. (inside : Around) × FlowLies steps (moved_to exit before) inside ends body from end) from to
            (λ ends end within lies. (moved_to exit lies.0, flow_moved_by body before lies.0 ends from end is grown above (omega (arith, within, low)) lies.1)) block,
      )
      statement_moved_by (while_flow logic body) before behind ends from to is grown above low (same, start, back, begins, goes, tests, told, block, jump, next) = (
        ap (moved_to exit) same,
        start,
        back,
        begins,
        goes,
        tests,
        all_told_moved exit before from start told,
        block_moved exit before (captures_flow steps body) (λ ends end. (inside : Around) × FlowLies steps (in_loop to before) inside ends body start end)
            (λ ends end. (inside : Around) × FlowLies steps (in_loop to before) inside ends body start end) start back (λ ends end within lies. lies) block,
        at_moved exit before back (StepKind.Jump from) jump,
        next,
      )
      statement_moved_by (repeat_flow body logic) before behind ends from to is grown above low (same, start, inside, begins, inl lies) = (ap (moved_to exit) same, start, inside, begins, inl lies)
      statement_moved_by (repeat_flow body logic) before behind ends from to is grown above low (same, start, inside, begins, inr (some, tested, high, lies, tests, told, close, out, again, back, next)) = (
        ap (moved_to exit) same,
        start,
        inside,
        begins,
        inr (some, tested, high, lies, tests, told, close, out, at_moved exit before (tested + 2) _ again, at_moved exit before (tested + 3) (StepKind.Jump from) back, next),
      )
      statement_moved_by (for_flow step numeric body) before behind ends from to is grown above low (same, here, foot, variables_end, captured, hidden, inside, small, head, hides, declares, begins, block, variables, footed, next) =
          (ap (moved_to exit) same, here, foot, variables_end, captured, hidden, inside, small, at_moved exit before from _ head, hides, declares, begins, block, variables, footed, next)
      statement_moved_by (if_flow logic body rest) before behind ends from to is grown above low (same, lies) = (
        ap (moved_to exit) same,
        arms_moved rest logic body before from to is grown above low lies (λ start stop begun within block.
            block_moved exit before (captures_flow steps body) (λ ends end. (inside : Around) × FlowLies steps before inside ends body start end) (λ ends end. (inside : Around) × FlowLies steps (moved_to exit before) inside ends body start end) start stop
            (λ ends end below lies. (moved_to exit lies.0, flow_moved_by body before lies.0 ends start end is grown (omega (arith, above, begun)) (omega (arith, below, within, low)) lies.1)) block),
      )

      arms_moved : (rest : FlowArms) (logic : Logic) (block : Flow) (around : Around) (from to : ℕ) → around.exit ≡ old → Grown base around → lo ≤ from → to ≤ hi
          → ArmLies steps around logic (captures_flow steps block) (λ from ends end. (inside : Around) × FlowLies steps around inside ends block from end) rest from to
          → ((start stop : ℕ) → from ≤ start → stop ≤ to → IsFlowBlock steps around (captures_flow steps block) (λ ends end. (inside : Around) × FlowLies steps around inside ends block start end) start stop
          → IsFlowBlock steps (moved_to exit around) (captures_flow steps block) (λ ends end. (inside : Around) × FlowLies steps (moved_to exit around) inside ends block start end) start stop)
          → ArmLies steps (moved_to exit around) logic (captures_flow steps block) (λ from ends end. (inside : Around) × FlowLies steps (moved_to exit around) inside ends block from end) rest from to
      arms_moved no_more logic block around from to is grown above low (start, begins, goes, tests, told, lies) each = (start, begins, goes, tests, all_told_moved exit around from start told, each start to begins (omega arith) lies)
      arms_moved (else_flow body) logic block around from to is grown above low (start, last, begins, goes, ends, tests, told, lies, jump, other) each = (
        start,
        last,
        begins,
        goes,
        ends,
        tests,
        all_told_moved exit around from start told,
        each start last begins (omega (arith, ends)) lies,
        at_moved exit around last (StepKind.Jump to) jump,
        block_moved exit around (captures_flow steps body) (λ ends end. (inside : Around) × FlowLies steps around inside ends body (suc last) end) (λ ends end. (inside : Around) × FlowLies steps (moved_to exit around) inside ends body (suc last) end) (suc last) to
            (λ ends end below lies. (moved_to exit lies.0, flow_moved_by body around lies.0 ends (suc last) end is grown (omega (arith, above, begins, goes)) (omega (arith, below, low)) lies.1)) other,
      )
      arms_moved (elseif_flow next body rest) logic block around from to is grown above low (start, last, begins, goes, ends, tests, told, lies, jump, others) each = (
        start,
        last,
        begins,
        goes,
        ends,
        tests,
        all_told_moved exit around from start told,
        each start last begins (omega (arith, ends)) lies,
        at_moved exit around last (StepKind.Jump to) jump,
        arms_moved rest next body around (suc last) to is grown (omega (arith, above, begins, goes)) low others (λ start stop begun within block.
            block_moved exit around (captures_flow steps body) (λ ends end. (inside : Around) × FlowLies steps around inside ends body start end) (λ ends end. (inside : Around) × FlowLies steps (moved_to exit around) inside ends body start end) start stop
            (λ ends end below lies. (moved_to exit lies.0, flow_moved_by body around lies.0 ends start end is grown (omega (arith, above, begins, goes, begun)) (omega (arith, below, within, low)) lies.1)) block),
      )

  -- so do those that do not break out of the loop around them
  module _ (old exit : Option Exit) (lo hi : ℕ) (none : (around : Around) (from to : ℕ) → lo ≤ from → to ≤ hi → BreakLies steps around old from to → ⊥) where
    none_breaks : (base around : Around) (from to : ℕ) → lo ≤ from → to ≤ hi → Grown base around → BreakLies steps around old from to → BreakLies steps (moved_to exit around) exit from to
    none_breaks base around from to above low grown out = absurd (none around from to above low out)

    pub flow_moved : (flow : Flow) (before behind : Around) (ends from to : ℕ) → before.exit ≡ old → lo ≤ from → to ≤ hi → FlowLies steps before behind ends flow from to → FlowLies steps (moved_to exit before) (moved_to exit behind) ends flow from to
    flow_moved flow before behind ends from to is above low lies = flow_moved_by old exit lo hi before (none_breaks before) flow before behind ends from to is (omega arith, (λ register within. refl), λ within. refl) above low lies

    pub statement_moved : (s : FlowStatement) (before behind : Around) (ends from to : ℕ) → before.exit ≡ old → lo ≤ from → to ≤ hi → FlowStatementLies steps before behind ends s from to → FlowStatementLies steps (moved_to exit before) (moved_to exit behind) ends s from to
    statement_moved s before behind ends from to is above low lies = statement_moved_by old exit lo hi before (none_breaks before) s before behind ends from to is (omega arith, (λ register within. refl), λ within. refl) above low lies
