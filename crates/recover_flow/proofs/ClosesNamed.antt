-- Where statements lie, a CLOSE of active locals names a declaration before it, and in each loop around it.
use Rattle.std.proofs.Common.{◌≡◌, ◌∙◌, ◌≤◌, ◌<◌, ◌+◌, ◌⊎◌, inl, inr, refl, sym, ap, subst, ℕ, suc, Bool, true, false, List, length, get_or, slice_get, Option, None, Some, arith}
use Rattle.std.specs.Prelude.{nat_lt, if◌then◌else◌}
use Rattle.std.proofs.lemmas.Option.{none-some, slice_get_cases}
use Rattle.recover_expr.specs.declared.steps.Step.{Step}
use Rattle.recover_expr.specs.declared.steps.StepKind.{StepKind}
use Rattle.recover_flow.specs.Flow.{
  Around,
  AtBeginning,
  BreakLies,
  Flow,
  no_flow,
  and_flow,
  FlowStatement,
  step_flow,
  return_flow,
  break_flow,
  do_flow,
  while_flow,
  repeat_flow,
  for_flow,
  if_flow,
  FlowArms,
  no_more,
  else_flow,
  elseif_flow,
  FlowLies,
  FlowStatementLies,
  ArmLies,
  IsClose,
  IsFlowBlock,
  VariablesLie,
  captures_flow,
  declares_active,
  in_loop,
  StepLies,
}
use Rattle.recover_flow.specs.Logic.{Logic, LogicLies}
use Rattle.recover_flow.specs.Lying.{Jumps}
use Rattle.recover_flow.specs.declared.regions.Exit.{Exit}
use Rattle.recover_flow.proofs.ClosesParts.{
  AllSteady,
  IsKnown,
  KnownBetween,
  NamedBetween,
  Part,
  both_steady,
  close_steady,
  jump_steady,
  known_declared,
  known_later,
  known_loop,
  logic_steady,
  loop_part,
  named_later,
  none_steady,
  one_steady,
  part_joined,
  steady_part,
}
use Rattle.recover_flow.proofs.FlowInside.{ClosesAreNamed, ExitBehind, behind_earlier, told_base, variables_low}
use Rattle.recover_flow.proofs.PartsInside.{Turns, back_is}

module _ (steps : List Step) where
  -- ---- blocks and breaks

  -- what is shown of a flow or a statement
  pub record Named (first : ℕ) (before behind : Around) (from to : ℕ) : Type 0 where
    pub rises : from ≤ to
    pub ready : IsKnown first to behind
    pub exit : behind.exit ≡ before.exit
    pub part : Part steps first from to

  abbrev FlowNamed : Flow → Type 0
  FlowNamed flow =
      (before behind : Around) (ends from to first : ℕ) → IsKnown first from before → first ≤ from → ExitBehind before.exit to → FlowLies steps before behind ends flow from to
      → Named first before behind from to

  -- a statement behind which what is around is as before it
  same_named : (before behind : Around) (from to first : ℕ) → IsKnown first from before → behind ≡ before → (from ≤ to) × Part steps first from to → Named first before behind from to
  same_named before behind from to first ready same found =
      record { rises = found.0; ready = subst (IsKnown first to) (sym same) (known_later first from to before found.0 ready); exit = ap (λ (a : Around). a.exit) same; part = found.1 }

  block_part : (captures : Bool) (around : Around) (first : ℕ) (lies : (ends end : ℕ) → Type 0) (from to : ℕ) → IsFlowBlock steps around captures lies from to
      → ((end : ℕ) → end ≤ to → lies end end → (from ≤ end) × Part steps first from end) → (from ≤ to) × Part steps first from to
  block_part false around first lies from to block each = each to (omega arith) block
  block_part true around first lies from to (end, is, low, close, before) each =
      let whole = each end (omega (arith, is)) before in
      (omega (arith, is, whole.0), part_joined steps first from end to whole.0 (omega (arith, is)) whole.1 (steady_part steps first 0 end to (close_steady steps None first 0 around end to close is)))

  shut_part : (flow : Flow) (around before : Around) (first from to : ℕ) → IsKnown first from before → first ≤ from → ExitBehind before.exit to → FlowNamed flow
      → IsFlowBlock steps around (captures_flow steps flow) (λ ends end. (inside : Around) × FlowLies steps before inside ends flow from end) from to → (from ≤ to) × Part steps first from to
  shut_part flow around before first from to ready low exit each block =
      block_part (captures_flow steps flow) around first (λ ends end. (inside : Around) × FlowLies steps before inside ends flow from end) from to block
      (λ end within lies. let found = each before lies.0 end from end first ready low (behind_earlier before.exit to end within exit) lies.1 in (found.rises, found.part))

  break_part : (exit : Option Exit) (first from to : ℕ) (around : Around) → around.captured ≤ around.count → KnownBetween first from around exit → ExitBehind exit to
      → BreakLies steps around exit from to → (from ≤ to) × Part steps first from to
  break_part None first from to around low known behind lies = absurd lies
  break_part (Some exit) first from to around low known behind (inl (straight, jump, ends)) =
      (omega (arith, ends), steady_part steps first 0 from to (jump_steady steps None first 0 exit.place from to jump.1 (inl (omega (arith, ends, behind))) ends))
  break_part (Some exit) first from to around low known behind (inr (closed, close, jump, ends)) = (
    omega (arith, ends),
    steady_part steps first 0 from to
        (both_steady steps None first 0 from (suc from) to
        (one_steady steps None first 0 from (suc from) (StepKind.Close exit.locals (around.declared exit.locals)) close.1 refl tt
        (λ step there closes. known exit.locals (omega arith) (omega (arith, closed, low))))
        (jump_steady steps None first 0 exit.place (suc from) to jump.1 (inl (omega (arith, ends, behind))) ends)),
  )

  -- ---- statements

  step_named : (before behind : Around) (ends step : ℕ) (from to first : ℕ) → IsKnown first from before → first ≤ from → StepLies steps before behind ends step from to
      → Named first before behind from to
  step_named before behind ends step from to first ready low (here, next, inl (act, same)) =
      same_named before behind from to first ready same (omega (arith, next), steady_part steps first 0 from to (one_steady steps None first 0 from to StepKind.Act act.1 next tt (λ step there. tt)))
  step_named before behind ends step from to first ready low (here, next, inr (captured, declaration, declares)) =
      record {
        rises = omega (arith, next);
        ready = known_declared from captured before behind first from to ready low (omega (arith, next)) (omega (arith, next)) declares;
        exit = declares.exit;
        part = steady_part steps first 0 from to (one_steady steps None first 0 from to (StepKind.Declaration ends captured) declaration.1 next tt (λ step there. tt));
      }

  -- the first CLOSE of a `repeat` names a local of its body
  first_close : (inside : Around) (count finish from start tested : ℕ) → inside.exit ≡ Some (record { place = finish; locals = count }) → start ≤ tested → IsKnown from start inside
      → IsClose steps inside tested count
      → AllSteady steps (Some from) from finish tested (suc tested)
  first_close inside count finish from start tested exit low ready close =
      one_steady steps (Some from) from finish tested (suc tested) (StepKind.Close count (declares_active inside count)) close.1 refl tt
      (λ step there closes.
      let same = told_base steps inside tested close.0 step there in
      active (nat_lt count inside.count) (named_later from start tested (inside.declared count) low (known count (omega arith) (omega (arith, same, closes)))))
    where
      known : (register : ℕ) → count ≤ register → register < inside.count → NamedBetween from start (inside.declared register)
      known = subst (KnownBetween from start inside) exit ready.known

      active : (holds : Bool) → NamedBetween from tested (inside.declared count) → NamedBetween from tested (if holds then inside.declared count else None)
      active true named = named
      active false named = tt

  variables_steady : (hidden : Around) (captured : Bool) (from finish end foot : ℕ) → VariablesLie steps hidden captured end foot → AllSteady steps (Some from) from finish end foot
  variables_steady hidden true from finish end foot lies = close_steady steps (Some from) from finish hidden end foot lies.1 lies.0
  variables_steady hidden false from finish end foot lies = none_steady steps (Some from) from finish end foot (omega (arith, lies))

  -- an arm, its jump to the end, and what stands behind it
  arm_part : (first : ℕ) (logic : Logic) (from start last to : ℕ) → from ≤ start → start ≤ last → suc last ≤ to → LogicLies steps logic false (suc last) from start → Jumps steps last to
      → Part steps first start last → Part steps first (suc last) to → Part steps first from to
  arm_part first logic from start last to low high ends tests jump block rest =
      part_joined steps first from start to low (omega (arith, high, ends))
      (steady_part steps first 0 from start (logic_steady steps None first 0 logic false (suc last) from start tests (inl (omega (arith, high)))))
      (part_joined steps first start last to high (omega (arith, ends)) block
      (part_joined steps first last (suc last) to (omega arith) ends
      (steady_part steps first 0 last (suc last) (jump_steady steps None first 0 to last (suc last) jump (inl (omega (arith, ends))) refl))
      rest))

  mutual
    flow_named : (flow : Flow) (before behind : Around) (ends from to first : ℕ) → IsKnown first from before → first ≤ from → ExitBehind before.exit to
        → FlowLies steps before behind ends flow from to → Named first before behind from to
    flow_named no_flow before behind ends from to first ready low exit (same, ended) =
        same_named before behind from to first ready same (omega (arith, ended), steady_part steps first 0 from to (none_steady steps None first 0 from to (omega (arith, ended))))
    flow_named (and_flow s rest) before behind ends from to first ready low exit (well, mid, between, begins, goes, one, others) =
        let head = statement_named s before between ends from mid first ready low (behind_earlier before.exit to mid goes exit) one in
        let tail = flow_named rest between behind ends mid to first head.ready (omega (arith, low, begins)) (subst (λ e. ExitBehind e to) (sym head.exit) exit) others in
        record { rises = omega (arith, begins, goes); ready = tail.ready; exit = tail.exit ∙ head.exit; part = part_joined steps first from mid to begins goes head.part tail.part }

    statement_named : (s : FlowStatement) (before behind : Around) (ends from to first : ℕ) → IsKnown first from before → first ≤ from → ExitBehind before.exit to
        → FlowStatementLies steps before behind ends s from to → Named first before behind from to
    statement_named (step_flow step) before behind ends from to first ready low exit lies = step_named before behind ends step from to first ready low lies
    statement_named (return_flow step) before behind ends from to first ready low exit (same, here, at, next) =
        same_named before behind from to first ready same
        (omega (arith, next), steady_part steps first 0 from to (one_steady steps None first 0 from to StepKind.Return at.1 next tt (λ step there. tt)))
    statement_named break_flow before behind ends from to first ready low exit (same, lies) =
        same_named before behind from to first ready same (break_part before.exit first from to before ready.captured ready.known exit lies)
    statement_named (do_flow body) before behind ends from to first ready low exit (same, block) =
        same_named before behind from to first ready same (shut_part body before before first from to ready low exit (flow_named body) block)
    statement_named (while_flow logic body) before behind ends from to first ready low exit (same, start, back, begins, goes, tests, told, block, jump, next) =
        let inner = shut_part body before (in_loop to before) from start back (known_loop to from start before ready.captured) begins (omega (arith, next)) (flow_named body) block in
        same_named before behind from to first ready same (
          omega (arith, begins, goes, next),
          loop_part steps first from start back to low begins (omega (arith, next)) (logic_steady steps (Some from) from to logic false to from start tests (inl (omega (arith, goes, next)))) inner.1
              (jump_steady steps (Some from) from to from back to jump.1 (inr refl) next),
        )
    statement_named (repeat_flow body logic) before behind ends from to first ready low exit (same, start, inside, begins, inl (none, goes, lies, tests, told)) =
        let inner = flow_named body (in_loop to before) inside to from start from (known_loop to from from before ready.captured) (omega arith) goes lies in
        same_named before behind from to first ready same (
          omega (arith, begins, goes),
          loop_part steps first from from start to low (omega arith) goes (none_steady steps (Some from) from to from from (omega arith)) inner.part
              (logic_steady steps (Some from) from to logic false from start to tests (inr refl)),
        )
    statement_named (repeat_flow body logic) before behind ends from to first ready low exit (same, start, inside, begins, inr (some, tested, high, lies, tests, told, close, out, anew, back, next)) =
        let inner = flow_named body (in_loop to before) inside (tested + 2) from start from (known_loop to from from before ready.captured) (omega arith) (omega (arith, high, next)) lies in
        same_named before behind from to first ready same (
          omega (arith, begins, high, next),
          loop_part steps first from from start to low (omega arith) (omega (arith, high, next)) (none_steady steps (Some from) from to from from (omega arith)) inner.part
              (both_steady steps (Some from) from to start tested to (logic_steady steps (Some from) from to logic false (tested + 2) start tested tests (inl (omega arith)))
              (both_steady steps (Some from) from to tested (suc tested) to (first_close inside before.count to from start tested inner.exit high inner.ready close)
              (both_steady steps (Some from) from to (suc tested) (tested + 2) to
              (subst (λ n. AllSteady steps (Some from) from to n (tested + 2)) next_place
              (jump_steady steps (Some from) from to to (tested + 1) (tested + 2) out.1 (inl (omega (arith, next))) (omega arith)))
              (both_steady steps (Some from) from to (tested + 2) (tested + 3) to (close_steady steps (Some from) from to before (tested + 2) (tested + 3) anew (omega arith))
              (jump_steady steps (Some from) from to from (tested + 3) to back.1 (inr refl) (omega (arith, next))))))),
        )
      where
        next_place : tested + 1 ≡ suc tested
        next_place = omega arith
    statement_named (for_flow step numeric body) before behind ends from to first ready low exit (
      same,
      here,
      foot,
      variables_end,
      captured,
      hidden,
      inside,
      small,
      head,
      hides,
      declares,
      begins,
      block,
      variables,
      footed,
      next,
    ) =
        let looped = known_loop to from from before ready.captured in
        let ready_hidden = known_declared from false (in_loop to before) hidden from from (suc from) looped (omega arith) (omega arith) (omega arith) hides.0 in
        let ready_inside = known_declared from captured hidden inside from (suc from) (suc from) ready_hidden (omega arith) (omega arith) (omega arith) declares in
        let is : inside.exit ≡ Some (record { place = to; locals = before.count }) = declares.exit ∙ hides.0.exit in
        let before_foot = variables_low steps hidden captured variables_end foot variables in
        let within = subst (λ e. ExitBehind e variables_end) (sym is) (omega (arith, before_foot, next)) in
        let inner = shut_part body inside inside from (suc from) variables_end ready_inside (omega arith) within (flow_named body) block in
        same_named before behind from to first ready same (
          omega (arith, begins, before_foot, next),
          loop_part steps first from (suc from) variables_end to low (omega arith) (omega (arith, before_foot, next))
              (one_steady steps (Some from) from to from (suc from) (StepKind.Head numeric foot to variables_end captured) head.1 refl (refl, omega (arith, next)) (λ step there. tt)) inner.1
              (both_steady steps (Some from) from to variables_end foot to (variables_steady hidden captured from to variables_end foot variables)
              (one_steady steps (Some from) from to foot to (StepKind.Foot numeric (suc from)) footed.1 next tt (λ step there. tt))),
        )
    statement_named (if_flow logic body rest) before behind ends from to first ready low exit (same, lies) =
        same_named before behind from to first ready same
        (arms_named rest logic body before from to first ready low exit lies
        (λ start stop below within block.
        shut_part body before before first start stop (known_later first from start before below ready) (omega (arith, low, below))
        (behind_earlier before.exit to stop within exit) (flow_named body) block))

    arms_named : (rest : FlowArms) (logic : Logic) (block : Flow) (around : Around) (from to first : ℕ) → IsKnown first from around → first ≤ from → ExitBehind around.exit to
        → ArmLies steps around logic (captures_flow steps block) (λ from ends end. (inside : Around) × FlowLies steps around inside ends block from end) rest from to
        → ((start stop : ℕ) → from ≤ start → stop ≤ to
        → IsFlowBlock steps around (captures_flow steps block) (λ ends end. (inside : Around) × FlowLies steps around inside ends block start end) start stop
        → (start ≤ stop) × Part steps first start stop)
        → (from ≤ to) × Part steps first from to
    arms_named no_more logic first_block around from to first ready low exit (start, begins, goes, tests, told, block) each = (
      omega (arith, begins, goes),
      part_joined steps first from start to begins goes
          (steady_part steps first 0 from start (logic_steady steps None first 0 logic false to from start tests (inl goes)))
          (each start to begins (omega arith) block).1,
    )
    arms_named (else_flow body) logic first_block around from to first ready low exit (start, last, begins, goes, ends, tests, told, block, jump, other) each = (
      omega (arith, begins, goes, ends),
      arm_part first logic from start last to begins goes ends tests jump.1 (each start last begins (omega (arith, ends)) block).1
          (shut_part body around around first (suc last) to (known_later first from (suc last) around (omega (arith, begins, goes)) ready)
          (omega (arith, low, begins, goes)) exit (flow_named body) other).1,
    )
    arms_named (elseif_flow next body rest) logic first_block around from to first ready low exit (start, last, begins, goes, ends, tests, told, block, jump, others) each = (
      omega (arith, begins, goes, ends),
      arm_part first logic from start last to begins goes ends tests jump.1 (each start last begins (omega (arith, ends)) block).1
          (arms_named rest next body around (suc last) to first (known_later first from (suc last) around (omega (arith, begins, goes)) ready) (omega (arith, low, begins, goes)) exit others
          (λ start stop below within block.
          shut_part body around around first start stop (known_later first from start around (omega (arith, begins, goes, below)) ready) (omega (arith, low, begins, goes, below))
          (behind_earlier around.exit to stop within exit) (flow_named body) block)).1,
    )

-- on all steps of a function
pub closes_are_named : (steps : List Step) → (flow : Flow) → (before behind : Around) → AtBeginning before → FlowLies steps before behind (length steps) flow 0 (length steps) → ClosesAreNamed steps
closes_are_named steps flow before behind beginning lies place step from declaration there kind closes =
    (found.1, λ first last turns low high. found.2 first last turns (omega arith) low high (ends first last turns low))
  where
    within : (at : ℕ) (step : Step) → slice_get steps at ≡ Some step → at < length steps
    within at step there = by (slice_get_cases steps at).1
      where
        by : ((found : Step) × (at < length steps) × (slice_get steps at ≡ Some found) × (get_or steps at found ≡ found)) ⊎ ((length steps ≤ at) × (slice_get steps at ≡ None)) → at < length steps
        by (inl found) = found.1
        by (inr past) = absurd (none-some step (sym past.1 ∙ there))

    part : Part steps 0 0 (length steps)
    part =
        (flow_named steps flow before behind (length steps) 0 (length steps) 0
        (record { captured = beginning.1; known = subst (KnownBetween 0 0 before) (sym beginning.0) tt }) (omega arith)
        (subst (λ exit. ExitBehind exit (length steps)) (sym beginning.0) tt) lies).part

    found : (0 ≤ declaration) × (declaration < place) × ((begin last : ℕ) → Turns steps begin last → 0 ≤ begin → begin ≤ place → place ≤ last → last < length steps → begin ≤ declaration)
    found = part.named place step from declaration (omega arith) (within place step there) there kind closes

    ends : (first last : ℕ) → Turns steps first last → first ≤ place → last < length steps
    ends first last (inl turns) low = let jump = (back_is steps first last turns).1 in within last jump.0 jump.1
    ends first last (inr head) low = let here = within place step there in part.ahead first last (omega arith) (omega (arith, low, here)) head.1
