-- Where statements lie, locals end behind the step that declares them.
use Rattle.std.proofs.Common.{◌≡◌, ◌≤◌, ◌<◌, ◌+◌, ◌⊎◌, inl, inr, refl, sym, subst, ℕ, suc, Bool, true, false, List, length, get_or, slice_get, Option, None, Some, arith}
use Rattle.std.specs.Prelude.{option_map}
use Rattle.std.proofs.lemmas.Bool.{false≢true}
use Rattle.std.proofs.lemmas.Option.{slice_get_cases}
use Rattle.recover_expr.specs.declared.steps.Step.{Step}
use Rattle.recover_expr.specs.declared.steps.StepKind.{StepKind}
use Rattle.recover_flow.specs.Asked.{is_unit, kind_at}
use Rattle.recover_flow.specs.Flow.{Around, ArmLies, BreakLies, Flow, no_flow, and_flow, FlowStatement, step_flow, return_flow, break_flow, do_flow, while_flow, repeat_flow, for_flow, if_flow, FlowArms, no_more, else_flow, elseif_flow, FlowLies, FlowStatementLies, IsFlowBlock, VariablesLie, captures_flow, declares_active, in_loop}
use Rattle.recover_flow.specs.Logic.{Logic, LogicLies}
use Rattle.recover_flow.specs.Lying.{AreOrdered, EndsBehind}
use Rattle.recover_flow.specs.declared.regions.Exit.{Exit}
use Rattle.recover_flow.proofs.LoopsFound.{logic_units}
use Rattle.recover_flow.proofs.PartsInside.{order}

module _ (steps : List Step) where
  abbrev AllOrdered : (from to : ℕ) → Type 0
  AllOrdered from to = (place : ℕ) → from ≤ place → place < to → EndsBehind place (kind_at steps place)

  both_ordered : (from mid to : ℕ) → AllOrdered from mid → AllOrdered mid to → AllOrdered from to
  both_ordered from mid to one two place low high = by (order place mid)
    where
      by : (place < mid) ⊎ (mid ≤ place) → EndsBehind place (kind_at steps place)
      by (inl before) = one place low before
      by (inr behind) = two place behind high

  one_ordered : (place end : ℕ) (kind : StepKind) → kind_at steps place ≡ Some kind → end ≡ suc place → EndsBehind place (Some kind) → AllOrdered place end
  one_ordered place end kind is next ordered other low high =
      let same : place ≡ other = omega (arith, low, high, next) in
      subst (λ n. EndsBehind n (kind_at steps n)) same (subst (EndsBehind place) (sym is) ordered)

  none_ordered : (from to : ℕ) → to ≤ from → AllOrdered from to
  none_ordered from to none place low high = absurd (omega (arith, none, low, high))

  unit_ordered : (place : ℕ) (kind : Option StepKind) → is_unit kind ≡ true → EndsBehind place kind
  unit_ordered place None is = absurd (false≢true is)
  unit_ordered place (Some StepKind.Act) is = tt
  unit_ordered place (Some StepKind.Return) is = tt
  unit_ordered place (Some (StepKind.Declaration end captured)) is = absurd (false≢true is)
  unit_ordered place (Some (StepKind.Test when target negated)) is = tt
  unit_ordered place (Some (StepKind.Jump target)) is = tt
  unit_ordered place (Some (StepKind.Close from declared)) is = tt
  unit_ordered place (Some (StepKind.Head numeric foot end variables_end captured)) is = tt
  unit_ordered place (Some (StepKind.Foot numeric target)) is = tt

  logic_ordered : (logic : Logic) (sense : Bool) (target from to : ℕ) → LogicLies steps logic sense target from to → AllOrdered from to
  logic_ordered logic sense target from to lies place low high = unit_ordered place (kind_at steps place) (logic_units steps logic sense target from to lies place low high)

  block_ordered : (captures : Bool) (around : Around) (lies : (ends end : ℕ) → Type 0) (from to : ℕ) → IsFlowBlock steps around captures lies from to → ((end : ℕ) → lies end end → AllOrdered from end) → AllOrdered from to
  block_ordered false around lies from to block each = each to block
  block_ordered true around lies from to (end, is, low, close, before) each = both_ordered from end to (each end before) (one_ordered end to (StepKind.Close around.count (declares_active around around.count)) close.1 is tt)

  break_ordered : (exit : Option Exit) (around : Around) (from to : ℕ) → BreakLies steps around exit from to → AllOrdered from to
  break_ordered None around from to lies = absurd lies
  break_ordered (Some exit) around from to (inl (straight, jump, next)) = one_ordered from to (StepKind.Jump exit.place) jump.1 next tt
  break_ordered (Some exit) around from to (inr (closed, close, jump, next)) =
      both_ordered from (suc from) to (one_ordered from (suc from) (StepKind.Close exit.locals (around.declared exit.locals)) close.1 refl tt) (one_ordered (suc from) to (StepKind.Jump exit.place) jump.1 next tt)

  mutual
    pub flow_ordered : (flow : Flow) (before behind : Around) (ends from to : ℕ) → to ≤ ends → FlowLies steps before behind ends flow from to → AllOrdered from to
    flow_ordered no_flow before behind ends from to low lies = none_ordered from to (omega (arith, lies.1))
    flow_ordered (and_flow s rest) before behind ends from to low (well, mid, between, starts, stops, one, others) = both_ordered from mid to (statement_ordered s before between ends from mid (omega (arith, stops, low)) one) (flow_ordered rest between behind ends mid to low others)

    statement_ordered : (s : FlowStatement) (before behind : Around) (ends from to : ℕ) → to ≤ ends → FlowStatementLies steps before behind ends s from to → AllOrdered from to
    statement_ordered (step_flow step) before behind ends from to low (here, next, inl (act, same)) = one_ordered from to StepKind.Act act.1 next tt
    statement_ordered (step_flow step) before behind ends from to low (here, next, inr (captured, declaration, declares)) = one_ordered from to (StepKind.Declaration ends captured) declaration.1 next (omega (arith, next, low))
    statement_ordered (return_flow step) before behind ends from to low (same, here, at, next) = one_ordered from to StepKind.Return at.1 next tt
    statement_ordered break_flow before behind ends from to low (same, lies) = break_ordered before.exit before from to lies
    statement_ordered (do_flow body) before behind ends from to low (same, block) =
        block_ordered (captures_flow steps body) before (λ ends end. (inside : Around) × FlowLies steps before inside ends body from end) from to block (λ end lies. flow_ordered body before lies.0 end from end (omega arith) lies.1)
    statement_ordered (while_flow logic body) before behind ends from to low (same, start, back, begins, goes, tests, told, block, jump, next) =
        both_ordered from start to (logic_ordered logic false to from start tests)
        (both_ordered start back to
        (block_ordered (captures_flow steps body) before (λ ends end. (inside : Around) × FlowLies steps (in_loop to before) inside ends body start end) start back block (λ end lies. flow_ordered body (in_loop to before) lies.0 end start end (omega arith) lies.1))
        (one_ordered back to (StepKind.Jump from) jump.1 next tt))
    statement_ordered (repeat_flow body logic) before behind ends from to low (same, start, inside, begins, inl (none, goes, lies, tests, told)) =
        both_ordered from start to (flow_ordered body (in_loop to before) inside to from start goes lies) (logic_ordered logic false from start to tests)
    statement_ordered (repeat_flow body logic) before behind ends from to low (same, start, inside, begins, inr (captured, tested, high, lies, tests, told, close, out, again, back, next)) =
        both_ordered from start to (flow_ordered body (in_loop to before) inside (tested + 2) from start (omega (arith, high)) lies)
        (both_ordered start tested to (logic_ordered logic false (tested + 2) start tested tests)
        (both_ordered tested (tested + 1) to (one_ordered tested (tested + 1) (StepKind.Close before.count (declares_active inside before.count)) close.1 (omega arith) tt)
        (both_ordered (tested + 1) (tested + 2) to (one_ordered (tested + 1) (tested + 2) (StepKind.Jump to) out.1 (omega arith) tt)
        (both_ordered (tested + 2) (tested + 3) to (one_ordered (tested + 2) (tested + 3) (StepKind.Close before.count (declares_active before before.count)) again.1 (omega arith) tt)
        (one_ordered (tested + 3) to (StepKind.Jump from) back.1 (omega (arith, next)) tt)))))
    statement_ordered (for_flow step numeric body) before behind ends from to low (same, here, foot, variables_end, captured, hidden, inside, short, head, hides, declares, begins, block, variables, footed, next) =
        both_ordered from (suc from) to (one_ordered from (suc from) (StepKind.Head numeric foot to variables_end captured) head.1 refl tt)
        (both_ordered (suc from) variables_end to
        (block_ordered (captures_flow steps body) inside (λ ends end. (behind : Around) × FlowLies steps inside behind ends body (suc from) end) (suc from) variables_end block (λ end lies. flow_ordered body inside lies.0 end (suc from) end (omega arith) lies.1))
        (both_ordered variables_end foot to (variables_ordered captured variables) (one_ordered foot to (StepKind.Foot numeric (suc from)) footed.1 next tt)))
      where
        variables_ordered : (captured : Bool) → VariablesLie steps hidden captured variables_end foot → AllOrdered variables_end foot
        variables_ordered true lies = one_ordered variables_end foot (StepKind.Close hidden.count (declares_active hidden hidden.count)) lies.1.1 lies.0 tt
        variables_ordered false lies = none_ordered variables_end foot (omega (arith, lies))
    statement_ordered (if_flow logic body rest) before behind ends from to low (same, lies) =
        arms_ordered rest logic body before from to lies
        (λ start stop block. block_ordered (captures_flow steps body) before (λ ends end. (inside : Around) × FlowLies steps before inside ends body start end) start stop block (λ end lies. flow_ordered body before lies.0 end start end (omega arith) lies.1))

    arms_ordered : (rest : FlowArms) (logic : Logic) (block : Flow) (around : Around) (from to : ℕ) → ArmLies steps around logic (captures_flow steps block) (λ from ends end. (inside : Around) × FlowLies steps around inside ends block from end) rest from to
        → ((start stop : ℕ) → IsFlowBlock steps around (captures_flow steps block) (λ ends end. (inside : Around) × FlowLies steps around inside ends block start end) start stop → AllOrdered start stop) → AllOrdered from to
    arms_ordered no_more logic block around from to (start, begins, goes, tests, told, lies) each = both_ordered from start to (logic_ordered logic false to from start tests) (each start to lies)
    arms_ordered (else_flow body) logic block around from to (start, last, begins, goes, ends, tests, told, lies, jump, other) each =
        both_ordered from start to (logic_ordered logic false (suc last) from start tests)
        (both_ordered start last to (each start last lies)
        (both_ordered last (suc last) to (one_ordered last (suc last) (StepKind.Jump to) jump.1 refl tt)
        (block_ordered (captures_flow steps body) around (λ ends end. (inside : Around) × FlowLies steps around inside ends body (suc last) end) (suc last) to other (λ end lies. flow_ordered body around lies.0 end (suc last) end (omega arith) lies.1))))
    arms_ordered (elseif_flow next body rest) logic block around from to (start, last, begins, goes, ends, tests, told, lies, jump, others) each =
        both_ordered from start to (logic_ordered logic false (suc last) from start tests)
        (both_ordered start last to (each start last lies)
        (both_ordered last (suc last) to (one_ordered last (suc last) (StepKind.Jump to) jump.1 refl tt)
        (arms_ordered rest next body around (suc last) to others
        (λ start stop block. block_ordered (captures_flow steps body) around (λ ends end. (inside : Around) × FlowLies steps around inside ends body start end) start stop block (λ end lies. flow_ordered body around lies.0 end start end (omega arith) lies.1)))))

  -- on all steps of a function
  pub function_ordered : (flow : Flow) (before behind : Around) → FlowLies steps before behind (length steps) flow 0 (length steps) → AreOrdered steps
  function_ordered flow before behind lies place = by (slice_get_cases steps place).1
    where
      by : ((step : Step) × (place < length steps) × (slice_get steps place ≡ Some step) × (get_or steps place step ≡ step)) ⊎ ((length steps ≤ place) × (slice_get steps place ≡ None)) → EndsBehind place (kind_at steps place)
      by (inl (step, within, there, more)) = flow_ordered flow before behind (length steps) 0 (length steps) (omega arith) lies place (omega arith) within
      by (inr (past, none)) = subst (λ found. EndsBehind place (option_map (λ (step : Step). step.kind) found)) (sym none) tt
