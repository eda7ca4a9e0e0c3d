-- A `repeat` that never goes back and whose exit no jump uses, or is that of the body, is found as what its block is found as.
use Rattle.std.proofs.Common.{◌≡◌, ◌∙◌, ◌≤◌, ◌<◌, ◌+◌, ◌⊎◌, inl, inr, refl, sym, ap, subst, ℕ, suc, Bool, true, false, List, length, Some, arith}
use Rattle.std.specs.Prelude.{◌||◌, nat_le, nat_lt}
use Rattle.std.proofs.lemmas.Bool.{false≢true}
use Rattle.recover_expr.specs.declared.steps.Step.{Step}
use Rattle.recover_expr.specs.declared.steps.StepKind.{StepKind}
use Rattle.recover_flow.specs.Asked.{goes_ahead, is_other, is_reached}
use Rattle.recover_flow.specs.Flow.{Around, BreakLies, FlowStatement, step_flow, return_flow, break_flow, do_flow, while_flow, repeat_flow, for_flow, if_flow, FlowLies, FlowStatementLies, captures_flow, in_loop}
use Rattle.recover_flow.specs.Forms.{choice_at}
use Rattle.recover_flow.specs.Lying.{Jumps}
use Rattle.recover_flow.specs.declared.regions.BodyAt.{BodyAt}
use Rattle.recover_flow.specs.declared.regions.Piece.{Piece}
use Rattle.recover_flow.proofs.CapturedOwn.{one_between}
use Rattle.recover_flow.proofs.FlowMoves.{all_told_moved, at_moved, block_moved, moved_to, statement_moved}
use Rattle.recover_flow.proofs.LoopsFound.{jumps_is}
use Rattle.recover_flow.proofs.OnceFound.{is_straight, loop_exit}
use Rattle.recover_flow.proofs.StepsFound.{both_true, le_is, lt_is}

-- the loop does not run once by itself: a jump goes to its exit, which is another one than that of the body, and its first statement is a loop or stands by itself
abbrev pub IsTangled : List Step → BodyAt → Piece → Around → Type 0
IsTangled steps at piece before = (is_straight (choice_at steps at piece) ≡ false) × (is_other at.exit (Some (loop_exit steps at piece before)) ≡ true) × (is_reached steps piece.to piece.from piece.to ≡ true)

-- its exit is the one of the loop around, or no jump goes there
abbrev pub Exits : List Step → BodyAt → Piece → Around → Type 0
Exits steps at piece before = (before.exit ≡ Some (loop_exit steps at piece before)) ⊎ ((is_reached steps piece.to piece.from piece.to ≡ false) ⊎ IsTangled steps at piece before)

-- a statement that does not break out of the loop around it, by its kind
abbrev pub IsClosed : FlowStatement → Type 0
IsClosed break_flow = ⊥
IsClosed (do_flow body) = ⊥
IsClosed (if_flow logic body rest) = ⊥
IsClosed s = Unit {0}

pub no_part : (a b : Bool) → (a || b) ≡ false → (a ≡ false) × (b ≡ false)
no_part true b is = absurd (false≢true (sym is))
no_part false b is = (refl, is)

module _ (steps : List Step) (at : BodyAt) (piece : Piece) (before : Around) (fits : piece.to ≤ length steps) where
  pub same_around : before.exit ≡ Some (loop_exit steps at piece before) → before ≡ in_loop piece.to before
  same_around same = ap (λ e. moved_to e before) same

  -- no break goes there
  pub no_break : is_reached steps piece.to piece.from piece.to ≡ false → (around : Around) (from to : ℕ) → piece.from ≤ from → to ≤ piece.to → BreakLies steps around (Some (loop_exit steps at piece before)) from to → ⊥
  no_break none around from to low high lies = by lies
    where
      reaches : (place : ℕ) → piece.from ≤ place → place < piece.to → Jumps steps place piece.to → ⊥
      reaches place least most jump =
          absurd (false≢true (sym none ∙ both_true (nat_le piece.to (length steps)) _ (le_is piece.to (length steps) fits)
          (one_between (goes_ahead steps piece.to) piece.from piece.to place least most (both_true (nat_lt place piece.to) _ (lt_is place piece.to most) (jumps_is steps place piece.to jump)))))

      by : BreakLies steps around (Some (loop_exit steps at piece before)) from to → ⊥
      by (inl (straight, jump, next)) = reaches from low (omega (arith, next, high)) jump.1
      by (inr (closed, close, jump, next)) = reaches (suc from) (omega (arith, low)) (omega (arith, next, high)) jump.1

  -- a statement that does not break out of the loop around it stands as well outside of it
  pub moved_closed : (s : FlowStatement) (mid : ℕ) → IsClosed s → ((other : ℕ) → FlowStatementLies steps (in_loop piece.to before) (in_loop piece.to before) other s piece.from mid) → (other : ℕ) → FlowStatementLies steps before before other s piece.from mid
  moved_closed (step_flow step) mid closed lies = λ other. at_step other (lies other)
    where
      at_step : (other : ℕ) → FlowStatementLies steps (in_loop piece.to before) (in_loop piece.to before) other (step_flow step) piece.from mid → FlowStatementLies steps before before other (step_flow step) piece.from mid
      at_step other (here, next, inl (act, same)) = (here, next, inl (at_moved steps before.exit (in_loop piece.to before) piece.from StepKind.Act act, refl))
      at_step other (here, next, inr (captured, declaration, declares)) = let more = declares.more in absurd (omega (arith, more))
  moved_closed (return_flow step) mid closed lies = let one = lies 0 in λ other. (refl, one.1, at_moved steps before.exit (in_loop piece.to before) piece.from StepKind.Return one.2, one.3)
  moved_closed break_flow mid closed lies = absurd closed
  moved_closed (do_flow body) mid closed lies = absurd closed
  moved_closed (while_flow logic body) mid closed lies = λ other. at_while (lies other)
    where
      at_while : FlowStatementLies steps (in_loop piece.to before) (in_loop piece.to before) 0 (while_flow logic body) piece.from mid → FlowStatementLies steps before before 0 (while_flow logic body) piece.from mid
      at_while (same, start, back, begins, goes, tests, told, block, jump, next) = (
        refl,
        start,
        back,
        begins,
        goes,
        tests,
        all_told_moved steps before.exit (in_loop piece.to before) piece.from start told,
        block_moved steps before.exit (in_loop piece.to before) (captures_flow steps body) (λ ends end. (inside : Around) × FlowLies steps (in_loop mid before) inside ends body start end)
            (λ ends end. (inside : Around) × FlowLies steps (in_loop mid before) inside ends body start end) start back (λ ends end within l. l) block,
        at_moved steps before.exit (in_loop piece.to before) back (StepKind.Jump piece.from) jump,
        next,
      )
  moved_closed (repeat_flow body logic) mid closed lies = λ other. at_repeat (lies other)
    where
      at_repeat : FlowStatementLies steps (in_loop piece.to before) (in_loop piece.to before) 0 (repeat_flow body logic) piece.from mid → FlowStatementLies steps before before 0 (repeat_flow body logic) piece.from mid
      at_repeat (same, start, inside, begins, inl l) = (refl, start, inside, begins, inl l)
      at_repeat (same, start, inside, begins, inr (some, tested, high, l, tests, told, close, out, again, back, next)) =
          (refl, start, inside, begins, inr (some, tested, high, l, tests, told, close, out, at_moved steps before.exit (in_loop piece.to before) (tested + 2) _ again, at_moved steps before.exit (in_loop piece.to before) (tested + 3) (StepKind.Jump piece.from) back, next))
  moved_closed (for_flow step numeric body) mid closed lies = λ other. at_for (lies other)
    where
      at_for : FlowStatementLies steps (in_loop piece.to before) (in_loop piece.to before) 0 (for_flow step numeric body) piece.from mid → FlowStatementLies steps before before 0 (for_flow step numeric body) piece.from mid
      at_for (same, here, foot, variables_end, captured, hidden, inside, short, head, hides, declares, begins, block, variables, footed, next) =
          (refl, here, foot, variables_end, captured, hidden, inside, short, at_moved steps before.exit (in_loop piece.to before) piece.from _ head, hides, declares, begins, block, variables, footed, next)
  moved_closed (if_flow logic body rest) mid closed lies = absurd closed

  -- a statement stands as well outside of the loop, or may break out of it
  pub moved_out : (s : FlowStatement) (mid : ℕ) → mid ≤ piece.to → Exits steps at piece before → ((other : ℕ) → FlowStatementLies steps (in_loop piece.to before) (in_loop piece.to before) other s piece.from mid)
      → ((other : ℕ) → FlowStatementLies steps before before other s piece.from mid) ⊎ IsTangled steps at piece before
  moved_out s mid high (inl same) lies = inl (λ other. subst (λ a. FlowStatementLies steps a a other s piece.from mid) (sym (same_around same)) (lies other))
  moved_out s mid high (inr (inl none)) lies =
      inl (λ other. statement_moved steps (Some (loop_exit steps at piece before)) before.exit piece.from piece.to (no_break none) s (in_loop piece.to before) (in_loop piece.to before) other piece.from mid refl (omega arith) high (lies other))
  moved_out (step_flow step) mid high (inr (inr tangled)) lies = inl (moved_closed (step_flow step) mid tt lies)
  moved_out (return_flow step) mid high (inr (inr tangled)) lies = inl (moved_closed (return_flow step) mid tt lies)
  moved_out break_flow mid high (inr (inr tangled)) lies = inr tangled
  moved_out (do_flow body) mid high (inr (inr tangled)) lies = inr tangled
  moved_out (while_flow logic body) mid high (inr (inr tangled)) lies = inl (moved_closed (while_flow logic body) mid tt lies)
  moved_out (repeat_flow body logic) mid high (inr (inr tangled)) lies = inl (moved_closed (repeat_flow body logic) mid tt lies)
  moved_out (for_flow step numeric body) mid high (inr (inr tangled)) lies = inl (moved_closed (for_flow step numeric body) mid tt lies)
  moved_out (if_flow logic body rest) mid high (inr (inr tangled)) lies = inr tangled
