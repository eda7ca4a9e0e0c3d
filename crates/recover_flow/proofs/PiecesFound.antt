-- Statements that are pieces of a body are found by their kind, but for those whose blocks may come in their place, and for an `if`.
use Rattle.std.proofs.Common.{◌≡◌, ◌∙◌, ◌≤◌, ◌<◌, ◌-◌, ◌^◌, ◌⊎◌, inl, inr, refl, sym, ap, subst, ℕ, suc, true, false, List, length, Option, None, Some, arith}
use Rattle.std.specs.Prelude.{◌||◌}
use Rattle.std.proofs.lemmas.Bool.{false≢true}
use Rattle.std.proofs.lemmas.Option.{none-some, same_Some}
use Rattle.recover_expr.specs.declared.steps.Step.{Step}
use Rattle.recover_expr.specs.declared.steps.StepKind.{StepKind}
use Rattle.recover_flow.specs.Asked.{kind_at}
use Rattle.recover_flow.specs.Flow.{Around, BreakLies, EndsWell, Flow, no_flow, and_flow, FlowStatement, step_flow, return_flow, break_flow, do_flow, while_flow, repeat_flow, for_flow, if_flow, FlowLies, captures_flow, is_break}
use Rattle.recover_flow.specs.Forms.{is_enclosed}
use Rattle.recover_flow.specs.Logic.{AreLevelled, LogicIsFound}
use Rattle.recover_flow.specs.Lying.{Jumps, is_captured_at}
use Rattle.recover_flow.specs.Plans.{step_plan, end_plan, plan_levels, step_levels}
use Rattle.recover_flow.specs.Standing.{PlanStands}
use Rattle.recover_flow.specs.declared.plan.End.{End}
use Rattle.recover_flow.specs.declared.regions.BodyAt.{BodyAt}
use Rattle.recover_flow.specs.declared.regions.Exit.{Exit}
use Rattle.recover_flow.specs.declared.regions.Piece.{Piece}
use Rattle.recover_flow.proofs.BlocksFound.{BodyFound}
use Rattle.recover_flow.proofs.BodiesFound.{LighterFound, StatementsFound, lighter}
use Rattle.recover_flow.proofs.FlowInside.{ClosesAreNamed, ExitBehind, behind_earlier, first_captures}
use Rattle.recover_flow.proofs.LoopsFound.{while_found}
use Rattle.recover_flow.proofs.PartsInside.{order}
use Rattle.recover_flow.proofs.ScopesFound.{for_found}
use Rattle.recover_flow.proofs.StepsFound.{break_found, ending_last, ending_low, return_found, step_found}

-- statements that are found by their first step, or by their last one
abbrev pub IsPlain : FlowStatement → Type 0
IsPlain (step_flow step) = Unit {0}
IsPlain (return_flow step) = Unit {0}
IsPlain break_flow = Unit {0}
IsPlain (do_flow body) = ⊥
IsPlain (while_flow logic body) = Unit {0}
IsPlain (repeat_flow body logic) = ⊥
IsPlain (for_flow step numeric body) = Unit {0}
IsPlain (if_flow logic body rest) = ⊥

-- a `break` is the last statement
last_ends : (steps : List Step) (s : FlowStatement) (rest : Flow) (before behind : Around) (ends from to : ℕ) → is_break s ≡ true → EndsWell s rest → FlowLies steps before behind ends rest from to → to ≡ from
last_ends steps s no_flow before behind ends from to is well lies = lies.1
last_ends steps s (and_flow next rest) before behind ends from to is well lies = absurd (false≢true (sym well ∙ is))

module _ (steps : List Step) (levelled : AreLevelled steps) (small : length steps < 2 ^ 32) (logic_found : LogicIsFound) (named : ClosesAreNamed steps) (at : BodyAt) (others_found : LighterFound steps at) where
  -- the blocks of a piece are shorter than the body
  pub inner_found : (piece : Piece) → at.from ≤ piece.from → piece.to ≤ at.to → (inner : BodyAt) → piece.from ≤ inner.from → inner.to < piece.to → BodyFound steps inner
  inner_found piece later within inner low high = by (order (inner.to - inner.from) (at.to - at.from))
    where
      by : (inner.to - inner.from < at.to - at.from) ⊎ (at.to - at.from ≤ inner.to - inner.from) → BodyFound steps inner
      by (inl less) = others_found inner (lighter steps inner at less)
      by (inr more) = (λ flow before behind ends first body serves ends_in ready begins goes lies may levels calm. absurd (omega (arith, later, within, low, high, more, goes)))

  pub break_piece : (exit : Option Exit) (piece : Piece) (before : Around) → ((e : Exit) → exit ≡ Some e → at.exit ≡ Some e) → ExitBehind exit piece.to → BreakLies steps before exit piece.from piece.to → PlanStands steps at piece (end_plan End.Break (is_enclosed at piece))
  break_piece None piece before used behind lies = absurd lies
  break_piece (Some exit) piece before used behind lies = break_found steps at piece exit before (used exit refl) behind lies

  -- a jump of a break uses the exit
  pub break_uses : (exit : Option Exit) (piece : Piece) (before : Around) → ((e : Exit) → exit ≡ Some e → (place : ℕ) → at.from ≤ place → place < at.to → Jumps steps place e.place → at.exit ≡ Some e) → at.from ≤ piece.from → piece.to ≤ at.to
      → BreakLies steps before exit piece.from piece.to → (e : Exit) → exit ≡ Some e → at.exit ≡ Some e
  break_uses None piece before used later within lies e is = absurd (none-some e is)
  break_uses (Some exit) piece before used later within (inl (straight, jump, next)) e is =
      used e is piece.from later (omega (arith, within, next)) (subst (λ (x : Exit). Jumps steps piece.from x.place) (same_Some exit e is) jump.1)
  break_uses (Some exit) piece before used later within (inr (closed, close, jump, next)) e is =
      used e is (suc piece.from) (omega (arith, later)) (omega (arith, within, next)) (subst (λ (x : Exit). Jumps steps (suc piece.from) x.place) (same_Some exit e is) jump.1)

  pub plain_found : StatementsFound steps at IsPlain
  plain_found piece (step_flow step) before between ends first bound plain is =
      let body = is.body in
      let lies = is.lies in
      let low = is.low in
      let found = step_found steps at piece before between ends step body.owned lies (λ captured. is.may (first_captures steps (step_flow step) is.rest (own step lies.0 captured))) in
      (step_plan piece.from, found.0, omega (arith, found.1, low))
    where
      own : (step : ℕ) → step ≡ piece.from → kind_at steps piece.from ≡ Some (StepKind.Declaration ends true) → captures_flow steps (and_flow (step_flow step) no_flow) ≡ true
      own step here captured = ap (λ n. is_captured_at (kind_at steps n) || false) here ∙ ap (λ kind. is_captured_at kind || false) captured
  plain_found piece (return_flow step) before between ends first bound plain is =
      let lies = is.lies in
      let low = is.low in
      let here : step_levels steps step ≡ step_levels steps piece.from = ap (step_levels steps) lies.1 in
      let more = ending_low steps at piece (End.Return piece.from) (step_levels steps piece.from) in
      (end_plan (End.Return piece.from) (is_enclosed at piece), return_found steps at piece before lies.2 lies.3, omega (arith, more, here, low))
  plain_found piece break_flow before between ends first bound plain is =
      let lies = is.lies in
      let low = is.low in
      let body = is.body in
      let within = is.within in
      let last : at.to ≡ piece.to = last_ends steps break_flow is.rest between is.behind ends piece.to at.to refl is.well is.rest_lies in (
        end_plan End.Break (is_enclosed at piece),
        break_piece before.exit piece before (break_uses before.exit piece before body.used is.later within lies.1) (behind_earlier before.exit at.to piece.to within body.behind) lies.1,
        (let level : plan_levels steps (end_plan End.Break (is_enclosed at piece)) ≡ 1 = ending_last steps at piece 1 (sym last) in omega (arith, level, low)),
      )
  plain_found piece (do_flow body) before between ends first bound plain is = absurd plain
  plain_found piece (while_flow logic body) before between ends first bound plain is =
      let low = is.low in
      let bounded = is.bounded in
      let fits = is.body.fits in
      let within = is.within in
      let found = while_found steps levelled small logic_found at piece logic body before between ends is.lies (inr is.ready.captured) (omega (arith, fits, within)) (inner_found piece is.later within) (omega (arith, low, bounded)) in
      (found.0, found.1, omega (arith, found.2, low))
  plain_found piece (repeat_flow body logic) before between ends first bound plain is = absurd plain
  plain_found piece (for_flow step numeric body) before between ends first bound plain is =
      let low = is.low in
      let bounded = is.bounded in
      let fits = is.body.fits in
      let within = is.within in
      let found = for_found steps levelled small logic_found at piece named numeric body before between ends step is.lies is.ready.captured (omega (arith, fits, within)) (inner_found piece is.later within) (omega (arith, low, bounded)) in
      (found.0, found.1, omega (arith, found.2, low))
  plain_found piece (if_flow logic body rest) before between ends first bound plain is = absurd plain
