-- Statements of a `repeat` that stand before the end of the first piece stand as well in front of it: their breaks are those of the loop around.
use Rattle.std.proofs.Common.{◌≡◌, ◌∙◌, ◌≤◌, ◌<◌, ◌-◌, ◌⊎◌, inl, inr, refl, sym, ap, subst, ℕ, suc, Bool, true, false, List, ◌∷◌, Option, None, Some, arith}
use Rattle.std.specs.Prelude.{◌||◌, nat_le, slice_get, option_and_then, option_map}
use Rattle.std.proofs.lemmas.Bool.{and_parts}
use Rattle.std.proofs.lemmas.Bool.Decides.{nat_tests}
use Rattle.recover_expr.specs.declared.steps.Step.{Step}
use Rattle.recover_expr.specs.declared.steps.StepKind.{StepKind}
use Rattle.recover_flow.specs.Asked.{closes_before, closes_from, is_this, jump_of, kind_at, leaves, leaves_with, target_of}
use Rattle.recover_flow.specs.Cutting.{pieces_from}
use Rattle.recover_flow.specs.Flow.{Around, BreakLies, Declares, Flow, no_flow, and_flow, FlowStatement, step_flow, FlowLies, FlowStatementLies, IsAt, IsTold, flow_statement_levels, in_loop}
use Rattle.recover_flow.specs.Logic.{AreLevelled}
use Rattle.recover_flow.specs.Lying.{Jumps, TestGoes}
use Rattle.recover_flow.specs.declared.cuts.Reach.{Reach}
use Rattle.recover_flow.specs.declared.regions.BodyAt.{BodyAt}
use Rattle.recover_flow.specs.declared.regions.Exit.{Exit}
use Rattle.recover_flow.specs.declared.regions.Piece.{Piece}
use Rattle.recover_flow.proofs.Boundaries.{IsFresh}
use Rattle.recover_flow.proofs.CutFacts.{Before, IsCut, LeavesAt}
use Rattle.recover_flow.proofs.FlowInside.{ClosesAreNamed, ExitBehind, IsReady, LocalsWithin}
use Rattle.recover_flow.proofs.FlowMoves.{Grown, at_moved, calmed, calmed_calm, calmed_levels, calmed_lies, flow_moved_by, moved_to, statement_flat, statement_moved_by, step_levels_least}
use Rattle.recover_flow.proofs.FlowParts.{flat_captures, goes_before}
use Rattle.recover_flow.proofs.FlowPieces.{IsBody}
use Rattle.recover_flow.proofs.FormsLie.{same_numbers}
use Rattle.recover_flow.proofs.HardFront.{first_within}
use Rattle.recover_flow.proofs.LogicRest.{FlatFlow, NoneLast, join_flow, join_lies}
use Rattle.recover_flow.proofs.PartsInside.{order}
use Rattle.recover_flow.proofs.BlocksFound.{IsQuiet}

module _ (steps : List Step) (levelled : AreLevelled steps) (named : ClosesAreNamed steps) (at : BodyAt) (ends : ℕ) (piece : Piece) (others : List Piece) (before : Around) (from first bound : ℕ) (captures : Bool) (reach : Reach) (is_body : IsBody steps at before.exit ends) (begins : at.from ≤ from)
    (ready : IsReady first before) (low_first : first ≤ from) (goes : from < piece.to) (below : piece.to ≤ at.to) (fresh : IsFresh from reach) (pieces : pieces_from steps at (at.to - from) from reach ≡ Some (piece ∷ others)) (is_cut : IsCut steps at is_body.small is_body.fits from piece.to) (ends_in : at.to ≤ at.locals_end) where
  -- statements up to a place, which others follow, go on to the end of the piece at least
  pub flow_within : (flow more : Flow) (between behind : Around) (to : ℕ) → from < to → to ≤ at.to → NoneLast flow → FlowLies steps before between ends flow from to → FlowLies steps between behind ends more to at.to → piece.to ≤ to
  flow_within no_flow more between behind to some stops calm (same, ended) others_at = absurd (omega (arith, ended, some))
  flow_within (and_flow s rest) more between behind to some stops calm (well, mid, next, starts, ends_at, one, rest_at) others_at =
      by (order from mid) (statement_flat steps s before next ends from mid one) (λ same here. flow_within rest more between behind to some stops calm.1 (subst (λ n. FlowLies steps before between ends rest n to) here (subst (λ a. FlowLies steps a between ends rest mid to) same rest_at)) others_at)
    where
      by : (from < mid) ⊎ (mid ≤ from) → ((next ≡ before) × ((other : ℕ) → FlowStatementLies steps before before other s from mid))
          ⊎ ((mid ≡ suc from) × ((step : ℕ) × (s ≡ step_flow step) × (captured : Bool) × IsAt steps before from (StepKind.Declaration ends captured) × Declares from captured before next)) → (next ≡ before → mid ≡ from → piece.to ≤ to) → piece.to ≤ to
      by (inl past) flat rec =
          let known = first_within steps levelled named at ends piece others before from first bound captures reach is_body begins ready low_first goes below fresh pieces is_cut ends_in s (join_flow rest more) next behind mid past (omega (arith, ends_at, stops)) one
          (join_lies steps rest more next between behind ends mid to at.to stops calm.1 rest_at others_at) in
          omega (arith, known, ends_at)
      by (inr none) (inl flat) rec = rec flat.0 (omega (arith, none, starts))
      by (inr none) (inr declared) rec = absurd (omega (arith, declared.0, none))

  module _ (quiet : IsQuiet at.to before) (mid : ℕ) (ahead : piece.to < mid) (within : mid ≤ at.to) where
    -- in the `repeat`
    abbrev pub inner : Around
    inner = in_loop mid before

    abbrev pub loop : Exit
    loop = record { place = mid; locals = before.count }

    -- where a jump goes that is across the end of the piece
    leaving : (place target : ℕ) → from ≤ place → place < piece.to → piece.to < target → kind_at steps place ≡ Some (StepKind.Jump target) → (exit : Exit) × (before.exit ≡ Some exit) × (target ≡ exit.place) × (leaves steps place exit ≡ true)
    leaving place target low high_place past jump = by (goes_before steps at is_body.small is_body.fits from piece.to is_cut place target low high_place (ap (λ found. option_and_then target_of found) jump))
      where
        by : (target ≤ piece.to) ⊎ LeavesAt steps at is_body.small is_body.fits place target → (exit : Exit) × (before.exit ≡ Some exit) × (target ≡ exit.place) × (leaves steps place exit ≡ true)
        by (inl stays) = absurd (omega (arith, stays, past))
        by (inr (exit, is, same, out)) = (exit, is_body.same exit is, same, out)

    -- so many locals are captured there, or a CLOSE is before
    captured_or_closed : (around : Around) (place : ℕ) (exit : Exit) (kind : StepKind) → IsAt steps around place kind → leaves steps place exit ≡ true → (around.captured ≤ exit.locals) ⊎ (closes_before steps place exit.locals ≡ true)
    captured_or_closed around place exit kind is out = by (nat_le is.0.step.captured exit.locals) refl parts.1
      where
        parts : (is_this (jump_of is.0.step.kind) exit.place ≡ true) × ((nat_le is.0.step.captured exit.locals || closes_before steps place exit.locals) ≡ true)
        parts = and_parts (is_this (jump_of is.0.step.kind) exit.place) (nat_le is.0.step.captured exit.locals || closes_before steps place exit.locals) (sym (ap (leaves_with steps place exit) is.0.there) ∙ out)

        same : is.0.step.captured ≡ around.captured
        same = is.0.captured

        by : (low : Bool) → nat_le is.0.step.captured exit.locals ≡ low → (low || closes_before steps place exit.locals) ≡ true → (around.captured ≤ exit.locals) ⊎ (closes_before steps place exit.locals ≡ true)
        by true low passes = inl (let known : is.0.step.captured ≤ exit.locals = grind (arith, nat_tests) in omega (arith, known, same))
        by false low passes = inr passes

    -- a jump across the end of the piece is a break out of the loop around
    pub jump_out : (around : Around) (place target : ℕ) → from ≤ place → place < piece.to → piece.to < target → target ≤ mid → IsAt steps around place (StepKind.Jump target) → around.captured ≡ before.captured
        → (exit : Exit) × (before.exit ≡ Some exit) × (target ≡ exit.place) × (around.captured ≤ exit.locals)
    jump_out around place target low high_place past ends_at jump same =
        let out = leaving place target low high_place past jump.1 in
        let behind : ExitBehind (Some out.0) at.to = subst (λ e. ExitBehind e at.to) out.1 is_body.behind in
        let known = quiet out.0 out.1 (omega (arith, behind, out.2, ends_at, within)) in
        (out.0, out.1, out.2, omega (arith, known, same))

    breaks_out : (around : Around) (u v : ℕ) → from ≤ u → v ≤ piece.to → Grown before around → BreakLies steps around (Some loop) u v → BreakLies steps (moved_to before.exit around) before.exit u v
    breaks_out around u v least most grown (inl (straight, jump, next)) =
        let out = jump_out around u mid least (omega (arith, most, next)) ahead (omega arith) jump (grown.2 straight) in
        subst (λ e. BreakLies steps (moved_to before.exit around) e u v) (sym out.1)
        (inl (out.3, at_moved steps before.exit around u _ (subst (λ n. IsAt steps around u (StepKind.Jump n)) out.2 jump), next))
    breaks_out around u v least most grown (inr (closed, close, jump, next)) =
        let out = leaving (suc u) mid (omega (arith, least)) (omega (arith, most, next)) ahead jump.1 in
        let same : before.count ≡ out.0.locals = by out.0 out.1 (captured_or_closed around (suc u) out.0 (StepKind.Jump mid) jump out.3) in
        let is_loop : loop ≡ out.0 = ap (λ n. record { place = n; locals = before.count }) out.2 ∙ ap (λ n. record { place = out.0.place; locals = n }) same in
        subst (λ e. BreakLies steps (moved_to before.exit around) e u v) (ap Some is_loop ∙ sym out.1)
        (inr (closed, at_moved steps before.exit around u _ close, at_moved steps before.exit around (suc u) _ jump, next))
      where
        by : (exit : Exit) → before.exit ≡ Some exit → (around.captured ≤ exit.locals) ⊎ (closes_before steps (suc u) exit.locals ≡ true) → before.count ≡ exit.locals
        by exit is (inl captured) = let known : LocalsWithin (Some exit) before.count = subst (λ e. LocalsWithin e before.count) is ready.locals in absurd (omega (arith, captured, closed, known))
        by exit is (inr closes_it) = same_numbers before.count exit.locals (sym (ap (closes_from exit.locals) close.1) ∙ closes_it)

    grown_inner : Grown before inner
    grown_inner = (omega arith, (λ register low. refl), λ low. refl)

    -- statements before the end of the piece, in front of the `repeat`
    pub flow_out : (flow : Flow) (other begin to : ℕ) → from ≤ begin → to ≤ piece.to → FlowLies steps inner inner other flow begin to → FlowLies steps before before other flow begin to
    flow_out flow other begin to low stops lies = flow_moved_by steps (Some loop) before.exit from piece.to before breaks_out flow inner inner other begin to refl grown_inner low stops lies

    pub statement_out : (s : FlowStatement) (between : Around) (other begin to : ℕ) → from ≤ begin → to ≤ piece.to → FlowStatementLies steps inner between other s begin to → FlowStatementLies steps before (moved_to before.exit between) other s begin to
    statement_out s between other begin to low stops lies = statement_moved_by steps (Some loop) before.exit from piece.to before breaks_out s inner between other begin to refl grown_inner low stops lies

    pub flat_out : (begin to more : ℕ) → from ≤ begin → to ≤ piece.to → FlatFlow steps inner begin to more → FlatFlow steps before begin to more
    flat_out begin to more low stops flat = record { flow = flat.flow; lies = λ other. flow_out flat.flow other begin to low stops (flat.lies other); low = flat.low; none = flat.none; calm = flat.calm }

    -- one that need not be the last one
    pub statement_flat_out : (s : FlowStatement) (to more : ℕ) → from ≤ to → to ≤ piece.to → ((other : ℕ) → FlowStatementLies steps inner inner other s from to) → flow_statement_levels steps s ≤ more → FlatFlow steps before from to (suc more)
    statement_flat_out s to more low stops lies levels =
        let deep = calmed_levels steps s in
        let some = step_levels_least steps s in
        record {
          flow = and_flow (calmed steps s) no_flow;
          lies = λ other. (tt, to, before, low, omega arith, calmed_lies steps s before before other from to low (statement_out s inner other from to (omega arith) stops (lies other)), (refl, refl));
          low = omega (arith, deep, some, levels);
          none = flat_captures steps s before 0 from to (statement_out s inner 0 from to (omega arith) stops (lies 0));
          calm = (calmed_calm steps s, tt);
        }

    -- where tests before the end of the piece go
    pub tests_stay : (place goal : ℕ) (negated sense : Bool) → from ≤ place → place < piece.to → TestGoes negated sense goal (kind_at steps place) → goal ≤ piece.to
    tests_stay place goal negated sense low high_place test = by (slice_get steps place) refl test
      where
        by : (found : Option Step) → slice_get steps place ≡ found → TestGoes negated sense goal (option_map (λ (s : Step). s.kind) found) → goal ≤ piece.to
        by None there test = absurd test
        by (Some step) there test = at_kind step.kind (is_cut.each place step low high_place there) test
          where
            at_kind : (kind : StepKind) → Before steps at is_body.small is_body.fits from piece.to place step.base kind → TestGoes negated sense goal (Some kind) → goal ≤ piece.to
            at_kind StepKind.Act here test = absurd test
            at_kind StepKind.Return here test = absurd test
            at_kind (StepKind.Test when to levels) here test = omega (arith, here, test.0)
            at_kind (StepKind.Declaration end captured) here test = absurd test
            at_kind (StepKind.Jump to) here test = absurd test
            at_kind (StepKind.Close close declared) here test = absurd test
            at_kind (StepKind.Head numeric foot end variables_end captured) here test = absurd test
            at_kind (StepKind.Foot numeric to) here test = absurd test

    -- where jumps of a condition before it go
    pub jumps_leave : (place goal : ℕ) → from ≤ place → place < piece.to → piece.to < goal → goal ≤ mid → Jumps steps place goal → IsTold steps before place → BreakLies steps before before.exit place (suc place)
    jumps_leave place goal low high_place past ends_at jump told =
        let out = jump_out before place goal low high_place past ends_at (told, jump) refl in
        subst (λ e. BreakLies steps before e place (suc place)) (sym out.1) (inl (out.3, subst (λ n. IsAt steps before place (StepKind.Jump n)) out.2 (told, jump), refl))
