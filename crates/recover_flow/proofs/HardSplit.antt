-- A `repeat` around the end of the first piece comes apart there: behind its last jump back, or else what stands before the end in front of it, and the rest in a `repeat` of its own.
use Rattle.std.proofs.Common.{◌≡◌, ◌≤◌, ◌<◌, ◌+◌, ◌-◌, ◌⊎◌, inl, inr, refl, sym, ap, subst, ℕ, zero, suc, max, Bool, true, false, List, ◌∷◌, Some, arith}
use Rattle.std.specs.Prelude.{option_and_then}
use Rattle.recover_expr.specs.declared.steps.Step.{Step}
use Rattle.recover_flow.specs.Asked.{goes_back, target_at, target_of}
use Rattle.recover_flow.specs.Cutting.{pieces_from}
use Rattle.recover_flow.specs.Flow.{AreTold, Around, BreakLies, Flow, no_flow, and_flow, repeat_flow, FlowLies, FlowStatementLies, captures_flow, flow_levels, flow_statement_levels, in_loop, logic_room}
use Rattle.recover_flow.specs.Logic.{AreLevelled, Logic, LogicLies}
use Rattle.recover_flow.specs.Lying.{Jumps}
use Rattle.recover_flow.specs.declared.cuts.Reach.{Reach}
use Rattle.recover_flow.specs.declared.regions.BodyAt.{BodyAt}
use Rattle.recover_flow.specs.declared.regions.Piece.{Piece}
use Rattle.recover_flow.proofs.Boundaries.{IsFresh}
use Rattle.recover_flow.proofs.CutFacts.{IsCut, LeavesAt, OwnAt, leaves_jumps, past_locals}
use Rattle.recover_flow.proofs.FirstStatement.{FirstAt}
use Rattle.recover_flow.proofs.FlowInside.{ClosesAreNamed, IsReady}
use Rattle.recover_flow.proofs.FlowMoves.{DeclaredIn, all_told_moved, flat_or_declared, flow_moved}
use Rattle.recover_flow.proofs.FlowParts.{declared_before, goes_before, past_least, target_goes_back}
use Rattle.recover_flow.proofs.FlowPieces.{IsBody}
use Rattle.recover_flow.proofs.FlowSplit.{back_uncut}
use Rattle.recover_flow.proofs.HardCases.{Nested, unwrapped_repeat}
use Rattle.recover_flow.proofs.HardFront.{FirstRepeat, Tail, flats_first}
use Rattle.recover_flow.proofs.HardOut.{flow_within}
use Rattle.recover_flow.proofs.HardParts.{hit_end}
use Rattle.recover_flow.proofs.HardRepeat.{EndsHard, repeat_split}
use Rattle.recover_flow.proofs.LogicBack.{last_back_cut}
use Rattle.recover_flow.proofs.LogicCut.{AnyTarget, Hits, any_target}
use Rattle.recover_flow.proofs.LogicRest.{FlatFlow, empty_flat, if_flat, join_flow, join_lies, lower_room, raise_flat}
use Rattle.recover_flow.proofs.PartsInside.{order}
use Rattle.recover_flow.proofs.BlocksFound.{IsQuiet}

module _ (steps : List Step) (levelled : AreLevelled steps) (named : ClosesAreNamed steps) (at : BodyAt) (ends : ℕ) (piece : Piece) (others : List Piece) (before : Around) (from first bound : ℕ) (captures : Bool) (reach : Reach) (is_body : IsBody steps at before.exit ends) (begins : at.from ≤ from)
    (ready : IsReady first before) (low_first : first ≤ from) (goes : from < piece.to) (below : piece.to ≤ at.to) (fresh : IsFresh from reach) (pieces : pieces_from steps at (at.to - from) from reach ≡ Some (piece ∷ others)) (is_cut : IsCut steps at is_body.small is_body.fits from piece.to) (ends_in : at.to ≤ at.locals_end) where
  -- one whose condition goes back to its beginning: that comes apart behind its last jump back
  back_first : (mid start less : ℕ) (body : Flow) (logic : Logic) (inside : Around) → piece.to < mid → from ≤ start → start ≤ mid → captures_flow steps body ≡ false → FlowLies steps (in_loop mid before) inside mid body from start → LogicLies steps logic false from start mid → AreTold steps inside start mid
      → logic_room steps logic ≤ less → flow_levels steps body ≤ less → 1 ≤ less → suc less ≤ bound → mid ≡ at.to → Tail steps levelled named at ends piece others before from first bound captures reach is_body begins ready low_first goes below fresh pieces is_cut ends_in mid → Hits steps start mid from → FirstAt steps before ends from piece.to at.to bound captures
  back_first mid start less body logic inside ahead goes_to stops none lies tests told room levels some most ended tail hit = by (flat_or_declared steps body (in_loop mid before) inside mid from start lies)
    where
      place_low : start ≤ hit.place
      place_low = hit.least

      place_high : hit.place < mid
      place_high = hit.most

      turns : (last : ℕ) → from ≤ last → target_at steps last ≡ Some from → goes_back steps from last ≡ true
      turns last low there = target_goes_back steps last from there low

      before_cut : (last : ℕ) → start ≤ last → last < mid → target_at steps last ≡ Some from → last < piece.to
      before_cut last low stop there = is_cut.back from last (omega arith) goes (omega (arith, stop, ended)) (turns last (omega (arith, goes_to, low)) there)

      -- no jump of the loop goes across the end of the piece
      stays : (place target last : ℕ) → from ≤ place → place ≤ last → last < mid → start ≤ last → target_at steps last ≡ Some from → target_at steps place ≡ Some target → target ≤ piece.to
      stays place target last low above stop later there goes_there =
          by (goes_before steps at is_body.small is_body.fits from piece.to is_cut place target low (omega (arith, above, before_cut last later stop there)) goes_there) (order piece.to target)
        where
          by : (target ≤ piece.to) ⊎ LeavesAt steps at is_body.small is_body.fits place target → (piece.to < target) ⊎ (target ≤ piece.to) → target ≤ piece.to
          by (inl within) past = within
          by out (inr within) = within
          by (inr (exit, is, same, out)) (inl past) =
              absurd (is_cut.free place target low (omega (arith, above, before_cut last later stop there)) past (subst (λ n. Jumps steps place n) (sym same) (leaves_jumps steps at is_body.small is_body.fits place exit out)) from last (omega arith) low above (omega (arith, stop, ended)) (turns last (omega (arith, goes_to, later)) there))

      no_break : (around : Around) (u v : ℕ) → from ≤ u → v ≤ start → BreakLies steps around (Some (record { place = mid; locals = before.count })) u v → ⊥
      no_break around u v least last (inl (straight, jump, next)) =
          let known = stays u mid hit.place least (omega (arith, last, next, place_low)) place_high place_low hit.there (ap (λ found. option_and_then target_of found) jump.1) in absurd (omega (arith, known, ahead))
      no_break around u v least last (inr (closed, close, jump, next)) =
          let known = stays (suc u) mid hit.place (omega (arith, least)) (omega (arith, last, next, place_low)) place_high place_low hit.there (ap (λ found. option_and_then target_of found) jump.1) in absurd (omega (arith, known, ahead))

      no_declared : DeclaredIn steps mid from start → ⊥
      no_declared declared = at_own (declared_before steps at is_body.small is_body.fits from piece.to is_cut declared.place mid declared.captured least (omega (arith, last, place_low, before_cut hit.place place_low place_high hit.there)) declared.there)
        where
          least : from ≤ declared.place
          least = declared.least

          last : declared.place < start
          last = declared.most

          at_own : (past_locals steps at is_body.small is_body.fits mid declared.captured ≤ piece.to) ⊎ OwnAt steps at is_body.small is_body.fits from declared.place mid → ⊥
          at_own (inl past) = let known = past_least steps at is_body.small is_body.fits from piece.to is_cut mid declared.captured in absurd (omega (arith, past, known, ahead))
          at_own (inr own) = own.2 from hit.place (omega arith) least (omega (arith, last, place_low)) (omega (arith, place_high, ended)) (turns hit.place (omega (arith, goes_to, place_low)) hit.there)

      by : ((inside ≡ in_loop mid before) × ((other : ℕ) → FlowLies steps (in_loop mid before) (in_loop mid before) other body from start)) ⊎ DeclaredIn steps mid from start → FirstAt steps before ends from piece.to at.to bound captures
      by (inr declared) = absurd (no_declared declared)
      by (inl (same, each)) =
          let r = last_back_cut steps levelled piece.to logic false from start mid goes_to (λ place last target low above stop there goes_there. stays place target last (omega (arith, goes_to, low)) above stop (omega (arith, low, above)) there goes_there) before_cut hit tests in
          let lower = lower_room steps r.first logic r.first_low in
          let rest_lower = lower_room steps r.rest logic r.rest_low in
          let r_past = r.past in
          let r_stops = r.stops in
          let r_within = r.within in
          let told_in = subst (λ a. AreTold steps a start mid) same told in
          let one : FlatFlow steps before from r.at (suc less) =
          record {
            flow = and_flow (repeat_flow body r.first) no_flow;
            lies = λ other. (
              tt,
              r.at,
              before,
              omega (arith, goes_to, r_past),
              omega arith,
              (
                refl,
                start,
                in_loop r.at before,
                goes_to,
                inl (
                  none,
                  omega (arith, r_past),
                  flow_moved steps (Some (record { place = mid; locals = before.count })) (Some (record { place = r.at; locals = before.count })) from start no_break body (in_loop mid before) (in_loop mid before) r.at from start refl (omega arith) (omega arith) (each r.at),
                  r.first_at,
                  (λ place low high. all_told_moved steps (Some (record { place = r.at; locals = before.count })) (in_loop mid before) start mid told_in place low (omega (arith, high, r_stops))),
                ),
              ),
              (refl, refl),
            );
            low = omega (arith, lower, room, levels, some);
            none = refl;
            calm = (refl, tt);
          } in
          let told_behind : AreTold steps before r.at mid = (λ place low high. all_told_moved steps before.exit (in_loop mid before) start mid told_in place (omega (arith, low, r_past)) high) in
          let two : FlatFlow steps before r.at mid (suc less) = if_flat steps before r.rest r.at mid mid less r_stops (omega arith) (r.rest_at mid) told_behind (omega (arith, rest_lower, room)) some (empty_flat steps before mid less) in
          let known = flow_within steps levelled named at ends piece others before from first bound captures reach is_body begins ready low_first goes below fresh pieces is_cut ends_in one.flow (join_flow two.flow tail.rest) before tail.behind r.at (omega (arith, goes_to, r_past)) (omega (arith, r_within, below)) one.calm (one.lies ends)
          (join_lies steps two.flow tail.rest before before tail.behind ends r.at mid at.to tail.stops two.calm (two.lies ends) tail.rest_at) in
          let here : r.at ≡ piece.to = omega (arith, known, r_within) in
          flats_first steps levelled named at ends piece others before from first bound captures reach is_body begins ready low_first goes below fresh pieces is_cut ends_in mid (raise_flat steps before from piece.to (suc less) bound most (subst (λ n. FlatFlow steps before from n (suc less)) here one)) (raise_flat steps before piece.to mid (suc less) bound most (subst (λ n. FlatFlow steps before n mid (suc less)) here two)) tail

  -- one that ends with the body
  hard_first : IsQuiet at.to before → (around : FirstRepeat steps levelled named at ends piece others before from first bound captures reach is_body begins ready low_first goes below fresh pieces is_cut ends_in) → around.mid ≡ at.to → FirstAt steps before ends from piece.to at.to bound captures ⊎ ((levels : ℕ) × (suc levels ≤ bound) × FirstRepeat steps levelled named at ends piece others before from first levels captures reach is_body begins ready low_first goes below fresh pieces is_cut ends_in)
  hard_first quiet around ended = by (around.lies 0)
    where
      mid : ℕ
      mid = around.mid

      ahead : piece.to < mid
      ahead = around.around

      levels : flow_statement_levels steps (repeat_flow around.body around.logic) ≤ bound
      levels = around.low

      less : ℕ
      less = max (max 1 (logic_room steps around.logic)) (flow_levels steps around.body)

      by : FlowStatementLies steps before before 0 (repeat_flow around.body around.logic) from around.mid → FirstAt steps before ends from piece.to at.to bound captures ⊎ ((levels : ℕ) × (suc levels ≤ bound) × FirstRepeat steps levelled named at ends piece others before from first levels captures reach is_body begins ready low_first goes below fresh pieces is_cut ends_in)
      by (same, start, inside, goes_to, inr (captured, tested, up, lies, tests, told, close, out, again, back, next)) =
          absurd (back_uncut steps levelled at is_body.small is_body.fits from piece.to is_cut ends_in from (tested + 3) around.mid (omega arith) goes ahead (omega (arith, next)) (omega (arith, ended)) (omega (arith, goes_to, up)) back.1)
      by (same, start, inside, goes_to, inl (none, stops, lies, tests, told)) = at_target (any_target steps around.logic false from start around.mid tests)
        where
          at_target : AnyTarget steps around.logic false from start around.mid → FirstAt steps before ends from piece.to at.to bound captures ⊎ ((levels : ℕ) × (suc levels ≤ bound) × FirstRepeat steps levelled named at ends piece others before from first levels captures reach is_body begins ready low_first goes below fresh pieces is_cut ends_in)
          at_target (inl hit) = inl (back_first around.mid start less around.body around.logic inside around.around goes_to stops none lies tests told (omega arith) (omega arith) (omega arith) (omega (arith, levels)) ended around.tail hit)
          at_target (inr any) = nested (unwrapped_repeat steps levelled named at ends piece others before from first bound captures reach is_body begins ready low_first goes below fresh pieces is_cut ends_in quiet around.mid around.around around.tail.stops around.logic start less inside stops any told (omega arith) (omega arith) (omega (arith, levels)) ended around.tail around.body lies none (omega arith))
            where
              nested : FirstAt steps before ends from piece.to at.to bound captures ⊎ Nested steps levelled named at ends piece others before from first bound captures reach is_body begins ready low_first goes below fresh pieces is_cut ends_in quiet around.mid around.around around.tail.stops around.logic start less inside stops any told (omega arith) (omega arith) (omega (arith, levels)) ended around.tail → FirstAt steps before ends from piece.to at.to bound captures ⊎ ((levels : ℕ) × (suc levels ≤ bound) × FirstRepeat steps levelled named at ends piece others before from first levels captures reach is_body begins ready low_first goes below fresh pieces is_cut ends_in)
              nested (inl found) = inl found
              nested (inr again) = inr (again.levels, again.low, again.around)

module _ (steps : List Step) (levelled : AreLevelled steps) (named : ClosesAreNamed steps) (at : BodyAt) (ends : ℕ) (piece : Piece) (others : List Piece) (before : Around) (from first : ℕ) (captures : Bool) (reach : Reach) (is_body : IsBody steps at before.exit ends) (begins : at.from ≤ from)
    (ready : IsReady first before) (low_first : first ≤ from) (goes : from < piece.to) (below : piece.to ≤ at.to) (fresh : IsFresh from reach) (pieces : pieces_from steps at (at.to - from) from reach ≡ Some (piece ∷ others)) (is_cut : IsCut steps at is_body.small is_body.fits from piece.to) (ends_in : at.to ≤ at.locals_end) where
  raised_first : (less bound : ℕ) → less ≤ bound → FirstAt steps before ends from piece.to at.to less captures → FirstAt steps before ends from piece.to at.to bound captures
  raised_first less bound low found =
      let one = found.statement_low in
      let two = found.rest_low in
      record {
        statement = found.statement;
        rest = found.rest;
        between = found.between;
        behind = found.behind;
        well = found.well;
        statement_at = found.statement_at;
        rest_at = found.rest_at;
        statement_low = omega (arith, one, low);
        rest_low = omega (arith, two, low);
        owns = found.owns;
      }

  split_by : (fuel bound : ℕ) → bound < fuel → IsQuiet at.to before → FirstRepeat steps levelled named at ends piece others before from first bound captures reach is_body begins ready low_first goes below fresh pieces is_cut ends_in → FirstAt steps before ends from piece.to at.to bound captures
  split_by zero bound fuelled quiet around = absurd (omega (arith, fuelled))
  split_by (suc fuel) bound fuelled quiet around = by (repeat_split steps levelled named at ends piece others before from first bound captures reach is_body begins ready low_first goes below fresh pieces is_cut ends_in around) (λ levels low again. split_by fuel levels (omega (arith, fuelled, low)) quiet again)
    where
      within : around.mid ≤ at.to
      within = around.tail.stops

      at_end : EndsHard steps levelled named at ends piece others before from first bound captures reach is_body begins ready low_first goes below fresh pieces is_cut ends_in around.mid → around.mid ≡ at.to
      at_end (inl hit) = (hit_end steps at before.exit ends from piece.to from around.mid is_body is_cut within hit).0
      at_end (inr same) = omega (arith, same, within, ends_in)

      by : FirstAt steps before ends from piece.to at.to bound captures ⊎ EndsHard steps levelled named at ends piece others before from first bound captures reach is_body begins ready low_first goes below fresh pieces is_cut ends_in around.mid → ((levels : ℕ) → suc levels ≤ bound → FirstRepeat steps levelled named at ends piece others before from first levels captures reach is_body begins ready low_first goes below fresh pieces is_cut ends_in → FirstAt steps before ends from piece.to at.to levels captures) → FirstAt steps before ends from piece.to at.to bound captures
      by (inl found) rec = found
      by (inr is_hard) rec = settled (hard_first steps levelled named at ends piece others before from first bound captures reach is_body begins ready low_first goes below fresh pieces is_cut ends_in quiet around (at_end is_hard))
        where
          settled : FirstAt steps before ends from piece.to at.to bound captures ⊎ ((levels : ℕ) × (suc levels ≤ bound) × FirstRepeat steps levelled named at ends piece others before from first levels captures reach is_body begins ready low_first goes below fresh pieces is_cut ends_in) → FirstAt steps before ends from piece.to at.to bound captures
          settled (inl found) = found
          settled (inr (levels, low, again)) = raised_first levels bound (omega (arith, low)) (rec levels low again)

  -- a `repeat` around the end of the first piece comes apart there, where none more is captured at the end of the loop around
  pub repeat_first : (bound : ℕ) → IsQuiet at.to before → FirstRepeat steps levelled named at ends piece others before from first bound captures reach is_body begins ready low_first goes below fresh pieces is_cut ends_in → FirstAt steps before ends from piece.to at.to bound captures
  repeat_first bound quiet around = split_by (suc bound) bound (omega arith) quiet around
