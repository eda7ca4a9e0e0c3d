-- What does not come apart at the end of a piece is found, if an `if` up to the end of the body is: every body is found by its first statement.
use Rattle.std.proofs.Common.{◌≡◌, ◌≤◌, ◌<◌, ◌+◌, ◌-◌, ◌⊎◌, inl, inr, sym, subst, ℕ, zero, suc, true, List, [], ◌∷◌, Some, arith}
use Rattle.recover_expr.specs.declared.steps.Step.{Step}
use Rattle.recover_flow.specs.Cutting.{pieces_from}
use Rattle.recover_flow.specs.Flow.{Around, Flow, FlowArms, FlowLies, FlowStatementLies, captures_flow, flow_levels}
use Rattle.recover_flow.specs.Logic.{AreLevelled, Logic}
use Rattle.recover_flow.specs.Plans.{Plans, no_plans, and_plan, if_plan, body_levels}
use Rattle.recover_flow.specs.Standing.{RestStands}
use Rattle.recover_flow.specs.declared.cuts.Reach.{Reach}
use Rattle.recover_flow.specs.declared.regions.BodyAt.{BodyAt}
use Rattle.recover_flow.specs.declared.regions.Piece.{Piece}
use Rattle.recover_flow.proofs.BlocksFound.{IsCalm, IsQuiet, Serves, calm_behind, quiet_in}
use Rattle.recover_flow.proofs.BodiesFound.{AnyStatement, HardFound, StatementsFound}
use Rattle.recover_flow.proofs.Boundaries.{IsFresh}
use Rattle.recover_flow.proofs.CutFacts.{IsCut, Others, first_piece}
use Rattle.recover_flow.proofs.FirstStatement.{FirstAt}
use Rattle.recover_flow.proofs.FlowInside.{ClosesAreNamed, IsReady, behind_earlier, rest_captures, statement_flow_in}
use Rattle.recover_flow.proofs.FlowPieces.{IsBody}
use Rattle.recover_flow.proofs.HardFront.{FirstRepeat, LastIf, first_within, unwrapped}
use Rattle.recover_flow.proofs.HardParts.{may_begin}
use Rattle.recover_flow.proofs.HardSplit.{repeat_first}
use Rattle.recover_flow.proofs.LastIf.{IsLastIf, LastIfFound}
use Rattle.recover_flow.proofs.LogicCut.{Hits}

module _ (steps : List Step) where
  module _ (levelled : AreLevelled steps) (named : ClosesAreNamed steps) (at : BodyAt) (statements : StatementsFound steps at (AnyStatement steps)) (last_ifs : LastIfFound steps at) where
    -- the statements behind a piece are found
    abbrev Rests : (piece : Piece) (others : List Piece) (ends first bound : ℕ) → Type 0
    Rests piece others ends first bound =
        (between after : Around) (next_flow : Flow) (next_reach : Reach) → IsBody steps at between.exit ends → Serves steps at.exit between.exit at.from at.to → IsReady first between → IsFresh piece.to next_reach → pieces_from steps at (at.to - piece.to) piece.to next_reach ≡ Some others
        → FlowLies steps between after ends next_flow piece.to at.to → flow_levels steps next_flow ≤ bound → (captures_flow steps next_flow ≡ true → at.may_capture ≡ true) → IsCalm at.to (captures_flow steps next_flow) between → (plans : Plans) × RestStands steps at others plans × (body_levels steps plans ≤ bound)

    -- the statements in the pieces from a place on
    pub rest_found : (most : ℕ) (pieces : List Piece) (flow : Flow) (before behind : Around) (ends from first bound : ℕ) (reach : Reach) → at.to ≤ from + most → IsBody steps at before.exit ends → Serves steps at.exit before.exit at.from at.to → at.to ≤ at.locals_end → IsReady first before → first ≤ from
        → at.from ≤ from → from ≤ at.to → IsFresh from reach → pieces_from steps at (at.to - from) from reach ≡ Some pieces → FlowLies steps before behind ends flow from at.to → flow_levels steps flow ≤ bound → bound ≤ 200
        → (captures_flow steps flow ≡ true → at.may_capture ≡ true) → IsCalm at.to (captures_flow steps flow) before → (plans : Plans) × RestStands steps at pieces plans × (body_levels steps plans ≤ bound)
    rest_found most [] flow before behind ends from first bound reach enough body serves within ready begins later goes fresh pieces lies levels bounded may calm = (no_plans, tt, omega arith)
    rest_found zero (piece ∷ others) flow before behind ends from first bound reach enough body serves within ready begins later goes fresh pieces lies levels bounded may calm =
        let found = first_piece steps at body.small body.fits from (at.to - from) reach piece others fresh (omega (arith, goes)) pieces in
        let is_cut = found.2 in
        let below = is_cut.below in
        absurd (omega (arith, enough, found.1, below))
    rest_found (suc most) (piece ∷ others) flow before behind ends from first bound reach enough body serves within ready begins later goes fresh pieces lies levels bounded may calm =
        let found = first_piece steps at body.small body.fits from (at.to - from) reach piece others fresh (omega (arith, goes)) pieces in
        let is_cut = found.2 in
        let below : piece.to ≤ at.to = is_cut.below in
        by found.0 found.1 below
        (settle is_cut found.1 below (unwrapped steps levelled named at ends piece others before from first bound (captures_flow steps flow) reach body later ready begins found.1 below fresh pieces is_cut within flow behind lies levels (λ is. is)))
        found.3
        (λ between after next_flow next_reach next_body next_serves next_ready next_fresh next_pieces next_lies next_levels next_may next_calm.
        rest_found most others next_flow between after ends piece.to first bound next_reach (omega (arith, enough, found.1)) next_body next_serves within next_ready (omega (arith, begins, found.1)) (omega (arith, later, found.1)) below next_fresh next_pieces
        next_lies next_levels bounded next_may next_calm)
      where
        -- the `if`, without what tells of the cut
        Ending : Type 0
        Ending = (piece.to < at.to) × ((logic : Logic) × (inner : Flow) × (arms : FlowArms) × IsLastIf steps at logic inner arms before ends from first bound)

        First : Type 0
        First = FirstAt steps before ends from piece.to at.to bound (captures_flow steps flow)

        LastAt : (is_cut : IsCut steps at body.small body.fits from piece.to) (past : from < piece.to) (below : piece.to ≤ at.to) → Type 0
        LastAt is_cut past below = LastIf steps levelled named at ends piece others before from first bound (captures_flow steps flow) reach body later ready begins past below fresh pieces is_cut within

        RepeatAt : (is_cut : IsCut steps at body.small body.fits from piece.to) (past : from < piece.to) (below : piece.to ≤ at.to) → Type 0
        RepeatAt is_cut past below = FirstRepeat steps levelled named at ends piece others before from first bound (captures_flow steps flow) reach body later ready begins past below fresh pieces is_cut within

        quiet : IsQuiet at.to before
        quiet = quiet_in at.to at.to (captures_flow steps flow) before (omega arith) calm

        reaches : Hits steps from piece.to at.to → (mid : ℕ) → piece.to ≤ mid → Hits steps from mid at.to
        reaches hit mid far = let low = hit.most in record { place = hit.place; least = hit.least; most = omega (arith, low, far); there = hit.there }

        ending : (is_cut : IsCut steps at body.small body.fits from piece.to) (past : from < piece.to) (below : piece.to ≤ at.to) → LastAt is_cut past below → Ending
        ending is_cut past below last = (
          last.around,
          (
            last.logic,
            last.body,
            last.arms,
            record {
              is_body = body;
              serves = serves;
              ready = ready;
              begins = begins;
              later = later;
              quiet = quiet;
              exit = last.exit;
              exit_is = last.exit_is;
              exit_place = last.exit_place;
              lies = last.lies;
              tested = last.tested;
              target = last.target;
              none_back = last.none_back;
              reached = λ s rest mid some stops one rest_at. reaches last.hit mid (first_within steps levelled named at ends piece others before from first bound (captures_flow steps flow) reach body later ready begins past below fresh pieces is_cut within s rest before before mid some stops one rest_at);
              low = last.low;
              bounded = bounded;
            },
          ),
        )

        settle : (is_cut : IsCut steps at body.small body.fits from piece.to) (past : from < piece.to) (below : piece.to ≤ at.to) → First ⊎ (LastAt is_cut past below ⊎ RepeatAt is_cut past below) → First ⊎ Ending
        settle is_cut past below (inl first_at) = inl first_at
        settle is_cut past below (inr (inl last)) = inr (ending is_cut past below last)
        settle is_cut past below (inr (inr around)) = inl (repeat_first steps levelled named at ends piece others before from first (captures_flow steps flow) reach body later ready begins past below fresh pieces is_cut within bound quiet around)

        by : piece.from ≡ from → from < piece.to → piece.to ≤ at.to → First ⊎ Ending
            → Others steps at body.small body.fits from (at.to - from) piece others → Rests piece others ends first bound → (plans : Plans) × RestStands steps at (piece ∷ others) plans × (body_levels steps plans ≤ bound)
        by here past below (inr (around, (logic, inner, arms, last))) next rec =
            let there = subst (λ n. IsLastIf steps at logic inner arms before ends n first bound) (sym here) last in
            let found = last_ifs piece logic inner arms before ends first bound there in
            (and_plan (if_plan found.0) no_plans, inr (may_begin steps at piece last.exit last.exit_is last.exit_place around there.target there.none_back, found.1), omega (arith, found.2))
        by here past below (inl found) next rec =
            let one = found.statement_at in
            let head = statement_flow_in steps named found.statement before found.between ends from piece.to first ready begins (behind_earlier before.exit at.to piece.to below body.behind) one in
            let same = head.exit in
            let counted = next.counted in
            let left : next.left ≡ at.to - piece.to = omega (arith, counted, goes, below) in
            let plan = statements piece found.statement before found.between ends first bound tt
            (record {
              body = body;
              serves = serves;
              ready = ready;
              begins = omega (arith, begins, here);
              later = omega (arith, later, here);
              some = omega (arith, past, here);
              within = below;
              ends_in = within;
              quiet = quiet_in piece.to at.to (captures_flow steps flow) before below calm;
              lies = subst (λ n. FlowStatementLies steps before found.between ends found.statement n piece.to) (sym here) one;
              low = found.statement_low;
              bounded = bounded;
              rest = found.rest;
              behind = found.behind;
              well = found.well;
              rest_lies = found.rest_at;
              may = λ is. may (found.owns is);
              others = others;
              reach = reach;
              fresh = subst (λ n. IsFresh n reach) (sym here) fresh;
              pieces = subst (λ n. pieces_from steps at (at.to - n) n reach ≡ Some (piece ∷ others)) (sym here) pieces;
            }) in
            let more = rec found.between found.behind found.rest next.reach (subst (λ e. IsBody steps at e ends) (sym same) body) (subst (λ e. Serves steps at.exit e at.from at.to) (sym same) serves) head.ready next.fresh
            (subst (λ n. pieces_from steps at n piece.to next.reach ≡ Some others) left next.pieces) found.rest_at found.rest_low (λ is. may (found.owns (rest_captures steps found.statement found.rest is)))
            (calm_behind steps found.statement found.rest before found.between ends from piece.to at.to (captures_flow steps flow) one found.owns calm) in
            (and_plan plan.0 more.0, inl (plan.1, more.1), omega (arith, plan.2, more.2))

-- what does not come apart at the end of a piece is found
pub hard_found : (steps : List Step) → AreLevelled steps → ClosesAreNamed steps → (at : BodyAt) → StatementsFound steps at (AnyStatement steps) → LastIfFound steps at → HardFound steps at
hard_found steps levelled named at statements last_ifs piece others flow before behind ends first bound reach body serves within ready begins later goes fresh pieces lies levels bounded may calm is_cut around =
    rest_found steps levelled named at statements last_ifs (at.to - piece.from) (piece ∷ others) flow before behind ends piece.from first bound reach (omega (arith, goes)) body serves within ready begins later goes fresh pieces lies levels bounded may calm
