-- A `repeat` around the end of the first piece comes apart there, unless a jump before it goes to the exit, where that is the end of the body, or the `repeat` ends where the body's own locals do.
use Rattle.std.proofs.Common.{◌≡◌, ◌≤◌, ◌<◌, ◌-◌, ◌⊎◌, inl, inr, refl, sym, subst, ℕ, zero, suc, Bool, List, ◌∷◌, Some, arith}
use Rattle.recover_expr.specs.declared.steps.Step.{Step}
use Rattle.recover_flow.specs.Cutting.{pieces_from}
use Rattle.recover_flow.specs.Flow.{Around, FlowStatement, step_flow, return_flow, break_flow, do_flow, while_flow, repeat_flow, for_flow, if_flow, flow_statement_levels}
use Rattle.recover_flow.specs.Logic.{AreLevelled}
use Rattle.recover_flow.specs.declared.cuts.Reach.{Reach}
use Rattle.recover_flow.specs.declared.regions.BodyAt.{BodyAt}
use Rattle.recover_flow.specs.declared.regions.Piece.{Piece}
use Rattle.recover_flow.proofs.Boundaries.{IsFresh}
use Rattle.recover_flow.proofs.CutFacts.{IsCut}
use Rattle.recover_flow.proofs.FirstStatement.{FirstAt}
use Rattle.recover_flow.proofs.FlowHalved.{in_statement}
use Rattle.recover_flow.proofs.FlowInside.{ClosesAreNamed, IsReady}
use Rattle.recover_flow.proofs.FlowParts.{Found, Hard, HitsExit, IsHard}
use Rattle.recover_flow.proofs.FlowPieces.{IsBody}
use Rattle.recover_flow.proofs.HardFront.{FirstRepeat, flats_first}

module _ (steps : List Step) (levelled : AreLevelled steps) (named : ClosesAreNamed steps) (at : BodyAt) (ends : ℕ) (piece : Piece) (others : List Piece) (before : Around) (from first bound : ℕ) (captures : Bool) (reach : Reach) (is_body : IsBody steps at before.exit ends) (begins : at.from ≤ from)
    (ready : IsReady first before) (low_first : first ≤ from) (goes : from < piece.to) (below : piece.to ≤ at.to) (fresh : IsFresh from reach) (pieces : pieces_from steps at (at.to - from) from reach ≡ Some (piece ∷ others)) (is_cut : IsCut steps at is_body.small is_body.fits from piece.to) (ends_in : at.to ≤ at.locals_end) where
  -- such a one
  abbrev pub EndsHard : (mid : ℕ) → Type 0
  EndsHard mid = HitsExit steps at is_body.small is_body.fits from piece.to is_cut from mid ⊎ (mid ≡ at.locals_end)

  pub repeat_split : (around : FirstRepeat steps levelled named at ends piece others before from first bound captures reach is_body begins ready low_first goes below fresh pieces is_cut ends_in) → FirstAt steps before ends from piece.to at.to bound captures ⊎ EndsHard around.mid
  repeat_split around = at_bound bound refl
    where
      mid : ℕ
      mid = around.mid

      ahead : piece.to < mid
      ahead = around.around

      stops : mid ≤ at.to
      stops = around.tail.stops

      owned : ends ≡ at.locals_end
      owned = is_body.owned

      levels : flow_statement_levels steps (repeat_flow around.body around.logic) ≤ bound
      levels = around.low

      hard_by : (hard : Hard steps at is_body.small is_body.fits from piece.to is_cut from mid) → (s : FlowStatement) → IsHard steps at is_body.small is_body.fits from piece.to is_cut s hard.begin hard.end → EndsHard mid
      hard_by hard s is = by s is
        where
          most : hard.end ≤ mid
          most = hard.most

          least : from ≤ hard.begin
          least = hard.least

          hits : HitsExit steps at is_body.small is_body.fits from piece.to is_cut hard.begin hard.end → EndsHard mid
          hits hit =
              let near = hit.near in
              let later = hit.least in
              inl (record { exit = hit.exit; is = hit.is; near = omega (arith, near, most); place = hit.place; least = omega (arith, later, least); most = hit.most; jump = hit.jump })

          by : (s : FlowStatement) → IsHard steps at is_body.small is_body.fits from piece.to is_cut s hard.begin hard.end → EndsHard mid
          by (step_flow step) is = absurd is
          by (return_flow step) is = absurd is
          by break_flow is = absurd is
          by (do_flow inner) is = absurd is
          by (while_flow logic inner) is = absurd is
          by (for_flow step numeric inner) is = absurd is
          by (if_flow logic inner rest) hit = hits hit
          by (repeat_flow inner logic) (inl hit) = hits hit
          by (repeat_flow inner logic) (inr is) = let same : mid ≡ at.locals_end = omega (arith, is, most, stops, ends_in) in inr same

      by : Found steps at is_body.small is_body.fits from piece.to is_cut before ends from mid bound → FirstAt steps before ends from piece.to at.to bound captures ⊎ EndsHard mid
      by (inl (inl flats)) = inl (flats_first steps levelled named at ends piece others before from first bound captures reach is_body begins ready low_first goes below fresh pieces is_cut ends_in mid flats.0 flats.1 around.tail)
      by (inl (inr ending)) = let is = ending.is_end in let same : mid ≡ at.locals_end = omega (arith, is, owned) in inr (inr same)
      by (inr hard) = inr (hard_by hard hard.statement hard.hard)

      at_bound : (n : ℕ) → bound ≡ n → FirstAt steps before ends from piece.to at.to bound captures ⊎ EndsHard mid
      at_bound zero is = absurd (omega (arith, levels, is))
      at_bound (suc less) is =
          by (subst (λ n. Found steps at is_body.small is_body.fits from piece.to is_cut before ends from mid n) (sym is)
          (in_statement steps levelled at is_body.small is_body.fits from piece.to is_cut ends_in (repeat_flow around.body around.logic) before before 0 from mid ends less ready.captured (omega arith) goes ahead (omega (arith, stops, ends_in, owned)) (omega (arith, owned)) stops
          (omega (arith, levels, is)) (around.lies 0) (omega (arith, levels, is))))
