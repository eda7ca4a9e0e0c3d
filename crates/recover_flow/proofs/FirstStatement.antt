-- The first piece of a body is one statement, and the rest of the body lies behind it, no deeper than the whole, unless a statement around the end of the piece does not come apart.
use Rattle.std.proofs.Common.{◌≡◌, ◌∙◌, ◌≤◌, ◌<◌, ◌-◌, ◌⊎◌, inl, inr, refl, sym, ap, subst, ℕ, suc, Bool, true, false, List, [], ◌∷◌, ◌++◌, Option, None, Some, arith}
use Rattle.std.specs.Prelude.{◌||◌}
use Rattle.std.proofs.lemmas.Option.{same_Some}
use Rattle.recover_expr.specs.declared.steps.Step.{Step}
use Rattle.recover_expr.specs.declared.steps.StepKind.{StepKind}
use Rattle.recover_flow.specs.Asked.{kind_at}
use Rattle.recover_flow.specs.Cutting.{pieces_from}
use Rattle.recover_flow.specs.Flow.{Around, Declares, EndsWell, Flow, no_flow, and_flow, FlowStatement, step_flow, return_flow, break_flow, do_flow, while_flow, repeat_flow, for_flow, if_flow, FlowLies, FlowStatementLies, IsAt, captures_flow, flow_levels, flow_statement_levels}
use Rattle.recover_flow.specs.Logic.{AreLevelled}
use Rattle.recover_flow.specs.Lying.{is_captured_at}
use Rattle.recover_flow.specs.declared.cuts.Reach.{Reach}
use Rattle.recover_flow.specs.declared.regions.BodyAt.{BodyAt}
use Rattle.recover_flow.specs.declared.regions.Piece.{Piece}
use Rattle.recover_flow.proofs.Boundaries.{IsFresh}
use Rattle.recover_flow.proofs.CutFacts.{IsCut, Others, first_piece}
use Rattle.recover_flow.proofs.FlowHalved.{halved}
use Rattle.recover_flow.proofs.FlowInside.{ClosesAreNamed, IsReady, behind_earlier, rest_captures, statement_flow_in}
use Rattle.recover_flow.proofs.FlowMoves.{exit_kept, statement_flat}
use Rattle.recover_flow.proofs.FlowParts.{Hard}
use Rattle.recover_flow.proofs.FlowPieces.{IsBody, first_cut, has_pieces}
use Rattle.recover_flow.proofs.FlowSplit.{Halves}
use Rattle.recover_flow.proofs.LogicRest.{NoneLast, ends_well, join_flow, join_levels, join_lies}
use Rattle.recover_flow.proofs.LyingParts.{FollowOn}
use Rattle.recover_flow.proofs.PartsInside.{order}

join_nothing : (flow : Flow) → join_flow flow no_flow ≡ flow
join_nothing no_flow = refl
join_nothing (and_flow s rest) = ap (and_flow s) (join_nothing rest)

-- the first of pieces that follow one another ends with them or before
pub first_ends : (those others : List Piece) (piece : Piece) (more : List Piece) (from to : ℕ) → from < to → FollowOn those from to → those ++ others ≡ piece ∷ more → piece.to ≤ to
first_ends [] others piece more from to low follow is = absurd (omega (arith, low, follow))
first_ends (first ∷ those) others piece more from to low follow is = let same = same_Some first piece (ap first_of is) in subst (λ (p : Piece). p.to ≤ to) same follow.2
  where
    first_of : List Piece → Option Piece
    first_of [] = None
    first_of (x ∷ xs) = Some x

module _ (steps : List Step) where
  join_any : (one two : Flow) (before between behind : Around) (ends from mid to : ℕ) → mid ≤ to → NoneLast one ⊎ (two ≡ no_flow) → FlowLies steps before between ends one from mid → FlowLies steps between behind ends two mid to
      → FlowLies steps before behind ends (join_flow one two) from to
  join_any one two before between behind ends from mid to low (inl calm) first second = join_lies steps one two before between behind ends from mid to low calm first second
  join_any one two before between behind ends from mid to low (inr none) first second =
      let ended = subst (λ flow. FlowLies steps between behind ends flow mid to) none second in
      subst (λ flow. FlowLies steps before behind ends flow from to) (sym (ap (join_flow one) none ∙ join_nothing one)) (subst (λ a. FlowLies steps before a ends one from to) (sym ended.0) (subst (λ n. FlowLies steps before between ends one from n) (sym ended.1) first))

  pub join_owns : (one two : Flow) (may : Bool) → (captures_flow steps one ≡ true → may ≡ true) → (captures_flow steps two ≡ true → may ≡ true) → captures_flow steps (join_flow one two) ≡ true → may ≡ true
  join_owns no_flow two may first second is = second is
  join_owns (and_flow s rest) two may first second is = by s first (λ owns. join_owns rest two may owns second) is
    where
      by : (s : FlowStatement) → (captures_flow steps (and_flow s rest) ≡ true → may ≡ true) → ((captures_flow steps rest ≡ true → may ≡ true) → captures_flow steps (join_flow rest two) ≡ true → may ≡ true) → captures_flow steps (and_flow s (join_flow rest two)) ≡ true → may ≡ true
      by (step_flow step) first rec is = at_step (is_captured_at (kind_at steps step)) first is
        where
          at_step : (b : Bool) → ((b || captures_flow steps rest) ≡ true → may ≡ true) → (b || captures_flow steps (join_flow rest two)) ≡ true → may ≡ true
          at_step true first is = first refl
          at_step false first is = rec first is
      by (return_flow step) first rec is = rec first is
      by break_flow first rec is = rec first is
      by (do_flow body) first rec is = rec first is
      by (while_flow logic body) first rec is = rec first is
      by (repeat_flow body logic) first rec is = rec first is
      by (for_flow step numeric body) first rec is = rec first is
      by (if_flow logic body arms) first rec is = rec first is

-- a body whose first piece is a statement: the statement, and what lies behind it
pub record FirstAt (steps : List Step) (before : Around) (ends from mid to bound : ℕ) (captures : Bool) : Type 0 where
  pub statement : FlowStatement
  pub rest : Flow
  pub between : Around
  pub behind : Around
  pub well : EndsWell statement rest
  pub statement_at : FlowStatementLies steps before between ends statement from mid
  pub rest_at : FlowLies steps between behind ends rest mid to
  pub statement_low : flow_statement_levels steps statement ≤ bound
  pub rest_low : flow_levels steps rest ≤ bound
  pub owns : captures_flow steps (and_flow statement rest) ≡ true → captures ≡ true

module _ (steps : List Step) (levelled : AreLevelled steps) (named : ClosesAreNamed steps) (at : BodyAt) (ends : ℕ) (piece : Piece) (others : List Piece) where
  -- of statements up to the end of the first piece
  pub first_of : (left right : Flow) (before between behind : Around) (from first bound : ℕ) (captures : Bool) (reach : Reach) → IsBody steps at before.exit ends → at.from ≤ from → IsReady first before → first ≤ from → from < piece.to → piece.to ≤ at.to
      → IsFresh from reach → pieces_from steps at (at.to - from) from reach ≡ Some (piece ∷ others) → FlowLies steps before between ends left from piece.to → FlowLies steps between behind ends right piece.to at.to
      → NoneLast left ⊎ (right ≡ no_flow) → flow_levels steps left ≤ bound → flow_levels steps right ≤ bound → (captures_flow steps left ≡ true → captures ≡ true) → (captures_flow steps right ≡ true → captures ≡ true)
      → FirstAt steps before ends from piece.to at.to bound captures
  first_of no_flow right before between behind from first bound captures reach body begins ready low goes stops fresh pieces left_at right_at calm left_low right_low left_owns right_owns = absurd (omega (arith, left_at.1, goes))
  first_of (and_flow s rest) right before between behind from first bound captures reach body begins ready low goes stops fresh pieces (well, mid, next, starts, ends_at, one, left_rest) right_at calm left_low right_low left_owns right_owns =
      by (order from mid)
      (λ same. first_of rest right next between behind from first bound captures reach (subst (λ e. IsBody steps at e ends) (sym (exit_kept steps s before next ends from mid one)) body) begins
      (subst (IsReady first) (sym same.1) ready) low goes stops fresh pieces (subst (λ n. FlowLies steps next between ends rest n piece.to) same.0 left_rest) right_at (calm_rest calm) (omega (arith, left_low)) right_low (λ is. left_owns (rest_captures steps s rest is)) right_owns)
    where
      calm_rest : NoneLast (and_flow s rest) ⊎ (right ≡ no_flow) → NoneLast rest ⊎ (right ≡ no_flow)
      calm_rest (inl none) = inl none.1
      calm_rest (inr none) = inr none

      behind_mid : FlowLies steps next behind ends (join_flow rest right) mid at.to
      behind_mid = join_any steps rest right next between behind ends mid piece.to at.to stops (calm_rest calm) left_rest right_at

      well_joined : NoneLast (and_flow s rest) ⊎ (right ≡ no_flow) → EndsWell s (join_flow rest right)
      well_joined (inl none) = ends_well s (join_flow rest right) none.0
      well_joined (inr none) = subst (EndsWell s) (sym (ap (join_flow rest) none ∙ join_nothing rest)) well

      by : (from < mid) ⊎ (mid ≤ from) → ((mid ≡ from) × (next ≡ before) → FirstAt steps next ends from piece.to at.to bound captures) → FirstAt steps before ends from piece.to at.to bound captures
      by (inr empty) rec =
          let here : mid ≡ from = omega (arith, empty, starts) in
          let same = unmoved (statement_flat steps s before next ends from mid one) here in
          subst (λ a. FirstAt steps a ends from piece.to at.to bound captures) same (rec (here, same))
        where
          unmoved : ((next ≡ before) × ((other : ℕ) → FlowStatementLies steps before before other s from mid)) ⊎ ((mid ≡ suc from) × ((step : ℕ) × (s ≡ step_flow step) × (captured : Bool) × IsAt steps before from (StepKind.Declaration ends captured) × Declares from captured before next))
              → mid ≡ from → next ≡ before
          unmoved (inl flat) here = flat.0
          unmoved (inr declared) here = absurd (omega (arith, declared.0, here))
      by (inl some) rec =
          let head = statement_flow_in steps named s before next ends from mid first ready low (behind_earlier before.exit at.to mid (omega (arith, ends_at, stops)) body.behind) one in
          let cut = first_cut steps named at s (join_flow rest right) before next behind ends from mid first body begins ready low (omega (arith, ends_at, stops)) one behind_mid reach fresh in
          let more = has_pieces steps named (join_flow rest right) at next behind ends mid first (subst (λ e. IsBody steps at e ends) (sym head.exit) body) (omega (arith, begins, some)) head.ready (omega (arith, low, some)) (omega (arith, ends_at, stops)) behind_mid cut.1 cut.2 in
          let all = same_Some (cut.0 ++ more.0) (piece ∷ others) (sym (cut.4 more.0 more.1) ∙ pieces) in
          let within = first_ends cut.0 more.0 piece others from mid some cut.3 all in
          let here : mid ≡ piece.to = omega (arith, within, ends_at) in
          record {
            statement = s;
            rest = join_flow rest right;
            between = next;
            behind = behind;
            well = well_joined calm;
            statement_at = subst (λ n. FlowStatementLies steps before next ends s from n) here one;
            rest_at = subst (λ n. FlowLies steps next behind ends (join_flow rest right) n at.to) here behind_mid;
            statement_low = omega (arith, left_low);
            rest_low = join_levels steps rest right bound (omega (arith, left_low)) right_low;
            owns = join_owns steps (and_flow s rest) right captures left_owns right_owns;
          }

  -- the statement of the first piece of a body, and the rest of the body, in pieces
  pub first_statement : (flow : Flow) (before behind : Around) (from first bound : ℕ) (reach : Reach) → (body : IsBody steps at before.exit ends) → at.to ≤ at.locals_end → at.from ≤ from → IsReady first before → first ≤ from → from ≤ at.to → 1 ≤ bound
      → IsFresh from reach → pieces_from steps at (at.to - from) from reach ≡ Some (piece ∷ others) → FlowLies steps before behind ends flow from at.to → flow_levels steps flow ≤ bound
      → (piece.from ≡ from) × (from < piece.to) × (piece.to ≤ at.to)
      × (FirstAt steps before ends from piece.to at.to bound (captures_flow steps flow) ⊎ ((is_cut : IsCut steps at body.small body.fits from piece.to) × Hard steps at body.small body.fits from piece.to is_cut from at.to))
      × Others steps at body.small body.fits from (at.to - from) piece others
  first_statement flow before behind from first bound reach body within begins ready low goes some fresh pieces lies levels =
      let found = first_piece steps at body.small body.fits from (at.to - from) reach piece others fresh (omega (arith, goes)) pieces in
      let is_cut = found.2 in
      let below = is_cut.below in (
        found.0,
        found.1,
        below,
        by is_cut found.1 below
            (halved steps levelled at body.small body.fits from piece.to is_cut within flow before behind ends from at.to bound ready.captured (omega arith) (omega (arith, found.1)) below (omega (arith, within, body.owned)) (omega (arith, body.owned)) (omega arith) some lies levels),
        found.3,
      )
    where
      by : (is_cut : IsCut steps at body.small body.fits from piece.to) → from < piece.to → piece.to ≤ at.to
          → Halves steps levelled at body.small body.fits from piece.to is_cut within before behind ends from at.to bound (captures_flow steps flow) ⊎ Hard steps at body.small body.fits from piece.to is_cut from at.to
          → FirstAt steps before ends from piece.to at.to bound (captures_flow steps flow) ⊎ ((is_cut : IsCut steps at body.small body.fits from piece.to) × Hard steps at body.small body.fits from piece.to is_cut from at.to)
      by is_cut past below (inr hard) = inr (is_cut, hard)
      by is_cut past below (inl halves) =
          inl (first_of halves.left halves.right before halves.between halves.after from first bound (captures_flow steps flow) reach body begins ready low past below fresh pieces halves.left_at halves.right_at halves.calm halves.left_low halves.right_low halves.left_owns halves.right_owns)
