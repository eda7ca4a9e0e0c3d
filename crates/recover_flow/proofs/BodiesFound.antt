-- A body is found piece by piece, if each statement that is a piece is found, and what does not come apart at the end of a piece; and so the statements of a function are found.
use Rattle.std.proofs.Common.{◌≡◌, ◌∙◌, ◌≤◌, ◌<◌, ◌+◌, ◌-◌, ◌*◌, ◌^◌, ◌⊎◌, inl, inr, refl, sym, subst, ℕ, zero, suc, max, Bool, true, false, List, [], ◌∷◌, length, slice_get, Option, None, Some, arith}
use Rattle.std.specs.Prelude.{option_map}
use Rattle.std.proofs.lemmas.Option.{none-some}
use Rattle.recover_expr.specs.declared.steps.Step.{Step}
use Rattle.recover_flow.specs.Asked.{is_other}
use Rattle.recover_flow.specs.Cutting.{pieces_from, pieces_of}
use Rattle.recover_flow.specs.Flow.{Around, AtBeginning, EndsWell, Flow, no_flow, and_flow, FlowStatement, step_flow, return_flow, break_flow, do_flow, while_flow, repeat_flow, for_flow, if_flow, FlowLies, FlowStatementLies, captures_flow, flow_levels, flow_statement_levels}
use Rattle.recover_flow.specs.Logic.{AreLevelled}
use Rattle.recover_flow.specs.Searching.{whole_body}
use Rattle.recover_flow.specs.Plans.{Plans, no_plans, and_plan, PlanTree, body_levels, plan_levels}
use Rattle.recover_flow.specs.Standing.{BodyStands, PlanStands, RestStands}
use Rattle.recover_flow.specs.declared.cuts.Reach.{Reach}
use Rattle.recover_flow.specs.declared.regions.BodyAt.{BodyAt}
use Rattle.recover_flow.specs.declared.regions.Exit.{Exit}
use Rattle.recover_flow.specs.declared.regions.Piece.{Piece}
use Rattle.recover_flow.proofs.BlocksFound.{BodyFound, IsCalm, IsQuiet, Serves, calm_behind, quiet_in}
use Rattle.recover_flow.proofs.Boundaries.{IsFresh}
use Rattle.recover_flow.proofs.CutFacts.{IsCut, Others}
use Rattle.recover_flow.proofs.FirstStatement.{FirstAt, first_statement}
use Rattle.recover_flow.proofs.FlowInside.{ClosesAreNamed, ExitBehind, IsReady, KnownIn, LocalsWithin, behind_earlier, rest_captures, statement_flow_in}
use Rattle.recover_flow.proofs.FlowParts.{Hard}
use Rattle.recover_flow.proofs.FlowPieces.{IsBody, body_has_pieces}
use Rattle.recover_flow.proofs.LyingParts.{FollowOn}

module _ (steps : List Step) where
  -- a body is of less weight where it is shorter, or where its exit is the one behind it
  abbrev pub exit_behind : BodyAt → Option Step → Option Exit
  exit_behind at found = option_map (λ (step : Step). record { place = at.to; locals = step.base }) found

  abbrev pub rank : Bool → ℕ
  rank true = 1
  rank false = 0

  pub rank_low : (b : Bool) → rank b ≤ 1
  rank_low true = omega arith
  rank_low false = omega arith

  abbrev pub weight : BodyAt → ℕ
  weight at = 2 * (at.to - at.from) + rank (is_other at.exit (exit_behind at (slice_get steps at.from)))

  pub lighter : (one two : BodyAt) → one.to - one.from < two.to - two.from → weight one < weight two
  lighter one two low = let a = rank_low (is_other one.exit (exit_behind one (slice_get steps one.from))) in omega (arith, low, a)

  -- bodies of less weight are found
  abbrev pub LighterFound : BodyAt → Type 0
  LighterFound at = (inner : BodyAt) → weight inner < weight at → BodyFound steps inner

  -- a statement that is the first piece of what is left of a body
  pub record IsPiece (at : BodyAt) (piece : Piece) (s : FlowStatement) (before between : Around) (ends first bound : ℕ) : Type 0 where
    pub body : IsBody steps at before.exit ends
    pub serves : Serves steps at.exit before.exit at.from at.to
    pub ready : IsReady first before
    pub begins : first ≤ piece.from
    pub later : at.from ≤ piece.from
    pub some : piece.from < piece.to
    pub within : piece.to ≤ at.to
    pub ends_in : at.to ≤ at.locals_end
    pub quiet : IsQuiet piece.to before
    pub lies : FlowStatementLies steps before between ends s piece.from piece.to
    pub low : flow_statement_levels steps s ≤ bound
    pub bounded : bound ≤ 200
    -- and what follows
    pub rest : Flow
    pub behind : Around
    pub well : EndsWell s rest
    pub rest_lies : FlowLies steps between behind ends rest piece.to at.to
    pub may : captures_flow steps (and_flow s rest) ≡ true → at.may_capture ≡ true
    pub others : List Piece
    pub reach : Reach
    pub fresh : IsFresh piece.from reach
    pub pieces : pieces_from steps at (at.to - piece.from) piece.from reach ≡ Some (piece ∷ others)

  -- statements of a kind are found where they are pieces
  abbrev pub PieceFound : BodyAt → (bound : ℕ) → Piece → Type 0
  PieceFound at bound piece = (plan : PlanTree) × PlanStands steps at piece plan × (max 1 (plan_levels steps plan) ≤ bound)

  abbrev pub StatementsFound : BodyAt → (FlowStatement → Type 0) → Type 0
  StatementsFound at kind = (piece : Piece) (s : FlowStatement) (before between : Around) (ends first bound : ℕ) → kind s → IsPiece at piece s before between ends first bound → PieceFound at bound piece

  abbrev pub AnyStatement : FlowStatement → Type 0
  AnyStatement s = Unit {0}

  -- what does not come apart at the end of the first piece
  abbrev pub HardFound : BodyAt → Type 0
  HardFound at =
      (piece : Piece) (others : List Piece) (flow : Flow) (before behind : Around) (ends first bound : ℕ) (reach : Reach) → (body : IsBody steps at before.exit ends) → Serves steps at.exit before.exit at.from at.to → at.to ≤ at.locals_end → IsReady first before → first ≤ piece.from
      → at.from ≤ piece.from → piece.from ≤ at.to → IsFresh piece.from reach → pieces_from steps at (at.to - piece.from) piece.from reach ≡ Some (piece ∷ others) → FlowLies steps before behind ends flow piece.from at.to → flow_levels steps flow ≤ bound → bound ≤ 200
      → (captures_flow steps flow ≡ true → at.may_capture ≡ true) → IsCalm at.to (captures_flow steps flow) before → (is_cut : IsCut steps at body.small body.fits piece.from piece.to) → Hard steps at body.small body.fits piece.from piece.to is_cut piece.from at.to
      → (plans : Plans) × RestStands steps at (piece ∷ others) plans × (body_levels steps plans ≤ bound)

  some_level : (flow : Flow) (before behind : Around) (ends from to : ℕ) → from < to → FlowLies steps before behind ends flow from to → 1 ≤ flow_levels steps flow
  some_level no_flow before behind ends from to some lies = absurd (omega (arith, some, lies.1))
  some_level (and_flow (step_flow step) rest) before behind ends from to some lies = omega arith
  some_level (and_flow (return_flow step) rest) before behind ends from to some lies = omega arith
  some_level (and_flow break_flow rest) before behind ends from to some lies = omega arith
  some_level (and_flow (do_flow body) rest) before behind ends from to some lies = omega arith
  some_level (and_flow (while_flow logic body) rest) before behind ends from to some lies = omega arith
  some_level (and_flow (repeat_flow body logic) rest) before behind ends from to some lies = omega arith
  some_level (and_flow (for_flow step numeric body) rest) before behind ends from to some lies = omega arith
  some_level (and_flow (if_flow logic body arms) rest) before behind ends from to some lies = omega arith

  module _ (levelled : AreLevelled steps) (named : ClosesAreNamed steps) (at : BodyAt) (statements : StatementsFound at AnyStatement) (hard : HardFound at) where
    -- the statements behind a piece are found
    abbrev Rests : (piece : Piece) (others : List Piece) (ends first bound : ℕ) → Type 0
    Rests piece others ends first bound =
        (between after : Around) (next_flow : Flow) (next_reach : Reach) → IsBody steps at between.exit ends → Serves steps at.exit between.exit at.from at.to → IsReady first between → IsFresh piece.to next_reach → pieces_from steps at (at.to - piece.to) piece.to next_reach ≡ Some others
        → FlowLies steps between after ends next_flow piece.to at.to → flow_levels steps next_flow ≤ bound → (captures_flow steps next_flow ≡ true → at.may_capture ≡ true) → IsCalm at.to (captures_flow steps next_flow) between → (plans : Plans) × RestStands steps at others plans × (body_levels steps plans ≤ bound)

    -- the statements in the pieces from a place on
    rest_found : (most : ℕ) (pieces : List Piece) (flow : Flow) (before behind : Around) (ends from first bound : ℕ) (reach : Reach) → at.to ≤ from + most → IsBody steps at before.exit ends → Serves steps at.exit before.exit at.from at.to → at.to ≤ at.locals_end → IsReady first before → first ≤ from
        → at.from ≤ from → from ≤ at.to → IsFresh from reach → pieces_from steps at (at.to - from) from reach ≡ Some pieces → FollowOn pieces from at.to → FlowLies steps before behind ends flow from at.to → flow_levels steps flow ≤ bound → bound ≤ 200
        → (captures_flow steps flow ≡ true → at.may_capture ≡ true) → IsCalm at.to (captures_flow steps flow) before → (plans : Plans) × RestStands steps at pieces plans × (body_levels steps plans ≤ bound)
    rest_found most [] flow before behind ends from first bound reach enough body serves within ready begins later goes fresh pieces follow lies levels bounded may calm = (no_plans, tt, omega arith)
    rest_found zero (piece ∷ others) flow before behind ends from first bound reach enough body serves within ready begins later goes fresh pieces follow lies levels bounded may calm = absurd (omega (arith, enough, follow.0, follow.1, follow.2))
    rest_found (suc most) (piece ∷ others) flow before behind ends from first bound reach enough body serves within ready begins later goes fresh pieces follow lies levels bounded may calm =
        let low = some_level flow before behind ends from at.to (omega (arith, follow.0, follow.1, follow.2)) lies in
        let first_is = first_statement steps levelled named at ends piece others flow before behind from first bound reach body within later ready begins goes (omega (arith, low, levels)) fresh pieces lies levels in
        by first_is.0 first_is.1 first_is.2 first_is.3 first_is.4
        (λ between after next_flow next_reach next_body next_serves next_ready next_fresh next_pieces next_lies next_levels next_may next_calm.
        rest_found most others next_flow between after ends piece.to first bound next_reach (omega (arith, enough, first_is.1)) next_body next_serves within next_ready (omega (arith, begins, first_is.1)) (omega (arith, later, first_is.1)) first_is.2 next_fresh next_pieces follow.3
        next_lies next_levels bounded next_may next_calm)
      where
        by : piece.from ≡ from → from < piece.to → piece.to ≤ at.to → FirstAt steps before ends from piece.to at.to bound (captures_flow steps flow) ⊎ ((is_cut : IsCut steps at body.small body.fits from piece.to) × Hard steps at body.small body.fits from piece.to is_cut from at.to)
            → Others steps at body.small body.fits from (at.to - from) piece others → Rests piece others ends first bound → (plans : Plans) × RestStands steps at (piece ∷ others) plans × (body_levels steps plans ≤ bound)
        by here past below (inr (is_cut, around)) next rec =
            hard_here (sym here) is_cut around
          where
            hard_here : from ≡ piece.from → (is_cut : IsCut steps at body.small body.fits from piece.to) → Hard steps at body.small body.fits from piece.to is_cut from at.to → (plans : Plans) × RestStands steps at (piece ∷ others) plans × (body_levels steps plans ≤ bound)
            hard_here same is_cut around =
                subst (λ n. (is_cut : IsCut steps at body.small body.fits n piece.to) → Hard steps at body.small body.fits n piece.to is_cut n at.to → (plans : Plans) × RestStands steps at (piece ∷ others) plans × (body_levels steps plans ≤ bound)) (sym same)
                (λ is_cut around.
                hard piece others flow before behind ends first bound reach body serves within ready (omega (arith, begins, same)) (omega (arith, later, same)) (omega (arith, goes, same)) (subst (λ n. IsFresh n reach) same fresh)
                (subst (λ n. pieces_from steps at (at.to - n) n reach ≡ Some (piece ∷ others)) same pieces) (subst (λ n. FlowLies steps before behind ends flow n at.to) same lies) levels bounded may calm is_cut around) is_cut around
        by here past below (inl found) next rec =
            let one = found.statement_at in
            let head = statement_flow_in steps named found.statement before found.between ends from piece.to first ready begins (behind_earlier before.exit at.to piece.to below body.behind) one in
            let same = head.exit in
            let counted = next.counted in
            let left : next.left ≡ at.to - piece.to = omega (arith, counted, goes, below) in
            let plan = statements piece found.statement before found.between ends first bound tt
            (record {
              body = body;
              serves = serves;
              ready = ready;
              begins = omega (arith, begins, here);
              later = omega (arith, later, here);
              some = omega (arith, past, here);
              within = below;
              ends_in = within;
              quiet = quiet_in piece.to at.to (captures_flow steps flow) before below calm;
              lies = subst (λ n. FlowStatementLies steps before found.between ends found.statement n piece.to) (sym here) one;
              low = found.statement_low;
              bounded = bounded;
              rest = found.rest;
              behind = found.behind;
              well = found.well;
              rest_lies = found.rest_at;
              may = λ is. may (found.owns is);
              others = others;
              reach = reach;
              fresh = subst (λ n. IsFresh n reach) (sym here) fresh;
              pieces = subst (λ n. pieces_from steps at (at.to - n) n reach ≡ Some (piece ∷ others)) (sym here) pieces;
            }) in
            let more = rec found.between found.behind found.rest next.reach (subst (λ e. IsBody steps at e ends) (sym same) body) (subst (λ e. Serves steps at.exit e at.from at.to) (sym same) serves) head.ready next.fresh
            (subst (λ n. pieces_from steps at n piece.to next.reach ≡ Some others) left next.pieces) found.rest_at found.rest_low (λ is. may (found.owns (rest_captures steps found.statement found.rest is)))
            (calm_behind steps found.statement found.rest before found.between ends from piece.to at.to (captures_flow steps flow) one found.owns calm) in
            (and_plan plan.0 more.0, inl (plan.1, more.1), omega (arith, plan.2, more.2))

    -- the body
    pub body_found : BodyFound steps at
    body_found flow before behind ends first body serves within ready begins goes lies may levels calm =
        let found = body_has_pieces steps named at flow before behind ends first body ready begins goes lies in
        let plans = rest_found (at.to - at.from) found.0 flow before behind ends at.from first (flow_levels steps flow) (record { begin = at.from; far = at.from; turned = 0 }) (omega (arith, goes)) body serves within ready begins (omega arith) goes
        (record { begin = refl; far = refl; turned = omega arith }) found.1 found.2 lies (omega arith) levels may calm in
        (plans.0, stands found.0 found.1 found.2 plans.0 plans.1, plans.2)
      where
        stands : (pieces : List Piece) → pieces_of steps at ≡ Some pieces → FollowOn pieces at.from at.to → (plans : Plans) → RestStands steps at pieces plans → BodyStands steps at plans
        stands [] is follow no_plans rest = sym follow
        stands [] is follow (and_plan plan plans) rest = absurd rest
        stands (piece ∷ pieces) is follow no_plans rest = absurd rest
        stands (piece ∷ pieces) is follow (and_plan plan plans) rest = ((λ same. absurd (omega (arith, same, follow.0, follow.1, follow.2))), (piece, pieces, is, rest))

  -- ---- all bodies

  module _ (levelled : AreLevelled steps) (named : ClosesAreNamed steps) (statements : (at : BodyAt) → LighterFound at → StatementsFound at AnyStatement) (hard : (at : BodyAt) → LighterFound at → HardFound at) where
    below_found : (most : ℕ) (at : BodyAt) → weight at < most → BodyFound steps at
    below_found zero at low = absurd (omega (arith, low))
    below_found (suc most) at low =
        let lighter_found : LighterFound at = λ inner less. below_found most inner (omega (arith, low, less)) in
        body_found levelled named at (statements at lighter_found) (hard at lighter_found)

    pub all_found : (at : BodyAt) → BodyFound steps at
    all_found at = below_found (suc (weight at)) at (omega arith)

    -- what lies on all steps of a function is found
    pub function_found : length steps < 2 ^ 32 → (before behind : Around) → AtBeginning before → (flow : Flow) → FlowLies steps before behind (length steps) flow 0 (length steps) → flow_levels steps flow ≤ 200
        → (plans : Plans) × BodyStands steps (whole_body steps) plans × (body_levels steps plans ≤ flow_levels steps flow)
    function_found small before behind beginning flow lies levels =
        all_found (whole_body steps) flow before behind (length steps) 0
        (record {
          small = small;
          fits = omega arith;
          behind = subst (λ e. ExitBehind e (length steps)) (sym none) tt;
          owned = refl;
          used = λ e is. absurd (none-some e (sym none ∙ is));
          same = λ e is. absurd (none-some e is);
        })
        (record { used = λ e is. absurd (none-some e (sym none ∙ is)); same = λ e is. absurd (none-some e is); fits = λ e is. absurd (none-some e (sym none ∙ is)) })
        (omega arith) (record { captured = beginning.1; locals = subst (λ e. LocalsWithin e before.count) (sym none) tt; known = subst (KnownIn 0 before) (sym none) tt }) (omega arith) (omega arith) lies (λ is. refl) levels (λ e is. absurd (none-some e (sym none ∙ is)))
      where
        none : before.exit ≡ None
        none = beginning.0
