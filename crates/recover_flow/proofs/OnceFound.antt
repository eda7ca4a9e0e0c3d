-- A `repeat` that never goes back is found as a loop that runs once: its block, with what its condition does as an `if`, is a shorter body, or one whose exit is behind it.
use Rattle.std.proofs.Common.{◌≡◌, ◌∙◌, ◌≤◌, ◌<◌, ◌-◌, ◌^◌, ◌⊎◌, inl, inr, refl, sym, ap, subst, ℕ, zero, suc, max, Bool, true, false, List, length, slice_get, Option, None, Some, arith}
use Rattle.std.specs.Prelude.{◌==◌, ◌&&◌, not, option_and_then}
use Rattle.std.specs.Bool.{beq}
use Rattle.std.proofs.lemmas.Bool.{false≢true}
use Rattle.std.proofs.lemmas.Option.{none-some, same_Some}
use Rattle.recover_expr.specs.declared.steps.Step.{Step}
use Rattle.recover_flow.specs.Asked.{is_other, is_reached, kind_at, target_at, target_of}
use Rattle.recover_flow.specs.Flow.{AreTold, Around, Flow, repeat_flow, FlowLies, captures_flow, flow_levels, in_loop, logic_room}
use Rattle.recover_flow.specs.Forms.{choice_at, exit_of, once_of_step, once_repeat}
use Rattle.recover_flow.specs.Logic.{AreLevelled, Logic, LogicLies, test_logic, literal_logic, not_logic, and_logic, or_logic, operators}
use Rattle.recover_flow.specs.Lying.{LiteralLies}
use Rattle.recover_flow.specs.Plans.{Plans, repeat_plan, body_levels, plan_levels}
use Rattle.recover_flow.specs.Standing.{BodyStands, with_used}
use Rattle.recover_flow.specs.declared.forms.Choice.{Choice}
use Rattle.recover_flow.specs.declared.regions.BodyAt.{BodyAt}
use Rattle.recover_flow.specs.declared.regions.Exit.{Exit}
use Rattle.recover_flow.specs.declared.regions.Piece.{Piece}
use Rattle.recover_flow.proofs.BlocksFound.{BodyFound, serves_itself, statement_base, whole_found}
use Rattle.recover_flow.proofs.BodiesFound.{IsPiece, LighterFound, PieceFound, exit_behind, lighter, rank, weight}
use Rattle.recover_flow.proofs.FlowInside.{ready_loop}
use Rattle.recover_flow.proofs.FlowMoves.{calm_captures, calm_flow, calm_levels, calm_lies, calm_none_last}
use Rattle.recover_flow.proofs.LogicCut.{Never, test_hit}
use Rattle.recover_flow.proofs.LogicRest.{cut_back, join_captures, join_flow, join_levels, join_lies}
use Rattle.recover_flow.proofs.PartsInside.{order}
use Rattle.recover_flow.proofs.StepsFound.{both_true, if_true, same_is}

-- the statement of a piece is no loop, and none by itself
abbrev pub is_straight : Choice → Bool
is_straight Choice.Locals = true
is_straight Choice.Jumps = true
is_straight choice = false

module _ (steps : List Step) where
  pub straight_either : (choice : Choice) → is_straight choice ≡ true → (choice ≡ Choice.Locals) ⊎ (choice ≡ Choice.Jumps)
  straight_either Choice.Locals is = inl refl
  straight_either Choice.Jumps is = inr refl
  straight_either Choice.For is = absurd (false≢true is)
  straight_either (Choice.Loop last) is = absurd (false≢true is)
  straight_either (Choice.Settled found) is = absurd (false≢true is)

  -- ---- the block, with its condition

  -- a condition with steps that never goes to its target has an operator
  pub never_literal : (jumps : Bool) (target from to : ℕ) → from < to → Never steps from to target → LiteralLies steps jumps from to target → ⊥
  never_literal true target from to some never lies = never from (omega arith) some (ap (λ found. option_and_then target_of found) lies.0)
  never_literal false target from to some never lies = absurd (omega (arith, some, lies))

  never_operates : (logic : Logic) (target from to : ℕ) → from < to → Never steps from to target → LogicLies steps logic false target from to → 1 ≤ operators logic
  never_operates (test_logic step negated) target from to some never lies = absurd (never from (omega arith) some (test_hit steps negated false target from (kind_at steps from) refl lies.2))
  never_operates (literal_logic truth) target from to some never lies = absurd (never_literal (beq truth false) target from to some never lies)
  never_operates (not_logic inner) target from to some never lies = omega arith
  never_operates (and_logic left right) target from to some never lies = omega arith
  never_operates (or_logic left right) target from to some never lies = omega arith

  -- a number past each place where a step goes
  pub past_targets : (to : ℕ) → (past : ℕ) × ((place target : ℕ) → place < to → target_at steps place ≡ Some target → target < past)
  past_targets zero = (0, λ place target low there. absurd (omega (arith, low)))
  past_targets (suc to) = by (target_at steps to) refl (past_targets to)
    where
      by : (found : Option ℕ) → target_at steps to ≡ found → (past : ℕ) × ((place target : ℕ) → place < to → target_at steps place ≡ Some target → target < past) → (past : ℕ) × ((place target : ℕ) → place < suc to → target_at steps place ≡ Some target → target < past)
      by None is (past, each) = (past, λ place target low there. at_place place target low there (order place to))
        where
          at_place : (place target : ℕ) → place < suc to → target_at steps place ≡ Some target → (place < to) ⊎ (to ≤ place) → target < past
          at_place place target low there (inl before) = each place target before there
          at_place place target low there (inr here) = let same : place ≡ to = omega (arith, low, here) in absurd (none-some target (sym is ∙ ap (target_at steps) (sym same) ∙ there))
      by (Some goes) is (past, each) = (suc (max goes past), λ place target low there. at_place place target low there (order place to))
        where
          at_place : (place target : ℕ) → place < suc to → target_at steps place ≡ Some target → (place < to) ⊎ (to ≤ place) → target < suc (max goes past)
          at_place place target low there (inl before) = let less = each place target before there in omega (arith, less)
          at_place place target low there (inr here) =
              let same : place ≡ to = omega (arith, low, here) in
              let one : goes ≡ target = same_Some goes target (sym is ∙ ap (target_at steps) (sym same) ∙ there) in
              omega (arith, one)

  -- statements on all steps of a piece
  pub record Filled (around inside : Around) (from to most : ℕ) : Type 0 where
    pub flow : Flow
    pub lies : FlowLies steps around inside to flow from to
    pub low : flow_levels steps flow ≤ most
    pub none : captures_flow steps flow ≡ false

  -- no deeper than the block and its condition
  pub filled : AreLevelled steps → (body : Flow) (logic : Logic) (around inside : Around) (from start to most : ℕ) → from ≤ start → start ≤ to → captures_flow steps body ≡ false → FlowLies steps around inside to body from start → ((target : ℕ) → LogicLies steps logic false target start to) → AreTold steps inside start to
      → logic_room steps logic ≤ most → flow_levels steps body ≤ most → Filled around inside from to most
  filled levelled body logic around inside from start to most begins goes none lies tests told room low = by (order start to)
    where
      by : (start < to) ⊎ (to ≤ start) → Filled around inside from to most
      by (inr empty) = let same : start ≡ to = omega (arith, empty, goes) in record { flow = body; lies = subst (λ n. FlowLies steps around inside to body from n) same lies; low = low; none = none }
      by (inl some) =
          let past = past_targets to in
          let never : Never steps start to past.0 = λ place least most there. let less = past.1 place past.0 most there in absurd (omega (arith, less)) in
          let back = cut_back steps levelled inside start to told logic false past.0 start to start (omega arith) (omega arith) (omega arith) some (λ place target least most there. absurd (omega (arith, least, most))) never (tests past.0) in
          let rest = back.rest in
          let rest_low = rest.low in
          let operates = never_operates logic past.0 start to some never (tests past.0) in
          record {
            flow = join_flow (calm_flow steps body) rest.flow;
            lies = join_lies steps (calm_flow steps body) rest.flow around inside inside to from start to goes (calm_none_last steps body) (calm_lies steps body around inside to from start lies) (rest.lies to);
            low = join_levels steps (calm_flow steps body) rest.flow most (calm_levels steps body most (omega (arith, room, operates)) low) (omega (arith, rest_low, room));
            none = join_captures steps (calm_flow steps body) rest.flow (calm_captures steps body ∙ none) rest.none;
          }

  -- ---- the loop that runs once

  module _ (at : BodyAt) (piece : Piece) (before : Around) where
    abbrev pub loop_exit : Exit
    loop_exit = record { place = piece.to; locals = before.count }

    abbrev pub once_body : BodyAt
    once_body = record { from = piece.from; to = piece.to; locals_end = piece.to; may_capture = false; exit = Some loop_exit }

    same_exit : (step : Step) → step.base ≡ before.count → is_other (Some loop_exit) (Some (record { place = piece.to; locals = step.base })) ≡ false
    same_exit step base = ap not (both_true (piece.to == piece.to) (before.count == step.base) (same_is piece.to) (ap (λ n. before.count == n) base ∙ same_is before.count))

    -- its block is of less weight, with its exit
    pub once_lighter : (step : Step) → slice_get steps piece.from ≡ Some step → step.base ≡ before.count → at.from ≤ piece.from → piece.to ≤ at.to → piece.from < piece.to → is_other at.exit (Some loop_exit) ≡ true → weight steps once_body < weight steps at
    once_lighter step there base later within some other = by (order (piece.to - piece.from) (at.to - at.from))
      where
        own : rank steps (is_other (Some loop_exit) (exit_behind steps once_body (slice_get steps piece.from))) ≡ 0
        own = ap (λ found. rank steps (is_other (Some loop_exit) (exit_behind steps once_body found))) there ∙ ap (rank steps) (same_exit step base)

        by : (piece.to - piece.from < at.to - at.from) ⊎ (at.to - at.from ≤ piece.to - piece.from) → weight steps once_body < weight steps at
        by (inl less) = lighter steps once_body at less
        by (inr more) =
            let from : piece.from ≡ at.from = omega (arith, later, within, some, more) in
            let to : at.to ≡ piece.to = omega (arith, later, within, some, more) in
            let whole : rank steps (is_other at.exit (exit_behind steps at (slice_get steps at.from))) ≡ 1 =
            ap (λ found. rank steps (is_other at.exit (exit_behind steps at found))) (ap (slice_get steps) (sym from) ∙ there) ∙ ap (λ n. rank steps (is_other at.exit (Some (record { place = n; locals = step.base })))) to
            ∙ ap (λ n. rank steps (is_other at.exit (Some (record { place = piece.to; locals = n })))) base ∙ ap (rank steps) other in
            omega (arith, own, whole, from, to)

    -- a jump goes to its exit
    pub once_used : is_reached steps piece.to piece.from piece.to ≡ true → with_used steps once_body ≡ once_body
    once_used reached = ap (λ e. record { from = piece.from; to = piece.to; locals_end = piece.to; may_capture = false; exit = e }) (if_true (is_reached steps piece.to piece.from piece.to) _ _ reached)

    -- it is found, if a jump goes to its exit, which is another one than that of the body
    pub once_reached : (levelled : AreLevelled steps) (small : length steps < 2 ^ 32) → LighterFound steps at → (body : Flow) (logic : Logic) (between inside : Around) (ends first bound start : ℕ) → IsPiece steps at piece (repeat_flow body logic) before between ends first bound
        → piece.from ≤ start → start ≤ piece.to → captures_flow steps body ≡ false → FlowLies steps (in_loop piece.to before) inside piece.to body piece.from start → ((target : ℕ) → LogicLies steps logic false target start piece.to) → AreTold steps inside start piece.to
        → is_straight (choice_at steps at piece) ≡ true → is_other at.exit (Some loop_exit) ≡ true → is_reached steps piece.to piece.from piece.to ≡ true
        → PieceFound steps at bound piece
    once_reached levelled small lighter_found body logic between inside ends first bound start is begins goes none lies tests told straight other reached =
        let low = is.low in
        let bounded = is.bounded in
        let some = is.some in
        let within = is.within in
        let body_fits = is.body.fits in
        let fits : piece.to ≤ length steps = omega (arith, within, body_fits) in
        let most : ℕ = max (max 1 (logic_room steps logic)) (flow_levels steps body) in
        let fill = filled levelled body logic (in_loop piece.to before) inside piece.from start piece.to most begins goes none lies tests told (omega arith) (omega arith) in
        let fill_low = fill.low in
        let base = statement_base steps (repeat_flow body logic) before between ends piece.from piece.to some is.lies in
        let step : Step = base.0 in
        let exit_is : exit_of piece step ≡ loop_exit = ap (λ n. record { place = piece.to; locals = n }) base.2 in
        let found : BodyFound steps (with_used steps once_body) = subst (λ inner. BodyFound steps inner) (sym (once_used reached)) (lighter_found once_body (once_lighter step base.1 base.2 is.later within some other)) in
        let inner = whole_found steps once_body fill.flow (in_loop piece.to before) inside piece.from small found
        (serves_itself steps (Some loop_exit) piece.from piece.to (λ e same. subst (λ (x : Exit). x.place ≤ length steps) (same_Some loop_exit e same) fits)) (omega arith) (ready_loop piece.to piece.from before is.ready.captured) (omega arith) (omega (arith, some)) (omega arith) fits fill.lies
        (λ captures. absurd (false≢true (sym fill.none ∙ captures))) (omega (arith, fill_low, low, bounded))
        (λ e same near. let one = ap (λ (x : Exit). x.locals) (same_Some loop_exit e same) in let sound = is.ready.captured in (omega (arith, one, sound), fill.none)) in (
          repeat_plan inner.0 None,
          (
            straight_either (choice_at steps at piece) straight,
            (
              once_repeat piece step,
              ap (option_and_then (once_of_step steps at.exit piece)) base.1
                  ∙ if_true (is_other at.exit (Some (exit_of piece step)) && is_reached steps piece.to piece.from piece.to) _ _ (both_true (is_other at.exit (Some (exit_of piece step))) _ (ap (λ e. is_other at.exit (Some e)) exit_is ∙ other) reached),
              inr (subst (λ e. BodyStands steps (with_used steps (record { from = piece.from; to = piece.to; locals_end = piece.to; may_capture = false; exit = Some e })) inner.0) (sym exit_is) inner.1),
            ),
          ),
          once_low most inner.0 inner.2 fill_low (omega (arith, low)) (omega arith),
        )
      where
        once_low : (most : ℕ) {deep : ℕ} (plans : Plans) → body_levels steps plans ≤ deep → deep ≤ most → most < bound → 1 ≤ most → max 1 (plan_levels steps (repeat_plan plans None)) ≤ bound
        once_low most plans one two three four = omega (arith, one, two, three, four)
