-- A `repeat` around the end of the first piece that ends with the body comes apart there: what stands before the end in front of it, and the rest in a `repeat` of its own.
use Rattle.std.proofs.Common.{◌≡◌, ◌∙◌, ◌≤◌, ◌<◌, ◌+◌, ◌-◌, ◌⊎◌, inl, inr, refl, sym, ap, subst, ℕ, suc, max, Bool, true, false, List, ◌∷◌, length, Option, None, Some, arith}
use Rattle.std.specs.Prelude.{◌==◌, ◌&&◌, ◌||◌, not, nat_le, nat_lt, slice_get, option_and_then}
use Rattle.std.proofs.lemmas.Bool.{false≢true}
use Rattle.std.proofs.lemmas.Option.{same_Some}
use Rattle.recover_expr.specs.declared.steps.Step.{Step}
use Rattle.recover_expr.specs.declared.steps.StepKind.{StepKind}
use Rattle.recover_flow.specs.Asked.{break_exit, closes, closing_exit, exit_behind, is_closed, is_other, kind_at}
use Rattle.recover_flow.specs.Cutting.{pieces_from}
use Rattle.recover_flow.specs.Flow.{AreTold, ArmLies, Around, BreakLies, Declares, EndsWell, Flow, no_flow, and_flow, FlowStatement, step_flow, return_flow, break_flow, do_flow, while_flow, repeat_flow, for_flow, if_flow, FlowArms, no_more, else_flow, elseif_flow, FlowLies, FlowStatementLies, IsAt, IsFlowBlock, captures_flow, flow_levels, flow_statement_levels, is_break, logic_room}
use Rattle.recover_flow.specs.Logic.{AreLevelled, Logic, LogicLies, literal_logic}
use Rattle.recover_flow.specs.Lying.{is_captured_at}
use Rattle.recover_flow.specs.declared.cuts.Reach.{Reach}
use Rattle.recover_flow.specs.declared.regions.BodyAt.{BodyAt}
use Rattle.recover_flow.specs.declared.regions.Exit.{Exit}
use Rattle.recover_flow.specs.declared.regions.Piece.{Piece}
use Rattle.recover_flow.proofs.Boundaries.{IsFresh}
use Rattle.recover_flow.proofs.CapturedOwn.{one_between}
use Rattle.recover_flow.proofs.CutFacts.{IsCut, OwnAt, past_locals}
use Rattle.recover_flow.proofs.FirstStatement.{FirstAt}
use Rattle.recover_flow.proofs.FlowHalved.{in_statement}
use Rattle.recover_flow.proofs.FlowInside.{ClosesAreNamed, ExitBehind, IsReady}
use Rattle.recover_flow.proofs.FlowMoves.{Grown, all_told_moved, at_moved, calm_captures, calm_flow, calm_levels, calm_lies, calm_none_last, flow_moved_by, further_low, moved_to, statement_flat}
use Rattle.recover_flow.proofs.FlowParts.{ClosesAt, Found, Hard, HitsExit, IsHard, block_end, block_of, captured_in, closes_low, declared_before, past_least}
use Rattle.recover_flow.proofs.FlowPieces.{IsBody}
use Rattle.recover_flow.proofs.FlowSplit.{back_uncut, break_uncut, own_local, told_before}
use Rattle.recover_flow.proofs.FormsLie.{same_numbers}
use Rattle.recover_flow.proofs.HardFront.{FirstRepeat, Tail, first_within, flats_first}
use Rattle.recover_flow.proofs.HardOut.{flat_out, flow_within, inner, jump_out, jumps_leave, loop, statement_flat_out, statement_out, tests_stay}
use Rattle.recover_flow.proofs.FlowInside.{flat_rest, or_right}
use Rattle.recover_flow.proofs.LogicLeaves.{leaving_cut, leaving_flat}
use Rattle.recover_flow.proofs.LogicRest.{FlatFlow, ends_well, join_captures, join_flow, join_levels, join_lies, lower_room, only_test, raise_flat, told_part}
use Rattle.recover_flow.proofs.PartsInside.{kind_there, order}
use Rattle.recover_flow.proofs.BlocksFound.{IsQuiet}
use Rattle.recover_flow.proofs.StepsFound.{both_true, if_true, le_is, lt_is, same_is}

module _ (steps : List Step) (levelled : AreLevelled steps) (named : ClosesAreNamed steps) (at : BodyAt) (ends : ℕ) (piece : Piece) (others : List Piece) (before : Around) (from first bound : ℕ) (captures : Bool) (reach : Reach) (is_body : IsBody steps at before.exit ends) (begins : at.from ≤ from)
    (ready : IsReady first before) (low_first : first ≤ from) (goes : from < piece.to) (below : piece.to ≤ at.to) (fresh : IsFresh from reach) (pieces : pieces_from steps at (at.to - from) from reach ≡ Some (piece ∷ others)) (is_cut : IsCut steps at is_body.small is_body.fits from piece.to) (ends_in : at.to ≤ at.locals_end)
    (quiet : IsQuiet at.to before) (mid : ℕ) (ahead : piece.to < mid) (fits_mid : mid ≤ at.to) where
  abbrev First : Type 0
  First = FirstAt steps before ends from piece.to at.to bound captures

  abbrev within : Around
  within = inner steps levelled named at ends piece others before from first bound captures reach is_body begins ready low_first goes below fresh pieces is_cut ends_in quiet mid ahead fits_mid

  told_out : (begin to : ℕ) → AreTold steps within begin to → AreTold steps before begin to
  told_out begin to told = all_told_moved steps before.exit within begin to told

  module _ (logic : Logic) (start less : ℕ) (inside : Around) (goes_on : start ≤ mid) (tests : (other : ℕ) → LogicLies steps logic false other start mid) (told : AreTold steps inside start mid) (room : logic_room steps logic ≤ less) (some : 1 ≤ less) (most : suc less ≤ bound) (ended : mid ≡ at.to)
      (tail : Tail steps levelled named at ends piece others before from first bound captures reach is_body begins ready low_first goes below fresh pieces is_cut ends_in mid) where
    -- what is left of the `repeat` from a place on
    record Left (place : ℕ) : Type 0 where
      rest : Flow
      rest_at : FlowLies steps within inside mid rest place start
      rest_low : flow_levels steps rest ≤ less
      none : captures_flow steps rest ≡ false
      stops : place ≤ start

    -- in a `repeat` of its own
    repeated : (place : ℕ) → Left place → FlatFlow steps before place mid (suc less)
    repeated place left =
        let low = left.rest_low in
        let stops = left.stops in
        record {
          flow = and_flow (repeat_flow left.rest logic) no_flow;
          lies = λ other. (tt, mid, before, omega (arith, stops, goes_on), omega arith, (refl, start, inside, stops, inl (left.none, goes_on, left.rest_at, tests place, told)), (refl, refl));
          low = omega (arith, low, room, some);
          none = refl;
          calm = (refl, tt);
        }

    done : FlatFlow steps before from piece.to (suc less) → Left piece.to → First
    done one left = flats_first steps levelled named at ends piece others before from first bound captures reach is_body begins ready low_first goes below fresh pieces is_cut ends_in mid (raise_flat steps before from piece.to (suc less) bound most one) (raise_flat steps before piece.to mid (suc less) bound most (repeated piece.to left)) tail

    -- the end of a statement is the end of the piece
    seam : (place : ℕ) → from < place → place ≤ piece.to → FlatFlow steps before from place (suc less) → Left place → First
    seam place past low one left =
        let two = repeated place left in
        let known = flow_within steps levelled named at ends piece others before from first bound captures reach is_body begins ready low_first goes below fresh pieces is_cut ends_in one.flow (join_flow two.flow tail.rest) before tail.behind place past (omega (arith, low, below)) one.calm (one.lies ends)
        (join_lies steps two.flow tail.rest before before tail.behind ends place mid at.to tail.stops two.calm (two.lies ends) tail.rest_at) in
        let same : place ≡ piece.to = omega (arith, low, known) in
        done (subst (λ n. FlatFlow steps before from n (suc less)) same one) (subst Left same left)

    with_front : (s : FlowStatement) (place to : ℕ) → place ≤ to → ((other : ℕ) → FlowStatementLies steps within within other s place to) → flow_statement_levels steps s ≤ less → is_break s ≡ false → Left to → Left place
    with_front s place to rises lies levels calm left =
        let low = left.rest_low in
        let stops = left.stops in
        record {
          rest = and_flow s left.rest;
          rest_at = (ends_well s left.rest calm, to, within, rises, stops, lies mid, left.rest_at);
          rest_low = omega (arith, levels, low);
          none = flat_rest steps s left.rest within 0 place to (lies 0) ∙ left.none;
          stops = omega (arith, rises, stops);
        }

    -- a statement in front that need not be the last one
    calm_out : (s : FlowStatement) (to more : ℕ) → from ≤ to → to ≤ piece.to → ((other : ℕ) → FlowStatementLies steps within within other s from to) → flow_statement_levels steps s ≤ more → is_break s ≡ false → FlatFlow steps before from to more
    calm_out s to more low stops lies levels calm =
        record {
          flow = and_flow s no_flow;
          lies = λ other. (tt, to, before, low, omega arith, statement_out steps levelled named at ends piece others before from first bound captures reach is_body begins ready low_first goes below fresh pieces is_cut ends_in quiet mid ahead fits_mid s within other from to (omega arith) stops (lies other), (refl, refl));
          low = omega (arith, levels);
          none = flat_rest steps s no_flow before 0 from to (statement_out steps levelled named at ends piece others before from first bound captures reach is_body begins ready low_first goes below fresh pieces is_cut ends_in quiet mid ahead fits_mid s within 0 from to (omega arith) stops (lies 0));
          calm = (calm, tt);
        }

    -- a `repeat` of less levels in its place
    pub record Nested : Type 0 where
      pub levels : ℕ
      pub low : suc levels ≤ bound
      pub around : FirstRepeat steps levelled named at ends piece others before from first levels captures reach is_body begins ready low_first goes below fresh pieces is_cut ends_in

    abbrev Result : Type 0
    Result = First ⊎ Nested

    -- ---- a declaration of the block's own

    own_first : (step : ℕ) (captured : Bool) (between inside_rest : Around) (b : Flow) (test : Logic) (stop : ℕ) → FlowStatementLies steps within between mid (step_flow step) from (suc from) → IsAt steps within from (StepKind.Declaration mid captured) → Declares from captured within between → captured ≡ false → stop ≤ mid → suc from ≤ stop
        → FlowLies steps between inside_rest mid b (suc from) stop → captures_flow steps b ≡ false → ((other : ℕ) → LogicLies steps test false other stop mid) → AreTold steps inside_rest stop mid → flow_statement_levels steps (step_flow step) ≤ suc less → flow_levels steps b ≤ less → logic_room steps test ≤ less → First
    own_first step captured between inside_rest b test stop one declaration declares not_captured stops rises lies none test_at test_told step_low b_low test_low =
        by at.exit refl
      where
        own : OwnAt steps at is_body.small is_body.fits from from mid
        own = at_own (declared_before steps at is_body.small is_body.fits from piece.to is_cut from mid captured (omega arith) goes declaration.1)
          where
            at_own : (past_locals steps at is_body.small is_body.fits mid captured ≤ piece.to) ⊎ OwnAt steps at is_body.small is_body.fits from from mid → OwnAt steps at is_body.small is_body.fits from from mid
            at_own (inl past) = let known = past_least steps at is_body.small is_body.fits from piece.to is_cut mid captured in absurd (omega (arith, past, known, ahead))
            at_own (inr own) = own

        owned : ends ≡ at.locals_end
        owned = is_body.owned

        fits : at.to ≤ length steps
        fits = is_body.fits

        wider : Exit
        wider = record { place = mid; locals = between.count }

        outside : Around
        outside = moved_to before.exit between

        more : before.count < between.count
        more = declares.more

        head : FlowStatementLies steps before outside ends (step_flow step) from (suc from)
        head = subst (λ n. FlowStatementLies steps before outside n (step_flow step) from (suc from)) (own.0 ∙ sym owned) (statement_out steps levelled named at ends piece others before from first bound captures reach is_body begins ready low_first goes below fresh pieces is_cut ends_in quiet mid ahead fits_mid (step_flow step) between mid from (suc from) (omega arith) (omega (arith, goes)) one)

        finish : (rest : Flow) (behind : Around) → FlowLies steps outside behind ends rest (suc from) mid → flow_levels steps rest ≤ suc less → captures_flow steps rest ≡ false → First
        finish rest behind rest_at rest_low rest_none =
            let rest_there = subst (λ n. FlowLies steps outside behind ends rest (suc from) n) ended rest_at in
            let known = first_within steps levelled named at ends piece others before from first bound captures reach is_body begins ready low_first goes below fresh pieces is_cut ends_in (step_flow step) rest outside behind (suc from) (omega arith) (omega (arith, goes, below)) head rest_there in
            let same : suc from ≡ piece.to = omega (arith, known, goes) in
            record {
              statement = step_flow step;
              rest = rest;
              between = outside;
              behind = behind;
              well = ends_well (step_flow step) rest refl;
              statement_at = subst (λ n. FlowStatementLies steps before outside ends (step_flow step) from n) same head;
              rest_at = subst (λ n. FlowLies steps outside behind ends rest n at.to) same rest_there;
              statement_low = omega (arith, step_low, most);
              rest_low = omega (arith, rest_low, most);
              owns = λ is. absurd (false≢true (sym (ap (λ n. is_captured_at (kind_at steps n) || captures_flow steps rest) one.0 ∙ ap (λ kind. is_captured_at kind || captures_flow steps rest) declaration.1 ∙ ap (λ c. c || captures_flow steps rest) not_captured ∙ rest_none) ∙ is));
            }

        -- its exit is the one of the body, too
        same_exit : before.exit ≡ Some (loop steps levelled named at ends piece others before from first bound captures reach is_body begins ready low_first goes below fresh pieces is_cut ends_in quiet mid ahead fits_mid) → First
        same_exit is =
            let here : outside ≡ between = ap (λ e. moved_to e between) (is ∙ sym declares.exit) in
            let last : Flow = and_flow (if_flow test no_flow no_more) no_flow in
            let last_at : FlowLies steps inside_rest inside_rest ends last stop mid = (tt, mid, inside_rest, stops, omega arith, (refl, (mid, stops, omega arith, test_at mid, test_told, (inside_rest, (refl, refl)))), (refl, refl)) in
            let lies_own = subst (λ n. FlowLies steps between inside_rest n b (suc from) stop) (own.0 ∙ sym owned) lies in
            let b_calm = calm_levels steps b (suc less) (omega (arith, some)) (omega (arith, b_low)) in
            finish (join_flow (calm_flow steps b) last) inside_rest
            (subst (λ a. FlowLies steps a inside_rest ends (join_flow (calm_flow steps b) last) (suc from) mid) (sym here)
            (join_lies steps (calm_flow steps b) last between inside_rest inside_rest ends (suc from) stop mid stops (calm_none_last steps b) (calm_lies steps b between inside_rest ends (suc from) stop lies_own) last_at))
            (join_levels steps (calm_flow steps b) last (suc less) b_calm (omega (arith, test_low, some))) (join_captures steps (calm_flow steps b) last (calm_captures steps b ∙ none) refl)

        -- no break closes its locals
        other_exit : is_other at.exit (Some (loop steps levelled named at ends piece others before from first bound captures reach is_body begins ready low_first goes below fresh pieces is_cut ends_in quiet mid ahead fits_mid)) ≡ true → First
        other_exit other =
            let moved = flow_moved_by steps (Some (loop steps levelled named at ends piece others before from first bound captures reach is_body begins ready low_first goes below fresh pieces is_cut ends_in quiet mid ahead fits_mid)) (Some wider) (suc from) stop between breaks b between inside_rest mid (suc from) stop declares.exit (omega arith, (λ register low. refl), λ here. refl) (omega arith) (omega arith) lies in
            finish (and_flow (repeat_flow b test) no_flow) outside
            (tt, mid, outside, omega (arith, rises, stops), omega arith, (refl, stop, moved_to (Some wider) inside_rest, rises, inl (none, stops, moved, test_at (suc from), all_told_moved steps (Some wider) inside_rest stop mid test_told)), (refl, refl)) (omega (arith, b_low, test_low, some)) refl
          where
            closed : (around : Around) (place : ℕ) → suc from ≤ place → suc (suc place) ≤ stop → Grown between around → IsAt steps around place (StepKind.Close before.count (around.declared before.count)) → kind_at steps (suc place) ≡ Some (StepKind.Jump mid) → is_closed steps at from ≡ true
            closed around place low up grown close jump =
                let step_there : Step = close.0.step in
                let is_declared : around.declared before.count ≡ Some from = grown.1 before.count more ∙ declares.new before.count (omega arith) more in
                let kind : step_there.kind ≡ StepKind.Close before.count (Some from) = told_kind close.0.there close.1 ∙ ap (StepKind.Close before.count) is_declared in
                let base = close.0.base in
                let counted = grown.0 in
                let next : place + 1 ≡ suc place = omega arith in
                let behind : exit_behind place before.count (kind_at steps (place + 1)) ≡ Some (loop steps levelled named at ends piece others before from first bound captures reach is_body begins ready low_first goes below fresh pieces is_cut ends_in quiet mid ahead fits_mid) =
                ap (λ n. exit_behind place before.count (kind_at steps n)) next ∙ ap (exit_behind place before.count) jump ∙ if_true (nat_lt (place + 1) mid) _ _ (lt_is (place + 1) mid (omega (arith, up, stops))) in
                let broken : break_exit steps from place ≡ Some (loop steps levelled named at ends piece others before from first bound captures reach is_body begins ready low_first goes below fresh pieces is_cut ends_in quiet mid ahead fits_mid) =
                ap (option_and_then (λ (s : Step). closing_exit steps from place s.base s.kind)) close.0.there ∙ ap (closing_exit steps from place step_there.base) kind
                ∙ if_true ((from == from) && nat_lt before.count step_there.base) _ _ (both_true (from == from) _ (same_is from) (lt_is before.count step_there.base (omega (arith, base, counted, more)))) ∙ behind in
                both_true (nat_le from (length steps)) _ (le_is from (length steps) (omega (arith, goes, below, fits)))
                (one_between (λ close. is_other at.exit (break_exit steps from close)) 0 at.to place (omega arith) (omega (arith, up, stops, ended)) (ap (is_other at.exit) broken ∙ other))
              where
                told_kind : {step : Step} {kind : StepKind} → slice_get steps place ≡ Some step → kind_at steps place ≡ Some kind → step.kind ≡ kind
                told_kind {step} {kind} there is = same_Some step.kind kind (sym (kind_there steps place step there) ∙ is)

            breaks : (around : Around) (u v : ℕ) → suc from ≤ u → v ≤ stop → Grown between around → BreakLies steps around (Some (loop steps levelled named at ends piece others before from first bound captures reach is_body begins ready low_first goes below fresh pieces is_cut ends_in quiet mid ahead fits_mid)) u v → BreakLies steps (moved_to (Some wider) around) (Some wider) u v
            breaks around u v low up grown (inl (straight, jump, next)) = inl (omega (arith, straight, more), at_moved steps (Some wider) around u _ jump, next)
            breaks around u v low up grown (inr (captured, close, jump, next)) = absurd (false≢true (sym own.1 ∙ closed around u low (omega (arith, up, next)) grown close jump.1))

        by : (exit : Option Exit) → at.exit ≡ exit → First
        by None is = other_exit (ap (λ e. is_other e (Some (loop steps levelled named at ends piece others before from first bound captures reach is_body begins ready low_first goes below fresh pieces is_cut ends_in quiet mid ahead fits_mid))) is)
        by (Some exit) is = at_exit (exit.place == mid) refl (exit.locals == before.count) refl
          where
            at_exit : (a : Bool) → (exit.place == mid) ≡ a → (b : Bool) → (exit.locals == before.count) ≡ b → First
            at_exit true one true two =
                let p = same_numbers exit.place mid one in
                let l = same_numbers exit.locals before.count two in
                same_exit (is_body.same exit is ∙ ap (λ n. Some (record { place = n; locals = exit.locals })) p ∙ ap (λ n. Some (record { place = mid; locals = n })) l)
            at_exit true one false two = other_exit (ap (λ e. is_other e (Some (loop steps levelled named at ends piece others before from first bound captures reach is_body begins ready low_first goes below fresh pieces is_cut ends_in quiet mid ahead fits_mid))) is ∙ ap (λ c. not (c && (exit.locals == before.count))) one ∙ ap (λ c. not (true && c)) two)
            at_exit false one b two = other_exit (ap (λ e. is_other e (Some (loop steps levelled named at ends piece others before from first bound captures reach is_body begins ready low_first goes below fresh pieces is_cut ends_in quiet mid ahead fits_mid))) is ∙ ap (λ c. not (c && (exit.locals == before.count))) one)

    -- the condition alone
    logic_only : start ≡ from → inside ≡ within → First
    logic_only here same =
        let all_told : AreTold steps before from mid = told_out from mid (subst (λ a. AreTold steps a from mid) same (subst (λ n. AreTold steps inside n mid) here told)) in
        let r = leaving_cut steps levelled before from piece.to mid (tests_stay steps levelled named at ends piece others before from first bound captures reach is_body begins ready low_first goes below fresh pieces is_cut ends_in quiet mid ahead fits_mid) (jumps_leave steps levelled named at ends piece others before from first bound captures reach is_body begins ready low_first goes below fresh pieces is_cut ends_in quiet mid ahead fits_mid) logic false mid from mid (omega arith) (omega (arith, goes)) ahead (omega arith) ahead (omega arith) (subst (λ n. LogicLies steps logic false mid n mid) here (tests mid)) all_told in
        let lower = lower_room steps r.rest logic r.rest_low in
        flats_first steps levelled named at ends piece others before from first bound captures reach is_body begins ready low_first goes below fresh pieces is_cut ends_in mid (raise_flat steps before from piece.to (suc (logic_room steps logic)) bound (omega (arith, room, most)) r.front)
        (raise_flat steps before piece.to mid (suc less) bound most (only_test steps r.rest before piece.to mid less (omega (arith, ahead)) r.rest_at (told_part steps before from piece.to mid mid (omega (arith, goes)) (omega arith) all_told) (omega (arith, lower, room)) some)) tail

    -- ---- an `if`

    abbrev BlockLies : (body : Flow) (begin last : ℕ) → Type 0
    BlockLies body begin last = IsFlowBlock steps within (captures_flow steps body) (λ ends end. (inside : Around) × FlowLies steps within inside ends body begin end) begin last

    -- its condition before the end of the piece
    front_flat : (test : Logic) (goal stop : ℕ) → from ≤ stop → stop ≤ piece.to → piece.to < goal → goal ≤ mid → LogicLies steps test false goal from stop → AreTold steps within from stop → suc (logic_room steps test) ≤ suc less → FlatFlow steps before from stop (suc less)
    front_flat test goal stop low high_stop past ends_at lies test_told levels =
        raise_flat steps before from stop (suc (logic_room steps test)) (suc less) levels (leaving_flat steps levelled before from piece.to mid (tests_stay steps levelled named at ends piece others before from first bound captures reach is_body begins ready low_first goes below fresh pieces is_cut ends_in quiet mid ahead fits_mid) (jumps_leave steps levelled named at ends piece others before from first bound captures reach is_body begins ready low_first goes below fresh pieces is_cut ends_in quiet mid ahead fits_mid) test false goal from stop (omega arith) low high_stop past ends_at lies (told_out from stop test_told))

    -- of one arm
    if_single : (test : Logic) (body : Flow) (stop to : ℕ) → from ≤ stop → stop ≤ to → LogicLies steps test false to from stop → AreTold steps within from stop → BlockLies body stop to → flow_statement_levels steps (if_flow test body no_more) ≤ less → Left to → piece.to < to → (BlockLies body from to → Result) → Result
    if_single test body stop to low stops lies test_told block levels left past rec = by (order from stop) (order piece.to stop)
      where
        left_low : to ≤ start
        left_low = left.stops

        by : (from < stop) ⊎ (stop ≤ from) → (piece.to < stop) ⊎ (stop ≤ piece.to) → Result
        by (inr none) place = let same : stop ≡ from = omega (arith, none, low) in rec (subst (λ n. BlockLies body n to) same block)
        by (inl tested) (inl inside_test) =
            let r = leaving_cut steps levelled before from piece.to mid (tests_stay steps levelled named at ends piece others before from first bound captures reach is_body begins ready low_first goes below fresh pieces is_cut ends_in quiet mid ahead fits_mid) (jumps_leave steps levelled named at ends piece others before from first bound captures reach is_body begins ready low_first goes below fresh pieces is_cut ends_in quiet mid ahead fits_mid) test false to from stop (omega arith) (omega (arith, goes)) inside_test (omega (arith, stops, left_low, goes_on)) past (omega (arith, left_low, goes_on)) lies (told_out from stop test_told) in
            let lower = lower_room steps r.rest test r.rest_low in
            inl (done (raise_flat steps before from piece.to (suc (logic_room steps test)) (suc less) (omega (arith, levels)) r.front)
            (with_front (if_flow r.rest body no_more) piece.to to (omega (arith, past)) (λ other. (refl, (stop, omega (arith, inside_test), stops, r.rest_at, told_part steps within from piece.to stop stop (omega (arith, goes)) (omega arith) test_told, block)))
            (omega (arith, lower, levels)) refl left))
        by (inl tested) (inr behind) =
            inl (seam stop tested behind (front_flat test to stop low behind past (omega (arith, left_low, goes_on)) lies test_told (omega (arith, levels)))
            (with_front (if_flow (literal_logic true) body no_more) stop to stops (λ other. (refl, (stop, omega arith, stops, refl, (λ place least most_place. absurd (omega (arith, least, most_place))), block))) (omega (arith, levels)) refl left))

    -- an arm whose jump to the end leaves the loop
    arm_leaves : (test : Logic) (body : Flow) (stop last : ℕ) → from ≤ stop → stop ≤ last → last < piece.to → LogicLies steps test false (suc last) from stop → AreTold steps within from stop → BlockLies body stop last → IsAt steps within last (StepKind.Jump mid) → logic_room steps test ≤ less → suc (max 1 (flow_levels steps body)) ≤ less → Left (suc last) → First
    arm_leaves test body stop last low stops before_cut lies test_told block jump test_low body_low left =
        seam (suc last) (omega (arith, low, stops)) (omega (arith, before_cut))
        (calm_out (if_flow test (and_flow (do_flow body) (and_flow break_flow no_flow)) no_more) (suc last) (suc less) (omega (arith, low, stops)) (omega (arith, before_cut))
        (λ other. (refl, (stop, low, omega (arith, stops), lies, test_told, (within, (refl, last, within, stops, omega arith, (refl, block), (tt, suc last, within, omega arith, omega arith, (refl, inl (ready.captured, jump, refl)), (refl, refl)))))))
        (omega (arith, test_low, body_low)) refl) left

    -- of more arms
    if_more : (test : Logic) (body : Flow) (rest : FlowArms) (stop last to : ℕ) → from ≤ stop → stop ≤ last → suc last ≤ to → LogicLies steps test false (suc last) from stop → AreTold steps within from stop → BlockLies body stop last → IsAt steps within last (StepKind.Jump to)
        → (later : FlowStatement) → ((other : ℕ) → FlowStatementLies steps within within other later (suc last) to) → flow_statement_levels steps later ≤ less → is_break later ≡ false
        → ((test : Logic) (body : Flow) (begin stop : ℕ) → begin ≤ stop → stop ≤ last → LogicLies steps test false (suc last) begin stop → AreTold steps within begin stop → BlockLies body stop last → (other : ℕ) → FlowStatementLies steps within within other (if_flow test body rest) begin to)
        → flow_statement_levels steps (if_flow test body rest) ≤ less → Left to → piece.to < to → (BlockLies body from last → Left last → piece.to < last → Result) → Result
    if_more test body rest stop last to low stops stays_in lies test_told block jump later later_lies later_low later_calm make levels left past rec = by (order last piece.to) (order from stop) (order piece.to stop)
      where
        left_low : to ≤ start
        left_low = left.stops

        by : (last < piece.to) ⊎ (piece.to ≤ last) → (from < stop) ⊎ (stop ≤ from) → (piece.to < stop) ⊎ (stop ≤ piece.to) → Result
        by (inl crossed) tested place =
            let out = jump_out steps levelled named at ends piece others before from first bound captures reach is_body begins ready low_first goes below fresh pieces is_cut ends_in quiet mid ahead fits_mid within last to (omega (arith, low, stops)) crossed past (omega (arith, left_low, goes_on)) jump refl in
            let behind : ExitBehind (Some out.0) at.to = subst (λ e. ExitBehind e at.to) out.1 is_body.behind in
            let same : to ≡ mid = omega (arith, behind, out.2, left_low, goes_on, ended) in
            inl (arm_leaves test body stop last low stops crossed lies test_told block (subst (λ n. IsAt steps within last (StepKind.Jump n)) same jump) (omega (arith, levels)) (omega (arith, levels)) (with_front later (suc last) to stays_in later_lies later_low later_calm left))
        by (inr within_arm) (inl tested) (inl inside_test) =
            let r = leaving_cut steps levelled before from piece.to mid (tests_stay steps levelled named at ends piece others before from first bound captures reach is_body begins ready low_first goes below fresh pieces is_cut ends_in quiet mid ahead fits_mid) (jumps_leave steps levelled named at ends piece others before from first bound captures reach is_body begins ready low_first goes below fresh pieces is_cut ends_in quiet mid ahead fits_mid) test false (suc last) from stop (omega arith) (omega (arith, goes)) inside_test (omega (arith, stops, stays_in, left_low, goes_on)) (omega (arith, within_arm)) (omega (arith, stays_in, left_low, goes_on)) lies (told_out from stop test_told) in
            let lower = lower_room steps r.rest test r.rest_low in
            inl (done (raise_flat steps before from piece.to (suc (logic_room steps test)) (suc less) (omega (arith, levels)) r.front)
            (with_front (if_flow r.rest body rest) piece.to to (omega (arith, past)) (make r.rest body piece.to stop (omega (arith, inside_test)) stops r.rest_at (told_part steps within from piece.to stop stop (omega (arith, goes)) (omega arith) test_told) block)
            (omega (arith, lower, levels)) refl left))
        by (inr within_arm) (inl tested) (inr behind) =
            inl (seam stop tested behind (front_flat test (suc last) stop low behind (omega (arith, within_arm)) (omega (arith, stays_in, left_low, goes_on)) lies test_told (omega (arith, levels)))
            (with_front (if_flow (literal_logic true) body rest) stop to (omega (arith, stops, stays_in)) (make (literal_logic true) body stop stop (omega arith) stops refl (λ place least most_place. absurd (omega (arith, least, most_place))) block) (omega (arith, levels)) refl left))
        by (inr within_arm) (inr none) place =
            let same : stop ≡ from = omega (arith, none, low) in
            let here : BlockLies body from last = subst (λ n. BlockLies body n last) same block in
            let next = with_front (if_flow (literal_logic true) no_flow rest) last to (omega (arith, stays_in)) (make (literal_logic true) no_flow last last (omega arith) (omega arith) refl (λ place least most_place. absurd (omega (arith, least, most_place))) (within, (refl, refl))) (omega (arith, levels)) refl left in
            at_cut here next (order piece.to last)
          where
            at_cut : BlockLies body from last → Left last → (piece.to < last) ⊎ (last ≤ piece.to) → Result
            at_cut here next (inl before_end) = rec here next before_end
            at_cut here next (inr there) =
                inl (seam last (omega (arith, goes, within_arm)) there (calm_out (do_flow body) last (suc less) (omega (arith, goes, within_arm)) there (λ other. (refl, here)) (omega (arith, levels)) refl) next)

    -- ---- every statement

    -- a `repeat` in the `repeat`
    unwrap_repeat : (body : Flow) (test : Logic) (to : ℕ) → ((other : ℕ) → FlowStatementLies steps within within other (repeat_flow body test) from to) → flow_statement_levels steps (repeat_flow body test) ≤ less → Left to → piece.to < to → Result
    unwrap_repeat body test to lies levels left past = by (order to mid)
      where
        deep : ℕ
        deep = max (max 1 (logic_room steps test)) (flow_levels steps body)

        stops : to ≤ start
        stops = left.stops

        owned : ends ≡ at.locals_end
        owned = is_body.owned

        nothing_hard : to < mid → Hard steps at is_body.small is_body.fits from piece.to is_cut from to → ⊥
        nothing_hard early hard = at_statement hard.statement hard.hard
          where
            last : hard.end ≤ to
            last = hard.most

            hits : HitsExit steps at is_body.small is_body.fits from piece.to is_cut hard.begin hard.end → ⊥
            hits hit =
                let near = hit.near in
                let behind : ExitBehind (Some hit.exit) at.to = subst (λ e. ExitBehind e at.to) (is_body.same hit.exit hit.is) is_body.behind in
                absurd (omega (arith, near, behind, last, early, ended))

            at_statement : (s : FlowStatement) → IsHard steps at is_body.small is_body.fits from piece.to is_cut s hard.begin hard.end → ⊥
            at_statement (step_flow step) is = is
            at_statement (return_flow step) is = is
            at_statement break_flow is = is
            at_statement (do_flow inner_body) is = is
            at_statement (while_flow test inner_body) is = is
            at_statement (for_flow step numeric inner_body) is = is
            at_statement (if_flow test inner_body rest) hit = hits hit
            at_statement (repeat_flow inner_body test) (inl hit) = hits hit
            at_statement (repeat_flow inner_body test) (inr is) = absurd (omega (arith, is, last, early, ended, ends_in))

        out : (other : ℕ) → FlowStatementLies steps within within other (repeat_flow body test) from to → FlowStatementLies steps before before other (repeat_flow body test) from to
        out other (same, stop, inside_body, low, inl lies) = (refl, stop, inside_body, low, inl lies)
        out other (same, stop, inside_body, low, inr (captured, tested, up, body_at, test_at, test_told, close, jump, again, back, next)) =
            absurd (back_uncut steps levelled at is_body.small is_body.fits from piece.to is_cut ends_in from (tested + 3) to (omega arith) goes past (omega (arith, next)) (omega (arith, stops, goes_on, ended)) (omega (arith, low, up)) back.1)

        found : to < mid → Found steps at is_body.small is_body.fits from piece.to is_cut within ends from to (suc deep) → Result
        found early (inl (inl flats)) =
            let two = flats.1 in
            let two_low = two.low in
            let rest_low = left.rest_low in
            inl (done (raise_flat steps before from piece.to (suc deep) (suc less) (omega (arith, levels)) (flat_out steps levelled named at ends piece others before from first bound captures reach is_body begins ready low_first goes below fresh pieces is_cut ends_in quiet mid ahead fits_mid from piece.to (suc deep) (omega arith) (omega arith) flats.0))
            (record {
              rest = join_flow two.flow left.rest;
              rest_at = join_lies steps two.flow left.rest within within inside mid piece.to to start stops two.calm (two.lies mid) left.rest_at;
              rest_low = join_levels steps two.flow left.rest less (omega (arith, two_low, levels)) rest_low;
              none = join_captures steps two.flow left.rest two.none left.none;
              stops = omega (arith, past, stops);
            }))
        found early (inl (inr ending)) = let is = ending.is_end in absurd (omega (arith, is, owned, early, ended, ends_in))
        found early (inr hard) = absurd (nothing_hard early hard)

        by : (to < mid) ⊎ (mid ≤ to) → Result
        by (inl early) =
            found early (in_statement steps levelled at is_body.small is_body.fits from piece.to is_cut ends_in (repeat_flow body test) within within 0 from to ends deep ready.captured (omega arith) goes past (omega (arith, stops, goes_on, ended, ends_in, owned)) (omega (arith, owned)) (omega (arith, stops, goes_on, ended)) (omega arith) (lies 0) (omega arith))
        by (inr last) =
            inr (record {
              levels = suc deep;
              low = omega (arith, levels, most);
              around =
                  record {
                    body = body;
                    logic = test;
                    mid = to;
                    lies = λ other. out other (lies other);
                    low = omega arith;
                    tail = record { rest = no_flow; behind = before; rest_at = (refl, omega (arith, last, stops, goes_on, ended)); rest_low = omega arith; stops = omega (arith, stops, goes_on, ended); owns = λ is. absurd (false≢true is) };
                    around = past;
                  };
            })

    -- the first statement of a block
    block_by : (s : FlowStatement) (b : Flow) (inside_block between : Around) (end m to : ℕ) → EndsWell s b → from ≤ m → m ≤ end → FlowStatementLies steps within between end s from m → FlowLies steps between inside_block end b m end → ClosesAt steps within (captures_flow steps (and_flow s b)) end to → suc (max 1 (flow_levels steps (and_flow s b))) ≤ less
        → Left to → piece.to < to → (FlowLies steps within inside_block end b from end → ClosesAt steps within (captures_flow steps b) end to → Result) → (((other : ℕ) → FlowStatementLies steps within within other s from m) → Left m → piece.to < m → Result) → Result
    block_by s b inside_block between end m to well starts stops one others_at closes levels left past empty unwrap_first = by (order from m) (order piece.to m) (statement_flat steps s within between end from m one)
      where
        end_low : end ≤ to
        end_low = closes_low steps within (captures_flow steps (and_flow s b)) end to closes

        to_low : to ≤ start
        to_low = left.stops

        flat_closes : ((other : ℕ) → FlowStatementLies steps within within other s from m) → ClosesAt steps within (captures_flow steps b) end to
        flat_closes flat = subst (λ c. ClosesAt steps within c end to) (flat_rest steps s b within end from m (flat end)) closes

        behind_first : (between ≡ within) → ((other : ℕ) → FlowStatementLies steps within within other s from m) → Left m
        behind_first same flat =
            let block = block_of steps within (captures_flow steps b) (λ ends end. (inside : Around) × FlowLies steps within inside ends b m end) m end to stops (inside_block, subst (λ a. FlowLies steps a inside_block end b m end) same others_at) (flat_closes flat) in
            with_front (do_flow b) m to (omega (arith, stops, end_low)) (λ other. (refl, block)) (omega (arith, levels)) refl left

        by : (from < m) ⊎ (m ≤ from) → (piece.to < m) ⊎ (m ≤ piece.to) → ((between ≡ within) × ((other : ℕ) → FlowStatementLies steps within within other s from m))
            ⊎ ((m ≡ suc from) × ((step : ℕ) × (s ≡ step_flow step) × (captured : Bool) × IsAt steps within from (StepKind.Declaration end captured) × Declares from captured within between)) → Result
        by (inr none) place (inr declared) = absurd (omega (arith, declared.0, none))
        by (inr none) place (inl flat) =
            let same : m ≡ from = omega (arith, none, starts) in
            empty (subst (λ n. FlowLies steps within inside_block end b n end) same (subst (λ a. FlowLies steps a inside_block end b m end) flat.0 others_at)) (flat_closes flat.1)
        by (inl past_from) (inl inside_first) (inl flat) = unwrap_first flat.1 (behind_first flat.0 flat.1) inside_first
        by (inl past_from) (inr behind) (inl flat) = inl (seam m past_from behind (statement_flat_out steps levelled named at ends piece others before from first bound captures reach is_body begins ready low_first goes below fresh pieces is_cut ends_in quiet mid ahead fits_mid s m less starts behind flat.1 (omega (arith, levels))) (behind_first flat.0 flat.1))
        by (inl past_from) place (inr (next, (step, is_step, captured, declaration, declares))) =
            let here : step ≡ from = (subst (λ x. FlowStatementLies steps within between end x from m) is_step one).0 in
            let kind : is_captured_at (kind_at steps step) ≡ captured = ap (λ n. is_captured_at (kind_at steps n)) here ∙ ap is_captured_at declaration.1 in
            let whole : captures_flow steps (and_flow s b) ≡ (captured || captures_flow steps b) = ap (λ x. captures_flow steps (and_flow x b)) is_step ∙ ap (λ c. c || captures_flow steps b) kind in
            let own = own_local steps levelled at is_body.small is_body.fits from piece.to is_cut ends_in within (captures_flow steps (and_flow s b)) captured from end to (omega arith) goes past (omega (arith, to_low, goes_on, ended, ends_in)) declaration.1 closes
            (λ c. captured_in steps (and_flow s b) within inside_block end from end (well, m, between, starts, stops, one, others_at) c) (λ c. whole ∙ ap (λ x. x || captures_flow steps b) c) in
            let none : captures_flow steps b ≡ false = not_right (captures_flow steps (and_flow s b)) (captures_flow steps b) (λ c. whole ∙ or_right captured (captures_flow steps b) c) own.2 in
            let last : end ≡ mid = omega (arith, own.0, own.1, to_low, goes_on, ended, ends_in) in
            let step_low : flow_statement_levels steps (step_flow step) ≤ less = subst (λ x. flow_statement_levels steps x ≤ less) is_step (omega (arith, levels)) in
            inl (own_first step captured between inside_block b (literal_logic true) end
            (subst (λ n. FlowStatementLies steps within between n (step_flow step) from (suc from)) last (subst (λ n. FlowStatementLies steps within between end (step_flow step) from n) next (subst (λ x. FlowStatementLies steps within between end x from m) is_step one)))
            (subst (λ n. IsAt steps within from (StepKind.Declaration n captured)) last declaration) declares own.3 (omega (arith, last)) (omega (arith, next, stops))
            (subst (λ n. FlowLies steps between inside_block n b (suc from) end) last (subst (λ n. FlowLies steps between inside_block end b n end) next others_at)) none (λ other. sym last) (λ place least below_end. absurd (omega (arith, least, below_end, last)))
            (omega (arith, step_low)) (omega (arith, levels)) (omega (arith, some)))
          where
            not_right : (a b : Bool) → (b ≡ true → a ≡ true) → a ≡ false → b ≡ false
            not_right a true more is = absurd (false≢true (sym is ∙ more refl))
            not_right a false more is = refl

    mutual
      -- a statement around the end of the piece
      unwrap : (s : FlowStatement) (to : ℕ) → ((other : ℕ) → FlowStatementLies steps within within other s from to) → flow_statement_levels steps s ≤ less → Left to → piece.to < to → Result
      unwrap (step_flow step) to lies levels left past = absurd (omega (arith, (lies 0).1, goes, past))
      unwrap (return_flow step) to lies levels left past = absurd (omega (arith, (lies 0).3, goes, past))
      unwrap break_flow to lies levels left past = absurd (break_uncut steps levelled at is_body.small is_body.fits from piece.to is_cut ends_in within.exit within from to ready.captured (omega arith) goes past (lies 0).1)
      unwrap (do_flow body) to lies levels left past =
          let found = block_end steps within (captures_flow steps body) (λ ends end. (inside : Around) × FlowLies steps within inside ends body from end) from to (lies 0).1 in
          unwrap_block body found.1.0 found.0 to found.1.1 found.2 levels left past
      unwrap (while_flow test body) to lies levels left past = by (lies 0)
        where
          by : FlowStatementLies steps within within 0 (while_flow test body) from to → Result
          by (same, stop, back, low, stops, test_at, test_told, block, jump, next) =
              let low_to = left.stops in absurd (back_uncut steps levelled at is_body.small is_body.fits from piece.to is_cut ends_in from back to (omega arith) goes past next (omega (arith, low_to, goes_on, ended)) (omega (arith, low, stops)) jump.1)
      unwrap (repeat_flow body test) to lies levels left past = unwrap_repeat body test to lies levels left past
      unwrap (for_flow step numeric body) to lies levels left past = by (lies 0)
        where
          by : FlowStatementLies steps within within 0 (for_flow step numeric body) from to → Result
          by (same, here, foot, variables_end, captured, hidden, inside_loop, short, head, hides, declares, to_end, block, variables, footed, next) =
              let held = told_before steps levelled at is_body.small is_body.fits from piece.to is_cut ends_in within from (StepKind.Head numeric foot to variables_end captured) head (omega arith) goes in absurd (omega (arith, held, next, past))
      unwrap (if_flow test body no_more) to lies levels left past =
          by (lies 0).1
          (λ block.
          let found = block_end steps within (captures_flow steps body) (λ ends end. (inside : Around) × FlowLies steps within inside ends body from end) from to block in
          unwrap_block body found.1.0 found.0 to found.1.1 found.2 (omega (arith, levels)) left past)
        where
          by : ArmLies steps within test (captures_flow steps body) (λ from ends end. (inside : Around) × FlowLies steps within inside ends body from end) no_more from to → (BlockLies body from to → Result) → Result
          by (stop, low, stops, test_at, test_told, block) rec = if_single test body stop to low stops test_at test_told block levels left past rec
      unwrap (if_flow test body (else_flow last_body)) to lies levels left past =
          by (lies 0).1
          (λ last block next ahead_of.
          let found = block_end steps within (captures_flow steps body) (λ ends end. (inside : Around) × FlowLies steps within inside ends body from end) from last block in
          unwrap_block body found.1.0 found.0 last found.1.1 found.2 (omega (arith, levels)) next ahead_of)
        where
          by : ArmLies steps within test (captures_flow steps body) (λ from ends end. (inside : Around) × FlowLies steps within inside ends body from end) (else_flow last_body) from to → ((last : ℕ) → BlockLies body from last → Left last → piece.to < last → Result) → Result
          by (stop, last, low, stops, stays_in, test_at, test_told, block, jump, after) rec =
              if_more test body (else_flow last_body) stop last to low stops stays_in test_at test_told block jump (do_flow last_body) (λ other. (refl, after)) (omega (arith, levels)) refl
              (λ test body begin stop low stops test_at test_told block other. (refl, (stop, last, low, stops, stays_in, test_at, test_told, block, jump, after))) levels left past (rec last)
      unwrap (if_flow test body (elseif_flow next_test next_body rest)) to lies levels left past =
          by (lies 0).1
          (λ last block next ahead_of.
          let found = block_end steps within (captures_flow steps body) (λ ends end. (inside : Around) × FlowLies steps within inside ends body from end) from last block in
          unwrap_block body found.1.0 found.0 last found.1.1 found.2 (omega (arith, levels)) next ahead_of)
        where
          by : ArmLies steps within test (captures_flow steps body) (λ from ends end. (inside : Around) × FlowLies steps within inside ends body from end) (elseif_flow next_test next_body rest) from to → ((last : ℕ) → BlockLies body from last → Left last → piece.to < last → Result) → Result
          by (stop, last, low, stops, stays_in, test_at, test_told, block, jump, after) rec =
              if_more test body (elseif_flow next_test next_body rest) stop last to low stops stays_in test_at test_told block jump (if_flow next_test next_body rest) (λ other. (refl, after)) (let one = further_low steps next_test next_body rest in omega (arith, one, levels)) refl
              (λ test body begin stop low stops test_at test_told block other. (refl, (stop, last, low, stops, stays_in, test_at, test_told, block, jump, after))) levels left past (rec last)

      -- a block around it, in place
      unwrap_block : (b : Flow) (inside_block : Around) (end to : ℕ) → FlowLies steps within inside_block end b from end → ClosesAt steps within (captures_flow steps b) end to → suc (max 1 (flow_levels steps b)) ≤ less → Left to → piece.to < to → Result
      unwrap_block no_flow inside_block end to (same, none) closes levels left past = absurd (omega (arith, closes, none, goes, past))
      unwrap_block (and_flow s b) inside_block end to (well, m, between, starts, stops, one, others_at) closes levels left past =
          block_by s b inside_block between end m to well starts stops one others_at closes levels left past
          (λ lies closes. unwrap_block b inside_block end to lies closes (omega (arith, levels)) left past)
          (λ flat next ahead_of. unwrap s m flat (omega (arith, levels)) next ahead_of)

    -- the block of the `repeat`
    pub unwrapped_repeat : (flow : Flow) → FlowLies steps within inside mid flow from start → captures_flow steps flow ≡ false → flow_levels steps flow ≤ less → Result
    unwrapped_repeat no_flow (same, here) none levels = inl (logic_only here same)
    unwrapped_repeat (and_flow s rest) (well, m, between, starts, stops, one, others_at) none levels =
        by (order from m) (order piece.to m) (statement_flat steps s within between mid from m one) (λ lies rest_none. unwrapped_repeat rest lies rest_none (omega (arith, levels)))
      where
        right_none : (a b : Bool) → (a || b) ≡ false → (a ≡ false) × (b ≡ false)
        right_none true b is = absurd (false≢true (sym is))
        right_none false b is = (refl, is)

        left_at : (between ≡ within) → ((other : ℕ) → FlowStatementLies steps within within other s from m) → Left m
        left_at same flat = record { rest = rest; rest_at = subst (λ a. FlowLies steps a inside mid rest m start) same others_at; rest_low = omega (arith, levels); none = sym (flat_rest steps s rest within mid from m (flat mid)) ∙ none; stops = stops }

        by : (from < m) ⊎ (m ≤ from) → (piece.to < m) ⊎ (m ≤ piece.to) → ((between ≡ within) × ((other : ℕ) → FlowStatementLies steps within within other s from m))
            ⊎ ((m ≡ suc from) × ((step : ℕ) × (s ≡ step_flow step) × (captured : Bool) × IsAt steps within from (StepKind.Declaration mid captured) × Declares from captured within between)) → (FlowLies steps within inside mid rest from start → captures_flow steps rest ≡ false → Result) → Result
        by (inr nothing) place (inr declared) rec = absurd (omega (arith, declared.0, nothing))
        by (inr nothing) place (inl flat) rec =
            let same : m ≡ from = omega (arith, nothing, starts) in
            let rest_left = left_at flat.0 flat.1 in
            rec (subst (λ n. FlowLies steps within inside mid rest n start) same (subst (λ a. FlowLies steps a inside mid rest m start) flat.0 others_at)) rest_left.none
        by (inl past_from) (inl inside_first) (inl flat) rec = unwrap s m flat.1 (omega (arith, levels)) (left_at flat.0 flat.1) inside_first
        by (inl past_from) (inr behind) (inl flat) rec = inl (seam m past_from behind (statement_flat_out steps levelled named at ends piece others before from first bound captures reach is_body begins ready low_first goes below fresh pieces is_cut ends_in quiet mid ahead fits_mid s m less starts behind flat.1 (omega (arith, levels))) (left_at flat.0 flat.1))
        by (inl past_from) place (inr (next, (step, is_step, captured, declaration, declares))) rec =
            let here : step ≡ from = (subst (λ x. FlowStatementLies steps within between mid x from m) is_step one).0 in
            let kind : is_captured_at (kind_at steps step) ≡ captured = ap (λ n. is_captured_at (kind_at steps n)) here ∙ ap is_captured_at declaration.1 in
            let whole : captures_flow steps (and_flow s rest) ≡ (captured || captures_flow steps rest) = ap (λ x. captures_flow steps (and_flow x rest)) is_step ∙ ap (λ c. c || captures_flow steps rest) kind in
            let neither = right_none captured (captures_flow steps rest) (sym whole ∙ none) in
            let step_low : flow_statement_levels steps (step_flow step) ≤ less = subst (λ x. flow_statement_levels steps x ≤ less) is_step (omega (arith, levels)) in
            inl (own_first step captured between inside rest logic start (subst (λ n. FlowStatementLies steps within between mid (step_flow step) from n) next (subst (λ x. FlowStatementLies steps within between mid x from m) is_step one)) declaration declares neither.0 goes_on (omega (arith, next, stops))
            (subst (λ n. FlowLies steps between inside mid rest n start) next others_at) neither.1 tests told (omega (arith, step_low)) (omega (arith, levels)) room)
