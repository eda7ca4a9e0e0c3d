-- Each statement that is a piece of a body is found; a `repeat` that never goes back by its first statement, in its place.
use Rattle.std.proofs.Common.{◌≡◌, ◌∙◌, ◌≤◌, ◌<◌, ◌-◌, ◌^◌, ◌⊎◌, inl, inr, refl, sym, ap, subst, ℕ, suc, max, Bool, true, false, List, length, Option, None, Some, arith}
use Rattle.std.specs.Prelude.{◌==◌, ◌&&◌, ◌||◌, not}
use Rattle.std.proofs.lemmas.Bool.{false≢true}
use Rattle.recover_expr.specs.declared.steps.Step.{Step}
use Rattle.recover_expr.specs.declared.steps.StepKind.{StepKind}
use Rattle.recover_flow.specs.Asked.{is_other, is_reached, kind_at}
use Rattle.recover_flow.specs.Flow.{AreTold, Around, ArmLies, FlowArms, Declares, Flow, no_flow, and_flow, FlowStatement, step_flow, return_flow, break_flow, do_flow, while_flow, repeat_flow, for_flow, if_flow, FlowLies, FlowStatementLies, IsAt, IsFlowBlock, captures_flow, flow_levels, flow_statement_levels, in_loop, is_break, logic_room}
use Rattle.recover_flow.specs.Forms.{choice_at}
use Rattle.recover_flow.specs.Logic.{AreLevelled, Logic, LogicIsFound, LogicLies, literal_logic}
use Rattle.recover_flow.specs.Lying.{AreOrdered, is_captured_at}
use Rattle.recover_flow.specs.Plans.{step_levels}
use Rattle.recover_flow.specs.declared.regions.BodyAt.{BodyAt}
use Rattle.recover_flow.specs.declared.regions.Exit.{Exit}
use Rattle.recover_flow.specs.declared.regions.Piece.{Piece}
use Rattle.recover_flow.proofs.BodiesFound.{IsPiece, LighterFound, PieceFound}
use Rattle.recover_flow.proofs.DoFound.{declared_found, first_within}
use Rattle.recover_flow.proofs.FlowInside.{ClosesAreNamed, ExitBehind, ready_declared, ready_loop}
use Rattle.recover_flow.proofs.FlowMoves.{all_told_moved, declares_moved, flow_moved, moved_to, statement_flat}
use Rattle.recover_flow.proofs.FlowParts.{ClosesAt, block_end}
use Rattle.recover_flow.proofs.FormsLie.{same_numbers}
use Rattle.recover_flow.proofs.IfPieces.{if_piece}
use Rattle.recover_flow.proofs.InPlace.{do_by, in_place}
use Rattle.recover_flow.proofs.LogicRest.{ends_well}
use Rattle.recover_flow.proofs.OnceFound.{Filled, filled, is_straight, loop_exit, once_reached, past_targets}
use Rattle.recover_flow.proofs.OnceLogic.{logic_piece}
use Rattle.recover_flow.proofs.OnceNested.{Block, do_block, if_block, nested_by}
use Rattle.recover_flow.proofs.OnceOpened.{break_opens, locals_open, tests_open, untested}
use Rattle.recover_flow.proofs.OnceTangled.{flow_not_back}
use Rattle.recover_flow.proofs.OnceTold.{ToldOnce, repeat_told}
use Rattle.recover_flow.proofs.OnceWithin.{Exits, IsClosed, IsTangled, moved_closed, moved_out, no_break, no_part, same_around}
use Rattle.recover_flow.proofs.PartsInside.{order}
use Rattle.recover_flow.proofs.PiecesFound.{plain_found}

none_rest : (steps : List Step) (s : FlowStatement) (rest : Flow) → captures_flow steps (and_flow s rest) ≡ false → captures_flow steps rest ≡ false
none_rest steps (step_flow step) rest none = (no_part (is_captured_at (kind_at steps step)) (captures_flow steps rest) none).1
none_rest steps (return_flow step) rest none = none
none_rest steps break_flow rest none = none
none_rest steps (do_flow body) rest none = none
none_rest steps (while_flow logic body) rest none = none
none_rest steps (repeat_flow body logic) rest none = none
none_rest steps (for_flow step numeric body) rest none = none
none_rest steps (if_flow logic body arms) rest none = none

-- the exit is the one of the body
same_other : (exit : Option Exit) (found : Exit) → is_other exit (Some found) ≡ false → exit ≡ Some found
same_other None found is = absurd (false≢true (sym is))
same_other (Some exit) found is = by (exit.place == found.place) refl (exit.locals == found.locals) refl is
  where
    by : (a : Bool) → (exit.place == found.place) ≡ a → (b : Bool) → (exit.locals == found.locals) ≡ b → not (a && b) ≡ false → Some exit ≡ Some found
    by true one true two is = ap (λ n. Some (record { place = n; locals = exit.locals })) (same_numbers exit.place found.place one) ∙ ap (λ n. Some (record { place = found.place; locals = n })) (same_numbers exit.locals found.locals two)
    by true one false two is = absurd (false≢true (sym is))
    by false one b two is = absurd (false≢true (sym is))

module _ (steps : List Step) (levelled : AreLevelled steps) (small : length steps < 2 ^ 32) (logic_found : LogicIsFound) (named : ClosesAreNamed steps) (ordered : AreOrdered steps) (at : BodyAt) (others_found : LighterFound steps at) where
  module _ (piece : Piece) (body : Flow) (logic : Logic) (before between : Around) (ends first bound : ℕ) (is : IsPiece steps at piece (repeat_flow body logic) before between ends first bound) (same : between ≡ before) (inside : Around) (start : ℕ) (goes : start ≤ piece.to)
      (tests : (target : ℕ) → LogicLies steps logic false target start piece.to) (told : AreTold steps inside start piece.to) (room : logic_room steps logic < bound) where
    fits : piece.to ≤ length steps
    fits = let a = is.body.fits in let b = is.within in omega (arith, a, b)

    -- nothing but the condition
    logic_alone : inside ≡ in_loop piece.to before → start ≡ piece.from → PieceFound steps at bound piece
    logic_alone alike ended =
        let past = past_targets steps piece.to in
        logic_piece steps levelled small logic_found named ordered at others_found piece (repeat_flow body logic) before between ends first bound is is.may same
        (all_told_moved steps before.exit (in_loop piece.to before) piece.from piece.to (subst (λ a. AreTold steps a piece.from piece.to) alike (subst (λ n. AreTold steps inside n piece.to) ended told)))
        past.0 (λ place least most there. let less = past.1 place past.0 most there in absurd (omega (arith, less))) logic false (subst (λ n. LogicLies steps logic false past.0 n piece.to) ended (tests past.0)) room

    -- a first statement outside of the loop
    first_alone : (s : FlowStatement) (rest : Flow) (mid : ℕ) → piece.from < mid → mid ≤ start → ((other : ℕ) → FlowStatementLies steps before before other s piece.from mid) → FlowLies steps (in_loop piece.to before) inside piece.to rest mid start → captures_flow steps rest ≡ false → flow_statement_levels steps s < bound
        → ((is_break s ≡ false) → IsPiece steps at piece s before before ends first bound → PieceFound steps at bound piece) → PieceFound steps at bound piece
    first_alone s rest mid some stops one lies none low rec =
        let within = is.within in
        let past = first_within steps small named ordered at others_found piece is.others s (and_flow (repeat_flow rest logic) is.rest) before before is.behind ends mid first is.reach is.body is.later is.ready is.begins some (omega (arith, stops, goes, within)) is.fresh is.pieces (one ends)
        (ends_well (repeat_flow rest logic) is.rest refl, piece.to, before, omega (arith, stops, goes), within, (refl, start, inside, stops, inl (none, goes, lies, tests mid, told)), subst (λ a. FlowLies steps a is.behind ends is.rest piece.to at.to) same is.rest_lies) in
        let here : mid ≡ piece.to = omega (arith, past, stops, goes) in
        in_place steps levelled small logic_found named ordered at others_found piece (repeat_flow body logic) s before between ends first bound is is.may same (λ other. subst (λ n. FlowStatementLies steps before before other s piece.from n) here (one other)) low rec

    -- locals at its beginning, outside of the loop
    declared_alone : (step : ℕ) (flow : Flow) (inner behind : Around) → step ≡ piece.from → IsAt steps before piece.from (StepKind.Declaration piece.to false) → Declares piece.from false before inner → suc piece.from ≤ piece.to → FlowLies steps inner behind piece.to flow (suc piece.from) piece.to
        → captures_flow steps flow ≡ false → max (max 1 (step_levels steps piece.from)) (flow_levels steps flow) < bound → PieceFound steps at bound piece
    declared_alone step flow inner behind here declaration declares stops lies none low =
        let first_at : FlowStatementLies steps before inner piece.to (step_flow piece.from) piece.from (suc piece.from) = (refl, refl, inr (false, declaration, declares)) in
        let whole_none : captures_flow steps (and_flow (step_flow piece.from) flow) ≡ false = ap (λ kind. is_captured_at kind || captures_flow steps flow) declaration.1 ∙ none in
        let bounded = is.bounded in
        declared_found steps small named ordered at others_found piece (and_flow (step_flow piece.from) flow) before between ends first bound
        (record {
          body = is.body;
          serves = is.serves;
          ready = is.ready;
          begins = is.begins;
          later = is.later;
          some = is.some;
          within = is.within;
          ends_in = is.ends_in;
          quiet = is.quiet;
          lies = (
            same,
            subst (λ b. IsFlowBlock steps before b (λ ends end. (inside : Around) × FlowLies steps before inside ends (and_flow (step_flow piece.from) flow) piece.from end) piece.from piece.to) (sym whole_none)
                (behind, (ends_well (step_flow piece.from) flow refl, suc piece.from, inner, omega arith, stops, first_at, lies)),
          );
          low = omega (arith, low);
          bounded = bounded;
          rest = is.rest;
          behind = is.behind;
          well = ends_well (do_flow (and_flow (step_flow piece.from) flow)) is.rest refl;
          rest_lies = is.rest_lies;
          may = is.may;
          others = is.others;
          reach = is.reach;
          fresh = is.fresh;
          pieces = is.pieces;
        })
        piece.from flow inner behind piece.to false false first_at declaration declares stops lies refl (λ c. c) (λ c. absurd (false≢true (sym none ∙ c))) (λ c. absurd (false≢true c)) low

    module _ (exits : Exits steps at piece before) where
      -- or they stand in the loop
      declared_first : (step : ℕ) (rest : Flow) (captured : Bool) (inner : Around) → step ≡ piece.from → IsAt steps (in_loop piece.to before) piece.from (StepKind.Declaration piece.to captured) → Declares piece.from captured (in_loop piece.to before) inner → suc piece.from ≤ start
          → FlowLies steps inner inside piece.to rest (suc piece.from) start → captures_flow steps (and_flow (step_flow step) rest) ≡ false → flow_levels steps (and_flow (step_flow step) rest) < bound → PieceFound steps at bound piece
      declared_first step rest captured inner here declaration declares stops lies none low = by captured declaration declares calm exits
        where
          parts : (is_captured_at (kind_at steps step) ≡ false) × (captures_flow steps rest ≡ false)
          parts = no_part (is_captured_at (kind_at steps step)) (captures_flow steps rest) none

          calm : captured ≡ false
          calm = sym (ap is_captured_at (ap (kind_at steps) here ∙ declaration.1)) ∙ parts.0

          fill : Filled steps inner inside (suc piece.from) piece.to (bound - 1)
          fill = filled steps levelled rest logic inner inside (suc piece.from) start piece.to (bound - 1) stops goes parts.1 lies tests told (omega (arith, room)) (omega (arith, low))

          deep : max (max 1 (step_levels steps piece.from)) (flow_levels steps fill.flow) < bound
          deep = let a = fill.low in let b : step_levels steps step ≡ step_levels steps piece.from = ap (step_levels steps) here in omega (arith, a, b, low)

          by : (captured : Bool) → IsAt steps (in_loop piece.to before) piece.from (StepKind.Declaration piece.to captured) → Declares piece.from captured (in_loop piece.to before) inner → captured ≡ false → Exits steps at piece before → PieceFound steps at bound piece
          by true declaration declares is_calm exits = absurd (false≢true (sym is_calm))
          by false declaration declares is_calm (inr (inr tangled)) =
              locals_open steps levelled named at piece body logic before between ends first bound is inside start goes tests told tangled (in_loop piece.to before) piece.to false declaration
              (λ last least high back. flow_not_back steps named fill.flow inner inside piece.to (suc piece.from) piece.to piece.from piece.from last (ready_declared piece.from false (in_loop piece.to before) inner piece.from (ready_loop piece.to piece.from before is.ready.captured) (omega arith) declares) (omega arith)
              (subst (λ e. ExitBehind e piece.to) (sym declares.exit) (omega arith)) fill.lies (omega arith) least high back)
          by false declaration declares is_calm (inl alike) =
              let around = sym (same_around steps at piece before fits alike) in
              declared_alone step fill.flow inner inside here (subst (λ a. IsAt steps a piece.from (StepKind.Declaration piece.to false)) around declaration) (subst (λ a. Declares piece.from false a inner) around declares) (omega (arith, stops, goes)) fill.lies fill.none deep
          by false declaration declares is_calm (inr (inl unused)) =
              declared_alone step fill.flow (moved_to before.exit inner) (moved_to before.exit inside) here
              (record { step = declaration.0.step; there = declaration.0.there; base = declaration.0.base; captured = declaration.0.captured }, declaration.1)
              (declares_moved steps before.exit piece.from false (in_loop piece.to before) inner declares) (omega (arith, stops, goes))
              (flow_moved steps (Some (loop_exit steps at piece before)) before.exit piece.from piece.to (no_break steps at piece before fits unused) fill.flow inner inside piece.to (suc piece.from) piece.to declares.exit (omega arith) (omega arith) fill.lies) fill.none deep

      -- the first statement of the block
      once_by : (s : FlowStatement) (rest : Flow) (inner : Around) (mid : ℕ) → piece.from ≤ mid → mid ≤ start → FlowStatementLies steps (in_loop piece.to before) inner piece.to s piece.from mid → FlowLies steps inner inside piece.to rest mid start → captures_flow steps (and_flow s rest) ≡ false
          → flow_levels steps (and_flow s rest) < bound → ((is_break s ≡ false) → IsPiece steps at piece s before before ends first bound → PieceFound steps at bound piece)
          → (FlowLies steps (in_loop piece.to before) inside piece.to rest piece.from start → PieceFound steps at bound piece)
          → (IsTangled steps at piece before → piece.from < mid → ((other : ℕ) → FlowStatementLies steps (in_loop piece.to before) (in_loop piece.to before) other s piece.from mid) → FlowLies steps (in_loop piece.to before) inside piece.to rest mid start → captures_flow steps rest ≡ false → PieceFound steps at bound piece) → PieceFound steps at bound piece
      once_by s rest inner mid starts stops one others none low rec rec_rest rec_tangled = by (order piece.from mid) (statement_flat steps s (in_loop piece.to before) inner piece.to piece.from mid one)
        where
          Declared : Type 0
          Declared = (mid ≡ suc piece.from) × ((step : ℕ) × (s ≡ step_flow step) × (captured : Bool) × IsAt steps (in_loop piece.to before) piece.from (StepKind.Declaration piece.to captured) × Declares piece.from captured (in_loop piece.to before) inner)

          Flat : Type 0
          Flat = (inner ≡ in_loop piece.to before) × ((other : ℕ) → FlowStatementLies steps (in_loop piece.to before) (in_loop piece.to before) other s piece.from mid)

          at_moved_out : piece.from < mid → Flat → ((other : ℕ) → FlowStatementLies steps before before other s piece.from mid) ⊎ IsTangled steps at piece before → PieceFound steps at bound piece
          at_moved_out some flat (inl free) = first_alone s rest mid some stops free (subst (λ a. FlowLies steps a inside piece.to rest mid start) flat.0 others) (none_rest steps s rest none) (omega (arith, low)) rec
          at_moved_out some flat (inr tangled) = rec_tangled tangled some flat.1 (subst (λ a. FlowLies steps a inside piece.to rest mid start) flat.0 others) (none_rest steps s rest none)

          by : (piece.from < mid) ⊎ (mid ≤ piece.from) → Flat ⊎ Declared → PieceFound steps at bound piece
          by (inr empty) (inl flat) =
              let here : mid ≡ piece.from = omega (arith, empty, starts) in
              rec_rest (subst (λ n. FlowLies steps (in_loop piece.to before) inside piece.to rest n start) here (subst (λ a. FlowLies steps a inside piece.to rest mid start) flat.0 others))
          by (inr empty) (inr declared) = absurd (omega (arith, declared.0, empty))
          by (inl some) (inl flat) = at_moved_out some flat (moved_out steps at piece before fits s mid (omega (arith, stops, goes)) exits flat.1)
          by (inl some) (inr (next, (step, is_step, captured, declaration, declares))) =
              let first_lies = subst (λ x. FlowStatementLies steps (in_loop piece.to before) inner piece.to x piece.from mid) is_step one in
              declared_first step rest captured inner first_lies.0 declaration declares (omega (arith, next, stops)) (subst (λ n. FlowLies steps inner inside piece.to rest n start) next others)
              (subst (λ x. captures_flow steps (and_flow x rest) ≡ false) is_step none) (subst (λ x. flow_levels steps (and_flow x rest) < bound) is_step low)

  -- a loop that runs once, at a piece
  record OnceAt (piece : Piece) (before : Around) (ends first bound : ℕ) : Type 0 where
    body : Flow
    logic : Logic
    between : Around
    is : IsPiece steps at piece (repeat_flow body logic) before between ends first bound
    same : between ≡ before
    inside : Around
    start : ℕ
    goes : start ≤ piece.to
    tests : (target : ℕ) → LogicLies steps logic false target start piece.to
    told : AreTold steps inside start piece.to
    room : logic_room steps logic < bound
    tangled : IsTangled steps at piece before

  closed_alone : (s : FlowStatement) → IsClosed s → (piece : Piece) (before : Around) (ends first bound : ℕ) (o : OnceAt piece before ends first bound) (rest : Flow) (mid : ℕ) → piece.from < mid → mid ≤ o.start
      → ((other : ℕ) → FlowStatementLies steps (in_loop piece.to before) (in_loop piece.to before) other s piece.from mid) → FlowLies steps (in_loop piece.to before) o.inside piece.to rest mid o.start → captures_flow steps rest ≡ false → flow_statement_levels steps s < bound
      → ((is_break s ≡ false) → IsPiece steps at piece s before before ends first bound → PieceFound steps at bound piece) → PieceFound steps at bound piece
  closed_alone s closed piece before ends first bound o rest mid some stops lies rest_lies none low rec =
      first_alone piece o.body o.logic before o.between ends first bound o.is o.same o.inside o.start o.goes o.tests o.told o.room s rest mid some stops
      (moved_closed steps at piece before (fits piece o.body o.logic before o.between ends first bound o.is o.same o.inside o.start o.goes o.tests o.told o.room) s mid closed lies) rest_lies none low rec

  if_by : (test : Logic) (block : Flow) (arms : FlowArms) (piece : Piece) (before : Around) (ends first bound : ℕ) (o : OnceAt piece before ends first bound) (rest : Flow) (mid : ℕ) → piece.from < mid → mid ≤ o.start
      → ((other : ℕ) → FlowStatementLies steps (in_loop piece.to before) (in_loop piece.to before) other (if_flow test block arms) piece.from mid) → FlowLies steps (in_loop piece.to before) o.inside piece.to rest mid o.start → captures_flow steps rest ≡ false
      → (Block steps levelled named at piece o.body o.logic before o.between ends first bound o.is o.inside o.start o.goes o.tests o.told o.tangled (captures_flow steps block) block mid → PieceFound steps at bound piece) → PieceFound steps at bound piece
  if_by test block arms piece before ends first bound o rest mid some stops lies rest_lies none rec =
      by (untested steps (in_loop piece.to before) test (captures_flow steps block) (λ from ends end. (inside : Around) × FlowLies steps (in_loop piece.to before) inside ends block from end) arms piece.from mid (lies 0).1)
    where
      Rest : Type 0
      Rest = (start : ℕ) × (target : ℕ) × (piece.from ≤ start) × (start ≤ target) × (start ≤ mid) × LogicLies steps test false target piece.from start
          × ArmLies steps (in_loop piece.to before) (literal_logic true) (captures_flow steps block) (λ from ends end. (inside : Around) × FlowLies steps (in_loop piece.to before) inside ends block from end) arms start mid

      by : Rest → PieceFound steps at bound piece
      by (start, target, low, far, within, tests, arms_lie) = at_start (order piece.from start)
        where
          at_start : (piece.from < start) ⊎ (start ≤ piece.from) → PieceFound steps at bound piece
          at_start (inl tested) = tests_open steps levelled named at piece o.body o.logic before o.between ends first bound o.is o.inside o.start o.goes o.tests o.told o.tangled test block arms rest start target mid tested within stops far tests (refl, arms_lie) rest_lies none
          at_start (inr empty) =
              let here : start ≡ piece.from = omega (arith, empty, low) in
              rec (if_block steps levelled named at piece o.body o.logic before o.between ends first bound o.is o.inside o.start o.goes o.tests o.told o.tangled arms block rest mid some stops
              (subst (λ n. ArmLies steps (in_loop piece.to before) (literal_logic true) (captures_flow steps block) (λ from ends end. (inside : Around) × FlowLies steps (in_loop piece.to before) inside ends block from end) arms n mid) here arms_lie) rest_lies none)

  mutual
    pub piece_found : (s : FlowStatement) (piece : Piece) (before between : Around) (ends first bound : ℕ) → IsPiece steps at piece s before between ends first bound → PieceFound steps at bound piece
    piece_found (step_flow step) piece before between ends first bound is = plain_found steps levelled small logic_found named at others_found piece (step_flow step) before between ends first bound tt is
    piece_found (return_flow step) piece before between ends first bound is = plain_found steps levelled small logic_found named at others_found piece (return_flow step) before between ends first bound tt is
    piece_found break_flow piece before between ends first bound is = plain_found steps levelled small logic_found named at others_found piece break_flow before between ends first bound tt is
    piece_found (do_flow body) piece before between ends first bound is =
        let lies = is.lies in
        let low = is.low in
        let found = block_end steps before (captures_flow steps body) (λ ends end. (inside : Around) × FlowLies steps before inside ends body piece.from end) piece.from piece.to lies.1 in
        do_found body piece body before between found.1.0 ends first bound found.0 is lies.0 found.1.1 found.2 (omega (arith, low))
    piece_found (while_flow logic body) piece before between ends first bound is = plain_found steps levelled small logic_found named at others_found piece (while_flow logic body) before between ends first bound tt is
    piece_found (repeat_flow body logic) piece before between ends first bound is = by (repeat_told steps levelled small logic_found named at others_found piece body logic before between ends first bound is)
        (λ told exits. once_in body piece body logic before between told.inside ends first bound told.start is is.lies.0 told.begins told.goes told.tests told.told (let low = is.low in omega (arith, low)) exits told.lies told.none (let low = is.low in omega (arith, low)))
      where
        Told : Type 0
        Told = ToldOnce steps levelled small logic_found named at others_found piece body logic before

        by : PieceFound steps at bound piece ⊎ Told → ((told : Told) → Exits steps at piece before → PieceFound steps at bound piece) → PieceFound steps at bound piece
        by (inl found) rec = found
        by (inr told) rec = with_exit (is_other at.exit (Some (loop_exit steps at piece before))) refl (is_reached steps piece.to piece.from piece.to) refl (is_straight (choice_at steps at piece)) refl
          where
            with_exit : (other : Bool) → is_other at.exit (Some (loop_exit steps at piece before)) ≡ other → (reached : Bool) → is_reached steps piece.to piece.from piece.to ≡ reached → (straight : Bool) → is_straight (choice_at steps at piece) ≡ straight → PieceFound steps at bound piece
            with_exit false one reached two straight three = rec told (inl (is.serves.same (loop_exit steps at piece before) (same_other at.exit (loop_exit steps at piece before) one)))
            with_exit true one false two straight three = rec told (inr (inl two))
            with_exit true one true two false three = rec told (inr (inr (three, one, two)))
            with_exit true one true two true three =
                once_reached steps at piece before levelled small others_found body logic between told.inside ends first bound told.start is told.begins told.goes told.none told.lies told.tests told.told three one two
    piece_found (for_flow step numeric body) piece before between ends first bound is = plain_found steps levelled small logic_found named at others_found piece (for_flow step numeric body) before between ends first bound tt is
    piece_found (if_flow logic body rest) piece before between ends first bound is =
        if_piece steps levelled small logic_found named ordered at others_found piece logic body rest before between ends first bound is
        (λ is_do.
        let lies = is_do.lies in
        let low = is_do.low in
        let found = block_end steps before (captures_flow steps body) (λ ends end. (inside : Around) × FlowLies steps before inside ends body piece.from end) piece.from piece.to lies.1 in
        do_found body piece body before between found.1.0 ends first bound found.0 is_do lies.0 found.1.1 found.2 (omega (arith, low)))

    do_found : (b : Flow) (piece : Piece) (body : Flow) (before between inside : Around) (ends first bound end : ℕ) → IsPiece steps at piece (do_flow body) before between ends first bound → between ≡ before → FlowLies steps before inside end b piece.from end
        → ClosesAt steps before (captures_flow steps b) end piece.to → flow_levels steps b < bound → PieceFound steps at bound piece
    do_found no_flow piece body before between inside ends first bound end is same (alike, ended) closes low = let some = is.some in absurd (omega (arith, some, closes, ended))
    do_found (and_flow s rest) piece body before between inside ends first bound end is same (well, mid, inner, starts, stops, one, others) closes low =
        do_by steps levelled small logic_found named ordered at others_found s rest piece body before between inside inner ends first bound end mid is same starts stops one others closes low (order piece.from mid)
        (λ calm is_piece. piece_found s piece before before ends first bound is_piece)
        (λ lies closes. do_found rest piece body before between inside ends first bound end is same lies closes (omega (arith, low)))

    once_in : (b : Flow) (piece : Piece) (body : Flow) (logic : Logic) (before between inside : Around) (ends first bound start : ℕ) → IsPiece steps at piece (repeat_flow body logic) before between ends first bound → between ≡ before → piece.from ≤ start → start ≤ piece.to
        → ((target : ℕ) → LogicLies steps logic false target start piece.to) → AreTold steps inside start piece.to → logic_room steps logic < bound → Exits steps at piece before
        → FlowLies steps (in_loop piece.to before) inside piece.to b piece.from start → captures_flow steps b ≡ false → flow_levels steps b < bound → PieceFound steps at bound piece
    once_in no_flow piece body logic before between inside ends first bound start is same begins goes tests told room exits (alike, ended) none low =
        logic_alone piece body logic before between ends first bound is same inside start goes tests told room alike ended
    once_in (and_flow s rest) piece body logic before between inside ends first bound start is same begins goes tests told room exits (well, mid, inner, starts, stops, one, others) none low =
        once_by piece body logic before between ends first bound is same inside start goes tests told room exits s rest inner mid starts stops one others none low
        (λ calm is_piece. piece_found s piece before before ends first bound is_piece)
        (λ lies. once_in rest piece body logic before between inside ends first bound start is same begins goes tests told room exits lies (none_rest steps s rest none) (omega (arith, low)))
        (λ tangled some one rest_lies rest_none.
        tangle s piece before ends first bound (record { body = body; logic = logic; between = between; is = is; same = same; inside = inside; start = start; goes = goes; tests = tests; told = told; room = room; tangled = tangled }) rest mid some stops one rest_lies rest_none (omega (arith, low)) (λ calm is_piece. piece_found s piece before before ends first bound is_piece))

    tangle : (s : FlowStatement) (piece : Piece) (before : Around) (ends first bound : ℕ) (o : OnceAt piece before ends first bound) (rest : Flow) (mid : ℕ) → piece.from < mid → mid ≤ o.start → ((other : ℕ) → FlowStatementLies steps (in_loop piece.to before) (in_loop piece.to before) other s piece.from mid)
        → FlowLies steps (in_loop piece.to before) o.inside piece.to rest mid o.start → captures_flow steps rest ≡ false → flow_statement_levels steps s < bound
        → ((is_break s ≡ false) → IsPiece steps at piece s before before ends first bound → PieceFound steps at bound piece) → PieceFound steps at bound piece
    tangle (step_flow step) piece before ends first bound o rest mid some stops lies rest_lies none low rec =
        closed_alone (step_flow step) tt piece before ends first bound o rest mid some stops lies rest_lies none low rec
    tangle (return_flow step) piece before ends first bound o rest mid some stops lies rest_lies none low rec =
        closed_alone (return_flow step) tt piece before ends first bound o rest mid some stops lies rest_lies none low rec
    tangle (while_flow logic body) piece before ends first bound o rest mid some stops lies rest_lies none low rec =
        closed_alone (while_flow logic body) tt piece before ends first bound o rest mid some stops lies rest_lies none low rec
    tangle (repeat_flow body logic) piece before ends first bound o rest mid some stops lies rest_lies none low rec =
        closed_alone (repeat_flow body logic) tt piece before ends first bound o rest mid some stops lies rest_lies none low rec
    tangle (for_flow step numeric body) piece before ends first bound o rest mid some stops lies rest_lies none low rec =
        closed_alone (for_flow step numeric body) tt piece before ends first bound o rest mid some stops lies rest_lies none low rec
    tangle break_flow piece before ends first bound o rest mid some stops lies rest_lies none low rec = break_opens steps levelled named at piece o.body o.logic before o.between ends first bound o.is o.inside o.start o.goes o.tests o.told o.tangled rest mid some stops (lies 0).1 rest_lies none
    tangle (do_flow block) piece before ends first bound o rest mid some stops lies rest_lies none low rec = tangle_flow block piece before ends first bound o (captures_flow steps block) rest mid (do_block steps levelled named at piece o.body o.logic before o.between ends first bound o.is o.inside o.start o.goes o.tests o.told o.tangled block mid some (lies 0).1) refl stops rest_lies none (omega (arith, low))
    tangle (if_flow test block arms) piece before ends first bound o rest mid some stops lies rest_lies none low rec =
        if_by test block arms piece before ends first bound o rest mid some stops lies rest_lies none (λ found. tangle_flow block piece before ends first bound o (captures_flow steps block) rest mid found refl stops rest_lies none (omega (arith, low)))

    tangle_flow : (flow : Flow) (piece : Piece) (before : Around) (ends first bound : ℕ) (o : OnceAt piece before ends first bound) (captures : Bool) (rest : Flow) (mid : ℕ) → Block steps levelled named at piece o.body o.logic before o.between ends first bound o.is o.inside o.start o.goes o.tests o.told o.tangled captures flow mid → captures_flow steps flow ≡ captures → mid ≤ o.start
        → FlowLies steps (in_loop piece.to before) o.inside piece.to rest mid o.start → captures_flow steps rest ≡ false → flow_levels steps flow < bound → PieceFound steps at bound piece
    tangle_flow no_flow piece before ends first bound o captures rest mid block owns stops rest_lies none low = block.empty block.lies.1
    tangle_flow (and_flow s others) piece before ends first bound o captures rest mid block owns stops rest_lies none low =
        nested_by steps levelled named at piece o.body o.logic before o.between ends first bound o.is o.inside o.start o.goes o.tests o.told o.tangled captures s others rest mid block owns stops rest_lies none
        (λ more place some within one more_lies more_none. tangle s piece before ends first bound o more place some within one more_lies more_none (omega (arith, low)) (λ calm is_piece. piece_found s piece before before ends first bound is_piece))
        (λ found same. tangle_flow others piece before ends first bound o captures rest mid found same stops rest_lies none (omega (arith, low)))
