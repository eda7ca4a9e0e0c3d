-- An `if` that is a piece of a body is found, if a `do` is.
use Rattle.std.proofs.Common.{◌≡◌, ◌∙◌, ◌≤◌, ◌<◌, ◌^◌, ◌⊎◌, inl, inr, refl, sym, ap, subst, ℕ, suc, max, Bool, true, false, List, length, slice_get, Some, arith}
use Rattle.std.specs.Prelude.{option_and_then}
use Rattle.std.proofs.lemmas.Option.{none-some, same_Some}
use Rattle.recover_expr.specs.declared.steps.Step.{Step}
use Rattle.recover_expr.specs.declared.steps.StepKind.{StepKind}
use Rattle.recover_flow.specs.Arms.{arm_starts}
use Rattle.recover_flow.specs.Asked.{goes_back, is_single, target_at, target_of}
use Rattle.recover_flow.specs.Flow.{Around, AreTold, Flow, no_flow, and_flow, FlowStatement, do_flow, if_flow, FlowArms, no_more, else_flow, elseif_flow, FlowLies, FlowStatementLies, IsAt, flow_arms_levels, flow_levels, logic_room}
use Rattle.recover_flow.specs.Forms.{choice_at, is_enclosed, leaves_straight}
use Rattle.recover_flow.specs.Logic.{AreLevelled, Logic, LogicIsFound, LogicLies, literal_logic}
use Rattle.recover_flow.specs.Lying.{AreOrdered, Jumps}
use Rattle.recover_flow.specs.Plans.{end_plan, if_plan}
use Rattle.recover_flow.specs.Standing.{IsStart, PlanStands, branches_used, piece_branches}
use Rattle.recover_flow.specs.declared.forms.Choice.{Choice}
use Rattle.recover_flow.specs.declared.plan.End.{End}
use Rattle.recover_flow.specs.declared.regions.BodyAt.{BodyAt}
use Rattle.recover_flow.specs.declared.regions.Piece.{Piece}
use Rattle.recover_flow.proofs.BodiesFound.{IsPiece, LighterFound, PieceFound}
use Rattle.recover_flow.proofs.DoFound.{first_within}
use Rattle.recover_flow.proofs.FlowInside.{ClosesAreNamed, behind_earlier, statement_flow_in}
use Rattle.recover_flow.proofs.FlowParts.{target_is}
use Rattle.recover_flow.proofs.IfArms.{ArmAt, ArmsFound, BlockLies, BranchesFound, IsPlaced, LiesAny, else_found, first_empty, first_end, first_middle, jumped_if}
use Rattle.recover_flow.proofs.IfDeep.{further_found}
use Rattle.recover_flow.proofs.IfParts.{logic_goes}
use Rattle.recover_flow.proofs.LogicCut.{AnyTarget, Hits, any_target}
use Rattle.recover_flow.proofs.LogicRest.{ends_well}
use Rattle.recover_flow.proofs.PartsInside.{NoneOwned, back_is, kind_there, no_back_before, order}
use Rattle.recover_flow.proofs.StepsFound.{ending_low, if_false, if_true, jump_ahead, last_none, second_false, straight_is}

module _ (steps : List Step) (levelled : AreLevelled steps) (small : length steps < 2 ^ 32) (logic_found : LogicIsFound) (named : ClosesAreNamed steps) (ordered : AreOrdered steps) (at : BodyAt) (others_found : LighterFound steps at) where
  -- ---- what an `if` may be by its first step

  abbrev IsIf : Piece → Type 0
  IsIf piece = (choice_at steps at piece ≡ Choice.Jumps) ⊎ PlanStands steps at piece (end_plan End.Break (is_enclosed at piece))

  choice_found : (piece : Piece) (goes : ℕ) → target_at steps piece.from ≡ Some goes → ((last : ℕ) → last < piece.to → goes_back steps piece.from last ≡ true → ⊥) → IsIf piece
  choice_found piece goes there back = by first.0.kind refl first.2
    where
      first : (step : Step) × (slice_get steps piece.from ≡ Some step) × (target_of step.kind ≡ Some goes)
      first = target_is steps piece.from goes there

      by : (kind : StepKind) → first.0.kind ≡ kind → target_of kind ≡ Some goes → IsIf piece
      by StepKind.Act is to = absurd (none-some goes to)
      by StepKind.Return is to = absurd (none-some goes to)
      by (StepKind.Declaration end captured) is to = absurd (none-some goes to)
      by (StepKind.Close from declared) is to = absurd (none-some goes to)
      by (StepKind.Head numeric foot end variables_end captured) is to = absurd (none-some goes to)
      by (StepKind.Foot numeric target) is to = absurd (none-some goes to)
      by (StepKind.Test when target negated) is to = inl (straight_is steps at piece first.0 (StepKind.Test when target negated) first.1 is (second_false (is_single piece) false refl) (last_none steps piece.from piece.to back))
      by (StepKind.Jump target) is to = leaving (leaves_straight steps at piece first.0) refl
        where
          leaving : (b : Bool) → leaves_straight steps at piece first.0 ≡ b → IsIf piece
          leaving true leaves =
              inr (straight_is steps at piece first.0 (StepKind.Jump target) first.1 is (second_false (is_single piece) false refl) (last_none steps piece.from piece.to back) ∙ if_true (leaves_straight steps at piece first.0) _ _ leaves)
          leaving false leaves =
              inl (straight_is steps at piece first.0 (StepKind.Jump target) first.1 is (second_false (is_single piece) false refl) (last_none steps piece.from piece.to back) ∙ if_false (leaves_straight steps at piece first.0) _ _ leaves)

  -- no test of a condition goes back
  tests_ahead : (logic : Logic) (target from start : ℕ) → start ≤ target → LogicLies steps logic false target from start → (last : ℕ) → from ≤ last → last < start
      → goes_back steps from last ≡ true → ⊥
  tests_ahead logic target from start past lies last low high back =
      let goes = logic_goes steps logic false target from start lies last low high in
      let found = back_is steps from last back in
      let there : target_at steps last ≡ Some from = ap (option_and_then target_of) (kind_there steps last found.1.0 found.1.1) ∙ found.1.2 in
      let same : goes.0 ≡ from = same_Some goes.0 from (sym goes.1 ∙ there) in
      ahead same goes.2
    where
      ahead : {goes : ℕ} → goes ≡ from → (goes ≡ target) ⊎ ((last < goes) × (goes ≤ start)) → ⊥
      ahead same (inl is) = omega (arith, same, is, past, low, high)
      ahead same (inr is) = omega (arith, same, is.0, low)

  module _ (piece : Piece) (before : Around) (first : ℕ) (placed : IsPlaced steps at piece before first) where
    -- nor does a part behind the first step
    do_ahead : (body : Flow) (from to : ℕ) → piece.from < from → to ≤ piece.to → BlockLies steps before body from to → (last : ℕ) → from ≤ last → last < to
        → goes_back steps piece.from last ≡ true → ⊥
    do_ahead body from to low high block last begin end back =
        let begins = placed.begins in
        no_back_before steps NoneOwned before.exit first to from to from to piece.from last
        (statement_flow_in steps named (do_flow body) before before to from to first placed.ready (omega (arith, begins, low)) (behind_earlier before.exit piece.to to high placed.behind) (refl, block)).inside begin end low back

    if_ahead : (logic : Logic) (body : Flow) (rest : FlowArms) (from to : ℕ) → piece.from < from → to ≤ piece.to → ArmAt steps before logic body rest from to → (last : ℕ) → from ≤ last
        → last < to → goes_back steps piece.from last ≡ true → ⊥
    if_ahead logic body rest from to low high lies last begin end back =
        let begins = placed.begins in
        no_back_before steps NoneOwned before.exit first to from to from to piece.from last
        (statement_flow_in steps named (if_flow logic body rest) before before to from to first placed.ready (omega (arith, begins, low)) (behind_earlier before.exit piece.to to high placed.behind) (refl, lies)).inside begin end low back

  -- ---- an `if`

  pub placed_is : (piece : Piece) (s : FlowStatement) (before between : Around) (ends first bound : ℕ) → IsPiece steps at piece s before between ends first bound
      → IsPlaced steps at piece before first
  placed_is piece s before between ends first bound is =
      let within = is.within in
      let fits = is.body.fits in
      record {
        later = is.later;
        within = is.within;
        fits = omega (arith, within, fits);
        serves = is.serves;
        ready = is.ready;
        begins = is.begins;
        behind = behind_earlier before.exit at.to piece.to is.within is.body.behind;
        quiet = is.quiet;
      }

  module _ (piece : Piece) (logic : Logic) (body : Flow) (arms : FlowArms) (before between : Around) (ends first bound : ℕ) (is : IsPiece steps at piece (if_flow logic body arms) before between ends first bound) where
    placed : IsPlaced steps at piece before first
    placed = placed_is piece (if_flow logic body arms) before between ends first bound is

    low : suc (max (max (max 1 (logic_room steps logic)) (flow_levels steps body)) (flow_arms_levels steps arms)) ≤ bound
    low = is.low

    bounded : bound ≤ 200
    bounded = is.bounded

    within : piece.to ≤ at.to
    within = is.within

    from_branches : (levels : ℕ) → suc levels ≤ bound → IsIf piece → BranchesFound steps levelled small logic_found named at others_found piece before first placed levels
        → PieceFound steps at bound piece
    from_branches levels high (inl jumps) found = (if_plan found.1, (jumps, (found.0, found.2)), (let less = found.3 in omega (arith, less, high)))
    from_branches levels high (inr leaves) found = (end_plan End.Break (is_enclosed at piece), leaves, (let less = ending_low steps at piece End.Break 1 in omega (arith, less, low)))

    -- a statement at the beginning goes on to the end
    cut_within : between ≡ before → (s : FlowStatement) (rest : Flow) (mid : ℕ) → piece.from < mid → mid ≤ piece.to → FlowStatementLies steps before before ends s piece.from mid
        → FlowLies steps before is.behind ends rest mid at.to → piece.to ≤ mid
    cut_within same s rest mid some high one lies =
        first_within steps small named ordered at others_found piece is.others s rest before before is.behind ends mid first is.reach is.body is.later is.ready is.begins some (omega (arith, high, within)) is.fresh is.pieces one lies

    rest_lies : between ≡ before → FlowLies steps before is.behind ends is.rest piece.to at.to
    rest_lies same = subst (λ a. FlowLies steps a is.behind ends is.rest piece.to at.to) same is.rest_lies

    -- tests that never go to their target, alone
    alone : (start : ℕ) → piece.from ≤ start → LiesAny steps logic piece.from start → AreTold steps before piece.from start
        → FlowStatementLies steps before before ends (if_flow logic no_flow no_more) piece.from start
    alone start begins never told = (refl, (start, begins, omega arith, never start, told, (before, (refl, refl))))

    with_block : (rest : Flow) (start last : ℕ) → start ≤ last → last ≤ at.to → BlockLies steps before body start last → FlowLies steps before is.behind ends rest last at.to
        → FlowLies steps before is.behind ends (and_flow (do_flow body) rest) start at.to
    with_block rest start last goes high block lies = (ends_well (do_flow body) rest refl, last, before, goes, high, (refl, block), lies)

    first_goes : (target start : ℕ) → piece.from < start → start ≤ target → LogicLies steps logic false target piece.from start → (goes : ℕ) × (target_at steps piece.from ≡ Some goes)
    first_goes target start some past tests = let found = logic_goes steps logic false target piece.from start tests piece.from (omega arith) some in (found.0, found.1)

    -- of one arm
    one_arm : between ≡ before → (start : ℕ) → piece.from < start → start ≤ piece.to → LogicLies steps logic false piece.to piece.from start → BlockLies steps before body start piece.to
        → Hits steps piece.from start piece.to ⊎ (piece.to ≡ start) → PieceFound steps at bound piece
    one_arm same start some goes tests block hit =
        let found = first_goes piece.to start some goes tests in
        from_branches (max (max (max 1 (logic_room steps logic)) (flow_levels steps body)) 0) (omega (arith, low)) (choice_found piece found.0 found.1 not_back)
        (first_end steps levelled small logic_found named at others_found piece before first placed logic body start some goes tests block hit (omega (arith, low, bounded)))
      where
        not_back : (last : ℕ) → last < piece.to → goes_back steps piece.from last ≡ true → ⊥
        not_back last below back = by (order last start)
          where
            by : (last < start) ⊎ (start ≤ last) → ⊥
            by (inl inside) = tests_ahead logic piece.to piece.from start goes tests last (back_is steps piece.from last back).0 inside back
            by (inr behind) = do_ahead piece before first placed body start piece.to some (omega arith) block last behind below back

    -- so it is where the condition has steps
    pub tested_piece : between ≡ before → (start : ℕ) → piece.from < start → start ≤ piece.to → LogicLies steps logic false piece.to piece.from start → AreTold steps before piece.from start
        → BlockLies steps before body start piece.to → PieceFound steps at bound piece
    tested_piece same start some goes tests told block = by (any_target steps logic false piece.to piece.from start tests) (order start piece.to)
      where
        by : AnyTarget steps logic false piece.to piece.from start → (start < piece.to) ⊎ (piece.to ≤ start) → PieceFound steps at bound piece
        by (inl hit) full = one_arm same start some goes tests block (inl hit)
        by (inr never) (inr full) = one_arm same start some goes tests block (inr (omega (arith, full, goes)))
        by (inr never) (inl less) =
            let far = cut_within same (if_flow logic no_flow no_more) (and_flow (do_flow body) is.rest) start some goes (alone start (omega (arith, some)) never told) (with_block is.rest start piece.to goes within block (rest_lies same)) in
            absurd (omega (arith, far, less))

    -- of one before others
    more_arms : between ≡ before → (start last levels : ℕ) (rest : Flow) → piece.from ≤ start → start ≤ last → suc last ≤ piece.to
        → LogicLies steps logic false (suc last) piece.from start → AreTold steps before piece.from start → BlockLies steps before body start last
        → IsAt steps before last (StepKind.Jump piece.to)
        → FlowLies steps before is.behind ends rest last at.to
        → suc (max (max (max 1 (logic_room steps logic)) (flow_levels steps body)) levels) ≤ bound → ((n : ℕ) → suc last ≤ n → n < piece.to → goes_back steps piece.from n ≡ true → ⊥)
        → ((bare : Bool) → (suc last < piece.to → IsStart (arm_starts steps (branches_used steps (piece_branches at piece bare))) (suc last)) → ArmsFound steps levelled small logic_found named at others_found piece before first placed bare piece.from (suc last) levels)
        → PieceFound steps at bound piece
    more_arms same start last levels rest begins goes stops tests told block jump_at rest_at high ahead found = by (any_target steps logic false (suc last) piece.from start tests) (order piece.from start) (order piece.from last)
      where
        jump : Jumps steps last piece.to
        jump = jump_at.1

        behind_last : (n : ℕ) → last ≤ n → n < piece.to → goes_back steps piece.from n ≡ true → ⊥
        behind_last n least most back = at_jump (order last n)
          where
            at_jump : (last < n) ⊎ (n ≤ last) → ⊥
            at_jump (inl past) = ahead n past most back
            at_jump (inr here) = let now : last ≡ n = omega (arith, here, least) in jump_ahead steps piece.from n piece.to (subst (λ m. Jumps steps m piece.to) now jump) most back

        not_back : piece.from < start → (n : ℕ) → n < piece.to → goes_back steps piece.from n ≡ true → ⊥
        not_back some n below back = at_n (order n start) (order n last)
          where
            at_n : (n < start) ⊎ (start ≤ n) → (n < last) ⊎ (last ≤ n) → ⊥
            at_n (inl inside) two = tests_ahead logic (suc last) piece.from start (omega (arith, goes)) tests n (back_is steps piece.from n back).0 inside back
            at_n (inr behind) (inl within) = do_ahead piece before first placed body start last some (omega (arith, stops)) block n behind within back
            at_n (inr behind) (inr past) = behind_last n past below back

        hits : Hits steps piece.from start (suc last) → PieceFound steps at bound piece
        hits hit =
            let least = hit.least in
            let most = hit.most in
            let first_is = first_goes (suc last) start (omega (arith, least, most)) (omega (arith, goes)) tests in
            from_branches (max (max (max 1 (logic_room steps logic)) (flow_levels steps body)) levels) high (choice_found piece first_is.0 first_is.1 (not_back (omega (arith, least, most))))
            (first_middle steps levelled small logic_found named at others_found piece before first placed logic body start last levels begins goes stops tests block jump hit (omega (arith, high, bounded)) found)

        empty : last ≡ piece.from → PieceFound steps at bound piece
        empty here =
            let jump_here = subst (λ m. Jumps steps m piece.to) here jump in
            let start_here : start ≡ piece.from = omega (arith, here, begins, goes) in
            from_branches (max (max 1 (flow_levels steps body)) levels) (omega (arith, high)) (choice_found piece piece.to (ap (option_and_then target_of) jump_here) (λ n below back. behind_last n (let least = (back_is steps piece.from n back).0 in omega (arith, least, here)) below back))
            (first_empty steps levelled small logic_found named at others_found piece before first placed body levels (subst (λ m. BlockLies steps before body piece.from m) here (subst (λ m. BlockLies steps before body m last) start_here block)) jump_here (omega (arith, stops, here)) (omega (arith, high, bounded))
            (λ bare start_at.
            subst (λ m. ArmsFound steps levelled small logic_found named at others_found piece before first placed bare piece.from (suc m) levels) here
            (found bare (λ more. subst (λ m. IsStart (arm_starts steps (branches_used steps (piece_branches at piece bare))) (suc m)) (sym here) (start_at (omega (arith, more, here)))))))

        by : AnyTarget steps logic false (suc last) piece.from start → (piece.from < start) ⊎ (start ≤ piece.from) → (piece.from < last) ⊎ (last ≤ piece.from) → PieceFound steps at bound piece
        by (inl hit) one two = hits hit
        by (inr never) (inl some) two =
            let far = cut_within same (if_flow logic no_flow no_more) (and_flow (do_flow body) rest) start some (omega (arith, goes, stops)) (alone start begins never told) (with_block rest start last goes (omega (arith, stops, within)) block rest_at) in
            absurd (omega (arith, far, goes, stops))
        by (inr never) (inr none) (inl some) =
            let here : start ≡ piece.from = omega (arith, none, begins) in
            let far = cut_within same (do_flow body) rest last some (omega (arith, stops)) (refl, subst (λ m. BlockLies steps before body m last) here block) rest_at in
            absurd (omega (arith, far, stops))
        by (inr never) (inr none) (inr full) = empty (omega (arith, full, begins, goes))

    -- what is behind the first block, as an `if` of its own
    rest_if : between ≡ before → (other : Flow) (last : ℕ) → suc last ≤ piece.to → IsAt steps before last (StepKind.Jump piece.to) → BlockLies steps before other (suc last) piece.to
        → FlowLies steps before is.behind ends (and_flow (if_flow (literal_logic false) other no_more) is.rest) last at.to
    rest_if same other last stops jump block = (
      ends_well (if_flow (literal_logic false) other no_more) is.rest refl,
      piece.to,
      before,
      omega (arith, stops),
      within,
      jumped_if steps before other ends last piece.to stops jump block,
      rest_lies same,
    )

    pub if_piece : (IsPiece steps at piece (do_flow body) before between ends first bound → PieceFound steps at bound piece) → PieceFound steps at bound piece
    if_piece does = by arms low is.lies.0 is.lies.1
      where
        is_do : between ≡ before → suc (max 1 (flow_levels steps body)) ≤ bound → BlockLies steps before body piece.from piece.to
            → IsPiece steps at piece (do_flow body) before between ends first bound
        is_do same less block =
            record {
              body = is.body;
              serves = is.serves;
              ready = is.ready;
              begins = is.begins;
              later = is.later;
              some = is.some;
              within = is.within;
              ends_in = is.ends_in;
              quiet = is.quiet;
              lies = (same, block);
              low = less;
              bounded = is.bounded;
              rest = is.rest;
              behind = is.behind;
              well = ends_well (do_flow body) is.rest refl;
              rest_lies = is.rest_lies;
              may = is.may;
              others = is.others;
              reach = is.reach;
              fresh = is.fresh;
              pieces = is.pieces;
            }

        by : (arms : FlowArms) → suc (max (max (max 1 (logic_room steps logic)) (flow_levels steps body)) (flow_arms_levels steps arms)) ≤ bound → between ≡ before
            → ArmAt steps before logic body arms piece.from piece.to → PieceFound steps at bound piece
        by no_more high same (start, begins, goes, tests, told, block) = at_start (order piece.from start)
          where
            at_start : (piece.from < start) ⊎ (start ≤ piece.from) → PieceFound steps at bound piece
            at_start (inl some) = tested_piece same start some goes tests told block
            at_start (inr none) =
                let here : start ≡ piece.from = omega (arith, none, begins) in
                does (is_do same (omega (arith, high)) (subst (λ m. BlockLies steps before body m piece.to) here block))
        by (else_flow other) high same (start, last, begins, goes, stops, tests, told, block, jump, others) =
            more_arms same start last (flow_levels steps other) (and_flow (if_flow (literal_logic false) other no_more) is.rest) begins goes stops tests told block jump (rest_if same other last stops jump others) high
            (λ n least most back. do_ahead piece before first placed other (suc last) piece.to (omega (arith, begins, goes)) (omega arith) others n least most back)
            (λ bare start_at. else_found steps levelled small logic_found named at others_found piece before first placed bare other piece.from (suc last) (omega arith) (omega (arith, begins, goes)) stops start_at others (omega (arith, high, bounded)))
        by (elseif_flow next other rest) high same (start, last, begins, goes, stops, tests, told, block, jump, others) =
            more_arms same start last (flow_arms_levels steps (elseif_flow next other rest)) (and_flow (if_flow (literal_logic false) (and_flow (if_flow next other rest) no_flow) no_more) is.rest) begins goes stops tests told block jump
            (rest_if same (and_flow (if_flow next other rest) no_flow) last stops jump (before, (tt, piece.to, before, stops, omega arith, (refl, others), (refl, refl)))) high
            (λ n least most back. if_ahead piece before first placed next other rest (suc last) piece.to (omega (arith, begins, goes)) (omega arith) others n least most back)
            (λ bare start_at.
            further_found steps levelled small logic_found named at others_found piece before first placed rest bare next other piece.from (suc last) (omega arith) (omega (arith, begins, goes)) stops start_at others (omega (arith, high, bounded)))
