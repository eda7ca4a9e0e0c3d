-- An `if` up to the end of a body, which is the exit, is found.
use Rattle.std.proofs.Common.{◌≡◌, ◌∙◌, ◌≤◌, ◌<◌, ◌^◌, ◌⊎◌, inl, inr, refl, sym, subst, ℕ, suc, max, Bool, true, false, List, length, Some, arith}
use Rattle.std.specs.Prelude.{is_some}
use Rattle.std.proofs.lemmas.Option.{same_Some}
use Rattle.recover_expr.specs.declared.steps.Step.{Step}
use Rattle.recover_expr.specs.declared.steps.StepKind.{StepKind}
use Rattle.recover_flow.specs.Arms.{arm_starts}
use Rattle.recover_flow.specs.Asked.{goes_back, target_at}
use Rattle.recover_flow.specs.Flow.{AreTold, Around, Flow, no_flow, and_flow, FlowStatement, do_flow, if_flow, FlowArms, no_more, else_flow, elseif_flow, FlowLies, FlowStatementLies, IsAt, flow_arms_levels, flow_levels, flow_statement_levels, logic_room}
use Rattle.recover_flow.specs.Logic.{AreLevelled, Logic, LogicIsFound, LogicLies, literal_logic}
use Rattle.recover_flow.specs.Lying.{Jumps}
use Rattle.recover_flow.specs.Plans.{if_plan, ArmPlans, plan_levels}
use Rattle.recover_flow.specs.Standing.{BranchesStand, IsStart, branches_used, last_branches}
use Rattle.recover_flow.specs.declared.regions.BodyAt.{BodyAt}
use Rattle.recover_flow.specs.declared.regions.Exit.{Exit}
use Rattle.recover_flow.specs.declared.regions.Piece.{Piece}
use Rattle.recover_flow.proofs.BlocksFound.{IsQuiet, Serves}
use Rattle.recover_flow.proofs.BodiesFound.{LighterFound}
use Rattle.recover_flow.proofs.FlowInside.{ClosesAreNamed, IsReady}
use Rattle.recover_flow.proofs.FlowPieces.{IsBody}
use Rattle.recover_flow.proofs.HardParts.{StartsTested}
use Rattle.recover_flow.proofs.IfArms.{ArmAt, ArmsFound, BlockLies, BranchesFound, IsPlaced, LiesAny, else_found, first_empty, first_end, first_middle, jumped_if}
use Rattle.recover_flow.proofs.IfDeep.{further_found}
use Rattle.recover_flow.proofs.IfParts.{logic_goes}
use Rattle.recover_flow.proofs.LogicCut.{AnyTarget, Hits, any_target}
use Rattle.recover_flow.proofs.PartsInside.{order}

module _ (steps : List Step) where
  -- an `if` from a place up to the end of a body, which is the exit: it begins with its condition or its jump, to which nothing goes back, and a statement there that declares nothing has a jump to the exit
  pub record IsLastIf (at : BodyAt) (logic : Logic) (body : Flow) (rest : FlowArms) (before : Around) (ends from first bound : ℕ) : Type 0 where
    pub is_body : IsBody steps at before.exit ends
    pub serves : Serves steps at.exit before.exit at.from at.to
    pub ready : IsReady first before
    pub begins : first ≤ from
    pub later : at.from ≤ from
    pub quiet : IsQuiet at.to before
    pub exit : Exit
    pub exit_is : at.exit ≡ Some exit
    pub exit_place : exit.place ≡ at.to
    pub lies : ArmAt steps before logic body rest from at.to
    pub tested : StartsTested steps before from logic body rest at.to lies
    pub target : is_some (target_at steps from) ≡ true
    pub none_back : (last : ℕ) → last < at.to → goes_back steps from last ≡ true → ⊥
    pub reached : (s : FlowStatement) (rest : Flow) (mid : ℕ) → from < mid → mid ≤ at.to → FlowStatementLies steps before before ends s from mid → FlowLies steps before before ends rest mid at.to → Hits steps from mid at.to
    pub low : flow_statement_levels steps (if_flow logic body rest) ≤ bound
    pub bounded : bound ≤ 200

  abbrev pub EndFound : BodyAt → Piece → (bound : ℕ) → Type 0
  EndFound at piece bound = (arms : ArmPlans) × ((bare : Bool) × BranchesStand steps (branches_used steps (last_branches at piece bare)) arms) × (max 1 (plan_levels steps (if_plan arms)) ≤ bound)

  -- such a one is found
  abbrev pub LastIfFound : BodyAt → Type 0
  LastIfFound at =
      (piece : Piece) (logic : Logic) (body : Flow) (rest : FlowArms) (before : Around) (ends first bound : ℕ) → IsLastIf at logic body rest before ends piece.from first bound → EndFound at piece bound

  -- ---- such an `if`

  -- tests that never go to their target don't go past their end
  not_reached : (logic : Logic) (from start to : ℕ) → start < to → LiesAny steps logic from start → Hits steps from start to → ⊥
  not_reached logic from start to past never hit =
      let found = logic_goes steps logic false start from start (never start) hit.place hit.least hit.most in
      let same : found.0 ≡ to = same_Some found.0 to (sym found.1 ∙ hit.there) in
      ahead same found.2
    where
      ahead : {target : ℕ} → target ≡ to → (target ≡ start) ⊎ ((hit.place < target) × (target ≤ start)) → ⊥
      ahead same (inl is) = omega (arith, same, is, past)
      ahead same (inr is) = omega (arith, same, is.1, past)

  module _ (levelled : AreLevelled steps) (small : length steps < 2 ^ 32) (logic_found : LogicIsFound) (named : ClosesAreNamed steps) (at : BodyAt) (others_found : LighterFound steps at) where
    module _ (piece : Piece) (logic : Logic) (body : Flow) (arms : FlowArms) (before : Around) (ends first bound : ℕ) (is : IsLastIf at logic body arms before ends piece.from first bound) where
      -- the piece up to the end
      abbrev pub whole : Piece
      whole = record { from = piece.from; to = at.to }

      pub placed : IsPlaced steps at whole before first
      placed = record { later = is.later; within = omega arith; fits = is.is_body.fits; serves = is.serves; ready = is.ready; begins = is.begins; behind = is.is_body.behind; quiet = is.quiet }

      bounded : bound ≤ 200
      bounded = is.bounded

      from_branches : (levels : ℕ) → suc levels ≤ bound → BranchesFound steps levelled small logic_found named at others_found whole before first placed levels → EndFound at piece bound
      from_branches levels high found = (found.1, (found.0, found.2), (let less = found.3 in omega (arith, less, high)))

      -- the condition goes to its target
      reaches_target : (start target : ℕ) (rest : Flow) → piece.from < start → start < at.to → LogicLies steps logic false target piece.from start → AreTold steps before piece.from start
          → FlowLies steps before before ends (and_flow (do_flow body) rest) start at.to → Hits steps piece.from start target
      reaches_target start target rest some less tests told behind = by (any_target steps logic false target piece.from start tests)
        where
          by : AnyTarget steps logic false target piece.from start → Hits steps piece.from start target
          by (inl hit) = hit
          by (inr never) =
              absurd (not_reached logic piece.from start at.to less never
              (is.reached (if_flow logic no_flow no_more) (and_flow (do_flow body) rest) start some (omega (arith, less)) (refl, (start, omega (arith, some), omega arith, never start, told, (before, (refl, refl)))) behind))

      pub one_arm : suc (max (max (max 1 (logic_room steps logic)) (flow_levels steps body)) 0) ≤ bound → (start : ℕ) → piece.from < start → start ≤ at.to → LogicLies steps logic false at.to piece.from start → AreTold steps before piece.from start
          → BlockLies steps before body start at.to → EndFound at piece bound
      one_arm low start some goes tests told block =
          from_branches (max (max (max 1 (logic_room steps logic)) (flow_levels steps body)) 0) low
          (first_end steps levelled small logic_found named at others_found whole before first placed logic body start some goes tests block (by (order start at.to)) (omega (arith, low, bounded)))
        where
          by : (start < at.to) ⊎ (at.to ≤ start) → Hits steps piece.from start at.to ⊎ (at.to ≡ start)
          by (inl less) = inl (reaches_target start at.to no_flow some less tests told (tt, at.to, before, goes, omega arith, (refl, block), (refl, refl)))
          by (inr full) = inr (omega (arith, full, goes))

      pub more_arms : (start last levels : ℕ) (other : Flow) → suc (max (max (max 1 (logic_room steps logic)) (flow_levels steps body)) levels) ≤ bound → piece.from ≤ start → start ≤ last → suc last ≤ at.to
          → LogicLies steps logic false (suc last) piece.from start → AreTold steps before piece.from start → BlockLies steps before body start last → IsAt steps before last (StepKind.Jump at.to) → BlockLies steps before other (suc last) at.to
          → (piece.from < start) ⊎ (last ≡ piece.from)
          → ((bare : Bool) → (suc last < at.to → IsStart (arm_starts steps (branches_used steps (last_branches at piece bare))) (suc last)) → ArmsFound steps levelled small logic_found named at others_found whole before first placed bare piece.from (suc last) levels)
          → EndFound at piece bound
      more_arms start last levels other low begins goes stops tests told block jump others tested found = by tested
        where
          by : (piece.from < start) ⊎ (last ≡ piece.from) → EndFound at piece bound
          by (inl some) =
              let hit = reaches_target start (suc last) (and_flow (if_flow (literal_logic false) other no_more) no_flow) some (omega (arith, goes, stops)) tests told
              (refl, last, before, goes, omega (arith, stops), (refl, block), (tt, at.to, before, omega (arith, stops), omega arith, jumped_if steps before other ends last at.to stops jump others, (refl, refl))) in
              from_branches (max (max (max 1 (logic_room steps logic)) (flow_levels steps body)) levels) low
              (first_middle steps levelled small logic_found named at others_found whole before first placed logic body start last levels begins goes stops tests block jump.1 hit (omega (arith, low, bounded)) found)
          by (inr here) =
              let jump_here = subst (λ m. Jumps steps m at.to) here jump.1 in
              let start_here : start ≡ piece.from = omega (arith, here, begins, goes) in
              from_branches (max (max 1 (flow_levels steps body)) levels) (omega (arith, low))
              (first_empty steps levelled small logic_found named at others_found whole before first placed body levels (subst (λ m. BlockLies steps before body piece.from m) here (subst (λ m. BlockLies steps before body m last) start_here block)) jump_here (omega (arith, stops, here)) (omega (arith, low, bounded))
              (λ bare start_at.
              subst (λ m. ArmsFound steps levelled small logic_found named at others_found whole before first placed bare piece.from (suc m) levels) here
              (found bare (λ more. subst (λ m. IsStart (arm_starts steps (branches_used steps (last_branches at piece bare))) (suc m)) (sym here) (start_at (omega (arith, more, here)))))))

    -- such an `if` is found
    pub last_if_found : LastIfFound at
    last_if_found piece logic body no_more before ends first bound is =
        let lies = is.lies in
        let low = is.low in
        one_arm piece logic body no_more before ends first bound is (omega (arith, low)) lies.0 is.tested lies.2 lies.3 lies.4 lies.5
    last_if_found piece logic body (else_flow other) before ends first bound is =
        let lies = is.lies in
        let low = is.low in
        let bounded = is.bounded in
        let begins = lies.2 in
        let goes = lies.3 in
        more_arms piece logic body (else_flow other) before ends first bound is lies.0 lies.1 (flow_levels steps other) other (omega (arith, low)) begins goes lies.4 lies.5 lies.6 lies.7 lies.8 lies.9 is.tested
        (λ bare start_at.
        else_found steps levelled small logic_found named at others_found (whole piece logic body (else_flow other) before ends first bound is) before first (placed piece logic body (else_flow other) before ends first bound is) bare other piece.from (suc lies.1) (omega arith) (omega (arith, begins, goes)) lies.4 start_at lies.9 (omega (arith, low, bounded)))
    last_if_found piece logic body (elseif_flow next other rest) before ends first bound is =
        let lies = is.lies in
        let low = is.low in
        let bounded = is.bounded in
        let begins = lies.2 in
        let goes = lies.3 in
        let stops = lies.4 in
        more_arms piece logic body (elseif_flow next other rest) before ends first bound is lies.0 lies.1 (flow_arms_levels steps (elseif_flow next other rest)) (and_flow (if_flow next other rest) no_flow) (omega (arith, low)) begins goes stops lies.5 lies.6 lies.7 lies.8
        (before, (tt, at.to, before, stops, omega arith, (refl, lies.9), (refl, refl))) is.tested
        (λ bare start_at.
        further_found steps levelled small logic_found named at others_found (whole piece logic body (elseif_flow next other rest) before ends first bound is) before first (placed piece logic body (elseif_flow next other rest) before ends first bound is) rest bare next other piece.from (suc lies.1) (omega arith) (omega (arith, begins, goes)) stops start_at lies.9 (omega (arith, low, bounded)))
