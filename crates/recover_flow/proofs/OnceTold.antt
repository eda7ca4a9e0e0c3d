-- A `repeat` without a jump back, with what its condition tells; any other one is found.
use Rattle.std.proofs.Common.{◌≡◌, ◌∙◌, ◌≤◌, ◌<◌, ◌^◌, ◌⊎◌, inl, inr, refl, sym, subst, ℕ, zero, suc, Bool, true, false, List, length, slice_get, Option, None, Some, arith}
use Rattle.std.proofs.lemmas.Bool.{false≢true}
use Rattle.std.proofs.lemmas.Option.{none-some, same_Some}
use Rattle.recover_expr.specs.declared.steps.Step.{Step}
use Rattle.recover_expr.specs.declared.steps.StepKind.{StepKind}
use Rattle.recover_flow.specs.Asked.{goes_back, is_single, is_this, last_back, number_before, target_of}
use Rattle.recover_flow.specs.Flow.{Around, Flow, repeat_flow, FlowLies, FlowStatementLies, captures_flow, flow_statement_levels, in_loop}
use Rattle.recover_flow.specs.Forms.{is_own}
use Rattle.recover_flow.specs.Logic.{AreLevelled, Logic, LogicIsFound, LogicLies}
use Rattle.recover_flow.specs.declared.regions.BodyAt.{BodyAt}
use Rattle.recover_flow.specs.declared.regions.Piece.{Piece}
use Rattle.recover_flow.proofs.BodiesFound.{IsPiece, LighterFound, PieceFound}
use Rattle.recover_flow.proofs.Boundaries.{LastTells, last_tells}
use Rattle.recover_flow.proofs.FlowInside.{ClosesAreNamed}
use Rattle.recover_flow.proofs.FlowParts.{target_goes_back, target_is}
use Rattle.recover_flow.proofs.LogicCut.{Hits, any_target}
use Rattle.recover_flow.proofs.LoopsFound.{open_found}
use Rattle.recover_flow.proofs.FormsLie.{same_numbers}
use Rattle.recover_flow.proofs.ScopesFound.{closed_found}
use Rattle.recover_flow.specs.Flow.{AreTold}
use Rattle.recover_flow.proofs.PiecesFound.{inner_found}

module _ (steps : List Step) (levelled : AreLevelled steps) (small : length steps < 2 ^ 32) (logic_found : LogicIsFound) (named : ClosesAreNamed steps) (at : BodyAt) (others_found : LighterFound steps at) where
  -- a `repeat` without a jump back lies there, and what is around it is known at each of its tests
  pub record ToldOnce (piece : Piece) (body : Flow) (logic : Logic) (before : Around) : Type 0 where
    pub start : ℕ
    pub inside : Around
    pub begins : piece.from ≤ start
    pub goes : start ≤ piece.to
    pub none : captures_flow steps body ≡ false
    pub lies : FlowLies steps (in_loop piece.to before) inside piece.to body piece.from start
    pub tests : (target : ℕ) → LogicLies steps logic false target start piece.to
    pub told : AreTold steps inside start piece.to

  -- any other one is found
  pub repeat_told : (piece : Piece) (body : Flow) (logic : Logic) (before between : Around) (ends first bound : ℕ) → IsPiece steps at piece (repeat_flow body logic) before between ends first bound → PieceFound steps at bound piece ⊎ ToldOnce piece body logic before
  repeat_told piece body logic before between ends first bound is = by is.lies
    where
      low : flow_statement_levels steps (repeat_flow body logic) ≤ bound
      low = is.low

      bounded : bound ≤ 200
      bounded = is.bounded

      fits : piece.to ≤ length steps
      fits = let a = is.body.fits in let b = is.within in omega (arith, a, b)

      by : FlowStatementLies steps before between ends (repeat_flow body logic) piece.from piece.to → PieceFound steps at bound piece ⊎ ToldOnce piece body logic before
      by (same, start, inside, begins, inr (some, tested, high, lies, tests, told, close, out, again, back, next)) =
          let found = closed_found steps levelled small logic_found at piece logic body before between inside ends start tested is.lies is.ready.captured fits begins some high lies tests close out again back next (inner_found steps levelled small logic_found named at others_found piece is.later is.within) (omega (arith, low, bounded)) in
          inl (found.0, found.1, omega (arith, found.2, low))
      by (same, start, inside, begins, inl (none, goes, lies, tests, told)) = at_target (any_target steps logic false piece.from start piece.to tests)
        where
          at_target : Hits steps start piece.to piece.from ⊎ ((other : ℕ) → LogicLies steps logic false other start piece.to) → PieceFound steps at bound piece ⊎ ToldOnce piece body logic before
          at_target (inr any) = inr (record { start = start; inside = inside; begins = begins; goes = goes; none = none; lies = lies; tests = any; told = told })
          at_target (inl hit) = inl (at_last (last_back steps piece.from piece.to) refl (last_tells (goes_back steps piece.from) piece.to))
            where
              least : start ≤ hit.place
              least = hit.least

              most : hit.place < piece.to
              most = hit.most

              back : goes_back steps piece.from hit.place ≡ true
              back = target_goes_back steps hit.place piece.from hit.there (omega (arith, begins, least))

              not_own : (step : Step) → slice_get steps piece.from ≡ Some step → piece.from ≡ hit.place → is_own at step.kind ≡ false
              not_own step there here =
                  let found = target_is steps hit.place piece.from hit.there in
                  let same : found.0 ≡ step = same_Some found.0 step (sym found.1 ∙ subst (λ n. slice_get steps n ≡ Some step) here there) in
                  jumps_not step.kind (subst (λ (s : Step). target_of s.kind ≡ Some piece.from) same found.2)
                where
                  jumps_not : (kind : StepKind) → target_of kind ≡ Some piece.from → is_own at kind ≡ false
                  jumps_not StepKind.Act goes = absurd (none-some piece.from goes)
                  jumps_not StepKind.Return goes = refl
                  jumps_not (StepKind.Declaration end captured) goes = absurd (none-some piece.from goes)
                  jumps_not (StepKind.Test when target negated) goes = refl
                  jumps_not (StepKind.Jump target) goes = refl
                  jumps_not (StepKind.Close from declared) goes = refl
                  jumps_not (StepKind.Head numeric foot end variables_end captured) goes = refl
                  jumps_not (StepKind.Foot numeric target) goes = refl

              alone : (is_single piece ≡ false) ⊎ ((step : Step) → slice_get steps piece.from ≡ Some step → is_own at step.kind ≡ false)
              alone = at_single (is_single piece) refl
                where
                  at_single : (b : Bool) → is_single piece ≡ b → (is_single piece ≡ false) ⊎ ((step : Step) → slice_get steps piece.from ≡ Some step → is_own at step.kind ≡ false)
                  at_single false single = inl single
                  at_single true single =
                      inr (λ step there. not_own step there (let to = to_single piece single in omega (arith, to, most, begins, least)))
                    where
                      to_single : (piece : Piece) → is_single piece ≡ true → piece.to ≡ suc piece.from
                      to_single piece single = by_to piece.to single
                        where
                          by_to : (to : ℕ) → is_this (number_before to) piece.from ≡ true → to ≡ suc piece.from
                          by_to zero single = absurd (false≢true single)
                          by_to (suc n) single = let same = same_numbers n piece.from single in omega (arith, same)

              at_last : (found : Option ℕ) → last_back steps piece.from piece.to ≡ found → LastTells (goes_back steps piece.from) piece.to found → PieceFound steps at bound piece
              at_last None eq known = absurd (known hit.place most back)
              at_last (Some last) eq known =
                  let high = known.2 hit.place most back in
                  let found = open_found steps levelled small logic_found at piece logic body before between inside ends start is.lies is.ready.captured fits begins goes none lies tests last (omega (arith, least, high)) eq alone (inner_found steps levelled small logic_found named at others_found piece is.later is.within) (omega (arith, low, bounded)) known.0 in
                  (found.0, found.1, omega (arith, found.2, low))
