-- A loop that runs once is taken as one where it begins with a break, with locals, or with the tests of an `if`.
use Rattle.std.proofs.Common.{◌≡◌, ◌∙◌, ◌≤◌, ◌<◌, ◌⊎◌, inl, inr, refl, sym, ap, subst, ℕ, suc, max, Bool, true, false, List, Some, arith}
use Rattle.std.proofs.lemmas.Bool.{false≢true}
use Rattle.std.proofs.lemmas.Option.{same_Some}
use Rattle.recover_expr.specs.declared.steps.Step.{Step}
use Rattle.recover_expr.specs.declared.steps.StepKind.{StepKind}
use Rattle.recover_flow.specs.Asked.{goes_back, is_unit, kind_at}
use Rattle.recover_flow.specs.Flow.{AreTold, Around, BreakLies, Flow, FlowArms, no_more, else_flow, elseif_flow, if_flow, repeat_flow, ArmLies, FlowLies, FlowStatementLies, IsAt, captures_flow, flow_levels, in_loop, logic_room}
use Rattle.recover_flow.specs.Logic.{AreLevelled, Logic, LogicLies, literal_logic}
use Rattle.recover_flow.specs.Lying.{Jumps}
use Rattle.recover_flow.specs.declared.regions.BodyAt.{BodyAt}
use Rattle.recover_flow.specs.declared.regions.Piece.{Piece}
use Rattle.recover_flow.proofs.BlocksFound.{statement_base}
use Rattle.recover_flow.proofs.BodiesFound.{IsPiece, PieceFound}
use Rattle.recover_flow.proofs.FlowInside.{ClosesAreNamed, IsReady, ready_loop}
use Rattle.recover_flow.proofs.LoopsFound.{logic_units}
use Rattle.recover_flow.proofs.OnceFound.{filled, loop_exit}
use Rattle.recover_flow.proofs.OnceTangled.{IsOpening, back_target, flow_not_back, logic_ahead, opening_found, statement_not_back}
use Rattle.recover_flow.proofs.OnceWithin.{IsTangled}
use Rattle.recover_flow.proofs.PartsInside.{back_is, kind_there, order}
use Rattle.recover_flow.proofs.StepsFound.{jump_ahead, no_jump_back}

-- an `if` without its first tests
pub untested : (steps : List Step) (around : Around) (logic : Logic) (captured : Bool) (lies : (from ends end : ℕ) → Type 0) (rest : FlowArms) (from to : ℕ) → ArmLies steps around logic captured lies rest from to
    → (start : ℕ) × (target : ℕ) × (from ≤ start) × (start ≤ target) × (start ≤ to) × LogicLies steps logic false target from start × ArmLies steps around (literal_logic true) captured lies rest start to
untested steps around logic captured lies no_more from to (start, low, high, tests, told, block) = (start, to, low, high, high, tests, (start, omega arith, high, refl, (λ at begins stops. absurd (omega (arith, begins, stops))), block))
untested steps around logic captured lies (else_flow body) from to (start, last, low, high, ends, tests, told, block, jump, others) =
    (start, suc last, low, omega (arith, high), omega (arith, high, ends), tests, (start, last, omega arith, high, ends, refl, (λ at begins stops. absurd (omega (arith, begins, stops))), block, jump, others))
untested steps around logic captured lies (elseif_flow next body rest) from to (start, last, low, high, ends, tests, told, block, jump, others) =
    (start, suc last, low, omega (arith, high), omega (arith, high, ends), tests, (start, last, omega arith, high, ends, refl, (λ at begins stops. absurd (omega (arith, begins, stops))), block, jump, others))

unit_opens : (kind : StepKind) → is_unit (Some kind) ≡ true → IsOpening kind
unit_opens (StepKind.Test when target negated) is = tt
unit_opens (StepKind.Jump target) is = tt
unit_opens (StepKind.Declaration end captured) is = tt
unit_opens StepKind.Act is = absurd (false≢true is)
unit_opens StepKind.Return is = absurd (false≢true is)
unit_opens (StepKind.Close close declared) is = absurd (false≢true is)
unit_opens (StepKind.Head numeric foot end variables_end captured) is = absurd (false≢true is)
unit_opens (StepKind.Foot numeric target) is = absurd (false≢true is)

module _ (steps : List Step) (levelled : AreLevelled steps) (named : ClosesAreNamed steps) (at : BodyAt) (piece : Piece) (body : Flow) (logic : Logic) (before between : Around) (ends first bound : ℕ) (is : IsPiece steps at piece (repeat_flow body logic) before between ends first bound) (inside : Around) (start : ℕ) (goes : start ≤ piece.to)
    (tests : (target : ℕ) → LogicLies steps logic false target start piece.to) (told : AreTold steps inside start piece.to) (tangled : IsTangled steps at piece before) where
  deep : 2 ≤ bound
  deep = let low = is.low in omega (arith, low)

  pub ready : IsReady piece.from (in_loop piece.to before)
  ready = ready_loop piece.to piece.from before is.ready.captured

  -- behind the first statement
  pub rest_not_back : (rest : Flow) (mid : ℕ) → piece.from < mid → mid ≤ start → FlowLies steps (in_loop piece.to before) inside piece.to rest mid start → captures_flow steps rest ≡ false → (last : ℕ) → mid ≤ last → last < piece.to → goes_back steps piece.from last ≡ true → ⊥
  rest_not_back rest mid past stops lies none last low high back =
      let most : ℕ = max (logic_room steps logic) (flow_levels steps rest) in
      let fill = filled steps levelled rest logic (in_loop piece.to before) inside mid start piece.to most stops goes none lies tests told (omega arith) (omega arith) in
      flow_not_back steps named fill.flow (in_loop piece.to before) inside piece.to mid piece.to piece.from piece.from last ready (omega (arith, past)) (omega arith) fill.lies past low high back

  pub jump_opens : (target : ℕ) (around : Around) → IsAt steps around piece.from (StepKind.Jump target) → piece.from < target → ((last : ℕ) → suc piece.from ≤ last → last < piece.to → goes_back steps piece.from last ≡ true → ⊥) → PieceFound steps at bound piece
  jump_opens target around jump ahead behind =
      opening_found steps at piece before bound tangled deep jump.0.step (StepKind.Jump target) jump.0.there (same_Some jump.0.step.kind (StepKind.Jump target) (sym (kind_there steps piece.from jump.0.step jump.0.there) ∙ jump.1)) jump.1 tt
      (λ last high back. by last high back (order piece.from last) (back_is steps piece.from last back).0)
    where
      by : (last : ℕ) → last < piece.to → goes_back steps piece.from last ≡ true → (piece.from < last) ⊎ (last ≤ piece.from) → piece.from ≤ last → ⊥
      by last high back (inl past) low = behind last past high back
      by last high back (inr here) low =
          let same : last ≡ piece.from = omega (arith, here, low) in
          jump_ahead steps piece.from last target (subst (λ n. Jumps steps n target) (sym same) jump.1) (omega (arith, ahead, same)) back

  pub locals_open : (around : Around) (end : ℕ) (captured : Bool) → IsAt steps around piece.from (StepKind.Declaration end captured) → ((last : ℕ) → suc piece.from ≤ last → last < piece.to → goes_back steps piece.from last ≡ true → ⊥) → PieceFound steps at bound piece
  locals_open around end captured declaration behind =
      opening_found steps at piece before bound tangled deep declaration.0.step (StepKind.Declaration end captured) declaration.0.there
      (same_Some declaration.0.step.kind (StepKind.Declaration end captured) (sym (kind_there steps piece.from declaration.0.step declaration.0.there) ∙ declaration.1)) declaration.1 tt
      (λ last high back. by last high back (order piece.from last) (back_is steps piece.from last back).0)
    where
      by : (last : ℕ) → last < piece.to → goes_back steps piece.from last ≡ true → (piece.from < last) ⊎ (last ≤ piece.from) → piece.from ≤ last → ⊥
      by last high back (inl past) low = behind last past high back
      by last high back (inr here) low =
          let same : last ≡ piece.from = omega (arith, here, low) in
          no_jump_back steps piece.from last (StepKind.Declaration end captured) (subst (λ n. kind_at steps n ≡ Some (StepKind.Declaration end captured)) (sym same) declaration.1) refl back

  -- a break
  pub break_opens : (rest : Flow) (mid : ℕ) → piece.from < mid → mid ≤ start → BreakLies steps (in_loop piece.to before) (Some (loop_exit steps at piece before)) piece.from mid → FlowLies steps (in_loop piece.to before) inside piece.to rest mid start → captures_flow steps rest ≡ false → PieceFound steps at bound piece
  break_opens rest mid past stops (inl (straight, jump, next)) lies none =
      jump_opens piece.to (in_loop piece.to before) jump is.some (λ last low high back. rest_not_back rest mid past stops lies none last (omega (arith, low, next)) high back)
  break_opens rest mid past stops (inr (closed, close, jump, next)) lies none = let sound = is.ready.captured in absurd (omega (arith, closed, sound))

  -- an `if` with tests
  pub tests_open : (test : Logic) (block : Flow) (arms : FlowArms) (rest : Flow) (from target mid : ℕ) → piece.from < from → from ≤ mid → mid ≤ start → from ≤ target → LogicLies steps test false target piece.from from → FlowStatementLies steps (in_loop piece.to before) (in_loop piece.to before) 0 (if_flow (literal_logic true) block arms) from mid
      → FlowLies steps (in_loop piece.to before) inside piece.to rest mid start → captures_flow steps rest ≡ false → PieceFound steps at bound piece
  tests_open test block arms rest from target mid some within stops far test_lies one lies none =
      let base = statement_base steps (repeat_flow body logic) before between ends piece.from piece.to is.some is.lies in
      let step : Step = base.0 in
      let here : kind_at steps piece.from ≡ Some step.kind = kind_there steps piece.from step base.1 in
      opening_found steps at piece before bound tangled deep step step.kind base.1 refl here
      (unit_opens step.kind (sym (ap is_unit here) ∙ logic_units steps test false target piece.from from test_lies piece.from (omega arith) some))
      (λ last high back. by last high back (order last from) (order last mid) (back_is steps piece.from last back).0)
    where
      by : (last : ℕ) → last < piece.to → goes_back steps piece.from last ≡ true → (last < from) ⊎ (from ≤ last) → (last < mid) ⊎ (mid ≤ last) → piece.from ≤ last → ⊥
      by last high back (inl testing) two low = let ahead = logic_ahead steps test false target piece.from from far test_lies last piece.from low testing (back_target steps piece.from last back) in absurd (omega (arith, ahead, low))
      by last high back (inr past) (inl blocks) low =
          statement_not_back steps named (if_flow (literal_logic true) block arms) (in_loop piece.to before) (in_loop piece.to before) 0 from mid piece.from piece.from last ready (omega (arith, some)) (omega (arith, stops, goes)) one some past blocks back
      by last high back (inr past) (inr behind) low = rest_not_back rest mid (omega (arith, some, within)) stops lies none last behind high back
