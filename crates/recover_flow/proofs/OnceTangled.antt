-- Where no jump goes back to the first step of a loop that runs once, and that step is a jump, a test or a declaration, the loop is taken as one, or its first jump as a break.
use Rattle.std.proofs.Common.{◌≡◌, ◌∙◌, ◌≤◌, ◌<◌, ◌⊎◌, inl, inr, refl, sym, ap, ℕ, zero, suc, Bool, true, false, List, length, slice_get, Option, None, Some, arith}
use Rattle.std.specs.Prelude.{◌==◌, ◌&&◌, not, nat_le, nat_lt, if◌then◌else◌, option_and_then}
use Rattle.std.specs.Bool.{beq}
use Rattle.std.proofs.lemmas.Bool.{false≢true}
use Rattle.std.proofs.lemmas.Option.{same_Some}
use Rattle.recover_expr.specs.declared.steps.Step.{Step}
use Rattle.recover_expr.specs.declared.steps.StepKind.{StepKind}
use Rattle.recover_flow.specs.Asked.{any_between, goes_ahead, goes_back, is_single, is_this, jump_of, jumps_to, kind_at, number_before, target_at, target_of}
use Rattle.recover_flow.specs.Flow.{Around, Flow, FlowStatement, FlowLies, FlowStatementLies, captures_flow}
use Rattle.recover_flow.specs.Forms.{choice_at, ending, is_enclosed, leaves_straight}
use Rattle.recover_flow.specs.Logic.{Logic, LogicLies, test_logic, literal_logic, not_logic, and_logic, or_logic}
use Rattle.recover_flow.specs.Lying.{LiteralLies}
use Rattle.recover_flow.specs.Plans.{end_plan}
use Rattle.recover_flow.specs.declared.forms.Choice.{Choice}
use Rattle.recover_flow.specs.declared.plan.End.{End}
use Rattle.recover_flow.specs.declared.regions.BodyAt.{BodyAt}
use Rattle.recover_flow.specs.declared.regions.Piece.{Piece}
use Rattle.recover_flow.proofs.BodiesFound.{PieceFound}
use Rattle.recover_flow.proofs.FlowInside.{ClosesAreNamed, ExitBehind, IsReady, flow_in, owns_of, statement_flow_in}
use Rattle.recover_flow.proofs.FlowPieces.{none_between}
use Rattle.recover_flow.proofs.FormsLie.{same_numbers}
use Rattle.recover_flow.proofs.LogicCut.{test_hit}
use Rattle.recover_flow.proofs.OnceFound.{is_straight}
use Rattle.recover_flow.proofs.OnceWithin.{IsTangled}
use Rattle.recover_flow.proofs.PartsInside.{Owned, back_is, no_back_before, order}
use Rattle.recover_flow.proofs.StepsFound.{ending_low, if_false, if_true, last_none, second_false, straight_is}

-- a jump, a test or a declaration
abbrev pub IsOpening : StepKind → Type 0
IsOpening (StepKind.Declaration end captured) = Unit {0}
IsOpening (StepKind.Test when target negated) = Unit {0}
IsOpening (StepKind.Jump target) = Unit {0}
IsOpening kind = ⊥

module _ (steps : List Step) where
  -- the jumps of a condition go on
  literal_ahead : (jumps : Bool) (target from to : ℕ) → to ≤ target → LiteralLies steps jumps from to target → (place goes : ℕ) → from ≤ place → place < to → target_at steps place ≡ Some goes → place < goes
  literal_ahead true target from to far lies place goes low high there =
      let here : place ≡ from = omega (arith, low, high, lies.1) in
      let same : target ≡ goes = same_Some target goes (sym (ap (option_and_then target_of) lies.0) ∙ ap (target_at steps) (sym here) ∙ there) in
      omega (arith, same, far, high)
  literal_ahead false target from to far lies place goes low high there = absurd (omega (arith, low, high, lies))

  pub logic_ahead : (logic : Logic) (sense : Bool) (target from to : ℕ) → to ≤ target → LogicLies steps logic sense target from to → (place goes : ℕ) → from ≤ place → place < to → target_at steps place ≡ Some goes → place < goes
  logic_ahead (test_logic step negated) sense target from to far lies place goes low high there =
      let here : place ≡ from = omega (arith, low, high, lies.1) in
      let same : target ≡ goes = same_Some target goes (sym (test_hit steps negated sense target from (kind_at steps from) refl lies.2) ∙ ap (target_at steps) (sym here) ∙ there) in
      omega (arith, same, far, high)
  logic_ahead (literal_logic truth) sense target from to far lies place goes low high there = literal_ahead (beq truth sense) target from to far lies place goes low high there
  logic_ahead (not_logic inner) sense target from to far lies place goes low high there = logic_ahead inner (not sense) target from to far lies place goes low high there
  logic_ahead (and_logic left right) sense target from to far (mid, begins, ends, one, two) place goes low high there =
      by (order place mid) (λ h. logic_ahead left false (if sense then to else target) from mid (early sense) one place goes low h there) (λ h. logic_ahead right sense target mid to far two place goes h high there)
    where
      early : (sense : Bool) → mid ≤ (if sense then to else target)
      early true = ends
      early false = omega (arith, ends, far)

      by : (place < mid) ⊎ (mid ≤ place) → (place < mid → place < goes) → (mid ≤ place → place < goes) → place < goes
      by (inl h) first second = first h
      by (inr h) first second = second h
  logic_ahead (or_logic left right) sense target from to far (mid, begins, ends, one, two) place goes low high there =
      by (order place mid) (λ h. logic_ahead left true (if sense then target else to) from mid (early sense) one place goes low h there) (λ h. logic_ahead right sense target mid to far two place goes h high there)
    where
      early : (sense : Bool) → mid ≤ (if sense then target else to)
      early true = omega (arith, ends, far)
      early false = ends

      by : (place < mid) ⊎ (mid ≤ place) → (place < mid → place < goes) → (mid ≤ place → place < goes) → place < goes
      by (inl h) first second = first h
      by (inr h) first second = second h

  -- so none goes back
  pub back_target : (first last : ℕ) → goes_back steps first last ≡ true → target_at steps last ≡ Some first
  back_target first last back = let found = back_is steps first last back in ap (λ found. option_and_then target_of (kind_of found)) found.1.1 ∙ found.1.2
    where
      kind_of : Option Step → Option StepKind
      kind_of None = None
      kind_of (Some step) = Some step.kind

  module _ (named : ClosesAreNamed steps) where
    pub statement_not_back : (s : FlowStatement) (around behind : Around) (ends from to ready_from first last : ℕ) → IsReady ready_from around → ready_from ≤ from → ExitBehind around.exit to → FlowStatementLies steps around behind ends s from to → first < from → from ≤ last → last < to → goes_back steps first last ≡ true → ⊥
    statement_not_back s around behind ends from to ready_from first last ready begins exit lies before low high back =
        no_back_before steps (owns_of steps ends s) around.exit ready_from to from to from to first last (statement_flow_in steps named s around behind ends from to ready_from ready begins exit lies).inside low high before back

    pub flow_not_back : (flow : Flow) (around behind : Around) (ends from to ready_from first last : ℕ) → IsReady ready_from around → ready_from ≤ from → ExitBehind around.exit to → FlowLies steps around behind ends flow from to → first < from → from ≤ last → last < to → goes_back steps first last ≡ true → ⊥
    flow_not_back flow around behind ends from to ready_from first last ready begins exit lies before low high back =
        no_back_before steps (Owned ends (captures_flow steps flow)) around.exit ready_from to from to from to first last (flow_in steps named flow around behind ends from to ready_from ready begins exit lies).inside low high before back

  module _ (at : BodyAt) (piece : Piece) (before : Around) (bound : ℕ) (tangled : IsTangled steps at piece before) (deep : 2 ≤ bound) where
    not_straight : (choice : Choice) → choice_at steps at piece ≡ choice → is_straight choice ≡ true → PieceFound steps at bound piece
    not_straight choice same is = absurd (false≢true (sym tangled.0 ∙ (ap is_straight same ∙ is)))

    -- one step, which is no jump, does not go to the end
    not_alone : (kind : StepKind) → kind_at steps piece.from ≡ Some kind → jump_of kind ≡ None → is_single piece ≡ true → ⊥
    not_alone kind here none single =
        false≢true (sym (unreached (nat_le piece.to (length steps)) (none_between (goes_ahead steps piece.to) piece.from piece.to no_jump)) ∙ tangled.2)
      where
        to_single : (to : ℕ) → is_this (number_before to) piece.from ≡ true → to ≡ suc piece.from
        to_single zero single = absurd (false≢true single)
        to_single (suc n) single = let same = same_numbers n piece.from single in omega (arith, same)

        unreached : (b : Bool) → any_between (goes_ahead steps piece.to) piece.from piece.to ≡ false → (b && any_between (goes_ahead steps piece.to) piece.from piece.to) ≡ false
        unreached true is = is
        unreached false is = refl

        no_jump : (n : ℕ) → piece.from ≤ n → n < piece.to → goes_ahead steps piece.to n ≡ true → ⊥
        no_jump n low high ahead =
            let to = to_single piece.to single in
            let same : n ≡ piece.from = omega (arith, low, high, to) in
            let fails : jumps_to steps n piece.to ≡ false = ap (λ m. jumps_to steps m piece.to) same ∙ ap (λ found. is_this (option_and_then jump_of found) piece.to) here ∙ ap (λ found. is_this found piece.to) none in
            absurd (false≢true (sym (second_false (nat_lt n piece.to) (jumps_to steps n piece.to) fails) ∙ ahead))

    pub opening_found : (step : Step) (kind : StepKind) → slice_get steps piece.from ≡ Some step → step.kind ≡ kind → kind_at steps piece.from ≡ Some kind → IsOpening kind → ((last : ℕ) → last < piece.to → goes_back steps piece.from last ≡ true → ⊥) → PieceFound steps at bound piece
    opening_found step (StepKind.Declaration end captured) there is here opening not_back = by (is_single piece) refl
      where
        by : (single : Bool) → is_single piece ≡ single → PieceFound steps at bound piece
        by true single = absurd (not_alone (StepKind.Declaration end captured) here refl single)
        by false single =
            not_straight Choice.Locals (straight_is steps at piece step (StepKind.Declaration end captured) there is (ap (λ b. b && (end == at.locals_end)) single) (last_none steps piece.from piece.to not_back)) refl
    opening_found step (StepKind.Test when target negated) there is here opening not_back =
        not_straight Choice.Jumps (straight_is steps at piece step (StepKind.Test when target negated) there is (second_false (is_single piece) false refl) (last_none steps piece.from piece.to not_back)) refl
    opening_found step (StepKind.Jump target) there is here opening not_back = by (leaves_straight steps at piece step) refl
      where
        chosen : choice_at steps at piece ≡ (if leaves_straight steps at piece step then Choice.Settled (Some (ending at piece End.Break 1)) else Choice.Jumps)
        chosen = straight_is steps at piece step (StepKind.Jump target) there is (second_false (is_single piece) false refl) (last_none steps piece.from piece.to not_back)

        by : (leaves : Bool) → leaves_straight steps at piece step ≡ leaves → PieceFound steps at bound piece
        by true leaves = let more = ending_low steps at piece End.Break 1 in (end_plan End.Break (is_enclosed at piece), chosen ∙ if_true (leaves_straight steps at piece step) _ _ leaves, omega (arith, more, deep))
        by false leaves = not_straight Choice.Jumps (chosen ∙ if_false (leaves_straight steps at piece step) _ _ leaves) refl
    opening_found step StepKind.Act there is here opening not_back = absurd opening
    opening_found step StepKind.Return there is here opening not_back = absurd opening
    opening_found step (StepKind.Close close declared) there is here opening not_back = absurd opening
    opening_found step (StepKind.Head numeric foot end variables_end captured) there is here opening not_back = absurd opening
    opening_found step (StepKind.Foot numeric target) there is here opening not_back = absurd opening
