-- An `if` that ends at the exit goes on to the end of the body, and begins with a test or a jump to which nothing goes back: so the search may begin branches there.
use Rattle.std.proofs.Common.{◌≡◌, ◌∙◌, ◌≤◌, ◌<◌, ◌⊎◌, inl, inr, refl, sym, ap, subst, ℕ, Bool, true, false, List, Option, None, Some, arith}
use Rattle.std.specs.Bool.{beq}
use Rattle.std.specs.Prelude.{◌==◌, not, is_some, nat_lt, option_and_then, if◌then◌else◌}
use Rattle.recover_expr.specs.declared.steps.Step.{Step}
use Rattle.recover_expr.specs.declared.steps.StepKind.{StepKind}
use Rattle.recover_flow.specs.Asked.{begins_branches, goes_back, is_exit_at, kind_at, target_at, target_of}
use Rattle.recover_flow.specs.Flow.{Around, ArmLies, Flow, FlowArms, no_more, else_flow, elseif_flow, FlowLies, captures_flow}
use Rattle.recover_flow.specs.Logic.{Logic, LogicLies, test_logic, literal_logic, not_logic, and_logic, or_logic}
use Rattle.recover_flow.specs.Lying.{LiteralLies, TestGoes}
use Rattle.recover_flow.specs.declared.regions.BodyAt.{BodyAt}
use Rattle.recover_flow.specs.declared.regions.Exit.{Exit}
use Rattle.recover_flow.specs.declared.regions.Piece.{Piece}
use Rattle.recover_flow.proofs.CutFacts.{IsCut}
use Rattle.recover_flow.proofs.FlowInside.{ExitBehind}
use Rattle.recover_flow.proofs.FlowParts.{HitsExit}
use Rattle.recover_flow.proofs.FlowPieces.{IsBody}
use Rattle.recover_flow.proofs.PartsInside.{order}
use Rattle.recover_flow.proofs.StepsFound.{both_true, last_none, lt_is, same_is}

-- an `if` begins with its condition, or with the jump behind its first block
abbrev pub StartsTested : (steps : List Step) (before : Around) (from : ℕ) (logic : Logic) (body : Flow) (rest : FlowArms) (to : ℕ) → ArmLies steps before logic (captures_flow steps body) (λ from ends end. (inside : Around) × FlowLies steps before inside ends body from end) rest from to → Type 0
StartsTested steps before from logic body no_more to lies = from < lies.0
StartsTested steps before from logic body (else_flow other) to lies = (from < lies.0) ⊎ (lies.1 ≡ from)
StartsTested steps before from logic body (elseif_flow next other rest) to lies = (from < lies.0) ⊎ (lies.1 ≡ from)

module _ (steps : List Step) where
  -- ---- conditions

  test_begins : (negated sense : Bool) (goal : ℕ) (kind : Option StepKind) → TestGoes negated sense goal kind → is_some (option_and_then target_of kind) ≡ true
  test_begins negated sense goal (Some (StepKind.Test when to levels)) goes = refl
  test_begins negated sense goal None goes = absurd goes
  test_begins negated sense goal (Some StepKind.Act) goes = absurd goes
  test_begins negated sense goal (Some StepKind.Return) goes = absurd goes
  test_begins negated sense goal (Some (StepKind.Declaration end captured)) goes = absurd goes
  test_begins negated sense goal (Some (StepKind.Jump to)) goes = absurd goes
  test_begins negated sense goal (Some (StepKind.Close from declared)) goes = absurd goes
  test_begins negated sense goal (Some (StepKind.Head numeric foot end variables_end captured)) goes = absurd goes
  test_begins negated sense goal (Some (StepKind.Foot numeric to)) goes = absurd goes

  -- one that has steps begins with a test or a jump
  pub logic_begins : (logic : Logic) (sense : Bool) (goal from to : ℕ) → LogicLies steps logic sense goal from to → from < to → is_some (target_at steps from) ≡ true
  logic_begins (test_logic step negated) sense goal from to lies some = test_begins negated sense goal (kind_at steps from) lies.2
  logic_begins (literal_logic truth) sense goal from to lies some = by (beq truth sense) lies
    where
      by : (jumps : Bool) → LiteralLies steps jumps from to goal → is_some (target_at steps from) ≡ true
      by true jump = ap (λ found. is_some (option_and_then target_of found)) jump.0
      by false none = absurd (omega (arith, none, some))
  logic_begins (not_logic inner) sense goal from to lies some = logic_begins inner (not sense) goal from to lies some
  logic_begins (and_logic left right) sense goal from to (mid, low, high, one, two) some =
      by (order from mid) (λ first. logic_begins left false (if sense then to else goal) from mid one first) (λ here. logic_begins right sense goal mid to two (omega (arith, here, some)))
    where
      by : (from < mid) ⊎ (mid ≤ from) → (from < mid → is_some (target_at steps from) ≡ true) → (mid ≤ from → is_some (target_at steps mid) ≡ true) → is_some (target_at steps from) ≡ true
      by (inl first) left right = left first
      by (inr here) left right = let same : mid ≡ from = omega (arith, here, low) in subst (λ n. is_some (target_at steps n) ≡ true) same (right here)
  logic_begins (or_logic left right) sense goal from to (mid, low, high, one, two) some =
      by (order from mid) (λ first. logic_begins left true (if sense then goal else to) from mid one first) (λ here. logic_begins right sense goal mid to two (omega (arith, here, some)))
    where
      by : (from < mid) ⊎ (mid ≤ from) → (from < mid → is_some (target_at steps from) ≡ true) → (mid ≤ from → is_some (target_at steps mid) ≡ true) → is_some (target_at steps from) ≡ true
      by (inl first) left right = left first
      by (inr here) left right = let same : mid ≡ from = omega (arith, here, low) in subst (λ n. is_some (target_at steps n) ≡ true) same (right here)

  test_past : (negated sense : Bool) (goal target : ℕ) (kind : Option StepKind) → TestGoes negated sense goal kind → option_and_then target_of kind ≡ Some target → goal ≡ target
  test_past negated sense goal target (Some (StepKind.Test when to levels)) goes is = sym goes.0 ∙ same_target to target is
    where
      same_target : (a b : ℕ) → Some a ≡ Some b → a ≡ b
      same_target a b same = ap (λ (x : Option ℕ). value x) same
        where
          value : Option ℕ → ℕ
          value None = a
          value (Some n) = n
  test_past negated sense goal target None goes is = absurd goes
  test_past negated sense goal target (Some StepKind.Act) goes is = absurd goes
  test_past negated sense goal target (Some StepKind.Return) goes is = absurd goes
  test_past negated sense goal target (Some (StepKind.Declaration end captured)) goes is = absurd goes
  test_past negated sense goal target (Some (StepKind.Jump to)) goes is = absurd goes
  test_past negated sense goal target (Some (StepKind.Close from declared)) goes is = absurd goes
  test_past negated sense goal target (Some (StepKind.Head numeric foot end variables_end captured)) goes is = absurd goes
  test_past negated sense goal target (Some (StepKind.Foot numeric to)) goes is = absurd goes

  chosen_past : (sense : Bool) (a b low : ℕ) → low < a → low < b → low < (if sense then a else b)
  chosen_past true a b low one two = one
  chosen_past false a b low one two = two

  -- no jump of one goes to its begin or before
  pub logic_past : (logic : Logic) (sense : Bool) (goal from to low place target : ℕ) → LogicLies steps logic sense goal from to → low < goal → low ≤ from → from ≤ place → place < to → target_at steps place ≡ Some target → low < target
  logic_past (test_logic step negated) sense goal from to low place target lies past begins least most is =
      let here : from ≡ place = omega (arith, lies.1, least, most) in
      let same = test_past negated sense goal target (kind_at steps from) lies.2 (subst (λ n. target_at steps n ≡ Some target) (sym here) is) in
      omega (arith, same, past)
  logic_past (literal_logic truth) sense goal from to low place target lies past begins least most is = by (beq truth sense) lies
    where
      value : Option ℕ → ℕ
      value None = target
      value (Some n) = n

      by : (jumps : Bool) → LiteralLies steps jumps from to goal → low < target
      by true jump =
          let here : from ≡ place = omega (arith, jump.1, least, most) in
          let same : Some goal ≡ Some target = sym (ap (λ found. option_and_then target_of found) jump.0) ∙ subst (λ n. target_at steps n ≡ Some target) (sym here) is in
          let one : goal ≡ target = ap value same in
          omega (arith, one, past)
      by false none = absurd (omega (arith, none, least, most))
  logic_past (not_logic inner) sense goal from to low place target lies past begins least most is = logic_past inner (not sense) goal from to low place target lies past begins least most is
  logic_past (and_logic left right) sense goal from to low place target (mid, down, up, one, two) past begins least most is =
      by (order place mid) (λ first. logic_past left false (if sense then to else goal) from mid low place target one (chosen_past sense to goal low (omega (arith, begins, least, most)) past) begins least first is)
      (λ behind. logic_past right sense goal mid to low place target two past (omega (arith, begins, down)) behind most is)
    where
      by : (place < mid) ⊎ (mid ≤ place) → (place < mid → low < target) → (mid ≤ place → low < target) → low < target
      by (inl first) left right = left first
      by (inr behind) left right = right behind
  logic_past (or_logic left right) sense goal from to low place target (mid, down, up, one, two) past begins least most is =
      by (order place mid) (λ first. logic_past left true (if sense then goal else to) from mid low place target one (chosen_past sense goal to low past (omega (arith, begins, least, most))) begins least first is)
      (λ behind. logic_past right sense goal mid to low place target two past (omega (arith, begins, down)) behind most is)
    where
      by : (place < mid) ⊎ (mid ≤ place) → (place < mid → low < target) → (mid ≤ place → low < target) → low < target
      by (inl first) left right = left first
      by (inr behind) left right = right behind

  -- ---- the end of the body

  -- a statement that ends at the exit ends with the body, which is before the exit
  pub hit_end : (at : BodyAt) (exit : Option Exit) (ends low cut from to : ℕ) (body : IsBody steps at exit ends) (is_cut : IsCut steps at body.small body.fits low cut) → to ≤ at.to → (hit : HitsExit steps at body.small body.fits low cut is_cut from to)
      → (to ≡ at.to) × (hit.exit.place ≡ at.to) × (exit ≡ Some hit.exit)
  hit_end at exit ends low cut from to body is_cut within hit =
      let near = hit.near in
      let same = body.same hit.exit hit.is in
      let past = subst (λ e. ExitBehind e at.to) same body.behind in
      (omega (arith, near, within, past), omega (arith, near, within, past), same)

  -- the search may begin branches with a piece
  pub may_begin : (at : BodyAt) (piece : Piece) (exit : Exit) → at.exit ≡ Some exit → exit.place ≡ at.to → piece.to < at.to → is_some (target_at steps piece.from) ≡ true → ((last : ℕ) → last < at.to → goes_back steps piece.from last ≡ true → ⊥) → begins_branches steps at piece ≡ true
  may_begin at piece exit is place stops begins none =
      both_true (is_exit_at at.exit at.to) _ (ap (λ e. is_exit_at e at.to) is ∙ ap (λ n. exit.place == n) (sym place) ∙ same_is exit.place)
      (both_true (nat_lt piece.to at.to) _ (lt_is piece.to at.to stops)
      (both_true (is_some (target_at steps piece.from)) _ begins (ap (λ found. not (is_some found)) (last_none steps piece.from at.to none))))
