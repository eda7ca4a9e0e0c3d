-- A statement of one step, a return and a break are found where each is a piece of a body.
use Rattle.std.proofs.Common.{◌≡◌, ◌∙◌, ◌≤◌, ◌<◌, ◌+◌, ◌⊎◌, inl, inr, refl, sym, ap, subst, ℕ, suc, max, Bool, true, false, List, slice_get, Option, None, Some, arith}
use Rattle.std.specs.Prelude.{◌==◌, ◌&&◌, ◌||◌, not, nat_le, nat_lt, if◌then◌else◌}
use Rattle.std.proofs.lemmas.Bool.{false≢true}
use Rattle.std.proofs.lemmas.Bool.Decides.{nat_tests}
use Rattle.std.proofs.lemmas.Option.{none-some, same_Some}
use Rattle.core_expr.specs.Counting.{one_more}
use Rattle.recover_expr.specs.declared.steps.Step.{Step}
use Rattle.recover_expr.specs.declared.steps.StepKind.{StepKind}
use Rattle.recover_flow.specs.Asked.{closes_before, closes_from, goes_back, is_single, is_this, jump_of, kind_at, last_back, leaves, leaves_with, number_before, target_of}
use Rattle.recover_flow.specs.Flow.{Around, BreakLies, step_flow, IsAt, StepLies, flow_statement_levels}
use Rattle.recover_flow.specs.Forms.{choice_at, choice_of_kind, choice_of_step, is_enclosed, is_own, leaves_closing_to, leaves_straight_to, loop_or_straight, may_stand}
use Rattle.recover_flow.specs.Lying.{Jumps}
use Rattle.recover_flow.specs.Plans.{step_plan, end_plan, ending_levels, levels_at, plan_levels, step_levels}
use Rattle.recover_flow.specs.Standing.{PlanStands}
use Rattle.recover_flow.specs.declared.forms.Choice.{Choice}
use Rattle.recover_flow.specs.declared.plan.End.{End}
use Rattle.recover_flow.specs.declared.plan.Plan.{Plan}
use Rattle.recover_flow.specs.declared.regions.BodyAt.{BodyAt}
use Rattle.recover_flow.specs.declared.regions.Exit.{Exit}
use Rattle.recover_flow.specs.declared.regions.Piece.{Piece}
use Rattle.recover_flow.proofs.Boundaries.{LastTells, last_tells}
use Rattle.recover_flow.proofs.PartsInside.{back_is, kind_there, order}

-- ---- tests

pub same_is : (n : ℕ) → (n == n) ≡ true
same_is n = grind (arith, nat_tests)

pub le_is : (a b : ℕ) → a ≤ b → nat_le a b ≡ true
le_is a b low = grind (arith, nat_tests)

pub lt_is : (a b : ℕ) → a < b → nat_lt a b ≡ true
lt_is a b low = grind (arith, nat_tests)

pub lt_fails : (a b : ℕ) → b ≤ a → nat_lt a b ≡ false
lt_fails a b low = grind (arith, nat_tests)

pub if_true : {X : Type 0} (test : Bool) (x y : X) → test ≡ true → (if test then x else y) ≡ x
if_true true x y is = refl
if_true false x y is = absurd (false≢true is)

pub if_false : {X : Type 0} (test : Bool) (x y : X) → test ≡ false → (if test then x else y) ≡ y
if_false true x y is = absurd (false≢true (sym is))
if_false false x y is = refl

pub both_true : (a b : Bool) → a ≡ true → b ≡ true → (a && b) ≡ true
both_true true b one two = two
both_true false b one two = one

pub second_false : (a b : Bool) → b ≡ false → (a && b) ≡ false
second_false true b two = two
second_false false b two = refl

pub one_more_low : (levels : ℕ) → one_more levels ≤ suc levels
one_more_low levels = omega arith

module _ (steps : List Step) where
  pub last_none : (first to : ℕ) → ((last : ℕ) → last < to → goes_back steps first last ≡ true → ⊥) → last_back steps first to ≡ None
  last_none first to none = by (last_back steps first to) refl (last_tells (goes_back steps first) to)
    where
      by : (found : Option ℕ) → last_back steps first to ≡ found → LastTells (goes_back steps first) to found → last_back steps first to ≡ None
      by None is known = is
      by (Some last) is known = absurd (none last known.0 known.1)

  pub single_is : (piece : Piece) → piece.to ≡ suc piece.from → is_single piece ≡ true
  single_is piece next = ap (λ n. is_this (number_before n) piece.from) next ∙ same_is piece.from

  -- a step that is no jump goes back nowhere
  pub no_jump_back : (first last : ℕ) (kind : StepKind) → kind_at steps last ≡ Some kind → target_of kind ≡ None → goes_back steps first last ≡ true → ⊥
  no_jump_back first last kind is none back =
      let found = back_is steps first last back in
      let same = same_Some found.1.0.kind kind (sym (kind_there steps last found.1.0 found.1.1) ∙ is) in
      absurd (none-some first (sym none ∙ sym (ap target_of same) ∙ found.1.2))

  -- and one that goes on does not go back
  pub jump_ahead : (first last target : ℕ) → Jumps steps last target → last < target → goes_back steps first last ≡ true → ⊥
  jump_ahead first last target jump ahead back =
      let found = back_is steps first last back in
      let same = same_Some found.1.0.kind (StepKind.Jump target) (sym (kind_there steps last found.1.0 found.1.1) ∙ jump) in
      let goes : target ≡ first = same_Some target first (sym (ap target_of same) ∙ found.1.2) in
      absurd (omega (arith, goes, ahead, found.0))

  module _ (at : BodyAt) (piece : Piece) where
    pub choice_is : (step : Step) → slice_get steps piece.from ≡ Some step → choice_at steps at piece ≡ choice_of_step steps at piece (Some step)
    choice_is step there = ap (choice_of_step steps at piece) there

    -- a statement that is none by itself
    pub straight_is : (step : Step) (kind : StepKind) → slice_get steps piece.from ≡ Some step → step.kind ≡ kind → (is_single piece && is_own at kind) ≡ false → last_back steps piece.from piece.to ≡ None → choice_at steps at piece ≡ choice_of_kind steps at piece step kind
    straight_is step kind there is none back =
        choice_is step there
        ∙ if_false (is_single piece && is_own at step.kind) _ _ (ap (λ k. is_single piece && is_own at k) is ∙ none)
        ∙ ap (loop_or_straight steps at piece step) back ∙ ap (choice_of_kind steps at piece step) is

    pub loop_is : (step : Step) (kind : StepKind) (last : ℕ) → slice_get steps piece.from ≡ Some step → step.kind ≡ kind → (is_single piece && is_own at kind) ≡ false → last_back steps piece.from piece.to ≡ Some last → choice_at steps at piece ≡ Choice.Loop last
    loop_is step kind last there is none back =
        choice_is step there
        ∙ if_false (is_single piece && is_own at step.kind) _ _ (ap (λ k. is_single piece && is_own at k) is ∙ none)
        ∙ ap (loop_or_straight steps at piece step) back

    -- an act, or the body's own locals
    step_stands : (step : Step) → slice_get steps piece.from ≡ Some step → piece.to ≡ suc piece.from → is_own at step.kind ≡ true → may_stand at step.kind ≡ true → PlanStands steps at piece (step_plan piece.from)
    step_stands step there next own may =
        choice_is step there
        ∙ if_true (is_single piece && is_own at step.kind) _ _ (both_true (is_single piece) (is_own at step.kind) (single_is piece next) own)
        ∙ ap Choice.Settled (if_true (may_stand at step.kind) _ _ may ∙ ap (λ n. Some (record { plan = Plan.Step piece.from; levels = n })) (sym (ap levels_at there)))

    pub step_found : (before between : Around) (ends step : ℕ) → ends ≡ at.locals_end → StepLies steps before between ends step piece.from piece.to → ((kind_at steps piece.from ≡ Some (StepKind.Declaration ends true)) → at.may_capture ≡ true)
        → PlanStands steps at piece (step_plan piece.from) × (plan_levels steps (step_plan piece.from) ≤ flow_statement_levels steps (step_flow step))
    step_found before between ends step is_end (here, next, inl (act, same)) may =
        let kind = same_Some act.0.step.kind StepKind.Act (sym (kind_there steps piece.from act.0.step act.0.there) ∙ act.1) in
        (step_stands act.0.step act.0.there next (ap (is_own at) kind) (ap (may_stand at) kind), level step here)
      where
        level : (step : ℕ) → step ≡ piece.from → step_levels steps piece.from ≤ max 1 (step_levels steps step)
        level step here = subst (λ n. step_levels steps piece.from ≤ max 1 (step_levels steps n)) (sym here) (omega arith)
    step_found before between ends step is_end (here, next, inr (captured, declaration, declares)) may =
        let kind = same_Some declaration.0.step.kind (StepKind.Declaration ends captured) (sym (kind_there steps piece.from declaration.0.step declaration.0.there) ∙ declaration.1) in
        let own : (ends == at.locals_end) ≡ true = ap (λ n. n == at.locals_end) is_end ∙ same_is at.locals_end in (
          step_stands declaration.0.step declaration.0.there next (ap (is_own at) kind ∙ own) (ap (may_stand at) kind ∙ stand captured declaration.1),
          subst (λ n. step_levels steps piece.from ≤ max 1 (step_levels steps n)) (sym here) (omega arith),
        )
      where
        stand : (captured : Bool) → kind_at steps piece.from ≡ Some (StepKind.Declaration ends captured) → may_stand at (StepKind.Declaration ends captured) ≡ true
        stand true is = may is
        stand false is = refl

    -- ---- what ends a block

    -- of so many levels, one more where it is not last
    pub ending_low : (end : End) (levels : ℕ) → ending_levels (is_enclosed at piece) levels ≤ suc levels
    ending_low end levels = by (is_enclosed at piece)
      where
        by : (b : Bool) → ending_levels b levels ≤ suc levels
        by true = one_more_low levels
        by false = omega arith

    pub ending_last : (levels : ℕ) → piece.to ≡ at.to → ending_levels (is_enclosed at piece) levels ≡ levels
    ending_last levels last = ap (λ b. ending_levels (not b) levels) (ap (λ n. n == at.to) last ∙ same_is at.to)

    pub return_found : (before : Around) → IsAt steps before piece.from StepKind.Return → piece.to ≡ suc piece.from → PlanStands steps at piece (end_plan (End.Return piece.from) (is_enclosed at piece))
    return_found before is next =
        let kind = same_Some is.0.step.kind StepKind.Return (sym (kind_there steps piece.from is.0.step is.0.there) ∙ is.1) in
        straight_is is.0.step StepKind.Return is.0.there kind (second_false (is_single piece) false refl)
        (last_none piece.from piece.to (λ last low back. let same : last ≡ piece.from = (let least = (back_is steps piece.from last back).0 in omega (arith, low, next, least)) in
        no_jump_back piece.from last StepKind.Return (subst (λ n. kind_at steps n ≡ Some StepKind.Return) (sym same) is.1) refl back))
        ∙ ap Choice.Settled (if_true (is_single piece) _ _ (single_is piece next) ∙ ap (λ n. Some (record { plan = Plan.End (End.Return piece.from) (is_enclosed at piece); levels = if is_enclosed at piece then one_more n else n })) (sym (ap levels_at is.0.there)))

    leaves_is : (exit : Exit) (around : Around) (place : ℕ) → (is : IsAt steps around place (StepKind.Jump exit.place)) → (nat_le is.0.step.captured exit.locals || closes_before steps place exit.locals) ≡ true → leaves steps place exit ≡ true
    leaves_is exit around place is out =
        let kind = same_Some is.0.step.kind (StepKind.Jump exit.place) (sym (kind_there steps place is.0.step is.0.there) ∙ is.1) in
        ap (leaves_with steps place exit) is.0.there ∙ both_true (is_this (jump_of is.0.step.kind) exit.place) (nat_le is.0.step.captured exit.locals || closes_before steps place exit.locals) (ap (λ k. is_this (jump_of k) exit.place) kind ∙ same_is exit.place) out

    pub break_found : (exit : Exit) (before : Around) → at.exit ≡ Some exit → piece.to ≤ exit.place → BreakLies steps before (Some exit) piece.from piece.to → PlanStands steps at piece (end_plan End.Break (is_enclosed at piece))
    break_found exit before is behind (inl (straight, jump, next)) =
        let kind = same_Some jump.0.step.kind (StepKind.Jump exit.place) (sym (kind_there steps piece.from jump.0.step jump.0.there) ∙ jump.1) in
        let held = jump.0.captured in
        let low : nat_le jump.0.step.captured exit.locals ≡ true = le_is jump.0.step.captured exit.locals (omega (arith, held, straight)) in
        straight_is jump.0.step (StepKind.Jump exit.place) jump.0.there kind (second_false (is_single piece) false refl)
        (last_none piece.from piece.to (λ last below back. let same : last ≡ piece.from = (let least = (back_is steps piece.from last back).0 in omega (arith, below, next, least)) in
        jump_ahead piece.from last exit.place (subst (λ n. Jumps steps n exit.place) (sym same) jump.1) (omega (arith, below, behind)) back))
        ∙ if_true (leaves_straight_to steps piece jump.0.step at.exit) _ _
        (ap (leaves_straight_to steps piece jump.0.step) is
        ∙ both_true (is_single piece) _ (single_is piece next) (both_true (leaves steps piece.from exit) _ (leaves_is exit before piece.from jump (ap (λ b. b || closes_before steps piece.from exit.locals) low)) low))
    break_found exit before is behind (inr (closed, close, jump, next)) =
        let kind = same_Some close.0.step.kind (StepKind.Close exit.locals (before.declared exit.locals)) (sym (kind_there steps piece.from close.0.step close.0.there) ∙ close.1) in
        let held = close.0.captured in
        let ahead : suc piece.from ≡ piece.from + 1 = omega arith in
        let two : (piece.to == piece.from + 2) ≡ true = (let same : piece.to ≡ piece.from + 2 = omega (arith, next) in ap (λ n. n == piece.from + 2) same ∙ same_is (piece.from + 2)) in
        straight_is close.0.step (StepKind.Close exit.locals (before.declared exit.locals)) close.0.there kind (second_false (is_single piece) false refl)
        (last_none piece.from piece.to (λ last below back. not_back last below back ((back_is steps piece.from last back).0)))
        ∙ ap Choice.Settled (if_true (leaves_closing_to steps piece close.0.step exit.locals at.exit) _ _
        (ap (leaves_closing_to steps piece close.0.step exit.locals) is
        ∙ both_true (piece.to == piece.from + 2) _ two
        (both_true (exit.locals == exit.locals) _ (same_is exit.locals)
        (both_true (nat_lt exit.locals close.0.step.captured) _ (lt_is exit.locals close.0.step.captured (omega (arith, held, closed)))
        (subst (λ n. leaves steps n exit ≡ true) ahead (leaves_is exit before (suc piece.from) jump (closing (nat_le jump.0.step.captured exit.locals))))))))
      where
        closing : (b : Bool) → (b || closes_before steps (suc piece.from) exit.locals) ≡ true
        closing true = refl
        closing false = ap (closes_from exit.locals) close.1 ∙ same_is exit.locals

        not_back : (last : ℕ) → last < piece.to → goes_back steps piece.from last ≡ true → piece.from ≤ last → ⊥
        not_back last below back least = at_last (order piece.from last)
          where
            at_last : (piece.from < last) ⊎ (last ≤ piece.from) → ⊥
            at_last (inl past) = let same : last ≡ suc piece.from = omega (arith, below, next, past) in jump_ahead piece.from last exit.place (subst (λ n. Jumps steps n exit.place) (sym same) jump.1) (omega (arith, below, behind)) back
            at_last (inr here) = let same : last ≡ piece.from = omega (arith, here, least) in no_jump_back piece.from last (StepKind.Close exit.locals (before.declared exit.locals)) (subst (λ n. kind_at steps n ≡ Some (StepKind.Close exit.locals (before.declared exit.locals))) (sym same) close.1) refl back
