-- What each form of a statement says of the steps where it stands: which steps they are, and where its block stands among them.
use Rattle.std.proofs.Common.{◌≡◌, ◌∙◌, ◌≤◌, ◌<◌, ◌+◌, ◌-◌, ◌⊎◌, inl, inr, refl, sym, ap, subst, ℕ, zero, suc, min, Bool, true, false, List, slice_get, Option, None, Some, arith}
use Rattle.std.specs.Prelude.{◌==◌, ◌&&◌, ◌||◌, nat_le, nat_lt, if◌then◌else◌, option_map, option_and_then}
use Rattle.std.proofs.lemmas.Bool.{and_parts, false≢true}
use Rattle.std.proofs.lemmas.Bool.Decides.{nat_tests}
use Rattle.std.proofs.lemmas.Option.{none-some, same_Some}
use Rattle.recover_expr.specs.declared.steps.Step.{Step}
use Rattle.recover_expr.specs.declared.steps.StepKind.{StepKind}
use Rattle.recover_flow.specs.Asked.{closed_before, closed_body, closes, closes_before, closes_from, ends_captured, ends_closed, is_single, is_this, jump_of, jumps_to, kind_at, last_back, leaves, leaves_with, length_at, lengths_before, number_before, block_at, run_before}
use Rattle.recover_flow.specs.Conditions.{ConditionTree, condition_of}
use Rattle.recover_flow.specs.Forms.{are_alike, choice_at, choice_of_kind, choice_of_step, counted_form, counted_of_kind, counted_of_step, do_form, ending, ends_scope, ends_variables, exit_of, for_around, is_enclosed, is_foot, is_framed, is_own, leaves_closing, leaves_closing_to, leaves_straight, leaves_straight_to, loop_or_straight, may_stand, once_form, once_of_step, once_repeat, own_statement, scope_end, scope_end_of, scope_form, scope_of_step, variables_from}
use Rattle.recover_flow.specs.Lying.{ClosesFrom, ClosesTwice, EndLies, IsOwn, Jumps, LeavesTo, StepLies, VariablesEnd, is_captured_at}
use Rattle.recover_flow.specs.Loops.{closed_kind, closed_loop_at, closed_of_step, closed_parts, closes_twice, ends_back, loop_at, open_loop_at, open_parts, while_loop_at, while_parts}
use Rattle.recover_flow.specs.Plans.{step_plan, end_plan}
use Rattle.recover_flow.specs.Standing.{HasParts, IsSettled}
use Rattle.recover_flow.specs.declared.forms.Choice.{Choice}
use Rattle.recover_flow.specs.declared.forms.Form.{Form}
use Rattle.recover_flow.specs.declared.loops.LoopAt.{LoopAt}
use Rattle.recover_flow.specs.declared.loops.LoopKind.{LoopKind}
use Rattle.recover_flow.specs.declared.loops.LoopParts.{LoopParts}
use Rattle.recover_flow.specs.declared.plan.End.{End}
use Rattle.recover_flow.specs.declared.plan.Plan.{Plan}
use Rattle.recover_flow.specs.declared.regions.BlockAt.{BlockAt}
use Rattle.recover_flow.specs.declared.regions.BodyAt.{BodyAt}
use Rattle.recover_flow.specs.declared.regions.Exit.{Exit}
use Rattle.recover_flow.specs.declared.regions.Piece.{Piece}
use Rattle.recover_flow.specs.declared.tables.Lengths.{Lengths}

-- ---- tests and options

-- what is given under a test is given where the test holds
pub passed : {X : Type 0} (test : Bool) (one found : X) → ◌≡◌ {A = Option X} (if test then Some one else None) (Some found) → (test ≡ true) × (one ≡ found)
passed true one found is = (refl, same_Some one found is)
passed false one found is = absurd (none-some found is)

pub passed_on : {X : Type 0} (test : Bool) (one : Option X) (found : X) → ◌≡◌ {A = Option X} (if test then one else None) (Some found) → (test ≡ true) × (one ≡ Some found)
passed_on true one found is = (refl, is)
passed_on false one found is = absurd (none-some found is)

pub joined_from : {X Y : Type 0} (by : X → Option Y) (from : Option X) (found : Y) → option_and_then by from ≡ Some found → (first : X) × (from ≡ Some first) × (by first ≡ Some found)
joined_from by None found is = absurd (none-some found is)
joined_from by (Some first) found is = (first, refl, is)

pub mapped_by : {X Y : Type 0} (by : X → Y) (from : Option X) (found : Y) → option_map by from ≡ Some found → (first : X) × (from ≡ Some first) × (by first ≡ found)
mapped_by by None found is = absurd (none-some found is)
mapped_by by (Some first) found is = (first, refl, same_Some (by first) found is)

pub same_numbers : (a b : ℕ) → (a == b) ≡ true → a ≡ b
same_numbers a b is = grind (arith, nat_tests)

pub below_or_same : (a b : ℕ) → nat_le a b ≡ true → a ≤ b
below_or_same a b is = grind (arith, nat_tests)

pub below : (a b : ℕ) → nat_lt a b ≡ true → a < b
below a b is = grind (arith, nat_tests)

pub this_is : (found : Option ℕ) (n : ℕ) → is_this found n ≡ true → found ≡ Some n
this_is None n is = absurd (false≢true is)
this_is (Some m) n is = ap Some (same_numbers m n is)

-- the place behind a number
pub behind_it : (to n : ℕ) → is_this (number_before to) n ≡ true → to ≡ suc n
behind_it zero n is = absurd (false≢true is)
behind_it (suc m) n is = ap suc (same_numbers m n is)

pub step_kind : (steps : List Step) (place : ℕ) (step : Step) → slice_get steps place ≡ Some step → kind_at steps place ≡ Some step.kind
step_kind steps place step there = ap (option_map (λ (one : Step). one.kind)) there

-- ---- jumps

jump_target : (kind : StepKind) (target : ℕ) → jump_of kind ≡ Some target → kind ≡ StepKind.Jump target
jump_target (StepKind.Jump to) target is = ap StepKind.Jump (same_Some to target is)
jump_target StepKind.Act target is = absurd (none-some target is)
jump_target StepKind.Return target is = absurd (none-some target is)
jump_target (StepKind.Declaration end captured) target is = absurd (none-some target is)
jump_target (StepKind.Test when to negated) target is = absurd (none-some target is)
jump_target (StepKind.Close from declared) target is = absurd (none-some target is)
jump_target (StepKind.Head numeric foot end variables_end captured) target is = absurd (none-some target is)
jump_target (StepKind.Foot numeric to) target is = absurd (none-some target is)

pub jumps_there : (steps : List Step) (place target : ℕ) → jumps_to steps place target ≡ true → Jumps steps place target
jumps_there steps place target is =
    let known = joined_from jump_of (kind_at steps place) target (this_is _ target is) in
    known.1 ∙ ap Some (jump_target known.0 target known.2)

-- ---- statements of one step

own_is : (at : BodyAt) (kind : StepKind) → is_own at kind ≡ true → IsOwn at.locals_end kind
own_is at StepKind.Act is = tt
own_is at (StepKind.Declaration end captured) is = same_numbers end at.locals_end is
own_is at StepKind.Return is = absurd (false≢true is)
own_is at (StepKind.Test when to negated) is = absurd (false≢true is)
own_is at (StepKind.Jump to) is = absurd (false≢true is)
own_is at (StepKind.Close from declared) is = absurd (false≢true is)
own_is at (StepKind.Head numeric foot end variables_end captured) is = absurd (false≢true is)
own_is at (StepKind.Foot numeric to) is = absurd (false≢true is)

-- where no local may be captured, none is
uncaptured : (at : BodyAt) (kind : StepKind) → may_stand at kind ≡ true → at.may_capture ≡ false → is_captured_at (Some kind) ≡ false
uncaptured at (StepKind.Declaration end true) may none = absurd (false≢true (sym none ∙ may))
uncaptured at (StepKind.Declaration end false) may none = refl
uncaptured at StepKind.Act may none = refl
uncaptured at StepKind.Return may none = refl
uncaptured at (StepKind.Test when to negated) may none = refl
uncaptured at (StepKind.Jump to) may none = refl
uncaptured at (StepKind.Close from declared) may none = refl
uncaptured at (StepKind.Head numeric foot end variables_end captured) may none = refl
uncaptured at (StepKind.Foot numeric to) may none = refl

-- ---- what ends a block

return_lies : (steps : List Step) (at : BodyAt) (piece : Piece) (step : Step) → kind_at steps piece.from ≡ Some StepKind.Return → is_single piece ≡ true → EndLies steps at.exit (End.Return piece.from) piece.from piece.to
return_lies steps at piece step is single = (refl, is, behind_it piece.to piece.from single)

-- a jump that leaves goes to the exit
leaves_there : (steps : List Step) (place : ℕ) (exit : Exit) → leaves steps place exit ≡ true → Jumps steps place exit.place
leaves_there steps place exit is = by (slice_get steps place) refl is
  where
    by : (found : Option Step) → slice_get steps place ≡ found → leaves_with steps place exit found ≡ true → Jumps steps place exit.place
    by None there e = absurd (false≢true e)
    by (Some step) there e =
        let known = and_parts (is_this (jump_of step.kind) exit.place) (nat_le step.captured exit.locals || closes_before steps place exit.locals) e in
        step_kind steps place step there ∙ ap Some (jump_target step.kind exit.place (this_is _ exit.place known.0))

straight_lies : (steps : List Step) (piece : Piece) (step : Step) (exit : Option Exit) → slice_get steps piece.from ≡ Some step → leaves_straight_to steps piece step exit ≡ true → LeavesTo steps exit piece.from piece.to
straight_lies steps piece step None there is = absurd (false≢true is)
straight_lies steps piece step (Some exit) there is =
    let known = and_parts (is_single piece) (leaves steps piece.from exit && nat_le step.captured exit.locals) is in
    let more = and_parts (leaves steps piece.from exit) (nat_le step.captured exit.locals) known.1 in
    (step, there, inl (below_or_same step.captured exit.locals more.1, leaves_there steps piece.from exit more.0, behind_it piece.to piece.from known.0))

closing_lies : (steps : List Step) (piece : Piece) (step : Step) (from : ℕ) (declared : Option ℕ) (exit : Option Exit) → slice_get steps piece.from ≡ Some step → step.kind ≡ StepKind.Close from declared
    → leaves_closing_to steps piece step from exit ≡ true
    → LeavesTo steps exit piece.from piece.to
closing_lies steps piece step from declared None there kind is = absurd (false≢true is)
closing_lies steps piece step from declared (Some exit) there kind is =
    let a = and_parts (piece.to == piece.from + 2) ((from == exit.locals) && (nat_lt exit.locals step.captured && leaves steps (piece.from + 1) exit)) is in
    let b = and_parts (from == exit.locals) (nat_lt exit.locals step.captured && leaves steps (piece.from + 1) exit) a.1 in
    let c = and_parts (nat_lt exit.locals step.captured) (leaves steps (piece.from + 1) exit) b.1 in
    let next : piece.from + 1 ≡ suc piece.from = omega arith in
    let last : piece.to ≡ suc (suc piece.from) = omega (arith, same_numbers piece.to (piece.from + 2) a.0) in (
      step,
      there,
      inr (
        below exit.locals step.captured c.0,
        ap (closes_from exit.locals) (step_kind steps piece.from step there ∙ ap Some kind) ∙ b.0,
        subst (λ place. Jumps steps place exit.place) next (leaves_there steps (piece.from + 1) exit c.1),
        last,
      ),
    )

-- ---- a statement by itself

abbrev chosen : Choice → Option Plan
chosen (Choice.Settled (Some planned)) = Some planned.plan
chosen choice = None

-- the plan that is chosen ends a block
record EndsBlock (steps : List Step) (at : BodyAt) (piece : Piece) (plan : Plan) : Type 0 where
  end : End
  is : plan ≡ Plan.End end (is_enclosed at piece)
  lies : EndLies steps at.exit end piece.from piece.to

-- or is its one step
record IsOneStep (steps : List Step) (at : BodyAt) (piece : Piece) (plan : Plan) : Type 0 where
  step : Step
  there : slice_get steps piece.from ≡ Some step
  single : is_single piece ≡ true
  own : is_own at step.kind ≡ true
  may : may_stand at step.kind ≡ true
  is : plan ≡ Plan.Step piece.from

straight_ends : (steps : List Step) (at : BodyAt) (piece : Piece) (step : Step) (plan : Plan) → slice_get steps piece.from ≡ Some step → (last : Option ℕ) → chosen (loop_or_straight steps at piece step last) ≡ Some plan
    → EndsBlock steps at piece plan
straight_ends steps at piece step plan there (Some last) is = absurd (none-some plan is)
straight_ends steps at piece step plan there None is = by step.kind refl is
  where
    by_return : (b : Bool) → is_single piece ≡ b → step.kind ≡ StepKind.Return → chosen (Choice.Settled (if b then Some (ending at piece (End.Return piece.from) step.levels) else None)) ≡ Some plan → EndsBlock steps at piece plan
    by_return true single kind e = record {
      end = End.Return piece.from;
      is = sym (same_Some _ plan e);
      lies = return_lies steps at piece step (step_kind steps piece.from step there ∙ ap Some kind) single;
    }
    by_return false single kind e = absurd (none-some plan e)

    by_jump : (b : Bool) → leaves_straight steps at piece step ≡ b → chosen (if b then Choice.Settled (Some (ending at piece End.Break 1)) else Choice.Jumps) ≡ Some plan → EndsBlock steps at piece plan
    by_jump true straight e = record { end = End.Break; is = sym (same_Some _ plan e); lies = straight_lies steps piece step at.exit there straight }
    by_jump false straight e = absurd (none-some plan e)

    by_close : (from : ℕ) (declared : Option ℕ) (b : Bool) → leaves_closing steps at piece step from ≡ b → step.kind ≡ StepKind.Close from declared
        → chosen (Choice.Settled (if b then Some (ending at piece End.Break 1) else None)) ≡ Some plan → EndsBlock steps at piece plan
    by_close from declared true closing kind e = record { end = End.Break; is = sym (same_Some _ plan e); lies = closing_lies steps piece step from declared at.exit there kind closing }
    by_close from declared false closing kind e = absurd (none-some plan e)

    by : (kind : StepKind) → step.kind ≡ kind → chosen (choice_of_kind steps at piece step kind) ≡ Some plan → EndsBlock steps at piece plan
    by StepKind.Act same e = absurd (none-some plan e)
    by StepKind.Return same e = by_return (is_single piece) refl same e
    by (StepKind.Declaration to captured) same e = absurd (none-some plan e)
    by (StepKind.Test when target negated) same e = absurd (none-some plan e)
    by (StepKind.Jump target) same e = by_jump (leaves_straight steps at piece step) refl e
    by (StepKind.Close from declared) same e = by_close from declared (leaves_closing steps at piece step from) refl same e
    by (StepKind.Head numeric foot to variables_end captured) same e = absurd (none-some plan e)
    by (StepKind.Foot numeric target) same e = absurd (none-some plan e)

chosen_alone : (steps : List Step) (at : BodyAt) (piece : Piece) (plan : Plan) → chosen (choice_at steps at piece) ≡ Some plan → IsOneStep steps at piece plan ⊎ EndsBlock steps at piece plan
chosen_alone steps at piece plan is = by_step (slice_get steps piece.from) refl is
  where
    by_own : (step : Step) → slice_get steps piece.from ≡ Some step → (b : Bool) → (is_single piece && is_own at step.kind) ≡ b
        → chosen (if b then Choice.Settled (own_statement at step piece.from) else loop_or_straight steps at piece step (last_back steps piece.from piece.to)) ≡ Some plan → IsOneStep steps at piece plan ⊎ EndsBlock steps at piece plan
    by_own step there false own e = inr (straight_ends steps at piece step plan there (last_back steps piece.from piece.to) e)
    by_own step there true own e = by_may (may_stand at step.kind) refl e
      where
        by_may : (b : Bool) → may_stand at step.kind ≡ b → chosen (Choice.Settled (if b then Some (record { plan = Plan.Step piece.from; levels = step.levels }) else None)) ≡ Some plan
            → IsOneStep steps at piece plan ⊎ EndsBlock steps at piece plan
        by_may true may e =
            let known = and_parts (is_single piece) (is_own at step.kind) own in
            inl (record { step = step; there = there; single = known.0; own = known.1; may = may; is = sym (same_Some _ plan e) })
        by_may false may e = absurd (none-some plan e)

    by_step : (found : Option Step) → slice_get steps piece.from ≡ found → chosen (choice_of_step steps at piece found) ≡ Some plan → IsOneStep steps at piece plan ⊎ EndsBlock steps at piece plan
    by_step None there e = absurd (none-some plan e)
    by_step (Some step) there e = by_own step there (is_single piece && is_own at step.kind) refl e

abbrev step_in : Plan → Option ℕ
step_in (Plan.Step step) = Some step
step_in plan = None

abbrev end_in : Plan → Option End
end_in (Plan.End end enclosed) = Some end
end_in plan = None

-- an act, or locals of the body's own
pub step_lies : (steps : List Step) (at : BodyAt) (piece : Piece) (step : ℕ) → IsSettled steps at piece (step_plan step) (Plan.Step step)
    → (step ≡ piece.from) × StepLies steps at.locals_end piece.from piece.to × (at.may_capture ≡ false → is_captured_at (kind_at steps piece.from) ≡ false)
step_lies steps at piece step is = by (chosen_alone steps at piece (Plan.Step step) (ap chosen is))
  where
    by : IsOneStep steps at piece (Plan.Step step) ⊎ EndsBlock steps at piece (Plan.Step step) → (step ≡ piece.from) × StepLies steps at.locals_end piece.from piece.to × (at.may_capture ≡ false → is_captured_at (kind_at steps piece.from) ≡ false)
    by (inr ends) = absurd (none-some step (sym (ap step_in ends.is)))
    by (inl one) =
        let kind = step_kind steps piece.from one.step one.there in (
          same_Some step piece.from (ap step_in one.is),
          (one.step.kind, kind, own_is at one.step.kind one.own, behind_it piece.to piece.from one.single),
          λ none. ap is_captured_at kind ∙ uncaptured at one.step.kind one.may none,
        )

-- a return or a break
pub end_lies : (steps : List Step) (at : BodyAt) (piece : Piece) (end : End) (enclosed : Bool) → IsSettled steps at piece (end_plan end enclosed) (Plan.End end enclosed) → EndLies steps at.exit end piece.from piece.to
end_lies steps at piece end enclosed is = by (chosen_alone steps at piece (Plan.End end enclosed) (ap chosen is))
  where
    by : IsOneStep steps at piece (Plan.End end enclosed) ⊎ EndsBlock steps at piece (Plan.End end enclosed) → EndLies steps at.exit end piece.from piece.to
    by (inl one) = absurd (none-some end (sym (ap end_in one.is)))
    by (inr ends) = subst (λ one. EndLies steps at.exit one piece.from piece.to) (sym (same_Some end ends.end (ap end_in ends.is))) ends.lies

-- ---- a `do`

pub record IsScope (steps : List Step) (exit : Option Exit) (piece : Piece) (form : Form) : Type 0 where
  pub first : Step
  pub end : ℕ
  pub captured : Bool
  pub there : slice_get steps piece.from ≡ Some first
  pub kind : first.kind ≡ StepKind.Declaration end captured
  pub fits : end ≤ piece.to
  pub ends : ends_scope steps piece first end ≡ true
  pub is : form ≡ do_form exit piece first end

scope_ends : (steps : List Step) (piece : Piece) (step : Step) (end : ℕ) (kind : StepKind) → scope_end_of steps piece step kind ≡ Some end
    → (captured : Bool) × (kind ≡ StepKind.Declaration end captured) × (end ≤ piece.to) × (ends_scope steps piece step end ≡ true)
scope_ends steps piece step end (StepKind.Declaration to captured) is =
    let known = passed (nat_le to piece.to && ends_scope steps piece step to) to end is in
    let both = and_parts (nat_le to piece.to) (ends_scope steps piece step to) known.0 in
    (captured, ap (λ n. StepKind.Declaration n captured) known.1, subst (λ n. n ≤ piece.to) known.1 (below_or_same to piece.to both.0), subst (λ n. ends_scope steps piece step n ≡ true) known.1 both.1)
scope_ends steps piece step end StepKind.Act is = absurd (none-some end is)
scope_ends steps piece step end StepKind.Return is = absurd (none-some end is)
scope_ends steps piece step end (StepKind.Test when to negated) is = absurd (none-some end is)
scope_ends steps piece step end (StepKind.Jump to) is = absurd (none-some end is)
scope_ends steps piece step end (StepKind.Close from declared) is = absurd (none-some end is)
scope_ends steps piece step end (StepKind.Head numeric foot to variables_end captured) is = absurd (none-some end is)
scope_ends steps piece step end (StepKind.Foot numeric to) is = absurd (none-some end is)

pub scope_is : (steps : List Step) (exit : Option Exit) (piece : Piece) (form : Form) → scope_form steps exit piece ≡ Some form → IsScope steps exit piece form
scope_is steps exit piece form is =
    let step = joined_from (scope_of_step steps exit piece) (slice_get steps piece.from) form is in
    let end = mapped_by (do_form exit piece step.0) (scope_end steps piece step.0) form step.2 in
    let known = scope_ends steps piece step.0 end.0 step.0.kind end.1 in
    record { first = step.0; end = end.0; captured = known.0; there = step.1; kind = known.1; fits = known.2; ends = known.3; is = sym end.2 }

-- ---- a loop that runs once

pub once_is : (steps : List Step) (exit : Option Exit) (piece : Piece) (form : Form) → once_form steps exit piece ≡ Some form → (first : Step) × (slice_get steps piece.from ≡ Some first) × (form ≡ once_repeat piece first)
once_is steps exit piece form is =
    let step = joined_from (once_of_step steps exit piece) (slice_get steps piece.from) form is in
    (step.0, step.1, sym (passed _ (once_repeat piece step.0) form step.2).1)

-- ---- a `for`

pub record IsCounted (steps : List Step) (piece : Piece) (form : Form) : Type 0 where
  pub first : Step
  pub numeric : Bool
  pub foot : ℕ
  pub variables_end : ℕ
  pub captured : Bool
  pub there : slice_get steps piece.from ≡ Some first
  pub kind : first.kind ≡ StepKind.Head numeric foot piece.to variables_end captured
  pub begins : piece.from < variables_end
  pub within : variables_end ≤ foot
  pub ends : piece.to ≡ suc foot
  pub foot_is : kind_at steps foot ≡ Some (StepKind.Foot numeric (suc piece.from))
  pub variables : VariablesEnd steps first captured variables_end foot
  pub is : form ≡ for_around steps piece first numeric variables_end

are_same : (other numeric : Bool) → are_alike other numeric ≡ true → other ≡ numeric
are_same true true is = refl
are_same true false is = absurd (false≢true is)
are_same false true is = absurd (false≢true is)
are_same false false is = refl

foot_there : (numeric : Bool) (target : ℕ) (kind : Option StepKind) → is_foot numeric target kind ≡ true → kind ≡ Some (StepKind.Foot numeric target)
foot_there numeric target (Some (StepKind.Foot other to)) is =
    let both = and_parts (are_alike other numeric) (to == target) is in
    ap (λ b. Some (StepKind.Foot b to)) (are_same other numeric both.0) ∙ ap (λ n. Some (StepKind.Foot numeric n)) (same_numbers to target both.1)
foot_there numeric target None is = absurd (false≢true is)
foot_there numeric target (Some StepKind.Act) is = absurd (false≢true is)
foot_there numeric target (Some StepKind.Return) is = absurd (false≢true is)
foot_there numeric target (Some (StepKind.Declaration end captured)) is = absurd (false≢true is)
foot_there numeric target (Some (StepKind.Test when to negated)) is = absurd (false≢true is)
foot_there numeric target (Some (StepKind.Jump to)) is = absurd (false≢true is)
foot_there numeric target (Some (StepKind.Close from declared)) is = absurd (false≢true is)
foot_there numeric target (Some (StepKind.Head other foot end variables_end captured)) is = absurd (false≢true is)

variables_there : (steps : List Step) (step : Step) (foot end : ℕ) (captured : Bool) → ends_variables steps step foot end captured ≡ true → VariablesEnd steps step captured end foot
variables_there steps step foot end false is = sym (same_numbers end foot is)
variables_there steps step foot end true is =
    let both = and_parts (is_this (number_before foot) end) (closes steps end (variables_from step)) is in
    (both.1, behind_it foot end both.0)

counted_of : (steps : List Step) (piece : Piece) (step : Step) (form : Form) → slice_get steps piece.from ≡ Some step → (kind : StepKind) → step.kind ≡ kind → counted_of_kind steps piece step kind ≡ Some form → IsCounted steps piece form
counted_of steps piece step form there (StepKind.Head numeric foot end variables_end captured) kind is =
    let known = passed _ (for_around steps piece step numeric variables_end) form is in
    let a = and_parts (is_framed piece foot end variables_end) (is_foot numeric (piece.from + 1) (kind_at steps foot) && ends_variables steps step foot variables_end captured) known.0 in
    let b = and_parts (is_foot numeric (piece.from + 1) (kind_at steps foot)) (ends_variables steps step foot variables_end captured) a.1 in
    let c = and_parts (nat_lt piece.from variables_end) (nat_le variables_end foot && (is_this (number_before piece.to) foot && (end == piece.to))) a.0 in
    let d = and_parts (nat_le variables_end foot) (is_this (number_before piece.to) foot && (end == piece.to)) c.1 in
    let e = and_parts (is_this (number_before piece.to) foot) (end == piece.to) d.1 in
    let next : piece.from + 1 ≡ suc piece.from = omega arith in
    record {
      first = step;
      numeric = numeric;
      foot = foot;
      variables_end = variables_end;
      captured = captured;
      there = there;
      kind = kind ∙ ap (λ n. StepKind.Head numeric foot n variables_end captured) (same_numbers end piece.to e.1);
      begins = below piece.from variables_end c.0;
      within = below_or_same variables_end foot d.0;
      ends = behind_it piece.to foot e.0;
      foot_is = foot_there numeric (piece.from + 1) (kind_at steps foot) b.0 ∙ ap (λ n. Some (StepKind.Foot numeric n)) next;
      variables = variables_there steps step foot variables_end captured b.1;
      is = sym known.1;
    }
counted_of steps piece step form there StepKind.Act kind is = absurd (none-some form is)
counted_of steps piece step form there StepKind.Return kind is = absurd (none-some form is)
counted_of steps piece step form there (StepKind.Declaration end captured) kind is = absurd (none-some form is)
counted_of steps piece step form there (StepKind.Test when to negated) kind is = absurd (none-some form is)
counted_of steps piece step form there (StepKind.Jump to) kind is = absurd (none-some form is)
counted_of steps piece step form there (StepKind.Close from declared) kind is = absurd (none-some form is)
counted_of steps piece step form there (StepKind.Foot numeric to) kind is = absurd (none-some form is)

pub counted_is : (steps : List Step) (piece : Piece) (form : Form) → counted_form steps piece ≡ Some form → IsCounted steps piece form
counted_is steps piece form is =
    let step = joined_from (counted_of_step steps piece) (slice_get steps piece.from) form is in
    counted_of steps piece step.0 form step.1 step.0.kind refl step.2

-- ---- loops

ends_with : (steps : List Step) (piece : Piece) (last : ℕ) → ends_back steps piece last ≡ true → (piece.to ≡ suc last) × Jumps steps last piece.from
ends_with steps piece last is =
    let both = and_parts (is_this (number_before piece.to) last) (jumps_to steps last piece.from) is in
    (behind_it piece.to last both.0, jumps_there steps last piece.from both.1)

-- so many steps before an end, and no more than there are
run_short : (holds : ℕ → Bool) (to most : ℕ) → run_before holds to most ≤ most
run_short holds zero zero = omega arith
run_short holds zero (suc most) = omega arith
run_short holds (suc n) zero = omega arith
run_short holds (suc n) (suc most) = by (holds n) (run_short holds n most)
  where
    by : (b : Bool) → run_before holds n most ≤ most → (if b then suc (run_before holds n most) else 0) ≤ suc most
    by true short = omega (arith, short)
    by false short = omega arith

length_short : (lengths : Lengths) (most turn length : ℕ) → lengths.tests ≤ most → lengths.jumps ≤ most → length_at lengths turn ≡ Some length → length ≤ most
length_short lengths most turn length tests jumps is = by (nat_le turn lengths.tests) is
  where
    by_jumps : (b : Bool) → nat_le turn lengths.jumps ≡ b → ◌≡◌ {A = Option ℕ} (if b then Some turn else None) (Some length) → length ≤ most
    by_jumps true few e = omega (arith, jumps, below_or_same turn lengths.jumps few, same_Some turn length e)
    by_jumps false few e = absurd (none-some length e)

    by : (b : Bool) → ◌≡◌ {A = Option ℕ} (if b then Some (lengths.tests - turn) else if nat_le turn lengths.jumps then Some turn else None) (Some length) → length ≤ most
    by true e = omega (arith, tests, same_Some (lengths.tests - turn) length e)
    by false e = by_jumps (nat_le turn lengths.jumps) refl e

-- a condition at an end begins where its steps do, or behind
short_before : (steps : List Step) (from to turn length : ℕ) → length_at (lengths_before steps from to) turn ≡ Some length → length ≤ to - from
short_before steps from to turn length is =
    let most : ℕ = min 100 (to - from) in
    let few : length ≤ most = length_short (lengths_before steps from to) most turn length (run_short _ to most) (run_short _ to most) is in
    omega (arith, few)

-- a `while`
pub record IsWhile (steps : List Step) (piece : Piece) (condition : ConditionTree) (inner : BlockAt) : Type 0 where
  pub first : Step
  pub start : ℕ
  pub last : ℕ
  pub there : slice_get steps piece.from ≡ Some first
  pub low : piece.from ≤ start
  pub high : start ≤ last
  pub tested : condition_of steps (record { from = piece.from; to = start; target = piece.to }) ≡ Some condition
  pub is : inner ≡ block_at steps start last (Some (exit_of piece first))
  pub back : Jumps steps last piece.from
  pub ends : piece.to ≡ suc last

pub while_is : (steps : List Step) (piece : Piece) (last : ℕ) (loop : LoopAt) (condition : ConditionTree) (parts : LoopParts) → while_loop_at steps piece last ≡ Some loop → HasParts steps loop condition parts
    → IsWhile steps piece condition parts.inner
while_is steps piece last loop condition parts is has =
    let known = passed_on (ends_back steps piece last) _ loop is in
    let first = mapped_by (loop_at piece (LoopKind.While last)) (slice_get steps piece.from) loop known.1 in
    let back = ends_with steps piece last known.0 in
    let these : HasParts steps (loop_at piece (LoopKind.While last) first.0) condition parts = subst (λ one. HasParts steps one condition parts) (sym first.2) has in
    let found = passed (nat_le (piece.from + these.length) last) (while_parts steps (loop_at piece (LoopKind.While last) first.0) (piece.from + these.length) last) parts these.parted in
    record {
      first = first.0;
      start = piece.from + these.length;
      last = last;
      there = first.1;
      low = omega arith;
      high = below_or_same (piece.from + these.length) last found.0;
      tested = ap (λ (one : LoopParts). condition_of steps one.condition) found.1 ∙ these.tested;
      is = ap (λ (one : LoopParts). one.inner) (sym found.1);
      back = back.1;
      ends = back.0;
    }

-- a `repeat` without captured locals
pub record IsOpen (steps : List Step) (piece : Piece) (condition : ConditionTree) (inner : BlockAt) : Type 0 where
  pub first : Step
  pub start : ℕ
  pub there : slice_get steps piece.from ≡ Some first
  pub low : piece.from ≤ start
  pub high : start ≤ piece.to
  pub tested : condition_of steps (record { from = start; to = piece.to; target = piece.from }) ≡ Some condition
  pub is : inner ≡ record { closed = None; whole = record { from = piece.from; to = start; locals_end = piece.to; may_capture = false; exit = Some (exit_of piece first) } }

pub open_is : (steps : List Step) (piece : Piece) (last : ℕ) (loop : LoopAt) (condition : ConditionTree) (parts : LoopParts) → piece.from ≤ piece.to → open_loop_at steps piece last ≡ Some loop
    → HasParts steps loop condition parts → IsOpen steps piece condition parts.inner
open_is steps piece last loop condition parts within is has =
    let first = mapped_by (loop_at piece (LoopKind.Open last)) (slice_get steps piece.from) loop is in
    let these : HasParts steps (loop_at piece (LoopKind.Open last) first.0) condition parts = subst (λ one. HasParts steps one condition parts) (sym first.2) has in
    let found = passed (nat_le these.length piece.to && nat_le (piece.to - these.length) last) (open_parts (loop_at piece (LoopKind.Open last) first.0) (piece.to - these.length)) parts these.parted in
    record {
      first = first.0;
      start = piece.to - these.length;
      there = first.1;
      low = omega (arith, within, short_before steps piece.from piece.to these.turn these.length these.turned);
      high = omega arith;
      tested = ap (λ (one : LoopParts). condition_of steps one.condition) found.1 ∙ these.tested;
      is = ap (λ (one : LoopParts). one.inner) (sym found.1);
    }

-- a `repeat` that closes its locals
pub record IsClosed (steps : List Step) (piece : Piece) (condition : ConditionTree) (inner : BlockAt) : Type 0 where
  pub first : Step
  pub start : ℕ
  pub place : ℕ
  pub there : slice_get steps piece.from ≡ Some first
  pub low : piece.from ≤ start
  pub high : start ≤ place
  pub tested : condition_of steps (record { from = start; to = place; target = place + 2 }) ≡ Some condition
  pub twice : ClosesTwice steps first piece.from place piece.to
  pub captured : ends_captured steps (place + 2) piece.from ≡ true
  pub is : inner ≡ record { closed = None; whole = record { from = piece.from; to = start; locals_end = place + 2; may_capture = true; exit = Some (exit_of piece first) } }

-- by the place behind its tests
closed_by : (steps : List Step) (piece : Piece) (first : Step) (place last tests_end close : ℕ) (condition : ConditionTree) (parts : LoopParts) → slice_get steps piece.from ≡ Some first → piece.from ≤ place
    → last ≡ place + 3 → tests_end ≡ place → close ≡ place + 2 → ends_back steps piece last ≡ true
    → (closes steps close first.base ≡ true) × (closes steps tests_end first.base ≡ true) × (jumps_to steps (place + 1) piece.to ≡ true) × (ends_captured steps close piece.from ≡ true)
    → HasParts steps (loop_at piece (LoopKind.Closed tests_end close) first) condition parts → IsClosed steps piece condition parts.inner
closed_by steps piece first place last tests_end close condition parts there low l t c ends twice has =
    let these : HasParts steps (loop_at piece (LoopKind.Closed place (place + 2)) first) condition parts =
    subst (λ n. HasParts steps (loop_at piece (LoopKind.Closed place n) first) condition parts) c (subst (λ n. HasParts steps (loop_at piece (LoopKind.Closed n close) first) condition parts) t has) in
    let back = ends_with steps piece last ends in
    let found = passed (nat_le these.length place) (closed_parts (loop_at piece (LoopKind.Closed place (place + 2)) first) (place - these.length) place (place + 2)) parts these.parted in
    let few = short_before steps piece.from place these.turn these.length these.turned in
    record {
      first = first;
      start = place - these.length;
      place = place;
      there = there;
      low = omega (arith, low, few);
      high = omega arith;
      tested = ap (λ (one : LoopParts). condition_of steps one.condition) found.1 ∙ these.tested;
      twice = (
        subst (λ n. closes steps n first.base ≡ true) t twice.1,
        jumps_there steps (place + 1) piece.to twice.2,
        subst (λ n. closes steps n first.base ≡ true) c twice.0,
        subst (λ n. Jumps steps n piece.from) l back.1,
        omega (arith, l, back.0),
      );
      captured = subst (λ n. ends_captured steps n piece.from ≡ true) c twice.3;
      is = ap (λ (one : LoopParts). one.inner) (sym found.1);
    }

pub closed_is : (steps : List Step) (piece : Piece) (last : ℕ) (loop : LoopAt) (condition : ConditionTree) (parts : LoopParts) → closed_loop_at steps piece last ≡ Some loop → HasParts steps loop condition parts
    → IsClosed steps piece condition parts.inner
closed_is steps piece last loop condition parts is has =
    let known = passed_on (ends_back steps piece last) _ loop is in
    let first = joined_from (closed_of_step steps piece last) (slice_get steps piece.from) loop known.1 in
    let kind = mapped_by (λ one. loop_at piece one first.0) (closed_kind steps piece first.0 last) loop first.2 in
    let twice = passed (closes_twice steps piece first.0 last) (LoopKind.Closed (last - 3) (last - 1)) kind.0 kind.1 in
    let these : HasParts steps (loop_at piece (LoopKind.Closed (last - 3) (last - 1)) first.0) condition parts =
    subst (λ one. HasParts steps one condition parts) (sym (ap (λ one. loop_at piece one first.0) twice.1 ∙ kind.2)) has in
    let base : ℕ = first.0.base in
    let a = and_parts (nat_le (piece.from + 3) last) (closes steps (last - 1) base && (closes steps (last - 3) base && (jumps_to steps (last - 2) piece.to && ends_captured steps (last - 1) piece.from))) twice.0 in
    let b = and_parts (closes steps (last - 1) base) (closes steps (last - 3) base && (jumps_to steps (last - 2) piece.to && ends_captured steps (last - 1) piece.from)) a.1 in
    let c = and_parts (closes steps (last - 3) base) (jumps_to steps (last - 2) piece.to && ends_captured steps (last - 1) piece.from) b.1 in
    let d = and_parts (jumps_to steps (last - 2) piece.to) (ends_captured steps (last - 1) piece.from) c.1 in
    let far : piece.from + 3 ≤ last = below_or_same (piece.from + 3) last a.0 in
    let second : last - 2 ≡ last - 3 + 1 = omega (arith, far) in
    closed_by steps piece first.0 (last - 3) last (last - 3) (last - 1) condition parts first.1 (omega (arith, far)) (omega (arith, far)) refl (omega (arith, far)) known.0
    (b.0, c.0, subst (λ n. jumps_to steps n piece.to ≡ true) second d.0, d.1) these

-- ---- a block before its CLOSE

pub record IsBeforeClose (steps : List Step) (from to : ℕ) (exit : Option Exit) (at : BodyAt) : Type 0 where
  pub end : ℕ
  pub ends : to ≡ suc end
  pub low : from ≤ end
  pub closing : ClosesFrom steps end end
  pub captured : ends_captured steps end from ≡ true
  pub is : at ≡ closed_body from end exit

pub before_close : (steps : List Step) (from to : ℕ) (exit : Option Exit) (at : BodyAt) → option_and_then (closed_before steps from exit) (number_before to) ≡ Some at → IsBeforeClose steps from to exit at
before_close steps from zero exit at is = absurd (none-some at is)
before_close steps from (suc end) exit at is =
    let known = passed (ends_closed steps from end (slice_get steps end)) (closed_body from end exit) at is in
    by (slice_get steps end) refl known.0 known.1
  where
    by : (found : Option Step) → slice_get steps end ≡ found → ends_closed steps from end found ≡ true → closed_body from end exit ≡ at → IsBeforeClose steps from (suc end) exit at
    by None there e same = absurd (false≢true e)
    by (Some step) there e same =
        let a = and_parts (nat_le from end) (closes steps end step.base && ends_captured steps end from) e in
        let b = and_parts (closes steps end step.base) (ends_captured steps end from) a.1 in
        record { end = end; ends = refl; low = below_or_same from end a.0; closing = (step, there, b.0); captured = b.1; is = sym same }
