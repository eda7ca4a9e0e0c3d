-- Statements around a block, loops, and what a piece may be: what is found of them stands, and where none is found none stands.
use Rattle.std.proofs.Common.{◌≡◌, ◌∙◌, ◌≤◌, ◌<◌, ◌+◌, ◌-◌, ◌^◌, ◌⊎◌, inl, inr, refl, sym, ap, subst, ℕ, zero, suc, max, Bool, true, false, List, [], ◌∷◌, slice_get, Option, None, Some, arith}
use Rattle.std.specs.Prelude.{◌&&◌, if◌then◌else◌, option_map, option_and_then}
use Rattle.std.proofs.lemmas.Option.{none-some, same_Some}
use Rattle.core_expr.specs.Counting.{one_more}
use Rattle.recover_expr.specs.declared.steps.Step.{Step}
use Rattle.recover_expr.specs.declared.steps.StepKind.{StepKind}
use Rattle.recover_flow.specs.Asked.{is_single, last_back, length_at}
use Rattle.recover_flow.specs.Conditions.{ConditionTree, condition_of}
use Rattle.recover_flow.specs.Forms.{choice_at, choice_of_kind, choice_of_step, counted_form, counted_of_kind, do_form, ending, for_around, is_own, leaves_closing, leaves_straight, loop_or_straight, may_stand, once_form, once_of_step, own_statement, plan_around, returning, scope_end, scope_form, scope_of_step, straight_choice, is_enclosed}
use Rattle.recover_flow.specs.Held.{Store, BodyHeld, ConditionHeld, PlanHeld}
use Rattle.recover_flow.specs.Loops.{closed_kind, closed_loop_at, ends_back, loop_at, loop_lengths, loop_parts, loop_shape, open_loop_at, while_loop_at}
use Rattle.recover_flow.specs.Plans.{Plans, PlanTree, step_plan, end_plan, do_plan, for_plan, while_plan, repeat_plan, if_plan, around_block, body_levels, ending_levels, end_levels, head_levels, levels_at, plan_levels, step_levels, until_levels}
use Rattle.recover_flow.specs.Searching.{BlockFound, FormAnswer, FormFound, IfAnswer, IfFound, LoopAnswer, LoopForm, LoopFormAnswer, LoopFound, NoBlock, NoIf, NoLoop, NoPlan, PlanAnswer, PlanFound}
use Rattle.recover_flow.specs.Standing.{BlockStands, HasParts, IsSettled, PlanStands, BranchesStand, branches_used, piece_branches}
use Rattle.recover_flow.specs.declared.forms.Choice.{Choice}
use Rattle.recover_flow.specs.declared.forms.Form.{Form}
use Rattle.recover_flow.specs.declared.forms.Shape.{Shape}
use Rattle.recover_flow.specs.declared.loops.LoopAt.{LoopAt}
use Rattle.recover_flow.specs.declared.loops.LoopKind.{LoopKind}
use Rattle.recover_flow.specs.declared.loops.LoopParts.{LoopParts}
use Rattle.recover_flow.specs.declared.plan.End.{End}
use Rattle.recover_flow.specs.declared.plan.Found.{Found}
use Rattle.recover_flow.specs.declared.plan.Plan.{Plan}
use Rattle.recover_flow.specs.declared.plan.Planned.{Planned}
use Rattle.recover_flow.specs.declared.regions.BodyAt.{BodyAt}
use Rattle.recover_flow.specs.declared.regions.Exit.{Exit}
use Rattle.recover_flow.specs.declared.regions.Piece.{Piece}

-- ---- options

-- what a choice gave, it gave where its test holds
pub if_some : {X : Type 0} (test : Bool) (one found : X) → ◌≡◌ {A = Option X} (if test then Some one else None) (Some found) → one ≡ found
if_some true one found is = same_Some one found is
if_some false one found is = absurd (none-some found is)

pub record Came {X Y : Type 0} (from : Option X) (by : X → Option Y) (found : Y) : Type 0 where
  pub first : X
  pub is : from ≡ Some first
  pub gives : by first ≡ Some found

pub came_from : {X Y : Type 0} (by : X → Option Y) (from : Option X) (found : Y) → option_and_then by from ≡ Some found → Came from by found
came_from by None found is = absurd (none-some found is)
came_from by (Some first) found is = record { first = first; is = refl; gives = is }

pub mapped_from : {X Y : Type 0} (by : X → Y) (from : Option X) (found : Y) → option_map by from ≡ Some found → (first : X) × (from ≡ Some first) × (by first ≡ found)
mapped_from by None found is = absurd (none-some found is)
mapped_from by (Some first) found is = (first, refl, same_Some (by first) found is)

-- ---- forms and their levels

-- a `do` begins with its step
pub scope_is : (steps : List Step) (exit : Option Exit) (piece : Piece) (form : Form) → scope_form steps exit piece ≡ Some form → (form.shape ≡ Shape.Do piece.from) × (form.levels ≡ head_levels (one_more (step_levels steps piece.from)))
scope_is steps exit piece form is =
    let step = came_from (scope_of_step steps exit piece) (slice_get steps piece.from) form is in
    let end = mapped_from (do_form exit piece step.first) (scope_end steps piece step.first) form step.gives in
    (ap (λ (f : Form). f.shape) (sym end.2), ap (λ (f : Form). f.levels) (sym end.2) ∙ ap (λ one. head_levels (one_more (levels_at one))) (sym step.is))

-- a `for` likewise
counted_is_kind : (steps : List Step) (piece : Piece) (step : Step) (kind : StepKind) (form : Form) → counted_of_kind steps piece step kind ≡ Some form → (numeric : Bool) × (end : ℕ) × (for_around steps piece step numeric end ≡ form)
counted_is_kind steps piece step (StepKind.Head numeric foot end variables_end captured) form is = (numeric, variables_end, if_some _ (for_around steps piece step numeric variables_end) form is)
counted_is_kind steps piece step StepKind.Act form is = absurd (none-some form is)
counted_is_kind steps piece step StepKind.Return form is = absurd (none-some form is)
counted_is_kind steps piece step (StepKind.Declaration end captured) form is = absurd (none-some form is)
counted_is_kind steps piece step (StepKind.Test when target negated) form is = absurd (none-some form is)
counted_is_kind steps piece step (StepKind.Jump target) form is = absurd (none-some form is)
counted_is_kind steps piece step (StepKind.Close from declared) form is = absurd (none-some form is)
counted_is_kind steps piece step (StepKind.Foot numeric target) form is = absurd (none-some form is)

pub counted_is : (steps : List Step) (piece : Piece) (form : Form) → counted_form steps piece ≡ Some form → (numeric : Bool) × (form.shape ≡ Shape.For piece.from numeric) × (form.levels ≡ head_levels (step_levels steps piece.from))
counted_is steps piece form is =
    let step = came_from _ (slice_get steps piece.from) form is in
    let found = counted_is_kind steps piece step.first step.first.kind form step.gives in
    (found.0, ap (λ (f : Form). f.shape) (sym found.2), ap (λ (f : Form). f.levels) (sym found.2) ∙ ap (λ one. head_levels (levels_at one)) (sym step.is))

pub once_is : (steps : List Step) (exit : Option Exit) (piece : Piece) (form : Form) → once_form steps exit piece ≡ Some form → (form.shape ≡ Shape.Repeat None) × (form.levels ≡ 2)
once_is steps exit piece form is =
    let step = came_from (once_of_step steps exit piece) (slice_get steps piece.from) form is in
    let form_is = if_some _ _ form step.gives in
    (ap (λ (f : Form). f.shape) (sym form_is), ap (λ (f : Form). f.levels) (sym form_is))

-- ---- a statement around a block

pub no_block_in_form : (steps : List Step) (form : Form) (levels : ℕ) → 0 < levels → NoBlock steps form.inner (levels - 1) → (body : Plans) → BlockStands steps form.inner body → levels < around_block form.levels (body_levels steps body)
no_block_in_form steps form levels some none body stands = omega (arith, some, none body stands)

pub form_too_high : (steps : List Step) (form : Form) (levels : ℕ) → (levels ≡ 0) ⊎ (levels < form.levels) → (body : Plans) → BlockStands steps form.inner body → levels < around_block form.levels (body_levels steps body)
form_too_high steps form levels (inl none) body stands = omega (arith, none)
form_too_high steps form levels (inr over) body stands = omega (arith, over)

pub form_found : (steps : List Step) (store : Store) (form : Form) (levels : ℕ) (found : Found) (planned : Planned) → 0 < levels → levels < 2 ^ 32 → form.levels ≤ levels → found.levels ≤ levels - 1 → BlockFound steps store form.inner found
    → planned.plan ≡ plan_around form.shape found.number → planned.levels ≡ max form.levels (one_more found.levels) → FormAnswer (Some form) levels (Some planned) steps store
form_found steps store form levels found planned some few fits within is plan needed = (
  omega (arith, some, few, fits, within, needed),
  record { body = is.body; number = found.number; stands = is.stands; held = is.held; plan = plan; levels = omega (arith, some, few, within, needed, is.levels) },
)

-- ---- choices apart

abbrev pub rank : Choice → ℕ
rank (Choice.Settled planned) = 0
rank (Choice.Loop last) = 1
rank Choice.For = 2
rank Choice.Locals = 3
rank Choice.Jumps = 4

pub apart : (first second : Choice) → (rank first ≡ rank second → ⊥) → {choice : Choice} → choice ≡ first → choice ≡ second → ⊥
apart first second differ is other = differ (sym (ap rank is) ∙ ap rank other)

abbrev settled_in : Choice → Option Planned
settled_in (Choice.Settled planned) = planned
settled_in choice = None

abbrev pub last_in : Choice → ℕ
last_in (Choice.Loop last) = last
last_in choice = 0

-- ---- a statement by itself

-- a statement of one step, or one that ends a block
pub data IsAlone (steps : List Step) (planned : Planned) : Type 0 where
  alone_step : (step : ℕ) → planned ≡ record { plan = Plan.Step step; levels = plan_levels steps (step_plan step) } → IsAlone steps planned
  alone_end : (end : End) (enclosed : Bool) → planned ≡ record { plan = Plan.End end enclosed; levels = plan_levels steps (end_plan end enclosed) } → IsAlone steps planned

own_alone : (steps : List Step) (at : BodyAt) (step : Step) (place : ℕ) (planned : Planned) → slice_get steps place ≡ Some step → own_statement at step place ≡ Some planned → IsAlone steps planned
own_alone steps at step place planned there is =
    alone_step place (sym (if_some (may_stand at step.kind) _ planned is) ∙ ap (λ one. record { plan = Plan.Step place; levels = levels_at one }) (sym there))

returning_alone : (steps : List Step) (at : BodyAt) (piece : Piece) (step : Step) (planned : Planned) → slice_get steps piece.from ≡ Some step → returning at piece step ≡ Some planned → IsAlone steps planned
returning_alone steps at piece step planned there is =
    alone_end (End.Return piece.from) (is_enclosed at piece)
    (sym (if_some (is_single piece) (ending at piece (End.Return piece.from) step.levels) planned is)
    ∙ ap (λ one. record { plan = Plan.End (End.Return piece.from) (is_enclosed at piece); levels = ending_levels (is_enclosed at piece) (levels_at one) }) (sym there))

break_alone : (steps : List Step) (at : BodyAt) (piece : Piece) (planned : Planned) → ending at piece End.Break 1 ≡ planned → IsAlone steps planned
break_alone steps at piece planned is = alone_end End.Break (is_enclosed at piece) (sym is)

straight_alone : (steps : List Step) (at : BodyAt) (piece : Piece) (step : Step) (planned : Planned) → slice_get steps piece.from ≡ Some step → straight_choice steps at piece step ≡ Choice.Settled (Some planned) → IsAlone steps planned
straight_alone steps at piece step planned there is = by step.kind is
  where
    by_jump : (b : Bool) → (if b then Choice.Settled (Some (ending at piece End.Break 1)) else Choice.Jumps) ≡ Choice.Settled (Some planned) → IsAlone steps planned
    by_jump true e = break_alone steps at piece planned (same_Some _ planned (ap settled_in e))
    by_jump false e = absurd (none-some planned (ap settled_in e))

    by : (kind : StepKind) → choice_of_kind steps at piece step kind ≡ Choice.Settled (Some planned) → IsAlone steps planned
    by StepKind.Act e = absurd (none-some planned (ap settled_in e))
    by StepKind.Return e = returning_alone steps at piece step planned there (ap settled_in e)
    by (StepKind.Declaration to captured) e = absurd (none-some planned (ap settled_in e))
    by (StepKind.Test when target negated) e = absurd (none-some planned (ap settled_in e))
    by (StepKind.Jump target) e = by_jump (leaves_straight steps at piece step) e
    by (StepKind.Close from declared) e = break_alone steps at piece planned (if_some (leaves_closing steps at piece step from) (ending at piece End.Break 1) planned (ap settled_in e))
    by (StepKind.Head numeric foot to variables_end captured) e = absurd (none-some planned (ap settled_in e))
    by (StepKind.Foot numeric target) e = absurd (none-some planned (ap settled_in e))

pub settled_alone : (steps : List Step) (at : BodyAt) (piece : Piece) (planned : Planned) → choice_at steps at piece ≡ Choice.Settled (Some planned) → IsAlone steps planned
settled_alone steps at piece planned is = by_step (slice_get steps piece.from) refl is
  where
    by_last : (step : Step) → slice_get steps piece.from ≡ Some step → (last : Option ℕ) → loop_or_straight steps at piece step last ≡ Choice.Settled (Some planned) → IsAlone steps planned
    by_last step there None e = straight_alone steps at piece step planned there e
    by_last step there (Some last) e = absurd (none-some planned (ap settled_in e))

    by_own : (step : Step) → slice_get steps piece.from ≡ Some step → (b : Bool) → (if b then Choice.Settled (own_statement at step piece.from) else loop_or_straight steps at piece step (last_back steps piece.from piece.to)) ≡ Choice.Settled (Some planned) → IsAlone steps planned
    by_own step there true e = own_alone steps at step piece.from planned there (ap settled_in e)
    by_own step there false e = by_last step there (last_back steps piece.from piece.to) e

    by_step : (found : Option Step) → slice_get steps piece.from ≡ found → choice_of_step steps at piece found ≡ Choice.Settled (Some planned) → IsAlone steps planned
    by_step None there e = absurd (none-some planned (ap settled_in e))
    by_step (Some step) there e = by_own step there (is_single piece && is_own at step.kind) e

pub settled_found : (steps : List Step) (store : Store) (at : BodyAt) (piece : Piece) (planned : Planned) → choice_at steps at piece ≡ Choice.Settled (Some planned) → PlanFound steps store at piece planned
settled_found steps store at piece planned is = by (settled_alone steps at piece planned is)
  where
    by : IsAlone steps planned → PlanFound steps store at piece planned
    by (alone_step step e) = record { tree = step_plan step; stands = is ∙ ap (λ one. Choice.Settled (Some one)) e; held = ap (λ (one : Planned). one.plan) e; levels = ap (λ (one : Planned). one.levels) e }
    by (alone_end which enclosed e) = record { tree = end_plan which enclosed; stands = is ∙ ap (λ one. Choice.Settled (Some one)) e; held = ap (λ (one : Planned). one.plan) e; levels = ap (λ (one : Planned). one.levels) e }

-- where the choice is settled, each statement that stands there is this one
pub settled_none : (steps : List Step) (at : BodyAt) (piece : Piece) (levels : ℕ) (planned : Option Planned) → choice_at steps at piece ≡ Choice.Settled planned → ((one : Planned) → planned ≡ Some one → levels < one.levels) → NoPlan steps at piece levels
settled_none steps at piece levels planned is over (step_plan step) stands = over (record { plan = Plan.Step step; levels = plan_levels steps (step_plan step) }) (ap settled_in (sym is ∙ stands))
settled_none steps at piece levels planned is over (end_plan end enclosed) stands = over (record { plan = Plan.End end enclosed; levels = plan_levels steps (end_plan end enclosed) }) (ap settled_in (sym is ∙ stands))
settled_none steps at piece levels planned is over (do_plan step body) stands = absurd (apart (Choice.Settled planned) Choice.Locals (λ e. omega (arith, e)) is stands.0)
settled_none steps at piece levels planned is over (for_plan step numeric body) stands = absurd (apart (Choice.Settled planned) Choice.For (λ e. omega (arith, e)) is stands.0)
settled_none steps at piece levels planned is over (while_plan condition body) stands = absurd (apart (Choice.Settled planned) (Choice.Loop stands.0) (λ e. omega (arith, e)) is stands.3)
settled_none steps at piece levels planned is over (repeat_plan body None) (inl locals, rest) = absurd (apart (Choice.Settled planned) Choice.Locals (λ e. omega (arith, e)) is locals)
settled_none steps at piece levels planned is over (repeat_plan body None) (inr jumps, rest) = absurd (apart (Choice.Settled planned) Choice.Jumps (λ e. omega (arith, e)) is jumps)
settled_none steps at piece levels planned is over (repeat_plan body (Some condition)) stands = absurd (apart (Choice.Settled planned) (Choice.Loop stands.0) (λ e. omega (arith, e)) is stands.3)
settled_none steps at piece levels planned is over (if_plan arms) stands = absurd (apart (Choice.Settled planned) Choice.Jumps (λ e. omega (arith, e)) is stands.0)

-- ---- a `for`

pub for_found : (steps : List Step) (store : Store) (at : BodyAt) (piece : Piece) (levels : ℕ) (planned : Planned) → choice_at steps at piece ≡ Choice.For → FormAnswer (counted_form steps piece) levels (Some planned) steps store → PlanAnswer at piece levels (Some planned) steps store
for_found steps store at piece levels planned is answer = by (counted_form steps piece) refl answer
  where
    by : (form : Option Form) → counted_form steps piece ≡ form → FormAnswer form levels (Some planned) steps store → PlanAnswer at piece levels (Some planned) steps store
    by None e answer = absurd answer
    by (Some form) e (fits, found) =
        let known = counted_is steps piece form e in (
          fits,
          record {
            tree = for_plan piece.from known.0 found.body;
            stands = (is, (form, e, known.1, found.stands));
            held = (found.number, found.plan ∙ ap (λ shape. plan_around shape found.number) known.1, found.held);
            levels = found.levels ∙ ap (λ own. around_block own (body_levels steps found.body)) known.2;
          },
        )

pub for_none : (steps : List Step) (store : Store) (at : BodyAt) (piece : Piece) (levels : ℕ) → choice_at steps at piece ≡ Choice.For → FormAnswer (counted_form steps piece) levels None steps store → NoPlan steps at piece levels
for_none steps store at piece levels is none (step_plan step) stands = absurd (apart Choice.For (Choice.Settled (Some (record { plan = Plan.Step step; levels = plan_levels steps (step_plan step) }))) (λ e. omega (arith, e)) is stands)
for_none steps store at piece levels is none (end_plan end enclosed) stands = absurd (apart Choice.For (Choice.Settled (Some (record { plan = Plan.End end enclosed; levels = plan_levels steps (end_plan end enclosed) }))) (λ e. omega (arith, e)) is stands)
for_none steps store at piece levels is none (do_plan step body) stands = absurd (apart Choice.For Choice.Locals (λ e. omega (arith, e)) is stands.0)
for_none steps store at piece levels is none (for_plan step numeric body) stands =
    let known = counted_is steps piece stands.1.0 stands.1.1 in
    let here : piece.from ≡ step = ap for_step (sym known.1 ∙ stands.1.2) in
    let over = subst (λ form. FormAnswer form levels None steps store) stands.1.1 none body stands.1.3 in
    omega (arith, over, known.2, ap (step_levels steps) here)
  where
    for_step : Shape → ℕ
    for_step (Shape.For step numeric) = step
    for_step shape = 0
for_none steps store at piece levels is none (while_plan condition body) stands = absurd (apart Choice.For (Choice.Loop stands.0) (λ e. omega (arith, e)) is stands.3)
for_none steps store at piece levels is none (repeat_plan body None) (inl locals, rest) = absurd (apart Choice.For Choice.Locals (λ e. omega (arith, e)) is locals)
for_none steps store at piece levels is none (repeat_plan body None) (inr jumps, rest) = absurd (apart Choice.For Choice.Jumps (λ e. omega (arith, e)) is jumps)
for_none steps store at piece levels is none (repeat_plan body (Some condition)) stands = absurd (apart Choice.For (Choice.Loop stands.0) (λ e. omega (arith, e)) is stands.3)
for_none steps store at piece levels is none (if_plan arms) stands = absurd (apart Choice.For Choice.Jumps (λ e. omega (arith, e)) is stands.0)

-- ---- a statement that begins with locals

pub scope_found : (steps : List Step) (store : Store) (at : BodyAt) (piece : Piece) (levels : ℕ) (planned : Planned) → choice_at steps at piece ≡ Choice.Locals → FormAnswer (scope_form steps at.exit piece) levels (Some planned) steps store → PlanAnswer at piece levels (Some planned) steps store
scope_found steps store at piece levels planned is answer = by (scope_form steps at.exit piece) refl answer
  where
    by : (form : Option Form) → scope_form steps at.exit piece ≡ form → FormAnswer form levels (Some planned) steps store → PlanAnswer at piece levels (Some planned) steps store
    by None e answer = absurd answer
    by (Some form) e (fits, found) =
        let known = scope_is steps at.exit piece form e in (
          fits,
          record {
            tree = do_plan piece.from found.body;
            stands = (is, (form, e, known.0, found.stands));
            held = (found.number, found.plan ∙ ap (λ shape. plan_around shape found.number) known.0, found.held);
            levels = found.levels ∙ ap (λ own. around_block own (body_levels steps found.body)) known.1;
          },
        )

pub once_found : (steps : List Step) (store : Store) (at : BodyAt) (piece : Piece) (levels : ℕ) (planned : Planned) → (choice_at steps at piece ≡ Choice.Locals) ⊎ (choice_at steps at piece ≡ Choice.Jumps) → FormAnswer (once_form steps at.exit piece) levels (Some planned) steps store
    → PlanAnswer at piece levels (Some planned) steps store
once_found steps store at piece levels planned is answer = by (once_form steps at.exit piece) refl answer
  where
    by : (form : Option Form) → once_form steps at.exit piece ≡ form → FormAnswer form levels (Some planned) steps store → PlanAnswer at piece levels (Some planned) steps store
    by None e answer = absurd answer
    by (Some form) e (fits, found) =
        let known = once_is steps at.exit piece form e in (
          fits,
          record {
            tree = repeat_plan found.body None;
            stands = (is, (form, e, found.stands));
            held = (None, found.number, found.plan ∙ ap (λ shape. plan_around shape found.number) known.0, tt, found.held);
            levels = found.levels ∙ ap (λ own. around_block own (body_levels steps found.body)) known.1;
          },
        )

-- a loop for its breaks alone needs more levels, where its form was tried
once_over : (steps : List Step) (store : Store) (exit : Option Exit) (piece : Piece) (levels : ℕ) (body : Plans) → FormAnswer (once_form steps exit piece) levels None steps store → (form : Form) → once_form steps exit piece ≡ Some form → BlockStands steps form.inner body
    → levels < plan_levels steps (repeat_plan body None)
once_over steps store exit piece levels body none form is stands =
    let over = subst (λ one. FormAnswer one levels None steps store) is none body stands in
    omega (arith, over, (once_is steps exit piece form is).1)

pub locals_none : (steps : List Step) (store other : Store) (at : BodyAt) (piece : Piece) (levels : ℕ) → choice_at steps at piece ≡ Choice.Locals → FormAnswer (scope_form steps at.exit piece) levels None steps store → FormAnswer (once_form steps at.exit piece) levels None steps other
    → NoPlan steps at piece levels
locals_none steps store other at piece levels is none once (step_plan step) stands = absurd (apart Choice.Locals (Choice.Settled (Some (record { plan = Plan.Step step; levels = plan_levels steps (step_plan step) }))) (λ e. omega (arith, e)) is stands)
locals_none steps store other at piece levels is none once (end_plan end enclosed) stands = absurd (apart Choice.Locals (Choice.Settled (Some (record { plan = Plan.End end enclosed; levels = plan_levels steps (end_plan end enclosed) }))) (λ e. omega (arith, e)) is stands)
locals_none steps store other at piece levels is none once (do_plan step body) stands =
    let known = scope_is steps at.exit piece stands.1.0 stands.1.1 in
    let here : piece.from ≡ step = ap do_step (sym known.0 ∙ stands.1.2) in
    let over = subst (λ form. FormAnswer form levels None steps store) stands.1.1 none body stands.1.3 in
    omega (arith, over, known.1, ap (step_levels steps) here)
  where
    do_step : Shape → ℕ
    do_step (Shape.Do step) = step
    do_step shape = 0
locals_none steps store other at piece levels is none once (for_plan step numeric body) stands = absurd (apart Choice.Locals Choice.For (λ e. omega (arith, e)) is stands.0)
locals_none steps store other at piece levels is none once (while_plan condition body) stands = absurd (apart Choice.Locals (Choice.Loop stands.0) (λ e. omega (arith, e)) is stands.3)
locals_none steps store other at piece levels is none once (repeat_plan body None) stands = once_over steps other at.exit piece levels body once stands.1.0 stands.1.1 stands.1.2
locals_none steps store other at piece levels is none once (repeat_plan body (Some condition)) stands = absurd (apart Choice.Locals (Choice.Loop stands.0) (λ e. omega (arith, e)) is stands.3)
locals_none steps store other at piece levels is none once (if_plan arms) stands = absurd (apart Choice.Locals Choice.Jumps (λ e. omega (arith, e)) is stands.0)

-- ---- a statement that begins with a test or a jump

pub if_found : (steps : List Step) (store : Store) (at : BodyAt) (piece : Piece) (bare : Bool) (levels : ℕ) (planned : Planned) → choice_at steps at piece ≡ Choice.Jumps → IfAnswer (piece_branches at piece bare) levels (Some planned) steps store → PlanAnswer at piece levels (Some planned) steps store
if_found steps store at piece bare levels planned is (fits, found) = (fits, record { tree = if_plan found.arms; stands = (is, (bare, found.stand)); held = found.held; levels = found.levels })

pub jumps_none : (steps : List Step) (store : Store) (at : BodyAt) (piece : Piece) (levels : ℕ) → choice_at steps at piece ≡ Choice.Jumps → NoIf steps (piece_branches at piece false) levels → FormAnswer (once_form steps at.exit piece) levels None steps store → NoIf steps (piece_branches at piece true) levels
    → NoPlan steps at piece levels
jumps_none steps store at piece levels is tested once bare (step_plan step) stands = absurd (apart Choice.Jumps (Choice.Settled (Some (record { plan = Plan.Step step; levels = plan_levels steps (step_plan step) }))) (λ e. omega (arith, e)) is stands)
jumps_none steps store at piece levels is tested once bare (end_plan end enclosed) stands = absurd (apart Choice.Jumps (Choice.Settled (Some (record { plan = Plan.End end enclosed; levels = plan_levels steps (end_plan end enclosed) }))) (λ e. omega (arith, e)) is stands)
jumps_none steps store at piece levels is tested once bare (do_plan step body) stands = absurd (apart Choice.Jumps Choice.Locals (λ e. omega (arith, e)) is stands.0)
jumps_none steps store at piece levels is tested once bare (for_plan step numeric body) stands = absurd (apart Choice.Jumps Choice.For (λ e. omega (arith, e)) is stands.0)
jumps_none steps store at piece levels is tested once bare (while_plan condition body) stands = absurd (apart Choice.Jumps (Choice.Loop stands.0) (λ e. omega (arith, e)) is stands.3)
jumps_none steps store at piece levels is tested once bare (repeat_plan body None) stands = once_over steps store at.exit piece levels body once stands.1.0 stands.1.1 stands.1.2
jumps_none steps store at piece levels is tested once bare (repeat_plan body (Some condition)) stands = absurd (apart Choice.Jumps (Choice.Loop stands.0) (λ e. omega (arith, e)) is stands.3)
jumps_none steps store at piece levels is tested once bare (if_plan arms) stands = by stands.1.0 stands.1.1
  where
    by : (b : Bool) → BranchesStand steps (branches_used steps (piece_branches at piece b)) arms → levels < plan_levels steps (if_plan arms)
    by false stand = tested arms stand
    by true stand = bare arms stand
