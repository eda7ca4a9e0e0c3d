-- Loops, by the conditions that they may have: what is found of them stands, and where none is found none stands.
use Rattle.std.proofs.Common.{◌≡◌, ◌∙◌, ◌≤◌, ◌<◌, ◌+◌, ◌-◌, ◌⊎◌, inl, inr, refl, sym, ap, subst, ℕ, zero, suc, max, Bool, true, false, nat_le, List, slice_get, Option, None, Some, arith}
use Rattle.std.specs.Prelude.{if◌then◌else◌, option_map, option_and_then}
use Rattle.std.proofs.lemmas.Bool.Decides.{nat_tests}
use Rattle.std.proofs.lemmas.Option.{none-some, same_Some}
use Rattle.recover_expr.specs.declared.steps.Step.{Step}
use Rattle.recover_flow.specs.Asked.{length_at}
use Rattle.recover_flow.specs.Conditions.{ConditionTree, condition_of}
use Rattle.recover_flow.specs.Forms.{choice_at, plan_around}
use Rattle.recover_flow.specs.Held.{Store}
use Rattle.recover_flow.specs.Loops.{closed_kind, closed_loop_at, closed_of_step, closes_twice, ends_back, loop_at, loop_lengths, loop_parts, loop_shape, open_loop_at, while_loop_at}
use Rattle.recover_flow.specs.Plans.{Plans, PlanTree, step_plan, end_plan, do_plan, for_plan, while_plan, repeat_plan, if_plan, around_block, body_levels, plan_levels, until_levels}
use Rattle.recover_flow.specs.Searching.{FormAnswer, LoopAnswer, LoopForm, LoopFormAnswer, LoopFound, NoLoop, NoLoopForm, NoPlan, PlanAnswer}
use Rattle.recover_flow.specs.Standing.{BlockStands, HasParts, PlanStands}
use Rattle.recover_flow.specs.declared.forms.Choice.{Choice}
use Rattle.recover_flow.specs.declared.forms.Form.{Form}
use Rattle.recover_flow.specs.declared.forms.Shape.{Shape}
use Rattle.recover_flow.specs.declared.loops.LoopAt.{LoopAt}
use Rattle.recover_flow.specs.declared.loops.LoopKind.{LoopKind}
use Rattle.recover_flow.specs.declared.loops.LoopParts.{LoopParts}
use Rattle.recover_flow.specs.declared.plan.Plan.{Plan}
use Rattle.recover_flow.specs.declared.plan.Planned.{Planned}
use Rattle.recover_flow.specs.declared.regions.BodyAt.{BodyAt}
use Rattle.recover_flow.specs.declared.regions.Piece.{Piece}
use Rattle.recover_flow.specs.declared.tables.Lengths.{Lengths}
use Rattle.recover_flow.proofs.Forming.{apart, came_from, if_some, last_in, mapped_from}

-- ---- what kind of loop it is

-- what stands under a test stands where the test holds
under : {X : Type 0} (test : Bool) (one : Option X) (found : X) → ◌≡◌ {A = Option X} (if test then one else None) (Some found) → one ≡ Some found
under true one found is = is
under false one found is = absurd (none-some found is)

pub while_is : (steps : List Step) (piece : Piece) (last : ℕ) (loop : LoopAt) (test : ℕ) → while_loop_at steps piece last ≡ Some loop → loop_shape loop test ≡ Shape.While test
while_is steps piece last loop test is =
    let step = mapped_from (loop_at piece (LoopKind.While last)) (slice_get steps piece.from) loop (under (ends_back steps piece last) _ loop is) in
    ap (λ (one : LoopAt). loop_shape one test) (sym step.2)

pub open_is : (steps : List Step) (piece : Piece) (last : ℕ) (loop : LoopAt) (test : ℕ) → open_loop_at steps piece last ≡ Some loop → loop_shape loop test ≡ Shape.Repeat (Some test)
open_is steps piece last loop test is =
    let step = mapped_from (loop_at piece (LoopKind.Open last)) (slice_get steps piece.from) loop is in
    ap (λ (one : LoopAt). loop_shape one test) (sym step.2)

pub closed_is : (steps : List Step) (piece : Piece) (last : ℕ) (loop : LoopAt) (test : ℕ) → closed_loop_at steps piece last ≡ Some loop → loop_shape loop test ≡ Shape.Repeat (Some test)
closed_is steps piece last loop test is =
    let step = came_from (closed_of_step steps piece last) (slice_get steps piece.from) loop (under (ends_back steps piece last) _ loop is) in
    let kind = mapped_from (λ kind. loop_at piece kind step.first) (closed_kind steps piece step.first last) loop step.gives in
    ap (λ (one : LoopAt). loop_shape one test) (sym kind.2)
    ∙ ap (λ one. loop_shape (loop_at piece one step.first) test) (sym (if_some (closes_twice steps piece step.first last) (LoopKind.Closed (last - 3) (last - 1)) kind.0 kind.1))

-- ---- the conditions that it may have

-- each loop whose condition has the length of a turn needs more levels
abbrev pub TurnTried : List Step → Option LoopAt → (levels turn : ℕ) → Type 0
TurnTried steps None levels turn = Unit {0}
TurnTried steps (Some loop) levels turn =
    (length : ℕ) (parts : LoopParts) (condition : ConditionTree) (body : Plans) → length_at (loop_lengths steps loop) turn ≡ Some length → loop_parts steps loop length ≡ Some parts → condition_of steps parts.condition ≡ Some condition
    → BlockStands steps parts.inner body → levels < around_block (until_levels steps (Some condition)) (body_levels steps body)

-- a turn that found none
pub turn_tried : (steps : List Step) (store later : Store) (loop : LoopAt) (levels turn : ℕ) (length : Option ℕ) (form : Option Form) → length ≡ length_at (loop_lengths steps loop) turn → LoopFormAnswer loop length form steps store → FormAnswer form levels None steps later
    → TurnTried steps (Some loop) levels turn
turn_tried steps store later loop levels turn None form is answer none length parts condition body turned parted tested stands = absurd (none-some length (is ∙ turned))
turn_tried steps store later loop levels turn (Some found) None is answer none length parts condition body turned parted tested stands =
    absurd (answer condition parts (ap (loop_parts steps loop) (same_Some found length (is ∙ turned)) ∙ parted) tested)
turn_tried steps store later loop levels turn (Some found) (Some form) is answer none length parts condition body turned parted tested stands =
    let same_parts : answer.parts ≡ parts = same_Some answer.parts parts (sym answer.parted ∙ ap (loop_parts steps loop) (same_Some found length (is ∙ turned)) ∙ parted) in
    let same_condition : answer.condition ≡ condition = same_Some answer.condition condition (sym answer.is_condition ∙ ap (λ (one : LoopParts). condition_of steps one.condition) same_parts ∙ tested) in
    let inner : parts.inner ≡ form.inner = ap (λ (one : LoopParts). one.inner) (sym same_parts) ∙ ap (λ (one : Form). one.inner) (sym answer.form_is) in
    let over = none body (subst (λ block. BlockStands steps block body) inner stands) in
    omega (arith, over, ap (λ (one : Form). one.levels) answer.form_is, ap (λ one. until_levels steps (Some one)) same_condition)

-- a turn that found one
pub turn_found : (steps : List Step) (store later : Store) (loop : LoopAt) (levels turn : ℕ) (length : Option ℕ) (form : Option Form) (planned : Planned) → length ≡ length_at (loop_lengths steps loop) turn → LoopFormAnswer loop length form steps store
    → ((number : ℕ) (condition : ConditionTree) → slice_get store.conditions number ≡ Some condition → slice_get later.conditions number ≡ Some condition) → FormAnswer form levels (Some planned) steps later → LoopAnswer (Some loop) levels (Some planned) steps later
turn_found steps store later loop levels turn length None planned is answer still found = absurd found
turn_found steps store later loop levels turn None (Some form) planned is answer still found = absurd answer
turn_found steps store later loop levels turn (Some length) (Some form) planned is answer still (fits, found) =
    let shape = ap (λ (one : Form). one.shape) answer.form_is in (
      fits,
      record {
        condition = answer.condition;
        parts = answer.parts;
        body = found.body;
        test = answer.test;
        number = found.number;
        parted = record { turn = turn; length = length; turned = sym is; parted = answer.parted; tested = answer.is_condition };
        stands = subst (λ block. BlockStands steps block found.body) (ap (λ (one : Form). one.inner) answer.form_is) found.stands;
        tested = still answer.test answer.condition answer.tested;
        held = found.held;
        plan = found.plan ∙ ap (λ one. plan_around one found.number) shape;
        levels = found.levels ∙ ap (λ (one : Form). around_block one.levels (body_levels steps found.body)) answer.form_is;
      },
    )

-- a length is that of an early turn
pub turn_within : (lengths : Lengths) (turn length : ℕ) → length_at lengths turn ≡ Some length → turn < max lengths.tests lengths.jumps + 1
turn_within lengths turn length is = by (nat_le turn lengths.tests) refl (nat_le turn lengths.jumps) refl
  where
    by : (first : Bool) → nat_le turn lengths.tests ≡ first → (second : Bool) → nat_le turn lengths.jumps ≡ second → turn < max lengths.tests lengths.jumps + 1
    by true e second f = grind (arith, nat_tests)
    by false e true f = grind (arith, nat_tests)
    by false e false f = absurd (none-some length (sym (ap (λ b. if b then Some turn else None) f) ∙ sym (ap (λ b. if b then Some (lengths.tests - turn) else if nat_le turn lengths.jumps then Some turn else None) e) ∙ is))

-- where each turn was tried there is none
pub loop_none : (steps : List Step) (store : Store) (loop : LoopAt) (levels turn : ℕ) → max (loop_lengths steps loop).tests (loop_lengths steps loop).jumps < turn → ((n : ℕ) → n < turn → TurnTried steps (Some loop) levels n) → LoopAnswer (Some loop) levels None steps store
loop_none steps store loop levels turn past tried condition parts body parted stands =
    tried parted.turn (omega (arith, past, turn_within (loop_lengths steps loop) parted.turn parted.length parted.turned)) parted.length parts condition body parted.turned parted.parted parted.tested stands

-- ---- a loop as a statement

pub while_found : (steps : List Step) (store : Store) (at : BodyAt) (piece : Piece) (last levels : ℕ) (planned : Planned) → choice_at steps at piece ≡ Choice.Loop last → LoopAnswer (while_loop_at steps piece last) levels (Some planned) steps store → PlanAnswer at piece levels (Some planned) steps store
while_found steps store at piece last levels planned is answer = by (while_loop_at steps piece last) refl answer
  where
    by : (loop : Option LoopAt) → while_loop_at steps piece last ≡ loop → LoopAnswer loop levels (Some planned) steps store → PlanAnswer at piece levels (Some planned) steps store
    by None e answer = absurd answer
    by (Some loop) e (fits, found) = (
      fits,
      record {
        tree = while_plan found.condition found.body;
        stands = (last, loop, found.parts, is, e, found.parted, found.stands);
        held = (found.test, found.number, found.plan ∙ ap (λ shape. plan_around shape found.number) (while_is steps piece last loop found.test e), found.tested, found.held);
        levels = found.levels;
      },
    )

repeat_found : (steps : List Step) (store : Store) (at : BodyAt) (piece : Piece) (last levels : ℕ) (planned : Planned) (loop : LoopAt) → choice_at steps at piece ≡ Choice.Loop last → (closed_loop_at steps piece last ≡ Some loop) ⊎ (open_loop_at steps piece last ≡ Some loop)
    → ((test : ℕ) → loop_shape loop test ≡ Shape.Repeat (Some test)) → LoopAnswer (Some loop) levels (Some planned) steps store → PlanAnswer at piece levels (Some planned) steps store
repeat_found steps store at piece last levels planned loop is which shape (fits, found) = (
  fits,
  record {
    tree = repeat_plan found.body (Some found.condition);
    stands = (last, loop, found.parts, is, which, found.parted, found.stands);
    held = (Some found.test, found.number, found.plan ∙ ap (λ one. plan_around one found.number) (shape found.test), found.tested, found.held);
    levels = found.levels;
  },
)

pub closed_found : (steps : List Step) (store : Store) (at : BodyAt) (piece : Piece) (last levels : ℕ) (planned : Planned) → choice_at steps at piece ≡ Choice.Loop last → LoopAnswer (closed_loop_at steps piece last) levels (Some planned) steps store → PlanAnswer at piece levels (Some planned) steps store
closed_found steps store at piece last levels planned is answer = by (closed_loop_at steps piece last) refl answer
  where
    by : (loop : Option LoopAt) → closed_loop_at steps piece last ≡ loop → LoopAnswer loop levels (Some planned) steps store → PlanAnswer at piece levels (Some planned) steps store
    by None e answer = absurd answer
    by (Some loop) e answer = repeat_found steps store at piece last levels planned loop is (inl e) (λ test. closed_is steps piece last loop test e) answer

pub open_found : (steps : List Step) (store : Store) (at : BodyAt) (piece : Piece) (last levels : ℕ) (planned : Planned) → choice_at steps at piece ≡ Choice.Loop last → LoopAnswer (open_loop_at steps piece last) levels (Some planned) steps store → PlanAnswer at piece levels (Some planned) steps store
open_found steps store at piece last levels planned is answer = by (open_loop_at steps piece last) refl answer
  where
    by : (loop : Option LoopAt) → open_loop_at steps piece last ≡ loop → LoopAnswer loop levels (Some planned) steps store → PlanAnswer at piece levels (Some planned) steps store
    by None e answer = absurd answer
    by (Some loop) e answer = repeat_found steps store at piece last levels planned loop is (inr e) (λ test. open_is steps piece last loop test e) answer

-- a loop that was tried needs more levels
loop_over : (steps : List Step) (store : Store) (tried : Option LoopAt) (loop : LoopAt) (levels : ℕ) (condition : ConditionTree) (parts : LoopParts) (body : Plans) → tried ≡ Some loop → LoopAnswer tried levels None steps store → HasParts steps loop condition parts → BlockStands steps parts.inner body
    → levels < around_block (until_levels steps (Some condition)) (body_levels steps body)
loop_over steps store tried loop levels condition parts body is none parted stands = subst (λ one. LoopAnswer one levels None steps store) is none condition parts body parted stands

pub loops_none : (steps : List Step) (first second third : Store) (at : BodyAt) (piece : Piece) (last levels : ℕ) → choice_at steps at piece ≡ Choice.Loop last → LoopAnswer (closed_loop_at steps piece last) levels None steps first → LoopAnswer (while_loop_at steps piece last) levels None steps second
    → LoopAnswer (open_loop_at steps piece last) levels None steps third → NoPlan steps at piece levels
loops_none steps first second third at piece last levels is closed whiles other (step_plan step) stands = absurd (apart (Choice.Loop last) (Choice.Settled (Some (record { plan = Plan.Step step; levels = plan_levels steps (step_plan step) }))) (λ e. omega (arith, e)) is stands)
loops_none steps first second third at piece last levels is closed whiles other (end_plan end enclosed) stands = absurd (apart (Choice.Loop last) (Choice.Settled (Some (record { plan = Plan.End end enclosed; levels = plan_levels steps (end_plan end enclosed) }))) (λ e. omega (arith, e)) is stands)
loops_none steps first second third at piece last levels is closed whiles other (do_plan step body) stands = absurd (apart (Choice.Loop last) Choice.Locals (λ e. omega (arith, e)) is stands.0)
loops_none steps first second third at piece last levels is closed whiles other (for_plan step numeric body) stands = absurd (apart (Choice.Loop last) Choice.For (λ e. omega (arith, e)) is stands.0)
loops_none steps first second third at piece last levels is closed whiles other (while_plan condition body) stands =
    let same : last ≡ stands.0 = ap last_in (sym is ∙ stands.3) in
    loop_over steps second (while_loop_at steps piece last) stands.1 levels condition stands.2 body (ap (while_loop_at steps piece) same ∙ stands.4) whiles stands.5 stands.6
loops_none steps first second third at piece last levels is closed whiles other (repeat_plan body None) (inl locals, rest) = absurd (apart (Choice.Loop last) Choice.Locals (λ e. omega (arith, e)) is locals)
loops_none steps first second third at piece last levels is closed whiles other (repeat_plan body None) (inr jumps, rest) = absurd (apart (Choice.Loop last) Choice.Jumps (λ e. omega (arith, e)) is jumps)
loops_none steps first second third at piece last levels is closed whiles other (repeat_plan body (Some condition)) stands = by stands.4
  where
    same : last ≡ stands.0
    same = ap last_in (sym is ∙ stands.3)

    by : (closed_loop_at steps piece stands.0 ≡ Some stands.1) ⊎ (open_loop_at steps piece stands.0 ≡ Some stands.1) → levels < plan_levels steps (repeat_plan body (Some condition))
    by (inl one) = loop_over steps first (closed_loop_at steps piece last) stands.1 levels condition stands.2 body (ap (closed_loop_at steps piece) same ∙ one) closed stands.5 stands.6
    by (inr one) = loop_over steps third (open_loop_at steps piece last) stands.1 levels condition stands.2 body (ap (open_loop_at steps piece) same ∙ one) other stands.5 stands.6
loops_none steps first second third at piece last levels is closed whiles other (if_plan arms) stands = absurd (apart (Choice.Loop last) Choice.Jumps (λ e. omega (arith, e)) is stands.0)

-- no loop has a condition that is none
pub no_loop_form : (steps : List Step) (store : Store) (loop : LoopAt) (length : Option ℕ) (count : ℕ) (parts : LoopParts) → length ≡ Some count → loop_parts steps loop count ≡ Some parts → condition_of steps parts.condition ≡ None → LoopFormAnswer loop length None steps store
no_loop_form steps store loop length count parts is there none =
    subst (λ (one : Option ℕ). LoopFormAnswer loop one None steps store) (sym is)
    (λ condition other parted found.
    let same : parts ≡ other = same_Some parts other (sym there ∙ parted) in
    none-some condition (sym none ∙ ap (λ (p : LoopParts). condition_of steps p.condition) same ∙ found))
