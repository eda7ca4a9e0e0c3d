-- What the parts of the search answer, by the answers of the calls in them.
use Rattle.std.proofs.Common.{◌≡◌, ◌∙◌, ◌≤◌, ◌<◌, ◌+◌, ◌-◌, ◌^◌, ◌⊎◌, inl, inr, refl, sym, ap, subst, true≢false, ℕ, suc, max, Bool, true, false, nat_le, nat_lt, is_some, List, [], ◌∷◌, ◌++◌, get_or, length, take, slice_get, Option, None, Some, IfOk, arith}
use Rattle.std.specs.Prelude.{◌==◌, if◌then◌else◌, option_map}
use Rattle.std.specs.declared.result.Result.{Result}
use Rattle.std.proofs.lemmas.Bool.Decides.{nat_tests}
use Rattle.std.proofs.lemmas.Option.{none-some, same_Some, slice_get_within, slice_get-get_or}
use Rattle.recover_expr.specs.declared.steps.Step.{Step}
use Rattle.recover_flow.specs.Arms.{Starting, arm_starts}
use Rattle.recover_flow.specs.Asked.{begins_branches, block_at, length_at}
use Rattle.recover_flow.specs.Cutting.{pieces_of}
use Rattle.recover_flow.specs.Forms.{choice_at, counted_form, once_form, scope_form}
use Rattle.recover_flow.specs.Held.{Store, view_store}
use Rattle.recover_flow.specs.Loops.{closed_loop_at, loop_lengths, open_loop_at, while_loop_at}
use Rattle.recover_flow.specs.Plans.{and_plan, body_levels}
use Rattle.recover_flow.specs.Searching.{Answers, AreRests, ArmAnswer, BehindAnswer, BehindFound, BlockAnswer, BodyAnswer, BranchesAnswer, FormAnswer, Grows, IfAnswer, IsReady, IsStartOf, IsRight, IsStuck, Keeping, Keeps, LastAnswer, LastIfAnswer, LoopAnswer, LoopFormAnswer, NoLastIf, NoPlan, NoWay, PlanAnswer, PlanFound, RestAnswer, RestKept, SoFar, StatementsAnswer, TestAnswer, WayAnswer, fitting_plan, found_behind, rest_at, steps_of, store_of}
use Rattle.recover_flow.specs.Standing.{IsStart, IsWay, RestStands, last_branches, piece_branches, way_block, with_used}
use Rattle.recover_flow.specs.declared.branches.Way.{Way}
use Rattle.recover_flow.specs.declared.forms.Choice.{Choice}
use Rattle.recover_flow.specs.declared.forms.Form.{Form}
use Rattle.recover_flow.specs.declared.loops.LoopAt.{LoopAt}
use Rattle.recover_flow.specs.declared.memory.Memory.{Memory}
use Rattle.recover_flow.specs.declared.plan.Found.{Found}
use Rattle.recover_flow.specs.declared.plan.Planned.{Planned}
use Rattle.recover_flow.specs.declared.plan.Rest.{Rest}
use Rattle.recover_flow.specs.declared.regions.BlockAt.{BlockAt}
use Rattle.recover_flow.specs.declared.regions.BodyAt.{BodyAt}
use Rattle.recover_flow.specs.declared.regions.BranchesAt.{BranchesAt}
use Rattle.recover_flow.specs.declared.regions.Piece.{Piece}
use Rattle.recover_flow.specs.declared.search.ArmTest.{ArmTest}
use Rattle.recover_flow.specs.declared.search.Search.{Search}
use Rattle.recover_flow.proofs.Arming.{arm_found, behind_answer, last_found, no_arm_in_way, numbered_way, no_block_no_arm, no_rest_first, no_rest_further, nothing_behind_way}
use Rattle.recover_flow.proofs.Bodies.{block_none, closed_body_found, last_if_none, whole_found}
use Rattle.recover_flow.proofs.Chained.{answers_as, answers_behind, answers_same, keeps_both, ready_behind, same_steps}
use Rattle.recover_flow.proofs.Forming.{for_found, for_none, if_found, jumps_none, locals_none, once_found, scope_found, settled_found, settled_none}
use Rattle.recover_flow.proofs.Growing.{behind_found_grows, grows_both, plan_found_grows, rests_grow, sofar_grows, test_found_grows}
use Rattle.recover_flow.proofs.Looping.{TurnTried, closed_found, loop_none, loops_none, open_found, turn_found, turn_tried, while_found}
use Rattle.recover_flow.proofs.Pieces.{all_stand, body_stands, last_stands, no_body, none_stand}

-- ---- answers and options

-- where a call answers, what it says in other words
pub if_ok_as : {X E : Type 0} (result : Result X E) (says other : X → Type 0) → IfOk result says → ((found : X) → says found → other found) → IfOk result other
if_ok_as (Result.Ok found) says other is turned = turned found is
if_ok_as (Result.Err error) says other is turned = is

pub is_none : {X : Type 0} (found : Option X) → is_some found ≡ false → found ≡ None
is_none None missing = refl
is_none (Some one) missing = absurd (true≢false missing)

pub some_of : {X : Type 0} (found : Option X) → is_some found ≡ true → (one : X) × (found ≡ Some one)
some_of None given = absurd (true≢false (sym given))
some_of (Some one) given = (one, refl)

-- an answer that is none, or some
given_none : {X : Type 0} (before after : Search) (found : Option X) (answer : Option X → List Step → Store → Type 0) → found ≡ None → Answers before after (answer found) → Answers before after (answer None)
given_none before after found answer none answers = subst (λ one. Answers before after (answer one)) none answers

-- ---- blocks

pub block_answer : (before middle after : Search) (block : BlockAt) (closed : BodyAt) (levels : ℕ) (first second : Option Found) → block.closed ≡ Some closed → first ≡ None → Answers before middle (BodyAnswer (with_used (steps_of before) closed) levels first)
    → Answers middle after (BodyAnswer (with_used (steps_of middle) block.whole) levels second) → Answers before after (BlockAnswer block levels second)
block_answer before middle after block closed levels first second is none tried answers =
    answers_behind before middle after (BlockAnswer block levels second) tried.keeps (answers_as middle after _ _ answers (by second))
  where
    steps : List Step
    steps = steps_of middle

    same : steps_of middle ≡ steps_of before
    same = same_steps before middle tried.keeps

    failed : (at : BodyAt) → block.closed ≡ Some at → BodyAnswer (with_used steps at) levels None steps (store_of after)
    failed at there = subst (λ s. BodyAnswer (with_used s at) levels None s (store_of after)) (sym same)
        (subst (λ one. BodyAnswer (with_used (steps_of before) one) levels None (steps_of before) (store_of middle)) (same_Some closed at (sym is ∙ there))
        (subst (λ one. BodyAnswer (with_used (steps_of before) closed) levels one (steps_of before) (store_of middle)) none tried.gives))

    by : (second : Option Found) → BodyAnswer (with_used steps block.whole) levels second steps (store_of after) → BlockAnswer block levels second steps (store_of after)
    by None whole = block_none steps block levels failed whole
    by (Some found) whole = whole_found steps (store_of after) block levels found whole

-- ---- statements by the choice

pub settled_answer : (steps : List Step) (store : Store) (at : BodyAt) (piece : Piece) (levels : ℕ) (planned : Option Planned) → choice_at steps at piece ≡ Choice.Settled planned → PlanAnswer at piece levels (fitting_plan planned levels) steps store
settled_answer steps store at piece levels None is = settled_none steps at piece levels None is (λ one same. absurd (none-some one same))
settled_answer steps store at piece levels (Some planned) is = by (nat_le planned.levels levels) refl
  where
    by : (b : Bool) → nat_le planned.levels levels ≡ b → PlanAnswer at piece levels (if b then Some planned else None) steps store
    by true fits = (grind (arith, nat_tests), settled_found steps store at piece planned is)
    by false high = settled_none steps at piece levels (Some planned) is over
      where
        over : (one : Planned) → Some planned ≡ Some one → levels < one.levels
        over one same = subst (λ that. levels < that.levels) (same_Some planned one same) (grind (arith, nat_tests))

pub for_answer : (before after : Search) (at : BodyAt) (piece : Piece) (levels : ℕ) (form : Option Form) (planned : Option Planned) → choice_at (steps_of before) at piece ≡ Choice.For → form ≡ counted_form (steps_of before) piece → Answers before after (FormAnswer form levels planned)
    → Answers before after (PlanAnswer at piece levels planned)
for_answer before after at piece levels form None choice is answers = answers_as before after _ _ answers (λ none. for_none (steps_of before) (store_of after) at piece levels choice (subst (λ one. FormAnswer one levels None (steps_of before) (store_of after)) is none))
for_answer before after at piece levels form (Some planned) choice is answers =
    answers_as before after _ _ answers (λ found. for_found (steps_of before) (store_of after) at piece levels planned choice (subst (λ one. FormAnswer one levels (Some planned) (steps_of before) (store_of after)) is found))

pub scope_answer : (before after : Search) (at : BodyAt) (piece : Piece) (levels : ℕ) (form : Option Form) (planned : Option Planned) → choice_at (steps_of before) at piece ≡ Choice.Locals → form ≡ scope_form (steps_of before) at.exit piece → is_some planned ≡ true
    → Answers before after (FormAnswer form levels planned) → Answers before after (PlanAnswer at piece levels planned)
scope_answer before after at piece levels form None choice is given answers = absurd (true≢false (sym given))
scope_answer before after at piece levels form (Some planned) choice is given answers =
    answers_as before after _ _ answers (λ found. scope_found (steps_of before) (store_of after) at piece levels planned choice (subst (λ one. FormAnswer one levels (Some planned) (steps_of before) (store_of after)) is found))

-- a loop for its breaks, found
once_given : (before after : Search) (at : BodyAt) (piece : Piece) (levels : ℕ) (form : Option Form) (planned : Planned) → (choice_at (steps_of before) at piece ≡ Choice.Locals) ⊎ (choice_at (steps_of before) at piece ≡ Choice.Jumps) → form ≡ once_form (steps_of before) at.exit piece
    → Answers before after (FormAnswer form levels (Some planned)) → Answers before after (PlanAnswer at piece levels (Some planned))
once_given before after at piece levels form planned choice is answers =
    answers_as before after _ _ answers (λ found. once_found (steps_of before) (store_of after) at piece levels planned choice (subst (λ one. FormAnswer one levels (Some planned) (steps_of before) (store_of after)) is found))

pub locals_answer : (before middle after : Search) (at : BodyAt) (piece : Piece) (levels : ℕ) (scoped once : Option Form) (first second : Option Planned) → choice_at (steps_of before) at piece ≡ Choice.Locals → scoped ≡ scope_form (steps_of before) at.exit piece
    → once ≡ once_form (steps_of middle) at.exit piece → is_some first ≡ false → Answers before middle (FormAnswer scoped levels first) → Answers middle after (FormAnswer once levels second) → Answers before after (PlanAnswer at piece levels second)
locals_answer before middle after at piece levels scoped once first None choice is_scope is_once missing tried answers =
    answers_behind before middle after (PlanAnswer at piece levels None) tried.keeps (answers_as middle after _ _ answers
    (λ none. locals_none (steps_of middle) (store_of middle) (store_of after) at piece levels (ap (λ s. choice_at s at piece) same ∙ choice)
    (subst (λ s. FormAnswer (scope_form s at.exit piece) levels None s (store_of middle)) (sym same) scope_tried)
    (subst (λ one. FormAnswer one levels None (steps_of middle) (store_of after)) is_once none)))
  where
    same : steps_of middle ≡ steps_of before
    same = same_steps before middle tried.keeps

    scope_tried : FormAnswer (scope_form (steps_of before) at.exit piece) levels None (steps_of before) (store_of middle)
    scope_tried = subst (λ one. FormAnswer one levels None (steps_of before) (store_of middle)) is_scope (subst (λ one. FormAnswer scoped levels one (steps_of before) (store_of middle)) (is_none first missing) tried.gives)
locals_answer before middle after at piece levels scoped once first (Some planned) choice is_scope is_once missing tried answers =
    answers_behind before middle after (PlanAnswer at piece levels (Some planned)) tried.keeps
    (once_given middle after at piece levels once planned (inl (ap (λ s. choice_at s at piece) (same_steps before middle tried.keeps) ∙ choice)) is_once answers)

pub if_given : (before after : Search) (at : BodyAt) (piece : Piece) (bare : Bool) (levels : ℕ) (planned : Option Planned) → choice_at (steps_of before) at piece ≡ Choice.Jumps → is_some planned ≡ true → Answers before after (IfAnswer (piece_branches at piece bare) levels planned)
    → Answers before after (PlanAnswer at piece levels planned)
if_given before after at piece bare levels None choice given answers = absurd (true≢false (sym given))
if_given before after at piece bare levels (Some planned) choice given answers = answers_as before after _ _ answers (if_found (steps_of before) (store_of after) at piece bare levels planned choice)

pub jumps_once : (before middle after : Search) (at : BodyAt) (piece : Piece) (levels : ℕ) (form : Option Form) (planned : Option Planned) → choice_at (steps_of before) at piece ≡ Choice.Jumps → Keeps before middle → form ≡ once_form (steps_of middle) at.exit piece → is_some planned ≡ true
    → Answers middle after (FormAnswer form levels planned) → Answers before after (PlanAnswer at piece levels planned)
jumps_once before middle after at piece levels form None choice keeps is given answers = absurd (true≢false (sym given))
jumps_once before middle after at piece levels form (Some planned) choice keeps is given answers =
    answers_behind before middle after (PlanAnswer at piece levels (Some planned)) keeps (once_given middle after at piece levels form planned (inr (ap (λ s. choice_at s at piece) (same_steps before middle keeps) ∙ choice)) is answers)

pub jumps_answer : (before first second after : Search) (at : BodyAt) (piece : Piece) (levels : ℕ) (form : Option Form) (tested once bare : Option Planned) → choice_at (steps_of before) at piece ≡ Choice.Jumps → is_some tested ≡ false → Answers before first (IfAnswer (piece_branches at piece false) levels tested)
    → form ≡ once_form (steps_of first) at.exit piece → is_some once ≡ false → Answers first second (FormAnswer form levels once) → Answers second after (IfAnswer (piece_branches at piece true) levels bare) → Answers before after (PlanAnswer at piece levels bare)
jumps_answer before first second after at piece levels form tested once None choice no_tested tried is no_once tried_once answers =
    answers_behind before second after (PlanAnswer at piece levels None) keeps (answers_as second after _ _ answers
    (λ none. jumps_none steps (store_of second) at piece levels (ap (λ s. choice_at s at piece) same ∙ choice)
    (subst (λ s. IfAnswer (piece_branches at piece false) levels None s (store_of first)) (sym same) (subst (λ one. IfAnswer (piece_branches at piece false) levels one (steps_of before) (store_of first)) (is_none tested no_tested) tried.gives))
    (subst (λ s. FormAnswer (once_form s at.exit piece) levels None s (store_of second)) (sym (same_steps first second tried_once.keeps))
    (subst (λ one. FormAnswer one levels None (steps_of first) (store_of second)) is (subst (λ one. FormAnswer form levels one (steps_of first) (store_of second)) (is_none once no_once) tried_once.gives)))
    none))
  where
    steps : List Step
    steps = steps_of second

    keeps : Keeps before second
    keeps = keeps_both before first second tried.keeps tried_once.keeps

    same : steps_of second ≡ steps_of before
    same = same_steps before second keeps
jumps_answer before first second after at piece levels form tested once (Some planned) choice no_tested tried is no_once tried_once answers =
    let keeps = keeps_both before first second tried.keeps tried_once.keeps in
    answers_behind before second after (PlanAnswer at piece levels (Some planned)) keeps (if_given second after at piece true levels (Some planned) (ap (λ s. choice_at s at piece) (same_steps before second keeps) ∙ choice) refl answers)

-- ---- loops

pub closed_given : (before after : Search) (at : BodyAt) (piece : Piece) (last levels : ℕ) (loop : Option LoopAt) (planned : Option Planned) → choice_at (steps_of before) at piece ≡ Choice.Loop last → loop ≡ closed_loop_at (steps_of before) piece last → is_some planned ≡ true
    → Answers before after (LoopAnswer loop levels planned) → Answers before after (PlanAnswer at piece levels planned)
closed_given before after at piece last levels loop None choice is given answers = absurd (true≢false (sym given))
closed_given before after at piece last levels loop (Some planned) choice is given answers =
    answers_as before after _ _ answers (λ found. closed_found (steps_of before) (store_of after) at piece last levels planned choice (subst (λ one. LoopAnswer one levels (Some planned) (steps_of before) (store_of after)) is found))

pub while_given : (before middle after : Search) (at : BodyAt) (piece : Piece) (last levels : ℕ) (loop : Option LoopAt) (planned : Option Planned) → choice_at (steps_of before) at piece ≡ Choice.Loop last → Keeps before middle → loop ≡ while_loop_at (steps_of middle) piece last
    → is_some planned ≡ true → Answers middle after (LoopAnswer loop levels planned) → Answers before after (PlanAnswer at piece levels planned)
while_given before middle after at piece last levels loop None choice keeps is given answers = absurd (true≢false (sym given))
while_given before middle after at piece last levels loop (Some planned) choice keeps is given answers =
    answers_behind before middle after (PlanAnswer at piece levels (Some planned)) keeps (answers_as middle after _ _ answers
    (λ found. while_found (steps_of middle) (store_of after) at piece last levels planned (ap (λ s. choice_at s at piece) (same_steps before middle keeps) ∙ choice) (subst (λ one. LoopAnswer one levels (Some planned) (steps_of middle) (store_of after)) is found)))

pub loops_answer : (before first second after : Search) (at : BodyAt) (piece : Piece) (last levels : ℕ) (closed whiles other : Option LoopAt) (one two three : Option Planned) → choice_at (steps_of before) at piece ≡ Choice.Loop last
    → closed ≡ closed_loop_at (steps_of before) piece last → is_some one ≡ false → Answers before first (LoopAnswer closed levels one)
    → whiles ≡ while_loop_at (steps_of first) piece last → is_some two ≡ false → Answers first second (LoopAnswer whiles levels two)
    → other ≡ open_loop_at (steps_of second) piece last → Answers second after (LoopAnswer other levels three) → Answers before after (PlanAnswer at piece levels three)
loops_answer before first second after at piece last levels closed whiles other one two three choice is_closed no_closed tried_closed is_while no_while tried_while is_open answers =
    answers_behind before second after (PlanAnswer at piece levels three) keeps (answers_as second after _ _ answers (by three))
  where
    keeps : Keeps before second
    keeps = keeps_both before first second tried_closed.keeps tried_while.keeps

    steps : List Step
    steps = steps_of second

    same : steps_of second ≡ steps_of before
    same = same_steps before second keeps

    here : choice_at steps at piece ≡ Choice.Loop last
    here = ap (λ s. choice_at s at piece) same ∙ choice

    no_first : LoopAnswer (closed_loop_at steps piece last) levels None steps (store_of first)
    no_first = subst (λ s. LoopAnswer (closed_loop_at s piece last) levels None s (store_of first)) (sym same)
        (subst (λ loop. LoopAnswer loop levels None (steps_of before) (store_of first)) is_closed (subst (λ found. LoopAnswer closed levels found (steps_of before) (store_of first)) (is_none one no_closed) tried_closed.gives))

    no_second : LoopAnswer (while_loop_at steps piece last) levels None steps (store_of second)
    no_second = subst (λ s. LoopAnswer (while_loop_at s piece last) levels None s (store_of second)) (sym (same_steps first second tried_while.keeps))
        (subst (λ loop. LoopAnswer loop levels None (steps_of first) (store_of second)) is_while (subst (λ found. LoopAnswer whiles levels found (steps_of first) (store_of second)) (is_none two no_while) tried_while.gives))

    by : (three : Option Planned) → LoopAnswer other levels three steps (store_of after) → PlanAnswer at piece levels three steps (store_of after)
    by None none = loops_none steps (store_of first) (store_of second) (store_of after) at piece last levels here no_first no_second (subst (λ loop. LoopAnswer loop levels None steps (store_of after)) is_open none)
    by (Some planned) found = open_found steps (store_of after) at piece last levels planned here (subst (λ loop. LoopAnswer loop levels (Some planned) steps (store_of after)) is_open found)

-- a turn of a loop's conditions: the form, and the statement around its block
pub turn_answer : (before first after : Search) (loop : LoopAt) (levels turn : ℕ) (long : Option ℕ) (form : Option Form) (planned : Option Planned) → long ≡ length_at (loop_lengths (steps_of before) loop) turn → is_some planned ≡ true
    → Answers before first (LoopFormAnswer loop long form) → Answers first after (FormAnswer form levels planned) → Answers before after (LoopAnswer (Some loop) levels planned)
turn_answer before first after loop levels turn long form None is given formed answers = absurd (true≢false (sym given))
turn_answer before first after loop levels turn long form (Some planned) is given formed answers =
    answers_behind before first after (LoopAnswer (Some loop) levels (Some planned)) formed.keeps (answers_as first after _ _ answers
    (λ found. turn_found (steps_of first) (store_of first) (store_of after) loop levels turn long form planned (is ∙ ap (λ s. length_at (loop_lengths s loop) turn) (sym same))
    (subst (λ s. LoopFormAnswer loop long form s (store_of first)) (sym same) formed.gives) answers.keeps.grows.conditions found))
  where
    same : steps_of first ≡ steps_of before
    same = same_steps before first formed.keeps

pub turn_in_vain : (before first after : Search) (loop : LoopAt) (levels turn : ℕ) (long : Option ℕ) (form : Option Form) (planned : Option Planned) → long ≡ length_at (loop_lengths (steps_of before) loop) turn → is_some planned ≡ false
    → Answers before first (LoopFormAnswer loop long form) → Answers first after (FormAnswer form levels planned) → TurnTried (steps_of before) (Some loop) levels turn
turn_in_vain before first after loop levels turn long form planned is missing formed answers =
    let same = same_steps before first formed.keeps in
    turn_tried (steps_of before) (store_of first) (store_of after) loop levels turn long form is formed.gives
    (subst (λ s. FormAnswer form levels None s (store_of after)) same (subst (λ one. FormAnswer form levels one (steps_of first) (store_of after)) (is_none planned missing) answers.gives))

-- in the middle of the loop
pub turn_behind : (before now first after : Search) (loop : LoopAt) (levels turn : ℕ) (long : Option ℕ) (form : Option Form) (planned : Option Planned) → Keeps before now → long ≡ length_at (loop_lengths (steps_of before) loop) turn → is_some planned ≡ true
    → Answers now first (LoopFormAnswer loop long form) → Answers first after (FormAnswer form levels planned) → Answers before after (LoopAnswer (Some loop) levels planned)
turn_behind before now first after loop levels turn long form planned keeps is given formed answers =
    answers_behind before now after (LoopAnswer (Some loop) levels planned) keeps (turn_answer now first after loop levels turn long form planned (is ∙ ap (λ s. length_at (loop_lengths s loop) turn) (sym (same_steps before now keeps))) given formed answers)

-- one turn more was tried
pub turns_tried : (before now first after : Search) (loop : LoopAt) (levels turn : ℕ) (long : Option ℕ) (form : Option Form) (planned : Option Planned) → Keeps before now → long ≡ length_at (loop_lengths (steps_of before) loop) turn → is_some planned ≡ false
    → Answers now first (LoopFormAnswer loop long form) → Answers first after (FormAnswer form levels planned) → ((n : ℕ) → n < turn → TurnTried (steps_of before) (Some loop) levels n) → (n : ℕ) → n < turn + 1 → TurnTried (steps_of before) (Some loop) levels n
turns_tried before now first after loop levels turn long form planned keeps is missing formed answers tried n below = by (nat_lt n turn) refl
  where
    same : steps_of now ≡ steps_of before
    same = same_steps before now keeps

    here : TurnTried (steps_of before) (Some loop) levels turn
    here = subst (λ s. TurnTried s (Some loop) levels turn) same (turn_in_vain now first after loop levels turn long form planned (is ∙ ap (λ s. length_at (loop_lengths s loop) turn) (sym same)) missing formed answers)

    by : (b : Bool) → nat_lt n turn ≡ b → TurnTried (steps_of before) (Some loop) levels n
    by true earlier = tried n (grind (arith, nat_tests))
    by false last = subst (λ m. TurnTried (steps_of before) (Some loop) levels m) is_last here
      where
        is_last : turn ≡ n
        is_last = grind (arith, nat_tests)

-- all turns were tried
pub loop_in_vain : (before now first after : Search) (loop : LoopAt) (levels turn : ℕ) (long : Option ℕ) (form : Option Form) (planned : Option Planned) → Keeps before now → long ≡ length_at (loop_lengths (steps_of before) loop) turn → is_some planned ≡ false
    → Answers now first (LoopFormAnswer loop long form) → Answers first after (FormAnswer form levels planned) → ((n : ℕ) → n < turn → TurnTried (steps_of before) (Some loop) levels n)
    → max (loop_lengths (steps_of before) loop).tests (loop_lengths (steps_of before) loop).jumps ≤ turn → Answers before after (LoopAnswer (Some loop) levels planned)
loop_in_vain before now first after loop levels turn long form planned keeps is missing formed answers tried past =
    record {
      keeps = keeps_both before now after keeps (keeps_both now first after formed.keeps answers.keeps);
      gives = subst (λ one. LoopAnswer (Some loop) levels one (steps_of before) (store_of after)) (sym (is_none planned missing))
          (loop_none (steps_of before) (store_of after) loop levels (turn + 1) (omega (arith, past)) (turns_tried before now first after loop levels turn long form planned keeps is missing formed answers tried));
    }

-- ---- the statements of a body

pub stuck_first : (steps : List Step) (store : Store) (at : BodyAt) (levels : ℕ) (pieces : List Piece) (statements : List Planned) (piece : Piece) → slice_get pieces (length statements) ≡ Some piece → NoPlan steps at piece levels → SoFar steps store at levels pieces statements
    → IsStuck steps store at levels pieces statements
stuck_first steps store at levels pieces statements piece next none sofar = record { piece = piece; next = next; none = none; sofar = sofar }

-- one statement more
pub sofar_more : (steps : List Step) (store : Store) (at : BodyAt) (levels : ℕ) (pieces : List Piece) (statements : List Planned) (piece : Piece) (planned : Planned) → slice_get pieces (length statements) ≡ Some piece → PlanAnswer at piece levels (Some planned) steps store
    → SoFar steps store at levels pieces statements → SoFar steps store at levels pieces (statements ++ planned ∷ [])
sofar_more steps store at levels [] [] piece planned next answer sofar = absurd (none-some piece next)
sofar_more steps store at levels [] (first ∷ statements) piece planned next answer sofar = absurd sofar
sofar_more steps store at levels (one ∷ pieces) [] piece planned next answer sofar = subst (λ p. (planned.levels ≤ levels) × PlanFound steps store at p planned × Unit {0}) (sym (same_Some one piece next)) (answer.0, answer.1, tt)
sofar_more steps store at levels (one ∷ pieces) (first ∷ statements) piece planned next answer sofar = (sofar.0, sofar.1, sofar_more steps store at levels pieces statements piece planned next answer sofar.2)

-- a number that is no higher than one of a piece has a piece
pub piece_there : (pieces : List Piece) (number : ℕ) (piece : Piece) (last : ℕ) → number ≤ last → slice_get pieces last ≡ Some piece → (other : Piece) → slice_get pieces number ≡ Some (get_or pieces number other)
piece_there pieces number piece last within there other = slice_get-get_or pieces number other (omega (arith, within, slice_get_within pieces last piece there))

-- the statements so far, behind a call
pub sofar_now : (before now after : Search) (at : BodyAt) (levels : ℕ) (pieces : List Piece) (statements : List Planned) → Keeps before now → Grows (store_of now) (store_of after) → SoFar (steps_of before) (store_of now) at levels pieces statements → SoFar (steps_of before) (store_of after) at levels pieces statements
sofar_now before now after at levels pieces statements keeps grows sofar = sofar_grows (steps_of before) grows at levels pieces statements sofar

pub sofar_next : (before now after : Search) (at : BodyAt) (levels : ℕ) (pieces : List Piece) (statements : List Planned) (index : ℕ) (piece : Piece) (planned : Planned) → Keeps before now → SoFar (steps_of before) (store_of now) at levels pieces statements → length statements ≡ index
    → slice_get pieces index ≡ Some piece → Answers now after (PlanAnswer at piece levels (Some planned)) → SoFar (steps_of before) (store_of after) at levels pieces (statements ++ planned ∷ [])
sofar_next before now after at levels pieces statements index piece planned keeps sofar count there answers =
    sofar_more (steps_of before) (store_of after) at levels pieces statements piece planned (ap (slice_get pieces) count ∙ there)
    (subst (λ s. PlanAnswer at piece levels (Some planned) s (store_of after)) (same_steps before now keeps) answers.gives)
    (sofar_grows (steps_of before) answers.keeps.grows at levels pieces statements sofar)

pub stuck_now : (before now after : Search) (at : BodyAt) (levels : ℕ) (pieces : List Piece) (statements : List Planned) (index : ℕ) (piece : Piece) → Keeps before now → SoFar (steps_of before) (store_of now) at levels pieces statements → length statements ≡ index
    → Answers now after (PlanAnswer at piece levels None) → slice_get pieces index ≡ Some piece → IsStuck (steps_of after) (store_of after) at levels pieces statements
stuck_now before now after at levels pieces statements index piece keeps sofar count answers there =
    let same = same_steps before after (keeps_both before now after keeps answers.keeps) in
    stuck_first (steps_of after) (store_of after) at levels pieces statements piece (ap (slice_get pieces) count ∙ there)
    (subst (λ s. NoPlan s at piece levels) (sym (same_steps now after answers.keeps)) answers.gives)
    (subst (λ s. SoFar s (store_of after) at levels pieces statements) (sym same) (sofar_grows (steps_of before) answers.keeps.grows at levels pieces statements sofar))

pub statements_answer : (before after : Search) (at : BodyAt) (levels : ℕ) (pieces : List Piece) (statements : List Planned) → 0 < levels → (at.from ≡ at.to → ⊥) → pieces_of (steps_of before) at ≡ Some pieces → length statements ≡ length pieces → (length pieces ≡ 0 → ⊥) → Keeps before after
    → SoFar (steps_of before) (store_of after) at levels pieces statements → Answers before after (StatementsAnswer at levels (Some statements))
statements_answer before after at levels [] statements some apart are same full keeps sofar = absurd (full refl)
statements_answer before after at levels (piece ∷ pieces) [] some apart are same full keeps sofar = absurd (never (length pieces) same)
  where
    never : (n : ℕ) → 0 ≡ suc n → ⊥
    never n e = omega (arith, e)
statements_answer before after at levels (piece ∷ pieces) (planned ∷ statements) some apart are same full keeps sofar =
    record { keeps = keeps; gives = body_stands (steps_of before) (store_of after) at levels (piece ∷ pieces) (planned ∷ statements) apart are (all_stand (steps_of before) (store_of after) at levels piece pieces planned statements (omega (arith, some)) (omega (arith, same)) sofar) }

-- no `if` is the end
pub none_last : (steps : List Step) (store : Store) (at : BodyAt) (levels : ℕ) (pieces : List Piece) (statements : List Planned) → (at.from ≡ at.to → ⊥) → pieces_of steps at ≡ Some pieces → IsStuck steps store at levels pieces statements
    → ((n : ℕ) (piece : Piece) → n ≤ length statements → slice_get pieces n ≡ Some piece → NoLastIf steps at piece levels) → StatementsAnswer at levels None steps store
none_last steps store at levels pieces statements apart are stuck none =
    no_body steps at levels apart
    (λ piece later same plan rest stands. none_stand steps at levels (length statements) pieces stuck.piece stuck.next stuck.none none plan rest (subst (λ list. RestStands steps at list (and_plan plan rest)) (same_Some (piece ∷ later) pieces (sym same ∙ are)) stands))

-- one number less was tried
pub ifs_tried : (before now after : Search) (at : BodyAt) (levels number most : ℕ) (pieces : List Piece) (piece : Piece) → Keeps before now → 0 < number → ((n : ℕ) (one : Piece) → number < n → n ≤ most → slice_get pieces n ≡ Some one → NoLastIf (steps_of before) at one levels)
    → slice_get pieces number ≡ Some piece → Answers now after (LastIfAnswer at piece levels None) → (n : ℕ) (one : Piece) → number - 1 < n → n ≤ most → slice_get pieces n ≡ Some one → NoLastIf (steps_of before) at one levels
ifs_tried before now after at levels number most pieces piece keeps some tried there answers n one past within is = by (nat_lt number n) refl
  where
    here : NoLastIf (steps_of before) at piece levels
    here = subst (λ s. NoLastIf s at piece levels) (same_steps before now keeps) answers.gives

    by : (b : Bool) → nat_lt number n ≡ b → NoLastIf (steps_of before) at one levels
    by true further = tried n one (grind (arith, nat_tests)) within is
    by false last = subst (λ p. NoLastIf (steps_of before) at p levels) (same_Some piece one (sym there ∙ ap (slice_get pieces) is_last ∙ is)) here
      where
        is_last : number ≡ n
        is_last = grind (arith, nat_tests)

-- all numbers were tried
pub last_in_vain : (before now after : Search) (at : BodyAt) (levels number : ℕ) (pieces : List Piece) (statements : List Planned) (piece : Piece) → (at.from ≡ at.to → ⊥) → pieces_of (steps_of before) at ≡ Some pieces → IsStuck (steps_of before) (store_of before) at levels pieces statements → Keeps before now
    → number ≡ 0 → ((n : ℕ) (one : Piece) → number < n → n ≤ length statements → slice_get pieces n ≡ Some one → NoLastIf (steps_of before) at one levels) → slice_get pieces number ≡ Some piece → Answers now after (LastIfAnswer at piece levels None)
    → Answers before after (StatementsAnswer at levels None)
last_in_vain before now after at levels number pieces statements piece apart are stuck keeps first tried there answers =
    record { keeps = keeps_both before now after keeps answers.keeps; gives = none_last (steps_of before) (store_of before) at levels pieces statements apart are stuck (λ n one within is. by n one within is (nat_lt number n) refl) }
  where
    here : NoLastIf (steps_of before) at piece levels
    here = subst (λ s. NoLastIf s at piece levels) (same_steps before now keeps) answers.gives

    by : (n : ℕ) (one : Piece) → n ≤ length statements → slice_get pieces n ≡ Some one → (b : Bool) → nat_lt number n ≡ b → NoLastIf (steps_of before) at one levels
    by n one within is true further = tried n one (grind (arith, nat_tests)) within is
    by n one within is false last = subst (λ p. NoLastIf (steps_of before) at p levels) (same_Some piece one (sym there ∙ ap (slice_get pieces) is_last ∙ is)) here
      where
        is_last : number ≡ n
        is_last = grind (arith, nat_tests)

pub last_answer : (before middle after : Search) (at : BodyAt) (levels number : ℕ) (pieces : List Piece) (statements : List Planned) (piece : Piece) (last : Planned) → 0 < levels → (at.from ≡ at.to → ⊥) → pieces_of (steps_of before) at ≡ Some pieces → number ≤ length statements
    → Keeps before middle → SoFar (steps_of before) (store_of middle) at levels pieces statements → slice_get pieces number ≡ Some piece → Answers middle after (LastIfAnswer at piece levels (Some last)) → Answers before after (StatementsAnswer at levels (Some (take number statements ++ last ∷ [])))
last_answer before middle after at levels number pieces statements piece last some apart are within keeps sofar there answers =
    let steps = steps_of before in
    let found = subst (λ s. LastIfAnswer at piece levels (Some last) s (store_of after)) (same_steps before middle keeps) answers.gives in
    record {
      keeps = keeps_both before middle after keeps answers.keeps;
      gives = body_stands steps (store_of after) at levels pieces (take number statements ++ last ∷ []) apart are
          (last_stands steps (store_of after) at levels number pieces statements piece last (omega (arith, some)) within (sofar_grows steps answers.keeps.grows at levels pieces statements sofar) there found.0 found.1);
    }

pub last_if_answer : (before middle after : Search) (at : BodyAt) (piece : Piece) (levels : ℕ) (first second : Option Planned) → begins_branches (steps_of before) at piece ≡ true → is_some first ≡ false → Answers before middle (IfAnswer (last_branches at piece false) levels first)
    → Answers middle after (IfAnswer (last_branches at piece true) levels second) → Answers before after (LastIfAnswer at piece levels second)
last_if_answer before middle after at piece levels first second begins missing tried answers =
    answers_behind before middle after (LastIfAnswer at piece levels second) tried.keeps (answers_as middle after _ _ answers (by second))
  where
    same : steps_of middle ≡ steps_of before
    same = same_steps before middle tried.keeps

    by : (second : Option Planned) → IfAnswer (last_branches at piece true) levels second (steps_of middle) (store_of after) → LastIfAnswer at piece levels second (steps_of middle) (store_of after)
    by None none = last_if_none (steps_of middle) at piece levels
        (subst (λ s. IfAnswer (last_branches at piece false) levels None s (store_of middle)) (sym same) (subst (λ one. IfAnswer (last_branches at piece false) levels one (steps_of before) (store_of middle)) (is_none first missing) tried.gives)) none
    by (Some planned) (fits, found) = (fits, record { begins = ap (λ s. begins_branches s at piece) same ∙ begins; bare = true; found = found })

pub last_if_given : (before after : Search) (at : BodyAt) (piece : Piece) (levels : ℕ) (planned : Option Planned) → begins_branches (steps_of before) at piece ≡ true → is_some planned ≡ true → Answers before after (IfAnswer (last_branches at piece false) levels planned)
    → Answers before after (LastIfAnswer at piece levels planned)
last_if_given before after at piece levels None begins given answers = absurd (true≢false (sym given))
last_if_given before after at piece levels (Some planned) begins given answers = answers_as before after _ _ answers (λ found. (found.0, record { begins = begins; bare = false; found = found.1 }))

pub no_branches_begin : (search : Search) (at : BodyAt) (piece : Piece) (levels : ℕ) → IsReady search → begins_branches (steps_of search) at piece ≡ false → Answers search search (LastIfAnswer at piece levels None)
no_branches_begin search at piece levels ready missing = answers_same search (LastIfAnswer at piece levels None) ready (λ begins. absurd (true≢false (sym begins ∙ missing)))

-- ---- arms

pub arm_answer : (before tested blocked : Search) (memory : Memory) (at : BranchesAt) (place : ℕ) (way : Way) (levels : ℕ) (behind : Found) (test : ArmTest) (body found : Found) → IsWay (arm_starts (steps_of before) at) place way
    → BehindFound (steps_of before) (store_of before) at place way.next behind → behind.levels ≤ levels → Answers before tested (TestAnswer place way levels (Some test)) → Answers tested blocked (BlockAnswer (way_block (steps_of tested) at place way) levels (Some body))
    → found ≡ record { number = length (store_of blocked).rests; levels = max (max test.levels body.levels) behind.levels } → Keeping (steps_of blocked) blocked.memory memory (RestKept found.number (Rest.Arm test.condition body.number behind.number))
    → Answers before (record blocked { memory = memory }) (ArmAnswer at place way levels (Some found))
arm_answer before tested blocked memory at place way levels behind test body found is_way is_behind fits test_answer body_answer is kept =
    let first = same_steps before tested test_answer.keeps in
    let keeps = keeps_both before tested blocked test_answer.keeps body_answer.keeps in
    let same = same_steps before blocked keeps in
    let steps = steps_of blocked in
    answers_behind before blocked (record blocked { memory = memory }) (ArmAnswer at place way levels (Some found)) keeps
    (record {
      keeps = record { tables = refl; right = kept.right; grows = kept.grows };
      gives = arm_found steps (store_of blocked) (view_store memory) at place way levels behind test body found
          (subst (λ s. IsWay (arm_starts s at) place way) (sym same) is_way)
          (subst (λ s. BehindFound s (store_of blocked) at place way.next behind) (sym same) (behind_found_grows (steps_of before) keeps.grows at place way.next behind is_behind)) fits
          (subst (λ s. TestAnswer place way levels (Some test) s (store_of blocked)) (sym same) (test_answer.gives.0, test_found_grows (steps_of before) body_answer.keeps.grows place way test test_answer.gives.1))
          (subst (λ s. BlockAnswer (way_block s at place way) levels (Some body) s (store_of blocked)) (sym (same_steps tested blocked body_answer.keeps)) body_answer.gives)
          is kept.grows kept.gives;
    })

pub arm_no_block : (before tested after : Search) (at : BranchesAt) (place : ℕ) (way : Way) (levels : ℕ) → Keeps before tested → Answers tested after (BlockAnswer (way_block (steps_of tested) at place way) levels None) → Answers before after (ArmAnswer at place way levels None)
arm_no_block before tested after at place way levels keeps answers =
    answers_behind before tested after (ArmAnswer at place way levels None) keeps (answers_as tested after _ _ answers (λ none. no_block_no_arm (steps_of tested) at place way levels none))

pub last_arm_answer : (before blocked : Search) (memory : Memory) (at : BranchesAt) (place levels : ℕ) (body found : Found) → (place ≡ at.from → ⊥) → IsStart (arm_starts (steps_of before) at) place → Answers before blocked (BlockAnswer (block_at (steps_of before) place at.to at.exit) levels (Some body))
    → found.levels ≡ body.levels → Keeping (steps_of blocked) blocked.memory memory (RestKept found.number (Rest.Last body.number)) → Answers before (record blocked { memory = memory }) (LastAnswer at place levels (Some found))
last_arm_answer before blocked memory at place levels body found apart start answers needed kept =
    let same = same_steps before blocked answers.keeps in
    record {
      keeps = keeps_both before blocked (record blocked { memory = memory }) answers.keeps (record { tables = refl; right = kept.right; grows = kept.grows });
      gives = last_found (steps_of before) (store_of blocked) (view_store memory) at place levels body found apart start answers.gives needed kept.grows kept.gives;
    }

-- ---- what stands in an `if` from a place on

-- no arm stands in a way behind which nothing was found
pub way_none : (search : Search) (at : BranchesAt) (place levels : ℕ) (way : Way) (found : ℕ → Option Found) → IsReady search → at.from ≤ place → AreRests (steps_of search) (store_of search) at levels place found → None ≡ found_behind found way.next at.to
    → Answers search search (WayAnswer at place way levels None)
way_none search at place levels way found ready within rests is =
    answers_same search (WayAnswer at place way levels None) ready
    (nothing_behind_way (steps_of search) at place levels way (subst (λ answer. BehindAnswer at place way.next levels answer (steps_of search) (store_of search)) (sym is) (behind_answer (steps_of search) search.memory at levels place found way.next within ready.right rests)))

-- what was found behind it
pub way_behind : (search : Search) (at : BranchesAt) (place levels : ℕ) (way : Way) (found : ℕ → Option Found) (behind : Found) → IsReady search → at.from ≤ place → AreRests (steps_of search) (store_of search) at levels place found → Some behind ≡ found_behind found way.next at.to
    → BehindAnswer at place way.next levels (Some behind) (steps_of search) (store_of search)
way_behind search at place levels way found behind ready within rests is =
    subst (λ answer. BehindAnswer at place way.next levels answer (steps_of search) (store_of search)) (sym is) (behind_answer (steps_of search) search.memory at levels place found way.next within ready.right rests)

pub way_answer : (before after : Search) (at : BranchesAt) (place levels : ℕ) (way : Way) (found : Option Found) → Answers before after (ArmAnswer at place way levels found) → Answers before after (WayAnswer at place way levels found)
way_answer before after at place levels way None answers = answers_as before after _ _ answers (no_arm_in_way (steps_of before) at place levels way)
way_answer before after at place levels way (Some found) answers = answers

-- the way of a number
pub way_at : (before now : Search) (at : BranchesAt) (place : ℕ) (ways : List Way) (n : ℕ) (way : Way) → Keeps before now → IsStartOf (steps_of before) at place ways → slice_get ways n ≡ Some way → IsWay (arm_starts (steps_of now) at) place way
way_at before now at place ways n way keeps start there = subst (λ s. IsWay (arm_starts s at) place way) (sym (same_steps before now keeps)) (start.each way (numbered_way ways n way there))

pub rests_now : (before now : Search) (at : BranchesAt) (levels place : ℕ) (found : ℕ → Option Found) → Keeps before now → AreRests (steps_of before) (store_of before) at levels place found → AreRests (steps_of now) (store_of now) at levels place found
rests_now before now at levels place found keeps rests = subst (λ s. AreRests s (store_of now) at levels place found) (sym (same_steps before now keeps)) (rests_grow (steps_of before) keeps.grows at levels place found rests)

-- one way more was tried
pub ways_tried : (before now after : Search) (at : BranchesAt) (place levels : ℕ) (ways : List Way) (index : ℕ) (way : Way) (found : Option Found) → Keeps before now → ((n : ℕ) (one : Way) → n < index → slice_get ways n ≡ Some one → NoWay (steps_of before) at place levels one)
    → slice_get ways index ≡ Some way → found ≡ None → Answers now after (WayAnswer at place way levels found) → (n : ℕ) (one : Way) → n < index + 1 → slice_get ways n ≡ Some one → NoWay (steps_of before) at place levels one
ways_tried before now after at place levels ways index way found keeps tried there missing answers n one below is = by (nat_lt n index) refl
  where
    here : NoWay (steps_of before) at place levels way
    here = subst (λ s. NoWay s at place levels way) (same_steps before now keeps) (subst (λ f. WayAnswer at place way levels f (steps_of now) (store_of after)) missing answers.gives)

    by : (b : Bool) → nat_lt n index ≡ b → NoWay (steps_of before) at place levels one
    by true earlier = tried n one (grind (arith, nat_tests)) is
    by false last = subst (λ w. NoWay (steps_of before) at place levels w) (same_Some way one (sym there ∙ ap (slice_get ways) same ∙ is)) here
      where
        same : index ≡ n
        same = grind (arith, nat_tests)

pub rest_in_way : (before now after : Search) (at : BranchesAt) (place levels : ℕ) (way : Way) (found : Option Found) → Keeps before now → is_some found ≡ true → Answers now after (WayAnswer at place way levels found) → Answers before after (RestAnswer at place levels found)
rest_in_way before now after at place levels way None keeps given answers = absurd (true≢false (sym given))
rest_in_way before now after at place levels way (Some found) keeps given answers = answers_behind before now after (WayAnswer at place way levels (Some found)) keeps answers

pub rest_first : (before now : Search) (at : BranchesAt) (place levels : ℕ) (ways : List Way) (index : ℕ) → Keeps before now → IsStartOf (steps_of before) at place ways → ((n : ℕ) (way : Way) → n < index → slice_get ways n ≡ Some way → NoWay (steps_of before) at place levels way)
    → length ways ≤ index → place ≡ at.from → Answers before now (RestAnswer at place levels None)
rest_first before now at place levels ways index keeps start tried all first =
    record { keeps = keeps; gives = no_rest_first (steps_of before) at place levels ways start (λ n way is. tried n way (omega (arith, all, slice_get_within ways n way is)) is) first }

pub rest_last : (before now after : Search) (at : BranchesAt) (place levels : ℕ) (ways : List Way) (index : ℕ) (found : Option Found) → Keeps before now → IsStartOf (steps_of before) at place ways
    → ((n : ℕ) (way : Way) → n < index → slice_get ways n ≡ Some way → NoWay (steps_of before) at place levels way) → length ways ≤ index → Answers now after (LastAnswer at place levels found) → Answers before after (RestAnswer at place levels found)
rest_last before now after at place levels ways index None keeps start tried all answers =
    let last = answers_behind before now after (LastAnswer at place levels None) keeps answers in
    record { keeps = last.keeps; gives = no_rest_further (steps_of before) at place levels ways start (λ n way is. tried n way (omega (arith, all, slice_get_within ways n way is)) is) last.gives }
rest_last before now after at place levels ways index (Some found) keeps start tried all answers = answers_behind before now after (LastAnswer at place levels (Some found)) keeps answers

-- ---- a note of where no statement was found

pub stopped : (before now : Search) (memory : Memory) (at : BodyAt) (piece : Piece) (levels place : ℕ) (planned : Option Planned) → is_some planned ≡ false → Answers before now (PlanAnswer at piece levels planned) → memory ≡ record now.memory { furthest = max now.memory.furthest place }
    → Answers before (record now { memory = memory }) (PlanAnswer at piece levels None)
stopped before now memory at piece levels place planned missing answers is =
    let right = subst (λ m. IsRight (steps_of before) m) (sym is) (right_of answers.keeps.right) in
    record {
      keeps = record { tables = answers.keeps.tables; right = right; grows = subst (λ m. Grows (store_of before) (view_store m)) (sym is) answers.keeps.grows };
      gives = subst (λ one. PlanAnswer at piece levels one (steps_of before) (store_of now)) (is_none planned missing) answers.gives;
    }
  where
    right_of : IsRight (steps_of before) now.memory → IsRight (steps_of before) (record now.memory { furthest = max now.memory.furthest place })
    right_of right = record { empty_body = right.empty_body; no_rest = right.no_rest; empty_last = right.empty_last; bodies = right.bodies; branches = right.branches; conditions = right.conditions }

pub no_items : {X : Type 0} (list : List X) → length list ≡ 0 → list ≡ []
no_items [] none = refl
no_items (first ∷ list) none = absurd (never (length list) none)
  where
    never : (n : ℕ) → suc n ≡ 0 → ⊥
    never n e = omega (arith, e)

pub not_zero : (n : ℕ) → (n == 0) ≡ false → n ≡ 0 → ⊥
not_zero n full none = grind (arith, nat_tests)
