-- What stands as the body of a function lies on all its steps, as the scheme of code has it.
use Rattle.std.proofs.Common.{◌≡◌, ◌∙◌, ◌≤◌, ◌<◌, ◌+◌, ◌-◌, ◌⊎◌, inl, inr, ⊎_elim, refl, sym, ap, subst, ℕ, zero, suc, Bool, true, false, List, [], ◌∷◌, length, slice_get, Option, None, Some, arith}
use Rattle.std.specs.Prelude.{◌==◌, ◌&&◌, unwrap_or, if◌then◌else◌}
use Rattle.std.proofs.lemmas.Bool.{and_parts, false≢true}
use Rattle.std.proofs.lemmas.Bool.Decides.{leb_tells}
use Rattle.std.proofs.lemmas.Option.{none-some, same_Some, slice_get_within}
use Rattle.recover_expr.specs.declared.steps.Step.{Step}
use Rattle.recover_expr.specs.declared.steps.StepKind.{StepKind}
use Rattle.recover_flow.specs.Arms.{arm_starts}
use Rattle.recover_flow.specs.Asked.{block_at, closed_body, closes, ends_captured, is_this, kind_at, number_before, plain_body}
use Rattle.recover_flow.specs.Conditions.{ConditionTree}
use Rattle.recover_flow.specs.Cutting.{begun_behind, behind_place, behind_step, pieces_from, pieces_of}
use Rattle.recover_flow.specs.Forms.{counted_form, once_form, scope_form}
use Rattle.recover_flow.specs.Lying.{AreOrdered, ArmsLie, BlockLies, BodyLies, EndsBehind, IsBlock, IsOwn, Jumps, PlanLies, StepLies, TestLies, WhatStandsLies, captures_own, exit_to, is_captured_at}
use Rattle.recover_flow.specs.Loops.{closed_loop_at, open_loop_at, while_loop_at}
use Rattle.recover_flow.specs.Plans.{Plans, no_plans, and_plan, PlanTree, step_plan, end_plan, do_plan, for_plan, while_plan, repeat_plan, if_plan, ArmPlans, no_arms, last_arm, and_arm}
use Rattle.recover_flow.specs.Searching.{whole_body}
use Rattle.recover_flow.specs.Standing.{ArmsBehind, BlockStands, BodyStands, BranchesStand, EndsInBranches, HasParts, IsStart, IsTested, IsWay, PlanStands, RestStands, branches_used, last_branches, piece_branches, way_block, way_condition, with_used}
use Rattle.recover_flow.specs.declared.branches.Way.{Way}
use Rattle.recover_flow.specs.declared.cuts.Reach.{Reach}
use Rattle.recover_flow.specs.declared.forms.Form.{Form}
use Rattle.recover_flow.specs.declared.forms.Shape.{Shape}
use Rattle.recover_flow.specs.declared.loops.LoopAt.{LoopAt}
use Rattle.recover_flow.specs.declared.loops.LoopParts.{LoopParts}
use Rattle.recover_flow.specs.declared.regions.BodyAt.{BodyAt}
use Rattle.recover_flow.specs.declared.regions.BranchesAt.{BranchesAt}
use Rattle.recover_flow.specs.declared.regions.Exit.{Exit}
use Rattle.recover_flow.specs.declared.regions.Piece.{Piece}
use Rattle.recover_flow.proofs.FormsLie.{before_close, behind_it, closed_is, counted_is, end_lies, joined_from, mapped_by, once_is, open_is, same_numbers, scope_is, step_kind, step_lies, while_is}
use Rattle.recover_flow.proofs.LyingParts.{ConditionsLie, EndsFit, FollowOn, PiecesFollow, WaysFit}
use Rattle.recover_flow.proofs.ExitsKept.{DoInside, arms_exit, body_exits, used_kept}
use Rattle.recover_flow.proofs.CapturedOwn.{Declares, captured_kind, captured_there, declared_ends, no_condition, no_second, own_declared, own_first, own_neither, own_of, own_place, own_rest}

-- ---- a body that is not empty ends among the steps

pieces_long : (steps : List Step) (at : BodyAt) (count place : ℕ) (reach : Reach) (pieces : List Piece) → pieces_from steps at count place reach ≡ Some pieces → 0 < count → place + count ≤ length steps
pieces_long steps at zero place reach pieces is some = absurd (omega (arith, some))
pieces_long steps at (suc count) place reach pieces is some =
    let first = joined_from _ (behind_place steps at place reach) pieces is in
    let step = joined_from (behind_step steps at place reach) (slice_get steps place) first.0 first.1 in
    let rest = mapped_by _ (pieces_from steps at count (place + 1) (begun_behind place first.0)) pieces first.2 in
    let here = slice_get_within steps place step.0 step.1 in
    ⊎_elim
    (λ h. let far = pieces_long steps at count (place + 1) (begun_behind place first.0) rest.0 rest.1 h.1 in omega (arith, far))
    (λ h. omega (arith, h.1, here))
    (leb_tells 1 count)

body_within : (steps : List Step) (at : BodyAt) (pieces : List Piece) → at.from < at.to → pieces_of steps at ≡ Some pieces → at.to ≤ length steps
body_within steps at pieces some is =
    let far = pieces_long steps at (at.to - at.from) at.from (record { begin = at.from; far = at.from; turned = 0 }) pieces is (omega (arith, some)) in
    omega (arith, far, some)

-- ---- blocks

-- what lies where a body stands
abbrev BodyRight : List Step → BodyAt → Plans → Type 0
BodyRight steps at plans = BodyLies steps at.exit at.locals_end plans at.from at.to × (at.may_capture ≡ false → captures_own steps plans ≡ false)

abbrev IsRight : List Step → Plans → Type 0
IsRight steps plans = (at : BodyAt) → at.from ≤ at.to → BodyStands steps at plans → BodyRight steps at plans

body_right : (steps : List Step) (body : Plans) (at : BodyAt) → IsRight steps body → at.from ≤ at.to → BodyStands steps (with_used steps at) body → BodyRight steps at body
body_right steps body at each low stands =
    let known = each (with_used steps at) low stands in
    (used_kept steps at.exit at.from at.to (λ exit. BodyLies steps exit at.locals_end body at.from at.to) (body_exits steps at.exit body at.locals_end at.from at.to) known.0, known.1)

-- a block that is not looked for before a CLOSE
whole_block : (steps : List Step) (body : Plans) (whole : BodyAt) → BlockStands steps (record { closed = None; whole = whole }) body → BodyStands steps (with_used steps whole) body
whole_block steps body whole (inl (at, is, before)) = absurd (none-some at is)
whole_block steps body whole (inr all) = all

block_right : (steps : List Step) → AreOrdered steps → (body : Plans) (from to : ℕ) (exit : Option Exit) → IsRight steps body → from ≤ to → BlockStands steps (block_at steps from to exit) body → BlockLies steps exit body from to
block_right steps ordered body from to exit each low (inr stands) =
    let known = body_right steps body (plain_body from to exit) each low stands in
    inl (known.1 refl, known.0)
block_right steps ordered body from to exit each low (inl (at, is, stands)) =
    let block = before_close steps from to exit at is in
    let known = body_right steps body (closed_body from block.end exit) each block.low (subst (λ one. BodyStands steps (with_used steps one) body) block.is stands) in
    let there = captured_there steps block.end from ordered block.captured in
    inr (block.end, block.ends, block.low, own_declared steps there.0 body exit block.end from block.end there.3 known.0 (omega arith) there.1 there.2, inr block.closing, known.0)

-- ---- statements around a block

abbrev do_step : Shape → Option ℕ
do_step (Shape.Do step) = Some step
do_step shape = None

abbrev for_step : Shape → Option ℕ
for_step (Shape.For step numeric) = Some step
for_step shape = None

abbrev for_numeric : Shape → Option Bool
for_numeric (Shape.For step numeric) = Some numeric
for_numeric shape = None

not_so : (b : Bool) → (b ≡ true → ⊥) → b ≡ false
not_so true never = absurd (never refl)
not_so false never = refl

-- where one of them is captured a CLOSE ends it, and else nothing
do_block : (steps : List Step) → AreOrdered steps → (body : Plans) (exit : Option Exit) (from to end : ℕ) (first : Step) → slice_get steps from ≡ Some first → from < end → end ≤ length steps → DoInside steps exit body from end end
    → (b : Bool) → ends_captured steps end from ≡ b → (if b then is_this (number_before to) end && closes steps end first.base else to == end) ≡ true → IsBlock steps (captures_own steps (and_plan (step_plan from) body)) (DoInside steps exit body from) from to
do_block steps ordered body exit from to end first there far within lies true some is =
    let both = and_parts (is_this (number_before to) end) (closes steps end first.base) is in
    let found = captured_there steps end from ordered some in
    let own : captures_own steps (and_plan (step_plan from) body) ≡ true = ⊎_elim
    (λ h. own_rest steps (step_plan from) body (own_declared steps found.0 body exit end (suc from) end found.3 lies.2 (omega arith) h.1 found.2))
    (λ h. let same : from ≡ found.0 = omega (arith, h.1, found.1) in own_first steps (step_plan from) body (ap (λ n. is_captured_at (kind_at steps n)) same ∙ ap is_captured_at found.3))
    (leb_tells (suc from) found.0) in
    inr (end, behind_it to end both.0, omega (arith, far), own, inl (first, there, both.1), lies)
do_block steps ordered body exit from to end first there far within lies false none is =
    let same : end ≡ to = sym (same_numbers to end is) in
    let uncaptured : (place : ℕ) → from ≤ place → Declares steps place end → ⊥ = λ place low declared. false≢true (sym none ∙ declared_ends steps place end from declared low within) in
    let own : captures_own steps (and_plan (step_plan from) body) ≡ false = own_neither steps (step_plan from) body
    (not_so _ (λ h. uncaptured from (omega arith) (head h lies.0)))
    (not_so _ (λ h. let known = own_place steps body exit end (suc from) end lies.2 h in uncaptured known.0 (omega (arith, known.1)) known.2)) in
    inl (own, subst (λ n. DoInside steps exit body from n n) same lies)
  where
    head : is_captured_at (kind_at steps from) ≡ true → StepLies steps end from (suc from) → Declares steps from end
    head h (kind, is, own, next) =
        let known = captured_kind (kind_at steps from) h in
        let same : known.0 ≡ end = subst (IsOwn end) (same_Some kind (StepKind.Declaration known.0 true) (sym is ∙ known.1)) own in
        known.1 ∙ ap (λ n. Some (StepKind.Declaration n true)) same

do_right : (steps : List Step) → AreOrdered steps → (step : ℕ) (body : Plans) (exit : Option Exit) (ends : ℕ) (piece : Piece) (form : Form) → IsRight steps body → piece.to ≤ length steps
    → scope_form steps exit piece ≡ Some form → form.shape ≡ Shape.Do step
    → BlockStands steps form.inner body → PlanLies steps exit ends (do_plan step body) piece.from piece.to
do_right steps ordered step body exit ends piece form each within is shape inner =
    let scope = scope_is steps exit piece form is in
    let here : step ≡ piece.from = same_Some step piece.from (sym (ap do_step shape) ∙ ap (λ (one : Form). do_step one.shape) scope.is) in
    let kind = step_kind steps piece.from scope.first scope.there ∙ ap Some scope.kind in
    let far : piece.from < scope.end = subst (EndsBehind piece.from) kind (ordered piece.from) in
    let next : piece.from + 1 ≡ suc piece.from = omega arith in
    let stands = whole_block steps body (closed_body (piece.from + 1) scope.end exit) (subst (λ (one : Form). BlockStands steps one.inner body) scope.is inner) in
    let known = body_right steps body (closed_body (piece.from + 1) scope.end exit) each (omega (arith, far)) stands in
    let lies : BodyLies steps exit scope.end body (suc piece.from) scope.end = subst (λ n. BodyLies steps exit scope.end body n scope.end) next known.0 in
    let first : StepLies steps scope.end piece.from (suc piece.from) = (StepKind.Declaration scope.end scope.captured, kind, refl, refl) in
    let block = do_block steps ordered body exit piece.from piece.to scope.end scope.first scope.there far (omega (arith, scope.fits, within)) (first, far, lies) (ends_captured steps scope.end piece.from) refl scope.ends in
    (here, subst (λ n. IsBlock steps (captures_own steps (and_plan (step_plan n) body)) (DoInside steps exit body piece.from) piece.from piece.to) (sym here) block)

for_right : (steps : List Step) → AreOrdered steps → (step : ℕ) (numeric : Bool) (body : Plans) (exit : Option Exit) (ends : ℕ) (piece : Piece) (form : Form) → IsRight steps body → counted_form steps piece ≡ Some form
    → form.shape ≡ Shape.For step numeric
    → BlockStands steps form.inner body → PlanLies steps exit ends (for_plan step numeric body) piece.from piece.to
for_right steps ordered step numeric body exit ends piece form each is shape inner =
    let loop = counted_is steps piece form is in
    let here : step ≡ piece.from = same_Some step piece.from (sym (ap for_step shape) ∙ ap (λ (one : Form). for_step one.shape) loop.is) in
    let alike : loop.numeric ≡ numeric = same_Some loop.numeric numeric (sym (ap (λ (one : Form). for_numeric one.shape) loop.is) ∙ ap for_numeric shape) in
    let next : piece.from + 1 ≡ suc piece.from = omega arith in
    let low : piece.from + 1 ≤ loop.variables_end = omega (arith, loop.begins) in
    let inside : Option Exit = exit_to piece.to loop.first in
    let block = block_right steps ordered body (piece.from + 1) loop.variables_end inside each low (subst (λ (one : Form). BlockStands steps one.inner body) loop.is inner) in (
      here,
      (
        loop.first,
        loop.foot,
        loop.variables_end,
        loop.captured,
        loop.there,
        loop.kind ∙ ap (λ b. StepKind.Head b loop.foot piece.to loop.variables_end loop.captured) alike,
        loop.begins,
        subst (λ n. BlockLies steps inside body n loop.variables_end) next block,
        loop.variables,
        loop.foot_is ∙ ap (λ b. Some (StepKind.Foot b (suc piece.from))) alike,
        loop.ends,
      ),
    )

once_right : (steps : List Step) (body : Plans) (exit : Option Exit) (ends : ℕ) (piece : Piece) (form : Form) → IsRight steps body → piece.from ≤ piece.to → once_form steps exit piece ≡ Some form → BlockStands steps form.inner body
    → PlanLies steps exit ends (repeat_plan body None) piece.from piece.to
once_right steps body exit ends piece form each low is inner =
    let once = once_is steps exit piece form is in
    let whole : BodyAt = plain_body piece.from piece.to (exit_to piece.to once.0) in
    let known = body_right steps body whole each low (whole_block steps body whole (subst (λ (one : Form). BlockStands steps one.inner body) once.2 inner)) in
    (once.0, piece.to, once.1, low, inl (omega arith, known.1 refl, known.0, refl))

module _ (conditions : ConditionsLie) where
  while_right : (steps : List Step) → AreOrdered steps → (condition : ConditionTree) (body : Plans) (exit : Option Exit) (ends : ℕ) (piece : Piece) (last : ℕ) (loop : LoopAt) (parts : LoopParts) → IsRight steps body
      → while_loop_at steps piece last ≡ Some loop → HasParts steps loop condition parts
      → BlockStands steps parts.inner body → PlanLies steps exit ends (while_plan condition body) piece.from piece.to
  while_right steps ordered condition body exit ends piece last loop parts each is has inner =
      let known = while_is steps piece last loop condition parts is has in
      let tests = conditions steps (record { from = piece.from; to = known.start; target = piece.to }) condition known.tested in
      let block = block_right steps ordered body known.start known.last (exit_to piece.to known.first) each known.high (subst (λ one. BlockStands steps one body) known.is inner) in
      (known.first, known.start, known.last, known.there, known.low, known.high, tests.2, block, known.back, known.ends)

  open_right : (steps : List Step) (condition : ConditionTree) (body : Plans) (exit : Option Exit) (ends : ℕ) (piece : Piece) (last : ℕ) (loop : LoopAt) (parts : LoopParts) → IsRight steps body → piece.from ≤ piece.to
      → open_loop_at steps piece last ≡ Some loop → HasParts steps loop condition parts
      → BlockStands steps parts.inner body → PlanLies steps exit ends (repeat_plan body (Some condition)) piece.from piece.to
  open_right steps condition body exit ends piece last loop parts each low is has inner =
      let known = open_is steps piece last loop condition parts low is has in
      let tests = conditions steps (record { from = known.start; to = piece.to; target = piece.from }) condition known.tested in
      let whole : BodyAt = record { from = piece.from; to = known.start; locals_end = piece.to; may_capture = false; exit = exit_to piece.to known.first } in
      let right = body_right steps body whole each known.low (whole_block steps body whole (subst (λ one. BlockStands steps one body) known.is inner)) in
      (known.first, known.start, known.there, known.low, inl (known.high, right.1 refl, right.0, tests.2))

  closed_right : (steps : List Step) → AreOrdered steps → (condition : ConditionTree) (body : Plans) (exit : Option Exit) (ends : ℕ) (piece : Piece) (last : ℕ) (loop : LoopAt) (parts : LoopParts) → IsRight steps body
      → closed_loop_at steps piece last ≡ Some loop → HasParts steps loop condition parts
      → BlockStands steps parts.inner body → PlanLies steps exit ends (repeat_plan body (Some condition)) piece.from piece.to
  closed_right steps ordered condition body exit ends piece last loop parts each is has inner =
      let known = closed_is steps piece last loop condition parts is has in
      let tests = conditions steps (record { from = known.start; to = known.place; target = known.place + 2 }) condition known.tested in
      let inside : Option Exit = exit_to piece.to known.first in
      let whole : BodyAt = record { from = piece.from; to = known.start; locals_end = known.place + 2; may_capture = true; exit = inside } in
      let right = body_right steps body whole each known.low (whole_block steps body whole (subst (λ one. BlockStands steps one body) known.is inner)) in
      let found = captured_there steps (known.place + 2) piece.from ordered known.captured in
      let own : captures_own steps body ≡ true = ⊎_elim
      (λ h. ⊎_elim
      (λ g. absurd (no_second steps found.0 (known.place + 2) found.3 known.first piece.from known.place piece.to known.twice g.1 (omega (arith, found.2, known.twice.4))))
      (λ g. absurd (no_condition steps found.0 (known.place + 2) found.3 condition false (known.place + 2) known.start known.place tests.2 h.1 g.1))
      (leb_tells known.place found.0))
      (λ h. own_declared steps found.0 body inside (known.place + 2) piece.from known.start found.3 right.0 (omega (arith, known.high)) found.1 h.1)
      (leb_tells known.start found.0) in
      (known.first, known.start, known.there, known.low, inr (known.place, known.high, own, right.0, tests.2, known.twice))

-- ---- arms

-- what stands in an `if` from a place on; an `else` that begins at its end is empty
abbrev StandFrom : List Step → BranchesAt → (place : ℕ) → ArmPlans → Type 0
StandFrom steps at place no_arms = ⊥
StandFrom steps at place (last_arm body) = (place ≤ at.to) × (((place ≡ at.to) × (body ≡ no_plans)) ⊎ BlockStands steps (block_at steps place at.to at.exit) body)
StandFrom steps at place (and_arm condition body rest) =
    (way : Way) × IsWay (arm_starts steps at) place way × IsTested steps place way way.tests_end condition × BlockStands steps (way_block steps at place way) body × ArmsBehind steps at place way.next rest

first_from : (steps : List Step) (at : BranchesAt) (arms : ArmPlans) → BranchesStand steps at arms → StandFrom steps at at.from arms
first_from steps at no_arms stand = stand
first_from steps at (last_arm body) stand = absurd stand
first_from steps at (and_arm condition body rest) stand = stand

last_right : (steps : List Step) → AreOrdered steps → (at : BranchesAt) (place : ℕ) (body : Plans) → IsRight steps body → StandFrom steps at place (last_arm body) → ArmsLie steps at.exit (last_arm body) place at.to
last_right steps ordered at place body each (low, inr stands) = (low, block_right steps ordered body place at.to at.exit each low stands)
last_right steps ordered at place body each (low, inl (same, empty)) =
    (low, subst (λ plans. BlockLies steps at.exit plans place at.to) (sym empty) (inl (refl, sym same)))

-- an arm and what stands behind it
module _ (conditions : ConditionsLie) (ways : WaysFit) (steps : List Step) (ordered : AreOrdered steps) (at : BranchesAt) (some : at.from < at.to) where
  tests_right : (place : ℕ) (way : Way) (tests_end : Option ℕ) (condition : Option ConditionTree) → IsTested steps place way tests_end condition → TestLies steps condition (unwrap_or way.next way.block_end) place (unwrap_or tests_end place)
  tests_right place way None condition none = subst (λ one. TestLies steps one (unwrap_or way.next way.block_end) place place) (sym none) refl
  tests_right place way (Some tests_end) None tested = absurd tested
  tests_right place way (Some tests_end) (Some condition) tested = (conditions steps (way_condition place way tests_end) condition tested).2

  abbrev start_of : (place : ℕ) → Way → ℕ
  start_of place way = unwrap_or way.tests_end place

  -- where it is the last one
  only_right : (place : ℕ) (way : Way) (condition : Option ConditionTree) (body : Plans) → IsRight steps body → IsWay (arm_starts steps at) place way → IsTested steps place way way.tests_end condition
      → BlockStands steps (way_block steps at place way) body → way.next ≡ None
      → ArmsLie steps at.exit (and_arm condition body no_arms) place at.to
  only_right place way condition body each is tested stands none =
      let fit = ways steps at place way some is in
      let ends : EndsFit steps at (start_of place way) way.block_end None = subst (EndsFit steps at (start_of place way) way.block_end) none fit.3 in
      let low : start_of place way ≤ way.block_end = omega (arith, ends.0, ends.1) in
      let target : unwrap_or way.next way.block_end ≡ at.to = ap (λ next. unwrap_or next way.block_end) none ∙ ends.1 in
      let block = block_right steps ordered body (start_of place way) way.block_end at.exit each low stands in (
        start_of place way,
        fit.2,
        ends.0,
        subst (λ n. TestLies steps condition n place (start_of place way)) target (tests_right place way way.tests_end condition tested),
        subst (λ n. BlockLies steps at.exit body (start_of place way) n) ends.1 block,
      )

  -- where something stands behind it
  abbrev Before : (condition : Option ConditionTree) → (body : Plans) → (rest : ArmPlans) → (from : ℕ) → Type 0
  Before condition body rest from =
      (start : ℕ) × (last : ℕ) × (from ≤ start) × (start ≤ last) × (suc last ≤ at.to) × TestLies steps condition (suc last) from start × BlockLies steps at.exit body start last × Jumps steps last at.to × ArmsLie steps at.exit rest (suc last) at.to

  before_right : (place : ℕ) (way : Way) (condition : Option ConditionTree) (body : Plans) (rest : ArmPlans) (begin : ℕ) → IsRight steps body → IsWay (arm_starts steps at) place way
      → IsTested steps place way way.tests_end condition → BlockStands steps (way_block steps at place way) body
      → way.next ≡ Some begin → (begin ≤ at.to → ArmsLie steps at.exit rest begin at.to) → Before condition body rest place
  before_right place way condition body rest begin each is tested stands next behind =
      let fit = ways steps at place way some is in
      let ends : EndsFit steps at (start_of place way) way.block_end (Some begin) = subst (EndsFit steps at (start_of place way) way.block_end) next fit.3 in
      let target : unwrap_or way.next way.block_end ≡ suc way.block_end = ap (λ one. unwrap_or one way.block_end) next ∙ ends.1 in (
        start_of place way,
        way.block_end,
        fit.2,
        ends.0,
        omega (arith, ends.1, ends.2),
        subst (λ n. TestLies steps condition n place (start_of place way)) target (tests_right place way way.tests_end condition tested),
        block_right steps ordered body (start_of place way) way.block_end at.exit each ends.0 stands,
        ends.3,
        subst (λ n. ArmsLie steps at.exit rest n at.to) ends.1 (behind ends.2),
      )

  arm_right : (place : ℕ) (condition : Option ConditionTree) (body : Plans) (rest : ArmPlans) → IsRight steps body → ((begin : ℕ) → StandFrom steps at begin rest → ArmsLie steps at.exit rest begin at.to)
      → StandFrom steps at place (and_arm condition body rest)
      → ArmsLie steps at.exit (and_arm condition body rest) place at.to
  arm_right place condition body no_arms each behind (way, is, tested, stands, none) = only_right place way condition body each is tested stands none
  arm_right place condition body (last_arm other) each behind (way, is, tested, stands, (begin, next, which)) =
      before_right place way condition body (last_arm other) begin each is tested stands next (λ within. behind begin (within, else_stands which))
    where
      else_stands : ((begin ≡ at.to) × (other ≡ no_plans)) ⊎ ((begin ≡ at.to → ⊥) × (place < begin) × IsStart (arm_starts steps at) begin × BlockStands steps (block_at steps begin at.to at.exit) other)
          → ((begin ≡ at.to) × (other ≡ no_plans)) ⊎ BlockStands steps (block_at steps begin at.to at.exit) other
      else_stands (inl empty) = inl empty
      else_stands (inr (apart, further, start, block)) = inr block
  arm_right place condition body (and_arm next other rest) each behind (way, is, tested, stands, (begin, next_way, at_next, apart, further, is_next, next_tested, next_stands, others)) =
      before_right place way condition body (and_arm next other rest) begin each is tested stands at_next (λ within. behind begin (next_way, is_next, next_tested, next_stands, others))

-- ---- bodies

not_same : (from to : ℕ) → from ≤ to → (from ≡ to → ⊥) → from < to
not_same from to low apart = ⊎_elim (λ h. absurd (apart (omega (arith, low, h.1)))) (λ h. h.1) (leb_tells to from)

-- a statement and the ones behind it
and_right : (steps : List Step) (at : BodyAt) (plan : PlanTree) (rest : Plans) (from mid : ℕ) → from < mid → mid ≤ at.to → PlanLies steps at.exit at.locals_end plan from mid × (at.may_capture ≡ false → own_of steps plan ≡ false)
    → BodyLies steps at.exit at.locals_end rest mid at.to × (at.may_capture ≡ false → captures_own steps rest ≡ false) → BodyLies steps at.exit at.locals_end (and_plan plan rest) from at.to × (at.may_capture ≡ false → captures_own steps (and_plan plan rest) ≡ false)
and_right steps at plan rest from mid begins goes first others = ((mid, begins, goes, first.0, others.0), λ none. own_neither steps plan rest (first.1 none) (others.1 none))

module _ (conditions : ConditionsLie) (follow : PiecesFollow) (ways : WaysFit) where
  module _ (steps : List Step) (ordered : AreOrdered steps) where
    abbrev PlanRight : BodyAt → PlanTree → (from to : ℕ) → Type 0
    PlanRight at plan from to = PlanLies steps at.exit at.locals_end plan from to × (at.may_capture ≡ false → own_of steps plan ≡ false)

    abbrev RestRight : BodyAt → Plans → (from : ℕ) → Type 0
    RestRight at plans from = BodyLies steps at.exit at.locals_end plans from at.to × (at.may_capture ≡ false → captures_own steps plans ≡ false)

    step_right : (step : ℕ) (at : BodyAt) (piece : Piece) → PlanStands steps at piece (step_plan step) → PlanRight at (step_plan step) piece.from piece.to
    step_right step at piece stands =
        let known = step_lies steps at piece step stands in
        ((known.0, known.1), λ none. ap (λ n. is_captured_at (kind_at steps n)) known.0 ∙ known.2 none)

    -- an `if` whose exit counts only where it is used
    if_right : (at : BranchesAt) (arms : ArmPlans) → ((at : BranchesAt) (place : ℕ) → at.from < at.to → StandFrom steps at place arms → ArmsLie steps at.exit arms place at.to) → at.from < at.to
        → BranchesStand steps (branches_used steps at) arms
        → ArmsLie steps at.exit arms at.from at.to
    if_right at arms each some stand =
        used_kept steps at.exit at.from at.to (λ exit. ArmsLie steps exit arms at.from at.to) (arms_exit steps at.exit arms at.from at.to) (each (branches_used steps at) at.from some (first_from steps (branches_used steps at) arms stand))

    mutual
      stands_right : (plans : Plans) (at : BodyAt) → at.from ≤ at.to → BodyStands steps at plans → BodyRight steps at plans
      stands_right no_plans at low same = (sym same, λ none. refl)
      stands_right (and_plan plan rest) at low (apart, (piece, pieces, are, inl (first, others))) =
          let some : at.from < at.to = not_same at.from at.to low apart in
          let on = follow steps at (piece ∷ pieces) low are in
          let within = body_within steps at (piece ∷ pieces) some are in
          let begins : piece.from < piece.to = omega (arith, on.0, on.1) in
          subst (RestRight at (and_plan plan rest)) on.0 (and_right steps at plan rest piece.from piece.to begins on.2 (plan_right plan at piece begins (omega (arith, on.2, within)) first) (rest_right rest at pieces piece.to within on.3 others))
      stands_right (and_plan plan rest) at low (apart, (piece, pieces, are, inr ends)) =
          let on = follow steps at (piece ∷ pieces) low are in
          subst (RestRight at (and_plan plan rest)) on.0 (ends_right plan rest at piece (omega (arith, on.0, on.1, on.2)) ends)

      rest_right : (plans : Plans) (at : BodyAt) (pieces : List Piece) (from : ℕ) → at.to ≤ length steps → FollowOn pieces from at.to → RestStands steps at pieces plans → RestRight at plans from
      rest_right no_plans at [] from within on stands = (on, λ none. refl)
      rest_right no_plans at (piece ∷ pieces) from within on stands = absurd stands
      rest_right (and_plan plan rest) at [] from within on stands = absurd stands
      rest_right (and_plan plan rest) at (piece ∷ pieces) from within on (inl (first, others)) =
          let begins : piece.from < piece.to = omega (arith, on.0, on.1) in
          subst (RestRight at (and_plan plan rest)) on.0 (and_right steps at plan rest piece.from piece.to begins on.2 (plan_right plan at piece begins (omega (arith, on.2, within)) first) (rest_right rest at pieces piece.to within on.3 others))
      rest_right (and_plan plan rest) at (piece ∷ pieces) from within on (inr ends) = subst (RestRight at (and_plan plan rest)) on.0 (ends_right plan rest at piece (omega (arith, on.0, on.1, on.2)) ends)

      ends_right : (plan : PlanTree) (rest : Plans) (at : BodyAt) (piece : Piece) → piece.from < at.to → EndsInBranches steps at piece plan rest → RestRight at (and_plan plan rest) piece.from
      ends_right (if_plan arms) no_plans at piece some (begins, (bare, stand)) =
          let lies = if_right (last_branches at piece bare) arms (arms_right arms) some stand in
          ((at.to, some, omega arith, lies, refl), λ none. refl)
      ends_right (if_plan arms) (and_plan next rest) at piece some ends = absurd ends
      ends_right (step_plan step) rest at piece some ends = absurd ends
      ends_right (end_plan end enclosed) rest at piece some ends = absurd ends
      ends_right (do_plan step body) rest at piece some ends = absurd ends
      ends_right (for_plan step numeric body) rest at piece some ends = absurd ends
      ends_right (while_plan condition body) rest at piece some ends = absurd ends
      ends_right (repeat_plan body condition) rest at piece some ends = absurd ends

      plan_right : (plan : PlanTree) (at : BodyAt) (piece : Piece) → piece.from < piece.to → piece.to ≤ length steps → PlanStands steps at piece plan → PlanRight at plan piece.from piece.to
      plan_right (step_plan step) at piece some within stands = step_right step at piece stands
      plan_right (end_plan end enclosed) at piece some within stands = (end_lies steps at piece end enclosed stands, λ none. refl)
      plan_right (do_plan step body) at piece some within (choice, (form, is, shape, inner)) =
          (do_right steps ordered step body at.exit at.locals_end piece form (stands_right body) within is shape inner, λ none. refl)
      plan_right (for_plan step numeric body) at piece some within (choice, (form, is, shape, inner)) =
          (for_right steps ordered step numeric body at.exit at.locals_end piece form (stands_right body) is shape inner, λ none. refl)
      plan_right (while_plan condition body) at piece some within (last, loop, parts, choice, is, has, inner) =
          (while_right conditions steps ordered condition body at.exit at.locals_end piece last loop parts (stands_right body) is has inner, λ none. refl)
      plan_right (repeat_plan body None) at piece some within (choice, (form, is, inner)) =
          (once_right steps body at.exit at.locals_end piece form (stands_right body) (omega (arith, some)) is inner, λ none. refl)
      plan_right (repeat_plan body (Some condition)) at piece some within (last, loop, parts, choice, inl is, has, inner) =
          (closed_right conditions steps ordered condition body at.exit at.locals_end piece last loop parts (stands_right body) is has inner, λ none. refl)
      plan_right (repeat_plan body (Some condition)) at piece some within (last, loop, parts, choice, inr is, has, inner) =
          (open_right conditions steps condition body at.exit at.locals_end piece last loop parts (stands_right body) (omega (arith, some)) is has inner, λ none. refl)
      plan_right (if_plan arms) at piece some within (choice, (bare, stand)) = (if_right (piece_branches at piece bare) arms (arms_right arms) some stand, λ none. refl)

      arms_right : (arms : ArmPlans) (at : BranchesAt) (place : ℕ) → at.from < at.to → StandFrom steps at place arms → ArmsLie steps at.exit arms place at.to
      arms_right no_arms at place some stand = absurd stand
      arms_right (last_arm body) at place some stand = last_right steps ordered at place body (stands_right body) stand
      arms_right (and_arm condition body rest) at place some stand =
          arm_right conditions ways steps ordered at some place condition body rest (stands_right body) (λ begin stand. arms_right rest at begin some stand) stand

  pub what_stands_lies : WhatStandsLies
  what_stands_lies steps ordered plans stands = (stands_right steps ordered plans (whole_body steps) (omega arith) stands).0
