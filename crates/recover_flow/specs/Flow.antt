-- Serves the laws. Statements with blocks as a source has them, by the numbers of their steps: where they stand, how deep they are, and that a plan of them is found.
use Rattle.std.specs.Prelude.{◌≡◌, ◌<◌, ◌≤◌, ◌⊎◌, ◌||◌, ◌+◌, ◌*◌, ◌^◌, ℕ, suc, max, Bool, true, false, List, length, Option, None, Some, slice_get, if◌then◌else◌, nat_lt}
use Rattle.recover_expr.specs.declared.steps.Step.{Step}
use Rattle.recover_expr.specs.declared.steps.StepKind.{StepKind}
use Rattle.recover_flow.specs.Asked.{kind_at}
use Rattle.recover_flow.specs.Cutting.{pieces_of}
use Rattle.recover_flow.specs.Logic.{AreLevelled, Logic, LogicLies, is_never, logic_levels, operators}
use Rattle.recover_flow.specs.Lying.{AreOrdered, is_captured_at}
use Rattle.recover_flow.specs.Searching.{whole_body}
use Rattle.recover_flow.specs.Plans.{Plans, body_levels, step_levels}
use Rattle.recover_flow.specs.Standing.{BodyStands}
use Rattle.recover_flow.specs.declared.regions.Exit.{Exit}
use Rattle.recover_flow.specs.declared.regions.Piece.{Piece}

mutual
  pub data Flow : Type 0 where
    no_flow : Flow
    and_flow : FlowStatement → Flow → Flow

  pub data FlowStatement : Type 0 where
    -- an act, or a declaration of locals
    step_flow : (step : ℕ) → FlowStatement
    return_flow : (step : ℕ) → FlowStatement
    break_flow : FlowStatement
    do_flow : Flow → FlowStatement
    while_flow : Logic → Flow → FlowStatement
    repeat_flow : Flow → Logic → FlowStatement
    for_flow : (step : ℕ) → (numeric : Bool) → Flow → FlowStatement
    if_flow : Logic → Flow → FlowArms → FlowStatement

  pub data FlowArms : Type 0 where
    no_more : FlowArms
    else_flow : Flow → FlowArms
    elseif_flow : Logic → Flow → FlowArms → FlowArms

-- ---- the locals and the loop around

pub record Around : Type 0 where
  -- how many locals are active, and one more than the highest register of a captured one, or 0
  pub count : ℕ
  pub captured : ℕ
  -- the step that declares the local in a register
  pub declared : ℕ → Option ℕ
  pub exit : Option Exit

-- a step tells what is around it
pub record IsTold (steps : List Step) (around : Around) (at : ℕ) : Type 0 where
  pub step : Step
  pub there : slice_get steps at ≡ Some step
  pub base : step.base ≡ around.count
  pub captured : step.captured ≡ around.captured

abbrev pub IsAt : List Step → Around → (at : ℕ) → StepKind → Type 0
IsAt steps around at kind = IsTold steps around at × (kind_at steps at ≡ Some kind)

abbrev pub AreTold : List Step → Around → (from to : ℕ) → Type 0
AreTold steps around from to = (at : ℕ) → from ≤ at → at < to → IsTold steps around at

-- the highest captured one, behind locals of which one is captured or not
abbrev pub CapturedBehind : (captured : Bool) → (before behind : Around) → Type 0
CapturedBehind true before behind = (before.count < behind.captured) × (behind.captured ≤ behind.count)
CapturedBehind false before behind = behind.captured ≡ before.captured

-- behind a step that declares some locals, one at least
pub record Declares (step : ℕ) (captured : Bool) (before behind : Around) : Type 0 where
  pub more : before.count < behind.count
  pub highest : CapturedBehind captured before behind
  pub same : (register : ℕ) → register < before.count → behind.declared register ≡ before.declared register
  pub new : (register : ℕ) → before.count ≤ register → register < behind.count → behind.declared register ≡ Some step
  pub exit : behind.exit ≡ before.exit

-- in a loop that ends at a place
abbrev pub in_loop : (to : ℕ) → Around → Around
in_loop to around = record around { exit = Some (record { place = to; locals = around.count }) }

-- three hidden locals of a loop
abbrev pub IsHiddenBehind : (step : ℕ) → (before hidden : Around) → Type 0
IsHiddenBehind step before hidden = Declares step false before hidden × (hidden.count ≡ before.count + 3)

-- ---- blocks

-- one of a body's own locals is captured
abbrev pub captures_flow : List Step → Flow → Bool
captures_flow steps no_flow = false
captures_flow steps (and_flow (step_flow step) rest) = is_captured_at (kind_at steps step) || captures_flow steps rest
captures_flow steps (and_flow s rest) = captures_flow steps rest

-- the step that declares the local in a register, where one is active there
abbrev pub declares_active : Around → (register : ℕ) → Option ℕ
declares_active around register = if nat_lt register around.count then around.declared register else None

abbrev pub IsClose : List Step → Around → (at register : ℕ) → Type 0
IsClose steps around at register = IsAt steps around at (StepKind.Close register (declares_active around register))

-- a block, behind which what is around is as before it
abbrev pub IsFlowBlock : List Step → Around → (captured : Bool) → (lies : (ends end : ℕ) → Type 0) → (from to : ℕ) → Type 0
IsFlowBlock steps around false lies from to = lies to to
IsFlowBlock steps around true lies from to = (end : ℕ) × (to ≡ suc end) × (from ≤ end) × IsClose steps around end around.count × lies end end

-- a jump out of the loop, behind a CLOSE where a local of it is captured
abbrev pub BreakLies : List Step → Around → Option Exit → (from to : ℕ) → Type 0
BreakLies steps around None from to = ⊥
BreakLies steps around (Some exit) from to =
    ((around.captured ≤ exit.locals) × IsAt steps around from (StepKind.Jump exit.place) × (to ≡ suc from))
    ⊎ ((exit.locals < around.captured) × IsAt steps around from (StepKind.Close exit.locals (around.declared exit.locals)) × IsAt steps around (suc from) (StepKind.Jump exit.place) × (to ≡ suc (suc from)))

-- ---- statements

-- an act, or a declaration of locals that end there
abbrev pub StepLies : List Step → (before behind : Around) → (ends step : ℕ) → (from to : ℕ) → Type 0
StepLies steps before behind ends step from to =
    (step ≡ from) × (to ≡ suc from)
    × ((IsAt steps before from StepKind.Act × (behind ≡ before)) ⊎ ((captured : Bool) × IsAt steps before from (StepKind.Declaration ends captured) × Declares from captured before behind))

-- a `break` is the last word of its block; a `return` may have steps behind it, which nothing reaches, and then stands in a block of its own
abbrev pub is_break : FlowStatement → Bool
is_break break_flow = true
is_break s = false

abbrev pub EndsWell : FlowStatement → Flow → Type 0
EndsWell s no_flow = Unit {0}
EndsWell s (and_flow next rest) = is_break s ≡ false

-- the variables of a `for`, with the hidden locals around, end before its foot, and before a CLOSE where one is captured
abbrev pub VariablesLie : List Step → (hidden : Around) → (captured : Bool) → (end foot : ℕ) → Type 0
VariablesLie steps hidden false end foot = foot ≡ end
VariablesLie steps hidden true end foot = (foot ≡ suc end) × IsClose steps hidden end hidden.count

abbrev mutual
  -- statements whose body's own locals end at a place
  pub FlowLies : List Step → (before behind : Around) → (ends : ℕ) → Flow → (from to : ℕ) → Type 0
  FlowLies steps before behind ends no_flow from to = (behind ≡ before) × (to ≡ from)
  FlowLies steps before behind ends (and_flow s rest) from to =
      EndsWell s rest × (mid : ℕ) × (between : Around) × (from ≤ mid) × (mid ≤ to) × FlowStatementLies steps before between ends s from mid × FlowLies steps between behind ends rest mid to

  pub FlowStatementLies : List Step → (before behind : Around) → (ends : ℕ) → FlowStatement → (from to : ℕ) → Type 0
  FlowStatementLies steps before behind ends (step_flow step) from to = StepLies steps before behind ends step from to
  FlowStatementLies steps before behind ends (return_flow step) from to = (behind ≡ before) × (step ≡ from) × IsAt steps before from StepKind.Return × (to ≡ suc from)
  FlowStatementLies steps before behind ends break_flow from to = (behind ≡ before) × BreakLies steps before before.exit from to
  FlowStatementLies steps before behind ends (do_flow body) from to =
      (behind ≡ before) × IsFlowBlock steps before (captures_flow steps body) (λ ends end. (inside : Around) × FlowLies steps before inside ends body from end) from to
  FlowStatementLies steps before behind ends (while_flow logic body) from to =
      (behind ≡ before) × (start : ℕ) × (back : ℕ) × (from ≤ start) × (start ≤ back) × LogicLies steps logic false to from start × AreTold steps before from start
      × IsFlowBlock steps before (captures_flow steps body) (λ ends end. (inside : Around) × FlowLies steps (in_loop to before) inside ends body start end) start back
      × IsAt steps before back (StepKind.Jump from) × (to ≡ suc back)
  FlowStatementLies steps before behind ends (repeat_flow body logic) from to =
      (behind ≡ before) × (start : ℕ) × (inside : Around) × (from ≤ start)
      × (((captures_flow steps body ≡ false) × (start ≤ to) × FlowLies steps (in_loop to before) inside to body from start × LogicLies steps logic false from start to × AreTold steps inside start to)
      ⊎ ((captures_flow steps body ≡ true) × (tested : ℕ) × (start ≤ tested) × FlowLies steps (in_loop to before) inside (tested + 2) body from start
      × LogicLies steps logic false (tested + 2) start tested × AreTold steps inside start tested
      × IsClose steps inside tested before.count × IsAt steps inside (tested + 1) (StepKind.Jump to)
      × IsClose steps before (tested + 2) before.count × IsAt steps before (tested + 3) (StepKind.Jump from) × (to ≡ tested + 4)))
  FlowStatementLies steps before behind ends (for_flow step numeric body) from to =
      (behind ≡ before) × (step ≡ from) × (foot : ℕ) × (variables_end : ℕ) × (captured : Bool) × (hidden : Around) × (inside : Around)
      × (before.count + 3 < 2 ^ 32) × IsAt steps before from (StepKind.Head numeric foot to variables_end captured) × IsHiddenBehind from (in_loop to before) hidden × Declares from captured hidden inside
      × (from < variables_end)
      × IsFlowBlock steps inside (captures_flow steps body) (λ ends end. (behind : Around) × FlowLies steps inside behind ends body (suc from) end) (suc from) variables_end
      × VariablesLie steps hidden captured variables_end foot × IsAt steps hidden foot (StepKind.Foot numeric (suc from)) × (to ≡ suc foot)
  FlowStatementLies steps before behind ends (if_flow logic body rest) from to = (behind ≡ before) × ArmLies steps before logic (captures_flow steps body) (λ from ends end. (inside : Around) × FlowLies steps before inside ends body from end) rest from to

  -- an arm of an `if` that ends at a place, and what stands behind it, before which it jumps to the end
  pub ArmLies : List Step → Around → Logic → (captured : Bool) → (lies : (from ends end : ℕ) → Type 0) → FlowArms → (from to : ℕ) → Type 0
  ArmLies steps around logic captured lies no_more from to =
      (start : ℕ) × (from ≤ start) × (start ≤ to) × LogicLies steps logic false to from start × AreTold steps around from start × IsFlowBlock steps around captured (lies start) start to
  ArmLies steps around logic captured lies (else_flow body) from to =
      (start : ℕ) × (last : ℕ) × (from ≤ start) × (start ≤ last) × (suc last ≤ to) × LogicLies steps logic false (suc last) from start × AreTold steps around from start
      × IsFlowBlock steps around captured (lies start) start last × IsAt steps around last (StepKind.Jump to)
      × IsFlowBlock steps around (captures_flow steps body) (λ ends end. (inside : Around) × FlowLies steps around inside ends body (suc last) end) (suc last) to
  ArmLies steps around logic captured lies (elseif_flow next body rest) from to =
      (start : ℕ) × (last : ℕ) × (from ≤ start) × (start ≤ last) × (suc last ≤ to) × LogicLies steps logic false (suc last) from start × AreTold steps around from start
      × IsFlowBlock steps around captured (lies start) start last × IsAt steps around last (StepKind.Jump to)
      × ArmLies steps around next (captures_flow steps body) (λ from ends end. (inside : Around) × FlowLies steps around inside ends body from end) rest (suc last) to

-- ---- how deep they are

-- a condition, with two levels more for each operator
abbrev pub logic_room : List Step → Logic → ℕ
logic_room steps logic = logic_levels steps logic + 2 * operators logic

-- one level more, or not
abbrev pub raised : (more : Bool) → ℕ → ℕ
raised true levels = suc levels
raised false levels = levels

-- Counted is how deep blocks and expressions stand in one another, with room for what is found in the place of what was written, where that is deeper:
-- two levels more for each operator of a condition, as its tests may be found negated, and its operators in another order;
-- one more for a `return`, as it stands in a block of its own where something follows it;
-- one more for a further arm of an `if` whose condition never fails, and for the arms behind it, as no test tells them apart: where a loop ends with the `if`, all of them are found in an `else`, with a `break` between.
abbrev mutual
  pub flow_levels : List Step → Flow → ℕ
  flow_levels steps no_flow = 0
  flow_levels steps (and_flow s rest) = max (flow_statement_levels steps s) (flow_levels steps rest)

  pub flow_statement_levels : List Step → FlowStatement → ℕ
  flow_statement_levels steps (step_flow step) = max 1 (step_levels steps step)
  flow_statement_levels steps (return_flow step) = suc (max 1 (step_levels steps step))
  flow_statement_levels steps break_flow = 1
  flow_statement_levels steps (do_flow body) = suc (max 1 (flow_levels steps body))
  flow_statement_levels steps (while_flow logic body) = suc (max (max 1 (logic_room steps logic)) (flow_levels steps body))
  flow_statement_levels steps (repeat_flow body logic) = suc (max (max 1 (logic_room steps logic)) (flow_levels steps body))
  flow_statement_levels steps (for_flow step numeric body) = max (max 2 (step_levels steps step)) (suc (flow_levels steps body))
  flow_statement_levels steps (if_flow logic body rest) = suc (max (max (max 1 (logic_room steps logic)) (flow_levels steps body)) (flow_arms_levels steps rest))

  pub flow_arms_levels : List Step → FlowArms → ℕ
  flow_arms_levels steps no_more = 0
  flow_arms_levels steps (else_flow body) = flow_levels steps body
  flow_arms_levels steps (elseif_flow logic body rest) = raised (is_never false logic) (max (max (max 1 (logic_room steps logic)) (flow_levels steps body)) (flow_arms_levels steps rest))

-- ---- the law

-- a function begins with its parameters, and no loop is around
abbrev pub AtBeginning : Around → Type 0
AtBeginning around = (around.exit ≡ None) × (around.captured ≤ around.count) × ((register : ℕ) → around.declared register ≡ None)

-- what lies on all steps of a function comes apart into pieces, and its locals end behind their declarations
abbrev pub FlowComesApart : Type 0
FlowComesApart =
    (steps : List Step) → length steps < 2 ^ 32 → (before behind : Around) → AtBeginning before → (flow : Flow) → FlowLies steps before behind (length steps) flow 0 (length steps)
    → AreOrdered steps × ((pieces : List Piece) × (pieces_of steps (whole_body steps) ≡ Some pieces))

-- what lies on all steps of a function is found, no deeper than is counted for it
abbrev pub FlowIsFound : Type 0
FlowIsFound =
    (steps : List Step) → length steps < 2 ^ 32 → AreLevelled steps → (before behind : Around) → AtBeginning before → (flow : Flow) → FlowLies steps before behind (length steps) flow 0 (length steps)
    → flow_levels steps flow ≤ 200 → (plans : Plans) × BodyStands steps (whole_body steps) plans × (body_levels steps plans ≤ flow_levels steps flow)
