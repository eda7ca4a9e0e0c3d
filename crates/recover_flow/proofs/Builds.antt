-- What is built of plans that stand in the memory under their numbers.
use Rattle.std.proofs.Common.{◌≡◌, ◌≤◌, ◌+◌, ◌<◌, ℕ, List, [], ◌∷◌, Option, None, Some, Result, Ok, Err, Bor, refl, sym, ap, ◌∙◌, subst, arith}
use Rattle.std.proofs.lemmas.Option.{none-some, same_Some}
use Rattle.std.specs.Prelude.{IfErr, IsErrAnd, slice_get, option_map, option_and_then}
use Rattle.lua_tree.specs.Joins.{join_branches}
use Rattle.lua_tree.specs.Syntax.{Statements, Statement, while_loop, if_statement, Branches, no_branches, branch, Expression, Otherwise, no_otherwise, otherwise}
use Rattle.lua_tree.specs.View.{view_arm, view_block, view_exp}
use Rattle.lua_tree.specs.declared.tree.Arm.{roll-Arm}
use Rattle.lua_tree.specs.declared.tree.Block.{Block}
use Rattle.lua_tree.specs.declared.tree.Exp.{Exp}
use Rattle.recover_expr.specs.Drafts.{Part}
use Rattle.recover_expr.specs.declared.steps.Step.{Step}
use Rattle.recover_flow.proofs.Joinings.{gone_where}
use Rattle.recover_flow.specs.Built.{Built, built_arms, built_body, built_condition, built_from, built_plan}
use Rattle.recover_flow.specs.Conditions.{ConditionTree}
use Rattle.recover_flow.specs.Held.{ArmsHeld, BodyHeld, ConditionHeld, PlanHeld, PlansHeld, Store, view_store}
use Rattle.recover_flow.specs.Joining.{Joined, condition_expression}
use Rattle.recover_flow.specs.Parts.{IsGoneOnlyWhere, appended}
use Rattle.recover_flow.specs.Plans.{Plans, no_plans, and_plan, PlanTree, step_plan, end_plan, do_plan, for_plan, while_plan, repeat_plan, if_plan, ArmPlans, no_arms, last_arm, and_arm, body_levels, plan_levels, arm_levels, around_block}
use Rattle.recover_flow.specs.declared.memory.Memory.{Memory}
use Rattle.recover_flow.specs.declared.parts.Unbuilt.{Unbuilt}
use Rattle.recover_flow.specs.declared.plan.Plan.{Plan}
use Rattle.recover_flow.specs.declared.plan.Planned.{Planned}
use Rattle.recover_flow.specs.declared.plan.Rest.{Rest}

-- what a call fails with is handed on
pub handed_on : {T : Type 0} (P : Unbuilt → Type 0) (result : Result T Unbuilt) (unbuilt : Unbuilt) → IsErrAnd result (λ other. other ≡ unbuilt) → P unbuilt → IfErr result P
handed_on P (Ok made) unbuilt is holds = tt
handed_on P (Err other) unbuilt is holds = subst P (sym is) holds

-- what stands in the memory stands in it where it is the same
pub kept_with : (P : Store → Type 0) (old new : Bor Memory) → new ≡ old → P (view_store old.now) → P (view_store new.now)
kept_with P old new same held = subst (λ (those : Bor Memory). P (view_store those.now)) (sym same) held

pub plan_kept : (steps : List Step) (old new : Bor Memory) (plan : Plan) (tree : PlanTree) → new ≡ old → PlanHeld steps (view_store old.now) plan tree → PlanHeld steps (view_store new.now) plan tree
plan_kept steps old new plan tree same held = kept_with (λ store. PlanHeld steps store plan tree) old new same held

-- what stands under a number
pub rest_kept : (old new : Bor Memory) (number : ℕ) (found : Option Rest) → new ≡ old → found ≡ slice_get (view_store new.now).rests number → found ≡ slice_get (view_store old.now).rests number
rest_kept old new number found same is = is ∙ ap (λ (those : Bor Memory). slice_get (view_store those.now).rests number) same

-- ---- bodies

-- the statements of a number
pub body_held : (steps : List Step) (store : Store) (number : ℕ) (list : List Planned) (plans : Plans) → Some list ≡ slice_get store.bodies number → BodyHeld steps store number plans → PlansHeld steps store list plans
body_held steps store number list no_plans is held = subst (λ those. PlansHeld steps store those no_plans) (same_Some _ _ (sym held ∙ sym is)) tt
body_held steps store number list (and_plan plan rest) is (planned, later, at, levels, first, others) = subst (λ those. PlansHeld steps store those (and_plan plan rest)) (same_Some _ _ (sym at ∙ sym is)) (levels, first, others)

pub no_body : {A : Type 0} (steps : List Step) (store : Store) (number : ℕ) (plans : Plans) → None ≡ slice_get store.bodies number → BodyHeld steps store number plans → A
no_body steps store number no_plans none held = absurd (none-some [] (none ∙ held))
no_body steps store number (and_plan plan rest) none (planned, later, at, levels, first, others) = absurd (none-some (planned ∷ later) (none ∙ at))

-- what was built of the first plans, and what is built of those that are left, is what is built of all
pub record PlansLeft (steps : List Step) (store : Store) (before : Statements) (plans : Plans) (parts : List Part) (done : Statements) (later : List Planned) (left : List Part) : Type 0 where
  pub rest : Plans
  pub held : PlansHeld steps store later rest
  pub same : built_from done rest left ≡ built_from before plans parts
  pub lower : body_levels steps rest ≤ body_levels steps plans

pub all_left : (steps : List Step) (store : Store) (before : Statements) (plans : Plans) (parts : List Part) (list : List Planned) → PlansHeld steps store list plans → PlansLeft steps store before plans parts before list parts
all_left steps store before plans parts list held = record { rest = plans; held = held; same = refl; lower = omega arith }

-- none is left
pub none_left : (steps : List Step) (store : Store) (before : Statements) (plans : Plans) (parts : List Part) (done : Statements) (left : List Part) → PlansLeft steps store before plans parts done [] left → Some (done, left) ≡ built_from before plans parts
none_left steps store before plans parts done left these = by_rest these.rest these.held these.same
  where
    by_rest : (rest : Plans) → PlansHeld steps store [] rest → built_from done rest left ≡ built_from before plans parts → Some (done, left) ≡ built_from before plans parts
    by_rest no_plans held same = same
    by_rest (and_plan plan rest) held same = absurd held

-- what is built where this was built of the first plan
abbrev pub from_first : Statements → Plans → Built Statement → Built Statements
from_first done rest found = option_and_then (λ made. built_from (appended done made.0) rest made.1) found

-- one more is built
pub one_built : (steps : List Step) (store : Store) (before : Statements) (plans : Plans) (parts : List Part) (done : Statements) (planned : Planned) (later : List Planned) (left : List Part) (made : Statement) (after : Statements) (behind : List Part)
    → PlansLeft steps store before plans parts done (planned ∷ later) left → ((tree : PlanTree) → PlanHeld steps store planned.plan tree → Some (made, behind) ≡ built_plan tree left) → after ≡ appended done made
    → PlansLeft steps store before plans parts after later behind
one_built steps store before plans parts done planned later left made after behind these built is = by_rest these.rest these.held these.same these.lower
  where
    by_rest : (rest : Plans) → PlansHeld steps store (planned ∷ later) rest → built_from done rest left ≡ built_from before plans parts → body_levels steps rest ≤ body_levels steps plans → PlansLeft steps store before plans parts after later behind
    by_rest no_plans held same lower = absurd held
    by_rest (and_plan plan rest) (levels, first, others) same lower = record {
      rest = rest;
      held = others;
      same = ap (λ (those : Statements). built_from those rest behind) is ∙ ap (from_first done rest) (built plan first) ∙ same;
      lower = omega (arith, lower);
    }

-- one is not
pub one_gone : (steps : List Step) (store : Store) (before : Statements) (plans : Plans) (parts : List Part) (done : Statements) (planned : Planned) (later : List Planned) (left : List Part) (levels : ℕ) (unbuilt : Unbuilt)
    → PlansLeft steps store before plans parts done (planned ∷ later) left → body_levels steps plans ≤ levels
    → ((tree : PlanTree) → PlanHeld steps store planned.plan tree → plan_levels steps tree ≤ levels → IsGoneOnlyWhere (built_plan tree left ≡ None) unbuilt)
    → IsGoneOnlyWhere (built_from before plans parts ≡ None) unbuilt
one_gone steps store before plans parts done planned later left levels unbuilt these enough gone = by_rest these.rest these.held these.same these.lower
  where
    by_rest : (rest : Plans) → PlansHeld steps store (planned ∷ later) rest → built_from done rest left ≡ built_from before plans parts → body_levels steps rest ≤ body_levels steps plans → IsGoneOnlyWhere (built_from before plans parts ≡ None) unbuilt
    by_rest no_plans held same lower = absurd held
    by_rest (and_plan plan rest) (needs, first, others) same lower = gone_where unbuilt (λ none. sym same ∙ ap (from_first done rest) none) (gone plan first (omega (arith, lower, enough)))

-- ---- plans

-- what is to be shown of a plan that stands in the memory by its numbers
abbrev pub ByNumbers : List Step → Store → (PlanTree → Type 0) → Plan → Type 0
ByNumbers steps store P (Plan.Step step) = P (step_plan step)
ByNumbers steps store P (Plan.End end enclosed) = P (end_plan end enclosed)
ByNumbers steps store P (Plan.Do step number) = (body : Plans) → BodyHeld steps store number body → P (do_plan step body)
ByNumbers steps store P (Plan.For step numeric number) = (body : Plans) → BodyHeld steps store number body → P (for_plan step numeric body)
ByNumbers steps store P (Plan.While test number) = (condition : ConditionTree) (body : Plans) → ConditionHeld store (Some test) (Some condition) → BodyHeld steps store number body → P (while_plan condition body)
ByNumbers steps store P (Plan.Repeat number test) = (body : Plans) (condition : Option ConditionTree) → BodyHeld steps store number body → ConditionHeld store test condition → P (repeat_plan body condition)
ByNumbers steps store P (Plan.If rest) = (arms : ArmPlans) → ArmsHeld steps store rest arms → P (if_plan arms)

by_plan : (steps : List Step) (store : Store) (P : PlanTree → Type 0) (plan : Plan) (tree : PlanTree) → PlanHeld steps store plan tree → ByNumbers steps store P plan → P tree
by_plan steps store P plan (step_plan step) is holds = subst (ByNumbers steps store P) is holds
by_plan steps store P plan (end_plan end enclosed) is holds = subst (ByNumbers steps store P) is holds
by_plan steps store P plan (do_plan step body) (number, is, held) holds = subst (ByNumbers steps store P) is holds body held
by_plan steps store P plan (for_plan step numeric body) (number, is, held) holds = subst (ByNumbers steps store P) is holds body held
by_plan steps store P plan (while_plan condition body) (test, number, is, tested, held) holds = subst (ByNumbers steps store P) is holds condition body tested held
by_plan steps store P plan (repeat_plan body condition) (test, number, is, tested, held) holds = subst (ByNumbers steps store P) is holds body condition held tested
by_plan steps store P plan (if_plan arms) (rest, is, held) holds = subst (ByNumbers steps store P) is holds arms held

abbrev pub BuiltTo : (made : Statement) → (left parts : List Part) → PlanTree → Type 0
BuiltTo made left parts tree = Some (made, left) ≡ built_plan tree parts

pub plan_built : (steps : List Step) (store : Store) (made : Statement) (left parts : List Part) (plan shape : Plan) (tree : PlanTree) → plan ≡ shape → PlanHeld steps store plan tree
    → ByNumbers steps store (BuiltTo made left parts) shape → BuiltTo made left parts tree
plan_built steps store made left parts plan shape tree is held built = by_plan steps store (BuiltTo made left parts) plan tree held (subst (ByNumbers steps store (BuiltTo made left parts)) (sym is) built)

abbrev pub GoneWithin : List Step → (parts : List Part) → (levels : ℕ) → Unbuilt → PlanTree → Type 0
GoneWithin steps parts levels unbuilt tree = plan_levels steps tree ≤ levels → IsGoneOnlyWhere (built_plan tree parts ≡ None) unbuilt

pub plan_gone : (steps : List Step) (store : Store) (parts : List Part) (levels : ℕ) (unbuilt : Unbuilt) (plan shape : Plan) (tree : PlanTree) → plan ≡ shape → PlanHeld steps store plan tree
    → ByNumbers steps store (GoneWithin steps parts levels unbuilt) shape → GoneWithin steps parts levels unbuilt tree
plan_gone steps store parts levels unbuilt plan shape tree is held gone =
    by_plan steps store (GoneWithin steps parts levels unbuilt) plan tree held (subst (ByNumbers steps store (GoneWithin steps parts levels unbuilt)) (sym is) gone)

-- a block has fewer levels than what is around it
pub fewer_inside : (own inner levels : ℕ) → around_block own inner ≤ levels → inner + 1 ≤ levels
fewer_inside own inner levels enough = omega (arith, enough)

-- a loop with its condition before it, where this was built of its block, and of its condition
abbrev pub while_around : Expression → Built Statements → Built Statement
while_around test found = option_map (λ made. (while_loop test made.0, made.1)) found

abbrev pub while_with : Plans → Option Joined → Built Statement
while_with body found = option_and_then (λ test. while_around test.0 (built_body body test.1)) found

pub while_built : (condition : ConditionTree) (body : Plans) (parts middle left : List Part) (test : Expression) (block : Statements) → Some (test, middle) ≡ condition_expression condition parts → Some (block, left) ≡ built_body body middle
    → Some (while_loop test block, left) ≡ built_plan (while_plan condition body) parts
while_built condition body parts middle left test block tests built =
    ap (while_around test) built ∙ ap (while_with body) tests

pub while_untested : (condition : ConditionTree) (body : Plans) (parts : List Part) → condition_expression condition parts ≡ None → built_plan (while_plan condition body) parts ≡ None
while_untested condition body parts none = ap (while_with body) none

pub while_empty : (condition : ConditionTree) (body : Plans) (parts middle : List Part) (test : Expression) → Some (test, middle) ≡ condition_expression condition parts → built_body body middle ≡ None → built_plan (while_plan condition body) parts ≡ None
while_empty condition body parts middle test tests none =
    sym (ap (while_with body) tests) ∙ ap (while_around test) none

-- ---- arms

branches_end : (done : Branches) → join_branches done no_branches ≡ done
branches_end no_branches = refl
branches_end (branch test block rest) = ap (branch test block) (branches_end rest)

branches_next : (done : Branches) (test : Expression) (block : Statements) (more : Branches) → join_branches (join_branches done (branch test block no_branches)) more ≡ join_branches done (branch test block more)
branches_next no_branches test block more = refl
branches_next (branch first inner rest) test block more = ap (branch first inner) (branches_next rest test block more)

-- arms behind others, where this was built of them
abbrev pub if_behind : Branches → Built (Branches × Otherwise) → Built Statement
if_behind done found = option_map (λ made. (if_statement (join_branches done made.0.0) made.0.1, made.1)) found

abbrev pub arms_behind : Branches → ArmPlans → List Part → Built Statement
arms_behind done arms parts = if_behind done (built_arms arms parts)

-- what is built where this was built of the block of the `else`, of the arms behind an arm, of its block, and of its condition
abbrev pub last_with : Built Statements → Built (Branches × Otherwise)
last_with found = option_map (λ made. ((no_branches, otherwise made.0), made.1)) found

abbrev pub arm_before : Expression → Statements → Built (Branches × Otherwise) → Built (Branches × Otherwise)
arm_before test block found = option_map (λ behind. ((branch test block behind.0.0, behind.0.1), behind.1)) found

abbrev pub arm_around : Expression → ArmPlans → Built Statements → Built (Branches × Otherwise)
arm_around test rest found = option_and_then (λ made. arm_before test made.0 (built_arms rest made.1)) found

abbrev pub arm_with : Plans → ArmPlans → Option Joined → Built (Branches × Otherwise)
arm_with body rest found = option_and_then (λ test. arm_around test.0 rest (built_body body test.1)) found

-- what was built of the first arms, and what is built of those that are left, is what is built of all
pub record ArmsLeft (steps : List Step) (store : Store) (arms : ArmPlans) (parts : List Part) (done : Branches) (number : ℕ) (left : List Part) : Type 0 where
  pub rest : ArmPlans
  pub held : ArmsHeld steps store number rest
  pub same : arms_behind done rest left ≡ built_plan (if_plan arms) parts
  pub lower : arm_levels steps rest ≤ arm_levels steps arms

pub all_arms : (steps : List Step) (store : Store) (arms : ArmPlans) (parts : List Part) (number : ℕ) → ArmsHeld steps store number arms → ArmsLeft steps store arms parts no_branches number parts
all_arms steps store arms parts number held = record { rest = arms; held = held; same = refl; lower = omega arith }

-- what is to be shown of arms that stand in the memory by their numbers
abbrev pub ByRest : List Step → Store → (number : ℕ) → (ArmPlans → Type 0) → Rest → Type 0
ByRest steps store number P Rest.Nothing = P no_arms
ByRest steps store number P (Rest.Last block) = (body : Plans) → BodyHeld steps store block body → P (last_arm body)
ByRest steps store number P (Rest.Arm test block behind) =
    (condition : Option ConditionTree) (body : Plans) (rest : ArmPlans) → behind < number → ConditionHeld store test condition → BodyHeld steps store block body → ArmsHeld steps store behind rest → P (and_arm condition body rest)

by_rest : (steps : List Step) (store : Store) (number : ℕ) (P : ArmPlans → Type 0) (rest : Rest) (arms : ArmPlans) → Some rest ≡ slice_get store.rests number → ArmsHeld steps store number arms → ByRest steps store number P rest → P arms
by_rest steps store number P rest no_arms is held holds = subst (ByRest steps store number P) (same_Some _ _ (is ∙ held)) holds
by_rest steps store number P rest (last_arm body) is (block, at, held) holds = subst (ByRest steps store number P) (same_Some _ _ (is ∙ at)) holds body held
by_rest steps store number P rest (and_arm condition body behind) is (test, block, next, at, low, tested, held, others) holds =
    subst (ByRest steps store number P) (same_Some _ _ (is ∙ at)) holds condition body behind low tested held others

pub no_rest : {A : Type 0} (steps : List Step) (store : Store) (number : ℕ) (arms : ArmPlans) → None ≡ slice_get store.rests number → ArmsHeld steps store number arms → A
no_rest steps store number no_arms none held = absurd (none-some Rest.Nothing (none ∙ held))
no_rest steps store number (last_arm body) none (block, at, held) = absurd (none-some (Rest.Last block) (none ∙ at))
no_rest steps store number (and_arm condition body rest) none (test, block, behind, at, low, tested, held, others) = absurd (none-some (Rest.Arm test block behind) (none ∙ at))

-- no arm is left
pub arms_built : (steps : List Step) (store : Store) (arms : ArmPlans) (parts : List Part) (done : Branches) (number : ℕ) (left : List Part) → Some Rest.Nothing ≡ slice_get store.rests number → ArmsLeft steps store arms parts done number left
    → Some (if_statement done no_otherwise, left) ≡ built_plan (if_plan arms) parts
arms_built steps store arms parts done number left is these =
    by_rest steps store number (λ rest. arms_behind done rest left ≡ built_plan (if_plan arms) parts → Some (if_statement done no_otherwise, left) ≡ built_plan (if_plan arms) parts) Rest.Nothing these.rest is these.held
    (λ same. ap (λ (before : Branches). Some (if_statement before no_otherwise, left)) (sym (branches_end done)) ∙ same)
    these.same

-- the `else` is left
pub last_built : (steps : List Step) (store : Store) (arms : ArmPlans) (parts : List Part) (done : Branches) (number : ℕ) (left : List Part) (block : ℕ) (made : Statements) (behind : List Part) → Some (Rest.Last block) ≡ slice_get store.rests number
    → ArmsLeft steps store arms parts done number left → ((body : Plans) → BodyHeld steps store block body → Some (made, behind) ≡ built_body body left)
    → Some (if_statement done (otherwise made), behind) ≡ built_plan (if_plan arms) parts
last_built steps store arms parts done number left block made behind is these built =
    by_rest steps store number (λ rest. arms_behind done rest left ≡ built_plan (if_plan arms) parts → Some (if_statement done (otherwise made), behind) ≡ built_plan (if_plan arms) parts) (Rest.Last block) these.rest is these.held
    (λ body held same.
    ap (λ (before : Branches). Some (if_statement before (otherwise made), behind)) (sym (branches_end done))
    ∙ ap (λ (found : Built Statements). if_behind done (last_with found)) (built body held)
    ∙ same)
    these.same

pub last_gone : (steps : List Step) (store : Store) (arms : ArmPlans) (parts : List Part) (done : Branches) (number : ℕ) (left : List Part) (block levels : ℕ) (unbuilt : Unbuilt) → Some (Rest.Last block) ≡ slice_get store.rests number
    → ArmsLeft steps store arms parts done number left → arm_levels steps arms + 1 ≤ levels
    → ((body : Plans) → BodyHeld steps store block body → body_levels steps body + 1 ≤ levels → IsGoneOnlyWhere (built_body body left ≡ None) unbuilt)
    → IsGoneOnlyWhere (built_plan (if_plan arms) parts ≡ None) unbuilt
last_gone steps store arms parts done number left block levels unbuilt is these enough gone =
    by_rest steps store number (λ rest. arms_behind done rest left ≡ built_plan (if_plan arms) parts → arm_levels steps rest ≤ arm_levels steps arms → IsGoneOnlyWhere (built_plan (if_plan arms) parts ≡ None) unbuilt) (Rest.Last block) these.rest is these.held
    (λ body held same lower. gone_where unbuilt
    (λ none. sym same ∙ ap (λ (found : Built Statements). if_behind done (last_with found)) none)
    (gone body held (omega (arith, lower, enough))))
    these.same these.lower

-- what stands behind an arm has a lower number
pub lower_behind : (steps : List Step) (store : Store) (number : ℕ) (arms : ArmPlans) (test : Option ℕ) (block behind : ℕ) → Some (Rest.Arm test block behind) ≡ slice_get store.rests number → ArmsHeld steps store number arms → behind < number
lower_behind steps store number arms test block behind is held = by_rest steps store number (λ arms. behind < number) (Rest.Arm test block behind) arms is held (λ condition body rest low tested block others. low)

pub test_gone : (steps : List Step) (store : Store) (arms : ArmPlans) (parts : List Part) (done : Branches) (number : ℕ) (left : List Part) (test : Option ℕ) (block behind : ℕ) (unbuilt : Unbuilt) → Some (Rest.Arm test block behind) ≡ slice_get store.rests number
    → ArmsLeft steps store arms parts done number left → ((condition : Option ConditionTree) → ConditionHeld store test condition → IsGoneOnlyWhere (built_condition condition left ≡ None) unbuilt)
    → IsGoneOnlyWhere (built_plan (if_plan arms) parts ≡ None) unbuilt
test_gone steps store arms parts done number left test block behind unbuilt is these gone =
    by_rest steps store number (λ rest. arms_behind done rest left ≡ built_plan (if_plan arms) parts → IsGoneOnlyWhere (built_plan (if_plan arms) parts ≡ None) unbuilt) (Rest.Arm test block behind) these.rest is these.held
    (λ condition body rest low tested held others same. gone_where unbuilt (λ none. sym same ∙ ap (λ (found : Option Joined). if_behind done (arm_with body rest found)) none) (gone condition tested))
    these.same

pub block_gone : (steps : List Step) (store : Store) (arms : ArmPlans) (parts : List Part) (done : Branches) (number : ℕ) (left : List Part) (test : Option ℕ) (block behind levels : ℕ) (made : Expression) (middle : List Part) (unbuilt : Unbuilt)
    → Some (Rest.Arm test block behind) ≡ slice_get store.rests number → ArmsLeft steps store arms parts done number left → arm_levels steps arms + 1 ≤ levels
    → ((condition : Option ConditionTree) → ConditionHeld store test condition → Some (made, middle) ≡ built_condition condition left)
    → ((body : Plans) → BodyHeld steps store block body → body_levels steps body + 1 ≤ levels → IsGoneOnlyWhere (built_body body middle ≡ None) unbuilt)
    → IsGoneOnlyWhere (built_plan (if_plan arms) parts ≡ None) unbuilt
block_gone steps store arms parts done number left test block behind levels made middle unbuilt is these enough tests gone =
    by_rest steps store number (λ rest. arms_behind done rest left ≡ built_plan (if_plan arms) parts → arm_levels steps rest ≤ arm_levels steps arms → IsGoneOnlyWhere (built_plan (if_plan arms) parts ≡ None) unbuilt) (Rest.Arm test block behind) these.rest is these.held
    (λ condition body rest low tested held others same lower. gone_where unbuilt
    (λ none. sym same ∙ sym (ap (λ (found : Option Joined). if_behind done (arm_with body rest found)) (tests condition tested)) ∙ ap (λ (found : Built Statements). if_behind done (arm_around made rest found)) none)
    (gone body held (omega (arith, lower, enough))))
    these.same these.lower

pub arm_view : (cond : Exp) (block : Block) (rest : Branches) → view_arm (roll-Arm (record { cond = cond; body = block })) rest ≡ branch (view_exp cond) (view_block block) rest
unfolding roll-Arm denote.Hole.Carrier.roll
arm_view cond block rest = refl

-- an arm more is built
pub arm_built : (steps : List Step) (store : Store) (arms : ArmPlans) (parts : List Part) (done : Branches) (number : ℕ) (left : List Part) (test : Option ℕ) (block behind : ℕ) (made : Expression) (middle : List Part) (inner : Statements) (after : List Part) (all : Branches)
    → Some (Rest.Arm test block behind) ≡ slice_get store.rests number → ArmsLeft steps store arms parts done number left
    → ((condition : Option ConditionTree) → ConditionHeld store test condition → Some (made, middle) ≡ built_condition condition left)
    → ((body : Plans) → BodyHeld steps store block body → Some (inner, after) ≡ built_body body middle)
    → all ≡ join_branches done (branch made inner no_branches) → ArmsLeft steps store arms parts all behind after
arm_built steps store arms parts done number left test block behind made middle inner after all is these tests built whole =
    by_rest steps store number (λ rest. arms_behind done rest left ≡ built_plan (if_plan arms) parts → arm_levels steps rest ≤ arm_levels steps arms → ArmsLeft steps store arms parts all behind after) (Rest.Arm test block behind) these.rest is these.held
    (λ condition body rest low tested held others same lower. record {
      rest = rest;
      held = others;
      same = ap (λ (those : Branches). if_behind those (built_arms rest after)) whole ∙ joined (built_arms rest after) ∙ ap (λ (found : Built Statements). if_behind done (arm_around made rest found)) (built body held) ∙ ap (λ (found : Option Joined). if_behind done (arm_with body rest found)) (tests condition tested) ∙ same;
      lower = omega (arith, lower);
    })
    these.same these.lower
  where
    joined : (found : Built (Branches × Otherwise)) → if_behind (join_branches done (branch made inner no_branches)) found ≡ if_behind done (arm_before made inner found)
    joined None = refl
    joined (Some more) = ap (λ (all : Branches). Some (if_statement all more.0.1, more.1)) (branches_next done made inner more.0.0)
