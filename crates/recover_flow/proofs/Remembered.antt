-- What the memory knows behind a part that was looked for.
use Rattle.std.proofs.Common.{rules, ◌≡◌, ◌∙◌, refl, sym, ap, subst, ℕ, zero, suc, Bool, true, false, cond, List, [], ◌∷◌, ◌++◌, length, map, slice_get, Option, None, Some, arith}
use Rattle.std.specs.Global.{Vec}
use Rattle.std.specs.HashMap.{HashMap, get, Updates}
use Rattle.std.proofs.lemmas.List.{length-map}
use Rattle.std.proofs.lemmas.Option.{none-some, same_Some}
use Rattle.recover_expr.specs.declared.steps.Step.{Step}
use Rattle.recover_flow.specs.Conditions.{view_condition, condition_of, condition_levels}
use Rattle.recover_flow.specs.Held.{Store, view_store, BodyHeld, PlansHeld, BodyFound, NoBody, BranchesFound, NoBranches, KnownFound, KnownFailed, IsKnown, ConditionFound}
use Rattle.recover_flow.specs.Plans.{Plans, no_plans, and_plan, body_levels}
use Rattle.recover_flow.specs.Searching.{IsRight, Grows, BodyAnswer, BranchesAnswer, StatementsFound, Keeping, highest_of, RestKept, body_known, branches_known, known_with, or_nothing}
use Rattle.recover_flow.specs.contracts.regions.BodyAtPartialEq.TheImpl.{eq-value as body_eq}
use Rattle.recover_flow.specs.contracts.regions.BranchesAtPartialEq.TheImpl.{eq-value as branches_eq}
use Rattle.recover_flow.specs.contracts.regions.ConditionAtPartialEq.TheImpl.{eq-value as condition_eq}
use Rattle.recover_flow.specs.declared.conditions.Condition.{Condition}
use Rattle.recover_flow.specs.declared.memory.Known.{Known}
use Rattle.recover_flow.specs.declared.memory.Memory.{Memory}
use Rattle.recover_flow.specs.declared.plan.Found.{Found}
use Rattle.recover_flow.specs.declared.plan.Planned.{Planned}
use Rattle.recover_flow.specs.declared.plan.Rest.{Rest}
use Rattle.recover_flow.specs.declared.regions.BodyAt.{BodyAt}
use Rattle.recover_flow.specs.declared.regions.BranchesAt.{BranchesAt}
use Rattle.recover_flow.specs.declared.regions.ConditionAt.{ConditionAt}
use Rattle.recover_flow.proofs.Growing.{grows_same, grows_both, body_found_grows, branches_found_grow, condition_found_grows, known_grows, plans_grow}
use Rattle.recover_flow.proofs.Levels.{highest_held}

-- ---- equal places are the same

pub same_body : (first second : BodyAt) → body_eq.it first second ≡ true → first ≡ second
same_body first second e = search rules

pub same_branches : (first second : BranchesAt) → branches_eq.it first second ≡ true → first ≡ second
same_branches first second e = search rules

pub same_condition : (first second : ConditionAt) → condition_eq.it first second ≡ true → first ≡ second
same_condition first second e = search rules

-- ---- an answer more

-- an entry that is put in, and the others
pub entry_put : {K X S : Type 0} (eq : K → K → Bool) → ((first second : K) → eq first second ≡ true → first ≡ second) → (P : K → X → Type 0) (before after : HashMap K X S) (key : K) (value : X) →
    Updates eq before after key (Some value) → ((at : K) (found : X) → get eq before at ≡ Some found → P at found) → P key value → (at : K) (found : X) → get eq after at ≡ Some found → P at found
entry_put eq same P before after key value puts old new at found is = by (eq key at) refl
  where
    by : (b : Bool) → eq key at ≡ b → P at found
    by true here = subst (λ k. P k found) (same key at here) (subst (λ v. P key v) (same_Some value found (sym (ap (λ b. cond b (Some value) (get eq before at)) here) ∙ sym (puts.0 at) ∙ is)) new)
    by false other = old at found (sym (ap (λ b. cond b (Some value) (get eq before at)) other) ∙ sym (puts.0 at) ∙ is)

-- what is known at a place, where it may be nothing
known_at : {is_found : Found → Type 0} {is_none : ℕ → Type 0} (known : Option Known) → ((one : Known) → known ≡ Some one → IsKnown is_found is_none one) → IsKnown is_found is_none (or_nothing known)
known_at None is = record { found = tt; failed = tt }
known_at (Some known) is = is known refl

body_more : (steps : List Step) (store : Store) (at : BodyAt) (levels : ℕ) (found : Option Found) (known : Known) → IsKnown (BodyFound steps store at) (NoBody steps at) known → BodyAnswer at levels found steps store
    → IsKnown (BodyFound steps store at) (NoBody steps at) (known_with levels found known)
body_more steps store at levels None known is answer = record { found = is.found; failed = answer }
body_more steps store at levels (Some found) known is answer = record { found = answer.1; failed = is.failed }

branches_more : (steps : List Step) (store : Store) (at : BranchesAt) (levels : ℕ) (found : Option Found) (known : Known) → IsKnown (BranchesFound steps store at) (NoBranches steps at) known → BranchesAnswer at levels found steps store
    → IsKnown (BranchesFound steps store at) (NoBranches steps at) (known_with levels found known)
branches_more steps store at levels None known is answer = record { found = is.found; failed = answer }
branches_more steps store at levels (Some found) known is answer = record { found = answer.1; failed = is.failed }

-- the memory with a body that was looked for
pub body_remembered : (steps : List Step) (memory : Memory) (at : BodyAt) (levels : ℕ) (found : Option Found) (known : _) (value : Known) → value ≡ known_with levels found (or_nothing (body_known memory at)) → Updates body_eq.it memory.known_bodies known at (Some value)
    → IsRight steps memory → BodyAnswer at levels found steps (view_store memory) → Keeping steps memory (record memory { known_bodies = known }) (BodyAnswer at levels found)
body_remembered steps memory at levels found known value is puts right answer = record {
  right = record {
    empty_body = right.empty_body;
    no_rest = right.no_rest;
    empty_last = right.empty_last;
    bodies = entry_put body_eq.it same_body (λ at known. IsKnown (BodyFound steps (view_store memory) at) (NoBody steps at) known) memory.known_bodies known at value puts right.bodies
        (subst (λ one. IsKnown (BodyFound steps (view_store memory) at) (NoBody steps at) one) (sym is) (body_more steps (view_store memory) at levels found (or_nothing (body_known memory at)) (known_at (body_known memory at) (right.bodies at)) answer));
    branches = right.branches;
    conditions = right.conditions;
  };
  grows = grows_same (view_store memory);
  gives = answer;
}

pub branches_remembered : (steps : List Step) (memory : Memory) (at : BranchesAt) (levels : ℕ) (found : Option Found) (known : _) (value : Known) → value ≡ known_with levels found (or_nothing (branches_known memory at)) → Updates branches_eq.it memory.known_branches known at (Some value)
    → IsRight steps memory → BranchesAnswer at levels found steps (view_store memory) → Keeping steps memory (record memory { known_branches = known }) (BranchesAnswer at levels found)
branches_remembered steps memory at levels found known value is puts right answer = record {
  right = record {
    empty_body = right.empty_body;
    no_rest = right.no_rest;
    empty_last = right.empty_last;
    bodies = right.bodies;
    branches = entry_put branches_eq.it same_branches (λ at known. IsKnown (BranchesFound steps (view_store memory) at) (NoBranches steps at) known) memory.known_branches known at value puts right.branches
        (subst (λ one. IsKnown (BranchesFound steps (view_store memory) at) (NoBranches steps at) one) (sym is) (branches_more steps (view_store memory) at levels found (or_nothing (branches_known memory at)) (known_at (branches_known memory at) (right.branches at)) answer));
    conditions = right.conditions;
  };
  grows = grows_same (view_store memory);
  gives = answer;
}

-- ---- what was found has grown

right_grows : (steps : List Step) (memory : Memory) (after : Memory) → Grows (view_store memory) (view_store after) → after.known_bodies ≡ memory.known_bodies → after.known_branches ≡ memory.known_branches → after.known_conditions ≡ memory.known_conditions
    → IsRight steps memory → IsRight steps after
right_grows steps memory after grows bodies branches conditions right = record {
  empty_body = grows.bodies 0 [] right.empty_body;
  no_rest = grows.rests 0 Rest.Nothing right.no_rest;
  empty_last = grows.rests 1 (Rest.Last 0) right.empty_last;
  bodies = λ at known is. known_grows (body_found_grows steps grows at) known (right.bodies at known (ap (λ map. get body_eq.it map at) (sym bodies) ∙ is));
  branches = λ at known is. known_grows (branches_found_grow steps grows at) known (right.branches at known (ap (λ map. get branches_eq.it map at) (sym branches) ∙ is));
  conditions = λ at found is. condition_found_grows steps grows at found (right.conditions at found (ap (λ map. get condition_eq.it map at) (sym conditions) ∙ is));
}

-- one more behind the others
pub there_still : {X : Type 0} (list : List X) (one : X) (number : ℕ) (held : X) → slice_get list number ≡ Some held → slice_get (list ++ one ∷ []) number ≡ Some held
there_still [] one zero held there = absurd (none-some held there)
there_still [] one (suc number) held there = absurd (none-some held there)
there_still (first ∷ list) one zero held there = there
there_still (first ∷ list) one (suc number) held there = there_still list one number held there

pub one_there : {X : Type 0} (list : List X) (one : X) → slice_get (list ++ one ∷ []) (length list) ≡ Some one
one_there [] one = refl
one_there (first ∷ list) one = one_there list one

pub rest_remembered : (steps : List Step) (memory : Memory) (rests : Vec Rest) (rest : Rest) → rests.items ≡ memory.rests.items ++ rest ∷ [] → IsRight steps memory → (number : ℕ) → number ≡ length memory.rests.items
    → Keeping steps memory (record memory { rests = rests }) (RestKept number rest)
rest_remembered steps memory rests rest are right number is =
    let grows : Grows (view_store memory) (view_store (record memory { rests = rests })) = record {
      bodies = λ number body held. held;
      rests = λ number one held. ap (λ list. slice_get list number) are ∙ there_still memory.rests.items rest number one held;
      conditions = λ number condition held. held;
    } in
    record {
      right = right_grows steps memory (record memory { rests = rests }) grows refl refl refl right;
      grows = grows;
      gives = ap (λ n. slice_get rests.items n) is ∙ ap (λ list. slice_get list (length memory.rests.items)) are ∙ one_there memory.rests.items rest;
    }

-- ---- a body or a condition that was found

mapped_more : {X Y : Type 0} (view : X → Y) (list : List X) (one : X) → map view (list ++ one ∷ []) ≡ map view list ++ view one ∷ []
mapped_more view [] one = refl
mapped_more view (first ∷ list) one = ap (λ rest. view first ∷ rest) (mapped_more view list one)

-- the views of a list with one more
views_more : {X Y : Type 0} (view : X → Y) (before after : List X) (one : X) → after ≡ before ++ one ∷ [] → map view after ≡ map view before ++ view one ∷ []
views_more view before after one are = ap (map view) are ∙ mapped_more view before one

still_viewed : {X Y : Type 0} (view : X → Y) (before after : List X) (one : X) → after ≡ before ++ one ∷ [] → (number : ℕ) (held : Y) → slice_get (map view before) number ≡ Some held → slice_get (map view after) number ≡ Some held
still_viewed view before after one are number held there = ap (λ list. slice_get list number) (views_more view before after one are) ∙ there_still (map view before) (view one) number held there

one_viewed : {X Y : Type 0} (view : X → Y) (before after : List X) (one : X) → after ≡ before ++ one ∷ [] → slice_get (map view after) (length before) ≡ Some (view one)
one_viewed view before after one are =
    ap (λ list. slice_get list (length before)) (views_more view before after one are) ∙ ap (slice_get (map view before ++ view one ∷ [])) (sym (length-map before view)) ∙ one_there (map view before) (view one)

-- statements that stand under a number are a body
pub held_body : (steps : List Step) (store : Store) (number : ℕ) (statements : List Planned) (plans : Plans) → slice_get store.bodies number ≡ Some statements → PlansHeld steps store statements plans → BodyHeld steps store number plans
held_body steps store number [] no_plans there held = there
held_body steps store number [] (and_plan plan rest) there held = absurd held
held_body steps store number (planned ∷ later) no_plans there held = absurd held
held_body steps store number (planned ∷ later) (and_plan plan rest) there held = (planned, later, there, held.0, held.1, held.2)

pub body_kept : (steps : List Step) (before pushed after : Memory) (at : BodyAt) (levels : ℕ) (statements : Vec Planned) (found : Found) → pushed ≡ record before { bodies = pushed.bodies }
    → pushed.bodies.items ≡ before.bodies.items ++ statements ∷ [] → found ≡ record { number = length before.bodies.items; levels = highest_of statements.items 1 } → IsRight steps before
    → StatementsFound steps (view_store before) at levels statements.items → (IsRight steps pushed → BodyAnswer at levels (Some found) steps (view_store pushed) → Keeping steps pushed after (BodyAnswer at levels (Some found)))
    → Keeping steps before after (BodyAnswer at levels (Some found))
body_kept steps before pushed after at levels statements found others are is right these keep =
    let grows : Grows (view_store before) (view_store pushed) = record {
      bodies = still_viewed (λ (one : Vec Planned). one.items) before.bodies.items pushed.bodies.items statements are;
      rests = λ number rest held. ap (λ (memory : Memory). slice_get memory.rests.items number) others ∙ held;
      conditions = λ number condition held. ap (λ (memory : Memory). slice_get (map view_condition memory.conditions.items) number) others ∙ held;
    } in
    let there : slice_get (view_store pushed).bodies found.number ≡ Some statements.items = ap (λ (one : Found). slice_get (view_store pushed).bodies one.number) is ∙ one_viewed (λ (one : Vec Planned). one.items) before.bodies.items pushed.bodies.items statements are in
    let highest : found.levels ≡ body_levels steps (and_plan these.first these.rest) =
    ap (λ (one : Found). one.levels) is ∙ highest_held steps (view_store before) statements.items (and_plan these.first these.rest) 1 (omega arith) these.held ∙ omega arith in
    let kept = keep
    (right_grows steps before pushed grows (ap (λ (memory : Memory). memory.known_bodies) others) (ap (λ (memory : Memory). memory.known_branches) others) (ap (λ (memory : Memory). memory.known_conditions) others) right) (
      omega (arith, highest, these.fits),
      record { body = and_plan these.first these.rest; stands = these.stands; held = held_body steps (view_store pushed) found.number statements.items (and_plan these.first these.rest) there (plans_grow steps grows statements.items (and_plan these.first these.rest) these.held); levels = highest },
    ) in
    record { right = kept.right; grows = grows_both grows kept.grows; gives = kept.gives }

-- a condition that was looked for, where it is one
pub condition_kept : (steps : List Step) (before : Memory) (conditions : Vec Condition) (known : _) (at : ConditionAt) (condition : Condition) (found : Found) → conditions.items ≡ before.conditions.items ++ condition ∷ []
    → found.number ≡ length before.conditions.items → found.levels ≡ condition_levels steps (view_condition condition) → Updates condition_eq.it before.known_conditions known at (Some (Some found)) → IsRight steps before
    → condition_of steps at ≡ Some (view_condition condition) → Keeping steps before (record before { conditions = conditions; known_conditions = known }) (λ steps store. ConditionFound steps store at (Some found))
condition_kept steps before conditions known at condition found are number levels puts right is =
    let pushed : Memory = record before { conditions = conditions } in
    let grows : Grows (view_store before) (view_store pushed) = record {
      bodies = λ number body held. held;
      rests = λ number rest held. held;
      conditions = still_viewed view_condition before.conditions.items conditions.items condition are;
    } in
    let answer : ConditionFound steps (view_store pushed) at (Some found) = (view_condition condition, is, ap (slice_get (map view_condition conditions.items)) number ∙ one_viewed view_condition before.conditions.items conditions.items condition are, levels) in
    let still : IsRight steps pushed = right_grows steps before pushed grows refl refl refl right in
    record {
      right = record {
        empty_body = still.empty_body;
        no_rest = still.no_rest;
        empty_last = still.empty_last;
        bodies = still.bodies;
        branches = still.branches;
        conditions = entry_put condition_eq.it same_condition (λ at found. ConditionFound steps (view_store pushed) at found) before.known_conditions known at (Some found) puts still.conditions answer;
      };
      grows = grows;
      gives = answer;
    }

-- where it is none
pub no_condition_kept : (steps : List Step) (before : Memory) (known : _) (at : ConditionAt) → Updates condition_eq.it before.known_conditions known at (Some None) → IsRight steps before → condition_of steps at ≡ None
    → Keeping steps before (record before { known_conditions = known }) (λ steps store. ConditionFound steps store at None)
no_condition_kept steps before known at puts right is = record {
  right = record {
    empty_body = right.empty_body;
    no_rest = right.no_rest;
    empty_last = right.empty_last;
    bodies = right.bodies;
    branches = right.branches;
    conditions = entry_put condition_eq.it same_condition (λ at found. ConditionFound steps (view_store before) at found) before.known_conditions known at None puts right.conditions is;
  };
  grows = grows_same (view_store before);
  gives = is;
}
