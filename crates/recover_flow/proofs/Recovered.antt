-- What is recovered of a function and of a chunk, from what the calls on the way give.
use Rattle.std.proofs.Common.{◌≡◌, ◌∙◌, ◌==◌, ◌+◌, ◌≤◌, ◌⊎◌, inl, inr, refl, sym, ap, subst, true≢false, not, ℕ, Bool, true, false, IsTrue, ◌↔◌, List, [], ◌∷◌, ◌++◌, map, Option, None, Some, Result, Ok, Err, IfErr, arith}
use Rattle.std.specs.Result.{IsErrAnd}
use Rattle.lua_num.specs.declared.names.Names.{Names}
use Rattle.lua_tree.specs.Syntax.{function_body, Source}
use Rattle.lua_tree.specs.WellFormed.{WellFormed}
use Rattle.lua_tree.specs.View.{view_block, view_body}
use Rattle.lua_tree.specs.declared.tree.Block.{Block}
use Rattle.lua_tree.specs.declared.tree.Body.{Body, Body', out-Body, roll-Body}
use Rattle.proto.specs.Chunk.{Chunk, Functions, function, own, functions, functions_of}
use Rattle.proto.specs.View.{view_proto}
use Rattle.proto.specs.declared.proto.Proto.{Proto, out-Proto}
use Rattle.proto.proofs.Views.{view_proto_fields}
use Rattle.core_expr.specs.Values.{Inner, view_recovered}
use Rattle.core_expr.specs.declared.bodies.Recovered.{Recovered}
use Rattle.recover_expr.specs.Drafts.{Part, view_part}
use Rattle.recover_expr.specs.Placing.{Steps, view_reading}
use Rattle.recover_expr.specs.Reading.{read_steps}
use Rattle.recover_expr.specs.declared.steps.Reading.{Reading}
use Rattle.recover_expr.specs.declared.steps.Step.{Step}
use Rattle.recover_flow.specs.Built.{built_body}
use Rattle.recover_flow.specs.Held.{BodyFound, BodyHeld, IsFewest, NoBody, Store, view_store}
use Rattle.recover_flow.specs.Parts.{IsGoneOnlyWhere}
use Rattle.recover_flow.specs.Plans.{Plans, no_plans, and_plan, body_levels}
use Rattle.recover_flow.specs.Recovering.{AreFound, IsFound, IsFunctionFound, IsMainFound, IsRefusedOnlyWhere, IsSourceFound, is_vararg, main_of}
use Rattle.recover_flow.specs.Searching.{Answers, BodyAnswer, Keeps, steps_of, store_of, whole_body}
use Rattle.recover_flow.specs.Stops.{TellsUnbuilt}
use Rattle.recover_flow.specs.declared.function.Stop.{Stop}
use Rattle.recover_flow.specs.Standing.{BodyStands}
use Rattle.recover_flow.specs.declared.memory.Memory.{Memory}
use Rattle.recover_flow.specs.declared.parts.Unbuilt.{Unbuilt}
use Rattle.recover_flow.specs.declared.plan.Found.{Found}
use Rattle.recover_flow.specs.declared.regions.BodyAt.{BodyAt}
use Rattle.recover_flow.specs.declared.search.Search.{Search}
use Rattle.recover_flow.proofs.Chained.{keeps_both, same_steps}
use Rattle.recover_flow.proofs.Growing.{body_found_grows}

-- ---- the search for fewer levels

-- what is known of the best body so far, where the levels between are to be tried up to the higher number: none needs the lower number, or fewer
pub record IsBest (before now : Search) (first best : Found) (lower high : ℕ) : Type 0 where
  pub keeps : Keeps before now
  pub fits : best.levels ≤ first.levels
  pub high_fits : high ≤ first.levels
  pub reached : best.levels ≤ high
  pub none : (lower ≡ 0) ⊎ NoBody (steps_of before) (whole_body (steps_of before)) lower
  pub found : BodyFound (steps_of before) (store_of now) (whole_body (steps_of before)) best

-- a better one is found, with fewer levels
pub better : (before now after : Search) (first best : Found) (lower high middle : ℕ) (found : Option Found) (next : Found) → IsBest before now first best lower high → middle ≤ high → Answers now after (BodyAnswer (whole_body (steps_of now)) middle found) → found ≡ Some next
    → (low : ℕ) → low ≤ middle → (next.levels ≤ middle → next.levels ≤ low) → IsBest before after first next lower low
better before now after first best lower high middle found next is below answers there low fewer least =
    let gives : (next.levels ≤ middle) × BodyFound (steps_of now) (store_of after) (whole_body (steps_of now)) next = subst (λ one. BodyAnswer (whole_body (steps_of now)) middle one (steps_of now) (store_of after)) there answers.gives in
    record {
      keeps = keeps_both before now after is.keeps answers.keeps;
      fits = omega (arith, gives.0, below, is.high_fits);
      high_fits = omega (arith, fewer, below, is.high_fits);
      reached = least gives.0;
      none = is.none;
      found = subst (λ steps. BodyFound steps (store_of after) (whole_body steps) next) (same_steps before now is.keeps) gives.1;
    }

-- none is found
pub none_better : (before now after : Search) (first best : Found) (lower high middle : ℕ) (found : Option Found) → IsBest before now first best lower high → Answers now after (BodyAnswer (whole_body (steps_of now)) middle found) → found ≡ None → IsBest before after first best middle high
none_better before now after first best lower high middle found is answers there = record {
  keeps = keeps_both before now after is.keeps answers.keeps;
  fits = is.fits;
  high_fits = is.high_fits;
  reached = is.reached;
  none = inr (subst (λ steps. NoBody steps (whole_body steps) middle) (same_steps before now is.keeps) (subst (λ one. BodyAnswer (whole_body (steps_of now)) middle one (steps_of now) (store_of after)) there answers.gives));
  found = body_found_grows (steps_of before) answers.keeps.grows (whole_body (steps_of before)) best is.found;
}

-- where no step is, nothing stands but no statements
some_levels : (steps : List Step) (at : BodyAt) (body other : Plans) → BodyStands steps at body → BodyStands steps at other → body_levels steps body ≤ 1 → body_levels steps body ≤ body_levels steps other
some_levels steps at no_plans other stands there few = omega arith
some_levels steps at (and_plan plan rest) no_plans stands there few = absurd (stands.0 there)
some_levels steps at (and_plan plan rest) (and_plan next others) stands there few = omega (arith, few)

-- where no levels are left between, it is one of the fewest
pub is_fewest : (before now : Search) (first best : Found) (lower high : ℕ) → IsBest before now first best lower high → high ≤ lower + 1 → IsFewest (steps_of before) (whole_body (steps_of before)) best.levels
is_fewest before now first best lower high is near other stands = by is.none
  where
    by : (lower ≡ 0) ⊎ NoBody (steps_of before) (whole_body (steps_of before)) lower → best.levels ≤ body_levels (steps_of before) other
    by (inl zero_is) =
        let reached = is.reached in
        let levels = is.found.levels in
        let least = some_levels (steps_of before) (whole_body (steps_of before)) is.found.body other is.found.stands stands (omega (arith, reached, levels, near, zero_is)) in
        omega (arith, levels, least)
    by (inr none) = let more = none other stands in let reached = is.reached in omega (arith, more, reached, near)

-- ---- from the steps to the body

-- one of the fewest levels, of the body that was found first
pub best_found : (search between after : Search) (found : Option Found) (first best : Found) (list : List Step) (memory : Memory) → steps_of search ≡ list → memory ≡ after.memory → Answers search between (BodyAnswer (whole_body (steps_of search)) 200 found) → found ≡ Some first
    → Answers between after (BodyAnswer (whole_body (steps_of between)) first.levels (Some best)) → (best.levels ≤ 200) × BodyFound list (view_store memory) (whole_body list) best
best_found search between after found first best list memory are same answers there later =
    let gives : (first.levels ≤ 200) × BodyFound (steps_of search) (store_of between) (whole_body (steps_of search)) first = subst (λ one. BodyAnswer (whole_body (steps_of search)) 200 one (steps_of search) (store_of between)) there answers.gives in
    let there_now = subst (λ steps. BodyFound steps (store_of after) (whole_body steps) best) (same_steps search between answers.keeps ∙ are) later.gives.1 in
    (omega (arith, gives.0, later.gives.0), subst (λ held. BodyFound list (view_store held) (whole_body list) best) (sym same) there_now)

-- the plans of a body that is held are not built
pub unbuilt : (chunk : Chunk) (left : List (Option Inner)) (short : Bool) (steps : Steps) (store : Store) (parts : List Part) (best : Found) (error : Unbuilt)
    → Some steps ≡ read_steps chunk left short → parts ≡ steps.parts → (best.levels ≤ 200) × BodyFound steps.steps store (whole_body steps.steps) best
    → ((list : List Step) (plans : Plans) → BodyHeld list store best.number plans → body_levels list plans ≤ 200 → IsGoneOnlyWhere (built_body plans parts ≡ None) error)
    → (stop : Stop) → TellsUnbuilt error stop → IsRefusedOnlyWhere chunk left short stop
unbuilt chunk left short steps store parts best Unbuilt.Gone read same found gone stop tells =
    let body = found.1.body in
    let fits : body_levels steps.steps body ≤ 200 = omega (arith, found.0, found.1.levels) in
    let none = gone steps.steps body found.1.held fits in
    subst (IsRefusedOnlyWhere chunk left short) (sym tells) (inr (steps, sym read, inr (body, found.1.stands, fits, subst (λ those. built_body body those ≡ None) same none)))
unbuilt chunk left short steps store parts best Unbuilt.OutOfMemory read same found gone stop tells = subst (IsRefusedOnlyWhere chunk left short) (sym tells) tt

-- on the way out of the function
pub refused_as : {T : Type 0} (result : Result T Stop) (tells holds : Stop → Type 0) → IsErrAnd result tells → ((stop : Stop) → tells stop → holds stop) → IfErr result holds
refused_as (Ok made) tells holds is says = tt
refused_as (Err stop) tells holds is says = says stop is

body_made : (params : Names) (vararg : Bool) (block : Block) →
    view_body (roll-Body (record { params = params; vararg = vararg; block = block; first_line = 1; last_line = 1 })) ≡ function_body params vararg (view_block block) 1 1
unfolding roll-Body denote.Hole.Carrier.roll
body_made params vararg block = refl

vararg_is : (proto : Proto) → not ((out-Proto proto).vararg == 0) ≡ is_vararg (view_proto proto)
vararg_is proto = ap (λ chunk. not ((own chunk).flags == 0)) (sym (view_proto_fields proto))

-- and the plans are built
pub function_found : (proto : Proto) (left : List (Option Inner)) (short : Bool) (reading : Reading) (store : Store) (parts behind : List Part) (best : Found) (block : Block)
    → Some (view_reading reading) ≡ read_steps (view_proto proto) left short → parts ≡ map view_part reading.parts.items → (best.levels ≤ 200) × BodyFound reading.steps.items store (whole_body reading.steps.items) best
    → ((list : List Step) (plans : Plans) → BodyHeld list store best.number plans → Some (view_block block, behind) ≡ built_body plans parts)
    → (short ≡ true → IsFewest reading.steps.items (whole_body reading.steps.items) best.levels)
    → IsFunctionFound (view_proto proto) left short (view_recovered (record { body = roll-Body (record { params = reading.params; vararg = not ((out-Proto proto).vararg == 0); block = block; first_line = 1; last_line = 1 }); levels = best.levels }))
function_found proto left short reading store parts behind best block read same found built fewest =
    let body = found.1.body in
    record {
      steps = view_reading reading;
      plans = body;
      statements = view_block block;
      behind = behind;
      read = sym read;
      stands = found.1.stands;
      fits = omega (arith, found.0, found.1.levels);
      built = subst (λ those. built_body body those ≡ Some (view_block block, behind)) same (sym (built reading.steps.items body found.1.held));
      body = body_made reading.params _ block ∙ ap (λ vararg. function_body reading.params vararg (view_block block) 1 1) (vararg_is proto);
      levels = found.1.levels;
      fewest = fewest;
    }

-- ---- a function and those in it

-- it is found behind those in it
pub found_behind : (short : Bool) (chunk : Chunk) (inner : Functions) (left : List (Option Inner)) (found : Inner) → functions chunk ≡ inner → AreFound short inner left → IsFunctionFound chunk left short found → IsFound short chunk found
found_behind short (function f within) inner left found same are is = (left, subst (λ those. AreFound short those left) (sym same) are, is)

-- one more is found
pub one_more_found : (short : Bool) (protos : List Proto) (left : List (Option Inner)) (proto : Proto) (found : Inner) → AreFound short (functions_of (map view_proto protos)) left → IsFound short (view_proto proto) found
    → AreFound short (functions_of (map view_proto (protos ++ proto ∷ []))) (left ++ Some found ∷ [])
one_more_found short [] left proto found none is = (found, [], is, refl, ap (λ those. those ++ Some found ∷ []) none)
one_more_found short (first ∷ protos) left proto found (first_found, others, first_is, are, same) is =
    (first_found, others ++ Some found ∷ [], first_is, one_more_found short protos others proto found are is, ap (λ those. those ++ Some found ∷ []) same)

-- ---- a chunk

main_made : (body : Body) → main_of (view_body body) ≡ record { body = view_block (out-Body body).block; last_line = 1 }
unfolding out-Body denote.Hole.Carrier.out
main_made (Body' params vararg block first last) = refl

-- the tree has the block of the function
pub source_found : (chunk : Chunk) (found : Recovered) → IsMainFound chunk (view_recovered found) → IsSourceFound chunk (record { body = view_block (out-Body found.body).block; last_line = 1 })
source_found chunk found is = record { found = view_recovered found; function = is; is_main = sym (main_made found.body) }

pub not_formed : (result : Bool) (source : Source) → IsTrue result ↔ WellFormed source → result ≡ false → WellFormed source → ⊥
not_formed result source formed is holds = true≢false (sym (formed.1 holds) ∙ is)
