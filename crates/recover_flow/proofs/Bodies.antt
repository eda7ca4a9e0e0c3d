-- Bodies and blocks: what is known of them, and what is found or not.
use Rattle.std.proofs.Common.{◌≡◌, ◌∙◌, ◌≤◌, ◌<◌, ◌-◌, ◌^◌, inl, inr, refl, sym, ap, subst, true≢false, ℕ, Bool, true, false, nat_le, List, [], ◌∷◌, Option, None, Some, arith}
use Rattle.std.specs.Prelude.{if◌then◌else◌}
use Rattle.std.proofs.lemmas.Bool.Decides.{nat_tests}
use Rattle.std.proofs.lemmas.Option.{none-some, same_Some}
use Rattle.recover_expr.specs.declared.steps.Step.{Step}
use Rattle.recover_flow.specs.Held.{Store, IsKnown, KnownFailed, KnownFound, BodyFound, NoBody, BranchesFound, NoBranches, view_store}
use Rattle.recover_flow.specs.Plans.{Plans, no_plans, and_plan, ArmPlans, if_plan, body_levels, plan_levels, arm_levels}
use Rattle.recover_flow.specs.Searching.{BlockAnswer, BlockFound, BodyAnswer, BranchesAnswer, IfAnswer, IsRight, NoBlock, NoIf, NoLastIf, LastIfAnswer, body_known, branches_known, recall_failed_of, recall_found, recalled, if_planned}
use Rattle.recover_flow.specs.Standing.{BlockStands, BodyStands, BranchesStand, branches_used, last_branches, with_used}
use Rattle.recover_flow.specs.declared.memory.Known.{Known}
use Rattle.recover_flow.specs.declared.memory.Memory.{Memory}
use Rattle.recover_flow.specs.declared.memory.Recalled.{Recalled}
use Rattle.recover_flow.specs.declared.plan.Found.{Found}
use Rattle.recover_flow.specs.declared.regions.BlockAt.{BlockAt}
use Rattle.recover_flow.specs.declared.regions.BodyAt.{BodyAt}
use Rattle.recover_flow.specs.declared.regions.BranchesAt.{BranchesAt}
use Rattle.recover_flow.specs.declared.regions.Piece.{Piece}
use Rattle.recover_flow.proofs.Levels.{body_from_one, branches_from_one}

-- ---- what is recalled

abbrev found_in : Recalled → Option Found
found_in (Recalled.Found found) = Some found
found_in recalled = None

abbrev has_failed : Recalled → Bool
has_failed Recalled.Failed = true
has_failed recalled = false

-- what was found before, if it has no more levels
pub recalled_found : (is_found : Found → Type 0) (is_none : ℕ → Type 0) (levels : ℕ) (known : Option Known) (found : Found) → ((one : Known) → known ≡ Some one → IsKnown is_found is_none one) → recalled levels known ≡ Recalled.Found found
    → (found.levels ≤ levels) × is_found found
recalled_found is_found is_none levels None found right is = absurd (none-some found (ap found_in is))
recalled_found is_found is_none levels (Some one) found right is = by_found one.found (right one refl).found is
  where
    by_failed : {X : Type 0} (failed : Option ℕ) → recall_failed_of levels failed ≡ Recalled.Found found → X
    by_failed None e = absurd (none-some found (ap found_in e))
    by_failed (Some n) e = by_test (nat_le levels n) e
      where
        by_test : {X : Type 0} (b : Bool) → (if b then Recalled.Failed else Recalled.Unknown) ≡ Recalled.Found found → X
        by_test true e = absurd (none-some found (ap found_in e))
        by_test false e = absurd (none-some found (ap found_in e))

    by_found : (before : Option Found) → KnownFound is_found before → recall_found levels one before ≡ Recalled.Found found → (found.levels ≤ levels) × is_found found
    by_found None known e = by_failed one.failed e
    by_found (Some other) known e = by_fits (nat_le other.levels levels) refl e
      where
        by_fits : (b : Bool) → nat_le other.levels levels ≡ b → (if b then Recalled.Found other else recall_failed_of levels one.failed) ≡ Recalled.Found found → (found.levels ≤ levels) × is_found found
        by_fits true fits e =
            let same : other ≡ found = same_Some other found (ap found_in e) in
            subst (λ that. (that.levels ≤ levels) × is_found that) same (grind (arith, nat_tests), known)
        by_fits false fits e = by_failed one.failed e

-- the number of levels with which none was found, which is no less
pub recalled_failed : (is_found : Found → Type 0) (is_none : ℕ → Type 0) (levels : ℕ) (known : Option Known) → ((one : Known) → known ≡ Some one → IsKnown is_found is_none one) → recalled levels known ≡ Recalled.Failed → (n : ℕ) × (levels ≤ n) × is_none n
recalled_failed is_found is_none levels None right is = absurd (true≢false (sym (ap has_failed is)))
recalled_failed is_found is_none levels (Some one) right is = by_found one.found is
  where
    by_failed : (failed : Option ℕ) → KnownFailed is_none failed → recall_failed_of levels failed ≡ Recalled.Failed → (n : ℕ) × (levels ≤ n) × is_none n
    by_failed None known e = absurd (true≢false (sym (ap has_failed e)))
    by_failed (Some n) known e = by_test (nat_le levels n) refl e
      where
        by_test : (b : Bool) → nat_le levels n ≡ b → (if b then Recalled.Failed else Recalled.Unknown) ≡ Recalled.Failed → (n : ℕ) × (levels ≤ n) × is_none n
        by_test true within e = (n, grind (arith, nat_tests), known)
        by_test false within e = absurd (true≢false (sym (ap has_failed e)))

    by_found : (before : Option Found) → recall_found levels one before ≡ Recalled.Failed → (n : ℕ) × (levels ≤ n) × is_none n
    by_found None e = by_failed one.failed (right one refl).failed e
    by_found (Some other) e = by_fits (nat_le other.levels levels) e
      where
        by_fits : (b : Bool) → (if b then Recalled.Found other else recall_failed_of levels one.failed) ≡ Recalled.Failed → (n : ℕ) × (levels ≤ n) × is_none n
        by_fits true e = absurd (none-some other (sym (ap found_in e)))
        by_fits false e = by_failed one.failed (right one refl).failed e

pub body_recalled : (steps : List Step) (memory : Memory) (at : BodyAt) (levels : ℕ) (found : Found) → IsRight steps memory → recalled levels (body_known memory at) ≡ Recalled.Found found → BodyAnswer at levels (Some found) steps (view_store memory)
body_recalled steps memory at levels found right is = recalled_found (BodyFound steps (view_store memory) at) (NoBody steps at) levels (body_known memory at) found (right.bodies at) is

pub body_failed : (steps : List Step) (memory : Memory) (at : BodyAt) (levels : ℕ) → IsRight steps memory → recalled levels (body_known memory at) ≡ Recalled.Failed → BodyAnswer at levels None steps (view_store memory)
body_failed steps memory at levels right is =
    let failed = recalled_failed (BodyFound steps (view_store memory) at) (NoBody steps at) levels (body_known memory at) (right.bodies at) is in
    λ body stands. omega (arith, failed.1, failed.2 body stands)

pub branches_recalled : (steps : List Step) (memory : Memory) (at : BranchesAt) (levels : ℕ) (found : Found) → IsRight steps memory → recalled levels (branches_known memory at) ≡ Recalled.Found found → BranchesAnswer at levels (Some found) steps (view_store memory)
branches_recalled steps memory at levels found right is = recalled_found (BranchesFound steps (view_store memory) at) (NoBranches steps at) levels (branches_known memory at) found (right.branches at) is

pub branches_failed : (steps : List Step) (memory : Memory) (at : BranchesAt) (levels : ℕ) → IsRight steps memory → recalled levels (branches_known memory at) ≡ Recalled.Failed → BranchesAnswer at levels None steps (view_store memory)
branches_failed steps memory at levels right is =
    let failed = recalled_failed (BranchesFound steps (view_store memory) at) (NoBranches steps at) levels (branches_known memory at) (right.branches at) is in
    λ arms stand. omega (arith, failed.1, failed.2 arms stand)

-- ---- bodies

-- without statements
pub empty_found : (steps : List Step) (memory : Memory) (at : BodyAt) (levels : ℕ) → at.from ≡ at.to → IsRight steps memory → BodyAnswer at levels (Some (record { number = 0; levels = 0 })) steps (view_store memory)
empty_found steps memory at levels same right = (omega arith, record { body = no_plans; stands = same; held = right.empty_body; levels = refl })

-- a statement needs a level
pub no_levels : (steps : List Step) (store : Store) (at : BodyAt) → (at.from ≡ at.to → ⊥) → BodyAnswer at 0 None steps store
no_levels steps store at apart no_plans stands = absurd (apart stands)
no_levels steps store at apart (and_plan plan rest) stands = omega (arith, body_from_one steps plan rest)

-- ---- blocks

block_body : (steps : List Step) (store : Store) (block : BlockAt) (at : BodyAt) (levels : ℕ) (found : Found) → ((body : Plans) → BodyStands steps (with_used steps at) body → BlockStands steps block body)
    → BodyAnswer (with_used steps at) levels (Some found) steps store → BlockAnswer block levels (Some found) steps store
block_body steps store block at levels found in_block (fits, is) = (fits, record { body = is.body; stands = in_block is.body is.stands; held = is.held; levels = is.levels })

pub whole_found : (steps : List Step) (store : Store) (block : BlockAt) (levels : ℕ) (found : Found) → BodyAnswer (with_used steps block.whole) levels (Some found) steps store → BlockAnswer block levels (Some found) steps store
whole_found steps store block levels found answer = block_body steps store block block.whole levels found (λ body stands. inr stands) answer

pub closed_body_found : (steps : List Step) (store : Store) (block : BlockAt) (at : BodyAt) (levels : ℕ) (found : Found) → block.closed ≡ Some at → BodyAnswer (with_used steps at) levels (Some found) steps store → BlockAnswer block levels (Some found) steps store
closed_body_found steps store block at levels found is answer = block_body steps store block at levels found (λ body stands. inl (at, is, stands)) answer

pub block_none : (steps : List Step) (block : BlockAt) (levels : ℕ) → ((at : BodyAt) → block.closed ≡ Some at → NoBody steps (with_used steps at) levels) → NoBody steps (with_used steps block.whole) levels → NoBlock steps block levels
block_none steps block levels closed whole body (inl stands) = closed stands.0 stands.1 body stands.2
block_none steps block levels closed whole body (inr stands) = whole body stands

-- ---- an `if`

pub if_answer : (steps : List Step) (store : Store) (at : BranchesAt) (levels : ℕ) (found : Found) → 1 < levels → levels < 2 ^ 32 → BranchesAnswer (branches_used steps at) (levels - 1) (Some found) steps store → IfAnswer at levels (Some (if_planned found)) steps store
if_answer steps store at levels found some few (fits, is) =
    (omega (arith, some, few, fits), record { arms = is.arms; stand = is.stand; held = (found.number, refl, is.held); levels = omega (arith, some, few, fits, is.levels) })

pub if_none : (steps : List Step) (store : Store) (at : BranchesAt) (levels : ℕ) → 1 < levels → BranchesAnswer (branches_used steps at) (levels - 1) None steps store → IfAnswer at levels None steps store
if_none steps store at levels some none arms stand = omega (arith, some, none arms stand)

-- it needs two levels
pub if_low : (steps : List Step) (store : Store) (at : BranchesAt) (levels : ℕ) → levels < 2 → IfAnswer at levels None steps store
if_low steps store at levels low arms stand = omega (arith, low, branches_from_one steps (branches_used steps at) arms stand)

-- one up to the end of a body
pub last_if_low : (steps : List Step) (store : Store) (at : BodyAt) (piece : Piece) (levels : ℕ) → levels < 2 → LastIfAnswer at piece levels None steps store
last_if_low steps store at piece levels low begins bare = if_low steps store (last_branches at piece bare) levels low

pub last_if_none : (steps : List Step) (at : BodyAt) (piece : Piece) (levels : ℕ) → NoIf steps (last_branches at piece false) levels → NoIf steps (last_branches at piece true) levels → NoLastIf steps at piece levels
last_if_none steps at piece levels tested bare begins false = tested
last_if_none steps at piece levels tested bare begins true = bare
