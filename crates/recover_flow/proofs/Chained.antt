-- Calls of the search one behind the other.
use Rattle.std.proofs.Common.{◌≡◌, ◌∙◌, refl, sym, ap, subst, List, Option}
use Rattle.recover_expr.specs.declared.steps.Step.{Step}
use Rattle.recover_flow.specs.Conditions.{ConditionTree, condition_of}
use Rattle.recover_flow.specs.Held.{Store, ConditionFound}
use Rattle.recover_flow.specs.Searching.{Answers, Grows, IsReady, IsRight, Keeping, Keeps, steps_of, store_of}
use Rattle.recover_flow.specs.Tabled.{AreTables}
use Rattle.recover_flow.specs.declared.memory.Memory.{Memory}
use Rattle.recover_flow.specs.declared.plan.Found.{Found}
use Rattle.recover_flow.specs.declared.regions.ConditionAt.{ConditionAt}
use Rattle.recover_flow.specs.declared.search.Search.{Search}
use Rattle.recover_flow.specs.declared.tables.Tables.{Tables}
use Rattle.recover_flow.proofs.Growing.{grows_same, grows_both}

-- the steps are the same behind a call
pub same_steps : (before after : Search) → Keeps before after → steps_of after ≡ steps_of before
same_steps before after keeps = ap (λ (tables : Tables). tables.steps.now) keeps.tables

pub keeps_same : (search : Search) → IsReady search → Keeps search search
keeps_same search ready = record { tables = refl; right = ready.right; grows = grows_same (store_of search) }

pub ready_behind : (before after : Search) → IsReady before → Keeps before after → IsReady after
ready_behind before after ready keeps = record {
  tabled = subst AreTables (sym keeps.tables) ready.tabled;
  right = subst (λ steps. IsRight steps after.memory) (sym (same_steps before after keeps)) keeps.right;
}

pub keeps_both : (before between after : Search) → Keeps before between → Keeps between after → Keeps before after
keeps_both before between after first second = record {
  tables = second.tables ∙ first.tables;
  right = subst (λ steps. IsRight steps after.memory) (same_steps before between first) second.right;
  grows = grows_both first.grows second.grows;
}

-- what a later call answers
pub answers_behind : (before between after : Search) (answer : List Step → Store → Type 0) → Keeps before between → Answers between after answer → Answers before after answer
answers_behind before between after answer keeps answers = record {
  keeps = keeps_both before between after keeps answers.keeps;
  gives = subst (λ steps. answer steps (store_of after)) (same_steps before between keeps) answers.gives;
}

-- an answer that says the same in other words
pub answers_as : (before after : Search) (answer other : List Step → Store → Type 0) → Answers before after answer → (answer (steps_of before) (store_of after) → other (steps_of before) (store_of after)) → Answers before after other
answers_as before after answer other answers says = record { keeps = answers.keeps; gives = says answers.gives }

-- where nothing is looked for
pub answers_same : (search : Search) (answer : List Step → Store → Type 0) → IsReady search → answer (steps_of search) (store_of search) → Answers search search answer
answers_same search answer ready gives = record { keeps = keeps_same search ready; gives = gives }

-- only the memory is another
pub memory_keeps : (search : Search) (memory : Memory) (answer : List Step → Store → Type 0) → Keeping (steps_of search) search.memory memory answer → Answers search (record search { memory = memory }) answer
memory_keeps search memory answer keeping = record { keeps = record { tables = refl; right = keeping.right; grows = keeping.grows }; gives = keeping.gives }

-- what was kept of a condition
pub condition_keeps : (search : Search) (memory : Memory) (steps : List Step) (at : ConditionAt) (known : Option ConditionTree) (found : Option Found) → IsReady search → steps ≡ steps_of search → known ≡ condition_of steps at
    → (IsRight steps search.memory → known ≡ condition_of steps at → Keeping steps search.memory memory (λ those store. ConditionFound those store at found)) → Answers search (record search { memory = memory }) (λ those store. ConditionFound those store at found)
condition_keeps search memory steps at known found ready same is keeps =
    memory_keeps search memory (λ those store. ConditionFound those store at found)
    (subst (λ now. Keeping now search.memory memory (λ those store. ConditionFound those store at found)) same (keeps (subst (λ now. IsRight now search.memory) (sym same) ready.right) is))
