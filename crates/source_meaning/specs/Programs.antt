-- To be believed, and this suite's own. Programs that ask: what a task does, in small pieces, until it asks for other tasks. The state is passed along; ticks,
-- events and replies stand outside.
use Rattle.std.specs.Prelude.{ℕ, zero, suc, List, [], ◌∷◌}
use Rattle.lua_model.specs.Datum.{Datum}
use Rattle.lua_model.specs.declared.plain.Plain.{Plain}
use Rattle.lua_model.specs.Store.{Reply, Event, Outside, happens, replied}
use Rattle.source_meaning.specs.State.{State}
use Rattle.source_meaning.specs.Tasks.{Task, Gives}

-- what a task gave that may have failed
pub data Outcome (A : Type 0) : Type 0 where
  worked : A → Outcome A
  broke : Datum → Outcome A

-- a program is done, or fails with a value, or makes an event, or asks a host and hears its reply, or asks for a task, whose failure
-- is its own, or attempts one, whose failure it is told
pub data Prog (A : Type 0) : Type 0 where
  done : A → State → Prog A
  fault : Datum → State → Prog A
  happen : Event → Prog A → Prog A
  hear : (host : ℕ) → List Plain → (Reply → Prog A) → Prog A
  ask : (q : Task) → State → (Gives q → State → Prog A) → Prog A
  attempt : (q : Task) → State → (Outcome (Gives q) → State → Prog A) → Prog A

-- one program, and another with what it gives
abbrev pub and_then : {A B : Type 0} → Prog A → (A → State → Prog B) → Prog B
and_then (done a s) k = k a s
and_then (fault v s) k = fault v s
and_then (happen e p) k = happen e (and_then p k)
and_then (hear h vs f) k = hear h vs (λ r. and_then (f r) k)
and_then (ask q s f) k = ask q s (λ a s'. and_then (f a s') k)
and_then (attempt q s f) k = attempt q s (λ o s'. and_then (f o s') k)

-- what stands around a program: the ticks that are left, and the outside
pub record World : Type 0 where
  pub ticks : ℕ
  pub outside : Outside

-- a run has ended, or failed with a value, or waits for a reply, or goes on and wants a tick
pub data Answer (A : Type 0) : Type 0 where
  ended : A → State → World → Answer A
  failed : Datum → State → World → Answer A
  waiting : World → Answer A
  going : World → Answer A

abbrev pub after : {A B : Type 0} → Answer A → (A → State → World → Answer B) → Answer B
after (ended a s w) k = k a s w
after (failed v s w) k = failed v s w
after (waiting w) k = waiting w
after (going w) k = going w

-- a failure is caught, and what was done stays
abbrev pub caught : {A B : Type 0} → Answer A → (Outcome A → State → World → Answer B) → Answer B
caught (ended a s w) k = k (worked a) s w
caught (failed v s w) k = k (broke v) s w
caught (waiting w) k = waiting w
caught (going w) k = going w

-- one tick, where one is left
abbrev pub spend : {A : Type 0} → ℕ → World → (World → Answer A) → Answer A
spend zero w k = going w
spend (suc n) w k = k (record w { ticks = n })

abbrev pub with_event : Event → World → World
with_event e w = record w { outside = happens e w.outside }

-- the next reply, where one is left
abbrev pub heard : {A : Type 0} → ℕ → List Plain → List Reply → World → (Reply → World → Answer A) → Answer A
heard h vs [] w k = waiting w
heard h vs (r ∷ rs) w k = k r (record w { outside = replied h vs r rs w.outside })

-- the run of a program, where each task that it asks for is done by `self`
abbrev pub run : {A : Type 0} → ((q : Task) → State → World → Answer (Gives q)) → Prog A → World → Answer A
run self (done a s) w = ended a s w
run self (fault v s) w = failed v s w
run self (happen e p) w = run self p (with_event e w)
run self (hear h vs f) w = heard h vs w.outside.replies w (λ r. run self (f r))
run self (ask q s f) w = after (self q s w) (λ a s'. run self (f a s'))
run self (attempt q s f) w = caught (self q s w) (λ o s'. run self (f o s'))

-- a task spends a tick and runs its program; tasks within tasks are done at most n deep, which n ticks do not pass
abbrev pub eval : ((q : Task) → State → Prog (Gives q)) → ℕ → (q : Task) → State → World → Answer (Gives q)
eval program zero q s w = going w
eval program (suc n) q s w = spend w.ticks w (run (eval program n) (program q s))
