-- A run that is going has spent all of its ticks: so many tasks within tasks as there are ticks are enough.
use Rattle.std.proofs.Common.{◌≡◌, ℕ, zero, suc, ◌≤◌, List, [], ◌∷◌, ◌++◌, refl, subst, arith}
use Rattle.lua_tree.specs.Syntax.{Source}
use Rattle.lua_model.specs.declared.plain.Plain.{Plain}
use Rattle.lua_model.specs.Store.{Host, Reply, asked}
use Rattle.source_meaning.specs.State.{State}
use Rattle.source_meaning.specs.Tasks.{Task, Gives}
use Rattle.source_meaning.specs.Programs.{Prog, done, fault, happen, hear, ask, attempt, Outcome, worked, broke, caught, World, Answer, ended, failed, waiting, going, after, spend, with_event, heard, run, eval}
use Rattle.source_meaning.specs.Meaning.{program, main_program, answer}

-- at most n ticks are left, and none where it is going
abbrev pub Left : {A : Type 0} → ℕ → Answer A → Type 0
Left n (ended a s w) = w.ticks ≤ n
Left n (failed v s w) = w.ticks ≤ n
Left n (waiting w) = w.ticks ≤ n
Left n (going w) = w.ticks ≡ 0

weaker : {A : Type 0} (m n : ℕ) (a : Answer A) → m ≤ n → Left m a → Left n a
weaker m n (ended a s w) l h = omega arith
weaker m n (failed v s w) l h = omega arith
weaker m n (waiting w) l h = omega arith
weaker m n (going w) l h = h

-- what a task does with at most n ticks
abbrev Spends : ℕ → ((q : Task) → State → World → Answer (Gives q)) → Type 0
Spends n self = (q : Task) (s : State) (w : World) → w.ticks ≤ n → Left w.ticks (self q s w)

after_left : {A B : Type 0} (n m : ℕ) (r : Answer A) (k : A → State → World → Answer B) → m ≤ n → Left m r → ((a : A) (s : State) (w : World) → w.ticks ≤ n → Left w.ticks (k a s w)) → Left m (after r k)
after_left n m (ended a s w) k l h g = weaker w.ticks m (k a s w) h (g a s w (omega arith))
after_left n m (failed v s w) k l h g = h
after_left n m (waiting w) k l h g = h
after_left n m (going w) k l h g = h

caught_left : {A B : Type 0} (n m : ℕ) (r : Answer A) (k : Outcome A → State → World → Answer B) → m ≤ n → Left m r → ((o : Outcome A) (s : State) (w : World) → w.ticks ≤ n → Left w.ticks (k o s w)) → Left m (caught r k)
caught_left n m (ended a s w) k l h g = weaker w.ticks m (k (worked a) s w) h (g (worked a) s w (omega arith))
caught_left n m (failed v s w) k l h g = weaker w.ticks m (k (broke v) s w) h (g (broke v) s w (omega arith))
caught_left n m (waiting w) k l h g = h
caught_left n m (going w) k l h g = h

heard_left : {A : Type 0} (n h : ℕ) (vs : List Plain) (rs : List Reply) (w : World) (k : Reply → World → Answer A) → w.ticks ≤ n → ((r : Reply) (v : World) → v.ticks ≤ n → Left v.ticks (k r v)) → Left w.ticks (heard h vs rs w k)
heard_left n h vs [] w k l g = omega arith
heard_left n h vs (r ∷ rs) w k l g = g r (record w { outside = record { events = w.outside.events ++ asked h vs r ∷ []; replies = rs } }) l

run_left : {A : Type 0} (n : ℕ) (self : (q : Task) → State → World → Answer (Gives q)) → Spends n self → (p : Prog A) (w : World) → w.ticks ≤ n → Left w.ticks (run self p w)
run_left n self h (done a s) w l = omega arith
run_left n self h (fault v s) w l = omega arith
run_left n self h (happen e p) w l = run_left n self h p (with_event e w) l
run_left n self h (hear i vs f) w l = heard_left n i vs w.outside.replies w (λ r. run self (f r)) l (λ r v m. run_left n self h (f r) v m)
run_left n self h (ask q s f) w l = after_left n w.ticks (self q s w) (λ a s'. run self (f a s')) l (h q s w l) (λ a s' w' m. run_left n self h (f a s') w' m)
run_left n self h (attempt q s f) w l = caught_left n w.ticks (self q s w) (λ o s'. run self (f o s')) l (h q s w l) (λ o s' w' m. run_left n self h (f o s') w' m)

spend_left : {A : Type 0} (n t : ℕ) (w : World) (k : World → Answer A) → w.ticks ≡ t → t ≤ suc n → ((v : World) → v.ticks ≤ n → Left v.ticks (k v)) → Left t (spend t w k)
spend_left n zero w k e l g = e
spend_left n (suc t) w k e l g = weaker t (suc t) (k (record w { ticks = t })) (omega arith) (g (record w { ticks = t }) (omega arith))

eval_left : (n : ℕ) → Spends n (eval program n)
eval_left zero q s w l = omega arith
eval_left (suc n) q s w l = spend_left n w.ticks w (run (eval program n) (program q s)) refl l (λ v m. run_left n (eval program n) (eval_left n) (program q s) v m)

answer_left : (source : Source) (hosts : List Host) (replies : List Reply) (t : ℕ) → Left t (answer source hosts replies t)
answer_left source hosts replies t = run_left t (eval program t) (eval_left t) (main_program source hosts) (record { ticks = t; outside = record { events = []; replies = replies } }) (omega arith)

pub going_has_none : (source : Source) (hosts : List Host) (replies : List Reply) (t : ℕ) (w : World) → answer source hosts replies t ≡ going w → w.ticks ≡ 0
going_has_none source hosts replies t w e = subst (Left t) e (answer_left source hosts replies t)
