-- The run of two programs is the run of the first and then of the second.
use Rattle.std.proofs.Common.{◌≡◌, ℕ, List, [], ◌∷◌, ◌++◌, refl}
use Rattle.lua_model.specs.declared.plain.Plain.{Plain}
use Rattle.lua_model.specs.Store.{Reply, asked}
use Rattle.source_meaning.specs.State.{State}
use Rattle.source_meaning.specs.Tasks.{Task, Gives}
use Rattle.source_meaning.specs.Programs.{Prog, done, fault, happen, hear, ask, attempt, Outcome, worked, broke, caught, and_then, World, Answer, ended, failed, waiting, going, after, with_event, heard, run}

after_after : {A B C : Type 0} (r : Answer A) (f : A → State → World → Answer B) (g : A → State → World → Answer C) (k : C → State → World → Answer B) → ((a : A) (s : State) (w : World) → f a s w ≡ after (g a s w) k) → after r f ≡ after (after r g) k
after_after (ended a s w) f g k h = h a s w
after_after (failed v s w) f g k h = refl
after_after (waiting w) f g k h = refl
after_after (going w) f g k h = refl

caught_after : {A B C : Type 0} (r : Answer A) (f : Outcome A → State → World → Answer B) (g : Outcome A → State → World → Answer C) (k : C → State → World → Answer B) → ((o : Outcome A) (s : State) (w : World) → f o s w ≡ after (g o s w) k) → caught r f ≡ after (caught r g) k
caught_after (ended a s w) f g k h = h (worked a) s w
caught_after (failed v s w) f g k h = h (broke v) s w
caught_after (waiting w) f g k h = refl
caught_after (going w) f g k h = refl

heard_after : {A B : Type 0} (h : ℕ) (vs : List Plain) (rs : List Reply) (w : World) (f : Reply → World → Answer B) (g : Reply → World → Answer A) (k : A → State → World → Answer B) → ((r : Reply) (v : World) → f r v ≡ after (g r v) k) → heard h vs rs w f ≡ after (heard h vs rs w g) k
heard_after h vs [] w f g k e = refl
heard_after h vs (r ∷ rs) w f g k e = e r (record w { outside = record { events = w.outside.events ++ asked h vs r ∷ []; replies = rs } })

pub run_and_then : {A B : Type 0} (self : (q : Task) → State → World → Answer (Gives q)) (p : Prog A) (k : A → State → Prog B) (w : World) → run self (and_then p k) w ≡ after (run self p w) (λ a s. run self (k a s))
run_and_then self (done a s) k w = refl
run_and_then self (fault v s) k w = refl
run_and_then self (happen e p) k w = run_and_then self p k (with_event e w)
run_and_then self (hear h vs f) k w = heard_after h vs w.outside.replies w (λ r. run self (and_then (f r) k)) (λ r. run self (f r)) (λ a s. run self (k a s)) (λ r v. run_and_then self (f r) k v)
run_and_then self (ask q s f) k w = after_after (self q s w) (λ a s'. run self (and_then (f a s') k)) (λ a s'. run self (f a s')) (λ a s'. run self (k a s')) (λ a s' w'. run_and_then self (f a s') k w')
run_and_then self (attempt q s f) k w = caught_after (self q s w) (λ o s'. run self (and_then (f o s') k)) (λ o s'. run self (f o s')) (λ a s'. run self (k a s')) (λ o s' w'. run_and_then self (f o s') k w')
