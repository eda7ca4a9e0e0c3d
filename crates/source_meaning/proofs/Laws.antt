-- An end stays the end with more ticks, and events only grow: by induction on programs, with no case on what a source has.
use Rattle.std.proofs.Common.{◌≡◌, ℕ, zero, suc, ◌+◌, List, [], ◌∷◌, ◌++◌, refl, sym, ap, ◌∙◌, subst, append_assoc, append-nil, arith}
use Rattle.lua_model.specs.declared.plain.Plain.{Plain}
use Rattle.lua_model.specs.Store.{Reply, Event, asked}
use Rattle.source_meaning.specs.State.{State}
use Rattle.source_meaning.specs.Tasks.{Task, Gives}
use Rattle.source_meaning.specs.Programs.{Prog, done, fault, happen, hear, ask, attempt, Outcome, worked, broke, caught, World, Answer, ended, failed, waiting, going, after, spend, with_event, heard, run, eval}
use Rattle.lua_model.specs.Endings.{IsPrefix}

-- the events of an answer
abbrev pub events_of : {A : Type 0} → Answer A → List Event
events_of (ended a s w) = w.outside.events
events_of (failed v s w) = w.outside.events
events_of (waiting w) = w.outside.events
events_of (going w) = w.outside.events

abbrev pub Grows : {A : Type 0} → List Event → Answer A → Type 0
Grows es a = IsPrefix es (events_of a)

pub prefix_self : (es : List Event) → IsPrefix es es
prefix_self es = ([], sym (append-nil es))

pub prefix_trans : (xs ys zs : List Event) → IsPrefix xs ys → IsPrefix ys zs → IsPrefix xs zs
prefix_trans xs ys zs p q = (p.0 ++ q.0, q.1 ∙ ap (λ l. l ++ q.0) p.1 ∙ append_assoc xs p.0 q.0)

-- ---- events grow

after_grows : {A B : Type 0} (es : List Event) (r : Answer A) (k : A → State → World → Answer B) → Grows es r → ((a : A) (s : State) (w : World) → Grows w.outside.events (k a s w)) → Grows es (after r k)
after_grows es (ended a s w) k p q = prefix_trans es w.outside.events _ p (q a s w)
after_grows es (failed v s w) k p q = p
after_grows es (waiting w) k p q = p
after_grows es (going w) k p q = p

caught_grows : {A B : Type 0} (es : List Event) (r : Answer A) (k : Outcome A → State → World → Answer B) → Grows es r → ((o : Outcome A) (s : State) (w : World) → Grows w.outside.events (k o s w)) → Grows es (caught r k)
caught_grows es (ended a s w) k p q = prefix_trans es w.outside.events _ p (q (worked a) s w)
caught_grows es (failed v s w) k p q = prefix_trans es w.outside.events _ p (q (broke v) s w)
caught_grows es (waiting w) k p q = p
caught_grows es (going w) k p q = p

spend_grows : {A : Type 0} (n : ℕ) (w : World) (k : World → Answer A) → ((v : World) → Grows v.outside.events (k v)) → Grows w.outside.events (spend n w k)
spend_grows zero w k q = prefix_self w.outside.events
spend_grows (suc n) w k q = q (record w { ticks = n })

heard_grows : {A : Type 0} (h : ℕ) (vs : List Plain) (rs : List Reply) (w : World) (k : Reply → World → Answer A) → ((r : Reply) (v : World) → Grows v.outside.events (k r v)) → Grows w.outside.events (heard h vs rs w k)
heard_grows h vs [] w k q = prefix_self w.outside.events
heard_grows h vs (r ∷ rs) w k q =
    prefix_trans w.outside.events (w.outside.events ++ asked h vs r ∷ []) _ (asked h vs r ∷ [], refl) (q r (record w { outside = record { events = w.outside.events ++ asked h vs r ∷ []; replies = rs } }))

pub run_grows : {A : Type 0} (self : (q : Task) → State → World → Answer (Gives q)) → ((q : Task) (s : State) (w : World) → Grows w.outside.events (self q s w)) → (p : Prog A) (w : World) → Grows w.outside.events (run self p w)
run_grows self h (done a s) w = prefix_self w.outside.events
run_grows self h (fault v s) w = prefix_self w.outside.events
run_grows self h (happen e p) w = prefix_trans w.outside.events (w.outside.events ++ e ∷ []) _ (e ∷ [], refl) (run_grows self h p (with_event e w))
run_grows self h (hear n vs f) w = heard_grows n vs w.outside.replies w (λ r. run self (f r)) (λ r v. run_grows self h (f r) v)
run_grows self h (ask q s f) w = after_grows w.outside.events (self q s w) (λ a s'. run self (f a s')) (h q s w) (λ a s' w'. run_grows self h (f a s') w')
run_grows self h (attempt q s f) w = caught_grows w.outside.events (self q s w) (λ o s'. run self (f o s')) (h q s w) (λ o s' w'. run_grows self h (f o s') w')

pub eval_grows : (program : (q : Task) → State → Prog (Gives q)) (n : ℕ) (q : Task) (s : State) (w : World) → Grows w.outside.events (eval program n q s w)
eval_grows program zero q s w = prefix_self w.outside.events
eval_grows program (suc n) q s w = spend_grows w.ticks w (run (eval program n) (program q s)) (run_grows (eval program n) (eval_grows program n) (program q s))

-- ---- ends stay

abbrev pub more : ℕ → World → World
more j w = record w { ticks = w.ticks + j }

-- what `b`, which has j more ticks, must be where `a` came out
abbrev pub Extends : {A : Type 0} → ℕ → Answer A → Answer A → Type 0
Extends j (ended a s w) b = b ≡ ended a s (more j w)
Extends j (failed v s w) b = b ≡ failed v s (more j w)
Extends j (waiting w) b = b ≡ waiting (more j w)
Extends j (going w) b = Grows w.outside.events b

after_extends : {A B : Type 0} (j : ℕ) (a b : Answer A) (k k' : A → State → World → Answer B) → ((x : A) (s : State) (w : World) → Extends j (k x s w) (k' x s (more j w))) → ((x : A) (s : State) (w : World) → Grows w.outside.events (k' x s w)) → Extends j a b → Extends j (after a k) (after b k')
after_extends j (ended x s w) b k k' h g e = subst (λ c. Extends j (k x s w) (after c k')) (sym e) (h x s w)
after_extends j (failed v s w) b k k' h g e = ap (λ c. after c k') e
after_extends j (waiting w) b k k' h g e = ap (λ c. after c k') e
after_extends j (going w) b k k' h g e = after_grows w.outside.events b k' e g

caught_extends : {A B : Type 0} (j : ℕ) (a b : Answer A) (k k' : Outcome A → State → World → Answer B) → ((o : Outcome A) (s : State) (w : World) → Extends j (k o s w) (k' o s (more j w))) → ((o : Outcome A) (s : State) (w : World) → Grows w.outside.events (k' o s w)) → Extends j a b → Extends j (caught a k) (caught b k')
caught_extends j (ended x s w) b k k' h g e = subst (λ c. Extends j (k (worked x) s w) (caught c k')) (sym e) (h (worked x) s w)
caught_extends j (failed v s w) b k k' h g e = subst (λ c. Extends j (k (broke v) s w) (caught c k')) (sym e) (h (broke v) s w)
caught_extends j (waiting w) b k k' h g e = ap (λ c. caught c k') e
caught_extends j (going w) b k k' h g e = caught_grows w.outside.events b k' e g

spend_extends : {A : Type 0} (j n : ℕ) (w : World) (k k' : World → Answer A) → ((v : World) → Extends j (k v) (k' (more j v))) → ((v : World) → Grows v.outside.events (k' v)) → Extends j (spend n w k) (spend (n + j) (more j w) k')
spend_extends j zero w k k' h g = spend_grows (zero + j) (more j w) k' g
spend_extends j (suc n) w k k' h g =
    let e : suc (n + j) ≡ suc n + j = omega arith in
    subst (λ m. Extends j (k (record w { ticks = n })) (spend m (more j w) k')) e (h (record w { ticks = n }))

heard_extends : {A : Type 0} (j h : ℕ) (vs : List Plain) (rs : List Reply) (w : World) (k k' : Reply → World → Answer A) → ((r : Reply) (v : World) → Extends j (k r v) (k' r (more j v))) → Extends j (heard h vs rs w k) (heard h vs rs (more j w) k')
heard_extends j h vs [] w k k' e = refl
heard_extends j h vs (r ∷ rs) w k k' e = e r (record w { outside = record { events = w.outside.events ++ asked h vs r ∷ []; replies = rs } })

pub run_extends : {A : Type 0} (j : ℕ) (self self' : (q : Task) → State → World → Answer (Gives q)) → ((q : Task) (s : State) (w : World) → Extends j (self q s w) (self' q s (more j w))) → ((q : Task) (s : State) (w : World) → Grows w.outside.events (self' q s w)) → (p : Prog A) (w : World) → Extends j (run self p w) (run self' p (more j w))
run_extends j self self' h g (done a s) w = refl
run_extends j self self' h g (fault v s) w = refl
run_extends j self self' h g (happen e p) w = run_extends j self self' h g p (with_event e w)
run_extends j self self' h g (hear n vs f) w = heard_extends j n vs w.outside.replies w (λ r. run self (f r)) (λ r. run self' (f r)) (λ r v. run_extends j self self' h g (f r) v)
run_extends j self self' h g (ask q s f) w =
    after_extends j (self q s w) (self' q s (more j w)) (λ a s'. run self (f a s')) (λ a s'. run self' (f a s')) (λ a s' w'. run_extends j self self' h g (f a s') w') (λ a s' w'. run_grows self' g (f a s') w') (h q s w)
run_extends j self self' h g (attempt q s f) w =
    caught_extends j (self q s w) (self' q s (more j w)) (λ o s'. run self (f o s')) (λ o s'. run self' (f o s')) (λ o s' w'. run_extends j self self' h g (f o s') w') (λ o s' w'. run_grows self' g (f o s') w') (h q s w)

-- more ticks, and tasks that may stand deeper in one another
pub eval_extends : (program : (q : Task) → State → Prog (Gives q)) (j n d : ℕ) (q : Task) (s : State) (w : World) → Extends j (eval program n q s w) (eval program (n + d) q s (more j w))
eval_extends program j zero d q s w = eval_grows program (zero + d) q s (more j w)
eval_extends program j (suc n) d q s w =
    let e : suc (n + d) ≡ suc n + d = omega arith in
    subst (λ m. Extends j (eval program (suc n) q s w) (eval program m q s (more j w))) e
    (spend_extends j w.ticks w (run (eval program n) (program q s)) (run (eval program (n + d)) (program q s)) (run_extends j (eval program n) (eval program (n + d)) (λ q' s' w'. eval_extends program j n d q' s' w') (eval_grows program (n + d)) (program q s)) (run_grows (eval program (n + d)) (eval_grows program (n + d)) (program q s)))
