-- Accounts: how many steps of the machine and ticks of the source a stretch of a run takes, which pays for which, and how stretches,
-- answers and programs are joined. A tick pays for seven words and what is left over; the eighth is that of a run's last word.
use Rattle.std.proofs.Common.{◌≡◌, ℕ, zero, suc, ◌+◌, ◌*◌, ◌≤◌, Bool, true, false, List, [], ◌∷◌, ◌++◌, refl, sym, ap, ◌∙◌, subst, arith, append_assoc, append-nil}
use Rattle.lua_model.specs.Datum.{Datum}
use Rattle.lua_model.specs.declared.plain.Plain.{Plain}
use Rattle.lua_model.specs.Store.{Event, Reply, Outside, happens, replied}
use Rattle.lua_model.specs.Endings.{IsPrefix}
use Rattle.source_meaning.specs.State.{State as SourceState}
use Rattle.source_meaning.specs.Tasks.{Task, Gives}
use Rattle.source_meaning.specs.Programs.{Prog, done, fault, happen, hear, ask, attempt, Outcome, worked, broke, and_then, World, Answer, ended, failed, waiting, going, after, caught, spend, heard, run}
use Rattle.source_meaning.proofs.Joins.{run_and_then}
use Rattle.rules.specs.State.{State}
use Rattle.rules.specs.Run.{Conf, Going, Ended, Failed, Waiting, Stuck, step, run as steps}

-- a run that is over
abbrev pub step_over : Conf → Bool
step_over (Going m) = false
step_over c = true

pub steps_stay : (c : Conf) → step_over c ≡ true → (b : ℕ) → c ≡ steps b c
steps_stay (Going m) e b = cc
steps_stay (Ended s o) e zero = refl
steps_stay (Ended s o) e (suc b) = refl
steps_stay (Failed t s o) e zero = refl
steps_stay (Failed t s o) e (suc b) = refl
steps_stay (Waiting m) e zero = refl
steps_stay (Waiting m) e (suc b) = refl
steps_stay Stuck e zero = refl
steps_stay Stuck e (suc b) = refl

pub steps_add : (a b : ℕ) (c : Conf) → steps (a + b) c ≡ steps b (steps a c)
steps_add zero b c = let e : 0 + b ≡ b = omega arith in ap (λ n. steps n c) e
steps_add (suc a) b (Going m) = let e : suc a + b ≡ suc (a + b) = omega arith in ap (λ n. steps n (Going m)) e ∙ steps_add a b (step m)
steps_add (suc a) b (Ended s o) = let e : suc a + b ≡ suc (a + b) = omega arith in ap (λ n. steps n (Ended s o)) e ∙ steps_stay (Ended s o) refl b
steps_add (suc a) b (Failed t s o) = let e : suc a + b ≡ suc (a + b) = omega arith in ap (λ n. steps n (Failed t s o)) e ∙ steps_stay (Failed t s o) refl b
steps_add (suc a) b (Waiting m) = let e : suc a + b ≡ suc (a + b) = omega arith in ap (λ n. steps n (Waiting m)) e ∙ steps_stay (Waiting m) refl b
steps_add (suc a) b Stuck = let e : suc a + b ≡ suc (a + b) = omega arith in ap (λ n. steps n Stuck) e ∙ steps_stay Stuck refl b

-- where a run stands: at a state, or at a state whose next step is what is told of, and is charged already
pub data Place : Type 0 where
  Now : State → Place
  Soon : State → Place

abbrev pub state_of : Place → State
state_of (Now m) = m
state_of (Soon m) = m

abbrev pub due : Place → ℕ
due (Now m) = 0
due (Soon m) = 1

-- From a place the machine comes to another one; the source's ticks went from t0 to t1, j words are not yet charged to a tick, and S ticks are
-- not yet charged to words. Where a place's next step is charged, it is so once.
pub record Reach (bound j S t0 : ℕ) (p0 : Place) (t1 : ℕ) (p1 : Place) : Type 0 where
  pub k : ℕ
  pub runs : steps k (Going (state_of p0)) ≡ Going (state_of p1)
  pub few : k + due p1 + 7 * t1 ≤ 7 * t0 + (j + due p0)
  pub many : t0 ≤ t1 + S + bound * k

-- what is to hold where the source has a result, and where it has failed
abbrev pub Post : Type 0 → Type 1
Post A = A → SourceState → Outside → Place → Type 0

abbrev pub Fail : Type 1
Fail = Datum → SourceState → Outside → Place → Type 0

-- nothing is done, and this is the result
abbrev pub Stays : {A : Type 0} → A → SourceState → Outside → Place → Post A
Stays a s o p b s1 o1 p1 = (b ≡ a) × (s1 ≡ s) × (o1 ≡ o) × (p1 ≡ p)

-- ## what has happened

abbrev pub Grows : List Event → Conf → Type 0
Grows es (Going m) = IsPrefix es m.outside.events
Grows es (Ended s o) = IsPrefix es o.events
Grows es (Failed t s o) = IsPrefix es o.events
Grows es (Waiting m) = IsPrefix es m.outside.events
Grows es Stuck = Unit {0}

pub prefix_self : (es : List Event) → IsPrefix es es
prefix_self es = ([], sym (append-nil es))

pub prefix_trans : (a b c : List Event) → IsPrefix a b → IsPrefix b c → IsPrefix a c
prefix_trans a b c p q = (p.0 ++ q.0, q.1 ∙ ap (λ l. l ++ q.0) p.1 ∙ append_assoc a p.0 q.0)

-- the source is still going, perhaps within a step
abbrev pub Told : Outside → Place → Type 0
Told o (Now m) = m.outside ≡ o
Told o (Soon m) = IsPrefix m.outside.events o.events × Grows o.events (step m)

-- the source waits for a reply, and so does the next step
abbrev pub Waits : Outside → Place → Type 0
Waits o (Now m) = ⊥
Waits o (Soon m) = (m.outside ≡ o) × (step m ≡ Waiting m)

pub record Arrive (bound j S t0 : ℕ) (p0 : Place) (t1 : ℕ) (P : Place → Type 0) : Type 0 where
  pub to : Place
  pub holds : P to
  pub reach : Reach bound j S t0 p0 t1 to

-- from a place the machine does what the source's answer says
abbrev pub Follow : {A : Type 0} → ℕ → ℕ → ℕ → ℕ → Place → Fail → Post A → Answer A → Type 0
Follow bound j S t0 p0 F P (ended a s w) = Arrive bound j S t0 p0 w.ticks (P a s w.outside)
Follow bound j S t0 p0 F P (failed v s w) = Arrive bound j S t0 p0 w.ticks (F v s w.outside)
Follow bound j S t0 p0 F P (waiting w) = Arrive bound j S t0 p0 w.ticks (Waits w.outside)
Follow bound j S t0 p0 F P (going w) = Arrive bound j S t0 p0 w.ticks (Told w.outside)

abbrev pub Self : Type 0
Self = (q : Task) → SourceState → World → Answer (Gives q)

abbrev pub world : ℕ → Outside → World
world t o = record { ticks = t; outside = o }

-- what an answer does, at each number of ticks
abbrev pub Asks : {A : Type 0} → ℕ → ℕ → ℕ → Outside → Place → Fail → Post A → (World → Answer A) → Type 0
Asks bound j S o p F P ans = (t : ℕ) → Follow bound j S t p F P (ans (world t o))

-- from a place the machine does what a program does. As a record, so that the program is read off its type
pub record Goes {A : Type 0} (bound : ℕ) (self : Self) (F : Fail) (j S : ℕ) (o : Outside) (p : Place) (P : Post A) (prog : Prog A) : Type 0 where
  pub is : Asks bound j S o p F P (run self prog)

module _ (bound : ℕ) where
  pub reach_then : (j1 S1 j2 S2 t0 t1 t2 : ℕ) (p0 p1 p2 : Place) → Reach bound j1 S1 t0 p0 t1 p1 → Reach bound j2 S2 t1 p1 t2 p2 → Reach bound (j1 + j2) (S1 + S2) t0 p0 t2 p2
  reach_then j1 S1 j2 S2 t0 t1 t2 p0 p1 p2 a b = record {
    k = a.k + b.k;
    runs = steps_add a.k b.k (Going (state_of p0)) ∙ ap (steps b.k) a.runs ∙ b.runs;
    few = omega (arith, a.few, b.few);
    many = omega (arith, a.many, b.many);
  }

  pub reach_none : (j S t : ℕ) (p : Place) → Reach bound j S t p t p
  reach_none j S t p = record { k = 0; runs = refl; few = omega arith; many = omega arith }

  pub reach_soon : (t : ℕ) (m : State) → Reach bound 1 0 t (Now m) t (Soon m)
  reach_soon t m = record { k = 0; runs = refl; few = omega arith; many = omega arith }

  -- the next step is taken
  pub reach_step : (t : ℕ) (m m1 : State) → step m ≡ Going m1 → Reach bound 0 0 t (Soon m) t (Now m1)
  reach_step t m m1 e = record { k = 1; runs = e; few = omega arith; many = omega arith }

  pub reach_weaken : (j S j2 S2 t0 t1 : ℕ) (p0 p1 : Place) → j ≤ j2 → S ≤ S2 → Reach bound j S t0 p0 t1 p1 → Reach bound j2 S2 t0 p0 t1 p1
  reach_weaken j S j2 S2 t0 t1 p0 p1 l1 l2 a = record { k = a.k; runs = a.runs; few = omega (arith, a.few); many = omega (arith, a.many) }

  -- a tick pays for 7 words, so that the last word of a run is paid for too
  pub reach_tick : (d j S t0 t1 : ℕ) (p0 p1 : Place) → j ≤ 7 + d → Reach bound j S t0 p0 t1 p1 → Reach bound d (suc S) (suc t0) p0 t1 p1
  reach_tick d j S t0 t1 p0 p1 l a = record { k = a.k; runs = a.runs; few = (let x = a.few in omega (arith, l)); many = (let x = a.many in omega arith) }

  -- a step pays for the ticks of a whole body
  pub reach_paid : (j S t0 t1 : ℕ) (m m1 : State) (p1 : Place) → step m ≡ Going m1 → S ≤ bound → Reach bound j S t0 (Now m1) t1 p1 → Reach bound j 0 t0 (Soon m) t1 p1
  reach_paid j S t0 t1 m m1 p1 e l a = record {
    k = suc a.k;
    runs = ap (steps a.k) e ∙ a.runs;
    few = (let x : a.k + due p1 + 7 * t1 ≤ 7 * t0 + (j + 0) = a.few in omega arith);
    many = (let x = a.many in omega (arith, l));
  }

  -- a change of where a run begins and of its costs
  abbrev pub Change : ℕ → ℕ → ℕ → Place → ℕ → ℕ → ℕ → Place → Type 0
  Change j S t0 p0 j2 S2 t2 p2 = (t : ℕ) (p : Place) → Reach bound j S t0 p0 t p → Reach bound j2 S2 t2 p2 t p

  pub follow_map : {A : Type 0} (j S t0 : ℕ) (p0 : Place) (j2 S2 t2 : ℕ) (p2 : Place) (F : Fail) (P : Post A) (r : Answer A) → Change j S t0 p0 j2 S2 t2 p2 → Follow bound j S t0 p0 F P r → Follow bound j2 S2 t2 p2 F P r
  follow_map j S t0 p0 j2 S2 t2 p2 F P (ended a s w) h f = record { to = f.to; holds = f.holds; reach = h _ _ f.reach }
  follow_map j S t0 p0 j2 S2 t2 p2 F P (failed v s w) h f = record { to = f.to; holds = f.holds; reach = h _ _ f.reach }
  follow_map j S t0 p0 j2 S2 t2 p2 F P (waiting w) h f = record { to = f.to; holds = f.holds; reach = h _ _ f.reach }
  follow_map j S t0 p0 j2 S2 t2 p2 F P (going w) h f = record { to = f.to; holds = f.holds; reach = h _ _ f.reach }

  pub follow_weaken : {A : Type 0} (j S j2 S2 t0 : ℕ) (p0 : Place) (F : Fail) (P : Post A) (r : Answer A) → j ≤ j2 → S ≤ S2 → Follow bound j S t0 p0 F P r → Follow bound j2 S2 t0 p0 F P r
  follow_weaken j S j2 S2 t0 p0 F P r l1 l2 f = follow_map j S t0 p0 j2 S2 t0 p0 F P r (λ t p b. reach_weaken j S j2 S2 t0 t p0 p l1 l2 b) f

  -- after a stretch of run
  pub follow_after : {A : Type 0} (j1 S1 j2 S2 t0 t1 : ℕ) (p0 p1 : Place) (F : Fail) (P : Post A) (r : Answer A) → Reach bound j1 S1 t0 p0 t1 p1 → Follow bound j2 S2 t1 p1 F P r → Follow bound (j1 + j2) (S1 + S2) t0 p0 F P r
  follow_after j1 S1 j2 S2 t0 t1 p0 p1 F P r a f = follow_map j2 S2 t1 p1 (j1 + j2) (S1 + S2) t0 p0 F P r (λ t c b. reach_then j1 S1 j2 S2 t0 t1 t p0 p1 c a b) f

  -- a reply, and what follows
  pub follow_ask : {A B : Type 0} (j1 S1 j2 S2 t0 : ℕ) (p0 : Place) (F : Fail) (Q : Post A) (P : Post B) (r : Answer A) (k : A → SourceState → World → Answer B) → Follow bound j1 S1 t0 p0 F Q r → ((a : A) (s : SourceState) (w : World) (p : Place) → Q a s w.outside p → Follow bound j2 S2 w.ticks p F P (k a s w)) → Follow bound (j1 + j2) (S1 + S2) t0 p0 F P (after r k)
  follow_ask j1 S1 j2 S2 t0 p0 F Q P (ended a s w) k f h = follow_after j1 S1 j2 S2 t0 w.ticks p0 f.to F P (k a s w) f.reach (h a s w f.to f.holds)
  follow_ask j1 S1 j2 S2 t0 p0 F Q P (failed v s w) k f h = follow_weaken j1 S1 (j1 + j2) (S1 + S2) t0 p0 F P (failed v s w) (omega arith) (omega arith) f
  follow_ask j1 S1 j2 S2 t0 p0 F Q P (waiting w) k f h = follow_weaken j1 S1 (j1 + j2) (S1 + S2) t0 p0 F P (waiting w) (omega arith) (omega arith) f
  follow_ask j1 S1 j2 S2 t0 p0 F Q P (going w) k f h = follow_weaken j1 S1 (j1 + j2) (S1 + S2) t0 p0 F P (going w) (omega arith) (omega arith) f

  -- an attempt, and what follows: a failure is looked at too
  pub follow_attempt : {A B : Type 0} (j1 S1 j2 S2 t0 : ℕ) (p0 : Place) (G F : Fail) (Q : Post A) (P : Post B) (r : Answer A) (k : Outcome A → SourceState → World → Answer B) → Follow bound j1 S1 t0 p0 G Q r → ((a : A) (s : SourceState) (w : World) (p : Place) → Q a s w.outside p → Follow bound j2 S2 w.ticks p F P (k (worked a) s w)) → ((v : Datum) (s : SourceState) (w : World) (p : Place) → G v s w.outside p → Follow bound j2 S2 w.ticks p F P (k (broke v) s w)) → Follow bound (j1 + j2) (S1 + S2) t0 p0 F P (caught r k)
  follow_attempt j1 S1 j2 S2 t0 p0 G F Q P (ended a s w) k f h g = follow_after j1 S1 j2 S2 t0 w.ticks p0 f.to F P (k (worked a) s w) f.reach (h a s w f.to f.holds)
  follow_attempt j1 S1 j2 S2 t0 p0 G F Q P (failed v s w) k f h g = follow_after j1 S1 j2 S2 t0 w.ticks p0 f.to F P (k (broke v) s w) f.reach (g v s w f.to f.holds)
  follow_attempt j1 S1 j2 S2 t0 p0 G F Q P (waiting w) k f h g = follow_weaken j1 S1 (j1 + j2) (S1 + S2) t0 p0 F P (waiting w) (omega arith) (omega arith) f
  follow_attempt j1 S1 j2 S2 t0 p0 G F Q P (going w) k f h g = follow_weaken j1 S1 (j1 + j2) (S1 + S2) t0 p0 F P (going w) (omega arith) (omega arith) f

  pub follow_post : {A : Type 0} (j S t0 : ℕ) (p0 : Place) (F G : Fail) (Q P : Post A) (r : Answer A) → ((a : A) (s : SourceState) (o : Outside) (p : Place) → Q a s o p → P a s o p) → ((v : Datum) (s : SourceState) (o : Outside) (p : Place) → F v s o p → G v s o p) → Follow bound j S t0 p0 F Q r → Follow bound j S t0 p0 G P r
  follow_post j S t0 p0 F G Q P (ended a s w) h g f = record { to = f.to; holds = h a s w.outside f.to f.holds; reach = f.reach }
  follow_post j S t0 p0 F G Q P (failed v s w) h g f = record { to = f.to; holds = g v s w.outside f.to f.holds; reach = f.reach }
  follow_post j S t0 p0 F G Q P (waiting w) h g f = record { to = f.to; holds = f.holds; reach = f.reach }
  follow_post j S t0 p0 F G Q P (going w) h g f = record { to = f.to; holds = f.holds; reach = f.reach }

  -- a task's tick; d words of debt stay
  pub follow_spend : {A : Type 0} (d j S t0 : ℕ) (o : Outside) (p0 : Place) (F : Fail) (P : Post A) (k : World → Answer A) → Told o p0 → j ≤ 7 + d → ((t : ℕ) → Follow bound j S t p0 F P (k (world t o))) → Follow bound d (suc S) t0 p0 F P (spend t0 (world t0 o) k)
  follow_spend d j S zero o p0 F P k e l h = record { to = p0; holds = e; reach = reach_none d (suc S) 0 p0 }
  follow_spend d j S (suc t) o p0 F P k e l h = follow_map j S t p0 d (suc S) (suc t) p0 F P (k (world t o)) (λ t1 c b. reach_tick d j S t t1 p0 c l b) (h t)

  -- ## programs

  module _ (self : Self) (F : Fail) where
    pub goes_weaken : {A : Type 0} (j S j2 S2 : ℕ) (o : Outside) (p : Place) (P : Post A) (prog : Prog A) → j ≤ j2 → S ≤ S2 → Goes bound self F j S o p P prog → Goes bound self F j2 S2 o p P prog
    goes_weaken j S j2 S2 o p P prog l1 l2 g = record { is = λ t. follow_weaken j S j2 S2 t p F P (run self prog (world t o)) l1 l2 (g.is t) }

    pub goes_done : {A : Type 0} (j S : ℕ) (o : Outside) (p : Place) (P : Post A) (a : A) (s : SourceState) → P a s o p → Goes bound self F j S o p P (done a s)
    goes_done j S o p P a s h = record { is = λ t. record { to = p; holds = h; reach = reach_none j S t p } }

    pub goes_fault : {A : Type 0} (j S : ℕ) (o : Outside) (p : Place) (P : Post A) (v : Datum) (s : SourceState) → F v s o p → Goes bound self F j S o p P (fault v s)
    goes_fault j S o p P v s h = record { is = λ t. record { to = p; holds = h; reach = reach_none j S t p } }

    -- the next step is charged
    pub goes_soon : {A : Type 0} (j S : ℕ) (o : Outside) (m : State) (P : Post A) (prog : Prog A) → Goes bound self F j S o (Soon m) P prog → Goes bound self F (suc j) S o (Now m) P prog
    goes_soon j S o m P prog g = record { is = λ t. follow_map j S t (Soon m) (suc j) S t (Now m) F P (run self prog (world t o)) (λ t1 c b. reach_weaken (1 + j) (0 + S) (suc j) S t t1 (Now m) c (omega arith) (omega arith) (reach_then 1 0 j S t t t1 (Now m) (Soon m) c (reach_soon t m) b)) (g.is t) }

    -- and done
    pub goes_step : {A : Type 0} (j S : ℕ) (o : Outside) (m m1 : State) (P : Post A) (prog : Prog A) → step m ≡ Going m1 → Goes bound self F j S o (Now m1) P prog → Goes bound self F j S o (Soon m) P prog
    goes_step j S o m m1 P prog e g = record { is = λ t. follow_map j S t (Now m1) j S t (Soon m) F P (run self prog (world t o)) (λ t1 c b. reach_weaken (0 + j) (0 + S) j S t t1 (Soon m) c (omega arith) (omega arith) (reach_then 0 0 j S t t t1 (Soon m) (Now m1) c (reach_step t m m1 e) b)) (g.is t) }

    pub goes_word : {A : Type 0} (j S : ℕ) (o : Outside) (m m1 : State) (P : Post A) (prog : Prog A) → step m ≡ Going m1 → Goes bound self F j S o (Now m1) P prog → Goes bound self F (suc j) S o (Now m) P prog
    goes_word j S o m m1 P prog e g = goes_soon j S o m P prog (goes_step j S o m m1 P prog e g)

    -- and pays for the ticks of a whole body
    pub goes_paid : {A : Type 0} (j S : ℕ) (o : Outside) (m m1 : State) (P : Post A) (prog : Prog A) → step m ≡ Going m1 → S ≤ bound → Goes bound self F j S o (Now m1) P prog → Goes bound self F j 0 o (Soon m) P prog
    goes_paid j S o m m1 P prog e l g = record { is = λ t. follow_map j S t (Now m1) j 0 t (Soon m) F P (run self prog (world t o)) (λ t1 c b. reach_paid j S t t1 m m1 c e l b) (g.is t) }

    pub goes_from : {A : Type 0} (j S : ℕ) (o : Outside) (p p1 : Place) (P : Post A) (prog : Prog A) → p ≡ p1 → Goes bound self F j S o p1 P prog → Goes bound self F j S o p P prog
    goes_from j S o p p1 P prog e g = subst (λ y. Goes bound self F j S o y P prog) (sym e) g

    pub goes_is : {A : Type 0} (j S : ℕ) (o : Outside) (p : Place) (P : Post A) (prog prog1 : Prog A) → prog ≡ prog1 → Goes bound self F j S o p P prog1 → Goes bound self F j S o p P prog
    goes_is j S o p P prog prog1 e g = subst (λ y. Goes bound self F j S o p P y) (sym e) g

    -- a stretch of run
    pub goes_to : {A : Type 0} (j1 j S : ℕ) (o : Outside) (p : Place) (R : Place → Type 0) (P : Post A) (prog : Prog A) → ((t : ℕ) → Arrive bound j1 0 t p t R) → ((p1 : Place) → R p1 → Goes bound self F j S o p1 P prog) → Goes bound self F (j1 + j) S o p P prog
    goes_to j1 j S o p R P prog a g = record { is = λ t. let b = a t in follow_weaken (j1 + j) (0 + S) (j1 + j) S t p F P (run self prog (world t o)) (omega arith) (omega arith) (follow_after j1 0 j S t t p b.to F P (run self prog (world t o)) b.reach ((g b.to b.holds).is t)) }

    -- a question's reply, and what follows
    pub goes_ask : {A : Type 0} (S1 j S2 : ℕ) (o : Outside) (p : Place) (q : Task) (s : SourceState) (Q : Post (Gives q)) (P : Post A) (k : Gives q → SourceState → Prog A) → Asks bound 0 S1 o p F Q (self q s) → ((a : Gives q) (s1 : SourceState) (o1 : Outside) (p1 : Place) → Q a s1 o1 p1 → Goes bound self F j S2 o1 p1 P (k a s1)) → Goes bound self F j (S1 + S2) o p P (ask q s k)
    goes_ask S1 j S2 o p q s Q P k f h = record { is = λ t. follow_weaken (0 + j) (S1 + S2) j (S1 + S2) t p F P (run self (ask q s k) (world t o)) (omega arith) (omega arith) (follow_ask 0 S1 j S2 t p F Q P (self q s (world t o)) (λ a s1. run self (k a s1)) (f t) (λ a s1 w p1 x. (h a s1 w.outside p1 x).is w.ticks)) }

    -- a last question
    pub goes_last : (j S : ℕ) (o : Outside) (p : Place) (q : Task) (s : SourceState) (P : Post (Gives q)) → Asks bound 0 S o p F P (self q s) → Goes bound self F j S o p P (ask q s done)
    goes_last j S o p q s P f = goes_weaken j (S + 0) j S o p P (ask q s done) (omega arith) (omega arith) (goes_ask S j 0 o p q s P P done f (λ a s1 o1 p1 x. goes_done j 0 o1 p1 P a s1 x))

    -- a question for which nothing is done
    pub goes_staying : {B : Type 0} (j S1 S2 : ℕ) (o : Outside) (p : Place) (q : Task) (s : SourceState) (a : Gives q) (P : Post B) (k : Gives q → SourceState → Prog B) → Asks bound 0 S1 o p F (Stays a s o p) (self q s) → Goes bound self F j S2 o p P (k a s) → Goes bound self F j (S1 + S2) o p P (ask q s k)
    goes_staying j S1 S2 o p q s a P k f g =
        goes_ask S1 j S2 o p q s (Stays a s o p) P k f
        (λ b s1 o1 p1 h.
        subst (λ y. Goes bound self F j S2 o1 y P (k b s1)) (sym h.3)
        (subst (λ y. Goes bound self F j S2 y p P (k b s1)) (sym h.2)
        (subst (λ y. Goes bound self F j S2 o p P (k b y)) (sym h.1)
        (subst (λ y. Goes bound self F j S2 o p P (k y s)) (sym h.0) g))))

    -- one program and then another
    pub goes_then : {A B : Type 0} (j1 S1 j2 S2 : ℕ) (o : Outside) (p : Place) (Q : Post A) (P : Post B) (prog : Prog A) (k : A → SourceState → Prog B) → Goes bound self F j1 S1 o p Q prog → ((a : A) (s1 : SourceState) (o1 : Outside) (p1 : Place) → Q a s1 o1 p1 → Goes bound self F j2 S2 o1 p1 P (k a s1)) → Goes bound self F (j1 + j2) (S1 + S2) o p P (and_then prog k)
    goes_then j1 S1 j2 S2 o p Q P prog k g h = record { is = λ t. subst (Follow bound (j1 + j2) (S1 + S2) t p F P) (sym (run_and_then self prog k (world t o))) (follow_ask j1 S1 j2 S2 t p F Q P (run self prog (world t o)) (λ a s1. run self (k a s1)) (g.is t) (λ a s1 w p1 x. (h a s1 w.outside p1 x).is w.ticks)) }

    pub goes_attempt : {A : Type 0} (j1 S1 j S2 : ℕ) (o : Outside) (p : Place) (q : Task) (s : SourceState) (G : Fail) (Q : Post (Gives q)) (P : Post A) (k : Outcome (Gives q) → SourceState → Prog A) → Asks bound j1 S1 o p G Q (self q s) → ((a : Gives q) (s1 : SourceState) (o1 : Outside) (p1 : Place) → Q a s1 o1 p1 → Goes bound self F j S2 o1 p1 P (k (worked a) s1)) → ((v : Datum) (s1 : SourceState) (o1 : Outside) (p1 : Place) → G v s1 o1 p1 → Goes bound self F j S2 o1 p1 P (k (broke v) s1)) → Goes bound self F (j1 + j) (S1 + S2) o p P (attempt q s k)
    goes_attempt j1 S1 j S2 o p q s G Q P k f h g = record { is = λ t. follow_attempt j1 S1 j S2 t p G F Q P (self q s (world t o)) (λ a s1. run self (k a s1)) (f t) (λ a s1 w p1 x. (h a s1 w.outside p1 x).is w.ticks) (λ v s1 w p1 x. (g v s1 w.outside p1 x).is w.ticks) }

    pub goes_happen : {A : Type 0} (j S : ℕ) (o : Outside) (p : Place) (P : Post A) (e : Event) (prog : Prog A) → Goes bound self F j S (happens e o) p P prog → Goes bound self F j S o p P (happen e prog)
    goes_happen j S o p P e prog g = record { is = λ t. g.is t }

    -- a host is asked: where no reply is left, the next step waits
    pub goes_hear : {A : Type 0} (j S : ℕ) (o : Outside) (p : Place) (P : Post A) (h : ℕ) (vs : List Plain) (k : Reply → Prog A) → (o.replies ≡ [] → Waits o p) → ((r : Reply) (left : List Reply) → o.replies ≡ r ∷ left → Goes bound self F j S (replied h vs r left o) p P (k r)) → Goes bound self F j S o p P (hear h vs k)
    goes_hear j S o p P h vs k none some = record { is = λ t. by t o.replies refl }
      where
        by : (t : ℕ) (rs : List Reply) → o.replies ≡ rs → Follow bound j S t p F P (heard h vs rs (world t o) (λ r. run self (k r)))
        by t [] e = record { to = p; holds = none e; reach = reach_none j S t p }
        by t (r ∷ left) e = (some r left e).is t

    pub goes_post : {A : Type 0} (j S : ℕ) (o : Outside) (p : Place) (Q P : Post A) (prog : Prog A) → ((a : A) (s1 : SourceState) (o1 : Outside) (p1 : Place) → Q a s1 o1 p1 → P a s1 o1 p1) → Goes bound self F j S o p Q prog → Goes bound self F j S o p P prog
    goes_post j S o p Q P prog h g = record { is = λ t. follow_post j S t p F F Q P (run self prog (world t o)) h (λ v s o1 p1 x. x) (g.is t) }

    -- words after the end
    pub goes_more : {A : Type 0} (j j2 S : ℕ) (o : Outside) (p : Place) (Q P : Post A) (prog : Prog A) → Goes bound self F j S o p Q prog → ((a : A) (s1 : SourceState) (o1 : Outside) (p1 : Place) → Q a s1 o1 p1 → (t : ℕ) → Arrive bound j2 0 t p1 t (P a s1 o1)) → Goes bound self F (j + j2) S o p P prog
    goes_more j j2 S o p Q P prog g h = record { is = λ t. by t (run self prog (world t o)) (g.is t) }
      where
        by : (t : ℕ) (r : Answer _) → Follow bound j S t p F Q r → Follow bound (j + j2) S t p F P r
        by t (ended a s1 w) f =
            let m = h a s1 w.outside f.to f.holds w.ticks in
            record { to = m.to; holds = m.holds; reach = reach_weaken (j + j2) (S + 0) (j + j2) S t w.ticks p m.to (omega arith) (omega arith) (reach_then j S j2 0 t w.ticks w.ticks p f.to m.to f.reach m.reach) }
        by t (failed v s1 w) f = follow_weaken j S (j + j2) S t p F P (failed v s1 w) (omega arith) (omega arith) f
        by t (waiting w) f = follow_weaken j S (j + j2) S t p F P (waiting w) (omega arith) (omega arith) f
        by t (going w) f = follow_weaken j S (j + j2) S t p F P (going w) (omega arith) (omega arith) f

    -- a task: its tick, and then what it does
    pub by_tick : {A : Type 0} (d j S : ℕ) (o : Outside) (p : Place) (P : Post A) (prog : Prog A) → Told o p → j ≤ 7 + d → Goes bound self F j S o p P prog → Asks bound d (suc S) o p F P (λ w. spend w.ticks w (run self prog))
    by_tick d j S o p P prog e l g t = follow_spend d j S t o p F P (run self prog) e l (λ t1. g.is t1)

  -- with no ticks every task is going
  pub still : (S : ℕ) (o : Outside) (p : Place) → Told o p → (t : ℕ) → Arrive bound 0 S t p t (Told o)
  still S o p told t = record { to = p; holds = told; reach = reach_none 0 S t p }

  -- ## stretches of run

  pub to_here : (j t : ℕ) (p : Place) (R : Place → Type 0) → R p → Arrive bound j 0 t p t R
  to_here j t p R h = record { to = p; holds = h; reach = reach_none j 0 t p }

  pub to_step : (j t : ℕ) (m m1 : State) (R : Place → Type 0) → step m ≡ Going m1 → R (Now m1) → Arrive bound j 0 t (Soon m) t R
  to_step j t m m1 R e h = record { to = Now m1; holds = h; reach = reach_weaken 0 0 j 0 t t (Soon m) (Now m1) (omega arith) (omega arith) (reach_step t m m1 e) }

  pub to_word : (t : ℕ) (m m1 : State) (R : Place → Type 0) → step m ≡ Going m1 → R (Now m1) → Arrive bound 1 0 t (Now m) t R
  to_word t m m1 R e h = record { to = Now m1; holds = h; reach = reach_then 1 0 0 0 t t t (Now m) (Soon m) (Now m1) (reach_soon t m) (reach_step t m m1 e) }

  pub to_soon : (t : ℕ) (m : State) (R : Place → Type 0) → R (Soon m) → Arrive bound 1 0 t (Now m) t R
  to_soon t m R h = record { to = Soon m; holds = h; reach = reach_soon t m }

-- ## ticks that pay for words to come

-- the same as Reach, and e words more are paid for
pub record Earned (bound e S t0 : ℕ) (p0 : Place) (t1 : ℕ) (p1 : Place) : Type 0 where
  pub k : ℕ
  pub runs : steps k (Going (state_of p0)) ≡ Going (state_of p1)
  pub few : k + due p1 + 7 * t1 + e ≤ 7 * t0 + due p0
  pub many : t0 ≤ t1 + S + bound * k

pub record Gained (bound e S t0 : ℕ) (p0 : Place) (t1 : ℕ) (P : Place → Type 0) : Type 0 where
  pub to : Place
  pub holds : P to
  pub reach : Earned bound e S t0 p0 t1 to

-- only a task that has ended has earned something
abbrev pub FollowEarning : {A : Type 0} → ℕ → ℕ → ℕ → ℕ → Place → Fail → Post A → Answer A → Type 0
FollowEarning bound e S t0 p0 F P (ended a s w) = Gained bound e S t0 p0 w.ticks (P a s w.outside)
FollowEarning bound e S t0 p0 F P (failed v s w) = Arrive bound 0 S t0 p0 w.ticks (F v s w.outside)
FollowEarning bound e S t0 p0 F P (waiting w) = Arrive bound 0 S t0 p0 w.ticks (Waits w.outside)
FollowEarning bound e S t0 p0 F P (going w) = Arrive bound 0 S t0 p0 w.ticks (Told w.outside)

abbrev pub Earns : {A : Type 0} → ℕ → ℕ → ℕ → Outside → Place → Fail → Post A → (World → Answer A) → Type 0
Earns bound e S o p F P ans = (t : ℕ) → FollowEarning bound e S t p F P (ans (world t o))

module _ (bound : ℕ) (self : Self) (F : Fail) where
  pub goes_earning : {A : Type 0} (e S1 j j1 S2 : ℕ) (o : Outside) (p : Place) (q : Task) (s : SourceState) (Q : Post (Gives q)) (P : Post A) (k : Gives q → SourceState → Prog A) → j1 ≤ e + j → Earns bound e S1 o p F Q (self q s) → ((a : Gives q) (s1 : SourceState) (o1 : Outside) (p1 : Place) → Q a s1 o1 p1 → Goes bound self F j1 S2 o1 p1 P (k a s1)) → Goes bound self F j (S1 + S2) o p P (ask q s k)
  goes_earning e S1 j j1 S2 o p q s Q P k l f h = record { is = λ t. by t (self q s (world t o)) (f t) }
    where
      by : (t : ℕ) (r : Answer (Gives q)) → FollowEarning bound e S1 t p F Q r → Follow bound j (S1 + S2) t p F P (after r (λ a s1. run self (k a s1)))
      by t (ended a s1 w) g =
          follow_map bound j1 S2 w.ticks g.to j (S1 + S2) t p F P (run self (k a s1) (world w.ticks w.outside)) (λ t1 c b. record {
            k = g.reach.k + b.k;
            runs = steps_add g.reach.k b.k (Going (state_of p)) ∙ ap (steps b.k) g.reach.runs ∙ b.runs;
            few = (let x = g.reach.few in let y = b.few in omega (arith, x, y, l));
            many = (let x = g.reach.many in let y = b.many in omega (arith, x, y));
          }) ((h a s1 w.outside g.to g.holds).is w.ticks)
      by t (failed v s1 w) g = follow_weaken bound 0 S1 j (S1 + S2) t p F P (failed v s1 w) (omega arith) (omega arith) g
      by t (waiting w) g = follow_weaken bound 0 S1 j (S1 + S2) t p F P (waiting w) (omega arith) (omega arith) g
      by t (going w) g = follow_weaken bound 0 S1 j (S1 + S2) t p F P (going w) (omega arith) (omega arith) g

  -- a task with j words of its own earns the others that its tick pays for
  pub by_tick_earning : {A : Type 0} (e j S : ℕ) (o : Outside) (p : Place) (P : Post A) (prog : Prog A) → Told o p → e + j ≤ 7 → Goes bound self F j S o p P prog → Earns bound e (suc S) o p F P (λ w. spend w.ticks w (run self prog))
  by_tick_earning e j S o p P prog told l g zero = record { to = p; holds = told; reach = reach_none bound 0 (suc S) 0 p }
  by_tick_earning e j S o p P prog told l g (suc t) = by (run self prog (world t o)) (g.is t)
    where
      by : (r : Answer _) → Follow bound j S t p F P r → FollowEarning bound e (suc S) (suc t) p F P r
      by (ended a s w) f = record { to = f.to; holds = f.holds; reach = record { k = f.reach.k; runs = f.reach.runs; few = (let x = f.reach.few in omega (arith, x, l)); many = (let x = f.reach.many in omega (arith, x)) } }
      by (failed v s w) f = record { to = f.to; holds = f.holds; reach = reach_tick bound 0 j S t w.ticks p f.to (omega arith) f.reach }
      by (waiting w) f = record { to = f.to; holds = f.holds; reach = reach_tick bound 0 j S t w.ticks p f.to (omega arith) f.reach }
      by (going w) f = record { to = f.to; holds = f.holds; reach = reach_tick bound 0 j S t w.ticks p f.to (omega arith) f.reach }
