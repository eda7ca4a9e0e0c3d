-- From what the induction says of the main block to the theorem: ends both ways, events both ways.
use Rattle.std.proofs.Common.{◌≡◌, ◌≢◌, ℕ, zero, suc, ◌+◌, ◌-◌, ◌*◌, ◌<◌, ◌≤◌, true, false, ◌⊎◌, inl, inr, List, Some, nat_le, refl, sym, ap, ◌∙◌, subst, arith}
use Rattle.lua_tree.specs.Syntax.{Source}
use Rattle.proto.specs.Chunk.{Chunk}
use Rattle.lua_model.specs.Datum.{Datum}
use Rattle.lua_model.specs.Store.{Host, Reply, Event}
use Rattle.lua_model.specs.Endings as ending
use Rattle.lua_model.specs.Endings.{Course, IsPrefix}
use Rattle.lua_model.specs.Builtins.{failure_text}
use Rattle.source_meaning.specs.Programs.{Answer, ended, failed, waiting, going, World}
use Rattle.source_meaning.specs.Meaning.{answer, course_of}
use Rattle.source_meaning.proofs.Ticks.{going_has_none}
use Rattle.rules.specs.State.{State}
use Rattle.rules.specs.Run.{Conf, Going, Ended, Failed, Waiting, Stuck, run as steps, ran, course, events_of}
use Rattle.agrees.specs.Agrees.{AgreesFor}
use Rattle.agrees.proofs.Lists.{some_same}
use Rattle.agrees.proofs.Accounts.{step_over, steps_stay, steps_add, Grows, prefix_self, prefix_trans}
use Rattle.agrees.proofs.EventsOfRuns.{told_of, grows_self, run_grows}
use Rattle.agrees.proofs.Lists.{le_cases}

-- what a run of the source says of the machine, S ticks at most before the first step, and so many at most for each
abbrev pub Says : ℕ → ℕ → Conf → ℕ → Answer (List Datum) → Type 0
Says bound S c0 t (ended vs s w) = (k : ℕ) × (k ≤ 8 * t) × (steps k c0 ≡ Ended s.store w.outside)
Says bound S c0 t (failed v s w) = (k : ℕ) × (k ≤ 8 * t) × (steps k c0 ≡ Failed (failure_text v) s.store w.outside)
Says bound S c0 t (waiting w) = (k : ℕ) × (k ≤ 8 * t) × (m : State) × (steps k c0 ≡ Waiting m) × (m.outside ≡ w.outside)
Says bound S c0 t (going w) = (k : ℕ) × (k ≤ 8 * t) × (t ≤ w.ticks + S + bound * k) × (m : State) × (steps k c0 ≡ Going m) × IsPrefix m.outside.events w.outside.events × (n : ℕ) × (k ≤ n) × (n ≤ 8 * t) × Grows w.outside.events (steps n c0)

pub over_is : (k n : ℕ) (c0 c : Conf) → step_over c ≡ true → k ≤ n → steps k c0 ≡ c → steps n c0 ≡ c
over_is k n c0 c h l e =
    let s : n ≡ k + (n - k) = omega arith in
    ap (λ x. steps x c0) s ∙ steps_add k (n - k) c0 ∙ ap (steps (n - k)) e ∙ sym (steps_stay c h (n - k))

pub later_grows : (k n : ℕ) (c0 : Conf) (es : List Event) → k ≤ n → Grows es (steps k c0) → Grows es (steps n c0)
later_grows k n c0 es l h =
    let s : n ≡ k + (n - k) = omega arith in
    subst (Grows es) (sym (ap (λ x. steps x c0) s ∙ steps_add k (n - k) c0)) (run_grows (n - k) es (steps k c0) h)

le_two : (k n : ℕ) → (k ≤ n) ⊎ (n ≤ k)
le_two k n = by (le_cases k n)
  where
    by : ((nat_le k n ≡ true) × (k ≤ n)) ⊎ ((nat_le k n ≡ false) × (n < k)) → (k ≤ n) ⊎ (n ≤ k)
    by (inl h) = inl h.1
    by (inr h) = let l = h.1 in inr (omega arith)

one_end : (k n : ℕ) (c0 c d : Conf) → step_over c ≡ true → step_over d ≡ true → steps k c0 ≡ c → steps n c0 ≡ d → c ≡ d
one_end k n c0 c d hc hd e f = by (le_two k n)
  where
    by : (k ≤ n) ⊎ (n ≤ k) → c ≡ d
    by (inl l) = sym (over_is k n c0 c hc l e) ∙ f
    by (inr l) = sym e ∙ over_is n k c0 d hd l f

-- where it is going later it was not over
not_both : (k n : ℕ) (c0 c : Conf) (m : State) → n ≤ k → step_over c ≡ true → steps n c0 ≡ c → steps k c0 ≡ Going m → ⊥
not_both k n c0 c m l h e f = let q : false ≡ true = sym (ap step_over f) ∙ ap step_over (over_is n k c0 c h l e) ∙ h in cc

times_le : (b k n : ℕ) → k ≤ n → b * k ≤ b * n
times_le zero k n l = omega arith
times_le (suc b) k n l = let x = times_le b k n l in omega (arith, x)

past : (S b k n t : ℕ) → t ≡ suc (S + b * n) → t ≤ S + b * k → n < k
past S b k n t e l = by (le_cases k n)
  where
    by : ((nat_le k n ≡ true) × (k ≤ n)) ⊎ ((nat_le k n ≡ false) × (n < k)) → n < k
    by (inl h) = let x = times_le b k n h.1 in absurd (omega (arith, x))
    by (inr h) = h.1

-- a course is that of a run that is over
pub over_course : (d : Conf) (c : Course) → course d ≡ Some c → c.ending ≢ ending.Going → step_over d ≡ true
over_course (Going m) c e h = let q = some_same (record { ending = ending.Going; events = m.outside.events }) c e in absurd (h (sym (ap (λ y. y.ending) q)))
over_course (Ended s o) c e h = refl
over_course (Failed t s o) c e h = refl
over_course (Waiting m) c e h = refl
over_course Stuck c e h = refl

-- what a run has told
pub told_events : (c : Conf) → told_of c ≡ events_of c
told_events (Going m) = refl
told_events (Ended s o) = refl
told_events (Failed t s o) = refl
told_events (Waiting m) = refl
told_events Stuck = refl

pub to_prefix : (es : List Event) (c : Conf) → (c ≡ Stuck → ⊥) → Grows es c → IsPrefix es (events_of c)
to_prefix es (Going m) h g = g
to_prefix es (Ended s o) h g = g
to_prefix es (Failed t s o) h g = g
to_prefix es (Waiting m) h g = g
to_prefix es Stuck h g = absurd (h refl)

module _ (source : Source) (chunk : Chunk) (hosts : List Host) (replies : List Reply) (bound S : ℕ) (says : (t : ℕ) → Says bound S (ran chunk hosts replies 0) t (answer source hosts replies t)) where
  abbrev c0 : Conf
  c0 = ran chunk hosts replies 0

  abbrev late_by : ℕ → ℕ
  late_by n = suc (S + bound * n)

  ticks_gone : (t : ℕ) (w : World) → answer source hosts replies t ≡ going w → w.ticks ≡ 0
  ticks_gone t w e = going_has_none source hosts replies t w e

  ends_at : (t : ℕ) (r : Answer (List Datum)) → Says bound S c0 t r → (course_of r).ending ≢ ending.Going → course (steps (8 * t) c0) ≡ Some (course_of r)
  ends_at t (ended vs s w) h g = ap course (over_is h.0 (8 * t) c0 (Ended s.store w.outside) refl h.1 h.2)
  ends_at t (failed v s w) h g = ap course (over_is h.0 (8 * t) c0 (Failed (failure_text v) s.store w.outside) refl h.1 h.2)
  ends_at t (waiting w) h g = ap course (over_is h.0 (8 * t) c0 (Waiting h.2) refl h.1 h.3) ∙ ap (λ o. Some (record { ending = ending.Waiting; events = o.events })) h.4
  ends_at t (going w) h g = absurd (g refl)

  -- at so many ticks the machine has gone past n steps, or the meaning has ended
  ends_by : (n t : ℕ) (c : Course) (r : Answer (List Datum)) → t ≡ suc (S + bound * n) → ((w : World) → r ≡ going w → w.ticks ≡ 0) → course (steps n c0) ≡ Some c → c.ending ≢ ending.Going → Says bound S c0 t r → course_of r ≡ c
  ends_by n t c (ended vs s w) et gone e g h =
      some_same (course_of (ended vs s w)) c (ap course (one_end h.0 n c0 (Ended s.store w.outside) (steps n c0) refl (over_course (steps n c0) c e g) h.2 refl) ∙ e)
  ends_by n t c (failed v s w) et gone e g h =
      some_same (course_of {A = List Datum} (failed v s w)) c (ap course (one_end h.0 n c0 (Failed (failure_text v) s.store w.outside) (steps n c0) refl (over_course (steps n c0) c e g) h.2 refl) ∙ e)
  ends_by n t c (waiting w) et gone e g h =
      some_same (course_of {A = List Datum} (waiting w)) c (ap (λ o. Some (record { ending = ending.Waiting; events = o.events })) (sym h.4) ∙ ap course (one_end h.0 n c0 (Waiting h.2) (steps n c0) refl (over_course (steps n c0) c e g) h.3 refl) ∙ e)
  ends_by n t c (going w) et gone e g h =
      let z = gone w refl in let k = h.2 in
      absurd (not_both h.0 n c0 (steps n c0) h.3 (let x = past S bound h.0 n t et (omega (arith, z, k)) in omega arith) (over_course (steps n c0) c e g) refl h.4)

  stuck_never : (n t : ℕ) (r : Answer (List Datum)) → t ≡ suc (S + bound * n) → ((w : World) → r ≡ going w → w.ticks ≡ 0) → steps n c0 ≡ Stuck → Says bound S c0 t r → ⊥
  stuck_never n t (ended vs s w) et gone e h = let q : Ended s.store w.outside ≡ Stuck = one_end h.0 n c0 (Ended s.store w.outside) Stuck refl refl h.2 e in cc
  stuck_never n t (failed v s w) et gone e h = let q : Failed (failure_text v) s.store w.outside ≡ Stuck = one_end h.0 n c0 (Failed (failure_text v) s.store w.outside) Stuck refl refl h.2 e in cc
  stuck_never n t (waiting w) et gone e h = let q : Waiting h.2 ≡ Stuck = one_end h.0 n c0 (Waiting h.2) Stuck refl refl h.3 e in cc
  stuck_never n t (going w) et gone e h =
      let z = gone w refl in let k = h.2 in
      not_both h.0 n c0 Stuck h.3 (let x = past S bound h.0 n t et (omega (arith, z, k)) in omega arith) refl e h.4

  pub never_stuck : (n : ℕ) → steps n c0 ≡ Stuck → ⊥
  never_stuck n e = stuck_never n (late_by n) (answer source hosts replies (late_by n)) refl (λ w q. ticks_gone (late_by n) w q) e (says (late_by n))

  grown : (es : List Event) (n : ℕ) → Grows es (steps n c0) → IsPrefix es (events_of (steps n c0))
  grown es n g = to_prefix es (steps n c0) (never_stuck n) g

  tells_at : (t : ℕ) (r : Answer (List Datum)) → Says bound S c0 t r → IsPrefix (course_of r).events (events_of (steps (8 * t) c0))
  tells_at t (ended vs s w) h = grown w.outside.events (8 * t) (subst (Grows w.outside.events) (sym (over_is h.0 (8 * t) c0 (Ended s.store w.outside) refl h.1 h.2)) (prefix_self w.outside.events))
  tells_at t (failed v s w) h = grown w.outside.events (8 * t) (subst (Grows w.outside.events) (sym (over_is h.0 (8 * t) c0 (Failed (failure_text v) s.store w.outside) refl h.1 h.2)) (prefix_self w.outside.events))
  tells_at t (waiting w) h = grown w.outside.events (8 * t) (subst (Grows w.outside.events) (sym (over_is h.0 (8 * t) c0 (Waiting h.2) refl h.1 h.3)) (subst (λ o. IsPrefix w.outside.events o.events) (sym h.4) (prefix_self w.outside.events)))
  tells_at t (going w) h = grown w.outside.events (8 * t) (later_grows h.6 (8 * t) c0 w.outside.events h.8 h.9)

  -- what n steps have told is in what a run that is over at k steps has told
  told_over : (k n : ℕ) (c : Conf) → step_over c ≡ true → steps k c0 ≡ c → IsPrefix (events_of (steps n c0)) (events_of c)
  told_over k n c o e = by (le_two n k)
    where
      by : (n ≤ k) ⊎ (k ≤ n) → IsPrefix (events_of (steps n c0)) (events_of c)
      by (inl l) = subst (λ es. IsPrefix es (events_of c)) (told_events (steps n c0)) (subst (λ d. IsPrefix (told_of (steps n c0)) (events_of d)) e (grown (told_of (steps n c0)) k (later_grows n k c0 (told_of (steps n c0)) l (grows_self (steps n c0)))))
      by (inr l) = subst (λ d. IsPrefix (events_of d) (events_of c)) (sym (over_is k n c0 c o l e)) (prefix_self (events_of c))

  tells_by : (n t : ℕ) (r : Answer (List Datum)) → t ≡ suc (S + bound * n) → ((w : World) → r ≡ going w → w.ticks ≡ 0) → Says bound S c0 t r → IsPrefix (events_of (steps n c0)) (course_of r).events
  tells_by n t (ended vs s w) et gone h = told_over h.0 n (Ended s.store w.outside) refl h.2
  tells_by n t (failed v s w) et gone h = told_over h.0 n (Failed (failure_text v) s.store w.outside) refl h.2
  tells_by n t (waiting w) et gone h = subst (λ o. IsPrefix (events_of (steps n c0)) o.events) h.4 (told_over h.0 n (Waiting h.2) refl h.3)
  tells_by n t (going w) et gone h =
      let z = gone w refl in let k = h.2 in
      let l : n < h.0 = past S bound h.0 n t et (omega (arith, z, k)) in
      prefix_trans (events_of (steps n c0)) h.3.outside.events w.outside.events (going_told n h.0 h.3 (omega arith) h.4) h.5
    where
      going_told : (n k : ℕ) (m : State) → n ≤ k → steps k c0 ≡ Going m → IsPrefix (events_of (steps n c0)) m.outside.events
      going_told n k m l e = subst (λ es. IsPrefix es m.outside.events) (told_events (steps n c0)) (subst (Grows (told_of (steps n c0))) e (later_grows n k c0 (told_of (steps n c0)) l (grows_self (steps n c0))))

  pub agrees : AgreesFor source chunk hosts replies
  agrees = record {
    ends = λ t g. ends_at t (answer source hosts replies t) (says t) g;
    ends_only = λ n c e g. (late_by n, ends_by n (late_by n) c (answer source hosts replies (late_by n)) refl (λ w q. ticks_gone (late_by n) w q) e g (says (late_by n)));
    tells = λ t. tells_at t (answer source hosts replies t) (says t);
    tells_only = λ n. (late_by n, tells_by n (late_by n) (answer source hosts replies (late_by n)) refl (λ w q. ticks_gone (late_by n) w q) (says (late_by n)));
  }
