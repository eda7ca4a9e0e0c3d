-- The two laws of the meaning.
use Rattle.std.proofs.Common.{◌≡◌, ◌≢◌, ℕ, ◌+◌, ◌-◌, ◌≤◌, List, [], refl, sym, ap, subst, arith}
use Rattle.lua_tree.specs.Syntax.{Source}
use Rattle.lua_model.specs.Store.{Host, Reply}
use Rattle.lua_model.specs.Endings.{Going}
use Rattle.source_meaning.specs.Programs.{Answer, ended, failed, waiting, going, eval}
use Rattle.source_meaning.specs.Meaning.{program, main_program, answer, course_of, meaning}
use Rattle.lua_model.specs.Endings.{IsPrefix}
use Rattle.source_meaning.proofs.Laws.{events_of, Extends, eval_grows, eval_extends, run_extends, prefix_self}

extends : (source : Source) (hosts : List Host) (replies : List Reply) (t j : ℕ) → Extends j (answer source hosts replies t) (answer source hosts replies (t + j))
extends source hosts replies t j =
    run_extends j (eval program t) (eval program (t + j)) (λ q s w. eval_extends program j t j q s w) (eval_grows program (t + j)) (main_program source hosts) (record { ticks = t; outside = record { events = []; replies = replies } })

-- what the law says of an answer and one with more ticks
same_course : {A : Type 0} (j : ℕ) (a b : Answer A) → Extends j a b → (course_of a).ending ≢ Going → course_of b ≡ course_of a
same_course j (ended x s w) b e n = ap course_of e
same_course j (failed v s w) b e n = ap course_of e
same_course j (waiting w) b e n = ap course_of e
same_course j (going w) b e n = absurd (n refl)

events_same : {A : Type 0} (a : Answer A) → events_of a ≡ (course_of a).events
events_same (ended x s w) = refl
events_same (failed v s w) = refl
events_same (waiting w) = refl
events_same (going w) = refl

prefix_course : {A : Type 0} (j : ℕ) (a b : Answer A) → Extends j a b → IsPrefix (course_of a).events (course_of b).events
prefix_course j (ended x s w) b e = subst (λ c. IsPrefix w.outside.events (course_of c).events) (sym e) (prefix_self w.outside.events)
prefix_course j (failed v s w) b e = subst (λ c. IsPrefix w.outside.events (course_of c).events) (sym e) (prefix_self w.outside.events)
prefix_course j (waiting w) b e = subst (λ c. IsPrefix w.outside.events (course_of c).events) (sym e) (prefix_self w.outside.events)
prefix_course j (going w) b e = subst (IsPrefix w.outside.events) (events_same b) e

pub ends_stay : (source : Source) (hosts : List Host) (replies : List Reply) (t u : ℕ) → t ≤ u → (meaning source hosts replies t).ending ≢ Going → meaning source hosts replies u ≡ meaning source hosts replies t
ends_stay source hosts replies t u le n =
    let e : t + (u - t) ≡ u = omega (arith, le) in
    subst (λ v. meaning source hosts replies v ≡ meaning source hosts replies t) e (same_course (u - t) (answer source hosts replies t) (answer source hosts replies (t + (u - t))) (extends source hosts replies t (u - t)) n)

pub events_grow : (source : Source) (hosts : List Host) (replies : List Reply) (t u : ℕ) → t ≤ u → IsPrefix (meaning source hosts replies t).events (meaning source hosts replies u).events
events_grow source hosts replies t u le =
    let e : t + (u - t) ≡ u = omega (arith, le) in
    subst (λ v. IsPrefix (meaning source hosts replies t).events (meaning source hosts replies v).events) e (prefix_course (u - t) (answer source hosts replies t) (answer source hosts replies (t + (u - t))) (extends source hosts replies t (u - t)))
