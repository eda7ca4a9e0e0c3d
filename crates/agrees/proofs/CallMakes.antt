-- A call is made: of a built-in function, a host, a protected function, a function of the source.
use Rattle.std.proofs.Common.{◌≡◌, ℕ, zero, suc, ◌+◌, ◌==◌, Bool, true, false, not, ◌⊎◌, inl, inr, List, [], ◌∷◌, ◌++◌, length, map, Option, Some, None, refl, sym, ap, ◌∙◌, subst, arith, nat_lt}
use Rattle.std.specs.Prelude.{slice_get, if◌then◌else◌}
use Rattle.std.proofs.lemmas.Bool.Decides.{nat_tests}
use Rattle.lua_model.specs.Datum.{Datum, boolean, text, table, closure, native, host, nil, number, is_function}
use Rattle.lua_model.specs.Store.{Outside, Reply, Event, replies_values, replies_failure, printed, closed, asked, as_datum, happens, replied}
use Rattle.lua_model.specs.Acts.{NativeAct, results, prints, asks, fails, protects, closes, Callee, plain, through, no_function}
use Rattle.lua_model.specs.Operators.{depth_limit, protection_limit, stack_overflow, callee, with_called}
use Rattle.lua_model.specs.Builtins.{native as built_in, call_host}
use Rattle.lua_model.specs.Endings.{IsPrefix}
use Rattle.source_meaning.specs.State.{State as SourceState, Closure as Function, with_store, declared, inside}
use Rattle.source_meaning.specs.Tasks.{block, call, protected_call, refused_call}
use Rattle.source_meaning.specs.Programs.{Prog, done, fault, ask, attempt}
use Rattle.source_meaning.specs.Programs as programs
use Rattle.source_meaning.specs.Meaning.{outside_call, reply_results, protected_results, apply, apply_callee, apply_value, enter, enter_at, no_such_function, results_of, program}
use Rattle.rules.specs.State.{State, Landing, Effect, Closure}
use Rattle.rules.specs.Calls as rules
use Rattle.rules.specs.Calls.{worked, failed_in, land, push, call_within, apply_to, answered, entered}
use Rattle.rules.specs.Run.{Going, step, after}
use Rattle.agrees.proofs.Tasks.{HasTable, IsQuiet, CallBy, Simulates}
use Rattle.agrees.proofs.Posts.{Lands, Faults, Backs}
use Rattle.agrees.proofs.EventsOfHosts.{Plainly, natives_ask_none, AsksNone, hosts_take_no_table, ProtectsNone, hosts_protect_none, CalleeFine, callee_fine}
use Rattle.agrees.proofs.EventsOfSteps.{after_grows, call_tells_so}
use Rattle.agrees.proofs.Accounts.{Soon, Post, Told, Grows, Self, Goes, prefix_self, prefix_trans, goes_done, goes_fault, goes_happen, goes_hear, goes_attempt, goes_weaken, goes_is, by_tick, goes_staying}
use Rattle.agrees.proofs.Picture.{Setup, Waiter, Ghost, Site, frame_of, at, waits, ClosureFine, ClosuresFine, Fine, Ok}
use Rattle.agrees.proofs.PictureChanges.{fine_waiter}
use Rattle.agrees.proofs.Lists.{some_same, length_map}
use Rattle.agrees.proofs.CallEnters as Entry
use Rattle.agrees.proofs.CallLeaves.{fails_at}

abbrev pub above : Site → ℕ → List Waiter
above x pc = waits x pc ∷ x.below

-- a built-in's or host's answer to the arguments of f, where a host is asked or a call is protected
abbrev pub AnswerFine : State → Outside → NativeAct → Type 0
AnswerFine m o (asks h vs) = m.outside ≡ o
AnswerFine m o (protects g xs) = IsQuiet m o g xs
AnswerFine m o _ = Unit {0}

-- one more true before the values
worked_more : (p : ℕ) (vs : List Datum) → worked (suc p) vs ≡ worked p (boolean true ∷ vs)
worked_more zero vs = refl
worked_more (suc p) vs = ap (λ r. boolean true ∷ r) (worked_more p vs)

-- what is to be done where a built-in makes a protected call
abbrev pub again : Landing → ℕ → ℕ → State → Datum → List Datum → Effect
again ld zero p m g xs = failed_in (land ld) p m stack_overflow
again ld (suc left) p m g xs = call_within (push ld (land ld)) (land ld) left (suc p) m g xs

-- what happens within a call's step is told by it, where no host waits in it
pub call_tells : (z : Setup) (f : Datum) (args : List Datum) (s : SourceState) (o : Outside) (g : Ghost) (x : Site) (ld : Landing) (pc left p : ℕ) (m : State) → IsPrefix m.outside.events o.events → IsQuiet m o f args → step m ≡ after m (call_within (push ld (land ld)) (land ld) left p (at s o g x pc) f args) → Told o (Soon m)
call_tells z f args s o g x ld pc left p m before quiet e =
    (before, subst (Grows o.events) (sym e) (after_grows (m.outside ≡ o) o.events m (call_within (push ld (land ld)) (land ld) left p (at s o g x pc) f args) (λ w. subst (λ y. IsPrefix o.events y.events) (sym w) (prefix_self o.events)) (call_tells_so (m.outside ≡ o) o.events (at s o g x pc) ld left p f args (prefix_self o.events) quiet)))

pub clos_get : (bound : ℕ) (owner : List ℕ) (ms : List Closure) (cs : List Function) (i : ℕ) (c : Function) → ClosuresFine bound owner ms cs → slice_get cs i ≡ Some c → (m : Closure) × (slice_get ms i ≡ Some m) × ClosureFine bound owner m c
clos_get bound owner [] [] i c h e = cc
clos_get bound owner [] (d ∷ cs) i c h e = absurd h
clos_get bound owner (m ∷ ms) [] i c h e = absurd h
clos_get bound owner (m ∷ ms) (d ∷ cs) zero c h e = (m, refl, subst (ClosureFine bound owner m) (some_same d c e) h.0)
clos_get bound owner (m ∷ ms) (d ∷ cs) (suc i) c h e = clos_get bound owner ms cs i c h.1 e

pub clos_none : (bound : ℕ) (owner : List ℕ) (ms : List Closure) (cs : List Function) (i : ℕ) → ClosuresFine bound owner ms cs → slice_get cs i ≡ None → slice_get ms i ≡ None
clos_none bound owner [] [] i h e = refl
clos_none bound owner [] (d ∷ cs) i h e = absurd h
clos_none bound owner (m ∷ ms) [] i h e = absurd h
clos_none bound owner (m ∷ ms) (d ∷ cs) zero h e = cc
clos_none bound owner (m ∷ ms) (d ∷ cs) (suc i) h e = clos_none bound owner ms cs i h.1 e

-- a table that is called or handed is handed, where a function is called
pub no_table : (n : ℕ) (args : List Datum) → HasTable (native n ∷ args) → HasTable args
no_table n args (inl h) = let e = h.1 in cc
no_table n args (inr h) = h

module _ (z : Setup) (self : Self) (ih : Simulates z self) where
  module _ (g : Ghost) (x : Site) (ld : Landing) (pc p : ℕ) where
    abbrev G : {A : Type 0} → ℕ → ℕ → Outside → State → Post A → Prog A → Type 0
    G j S o m P prog = Goes z.bound self (Faults z ld p (above x pc)) j S o (Soon m) P prog

    -- results land
    lands_in : (s : SourceState) (o : Outside) (m : State) (vs : List Datum) → Ok z s g x → IsPrefix m.outside.events o.events → step m ≡ after m (land ld (at s o g x pc) (worked p vs)) → Backs z ld p (above x pc) vs s o (Soon m)
    lands_in s o m vs ok before e = record { m = m; at_m = refl; before = before; is = record { g = g; is = e; fine = fine_waiter z (length s.cells) s.closures g (waits x 0) (waits x pc) x.below refl refl ok } }

    fails_in : (s : SourceState) (o : Outside) (m : State) (v : Datum) (q : ℕ) → p ≡ q → Ok z s g x → IsPrefix m.outside.events o.events → step m ≡ after m (failed_in (land ld) q (at s o g x pc) v) → Faults z ld q (above x pc) v s o (Soon m)
    fails_in s o m v zero h ok before e = fails_at z s o g x pc None v m ok before e
    fails_in s o m v (suc q) h ok before e = record { m = m; at_m = refl; before = before; is = record { g = g; is = e; fine = fine_waiter z (length s.cells) s.closures g (waits x 0) (waits x pc) x.below refl refl ok } }

    faults : (S : ℕ) (s : SourceState) (o : Outside) (m : State) (v : Datum) → Ok z s g x → IsPrefix m.outside.events o.events → step m ≡ after m (failed_in (land ld) p (at s o g x pc) v) → G 0 S o m (Backs z ld p (above x pc)) (fault v s)
    faults S s o m v ok before e = goes_fault z.bound self (Faults z ld p (above x pc)) 0 S o (Soon m) (Backs z ld p (above x pc)) v s (fails_in s o m v p refl ok before e)

    gives : (S : ℕ) (s : SourceState) (o : Outside) (m : State) (vs : List Datum) → Ok z s g x → IsPrefix m.outside.events o.events → step m ≡ after m (land ld (at s o g x pc) (worked p vs)) → G 0 S o m (Backs z ld p (above x pc)) (done vs s)
    gives S s o m vs ok before e = goes_done z.bound self (Faults z ld p (above x pc)) 0 S o (Soon m) (Backs z ld p (above x pc)) vs s (lands_in s o m vs ok before e)

    -- a reply
    replies : (S : ℕ) (s : SourceState) (o : Outside) (m : State) (r : Reply) → Ok z s g x → IsPrefix m.outside.events o.events → step m ≡ after m (rules.heard (push ld (land ld)) (land ld) p (at s o g x pc) r) → G 0 S o m (Backs z ld p (above x pc)) (reply_results r s)
    replies S s o m (replies_values vs) ok before e = gives S s o m (map as_datum vs) ok before e
    replies S s o m (replies_failure t) ok before e = faults S s o m (text t) ok before e

    later : (m : State) (o : Outside) (e : Event) → IsPrefix m.outside.events o.events → IsPrefix m.outside.events (happens e o).events
    later m o e q = prefix_trans m.outside.events o.events (o.events ++ e ∷ []) q (e ∷ [], refl)

    -- what a built-in or a host does
    pub answers : (left : ℕ) (a : NativeAct) (s : SourceState) (o : Outside) (m : State) → left + p ≡ protection_limit → Ok z s g x → IsPrefix m.outside.events o.events → Told o (Soon m) → AnswerFine m o a → step m ≡ after m (answered (push ld (land ld)) (land ld) p (again ld left p (at s o g x pc)) (at s o g x pc) a) → G 0 (suc left) o m (Backs z ld p (above x pc)) (outside_call a p (suc (length x.below)) s)
    answers left (results vs new) s o m sum ok before told fine e = gives (suc left) (with_store s new) o m vs ok before e
    answers left (prints piece) s o m sum ok before told fine e =
        goes_happen z.bound self (Faults z ld p (above x pc)) 0 (suc left) o (Soon m) (Backs z ld p (above x pc)) (printed piece) (done [] s)
        (gives (suc left) s (happens (printed piece) o) m [] ok (later m o (printed piece) before) e)
    answers left (asks h vs) s o m sum ok before told fine e =
        goes_hear z.bound self (Faults z ld p (above x pc)) 0 (suc left) o (Soon m) (Backs z ld p (above x pc)) h vs (λ r. reply_results r s)
        (λ none. (fine, e ∙ ap (λ rs. after m (rules.asked_of (push ld (land ld)) (land ld) p (at s o g x pc) h vs rs)) none))
        (λ r rest some. replies (suc left) s (replied h vs r rest o) m r ok (later m o (asked h vs r) before) (e ∙ ap (λ rs. after m (rules.asked_of (push ld (land ld)) (land ld) p (at s o g x pc) h vs rs)) some))
    answers left (fails v) s o m sum ok before told fine e = faults (suc left) s o m v ok before e
    answers left (closes h new) s o m sum ok before told fine e =
        goes_happen z.bound self (Faults z ld p (above x pc)) 0 (suc left) o (Soon m) (Backs z ld p (above x pc)) (closed h) (done (boolean true ∷ []) (with_store s new))
        (gives (suc left) (with_store s new) (happens (closed h) o) m (boolean true ∷ []) ok (later m o (closed h) before) e)
    answers zero (protects f args) s o m sum ok before told fine e =
        goes_is z.bound self (Faults z ld p (above x pc)) 0 1 o (Soon m) (Backs z ld p (above x pc)) _ (ask refused_call s (λ u s1. fault stack_overflow s1))
        (ap (λ b. if b then ask refused_call s (λ u s1. fault stack_overflow s1) else attempt (protected_call (suc p) (suc (length x.below)) f args) s protected_results) (let q : (p == protection_limit) ≡ true = grind (arith, nat_tests) in q))
        (goes_staying z.bound self (Faults z ld p (above x pc)) 0 1 0 o (Soon m) refused_call s tt (Backs z ld p (above x pc)) (λ u s1. fault stack_overflow s1) (ih.refuses s o ld p (above x pc) (Soon m) told) (faults 0 s o m stack_overflow ok before e))
    answers (suc left) (protects f args) s o m sum ok before told fine e =
        goes_is z.bound self (Faults z ld p (above x pc)) 0 (suc (suc left)) o (Soon m) (Backs z ld p (above x pc)) _ (attempt (protected_call (suc p) (suc (length x.below)) f args) s protected_results)
        (ap (λ b. if b then ask refused_call s (λ u s1. fault stack_overflow s1) else attempt (protected_call (suc p) (suc (length x.below)) f args) s protected_results) (let q : (p == protection_limit) ≡ false = grind (arith, nat_tests) in q))
        (goes_weaken z.bound self (Faults z ld p (above x pc)) 0 (suc (suc left) + 0) 0 (suc (suc left)) o (Soon m) (Backs z ld p (above x pc)) _ (omega arith) (omega arith)
        (goes_attempt z.bound self (Faults z ld p (above x pc)) 0 (suc (suc left)) 0 0 o (Soon m) (protected_call (suc p) (suc (length x.below)) f args) s (Faults z ld (suc p) (above x pc)) (Backs z ld (suc p) (above x pc)) (Backs z ld p (above x pc)) protected_results
        (ih.protected (suc p) f args s o g x ld pc left m (omega arith) ok before fine e)
        (λ vs s1 o1 p1 h. goes_done z.bound self (Faults z ld p (above x pc)) 0 0 o1 p1 (Backs z ld p (above x pc)) (boolean true ∷ vs) s1 (record { m = h.m; at_m = h.at_m; before = h.before; is = subst (λ us. Lands z ld (above x pc) us s1 o1 h.m) (worked_more p vs) h.is }))
        (λ v s1 o1 p1 h. goes_done z.bound self (Faults z ld p (above x pc)) 0 0 o1 p1 (Backs z ld p (above x pc)) (boolean false ∷ v ∷ []) s1 (record { m = h.m; at_m = h.at_m; before = h.before; is = h.is }))))

    -- the answer of a built-in or a host to a call of f
    pub native_fine : (n : ℕ) (m : State) (o : Outside) (args : List Datum) (a : NativeAct) → Plainly args a → (HasTable (native n ∷ args) → HasTable args) → IsQuiet m o (native n) args → AnswerFine m o a
    native_fine n m o args (results vs s1) q t quiet = tt
    native_fine n m o args (prints piece) q t quiet = tt
    native_fine n m o args (asks h vs) q t quiet = absurd q
    native_fine n m o args (fails v) q t quiet = tt
    native_fine n m o args (protects f xs) q t (inl e) = inl e
    native_fine n m o args (protects f xs) q t (inr h) = inr (subst HasTable q (t h))
    native_fine n m o args (closes h s1) q t quiet = tt

    pub host_fine : (m : State) (o : Outside) (args : List Datum) (a : NativeAct) → ProtectsNone a → (HasTable args → AsksNone a) → (m.outside ≡ o) ⊎ HasTable args → AnswerFine m o a
    host_fine m o args (results vs s1) q t quiet = tt
    host_fine m o args (prints piece) q t quiet = tt
    host_fine m o args (asks h vs) q t (inl e) = e
    host_fine m o args (asks h vs) q t (inr has) = absurd (t has)
    host_fine m o args (fails v) q t quiet = tt
    host_fine m o args (protects f xs) q t quiet = absurd q
    host_fine m o args (closes h s1) q t quiet = tt

    -- a function of the source is entered, unless that is too deep
    enters : (left c : ℕ) (args : List Datum) (s : SourceState) (o : Outside) (m : State) → Ok z s g x → IsPrefix m.outside.events o.events → step m ≡ after m (entered (push ld (land ld)) (land ld) p (at s o g x pc) (slice_get g.closures c) args) → G 1 (suc left) o m (Backs z ld p (above x pc)) (apply (closure c) p (suc (length x.below)) args s)
    enters left c args s o m ok before e = by (slice_get s.closures c) refl
      where
        waiting : Fine z (length s.cells) s.closures g (above x pc)
        waiting = fine_waiter z (length s.cells) s.closures g (waits x 0) (waits x pc) x.below refl refl ok

        more : {prog : Prog (List Datum)} → G 0 0 o m (Backs z ld p (above x pc)) prog → G 1 (suc left) o m (Backs z ld p (above x pc)) prog
        more h = goes_weaken z.bound self (Faults z ld p (above x pc)) 0 0 1 (suc left) o (Soon m) (Backs z ld p (above x pc)) _ (omega arith) (omega arith) h

        deep : (b : Bool) → nat_lt depth_limit (suc (length x.below)) ≡ b → nat_lt (length (map (frame_of s.cells) x.below)) depth_limit ≡ not b
        deep true h = let l = length_map (frame_of s.cells) x.below in grind (arith, nat_tests)
        deep false h = let l = length_map (frame_of s.cells) x.below in grind (arith, nat_tests)

        entering : (f : Function) (mc : Closure) → ClosureFine z.bound g.owner mc f → step m ≡ after m (push ld (land ld) p (at s o g x pc) mc args) → (b : Bool) → nat_lt depth_limit (suc (length x.below)) ≡ b → G 1 (suc left) o m (Backs z ld p (above x pc)) (elim b [ true ↦ fault stack_overflow s | false ↦ enter f (suc (length x.below)) args s ])
        entering f mc cf e1 true h =
            more (faults 0 s o m stack_overflow ok before (e1 ∙ ap (λ b. after m (if b then rules.begin (record (at s o g x pc) { top = rules.frame_of mc args ld p; below = (at s o g x pc).top ∷ (at s o g x pc).below }) else failed_in (land ld) p (at s o g x pc) stack_overflow)) (deep true h)))
        entering f mc cf e1 false h =
            let n = Entry.entered z s o g (above x pc) mc f args ld p (grind (arith, nat_tests)) waiting cf in
            let e2 : step m ≡ Going (at (declared f.params args [] s).1 o n.g1 n.y 0) = e1 ∙ ap (λ b. after m (if b then rules.begin (record (at s o g x pc) { top = rules.frame_of mc args ld p; below = (at s o g x pc).top ∷ (at s o g x pc).below }) else failed_in (land ld) p (at s o g x pc) stack_overflow)) (deep false h) ∙ ap (after m) n.is in
            goes_weaken z.bound self (Faults z ld p (above x pc)) 1 0 1 (suc left) o (Soon m) (Backs z ld p (above x pc)) _ (omega arith) (omega arith)
            (subst (λ q. Goes z.bound self (Faults z ld q (above x pc)) 1 0 o (Soon m) (Backs z ld q (above x pc)) (enter f (suc (length x.below)) args s)) n.protections
            (subst (λ l. Goes z.bound self (Faults z l n.y.a.protections (above x pc)) 1 0 o (Soon m) (Backs z l n.y.a.protections (above x pc)) (enter f (suc (length x.below)) args s)) n.landing
            (subst (λ gs. Goes z.bound self (Faults z n.y.a.landing n.y.a.protections gs) 1 0 o (Soon m) (Backs z n.y.a.landing n.y.a.protections gs) (ask (block (inside f (suc (length x.below)) args (declared f.params args [] s).0) f.block) (declared f.params args [] s).1 (results_of (length gs)))) n.below
            (Entry.body_goes z self ih (declared f.params args [] s).1 o n.g1 n.y f (inside f (suc (length x.below)) args (declared f.params args [] s).0) n.inner n.first n.mid n.last m n.sees n.ok cf.small n.first_pc n.body_at n.end e2))))

        by : (r : Option Function) → slice_get s.closures c ≡ r → G 1 (suc left) o m (Backs z ld p (above x pc)) (enter_at r (suc (length x.below)) args s)
        by None h = more (faults 0 s o m no_such_function ok before (e ∙ ap (λ r. after m (entered (push ld (land ld)) (land ld) p (at s o g x pc) r args)) (clos_none z.bound g.owner g.closures s.closures c ok.closures h)))
        by (Some f) h =
            let w = clos_get z.bound g.owner g.closures s.closures c f ok.closures h in
            entering f w.0 w.2 (e ∙ ap (λ r. after m (entered (push ld (land ld)) (land ld) p (at s o g x pc) r args)) w.1) (nat_lt depth_limit (suc (length x.below))) refl

    -- ## what is called

    by_function : (left : ℕ) (h : Datum) (args : List Datum) (s : SourceState) (o : Outside) (m : State) → is_function h ≡ true → left + p ≡ protection_limit → Ok z s g x → IsPrefix m.outside.events o.events → Told o (Soon m) → ((n : ℕ) → h ≡ native n → IsQuiet m o (native n) args) → ((m.outside ≡ o) ⊎ HasTable args) → step m ≡ after m (rules.apply (push ld (land ld)) (land ld) p (again ld left p (at s o g x pc)) (at s o g x pc) h args) → G 1 (suc left) o m (Backs z ld p (above x pc)) (apply h p (suc (length x.below)) args s)
    by_function left (closure c) args s o m is sum ok before told q1 q2 e = enters left c args s o m ok before e
    by_function left (native n) args s o m is sum ok before told q1 q2 e =
        goes_weaken z.bound self (Faults z ld p (above x pc)) 0 (suc left) 1 (suc left) o (Soon m) (Backs z ld p (above x pc)) _ (omega arith) (omega arith)
        (answers left (built_in n args s.store) s o m sum ok before told (native_fine n m o args (built_in n args s.store) (natives_ask_none n args s.store) (no_table n args) (q1 n refl)) e)
    by_function left (host h) args s o m is sum ok before told q1 q2 e =
        goes_weaken z.bound self (Faults z ld p (above x pc)) 0 (suc left) 1 (suc left) o (Soon m) (Backs z ld p (above x pc)) _ (omega arith) (omega arith)
        (answers left (call_host h args s.store) s o m sum ok before told (host_fine m o args (call_host h args s.store) (hosts_protect_none h args s.store) (hosts_take_no_table h args s.store) q2) e)
    by_function left nil args s o m is sum ok before told q1 q2 e = cc
    by_function left (boolean b) args s o m is sum ok before told q1 q2 e = cc
    by_function left (number b) args s o m is sum ok before told q1 q2 e = cc
    by_function left (text b) args s o m is sum ok before told q1 q2 e = cc
    by_function left (table b) args s o m is sum ok before told q1 q2 e = cc

    abbrev Machine : ℕ → Callee → List Datum → SourceState → Outside → State → Type 0
    Machine left cal args s o m = step m ≡ after m (apply_to (push ld (land ld)) (land ld) p (again ld left p (at s o g x pc)) (at s o g x pc) cal args)

    by_callee : (left : ℕ) (f : Datum) (args : List Datum) (cal : Callee) → CalleeFine f cal → (s : SourceState) (o : Outside) (m : State) → left + p ≡ protection_limit → Ok z s g x → IsPrefix m.outside.events o.events → Told o (Soon m) → IsQuiet m o f args → Machine left cal (with_called cal f args) s o m → G 1 (suc left) o m (Backs z ld p (above x pc)) (apply_callee cal p (suc (length x.below)) (with_called cal f args) s)
    by_callee left f args (plain h) c s o m sum ok before told quiet e =
        by_function left h args s o m (ap is_function c.0 ∙ c.1) sum ok before told (λ n q. subst (λ y. IsQuiet m o y args) (sym c.0 ∙ q) quiet) (handed f args c.1 quiet) e
      where
        handed : (f : Datum) (args : List Datum) → is_function f ≡ true → IsQuiet m o f args → (m.outside ≡ o) ⊎ HasTable args
        handed f args is (inl h) = inl h
        handed f args is (inr (inl t)) = let q : false ≡ true = sym (ap is_function t.1) ∙ is in cc
        handed f args is (inr (inr h)) = inr h
    by_callee left f args (through h) c s o m sum ok before told quiet e =
        by_function left h (f ∷ args) s o m c.1 sum ok before told (λ n q. inr (inr (inl c.0))) (inr (inl c.0)) e
    by_callee left f args (no_function v) c s o m sum ok before told quiet e =
        goes_weaken z.bound self (Faults z ld p (above x pc)) 0 (suc left) 1 (suc left) o (Soon m) (Backs z ld p (above x pc)) _ (omega arith) (omega arith) (faults (suc left) s o m v ok before e)

    within_is : (left : ℕ) (f : Datum) (args : List Datum) (s : SourceState) (o : Outside) (m : State) → step m ≡ after m (call_within (push ld (land ld)) (land ld) left p (at s o g x pc) f args) → Machine left (callee s.store f) (with_called (callee s.store f) f args) s o m
    within_is zero f args s o m e = e
    within_is (suc left) f args s o m e = e

    pub call_goes : (f : Datum) (args : List Datum) (s : SourceState) (o : Outside) (left : ℕ) (m : State) → left + p ≡ protection_limit → Ok z s g x → IsPrefix m.outside.events o.events → IsQuiet m o f args → step m ≡ after m (call_within (push ld (land ld)) (land ld) left p (at s o g x pc) f args) → G 1 (suc left) o m (Backs z ld p (above x pc)) (apply_value f p (suc (length x.below)) args s)
    call_goes f args s o left m sum ok before quiet e =
        by_callee left f args (callee s.store f) (callee_fine s.store f) s o m sum ok before (call_tells z f args s o g x ld pc left p m before quiet e) quiet (within_is left f args s o m e)

  -- the induction's steps
  pub next_calls : (f : Datum) (args : List Datum) → CallBy z 0 f args (λ depth s w. programs.spend w.ticks w (programs.run self (program (call depth f args) s)))
  next_calls f args s o g x ld pc left m sum ok before quiet e =
      by_tick z.bound self (Faults z ld 0 (above x pc)) 0 1 (suc left) o (Soon m) (Backs z ld 0 (above x pc)) (apply_value f 0 (suc (length x.below)) args s) (call_tells z f args s o g x ld pc left 0 m before quiet e) (omega arith) (call_goes g x ld pc 0 f args s o left m sum ok before quiet e)

  pub next_protected : (p : ℕ) (f : Datum) (args : List Datum) → CallBy z p f args (λ depth s w. programs.spend w.ticks w (programs.run self (program (protected_call p depth f args) s)))
  next_protected p f args s o g x ld pc left m sum ok before quiet e =
      by_tick z.bound self (Faults z ld p (above x pc)) 0 1 (suc left) o (Soon m) (Backs z ld p (above x pc)) (apply_value f p (suc (length x.below)) args s) (call_tells z f args s o g x ld pc left p m before quiet e) (omega arith) (call_goes g x ld pc p f args s o left m sum ok before quiet e)
