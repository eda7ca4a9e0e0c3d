-- Tail calls: the frame is left before the function is entered.
use Rattle.std.proofs.Common.{◌≡◌, ◌≤◌, ℕ, zero, suc, ◌-◌, true, false, inl, List, [], ◌∷◌, ◌++◌, map, length, Option, Some, None, refl, sym, ap, ◌∙◌, subst, arith, nat_lt, nat_le}
use Rattle.std.specs.Prelude.{slice_get}
use Rattle.std.proofs.lemmas.Bool.Decides.{nat_tests}
use Rattle.opcode.specs.declared.op.Op.{Op}
use Rattle.scheme.specs.declared.making.Piece.{Piece}
use Rattle.lua_model.specs.Datum.{Datum, nil, boolean, number, text, table, closure, native, host, is_function}
use Rattle.lua_model.specs.Store.{Outside, Reply, replies_values, replies_failure}
use Rattle.lua_model.specs.Endings.{IsPrefix}
use Rattle.lua_model.specs.Acts.{NativeAct, results, prints, asks, fails, protects, closes, Callee, plain, through, no_function}
use Rattle.lua_model.specs.Operators.{depth_limit, stack_overflow, callee, with_called}
use Rattle.lua_model.specs.Builtins.{native as built_in, call_host}
use Rattle.source_meaning.specs.State.{State as SourceState, Closure as Function, declared, inside}
use Rattle.source_meaning.specs.Tasks.{block, call}
use Rattle.source_meaning.specs.Programs.{Prog, fault, ask, spend, run}
use Rattle.source_meaning.specs.Meaning.{outside_call, program, apply, apply_callee, apply_value, enter, enter_at, no_such_function, results_of, tail_depth}
use Rattle.rules.specs.State.{State, Closure, Landing, open_at, Effect, need, check, span}
use Rattle.rules.specs.Calls as rules
use Rattle.rules.specs.Calls.{land, push, replace, tail_call, call_within, apply_to, answered, entered, begin, frame_of, leave}
use Rattle.rules.specs.Run.{Going, step, after}
use Rattle.scheme_stands.specs.Words.{Spot, WordAt}
use Rattle.agrees.proofs.Tasks.{TailBy, Simulates}
use Rattle.agrees.proofs.Posts.{Faults, Backs, fail_of, TailPost}
use Rattle.agrees.proofs.EventsOfHosts.{natives_ask_none, hosts_take_no_table, hosts_protect_none, CalleeFine, callee_fine}
use Rattle.agrees.proofs.Accounts.{Place, Now, Soon, Told, Grows, Self, Asks, Goes, Arrive, prefix_self, goes_fault, goes_weaken, goes_more, by_tick, reach_then, reach_step, reach_soon}
use Rattle.agrees.proofs.Sizes.{call_cost}
use Rattle.agrees.proofs.Words.{word_abc}
use Rattle.agrees.proofs.Picture.{code_of, Setup, Ghost, Site, registers, frame_of as waits_as, pic, at, waits, ClosureFine, Ok}
use Rattle.agrees.proofs.PictureChanges.{shuts, fine_leave, fine_waiter}
use Rattle.agrees.proofs.CallLeaves.{fails_at, backs_at, cells_gone}
use Rattle.agrees.proofs.EventsOfSteps.{after_grows}
use Rattle.agrees.proofs.EventsOfRuns.{tail_any}
use Rattle.agrees.proofs.CallEnters as Entry
use Rattle.agrees.proofs.CallMakes.{above, again, AnswerFine, answers, native_fine, host_fine, clos_get, clos_none, no_table}

-- where the call is protected, the frame is not replaced
same_answer : (a p : ℕ) (m : State) (k1 k2 : Datum → List Datum → Effect) → ((g : Datum) (xs : List Datum) → k1 g xs ≡ k2 g xs) → (n : NativeAct) → answered (replace a) (land (open_at a)) p k1 m n ≡ answered (push (open_at a) (land (open_at a))) (land (open_at a)) p k2 m n
same_answer a p m k1 k2 h (results vs s) = refl
same_answer a p m k1 k2 h (prints piece) = refl
same_answer a p m k1 k2 h (asks i vs) = by m.outside.replies
  where
    by : (rs : List Reply) → rules.asked_of (replace a) (land (open_at a)) p m i vs rs ≡ rules.asked_of (push (open_at a) (land (open_at a))) (land (open_at a)) p m i vs rs
    by [] = refl
    by (replies_values us ∷ rest) = refl
    by (replies_failure t ∷ rest) = refl
same_answer a p m k1 k2 h (fails v) = refl
same_answer a p m k1 k2 h (protects f xs) = h f xs
same_answer a p m k1 k2 h (closes i s) = refl

same_apply : (a p : ℕ) (m : State) (k1 k2 : Datum → List Datum → Effect) → ((g : Datum) (xs : List Datum) → k1 g xs ≡ k2 g xs) → (f : Datum) (args : List Datum) → rules.apply (replace a) (land (open_at a)) (suc p) k1 m f args ≡ rules.apply (push (open_at a) (land (open_at a))) (land (open_at a)) (suc p) k2 m f args
same_apply a p m k1 k2 h (closure c) args = by (slice_get m.closures c)
  where
    by : (o : Option Closure) → entered (replace a) (land (open_at a)) (suc p) m o args ≡ entered (push (open_at a) (land (open_at a))) (land (open_at a)) (suc p) m o args
    by None = refl
    by (Some f) = refl
same_apply a p m k1 k2 h (native n) args = same_answer a (suc p) m k1 k2 h (built_in n args m.store)
same_apply a p m k1 k2 h (host i) args = same_answer a (suc p) m k1 k2 h (call_host i args m.store)
same_apply a p m k1 k2 h nil args = refl
same_apply a p m k1 k2 h (boolean b) args = refl
same_apply a p m k1 k2 h (number b) args = refl
same_apply a p m k1 k2 h (text b) args = refl
same_apply a p m k1 k2 h (table b) args = refl

same_callee : (a p : ℕ) (m : State) (k1 k2 : Datum → List Datum → Effect) → ((g : Datum) (xs : List Datum) → k1 g xs ≡ k2 g xs) → (c : Callee) (args : List Datum) → apply_to (replace a) (land (open_at a)) (suc p) k1 m c args ≡ apply_to (push (open_at a) (land (open_at a))) (land (open_at a)) (suc p) k2 m c args
same_callee a p m k1 k2 h (plain f) args = same_apply a p m k1 k2 h f args
same_callee a p m k1 k2 h (through f) args = same_apply a p m k1 k2 h f args
same_callee a p m k1 k2 h (no_function v) args = refl

replace_is_push : (a left p : ℕ) (m : State) (f : Datum) (args : List Datum) → call_within (replace a) (land (open_at a)) left (suc p) m f args ≡ call_within (push (open_at a) (land (open_at a))) (land (open_at a)) left (suc p) m f args
replace_is_push a zero p m f args = same_callee a p m _ _ (λ g xs. refl) (callee m.store f) (with_called (callee m.store f) f args)
replace_is_push a (suc left) p m f args = same_callee a p m _ _ (λ g xs. replace_is_push a left (suc p) m g xs) (callee m.store f) (with_called (callee m.store f) f args)

module _ (z : Setup) (self : Self) (ih : Simulates z self) (g : Ghost) (y : Site) (pc base : ℕ) (behind last : Spot) (at_behind : behind.pc ≡ pc) (back : WordAt (code_of y.a) (Piece.Abc Op.Return base 0 0) behind last) where
  abbrev ld : Landing
  ld = open_at base

  abbrev T : ℕ → ℕ → Outside → State → Prog (List Datum) → Type 0
  T j S o m prog = Goes z.bound self (fail_of z y) j S o (Soon m) (Backs z y.a.landing y.a.protections y.below) prog

  -- the results of a call that was made are open, and RETURN takes them
  returns_open : (vs : List Datum) (s1 : SourceState) (o1 : Outside) (p1 : Place) → Backs z (open_at base) 0 (above y pc) vs s1 o1 p1 → (t : ℕ) → Arrive z.bound 1 0 t p1 t (Backs z y.a.landing y.a.protections y.below vs s1 o1)
  returns_open vs s1 o1 p1 h t =
      let b = h.is in
      let ok : Ok z s1 b.g y = fine_waiter z (length s1.cells) s1.closures b.g (waits y pc) (waits y 0) y.below refl refl b.fine in
      let m2 : State = pic s1 o1 b.g y pc (registers s1.cells y.a y.high) (Some (record { first = base; values = vs })) in
      let m3 : State = pic s1 o1 b.g y (suc pc) (registers s1.cells y.a y.high) None in
      let r : step m2 ≡ after m2 (leave m3 vs) =
      word_abc y.a Op.Return base 0 0 behind last m2 back refl (sym at_behind)
      ∙ ap (λ c. after m2 (check c (need (span (pic s1 o1 b.g y (suc pc) (registers s1.cells y.a y.high) (Some (record { first = base; values = vs }))) base (base - base)) (λ us. leave m3 (us ++ vs))))) (let q : nat_le base base ≡ true = grind (arith, nat_tests) in q)
      ∙ ap (λ n. after m2 (need (span (pic s1 o1 b.g y (suc pc) (registers s1.cells y.a y.high) (Some (record { first = base; values = vs }))) base n) (λ us. leave m3 (us ++ vs)))) (let q : base - base ≡ 0 = omega arith in q) in
      subst (λ q. Arrive z.bound 1 0 t q t (Backs z y.a.landing y.a.protections y.below vs s1 o1)) (sym h.at_m)
      (record {
        to = Soon m2;
        holds = backs_at z s1 o1 b.g y (suc pc) None vs m2 ok (prefix_self o1.events) r;
        reach = reach_then z.bound 0 0 1 0 t t t (Soon h.m) (Now m2) (Soon m2) (reach_step z.bound t h.m m2 b.is) (reach_soon z.bound t m2);
      })

  -- a built-in or a host that is called from the frame
  calls_native : (a : NativeAct) (s : SourceState) (o : Outside) (m : State) → Ok z s g y → m.outside ≡ o → Told o (Soon m) → AnswerFine m o a → step m ≡ after m (answered (replace base) (land (open_at base)) 0 (λ f xs. call_within (replace base) (land (open_at base)) 199 1 (at s o g y pc) f xs) (at s o g y pc) a) → T 1 201 o m (outside_call a 0 (suc (length y.below)) s)
  calls_native a s o m ok eo told fine e =
      let before = subst (λ o1. IsPrefix m.outside.events o1.events) eo (prefix_self m.outside.events) in
      goes_more z.bound self (fail_of z y) 0 1 201 o (Soon m) (Backs z (open_at base) 0 (above y pc)) (Backs z y.a.landing y.a.protections y.below) _
      (answers z self ih g y (open_at base) pc 0 200 a s o m refl ok before told fine
      (e ∙ ap (after m) (same_answer base 0 (at s o g y pc) _ (again (open_at base) 200 0 (at s o g y pc)) (λ f xs. replace_is_push base 199 0 (at s o g y pc) f xs) a)))
      (λ vs s1 o1 p1 h t. returns_open vs s1 o1 p1 h t)

  -- a function of the source takes the place of the frame
  replaces : (c : ℕ) (args : List Datum) (s : SourceState) (o : Outside) (m : State) → Ok z s g y → m.outside ≡ o → step m ≡ after m (entered (replace base) (land (open_at base)) 0 (at s o g y pc) (slice_get g.closures c) args) → T 1 201 o m (apply (closure c) 0 (length y.below) args s)
  replaces c args s o m ok eo e = by (slice_get s.closures c) refl
    where
      before : IsPrefix m.outside.events o.events
      before = subst (λ o1. IsPrefix m.outside.events o1.events) eo (prefix_self m.outside.events)

      shallow : length y.below ≤ depth_limit
      shallow = let d = ok.deep in omega (arith, d)

      entering : (f : Function) (mc : Closure) → ClosureFine z.bound g.owner mc f → step m ≡ after m (replace base 0 (at s o g y pc) mc args) → T 1 201 o m (enter f (length y.below) args s)
      entering f mc cf e1 =
          let n = Entry.entered z s o (shuts g (length y.below) 0) y.below mc f args y.a.landing y.a.protections shallow (fine_leave z (length s.cells) s.closures g (waits y 0) y.below ok) cf in
          let e2 : step m ≡ Going (at (declared f.params args [] s).1 o n.g1 n.y 0) =
          e1 ∙ ap (λ cs. after m (begin (record { top = frame_of mc args y.a.landing y.a.protections; below = map (waits_as s.cells) y.below; cells = cs; closures = g.closures; store = s.store; outside = o }))) (cells_gone z s g (waits y 0) y.below ok) ∙ ap (after m) n.is in
          goes_weaken z.bound self (fail_of z y) 1 0 1 201 o (Soon m) (Backs z y.a.landing y.a.protections y.below) _ (omega arith) (omega arith)
          (subst (λ q. Goes z.bound self (Faults z y.a.landing q y.below) 1 0 o (Soon m) (Backs z y.a.landing q y.below) (enter f (length y.below) args s)) n.protections
          (subst (λ l. Goes z.bound self (Faults z l n.y.a.protections y.below) 1 0 o (Soon m) (Backs z l n.y.a.protections y.below) (enter f (length y.below) args s)) n.landing
          (subst (λ gs. Goes z.bound self (Faults z n.y.a.landing n.y.a.protections gs) 1 0 o (Soon m) (Backs z n.y.a.landing n.y.a.protections gs) (ask (block (inside f (length y.below) args (declared f.params args [] s).0) f.block) (declared f.params args [] s).1 (results_of (length gs)))) n.below
          (Entry.body_goes z self ih (declared f.params args [] s).1 o n.g1 n.y f (inside f (length y.below) args (declared f.params args [] s).0) n.inner n.first n.mid n.last m n.sees n.ok cf.small n.first_pc n.body_at n.end e2))))

      by : (r : Option Function) → slice_get s.closures c ≡ r → T 1 201 o m (enter_at r (length y.below) args s)
      by None h =
          goes_fault z.bound self (fail_of z y) 1 201 o (Soon m) (Backs z y.a.landing y.a.protections y.below) no_such_function s
          (fails_at z s o g y pc None no_such_function m ok before (e ∙ ap (λ r. after m (entered (replace base) (land (open_at base)) 0 (at s o g y pc) r args)) (clos_none z.bound g.owner g.closures s.closures c ok.closures h)))
      by (Some f) h =
          let w = clos_get z.bound g.owner g.closures s.closures c f ok.closures h in
          subst (λ b. T 1 201 o m (elim b [ true ↦ fault stack_overflow s | false ↦ enter f (length y.below) args s ])) (sym (let q : nat_lt depth_limit (length y.below) ≡ false = let l = shallow in grind (arith, nat_tests) in q))
          (entering f w.0 w.2 (e ∙ ap (λ r. after m (entered (replace base) (land (open_at base)) 0 (at s o g y pc) r args)) w.1))

  by_function : (h : Datum) (args : List Datum) (s : SourceState) (o : Outside) (m : State) → is_function h ≡ true → Ok z s g y → m.outside ≡ o → Told o (Soon m) → step m ≡ after m (rules.apply (replace base) (land (open_at base)) 0 (λ f xs. call_within (replace base) (land (open_at base)) 199 1 (at s o g y pc) f xs) (at s o g y pc) h args) → T 1 201 o m (apply h 0 (tail_depth (plain h) (length y.below)) args s)
  by_function (closure c) args s o m is ok eo told e = replaces c args s o m ok eo e
  by_function (native n) args s o m is ok eo told e = calls_native (built_in n args s.store) s o m ok eo told (native_fine z self ih g y (open_at base) pc 0 n m o args (built_in n args s.store) (natives_ask_none n args s.store) (no_table n args) (inl eo)) e
  by_function (host i) args s o m is ok eo told e = calls_native (call_host i args s.store) s o m ok eo told (host_fine z self ih g y (open_at base) pc 0 m o args (call_host i args s.store) (hosts_protect_none i args s.store) (hosts_take_no_table i args s.store) (inl eo)) e
  by_function nil args s o m is ok eo told e = cc
  by_function (boolean b) args s o m is ok eo told e = cc
  by_function (number b) args s o m is ok eo told e = cc
  by_function (text b) args s o m is ok eo told e = cc
  by_function (table b) args s o m is ok eo told e = cc

  by_callee : (f : Datum) (args : List Datum) (c : Callee) → CalleeFine f c → (s : SourceState) (o : Outside) (m : State) → Ok z s g y → m.outside ≡ o → Told o (Soon m) → step m ≡ after m (apply_to (replace base) (land (open_at base)) 0 (λ h xs. call_within (replace base) (land (open_at base)) 199 1 (at s o g y pc) h xs) (at s o g y pc) c (with_called c f args)) → T 1 201 o m (apply_callee c 0 (tail_depth c (length y.below)) (with_called c f args) s)
  by_callee f args (plain h) c s o m ok eo told e = by_function h args s o m (ap is_function c.0 ∙ c.1) ok eo told e
  by_callee f args (through h) c s o m ok eo told e = by_function h (f ∷ args) s o m c.1 ok eo told e
  by_callee f args (no_function v) c s o m ok eo told e =
      goes_fault z.bound self (fail_of z y) 1 201 o (Soon m) (Backs z y.a.landing y.a.protections y.below) v s
      (fails_at z s o g y pc None v m ok (subst (λ o1. IsPrefix m.outside.events o1.events) eo (prefix_self m.outside.events)) e)

pub tail_told : (z : Setup) (s : SourceState) (o : Outside) (x : Site) (f : Datum) (args : List Datum) (p : Place) → TailPost z x f args s o p → Told o p
tail_told z s o x f args p h =
    subst (Told o) (sym h.at_m) (
      subst (λ y. IsPrefix y.events o.events) (sym h.outside) (prefix_self o.events),
      subst (Grows o.events) (sym h.is) (after_grows (Unit {0}) o.events h.m (tail_call h.base (at s o h.g h.y h.pc) f args) (λ w. subst (λ y. IsPrefix o.events y.events) (sym h.outside) (prefix_self o.events)) (tail_any o.events h.base (at s o h.g h.y h.pc) f args (prefix_self o.events))),
    )

module _ (z : Setup) (self : Self) (ih : Simulates z self) where
  pub next_tail : (f : Datum) (args : List Datum) → TailBy z f args (λ depth s w. spend w.ticks w (run self (program (call depth f args) s)))
  next_tail f args s o x p h =
      let y = h.y in
      let told = tail_told z s o x f args p h in
      let g1 = by_callee z self ih h.g y h.pc h.base h.behind h.last h.at_behind h.back f args (callee s.store f) (callee_fine s.store f) s o h.m h.ok h.outside (subst (Told o) h.at_m told) h.is in
      subst (λ q. Asks z.bound 0 call_cost o q (fail_of z x) (Backs z x.a.landing x.a.protections x.below) (λ w. spend w.ticks w (run self (apply_value f 0 (tail_depth (callee s.store f) (length x.below)) args s)))) (sym h.at_m)
      (by_tick z.bound self (fail_of z x) 0 1 201 o (Soon h.m) (Backs z x.a.landing x.a.protections x.below) (apply_value f 0 (tail_depth (callee s.store f) (length x.below)) args s) (subst (Told o) h.at_m told) (omega arith)
      (subst (λ gs. Goes z.bound self (Faults z x.a.landing x.a.protections gs) 1 201 o (Soon h.m) (Backs z x.a.landing x.a.protections gs) (apply_value f 0 (tail_depth (callee s.store f) (length gs)) args s)) h.same_below
      (subst (λ q. Goes z.bound self (Faults z x.a.landing q y.below) 1 201 o (Soon h.m) (Backs z x.a.landing q y.below) (apply_value f 0 (tail_depth (callee s.store f) (length y.below)) args s)) h.same_protections
      (subst (λ l. Goes z.bound self (Faults z l y.a.protections y.below) 1 201 o (Soon h.m) (Backs z l y.a.protections y.below) (apply_value f 0 (tail_depth (callee s.store f) (length y.below)) args s)) h.same_landing g1))))
