-- What has happened within a step stays, whatever the step comes to; and no landing waits.
use Rattle.std.proofs.Common.{◌≡◌, ℕ, zero, suc, ◌+◌, ℤ, pos, Bool, true, false, ◌⊎◌, inl, inr, List, [], ◌∷◌, ◌++◌, length, Option, None, Some, refl, sym, ap, ◌∙◌, subst}
use Rattle.std.specs.Prelude.{nat_lt, nat_le, ◌+ℤ◌, slice_get, slice_set, if◌then◌else◌, codes}
use Rattle.proto.specs.Chunk.{own}
use Rattle.lua_num.specs.Bytes.{Text}
use Rattle.lua_model.specs.Datum.{Datum, nil, boolean, number, text, table, closure, native, host, is_nil, is_function, first_of, adjusted, to_text}
use Rattle.lua_model.specs.declared.plain.Plain.{Plain}
use Rattle.lua_model.specs.Store.{Store, Event, Outside, Reply, replies_values, replies_failure, printed, closed, asked}
use Rattle.lua_model.specs.Endings.{IsPrefix}
use Rattle.lua_model.specs.Acts.{Act, value, call as calls, failure, fail_text, Use, take, Callee, plain, through, no_function, NativeAct, results, prints, asks, fails, protects, closes}
use Rattle.lua_model.specs.Operators.{depth_limit, protection_limit, stack_overflow, callee, with_called, join as join_two, join_on, ask_or, either_handler, handler, culprit}
use Rattle.lua_model.specs.Datum.{kind_name}
use Rattle.lua_model.specs.Builtins.{native as built_in, call_host}
use Rattle.rules.specs.Places.{as_pc}
use Rattle.rules.specs.Words.{has_arg_table}
use Rattle.rules.specs.State.{Landing, into, test, pairs, fixed, open_at, turn, nowhere, Frame, Closure, State, Effect, Goes, Fails, Ends, Waits, IsStuck, need, check, with_registers, with_store, register, has_registers, set, spliced}
use Rattle.rules.specs.Cells.{close_from}
use Rattle.rules.specs.Calls.{next_jmp, jump, skip, branch, broke, failed_in, heard, asked_of, answered, entered, apply, apply_to, call_within, frame_of, with_arg_table, begin, push, answer, join, turned, land, give_to}
use Rattle.rules.specs.Run.{Conf, settled, unwind, after}
use Rattle.agrees.proofs.Tasks.{IsTable, HasTable}
use Rattle.agrees.proofs.EventsOfHosts.{Plainly, natives_ask_none, AsksNone, hosts_take_no_table, ProtectsNone, hosts_protect_none, CalleeFine, callee_fine}
use Rattle.agrees.proofs.Accounts.{Grows, prefix_trans}

-- the act of `..` calls only where one of its operands is a table
abbrev pub ActTable : Act → Type 0
ActTable (calls h args how) = HasTable args
ActTable _ = Unit {0}

ask_table : (h : Datum) (args : List Datum) (u : Use) (other : Act) → (is_nil h ≡ false → HasTable args) → ActTable other → ActTable (ask_or h args u other)
ask_table h args u other t o = by (is_nil h) refl
  where
    by : (b : Bool) → is_nil h ≡ b → ActTable (if b then other else calls h args u)
    by true e = o
    by false e = t e

handled : (s : Store) (b : Datum) (event : Text) → is_nil (handler s b event) ≡ false → IsTable b
handled s (table t) event e = (t, refl)
handled s nil event e = cc
handled s (boolean c) event e = cc
handled s (number c) event e = cc
handled s (text c) event e = cc
handled s (closure c) event e = cc
handled s (native c) event e = cc
handled s (host c) event e = cc

either_table : (s : Store) (a b : Datum) (event : Text) → is_nil (either_handler s a b event) ≡ false → HasTable (a ∷ b ∷ [])
either_table s a b event e = by (is_nil (handler s a event)) refl e
  where
    by : (t : Bool) → is_nil (handler s a event) ≡ t → is_nil (if t then handler s b event else handler s a event) ≡ false → HasTable (a ∷ b ∷ [])
    by true h e1 = inr (inl (handled s b event e1))
    by false h e1 = inl (handled s a event h)

pub join_table : (s : Store) (a b : Datum) → ActTable (join_two s a b)
join_table s a b = by (to_text a) (to_text b)
  where
    fault : Option Text → Act
    fault x = fail_text (codes "attempt to concatenate a " ++ kind_name (culprit x a b) ++ codes " value")

    by : (x y : Option Text) → ActTable (join_on s a b x y)
    by (Some x) (Some y) = tt
    by (Some x) None = ask_table (either_handler s a b (codes "__concat")) (a ∷ b ∷ []) take (fail_text (codes "attempt to concatenate a " ++ kind_name (culprit (Some x) a b) ++ codes " value")) (either_table s a b (codes "__concat")) tt
    by None y = ask_table (either_handler s a b (codes "__concat")) (a ∷ b ∷ []) take (fail_text (codes "attempt to concatenate a " ++ kind_name (culprit {A = Text} None a b) ++ codes " value")) (either_table s a b (codes "__concat")) tt

module _ (W : Type 0) (es : List Event) where
  -- these events have happened where it ends; W where it waits
  abbrev pub Tells : Effect → Type 0
  Tells (Goes n) = IsPrefix es n.outside.events
  Tells (Fails at v) = IsPrefix es at.outside.events
  Tells (Ends at) = IsPrefix es at.outside.events
  Tells Waits = W
  Tells IsStuck = Unit {0}

  pub need_tells : {A : Type 0} (o : Option A) (next : A → Effect) → ((x : A) → Tells (next x)) → Tells (need o next)
  need_tells None next h = tt
  need_tells (Some x) next h = h x

  pub check_tells : (b : Bool) (e : Effect) → Tells e → Tells (check b e)
  check_tells true e h = h
  check_tells false e h = tt

  pub either_tells : (b : Bool) (x y : Effect) → Tells x → Tells y → Tells (if b then x else y)
  either_tells true x y h k = h
  either_tells false x y h k = k

  pub set_tells : (m : State) (a : ℕ) (v : Datum) → IsPrefix es m.outside.events → Tells (set m a v)
  set_tells m a v h = need_tells (register m a) _ (λ old. h)

  pub jump_tells : (m : State) (s : ℤ) → IsPrefix es m.outside.events → Tells (jump m s)
  jump_tells m s h = need_tells (as_pc (pos m.top.pc +ℤ s)) _ (λ pc. h)

  pub branch_tells : (m : State) (b : Bool) → IsPrefix es m.outside.events → Tells (branch m b)
  branch_tells m true h = need_tells (next_jmp m) _ (λ s. jump_tells (skip m) s h)
  branch_tells m false h = need_tells (next_jmp m) _ (λ s. h)

  pub begin_tells : (m : State) → IsPrefix es m.outside.events → Tells (begin m)
  begin_tells m h =
      check_tells (nat_le (own m.top.function).params (length m.top.registers)) _
      (either_tells (has_arg_table (own m.top.function).flags) _ (Goes m) (set_tells (with_store m (with_arg_table m.store m.top.extra)) (own m.top.function).params (table (length m.store.tables)) h) h)

  turned_tells : (m : State) (a : ℕ) (vs : List Datum) → IsPrefix es m.outside.events → Tells (turned m a vs)
  turned_tells m a vs h =
      let put = with_registers m (spliced m.top.registers (a + 3) vs) in
      check_tells (has_registers m (a + 3) (length vs)) _
      (need_tells (register put (a + 3)) _
      (λ v. either_tells (is_nil v) _ _ (branch_tells put false h) (need_tells (register put (a + 2)) _ (λ old. branch_tells (with_registers put (slice_set put.top.registers (a + 2) v)) true h))))

  -- a call whose waiting is spoken of, or that waits never
  abbrev pub MayWait : Datum → List Datum → Type 0
  MayWait f args = W ⊎ HasTable (f ∷ args)

  abbrev AnswerMay : NativeAct → Type 0
  AnswerMay (asks h vs) = W
  AnswerMay (protects g xs) = MayWait g xs
  AnswerMay _ = Unit {0}

  native_may : (n : ℕ) (args : List Datum) (a : NativeAct) → Plainly args a → W ⊎ HasTable args → AnswerMay a
  native_may n args (results vs s1) q w = tt
  native_may n args (prints piece) q w = tt
  native_may n args (asks h vs) q w = absurd q
  native_may n args (fails v) q w = tt
  native_may n args (protects f xs) q (inl e) = inl e
  native_may n args (protects f xs) q (inr h) = inr (subst HasTable q h)
  native_may n args (closes h s1) q w = tt

  host_may : (args : List Datum) (a : NativeAct) → ProtectsNone a → (HasTable args → AsksNone a) → W ⊎ HasTable args → AnswerMay a
  host_may args (results vs s1) q t w = tt
  host_may args (prints piece) q t w = tt
  host_may args (asks h vs) q t (inl e) = e
  host_may args (asks h vs) q t (inr h1) = absurd (t h1)
  host_may args (fails v) q t w = tt
  host_may args (protects f xs) q t w = absurd q
  host_may args (closes h s1) q t w = tt

  handed : (f : Datum) (args : List Datum) → is_function f ≡ true → MayWait f args → W ⊎ HasTable args
  handed f args e (inl w) = inl w
  handed f args e (inr (inl t)) = let q : false ≡ true = sym (ap is_function t.1) ∙ e in cc
  handed f args e (inr (inr h)) = inr h

  module _ (m : State) (enters : ℕ → State → Closure → List Datum → Effect) (lands : State → List Datum → Effect) (here : IsPrefix es m.outside.events) (enters_tell : (p : ℕ) (f : Closure) (args : List Datum) → Tells (enters p m f args)) (lands_tell : (m1 : State) (vs : List Datum) → m1.top ≡ m.top → m1.below ≡ m.below → IsPrefix es m1.outside.events → Tells (lands m1 vs)) where
    pub failed_tells : (p : ℕ) (o : Outside) (v : Datum) → IsPrefix es o.events → Tells (failed_in lands p (record m { outside = o }) v)
    failed_tells zero o v h = h
    failed_tells (suc p) o v h = lands_tell (record m { outside = o }) (broke p v) refl refl h

    heard_tells : (p : ℕ) (o : Outside) (reply : Reply) → IsPrefix es o.events → Tells (heard enters lands p (record m { outside = o }) reply)
    heard_tells p o (replies_values vs) h = lands_tell (record m { outside = o }) _ refl refl h
    heard_tells p o (replies_failure t) h = failed_tells p o (text t) h

    more : (e : Event) → IsPrefix es (m.outside.events ++ e ∷ [])
    more e = prefix_trans es m.outside.events (m.outside.events ++ e ∷ []) here (e ∷ [], refl)

    asked_tells : (p h : ℕ) (args : List Plain) (replies : List Reply) → W → Tells (asked_of enters lands p m h args replies)
    asked_tells p h args [] w = w
    asked_tells p h args (reply ∷ left) w = heard_tells p _ reply (more (asked h args reply))

    answered_tells : (p : ℕ) (again : Datum → List Datum → Effect) → ((g : Datum) (xs : List Datum) → MayWait g xs → Tells (again g xs)) → (a : NativeAct) → AnswerMay a → Tells (answered enters lands p again m a)
    answered_tells p again h (results vs store) w = lands_tell (record m { store = store }) _ refl refl here
    answered_tells p again h (prints piece) w = lands_tell _ _ refl refl (more (printed piece))
    answered_tells p again h (asks i args) w = asked_tells p i args m.outside.replies w
    answered_tells p again h (fails v) w = failed_tells p m.outside v here
    answered_tells p again h (protects f args) w = h f args w
    answered_tells p again h (closes i store) w = lands_tell _ _ refl refl (more (closed i))

    entered_tells : (p : ℕ) (f : Option Closure) (args : List Datum) → Tells (entered enters lands p m f args)
    entered_tells p None args = failed_tells p m.outside _ here
    entered_tells p (Some f) args = enters_tell p f args

    apply_tells : (p : ℕ) (again : Datum → List Datum → Effect) → ((g : Datum) (xs : List Datum) → MayWait g xs → Tells (again g xs)) → (f : Datum) (args : List Datum) → W ⊎ HasTable args → Tells (apply enters lands p again m f args)
    apply_tells p again h (closure c) args w = entered_tells p (slice_get m.closures c) args
    apply_tells p again h (native id) args w = answered_tells p again h (built_in id args m.store) (native_may id args (built_in id args m.store) (natives_ask_none id args m.store) w)
    apply_tells p again h (host i) args w = answered_tells p again h (call_host i args m.store) (host_may args (call_host i args m.store) (hosts_protect_none i args m.store) (hosts_take_no_table i args m.store) w)
    apply_tells p again h nil args w = failed_tells p m.outside _ here
    apply_tells p again h (boolean b) args w = failed_tells p m.outside _ here
    apply_tells p again h (number b) args w = failed_tells p m.outside _ here
    apply_tells p again h (text b) args w = failed_tells p m.outside _ here
    apply_tells p again h (table b) args w = failed_tells p m.outside _ here

    apply_to_tells : (p : ℕ) (again : Datum → List Datum → Effect) → ((g : Datum) (xs : List Datum) → MayWait g xs → Tells (again g xs)) → (f : Datum) (args : List Datum) (c : Callee) → CalleeFine f c → MayWait f args → Tells (apply_to enters lands p again m c (with_called c f args))
    apply_to_tells p again h f args (plain g) c w = apply_tells p again h g args (handed f args c.1 w)
    apply_to_tells p again h f args (through g) c w = apply_tells p again h g (f ∷ args) (inr (inl c.0))
    apply_to_tells p again h f args (no_function v) c w = failed_tells p m.outside v here

    pub within_tells : (left p : ℕ) (f : Datum) (args : List Datum) → MayWait f args → Tells (call_within enters lands left p m f args)
    within_tells zero p f args w = apply_to_tells p _ (λ g xs w1. failed_tells p m.outside stack_overflow here) f args (callee m.store f) (callee_fine m.store f) w
    within_tells (suc left) p f args w =
        apply_to_tells p (λ g xs. call_within enters lands left (suc p) m g xs) (λ g xs w1. within_tells left (suc p) g xs w1) f args (callee m.store f) (callee_fine m.store f) w

  pub push_tells : (m : State) (ld : Landing) (lands : State → List Datum → Effect) → IsPrefix es m.outside.events → ((m1 : State) (vs : List Datum) → m1.top ≡ m.top → m1.below ≡ m.below → IsPrefix es m1.outside.events → Tells (lands m1 vs)) → (p : ℕ) (f : Closure) (args : List Datum) → Tells (push ld lands p m f args)
  push_tells m ld lands here h p f args =
      either_tells (nat_lt (length m.below) depth_limit) _ _ (begin_tells (record m { top = frame_of f args ld p; below = m.top ∷ m.below }) here) (overflow p)
    where
      overflow : (p : ℕ) → Tells (failed_in lands p m stack_overflow)
      overflow zero = here
      overflow (suc p) = h m (broke p stack_overflow) refl refl here

  -- ## landings

  answer_tells : (m : State) (ld : Landing) (lands : State → List Datum → Effect) (next : State → Datum → Effect) → IsPrefix es m.outside.events → ((m1 : State) (vs : List Datum) → m1.top ≡ m.top → m1.below ≡ m.below → IsPrefix es m1.outside.events → Tells (lands m1 vs)) → ((v : Datum) → Tells (next m v)) → (act : Act) → ActTable act → Tells (answer ld lands next m act)
  answer_tells m ld lands next here h g (value v) t = g v
  answer_tells m ld lands next here h g (calls f args how) t = within_tells m (push ld lands) lands here (push_tells m ld lands here h) h protection_limit 0 f args (inr (inr t))
  answer_tells m ld lands next here h g (failure v) t = here

  join_tells : (n : ℕ) (m : State) (a first : ℕ) (v : Datum) → IsPrefix es m.outside.events → Tells (join m a first n v)
  join_tells zero m a first v h = set_tells m a v h
  join_tells (suc n) m a first v h =
      need_tells (register m (first + n)) _
      (λ left. answer_tells m (pairs a first n) (λ m1 vs. join m1 a first n (first_of vs)) (λ m1 w. join m1 a first n w) h (λ m1 vs e1 e2 h1. join_tells n m1 a first (first_of vs) h1) (λ w. join_tells n m a first w h) (join_two m.store left v) (join_table m.store left v))

  pub land_tells : (ld : Landing) (m : State) (vs : List Datum) → IsPrefix es m.outside.events → Tells (land ld m vs)
  land_tells (into a) m vs h = set_tells m a (first_of vs) h
  land_tells (test a negated) m vs h = branch_tells m _ h
  land_tells (pairs a first n) m vs h = join_tells n m a first (first_of vs) h
  land_tells (fixed a n) m vs h = check_tells (has_registers m a (length (adjusted n vs))) _ h
  land_tells (open_at a) m vs h = h
  land_tells (turn a n) m vs h = turned_tells m a (adjusted n vs) h
  land_tells nowhere m vs h = h

  pub call_tells_so : (m : State) (ld : Landing) (left p : ℕ) (f : Datum) (args : List Datum) → IsPrefix es m.outside.events → MayWait f args → Tells (call_within (push ld (land ld)) (land ld) left p m f args)
  call_tells_so m ld left p f args h w = within_tells m (push ld (land ld)) (land ld) h (push_tells m ld (land ld) h (λ m1 vs e1 e2 h1. land_tells ld m1 vs h1)) (λ m1 vs e1 e2 h1. land_tells ld m1 vs h1) left p f args w

-- ## failures that go down

settled_grows : (W : Type 0) (es : List Event) (m0 : State) (fail : State → Datum → Conf) (e : Effect) → (W → IsPrefix es m0.outside.events) → ((at : State) (v : Datum) → IsPrefix es at.outside.events → Grows es (fail at v)) → Tells W es e → Grows es (settled m0 fail e)
settled_grows W es m0 fail (Goes n) w h t = t
settled_grows W es m0 fail (Fails at v) w h t = h at v t
settled_grows W es m0 fail (Ends at) w h t = t
settled_grows W es m0 fail Waits w h t = w t
settled_grows W es m0 fail IsStuck w h t = tt

give_tells : (es : List Event) (below : List Frame) (m : State) (ld : Landing) (vs : List Datum) → IsPrefix es m.outside.events → Tells ⊥ es (give_to below m ld vs)
give_tells es [] m ld vs h = h
give_tells es (x ∷ below) m ld vs h = land_tells ⊥ es ld (record m { top = x; below = below }) vs h

unwind_grows : (es : List Event) (m0 : State) (fs : List Frame) (at : State) (v : Datum) → IsPrefix es at.outside.events → Grows es (unwind m0 fs at v)
unwind_grows es m0 [] at v h = h
unwind_grows es m0 (x ∷ below) at v h = by x.protections (λ at1 v1 h1. unwind_grows es m0 below at1 v1 h1)
  where
    by : (p : ℕ) → ((at1 : State) (v1 : Datum) → IsPrefix es at1.outside.events → Grows es (unwind m0 below at1 v1)) → Grows es (elim p [ zero ↦ unwind m0 below (close_from (record at { top = x; below = below }) 0) v | suc q ↦ settled m0 (λ at1 v1. unwind m0 below (record (close_from (record at { top = x; below = below }) 0) { store = at1.store; outside = at1.outside }) v1) (give_to below (close_from (record at { top = x; below = below }) 0) x.landing (broke q v)) ])
    by zero ih = ih (close_from (record at { top = x; below = below }) 0) v h
    by (suc q) ih = settled_grows ⊥ es m0 _ (give_to below (close_from (record at { top = x; below = below }) 0) x.landing (broke q v)) (λ w. absurd w) (λ at1 v1 h1. ih (record (close_from (record at { top = x; below = below }) 0) { store = at1.store; outside = at1.outside }) v1 h1) (give_tells es below (close_from (record at { top = x; below = below }) 0) x.landing (broke q v) h)

pub after_grows : (W : Type 0) (es : List Event) (m0 : State) (e : Effect) → (W → IsPrefix es m0.outside.events) → Tells W es e → Grows es (after m0 e)
after_grows W es m0 e w t = settled_grows W es m0 _ e w (λ at v h. unwind_grows es m0 (at.top ∷ at.below) at v h) t
