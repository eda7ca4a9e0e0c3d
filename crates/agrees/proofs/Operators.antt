-- Operators: what the source performs and the machine answers, with the handlers that are asked; and an answer that goes to a register.
use Rattle.std.proofs.Common.{◌≡◌, ◌<◌, ℕ, suc, ◌+◌, Bool, true, false, ◌⊎◌, inl, inr, List, [], ◌∷◌, ◌++◌, length, Option, Some, None, refl, sym, ap, ◌∙◌, subst, arith, zero, not, map, length-append, ℤ}
use Rattle.std.specs.Prelude.{slice_set, if◌then◌else◌, codes, Result, Ok as Fine_number, Err}
use Rattle.lua_model.specs.Acts.{Act, value, call as asks, failure, fail_text, take}
use Rattle.lua_model.specs.Datum.{Datum, first_of, is_nil, kind_name, to_text, nil, boolean, number, text, table, closure, native, host, is_function, to_number}
use Rattle.lua_model.specs.Endings.{IsPrefix}
use Rattle.lua_model.specs.Operators.{join as join_two, join_on, ask_or, either_handler, culprit, protection_limit, index_within, handler, arith_on, arith as arith_act, of_numbers, no_arithmetic, event_of, negate, negate_on, size}
use Rattle.lua_model.specs.Store.{Outside, Store, raw_get}
use Rattle.lua_num.specs.Arith.{outcome}
use Rattle.lua_num.specs.Bytes.{Text}
use Rattle.lua_num.specs.declared.arith.ArithOp.{ArithOp}
use Rattle.lua_num.specs.declared.arith.NumFault.{NumFault}
use Rattle.proto.specs.Chunk.{own}
use Rattle.rules.specs.Calls.{answer, land}
use Rattle.rules.specs.Run.{step, after}
use Rattle.rules.specs.State.{State, Landing, Effect, set, into}
use Rattle.rules.specs.Step.{give}
use Rattle.scheme_stands.specs.Words.{Spot}
use Rattle.source_meaning.specs.Meaning.{perform, perform_one, one}
use Rattle.source_meaning.specs.State.{State as SourceState}
use Rattle.source_meaning.specs.Tasks.{call}
use Rattle.agrees.proofs.PictureChanges.{fine_waiter}
use Rattle.agrees.proofs.Lists.{length_map, get_within}
use Rattle.agrees.proofs.Picture.{Setup, Ghost, Site, raised, registers, pic, at, waits, Ok, slot_value}
use Rattle.agrees.proofs.Posts.{Keeps, ValuePost, fail_of}
use Rattle.agrees.proofs.Accounts.{Place, Now, Soon, Self, Goes, Arrive, prefix_self, goes_done, goes_fault, goes_ask, goes_weaken, goes_then, to_step, goes_soon, goes_more}
use Rattle.agrees.proofs.Sizes.{call_cost}
use Rattle.agrees.proofs.Tasks.{HasTable, IsQuiet, Simulates, scope}
use Rattle.agrees.proofs.EventsOfSteps.{ActTable}
use Rattle.agrees.proofs.CallLeaves.{fails_at}
use Rattle.agrees.proofs.Words.{sets}

-- a handler's first result is taken as it is
abbrev pub Takes : Act → Type 0
Takes (asks h args how) = how ≡ take
Takes _ = Unit {0}

-- a value goes on in the frame, within the next step
pub record AnswerPost (z : Setup) (x : Site) (pc : ℕ) (next : State → Datum → Effect) (v : Datum) (s : SourceState) (o : Outside) (p : Place) : Type 0 where
  pub m : State
  pub at_m : p ≡ Soon m
  pub before : IsPrefix m.outside.events o.events
  pub g : Ghost
  pub ok : Ok z s g x
  pub is : step m ≡ after m (next (at s o g x pc) v)

ask_takes : (h : Datum) (args : List Datum) (other : Act) → Takes other → Takes (ask_or h args take other)
ask_takes h args other t = go (is_nil h)
  where
    go : (b : Bool) → Takes (if b then other else asks h args take)
    go true = t
    go false = refl

pub index_takes : (n : ℕ) (s : Store) (v k : Datum) → Takes (index_within n s v k)
index_takes zero s v k = tt
index_takes (suc n) s (table t) k = go (is_nil (raw_get s t k)) (is_nil (handler s (table t) (codes "__index"))) (is_function (handler s (table t) (codes "__index"))) (index_takes n s (handler s (table t) (codes "__index")) k)
  where
    go : (a b c : Bool) → Takes (index_within n s (handler s (table t) (codes "__index")) k) → Takes (if not a then value (raw_get s t k) else (if b then value nil else (if c then asks (handler s (table t) (codes "__index")) (table t ∷ k ∷ []) take else index_within n s (handler s (table t) (codes "__index")) k)))
    go false b c ih = tt
    go true true c ih = tt
    go true false true ih = refl
    go true false false ih = ih
index_takes (suc n) s nil k = tt
index_takes (suc n) s (boolean v) k = tt
index_takes (suc n) s (number v) k = tt
index_takes (suc n) s (text v) k = tt
index_takes (suc n) s (closure v) k = tt
index_takes (suc n) s (native v) k = tt
index_takes (suc n) s (host v) k = tt

pub arith_takes : (s : Store) (op : ArithOp) (a b : Datum) → Takes (arith_act s op a b)
arith_takes s op a b = by (to_number a) (to_number b)
  where
    numbers : (r : Result ℤ NumFault) → Takes (of_numbers r)
    numbers (Fine_number n) = tt
    numbers (Err f) = tt

    by : (x y : Option ℤ) → Takes (arith_on s op a b x y)
    by (Some x) (Some y) = numbers (outcome op x y)
    by (Some x) None = ask_takes (either_handler s a b (event_of op)) (a ∷ b ∷ []) (no_arithmetic (culprit (Some x) a b)) tt
    by None y = ask_takes (either_handler s a b (event_of op)) (a ∷ b ∷ []) (no_arithmetic (culprit {A = ℤ} None a b)) tt

pub negate_takes : (s : Store) (v : Datum) → Takes (negate s v)
negate_takes s v = by (to_number v)
  where
    by : (n : Option ℤ) → Takes (negate_on s v n)
    by (Some n) = tt
    by None = ask_takes (handler s v (codes "__unm")) (v ∷ v ∷ []) (no_arithmetic v) tt

pub size_takes : (s : Store) (v : Datum) → Takes (size s v)
size_takes s (text t) = tt
size_takes s (table t) = tt
size_takes s v = tt

pub join_takes : (s : Store) (a b : Datum) → Takes (join_two s a b)
join_takes s a b = by (to_text a) (to_text b)
  where
    by : (p q : Option Text) → Takes (join_on s a b p q)
    by (Some p) (Some q) = tt
    by (Some p) None = ask_takes (either_handler s a b (codes "__concat")) (a ∷ b ∷ []) (fail_text (codes "attempt to concatenate a " ++ kind_name (culprit (Some p) a b) ++ codes " value")) tt
    by None q = ask_takes (either_handler s a b (codes "__concat")) (a ∷ b ∷ []) (fail_text (codes "attempt to concatenate a " ++ kind_name (culprit {A = Text} None a b) ++ codes " value")) tt

module _ (z : Setup) (self : Self) (ih : Simulates z self) where
  -- an operator's answer: its value, what its handler gives, or its failure
  pub perform_goes : (x : Site) (pc : ℕ) (ld : Landing) (next : State → Datum → Effect) → ((m : State) (vs : List Datum) → land ld m vs ≡ next m (first_of vs)) → (act : Act) → Takes act → (s : SourceState) (o : Outside) (g : Ghost) (m : State) → Ok z s g x → IsPrefix m.outside.events o.events → (m.outside ≡ o) ⊎ ActTable act → step m ≡ after m (answer ld (land ld) next (at s o g x pc) act) → Goes z.bound self (fail_of z x) 0 call_cost o (Soon m) (AnswerPost z x pc next) (perform (scope x) act s)
  perform_goes x pc ld next same (value v) t s o g m ok before quiet e =
      goes_done z.bound self (fail_of z x) 0 call_cost o (Soon m) (AnswerPost z x pc next) v s (record { m = m; at_m = refl; before = before; g = g; ok = ok; is = e })
  perform_goes x pc ld next same (failure v) t s o g m ok before quiet e =
      goes_fault z.bound self (fail_of z x) 0 call_cost o (Soon m) (AnswerPost z x pc next) v s (fails_at z s o g x pc None v m ok before e)
  perform_goes x pc ld next same (asks h args how) t s o g m ok before quiet e =
      subst (λ u. Goes z.bound self (fail_of z x) 0 call_cost o (Soon m) (AnswerPost z x pc next) (perform (scope x) (asks h args u) s)) (sym t)
      (goes_weaken z.bound self (fail_of z x) 0 (call_cost + 0) 0 call_cost o (Soon m) (AnswerPost z x pc next) _ (omega arith) (omega arith)
      (goes_ask z.bound self (fail_of z x) call_cost 0 0 o (Soon m) (call (suc (length x.below)) h args) s _ (AnswerPost z x pc next) _
      (ih.calls h args s o g x ld pc protection_limit m refl ok before (quiet_of quiet) e)
      (λ vs s1 o1 p1 b. goes_done z.bound self (fail_of z x) 0 0 o1 p1 (AnswerPost z x pc next) (first_of vs) s1
      (record { m = b.m; at_m = b.at_m; before = b.before; g = b.is.g; ok = fine_waiter z (length s1.cells) s1.closures b.is.g (waits x pc) (waits x 0) x.below refl refl b.is.fine; is = b.is.is ∙ ap (after b.m) (same (at s1 o1 b.is.g x pc) vs) }))))
    where
      quiet_of : (m.outside ≡ o) ⊎ HasTable args → IsQuiet m o h args
      quiet_of (inl q) = inl q
      quiet_of (inr q) = inr (inr q)

  -- an operator's value in a register
  pub landed_into : (x : Site) (k r pc : ℕ) (v : Datum) (s : SourceState) (o : Outside) (p : Place) → r < (own x.a.chunk).registers → (high0 : List Datum) → Keeps k x.high high0 → AnswerPost z (raised x high0) pc (λ m w. set m r w) v s o p → (t : ℕ) → Arrive z.bound 0 0 t p t (ValuePost z x k r pc (v ∷ []) s o)
  landed_into x k r pc v s o p room high0 kp h t =
      let size : length (registers s.cells x.a high0) ≡ (own x.a.chunk).registers = length-append (map (slot_value s.cells) x.a.slots) high0 ∙ ap (λ n. n + length high0) (length_map (slot_value s.cells) x.a.slots) ∙ h.ok.acts.1 in
      let old = get_within (registers s.cells x.a high0) r (subst (λ n. r < n) (sym size) room) in
      subst (λ q. Arrive z.bound 0 0 t q t (ValuePost z x k r pc (v ∷ []) s o)) (sym h.at_m)
      (to_step z.bound 0 t h.m (pic s o h.g (raised x high0) pc (slice_set (registers s.cells x.a high0) r v) None) (ValuePost z x k r pc (v ∷ []) s o)
      (h.is ∙ ap (after h.m) (sets (at s o h.g (raised x high0) pc) r v old.0 old.1))
      (record { g = h.g; high = high0; keeps = kp; is = refl; ok = h.ok }))

  -- an operator's answer to a register, by one word
  pub answer_goes : (x : Site) (k r : ℕ) (p q : Spot) (act : Act) (s : SourceState) (o : Outside) (g : Ghost) (high1 : List Datum) → Takes act → Ok z s g (raised x high1) → Keeps k x.high high1 → r < (own x.a.chunk).registers → step (at s o g (raised x high1) p.pc) ≡ after (at s o g (raised x high1) p.pc) (give (at s o g (raised x high1) (suc p.pc)) r act) → q.pc ≡ suc p.pc → Goes z.bound self (fail_of z x) 1 (call_cost + 0) o (Now (at s o g (raised x high1) p.pc)) (ValuePost z x k r q.pc) (perform_one (scope x) act s)
  answer_goes x k r p q act s o g high1 t ok kp room e next =
      let x1 : Site = raised x high1 in
      let m0 : State = at s o g x1 p.pc in
      goes_more z.bound self (fail_of z x) 1 0 (call_cost + 0) o (Now m0) (λ vs s3 o3 p3. AnswerPost z x1 q.pc (λ m v. set m r v) (first_of vs) s3 o3 p3 × (vs ≡ first_of vs ∷ [])) (ValuePost z x k r q.pc) _
      (goes_soon z.bound self (fail_of z x) 0 (call_cost + 0) o m0 _ _
      (goes_then z.bound self (fail_of z x) 0 call_cost 0 0 o (Soon m0) (AnswerPost z x1 q.pc (λ m v. set m r v)) _ (perform (scope x) act s) one
      (perform_goes x1 q.pc (into r) (λ m v. set m r v) (λ m vs. refl) act t s o g m0 ok (prefix_self o.events) (inl refl)
      (e ∙ ap (λ n. after m0 (give (at s o g x1 n) r act)) (sym next)))
      (λ v s3 o3 p3 h. goes_done z.bound self (fail_of z x) 0 0 o3 p3 _ (v ∷ []) s3 (h, refl))))
      (λ vs s3 o3 p3 h tk. subst (λ us. Arrive z.bound 0 0 tk p3 tk (ValuePost z x k r q.pc us s3 o3)) (sym h.1) (landed_into x k r q.pc (first_of vs) s3 o3 p3 room high1 kp h.0 tk))
