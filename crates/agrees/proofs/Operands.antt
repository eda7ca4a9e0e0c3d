-- Operands of words: a local as it is, a value in the next register, or a constant. A local that stands left of another operand is read
-- only when the word is made.
use Rattle.scheme.specs.Expressions.{literal}
use Rattle.std.proofs.lemmas.Bool.Decides.{nat_tests}
use Rattle.std.proofs.Common.{◌≡◌, ◌≤◌, ◌<◌, ℕ, suc, ◌+◌, List, [], ◌∷◌, length, Option, Some, None, refl, sym, ap, ◌∙◌, subst, arith, ◌-◌, true, inl, inr, option_map, false, nat_lt}
use Rattle.std.specs.Option.{option_or}
use Rattle.std.specs.Prelude.{slice_get, take, drop, if◌then◌else◌, is_some, slice_set}
use Rattle.lua_model.specs.Datum.{Datum, first_of, text}
use Rattle.lua_model.specs.Store.{Outside}
use Rattle.lua_num.specs.Bytes.{Text}
use Rattle.lua_tree.specs.Syntax.{Expression, name_expression, parenthesized}
use Rattle.opcode.specs.declared.op.Op.{Op}
use Rattle.proto.specs.Chunk.{own}
use Rattle.proto.specs.declared.parts.Constant.{Constant}
use Rattle.rules.specs.Calls.{leave}
use Rattle.rules.specs.Run.{after, Going, step}
use Rattle.rules.specs.State.{State, need, span, register, value_of, operand, constant}
use Rattle.scheme.specs.declared.making.Piece.{Piece}
use Rattle.scheme_stands.specs.Words.{Spot, WordAt, ConstantWord, Stretch}
use Rattle.scheme_stands.specs.Expressions.{OperandBy, RkBy, TwoAt, RkTextAt, OperandAt, RkAt, form_of, local_at, several}
use Rattle.scheme_stands.specs.Relation.{related}
use Rattle.source_meaning.specs.Meaning.{own_local, read, with_late, with_value, name_value, program, one}
use Rattle.source_meaning.specs.Programs.{Prog, ask, spend, run, done}
use Rattle.source_meaning.specs.State.{State as SourceState, Taken, taken, late, cell, find}
use Rattle.source_meaning.specs.Tasks.{expression, local_taken, item, text_item}
use Rattle.agrees.proofs.ListOpen.{item_next}
use Rattle.agrees.proofs.PictureChanges.{top_register}
use Rattle.agrees.proofs.Lists.{within, drop_get, get_set_other, length_set, get_within, get_set}
use Rattle.agrees.proofs.ValueLiterals.{known_value, literal_no_local}
use Rattle.agrees.proofs.NextRegister.{next_reg}
use Rattle.agrees.proofs.Picture.{code_of, Setup, of_cell, Act, Ghost, Site, raised, registers, at, Ok}
use Rattle.agrees.proofs.Posts.{Keeps, keeps_self, Backs, fail_of, NextPost, InRegister, Flag, OperandIs, Pushed, InOperand, keeps_on}
use Rattle.agrees.proofs.Accounts.{Now, Soon, Post, Self, Goes, prefix_self, goes_done, goes_ask, goes_weaken, goes_is, by_tick, goes_last, goes_staying, goes_word}
use Rattle.agrees.proofs.Registers.{high_get, has_rows, ok_high, loads, size_of}
use Rattle.agrees.proofs.Sizes.{size_e}
use Rattle.agrees.proofs.Tasks.{BareBy, Simulates, scope, TextBy}
use Rattle.agrees.proofs.CallLeaves.{backs_at}
use Rattle.agrees.proofs.Words.{word_abc}
use Rattle.scheme_stands.proofs.Forms.{form_is}
use Rattle.agrees.proofs.Names.{bare_passed, Resolves, operand_resolves}
use Rattle.source_meaning.specs.State.{Place as Scope}

pub op_keep : (a : Act) (h1 h2 : List Datum) (k1 k2 : ℕ) (t : Taken) (i : ℕ) → k1 ≤ k2 → Keeps k1 h1 h2 → InRegister a h1 k1 t i → InRegister a h2 k2 t i
op_keep a h1 h2 k1 k2 (late c) i l kp h = h
op_keep a h1 h2 k1 k2 (taken v) i l kp h = (h.0, let b = h.1 in omega arith, h.2, kp.old h.0 h.1 ∙ h.3)

pub op_value : (s : SourceState) (a : Act) (high : List Datum) (k : ℕ) (t : Taken) (i : ℕ) → InRegister a high k t i → slice_get (registers s.cells a high) i ≡ Some (read t s)
op_value s a high k (late c) i h = top_register s.cells a high i (of_cell c) h
op_value s a high k (taken v) i h = high_get s.cells a high i h.0 h.2 ∙ h.3

pub rk_keep : (a : Act) (h1 h2 : List Datum) (k1 k2 : ℕ) (t : Taken) (i : ℕ) → k1 ≤ k2 → Keeps k1 h1 h2 → InOperand a h1 k1 t i → InOperand a h2 k2 t i
rk_keep a h1 h2 k1 k2 t i l kp (inl h) = inl (op_keep a h1 h2 k1 k2 t i l kp h)
rk_keep a h1 h2 k1 k2 t i l kp (inr h) = inr h

-- a register as an operand
pub register_operand : (m : State) (i : ℕ) → i < 256 → operand m i ≡ register m i
register_operand m i l = ap (λ b. if b then register m i else constant m (i - 256)) (let f : nat_lt i 256 ≡ true = grind (arith, nat_tests) in f)

pub constant_operand : (m : State) (n : ℕ) (k : Constant) → slice_get (own m.top.function).constants n ≡ Some k → operand m (n + 256) ≡ Some (value_of k)
constant_operand m n k e =
    ap (λ b. if b then register m (n + 256) else constant m (n + 256 - 256)) (let f : nat_lt (n + 256) 256 ≡ false = grind (arith, nat_tests) in f)
    ∙ ap (constant m) (let q : n + 256 - 256 ≡ n = omega arith in q)
    ∙ ap (option_map value_of) e

module _ (z : Setup) where
  -- a register that is there
  pub register_is : (s : SourceState) (g : Ghost) (x : Site) (high : List Datum) (i : ℕ) (v : Datum) → Ok z s g (raised x high) → slice_get (registers s.cells x.a high) i ≡ Some v → OperandIs x high s i v
  register_is s g x high i v ok there m ef er =
      let size = size_of z x s g high ok in
      let few = ok.acts.0.limits.registers in
      let l = within (registers s.cells x.a high) i v there in
      register_operand m i (omega (arith, l, size, few)) ∙ ap (λ rs. slice_get rs i) er ∙ there

  pub constant_is : (s : SourceState) (x : Site) (high : List Datum) (i n : ℕ) (k : Constant) → i ≡ n + 256 → slice_get (own x.a.chunk).constants n ≡ Some k → OperandIs x high s i (value_of k)
  constant_is s x high i n k e has m ef er = ap (operand m) e ∙ constant_operand m n k (ap (λ c. slice_get (own c).constants n) ef ∙ has)

  pub rk_is : (s : SourceState) (g : Ghost) (x : Site) (high : List Datum) (k : ℕ) (t : Taken) (i : ℕ) → Ok z s g (raised x high) → InOperand x.a high k t i → OperandIs x high s i (read t s)
  rk_is s g x high k t i ok (inl h) m ef er = register_is s g x high i (read t s) ok (op_value s x.a high k t i h) m ef er
  rk_is s g x high k t i ok (inr h) m ef er = constant_is s x high i h.0 h.1 h.2 h.3 m ef er ∙ ap (λ y. Some (read y s)) (sym h.4)

module _ (z : Setup) (self : Self) (ih : Simulates z self) where
  -- a bare local that is asked for
  pub next_bare : (e : Expression) → BareBy z e (size_e e) (λ c s w. spend w.ticks w (run self (program (expression c e) s)))
  next_bare (name_expression line name) c s o x p own told =
      let e : name_value (option_or (find name x.a.own) (find name x.a.outer)) name s ≡ cell s c = ap (λ f. name_value (option_or f (find name x.a.outer)) name s) own in
      by_tick z.bound self (fail_of z x) 0 0 0 o p _ _ told (omega arith) (goes_done z.bound self (fail_of z x) 0 0 o p _ _ s (ap (λ v. v ∷ []) e, refl, refl, refl))
  next_bare (parenthesized line e) c s o x p own told =
      by_tick z.bound self (fail_of z x) 0 0 (size_e e) o p _ _ told (omega arith)
      (goes_weaken z.bound self (fail_of z x) 0 (size_e e + 0) 0 (size_e e) o p _ _ (omega arith) (omega arith)
      (goes_ask z.bound self (fail_of z x) (size_e e) 0 0 o p (expression (scope x) e) s _ _ _ (ih.bare e c s o x p own told)
      (λ vs s1 o1 p1 h. goes_done z.bound self (fail_of z x) 0 0 o1 p1 _ (first_of vs ∷ []) s1 (ap (λ us. first_of us ∷ []) h.0, h.1, h.2, h.3))))
  next_bare e c s o x p own told = cc

  pub next_bare_item : (e : Expression) → BareBy z e (suc (size_e e)) (λ c s w. spend w.ticks w (run self (program (item c e) s)))
  next_bare_item e c s o x p own told =
      by_tick z.bound self (fail_of z x) 0 0 (size_e e) o p _ (ask (expression (scope x) e) s done) told (omega arith)
      (goes_last z.bound self (fail_of z x) 0 (size_e e) o p (expression (scope x) e) s _ (ih.bare e c s o x p own told))

  -- ## a register

  -- an operand at a late place: a local is read only when the word is made
  abbrev AfterLate : {B : Type 0} → Expression → Site → (k free1 i : ℕ) → (p q : Spot) → (j S : ℕ) → Post B → (Taken → SourceState → Prog B) → (Act → List Datum → ℕ → Taken → ℕ → Type 0) → Option ℕ → Type 0
  AfterLate e x k free1 i p q j S P go Is l = (t : Taken) (s1 : SourceState) (o1 : Outside) (g1 : Ghost) (high1 : List Datum) → Pushed z s1 g1 x high1 k free1 (λ k1. Is x.a high1 k1 t i) → Flag t (is_some l) → Goes z.bound self (fail_of z x) j S o1 (Now (at s1 o1 g1 (raised x high1) q.pc)) P (go t s1)

  -- what is no local is taken by its value
  no_local : {B : Type 0} (e : Expression) (here : Scope) (s : SourceState) (go : Taken → SourceState → Prog B) → own_local here e ≡ None → with_late here e s go ≡ with_value here e s (λ v s1. go (taken v) s1)
  no_local e here s go none = ap (λ m. elim m [ None ↦ with_value here e s (λ v s1. go (taken v) s1) | Some c ↦ ask (local_taken c) s (λ u s1. go (late c) s1) ]) none

  pub late_goes : {B : Type 0} (e : Expression) (s : SourceState) (o : Outside) (g : Ghost) (x : Site) (k free i free1 : ℕ) (p q : Spot) (j S : ℕ) (P : Post B) (go : Taken → SourceState → Prog B) → Ok z s g x → free ≡ length x.a.slots + k → size_e e ≤ z.bound → OperandAt (code_of x.a) x.a.active (related (code_of x.a) e) free i free1 p q → AfterLate e x k free1 i p q j S P go InRegister (local_at (related (code_of x.a) e).form x.a.active p) → Goes z.bound self (fail_of z x) j (size_e e + S) o (Now (at s o g x p.pc)) P (with_late (scope x) e s go)
  late_goes e s o g x k free i free1 p q j S P go ok fr small w = by (local_at (related (code_of x.a) e).form x.a.active p) (operand_resolves z s g x ok e free i free1 p q w) w
    where
      by : (l : Option ℕ) → Resolves x e l → OperandBy l (code_of x.a) x.a.active (related (code_of x.a) e) free i free1 p q → AfterLate e x k free1 i p q j S P go InRegister l → Goes z.bound self (fail_of z x) j (size_e e + S) o (Now (at s o g x p.pc)) P (with_late (scope x) e s go)
      by (Some r) res t after =
          goes_is z.bound self (fail_of z x) j (size_e e + S) o (Now (at s o g x p.pc)) P _ (ask (local_taken res.0) s (λ u s1. go (late res.0) s1))
          (ap (λ m. elim m [ None ↦ with_value (scope x) e s (λ v s1. go (taken v) s1) | Some c ↦ ask (local_taken c) s (λ u s1. go (late c) s1) ]) res.1)
          (goes_weaken z.bound self (fail_of z x) j (1 + S) j (size_e e + S) o _ P _ (omega arith) (omega arith)
          (goes_staying z.bound self (fail_of z x) j 1 S o (Now (at s o g x p.pc)) (local_taken res.0) s tt P (λ u s1. go (late res.0) s1) (ih.takes res.0 s o x.a.landing x.a.protections x.below (Now (at s o g x p.pc)) refl)
          (subst (λ pc. Goes z.bound self (fail_of z x) j S o (Now (at s o g x pc)) P (go (late res.0) s)) (bare_passed (code_of x.a) e x.a.active p q t.passed).pc
          (after (late res.0) s o g x.high (record { k1 = k; ok = ok; at_free = t.at_free ∙ fr; more = omega arith; keeps = keeps_self k x.high; holds = ap (slice_get x.a.slots) t.at_x ∙ res.2 }) refl))))
      by None res t after =
          goes_is z.bound self (fail_of z x) j (size_e e + S) o (Now (at s o g x p.pc)) P _ (with_value (scope x) e s (λ v s1. go (taken v) s1)) (no_local e (scope x) s go res)
          (next_reg z self ih e s o g x k free p q j S P (λ v s1. go (taken v) s1) ok fr small t.room t.value_at
          (λ v s1 o1 g1 high kp ok1 there. after (taken v) s1 o1 g1 high (record { k1 = suc k; ok = ok1; at_free = (let b = t.at_free in omega (arith, b, fr)); more = omega arith; keeps = kp; holds = (k, omega arith, t.at_x ∙ fr, there) }) tt))

  -- an operand as a value: a bare local is in its register already
  pub value_goes : {B : Type 0} (e : Expression) (s : SourceState) (o : Outside) (g : Ghost) (x : Site) (k free i free1 : ℕ) (p q : Spot) (j S : ℕ) (P : Post B) (go : Datum → SourceState → Prog B) → Ok z s g x → free ≡ length x.a.slots + k → size_e e ≤ z.bound → OperandAt (code_of x.a) x.a.active (related (code_of x.a) e) free i free1 p q → ((v : Datum) (s1 : SourceState) (o1 : Outside) (g1 : Ghost) (high1 : List Datum) → Keeps k x.high high1 → Ok z s1 g1 (raised x high1) → slice_get (registers s1.cells x.a high1) i ≡ Some v → Goes z.bound self (fail_of z x) j S o1 (Now (at s1 o1 g1 (raised x high1) q.pc)) P (go v s1)) → Goes z.bound self (fail_of z x) j (size_e e + S) o (Now (at s o g x p.pc)) P (with_value (scope x) e s go)
  value_goes e s o g x k free i free1 p q j S P go ok fr small w after = by (local_at (related (code_of x.a) e).form x.a.active p) (operand_resolves z s g x ok e free i free1 p q w) w
    where
      by : (l : Option ℕ) → Resolves x e l → OperandBy l (code_of x.a) x.a.active (related (code_of x.a) e) free i free1 p q → Goes z.bound self (fail_of z x) j (size_e e + S) o (Now (at s o g x p.pc)) P (with_value (scope x) e s go)
      by (Some r) res t =
          goes_staying z.bound self (fail_of z x) j (size_e e) S o (Now (at s o g x p.pc)) (expression (scope x) e) s (cell s res.0 ∷ []) P (λ vs s1. go (first_of vs) s1) (ih.bare e res.0 s o x (Now (at s o g x p.pc)) res.1 refl)
          (subst (λ pc. Goes z.bound self (fail_of z x) j S o (Now (at s o g x pc)) P (go (cell s res.0) s)) (bare_passed (code_of x.a) e x.a.active p q t.passed).pc
          (after (cell s res.0) s o g x.high (keeps_self k x.high) ok (ap (slice_get (registers s.cells x.a x.high)) t.at_x ∙ top_register s.cells x.a x.high r (of_cell res.0) res.2)))
      by None res t =
          next_reg z self ih e s o g x k free p q j S P go ok fr small t.room t.value_at
          (λ v s1 o1 g1 high kp ok1 there. after v s1 o1 g1 high kp ok1 (high_get s1.cells x.a high i k (t.at_x ∙ fr) ∙ there))

  -- an item of a list as an operand
  abbrev AfterItem : {B : Type 0} → Expression → Site → (k : ℕ) → Spot → (j S : ℕ) → Post B → (List Datum → SourceState → Prog B) → (SourceState → List Datum → Datum → Type 0) → Type 0
  AfterItem e x k q j S P go Is = (vs : List Datum) (s1 : SourceState) (o1 : Outside) (g1 : Ghost) (high1 : List Datum) → Keeps k x.high high1 → Ok z s1 g1 (raised x high1) → (several (form_of e) ≡ false → vs ≡ first_of vs ∷ []) → Is s1 high1 (first_of vs) → Goes z.bound self (fail_of z x) j S o1 (Now (at s1 o1 g1 (raised x high1) q.pc)) P (go vs s1)

  pub item_goes : {B : Type 0} (e : Expression) (s : SourceState) (o : Outside) (g : Ghost) (x : Site) (k free i free1 : ℕ) (p q : Spot) (j S : ℕ) (P : Post B) (go : List Datum → SourceState → Prog B) → Ok z s g x → free ≡ length x.a.slots + k → size_e e ≤ z.bound → OperandAt (code_of x.a) x.a.active (related (code_of x.a) e) free i free1 p q → AfterItem e x k q j S P go (λ s1 high1 v. slice_get (registers s1.cells x.a high1) i ≡ Some v) → Goes z.bound self (fail_of z x) j (suc (size_e e) + S) o (Now (at s o g x p.pc)) P (ask (item (scope x) e) s go)
  item_goes e s o g x k free i free1 p q j S P go ok fr small w after = by (local_at (related (code_of x.a) e).form x.a.active p) (operand_resolves z s g x ok e free i free1 p q w) w
    where
      by : (l : Option ℕ) → Resolves x e l → OperandBy l (code_of x.a) x.a.active (related (code_of x.a) e) free i free1 p q → Goes z.bound self (fail_of z x) j (suc (size_e e) + S) o (Now (at s o g x p.pc)) P (ask (item (scope x) e) s go)
      by (Some r) res t =
          goes_staying z.bound self (fail_of z x) j (suc (size_e e)) S o (Now (at s o g x p.pc)) (item (scope x) e) s (cell s res.0 ∷ []) P go (ih.bare_items e res.0 s o x (Now (at s o g x p.pc)) res.1 refl)
          (subst (λ pc. Goes z.bound self (fail_of z x) j S o (Now (at s o g x pc)) P (go (cell s res.0 ∷ []) s)) (bare_passed (code_of x.a) e x.a.active p q t.passed).pc
          (after (cell s res.0 ∷ []) s o g x.high (keeps_self k x.high) ok (λ one. refl) (ap (slice_get (registers s.cells x.a x.high)) t.at_x ∙ top_register s.cells x.a x.high r (of_cell res.0) res.2)))
      by None res t =
          item_next z self ih e s o g x k free p q j S P go ok fr small t.room t.value_at
          (λ vs s1 o1 g1 high kp ok1 there single.
          goes_weaken z.bound self (fail_of z x) j S (6 + j) S o1 _ P _ (omega arith) (omega arith)
          (after vs s1 o1 g1 high kp ok1 single (high_get s1.cells x.a high i k (t.at_x ∙ fr) ∙ there)))

  -- ## a register or a constant (RK)

  pub late_rk : {B : Type 0} (e : Expression) (s : SourceState) (o : Outside) (g : Ghost) (x : Site) (k free i free1 : ℕ) (p q : Spot) (j S : ℕ) (P : Post B) (go : Taken → SourceState → Prog B) → Ok z s g x → free ≡ length x.a.slots + k → size_e e ≤ z.bound → RkAt (code_of x.a) x.a.active (related (code_of x.a) e) free i free1 p q → AfterLate e x k free1 i p q j S P go InOperand (local_at (related (code_of x.a) e).form x.a.active p) → Goes z.bound self (fail_of z x) j (size_e e + S) o (Now (at s o g x p.pc)) P (with_late (scope x) e s go)
  late_rk e s o g x k free i free1 p q j S P go ok fr small w after = by (related (code_of x.a) e).form.literal (ap (λ f. f.literal) (sym (form_is (code_of x.a) e))) w
    where
      in_register : OperandAt (code_of x.a) x.a.active (related (code_of x.a) e) free i free1 p q → Goes z.bound self (fail_of z x) j (size_e e + S) o (Now (at s o g x p.pc)) P (with_late (scope x) e s go)
      in_register h =
          late_goes e s o g x k free i free1 p q j S P go ok fr small h
          (λ t s1 o1 g1 high1 d f. after t s1 o1 g1 high1 (record { k1 = d.k1; ok = d.ok; at_free = d.at_free; more = d.more; keeps = d.keeps; holds = inl d.holds }) f)

      by : (l : Option Constant) → literal e ≡ l → RkBy l (code_of x.a) x.a.active (related (code_of x.a) e) free i free1 p q → Goes z.bound self (fail_of z x) j (size_e e + S) o (Now (at s o g x p.pc)) P (with_late (scope x) e s go)
      by None el h = in_register h
      by (Some c) el (inr (large, h)) = in_register h
      by (Some c) el (inl h) =
          goes_is z.bound self (fail_of z x) j (size_e e + S) o (Now (at s o g x p.pc)) P _ (with_value (scope x) e s (λ v s1. go (taken v) s1)) (no_local e (scope x) s go (literal_no_local (scope x) e c el))
          (known_value z self ih e c (scope x) s o x.a.landing x.a.protections x.below (Now (at s o g x p.pc)) j S P (λ v s1. go (taken v) s1) el refl
          (subst (λ pc. Goes z.bound self (fail_of z x) j S o (Now (at s o g x pc)) P (go (taken (value_of c)) s)) h.same.pc
          (after (taken (value_of c)) s o g x.high (record { k1 = k; ok = ok; at_free = h.at_free ∙ fr; more = omega arith; keeps = keeps_self k x.high; holds = inr (h.number, c, h.at_x, h.is, refl) }) tt)))

  pub value_rk : {B : Type 0} (e : Expression) (s : SourceState) (o : Outside) (g : Ghost) (x : Site) (k free i free1 : ℕ) (p q : Spot) (j S : ℕ) (P : Post B) (go : Datum → SourceState → Prog B) → Ok z s g x → free ≡ length x.a.slots + k → size_e e ≤ z.bound → RkAt (code_of x.a) x.a.active (related (code_of x.a) e) free i free1 p q → ((v : Datum) (s1 : SourceState) (o1 : Outside) (g1 : Ghost) (high1 : List Datum) → Keeps k x.high high1 → Ok z s1 g1 (raised x high1) → OperandIs x high1 s1 i v → Goes z.bound self (fail_of z x) j S o1 (Now (at s1 o1 g1 (raised x high1) q.pc)) P (go v s1)) → Goes z.bound self (fail_of z x) j (size_e e + S) o (Now (at s o g x p.pc)) P (with_value (scope x) e s go)
  value_rk e s o g x k free i free1 p q j S P go ok fr small w after = by (related (code_of x.a) e).form.literal (ap (λ f. f.literal) (sym (form_is (code_of x.a) e))) w
    where
      in_register : OperandAt (code_of x.a) x.a.active (related (code_of x.a) e) free i free1 p q → Goes z.bound self (fail_of z x) j (size_e e + S) o (Now (at s o g x p.pc)) P (with_value (scope x) e s go)
      in_register h =
          value_goes e s o g x k free i free1 p q j S P go ok fr small h
          (λ v s1 o1 g1 high1 kp ok1 there. after v s1 o1 g1 high1 kp ok1 (register_is z s1 g1 x high1 i v ok1 there))

      by : (l : Option Constant) → literal e ≡ l → RkBy l (code_of x.a) x.a.active (related (code_of x.a) e) free i free1 p q → Goes z.bound self (fail_of z x) j (size_e e + S) o (Now (at s o g x p.pc)) P (with_value (scope x) e s go)
      by None el h = in_register h
      by (Some c) el (inr (large, h)) = in_register h
      by (Some c) el (inl h) =
          known_value z self ih e c (scope x) s o x.a.landing x.a.protections x.below (Now (at s o g x p.pc)) j S P go el refl
          (subst (λ pc. Goes z.bound self (fail_of z x) j S o (Now (at s o g x pc)) P (go (value_of c) s)) h.same.pc
          (after (value_of c) s o g x.high (keeps_self k x.high) ok (constant_is z s x x.high i h.number c h.at_x h.is)))

  pub item_rk : {B : Type 0} (e : Expression) (s : SourceState) (o : Outside) (g : Ghost) (x : Site) (k free i free1 : ℕ) (p q : Spot) (j S : ℕ) (P : Post B) (go : List Datum → SourceState → Prog B) → Ok z s g x → free ≡ length x.a.slots + k → size_e e ≤ z.bound → RkAt (code_of x.a) x.a.active (related (code_of x.a) e) free i free1 p q → AfterItem e x k q j S P go (λ s1 high1 v. OperandIs x high1 s1 i v) → Goes z.bound self (fail_of z x) j (suc (size_e e) + S) o (Now (at s o g x p.pc)) P (ask (item (scope x) e) s go)
  item_rk e s o g x k free i free1 p q j S P go ok fr small w after = by (related (code_of x.a) e).form.literal (ap (λ f. f.literal) (sym (form_is (code_of x.a) e))) w
    where
      in_register : OperandAt (code_of x.a) x.a.active (related (code_of x.a) e) free i free1 p q → Goes z.bound self (fail_of z x) j (suc (size_e e) + S) o (Now (at s o g x p.pc)) P (ask (item (scope x) e) s go)
      in_register h =
          item_goes e s o g x k free i free1 p q j S P go ok fr small h
          (λ vs s1 o1 g1 high1 kp ok1 single there. after vs s1 o1 g1 high1 kp ok1 single (register_is z s1 g1 x high1 i (first_of vs) ok1 there))

      by : (l : Option Constant) → literal e ≡ l → RkBy l (code_of x.a) x.a.active (related (code_of x.a) e) free i free1 p q → Goes z.bound self (fail_of z x) j (suc (size_e e) + S) o (Now (at s o g x p.pc)) P (ask (item (scope x) e) s go)
      by None el h = in_register h
      by (Some c) el (inr (large, h)) = in_register h
      by (Some c) el (inl h) =
          goes_staying z.bound self (fail_of z x) j (suc (size_e e)) S o (Now (at s o g x p.pc)) (item (scope x) e) s (value_of c ∷ []) P go (ih.literal_items e c (scope x) s o x.a.landing x.a.protections x.below (Now (at s o g x p.pc)) el refl)
          (subst (λ pc. Goes z.bound self (fail_of z x) j S o (Now (at s o g x pc)) P (go (value_of c ∷ []) s)) h.same.pc
          (after (value_of c ∷ []) s o g x.high (keeps_self k x.high) ok (λ one. refl) (constant_is z s x x.high i h.number c h.at_x h.is)))

  -- two operands: the left one is read when the right one is done
  pub two_goes : {B : Type 0} (left right : Expression) (s : SourceState) (o : Outside) (g : Ghost) (x : Site) (k free : ℕ) (p q : Spot) (words : (a b : ℕ) → Stretch) (j S : ℕ) (P : Post B) (go : Datum → Datum → SourceState → Prog B) → Ok z s g x → free ≡ length x.a.slots + k → size_e left ≤ z.bound → size_e right ≤ z.bound → (w : TwoAt (RkAt (code_of x.a) x.a.active (related (code_of x.a) left)) (RkAt (code_of x.a) x.a.active (related (code_of x.a) right)) free words p q) → ((u v : Datum) (s1 : SourceState) (o1 : Outside) (g1 : Ghost) (high1 : List Datum) → Keeps k x.high high1 → Ok z s1 g1 (raised x high1) → OperandIs x high1 s1 w.x u → OperandIs x high1 s1 w.y v → Goes z.bound self (fail_of z x) j S o1 (Now (at s1 o1 g1 (raised x high1) w.last.pc)) P (go u v s1)) → Goes z.bound self (fail_of z x) j (size_e left + (size_e right + S)) o (Now (at s o g x p.pc)) P (with_late (scope x) left s (λ a s1. with_value (scope x) right s1 (λ b s2. go (read a s2) b s2)))
  two_goes left right s o g x k free p q words j S P go ok fr small_l small_r w after =
      late_rk left s o g x k free w.x w.free1 p w.mid j (size_e right + S) P (λ a s1. with_value (scope x) right s1 (λ b s2. go (read a s2) b s2)) ok fr small_l w.left_at
      (λ a s1 o1 g1 h1 d f.
      value_rk right s1 o1 g1 (raised x h1) d.k1 w.free1 w.y w.free2 w.mid w.last j S P (λ b s2. go (read a s2) b s2) d.ok d.at_free small_r w.right_at
      (λ b s2 o2 g2 h2 kp ok2 there.
      after (read a s2) b s2 o2 g2 h2 (keeps_on k d.k1 x.high h1 h2 d.more d.keeps kp) ok2 (rk_is z s2 g2 x h2 d.k1 a w.x ok2 (rk_keep x.a h1 h2 d.k1 d.k1 a w.x (omega arith) kp d.holds)) there))

  -- ## a string

  -- a constant is loaded to the next register
  pub load_next : (x : Site) (s : SourceState) (o : Outside) (g : Ghost) (k free : ℕ) (c : Constant) (p q : Spot) → Ok z s g x → free ≡ length x.a.slots + k → free < (own x.a.chunk).registers → ConstantWord (code_of x.a) Op.LoadK free c p q → (step (at s o g x p.pc) ≡ Going (at s o g (raised x (slice_set x.high k (value_of c))) q.pc)) × Keeps k x.high (slice_set x.high k (value_of c)) × (slice_get (slice_set x.high k (value_of c)) k ≡ Some (value_of c)) × Ok z s g (raised x (slice_set x.high k (value_of c)))
  load_next x s o g k free c p q ok fr room w =
      let l : k < length x.high = let r = ok.acts.1 in omega (arith, r, fr, room) in
      let old = get_within x.high k l in
      let v = value_of c in (
        loads s o g x free k c old.0 p q fr old.1 w,
        record { same = length_set x.high k v; old = λ i b. get_set_other x.high k i v (λ y. omega arith) },
        get_set x.high k v l,
        ok_high z s g x x.high (slice_set x.high k v) (sym (length_set x.high k v)) ok,
      )

  pub next_text : (t : Text) → TextBy z t (λ s w. spend w.ticks w (run self (program (text_item t) s)))
  next_text t s o g x k free p q ok fr room w =
      let l = load_next x s o g k free (Constant.Text t) p q ok fr room w in
      by_tick z.bound self (fail_of z x) 0 1 0 o _ (λ vs s1 o1 p1. NextPost z x k q.pc (first_of vs) s1 o1 p1 × (vs ≡ first_of vs ∷ [])) (one (text t) s) refl (omega arith)
      (goes_word z.bound self (fail_of z x) 0 0 o _ (at s o g (raised x (slice_set x.high k (text t))) q.pc) _ (one (text t) s) l.0
      (goes_done z.bound self (fail_of z x) 0 0 o _ _ (text t ∷ []) s (record { g = g; high = slice_set x.high k (text t); keeps = l.1; has = l.2; is = refl; ok = l.3 }, refl)))

  -- a constant, or loaded by a word
  pub text_rk : {B : Type 0} (name : Text) (s : SourceState) (o : Outside) (g : Ghost) (x : Site) (k free i free1 : ℕ) (p q : Spot) (j S : ℕ) (P : Post B) (prog : Prog B) → Ok z s g x → free ≡ length x.a.slots + k → RkTextAt (code_of x.a) name free i free1 p q → ((high1 : List Datum) → Pushed z s g x high1 k free1 (λ k1. InOperand x.a high1 k1 (taken (text name)) i) → Goes z.bound self (fail_of z x) j S o (Now (at s o g (raised x high1) q.pc)) P prog) → Goes z.bound self (fail_of z x) (suc j) S o (Now (at s o g x p.pc)) P prog
  text_rk name s o g x k free i free1 p q j S P prog ok fr (inl w) after =
      goes_weaken z.bound self (fail_of z x) j S (suc j) S o _ P prog (omega arith) (omega arith)
      (subst (λ pc. Goes z.bound self (fail_of z x) j S o (Now (at s o g x pc)) P prog) w.same.pc
      (after x.high (record { k1 = k; ok = ok; at_free = w.at_free ∙ fr; more = omega arith; keeps = keeps_self k x.high; holds = inr (w.number, Constant.Text name, w.at_x, w.is, refl) })))
  text_rk name s o g x k free i free1 p q j S P prog ok fr (inr (large, w)) after =
      let l = load_next x s o g k free (Constant.Text name) p q ok fr w.room w.value_at in
      goes_word z.bound self (fail_of z x) j S o _ (at s o g (raised x (slice_set x.high k (text name))) q.pc) P prog l.0
      (after (slice_set x.high k (text name)) (record { k1 = suc k; ok = l.3; at_free = (let b = w.at_free in omega (arith, b, fr)); more = omega arith; keeps = l.1; holds = inl (k, omega arith, w.at_x ∙ fr, l.2) }))

  -- RETURN of one operand
  pub return_word : (x : Site) (s : SourceState) (o : Outside) (g : Ghost) (i : ℕ) (v : Datum) (p q : Spot) → Ok z s g x → slice_get (registers s.cells x.a x.high) i ≡ Some v → WordAt (code_of x.a) (Piece.Abc Op.Return i 2 0) p q → Backs z x.a.landing x.a.protections x.below (v ∷ []) s o (Soon (at s o g x p.pc))
  return_word x s o g i v p q ok there w =
      let m : State = at s o g x p.pc in
      let m1 : State = at s o g x (suc p.pc) in
      backs_at z s o g x (suc p.pc) None (v ∷ []) m ok (prefix_self o.events)
      (word_abc x.a Op.Return i 2 0 p q m w refl refl
      ∙ ap (λ r. after m (need r (λ vs. leave m1 vs))) (one_register (registers s.cells x.a x.high) i v m1 refl there))
    where
      one_register : (regs : List Datum) (i : ℕ) (v : Datum) (m : State) → m.top.registers ≡ regs → slice_get regs i ≡ Some v → span m i 1 ≡ Some (v ∷ [])
      one_register regs i v m e h =
          let l = within regs i v h in
          ap (λ b. if b then Some (take 1 (drop i m.top.registers)) else None) (has_rows m i 1 (let k = ap length e in omega (arith, l, k)))
          ∙ ap (λ rs. Some (take 1 (drop i rs))) e
          ∙ ap (λ l1. Some (take 1 l1)) (drop_get regs i v h)
