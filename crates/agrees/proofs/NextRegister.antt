-- A value in the next register above the locals: what follows it, and how it goes on to the register where it is wanted.
use Rattle.std.proofs.Common.{◌≡◌, ◌<◌, ℕ, ◌+◌, inl, inr, List, [], ◌∷◌, length, Some, sym, subst, arith, ◌≤◌, suc, None, refl, ap, ◌∙◌}
use Rattle.std.specs.Prelude.{slice_get, slice_set}
use Rattle.lua_model.specs.Datum.{Datum, first_of, adjusted}
use Rattle.lua_model.specs.Store.{Outside}
use Rattle.lua_tree.specs.Syntax.{Expression}
use Rattle.opcode.specs.declared.op.Op.{Op}
use Rattle.proto.specs.Chunk.{own}
use Rattle.rules.specs.Run.{after}
use Rattle.rules.specs.State.{State, need, set}
use Rattle.scheme.specs.declared.making.Piece.{Piece}
use Rattle.scheme_stands.specs.Words.{Spot, Stretch, WordAt}
use Rattle.scheme_stands.specs.Lists.{MovedFrom}
use Rattle.scheme_stands.specs.Relation.{related}
use Rattle.source_meaning.specs.Meaning.{with_value}
use Rattle.source_meaning.specs.Programs.{Prog}
use Rattle.source_meaning.specs.State.{State as SourceState}
use Rattle.source_meaning.specs.Tasks.{expression}
use Rattle.agrees.proofs.Lists.{get_set, get_set_other, length_set}
use Rattle.agrees.proofs.Picture.{code_of, Setup, Ghost, Site, raised, registers, pic, at, Ok}
use Rattle.agrees.proofs.Posts.{ValuePost, ListPost, Row, fail_of, Keeps, NextPost, keeps_on}
use Rattle.agrees.proofs.Accounts.{Place, Now, Arrive, to_word, Post, Self, Goes, goes_ask, goes_from, goes_more, goes_weaken, goes_post}
use Rattle.agrees.proofs.Registers.{high_get, set_same, set_word, ok_high, set_above}
use Rattle.agrees.proofs.Sizes.{size_e}
use Rattle.agrees.proofs.Tasks.{Single, Simulates, scope}
use Rattle.agrees.proofs.Words.{word_abc}

module _ (z : Setup) where
  pub to_next : (x : Site) (k free q : ℕ) (vs : List Datum) (s : SourceState) (o : Outside) (p : Place) → free ≡ length x.a.slots + k → free < (own x.a.chunk).registers → ValuePost z x k free q vs s o p → NextPost z x k q (first_of vs) s o p
  to_next x k free q vs s o p e l h = record {
    g = h.g;
    high = slice_set h.high k (first_of vs);
    keeps = record { same = length_set h.high k (first_of vs) ∙ h.keeps.same; old = λ i b. get_set_other h.high k i (first_of vs) (λ y. omega arith) ∙ h.keeps.old i b };
    has = get_set h.high k (first_of vs) (let r = h.ok.acts.1 in omega (arith, r, e, l));
    is = h.is ∙ ap (λ rs. Now (pic s o h.g (raised x h.high) q rs None)) (set_above s.cells x.a h.high free k (first_of vs) e);
    ok = ok_high z s h.g x h.high (slice_set h.high k (first_of vs)) (sym (length_set h.high k (first_of vs))) h.ok;
  }

  -- the post of a part, by registers that were raised before it
  pub value_from : (x : Site) (high1 : List Datum) (k k1 r q : ℕ) (vs : List Datum) (s : SourceState) (o : Outside) (p : Place) → k ≤ k1 → Keeps k x.high high1 → ValuePost z (raised x high1) k1 r q vs s o p → ValuePost z x k r q vs s o p
  value_from x high1 k k1 r q vs s o p l kp h = record { g = h.g; high = h.high; keeps = keeps_on k k1 x.high high1 h.high l kp h.keeps; is = h.is; ok = h.ok }

  -- a value that is in the next register already
  pub value_here : (x : Site) (k free q : ℕ) (vs : List Datum) (s : SourceState) (o : Outside) (g : Ghost) (high1 : List Datum) → free ≡ length x.a.slots + k → Keeps k x.high high1 → Ok z s g (raised x high1) → slice_get high1 k ≡ Some (first_of vs) → ValuePost z x k free q vs s o (Now (at s o g (raised x high1) q))
  value_here x k free q vs s o g high1 e kp ok there = record {
    g = g;
    high = high1;
    keeps = kp;
    is = ap (λ rs. Now (pic s o g (raised x high1) q rs None)) (sym (set_same (registers s.cells x.a high1) free (first_of vs) (high_get s.cells x.a high1 free k e ∙ there)));
    ok = ok;
  }

  -- MOVE from the next register
  pub moves_on : (x : Site) (k free r : ℕ) (vs : List Datum) (s : SourceState) (o : Outside) (g : Ghost) (high1 : List Datum) (p q : Spot) → free ≡ length x.a.slots + k → r < (own x.a.chunk).registers → Keeps k x.high high1 → Ok z s g (raised x high1) → slice_get high1 k ≡ Some (first_of vs) → WordAt (code_of x.a) (Piece.Abc Op.Move r free 0) p q → (t : ℕ) → Arrive z.bound 1 0 t (Now (at s o g (raised x high1) p.pc)) t (ValuePost z x k r q.pc vs s o)
  moves_on x k free r vs s o g high1 p q e lr kp ok there w t =
      let m0 : State = at s o g (raised x high1) p.pc in
      to_word z.bound t m0 (pic s o g (raised x high1) (suc p.pc) (slice_set (registers s.cells x.a high1) r (first_of vs)) None) (ValuePost z x k r q.pc vs s o)
      (word_abc x.a Op.Move r free 0 p q m0 w refl refl
      ∙ ap (λ y. after m0 (need y (λ v. set (at s o g (raised x high1) (suc p.pc)) r v))) (high_get s.cells x.a high1 free k e ∙ there)
      ∙ ap (after m0) (set_word z s o g (raised x high1) r (suc p.pc) (first_of vs) ok lr))
      (record { g = g; high = high1; keeps = kp; is = ap (λ pc. Now (pic s o g (raised x high1) pc (slice_set (registers s.cells x.a high1) r (first_of vs)) None)) (sym w.next); ok = ok })

  -- a value that was made for the next register goes on by MOVE
  pub moves : (x : Site) (k free r : ℕ) (vs : List Datum) (s : SourceState) (o : Outside) (p1 : Place) (p q : Spot) → free ≡ length x.a.slots + k → free < (own x.a.chunk).registers → r < (own x.a.chunk).registers → ValuePost z x k free p.pc vs s o p1 → WordAt (code_of x.a) (Piece.Abc Op.Move r free 0) p q → (t : ℕ) → Arrive z.bound 1 0 t p1 t (ValuePost z x k r q.pc vs s o)
  moves x k free r vs s o p1 p q e room lr h w t =
      let n = to_next x k free p.pc vs s o p1 e room h in
      subst (λ y. Arrive z.bound 1 0 t y t (ValuePost z x k r q.pc vs s o)) (sym n.is)
      (moves_on x k free r vs s o n.g n.high p q e lr n.keeps n.ok n.has w t)

  module _ (self : Self) (ih : Simulates z self) where
    abbrev pub AfterVal : {B : Type 0} → ℕ → ℕ → Site → ℕ → ℕ → Post B → (Datum → SourceState → Prog B) → Type 0
    AfterVal j S x k q P go = (v : Datum) (s : SourceState) (o : Outside) (g : Ghost) (high : List Datum) → Keeps k x.high high → Ok z s g (raised x high) → slice_get high k ≡ Some v → Goes z.bound self (fail_of z x) j S o (Now (at s o g (raised x high) q)) P (go v s)

    pub next_reg : {B : Type 0} (e : Expression) (s : SourceState) (o : Outside) (g : Ghost) (x : Site) (k free : ℕ) (p q : Spot) (j S : ℕ) (P : Post B) (go : Datum → SourceState → Prog B) → Ok z s g x → free ≡ length x.a.slots + k → size_e e ≤ z.bound → free < (own x.a.chunk).registers → (related (code_of x.a) e).to_reg x.a.active free free p q → AfterVal j S x k q.pc P go → Goes z.bound self (fail_of z x) j (size_e e + S) o (Now (at s o g x p.pc)) P (with_value (scope x) e s go)
    next_reg e s o g x k free p q j S P go ok fr small room t after =
        goes_ask z.bound self (fail_of z x) (size_e e) j S o (Now (at s o g x p.pc)) (expression (scope x) e) s (λ vs s1 o1 p1. ValuePost z x k free q.pc vs s1 o1 p1 × Single e vs) P (λ vs s1. go (first_of vs) s1)
        (ih.expr e s o g x k free free p q ok (record { is = fr; within = omega arith }) small room t)
        (λ vs s1 o1 p1 h. let n = to_next x k free q.pc vs s1 o1 p1 fr room h.0 in
        goes_from z.bound self (fail_of z x) j S o1 p1 _ P (go (first_of vs) s1) n.is (after (first_of vs) s1 o1 n.g n.high n.keeps n.ok n.has))

  module _ (self : Self) where
    first_row : (high : List Datum) (k : ℕ) (vs : List Datum) → Row high k (adjusted 1 vs) → slice_get high k ≡ Some (first_of vs)
    first_row high k [] h = h.0
    first_row high k (v ∷ vs) h = h.0

    -- one value in the next register is moved to where it is wanted
    pub one_of : (x : Site) (k free r : ℕ) (part : Stretch) (p q : Spot) (j S : ℕ) (o : Outside) (place : Place) (prog : Prog (List Datum)) → free ≡ length x.a.slots + k → r < (own x.a.chunk).registers → MovedFrom (code_of x.a) part free r p q → ((mid : Spot) → part p mid → Goes z.bound self (fail_of z x) j S o place (ListPost z x (Some 1) k free mid.pc) prog) → Goes z.bound self (fail_of z x) (j + 1) S o place (ValuePost z x k r q.pc) prog
    one_of x k free r part p q j S o place prog fr lr (inl h) given =
        goes_weaken z.bound self (fail_of z x) j S (j + 1) S o place (ValuePost z x k r q.pc) prog (omega arith) (omega arith)
        (goes_post z.bound self (fail_of z x) j S o place (ListPost z x (Some 1) k free q.pc) (ValuePost z x k r q.pc) prog
        (λ vs s1 o1 p1 l.
        subst (λ y. ValuePost z x k r q.pc vs s1 o1 y) (sym l.held.1)
        (subst (λ i. ValuePost z x k i q.pc vs s1 o1 (Now (at s1 o1 l.g (raised x l.high) q.pc))) h.0
        (value_here x k free q.pc vs s1 o1 l.g l.high fr l.keeps l.ok (first_row l.high k vs l.held.0))))
        (given q h.1))
    one_of x k free r part p q j S o place prog fr lr (inr (other, w)) given =
        goes_more z.bound self (fail_of z x) j 1 S o place (ListPost z x (Some 1) k free w.mid.pc) (ValuePost z x k r q.pc) prog (given w.mid w.first_at)
        (λ vs s1 o1 p1 l t.
        subst (λ y. Arrive z.bound 1 0 t y t (ValuePost z x k r q.pc vs s1 o1)) (sym l.held.1)
        (moves_on x k free r vs s1 o1 l.g l.high w.mid q fr lr l.keeps l.ok (first_row l.high k vs l.held.0) w.second_at t))
