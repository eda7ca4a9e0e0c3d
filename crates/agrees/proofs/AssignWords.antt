-- Words that store: to a table, to a global, to a local.
use Rattle.std.proofs.Common.{◌≡◌, ℕ, suc, ◌+◌, inl, length, Some, None, refl, sym, ap, ◌∙◌, subst, arith, option_map, option_and_then, List, ◌≤◌}
use Rattle.std.specs.Prelude.{slice_get}
use Rattle.opcode.specs.declared.op.Op.{Op}
use Rattle.proto.specs.declared.parts.Constant.{Constant}
use Rattle.lua_num.specs.Bytes.{Text}
use Rattle.scheme.specs.declared.making.Piece.{Piece}
use Rattle.lua_model.specs.Datum.{Datum}
use Rattle.lua_model.specs.Store.{Outside, with_global}
use Rattle.lua_model.specs.Acts.{Act, value, call as asks, failure}
use Rattle.lua_model.specs.Operators.{set_index, protection_limit}
use Rattle.lua_model.specs.Endings.{IsPrefix}
use Rattle.source_meaning.specs.State.{State as SourceState, with_store, with_cell}
use Rattle.source_meaning.specs.Tasks.{call}
use Rattle.source_meaning.specs.Programs.{done, and_then}
use Rattle.source_meaning.specs.Meaning.{perform, write}
use Rattle.rules.specs.State.{State, nowhere, Goes as Going_on, need, register, operand, set, value_of, name_of}
use Rattle.rules.specs.State as rules
use Rattle.rules.specs.Step.{give_nowhere, give_write}
use Rattle.rules.specs.Run.{Going, step, after}
use Rattle.scheme_stands.specs.Words.{Spot, WordAt, ConstantWord}
use Rattle.agrees.proofs.Tasks.{Simulates, scope}
use Rattle.agrees.proofs.Posts.{keeps_self, AtPost, fail_of, OperandIs, Keeps, keeps_on}
use Rattle.agrees.proofs.Accounts.{Now, Soon, Post, Self, Goes, prefix_self, goes_done, goes_fault, goes_soon, goes_step, goes_from, goes_ask, goes_weaken, Place}
use Rattle.agrees.proofs.Sizes.{call_cost}
use Rattle.agrees.proofs.Words.{word_abc, word_abx, sets}
use Rattle.agrees.proofs.Picture.{code_of, Setup, of_cell, Ghost, Site, registers, slot_value, at, waits, Ok, raised}
use Rattle.agrees.proofs.PictureChanges.{fine_waiter, top_register}
use Rattle.agrees.proofs.CallLeaves.{fails_at}
use Rattle.agrees.proofs.CellsOfLocals.{writes_local}

-- behind a store
abbrev pub StoredPost : Setup → Site → ℕ → ℕ → Post (Unit {0})
StoredPost z x k q u s o p = AtPost z x k q s o p

module _ (z : Setup) where
  -- the same place
  pub at_here : (x : Site) (k q : ℕ) (s : SourceState) (o : Outside) (g : Ghost) → Ok z s g x → AtPost z x k q s o (Now (at s o g x q))
  at_here x k q s o g ok = record { g = g; high = x.high; keeps = keeps_self k x.high; is = refl; ok = ok }

  -- what is known of behind x, too
  pub stored_on : (x : Site) (k k1 q : ℕ) (high : List Datum) (u : Unit {0}) (s : SourceState) (o : Outside) (p : Place) → k ≤ k1 → Keeps k x.high high → StoredPost z (raised x high) k1 q u s o p → StoredPost z x k q u s o p
  stored_on x k k1 q high u s o p l kp h = record { g = h.g; high = h.high; keeps = keeps_on k k1 x.high high h.high l kp h.keeps; is = h.is; ok = h.ok }

  -- SETGLOBAL
  pub global_word : (x : Site) (s : SourceState) (o : Outside) (g : Ghost) (name : Text) (r : ℕ) (v : Datum) (p q : Spot) → slice_get (registers s.cells x.a x.high) r ≡ Some v → ConstantWord (code_of x.a) Op.SetGlobal r (Constant.Text name) p q → step (at s o g x p.pc) ≡ Going (at (with_store s (with_global s.store name v)) o g x q.pc)
  global_word x s o g name r v p q there w =
      let m0 : State = at s o g x p.pc in
      let m1 : State = at s o g x (suc p.pc) in
      word_abx x.a Op.SetGlobal r w.number p q m0 w.word refl refl
      ∙ ap (λ c. after m0 (need (option_and_then name_of (option_map value_of c)) (λ n. need (register m1 r) (λ u. Going_on (rules.with_store m1 (with_global m1.store n u)))))) w.is
      ∙ ap (λ y. after m0 (need y (λ u. Going_on (rules.with_store m1 (with_global m1.store name u))))) there
      ∙ ap (λ pc. Going (at (with_store s (with_global s.store name v)) o g x pc)) (sym w.word.next)

  -- MOVE to a local
  pub local_word : (x : Site) (s : SourceState) (o : Outside) (g : Ghost) (to c r : ℕ) (v : Datum) (p q : Spot) → Ok z s g x → slice_get x.a.slots to ≡ Some (of_cell c) → slice_get (registers s.cells x.a x.high) r ≡ Some v → WordAt (code_of x.a) (Piece.Abc Op.Move to r 0) p q → step (at s o g x p.pc) ≡ Going (at (with_cell s c v) o g x q.pc)
  local_word x s o g to c r v p q ok slot there w =
      let m0 : State = at s o g x p.pc in
      let m1 : State = at s o g x (suc p.pc) in
      word_abc x.a Op.Move to r 0 p q m0 w refl refl
      ∙ ap (λ y. after m0 (need y (λ u. set m1 to u))) there
      ∙ ap (after m0) (sets m1 to v (slot_value s.cells (of_cell c)) (top_register s.cells x.a x.high to (of_cell c) slot))
      ∙ ap Going (writes_local z s g x to c v ok slot o (suc p.pc) None)
      ∙ ap (λ pc. Going (at (with_cell s c v) o g x pc)) (sym w.next)

  module _ (self : Self) (ih : Simulates z self) where
    -- an operator's answer of which nothing is taken
    pub perform_nowhere : (x : Site) (k pc : ℕ) (act : Act) (s : SourceState) (o : Outside) (g : Ghost) (m : State) → Ok z s g x → m.outside ≡ o → step m ≡ after m (give_nowhere (at s o g x pc) act) → Goes z.bound self (fail_of z x) 0 call_cost o (Soon m) (StoredPost z x k pc) (and_then (perform (scope x) act s) (λ u s1. done tt s1))
    perform_nowhere x k pc (value v) s o g m ok quiet e =
        goes_step z.bound self (fail_of z x) 0 call_cost o m (at s o g x pc) (StoredPost z x k pc) _ e
        (goes_done z.bound self (fail_of z x) 0 call_cost o _ (StoredPost z x k pc) tt s (at_here x k pc s o g ok))
    perform_nowhere x k pc (failure v) s o g m ok quiet e =
        goes_fault z.bound self (fail_of z x) 0 call_cost o (Soon m) (StoredPost z x k pc) v s (fails_at z s o g x pc None v m ok (subst (λ y. IsPrefix y.events o.events) (sym quiet) (prefix_self o.events)) e)
    perform_nowhere x k pc (asks h args how) s o g m ok quiet e =
        goes_weaken z.bound self (fail_of z x) 0 (call_cost + 0) 0 call_cost o (Soon m) (StoredPost z x k pc) _ (omega arith) (omega arith)
        (goes_ask z.bound self (fail_of z x) call_cost 0 0 o (Soon m) (call (suc (length x.below)) h args) s _ (StoredPost z x k pc) _
        (ih.calls h args s o g x nowhere pc protection_limit m refl ok (subst (λ y. IsPrefix y.events o.events) (sym quiet) (prefix_self o.events)) (inl quiet) e)
        (λ vs s1 o1 p1 b.
        goes_from z.bound self (fail_of z x) 0 0 o1 p1 (Soon b.m) (StoredPost z x k pc) _ b.at_m
        (goes_step z.bound self (fail_of z x) 0 0 o1 b.m (at s1 o1 b.is.g x pc) (StoredPost z x k pc) _ b.is.is
        (goes_done z.bound self (fail_of z x) 0 0 o1 _ (StoredPost z x k pc) tt s1
        (at_here x k pc s1 o1 b.is.g (fine_waiter z (length s1.cells) s1.closures b.is.g (waits x pc) (waits x 0) x.below refl refl b.is.fine))))))

    -- SETTABLE
    pub table_goes : (x : Site) (k t kk vv : ℕ) (on key v : Datum) (s : SourceState) (o : Outside) (g : Ghost) (p q : Spot) → Ok z s g x → slice_get (registers s.cells x.a x.high) t ≡ Some on → OperandIs x x.high s kk key → OperandIs x x.high s vv v → WordAt (code_of x.a) (Piece.Abc Op.SetTable t kk vv) p q → Goes z.bound self (fail_of z x) 1 call_cost o (Now (at s o g x p.pc)) (StoredPost z x k q.pc) (write (scope x) on key v s)
    table_goes x k t kk vv on key v s o g p q ok et ek ev w =
        let m0 : State = at s o g x p.pc in
        let m1 : State = at s o g x (suc p.pc) in
        let d = set_index s.store on key v in
        goes_soon z.bound self (fail_of z x) 0 call_cost o m0 (StoredPost z x k q.pc) _
        (perform_nowhere x k q.pc d.0 (with_store s d.1) o g m0 ok refl
        (word_abc x.a Op.SetTable t kk vv p q m0 w refl refl
        ∙ ap (λ y. after m0 (need y (λ u. need (operand m1 kk) (λ i. need (operand m1 vv) (λ n. give_write m1 (set_index m1.store u i n)))))) et
        ∙ ap (λ y. after m0 (need y (λ i. need (operand m1 vv) (λ n. give_write m1 (set_index m1.store on i n))))) (ek m1 refl refl)
        ∙ ap (λ y. after m0 (need y (λ n. give_write m1 (set_index m1.store on key n)))) (ev m1 refl refl)
        ∙ ap (λ pc. after m0 (give_nowhere (at (with_store s d.1) o g x pc) d.0)) (sym w.next)))
