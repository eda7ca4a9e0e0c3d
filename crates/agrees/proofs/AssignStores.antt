-- A value to what a target stands for: from a register, or, of the last right side, directly.
use Rattle.std.proofs.Common.{◌≡◌, ◌≤◌, ℕ, suc, ◌+◌, List, [], ◌∷◌, length, Some, refl, sym, ap, ◌∙◌, subst, arith}
use Rattle.std.specs.Prelude.{slice_get}
use Rattle.proto.specs.Chunk.{own}
use Rattle.lua_tree.specs.Syntax.{Expression}
use Rattle.scheme.specs.Making.{in_register, in_upvalue, in_globals}
use Rattle.scheme.specs.Expressions as scheme
use Rattle.scheme.specs.Expressions.{name_target, part_target, literal}
use Rattle.lua_model.specs.Datum.{Datum, first_of}
use Rattle.lua_model.specs.Store.{Outside}
use Rattle.source_meaning.specs.State.{State as SourceState, Target, to_cell, to_global, to_entry}
use Rattle.source_meaning.specs.Tasks.{item}
use Rattle.source_meaning.specs.Programs.{Prog, ask, and_then, run, World, Answer, ended, failed, waiting, going, after}
use Rattle.source_meaning.specs.Meaning.{read, store_to, write}
use Rattle.source_meaning.proofs.Joins.{run_and_then}
use Rattle.scheme_stands.specs.Words.{Spot}
use Rattle.scheme_stands.specs.Statements.{SetAt, StoreRegisterAt, StoreAt}
use Rattle.scheme_stands.specs.Relation.{related}
use Rattle.agrees.proofs.Tasks.{Simulates, scope}
use Rattle.agrees.proofs.Posts.{Keeps, fail_of, Stands, AllStand}
use Rattle.agrees.proofs.Lists.{within}
use Rattle.agrees.proofs.Accounts.{Place, Now, Post, Fail, Self, Goes, Follow, world, goes_done, goes_post, goes_weaken, goes_word, goes_earning}
use Rattle.agrees.proofs.Sizes.{size_e, call_cost}
use Rattle.agrees.proofs.Picture.{code_of, Setup, of_cell, Act, Ghost, Site, raised, registers, at, Ok}
use Rattle.agrees.proofs.Operands.{op_keep, op_value, rk_keep, rk_is, item_goes, item_rk, register_is}
use Rattle.agrees.proofs.CellsOfLocals.{direct_store, ok_local}
use Rattle.agrees.proofs.AssignWords.{StoredPost, at_here, global_word, local_word, table_goes, stored_on}
use Rattle.agrees.proofs.Cells.{upvalue_word, ok_cell}

-- ## programs one after another, in either order of parentheses

run_assoc : {A B C : Type 0} (self : Self) (p : Prog A) (k : A → SourceState → Prog B) (l : B → SourceState → Prog C) (w : World) → run self (and_then (and_then p k) l) w ≡ run self (and_then p (λ a s. and_then (k a s) l)) w
run_assoc self p k l w =
    run_and_then self (and_then p k) l w
    ∙ ap (λ r. after r (λ b s. run self (l b s))) (run_and_then self p k w)
    ∙ by (run self p w)
    ∙ sym (run_and_then self p (λ a s. and_then (k a s) l) w)
  where
    by : (r : Answer _) → after (after r (λ a s. run self (k a s))) (λ b s. run self (l b s)) ≡ after r (λ a s. run self (and_then (k a s) l))
    by (ended a s w1) = sym (run_and_then self (k a s) l w1)
    by (failed v s w1) = refl
    by (waiting w1) = refl
    by (going w1) = refl

pub goes_assoc : {A B C : Type 0} (bound : ℕ) (self : Self) (F : Fail) (j S : ℕ) (o : Outside) (q : Place) (P : Post C) (p : Prog A) (k : A → SourceState → Prog B) (l : B → SourceState → Prog C) → Goes bound self F j S o q P (and_then p (λ a s. and_then (k a s) l)) → Goes bound self F j S o q P (and_then (and_then p k) l)
goes_assoc bound self F j S o q P p k l g = record { is = λ t. subst (Follow bound j S t q F P) (sym (run_assoc self p k l (world t o))) (g.is t) }

pub goes_unassoc : {A B C : Type 0} (bound : ℕ) (self : Self) (F : Fail) (j S : ℕ) (o : Outside) (q : Place) (P : Post C) (p : Prog A) (k : A → SourceState → Prog B) (l : B → SourceState → Prog C) → Goes bound self F j S o q P (and_then (and_then p k) l) → Goes bound self F j S o q P (and_then p (λ a s. and_then (k a s) l))
goes_unassoc bound self F j S o q P p k l g = record { is = λ t. subst (Follow bound j S t q F P) (run_assoc self p k l (world t o)) (g.is t) }

pub stands_keep : (a : Act) (h1 h2 : List Datum) (k1 k2 : ℕ) (t : Target) (d : scheme.Target) → k1 ≤ k2 → Keeps k1 h1 h2 → Stands a h1 k1 t d → Stands a h2 k2 t d
stands_keep a h1 h2 k1 k2 (to_cell c) (name_target name (in_register r)) l kp h = h
stands_keep a h1 h2 k1 k2 (to_cell c) (name_target name (in_upvalue i)) l kp h = h
stands_keep a h1 h2 k1 k2 (to_cell c) (name_target name in_globals) l kp h = absurd h
stands_keep a h1 h2 k1 k2 (to_cell c) (part_target t i ol kl) l kp h = absurd h
stands_keep a h1 h2 k1 k2 (to_global name) (name_target text (in_register r)) l kp h = absurd h
stands_keep a h1 h2 k1 k2 (to_global name) (name_target text (in_upvalue i)) l kp h = absurd h
stands_keep a h1 h2 k1 k2 (to_global name) (name_target text in_globals) l kp h = h
stands_keep a h1 h2 k1 k2 (to_global name) (part_target t i ol kl) l kp h = absurd h
stands_keep a h1 h2 k1 k2 (to_entry on key) (name_target text w) l kp h = absurd h
stands_keep a h1 h2 k1 k2 (to_entry on key) (part_target t i ol kl) l kp h = (op_keep a h1 h2 k1 k2 on t l kp h.0, rk_keep a h1 h2 k1 k2 key i l kp h.1, h.2, h.3)

pub all_stand_keep : (a : Act) (h1 h2 : List Datum) (k1 k2 : ℕ) (ts : List Target) (ds : List scheme.Target) → k1 ≤ k2 → Keeps k1 h1 h2 → AllStand a h1 k1 ts ds → AllStand a h2 k2 ts ds
all_stand_keep a h1 h2 k1 k2 [] [] l kp h = tt
all_stand_keep a h1 h2 k1 k2 [] (d ∷ ds) l kp h = absurd h
all_stand_keep a h1 h2 k1 k2 (t ∷ ts) [] l kp h = absurd h
all_stand_keep a h1 h2 k1 k2 (t ∷ ts) (d ∷ ds) l kp h = (stands_keep a h1 h2 k1 k2 t d l kp h.0, all_stand_keep a h1 h2 k1 k2 ts ds l kp h.1)

module _ (z : Setup) (self : Self) (ih : Simulates z self) where
  -- a store from a register; nothing is known of the registers behind it then
  pub store_goes : (t : Target) (d : scheme.Target) (s : SourceState) (o : Outside) (g : Ghost) (x : Site) (k kk r : ℕ) (v : Datum) (p q : Spot) → Ok z s g x → Stands x.a x.high k t d → slice_get (registers s.cells x.a x.high) r ≡ Some v → StoreRegisterAt (code_of x.a) d r p q → Goes z.bound self (fail_of z x) 1 call_cost o (Now (at s o g x p.pc)) (StoredPost z x kk q.pc) (store_to t v (scope x) s)
  store_goes (to_cell c) (name_target name (in_register to)) s o g x k kk r v p q ok st there w =
      goes_word z.bound self (fail_of z x) 0 call_cost o _ _ (StoredPost z x kk q.pc) _ (local_word z x s o g to c r v p q ok st there w)
      (goes_done z.bound self (fail_of z x) 0 call_cost o _ (StoredPost z x kk q.pc) tt _ (at_here z x kk q.pc _ o g (ok_local z s g x to c v ok st)))
  store_goes (to_cell c) (name_target name (in_upvalue i)) s o g x k kk r v p q ok st there w =
      goes_word z.bound self (fail_of z x) 0 call_cost o _ _ (StoredPost z x kk q.pc) _ (upvalue_word z s o g x ok r i c v p q st there w)
      (goes_done z.bound self (fail_of z x) 0 call_cost o _ (StoredPost z x kk q.pc) tt _ (at_here z x kk q.pc _ o g (ok_cell z s o g x ok c v)))
  store_goes (to_cell c) (name_target name in_globals) s o g x k kk r v p q ok st there w = absurd st
  store_goes (to_cell c) (part_target t i ol kl) s o g x k kk r v p q ok st there w = absurd st
  store_goes (to_global name) (name_target text (in_register to)) s o g x k kk r v p q ok st there w = absurd st
  store_goes (to_global name) (name_target text (in_upvalue i)) s o g x k kk r v p q ok st there w = absurd st
  store_goes (to_global name) (name_target text in_globals) s o g x k kk r v p q ok st there w =
      goes_word z.bound self (fail_of z x) 0 call_cost o _ _ (StoredPost z x kk q.pc) _ (global_word z x s o g name r v p q there (subst (λ n. SetAt (code_of x.a) n in_globals r p q) st w))
      (goes_done z.bound self (fail_of z x) 0 call_cost o _ (StoredPost z x kk q.pc) tt _ (at_here z x kk q.pc _ o g ok))
  store_goes (to_global name) (part_target t i ol kl) s o g x k kk r v p q ok st there w = absurd st
  store_goes (to_entry on key) (name_target text to) s o g x k kk r v p q ok st there w = absurd st
  store_goes (to_entry on key) (part_target t i ol kl) s o g x k kk r v p q ok st there w =
      table_goes z self ih x kk t i r (read on s) (read key s) v s o g p q ok (op_value s x.a x.high k on t st.0) (rk_is z s g x x.high k key i ok st.1)
      (register_is z s g x x.high r v ok there) w

  abbrev Direct : Expression → Site → SourceState → Target → Prog (Unit {0})
  Direct e x s t = ask (item (scope x) e) s (λ vs s1. store_to t (first_of vs) (scope x) s1)

  -- a right side that is stored directly
  pub direct_goes : (t : Target) (d : scheme.Target) (e : Expression) (s : SourceState) (o : Outside) (g : Ghost) (x : Site) (k free : ℕ) (p q : Spot) → Ok z s g x → free ≡ length x.a.slots + k → size_e e ≤ z.bound → free ≤ (own x.a.chunk).registers → Stands x.a x.high k t d → StoreAt (code_of x.a) d (related (code_of x.a) e) x.a.active free p q → Goes z.bound self (fail_of z x) 1 (suc (size_e e) + call_cost) o (Now (at s o g x p.pc)) (StoredPost z x k q.pc) (Direct e x s t)
  direct_goes (to_cell c) (name_target name (in_register to)) e s o g x k free p q ok fr small lim st w =
      goes_earning z.bound self (fail_of z x) 6 (suc (size_e e)) 1 0 call_cost o _ (item (scope x) e) s _ (StoredPost z x k q.pc) _ (omega arith)
      (ih.one_item e s o g x k free to p q ok (record { is = fr; within = lim }) small (let l = within x.a.slots to (of_cell c) st in let r = ok.acts.1 in omega (arith, l, r)) w)
      (λ vs s1 o1 p1 h. goes_weaken z.bound self (fail_of z x) 0 0 0 call_cost o1 p1 (StoredPost z x k q.pc) _ (omega arith) (omega arith) (direct_store z x k to c q.pc vs (scope x) self s1 o1 p1 st h.0))
  direct_goes (to_cell c) (name_target name (in_upvalue i)) e s o g x k free p q ok fr small lim st w =
      item_goes z self ih e s o g x k free w.x w.free1 p w.mid 1 call_cost (StoredPost z x k q.pc) _ ok fr small w.operand_at
      (λ vs s1 o1 g1 high1 kp ok1 single there.
      let x1 : Site = raised x high1 in
      goes_word z.bound self (fail_of z x) 0 call_cost o1 _ _ (StoredPost z x k q.pc) _ (upvalue_word z s1 o1 g1 x1 ok1 w.x i c (first_of vs) w.mid q st there w.words_at)
      (goes_done z.bound self (fail_of z x) 0 call_cost o1 _ (StoredPost z x k q.pc) tt _ (stored_on z x k k q.pc high1 tt _ o1 _ (omega arith) kp (at_here z x1 k q.pc _ o1 g1 (ok_cell z s1 o1 g1 x1 ok1 c (first_of vs))))))
  direct_goes (to_cell c) (name_target name in_globals) e s o g x k free p q ok fr small lim st w = absurd st
  direct_goes (to_cell c) (part_target t i ol kl) e s o g x k free p q ok fr small lim st w = absurd st
  direct_goes (to_global name) (name_target text (in_register to)) e s o g x k free p q ok fr small lim st w = absurd st
  direct_goes (to_global name) (name_target text (in_upvalue i)) e s o g x k free p q ok fr small lim st w = absurd st
  direct_goes (to_global name) (name_target text in_globals) e s o g x k free p q ok fr small lim st w =
      item_goes z self ih e s o g x k free w.x w.free1 p w.mid 1 call_cost (StoredPost z x k q.pc) _ ok fr small w.operand_at
      (λ vs s1 o1 g1 high1 kp ok1 single there.
      let x1 : Site = raised x high1 in
      goes_word z.bound self (fail_of z x) 0 call_cost o1 _ _ (StoredPost z x k q.pc) _ (global_word z x1 s1 o1 g1 name w.x (first_of vs) w.mid q there (subst (λ n. SetAt (code_of x.a) n in_globals w.x w.mid q) st w.words_at))
      (goes_done z.bound self (fail_of z x) 0 call_cost o1 _ (StoredPost z x k q.pc) tt _ (stored_on z x k k q.pc high1 tt _ o1 _ (omega arith) kp (at_here z x1 k q.pc _ o1 g1 ok1))))
  direct_goes (to_global name) (part_target t i ol kl) e s o g x k free p q ok fr small lim st w = absurd st
  direct_goes (to_entry on key) (name_target text to) e s o g x k free p q ok fr small lim st w = absurd st
  direct_goes (to_entry on key) (part_target t i ol kl) e s o g x k free p q ok fr small lim st w =
      item_rk z self ih e s o g x k free w.x w.free1 p w.mid 1 call_cost (StoredPost z x k q.pc) (λ vs s1. write (scope x) (read on s1) (read key s1) (first_of vs) s1) ok fr small w.operand_at
      (λ vs s1 o1 g1 high1 kp ok1 single there.
      let x1 : Site = raised x high1 in
      goes_post z.bound self (fail_of z x) 1 call_cost o1 (Now (at s1 o1 g1 x1 w.mid.pc)) (StoredPost z x1 k q.pc) (StoredPost z x k q.pc) (write (scope x) (read on s1) (read key s1) (first_of vs) s1) (λ u s2 o2 p2 h. stored_on z x k k q.pc high1 u s2 o2 p2 (omega arith) kp h)
      (table_goes z self ih x1 k t i w.x (read on s1) (read key s1) (first_of vs) s1 o1 g1 w.mid q ok1 (op_value s1 x.a high1 k on t (op_keep x.a x.high high1 k k on t (omega arith) kp st.0)) (rk_is z s1 g1 x high1 k key i ok1 (rk_keep x.a x.high high1 k k key i (omega arith) kp st.1)) there w.words_at))
