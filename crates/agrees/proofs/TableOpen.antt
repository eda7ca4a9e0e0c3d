-- The last item of a constructor, where it gives several values: SETLIST up to the open results.
use Rattle.std.proofs.Common.{◌≡◌, ◌≤◌, ◌<◌, ℕ, suc, ◌+◌, ◌*◌, ◌-◌, ◌/◌, ◌==◌, Bool, true, false, List, ◌++◌, length, Option, Some, None, refl, sym, ap, ◌∙◌, subst, arith, pos, ◌-ℤ◌, ◌*ℤ◌, ◌+ℤ◌, nat_le, append_assoc, length-append, if◌then◌else◌}
use Rattle.std.proofs.lemmas.Bool.Decides.{nat_tests}
use Rattle.std.specs.Prelude.{slice_get}
use Rattle.opcode.specs.declared.op.Op.{Op}
use Rattle.opcode.specs.declared.word.Instr.{Instr}
use Rattle.proto.specs.Chunk.{own}
use Rattle.lua_tree.specs.Syntax.{Expression}
use Rattle.lua_model.specs.Datum.{Datum, table}
use Rattle.lua_model.specs.Store.{Outside, with_items}
use Rattle.source_meaning.specs.State.{State as SourceState, with_store}
use Rattle.source_meaning.specs.Tasks.{item}
use Rattle.source_meaning.specs.Programs.{done}
use Rattle.source_meaning.specs.Meaning.{set_entries}
use Rattle.rules.specs.State.{State, OpenResults, need}
use Rattle.rules.specs.Calls.{skip}
use Rattle.rules.specs.Step.{listed, set_list, do_setlist}
use Rattle.rules.specs.Run.{Going, step, after}
use Rattle.scheme_stands.specs.Words.{Spot}
use Rattle.scheme_stands.specs.Expressions.{form_of, several}
use Rattle.scheme_stands.specs.Lists.{SetListBy}
use Rattle.agrees.proofs.ListRead.{open_listed, row_app}
use Rattle.agrees.proofs.Registers.{high_get, row_within, row_keep}
use Rattle.agrees.proofs.Tasks.{Simulates, scope}
use Rattle.agrees.proofs.Posts.{fail_of, Row, ListPost, AtPost}
use Rattle.agrees.proofs.Lists.{within}
use Rattle.agrees.proofs.Accounts.{Place, Now, Self, goes_done, goes_ask, goes_from, goes_word}
use Rattle.agrees.proofs.Sizes.{size_e}
use Rattle.agrees.proofs.Words.{word_abc}
use Rattle.agrees.proofs.Picture.{code_of, Setup, Ghost, Site, raised, registers, pic, at}
use Rattle.agrees.proofs.TableBatches.{OpenLast, batch_key}

module _ (z : Setup) where
  open_tail : (x : Site) (s : SourceState) (o : Outside) (g : Ghost) (t k tb block pc c : ℕ) (us rest : List Datum) (m0 : State) → t ≡ length x.a.slots + k → suc k ≤ length x.high → slice_get x.high k ≡ Some (table tb) → Row x.high (suc k) us → after m0 (do_setlist (pic s o g x pc (registers s.cells x.a x.high) (Some (record { first = t + 1 + length us; values = rest }))) (record { op = Op.SetList; a = t; b = 0; c = c; bx = 0; sbx = pos 0 }) block) ≡ Going (at (with_store s (with_items s.store tb ((pos block -ℤ pos 1) *ℤ pos 50 +ℤ pos 1) (us ++ rest))) o g x pc)
  open_tail x s o g t k tb block pc c us rest m0 e l there row =
      let m1 : State = pic s o g x pc (registers s.cells x.a x.high) (Some (record { first = t + 1 + length us; values = rest })) in
      ap (λ d. after m0 (need d (λ d1. listed m1 (suc t) None (λ m2 us1. set_list m2 block d1 us1)))) (high_get s.cells x.a x.high t k e ∙ there)
      ∙ ap (after m0) (open_listed s o g x (suc k) (suc t) (t + 1 + length us) us rest pc (λ m2 us1. set_list m2 block (table tb) us1) (omega (arith, e)) (omega arith) l row)

  -- SETLIST, whose block is in the word or in the one behind it
  open_word : (small : Bool) (x : Site) (s : SourceState) (o : Outside) (g : Ghost) (t k tb block : ℕ) (us rest : List Datum) (p q : Spot) → t ≡ length x.a.slots + k → suc k ≤ length x.high → slice_get x.high k ≡ Some (table tb) → Row x.high (suc k) us → 0 < block → SetListBy small (code_of x.a) t 0 block p q → step (pic s o g x p.pc (registers s.cells x.a x.high) (Some (record { first = t + 1 + length us; values = rest }))) ≡ Going (at (with_store s (with_items s.store tb ((pos block -ℤ pos 1) *ℤ pos 50 +ℤ pos 1) (us ++ rest))) o g x q.pc)
  open_word true x s o g t k tb block us rest p q e l there row nz w =
      let r : Option OpenResults = Some (record { first = t + 1 + length us; values = rest }) in
      let m0 : State = pic s o g x p.pc (registers s.cells x.a x.high) r in
      let m1 : State = pic s o g x (suc p.pc) (registers s.cells x.a x.high) r in
      let i : Instr = record { op = Op.SetList; a = t; b = 0; c = block; bx = 0; sbx = pos 0 } in
      word_abc x.a Op.SetList t 0 block p q m0 w refl refl
      ∙ ap (λ b. after m0 (if b then need (slice_get (own x.a.chunk).code (suc p.pc)) (λ bl. do_setlist (skip m1) i bl) else do_setlist m1 i block)) (let f : (block == 0) ≡ false = grind (arith, nat_tests) in f)
      ∙ open_tail x s o g t k tb block (suc p.pc) block us rest m0 e l there row
      ∙ ap (λ pc. Going (at (with_store s (with_items s.store tb ((pos block -ℤ pos 1) *ℤ pos 50 +ℤ pos 1) (us ++ rest))) o g x pc)) (sym w.next)
  open_word false x s o g t k tb block us rest p q e l there row nz w =
      let r : Option OpenResults = Some (record { first = t + 1 + length us; values = rest }) in
      let m0 : State = pic s o g x p.pc (registers s.cells x.a x.high) r in
      let m1 : State = pic s o g x (suc p.pc) (registers s.cells x.a x.high) r in
      let i : Instr = record { op = Op.SetList; a = t; b = 0; c = 0; bx = 0; sbx = pos 0 } in
      word_abc x.a Op.SetList t 0 0 p w.mid m0 w.first_at refl refl
      ∙ ap (λ bl. after m0 (need bl (λ bl1. do_setlist (skip m1) i bl1))) (ap (slice_get (own x.a.chunk).code) (sym w.first_at.next) ∙ w.second_at.has)
      ∙ open_tail x s o g t k tb block (suc (suc p.pc)) 0 us rest m0 e l there row
      ∙ ap (λ pc. Going (at (with_store s (with_items s.store tb ((pos block -ℤ pos 1) *ℤ pos 50 +ℤ pos 1) (us ++ rest))) o g x pc)) (sym (w.second_at.next ∙ ap suc w.first_at.next))

  module _ (self : Self) (ih : Simulates z self) (limit : ℕ) where
    pub open_goes : (e : Expression) → several (form_of e) ≡ true → OpenLast z self ih limit e
    open_goes e eb s o g x k t tb c pend p q ok pd few small all w =
        goes_ask z.bound self (fail_of z x) (suc (size_e e)) 1 0 o (Now (at s o g x p.pc)) (item (scope x) e) s (ListPost z x None kk free w.mid.pc) (λ u s1 o1 p1. AtPost z x (suc k) q.pc s1 o1 p1) (λ vs s1. done tt (set_entries tb (50 * c) (pend ++ vs) s1))
        (ih.all_item e s o g x None kk free p w.mid ok (record { is = (let a = pd.at_t in omega (arith, a)); within = (let a = pd.at_t in let r = ok.acts.1 in omega (arith, a, r, room)) }) (omega arith) w.first_at)
        (λ vs s1 o1 p1 h.
        let x1 : Site = raised x h.high in
        let front = h.held.0 in
        let rest = h.held.1 in
        let us = pend ++ front in
        let l1 = length-append pend front in
        let s2 : SourceState = set_entries tb (50 * c) (pend ++ vs) s1 in
        let m : Place = Now (pic s1 o1 h.g x1 w.mid.pc (registers s1.cells x.a h.high) (Some (record { first = t + 1 + length us; values = rest }))) in
        let es : us ++ rest ≡ pend ++ vs = append_assoc pend front rest ∙ ap (λ ys. pend ++ ys) (sym h.held.3) in
        let n1 : ℕ = suc (50 * c + length pend) - 1 in
        let block : ℕ = n1 / 50 + 1 in
        let en : 50 * c + suc (length pend) - 1 ≡ suc (50 * c + length pend) - 1 = omega arith in
        let key : (pos (n1 / 50 + 1) -ℤ pos 1) *ℤ pos 50 +ℤ pos 1 ≡ pos (suc (50 * c)) = subst (λ i. (pos (i / 50 + 1) -ℤ pos 1) *ℤ pos 50 +ℤ pos 1 ≡ pos (suc (50 * c))) en (batch_key c (suc (length pend)) (omega arith) (omega arith)) in
        goes_from z.bound self (fail_of z x) 1 0 o1 p1 m _ (done tt s2) (h.held.4 ∙ ap (λ i. Now (pic s1 o1 h.g x1 w.mid.pc (registers s1.cells x.a h.high) (Some (record { first = i; values = rest })))) (let a : t + suc (length pend) + length front ≡ t + 1 + length us = omega (arith, l1) in a))
        (goes_word z.bound self (fail_of z x) 0 0 o1 _ (at s2 o1 h.g x1 q.pc) _ (done tt s2)
        (open_word (nat_le block 511) x1 s1 o1 h.g t k tb block us rest w.mid q pd.at_t (let y = h.keeps.same in omega (arith, y, room)) (h.keeps.old k (omega arith) ∙ pd.holds_table) (row_app h.high pend front (suc k) (row_keep x.high h.high pend (suc k) kk (omega arith) h.keeps.old pd.row) h.held.2) (omega arith) w.second_at
        ∙ ap (λ i. Going (at (with_store s1 (with_items s1.store tb i (us ++ rest))) o1 h.g x1 q.pc)) key
        ∙ ap (λ ys. Going (at (with_store s1 (with_items s1.store tb (pos (suc (50 * c))) ys)) o1 h.g x1 q.pc)) es)
        (goes_done z.bound self (fail_of z x) 0 0 o1 _ _ tt s2 (record { g = h.g; high = h.high; keeps = record { same = h.keeps.same; old = λ i b. h.keeps.old i (omega arith) }; is = refl; ok = h.ok }))))
      where
        kk : ℕ
        kk = suc k + length pend

        free : ℕ
        free = t + suc (length pend)

        room : suc k + length pend ≤ length x.high
        room = row_within x.high pend (suc k) (within x.high k (table tb) pd.holds_table) pd.row
