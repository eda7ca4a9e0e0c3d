-- A constructor: NEWTABLE, the items, and the table to its register.
use Rattle.std.proofs.Common.{◌≡◌, ◌≤◌, ◌<◌, ℕ, suc, ◌+◌, List, [], ◌∷◌, length, Some, None, refl, sym, ap, ◌∙◌, arith}
use Rattle.std.specs.Prelude.{slice_set}
use Rattle.opcode.specs.declared.op.Op.{Op}
use Rattle.lua_tree.specs.Syntax.{Fields, constructor}
use Rattle.lua_model.specs.Datum.{Datum, table}
use Rattle.lua_model.specs.Store.{Outside, new_table}
use Rattle.source_meaning.specs.State.{State as SourceState, with_store}
use Rattle.source_meaning.specs.Programs.{done}
use Rattle.source_meaning.specs.Meaning.{construct, fields, evaluate, one}
use Rattle.rules.specs.State.{State}
use Rattle.rules.specs.Run.{Going, after}
use Rattle.scheme_stands.specs.Words.{Spot}
use Rattle.scheme_stands.specs.Lists.{TableAt}
use Rattle.scheme_stands.specs.Relation.{ItemsAt}
use Rattle.agrees.proofs.NextRegister.{one_of}
use Rattle.agrees.proofs.Registers.{ok_high, set_above, room_for}
use Rattle.agrees.proofs.Tasks.{Simulates, scope, Evaluates}
use Rattle.agrees.proofs.Posts.{Keeps, keeps_on, fail_of, NextPost, ListPost}
use Rattle.agrees.proofs.Lists.{get_set, get_set_other, length_set}
use Rattle.agrees.proofs.Accounts.{Place, Now, Self, Goes, goes_done, goes_weaken, goes_word, goes_then}
use Rattle.agrees.proofs.Sizes.{inner_fields}
use Rattle.agrees.proofs.Words.{word_abc, sets}
use Rattle.agrees.proofs.Picture.{code_of, Setup, Ghost, Site, raised, pic, at, Ok}
use Rattle.agrees.proofs.TableBatches.{fields_goes, count_of}
use Rattle.agrees.proofs.TableOpen.{open_goes}

module _ (z : Setup) (self : Self) (ih : Simulates z self) where
  pub construct_goes : (fs : Fields) (s : SourceState) (o : Outside) (g : Ghost) (x : Site) (k free : ℕ) (p q : Spot) → Ok z s g x → free ≡ length x.a.slots + k → inner_fields fs ≤ z.bound → TableAt (code_of x.a) (λ t. ItemsAt (code_of x.a) fs x.a.active t 0 0) free p q → Goes z.bound self (fail_of z x) 2 (inner_fields fs) o (Now (at s o g x p.pc)) (NextPost z x k q.pc) (construct fs (scope x) s)
  construct_goes fs s o g x k free p q ok fr small w =
      let tb : ℕ = length s.store.tables in
      let s1 : SourceState = with_store s (new_table s.store) in
      let high1 : List Datum = slice_set x.high k (table tb) in
      let x1 : Site = raised x high1 in
      let m : State = at s o g x p.pc in
      let m1 : State = at s1 o g x (suc p.pc) in
      let old = room_for z s g x free ok w.room in
      let l : k < length x.high = let r = ok.acts.1 in let b = w.room in omega (arith, r, b, fr) in
      let kp : Keeps k x.high high1 = record { same = length_set x.high k (table tb); old = λ i b. get_set_other x.high k i (table tb) (λ y. omega (arith, y)) } in
      let ok1 : Ok z s1 g x1 = ok_high z s g x x.high high1 (sym (length_set x.high k (table tb))) ok in
      goes_word z.bound self (fail_of z x) 1 (inner_fields fs) o m (at s1 o g x1 w.mid.pc) (NextPost z x k q.pc) (construct fs (scope x) s)
      (word_abc x.a Op.NewTable free w.array w.hash p w.mid m w.word refl refl
      ∙ ap (after m) (sets m1 free (table tb) old.0 old.1)
      ∙ ap (λ rs. Going (pic s1 o g x1 (suc p.pc) rs None)) (set_above s.cells x.a x.high free k (table tb) fr)
      ∙ ap (λ pc. Going (at s1 o g x1 pc)) (sym w.word.next))
      (goes_weaken z.bound self (fail_of z x) 1 (inner_fields fs + 0) 1 (inner_fields fs) o _ (NextPost z x k q.pc) _ (omega arith) (omega arith)
      (goes_then z.bound self (fail_of z x) 1 (inner_fields fs) 0 0 o _ _ (NextPost z x k q.pc) (fields fs (scope x) tb 0 [] s1) (λ u s2. done (table tb) s2)
      (fields_goes z self ih (count_of fs) fs (open_goes z self ih (count_of fs)) s1 o g x1 k free tb 0 [] w.mid q ok1 (record { at_t = fr; holds_table = get_set x.high k (table tb) l; row = tt }) (omega arith) small (omega arith) w.items_at)
      (λ u s2 o2 p2 h.
      goes_done z.bound self (fail_of z x) 0 0 o2 p2 (NextPost z x k q.pc) (table tb) s2
      (record { g = h.g; high = h.high; keeps = keeps_on k (suc k) x.high high1 h.high (omega arith) kp h.keeps; has = h.keeps.old k (omega arith) ∙ get_set x.high k (table tb) l; is = h.is; ok = h.ok }))))

  as_list : (x : Site) (k free q : ℕ) (v : Datum) (s : SourceState) (o : Outside) (p : Place) → NextPost z x k q v s o p → ListPost z x (Some 1) k free q (v ∷ []) s o p
  as_list x k free q v s o p h = record { g = h.g; high = h.high; keeps = h.keeps; held = ((h.has, tt), h.is); ok = h.ok }

  pub table_value : (line : ℕ) (fs : Fields) → Evaluates z self 3 (constructor line fs)
  table_value line fs s o g x k free r p q ok above small lr w =
      one_of z self x k free r _ p q 2 (inner_fields fs) o (Now (at s o g x p.pc)) (evaluate (constructor line fs) (scope x) s) above.is lr w
      (λ mid t.
      goes_weaken z.bound self (fail_of z x) 2 (inner_fields fs + 0) 2 (inner_fields fs) o _ _ _ (omega arith) (omega arith)
      (goes_then z.bound self (fail_of z x) 2 (inner_fields fs) 0 0 o _ (NextPost z x k mid.pc) (ListPost z x (Some 1) k free mid.pc) (construct fs (scope x) s) one
      (construct_goes fs s o g x k free p mid ok above.is (omega arith) t)
      (λ v s1 o1 p1 h. goes_done z.bound self (fail_of z x) 0 0 o1 p1 _ (v ∷ []) s1 (as_list x k free mid.pc v s1 o1 p1 h))))
