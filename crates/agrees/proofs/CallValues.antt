-- What is called and its arguments, in registers for the next word.
use Rattle.std.proofs.Common.{◌≡◌, ◌≤◌, ◌<◌, ℕ, suc, ◌+◌, List, [], ◌∷◌, ◌++◌, length, Some, None, refl, sym, ap, ◌∙◌, subst, arith}
use Rattle.std.specs.Prelude.{slice_get}
use Rattle.opcode.specs.declared.op.Op.{Op}
use Rattle.proto.specs.Chunk.{own}
use Rattle.lua_tree.specs.Syntax.{Expression, call_expression, Arguments, argument_list, text_argument, table_argument}
use Rattle.scheme.specs.declared.making.Piece.{Piece}
use Rattle.scheme.specs.Expressions.{Want, count_field}
use Rattle.lua_model.specs.Datum.{Datum, first_of}
use Rattle.lua_model.specs.Store.{Outside}
use Rattle.source_meaning.specs.State.{State as SourceState}
use Rattle.source_meaning.specs.Tasks.{text_item, table_item}
use Rattle.source_meaning.specs.Meaning.{arguments, call_parts}
use Rattle.rules.specs.State.{State, need}
use Rattle.rules.specs.Calls.{call, tail_call}
use Rattle.rules.specs.Step.{listed, count_of, landing_of}
use Rattle.rules.specs.Run.{after}
use Rattle.scheme_stands.specs.Words.{Spot, WordAt}
use Rattle.scheme_stands.specs.Lists.{CallAt, ResultRoom}
use Rattle.scheme_stands.specs.Relation.{related, given_rel}
use Rattle.agrees.proofs.NextRegister.{next_reg}
use Rattle.agrees.proofs.Registers.{high_get, row_keep}
use Rattle.agrees.proofs.Tasks.{Above, Simulates, scope}
use Rattle.agrees.proofs.Posts.{Keeps, keeps_on, Row, NextPost, CalledPost, fail_of}
use Rattle.agrees.proofs.Accounts.{Place, Now, Self, Goes, goes_done, goes_last, goes_then, goes_post, goes_weaken}
use Rattle.agrees.proofs.Sizes.{size_e, inner_args, inner_fields}
use Rattle.agrees.proofs.Words.{word_abc}
use Rattle.agrees.proofs.Picture.{code_of, Setup, Ghost, Site, raised, registers, pic, at, Ok}
use Rattle.agrees.proofs.ListRead.{adjusted_one, list_read}
use Rattle.agrees.proofs.ListOpen.{OpenPost, open_goes}

wanted : (want : Want) → count_of (count_field 1 want) ≡ want
wanted None = refl
wanted (Some n) = ap count_of (let q : n + 1 ≡ suc n = omega arith in q)

module _ (z : Setup) (self : Self) (ih : Simulates z self) where
  -- ## arguments

  pub arguments_goes : (args : Arguments) (s : SourceState) (o : Outside) (g : Ghost) (x : Site) (k free : ℕ) (p q : Spot) → Ok z s g x → Above x k free → inner_args args ≤ z.bound → (given_rel (code_of x.a) args).part x.a.active free p q → Goes z.bound self (fail_of z x) 0 (inner_args args) o (Now (at s o g x p.pc)) (OpenPost z x (given_rel (code_of x.a) args).count k free q.pc) (arguments args (scope x) s)
  arguments_goes (argument_list es) s o g x k free p q ok ab small w = open_goes z self ih es s o g x k free p q ok ab small w
  arguments_goes (text_argument t) s o g x k free p q ok ab small w =
      goes_post z.bound self (fail_of z x) 0 1 o _ (λ vs s1 o1 p1. NextPost z x k q.pc (first_of vs) s1 o1 p1 × (vs ≡ first_of vs ∷ [])) (OpenPost z x (Some 1) k free q.pc) _
      (λ vs s1 o1 p1 h. alone x k free q.pc vs s1 o1 p1 h.0 h.1)
      (goes_last z.bound self (fail_of z x) 0 1 o _ (text_item t) s _ (ih.texts t s o g x k free p q ok ab.is w.room w.value_at))
    where
      alone : (x : Site) (k free q : ℕ) (vs : List Datum) (s1 : SourceState) (o1 : Outside) (p1 : Place) → NextPost z x k q (first_of vs) s1 o1 p1 → vs ≡ first_of vs ∷ [] → OpenPost z x (Some 1) k free q vs s1 o1 p1
      alone x k free q vs s1 o1 p1 h e = record {
        list = record { g = h.g; high = h.high; keeps = h.keeps; held = (subst (Row h.high k) (sym (adjusted_one vs)) (h.has, tt), h.is); ok = h.ok };
        exact = λ n y. ap length e ∙ some_one n y;
      }
        where
          some_one : (n : ℕ) → Some 1 ≡ Some n → 1 ≡ n
          some_one n y = ap (λ u. elim u [ None ↦ 1 | Some i ↦ i ]) y
  arguments_goes (table_argument fs) s o g x k free p q ok ab small w =
      goes_post z.bound self (fail_of z x) 0 (suc (inner_fields fs)) o _ (λ vs s1 o1 p1. NextPost z x k q.pc (first_of vs) s1 o1 p1 × (vs ≡ first_of vs ∷ [])) (OpenPost z x (Some 1) k free q.pc) _
      (λ vs s1 o1 p1 h. alone x k free q.pc vs s1 o1 p1 h.0 h.1)
      (goes_last z.bound self (fail_of z x) 0 (suc (inner_fields fs)) o _ (table_item (scope x) fs) s _ (ih.tables fs s o g x k free p q ok ab.is small w))
    where
      alone : (x : Site) (k free q : ℕ) (vs : List Datum) (s1 : SourceState) (o1 : Outside) (p1 : Place) → NextPost z x k q (first_of vs) s1 o1 p1 → vs ≡ first_of vs ∷ [] → OpenPost z x (Some 1) k free q vs s1 o1 p1
      alone x k free q vs s1 o1 p1 h e = record {
        list = record { g = h.g; high = h.high; keeps = h.keeps; held = (subst (Row h.high k) (sym (adjusted_one vs)) (h.has, tt), h.is); ok = h.ok };
        exact = λ n y. ap length e ∙ some_one n y;
      }
        where
          some_one : (n : ℕ) → Some 1 ≡ Some n → 1 ≡ n
          some_one n y = ap (λ u. elim u [ None ↦ 1 | Some i ↦ i ]) y

  -- ## the word that calls

  -- the called value is in the register `free`, some arguments in those behind it, and the others behind these, or open
  pub called_word : (op : Op) (want count : Want) (x : Site) (high1 : List Datum) (s : SourceState) (o : Outside) (k free first more_n q0 : ℕ) (f : Datum) (us vs : List Datum) (p : Place) (last q : Spot) → free ≡ length x.a.slots + k → free < (own x.a.chunk).registers → first ≡ suc free + length us → more_n ≡ suc (length us) → first ≤ (own x.a.chunk).registers → Keeps k x.high high1 → slice_get high1 k ≡ Some f → Row high1 (suc k) us → OpenPost z (raised x high1) count (suc k + length us) first last.pc vs s o p → WordAt (code_of x.a) (Piece.Abc op free (count_field more_n count) (count_field 1 want)) last q → ResultRoom (code_of x.a) free want → CalledPost z x k free op want q.pc (f, us ++ vs) s o p
  called_word op want count x high1 s o k free first more_n q0 f us vs p last q fr room ef em fits kp there front h w results =
      let l = h.list in
      let x1 : Site = raised x l.high in
      let front1 : Row l.high (suc k) us = row_keep high1 l.high us (suc k) (suc k + length us) (omega arith) l.keeps.old front in
      let r = list_read z count x1 s o l.g last.pc (suc free) first (suc k) (suc k + length us) more_n us vs p l.ok (omega (arith, fr)) refl ef fits em front1 h.exact l.held in
      let m : State = pic s o l.g x1 last.pc (registers s.cells x.a l.high) r.0 in
      let m1 : State = pic s o l.g x1 (suc last.pc) (registers s.cells x.a l.high) r.0 in
      let func : slice_get (registers s.cells x.a l.high) free ≡ Some f = high_get s.cells x.a l.high free k fr ∙ l.keeps.old k (omega arith) ∙ there in
      record {
        g = l.g;
        high = l.high;
        keeps = keeps_on k (suc k + length us) x.high high1 l.high (omega arith) kp l.keeps;
        m = m;
        at_m = r.1;
        outside = refl;
        ok = l.ok;
        room = results;
        by_call = λ e.
            word_abc x.a Op.Call free (count_field more_n count) (count_field 1 want) last q m (subst (λ u. WordAt (code_of x.a) (Piece.Abc u free (count_field more_n count) (count_field 1 want)) last q) e w) refl refl
            ∙ ap (λ y. after m (need y (λ v. listed m1 (suc free) (count_of (count_field more_n count)) (λ m2 args. call (landing_of free (count_of (count_field 1 want))) m2 v args)))) func
            ∙ ap (after m) (r.2 (suc last.pc) (λ m2 args. call (landing_of free (count_of (count_field 1 want))) m2 f args))
            ∙ ap (λ c. after m (call (landing_of free c) (at s o l.g x1 (suc last.pc)) f (us ++ vs))) (wanted want)
            ∙ ap (λ pc. after m (call (landing_of free want) (at s o l.g x1 pc) f (us ++ vs))) (sym w.next);
        by_tail = λ e.
            word_abc x.a Op.TailCall free (count_field more_n count) (count_field 1 want) last q m (subst (λ u. WordAt (code_of x.a) (Piece.Abc u free (count_field more_n count) (count_field 1 want)) last q) e w) refl refl
            ∙ ap (λ y. after m (need y (λ v. listed m1 (suc free) (count_of (count_field more_n count)) (λ m2 args. tail_call free m2 v args)))) func
            ∙ ap (after m) (r.2 (suc last.pc) (λ m2 args. tail_call free m2 f args))
            ∙ ap (λ pc. after m (tail_call free (at s o l.g x1 pc) f (us ++ vs))) (sym w.next);
      }

  -- the called value and its arguments
  pub call_parts_goes : (line on_line : ℕ) (on : Expression) (args : Arguments) (s : SourceState) (o : Outside) (g : Ghost) (x : Site) (op : Op) (want : Want) (k free : ℕ) (p q : Spot) → Ok z s g x → Above x k free → size_e on + inner_args args ≤ z.bound → CallAt (code_of x.a) (related (code_of x.a) on) (given_rel (code_of x.a) args) x.a.active free op want p q → Goes z.bound self (fail_of z x) 0 (size_e on + inner_args args) o (Now (at s o g x p.pc)) (CalledPost z x k free op want q.pc) (call_parts (call_expression line on args on_line) (scope x) s)
  call_parts_goes line on_line on args s o g x op want k free p q ok ab small w =
      next_reg z self ih on s o g x k free p w.mid 0 (inner_args args) (CalledPost z x k free op want q.pc) _ ok ab.is (omega arith) w.room w.on_at
      (λ f s1 o1 g1 high kp ok1 there.
      goes_weaken z.bound self (fail_of z x) 0 (inner_args args + 0) 0 (inner_args args) o1 _ (CalledPost z x k free op want q.pc) _ (omega arith) (omega arith)
      (goes_then z.bound self (fail_of z x) 0 (inner_args args) 0 0 o1 _ (OpenPost z (raised x high) (given_rel (code_of x.a) args).count (suc k) (free + 1) w.last.pc) (CalledPost z x k free op want q.pc) (arguments args (scope x) s1) _
      (arguments_goes args s1 o1 g1 (raised x high) (suc k) (free + 1) w.mid w.last ok1 (record { is = (let e = ab.is in omega (arith, e)); within = (let r = w.room in omega (arith, r)) }) (omega arith) w.given_at)
      (λ vs s2 o2 p2 h.
      goes_done z.bound self (fail_of z x) 0 0 o2 p2 (CalledPost z x k free op want q.pc) (f, vs) s2
      (called_word op want (given_rel (code_of x.a) args).count x high s2 o2 k free (free + 1) 1 0 f [] vs p2 w.last q ab.is w.room (omega arith) refl (let r = w.room in omega (arith, r)) kp there tt
      (subst (λ i. OpenPost z (raised x high) (given_rel (code_of x.a) args).count i (free + 1) w.last.pc vs s2 o2 p2) (let e : suc k ≡ suc k + 0 = omega arith in e) h) w.word w.results))))
