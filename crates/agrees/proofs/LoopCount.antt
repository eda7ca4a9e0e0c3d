-- Turns of a numeric `for`: the variable, the block, FORLOOP.
use Rattle.std.proofs.Common.{◌≡◌, ◌≤◌, ℕ, suc, ◌+◌, Bool, true, false, List, [], ◌∷◌, ◌++◌, map, length, Some, None, refl, sym, ap, ◌∙◌, subst, arith, length-append, ℤ, ◌+ℤ◌, ◌-ℤ◌, option_and_then}
use Rattle.std.specs.Prelude.{slice_get, slice_set, drop, ◌||◌}
use Rattle.opcode.specs.declared.op.Op.{Op}
use Rattle.opcode.specs.declared.word.Instr.{Instr}
use Rattle.proto.specs.Chunk.{own}
use Rattle.lua_tree.specs.Syntax.{Statements}
use Rattle.lua_num.specs.Bytes.{Text}
use Rattle.lua_num.specs.Arith.{wrap}
use Rattle.scheme.specs.Making.{any_captured}
use Rattle.scheme.specs.Functions.{distance}
use Rattle.scheme.specs.declared.making.Active.{Active}
use Rattle.scheme.specs.declared.making.Piece.{Piece}
use Rattle.lua_model.specs.Datum.{Datum, number}
use Rattle.lua_model.specs.Store.{Outside}
use Rattle.lua_model.specs.Operators.{LoopNumbers, counts, loop_numbers, goes_on}
use Rattle.source_meaning.specs.State.{State as SourceState, Flow, goes, breaks, returns, tail_calls, declared}
use Rattle.source_meaning.specs.Tasks.{block, count_test, count_turn}
use Rattle.source_meaning.specs.Programs.{Prog, done, ask}
use Rattle.source_meaning.specs.Meaning.{count_from, goes_on_at, behind_turn, block_with}
use Rattle.rules.specs.State.{State, Effect, need, with_registers, register}
use Rattle.rules.specs.Calls.{jump}
use Rattle.rules.specs.Run.{Going, step, after}
use Rattle.rules.specs.Step.{loop_number, number_of, turn_loop, prepare}
use Rattle.rules.specs.Step as rules
use Rattle.scheme_stands.specs.Words.{Spot, WordAt, instr_by}
use Rattle.scheme_stands.specs.Functions.{Activated}
use Rattle.scheme_stands.specs.Statements.{CloseAt}
use Rattle.agrees.proofs.Registers.{ok_high, set_above, high_get}
use Rattle.agrees.proofs.Tasks.{three, Simulates, scope, CountWords}
use Rattle.agrees.proofs.Posts.{Named, looped, fail_of, Around, FlowPost, AtPost, TailPost, Backs, Grown, keeps_self}
use Rattle.agrees.proofs.Accounts.{Place, Now, Post, Self, Goes, goes_done, goes_soon, goes_step, goes_paid, goes_ask, goes_last, goes_weaken, goes_from, goes_to}
use Rattle.agrees.proofs.Sizes.{size_b}
use Rattle.agrees.proofs.Words.{word_jump, jumps}
use Rattle.agrees.proofs.Picture.{code_of, Setup, holds, Act, Ghost, Site, raised, registers, slot_value, pic, at, Ok}
use Rattle.agrees.proofs.PictureApart.{add_hidden}
use Rattle.agrees.proofs.LocalsBegin.{grown_act, put, hides, declares_all, opened_as, grown_self, grown_on}
use Rattle.agrees.proofs.LocalsEnd.{named_of, ends, Ended}
use Rattle.agrees.proofs.CallEnters.{activated_length}

-- a number in a register
loop_number_at : (m : State) (r : ℕ) (n : ℤ) → slice_get m.top.registers r ≡ Some (number n) → loop_number m r ≡ Some n
loop_number_at m r n e = ap (λ o. option_and_then number_of o) e

module _ (z : Setup) (s : SourceState) (o : Outside) (g : Ghost) (x : Site) where
  -- FORPREP
  pub prep_word : (base l : ℕ) (v0 v1 v2 : Datum) (rest : List Datum) (p q : Spot) → base ≡ length x.a.slots → WordAt (code_of x.a) (Piece.Jump Op.ForPrep base l) p q → (n : LoopNumbers) → loop_numbers v0 v1 v2 ≡ n → (m : State) → m ≡ at s o g (raised x (v0 ∷ v1 ∷ v2 ∷ rest)) p.pc → step m ≡ after m (prepare (pic s o g (raised x (v0 ∷ v1 ∷ v2 ∷ rest)) (suc p.pc) (registers s.cells x.a (v0 ∷ v1 ∷ v2 ∷ rest)) None) (instr_by p.pc (Piece.Jump Op.ForPrep base l)) n)
  prep_word base l v0 v1 v2 rest p q e w n en m em =
      let i : Instr = instr_by p.pc (Piece.Jump Op.ForPrep base l) in
      let m0 : State = at s o g (raised x (v0 ∷ v1 ∷ v2 ∷ rest)) p.pc in
      let m1 : State = pic s o g (raised x (v0 ∷ v1 ∷ v2 ∷ rest)) (suc p.pc) (registers s.cells x.a (v0 ∷ v1 ∷ v2 ∷ rest)) None in
      subst (λ y. step y ≡ after y (prepare m1 i n)) (sym em)
      (word_jump x.a Op.ForPrep base l p q (at s o g (raised x (v0 ∷ v1 ∷ v2 ∷ rest)) p.pc) w refl refl
      ∙ ap (λ r. after m0 (need r (λ first. need (register m1 (base + 1)) (λ limit. need (register m1 (base + 2)) (λ by. prepare m1 i (loop_numbers first limit by)))))) (high_get s.cells x.a (v0 ∷ v1 ∷ v2 ∷ rest) base 0 (omega (arith, e)))
      ∙ ap (λ r. after m0 (need r (λ limit. need (register m1 (base + 2)) (λ by. prepare m1 i (loop_numbers v0 limit by))))) (high_get s.cells x.a (v0 ∷ v1 ∷ v2 ∷ rest) (base + 1) 1 (omega (arith, e)))
      ∙ ap (λ r. after m0 (need r (λ by. prepare m1 i (loop_numbers v0 v1 by)))) (high_get s.cells x.a (v0 ∷ v1 ∷ v2 ∷ rest) (base + 2) 2 (omega (arith, e)))
      ∙ ap (λ k. after m0 (prepare m1 i k)) en)

  three_set : (base : ℕ) (v0 v1 v2 : Datum) (rest : List Datum) (i l b : ℤ) → base ≡ length x.a.slots → rules.three (registers s.cells x.a (v0 ∷ v1 ∷ v2 ∷ rest)) base i l b ≡ registers s.cells x.a (three i l b rest)
  three_set base v0 v1 v2 rest i l b e =
      ap (λ rs. slice_set (slice_set rs (base + 1) (number l)) (base + 2) (number b)) (set_above s.cells x.a (v0 ∷ v1 ∷ v2 ∷ rest) base 0 (number i) (omega (arith, e)))
      ∙ ap (λ rs. slice_set rs (base + 2) (number b)) (set_above s.cells x.a (number i ∷ v1 ∷ v2 ∷ rest) (base + 1) 1 (number l) (omega (arith, e)))
      ∙ set_above s.cells x.a (number i ∷ number l ∷ v2 ∷ rest) (base + 2) 2 (number b) (omega (arith, e))

  -- it goes to FORLOOP, a step back
  pub prepared : (base l : ℕ) (v0 v1 v2 : Datum) (rest : List Datum) (p q : Spot) (i limit by : ℤ) → base ≡ length x.a.slots → WordAt (code_of x.a) (Piece.Jump Op.ForPrep base l) p q → loop_numbers v0 v1 v2 ≡ counts i limit by → step (at s o g (raised x (v0 ∷ v1 ∷ v2 ∷ rest)) p.pc) ≡ Going (at s o g (raised x (three (wrap (i -ℤ by)) limit by rest)) l)
  prepared base l v0 v1 v2 rest p q i limit by e w en =
      prep_word base l v0 v1 v2 rest p q e w (counts i limit by) en (at s o g (raised x (v0 ∷ v1 ∷ v2 ∷ rest)) p.pc) refl
      ∙ ap (after (at s o g (raised x (v0 ∷ v1 ∷ v2 ∷ rest)) p.pc)) (jumps (pic s o g (raised x (v0 ∷ v1 ∷ v2 ∷ rest)) (suc p.pc) (rules.three (registers s.cells x.a (v0 ∷ v1 ∷ v2 ∷ rest)) base (wrap (i -ℤ by)) limit by) None) p.pc l refl)
      ∙ ap (λ rs. Going (pic s o g (raised x (three (wrap (i -ℤ by)) limit by rest)) l rs None)) (three_set base v0 v1 v2 rest (wrap (i -ℤ by)) limit by e)

  -- FORLOOP, by its own test
  loop_word : (base l : ℕ) (j limit by : ℤ) (v : Datum) (rest : List Datum) (p q : Spot) → base ≡ length x.a.slots → WordAt (code_of x.a) (Piece.Jump Op.ForLoop base l) p q → (t : Bool) → goes_on (wrap (j +ℤ by)) limit by ≡ t → step (at s o g (raised x (three j limit by (v ∷ rest))) p.pc) ≡ after (at s o g (raised x (three j limit by (v ∷ rest))) p.pc) (turn_loop (pic s o g (raised x (three j limit by (v ∷ rest))) (suc p.pc) (registers s.cells x.a (three (wrap (j +ℤ by)) limit by (v ∷ rest))) None) (instr_by p.pc (Piece.Jump Op.ForLoop base l)) (wrap (j +ℤ by)) t)
  loop_word base l j limit by v rest p q e w t et =
      let i : Instr = instr_by p.pc (Piece.Jump Op.ForLoop base l) in
      let m0 : State = at s o g (raised x (three j limit by (v ∷ rest))) p.pc in
      let m1 : State = pic s o g (raised x (three j limit by (v ∷ rest))) (suc p.pc) (registers s.cells x.a (three j limit by (v ∷ rest))) None in
      let body : ℤ → ℤ → ℤ → Effect = λ n lim st. turn_loop (with_registers m1 (slice_set m1.top.registers base (number (wrap (n +ℤ st))))) i (wrap (n +ℤ st)) (goes_on (wrap (n +ℤ st)) lim st) in
      word_jump x.a Op.ForLoop base l p q (at s o g (raised x (three j limit by (v ∷ rest))) p.pc) w refl refl
      ∙ ap (λ r. after m0 (need r (λ n. need (loop_number m1 (base + 1)) (λ lim. need (loop_number m1 (base + 2)) (λ st. body n lim st))))) (loop_number_at m1 base j (high_get s.cells x.a (three j limit by (v ∷ rest)) base 0 (omega (arith, e))))
      ∙ ap (λ r. after m0 (need r (λ lim. need (loop_number m1 (base + 2)) (λ st. body j lim st)))) (loop_number_at m1 (base + 1) limit (high_get s.cells x.a (three j limit by (v ∷ rest)) (base + 1) 1 (omega (arith, e))))
      ∙ ap (λ r. after m0 (need r (λ st. body j limit st))) (loop_number_at m1 (base + 2) by (high_get s.cells x.a (three j limit by (v ∷ rest)) (base + 2) 2 (omega (arith, e))))
      ∙ ap (λ rs. after m0 (turn_loop (pic s o g (raised x (three j limit by (v ∷ rest))) (suc p.pc) rs None) i (wrap (j +ℤ by)) (goes_on (wrap (j +ℤ by)) limit by))) (set_above s.cells x.a (three j limit by (v ∷ rest)) base 0 (number (wrap (j +ℤ by))) (omega (arith, e)))
      ∙ ap (λ b. after m0 (turn_loop (pic s o g (raised x (three j limit by (v ∷ rest))) (suc p.pc) (registers s.cells x.a (three (wrap (j +ℤ by)) limit by (v ∷ rest))) None) i (wrap (j +ℤ by)) b)) et

  pub loops : (base l : ℕ) (j limit by : ℤ) (v : Datum) (rest : List Datum) (p q : Spot) → base ≡ length x.a.slots → WordAt (code_of x.a) (Piece.Jump Op.ForLoop base l) p q → goes_on (wrap (j +ℤ by)) limit by ≡ true → step (at s o g (raised x (three j limit by (v ∷ rest))) p.pc) ≡ Going (at s o g (raised x (three (wrap (j +ℤ by)) limit by (number (wrap (j +ℤ by)) ∷ rest))) l)
  loops base l j limit by v rest p q e w et =
      let m0 : State = at s o g (raised x (three j limit by (v ∷ rest))) p.pc in
      loop_word base l j limit by v rest p q e w true et
      ∙ ap (λ r. after m0 (need r (λ old. jump (pic s o g (raised x (three j limit by (v ∷ rest))) (suc p.pc) (slice_set (registers s.cells x.a (three (wrap (j +ℤ by)) limit by (v ∷ rest))) (base + 3) (number (wrap (j +ℤ by)))) None) (distance p.pc l)))) (high_get s.cells x.a (three (wrap (j +ℤ by)) limit by (v ∷ rest)) (base + 3) 3 (omega (arith, e)))
      ∙ ap (after m0) (jumps (pic s o g (raised x (three j limit by (v ∷ rest))) (suc p.pc) (slice_set (registers s.cells x.a (three (wrap (j +ℤ by)) limit by (v ∷ rest))) (base + 3) (number (wrap (j +ℤ by)))) None) p.pc l refl)
      ∙ ap (λ rs. Going (pic s o g x l rs None)) (set_above s.cells x.a (three (wrap (j +ℤ by)) limit by (v ∷ rest)) (base + 3) 3 (number (wrap (j +ℤ by))) (omega (arith, e)))

  pub loop_ends : (base l : ℕ) (j limit by : ℤ) (v : Datum) (rest : List Datum) (p q : Spot) → base ≡ length x.a.slots → WordAt (code_of x.a) (Piece.Jump Op.ForLoop base l) p q → goes_on (wrap (j +ℤ by)) limit by ≡ false → step (at s o g (raised x (three j limit by (v ∷ rest))) p.pc) ≡ Going (at s o g (raised x (three (wrap (j +ℤ by)) limit by (v ∷ rest))) q.pc)
  loop_ends base l j limit by v rest p q e w et =
      loop_word base l j limit by v rest p q e w false et
      ∙ ap (λ pc. Going (at s o g (raised x (three (wrap (j +ℤ by)) limit by (v ∷ rest))) pc)) (sym w.next)

-- ## what follows a block or a loop's turn

-- results and failures of a frame are the same for all acts of one call
pub same_call : (z : Setup) (x : Site) (b : Act) (high : List Datum) → Grown x.a b → (f : Datum) (vs : List Datum) (s : SourceState) (o : Outside) (p : Place) → TailPost z (put b x.below high) f vs s o p → TailPost z x f vs s o p
same_call z x b high w f vs s o p h = record {
  m = h.m;
  at_m = h.at_m;
  outside = h.outside;
  y = h.y;
  same_landing = h.same_landing ∙ ap (λ a. a.landing) w.is;
  same_protections = h.same_protections ∙ ap (λ a. a.protections) w.is;
  same_below = h.same_below;
  g = h.g;
  ok = h.ok;
  pc = h.pc;
  base = h.base;
  behind = h.behind;
  last = h.last;
  at_behind = h.at_behind;
  back = h.back;
  is = h.is;
}

pub same_backs : (z : Setup) (x : Site) (b : Act) (high : List Datum) → Grown x.a b → (vs : List Datum) (s : SourceState) (o : Outside) (p : Place) → Backs z b.landing b.protections x.below vs s o p → Backs z x.a.landing x.a.protections x.below vs s o p
same_backs z x b high w vs s o p h = subst (λ l. Backs z l x.a.protections x.below vs s o p) (ap (λ a. a.landing) w.is) (subst (λ q. Backs z b.landing q x.below vs s o p) (ap (λ a. a.protections) w.is) h)

-- a loop is left behind its words
pub leaves_loop : (z : Setup) (x : Site) (around : Around) (q : ℕ) (s : SourceState) (o : Outside) (p : Place) (high : List Datum) → AtPost z (put x.a x.below high) 0 q s o p → FlowPost z x around x.a.active q (goes x.a.own) s o p
leaves_loop z x around q s o p high h = record { a = x.a; g = h.g; high = h.high; grown = grown_self x.a; names = refl; actives = refl; is = h.is; ok = h.ok }

-- the three hidden locals
abbrev pub hidden_grown : (a : Act) (v0 v1 v2 : Datum) (x0 x1 x2 : Active) → Grown a (add_hidden (add_hidden (add_hidden a v0 x0) v1 x1) v2 x2)
hidden_grown a v0 v1 v2 x0 x1 x2 =
    grown_on a (add_hidden (add_hidden a v0 x0) v1 x1) (add_hidden (add_hidden (add_hidden a v0 x0) v1 x1) v2 x2)
    (grown_on a (add_hidden a v0 x0) (add_hidden (add_hidden a v0 x0) v1 x1) (record { active = x0 ∷ []; slots = holds v0 ∷ []; env = a.own; is = refl }) (record { active = x1 ∷ []; slots = holds v1 ∷ []; env = a.own; is = refl }))
    (record { active = x2 ∷ []; slots = holds v2 ∷ []; env = a.own; is = refl })

drop_hidden : (xs : List Active) (x0 x1 x2 : Active) → drop (length xs) (((xs ++ x0 ∷ []) ++ x1 ∷ []) ++ x2 ∷ []) ≡ x0 ∷ x1 ∷ x2 ∷ []
drop_hidden [] x0 x1 x2 = refl
drop_hidden (y ∷ xs) x0 x1 x2 = drop_hidden xs x0 x1 x2

pub three_more : (xs : List Active) (x0 x1 x2 : Active) → length (((xs ++ x0 ∷ []) ++ x1 ∷ []) ++ x2 ∷ []) ≡ length xs + 3
three_more xs x0 x1 x2 = omega (arith, length-append ((xs ++ x0 ∷ []) ++ x1 ∷ []) (x2 ∷ []), length-append (xs ++ x0 ∷ []) (x1 ∷ []), length-append xs (x0 ∷ []))

-- they are never captured
pub uncaptured : (a : Act) (v0 v1 v2 : Datum) (x0 x1 x2 : Active) → x0.local.captured ≡ false → x1.local.captured ≡ false → x2.local.captured ≡ false → any_captured (drop (length a.active) (add_hidden (add_hidden (add_hidden a v0 x0) v1 x1) v2 x2).active) ≡ false
uncaptured a v0 v1 v2 x0 x1 x2 e0 e1 e2 =
    ap any_captured (drop_hidden a.active x0 x1 x2)
    ∙ ap (λ b. b || (x1.local.captured || (x2.local.captured || false))) e0 ∙ ap (λ b. b || (x2.local.captured || false)) e1 ∙ ap (λ b. b || false) e2

module _ (z : Setup) (self : Self) (ih : Simulates z self) where
  abbrev pub turn_size : Statements → ℕ
  turn_size body = suc (suc (size_b body))

  -- from FORLOOP on
  pub count_from_goes : (name : Text) (j i limit by : ℤ) (body : Statements) (s : SourceState) (o : Outside) (g : Ghost) (x : Site) (around : Around) (v : Datum) (rest : List Datum) (q : Spot) → wrap (j +ℤ by) ≡ i → Ok z s g (raised x (three j limit by (v ∷ rest))) → turn_size body ≤ z.bound → (w : CountWords x name body q) → Goes z.bound self (fail_of z x) 1 1 o (Now (at s o g (raised x (three j limit by (v ∷ rest))) w.loop.pc)) (FlowPost z x around x.a.active q.pc) (count_from (scope x) name i limit by body s)
  count_from_goes name j i limit by body s o g x around v rest q ei ok small w =
      subst (λ n. Goes z.bound self (fail_of z x) 1 1 o (Now m) (FlowPost z x around x.a.active q.pc) (count_from (scope x) name n limit by body s)) ei
      (goes_ask z.bound self (fail_of z x) 1 1 0 o (Now m) (count_test (wrap (j +ℤ by)) limit by) s _ (FlowPost z x around x.a.active q.pc) _
      (ih.counts (wrap (j +ℤ by)) limit by s o x.a.landing x.a.protections x.below (Now m) refl)
      (λ t s1 o1 p1 h.
      subst (λ p2. Goes z.bound self (fail_of z x) 1 0 o1 p2 (FlowPost z x around x.a.active q.pc) (go t s1)) (sym h.3)
      (subst (λ o2. Goes z.bound self (fail_of z x) 1 0 o2 (Now m) (FlowPost z x around x.a.active q.pc) (go t s1)) (sym h.2)
      (subst (λ s2. Goes z.bound self (fail_of z x) 1 0 o (Now m) (FlowPost z x around x.a.active q.pc) (go t s2)) (sym h.1)
      (decide t h.0)))))
    where
      m : State
      m = at s o g (raised x (three j limit by (v ∷ rest))) w.loop.pc

      go : Bool → SourceState → Prog Flow
      go t s1 = elim t [ true ↦ ask (count_turn (scope x) name (wrap (j +ℤ by)) limit by body) s1 done | false ↦ goes_on_at (scope x) s1 ]

      base : length x.a.active ≡ length x.a.slots
      base = ok.acts.0.as_many

      decide : (t : Bool) → t ≡ goes_on (wrap (j +ℤ by)) limit by → Goes z.bound self (fail_of z x) 1 0 o (Now (at s o g (raised x (three j limit by (v ∷ rest))) w.loop.pc)) (FlowPost z x around x.a.active q.pc) (elim t [ true ↦ ask (count_turn (scope x) name (wrap (j +ℤ by)) limit by body) s done | false ↦ goes_on_at (scope x) s ])
      decide true e =
          goes_soon z.bound self (fail_of z x) 0 0 o _ (FlowPost z x around x.a.active q.pc) _
          (goes_paid z.bound self (fail_of z x) 0 (turn_size body) o _ (at s o g (raised x (three (wrap (j +ℤ by)) limit by (number (wrap (j +ℤ by)) ∷ rest))) w.begin.pc) (FlowPost z x around x.a.active q.pc) _ (loops z s o g x (length x.a.active) w.begin.pc j limit by v rest w.loop q base w.back (sym e)) small
          (goes_last z.bound self (fail_of z x) 0 (turn_size body) o _ (count_turn (scope x) name (wrap (j +ℤ by)) limit by body) s (FlowPost z x around x.a.active q.pc)
          (ih.count_turns name (wrap (j +ℤ by)) limit by body s o g x around rest q (ok_high z s g x (three j limit by (v ∷ rest)) (three (wrap (j +ℤ by)) limit by (number (wrap (j +ℤ by)) ∷ rest)) refl ok) small w)))
      decide false e =
          let high = three (wrap (j +ℤ by)) limit by (v ∷ rest) in
          let m1 = at s o g (raised x high) q.pc in
          goes_soon z.bound self (fail_of z x) 0 0 o _ (FlowPost z x around x.a.active q.pc) _
          (goes_step z.bound self (fail_of z x) 0 0 o _ m1 (FlowPost z x around x.a.active q.pc) _ (loop_ends z s o g x (length x.a.active) w.begin.pc j limit by v rest w.loop q base w.back (sym e))
          (goes_done z.bound self (fail_of z x) 0 0 o (Now m1) (FlowPost z x around x.a.active q.pc) (goes x.a.own) s
          (leaves_loop z x around q.pc s o (Now m1) high (record { g = g; high = high; keeps = keeps_self 0 high; is = refl; ok = ok_high z s g x (three j limit by (v ∷ rest)) high refl ok }))))

  -- behind the block of a turn
  finish : (name : Text) (i limit by : ℤ) (body : Statements) (s : SourceState) (o : Outside) (g : Ghost) (x : Site) (around : Around) (high : List Datum) (q : Spot) → Ok z s g (raised x (three i limit by high)) → 1 ≤ length high → turn_size body ≤ z.bound → (w : CountWords x name body q) → Goes z.bound self (fail_of z x) 1 1 o (Now (at s o g (raised x (three i limit by high)) w.loop.pc)) (FlowPost z x around x.a.active q.pc) (count_from (scope x) name (wrap (i +ℤ by)) limit by body s)
  finish name i limit by body s o g x around [] q ok some small w = absurd (omega (arith, some))
  finish name i limit by body s o g x around (v ∷ rest) q ok some small w = count_from_goes name i (wrap (i +ℤ by)) limit by body s o g x around v rest q refl ok small w

  behind : (name : Text) (i limit by : ℤ) (body : Statements) (x : Site) (around : Around) (rest : List Datum) (q : Spot) → turn_size body ≤ z.bound → (w : CountWords x name body q) → (a3 a4 : Act) (g03 : Grown x.a a3) (g34 : Grown a3 a4) → w.around ≡ a3.active → a4.active ≡ w.turn_at.inner → ((cells : List Datum) → map (slot_value cells) g03.slots ≡ number i ∷ number limit ∷ number by ∷ []) → length a3.active ≡ length x.a.active + 3 → any_captured (drop (length x.a.active) a3.active) ≡ false → (named : Named x.a) → Named a3 → Named a4 → (f : Flow) (s1 : SourceState) (o1 : Outside) (p1 : Place) → FlowPost z (put a4 x.below rest) (looped q.pc x.a named) w.turn_at.block_at.inner w.turn_at.block_at.mid.pc f s1 o1 p1 → Goes z.bound self (fail_of z x) 4 1 o1 p1 (FlowPost z x around x.a.active q.pc) (behind_turn (scope x) f s1 (λ env. count_from (scope x) name (wrap (i +ℤ by)) limit by body s1))
  behind name i limit by body x around rest q small w a3 a4 g03 g34 ea e4 eh el eu n0 n3 n4 (goes env) s1 o1 p1 h =
      let t = w.turn_at in
      let P : Post Flow = FlowPost z x around x.a.active q.pc in
      let prog : Prog Flow = count_from (scope x) name (wrap (i +ℤ by)) limit by body s1 in
      goes_from z.bound self (fail_of z x) 4 1 o1 p1 _ P prog h.is
      (goes_to z.bound self (fail_of z x) 1 3 1 o1 _ (Ended z s1 o1 a4 x.below (map (slot_value s1.cells) h.grown.slots ++ h.high) t.mid.pc) P prog
      (λ n. ends z s1 o1 h.g a4 h.a h.grown h.high x.below t.block_at.mid t.mid n n4 h.ok (close1 h.a.active h.actives))
      (λ p2 e1. goes_from z.bound self (fail_of z x) 3 1 o1 p2 _ P prog e1.is
      (goes_to z.bound self (fail_of z x) 1 2 1 o1 _ (Ended z s1 o1 a3 x.below (map (slot_value s1.cells) g34.slots ++ (map (slot_value s1.cells) h.grown.slots ++ h.high)) w.loop.pc) P prog
      (λ n. ends z s1 o1 e1.g a3 a4 g34 (map (slot_value s1.cells) h.grown.slots ++ h.high) x.below t.mid w.loop n n3 e1.ok close2)
      (λ p3 e2. goes_from z.bound self (fail_of z x) 2 1 o1 p3 _ P prog e2.is
      (goes_to z.bound self (fail_of z x) 1 1 1 o1 _ (Ended z s1 o1 x.a x.below (map (slot_value s1.cells) g03.slots ++ (map (slot_value s1.cells) g34.slots ++ (map (slot_value s1.cells) h.grown.slots ++ h.high))) w.loop.pc) P prog
      (λ n. ends z s1 o1 e2.g x.a a3 g03 (map (slot_value s1.cells) g34.slots ++ (map (slot_value s1.cells) h.grown.slots ++ h.high)) x.below w.loop w.loop n n0 e2.ok close3)
      (λ p4 e3.
      let high = map (slot_value s1.cells) g34.slots ++ (map (slot_value s1.cells) h.grown.slots ++ h.high) in
      let e : map (slot_value s1.cells) g03.slots ++ high ≡ three i limit by high = ap (λ l. l ++ high) (eh s1.cells) in
      goes_from z.bound self (fail_of z x) 1 1 o1 p4 _ P prog (e3.is ∙ ap (λ l. Now (at s1 o1 e3.g (raised x l) w.loop.pc)) e)
      (finish name i limit by body s1 o1 e3.g x around high q (subst (λ l. Ok z s1 e3.g (raised x l)) e e3.ok) (room e3.g high (subst (λ l. Ok z s1 e3.g (raised x l)) e e3.ok)) small w)))))))
    where
      code3 : code_of a3 ≡ code_of x.a
      code3 = ap (λ a. code_of a) g03.is

      code4 : code_of a4 ≡ code_of x.a
      code4 = ap (λ a. code_of a) g34.is ∙ ap (λ a. code_of a) g03.is

      close1 : (active : List Active) → active ≡ w.turn_at.block_at.inner → CloseAt (any_captured (drop (length a4.active) active)) (code_of a4) (length a4.active) w.turn_at.block_at.mid w.turn_at.mid
      close1 active e =
          subst (λ c. CloseAt (any_captured (drop (length a4.active) active)) c (length a4.active) w.turn_at.block_at.mid w.turn_at.mid) (sym code4)
          (subst (λ l. CloseAt (any_captured (drop (length l) active)) (code_of x.a) (length l) w.turn_at.block_at.mid w.turn_at.mid) (sym e4)
          (subst (λ l. CloseAt (any_captured (drop (length w.turn_at.inner) l)) (code_of x.a) (length w.turn_at.inner) w.turn_at.block_at.mid w.turn_at.mid) (sym e) w.turn_at.block_at.close))

      close2 : CloseAt (any_captured (drop (length a3.active) a4.active)) (code_of a3) (length a3.active) w.turn_at.mid w.loop
      close2 =
          subst (λ c. CloseAt (any_captured (drop (length a3.active) a4.active)) c (length a3.active) w.turn_at.mid w.loop) (sym code3)
          (subst (λ l. CloseAt (any_captured (drop (length a3.active) l)) (code_of x.a) (length a3.active) w.turn_at.mid w.loop) (sym e4)
          (subst (λ l. CloseAt (any_captured (drop (length l) w.turn_at.inner)) (code_of x.a) (length l) w.turn_at.mid w.loop) ea w.turn_at.close))

      close3 : CloseAt (any_captured (drop (length x.a.active) a3.active)) (code_of x.a) (length x.a.active) w.loop w.loop
      close3 = subst (λ b. CloseAt b (code_of x.a) (length x.a.active) w.loop w.loop) (sym eu) (record { pc = refl; ahead = refl; functions = refl })

      room : (g1 : Ghost) (high : List Datum) → Ok z s1 g1 (raised x (three i limit by high)) → 1 ≤ length high
      room g1 high ok =
          let k : length x.a.slots + suc (suc (suc (length high))) ≡ (own x.a.chunk).registers = ok.acts.1 in
          let l : length w.turn_at.inner ≤ (own x.a.chunk).registers = w.turn_at.room in
          let u = activated_length (name ∷ []) w.variables w.before w.behind w.around w.turn_at.inner w.declared w.turn_at.activated in
          let m : length w.around ≡ length a3.active = ap length ea in
          let n = n0.as_many in
          omega (arith, k, l, u, m, n, el)
  behind name i limit by body x around rest q small w a3 a4 g03 g34 ea e4 eh el eu n0 n3 n4 breaks s1 o1 p1 h =
      goes_done z.bound self (fail_of z x) 4 1 o1 p1 (FlowPost z x around x.a.active q.pc) (goes x.a.own) s1 (leaves_loop z x around q.pc s1 o1 p1 h.0 h.1)
  behind name i limit by body x around rest q small w a3 a4 g03 g34 ea e4 eh el eu n0 n3 n4 (returns vs) s1 o1 p1 h =
      goes_done z.bound self (fail_of z x) 4 1 o1 p1 (FlowPost z x around x.a.active q.pc) (returns vs) s1 (same_backs z x a4 rest (grown_on x.a a3 a4 g03 g34) vs s1 o1 p1 h)
  behind name i limit by body x around rest q small w a3 a4 g03 g34 ea e4 eh el eu n0 n3 n4 (tail_calls f vs) s1 o1 p1 h =
      goes_done z.bound self (fail_of z x) 4 1 o1 p1 (FlowPost z x around x.a.active q.pc) (tail_calls f vs) s1 (same_call z x a4 rest (grown_on x.a a3 a4 g03 g34) f vs s1 o1 p1 h)

  pub count_turn_goes : (name : Text) (i limit by : ℤ) (body : Statements) (s : SourceState) (o : Outside) (g : Ghost) (x : Site) (around : Around) (rest : List Datum) (q : Spot) → Ok z s g (raised x (three i limit by (number i ∷ rest))) → turn_size body ≤ z.bound → (w : CountWords x name body q) → Goes z.bound self (fail_of z x) 4 (suc (size_b body)) o (Now (at s o g (raised x (three i limit by (number i ∷ rest))) w.begin.pc)) (FlowPost z x around x.a.active q.pc) (block_with (scope x) (name ∷ []) (number i ∷ []) body s (λ f s1. behind_turn (scope x) f s1 (λ env. count_from (scope x) name (wrap (i +ℤ by)) limit by body s1)))
  count_turn_goes name i limit by body s o g x around rest q ok small w =
      let h1 = w.hidden in
      let h2 = h1.2 in
      let h3 = h2.2 in
      let a1 : Act = add_hidden x.a (number i) h1.0 in
      let a2 : Act = add_hidden a1 (number limit) h2.0 in
      let a3 : Act = add_hidden a2 (number by) h3.0 in
      let o1 = hides z s g x.a x.below h1.0 (number i) (number limit ∷ number by ∷ number i ∷ rest) (ap (λ l. l.declaration) h1.1) ok in
      let o2 = hides z s g a1 x.below h2.0 (number limit) (number by ∷ number i ∷ rest) (ap (λ l. l.declaration) h2.1) o1.0 in
      let o3 = hides z s g a2 x.below h3.0 (number by) (number i ∷ rest) (ap (λ l. l.declaration) h3.1) o2.0 in
      let t = w.turn_at in
      let d = declared (name ∷ []) (number i ∷ []) x.a.own s in
      let o4 = opened_as z s g (put a3 x.below (number i ∷ rest)) d.0 d.1 t.inner rest (declares_all z (name ∷ []) w.variables w.before w.behind t.inner (number i ∷ []) rest s g a3 x.below w.declared (subst (λ l. Activated w.variables l t.inner) h3.2 t.activated) o3.0) in
      let a4 : Act = grown_act a3 d.0 t.inner (a3.slots ++ o4.slots) in
      let x4 : Site = put a4 x.below rest in
      let g34 : Grown a3 a4 = record { active = o4.more; slots = o4.slots; env = d.0; is = ap (λ l. grown_act a3 d.0 l (a3.slots ++ o4.slots)) o4.is_more } in
      let g03 : Grown x.a a3 = hidden_grown x.a (number i) (number limit) (number by) h1.0 h2.0 h3.0 in
      let y4 : Around = looped q.pc x.a (named_of z s g (raised x (three i limit by (number i ∷ rest))) ok) in
      let begin_at : at s o g (raised x (three i limit by (number i ∷ rest))) w.begin.pc ≡ at d.1 o o4.g1 x4 w.begin.pc = o1.1 o w.begin.pc None ∙ o2.1 o w.begin.pc None ∙ o3.1 o w.begin.pc None ∙ o4.seen o w.begin.pc None in
      goes_from z.bound self (fail_of z x) 4 (suc (size_b body)) o _ (Now (at d.1 o o4.g1 x4 w.begin.pc)) (FlowPost z x around x.a.active q.pc) _ (ap Now begin_at)
      (goes_weaken z.bound self (fail_of z x) 4 (size_b body + 1) 4 (suc (size_b body)) o _ (FlowPost z x around x.a.active q.pc) _ (omega arith) (omega arith)
      (goes_ask z.bound self (fail_of z x) (size_b body) 4 1 o (Now (at d.1 o o4.g1 x4 w.begin.pc)) (block (scope x4) body) d.1 (FlowPost z x4 y4 t.block_at.inner t.block_at.mid.pc) (FlowPost z x around x.a.active q.pc) _
      (ih.blocks body d.1 o o4.g1 x4 y4 t.block_at.inner w.begin t.block_at.mid o4.ok (grown_on x.a a3 a4 g03 g34) (omega arith) t.block_at.body_at)
      (λ f s1 o1 p1 h. behind name i limit by body x around rest q small w a3 a4 g03 g34 h3.2 refl (λ cells. refl) (three_more x.a.active h1.0 h2.0 h3.0) (uncaptured x.a (number i) (number limit) (number by) h1.0 h2.0 h3.0 (ap (λ l. l.captured) h1.1) (ap (λ l. l.captured) h2.1) (ap (λ l. l.captured) h3.1)) (named_of z s g (raised x (three i limit by (number i ∷ rest))) ok) (named_of z s g (put a3 x.below (number i ∷ rest)) o3.0) (named_of z d.1 o4.g1 x4 o4.ok) f s1 o1 p1 h)))
