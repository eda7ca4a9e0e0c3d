-- `local`, and the beginning of a generic `for`: values to the next registers, of which locals are made.
use Rattle.std.proofs.Common.{◌≡◌, ◌≤◌, ℕ, suc, ◌+◌, List, [], ◌∷◌, ◌++◌, length, Some, None, refl, sym, ap, ◌∙◌, subst, arith}
use Rattle.std.specs.Prelude.{slice_get, drop}
use Rattle.opcode.specs.declared.op.Op.{Op}
use Rattle.proto.specs.Chunk.{own}
use Rattle.lua_num.specs.Bytes.{Text}
use Rattle.lua_tree.specs.Syntax.{Expressions, Statements, local_statement, generic_for}
use Rattle.lua_model.specs.Datum.{Datum, nil, adjusted}
use Rattle.lua_model.specs.Store.{Outside}
use Rattle.source_meaning.specs.State.{State as SourceState, Flow, goes, declared}
use Rattle.source_meaning.specs.Programs.{done}
use Rattle.source_meaning.specs.Meaning.{execute, items, iterate, iterate_from}
use Rattle.rules.specs.State.{State}
use Rattle.rules.specs.Run.{after}
use Rattle.scheme_stands.specs.Statements.{GenericAt}
use Rattle.scheme_stands.specs.Relation.{StatementsAt, all_related}
use Rattle.agrees.proofs.Tasks.{StatementBy, IterWords, Simulates, Does, scope}
use Rattle.agrees.proofs.Posts.{fail_of, FlowPost, Row}
use Rattle.agrees.proofs.Accounts.{Now, Post, Self, Goes, goes_done, goes_weaken, goes_from, goes_word, goes_then}
use Rattle.agrees.proofs.Sizes.{inner_list, call_cost}
use Rattle.agrees.proofs.Words.{word_jump, jumps}
use Rattle.agrees.proofs.Picture.{code_of, Setup, Ghost, Site, raised, at, Ok}
use Rattle.agrees.proofs.LocalsBegin.{declares_all}
use Rattle.agrees.proofs.CallEnters.{activated_length}
use Rattle.agrees.proofs.LoopCount.{three_more}
use Rattle.agrees.proofs.LoopGeneric.{iterate_from_goes}
use Rattle.agrees.proofs.ListAdjusted.{adjust_goes}

-- a row from the first register above the locals on is what stands there
row_front : (high us : List Datum) → Row high 0 us → high ≡ us ++ drop (length us) high
row_front high us h = by high us 0 (λ i. ap (slice_get high) (let a : 0 + i ≡ i = omega arith in a)) h
  where
    by : (hs us : List Datum) (k : ℕ) → ((i : ℕ) → slice_get high (k + i) ≡ slice_get hs i) → Row high k us → hs ≡ us ++ drop (length us) hs
    by hs [] k e h = refl
    by [] (u ∷ us) k e h = let q : None ≡ Some u = sym (e 0) ∙ ap (slice_get high) (let a : k + 0 ≡ k = omega arith in a) ∙ h.0 in cc
    by (w ∷ hs) (u ∷ us) k e h =
        let q : Some w ≡ Some u = sym (e 0) ∙ ap (slice_get high) (let a : k + 0 ≡ k = omega arith in a) ∙ h.0 in
        let q1 : w ≡ u = ap (λ o. elim o [ None ↦ w | Some x ↦ x ]) q in
        ap (λ x. x ∷ hs) q1 ∙ ap (λ l. u ∷ l) (by hs us (suc k) (λ i. ap (slice_get high) (let a : suc k + i ≡ k + suc i = omega arith in a) ∙ e (suc i)) h.1)

-- three values
three_of : (vs : List Datum) → (v0 v1 v2 : Datum) × (adjusted 3 vs ≡ v0 ∷ v1 ∷ v2 ∷ [])
three_of [] = (nil, nil, nil, refl)
three_of (a ∷ []) = (a, nil, nil, refl)
three_of (a ∷ b ∷ []) = (a, b, nil, refl)
three_of (a ∷ b ∷ c ∷ vs) = (a, b, c, refl)

module _ (z : Setup) (self : Self) (ih : Simulates z self) where
  pub local_goes : (names : List Text) (es : Expressions) → StatementBy z (local_statement names es) (Does z self 1 (inner_list es) (λ x s. execute (local_statement names es) (scope x) s))
  local_goes names es s o g x around active1 p q ok out small w =
      let free = length x.a.active in
      let m = ok.acts.0.as_many in
      let r = ok.acts.1 in
      goes_from z.bound self (fail_of z x) 1 (inner_list es) o _ (Now (at s o g x w.mid.pc)) (FlowPost z x around active1 q.pc) _ (ap (λ pc. Now (at s o g x pc)) (sym w.same))
      (goes_weaken z.bound self (fail_of z x) 1 (inner_list es + 0) 1 (inner_list es) o _ (FlowPost z x around active1 q.pc) _ (omega arith) (omega arith)
      (goes_then z.bound self (fail_of z x) 1 (inner_list es) 0 0 o _ _ (FlowPost z x around active1 q.pc) (items es (scope x) s) (λ vs s1. let d = declared names vs x.a.own s1 in done (goes d.0) d.1)
      (adjust_goes z self ih es (length names) s o g x 0 free w.mid q ok (omega (arith, m)) (omega (arith, m, r)) (omega arith) w.values_at)
      (λ vs s1 o1 p1 h.
      let us = adjusted (length names) vs in
      let rest = drop (length us) h.high in
      let e : h.high ≡ us ++ rest = row_front h.high us h.row in
      let n = declares_all z names w.locals p.ahead w.mid.ahead active1 vs rest s1 h.g x.a x.below w.declared w.activated (subst (λ l. Ok z s1 h.g (raised x l)) e h.ok) in
      let d = declared names vs x.a.own s1 in
      goes_done z.bound self (fail_of z x) 0 0 o1 p1 (FlowPost z x around active1 q.pc) (goes d.0) d.1
      (record {
        a = n.a;
        g = n.g1;
        high = rest;
        grown = n.grown;
        names = n.names;
        actives = n.actives;
        is = h.is ∙ ap (λ l. Now (at s1 o1 h.g (raised x l) q.pc)) e ∙ ap Now (n.seen o1 q.pc None);
        ok = n.ok;
      }))))

  pub generic_goes : (names : List Text) (es : Expressions) (b : Statements) → StatementBy z (generic_for names es b) (Does z self 3 (inner_list es + suc call_cost) (λ x s. execute (generic_for names es b) (scope x) s))
  generic_goes names es b s o g x around active1 p q ok out small t =
      subst (λ l. Goes z.bound self (fail_of z x) 3 (inner_list es + suc call_cost) o (Now (at s o g x p.pc)) (FlowPost z x around l q.pc) (execute (generic_for names es b) (scope x) s)) (sym t.stays)
      (goes_from z.bound self (fail_of z x) 3 (inner_list es + suc call_cost) o _ (Now (at s o g x w.declared_by.pc)) P _ (ap (λ pc. Now (at s o g x pc)) (sym w.same))
      (goes_then z.bound self (fail_of z x) 1 (inner_list es) 2 (suc call_cost) o _ _ P (items es (scope x) s) (λ vs s1. iterate (adjusted 3 vs) (scope x) names b s1)
      (adjust_goes z self ih es 3 s o g x 0 (length x.a.active) w.declared_by w.valued ok (let m = ok.acts.0.as_many in omega (arith, m)) (let m = ok.acts.0.as_many in let r = ok.acts.1 in omega (arith, m, r)) (omega arith) w.values_at)
      (λ vs s1 o1 p1 h.
      let us = three_of vs in
      goes_from z.bound self (fail_of z x) 2 (suc call_cost) o1 p1 _ P _ h.is
      (subst (λ l. Goes z.bound self (fail_of z x) 2 (suc call_cost) o1 (Now (at s1 o1 h.g (raised x h.high) w.valued.pc)) P (iterate l (scope x) names b s1)) (sym us.3)
      (begin us.0 us.1 us.2 s1 o1 h.g h.high h.ok (subst (Row h.high 0) us.3 h.row))))))
    where
      w : GenericAt (code_of x.a) names (all_related (code_of x.a) es) (λ loop. StatementsAt (code_of x.a) loop b) x.a.active p q
      w = t.part_at

      P : Post Flow
      P = FlowPost z x around x.a.active q.pc

      words : IterWords x names b q
      words = record { some = w.some; variables = w.variables; around = w.around; before = p.ahead; behind = w.declared_by.ahead; begin = w.begin; loop = w.loop; again = w.again; declared = w.declared; hidden = w.hidden; turn_at = w.turn_at; call = w.call; back = w.back }

      begin : (v0 v1 v2 : Datum) (s1 : SourceState) (o1 : Outside) (g1 : Ghost) (high : List Datum) → Ok z s1 g1 (raised x high) → Row high 0 (v0 ∷ v1 ∷ v2 ∷ []) → Goes z.bound self (fail_of z x) 2 (suc call_cost) o1 (Now (at s1 o1 g1 (raised x high) w.valued.pc)) P (iterate_from (scope x) names v0 v1 v2 b s1)
      begin v0 v1 v2 s1 o1 g1 high ok1 row =
          let rest = drop 3 high in
          let e : high ≡ v0 ∷ v1 ∷ v2 ∷ rest = row_front high (v0 ∷ v1 ∷ v2 ∷ []) row in
          let x1 : Site = raised x (v0 ∷ v1 ∷ v2 ∷ rest) in
          let m1 : State = at s1 o1 g1 x1 w.valued.pc in
          let ok2 : Ok z s1 g1 (raised x (v0 ∷ v1 ∷ v2 ∷ rest)) = subst (λ l. Ok z s1 g1 (raised x l)) e ok1 in
          let h1 = w.hidden in
          let h2 = h1.2 in
          let h3 = h2.2 in
          let k : length x.a.slots + suc (suc (suc (length rest))) ≡ (own x.a.chunk).registers = ok2.acts.1 in
          let l : length w.turn_at.inner ≤ (own x.a.chunk).registers = w.turn_at.room in
          let u = activated_length names w.variables p.ahead w.declared_by.ahead w.around w.turn_at.inner w.declared w.turn_at.activated in
          let a : length w.around ≡ length x.a.active + 3 = ap length h3.2 ∙ three_more x.a.active h1.0 h2.0 h3.0 in
          let n = ok2.acts.0.as_many in
          goes_from z.bound self (fail_of z x) 2 (suc call_cost) o1 _ (Now m1) P _ (ap (λ hs. Now (at s1 o1 g1 (raised x hs) w.valued.pc)) e)
          (goes_word z.bound self (fail_of z x) 1 (suc call_cost) o1 m1 (at s1 o1 g1 x1 w.loop.pc) P _
          (word_jump x.a Op.Jmp 0 w.loop.pc w.valued w.begin m1 w.enter refl refl ∙ ap (after m1) (jumps (at s1 o1 g1 x1 (suc w.valued.pc)) w.valued.pc w.loop.pc refl))
          (iterate_from_goes z self ih names v0 v1 v2 b s1 o1 g1 x around rest q ok2 (omega (arith, k, l, u, a, n)) (omega arith) words))
