-- The results of a call come to registers or stay open; and so do the values of `...`.
use Rattle.std.proofs.Common.{◌≡◌, ℕ, suc, ◌+◌, true, inl, List, [], ◌∷◌, map, length, Some, None, refl, sym, ap, ◌∙◌, subst, arith, length-append}
use Rattle.opcode.specs.declared.op.Op.{Op}
use Rattle.lua_tree.specs.Syntax.{Expression, nil_literal, true_literal, false_literal, vararg_expression, number_literal, text_literal, name_expression, function_expression, index_expression, field_expression, call_expression, method_call, and_expression, or_expression, binary_expression, unary_expression, constructor, parenthesized}
use Rattle.scheme.specs.Expressions.{Want, count_field}
use Rattle.scheme.specs.declared.making.Piece.{Piece}
use Rattle.lua_model.specs.Datum.{Datum, adjusted}
use Rattle.lua_model.specs.Store.{Outside}
use Rattle.lua_model.specs.Endings.{IsPrefix}
use Rattle.source_meaning.specs.State.{State as SourceState}
use Rattle.source_meaning.specs.Tasks.{call, called, expression}
use Rattle.source_meaning.specs.Programs.{done, and_then, spend, run}
use Rattle.source_meaning.specs.Meaning.{call_parts, evaluate, deeper, program}
use Rattle.rules.specs.State.{State, Goes as Going_on, with_registers, check, spliced, set_all, with_results}
use Rattle.rules.specs.Calls.{land}
use Rattle.rules.specs.Step.{landing_of, count_of}
use Rattle.rules.specs.Run.{Going, step, after}
use Rattle.rules.proofs.Lists.{length-adjusted}
use Rattle.scheme_stands.specs.Words.{Spot, WordAt}
use Rattle.scheme_stands.specs.Lists.{ResultRoom}
use Rattle.agrees.proofs.Registers.{ok_high, has_rows}
use Rattle.agrees.proofs.Tasks.{MultiBy, PartsBy, inner_parts, Simulates, Asked, Does, scope}
use Rattle.agrees.proofs.Posts.{Keeps, keeps_self, keeps_on, Backs, fail_of, ListPost, CalledPost}
use Rattle.agrees.proofs.Lists.{length_map}
use Rattle.lua_tree.specs.WellFormed.{is_call}
use Rattle.agrees.proofs.Accounts.{Place, Now, Soon, Self, Goes, goes_done, goes_ask, goes_weaken, goes_from, goes_soon, goes_step, goes_then, by_tick, prefix_self}
use Rattle.agrees.proofs.Sizes.{size_e, inner, call_cost}
use Rattle.agrees.proofs.Words.{word_abc}
use Rattle.agrees.proofs.Picture.{code_of, Setup, Ghost, Site, raised, registers, slot_value, pic, at, waits, Ok}
use Rattle.agrees.proofs.PictureChanges.{fine_waiter}
use Rattle.agrees.proofs.LoopGeneric.{spliced_above}
use Rattle.agrees.proofs.ListAdjusted.{spliced_length, spliced_old, spliced_row}

module _ (z : Setup) (self : Self) (ih : Simulates z self) where
  -- the next step lands results
  pub results_land : (want : Want) (k free q : ℕ) (vs : List Datum) (s : SourceState) (o : Outside) (g : Ghost) (x : Site) (high : List Datum) (m : State) → Ok z s g (raised x high) → Keeps k x.high high → free ≡ length x.a.slots + k → ResultRoom (code_of x.a) free want → step m ≡ after m (land (landing_of free want) (at s o g (raised x high) q) vs) → Goes z.bound self (fail_of z x) 0 0 o (Soon m) (ListPost z x want k free q) (done vs s)
  results_land None k free q vs s o g x high m ok kp fr room e =
      goes_step z.bound self (fail_of z x) 0 0 o m (pic s o g (raised x high) q (registers s.cells x.a high) (Some (record { first = free; values = vs }))) (ListPost z x None k free q) (done vs s) e
      (goes_done z.bound self (fail_of z x) 0 0 o _ (ListPost z x None k free q) vs s
      (record { g = g; high = high; keeps = kp; held = ([], vs, tt, refl, ap (λ n. Now (pic s o g (raised x high) q (registers s.cells x.a high) (Some (record { first = n; values = vs })))) (let a : free ≡ free + 0 = omega arith in a)); ok = ok }))
  results_land (Some n) k free q vs s o g x high m ok kp fr room e =
      let us : List Datum = adjusted n vs in
      let m1 : State = at s o g (raised x high) q in
      let high1 : List Datum = spliced high k us in
      let l = length-adjusted n vs in
      let r = ok.acts.1 in
      goes_step z.bound self (fail_of z x) 0 0 o m (at s o g (raised x high1) q) (ListPost z x (Some n) k free q) (done vs s)
      (e
      ∙ ap (λ b. after m (check b (Going_on (with_registers m1 (spliced m1.top.registers free us))))) (has_rows m1 free (length us) (let h = length-append (map (slot_value s.cells) x.a.slots) high in let h1 = length_map (slot_value s.cells) x.a.slots in omega (arith, l, r, h, h1, room)))
      ∙ ap (λ rs. Going (pic s o g (raised x high1) q rs None)) (spliced_above s.cells x.a high free k us fr))
      (goes_done z.bound self (fail_of z x) 0 0 o _ (ListPost z x (Some n) k free q) vs s
      (record {
        g = g;
        high = high1;
        keeps = keeps_on k k x.high high high1 (omega arith) kp (record { same = spliced_length high k us; old = λ i b. spliced_old high k us i b });
        held = (spliced_row high k us (omega (arith, l, r, room, fr)), refl);
        ok = ok_high z s g x high high1 (sym (spliced_length high k us)) ok;
      }))

  -- CALL, when what is called and the arguments are in place
  pub call_results : (want : Want) (k free q : ℕ) (c : Datum × List Datum) (s : SourceState) (o : Outside) (p : Place) (x : Site) → free ≡ length x.a.slots + k → CalledPost z x k free Op.Call want q c s o p → Goes z.bound self (fail_of z x) 1 call_cost o p (ListPost z x want k free q) (deeper (scope x) c.0 c.1 s done)
  call_results want k free q c s o p x fr h =
      let x1 : Site = raised x h.high in
      let ld = landing_of free want in
      goes_from z.bound self (fail_of z x) 1 call_cost o p (Now h.m) (ListPost z x want k free q) _ h.at_m
      (goes_soon z.bound self (fail_of z x) 0 call_cost o h.m (ListPost z x want k free q) _
      (goes_weaken z.bound self (fail_of z x) 0 (call_cost + 0) 0 call_cost o (Soon h.m) (ListPost z x want k free q) _ (omega arith) (omega arith)
      (goes_ask z.bound self (fail_of z x) call_cost 0 0 o (Soon h.m) (call (suc (length x.below)) c.0 c.1) s (Backs z ld 0 (waits x1 q ∷ x.below)) (ListPost z x want k free q) done
      (ih.calls c.0 c.1 s o h.g x1 ld q 200 h.m refl h.ok (subst (λ o1. IsPrefix h.m.outside.events o1.events) h.outside (prefix_self h.m.outside.events)) (inl h.outside) (h.by_call refl))
      (λ vs s1 o1 p1 b.
      goes_from z.bound self (fail_of z x) 0 0 o1 p1 (Soon b.m) (ListPost z x want k free q) _ b.at_m
      (results_land want k free q vs s1 o1 b.is.g x h.high b.m (fine_waiter z (length s1.cells) s1.closures b.is.g (waits x1 q) (waits x1 0) x.below refl refl b.is.fine) h.keeps fr h.room b.is.is)))))

  -- VARARG
  vararg_word : (want : Want) (free q0 : ℕ) (s : SourceState) (o : Outside) (g : Ghost) (x : Site) (p q : Spot) → WordAt (code_of x.a) (Piece.Abc Op.Vararg free (count_field 1 want) 0) p q → step (at s o g x p.pc) ≡ after (at s o g x p.pc) (land (landing_of free want) (at s o g x q.pc) x.a.extra)
  vararg_word None free q0 s o g x p q w =
      let m : State = at s o g x p.pc in
      word_abc x.a Op.Vararg free 0 0 p q m w refl refl ∙ ap (λ pc. after m (land (landing_of free None) (at s o g x pc) x.a.extra)) (sym w.next)
  vararg_word (Some n) free q0 s o g x p q w =
      let m : State = at s o g x p.pc in
      let m1 : State = at s o g x (suc p.pc) in
      word_abc x.a Op.Vararg free (n + 1) 0 p q m w refl refl
      ∙ ap (λ i. after m (elim (count_of i) [ None ↦ Going_on (with_results m1 (Some (record { first = free; values = x.a.extra }))) | Some j ↦ set_all m1 free (adjusted j x.a.extra) ])) (let a : n + 1 ≡ suc n = omega arith in a)
      ∙ ap (λ pc. after m (land (landing_of free (Some n)) (at s o g x pc) x.a.extra)) (sym w.next)

  -- ## the expressions that give several values, from the parts of calls
  module _ (parts : (e : Expression) → PartsBy z e (Does z self 4 (inner_parts e) (λ x s. call_parts e (scope x) s))) where
    pub call_multi : (e : Expression) → inner_parts e + call_cost ≡ inner e → is_call e ≡ true → MultiBy z e (Does z self 5 (inner e) (λ x s. and_then (call_parts e (scope x) s) (λ c s1. deeper (scope x) c.0 c.1 s1 done)))
    call_multi e size made s o g x want k free p q ok above small t =
        goes_weaken z.bound self (fail_of z x) (4 + 1) (inner_parts e + call_cost) 5 (inner e) o _ (ListPost z x want k free q.pc) _ (omega arith) (omega (arith, size))
        (goes_then z.bound self (fail_of z x) 4 (inner_parts e) 1 call_cost o (Now (at s o g x p.pc)) (CalledPost z x k free Op.Call want q.pc) (ListPost z x want k free q.pc) (call_parts e (scope x) s) (λ c s1. deeper (scope x) c.0 c.1 s1 done)
        (parts e s o g x Op.Call want k free p q ok above small t made)
        (λ c s1 o1 p1 h. call_results want k free q.pc c s1 o1 p1 x above.is h))

    multi_goes : (e : Expression) → MultiBy z e (Does z self 5 (inner e) (λ x s. evaluate e (scope x) s))
    multi_goes (nil_literal line) s o g x want k free p q ok above small t = absurd t
    multi_goes (true_literal line) s o g x want k free p q ok above small t = absurd t
    multi_goes (false_literal line) s o g x want k free p q ok above small t = absurd t
    multi_goes (number_literal line n) s o g x want k free p q ok above small t = absurd t
    multi_goes (text_literal line t0) s o g x want k free p q ok above small t = absurd t
    multi_goes (name_expression line name) s o g x want k free p q ok above small t = absurd t
    multi_goes (function_expression line g0) s o g x want k free p q ok above small t = absurd t
    multi_goes (index_expression line on key) s o g x want k free p q ok above small t = absurd t
    multi_goes (field_expression line on name) s o g x want k free p q ok above small t = absurd t
    multi_goes (and_expression line left right) s o g x want k free p q ok above small t = absurd t
    multi_goes (or_expression line left right) s o g x want k free p q ok above small t = absurd t
    multi_goes (binary_expression line op left right) s o g x want k free p q ok above small t = absurd t
    multi_goes (unary_expression line op e) s o g x want k free p q ok above small t = absurd t
    multi_goes (constructor line fs) s o g x want k free p q ok above small t = absurd t
    multi_goes (parenthesized line e) s o g x want k free p q ok above small t = absurd t
    multi_goes (vararg_expression line) s o g x want k free p q ok above small t =
        let m : State = at s o g x p.pc in
        goes_soon z.bound self (fail_of z x) 4 0 o m (ListPost z x want k free q.pc) (done x.a.extra s)
        (goes_weaken z.bound self (fail_of z x) 0 0 4 0 o (Soon m) (ListPost z x want k free q.pc) (done x.a.extra s) (omega arith) (omega arith)
        (results_land want k free q.pc x.a.extra s o g x x.high m ok (keeps_self k x.high) above.is t.results (vararg_word want free 0 s o g x p q t.word)))
    multi_goes (call_expression line on args on_line) s o g x want k free p q ok above small t = call_multi (call_expression line on args on_line) (omega arith) refl s o g x want k free p q ok above small t
    multi_goes (method_call line on name args on_line) s o g x want k free p q ok above small t = call_multi (method_call line on name args on_line) (omega arith) refl s o g x want k free p q ok above small t

    pub next_multi : (e : Expression) → MultiBy z e (Asked z (size_e e) (λ x s w. spend w.ticks w (run self (program (expression (scope x) e) s))))
    next_multi e s o g x want k free p q ok above small t =
        by_tick z.bound self (fail_of z x) 0 5 (inner e) o (Now (at s o g x p.pc)) (ListPost z x want k free q.pc) (evaluate e (scope x) s) refl (omega arith)
        (multi_goes e s o g x want k free p q ok above small t)

    pub next_parts : (e : Expression) → PartsBy z e (Asked z (suc (inner_parts e)) (λ x s w. spend w.ticks w (run self (program (called (scope x) e) s))))
    next_parts e s o g x op want k free p q ok above small t made =
        by_tick z.bound self (fail_of z x) 0 4 (inner_parts e) o (Now (at s o g x p.pc)) (CalledPost z x k free op want q.pc) (call_parts e (scope x) s) refl (omega arith)
        (parts e s o g x op want k free p q ok above small t made)
