-- `return`: of nothing, of a call, which is left to who called, of one value, and of a list.
use Rattle.std.proofs.Common.{◌≡◌, ◌≤◌, ℕ, suc, ◌+◌, true, List, [], length, Some, None, refl, sym, subst, arith, false, ◌∷◌, ap, ◌∙◌}
use Rattle.std.specs.Prelude.{slice_get, ◌||◌}
use Rattle.lua_model.specs.Datum.{Datum, first_of}
use Rattle.lua_model.specs.Store.{Outside}
use Rattle.lua_tree.specs.Syntax.{call_statement, return_statement, no_expressions, Expression, Expressions}
use Rattle.lua_tree.specs.WellFormed.{is_call}
use Rattle.opcode.specs.declared.op.Op.{Op}
use Rattle.rules.specs.Calls.{leave}
use Rattle.rules.specs.Run.{after}
use Rattle.rules.specs.State.{State}
use Rattle.scheme.specs.Expressions.{count_field, is_vararg, Want}
use Rattle.scheme.specs.declared.making.Active.{Active}
use Rattle.scheme.specs.declared.making.Piece.{Piece}
use Rattle.scheme_stands.specs.Words.{Spot, WordAt, Seq}
use Rattle.scheme_stands.specs.Expressions.{several, form_of, OneAt, OperandAt}
use Rattle.scheme_stands.specs.Lists.{rels_count}
use Rattle.scheme_stands.specs.Statements.{ListReturnAt, ReturnAt, ReturnBy}
use Rattle.scheme_stands.specs.Relation.{related, all_related}
use Rattle.source_meaning.specs.Meaning.{execute, leave_call, items, give, give_results, single}
use Rattle.source_meaning.specs.Programs.{done}
use Rattle.source_meaning.specs.State.{State as SourceState, returns, tail_calls, Place as Scope}
use Rattle.source_meaning.specs.Tasks.{called_item}
use Rattle.lua_tree.specs.Syntax as syntax
use Rattle.agrees.proofs.ListRead.{list_read}
use Rattle.agrees.proofs.Accounts.{Now, Soon, Self, Goes, goes_done, goes_ask, goes_weaken, goes_from, goes_soon, prefix_self, goes_then}
use Rattle.agrees.proofs.CallLeaves.{backs_at}
use Rattle.agrees.proofs.ListOpen.{open_goes, OpenPost}
use Rattle.scheme_stands.proofs.Forms.{form_is}
use Rattle.agrees.proofs.Operands.{return_word, item_goes}
use Rattle.agrees.proofs.Picture.{code_of, Setup, Ghost, Site, raised, at, Ok, registers, pic}
use Rattle.agrees.proofs.Posts.{fail_of, Around, FlowPost}
use Rattle.agrees.proofs.Registers.{all_above}
use Rattle.agrees.proofs.Sizes.{size_e, inner_list, inner_statement}
use Rattle.agrees.proofs.Tasks.{StatementBy, inner_parts, Simulates, Does, scope}
use Rattle.agrees.proofs.Words.{word_abc}

-- what is no call is no call that is left
gives_one : (e : Expression) → is_call e ≡ false → (c : Scope) (s : SourceState) → give (single e) c s ≡ give_results (single e) c s
gives_one (syntax.call_expression line on args on_line) h c s = let d : true ≡ false = h in cc
gives_one (syntax.method_call line on name args on_line) h c s = let d : true ≡ false = h in cc
gives_one e h c s = refl

-- the words of what is no call and not `...`
operand_return : (x : Site) (e : Expression) (p q : Spot) → is_call e ≡ false → is_vararg e ≡ false → ReturnAt (code_of x.a) (related (code_of x.a) e ∷ []) x.a.active p q → OneAt (OperandAt (code_of x.a) x.a.active (related (code_of x.a) e)) (length x.a.active) (λ i. WordAt (code_of x.a) (Piece.Abc Op.Return i 2 0)) p q
operand_return x e p q c d w =
    subst (λ b. ReturnBy false b (code_of x.a) (related (code_of x.a) e) x.a.active p q) (ap (λ f. f.dots) (form_is (code_of x.a) e) ∙ d)
    (subst (λ b. ReturnBy b (related (code_of x.a) e).form.dots (code_of x.a) (related (code_of x.a) e) x.a.active p q) (ap (λ f. f.call) (form_is (code_of x.a) e) ∙ c) w)

-- two expressions or more are no call that is left
gives_list : (e e2 : Expression) (es : Expressions) (c : Scope) (s : SourceState) → give (syntax.expression e (syntax.expression e2 es)) c s ≡ give_results (syntax.expression e (syntax.expression e2 es)) c s
gives_list (syntax.nil_literal line) e2 es c s = refl
gives_list e e2 es c s = refl

module _ (z : Setup) (self : Self) (ih : Simulates z self) where
  return_none_goes : StatementBy z (return_statement no_expressions) (Does z self 1 0 (λ x s. execute (return_statement no_expressions) (scope x) s))
  return_none_goes s o g x around active1 p q ok out small t =
      let m : State = at s o g x p.pc in
      goes_soon z.bound self (fail_of z x) 0 0 o m (FlowPost z x around active1 q.pc) (done (returns []) s)
      (goes_done z.bound self (fail_of z x) 0 0 o (Soon m) (FlowPost z x around active1 q.pc) (returns []) s
      (backs_at z s o g x (suc p.pc) None [] m ok (prefix_self o.events) (word_abc x.a Op.Return 0 1 0 p q m t.part_at refl refl)))

  -- a call that is left
  tail_goes : (e : Expression) → is_call e ≡ true → (s : SourceState) (o : Outside) (g : Ghost) (x : Site) (around : Around) (active1 : List Active) (p q : Spot) → Ok z s g x → size_e e ≤ z.bound → Seq ((related (code_of x.a) e).multi x.a.active (length x.a.active) Op.TailCall None) (WordAt (code_of x.a) (Piece.Abc Op.Return (length x.a.active) 0 0)) p q → Goes z.bound self (fail_of z x) 1 (suc (suc (inner_parts e))) o (Now (at s o g x p.pc)) (FlowPost z x around active1 q.pc) (leave_call e (scope x) s)
  tail_goes e made s o g x around active1 p q ok small t =
      goes_weaken z.bound self (fail_of z x) 1 (suc (suc (inner_parts e)) + 0) 1 (suc (suc (inner_parts e))) o (Now (at s o g x p.pc)) (FlowPost z x around active1 q.pc) _ (omega arith) (omega arith)
      (goes_ask z.bound self (fail_of z x) (suc (suc (inner_parts e))) 1 0 o (Now (at s o g x p.pc)) (called_item (scope x) e) s _ (FlowPost z x around active1 q.pc) (λ c s1. done (tail_calls c.0 c.1) s1)
      (ih.call_items e s o g x Op.TailCall None 0 (length x.a.active) p t.mid ok (all_above z s g x ok) small t.first_at made)
      (λ c s1 o1 p1 h.
      goes_from z.bound self (fail_of z x) 1 0 o1 p1 (Now h.m) (FlowPost z x around active1 q.pc) _ h.at_m
      (goes_soon z.bound self (fail_of z x) 0 0 o1 h.m (FlowPost z x around active1 q.pc) _
      (goes_done z.bound self (fail_of z x) 0 0 o1 (Soon h.m) (FlowPost z x around active1 q.pc) (tail_calls c.0 c.1) s1
      (record { m = h.m; at_m = refl; outside = h.outside; y = raised x h.high; same_landing = refl; same_protections = refl; same_below = refl; g = h.g; ok = h.ok; pc = t.mid.pc; base = length x.a.active; behind = t.mid; last = q; at_behind = refl; back = t.second_at; is = h.by_tail refl })))))

  -- one value
  out : (e : Expression) (x : Site) (around : Around) (active1 : List Active) (vs : List Datum) (s : SourceState) (o : Outside) (g : Ghost) (high : List Datum) (i : ℕ) (p q : Spot) → Ok z s g (raised x high) → slice_get (registers s.cells x.a high) i ≡ Some (first_of vs) → vs ≡ first_of vs ∷ [] → WordAt (code_of x.a) (Piece.Abc Op.Return i 2 0) p q → Goes z.bound self (fail_of z x) 1 0 o (Now (at s o g (raised x high) p.pc)) (FlowPost z x around active1 q.pc) (done (returns vs) s)
  out e x around active1 vs s o g high i p q ok there one w =
      goes_soon z.bound self (fail_of z x) 0 0 o (at s o g (raised x high) p.pc) (FlowPost z x around active1 q.pc) (done (returns vs) s)
      (goes_done z.bound self (fail_of z x) 0 0 o (Soon (at s o g (raised x high) p.pc)) (FlowPost z x around active1 q.pc) (returns vs) s
      (subst (λ us. FlowPost z x around active1 q.pc (returns us) s o (Soon (at s o g (raised x high) p.pc))) (sym one)
      (return_word z self ih (raised x high) s o g i (first_of vs) p q ok there w)))

  one_return_goes : (e : Expression) → is_call e ≡ false → several (form_of e) ≡ false → (s : SourceState) (o : Outside) (g : Ghost) (x : Site) (around : Around) (active1 : List Active) (p q : Spot) → Ok z s g x → size_e e ≤ z.bound → OneAt (OperandAt (code_of x.a) x.a.active (related (code_of x.a) e)) (length x.a.active) (λ i. WordAt (code_of x.a) (Piece.Abc Op.Return i 2 0)) p q → Goes z.bound self (fail_of z x) 1 (suc (size_e e)) o (Now (at s o g x p.pc)) (FlowPost z x around active1 q.pc) (execute (return_statement (single e)) (scope x) s)
  one_return_goes e nc ns s o g x around active1 p q ok small w =
      subst (Goes z.bound self (fail_of z x) 1 (suc (size_e e)) o (Now (at s o g x p.pc)) (FlowPost z x around active1 q.pc)) (sym (gives_one e nc (scope x) s))
      (goes_weaken z.bound self (fail_of z x) 1 (suc (size_e e) + 0) 1 (suc (size_e e)) o (Now (at s o g x p.pc)) (FlowPost z x around active1 q.pc) (give_results (single e) (scope x) s) (omega arith) (omega arith)
      (item_goes z self ih e s o g x 0 (length x.a.active) w.x w.free1 p w.mid 1 0 (FlowPost z x around active1 q.pc) (λ vs s1. done (returns vs) s1) ok (all_above z s g x ok).is small w.operand_at
      (λ vs s1 o1 g1 high kp ok1 single there. out e x around active1 vs s1 o1 g1 high w.x w.mid q ok1 there (single ns) w.words_at)))

  -- a list
  list_goes : (es : Expressions) (s : SourceState) (o : Outside) (g : Ghost) (x : Site) (around : Around) (active1 : List Active) (p q : Spot) → Ok z s g x → inner_list es ≤ z.bound → ListReturnAt (code_of x.a) (all_related (code_of x.a) es) x.a.active p q → Goes z.bound self (fail_of z x) 1 (inner_list es) o (Now (at s o g x p.pc)) (FlowPost z x around active1 q.pc) (give_results es (scope x) s)
  list_goes es s o g x around active1 p q ok small t =
      let want : Want = rels_count (all_related (code_of x.a) es) in
      let above = all_above z s g x ok in
      goes_weaken z.bound self (fail_of z x) 1 (inner_list es + 0) 1 (inner_list es) o _ (FlowPost z x around active1 q.pc) _ (omega arith) (omega arith)
      (goes_then z.bound self (fail_of z x) 0 (inner_list es) 1 0 o _ (OpenPost z x want 0 (length x.a.active) t.mid.pc) (FlowPost z x around active1 q.pc) (items es (scope x) s) (λ vs s1. done (returns vs) s1)
      (open_goes z self ih es s o g x 0 (length x.a.active) p t.mid ok above small t.first_at)
      (λ vs s1 o1 p1 h.
      let x1 : Site = raised x h.list.high in
      let r = list_read z want x1 s1 o1 h.list.g t.mid.pc (length x.a.active) (length x.a.active) 0 0 1 [] vs p1 h.list.ok above.is (omega arith) (omega arith) above.within refl tt h.exact h.list.held in
      let m : State = pic s1 o1 h.list.g x1 t.mid.pc (registers s1.cells x.a h.list.high) r.0 in
      goes_from z.bound self (fail_of z x) 1 0 o1 p1 (Now m) (FlowPost z x around active1 q.pc) (done (returns vs) s1) r.1
      (goes_soon z.bound self (fail_of z x) 0 0 o1 m (FlowPost z x around active1 q.pc) (done (returns vs) s1)
      (goes_done z.bound self (fail_of z x) 0 0 o1 (Soon m) (FlowPost z x around active1 q.pc) (returns vs) s1
      (backs_at z s1 o1 h.list.g x1 (suc t.mid.pc) None vs m h.list.ok (prefix_self o1.events)
      (word_abc x.a Op.Return (length x.a.active) (count_field 1 want) 0 t.mid q m t.second_at refl refl ∙ ap (after m) (r.2 (suc t.mid.pc) leave)))))))

  abbrev Returned : Expressions → Type 0
  Returned es = StatementBy z (return_statement es) (Does z self 1 (inner_statement (return_statement es)) (λ x s. execute (return_statement es) (scope x) s))

  single_goes : (e : Expression) → is_call e ≡ false → is_vararg e ≡ false → Returned (single e)
  single_goes e c d s o g x around active1 p q ok out small t =
      goes_weaken z.bound self (fail_of z x) 1 (suc (size_e e)) 1 (inner_statement (return_statement (single e))) o (Now (at s o g x p.pc)) (FlowPost z x around active1 q.pc) (execute (return_statement (single e)) (scope x) s) (omega arith) (omega arith)
      (one_return_goes e c (ap (λ b. b || is_vararg e) c ∙ d) s o g x around active1 p q ok (omega (arith, small)) (operand_return x e p q c d t.part_at))

  call_left : (e : Expression) → is_call e ≡ true → ((x : Site) (s : SourceState) → execute (return_statement (single e)) (scope x) s ≡ leave_call e (scope x) s) → ((x : Site) (p q : Spot) → ReturnAt (code_of x.a) (related (code_of x.a) e ∷ []) x.a.active p q → Seq ((related (code_of x.a) e).multi x.a.active (length x.a.active) Op.TailCall None) (WordAt (code_of x.a) (Piece.Abc Op.Return (length x.a.active) 0 0)) p q) → suc (suc (inner_parts e)) ≤ inner_statement (return_statement (single e)) → Returned (single e)
  call_left e made is words fits s o g x around active1 p q ok out small t =
      goes_weaken z.bound self (fail_of z x) 1 (suc (suc (inner_parts e))) 1 (inner_statement (return_statement (single e))) o (Now (at s o g x p.pc)) (FlowPost z x around active1 q.pc) (execute (return_statement (single e)) (scope x) s) (omega arith) fits
      (subst (Goes z.bound self (fail_of z x) 1 (suc (suc (inner_parts e))) o (Now (at s o g x p.pc)) (FlowPost z x around active1 q.pc)) (sym (is x s)) (tail_goes e made s o g x around active1 p q ok (omega (arith, small)) (words x p q t.part_at)))

  many_goes : (es : Expressions) → ((x : Site) (s : SourceState) → execute (return_statement es) (scope x) s ≡ give_results es (scope x) s) → ((x : Site) (p q : Spot) → ReturnAt (code_of x.a) (all_related (code_of x.a) es) x.a.active p q → ListReturnAt (code_of x.a) (all_related (code_of x.a) es) x.a.active p q) → Returned es
  many_goes es is words s o g x around active1 p q ok out small t =
      goes_weaken z.bound self (fail_of z x) 1 (inner_list es) 1 (inner_statement (return_statement es)) o (Now (at s o g x p.pc)) (FlowPost z x around active1 q.pc) (execute (return_statement es) (scope x) s) (omega arith) (omega arith)
      (subst (Goes z.bound self (fail_of z x) 1 (inner_list es) o (Now (at s o g x p.pc)) (FlowPost z x around active1 q.pc)) (sym (is x s)) (list_goes es s o g x around active1 p q ok (omega (arith, small)) (words x p q t.part_at)))

  pub return_goes : (es : Expressions) → Returned es
  return_goes no_expressions = λ s o g x around active1 p q ok out small t.
      goes_weaken z.bound self (fail_of z x) 1 0 1 (inner_statement (return_statement no_expressions)) o (Now (at s o g x p.pc)) (FlowPost z x around active1 q.pc) (execute (return_statement no_expressions) (scope x) s) (omega arith) (omega arith)
      (return_none_goes s o g x around active1 p q ok out small t)
  return_goes (syntax.expression (syntax.call_expression line on args on_line) no_expressions) = call_left (syntax.call_expression line on args on_line) refl (λ x s. refl) (λ x p q w. w) (omega arith)
  return_goes (syntax.expression (syntax.method_call line on name args on_line) no_expressions) = call_left (syntax.method_call line on name args on_line) refl (λ x s. refl) (λ x p q w. w) (omega arith)
  return_goes (syntax.expression (syntax.vararg_expression line) no_expressions) = many_goes (single (syntax.vararg_expression line)) (λ x s. refl) (λ x p q w. w)
  return_goes (syntax.expression e (syntax.expression e2 es)) = many_goes (syntax.expression e (syntax.expression e2 es)) (λ x s. gives_list e e2 es (scope x) s) (λ x p q w. w)
  return_goes (syntax.expression e no_expressions) = single_goes e refl refl
