-- The statement of a numeric `for`: its three values and FORPREP.
use Rattle.std.proofs.Common.{◌≡◌, ◌≤◌, ◌<◌, ℕ, suc, ◌+◌, List, [], ◌∷◌, length, Some, None, refl, sym, ap, ◌∙◌, subst, arith, ℤ, pos, ◌-ℤ◌}
use Rattle.std.specs.Prelude.{slice_get, slice_set}
use Rattle.opcode.specs.declared.op.Op.{Op}
use Rattle.proto.specs.Chunk.{own}
use Rattle.proto.specs.declared.parts.Constant.{Constant}
use Rattle.lua_tree.specs.Syntax.{Statements, Expression, ForStep, no_step, by_step, numeric_for}
use Rattle.lua_num.specs.Bytes.{Text}
use Rattle.lua_num.specs.Arith.{wrap}
use Rattle.scheme.specs.declared.making.Piece.{Piece}
use Rattle.lua_model.specs.Datum.{Datum, number, text}
use Rattle.lua_model.specs.Store.{Outside}
use Rattle.lua_model.specs.Operators.{LoopNumbers, counts, no_count, loop_numbers}
use Rattle.source_meaning.specs.State.{State as SourceState, Flow}
use Rattle.source_meaning.specs.Tasks.{count_turn}
use Rattle.source_meaning.specs.Programs as programs
use Rattle.source_meaning.specs.Programs.{Prog}
use Rattle.source_meaning.specs.Meaning.{program, execute, count_loop, for_step}
use Rattle.rules.specs.State.{State}
use Rattle.rules.specs.Run.{after}
use Rattle.scheme_stands.specs.Words.{Spot, WordAt}
use Rattle.scheme_stands.specs.Relation.{StepAt}
use Rattle.agrees.proofs.NextRegister.{next_reg}
use Rattle.agrees.proofs.Registers.{ok_high, loads}
use Rattle.agrees.proofs.Tasks.{three, StatementBy, CountWords, CountTurnBy, Simulates, Does, scope}
use Rattle.agrees.proofs.Posts.{Keeps, fail_of, Around, FlowPost}
use Rattle.agrees.proofs.Lists.{get_set, get_set_other, length_set, some_same}
use Rattle.agrees.proofs.Accounts.{Now, Soon, Post, Self, Goes, prefix_self, goes_weaken, goes_fault, goes_soon, goes_word, by_tick}
use Rattle.agrees.proofs.Sizes.{size_e, size_b, inner_step}
use Rattle.agrees.proofs.Words.{loop_first}
use Rattle.agrees.proofs.Picture.{code_of, Setup, Ghost, Site, raised, at, Ok}
use Rattle.agrees.proofs.CallLeaves.{fails_at}
use Rattle.scheme.specs.Statements.{numeric_names}
use Rattle.agrees.proofs.CallEnters.{activated_length, activated_count}
use Rattle.agrees.proofs.LoopCount.{prep_word, prepared, count_from_goes, count_turn_goes, turn_size}

-- the first three of a row
pub record Front (high : List Datum) (v0 v1 v2 : Datum) : Type 0 where
  pub rest : List Datum
  pub is : high ≡ v0 ∷ v1 ∷ v2 ∷ rest

front : (high : List Datum) (v0 v1 v2 : Datum) → slice_get high 0 ≡ Some v0 → slice_get high 1 ≡ Some v1 → slice_get high 2 ≡ Some v2 → Front high v0 v1 v2
front [] v0 v1 v2 e0 e1 e2 = cc
front (a ∷ []) v0 v1 v2 e0 e1 e2 = cc
front (a ∷ b ∷ []) v0 v1 v2 e0 e1 e2 = cc
front (a ∷ b ∷ c ∷ rest) v0 v1 v2 e0 e1 e2 = record { rest = rest; is = ap (λ y. y ∷ b ∷ c ∷ rest) (some_same a v0 e0) ∙ ap (λ y. v0 ∷ y ∷ c ∷ rest) (some_same b v1 e1) ∙ ap (λ y. v0 ∷ v1 ∷ y ∷ rest) (some_same c v2 e2) }

module _ (z : Setup) (self : Self) (ih : Simulates z self) where
  pub next_count_turn : (name : Text) (i limit by : ℤ) (body : Statements) → CountTurnBy z name i limit by body (λ x s w. programs.spend w.ticks w (programs.run self (program (count_turn (scope x) name i limit by body) s)))
  next_count_turn name i limit by body s o g x around rest q ok small w =
      by_tick z.bound self (fail_of z x) 0 4 (suc (size_b body)) o _ (FlowPost z x around x.a.active q.pc) _ refl (omega arith) (count_turn_goes z self ih name i limit by body s o g x around rest q ok small w)

  -- from FORPREP on
  prep_goes : (name : Text) (v0 v1 v2 : Datum) (body : Statements) (s : SourceState) (o : Outside) (g : Ghost) (x : Site) (around : Around) (rest : List Datum) (here q : Spot) → Ok z s g (raised x (v0 ∷ v1 ∷ v2 ∷ rest)) → 1 ≤ length rest → turn_size z self ih body ≤ z.bound → (w : CountWords x name body q) → WordAt (code_of x.a) (Piece.Jump Op.ForPrep (length x.a.active) w.loop.pc) here w.begin → (n : LoopNumbers) → loop_numbers v0 v1 v2 ≡ n → Goes z.bound self (fail_of z x) 2 1 o (Now (at s o g (raised x (v0 ∷ v1 ∷ v2 ∷ rest)) here.pc)) (FlowPost z x around x.a.active q.pc) (count_loop n (scope x) name body s)
  prep_goes name v0 v1 v2 body s o g x around rest here q ok some small w prep (no_count why) en =
      let m : State = at s o g (raised x (v0 ∷ v1 ∷ v2 ∷ rest)) here.pc in
      goes_soon z.bound self (fail_of z x) 1 1 o m (FlowPost z x around x.a.active q.pc) _
      (goes_fault z.bound self (fail_of z x) 1 1 o (Soon m) (FlowPost z x around x.a.active q.pc) (text why) s
      (fails_at z s o g (raised x (v0 ∷ v1 ∷ v2 ∷ rest)) (suc here.pc) None (text why) m ok (prefix_self o.events) (prep_word z s o g x (length x.a.active) w.loop.pc v0 v1 v2 rest here w.begin ok.acts.0.as_many prep (no_count why) en m refl)))
  prep_goes name v0 v1 v2 body s o g x around [] here q ok some small w prep (counts i limit by) en = absurd (omega (arith, some))
  prep_goes name v0 v1 v2 body s o g x around (v ∷ rest) here q ok some small w prep (counts i limit by) en =
      goes_word z.bound self (fail_of z x) 1 1 o _ (at s o g (raised x (three (wrap (i -ℤ by)) limit by (v ∷ rest))) w.loop.pc) (FlowPost z x around x.a.active q.pc) _ (prepared z s o g x (length x.a.active) w.loop.pc v0 v1 v2 (v ∷ rest) here w.begin i limit by ok.acts.0.as_many prep en)
      (count_from_goes z self ih name (wrap (i -ℤ by)) (wrap i) limit by body s o g x around v rest q (loop_first i by) (ok_high z s g x (v0 ∷ v1 ∷ v2 ∷ v ∷ rest) (three (wrap (i -ℤ by)) limit by (v ∷ rest)) refl ok) small w)

  -- the step in the third register
  step_goes : (st : ForStep) (s : SourceState) (o : Outside) (g : Ghost) (x : Site) (p q : Spot) (j S : ℕ) (P : Post Flow) (go : Datum → SourceState → Prog Flow) → Ok z s g x → inner_step st ≤ z.bound → length x.a.active + 2 < (own x.a.chunk).registers → StepAt (code_of x.a) st x.a.active (length x.a.active + 2) p q → ((v : Datum) (s1 : SourceState) (o1 : Outside) (g1 : Ghost) (high : List Datum) → Keeps 2 x.high high → Ok z s1 g1 (raised x high) → slice_get high 2 ≡ Some v → Goes z.bound self (fail_of z x) j S o1 (Now (at s1 o1 g1 (raised x high) q.pc)) P (go v s1)) → Goes z.bound self (fail_of z x) (suc j) (inner_step st + S) o (Now (at s o g x p.pc)) P (for_step st (scope x) s go)
  step_goes no_step s o g x p q j S P go ok small room t after =
      let l : 2 < length x.high = let k = ok.acts.1 in let n = ok.acts.0.as_many in omega (arith, k, n, room) in
      let old = Rattle.agrees.proofs.Lists.get_within x.high 2 l in
      let high : List Datum = slice_set x.high 2 (number (pos 1)) in
      goes_weaken z.bound self (fail_of z x) (suc j) S (suc j) (0 + S) o _ P _ (omega arith) (omega arith)
      (goes_word z.bound self (fail_of z x) j S o _ (at s o g (raised x high) q.pc) P _ (loads s o g x (length x.a.active + 2) 2 (Constant.Number (pos 1)) old.0 p q (ap (λ n. n + 2) ok.acts.0.as_many) old.1 t)
      (after (number (pos 1)) s o g high (record { same = length_set x.high 2 (number (pos 1)); old = λ i b. get_set_other x.high 2 i (number (pos 1)) (λ y. omega arith) }) (ok_high z s g x x.high high (sym (length_set x.high 2 (number (pos 1)))) ok) (get_set x.high 2 (number (pos 1)) l)))
  step_goes (by_step e) s o g x p q j S P go ok small room t after =
      goes_weaken z.bound self (fail_of z x) j (size_e e + S) (suc j) (size_e e + S) o _ P _ (omega arith) (omega arith)
      (next_reg z self ih e s o g x 2 (length x.a.active + 2) p q j S P go ok (ap (λ n. n + 2) ok.acts.0.as_many) small room t after)

  pub numeric_goes : (name : Text) (first last : Expression) (st : ForStep) (body : Statements) → StatementBy z (numeric_for name first last st body) (Does z self 3 (size_e first + (size_e last + (inner_step st + 1))) (λ x s. execute (numeric_for name first last st body) (scope x) s))
  numeric_goes name first last st body s o g x around active1 p q ok out small t =
      let w = t.part_at in
      let same : length x.a.active ≡ length x.a.slots = ok.acts.0.as_many in
      subst (λ l. Goes z.bound self (fail_of z x) 3 (size_e first + (size_e last + (inner_step st + 1))) o (Now (at s o g x p.pc)) (FlowPost z x around l q.pc) (execute (numeric_for name first last st body) (scope x) s)) (sym t.stays)
      (subst (λ pc. Goes z.bound self (fail_of z x) 3 (size_e first + (size_e last + (inner_step st + 1))) o (Now (at s o g x pc)) (FlowPost z x around x.a.active q.pc) (execute (numeric_for name first last st body) (scope x) s)) w.same
      (next_reg z self ih first s o g x 0 (length x.a.active) w.declared_by w.with_first 3 (size_e last + (inner_step st + 1)) (FlowPost z x around x.a.active q.pc) _ ok (omega (arith, same)) (omega arith) (let r = w.room in omega (arith, r)) w.first_at
      (λ v0 s1 o1 g1 high1 k1 ok1 e0.
      next_reg z self ih last s1 o1 g1 (raised x high1) 1 (length x.a.active + 1) w.with_first w.with_last 3 (inner_step st + 1) (FlowPost z x around x.a.active q.pc) _ ok1 (omega (arith, same)) (omega arith) (let r = w.room in omega (arith, r)) w.last_at
      (λ v1 s2 o2 g2 high2 k2 ok2 e1.
      step_goes st s2 o2 g2 (raised x high2) w.with_last w.with_step 2 1 (FlowPost z x around x.a.active q.pc) _ ok2 (omega arith) (let r = w.room in omega (arith, r)) w.step_at
      (λ v2 s3 o3 g3 high3 k3 ok3 e2.
      let f = front high3 v0 v1 v2 (k3.old 0 (omega arith) ∙ k2.old 0 (omega arith) ∙ e0) (k3.old 1 (omega arith) ∙ e1) e2 in
      let ok4 = subst (λ h. Ok z s3 g3 (raised x h)) f.is ok3 in
      let words : CountWords x name body q = record { variables = w.variables; around = w.around; before = p.ahead; behind = w.declared_by.ahead; begin = w.begin; loop = w.loop; declared = w.declared; hidden = w.hidden; turn_at = w.turn_at; back = w.back } in
      subst (λ h. Goes z.bound self (fail_of z x) 2 1 o3 (Now (at s3 o3 g3 (raised x h) w.with_step.pc)) (FlowPost z x around x.a.active q.pc) (count_loop (loop_numbers v0 v1 v2) (scope x) name body s3)) (sym f.is)
      (prep_goes name v0 v1 v2 body s3 o3 g3 x around f.rest w.with_step q ok4 (let k : length x.a.slots + suc (suc (suc (length f.rest))) ≡ (own x.a.chunk).registers = ok4.acts.1 in let l : length w.turn_at.inner ≤ (own x.a.chunk).registers = w.turn_at.room in let u = activated_length (name ∷ []) w.variables p.ahead w.declared_by.ahead w.around w.turn_at.inner w.declared w.turn_at.activated in let m : length w.around ≡ length x.a.active + 3 = activated_count numeric_names x.a.active w.around w.hidden in omega (arith, k, l, u, m, same)) (omega arith) words w.prepare (loop_numbers v0 v1 v2) refl))))))
