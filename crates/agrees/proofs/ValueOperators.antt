-- Indexing, unary operators and arithmetic as values; numbers that fold.
use Rattle.std.proofs.Common.{◌≡◌, ◌≤◌, ◌<◌, ℕ, suc, ◌+◌, not, List, [], ◌∷◌, Option, Some, None, refl, sym, ap, ◌∙◌, subst, arith, option_map, ℤ}
use Rattle.std.specs.Prelude.{slice_get, slice_set}
use Rattle.opcode.specs.declared.op.Op.{Op}
use Rattle.opcode.specs.declared.word.Instr.{Instr}
use Rattle.proto.specs.Chunk.{own}
use Rattle.proto.specs.declared.parts.Constant.{Constant}
use Rattle.lua_num.specs.Bytes.{Text}
use Rattle.lua_num.specs.declared.arith.ArithOp.{ArithOp}
use Rattle.lua_tree.specs.declared.tree.UnaryOp.{UnaryOp}
use Rattle.lua_tree.specs.Syntax.{Expression, index_expression, field_expression, unary_expression}
use Rattle.scheme.specs.Expressions.{fold}
use Rattle.scheme.specs.declared.making.Piece.{Piece}
use Rattle.lua_model.specs.Datum.{Datum, boolean, text, is_true}
use Rattle.lua_model.specs.Store.{Outside}
use Rattle.lua_model.specs.Operators.{index, chain_limit, negate, size, arith as arith_act}
use Rattle.source_meaning.specs.State.{State as SourceState, taken}
use Rattle.source_meaning.specs.Programs.{and_then}
use Rattle.source_meaning.specs.Meaning.{evaluate, perform, read, with_late, with_value, one, unary}
use Rattle.rules.specs.State.{State, need, set, operand, value_of}
use Rattle.rules.specs.Step.{effect, give, do_arith}
use Rattle.rules.specs.Run.{after}
use Rattle.scheme_stands.specs.Words.{Spot, WordAt, ConstantWord, instr_by}
use Rattle.scheme_stands.specs.Expressions.{ArithmeticAt, UnaryAt, LoadOr}
use Rattle.scheme_stands.specs.Relation.{related}
use Rattle.agrees.proofs.Operators.{index_takes, arith_takes, negate_takes, size_takes, answer_goes}
use Rattle.agrees.proofs.Registers.{set_word}
use Rattle.agrees.proofs.Tasks.{Above, Simulates, scope}
use Rattle.agrees.proofs.Posts.{Keeps, keeps_self, keeps_on, ValuePost, fail_of}
use Rattle.agrees.proofs.Accounts.{Now, Self, Goes, Arrive, goes_done, goes_word, goes_more, goes_weaken, to_word, Stays}
use Rattle.agrees.proofs.Sizes.{size_e, inner, call_cost}
use Rattle.agrees.proofs.Words.{word_abc, word_abx}
use Rattle.agrees.proofs.Picture.{code_of, Setup, Ghost, Site, raised, registers, pic, at, Ok}
use Rattle.agrees.proofs.Operands.{op_value, op_keep, late_goes, value_goes, rk_is, value_rk, text_rk, two_goes}
use Rattle.agrees.proofs.ValueLiterals.{says, folds_literal}

module _ (z : Setup) (self : Self) (ih : Simulates z self) where
  -- v[k]: what is indexed is read when it is
  pub index_goes : (line : ℕ) (on key : Expression) (s : SourceState) (o : Outside) (g : Ghost) (x : Site) (k free r : ℕ) (p q : Spot) → Ok z s g x → Above x k free → inner (index_expression line on key) ≤ z.bound → r < (own x.a.chunk).registers → (w : (related (code_of x.a) (index_expression line on key)).to_reg x.a.active free r p q) → Goes z.bound self (fail_of z x) 1 (inner (index_expression line on key)) o (Now (at s o g x p.pc)) (ValuePost z x k r q.pc) (evaluate (index_expression line on key) (scope x) s)
  index_goes line on key s o g x k free r p q ok fr small lr w =
      goes_weaken z.bound self (fail_of z x) 1 (size_e on + (size_e key + (call_cost + 0))) 1 (inner (index_expression line on key)) o (Now (at s o g x p.pc)) (ValuePost z x k r q.pc) _ (omega arith) (omega arith)
      (late_goes z self ih on s o g x k free w.x w.free1 p w.mid 1 (size_e key + (call_cost + 0)) (ValuePost z x k r q.pc) _ ok fr.is (omega (arith, small)) w.left_at
      (λ v s1 o1 g1 h1 d1 f1.
      value_rk z self ih key s1 o1 g1 (raised x h1) d1.k1 w.free1 w.y w.free2 w.mid w.last 1 (call_cost + 0) (ValuePost z x k r q.pc) _ d1.ok d1.at_free (omega (arith, small)) w.right_at
      (λ kv s2 o2 g2 h2 kp2 ok2 there2.
      let x2 : Site = raised x h2 in
      let m0 : State = at s2 o2 g2 x2 w.last.pc in
      let m1 : State = at s2 o2 g2 x2 (suc w.last.pc) in
      answer_goes z self ih x k r w.last q (index s2.store (read v s2) kv) s2 o2 g2 h2 (index_takes chain_limit s2.store (read v s2) kv) ok2 (keeps_on k d1.k1 x.high h1 h2 d1.more d1.keeps kp2) lr
      (word_abc x.a Op.GetTable r w.x w.y w.last q m0 w.words_at refl refl
      ∙ ap (λ y. after m0 (need y (λ u. need (operand m1 w.y) (λ key1. give m1 r (index s2.store u key1))))) (op_value s2 x.a h2 d1.k1 v w.x (op_keep x.a h1 h2 d1.k1 d1.k1 v w.x (omega arith) kp2 d1.holds))
      ∙ ap (λ y. after m0 (need y (λ key1. give m1 r (index s2.store (read v s2) key1)))) (there2 m1 refl refl))
      w.words_at.next)))

  -- v.name
  pub field_goes : (line : ℕ) (on : Expression) (name : Text) (s : SourceState) (o : Outside) (g : Ghost) (x : Site) (k free r : ℕ) (p q : Spot) → Ok z s g x → Above x k free → inner (field_expression line on name) ≤ z.bound → r < (own x.a.chunk).registers → (related (code_of x.a) (field_expression line on name)).to_reg x.a.active free r p q → Goes z.bound self (fail_of z x) 2 (inner (field_expression line on name)) o (Now (at s o g x p.pc)) (ValuePost z x k r q.pc) (evaluate (field_expression line on name) (scope x) s)
  field_goes line on name s o g x k free r p q ok fr small lr w =
      goes_weaken z.bound self (fail_of z x) 2 (size_e on + (call_cost + 0)) 2 (inner (field_expression line on name)) o (Now (at s o g x p.pc)) (ValuePost z x k r q.pc) _ (omega arith) (omega arith)
      (late_goes z self ih on s o g x k free w.x w.free1 p w.mid 2 (call_cost + 0) (ValuePost z x k r q.pc) _ ok fr.is (omega (arith, small)) w.left_at
      (λ v s1 o1 g1 h1 d1 f1.
      text_rk z self ih name s1 o1 g1 (raised x h1) d1.k1 w.free1 w.y w.free2 w.mid w.last 1 (call_cost + 0) (ValuePost z x k r q.pc) _ d1.ok d1.at_free w.right_at
      (λ h2 d2.
      let x2 : Site = raised x h2 in
      let m0 : State = at s1 o1 g1 x2 w.last.pc in
      let m1 : State = at s1 o1 g1 x2 (suc w.last.pc) in
      answer_goes z self ih x k r w.last q (index s1.store (read v s1) (text name)) s1 o1 g1 h2 (index_takes chain_limit s1.store (read v s1) (text name)) d2.ok (keeps_on k d1.k1 x.high h1 h2 d1.more d1.keeps d2.keeps) lr
      (word_abc x.a Op.GetTable r w.x w.y w.last q m0 w.words_at refl refl
      ∙ ap (λ y. after m0 (need y (λ u. need (operand m1 w.y) (λ key1. give m1 r (index s1.store u key1))))) (op_value s1 x.a h2 d1.k1 v w.x (op_keep x.a h1 h2 d1.k1 d1.k1 v w.x (omega arith) d2.keeps d1.holds))
      ∙ ap (λ y. after m0 (need y (λ key1. give m1 r (index s1.store (read v s1) key1)))) (rk_is z s1 g1 x h2 d2.k1 (taken (text name)) w.y d2.ok d2.holds m1 refl refl))
      w.words_at.next)))

  -- arithmetic: the left local is read when the operation is done
  pub arithmetic_goes : (op : ArithOp) (word : Op) → ((m : State) (i : Instr) → effect word m i ≡ do_arith op m i) → (left right : Expression) (s : SourceState) (o : Outside) (g : Ghost) (x : Site) (k free r : ℕ) (p q : Spot) → Ok z s g x → Above x k free → size_e left ≤ z.bound → size_e right ≤ z.bound → r < (own x.a.chunk).registers → (w : ArithmeticAt (code_of x.a) word (related (code_of x.a) left) (related (code_of x.a) right) x.a.active free r p q) → Goes z.bound self (fail_of z x) 1 (size_e left + (size_e right + call_cost)) o (Now (at s o g x p.pc)) (ValuePost z x k r q.pc) (with_late (scope x) left s (λ a s1. with_value (scope x) right s1 (λ b s2. and_then (perform (scope x) (arith_act s2.store op (read a s2) b) s2) one)))
  arithmetic_goes op word same left right s o g x k free r p q ok fr small_l small_r lr w =
      goes_weaken z.bound self (fail_of z x) 1 (size_e left + (size_e right + (call_cost + 0))) 1 (size_e left + (size_e right + call_cost)) o (Now (at s o g x p.pc)) (ValuePost z x k r q.pc) _ (omega arith) (omega arith)
      (two_goes z self ih left right s o g x k free p q _ 1 (call_cost + 0) (ValuePost z x k r q.pc) (λ u v s1. and_then (perform (scope x) (arith_act s1.store op u v) s1) one) ok fr.is small_l small_r w
      (λ u v s1 o1 g1 h1 kp ok1 at_x at_y.
      let m0 : State = at s1 o1 g1 (raised x h1) w.last.pc in
      let m1 : State = at s1 o1 g1 (raised x h1) (suc w.last.pc) in
      let i : Instr = instr_by w.last.pc (Piece.Abc word r w.x w.y) in
      answer_goes z self ih x k r w.last q (arith_act s1.store op u v) s1 o1 g1 h1 (arith_takes s1.store op u v) ok1 kp lr
      (word_abc x.a word r w.x w.y w.last q m0 w.words_at refl refl
      ∙ ap (after m0) (same m1 i)
      ∙ ap (λ y. after m0 (need y (λ a. need (operand m1 w.y) (λ b. give m1 r (arith_act s1.store op a b))))) (at_x m1 refl refl)
      ∙ ap (λ y. after m0 (need y (λ b. give m1 r (arith_act s1.store op u b)))) (at_y m1 refl refl))
      w.words_at.next))

  -- not, unary minus, length
  pub unary_goes : (op : UnaryOp) (e : Expression) (s : SourceState) (o : Outside) (g : Ghost) (x : Site) (k free r : ℕ) (p q : Spot) → Ok z s g x → Above x k free → size_e e ≤ z.bound → r < (own x.a.chunk).registers → (w : UnaryAt (code_of x.a) op (related (code_of x.a) e) x.a.active free r p q) → Goes z.bound self (fail_of z x) 1 (size_e e + call_cost) o (Now (at s o g x p.pc)) (ValuePost z x k r q.pc) (with_value (scope x) e s (unary op (scope x)))
  unary_goes op e s o g x k free r p q ok fr small lr w =
      goes_weaken z.bound self (fail_of z x) 1 (size_e e + (call_cost + 0)) 1 (size_e e + call_cost) o (Now (at s o g x p.pc)) (ValuePost z x k r q.pc) _ (omega arith) (omega arith)
      (value_goes z self ih e s o g x k free w.x w.free1 p w.mid 1 (call_cost + 0) (ValuePost z x k r q.pc) (unary op (scope x)) ok fr.is small w.operand_at
      (λ v s1 o1 g1 h1 kp ok1 there. by op w.words_at v s1 o1 g1 h1 kp ok1 there))
    where
      by : (op1 : UnaryOp) → WordAt (code_of x.a) (Piece.Abc (Rattle.scheme.specs.Expressions.unary_word op1) r w.x 0) w.mid q → (v : Datum) (s1 : SourceState) (o1 : Outside) (g1 : Ghost) (h1 : List Datum) → Keeps k x.high h1 → Ok z s1 g1 (raised x h1) → slice_get (registers s1.cells x.a h1) w.x ≡ Some v → Goes z.bound self (fail_of z x) 1 (call_cost + 0) o1 (Now (at s1 o1 g1 (raised x h1) w.mid.pc)) (ValuePost z x k r q.pc) (unary op1 (scope x) v s1)
      by UnaryOp.Not t v s1 o1 g1 h1 kp ok1 there =
          let x1 : Site = raised x h1 in
          let m0 : State = at s1 o1 g1 x1 w.mid.pc in
          let m1 : State = at s1 o1 g1 x1 (suc w.mid.pc) in
          goes_word z.bound self (fail_of z x) 0 (call_cost + 0) o1 m0 (pic s1 o1 g1 x1 (suc w.mid.pc) (slice_set (registers s1.cells x.a h1) r (boolean (not (is_true v)))) None) (ValuePost z x k r q.pc) _
          (word_abc x.a Op.Not r w.x 0 w.mid q m0 t refl refl
          ∙ ap (λ y. after m0 (need y (λ u. set m1 r (boolean (not (is_true u)))))) there
          ∙ ap (after m0) (set_word z s1 o1 g1 x1 r (suc w.mid.pc) (boolean (not (is_true v))) ok1 lr))
          (goes_done z.bound self (fail_of z x) 0 (call_cost + 0) o1 _ (ValuePost z x k r q.pc) (boolean (not (is_true v)) ∷ []) s1
          (record { g = g1; high = h1; keeps = kp; is = ap (λ pc. Now (pic s1 o1 g1 x1 pc (slice_set (registers s1.cells x.a h1) r (boolean (not (is_true v)))) None)) (sym t.next); ok = ok1 }))
      by UnaryOp.Neg t v s1 o1 g1 h1 kp ok1 there =
          let m0 : State = at s1 o1 g1 (raised x h1) w.mid.pc in
          let m1 : State = at s1 o1 g1 (raised x h1) (suc w.mid.pc) in
          answer_goes z self ih x k r w.mid q (negate s1.store v) s1 o1 g1 h1 (negate_takes s1.store v) ok1 kp lr
          (word_abc x.a Op.Unm r w.x 0 w.mid q m0 t refl refl ∙ ap (λ y. after m0 (need y (λ u. give m1 r (negate s1.store u)))) there)
          t.next
      by UnaryOp.Len t v s1 o1 g1 h1 kp ok1 there =
          let m0 : State = at s1 o1 g1 (raised x h1) w.mid.pc in
          let m1 : State = at s1 o1 g1 (raised x h1) (suc w.mid.pc) in
          answer_goes z self ih x k r w.mid q (size s1.store v) s1 o1 g1 h1 (size_takes s1.store v) ok1 kp lr
          (word_abc x.a Op.Len r w.x 0 w.mid q m0 t refl refl ∙ ap (λ y. after m0 (need y (λ u. give m1 r (size s1.store u)))) there)
          t.next

  -- a number that folds is loaded
  pub folded_goes : (e : Expression) (n : ℤ) → fold e ≡ Some n → (s : SourceState) (o : Outside) (g : Ghost) (x : Site) (k r : ℕ) (p q : Spot) → Ok z s g x → r < (own x.a.chunk).registers → ConstantWord (code_of x.a) Op.LoadK r (Constant.Number n) p q → Goes z.bound self (fail_of z x) 1 (inner e) o (Now (at s o g x p.pc)) (ValuePost z x k r q.pc) (evaluate e (scope x) s)
  folded_goes e n ef s o g x k r p q ok lr w =
      goes_more z.bound self (fail_of z x) 0 1 (inner e) o (Now (at s o g x p.pc)) (Stays (Datum.number n ∷ []) s o (Now (at s o g x p.pc))) (ValuePost z x k r q.pc) (evaluate e (scope x) s)
      (says z self ih e (Constant.Number n) (folds_literal z self ih e n ef) (scope x) s o x.a.landing x.a.protections x.below (Now (at s o g x p.pc)) refl)
      (λ vs s1 o1 p1 h t.
      subst (λ y. Arrive z.bound 1 0 t y t (ValuePost z x k r q.pc vs s1 o1)) (sym h.3)
      (subst (λ y. Arrive z.bound 1 0 t (Now (at s o g x p.pc)) t (ValuePost z x k r q.pc vs s1 y)) (sym h.2)
      (subst (λ y. Arrive z.bound 1 0 t (Now (at s o g x p.pc)) t (ValuePost z x k r q.pc vs y o)) (sym h.1)
      (subst (λ y. Arrive z.bound 1 0 t (Now (at s o g x p.pc)) t (ValuePost z x k r q.pc y s o)) (sym h.0)
      (to_word z.bound t (at s o g x p.pc) (pic s o g x (suc p.pc) (slice_set (registers s.cells x.a x.high) r (Datum.number n)) None) (ValuePost z x k r q.pc (Datum.number n ∷ []) s o)
      (word_abx x.a Op.LoadK r w.number p q (at s o g x p.pc) w.word refl refl
      ∙ ap (λ y. after (at s o g x p.pc) (need (option_map value_of y) (λ v. set (at s o g x (suc p.pc)) r v))) w.is
      ∙ ap (after (at s o g x p.pc)) (set_word z s o g x r (suc p.pc) (Datum.number n) ok lr))
      (record { g = g; high = x.high; keeps = keeps_self k x.high; is = ap (λ pc. Now (pic s o g x pc (slice_set (registers s.cells x.a x.high) r (Datum.number n)) None)) (sym w.word.next); ok = ok }))))))

  -- a unary operator as an expression
  pub unary_value : (line : ℕ) (op : UnaryOp) (e : Expression) (s : SourceState) (o : Outside) (g : Ghost) (x : Site) (k free r : ℕ) (p q : Spot) → Ok z s g x → Above x k free → inner (unary_expression line op e) ≤ z.bound → r < (own x.a.chunk).registers → (related (code_of x.a) (unary_expression line op e)).to_reg x.a.active free r p q → Goes z.bound self (fail_of z x) 1 (inner (unary_expression line op e)) o (Now (at s o g x p.pc)) (ValuePost z x k r q.pc) (evaluate (unary_expression line op e) (scope x) s)
  unary_value line op e s o g x k free r p q ok fr small lr w = by (fold (unary_expression line op e)) refl w
    where
      by : (f : Option ℤ) → fold (unary_expression line op e) ≡ f → LoadOr f (code_of x.a) (UnaryAt (code_of x.a) op (related (code_of x.a) e)) x.a.active free r p q → Goes z.bound self (fail_of z x) 1 (inner (unary_expression line op e)) o (Now (at s o g x p.pc)) (ValuePost z x k r q.pc) (evaluate (unary_expression line op e) (scope x) s)
      by (Some n) ef t = folded_goes (unary_expression line op e) n ef s o g x k r p q ok lr t
      by None ef t = unary_goes op e s o g x k free r p q ok fr (omega (arith, small)) lr t
