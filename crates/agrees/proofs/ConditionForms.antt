-- Conditions that are literals, names or comparisons, and those whose value is tested in the next register.
use Rattle.std.proofs.Common.{◌≡◌, ◌≤◌, ℕ, suc, ◌+◌, Bool, true, false, not, List, [], ◌∷◌, length, Option, Some, None, refl, sym, ap, ◌∙◌, subst, arith}
use Rattle.std.specs.Prelude.{slice_get}
use Rattle.std.specs.Option.{option_or}
use Rattle.std.specs.Bool.{beq}
use Rattle.opcode.specs.declared.op.Op.{Op}
use Rattle.opcode.specs.declared.word.Instr.{Instr}
use Rattle.opcode.specs.Word.{truth_field}
use Rattle.proto.specs.declared.parts.Constant.{Constant}
use Rattle.scheme.specs.declared.making.Piece.{Piece}
use Rattle.scheme.specs.Expressions.{literal, is_true_constant, is_comparison}
use Rattle.lua_num.specs.declared.arith.CompareOp.{CompareOp}
use Rattle.lua_num.specs.Bytes.{Text}
use Rattle.lua_tree.specs.declared.tree.BinaryOp.{BinaryOp}
use Rattle.lua_tree.specs.Syntax.{Expression, name_expression, binary_expression}
use Rattle.lua_model.specs.Datum.{Datum, boolean, first_of, is_true}
use Rattle.lua_model.specs.Store.{Outside}
use Rattle.lua_model.specs.Operators.{compare}
use Rattle.source_meaning.specs.State.{State as SourceState, find, cell}
use Rattle.source_meaning.specs.Programs.{Prog, and_then}
use Rattle.source_meaning.specs.Meaning.{with_value, one, evaluate, with_late, read, perform, name_value}
use Rattle.rules.specs.State.{State, value_of}
use Rattle.rules.specs.Step.{effect, do_compare}
use Rattle.scheme_stands.specs.Words.{Fn, Spot, Stretch, Seq, WordAt, JumpOn}
use Rattle.scheme_stands.specs.Expressions.{TwoAt, RkAt, local_at, OperandBy, NextAt, OneAt, CompareAt, form_of, rel_alone, NameAt, BareAt}
use Rattle.scheme_stands.specs.Relation.{related}
use Rattle.agrees.proofs.Operands.{two_goes}
use Rattle.agrees.proofs.Names.{Resolves, operand_resolves}
use Rattle.agrees.proofs.NextRegister.{to_next}
use Rattle.agrees.proofs.Registers.{high_get}
use Rattle.agrees.proofs.Tasks.{Does, Above, CondBy, Simulates, scope, Evaluates}
use Rattle.agrees.proofs.Posts.{Keeps, keeps_self, ValuePost, JumpPost, Splits, same, fail_of, OperandIs}
use Rattle.agrees.proofs.Accounts.{Now, Self, Goes, Arrive, goes_done, goes_weaken, goes_then, goes_more, Stays}
use Rattle.agrees.proofs.Sizes.{inner, size_e, call_cost}
use Rattle.agrees.proofs.Picture.{code_of, Setup, of_cell, Ghost, Site, raised, registers, at, Ok}
use Rattle.agrees.proofs.PictureChanges.{top_register}
use Rattle.agrees.proofs.ConditionTests.{same_flip, same_beq, TestPost, TruthPost, test_jumps, test_word, compare_word}
use Rattle.agrees.proofs.ValueLiterals.{says}
use Rattle.agrees.proofs.ConditionLogic.{constant_truth, arrive_soon, jump_on, from_known}

-- a condition in an expression's own program, with so many words
abbrev pub CondDoes : Setup → Self → ℕ → Expression → Type 0
CondDoes z self j e = CondBy z e (Does z self j (inner e) (λ x s. evaluate e (scope x) s))

-- the value in the next register, in an expression's own program, in at most 6 words
abbrev pub ValueAt : Setup → Self → Expression → SourceState → Outside → Ghost → Site → (k free : ℕ) → (p mid : Spot) → Type 0
ValueAt z self e s o g x k free p mid = Goes z.bound self (fail_of z x) 6 (inner e) o (Now (at s o g x p.pc)) (ValuePost z x k free mid.pc) (evaluate e (scope x) s)

-- TEST of a value in the next register, and its JMP
abbrev pub NextTestAt : Fn → Expression → Site → (free : ℕ) → Bool → (label : ℕ) → Stretch
NextTestAt f e x free t l = OneAt (λ fr i free1. NextAt f ((related f e).to_reg x.a.active fr fr) fr i free1) free (λ i. Seq (WordAt f (Piece.Abc Op.Test i 0 (truth_field t))) (WordAt f (Piece.Jump Op.Jmp 0 l)))

module _ (z : Setup) (self : Self) where
  -- the value of the next register is tested
  pub next_test : (e : Expression) (t : Bool) (s : SourceState) (o : Outside) (g : Ghost) (x : Site) (k free l : ℕ) (p q : Spot) → Above x k free → (w : NextTestAt (code_of x.a) e x free t l p q) → ValueAt z self e s o g x k free p w.mid → Goes z.bound self (fail_of z x) 7 (inner e) o (Now (at s o g x p.pc)) (λ vs. JumpPost z x k t l q.pc (first_of vs)) (evaluate e (scope x) s)
  next_test e t s o g x k free l p q above w way =
      let v = w.operand_at in
      goes_more z.bound self (fail_of z x) 6 1 (inner e) o (Now (at s o g x p.pc)) (ValuePost z x k free w.mid.pc) (λ vs. JumpPost z x k t l q.pc (first_of vs)) (evaluate e (scope x) s) way
      (λ vs s1 o1 p1 h n.
      let d = to_next z x k free w.mid.pc vs s1 o1 p1 above.is v.room h in
      subst (λ y. Arrive z.bound 1 0 n y n (JumpPost z x k t l q.pc (first_of vs) s1 o1)) (sym d.is)
      (arrive_soon z n (at s1 o1 d.g (raised x d.high) w.mid.pc) (JumpPost z x k t l q.pc (first_of vs) s1 o1)
      (test_jumps z x d.high k l t w.words_at.mid q (first_of vs) s1 o1 _ d.keeps w.words_at.second_at
      (test_word z (raised x d.high) w.x t (first_of vs) w.mid w.words_at.mid s1 o1 d.g d.ok (high_get s1.cells x.a d.high w.x k (v.at_x ∙ above.is) ∙ d.has) w.words_at.first_at) n)))

  -- a literal jumps or does not
  pub literal_cond : Simulates z self → (e : Expression) (c : Constant) → literal e ≡ Some c → (t : Bool) (s : SourceState) (o : Outside) (g : Ghost) (x : Site) (k l : ℕ) (p q : Spot) → Ok z s g x → JumpOn (code_of x.a) (beq t (is_true_constant c)) l p q → Goes z.bound self (fail_of z x) 1 (inner e) o (Now (at s o g x p.pc)) (λ vs. JumpPost z x k t l q.pc (first_of vs)) (evaluate e (scope x) s)
  literal_cond ih e c lit t s o g x k l p q ok w =
      from_known z self (value_of c) 1 (inner e) s o x (Now (at s o g x p.pc)) (JumpPost z x k t l q.pc) (evaluate e (scope x) s)
      (says z self ih e c lit (scope x) s o x.a.landing x.a.protections x.below (Now (at s o g x p.pc)) refl)
      (λ n.
      let a = jump_on z (beq t (is_true_constant c)) x l p q s o g w n in
      record { to = a.to; holds = record { g = g; high = x.high; keeps = keeps_self k x.high; is = subst (λ b. Splits b (at s o g x) l q.pc a.to) (same_beq t (is_true_constant c) ∙ ap (same t) (sym (constant_truth c))) a.holds; ok = ok }; reach = a.reach })

module _ (z : Setup) (self : Self) (ih : Simulates z self) where
  -- ## comparisons

  compared : (cop : CompareOp) (word : Op) → ((m : State) (i : Instr) → effect word m i ≡ do_compare cop m i) → (x : Site) (high : List Datum) (k l i j : ℕ) (t t1 : Bool) (p mid q : Spot) (u v : Datum) (s : SourceState) (o : Outside) (g : Ghost) (fin : Datum → SourceState → Prog (List Datum)) → ((d : Datum) (s1 : SourceState) → (d1 : Datum) × (fin d s1 ≡ one d1 s1) × (same t1 (is_true d) ≡ same t (is_true d1))) → Keeps k x.high high → Ok z s g (raised x high) → OperandIs x high s i u → OperandIs x high s j v → WordAt (code_of x.a) (Piece.Abc word (truth_field t1) i j) p mid → WordAt (code_of x.a) (Piece.Jump Op.Jmp 0 l) mid q → Goes z.bound self (fail_of z x) 1 call_cost o (Now (at s o g (raised x high) p.pc)) (λ vs. JumpPost z x k t l q.pc (first_of vs)) (and_then (perform (scope x) (compare s.store cop u v) s) fin)
  compared cop word is x high k l i j t t1 p mid q u v s o g fin fins kp ok hu hv wc wj =
      let x1 : Site = raised x high in
      goes_weaken z.bound self (fail_of z x) (1 + 0) (call_cost + 0) 1 call_cost o (Now (at s o g x1 p.pc)) (λ vs. JumpPost z x k t l q.pc (first_of vs)) _ (omega arith) (omega arith)
      (goes_more z.bound self (fail_of z x) 1 0 (call_cost + 0) o (Now (at s o g x1 p.pc)) (λ vs. TestPost z x1 mid.pc (same t (is_true (first_of vs)))) (λ vs. JumpPost z x k t l q.pc (first_of vs)) _
      (goes_then z.bound self (fail_of z x) 1 call_cost 0 0 o (Now (at s o g x1 p.pc)) (TruthPost z x1 mid.pc t1) (λ vs. TestPost z x1 mid.pc (same t (is_true (first_of vs)))) (perform (scope x) (compare s.store cop u v) s) fin
      (compare_word z self ih cop word is x1 t1 i j l u v s o g p mid q ok (hu (at s o g x1 (suc p.pc)) refl refl) (hv (at s o g x1 (suc p.pc)) refl refl) wc wj)
      (λ d s1 o1 p1 h.
      let f = fins d s1 in
      subst (λ r. Goes z.bound self (fail_of z x) 0 0 o1 p1 (λ vs. TestPost z x1 mid.pc (same t (is_true (first_of vs)))) r) (sym f.1)
      (goes_done z.bound self (fail_of z x) 0 0 o1 p1 (λ vs. TestPost z x1 mid.pc (same t (is_true (first_of vs)))) (f.0 ∷ []) s1
      (subst (λ b. TestPost z x1 mid.pc b s1 o1 p1) f.2 h.0))))
      (λ vs s1 o1 p1 h n. test_jumps z x high k l t mid q (first_of vs) s1 o1 p1 kp wj h n))

  fin_one : (t : Bool) (d : Datum) (s : SourceState) → (d1 : Datum) × (one d s ≡ one d1 s) × (same t (is_true d) ≡ same t (is_true d1))
  fin_one t d s = (d, refl, refl)

  compare_by : (cop : CompareOp) (word : Op) → ((m : State) (i : Instr) → effect word m i ≡ do_compare cop m i) → (left right : Expression) (t t1 : Bool) (fin : Datum → SourceState → Prog (List Datum)) → ((d : Datum) (s1 : SourceState) → (d1 : Datum) × (fin d s1 ≡ one d1 s1) × (same t1 (is_true d) ≡ same t (is_true d1))) → (s : SourceState) (o : Outside) (g : Ghost) (x : Site) (k free l : ℕ) (p q : Spot) → Ok z s g x → free ≡ length x.a.slots + k → size_e left ≤ z.bound → size_e right ≤ z.bound → (w : TwoAt (RkAt (code_of x.a) x.a.active (related (code_of x.a) left)) (RkAt (code_of x.a) x.a.active (related (code_of x.a) right)) free (λ a b. Seq (WordAt (code_of x.a) (Piece.Abc word (truth_field t1) a b)) (WordAt (code_of x.a) (Piece.Jump Op.Jmp 0 l))) p q) → Goes z.bound self (fail_of z x) 1 (size_e left + (size_e right + call_cost)) o (Now (at s o g x p.pc)) (λ vs. JumpPost z x k t l q.pc (first_of vs)) (with_late (scope x) left s (λ a s1. with_value (scope x) right s1 (λ b s2. and_then (perform (scope x) (compare s2.store cop (read a s2) b) s2) fin)))
  compare_by cop word is left right t t1 fin fins s o g x k free l p q ok fr sl sr w =
      two_goes z self ih left right s o g x k free p q _ 1 call_cost (λ vs. JumpPost z x k t l q.pc (first_of vs)) (λ u v s2. and_then (perform (scope x) (compare s2.store cop u v) s2) fin) ok fr sl sr w
      (λ u v s1 o1 g1 high kp ok1 hu hv. compared cop word is x high k l w.x w.y t t1 w.last w.words_at.mid q u v s1 o1 g1 fin fins kp ok1 hu hv w.words_at.first_at w.words_at.second_at)

  -- the operands swapped
  compare_swapped : (cop : CompareOp) (word : Op) → ((m : State) (i : Instr) → effect word m i ≡ do_compare cop m i) → (left right : Expression) (t t1 : Bool) (fin : Datum → SourceState → Prog (List Datum)) → ((d : Datum) (s1 : SourceState) → (d1 : Datum) × (fin d s1 ≡ one d1 s1) × (same t1 (is_true d) ≡ same t (is_true d1))) → (s : SourceState) (o : Outside) (g : Ghost) (x : Site) (k free l : ℕ) (p q : Spot) → Ok z s g x → free ≡ length x.a.slots + k → size_e left ≤ z.bound → size_e right ≤ z.bound → (w : TwoAt (RkAt (code_of x.a) x.a.active (related (code_of x.a) left)) (RkAt (code_of x.a) x.a.active (related (code_of x.a) right)) free (λ a b. Seq (WordAt (code_of x.a) (Piece.Abc word (truth_field t1) b a)) (WordAt (code_of x.a) (Piece.Jump Op.Jmp 0 l))) p q) → Goes z.bound self (fail_of z x) 1 (size_e left + (size_e right + call_cost)) o (Now (at s o g x p.pc)) (λ vs. JumpPost z x k t l q.pc (first_of vs)) (with_late (scope x) left s (λ a s1. with_value (scope x) right s1 (λ b s2. and_then (perform (scope x) (compare s2.store cop b (read a s2)) s2) fin)))
  compare_swapped cop word is left right t t1 fin fins s o g x k free l p q ok fr sl sr w =
      two_goes z self ih left right s o g x k free p q _ 1 call_cost (λ vs. JumpPost z x k t l q.pc (first_of vs)) (λ u v s2. and_then (perform (scope x) (compare s2.store cop v u) s2) fin) ok fr sl sr w
      (λ u v s1 o1 g1 high kp ok1 hu hv. compared cop word is x high k l w.y w.x t t1 w.last w.words_at.mid q v u s1 o1 g1 fin fins kp ok1 hv hu w.words_at.first_at w.words_at.second_at)

  never : {A : Type 0} → false ≡ true → A
  never e = cc

  -- a local is tested as it is, another name by the next register
  pub name_cond : (line : ℕ) (name : Text) → Evaluates z self 6 (name_expression line name) → CondDoes z self 7 (name_expression line name)
  name_cond line name value t s o g x k free l p q ok above small w = by (local_at (form_of e) x.a.active p) (operand_resolves z s g x ok e free w.x w.free1 p w.mid (as_name (local_at (form_of e) x.a.active p) w.operand_at)) w.operand_at
    where
      e : Expression
      e = name_expression line name

      as_name : (r : Option ℕ) → OperandBy r (code_of x.a) x.a.active (record (rel_alone (code_of x.a) (form_of (name_expression 0 name)) (NameAt (code_of x.a) name)) { bare = BareAt (code_of x.a) name }) free w.x w.free1 p w.mid → OperandBy r (code_of x.a) x.a.active (related (code_of x.a) (name_expression line name)) free w.x w.free1 p w.mid
      as_name (Some r) v = v
      as_name None v = v

      by : (r : Option ℕ) → Resolves x (name_expression line name) r → OperandBy r (code_of x.a) x.a.active (record (rel_alone (code_of x.a) (form_of (name_expression 0 name)) (NameAt (code_of x.a) name)) { bare = BareAt (code_of x.a) name }) free w.x w.free1 p w.mid → Goes z.bound self (fail_of z x) 7 0 o (Now (at s o g x p.pc)) (λ vs. JumpPost z x k t l q.pc (first_of vs)) (evaluate (name_expression line name) (scope x) s)
      by (Some r) rs v =
          let is : name_value (option_or (find name x.a.own) (find name x.a.outer)) name s ≡ cell s rs.0 = ap (λ f. name_value (option_or f (find name x.a.outer)) name s) rs.1 in
          goes_weaken z.bound self (fail_of z x) 1 0 7 0 o (Now (at s o g x p.pc)) (λ vs. JumpPost z x k t l q.pc (first_of vs)) _ (omega arith) (omega arith)
          (from_known z self (cell s rs.0) 1 0 s o x (Now (at s o g x p.pc)) (JumpPost z x k t l q.pc) _
          (goes_done z.bound self (fail_of z x) 0 0 o (Now (at s o g x p.pc)) (Stays (cell s rs.0 ∷ []) s o (Now (at s o g x p.pc))) _ s (ap (λ u. u ∷ []) is, refl, refl, refl))
          (λ n.
          subst (λ pc. Arrive z.bound 1 0 n (Now (at s o g x pc)) n (JumpPost z x k t l q.pc (cell s rs.0) s o)) v.passed.passed.pc
          (arrive_soon z n (at s o g x w.mid.pc) (JumpPost z x k t l q.pc (cell s rs.0) s o)
          (test_jumps z x x.high k l t w.words_at.mid q (cell s rs.0) s o _ (keeps_self k x.high) w.words_at.second_at
          (test_word z x w.x t (cell s rs.0) w.mid w.words_at.mid s o g ok (ap (slice_get (registers s.cells x.a x.high)) v.at_x ∙ top_register s.cells x.a x.high r (of_cell rs.0) rs.2) w.words_at.first_at) n))))
      by None rs v =
          next_test z self (name_expression line name) t s o g x k free l p q above (record { x = w.x; free1 = w.free1; mid = w.mid; operand_at = v; words_at = w.words_at })
          (value s o g x k free free p w.mid ok above small v.room v.value_at)

  pub compare_cond : (line : ℕ) (op : BinaryOp) (left right : Expression) → is_comparison op ≡ true → (t : Bool) (s : SourceState) (o : Outside) (g : Ghost) (x : Site) (k free l : ℕ) (p q : Spot) → Ok z s g x → Above x k free → size_e left ≤ z.bound → size_e right ≤ z.bound → (w : CompareAt (code_of x.a) op (related (code_of x.a) left) (related (code_of x.a) right) x.a.active free t l p q) → Goes z.bound self (fail_of z x) 1 (inner (binary_expression line op left right)) o (Now (at s o g x p.pc)) (λ vs. JumpPost z x k t l q.pc (first_of vs)) (evaluate (binary_expression line op left right) (scope x) s)
  compare_cond line BinaryOp.Eq left right c t s o g x k free l p q ok above sl sr w =
      compare_by CompareOp.Eq Op.Eq (λ m i. refl) left right t t one (fin_one t) s o g x k free l p q ok above.is sl sr w
  compare_cond line BinaryOp.Ne left right c t s o g x k free l p q ok above sl sr w =
      compare_by CompareOp.Eq Op.Eq (λ m i. refl) left right t (not t) (λ d s1. one (boolean (not (is_true d))) s1) (λ d s1. (boolean (not (is_true d)), refl, same_flip t (is_true d))) s o g x k free l p q ok above.is sl sr w
  compare_cond line BinaryOp.Lt left right c t s o g x k free l p q ok above sl sr w =
      compare_by CompareOp.Lt Op.Lt (λ m i. refl) left right t t one (fin_one t) s o g x k free l p q ok above.is sl sr w
  compare_cond line BinaryOp.Le left right c t s o g x k free l p q ok above sl sr w =
      compare_by CompareOp.Le Op.Le (λ m i. refl) left right t t one (fin_one t) s o g x k free l p q ok above.is sl sr w
  compare_cond line BinaryOp.Gt left right c t s o g x k free l p q ok above sl sr w =
      compare_swapped CompareOp.Lt Op.Lt (λ m i. refl) left right t t one (fin_one t) s o g x k free l p q ok above.is sl sr w
  compare_cond line BinaryOp.Ge left right c t s o g x k free l p q ok above sl sr w =
      compare_swapped CompareOp.Le Op.Le (λ m i. refl) left right t t one (fin_one t) s o g x k free l p q ok above.is sl sr w
  compare_cond line op left right c t s o g x k free l p q ok above sl sr w = never c
