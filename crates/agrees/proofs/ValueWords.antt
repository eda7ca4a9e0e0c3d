-- Values of one word: literals, `...`, names; and parentheses.
use Rattle.std.proofs.Common.{◌≡◌, ◌<◌, ℕ, suc, ◌+◌, ◌-◌, true, false, List, [], ◌∷◌, Some, None, refl, sym, ap, ◌∙◌, subst, arith, option_map, option_and_then}
use Rattle.std.specs.Prelude.{slice_get, slice_set, replicate}
use Rattle.std.specs.Option.{option_or}
use Rattle.opcode.specs.declared.op.Op.{Op}
use Rattle.proto.specs.Chunk.{own}
use Rattle.proto.specs.declared.parts.Constant.{Constant}
use Rattle.lua_tree.specs.Syntax.{Expression, nil_literal, true_literal, false_literal, vararg_expression, number_literal, text_literal, name_expression, parenthesized}
use Rattle.scheme.specs.Making.{Where, in_register, in_upvalue, in_globals}
use Rattle.lua_num.specs.Bytes.{Text}
use Rattle.lua_model.specs.Datum.{Datum, nil, boolean, first_of, adjusted}
use Rattle.lua_model.specs.Store.{Outside, global}
use Rattle.source_meaning.specs.State.{State as SourceState, find, cell, meant}
use Rattle.source_meaning.specs.Tasks.{expression}
use Rattle.source_meaning.specs.Programs.{done, World, Answer, ended, failed, waiting, going}
use Rattle.source_meaning.specs.Meaning.{evaluate, name_value}
use Rattle.rules.specs.State.{need, set, set_all, name_of, value_of}
use Rattle.rules.specs.Cells.{read_cell}
use Rattle.rules.specs.Run.{Going, step, after}
use Rattle.scheme_stands.specs.Words.{Spot, ConstantWord, meaning}
use Rattle.scheme_stands.specs.Expressions.{NameBy}
use Rattle.scheme_stands.specs.Relation.{related}
use Rattle.agrees.proofs.Cells.{carry_get, cell_read}
use Rattle.agrees.proofs.Names.{Finds, name_finds}
use Rattle.agrees.proofs.Registers.{set_word, set_one}
use Rattle.agrees.proofs.Tasks.{Single, Asked, Simulates, scope, ValueBy, Evaluates}
use Rattle.agrees.proofs.Posts.{keeps_self, ValuePost, fail_of}
use Rattle.agrees.proofs.Accounts.{Place, Now, Post, Fail, Self, Goes, Follow, Asks, world, goes_done, goes_word, goes_ask, goes_weaken}
use Rattle.agrees.proofs.Sizes.{size_e}
use Rattle.agrees.proofs.Words.{word_abc, word_abx}
use Rattle.agrees.proofs.Picture.{code_of, Setup, of_cell, Ghost, Site, registers, pic, at, Ok}
use Rattle.agrees.proofs.PictureChanges.{top_register}

module _ (z : Setup) where
  -- the value of an upvalue
  pub up_value : (s : SourceState) (o : Outside) (g : Ghost) (x : Site) (pc i c : ℕ) → Ok z s g x → slice_get x.a.source_cells i ≡ Some c → (k : ℕ) × (slice_get x.a.machine_cells i ≡ Some k) × (read_cell (at s o g x pc) k ≡ Some (cell s c))
  up_value s o g x pc i c ok e =
      let y = carry_get g.owner x.a.machine_cells x.a.source_cells i c ok.acts.0.carry e in (y.0, y.1, cell_read z s o g x ok pc y.0 c y.2)

-- without a fact beside what is reached
pub asks_less : {A : Type 0} (bound j S : ℕ) (o : Outside) (p : Place) (F : Fail) (P : Post A) (Q : A → Type 0) (ans : World → Answer A) → Asks bound j S o p F (λ a s1 o1 p1. P a s1 o1 p1 × Q a) ans → Asks bound j S o p F P ans
asks_less bound j S o p F P Q ans g t = by (ans (world t o)) (g t)
  where
    by : (r : Answer _) → Follow bound j S t p F (λ a s1 o1 p1. P a s1 o1 p1 × Q a) r → Follow bound j S t p F P r
    by (ended a s w) f = record { to = f.to; holds = f.holds.0; reach = f.reach }
    by (failed v s w) f = f
    by (waiting w) f = f
    by (going w) f = f

pub value_of_expr : (z : Setup) (self : Self) → Simulates z self → (e : Expression) → ValueBy z e (Asked z (size_e e) (λ x. self (expression (scope x) e)))
value_of_expr z self ih e s o g x k free r p q ok a small lr w =
    asks_less z.bound 0 (size_e e) o (Now (at s o g x p.pc)) (fail_of z x) (ValuePost z x k r q.pc) (Single e) (self (expression (scope x) e) s) (ih.expr e s o g x k free r p q ok a small lr w)

module _ (z : Setup) (self : Self) where
  -- a value in the register by one word, which may change the source's state
  pub one_word : (x : Site) (k r : ℕ) (p q : Spot) (s s1 : SourceState) (o : Outside) (g g1 : Ghost) (vs : List Datum) → Ok z s1 g1 x → q.pc ≡ suc p.pc → step (at s o g x p.pc) ≡ Going (pic s1 o g1 x (suc p.pc) (slice_set (registers s1.cells x.a x.high) r (first_of vs)) None) → Goes z.bound self (fail_of z x) 1 0 o (Now (at s o g x p.pc)) (ValuePost z x k r q.pc) (done vs s1)
  one_word x k r p q s s1 o g g1 vs ok e h =
      goes_word z.bound self (fail_of z x) 0 0 o (at s o g x p.pc) _ (ValuePost z x k r q.pc) (done vs s1) h
      (goes_done z.bound self (fail_of z x) 0 0 o _ (ValuePost z x k r q.pc) vs s1
      (record { g = g1; high = x.high; keeps = keeps_self k x.high; is = ap (λ pc. Now (pic s1 o g1 x pc (slice_set (registers s1.cells x.a x.high) r (first_of vs)) None)) (sym e); ok = ok }))

  pub nil_goes : (line : ℕ) → Evaluates z self 1 (nil_literal line)
  nil_goes line s o g x k free r p q ok fr small lr w =
      one_word x k r p q s s o g g (nil ∷ []) ok w.next
      (word_abc x.a Op.LoadNil r r 0 p q (at s o g x p.pc) w refl refl
      ∙ ap (λ n. after (at s o g x p.pc) (set_all (at s o g x (suc p.pc)) r (replicate n nil))) (let e : suc r - r ≡ 1 = omega arith in e)
      ∙ ap (after (at s o g x p.pc)) (set_one z s o g x r (suc p.pc) nil ok lr))

  pub true_goes : (line : ℕ) → Evaluates z self 1 (true_literal line)
  true_goes line s o g x k free r p q ok fr small lr w =
      one_word x k r p q s s o g g (boolean true ∷ []) ok w.next
      (word_abc x.a Op.LoadBool r 1 0 p q (at s o g x p.pc) w refl refl
      ∙ ap (after (at s o g x p.pc)) (set_word z s o g x r (suc p.pc) (boolean true) ok lr))

  pub false_goes : (line : ℕ) → Evaluates z self 1 (false_literal line)
  false_goes line s o g x k free r p q ok fr small lr w =
      one_word x k r p q s s o g g (boolean false ∷ []) ok w.next
      (word_abc x.a Op.LoadBool r 0 0 p q (at s o g x p.pc) w refl refl
      ∙ ap (after (at s o g x p.pc)) (set_word z s o g x r (suc p.pc) (boolean false) ok lr))

  pub vararg_goes : (line : ℕ) → Evaluates z self 1 (vararg_expression line)
  vararg_goes line s o g x k free r p q ok fr small lr w =
      one_word x k r p q s s o g g x.a.extra ok w.next
      (word_abc x.a Op.Vararg r 2 0 p q (at s o g x p.pc) w refl refl
      ∙ ap (λ vs. after (at s o g x p.pc) (set_all (at s o g x (suc p.pc)) r vs)) (cut x.a.extra)
      ∙ ap (after (at s o g x p.pc)) (set_one z s o g x r (suc p.pc) (first_of x.a.extra) ok lr))
    where
      cut : (vs : List Datum) → adjusted 1 vs ≡ first_of vs ∷ []
      cut [] = refl
      cut (v ∷ vs) = refl

  -- LOADK
  pub load_word : (s : SourceState) (o : Outside) (g : Ghost) (x : Site) (k r : ℕ) (p q : Spot) (c : Constant) → Ok z s g x → r < (own x.a.chunk).registers → ConstantWord (code_of x.a) Op.LoadK r c p q → Goes z.bound self (fail_of z x) 1 0 o (Now (at s o g x p.pc)) (ValuePost z x k r q.pc) (done (value_of c ∷ []) s)
  load_word s o g x k r p q c ok lr w =
      one_word x k r p q s s o g g (value_of c ∷ []) ok w.word.next
      (word_abx x.a Op.LoadK r w.number p q (at s o g x p.pc) w.word refl refl
      ∙ ap (λ y. after (at s o g x p.pc) (need (option_map value_of y) (λ v. set (at s o g x (suc p.pc)) r v))) w.is
      ∙ ap (after (at s o g x p.pc)) (set_word z s o g x r (suc p.pc) (value_of c) ok lr))

  pub number_goes : (line : ℕ) (n : _) → Evaluates z self 1 (number_literal line n)
  number_goes line n s o g x k free r p q ok fr small lr w = load_word s o g x k r p q (Constant.Number n) ok lr w

  pub text_goes : (line : ℕ) (t : Text) → Evaluates z self 1 (text_literal line t)
  text_goes line t s o g x k free r p q ok fr small lr w = load_word s o g x k r p q (Constant.Text t) ok lr w

  -- a name: MOVE, GETUPVAL or GETGLOBAL
  pub name_word : (name : Text) (y : Where) (s : SourceState) (o : Outside) (g : Ghost) (x : Site) (k r : ℕ) (p q : Spot) → Finds x name y → Ok z s g x → r < (own x.a.chunk).registers → NameBy (code_of x.a) name y r p q → Goes z.bound self (fail_of z x) 1 0 o (Now (at s o g x p.pc)) (ValuePost z x k r q.pc) (done (name_value (meant (scope x) name) name s ∷ []) s)
  name_word name (in_register i) s o g x k r p q h ok lr w =
      let e : name_value (option_or (find name x.a.own) (find name x.a.outer)) name s ≡ cell s h.0 = ap (λ f. name_value (option_or f (find name x.a.outer)) name s) h.1 in
      subst (λ v. Goes z.bound self (fail_of z x) 1 0 o (Now (at s o g x p.pc)) (ValuePost z x k r q.pc) (done (v ∷ []) s)) (sym e)
      (one_word x k r p q s s o g g (cell s h.0 ∷ []) ok w.next
      (word_abc x.a Op.Move r i 0 p q (at s o g x p.pc) w refl refl
      ∙ ap (λ y. after (at s o g x p.pc) (need y (λ v. set (at s o g x (suc p.pc)) r v))) (top_register s.cells x.a x.high i (of_cell h.0) h.2)
      ∙ ap (after (at s o g x p.pc)) (set_word z s o g x r (suc p.pc) (cell s h.0) ok lr)))
  name_word name (in_upvalue i) s o g x k r p q h ok lr w =
      let e : name_value (option_or (find name x.a.own) (find name x.a.outer)) name s ≡ cell s h.0 =
      ap (λ f. name_value (option_or f (find name x.a.outer)) name s) h.1 ∙ ap (λ f. name_value f name s) h.2 in
      let u = up_value z s o g x (suc p.pc) i h.0 ok h.3 in
      subst (λ v. Goes z.bound self (fail_of z x) 1 0 o (Now (at s o g x p.pc)) (ValuePost z x k r q.pc) (done (v ∷ []) s)) (sym e)
      (one_word x k r p q s s o g g (cell s h.0 ∷ []) ok w.next
      (word_abc x.a Op.GetUpval r i 0 p q (at s o g x p.pc) w refl refl
      ∙ ap (λ y. after (at s o g x p.pc) (need y (λ c. need (read_cell (at s o g x (suc p.pc)) c) (λ v. set (at s o g x (suc p.pc)) r v)))) u.1
      ∙ ap (λ y. after (at s o g x p.pc) (need y (λ v. set (at s o g x (suc p.pc)) r v))) u.2
      ∙ ap (after (at s o g x p.pc)) (set_word z s o g x r (suc p.pc) (cell s h.0) ok lr)))
  name_word name in_globals s o g x k r p q h ok lr w =
      let e : name_value (option_or (find name x.a.own) (find name x.a.outer)) name s ≡ global s.store name =
      ap (λ f. name_value (option_or f (find name x.a.outer)) name s) h.0 ∙ ap (λ f. name_value f name s) h.1 in
      subst (λ v. Goes z.bound self (fail_of z x) 1 0 o (Now (at s o g x p.pc)) (ValuePost z x k r q.pc) (done (v ∷ []) s)) (sym e)
      (one_word x k r p q s s o g g (global s.store name ∷ []) ok w.word.next
      (word_abx x.a Op.GetGlobal r w.number p q (at s o g x p.pc) w.word refl refl
      ∙ ap (λ y. after (at s o g x p.pc) (need (option_and_then name_of (option_map value_of y)) (λ n. set (at s o g x (suc p.pc)) r (global s.store n)))) w.is
      ∙ ap (after (at s o g x p.pc)) (set_word z s o g x r (suc p.pc) (global s.store name) ok lr)))

  -- as an expression, with what the name that comes next means
  pub name_goes : (line : ℕ) (name : Text) (s : SourceState) (o : Outside) (g : Ghost) (x : Site) (k free r : ℕ) (p q : Spot) → Ok z s g x → r < (own x.a.chunk).registers → (related (code_of x.a) (name_expression line name)).to_reg x.a.active free r p q → Goes z.bound self (fail_of z x) 1 0 o (Now (at s o g x p.pc)) (ValuePost z x k r q.pc) (evaluate (name_expression line name) (scope x) s)
  name_goes line name s o g x k free r p q ok lr w =
      subst (λ pc. Goes z.bound self (fail_of z x) 1 0 o (Now (at s o g x pc)) (ValuePost z x k r q.pc) (evaluate (name_expression line name) (scope x) s)) w.1.first_at.pc
      (name_word name (meaning x.a.active p) s o g x k r w.1.mid q (name_finds g.owner x name (meaning x.a.active p) ok.acts.0 w.0) ok lr w.1.second_at)

  -- parentheses cut to one value
  pub paren_goes : Simulates z self → (line : ℕ) (e : Expression) → Evaluates z self 0 (parenthesized line e)
  paren_goes ih line e s o g x k free r p q ok fr small lr w =
      goes_weaken z.bound self (fail_of z x) 0 (size_e e + 0) 0 (size_e e) o (Now (at s o g x p.pc)) (ValuePost z x k r q.pc) _ (omega arith) (omega arith)
      (goes_ask z.bound self (fail_of z x) (size_e e) 0 0 o (Now (at s o g x p.pc)) (expression (scope x) e) s (ValuePost z x k r q.pc) (ValuePost z x k r q.pc) _
      (value_of_expr z self ih e s o g x k free r p q ok fr (omega arith) lr w)
      (λ vs s1 o1 p1 h. goes_done z.bound self (fail_of z x) 0 0 o1 p1 (ValuePost z x k r q.pc) (first_of vs ∷ []) s1 (record { g = h.g; high = h.high; keeps = h.keeps; is = h.is; ok = h.ok })))
