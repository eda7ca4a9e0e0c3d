-- Conditions by `not`, `and`, `or` and parentheses: they have no words of their own.
use Rattle.std.proofs.Common.{◌≡◌, ◌≤◌, ℕ, suc, ◌+◌, Bool, true, false, not, cond, List, [], ◌∷◌, refl, sym, ap, ◌∙◌, subst, arith}
use Rattle.std.specs.Bool.{beq}
use Rattle.opcode.specs.declared.op.Op.{Op}
use Rattle.proto.specs.declared.parts.Constant.{Constant}
use Rattle.scheme.specs.Expressions.{is_true_constant}
use Rattle.lua_tree.specs.declared.tree.UnaryOp.{UnaryOp}
use Rattle.lua_tree.specs.Syntax.{Expression, and_expression, or_expression, unary_expression, parenthesized}
use Rattle.lua_model.specs.Datum.{Datum, boolean, first_of, is_true}
use Rattle.lua_model.specs.Store.{Outside}
use Rattle.source_meaning.specs.State.{State as SourceState}
use Rattle.source_meaning.specs.Tasks.{expression}
use Rattle.source_meaning.specs.Programs.{Prog}
use Rattle.source_meaning.specs.Meaning.{with_value, one, evaluate}
use Rattle.rules.specs.State.{State, value_of}
use Rattle.rules.specs.Run.{after}
use Rattle.scheme_stands.specs.Words.{Spot, JumpOn}
use Rattle.scheme_stands.specs.Expressions.{LogicJump}
use Rattle.scheme_stands.specs.Relation.{related}
use Rattle.agrees.proofs.Tasks.{Does, Above, CondBy, Simulates, scope}
use Rattle.agrees.proofs.Posts.{keeps_on, JumpPost, Splits, same, fail_of}
use Rattle.agrees.proofs.Accounts.{Place, Now, Soon, Post, Self, Goes, Arrive, prefix_self, goes_done, goes_ask, goes_weaken, goes_from, goes_is, goes_more, goes_step, to_here, to_soon, reach_then, reach_soon, Stays}
use Rattle.agrees.proofs.Sizes.{inner, size_e, call_cost}
use Rattle.agrees.proofs.Words.{word_jump, jumps}
use Rattle.agrees.proofs.Picture.{code_of, Setup, Ghost, Site, raised, at, Ok}
use Rattle.agrees.proofs.ConditionTests.{same_flip}

pub constant_truth : (k : Constant) → is_true (value_of k) ≡ is_true_constant k
constant_truth Constant.Nil = refl
constant_truth (Constant.Bool b) = refl
constant_truth (Constant.Number n) = refl
constant_truth (Constant.Text t) = refl

-- what decides is the condition's own truth, or the other one
decides : (c t b : Bool) → b ≡ c → same t b ≡ beq c t
decides true true b e = ap (same true) e
decides true false b e = ap (same false) e
decides false true b e = ap (same true) e
decides false false b e = ap (same false) e

same_self : (c b : Bool) → b ≡ c → same c b ≡ true
same_self true b e = e
same_self false b e = ap (same false) e

same_other : (c b : Bool) → b ≡ not c → same c b ≡ false
same_other true b e = e
same_other false b e = ap (same false) e

module _ (z : Setup) where
  -- the next word is charged
  pub arrive_soon : (n : ℕ) (m : State) (R : Place → Type 0) → Arrive z.bound 0 0 n (Soon m) n R → Arrive z.bound 1 0 n (Now m) n R
  arrive_soon n m R a = record { to = a.to; holds = a.holds; reach = reach_then z.bound 1 0 0 0 n n n (Now m) (Soon m) a.to (reach_soon z.bound n m) a.reach }

  -- a JMP, where there is one
  pub jump_on : (b : Bool) (x : Site) (l : ℕ) (p q : Spot) (s : SourceState) (o : Outside) (g : Ghost) → JumpOn (code_of x.a) b l p q → (n : ℕ) → Arrive z.bound 1 0 n (Now (at s o g x p.pc)) n (Splits b (at s o g x) l q.pc)
  jump_on true x l p q s o g w n =
      to_soon z.bound n (at s o g x p.pc) (Splits true (at s o g x) l q.pc)
      (at s o g x p.pc, refl, prefix_self o.events, word_jump x.a Op.Jmp 0 l p q (at s o g x p.pc) w refl refl ∙ ap (after (at s o g x p.pc)) (jumps (at s o g x (suc p.pc)) p.pc l refl))
  jump_on false x l p q s o g w n = to_here z.bound 1 n _ (Splits false (at s o g x) l q.pc) (ap (λ pc. Now (at s o g x pc)) (sym w.pc))

  module _ (self : Self) where
    -- from a value that is known without a word
    pub from_known : (v : Datum) (j S : ℕ) (s : SourceState) (o : Outside) (x : Site) (p : Place) (P : Post Datum) (prog : Prog (List Datum)) → Goes z.bound self (fail_of z x) 0 S o p (Stays (v ∷ []) s o p) prog → ((n : ℕ) → Arrive z.bound j 0 n p n (P v s o)) → Goes z.bound self (fail_of z x) j S o p (λ vs. P (first_of vs)) prog
    from_known v j S s o x p P prog g a =
        goes_weaken z.bound self (fail_of z x) (0 + j) S j S o p (λ vs. P (first_of vs)) prog (omega arith) (omega arith)
        (goes_more z.bound self (fail_of z x) 0 j S o p (Stays (v ∷ []) s o p) (λ vs. P (first_of vs)) prog g
        (λ vs s1 o1 p1 h n.
        subst (λ y. Arrive z.bound j 0 n y n (P (first_of vs) s1 o1)) (sym h.3)
        (subst (λ y. Arrive z.bound j 0 n p n (P (first_of vs) s1 y)) (sym h.2)
        (subst (λ y. Arrive z.bound j 0 n p n (P (first_of vs) y o)) (sym h.1)
        (subst (λ us. Arrive z.bound j 0 n p n (P (first_of us) s o)) (sym h.0) (a n))))))

module _ (z : Setup) (self : Self) (ih : Simulates z self) where
  -- ## `not`, parentheses

  pub not_cond : (line : ℕ) (e : Expression) → CondBy z (unary_expression line UnaryOp.Not e) (Does z self 0 (inner (unary_expression line UnaryOp.Not e)) (λ x s. evaluate (unary_expression line UnaryOp.Not e) (scope x) s))
  not_cond line e t s o g x k free l p q ok above small w =
      goes_ask z.bound self (fail_of z x) (size_e e) 0 call_cost o (Now (at s o g x p.pc)) (expression (scope x) e) s (λ vs. JumpPost z x k (not t) l q.pc (first_of vs)) (λ vs. JumpPost z x k t l q.pc (first_of vs)) _
      (ih.cond e (not t) s o g x k free l p q ok above (omega arith) w)
      (λ vs s1 o1 p1 h. goes_done z.bound self (fail_of z x) 0 call_cost o1 p1 (λ us. JumpPost z x k t l q.pc (first_of us)) (boolean (not (is_true (first_of vs))) ∷ []) s1
      (record { g = h.g; high = h.high; keeps = h.keeps; is = subst (λ b. Splits b (at s1 o1 h.g (raised x h.high)) l q.pc p1) (same_flip t (is_true (first_of vs))) h.is; ok = h.ok }))

  pub paren_cond : (line : ℕ) (e : Expression) → CondBy z (parenthesized line e) (Does z self 0 (inner (parenthesized line e)) (λ x s. evaluate (parenthesized line e) (scope x) s))
  paren_cond line e t s o g x k free l p q ok above small w =
      goes_weaken z.bound self (fail_of z x) 0 (size_e e + 0) 0 (size_e e) o (Now (at s o g x p.pc)) (λ vs. JumpPost z x k t l q.pc (first_of vs)) _ (omega arith) (omega arith)
      (goes_ask z.bound self (fail_of z x) (size_e e) 0 0 o (Now (at s o g x p.pc)) (expression (scope x) e) s (λ vs. JumpPost z x k t l q.pc (first_of vs)) (λ vs. JumpPost z x k t l q.pc (first_of vs)) _
      (ih.cond e t s o g x k free l p q ok above (omega arith) w)
      (λ vs s1 o1 p1 h. goes_done z.bound self (fail_of z x) 0 0 o1 p1 (λ us. JumpPost z x k t l q.pc (first_of us)) (first_of vs ∷ []) s1 h))

  -- ## `and`, `or`

  -- the first condition decides: on to the label, or over the second one
  logic_decided : (both : Bool) (x : Site) (k l q mid : ℕ) (c t : Bool) (v : Datum) (s : SourceState) (o : Outside) (p : Place) → same t (is_true v) ≡ both → same c (is_true v) ≡ true → JumpPost z x k c (cond both l q) mid v s o p → Goes z.bound self (fail_of z x) 0 0 o p (λ vs. JumpPost z x k t l q (first_of vs)) (one v s)
  logic_decided true x k l q mid c t v s o p et ec h =
      goes_done z.bound self (fail_of z x) 0 0 o p (λ us. JumpPost z x k t l q (first_of us)) (v ∷ []) s
      (record { g = h.g; high = h.high; keeps = h.keeps; is = subst (λ b. Splits b (at s o h.g (raised x h.high)) l q p) (sym et) (subst (λ b. Splits b (at s o h.g (raised x h.high)) l mid p) ec h.is); ok = h.ok })
  logic_decided false x k l q mid c t v s o p et ec h =
      let sp : Splits true (at s o h.g (raised x h.high)) q mid p = subst (λ b. Splits b (at s o h.g (raised x h.high)) q mid p) ec h.is in
      goes_from z.bound self (fail_of z x) 0 0 o p _ (λ us. JumpPost z x k t l q (first_of us)) _ sp.1
      (goes_step z.bound self (fail_of z x) 0 0 o sp.0 (at s o h.g (raised x h.high) q) (λ us. JumpPost z x k t l q (first_of us)) _ sp.3
      (goes_done z.bound self (fail_of z x) 0 0 o (Now (at s o h.g (raised x h.high) q)) (λ us. JumpPost z x k t l q (first_of us)) (v ∷ []) s
      (record { g = h.g; high = h.high; keeps = h.keeps; is = subst (λ b. Splits b (at s o h.g (raised x h.high)) l q (Now (at s o h.g (raised x h.high) q))) (sym et) refl; ok = h.ok })))

  -- it does not decide: the second one
  logic_second : (e : Expression) (x : Site) (k free l label : ℕ) (mid q : Spot) (c t : Bool) (v : Datum) (s : SourceState) (o : Outside) (p : Place) → same c (is_true v) ≡ false → Above x k free → size_e e ≤ z.bound → (related (code_of x.a) e).jump_if x.a.active free t l mid q → JumpPost z x k c label mid.pc v s o p → Goes z.bound self (fail_of z x) 0 (size_e e) o p (λ vs. JumpPost z x k t l q.pc (first_of vs)) (with_value (scope x) e s one)
  logic_second e x k free l label mid q c t v s o p ec above small w h =
      let x1 : Site = raised x h.high in
      goes_from z.bound self (fail_of z x) 0 (size_e e) o p _ (λ us. JumpPost z x k t l q.pc (first_of us)) _ (subst (λ b. Splits b (at s o h.g x1) label mid.pc p) ec h.is)
      (goes_weaken z.bound self (fail_of z x) 0 (size_e e + 0) 0 (size_e e) o (Now (at s o h.g x1 mid.pc)) (λ vs. JumpPost z x k t l q.pc (first_of vs)) _ (omega arith) (omega arith)
      (goes_ask z.bound self (fail_of z x) (size_e e) 0 0 o (Now (at s o h.g x1 mid.pc)) (expression (scope x) e) s (λ vs. JumpPost z x1 k t l q.pc (first_of vs)) (λ vs. JumpPost z x k t l q.pc (first_of vs)) _
      (ih.cond e t s o h.g x1 k free l mid q h.ok (record { is = above.is; within = above.within }) small w)
      (λ vs s1 o1 p1 h1. goes_done z.bound self (fail_of z x) 0 0 o1 p1 (λ us. JumpPost z x k t l q.pc (first_of us)) (first_of vs ∷ []) s1
      (record { g = h1.g; high = h1.high; keeps = keeps_on k k x.high h.high h1.high (omega arith) h.keeps h1.keeps; is = h1.is; ok = h1.ok }))))

  -- both jumps, whatever the labels are
  record LogicWords (x : Site) (c t : Bool) (left right : Expression) (free l : ℕ) (p q : Spot) : Type 0 where
    mid : Spot
    first : (related (code_of x.a) left).jump_if x.a.active free c (cond (beq c t) l q.pc) p mid
    second : (related (code_of x.a) right).jump_if x.a.active free t l mid q

  logic_words : (x : Site) (c t : Bool) (left right : Expression) (free l : ℕ) (p q : Spot) → LogicJump (beq c t) (related (code_of x.a) left) (related (code_of x.a) right) x.a.active free t l p q → LogicWords x c t left right free l p q
  logic_words x true true left right free l p q w = record { mid = w.mid; first = w.first_at; second = w.second_at }
  logic_words x true false left right free l p q w = record { mid = w.mid; first = w.first_at; second = w.second_at }
  logic_words x false true left right free l p q w = record { mid = w.mid; first = w.first_at; second = w.second_at }
  logic_words x false false left right free l p q w = record { mid = w.mid; first = w.first_at; second = w.second_at }

  logic_by : (c : Bool) (left right : Expression) (x : Site) (go : Datum → SourceState → Prog (List Datum)) → ((v : Datum) (s : SourceState) → is_true v ≡ c → go v s ≡ one v s) → ((v : Datum) (s : SourceState) → is_true v ≡ not c → go v s ≡ with_value (scope x) right s one) → (t : Bool) (s : SourceState) (o : Outside) (g : Ghost) (k free l : ℕ) (p q : Spot) → Ok z s g x → Above x k free → size_e left ≤ z.bound → size_e right ≤ z.bound → LogicWords x c t left right free l p q → Goes z.bound self (fail_of z x) 0 (size_e left + size_e right) o (Now (at s o g x p.pc)) (λ vs. JumpPost z x k t l q.pc (first_of vs)) (with_value (scope x) left s go)
  logic_by c left right x go decided undecided t s o g k free l p q ok above sl sr w =
      goes_ask z.bound self (fail_of z x) (size_e left) 0 (size_e right) o (Now (at s o g x p.pc)) (expression (scope x) left) s (λ vs. JumpPost z x k c (cond (beq c t) l q.pc) w.mid.pc (first_of vs)) (λ vs. JumpPost z x k t l q.pc (first_of vs)) _
      (ih.cond left c s o g x k free (cond (beq c t) l q.pc) p w.mid ok above sl w.first)
      (λ vs s1 o1 p1 h. behind (first_of vs) s1 o1 p1 h (is_true (first_of vs)) c refl refl)
    where
      decides_it : (v : Datum) (s1 : SourceState) (o1 : Outside) (p1 : Place) → JumpPost z x k c (cond (beq c t) l q.pc) w.mid.pc v s1 o1 p1 → is_true v ≡ c → Goes z.bound self (fail_of z x) 0 (size_e right) o1 p1 (λ vs. JumpPost z x k t l q.pc (first_of vs)) (go v s1)
      decides_it v s1 o1 p1 h e =
          goes_is z.bound self (fail_of z x) 0 (size_e right) o1 p1 (λ vs. JumpPost z x k t l q.pc (first_of vs)) _ (one v s1) (decided v s1 e)
          (goes_weaken z.bound self (fail_of z x) 0 0 0 (size_e right) o1 p1 (λ vs. JumpPost z x k t l q.pc (first_of vs)) _ (omega arith) (omega arith)
          (logic_decided (beq c t) x k l q.pc w.mid.pc c t v s1 o1 p1 (decides c t (is_true v) e) (same_self c (is_true v) e) h))

      second : (v : Datum) (s1 : SourceState) (o1 : Outside) (p1 : Place) → JumpPost z x k c (cond (beq c t) l q.pc) w.mid.pc v s1 o1 p1 → is_true v ≡ not c → Goes z.bound self (fail_of z x) 0 (size_e right) o1 p1 (λ vs. JumpPost z x k t l q.pc (first_of vs)) (go v s1)
      second v s1 o1 p1 h e =
          goes_is z.bound self (fail_of z x) 0 (size_e right) o1 p1 (λ vs. JumpPost z x k t l q.pc (first_of vs)) _ (with_value (scope x) right s1 one) (undecided v s1 e)
          (logic_second right x k free l (cond (beq c t) l q.pc) w.mid q c t v s1 o1 p1 (same_other c (is_true v) e) above sr w.second h)

      behind : (v : Datum) (s1 : SourceState) (o1 : Outside) (p1 : Place) → JumpPost z x k c (cond (beq c t) l q.pc) w.mid.pc v s1 o1 p1 → (b c1 : Bool) → is_true v ≡ b → c ≡ c1 → Goes z.bound self (fail_of z x) 0 (size_e right) o1 p1 (λ vs. JumpPost z x k t l q.pc (first_of vs)) (go v s1)
      behind v s1 o1 p1 h true true e ec = decides_it v s1 o1 p1 h (e ∙ sym ec)
      behind v s1 o1 p1 h false false e ec = decides_it v s1 o1 p1 h (e ∙ sym ec)
      behind v s1 o1 p1 h false true e ec = second v s1 o1 p1 h (e ∙ ap not (sym ec))
      behind v s1 o1 p1 h true false e ec = second v s1 o1 p1 h (e ∙ ap not (sym ec))

  pub and_cond : (line : ℕ) (left right : Expression) → CondBy z (and_expression line left right) (Does z self 0 (inner (and_expression line left right)) (λ x s. evaluate (and_expression line left right) (scope x) s))
  and_cond line left right t s o g x k free l p q ok above small w =
      logic_by false left right x (λ v s1. elim (is_true v) [ true ↦ with_value (scope x) right s1 one | false ↦ one v s1 ])
      (λ v s1 e. ap (λ b. elim b [ true ↦ with_value (scope x) right s1 one | false ↦ one v s1 ]) e)
      (λ v s1 e. ap (λ b. elim b [ true ↦ with_value (scope x) right s1 one | false ↦ one v s1 ]) e)
      t s o g k free l p q ok above (omega arith) (omega arith) (logic_words x false t left right free l p q w)

  pub or_cond : (line : ℕ) (left right : Expression) → CondBy z (or_expression line left right) (Does z self 0 (inner (or_expression line left right)) (λ x s. evaluate (or_expression line left right) (scope x) s))
  or_cond line left right t s o g x k free l p q ok above small w =
      logic_by true left right x (λ v s1. elim (is_true v) [ true ↦ one v s1 | false ↦ with_value (scope x) right s1 one ])
      (λ v s1 e. ap (λ b. elim b [ true ↦ one v s1 | false ↦ with_value (scope x) right s1 one ]) e)
      (λ v s1 e. ap (λ b. elim b [ true ↦ one v s1 | false ↦ with_value (scope x) right s1 one ]) e)
      t s o g k free l p q ok above (omega arith) (omega arith) (logic_words x true t left right free l p q w)
