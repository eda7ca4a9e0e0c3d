-- What the source alone says of an answer: how many values an expression gives.
use Rattle.std.proofs.Common.{◌≡◌, ℕ, zero, suc, Bool, true, false, List, [], ◌∷◌, Option, Some, None, refl, sym, subst, ◌∙◌}
use Rattle.lua_tree.specs.declared.tree.BinaryOp.{BinaryOp}
use Rattle.lua_tree.specs.declared.tree.UnaryOp.{UnaryOp}
use Rattle.lua_tree.specs.Syntax.{Expression, nil_literal, true_literal, false_literal, vararg_expression, number_literal, text_literal, name_expression, function_expression, index_expression, field_expression, call_expression, method_call, and_expression, or_expression, binary_expression, unary_expression, constructor, parenthesized}
use Rattle.lua_model.specs.Datum.{Datum, text, first_of, is_true}
use Rattle.lua_model.specs.Operators.{negate, size, index}
use Rattle.lua_model.specs.Acts.{Act}
use Rattle.lua_model.specs.Store.{Outside}
use Rattle.source_meaning.specs.State.{State as SourceState, Place as Scope, Taken, taken, late}
use Rattle.source_meaning.specs.Tasks.{expression, local_taken}
use Rattle.source_meaning.specs.Programs.{Prog, done, ask, and_then, World, Answer, ended, failed, waiting, going, after, spend, run}
use Rattle.source_meaning.specs.Meaning.{evaluate, own_local, with_value, with_late, with_left, perform, perform_one, one, unary, finish_binary, construct, make_closure, binary, read}
use Rattle.source_meaning.proofs.Joins.{run_and_then}
use Rattle.scheme_stands.specs.Expressions.{several, form_of}
use Rattle.agrees.proofs.Tasks.{tasked, Single}
use Rattle.agrees.proofs.Accounts.{Place, Post, Fail, Self, Goes, Follow, world, Asks}

-- what holds of a result, where there is one
abbrev pub Gives_only : {A : Type 0} → (A → Type 0) → Answer A → Type 0
Gives_only Q (ended a s w) = Q a
Gives_only Q (failed v s w) = Unit {0}
Gives_only Q (waiting w) = Unit {0}
Gives_only Q (going w) = Unit {0}

pub after_only : {A B : Type 0} (Q : B → Type 0) (r : Answer A) (k : A → SourceState → World → Answer B) → ((a : A) (s : SourceState) (w : World) → Gives_only Q (k a s w)) → Gives_only Q (after r k)
after_only Q (ended a s w) k h = h a s w
after_only Q (failed v s w) k h = tt
after_only Q (waiting w) k h = tt
after_only Q (going w) k h = tt

pub spend_only : {A : Type 0} (Q : A → Type 0) (t : ℕ) (w : World) (k : World → Answer A) → ((w1 : World) → Gives_only Q (k w1)) → Gives_only Q (spend t w k)
spend_only Q zero w k h = tt
spend_only Q (suc t) w k h = h _

-- a fact of the source's answer beside what is reached
pub asks_also : {A : Type 0} (bound j S : ℕ) (o : Outside) (p : Place) (F : Fail) (P : Post A) (Q : A → Type 0) (ans : World → Answer A) → ((w : World) → Gives_only Q (ans w)) → Asks bound j S o p F P ans → Asks bound j S o p F (λ a s1 o1 p1. P a s1 o1 p1 × Q a) ans
asks_also bound j S o p F P Q ans h g t = by (ans (world t o)) (h (world t o)) (g t)
  where
    by : (r : Answer _) → Gives_only Q r → Follow bound j S t p F P r → Follow bound j S t p F (λ a s1 o1 p1. P a s1 o1 p1 × Q a) r
    by (ended a s w) q f = record { to = f.to; holds = (f.holds, q); reach = f.reach }
    by (failed v s w) q f = f
    by (waiting w) q f = f
    by (going w) q f = f

-- what holds of each result of a program. As a record, so that the program is read off its type
pub record Only {A : Type 0} (self : Self) (Q : A → Type 0) (prog : Prog A) : Type 0 where
  pub is : (w : World) → Gives_only Q (run self prog w)

module _ (self : Self) where
  pub only_done : {A : Type 0} (Q : A → Type 0) (a : A) (s : SourceState) → Q a → Only self Q (done a s)
  only_done Q a s h = record { is = λ w. h }

  pub then_only : {A B : Type 0} (Q : B → Type 0) (prog : Prog A) (k : A → SourceState → Prog B) → ((a : A) (s : SourceState) → Only self Q (k a s)) → Only self Q (and_then prog k)
  then_only Q prog k h = record { is = λ w. subst (Gives_only Q) (sym (run_and_then self prog k w)) (after_only Q (run self prog w) (λ a s. run self (k a s)) (λ a s w1. (h a s).is w1)) }

  -- a fact of the source's answer beside what is reached
  pub goes_also : {A : Type 0} (bound : ℕ) (F : Fail) (j S : ℕ) (o : Outside) (p : Place) (P : Post A) (Q : A → Type 0) (prog : Prog A) → Only self Q prog → Goes bound self F j S o p P prog → Goes bound self F j S o p (λ a s1 o1 p1. P a s1 o1 p1 × Q a) prog
  goes_also bound F j S o p P Q prog h g = record { is = asks_also bound j S o p F P Q (run self prog) h.is g.is }

  module _ (Q : List Datum → Type 0) where
    pub only_value : (here : Scope) (e : Expression) (s : SourceState) (k : Datum → SourceState → Prog (List Datum)) → ((v : Datum) (s1 : SourceState) → Only self Q (k v s1)) → Only self Q (with_value here e s k)
    only_value here e s k h = record { is = λ w. after_only Q (self (expression here e) s w) (λ vs s1. run self (k (first_of vs) s1)) (λ vs s1 w1. (h (first_of vs) s1).is w1) }

    pub only_late : (here : Scope) (e : Expression) (s : SourceState) (k : Taken → SourceState → Prog (List Datum)) → ((v : Taken) (s1 : SourceState) → Only self Q (k v s1)) → Only self Q (with_late here e s k)
    only_late here e s k h = by (own_local here e)
      where
        by : (l : Option ℕ) → Only self Q (elim l [ None ↦ with_value here e s (λ v s1. k (taken v) s1) | Some c ↦ ask (local_taken c) s (λ u s1. k (late c) s1) ])
        by None = only_value here e s (λ v s1. k (taken v) s1) (λ v s1. h (taken v) s1)
        by (Some c) = record { is = λ w. after_only Q (self (local_taken c) s w) (λ u s1. run self (k (late c) s1)) (λ u s1 w1. (h (late c) s1).is w1) }

    pub only_left : (op : BinaryOp) (here : Scope) (e : Expression) (s : SourceState) (k : Taken → SourceState → Prog (List Datum)) → ((v : Taken) (s1 : SourceState) → Only self Q (k v s1)) → Only self Q (with_left op here e s k)
    only_left BinaryOp.Concat here e s k h = only_value here e s (λ v s1. k (taken v) s1) (λ v s1. h (taken v) s1)
    only_left BinaryOp.Add here e s k h = only_late here e s k h
    only_left BinaryOp.Sub here e s k h = only_late here e s k h
    only_left BinaryOp.Mul here e s k h = only_late here e s k h
    only_left BinaryOp.Div here e s k h = only_late here e s k h
    only_left BinaryOp.Rem here e s k h = only_late here e s k h
    only_left BinaryOp.Pow here e s k h = only_late here e s k h
    only_left BinaryOp.Eq here e s k h = only_late here e s k h
    only_left BinaryOp.Ne here e s k h = only_late here e s k h
    only_left BinaryOp.Lt here e s k h = only_late here e s k h
    only_left BinaryOp.Le here e s k h = only_late here e s k h
    only_left BinaryOp.Gt here e s k h = only_late here e s k h
    only_left BinaryOp.Ge here e s k h = only_late here e s k h

  -- ## one value

  abbrev pub OneValue : List Datum → Type 0
  OneValue vs = vs ≡ first_of vs ∷ []

  single_one : (v : Datum) (s : SourceState) → Only self OneValue (one v s)
  single_one v s = only_done OneValue (v ∷ []) s refl

  single_act : (here : Scope) (act : Act) (s : SourceState) → Only self OneValue (perform_one here act s)
  single_act here act s = then_only OneValue (perform here act s) one (λ a s1. single_one a s1)

  single_finish : (op : BinaryOp) (v : Datum) (s : SourceState) → Only self OneValue (finish_binary op v s)
  single_finish BinaryOp.Ne v s = single_one _ s
  single_finish BinaryOp.Concat v s = single_one v s
  single_finish BinaryOp.Add v s = single_one v s
  single_finish BinaryOp.Sub v s = single_one v s
  single_finish BinaryOp.Mul v s = single_one v s
  single_finish BinaryOp.Div v s = single_one v s
  single_finish BinaryOp.Rem v s = single_one v s
  single_finish BinaryOp.Pow v s = single_one v s
  single_finish BinaryOp.Eq v s = single_one v s
  single_finish BinaryOp.Lt v s = single_one v s
  single_finish BinaryOp.Le v s = single_one v s
  single_finish BinaryOp.Gt v s = single_one v s
  single_finish BinaryOp.Ge v s = single_one v s

  single_unary : (op : UnaryOp) (here : Scope) (v : Datum) (s : SourceState) → Only self OneValue (unary op here v s)
  single_unary UnaryOp.Not here v s = single_one _ s
  single_unary UnaryOp.Neg here v s = single_act here (negate s.store v) s
  single_unary UnaryOp.Len here v s = single_act here (size s.store v) s

  -- an expression that is no call and not `...` gives one value
  pub single : (e : Expression) → several (form_of e) ≡ false → (here : Scope) (s : SourceState) → Only self OneValue (evaluate e here s)
  single (nil_literal line) h here s = single_one _ s
  single (true_literal line) h here s = single_one _ s
  single (false_literal line) h here s = single_one _ s
  single (vararg_expression line) h here s = cc
  single (number_literal line n) h here s = single_one _ s
  single (text_literal line t) h here s = single_one _ s
  single (name_expression line name) h here s = single_one _ s
  single (function_expression line f) h here s = then_only OneValue (make_closure here f s) one (λ a s1. single_one a s1)
  single (index_expression line on key) h here s =
      only_late OneValue here on s (λ v s1. with_value here key s1 (λ k s2. perform_one here (index s2.store (read v s2) k) s2))
      (λ v s1. only_value OneValue here key s1 (λ k s2. perform_one here (index s2.store (read v s2) k) s2) (λ k s2. single_act here (index s2.store (read v s2) k) s2))
  single (field_expression line on name) h here s = only_late OneValue here on s (λ v s1. perform_one here (index s1.store (read v s1) (text name)) s1) (λ v s1. single_act here (index s1.store (read v s1) (text name)) s1)
  single (call_expression line on args on_line) h here s = cc
  single (method_call line on name args on_line) h here s = cc
  single (and_expression line left right) h here s = only_value OneValue here left s (λ v s1. elim (is_true v) [ true ↦ with_value here right s1 one | false ↦ one v s1 ]) (λ v s1. by (is_true v) v s1)
    where
      by : (b : Bool) (v : Datum) (s1 : SourceState) → Only self OneValue (elim b [ true ↦ with_value here right s1 one | false ↦ one v s1 ])
      by true v s1 = only_value OneValue here right s1 one (λ u s2. single_one u s2)
      by false v s1 = single_one v s1
  single (or_expression line left right) h here s = only_value OneValue here left s (λ v s1. elim (is_true v) [ true ↦ one v s1 | false ↦ with_value here right s1 one ]) (λ v s1. by (is_true v) v s1)
    where
      by : (b : Bool) (v : Datum) (s1 : SourceState) → Only self OneValue (elim b [ true ↦ one v s1 | false ↦ with_value here right s1 one ])
      by false v s1 = only_value OneValue here right s1 one (λ u s2. single_one u s2)
      by true v s1 = single_one v s1
  single (binary_expression line op left right) h here s =
      only_left OneValue op here left s (λ a s1. with_value here right s1 (λ b s2. and_then (perform here (binary s2.store op (read a s2) b) s2) (finish_binary op)))
      (λ a s1. only_value OneValue here right s1 (λ b s2. and_then (perform here (binary s2.store op (read a s2) b) s2) (finish_binary op))
      (λ b s2. then_only OneValue (perform here (binary s2.store op (read a s2) b) s2) (finish_binary op) (λ v s3. single_finish op v s3)))
  single (unary_expression line op e) h here s = only_value OneValue here e s (unary op here) (λ v s1. single_unary op here v s1)
  single (constructor line fs) h here s = then_only OneValue (construct fs here s) one (λ a s1. single_one a s1)
  single (parenthesized line e) h here s = only_value OneValue here e s one (λ v s1. single_one v s1)

-- of the task
abbrev pub Singles : Self → Type 0
Singles self = (e : Expression) → several (form_of e) ≡ false → (here : Scope) (s : SourceState) (w : World) → Gives_only (λ vs. vs ≡ first_of vs ∷ []) (self (expression here e) s w)

pub next_singles : (self : Self) → Singles (tasked self)
next_singles self e h here s w = spend_only (λ vs. vs ≡ first_of vs ∷ []) w.ticks w (run self (evaluate e here s)) (λ w1. (single self e h here s).is w1)

only_more : {A : Type 0} (Q R : A → Type 0) → ((a : A) → Q a → R a) → (r : Answer A) → Gives_only Q r → Gives_only R r
only_more Q R h (ended a s w) q = h a q
only_more Q R h (failed v s w) q = tt
only_more Q R h (waiting w) q = tt
only_more Q R h (going w) q = tt

only_all : {A : Type 0} (R : A → Type 0) → ((a : A) → R a) → (r : Answer A) → Gives_only R r
only_all R h (ended a s w) = h a
only_all R h (failed v s w) = tt
only_all R h (waiting w) = tt
only_all R h (going w) = tt

-- how many values an expression gives
pub single_of : (self : Self) → Singles self → (e : Expression) (here : Scope) (s : SourceState) (w : World) → Gives_only (Single e) (self (expression here e) s w)
single_of self sg e here s w = by (several (form_of e)) refl
  where
    by : (b : Bool) → several (form_of e) ≡ b → Gives_only (Single e) (self (expression here e) s w)
    by true q = only_all (Single e) (λ vs n. let d : true ≡ false = sym q ∙ n in cc) (self (expression here e) s w)
    by false q = only_more (λ vs. vs ≡ first_of vs ∷ []) (Single e) (λ vs y n. y) (self (expression here e) s w) (sg e q here s w)
