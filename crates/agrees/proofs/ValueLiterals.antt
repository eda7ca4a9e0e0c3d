-- Literals and numbers that fold need no word: the source does nothing for them.
use Rattle.std.proofs.Common.{◌≡◌, ℕ, suc, ◌+◌, true, false, List, [], ◌∷◌, Option, Some, None, refl, ap, subst, arith, ℤ}
use Rattle.std.specs.Prelude.{Result, Ok as Fine_number, Err}
use Rattle.std.specs.Result.{result_ok}
use Rattle.proto.specs.declared.parts.Constant.{Constant}
use Rattle.lua_num.specs.Arith.{outcome}
use Rattle.lua_num.specs.declared.arith.ArithOp.{ArithOp}
use Rattle.lua_num.specs.declared.arith.NumFault.{NumFault}
use Rattle.lua_tree.specs.declared.tree.BinaryOp.{BinaryOp}
use Rattle.lua_tree.specs.declared.tree.UnaryOp.{UnaryOp}
use Rattle.lua_tree.specs.Syntax.{Expression, nil_literal, true_literal, false_literal, vararg_expression, number_literal, text_literal, name_expression, function_expression, index_expression, field_expression, call_expression, method_call, and_expression, or_expression, binary_expression, unary_expression, constructor, parenthesized}
use Rattle.scheme.specs.Expressions.{fold, fold_unary, fold_binary, arith_op, literal, plain_literal, number_or}
use Rattle.lua_model.specs.Datum.{Datum, number, first_of}
use Rattle.lua_model.specs.Acts.{value}
use Rattle.lua_model.specs.Store.{Outside}
use Rattle.lua_model.specs.Operators.{arith as arith_act, of_numbers}
use Rattle.source_meaning.specs.State.{State as SourceState, Place as Scope, taken, late}
use Rattle.source_meaning.specs.Tasks.{expression, local_taken, item}
use Rattle.source_meaning.specs.Programs.{Prog, done, ask, and_then}
use Rattle.source_meaning.specs.Meaning.{unary, evaluate, own_local, with_value, with_late, perform, one, read}
use Rattle.rules.specs.State.{Landing, value_of}
use Rattle.agrees.proofs.Tasks.{tasked, Simulates, LiteralBy}
use Rattle.agrees.proofs.Posts.{Faults}
use Rattle.agrees.proofs.Lists.{some_same}
use Rattle.agrees.proofs.Accounts.{Place, Post, Self, Told, Goes, goes_done, goes_is, goes_weaken, by_tick, goes_staying, goes_last, Stays}
use Rattle.agrees.proofs.Sizes.{size_e, inner, call_cost}
use Rattle.agrees.proofs.Picture.{Setup, Waiter}

-- what folds is no local
pub fold_no_local : (here : Scope) (e : Expression) (n : ℤ) → fold e ≡ Some n → own_local here e ≡ None
fold_no_local here (name_expression line name) n h = cc
fold_no_local here (parenthesized line e) n h = fold_no_local here e n h
fold_no_local here e n h = refl

-- nor is a literal
pub literal_no_local : (here : Scope) (e : Expression) (k : Constant) → literal e ≡ Some k → own_local here e ≡ None
literal_no_local here (name_expression line name) n h = cc
literal_no_local here (parenthesized line e) n h = by (fold e) refl h
  where
    by : (f : Option ℤ) → fold e ≡ f → number_or f None ≡ Some n → own_local here e ≡ None
    by (Some m) q h1 = fold_no_local here e m q
    by None q h1 = cc
literal_no_local here e n h = refl

module _ (z : Setup) (self : Self) (ih : Simulates z self) where
  -- a literal where a value is wanted, and what follows
  pub known_value : {B : Type 0} (e : Expression) (k : Constant) (here : Scope) (s : SourceState) (o : Outside) (ld : Landing) (q : ℕ) (gs : List Waiter) (p : Place) (j S : ℕ) (P : Post B) (go : Datum → SourceState → Prog B) → literal e ≡ Some k → Told o p → Goes z.bound self (Faults z ld q gs) j S o p P (go (value_of k) s) → Goes z.bound self (Faults z ld q gs) j (size_e e + S) o p P (with_value here e s go)
  known_value e k here s o ld q gs p j S P go el told after =
      goes_staying z.bound self (Faults z ld q gs) j (size_e e) S o p (expression here e) s (value_of k ∷ []) P (λ vs s1. go (first_of vs) s1) (ih.literals e k here s o ld q gs p el told) after

  pub folds_literal : (e : Expression) (n : ℤ) → fold e ≡ Some n → literal e ≡ Some (Constant.Number n)
  folds_literal e n h = ap (λ f. number_or f (plain_literal e)) h

  abbrev pub Says : Expression → Constant → Type 0
  Says e k = (here : Scope) (s : SourceState) (o : Outside) (ld : Landing) (q : ℕ) (gs : List Waiter) (p : Place) → Told o p → Goes z.bound self (Faults z ld q gs) 0 (inner e) o p (Stays (value_of k ∷ []) s o p) (evaluate e here s)

  -- arithmetic with numbers that fold
  arith_folds : (op : ArithOp) (left right : Expression) (a b n : ℤ) → fold left ≡ Some a → fold right ≡ Some b → result_ok (outcome op a b) ≡ Some n → (here : Scope) (s : SourceState) (o : Outside) (ld : Landing) (q : ℕ) (gs : List Waiter) (p : Place) → Told o p → Goes z.bound self (Faults z ld q gs) 0 (size_e left + (size_e right + call_cost)) o p (Stays (number n ∷ []) s o p) (with_late here left s (λ v s1. with_value here right s1 (λ w s2. and_then (perform here (arith_act s2.store op (read v s2) w) s2) one)))
  arith_folds op left right a b n el er en here s o ld q gs p told =
      goes_is z.bound self (Faults z ld q gs) 0 (size_e left + (size_e right + call_cost)) o p _ _ (with_value here left s (λ v0 s1. with_value here right s1 (λ w s2. and_then (perform here (arith_act s2.store op (read (taken v0) s2) w) s2) one)))
      (ap (λ m. elim m [ None ↦ with_value here left s (λ v0 s1. with_value here right s1 (λ w s2. and_then (perform here (arith_act s2.store op (read (taken v0) s2) w) s2) one)) | Some c ↦ ask (local_taken c) s (λ u s1. with_value here right s1 (λ w s2. and_then (perform here (arith_act s2.store op (read (late c) s2) w) s2) one)) ]) (fold_no_local here left a el))
      (known_value left (Constant.Number a) here s o ld q gs p 0 (size_e right + call_cost) _ (λ v0 s1. with_value here right s1 (λ w s2. and_then (perform here (arith_act s2.store op (read (taken v0) s2) w) s2) one)) (folds_literal left a el) told
      (known_value right (Constant.Number b) here s o ld q gs p 0 call_cost _ (λ w s2. and_then (perform here (arith_act s2.store op (number a) w) s2) one) (folds_literal right b er) told
      (goes_is z.bound self (Faults z ld q gs) 0 call_cost o p _ _ (done (number n ∷ []) s) (ap (λ act. and_then (perform here act s) one) (finished (outcome op a b) en))
      (goes_done z.bound self (Faults z ld q gs) 0 call_cost o p _ (number n ∷ []) s (refl, refl, refl, refl)))))
    where
      finished : (r : Result ℤ NumFault) → result_ok r ≡ Some n → of_numbers r ≡ value (number n)
      finished (Fine_number m) h = ap (λ i. value (number i)) (some_same m n h)
      finished (Err f) h = cc

  pub says : (e : Expression) (k : Constant) → literal e ≡ Some k → Says e k
  says (nil_literal line) k e = λ here s o ld q gs p told. goes_done z.bound self (Faults z ld q gs) 0 0 o p _ _ s (ap (λ c. value_of c ∷ []) (some_same Constant.Nil k e), refl, refl, refl)
  says (true_literal line) k e = λ here s o ld q gs p told. goes_done z.bound self (Faults z ld q gs) 0 0 o p _ _ s (ap (λ c. value_of c ∷ []) (some_same (Constant.Bool true) k e), refl, refl, refl)
  says (false_literal line) k e = λ here s o ld q gs p told. goes_done z.bound self (Faults z ld q gs) 0 0 o p _ _ s (ap (λ c. value_of c ∷ []) (some_same (Constant.Bool false) k e), refl, refl, refl)
  says (number_literal line n) k e = λ here s o ld q gs p told. goes_done z.bound self (Faults z ld q gs) 0 0 o p _ _ s (ap (λ c. value_of c ∷ []) (some_same (Constant.Number n) k e), refl, refl, refl)
  says (text_literal line t) k e = λ here s o ld q gs p told. goes_done z.bound self (Faults z ld q gs) 0 0 o p _ _ s (ap (λ c. value_of c ∷ []) (some_same (Constant.Text t) k e), refl, refl, refl)
  says (parenthesized line e1) k e = λ here s o ld q gs p told. by (fold e1) refl e here s o ld q gs p told
    where
      by : (f : Option ℤ) → fold e1 ≡ f → number_or f None ≡ Some k → Says (parenthesized line e1) k
      by (Some n) ef h here s o ld q gs p told =
          goes_weaken z.bound self (Faults z ld q gs) 0 (size_e e1 + 0) 0 (size_e e1) o p _ _ (omega arith) (omega arith)
          (known_value e1 (Constant.Number n) here s o ld q gs p 0 0 _ one (folds_literal e1 n ef) told
          (goes_done z.bound self (Faults z ld q gs) 0 0 o p _ _ s (ap (λ c. value_of c ∷ []) (some_same (Constant.Number n) k h), refl, refl, refl)))
      by None ef h here s o ld q gs p told = cc
  says (unary_expression line op e1) k e = λ here s o ld q gs p told. by op (fold e1) refl e here s o ld q gs p told
    where
      by : (op : UnaryOp) (f : Option ℤ) → fold e1 ≡ f → number_or (fold_unary op f) None ≡ Some k → Says (unary_expression line op e1) k
      by UnaryOp.Neg (Some n) ef h here s o ld q gs p told =
          known_value e1 (Constant.Number n) here s o ld q gs p 0 call_cost _ (unary UnaryOp.Neg here) (folds_literal e1 n ef) told
          (goes_done z.bound self (Faults z ld q gs) 0 call_cost o p _ _ s (ap (λ c. value_of c ∷ []) (some_same _ k h), refl, refl, refl))
      by UnaryOp.Neg None ef h here s o ld q gs p told = cc
      by UnaryOp.Not f ef h here s o ld q gs p told = cc
      by UnaryOp.Len f ef h here s o ld q gs p told = cc
  says (binary_expression line op left right) k e = λ here s o ld q gs p told. by op (fold left) (fold right) refl refl e here s o ld q gs p told
    where
      by_op : (aop : ArithOp) (x y : Option ℤ) → fold left ≡ x → fold right ≡ y → number_or (fold_binary (Some aop) x y) None ≡ Some k → (here : Scope) (s : SourceState) (o : Outside) (ld : Landing) (q : ℕ) (gs : List Waiter) (p : Place) → Told o p → Goes z.bound self (Faults z ld q gs) 0 (size_e left + (size_e right + call_cost)) o p (Stays (value_of k ∷ []) s o p) (with_late here left s (λ v s1. with_value here right s1 (λ w s2. and_then (perform here (arith_act s2.store aop (read v s2) w) s2) one)))
      by_op aop (Some a) (Some b) ex ey h here s o ld q gs p told = last (result_ok (outcome aop a b)) refl h
        where
          last : (r : Option ℤ) → result_ok (outcome aop a b) ≡ r → number_or r None ≡ Some k → Goes z.bound self (Faults z ld q gs) 0 (size_e left + (size_e right + call_cost)) o p (Stays (value_of k ∷ []) s o p) (with_late here left s (λ v s1. with_value here right s1 (λ w s2. and_then (perform here (arith_act s2.store aop (read v s2) w) s2) one)))
          last (Some n) er h1 =
              subst (λ c. Goes z.bound self (Faults z ld q gs) 0 (size_e left + (size_e right + call_cost)) o p (Stays (value_of c ∷ []) s o p) (with_late here left s (λ v s1. with_value here right s1 (λ w s2. and_then (perform here (arith_act s2.store aop (read v s2) w) s2) one)))) (some_same (Constant.Number n) k h1)
              (arith_folds aop left right a b n ex ey er here s o ld q gs p told)
          last None er h1 = cc
      by_op aop None y ex ey h here s o ld q gs p told = cc
      by_op aop (Some a) None ex ey h here s o ld q gs p told = cc

      by : (op : BinaryOp) (x y : Option ℤ) → fold left ≡ x → fold right ≡ y → number_or (fold_binary (arith_op op) x y) None ≡ Some k → Says (binary_expression line op left right) k
      by BinaryOp.Add x y ex ey h = by_op ArithOp.Add x y ex ey h
      by BinaryOp.Sub x y ex ey h = by_op ArithOp.Sub x y ex ey h
      by BinaryOp.Mul x y ex ey h = by_op ArithOp.Mul x y ex ey h
      by BinaryOp.Div x y ex ey h = by_op ArithOp.Div x y ex ey h
      by BinaryOp.Rem x y ex ey h = by_op ArithOp.Rem x y ex ey h
      by BinaryOp.Pow x y ex ey h = by_op ArithOp.Pow x y ex ey h
      by BinaryOp.Concat x y ex ey h = cc
      by BinaryOp.Eq x y ex ey h = cc
      by BinaryOp.Ne x y ex ey h = cc
      by BinaryOp.Lt x y ex ey h = cc
      by BinaryOp.Le x y ex ey h = cc
      by BinaryOp.Gt x y ex ey h = cc
      by BinaryOp.Ge x y ex ey h = cc
  says (vararg_expression line) k e = cc
  says (name_expression line name) k e = cc
  says (function_expression line f) k e = cc
  says (index_expression line on key) k e = cc
  says (field_expression line on name) k e = cc
  says (call_expression line on args on_line) k e = cc
  says (method_call line on name args on_line) k e = cc
  says (and_expression line left right) k e = cc
  says (or_expression line left right) k e = cc
  says (constructor line fs) k e = cc

  pub next_literal : (e : Expression) → LiteralBy z e (size_e e) (λ c. tasked self (expression c e))
  next_literal e k here s o ld q gs p el told =
      by_tick z.bound self (Faults z ld q gs) 0 0 (inner e) o p _ _ told (omega arith) (says e k el here s o ld q gs p told)

  pub next_literal_item : (e : Expression) → LiteralBy z e (suc (size_e e)) (λ c. tasked self (item c e))
  next_literal_item e k here s o ld q gs p el told =
      by_tick z.bound self (Faults z ld q gs) 0 0 (size_e e) o p _ (ask (expression here e) s done) told (omega arith)
      (goes_last z.bound self (Faults z ld q gs) 0 (size_e e) o p (expression here e) s _ (ih.literals e k here s o ld q gs p el told))
