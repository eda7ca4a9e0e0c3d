-- Every form of condition.
use Rattle.std.proofs.Common.{◌≡◌, ◌≤◌, ℕ, Bool, true, false, Option, Some, None, refl, arith}
use Rattle.std.specs.Bool.{beq}
use Rattle.lua_model.specs.Datum.{first_of}
use Rattle.lua_model.specs.Store.{Outside}
use Rattle.lua_tree.specs.Syntax.{Expression, nil_literal, true_literal, false_literal, vararg_expression, number_literal, text_literal, name_expression, function_expression, index_expression, field_expression, call_expression, method_call, and_expression, or_expression, binary_expression, unary_expression, constructor, parenthesized}
use Rattle.lua_tree.specs.declared.tree.BinaryOp.{BinaryOp}
use Rattle.lua_tree.specs.declared.tree.UnaryOp.{UnaryOp}
use Rattle.proto.specs.declared.parts.Constant.{Constant}
use Rattle.scheme.specs.Expressions.{literal, is_true_constant, is_comparison}
use Rattle.scheme_stands.specs.Words.{Spot, JumpOn, Stretch}
use Rattle.scheme_stands.specs.Expressions.{form_of, rel_alone, rel_single, TestBy, BinaryJump}
use Rattle.scheme_stands.specs.Relation.{related}
use Rattle.source_meaning.specs.Meaning.{evaluate, program}
use Rattle.source_meaning.specs.Programs.{spend, run}
use Rattle.source_meaning.specs.State.{State as SourceState}
use Rattle.source_meaning.specs.Tasks.{expression}
use Rattle.agrees.proofs.ConditionLogic.{not_cond, paren_cond, and_cond, or_cond}
use Rattle.agrees.proofs.Picture.{code_of, Setup, Ghost, Site, at, Ok}
use Rattle.agrees.proofs.Posts.{JumpPost, fail_of}
use Rattle.agrees.proofs.Accounts.{Now, Self, Goes, goes_weaken, by_tick}
use Rattle.agrees.proofs.Sizes.{inner, size_e}
use Rattle.agrees.proofs.Tasks.{Asked, Above, CondBy, Simulates, scope, Evaluates}
use Rattle.agrees.proofs.ConditionForms.{CondDoes, NextTestAt, next_test, name_cond, literal_cond, compare_cond}

module _ (z : Setup) (self : Self) (ih : Simulates z self) (values : (e : Expression) → Evaluates z self 6 e) where
  literal_does : (e : Expression) (c : Constant) → literal e ≡ Some c → (t : Bool) (s : SourceState) (o : Outside) (g : Ghost) (x : Site) (k l : ℕ) (p q : Spot) → Ok z s g x → JumpOn (code_of x.a) (beq t (is_true_constant c)) l p q → Goes z.bound self (fail_of z x) 7 (inner e) o (Now (at s o g x p.pc)) (λ vs. JumpPost z x k t l q.pc (first_of vs)) (evaluate e (scope x) s)
  literal_does e c lit t s o g x k l p q ok w =
      goes_weaken z.bound self (fail_of z x) 1 (inner e) 7 (inner e) o (Now (at s o g x p.pc)) (λ vs. JumpPost z x k t l q.pc (first_of vs)) (evaluate e (scope x) s) (omega arith) (omega arith)
      (literal_cond z self ih e c lit t s o g x k l p q ok w)

  -- what is tested in the next register
  tested : (e : Expression) (t : Bool) (s : SourceState) (o : Outside) (g : Ghost) (x : Site) (k free l : ℕ) (p q : Spot) → Ok z s g x → Above x k free → size_e e ≤ z.bound → NextTestAt (code_of x.a) e x free t l p q → Goes z.bound self (fail_of z x) 7 (inner e) o (Now (at s o g x p.pc)) (λ vs. JumpPost z x k t l q.pc (first_of vs)) (evaluate e (scope x) s)
  tested e t s o g x k free l p q ok above small w = next_test z self e t s o g x k free l p q above w (values e s o g x k free free p w.mid ok above small w.operand_at.room w.operand_at.value_at)

  -- an operator, by whether it folds
  abbrev Tested : Option Constant → Expression → Site → (free : ℕ) → Bool → (l : ℕ) → Stretch
  Tested c e x free t l = TestBy c (code_of x.a) x.a.active (rel_alone (code_of x.a) (form_of e) (related (code_of x.a) e).to_reg) free t l

  folds_or : (e : Expression) → ((x : Site) (t : Bool) (free l : ℕ) (p q : Spot) → Tested None e x free t l p q → NextTestAt (code_of x.a) e x free t l p q) → (c : Option Constant) → literal e ≡ c → (t : Bool) (s : SourceState) (o : Outside) (g : Ghost) (x : Site) (k free l : ℕ) (p q : Spot) → Ok z s g x → Above x k free → size_e e ≤ z.bound → Tested c e x free t l p q → Goes z.bound self (fail_of z x) 7 (inner e) o (Now (at s o g x p.pc)) (λ vs. JumpPost z x k t l q.pc (first_of vs)) (evaluate e (scope x) s)
  folds_or e as_next (Some c) lit t s o g x k free l p q ok above small w = literal_does e c lit t s o g x k l p q ok w
  folds_or e as_next None lit t s o g x k free l p q ok above small w = tested e t s o g x k free l p q ok above small (as_next x t free l p q w)

  compare_or : (b : Bool) (line : ℕ) (op : BinaryOp) (left right : Expression) → is_comparison op ≡ b → (t : Bool) (s : SourceState) (o : Outside) (g : Ghost) (x : Site) (k free l : ℕ) (p q : Spot) → Ok z s g x → Above x k free → size_e (binary_expression line op left right) ≤ z.bound → BinaryJump b (code_of x.a) op (related (code_of x.a) left) (related (code_of x.a) right) (rel_single (code_of x.a) (form_of (binary_expression line op left right)) (related (code_of x.a) (binary_expression line op left right)).to_reg) x.a.active free t l p q → Goes z.bound self (fail_of z x) 7 (inner (binary_expression line op left right)) o (Now (at s o g x p.pc)) (λ vs. JumpPost z x k t l q.pc (first_of vs)) (evaluate (binary_expression line op left right) (scope x) s)
  compare_or true line op left right c t s o g x k free l p q ok above small w =
      goes_weaken z.bound self (fail_of z x) 1 (inner (binary_expression line op left right)) 7 (inner (binary_expression line op left right)) o (Now (at s o g x p.pc)) (λ vs. JumpPost z x k t l q.pc (first_of vs)) (evaluate (binary_expression line op left right) (scope x) s) (omega arith) (omega arith)
      (compare_cond z self ih line op left right c t s o g x k free l p q ok above (omega arith) (omega arith) w)
  compare_or false line op left right c t s o g x k free l p q ok above small w =
      folds_or (binary_expression line op left right) (λ x1 t1 free1 l1 p1 q1 h. h) (literal (binary_expression line op left right)) refl t s o g x k free l p q ok above small w

  no_words : (e : Expression) → CondDoes z self 0 e → CondDoes z self 7 e
  no_words e way t s o g x k free l p q ok above small w =
      goes_weaken z.bound self (fail_of z x) 0 (inner e) 7 (inner e) o (Now (at s o g x p.pc)) (λ vs. JumpPost z x k t l q.pc (first_of vs)) (evaluate e (scope x) s) (omega arith) (omega arith) (way t s o g x k free l p q ok above small w)

  cond_goes : (e : Expression) → CondDoes z self 7 e
  cond_goes (nil_literal line) = λ t s o g x k free l p q ok above small w. literal_does (nil_literal line) Constant.Nil refl t s o g x k l p q ok w
  cond_goes (true_literal line) = λ t s o g x k free l p q ok above small w. literal_does (true_literal line) (Constant.Bool true) refl t s o g x k l p q ok w
  cond_goes (false_literal line) = λ t s o g x k free l p q ok above small w. literal_does (false_literal line) (Constant.Bool false) refl t s o g x k l p q ok w
  cond_goes (number_literal line v) = λ t s o g x k free l p q ok above small w. literal_does (number_literal line v) (Constant.Number v) refl t s o g x k l p q ok w
  cond_goes (text_literal line v) = λ t s o g x k free l p q ok above small w. literal_does (text_literal line v) (Constant.Text v) refl t s o g x k l p q ok w
  cond_goes (vararg_expression line) = λ t s o g x k free l p q ok above small w. tested (vararg_expression line) t s o g x k free l p q ok above small w
  cond_goes (name_expression line name) = name_cond z self ih line name (values (name_expression line name))
  cond_goes (function_expression line b) = λ t s o g x k free l p q ok above small w. tested (function_expression line b) t s o g x k free l p q ok above small w
  cond_goes (index_expression line on key) = λ t s o g x k free l p q ok above small w. tested (index_expression line on key) t s o g x k free l p q ok above small w
  cond_goes (field_expression line on v) = λ t s o g x k free l p q ok above small w. tested (field_expression line on v) t s o g x k free l p q ok above small w
  cond_goes (call_expression line on args on_line) = λ t s o g x k free l p q ok above small w. tested (call_expression line on args on_line) t s o g x k free l p q ok above small w
  cond_goes (method_call line on v args on_line) = λ t s o g x k free l p q ok above small w. tested (method_call line on v args on_line) t s o g x k free l p q ok above small w
  cond_goes (constructor line fs) = λ t s o g x k free l p q ok above small w. tested (constructor line fs) t s o g x k free l p q ok above small w
  cond_goes (and_expression line left right) = no_words (and_expression line left right) (and_cond z self ih line left right)
  cond_goes (or_expression line left right) = no_words (or_expression line left right) (or_cond z self ih line left right)
  cond_goes (parenthesized line e) = no_words (parenthesized line e) (paren_cond z self ih line e)
  cond_goes (unary_expression line UnaryOp.Not e) = no_words (unary_expression line UnaryOp.Not e) (not_cond z self ih line e)
  cond_goes (unary_expression line UnaryOp.Neg e) = λ t s o g x k free l p q ok above small w. folds_or (unary_expression line UnaryOp.Neg e) (λ x1 t1 free1 l1 p1 q1 h. h) (literal (unary_expression line UnaryOp.Neg e)) refl t s o g x k free l p q ok above small w
  cond_goes (unary_expression line UnaryOp.Len e) = λ t s o g x k free l p q ok above small w. folds_or (unary_expression line UnaryOp.Len e) (λ x1 t1 free1 l1 p1 q1 h. h) (literal (unary_expression line UnaryOp.Len e)) refl t s o g x k free l p q ok above small w
  cond_goes (binary_expression line op left right) = λ t s o g x k free l p q ok above small w. compare_or (is_comparison op) line op left right refl t s o g x k free l p q ok above small w

  pub next_cond : (e : Expression) → CondBy z e (Asked z (size_e e) (λ x s w. spend w.ticks w (run self (program (expression (scope x) e) s))))
  next_cond e t s o g x k free l p q ok above small w =
      by_tick z.bound self (fail_of z x) 0 7 (inner e) o (Now (at s o g x p.pc)) (λ vs. JumpPost z x k t l q.pc (first_of vs)) (evaluate e (scope x) s) refl (omega arith) (cond_goes e t s o g x k free l p q ok above small w)
