-- The value of every expression, to a register.
use Rattle.std.proofs.Common.{◌≡◌, ◌≤◌, ◌<◌, ℕ, suc, ◌+◌, true, List, Option, Some, None, refl, arith, ℤ}
use Rattle.opcode.specs.declared.op.Op.{Op}
use Rattle.proto.specs.Chunk.{own}
use Rattle.lua_num.specs.Bytes.{Text}
use Rattle.lua_num.specs.declared.arith.ArithOp.{ArithOp}
use Rattle.lua_tree.specs.declared.tree.BinaryOp.{BinaryOp}
use Rattle.lua_tree.specs.Syntax.{Expression, function_body, nil_literal, true_literal, false_literal, vararg_expression, number_literal, text_literal, name_expression, function_expression, index_expression, field_expression, call_expression, method_call, and_expression, or_expression, binary_expression, unary_expression, constructor, parenthesized}
use Rattle.opcode.specs.declared.word.Instr.{Instr}
use Rattle.scheme.specs.Expressions.{fold, is_comparison}
use Rattle.lua_model.specs.Datum.{Datum, first_of}
use Rattle.lua_model.specs.Store.{Outside}
use Rattle.source_meaning.specs.State.{State as SourceState}
use Rattle.source_meaning.specs.Tasks.{expression, named_item, keyed_item}
use Rattle.source_meaning.specs.Meaning.{evaluate}
use Rattle.rules.specs.State.{State}
use Rattle.rules.specs.Step.{effect, do_arith}
use Rattle.scheme_stands.specs.Words.{Spot}
use Rattle.scheme_stands.specs.Expressions.{CompareAt, LoadOr, ArithmeticAt}
use Rattle.scheme_stands.specs.Relation.{related}
use Rattle.agrees.proofs.CallParts.{parts_goes}
use Rattle.agrees.proofs.CallResults.{call_multi}
use Rattle.agrees.proofs.ConditionForms.{compare_cond}
use Rattle.agrees.proofs.NextRegister.{one_of}
use Rattle.agrees.proofs.Tasks.{Above, Simulates, NamedBy, KeyedBy, Asked, scope, tasked, ValueBy, Evaluates}
use Rattle.agrees.proofs.Posts.{ValuePost, JumpPost, fail_of}
use Rattle.agrees.proofs.Accounts.{Now, Self, Goes, goes_weaken, by_tick}
use Rattle.agrees.proofs.Sizes.{size_e, inner, call_cost}
use Rattle.agrees.proofs.Picture.{code_of, Setup, Ghost, Site, at, Ok}
use Rattle.agrees.proofs.ValueWords.{nil_goes, true_goes, false_goes, vararg_goes, number_goes, text_goes, name_goes, paren_goes}
use Rattle.agrees.proofs.ValueOperators.{index_goes, field_goes, arithmetic_goes, unary_value, folded_goes}
use Rattle.agrees.proofs.ValueLogic.{and_goes, or_goes}
use Rattle.agrees.proofs.ValueComparisons.{truth_goes}
use Rattle.agrees.proofs.ValueConcats.{concat_goes}
use Rattle.agrees.proofs.TableNew.{table_value}
use Rattle.agrees.proofs.ValueClosures.{function_goes}
use Rattle.agrees.proofs.TableKeyed.{named_goes, keyed_goes}

module _ (z : Setup) (self : Self) (ih : Simulates z self) where
  plain : (j : ℕ) (e : Expression) → j ≤ 6 → Evaluates z self j e → Evaluates z self 6 e
  plain j e l h = λ s o g x k free r p q ok fr small lr w.
      goes_weaken z.bound self (fail_of z x) j (inner e) 6 (inner e) o (Now (at s o g x p.pc)) (ValuePost z x k r q.pc) (evaluate e (scope x) s) (omega (arith, l)) (omega arith) (h s o g x k free r p q ok fr small lr w)

  -- arithmetic, folded or not
  arithmetic : (op : BinaryOp) (aop : ArithOp) (word : Op) → ((m : State) (i : Instr) → effect word m i ≡ do_arith aop m i) → (line : ℕ) (left right : Expression) → (s : SourceState) (o : Outside) (g : Ghost) (x : Site) (k free r : ℕ) (p q : Spot) → Ok z s g x → Above x k free → size_e (binary_expression line op left right) ≤ z.bound → r < (own x.a.chunk).registers → LoadOr (fold (binary_expression line op left right)) (code_of x.a) (ArithmeticAt (code_of x.a) word (related (code_of x.a) left) (related (code_of x.a) right)) x.a.active free r p q → ((t : ArithmeticAt (code_of x.a) word (related (code_of x.a) left) (related (code_of x.a) right) x.a.active free r p q) → Goes z.bound self (fail_of z x) 1 (size_e left + (size_e right + call_cost)) o (Now (at s o g x p.pc)) (ValuePost z x k r q.pc) (evaluate (binary_expression line op left right) (scope x) s)) → Goes z.bound self (fail_of z x) 1 (inner (binary_expression line op left right)) o (Now (at s o g x p.pc)) (ValuePost z x k r q.pc) (evaluate (binary_expression line op left right) (scope x) s)
  arithmetic op aop word same line left right s o g x k free r p q ok fr small lr w given = by (fold (binary_expression line op left right)) refl w
    where
      by : (f : Option ℤ) → fold (binary_expression line op left right) ≡ f → LoadOr f (code_of x.a) (ArithmeticAt (code_of x.a) word (related (code_of x.a) left) (related (code_of x.a) right)) x.a.active free r p q → Goes z.bound self (fail_of z x) 1 (inner (binary_expression line op left right)) o (Now (at s o g x p.pc)) (ValuePost z x k r q.pc) (evaluate (binary_expression line op left right) (scope x) s)
      by (Some n) ef t = folded_goes z self ih (binary_expression line op left right) n ef s o g x k r p q ok lr t
      by None ef t = given t

  six : (j S : ℕ) (o : Outside) (x : Site) (p : _) (P : _) (prog : _) → j ≤ 6 → Goes {A = List Datum} z.bound self (fail_of z x) j S o p P prog → Goes z.bound self (fail_of z x) 6 S o p P prog
  six j S o x p P prog l h = goes_weaken z.bound self (fail_of z x) j S 6 S o p P prog l (omega arith) h

  -- a comparison, as its condition
  compared : (line : ℕ) (op : BinaryOp) (left right : Expression) → is_comparison op ≡ true → (s : SourceState) (o : Outside) (g : Ghost) (x : Site) (k free l : ℕ) (p q : Spot) → Ok z s g x → Above x k free → size_e (binary_expression line op left right) ≤ z.bound → CompareAt (code_of x.a) op (related (code_of x.a) left) (related (code_of x.a) right) x.a.active free true l p q → Goes z.bound self (fail_of z x) 5 (inner (binary_expression line op left right)) o (Now (at s o g x p.pc)) (λ vs. JumpPost z x k true l q.pc (first_of vs)) (evaluate (binary_expression line op left right) (scope x) s)
  compared line op left right c s o g x k free l p q ok fr small w =
      goes_weaken z.bound self (fail_of z x) 1 _ 5 _ o _ _ _ (omega arith) (omega arith) (compare_cond z self ih line op left right c true s o g x k free l p q ok fr (omega (arith, small)) (omega (arith, small)) w)

  binary_known : (line : ℕ) (op : BinaryOp) (left right : Expression) → Evaluates z self 6 (binary_expression line op left right)
  binary_known line BinaryOp.Add left right = λ s o g x k free r p q ok fr small lr w. six 1 _ o x _ _ _ (omega arith) (arithmetic BinaryOp.Add ArithOp.Add Op.Add (λ m i. refl) line left right s o g x k free r p q ok fr small lr w (λ t. arithmetic_goes z self ih ArithOp.Add Op.Add (λ m i. refl) left right s o g x k free r p q ok fr (omega (arith, small)) (omega (arith, small)) lr t))
  binary_known line BinaryOp.Sub left right = λ s o g x k free r p q ok fr small lr w. six 1 _ o x _ _ _ (omega arith) (arithmetic BinaryOp.Sub ArithOp.Sub Op.Sub (λ m i. refl) line left right s o g x k free r p q ok fr small lr w (λ t. arithmetic_goes z self ih ArithOp.Sub Op.Sub (λ m i. refl) left right s o g x k free r p q ok fr (omega (arith, small)) (omega (arith, small)) lr t))
  binary_known line BinaryOp.Mul left right = λ s o g x k free r p q ok fr small lr w. six 1 _ o x _ _ _ (omega arith) (arithmetic BinaryOp.Mul ArithOp.Mul Op.Mul (λ m i. refl) line left right s o g x k free r p q ok fr small lr w (λ t. arithmetic_goes z self ih ArithOp.Mul Op.Mul (λ m i. refl) left right s o g x k free r p q ok fr (omega (arith, small)) (omega (arith, small)) lr t))
  binary_known line BinaryOp.Div left right = λ s o g x k free r p q ok fr small lr w. six 1 _ o x _ _ _ (omega arith) (arithmetic BinaryOp.Div ArithOp.Div Op.Div (λ m i. refl) line left right s o g x k free r p q ok fr small lr w (λ t. arithmetic_goes z self ih ArithOp.Div Op.Div (λ m i. refl) left right s o g x k free r p q ok fr (omega (arith, small)) (omega (arith, small)) lr t))
  binary_known line BinaryOp.Rem left right = λ s o g x k free r p q ok fr small lr w. six 1 _ o x _ _ _ (omega arith) (arithmetic BinaryOp.Rem ArithOp.Rem Op.Mod (λ m i. refl) line left right s o g x k free r p q ok fr small lr w (λ t. arithmetic_goes z self ih ArithOp.Rem Op.Mod (λ m i. refl) left right s o g x k free r p q ok fr (omega (arith, small)) (omega (arith, small)) lr t))
  binary_known line BinaryOp.Pow left right = λ s o g x k free r p q ok fr small lr w. six 1 _ o x _ _ _ (omega arith) (arithmetic BinaryOp.Pow ArithOp.Pow Op.Pow (λ m i. refl) line left right s o g x k free r p q ok fr small lr w (λ t. arithmetic_goes z self ih ArithOp.Pow Op.Pow (λ m i. refl) left right s o g x k free r p q ok fr (omega (arith, small)) (omega (arith, small)) lr t))
  binary_known line BinaryOp.Concat left right = λ s o g x k free r p q ok fr small lr w. six 0 _ o x _ _ _ (omega arith) (concat_goes z self ih line left right s o g x k free r p q ok fr small lr w)
  binary_known line BinaryOp.Eq left right = λ s o g x k free r p q ok fr small lr w. truth_goes z self 5 line BinaryOp.Eq left right refl s o g x k free r p q lr w (compared line BinaryOp.Eq left right refl s o g x k free w.yes.pc p w.mid ok fr small w.compare)
  binary_known line BinaryOp.Ne left right = λ s o g x k free r p q ok fr small lr w. truth_goes z self 5 line BinaryOp.Ne left right refl s o g x k free r p q lr w (compared line BinaryOp.Ne left right refl s o g x k free w.yes.pc p w.mid ok fr small w.compare)
  binary_known line BinaryOp.Lt left right = λ s o g x k free r p q ok fr small lr w. truth_goes z self 5 line BinaryOp.Lt left right refl s o g x k free r p q lr w (compared line BinaryOp.Lt left right refl s o g x k free w.yes.pc p w.mid ok fr small w.compare)
  binary_known line BinaryOp.Le left right = λ s o g x k free r p q ok fr small lr w. truth_goes z self 5 line BinaryOp.Le left right refl s o g x k free r p q lr w (compared line BinaryOp.Le left right refl s o g x k free w.yes.pc p w.mid ok fr small w.compare)
  binary_known line BinaryOp.Gt left right = λ s o g x k free r p q ok fr small lr w. truth_goes z self 5 line BinaryOp.Gt left right refl s o g x k free r p q lr w (compared line BinaryOp.Gt left right refl s o g x k free w.yes.pc p w.mid ok fr small w.compare)
  binary_known line BinaryOp.Ge left right = λ s o g x k free r p q ok fr small lr w. truth_goes z self 5 line BinaryOp.Ge left right refl s o g x k free r p q lr w (compared line BinaryOp.Ge left right refl s o g x k free w.yes.pc p w.mid ok fr small w.compare)

  -- every expression as its program
  pub expr_known : (e : Expression) → Evaluates z self 6 e
  expr_known (nil_literal line) = plain 1 (nil_literal line) (omega arith) (nil_goes z self line)
  expr_known (true_literal line) = plain 1 (true_literal line) (omega arith) (true_goes z self line)
  expr_known (false_literal line) = plain 1 (false_literal line) (omega arith) (false_goes z self line)
  expr_known (vararg_expression line) = plain 1 (vararg_expression line) (omega arith) (vararg_goes z self line)
  expr_known (number_literal line n) = plain 1 (number_literal line n) (omega arith) (number_goes z self line n)
  expr_known (text_literal line t) = plain 1 (text_literal line t) (omega arith) (text_goes z self line t)
  expr_known (name_expression line name) = λ s o g x k free r p q ok fr small lr w. six 1 _ o x _ _ _ (omega arith) (name_goes z self line name s o g x k free r p q ok lr w)
  expr_known (function_expression line (function_body params vararg b first last)) = λ s o g x k free r p q ok fr small lr w.
      six 1 _ o x _ _ _ (omega arith) (function_goes z self line first last params vararg b s o g x k free r p q ok (omega (arith, small)) lr w)
  expr_known (index_expression line on key) = λ s o g x k free r p q ok fr small lr w.
      six 1 _ o x _ _ _ (omega arith) (index_goes z self ih line on key s o g x k free r p q ok fr (omega (arith, small)) lr w)
  expr_known (field_expression line on name) = λ s o g x k free r p q ok fr small lr w. six 2 _ o x _ _ _ (omega arith) (field_goes z self ih line on name s o g x k free r p q ok fr (omega (arith, small)) lr w)
  expr_known (call_expression line on args on_line) = λ s o g x k free r p q ok fr small lr w.
      one_of z self x k free r _ p q 5 (inner (call_expression line on args on_line)) o (Now (at s o g x p.pc)) _ fr.is lr w (λ mid t. call_multi z self ih (parts_goes z self ih) (call_expression line on args on_line) (omega arith) refl s o g x (Some 1) k free p mid ok fr small t)
  expr_known (method_call line on name args on_line) = λ s o g x k free r p q ok fr small lr w.
      one_of z self x k free r _ p q 5 (inner (method_call line on name args on_line)) o (Now (at s o g x p.pc)) _ fr.is lr w (λ mid t. call_multi z self ih (parts_goes z self ih) (method_call line on name args on_line) (omega arith) refl s o g x (Some 1) k free p mid ok fr small t)
  expr_known (and_expression line left right) = λ s o g x k free r p q ok fr small lr w. six 2 _ o x _ _ _ (omega arith) (and_goes z self ih line left right s o g x k free r p q ok fr (omega (arith, small)) lr w)
  expr_known (or_expression line left right) = λ s o g x k free r p q ok fr small lr w. six 2 _ o x _ _ _ (omega arith) (or_goes z self ih line left right s o g x k free r p q ok fr (omega (arith, small)) lr w)
  expr_known (binary_expression line op left right) = binary_known line op left right
  expr_known (unary_expression line op e) = λ s o g x k free r p q ok fr small lr w. six 1 _ o x _ _ _ (omega arith) (unary_value z self ih line op e s o g x k free r p q ok fr (omega (arith, small)) lr w)
  expr_known (constructor line fs) = plain 3 (constructor line fs) (omega arith) (table_value z self ih line fs)
  expr_known (parenthesized line e) = plain 0 (parenthesized line e) (omega arith) (paren_goes z self ih line e)

  -- and as its task
  pub expr_task : (e : Expression) → ValueBy z e (Asked z (size_e e) (λ x. tasked self (expression (scope x) e)))
  expr_task e = λ s o g x k free r p q ok fr small lr w.
      by_tick z.bound self (fail_of z x) 0 6 (inner e) o (Now (at s o g x p.pc)) (ValuePost z x k r q.pc) (evaluate e (scope x) s) refl (omega arith) (expr_known e s o g x k free r p q ok fr small lr w)

  -- items of constructors
  pub named_task : (tb : ℕ) (name : Text) (e : Expression) → NamedBy z tb name e (Asked z (suc (size_e e + call_cost)) (λ x. tasked self (named_item (scope x) tb name e)))
  named_task tb name e = λ s o g x k t pending p q ok et small there w.
      named_goes z self ih tb name e s o g x k t pending p q ok et small there w

  pub keyed_task : (tb : ℕ) (key e : Expression) → KeyedBy z tb key e (Asked z (suc (size_e key + (size_e e + call_cost))) (λ x. tasked self (keyed_item (scope x) tb key e)))
  keyed_task tb key e = λ s o g x k t pending p q ok et small there w.
      keyed_goes z self ih tb key e s o g x k t pending p q ok et small there w
