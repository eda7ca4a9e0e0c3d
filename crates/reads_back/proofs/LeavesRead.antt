-- The words of the leaf of a condition, at the begin of a step, are read as a test of what the leaf is tested as.
use Rattle.std.proofs.Common.{◌≡◌, ℕ, ◌≤◌, Bool, true, false, List, [], length, Option, Some, None, refl, sym, subst, arith}
use Rattle.lua_num.specs.Bytes.{Text}
use Rattle.lua_tree.specs.Syntax.{Expression, nil_literal, true_literal, false_literal, vararg_expression, number_literal, text_literal, name_expression, function_expression, index_expression, field_expression, call_expression, method_call, binary_expression, unary_expression, constructor, parenthesized}
use Rattle.lua_tree.specs.WellFormed.{depth_of_expression}
use Rattle.lua_tree.specs.declared.tree.BinaryOp.{BinaryOp}
use Rattle.lua_tree.specs.declared.tree.UnaryOp.{UnaryOp}
use Rattle.core_expr.specs.Values.{Inner}
use Rattle.proto.specs.declared.parts.Constant.{Constant}
use Rattle.recover_expr.specs.Situation.{Function, Situation}
use Rattle.scheme.specs.Expressions.{fold, is_comparison, literal}
use Rattle.scheme.specs.declared.making.Active.{Active}
use Rattle.scheme_stands.specs.Expressions.{BareAt, BinaryAt, BinaryJump, LoadOr, NameAt, OperandBy, Rel, TestAt, TestBy, UnaryAt, form_of, local_at, rel_alone, rel_name, rel_single}
use Rattle.scheme_stands.specs.Relation.{related}
use Rattle.scheme_stands.specs.Words.{Fn, Spot}
use Rattle.reads_back.specs.Cores.{HasCore}
use Rattle.reads_back.proofs.BehindWords.{HasLocals}
use Rattle.reads_back.proofs.ComparisonsRead.{comparison_read, when_compared}
use Rattle.reads_back.proofs.NameReads.{AreListed}
use Rattle.reads_back.proofs.TestedAs.{HasTest, HasTestBy, IsCompared, IsTested, IsTestedBy, IsValueTested, when_tested}
use Rattle.reads_back.proofs.TestsRead.{CanTest, TestRead, value_test_read}
use Rattle.reads_back.proofs.ValueReads.{reads_all}
use Rattle.reads_back.proofs.WordsRead.{IsFunction, IsQuiet}

-- ---- where a value is tested

-- what is no literal is tested as it is
tests_value : (k : Option Constant) (g : Fn) (active : List Active) (c : Rel) (free : ℕ) (truth : Bool) (label : ℕ) (p q : Spot) → k ≡ None → TestBy k g active c free truth label p q → TestAt g active c free truth label p q
tests_value (Some k) g active c free truth label p q none at = cc
tests_value None g active c free truth label p q none at = at

name_operand : (o : Option ℕ) (g : Fn) (text : Text) (active : List Active) (free x free1 : ℕ) (p q : Spot) → OperandBy o g active (record (rel_alone g (form_of (name_expression 0 text)) (NameAt g text)) { bare = BareAt g text }) free x free1 p q → OperandBy o g active (rel_name g text) free x free1 p q
name_operand (Some r) g text active free x free1 p q at = record { at_x = at.at_x; at_free = at.at_free; passed = at.passed }
name_operand None g text active free x free1 p q at = record { room = at.room; at_x = at.at_x; at_free = at.at_free; value_at = at.value_at }

module _ (g : Fn) (active : List Active) (free : ℕ) (truth : Bool) (label : ℕ) (p q : Spot) where
  -- of a value that is no `not` and in no parentheses
  pub value_tests : (e : Expression) → HasTest e → HasCore e → literal e ≡ None → (related g e).jump_if active free truth label p q → TestAt g active (related g e) free truth label p q
  value_tests (nil_literal line) test has none at = cc
  value_tests (true_literal line) test has none at = cc
  value_tests (false_literal line) test has none at = cc
  value_tests (number_literal line n) test has none at = cc
  value_tests (text_literal line text) test has none at = cc
  value_tests (vararg_expression line) test has none at = at
  value_tests (name_expression line text) test has none at =
      record { x = at.x; free1 = at.free1; mid = at.mid; operand_at = name_operand (local_at (form_of (name_expression 0 text)) active p) g text active free at.x at.free1 p at.mid at.operand_at; words_at = at.words_at }
  value_tests (function_expression line body) test has none at = at
  value_tests (index_expression line on key) test has none at = at
  value_tests (field_expression line on text) test has none at = at
  value_tests (call_expression line on args on_line) test has none at = at
  value_tests (method_call line on name args on_line) test has none at = at
  value_tests (binary_expression line op left right) test has none at =
      let e = binary_expression line op left right in
      let to = LoadOr (fold e) g (BinaryAt g op (related g left) (related g right)) in
      let value = rel_single g (form_of e) to in
      tests_value (literal e) g active (rel_alone g (form_of e) to) free truth label p q none
      (subst (λ (compares : Bool). BinaryJump compares g op (related g left) (related g right) value active free truth label p q) has.0 at)
  value_tests (unary_expression line UnaryOp.Not e) test has none at = absurd test
  value_tests (unary_expression line UnaryOp.Neg e) test has none at =
      let whole = unary_expression line UnaryOp.Neg e in
      tests_value (literal whole) g active (rel_alone g (form_of whole) (LoadOr (fold whole) g (UnaryAt g UnaryOp.Neg (related g e)))) free truth label p q none at
  value_tests (unary_expression line UnaryOp.Len e) test has none at =
      let whole = unary_expression line UnaryOp.Len e in
      tests_value (literal whole) g active (rel_alone g (form_of whole) (LoadOr (fold whole) g (UnaryAt g UnaryOp.Len (related g e)))) free truth label p q none at
  value_tests (constructor line items) test has none at = at
  value_tests (parenthesized line e) test has none at = absurd test
  value_tests e test has none at = absurd has

-- ---- leaves

when_compares : (line : ℕ) (op : BinaryOp) (left right : Expression) (sense : Bool) → when_compared op sense ≡ when_tested (binary_expression line op left right) sense
when_compares line BinaryOp.Ne left right sense = refl
when_compares line op left right sense = refl

when_value : (line : ℕ) (op : BinaryOp) (left right : Expression) (sense : Bool) → is_comparison op ≡ false → when_tested (binary_expression line op left right) sense ≡ sense
when_value line BinaryOp.Ne left right sense is = cc
when_value line op left right sense is = refl

module _ {f : Function} {g : Fn} {active : List Active} {listed : List ℕ} {lefts : ℕ → List (Option Inner)} (is_function : IsFunction f g) (all : AreListed f g active listed) where
  -- a leaf that is no operator of two operands
  leaf_read : (e : Expression) → HasTest e → HasCore e → literal e ≡ None → depth_of_expression e ≤ 200 → CanTest f (IsValueTested g active e) listed lefts → (label : ℕ) (sense : Bool) (p q : Spot) (s : Situation) → HasLocals active listed s → s.left ≡ lefts p.functions → s.entries ≡ [] → label ≤ f.last → IsQuiet f s.scope p.pc q.pc →
      (related g e).jump_if active (length active) sense label p q → TestRead f (IsValueTested g active e p.functions q.functions) s sense label p.pc q.pc
  leaf_read e test has none few can label sense p q s locals left_is empty within quiet at =
      value_test_read is_function all e (reads_all is_function all e has few).one can (length active) label sense p q s locals left_is empty refl within quiet (value_tests g active (length active) sense label p q e test has none at)

  operator_read : (compares : Bool) (line : ℕ) (op : BinaryOp) (left right : Expression) → is_comparison op ≡ compares → HasTestBy compares left right (binary_expression line op left right) → depth_of_expression (binary_expression line op left right) ≤ 200 →
      CanTest f (IsTestedBy compares g active op left right (binary_expression line op left right)) listed lefts → (label : ℕ) (sense : Bool) (p q : Spot) (s : Situation) → HasLocals active listed s → s.left ≡ lefts p.functions → s.entries ≡ [] → label ≤ f.last → IsQuiet f s.scope p.pc q.pc →
      (related g (binary_expression line op left right)).jump_if active (length active) sense label p q → TestRead f (IsTestedBy compares g active op left right (binary_expression line op left right) p.functions q.functions) s (when_tested (binary_expression line op left right) sense) label p.pc q.pc
  operator_read true line op left right is has few can label sense p q s locals left_is empty within quiet at =
      let e = binary_expression line op left right in
      let value = rel_single g (form_of e) (LoadOr (fold e) g (BinaryAt g op (related g left) (related g right))) in
      let compare = subst (λ (compares : Bool). BinaryJump compares g op (related g left) (related g right) value active (length active) sense label p q) is at in
      subst (λ (when : Bool). TestRead f (IsCompared g active op left right p.functions q.functions) s when label p.pc q.pc) (when_compares line op left right sense)
      (comparison_read is_function all op left right is (reads_all is_function all left has.0 (omega (arith, few))).one (reads_all is_function all right has.1 (omega (arith, few))).one can label sense p q s locals left_is empty within quiet compare)
  operator_read false line op left right is has few can label sense p q s locals left_is empty within quiet at =
      let e = binary_expression line op left right in
      subst (λ (when : Bool). TestRead f (IsValueTested g active e p.functions q.functions) s when label p.pc q.pc) (sym (when_value line op left right sense is))
      (leaf_read e (subst (λ (compares : Bool). HasTestBy compares left right e) (sym is) has) has.0 has.1 few can label sense p q s locals left_is empty within quiet at)

  pub test_read : (e : Expression) → HasTest e → depth_of_expression e ≤ 200 → CanTest f (IsTested g active e) listed lefts → (label : ℕ) (sense : Bool) (p q : Spot) (s : Situation) → HasLocals active listed s → s.left ≡ lefts p.functions → s.entries ≡ [] → label ≤ f.last → IsQuiet f s.scope p.pc q.pc →
      (related g e).jump_if active (length active) sense label p q → TestRead f (IsTested g active e p.functions q.functions) s (when_tested e sense) label p.pc q.pc
  test_read (binary_expression line op left right) has few can label sense p q s locals left_is empty within quiet at = operator_read (is_comparison op) line op left right refl has few can label sense p q s locals left_is empty within quiet at
  test_read (unary_expression line UnaryOp.Not e) has few can label sense p q s locals left_is empty within quiet at = absurd has
  test_read (parenthesized line e) has few can label sense p q s locals left_is empty within quiet at = absurd has
  test_read e has few can label sense p q s locals left_is empty within quiet at = leaf_read e has has.0 has.1 few can label sense p q s locals left_is empty within quiet at
