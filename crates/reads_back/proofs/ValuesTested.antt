-- What is written of a value that is tested makes the same test.
use Rattle.std.proofs.Common.{◌≡◌, ℕ, suc, max, Bool, true, false, ℤ, List, length, Option, Some, None, is_some, refl, sym, ap, ◌∙◌, subst, cond}
use Rattle.lua_num.specs.Bytes.{Text}
use Rattle.lua_tree.specs.OneLine.{one_line_expression}
use Rattle.lua_tree.specs.Syntax.{Expression, nil_literal, true_literal, false_literal, vararg_expression, number_literal, text_literal, name_expression, function_expression, index_expression, field_expression, call_expression, method_call, and_expression, or_expression, binary_expression, unary_expression, parenthesized, constructor}
use Rattle.lua_tree.specs.declared.tree.BinaryOp.{BinaryOp}
use Rattle.lua_tree.specs.declared.tree.UnaryOp.{UnaryOp}
use Rattle.opcode.specs.declared.op.Op.{Op}
use Rattle.opcode.specs.Word.{truth_field}
use Rattle.proto.specs.declared.parts.Constant.{Constant}
use Rattle.core_expr.specs.Counting.{left_by, left_by_operand, taken_behind, taken_behind_operand}
use Rattle.core_expr.specs.Making.{and_last, deepest, deepest_item, depth_of, depth_of_operand, made_index}
use Rattle.core_expr.specs.Places.{Place, constant_name, field_name, local_name, place, upvalue_name}
use Rattle.core_expr.specs.Values.{Inner, OperandList, OperandValue, Value, Values, and_operand, and_value, binary_value, call_value, concat_value, function_value, global_value, index_value, local_value, method_value, no_operands, table_value, unary_value, upvalue_value, vararg_value}
use Rattle.core_expr.specs.Writing.{Wording, as_prefix, can_write, function_left, function_word, name_word, with_key, word, word_keys, word_operand}
use Rattle.recover_expr.specs.Situation.{Function}
use Rattle.scheme.specs.Expressions.{Coded, binary_value as binary_made, compare, fold, is_comparison, literal, load_or, local_register, name_value, no_target, number_or, operand, operand_by, plain_literal, plain_multi, single, test_by, unary_value as unary_made}
use Rattle.scheme.specs.Making.{Got, Maker, Part, Where, free_from, freeing, nothing, take_registers, in_globals, in_register, in_upvalue, jump_to, put}
use Rattle.scheme.specs.Scheme.{coded}
use Rattle.scheme.specs.declared.making.Active.{Active}
use Rattle.scheme.specs.declared.making.Piece.{Piece}
use Rattle.scheme_stands.proofs.Growth.{Final, before_free, before_put}
use Rattle.scheme_stands.specs.Words.{Fn}
use Rattle.reads_back.specs.Cores.{Counted, HasCore, IsArithmetic, IsCore, IsFoldedOr, IsOperandBy, IsOperator, IsUnary, IsVariable, concat_by, core, first_and, unary_by}
use Rattle.reads_back.proofs.MarksSame.{over_made}
use Rattle.reads_back.proofs.Mentions.{IsAhead, mentions_in}
use Rattle.reads_back.proofs.PlainWords.{spine_is_some}
use Rattle.reads_back.proofs.Rewriting.{Rewritten, code, wording}
use Rattle.reads_back.proofs.TestedAs.{HasTest}
use Rattle.reads_back.proofs.WordsSame.{operand_same, operand_taken, same_fold}

-- ---- what is tested as a value

-- on the first line
abbrev pub IsTestedWhole : Expression → Type 0
IsTestedWhole (vararg_expression line) = line ≡ 1
IsTestedWhole (name_expression line text) = line ≡ 1
IsTestedWhole (function_expression line body) = line ≡ 1
IsTestedWhole (index_expression line on key) = line ≡ 1
IsTestedWhole (field_expression line on text) = line ≡ 1
IsTestedWhole (call_expression line on args on_line) = line ≡ 1
IsTestedWhole (method_call line on text args on_line) = line ≡ 1
IsTestedWhole (binary_expression line op left right) = (line ≡ 1) × (is_comparison op ≡ false)
IsTestedWhole (unary_expression line UnaryOp.Neg e) = line ≡ 1
IsTestedWhole (unary_expression line UnaryOp.Len e) = line ≡ 1
IsTestedWhole (constructor line items) = line ≡ 1
IsTestedWhole e = ⊥

-- the test of what is in a register
abbrev tested_from : (free : ℕ) → (truth : Bool) → (label : ℕ) → Got ℕ → Maker
tested_from free truth label x = free_from free (jump_to 1 label (put 1 (Piece.Abc Op.Test x.value 0 (truth_field truth)) x.after))

-- so a value is coded, but for what is made of it as a whole
abbrev alone : Expression → (to : ℕ → Part) → Coded
alone e to = record { e = e; to_reg = λ r. freeing (to r); jump_if = λ truth label. nothing; spine = nothing; multi = plain_multi; target = no_target }

operand_alike : (o : Option ℕ) (c d : Coded) (m : Maker) → c.to_reg m.free m ≡ d.to_reg m.free m → operand_by o c m ≡ operand_by o d m
operand_alike (Some r) c d m same = refl
operand_alike None c d m same = ap (λ (after : Maker). record { value = m.free; after = take_registers 1 after }) same

no_literal : (k : Option Constant) (c : Coded) (truth : Bool) (label : ℕ) (m : Maker) → k ≡ None → test_by k 1 c truth label m ≡ tested_from m.free truth label (operand c m)
no_literal k c truth label m none = ap (λ k. test_by k 1 c truth label m) none

pub literal_none : (folded : Option ℤ) → folded ≡ None → number_or folded None ≡ None
literal_none folded none = ap (λ folded. number_or folded None) none

name_tests : (text : Text) (truth : Bool) (label : ℕ) (m : Maker) → (coded (name_expression 1 text)).jump_if truth label m ≡ tested_from m.free truth label (operand (coded (name_expression 1 text)) m)
name_tests text truth label m = ap (tested_from m.free truth label) (operand_alike (local_register (name_expression 1 text) m) (alone (name_expression 1 text) (name_value 1 text)) (coded (name_expression 1 text)) m refl)

binary_tests : (op : BinaryOp) (left right : Expression) → is_comparison op ≡ false → fold (binary_expression 1 op left right) ≡ None → (truth : Bool) (label : ℕ) (m : Maker) → (coded (binary_expression 1 op left right)).jump_if truth label m ≡ tested_from m.free truth label (operand (coded (binary_expression 1 op left right)) m)
binary_tests op left right plain none truth label m =
    let e = binary_expression 1 op left right in
    let value = single 1 e (load_or (fold e) 1 (binary_made 1 op (coded left) (coded right))) in
    ap (λ compares. cond compares (λ truth label. freeing (compare 1 op (coded left) (coded right) truth label)) value.jump_if truth label m) plain
    ∙ no_literal (literal e) (alone e (load_or (fold e) 1 (binary_made 1 op (coded left) (coded right)))) truth label m (literal_none (fold e) none)

tests_whole : (x : Expression) → IsTestedWhole x → fold x ≡ None → (truth : Bool) (label : ℕ) (m : Maker) → (coded x).jump_if truth label m ≡ tested_from m.free truth label (operand (coded x) m)
tests_whole (vararg_expression line) is none truth label m = subst (λ (line : ℕ). (coded (vararg_expression line)).jump_if truth label m ≡ tested_from m.free truth label (operand (coded (vararg_expression line)) m)) (sym is) refl
tests_whole (name_expression line text) is none truth label m = subst (λ (line : ℕ). (coded (name_expression line text)).jump_if truth label m ≡ tested_from m.free truth label (operand (coded (name_expression line text)) m)) (sym is) (name_tests text truth label m)
tests_whole (function_expression line body) is none truth label m = subst (λ (line : ℕ). (coded (function_expression line body)).jump_if truth label m ≡ tested_from m.free truth label (operand (coded (function_expression line body)) m)) (sym is) refl
tests_whole (index_expression line on key) is none truth label m = subst (λ (line : ℕ). (coded (index_expression line on key)).jump_if truth label m ≡ tested_from m.free truth label (operand (coded (index_expression line on key)) m)) (sym is) refl
tests_whole (field_expression line on text) is none truth label m = subst (λ (line : ℕ). (coded (field_expression line on text)).jump_if truth label m ≡ tested_from m.free truth label (operand (coded (field_expression line on text)) m)) (sym is) refl
tests_whole (call_expression line on args on_line) is none truth label m = subst (λ (line : ℕ). (coded (call_expression line on args on_line)).jump_if truth label m ≡ tested_from m.free truth label (operand (coded (call_expression line on args on_line)) m)) (sym is) refl
tests_whole (method_call line on text args on_line) is none truth label m = subst (λ (line : ℕ). (coded (method_call line on text args on_line)).jump_if truth label m ≡ tested_from m.free truth label (operand (coded (method_call line on text args on_line)) m)) (sym is) refl
tests_whole (binary_expression line op left right) is none truth label m = subst (λ (line : ℕ). (coded (binary_expression line op left right)).jump_if truth label m ≡ tested_from m.free truth label (operand (coded (binary_expression line op left right)) m)) (sym is.0) (binary_tests op left right is.1 none truth label m)
tests_whole (unary_expression line UnaryOp.Neg e) is none truth label m =
    let e' = unary_expression 1 UnaryOp.Neg e in
    subst (λ (line : ℕ). (coded (unary_expression line UnaryOp.Neg e)).jump_if truth label m ≡ tested_from m.free truth label (operand (coded (unary_expression line UnaryOp.Neg e)) m)) (sym is) (no_literal (literal e') (alone e' (load_or (fold e') 1 (unary_made 1 UnaryOp.Neg (coded e)))) truth label m (literal_none (fold e') none))
tests_whole (unary_expression line UnaryOp.Len e) is none truth label m =
    let e' = unary_expression 1 UnaryOp.Len e in
    subst (λ (line : ℕ). (coded (unary_expression line UnaryOp.Len e)).jump_if truth label m ≡ tested_from m.free truth label (operand (coded (unary_expression line UnaryOp.Len e)) m)) (sym is) (no_literal (literal e') (alone e' (load_or (fold e') 1 (unary_made 1 UnaryOp.Len (coded e)))) truth label m (literal_none (fold e') none))
tests_whole (constructor line items) is none truth label m = subst (λ (line : ℕ). (coded (constructor line items)).jump_if truth label m ≡ tested_from m.free truth label (operand (coded (constructor line items)) m)) (sym is) refl
tests_whole e is none truth label m = absurd is

-- ---- the source

pub no_fold : (folded : Option ℤ) (plain : Option Constant) → number_or folded plain ≡ None → folded ≡ None
no_fold (Some n) plain none = cc
no_fold None plain none = refl

source_whole : (e : Expression) → HasTest e → HasCore e → literal e ≡ None → IsTestedWhole (one_line_expression e)
source_whole (nil_literal line) test has none = cc
source_whole (true_literal line) test has none = cc
source_whole (false_literal line) test has none = cc
source_whole (number_literal line n) test has none = cc
source_whole (text_literal line text) test has none = cc
source_whole (binary_expression line op left right) test has none = (refl, has.0)
source_whole (unary_expression line UnaryOp.Not e) test has none = absurd test
source_whole (unary_expression line UnaryOp.Neg e) test has none = refl
source_whole (unary_expression line UnaryOp.Len e) test has none = refl
source_whole (parenthesized line e) test has none = absurd test
source_whole (and_expression line left right) test has none = absurd has
source_whole (or_expression line left right) test has none = absurd has
source_whole (vararg_expression line) test has none = refl
source_whole (name_expression line text) test has none = refl
source_whole (function_expression line body) test has none = refl
source_whole (index_expression line on key) test has none = refl
source_whole (field_expression line on text) test has none = refl
source_whole (call_expression line on args on_line) test has none = refl
source_whole (method_call line on text args on_line) test has none = refl
source_whole (constructor line items) test has none = refl

-- ---- what is written

name_whole : (name : Option Text) → is_some name ≡ true → IsTestedWhole (name_word name).words
name_whole None is = cc
name_whole (Some name) is = refl

function_whole : (found : Option Inner) → is_some found ≡ true → IsTestedWhole (function_word found).words
function_whole None is = cc
function_whole (Some found) is = refl

with_key_whole : (name : Option Text) (on key : Wording) → IsTestedWhole (with_key name on key).words
with_key_whole None on key = refl
with_key_whole (Some name) on key = refl

keys_whole : (at : Place) (n : ℕ) (fs : List (Option Inner)) (w : Wording) (keys : OperandList) → IsTestedWhole w.words → IsTestedWhole (word_keys at n fs w keys).words
keys_whole at n fs w no_operands whole = whole
keys_whole at n fs w (and_operand key rest) whole = keys_whole at (taken_behind_operand key n) (left_by_operand key fs) (with_key (field_name at key) w (word_operand at n fs key)) rest (with_key_whole (field_name at key) w (word_operand at n fs key))

some_keys_whole : (at : Place) (n : ℕ) (fs : List (Option Inner)) (w : Wording) (key : OperandValue) (rest : OperandList) → IsTestedWhole (word_keys at n fs w (and_operand key rest)).words
some_keys_whole at n fs w key rest = keys_whole at (taken_behind_operand key n) (left_by_operand key fs) (with_key (field_name at key) w (word_operand at n fs key)) rest (with_key_whole (field_name at key) w (word_operand at n fs key))

last_key_whole : (at : Place) (n : ℕ) (fs : List (Option Inner)) (w : Wording) (keys : OperandList) (key : OperandValue) → IsTestedWhole (word_keys at n fs w (and_last keys key)).words
last_key_whole at n fs w no_operands key = some_keys_whole at n fs w key no_operands
last_key_whole at n fs w (and_operand first rest) key = some_keys_whole at n fs w first (and_last rest key)

module _ (g : Fn) (active : List Active) (at : Place) (left : List (Option Inner)) where
  abbrev IsWrittenWhole : Value → Type 0
  IsWrittenWhole v = (n : ℕ) → IsTestedWhole (word at n left v).words

  as_made : (v w : Value) → v ≡ w → IsWrittenWhole w → IsWrittenWhole v
  as_made v w is whole = subst IsWrittenWhole (sym is) whole

  named_whole : (text : Text) (w : Where) (v : Value) → can_write at left v ≡ true → IsVariable g text w v → IsWrittenWhole v
  named_whole text (in_register r) v can is = as_made v (local_value r) is (λ n. name_whole (local_name at r) (subst (λ (v : Value). can_write at left v ≡ true) is can))
  named_whole text (in_upvalue slot) v can is = as_made v (upvalue_value slot) is (λ n. name_whole (upvalue_name at slot) (subst (λ (v : Value). can_write at left v ≡ true) is can))
  named_whole text in_globals v can (number, has, is) = as_made v (global_value number) is (λ n. name_whole (constant_name at number) (subst (λ (v : Value). can_write at left v ≡ true) is can))

  index_whole : (on : Value) (key : OperandValue) (v : Value) → made_index on key ≡ Some v → IsWrittenWhole v
  index_whole (index_value on keys depth) key v is =
      as_made v (index_value on (and_last keys key) (max depth (suc (depth_of_operand key)))) (over_made (depth_of_operand key) (λ d. index_value on (and_last keys key) (max depth d)) v is)
      (λ n. last_key_whole at (taken_behind on n) (left_by on left) (as_prefix (word at n left on)) keys key)
  index_whole on key v is =
      as_made v (index_value on (and_operand key no_operands) (suc (max (depth_of on) (depth_of_operand key)))) (over_made (max (depth_of on) (depth_of_operand key)) (λ d. index_value on (and_operand key no_operands) d) v is)
      (λ n. some_keys_whole at (taken_behind on n) (left_by on left) (as_prefix (word at n left on)) key no_operands)

  concat_whole : (first second : Expression) (before behind : ℕ) (v : Value) → concat_by (first_and (core g active first).value (core g active second).spine) before behind v → IsWrittenWhole v
  concat_whole first second before behind v (values, (mid, (one, rest, is_one, are_rest, is)), made) =
      let more = spine_is_some g active second mid behind rest are_rest in
      let both : values ≡ and_value one (and_value more.first more.rest) = is ∙ ap (and_value one) more.is in
      as_made v (concat_value (and_value one (and_value more.first more.rest)) (suc (deepest values)))
      (over_made (deepest values) (λ d. concat_value values d) v made ∙ ap (λ (operands : Values). concat_value operands (suc (deepest values))) both) (λ n. (refl, refl))

  arithmetic_whole : (op : BinaryOp) (Left Right : OperandValue → Type 0) (v : Value) → IsArithmetic op Left Right v → IsWrittenWhole v
  arithmetic_whole op Left Right v (plain, x, y, is_x, is_y, is) =
      let depth = max (depth_of_operand x) (depth_of_operand y) in
      as_made v (binary_value op x y (suc depth)) (over_made depth (λ d. binary_value op x y d) v is) (λ n. (refl, plain))

  operator_whole : (op : BinaryOp) (Left Right : Counted OperandValue) (first second : Expression) (before behind : ℕ) (v : Value) → IsOperator op Left Right (first_and (core g active first).value (core g active second).spine) before behind v → IsWrittenWhole v
  operator_whole BinaryOp.Concat Left Right first second before behind v is = concat_whole first second before behind v is
  operator_whole op Left Right first second before behind v is = arithmetic_whole op (Left before is.0) (Right is.0 behind) v is.1

  unfolded : (folded : Option ℤ) (Is : Counted Value) (before behind : ℕ) (v : Value) → folded ≡ None → IsFoldedOr folded g Is before behind v → Is before behind v
  unfolded (Some n) Is before behind v none is = cc
  unfolded None Is before behind v none is = is

  unary_whole : (op : UnaryOp) (Of : Value → Type 0) (v : Value) → (op ≡ UnaryOp.Not → ⊥) → IsUnary op Of v → IsWrittenWhole v
  unary_whole UnaryOp.Not Of v other is = absurd (other refl)
  unary_whole UnaryOp.Neg Of v other (of, is_of, is) = as_made v (unary_value UnaryOp.Neg of (suc (depth_of of))) (over_made (depth_of of) (λ d. unary_value UnaryOp.Neg of d) v is) (λ n. refl)
  unary_whole UnaryOp.Len Of v other (of, is_of, is) = as_made v (unary_value UnaryOp.Len of (suc (depth_of of))) (over_made (depth_of of) (λ d. unary_value UnaryOp.Len of d) v is) (λ n. refl)

  pub written_whole : (e : Expression) → HasTest e → HasCore e → literal e ≡ None → (before behind : ℕ) (v : Value) → IsCore g active e before behind v → can_write at left v ≡ true → IsWrittenWhole v
  written_whole (nil_literal line) test has none before behind v is can = cc
  written_whole (true_literal line) test has none before behind v is can = cc
  written_whole (false_literal line) test has none before behind v is can = cc
  written_whole (number_literal line n) test has none before behind v is can = cc
  written_whole (text_literal line text) test has none before behind v is can = cc
  written_whole (vararg_expression line) test has none before behind v is can = as_made v vararg_value is.1 (λ n. refl)
  written_whole (name_expression line text) test has none before behind v is can = let means = is.1 in named_whole text means.0 v can means.2
  written_whole (function_expression line body) test has none before behind v is can = as_made v (function_value before false) is.1 (λ n. function_whole (function_left left before) (subst (λ (v : Value). can_write at left v ≡ true) is.1 can))
  written_whole (index_expression line on key) test has none before behind v is can = let parts = is.1 in index_whole parts.0 parts.1 v parts.4
  written_whole (field_expression line on text) test has none before behind v is can = let parts = is.1 in index_whole parts.0 parts.1 v parts.4
  written_whole (call_expression line on args on_line) test has none before behind v (mid, (callee, values, all, is_callee, given, is)) can =
      let depth = max (depth_of callee) (deepest values) in
      as_made v (call_value callee values all (suc depth)) (over_made depth (λ d. call_value callee values all d) v is) (λ n. refl)
  written_whole (method_call line on name args on_line) test has none before behind v (mid, (callee, number, values, all, is_callee, numbered, given, is)) can =
      let depth = max (depth_of callee) (deepest values) in
      as_made v (method_value callee number values all (suc depth)) (over_made depth (λ d. method_value callee number values all d) v is) (λ n. refl)
  written_whole (binary_expression line op first second) test has none before behind v is can =
      let operands = first_and (core g active first).value (core g active second).spine in
      let Left = IsOperandBy (literal first) g (core g active first).value in
      let Right = IsOperandBy (literal second) g (core g active second).value in
      operator_whole op Left Right first second before behind v (unfolded (fold (binary_expression line op first second)) (IsOperator op Left Right operands) before behind v (no_fold (fold (binary_expression line op first second)) None none) is)
  written_whole (unary_expression line UnaryOp.Not e) test has none before behind v is can = absurd test
  written_whole (unary_expression line UnaryOp.Neg e) test has none before behind v is can =
      unary_whole UnaryOp.Neg ((core g active e).value before behind) v (λ is. cc) (unfolded (fold (unary_expression line UnaryOp.Neg e)) (unary_by UnaryOp.Neg (core g active e).value) before behind v (no_fold (fold (unary_expression line UnaryOp.Neg e)) None none) is)
  written_whole (unary_expression line UnaryOp.Len e) test has none before behind v is can =
      unary_whole UnaryOp.Len ((core g active e).value before behind) v (λ is. cc) (unfolded (fold (unary_expression line UnaryOp.Len e)) (unary_by UnaryOp.Len (core g active e).value) before behind v (no_fold (fold (unary_expression line UnaryOp.Len e)) None none) is)
  written_whole (constructor line items) test has none before behind v (made, all, are, is) can = as_made v (table_value made all (suc (deepest_item made))) (over_made (deepest_item made) (λ d. table_value made all d) v is) (λ n. refl)
  written_whole (parenthesized line e) test has none before behind v is can = absurd test
  written_whole e test has none before behind v is can = absurd is

-- ---- both

module _ {f : Function} {g : Fn} {active : List Active} {listed : List ℕ} {z : Maker} {lefts : ℕ → List (Option Inner)} {before behind : ℕ} (e : Expression) (v : Value) (test : HasTest e) (has : HasCore e) (none : literal e ≡ None) (is : IsCore g active e before behind v)
    (rewritten : Rewritten f g active listed z lefts before behind e v) (truth : Bool) (label : ℕ) (m : Maker) (ahead : IsAhead g active before (mentions_in e) m) where
  source_tests : (code e).jump_if truth label m ≡ tested_from m.free truth label (operand (code e) m)
  source_tests = tests_whole (one_line_expression e) (source_whole e test has none) (same_fold e ∙ no_fold (fold e) (plain_literal e) none) truth label m

  -- what is final behind the test is so behind its operand
  pub operand_is_final : Final (length m.labels) ((code e).jump_if truth label m) z → Final (length m.labels) (operand (code e) m).after z
  operand_is_final final =
      let x = operand (code e) m in
      before_put 1 (Piece.Abc Op.Test x.value 0 (truth_field truth)) x.after (before_put 1 (Piece.Jump Op.Jmp 0 label) (put 1 (Piece.Abc Op.Test x.value 0 (truth_field truth)) x.after)
      (before_free m.free (jump_to 1 label (put 1 (Piece.Abc Op.Test x.value 0 (truth_field truth)) x.after)) (subst (λ (n : Maker). Final (length m.labels) n z) source_tests final)))

  pub value_test_same : Final (length m.labels) ((code e).jump_if truth label m) z → (coded (wording f listed z lefts before (length m.constants) v).words).jump_if truth label m ≡ (code e).jump_if truth label m
  value_test_same final =
      let n = length m.constants in
      tests_whole (wording f listed z lefts before n v).words (written_whole g active (place f.of listed f.short) (lefts before) e test has none before behind v is rewritten.can n) (rewritten.folded n ∙ no_fold (fold e) (plain_literal e) none) truth label m
      ∙ ap (tested_from m.free truth label) (operand_same rewritten m ahead (operand_is_final final))
      ∙ sym source_tests

  -- the constants that it takes
  pub value_test_taken : Final (length m.labels) ((code e).jump_if truth label m) z → length ((code e).jump_if truth label m).constants ≡ taken_behind v (length m.constants)
  value_test_taken final = ap (λ (n : Maker). length n.constants) source_tests ∙ operand_taken rewritten m ahead (operand_is_final final)
