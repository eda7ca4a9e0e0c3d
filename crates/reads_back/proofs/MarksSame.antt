-- The value of an expression has the names that the expression mentions, in the same order, where each function that is made is the part of the source that has its number.
use Rattle.std.proofs.Common.{◌≡◌, ◌≤◌, arith, ◌++◌, ◌∷◌, [], ℕ, suc, Bool, true, false, ◌&&◌, List, length, max, Option, Some, None, refl, sym, ap, ◌∙◌, inl, inr}
use Rattle.std.specs.Prelude.{ℤ, nat_lt, if◌then◌else◌}
use Rattle.lua_num.specs.Bytes.{Text}
use Rattle.lua_tree.specs.OneLine.{one_line_arguments, one_line_body, one_line_expression, one_line_expressions, one_line_fields}
use Rattle.lua_tree.specs.Outline.{Part, arguments_part, body_part, both, expression_part, expressions_part, fields_part, mentions, nothing}
use Rattle.lua_tree.specs.Syntax as syntax
use Rattle.lua_tree.specs.Syntax.{Arguments, Expression, Expressions, FunctionBody, function_expression, argument_list, binary_expression, call_expression, constructor, Fields, no_fields, positional, named, keyed, table_argument, false_literal, field_expression, index_expression, method_call, name_expression, nil_literal, no_expressions, number_literal, parenthesized, text_argument, text_literal, true_literal, unary_expression, vararg_expression, Statement, local_function}
use Rattle.lua_tree.specs.Names.{is_name}
use Rattle.lua_tree.specs.declared.tree.BinaryOp.{BinaryOp}
use Rattle.lua_tree.specs.WellFormed.{depth_of_arguments, depth_of_body, depth_of_expression, depth_of_expressions, depth_of_fields}
use Rattle.proto.specs.declared.parts.Constant.{Constant}
use Rattle.core_expr.specs.Making.{and_last, deepest, deepest_item, depth_of, depth_of_operand, made_binary, made_call, made_index, made_method, made_over, made_table}
use Rattle.core_expr.specs.Places.{Place, as_name, as_text, constant_name, place}
use Rattle.core_expr.specs.Values.{binary_value, call_value, concat_value, method_value, unary_value, table_value, ItemList, no_items, OperandList, OperandValue, Value, Values, and_operand, and_value, global_value, index_value, local_value, no_operands, no_values, upvalue_value, value_operand}
use Rattle.recover_expr.specs.Situation.{Function}
use Rattle.scheme.specs.Expressions.{number_or, plain_literal, arith_op, fold, is_multiple, literal}
use Rattle.scheme.specs.Making.{Where, in_globals, in_register, in_upvalue, Ahead}
use Rattle.scheme.specs.declared.making.Active.{Active}
use Rattle.scheme_stands.specs.Lists.{is_last_item}
use Rattle.scheme_stands.specs.Words.{Fn}
use Rattle.reads_back.specs.Coming.{Coming, IsMadeNext, declared_local}
use Rattle.reads_back.specs.Cores.{HasNumber, IsKey, IsSmall, IsVariable, AllHaveCores, AreCores, AreGiven, HasCore, HaveCores, IsClosure, IsConstant, IsCore, IsFoldedOr, IsItem, IsKeyedItem, AreItems, HaveItems, IsOperandBy, IsOperator, core, only, first_and, Counted, CountedItems, IsPlainBody}
use Rattle.reads_back.proofs.LiteralReads.{constant_there}
use Rattle.reads_back.proofs.Marks.{SamePart, both_assoc, both_same, exact_part, name_mentioned, nothing_behind, part_back, part_of, part_of_operand, part_then, parts_of, parts_of_items, parts_of_operands, same_part}
use Rattle.reads_back.proofs.NameReads.{AreListed, IsListed}
use Rattle.reads_back.proofs.Rooms.{folded_both, folded_one}
use Rattle.reads_back.proofs.Tests.{given_is, not_so}
use Rattle.reads_back.proofs.WordsRead.{IsFunction}

-- ---- values from their parts

pub over_made : (depth : ℕ) (make : ℕ → Value) (v : Value) → made_over depth make ≡ Some v → v ≡ make (suc depth)
over_made depth make v is = sym (given_is (nat_lt depth 400) (make (suc depth)) v is)

module _ (at : Place) (of : ℕ → Part) where
  last_part : (keys : OperandList) (key : OperandValue) → SamePart (parts_of_operands at of (and_last keys key)) (both (parts_of_operands at of keys) (part_of_operand at of key))
  last_part no_operands key = nothing_behind (part_of_operand at of key)
  last_part (and_operand o rest) key = part_then (both_same (same_part (part_of_operand at of o)) (last_part rest key)) (part_back (both_assoc (part_of_operand at of o) (parts_of_operands at of rest) (part_of_operand at of key)))

  is_part : (v w : Value) → v ≡ w → SamePart (part_of at of v) (part_of at of w)
  is_part v w same = exact_part (λ place. ap (λ v. part_of at of v place) same)

  pub index_part : (on : Value) (key : OperandValue) (v : Value) → made_index on key ≡ Some v → SamePart (part_of at of v) (both (part_of at of on) (part_of_operand at of key))
  index_part (index_value on keys depth) key v is =
      part_then (is_part v _ (over_made (depth_of_operand key) (λ d. index_value on (and_last keys key) (max depth d)) v is)) (part_then (both_same (same_part (part_of at of on)) (last_part keys key)) (part_back (both_assoc (part_of at of on) (parts_of_operands at of keys) (part_of_operand at of key))))
  index_part on key v is = part_then (is_part v _ (over_made (max (depth_of on) (depth_of_operand key)) (λ d. index_value on (and_operand key no_operands) d) v is)) (both_same (same_part (part_of at of on)) (nothing_behind (part_of_operand at of key)))

-- ---- folded numbers mention nothing

folded_part : (e : Expression) (n : ℤ) → fold e ≡ Some n → SamePart (expression_part (one_line_expression e)) nothing
folded_part (number_literal line k) n is = same_part nothing
folded_part (parenthesized line e) n is = folded_part e n is
folded_part (unary_expression line op e) n is = let one = folded_one op (fold e) n is in folded_part e one.0 one.1
folded_part (binary_expression line op left right) n is =
    let two = folded_both (arith_op op) (fold left) (fold right) n is in both_same (folded_part left two.0.0 two.0.1) (folded_part right two.1.0 two.1.1)
folded_part e n is = cc

-- a literal mentions nothing
plain_part : (e : Expression) (k : Constant) → plain_literal e ≡ Some k → SamePart (expression_part (one_line_expression e)) nothing
plain_part (nil_literal line) k is = same_part nothing
plain_part (true_literal line) k is = same_part nothing
plain_part (false_literal line) k is = same_part nothing
plain_part (text_literal line text) k is = same_part nothing
plain_part e k is = cc

literal_by : (e : Expression) (k : Constant) (folded : Option ℤ) → fold e ≡ folded → number_or folded (plain_literal e) ≡ Some k → SamePart (expression_part (one_line_expression e)) nothing
literal_by e k (Some n) is literal = folded_part e n is
literal_by e k None is literal = plain_part e k literal

pub literal_part : (e : Expression) (k : Constant) → literal e ≡ Some k → SamePart (expression_part (one_line_expression e)) nothing
literal_part e k is = literal_by e k (fold e) refl is

-- a function that is made is the part of the source that has its number
abbrev pub ArePartsMade : (g : Fn) (active : List Active) (of : ℕ → Part) → Type 0
ArePartsMade g active of = (body : FunctionBody) (c : Coming) → IsPlainBody body → depth_of_body body ≤ 199 → IsMadeNext g active body false c → SamePart (of c.functions) (body_part false body)

-- each function that is made in it is the part of the source that has its number
abbrev pub OwnPartsMade : Fn → List Active → (of : ℕ → Part) → Statement → Type 0
OwnPartsMade g active of (local_function text body) = (x : Active) (ahead : Ahead) → x.local ≡ declared_local text ahead → ArePartsMade g (active ++ x ∷ []) of
OwnPartsMade g active of s = Unit {0}

module _ {f : Function} {g : Fn} {active : List Active} {listed : List ℕ} (is_function : IsFunction f g) (all : AreListed f g active listed) (of : ℕ → Part) (parts_made : ArePartsMade g active of) where
  abbrev at : Place
  at = place f.of listed f.short

  constant_value_part : (k : Constant) (v : Value) → IsConstant g k v → SamePart (part_of at of v) nothing
  constant_value_part k v is = is_part at of v _ is.2

  constant_text : (text : Text) (number : ℕ) → is_name text ≡ true → HasNumber g (Constant.Text text) number → constant_name at number ≡ Some text
  constant_text text number good has =
      ap (λ there. as_name (as_text there)) (constant_there number (Constant.Text text) is_function has.is) ∙ ap (λ good. if good then Some text else None) good

  named_part : (text : Text) (v : Value) (w : Where) → is_name text ≡ true → IsListed f (length active) listed text w → IsVariable g text w v → SamePart (part_of at of v) (mentions 1 text)
  named_part text v (in_register r) good there is = part_then (is_part at of v (local_value r) is) (exact_part (λ place. ap (λ name. name_mentioned name place) there.1))
  named_part text v (in_upvalue slot) good there is = part_then (is_part at of v (upvalue_value slot) is) (exact_part (λ place. ap (λ name. name_mentioned name place) there))
  named_part text v in_globals good there is = part_then (is_part at of v (global_value is.0) is.2) (exact_part (λ place. ap (λ name. name_mentioned name place) (constant_text text is.0 good is.1)))

  operand_part : (o : OperandValue) (v : Value) (part : Part) → o ≡ value_operand v → SamePart (part_of at of v) part → SamePart (part_of_operand at of o) part
  operand_part o v part is same = part_then (exact_part (λ place. ap (λ o. part_of_operand at of o place) is)) same

  small_part : (o : OperandValue) (k : Constant) → IsSmall g k o → SamePart (part_of_operand at of o) nothing
  small_part o k is = exact_part (λ place. ap (λ o. part_of_operand at of o place) is.3)

  first_part : (vs : Values) (first : Value) (rest : Values) (one others : Part) → vs ≡ and_value first rest → SamePart (part_of at of first) one → SamePart (parts_of at of rest) others → SamePart (parts_of at of vs) (both one others)
  first_part vs first rest one others is first_same rest_same = part_then (exact_part (λ place. ap (λ vs. parts_of at of vs place) is)) (both_same first_same rest_same)

  pub key_part : (text : Text) (before behind : ℕ) (o : OperandValue) → IsKey g text before behind o → SamePart (part_of_operand at of o) nothing
  key_part text before behind o (inl small) = small_part o (Constant.Text text) small.1
  key_part text before behind o (inr large) = let is = large.1 in operand_part o is.0 nothing is.2 (constant_value_part (Constant.Text text) is.0 is.1.1)

  pub of_operand : (e : Expression) (before behind : ℕ) (o : OperandValue) (k : Option Constant) → literal e ≡ k → ((before behind : ℕ) (v : Value) → IsCore g active e before behind v → SamePart (part_of at of v) (expression_part (one_line_expression e))) → IsOperandBy k g (IsCore g active e) before behind o → SamePart (part_of_operand at of o) (expression_part (one_line_expression e))
  of_operand e before behind o (Some k) is same (inl small) = part_then (small_part o k small.1) (part_back (literal_by e k (fold e) refl is))
  of_operand e before behind o (Some k) is same (inr (large, one)) = operand_part o one.0 (expression_part (one_line_expression e)) one.2 (same before behind one.0 one.1)
  of_operand e before behind o None is same one = operand_part o one.0 (expression_part (one_line_expression e)) one.2 (same before behind one.0 one.1)

  -- the value, and the values from it on in a `..`
  pub record HasMarks (e : Expression) : Type 0 where
    pub one : (before behind : ℕ) (v : Value) → IsCore g active e before behind v → SamePart (part_of at of v) (expression_part (one_line_expression e))
    pub spine : (before behind : ℕ) (values : Values) → (core g active e).spine before behind values → SamePart (parts_of at of values) (expression_part (one_line_expression e))

  only_part : (e : Expression) (before behind : ℕ) (values : Values) → ((before behind : ℕ) (v : Value) → IsCore g active e before behind v → SamePart (part_of at of v) (expression_part (one_line_expression e))) → only (IsCore g active e) before behind values → SamePart (parts_of at of values) (expression_part (one_line_expression e))
  only_part e before behind values one only = part_then (first_part values only.0 no_values (expression_part (one_line_expression e)) nothing only.2 (one before behind only.0 only.1) (same_part nothing)) (nothing_behind (expression_part (one_line_expression e)))

  binary_made_part : (op : BinaryOp) (x y : OperandValue) (v : Value) → made_binary op x y ≡ Some v → SamePart (part_of at of v) (both (part_of_operand at of x) (part_of_operand at of y))
  binary_made_part op x y v is = is_part at of v _ (over_made (max (depth_of_operand x) (depth_of_operand y)) (λ d. binary_value op x y d) v is)

  -- an operator on two operands, or a `..`
  operator_part : (op : BinaryOp) (left right : Expression) (before behind : ℕ) (v : Value) → HasMarks left → HasMarks right →
      IsOperator op (IsOperandBy (literal left) g (IsCore g active left)) (IsOperandBy (literal right) g (IsCore g active right)) (first_and (IsCore g active left) (core g active right).spine) before behind v →
      SamePart (part_of at of v) (both (expression_part (one_line_expression left)) (expression_part (one_line_expression right)))
  operator_part BinaryOp.Concat left right before behind v first second is =
      let parts = is.1.1 in
      part_then (is_part at of v _ (over_made (deepest is.0) (λ d. concat_value is.0 d) v is.2))
      (first_part is.0 parts.0 parts.1 _ _ parts.4 (first.one before is.1.0 parts.0 parts.2) (second.spine is.1.0 behind parts.1 parts.3))
  operator_part op left right before behind v first second is =
      let parts = is.1 in
      part_then (binary_made_part op parts.1 parts.2 v parts.5) (both_same (of_operand left before is.0 parts.1 (literal left) refl first.one parts.3) (of_operand right is.0 behind parts.2 (literal right) refl second.one parts.4))

  folded_or_part : (folded : Option ℤ) (e : Expression) (Is : Counted Value) (before behind : ℕ) (v : Value) → fold e ≡ folded → ((v : Value) → Is before behind v → SamePart (part_of at of v) (expression_part (one_line_expression e))) → IsFoldedOr folded g Is before behind v → SamePart (part_of at of v) (expression_part (one_line_expression e))
  folded_or_part (Some n) e Is before behind v same one is = part_then (constant_value_part (Constant.Number n) v is.1) (part_back (folded_part e n same))
  folded_or_part None e Is before behind v same one is = one v is

  called_part : (on : Expression) (args : Arguments) (o v : Value) (vs : Values) (all : Bool) → made_call o vs all ≡ Some v → SamePart (part_of at of o) (expression_part (one_line_expression on)) → SamePart (parts_of at of vs) (arguments_part (one_line_arguments args)) →
      SamePart (part_of at of v) (both (expression_part (one_line_expression on)) (arguments_part (one_line_arguments args)))
  called_part on args o v vs all is first rest = part_then (is_part at of v _ (over_made (max (depth_of o) (deepest vs)) (λ d. call_value o vs all d) v is)) (both_same first rest)

  method_part : (on : Expression) (args : Arguments) (o v : Value) (number : ℕ) (vs : Values) (all : Bool) → made_method o number vs all ≡ Some v → SamePart (part_of at of o) (expression_part (one_line_expression on)) → SamePart (parts_of at of vs) (arguments_part (one_line_arguments args)) →
      SamePart (part_of at of v) (both (expression_part (one_line_expression on)) (arguments_part (one_line_arguments args)))
  method_part on args o v number vs all is first rest = part_then (is_part at of v _ (over_made (max (depth_of o) (deepest vs)) (λ d. method_value o number vs all d) v is)) (both_same first rest)

  spine_part : (op : BinaryOp) (line : ℕ) (left right : Expression) → HasMarks left → HasMarks right → ((before behind : ℕ) (v : Value) → IsCore g active (binary_expression line op left right) before behind v → SamePart (part_of at of v) (expression_part (one_line_expression (binary_expression line op left right)))) →
      (before behind : ℕ) (vs : Values) → (core g active (binary_expression line op left right)).spine before behind vs → SamePart (parts_of at of vs) (expression_part (one_line_expression (binary_expression line op left right)))
  spine_part BinaryOp.Concat line left right first second one before behind vs is =
      let parts = is.1 in
      first_part vs parts.0 parts.1 _ _ parts.4 (first.one before is.0 parts.0 parts.2) (second.spine is.0 behind parts.1 parts.3)
  spine_part op line left right first second one before behind vs is = only_part (binary_expression line op left right) before behind vs one is

  alone_marks : (e : Expression) → ((before behind : ℕ) (v : Value) → IsCore g active e before behind v → SamePart (part_of at of v) (expression_part (one_line_expression e))) → ((before behind : ℕ) (vs : Values) → (core g active e).spine before behind vs → only (IsCore g active e) before behind vs) → HasMarks e
  alone_marks e one alone = record { one = one; spine = λ before behind vs is. only_part e before behind vs one (alone before behind vs is) }

  -- ---- constructors

  table_part : (items : ItemList) (open_last : Bool) (v : Value) (part : Part) → made_table items open_last ≡ Some v → SamePart (parts_of_items at of items) part → SamePart (part_of at of v) part
  table_part items open_last v part is same = part_then (is_part at of v _ (over_made (deepest_item items) (λ d. table_value items open_last d) v is)) same

  nothing_last : (rest : Fields) (several : Bool) → (is_last_item rest && several) ≡ true → SamePart nothing (fields_part (one_line_fields rest))
  nothing_last no_fields several last = same_part nothing
  nothing_last (positional e separator rest) several last = not_so last
  nothing_last (named text e separator rest) several last = not_so last
  nothing_last (keyed key e separator rest) several last = not_so last

  are_items : (items others : ItemList) (part : Part) → items ≡ others → SamePart (parts_of_items at of others) part → SamePart (parts_of_items at of items) part
  are_items items others part is same = part_then (exact_part (λ place. ap (λ items. parts_of_items at of items place) is)) same

  item_part : (is_open : Bool) (Is : Counted Value) (Rest : CountedItems) (before behind : ℕ) (value others : Part) → ((before behind : ℕ) (v : Value) → Is before behind v → SamePart (part_of at of v) value) → (is_open ≡ true → SamePart nothing others) →
      ((before behind : ℕ) (rest : ItemList) (open_last : Bool) → Rest before behind rest open_last → SamePart (parts_of_items at of rest) others) → (items : ItemList) (open_last : Bool) → IsItem is_open Is Rest before behind items open_last → SamePart (parts_of_items at of items) (both value others)
  item_part true Is Rest before behind value others one none rest items open_last is = are_items items _ _ is.2 (both_same (one before behind is.0 is.1) (none refl))
  item_part false Is Rest before behind value others one none rest items open_last is =
      let parts = is.1 in
      are_items items _ _ parts.4 (both_same (one before is.0 parts.0 parts.2) (rest is.0 behind parts.1 open_last parts.3))

  keyed_part : (Key Item : Counted OperandValue) (Rest : CountedItems) (before behind : ℕ) (key value others : Part) → ((before behind : ℕ) (o : OperandValue) → Key before behind o → SamePart (part_of_operand at of o) key) →
      ((before behind : ℕ) (o : OperandValue) → Item before behind o → SamePart (part_of_operand at of o) value) →
      ((before behind : ℕ) (rest : ItemList) (open_last : Bool) → Rest before behind rest open_last → SamePart (parts_of_items at of rest) others) → (items : ItemList) (open_last : Bool) → IsKeyedItem Key Item Rest before behind items open_last → SamePart (parts_of_items at of items) (both (both key value) others)
  keyed_part Key Item Rest before behind key value others first second rest items open_last is =
      let parts = is.2 in
      are_items items _ _ parts.6 (both_same (both_same (first before is.0 parts.0 parts.3) (second is.0 is.1 parts.1 parts.4)) (rest is.1 behind parts.2 open_last parts.5))

  -- ---- functions

  closure_part : (body : FunctionBody) → IsPlainBody body → depth_of_body body ≤ 199 → (before behind : ℕ) (v : Value) → IsClosure g active body false before behind v → SamePart (part_of at of v) (body_part false (one_line_body body))
  closure_part body plain few before behind v is =
      let same = part_then (parts_made body is.2 plain few is.4) (exact_part (λ place. ap (λ body. body_part false body place) (sym plain.on_line))) in
      part_then (is_part at of v _ is.1) (part_then (exact_part (λ place. ap (λ number. of number place) (sym is.3))) same)

  mutual
    pub marks_of : (e : Expression) → HasCore e → depth_of_expression e ≤ 200 → HasMarks e
    marks_of (nil_literal line) has few = alone_marks (nil_literal line) (λ before behind v is. is_part at of v _ is.1) (λ before behind vs is. is)
    marks_of (true_literal line) has few = alone_marks (true_literal line) (λ before behind v is. is_part at of v _ is.1) (λ before behind vs is. is)
    marks_of (false_literal line) has few = alone_marks (false_literal line) (λ before behind v is. is_part at of v _ is.1) (λ before behind vs is. is)
    marks_of (vararg_expression line) has few = alone_marks (vararg_expression line) (λ before behind v is. is_part at of v _ is.1) (λ before behind vs is. is)
    marks_of (number_literal line n) has few = alone_marks (number_literal line n) (λ before behind v is. constant_value_part (Constant.Number n) v is.1) (λ before behind vs is. is)
    marks_of (text_literal line text) has few = alone_marks (text_literal line text) (λ before behind v is. constant_value_part (Constant.Text text) v is.1) (λ before behind vs is. is)
    marks_of (name_expression line text) has few = alone_marks (name_expression line text) (λ before behind v is. let means = is.1 in named_part text v means.0 has (all.listed_as text means.0 means.1) means.2) (λ before behind vs is. is)
    marks_of (function_expression line body) has few = alone_marks (function_expression line body) (closure_part body has (omega (arith, few))) (λ before behind vs is. is)
    marks_of (index_expression line on key) has few =
        let first = marks_of on has.0 (omega (arith, few)) in
        let second = marks_of key has.1 (omega (arith, few)) in
        alone_marks (index_expression line on key) (λ before behind v is. let parts = is.1 in part_then (index_part at of parts.0 parts.1 v parts.4) (both_same (first.one before is.0 parts.0 parts.2) (of_operand key is.0 behind parts.1 (literal key) refl second.one parts.3))) (λ before behind vs is. is)
    marks_of (field_expression line on text) has few =
        let first = marks_of on has (omega (arith, few)) in
        alone_marks (field_expression line on text) (λ before behind v is. let parts = is.1 in part_then (index_part at of parts.0 parts.1 v parts.4) (part_then (both_same (first.one before is.0 parts.0 parts.2) (key_part text is.0 behind parts.1 parts.3)) (nothing_behind (expression_part (one_line_expression on))))) (λ before behind vs is. is)
    marks_of (call_expression line on args on_line) has few =
        let first = marks_of on has.0 (omega (arith, few)) in
        alone_marks (call_expression line on args on_line) (λ before behind v is. let parts = is.1 in called_part on args parts.0 v parts.1 parts.2 parts.5 (first.one before is.0 parts.0 parts.3) (given_part args has.1 (omega (arith, few)) is.0 behind parts.1 parts.2 parts.4)) (λ before behind vs is. is)
    marks_of (method_call line on name args on_line) has few =
        let first = marks_of on has.1 (omega (arith, few)) in
        alone_marks (method_call line on name args on_line) (λ before behind v is. let parts = is.1 in method_part on args parts.0 v parts.1 parts.2 parts.3 parts.7 (first.one before is.0 parts.0 parts.4) (given_part args has.2 (omega (arith, few)) is.0 behind parts.2 parts.3 parts.6)) (λ before behind vs is. is)
    marks_of (binary_expression line op left right) has few =
        let first = marks_of left has.1 (omega (arith, few)) in
        let second = marks_of right has.2 (omega (arith, few)) in
        let e = binary_expression line op left right in
        let one : (before behind : ℕ) (v : Value) → IsCore g active e before behind v → SamePart (part_of at of v) (expression_part (one_line_expression e)) =
        λ before behind v is. folded_or_part (fold e) e _ before behind v refl (λ v is. operator_part op left right before behind v first second is) is in
        record { one = one; spine = spine_part op line left right first second one }
    marks_of (unary_expression line op operand) has few =
        let first = marks_of operand has (omega (arith, few)) in
        let e = unary_expression line op operand in
        alone_marks e (λ before behind v is. folded_or_part (fold e) e _ before behind v refl (λ v is. part_then (is_part at of v _ (over_made (depth_of is.0) (λ d. unary_value op is.0 d) v is.2)) (first.one before behind is.0 is.1)) is) (λ before behind vs is. is)
    marks_of (constructor line fields) has few = alone_marks (constructor line fields) (λ before behind v is. table_part is.0 is.1 v _ is.3 (items_marks fields has (omega (arith, few)) before behind is.0 is.1 is.2)) (λ before behind vs is. is)
    marks_of (parenthesized line e) has few = let first = marks_of e has (omega (arith, few)) in alone_marks (parenthesized line e) first.one (λ before behind vs is. is)
    marks_of e has few = absurd has

    given_part : (args : Arguments) → HaveCores args → depth_of_arguments args ≤ 200 → (before behind : ℕ) (vs : Values) (open_last : Bool) → AreGiven g active args before behind vs open_last → SamePart (parts_of at of vs) (arguments_part (one_line_arguments args))
    given_part (argument_list es) has few before behind vs open_last is = list_part es has (omega (arith, few)) before behind vs is.0
    given_part (text_argument text) has few before behind vs open_last is =
        let text_is = is.1.0 in
        part_then (first_part vs text_is.0 no_values nothing nothing text_is.2 (constant_value_part (Constant.Text text) text_is.0 text_is.1) (same_part nothing)) (nothing_behind nothing)
    given_part (table_argument fields) has few before behind vs open_last is =
        let table = is.0.1 in
        part_then (first_part vs is.0.0 no_values _ nothing is.0.2 (table_part table.0 table.1 is.0.0 _ table.3 (items_marks fields has (omega (arith, few)) before behind table.0 table.1 table.2)) (same_part nothing)) (nothing_behind (fields_part (one_line_fields fields)))

    items_marks : (fields : Fields) → HaveItems fields → depth_of_fields fields ≤ 200 → (before behind : ℕ) (items : ItemList) (open_last : Bool) → AreItems g active fields before behind items open_last → SamePart (parts_of_items at of items) (fields_part (one_line_fields fields))
    items_marks no_fields has few before behind items open_last is = are_items items no_items nothing is.1 (same_part nothing)
    items_marks (positional e separator rest) has few before behind items open_last is =
        item_part (is_last_item rest && is_multiple e) (IsCore g active e) (AreItems g active rest) before behind _ _ (marks_of e has.0 (omega (arith, few))).one (nothing_last rest (is_multiple e)) (items_marks rest has.1 (omega (arith, few))) items open_last is
    items_marks (named text e separator rest) has few before behind items open_last is =
        part_then (keyed_part (IsKey g text) _ (AreItems g active rest) before behind nothing (expression_part (one_line_expression e)) _ (key_part text) (λ before behind o. of_operand e before behind o (literal e) refl (marks_of e has.0 (omega (arith, few))).one) (items_marks rest has.1 (omega (arith, few))) items open_last is) (same_part _)
    items_marks (keyed key e separator rest) has few before behind items open_last is =
        keyed_part _ _ (AreItems g active rest) before behind _ _ _ (λ before behind o. of_operand key before behind o (literal key) refl (marks_of key has.0 (omega (arith, few))).one) (λ before behind o. of_operand e before behind o (literal e) refl (marks_of e has.1 (omega (arith, few))).one) (items_marks rest has.2 (omega (arith, few))) items open_last is

    pub list_part : (es : Expressions) → AllHaveCores es → depth_of_expressions es ≤ 200 → (before behind : ℕ) (vs : Values) → AreCores g active es before behind vs → SamePart (parts_of at of vs) (expressions_part (one_line_expressions es))
    list_part no_expressions has few before behind vs is = exact_part (λ place. ap (λ vs. parts_of at of vs place) is.1)
    list_part (syntax.expression e es) has few before behind vs is =
        let first = marks_of e has.0 (omega (arith, few)) in
        let parts = is.1 in
        first_part vs parts.0 parts.1 _ _ parts.4 (first.one before is.0 parts.0 parts.2) (list_part es has.1 (omega (arith, few)) is.0 behind parts.1 parts.3)
