-- What is written of the value of every expression that has one has the same code as the expression.
use Rattle.std.proofs.Common.{◌≡◌, ℕ, ◌*◌, ◌+◌, ◌≤◌, Bool, true, false, not, ◌&&◌, List, [], Option, Some, None, refl, sym, ap, ◌∙◌, suc, subst, subst₂, arith, inl, inr}
use Rattle.std.specs.Prelude.{ℤ}
use Rattle.lua_num.specs.declared.arith.ArithOp.{ArithOp}
use Rattle.lua_num.specs.Bytes.{Text}
use Rattle.lua_tree.specs.Syntax as syntax
use Rattle.lua_tree.specs.Syntax.{Expression, Expressions, argument_list, binary_expression, call_expression, false_literal, field_expression, index_expression, method_call, name_expression, nil_literal, no_expressions, number_literal, parenthesized, text_argument, text_literal, true_literal, unary_expression, vararg_expression, constructor, table_argument, Fields, no_fields, positional, named, keyed, function_expression}
use Rattle.lua_tree.specs.WellFormed.{depth_of_expression, depth_of_expressions, depth_of_fields, formed_expression}
use Rattle.lua_tree.specs.declared.tree.BinaryOp.{BinaryOp}
use Rattle.lua_tree.specs.declared.tree.Separator.{Separator}
use Rattle.lua_tree.specs.declared.tree.UnaryOp.{UnaryOp}
use Rattle.proto.specs.declared.parts.Constant.{Constant}
use Rattle.core_expr.specs.Making.{deepest_item, made_concat}
use Rattle.core_expr.specs.Values.{Inner, OperandValue, Value, Values, ItemList, and_positional, and_value, no_items, no_values, table_value}
use Rattle.core_expr.specs.Writing.{as_value, ends_items, ends_values, is_multiple as can_be_several}
use Rattle.recover_expr.specs.Situation.{Function}
use Rattle.scheme.specs.Expressions.{arith_op, fold, is_comparison, is_multiple, literal, rk, rk_text}
use Rattle.scheme.specs.Making.{Maker}
use Rattle.scheme.specs.declared.making.Active.{Active}
use Rattle.scheme_stands.specs.Lists.{is_last_item}
use Rattle.scheme_stands.specs.Words.{Fn}
use Rattle.same_flow.specs.Space.{space_of_expression}
use Rattle.reads_back.specs.Cores.{AllHaveCores, HasCore, IsCore, IsFirst, IsFoldedOr, IsOnly, IsOperand, IsOperandBy, IsOperator, IsSpineBy, core, HaveItems, AreItems, IsItem, IsTableGiven, Counted, arithmetic_by, first_and, unary_by, only, still, table_by, AreGiven}
use Rattle.reads_back.proofs.CallsSame.{call_rewritten, list_within, method_rewritten, table_within, text_within}
use Rattle.reads_back.proofs.ConcatsSame.{is_joined, concat_rewritten, spine_of_first, spine_of_one}
use Rattle.reads_back.proofs.Deeper.{some_depth}
use Rattle.reads_back.proofs.GivenSame.{AllRewritten, closed_unless, list_rewritten, text_rewritten_given}
use Rattle.reads_back.proofs.PassedMentions.{mentions_passed}
use Rattle.reads_back.proofs.IndexSame.{expression_key, field_rewritten, index_rewritten, key_deeper, text_key}
use Rattle.reads_back.proofs.LeavesSame.{false_rewritten, name_rewritten, nil_rewritten, number_rewritten, parenthesized_rewritten, text_rewritten, true_rewritten, vararg_rewritten}
use Rattle.reads_back.proofs.MarksSame.{over_made}
use Rattle.reads_back.proofs.OperandsSame.{key_rewritten, operand_rewritten}
use Rattle.reads_back.proofs.OperatorsSame.{arithmetic_rewritten, constant_operand_few, unary_rewritten, value_operand_few}
use Rattle.reads_back.proofs.Mentions.{mentions_in}
use Rattle.reads_back.proofs.Rewriting.{code, IsMadeBy, Rewritten, RewrittenGiven, RewrittenSpine, operand_wording, wording, AreAgain}
use Rattle.reads_back.proofs.TablesSame.{RewrittenItems, keyed_keyed, keyed_rewritten, last_is, named_keyed, none_rewritten, open_rewritten, positional_rewritten, table_rewritten, table_rewritten_given}
use Rattle.reads_back.proofs.Tests.{not_so}
use Rattle.reads_back.proofs.WholeNumbers.{folded_whole}
use Rattle.reads_back.proofs.FunctionsSame.{function_rewritten}

some_first : {First : Value → Type 0} {Rest : Values → Type 0} (vs : Values) → IsFirst First Rest vs → ends_values vs ≡ false
some_first vs is = ap ends_values is.4

some_only : {Only : Value → Type 0} (vs : Values) → IsOnly Only vs → ends_values vs ≡ false
some_only vs is = ap ends_values is.2

some_by : (First Only : Counted Value) (Rest : Counted Values) (op : BinaryOp) (before behind : ℕ) (vs : Values) → IsSpineBy op (first_and First Rest) (only Only) before behind vs → ends_values vs ≡ false
some_by First Only Rest BinaryOp.Concat before behind vs is = some_first vs is.1
some_by First Only Rest op before behind vs is = some_only vs is

-- there is a value at least
spine_some : (g : Fn) (active : List Active) (e : Expression) (before behind : ℕ) (vs : Values) → (core g active e).spine before behind vs → ends_values vs ≡ false
spine_some g active (binary_expression line op left right) before behind vs is = some_by _ _ _ op before behind vs is
spine_some g active e before behind vs is = some_only vs is

module _ (lefts : ℕ → List (Option Inner)) {f : Function} {g : Fn} {active : List Active} {listed : List ℕ} {z : Maker} (made : IsMadeBy f g active listed z) (again : AreAgain f g lefts) where
  -- a value, and the values from it on in a `..`
  pub record RewrittenAll (e : Expression) : Type 0 where
    pub value : (before behind : ℕ) (v : Value) → IsCore g active e before behind v → Rewritten f g active listed z lefts before behind e v
    pub spine : (before behind : ℕ) (vs : Values) → (core g active e).spine before behind vs → RewrittenSpine f g active listed z lefts before behind e vs

  -- what makes no function
  still_rewritten : (e : Expression) (before behind : ℕ) (v : Value) → behind ≡ before → Rewritten f g active listed z lefts before before e v → Rewritten f g active listed z lefts before behind e v
  still_rewritten e before behind v as_many same = subst (λ (behind : ℕ). Rewritten f g active listed z lefts before behind e v) (sym as_many) same

  operand_few : (e : Expression) (before behind : ℕ) (o : OperandValue) (k : Option Constant) → ((v : Value) → IsCore g active e before behind v → Rewritten f g active listed z lefts before behind e v) → IsOperandBy k g (IsCore g active e) before behind o → (n : ℕ) →
      (operand_wording f listed z lefts before n o).levels ≤ 3 * depth_of_expression e + 202
  operand_few e before behind o (Some k) same (inl (as_many, small)) n =
      subst (λ (o : OperandValue). (operand_wording f listed z lefts before n o).levels ≤ 3 * depth_of_expression e + 202) (sym small.3) (constant_operand_few f listed z lefts before e small.0 n)
  operand_few e before behind o (Some k) same (inr (large, (v, core, is))) n = subst (λ (o : OperandValue). (operand_wording f listed z lefts before n o).levels ≤ 3 * depth_of_expression e + 202) (sym is) (value_operand_few e v (same v core) n)
  operand_few e before behind o None same (v, core, is) n = subst (λ (o : OperandValue). (operand_wording f listed z lefts before n o).levels ≤ 3 * depth_of_expression e + 202) (sym is) (value_operand_few e v (same v core) n)

  arithmetic_made : (line : ℕ) (op : BinaryOp) (kind : ArithOp) (l r : Expression) (before behind : ℕ) (v : Value) → arith_op op ≡ Some kind → fold (binary_expression line op l r) ≡ None → HasCore l → HasCore r → RewrittenAll l → RewrittenAll r →
      arithmetic_by op (IsOperand g active l) (IsOperand g active r) before behind v → Rewritten f g active listed z lefts before behind (binary_expression line op l r) v
  arithmetic_made line op kind l r before behind v is none has has_right first second (mid, (plain, x, y, is_x, is_y, built)) =
      arithmetic_rewritten line op kind l r x y v is none (mentions_passed l has) (operand_rewritten lefts made l before mid x has is_x (first.value before mid)) (operand_rewritten lefts made r mid behind y has_right is_y (second.value mid behind))
      (operand_few l before mid x (literal l) (first.value before mid) is_x) (operand_few r mid behind y (literal r) (second.value mid behind) is_y) built

  operator_of : (line : ℕ) (op : BinaryOp) (l r : Expression) (before behind : ℕ) (v : Value) → is_comparison op ≡ false → fold (binary_expression line op l r) ≡ None → HasCore l → HasCore r → RewrittenAll l → RewrittenAll r →
      IsOperator op (IsOperand g active l) (IsOperand g active r) (first_and (IsCore g active l) (core g active r).spine) before behind v → Rewritten f g active listed z lefts before behind (binary_expression line op l r) v
  operator_of line BinaryOp.Add l r before behind v plain none has has_right first second is = arithmetic_made line BinaryOp.Add ArithOp.Add l r before behind v refl none has has_right first second is
  operator_of line BinaryOp.Sub l r before behind v plain none has has_right first second is = arithmetic_made line BinaryOp.Sub ArithOp.Sub l r before behind v refl none has has_right first second is
  operator_of line BinaryOp.Mul l r before behind v plain none has has_right first second is = arithmetic_made line BinaryOp.Mul ArithOp.Mul l r before behind v refl none has has_right first second is
  operator_of line BinaryOp.Div l r before behind v plain none has has_right first second is = arithmetic_made line BinaryOp.Div ArithOp.Div l r before behind v refl none has has_right first second is
  operator_of line BinaryOp.Rem l r before behind v plain none has has_right first second is = arithmetic_made line BinaryOp.Rem ArithOp.Rem l r before behind v refl none has has_right first second is
  operator_of line BinaryOp.Pow l r before behind v plain none has has_right first second is = arithmetic_made line BinaryOp.Pow ArithOp.Pow l r before behind v refl none has has_right first second is
  operator_of line BinaryOp.Concat l r before behind v plain none has has_right first second (vs, (mid, (one, rest, core, are, is)), built) =
      concat_rewritten line l r one rest v (first.value before mid one core) (second.spine mid behind rest are) (spine_some g active r mid behind rest are) (mentions_passed l has) (subst (λ (vs : Values). made_concat vs ≡ Some v) is built)
  operator_of line op l r before behind v plain none has has_right first second is = not_so (sym plain)

  binary_of : (folded : Option ℤ) (line : ℕ) (op : BinaryOp) (l r : Expression) (before behind : ℕ) (v : Value) → is_comparison op ≡ false → fold (binary_expression line op l r) ≡ folded → HasCore l → HasCore r → RewrittenAll l → RewrittenAll r →
      IsFoldedOr folded g (IsOperator op (IsOperand g active l) (IsOperand g active r) (first_and (IsCore g active l) (core g active r).spine)) before behind v → Rewritten f g active listed z lefts before behind (binary_expression line op l r) v
  binary_of (Some n) line op l r before behind v plain folded has has_right first second is =
      still_rewritten (binary_expression line op l r) before behind v is.0 (number_rewritten made (binary_expression line op l r) n v (folded_whole (binary_expression line op l r) (plain, has, has_right) n folded) folded is.1)
  binary_of None line op l r before behind v plain folded has has_right first second is = operator_of line op l r before behind v plain folded has has_right first second is

  unary_of : (folded : Option ℤ) (line : ℕ) (op : UnaryOp) (e : Expression) (before behind : ℕ) (v : Value) → fold (unary_expression line op e) ≡ folded → HasCore e → RewrittenAll e → IsFoldedOr folded g (unary_by op (IsCore g active e)) before behind v →
      Rewritten f g active listed z lefts before behind (unary_expression line op e) v
  unary_of (Some n) line op e before behind v folded has of is =
      still_rewritten (unary_expression line op e) before behind v is.0 (number_rewritten made (unary_expression line op e) n v (folded_whole (unary_expression line op e) has n folded) folded is.1)
  unary_of None line op e before behind v folded has of is = unary_rewritten line op e is.0 v folded (of.value before behind is.0 is.1) is.2

  only_of : (e : Expression) → ((before behind : ℕ) (v : Value) → IsCore g active e before behind v → Rewritten f g active listed z lefts before behind e v) → is_joined e ≡ false →
      (before behind : ℕ) (vs : Values) → only (IsCore g active e) before behind vs → RewrittenSpine f g active listed z lefts before behind e vs
  only_of e value alone before behind vs is = subst (RewrittenSpine f g active listed z lefts before behind e) (sym is.2) (spine_of_one e is.0 (value before behind is.0 is.1) alone)

  spine_by : (op : BinaryOp) (line : ℕ) (l r : Expression) → HasCore l → RewrittenAll l → RewrittenAll r →
      ((before behind : ℕ) (v : Value) → IsCore g active (binary_expression line op l r) before behind v → Rewritten f g active listed z lefts before behind (binary_expression line op l r) v) →
      (before behind : ℕ) (vs : Values) → (core g active (binary_expression line op l r)).spine before behind vs → RewrittenSpine f g active listed z lefts before behind (binary_expression line op l r) vs
  spine_by BinaryOp.Concat line l r has first second value before behind vs (mid, (one, rest, core, are, is)) =
      subst (RewrittenSpine f g active listed z lefts before behind (binary_expression line BinaryOp.Concat l r)) (sym is)
      (spine_of_first line l r one rest (first.value before mid one core) (second.spine mid behind rest are) (spine_some g active r mid behind rest are) (mentions_passed l has))
  spine_by BinaryOp.Add line l r has first second value before behind vs is = only_of (binary_expression line BinaryOp.Add l r) value refl before behind vs is
  spine_by BinaryOp.Sub line l r has first second value before behind vs is = only_of (binary_expression line BinaryOp.Sub l r) value refl before behind vs is
  spine_by BinaryOp.Mul line l r has first second value before behind vs is = only_of (binary_expression line BinaryOp.Mul l r) value refl before behind vs is
  spine_by BinaryOp.Div line l r has first second value before behind vs is = only_of (binary_expression line BinaryOp.Div l r) value refl before behind vs is
  spine_by BinaryOp.Rem line l r has first second value before behind vs is = only_of (binary_expression line BinaryOp.Rem l r) value refl before behind vs is
  spine_by BinaryOp.Pow line l r has first second value before behind vs is = only_of (binary_expression line BinaryOp.Pow l r) value refl before behind vs is
  spine_by op line l r has first second value before behind vs is = only_of (binary_expression line op l r) value refl before behind vs is

  alone_all : (e : Expression) → is_joined e ≡ false → ((before behind : ℕ) (v : Value) → IsCore g active e before behind v → Rewritten f g active listed z lefts before behind e v) →
      ((before behind : ℕ) (vs : Values) → (core g active e).spine before behind vs → only (IsCore g active e) before behind vs) → RewrittenAll e
  alone_all e alone value is_only = record { value = value; spine = λ before behind vs is. only_of e value alone before behind vs (is_only before behind vs is) }

  -- what makes no function, alone
  still_all : (e : Expression) → is_joined e ≡ false → (Is : Value → Type 0) → ((before behind : ℕ) (v : Value) → IsCore g active e before behind v → still Is before behind v) → ((before : ℕ) (v : Value) → Is v → Rewritten f g active listed z lefts before before e v) →
      ((before behind : ℕ) (vs : Values) → (core g active e).spine before behind vs → only (IsCore g active e) before behind vs) → RewrittenAll e
  still_all e alone Is stays value is_only =
      alone_all e alone (λ before behind v core. let is = stays before behind v core in still_rewritten e before behind v is.0 (value before v is.1)) is_only

  -- ---- constructors

  -- the last item, open or not
  last_item : (e : Expression) (separator : Separator) (deep : ℕ) → depth_of_expression e ≤ deep → (is_open : Bool) → is_multiple e ≡ is_open →
      ((before behind : ℕ) (v : Value) → IsCore g active e before behind v → Rewritten f g active listed z lefts before behind e v) → HasCore e → (before behind : ℕ)
      (items : ItemList) (all : Bool) → IsItem is_open (IsCore g active e) (AreItems g active no_fields) before behind items all → RewrittenItems f g active listed z lefts before behind (positional e separator no_fields) deep items all
  last_item e separator deep low true several value has before behind items all is =
      subst₂ (RewrittenItems f g active listed z lefts before behind (positional e separator no_fields) deep) (sym is.2) (sym is.3) (open_rewritten e separator is.0 deep low (value before behind is.0 is.1) several)
  last_item e separator deep low false several value has before behind items all (mid, (v, rest, core, (as_many, none, closed), is)) =
      let same = value before mid v core in
      subst₂ (RewrittenItems f g active listed z lefts before behind (positional e separator no_fields) deep) (sym (is ∙ ap (and_positional v) none)) (sym closed)
      (positional_rewritten e separator no_fields v no_items false deep has low same (none_rewritten deep false as_many) several (λ n. closed_unless (can_be_several v) (wording f listed z lefts before n v) (same.several n)))

  -- an item before others
  more_items : (e : Expression) (separator : Separator) (rest : Fields) (deep : ℕ) → HasCore e → depth_of_expression e ≤ deep →
      ((before behind : ℕ) (v : Value) → IsCore g active e before behind v → Rewritten f g active listed z lefts before behind e v) → is_last_item rest ≡ false →
      ((before behind : ℕ) (items : ItemList) (all : Bool) → AreItems g active rest before behind items all → RewrittenItems f g active listed z lefts before behind rest deep items all) → (before behind : ℕ)
      (items : ItemList) (all : Bool) → IsItem false (IsCore g active e) (AreItems g active rest) before behind items all → RewrittenItems f g active listed z lefts before behind (positional e separator rest) deep items all
  more_items e separator rest deep has low value some others before behind items all (mid, (v, more, core, are, is)) =
      let same = others mid behind more all are in
      subst (λ (items : ItemList). RewrittenItems f g active listed z lefts before behind (positional e separator rest) deep items all) (sym is)
      (positional_rewritten e separator rest v more all deep has low (value before mid v core) same (ap (λ last. last && is_multiple e) some)
      (λ n. ap (λ last. last && is_multiple (as_value (ends_items more && not all) v (wording f listed z lefts before n v)).words) (same.last n ∙ last_is rest ∙ some)))

  abbrev AllItemsRewritten : Fields → Type 0
  AllItemsRewritten items = (before behind : ℕ) (made_items : ItemList) (all : Bool) → AreItems g active items before behind made_items all → RewrittenItems f g active listed z lefts before behind items (depth_of_fields items) made_items all

  table_alone : (line : ℕ) (items : Fields) → AllItemsRewritten items → (before behind : ℕ) (v : Value) → table_by (AreItems g active items) before behind v → Rewritten f g active listed z lefts before behind (constructor line items) v
  table_alone line items each before behind v (row, all, are, is) =
      subst (Rewritten f g active listed z lefts before behind (constructor line items)) (sym (over_made (deepest_item row) (λ d. table_value row all d) v is)) (table_rewritten (each before behind row all are) line (suc (deepest_item row)) refl)

  table_given : (items : Fields) (before behind : ℕ) (vs : Values) (all : Bool) → AllItemsRewritten items → IsTableGiven (AreItems g active items before behind) vs all →
      RewrittenGiven f g active listed z lefts before behind (table_argument items) (depth_of_fields items) vs all
  table_given items before behind vs all each ((v, (row, open_last, are, is), only), closed) =
      subst₂ (RewrittenGiven f g active listed z lefts before behind (table_argument items) (depth_of_fields items)) (sym (only ∙ ap (λ v. and_value v no_values) (over_made (deepest_item row) (λ d. table_value row open_last d) v is))) (sym closed)
      (table_rewritten_given (each before behind row open_last are) (suc (deepest_item row)) refl)

  -- a string alone makes no function
  string_given : (text : Text) (before behind : ℕ) (vs : Values) (all : Bool) → AreGiven g active (text_argument text) before behind vs all → RewrittenGiven f g active listed z lefts before behind (text_argument text) 1 vs all
  string_given text before behind vs all are =
      subst (λ (made : ℕ). RewrittenGiven f g active listed z lefts before made (text_argument text) 1 vs all) (sym are.0) (text_rewritten_given made text vs all are.1)

  mutual
    pub rewritten_all : (e : Expression) → HasCore e → depth_of_expression e ≤ 200 → RewrittenAll e
    rewritten_all (nil_literal line) has few = still_all (nil_literal line) refl _ (λ before behind v is. is) (λ before v is. nil_rewritten made line v is) (λ before behind vs is. is)
    rewritten_all (true_literal line) has few = still_all (true_literal line) refl _ (λ before behind v is. is) (λ before v is. true_rewritten made line v is) (λ before behind vs is. is)
    rewritten_all (false_literal line) has few = still_all (false_literal line) refl _ (λ before behind v is. is) (λ before v is. false_rewritten made line v is) (λ before behind vs is. is)
    rewritten_all (vararg_expression line) has few = still_all (vararg_expression line) refl _ (λ before behind v is. is) (λ before v is. vararg_rewritten made line v is) (λ before behind vs is. is)
    rewritten_all (number_literal line n) has few = still_all (number_literal line n) refl _ (λ before behind v is. is) (λ before v is. number_rewritten made (number_literal line n) n v (folded_whole (number_literal line n) has n refl) refl is) (λ before behind vs is. is)
    rewritten_all (text_literal line text) has few = still_all (text_literal line text) refl _ (λ before behind v is. is) (λ before v is. text_rewritten made line text v is) (λ before behind vs is. is)
    rewritten_all (name_expression line text) has few = still_all (name_expression line text) refl _ (λ before behind v is. is) (λ before v is. name_rewritten made line text v has is) (λ before behind vs is. is)
    rewritten_all (index_expression line on key) has few =
        let first = rewritten_all on has.0 (omega (arith, few)) in
        let second = rewritten_all key has.1 (omega (arith, few)) in
        alone_all (index_expression line on key) refl (λ before behind v is.
        let parts = is.1 in
        index_rewritten line on key parts.0 parts.1 v few (mentions_passed on has.0) (first.value before is.0 parts.0 parts.2) (operand_rewritten lefts made key is.0 behind parts.1 has.1 parts.3 (second.value is.0 behind)) parts.4) (λ before behind vs is. is)
    rewritten_all (field_expression line on text) has few =
        let first = rewritten_all on has (omega (arith, few)) in
        alone_all (field_expression line on text) refl (λ before behind v is.
        let parts = is.1 in
        field_rewritten line on text parts.0 parts.1 v few (mentions_passed on has) (first.value before is.0 parts.0 parts.2) (text_key 1 text parts.1 (key_rewritten lefts made 1 text is.0 behind parts.1 parts.3)) parts.4) (λ before behind vs is. is)
    rewritten_all (call_expression line on (argument_list es) on_line) has few =
        let first = rewritten_all on has.0 (omega (arith, few)) in
        let each = each_rewritten es has.1 (omega (arith, few)) in
        alone_all (call_expression line on (argument_list es) on_line) refl
        (λ before behind v is.
        let parts = is.1 in
        call_rewritten made on (argument_list es) line on_line (depth_of_expressions es) parts.0 parts.1 parts.2 v has.0 (first.value before is.0 parts.0 parts.3) (list_rewritten lefts made es is.0 behind parts.1 parts.2 has.1 each parts.4.0 parts.4.1) (list_within on es) (omega (arith, few)) parts.5) (λ before behind vs is. is)
    rewritten_all (call_expression line on (text_argument text) on_line) has few =
        let first = rewritten_all on has.0 (omega (arith, few)) in
        alone_all (call_expression line on (text_argument text) on_line) refl
        (λ before behind v is.
        let parts = is.1 in
        call_rewritten made on (text_argument text) line on_line 1 parts.0 parts.1 parts.2 v has.0 (first.value before is.0 parts.0 parts.3) (string_given text is.0 behind parts.1 parts.2 parts.4) (text_within on text) (omega arith) parts.5) (λ before behind vs is. is)
    rewritten_all (method_call line on name (argument_list es) on_line) has few =
        let first = rewritten_all on has.1 (omega (arith, few)) in
        let each = each_rewritten es has.2 (omega (arith, few)) in
        alone_all (method_call line on name (argument_list es) on_line) refl
        (λ before behind v is.
        let parts = is.1 in
        method_rewritten made on (argument_list es) line on_line (depth_of_expressions es) parts.1 name parts.0 parts.2 parts.3 v has.1 (first.value before is.0 parts.0 parts.4) (list_rewritten lefts made es is.0 behind parts.2 parts.3 has.2 each parts.6.0 parts.6.1) (list_within on es) (omega (arith, few)) parts.5 has.0 parts.7) (λ before behind vs is. is)
    rewritten_all (method_call line on name (text_argument text) on_line) has few =
        let first = rewritten_all on has.1 (omega (arith, few)) in
        alone_all (method_call line on name (text_argument text) on_line) refl
        (λ before behind v is.
        let parts = is.1 in
        method_rewritten made on (text_argument text) line on_line 1 parts.1 name parts.0 parts.2 parts.3 v has.1 (first.value before is.0 parts.0 parts.4) (string_given text is.0 behind parts.2 parts.3 parts.6) (text_within on text) (omega arith) parts.5 has.0 parts.7) (λ before behind vs is. is)
    rewritten_all (binary_expression line op l r) has few =
        let first = rewritten_all l has.1 (omega (arith, few)) in
        let second = rewritten_all r has.2 (omega (arith, few)) in
        let value : (before behind : ℕ) (v : Value) → IsCore g active (binary_expression line op l r) before behind v → Rewritten f g active listed z lefts before behind (binary_expression line op l r) v =
        λ before behind v is. binary_of (fold (binary_expression line op l r)) line op l r before behind v has.0 refl has.1 has.2 first second is in
        record { value = value; spine = spine_by op line l r has.1 first second value }
    rewritten_all (unary_expression line op e) has few =
        let of = rewritten_all e has (omega (arith, few)) in
        alone_all (unary_expression line op e) refl (λ before behind v is. unary_of (fold (unary_expression line op e)) line op e before behind v refl has of is) (λ before behind vs is. is)
    rewritten_all (call_expression line on (table_argument fields) on_line) has few =
        let first = rewritten_all on has.0 (omega (arith, few)) in
        alone_all (call_expression line on (table_argument fields) on_line) refl
        (λ before behind v is.
        let parts = is.1 in
        call_rewritten made on (table_argument fields) line on_line (depth_of_fields fields) parts.0 parts.1 parts.2 v has.0 (first.value before is.0 parts.0 parts.3)
        (table_given fields is.0 behind parts.1 parts.2 (items_rewritten fields has.1 (omega (arith, few)) (depth_of_fields fields) (omega arith)) parts.4) (table_within on fields) (omega (arith, few)) parts.5) (λ before behind vs is. is)
    rewritten_all (method_call line on name (table_argument fields) on_line) has few =
        let first = rewritten_all on has.1 (omega (arith, few)) in
        alone_all (method_call line on name (table_argument fields) on_line) refl
        (λ before behind v is.
        let parts = is.1 in
        method_rewritten made on (table_argument fields) line on_line (depth_of_fields fields) parts.1 name parts.0 parts.2 parts.3 v has.1 (first.value before is.0 parts.0 parts.4)
        (table_given fields is.0 behind parts.2 parts.3 (items_rewritten fields has.2 (omega (arith, few)) (depth_of_fields fields) (omega arith)) parts.6) (table_within on fields) (omega (arith, few)) parts.5 has.0 parts.7) (λ before behind vs is. is)
    rewritten_all (constructor line fields) has few =
        alone_all (constructor line fields) refl (table_alone line fields (items_rewritten fields has (omega (arith, few)) (depth_of_fields fields) (omega arith))) (λ before behind vs is. is)
    rewritten_all (parenthesized line e) has few =
        let of = rewritten_all e has (omega (arith, few)) in
        alone_all (parenthesized line e) refl (λ before behind v is. parenthesized_rewritten line e v (of.value before behind v is)) (λ before behind vs is. is)
    rewritten_all (function_expression line body) has few = alone_all (function_expression line body) refl (λ before behind v is. function_rewritten made again line body before behind v has (omega (arith, few)) is) (λ before behind vs is. is)
    rewritten_all e has few = absurd has

    items_rewritten : (fields : Fields) → HaveItems fields → depth_of_fields fields ≤ 200 → (deep : ℕ) → depth_of_fields fields ≤ deep →
        (before behind : ℕ) (items : ItemList) (all : Bool) → AreItems g active fields before behind items all → RewrittenItems f g active listed z lefts before behind fields deep items all
    items_rewritten no_fields has few deep low before behind items all is = subst (λ (items : ItemList). RewrittenItems f g active listed z lefts before behind no_fields deep items all) (sym is.1) (none_rewritten deep all is.0)
    items_rewritten (positional e separator no_fields) has few deep low before behind items all is =
        last_item e separator deep (omega (arith, low)) (is_multiple e) refl (rewritten_all e has.0 (omega (arith, few))).value has.0 before behind items all is
    items_rewritten (positional e separator (positional d next rest)) has few deep low before behind items all is =
        more_items e separator (positional d next rest) deep has.0 (omega (arith, low)) (rewritten_all e has.0 (omega (arith, few))).value refl
        (items_rewritten (positional d next rest) has.1 (omega (arith, few)) deep (omega (arith, low))) before behind items all is
    items_rewritten (positional e separator (named text d next rest)) has few deep low before behind items all is =
        more_items e separator (named text d next rest) deep has.0 (omega (arith, low)) (rewritten_all e has.0 (omega (arith, few))).value refl
        (items_rewritten (named text d next rest) has.1 (omega (arith, few)) deep (omega (arith, low))) before behind items all is
    items_rewritten (positional e separator (keyed key d next rest)) has few deep low before behind items all is =
        more_items e separator (keyed key d next rest) deep has.0 (omega (arith, low)) (rewritten_all e has.0 (omega (arith, few))).value refl
        (items_rewritten (keyed key d next rest) has.1 (omega (arith, few)) deep (omega (arith, low))) before behind items all is
    items_rewritten (named text e separator rest) has few deep low before behind items all (mid, last, (key, of, more, is_key, is_item, are, is)) =
        let item = rewritten_all e has.0 (omega (arith, few)) in
        let others = items_rewritten rest has.1 (omega (arith, few)) deep (omega (arith, low)) last behind more all are in
        subst (λ (items : ItemList). RewrittenItems f g active listed z lefts before behind (named text e separator rest) deep items all) (sym is)
        (keyed_rewritten (named text e separator rest) (rk_text 1 text) [] e rest key of more all deep true 1 (named_keyed text e separator rest) (mentions_passed e has.0)
        (key_deeper (omega (arith, low, some_depth e)) (text_key 1 text key (key_rewritten lefts made 1 text before mid key is_key)))
        (operand_rewritten lefts made e mid last of has.0 is_item (item.value mid last)) (omega (arith, low)) others)
    items_rewritten (keyed key e separator rest) has few deep low before behind items all (mid, last, (by, of, more, is_key, is_item, are, is)) =
        let first = rewritten_all key has.0 (omega (arith, few)) in
        let item = rewritten_all e has.1 (omega (arith, few)) in
        let others = items_rewritten rest has.2 (omega (arith, few)) deep (omega (arith, low)) last behind more all are in
        subst (λ (items : ItemList). RewrittenItems f g active listed z lefts before behind (keyed key e separator rest) deep items all) (sym is)
        (keyed_rewritten (keyed key e separator rest) (rk (code key)) (mentions_in key) e rest by of more all deep (formed_expression key) (space_of_expression key) (keyed_keyed key e separator rest) (mentions_passed e has.1)
        (key_deeper (omega (arith, low)) (expression_key key by (mentions_passed key has.0) (operand_rewritten lefts made key before mid by has.0 is_key (first.value before mid))))
        (operand_rewritten lefts made e mid last of has.1 is_item (item.value mid last)) (omega (arith, low)) others)

    each_rewritten : (es : Expressions) → AllHaveCores es → depth_of_expressions es ≤ 200 → AllRewritten f g active listed z lefts es
    each_rewritten no_expressions has few = tt
    each_rewritten (syntax.expression e es) has few = ((rewritten_all e has.0 (omega (arith, few))).value, each_rewritten es has.1 (omega (arith, few)))
