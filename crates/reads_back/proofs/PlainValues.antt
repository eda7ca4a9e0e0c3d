-- What is written of a value has no `and`, `or` or comparison as a value, where no operator in it is a comparison and the functions that are left are plain.
use Rattle.std.proofs.Common.{◌≡◌, ℕ, suc, Bool, true, false, not, ◌&&◌, List, [], ◌∷◌, Some, None, refl, sym, ap, ◌∙◌}
use Rattle.std.specs.Prelude.{ℤ, pos, negsuc, ◌==◌, ◌-◌, ◌^◌, Option, if◌then◌else◌}
use Rattle.std.proofs.lemmas.Option.{same_Some}
use Rattle.lua_num.specs.Bytes.{Text}
use Rattle.lua_tree.specs.Precedence.{is_right_associative, left_binds, level_of_op, right_binds}
use Rattle.lua_tree.specs.Syntax.{Expression, binary_expression, unary_expression}
use Rattle.lua_tree.specs.WellFormed.{is_prefix}
use Rattle.lua_tree.specs.declared.tree.BinaryOp.{BinaryOp}
use Rattle.lua_tree.specs.declared.tree.Separator.{Separator}
use Rattle.lua_tree.specs.declared.tree.UnaryOp.{UnaryOp}
use Rattle.proto.specs.declared.parts.Constant.{Constant}
use Rattle.core_expr.specs.Counting.{left_by, left_by_operand, taken_behind, taken_behind_operand, with_constant}
use Rattle.core_expr.specs.Places.{Place, constant_at, constant_name, field_name, local_name, text_at, upvalue_name}
use Rattle.core_expr.specs.Values.{Inner, ItemList, OperandList, OperandValue, Value, Values, and_keyed, and_operand, and_positional, and_value, binary_value, bool_value, call_value, concat_value, constant_operand, constant_value, function_value, global_value, index_value, local_value, method_value, nil_value, no_items, no_operands, no_values, table_value, unary_value, upvalue_value, value_operand, vararg_value}
use Rattle.core_expr.specs.Writing.{ArgumentWording, FieldWording, Wording, Wordings, and_keyed_item, as_arguments, as_prefix, as_text_argument, chain, chained, constant_word, ends_items, ends_values, function_left, function_word, is_bare, is_multiple, is_power, joined, literal, name_word, numeral, on_left, on_right, separator_before, unless, with_binary, with_key, with_unary, number_word, word, word_each, word_items, word_keys, word_only, word_operand, word_short, word_values}
use Rattle.scheme.specs.Expressions.{is_comparison}
use Rattle.scheme.specs.Shapes.{plain_arguments, plain_body, plain_comparison, plain_fields, plain_values, plainness}
use Rattle.reads_back.proofs.FunctionsLeft.{EachLeft, each_by, each_by_operand, left_there}
use Rattle.reads_back.proofs.Tests.{both_hold}
use Rattle.reads_back.proofs.WrittenFormed.{AreFineLeft, IsFineFunction}

-- ---- values in which no operator is a comparison

abbrev mutual
  pub NoComparison : Value → Type 0
  NoComparison (index_value on keys depth) = NoComparison on × NoComparisonKeys keys
  NoComparison (binary_value op left right depth) = (is_comparison op ≡ false) × NoComparisonOperand left × NoComparisonOperand right
  NoComparison (unary_value op of depth) = NoComparison of
  NoComparison (concat_value operands depth) = NoComparisons operands
  NoComparison (call_value on args all depth) = NoComparison on × NoComparisons args
  NoComparison (method_value on name args all depth) = NoComparison on × NoComparisons args
  NoComparison (table_value items all depth) = NoComparisonItems items
  NoComparison v = Unit {0}

  pub NoComparisons : Values → Type 0
  NoComparisons no_values = Unit {0}
  NoComparisons (and_value v rest) = NoComparison v × NoComparisons rest

  pub NoComparisonOperand : OperandValue → Type 0
  NoComparisonOperand (constant_operand k) = Unit {0}
  NoComparisonOperand (value_operand v) = NoComparison v

  pub NoComparisonKeys : OperandList → Type 0
  NoComparisonKeys no_operands = Unit {0}
  NoComparisonKeys (and_operand key rest) = NoComparisonOperand key × NoComparisonKeys rest

  pub NoComparisonItems : ItemList → Type 0
  NoComparisonItems no_items = Unit {0}
  NoComparisonItems (and_positional v rest) = NoComparison v × NoComparisonItems rest
  NoComparisonItems (and_keyed key item rest) = NoComparisonOperand key × NoComparisonOperand item × NoComparisonItems rest

-- each function that is left is plain
abbrev pub ArePlainLeft : List (Option Inner) → Type 0
ArePlainLeft left = EachLeft (λ number found. plain_body found.body ≡ true) 0 left

each_plain_left : (number : ℕ) (left : List (Option Inner)) → EachLeft (λ number found. IsFineFunction found) number left → EachLeft (λ number found. plain_body found.body ≡ true) number left
each_plain_left number [] fine = tt
each_plain_left number (None ∷ left) fine = each_plain_left (suc number) left fine
each_plain_left number (Some found ∷ left) fine = (fine.0.plain, each_plain_left (suc number) left fine.1)

-- what is fine is plain
pub plain_left : (lefts : ℕ → List (Option Inner)) → ((made : ℕ) → AreFineLeft (lefts made)) → (made : ℕ) → ArePlainLeft (lefts made)
plain_left lefts fine made = each_plain_left 0 (lefts made) (fine made)

-- ---- expressions from their parts

abbrev IsPlainValue : Expression → Type 0
IsPlainValue e = (plainness e).value ≡ true

unless_plain : (bare : Bool) (w : Wording) → IsPlainValue w.words → IsPlainValue (unless bare w).words
unless_plain true w plain = plain
unless_plain false w plain = plain

binary_plain : (op : BinaryOp) (l r : Expression) → is_comparison op ≡ false → IsPlainValue l → IsPlainValue r → IsPlainValue (binary_expression 1 op l r)
binary_plain op l r none first second = ap (λ compares. (plain_comparison compares ((plainness l).value && (plainness r).value)).value) none ∙ both_hold _ _ first second

-- a comparison of plain values is plain as a condition, and so is any operator on them
compared_by : (compares parts : Bool) → (plain_comparison compares parts).condition ≡ parts
compared_by true parts = refl
compared_by false parts = refl

pub joined_condition : (op : BinaryOp) (l r : Wording) → IsPlainValue l.words → IsPlainValue r.words → (plainness (joined op l r).words).condition ≡ true
joined_condition op l r first second =
    compared_by (is_comparison op) _
    ∙ both_hold _ _ (unless_plain (left_binds (level_of_op op) (is_right_associative op) l.words) l first) (unless_plain (right_binds (level_of_op op) (is_power op) r.words) r second)

joined_plain : (op : BinaryOp) (l r : Wording) → is_comparison op ≡ false → IsPlainValue l.words → IsPlainValue r.words → IsPlainValue (joined op l r).words
joined_plain op l r none first second =
    binary_plain op (on_left op l).words (on_right op r).words none (unless_plain (left_binds (level_of_op op) (is_right_associative op) l.words) l first) (unless_plain (right_binds (level_of_op op) (is_power op) r.words) r second)

unary_plain : (op : UnaryOp) (e : Expression) → IsPlainValue e → IsPlainValue (unary_expression 1 op e)
unary_plain UnaryOp.Not e plain = plain
unary_plain op e plain = plain

numeral_plain : (n : ℤ) → IsPlainValue (numeral n).words
numeral_plain (pos n) = refl
numeral_plain (negsuc n) = by (n == 2 ^ 63 - 1)
  where
    by : (least : Bool) → IsPlainValue (if least then with_binary BinaryOp.Sub (with_unary UnaryOp.Neg (number_word (pos (2 ^ 63 - 1)))) (number_word (pos 1)) else with_unary UnaryOp.Neg (number_word (pos (suc n)))).words
    by true = refl
    by false = refl

literal_plain : (k : Constant) → IsPlainValue (literal k).words
literal_plain Constant.Nil = refl
literal_plain (Constant.Bool true) = refl
literal_plain (Constant.Bool false) = refl
literal_plain (Constant.Number n) = numeral_plain n
literal_plain (Constant.Text text) = refl

constant_plain : (k : Option Constant) → IsPlainValue (constant_word k).words
constant_plain None = refl
constant_plain (Some k) = literal_plain k

name_plain : (name : Option Text) → IsPlainValue (name_word name).words
name_plain None = refl
name_plain (Some text) = refl

function_plain : (found : Option Inner) → ((one : Inner) → found ≡ Some one → plain_body one.body ≡ true) → IsPlainValue (function_word found).words
function_plain None plain = refl
function_plain (Some found) plain = plain found refl

key_plain : (name : Option Text) (on key : Wording) → IsPlainValue on.words → IsPlainValue key.words → IsPlainValue (with_key name on key).words
key_plain None on key first second = both_hold _ _ first second
key_plain (Some name) on key first second = first

keyed_plain : (name : Option Text) (key w : Wording) (separator : Separator) (rest : FieldWording) → IsPlainValue key.words → IsPlainValue w.words → plain_fields rest.words ≡ true → plain_fields (and_keyed_item name key w separator rest).words ≡ true
keyed_plain None key w separator rest first second others = both_hold _ _ (both_hold _ _ first second) others
keyed_plain (Some name) key w separator rest first second others = both_hold _ _ second others

abbrev AllPlain : List Wording → Type 0
AllPlain [] = Unit {0}
AllPlain (w ∷ ws) = IsPlainValue w.words × AllPlain ws

chained_plain : (w : Wording) (ws : List Wording) → IsPlainValue w.words → AllPlain ws → IsPlainValue (chained w ws).words
chained_plain w [] plain all = unless_plain (right_binds 4 false w.words) w plain
chained_plain w (next ∷ rest) plain all =
    binary_plain BinaryOp.Concat (on_left BinaryOp.Concat w).words (chained next rest).words refl (unless_plain (left_binds 4 true w.words) w plain) (chained_plain next rest all.0 all.1)

chain_plain : (ws : List Wording) → AllPlain ws → IsPlainValue (chain ws).words
chain_plain [] all = refl
chain_plain (w ∷ ws) all = chained_plain w ws all.0 all.1

given_plain : (short all : Bool) (only : Option ArgumentWording) (ws : Wordings) → ((args : ArgumentWording) → only ≡ Some args → plain_arguments args.words ≡ true) → plain_values ws.words ≡ true → plain_arguments (as_arguments (short && all) only ws).words ≡ true
given_plain true true None ws short plain = plain
given_plain true true (Some args) ws short plain = short args refl
given_plain true false only ws short plain = plain
given_plain false all only ws short plain = plain

text_plain : (text : Option Text) (args : ArgumentWording) → as_text_argument text ≡ Some args → plain_arguments args.words ≡ true
text_plain None args is = cc
text_plain (Some text) args is = ap (λ (args : ArgumentWording). plain_arguments args.words) (sym (same_Some _ args is))

-- ---- values

module _ (at : Place) where
  mutual
    pub word_plain : (v : Value) (n : ℕ) (fs : List (Option Inner)) → ArePlainLeft fs → NoComparison v → IsPlainValue (word at n fs v).words
    word_plain nil_value n fs left none = refl
    word_plain vararg_value n fs left none = refl
    word_plain (bool_value true) n fs left none = refl
    word_plain (bool_value false) n fs left none = refl
    word_plain (constant_value k) n fs left none = constant_plain (constant_at at k)
    word_plain (local_value r) n fs left none = name_plain (local_name at r)
    word_plain (upvalue_value u) n fs left none = name_plain (upvalue_name at u)
    word_plain (global_value k) n fs left none = name_plain (constant_name at k)
    word_plain (index_value on keys depth) n fs left none =
        keys_plain keys (taken_behind on n) (left_by on fs) (as_prefix (word at n fs on)) (each_by _ on fs left) none.1 (unless_plain (is_prefix (word at n fs on).words) (word at n fs on) (word_plain on n fs left none.0))
    word_plain (binary_value op one other depth) n fs left none =
        joined_plain op (word_operand at n fs one) (word_operand at (taken_behind_operand one n) (left_by_operand one fs) other) none.0 (operand_plain one n fs left none.1) (operand_plain other (taken_behind_operand one n) (left_by_operand one fs) (each_by_operand _ one fs left) none.2)
    word_plain (unary_value op of depth) n fs left none = unary_plain op (unless (left_binds 7 false (word at n fs of).words) (word at n fs of)).words (unless_plain (left_binds 7 false (word at n fs of).words) (word at n fs of) (word_plain of n fs left none))
    word_plain (concat_value operands depth) n fs left none = chain_plain (word_each at n fs operands) (each_plain operands n fs left none)
    word_plain (call_value on args all depth) n fs left none =
        let behind = each_by _ on fs left in
        both_hold _ _ (unless_plain (is_prefix (word at n fs on).words) (word at n fs on) (word_plain on n fs left none.0))
        (given_plain at.short (not all) _ _ (short_plain args (taken_behind on n) (left_by on fs) behind none.1) (values_plain args all (taken_behind on n) (left_by on fs) behind none.1))
    word_plain (method_value on name args all depth) n fs left none =
        let behind = each_by _ on fs left in
        let m = with_constant (taken_behind on n) name in
        both_hold _ _ (unless_plain (is_prefix (word at n fs on).words) (word at n fs on) (word_plain on n fs left none.0))
        (given_plain at.short (not all) _ _ (short_plain args m (left_by on fs) behind none.1) (values_plain args all m (left_by on fs) behind none.1))
    word_plain (table_value items all depth) n fs left none = items_plain items all n fs left none
    word_plain (function_value number itself) n fs left none = function_plain (function_left fs number) (λ found there. left_there (λ number found. plain_body found.body ≡ true) number fs found left there)

    pub values_plain : (vs : Values) (all : Bool) (n : ℕ) (fs : List (Option Inner)) → ArePlainLeft fs → NoComparisons vs → plain_values (word_values at n fs vs all).words ≡ true
    values_plain no_values all n fs left none = refl
    values_plain (and_value v rest) all n fs left none =
        both_hold _ _ (unless_plain (not ((ends_values rest && not all) && is_multiple v)) (word at n fs v) (word_plain v n fs left none.0)) (values_plain rest all (taken_behind v n) (left_by v fs) (each_by _ v fs left) none.1)

    each_plain : (vs : Values) (n : ℕ) (fs : List (Option Inner)) → ArePlainLeft fs → NoComparisons vs → AllPlain (word_each at n fs vs)
    each_plain no_values n fs left none = tt
    each_plain (and_value v rest) n fs left none = (word_plain v n fs left none.0, each_plain rest (taken_behind v n) (left_by v fs) (each_by _ v fs left) none.1)

    pub operand_plain : (o : OperandValue) (n : ℕ) (fs : List (Option Inner)) → ArePlainLeft fs → NoComparisonOperand o → IsPlainValue (word_operand at n fs o).words
    operand_plain (constant_operand k) n fs left none = constant_plain (constant_at at k)
    operand_plain (value_operand v) n fs left none = unless_plain (is_bare at n v) (word at n fs v) (word_plain v n fs left none)

    keys_plain : (keys : OperandList) (n : ℕ) (fs : List (Option Inner)) (on : Wording) → ArePlainLeft fs → NoComparisonKeys keys → IsPlainValue on.words → IsPlainValue (word_keys at n fs on keys).words
    keys_plain no_operands n fs on left none plain = plain
    keys_plain (and_operand key rest) n fs on left none plain =
        keys_plain rest (taken_behind_operand key n) (left_by_operand key fs) (with_key (field_name at key) on (word_operand at n fs key)) (each_by_operand _ key fs left) none.1 (key_plain (field_name at key) on _ plain (operand_plain key n fs left none.0))

    items_plain : (items : ItemList) (all : Bool) (n : ℕ) (fs : List (Option Inner)) → ArePlainLeft fs → NoComparisonItems items → plain_fields (word_items at n fs items all).words ≡ true
    items_plain no_items all n fs left none = refl
    items_plain (and_positional v rest) all n fs left none =
        both_hold _ _ (unless_plain (not ((ends_items rest && not all) && is_multiple v)) (word at n fs v) (word_plain v n fs left none.0)) (items_plain rest all (taken_behind v n) (left_by v fs) (each_by _ v fs left) none.1)
    items_plain (and_keyed key item rest) all n fs left none =
        let behind = each_by_operand _ key fs left in
        keyed_plain (field_name at key) (word_operand at n fs key) (word_operand at (taken_behind_operand key n) (left_by_operand key fs) item) (separator_before rest) (word_items at (taken_behind_operand item (taken_behind_operand key n)) (left_by_operand item (left_by_operand key fs)) rest all)
        (operand_plain key n fs left none.0) (operand_plain item (taken_behind_operand key n) (left_by_operand key fs) behind none.1)
        (items_plain rest all (taken_behind_operand item (taken_behind_operand key n)) (left_by_operand item (left_by_operand key fs)) (each_by_operand _ item (left_by_operand key fs) behind) none.2)

    short_plain : (vs : Values) (n : ℕ) (fs : List (Option Inner)) → ArePlainLeft fs → NoComparisons vs → (args : ArgumentWording) → word_short at n fs vs ≡ Some args → plain_arguments args.words ≡ true
    short_plain (and_value v no_values) n fs left none args is = only_plain v n fs left none.0 args is
    short_plain vs n fs left none args is = cc

    only_plain : (v : Value) (n : ℕ) (fs : List (Option Inner)) → ArePlainLeft fs → NoComparison v → (args : ArgumentWording) → word_only at n fs v ≡ Some args → plain_arguments args.words ≡ true
    only_plain (constant_value k) n fs left none args is = text_plain (text_at at k) args is
    only_plain (table_value items all depth) n fs left none args is = ap (λ (args : ArgumentWording). plain_arguments args.words) (sym (same_Some _ args is)) ∙ items_plain items all n fs left none
    only_plain v n fs left none args is = cc
