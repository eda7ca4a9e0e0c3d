-- What is written of the value of an expression mentions the same names in the same order as the expression, where each function that is left is, but for breaks, the part of the source that has its number.
use Rattle.std.proofs.Common.{◌≡◌, ℕ, Bool, true, false, ◌&&◌, List, [], ◌∷◌, ◌++◌, append-nil, append_assoc, Option, Some, None, is_some, refl, sym, ap, ap₂, ◌∙◌}
use Rattle.std.proofs.lemmas.Option.{same_Some}
use Rattle.std.specs.Prelude.{ℤ, pos, negsuc, ◌==◌, ◌-◌, ◌^◌, suc, not, if◌then◌else◌}
use Rattle.lua_num.specs.Bytes.{Text}
use Rattle.lua_tree.specs.Outline.{Mark, Part, Place as Where, Walk, both, dots, expression_part, expressions_part, arguments_part, body_part, fields_part, marked, mentions, nothing}
use Rattle.lua_tree.specs.declared.tree.BinaryOp.{BinaryOp}
use Rattle.lua_tree.specs.declared.tree.Separator.{Separator}
use Rattle.lua_tree.specs.declared.tree.UnaryOp.{UnaryOp}
use Rattle.proto.specs.declared.parts.Constant.{Constant}
use Rattle.core_expr.specs.Counting.{left_by, left_by_operand, taken_behind, taken_behind_operand, with_constant}
use Rattle.core_expr.specs.Places.{Place, as_text, constant_at, constant_name, field_name, local_name, upvalue_name}
use Rattle.core_expr.specs.Values.{Inner, ItemList, OperandList, OperandValue, Value, Values, and_keyed, and_operand, and_positional, and_value, binary_value, bool_value, call_value, concat_value, constant_operand, constant_value, function_value, global_value, index_value, local_value, method_value, nil_value, no_items, no_operands, no_values, table_value, unary_value, upvalue_value, value_operand, vararg_value}
use Rattle.core_expr.specs.Writing.{ArgumentWording, FieldWording, Wording, and_keyed_item, as_arguments, as_prefix, as_text_argument, can_write_items, word_items, can_write, can_write_operand, can_write_operands, can_write_values, chained, constant_word, ends_values, function_left, function_word, is_bare, literal, name_word, number_word, numeral, truth, unless, with_binary, with_key, with_unary, word, word_each, word_keys, word_only, word_operand, word_short, word_values}
use Rattle.same_flow.proofs.Breaks.{breaks_append}
use Rattle.same_flow.specs.SameMarks.{but_breaks}
use Rattle.reads_back.proofs.FunctionsLeft.{EachLeft, each_by, each_by_operand, left_there}
use Rattle.reads_back.proofs.Tests.{first_of_both, not_so, second_of_both}

-- ---- parts of an outline

-- what stands in a part but for the breaks that stand in a loop, and the place behind it
abbrev but_breaks_of : Walk → Walk
but_breaks_of walk = record { marks = but_breaks walk.marks; next = walk.next }

-- one walk, and another behind it
abbrev joined : Walk → Walk → Walk
joined one other = record { marks = one.marks ++ other.marks; next = other.next }

-- just the same stands in two parts, wherever they begin
abbrev pub SameWalk : Part → Part → Type 0
SameWalk a b = (place : Where) → a place ≡ b place

pub walk_then : {a b c : Part} → SameWalk a b → SameWalk b c → SameWalk a c
walk_then one other place = one place ∙ other place

pub both_walk : {a b c d : Part} → SameWalk a c → SameWalk b d → SameWalk (both a b) (both c d)
both_walk {a} {b} {c} {d} first second place = ap₂ joined (first place) (ap (λ (one : Walk). b one.next) (first place) ∙ second (c place).next)

pub nothing_walk : (a : Part) → SameWalk (both a nothing) a
nothing_walk a place = ap (λ (marks : List Mark). record { marks = marks; next = (a place).next }) (append-nil (a place).marks)

-- the same stands in them, but for the breaks that stand in a loop, and behind them is the same place
pub record SamePart (a b : Part) : Type 0 where
  pub each : (place : Where) → but_breaks_of (a place) ≡ but_breaks_of (b place)

pub exact_part : {a b : Part} → SameWalk a b → SamePart a b
exact_part same = record { each = λ place. ap but_breaks_of (same place) }

pub same_part : (a : Part) → SamePart a a
same_part a = record { each = λ place. refl }

pub part_then : {a b c : Part} → SamePart a b → SamePart b c → SamePart a c
part_then one other = record { each = λ place. one.each place ∙ other.each place }

pub part_back : {a b : Part} → SamePart a b → SamePart b a
part_back one = record { each = λ place. sym (one.each place) }

both_but_breaks : (a b : Part) (place : Where) → but_breaks_of (both a b place) ≡ joined (but_breaks_of (a place)) (but_breaks_of (b (a place).next))
both_but_breaks a b place = ap (λ (marks : List Mark). record { marks = marks; next = (b (a place).next).next }) (breaks_append (a place).marks (b (a place).next).marks)

pub both_same : {a b c d : Part} → SamePart a c → SamePart b d → SamePart (both a b) (both c d)
both_same {a} {b} {c} {d} first second = record {
  each = λ place.
      both_but_breaks a b place
      ∙ ap₂ joined (first.each place) (ap (λ (one : Walk). but_breaks_of (b one.next)) (first.each place) ∙ second.each (c place).next)
      ∙ sym (both_but_breaks c d place);
}

pub both_assoc : (a b c : Part) → SamePart (both (both a b) c) (both a (both b c))
both_assoc a b c = exact_part (λ place. ap (λ (marks : List Mark). record { marks = marks; next = (c (b (a place).next).next).next }) (append_assoc (a place).marks (b (a place).next).marks (c (b (a place).next).next).marks))

pub nothing_behind : (a : Part) → SamePart (both a nothing) a
nothing_behind a = exact_part (nothing_walk a)

-- each function that is left is the part of the source that has its number
abbrev pub IsPartLeft : (of : ℕ → Part) → ℕ → Inner → Type 0
IsPartLeft of number found = SamePart (body_part false found.body) (of number)

abbrev pub ArePartsLeft : (of : ℕ → Part) → List (Option Inner) → Type 0
ArePartsLeft of left = EachLeft (IsPartLeft of) 0 left

-- ---- what a value mentions, where each function has its part of the source

abbrev pub name_mentioned : Option Text → Part
name_mentioned None = nothing
name_mentioned (Some text) = mentions 1 text

module _ (at : Place) (of : ℕ → Part) where
  abbrev mutual
    pub part_of : Value → Part
    part_of vararg_value = marked (λ place. dots 1 place.vararg)
    part_of (local_value r) = name_mentioned (local_name at r)
    part_of (upvalue_value u) = name_mentioned (upvalue_name at u)
    part_of (global_value k) = name_mentioned (constant_name at k)
    part_of (index_value on keys depth) = both (part_of on) (parts_of_operands keys)
    part_of (binary_value op left right depth) = both (part_of_operand left) (part_of_operand right)
    part_of (unary_value op operand depth) = part_of operand
    part_of (concat_value operands depth) = parts_of operands
    part_of (call_value on args all depth) = both (part_of on) (parts_of args)
    part_of (method_value on name args all depth) = both (part_of on) (parts_of args)
    part_of (table_value items all depth) = parts_of_items items
    part_of (function_value number itself) = of number
    part_of v = nothing

    pub parts_of : Values → Part
    parts_of no_values = nothing
    parts_of (and_value v rest) = both (part_of v) (parts_of rest)

    pub part_of_operand : OperandValue → Part
    part_of_operand (constant_operand k) = nothing
    part_of_operand (value_operand v) = part_of v

    pub parts_of_operands : OperandList → Part
    parts_of_operands no_operands = nothing
    parts_of_operands (and_operand o rest) = both (part_of_operand o) (parts_of_operands rest)

    pub parts_of_items : ItemList → Part
    parts_of_items no_items = nothing
    parts_of_items (and_positional v rest) = both (part_of v) (parts_of_items rest)
    parts_of_items (and_keyed key item rest) = both (both (part_of_operand key) (part_of_operand item)) (parts_of_items rest)

-- ---- what is written

pub unless_part : (b : Bool) (w : Wording) → SamePart (expression_part (unless b w).words) (expression_part w.words)
unless_part true w = same_part _
unless_part false w = same_part _

truth_part : (b : Bool) → SamePart (expression_part (truth b).words) nothing
truth_part true = same_part _
truth_part false = same_part _

negative_part : (b : Bool) (n : ℕ) → SamePart (expression_part (if b then with_binary BinaryOp.Sub (with_unary UnaryOp.Neg (number_word (pos (2 ^ 63 - 1)))) (number_word (pos 1)) else with_unary UnaryOp.Neg (number_word (pos (suc n)))).words) nothing
negative_part true n = same_part _
negative_part false n = same_part _

numeral_part : (n : ℤ) → SamePart (expression_part (numeral n).words) nothing
numeral_part (pos n) = same_part _
numeral_part (negsuc n) = negative_part (n == 2 ^ 63 - 1) n

literal_part : (k : Constant) → SamePart (expression_part (literal k).words) nothing
literal_part Constant.Nil = same_part _
literal_part (Constant.Bool b) = truth_part b
literal_part (Constant.Number n) = numeral_part n
literal_part (Constant.Text text) = same_part _

constant_part : (k : Option Constant) → SamePart (expression_part (constant_word k).words) nothing
constant_part None = same_part _
constant_part (Some k) = literal_part k

name_part : (name : Option Text) → SamePart (expression_part (name_word name).words) (name_mentioned name)
name_part None = same_part _
name_part (Some text) = same_part _

keyed_part : (at : Place) (of : ℕ → Part) (n : ℕ) (fs : List (Option Inner)) (key : OperandValue) (name : Option Text) → field_name at key ≡ name → (on : Wording) → SamePart (expression_part (word_operand at n fs key).words) (part_of_operand at of key) →
    SamePart (expression_part (with_key name on (word_operand at n fs key)).words) (both (expression_part on.words) (part_of_operand at of key))
keyed_part at of n fs key None is on other = both_same (same_part (expression_part on.words)) other
keyed_part at of n fs (constant_operand k) (Some name) is on other = part_back (nothing_behind (expression_part on.words))
keyed_part at of n fs (value_operand (constant_value k)) (Some name) is on other = part_back (nothing_behind (expression_part on.words))
keyed_part at of n fs (value_operand v) (Some name) is on other = cc

abbrev AllParts : (at : Place) (of : ℕ → Part) → List Wording → Values → Type 0
AllParts at of [] no_values = Unit {0}
AllParts at of [] (and_value v rest) = ⊥
AllParts at of (w ∷ ws) no_values = ⊥
AllParts at of (w ∷ ws) (and_value v rest) = SamePart (expression_part w.words) (part_of at of v) × AllParts at of ws rest

chained_part : (at : Place) (of : ℕ → Part) (w : Wording) (ws : List Wording) (v : Value) (rest : Values) → SamePart (expression_part w.words) (part_of at of v) → AllParts at of ws rest → SamePart (expression_part (chained w ws).words) (both (part_of at of v) (parts_of at of rest))
chained_part at of w [] v no_values first others = part_then (unless_part _ w) (part_then first (part_back (nothing_behind (part_of at of v))))
chained_part at of w [] v (and_value next rest) first others = absurd others
chained_part at of w (next ∷ ws) v no_values first others = absurd others
chained_part at of w (next ∷ ws) v (and_value u rest) first others = both_same (part_then (unless_part _ w) first) (chained_part at of next ws u rest others.0 others.1)

keyed_item_part : (at : Place) (of : ℕ → Part) (n : ℕ) (fs : List (Option Inner)) (key : OperandValue) (name : Option Text) → field_name at key ≡ name → (item : Wording) (separator : Separator) (rest : FieldWording) (items : Part) (value : Part) →
    SamePart (expression_part (word_operand at n fs key).words) (part_of_operand at of key) → SamePart (expression_part item.words) value → SamePart (fields_part rest.words) items →
    SamePart (fields_part (and_keyed_item name (word_operand at n fs key) item separator rest).words) (both (both (part_of_operand at of key) value) items)
keyed_item_part at of n fs key None is item separator rest items value first second others = both_same (both_same first second) others
keyed_item_part at of n fs (constant_operand k) (Some name) is item separator rest items value first second others = both_same second others
keyed_item_part at of n fs (value_operand (constant_value k)) (Some name) is item separator rest items value first second others = both_same second others
keyed_item_part at of n fs (value_operand v) (Some name) is item separator rest items value first second others = cc

-- a function that is left
function_part : (of : ℕ → Part) (number : ℕ) (fs : List (Option Inner)) (found : Option Inner) → ArePartsLeft of fs → function_left fs number ≡ found → is_some found ≡ true → SamePart (expression_part (function_word found).words) (of number)
function_part of number fs None parts_left there some = not_so some
function_part of number fs (Some found) parts_left there some = left_there (IsPartLeft of) number fs found parts_left there

-- ---- a string or a constructor that is the only argument, without parentheses

text_argument_part : (k : Option Constant) (args : ArgumentWording) → as_text_argument (as_text k) ≡ Some args → SamePart (arguments_part args.words) nothing
text_argument_part (Some (Constant.Text text)) args is = exact_part (λ place. ap (λ (args : ArgumentWording). arguments_part args.words place) (sym (same_Some _ args is)))
text_argument_part None args is = cc
text_argument_part (Some Constant.Nil) args is = cc
text_argument_part (Some (Constant.Bool b)) args is = cc
text_argument_part (Some (Constant.Number n)) args is = cc

module _ (at : Place) (n : ℕ) (fs : List (Option Inner)) where
  only_part : (v : Value) (args : ArgumentWording) → word_only at n fs v ≡ Some args → SamePart (arguments_part args.words) (expressions_part (word_values at n fs (and_value v no_values) false).words)
  only_part (constant_value k) args is = part_then (text_argument_part (constant_at at k) args is) (part_back (part_then (nothing_behind (expression_part (constant_word (constant_at at k)).words)) (constant_part (constant_at at k))))
  only_part (table_value items all depth) args is = part_then (exact_part (λ place. ap (λ (args : ArgumentWording). arguments_part args.words place) (sym (same_Some _ args is)))) (part_back (nothing_behind (fields_part (word_items at n fs items all).words)))
  only_part v args is = cc

  short_part : (vs : Values) (only : Option ArgumentWording) → word_short at n fs vs ≡ only → SamePart (arguments_part (as_arguments true only (word_values at n fs vs false)).words) (expressions_part (word_values at n fs vs false).words)
  short_part (and_value v no_values) (Some args) is = only_part v args is
  short_part vs (Some args) is = cc
  short_part vs None is = same_part (expressions_part (word_values at n fs vs false).words)

  -- in the short form or not
  given_part : (short : Bool) (vs : Values) (all : Bool) → SamePart (arguments_part (as_arguments (short && not all) (word_short at n fs vs) (word_values at n fs vs all)).words) (expressions_part (word_values at n fs vs all).words)
  given_part true vs true = same_part (expressions_part (word_values at n fs vs true).words)
  given_part true vs false = short_part vs (word_short at n fs vs) refl
  given_part false vs all = same_part (expressions_part (word_values at n fs vs all).words)

module _ (at : Place) (of : ℕ → Part) where
  mutual
    pub word_part : (v : Value) (n : ℕ) (fs : List (Option Inner)) → ArePartsLeft of fs → can_write at fs v ≡ true → SamePart (expression_part (word at n fs v).words) (part_of at of v)
    word_part nil_value n fs parts_left can = same_part nothing
    word_part vararg_value n fs parts_left can = same_part (expression_part (word at n fs vararg_value).words)
    word_part (bool_value b) n fs parts_left can = truth_part b
    word_part (constant_value k) n fs parts_left can = constant_part (constant_at at k)
    word_part (local_value r) n fs parts_left can = name_part (local_name at r)
    word_part (upvalue_value u) n fs parts_left can = name_part (upvalue_name at u)
    word_part (global_value k) n fs parts_left can = name_part (constant_name at k)
    word_part (index_value on keys depth) n fs parts_left can =
        let together = second_of_both _ _ can in
        let first = part_then (unless_part _ (word at n fs on)) (word_part on n fs parts_left (first_of_both _ _ together)) in
        part_then (keys_part keys (taken_behind on n) (left_by on fs) (as_prefix (word at n fs on)) (each_by (IsPartLeft of) on fs parts_left) (second_of_both _ _ together)) (both_same first (same_part (parts_of_operands at of keys)))
    word_part (binary_value op left right depth) n fs parts_left can =
        both_same (part_then (unless_part _ (word_operand at n fs left)) (operand_part left n fs parts_left (first_of_both _ _ can)))
        (part_then (unless_part _ (word_operand at (taken_behind_operand left n) (left_by_operand left fs) right)) (operand_part right (taken_behind_operand left n) (left_by_operand left fs) (each_by_operand (IsPartLeft of) left fs parts_left) (second_of_both _ _ can)))
    word_part (unary_value op operand depth) n fs parts_left can = part_then (unless_part _ (word at n fs operand)) (word_part operand n fs parts_left can)
    word_part (concat_value no_values depth) n fs parts_left can = not_so can
    word_part (concat_value (and_value v rest) depth) n fs parts_left can =
        let together = second_of_both (not (ends_values (and_value v rest))) _ can in
        chained_part at of (word at n fs v) (word_each at (taken_behind v n) (left_by v fs) rest) v rest (word_part v n fs parts_left (first_of_both _ _ together)) (each_part rest (taken_behind v n) (left_by v fs) (each_by (IsPartLeft of) v fs parts_left) (second_of_both _ _ together))
    word_part (call_value on args all depth) n fs parts_left can =
        let behind = each_by (IsPartLeft of) on fs parts_left in
        both_same (part_then (unless_part _ (word at n fs on)) (word_part on n fs parts_left (first_of_both _ _ can)))
        (part_then (given_part at (taken_behind on n) (left_by on fs) at.short args all) (values_part args all (taken_behind on n) (left_by on fs) behind (second_of_both _ _ can)))
    word_part (method_value on name args all depth) n fs parts_left can =
        let behind = each_by (IsPartLeft of) on fs parts_left in
        both_same (part_then (unless_part _ (word at n fs on)) (word_part on n fs parts_left (first_of_both _ _ can)))
        (part_then (given_part at (with_constant (taken_behind on n) name) (left_by on fs) at.short args all) (values_part args all (with_constant (taken_behind on n) name) (left_by on fs) behind (second_of_both (is_some (constant_name at name)) _ (second_of_both _ _ can))))
    word_part (table_value items all depth) n fs parts_left can = items_part items all n fs parts_left can
    word_part (function_value number itself) n fs parts_left can = function_part of number fs (function_left fs number) parts_left refl (second_of_both (not itself) _ can)

    pub values_part : (vs : Values) (all : Bool) (n : ℕ) (fs : List (Option Inner)) → ArePartsLeft of fs → can_write_values at fs vs ≡ true → SamePart (expressions_part (word_values at n fs vs all).words) (parts_of at of vs)
    values_part no_values all n fs parts_left can = same_part nothing
    values_part (and_value v rest) all n fs parts_left can =
        both_same (part_then (unless_part _ (word at n fs v)) (word_part v n fs parts_left (first_of_both _ _ can))) (values_part rest all (taken_behind v n) (left_by v fs) (each_by (IsPartLeft of) v fs parts_left) (second_of_both _ _ can))

    each_part : (vs : Values) (n : ℕ) (fs : List (Option Inner)) → ArePartsLeft of fs → can_write_values at fs vs ≡ true → AllParts at of (word_each at n fs vs) vs
    each_part no_values n fs parts_left can = tt
    each_part (and_value v rest) n fs parts_left can = (word_part v n fs parts_left (first_of_both _ _ can), each_part rest (taken_behind v n) (left_by v fs) (each_by (IsPartLeft of) v fs parts_left) (second_of_both _ _ can))

    pub operand_part : (o : OperandValue) (n : ℕ) (fs : List (Option Inner)) → ArePartsLeft of fs → can_write_operand at fs o ≡ true → SamePart (expression_part (word_operand at n fs o).words) (part_of_operand at of o)
    operand_part (constant_operand k) n fs parts_left can = constant_part (constant_at at k)
    operand_part (value_operand v) n fs parts_left can = part_then (unless_part (is_bare at n v) (word at n fs v)) (word_part v n fs parts_left can)

    keys_part : (keys : OperandList) (n : ℕ) (fs : List (Option Inner)) (on : Wording) → ArePartsLeft of fs → can_write_operands at fs keys ≡ true → SamePart (expression_part (word_keys at n fs on keys).words) (both (expression_part on.words) (parts_of_operands at of keys))
    keys_part no_operands n fs on parts_left can = part_back (nothing_behind (expression_part on.words))
    keys_part (and_operand key rest) n fs on parts_left can =
        part_then (keys_part rest (taken_behind_operand key n) (left_by_operand key fs) (with_key (field_name at key) on (word_operand at n fs key)) (each_by_operand (IsPartLeft of) key fs parts_left) (second_of_both _ _ can))
        (part_then (both_same (keyed_part at of n fs key (field_name at key) refl on (operand_part key n fs parts_left (first_of_both _ _ can))) (same_part (parts_of_operands at of rest))) (both_assoc (expression_part on.words) (part_of_operand at of key) (parts_of_operands at of rest)))

    items_part : (items : ItemList) (all : Bool) (n : ℕ) (fs : List (Option Inner)) → ArePartsLeft of fs → can_write_items at fs items ≡ true → SamePart (fields_part (word_items at n fs items all).words) (parts_of_items at of items)
    items_part no_items all n fs parts_left can = same_part nothing
    items_part (and_positional v rest) all n fs parts_left can =
        both_same (part_then (unless_part _ (word at n fs v)) (word_part v n fs parts_left (first_of_both _ _ can))) (items_part rest all (taken_behind v n) (left_by v fs) (each_by (IsPartLeft of) v fs parts_left) (second_of_both _ _ can))
    items_part (and_keyed key item rest) all n fs parts_left can =
        let behind = each_by_operand (IsPartLeft of) key fs parts_left in
        let together = second_of_both _ _ can in
        keyed_item_part at of n fs key (field_name at key) refl _ _ _ _ _ (operand_part key n fs parts_left (first_of_both _ _ can)) (operand_part item (taken_behind_operand key n) (left_by_operand key fs) behind (first_of_both _ _ together))
        (items_part rest all (taken_behind_operand item (taken_behind_operand key n)) (left_by_operand item (left_by_operand key fs)) (each_by_operand (IsPartLeft of) item (left_by_operand key fs) behind) (second_of_both _ _ together))
