-- Serves a body. How values are written as expressions (manual 2.5), with how many levels these need.
use Rattle.std.specs.Prelude.{◌&&◌, ◌||◌, not, ℕ, ◌-◌, ◌^◌, ℤ, pos, negsuc, suc, Bool, true, false, max, nat_le, nat_lt, ◌==◌, List, [], ◌∷◌, take, slice_get, Option, Some, None, is_some, if◌then◌else◌}
use Rattle.std.specs.List.{list_any}
use Rattle.lua_num.specs.Bytes.{Text}
use Rattle.proto.specs.declared.parts.Constant.{Constant}
use Rattle.lua_tree.specs.Syntax.{Expressions, no_expressions, expression, Expression, nil_literal, true_literal, false_literal, vararg_expression, number_literal, text_literal, name_expression, function_expression, index_expression, field_expression, call_expression, method_call, binary_expression, unary_expression, constructor, parenthesized, Arguments, argument_list, text_argument, table_argument, Fields, no_fields, positional, named, keyed}
use Rattle.lua_tree.specs.WellFormed.{is_prefix}
use Rattle.lua_tree.specs.Precedence.{level_of_op, is_right_associative, left_binds, right_binds}
use Rattle.lua_tree.specs.declared.tree.BinaryOp.{BinaryOp}
use Rattle.lua_tree.specs.declared.tree.UnaryOp.{UnaryOp}
use Rattle.lua_tree.specs.declared.tree.Separator.{Separator}
use Rattle.core_expr.specs.Values.{Value, nil_value, vararg_value, bool_value, constant_value, local_value, upvalue_value, global_value, index_value, binary_value, unary_value, concat_value, call_value, method_value, table_value, function_value, Values, no_values, and_value, OperandValue, constant_operand, value_operand, OperandList, no_operands, and_operand, ItemList, no_items, and_positional, and_keyed, Inner}
use Rattle.core_expr.specs.Places.{Place, constant_at, text_at, constant_name, local_name, upvalue_name, field_name}
use Rattle.lua_tree.specs.View.{view_exp, view_exps}
use Rattle.core_expr.specs.declared.scope.Written.{Written}
use Rattle.core_expr.specs.declared.scope.WrittenList.{WrittenList}
use Rattle.core_expr.specs.Counting.{one_more, with_constant, taken_behind, taken_behind_operand, left_by, left_by_operand}

-- ---- expressions from their parts; all lines are 1

pub record Wording : Type 0 where
  pub words : Expression
  pub levels : ℕ

pub record Wordings : Type 0 where
  pub words : Expressions
  pub levels : ℕ

pub record ArgumentWording : Type 0 where
  pub words : Arguments
  pub levels : ℕ

pub record FieldWording : Type 0 where
  pub words : Fields
  pub levels : ℕ

abbrev pub view_written : Written → Wording
view_written w = record { words = view_exp w.exp.value; levels = w.levels }

abbrev pub view_written_list : WrittenList → Wordings
view_written_list w = record { words = view_exps w.exps; levels = w.levels }

abbrev pub over : ℕ → Expression → Wording
over levels e = record { words = e; levels = one_more levels }

abbrev pub single : Expression → Wording
single e = over 0 e

abbrev pub in_parentheses : Wording → Wording
in_parentheses w = over w.levels (parenthesized 1 w.words)

abbrev pub with_unary : UnaryOp → Wording → Wording
with_unary op w = over w.levels (unary_expression 1 op w.words)

abbrev pub with_binary : BinaryOp → Wording → Wording → Wording
with_binary op left right = over (max left.levels right.levels) (binary_expression 1 op left.words right.words)

abbrev pub with_field : Wording → Text → Wording
with_field on name = over on.levels (field_expression 1 on.words name)

abbrev pub with_index : Wording → Wording → Wording
with_index on key = over (max on.levels key.levels) (index_expression 1 on.words key.words)

abbrev pub with_items : FieldWording → Wording
with_items ws = over ws.levels (constructor 1 ws.words)

abbrev pub with_arguments : Wording → ArgumentWording → Wording
with_arguments on args = over (max on.levels args.levels) (call_expression 1 on.words args.words 1)

abbrev pub with_method : Wording → Text → ArgumentWording → Wording
with_method on name args = over (max on.levels args.levels) (method_call 1 on.words name args.words 1)

-- ---- parentheses where the grammar wants them

abbrev pub unless : Bool → Wording → Wording
unless bare w = if bare then w else in_parentheses w

abbrev pub as_prefix : Wording → Wording
as_prefix w = unless (is_prefix w.words) w

abbrev pub is_power : BinaryOp → Bool
is_power BinaryOp.Pow = true
is_power op = false

-- an operand that is itself a `..` stands in parentheses on both sides of one
abbrev pub on_left : BinaryOp → Wording → Wording
on_left op w = unless (left_binds (level_of_op op) (is_right_associative op) w.words) w

abbrev pub on_right : BinaryOp → Wording → Wording
on_right op w = unless (right_binds (level_of_op op) (is_power op) w.words) w

abbrev pub joined : BinaryOp → Wording → Wording → Wording
joined op left right = with_binary op (on_left op left) (on_right op right)

abbrev pub applied : UnaryOp → Wording → Wording
applied op w = with_unary op (unless (left_binds 7 false w.words) w)

-- values joined by `..`, the first of which this is
abbrev pub chained : Wording → List Wording → Wording
chained w [] = on_right BinaryOp.Concat w
chained w (next ∷ rest) = with_binary BinaryOp.Concat (on_left BinaryOp.Concat w) (chained next rest)

abbrev pub chain : List Wording → Wording
chain [] = single (nil_literal 1)
chain (w ∷ rest) = chained w rest

-- ---- literals and names

abbrev pub truth : Bool → Wording
truth true = single (true_literal 1)
truth false = single (false_literal 1)

abbrev pub number_word : ℤ → Wording
number_word n = single (number_literal 1 n)

-- no numeral is below 0, and the least number is the negation of none
abbrev pub numeral : ℤ → Wording
numeral (pos n) = number_word (pos n)
numeral (negsuc n) =
    if n == 2 ^ 63 - 1
    then with_binary BinaryOp.Sub (with_unary UnaryOp.Neg (number_word (pos (2 ^ 63 - 1)))) (number_word (pos 1))
    else with_unary UnaryOp.Neg (number_word (pos (suc n)))

abbrev pub literal : Constant → Wording
literal Constant.Nil = single (nil_literal 1)
literal (Constant.Bool b) = truth b
literal (Constant.Number n) = numeral n
literal (Constant.Text text) = single (text_literal 1 text)

abbrev pub constant_word : Option Constant → Wording
constant_word None = single (nil_literal 1)
constant_word (Some constant) = literal constant

abbrev pub name_word : Option Text → Wording
name_word None = single (nil_literal 1)
name_word (Some name) = single (name_expression 1 name)

abbrev pub text_or_empty : Option Text → Text
text_or_empty None = []
text_or_empty (Some text) = text

-- ---- functions, by their numbers

abbrev pub function_there : Option (Option Inner) → Option Inner
function_there None = None
function_there (Some found) = found

abbrev pub function_left : List (Option Inner) → ℕ → Option Inner
function_left fs number = function_there (slice_get fs number)

abbrev pub function_word : Option Inner → Wording
function_word None = single (nil_literal 1)
function_word (Some f) = over f.levels (function_expression 1 f.body)

-- ---- operands: a literal in a register stands in parentheses, but where it would have gone there anyway, since no number that an operand can have is left for it

abbrev pub is_literal : Constant → Constant → Bool
is_literal Constant.Nil Constant.Nil = true
is_literal (Constant.Bool true) (Constant.Bool true) = true
is_literal (Constant.Bool false) (Constant.Bool false) = true
is_literal c d = false

abbrev pub has_no_number : Place → ℕ → Constant → Bool
has_no_number at n literal = nat_lt 255 n && not (list_any (is_literal literal) (take 256 at.of.constants))

abbrev pub is_bare : Place → ℕ → Value → Bool
is_bare at n (constant_value k) = nat_lt 255 k || not (is_some (text_at at k))
is_bare at n nil_value = has_no_number at n Constant.Nil
is_bare at n (bool_value b) = has_no_number at n (Constant.Bool b)
is_bare at n v = true

-- a call or `...`, which can give several values
abbrev pub is_multiple : Value → Bool
is_multiple vararg_value = true
is_multiple (call_value on args all depth) = true
is_multiple (method_value on name args all depth) = true
is_multiple v = false

-- where only one value is wanted of one that can give several, it stands in parentheses
abbrev pub as_value : (only_one : Bool) → Value → Wording → Wording
as_value only_one v w = unless (not (only_one && is_multiple v)) w

abbrev pub ends_values : Values → Bool
ends_values no_values = true
ends_values rest = false

abbrev pub ends_items : ItemList → Bool
ends_items no_items = true
ends_items rest = false

abbrev pub separator_before : ItemList → Separator
separator_before no_items = Separator.Missing
separator_before rest = Separator.Comma

abbrev pub with_key : Option Text → Wording → Wording → Wording
with_key None on key = with_index on key
with_key (Some name) on key = with_field on name

abbrev pub as_list : Wordings → ArgumentWording
as_list ws = record { words = argument_list ws.words; levels = ws.levels }

abbrev pub no_wordings : Wordings
no_wordings = record { words = no_expressions; levels = 0 }

abbrev pub and_wording : Wording → Wordings → Wordings
and_wording w ws = record { words = expression w.words ws.words; levels = max w.levels ws.levels }

abbrev pub as_text_argument : Option Text → Option ArgumentWording
as_text_argument None = None
as_text_argument (Some text) = Some (record { words = text_argument text; levels = 0 })

abbrev pub as_table_argument : FieldWording → ArgumentWording
as_table_argument ws = record { words = table_argument ws.words; levels = ws.levels }

-- the short form where it is asked for and there is one
abbrev pub as_arguments : (short : Bool) → Option ArgumentWording → Wordings → ArgumentWording
as_arguments true (Some args) ws = args
as_arguments short args ws = as_list ws

abbrev pub and_item : Wording → Separator → FieldWording → FieldWording
and_item w separator rest = record { words = positional w.words separator rest.words; levels = max w.levels rest.levels }

abbrev pub and_named : Text → Wording → Separator → FieldWording → FieldWording
and_named name w separator rest = record { words = named name w.words separator rest.words; levels = max w.levels rest.levels }

abbrev pub and_key : Wording → Wording → Separator → FieldWording → FieldWording
and_key key w separator rest = record { words = keyed key.words w.words separator rest.words; levels = max (max key.levels w.levels) rest.levels }

abbrev pub and_keyed_item : Option Text → Wording → Wording → Separator → FieldWording → FieldWording
and_keyed_item None key w separator rest = and_key key w separator rest
and_keyed_item (Some name) key w separator rest = and_named name w separator rest

-- ---- values, where so many constants are taken and these functions are left

abbrev mutual
  pub word : Place → ℕ → List (Option Inner) → Value → Wording
  word at n fs nil_value = single (nil_literal 1)
  word at n fs vararg_value = single (vararg_expression 1)
  word at n fs (bool_value b) = truth b
  word at n fs (constant_value k) = constant_word (constant_at at k)
  word at n fs (local_value r) = name_word (local_name at r)
  word at n fs (upvalue_value u) = name_word (upvalue_name at u)
  word at n fs (global_value k) = name_word (constant_name at k)
  word at n fs (index_value on keys depth) = word_keys at (taken_behind on n) (left_by on fs) (as_prefix (word at n fs on)) keys
  word at n fs (binary_value op left right depth) = joined op (word_operand at n fs left) (word_operand at (taken_behind_operand left n) (left_by_operand left fs) right)
  word at n fs (unary_value op of depth) = applied op (word at n fs of)
  word at n fs (concat_value operands depth) = chain (word_each at n fs operands)
  word at n fs (call_value on args all depth) = with_arguments (as_prefix (word at n fs on)) (as_arguments (at.short && not all) (word_short at (taken_behind on n) (left_by on fs) args) (word_values at (taken_behind on n) (left_by on fs) args all))
  word at n fs (method_value on name args all depth) =
      let n' = with_constant (taken_behind on n) name in
      let fs' = left_by on fs in
      with_method (as_prefix (word at n fs on)) (text_or_empty (constant_name at name)) (as_arguments (at.short && not all) (word_short at n' fs' args) (word_values at n' fs' args all))
  word at n fs (table_value items all depth) = with_items (word_items at n fs items all)
  word at n fs (function_value number itself) = function_word (function_left fs number)

  pub word_values : Place → ℕ → List (Option Inner) → Values → (all : Bool) → Wordings
  word_values at n fs no_values all = no_wordings
  word_values at n fs (and_value v rest) all =
      and_wording (as_value (ends_values rest && not all) v (word at n fs v)) (word_values at (taken_behind v n) (left_by v fs) rest all)

  pub word_each : Place → ℕ → List (Option Inner) → Values → List Wording
  word_each at n fs no_values = []
  word_each at n fs (and_value v rest) = word at n fs v ∷ word_each at (taken_behind v n) (left_by v fs) rest

  pub word_operand : Place → ℕ → List (Option Inner) → OperandValue → Wording
  word_operand at n fs (constant_operand k) = constant_word (constant_at at k)
  word_operand at n fs (value_operand v) = unless (is_bare at n v) (word at n fs v)

  pub word_keys : Place → ℕ → List (Option Inner) → Wording → OperandList → Wording
  word_keys at n fs on no_operands = on
  word_keys at n fs on (and_operand key rest) =
      word_keys at (taken_behind_operand key n) (left_by_operand key fs) (with_key (field_name at key) on (word_operand at n fs key)) rest

  pub word_items : Place → ℕ → List (Option Inner) → ItemList → (all : Bool) → FieldWording
  word_items at n fs no_items all = record { words = no_fields; levels = 0 }
  word_items at n fs (and_positional v rest) all =
      and_item (as_value (ends_items rest && not all) v (word at n fs v)) (separator_before rest) (word_items at (taken_behind v n) (left_by v fs) rest all)
  word_items at n fs (and_keyed key item rest) all =
      let n' = taken_behind_operand key n in
      let fs' = left_by_operand key fs in
      and_keyed_item (field_name at key) (word_operand at n fs key) (word_operand at n' fs' item) (separator_before rest) (word_items at (taken_behind_operand item n') (left_by_operand item fs') rest all)

  -- the only argument as one without parentheses, where it is a string or a constructor
  pub word_short : Place → ℕ → List (Option Inner) → Values → Option ArgumentWording
  word_short at n fs (and_value v no_values) = word_only at n fs v
  word_short at n fs args = None

  pub word_only : Place → ℕ → List (Option Inner) → Value → Option ArgumentWording
  word_only at n fs (constant_value k) = as_text_argument (text_at at k)
  word_only at n fs (table_value items all depth) = Some (as_table_argument (word_items at n fs items all))
  word_only at n fs v = None

-- ---- whether a value can be written

abbrev pub operand_count : OperandList → ℕ
operand_count no_operands = 0
operand_count (and_operand o rest) = suc (operand_count rest)

abbrev mutual
  pub can_write : Place → List (Option Inner) → Value → Bool
  can_write at fs (constant_value k) = is_some (constant_at at k)
  can_write at fs (local_value r) = is_some (local_name at r)
  can_write at fs (upvalue_value u) = is_some (upvalue_name at u)
  can_write at fs (global_value k) = is_some (constant_name at k)
  -- a tree has no more than 200 keys one behind the other
  can_write at fs (index_value on keys depth) = nat_le (operand_count keys) 200 && (can_write at fs on && can_write_operands at (left_by on fs) keys)
  can_write at fs (binary_value op left right depth) = can_write_operand at fs left && can_write_operand at (left_by_operand left fs) right
  can_write at fs (unary_value op of depth) = can_write at fs of
  can_write at fs (concat_value operands depth) = not (ends_values operands) && can_write_values at fs operands
  can_write at fs (call_value on args all depth) = can_write at fs on && can_write_values at (left_by on fs) args
  can_write at fs (method_value on name args all depth) = can_write at fs on && (is_some (constant_name at name) && can_write_values at (left_by on fs) args)
  can_write at fs (table_value items all depth) = can_write_items at fs items
  -- a function is used once; one that captures the register that it goes to is that of a `local function`
  can_write at fs (function_value number itself) = not itself && is_some (function_left fs number)
  can_write at fs v = true

  pub can_write_values : Place → List (Option Inner) → Values → Bool
  can_write_values at fs no_values = true
  can_write_values at fs (and_value v rest) = can_write at fs v && can_write_values at (left_by v fs) rest

  pub can_write_operand : Place → List (Option Inner) → OperandValue → Bool
  can_write_operand at fs (constant_operand k) = is_some (constant_at at k)
  can_write_operand at fs (value_operand v) = can_write at fs v

  pub can_write_operands : Place → List (Option Inner) → OperandList → Bool
  can_write_operands at fs no_operands = true
  can_write_operands at fs (and_operand o rest) = can_write_operand at fs o && can_write_operands at (left_by_operand o fs) rest

  pub can_write_items : Place → List (Option Inner) → ItemList → Bool
  can_write_items at fs no_items = true
  can_write_items at fs (and_positional v rest) = can_write at fs v && can_write_items at (left_by v fs) rest
  can_write_items at fs (and_keyed key item rest) =
      let fs' = left_by_operand key fs in
      can_write_operand at fs key && (can_write_operand at fs' item && can_write_items at (left_by_operand item fs') rest)
