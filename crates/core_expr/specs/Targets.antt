-- Serves a body. How targets and comparisons are written, and the paths of function statements.
use Rattle.std.specs.Prelude.{◌&&◌, ◌||◌, not, ℕ, ◌-◌, Bool, true, false, nat_le, nat_lt, ◌==◌, List, [], ◌∷◌, ◌++◌, length, Option, Some, None, is_some, if◌then◌else◌}
use Rattle.lua_num.specs.Bytes.{Text}
use Rattle.lua_tree.specs.declared.tree.BinaryOp.{BinaryOp}
use Rattle.core_expr.specs.declared.writing.Target.{Target}
use Rattle.core_expr.specs.declared.writing.Comparison as declared
use Rattle.core_expr.specs.Values.{Value, index_value, OperandValue, OperandList, no_operands, and_operand, Inner, view_core, view_operand}
use Rattle.core_expr.specs.Places.{Place, local_name, upvalue_name, constant_name, field_name, is_variable, variable_name}
use Rattle.core_expr.specs.Counting.{taken_behind, taken_behind_operand, left_by, left_by_operand}
use Rattle.core_expr.specs.Writing.{Wording, word, word_operand, name_word, as_prefix, with_key, joined, text_or_empty, can_write, can_write_operand}

-- ---- what is assigned to; the name of a global is taken by its store, behind the values

pub data TargetValue : Type 0 where
  local_target upvalue_target global_target : ℕ → TargetValue
  index_target : (on : Value) → (key : OperandValue) → TargetValue

abbrev pub view_target : Target → TargetValue
view_target (Target.Local r) = local_target r
view_target (Target.Upvalue u) = upvalue_target u
view_target (Target.Global k) = global_target k
view_target (Target.Index on key) = index_target (view_core on) (view_operand key)

abbrev pub word_target : Place → ℕ → List (Option Inner) → TargetValue → Wording
word_target at n fs (local_target r) = name_word (local_name at r)
word_target at n fs (upvalue_target u) = name_word (upvalue_name at u)
word_target at n fs (global_target k) = name_word (constant_name at k)
word_target at n fs (index_target on key) = with_key (field_name at key) (as_prefix (word at n fs on)) (word_operand at (taken_behind on n) (left_by on fs) key)

abbrev pub taken_behind_target : TargetValue → ℕ → ℕ
taken_behind_target (index_target on key) n = taken_behind_operand key (taken_behind on n)
taken_behind_target target n = n

abbrev pub left_by_target : TargetValue → List (Option Inner) → List (Option Inner)
left_by_target (index_target on key) fs = left_by_operand key (left_by on fs)
left_by_target target fs = fs

abbrev pub can_write_target : Place → List (Option Inner) → TargetValue → Bool
can_write_target at fs (local_target r) = is_some (local_name at r)
can_write_target at fs (upvalue_target u) = is_some (upvalue_name at u)
can_write_target at fs (global_target k) = is_some (constant_name at k)
can_write_target at fs (index_target on key) = can_write at fs on && can_write_operand at (left_by on fs) key

-- ---- comparisons: a word has them in the order of `<`, so which operand was written first shows only in the registers and constants that they took

-- its operator, its two fields, and the operands in them
pub record Comparison : Type 0 where
  pub op : BinaryOp
  pub b : ℕ
  pub c : ℕ
  pub left : OperandValue
  pub right : OperandValue

abbrev pub view_comparison : declared.Comparison → Comparison
view_comparison c = record { op = c.op; b = c.b; c = c.c; left = view_operand c.left; right = view_operand c.right }

abbrev pub has_mirror : BinaryOp → Bool
has_mirror BinaryOp.Lt = true
has_mirror BinaryOp.Le = true
has_mirror op = false

abbrev pub mirrored : BinaryOp → BinaryOp
mirrored BinaryOp.Lt = BinaryOp.Gt
mirrored BinaryOp.Le = BinaryOp.Ge
mirrored op = op

-- a field of a word is a register below 256, else a constant
abbrev pub is_constant_field : ℕ → Bool
is_constant_field field = nat_le 256 field

-- a constant that is taken next has no number above the count of those taken, and one behind it no lower one; a constant stands on the right where that makes the same words, but one that takes the last number that a field has is written first, since what is behind it may take a number that shows in no word; of two values that were made here the lower register has the first
abbrev pub swapped_fields : (base taken b c : ℕ) → (left right : OperandValue) → (b_constant c_constant : Bool) → Bool
swapped_fields base n b c left right true true = nat_lt n (b - 256) || ((c - 256 == n) && nat_lt (b - 256) n)
swapped_fields base n b c left right true false = not (b - 256 == n) || (not (n == 255) && taken_behind_operand right n == n)
swapped_fields base n b c left right false true = (c - 256 == n) && ((n == 255) || nat_lt n (taken_behind_operand left n))
swapped_fields base n b c left right false false = not (nat_lt b base) && (not (nat_lt c base) && nat_lt c b)

-- whether it was written as `>` or `>=`, with its operands the other way round
abbrev pub is_swapped : (base taken : ℕ) → Comparison → Bool
is_swapped base n c = has_mirror c.op && swapped_fields base n c.b c.c c.left c.right (is_constant_field c.b) (is_constant_field c.c)

abbrev pub word_both : Place → ℕ → List (Option Inner) → BinaryOp → (first second : OperandValue) → Wording
word_both at n fs op first second = joined op (word_operand at n fs first) (word_operand at (taken_behind_operand first n) (left_by_operand first fs) second)

abbrev pub can_write_both : Place → List (Option Inner) → (first second : OperandValue) → Bool
can_write_both at fs first second = can_write_operand at fs first && can_write_operand at (left_by_operand first fs) second

abbrev pub word_comparison : Place → ℕ → List (Option Inner) → Comparison → Wording
word_comparison at n fs c =
    if is_swapped (length at.entries) n c
    then word_both at n fs (mirrored c.op) c.right c.left
    else word_both at n fs c.op c.left c.right

abbrev pub left_by_comparison : Place → ℕ → List (Option Inner) → Comparison → List (Option Inner)
left_by_comparison at n fs c =
    if is_swapped (length at.entries) n c
    then left_by_operand c.left (left_by_operand c.right fs)
    else left_by_operand c.right (left_by_operand c.left fs)

abbrev pub can_write_comparison : Place → ℕ → List (Option Inner) → Comparison → Bool
can_write_comparison at n fs c =
    if is_swapped (length at.entries) n c
    then can_write_both at fs c.right c.left
    else can_write_both at fs c.left c.right

-- ---- the path of a function statement: a variable, with names alone behind it

abbrev pub are_fields : Place → OperandList → Bool
are_fields at no_operands = true
are_fields at (and_operand key rest) = is_some (field_name at key) && are_fields at rest

abbrev pub field_names : Place → OperandList → List Text
field_names at no_operands = []
field_names at (and_operand key rest) = text_or_empty (field_name at key) ∷ field_names at rest

-- a value with keys behind it, and then one more
abbrev pub is_long_path : Place → Value → OperandList → OperandValue → Bool
is_long_path at on keys key = is_variable on && (are_fields at keys && is_some (field_name at key))

abbrev pub long_path : Place → Value → OperandList → OperandValue → Option (List Text)
long_path at on keys key =
    if is_long_path at on keys key
    then Some (text_or_empty (variable_name at on) ∷ field_names at keys ++ (text_or_empty (field_name at key) ∷ []))
    else None

abbrev pub field_path : Place → Value → OperandValue → Option (List Text)
field_path at (index_value on keys depth) key = long_path at on keys key
field_path at on key = long_path at on no_operands key

abbrev pub has_long_path : Place → Value → OperandList → OperandValue → Bool
has_long_path at on keys key = not (is_long_path at on keys key) || is_some (variable_name at on)

abbrev pub has_field_path : Place → Value → OperandValue → Bool
has_field_path at (index_value on keys depth) key = has_long_path at on keys key
has_field_path at on key = has_long_path at on no_operands key

-- the path that says a target, if one does
abbrev pub path_of : Place → TargetValue → Option (List Text)
path_of at (local_target r) = Some (text_or_empty (local_name at r) ∷ [])
path_of at (upvalue_target u) = Some (text_or_empty (upvalue_name at u) ∷ [])
path_of at (global_target k) = Some (text_or_empty (constant_name at k) ∷ [])
path_of at (index_target on key) = field_path at on key

-- the variable in it has a name
abbrev pub can_have_path : Place → TargetValue → Bool
can_have_path at (local_target r) = is_some (local_name at r)
can_have_path at (upvalue_target u) = is_some (upvalue_name at u)
can_have_path at (global_target k) = is_some (constant_name at k)
can_have_path at (index_target on key) = has_field_path at on key
