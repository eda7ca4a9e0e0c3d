-- Serves a body. What writes values: where it stands, and what comes of writing from there.
use Rattle.std.specs.Prelude.{◌&&◌, not, ℕ, Bool, List, Option, Some, None, if◌then◌else◌}
use Rattle.lua_tree.specs.Syntax.{no_fields}
use Rattle.lua_tree.specs.declared.tree.Separator.{Separator}
use Rattle.core_expr.specs.Counting.{with_constant, taken_behind, taken_behind_values, taken_behind_operand, taken_behind_operands, taken_behind_items, left_by, left_by_values, left_by_operand, left_by_operands, left_by_items}
use Rattle.core_expr.specs.Held.{place_of}
use Rattle.core_expr.specs.Places.{Place, field_name}
use Rattle.core_expr.specs.Values.{Value, Values, OperandValue, OperandList, ItemList, Inner, view_bodies, view_core, view_operand}
use Rattle.core_expr.specs.Writing.{Wording, Wordings, FieldWording, ArgumentWording, word, word_values, word_each, word_operand, word_keys, word_items, word_short, word_only, can_write, can_write_values, can_write_operand, can_write_operands, can_write_items, as_arguments, as_value, and_item, and_keyed_item}
use Rattle.core_expr.specs.declared.cores.CoreItem.{CoreItem, Positional, Keyed}
use Rattle.core_expr.specs.declared.writer.Writer.{Writer}

-- what registers and numbers stand for, how many constants are taken, and which functions are left
pub record Standing : Type 0 where
  pub at : Place
  pub taken : ℕ
  pub left : List (Option Inner)

unfoldable pub view_writer : Writer → Standing
view_writer w = record { at = place_of w.scope.now; taken = w.taken; left = view_bodies w.bodies }

-- ---- where it stands behind something

abbrev pub with_taken : (number : ℕ) → Standing → Standing
with_taken k s = record s { taken = with_constant s.taken k }

abbrev pub behind : Value → Standing → Standing
behind v s = record s { taken = taken_behind v s.taken; left = left_by v s.left }

abbrev pub behind_values : Values → Standing → Standing
behind_values vs s = record s { taken = taken_behind_values vs s.taken; left = left_by_values vs s.left }

abbrev pub behind_operand : OperandValue → Standing → Standing
behind_operand o s = record s { taken = taken_behind_operand o s.taken; left = left_by_operand o s.left }

abbrev pub behind_operands : OperandList → Standing → Standing
behind_operands os s = record s { taken = taken_behind_operands os s.taken; left = left_by_operands os s.left }

abbrev pub behind_items : ItemList → Standing → Standing
behind_items is s = record s { taken = taken_behind_items is s.taken; left = left_by_items is s.left }

-- ---- what is written there

abbrev pub worded : Standing → Value → Wording
worded s v = word s.at s.taken s.left v

abbrev pub worded_values : Standing → Values → (all : Bool) → Wordings
worded_values s vs all = word_values s.at s.taken s.left vs all

abbrev pub worded_each : Standing → Values → List Wording
worded_each s vs = word_each s.at s.taken s.left vs

abbrev pub worded_operand : Standing → OperandValue → Wording
worded_operand s o = word_operand s.at s.taken s.left o

abbrev pub worded_keys : Standing → Wording → OperandList → Wording
worded_keys s on keys = word_keys s.at s.taken s.left on keys

abbrev pub worded_items : Standing → ItemList → (all : Bool) → FieldWording
worded_items s is all = word_items s.at s.taken s.left is all

abbrev pub worded_only : Standing → Value → Option ArgumentWording
worded_only s v = word_only s.at s.taken s.left v

abbrev pub worded_arguments : Standing → Values → (all : Bool) → ArgumentWording
worded_arguments s args all = as_arguments (s.at.short && not all) (word_short s.at s.taken s.left args) (worded_values s args all)

-- ---- whether it can be

abbrev pub can_word : Standing → Value → Bool
can_word s v = can_write s.at s.left v

abbrev pub can_word_values : Standing → Values → Bool
can_word_values s vs = can_write_values s.at s.left vs

abbrev pub can_word_operand : Standing → OperandValue → Bool
can_word_operand s o = can_write_operand s.at s.left o

abbrev pub can_word_operands : Standing → OperandList → Bool
can_word_operands s os = can_write_operands s.at s.left os

abbrev pub can_word_items : Standing → ItemList → Bool
can_word_items s is = can_write_items s.at s.left is

-- ---- an only argument without parentheses, where there is a form of it

-- what is written of it is written, else nothing was
abbrev pub behind_short : Option ArgumentWording → Value → Standing → Standing
behind_short None v s = s
behind_short (Some short) v s = behind v s

-- all arguments so, where that is asked for
abbrev pub worded_short : Standing → Values → (all : Bool) → Option ArgumentWording
worded_short s args all = if s.at.short && not all then word_short s.at s.taken s.left args else None

abbrev pub behind_arguments : Option ArgumentWording → Values → Standing → Standing
behind_arguments None args s = s
behind_arguments (Some short) args s = behind_values args s

-- ---- items one by one

abbrev pub no_field_wording : FieldWording
no_field_wording = record { words = no_fields; levels = 0 }

abbrev pub worded_keyed : Standing → (key item : OperandValue) → Separator → FieldWording
worded_keyed s key item separator = and_keyed_item (field_name s.at key) (worded_operand s key) (worded_operand (behind_operand key s) item) separator no_field_wording

abbrev pub worded_item : Standing → (only_one : Bool) → CoreItem → Separator → FieldWording
worded_item s only_one (Positional c) separator = and_item (as_value only_one (view_core c) (worded s (view_core c))) separator no_field_wording
worded_item s only_one (Keyed key item) separator = worded_keyed s (view_operand key) (view_operand item) separator

abbrev pub behind_item : CoreItem → Standing → Standing
behind_item (Positional c) s = behind (view_core c) s
behind_item (Keyed key item) s = behind_operand (view_operand item) (behind_operand (view_operand key) s)

abbrev pub can_word_keyed : Standing → (key item : OperandValue) → Bool
can_word_keyed s key item = can_word_operand s key && can_word_operand (behind_operand key s) item

abbrev pub can_word_item : Standing → CoreItem → Bool
can_word_item s (Positional c) = can_word s (view_core c)
can_word_item s (Keyed key item) = can_word_keyed s (view_operand key) (view_operand item)
