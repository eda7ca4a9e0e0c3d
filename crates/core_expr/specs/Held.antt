-- Serves a body. What the private functions hold and give, as plain data.
use Rattle.std.specs.Prelude.{◌||◌, ◌&&◌, ℕ, max, Bool, true, false, List, [], ◌∷◌, Option, Some, None}
use Rattle.lua_num.specs.Bytes.{Text}
use Rattle.lua_tree.specs.Joins.{join_expressions, join_fields}
use Rattle.lua_tree.specs.Precedence.{binds, is_unary}
use Rattle.lua_tree.specs.Syntax.{no_expressions, expression, Fields, no_fields, positional, named, keyed, Expression}
use Rattle.lua_tree.specs.View.{view_args, view_exp, view_items}
use Rattle.lua_tree.specs.declared.tree.BinaryOp.{BinaryOp}
use Rattle.lua_tree.specs.declared.tree.Separator.{Separator}
use Rattle.proto.specs.Chunk.{own}
use Rattle.proto.specs.View.{view_proto}
use Rattle.core_expr.specs.Counting.{taken_behind, taken_behind_operand}
use Rattle.core_expr.specs.Making.{depth_of, depth_of_operand}
use Rattle.core_expr.specs.Places.{Place, place, local_name, upvalue_name, constant_name}
use Rattle.core_expr.specs.Values.{Value, view_core, view_operand, local_value, upvalue_value, global_value}
use Rattle.core_expr.specs.Writing.{Wording, Wordings, ArgumentWording, FieldWording, on_left, with_binary}
use Rattle.core_expr.specs.declared.cores.CoreItem.{CoreItem, Positional, Keyed}
use Rattle.core_expr.specs.declared.nodes.WrittenArgs.{WrittenArgs}
use Rattle.core_expr.specs.declared.nodes.WrittenItem.{WrittenItem}
use Rattle.core_expr.specs.declared.nodes.WrittenItems.{WrittenItems}
use Rattle.core_expr.specs.declared.nodes.WrittenKey.{WrittenKey}
use Rattle.core_expr.specs.declared.scope.Scope.{Scope}
use Rattle.core_expr.specs.declared.scope.Variable.{Variable}

abbrev pub place_of : Scope → Place
place_of scope = place (own (view_proto scope.proto.now)) scope.entries.now scope.short

abbrev pub name_of : Place → Variable → Option Text
name_of at (Variable.Local r) = local_name at r
name_of at (Variable.Upvalue u) = upvalue_name at u
name_of at (Variable.Global k) = constant_name at k

abbrev pub variable_of : Value → Option Variable
variable_of (local_value r) = Some (Variable.Local r)
variable_of (upvalue_value u) = Some (Variable.Upvalue u)
variable_of (global_value k) = Some (Variable.Global k)
variable_of v = None

-- ---- what is written so far, and one more behind it

abbrev pub wordings_with : Wordings → Wording → Wordings
wordings_with ws w = record { words = join_expressions ws.words (expression w.words no_expressions); levels = max ws.levels w.levels }

abbrev pub view_written_args : WrittenArgs → ArgumentWording
view_written_args args = record { words = view_args args.args; levels = args.levels }

abbrev pub view_written_items : WrittenItems → FieldWording
view_written_items items = record { words = view_items items.items; levels = items.levels }

-- a comma stands where others follow
abbrev pub separator_of : (is_last : Bool) → Separator
separator_of true = Separator.Missing
separator_of false = Separator.Comma

-- an item alone
abbrev pub with_item_key : WrittenKey → Expression → Separator → Fields
with_item_key WrittenKey.Position value separator = positional value separator no_fields
with_item_key (WrittenKey.Name name) value separator = named name value separator no_fields
with_item_key (WrittenKey.Value key) value separator = keyed (view_exp key.value) value separator no_fields

abbrev pub view_written_item : WrittenItem → Separator → FieldWording
view_written_item item separator = record { words = with_item_key item.key (view_exp item.value.value) separator; levels = item.levels }

abbrev pub join_wordings : FieldWording → FieldWording → FieldWording
join_wordings ws more = record { words = join_fields ws.words more.words; levels = max ws.levels more.levels }

-- how deep the deepest part of an item is
abbrev pub depth_of_item : CoreItem → ℕ
depth_of_item (Positional c) = depth_of (view_core c)
depth_of_item (Keyed key item) = max (depth_of_operand (view_operand key)) (depth_of_operand (view_operand item))

-- so many constants are taken behind an item
abbrev pub taken_behind_item : CoreItem → ℕ → ℕ
taken_behind_item (Positional c) n = taken_behind (view_core c) n
taken_behind_item (Keyed key item) n = taken_behind_operand (view_operand item) (taken_behind_operand (view_operand key) n)

-- ---- operators

-- whether an operand stands bare beside an operator of a level: on its right a unary one always does
abbrev pub stands_bare : (level : ℕ) → (is_right takes_equal : Bool) → Expression → Bool
stands_bare level is_right takes_equal e = (is_right && is_unary e) || binds level takes_equal e

-- operands before a chain, the last one next to it
abbrev pub chained_before : List Wording → Wording → Wording
chained_before [] chain = chain
chained_before (w ∷ ws) chain = with_binary BinaryOp.Concat (on_left BinaryOp.Concat w) (chained_before ws chain)
