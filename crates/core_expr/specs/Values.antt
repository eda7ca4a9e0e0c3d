-- Serves a body. Values as words make them, as plain data.
use Rattle.std.specs.Prelude.{ℕ, Bool, List, [], ◌∷◌, Option, Some, None, map}
use Rattle.lua_tree.specs.Syntax.{FunctionBody}
use Rattle.lua_tree.specs.View.{view_body}
use Rattle.lua_tree.specs.declared.tree.BinaryOp.{BinaryOp}
use Rattle.lua_tree.specs.declared.tree.UnaryOp.{UnaryOp}
use Rattle.core_expr.specs.declared.cores.Core.{Core, Nil, Bool as Truth, Constant, Local, Upvalue, Global, Vararg, Index', Binary', Unary', Concat', Call', Method', Table', Function, Row_of-Operand, end_of-Operand, more_of-Operand, Row_of-Core, end_of-Core, more_of-Core, Row_of-CoreItem, end_of-CoreItem, more_of-CoreItem}
use Rattle.core_expr.specs.declared.cores.CoreItem.{CoreItem, Positional, Keyed}
use Rattle.core_expr.specs.declared.cores.Operand.{Operand, Constant as ConstantOperand, Value as ValueOperand}
use Rattle.core_expr.specs.declared.cores.Cores.{Cores, out-Cores}
use Rattle.core_expr.specs.declared.cores.Operands.{Operands, out-Operands}
use Rattle.core_expr.specs.declared.cores.CoreItems.{CoreItems, out-CoreItems}
use Rattle.core_expr.specs.declared.bodies.Bodies.{Bodies}
use Rattle.core_expr.specs.declared.bodies.Recovered.{Recovered}

mutual
  -- locals stand for their registers; constants, upvalues and functions for their numbers; what has parts knows how deep it is
  pub data Value : Type 0 where
    nil_value vararg_value : Value
    bool_value : Bool → Value
    constant_value local_value upvalue_value global_value : ℕ → Value
    -- with keys behind it
    index_value : Value → OperandList → (depth : ℕ) → Value
    binary_value : BinaryOp → OperandValue → OperandValue → (depth : ℕ) → Value
    unary_value : UnaryOp → Value → (depth : ℕ) → Value
    concat_value : Values → (depth : ℕ) → Value
    -- with its arguments, and whether the last one gives all its values
    call_value : Value → Values → Bool → (depth : ℕ) → Value
    -- the name is a number among the constants
    method_value : Value → (name : ℕ) → Values → Bool → (depth : ℕ) → Value
    -- and whether the last item gives all its values
    table_value : ItemList → Bool → (depth : ℕ) → Value
    -- whether it captures the register that it goes to
    function_value : ℕ → Bool → Value

  pub data Values : Type 0 where
    no_values : Values
    and_value : Value → Values → Values

  -- a constant that stands in a word, or a value
  pub data OperandValue : Type 0 where
    constant_operand : ℕ → OperandValue
    value_operand : Value → OperandValue

  pub data OperandList : Type 0 where
    no_operands : OperandList
    and_operand : OperandValue → OperandList → OperandList

  pub data ItemList : Type 0 where
    no_items : ItemList
    and_positional : Value → ItemList → ItemList
    and_keyed : (key item : OperandValue) → ItemList → ItemList

abbrev mutual
  pub view_core : Core → Value
  view_core Nil = nil_value
  view_core (Truth b) = bool_value b
  view_core (Constant k) = constant_value k
  view_core (Local r) = local_value r
  view_core (Upvalue u) = upvalue_value u
  view_core (Global k) = global_value k
  view_core Vararg = vararg_value
  view_core (Index' p on m row depth) = index_value (view_core on) (view_operands row) depth
  view_core (Binary' op p left q right depth) = binary_value op (view_operand left) (view_operand right) depth
  view_core (Unary' op p of depth) = unary_value op (view_core of) depth
  view_core (Concat' m row depth) = concat_value (view_cores row) depth
  view_core (Call' p on m row all depth) = call_value (view_core on) (view_cores row) all depth
  view_core (Method' p on name m row all depth) = method_value (view_core on) name (view_cores row) all depth
  view_core (Table' m row all depth) = table_value (view_items row) all depth
  view_core (Function n itself) = function_value n itself

  pub view_cores : {m : _} → Row_of-Core m → Values
  view_cores end_of-Core = no_values
  view_cores (more_of-Core c rest) = and_value (view_core c) (view_cores rest)

  pub view_operand : Operand → OperandValue
  view_operand (ConstantOperand k) = constant_operand k
  view_operand (ValueOperand c) = value_operand (view_core c)

  pub view_operands : {m : _} → Row_of-Operand m → OperandList
  view_operands end_of-Operand = no_operands
  view_operands (more_of-Operand o rest) = and_operand (view_operand o) (view_operands rest)

  pub view_items : {m : _} → Row_of-CoreItem m → ItemList
  view_items end_of-CoreItem = no_items
  view_items (more_of-CoreItem i rest) = view_item i (view_items rest)

  pub view_item : CoreItem → ItemList → ItemList
  view_item (Positional c) rest = and_positional (view_core c) rest
  view_item (Keyed k o) rest = and_keyed (view_operand k) (view_operand o) rest

abbrev pub values_of : List Core → Values
values_of [] = no_values
values_of (c ∷ cs) = and_value (view_core c) (values_of cs)

abbrev pub operands_of : List Operand → OperandList
operands_of [] = no_operands
operands_of (o ∷ os) = and_operand (view_operand o) (operands_of os)

abbrev pub items_of : List CoreItem → ItemList
items_of [] = no_items
items_of (i ∷ is) = view_item i (items_of is)

abbrev pub view_core_list : Cores → Values
view_core_list cores = values_of (out-Cores cores).cores.items

abbrev pub view_operand_list : Operands → OperandList
view_operand_list operands = operands_of (out-Operands operands).operands.items

abbrev pub view_item_list : CoreItems → ItemList
view_item_list items = items_of (out-CoreItems items).items.items

-- a function as source, and how many levels the statements in it need
pub record Inner : Type 0 where
  pub body : FunctionBody
  pub levels : ℕ

abbrev pub view_recovered : Recovered → Inner
view_recovered r = record { body = view_body r.body; levels = r.levels }

abbrev pub view_left : Option Recovered → Option Inner
view_left None = None
view_left (Some r) = Some (view_recovered r)

-- the functions that were not used yet, by their numbers
abbrev pub view_bodies : Bodies → List (Option Inner)
view_bodies b = map view_left b.bodies.items
