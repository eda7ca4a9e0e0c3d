-- Serves a body. What registers and numbers stand for where a value is written.
use Rattle.std.specs.Prelude.{ℕ, Bool, true, false, nat_le, List, slice_get, Option, Some, None, if◌then◌else◌}
use Rattle.lua_num.specs.Bytes.{Text}
use Rattle.proto.specs.Chunk.{Own}
use Rattle.proto.specs.declared.parts.Constant.{Constant}
use Rattle.proto.specs.declared.parts.LocVar.{LocVar}
use Rattle.lua_tree.specs.Names.{is_name}
use Rattle.core_expr.specs.Values.{Value, constant_value, local_value, upvalue_value, global_value, OperandValue, constant_operand, value_operand}

-- the function; the entry of its locals in each register; whether calls of one string or constructor are written without parentheses
pub record Place : Type 0 where
  pub of : Own
  pub entries : List ℕ
  pub short : Bool

abbrev pub constant_at : Place → ℕ → Option Constant
constant_at at k = slice_get at.of.constants k

abbrev pub as_text : Option Constant → Option Text
as_text (Some (Constant.Text text)) = Some text
as_text constant = None

abbrev pub as_name : Option Text → Option Text
as_name None = None
as_name (Some text) = if is_name text then Some text else None

abbrev pub text_at : Place → ℕ → Option Text
text_at at k = as_text (constant_at at k)

abbrev pub constant_name : Place → ℕ → Option Text
constant_name at k = as_name (text_at at k)

abbrev pub name_of_local : Option LocVar → Option Text
name_of_local None = None
name_of_local (Some local) = as_name (Some local.name)

abbrev pub name_of_entry : Place → Option ℕ → Option Text
name_of_entry at None = None
name_of_entry at (Some entry) = name_of_local (slice_get at.of.locals entry)

abbrev pub local_name : Place → ℕ → Option Text
local_name at r = name_of_entry at (slice_get at.entries r)

abbrev pub upvalue_name : Place → ℕ → Option Text
upvalue_name at u = as_name (slice_get at.of.upvalue_names u)

-- the number of the constant that a key is, where a field has the same words: a name goes to a register where its number is above 255, and not else
abbrev pub field_number : OperandValue → Option ℕ
field_number (constant_operand k) = Some k
field_number (value_operand (constant_value k)) = if nat_le k 255 then None else Some k
field_number operand = None

abbrev pub name_of_number : Place → Option ℕ → Option Text
name_of_number at None = None
name_of_number at (Some k) = constant_name at k

-- the name of a key that is written as a field
abbrev pub field_name : Place → OperandValue → Option Text
field_name at key = name_of_number at (field_number key)

abbrev pub place : Own → List ℕ → Bool → Place
place f entries short = record { of = f; entries = entries; short = short }

-- a value that is a variable, and its name
abbrev pub is_variable : Value → Bool
is_variable (local_value r) = true
is_variable (upvalue_value u) = true
is_variable (global_value k) = true
is_variable v = false

abbrev pub variable_name : Place → Value → Option Text
variable_name at (local_value r) = local_name at r
variable_name at (upvalue_value u) = upvalue_name at u
variable_name at (global_value k) = constant_name at k
variable_name at v = None
