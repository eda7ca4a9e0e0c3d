-- Serves the bodies. What the program hands on of a loop and of an `if`, in the words of the definitions.
use Rattle.std.specs.Prelude.{ℕ, ◌+◌, Bool, List, length, Option, Some, None}
use Rattle.lua_tree.specs.View.{view_block, view_exp, view_kind}
use Rattle.lua_tree.specs.declared.tree.Exp.{Exp}
use Rattle.lua_tree.specs.declared.tree.Arm.{Arm, Arm'}
use Rattle.lua_tree.specs.declared.tree.Block.{Block}
use Rattle.scheme.specs.Making.{◌>>=◌, ◌>>◌, Part, nothing, put, new_label, place, jump_to, used, activate, end_locals}
use Rattle.scheme.specs.Expressions.{Coded}
use Rattle.scheme.specs.Statements.{Loop, block_part, arm_part, numeric_names, generic_names, turn}
use Rattle.scheme.specs.declared.making.Local.{Local}
use Rattle.scheme.specs.declared.making.Piece.{Piece}
use Rattle.opcode.specs.declared.op.Op.{Op}
use Rattle.scheme.specs.Scheme.{coded, statements_made}
use Rattle.codegen.specs.declared.locals.Around.{Around}

abbrev pub loop_of : Option Around → Option Loop
loop_of None = None
loop_of (Some around) = Some (record { exit = around.exit; before = around.before })

abbrev pub step_of : Option Exp → Option Coded
step_of None = None
step_of (Some e) = Some (coded (view_exp e))

-- the block behind `else`, where there is one
abbrev pub last_made : Option Block → (line : ℕ) → Option Loop → Part
last_made None line loop = nothing
last_made (Some block) line loop = block_part line (statements_made (view_block block) loop)

-- the words of an arm
abbrev pub arm_made : (line end : ℕ) → (more : Bool) → Arm → Option Loop → Part
arm_made line end more (Arm' l k block) loop = arm_part line end more (coded (view_kind k l)) (statements_made (view_block block) loop)

-- a numeric `for` behind its values, which are at base
abbrev pub numeric_made : (line base n : ℕ) → List Local → (Option Loop → Part) → Part
numeric_made line base n variables body = do
  activate numeric_names
  begin ← new_label
  end ← new_label
  exit ← new_label
  put line (Piece.Jump Op.ForPrep base end)
  place begin
  turn line base variables (body (Some (record { exit = exit; before = n })))
  place end
  put line (Piece.Jump Op.ForLoop base begin)
  place exit
  end_locals n

-- a generic `for` behind its values, which are at base, with so many variables
abbrev pub generic_counted : (line base n : ℕ) → List Local → (count : ℕ) → (Option Loop → Part) → Part
generic_counted line base n variables count body = do
  activate generic_names
  begin ← new_label
  end ← new_label
  exit ← new_label
  jump_to line end
  place begin
  used (base + 6)
  turn line base variables (body (Some (record { exit = exit; before = n })))
  place end
  put line (Piece.Abc Op.TForLoop base 0 count)
  jump_to line begin
  place exit
  end_locals n

abbrev pub generic_made : (line base n : ℕ) → List Local → (Option Loop → Part) → Part
generic_made line base n variables body = generic_counted line base n variables (length variables) body
