-- Serves the bodies. Parts of the program's trees as the definitions have them.
use Rattle.std.specs.Prelude.{ℕ, max, Option, Some, None}
use Rattle.lua_tree.specs.Syntax.{Expression, Statements, ForStep, no_step, by_step}
use Rattle.lua_tree.specs.View.{view_exp, view_block}
use Rattle.std.specs.declared.alloc.Global.{Global}
use Rattle.std.specs.declared.boxed.Box.{Box}
use Rattle.lua_tree.specs.declared.tree.Exp.{Exp}
use Rattle.lua_tree.specs.declared.tree.Arm.{Arm, Arm'}
use Rattle.lua_tree.specs.View.{view_kind}
use Rattle.lua_tree.specs.WellFormed.{depth_of_expression}
use Rattle.lua_tree.specs.Spelled.{Field, positional_field, named_field, keyed_field}
use Rattle.lua_tree.specs.declared.tree.ItemKind.{ItemKind, Positional', Named', Keyed'}

abbrev pub field_of : ItemKind → Field
field_of (Positional' l k) = positional_field (view_kind k l)
field_of (Named' n l k) = named_field n (view_kind k l)
field_of (Keyed' l k l' k') = keyed_field (view_kind k l) (view_kind k' l')

abbrev pub depth_of_field : Field → ℕ
depth_of_field (positional_field e) = depth_of_expression e
depth_of_field (named_field name e) = depth_of_expression e
depth_of_field (keyed_field key e) = max (depth_of_expression key) (depth_of_expression e)

abbrev pub step_of : Option (Box Exp Global) → ForStep
step_of None = no_step
step_of (Some e) = by_step (view_exp e.value)

-- a literal, where there is one
abbrev pub literal_view : Option (Box Exp Global) → Option Expression
literal_view None = None
literal_view (Some e) = Some (view_exp e.value)

-- the condition and the block of an arm
abbrev pub cond_of : Arm → Expression
cond_of (Arm' l k b) = view_kind k l

abbrev pub inside_of : Arm → Statements
inside_of (Arm' l k b) = view_block b
