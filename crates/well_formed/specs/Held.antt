-- Serves a body. Parts of a tree that others hold, as the program has them.
use Rattle.std.specs.Prelude.{◌&&◌, ℕ, Bool, true, Option, None, Some}
use Rattle.lua_tree.specs.Names.{is_name}
use Rattle.lua_tree.specs.View.{view_exp, view_block, view_kind}
use Rattle.lua_tree.specs.declared.tree.Arm.{Arm, Arm'}
use Rattle.lua_tree.specs.declared.tree.Block.{Block}
use Rattle.lua_tree.specs.declared.tree.Exp.{Exp}
use Rattle.lua_tree.specs.declared.tree.ItemKind.{ItemKind, Positional', Named', Keyed'}
use Rattle.well_formed.specs.Within.{statements_within, expression_within}

abbrev pub arm_within : ℕ → Arm → Bool
arm_within n (Arm' line kind block) = expression_within n (view_kind kind line) && statements_within n (view_block block)

abbrev pub last_within : ℕ → Option Block → Bool
last_within n None = true
last_within n (Some block) = statements_within n (view_block block)

abbrev pub step_is_within : ℕ → Option Exp → Bool
step_is_within n None = true
step_is_within n (Some exp) = expression_within n (view_exp exp)

-- without what separates it from the next
abbrev pub item_within : ℕ → ItemKind → Bool
item_within n (Positional' line kind) = expression_within n (view_kind kind line)
item_within n (Named' name line kind) = is_name name && expression_within n (view_kind kind line)
item_within n (Keyed' line kind value_line value) = expression_within n (view_kind kind line) && expression_within n (view_kind value value_line)
