-- Serves the laws. What stands of a statement in its step, and what a function that is read tells.
use Rattle.std.specs.Prelude.{◌≡◌, ◌==◌, not, Bool, length}
use Rattle.lua_tree.specs.Syntax.{Statement, return_statement}
use Rattle.proto.specs.Chunk.{Own}
use Rattle.recover_expr.specs.Drafts.{Part, statement_part, values_part}

-- what stands of a statement in its step
abbrev pub part_of : Statement → Part
part_of (return_statement es) = values_part es
part_of s = statement_part s

-- the line of each word and the name of each upvalue are told
pub record IsTold (f : Own) : Type 0 where
  pub lines : length f.lines ≡ length f.code
  pub names : length f.upvalue_names ≡ f.upvalues

-- it takes further arguments
abbrev pub is_vararg : Own → Bool
is_vararg f = not (f.flags == 0)
