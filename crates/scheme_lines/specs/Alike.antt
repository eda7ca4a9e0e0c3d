-- To be believed. What two sources have in common that differ in the numbers of lines, and in semicolons after statements, alone.
use Rattle.std.specs.Prelude.{◌≡◌}
use Rattle.lua_num.specs.Bytes.{Text}
use Rattle.lua_tree.specs.OneLine.{on_one_line}
use Rattle.lua_tree.specs.Scoping.{Scoped}
use Rattle.lua_tree.specs.Syntax.{Source}
use Rattle.proto.specs.Chunk.{SameButLines}
use Rattle.scheme.specs.Scheme.{scheme, Fits}
use Rattle.scheme_lines.specs.Bare.{bare}

-- where the one keeps the rules of scoping, and the limits of a chunk, so does the other; and under a name their chunks are the same but for the numbers of lines
pub record AreAlike (a b : Source) : Type 0 where
  pub scoped : Scoped a → Scoped b
  pub fits : Fits a → Fits b
  pub same : (name : Text) → SameButLines (scheme a name) (scheme b name)

abbrev pub LinesDoNotMatter : Type 0
LinesDoNotMatter = (a b : Source) → on_one_line a ≡ on_one_line b → AreAlike a b

-- nor do semicolons after statements
abbrev pub SemicolonsDoNotMatter : Type 0
SemicolonsDoNotMatter = (a b : Source) → bare a ≡ bare b → AreAlike a b
