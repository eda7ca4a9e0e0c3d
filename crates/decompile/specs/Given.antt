-- Serves a body. Which trees are those of a source of a chunk.
use Rattle.std.specs.Prelude.{◌≡◌, Some}
use Rattle.lua_num.specs.Bytes.{Text}
use Rattle.lua_tree.specs.Scoping.{Scoped}
use Rattle.lua_tree.specs.Syntax.{Source}
use Rattle.lua_tree.specs.WellFormed.{WellFormed}
use Rattle.proto.specs.Chunk.{Chunk, own, SameButLines}
use Rattle.scheme.specs.Scheme.{scheme, Fits}

-- it keeps every rule, and its chunk under the chunk's own source name is this, but for the numbers of lines
pub record IsTreeFor (chunk : Chunk) (source : Source) : Type 0 where
  pub formed : WellFormed source
  pub scoped : Scoped source
  pub fits : Fits source
  pub name : Text
  pub named : (own chunk).source ≡ Some name
  pub same : SameButLines chunk (scheme source name)
