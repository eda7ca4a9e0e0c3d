-- To be believed. Plain sources that come back from their chunks.
use Rattle.std.specs.Prelude.{◌≤◌}
use Rattle.lua_num.specs.Bytes.{Text}
use Rattle.lua_tree.specs.Scoping.{Scoped}
use Rattle.lua_tree.specs.Syntax.{Source}
use Rattle.lua_tree.specs.WellFormed.{WellFormed}
use Rattle.proto.specs.Chunk.{Chunk, SameButLines}
use Rattle.scheme.specs.Scheme.{scheme, Fits}
use Rattle.scheme.specs.Shapes.{Plain}
use Rattle.same_flow.specs.Space.{around_body, space_of_statements}
use Rattle.recovers.specs.FlowSources.{IsFlowChunk}

-- the chunk of such a source that keeps every rule, under some name, but for the numbers of lines, and has room
pub record IsPlainChunk (chunk : Chunk) : Type 0 where
  pub source : Source
  pub name : Text
  pub formed : WellFormed source
  pub scoped : Scoped source
  pub fits : Fits source
  pub plain : Plain source
  pub room : around_body source.body (space_of_statements source.body) ≤ 200
  pub same : SameButLines chunk (scheme source name)

-- it is that of a source whose parts are such as come back
abbrev pub PlainSourcesAreFlow : Type 0
PlainSourcesAreFlow = (chunk : Chunk) → IsPlainChunk chunk → IsFlowChunk chunk
