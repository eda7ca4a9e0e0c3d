-- Serves the laws. Sources that come back from their chunks, part by part: statements with blocks stand in them, and in the functions in them, at any depth.
use Rattle.std.specs.Prelude.{◌≡◌, ◌≤◌, ℕ, true, false, []}
use Rattle.lua_num.specs.Bytes.{Text}
use Rattle.lua_tree.specs.Scoping.{Scoped}
use Rattle.lua_tree.specs.Syntax.{Source}
use Rattle.lua_tree.specs.WellFormed.{WellFormed}
use Rattle.proto.specs.Chunk.{Chunk, SameButLines}
use Rattle.scheme.specs.Scheme.{scheme, Fits}
use Rattle.scheme_order.specs.Ordered.{ordered_block}
use Rattle.same_flow.specs.Blocks.{StatementsHold}
use Rattle.same_flow.specs.Space.{around_body, space_of_statements}
use Rattle.reads_back.specs.Flows.{IsFlowBody, IsFlowPartBy}

-- the chunk of such a source that keeps every rule, under some name, but for the numbers of lines, and has room
pub record IsFlowChunk (chunk : Chunk) : Type 0 where
  pub source : Source
  pub name : Text
  pub formed : WellFormed source
  pub scoped : Scoped source
  pub fits : Fits source
  pub deep : ℕ
  pub blocks : StatementsHold (IsFlowPartBy (IsFlowBody deep)) false source.body
  pub ordered : ordered_block [] source.body ≡ true
  pub room : around_body source.body (space_of_statements source.body) ≤ 200
  pub same : SameButLines chunk (scheme source name)
