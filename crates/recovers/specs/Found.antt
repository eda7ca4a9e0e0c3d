-- To be believed. What is recovered of a chunk whose source it has: a tree that is alike to the source, whatever the search takes; and nothing is lost in the forms of fewest levels.
use Rattle.std.specs.Prelude.{◌≡◌, ◌≤◌, ℕ, List, true, false, [], IsSome}
use Rattle.lua_tree.specs.Syntax.{Source}
use Rattle.lua_tree.specs.WellFormed.{WellFormed}
use Rattle.proto.specs.Chunk.{Chunk, own}
use Rattle.proto.specs.Short.{IsShort}
use Rattle.recover_flow.specs.Debug.{FirstUntold}
use Rattle.recover_flow.specs.Recovering.{IsLost, IsSourceFound}
use Rattle.reads_back.specs.Flows.{IsFlowBody, IsFlowPartBy}
use Rattle.scheme_order.specs.Ordered.{ordered_block}
use Rattle.same_flow.specs.Blocks.{StatementsHold}
use Rattle.same_flow.specs.Space.{around_body, space_of_statements}
use Rattle.scheme.specs.Shapes.{Flat}
use Rattle.scheme_lines.specs.Alike.{AreAlike}
use Rattle.recovers.specs.FlowSources.{IsFlowChunk}

pub record IsSourceRecovered (source : Source) (chunk : Chunk) : Type 0 where
  -- it tells its name, and each function what it is recovered by
  pub named : IsSome (own chunk).source
  pub told : (path : List ℕ) → FirstUntold chunk path → ⊥
  pub formed : (tree : Source) → IsSourceFound chunk tree → WellFormed tree
  pub alike : (tree : Source) → IsSourceFound chunk tree → AreAlike source tree
  pub found : IsLost true 0 chunk → ⊥

-- 32 bits count the entries of each list, as they do in every chunk that is built
abbrev pub FlowSourcesAreRecovered : Type 0
FlowSourcesAreRecovered = (chunk : Chunk) (of : IsFlowChunk chunk) → IsShort chunk → IsSourceRecovered of.source chunk

-- flat sources are such
abbrev pub FlatSourcesAreFlow : Type 0
FlatSourcesAreFlow = (source : Source) → WellFormed source → Flat source → StatementsHold (IsFlowPartBy (IsFlowBody 0)) false source.body × (ordered_block [] source.body ≡ true) × (around_body source.body (space_of_statements source.body) ≤ 200)
