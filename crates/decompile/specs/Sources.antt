-- To be believed. Which texts are a source of a chunk, and why a chunk is given none.
use Rattle.std.specs.Prelude.{◌≡◌, ℕ, List, Some}
use Rattle.lua_num.specs.Bytes.{Text}
use Rattle.proto.specs.Chunk.{Chunk, own, SameButLines}
use Rattle.front.specs.Sources.{IsCompiled}
use Rattle.chunk_difference.specs.declared.difference.Difference.{Difference}
use Rattle.chunk_difference.specs.Difference.{IsFirstDifference}
use Rattle.recover_flow.specs.Debug.{HasDebug, LacksDebug}
use Rattle.recover_flow.specs.Lost.{HasReasonAt}
use Rattle.decompile.specs.declared.refused.Refused.{Refused}

-- an accepted source, whose chunk under the chunk's own source name is this
pub record IsCompiledAs (chunk : Chunk) (text : List ℕ) (again : Chunk) : Type 0 where
  pub name : Text
  pub named : (own chunk).source ≡ Some name
  pub compiled : IsCompiled name text again

-- its chunk is the same but for the numbers of lines
pub record IsSourceOf (chunk : Chunk) (text : List ℕ) : Type 0 where
  pub again : Chunk
  pub compiled : IsCompiledAs chunk text again
  pub same : SameButLines chunk again

-- its chunk differs first in this
pub record DiffersBy (chunk : Chunk) (text : List ℕ) (difference : Difference) : Type 0 where
  pub again : Chunk
  pub compiled : IsCompiledAs chunk text again
  pub first : IsFirstDifference chunk again difference

-- a chunk is refused so: a function does not tell what is wanted; or there is this reason at a word; or the text that was found is no source of it
abbrev pub IsRefusedBy : Chunk → Refused → Type 0
IsRefusedBy chunk (Refused.NoDebug path) = LacksDebug chunk path
IsRefusedBy chunk (Refused.At path pc reason) = HasDebug chunk × HasReasonAt chunk path pc reason
IsRefusedBy chunk (Refused.Differs text difference) = HasDebug chunk × DiffersBy chunk text difference
IsRefusedBy chunk Refused.OutOfMemory = Unit {0}
