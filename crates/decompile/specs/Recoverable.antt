-- To be believed. Chunks that are always given a source, and that one is given.
use Rattle.std.specs.Prelude.{◌⊎◌, Result, Ok, Err}
use Rattle.lua_num.specs.Bytes.{Text}
use Rattle.lua_num.specs.declared.byte_text.ByteText.{ByteText}
use Rattle.lua_tree.specs.Scoping.{Scoped}
use Rattle.lua_tree.specs.Syntax.{Source}
use Rattle.lua_tree.specs.WellFormed.{WellFormed}
use Rattle.proto.specs.Chunk.{Chunk, SameButLines}
use Rattle.scheme.specs.Scheme.{scheme, Fits}
use Rattle.scheme.specs.Shapes.{Flat}
use Rattle.recovers.specs.PlainSources.{IsPlainChunk}
use Rattle.decompile.specs.declared.refused.Refused.{Refused}

-- the chunk of a flat source that keeps every rule, under some name, but for the numbers of lines
pub record IsFlatChunk (chunk : Chunk) : Type 0 where
  pub source : Source
  pub name : Text
  pub formed : WellFormed source
  pub scoped : Scoped source
  pub fits : Fits source
  pub flat : Flat source
  pub same : SameButLines chunk (scheme source name)

-- the chunk of a flat source, or of a plain one
abbrev pub IsRecoverable : Chunk → Type 0
IsRecoverable chunk = IsFlatChunk chunk ⊎ IsPlainChunk chunk

-- a text, or want of memory
abbrev pub IsGiven : Result ByteText Refused → Type 0
IsGiven (Ok text) = Unit {0}
IsGiven (Err Refused.OutOfMemory) = Unit {0}
IsGiven (Err refused) = ⊥
