-- Serves the bodies. What the work comes to where a file is refused.
use Rattle.std.specs.Prelude.{◌≡◌, ℕ, true, false, List, []}
use Rattle.lua_num.specs.Bytes.{Text}
use Rattle.proto.specs.Chunk.{Chunk}
use Rattle.chunk_io.specs.Faults.{IsFault}
use Rattle.chunk_io.specs.Items.{is_chunk}
use Rattle.rules.specs.Sound.{Rejected}
use Rattle.front.specs.Sources.{IsFaultIn}
use Rattle.suite.specs.declared.outcome.Outcome.{Outcome}
use Rattle.suite.specs.declared.product.Product.{Product}
use Rattle.suite.specs.Jobs.{bad_source, bad_chunk, rejected, not_decompiled, bad_listing, Refuses}

-- the bytes of a source have no chunk, or memory ran out
abbrev pub IsBadSource : List ℕ → Outcome → Type 0
IsBadSource bytes (Outcome.BadSource fault) = IsFaultIn bytes fault
IsBadSource bytes Outcome.OutOfMemory = Unit {0}
IsBadSource bytes outcome = ⊥

-- the bytes spell no chunk, or memory ran out
abbrev pub IsBadChunk : List ℕ → Outcome → Type 0
IsBadChunk bytes (Outcome.BadChunk fault) = IsFault bytes fault
IsBadChunk bytes Outcome.OutOfMemory = Unit {0}
IsBadChunk bytes outcome = ⊥

-- a file has no chunk, or memory ran out
abbrev pub HasNone : List ℕ → Outcome → Type 0
HasNone bytes (Outcome.BadSource fault) = (is_chunk bytes ≡ false) × IsFaultIn bytes fault
HasNone bytes (Outcome.BadChunk fault) = (is_chunk bytes ≡ true) × IsFault bytes fault
HasNone bytes Outcome.OutOfMemory = Unit {0}
HasNone bytes outcome = ⊥

-- a chunk is rejected, or memory ran out
abbrev pub IsRefused : Chunk → Outcome → Type 0
IsRefused chunk (Outcome.Rejected rejection) = Rejected chunk rejection.path rejection.pc rejection.rule
IsRefused chunk Outcome.OutOfMemory = Unit {0}
IsRefused chunk outcome = ⊥

-- the bytes of a file are refused for a text that is to be made of it, or memory ran out
abbrev pub IsRefusal : Product → Text → List ℕ → Outcome → Type 0
IsRefusal product file bytes (Outcome.BadSource fault) = Refuses product file bytes (bad_source fault)
IsRefusal product file bytes (Outcome.BadChunk fault) = Refuses product file bytes (bad_chunk fault)
IsRefusal product file bytes (Outcome.Rejected rejection) = Refuses product file bytes (rejected rejection)
IsRefusal product file bytes (Outcome.NotDecompiled refused) = Refuses product file bytes (not_decompiled refused [])
IsRefusal product file bytes (Outcome.BadListing fault) = Refuses product file bytes (bad_listing fault)
IsRefusal product file bytes Outcome.OutOfMemory = Unit {0}
IsRefusal product file bytes outcome = ⊥
