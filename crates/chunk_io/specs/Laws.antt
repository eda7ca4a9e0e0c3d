-- Serves the laws: bytes are one chunk, or have one fault.
use Rattle.std.specs.Prelude.{◌≡◌, ◌⊎◌, ◌<◌, ℕ, List, get_or}
use Rattle.proto.specs.Chunk.{Chunk}
use Rattle.proto.specs.Short.{IsShort}
use Rattle.chunk_io.specs.declared.layout.Layout.{Layout}
use Rattle.chunk_io.specs.declared.fault.ChunkFault.{ChunkFault}
use Rattle.chunk_io.specs.Items.{IsChunkOf, Spelled, Fits}
use Rattle.chunk_io.specs.Faults.{IsFault}

abbrev pub LayoutsAreOne : Type 0
LayoutsAreOne = (bytes : List ℕ) (l m : Layout) (c d : Chunk) → Spelled bytes l c → Spelled bytes m d → l ≡ m

abbrev pub ChunksAreOne : Type 0
ChunksAreOne = (bytes : List ℕ) (c d : Chunk) → IsChunkOf bytes c → IsChunkOf bytes d → c ≡ d

abbrev pub FaultsAreOne : Type 0
FaultsAreOne = (bytes : List ℕ) (f g : ChunkFault) → IsFault bytes f → IsFault bytes g → f ≡ g

abbrev pub NeverBoth : Type 0
NeverBoth = (bytes : List ℕ) (c : Chunk) (f : ChunkFault) → IsChunkOf bytes c → IsFault bytes f → ⊥

-- each list of bytes is a chunk or has a fault
abbrev pub ChunkOrFault : Type 0
ChunkOrFault = (bytes : List ℕ) → ((i : ℕ) → get_or bytes i 0 < 256) → ((c : Chunk) × IsChunkOf bytes c) ⊎ ((f : ChunkFault) × IsFault bytes f)

-- a chunk that has a spelling has short lists
abbrev pub FittingIsShort : Type 0
FittingIsShort = (l : Layout) (c : Chunk) → Fits l c → IsShort c
