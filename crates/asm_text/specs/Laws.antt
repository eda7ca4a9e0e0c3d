-- Serves the laws: a text is the listing of one chunk, or has one fault.
use Rattle.std.specs.Prelude.{◌≡◌, ◌⊎◌, ◌<◌, ◌^◌, length}
use Rattle.lua_num.specs.Bytes.{Text}
use Rattle.proto.specs.Chunk.{Chunk}
use Rattle.asm_text.specs.declared.fault.ListFault.{ListFault}
use Rattle.asm_text.specs.Faults.{IsFault, Assembles}

abbrev pub ChunksAreOne : Type 0
ChunksAreOne = (text : Text) (c d : Chunk) → Assembles text c → Assembles text d → c ≡ d

abbrev pub FaultsAreOne : Type 0
FaultsAreOne = (text : Text) (f g : ListFault) → IsFault text f → IsFault text g → f ≡ g

abbrev pub NeverBoth : Type 0
NeverBoth = (text : Text) (c : Chunk) (f : ListFault) → Assembles text c → IsFault text f → ⊥

-- Each text of fewer than 2^64 bytes is a listing or has a fault. A longer one may be neither: no bytes spell a chunk with a text whose size takes more than 64 bits.
abbrev pub ListingOrFault : Type 0
ListingOrFault = (text : Text) → length text < 2 ^ 64 → ((c : Chunk) × Assembles text c) ⊎ ((f : ListFault) × IsFault text f)
