-- Serves the bodies: where a word goes, as two ways at most, and the registers that it writes, as a range.
use Rattle.std.specs.Prelude.{◌≡◌, ℕ, ◌||◌}
use Rattle.std.specs.List.{list_any}
use Rattle.opcode.specs.declared.word.Instr.{Instr}
use Rattle.proto.specs.Chunk.{Chunk}
use Rattle.rules.specs.Places.{ways, is_pc}
use Rattle.rules.specs.Notes.{writes}
use Rattle.verifier.specs.Registers.{is_in}
use Rattle.verifier.specs.declared.flow.Ways.{Ways}

-- all ways of the word at a pc
abbrev pub AreWays : Chunk → ℕ → Instr → Ways → Type 0
AreWays f pc i two = (t : ℕ) → list_any (is_pc t) (ways f pc i) ≡ (is_pc t two.first || is_pc t two.second)

-- the registers that an instruction writes
abbrev pub Writes : Instr → ℕ → ℕ → Type 0
Writes i first end = (r : ℕ) → writes i.op i r ≡ is_in first end r
