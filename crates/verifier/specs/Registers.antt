-- Serves the bodies: sets of registers as bits, and the notes that a table of them has.
use Rattle.std.specs.Prelude.{◌≡◌, ◌⊎◌, ℕ, suc, ◌+◌, ◌<◌, ◌≤◌, ◌/◌, ◌%◌, Bool, false, not, ◌&&◌, ◌||◌, ◌==◌, nat_lt, nat_le, List, [], ◌∷◌, length, get_or, Option, Some, None, if◌then◌else◌}
use Rattle.std.specs.Int.{bit_at}
use Rattle.std.specs.List.{Contains}
use Rattle.opcode.specs.declared.op.Op.{Op}
use Rattle.opcode.specs.declared.word.Instr.{Instr}
use Rattle.opcode.specs.Reading.{instr_of}
use Rattle.proto.specs.Chunk.{Chunk}
use Rattle.rules.specs.Places.{is_edge, is_pc, named_by}
use Rattle.rules.specs.Notes.{Note as Meant, Notes, Registers}
use Rattle.verifier.specs.declared.registers.RegisterSet.{RegisterSet}
use Rattle.verifier.specs.declared.note.Note.{Note}
use Rattle.verifier.specs.Least.{Moves}

-- the bits of the 128 registers from 128 k on
abbrev pub bits_at : RegisterSet → ℕ → ℕ
bits_at s k = if k == 0 then s.at_0 else if k == 1 then s.at_128 else if k == 2 then s.at_256 else if k == 3 then s.at_384 else 0

unfoldable pub has : RegisterSet → ℕ → Bool
has s r = bit_at (bits_at s (r / 128)) (r % 128) == 1

-- it falls where a set loses a register
abbrev pub total : RegisterSet → ℕ
total s = s.at_0 + s.at_128 + s.at_256 + s.at_384

-- what a note of bits says
abbrev pub meant : Note → Meant
meant n = record { captured = λ r. nat_lt r 512 && not (has n.free r); loops = has n.loops }

abbrev pub meant_in : Option Note → Option Meant
meant_in None = None
meant_in (Some n) = Some (meant n)

abbrev pub notes_of : List (Option Note) → Notes
notes_of table pc = meant_in (get_or table pc None)

abbrev pub room : Note → ℕ
room n = total n.free + total n.loops

-- more than the room of each note
abbrev pub most_room : ℕ
most_room = 3402823669209384634633746074317682114560

abbrev pub room_in : Option Note → ℕ
room_in None = most_room
room_in (Some n) = room n

-- How far a table still can fall: what is not noted counts for more than each note.
abbrev pub rooms : List (Option Note) → ℕ
rooms [] = 0
rooms (n ∷ rest) = room_in n + rooms rest

-- two notes that say the same
pub record Alike (n m : Meant) : Type 0 where
  pub captured : (r : ℕ) → n.captured r ≡ m.captured r
  pub loops : (a : ℕ) → n.loops a ≡ m.loops a

-- a note that asks nothing
pub record IsEmpty (n : Note) : Type 0 where
  pub captured : (r : ℕ) → (meant n).captured r ≡ false
  pub loops : (a : ℕ) → (meant n).loops a ≡ false

-- the registers from the first on that are below the end
abbrev pub is_in : ℕ → ℕ → Registers
is_in first end r = nat_le first r && nat_lt r end

-- a loop of which some register is in a range
abbrev pub is_hit : ℕ → ℕ → Registers
is_hit first end a = is_in first end a || is_in first end (a + 1) || is_in first end (a + 2)

-- a note whose loops in a range of registers are gone
abbrev pub hit : ℕ → ℕ → Meant → Meant
hit first end n = record n { loops = λ a. n.loops a && not (is_hit first end a) }

-- where a register is captured
abbrev pub capturing : ℕ → Meant → Meant
capturing register n = record { captured = λ r. n.captured r || (r == register); loops = λ a. n.loops a && not (is_hit register (register + 1) a) }

abbrev pub capturing_each : List ℕ → Meant → Meant
capturing_each [] n = n
capturing_each (r ∷ rest) n = capturing_each rest (capturing r n)

-- where the further words of a CLOSURE capture registers
abbrev pub capturing_all : List ℕ → Meant → Meant
capturing_all [] n = n
capturing_all (w ∷ rest) n = capturing_all rest (capturing_each (named_by Op.Move (instr_of w)) n)

-- where some registers are let go
abbrev pub letting_go : Registers → Meant → Meant
letting_go gone n = record n { captured = λ r. n.captured r && not (gone r) }

-- where some loops are prepared
abbrev pub preparing : Registers → Meant → Meant
preparing more n = record n { loops = λ a. n.loops a || more a }

-- each way of the word at a pc that is an edge
abbrev pub AreEdges : Chunk → ℕ → Instr → Option ℕ → Option ℕ → Type 0
AreEdges f pc i first second = (t : ℕ) → is_edge f pc i t ≡ (is_pc t first || is_pc t second)

-- work to which one place is added, if it is not there
pub record Adds (work more : List ℕ) (t : ℕ) : Type 0 where
  pub there : Contains more t
  pub kept : (p : ℕ) → Contains work p → Contains more p
  pub fewer : length more ≤ suc (length work)

-- What following a way does: m is joined into the note of its pc, which is work where it asks more than before.
abbrev pub Followed : List (Option Note) → List (Option Note) → List ℕ → List ℕ → Option ℕ → Note → Type 0
Followed before now work more None m = (now ≡ before) × (more ≡ work)
Followed before now work more (Some t) m =
    Moves (notes_of before) (notes_of now) t (meant m) × (((now ≡ before) × (more ≡ work)) ⊎ ((rooms now < rooms before) × Adds work more t))
