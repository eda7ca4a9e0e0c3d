-- To be believed, and this suite's own. Notes on the registers at the pcs of a function, and which notes are consistent.
use Rattle.std.specs.Prelude.{◌≡◌, ℕ, suc, ◌+◌, Bool, true, false, not, ◌&&◌, ◌||◌, ◌==◌, nat_lt, nat_le, Option, Some, None}
use Rattle.opcode.specs.declared.op.Op.{Op}
use Rattle.opcode.specs.declared.word.Instr.{Instr}
use Rattle.proto.specs.Chunk.{Chunk}
use Rattle.rules.specs.Words.{instr_at}
use Rattle.std.specs.List.{list_any}
use Rattle.rules.specs.Places.{named_further, words_of, is_edge}

-- a set of registers
abbrev pub Registers : Type 0
Registers = ℕ → Bool

abbrev pub Within : Registers → Registers → Type 0
Within xs ys = (r : ℕ) → xs r ≡ true → ys r ≡ true

pub record Note : Type 0 where
  -- the registers that may be captured
  pub captured : Registers
  -- the registers a of which a, a + 1 and a + 2 surely hold numbers and are not captured
  pub loops : Registers

-- notes for some pcs
abbrev pub Notes : Type 0
Notes = ℕ → Option Note

-- the registers that the further words of a CLOSURE name
abbrev pub captures : Chunk → ℕ → Instr → Registers
captures f pc i r = list_any (λ named. named == r) (named_further Op.Move i.op (words_of f pc i))

-- registers from the first on, up to the last
abbrev pub is_from_to : ℕ → ℕ → Registers
is_from_to first last r = nat_le first r && nat_le r last

-- the first n registers from a on, and of n = 0 none
abbrev pub is_among : ℕ → ℕ → Registers
is_among a n r = nat_le a r && nat_lt r (a + n)

-- The registers that a word writes. Open results are written to none, and the addition of FORLOOP does not count.
abbrev pub writes : Op → Instr → Registers
writes Op.SetGlobal i r = false
writes Op.SetUpval i r = false
writes Op.SetTable i r = false
writes Op.Jmp i r = false
writes Op.Eq i r = false
writes Op.Lt i r = false
writes Op.Le i r = false
writes Op.Test i r = false
writes Op.TailCall i r = false
writes Op.Return i r = false
writes Op.SetList i r = false
writes Op.Close i r = false
writes Op.LoadNil i r = is_from_to i.a i.b r
writes Op.Self_ i r = is_among i.a 2 r
writes Op.Call i r = nat_le i.a r && nat_lt (suc r) (i.a + i.c)
writes Op.Vararg i r = nat_le i.a r && nat_lt (suc r) (i.a + i.b)
writes Op.ForLoop i r = (i.a + 3) == r
writes Op.ForPrep i r = is_among i.a 3 r
writes Op.TForLoop i r = is_from_to (i.a + 2) (i.a + 2 + i.c) r
writes _ i r = i.a == r

-- the registers that a word lets go: CLOSE A those from A on
abbrev pub closes : Op → Instr → Registers
closes Op.Close i r = nat_le i.a r
closes _ i r = false

-- the loop that a word prepares
abbrev pub prepares : Op → Instr → Registers
prepares Op.ForPrep i r = i.a == r
prepares _ i r = false

abbrev pub touches : Chunk → ℕ → Instr → Registers
touches f pc i r = writes i.op i r || captures f pc i r

-- a loop none of whose three registers the word writes or captures
abbrev pub spares : Chunk → ℕ → Instr → Registers
spares f pc i a = not (touches f pc i a) && not (touches f pc i (a + 1)) && not (touches f pc i (a + 2))

-- what holds after the word at a pc, where the note holds before it
abbrev pub after : Chunk → ℕ → Instr → Note → Note
after f pc i n = record {
  captured = λ r. n.captured r && not (closes i.op i r) || captures f pc i r;
  loops = λ a. n.loops a && spares f pc i a || prepares i.op i a;
}

-- a note that asks no more than another: it takes no more registers as captured, and has all of its loops
pub record AsksLess (n m : Note) : Type 0 where
  pub captured : Within n.captured m.captured
  pub loops : Within m.loops n.loops

abbrev pub FollowsIn : Note → Option Note → Type 0
FollowsIn n None = ⊥
FollowsIn n (Some m) = AsksLess n m

-- a pc that is noted with no loop
abbrev pub IsStart : Option Note → Type 0
IsStart None = ⊥
IsStart (Some n) = (a : ℕ) → n.loops a ≡ false

pub record Consistent (f : Chunk) (notes : Notes) : Type 0 where
  pub start : IsStart (notes 0)
  pub edges : (pc t : ℕ) (i : Instr) (n : Note) → instr_at f pc ≡ Some i → notes pc ≡ Some n → is_edge f pc i t ≡ true → FollowsIn (after f pc i n) (notes t)
