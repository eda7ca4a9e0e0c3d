-- Serves the bodies: notes on the way to the least.
use Rattle.std.specs.Prelude.{◌≡◌, ℕ, true, List, Option, Some, None}
use Rattle.std.specs.List.{Contains}
use Rattle.opcode.specs.declared.word.Instr.{Instr}
use Rattle.proto.specs.Chunk.{Chunk}
use Rattle.rules.specs.Words.{instr_at}
use Rattle.rules.specs.Places.{is_edge}
use Rattle.rules.specs.Notes.{Note, Notes, Consistent, FollowsIn, IsStart, AsksLess, after}
use Rattle.rules.specs.Common.{AsksLessAt, AskLess}

-- they ask no more than any consistent notes
abbrev pub AsksLeast : Chunk → Notes → Type 0
AsksLeast f notes = (others : Notes) → Consistent f others → AskLess notes others

-- a note that all consistent notes ask at a pc
abbrev pub LeastAt : Chunk → ℕ → Note → Type 0
LeastAt f t m = (others : Notes) → Consistent f others → AsksLessAt (Some m) (others t)

-- what holds after the word at a pc is followed wherever it goes
abbrev pub FollowedFrom : Chunk → Notes → ℕ → Type 0
FollowedFrom f notes pc = (t : ℕ) (i : Instr) (n : Note) → instr_at f pc ≡ Some i → notes pc ≡ Some n → is_edge f pc i t ≡ true → FollowsIn (after f pc i n) (notes t)

-- notes that follow each word but those that are still to be done
pub record Flowing (f : Chunk) (notes : Notes) (work : List ℕ) : Type 0 where
  pub start : IsStart (notes 0)
  pub least : AsksLeast f notes
  pub kept : (pc : ℕ) → (Contains work pc → ⊥) → FollowedFrom f notes pc

-- k is the least note that asks what the old one asks, if there is one, and what m asks
pub record Joins (old : Option Note) (m k : Note) : Type 0 where
  pub above : AsksLessAt old (Some k)
  pub takes : AsksLess m k
  pub least : (x : Note) → AsksLessAt old (Some x) → AsksLess m x → AsksLess k x

abbrev pub JoinsIn : Option Note → Note → Option Note → Type 0
JoinsIn old m None = ⊥
JoinsIn old m (Some k) = Joins old m k

-- m is joined into the note of one pc
pub record Moves (before now : Notes) (t : ℕ) (m : Note) : Type 0 where
  pub here : JoinsIn (before t) m (now t)
  pub others : (p : ℕ) → (p ≡ t → ⊥) → now p ≡ before p

-- the least consistent notes of a function
pub record AreLeast (f : Chunk) (notes : Notes) : Type 0 where
  pub consistent : Consistent f notes
  pub least : AsksLeast f notes
