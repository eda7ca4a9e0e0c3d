-- Serves the laws: notes that ask less than others, and what two sets of notes have in common: why a function has least notes.
use Rattle.std.specs.Prelude.{◌≡◌, ℕ, Bool, true, ◌&&◌, ◌||◌, Option, Some, None}
use Rattle.proto.specs.Chunk.{Chunk}
use Rattle.rules.specs.declared.rule.Rule.{Rule}
use Rattle.rules.specs.Notes.{Note, Notes, AsksLess, Consistent}
use Rattle.rules.specs.Breaks.{breaks}

-- a pc that is not noted asks nothing
abbrev pub AsksLessAt : Option Note → Option Note → Type 0
AsksLessAt None o = Unit {0}
AsksLessAt (Some n) None = ⊥
AsksLessAt (Some n) (Some m) = AsksLess n m

abbrev pub AskLess : Notes → Notes → Type 0
AskLess a b = (pc : ℕ) → AsksLessAt (a pc) (b pc)

abbrev pub common_note : Note → Note → Note
common_note n m = record { captured = λ r. n.captured r && m.captured r; loops = λ a. n.loops a || m.loops a }

abbrev pub common_at : Option Note → Option Note → Option Note
common_at (Some n) (Some m) = Some (common_note n m)
common_at _ _ = None

-- the pcs that both note, the registers that both take as captured, and the loops of either
abbrev pub common : Notes → Notes → Notes
common a b pc = common_at (a pc) (b pc)

-- Of two consistent sets of notes, what they have in common is consistent and asks less than both.
pub record HaveLeast (f : Chunk) (a b : Notes) : Type 0 where
  pub consistent : Consistent f (common a b)
  pub first : AskLess (common a b) a
  pub second : AskLess (common a b) b

-- What notes break, those that ask more break there too.
abbrev pub BreaksMore : Chunk → Notes → Notes → Type 0
BreaksMore f a b = AskLess a b → (main : Bool) (pc : ℕ) (rule : Rule) → breaks f main a pc rule ≡ true → breaks f main b pc rule ≡ true
