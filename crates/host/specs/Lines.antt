-- To be believed. What a host of lines replies (manual 5.7, io.read of a line).
use Rattle.std.specs.Prelude.{◌≡◌, ℕ, ◌+◌, ◌-◌, ◌^◌, ◌<◌, ◌≤◌, min, ◌==◌, not, nat_lt, List, [], ◌∷◌, ◌⊎◌, length, if◌then◌else◌, codes, take_while, Option, IfSome, ⊤}
use Rattle.std.specs.Io.BufRead.{DropsThrough}
use Rattle.lua_model.specs.declared.plain.Plain.TheVariants.{Nil, Text}
use Rattle.lua_model.specs.declared.plain.Reply.{Reply}
use Rattle.lua_model.specs.declared.plain.Reply.TheVariants.{Values, Fail, OutOfMemory}

-- the bytes before the first line end, a byte 10
abbrev pub front : List ℕ → List ℕ
front bytes = take_while (λ b. not (b == 10)) bytes

-- a reply for want of a line that can be read
abbrev pub read_failed : Reply
read_failed = Fail (codes "read failed")

-- what the bytes that are left make the reply: nil at the end, else the next line, which must be short enough
abbrev pub line_reply : List ℕ → Reply
line_reply [] = Values (Nil ∷ [])
line_reply (b ∷ bytes) = if nat_lt (length (front (b ∷ bytes))) 67108864 then Values (Text (front (b ∷ bytes)) ∷ []) else read_failed

-- a reader: the bytes that are left, where those are known, how many it gave, and how often reading failed
pub record ReaderState : Type 0 where
  pub left : Option (List ℕ)
  pub given : ℕ
  pub faults : ℕ

-- a count that is raised; it stands still at 2^64 - 1
abbrev pub counted : ℕ → ℕ → ℕ
counted count more = min (count + more) (2 ^ 64 - 1)

-- the count rose; one that stands at 2^64 - 1 is taken as risen
abbrev pub Rises : ℕ → ℕ → Type 0
Rises old new = (old < new) ⊎ (old ≡ 2 ^ 64 - 1)

-- the next line is too long: so the known bytes are, and that many bytes were given
abbrev pub IsTooLong : Option (List ℕ) → ℕ → ℕ → Type 0
IsTooLong known given later = IfSome known (λ bytes. 67108864 ≤ length (front bytes)) × (later ≡ counted given 67108864)

-- why there is no line: reading failed, or the line is too long
abbrev pub Fails : ReaderState → ReaderState → Type 0
Fails old new = Rises old.faults new.faults ⊎ IsTooLong old.left old.given new.given

-- what a call answers, where the bytes are known: that reply, or a failure where reading failed, or want of memory
abbrev pub LineAnswers : ReaderState → Reply → ReaderState → Type 0
LineAnswers old reply new = IfSome old.left (λ bytes. (reply ≡ line_reply bytes) ⊎ ((reply ≡ read_failed) × Rises old.faults new.faults) ⊎ (reply ≡ OutOfMemory))

-- where a reply comes, also where the bytes are not known: values where reading did not fail, and the failure only where it did or the line is too long
abbrev pub LineCause : ReaderState → Reply → ReaderState → Type 0
LineCause old (Values values) new = new.faults ≡ old.faults
LineCause old (Fail text) new = (text ≡ codes "read failed") × Fails old new
LineCause old OutOfMemory new = ⊤

-- what a call leaves of known bytes: behind a line those behind its line end
abbrev pub LineLeaves : Option (List ℕ) → Reply → Option (List ℕ) → Type 0
LineLeaves known (Values values) left = DropsThrough known left 10
LineLeaves known (Fail text) left = ⊤
LineLeaves known OutOfMemory left = ⊤
