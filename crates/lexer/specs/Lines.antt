-- Serves the bodies. Lines, counted byte by byte, and texts with each line end as byte 10.
use Rattle.std.specs.Prelude.{◌≡◌, ℕ, ◌+◌, ◌&&◌, Bool, List, [], ◌∷◌, min, ◌==◌, Option, None, Some, if◌then◌else◌}
use Rattle.lua_tree.specs.Bytes.{ends_line}
use Rattle.lua_tree.specs.Lines.{Part, IsCutOf, plain}
use Rattle.lexer.specs.declared.lines.LineCounter.{LineCounter}

-- a byte begins a line end if it ends a line and makes no pair with the line end of one byte that is open before it
abbrev pub begins_end : Option ℕ → ℕ → Bool
begins_end None byte = ends_line byte
begins_end (Some first) byte = ends_line byte && (first == byte)

-- what is open after a byte
abbrev pub open_next : Option ℕ → ℕ → Option ℕ
open_next before byte = if begins_end before byte then Some byte else None

-- what is open after a text
abbrev pub open_after : Option ℕ → List ℕ → Option ℕ
open_after before [] = before
open_after before (byte ∷ text) = open_after (open_next before byte) text

-- how many line ends begin in a text
abbrev pub ends_from : Option ℕ → List ℕ → ℕ
ends_from before [] = 0
ends_from before (byte ∷ text) = (if begins_end before byte then 1 else 0) + ends_from (open_next before byte) text

-- the counter has the line on which a text ends, and what is open after it
pub record IsCounted (done : List ℕ) (counter : LineCounter) : Type 0 where
  pub line_is : counter.line ≡ min (ends_from None done + 1) 2147483647
  pub open_is : counter.open_end ≡ open_after None done

-- the text with each line end as byte 10
pub record IsPlain (text bytes : List ℕ) : Type 0 where
  pub parts : List Part
  pub cut : IsCutOf parts text
  pub bytes_are : bytes ≡ plain parts

-- the text with plain line ends begins with this byte, and goes on with what follows
abbrev pub BeginsPlain : List ℕ → ℕ → List ℕ → Type 0
BeginsPlain text byte after = (bytes : List ℕ) → IsPlain after bytes → IsPlain text (byte ∷ bytes)
