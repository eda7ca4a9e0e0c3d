-- To be believed. Classes of bytes, and what stands at the front of a text (manual 2.1).
use Rattle.std.specs.Prelude.{◌≡◌, ◌&&◌, ◌||◌, ℕ, Bool, true, false, List, [], ◌∷◌, ◌==◌, nat_le}

-- a text is its bytes
abbrev pub Text : Type 0
Text = List ℕ

abbrev pub is_within : ℕ → ℕ → ℕ → Bool
is_within low high byte = nat_le low byte && nat_le byte high

-- white space is the bytes 9 to 13 and 32
abbrev pub is_space : ℕ → Bool
is_space byte = is_within 9 13 byte || (byte == 32)

abbrev pub is_digit : ℕ → Bool
is_digit byte = is_within 48 57 byte

-- `0` to `9`, `A` to `F` and `a` to `f`
abbrev pub is_hex_digit : ℕ → Bool
is_hex_digit byte = is_digit byte || is_within 65 70 byte || is_within 97 102 byte

-- each byte passes a test
abbrev pub Each : (ℕ → Bool) → List ℕ → Type 0
Each test [] = Unit {0}
Each test (byte ∷ text) = (test byte ≡ true) × Each test text

-- the text begins with a byte that passes
abbrev pub BeginsWith : (ℕ → Bool) → List ℕ → Type 0
BeginsWith test [] = ⊥
BeginsWith test (byte ∷ text) = test byte ≡ true

-- the text is empty, or begins with a byte that does not pass
abbrev pub BeginsWithout : (ℕ → Bool) → List ℕ → Type 0
BeginsWithout test [] = Unit {0}
BeginsWithout test (byte ∷ text) = test byte ≡ false

-- the longest run of bytes that pass: each does, and what follows begins with none
pub record IsRun (test : ℕ → Bool) (run after : List ℕ) : Type 0 where
  pub each : Each test run
  pub longest : BeginsWithout test after
