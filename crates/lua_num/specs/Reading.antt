-- Serves the bodies: what reading a number takes from a text.
use Rattle.std.specs.Prelude.{◌≡◌, ◌⊎◌, ℕ, Bool, not, ◌<◌, ◌^◌, Option, SomeIff, List, ◌++◌, codes, ℤ, FitsSigned}
use Rattle.std.specs.Int.{w64}
use Rattle.std.specs.Str.Parse.{IsNumeral as IsRadixNumeral, digits_value as radix_digits_value}
use Rattle.lua_num.specs.Bytes.{is_space, Each, IsRun}
use Rattle.lua_num.specs.Meets.{Writes, Signs}

-- a byte that is no white space
abbrev pub is_no_space : ℕ → Bool
is_no_space byte = not (is_space byte)

-- the longest run at the front of a text, and what is left
pub record SplitsRun (test : ℕ → Bool) (text run rest : List ℕ) : Type 0 where
  pub whole : text ≡ run ++ rest
  pub is_run : IsRun test run rest

-- `0x` or `0X`, and these bytes
abbrev pub HasMark : List ℕ → List ℕ → Type 0
HasMark text digits = (text ≡ codes "0x" ++ digits) ⊎ (text ≡ codes "0X" ++ digits)

-- what is left without a plus sign at the front
abbrev pub DropsPlus : List ℕ → List ℕ → Type 0
DropsPlus text rest = (text ≡ codes "+" ++ rest) ⊎ ((text ≡ rest) × ((other : List ℕ) → text ≡ codes "+" ++ other → ⊥))

-- the value of one or more digits of the radix, exactly where it is below 2^64
abbrev pub GivesValue : ℕ → List ℕ → Option ℕ → Type 0
GivesValue radix digits o = SomeIff o (IsRadixNumeral radix digits × (radix_digits_value radix digits < 2 ^ 64)) (radix_digits_value radix digits)

-- a numeral, and white space behind it
pub record WritesWord (text : List ℕ) (value : ℕ) : Type 0 where
  pub numeral : List ℕ
  pub back : List ℕ
  pub whole : text ≡ numeral ++ back
  pub back_white : Each is_space back
  pub writes : Writes numeral value

-- a sign or none, a numeral, and white space, with a signed value of 64 bits
pub record WritesSigned (text : List ℕ) (n : ℤ) : Type 0 where
  pub sign : List ℕ
  pub rest : List ℕ
  pub value : ℕ
  pub whole : text ≡ sign ++ rest
  pub word : WritesWord rest value
  pub signed : Signs sign value n
  pub fits : FitsSigned w64 n
