-- Serves the laws: what the functions on numbers are, as relations.
use Rattle.std.specs.Prelude.{◌≡◌, ◌≢◌, ◌⊎◌, ℕ, ◌^◌, ◌<◌, List, [], ◌∷◌, ◌++◌, ℤ, pos, neg_ℤ, ◌+ℤ◌, ◌*ℤ◌, ◌<ℤ◌, ◌≤ℤ◌, codes, FitsSigned}
use Rattle.std.specs.Int.{w64}
use Rattle.lua_num.specs.Bytes.{is_space, is_digit, is_hex_digit, Each}
use Rattle.lua_num.specs.Numeral.{digits_value, hex_value}

-- r is z, wrapped: it fits 64 bits, and differs from z by a multiple of 2^64
pub record IsWrapped (z r : ℤ) : Type 0 where
  pub fits : FitsSigned w64 r
  pub turns : ℤ
  pub same : z ≡ r +ℤ turns *ℤ pos (2 ^ 64)

-- what a remainder by b may be: 0, or of the sign of b and nearer to 0 than b
abbrev pub IsBelow : ℤ → ℤ → Type 0
IsBelow b r = ((pos 0 ≤ℤ r) × (r <ℤ b)) ⊎ ((b <ℤ r) × (r ≤ℤ pos 0))

-- r is a minus b times the floor of the exact quotient
pub record IsFloorRemainder (a b r : ℤ) : Type 0 where
  pub quotient : ℤ
  pub whole : a ≡ b *ℤ quotient +ℤ r
  pub below : IsBelow b r

-- one or more decimal digits write their value
pub record IsDecimal (text : List ℕ) (value : ℕ) : Type 0 where
  pub some : text ≢ []
  pub digits : Each is_digit text
  pub value_is : value ≡ digits_value text

-- `0x` or `0X` and one or more hexadecimal digits write their value
pub record IsHexadecimal (text : List ℕ) (value : ℕ) : Type 0 where
  pub mark : ℕ
  pub digits : List ℕ
  pub marked : (mark ≡ 120) ⊎ (mark ≡ 88)
  pub whole : text ≡ codes "0" ++ mark ∷ digits
  pub some : digits ≢ []
  pub digits_are : Each is_hex_digit digits
  pub value_is : value ≡ hex_value digits

abbrev pub Writes : List ℕ → ℕ → Type 0
Writes text value = IsDecimal text value ⊎ IsHexadecimal text value

-- a good numeral writes a value below 2^63
pub record IsNumeral (text : List ℕ) (n : ℤ) : Type 0 where
  pub value : ℕ
  pub writes : Writes text value
  pub small : value < 2 ^ 63
  pub number_is : n ≡ pos value

-- the number of a sign and a value
abbrev pub Signs : List ℕ → ℕ → ℤ → Type 0
Signs sign value n = (((sign ≡ []) ⊎ (sign ≡ codes "+")) × (n ≡ pos value)) ⊎ ((sign ≡ codes "-") × (n ≡ neg_ℤ (pos value)))

-- a string that is taken as a number: white space, a sign or none, a numeral, white space, and a signed value of 64 bits
pub record IsNumberText (text : List ℕ) (n : ℤ) : Type 0 where
  pub front : List ℕ
  pub sign : List ℕ
  pub numeral : List ℕ
  pub back : List ℕ
  pub value : ℕ
  pub whole : text ≡ front ++ (sign ++ (numeral ++ back))
  pub front_white : Each is_space front
  pub back_white : Each is_space back
  pub writes : Writes numeral value
  pub signed : Signs sign value n
  pub fits : FitsSigned w64 n
