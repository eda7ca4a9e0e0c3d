-- To be believed. Numerals of the source, the numbers of texts and the texts of numbers (manual 2.1 and 2.2.1, with whole
-- numbers of 64 bits).
use Rattle.std.specs.Prelude.{ℕ, suc, ◌+◌, ◌-◌, ◌*◌, ◌^◌, ◌&&◌, ◌||◌, ◌==◌, Bool, List, [], ◌∷◌, length, ℤ, pos, negsuc, neg_ℤ, Option, Some, None, if◌then◌else◌}
use Rattle.std.specs.Char.{digit_value}
use Rattle.std.specs.List.{list_all}
use Rattle.std.specs.Fmt.{decimal}
use Rattle.lua_num.specs.Bytes.{is_space, is_digit, is_hex_digit}
use Rattle.lua_num.specs.Arith.{fits}

-- what decimal digits are worth: each counts ten to the power of the number of digits after it
abbrev pub digits_value : List ℕ → ℕ
digits_value [] = 0
digits_value (digit ∷ digits) = (digit - 48) * 10 ^ length digits + digits_value digits

-- what hexadecimal digits are worth
abbrev pub hex_value : List ℕ → ℕ
hex_value [] = 0
hex_value (digit ∷ digits) = digit_value digit * 16 ^ length digits + hex_value digits

-- what one or more digits are worth
abbrev pub worth_of : (is_one : ℕ → Bool) → (worth : List ℕ → ℕ) → List ℕ → Option ℕ
worth_of is_one worth [] = None
worth_of is_one worth (digit ∷ digits) = if list_all is_one (digit ∷ digits) then Some (worth (digit ∷ digits)) else None

-- what a text writes: decimal digits, or `0x` or `0X` and hexadecimal digits
abbrev pub written : List ℕ → Option ℕ
written (first ∷ mark ∷ digits) =
    if (first == 48) && ((mark == 120) || (mark == 88)) then worth_of is_hex_digit hex_value digits else worth_of is_digit digits_value (first ∷ mark ∷ digits)
written digits = worth_of is_digit digits_value digits

abbrev pub kept_if_fits : ℤ → Option ℤ
kept_if_fits n = if fits n then Some n else None

-- the value, or its negation, where it has 64 bits
abbrev pub as_positive : Option ℕ → Option ℤ
as_positive None = None
as_positive (Some n) = kept_if_fits (pos n)

abbrev pub as_negative : Option ℕ → Option ℤ
as_negative None = None
as_negative (Some n) = kept_if_fits (neg_ℤ (pos n))

-- the number of a numeral: its value is at most 2^63 - 1
abbrev pub numeral_number : List ℕ → Option ℤ
numeral_number text = as_positive (written text)

-- ---- strings that are taken as numbers

-- white space in front is left out, and white space behind
abbrev pub without_space : List ℕ → List ℕ
without_space [] = []
without_space (byte ∷ text) = if is_space byte then without_space text else byte ∷ text

abbrev pub without_space_behind : List ℕ → List ℕ
without_space_behind [] = []
without_space_behind (byte ∷ text) = if list_all is_space (byte ∷ text) then [] else byte ∷ without_space_behind text

-- a sign or none, and a numeral
abbrev pub signed_number : List ℕ → Option ℤ
signed_number [] = None
signed_number (byte ∷ text) =
    if byte == 45 then as_negative (written text) else (if byte == 43 then as_positive (written text) else as_positive (written (byte ∷ text)))

-- the number that a string is taken as: white space, a sign or none, a numeral, white space, and a number of 64 bits
abbrev pub text_number : List ℕ → Option ℤ
text_number text = signed_number (without_space_behind (without_space text))

-- ---- texts of numbers

-- the decimal text of a number, with `-` before one below 0
abbrev pub decimal_text : ℤ → List ℕ
decimal_text (pos n) = decimal n
decimal_text (negsuc n) = 45 ∷ decimal (suc n)
