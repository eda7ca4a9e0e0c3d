-- The definitions, computed on small texts and numbers.
use Rattle.std.proofs.Common.{◌≡◌, pos, negsuc, Some, None, refl}
use Rattle.std.specs.Prelude.{codes}
use Rattle.std.specs.Fmt.{digits}
use Rattle.lua_num.specs.Numeral.{numeral_number, text_number, decimal_text}

-- zeros in front count for nothing
seven : numeral_number (codes "007") ≡ Some (pos 7)
seven = refl

greatest : numeral_number (codes "9223372036854775807") ≡ Some (pos 9223372036854775807)
greatest = refl

sixteen : numeral_number (codes "0x10") ≡ Some (pos 16)
sixteen = refl

-- letters of either case
byte : numeral_number (codes "0XfF") ≡ Some (pos 255)
byte = refl

-- one past the greatest is no numeral, and so are the empty text, one with a letter, and `0x` alone
past_greatest_is_none : numeral_number (codes "9223372036854775808") ≡ None
past_greatest_is_none = refl

empty_is_none : numeral_number (codes "") ≡ None
empty_is_none = refl

letter_is_none : numeral_number (codes "1x") ≡ None
letter_is_none = refl

mark_is_none : numeral_number (codes "0x") ≡ None
mark_is_none = refl

-- `negsuc 15` is -16
signed_is_taken : text_number (codes " -0x10 ") ≡ Some (negsuc 15)
signed_is_taken = refl

space_inside_is_none : text_number (codes "1 2") ≡ None
space_inside_is_none = refl

-- the least number, whose digits alone are no good numeral
least_is_taken : text_number (codes "-9223372036854775808") ≡ Some (negsuc 9223372036854775807)
least_is_taken = refl

text_of_zero : decimal_text (pos 0) ≡ codes "0"
unfolding digits
text_of_zero = refl

text_of_hundred_twenty : decimal_text (pos 120) ≡ codes "120"
unfolding digits
text_of_hundred_twenty = refl

-- `negsuc 9` is -10
text_of_minus_ten : decimal_text (negsuc 9) ≡ codes "-10"
unfolding digits
text_of_minus_ten = refl
