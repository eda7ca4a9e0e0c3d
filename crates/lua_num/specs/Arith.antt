-- To be believed. Arithmetic on whole numbers of 64 bits (manual 2.5.1, with whole numbers): sums, differences, products,
-- negation and powers wrap, division truncates, and a remainder goes by the floor of the quotient.
use Rattle.std.specs.Prelude.{ℕ, zero, suc, ◌-◌, ◌%◌, ◌^◌, nat_lt, Bool, ℤ, pos, negsuc, neg_ℤ, ◌+ℤ◌, ◌-ℤ◌, ◌*ℤ◌, int_div, Result, Ok, Err, if◌then◌else◌}
use Rattle.std.specs.Int.{int_div_euclid}
use Rattle.lua_num.specs.declared.arith.ArithOp.{ArithOp}
use Rattle.lua_num.specs.declared.arith.NumFault.{NumFault}

-- the number of 64 bits, with a sign, that has this remainder by 2^64
abbrev pub of_remainder : ℕ → ℤ
of_remainder n = if nat_lt n (2 ^ 63) then pos n else negsuc (2 ^ 64 - 1 - n)

-- a number, wrapped to 64 bits
abbrev pub wrap : ℤ → ℤ
wrap (pos n) = of_remainder (n % 2 ^ 64)
wrap (negsuc n) = of_remainder (2 ^ 64 - 1 - n % 2 ^ 64)

-- whether a number has 64 bits
abbrev pub fits : ℤ → Bool
fits (pos n) = nat_lt n (2 ^ 63)
fits (negsuc n) = nat_lt n (2 ^ 63)

-- the product of n factors a
abbrev pub power : ℤ → ℕ → ℤ
power a zero = pos 1
power a (suc n) = a *ℤ power a n

-- the floor of the exact quotient, where b is not 0
abbrev pub floor_quotient : ℤ → ℤ → ℤ
floor_quotient a (pos b) = int_div_euclid a (pos b)
floor_quotient a (negsuc b) = int_div_euclid (neg_ℤ a) (pos (suc b))

-- a minus b times the floor of the exact quotient
abbrev pub floor_remainder : ℤ → ℤ → ℤ
floor_remainder a b = a -ℤ b *ℤ floor_quotient a b

abbrev pub negation : ℤ → ℤ
negation a = wrap (pos 0 -ℤ a)

-- what an operator gives for two numbers
abbrev pub outcome : ArithOp → ℤ → ℤ → Result ℤ NumFault
outcome ArithOp.Add a b = Ok (wrap (a +ℤ b))
outcome ArithOp.Sub a b = Ok (wrap (a -ℤ b))
outcome ArithOp.Mul a b = Ok (wrap (a *ℤ b))
outcome ArithOp.Div a (pos zero) = Err NumFault.DivideByZero
outcome ArithOp.Div a b = Ok (wrap (int_div a b))
outcome ArithOp.Rem a (pos zero) = Err NumFault.DivideByZero
outcome ArithOp.Rem a b = Ok (floor_remainder a b)
outcome ArithOp.Pow a (pos n) = Ok (wrap (power a n))
outcome ArithOp.Pow a (negsuc n) = Err NumFault.NegativeExponent
