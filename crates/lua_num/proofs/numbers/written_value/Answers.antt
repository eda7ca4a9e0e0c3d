use Rattle.lua_num.proofs.Numerals.{wrote_decimal, wrote_hexadecimal}
use Rattle.lua_num.proofs.numbers.written_value.Goals as goal

pub returns-in-Some-clause-value : goal.returns-in-Some-clause-value
returns-in-Some-clause-value c = (wrote_hexadecimal c.args.text.now c.in-Some.digits.now c.radix_value.result c.in-Some.ensures c.radix_value.ensures).value

pub returns-in-Some-clause-none : goal.returns-in-Some-clause-none
returns-in-Some-clause-none c = (wrote_hexadecimal c.args.text.now c.in-Some.digits.now c.radix_value.result c.in-Some.ensures c.radix_value.ensures).none

pub returns-in-None-clause-value : goal.returns-in-None-clause-value
returns-in-None-clause-value c = (wrote_decimal c.args.text.now c.radix_value-in-None.result c.in-None.ensures c.radix_value-in-None.ensures).value

pub returns-in-None-clause-none : goal.returns-in-None-clause-none
returns-in-None-clause-none c = (wrote_decimal c.args.text.now c.radix_value-in-None.result c.in-None.ensures c.radix_value-in-None.ensures).none
