use Rattle.lua_num.proofs.Numerals.{digits_utf8}
use Rattle.lua_num.proofs.numbers.radix_value.Goals as goal

pub returns-in-Err : goal.returns-in-Err
returns-in-Err c = λ h. c.in-Err.ensures.cases.0 (digits_utf8 c.args.radix c.args.digits.now c.requires.high h.0.1)
