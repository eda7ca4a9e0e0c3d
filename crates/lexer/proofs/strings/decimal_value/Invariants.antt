use Rattle.std.proofs.Common.{◌≡◌, take}
use Rattle.lua_num.specs.Numeral.{digits_value}
use Rattle.lexer.proofs.strings.decimal_value.Given as goal

abbrev pub invariant-loop-digit : goal.invariant-loop-digit
invariant-loop-digit l = l.value ≡ digits_value (take l.digit-index l.digits)
