use Rattle.lua_num.proofs.Written.{numeral_is}
use Rattle.lua_num.proofs.laws.numeral_writes.Goals as goal

pub returns : goal.returns
returns c = numeral_is
