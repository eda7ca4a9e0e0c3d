use Rattle.lua_num.proofs.TextNumbers.{text_is}
use Rattle.lua_num.proofs.laws.text_number_writes.Goals as goal

pub returns : goal.returns
returns c = text_is
