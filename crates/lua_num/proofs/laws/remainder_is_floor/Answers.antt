use Rattle.lua_num.proofs.Wraps.{remainder_is}
use Rattle.lua_num.proofs.laws.remainder_is_floor.Goals as goal

pub returns : goal.returns
returns c = remainder_is
