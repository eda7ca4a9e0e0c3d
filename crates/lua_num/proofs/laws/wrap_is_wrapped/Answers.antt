use Rattle.lua_num.proofs.Wraps.{wrap_is}
use Rattle.lua_num.proofs.laws.wrap_is_wrapped.Goals as goal

pub returns : goal.returns
returns c = wrap_is
