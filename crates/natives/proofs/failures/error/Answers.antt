-- The first argument is the heap's.
use Rattle.std.proofs.Common.{sym, ap}
use Rattle.lua_model.specs.Acts.{fails}
use Rattle.natives.proofs.failures.error.Goals as goal

pub returns : goal.returns
returns c = λ h k. ((λ hosts e. ap fails (sym (c.first.ensures.value h))), c.first.ensures.known h k)
