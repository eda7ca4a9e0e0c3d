use Rattle.lua_table.proofs.Writes.{set_other, place_stays}
use Rattle.lua_table.proofs.laws.keys_stay_apart.Goals as goal

pub returns : goal.returns
returns c = λ ps k v l. (set_other ps k v l, place_stays ps k v l)
