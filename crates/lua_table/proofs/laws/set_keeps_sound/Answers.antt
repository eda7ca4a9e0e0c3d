use Rattle.lua_table.proofs.Walks.{none_sound, set_sound}
use Rattle.lua_table.proofs.laws.set_keeps_sound.Goals as goal

pub returns : goal.returns
returns c = (none_sound, set_sound)
