use Rattle.std.proofs.Common.{◌≡◌, take}
use Rattle.lua_table.proofs.hashed.Hashed.from_pairs.Given as goal

abbrev pub invariant-loop-key : goal.invariant-loop-key
invariant-loop-key l = l.map.entries ≡ take l.key-index l.pairs
