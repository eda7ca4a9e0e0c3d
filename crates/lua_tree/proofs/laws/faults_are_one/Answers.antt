use Rattle.lua_tree.proofs.Exclusion.{one_stop}
use Rattle.lua_tree.proofs.laws.faults_are_one.Goals as goal

pub returns : goal.returns
returns c = λ bytes cause other a b x y. let same = one_stop bytes cause other a b x y in (same.causes, same.places)
