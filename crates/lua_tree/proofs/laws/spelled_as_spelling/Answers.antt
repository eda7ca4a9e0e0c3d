use Rattle.lua_tree.proofs.SpelledKinds.{spelled_as_spelling}
use Rattle.lua_tree.proofs.laws.spelled_as_spelling.Goals as goal

pub returns : goal.returns
returns c = spelled_as_spelling
