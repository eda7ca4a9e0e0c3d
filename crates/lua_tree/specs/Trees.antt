-- To be believed. The tree of tokens (manual 8).
use Rattle.std.specs.Prelude.{List}
use Rattle.lua_tree.specs.Syntax.{Source}
use Rattle.lua_tree.specs.WellFormed.{WellFormed}
use Rattle.lua_tree.specs.Spelled.{SpellsSource}
use Rattle.lua_tree.specs.declared.token.Token.{Token}

-- a well-formed tree that tokens spell, with their lines
pub record IsTreeOf (tokens : List Token) (source : Source) : Type 0 where
  pub well_formed : WellFormed source
  pub spelled : SpellsSource source tokens
