-- To be believed. Accepted source: the bytes that are compiled (manual 2.1 to 2.6 and 8).
use Rattle.std.specs.Prelude.{ℕ, List}
use Rattle.lua_tree.specs.declared.token.Token.{Token}
use Rattle.lua_tree.specs.Tiling.{Lexes}
use Rattle.lua_tree.specs.Syntax.{Source}
use Rattle.lua_tree.specs.Trees.{IsTreeOf}
use Rattle.lua_tree.specs.Scoping.{Scoped}
use Rattle.scheme.specs.Scheme.{Fits}

-- tokens are lexed from the bytes that spell this well-formed tree, which keeps the rules of scoping and the limits of a chunk
pub record Accepts (bytes : List ℕ) (source : Source) : Type 0 where
  pub tokens : List Token
  pub lexed : Lexes bytes tokens
  pub parsed : IsTreeOf tokens source
  pub scoped : Scoped source
  pub fits : Fits source
