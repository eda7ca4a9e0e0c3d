-- To be believed. A text of a source.
use Rattle.std.specs.Prelude.{◌≡◌, ℕ, List, map}
use Rattle.lua_tree.specs.Syntax.{Source}
use Rattle.lua_tree.specs.declared.token.Token.{Token}
use Rattle.lua_tree.specs.Tiling.{Lexes}
use Rattle.lua_tree.specs.Trees.{IsTreeOf}
use Rattle.lua_tree.specs.Spelling.{spell_source}
use Rattle.lua_tree.specs.OneLine.{on_one_line}

-- The text has the tokens of the source, and is read as that source but for its lines: so each `(` of arguments stands on the line of the token before it.
pub record IsTextOf (source : Source) (text : List ℕ) : Type 0 where
  pub tokens : List Token
  pub lexed : Lexes text tokens
  pub kinds : map (λ token. token.kind) tokens ≡ spell_source source
  pub read : Source
  pub parsed : IsTreeOf tokens read
  pub same : on_one_line read ≡ on_one_line source
