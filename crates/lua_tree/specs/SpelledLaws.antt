-- Serves the laws. What the two ways to say how a tree is spelled have to do with each other.
use Rattle.std.specs.Prelude.{◌≡◌, List}
use Rattle.lua_tree.specs.Syntax.{Source}
use Rattle.lua_tree.specs.Spelled.{SpellsSource}
use Rattle.lua_tree.specs.Spelling.{spell_source}
use Rattle.lua_tree.specs.OneLine.{on_one_line, tokens_on_one_line}
use Rattle.lua_tree.specs.TreeLists.{kinds_of}
use Rattle.lua_tree.specs.declared.token.Token.{Token}

-- the grammar with lines and the spelling without them give the same kinds
abbrev pub SpelledAsSpelling : Type 0
SpelledAsSpelling = (source : Source) (tokens : List Token) → SpellsSource source tokens → kinds_of tokens ≡ spell_source source

-- tokens of these kinds spell the source by the grammar with lines too, where all stands on one line
abbrev pub SpellingIsSpelled : Type 0
SpellingIsSpelled = (source : Source) (tokens : List Token) → kinds_of tokens ≡ spell_source source → SpellsSource (on_one_line source) (tokens_on_one_line tokens)
