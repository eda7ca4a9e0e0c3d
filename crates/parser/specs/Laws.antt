-- Serves the laws. What the grammar says of all tokens.
use Rattle.std.specs.Prelude.{◌≡◌, List}
use Rattle.lua_tree.specs.Syntax.{Source}
use Rattle.lua_tree.specs.Trees.{IsTreeOf}
use Rattle.lua_tree.specs.declared.token.Token.{Token}
use Rattle.parser.specs.declared.fault.SyntaxFault.{SyntaxFault}
use Rattle.parser.specs.Places.{IsFaultOf}

abbrev pub TreesAreOne : Type 0
TreesAreOne = (tokens : List Token) (one other : Source) → IsTreeOf tokens one → IsTreeOf tokens other → one ≡ other

abbrev pub FaultsAreOne : Type 0
FaultsAreOne = (tokens : List Token) (one other : SyntaxFault) → IsFaultOf tokens one → IsFaultOf tokens other → one ≡ other

abbrev pub NeverBoth : Type 0
NeverBoth = (tokens : List Token) (source : Source) (fault : SyntaxFault) → IsTreeOf tokens source → IsFaultOf tokens fault → ⊥
