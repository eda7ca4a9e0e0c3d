-- To be believed. The place where tokens are no tree.
use Rattle.std.specs.Prelude.{◌≡◌, true, ℕ, ◌+◌, ◌<◌, ◌≤◌, List, ◌++◌, length, take}
use Rattle.lua_tree.specs.Syntax.{Source}
use Rattle.lua_tree.specs.WellFormed.{WellFormed, is_formed}
use Rattle.lua_tree.specs.Spelled.{SpellsSource}
use Rattle.lua_tree.specs.Trees.{IsTreeOf}
use Rattle.lua_tree.specs.declared.token.Token.{Token}
use Rattle.parser.specs.declared.fault.SyntaxFault.{SyntaxFault}

-- a tree of this kind is spelled by tokens that begin with these
pub record BeginsTree (Kind : Source → Type 0) (front : List Token) : Type 0 where
  pub source : Source
  pub others : List Token
  pub kind : Kind source
  pub spelled : SpellsSource source (front ++ others)

-- a tree that keeps every rule, but that of depth maybe
abbrev pub IsFormed : Source → Type 0
IsFormed source = is_formed source ≡ true

-- the tokens before a place begin a well-formed tree, those with the next one begin none, and all of them are of none
pub record StopsAt (tokens : List Token) (at : ℕ) : Type 0 where
  pub within : at ≤ length tokens
  pub before : BeginsTree WellFormed (take at tokens)
  pub no_more : at < length tokens → BeginsTree WellFormed (take (at + 1) tokens) → ⊥
  pub no_tree : (source : Source) → IsTreeOf tokens source → ⊥

-- nor do they of a tree that is too deep
pub record IsUnexpectedAt (tokens : List Token) (at : ℕ) : Type 0 where
  pub stops : StopsAt tokens at
  pub no_deeper : at < length tokens → BeginsTree IsFormed (take (at + 1) tokens) → ⊥
  pub no_deep_tree : (source : Source) → is_formed source ≡ true → SpellsSource source tokens → ⊥

-- but they do of one that is too deep
pub record IsTooDeepAt (tokens : List Token) (at : ℕ) : Type 0 where
  pub stops : StopsAt tokens at
  pub within : at < length tokens
  pub deeper : BeginsTree IsFormed (take (at + 1) tokens)

-- what a fault says of tokens
abbrev pub IsFaultOf : List Token → SyntaxFault → Type 0
IsFaultOf tokens (SyntaxFault.Unexpected at) = IsUnexpectedAt tokens at
IsFaultOf tokens (SyntaxFault.TooDeep at) = IsTooDeepAt tokens at
IsFaultOf tokens SyntaxFault.OutOfMemory = ⊥

-- a fault that is answered is one of the tokens; want of memory says nothing
abbrev pub StopsBy : List Token → SyntaxFault → Type 0
StopsBy tokens SyntaxFault.OutOfMemory = Unit {0}
StopsBy tokens fault = IsFaultOf tokens fault
