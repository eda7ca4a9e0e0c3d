-- What was gone through and the rest make the whole, with some tokens.
use Rattle.std.proofs.Common.{◌≤◌, ◌-◌, List, length, drop}
use Rattle.lua_tree.specs.declared.token.Token.{Token}
use Rattle.lexer.proofs.LexLemmas.{Lexing}
use Rattle.lexer.proofs.tokenize.check.Given as goal

abbrev pub invariant-loop-at : goal.invariant-loop-at
invariant-loop-at l = record {
  within : l.at ≤ length l.bytes;
  lexing : (tokens : List Token) × Lexing l.bytes (drop l.at l.bytes) l.at tokens;
}

abbrev pub decreases-loop-at : goal.decreases-loop-at
decreases-loop-at l = length l.bytes - l.at
