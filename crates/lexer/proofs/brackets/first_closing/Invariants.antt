use Rattle.std.proofs.Common.{◌≡◌, ℕ, ◌<◌, false, drop}
use Rattle.lua_tree.specs.Bytes.{has_front}
use Rattle.lua_tree.specs.Brackets.{closing}
use Rattle.lexer.proofs.brackets.first_closing.Given as goal

-- no closing stands before the place
abbrev pub invariant-loop-at : goal.invariant-loop-at
invariant-loop-at l = (k : ℕ) → k < l.at → has_front (closing l.level) (drop k l.text) ≡ false
