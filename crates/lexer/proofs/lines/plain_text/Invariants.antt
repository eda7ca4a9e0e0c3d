use Rattle.std.proofs.Common.{ℕ, List, ◌++◌, length}
use Rattle.lexer.specs.Lines.{IsPlain}
use Rattle.lexer.proofs.lines.plain_text.Given as goal

abbrev pub invariant-loop-byte : goal.invariant-loop-byte
invariant-loop-byte l = (bytes : List ℕ) → IsPlain l.rest bytes → IsPlain l.text (l.plain ++ bytes)

abbrev pub decreases-loop-byte : goal.decreases-loop-byte
decreases-loop-byte l = length l.rest
