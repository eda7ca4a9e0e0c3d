use Rattle.std.proofs.Common.{ℕ, List, ◌++◌, take}
use Rattle.lexer.specs.Lines.{IsCounted}
use Rattle.lexer.proofs.lines.LineCounter.advance.Given as goal

abbrev pub invariant-loop-byte : goal.invariant-loop-byte
invariant-loop-byte l = (done : List ℕ) → IsCounted done l.initial.self → IsCounted (done ++ take l.byte-index l.text) l.self
