use Rattle.std.proofs.Common.{◌≡◌, ◌+◌, ◌≤◌, drop}
use Rattle.asm_text.specs.Reading.{differing_line}
use Rattle.asm_text.proofs.assembling.differing_line.Given as goal

abbrev pub invariant-loop-at : goal.invariant-loop-at
invariant-loop-at l = record { counted : l.line + differing_line (drop l.at l.text) (drop l.at l.other) ≡ differing_line l.text l.other + 1; few : l.line ≤ l.at + 1 }
