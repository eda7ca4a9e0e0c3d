use Rattle.std.proofs.Common.{◌≡◌, ◌+◌, ◌≤◌, drop}
use Rattle.asm_text.specs.Reading.{line_ends}
use Rattle.asm_text.proofs.assembling.line_ends.Given as goal

abbrev pub invariant-loop-byte : goal.invariant-loop-byte
invariant-loop-byte l = record { counted : l.ends + line_ends (drop l.byte-index l.text) ≡ line_ends l.text; few : l.ends ≤ l.byte-index }
