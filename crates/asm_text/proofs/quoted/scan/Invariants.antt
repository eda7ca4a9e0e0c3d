use Rattle.std.proofs.Common.{◌≡◌, drop}
use Rattle.asm_text.specs.declared.quoted.Spot.{Spot}
use Rattle.asm_text.specs.Reading.{scan_at}
use Rattle.asm_text.proofs.Turns.{with_text}
use Rattle.asm_text.proofs.quoted.scan.Given as goal

abbrev pub invariant-loop-at : goal.invariant-loop-at
invariant-loop-at l = with_text l.out (scan_at l.spot (drop l.at l.text)) ≡ scan_at Spot.Plain l.text
