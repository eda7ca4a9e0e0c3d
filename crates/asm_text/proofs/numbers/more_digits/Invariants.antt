use Rattle.std.proofs.Common.{◌≡◌, ◌<◌, drop}
use Rattle.asm_text.specs.Reading.{digits_from}
use Rattle.asm_text.proofs.numbers.more_digits.Given as goal

abbrev pub invariant-loop-at : goal.invariant-loop-at
invariant-loop-at l = record { goes : digits_from l.limit l.value (drop l.at l.text) ≡ digits_from l.limit l.initial.value l.text; small : l.value < l.limit }
