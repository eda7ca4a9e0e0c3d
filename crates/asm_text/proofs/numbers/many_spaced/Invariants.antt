use Rattle.std.proofs.Common.{◌≡◌, ◌-◌}
use Rattle.asm_text.specs.Reading.{spaced_many}
use Rattle.asm_text.proofs.Turns.{with_numbers}
use Rattle.asm_text.proofs.numbers.many_spaced.Given as goal

abbrev pub invariant-loop : goal.invariant-loop
invariant-loop l = with_numbers l.numbers.items (spaced_many 2147483648 (l.count - l.counter) l.rest) ≡ spaced_many 2147483648 l.count l.text
