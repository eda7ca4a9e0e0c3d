use Rattle.std.proofs.Common.{◌≡◌, ◌-◌}
use Rattle.asm_text.specs.Reading.{whole_quoted_at, item_at, line_at, many_at, next_number}
use Rattle.asm_text.proofs.Loop.{with_front}
use Rattle.asm_text.proofs.lists.many_names.Given as goal

abbrev pub invariant-loop-number : goal.invariant-loop-number
invariant-loop-number l = with_front l.names (many_at (λ n. line_at (item_at whole_quoted_at n)) next_number l.number (l.count - l.number) l.rest) ≡ many_at (λ n. line_at (item_at whole_quoted_at n)) next_number 0 l.count l.bytes
