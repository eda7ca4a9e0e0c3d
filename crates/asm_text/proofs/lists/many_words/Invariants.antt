use Rattle.std.proofs.Common.{◌≡◌, ◌-◌, false}
use Rattle.asm_text.specs.Reading.{word_line, next_word, many_at}
use Rattle.asm_text.proofs.Loop.{with_front}
use Rattle.asm_text.proofs.lists.many_words.Given as goal

abbrev pub invariant-loop-pc : goal.invariant-loop-pc
invariant-loop-pc l = with_front l.words.items (many_at word_line next_word (l.raw, l.pc) (l.count - l.pc) l.rest) ≡ many_at word_line next_word (false, 0) l.count l.bytes
