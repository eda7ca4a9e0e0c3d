-- By the fields of each format.
use Rattle.opcode.proofs.WordReading.{word_is_read, no_word_is_read, read_back, unread}
use Rattle.opcode.proofs.word.words_are_read.Goals as goal

pub returns-clause-some : goal.returns-clause-some
returns-clause-some c = word_is_read

pub returns-clause-none : goal.returns-clause-none
returns-clause-none c = no_word_is_read

pub returns-clause-back : goal.returns-clause-back
returns-clause-back c = read_back

pub returns-clause-refused : goal.returns-clause-refused
returns-clause-refused c = unread
