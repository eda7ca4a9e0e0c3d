use Rattle.asm_text.proofs.Words.{read_in_range}
use Rattle.asm_text.proofs.code.shown_word_of.Goals as goal

pub encode-requires : goal.encode-requires
encode-requires c = read_in_range c.args.text.now c.in_ok-instr.instr c.in_ok-instr.rest.now c.in_ok-instr.ensures
