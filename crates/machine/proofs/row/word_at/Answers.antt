use Rattle.opcode.specs.declared.op.Op.{Op}
use Rattle.machine.specs.Decoded.{instr_in}
use Rattle.machine.proofs.InPlace.{goes_on_word, quick_goes}
use Rattle.machine.proofs.WordsInRow.{if_some_all}
use Rattle.machine.proofs.row.word_at.Goals as goal

pub returns-in_default-clause-some : goal.returns-in_default-clause-some
returns-in_default-clause-some c fs at =
    let made = c.quick_at.ensures in
    if_some_all c.quick_at.result _ _ _ _ (λ next does frames shares. quick_goes fs c.args.function.now c.args.running.now c.quick_at.new.running c.args.pc next (instr_in c.args.word) at made.rest does frames shares) made.some made.frames made.shares

pub returns-in-GetUpval-clause-some : goal.returns-in-GetUpval-clause-some
returns-in-GetUpval-clause-some c fs at = goes_on_word c.args.word c.abc.result c.abc.ensures Op.GetUpval c.in-GetUpval.is (c.get_upvalue.ensures.does fs c.args.pc)

pub returns-in-SetUpval-clause-some : goal.returns-in-SetUpval-clause-some
returns-in-SetUpval-clause-some c fs at = goes_on_word c.args.word c.abc-in-SetUpval.result c.abc-in-SetUpval.ensures Op.SetUpval c.in-SetUpval.is (c.set_upvalue.ensures.does fs c.args.pc)

pub returns-in-Close-clause-some : goal.returns-in-Close-clause-some
returns-in-Close-clause-some c fs at = goes_on_word c.args.word c.abc-in-Close.result c.abc-in-Close.ensures Op.Close c.in-Close.is (c.close.ensures.does fs c.args.pc)
