use Rattle.std.proofs.Common.{refl, arith}
use Rattle.lexer.proofs.PieceLemmas.{bad_byte_here}
use Rattle.lexer.proofs.piece.mark_piece.Goals as goal

pub returns-in-None-clause-fault : goal.returns-in-None-clause-fault
returns-in-None-clause-fault c = (0, (refl, bad_byte_here c.args.at c.args.text.now c.requires.some c.requires.left c.in-None.ensures.none), omega arith)
