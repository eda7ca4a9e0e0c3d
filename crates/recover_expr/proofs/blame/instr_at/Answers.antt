-- Answers.
use Rattle.proto.specs.Chunk.{own}
use Rattle.proto.specs.View.{view_proto}
use Rattle.recover_expr.proofs.Blames.{read_is}
use Rattle.recover_expr.proofs.blame.instr_at.Goals as goal

pub returns-in-Some-clause-word : goal.returns-in-Some-clause-word
returns-in-Some-clause-word c = read_is (own (view_proto c.args.proto.now)) _ c.args.pc _ _ c.code_of.ensures c.in-Some.ensures.lookup.0 c.in-Some.ensures.lookup.1 c.decode.ensures.reading
