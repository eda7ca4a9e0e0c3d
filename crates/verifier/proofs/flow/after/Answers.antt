-- Answers.
use Rattle.proto.specs.View.{view_proto}
use Rattle.verifier.specs.Registers.{meant}
use Rattle.verifier.proofs.After.{after_alike}
use Rattle.verifier.proofs.flow.after.Goals as goal

pub returns : goal.returns
returns c = after_alike (view_proto c.args.function.now) c.args.pc c.args.instr (meant c.args.note) (meant c.hit.result) (meant c.let_go_by-note.result) (meant c.captured-note.result) (meant c.prepared_by.result) _ _ c.closure_words.result.now c.written-first.ensures c.closure_words.ensures c.hit.ensures c.let_go_by-note.ensures c.captured-note.ensures c.prepared_by.ensures
