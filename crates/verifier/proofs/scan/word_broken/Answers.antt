-- Answers.
use Rattle.std.proofs.Common.{◌∙◌, sym}
use Rattle.proto.specs.View.{view_proto}
use Rattle.verifier.proofs.Broken.{word_first}
use Rattle.verifier.proofs.scan.word_broken.Goals as goal

pub returns-in-Some : goal.returns-in-Some
returns-in-Some c main notes at = word_first (view_proto c.args.function.now) main notes c.args.pc c.in-Some.instr _ _ (sym c.if-not-is_place.false ∙ c.is_place.ensures) c.in-Some.ensures.instr at c.broken_before_shape.ensures
