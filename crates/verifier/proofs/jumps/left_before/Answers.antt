-- Answers.
use Rattle.std.proofs.Common.{◌∙◌, arith}
use Rattle.proto.specs.View.{view_proto}
use Rattle.verifier.proofs.Scans.{left_behind}
use Rattle.verifier.proofs.jumps.left_before.Goals as goal

pub returns-in-Some : goal.returns-in-Some
returns-in-Some c = c.left_at.ensures ∙ left_behind (view_proto c.args.function.now) c.args.pc c.in-Some.before (omega (arith, c.in-Some.ensures))
