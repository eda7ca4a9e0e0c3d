-- Answers.
use Rattle.std.proofs.Common.{◌∙◌, false, sym, true}
use Rattle.proto.specs.View.{view_proto}
use Rattle.rules.specs.Breaks.{breaks}
use Rattle.verifier.proofs.Broken.{at_word, at_shape, at_end}
use Rattle.verifier.proofs.scan.broken_at.Goals as goal

pub returns-in-Some : goal.returns-in-Some
returns-in-Some c notes at = at_word (breaks (view_proto c.args.function.now) c.args.main notes c.args.pc) c.in-Some.rule (c.in-Some.ensures c.args.main notes at)

pub returns-then-shape_broken : goal.returns-then-shape_broken
returns-then-shape_broken c notes at = at_shape (breaks (view_proto c.args.function.now) c.args.main notes c.args.pc) (c.in_default.ensures c.args.main notes at) (sym c.shape_broken.ensures ∙ c.if-shape_broken.true)

pub returns-then-falls_off : goal.returns-then-falls_off
returns-then-falls_off c notes at = at_end (breaks (view_proto c.args.function.now) c.args.main notes c.args.pc) true (c.in_default.ensures c.args.main notes at) (sym c.shape_broken.ensures ∙ c.if-shape_broken.false) (sym (c.falls_off.ensures c.args.main notes) ∙ c.if-falls_off.true)

pub returns-else-falls_off : goal.returns-else-falls_off
returns-else-falls_off c notes at = at_end (breaks (view_proto c.args.function.now) c.args.main notes c.args.pc) false (c.in_default.ensures c.args.main notes at) (sym c.shape_broken.ensures ∙ c.if-shape_broken.false) (sym (c.falls_off.ensures c.args.main notes) ∙ c.if-falls_off.false)
