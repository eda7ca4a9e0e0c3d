-- Answers.
use Rattle.std.proofs.Common.{◌∙◌, arith, sym}
use Rattle.proto.specs.Chunk.{own}
use Rattle.proto.specs.View.{view_proto}
use Rattle.rules.specs.Places.{further_words}
use Rattle.verifier.proofs.Scans.{vararg_some, vararg_none, vararg_end, length-further}
use Rattle.verifier.proofs.scan.has_vararg.Goals as goal

pub returns-then-is_vararg_at : goal.returns-then-is_vararg_at
returns-then-is_vararg_at c = vararg_some (further_words (view_proto c.args.function.now)) (own (view_proto c.args.function.now)).code c.loop-pc.pc _ (length-further _ 0 _) (omega arith) (sym c.is_vararg_at.ensures ∙ c.if-is_vararg_at.true) c.loop-pc.invariant.1

pub loop-pc-preserved : goal.loop-pc-preserved
loop-pc-preserved c = (omega arith, vararg_none (further_words (view_proto c.args.function.now)) (own (view_proto c.args.function.now)).code c.loop-pc.pc _ (length-further _ 0 _) (omega arith) (sym c.is_vararg_at.ensures ∙ c.if-is_vararg_at.false) c.loop-pc.invariant.1)

pub returns : goal.returns
returns c = vararg_end (further_words (view_proto c.args.function.now)) (own (view_proto c.args.function.now)).code c.loop-pc.pc _ (omega arith) c.loop-pc.invariant.1
