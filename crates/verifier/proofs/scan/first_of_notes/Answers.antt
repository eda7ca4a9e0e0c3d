-- Answers.
use Rattle.std.proofs.Common.{ap, arith, sym}
use Rattle.proto.specs.View.{view_proto}
use Rattle.verifier.specs.Registers.{meant_in, notes_of}
use Rattle.verifier.proofs.Broken.{found_rejected, none_at, none_noted}
use Rattle.verifier.proofs.scan.first_of_notes.Goals as goal

pub returns-in-Some : goal.returns-in-Some
returns-in-Some c = found_rejected (view_proto c.args.function.now) c.args.main (notes_of c.args.notes.now) c.loop-pc.pc c.in-Some.rule c.requires.least (c.in-Some.ensures (notes_of c.args.notes.now) (ap meant_in (sym c.note_at.ensures))) c.loop-pc.invariant

pub loop-pc-preserved : goal.loop-pc-preserved
loop-pc-preserved c = none_at (view_proto c.args.function.now) c.args.main (notes_of c.args.notes.now) c.loop-pc.pc (c.in_default.ensures (notes_of c.args.notes.now) (ap meant_in (sym c.note_at.ensures))) c.loop-pc.invariant

pub returns : goal.returns
returns c = none_noted (view_proto c.args.function.now) c.args.main (notes_of c.args.notes.now) c.loop-pc.pc c.requires.least (omega (arith, c.len.ensures.len, c.max-pc-end.ensures, c.loop-pc-test.false)) (omega (arith, c.max-pc-end.ensures, c.loop-pc-test.false)) c.loop-pc.invariant
