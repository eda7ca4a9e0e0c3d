use Rattle.std.proofs.Common.{subst}
use Rattle.proto.specs.View.{view_proto}
use Rattle.suite.specs.Trying.{IsTried}
use Rattle.suite.proofs.Tried.{told_behind, made_failed, made_unfinished, made_refused_out, made_no_memory}
use Rattle.suite.proofs.trying.run_and_tell.Goals as goal

pub returns-in-Done : goal.returns-in-Done
returns-in-Done g c = λ has count contents calls.
    told_behind c.args.bytes.now (view_proto c.args.chunk.now) has c.proto-proto.ensures.sound _ _ count contents calls _ _ _ _ _ _ c.tell.result c.in-Done.ensures (subst (λ p. IsTried c.args.bytes.now (view_proto p) c.tell.result (g.O.Sink.taken c.run.new.out) (g.O.Sink.taken c.tell.new.out) (g.O.Sink.faults c.run.new.out) (g.O.Sink.faults c.tell.new.out)) c.proto-proto.ensures.proto c.tell.ensures)

pub returns-in-Failed : goal.returns-in-Failed
returns-in-Failed g c = λ has count contents calls.
    made_failed c.args.bytes.now (view_proto c.args.chunk.now) has c.proto-proto.ensures.sound _ _ count contents calls _ _ _ _ c.in-Failed.why c.in-Failed.ensures

pub returns-in-Unfinished : goal.returns-in-Unfinished
returns-in-Unfinished g c = λ has count contents calls.
    made_unfinished c.args.bytes.now (view_proto c.args.chunk.now) has c.proto-proto.ensures.sound _ _ count contents calls _ _ _ _ c.in-Unfinished.ensures

pub returns-in-OutFault : goal.returns-in-OutFault
returns-in-OutFault g c = λ has count contents calls.
    made_refused_out c.args.bytes.now (view_proto c.args.chunk.now) has c.proto-proto.ensures.sound _ _ count contents calls _ _ _ _ c.in-OutFault.ensures

pub returns-in-OutOfMemory : goal.returns-in-OutOfMemory
returns-in-OutOfMemory g c = λ has count contents calls.
    made_no_memory c.args.bytes.now (view_proto c.args.chunk.now) has c.proto-proto.ensures.sound _ _ count contents calls _ _ _ _ c.in-OutOfMemory.ensures
