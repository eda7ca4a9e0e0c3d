use Rattle.proto.specs.View.{view_proto}
use Rattle.suite.proofs.Ran.{run_done, run_failed, run_unfinished, run_refused_out, run_no_memory}
use Rattle.suite.proofs.running.run_chunk.Goals as goal

pub returns-in-Done : goal.returns-in-Done
returns-in-Done g c = λ file bytes has contents calls.
    run_done file c.args.steps bytes (view_proto c.args.chunk.now) has c.proto.ensures.sound _ _ contents calls _ _ _ _ c.in-Done.ensures

pub returns-in-Failed : goal.returns-in-Failed
returns-in-Failed g c = λ file bytes has contents calls.
    run_failed file c.args.steps bytes (view_proto c.args.chunk.now) has c.proto.ensures.sound _ _ contents calls _ _ _ _ c.in-Failed.why c.in-Failed.ensures

pub returns-in-Unfinished : goal.returns-in-Unfinished
returns-in-Unfinished g c = λ file bytes has contents calls.
    run_unfinished file c.args.steps bytes (view_proto c.args.chunk.now) has c.proto.ensures.sound _ _ contents calls _ _ _ _ c.in-Unfinished.ensures

pub returns-in-OutFault : goal.returns-in-OutFault
returns-in-OutFault g c = λ file bytes has contents calls.
    run_refused_out file c.args.steps bytes (view_proto c.args.chunk.now) has c.proto.ensures.sound _ _ contents calls _ _ _ _ c.in-OutFault.ensures

pub returns-in-OutOfMemory : goal.returns-in-OutOfMemory
returns-in-OutOfMemory g c = λ file bytes has contents calls.
    run_no_memory file c.args.steps bytes (view_proto c.args.chunk.now) has c.proto.ensures.sound _ _ contents calls _ _ _ _ c.in-OutOfMemory.ensures
