use Rattle.proto.specs.View.{view_proto}
use Rattle.machine.proofs.RunSteps.{is_ready, broke_off, not_put, no_memory_to_put, going_on, at_end, has_failed}
use Rattle.machine.proofs.machine.step_on.Goals as goal

pub turn-requires-clause-ready : goal.turn-requires-clause-ready
turn-requires-clause-ready g c =
    let (hosts, events, n, at) = c.requires.at in
    is_ready (view_proto c.args.chunk.now) c.proto.ensures.sound hosts events n _ c.args.machine.now at c.as_slice.result.now c.as_slice.ensures.value

pub returns-in_default-clause-steps : goal.returns-in_default-clause-steps
returns-in_default-clause-steps g c hosts events n at =
    broke_off (view_proto c.args.chunk.now) c.proto.ensures.sound hosts events n _ c.args.machine.now at _ c.as_slice.result.now c.as_slice.ensures.value c.in_default.ensures.broke_off _ _ _

pub returns-in-Err-Failed-clause-steps : goal.returns-in-Err-Failed-clause-steps
returns-in-Err-Failed-clause-steps g c hosts events n at =
    not_put (view_proto c.args.chunk.now) c.proto.ensures.sound hosts events n _ c.args.machine.now at c.turn.new.running _ c.in-Ok.settled c.as_slice.result.now c.as_slice.ensures.value c.in-Ok.ensures.steps _ _ _ _ _ c.in-Err-Failed.ensures.part c.put_pieces.ensures.never_falls (c.in-Err-Failed.ensures.risen (cc))

pub returns-in-Err-OutOfMemory-clause-steps : goal.returns-in-Err-OutOfMemory-clause-steps
returns-in-Err-OutOfMemory-clause-steps g c hosts events n at =
    no_memory_to_put (view_proto c.args.chunk.now) c.proto.ensures.sound hosts events n _ c.args.machine.now at c.turn.new.running _ c.in-Ok.settled c.as_slice.result.now c.as_slice.ensures.value c.in-Ok.ensures.steps _ _ _ _ _ c.in-Err-OutOfMemory.ensures.part c.put_pieces.ensures.never_falls

pub returns-in-Going-clause-steps : goal.returns-in-Going-clause-steps
returns-in-Going-clause-steps g c hosts events n at =
    (going_on (view_proto c.args.chunk.now) c.proto.ensures.sound hosts events n _ c.args.machine.now at c.turn.new.running _ c.in-Ok.settled c.as_slice.result.now c.as_slice.ensures.value c.in-Ok.ensures.steps _ _ _ _ c.put_pieces.new.pieces c.in-Going.is c.in-Ok-put_pieces.ensures.whole c.in-Ok-put_pieces.ensures.none c.put_pieces.ensures.never_falls).stepped

pub returns-in-Going-clause-closes : goal.returns-in-Going-clause-closes
returns-in-Going-clause-closes g c hosts events n at same =
    going_on (view_proto c.args.chunk.now) c.proto.ensures.sound hosts events n _ c.args.machine.now at c.turn.new.running _ c.in-Ok.settled c.as_slice.result.now c.as_slice.ensures.value c.in-Ok.ensures.steps _ _ _ _ c.put_pieces.new.pieces c.in-Going.is c.in-Ok-put_pieces.ensures.whole c.in-Ok-put_pieces.ensures.none c.put_pieces.ensures.never_falls

pub returns-in-Done-clause-steps : goal.returns-in-Done-clause-steps
returns-in-Done-clause-steps g c hosts events n at =
    at_end (view_proto c.args.chunk.now) c.proto.ensures.sound hosts events n _ c.args.machine.now at c.turn.new.running _ c.in-Ok.settled c.as_slice.result.now c.as_slice.ensures.value c.in-Ok.ensures.steps _ _ _ _ _ c.in-Done.is c.in-Ok-put_pieces.ensures.whole c.put_pieces.ensures.never_falls

pub returns-in-Failed-clause-steps : goal.returns-in-Failed-clause-steps
returns-in-Failed-clause-steps g c hosts events n at =
    has_failed (view_proto c.args.chunk.now) c.proto.ensures.sound hosts events n _ c.args.machine.now at c.turn.new.running _ c.in-Ok.settled c.as_slice.result.now c.as_slice.ensures.value c.in-Ok.ensures.steps _ _ _ _ _ c.in-Failed.text c.in-Failed.is c.in-Ok-put_pieces.ensures.whole c.put_pieces.ensures.never_falls
