use Rattle.lua_heap.specs.Grown.{Grown}
use Rattle.machine.proofs.CallTurns.{goes_to_itself, goes_through, goes_nowhere}
use Rattle.machine.proofs.calling.invoking.target_of.Goals as goal

pub returns-in-Plain : goal.returns-in-Plain
returns-in-Plain c =
    let grown : Grown c.args.heap.now c.callee.new.heap = record { only_texts = c.callee.ensures.only_texts; keeps = c.callee.ensures.keeps } in
    goes_to_itself c.args.f c.args.args c.in_ok-f.field-0 c.in_ok-f.ensures.callee c.in_ok-f.ensures.known grown c.requires.f c.requires.args c.in-Plain.f c.in-Plain.is

pub returns-in_ok-with_called-in-Through : goal.returns-in_ok-with_called-in-Through
returns-in_ok-with_called-in-Through c =
    let grown : Grown c.args.heap.now c.callee.new.heap = record { only_texts = c.callee.ensures.only_texts; keeps = c.callee.ensures.keeps } in
    goes_through c.args.f c.args.args c.in_ok-f.field-0 c.in_ok-f.ensures.callee c.in_ok-f.ensures.known grown c.requires.f c.requires.args c.in-Through.handler c.in_ok-with_called-in-Through.field-0 c.in-Through.is c.in_ok-with_called-in-Through.ensures

pub returns-in-Fail : goal.returns-in-Fail
returns-in-Fail c =
    let grown : Grown c.args.heap.now c.callee.new.heap = record { only_texts = c.callee.ensures.only_texts; keeps = c.callee.ensures.keeps } in
    goes_nowhere c.args.f c.args.args c.in_ok-f.field-0 c.in_ok-f.ensures.callee c.in_ok-f.ensures.known grown c.requires.f c.requires.args c.in-Fail.v c.in-Fail.is
