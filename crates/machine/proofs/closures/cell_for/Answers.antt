use Rattle.std.proofs.Common.{◌∙◌, Result, Ok, Err, length, sym, refl}
use Rattle.std.specs.Result.{IfOk}
use Rattle.opcode.specs.Reading.{instr_of}
use Rattle.upvalue.specs.State.{top}
use Rattle.machine.specs.Seen.{cells_in}
use Rattle.machine.proofs.CapturedCells.{names_register, names_upvalue, captured_heap, move_takes, upvalue_takes}
use Rattle.machine.proofs.closures.cell_for.Goals as goal

both_ok : {T E : Type 0} (r : Result T E) (P Q R : T → Type 0) → ((x : T) → P x → Q x → R x) → IfOk r P → IfOk r Q → IfOk r R
both_ok (Ok x) P Q R f p q = f x p q
both_ok (Err e) P Q R f p q = p

pub returns-in-Move : goal.returns-in-Move
returns-in-Move c =
    let old = c.args.running.now in
    let heap = c.capture.new.heap in
    let stack = c.capture.new.self in
    let did = c.capture.ensures in
    let i = c.in-Some.i in
    let read = sym c.decode.ensures.reading ∙ c.in-Some.is in
    let within = names_register (length (top old.stack.frames)) (length (cells_in old.heap old.top.closure)) (instr_of c.args.word) i read c.in-Move.is c.requires.capture in
    both_ok c.capture.result _ _ _ (λ cell is known. move_takes old heap stack c.args.word i cell read c.in-Move.is within is known (record { machine = refl; heap = captured_heap old.stack.frames i.b cell.index old.heap heap is; frames = did.frames; shares = did.shares; keeps = did.keeps; no_fewer = did.no_fewer })) did.cell did.there

pub returns-in-GetUpval : goal.returns-in-GetUpval
returns-in-GetUpval c =
    let old = c.args.running.now in
    let i = c.in-Some.i in
    let read = sym c.decode.ensures.reading ∙ c.in-Some.is in
    let cells = cells_in old.heap old.top.closure in
    let within = names_upvalue (length (top old.stack.frames)) (length cells) (instr_of c.args.word) i read c.in-GetUpval.is c.requires.capture in
    upvalue_takes old c.args.word i c.upvalue.result read c.in-GetUpval.is within c.upvalue.ensures.cell c.upvalue.ensures.there c.requires.shares
