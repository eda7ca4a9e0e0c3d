use Rattle.std.proofs.Common.{◌≡◌, ◌+◌, ◌^◌, ℕ, arith, length, take, drop, refl, subst}
use Rattle.std.proofs.lemmas.Option.{slice_get_read}
use Rattle.upvalue.specs.State.{top}
use Rattle.machine.specs.Captures.{TakesCells}
use Rattle.machine.specs.Seen.{cells_in}
use Rattle.machine.proofs.CapturedCells.{captures_within, room_for, capture_later, takes_next}
use Rattle.machine.proofs.closures.cells_for.Goals as goal

pub overflow_add-pc : goal.overflow_add-pc
overflow_add-pc c =
    let old = c.args.running.now in
    let within = captures_within c.args.function.now (length (top old.stack.frames)) (length (cells_in old.heap old.top.closure)) c.args.pc c.args.count c.loop-k.k c.requires.captures c.loop-k-test.true in
    omega (arith, within)

pub index-requires : goal.index-requires
index-requires c =
    let old = c.args.running.now in
    let within = captures_within c.args.function.now (length (top old.stack.frames)) (length (cells_in old.heap old.top.closure)) c.args.pc c.args.count c.loop-k.k c.requires.captures c.loop-k-test.true in
    omega (arith, within)

pub cell_for-requires-clause-capture : goal.cell_for-requires-clause-capture
cell_for-requires-clause-capture c =
    let old = c.args.running.now in
    let f = c.args.function.now in
    let less = c.loop-k-test.true in
    let within = captures_within f (length (top old.stack.frames)) (length (cells_in old.heap old.top.closure)) c.args.pc c.args.count c.loop-k.k c.requires.captures less in
    let at = slice_get_read f.code.items (length f.code.items) (c.args.pc + c.loop-k.k) c.index.result.now refl within c.index.ensures in
    capture_later old c.loop-k.running f c.args.pc c.args.count c.loop-k.k c.index.result.now c.loop-k.invariant.only_cells c.requires.captures less at

pub loop-k-preserved : goal.loop-k-preserved
loop-k-preserved c =
    let old = c.args.running.now in
    let f = c.args.function.now in
    let within = captures_within f (length (top old.stack.frames)) (length (cells_in old.heap old.top.closure)) c.args.pc c.args.count c.loop-k.k c.requires.captures c.loop-k-test.true in
    takes_next old c.loop-k.running c.cell_for.new.running f.code.items c.args.pc c.loop-k.k c.index.result.now c.loop-k.cells.items c.push.new.self.items c.in_ok-cell.cell within c.index.ensures c.loop-k.invariant c.in_ok-cell.ensures c.in_ok-push.ensures.items

pub returns-clause-cells : goal.returns-clause-cells
returns-clause-cells c =
    let all : c.loop-k.k ≡ c.args.count = omega (arith, c.loop-k-test.false, c.loop-k.auto.k-end) in
    subst (λ (n : ℕ). TakesCells (take n (drop c.args.pc c.args.function.now.code.items)) c.args.running.now c.loop-k.running c.loop-k.cells.items) all c.loop-k.invariant

pub returns-clause-room : goal.returns-clause-room
returns-clause-room c =
    let old = c.args.running.now in
    let count = c.args.count in
    room_for c.args.function.now (length (top old.stack.frames)) (length (cells_in old.heap old.top.closure)) c.args.pc count (2 ^ 64) c.requires.captures (omega arith) (omega arith)
