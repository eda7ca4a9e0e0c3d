use Rattle.std.proofs.Common.{◌≡◌, ◌∙◌, ap, sym, arith, length, take, List, length-set}
use Rattle.std.specs.Prelude.{slice_set}
use Rattle.std.proofs.lemmas.List.{length-map}
use Rattle.lua_model.specs.declared.Value.{Value}
use Rattle.lua_model.specs.Datum.{adjusted}
use Rattle.lua_heap.specs.State.{HeapState, datum}
use Rattle.lua_heap.proofs.Callers.{data_are_kept}
use Rattle.rules.specs.State.{Goes}
use Rattle.rules.proofs.Lists.{length-adjusted}
use Rattle.upvalue.specs.State.{StackState, top, cells_of}
use Rattle.machine.specs.Frames.{data_of, showing}
use Rattle.machine.proofs.LentRegisters.{top-with_top, shares_on}
use Rattle.machine.proofs.MadeFrames.{begins_plain, begins_table}
use Rattle.machine.proofs.entering.put_registers.Goals as goal

pub write-requires : goal.write-requires
write-requires c =
    let old = c.args.heap.now in
    let f = c.args.function.now in
    let registers = top c.put_arguments.new.stack.frames in
    let is = c.in_ok-put_arguments.ensures.registers old in
    omega (arith, c.requires.table c.if-function-eq7.true, ap length is, length-map registers (datum old), length-adjusted f.registers (take f.params (data_of old c.args.args.now)))

pub returns-in_ok-table-clause-begins : goal.returns-in_ok-table-clause-begins
returns-in_ok-table-clause-begins c m params flags further =
    let old = c.args.heap.now in
    let new = c.arg_table.new.heap in
    let f = c.args.function.now in
    let frames = c.put_arguments.new.stack.frames in
    let args = c.args.args.now in
    let v = c.in_ok-table.table in
    let is = c.in_ok-put_arguments.ensures.registers new in
    let ds = adjusted f.registers (take f.params (data_of old args)) in
    let same : data_of new (top frames) ≡ ds = is ∙ ap (λ vs. adjusted f.registers (take f.params vs)) (data_are_kept old new c.in_ok-table.ensures.keeps args c.requires.args) in
    let seven = c.if-function-eq7.true in
    let long : length (data_of new (top frames)) ≡ length (top frames) = length-map (top frames) (datum new) in
    let top_is : top c.write.new.self.frames ≡ slice_set (top frames) f.params v =
    ap (λ (s : StackState). top s.frames) c.write.ensures.written ∙ top-with_top frames (slice_set (top frames) f.params v) (length-set (top frames) f.params v) in
    begins_table m old new ds c.args.extra.now (top frames) f.vararg f.params v flags params further seven
    (omega (arith, c.requires.table seven, long, ap length same, length-adjusted f.registers (take f.params (data_of old args))))
    same c.in_ok-table.ensures.table.0 c.in_ok-table.ensures.store
    ∙ ap (λ (rs : List Value). Goes (showing m new rs)) (sym top_is)

pub returns-in_ok-table-clause-shares : goal.returns-in_ok-table-clause-shares
returns-in_ok-table-clause-shares c =
    let old = c.args.heap.now in
    let new = c.arg_table.new.heap in
    let same : new.cells ≡ old.cells = ap (λ (h : HeapState). h.cells) c.in_ok-table.ensures.only_tables in
    let made = (c.in_ok-put_arguments.ensures.keeps old c.requires.shares c.requires.args).0 in
    (c.write.ensures.keeps new (shares_on c.put_arguments.new.stack old new c.in_ok-table.ensures.keeps same made) c.in_ok-table.ensures.table.1).0

pub returns-in_ok-table-clause-cells : goal.returns-in_ok-table-clause-cells
returns-in_ok-table-clause-cells c =
    let old = c.args.heap.now in
    let new = c.arg_table.new.heap in
    let same : new.cells ≡ old.cells = ap (λ (h : HeapState). h.cells) c.in_ok-table.ensures.only_tables in
    let made = c.in_ok-put_arguments.ensures.keeps old c.requires.shares c.requires.args in
    (c.write.ensures.keeps new (shares_on c.put_arguments.new.stack old new c.in_ok-table.ensures.keeps same made.0) c.in_ok-table.ensures.table.1).1
    ∙ (λ i. cells_of c.put_arguments.new.stack.frames (record old { cells = same i }))
    ∙ made.1

pub returns-else-function-eq7-clause-begins : goal.returns-else-function-eq7-clause-begins
returns-else-function-eq7-clause-begins c m params flags further =
    let old = c.args.heap.now in
    let f = c.args.function.now in
    let ds = adjusted f.registers (take f.params (data_of old c.args.args.now)) in
    begins_plain m old ds (top c.put_arguments.new.stack.frames) f.vararg flags
    (omega (arith, params, c.requires.room, length-adjusted f.registers (take f.params (data_of old c.args.args.now))))
    c.if-function-eq7.false (c.in_ok-put_arguments.ensures.registers old)

pub returns-else-function-eq7-clause-shares : goal.returns-else-function-eq7-clause-shares
returns-else-function-eq7-clause-shares c = (c.in_ok-put_arguments.ensures.keeps c.args.heap.now c.requires.shares c.requires.args).0

pub returns-else-function-eq7-clause-cells : goal.returns-else-function-eq7-clause-cells
returns-else-function-eq7-clause-cells c = (c.in_ok-put_arguments.ensures.keeps c.args.heap.now c.requires.shares c.requires.args).1
