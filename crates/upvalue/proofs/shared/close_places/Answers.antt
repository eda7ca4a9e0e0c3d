use Rattle.std.proofs.Common.{◌≡◌, ◌-◌, length}
use Rattle.upvalue.proofs.Closing.{all_lower, none_lower, all_closed, still_only, still_same}
use Rattle.upvalue.proofs.shared.close_places.Goals as goal

pub returns-then-last-from-clause-low : goal.returns-then-last-from-clause-low
returns-then-last-from-clause-low c =
    all_lower c.args.values.now c.loop-last.shared.items c.loop-last.heap c.loop-last.invariant.fits c.args.from c.in-Some.last c.in-Some.ensures c.if-last-from.true

pub returns-then-last-from-clause-cells : goal.returns-then-last-from-clause-cells
returns-then-last-from-clause-cells c =
    let l = c.loop-last in
    let low = all_lower c.args.values.now l.shared.items l.heap l.invariant.fits c.args.from c.in-Some.last c.in-Some.ensures c.if-last-from.true in
    all_closed c.args.heap.now c.args.values.now c.args.from l.shared.items l.heap l.invariant.fits low l.invariant.heap l.invariant.cells

pub loop-last-preserved : goal.loop-last-preserved
loop-last-preserved c =
    let l = c.loop-last in
    let last = c.in-Some.last in
    let stands = l.invariant.fits.stands (length l.shared.items - 1) last c.in-Some.ensures in
    record {
      heap = still_only c.args.heap.now c.args.values.now c.args.from l.heap c.close_last.new.heap _ l.invariant.heap c.close_last.ensures.cells;
      cells = still_same c.args.heap.now c.args.values.now c.args.from l.heap c.close_last.new.heap last.cell.index last.place l.invariant.heap c.close_last.ensures.cells stands c.if-last-from.false l.invariant.cells;
      fits = c.close_last.ensures.fits;
    }

pub returns-clause-cells : goal.returns-clause-cells
returns-clause-cells c =
    let l = c.loop-last in
    let none : length l.shared.items ≡ 0 = c.in_default.ensures in
    all_closed c.args.heap.now c.args.values.now c.args.from l.shared.items l.heap l.invariant.fits (none_lower l.shared.items c.args.from none) l.invariant.heap l.invariant.cells
