use Rattle.std.proofs.Common.{◌≡◌, map, vec_len}
use Rattle.upvalue.specs.Gaps.{Fits, closed}
use Rattle.upvalue.proofs.shared.close_places.Given as goal

abbrev pub invariant-loop-last : goal.invariant-loop-last
invariant-loop-last l = record {
  heap : l.heap ≡ record l.fn.heap { cells = l.heap.cells };
  cells : map (closed l.fn.heap l.values l.from) l.heap.cells ≡ map (closed l.fn.heap l.values l.from) l.fn.heap.cells;
  fits : Fits l.values l.shared.items l.heap;
}

abbrev pub decreases-loop-last : goal.decreases-loop-last
decreases-loop-last l = vec_len l.shared
