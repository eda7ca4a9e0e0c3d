use Rattle.std.proofs.Common.{List, length, map, refl, sym, ap}
use Rattle.lua_model.specs.declared.Value.{Value}
use Rattle.lua_heap.specs.State.{HeapState}
use Rattle.rules.specs.State.{Goes}
use Rattle.machine.specs.Ready.{with_pc}
use Rattle.machine.proofs.SeenStates.{safe_behind}
use Rattle.machine.proofs.SeenCells.{closed_is}
use Rattle.machine.proofs.upvalues.close.Goals as goal

pub returns-clause-does : goal.returns-clause-does
returns-clause-does c fs pc =
    let old = with_pc c.args.running.now pc in
    let heap = c.close_from.new.heap in
    let stack = c.close_from.new.self in
    let did = c.close_from.ensures in
    record {
      is = λ chunk a whole. ap Goes (closed_is chunk a fs old heap stack c.args.i.a whole.safe did.keeps did.heap did.frames did.cells);
      safe = λ safe. safe_behind fs old heap stack safe did.shares did.keeps (ap (λ (h : HeapState). h.closures) did.heap) (ap (λ frames. map (λ (vs : List Value). length vs) frames) (sym did.frames));
      known = tt;
      awaited = λ f at. tt;
      keeps = did.keeps;
      named = ap (λ (h : HeapState). h.host_names) did.heap;
      pieces = refl;
    }
