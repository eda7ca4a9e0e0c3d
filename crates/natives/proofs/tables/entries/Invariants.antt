use Rattle.std.proofs.Common.{◌≡◌, map}
use Rattle.lua_model.specs.Builtins.{entries}
use Rattle.lua_heap.specs.State.{datum, own_store, AreOf}
use Rattle.natives.proofs.tables.entries.Given as goal

abbrev pub invariant-loop-offset : goal.invariant-loop-offset
invariant-loop-offset l = record {
  values : map (datum l.heap) l.values ≡ entries (own_store l.heap) l.table.index l.first l.offset;
  known : AreOf l.heap l.values;
}
