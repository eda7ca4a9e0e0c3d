use Rattle.lua_heap.proofs.Pushes.{cell_written}
use Rattle.lua_heap.proofs.heap.Heap.set_cell.Goals as goal

pub returns-clause-state : goal.returns-clause-state
returns-clause-state c = cell_written c.self.inside c.args.self.now c.self.view_is c.args.id.index c.args.cell
