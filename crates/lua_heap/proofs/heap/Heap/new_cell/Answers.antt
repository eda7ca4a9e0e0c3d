use Rattle.lua_heap.proofs.Pushes.{cell_pushed}
use Rattle.lua_heap.proofs.heap.Heap.new_cell.Goals as goal

pub invariant_of-self-2 : goal.invariant_of-self-2
invariant_of-self-2 c = cell_pushed c.self.inside c.args.self.now c.self.view_is c.self.invariant c.push.new.self c.args.cell c.in_ok-push.ensures.items c.requires.cell
