use Rattle.std.proofs.Common.{◌<◌, length, Some, sym, ap, subst, ◌∙◌, arith}
use Rattle.std.proofs.lemmas.Option.{slice_get-get_or}
use Rattle.lua_heap.specs.State.{HeapState, CellState, no_cell, datum}
use Rattle.upvalue.specs.State.{cell_of, cells_of, with_value, with_held}
use Rattle.upvalue.specs.Shared.{Shares}
use Rattle.upvalue.proofs.Written.{place_there, put_is, put_held, put_shares, held_shares, held_cells}
use Rattle.upvalue.proofs.stack.ValueStack.write_cell.Goals as goal
use Rattle.upvalue.proofs.stack.ValueStack.write_cell.Goals.{In-InStack}

there : (c : In-InStack) → c.in-InStack.place < length c.self.inside.values.items
there c =
    place_there c.self.inside c.args.self.now c.self.view_is c.self.invariant c.args.heap.now c.args.cell.index c.in-InStack.place c.requires.shares c.requires.cell c.in-InStack.ensures.cell

pub index_mut-requires : goal.index_mut-requires
index_mut-requires c =
    let low = there (goal.at.index_mut-requires c).In-InStack in omega (arith, low, c.self.inside.values.ok)

pub returns-in-InStack-clause-written : goal.returns-in-InStack-clause-written
returns-in-InStack-clause-written c =
    let low = there (goal.at.returns-in-InStack-clause-written c).In-InStack in
    put_is c.self.inside c.args.self.now c.self.view_is c.self.invariant c.args.heap.now c.args.cell.index c.in-InStack.place c.args.value low
    ∙ ap (λ (cell : CellState). with_value c.args.self.now.frames c.args.heap.now c.args.cell.index (cell_of c.args.self.now.frames cell) c.args.value) c.in-InStack.ensures.cell

pub returns-in-InStack-clause-cells : goal.returns-in-InStack-clause-cells
returns-in-InStack-clause-cells c =
    let h = c.args.heap.now in
    let cells = cells_of c.args.self.now.frames h in
    let low = there (goal.at.returns-in-InStack-clause-cells c).In-InStack in
    put_held c.self.inside c.args.self.now c.self.view_is c.self.invariant h c.args.cell.index c.in-InStack.place c.args.value low
    ∙ ap (λ (cell : CellState). with_held cells c.args.cell.index (cell_of c.args.self.now.frames cell) (datum h c.args.value)) c.in-InStack.ensures.cell

pub returns-in-InStack-clause-shares : goal.returns-in-InStack-clause-shares
returns-in-InStack-clause-shares c =
    put_shares c.self.inside c.args.self.now c.self.view_is c.self.invariant c.args.heap.now c.in-InStack.place c.args.value c.requires.shares c.requires.value

pub returns-in-Held-clause-shares : goal.returns-in-Held-clause-shares
returns-in-Held-clause-shares c =
    let h = c.args.heap.now in
    let was = slice_get-get_or h.cells c.args.cell.index no_cell c.requires.cell ∙ ap Some (sym c.in-Held.ensures.cell) in
    subst (Shares c.args.self.now) (sym c.set_cell.ensures.state) (held_shares c.args.self.now h c.args.cell.index _ (datum h c.args.value) c.requires.shares was)

pub returns-in-Held-clause-cells : goal.returns-in-Held-clause-cells
returns-in-Held-clause-cells c =
    let h = c.args.heap.now in
    ap (λ (now : HeapState). cells_of c.args.self.now.frames now) c.set_cell.ensures.state
    ∙ held_cells c.args.self.now.frames h c.args.cell.index _ (datum h c.args.value) c.in-Held.ensures.cell
