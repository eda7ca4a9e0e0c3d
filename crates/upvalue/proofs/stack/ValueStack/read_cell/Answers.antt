use Rattle.std.proofs.Common.{◌≡◌, ◌<◌, length, Some, refl, sym, subst, arith}
use Rattle.std.proofs.lemmas.Option.{slice_get_read}
use Rattle.lua_heap.specs.State.{CellState, datum, IsOf}
use Rattle.upvalue.specs.State.{cell_of, value_of}
use Rattle.upvalue.proofs.Rows.{fits_of}
use Rattle.upvalue.proofs.Written.{place_there, read_is}
use Rattle.upvalue.proofs.stack.ValueStack.read_cell.Goals as goal
use Rattle.upvalue.proofs.stack.ValueStack.read_cell.Goals.{In-InStack}

there : (c : In-InStack) → c.in-InStack.place < length c.self.inside.values.items
there c =
    place_there c.self.inside c.args.self.now c.self.view_is c.self.invariant c.args.heap.now c.args.cell.index c.in-InStack.place c.requires.shares c.requires.cell c.in-InStack.ensures.cell

pub index-requires : goal.index-requires
index-requires c =
    let low = there (goal.at.index-requires c).In-InStack in omega (arith, low, c.self.inside.values.ok)

pub returns-in-InStack-clause-value : goal.returns-in-InStack-clause-value
returns-in-InStack-clause-value c =
    let s = c.self.inside in
    let v = c.index.result.now in
    let low = there (goal.at.returns-in-InStack-clause-value c).In-InStack in
    let got = slice_get_read s.values.items (length s.values.items) c.in-InStack.place v refl low c.index.ensures in
    subst (λ (cell : CellState). value_of c.args.heap.now c.args.self.now.frames (cell_of c.args.self.now.frames cell) ≡ Some (datum c.args.heap.now v)) c.in-InStack.ensures.cell
    (read_is s c.args.self.now c.self.view_is c.self.invariant c.args.heap.now c.in-InStack.place v low got)

pub returns-in-InStack-clause-known : goal.returns-in-InStack-clause-known
returns-in-InStack-clause-known c =
    let low = there (goal.at.returns-in-InStack-clause-known c).In-InStack in
    let fits = fits_of c.self.inside c.args.self.now c.self.view_is c.self.invariant c.args.heap.now c.requires.shares in
    subst (IsOf c.args.heap.now) (sym c.index.ensures) (fits.known c.in-InStack.place c.index.result.now low)
