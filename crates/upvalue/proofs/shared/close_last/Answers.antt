use Rattle.std.proofs.Common.{◌≡◌, ◌-◌, ◌<◌, List, length, take, sym, subst, arith}
use Rattle.std.proofs.lemmas.Grind.{common_steps}
use Rattle.std.proofs.lemmas.Option.{slice_get_within}
use Rattle.upvalue.specs.declared.shared.OpenCell.{OpenCell}
use Rattle.upvalue.specs.Gaps.{Fits}
use Rattle.upvalue.proofs.Closing.{fits_without}
use Rattle.upvalue.proofs.shared.close_last.Goals as goal

pub set_cell-requires-clause-id : goal.set_cell-requires-clause-id
set_cell-requires-clause-id c =
    slice_get_within c.args.heap.now.cells c.args.last.cell.index _ (c.requires.fits.stands (length c.args.shared.now.items - 1) c.args.last c.requires.last)

pub returns-clause-fits : goal.returns-clause-fits
returns-clause-fits c =
    let shared = c.args.shared.now.items in
    let n = length shared - 1 in
    let inside : n < length shared = slice_get_within shared n c.args.last c.requires.last in
    let rest : c.pop.new.self.items ≡ take n shared = grind (arith, common_steps, c.pop.ensures.rest) in
    let fits = fits_without c.args.values.now shared c.args.heap.now c.requires.fits n c.args.last _ (omega (arith, inside)) c.requires.last in
    subst (λ (now : List OpenCell). Fits c.args.values.now now c.set_cell.new.self) (sym rest) (subst (Fits c.args.values.now (take n shared)) (sym c.set_cell.ensures.state) fits)
