use Rattle.std.proofs.Common.{◌+◌, List, refl, sym, subst}
use Rattle.lua_model.specs.declared.Value.{Value}
use Rattle.upvalue.specs.Gaps.{Fits}
use Rattle.upvalue.proofs.Rows.{shares_by_fits, fits_of}
use Rattle.upvalue.proofs.Cells.{cells_closed}
use Rattle.upvalue.proofs.stack.ValueStack.close_from.Goals as goal

pub close_places-requires : goal.close_places-requires
close_places-requires c =
    let s = c.self.inside in
    subst (λ (values : List Value). Fits values s.shared.items c.args.heap.now) (sym c.as_slice.ensures.value) (fits_of s c.args.self.now c.self.view_is c.self.invariant c.args.heap.now c.requires.shares)

pub returns-clause-cells : goal.returns-clause-cells
returns-clause-cells c =
    let s = c.self.inside in
    cells_closed s c.args.self.now c.self.view_is c.self.invariant c.args.heap.now c.requires.shares c.as_slice.result.now c.close_places.new.heap c.args.register (s.base + c.args.register) c.as_slice.ensures.value refl c.close_places.ensures.cells

pub returns-clause-shares : goal.returns-clause-shares
returns-clause-shares c =
    let s = c.self.inside in
    let shared = c.close_places.new.shared.items in
    let fits = subst (λ (values : List Value). Fits values shared c.close_places.new.heap) c.as_slice.ensures.value c.close_places.ensures.fits in
    shares_by_fits s.bases.items s.values.items shared c.close_places.new.heap c.self.invariant.laid fits
