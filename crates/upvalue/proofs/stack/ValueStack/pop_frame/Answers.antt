use Rattle.std.proofs.Common.{◌≡◌, ◌∷◌, List, reverse, sym, subst, ◌∙◌, add-zero, arith}
use Rattle.lua_model.specs.declared.Value.{Value}
use Rattle.upvalue.specs.Gaps.{Fits}
use Rattle.upvalue.proofs.Rows.{shares_by_fits, fits_of}
use Rattle.upvalue.proofs.Cells.{cells_closed}
use Rattle.upvalue.proofs.Popped.{top_is, laid_popped, fits_popped, cells_popped}
use Rattle.upvalue.proofs.stack.ValueStack.pop_frame.Goals as goal
use Rattle.upvalue.proofs.stack.ValueStack.pop_frame.Goals.{After-pop}

pub close_places-requires : goal.close_places-requires
close_places-requires c =
    let s = c.self.inside in
    subst (λ (values : List Value). Fits values s.shared.items c.args.heap.now) (sym c.as_slice.ensures.value) (fits_of s c.args.self.now c.self.view_is c.self.invariant c.args.heap.now c.requires.shares)

top_at : (c : After-pop) → reverse c.self.inside.bases.items ≡ c.self.inside.base ∷ reverse c.pop.new.self.items
top_at c =
    let s = c.self.inside in
    top_is s c.args.self.now c.self.view_is c.self.invariant c.pop.new.self.items c.pop.result c.pop.ensures.items (λ some. c.pop.ensures.variant.1 (omega (arith, some, s.bases.ok))) c.requires.frame

fits : (c : After-pop) → Fits c.self.inside.values.items c.close_places.new.shared.items c.close_places.new.heap
fits c = subst (λ (values : List Value). Fits values c.close_places.new.shared.items c.close_places.new.heap) c.as_slice.ensures.value c.close_places.ensures.fits

pub returns-clause-cells : goal.returns-clause-cells
returns-clause-cells c =
    let at = (goal.at.returns-clause-cells c).After-pop in
    let s = c.self.inside in
    cells_popped s c.self.invariant c.pop.new.self.items c.truncate.new.self.items (top_at at) c.truncate.ensures.items c.close_places.new.shared.items c.close_places.new.heap (fits at) c.close_places.ensures.low
    ∙ cells_closed s c.args.self.now c.self.view_is c.self.invariant c.args.heap.now c.requires.shares c.as_slice.result.now c.close_places.new.heap 0 s.base c.as_slice.ensures.value (sym (add-zero s.base)) c.close_places.ensures.cells

pub returns-clause-shares : goal.returns-clause-shares
returns-clause-shares c =
    let at = (goal.at.returns-clause-shares c).After-pop in
    let s = c.self.inside in
    let rest = c.pop.new.self.items in
    let left = c.truncate.new.self.items in
    let shared = c.close_places.new.shared.items in
    let laid = laid_popped s c.self.invariant rest left (top_at at) c.truncate.ensures.items in
    shares_by_fits rest left shared c.close_places.new.heap laid (fits_popped s c.self.invariant rest left (top_at at) c.truncate.ensures.items shared c.close_places.new.heap (fits at) c.close_places.ensures.low)
