use Rattle.std.proofs.Common.{◌+◌, List, sym, ap, subst, ◌∙◌}
use Rattle.std.specs.Prelude.{slice_get}
use Rattle.std.specs.List.{insert}
use Rattle.std.proofs.lemmas.Option.{slice_get_within}
use Rattle.upvalue.specs.declared.shared.OpenCell.{OpenCell}
use Rattle.upvalue.specs.State.{StackState}
use Rattle.upvalue.specs.Gaps.{IsGap, Fits}
use Rattle.upvalue.proofs.Rows.{shares_by_fits, place_is, register_there, fits_of}
use Rattle.upvalue.proofs.Finding.{captured_there, captured_new}
use Rattle.upvalue.proofs.Inserted.{fits_with}
use Rattle.upvalue.proofs.stack.ValueStack.capture.Goals as goal

pub returns-in-Ok-clause-cell : goal.returns-in-Ok-clause-cell
returns-in-Ok-clause-cell c =
    let s = c.self.inside in
    let place = place_is s c.args.self.now c.self.view_is c.self.invariant c.args.register in
    let shared = c.as_slice.ensures.value ∙ ap (λ (u : StackState). u.shared) c.self.view_is in
    let found = c.in-Ok.ensures in
    let at = sym (ap (λ (l : List OpenCell). slice_get l found.0) shared) ∙ found.1 in
    captured_there c.args.self.now c.args.heap.now c.requires.shares c.args.register (s.base + c.args.register) c.requires.register place found.0 c.in-Ok.cell at

pub returns-in-Ok-clause-there : goal.returns-in-Ok-clause-there
returns-in-Ok-clause-there c =
    let s = c.self.inside in
    let h = c.args.heap.now in
    let found = c.in-Ok.ensures in
    let fits = fits_of s c.args.self.now c.self.view_is c.self.invariant h c.requires.shares in
    let at = sym (ap (λ (l : List OpenCell). slice_get l found.0) c.as_slice.ensures.value) ∙ found.1 in
    slice_get_within h.cells c.in-Ok.cell.index _ (fits.stands found.0 _ at)

pub returns-in-Ok-insert-clause-cell : goal.returns-in-Ok-insert-clause-cell
returns-in-Ok-insert-clause-cell c =
    let s = c.self.inside in
    let place = place_is s c.args.self.now c.self.view_is c.self.invariant c.args.register in
    let shared = c.as_slice.ensures.value ∙ ap (λ (u : StackState). u.shared) c.self.view_is in
    let gap = subst (λ (l : List OpenCell). IsGap l (s.base + c.args.register) c.in-Err.at) shared c.in-Err.ensures in
    let made = c.in_ok-cell-in-Err.ensures in
    captured_new c.args.self.now c.args.heap.now c.requires.shares c.args.register (s.base + c.args.register) c.requires.register place c.in-Err.at c.in_ok-cell-in-Err.cell.index c.new_cell.new.self gap made.id made.state

pub returns-in-Ok-insert-clause-shares : goal.returns-in-Ok-insert-clause-shares
returns-in-Ok-insert-clause-shares c =
    let s = c.self.inside in
    let values = s.values.items in
    let fits = fits_of s c.args.self.now c.self.view_is c.self.invariant c.args.heap.now c.requires.shares in
    let there = register_there s c.args.self.now c.self.view_is c.self.invariant c.args.register c.requires.register in
    let gap = subst (λ (l : List OpenCell). IsGap l (s.base + c.args.register) c.in-Err.at) c.as_slice.ensures.value c.in-Err.ensures in
    let made = c.in_ok-cell-in-Err.ensures in
    let new : OpenCell = record { place = s.base + c.args.register; cell = c.in_ok-cell-in-Err.cell } in
    let items = c.in-Ok-insert.ensures.items ∙ ap (λ (l : List OpenCell). insert l c.in-Err.at new) c.reserve.ensures.items in
    let all = subst (Fits values (insert s.shared.items c.in-Err.at new)) (sym made.state) (fits_with s.shared.items new.place c.in-Err.at new.cell gap values c.args.heap.now fits there made.id) in
    shares_by_fits s.bases.items values c.insert.new.self.items c.new_cell.new.self c.self.invariant.laid (subst (λ (l : List OpenCell). Fits values l c.new_cell.new.self) (sym items) all)
