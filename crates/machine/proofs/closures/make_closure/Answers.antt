use Rattle.std.proofs.Common.{◌≡◌, ◌<◌, ℕ, List, length, map, get_or, Some, refl, sym, ap, subst, ◌∙◌}
use Rattle.std.specs.Prelude.{slice_get}
use Rattle.std.proofs.lemmas.Option.{slice_get-get_or, slice_get_read}
use Rattle.upvalue.specs.State.{top}
use Rattle.lua_heap.specs.declared.cells.CellId.{CellId}
use Rattle.lua_heap.specs.State.{HeapState}
use Rattle.machine.specs.Seen.{cells_in}
use Rattle.machine.proofs.LentRegisters.{shares_on}
use Rattle.machine.proofs.CapturedCells.{words_long}
use Rattle.machine.proofs.MadeClosures.{with_closure, last_known, closure_made}
use Rattle.machine.proofs.closures.make_closure.Goals as goal

pub returns : goal.returns
returns c =
    let old = c.args.running.now in
    let fs = c.args.functions.now in
    let i = c.args.i in
    let f = c.index-functions-running.result in
    let number = c.index-number.result.now in
    let g = get_or fs number c.index-functions-number.result in
    let at : slice_get fs old.top.function ≡ Some f = slice_get_read fs (length fs) old.top.function f refl c.requires.safe.top_frame.function c.index-functions-running.is in
    let fits = c.requires.fits f at in
    let at_inner : slice_get f.inner.items i.bx ≡ Some number = slice_get_read f.inner.items (length f.inner.items) i.bx number refl fits.1 c.index-number.ensures in
    let at_made : slice_get fs number ≡ Some g = slice_get-get_or fs number c.index-functions-number.result (c.requires.inner f number at at_inner) in
    let now = c.cells_for.new.running in
    let takes = c.in_ok-cells.ensures.cells in
    let cells = c.in_ok-cells.cells.items in
    let heap = c.new_closure.new.self in
    let id = c.in_ok-closure.closure in
    let indices : List CellId → List ℕ = map (λ cell. cell.index) in
    let state : heap ≡ with_closure now.heap number (indices cells) = c.in_ok-closure.ensures.state ∙ ap (λ cs. with_closure now.heap number (indices cs)) c.as_slice.ensures.value in
    let shares = shares_on now.stack now.heap heap c.new_closure.ensures.keeps (ap (λ (h : HeapState). h.cells) state) takes.only_cells.shares in
    record {
      does = closure_made fs old now f g i number cells heap c.write.new.self id at at_inner at_made takes (words_long f (length (top old.stack.frames)) (length (cells_in old.heap old.top.closure)) old.top.pc g.upvalues (c.requires.captures f g number at at_inner at_made)) (record {
        last = c.in_ok-closure.ensures.id;
        state = state;
        keeps = c.new_closure.ensures.keeps;
        there = subst (λ frames. i.a < length (top frames)) (sym takes.only_cells.frames) fits.0;
        written = c.write.ensures.written;
        shares = (c.write.ensures.keeps heap shares (last_known now heap number (indices cells) id c.in_ok-closure.ensures.id state)).0;
      });
    }
