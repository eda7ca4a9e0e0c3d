use Rattle.std.proofs.Common.{◌∙◌, List, Some, length, map, get_or, ap, sym, refl}
use Rattle.std.specs.Prelude.{slice_get, option_map}
use Rattle.std.proofs.lemmas.Option.{slice_get-map, slice_get-get_or}
use Rattle.lua_model.specs.declared.Value.{Value}
use Rattle.lua_heap.specs.State.{datum, no_cell}
use Rattle.rules.specs.State.{need}
use Rattle.rules.specs.Cells.{write_cell}
use Rattle.upvalue.specs.State.{top, cell_of}
use Rattle.machine.specs.Ready.{with_pc}
use Rattle.machine.specs.Seen.{cells_in, seen}
use Rattle.machine.proofs.SeenStates.{safe_behind}
use Rattle.machine.proofs.SeenCells.{with_value_stays, with_value_names, write_seen}
use Rattle.machine.proofs.upvalues.set_upvalue.Goals as goal

pub write_cell-requires-clause-value : goal.write_cell-requires-clause-value
write_cell-requires-clause-value c = c.read-value.ensures.known c.args.running.now.heap c.requires.shares

pub returns-clause-does : goal.returns-clause-does
returns-clause-does c fs pc =
    let old = with_pc c.args.running.now pc in
    let i = c.args.i in
    let heap = c.write_cell.new.heap in
    let stack = c.write_cell.new.self in
    let cell = c.upvalue-cell in
    let number = cell.result.index in
    let value = c.read-value in
    let did = c.write_cell.ensures in
    record {
      is = λ chunk a whole.
          let m = seen chunk a old in
          ap (λ o. need o (λ v. need (slice_get m.top.cells i.b) (λ n. write_cell m n v))) (slice_get-map (datum old.heap) (top old.stack.frames) i.a ∙ ap (option_map (datum old.heap)) value.ensures.value)
          ∙ ap (λ o. need o (λ n. write_cell m n (datum old.heap value.result))) (slice_get-get_or (cells_in old.heap old.top.closure) i.b 0 c.requires.b ∙ ap Some (sym cell.ensures.cell))
          ∙ write_seen chunk a fs old heap stack number value.result whole.safe cell.ensures.there did.written did.cells;
      safe = λ safe.
          let stays = with_value_stays old.stack.frames old.heap number (cell_of old.stack.frames (get_or old.heap.cells number no_cell)) value.result in
          safe_behind fs old heap stack safe did.shares did.keeps (ap (λ p. p.1.closures) did.written ∙ stays.1) (stays.0 ∙ sym (ap (λ p. map (λ (vs : List Value). length vs) p.0) did.written));
      known = tt;
      awaited = λ f at. tt;
      keeps = did.keeps;
      named = ap (λ p. p.1.host_names) did.written ∙ with_value_names old.stack.frames old.heap number (cell_of old.stack.frames (get_or old.heap.cells number no_cell)) value.result;
      pieces = refl;
    }
