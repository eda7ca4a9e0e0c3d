use Rattle.std.proofs.Common.{◌∙◌, Some, List, length, length-set, map, ap, sym, refl}
use Rattle.std.specs.Prelude.{slice_set}
use Rattle.std.proofs.lemmas.Option.{slice_get-get_or}
use Rattle.lua_model.specs.declared.Value.{Value}
use Rattle.lua_heap.proofs.Callers.{keeps_itself}
use Rattle.rules.specs.State.{need, set}
use Rattle.rules.specs.Cells.{read_cell}
use Rattle.upvalue.specs.State.{StackState, top}
use Rattle.machine.specs.Ready.{with_pc}
use Rattle.machine.specs.Seen.{cells_in, seen}
use Rattle.machine.proofs.SeenStates.{sizes-with_top, set_seen, safe_behind}
use Rattle.machine.proofs.SeenCells.{read_is}
use Rattle.machine.proofs.upvalues.get_upvalue.Goals as goal

pub returns-clause-does : goal.returns-clause-does
returns-clause-does c fs pc =
    let old = with_pc c.args.running.now pc in
    let i = c.args.i in
    let cell = c.upvalue-cell in
    let value = c.read_cell-value in
    let written = c.write.ensures.written in
    record {
      is = λ chunk a whole.
          let m = seen chunk a old in
          ap (λ o. need o (λ n. need (read_cell m n) (λ v. set m i.a v))) (slice_get-get_or (cells_in old.heap old.top.closure) i.b 0 c.requires.b ∙ ap Some (sym cell.ensures.cell))
          ∙ ap (λ o. need o (λ v. set m i.a v)) (read_is chunk a fs old cell.result.index whole.safe cell.ensures.there ∙ value.ensures.value)
          ∙ set_seen chunk a fs old c.write.new.self i.a value.result whole.safe c.requires.a written;
      safe = λ safe.
          let values = top old.stack.frames in
          let put = slice_set values i.a value.result in
          let as_many = sizes-with_top old.stack.frames put (length-set values i.a value.result) ∙ sym (ap (λ (s : StackState). map (λ (vs : List Value). length vs) s.frames) written) in
          safe_behind fs old old.heap c.write.new.self safe (c.write.ensures.keeps old.heap c.requires.shares value.ensures.known).0 (keeps_itself old.heap) refl as_many;
      known = tt;
      awaited = λ f at. tt;
      keeps = keeps_itself old.heap;
      named = refl;
      pieces = refl;
    }
