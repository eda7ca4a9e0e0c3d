use Rattle.std.proofs.Common.{SFits, w64, to_z-of_z, rules, ◌∙◌, ap, sym, refl}
use Rattle.lua_heap.specs.State.{datum}
use Rattle.lua_heap.proofs.Callers.{values_are_kept}
use Rattle.rules.specs.State.{Fails}
use Rattle.rules.specs.Step.{prepare}
use Rattle.machine.specs.Frames.{showing}
use Rattle.machine.proofs.Showing.{shown_alike, only_store_by}
use Rattle.machine.proofs.Loops.{prepares}
use Rattle.machine.proofs.words.loops.for_prepare.Goals as goal

pub returns-in-Ok : goal.returns-in-Ok
returns-in-Ok c f =
    let first_fits : SFits w64 c.in-Ok.first = search rules in
    let limit_fits : SFits w64 c.in-Ok.limit = search rules in
    let step_fits : SFits w64 c.in-Ok.step = search rules in
    let begins = simp to_z-of_z at c.begin_loop.ensures in
    begins c.args.heap.now f c.requires.known c.in-Ok.ensures

pub returns-in_ok-text_value-in-Err : goal.returns-in_ok-text_value-in-Err
returns-in_ok-text_value-in-Err c f =
    let old = c.args.heap.now in
    let new = c.text_value.new.heap in
    let values = c.args.registers.now in
    let i = c.args.i in
    let grown = c.text_value.ensures.grown in
    record {
      is = λ m runs.
          prepares m old values i c.requires.there
          ∙ ap (prepare (showing m old values) i) c.in-Err.ensures
          ∙ ap (Fails (showing m old values)) (sym c.in_ok-text_value-in-Err.ensures.value)
          ∙ ap (λ s. Fails s (datum new c.in_ok-text_value-in-Err.field-0)) (sym (shown_alike m old new values grown.only_texts grown.keeps c.requires.known));
      known = c.in_ok-text_value-in-Err.ensures.known;
      awaited = tt;
      registers = values_are_kept old new grown.keeps values c.requires.known;
      length_is = refl;
      keeps = grown.keeps;
      only_store = only_store_by old new grown.only_texts;
    }
