use Rattle.std.proofs.Common.{◌∙◌, ◌+◌, get_or, sym, refl, arith, length-set}
use Rattle.std.specs.Prelude.{slice_set}
use Rattle.std.proofs.lemmas.List.Elements.{All-set}
use Rattle.lua_model.specs.declared.Value.TheVariants.{Nil}
use Rattle.lua_model.specs.Datum.{adjusted}
use Rattle.lua_heap.specs.State.{IsOf}
use Rattle.lua_heap.proofs.Callers.{keeps_itself}
use Rattle.machine.specs.Frames.{data_of}
use Rattle.machine.proofs.Rows.{nil_or_known}
use Rattle.machine.proofs.Showing.{shown_runs}
use Rattle.machine.proofs.Landings.{turn_is, goes_on_with, stops_at_nil}
use Rattle.machine.proofs.words.landing.land_turn.Goals as goal

pub returns-then-is_nil-clause-does : goal.returns-then-is_nil-clause-does
returns-then-is_nil-clause-does c h known values_known =
    let before = c.args.registers.now in
    let now = c.put_all.new.registers in
    let f = c.args.function.now in
    let pc = c.args.pc in
    let a = c.args.a in
    let vs = adjusted c.args.count (data_of h c.args.values.now) in
    record {
      is = λ m runs.
          turn_is m h before now a vs (c.put_all.ensures.put h m) (omega (arith, c.requires.first, c.put_all.ensures.length_is))
          ∙ stops_at_nil m h now a (get_or now (a + 3) Nil) (sym (c.is_nil.ensures h) ∙ c.if-is_nil.true)
          ∙ c.branch-function.ensures.did h _ (shown_runs m h f now pc runs);
      known = c.branch-function.ensures.known h;
      awaited = c.branch-function.ensures.awaited c.args.function.now _ c.args.pc;
      registers = c.put_all.ensures.known h known values_known;
      length_is = c.put_all.ensures.length_is;
      keeps = keeps_itself h;
      only_store = refl;
    }

pub returns-clause-does : goal.returns-clause-does
returns-clause-does c h known values_known =
    let before = c.args.registers.now in
    let now = c.put_all.new.registers in
    let f = c.args.function.now in
    let pc = c.args.pc in
    let a = c.args.a in
    let v = get_or now (a + 3) Nil in
    let vs = adjusted c.args.count (data_of h c.args.values.now) in
    let now_known = c.put_all.ensures.known h known values_known in
    record {
      is = λ m runs.
          turn_is m h before now a vs (c.put_all.ensures.put h m) (omega (arith, c.requires.first, c.put_all.ensures.length_is))
          ∙ goes_on_with m h now a v (omega (arith, c.requires.first, c.put_all.ensures.length_is)) (sym (c.is_nil.ensures h) ∙ c.if-is_nil.false)
          ∙ c.branch-function-2.ensures.did h _ (shown_runs m h f (slice_set now (a + 2) v) pc runs);
      known = c.branch-function-2.ensures.known h;
      awaited = c.branch-function-2.ensures.awaited c.args.function.now _ c.args.pc;
      registers = All-set (IsOf h) now (a + 2) v (nil_or_known h now (a + 3) now_known) now_known;
      length_is = length-set now (a + 2) v ∙ c.put_all.ensures.length_is;
      keeps = keeps_itself h;
      only_store = refl;
    }
