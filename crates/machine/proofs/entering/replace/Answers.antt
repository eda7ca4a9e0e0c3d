use Rattle.std.proofs.Common.{◌∙◌, ◌∷◌, List, refl, ap, sym, subst}
use Rattle.lua_model.specs.declared.Value.{Value}
use Rattle.lua_heap.specs.State.{HeapState, AreOf}
use Rattle.lua_heap.proofs.Callers.{keeps_both, values_are_kept}
use Rattle.rules.specs.Calls.{entered, replace}
use Rattle.upvalue.specs.State.{top}
use Rattle.machine.specs.Frames.{data_of}
use Rattle.machine.specs.Seen.{seen}
use Rattle.machine.proofs.FramesAbove.{BeginAlone, made_frame, made_known, loaded_at}
use Rattle.machine.proofs.FramesReplaced.{IsPlaced, safe_in_place, begins_in_place}
use Rattle.machine.proofs.PushedCalls.{called_closure, called_function, called_at}
use Rattle.machine.proofs.entering.replace.Goals as goal

pub put_registers-requires-clause-extra : goal.put_registers-requires-clause-extra
put_registers-requires-clause-extra c =
    let closed = c.pop_frame.new.heap in
    let known = values_are_kept c.args.running.now.heap closed c.pop_frame.ensures.keeps c.args.args.now c.requires.args in
    subst (λ (vs : List Value). AreOf closed vs) (sym c.items.ensures) (c.in_ok-extra.ensures.known closed known)

pub put_registers-requires-clause-room : goal.put_registers-requires-clause-room
put_registers-requires-clause-room c =
    let number = c.closure_function-number in
    let f = c.index-functions-number in
    (c.requires.safe.room number.result f.result (called_at c.args.functions.now c.args.running.now c.args.closure number.result f.result c.requires.safe c.requires.closure number.ensures f.is)).0

pub put_registers-requires-clause-table : goal.put_registers-requires-clause-table
put_registers-requires-clause-table c =
    let number = c.closure_function-number in
    let f = c.index-functions-number in
    (c.requires.safe.room number.result f.result (called_at c.args.functions.now c.args.running.now c.args.closure number.result f.result c.requires.safe c.requires.closure number.ensures f.is)).1

placed : (c : goal.Joined-running) → IsPlaced c.args.running.now c.put_registers.new.heap c.put_registers.new.stack
placed c =
    let old = c.args.running.now in
    let closed = c.pop_frame.ensures in
    let made = c.in_ok-put_registers.ensures in
    record {
      frames = made.frames ∙ ap (λ frames. top c.put_registers.new.stack.frames ∷ frames) closed.frames;
      shares = made.shares;
      cells = made.cells ∙ closed.cells;
      closures = ap (λ (h : HeapState). h.closures) made.only_tables ∙ ap (λ (h : HeapState). h.closures) closed.heap;
      keeps = keeps_both old.heap c.pop_frame.new.heap c.put_registers.new.heap closed.keeps made.keeps;
    }

pub returns : goal.returns
returns c =
    let old = c.args.running.now in
    let fs = c.args.functions.now in
    let args = c.args.args.now in
    let closure = c.args.closure in
    let number = c.closure_function-number in
    let f = c.index-functions-number.result in
    let extra = c.in_ok-extra.extra in
    let closed = c.pop_frame.new.heap in
    let heap = c.put_registers.new.heap in
    let stack = c.put_registers.new.stack in
    let within = called_function fs old closure number.result c.requires.safe c.requires.closure number.ensures in
    let at = called_at fs old closure number.result f c.requires.safe c.requires.closure number.ensures c.index-functions-number.is in
    let known = c.in_ok-extra.ensures.known old.heap c.requires.args in
    let begins =
    subst (λ (h : HeapState). BeginAlone f args extra (top stack.frames) h heap) c.pop_frame.ensures.heap
    (λ m params flags further. c.in_ok-put_registers.ensures.begins m params flags (further ∙ ap (data_of closed) (sym c.items.ensures))) in
    record {
      does = λ a lands.
          record {
            is = λ chunk around whole.
                let m = seen chunk around old in
                ap (λ g. entered (replace a) lands 0 m g (data_of old.heap args)) (called_closure chunk old.heap closure number.result c.requires.closure number.ensures)
                ∙ begins_in_place fs old heap stack whole.safe (placed c) chunk around number.result closure f args extra
                (loaded_at chunk old.heap fs number.result f whole.loaded within at) known (c.in_ok-extra.ensures.list old.heap) begins;
            safe = λ safe.
                safe_in_place fs old heap stack safe (placed c) (made_frame number.result closure extra old.top.landing old.top.protections)
                (made_known old.heap fs number.result closure extra old.top.landing old.top.protections within c.requires.closure known) refl;
            known = tt;
            awaited = λ f at. tt;
            keeps = (placed c).keeps;
            named = ap (λ (h : HeapState). h.host_names) c.in_ok-put_registers.ensures.only_tables ∙ ap (λ (h : HeapState). h.host_names) c.pop_frame.ensures.heap;
            pieces = refl;
          };
    }
