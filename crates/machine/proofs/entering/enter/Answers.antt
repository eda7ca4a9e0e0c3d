use Rattle.std.proofs.Common.{◌∙◌, ◌++◌, ◌∷◌, [], List, length, refl, ap, sym, subst}
use Rattle.std.proofs.lemmas.Option.{slice_get_read}
use Rattle.lua_model.specs.declared.Value.{Value}
use Rattle.lua_heap.specs.State.{AreOf}
use Rattle.machine.specs.declared.running.Running.{Running}
use Rattle.machine.specs.Frames.{data_of}
use Rattle.machine.proofs.FramesAbove.{HasAbove, safe_above, made_frame, made_known, loaded_at, begins_above}
use Rattle.machine.proofs.entering.enter.Goals as goal

pub put_registers-requires-clause-extra : goal.put_registers-requires-clause-extra
put_registers-requires-clause-extra c =
    let h = c.args.running.now.heap in
    subst (λ (vs : List Value). AreOf h vs) (sym c.items.ensures) (c.in_ok-extra.ensures.known h c.requires.args)

pub put_registers-requires-clause-room : goal.put_registers-requires-clause-room
put_registers-requires-clause-room c =
    let f = c.index-functions-number.result in
    let fs = c.args.functions.now in
    (c.requires.safe.room c.args.number f (slice_get_read fs (length fs) c.args.number f refl c.requires.number c.index-functions-number.is)).0

pub put_registers-requires-clause-table : goal.put_registers-requires-clause-table
put_registers-requires-clause-table c =
    let f = c.index-functions-number.result in
    let fs = c.args.functions.now in
    (c.requires.safe.room c.args.number f (slice_get_read fs (length fs) c.args.number f refl c.requires.number c.index-functions-number.is)).1

abbrev behind : goal.After-push_reserved → Running
behind c = record c.args.running.now {
  heap = c.put_registers.new.heap;
  stack = c.put_registers.new.stack;
  top = c.replace-caller.new.dest;
  below = c.push_reserved.new.self;
}

above : (c : goal.After-push_reserved) → HasAbove c.args.running.now (behind c) (made_frame c.args.number c.args.closure c.in_ok-extra.extra c.args.landing c.args.protections)
above c =
    let made = c.in_ok-put_registers.ensures in
    record {
      top_is = c.replace-caller.ensures.after;
      below_is = c.push_reserved.ensures.items ∙ (λ i. c.reserve.ensures.items i ++ c.replace-caller.ensures.value i ∷ []);
      frames = made.frames;
      shares = made.shares;
      cells = made.cells;
      only_tables = made.only_tables;
      keeps = made.keeps;
    }

pub returns-clause-begins : goal.returns-clause-begins
returns-clause-begins c chunk a whole =
    let old = c.args.running.now in
    let f = c.index-functions-number.result in
    let fs = c.args.functions.now in
    let at = slice_get_read fs (length fs) c.args.number f refl c.requires.number c.index-functions-number.is in
    begins_above chunk a fs old (behind c) c.args.number c.args.closure f c.args.args.now c.in_ok-extra.extra c.args.landing c.args.protections whole.safe (above c)
    (loaded_at chunk old.heap fs c.args.number f whole.loaded c.requires.number at)
    (c.in_ok-extra.ensures.known old.heap c.requires.args)
    (c.in_ok-extra.ensures.list old.heap)
    (λ m params flags further. c.in_ok-put_registers.ensures.begins m params flags (further ∙ ap (data_of old.heap) (sym c.items.ensures)))

pub returns-clause-safe : goal.returns-clause-safe
returns-clause-safe c =
    let old = c.args.running.now in
    let fs = c.args.functions.now in
    let extra = c.in_ok-extra.extra in
    safe_above fs old (behind c) (made_frame c.args.number c.args.closure extra c.args.landing c.args.protections) c.requires.safe (above c)
    (made_known old.heap fs c.args.number c.args.closure extra c.args.landing c.args.protections c.requires.number c.requires.closure (c.in_ok-extra.ensures.known old.heap c.requires.args)) c.requires.waiting
