use Rattle.std.proofs.Common.{◌∙◌, ◌∷◌, ◌-◌, None, arith, ap, length}
use Rattle.lua_heap.specs.State.{HeapState}
use Rattle.upvalue.specs.State.{top, cells_of}
use Rattle.machine.specs.declared.running.Running.{Running}
use Rattle.machine.specs.declared.did.Landing.{Landing}
use Rattle.machine.proofs.FirstFrames.{room_is, some_function, main_at, IsFirst, first_begins, first_safe}
use Rattle.machine.proofs.beginning.first_running.Goals as goal

pub overflow_sub-main : goal.overflow_sub-main
overflow_sub-main c = let is = c.requires.loaded in some_function is.0 c.args.heap c.args.functions.now is.2

pub bounds-functions-main : goal.bounds-functions-main
bounds-functions-main c =
    let is = c.requires.loaded in omega (arith, some_function is.0 c.args.heap c.args.functions.now is.2)

pub put_registers-requires-clause-room : goal.put_registers-requires-clause-room
put_registers-requires-clause-room c =
    let is = c.requires.loaded in
    let fs = c.args.functions.now in
    let f = c.index-functions-main.result in
    (room_is is.0 c.args.heap fs is.2 is.1 (length fs - 1) f (main_at is.0 c.args.heap fs is.2 f c.index-functions-main.is)).0

pub put_registers-requires-clause-table : goal.put_registers-requires-clause-table
put_registers-requires-clause-table c =
    let is = c.requires.loaded in
    let fs = c.args.functions.now in
    let f = c.index-functions-main.result in
    (room_is is.0 c.args.heap fs is.2 is.1 (length fs - 1) f (main_at is.0 c.args.heap fs is.2 f c.index-functions-main.is)).1

abbrev behind : goal.After-new-3 → Running
behind c = record {
  heap = c.put_registers.new.heap;
  stack = c.put_registers.new.stack;
  top = record { function = length c.args.functions.now - 1; closure = None; pc = 0; extra = c.new.result; results = None; landing = Landing.Nowhere; protections = 0 };
  below = c.new-2.result;
  pieces = c.new-3.result;
}

is_first : (c : goal.After-new-3) → IsFirst c.args.heap c.args.functions.now (behind c)
is_first c =
    let made = c.in_ok-put_registers.ensures in
    record {
      top_is = λ i. record (behind c).top { extra = c.new.ensures i };
      below_is = c.new-2.ensures.items;
      frames = made.frames ∙ (λ i. top c.put_registers.new.stack.frames ∷ (c.new-stack.ensures i).frames);
      shares = made.shares;
      cells = made.cells ∙ (λ i. cells_of (c.new-stack.ensures i).frames (record c.args.heap { cells = c.requires.cells i }));
      closures = ap (λ (h : HeapState). h.closures) made.only_tables ∙ c.requires.closures;
      keeps = made.keeps;
    }

pub returns-clause-begins : goal.returns-clause-begins
returns-clause-begins c chunk hosts replies loaded =
    let fs = c.args.functions.now in
    let f = c.index-functions-main.result in
    let at = main_at chunk c.args.heap fs loaded f c.index-functions-main.is in
    first_begins chunk c.args.heap fs (behind c) (is_first c) loaded f at c.in_ok-put_registers.ensures.begins hosts replies

pub returns-clause-safe : goal.returns-clause-safe
returns-clause-safe c =
    let is = c.requires.loaded in first_safe is.0 c.args.heap c.args.functions.now (behind c) (is_first c) is.2 is.1
