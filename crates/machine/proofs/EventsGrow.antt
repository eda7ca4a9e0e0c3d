-- What happened before a word, a call, a landing, a failure that goes down or a step stands first in what happened behind it.
use Rattle.std.proofs.Common.{ℕ, zero, suc, ◌+◌, ◌-◌, ℤ, pos, Bool, true, false, List, [], ◌∷◌, ◌++◌, length, take, drop, None, Some, sym, ap, ◌∙◌, append_assoc, append-nil}
use Rattle.std.specs.Prelude.{Option, nat_lt, nat_le, nat_eq, ◌==◌, ◌+ℤ◌, slice_get, slice_set, if◌then◌else◌}
use Rattle.opcode.specs.declared.op.Op.{Op}
use Rattle.opcode.specs.declared.word.Instr.{Instr}
use Rattle.opcode.specs.Reading.{instr_of}
use Rattle.proto.specs.Chunk.{own, functions, function_at}
use Rattle.lua_num.specs.declared.arith.ArithOp.{ArithOp}
use Rattle.lua_num.specs.declared.arith.CompareOp.{CompareOp}
use Rattle.lua_model.specs.Datum.{Datum, text, table, closure, native, host, is_nil, first_of, adjusted}
use Rattle.lua_model.specs.declared.plain.Plain.{Plain}
use Rattle.lua_model.specs.Store.{Store, Event, Reply, replies_values, replies_failure}
use Rattle.lua_model.specs.Endings.{IsPrefix}
use Rattle.lua_model.specs.Acts.{Act, value, call as calls, failure, Callee, plain, through, no_function, NativeAct, results, prints, asks, fails, protects, closes}
use Rattle.lua_model.specs.Operators.{depth_limit, protection_limit, stack_overflow, callee, join as join_two, arith, negate, size, compare, index, set_index, LoopNumbers, counts, no_count, loop_numbers}
use Rattle.lua_model.specs.Builtins.{native as built_in, call_host}
use Rattle.rules.specs.Places.{as_pc}
use Rattle.rules.specs.Words.{has_arg_table}
use Rattle.rules.specs.State.{Landing, into, test, pairs, fixed, open_at, turn, nowhere, Frame, Cell, Open, Closed, Closure, State, Effect, Goes, Fails, Ends, Waits, IsStuck, need, check, at_pc, with_registers, with_results, with_store, register, constant, operand, global_name, has_registers, span, set, set_all, spliced}
use Rattle.rules.specs.Cells.{read_cell, write_register, with_frames, with_cell, close_from, find_open, capture_as, take_cell_by, take_cells}
use Rattle.rules.specs.Calls.{next_jmp, jump, skip, branch, broke, worked, failed_in, heard, asked_of, answered, entered, apply, apply_to, call_within, call_by, frame_of, with_arg_table, begin, push, answer, join, turned, land, call, replace, tail_call, give_to, leave}
use Rattle.rules.specs.Step.{give, give_test, give_write, do_arith, do_compare, listed, count_of, landing_of, loop_number, turn_loop, prepare, set_list, list_of, do_setlist, add_closure, do_closure, effect}
use Rattle.rules.specs.Run.{Conf, settled, unwind, after, current, step}
use Rattle.machine.specs.Called.{Enters, Lands}
use Rattle.machine.specs.Begun.{BeginsState, BeginsEffect, BeginsConf, KeepFirst, KeepEvents, KeepsAgain}

pub first_itself : (es : List Event) → IsPrefix es es
first_itself es = ([], sym (append-nil es))

pub first_more : (es events fs : List Event) → IsPrefix es events → IsPrefix es (events ++ fs)
first_more es events fs (rest, is) = (rest ++ fs, ap (λ (xs : List Event). xs ++ fs) is ∙ append_assoc es rest fs)

module _ (es : List Event) where
  need_begins : {A : Type 0} (o : Option A) (next : A → Effect) → ((x : A) → BeginsEffect es (next x)) → BeginsEffect es (need o next)
  need_begins None next begins = tt
  need_begins (Some x) next begins = begins x

  check_begins : (b : Bool) (effect : Effect) → BeginsEffect es effect → BeginsEffect es (check b effect)
  check_begins true effect begins = begins
  check_begins false effect begins = tt

  either_begins : (b : Bool) (x y : Effect) → BeginsEffect es x → BeginsEffect es y → BeginsEffect es (if b then x else y)
  either_begins true x y first second = first
  either_begins false x y first second = second

  either_state : (b : Bool) (m n : State) → BeginsState es m → BeginsState es n → BeginsState es (if b then m else n)
  either_state true m n first second = first
  either_state false m n first second = second

  set_begins : (m : State) (a : ℕ) (v : Datum) → BeginsState es m → BeginsEffect es (set m a v)
  set_begins m a v so = need_begins (register m a) _ (λ old. so)

  set_all_begins : (m : State) (a : ℕ) (vs : List Datum) → BeginsState es m → BeginsEffect es (set_all m a vs)
  set_all_begins m a vs so = check_begins (has_registers m a (length vs)) _ so

  jump_begins : (m : State) (s : ℤ) → BeginsState es m → BeginsEffect es (jump m s)
  jump_begins m s so = need_begins (as_pc (pos m.top.pc +ℤ s)) _ (λ pc. so)

  branch_begins : (m : State) (b : Bool) → BeginsState es m → BeginsEffect es (branch m b)
  branch_begins m true so = need_begins (next_jmp m) _ (λ s. jump_begins (skip m) s so)
  branch_begins m false so = need_begins (next_jmp m) _ (λ s. so)

  begin_begins : (m : State) → BeginsState es m → BeginsEffect es (begin m)
  begin_begins m so =
      check_begins (nat_le (own m.top.function).params (length m.top.registers)) _
      (either_begins (has_arg_table (own m.top.function).flags) _ (Goes m) (set_begins (with_store m (with_arg_table m.store m.top.extra)) (own m.top.function).params (table (length m.store.tables)) so) so)

  turned_begins : (m : State) (a : ℕ) (vs : List Datum) → BeginsState es m → BeginsEffect es (turned m a vs)
  turned_begins m a vs so =
      let put = with_registers m (spliced m.top.registers (a + 3) vs) in
      check_begins (has_registers m (a + 3) (length vs)) _
      (need_begins (register put (a + 3)) _
      (λ v. either_begins (is_nil v) _ _ (branch_begins put false so) (need_begins (register put (a + 2)) _ (λ old. branch_begins (with_registers put (slice_set put.top.registers (a + 2) v)) true so))))

  -- ---- calls

  module _ (enters : Enters) (lands : Lands) (keep : KeepFirst es enters lands) where
    pub failed_begins : (p : ℕ) (m : State) (v : Datum) → BeginsState es m → BeginsEffect es (failed_in lands p m v)
    failed_begins zero m v so = so
    failed_begins (suc p) m v so = keep.landing m (broke p v) so

    pub heard_begins : (p : ℕ) (m : State) (reply : Reply) → BeginsState es m → BeginsEffect es (heard enters lands p m reply)
    heard_begins p m (replies_values vs) so = keep.landing m _ so
    heard_begins p m (replies_failure t) so = failed_begins p m (text t) so

    asked_begins : (p : ℕ) (m : State) (h : ℕ) (args : List Plain) (replies : List Reply) → BeginsState es m → BeginsEffect es (asked_of enters lands p m h args replies)
    asked_begins p m h args [] so = tt
    asked_begins p m h args (reply ∷ left) so = heard_begins p _ reply (first_more es m.outside.events _ so)

    answered_begins : (p : ℕ) (again : Datum → List Datum → Effect) → KeepsAgain es again → (m : State) (a : NativeAct) → BeginsState es m → BeginsEffect es (answered enters lands p again m a)
    answered_begins p again on m (results vs store) so = keep.landing (with_store m store) _ so
    answered_begins p again on m (prints piece) so = keep.landing _ _ (first_more es m.outside.events _ so)
    answered_begins p again on m (asks h args) so = asked_begins p m h args m.outside.replies so
    answered_begins p again on m (fails v) so = failed_begins p m v so
    answered_begins p again on m (protects f args) so = on f args
    answered_begins p again on m (closes h store) so = keep.landing _ _ (first_more es m.outside.events _ so)

    entered_begins : (p : ℕ) (m : State) (f : Option Closure) (args : List Datum) → BeginsState es m → BeginsEffect es (entered enters lands p m f args)
    entered_begins p m None args so = failed_begins p m _ so
    entered_begins p m (Some f) args so = keep.entering p m f args so

    pub apply_begins : (p : ℕ) (again : Datum → List Datum → Effect) → KeepsAgain es again → (m : State) (f : Datum) (args : List Datum) → BeginsState es m → BeginsEffect es (apply enters lands p again m f args)
    apply_begins p again on m (closure c) args so = entered_begins p m (slice_get m.closures c) args so
    apply_begins p again on m (native id) args so = answered_begins p again on m (built_in id args m.store) so
    apply_begins p again on m (host h) args so = answered_begins p again on m (call_host h args m.store) so
    apply_begins p again on m _ args so = failed_begins p m _ so

    pub apply_to_begins : (p : ℕ) (again : Datum → List Datum → Effect) → KeepsAgain es again → (m : State) (f : Callee) (args : List Datum) → BeginsState es m → BeginsEffect es (apply_to enters lands p again m f args)
    apply_to_begins p again on m (plain f) args so = apply_begins p again on m f args so
    apply_to_begins p again on m (through handler) args so = apply_begins p again on m handler args so
    apply_to_begins p again on m (no_function v) args so = failed_begins p m v so

    pub call_within_begins : (left p : ℕ) (m : State) (f : Datum) (args : List Datum) → BeginsState es m → BeginsEffect es (call_within enters lands left p m f args)
    call_within_begins zero p m f args so =
        apply_to_begins p (λ g xs. failed_in lands p m stack_overflow) (λ g xs. failed_begins p m stack_overflow so) m (callee m.store f) _ so
    call_within_begins (suc left) p m f args so =
        apply_to_begins p (λ g xs. call_within enters lands left (suc p) m g xs) (λ g xs. call_within_begins left (suc p) m g xs so) m (callee m.store f) _ so

    pub call_by_begins : (m : State) (f : Datum) (args : List Datum) → BeginsState es m → BeginsEffect es (call_by enters lands m f args)
    call_by_begins m f args so = call_within_begins protection_limit 0 m f args so

  overflow_begins : (lands : Lands) → ((m : State) (vs : List Datum) → BeginsState es m → BeginsEffect es (lands m vs)) → (p : ℕ) (m : State) → BeginsState es m → BeginsEffect es (failed_in lands p m stack_overflow)
  overflow_begins lands landing zero m so = so
  overflow_begins lands landing (suc p) m so = landing m (broke p stack_overflow) so

  push_begins : (landing : Landing) (lands : Lands) → ((m : State) (vs : List Datum) → BeginsState es m → BeginsEffect es (lands m vs)) → (p : ℕ) (m : State) (f : Closure) (args : List Datum) → BeginsState es m → BeginsEffect es (push landing lands p m f args)
  push_begins landing lands lands_on p m f args so =
      either_begins (nat_lt (length m.below) depth_limit) _ _ (begin_begins (record m { top = frame_of f args landing p; below = m.top ∷ m.below }) so) (overflow_begins lands lands_on p m so)

  push_keeps : (landing : Landing) (lands : Lands) → ((m : State) (vs : List Datum) → BeginsState es m → BeginsEffect es (lands m vs)) → KeepFirst es (push landing lands) lands
  push_keeps landing lands lands_on = record { entering = push_begins landing lands lands_on; landing = lands_on }

  -- ---- landings

  answer_begins : (landing : Landing) (lands : Lands) (next : State → Datum → Effect) → ((m : State) (vs : List Datum) → BeginsState es m → BeginsEffect es (lands m vs)) → ((m : State) (v : Datum) → BeginsState es m → BeginsEffect es (next m v)) → (m : State) (act : Act) → BeginsState es m → BeginsEffect es (answer landing lands next m act)
  answer_begins landing lands next lands_on goes m (value v) so = goes m v so
  answer_begins landing lands next lands_on goes m (calls h args how) so = call_by_begins (push landing lands) lands (push_keeps landing lands lands_on) m h args so
  answer_begins landing lands next lands_on goes m (failure v) so = so

  join_begins : (n : ℕ) (m : State) (a first : ℕ) (v : Datum) → BeginsState es m → BeginsEffect es (join m a first n v)
  join_begins zero m a first v so = set_begins m a v so
  join_begins (suc n) m a first v so =
      need_begins (register m (first + n)) _
      (λ left. answer_begins (pairs a first n) (λ m1 vs. join m1 a first n (first_of vs)) (λ m1 w. join m1 a first n w) (λ m1 vs so1. join_begins n m1 a first (first_of vs) so1) (λ m1 w so1. join_begins n m1 a first w so1) m (join_two m.store left v) so)

  pub land_begins : (landing : Landing) (m : State) (vs : List Datum) → BeginsState es m → BeginsEffect es (land landing m vs)
  land_begins (into a) m vs so = set_begins m a (first_of vs) so
  land_begins (test a negated) m vs so = branch_begins m _ so
  land_begins (pairs a first n) m vs so = join_begins n m a first (first_of vs) so
  land_begins (fixed a n) m vs so = set_all_begins m a (adjusted n vs) so
  land_begins (open_at a) m vs so = so
  land_begins (turn a n) m vs so = turned_begins m a (adjusted n vs) so
  land_begins nowhere m vs so = so

  call_keeps : (landing : Landing) → KeepFirst es (push landing (land landing)) (land landing)
  call_keeps landing = push_keeps landing (land landing) (land_begins landing)

  pub call_begins : (landing : Landing) (m : State) (f : Datum) (args : List Datum) → BeginsState es m → BeginsEffect es (call landing m f args)
  call_begins landing m f args so = call_by_begins (push landing (land landing)) (land landing) (call_keeps landing) m f args so

  replace_begins : (a p : ℕ) (m : State) (f : Closure) (args : List Datum) → BeginsState es m → BeginsEffect es (replace a p m f args)
  replace_begins a zero m f args so = begin_begins (record (close_from m 0) { top = frame_of f args m.top.landing m.top.protections }) so
  replace_begins a (suc p) m f args so = push_begins (open_at a) (land (open_at a)) (land_begins (open_at a)) (suc p) m f args so

  replace_keeps : (a : ℕ) → KeepFirst es (replace a) (land (open_at a))
  replace_keeps a = record { entering = replace_begins a; landing = land_begins (open_at a) }

  give_to_begins : (below : List Frame) (m : State) (landing : Landing) (vs : List Datum) → BeginsState es m → BeginsEffect es (give_to below m landing vs)
  give_to_begins [] m landing vs so = so
  give_to_begins (x ∷ below) m landing vs so = land_begins landing (record m { top = x; below = below }) vs so

  -- ---- parts of words

  give_begins : (m : State) (a : ℕ) (act : Act) → BeginsState es m → BeginsEffect es (give m a act)
  give_begins m a act so = answer_begins (into a) (land (into a)) (λ m1 v. set m1 a v) (land_begins (into a)) (λ m1 v so1. set_begins m1 a v so1) m act so

  give_test_begins : (m : State) (a : ℕ) (act : Act) → BeginsState es m → BeginsEffect es (give_test m a act)
  give_test_begins m a (value v) so = branch_begins m _ so
  give_test_begins m a (calls h args how) so = call_begins _ m h args so
  give_test_begins m a (failure v) so = so

  give_write_begins : (m : State) (written : Act × Store) → BeginsState es m → BeginsEffect es (give_write m written)
  give_write_begins m written so = answer_begins nowhere (land nowhere) (λ m1 v. Goes m1) (land_begins nowhere) (λ m1 v so1. so1) (with_store m written.1) written.0 so

  arith_begins : (op : ArithOp) (m : State) (i : Instr) → BeginsState es m → BeginsEffect es (do_arith op m i)
  arith_begins op m i so = need_begins (operand m i.b) _ (λ x. need_begins (operand m i.c) _ (λ y. give_begins m i.a (arith m.store op x y) so))

  compare_begins : (op : CompareOp) (m : State) (i : Instr) → BeginsState es m → BeginsEffect es (do_compare op m i)
  compare_begins op m i so =
      need_begins (next_jmp m) _ (λ s. need_begins (operand m i.b) _ (λ x. need_begins (operand m i.c) _ (λ y. give_test_begins m i.a (compare m.store op x y) so)))

  listed_begins : (m : State) (first : ℕ) (count : Option ℕ) (next : State → List Datum → Effect) → ((m1 : State) (vs : List Datum) → BeginsState es m1 → BeginsEffect es (next m1 vs)) → BeginsState es m → BeginsEffect es (listed m first count next)
  listed_begins m first (Some n) next on so = need_begins (span m first n) _ (λ vs. on m vs so)
  listed_begins m first None next on so =
      need_begins m.top.results _
      (λ results. check_begins (nat_le first results.first) _ (need_begins (span m first (results.first - first)) _ (λ vs. on (with_results m None) (vs ++ results.values) so)))

  turn_loop_begins : (m : State) (i : Instr) (n : ℤ) (b : Bool) → BeginsState es m → BeginsEffect es (turn_loop m i n b)
  turn_loop_begins m i n true so = need_begins (register m (i.a + 3)) _ (λ old. jump_begins (with_registers m _) i.sbx so)
  turn_loop_begins m i n false so = so

  prepare_begins : (m : State) (i : Instr) (numbers : LoopNumbers) → BeginsState es m → BeginsEffect es (prepare m i numbers)
  prepare_begins m i (counts first limit step) so = jump_begins (with_registers m _) i.sbx so
  prepare_begins m i (no_count why) so = so

  set_list_begins : (m : State) (block : ℕ) (t : Datum) (vs : List Datum) → BeginsState es m → BeginsEffect es (set_list m block t vs)
  set_list_begins m block (table t) vs so = so
  set_list_begins m block _ vs so = so

  setlist_begins : (m : State) (i : Instr) (block : ℕ) → BeginsState es m → BeginsEffect es (do_setlist m i block)
  setlist_begins m i block so =
      need_begins (register m i.a) _ (λ t. listed_begins m (suc i.a) (list_of i.b) (λ m1 vs. set_list m1 block t vs) (λ m1 vs so1. set_list_begins m1 block t vs so1) so)

  -- ---- cells

  with_frames_begins : (m : State) (frames : List Frame) → BeginsState es m → BeginsState es (with_frames m frames)
  with_frames_begins m [] so = so
  with_frames_begins m (x ∷ below) so = so

  with_cell_begins : (m : State) (c : ℕ) (v : Datum) (cell : Cell) → BeginsState es m → BeginsState es (with_cell m c v cell)
  with_cell_begins m c v (Closed old) so = so
  with_cell_begins m c v (Open frame r) so = with_frames_begins m (write_register (m.top ∷ m.below) frame r v) so

  capture_as_begins : (m : State) (r : ℕ) (found : Option ℕ) (next : State → ℕ → Effect) → ((m1 : State) (c : ℕ) → BeginsState es m1 → BeginsEffect es (next m1 c)) → BeginsState es m → BeginsEffect es (capture_as m r found next)
  capture_as_begins m r (Some c) next on so = on m c so
  capture_as_begins m r None next on so = on _ _ so

  take_cell_begins : (op : Op) (m : State) (i : Instr) (next : State → ℕ → Effect) → ((m1 : State) (c : ℕ) → BeginsState es m1 → BeginsEffect es (next m1 c)) → BeginsState es m → BeginsEffect es (take_cell_by op m i next)
  take_cell_begins Op.Move m i next on so = need_begins (register m i.b) _ (λ v. capture_as_begins m i.b (find_open (length m.below) i.b 0 m.cells) next on so)
  take_cell_begins Op.GetUpval m i next on so = need_begins (slice_get m.top.cells i.b) _ (λ c. on m c so)
  take_cell_begins _ m i next on so = tt

  take_cells_begins : (words : List ℕ) (m : State) (next : State → List ℕ → Effect) → ((m1 : State) (cs : List ℕ) → BeginsState es m1 → BeginsEffect es (next m1 cs)) → BeginsState es m → BeginsEffect es (take_cells m words next)
  take_cells_begins [] m next on so = on m [] so
  take_cells_begins (w ∷ rest) m next on so =
      need_begins (instr_of w) _
      (λ i. take_cell_begins i.op m i (λ m1 c. take_cells m1 rest (λ m2 cs. next m2 (c ∷ cs))) (λ m1 c so1. take_cells_begins rest m1 (λ m2 cs. next m2 (c ∷ cs)) (λ m2 cs so2. on m2 (c ∷ cs) so2) so1) so)

  closure_begins : (m : State) (i : Instr) → BeginsState es m → BeginsEffect es (do_closure m i)
  closure_begins m i so =
      need_begins (function_at (functions m.top.function) i.bx) _
      (λ f. check_begins (nat_eq (length (take (own f).upvalues (drop m.top.pc (own m.top.function).code))) (own f).upvalues) _
      (take_cells_begins (take (own f).upvalues (drop m.top.pc (own m.top.function).code)) m (λ m1 cells. add_closure (at_pc m1 (m1.top.pc + (own f).upvalues)) i.a f cells) (λ m1 cells so1. set_begins _ i.a _ so1) so))

  vararg_begins : (m : State) (a : ℕ) (count : Option ℕ) → BeginsState es m → BeginsEffect es (elim count [ None ↦ Goes (with_results m (Some (record { first = a; values = m.top.extra }))) | Some n ↦ set_all m a (adjusted n m.top.extra) ])
  vararg_begins m a None so = so
  vararg_begins m a (Some n) so = set_all_begins m a (adjusted n m.top.extra) so

  -- ---- words

  pub effect_begins : (op : Op) (m : State) (i : Instr) → BeginsState es m → BeginsEffect es (effect op m i)
  effect_begins Op.Move m i so = need_begins (register m i.b) _ (λ v. set_begins m i.a v so)
  effect_begins Op.LoadK m i so = need_begins (constant m i.bx) _ (λ v. set_begins m i.a v so)
  effect_begins Op.LoadBool m i so = set_begins (if i.c == 0 then m else skip m) i.a _ (either_state (i.c == 0) m (skip m) so so)
  effect_begins Op.LoadNil m i so = set_all_begins m i.a _ so
  effect_begins Op.GetUpval m i so = need_begins (slice_get m.top.cells i.b) _ (λ c. need_begins (read_cell m c) _ (λ v. set_begins m i.a v so))
  effect_begins Op.GetGlobal m i so = need_begins (global_name m i.bx) _ (λ name. set_begins m i.a _ so)
  effect_begins Op.GetTable m i so = need_begins (register m i.b) _ (λ on. need_begins (operand m i.c) _ (λ key. give_begins m i.a (index m.store on key) so))
  effect_begins Op.SetGlobal m i so = need_begins (global_name m i.bx) _ (λ name. need_begins (register m i.a) _ (λ v. so))
  effect_begins Op.SetUpval m i so =
      need_begins (register m i.a) _ (λ v. need_begins (slice_get m.top.cells i.b) _ (λ c. need_begins (read_cell m c) _ (λ old. need_begins (slice_get m.cells c) _ (λ cell. with_cell_begins m c v cell so))))
  effect_begins Op.SetTable m i so =
      need_begins (register m i.a) _ (λ on. need_begins (operand m i.b) _ (λ key. need_begins (operand m i.c) _ (λ v. give_write_begins m (set_index m.store on key v) so)))
  effect_begins Op.NewTable m i so = set_begins (with_store m _) i.a _ so
  effect_begins Op.Self_ m i so =
      need_begins (register m i.b) _
      (λ on. need_begins (register m (suc i.a)) _
      (λ old. need_begins (operand (with_registers m (slice_set m.top.registers (suc i.a) on)) i.c) _ (λ key. give_begins (with_registers m (slice_set m.top.registers (suc i.a) on)) i.a (index m.store on key) so)))
  effect_begins Op.Add m i so = arith_begins ArithOp.Add m i so
  effect_begins Op.Sub m i so = arith_begins ArithOp.Sub m i so
  effect_begins Op.Mul m i so = arith_begins ArithOp.Mul m i so
  effect_begins Op.Div m i so = arith_begins ArithOp.Div m i so
  effect_begins Op.Mod m i so = arith_begins ArithOp.Rem m i so
  effect_begins Op.Pow m i so = arith_begins ArithOp.Pow m i so
  effect_begins Op.Unm m i so = need_begins (register m i.b) _ (λ v. give_begins m i.a (negate m.store v) so)
  effect_begins Op.Not m i so = need_begins (register m i.b) _ (λ v. set_begins m i.a _ so)
  effect_begins Op.Len m i so = need_begins (register m i.b) _ (λ v. give_begins m i.a (size m.store v) so)
  effect_begins Op.Concat m i so = check_begins (nat_lt i.b i.c) _ (need_begins (register m i.c) _ (λ v. join_begins (i.c - i.b) m i.a i.b v so))
  effect_begins Op.Jmp m i so = jump_begins m i.sbx so
  effect_begins Op.Eq m i so = compare_begins CompareOp.Eq m i so
  effect_begins Op.Lt m i so = compare_begins CompareOp.Lt m i so
  effect_begins Op.Le m i so = compare_begins CompareOp.Le m i so
  effect_begins Op.Test m i so = need_begins (register m i.a) _ (λ v. branch_begins m _ so)
  effect_begins Op.TestSet m i so =
      need_begins (next_jmp m) _
      (λ s. need_begins (register m i.b) _
      (λ v. either_begins _ _ _ (branch_begins m false so) (need_begins (register m i.a) _ (λ old. branch_begins (with_registers m (slice_set m.top.registers i.a v)) true so))))
  effect_begins Op.Call m i so =
      need_begins (register m i.a) _ (λ f. listed_begins m (suc i.a) (count_of i.b) (λ m1 args. call (landing_of i.a (count_of i.c)) m1 f args) (λ m1 args so1. call_begins (landing_of i.a (count_of i.c)) m1 f args so1) so)
  effect_begins Op.TailCall m i so =
      need_begins (register m i.a) _ (λ f. listed_begins m (suc i.a) (count_of i.b) (λ m1 args. tail_call i.a m1 f args) (λ m1 args so1. call_by_begins (replace i.a) (land (open_at i.a)) (replace_keeps i.a) m1 f args so1) so)
  effect_begins Op.Return m i so =
      listed_begins m i.a (count_of i.b) leave (λ m1 vs so1. give_to_begins m1.below (close_from m1 0) m1.top.landing (worked m1.top.protections vs) so1) so
  effect_begins Op.ForLoop m i so =
      need_begins (loop_number m i.a) _ (λ n. need_begins (loop_number m (i.a + 1)) _ (λ limit. need_begins (loop_number m (i.a + 2)) _ (λ step. turn_loop_begins (with_registers m _) i _ _ so)))
  effect_begins Op.ForPrep m i so =
      need_begins (register m i.a) _ (λ first. need_begins (register m (i.a + 1)) _ (λ limit. need_begins (register m (i.a + 2)) _ (λ step. prepare_begins m i (loop_numbers first limit step) so)))
  effect_begins Op.TForLoop m i so =
      need_begins (next_jmp m) _ (λ s. need_begins (register m i.a) _ (λ f. need_begins (register m (i.a + 1)) _ (λ state. need_begins (register m (i.a + 2)) _ (λ control. call_begins (turn i.a i.c) m f (state ∷ control ∷ []) so))))
  effect_begins Op.SetList m i so =
      either_begins (i.c == 0) _ _ (need_begins (slice_get (own m.top.function).code m.top.pc) _ (λ block. setlist_begins (skip m) i block so)) (setlist_begins m i i.c so)
  effect_begins Op.Close m i so = so
  effect_begins Op.Closure m i so = closure_begins m i so
  effect_begins Op.Vararg m i so = vararg_begins m i.a (count_of i.b) so

  -- ---- failures that go down, and steps

  settled_begins : (m0 : State) (fail : State → Datum → Conf) → ((at : State) (v : Datum) → BeginsState es at → BeginsConf es (fail at v)) → (effect : Effect) → BeginsEffect es effect → BeginsConf es (settled m0 fail effect)
  settled_begins m0 fail on (Goes next) so = so
  settled_begins m0 fail on (Fails at v) so = on at v so
  settled_begins m0 fail on (Ends at) so = so
  settled_begins m0 fail on Waits so = tt
  settled_begins m0 fail on IsStuck so = tt

  -- a frame with so many protections is left
  left_begins : (m0 : State) (below : List Frame) → ((at : State) (v : Datum) → BeginsState es at → BeginsConf es (unwind m0 below at v)) → (left : State) (landing : Landing) (v : Datum) → BeginsState es left → (n : ℕ) → BeginsConf es (elim n [ zero ↦ unwind m0 below left v | suc p ↦ settled m0 (λ at1 v1. unwind m0 below (record left { store = at1.store; outside = at1.outside }) v1) (give_to below left landing (broke p v)) ])
  left_begins m0 below on left landing v so zero = on left v so
  left_begins m0 below on left landing v so (suc p) =
      settled_begins m0 (λ at1 v1. unwind m0 below (record left { store = at1.store; outside = at1.outside }) v1) (λ at1 v1 so1. on (record left { store = at1.store; outside = at1.outside }) v1 so1) (give_to below left landing (broke p v)) (give_to_begins below left landing (broke p v) so)

  unwind_begins : (frames : List Frame) (m0 at : State) (v : Datum) → BeginsState es at → BeginsConf es (unwind m0 frames at v)
  unwind_begins [] m0 at v so = so
  unwind_begins (x ∷ below) m0 at v so =
      left_begins m0 below (λ at1 v1 so1. unwind_begins below m0 at1 v1 so1) (close_from (record at { top = x; below = below }) 0) x.landing v so x.protections

  pub after_begins : (m0 : State) (effect : Effect) → BeginsEffect es effect → BeginsConf es (after m0 effect)
  after_begins m0 effect so = settled_begins m0 (λ at v. unwind m0 (at.top ∷ at.below) at v) (λ at v so1. unwind_begins (at.top ∷ at.below) m0 at v so1) effect so

  pub step_begins : (m : State) → BeginsState es m → BeginsConf es (step m)
  step_begins m so = after_begins m (need (current m) (λ i. effect i.op (at_pc m (suc m.top.pc)) i)) (need_begins (current m) _ (λ i. effect_begins i.op (at_pc m (suc m.top.pc)) i so))

-- ---- calls from a frame

pub calls_keep : (landing : Landing) → KeepEvents (push landing (land landing)) (land landing)
calls_keep landing es = call_keeps es landing

pub tail_calls_keep : (a : ℕ) → KeepEvents (replace a) (land (open_at a))
tail_calls_keep a es = replace_keeps es a
