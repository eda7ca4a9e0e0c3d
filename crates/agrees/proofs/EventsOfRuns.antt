-- What has happened stays, over steps and runs of the machine.
use Rattle.std.proofs.Common.{ℕ, zero, suc, ◌+◌, ◌-◌, ℤ, Bool, true, false, not, inl, List, [], ◌∷◌, ◌++◌, length, Option, None, Some, ◌==◌}
use Rattle.std.specs.Prelude.{◌+ℤ◌, nat_lt, nat_le, nat_eq, slice_get, slice_set, replicate, take, drop, if◌then◌else◌}
use Rattle.opcode.specs.declared.op.Op.{Op}
use Rattle.opcode.specs.declared.word.Instr.{Instr}
use Rattle.opcode.specs.Word.{truth_field}
use Rattle.opcode.specs.Reading.{instr_of}
use Rattle.proto.specs.Chunk.{own, functions, function_at}
use Rattle.lua_num.specs.declared.arith.ArithOp.{ArithOp}
use Rattle.lua_num.specs.declared.arith.CompareOp.{CompareOp}
use Rattle.lua_num.specs.Arith.{wrap}
use Rattle.lua_model.specs.Datum.{Datum, nil, boolean, number, text, table, closure, native, host, is_true, adjusted}
use Rattle.lua_model.specs.Store.{Store, Event, global, new_table}
use Rattle.lua_model.specs.Endings.{IsPrefix}
use Rattle.lua_model.specs.Acts.{Act, value, call as calls, failure}
use Rattle.lua_model.specs.Operators.{arith, negate, size, compare, index, set_index, LoopNumbers, counts, no_count, loop_numbers, goes_on, protection_limit}
use Rattle.rules.specs.State.{Frame, Cell, Open, Closed, Landing, into, test, nowhere, open_at, turn, pairs, State, Closure, Effect, Goes, need, at_pc, with_registers, with_results, with_store, register, constant, operand, global_name, span, has_registers, set, set_all}
use Rattle.rules.specs.Cells.{read_cell, write_cell, with_cell, with_frames, write_register, close_from, take_cells, take_cell_by, capture_as, find_open}
use Rattle.rules.specs.Calls.{skip, next_jmp, answer, join, land, call, tail_call, replace, frame_of, leave, worked, give_to}
use Rattle.rules.specs.Run.{Conf, Going, Ended, Failed, Waiting, Stuck, step, current, run}
use Rattle.rules.specs.Step.{effect, give, give_test, is_negated, give_write, do_arith, do_compare, listed, count_of, landing_of, loop_number, turn_loop, prepare, set_list, list_of, do_setlist}
use Rattle.agrees.proofs.Accounts.{Grows, prefix_self, prefix_trans}
use Rattle.agrees.proofs.EventsOfSteps.{Tells, need_tells, check_tells, either_tells, set_tells, jump_tells, branch_tells, begin_tells, push_tells, within_tells, land_tells, after_grows, call_tells_so}

module _ (es : List Event) where
  abbrev T : Effect → Type 0
  T e = Tells (Unit {0}) es e

  abbrev Here : State → Type 0
  Here m = IsPrefix es m.outside.events

  call_any : (ld : Landing) (m : State) (f : Datum) (args : List Datum) → Here m → T (call ld m f args)
  call_any ld m f args h = call_tells_so (Unit {0}) es m ld protection_limit 0 f args h (inl tt)

  answer_any : (ld : Landing) (m : State) (next : State → Datum → Effect) → Here m → ((v : Datum) → T (next m v)) → (act : Act) → T (answer ld (land ld) next m act)
  answer_any ld m next h g (value v) = g v
  answer_any ld m next h g (calls f args how) = call_any ld m f args h
  answer_any ld m next h g (failure v) = h

  give_any : (m : State) (a : ℕ) (act : Act) → Here m → T (give m a act)
  give_any m a act h = answer_any (into a) m (λ m1 v. set m1 a v) h (λ v. set_tells (Unit {0}) es m a v h) act

  test_any : (m : State) (a : ℕ) (act : Act) → Here m → T (give_test m a act)
  test_any m a (value v) h = branch_tells (Unit {0}) es m _ h
  test_any m a (calls f args how) h = call_any (test a (is_negated how)) m f args h
  test_any m a (failure v) h = h

  write_any : (m : State) (w : Act × Store) → Here m → T (give_write m w)
  write_any m w h = answer_any nowhere (with_store m w.1) (λ m1 v. Goes m1) h (λ v. h) w.0

  arith_any : (op : ArithOp) (m : State) (i : Instr) → Here m → T (do_arith op m i)
  arith_any op m i h = need_tells (Unit {0}) es (operand m i.b) _ (λ x. need_tells (Unit {0}) es (operand m i.c) _ (λ y. give_any m i.a (arith m.store op x y) h))

  compare_any : (op : CompareOp) (m : State) (i : Instr) → Here m → T (do_compare op m i)
  compare_any op m i h = need_tells (Unit {0}) es (next_jmp m) _ (λ s. need_tells (Unit {0}) es (operand m i.b) _ (λ x. need_tells (Unit {0}) es (operand m i.c) _ (λ y. test_any m i.a (compare m.store op x y) h)))

  list_any_goes : (m : State) (first : ℕ) (n : Option ℕ) (next : State → List Datum → Effect) → Here m → ((m1 : State) (vs : List Datum) → Here m1 → T (next m1 vs)) → T (listed m first n next)
  list_any_goes m first (Some n) next h g = need_tells (Unit {0}) es (span m first n) _ (λ vs. g m vs h)
  list_any_goes m first None next h g = need_tells (Unit {0}) es m.top.results _ (λ r. check_tells (Unit {0}) es (nat_le first r.first) _ (need_tells (Unit {0}) es (span m first (r.first - first)) _ (λ vs. g (with_results m None) (vs ++ r.values) h)))

  set_list_any : (m : State) (block : ℕ) (t : Datum) (vs : List Datum) → Here m → T (set_list m block t vs)
  set_list_any m block (table t) vs h = h
  set_list_any m block nil vs h = h
  set_list_any m block (boolean t) vs h = h
  set_list_any m block (number t) vs h = h
  set_list_any m block (text t) vs h = h
  set_list_any m block (closure t) vs h = h
  set_list_any m block (native t) vs h = h
  set_list_any m block (host t) vs h = h

  setlist_any : (m : State) (i : Instr) (block : ℕ) → Here m → T (do_setlist m i block)
  setlist_any m i block h = need_tells (Unit {0}) es (register m i.a) _ (λ t. list_any_goes m (suc i.a) (list_of i.b) _ h (λ m1 vs h1. set_list_any m1 block t vs h1))

  replace_any : (a : ℕ) (m : State) → Here m → (p : ℕ) (f : Closure) (args : List Datum) → T (replace a p m f args)
  replace_any a m h zero f args = begin_tells (Unit {0}) es (record (close_from m 0) { top = frame_of f args m.top.landing m.top.protections }) h
  replace_any a m h (suc p) f args = push_tells (Unit {0}) es m (open_at a) (land (open_at a)) h (λ m1 vs e1 e2 h1. h1) (suc p) f args

  pub tail_any : (a : ℕ) (m : State) (f : Datum) (args : List Datum) → Here m → T (tail_call a m f args)
  tail_any a m f args h = within_tells (Unit {0}) es m (replace a) (land (open_at a)) h (replace_any a m h) (λ m1 vs e1 e2 h1. h1) protection_limit 0 f args (inl tt)

  take_by_any : (op : Op) (m : State) (i : Instr) (next : State → ℕ → Effect) → Here m → ((m1 : State) (c : ℕ) → Here m1 → T (next m1 c)) → T (take_cell_by op m i next)
  take_by_any Op.Move m i next h g = need_tells (Unit {0}) es (register m i.b) _ (λ v. by (find_open (length m.below) i.b 0 m.cells))
    where
      by : (o : Option ℕ) → T (capture_as m i.b o next)
      by None = g _ _ h
      by (Some c) = g m c h
  take_by_any Op.GetUpval m i next h g = need_tells (Unit {0}) es (slice_get m.top.cells i.b) _ (λ c. g m c h)
  take_by_any _ m i next h g = tt

  take_any : (words : List ℕ) (m : State) (next : State → List ℕ → Effect) → Here m → ((m1 : State) (cs : List ℕ) → Here m1 → T (next m1 cs)) → T (take_cells m words next)
  take_any [] m next h g = g m [] h
  take_any (w ∷ rest) m next h g = need_tells (Unit {0}) es (instr_of w) _ (λ i. take_by_any i.op m i _ h (λ m1 c h1. take_any rest m1 (λ m2 cs. next m2 (c ∷ cs)) h1 (λ m2 cs h2. g m2 (c ∷ cs) h2)))

  leave_any : (m : State) (vs : List Datum) → Here m → T (leave m vs)
  leave_any m vs h = by m.below
    where
      by : (below : List Frame) → T (give_to below (close_from m 0) m.top.landing (worked m.top.protections vs))
      by [] = h
      by (x ∷ below) = land_tells (Unit {0}) es m.top.landing (record (close_from m 0) { top = x; below = below }) (worked m.top.protections vs) h

  with_cell_any : (m : State) (c : ℕ) (v : Datum) → Here m → T (write_cell m c v)
  with_cell_any m c v h = need_tells (Unit {0}) es (read_cell m c) _ (λ old. need_tells (Unit {0}) es (slice_get m.cells c) _ (λ k. by k))
    where
      frames : (fs : List Frame) → Here (with_frames m fs)
      frames [] = h
      frames (x ∷ fs) = h

      by : (k : Cell) → Here (with_cell m c v k)
      by (Closed old) = h
      by (Open f r) = frames (write_register (m.top ∷ m.below) f r v)

  turn_any : (m : State) (i : Instr) (n : ℤ) (b : Bool) → Here m → T (turn_loop m i n b)
  turn_any m i n true h = need_tells (Unit {0}) es (register m (i.a + 3)) _ (λ old. jump_tells (Unit {0}) es (with_registers m (slice_set m.top.registers (i.a + 3) (number n))) i.sbx h)
  turn_any m i n false h = h

  prepare_any : (m : State) (i : Instr) (n : LoopNumbers) → Here m → T (prepare m i n)
  prepare_any m i (counts first limit by) h = jump_tells (Unit {0}) es (with_registers m _) i.sbx h
  prepare_any m i (no_count why) h = h

  effect_any : (op : Op) (m : State) (i : Instr) → Here m → T (effect op m i)
  effect_any Op.Move m i h = need_tells (Unit {0}) es (register m i.b) _ (λ v. set_tells (Unit {0}) es m i.a v h)
  effect_any Op.LoadK m i h = need_tells (Unit {0}) es (constant m i.bx) _ (λ v. set_tells (Unit {0}) es m i.a v h)
  effect_any Op.LoadBool m i h = by (i.c == 0)
    where
      by : (b : Bool) → T (set (if b then m else skip m) i.a (boolean (not (i.b == 0))))
      by true = set_tells (Unit {0}) es m i.a (boolean (not (i.b == 0))) h
      by false = set_tells (Unit {0}) es (skip m) i.a (boolean (not (i.b == 0))) h
  effect_any Op.LoadNil m i h = check_tells (Unit {0}) es (has_registers m i.a (length (replicate (suc i.b - i.a) nil))) _ h
  effect_any Op.GetUpval m i h = need_tells (Unit {0}) es (slice_get m.top.cells i.b) _ (λ c. need_tells (Unit {0}) es (read_cell m c) _ (λ v. set_tells (Unit {0}) es m i.a v h))
  effect_any Op.GetGlobal m i h = need_tells (Unit {0}) es (global_name m i.bx) _ (λ name. set_tells (Unit {0}) es m i.a (global m.store name) h)
  effect_any Op.GetTable m i h = need_tells (Unit {0}) es (register m i.b) _ (λ on. need_tells (Unit {0}) es (operand m i.c) _ (λ key. give_any m i.a (index m.store on key) h))
  effect_any Op.SetGlobal m i h = need_tells (Unit {0}) es (global_name m i.bx) _ (λ name. need_tells (Unit {0}) es (register m i.a) _ (λ v. h))
  effect_any Op.SetUpval m i h = need_tells (Unit {0}) es (register m i.a) _ (λ v. need_tells (Unit {0}) es (slice_get m.top.cells i.b) _ (λ c. with_cell_any m c v h))
  effect_any Op.SetTable m i h = need_tells (Unit {0}) es (register m i.a) _ (λ on. need_tells (Unit {0}) es (operand m i.b) _ (λ key. need_tells (Unit {0}) es (operand m i.c) _ (λ v. write_any m (set_index m.store on key v) h)))
  effect_any Op.NewTable m i h = set_tells (Unit {0}) es (with_store m (new_table m.store)) i.a (table (length m.store.tables)) h
  effect_any Op.Self_ m i h = need_tells (Unit {0}) es (register m i.b) _ (λ on. need_tells (Unit {0}) es (register m (suc i.a)) _ (λ old. let m1 = with_registers m (slice_set m.top.registers (suc i.a) on) in need_tells (Unit {0}) es (operand m1 i.c) _ (λ key. give_any m1 i.a (index m1.store on key) h)))
  effect_any Op.Add m i h = arith_any ArithOp.Add m i h
  effect_any Op.Sub m i h = arith_any ArithOp.Sub m i h
  effect_any Op.Mul m i h = arith_any ArithOp.Mul m i h
  effect_any Op.Div m i h = arith_any ArithOp.Div m i h
  effect_any Op.Mod m i h = arith_any ArithOp.Rem m i h
  effect_any Op.Pow m i h = arith_any ArithOp.Pow m i h
  effect_any Op.Unm m i h = need_tells (Unit {0}) es (register m i.b) _ (λ v. give_any m i.a (negate m.store v) h)
  effect_any Op.Not m i h = need_tells (Unit {0}) es (register m i.b) _ (λ v. set_tells (Unit {0}) es m i.a (boolean (not (is_true v))) h)
  effect_any Op.Len m i h = need_tells (Unit {0}) es (register m i.b) _ (λ v. give_any m i.a (size m.store v) h)
  effect_any Op.Concat m i h = check_tells (Unit {0}) es (nat_lt i.b i.c) _ (need_tells (Unit {0}) es (register m i.c) _ (λ v. joins m i.a i.b (i.c - i.b) v h))
    where
      joins : (m : State) (a first n : ℕ) (v : Datum) → Here m → T (join m a first n v)
      joins m a first n v h1 = land_tells (Unit {0}) es (pairs a first n) m (v ∷ []) h1
  effect_any Op.Jmp m i h = jump_tells (Unit {0}) es m i.sbx h
  effect_any Op.Eq m i h = compare_any CompareOp.Eq m i h
  effect_any Op.Lt m i h = compare_any CompareOp.Lt m i h
  effect_any Op.Le m i h = compare_any CompareOp.Le m i h
  effect_any Op.Test m i h = need_tells (Unit {0}) es (register m i.a) _ (λ v. branch_tells (Unit {0}) es m (not (truth_field (not (is_true v)) == i.c)) h)
  effect_any Op.TestSet m i h = need_tells (Unit {0}) es (next_jmp m) _ (λ s. need_tells (Unit {0}) es (register m i.b) _ (λ v. either_tells (Unit {0}) es (truth_field (not (is_true v)) == i.c) _ _ (branch_tells (Unit {0}) es m false h) (need_tells (Unit {0}) es (register m i.a) _ (λ old. branch_tells (Unit {0}) es (with_registers m (slice_set m.top.registers i.a v)) true h))))
  effect_any Op.Call m i h = need_tells (Unit {0}) es (register m i.a) _ (λ f. list_any_goes m (suc i.a) (count_of i.b) _ h (λ m1 args h1. call_any (landing_of i.a (count_of i.c)) m1 f args h1))
  effect_any Op.TailCall m i h = need_tells (Unit {0}) es (register m i.a) _ (λ f. list_any_goes m (suc i.a) (count_of i.b) _ h (λ m1 args h1. tail_any i.a m1 f args h1))
  effect_any Op.Return m i h = list_any_goes m i.a (count_of i.b) leave h (λ m1 vs h1. leave_any m1 vs h1)
  effect_any Op.ForLoop m i h = need_tells (Unit {0}) es (loop_number m i.a) _ (λ n. need_tells (Unit {0}) es (loop_number m (i.a + 1)) _ (λ limit. need_tells (Unit {0}) es (loop_number m (i.a + 2)) _ (λ by. turn_any (with_registers m (slice_set m.top.registers i.a (number (wrap (n +ℤ by))))) i (wrap (n +ℤ by)) (goes_on (wrap (n +ℤ by)) limit by) h)))
  effect_any Op.ForPrep m i h = need_tells (Unit {0}) es (register m i.a) _ (λ a. need_tells (Unit {0}) es (register m (i.a + 1)) _ (λ b. need_tells (Unit {0}) es (register m (i.a + 2)) _ (λ c. prepare_any m i (loop_numbers a b c) h)))
  effect_any Op.TForLoop m i h = need_tells (Unit {0}) es (next_jmp m) _ (λ s. need_tells (Unit {0}) es (register m i.a) _ (λ f. need_tells (Unit {0}) es (register m (i.a + 1)) _ (λ st. need_tells (Unit {0}) es (register m (i.a + 2)) _ (λ c. call_any (turn i.a i.c) m f (st ∷ c ∷ []) h))))
  effect_any Op.SetList m i h = either_tells (Unit {0}) es (i.c == 0) _ _ (need_tells (Unit {0}) es (slice_get (own m.top.function).code m.top.pc) _ (λ block. setlist_any (skip m) i block h)) (setlist_any m i i.c h)
  effect_any Op.Close m i h = h
  effect_any Op.Closure m i h =
      need_tells (Unit {0}) es (function_at (functions m.top.function) i.bx) _ (λ f.
      let words = take (own f).upvalues (drop m.top.pc (own m.top.function).code) in
      check_tells (Unit {0}) es (nat_eq (length words) (own f).upvalues) _
      (take_any words m _ h (λ m1 cells h1. set_tells (Unit {0}) es (record (at_pc m1 (m1.top.pc + (own f).upvalues)) { closures = m1.closures ++ record { function = f; cells = cells } ∷ [] }) i.a (closure (length m1.closures)) h1)))
  effect_any Op.Vararg m i h = by (count_of i.b)
    where
      by : (n : Option ℕ) → T (elim n [ None ↦ Goes (with_results m (Some (record { first = i.a; values = m.top.extra }))) | Some k ↦ set_all m i.a (adjusted k m.top.extra) ])
      by None = h
      by (Some k) = check_tells (Unit {0}) es (has_registers m i.a (length (adjusted k m.top.extra))) _ h

pub step_grows : (m : State) → Grows m.outside.events (step m)
step_grows m =
    after_grows (Unit {0}) m.outside.events m (need (current m) (λ i. effect i.op (at_pc m (suc m.top.pc)) i)) (λ w. prefix_self m.outside.events)
    (need_tells (Unit {0}) m.outside.events (current m) (λ i. effect i.op (at_pc m (suc m.top.pc)) i) (λ i. effect_any m.outside.events i.op (at_pc m (suc m.top.pc)) i (prefix_self m.outside.events)))

-- events of a conf, where it has some
abbrev pub told_of : Conf → List Event
told_of (Going m) = m.outside.events
told_of (Ended s o) = o.events
told_of (Failed t s o) = o.events
told_of (Waiting m) = m.outside.events
told_of Stuck = []

pub grows_self : (c : Conf) → Grows (told_of c) c
grows_self (Going m) = prefix_self m.outside.events
grows_self (Ended s o) = prefix_self o.events
grows_self (Failed t s o) = prefix_self o.events
grows_self (Waiting m) = prefix_self m.outside.events
grows_self Stuck = tt

grows_trans : (es : List Event) (m : State) (c : Conf) → IsPrefix es m.outside.events → Grows m.outside.events c → Grows es c
grows_trans es m (Going n) h k = prefix_trans es m.outside.events n.outside.events h k
grows_trans es m (Ended s o) h k = prefix_trans es m.outside.events o.events h k
grows_trans es m (Failed t s o) h k = prefix_trans es m.outside.events o.events h k
grows_trans es m (Waiting n) h k = prefix_trans es m.outside.events n.outside.events h k
grows_trans es m Stuck h k = tt

pub run_grows : (n : ℕ) (es : List Event) (c : Conf) → Grows es c → Grows es (run n c)
run_grows zero es c h = h
run_grows (suc n) es (Going m) h = run_grows n es (step m) (grows_trans es m (step m) h (step_grows m))
run_grows (suc n) es (Ended s o) h = h
run_grows (suc n) es (Failed t s o) h = h
run_grows (suc n) es (Waiting m) h = h
run_grows (suc n) es Stuck h = h
