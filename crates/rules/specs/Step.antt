-- To be believed. What each word does (A No-Frills Introduction to Lua 5.1 VM Instructions, opcode by opcode).
use Rattle.std.specs.Prelude.{ℕ, zero, suc, ◌+◌, ◌-◌, ℤ, pos, ◌+ℤ◌, ◌-ℤ◌, ◌*ℤ◌, Bool, true, false, not, ◌==◌, nat_lt, nat_le, nat_eq, List, [], ◌∷◌, ◌++◌, length, take, drop, slice_get, slice_set, replicate, Option, Some, None, option_and_then, if◌then◌else◌}
use Rattle.opcode.specs.declared.op.Op.{Op}
use Rattle.opcode.specs.declared.word.Instr.{Instr}
use Rattle.opcode.specs.Word.{truth_field}
use Rattle.proto.specs.Chunk.{Chunk, own, functions, function_at}
use Rattle.lua_num.specs.declared.arith.ArithOp.{ArithOp}
use Rattle.lua_num.specs.declared.arith.CompareOp.{CompareOp}
use Rattle.lua_num.specs.Arith.{wrap}
use Rattle.lua_model.specs.Datum.{Datum, nil, boolean, number, text, table, closure, is_true, adjusted}
use Rattle.lua_model.specs.Store.{Store, global, with_global, new_table, with_items}
use Rattle.lua_model.specs.Acts.{Act, value, call as calls, failure, Use, negated}
use Rattle.lua_model.specs.Operators.{arith, negate, size, compare, index, set_index, index_fault, LoopNumbers, counts, no_count, loop_numbers, goes_on}
use Rattle.rules.specs.State.{Landing, into, test, fixed, open_at, turn, nowhere, OpenResults, State, Effect, Goes, Fails, need, check, at_pc, with_registers, with_results, with_store, register, constant, operand, global_name, span, set, set_all}
use Rattle.rules.specs.Cells.{read_cell, write_cell, close_from, take_cells}
use Rattle.rules.specs.Calls.{jump, skip, next_jmp, branch, answer, join, land, call, tail_call, leave}

-- An operator's answer goes to a register, to a test, or nowhere; where it is a call, that call's first result does.
abbrev pub give : State → ℕ → Act → Effect
give m a act = answer (into a) (land (into a)) (λ m1 v. set m1 a v) m act

abbrev pub is_negated : Use → Bool
is_negated negated = true
is_negated _ = false

abbrev pub give_test : State → ℕ → Act → Effect
give_test m a (value v) = branch m (truth_field (is_true v) == a)
give_test m a (calls h args how) = call (test a (is_negated how)) m h args
give_test m a (failure v) = Fails m v

abbrev pub give_nowhere : State → Act → Effect
give_nowhere m act = answer nowhere (land nowhere) (λ m1 v. Goes m1) m act

abbrev pub give_write : State → Act × Store → Effect
give_write m written = give_nowhere (with_store m written.1) written.0

-- arithmetic and comparison
abbrev pub do_arith : ArithOp → State → Instr → Effect
do_arith op m i = need (operand m i.b) (λ x. need (operand m i.c) (λ y. give m i.a (arith m.store op x y)))

abbrev pub do_compare : CompareOp → State → Instr → Effect
do_compare op m i =
    need (next_jmp m) (λ s. need (operand m i.b) (λ x. need (operand m i.c) (λ y. give_test m i.a (compare m.store op x y))))

-- A list of values: so many registers from the first on, or up to the open results and these, which are then taken.
abbrev pub open_list : State → ℕ → OpenResults → (State → List Datum → Effect) → Effect
open_list m first results next =
    check (nat_le first results.first) (
    need (span m first (results.first - first)) (λ vs. next (with_results m None) (vs ++ results.values)))

abbrev pub listed : State → ℕ → Option ℕ → (State → List Datum → Effect) → Effect
listed m first (Some n) next = need (span m first n) (λ vs. next m vs)
listed m first None next = need m.top.results (λ results. open_list m first results next)

-- a count that stands with one added to it: None where it is open
abbrev pub count_of : ℕ → Option ℕ
count_of zero = None
count_of (suc n) = Some n

abbrev pub landing_of : ℕ → Option ℕ → Landing
landing_of a None = open_at a
landing_of a (Some n) = fixed a n

-- Numeric `for`.
abbrev pub number_of : Datum → Option ℤ
number_of (number n) = Some n
number_of _ = None

abbrev pub loop_number : State → ℕ → Option ℤ
loop_number m r = option_and_then number_of (register m r)

abbrev pub turn_loop : State → Instr → ℤ → Bool → Effect
turn_loop m i n true = need (register m (i.a + 3)) (λ old. jump (with_registers m (slice_set m.top.registers (i.a + 3) (number n))) i.sbx)
turn_loop m i n false = Goes m

abbrev pub do_forloop : State → Instr → Effect
do_forloop m i =
    need (loop_number m i.a) (λ n. need (loop_number m (i.a + 1)) (λ limit. need (loop_number m (i.a + 2)) (λ step.
    let now = wrap (n +ℤ step) in
    turn_loop (with_registers m (slice_set m.top.registers i.a (number now))) i now (goes_on now limit step))))

-- three numbers to registers in a row
abbrev pub three : List Datum → ℕ → ℤ → ℤ → ℤ → List Datum
three registers a x y z = slice_set (slice_set (slice_set registers a (number x)) (a + 1) (number y)) (a + 2) (number z)

abbrev pub prepare : State → Instr → LoopNumbers → Effect
prepare m i (counts first limit step) = jump (with_registers m (three m.top.registers i.a (wrap (first -ℤ step)) limit step)) i.sbx
prepare m i (no_count why) = Fails m (text why)

abbrev pub do_forprep : State → Instr → Effect
do_forprep m i =
    need (register m i.a) (λ first. need (register m (i.a + 1)) (λ limit. need (register m (i.a + 2)) (λ step.
    prepare m i (loop_numbers first limit step))))

-- SETLIST: raw entries from (block - 1) * 50 + 1 on; fails as a write to what is no table does
abbrev pub set_list : State → ℕ → Datum → List Datum → Effect
set_list m block (table t) vs = Goes (with_store m (with_items m.store t ((pos block -ℤ pos 1) *ℤ pos 50 +ℤ pos 1) vs))
set_list m block v vs = Fails m (index_fault v)

abbrev pub list_of : ℕ → Option ℕ
list_of b = if b == 0 then None else Some b

abbrev pub do_setlist : State → Instr → ℕ → Effect
do_setlist m i block = need (register m i.a) (λ t. listed m (suc i.a) (list_of i.b) (λ m1 vs. set_list m1 block t vs))

-- CLOSURE: one further word per upvalue
abbrev pub add_closure : State → ℕ → Chunk → List ℕ → Effect
add_closure m a f cells = set (record m { closures = m.closures ++ record { function = f; cells = cells } ∷ [] }) a (closure (length m.closures))

abbrev pub do_closure : State → Instr → Effect
do_closure m i =
    need (function_at (functions m.top.function) i.bx) (λ f.
    let words = take (own f).upvalues (drop m.top.pc (own m.top.function).code) in
    check (nat_eq (length words) (own f).upvalues) (
    take_cells m words (λ m1 cells. add_closure (at_pc m1 (m1.top.pc + (own f).upvalues)) i.a f cells)))

-- One case for each opcode.
abbrev pub effect : Op → State → Instr → Effect
effect Op.Move m i = need (register m i.b) (λ v. set m i.a v)
effect Op.LoadK m i = need (constant m i.bx) (λ v. set m i.a v)
effect Op.LoadBool m i = set (if i.c == 0 then m else skip m) i.a (boolean (not (i.b == 0)))
effect Op.LoadNil m i = set_all m i.a (replicate (suc i.b - i.a) nil)
effect Op.GetUpval m i = need (slice_get m.top.cells i.b) (λ c. need (read_cell m c) (λ v. set m i.a v))
effect Op.GetGlobal m i = need (global_name m i.bx) (λ name. set m i.a (global m.store name))
effect Op.GetTable m i = need (register m i.b) (λ on. need (operand m i.c) (λ key. give m i.a (index m.store on key)))
effect Op.SetGlobal m i =
    need (global_name m i.bx) (λ name. need (register m i.a) (λ v. Goes (with_store m (with_global m.store name v))))
effect Op.SetUpval m i = need (register m i.a) (λ v. need (slice_get m.top.cells i.b) (λ c. write_cell m c v))
effect Op.SetTable m i =
    need (register m i.a) (λ on. need (operand m i.b) (λ key. need (operand m i.c) (λ v. give_write m (set_index m.store on key v))))
effect Op.NewTable m i = set (with_store m (new_table m.store)) i.a (table (length m.store.tables))
effect Op.Self_ m i =
    need (register m i.b) (λ on. need (register m (suc i.a)) (λ old.
    let m1 = with_registers m (slice_set m.top.registers (suc i.a) on) in
    need (operand m1 i.c) (λ key. give m1 i.a (index m1.store on key))))
effect Op.Add m i = do_arith ArithOp.Add m i
effect Op.Sub m i = do_arith ArithOp.Sub m i
effect Op.Mul m i = do_arith ArithOp.Mul m i
effect Op.Div m i = do_arith ArithOp.Div m i
effect Op.Mod m i = do_arith ArithOp.Rem m i
effect Op.Pow m i = do_arith ArithOp.Pow m i
effect Op.Unm m i = need (register m i.b) (λ v. give m i.a (negate m.store v))
effect Op.Not m i = need (register m i.b) (λ v. set m i.a (boolean (not (is_true v))))
effect Op.Len m i = need (register m i.b) (λ v. give m i.a (size m.store v))
effect Op.Concat m i = check (nat_lt i.b i.c) (need (register m i.c) (λ v. join m i.a i.b (i.c - i.b) v))
effect Op.Jmp m i = jump m i.sbx
effect Op.Eq m i = do_compare CompareOp.Eq m i
effect Op.Lt m i = do_compare CompareOp.Lt m i
effect Op.Le m i = do_compare CompareOp.Le m i
effect Op.Test m i = need (register m i.a) (λ v. branch m (not (truth_field (not (is_true v)) == i.c)))
effect Op.TestSet m i =
    need (next_jmp m) (λ s. need (register m i.b) (λ v.
    if truth_field (not (is_true v)) == i.c then branch m false else need (register m i.a) (λ old. branch (with_registers m (slice_set m.top.registers i.a v)) true)))
effect Op.Call m i =
    need (register m i.a) (λ f. listed m (suc i.a) (count_of i.b) (λ m1 args. call (landing_of i.a (count_of i.c)) m1 f args))
effect Op.TailCall m i = need (register m i.a) (λ f. listed m (suc i.a) (count_of i.b) (λ m1 args. tail_call i.a m1 f args))
effect Op.Return m i = listed m i.a (count_of i.b) leave
effect Op.ForLoop m i = do_forloop m i
effect Op.ForPrep m i = do_forprep m i
effect Op.TForLoop m i =
    need (next_jmp m) (λ s. need (register m i.a) (λ f. need (register m (i.a + 1)) (λ state. need (register m (i.a + 2)) (λ control.
    call (turn i.a i.c) m f (state ∷ control ∷ [])))))
effect Op.SetList m i =
    if i.c == 0 then need (slice_get (own m.top.function).code m.top.pc) (λ block. do_setlist (skip m) i block) else do_setlist m i i.c
effect Op.Close m i = Goes (close_from m i.a)
effect Op.Closure m i = do_closure m i
effect Op.Vararg m i =
    elim (count_of i.b) [
      | None ↦ Goes (with_results m (Some (record { first = i.a; values = m.top.extra })))
      | Some n ↦ set_all m i.a (adjusted n m.top.extra)
    ]
