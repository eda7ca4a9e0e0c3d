-- Each word that names no global does with other globals what it does, with those globals.
use Rattle.std.proofs.Common.{◌≡◌, ℕ, suc, ◌+◌, ◌-◌, ℤ, pos, ◌+ℤ◌, ◌-ℤ◌, ◌*ℤ◌, ◌==◌, Bool, true, false, cond, not, List, [], ◌∷◌, ◌++◌, length, take, drop, None, Some, refl, sym, subst, ap, true≢false, inl, inr, ◌⊎◌, nat_eq, nat_le, nat_lt}
use Rattle.std.specs.Prelude.{Option, slice_get, slice_set, replicate}
use Rattle.opcode.specs.declared.op.Op.{Op}
use Rattle.opcode.specs.declared.word.Instr.{Instr}
use Rattle.opcode.specs.Word.{truth_field}
use Rattle.proto.specs.Chunk.{Chunk, own, functions, function_at}
use Rattle.lua_num.specs.declared.arith.ArithOp.{ArithOp}
use Rattle.lua_num.specs.declared.arith.CompareOp.{CompareOp}
use Rattle.lua_num.specs.Arith.{wrap}
use Rattle.lua_model.specs.Datum.{Datum, nil, boolean, number, table, closure, is_true, adjusted}
use Rattle.lua_model.specs.Store.{Store, new_table}
use Rattle.lua_model.specs.Acts.{Act, value, call as calls, failure}
use Rattle.lua_model.specs.Operators.{arith, negate, size, compare, index, set_index, chain_limit, LoopNumbers, counts, no_count, loop_numbers, goes_on}
use Rattle.rules.specs.State.{into, test, turn, nowhere, OpenResults, Closure, State, Effect, Goes, at_pc, with_registers, with_results, with_store, register, constant, operand, span, set, set_all}
use Rattle.rules.specs.Cells.{read_cell}
use Rattle.rules.specs.Calls.{skip, next_jmp, land, leave, call, tail_call}
use Rattle.rules.specs.Step.{give, give_test, is_negated, give_nowhere, give_write, do_arith, do_compare, open_list, listed, count_of, landing_of, loop_number, turn_loop, do_forloop, three, prepare, do_forprep, set_list, list_of, do_setlist, add_closure, do_closure, effect}
use Rattle.rules.proofs.Lists.{get_pushed}
use Rattle.global_use.specs.Uses.{is_get, is_set}
use Rattle.global_use.specs.Runs.{Globals}
use Rattle.global_use.proofs.Stores.{with_globals, written_with, index_with, set_index_with, with_items_with}
use Rattle.global_use.proofs.Walking.{ClosuresIn, Holds, state_with, Does, Goes_on, need_does, check_does, choice_does, write_cell_does, take_cells_does, set_does, set_all_does, jump_does, branch_does, answer_does, join_does, land_does, call_does, tail_call_does, leave_does}

-- what is true of a closure's function, where it is true of those that are there and of a new one
closures_in : (P : Chunk → Type 0) (closures : List Closure) (c : Closure) → ClosuresIn P closures → P c.function → ClosuresIn P (closures ++ c ∷ [])
closures_in P closures c all known n d is = go (get_pushed closures c n d is)
  where
    go : (slice_get closures n ≡ Some d) ⊎ (c ≡ d) → P d.function
    go (inl e) = all n d e
    go (inr e) = let Q : Closure → Type 0 = λ f. P f.function in subst Q e known

module _ (P : Chunk → Type 0) (inner : (f : Chunk) (n : ℕ) (c : Chunk) → P f → function_at (functions f) n ≡ Some c → P c) (g : Globals) where
  give_does : (m : State) (a : ℕ) (act : Act) → Holds P m → Does P g (give m a act) (give (state_with g m) a act)
  give_does m a act holds = answer_does P g (into a) (land (into a)) (λ m1 v. set m1 a v) (land_does P g (into a)) (λ m1 v holds1. set_does P g m1 a v holds1) m act holds

  -- the answer of a read
  give_read_does : (m : State) (a : ℕ) (on key : Datum) → Holds P m → Does P g (give m a (index m.store on key)) (give (state_with g m) a (index (with_globals m.store g) on key))
  give_read_does m a on key holds =
      subst (λ act. Does P g (give m a (index m.store on key)) (give (state_with g m) a act)) (sym (index_with g chain_limit m.store on key)) (give_does m a (index m.store on key) holds)

  give_test_does : (m : State) (a : ℕ) (act : Act) → Holds P m → Does P g (give_test m a act) (give_test (state_with g m) a act)
  give_test_does m a (value v) holds = branch_does P g m (truth_field (is_true v) == a) holds
  give_test_does m a (calls h args how) holds = call_does P g (test a (is_negated how)) m h args holds
  give_test_does m a (failure v) holds = (refl, holds)

  give_nowhere_does : (m : State) (act : Act) → Holds P m → Does P g (give_nowhere m act) (give_nowhere (state_with g m) act)
  give_nowhere_does m act holds = answer_does P g nowhere (land nowhere) (λ m1 v. Goes m1) (land_does P g nowhere) (λ m1 v holds1. (refl, holds1)) m act holds

  give_written_does : (m : State) (written : Act × Store) → Holds P m → Does P g (give_write m written) (give_write (state_with g m) (written_with g written))
  give_written_does m written holds = give_nowhere_does (with_store m written.1) written.0 holds

  give_write_does : (m : State) (on key v : Datum) → Holds P m → Does P g (give_write m (set_index m.store on key v)) (give_write (state_with g m) (set_index (with_globals m.store g) on key v))
  give_write_does m on key v holds =
      subst (λ w. Does P g (give_write m (set_index m.store on key v)) (give_write (state_with g m) w)) (sym (set_index_with g chain_limit m.store on key v)) (give_written_does m (set_index m.store on key v) holds)

  arith_does : (op : ArithOp) (m : State) (i : Instr) → Holds P m → Does P g (do_arith op m i) (do_arith op (state_with g m) i)
  arith_does op m i holds = need_does P g (operand m i.b) _ _ (λ x is. need_does P g (operand m i.c) _ _ (λ y there. give_does m i.a (arith m.store op x y) holds))

  compare_does : (op : CompareOp) (m : State) (i : Instr) → Holds P m → Does P g (do_compare op m i) (do_compare op (state_with g m) i)
  compare_does op m i holds =
      need_does P g (next_jmp m) _ _ (λ s jmp. need_does P g (operand m i.b) _ _ (λ x is. need_does P g (operand m i.c) _ _ (λ y there. give_test_does m i.a (compare m.store op x y) holds)))

  open_list_does : (m : State) (first : ℕ) (results : OpenResults) (next : State → List Datum → Effect) → Goes_on P g next → Holds P m → Does P g (open_list m first results next) (open_list (state_with g m) first results next)
  open_list_does m first results next goes holds =
      check_does P g (nat_le first results.first) _ _ (need_does P g (span m first (results.first - first)) _ _ (λ vs is. goes (with_results m None) (vs ++ results.values) holds))

  listed_does : (m : State) (first : ℕ) (o : Option ℕ) (next : State → List Datum → Effect) → Goes_on P g next → Holds P m → Does P g (listed m first o next) (listed (state_with g m) first o next)
  listed_does m first (Some n) next goes holds = need_does P g (span m first n) _ _ (λ vs is. goes m vs holds)
  listed_does m first None next goes holds = need_does P g m.top.results _ _ (λ results is. open_list_does m first results next goes holds)

  turn_loop_does : (m : State) (i : Instr) (n : ℤ) (b : Bool) → Holds P m → Does P g (turn_loop m i n b) (turn_loop (state_with g m) i n b)
  turn_loop_does m i n true holds =
      need_does P g (register m (i.a + 3)) _ _ (λ old is. jump_does P g (with_registers m (slice_set m.top.registers (i.a + 3) (number n))) i.sbx holds)
  turn_loop_does m i n false holds = (refl, holds)

  forloop_does : (m : State) (i : Instr) → Holds P m → Does P g (do_forloop m i) (do_forloop (state_with g m) i)
  forloop_does m i holds =
      need_does P g (loop_number m i.a) _ _ (λ n is. need_does P g (loop_number m (i.a + 1)) _ _ (λ limit is1. need_does P g (loop_number m (i.a + 2)) _ _ (λ step is2.
      turn_loop_does (with_registers m (slice_set m.top.registers i.a (number (wrap (n +ℤ step))))) i (wrap (n +ℤ step)) (goes_on (wrap (n +ℤ step)) limit step) holds)))

  prepare_does : (m : State) (i : Instr) (numbers : LoopNumbers) → Holds P m → Does P g (prepare m i numbers) (prepare (state_with g m) i numbers)
  prepare_does m i (counts first limit step) holds = jump_does P g (with_registers m (three m.top.registers i.a (wrap (first -ℤ step)) limit step)) i.sbx holds
  prepare_does m i (no_count why) holds = (refl, holds)

  forprep_does : (m : State) (i : Instr) → Holds P m → Does P g (do_forprep m i) (do_forprep (state_with g m) i)
  forprep_does m i holds =
      need_does P g (register m i.a) _ _ (λ first is. need_does P g (register m (i.a + 1)) _ _ (λ limit is1. need_does P g (register m (i.a + 2)) _ _ (λ step is2.
      prepare_does m i (loop_numbers first limit step) holds)))

  set_list_does : (m : State) (block : ℕ) (t : Datum) (vs : List Datum) → Holds P m → Does P g (set_list m block t vs) (set_list (state_with g m) block t vs)
  set_list_does m block (table t) vs holds = (ap (λ s. Goes (with_store m s)) (with_items_with g m.store t ((pos block -ℤ pos 1) *ℤ pos 50 +ℤ pos 1) vs), holds)
  set_list_does m block _ vs holds = (refl, holds)

  setlist_does : (m : State) (i : Instr) (block : ℕ) → Holds P m → Does P g (do_setlist m i block) (do_setlist (state_with g m) i block)
  setlist_does m i block holds =
      need_does P g (register m i.a) _ _ (λ t is. listed_does m (suc i.a) (list_of i.b) (λ m1 vs. set_list m1 block t vs) (λ m1 vs holds1. set_list_does m1 block t vs holds1) holds)

  add_closure_does : (m : State) (a : ℕ) (f : Chunk) (cells : List ℕ) → P f → Holds P m → Does P g (add_closure m a f cells) (add_closure (state_with g m) a f cells)
  add_closure_does m a f cells known holds =
      set_does P g (record m { closures = m.closures ++ record { function = f; cells = cells } ∷ [] }) a (closure (length m.closures))
      (holds.0, holds.1, closures_in P m.closures (record { function = f; cells = cells }) holds.2 known)

  closure_does : (m : State) (i : Instr) → Holds P m → Does P g (do_closure m i) (do_closure (state_with g m) i)
  closure_does m i holds =
      need_does P g (function_at (functions m.top.function) i.bx) _ _ (λ f is.
      let words = take (own f).upvalues (drop m.top.pc (own m.top.function).code) in
      check_does P g (nat_eq (length words) (own f).upvalues) _ _ (
      take_cells_does P g words m (λ m1 cells. add_closure (at_pc m1 (m1.top.pc + (own f).upvalues)) i.a f cells)
      (λ m1 cells holds1. add_closure_does (at_pc m1 (m1.top.pc + (own f).upvalues)) i.a f cells (inner m.top.function i.bx f holds.0 is) holds1) holds))

  loadbool_does : (b : Bool) (m : State) (a : ℕ) (v : Datum) → Holds P m → Does P g (set (cond b m (skip m)) a v) (set (cond b (state_with g m) (skip (state_with g m))) a v)
  loadbool_does true m a v holds = set_does P g m a v holds
  loadbool_does false m a v holds = set_does P g (skip m) a v holds

  vararg_does : (m : State) (a : ℕ) (o : Option ℕ) → Holds P m → Does P g (elim o [ None ↦ Goes (with_results m (Some (record { first = a; values = m.top.extra }))) | Some n ↦ set_all m a (adjusted n m.top.extra) ]) (elim o [ None ↦ Goes (with_results (state_with g m) (Some (record { first = a; values = m.top.extra }))) | Some n ↦ set_all (state_with g m) a (adjusted n m.top.extra) ])
  vararg_does m a None holds = (refl, holds)
  vararg_does m a (Some n) holds = set_all_does P g m a (adjusted n m.top.extra) holds

  pub effect_does : (op : Op) (m : State) (i : Instr) → is_get op ≡ false → is_set op ≡ false → Holds P m → Does P g (effect op m i) (effect op (state_with g m) i)
  effect_does Op.Move m i no_get no_set holds = need_does P g (register m i.b) _ _ (λ v is. set_does P g m i.a v holds)
  effect_does Op.LoadK m i no_get no_set holds = need_does P g (constant m i.bx) _ _ (λ v is. set_does P g m i.a v holds)
  effect_does Op.LoadBool m i no_get no_set holds = loadbool_does (i.c == 0) m i.a (boolean (not (i.b == 0))) holds
  effect_does Op.LoadNil m i no_get no_set holds = set_all_does P g m i.a (replicate (suc i.b - i.a) nil) holds
  effect_does Op.GetUpval m i no_get no_set holds = need_does P g (slice_get m.top.cells i.b) _ _ (λ c is. need_does P g (read_cell m c) _ _ (λ v there. set_does P g m i.a v holds))
  effect_does Op.GetGlobal m i no_get no_set holds = absurd (true≢false no_get)
  effect_does Op.GetTable m i no_get no_set holds = need_does P g (register m i.b) _ _ (λ on is. need_does P g (operand m i.c) _ _ (λ key there. give_read_does m i.a on key holds))
  effect_does Op.SetGlobal m i no_get no_set holds = absurd (true≢false no_set)
  effect_does Op.SetUpval m i no_get no_set holds = need_does P g (register m i.a) _ _ (λ v is. need_does P g (slice_get m.top.cells i.b) _ _ (λ c there. write_cell_does P g m c v holds))
  effect_does Op.SetTable m i no_get no_set holds =
      need_does P g (register m i.a) _ _ (λ on is. need_does P g (operand m i.b) _ _ (λ key there. need_does P g (operand m i.c) _ _ (λ v be. give_write_does m on key v holds)))
  effect_does Op.NewTable m i no_get no_set holds = set_does P g (with_store m (new_table m.store)) i.a (table (length m.store.tables)) holds
  effect_does Op.Self_ m i no_get no_set holds =
      need_does P g (register m i.b) _ _ (λ on is. need_does P g (register m (suc i.a)) _ _ (λ old there.
      let m1 = with_registers m (slice_set m.top.registers (suc i.a) on) in
      need_does P g (operand m1 i.c) _ _ (λ key be. give_read_does m1 i.a on key holds)))
  effect_does Op.Add m i no_get no_set holds = arith_does ArithOp.Add m i holds
  effect_does Op.Sub m i no_get no_set holds = arith_does ArithOp.Sub m i holds
  effect_does Op.Mul m i no_get no_set holds = arith_does ArithOp.Mul m i holds
  effect_does Op.Div m i no_get no_set holds = arith_does ArithOp.Div m i holds
  effect_does Op.Mod m i no_get no_set holds = arith_does ArithOp.Rem m i holds
  effect_does Op.Pow m i no_get no_set holds = arith_does ArithOp.Pow m i holds
  effect_does Op.Unm m i no_get no_set holds = need_does P g (register m i.b) _ _ (λ v is. give_does m i.a (negate m.store v) holds)
  effect_does Op.Not m i no_get no_set holds = need_does P g (register m i.b) _ _ (λ v is. set_does P g m i.a (boolean (not (is_true v))) holds)
  effect_does Op.Len m i no_get no_set holds = need_does P g (register m i.b) _ _ (λ v is. give_does m i.a (size m.store v) holds)
  effect_does Op.Concat m i no_get no_set holds = check_does P g (nat_lt i.b i.c) _ _ (need_does P g (register m i.c) _ _ (λ v is. join_does P g (i.c - i.b) m i.a i.b v holds))
  effect_does Op.Jmp m i no_get no_set holds = jump_does P g m i.sbx holds
  effect_does Op.Eq m i no_get no_set holds = compare_does CompareOp.Eq m i holds
  effect_does Op.Lt m i no_get no_set holds = compare_does CompareOp.Lt m i holds
  effect_does Op.Le m i no_get no_set holds = compare_does CompareOp.Le m i holds
  effect_does Op.Test m i no_get no_set holds = need_does P g (register m i.a) _ _ (λ v is. branch_does P g m (not (truth_field (not (is_true v)) == i.c)) holds)
  effect_does Op.TestSet m i no_get no_set holds =
      need_does P g (next_jmp m) _ _ (λ s is. need_does P g (register m i.b) _ _ (λ v there.
      choice_does P g (truth_field (not (is_true v)) == i.c) _ _ _ _ (branch_does P g m false holds)
      (need_does P g (register m i.a) _ _ (λ old be. branch_does P g (with_registers m (slice_set m.top.registers i.a v)) true holds))))
  effect_does Op.Call m i no_get no_set holds =
      need_does P g (register m i.a) _ _ (λ f is. listed_does m (suc i.a) (count_of i.b) (λ m1 args. call (landing_of i.a (count_of i.c)) m1 f args)
      (λ m1 args holds1. call_does P g (landing_of i.a (count_of i.c)) m1 f args holds1) holds)
  effect_does Op.TailCall m i no_get no_set holds =
      need_does P g (register m i.a) _ _ (λ f is. listed_does m (suc i.a) (count_of i.b) (λ m1 args. tail_call i.a m1 f args) (λ m1 args holds1. tail_call_does P g i.a m1 f args holds1) holds)
  effect_does Op.Return m i no_get no_set holds = listed_does m i.a (count_of i.b) leave (λ m1 vs holds1. leave_does P g m1 vs holds1) holds
  effect_does Op.ForLoop m i no_get no_set holds = forloop_does m i holds
  effect_does Op.ForPrep m i no_get no_set holds = forprep_does m i holds
  effect_does Op.TForLoop m i no_get no_set holds =
      need_does P g (next_jmp m) _ _ (λ s jmp. need_does P g (register m i.a) _ _ (λ f is. need_does P g (register m (i.a + 1)) _ _ (λ state is1. need_does P g (register m (i.a + 2)) _ _ (λ control is2.
      call_does P g (turn i.a i.c) m f (state ∷ control ∷ []) holds))))
  effect_does Op.SetList m i no_get no_set holds =
      choice_does P g (i.c == 0) _ _ _ _ (need_does P g (slice_get (own m.top.function).code m.top.pc) _ _ (λ block is. setlist_does (skip m) i block holds)) (setlist_does m i i.c holds)
  effect_does Op.Close m i no_get no_set holds = (refl, holds)
  effect_does Op.Closure m i no_get no_set holds = closure_does m i holds
  effect_does Op.Vararg m i no_get no_set holds = vararg_does m i.a (count_of i.b) holds
