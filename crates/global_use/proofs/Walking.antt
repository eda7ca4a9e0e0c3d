-- What a word does with other globals is what it does, with those globals: words that name no global neither look at the globals nor change
-- them. And the functions of frames and closures stay among those that hold a property, where what stands in such a function holds it too.
use Rattle.std.proofs.Common.{◌≡◌, ℕ, zero, suc, ◌+◌, ℤ, pos, ◌+ℤ◌, Bool, true, false, cond, List, [], ◌∷◌, ◌++◌, length, None, Some, codes, refl, sym, subst, ap, nat_eq, nat_le, nat_lt}
use Rattle.std.specs.Prelude.{Option, slice_get, slice_set, map}
use Rattle.opcode.specs.declared.op.Op.{Op}
use Rattle.opcode.specs.declared.word.Instr.{Instr}
use Rattle.opcode.specs.Reading.{instr_of}
use Rattle.proto.specs.Chunk.{Chunk, own}
use Rattle.lua_model.specs.Datum.{Datum, boolean, number, text, table, closure, native, host, is_nil, first_of, adjusted}
use Rattle.lua_model.specs.declared.plain.Plain.{Plain}
use Rattle.lua_model.specs.Store.{Store, Reply, replies_values, replies_failure, as_datum, replied, happens, printed, closed, new_table, raw_set}
use Rattle.lua_model.specs.Acts.{Act, value, call as calls, failure, Callee, plain, through, no_function, NativeAct, results, prints, asks, fails, protects, closes}
use Rattle.lua_model.specs.Operators.{depth_limit, protection_limit, stack_overflow, callee, with_called, join as join_two}
use Rattle.lua_model.specs.Builtins.{native as built_in, call_host}
use Rattle.rules.specs.Words.{has_arg_table}
use Rattle.rules.specs.Places.{as_pc}
use Rattle.rules.specs.State.{Landing, into, test, pairs, fixed, open_at, turn, nowhere, Frame, Cell, Open, Closed, Closure, State, Effect, Goes, Fails, Ends, Waits, IsStuck, need, check, with_registers, with_store, register, has_registers, set, spliced, set_all}
use Rattle.rules.specs.Cells.{write_register, with_frames, with_cell, write_cell, read_cell, close_from, find_open, capture_as, take_cell_by, take_cells}
use Rattle.rules.specs.Calls as rule
use Rattle.rules.specs.Calls.{jump, skip, next_jmp, branch, worked, broke, failed_in, frame_of, with_arg_table, begin, push, answer, join, go_on, turned, land, call, replace, tail_call, give_to, leave}
use Rattle.global_use.specs.Runs.{Globals}
use Rattle.global_use.proofs.Stores.{with_globals, answer_with, with_items_with, native_with, call_host_with}

module _ (P : Chunk → Type 0) where
  abbrev pub AllIn : List Frame → Type 0
  AllIn [] = Unit {0}
  AllIn (x ∷ below) = P x.function × (AllIn below)

  abbrev pub ClosuresIn : List Closure → Type 0
  ClosuresIn closures = (n : ℕ) (c : Closure) → slice_get closures n ≡ Some c → P c.function

  -- the functions of a state hold the property
  abbrev pub Holds : State → Type 0
  Holds m = P m.top.function × AllIn m.below × ClosuresIn m.closures

abbrev pub state_with : Globals → State → State
state_with g m = with_store m (with_globals m.store g)

module _ (P : Chunk → Type 0) (g : Globals) where
  -- the second effect is the first with these globals, and the functions still hold the property
  abbrev pub Does : Effect → Effect → Type 0
  Does (Goes m) e = (e ≡ Goes (state_with g m)) × Holds P m
  Does (Fails m v) e = (e ≡ Fails (state_with g m) v) × Holds P m
  Does (Ends m) e = e ≡ Ends (state_with g m)
  Does Waits e = e ≡ Waits
  Does IsStuck e = e ≡ IsStuck

  pub need_does : {A : Type 0} (o : Option A) (next next1 : A → Effect) → ((x : A) → o ≡ Some x → Does (next x) (next1 x)) → Does (need o next) (need o next1)
  need_does None next next1 does = refl
  need_does (Some x) next next1 does = does x refl

  pub check_does : (b : Bool) (e e1 : Effect) → Does e e1 → Does (check b e) (check b e1)
  check_does true e e1 does = does
  check_does false e e1 does = refl

  pub choice_does : (b : Bool) (x y x1 y1 : Effect) → Does x x1 → Does y y1 → Does (cond b x y) (cond b x1 y1)
  choice_does true x y x1 y1 first second = first
  choice_does false x y x1 y1 first second = second

  -- ---- cells

  write_register_in : (frames : List Frame) (frame r : ℕ) (v : Datum) → AllIn P frames → AllIn P (write_register frames frame r v)
  write_register_in [] frame r v all = tt
  write_register_in (x ∷ below) frame r v all = go (write_register_in below frame r v all.1) (nat_eq frame (length below))
    where
      go : AllIn P (write_register below frame r v) → (b : Bool) → AllIn P (cond b (record x { registers = slice_set x.registers r v } ∷ below) (x ∷ write_register below frame r v))
      go rest true = all
      go rest false = (all.0, rest)

  with_frames_in : (m : State) (frames : List Frame) → AllIn P frames → Holds P m → (with_frames (state_with g m) frames ≡ state_with g (with_frames m frames)) × Holds P (with_frames m frames)
  with_frames_in m [] all holds = (refl, holds)
  with_frames_in m (x ∷ below) all holds = (refl, (all.0, all.1, holds.2))

  with_cell_does : (m : State) (c : ℕ) (v : Datum) (cell : Cell) → Holds P m → Does (Goes (with_cell m c v cell)) (Goes (with_cell (state_with g m) c v cell))
  with_cell_does m c v (Closed old) holds = (refl, holds)
  with_cell_does m c v (Open frame r) holds =
      let w = with_frames_in m (write_register (m.top ∷ m.below) frame r v) (write_register_in (m.top ∷ m.below) frame r v (holds.0, holds.1)) holds in
      (ap Goes w.0, w.1)

  pub write_cell_does : (m : State) (c : ℕ) (v : Datum) → Holds P m → Does (write_cell m c v) (write_cell (state_with g m) c v)
  write_cell_does m c v holds = need_does (read_cell m c) _ _ (λ old is. need_does (slice_get m.cells c) _ _ (λ cell there. with_cell_does m c v cell holds))

  abbrev pub Goes_on : {A : Type 0} → (State → A → Effect) → Type 0
  Goes_on {A} next = (m : State) (x : A) → Holds P m → Does (next m x) (next (state_with g m) x)

  capture_as_does : (m : State) (r : ℕ) (o : Option ℕ) (next : State → ℕ → Effect) → Goes_on next → Holds P m → Does (capture_as m r o next) (capture_as (state_with g m) r o next)
  capture_as_does m r (Some c) next goes holds = goes m c holds
  capture_as_does m r None next goes holds = goes (record m { cells = m.cells ++ Open (length m.below) r ∷ [] }) (length m.cells) holds

  take_cell_by_does : (op : Op) (m : State) (i : Instr) (next : State → ℕ → Effect) → Goes_on next → Holds P m → Does (take_cell_by op m i next) (take_cell_by op (state_with g m) i next)
  take_cell_by_does Op.Move m i next goes holds = need_does (register m i.b) _ _ (λ v is. capture_as_does m i.b (find_open (length m.below) i.b 0 m.cells) next goes holds)
  take_cell_by_does Op.GetUpval m i next goes holds = need_does (slice_get m.top.cells i.b) _ _ (λ c is. goes m c holds)
  take_cell_by_does _ m i next goes holds = refl

  pub take_cells_does : (words : List ℕ) (m : State) (next : State → List ℕ → Effect) → Goes_on next → Holds P m → Does (take_cells m words next) (take_cells (state_with g m) words next)
  take_cells_does [] m next goes holds = goes m [] holds
  take_cells_does (w ∷ rest) m next goes holds =
      need_does (instr_of w) _ _ (λ i is. take_cell_by_does i.op m i (λ m1 c. take_cells m1 rest (λ m2 cs. next m2 (c ∷ cs)))
      (λ m1 c holds1. take_cells_does rest m1 (λ m2 cs. next m2 (c ∷ cs)) (λ m2 cs holds2. goes m2 (c ∷ cs) holds2) holds1) holds)

  -- ---- a call

  abbrev pub Lands : (State → List Datum → Effect) → Type 0
  Lands lands = (m : State) (vs : List Datum) → Holds P m → Does (lands m vs) (lands (state_with g m) vs)

  abbrev pub Enters : (ℕ → State → Closure → List Datum → Effect) → Type 0
  Enters enters = (p : ℕ) (m : State) (f : Closure) (args : List Datum) → P f.function → Holds P m → Does (enters p m f args) (enters p (state_with g m) f args)

  pub failed_in_does : (lands : State → List Datum → Effect) → Lands lands → (p : ℕ) (m : State) (v : Datum) → Holds P m → Does (failed_in lands p m v) (failed_in lands p (state_with g m) v)
  failed_in_does lands goes zero m v holds = (refl, holds)
  failed_in_does lands goes (suc p) m v holds = goes m (broke p v) holds

  module _ (enters : ℕ → State → Closure → List Datum → Effect) (lands : State → List Datum → Effect) (goes_in : Enters enters) (goes : Lands lands) where
    heard_does : (p : ℕ) (m : State) (reply : Reply) → Holds P m → Does (rule.heard enters lands p m reply) (rule.heard enters lands p (state_with g m) reply)
    heard_does p m (replies_values vs) holds = goes m (worked p (map as_datum vs)) holds
    heard_does p m (replies_failure t) holds = failed_in_does lands goes p m (text t) holds

    asked_of_does : (p : ℕ) (m : State) (h : ℕ) (args : List Plain) (replies : List Reply) → Holds P m → Does (rule.asked_of enters lands p m h args replies) (rule.asked_of enters lands p (state_with g m) h args replies)
    asked_of_does p m h args [] holds = refl
    asked_of_does p m h args (reply ∷ left) holds = heard_does p (record m { outside = replied h args reply left m.outside }) reply holds

    module _ (again again1 : Datum → List Datum → Effect) (twice : (f : Datum) (args : List Datum) → Does (again f args) (again1 f args)) where
      answered_same : (p : ℕ) (m : State) (act : NativeAct) → Holds P m → Does (rule.answered enters lands p again m act) (rule.answered enters lands p again1 (state_with g m) (answer_with g act))
      answered_same p m (results vs store) holds = goes (with_store m store) (worked p vs) holds
      answered_same p m (prints piece) holds = goes (record m { outside = happens (printed piece) m.outside }) (worked p []) holds
      answered_same p m (asks h args) holds = asked_of_does p m h args m.outside.replies holds
      answered_same p m (fails v) holds = failed_in_does lands goes p m v holds
      answered_same p m (protects f args) holds = twice f args
      answered_same p m (closes h store) holds = goes (record m { store = store; outside = happens (closed h) m.outside }) (worked p (boolean true ∷ [])) holds

      answered_does : (p : ℕ) (m : State) (act act1 : NativeAct) → act1 ≡ answer_with g act → Holds P m → Does (rule.answered enters lands p again m act) (rule.answered enters lands p again1 (state_with g m) act1)
      answered_does p m act act1 is holds =
          subst (λ a. Does (rule.answered enters lands p again m act) (rule.answered enters lands p again1 (state_with g m) a)) (sym is) (answered_same p m act holds)

      entered_does : (p : ℕ) (m : State) (o : Option Closure) (args : List Datum) → ((f : Closure) → o ≡ Some f → P f.function) → Holds P m → Does (rule.entered enters lands p m o args) (rule.entered enters lands p (state_with g m) o args)
      entered_does p m None args known holds = failed_in_does lands goes p m _ holds
      entered_does p m (Some f) args known holds = goes_in p m f args (known f refl) holds

      apply_does : (p : ℕ) (m : State) (f : Datum) (args : List Datum) → Holds P m → Does (rule.apply enters lands p again m f args) (rule.apply enters lands p again1 (state_with g m) f args)
      apply_does p m (closure c) args holds = entered_does p m (slice_get m.closures c) args (λ f is. holds.2 c f is) holds
      apply_does p m (native id) args holds = answered_does p m (built_in id args m.store) _ (native_with g id args m.store) holds
      apply_does p m (host h) args holds = answered_does p m (call_host h args m.store) _ (call_host_with g h args m.store) holds
      apply_does p m _ args holds = failed_in_does lands goes p m _ holds

      apply_to_does : (p : ℕ) (m : State) (f : Callee) (args : List Datum) → Holds P m → Does (rule.apply_to enters lands p again m f args) (rule.apply_to enters lands p again1 (state_with g m) f args)
      apply_to_does p m (plain f) args holds = apply_does p m f args holds
      apply_to_does p m (through handler) args holds = apply_does p m handler args holds
      apply_to_does p m (no_function v) args holds = failed_in_does lands goes p m v holds

    call_within_does : (left p : ℕ) (m : State) (f : Datum) (args : List Datum) → Holds P m → Does (rule.call_within enters lands left p m f args) (rule.call_within enters lands left p (state_with g m) f args)
    call_within_does zero p m f args holds = apply_to_does _ _ (λ h xs. failed_in_does lands goes p m stack_overflow holds) p m (callee m.store f) (with_called (callee m.store f) f args) holds
    call_within_does (suc left) p m f args holds = apply_to_does _ _ (λ h xs. call_within_does left (suc p) m h xs holds) p m (callee m.store f) (with_called (callee m.store f) f args) holds

    pub call_by_does : (m : State) (f : Datum) (args : List Datum) → Holds P m → Does (rule.call_by enters lands m f args) (rule.call_by enters lands (state_with g m) f args)
    call_by_does m f args holds = call_within_does protection_limit 0 m f args holds

  -- ---- the running frame

  pub set_does : (m : State) (a : ℕ) (v : Datum) → Holds P m → Does (set m a v) (set (state_with g m) a v)
  set_does m a v holds = need_does (register m a) _ _ (λ old is. (refl, holds))

  pub set_all_does : (m : State) (a : ℕ) (vs : List Datum) → Holds P m → Does (set_all m a vs) (set_all (state_with g m) a vs)
  set_all_does m a vs holds = check_does (has_registers m a (length vs)) _ _ (refl, holds)

  pub jump_does : (m : State) (s : ℤ) → Holds P m → Does (jump m s) (jump (state_with g m) s)
  jump_does m s holds = need_does (as_pc (pos m.top.pc +ℤ s)) _ _ (λ pc is. (refl, holds))

  pub branch_does : (m : State) (b : Bool) → Holds P m → Does (branch m b) (branch (state_with g m) b)
  branch_does m true holds = need_does (next_jmp m) _ _ (λ s is. jump_does (skip m) s holds)
  branch_does m false holds = need_does (next_jmp m) _ _ (λ s is. (refl, holds))

  with_arg_table_with : (s : Store) (extra : List Datum) → with_arg_table (with_globals s g) extra ≡ with_globals (with_arg_table s extra) g
  with_arg_table_with s extra = ap (λ r. raw_set r (length s.tables) (text (codes "n")) (number (pos (length extra)))) (with_items_with g (new_table s) (length s.tables) (pos 1) extra)

  pub begin_does : (m : State) → Holds P m → Does (begin m) (begin (state_with g m))
  begin_does m holds =
      check_does (nat_le (own m.top.function).params (length m.top.registers)) _ _ (
      choice_does (has_arg_table (own m.top.function).flags) _ _ _ _ (
      subst (λ s. Does (set (with_store m (with_arg_table m.store m.top.extra)) (own m.top.function).params (table (length m.store.tables))) (set (with_store m s) (own m.top.function).params (table (length m.store.tables)))) (sym (with_arg_table_with m.store m.top.extra)) (
      set_does (with_store m (with_arg_table m.store m.top.extra)) (own m.top.function).params (table (length m.store.tables)) holds)) (refl, holds))

  pub push_does : (landing : Landing) (lands : State → List Datum → Effect) → Lands lands → Enters (push landing lands)
  push_does landing lands goes p m f args known holds =
      choice_does (nat_lt (length m.below) depth_limit) _ _ _ _
      (begin_does (record m { top = frame_of f args landing p; below = m.top ∷ m.below }) (known, (holds.0, holds.1), holds.2))
      (failed_in_does lands goes p m stack_overflow holds)

  pub answer_does : (landing : Landing) (lands : State → List Datum → Effect) (next : State → Datum → Effect) → Lands lands → Goes_on next → (m : State) (act : Act) → Holds P m → Does (answer landing lands next m act) (answer landing lands next (state_with g m) act)
  answer_does landing lands next goes then m (value v) holds = then m v holds
  answer_does landing lands next goes then m (calls h args how) holds = call_by_does (push landing lands) lands (push_does landing lands goes) goes m h args holds
  answer_does landing lands next goes then m (failure v) holds = (refl, holds)

  pub join_does : (n : ℕ) (m : State) (a first : ℕ) (v : Datum) → Holds P m → Does (join m a first n v) (join (state_with g m) a first n v)
  join_does zero m a first v holds = set_does m a v holds
  join_does (suc n) m a first v holds =
      need_does (register m (first + n)) _ _ (λ left is.
      answer_does (pairs a first n) (λ m1 vs. join m1 a first n (first_of vs)) (λ m1 w. join m1 a first n w)
      (λ m1 vs holds1. join_does n m1 a first (first_of vs) holds1) (λ m1 w holds1. join_does n m1 a first w holds1) m (join_two m.store left v) holds)

  go_on_does : (m : State) (a : ℕ) (v : Datum) → Holds P m → Does (go_on m a v) (go_on (state_with g m) a v)
  go_on_does m a v holds =
      choice_does (is_nil v) _ _ _ _ (branch_does m false holds) (need_does (register m (a + 2)) _ _ (λ old is. branch_does (with_registers m (slice_set m.top.registers (a + 2) v)) true holds))

  turned_does : (m : State) (a : ℕ) (vs : List Datum) → Holds P m → Does (turned m a vs) (turned (state_with g m) a vs)
  turned_does m a vs holds =
      let m1 = with_registers m (spliced m.top.registers (a + 3) vs) in
      check_does (has_registers m (a + 3) (length vs)) _ _ (need_does (register m1 (a + 3)) _ _ (λ v is. go_on_does m1 a v holds))

  pub land_does : (landing : Landing) → Lands (land landing)
  land_does (into a) m vs holds = set_does m a (first_of vs) holds
  land_does (test a negated) m vs holds = branch_does m _ holds
  land_does (pairs a first n) m vs holds = join_does n m a first (first_of vs) holds
  land_does (fixed a n) m vs holds = set_all_does m a (adjusted n vs) holds
  land_does (open_at a) m vs holds = (refl, holds)
  land_does (turn a n) m vs holds = turned_does m a (adjusted n vs) holds
  land_does nowhere m vs holds = (refl, holds)

  pub call_does : (landing : Landing) (m : State) (f : Datum) (args : List Datum) → Holds P m → Does (call landing m f args) (call landing (state_with g m) f args)
  call_does landing m f args holds = call_by_does (push landing (land landing)) (land landing) (push_does landing (land landing) (land_does landing)) (land_does landing) m f args holds

  replace_does : (a : ℕ) → Enters (replace a)
  replace_does a zero m f args known holds = begin_does (record (close_from m 0) { top = frame_of f args m.top.landing m.top.protections }) (known, holds.1, holds.2)
  replace_does a (suc p) m f args known holds = push_does (open_at a) (land (open_at a)) (land_does (open_at a)) (suc p) m f args known holds

  pub tail_call_does : (a : ℕ) (m : State) (f : Datum) (args : List Datum) → Holds P m → Does (tail_call a m f args) (tail_call a (state_with g m) f args)
  tail_call_does a m f args holds = call_by_does (replace a) (land (open_at a)) (replace_does a) (land_does (open_at a)) m f args holds

  pub give_to_does : (below : List Frame) (m : State) (landing : Landing) (vs : List Datum) → AllIn P below → ClosuresIn P m.closures → Does (give_to below m landing vs) (give_to below (state_with g m) landing vs)
  give_to_does [] m landing vs all closures = refl
  give_to_does (x ∷ below) m landing vs all closures = land_does landing (record m { top = x; below = below }) vs (all.0, all.1, closures)

  pub leave_does : (m : State) (vs : List Datum) → Holds P m → Does (leave m vs) (leave (state_with g m) vs)
  leave_does m vs holds = give_to_does m.below (close_from m 0) m.top.landing (worked m.top.protections vs) holds.1 holds.2
