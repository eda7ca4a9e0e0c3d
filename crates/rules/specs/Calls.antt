-- To be believed. Calls, and where their results land (manual 2.5.8, 2.8 and 5.1, `pcall`; CALL, TAILCALL, RETURN, TFORLOOP and CONCAT).
use Rattle.std.specs.Prelude.{ℕ, zero, suc, ◌+◌, ℤ, pos, ◌+ℤ◌, Bool, true, false, not, nat_lt, nat_le, nat_eq, List, [], ◌∷◌, ◌++◌, map, length, take, replicate, slice_get, slice_set, Option, Some, None, codes, if◌then◌else◌}
use Rattle.opcode.specs.Word.{truth_field}
use Rattle.proto.specs.Chunk.{own}
use Rattle.lua_model.specs.Datum.{Datum, boolean, number, text, table, closure, native, host, is_nil, is_true, first_of, adjusted, extra_of}
use Rattle.lua_model.specs.declared.plain.Plain.{Plain}
use Rattle.lua_model.specs.Store.{Store, Reply, replies_values, replies_failure, printed, closed, as_datum, happens, replied, new_table, raw_set, with_items}
use Rattle.lua_model.specs.Acts.{Act, value, call as calls, failure, Callee, plain, through, no_function, NativeAct, results, prints, asks, fails, protects, closes}
use Rattle.lua_model.specs.Operators.{depth_limit, protection_limit, stack_overflow, callee, with_called, join as join_two}
use Rattle.lua_model.specs.Builtins.{native as built_in, call_host}
use Rattle.rules.specs.Places.{jmp_at, as_pc}
use Rattle.rules.specs.Words.{is_vararg, has_arg_table}
use Rattle.rules.specs.State.{Landing, into, test, pairs, fixed, open_at, turn, nowhere, Frame, Closure, State, Effect, Goes, Fails, Ends, Waits, need, check, at_pc, with_registers, with_results, with_store, register, has_registers, set, spliced, set_all}
use Rattle.rules.specs.Cells.{close_from}

-- The pc of the running frame is that after the word.

-- a jump by s: to the pc after the word plus s
abbrev pub jump : State → ℤ → Effect
jump m s = need (as_pc (pos m.top.pc +ℤ s)) (λ pc. Goes (at_pc m pc))

abbrev pub skip : State → State
skip m = at_pc m (suc m.top.pc)

-- the distance of the JMP that follows a test
abbrev pub next_jmp : State → Option ℤ
next_jmp m = jmp_at m.top.function m.top.pc

-- does the next JMP, or skips it
abbrev pub branch : State → Bool → Effect
branch m true = need (next_jmp m) (λ s. jump (skip m) s)
branch m false = need (next_jmp m) (λ s. Goes (skip m))

abbrev pub negated_as : Bool → Bool → Bool
negated_as true b = not b
negated_as false b = b

-- Protected calls (manual 5.1, `pcall`). The results of a call with p protections land behind p times true; a failure in one
-- with p + 1 of them lands as false and its value behind p times true.
abbrev pub worked : ℕ → List Datum → List Datum
worked p vs = replicate p (boolean true) ++ vs

abbrev pub broke : ℕ → Datum → List Datum
broke p v = replicate p (boolean true) ++ boolean false ∷ v ∷ []

abbrev pub failed_in : (State → List Datum → Effect) → ℕ → State → Datum → Effect
failed_in lands zero m v = Fails m v
failed_in lands (suc p) m v = lands m (broke p v)

-- A call: a called table stands for its `__call`, with the table put before the arguments. `enters` says what the call of
-- a Lua function with p protections does, `lands` what is done with the results of a built-in or a host.
module _ (enters : ℕ → State → Closure → List Datum → Effect) (lands : State → List Datum → Effect) where
  abbrev pub given : ℕ → State → List Datum → Effect
  given p m vs = lands m (worked p vs)

  abbrev pub heard : ℕ → State → Reply → Effect
  heard p m (replies_values vs) = given p m (map as_datum vs)
  heard p m (replies_failure t) = failed_in lands p m (text t)

  -- the next reply, of those that are left
  abbrev pub asked_of : ℕ → State → ℕ → List Plain → List Reply → Effect
  asked_of p m h args [] = Waits
  asked_of p m h args (reply ∷ left) =
      heard p (record m { outside = replied h args reply left m.outside }) reply

  -- what a built-in or a host answered; `again` makes a protected call
  abbrev pub answered : ℕ → (Datum → List Datum → Effect) → State → NativeAct → Effect
  answered p again m (results vs store) = given p (with_store m store) vs
  answered p again m (prints piece) = given p (record m { outside = happens (printed piece) m.outside }) []
  answered p again m (asks h args) = asked_of p m h args m.outside.replies
  answered p again m (fails v) = failed_in lands p m v
  answered p again m (protects f args) = again f args
  answered p again m (closes h store) =
      given p (record m { store = store; outside = happens (closed h) m.outside }) (boolean true ∷ [])

  -- a closure that is not there, of which a run knows none, is called as no function is
  abbrev pub entered : ℕ → State → Option Closure → List Datum → Effect
  entered p m None args = failed_in lands p m (text (codes "attempt to call a function value"))
  entered p m (Some f) args = enters p m f args

  abbrev pub apply : ℕ → (Datum → List Datum → Effect) → State → Datum → List Datum → Effect
  apply p again m (closure c) args = entered p m (slice_get m.closures c) args
  apply p again m (native id) args = answered p again m (built_in id args m.store)
  apply p again m (host h) args = answered p again m (call_host h args m.store)
  apply p again m f args = failed_in lands p m (text (codes "attempt to call a function value"))

  abbrev pub apply_to : ℕ → (Datum → List Datum → Effect) → State → Callee → List Datum → Effect
  apply_to p again m (plain f) args = apply p again m f args
  apply_to p again m (through handler) args = apply p again m handler args
  apply_to p again m (no_function v) args = failed_in lands p m v

  -- a call with p protections, where so many more may be: a protected call has one more; where none is left it is not made
  abbrev pub call_within : ℕ → ℕ → State → Datum → List Datum → Effect
  call_within zero p m f args =
      apply_to p (λ g xs. failed_in lands p m stack_overflow) m (callee m.store f) (with_called (callee m.store f) f args)
  call_within (suc left) p m f args =
      apply_to p (λ g xs. call_within left (suc p) m g xs) m (callee m.store f) (with_called (callee m.store f) f args)

  abbrev pub call_by : State → Datum → List Datum → Effect
  call_by m f args = call_within protection_limit 0 m f args

-- a frame of a function: its registers nil, the parameters set from the arguments
abbrev pub frame_of : Closure → List Datum → Landing → ℕ → Frame
frame_of f args landing p = record {
  function = f.function;
  cells = f.cells;
  pc = 0;
  registers = adjusted (own f.function).registers (take (own f.function).params args);
  extra = extra_of (is_vararg (own f.function).flags) (own f.function).params args;
  results = None;
  landing = landing;
  protections = p;
}

-- a new table of the extra arguments, from 1 on, with their number as `n`
abbrev pub with_arg_table : Store → List Datum → Store
with_arg_table store extra =
    let t = length store.tables in
    raw_set (with_items (new_table store) t (pos 1) extra) t (text (codes "n")) (number (pos (length extra)))

-- the running frame begins: its parameters are registers, and it may have the table of the extra arguments in the one behind them
abbrev pub begin : State → Effect
begin m =
    check (nat_le (own m.top.function).params (length m.top.registers)) (
    if has_arg_table (own m.top.function).flags then set (with_store m (with_arg_table m.store m.top.extra)) (own m.top.function).params (table (length m.store.tables)) else Goes m)

-- a Lua function's frame is put above; the depth is how many frames are below the topmost
abbrev pub push : Landing → (State → List Datum → Effect) → ℕ → State → Closure → List Datum → Effect
push landing lands p m f args =
    if nat_lt (length m.below) depth_limit then begin (record m { top = frame_of f args landing p; below = m.top ∷ m.below }) else failed_in lands p m stack_overflow

-- An operator's answer: its value goes on by `next`; where it asks for a call, the results of this go on by `lands` at
-- once, or from a frame by its landing.
abbrev pub answer : Landing → (State → List Datum → Effect) → (State → Datum → Effect) → State → Act → Effect
answer landing lands next m (value v) = next m v
answer landing lands next m (calls h args how) = call_by (push landing lands) lands m h args
answer landing lands next m (failure v) = Fails m v

-- The pairs left of a CONCAT: n registers from the first on are joined to a running value, from the last one down.
abbrev pub join : State → ℕ → ℕ → ℕ → Datum → Effect
join m a first zero v = set m a v
join m a first (suc n) v =
    need (register m (first + n)) (λ left.
    answer (pairs a first n) (λ m1 vs. join m1 a first n (first_of vs)) (λ m1 w. join m1 a first n w) m (join_two m.store left v))

-- a TFORLOOP's results from A + 3 on; where the first is not nil it goes to A + 2 too, and the next JMP is done
abbrev pub go_on : State → ℕ → Datum → Effect
go_on m a v = if is_nil v then branch m false else need (register m (a + 2)) (λ old. branch (with_registers m (slice_set m.top.registers (a + 2) v)) true)

abbrev pub turned : State → ℕ → List Datum → Effect
turned m a vs =
    check (has_registers m (a + 3) (length vs)) (
    let m1 = with_registers m (spliced m.top.registers (a + 3) vs) in
    need (register m1 (a + 3)) (go_on m1 a))

-- results land in the running frame
abbrev pub land : Landing → State → List Datum → Effect
land (into a) m vs = set m a (first_of vs)
land (test a negated) m vs = branch m (nat_eq (truth_field (negated_as negated (is_true (first_of vs)))) a)
land (pairs a first n) m vs = join m a first n (first_of vs)
land (fixed a n) m vs = set_all m a (adjusted n vs)
land (open_at a) m vs = Goes (with_results m (Some (record { first = a; values = vs })))
land (turn a n) m vs = turned m a (adjusted n vs)
land nowhere m vs = Goes m

-- a call whose results land so, at once or from its frame
abbrev pub call : Landing → State → Datum → List Datum → Effect
call landing m f args = call_by (push landing (land landing)) (land landing) m f args

-- A tail call: a Lua function takes the place of the running frame, all of whose cells are closed, with its landing and
-- protections; where the call itself is protected, the function has a frame of its own, whose results are open.
abbrev pub replace : ℕ → ℕ → State → Closure → List Datum → Effect
replace a zero m f args = begin (record (close_from m 0) { top = frame_of f args m.top.landing m.top.protections })
replace a (suc p) m f args = push (open_at a) (land (open_at a)) (suc p) m f args

abbrev pub tail_call : ℕ → State → Datum → List Datum → Effect
tail_call a m f args = call_by (replace a) (land (open_at a)) m f args

-- The running frame is left with results, which land in the frame below; the main frame's end is the run's.
abbrev pub give_to : List Frame → State → Landing → List Datum → Effect
give_to [] m landing vs = Ends m
give_to (x ∷ below) m landing vs = land landing (record m { top = x; below = below }) vs

abbrev pub leave : State → List Datum → Effect
leave m vs = give_to m.below (close_from m 0) m.top.landing (worked m.top.protections vs)
