-- Landings that fail changed nothing but the store and the outside, so that a failure where one lands is a failure in the frame that it
-- lands in. Facts of the rules alone.
use Rattle.std.proofs.Common.{◌≡◌, ℕ, zero, suc, ◌+◌, ℤ, pos, Bool, true, false, List, [], ◌∷◌, length, None, Some, refl, sym, ap, ◌∙◌}
use Rattle.std.specs.Prelude.{Option, nat_lt, nat_le, ◌+ℤ◌, slice_get, slice_set, if◌then◌else◌}
use Rattle.proto.specs.Chunk.{own}
use Rattle.lua_model.specs.Datum.{Datum, text, table, closure, native, host, is_nil, first_of, adjusted}
use Rattle.lua_model.specs.declared.plain.Plain.{Plain}
use Rattle.lua_model.specs.Store.{Store, Outside, Reply, replies_values, replies_failure}
use Rattle.lua_model.specs.Acts.{Act, value, call as calls, failure, Callee, plain, through, no_function, NativeAct, results, prints, asks, fails, protects, closes}
use Rattle.lua_model.specs.Operators.{depth_limit, protection_limit, stack_overflow, callee, join as join_two}
use Rattle.lua_model.specs.Builtins.{native as built_in, call_host}
use Rattle.rules.specs.Places.{as_pc}
use Rattle.rules.specs.Words.{has_arg_table}
use Rattle.rules.specs.State.{Landing, into, test, pairs, fixed, open_at, turn, nowhere, Frame, Closure, State, Effect, Goes, Fails, Ends, Waits, IsStuck, need, check, with_registers, with_store, register, has_registers, set, spliced}
use Rattle.rules.specs.Cells.{close_from}
use Rattle.rules.specs.Calls.{next_jmp, jump, skip, branch, broke, failed_in, heard, asked_of, answered, entered, apply, apply_to, call_within, call_by, frame_of, with_arg_table, begin, push, answer, join, turned, land, give_to}
use Rattle.rules.specs.Run.{Conf, settled, unwind, after}

-- where it fails, nothing but the store and the outside of the state changed
abbrev FailsBeside : State → Effect → Type 0
FailsBeside m (Fails at v) = at ≡ record m { store = at.store; outside = at.outside }
FailsBeside m _ = Unit {0}

need_beside : {A : Type 0} (m : State) (o : Option A) (next : A → Effect) → ((x : A) → FailsBeside m (next x)) → FailsBeside m (need o next)
need_beside m None next beside = tt
need_beside m (Some x) next beside = beside x

check_beside : (m : State) (b : Bool) (effect : Effect) → FailsBeside m effect → FailsBeside m (check b effect)
check_beside m true effect beside = beside
check_beside m false effect beside = tt

either_beside : (m : State) (b : Bool) (x y : Effect) → FailsBeside m x → FailsBeside m y → FailsBeside m (if b then x else y)
either_beside m true x y first second = first
either_beside m false x y first second = second

-- ---- what never fails

set_beside : (m at : State) (a : ℕ) (v : Datum) → FailsBeside m (set at a v)
set_beside m at a v = need_beside m (register at a) _ (λ old. tt)

jump_beside : (m at : State) (s : ℤ) → FailsBeside m (jump at s)
jump_beside m at s = need_beside m (as_pc (pos at.top.pc +ℤ s)) _ (λ pc. tt)

branch_beside : (m at : State) (b : Bool) → FailsBeside m (branch at b)
branch_beside m at true = need_beside m (next_jmp at) _ (λ s. jump_beside m (skip at) s)
branch_beside m at false = need_beside m (next_jmp at) _ (λ s. tt)

begin_beside : (m at : State) → FailsBeside m (begin at)
begin_beside m at =
    check_beside m (nat_le (own at.top.function).params (length at.top.registers)) _
    (either_beside m (has_arg_table (own at.top.function).flags) _ (Goes at) (set_beside m (with_store at (with_arg_table at.store at.top.extra)) (own at.top.function).params (table (length at.store.tables))) tt)

turned_beside : (m at : State) (a : ℕ) (vs : List Datum) → FailsBeside m (turned at a vs)
turned_beside m at a vs =
    let put = with_registers at (spliced at.top.registers (a + 3) vs) in
    check_beside m (has_registers at (a + 3) (length vs)) _
    (need_beside m (register put (a + 3)) _
    (λ v. either_beside m (is_nil v) _ _ (branch_beside m put false) (need_beside m (register put (a + 2)) _ (λ old. branch_beside m (with_registers put (slice_set put.top.registers (a + 2) v)) true))))

-- ---- calls

module _ (m : State) (enters : ℕ → State → Closure → List Datum → Effect) (lands : State → List Datum → Effect) (enters_beside : (p : ℕ) (f : Closure) (args : List Datum) → FailsBeside m (enters p m f args)) (lands_beside : (store : Store) (outside : Outside) (vs : List Datum) → FailsBeside m (lands (record m { store = store; outside = outside }) vs)) where
  failing : (p : ℕ) (outside : Outside) (v : Datum) → FailsBeside m (failed_in lands p (record m { outside = outside }) v)
  failing zero outside v = refl
  failing (suc p) outside v = lands_beside m.store outside (broke p v)

  heard_beside : (p : ℕ) (outside : Outside) (reply : Reply) → FailsBeside m (heard enters lands p (record m { outside = outside }) reply)
  heard_beside p outside (replies_values vs) = lands_beside m.store outside _
  heard_beside p outside (replies_failure t) = failing p outside (text t)

  asked_beside : (p h : ℕ) (args : List Plain) (replies : List Reply) → FailsBeside m (asked_of enters lands p m h args replies)
  asked_beside p h args [] = tt
  asked_beside p h args (reply ∷ left) = heard_beside p _ reply

  answered_beside : (p : ℕ) (again : Datum → List Datum → Effect) → ((g : Datum) (xs : List Datum) → FailsBeside m (again g xs)) → (a : NativeAct) → FailsBeside m (answered enters lands p again m a)
  answered_beside p again beside (results vs store) = lands_beside store m.outside _
  answered_beside p again beside (prints piece) = lands_beside m.store _ _
  answered_beside p again beside (asks h args) = asked_beside p h args m.outside.replies
  answered_beside p again beside (fails v) = failing p m.outside v
  answered_beside p again beside (protects f args) = beside f args
  answered_beside p again beside (closes h store) = lands_beside store _ _

  entered_beside : (p : ℕ) (f : Option Closure) (args : List Datum) → FailsBeside m (entered enters lands p m f args)
  entered_beside p None args = failing p m.outside _
  entered_beside p (Some f) args = enters_beside p f args

  apply_beside : (p : ℕ) (again : Datum → List Datum → Effect) → ((g : Datum) (xs : List Datum) → FailsBeside m (again g xs)) → (f : Datum) (args : List Datum) → FailsBeside m (apply enters lands p again m f args)
  apply_beside p again beside (closure c) args = entered_beside p (slice_get m.closures c) args
  apply_beside p again beside (native id) args = answered_beside p again beside (built_in id args m.store)
  apply_beside p again beside (host h) args = answered_beside p again beside (call_host h args m.store)
  apply_beside p again beside _ args = failing p m.outside _

  apply_to_beside : (p : ℕ) (again : Datum → List Datum → Effect) → ((g : Datum) (xs : List Datum) → FailsBeside m (again g xs)) → (f : Callee) (args : List Datum) → FailsBeside m (apply_to enters lands p again m f args)
  apply_to_beside p again beside (plain f) args = apply_beside p again beside f args
  apply_to_beside p again beside (through handler) args = apply_beside p again beside handler args
  apply_to_beside p again beside (no_function v) args = failing p m.outside v

  call_within_beside : (left p : ℕ) (f : Datum) (args : List Datum) → FailsBeside m (call_within enters lands left p m f args)
  call_within_beside zero p f args = apply_to_beside p _ (λ g xs. failing p m.outside _) (callee m.store f) _
  call_within_beside (suc left) p f args =
      apply_to_beside p (λ g xs. call_within enters lands left (suc p) m g xs) (λ g xs. call_within_beside left (suc p) g xs) (callee m.store f) _

  call_by_beside : (f : Datum) (args : List Datum) → FailsBeside m (call_by enters lands m f args)
  call_by_beside f args = call_within_beside protection_limit 0 f args

-- a Lua function's frame is put above, or its call fails as results land
push_beside : (m : State) (landing : Landing) (lands : State → List Datum → Effect) → ((store : Store) (outside : Outside) (vs : List Datum) → FailsBeside m (lands (record m { store = store; outside = outside }) vs)) → (p : ℕ) (f : Closure) (args : List Datum) → FailsBeside m (push landing lands p m f args)
push_beside m landing lands beside p f args =
    either_beside m (nat_lt (length m.below) depth_limit) _ _ (begin_beside m (record m { top = frame_of f args landing p; below = m.top ∷ m.below })) (overflow p)
  where
    overflow : (p : ℕ) → FailsBeside m (failed_in lands p m stack_overflow)
    overflow zero = refl
    overflow (suc p) = beside m.store m.outside (broke p stack_overflow)

-- ---- landings

answer_beside : (m : State) (landing : Landing) (lands : State → List Datum → Effect) (next : State → Datum → Effect) → ((store : Store) (outside : Outside) (vs : List Datum) → FailsBeside m (lands (record m { store = store; outside = outside }) vs)) → ((v : Datum) → FailsBeside m (next m v)) → (act : Act) → FailsBeside m (answer landing lands next m act)
answer_beside m landing lands next beside goes (value v) = goes v
answer_beside m landing lands next beside goes (calls h args how) =
    call_by_beside m (push landing lands) lands (push_beside m landing lands beside) beside h args
answer_beside m landing lands next beside goes (failure v) = refl

join_beside : (n : ℕ) (m : State) (a first : ℕ) (v : Datum) → FailsBeside m (join m a first n v)
join_beside zero m a first v = set_beside m m a v
join_beside (suc n) m a first v =
    need_beside m (register m (first + n)) _
    (λ left. answer_beside m (pairs a first n) (λ m1 vs. join m1 a first n (first_of vs)) (λ m1 w. join m1 a first n w) (λ store outside vs. join_beside n (record m { store = store; outside = outside }) a first (first_of vs)) (λ w. join_beside n m a first w) (join_two m.store left v))

pub land_beside : (landing : Landing) (m : State) (vs : List Datum) → FailsBeside m (land landing m vs)
land_beside (into a) m vs = set_beside m m a (first_of vs)
land_beside (test a negated) m vs = branch_beside m m _
land_beside (pairs a first n) m vs = join_beside n m a first (first_of vs)
land_beside (fixed a n) m vs = check_beside m (has_registers m a (length (adjusted n vs))) _ tt
land_beside (open_at a) m vs = tt
land_beside (turn a n) m vs = turned_beside m m a (adjusted n vs)
land_beside nowhere m vs = tt

-- ---- failures that go down

-- where it fails, this is a failure in the frame that runs
fails_there : (m0 m : State) (effect : Effect) → FailsBeside m effect → settled m0 (λ at v. unwind m0 (m.top ∷ m.below) (record m { store = at.store; outside = at.outside }) v) effect ≡ after m0 effect
fails_there m0 m (Goes next) beside = refl
fails_there m0 m (Fails at v) beside = ap (λ (s : State). unwind m0 (s.top ∷ s.below) s v) (sym beside)
fails_there m0 m (Ends at) beside = refl
fails_there m0 m Waits beside = refl
fails_there m0 m IsStuck beside = refl

-- results that land in the first of these frames
pub given_there : (m0 left : State) (frames : List Frame) (landing : Landing) (vs : List Datum) → settled m0 (λ at v. unwind m0 frames (record left { store = at.store; outside = at.outside }) v) (give_to frames left landing vs) ≡ after m0 (give_to frames left landing vs)
given_there m0 left [] landing vs = refl
given_there m0 left (x ∷ rest) landing vs =
    let m = record left { top = x; below = rest } in
    fails_there m0 m (land landing m vs) (land_beside landing m vs)

-- what a frame with so many protections makes of a failure
abbrev pub by_protections : State → State → Datum → ℕ → Conf
by_protections m0 m v n =
    let left = close_from m 0 in
    elim n [
      | zero ↦ unwind m0 m.below left v
      | suc p ↦ settled m0 (λ at w. unwind m0 m.below (record left { store = at.store; outside = at.outside }) w) (give_to m.below left m.top.landing (broke p v))
    ]

-- the topmost frame takes the failure, where it has protections
pub taken : (m0 m : State) (p : ℕ) (v : Datum) (vs : List Datum) → m.top.protections ≡ suc p → vs ≡ broke p v → unwind m0 (m.top ∷ m.below) m v ≡ after m0 (give_to m.below (close_from m 0) m.top.landing vs)
taken m0 m p v vs protected same =
    ap (by_protections m0 m v) protected
    ∙ given_there m0 (close_from m 0) m.below m.top.landing (broke p v)
    ∙ ap (λ ds. after m0 (give_to m.below (close_from m 0) m.top.landing ds)) (sym same)
