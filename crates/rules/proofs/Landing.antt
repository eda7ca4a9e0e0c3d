-- Calls and landings in the state of a sound chunk's run.
use Rattle.std.proofs.Common.{◌≡◌, ◌⊎◌, inr, ℕ, zero, suc, ◌+◌, ◌<◌, ◌≤◌, ℤ, pos, Bool, true, false, cond, List, [], ◌∷◌, length, None, Some, refl, sym, ap, subst, ◌∙◌, arith, nat_lt, nat_le, le-leb, length-set, lt-ltb, eqb-true, eq-eqb}
use Rattle.std.specs.Prelude.{if◌then◌else◌, Option, slice_get, slice_set, ◌+ℤ◌, ◌==◌}
use Rattle.proto.specs.Chunk.{Chunk, own}
use Rattle.lua_model.specs.Datum.{text, table, Datum, number, closure, native, host, is_nil, first_of, adjusted}
use Rattle.lua_model.specs.declared.plain.Plain.{Plain}
use Rattle.lua_model.specs.Store.{Store, Outside, Reply, replies_values, replies_failure}
use Rattle.lua_model.specs.Acts.{Act, value, call as calls, failure, Callee, plain, through, no_function, NativeAct, results, prints, asks, fails, protects, closes}
use Rattle.lua_model.specs.Operators.{callee, join as join_two, depth_limit, protection_limit, stack_overflow}
use Rattle.lua_model.specs.Builtins.{native as built_in, call_host}
use Rattle.rules.specs.Places.{as_pc}
use Rattle.rules.specs.Notes.{Notes, Registers, is_from_to, is_among}
use Rattle.rules.specs.Breaks.{wanted_at}
use Rattle.rules.specs.Words.{has_arg_table}
use Rattle.rules.specs.State.{Landing, into, test, pairs, fixed, open_at, turn, nowhere, Frame, Cell, Closure, State, Effect, Goes, need, check, with_registers, with_store, register, has_registers, set, spliced, set_all}
use Rattle.rules.specs.Calls.{call_within, failed_in, next_jmp, branch, heard, asked_of, answered, entered, apply, apply_to, call_by, frame_of, with_arg_table, begin, push, answer, join, turned, land, call}
use Rattle.rules.proofs.Lists.{get_some, set_other, set_same, length-spliced, spliced_other, length-adjusted, and_true, clash}
use Rattle.rules.proofs.Starting.{known_of, start_arrival, enough_registers, arg_register, has_frame}
use Rattle.rules.proofs.Invariant.{IsOpen, IsNumber, Met, Arrival, nothing, only, Branches, AreThere, Awaits, IsClosure, HasRegister, Base, BaseOf, left_of, Inv, Fine}

pub need_fine : {A : Type 0} (o : Option A) (x : A) (next : A → Effect) → o ≡ Some x → Fine (next x) → Fine (need o next)
need_fine o x next e fine = subst (λ p. Fine (need p next)) (sym e) fine

pub check_fine : (b : Bool) (effect : Effect) → b ≡ true → Fine effect → Fine (check b effect)
check_fine b effect e fine = subst (λ t. Fine (check t effect)) (sym e) fine

pub cond_fine : (b : Bool) (x y : Effect) → Fine x → Fine y → Fine (cond b x y)
cond_fine true x y fx fy = fx
cond_fine false x y fx fy = fy

-- what is written before the frame goes on
pub arrival_written : (f : Chunk) (notes : Notes) (cells : List Cell) (k : ℕ) (registers : List Datum) (pc : ℕ) (written : Registers) (left : Option ℕ) (after : List Datum) → Arrival f notes cells k registers pc written left → length after ≡ length registers → ((r : ℕ) → written r ≡ false → slice_get after r ≡ slice_get registers r) → Arrival f notes cells k after pc nothing left
arrival_written f notes cells k registers pc written left after a len same = record {
  place = a.place;
  note = a.note;
  noted = a.noted;
  holds = record {
    captured = a.holds.captured;
    numbers = λ x r l low high. let n = a.holds.numbers x r l low high in (n.0, same r (a.spared x r l low high) ∙ n.1);
    alone = a.holds.alone;
  };
  spared = λ x r l low high. refl;
  met = subst (λ size. Met size (wanted_at f pc) left) (sym len) a.met;
}

met_any : (size : ℕ) (o left : Option ℕ) → Met size o None → Met size o left
met_any size None left met = tt
met_any size (Some start) left met = absurd met

pub arrival_any : (f : Chunk) (notes : Notes) (cells : List Cell) (k : ℕ) (registers : List Datum) (pc : ℕ) (written : Registers) (left : Option ℕ) → Arrival f notes cells k registers pc written None → Arrival f notes cells k registers pc written left
arrival_any f notes cells k registers pc written left a = record {
  place = a.place;
  note = a.note;
  noted = a.noted;
  holds = a.holds;
  spared = a.spared;
  met = met_any (length registers) (wanted_at f pc) left a.met;
}

abbrev pub base_registers : (f : Chunk) (ups : List ℕ) (registers after : List Datum) (landing : Landing) (below : List Frame) (cells : List Cell) (closures : List Closure) → (base : Base f ups registers landing below cells closures) → length after ≡ length registers → Base f ups after landing below cells closures
base_registers f ups registers after landing below cells closures base len = record {
  known = base.known;
  size = len ∙ base.size;
  counted = base.counted;
  named = base.named;
  closures_are = base.closures_are;
  opens = λ k r is. subst (λ n. ((k ≡ length below) × (r < n)) ⊎ HasRegister below k r) (sym len) (base.opens k r is);
  waiting = base.waiting;
}

-- registers change, and the running frame goes on
pub registers_fine : (m : State) (base : BaseOf m) (after : List Datum) (written : Registers) → Arrival m.top.function base.known.notes m.cells (length m.below) m.top.registers m.top.pc written None → length after ≡ length m.top.registers → ((r : ℕ) → written r ≡ false → slice_get after r ≡ slice_get m.top.registers r) → Inv (with_registers m after)
registers_fine m base after written a len same = record {
  base = base_registers m.top.function m.top.cells m.top.registers after m.top.landing m.below m.cells m.closures base len;
  ready = arrival_any m.top.function base.known.notes m.cells (length m.below) after m.top.pc nothing (left_of m.top.results) (arrival_written m.top.function base.known.notes m.cells (length m.below) m.top.registers m.top.pc written None after a len same);
}

pub not_eqb : (a r : ℕ) → (a == r) ≡ false → a ≡ r → ⊥
not_eqb a r e h = clash (eq-eqb a r h) e

pub set_fine : (m : State) (base : BaseOf m) (a : ℕ) (v : Datum) → a < length m.top.registers → Arrival m.top.function base.known.notes m.cells (length m.below) m.top.registers m.top.pc (only a) None → Fine (set m a v)
set_fine m base a v there arrival =
    let old = get_some m.top.registers a there in
    need_fine (register m a) old.0 _ old.1 (registers_fine m base (slice_set m.top.registers a v) (only a) arrival (length-set m.top.registers a v) (λ r e. set_other m.top.registers a r v (not_eqb a r e)))

pub has_them : (m : State) (a n : ℕ) → AreThere a n (length m.top.registers) → has_registers m a n ≡ true
has_them m a zero there = refl
has_them m a (suc n) there = le-leb (a + suc n) (length m.top.registers) (there (omega arith))

pub not_among : (a n r : ℕ) → is_among a n r ≡ false → a ≤ r → r < a + n → ⊥
not_among a n r e low high = clash (and_true _ _ (le-leb a r low) (lt-ltb r (a + n) high)) e

pub set_all_fine : (m : State) (base : BaseOf m) (a n : ℕ) (vs : List Datum) → length vs ≡ n → AreThere a n (length m.top.registers) → Arrival m.top.function base.known.notes m.cells (length m.below) m.top.registers m.top.pc (is_among a n) None → Fine (set_all m a vs)
set_all_fine m base a n vs len there arrival =
    check_fine _ _ (has_them m a (length vs) (λ some. subst (λ k. a + k ≤ length m.top.registers) (sym len) (there (subst (λ k. 0 < k) len some)))) (
    registers_fine m base (spliced m.top.registers a vs) (is_among a n) arrival (length-spliced m.top.registers a vs) (λ r e. spliced_other m.top.registers a vs r (λ low high. not_among a n r e low (omega arith))))

-- ---- branches

pub branch_fine : (m : State) (base : BaseOf m) (written : Registers) → Branches m.top.function base.known.notes m.cells (length m.below) m.top.registers m.top.pc written → (b : Bool) → Fine (branch m b)
branch_fine m base written ways true =
    need_fine (next_jmp m) ways.s _ ways.jmp (
    need_fine (as_pc (pos (suc m.top.pc) +ℤ ways.s)) ways.t _ ways.goes (record {
      base = base;
      ready = arrival_any m.top.function base.known.notes m.cells (length m.below) m.top.registers ways.t nothing (left_of m.top.results) (arrival_written m.top.function base.known.notes m.cells (length m.below) m.top.registers ways.t written None m.top.registers ways.yes refl (λ r e. refl));
    }))
branch_fine m base written ways false =
    need_fine (next_jmp m) ways.s _ ways.jmp (record {
      base = base;
      ready = arrival_any m.top.function base.known.notes m.cells (length m.below) m.top.registers (suc m.top.pc) nothing (left_of m.top.results) (arrival_written m.top.function base.known.notes m.cells (length m.below) m.top.registers (suc m.top.pc) written None m.top.registers ways.skips refl (λ r e. refl));
    })

-- the same after registers were written
pub branches_written : (f : Chunk) (notes : Notes) (cells : List Cell) (k : ℕ) (registers : List Datum) (pc : ℕ) (written : Registers) (after : List Datum) → Branches f notes cells k registers pc written → length after ≡ length registers → ((r : ℕ) → written r ≡ false → slice_get after r ≡ slice_get registers r) → Branches f notes cells k after pc nothing
branches_written f notes cells k registers pc written after ways len same = record {
  s = ways.s;
  jmp = ways.jmp;
  t = ways.t;
  goes = ways.goes;
  yes = arrival_written f notes cells k registers ways.t written None after ways.yes len same;
  skips = arrival_written f notes cells k registers (suc pc) written None after ways.skips len same;
}

-- ---- calls

pub failed_in_fine : (lands : State → List Datum → Effect) (p : ℕ) (m : State) → BaseOf m → (v : Datum) → ((vs : List Datum) → Fine (lands m vs)) → Fine (failed_in lands p m v)
failed_in_fine lands zero m base v fine = base
failed_in_fine lands (suc p) m base v fine = fine _

module _ (m : State) (base : BaseOf m) (enters : ℕ → State → Closure → List Datum → Effect) (lands : State → List Datum → Effect) (enters_fine : (p n : ℕ) (c : Closure) → slice_get m.closures n ≡ Some c → (args : List Datum) → Fine (enters p m c args)) (lands_fine : (store : Store) (outside : Outside) (vs : List Datum) → Fine (lands (record m { store = store; outside = outside }) vs)) where
  failing : (p : ℕ) (outside : Outside) (v : Datum) → Fine (failed_in lands p (record m { outside = outside }) v)
  failing p outside v = failed_in_fine lands p (record m { outside = outside }) base v (λ vs. lands_fine m.store outside vs)

  heard_fine : (p : ℕ) (outside : Outside) (reply : Reply) → Fine (heard enters lands p (record m { outside = outside }) reply)
  heard_fine p outside (replies_values vs) = lands_fine m.store outside _
  heard_fine p outside (replies_failure t) = failing p outside (text t)

  asked_fine : (p h : ℕ) (args : List Plain) (replies : List Reply) → Fine (asked_of enters lands p m h args replies)
  asked_fine p h args [] = tt
  asked_fine p h args (reply ∷ left) = heard_fine p _ reply

  answered_fine : (p : ℕ) (again : Datum → List Datum → Effect) → ((g : Datum) (xs : List Datum) → Fine (again g xs)) → (a : NativeAct) → Fine (answered enters lands p again m a)
  answered_fine p again fine (results vs store) = lands_fine store m.outside _
  answered_fine p again fine (prints piece) = lands_fine m.store _ _
  answered_fine p again fine (asks h args) = asked_fine p h args m.outside.replies
  answered_fine p again fine (fails v) = failing p m.outside v
  answered_fine p again fine (protects f args) = fine f args
  answered_fine p again fine (closes h store) = lands_fine store _ _

  entered_fine : (p n : ℕ) (o : Option Closure) → slice_get m.closures n ≡ o → (args : List Datum) → Fine (entered enters lands p m o args)
  entered_fine p n None e args = failing p m.outside _
  entered_fine p n (Some c) e args = enters_fine p n c e args

  apply_fine : (p : ℕ) (again : Datum → List Datum → Effect) → ((g : Datum) (xs : List Datum) → Fine (again g xs)) → (f : Datum) (args : List Datum) → Fine (apply enters lands p again m f args)
  apply_fine p again fine (closure c) args = entered_fine p c (slice_get m.closures c) refl args
  apply_fine p again fine (native id) args = answered_fine p again fine (built_in id args m.store)
  apply_fine p again fine (host h) args = answered_fine p again fine (call_host h args m.store)
  apply_fine p again fine _ args = failing p m.outside _

  apply_to_fine : (p : ℕ) (again : Datum → List Datum → Effect) → ((g : Datum) (xs : List Datum) → Fine (again g xs)) → (c : Callee) (args : List Datum) → Fine (apply_to enters lands p again m c args)
  apply_to_fine p again fine (plain f) args = apply_fine p again fine f args
  apply_to_fine p again fine (through handler) args = apply_fine p again fine handler args
  apply_to_fine p again fine (no_function v) args = failing p m.outside v

  call_within_fine : (left p : ℕ) (f : Datum) (args : List Datum) → Fine (call_within enters lands left p m f args)
  call_within_fine zero p f args = apply_to_fine p _ (λ g xs. failing p m.outside _) (callee m.store f) _
  call_within_fine (suc left) p f args =
      apply_to_fine p (λ g xs. call_within enters lands left (suc p) m g xs) (λ g xs. call_within_fine left (suc p) g xs) (callee m.store f) _

  pub call_by_fine : (f : Datum) (args : List Datum) → Fine (call_by enters lands m f args)
  call_by_fine f args = call_within_fine protection_limit 0 f args

-- a frame of a sound function begins
pub begin_fine : (m : State) (c : Closure) (args : List Datum) (landing : Landing) (p : ℕ) → BaseOf (record m { top = frame_of c args landing p }) → ((r : ℕ) → IsOpen m.cells (length m.below) r → ⊥) → Fine (begin (record m { top = frame_of c args landing p }))
begin_fine m c args landing p base closed =
    check_fine (nat_le (own c.function).params (length (frame_of c args landing p).registers)) _ (let low = enough_registers c.function base.known in let size = base.size in le-leb _ _ (omega arith)) (go (has_arg_table (own c.function).flags) refl)
  where
    go : (b : Bool) → has_arg_table (own c.function).flags ≡ b → Fine (if b then set (with_store (record m { top = frame_of c args landing p }) (with_arg_table m.store (frame_of c args landing p).extra)) (own c.function).params (table (length m.store.tables)) else Goes (record m { top = frame_of c args landing p }))
    go false e = record { base = base; ready = start_arrival c.function base.known m.cells (length m.below) _ nothing None closed }
    go true e =
        let there : (own c.function).params < (own c.function).registers = arg_register c.function base.known e in
        let size = base.size in
        set_fine (with_store (record m { top = frame_of c args landing p }) (with_arg_table m.store (frame_of c args landing p).extra)) base (own c.function).params (table (length m.store.tables)) (omega arith) (start_arrival c.function base.known m.cells (length m.below) _ (only (own c.function).params) None closed)

-- a Lua function's frame is put above
pub push_fine : (m : State) (base : BaseOf m) (landing : Landing) (lands : State → List Datum → Effect) (p : ℕ) → ((vs : List Datum) → Fine (lands m vs)) → Awaits m.top.function base.known.notes m.cells (length m.below) m.top.registers m.top.pc landing → (c : Closure) → IsClosure m.cells c → (args : List Datum) → Fine (push landing lands p m c args)
push_fine m base landing lands p landed awaits c is args =
    cond_fine (nat_lt (length m.below) depth_limit) _ _ (
    begin_fine (record m { below = m.top ∷ m.below }) c args landing p (record {
      known = known_of c.function false is.sound;
      size = length-adjusted (own c.function).registers _;
      counted = is.upvalues;
      named = is.named;
      closures_are = base.closures_are;
      opens = λ k r has. inr (base.opens k r has);
      waiting = (record { known = base.known; size = base.size; upvalues = base.counted; named = base.named; awaits = awaits }, base.waiting);
    }) (λ r has. no_frame_above m base r has)) (failed_in_fine lands p m base stack_overflow landed)
  where
    no_frame_above : (m : State) (base : BaseOf m) (r : ℕ) → IsOpen m.cells (length (m.top ∷ m.below)) r → ⊥
    no_frame_above m base r has = let low = has_frame (m.top ∷ m.below) (length (m.top ∷ m.below)) r (base.opens (length (m.top ∷ m.below)) r has) in omega arith

-- the pairs left of a CONCAT, where those behind the next are joined so
joined_fine : (n : ℕ) (m : State) (base : BaseOf m) (a first : ℕ) → a < length m.top.registers → first + n ≤ length m.top.registers → Arrival m.top.function base.known.notes m.cells (length m.below) m.top.registers m.top.pc (only a) None → ((store : Store) (outside : Outside) (w : Datum) → Fine (join (record m { store = store; outside = outside }) a first n w)) → (act : Act) → Fine (answer (pairs a first n) (λ m1 vs. join m1 a first n (first_of vs)) (λ m1 w. join m1 a first n w) m act)
joined_fine n m base a first there fits arrival next (value w) = next m.store m.outside w
joined_fine n m base a first there fits arrival next (calls h args how) =
    call_by_fine m base (push (pairs a first n) (λ m1 vs. join m1 a first n (first_of vs))) (λ m1 vs. join m1 a first n (first_of vs)) (λ p c f e xs. push_fine m base (pairs a first n) (λ m1 vs. join m1 a first n (first_of vs)) p (λ vs. next m.store m.outside (first_of vs)) (there, fits, arrival) f (base.closures_are c f e) xs) (λ store outside vs. next store outside (first_of vs)) h args
joined_fine n m base a first there fits arrival next (failure w) = base

-- the pairs left of a CONCAT
pub join_fine : (n : ℕ) (m : State) (base : BaseOf m) (a first : ℕ) → a < length m.top.registers → first + n ≤ length m.top.registers → Arrival m.top.function base.known.notes m.cells (length m.below) m.top.registers m.top.pc (only a) None → (v : Datum) → Fine (join m a first n v)
join_fine zero m base a first there fits arrival v = set_fine m base a v there arrival
join_fine (suc n) m base a first there fits arrival v =
    let left = get_some m.top.registers (first + n) (omega arith) in
    need_fine (register m (first + n)) left.0 _ left.1 (
    joined_fine n m base a first there (omega arith) arrival (λ store outside w. join_fine n (record m { store = store; outside = outside }) base a first there (omega arith) arrival w) (join_two m.store left.0 v))

pub not_from_to : (low high r : ℕ) → is_from_to low high r ≡ false → low ≤ r → r ≤ high → ⊥
not_from_to low high r e h1 h2 = clash (and_true _ _ (le-leb low r h1) (le-leb r high h2)) e

turned_same : (registers : List Datum) (a n : ℕ) (vs : List Datum) → length vs ≡ n → (r : ℕ) → is_from_to (a + 2) (a + 2 + n) r ≡ false → slice_get (spliced registers (a + 3) vs) r ≡ slice_get registers r
turned_same registers a n vs len r e =
    spliced_other registers (a + 3) vs r (λ low high. not_from_to (a + 2) (a + 2 + n) r e (omega arith) (omega arith))

-- a TFORLOOP's results
pub turned_fine : (m : State) (base : BaseOf m) (a n : ℕ) (vs : List Datum) → length vs ≡ n → a + 3 + n ≤ length m.top.registers → a + 3 < length m.top.registers → Branches m.top.function base.known.notes m.cells (length m.below) m.top.registers m.top.pc (is_from_to (a + 2) (a + 2 + n)) → Fine (turned m a vs)
turned_fine m base a n vs len fits there ways =
    let after : List Datum = spliced m.top.registers (a + 3) vs in
    let lens : length after ≡ length m.top.registers = length-spliced m.top.registers (a + 3) vs in
    let base1 : Base m.top.function m.top.cells after m.top.landing m.below m.cells m.closures = base_registers m.top.function m.top.cells m.top.registers after m.top.landing m.below m.cells m.closures base lens in
    let third = get_some after (a + 3) (omega arith) in
    let second = get_some after (a + 2) (omega arith) in
    check_fine _ _ (has_them m (a + 3) (length vs) (λ some. omega arith)) (
    need_fine (register (with_registers m after) (a + 3)) third.0 _ third.1 (
    cond_fine (is_nil third.0) _ _ (
    branch_fine (with_registers m after) (base_registers m.top.function m.top.cells m.top.registers after m.top.landing m.below m.cells m.closures base lens) nothing (branches_written m.top.function base.known.notes m.cells (length m.below) m.top.registers m.top.pc (is_from_to (a + 2) (a + 2 + n)) after ways lens (turned_same m.top.registers a n vs len)) false) (
    need_fine (register (with_registers m after) (a + 2)) second.0 _ second.1 (
    branch_fine (with_registers m (slice_set after (a + 2) third.0)) (base_registers m.top.function m.top.cells m.top.registers (slice_set after (a + 2) third.0) m.top.landing m.below m.cells m.closures base (length-set after (a + 2) third.0 ∙ lens)) nothing (branches_written m.top.function base.known.notes m.cells (length m.below) m.top.registers m.top.pc (is_from_to (a + 2) (a + 2 + n)) (slice_set after (a + 2) third.0) ways (length-set after (a + 2) third.0 ∙ lens) (λ r e. set_other after (a + 2) r third.0 (λ h. not_from_to (a + 2) (a + 2 + n) r e (omega arith) (omega arith)) ∙ turned_same m.top.registers a n vs len r e)) true))))

-- results land in a frame that awaits them
pub land_fine : (landing : Landing) (m : State) (base : BaseOf m) → Awaits m.top.function base.known.notes m.cells (length m.below) m.top.registers m.top.pc landing → (vs : List Datum) → Fine (land landing m vs)
land_fine (into a) m base awaits vs = set_fine m base a (first_of vs) awaits.0 awaits.1
land_fine (test a negated) m base awaits vs = branch_fine m base nothing awaits _
land_fine (pairs a first n) m base awaits vs = join_fine n m base a first awaits.0 awaits.1 awaits.2 (first_of vs)
land_fine (fixed a n) m base awaits vs = set_all_fine m base a n (adjusted n vs) (length-adjusted n vs) awaits.0 awaits.1
land_fine (open_at a) m base awaits vs = record { base = base; ready = awaits.1 }
land_fine (turn a n) m base awaits vs = turned_fine m base a n (adjusted n vs) (length-adjusted n vs) awaits.0 awaits.1 awaits.2
land_fine nowhere m base awaits vs = record {
  base = base;
  ready = arrival_any m.top.function base.known.notes m.cells (length m.below) m.top.registers m.top.pc nothing (left_of m.top.results) awaits;
}

-- a call whose results the running frame awaits
pub call_fine : (landing : Landing) (m : State) (base : BaseOf m) → Awaits m.top.function base.known.notes m.cells (length m.below) m.top.registers m.top.pc landing → (f : Datum) (args : List Datum) → Fine (call landing m f args)
call_fine landing m base awaits f args =
    call_by_fine m base (push landing (land landing)) (land landing) (λ p c x e xs. push_fine m base landing (land landing) p (λ vs. land_fine landing m base awaits vs) awaits x (base.closures_are c x e) xs) (λ store outside vs. land_fine landing (record m { store = store; outside = outside }) base awaits vs) f args

-- fewer registers are written
pub arrival_less : (f : Chunk) (notes : Notes) (cells : List Cell) (k : ℕ) (registers : List Datum) (pc : ℕ) (written fewer : Registers) (left : Option ℕ) → ((r : ℕ) → written r ≡ false → fewer r ≡ false) → Arrival f notes cells k registers pc written left → Arrival f notes cells k registers pc fewer left
arrival_less f notes cells k registers pc written fewer left less a = record {
  place = a.place;
  note = a.note;
  noted = a.noted;
  holds = a.holds;
  spared = λ x r l low high. less r (a.spared x r l low high);
  met = a.met;
}

-- some registers are written, and others are still to be
pub arrival_part : (f : Chunk) (notes : Notes) (cells : List Cell) (k : ℕ) (registers : List Datum) (pc : ℕ) (written rest : Registers) (left : Option ℕ) (after : List Datum) → Arrival f notes cells k registers pc written left → length after ≡ length registers → ((r : ℕ) → written r ≡ false → slice_get after r ≡ slice_get registers r) → ((r : ℕ) → written r ≡ false → rest r ≡ false) → Arrival f notes cells k after pc rest left
arrival_part f notes cells k registers pc written rest left after a len same less = record {
  place = a.place;
  note = a.note;
  noted = a.noted;
  holds = record {
    captured = a.holds.captured;
    numbers = λ x r l low high. let n = a.holds.numbers x r l low high in (n.0, same r (a.spared x r l low high) ∙ n.1);
    alone = a.holds.alone;
  };
  spared = λ x r l low high. less r (a.spared x r l low high);
  met = subst (λ size. Met size (wanted_at f pc) left) (sym len) a.met;
}

-- a number is written over one
pub arrival_number : (f : Chunk) (notes : Notes) (cells : List Cell) (k : ℕ) (registers : List Datum) (pc : ℕ) (written : Registers) (left : Option ℕ) (a : ℕ) (n : ℤ) → a < length registers → Arrival f notes cells k registers pc written left → Arrival f notes cells k (slice_set registers a (number n)) pc written left
arrival_number f notes cells k registers pc written left a n there arrival = record {
  place = arrival.place;
  note = arrival.note;
  noted = arrival.noted;
  holds = record {
    captured = arrival.holds.captured;
    numbers = λ x r l low high. go r (a == r) refl (arrival.holds.numbers x r l low high);
    alone = arrival.holds.alone;
  };
  spared = arrival.spared;
  met = subst (λ size. Met size (wanted_at f pc) left) (sym (length-set registers a (number n))) arrival.met;
}
  where
    go : (r : ℕ) (b : Bool) → (a == r) ≡ b → IsNumber registers r → IsNumber (slice_set registers a (number n)) r
    go r true same is = (n, ap (λ x. slice_get (slice_set registers a (number n)) x) (sym (eqb-true a r same)) ∙ set_same registers a (number n) there)
    go r false differ is = (is.0, set_other registers a r (number n) (not_eqb a r differ) ∙ is.1)
