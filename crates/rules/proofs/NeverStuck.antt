-- The run of a sound chunk is never stuck.
use Rattle.std.proofs.Common.{◌∷◌, ◌≡◌, ℕ, zero, suc, ◌<◌, ◌≤◌, ℤ, true, false, cond, not, List, [], length, None, Some, refl, ap, subst, ◌∙◌, true≢false, arith, ltb-true, ltb-false}
use Rattle.std.specs.Prelude.{Option, slice_get, option_and_then}
use Rattle.opcode.specs.declared.op.Op.{Op}
use Rattle.opcode.specs.declared.word.Instr.{Instr}
use Rattle.proto.specs.Chunk.{Chunk, function, own}
use Rattle.lua_num.specs.declared.arith.ArithOp.{ArithOp}
use Rattle.lua_num.specs.declared.arith.CompareOp.{CompareOp}
use Rattle.lua_model.specs.Store.{Store, Host, Reply}
use Rattle.lua_model.specs.Builtins.{start as first_store}
use Rattle.rules.specs.declared.rule.Rule.{Rule}
use Rattle.opcode.specs.Reading.{instr_of}
use Rattle.rules.specs.Words.{instr_at}
use Rattle.rules.specs.Places.{is_place, is_further}
use Rattle.rules.specs.Breaks.{wants, word_breaks, place_breaks}
use Rattle.rules.specs.Sound.{Sound}
use Rattle.rules.specs.State.{Landing, nowhere, Frame, Closure, State, Effect, Goes, Fails, Ends, Waits, IsStuck, at_pc}
use Rattle.rules.specs.Cells.{close_from}
use Rattle.lua_model.specs.Datum.{Datum}
use Rattle.rules.specs.Calls.{broke, give_to}
use Rattle.rules.specs.Step.{effect}
use Rattle.rules.specs.Run.{Conf, Going, Ended, Failed, Waiting, Stuck, settled, unwind, after, current, step, run, first_state, start, ran, IsNotStuck}
use Rattle.rules.proofs.Lists.{get_some, none_some, and_first, and_second, and_not, not_true, length-adjusted, or_first_false, or_second_false}
use Rattle.rules.proofs.Invariant.{IsOpen, Known, Met, AreAwaiting, IsClosure, HasRegister, BaseOf, left_of, Inv, Fine}
use Rattle.rules.proofs.Starting.{known_of, shape_of}
use Rattle.rules.proofs.Landing.{need_fine, begin_fine}
use Rattle.rules.proofs.Closing.{base_awaiting, base_closed, opens_below, give_fine}
use Rattle.rules.proofs.Words.{word, DoingOf, m, arith_fine, call_word_fine, close_fine, compare_fine, concat_fine, forloop_fine, forprep_fine, getglobal_fine, gettable_fine, getupval_fine, jmp_fine, len_fine, loadbool_fine, loadk_fine, loadnil_fine, move_fine, newtable_fine, not_fine, return_fine, self_fine, setglobal_fine, setlist_fine, settable_fine, setupval_fine, step_next, tailcall_fine, test_fine, test_ways_of, testset_fine, tforloop_fine, unm_fine, vararg_fine}
use Rattle.rules.proofs.Closures.{closure_fine}

words_fine : (m0 : State) (base : BaseOf m0) (op : Op) (a b c bx : ℕ) (sbx : ℤ) → DoingOf m0 base (word op a b c bx sbx) → Met (length m0.top.registers) (wants op (word op a b c bx sbx)) (left_of m0.top.results) → Fine (effect op (m m0 base) (word op a b c bx sbx))
words_fine m0 base Op.Move a b c bx sbx d met = move_fine m0 base a b c bx sbx d
words_fine m0 base Op.LoadK a b c bx sbx d met = loadk_fine m0 base a b c bx sbx d
words_fine m0 base Op.LoadBool a b c bx sbx d met = loadbool_fine m0 base a b c bx sbx d
words_fine m0 base Op.LoadNil a b c bx sbx d met = loadnil_fine m0 base a b c bx sbx d
words_fine m0 base Op.GetUpval a b c bx sbx d met = getupval_fine m0 base a b c bx sbx d
words_fine m0 base Op.GetGlobal a b c bx sbx d met = getglobal_fine m0 base a b c bx sbx d
words_fine m0 base Op.GetTable a b c bx sbx d met = gettable_fine m0 base a b c bx sbx d
words_fine m0 base Op.SetGlobal a b c bx sbx d met = setglobal_fine m0 base a b c bx sbx d
words_fine m0 base Op.SetUpval a b c bx sbx d met = setupval_fine m0 base a b c bx sbx d
words_fine m0 base Op.SetTable a b c bx sbx d met = settable_fine m0 base a b c bx sbx d
words_fine m0 base Op.NewTable a b c bx sbx d met = newtable_fine m0 base a b c bx sbx d
words_fine m0 base Op.Self_ a b c bx sbx d met = self_fine m0 base a b c bx sbx d
words_fine m0 base Op.Add a b c bx sbx d met = arith_fine m0 base ArithOp.Add Op.Add a b c bx sbx d refl refl refl (step_next m0 base (word Op.Add a b c bx sbx) d (λ r. refl) (λ x. refl) refl refl refl refl)
words_fine m0 base Op.Sub a b c bx sbx d met = arith_fine m0 base ArithOp.Sub Op.Sub a b c bx sbx d refl refl refl (step_next m0 base (word Op.Sub a b c bx sbx) d (λ r. refl) (λ x. refl) refl refl refl refl)
words_fine m0 base Op.Mul a b c bx sbx d met = arith_fine m0 base ArithOp.Mul Op.Mul a b c bx sbx d refl refl refl (step_next m0 base (word Op.Mul a b c bx sbx) d (λ r. refl) (λ x. refl) refl refl refl refl)
words_fine m0 base Op.Div a b c bx sbx d met = arith_fine m0 base ArithOp.Div Op.Div a b c bx sbx d refl refl refl (step_next m0 base (word Op.Div a b c bx sbx) d (λ r. refl) (λ x. refl) refl refl refl refl)
words_fine m0 base Op.Mod a b c bx sbx d met = arith_fine m0 base ArithOp.Rem Op.Mod a b c bx sbx d refl refl refl (step_next m0 base (word Op.Mod a b c bx sbx) d (λ r. refl) (λ x. refl) refl refl refl refl)
words_fine m0 base Op.Pow a b c bx sbx d met = arith_fine m0 base ArithOp.Pow Op.Pow a b c bx sbx d refl refl refl (step_next m0 base (word Op.Pow a b c bx sbx) d (λ r. refl) (λ x. refl) refl refl refl refl)
words_fine m0 base Op.Unm a b c bx sbx d met = unm_fine m0 base a b c bx sbx d
words_fine m0 base Op.Not a b c bx sbx d met = not_fine m0 base a b c bx sbx d
words_fine m0 base Op.Len a b c bx sbx d met = len_fine m0 base a b c bx sbx d
words_fine m0 base Op.Concat a b c bx sbx d met = concat_fine m0 base a b c bx sbx d
words_fine m0 base Op.Jmp a b c bx sbx d met = jmp_fine m0 base a b c bx sbx d
words_fine m0 base Op.Eq a b c bx sbx d met = compare_fine m0 base CompareOp.Eq Op.Eq a b c bx sbx d refl refl (test_ways_of m0 base (word Op.Eq a b c bx sbx) d (λ r. refl) (λ x. refl) refl refl refl refl)
words_fine m0 base Op.Lt a b c bx sbx d met = compare_fine m0 base CompareOp.Lt Op.Lt a b c bx sbx d refl refl (test_ways_of m0 base (word Op.Lt a b c bx sbx) d (λ r. refl) (λ x. refl) refl refl refl refl)
words_fine m0 base Op.Le a b c bx sbx d met = compare_fine m0 base CompareOp.Le Op.Le a b c bx sbx d refl refl (test_ways_of m0 base (word Op.Le a b c bx sbx) d (λ r. refl) (λ x. refl) refl refl refl refl)
words_fine m0 base Op.Test a b c bx sbx d met = test_fine m0 base a b c bx sbx d
words_fine m0 base Op.TestSet a b c bx sbx d met = testset_fine m0 base a b c bx sbx d
words_fine m0 base Op.Call a b c bx sbx d met = call_word_fine m0 base a b c bx sbx d met
words_fine m0 base Op.TailCall a b c bx sbx d met = tailcall_fine m0 base a b c bx sbx d met
words_fine m0 base Op.Return a b c bx sbx d met = return_fine m0 base a b c bx sbx d met
words_fine m0 base Op.ForLoop a b c bx sbx d met = forloop_fine m0 base a b c bx sbx d
words_fine m0 base Op.ForPrep a b c bx sbx d met = forprep_fine m0 base a b c bx sbx d
words_fine m0 base Op.TForLoop a b c bx sbx d met = tforloop_fine m0 base a b c bx sbx d
words_fine m0 base Op.SetList a b c bx sbx d met = setlist_fine m0 base a b c bx sbx d met
words_fine m0 base Op.Close a b c bx sbx d met = close_fine m0 base a b c bx sbx d
words_fine m0 base Op.Closure a b c bx sbx d met = closure_fine m0 base a b c bx sbx d
words_fine m0 base Op.Vararg a b c bx sbx d met = vararg_fine m0 base a b c bx sbx d

-- there is an instruction at each place of a sound function
pub has_instr : (f : Chunk) (known : Known f) (pc : ℕ) → is_place f (Some pc) ≡ true → (i : Instr) × (instr_at f pc ≡ Some i)
has_instr f known pc place =
    let low : pc < length (own f).code = ltb-true _ _ (and_first _ _ place) in
    let solid : is_further f pc ≡ false = not_true _ (and_second _ _ place) in
    let w = get_some (own f).code pc low in
    let good : place_breaks f (known.notes pc) pc (slice_get (own f).code pc) Rule.BadWord ≡ false = and_not _ _ (known.noted.keeps pc Rule.BadWord) (ap not solid) in
    let i = go (instr_of w.0) (subst (λ o. place_breaks f (known.notes pc) pc o Rule.BadWord ≡ false) w.1 good) in
    (i.0, ap (λ o. option_and_then instr_of o) w.1 ∙ i.1)
  where
    go : (o : Option Instr) → word_breaks f (known.notes pc) pc o Rule.BadWord ≡ false → (i : Instr) × (o ≡ Some i)
    go None e = absurd (true≢false e)
    go (Some i) e = (i, refl)

-- a result of a run that is not stuck, and whose state is as it should be
abbrev pub IsFine : Conf → Type 0
IsFine (Going s) = Inv s
IsFine (Ended store outside) = Unit {0}
IsFine (Failed text store outside) = Unit {0}
IsFine (Waiting s) = Unit {0}
IsFine Stuck = ⊥

settled_fine : (s : State) (fail : State → Datum → Conf) (e : Effect) → ((at : State) (v : Datum) → BaseOf at → IsFine (fail at v)) → Fine e → IsFine (settled s fail e)
settled_fine s fail (Goes next) fails fine = fine
settled_fine s fail (Fails at v) fails fine = fails at v fine
settled_fine s fail (Ends at) fails fine = tt
settled_fine s fail Waits fails fine = tt
settled_fine s fail IsStuck fails fine = fine

-- the topmost of these frames, in this state, is as it should be
abbrev BaseIn : List Frame → State → Type 0
BaseIn [] at = Unit {0}
BaseIn (x ∷ below) at = BaseOf (record at { top = x; below = below })

base_in : (below : List Frame) (m : State) (landing : Landing) → AreAwaiting m.cells landing below → ((n : ℕ) (c : Closure) → slice_get m.closures n ≡ Some c → IsClosure m.cells c) → ((k r : ℕ) → IsOpen m.cells k r → HasRegister below k r) → BaseIn below m
base_in [] m landing are closures opens = tt
base_in (x ∷ below) m landing are closures opens = base_awaiting x below m landing are closures opens

unwind_fine : (s : State) (frames : List Frame) (at : State) → BaseIn frames at → (v : Datum) → IsFine (unwind s frames at v)
unwind_fine s [] at base v = tt
unwind_fine s (x ∷ below) at base v =
    let m1 : State = record at { top = x; below = below } in
    let closed : BaseOf (close_from m1 0) = base_closed m1 0 base in
    let opens : (k r : ℕ) → IsOpen (close_from m1 0).cells k r → HasRegister below k r = opens_below m1 base in
    let rest : BaseIn below (close_from m1 0) = base_in below (close_from m1 0) x.landing closed.waiting closed.closures_are opens in
    elim x.protections as (λ q. IsFine (elim q [ zero ↦ unwind s below (close_from m1 0) v | suc p ↦ settled s (λ at1 v1. unwind s below (record (close_from m1 0) { store = at1.store; outside = at1.outside }) v1) (give_to below (close_from m1 0) x.landing (broke p v)) ])) [
      | zero ↦ unwind_fine s below (close_from m1 0) rest v
      | suc p ↦ settled_fine s _ _ (λ at1 v1 b1. unwind_fine s below (record (close_from m1 0) { store = at1.store; outside = at1.outside }) (base_in below (record (close_from m1 0) { store = at1.store; outside = at1.outside }) x.landing closed.waiting closed.closures_are opens) v1) (give_fine below (close_from m1 0) x.landing _ closed.waiting closed.closures_are opens)
    ]

after_fine : (s : State) (e : Effect) → Fine e → IsFine (after s e)
after_fine s e fine = settled_fine s _ e (λ at v base. unwind_fine s (at.top ∷ at.below) at base v) fine

pub step_fine : (s : State) → Inv s → IsFine (step s)
step_fine s inv =
    let solid : is_further s.top.function s.top.pc ≡ false = not_true _ (and_second _ _ inv.ready.place) in
    let i = has_instr s.top.function inv.base.known s.top.pc inv.ready.place in
    let here : current s ≡ Some i.0 = ap (λ b. cond b None (instr_at s.top.function s.top.pc)) solid ∙ i.1 in
    let d : DoingOf s inv.base i.0 = record { solid = solid; at = i.1; note = inv.ready.note; noted = inv.ready.noted; holds = inv.ready.holds } in
    let met : Met (length s.top.registers) (wants i.0.op i.0) (left_of s.top.results) = subst (λ o. Met (length s.top.registers) (option_and_then (λ j. wants j.op j) o) (left_of s.top.results)) i.1 inv.ready.met in
    after_fine s _ (need_fine (current s) i.0 (λ j. effect j.op (at_pc s (suc s.top.pc)) j) here (words_fine s inv.base i.0.op i.0.a i.0.b i.0.c i.0.bx i.0.sbx d met))

run_fine : (n : ℕ) (c : Conf) → IsFine c → IsFine (run n c)
run_fine zero c fine = fine
run_fine (suc n) (Going s) fine = run_fine n (step s) (step_fine s fine)
run_fine (suc n) (Ended store outside) fine = tt
run_fine (suc n) (Failed text store outside) fine = tt
run_fine (suc n) (Waiting s) fine = tt
run_fine (suc n) Stuck fine = fine

-- the main function has no upvalues
no_upvalues : (chunk : Chunk) → Sound chunk → (own chunk).upvalues ≤ 0
no_upvalues (function f inner) sound =
    ltb-false 0 f.upvalues (or_second_false _ _ (or_first_false _ _ (shape_of (function f inner) (known_of (function f inner) true sound))))

pub start_fine : (chunk : Chunk) → Sound chunk → (store : Store) (replies : List Reply) → IsFine (start chunk store replies)
start_fine (function f inner) sound store replies =
    after_fine _ _ (begin_fine (first_state (function f inner) store replies) (record { function = function f inner; cells = [] }) [] nowhere 0 (record {
      known = known_of (function f inner) true sound;
      size = length-adjusted f.registers _;
      counted = let none = no_upvalues (function f inner) sound in omega arith;
      named = λ u c e. none_some c e;
      closures_are = λ n c e. none_some c e;
      opens = λ k r is. none_some _ is.1;
      waiting = tt;
    }) (λ r is. none_some _ is.1))

not_stuck : (c : Conf) → IsFine c → IsNotStuck c
not_stuck (Going s) fine = tt
not_stuck (Ended store outside) fine = tt
not_stuck (Failed text store outside) fine = tt
not_stuck (Waiting s) fine = tt
not_stuck Stuck fine = fine

pub sound_never_stuck : (chunk : Chunk) → Sound chunk → (hosts : List Host) (replies : List Reply) (n : ℕ) → IsNotStuck (ran chunk hosts replies n)
sound_never_stuck chunk sound hosts replies n =
    not_stuck _ (run_fine n (start chunk (first_store hosts) replies) (start_fine chunk sound (first_store hosts) replies))
