-- A numeric `for` over the registers of the running frame: its start and its turns.
use Rattle.std.proofs.Common.{◌≡◌, ℕ, ◌+◌, ◌<◌, List, length, map, get_or, Bool, true, Option, Some, None, refl, sym, ap, subst, ◌∙◌, length-set, arith}
use Rattle.std.specs.Prelude.{ℤ, pos, ◌+ℤ◌, ◌-ℤ◌, slice_get, slice_set, option_map, option_and_then}
use Rattle.std.proofs.lemmas.Option.{slice_get-map, slice_get-get_or}
use Rattle.std.proofs.lemmas.List.{map-set, length-map}
use Rattle.std.proofs.lemmas.List.Elements.{All-set}
use Rattle.opcode.specs.declared.op.Op.TheVariants as op
use Rattle.opcode.specs.declared.word.Instr.{Instr}
use Rattle.lua_num.specs.Arith.{wrap}
use Rattle.lua_model.specs.declared.Value.{Value}
use Rattle.lua_model.specs.declared.Value.TheVariants.{Nil, Bool as Boolean, Number, Text as TextValue, Table as TableValue, Closure as ClosureValue, Native, Host as HostValue}
use Rattle.lua_model.specs.Datum.{Datum, nil, number}
use Rattle.lua_model.specs.Operators.{goes_on, counts, loop_numbers}
use Rattle.lua_heap.specs.State.{HeapState, datum, IsOf, AreOf}
use Rattle.rules.specs.State.{State, Effect, Goes, need, at_pc, register, with_registers}
use Rattle.rules.specs.Places.{as_pc}
use Rattle.rules.specs.Calls.{jump}
use Rattle.rules.specs.Step.{effect, loop_number, turn_loop, three, prepare, number_of as number_of_datum}
use Rattle.machine.specs.Frames.{data_of, showing}
use Rattle.machine.specs.Words.{number_of, number_at, loop_numbers_in}
use Rattle.machine.proofs.Showing.{there, three_needs}

number_is : (h : HeapState) (v : Value) → number_of_datum (datum h v) ≡ number_of v
number_is h Nil = refl
number_is h (Boolean b) = refl
number_is h (Number n) = refl
number_is h (TextValue t) = refl
number_is h (TableValue t) = refl
number_is h (ClosureValue c) = refl
number_is h (Native n) = refl
number_is h (HostValue k) = refl

number_in : (h : HeapState) (o : Option Value) → option_and_then number_of_datum (option_map (datum h) o) ≡ option_and_then number_of o
number_in h None = refl
number_in h (Some v) = number_is h v

loop_number_is : (m : State) (h : HeapState) (values : List Value) (r : ℕ) (n : ℤ) → number_at values r ≡ Some n → loop_number (showing m h values) r ≡ Some n
loop_number_is m h values r n e =
    ap (option_and_then number_of_datum) (slice_get-map (datum h) values r) ∙ number_in h (slice_get values r) ∙ e

three_numbers : (o p q : Option ℤ) (x y z : ℤ) (next : ℤ → ℤ → ℤ → Effect) → o ≡ Some x → p ≡ Some y → q ≡ Some z → need o (λ x. need p (λ y. need q (λ z. next x y z))) ≡ next x y z
three_numbers o p q x y z next e f g i = need (e i) (λ x. need (f i) (λ y. need (g i) (λ z. next x y z)))

-- the state with a number in a register
with_number : (m : State) (h : HeapState) (values : List Value) (a : ℕ) (n : ℤ) → with_registers (showing m h values) (slice_set (map (datum h) values) a (number n)) ≡ showing m h (slice_set values a (Number n))
with_number m h values a n = ap (λ ds. with_registers (showing m h values) ds) (sym (map-set (datum h) values a (Number n)))

abbrev pub turned : State → Instr → ℤ → ℤ → Bool → Effect
turned s i now step goes = turn_loop (with_registers s (slice_set s.top.registers i.a (number now))) i now goes

-- FORLOOP up to whether the loop goes on
pub counted : (m : State) (h : HeapState) (values : List Value) (i : Instr) (first limit step now : ℤ) (goes : Bool) → number_at values i.a ≡ Some first → number_at values (i.a + 1) ≡ Some limit → number_at values (i.a + 2) ≡ Some step → now ≡ wrap (first +ℤ step) → goes ≡ goes_on now limit step → effect op.ForLoop (showing m h values) i ≡ turn_loop (showing m h (slice_set values i.a (Number now))) i now goes
counted m h values i first limit step now goes a b c is does =
    let s = showing m h values in
    three_numbers (loop_number s i.a) (loop_number s (i.a + 1)) (loop_number s (i.a + 2)) first limit step (λ first limit step. turned s i (wrap (first +ℤ step)) step (goes_on (wrap (first +ℤ step)) limit step)) (loop_number_is m h values i.a first a) (loop_number_is m h values (i.a + 1) limit b) (loop_number_is m h values (i.a + 2) step c)
    ∙ ap (λ now. turned s i now step (goes_on now limit step)) (sym is)
    ∙ ap (turned s i now step) (sym does)
    ∙ ap (λ t. turn_loop t i now goes) (with_number m h values i.a now)

pub jumps : (m : State) (s : ℤ) (pc to : ℕ) → m.top.pc ≡ pc → as_pc (pos pc +ℤ s) ≡ Some to → jump m s ≡ Goes (at_pc m to)
jumps m s pc to is goes = ap (λ p. need (as_pc (pos p +ℤ s)) (λ p. Goes (at_pc m p))) is ∙ ap (λ o. need o (λ p. Goes (at_pc m p))) goes

pub goes_round : (m : State) (h : HeapState) (values : List Value) (i : Instr) (now : ℤ) (pc to : ℕ) → i.a + 3 < length values → m.top.pc ≡ pc → as_pc (pos pc +ℤ i.sbx) ≡ Some to → turn_loop (showing m h values) i now true ≡ Goes (at_pc (showing m h (slice_set values (i.a + 3) (Number now))) to)
goes_round m h values i now pc to within is goes =
    let s = showing m h values in
    ap (λ (o : Option Datum). need o (λ old. jump (with_registers s (slice_set s.top.registers (i.a + 3) (number now))) i.sbx)) (there m h values (i.a + 3) within).1
    ∙ ap (λ t. jump t i.sbx) (with_number m h values (i.a + 3) now)
    ∙ jumps (showing m h (slice_set values (i.a + 3) (Number now))) i.sbx pc to is goes

-- ---- FORPREP

register_or_nil : (m : State) (h : HeapState) (values : List Value) (r : ℕ) → r < length values → register (showing m h values) r ≡ Some (get_or (data_of h values) r nil)
register_or_nil m h values r within = slice_get-get_or (data_of h values) r nil (subst (λ n. r < n) (sym (length-map values (datum h))) within)

pub prepares : (m : State) (h : HeapState) (values : List Value) (i : Instr) → i.a + 2 < length values → effect op.ForPrep (showing m h values) i ≡ prepare (showing m h values) i (loop_numbers_in h values i.a)
prepares m h values i within =
    let s = showing m h values in
    let ds = data_of h values in
    three_needs (register s i.a) (register s (i.a + 1)) (register s (i.a + 2)) (get_or ds i.a nil) (get_or ds (i.a + 1) nil) (get_or ds (i.a + 2) nil) (λ first limit step. prepare s i (loop_numbers first limit step)) (register_or_nil m h values i.a (omega (arith, within))) (register_or_nil m h values (i.a + 1) (omega (arith, within))) (register_or_nil m h values (i.a + 2) within)

abbrev pub three_numbers_in : List Value → ℕ → ℤ → ℤ → ℤ → List Value
three_numbers_in values a x y z = slice_set (slice_set (slice_set values a (Number x)) (a + 1) (Number y)) (a + 2) (Number z)

pub prepared : (m : State) (h : HeapState) (values : List Value) (i : Instr) (first limit step now : ℤ) (pc to : ℕ) → now ≡ wrap (first -ℤ step) → m.top.pc ≡ pc → as_pc (pos pc +ℤ i.sbx) ≡ Some to → prepare (showing m h values) i (counts first limit step) ≡ Goes (at_pc (showing m h (three_numbers_in values i.a now limit step)) to)
prepared m h values i first limit step now pc to is at goes =
    let s = showing m h values in
    ap (λ n. jump (with_registers s (three s.top.registers i.a n limit step)) i.sbx) (sym is)
    ∙ ap (λ ds. jump (with_registers s ds) i.sbx) (sym same)
    ∙ jumps (showing m h (three_numbers_in values i.a now limit step)) i.sbx pc to at goes
  where
    same : data_of h (slice_set (slice_set (slice_set values i.a (Number now)) (i.a + 1) (Number limit)) (i.a + 2) (Number step)) ≡ three (data_of h values) i.a now limit step
    same =
        map-set (datum h) (slice_set (slice_set values i.a (Number now)) (i.a + 1) (Number limit)) (i.a + 2) (Number step)
        ∙ ap (λ ds. slice_set ds (i.a + 2) (number step)) (map-set (datum h) (slice_set values i.a (Number now)) (i.a + 1) (Number limit) ∙ ap (λ ds. slice_set ds (i.a + 1) (number limit)) (map-set (datum h) values i.a (Number now)))

pub three_known : (h : HeapState) (values : List Value) (a : ℕ) (x y z : ℤ) → AreOf h values → AreOf h (three_numbers_in values a x y z)
three_known h values a x y z known =
    let one = slice_set values a (Number x) in
    let two = slice_set one (a + 1) (Number y) in
    All-set (IsOf h) two (a + 2) (Number z) tt (All-set (IsOf h) one (a + 1) (Number y) tt (All-set (IsOf h) values a (Number x) tt known))

pub length-three : (values : List Value) (a : ℕ) (x y z : ℤ) → length (three_numbers_in values a x y z) ≡ length values
length-three values a x y z =
    let one = slice_set values a (Number x) in
    let two = slice_set one (a + 1) (Number y) in
    length-set two (a + 2) (Number z) ∙ length-set one (a + 1) (Number y) ∙ length-set values a (Number x)
