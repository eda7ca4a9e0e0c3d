-- SELF, as the read of a method behind the object's move.
use Rattle.std.proofs.Common.{◌≡◌, ◌∙◌, ◌+◌, ◌-◌, ◌<◌, ◌≤◌, ℕ, suc, false, List, length, Option, Some, ap, sym, arith, rules}
use Rattle.std.specs.Prelude.{slice_set, nat_lt, if◌then◌else◌}
use Rattle.std.proofs.lemmas.List.{map-set}
use Rattle.opcode.specs.declared.op.Op.TheVariants as op
use Rattle.opcode.specs.declared.word.Instr.{Instr}
use Rattle.lua_model.specs.declared.Value.{Value}
use Rattle.lua_model.specs.Datum.{Datum}
use Rattle.lua_model.specs.Operators.{index}
use Rattle.lua_heap.specs.State.{HeapState, datum}
use Rattle.rules.specs.State.{State, Effect, need, register, constant, operand, with_registers}
use Rattle.rules.specs.Step.{give, effect}
use Rattle.machine.specs.Frames.{showing}
use Rattle.machine.proofs.Showing.{one_need, there}

-- the read of this value under the operand C
abbrev pub method_of : Datum → Instr → State → Effect
method_of on i s = need (operand s i.c) (λ key. give s i.a (index s.store on key))

-- SELF, by the register of its object
abbrev selfed : State → Instr → ℕ → Effect
selfed s i r =
    need (register s i.b) (λ on. need (register s r) (λ before. method_of on i (with_registers s (slice_set s.top.registers r on))))

pub self_is : (m : State) (h : HeapState) (values : List Value) (i : Instr) (object : Value) → i.a + 1 < length values → register (showing m h values) i.b ≡ Some (datum h object) → effect op.Self_ (showing m h values) i ≡ method_of (datum h object) i (showing m h (slice_set values (i.a + 1) object))
self_is m h values i object within is =
    let s = showing m h values in
    let on = datum h object in
    let behind : suc i.a ≡ i.a + 1 = omega arith in
    ap (selfed s i) behind
    ∙ one_need (register s i.b) on (λ on. need (register s (i.a + 1)) (λ before. method_of on i (with_registers s (slice_set s.top.registers (i.a + 1) on)))) is
    ∙ ap (λ (o : Option Datum). need o (λ before. method_of on i (with_registers s (slice_set s.top.registers (i.a + 1) on)))) (there m h values (i.a + 1) within).1
    ∙ ap (λ ds. method_of on i (with_registers s ds)) (sym (map-set (datum h) values (i.a + 1) object))

-- an operand that is a constant
pub constant_operand : (m : State) (x : ℕ) → 256 ≤ x → operand m x ≡ constant m (x - 256)
constant_operand m x from =
    let is : nat_lt x 256 ≡ false = search rules in
    ap (λ b. if b then register m x else constant m (x - 256)) is
