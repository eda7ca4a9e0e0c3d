-- To be believed. Words that take no memory, at a state.
use Rattle.std.specs.Prelude.{◌≡◌, ◌≤◌, false, ℕ, suc, ◌+◌, ℤ, List, None, Some, Ok}
use Rattle.opcode.specs.declared.op.Op.{Op}
use Rattle.opcode.specs.declared.word.Instr.{Instr}
use Rattle.proto.specs.Chunk.{Chunk}
use Rattle.lua_num.specs.declared.arith.ArithOp.{ArithOp}
use Rattle.lua_num.specs.Arith.{outcome}
use Rattle.lua_model.specs.Datum.{Datum, number, table, is_nil}
use Rattle.lua_model.specs.Store.{Event, Host, raw_get}
use Rattle.lua_model.specs.Acts.{value}
use Rattle.lua_model.specs.Operators.{index}
use Rattle.rules.specs.State.{State, register, operand, at_pc}
use Rattle.rules.specs.Step.{loop_number}
use Rattle.rules.specs.Run.{Going, current, ran}
use Rattle.machine.specs.Outside.{replies_in}

abbrev pub HasNumber : State → ℕ → Type 0
HasNumber m r = loop_number m r ≡ None → ⊥

-- the initial value, the limit and the step of a loop are numbers
abbrev pub AreLoopNumbers : State → Instr → Type 0
AreLoopNumbers m i = HasNumber m i.a × HasNumber m (i.a + 1) × HasNumber m (i.a + 2)

-- the operands are these numbers
abbrev pub AreNumbers : State → Instr → ℤ → ℤ → Type 0
AreNumbers m i x y = (operand m i.b ≡ Some (number x)) × (operand m i.c ≡ Some (number y))

-- two numbers are computed with, which does not fail
abbrev pub Computes : ArithOp → State → Instr → Type 0
Computes op m i = (x y n : ℤ) × AreNumbers m i x y × (outcome op x y ≡ Ok n)

abbrev pub Compares : State → Instr → Type 0
Compares m i = (x y : ℤ) × AreNumbers m i x y

-- what is read is a value, with no function asked
abbrev pub Reads : State → Instr → Type 0
Reads m i = (on key v : Datum) × (register m i.b ≡ Some on) × (operand m i.c ≡ Some key) × (index m.store on key ≡ value v)

-- an entry of a table that is there is written
abbrev pub Rewrites : State → Instr → Type 0
Rewrites m i = (t : ℕ) × (key v : Datum) × (register m i.a ≡ Some (table t)) × (operand m i.b ≡ Some key) × (operand m i.c ≡ Some v) × (is_nil key ≡ false) × (is_nil (raw_get m.store t key) ≡ false)

abbrev pub NeedsNone : Op → State → Instr → Type 0
NeedsNone Op.Move m i = Unit {0}
NeedsNone Op.LoadK m i = Unit {0}
NeedsNone Op.LoadBool m i = Unit {0}
NeedsNone Op.LoadNil m i = Unit {0}
NeedsNone Op.GetUpval m i = Unit {0}
NeedsNone Op.SetUpval m i = Unit {0}
NeedsNone Op.GetGlobal m i = Unit {0}
NeedsNone Op.GetTable m i = Reads m i
NeedsNone Op.SetTable m i = Rewrites m i
NeedsNone Op.Self_ m i = (256 ≤ i.c) × Reads m i
NeedsNone Op.Not m i = Unit {0}
NeedsNone Op.Jmp m i = Unit {0}
NeedsNone Op.Test m i = Unit {0}
NeedsNone Op.TestSet m i = Unit {0}
NeedsNone Op.Close m i = Unit {0}
NeedsNone Op.ForLoop m i = Unit {0}
NeedsNone Op.ForPrep m i = AreLoopNumbers m i
NeedsNone Op.Add m i = Computes ArithOp.Add m i
NeedsNone Op.Sub m i = Computes ArithOp.Sub m i
NeedsNone Op.Mul m i = Computes ArithOp.Mul m i
NeedsNone Op.Div m i = Computes ArithOp.Div m i
NeedsNone Op.Mod m i = Computes ArithOp.Rem m i
NeedsNone Op.Pow m i = Computes ArithOp.Pow m i
NeedsNone Op.Eq m i = Compares m i
NeedsNone Op.Lt m i = Compares m i
NeedsNone Op.Le m i = Compares m i
NeedsNone _ m i = ⊥

-- the word that is done next is such a word
abbrev pub NeedsNoneNext : State → Type 0
NeedsNoneNext m = (i : Instr) × (current m ≡ Some i) × NeedsNone i.op (at_pc m (suc m.top.pc)) i

-- the run of a chunk with these hosts, in which these events happened, is before such a word after n steps
abbrev pub IsBeforeSuch : Chunk → List Host → List Event → ℕ → Type 0
IsBeforeSuch c hosts events n = (m : State) × (ran c hosts (replies_in events) n ≡ Going m) × NeedsNoneNext m
