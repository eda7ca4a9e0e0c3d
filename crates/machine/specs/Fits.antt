-- Serves the words: what each asks of the frame, as the verifier's rules give it.
use Rattle.std.specs.Prelude.{◌≡◌, ℕ, suc, ◌+◌, ◌-◌, ◌<◌, ◌≤◌, ◌^◌, pos, ◌+ℤ◌, List, length, get_or, Option, None, Some, slice_get, option_and_then, ◌⊎◌}
use Rattle.opcode.specs.Reading.{instr_of}
use Rattle.opcode.specs.declared.op.Op.{Op}
use Rattle.opcode.specs.declared.word.Instr.{Instr}
use Rattle.lua_model.specs.declared.Value.{Value}
use Rattle.rules.specs.Places.{as_pc}
use Rattle.machine.specs.declared.function.Function.{Function}
use Rattle.rules.specs.Step.{count_of, list_of}
use Rattle.machine.specs.declared.did.OpenResults.{OpenResults}
use Rattle.machine.specs.Words.{IsOperand, IsName, IsNumber, IsTest, AreThere, AreResultsThere, IsListed}

-- a jump from a pc leads to a pc
pub record Jumps (pc : ℕ) (i : Instr) : Type 0 where
  pub goes : as_pc (pos pc +ℤ i.sbx) ≡ None → ⊥
  pub room : pc < 2 ^ 33

-- of the registers, the function, the pc behind the word and its fields; of words that work on more than the registers nothing
abbrev pub Fits : Op → Function → List Value → ℕ → Instr → Type 0
Fits Op.Move f registers pc i = (i.a < length registers) × (i.b < length registers)
Fits Op.LoadK f registers pc i = (i.a < length registers) × (i.bx < length f.constants.items)
Fits Op.LoadBool f registers pc i = (i.a < length registers) × (pc < 2 ^ 33)
Fits Op.LoadNil f registers pc i = (i.b < 512) × AreThere registers i.a (suc i.b - i.a)
Fits Op.GetGlobal f registers pc i = (i.a < length registers) × IsName f i.bx
Fits Op.GetTable f registers pc i = (i.a < length registers) × (i.b < length registers) × IsOperand f registers i.c
Fits Op.SetGlobal f registers pc i = (i.a < length registers) × IsName f i.bx
Fits Op.SetTable f registers pc i = (i.a < length registers) × IsOperand f registers i.b × IsOperand f registers i.c
Fits Op.NewTable f registers pc i = i.a < length registers
Fits Op.Self_ f registers pc i = (suc i.a < length registers) × (i.b < length registers) × IsOperand f registers i.c
Fits Op.Add f registers pc i = (i.a < length registers) × IsOperand f registers i.b × IsOperand f registers i.c
Fits Op.Sub f registers pc i = (i.a < length registers) × IsOperand f registers i.b × IsOperand f registers i.c
Fits Op.Mul f registers pc i = (i.a < length registers) × IsOperand f registers i.b × IsOperand f registers i.c
Fits Op.Div f registers pc i = (i.a < length registers) × IsOperand f registers i.b × IsOperand f registers i.c
Fits Op.Mod f registers pc i = (i.a < length registers) × IsOperand f registers i.b × IsOperand f registers i.c
Fits Op.Pow f registers pc i = (i.a < length registers) × IsOperand f registers i.b × IsOperand f registers i.c
Fits Op.Unm f registers pc i = (i.a < length registers) × (i.b < length registers)
Fits Op.Not f registers pc i = (i.a < length registers) × (i.b < length registers)
Fits Op.Len f registers pc i = (i.a < length registers) × (i.b < length registers)
Fits Op.Concat f registers pc i = (i.a < length registers) × (i.b < i.c) × (i.c < length registers) × (i.c < 512)
Fits Op.Jmp f registers pc i = Jumps pc i
Fits Op.Eq f registers pc i = IsOperand f registers i.b × IsOperand f registers i.c × IsTest f pc
Fits Op.Lt f registers pc i = IsOperand f registers i.b × IsOperand f registers i.c × IsTest f pc
Fits Op.Le f registers pc i = IsOperand f registers i.b × IsOperand f registers i.c × IsTest f pc
Fits Op.Test f registers pc i = (i.a < length registers) × IsTest f pc
Fits Op.TestSet f registers pc i = (i.a < length registers) × (i.b < length registers) × IsTest f pc
Fits Op.ForLoop f registers pc i = (i.a < 256) × IsNumber registers i.a × IsNumber registers (i.a + 1) × IsNumber registers (i.a + 2) × (i.a + 3 < length registers) × Jumps pc i
Fits Op.ForPrep f registers pc i = (i.a < 256) × (i.a + 2 < length registers) × Jumps pc i
Fits Op.TForLoop f registers pc i = (i.a + 3 < length registers) × (i.a + 3 + i.c ≤ length registers) × (i.a < 256) × IsTest f pc
Fits _ f registers pc i = Unit {0}

-- words that work on nothing but the registers, the function and the heap
abbrev pub IsPlain : Op → Type 0
IsPlain Op.GetUpval = ⊥
IsPlain Op.SetUpval = ⊥
IsPlain Op.Call = ⊥
IsPlain Op.TailCall = ⊥
IsPlain Op.Return = ⊥
IsPlain Op.SetList = ⊥
IsPlain Op.Close = ⊥
IsPlain Op.Closure = ⊥
IsPlain Op.Vararg = ⊥
IsPlain _ = Unit {0}

-- words that work on no cells but by calls
abbrev pub IsInner : Op → Type 0
IsInner Op.GetUpval = ⊥
IsInner Op.SetUpval = ⊥
IsInner Op.Close = ⊥
IsInner _ = Unit {0}

-- words that are not always done in place
abbrev pub IsOther : Op → Type 0
IsOther Op.Move = ⊥
IsOther Op.LoadK = ⊥
IsOther Op.LoadBool = ⊥
IsOther Op.LoadNil = ⊥
IsOther Op.GetUpval = ⊥
IsOther Op.SetUpval = ⊥
IsOther Op.GetGlobal = ⊥
IsOther Op.Not = ⊥
IsOther Op.Jmp = ⊥
IsOther Op.Test = ⊥
IsOther Op.TestSet = ⊥
IsOther Op.Close = ⊥
IsOther Op.ForLoop = ⊥
IsOther _ = Unit {0}

-- of words that work on more than the registers: also of the open results, of how many upvalues the function has, and of the word behind
abbrev pub FitsFrame : Op → Function → List Value → Option OpenResults → (cells : ℕ) → ℕ → Instr → Type 0
FitsFrame Op.GetUpval f registers results cells pc i = (i.a < length registers) × (i.b < cells)
FitsFrame Op.SetUpval f registers results cells pc i = (i.a < length registers) × (i.b < cells)
FitsFrame Op.Call f registers results cells pc i = (i.a < length registers) × (i.a < 256) × IsListed registers results (i.a + 1) (count_of i.b) × AreResultsThere registers i.a (count_of i.c)
FitsFrame Op.TailCall f registers results cells pc i = (i.a < length registers) × (i.a < 256) × IsListed registers results (i.a + 1) (count_of i.b)
FitsFrame Op.Return f registers results cells pc i = (i.a < 256) × IsListed registers results i.a (count_of i.b)
FitsFrame Op.SetList f registers results cells pc i = (i.a < length registers) × (i.a < 256) × IsListed registers results (i.a + 1) (list_of i.b) × (i.c ≡ 0 → (pc < length f.code.items) × (0 < get_or f.code.items pc 0))
FitsFrame Op.Close f registers results cells pc i = i.a < length registers
FitsFrame Op.Closure f registers results cells pc i = (i.a < length registers) × (i.bx < length f.inner.items)
FitsFrame Op.Vararg f registers results cells pc i = elim (count_of i.b) [ None ↦ i.a < length registers | Some n ↦ AreThere registers i.a n ]
FitsFrame _ f registers results cells pc i = Unit {0}

-- further words of a CLOSURE, from a pc on: each names a register of the frame, or an upvalue of its function
abbrev pub IsCapture : (registers cells : ℕ) → Option Instr → Type 0
IsCapture registers cells None = ⊥
IsCapture registers cells (Some w) = ((w.op ≡ Op.Move) × (w.b < registers)) ⊎ ((w.op ≡ Op.GetUpval) × (w.b < cells))

abbrev pub AreCaptures : Function → (registers cells pc count : ℕ) → Type 0
AreCaptures f registers cells pc count = (k : ℕ) → k < count → IsCapture registers cells (option_and_then instr_of (slice_get f.code.items (pc + k)))
