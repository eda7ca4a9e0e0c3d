-- To be believed. What a reason tells of the words of a function that are read as no source.
use Rattle.std.specs.Prelude.{◌≡◌, ◌≢◌, ◌⊎◌, ℕ, false, slice_get, Some}
use Rattle.lua_num.specs.Bytes.{Text}
use Rattle.lua_tree.specs.Names.{is_name}
use Rattle.opcode.specs.declared.op.Op.{Op}
use Rattle.opcode.specs.declared.word.Instr.{Instr}
use Rattle.opcode.specs.Reading.{instr_of}
use Rattle.proto.specs.Chunk.{Own}
use Rattle.proto.specs.declared.parts.Constant.{Constant}
use Rattle.proto.specs.declared.parts.LocVar.{LocVar}
use Rattle.recover_expr.specs.declared.fault.Reason.{Reason}
use Rattle.recover_expr.specs.declared.fault.Fault.{Fault}

-- the word at a pc is an instruction of this kind
pub record WordIs (f : Own) (pc : ℕ) (Holds : Instr → Type 0) : Type 0 where
  pub word : ℕ
  pub at : slice_get f.code pc ≡ Some word
  pub instr : Instr
  pub read : instr_of word ≡ Some instr
  pub holds : Holds instr

-- a test, or a LOADBOOL that skips: a value of `and`, `or` or a comparison
abbrev pub IsLogic : Instr → Type 0
IsLogic i = (i.op ≡ Op.Eq) ⊎ (i.op ≡ Op.Lt) ⊎ (i.op ≡ Op.Le) ⊎ (i.op ≡ Op.Test) ⊎ (i.op ≡ Op.TestSet) ⊎ ((i.op ≡ Op.LoadBool) × (i.c ≢ 0))

-- it reads or writes a global or an upvalue whose name is no name
pub record NamesGlobalBadly (f : Own) (i : Instr) : Type 0 where
  pub op_is : (i.op ≡ Op.GetGlobal) ⊎ (i.op ≡ Op.SetGlobal)
  pub name : Text
  pub at : slice_get f.constants i.bx ≡ Some (Constant.Text name)
  pub bad : is_name name ≡ false

pub record NamesUpvalueBadly (f : Own) (i : Instr) : Type 0 where
  pub op_is : (i.op ≡ Op.GetUpval) ⊎ (i.op ≡ Op.SetUpval)
  pub name : Text
  pub at : slice_get f.upvalue_names i.b ≡ Some name
  pub bad : is_name name ≡ false

-- an entry of the locals starts at a pc
pub record StartsAt (f : Own) (pc : ℕ) : Type 0 where
  pub number : ℕ
  pub local : LocVar
  pub at : slice_get f.locals number ≡ Some local
  pub start : local.start ≡ pc

-- what each reason tells of the pc with it
abbrev pub HasReason : Own → ℕ → Reason → Type 0
HasReason f pc Reason.NotScheme = Unit {0}
HasReason f pc Reason.ValueLogic = WordIs f pc IsLogic
HasReason f pc Reason.Locals = StartsAt f pc
HasReason f pc Reason.BadName = WordIs f pc (NamesGlobalBadly f) ⊎ WordIs f pc (NamesUpvalueBadly f)

abbrev pub HasFault : Own → Fault → Type 0
HasFault f (Fault.At pc reason) = HasReason f pc reason
HasFault f Fault.OutOfMemory = Unit {0}
