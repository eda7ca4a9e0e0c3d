-- To be believed. What a fault of code shows.
use Rattle.std.specs.Prelude.{ℕ, List, ◌++◌, codes}
use Rattle.std.specs.Fmt.{decimal}
use Rattle.code_builder.specs.declared.fault.CodeFault.{CodeFault}

-- its name, and where it stands
abbrev pub fault_text : CodeFault → List ℕ
fault_text (CodeFault.TooManyRegisters line reached) = codes "TooManyRegisters at line " ++ decimal line
fault_text (CodeFault.TooManyConstants line reached) = codes "TooManyConstants at line " ++ decimal line
fault_text (CodeFault.JumpTooFar line reached) = codes "JumpTooFar at line " ++ decimal line
fault_text (CodeFault.TooManyFunctions line reached) = codes "TooManyFunctions at line " ++ decimal line
fault_text CodeFault.OutOfMemory = codes "out of memory"
