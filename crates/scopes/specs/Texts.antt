-- To be believed. What a fault of scoping shows.
use Rattle.std.specs.Prelude.{ℕ, List, ◌++◌, codes}
use Rattle.std.specs.Fmt.{decimal}
use Rattle.scopes.specs.declared.fault.ScopeFault.{ScopeFault}

-- its name, and where it stands
abbrev pub fault_text : ScopeFault → List ℕ
fault_text (ScopeFault.NoLoop line) = codes "NoLoop at line " ++ decimal line
fault_text (ScopeFault.NoVararg line) = codes "NoVararg at line " ++ decimal line
fault_text (ScopeFault.TooManyLocals line reached) = codes "TooManyLocals at line " ++ decimal line
fault_text (ScopeFault.TooManyUpvalues line reached) = codes "TooManyUpvalues at line " ++ decimal line
fault_text ScopeFault.OutOfMemory = codes "out of memory"
