-- To be believed. What a fault of a listing shows.
use Rattle.std.specs.Prelude.{ℕ, List, ◌++◌, codes}
use Rattle.std.specs.Fmt.{decimal}
use Rattle.asm_text.specs.declared.fault.ListFault.{ListFault}

-- its name, and the line
abbrev pub fault_text : ListFault → List ℕ
fault_text (ListFault.BadLine line) = codes "BadLine at line " ++ decimal line
fault_text (ListFault.TooDeep line) = codes "TooDeep at line " ++ decimal line
fault_text (ListFault.Differs line) = codes "Differs at line " ++ decimal line
fault_text ListFault.OutOfMemory = codes "out of memory"
