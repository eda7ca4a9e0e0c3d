-- To be believed. What a fault of lexing shows.
use Rattle.std.specs.Prelude.{ℕ, List, ◌++◌, codes}
use Rattle.std.specs.Fmt.{decimal}
use Rattle.lexer.specs.declared.fault.LexFault.{LexFault}

-- its name, and where it stands
abbrev pub fault_text : LexFault → List ℕ
fault_text (LexFault.BadByte at) = codes "BadByte at offset " ++ decimal at
fault_text (LexFault.UnfinishedString at) = codes "UnfinishedString at offset " ++ decimal at
fault_text (LexFault.UnfinishedLong at) = codes "UnfinishedLong at offset " ++ decimal at
fault_text (LexFault.BadLongOpen at) = codes "BadLongOpen at offset " ++ decimal at
fault_text (LexFault.EscapeTooLarge at) = codes "EscapeTooLarge at offset " ++ decimal at
fault_text (LexFault.BadNumber at) = codes "BadNumber at offset " ++ decimal at
fault_text LexFault.OutOfMemory = codes "out of memory"
