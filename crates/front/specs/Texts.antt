-- To be believed. What a fault of a source shows: its name, and its offset or its line.
use Rattle.std.specs.Prelude.{ℕ, List, ◌++◌, codes}
use Rattle.std.specs.Fmt.{decimal}
use Rattle.lexer.specs.Texts as lexing
use Rattle.scopes.specs.Texts as scoping
use Rattle.code_builder.specs.Texts as code
use Rattle.front.specs.declared.fault.Fault.{Fault}

abbrev pub fault_text : Fault → List ℕ
fault_text (Fault.Lexical fault) = lexing.fault_text fault
fault_text (Fault.Unexpected offset) = codes "Unexpected at offset " ++ decimal offset
fault_text (Fault.TooDeep offset) = codes "TooDeep at offset " ++ decimal offset
fault_text (Fault.Scoping fault) = scoping.fault_text fault
fault_text (Fault.Code fault) = code.fault_text fault
