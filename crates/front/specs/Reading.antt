-- Serves the bodies. What faults of the parts of reading are for the reader of a source.
use Rattle.lua_tree.specs.Syntax.{Source}
use Rattle.lexer.specs.declared.fault.LexFault.{LexFault}
use Rattle.scopes.specs.declared.fault.ScopeFault.{ScopeFault}
use Rattle.scopes.specs.Faults as scoping
use Rattle.code_builder.specs.declared.fault.CodeFault.{CodeFault}
use Rattle.front.specs.declared.fault.Fault.{Fault}
use Rattle.front.specs.declared.fault.SourceFault.{SourceFault}

abbrev pub lex_fault_of : LexFault → SourceFault
lex_fault_of LexFault.OutOfMemory = SourceFault.OutOfMemory
lex_fault_of fault = SourceFault.Bad (Fault.Lexical fault)

abbrev pub scope_fault_of : ScopeFault → SourceFault
scope_fault_of ScopeFault.OutOfMemory = SourceFault.OutOfMemory
scope_fault_of fault = SourceFault.Bad (Fault.Scoping fault)

abbrev pub code_fault_of : CodeFault → SourceFault
code_fault_of CodeFault.OutOfMemory = SourceFault.OutOfMemory
code_fault_of fault = SourceFault.Bad (Fault.Code fault)

-- the fault is one of scoping, in this source
abbrev pub IsScopingFault : Source → Fault → Type 0
IsScopingFault source (Fault.Scoping fault) = scoping.IsFaultOf source fault
IsScopingFault source fault = ⊥
