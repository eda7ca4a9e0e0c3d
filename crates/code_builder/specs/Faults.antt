-- To be believed. What a fault says of the limits that are not kept: want of memory says nothing, and any other is one of them.
use Rattle.std.specs.Prelude.{List, Contains}
use Rattle.scheme.specs.Making.{Misfit, too_many_registers, too_many_constants, jump_too_far, too_many_functions}
use Rattle.code_builder.specs.declared.fault.CodeFault.{CodeFault}

abbrev pub IsMisfitAmong : CodeFault → List Misfit → Type 0
IsMisfitAmong (CodeFault.TooManyRegisters line reached) misfits = Contains misfits (too_many_registers line reached)
IsMisfitAmong (CodeFault.TooManyConstants line reached) misfits = Contains misfits (too_many_constants line reached)
IsMisfitAmong (CodeFault.JumpTooFar line reached) misfits = Contains misfits (jump_too_far line reached)
IsMisfitAmong (CodeFault.TooManyFunctions line reached) misfits = Contains misfits (too_many_functions line reached)
IsMisfitAmong CodeFault.OutOfMemory misfits = Unit {0}
