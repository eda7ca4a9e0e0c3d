-- To be believed. Why a source has no chunk.
use Rattle.std.specs.Prelude.{[]}
use Rattle.lua_tree.specs.Syntax.{Source}
use Rattle.scheme.specs.Scheme.{scheme_of}
use Rattle.code_builder.specs.declared.fault.CodeFault.{CodeFault}
use Rattle.code_builder.specs.Faults.{IsMisfitAmong}

-- the fault is one of the limits that the scheme of the source does not keep; want of memory says nothing
abbrev pub StopsBy : Source → CodeFault → Type 0
StopsBy source fault = IsMisfitAmong fault (scheme_of source []).misfits
