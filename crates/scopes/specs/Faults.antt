-- To be believed. What a fault says of a source.
use Rattle.std.specs.Prelude.{◌≡◌, Option, Some}
use Rattle.lua_tree.specs.Syntax.{Source}
use Rattle.lua_tree.specs.Scoping.{Breach, no_loop, no_vararg, too_many_locals, too_many_upvalues, breach_of}
use Rattle.scopes.specs.declared.fault.ScopeFault.{ScopeFault}

-- a fault that is answered is this breach, the first of some; want of memory says nothing
abbrev pub IsBreach : Option Breach → ScopeFault → Type 0
IsBreach breach (ScopeFault.NoLoop line) = breach ≡ Some (no_loop line)
IsBreach breach (ScopeFault.NoVararg line) = breach ≡ Some (no_vararg line)
IsBreach breach (ScopeFault.TooManyLocals line reached) = breach ≡ Some (too_many_locals line reached)
IsBreach breach (ScopeFault.TooManyUpvalues line reached) = breach ≡ Some (too_many_upvalues line reached)
IsBreach breach ScopeFault.OutOfMemory = Unit {0}

abbrev pub StopsBy : Source → ScopeFault → Type 0
StopsBy source fault = IsBreach (breach_of source) fault

-- a fault of a source; want of memory is none
abbrev pub IsFaultOf : Source → ScopeFault → Type 0
IsFaultOf source ScopeFault.OutOfMemory = ⊥
IsFaultOf source fault = StopsBy source fault
