-- To be believed. What a fault says of the bytes of a source.
use Rattle.std.specs.Prelude.{ℕ, List}
use Rattle.lua_tree.specs.Tiling as tiling
use Rattle.lua_tree.specs.Tiling.{Stops}
use Rattle.lexer.specs.declared.fault.LexFault.{LexFault}

-- the bytes are tiled up to the first place where this fault's condition stands
abbrev pub IsFaultOf : List ℕ → LexFault → Type 0
IsFaultOf bytes (LexFault.BadByte at) = Stops bytes tiling.BadByte at
IsFaultOf bytes (LexFault.UnfinishedString at) = Stops bytes tiling.UnfinishedString at
IsFaultOf bytes (LexFault.UnfinishedLong at) = Stops bytes tiling.UnfinishedLong at
IsFaultOf bytes (LexFault.BadLongOpen at) = Stops bytes tiling.BadLongOpen at
IsFaultOf bytes (LexFault.EscapeTooLarge at) = Stops bytes tiling.EscapeTooLarge at
IsFaultOf bytes (LexFault.BadNumber at) = Stops bytes tiling.BadNumber at
IsFaultOf bytes LexFault.OutOfMemory = ⊥

-- a fault that is answered is one of the bytes; want of memory says nothing
abbrev pub StopsBy : List ℕ → LexFault → Type 0
StopsBy bytes LexFault.OutOfMemory = Unit {0}
StopsBy bytes fault = IsFaultOf bytes fault
