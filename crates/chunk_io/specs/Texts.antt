-- To be believed. What a fault of a chunk shows.
use Rattle.std.specs.Prelude.{ℕ, List, ◌++◌, codes}
use Rattle.std.specs.Fmt.{decimal}
use Rattle.chunk_io.specs.declared.fault.ChunkFault.{ChunkFault}

-- its name, and where it stands
abbrev pub fault_text : ChunkFault → List ℕ
fault_text (ChunkFault.Header at) = codes "Header at offset " ++ decimal at
fault_text ChunkFault.Integral = codes "Integral"
fault_text (ChunkFault.Truncated at) = codes "Truncated at offset " ++ decimal at
fault_text (ChunkFault.BadTag at) = codes "BadTag at offset " ++ decimal at
fault_text (ChunkFault.BadString at) = codes "BadString at offset " ++ decimal at
fault_text (ChunkFault.BadCount at) = codes "BadCount at offset " ++ decimal at
fault_text ChunkFault.TooDeep = codes "TooDeep"
fault_text (ChunkFault.Trailing at) = codes "Trailing at offset " ++ decimal at
fault_text ChunkFault.OutOfMemory = codes "out of memory"
