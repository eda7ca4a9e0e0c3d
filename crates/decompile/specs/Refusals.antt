-- Serves a body. What a refusal of recovering is for who decompiles.
use Rattle.recover_flow.specs.declared.lost.Lost.{Lost}
use Rattle.decompile.specs.declared.refused.Refused.{Refused}

abbrev pub refused_by : Lost → Refused
refused_by (Lost.NoDebug path) = Refused.NoDebug path
refused_by (Lost.At path pc reason) = Refused.At path pc reason
refused_by Lost.OutOfMemory = Refused.OutOfMemory
