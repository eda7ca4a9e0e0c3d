-- To be believed. What a refusal shows: its name, the function, and of a word the pc.
use Rattle.std.specs.Prelude.{ℕ, List, ◌++◌, codes}
use Rattle.std.specs.Fmt.{decimal}
use Rattle.proto.specs.Paths.{path_text}
use Rattle.recover_expr.specs.declared.fault.Reason.{Reason}
use Rattle.decompile.specs.declared.refused.Refused.{Refused}

abbrev pub reason_name : Reason → List ℕ
reason_name Reason.NotScheme = codes "NotScheme"
reason_name Reason.ValueLogic = codes "ValueLogic"
reason_name Reason.Locals = codes "Locals"
reason_name Reason.BadName = codes "BadName"

abbrev pub refusal_text : Refused → List ℕ
refusal_text (Refused.NoDebug path) = codes "NoDebug in function " ++ path_text path
refusal_text (Refused.At path pc reason) = reason_name reason ++ (codes " in function " ++ (path_text path ++ (codes " pc " ++ decimal pc)))
refusal_text (Refused.Differs text difference) = codes "Differs in function " ++ path_text difference.path
refusal_text Refused.OutOfMemory = codes "out of memory"
