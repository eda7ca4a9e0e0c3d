-- Serves a body: what a function of a chunk is not recovered by, and one among the functions in it.
use Rattle.std.specs.Prelude.{◌≡◌, ℕ, List, ◌∷◌, Some}
use Rattle.proto.specs.Chunk.{Own, Chunk, Functions, function_at}
use Rattle.recover_expr.specs.Reasons.{HasReason}
use Rattle.recover_expr.specs.declared.fault.Fault.{Fault}
use Rattle.recover_expr.specs.declared.fault.Reason.{Reason}
use Rattle.recover_flow.specs.declared.function.Stop.{Stop}
use Rattle.recover_flow.specs.declared.lost.Lost.{Lost}
use Rattle.recover_flow.specs.declared.parts.Unbuilt.{Unbuilt}
use Rattle.recover_flow.specs.declared.recovering.Failure.{Failure}
use Rattle.recover_flow.specs.Lost.{HasReasonAt}

-- what is wrong with a word of a function
abbrev pub StopsBy : Own → Stop → Type 0
StopsBy f (Stop.At pc reason) = HasReason f pc reason
StopsBy f Stop.OutOfMemory = Unit {0}

-- it tells of no word where a part is gone
abbrev pub TellsUnbuilt : Unbuilt → Stop → Type 0
TellsUnbuilt Unbuilt.Gone stop = stop ≡ Stop.At 0 Reason.NotScheme
TellsUnbuilt Unbuilt.OutOfMemory stop = stop ≡ Stop.OutOfMemory

-- it tells what a fault tells
abbrev pub TellsFault : Fault → Stop → Type 0
TellsFault (Fault.At pc reason) stop = stop ≡ Stop.At pc reason
TellsFault Fault.OutOfMemory stop = stop ≡ Stop.OutOfMemory

-- what is wrong with a word of the function at the end of a path
abbrev pub FailsBy : Chunk → Failure → Type 0
FailsBy c (Failure.At path pc reason) = HasReasonAt c path pc reason
FailsBy c Failure.OutOfMemory = Unit {0}

-- and of one among functions, whose number is the first of the path
pub record IsAmong (inner : Functions) (path : List ℕ) (holds : Chunk → List ℕ → Type 0) : Type 0 where
  pub number : ℕ
  pub rest : List ℕ
  pub chunk : Chunk
  pub path_is : path ≡ number ∷ rest
  pub at : function_at inner number ≡ Some chunk
  pub fact : holds chunk rest

abbrev pub FailsAmong : Functions → Failure → Type 0
FailsAmong inner (Failure.At path pc reason) = IsAmong inner path (λ c rest. HasReasonAt c rest pc reason)
FailsAmong inner Failure.OutOfMemory = Unit {0}

-- why a chunk that tells what its source is recovered by has none
abbrev pub IsUnfound : Chunk → Lost → Type 0
IsUnfound c (Lost.NoDebug path) = ⊥
IsUnfound c (Lost.At path pc reason) = HasReasonAt c path pc reason
IsUnfound c Lost.OutOfMemory = Unit {0}

-- it tells what a failure tells
abbrev pub TellsFailure : Failure → Lost → Type 0
TellsFailure (Failure.At path pc reason) lost = lost ≡ Lost.At path pc reason
TellsFailure Failure.OutOfMemory lost = lost ≡ Lost.OutOfMemory
