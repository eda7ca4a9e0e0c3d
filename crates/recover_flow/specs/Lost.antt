-- To be believed, and this suite's own. Why no source of a chunk is recovered.
use Rattle.std.specs.Prelude.{◌≡◌, ℕ, List, [], ◌∷◌, Some}
use Rattle.proto.specs.Chunk.{Chunk, functions, function_at, own}
use Rattle.recover_expr.specs.declared.fault.Reason.{Reason}
use Rattle.recover_expr.specs.Reasons.{HasReason}
use Rattle.recover_flow.specs.declared.lost.Lost.{Lost}
use Rattle.recover_flow.specs.Debug.{HasDebug, LacksDebug}

-- a path leads down to a function
pub data LeadsTo : Chunk → List ℕ → Chunk → Type 0 where
  here : {c : Chunk} → LeadsTo c [] c
  down : {c inner d : Chunk} {n : ℕ} {path : List ℕ} → function_at (functions c) n ≡ Some inner → LeadsTo inner path d → LeadsTo c (n ∷ path) d

-- in the function at the end of a path the reason tells of this word
pub record HasReasonAt (c : Chunk) (path : List ℕ) (pc : ℕ) (reason : Reason) : Type 0 where
  pub inside : Chunk
  pub leads : LeadsTo c path inside
  pub has : HasReason (own inside) pc reason

abbrev pub IsLostBy : Chunk → Lost → Type 0
IsLostBy c (Lost.NoDebug path) = LacksDebug c path
IsLostBy c (Lost.At path pc reason) = HasDebug c × HasReasonAt c path pc reason
IsLostBy c Lost.OutOfMemory = Unit {0}
