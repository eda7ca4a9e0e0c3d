-- The whole is no source.
use Rattle.std.proofs.Common.{◌≡◌, ℕ, List, [], sym, subst}
use Rattle.proto.specs.Chunk.{Chunk}
use Rattle.recover_expr.specs.declared.fault.Reason.{Reason}
use Rattle.recover_flow.specs.Debug.{HasDebug}
use Rattle.recover_flow.specs.Lost.{here}
use Rattle.decompile.specs.declared.refused.Refused.{Refused}
use Rattle.decompile.specs.Sources.{IsRefusedBy}

-- no reason is told, in the main function
pub not_scheme : (path : List ℕ) → path ≡ [] → (chunk : Chunk) → HasDebug chunk → IsRefusedBy chunk (Refused.At path 0 Reason.NotScheme)
not_scheme path e chunk debug = subst (λ p. IsRefusedBy chunk (Refused.At p 0 Reason.NotScheme)) (sym e) (debug, record { inside = chunk; leads = here; has = tt })
