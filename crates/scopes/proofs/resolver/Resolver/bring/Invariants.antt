use Rattle.std.proofs.Common.{take}
use Rattle.scopes.specs.Standing.{Sound, Brought}
use Rattle.scopes.proofs.resolver.Resolver.bring.Given as goal

abbrev pub invariant-loop-i : goal.invariant-loop-i
invariant-loop-i l = Sound l.self × Brought l.fn.self l.self (take l.i l.names) l.fn.first
