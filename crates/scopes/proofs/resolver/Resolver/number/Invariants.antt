use Rattle.scopes.specs.Standing.{Declared}
use Rattle.scopes.proofs.resolver.Resolver.number.Given as goal

abbrev pub invariant-loop : goal.invariant-loop
invariant-loop l = Declared l.fn.self l.self l.counter
