use Rattle.std.proofs.Common.{◌≡◌, take}
use Rattle.scopes.specs.Standing.{lookup, binding_of_option}
use Rattle.scopes.proofs.resolver.Resolver.find.Given as goal

abbrev pub invariant-loop-local : goal.invariant-loop-local
invariant-loop-local l = binding_of_option l.found ≡ lookup (take l.local-index l.self.locals.items) l.name
