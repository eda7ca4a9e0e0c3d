use Rattle.std.proofs.Common.{take, reverse}
use Rattle.scopes.specs.Standing.{Sound}
use Rattle.scopes.specs.Capturing.{OnlyFunctions, Reached}
use Rattle.scopes.proofs.resolver.Resolver.reach.Given as goal

abbrev pub invariant-loop-i : goal.invariant-loop-i
invariant-loop-i l = record {
  sound : Sound l.self;
  only : OnlyFunctions l.fn.self l.self;
  reached : Reached l.binding (reverse (take l.i l.fn.self.stack.items)) l.fn.self.functions.items l.self.functions.items l.source;
}
