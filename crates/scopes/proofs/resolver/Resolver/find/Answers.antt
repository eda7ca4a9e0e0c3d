use Rattle.std.proofs.Common.{◌≤◌, length, subst, List}
use Rattle.scopes.specs.Standing.{binding_of_option}
use Rattle.scopes.specs.declared.resolver.Local.{Local}
use Rattle.scopes.proofs.LoopSteps.{find_hit, find_passed, find_end}
use Rattle.scopes.proofs.resolver.Resolver.find.Goals.{then-eq, else-eq}
use Rattle.scopes.proofs.resolver.Resolver.find.Goals as goal

pub loop-local-preserved : goal.loop-local-preserved
loop-local-preserved c = elim c.if-eq.branch [
  | then-eq w ↦ find_hit c.deref-local-items.result.now c.args.self.now.locals.items c.loop-local.local-index _ c.args.name.now c.if-eq.found c.eq.result c.deref-local-items.ensures.value c.loop-local-test.true c.eq.ensures w.if-eq.true w.found-is
  | else-eq w ↦ find_passed c.deref-local-items.result.now c.args.self.now.locals.items c.loop-local.local-index _ c.args.name.now c.loop-local.found c.if-eq.found c.eq.result c.deref-local-items.ensures.value c.loop-local-test.true c.eq.ensures w.if-eq.false w.found-is c.loop-local.invariant
]

pub returns : goal.returns
returns c = find_end c.args.self.now.locals.items c.loop-local.local-index c.args.name.now (binding_of_option c.loop-local.found)
    (subst (λ (x : List Local). length x ≤ c.loop-local.local-index) c.deref-local-items.ensures.value c.loop-local-test.false) c.loop-local.invariant
