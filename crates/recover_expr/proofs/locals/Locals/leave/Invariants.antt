-- Those that are left so far are the first of those that were active, and of these as many are left.
use Rattle.std.proofs.Common.{◌≡◌, length}
use Rattle.recover_expr.specs.Locals.{listed}
use Rattle.recover_expr.proofs.Active.{AreLeft}
use Rattle.recover_expr.proofs.locals.Locals.leave.Given as goal

abbrev pub invariant-loop-self : goal.invariant-loop-self
invariant-loop-self l = record {
  left : AreLeft (listed l.proto) l.pc l.initial.self.active.items l.self.active.items;
  declared : l.self.declared.items ≡ l.initial.self.declared.items;
}

abbrev pub decreases-loop-self : goal.decreases-loop-self
decreases-loop-self l = length l.self.active.items
