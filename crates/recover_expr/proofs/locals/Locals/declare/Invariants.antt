-- What is declared so far, and the rest, are all.
use Rattle.std.proofs.Common.{◌≡◌, ◌-◌}
use Rattle.recover_expr.specs.Locals.{declare, listed, view_locals}
use Rattle.recover_expr.proofs.locals.Locals.declare.Given as goal

abbrev pub invariant-loop : goal.invariant-loop
invariant-loop l =
    declare (listed l.proto) (l.count - l.counter) l.pc l.step (view_locals l.self) ≡ declare (listed l.proto) l.count l.pc l.step (view_locals l.initial.self)
