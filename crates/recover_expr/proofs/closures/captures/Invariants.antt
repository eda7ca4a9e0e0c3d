-- What is captured so far, and the rest, are all.
use Rattle.std.proofs.Common.{◌≡◌, ◌-◌, false}
use Rattle.recover_expr.specs.Closures.{captures}
use Rattle.recover_expr.specs.Situation.{view_function, view_state}
use Rattle.recover_expr.proofs.closures.captures.Given as goal

abbrev pub invariant-loop-pc : goal.invariant-loop-pc
invariant-loop-pc l =
    captures (view_function l.function) l.closure (l.next - l.pc) l.pc l.itself (view_state l.state) ≡ captures (view_function l.function) l.closure (l.next - l.closure.next) l.closure.next false (view_state l.initial.state)
