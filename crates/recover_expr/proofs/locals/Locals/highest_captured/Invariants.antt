-- What is found so far, and the rest, are the whole.
use Rattle.std.proofs.Common.{◌≡◌, drop}
use Rattle.recover_expr.specs.Locals.{highest_behind, highest_captured, view_locals}
use Rattle.recover_expr.proofs.locals.Locals.highest_captured.Given as goal

abbrev pub invariant-loop-local : goal.invariant-loop-local
invariant-loop-local l = highest_behind l.highest.items (drop l.local-index l.self.declared.items) ≡ highest_captured (view_locals l.self)
