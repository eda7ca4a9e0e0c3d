use Rattle.std.proofs.Common.{◌≡◌, drop}
use Rattle.std.specs.List.{list_any}
use Rattle.core_expr.specs.Writing.{is_literal}
use Rattle.core_expr.proofs.literals.is_among.Given as goal

abbrev pub invariant-loop-constant : goal.invariant-loop-constant
invariant-loop-constant l = list_any (is_literal l.literal) (drop l.constant-index l.constants) ≡ list_any (is_literal l.literal) l.constants
