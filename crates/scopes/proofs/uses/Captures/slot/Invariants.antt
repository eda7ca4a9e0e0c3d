use Rattle.std.proofs.Common.{◌≡◌, drop}
use Rattle.scopes.specs.Capturing.{slot_from}
use Rattle.scopes.proofs.uses.Captures.slot.Given as goal

abbrev pub invariant-loop-i : goal.invariant-loop-i
invariant-loop-i l = slot_from l.declaration l.i (drop l.i l.self.declarations.items) ≡ slot_from l.declaration 0 l.self.declarations.items
