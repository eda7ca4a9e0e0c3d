-- The highest of those before, and those that are left, are the highest of all.
use Rattle.std.proofs.Common.{◌≡◌, drop}
use Rattle.recover_flow.specs.Searching.{highest_of}
use Rattle.recover_flow.proofs.memory.highest.Given as goal

abbrev pub invariant-loop-planned : goal.invariant-loop-planned
invariant-loop-planned l = highest_of (drop l.planned-index l.statements) l.levels ≡ highest_of l.statements 1
