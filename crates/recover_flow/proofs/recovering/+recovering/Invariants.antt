-- Functions are recovered down to so many levels.
use Rattle.std.proofs.Common.{◌+◌, ◌-◌, ◌*◌, map, take}
use Rattle.core_expr.specs.Values.{view_bodies}
use Rattle.proto.specs.Chunk.{functions_of}
use Rattle.proto.specs.View.{view_proto}
use Rattle.recover_flow.specs.Recovering.{AreFound}
use Rattle.recover_flow.proofs.recovering.+recovering.Given as goal

abbrev pub decreases-inner_function : goal.decreases-inner_function
decreases-inner_function l = 2 * (201 - l.depth)

abbrev pub decreases-inner_functions : goal.decreases-inner_functions
decreases-inner_functions l = 2 * (201 - l.depth) + 1

-- the functions so far are found
abbrev pub invariant-inner_functions-loop-number : goal.invariant-inner_functions-loop-number
invariant-inner_functions-loop-number l = AreFound l.short (functions_of (map view_proto (take l.number l.protos))) (view_bodies l.bodies)
