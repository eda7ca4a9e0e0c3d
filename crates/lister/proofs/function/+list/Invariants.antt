use Rattle.std.proofs.Common.{◌≡◌, ◌++◌, drop, map}
use Rattle.proto.specs.Chunk.{functions_of}
use Rattle.proto.specs.View.{view_proto}
use Rattle.lister.specs.Listing.{inner_listing}
use Rattle.lister.proofs.function.+list.Given as goal

abbrev pub invariant-put_inner-loop-number : goal.invariant-put_inner-loop-number
invariant-put_inner-loop-number l =
    l.out ++ inner_listing l.before l.number (functions_of (map view_proto (drop l.number l.protos))) ≡ l.initial.out ++ inner_listing l.before 0 (functions_of (map view_proto l.protos))
