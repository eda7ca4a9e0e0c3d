use Rattle.std.proofs.Common.{◌≡◌, ◌+◌, drop, map}
use Rattle.proto.specs.Chunk.{functions_of}
use Rattle.proto.specs.View.{view_proto}
use Rattle.made_source.specs.Made.{functions_among, words_among}
use Rattle.made_source.proofs.accounts.+size.Given as goal

abbrev pub invariant-size_among-loop-proto : goal.invariant-size_among-loop-proto
invariant-size_among-loop-proto l =
    (l.functions + functions_among (functions_of (map view_proto (drop l.proto-index l.protos))) ≡ functions_among (functions_of (map view_proto l.protos)))
    × (l.words + words_among (functions_of (map view_proto (drop l.proto-index l.protos))) ≡ words_among (functions_of (map view_proto l.protos)))
