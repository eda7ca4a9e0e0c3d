use Rattle.std.proofs.Common.{◌≡◌, ℕ, ◌++◌, drop, map}
use Rattle.proto.specs.Chunk.{functions_of}
use Rattle.proto.specs.View.{view_proto}
use Rattle.chunk_io.specs.Items.{spelling, each_items}
use Rattle.chunk_io.proofs.dumping.+writing.Given as goal

abbrev pub invariant-put_functions-loop-function : goal.invariant-put_functions-loop-function
invariant-put_functions-loop-function l =
    (nesting : ℕ) → l.out ++ spelling (each_items l.layout nesting (functions_of (map view_proto (drop l.function-index l.functions)))) ≡ l.initial.out ++ spelling (each_items l.layout nesting (functions_of (map view_proto l.functions)))
