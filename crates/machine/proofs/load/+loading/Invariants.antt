use Rattle.std.proofs.Common.{map}
use Rattle.proto.specs.Chunk.{functions_of}
use Rattle.proto.specs.View.{view_proto}
use Rattle.lua_heap.specs.Grown.{Grown}
use Rattle.verifier.proofs.Shortness.{chunk_size, functions_size}
use Rattle.machine.specs.Loading.{LoadsAll}
use Rattle.machine.proofs.Loading.{first_of}
use Rattle.machine.proofs.load.+loading.Given as goal

abbrev pub invariant-load_all-loop-proto : goal.invariant-load_all-loop-proto
invariant-load_all-loop-proto l = record {
  loads : LoadsAll l.initial.heap l.heap l.initial.loaded.items l.loaded.items (first_of l.protos l.proto-index) l.numbers.items;
  grown : Grown l.initial.heap l.heap;
}

-- what decreases: how many functions there are
abbrev pub decreases-load_function : goal.decreases-load_function
decreases-load_function l = chunk_size (view_proto l.proto.now)

abbrev pub decreases-load_all : goal.decreases-load_all
decreases-load_all l = functions_size (functions_of (map view_proto l.protos.now))
