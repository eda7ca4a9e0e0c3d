use Rattle.std.proofs.Common.{◌≡◌, ◌++◌, drop}
use Rattle.std.specs.List.{flat_map}
use Rattle.chunk_io.specs.Items.{spelling, constant_items}
use Rattle.chunk_io.proofs.writing.put_constants.Given as goal

abbrev pub invariant-loop-constant : goal.invariant-loop-constant
invariant-loop-constant l =
    l.out ++ spelling (flat_map (constant_items l.layout) (drop l.constant-index l.constants)) ≡ l.initial.out ++ spelling (flat_map (constant_items l.layout) l.constants)
