use Rattle.std.proofs.Common.{◌≡◌, ◌++◌, drop}
use Rattle.std.specs.List.{flat_map}
use Rattle.chunk_io.specs.Items.{spelling, local_items}
use Rattle.chunk_io.proofs.writing.put_locals.Given as goal

abbrev pub invariant-loop-local : goal.invariant-loop-local
invariant-loop-local l =
    l.out ++ spelling (flat_map (local_items l.layout) (drop l.local-index l.locals)) ≡ l.initial.out ++ spelling (flat_map (local_items l.layout) l.locals)
