use Rattle.std.proofs.Common.{◌≡◌, ◌++◌, drop}
use Rattle.std.specs.List.{flat_map}
use Rattle.chunk_io.specs.Items.{spelling, string_items}
use Rattle.chunk_io.proofs.writing.put_names.Given as goal

abbrev pub invariant-loop-name : goal.invariant-loop-name
invariant-loop-name l =
    l.out ++ spelling (flat_map (string_items l.layout) (drop l.name-index l.name-items)) ≡ l.initial.out ++ spelling (flat_map (string_items l.layout) l.name-items)
