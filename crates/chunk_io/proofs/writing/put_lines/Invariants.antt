use Rattle.std.proofs.Common.{◌≡◌, ◌++◌, [], ◌∷◌, drop}
use Rattle.std.specs.List.{flat_map}
use Rattle.chunk_io.specs.Items.{spelling, int}
use Rattle.chunk_io.proofs.writing.put_lines.Given as goal

abbrev pub invariant-loop-line : goal.invariant-loop-line
invariant-loop-line l =
    l.out ++ spelling (flat_map (λ line. int l.layout line ∷ []) (drop l.line-index l.lines)) ≡ l.initial.out ++ spelling (flat_map (λ line. int l.layout line ∷ []) l.lines)
