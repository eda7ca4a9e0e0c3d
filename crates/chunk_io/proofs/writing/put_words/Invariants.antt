use Rattle.std.proofs.Common.{◌≡◌, ◌++◌, [], ◌∷◌, drop}
use Rattle.std.specs.List.{flat_map}
use Rattle.chunk_io.specs.Items.{spelling, instruction}
use Rattle.chunk_io.proofs.writing.put_words.Given as goal

abbrev pub invariant-loop-word : goal.invariant-loop-word
invariant-loop-word l =
    l.out ++ spelling (flat_map (λ word. instruction l.layout word ∷ []) (drop l.word-index l.words)) ≡ l.initial.out ++ spelling (flat_map (λ word. instruction l.layout word ∷ []) l.words)
