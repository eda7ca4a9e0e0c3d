use Rattle.std.proofs.Common.{◌≡◌, ◌++◌}
use Rattle.std.specs.List.{flat_map}
use Rattle.global_use.specs.Uses.{use_line}
use Rattle.global_use.proofs.text.text_of.Given as goal

abbrev pub invariant-loop-name : goal.invariant-loop-name
invariant-loop-name l = l.out ++ flat_map (λ e. use_line e.0.now e.1.gets e.1.sets) l.name-iterator ≡ flat_map (λ e. use_line e.0.now e.1.gets e.1.sets) l.names.entries
