use Rattle.std.proofs.Common.{◌≡◌, ◌++◌, drop}
use Rattle.scopes.specs.Uses.{source_uses}
use Rattle.scheme.specs.Functions as functions
use Rattle.code_builder.specs.Made.{maker_of}
use Rattle.code_builder.proofs.builder.Builder.source_names.Given as goal

abbrev pub invariant-loop-source : goal.invariant-loop-source
invariant-loop-source l =
    l.names ++ functions.source_names (maker_of l.self) (source_uses (drop l.source-index l.sources)) ≡ functions.source_names (maker_of l.self) (source_uses l.sources)
