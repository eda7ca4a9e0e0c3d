use Rattle.std.proofs.Common.{◌≡◌, drop}
use Rattle.scopes.specs.Uses.{source_uses}
use Rattle.scheme.specs.Functions as functions
use Rattle.code_builder.specs.Made.{maker_of}
use Rattle.code_builder.proofs.builder.Builder.further_words.Given as goal

abbrev pub invariant-loop-source : goal.invariant-loop-source
invariant-loop-source l =
    functions.further_words l.line (source_uses (drop l.source-index l.sources)) (maker_of l.self)
    ≡ functions.further_words l.line (source_uses l.sources) (maker_of l.initial.self)
