use Rattle.std.proofs.Common.{◌∙◌, drop}
use Rattle.command_words.specs.Arguments.{arguments_in, texts}
use Rattle.command_words.proofs.FoundLemmas.{none_found, some_found}
use Rattle.command_words.proofs.ParseLemmas.{failed_parse, passed_parse}
use Rattle.command_words.proofs.reading.read_arguments.Goals as goal

pub returns-in-Ok-clause-found : goal.returns-in-Ok-clause-found
returns-in-Ok-clause-found c =
    some_found c.found_in.result (arguments_in c.args.form (drop 1 (texts c.args.words.now)))
    (passed_parse c.args.form c.args.words.now _ c.in_ok-command.ensures c.in-Ok.matches c.found_in.result c.in-Ok.ensures.kinds c.in-Ok.ensures.matches c.found_in.ensures)

pub returns-in-Ok-clause-none : goal.returns-in-Ok-clause-none
returns-in-Ok-clause-none c =
    none_found c.found_in.result (arguments_in c.args.form (drop 1 (texts c.args.words.now)))
    (passed_parse c.args.form c.args.words.now _ c.in_ok-command.ensures c.in-Ok.matches c.found_in.result c.in-Ok.ensures.kinds c.in-Ok.ensures.matches c.found_in.ensures)

pub returns : goal.returns
returns c = record {
  found = tt;
  none = failed_parse c.args.form c.args.words.now _ c.in_ok-command.ensures c.in-Err.error c.in-Err.ensures.kinds (λ memory. c.in_default.not-OutOfMemory (c.kind.ensures ∙ memory));
}
