use Rattle.suite.proofs.WordLemmas.{no_command}
use Rattle.suite.proofs.words.read_words.Goals as goal

pub returns-in_default-as_str-clause-none : goal.returns-in_default-as_str-clause-none
returns-in_default-as_str-clause-none c =
    no_command c.args.words.now c.first-item.result c.as_str.result.now c.in-len1-up.len_at_least c.first-item.is c.as_str.ensures.value
    c.in_default-as_str.not-run c.in_default-as_str.not-list c.in_default-as_str.not-verify c.in_default-as_str.not-globals c.in_default-as_str.not-compile c.in_default-as_str.not-decompile c.in_default-as_str.not-assemble c.in_default-as_str.not-text
