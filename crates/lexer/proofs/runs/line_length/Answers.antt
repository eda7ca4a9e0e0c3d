use Rattle.std.proofs.Common.{not, rules, tests}
use Rattle.std.proofs.lemmas.Iterator.{YieldsList-from_slice}
use Rattle.std.proofs.lemmas.Iterator.Consumers.{count_from_yields_List}
use Rattle.std.proofs.lemmas.Iterator.Search.{YieldsList-from_take_while}
use Rattle.lua_tree.specs.Bytes.{ends_line}
use Rattle.lexer.proofs.RunLemmas.{counted_run}
use Rattle.lexer.proofs.runs.line_length.Goals as goal

pub returns : goal.returns
returns c =
    counted_run (λ byte. not (ends_line byte)) c.count.result c.args.text.now
    (count_from_yields_List c.take_while.result c.count.result c.count.ensures.ran
    (YieldsList-from_take_while _ (λ byte. not (ends_line byte)) (YieldsList-from_slice c.args.text.now (cc)) c.take_while.ensures.closure c.take_while.ensures.done (λ x b q k. search (rules, tests))))
