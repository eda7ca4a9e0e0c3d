use Rattle.std.proofs.Common.{rules, tests}
use Rattle.std.proofs.lemmas.Iterator.{YieldsList-from_slice}
use Rattle.std.proofs.lemmas.Iterator.Consumers.{count_from_yields_List}
use Rattle.std.proofs.lemmas.Iterator.Search.{YieldsList-from_take_while}
use Rattle.lua_num.specs.Bytes.{is_space}
use Rattle.lexer.proofs.RunLemmas.{counted_run}
use Rattle.lexer.proofs.runs.space_length.Goals as goal

pub returns : goal.returns
returns c =
    counted_run is_space c.count.result c.args.text.now
    (count_from_yields_List c.take_while.result c.count.result c.count.ensures.ran
    (YieldsList-from_take_while _ is_space (YieldsList-from_slice c.args.text.now (cc)) c.take_while.ensures.closure c.take_while.ensures.done (λ x b q k. search (rules, tests))))
