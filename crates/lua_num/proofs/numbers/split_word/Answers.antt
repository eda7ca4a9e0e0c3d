use Rattle.lua_num.specs.Reading.{is_no_space}
use Rattle.lua_num.proofs.NumberTexts.{prefix_run}
use Rattle.lua_num.proofs.numbers.split_word.Goals as goal

pub returns : goal.returns
returns c = rw (c.split_at.ensures.front, c.split_at.ensures.back, c.count_word.ensures.count) (prefix_run is_no_space c.args.text.now)
