use Rattle.std.proofs.Common.{sym, ◌∙◌}
use Rattle.lua_num.proofs.NumberTexts.{word_value, word_none, word_back}
use Rattle.lua_num.proofs.numbers.word_value.Goals as goal

pub returns-then-is_all_space-clause-value : goal.returns-then-is_all_space-clause-value
returns-then-is_all_space-clause-value c =
    word_value c.args.text.now c.split_word.result.0.now c.split_word.result.1.now c.written_value.result c.split_word.ensures (sym c.is_all_space.ensures ∙ c.if-is_all_space.true) c.written_value.ensures.value

pub returns-then-is_all_space-clause-none : goal.returns-then-is_all_space-clause-none
returns-then-is_all_space-clause-none c =
    word_none c.args.text.now c.split_word.result.0.now c.split_word.result.1.now c.written_value.result c.split_word.ensures c.written_value.ensures.none

pub returns-else-is_all_space-clause-none : goal.returns-else-is_all_space-clause-none
returns-else-is_all_space-clause-none c = λ value below.
    word_back c.args.text.now c.split_word.result.0.now c.split_word.result.1.now value c.split_word.ensures (sym c.is_all_space.ensures ∙ c.if-is_all_space.false)
