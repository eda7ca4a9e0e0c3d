use Rattle.std.proofs.Common.{◌+◌, refl}
use Rattle.std.proofs.lemmas.List.{take_rest}
use Rattle.lexer.proofs.BracketLemmas.{long_front}
use Rattle.lexer.proofs.brackets.long_length.Goals as goal

pub returns-clause-some : goal.returns-clause-some
returns-clause-some c =
    long_front c.args.level c.in_ok-inside_length.inside_length _ c.args.text.now c.requires.0 c.requires.1 refl
    (rw (take_rest c.args.text.now (c.args.level + 2)) at c.in_ok-inside_length.ensures.some)
