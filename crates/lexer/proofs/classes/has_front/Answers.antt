use Rattle.std.proofs.Common.{◌∙◌}
use Rattle.lexer.proofs.FrontLemmas.{front_test}
use Rattle.lexer.proofs.classes.has_front.Goals as goal

pub returns : goal.returns
returns c = c.starts_with.ensures.value ∙ front_test c.args.front.now c.args.text.now
