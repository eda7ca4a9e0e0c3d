use Rattle.std.proofs.lemmas.Result.{IfOk-weaker}
use Rattle.lexer.proofs.LineLemmas.{long_meaning}
use Rattle.lexer.proofs.lines.long_value.Goals as goal

pub returns : goal.returns
returns c = IfOk-weaker c.inside_value.result _ _ (λ bytes means inside is. long_meaning c.args.level inside c.args.text.now bytes is means) c.inside_value.ensures
