use Rattle.std.proofs.lemmas.List.{take_rest}
use Rattle.std.proofs.lemmas.Result.{IfOk-weaker}
use Rattle.lexer.proofs.LineLemmas.{plain_meaning}
use Rattle.lexer.proofs.lines.inside_value.Goals as goal

pub returns : goal.returns
returns c = IfOk-weaker c.plain_text.result _ _ (λ bytes. plain_meaning c.line_end_length.result c.args.inside.now _ bytes c.line_end_length.ensures (take_rest c.args.inside.now c.line_end_length.result)) c.plain_text.ensures
