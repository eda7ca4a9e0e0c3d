use Rattle.std.proofs.Common.{◌∙◌, arith}
use Rattle.lexer.proofs.StringLemmas.{code_here, decimal_item}
use Rattle.lexer.proofs.strings.decimal_part.Goals as goal

pub returns-in-Ok : goal.returns-in-Ok
returns-in-Ok c = λ quote.
    decimal_item quote c.in-Ok.value c.count_digits.result c.args.text.now c.split_at.result.0.now c.split_at.result.1.now
    (code_here c.args.text.now _ _ c.count_digits.result c.requires c.count_digits.ensures.count c.split_at.ensures.front c.split_at.ensures.back)
    c.split_at.ensures.front c.split_at.ensures.back (c.in-Ok.ensures.1 ∙ c.decimal_value.ensures) (omega (arith, c.in-Ok.ensures))
