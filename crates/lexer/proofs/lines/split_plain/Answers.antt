use Rattle.std.proofs.Common.{sym, ◌∙◌, arith}
use Rattle.std.proofs.lemmas.List.{take_rest}
use Rattle.lexer.proofs.LineLemmas.{begins_with_byte, begins_with_end}
use Rattle.lexer.proofs.lines.split_plain.Goals as goal

pub returns-in_ok-byte-in-0-clause-some : goal.returns-in_ok-byte-in-0-clause-some
returns-in_ok-byte-in-0-clause-some c =
    begins_with_byte c.args.text.now c.in_ok-byte-in-0.byte.now c.in_ok-byte-in-0.after.now (sym c.line_end_length.ensures ∙ c.in-0.is) c.in_ok-byte-in-0.ensures.cases.0

pub returns-in_default-clause-some : goal.returns-in_default-clause-some
returns-in_default-clause-some c =
    begins_with_end c.line_end_length.result c.args.text.now _ (omega arith) c.line_end_length.ensures (take_rest c.args.text.now c.line_end_length.result)
