use Rattle.std.proofs.Common.{◌≡◌, ◌+◌, min, sym, ap, ◌∙◌, arith}
use Rattle.lexer.proofs.LineLemmas.{counted_end, counted_other}
use Rattle.lexer.proofs.lines.LineCounter.step.Goals as goal
use Rattle.lexer.proofs.lines.LineCounter.step.Goals.{then-self-lt-LAST_LINE, else-self-lt-LAST_LINE}

pub returns-after-self-lt-LAST_LINE : goal.returns-after-self-lt-LAST_LINE
returns-after-self-lt-LAST_LINE c = λ done is.
    let next : c.if-self-lt-LAST_LINE.self.line ≡ min (c.args.self.now.line + 1) 2147483647 = elim c.if-self-lt-LAST_LINE.branch [
      | then-self-lt-LAST_LINE w ↦ omega (arith, ap (λ s. s.line) w.self-is)
      | else-self-lt-LAST_LINE w ↦ omega (arith, ap (λ s. s.line) w.self-is, is.line_is)
    ] in
    counted_end c.args.self.now done c.args.byte _ (sym c.begins_line_end.ensures ∙ c.if-begins_line_end.true) next is

pub returns-else-begins_line_end : goal.returns-else-begins_line_end
returns-else-begins_line_end c = λ done. counted_other c.args.self.now done c.args.byte (sym c.begins_line_end.ensures ∙ c.if-begins_line_end.false)
