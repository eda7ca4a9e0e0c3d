use Rattle.lexer.proofs.MarkLemmas.{three_dots, two_front, first_front, none_front, none_only}
use Rattle.lexer.proofs.marks.mark.Goals as goal

pub returns-then-starts_with-clause-mark : goal.returns-then-starts_with-clause-mark
returns-then-starts_with-clause-mark c = three_dots c.args.text.now c.starts_with.result c.starts_with.ensures.value c.if-starts_with.true

pub returns-in_err-single_mark-in-len1-clause-none :
    goal.returns-in_err-single_mark-in-len1-clause-none
returns-in_err-single_mark-in-len1-clause-none c =
    rw c.from_residual.ensures (none_only c.args.text.now c.in-len1.len_at_least c.in-len1.len_below c.in_err-single_mark-in-len1.ensures.none)

pub returns-in_err-single_mark-in-None-clause-none :
    goal.returns-in_err-single_mark-in-None-clause-none
returns-in_err-single_mark-in-None-clause-none c =
    rw c.from_residual-in_err-single_mark-in-None.ensures (none_front c.args.text.now c.starts_with.result c.starts_with.ensures.value c.if-starts_with.false c.in-len2-up.len_at_least c.in_err-single_mark-in-None.ensures.none c.in-None.ensures.none)

pub returns-in-Some-clause-mark : goal.returns-in-Some-clause-mark
returns-in-Some-clause-mark c =
    two_front c.args.text.now c.starts_with.result c.starts_with.ensures.value c.if-starts_with.false c.in-len2-up.len_at_least c.in-Some.kind c.in-Some.ensures.mark c.in-Some.ensures.long

pub returns-in_ok-single_mark-in-None-clause-mark :
    goal.returns-in_ok-single_mark-in-None-clause-mark
returns-in_ok-single_mark-in-None-clause-mark c =
    first_front c.args.text.now c.starts_with.result c.starts_with.ensures.value c.if-starts_with.false c.in-len2-up.len_at_least c.in_ok-single_mark-in-None.field-0 c.in_ok-single_mark-in-None.ensures.mark c.in_ok-single_mark-in-None.ensures.long c.in-None.ensures.none
