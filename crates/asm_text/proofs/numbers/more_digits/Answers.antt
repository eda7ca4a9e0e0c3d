use Rattle.std.proofs.Common.{length, Some, sym, ◌∙◌, arith}
use Rattle.std.proofs.lemmas.List.{take_rest}
use Rattle.std.proofs.lemmas.Result.{err_from_is_err_and}
use Rattle.asm_text.proofs.Turns.{drop_end, digits_next, digits_stop, digits_end, digits_refused}
use Rattle.asm_text.proofs.numbers.more_digits.Goals as goal

pub returns-then-not-is_digit-clause-cut : goal.returns-then-not-is_digit-clause-cut
returns-then-not-is_digit-clause-cut c =
    rw (take_rest c.args.text.now c.loop-at.at) (sym c.loop-at.invariant.goes ∙ digits_stop c.args.limit c.loop-at.value c.loop-at.at c.args.text.now (omega arith) c.if-not-is_digit.ensures)

pub returns-in_err-value-clause-cut : goal.returns-in_err-value-clause-cut
returns-in_err-value-clause-cut c =
    let p = err_from_is_err_and c.from_residual.result c.from_residual.ensures.1 in
    rw (p.1, p.2) (digits_refused c.in_err-value.field-0.0 c.args.limit c.loop-at.value c.loop-at.at c.args.text.now _ (omega arith) c.if-not-is_digit.ensures c.in_err-value.ensures.cut c.loop-at.invariant.goes)

pub loop-at-preserved : goal.loop-at-preserved
loop-at-preserved c = record {
  goes = sym (digits_next c.args.limit c.loop-at.value c.loop-at.at c.args.text.now (Some c.in_ok-value.value) (omega arith) c.if-not-is_digit.ensures (sym c.in_ok-value.ensures.cut)) ∙ c.loop-at.invariant.goes;
  small = c.in_ok-value.ensures.below;
}

pub returns-clause-cut : goal.returns-clause-cut
returns-clause-cut c =
    rw (take_rest c.args.text.now (length c.args.text.now), drop_end c.args.text.now (length c.args.text.now) (omega arith)) (sym c.loop-at.invariant.goes ∙ digits_end c.args.limit c.loop-at.value c.loop-at.at c.args.text.now (omega arith))
