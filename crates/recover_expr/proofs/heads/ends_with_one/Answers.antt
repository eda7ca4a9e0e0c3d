use Rattle.std.proofs.Common.{sym, ◌∙◌}
use Rattle.recover_expr.proofs.Declarations.{without_one, with_other}
use Rattle.recover_expr.proofs.heads.ends_with_one.Goals as goal

pub returns-in-Some-clause-one : goal.returns-in-Some-clause-one
returns-in-Some-clause-one c = λ one. without_one c.args.exps.now c.in-Some.last.now (sym c.in-Some.ensures.value) (sym c.is_one.ensures ∙ one)

pub returns-in-Some-clause-other : goal.returns-in-Some-clause-other
returns-in-Some-clause-other c = λ other. with_other c.args.exps.now c.in-Some.last.now (sym c.in-Some.ensures.value) (sym c.is_one.ensures ∙ other)
