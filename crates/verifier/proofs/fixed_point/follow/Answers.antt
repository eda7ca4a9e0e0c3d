-- Answers.
use Rattle.std.proofs.Common.{◌<◌, IfSome, length, subst}
use Rattle.verifier.proofs.Tables.{set_follows}
use Rattle.verifier.proofs.fixed_point.follow.Goals as goal

pub returns-in_ok-insert-clause-followed : goal.returns-in_ok-insert-clause-followed
returns-in_ok-insert-clause-followed c = set_follows c.args.notes.now c.args.work.now.keys _ _ c.in-Some.t _ c.args.new c.in-Some.is c.in_ok-insert.ensures.keys (subst (λ w. IfSome w (λ t. t < length c.args.notes.now)) c.in-Some.is c.requires.here) c.in-Some-met.ensures.joins c.in-Some-met.ensures.less
