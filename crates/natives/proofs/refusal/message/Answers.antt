-- The text of a wrong argument.
use Rattle.std.proofs.Common.{sym, ◌∙◌}
use Rattle.std.proofs.lemmas.Result.{IfOk-weaker}
use Rattle.natives.proofs.refusal.message.Goals as goal

pub returns-in-WrongArgument : goal.returns-in-WrongArgument
returns-in-WrongArgument c =
    rw c.in-WrongArgument.is (IfOk-weaker c.wrong_argument.result _ _ (λ t e h act refused. refused ∙ sym (e h)) c.wrong_argument.ensures)
