use Rattle.same_flow.proofs.Breaks.{breaks_say_nothing}
use Rattle.same_flow.proofs.MarksSame.{same_marks}
use Rattle.same_flow.proofs.same_steps_say_the_same.Goals as goal

pub returns-clause-marks : goal.returns-clause-marks
returns-clause-marks c = same_marks

pub returns-clause-breaks : goal.returns-clause-breaks
returns-clause-breaks c = breaks_say_nothing
