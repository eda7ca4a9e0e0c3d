use Rattle.same_flow.proofs.PartsAlike.{marks_on_like_parts, same_on_like_parts}
use Rattle.same_flow.proofs.RenamedStatements.{statements_rename}
use Rattle.same_flow.proofs.StepsAlike.{laid_on_like_steps}
use Rattle.same_flow.proofs.like_steps_make_the_same.Goals as goal

pub returns-clause-steps : goal.returns-clause-steps
returns-clause-steps c = laid_on_like_steps

pub returns-clause-makes : goal.returns-clause-makes
returns-clause-makes c = same_on_like_parts statements_rename

pub returns-clause-says : goal.returns-clause-says
returns-clause-says c = marks_on_like_parts
