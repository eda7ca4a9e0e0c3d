use Rattle.same_flow.proofs.LocalsListed.{locals_listed}
use Rattle.same_flow.proofs.steps_list_the_locals.Goals as goal

pub returns : goal.returns
returns c = locals_listed
