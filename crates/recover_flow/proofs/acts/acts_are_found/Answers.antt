use Rattle.recover_flow.proofs.ActsBuilt.{acts_built}
use Rattle.recover_flow.proofs.ActsFound.{acts_found}
use Rattle.recover_flow.proofs.acts.acts_are_found.Goals as goal

pub returns-clause-found : goal.returns-clause-found
returns-clause-found c = acts_found

pub returns-clause-built : goal.returns-clause-built
returns-clause-built c = acts_built
