use Rattle.built_flow.proofs.FormedBuilt.{built_is_formed}
use Rattle.built_flow.proofs.LyingBuilt.{lying_is_built}
use Rattle.built_flow.proofs.ShallowBuilt.{built_is_shallow}
use Rattle.built_flow.proofs.StandingFormed.{standing_is_formed}
use Rattle.built_flow.proofs.what_lies_is_built.Goals as goal

pub returns-clause-built : goal.returns-clause-built
returns-clause-built c = lying_is_built

pub returns-clause-formed : goal.returns-clause-formed
returns-clause-formed c = built_is_formed

pub returns-clause-standing : goal.returns-clause-standing
returns-clause-standing c = standing_is_formed

pub returns-clause-shallow : goal.returns-clause-shallow
returns-clause-shallow c = built_is_shallow
