use Rattle.built_flow.proofs.BuiltLaid.{built_are_laid}
use Rattle.built_flow.proofs.what_is_built_stands.Goals as goal

pub returns : goal.returns
returns c = built_are_laid
