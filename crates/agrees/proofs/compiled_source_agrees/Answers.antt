use Rattle.scheme.specs.Scheme.{scheme}
use Rattle.agrees.proofs.Whole.{standing_agrees}
use Rattle.agrees.proofs.compiled_source_agrees.Goals as goal

pub returns : goal.returns
returns c = λ source name formed scoped fits. standing_agrees source (scheme source name) (c.names_stand.ensures source name formed scoped fits)
