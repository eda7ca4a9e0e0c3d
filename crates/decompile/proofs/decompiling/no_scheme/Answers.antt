use Rattle.decompile.proofs.Unfound.{not_scheme}
use Rattle.decompile.proofs.decompiling.no_scheme.Goals as goal

pub returns : goal.returns
returns c = not_scheme _ c.new.ensures
