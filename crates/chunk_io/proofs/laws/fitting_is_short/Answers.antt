use Rattle.chunk_io.proofs.Shortness.{fits_short}
use Rattle.chunk_io.proofs.laws.fitting_is_short.Goals as goal

pub returns : goal.returns
returns c = fits_short
