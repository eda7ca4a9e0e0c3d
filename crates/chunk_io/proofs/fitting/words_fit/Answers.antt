use Rattle.chunk_io.proofs.Fitted.{words_allowed}
use Rattle.chunk_io.proofs.fitting.words_fit.Goals as goal

pub returns : goal.returns
returns c = λ layout. (λ t. (c.count_fits.ensures.0 t, words_allowed layout c.args.words.now c.type_inv.words), λ h. c.count_fits.ensures.1 h.0)
