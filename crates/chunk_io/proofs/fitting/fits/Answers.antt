use Rattle.proto.specs.View.{view_proto}
use Rattle.chunk_io.proofs.Fitted.{main_decided}
use Rattle.chunk_io.proofs.fitting.fits.Goals as goal

pub returns : goal.returns
returns c = main_decided c.args.layout (view_proto c.args.proto.now) c.function_fits.result c.function_fits.ensures
