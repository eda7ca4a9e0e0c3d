use Rattle.suite.proofs.FitsWidened.{fits_widest}
use Rattle.proto.specs.View.{view_proto}
use Rattle.suite.proofs.making.assembly_of.Goals as goal

pub dump-requires : goal.dump-requires
dump-requires c = let s = c.in-Ok.ensures.assembles.spelled in fits_widest s.0 (view_proto c.in-Ok.proto) s.1.fits
