use Rattle.std.proofs.Common.{subst, sym}
use Rattle.proto.specs.View.{view_proto}
use Rattle.proto.specs.Chunk.{Chunk}
use Rattle.chunk_io.specs.Items.{Fits}
use Rattle.suite.proofs.FitsStripped.{fits_if}
use Rattle.suite.proofs.making.spelling_of.Goals as goal

pub dump_as-requires : goal.dump_as-requires
dump_as-requires c =
    subst (λ (chunk : Chunk). Fits c.args.layout chunk) (sym c.stripped_if-kept.ensures)
    (fits_if c.args.strip c.args.layout (view_proto c.in-Ok.proto) c.in-Ok.ensures.spelled)
