use Rattle.std.proofs.Common.{sym, subst}
use Rattle.proto.specs.View.{view_proto}
use Rattle.chunk_io.specs.Items.{le8, Fits}
use Rattle.chunk_rows.proofs.Refitted.{fits_stripped}
use Rattle.chunk_rows.proofs.chunks.strip_and_dump.Goals as goal

pub dump-requires : goal.dump-requires
dump-requires c =
    let chunk = c.in_ok-undump.ensures.chunk in
    subst (Fits le8) (sym c.strip-proto.ensures) (fits_stripped c.args.bytes.now chunk.0 le8 (view_proto c.in_ok-undump.field-0) chunk.1 c.if-bytes-ge-TOO_MANY_BYTES.false)
