use Rattle.proto.specs.View.{view_proto}
use Rattle.chunk_rows.proofs.Refitted.{fits_again}
use Rattle.chunk_rows.proofs.chunks.rewritten.Goals as goal

pub dump_as-requires : goal.dump_as-requires
dump_as-requires c =
    let chunk = c.in_ok-proto.ensures.chunk in
    fits_again c.args.bytes.now chunk.0 c.args.layout (view_proto c.in_ok-proto.proto) chunk.1 c.if-bytes-ge-TOO_MANY_BYTES.false
