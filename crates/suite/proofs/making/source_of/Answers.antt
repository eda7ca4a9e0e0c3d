-- A recoverable chunk is not refused.
use Rattle.std.proofs.Common.{rules}
use Rattle.proto.specs.View.{view_proto}
use Rattle.suite.proofs.Working.{not_decompiled_for}
use Rattle.suite.proofs.making.source_of.Goals as goal

pub returns : goal.returns
returns c =
    let lost = c.in-Err-decompile in
    record { made = tt; none = λ file. not_decompiled_for file c.args.bytes.now (view_proto c.in-Ok.proto) lost.refused (search rules) c.in-Ok.ensures.chunk lost.ensures.refused lost.ensures.recoverable }
