use Rattle.std.proofs.Common.{◌≡◌, ◌∙◌, Some, Err, ap}
use Rattle.proto.specs.Chunk.{own}
use Rattle.proto.specs.View.{view_proto}
use Rattle.proto.proofs.Views.{view_proto_fields}
use Rattle.decompile.proofs.Given.{has_chunk, has_no_fault}
use Rattle.decompile.proofs.decompiling.compared.Goals as goal

pub returns-in-Err-Bad-clause-given : goal.returns-in-Err-Bad-clause-given
returns-in-Err-Bad-clause-given c source =
    absurd (has_no_fault c.never_both.ensures source c.bytes.ensures c.in-Err-Bad.field-0-0 (c.source_chunk.ensures.bad c.in-Err-Bad.field-0-0 (c.in-Err-Bad.is ∙ ap Err c.in-Err-Bad.field-0-is)))

pub returns-clause-given : goal.returns-clause-given
returns-clause-given c source =
    let named : (own (view_proto c.args.proto.now)).source ≡ Some c.in-Some.name = ap (λ d. (own d).source) (view_proto_fields c.args.proto.now) ∙ c.in-Some.is in
    let none = c.in_ok-first_difference.ensures.some (has_chunk c.chunks_are_one.ensures source c.bytes.ensures named c.in-Ok.ensures.chunk) in
    let some = c.in-Some-2.is in cc
