use Rattle.std.proofs.Common.{arith, ap, sym, ◌∙◌}
use Rattle.proto.specs.View.{view_proto}
use Rattle.asm_text.specs.Reading.{differing_line}
use Rattle.asm_text.proofs.OneAnswer.{compared_same, compared_other}
use Rattle.asm_text.proofs.assembling.compared.Goals as goal

pub returns-then-eq-clause-assembles : goal.returns-then-eq-clause-assembles
returns-then-eq-clause-assembles c =
    compared_same c.args.text.now (view_proto c.args.proto) c.in_ok-listing.listing c.bytes.result.now (omega arith) c.requires c.in_ok-listing.ensures c.bytes.ensures c.if-eq.ensures

pub returns-clause-fault : goal.returns-clause-fault
returns-clause-fault c =
    compared_other c.args.text.now (view_proto c.args.proto) c.in_ok-listing.listing c.bytes.result.now c.differing_line-line.result (omega arith) c.requires c.in_ok-listing.ensures c.bytes.ensures c.if-eq.ensures
    (c.differing_line-line.ensures ∙ ap (differing_line c.args.text.now) (c.bytes-2.ensures ∙ sym c.bytes.ensures))
