use Rattle.std.proofs.Common.{inl, ap, subst, ◌∙◌, arith, Err, sym}
use Rattle.proto.specs.View.{view_proto}
use Rattle.chunk_io.specs.Faults.{StopsBy}
use Rattle.chunk_io.specs.Reading.{Fails, all_of}
use Rattle.chunk_io.proofs.Whole.{found}
use Rattle.chunk_io.proofs.OneAnswer.{stops_by, read_again, read_no_fault, missed_no_chunk, missed_one}
use Rattle.chunk_io.proofs.undumping.undump.Goals as goal

pub returns-in-Ok-clause-chunk : goal.returns-in-Ok-clause-chunk
returns-in-Ok-clause-chunk c =
    (c.in-Ok.field-0-0, found c.args.bytes.now c.in-Ok.field-0-0 (view_proto c.in-Ok.proto) (λ i. omega (arith, c.type_inv.bytes i)) c.in-Ok.ensures)

pub returns-in-Ok-clause-only_chunk : goal.returns-in-Ok-clause-only_chunk
returns-in-Ok-clause-only_chunk c = λ d is. inl (read_again c.args.bytes.now c.in-Ok.field-0-0 (view_proto c.in-Ok.proto) d c.in-Ok.ensures is)

pub returns-in-Ok-clause-only_fault : goal.returns-in-Ok-clause-only_fault
returns-in-Ok-clause-only_fault c = λ fault is. read_no_fault c.args.bytes.now c.in-Ok.field-0-0 (view_proto c.in-Ok.proto) fault c.in-Ok.ensures is

pub returns-in-Err-Miss-clause-fault : goal.returns-in-Err-Miss-clause-fault
returns-in-Err-Miss-clause-fault c =
    subst (StopsBy c.args.bytes.now) (sym c.fault_of.ensures) (stops_by c.args.bytes.now c.in-Err-Miss.miss (λ i. omega (arith, c.type_inv.bytes i)) (subst (λ e. Fails e (all_of c.args.bytes.now)) c.in-Err-Miss.field-0-is c.in-Err-Miss.ensures))

pub returns-in-Err-Miss-clause-only_chunk : goal.returns-in-Err-Miss-clause-only_chunk
returns-in-Err-Miss-clause-only_chunk c = λ d is. missed_no_chunk c.args.bytes.now c.in-Err-Miss.miss d (subst (λ e. Fails e (all_of c.args.bytes.now)) c.in-Err-Miss.field-0-is c.in-Err-Miss.ensures) is

pub returns-in-Err-Miss-clause-only_fault : goal.returns-in-Err-Miss-clause-only_fault
returns-in-Err-Miss-clause-only_fault c = λ fault is.
    inl (ap (λ f. Err f) (c.fault_of.ensures ∙ missed_one c.args.bytes.now c.in-Err-Miss.miss fault (subst (λ e. Fails e (all_of c.args.bytes.now)) c.in-Err-Miss.field-0-is c.in-Err-Miss.ensures) is))
