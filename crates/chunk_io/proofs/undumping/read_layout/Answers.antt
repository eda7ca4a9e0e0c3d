use Rattle.std.proofs.Common.{arith, ap, Some, Err}
use Rattle.chunk_io.proofs.OneAnswer.{has_header, same_header, header_not_missed}
use Rattle.chunk_io.proofs.undumping.read_layout.Goals as goal

pub returns-in-Ok-clause-some : goal.returns-in-Ok-clause-some
returns-in-Ok-clause-some c =
    has_header c.args.bytes.now c.in-Ok.layout c.in-Ok.field-0-1.now (λ i. omega (arith, c.type_inv.bytes i)) c.in-Ok.ensures.given

pub returns-in-Ok-clause-only : goal.returns-in-Ok-clause-only
returns-in-Ok-clause-only c = λ layout has. ap (λ l. Some l) (same_header c.args.bytes.now c.in-Ok.layout layout c.in-Ok.field-0-1.now c.in-Ok.ensures.given has)

pub returns-in-Err-clause-only : goal.returns-in-Err-clause-only
returns-in-Err-clause-only c = λ layout has. header_not_missed c.args.bytes.now c.in-Err.field-0 layout c.in-Err.ensures.given (λ e. c.in-Err.ensures.no_memory (ap (λ x. Err x) e)) has
