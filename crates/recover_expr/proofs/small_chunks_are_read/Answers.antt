-- The rows compute.
use Rattle.std.proofs.Common.{refl}
use Rattle.recover_expr.proofs.small_chunks_are_read.Goals as goal

pub returns-clause-calls : goal.returns-clause-calls
returns-clause-calls c = refl

pub returns-clause-locals : goal.returns-clause-locals
returns-clause-locals c = refl

pub returns-clause-test : goal.returns-clause-test
returns-clause-test c = refl

pub returns-clause-table : goal.returns-clause-table
returns-clause-table c = refl
