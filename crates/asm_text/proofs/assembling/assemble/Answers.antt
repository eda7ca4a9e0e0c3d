use Rattle.std.proofs.Common.{subst, sym}
use Rattle.asm_text.specs.Faults.{StopsBy}
use Rattle.asm_text.specs.Reading.{Fails, all_of}
use Rattle.asm_text.proofs.OneAnswer.{stops}
use Rattle.asm_text.proofs.assembling.assemble.Goals as goal

pub returns-in-Err-Miss-clause-fault : goal.returns-in-Err-Miss-clause-fault
returns-in-Err-Miss-clause-fault c =
    let told = rw c.in-Err-Miss.field-0-is at c.fault_of.ensures in
    subst (StopsBy c.args.text.now) (sym told) (stops c.args.text.now c.in-Err-Miss.miss (subst (λ e. Fails e (all_of c.args.text.now)) c.in-Err-Miss.field-0-is c.in-Err-Miss.ensures))
