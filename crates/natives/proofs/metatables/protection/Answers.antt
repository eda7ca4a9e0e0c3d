use Rattle.natives.proofs.metatables.protection.Goals as goal

pub returns-in-Some-clause-value : goal.returns-in-Some-clause-value
returns-in-Some-clause-value c = rw c.in-Some.is c.field.ensures.value
