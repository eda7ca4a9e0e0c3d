use Rattle.std.proofs.Common.{refl}
use Rattle.std.specs.Fmt.{digits}
use Rattle.worked.proofs.count_past_the_greatest.Goals as goal

pub returns-clause-two : goal.returns-clause-two
unfolding digits
returns-clause-two c = refl

pub returns-clause-three : goal.returns-clause-three
unfolding digits
returns-clause-three c = refl
