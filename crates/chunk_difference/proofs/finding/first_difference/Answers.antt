use Rattle.chunk_difference.proofs.Same.{never_differ}
use Rattle.chunk_difference.proofs.finding.first_difference.Goals as goal

pub returns-clause-some : goal.returns-clause-some
returns-clause-some c = λ same.
    let found = rw c.in-Some.is at c.in_ok-part.ensures in
    absurd (never_differ _ _ found.0 c.in-Some.part c.in-Some.unlike.at c.in-Some.unlike.had c.in-Some.unlike.got same found.2)
