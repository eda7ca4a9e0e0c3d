use Rattle.std.proofs.Common.{true}
use Rattle.rules.proofs.Exclusion.{never_two}
use Rattle.rules.proofs.never_both.Goals as goal

pub returns : goal.returns
returns c chunk path pc rule sound rejected = never_two chunk true path pc rule sound rejected
