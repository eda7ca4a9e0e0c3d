use Rattle.std.proofs.Common.{sym, subst}
use Rattle.recover_flow.specs.Searching.{IsNoted, rest_at}
use Rattle.recover_flow.proofs.Resting.{noted}
use Rattle.recover_flow.proofs.search.note.Goals as goal

pub returns : goal.returns
returns c =
    subst (λ found. IsNoted c.args.place found (rest_at c.args.rests.now) (rest_at c.insert.new.self)) (sym c.in-Some.is) (noted c.args.rests.now c.insert.new.self c.args.place c.in-Some.found c.in_ok-insert.ensures.updates)
