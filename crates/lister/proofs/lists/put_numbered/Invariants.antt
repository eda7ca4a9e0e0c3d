use Rattle.std.proofs.Common.{◌≡◌, ◌++◌, drop}
use Rattle.lister.specs.Listing.{numbered}
use Rattle.lister.proofs.lists.put_numbered.Given as goal

abbrev pub invariant-loop-number : goal.invariant-loop-number
invariant-loop-number g l =
    l.out ++ numbered g.T.Listed.text l.number (drop l.number l.items) ≡ l.initial.out ++ numbered g.T.Listed.text 0 l.items
