use Rattle.std.proofs.Common.{◌≡◌, ◌++◌, drop}
use Rattle.lister.specs.Listing.{spaced}
use Rattle.lister.proofs.lists.put_spaced.Given as goal

abbrev pub invariant-loop-number : goal.invariant-loop-number
invariant-loop-number l =
    l.out ++ spaced (drop l.number-index l.numbers) ≡ l.initial.out ++ spaced l.numbers
