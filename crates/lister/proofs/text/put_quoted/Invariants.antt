use Rattle.std.proofs.Common.{◌≡◌, ◌++◌, drop}
use Rattle.std.specs.List.{flat_map}
use Rattle.lister.specs.Listing.{quoted_byte}
use Rattle.lister.proofs.text.put_quoted.Given as goal

abbrev pub invariant-loop-byte : goal.invariant-loop-byte
invariant-loop-byte l =
    l.out ++ flat_map quoted_byte (drop l.byte-index l.text) ≡ l.initial.out ++ flat_map quoted_byte l.text
