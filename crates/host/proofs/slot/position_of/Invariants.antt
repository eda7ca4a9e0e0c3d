use Rattle.std.proofs.Common.{◌≡◌, ℕ, ◌<◌, [], false, map, get_or}
use Rattle.std.specs.Str.{bytes_eq}
use Rattle.host.proofs.slot.position_of.Given as goal

abbrev pub invariant-loop-number : goal.invariant-loop-number
invariant-loop-number g l = (k : ℕ) → k < l.number → bytes_eq (get_or (map (λ slot. slot.name) l.slots) k []) l.name ≡ false
