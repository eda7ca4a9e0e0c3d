-- To be believed. What a refusal of the verifier says.
use Rattle.std.specs.Prelude.{◌≡◌}
use Rattle.proto.specs.View.{view_proto}
use Rattle.proto.specs.declared.proto.Proto.{Proto}
use Rattle.rules.specs.Sound.{Rejected}
use Rattle.verifier.specs.declared.judging.Refusal.{Refusal}

-- the function that was handed in is given back, and it is rejected there; want of memory says no more
abbrev pub Refuses : Proto → Refusal → Type 0
Refuses proto (Refusal.Rejected given path pc rule) = (given ≡ proto) × Rejected (view_proto proto) path pc rule
Refuses proto (Refusal.OutOfMemory given) = given ≡ proto
