-- Locals that become active one behind the other.
use Rattle.std.proofs.Common.{◌≡◌, List, [], ◌∷◌, ◌++◌, refl}
use Rattle.scheme.specs.Making.{Maker, activate}
use Rattle.scheme.specs.declared.making.Local.{Local}
use Rattle.code_builder.specs.Locals.{activate_one}

pub activate-append : (locals : List Local) (local : Local) (m : Maker) → activate (locals ++ local ∷ []) m ≡ activate_one local (activate locals m)
activate-append [] local m = refl
activate-append (one ∷ locals) local m = activate-append locals local (activate_one one m)
