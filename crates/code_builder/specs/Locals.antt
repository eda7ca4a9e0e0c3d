-- Serves the bodies. One step of what the definitions do with a list.
use Rattle.std.specs.Prelude.{ℕ, suc, List, ◌++◌, [], ◌∷◌, false, drop, set, Some, length}
use Rattle.lua_num.specs.Bytes.{Text}
use Rattle.proto.specs.declared.parts.LocVar.{LocVar}
use Rattle.scheme.specs.Making.{Maker, Part, head_or, entry_at}
use Rattle.scheme.specs.declared.making.Local.{Local}

-- the local that a name declares
abbrev pub declared_local : Text → Maker → Local
declared_local text m = record { name = text; declaration = Some m.ahead.declarations; captured = head_or false m.ahead.captures }

abbrev pub pass_declaration : Part
pass_declaration m = record m { ahead = record (m.ahead) { captures = drop 1 m.ahead.captures; declarations = suc m.ahead.declarations } }

-- a local becomes active
abbrev pub activate_one : Local → Part
activate_one local m = record m {
  active = m.active ++ record { local = local; listed = length m.locals } ∷ [];
  locals = m.locals ++ record { name = local.name; start = length m.items; end = length m.items } ∷ [];
}

-- a local of a list starts and ends here
abbrev pub start_one : (here listed : ℕ) → List LocVar → List LocVar
start_one here listed entries = set entries listed (record { name = (entry_at entries listed).name; start = here; end = here })
