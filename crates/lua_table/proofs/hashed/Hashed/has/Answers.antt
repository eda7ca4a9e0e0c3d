use Rattle.std.proofs.Common.{ap, ◌∙◌}
use Rattle.lua_table.proofs.Mapped.{has_lookup}
use Rattle.lua_table.specs.Entries.{has_place}
use Rattle.lua_table.proofs.hashed.Hashed.has.Goals as goal

pub returns : goal.returns
returns c = c.contains_key.ensures ∙ has_lookup c.self.inside.map.entries c.args.key ∙ ap (λ ps. has_place ps c.args.key) c.self.view_is
