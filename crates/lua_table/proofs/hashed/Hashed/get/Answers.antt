use Rattle.std.proofs.Common.{ap, ◌∙◌}
use Rattle.lua_table.proofs.Mapped.{or_nil, entry_lookup}
use Rattle.lua_table.specs.Entries.{entry}
use Rattle.lua_table.proofs.hashed.Hashed.get.Goals as goal

pub returns-in-Some : goal.returns-in-Some
returns-in-Some c = ap or_nil c.in-Some.ensures.value ∙ entry_lookup c.self.inside.map.entries c.args.key ∙ ap (λ ps. entry ps c.args.key) c.self.view_is

pub returns-in-None : goal.returns-in-None
returns-in-None c = ap or_nil c.in-None.ensures.value ∙ entry_lookup c.self.inside.map.entries c.args.key ∙ ap (λ ps. entry ps c.args.key) c.self.view_is
