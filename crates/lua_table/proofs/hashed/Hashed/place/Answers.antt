use Rattle.std.proofs.Common.{position, ap, ◌∙◌}
use Rattle.lua_model.specs.Value.{same_value}
use Rattle.lua_table.proofs.First.{keys_place}
use Rattle.lua_table.proofs.hashed.Hashed.place.Goals as goal

pub returns-clause-place : goal.returns-clause-place
returns-clause-place c = c.get_index_of.ensures.index ∙ keys_place c.self.inside.map.entries c.args.key ∙ ap (position (λ p. same_value c.args.key p.0)) c.self.view_is
