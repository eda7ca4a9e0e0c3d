use Rattle.std.proofs.Common.{sym}
use Rattle.lua_model.specs.declared.Value.TheVariants.{Nil}
use Rattle.lua_model.specs.Value.{same_value}
use Rattle.lua_table.specs.Entries.{is_nil_value}
use Rattle.lua_table.proofs.Places.{missing}
use Rattle.lua_table.proofs.rowed.goes_on.Goals as goal

pub returns-in-None-clause-apart : goal.returns-in-None-clause-apart
returns-in-None-clause-apart c = λ t. (missing same_value Nil is_nil_value c.args.rest.now.pairs c.args.key (sym c.in-None.ensures.place)).has_not
