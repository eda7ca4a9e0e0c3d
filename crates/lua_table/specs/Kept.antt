-- Serves the bodies: the pairs that are not in the row.
use Rattle.std.specs.Prelude.{[]}
use Rattle.lua_table.specs.Rows.{Split}
use Rattle.lua_table.specs.declared.rest.Kept.{Kept}
use Rattle.lua_table.specs.declared.rest.Kept.TheVariants.{Nothing, InList, InMap}

abbrev pub kept_split : Kept → Split
kept_split (Nothing hash) = record { pairs = []; before = 0 }
kept_split (InList list) = record { pairs = list.value.pairs; before = list.value.before }
kept_split (InMap map) = record { pairs = map.value.pairs; before = map.value.before }
