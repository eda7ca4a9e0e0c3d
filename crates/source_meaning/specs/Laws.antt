-- Serves the laws: what a greater number of ticks keeps, and what a run that goes on lacks.
use Rattle.std.specs.Prelude.{◌≡◌, ◌≢◌, ℕ, ◌≤◌, List}
use Rattle.lua_tree.specs.Syntax.{Source}
use Rattle.lua_model.specs.Store.{Host, Reply}
use Rattle.lua_model.specs.Endings.{Going, IsPrefix}
use Rattle.source_meaning.specs.Programs.{World, going}
use Rattle.source_meaning.specs.Meaning.{answer, meaning}

-- an end at t ticks is the end at every greater number of ticks, with the same events
abbrev pub EndsStay : Type 0
EndsStay = (source : Source) (hosts : List Host) (replies : List Reply) (t u : ℕ) → t ≤ u → (meaning source hosts replies t).ending ≢ Going → meaning source hosts replies u ≡ meaning source hosts replies t

-- the events at t ticks are the first ones at every greater number of ticks
abbrev pub EventsGrow : Type 0
EventsGrow = (source : Source) (hosts : List Host) (replies : List Reply) (t u : ℕ) → t ≤ u → IsPrefix (meaning source hosts replies t).events (meaning source hosts replies u).events

-- a run is going only where a tick was wanted and none was left
abbrev pub GoingHasNone : Type 0
GoingHasNone = (source : Source) (hosts : List Host) (replies : List Reply) (t : ℕ) (w : World) → answer source hosts replies t ≡ going w → w.ticks ≡ 0
