-- To be believed. How a run of Lua comes out (manual 2.7).
use Rattle.std.specs.Prelude.{◌≡◌, List, ◌++◌}
use Rattle.lua_num.specs.Bytes.{Text}
use Rattle.lua_model.specs.Store.{Event}

-- it has ended, or failed with a text, or waits for a reply, or is going
pub data Ending : Type 0 where
  Ended : Ending
  Failed : Text → Ending
  Waiting : Ending
  Going : Ending

-- how a run is, with its events so far
pub record Course : Type 0 where
  pub ending : Ending
  pub events : List Event

-- the events of one are the first events of the other
abbrev pub IsPrefix : List Event → List Event → Type 0
IsPrefix front whole = (rest : List Event) × (whole ≡ front ++ rest)
