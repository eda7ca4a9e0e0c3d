-- Serves `run`: a step, and which hosts it closed where the run is going.
use Rattle.std.specs.Prelude.{◌≡◌, ℕ, List}
use Rattle.proto.specs.Chunk.{Chunk}
use Rattle.lua_model.specs.Store.{Event, Host}
use Rattle.machine.specs.declared.machine.Machine.{Machine}
use Rattle.machine.specs.declared.machine.StepEnd.{StepEnd}
use Rattle.machine.specs.At.{Surroundings, Stepped}
use Rattle.machine.specs.Outside.{hosts_of, hosts_behind}

pub record SteppedClosing (c : Chunk) (hosts : List Host) (events : List Event) (n : ℕ) (before behind : Surroundings) (new : Machine) : Type 0 where
  pub stepped : Stepped c hosts events n before behind new StepEnd.Going
  pub closes : hosts_of behind.hosts ≡ hosts_behind stepped.es (hosts_of before.hosts)
