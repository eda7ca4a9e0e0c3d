-- To be believed. What is seen of the outside, before a call and behind it.
use Rattle.std.specs.Prelude.{ℕ, List, Option}
use Rattle.suite_io.specs.declared.calls.FileCall.{FileCall}
use Rattle.suite_io.specs.Contents.{Contents}
use Rattle.host.specs.Hosts.{HostSetState}
use Rattle.suite.specs.Worlds.{World, world}

-- what files hold, where that is told, and the calls of them; what the sink for output took, where that is told, and its count of faults
pub record Outside : Type 0 where
  pub contents : Option Contents
  pub calls : List FileCall
  pub taken : Option (List ℕ)
  pub faults : ℕ

abbrev pub outside : Option Contents → List FileCall → Option (List ℕ) → ℕ → Outside
outside contents calls taken faults = record { contents = contents; calls = calls; taken = taken; faults = faults }

-- all of it: that, the sink for errors, and the hosts with the log of their calls
pub record Seen : Type 0 where
  pub outside : Outside
  pub err_taken : Option (List ℕ)
  pub err_faults : ℕ
  pub hosts : HostSetState

abbrev pub seen : Option Contents → List FileCall → Option (List ℕ) → ℕ → Option (List ℕ) → ℕ → HostSetState → Seen
seen contents calls taken faults err_taken err_faults hosts =
    record { outside = outside contents calls taken faults; err_taken = err_taken; err_faults = err_faults; hosts = hosts }

-- the hosts of a call
abbrev pub between : Seen → Seen → World
between before behind = world before.hosts behind.hosts
