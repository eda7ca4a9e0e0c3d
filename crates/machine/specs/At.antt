-- To be believed. What a machine is at, and what its steps and its runs come to (manual 2.7 for failures).
use Rattle.std.specs.Prelude.{◌≡◌, ◌⊎◌, ◌≤◌, ◌+◌, ℕ, suc, List, [], ◌++◌, Option, Some}
use Rattle.proto.specs.Chunk.{Chunk}
use Rattle.lua_model.specs.Store.{Event, Reply, Host, output}
use Rattle.lua_model.specs.Endings.{Ending, IsPrefix}
use Rattle.lua_model.specs.Endings as ending
use Rattle.suite_io.specs.Taken.{Takes, Rises}
use Rattle.suite_io.specs.Parts.{TakesPart}
use Rattle.host.specs.declared.log.LogEntry.{LogEntry}
use Rattle.host.specs.Hosts.{HostSetState}
use Rattle.rules.specs.Run.{Conf, Going, Ended, Failed, Waiting, Stuck, ran, course, events_of}
use Rattle.machine.specs.declared.machine.Machine.{Machine}
use Rattle.machine.specs.declared.machine.StepEnd.{StepEnd}
use Rattle.machine.specs.declared.runs.RunEnd.{RunEnd}
use Rattle.machine.specs.Outside.{around, hosts_of, replies_in, calls_in, hosts_behind, IsUnanswered, AreNamed}
use Rattle.machine.specs.Seen.{seen}
use Rattle.machine.specs.Whole.{IsWhole}

-- At the state of a chunk's run with these hosts after n steps, in which these events happened, whatever replies are left; nothing is left to be put.
pub record IsAt (c : Chunk) (hosts : List Host) (events : List Event) (n : ℕ) (now : HostSetState) (k : Machine) : Type 0 where
  pub runs : (left : List Reply) → ran c hosts (replies_in events ++ left) n ≡ Going (seen c (around now events left) k.running)
  pub whole : IsWhole c k.functions.items k.running
  pub named : AreNamed k.running.heap now
  pub put : k.running.pieces.items ≡ []

-- the run of a chunk with these hosts is so after n steps, in which these events happened
abbrev pub RanTo : Chunk → List Host → List Event → ℕ → Ending → Type 0
RanTo c hosts events n end = (left : List Reply) → course (ran c hosts (replies_in events ++ left) n) ≡ Some (record { ending = end; events = events })

-- which hosts are live in it
abbrev pub hosts_at : Conf → List Host
hosts_at (Going m) = m.store.hosts
hosts_at (Ended store outside) = store.hosts
hosts_at (Failed text store outside) = store.hosts
hosts_at (Waiting m) = m.store.hosts
hosts_at Stuck = []

-- they are these
abbrev pub LeavesHosts : Chunk → List Host → List Event → ℕ → HostSetState → Type 0
LeavesHosts c hosts events n now = (left : List Reply) → hosts_at (ran c hosts (replies_in events ++ left) n) ≡ hosts_of now

-- ---- what a run goes on beside

-- its hosts with the log of their calls, what the sink took, where that is told, and the sink's count of faults
pub record Surroundings : Type 0 where
  pub hosts : HostSetState
  pub taken : Option (List ℕ)
  pub faults : ℕ

abbrev pub surroundings : HostSetState → Option (List ℕ) → ℕ → Surroundings
surroundings hosts taken faults = record { hosts = hosts; taken = taken; faults = faults }

-- the log grew by the calls of these events
abbrev pub Logs : List Event → HostSetState → HostSetState → Type 0
Logs es before behind = behind.log ≡ before.log ++ calls_in es

-- ---- a machine that gave up

-- these events are the first of the run, unless it waits
abbrev pub BeginsWith : List Event → Conf → Type 0
BeginsWith es (Waiting m) = Unit {0}
BeginsWith es conf = IsPrefix es (events_of conf)

-- A step was begun after n steps, in which these events happened, and more have happened in it: whatever replies are left, the whole step has these first,
-- or waits.
abbrev pub BeginsStep : Chunk → List Host → List Event → ℕ → List Event → Type 0
BeginsStep c hosts events n begun = (left : List Reply) → BeginsWith (events ++ begun) (ran c hosts (replies_in (events ++ begun) ++ left) (suc n))

-- Memory ran out. From n steps, in which the first events had happened, at most so many more were done, in which es happened, and more may have been begun.
-- The hosts are those from before but for those that these events closed, and the log grew by their calls, and by one that found no memory for its reply.
pub record GaveUp (c : Chunk) (hosts : List Host) (events : List Event) (n most : ℕ) (before behind : HostSetState) (es : List Event) : Type 0 where
  pub done : ℕ
  pub few : done ≤ most
  pub ending : Ending
  pub ran : RanTo c hosts (events ++ es) (n + done) ending
  pub begun : List Event
  pub begins : BeginsStep c hosts (events ++ es) (n + done) begun
  pub none : done ≡ most → begun ≡ []
  pub closed : hosts_of behind ≡ hosts_behind (es ++ begun) (hosts_of before)
  pub unanswered : List LogEntry
  pub no_reply : IsUnanswered unanswered
  pub log : behind.log ≡ (before.log ++ calls_in (es ++ begun)) ++ unanswered

-- ---- a step

-- how a step ended in which es happened, of a machine that was at n steps in which the first events had happened
abbrev pub EndsStep : Chunk → List Host → List Event → ℕ → List Event → HostSetState → HostSetState → Machine → StepEnd → Type 0
EndsStep c hosts events n es before behind k StepEnd.Going = IsAt c hosts (events ++ es) (suc n) behind k
EndsStep c hosts events n es before behind k StepEnd.Done = RanTo c hosts (events ++ es) (suc n) ending.Ended × LeavesHosts c hosts (events ++ es) (suc n) behind
EndsStep c hosts events n es before behind k (StepEnd.Failed text) = RanTo c hosts (events ++ es) (suc n) (ending.Failed text) × LeavesHosts c hosts (events ++ es) (suc n) behind
EndsStep c hosts events n es before behind k StepEnd.OutFault = (end : Ending) × RanTo c hosts (events ++ es) (suc n) end × LeavesHosts c hosts (events ++ es) (suc n) behind
EndsStep c hosts events n es before behind k StepEnd.OutOfMemory = GaveUp c hosts events n 1 before behind es

-- what it put of these events: their output, or a first part of it where it gave up
abbrev pub PutsStep : Option (List ℕ) → Option (List ℕ) → List Event → StepEnd → Type 0
PutsStep old new es StepEnd.OutFault = TakesPart old new (output es)
PutsStep old new es StepEnd.OutOfMemory = TakesPart old new (output es)
PutsStep old new es _ = Takes old new (output es)

-- a step of a machine that was at n steps, in which the first events had happened
pub record Stepped (c : Chunk) (hosts : List Host) (events : List Event) (n : ℕ) (before behind : Surroundings) (new : Machine) (end : StepEnd) : Type 0 where
  pub es : List Event
  pub ends : EndsStep c hosts events n es before.hosts behind.hosts new end
  pub puts : PutsStep before.taken behind.taken es end
  pub log : (end ≡ StepEnd.OutOfMemory → ⊥) → Logs es before.hosts behind.hosts
  pub never_falls : before.faults ≤ behind.faults
  pub risen : end ≡ StepEnd.OutFault → Rises before.faults behind.faults

-- ---- a run

-- how a run of at most so many steps ended, in which these events happened. Where no memory was found before a step was begun, nothing changed.
abbrev pub EndsRun : Chunk → ℕ → List Event → HostSetState → HostSetState → RunEnd → Type 0
EndsRun c steps es before behind RunEnd.Done = RanTo c (hosts_of before) es steps ending.Ended × LeavesHosts c (hosts_of before) es steps behind
EndsRun c steps es before behind (RunEnd.Failed text) = RanTo c (hosts_of before) es steps (ending.Failed text) × LeavesHosts c (hosts_of before) es steps behind
EndsRun c steps es before behind RunEnd.Unfinished = RanTo c (hosts_of before) es steps ending.Going × LeavesHosts c (hosts_of before) es steps behind
EndsRun c steps es before behind RunEnd.OutFault = (m : ℕ) × (m ≤ steps) × (end : Ending) × RanTo c (hosts_of before) es m end × LeavesHosts c (hosts_of before) es m behind
EndsRun c steps es before behind RunEnd.OutOfMemory = ((es ≡ []) × (behind ≡ before)) ⊎ GaveUp c (hosts_of before) [] 0 steps before behind es

abbrev pub PutsRun : Option (List ℕ) → Option (List ℕ) → List Event → RunEnd → Type 0
PutsRun old new es RunEnd.OutFault = TakesPart old new (output es)
PutsRun old new es RunEnd.OutOfMemory = TakesPart old new (output es)
PutsRun old new es _ = Takes old new (output es)

pub record Runs (c : Chunk) (steps : ℕ) (before behind : Surroundings) (end : RunEnd) : Type 0 where
  pub es : List Event
  pub ends : EndsRun c steps es before.hosts behind.hosts end
  pub puts : PutsRun before.taken behind.taken es end
  pub log : (end ≡ RunEnd.OutOfMemory → ⊥) → Logs es before.hosts behind.hosts
  pub never_falls : before.faults ≤ behind.faults
  pub risen : end ≡ RunEnd.OutFault → Rises before.faults behind.faults
