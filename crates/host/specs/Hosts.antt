-- To be believed. A set of hosts by names and numbers, with the log of their calls.
use Rattle.std.specs.Prelude.{◌≢◌, ℕ, ◌<◌, Bool, List, [], ◌∷◌, ◌++◌, Option, Some, None, length, map, option_map, is_some, position, slice_index_or, slice_set}
use Rattle.std.specs.List.{list_any}
use Rattle.std.specs.Str.{bytes_eq}
use Rattle.lua_model.specs.declared.plain.Plain.{Plain}
use Rattle.lua_model.specs.declared.plain.Reply.{Reply}
use Rattle.lua_model.specs.declared.plain.Reply.TheVariants.{OutOfMemory}
use Rattle.host.specs.declared.log.LogEntry.{LogEntry}
use Rattle.host.specs.Heard.{Exchange, heard_after}

-- a host: its name, and while it is live what it has heard, where that is told; a closed host has `None`
pub record HostState : Type 0 where
  pub name : List ℕ
  pub live : Option (Option (List Exchange))

-- the hosts in the order of their numbers, and the calls so far
pub record HostSetState : Type 0 where
  pub hosts : List HostState
  pub log : List LogEntry

-- the host of a number; behind the last one stands a closed host with an empty name
abbrev pub host_at : List HostState → ℕ → HostState
host_at hosts number = slice_index_or hosts number (record { name = []; live = None })

-- its name, and whether it is live
abbrev pub name_at : List HostState → ℕ → List ℕ
name_at hosts number = (host_at hosts number).name

abbrev pub is_live_at : List HostState → ℕ → Bool
is_live_at hosts number = is_some (host_at hosts number).live

-- whether a host, live or closed, has this name, and the number of the first one that does
abbrev pub has_name : List ℕ → List HostState → Bool
has_name name hosts = list_any (λ host. bytes_eq host.name name) hosts

abbrev pub number_of : List ℕ → List HostState → Option ℕ
number_of name hosts = position (λ host. bytes_eq host.name name) hosts

-- no two of the names are equal
abbrev pub NamesDiffer : List (List ℕ) → Type 0
NamesDiffer names = (i j : ℕ) → i < j → j < length names → slice_index_or names i [] ≢ slice_index_or names j []

abbrev pub names_of : List HostState → List (List ℕ)
names_of hosts = map (λ host. host.name) hosts

-- one live host more, the last one
abbrev pub with_host : HostSetState → List ℕ → Option (List Exchange) → HostSetState
with_host set name heard = record set { hosts = set.hosts ++ record { name = name; live = Some heard } ∷ [] }

-- a host after a call: a live one that tells what it has heard has heard this call too
abbrev pub host_called : HostState → List Plain → Reply → HostState
host_called host args reply = record host { live = option_map (option_map (λ heard. heard_after heard args reply)) host.live }

-- the set after a call of the host of this number: that host has heard it, and the log has one entry more
abbrev pub called : HostSetState → ℕ → List Plain → Reply → HostSetState
called set number args reply = record {
  hosts = slice_set set.hosts number (host_called (host_at set.hosts number) args reply);
  log = set.log ++ record { host = number; args = args; reply = reply } ∷ [];
}

-- the reply of the last entry of a log, `OutOfMemory` where there is none
abbrev pub last_reply : List LogEntry → Reply
last_reply [] = OutOfMemory
last_reply (entry ∷ []) = entry.reply
last_reply (entry ∷ next ∷ log) = last_reply (next ∷ log)

-- the set after the host of this number was closed
abbrev pub closed : HostSetState → ℕ → HostSetState
closed set number = record set { hosts = slice_set set.hosts number (record (host_at set.hosts number) { live = None }) }
