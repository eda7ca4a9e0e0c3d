-- To be believed. What happened outside of a machine, as its printed pieces and the log of its hosts tell it.
use Rattle.std.specs.Prelude.{◌≡◌, false, List, [], ◌∷◌, ◌++◌, map, is_some, get_or, slice_set}
use Rattle.lua_num.specs.Bytes.{Text}
use Rattle.lua_model.specs.declared.plain.Reply.{Reply as HostReply}
use Rattle.lua_model.specs.declared.plain.Reply.TheVariants.{Values, Fail, OutOfMemory}
use Rattle.lua_model.specs.Store.{Host, Reply, replies_values, replies_failure, Event, printed, asked, closed}
use Rattle.lua_model.specs.Builtins.{no_host}
use Rattle.lua_heap.specs.State.{HeapState}
use Rattle.host.specs.declared.log.LogEntry.{LogEntry}
use Rattle.host.specs.Hosts.{HostState, HostSetState, names_of}
use Rattle.machine.specs.Seen.{Around}

-- a host as the definitions have it
abbrev pub host_of : HostState → Host
host_of k = record { name = k.name; live = is_some k.live }

abbrev pub hosts_of : HostSetState → List Host
hosts_of set = map host_of set.hosts

-- the heap names these hosts
abbrev pub AreNamed : HeapState → HostSetState → Type 0
AreNamed h set = h.host_names ≡ names_of set.hosts

-- beside these hosts, where these events happened and these replies are left
abbrev pub around : HostSetState → List Event → List Reply → Around
around set events left = record { hosts = hosts_of set; outside = record { events = events; replies = left } }

-- the pieces that were printed, the replies that were given, and the calls with their replies, in order
abbrev pub pieces_in : List Event → List Text
pieces_in [] = []
pieces_in (printed piece ∷ es) = piece ∷ pieces_in es
pieces_in (asked host args reply ∷ es) = pieces_in es
pieces_in (closed host ∷ es) = pieces_in es

abbrev pub replies_in : List Event → List Reply
replies_in [] = []
replies_in (printed piece ∷ es) = replies_in es
replies_in (asked host args reply ∷ es) = reply ∷ replies_in es
replies_in (closed host ∷ es) = replies_in es

abbrev pub logged : Reply → HostReply
logged (replies_values vs) = Values vs
logged (replies_failure t) = Fail t

abbrev pub calls_in : List Event → List LogEntry
calls_in [] = []
calls_in (printed piece ∷ es) = calls_in es
calls_in (asked host args reply ∷ es) = record { host = host; args = args; reply = logged reply } ∷ calls_in es
calls_in (closed host ∷ es) = calls_in es

-- hosts behind these events: those that they closed are live no more
abbrev pub hosts_behind : List Event → List Host → List Host
hosts_behind [] hosts = hosts
hosts_behind (printed piece ∷ es) hosts = hosts_behind es hosts
hosts_behind (asked host args reply ∷ es) hosts = hosts_behind es hosts
hosts_behind (closed host ∷ es) hosts = hosts_behind es (slice_set hosts host (record (get_or hosts host no_host) { live = false }))

-- a call that found no memory has no reply: it stands last in a log, if at all
abbrev pub IsUnanswered : List LogEntry → Type 0
IsUnanswered [] = Unit {0}
IsUnanswered (entry ∷ []) = entry.reply ≡ OutOfMemory
IsUnanswered (entry ∷ next ∷ log) = ⊥

-- these events happened: the pieces and the log grew by theirs
pub record Happened (es : List Event) (pieces_before pieces_behind : List Text) (before behind : HostSetState) : Type 0 where
  pub pieces : pieces_behind ≡ pieces_before ++ pieces_in es
  pub log : behind.log ≡ before.log ++ calls_in es
  pub names : names_of behind.hosts ≡ names_of before.hosts
  pub closes : hosts_of behind ≡ hosts_behind es (hosts_of before)
