-- To be believed. The hosts of a call, before it and behind it, and what they were asked and replied in it.
use Rattle.std.specs.Prelude.{◌≡◌, List, [], ◌∷◌, length, drop}
use Rattle.lua_model.specs.declared.plain.Reply.{Reply as HostReply}
use Rattle.lua_model.specs.Store.{Host, Reply, replies_values, replies_failure}
use Rattle.host.specs.declared.log.LogEntry.{LogEntry}
use Rattle.host.specs.Hosts.{HostSetState}
use Rattle.machine.specs.Outside.{hosts_of}

pub record World : Type 0 where
  pub before : HostSetState
  pub behind : HostSetState

abbrev pub world : HostSetState → HostSetState → World
world before behind = record { before = before; behind = behind }

-- the hosts as definitions have them, at first and at last
abbrev pub hosts_first : World → List Host
hosts_first w = hosts_of w.before

abbrev pub hosts_last : World → List Host
hosts_last w = hosts_of w.behind

-- the calls of the hosts in it
abbrev pub calls_of : World → List LogEntry
calls_of w = drop (length w.before.log) w.behind.log

-- what was replied, in order; where a host found no memory nothing was
abbrev pub with_reply : HostReply → List Reply → List Reply
with_reply (HostReply.Values vs) replies = replies_values vs ∷ replies
with_reply (HostReply.Fail text) replies = replies_failure text ∷ replies
with_reply HostReply.OutOfMemory replies = replies

abbrev pub replies_in_log : List LogEntry → List Reply
replies_in_log [] = []
replies_in_log (entry ∷ log) = with_reply entry.reply (replies_in_log log)

abbrev pub replies_of : World → List Reply
replies_of w = replies_in_log (calls_of w)

-- no host was asked, and none closed
abbrev pub Unasked : World → Type 0
Unasked w = w.behind ≡ w.before
