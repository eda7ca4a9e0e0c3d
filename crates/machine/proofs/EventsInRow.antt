-- Events in a row: their pieces, replies and calls, and what happened where those of one part happened and then those of another.
use Rattle.std.proofs.Common.{◌≡◌, List, [], ◌∷◌, ◌++◌, refl, sym, ap, ◌∙◌, append_assoc}
use Rattle.lua_num.specs.Bytes.{Text}
use Rattle.lua_model.specs.Store.{Event, Host, Reply, printed, asked, closed}
use Rattle.host.specs.declared.log.LogEntry.{LogEntry}
use Rattle.host.specs.Hosts.{HostSetState}
use Rattle.machine.specs.Outside.{around, hosts_of, pieces_in, replies_in, logged, calls_in, hosts_behind, Happened}

pub pieces_in-append : (es fs : List Event) → pieces_in (es ++ fs) ≡ pieces_in es ++ pieces_in fs
pieces_in-append [] fs = refl
pieces_in-append (printed piece ∷ es) fs = ap (λ (ps : List Text). piece ∷ ps) (pieces_in-append es fs)
pieces_in-append (asked host args reply ∷ es) fs = pieces_in-append es fs
pieces_in-append (closed host ∷ es) fs = pieces_in-append es fs

pub replies_in-append : (es fs : List Event) → replies_in (es ++ fs) ≡ replies_in es ++ replies_in fs
replies_in-append [] fs = refl
replies_in-append (printed piece ∷ es) fs = replies_in-append es fs
replies_in-append (asked host args reply ∷ es) fs = ap (λ (rs : List Reply). reply ∷ rs) (replies_in-append es fs)
replies_in-append (closed host ∷ es) fs = replies_in-append es fs

pub calls_in-append : (es fs : List Event) → calls_in (es ++ fs) ≡ calls_in es ++ calls_in fs
calls_in-append [] fs = refl
calls_in-append (printed piece ∷ es) fs = calls_in-append es fs
calls_in-append (asked host args reply ∷ es) fs = ap (λ (cs : List LogEntry). record { host = host; args = args; reply = logged reply } ∷ cs) (calls_in-append es fs)
calls_in-append (closed host ∷ es) fs = calls_in-append es fs

pub hosts_behind-append : (es fs : List Event) (hosts : List Host) → hosts_behind (es ++ fs) hosts ≡ hosts_behind fs (hosts_behind es hosts)
hosts_behind-append [] fs hosts = refl
hosts_behind-append (printed piece ∷ es) fs hosts = hosts_behind-append es fs hosts
hosts_behind-append (asked host args reply ∷ es) fs hosts = hosts_behind-append es fs hosts
hosts_behind-append (closed host ∷ es) fs hosts = hosts_behind-append es fs _

-- hosts behind those of both parts
pub closed_in_row : (es fs : List Event) (before middle behind : HostSetState) → hosts_of middle ≡ hosts_behind es (hosts_of before) → hosts_of behind ≡ hosts_behind fs (hosts_of middle) → hosts_of behind ≡ hosts_behind (es ++ fs) (hosts_of before)
closed_in_row es fs before middle behind first next = next ∙ ap (hosts_behind fs) first ∙ sym (hosts_behind-append es fs (hosts_of before))

-- those of both parts happened
pub happened_in_row : (es fs : List Event) (first between last : List Text) (before middle behind : HostSetState) → Happened es first between before middle → Happened fs between last middle behind → Happened (es ++ fs) first last before behind
happened_in_row es fs first between last before middle behind a b = record {
  pieces =
      b.pieces
      ∙ ap (λ (ps : List Text). ps ++ pieces_in fs) a.pieces
      ∙ append_assoc first (pieces_in es) (pieces_in fs)
      ∙ ap (λ (ps : List Text). first ++ ps) (sym (pieces_in-append es fs));
  log =
      b.log
      ∙ ap (λ (log : List LogEntry). log ++ calls_in fs) a.log
      ∙ append_assoc before.log (calls_in es) (calls_in fs)
      ∙ ap (λ (log : List LogEntry). before.log ++ log) (sym (calls_in-append es fs));
  names = b.names ∙ a.names;
  closes = closed_in_row es fs before middle behind a.closes b.closes;
}

-- before both, the replies of both are left
pub around_first : (set : HostSetState) (events es fs : List Event) (left : List Reply) → around set events (replies_in (es ++ fs) ++ left) ≡ around set events (replies_in es ++ (replies_in fs ++ left))
around_first set events es fs left =
    ap (around set events) (ap (λ (rs : List Reply). rs ++ left) (replies_in-append es fs) ∙ append_assoc (replies_in es) (replies_in fs) left)

-- behind both, both have happened
pub around_last : (set : HostSetState) (events es fs : List Event) (left : List Reply) → around set ((events ++ es) ++ fs) left ≡ around set (events ++ (es ++ fs)) left
around_last set events es fs left = ap (λ (now : List Event). around set now left) (append_assoc events es fs)
