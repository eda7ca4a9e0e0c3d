-- Where memory ran out within a step: what had happened, from one part of the step to the whole.
use Rattle.std.proofs.Common.{◌≡◌, List, [], ◌++◌, Result, Ok, Err, OnErr, refl, sym, ap, ◌∙◌, append_assoc, append-nil}
use Rattle.lua_num.specs.Bytes.{Text}
use Rattle.lua_model.specs.Store.{Event, Reply}
use Rattle.lua_model.specs.Endings.{IsPrefix}
use Rattle.host.specs.declared.log.LogEntry.{LogEntry}
use Rattle.host.specs.Hosts.{HostSetState}
use Rattle.machine.specs.Outside.{replies_in, calls_in, Happened}
use Rattle.machine.specs.Begun.{BrokeOff}
use Rattle.machine.proofs.EventsInRow.{replies_in-append, calls_in-append, closed_in_row}

pub on_err : {A E P : Type 0} → (r : Result A E) → P → OnErr r P
on_err (Ok x) p = tt
on_err (Err e) p = p

pub on_err_as : {A E P Q : Type 0} → (r : Result A E) → (P → Q) → OnErr r P → OnErr r Q
on_err_as (Ok x) weaker p = tt
on_err_as (Err e) weaker p = weaker p

-- the events of a state in which none more have happened
pub first_none : (events : List Event) → IsPrefix (events ++ []) events
first_none events = ([], sym (append-nil events) ∙ sym (append-nil (events ++ [])))

-- the replies of both parts are left
pub replies_first : (es fs : List Event) (left : List Reply) → replies_in (es ++ fs) ++ left ≡ replies_in es ++ (replies_in fs ++ left)
replies_first es fs left = ap (λ (rs : List Reply). rs ++ left) (replies_in-append es fs) ∙ append_assoc (replies_in es) (replies_in fs) left

-- nothing had happened
pub nothing_broke : {Begins : List Event → Type 0} {set : HostSetState} → Begins [] → BrokeOff Begins set set
nothing_broke {Begins} {set} begins = record {
  begun = [];
  begins = begins;
  closes = refl;
  unanswered = [];
  no_reply = tt;
  log = sym (append-nil set.log) ∙ sym (append-nil (set.log ++ []));
}

-- a part was done, in which these events happened
pub broke_behind : {Begins : List Event → Type 0} {before behind : HostSetState} {es : List Event} {first last : List Text} → Happened es first last before behind → Begins es → BrokeOff Begins before behind
broke_behind {Begins} {before} {behind} {es} happened begins = record {
  begun = es;
  begins = begins;
  closes = happened.closes;
  unanswered = [];
  no_reply = tt;
  log = happened.log ∙ sym (append-nil (before.log ++ calls_in es));
}

-- a part was done, and the next one broke off
pub broke_later : {First Next : List Event → Type 0} {before middle behind : HostSetState} {es : List Event} {first last : List Text} → Happened es first last before middle → ((begun : List Event) → Next begun → First (es ++ begun)) → BrokeOff Next middle behind → BrokeOff First before behind
broke_later {First} {Next} {before} {middle} {behind} {es} happened leads broke = record {
  begun = es ++ broke.begun;
  begins = leads broke.begun broke.begins;
  closes = closed_in_row es broke.begun before middle behind happened.closes broke.closes;
  unanswered = broke.unanswered;
  no_reply = broke.no_reply;
  log =
      broke.log
      ∙ ap (λ (log : List LogEntry). (log ++ calls_in broke.begun) ++ broke.unanswered) happened.log
      ∙ ap (λ (log : List LogEntry). log ++ broke.unanswered) (append_assoc before.log (calls_in es) (calls_in broke.begun) ∙ ap (λ (log : List LogEntry). before.log ++ log) (sym (calls_in-append es broke.begun)));
}

-- what broke off is a part of this
pub broke_as : {First Next : List Event → Type 0} {before behind : HostSetState} → ((begun : List Event) → Next begun → First begun) → BrokeOff Next before behind → BrokeOff First before behind
broke_as leads broke = record {
  begun = broke.begun;
  begins = leads broke.begun broke.begins;
  closes = broke.closes;
  unanswered = broke.unanswered;
  no_reply = broke.no_reply;
  log = broke.log;
}
