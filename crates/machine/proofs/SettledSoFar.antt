-- What a step has come to so far: from what was to be done at first to what is to be done now, with all that happened outside between.
use Rattle.std.proofs.Common.{◌≡◌, List, [], ◌++◌, append_assoc, append-nil, None, Some, refl, sym, ap, subst, ◌∙◌}
use Rattle.lua_num.specs.Bytes.{Text}
use Rattle.proto.specs.Chunk.{Chunk}
use Rattle.lua_model.specs.declared.Value.{Value}
use Rattle.lua_model.specs.Store.{Reply, Event}
use Rattle.lua_model.specs.Builtins.{failure_text}
use Rattle.lua_heap.specs.State.{HeapState, datum, Keeps}
use Rattle.lua_heap.proofs.Callers.{keeps_itself, keeps_both}
use Rattle.host.specs.Hosts.{HostSetState}
use Rattle.rules.specs.State.{State}
use Rattle.rules.specs.Calls.{call}
use Rattle.rules.specs.Run.{after}
use Rattle.machine.specs.declared.function.Function.{Function}
use Rattle.machine.specs.declared.running.Running.{Running}
use Rattle.machine.specs.declared.settling.Settled.{Settled}
use Rattle.machine.specs.declared.did.Did.{Did}
use Rattle.machine.specs.declared.did.Landing.{Landing}
use Rattle.machine.specs.Frames.{data_of, landing_of, effect_of}
use Rattle.machine.specs.Outside.{around, replies_in, Happened, AreNamed}
use Rattle.machine.specs.Seen.{seen}
use Rattle.machine.specs.Settled.{IsAwaitedIn, DoesOutside, Descends, Settles, conf_of}
use Rattle.machine.specs.Whole.{IsSafe, IsWhole}
use Rattle.machine.specs.Words.{IsDidOf}
use Rattle.machine.proofs.SeenStates.{whole_later}
use Rattle.machine.proofs.EventsInRow.{replies_in-append, happened_in_row}

-- ---- so far

pub record SoFar (fs : List Function) (first : Did) (start now : Running) (before behind : HostSetState) (did : Did) : Type 0 where
  pub es : List Event
  pub happened : Happened es start.pieces.items now.pieces.items before behind
  pub is : (c : Chunk) (m0 : State) (events : List Event) (left : List Reply) → IsWhole c fs start → after m0 (effect_of start.heap first (seen c (around before events (replies_in es ++ left)) start)) ≡ after m0 (effect_of now.heap did (seen c (around behind (events ++ es) left) now))
  pub safe : IsSafe fs start → IsSafe fs now
  pub known : IsDidOf now.heap did
  pub awaited : IsAwaitedIn fs now did
  pub keeps : Keeps start.heap now.heap
  pub named : now.heap.host_names ≡ start.heap.host_names

pub begun_so : (fs : List Function) (k : Running) (hosts : HostSetState) (did : Did) → IsDidOf k.heap did → IsAwaitedIn fs k did → SoFar fs did k k hosts hosts did
begun_so fs k hosts did known awaited = record {
  es = [];
  happened = record { pieces = sym (append-nil k.pieces.items); log = sym (append-nil hosts.log); names = refl; closes = refl };
  is = λ c m0 events left whole i. after m0 (effect_of k.heap did (seen c (around hosts (sym (append-nil events) i) left) k));
  safe = λ safe. safe;
  known = known;
  awaited = awaited;
  keeps = keeps_itself k.heap;
  named = refl;
}

pub so_as : (fs : List Function) (first did other : Did) (start now : Running) (before behind : HostSetState) → did ≡ other → SoFar fs first start now before behind did → SoFar fs first start now before behind other
so_as fs first did other start now before behind same so = subst (SoFar fs first start now before behind) same so

-- the heap still names the hosts
pub named_so : (fs : List Function) (first did : Did) (start now : Running) (before behind : HostSetState) → SoFar fs first start now before behind did → AreNamed start.heap before → AreNamed now.heap behind
named_so fs first did start now before behind so named = so.named ∙ named ∙ sym so.happened.names

-- a call more
pub called_so : (fs : List Function) (first did : Did) (start now new : Running) (before between behind : HostSetState) (landing : Landing) (f : Value) (args : List Value) → SoFar fs first start now before between (Did.Calls landing f args) → DoesOutside fs (λ m. call (landing_of landing) m (datum now.heap f) (data_of now.heap args)) now new between behind did → SoFar fs first start new before behind did
called_so fs first did start now new before between behind landing f args so does = record {
  es = so.es ++ does.es;
  happened = happened_in_row so.es does.es start.pieces.items now.pieces.items new.pieces.items before between behind so.happened does.happened;
  is = λ c m0 events left whole.
      let rest : replies_in (so.es ++ does.es) ++ left ≡ replies_in so.es ++ (replies_in does.es ++ left) = ap (λ rs. rs ++ left) (replies_in-append so.es does.es) ∙ append_assoc (replies_in so.es) (replies_in does.es) left in
      let all : (events ++ so.es) ++ does.es ≡ events ++ (so.es ++ does.es) = append_assoc events so.es does.es in
      (λ i. after m0 (effect_of start.heap first (seen c (around before events (rest i)) start)))
      ∙ so.is c m0 events (replies_in does.es ++ left) whole
      ∙ ap (after m0) (does.is c (events ++ so.es) left (whole_later c fs start now whole so.keeps (so.safe whole.safe)))
      ∙ (λ i. after m0 (effect_of new.heap did (seen c (around behind (all i) left) new)));
  safe = λ safe. does.safe (so.safe safe);
  known = does.known;
  awaited = does.awaited;
  keeps = keeps_both start.heap now.heap new.heap so.keeps does.keeps;
  named = does.named ∙ so.named;
}

happened_still : (es : List Event) (first now new : List Text) (before behind : HostSetState) → new ≡ now → Happened es first now before behind → Happened es first new before behind
happened_still es first now new before behind same happened = record { pieces = same ∙ happened.pieces; log = happened.log; names = happened.names; closes = happened.closes }

-- a failure went down a frame
pub descended_so : (fs : List Function) (first did : Did) (start now new : Running) (before behind : HostSetState) (v : Value) → SoFar fs first start now before behind (Did.Fails v) → Descends fs v now new (Some did) → SoFar fs first start new before behind did
descended_so fs first did start now new before behind v so down = record {
  es = so.es;
  happened = happened_still so.es start.pieces.items now.pieces.items new.pieces.items before behind (ap (λ ps. ps.items) down.pieces) so.happened;
  is = λ c m0 events left whole.
      so.is c m0 events left whole
      ∙ down.is c (around behind (events ++ so.es) left) m0 (whole_later c fs start now whole so.keeps (so.safe whole.safe));
  safe = λ safe. down.safe (so.safe safe);
  known = down.known did refl;
  awaited = down.awaited did refl;
  keeps = keeps_both start.heap now.heap new.heap so.keeps down.keeps;
  named = down.named ∙ so.named;
}

-- ---- settled

-- nothing more is to be done, in a machine that differs from the one now as its own fields say
pub settled_so : (fs : List Function) (first did : Did) (start now new : Running) (before behind : HostSetState) (settled : Settled) → SoFar fs first start now before behind did → new.heap ≡ now.heap → new.pieces ≡ now.pieces → (IsSafe fs now → IsSafe fs new) → ((c : Chunk) (m0 : State) (events : List Event) (left : List Reply) → after m0 (effect_of now.heap did (seen c (around behind events left) now)) ≡ conf_of settled (seen c (around behind events left) new)) → Settles fs first start new before behind settled
settled_so fs first did start now new before behind settled so same_heap same_pieces safe comes = record {
  es = so.es;
  happened = happened_still so.es start.pieces.items now.pieces.items new.pieces.items before behind (ap (λ ps. ps.items) same_pieces) so.happened;
  is = λ c m0 events left whole. so.is c m0 events left whole ∙ comes c m0 (events ++ so.es) left;
  safe = λ start_safe. safe (so.safe start_safe);
  keeps = subst (Keeps start.heap) (sym same_heap) so.keeps;
  named = ap (λ (h : HeapState). h.host_names) same_heap ∙ so.named;
}

-- no frame was left that could take a failure
pub failed_so : (fs : List Function) (first : Did) (start now new : Running) (before behind : HostSetState) (v : Value) (text : Text) → SoFar fs first start now before behind (Did.Fails v) → Descends fs v now new None → text ≡ failure_text (datum new.heap v) → Settles fs first start new before behind (Settled.Failed text)
failed_so fs first start now new before behind v text so down is = record {
  es = so.es;
  happened = happened_still so.es start.pieces.items now.pieces.items new.pieces.items before behind (ap (λ ps. ps.items) down.pieces) so.happened;
  is = λ c m0 events left whole.
      let b = around behind (events ++ so.es) left in
      so.is c m0 events left whole
      ∙ down.is c b m0 (whole_later c fs start now whole so.keeps (so.safe whole.safe))
      ∙ ap (λ t. conf_of (Settled.Failed t) (seen c b new)) (sym is);
  safe = λ safe. down.safe (so.safe safe);
  keeps = keeps_both start.heap now.heap new.heap so.keeps down.keeps;
  named = down.named ∙ so.named;
}
