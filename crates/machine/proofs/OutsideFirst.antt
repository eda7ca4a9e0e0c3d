-- Calls: what happened outside came first, then a frame was made or results landed; beside the machine's other open results and another pc.
use Rattle.std.proofs.Common.{◌≡◌, ℕ, Vec, Global, ◌<◌, List, ◌++◌, length, map, get_or, Option, Some, refl, sym, ap, subst, ◌∙◌}
use Rattle.std.specs.Prelude.{slice_get, option_map}
use Rattle.std.proofs.lemmas.Option.{slice_get-map, slice_get-get_or}
use Rattle.lua_num.specs.Bytes.{Text}
use Rattle.proto.specs.Chunk.{Chunk}
use Rattle.lua_model.specs.declared.ClosureId.{ClosureId}
use Rattle.lua_model.specs.declared.Value.{Value}
use Rattle.lua_heap.specs.State.{HeapState, datum, Keeps, OnlyTables, no_closure}
use Rattle.lua_heap.proofs.Callers.{keeps_itself, keeps_both, data_are_kept}
use Rattle.host.specs.Hosts.{HostSetState}
use Rattle.rules.specs.State.{State, Effect, Fails}
use Rattle.rules.specs.Calls.{call_by, entered}
use Rattle.upvalue.specs.State.{top, cell_of}
use Rattle.machine.specs.declared.function.Function.{Function}
use Rattle.machine.specs.declared.running.Running.{Running}
use Rattle.machine.specs.declared.did.Did.{Did}
use Rattle.machine.specs.declared.did.OpenResults.{OpenResults}
use Rattle.machine.specs.declared.calling.Called.{Called}
use Rattle.machine.specs.Frames.{data_of, effect_of}
use Rattle.machine.specs.Called.{Enters, Lands, beside, called_as, IsCalledOf, Invokes}
use Rattle.machine.specs.Outside.{around, replies_in, Happened}
use Rattle.machine.specs.Seen.{Around, frame_seen, closure_seen, seen}
use Rattle.machine.specs.Settled.{IsAwaitedIn, DoesOutside}
use Rattle.machine.specs.Whole.{IsSafe, DoesSeen}
use Rattle.machine.specs.Words.{AreResultsOf, IsDidOf}
use Rattle.machine.proofs.LentRegisters.{shares_on}
use Rattle.machine.proofs.SeenStates.{behind_change, safe_at, safe_behind, whole_later, top_known}

-- ---- a machine that has done nothing more

pub stays : (fs : List Function) (effect : State → Effect) (k : Running) (did : Did) → ((c : Chunk) (a : Around) → effect (seen c a k) ≡ effect_of k.heap did (seen c a k)) → IsDidOf k.heap did → IsAwaitedIn fs k did → DoesSeen fs effect k k did
stays fs effect k did is known awaited = record {
  is = λ c a whole. is c a;
  safe = λ safe. safe;
  known = known;
  awaited = awaited;
  keeps = keeps_itself k.heap;
  named = refl;
  pieces = refl;
}

-- a closure that is there is entered
enters_there : (c : Chunk) (a : Around) (k : Running) (enters : Enters) (lands : Lands) (id : ClosureId) (args given : List Value) (p : ℕ) → id.index < length k.heap.closures → given ≡ args → called_as c k.heap enters lands (Called.Enters id args p) (seen c a k) ≡ entered enters lands p (seen c a k) (slice_get (seen c a k).closures id.index) (data_of k.heap given)
enters_there c a k enters lands id args given p there same =
    let m = seen c a k in
    let at : slice_get m.closures id.index ≡ Some (closure_seen c (get_or k.heap.closures id.index no_closure)) =
    slice_get-map (closure_seen c) k.heap.closures id.index
    ∙ ap (option_map (closure_seen c)) (slice_get-get_or k.heap.closures id.index no_closure there) in
    λ i. entered enters lands p m (sym at i) (data_of k.heap (sym same i))

-- ---- a call

module _ (fs : List Function) (old : Running) (heap : HeapState) (pieces : Vec Text Global) (keeps : Keeps old.heap heap) (only : OnlyTables old.heap heap) where
  -- when the call came to something, before a frame is made or results land
  abbrev mid : Running
  mid = record old { heap = heap; pieces = pieces }

  same_closures : heap.closures ≡ old.heap.closures
  same_closures = ap (λ (h : HeapState). h.closures) only

  same_cells : heap.cells ≡ old.heap.cells
  same_cells = ap (λ (h : HeapState). h.cells) only

  pub safe_outside : IsSafe fs old → IsSafe fs (record old { heap = heap; pieces = pieces })
  safe_outside safe =
      let behind = safe_behind fs old heap old.stack safe (shares_on old.stack old.heap heap keeps same_cells safe.shares) keeps same_closures refl in
      record {
        shares = behind.shares;
        depth = behind.depth;
        constants = behind.constants;
        room = behind.room;
        top_frame = behind.top_frame;
        lower = behind.lower;
        closures = behind.closures;
        waiting = behind.waiting;
      }

  seen_outside : (c : Chunk) (a b : Around) → IsSafe fs old → seen c b mid ≡ beside (seen c a old) heap b
  seen_outside c a b safe =
      let values = top old.stack.frames in
      let registers : data_of heap values ≡ data_of old.heap values = data_are_kept old.heap heap keeps values (top_known old.heap old.stack.frames safe.shares.known) in
      behind_change c b fs old heap old.stack safe keeps same_closures refl
      ∙ (λ i. record (beside (seen c a old) heap b) { top = record (frame_seen c old.heap old.top values) { registers = registers i }; cells = map (cell_of old.stack.frames) (same_cells i) })

  -- what was done in that machine was done by the call
  module _ (f : Value) (args : List Value) (called : Called) (before behind : HostSetState) (enters : Enters) (lands : Lands) (invokes : Invokes f args old.heap heap old.pieces.items pieces.items before behind called) where
    first : (effect : State → Effect) (new : Running) (did : Did) → ((c : Chunk) (a : Around) → called_as c heap enters lands called (seen c a mid) ≡ effect (seen c a mid)) → DoesSeen fs effect mid new did → DoesOutside fs (λ m. call_by enters lands m (datum old.heap f) (data_of old.heap args)) old new before behind did
    first effect new did same does = record {
      es = invokes.es;
      happened = subst (λ (ps : Vec Text Global). Happened invokes.es old.pieces.items ps.items before behind) (sym does.pieces) invokes.happened;
      is = λ c events left whole.
          let a = around before events (replies_in invokes.es ++ left) in
          let b = around behind (events ++ invokes.es) left in
          invokes.is c enters lands (seen c a old) events left refl
          ∙ ap (called_as c heap enters lands called) (sym (seen_outside c a b whole.safe))
          ∙ same c b
          ∙ does.is c b (whole_later c fs old mid whole keeps (safe_outside whole.safe));
      safe = λ safe. does.safe (safe_outside safe);
      known = does.known;
      awaited = does.awaited;
      keeps = keeps_both old.heap heap new.heap keeps does.keeps;
      named = does.named ∙ ap (λ (h : HeapState). h.host_names) only;
    }

    pub results_first : (vs : List Value) (new : Running) (did : Did) → called ≡ Called.Results vs → DoesSeen fs (λ m. lands m (data_of heap vs)) mid new did → DoesOutside fs (λ m. call_by enters lands m (datum old.heap f) (data_of old.heap args)) old new before behind did
    results_first vs new did is does =
        first (λ m. lands m (data_of heap vs)) new did (λ c a. ap (λ k. called_as c heap enters lands k (seen c a mid)) is) does

    pub fails_first : (v : Value) → called ≡ Called.Fails v → DoesOutside fs (λ m. call_by enters lands m (datum old.heap f) (data_of old.heap args)) old mid before behind (Did.Fails v)
    fails_first v is =
        first (λ m. Fails m (datum heap v)) mid (Did.Fails v) (λ c a. ap (λ k. called_as c heap enters lands k (seen c a mid)) is) (stays fs (λ m. Fails m (datum heap v)) mid (Did.Fails v) (λ c a. refl) (subst (IsCalledOf heap) is invokes.known) (λ f at. tt))

    pub enters_first : (id : ClosureId) (xs given : List Value) (p : ℕ) (new : Running) (did : Did) → called ≡ Called.Enters id xs p → given ≡ xs → DoesSeen fs (λ m. entered enters lands p m (slice_get m.closures id.index) (data_of heap given)) mid new did → DoesOutside fs (λ m. call_by enters lands m (datum old.heap f) (data_of old.heap args)) old new before behind did
    enters_first id xs given p new did is same does =
        let known = subst (IsCalledOf heap) is invokes.known in
        first (λ m. entered enters lands p m (slice_get m.closures id.index) (data_of heap given)) new did (λ c a. ap (λ k. called_as c heap enters lands k (seen c a mid)) is ∙ enters_there c a mid enters lands id xs given p known.0 same) does

-- ---- another pc, and other open results, in the topmost frame

-- what is done from there was done
pub does_with_results : (fs : List Function) (effect next : State → Effect) (old new : Running) (results : Option OpenResults) (before behind : HostSetState) (did : Did) → AreResultsOf old.heap results → ((c : Chunk) (a : Around) → effect (seen c a old) ≡ next (seen c a (record old { top = record old.top { results = results } }))) → DoesOutside fs next (record old { top = record old.top { results = results } }) new before behind did → DoesOutside fs effect old new before behind did
does_with_results fs effect next old new results before behind did known leads does =
    let safe_then : IsSafe fs old → IsSafe fs (record old { top = record old.top { results = results } }) = λ safe. safe_at fs old old.top.pc results safe known in
    record {
      es = does.es;
      happened = does.happened;
      is = λ c events left whole.
          leads c (around before events (replies_in does.es ++ left))
          ∙ does.is c events left (record { safe = safe_then whole.safe; loaded = whole.loaded });
      safe = λ safe. does.safe (safe_then safe);
      known = does.known;
      awaited = does.awaited;
      keeps = does.keeps;
      named = does.named;
    }
