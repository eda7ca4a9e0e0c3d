-- A machine with one frame more above: what is seen of it, and that it is whole.
use Rattle.std.proofs.Common.{◌≡◌, ℕ, ◌<◌, List, [], ◌∷◌, ◌++◌, length, take, map, reverse, None, Some, sym, ap, subst, ◌∙◌, arith}
use Rattle.std.specs.Prelude.{slice_get}
use Rattle.std.specs.List.{All}
use Rattle.std.proofs.lemmas.List.{length-append, reverse-append}
use Rattle.std.proofs.lemmas.List.Elements.{All-cons, All-weaker}
use Rattle.std.proofs.lemmas.Option.{slice_get-get_or}
use Rattle.proto.specs.Chunk.{Chunk, own}
use Rattle.lua_model.specs.declared.ClosureId.{ClosureId}
use Rattle.lua_model.specs.declared.Value.{Value}
use Rattle.lua_model.specs.Datum.{adjusted, extra_of}
use Rattle.lua_heap.specs.State.{HeapState, ClosureState, AreOf, Keeps, OnlyTables, store_of}
use Rattle.lua_heap.proofs.Callers.{data_are_kept}
use Rattle.rules.specs.State.{State, Goes}
use Rattle.rules.specs.Words.{is_vararg}
use Rattle.rules.specs.Calls.{begin, frame_of}
use Rattle.upvalue.specs.State.{top, below, cells_of}
use Rattle.upvalue.specs.Shared.{Shares}
use Rattle.machine.specs.declared.function.Function.{Function}
use Rattle.machine.specs.declared.frame.Frame.{Frame}
use Rattle.machine.specs.declared.did.Landing.{Landing}
use Rattle.machine.specs.declared.running.Running.{Running}
use Rattle.machine.specs.Frames.{data_of, landing_of, showing}
use Rattle.machine.specs.Loaded.{all_functions, IsLoadedAs, AreLoaded}
use Rattle.machine.specs.Seen.{Around, numbered, cells_in, frame_seen, frames_seen, closure_seen, seen}
use Rattle.machine.specs.Whole.{IsClosureOf, IsFrameOf, IsWaiting, AreWaiting, IsSafe}
use Rattle.machine.proofs.SeenStates.{same_upvalues, frame_stays, constants_stay, frames_kept}
use Rattle.machine.proofs.MadeFrames.{begun}

pub record HasAbove (old new : Running) (frame : Frame) : Type 0 where
  pub top_is : new.top ≡ frame
  pub below_is : new.below.items ≡ old.below.items ++ old.top ∷ []
  pub frames : new.stack.frames ≡ top new.stack.frames ∷ old.stack.frames
  pub shares : Shares new.stack new.heap
  pub cells : cells_of new.stack.frames new.heap ≡ cells_of old.stack.frames old.heap
  pub only_tables : OnlyTables old.heap new.heap
  pub keeps : Keeps old.heap new.heap

-- ---- one frame more

module _ (fs : List Function) (old new : Running) (frame : Frame) (safe : IsSafe fs old) (above : HasAbove old new frame) where
  same_closures : new.heap.closures ≡ old.heap.closures
  same_closures = ap (λ (h : HeapState). h.closures) above.only_tables

  reversed : reverse new.below.items ≡ old.top ∷ reverse old.below.items
  reversed = ap reverse above.below_is ∙ reverse-append old.below.items (old.top ∷ [])

  known : All (IsFrameOf old.heap fs) (old.top ∷ reverse old.below.items)
  known = All-cons (IsFrameOf old.heap fs) old.top (reverse old.below.items) safe.top_frame safe.lower

  below_seen : (c : Chunk) → frames_seen c new.heap (reverse new.below.items) (below new.stack.frames) ≡ frame_seen c old.heap old.top (top old.stack.frames) ∷ frames_seen c old.heap (reverse old.below.items) (below old.stack.frames)
  below_seen c =
      (λ i. frames_seen c new.heap (reversed i) (below (above.frames i)))
      ∙ frames_kept c old.heap new.heap fs (old.top ∷ reverse old.below.items) old.stack.frames above.keeps same_closures known safe.shares.known

  pub seen_above : (c : Chunk) (a : Around) → seen c a new ≡ record (seen c a old) { top = frame_seen c new.heap frame (top new.stack.frames); below = (seen c a old).top ∷ (seen c a old).below; store = store_of new.heap a.hosts }
  seen_above c a i = record (seen c a old) {
    top = frame_seen c new.heap (above.top_is i) (top new.stack.frames);
    below = below_seen c i;
    cells = above.cells i;
    closures = map (closure_seen c) (same_closures i);
    store = store_of new.heap a.hosts;
  }

  pub safe_above : IsFrameOf old.heap fs frame → IsWaiting fs frame.landing old.top (top old.stack.frames) → IsSafe fs new
  safe_above frame_known waits = record {
    shares = above.shares;
    depth = omega (arith, ap length above.frames, safe.depth, ap length above.below_is, length-append old.below.items (old.top ∷ []));
    constants = constants_stay old.heap new.heap fs above.keeps safe.constants;
    room = safe.room;
    top_frame = subst (IsFrameOf new.heap fs) (sym above.top_is) (frame_stays old.heap new.heap fs frame above.keeps same_closures frame_known);
    lower = subst (λ (xs : List Frame). All (IsFrameOf new.heap fs) xs) (sym reversed) (All-weaker (IsFrameOf old.heap fs) (IsFrameOf new.heap fs) (λ x known. frame_stays old.heap new.heap fs x above.keeps same_closures known) (old.top ∷ reverse old.below.items) known);
    closures = subst (λ (cs : List ClosureState). All (λ f. f.function < length fs) cs) (sym same_closures) safe.closures;
    waiting = waiting_above (waits, safe.waiting);
  }
    where
      waiting_above : AreWaiting fs frame.landing (old.top ∷ reverse old.below.items) old.stack.frames → AreWaiting fs new.top.landing (reverse new.below.items) (below new.stack.frames)
      waiting_above waiting =
          let At : Frame → List Frame → List (List Value) → Type 0 = λ x xs frames. AreWaiting fs x.landing xs frames in
          subst (λ (x : Frame). At x (reverse new.below.items) (below new.stack.frames)) (sym above.top_is)
          (subst (λ (xs : List Frame). At frame xs (below new.stack.frames)) (sym reversed)
          (subst (λ (frames : List (List Value)). At frame (old.top ∷ reverse old.below.items) (below frames)) (sym above.frames) waiting))

-- ---- a frame of a function

abbrev pub made_frame : (number : ℕ) (closure : ClosureId) (extra : List Value) (landing : Landing) (protections : ℕ) → Frame
made_frame number closure extra landing protections = record {
  function = number;
  closure = Some closure;
  pc = 0;
  extra = extra;
  results = None;
  landing = landing;
  protections = protections;
}

pub made_known : (h : HeapState) (fs : List Function) (number : ℕ) (closure : ClosureId) (extra : List Value) (landing : Landing) (protections : ℕ) → number < length fs → IsClosureOf h (Some closure) → AreOf h extra → IsFrameOf h fs (made_frame number closure extra landing protections)
made_known h fs number closure extra landing protections function is known = record { function = function; closure = is; extra = known; results = tt }

-- the function of a chunk has the shape of the one that was loaded
pub loaded_at : (c : Chunk) (h : HeapState) (fs : List Function) (number : ℕ) (f : Function) → AreLoaded h (all_functions c) fs → number < length fs → slice_get fs number ≡ Some f → IsLoadedAs h (all_functions c) (numbered c number) f
loaded_at c h fs number f loaded within at =
    loaded.each number (numbered c number) f (slice_get-get_or (all_functions c) number c (omega (arith, within, loaded.count))) at

-- how registers of a function begin by themselves, with their arguments, from one heap to the next
abbrev pub BeginAlone : Function → (args extra registers : List Value) → (old new : HeapState) → Type 0
BeginAlone f args extra registers old new =
    (m : State) → (own m.top.function).params ≡ f.params → (own m.top.function).flags ≡ f.vararg → m.top.extra ≡ data_of old extra → begin (begun m old (adjusted f.registers (take f.params (data_of old args)))) ≡ Goes (showing m new registers)

-- then a state with a new frame of the function and the store of the first heap begins: the frame is the one that was made, and the store the second heap's
pub begins_made : (c : Chunk) (base : State) (old new : HeapState) (registers : List Value) (number : ℕ) (closure : ClosureId) (f : Function) (args extra : List Value) (landing : Landing) (protections : ℕ) → Keeps old new → new.closures ≡ old.closures → IsLoadedAs old (all_functions c) (numbered c number) f → AreOf old extra → data_of old extra ≡ extra_of (is_vararg f.vararg) f.params (data_of old args) → BeginAlone f args extra registers old new → begin (record base { top = frame_of (record { function = numbered c number; cells = cells_in old (Some closure) }) (data_of old args) (landing_of landing) protections; store = store_of old base.store.hosts }) ≡ Goes (record base { top = frame_seen c new (made_frame number closure extra landing protections) registers; store = store_of new base.store.hosts })
begins_made c base old new registers number closure f args extra landing protections keeps same loaded known extra_is begins =
    let given = data_of old args in
    let frame = frame_of (record { function = numbered c number; cells = cells_in old (Some closure) }) given (landing_of landing) protections in
    let m : State = record base { top = frame } in
    let fitted : frame.registers ≡ adjusted f.registers (take f.params given) = λ i. adjusted (sym loaded.registers i) (take (sym loaded.params i) given) in
    let further : frame.extra ≡ data_of old extra = (λ i. extra_of (is_vararg (sym loaded.vararg i)) (sym loaded.params i) given) ∙ sym extra_is in
    let kept : frame.extra ≡ data_of new extra = further ∙ sym (data_are_kept old new keeps extra known) in
    let upvalues : cells_in old (Some closure) ≡ cells_in new (Some closure) = sym (same_upvalues new old (Some closure) same) in
    ap (λ ds. begin (begun m old ds)) fitted
    ∙ begins m (sym loaded.params) (sym loaded.vararg) further
    ∙ (λ i. Goes (record (showing m new registers) { top = record frame { cells = upvalues i; extra = kept i; registers = data_of new registers } }))

-- where its registers begin as they do by themselves, it begins in the machine
pub begins_above : (c : Chunk) (a : Around) (fs : List Function) (old new : Running) (number : ℕ) (closure : ClosureId) (f : Function) (args extra : List Value) (landing : Landing) (protections : ℕ) → IsSafe fs old → HasAbove old new (made_frame number closure extra landing protections) → IsLoadedAs old.heap (all_functions c) (numbered c number) f → AreOf old.heap extra → data_of old.heap extra ≡ extra_of (is_vararg f.vararg) f.params (data_of old.heap args) → BeginAlone f args extra (top new.stack.frames) old.heap new.heap → begin (record (seen c a old) { top = frame_of (record { function = numbered c number; cells = cells_in old.heap (Some closure) }) (data_of old.heap args) (landing_of landing) protections; below = (seen c a old).top ∷ (seen c a old).below }) ≡ Goes (seen c a new)
begins_above c a fs old new number closure f args extra landing protections safe above loaded known extra_is begins =
    begins_made c (record (seen c a old) { below = (seen c a old).top ∷ (seen c a old).below }) old.heap new.heap (top new.stack.frames) number closure f args extra landing protections above.keeps (ap (λ (h : HeapState). h.closures) above.only_tables) loaded known extra_is begins
    ∙ ap Goes (sym (seen_above fs old new (made_frame number closure extra landing protections) safe above c a))
