-- The frame of the main function at the beginning of a run: the functions of a sound chunk have room, the first state begins, and all is safe.
use Rattle.std.proofs.Common.{◌≡◌, ℕ, ◌-◌, ◌<◌, ◌≤◌, Bool, true, false, List, [], ◌∷◌, length, map, reverse, take, get_or, None, Some, refl, sym, ap, subst, ◌∙◌, arith}
use Rattle.std.specs.Prelude.{slice_get}
use Rattle.std.specs.List.{All}
use Rattle.std.proofs.Math.Seq.{drop-nil}
use Rattle.std.proofs.lemmas.Bool.{eq-eqb}
use Rattle.std.proofs.lemmas.List.Elements.{All-append, All-cons, All-nil, All-get_or}
use Rattle.std.proofs.lemmas.Option.{slice_get_within, slice_get_read, get_or_from_slice_get}
use Rattle.proto.specs.Chunk.{Chunk, Functions, function, no_functions, and_function, own}
use Rattle.lua_model.specs.Datum.{adjusted, extra_of}
use Rattle.lua_model.specs.Store.{Host, Reply}
use Rattle.lua_model.specs.Builtins.{start}
use Rattle.lua_heap.specs.State.{HeapState, ClosureState, IsOf, Keeps, store_of}
use Rattle.lua_heap.specs.Grown.{Grown}
use Rattle.lua_heap.proofs.Callers.{values_are_kept}
use Rattle.host.specs.Hosts.{HostSetState}
use Rattle.rules.specs.State.{Goes}
use Rattle.rules.specs.Words.{is_vararg}
use Rattle.rules.specs.Calls.{begin}
use Rattle.rules.specs.Run.{first_state, after}
use Rattle.rules.specs.Sound.{IsSound, AreSound, Sound}
use Rattle.rules.proofs.Invariant.{Known}
use Rattle.rules.proofs.Starting.{known_of, enough_registers, arg_register}
use Rattle.upvalue.specs.State.{top, below, cells_of}
use Rattle.upvalue.specs.Shared.{Shares}
use Rattle.machine.specs.declared.function.Function.{Function}
use Rattle.machine.specs.declared.frame.Frame.{Frame}
use Rattle.machine.specs.declared.did.Landing.{Landing}
use Rattle.machine.specs.declared.running.Running.{Running}
use Rattle.machine.specs.declared.machine.Machine.{Machine}
use Rattle.machine.specs.At.{IsAt}
use Rattle.machine.specs.Frames.{data_of, showing}
use Rattle.machine.specs.Loaded.{all_functions, all_in, IsLoadedAs, AreLoaded}
use Rattle.machine.specs.Outside.{hosts_of, AreNamed}
use Rattle.machine.specs.Seen.{numbered, frame_seen, frames_seen, closure_seen, seen}
use Rattle.machine.specs.Whole.{IsFrameOf, HasRoom, AreWaiting, IsSafe}
use Rattle.machine.proofs.FramesAbove.{loaded_at, BeginAlone}
use Rattle.machine.proofs.Loading.{main_is}
use Rattle.machine.proofs.SeenStates.{loaded_stays}

-- ---- room for parameters, and for the table of further arguments

-- a function has it
abbrev Fits : Chunk → Type 0
Fits c = ((own c).params ≤ (own c).registers) × ((own c).flags ≡ 7 → (own c).params < (own c).registers)

known_fits : (c : Chunk) → Known c → Fits c
known_fits c known = (enough_registers c known, λ seven. arg_register c known (eq-eqb (own c).flags 7 seven))

mutual
  all_fit : (c : Chunk) (main : Bool) → IsSound c main → All Fits (all_functions c)
  all_fit (function f inner) main sound =
      All-append Fits (all_in inner) (function f inner ∷ []) (inner_fit inner sound.1)
      (All-cons Fits (function f inner) [] (known_fits (function f inner) (known_of (function f inner) main sound)) (All-nil Fits))

  inner_fit : (inner : Functions) → AreSound inner → All Fits (all_in inner)
  inner_fit no_functions sound = All-nil Fits
  inner_fit (and_function c rest) sound = All-append Fits (all_functions c) (all_in rest) (all_fit c false sound.0) (inner_fit rest sound.1)

module _ (c : Chunk) (h : HeapState) (fs : List Function) (loaded : AreLoaded h (all_functions c) fs) where
  -- a function that was loaded is one of the chunk
  pub loaded_here : (n : ℕ) (f : Function) → slice_get fs n ≡ Some f → IsLoadedAs h (all_functions c) (numbered c n) f
  loaded_here n f at = loaded_at c h fs n f loaded (slice_get_within fs n f at) at

  pub room_is : Sound c → (n : ℕ) → HasRoom fs n
  room_is sound n f at =
      let one = loaded_here n f at in
      let within : n < length (all_functions c) = omega (arith, slice_get_within fs n f at, loaded.count) in
      let fits = All-get_or Fits (all_functions c) n c within (all_fit c true sound) in (
        omega (arith, one.params, one.registers, fits.0),
        λ seven. omega (arith, one.params, one.registers, fits.1 (sym one.vararg ∙ seven)),
      )

  -- ---- the main function

  pub some_function : 0 < length fs
  some_function = omega (arith, loaded.count, slice_get_within (all_functions c) (length (all_functions c) - 1) c (main_is c))

  pub main_at : (f : Function) → f ≡ get_or fs (length fs - 1) f → slice_get fs (length fs - 1) ≡ Some f
  main_at f is = slice_get_read fs (length fs) (length fs - 1) f refl (omega (arith, some_function)) is

  pub main_here : numbered c (length fs - 1) ≡ c
  main_here = ap (λ n. numbered c (n - 1)) loaded.count ∙ get_or_from_slice_get (all_functions c) (length (all_functions c) - 1) c c (main_is c)

-- ---- the first frame

abbrev pub main_frame : ℕ → Frame
main_frame number = record { function = number; closure = None; pc = 0; extra = []; results = None; landing = Landing.Nowhere; protections = 0 }

-- all that runs is this frame
pub record IsFirst (old : HeapState) (fs : List Function) (k : Running) : Type 0 where
  pub top_is : k.top ≡ main_frame (length fs - 1)
  pub below_is : k.below.items ≡ []
  pub frames : k.stack.frames ≡ top k.stack.frames ∷ []
  pub shares : Shares k.stack k.heap
  pub cells : cells_of k.stack.frames k.heap ≡ []
  pub closures : k.heap.closures ≡ []
  pub keeps : Keeps old k.heap

-- the first state of a chunk with the store of a heap begins as what runs
abbrev pub Begins : Chunk → HeapState → Running → Type 0
Begins c h k =
    (hosts : List Host) (replies : List Reply) → begin (first_state c (store_of h hosts) replies) ≡ Goes (seen c (record { hosts = hosts; outside = record { events = []; replies = replies } }) k)

no_extra : (vararg : Bool) (params : ℕ) → extra_of vararg params [] ≡ []
no_extra false params = refl
no_extra true params = drop-nil params

module _ (c : Chunk) (old : HeapState) (fs : List Function) (k : Running) (first : IsFirst old fs k) (loaded : AreLoaded old (all_functions c) fs) where
  below_seen : frames_seen c k.heap (reverse k.below.items) (below k.stack.frames) ≡ []
  below_seen = ap (λ (xs : List Frame). frames_seen c k.heap (reverse xs) (below k.stack.frames)) first.below_is

  pub first_begins : (f : Function) → slice_get fs (length fs - 1) ≡ Some f → BeginAlone f [] [] (top k.stack.frames) old k.heap → Begins c old k
  first_begins f at begins hosts replies =
      let m = first_state c (store_of old hosts) replies in
      let main = main_here c old fs loaded in
      let one : IsLoadedAs old (all_functions c) c f = subst (λ (d : Chunk). IsLoadedAs old (all_functions c) d f) main (loaded_here c old fs loaded (length fs - 1) f at) in
      let extra = no_extra (is_vararg (own c).flags) (own c).params in
      (λ i. begin (record m { top = record m.top { registers = adjusted (sym one.registers i) (take (sym one.params i) []) } }))
      ∙ begins m (sym one.params) (sym one.vararg) extra
      ∙ (λ i. Goes (record (showing m k.heap (top k.stack.frames)) {
        top = record m.top { function = sym main i; extra = extra i; registers = data_of k.heap (top k.stack.frames) };
        below = sym below_seen i;
        cells = sym first.cells i;
        closures = map (closure_seen c) (sym first.closures i);
      }))
      ∙ (λ i. Goes (record (seen c (record { hosts = hosts; outside = m.outside }) k) { top = frame_seen c k.heap (sym first.top_is i) (top k.stack.frames) }))

  pub first_safe : Sound c → IsSafe fs k
  first_safe sound = record {
    shares = first.shares;
    depth = omega (arith, ap length first.frames, ap length first.below_is);
    constants = λ n f at. values_are_kept old k.heap first.keeps f.constants.items (loaded_here c old fs loaded n f at).known;
    room = room_is c old fs loaded sound;
    top_frame = subst (IsFrameOf k.heap fs) (sym first.top_is) (record { function = omega (arith, some_function c old fs loaded); closure = tt; extra = All-nil (IsOf k.heap); results = tt });
    lower = subst (λ (xs : List Frame). All (IsFrameOf k.heap fs) (reverse xs)) (sym first.below_is) (All-nil (IsFrameOf k.heap fs));
    closures = subst (λ (cs : List ClosureState). All (λ f. f.function < length fs) cs) (sym first.closures) (All-nil (λ (f : ClosureState). f.function < length fs));
    waiting = subst (λ (xs : List Frame). AreWaiting fs k.top.landing (reverse xs) (below k.stack.frames)) (sym first.below_is) tt;
  }

-- ---- the machine

-- functions that were loaded into the heap at the start are at the first state of the chunk's run where they begin
pub at_first : {set : HostSetState} {made heap : HeapState} {k : Machine} (c : Chunk) → store_of made (hosts_of set) ≡ start (hosts_of set) → AreNamed made set → Grown made heap → AreLoaded heap (all_functions c) k.functions.items → Begins c heap k.running → IsSafe k.functions.items k.running → Keeps heap k.running.heap → k.running.heap.host_names ≡ heap.host_names → k.running.pieces.items ≡ [] → IsAt c (hosts_of set) [] 0 set k
at_first {set = set} {made = made} {heap = heap} {k = k} c stored named grown loaded begins safe keeps same_names none = record {
  runs = λ left.
      ap (λ store. after (first_state c store left) (begin (first_state c store left))) (sym stored ∙ sym (ap (λ h. store_of h (hosts_of set)) grown.only_texts))
      ∙ ap (after (first_state c (store_of heap (hosts_of set)) left)) (begins (hosts_of set) left);
  whole = record { safe = safe; loaded = loaded_stays heap k.running.heap (all_functions c) k.functions.items keeps loaded };
  named = same_names ∙ ap (λ (h : HeapState). h.host_names) grown.only_texts ∙ named;
  put = none;
}
