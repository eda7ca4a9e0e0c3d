-- A machine with one frame in the place of the topmost one, whose cells are closed: what is seen of it, and that it is whole.
use Rattle.std.proofs.Common.{◌≡◌, ℕ, ◌<◌, suc, List, ◌∷◌, length, map, reverse, Some, sym, ap, subst, ◌∙◌}
use Rattle.std.specs.List.{All}
use Rattle.std.proofs.lemmas.List.Elements.{All-weaker}
use Rattle.proto.specs.Chunk.{Chunk}
use Rattle.lua_model.specs.declared.ClosureId.{ClosureId}
use Rattle.lua_model.specs.declared.Value.{Value}
use Rattle.lua_model.specs.Datum.{extra_of}
use Rattle.lua_heap.specs.State.{HeapState, ClosureState, AreOf, Keeps, store_of}
use Rattle.rules.specs.State.{Goes}
use Rattle.rules.specs.Words.{is_vararg}
use Rattle.rules.specs.Cells.{close_one, close_from}
use Rattle.rules.specs.Calls.{begin, frame_of}
use Rattle.upvalue.specs.State.{StackState, top, below, cells_of}
use Rattle.upvalue.specs.Captured.{closed_from}
use Rattle.upvalue.specs.Shared.{Shares}
use Rattle.machine.specs.declared.function.Function.{Function}
use Rattle.machine.specs.declared.frame.Frame.{Frame}
use Rattle.machine.specs.declared.running.Running.{Running}
use Rattle.machine.specs.Frames.{data_of, landing_of}
use Rattle.machine.specs.Loaded.{all_functions, IsLoadedAs}
use Rattle.machine.specs.Seen.{Around, numbered, cells_in, frame_seen, frames_seen, closure_seen, seen}
use Rattle.machine.specs.Whole.{IsFrameOf, AreWaiting, IsSafe}
use Rattle.machine.proofs.SeenStates.{below_known, frames_kept, depth_is, frame_stays, constants_stay, length-below}
use Rattle.machine.proofs.FramesAbove.{made_frame, BeginAlone, begins_made}

-- the stack and the heap then
pub record IsPlaced (old : Running) (heap : HeapState) (stack : StackState) : Type 0 where
  pub frames : stack.frames ≡ top stack.frames ∷ below old.stack.frames
  pub shares : Shares stack heap
  pub cells : cells_of stack.frames heap ≡ closed_from old.heap old.stack.frames 0 (cells_of old.stack.frames old.heap)
  pub closures : heap.closures ≡ old.heap.closures
  pub keeps : Keeps old.heap heap

module _ (fs : List Function) (old : Running) (heap : HeapState) (stack : StackState) (safe : IsSafe fs old) (placed : IsPlaced old heap stack) where
  below_seen : (c : Chunk) → frames_seen c heap (reverse old.below.items) (below stack.frames) ≡ frames_seen c old.heap (reverse old.below.items) (below old.stack.frames)
  below_seen c =
      ap (λ frames. frames_seen c heap (reverse old.below.items) (below frames)) placed.frames
      ∙ frames_kept c old.heap heap fs (reverse old.below.items) (below old.stack.frames) placed.keeps placed.closures safe.lower (below_known old.heap old.stack.frames safe.shares.known)

  seen_in_place : (c : Chunk) (a : Around) (frame : Frame) → seen c a (record old { heap = heap; stack = stack; top = frame }) ≡ record (close_from (seen c a old) 0) { top = frame_seen c heap frame (top stack.frames); store = store_of heap a.hosts }
  seen_in_place c a frame =
      let m = seen c a old in
      let cells_are : cells_of stack.frames heap ≡ (close_from m 0).cells =
      placed.cells ∙ ap (λ n. map (close_one n 0 m.top.registers) m.cells) (sym (depth_is c a fs old safe)) in
      λ i. record m {
        top = frame_seen c heap frame (top stack.frames);
        below = below_seen c i;
        cells = cells_are i;
        closures = map (closure_seen c) (placed.closures i);
        store = store_of heap a.hosts;
      }

  -- it awaits what the topmost one did
  pub safe_in_place : (frame : Frame) → IsFrameOf old.heap fs frame → frame.landing ≡ old.top.landing → IsSafe fs (record old { heap = heap; stack = stack; top = frame })
  safe_in_place frame known same = record {
    shares = placed.shares;
    depth = ap length placed.frames ∙ ap suc (length-below old.stack.frames (length old.below.items) safe.depth);
    constants = constants_stay old.heap heap fs placed.keeps safe.constants;
    room = safe.room;
    top_frame = frame_stays old.heap heap fs frame placed.keeps placed.closures known;
    lower = All-weaker (IsFrameOf old.heap fs) (IsFrameOf heap fs) (λ x lower. frame_stays old.heap heap fs x placed.keeps placed.closures lower) (reverse old.below.items) safe.lower;
    closures = subst (λ (cs : List ClosureState). All (λ f. f.function < length fs) cs) (sym placed.closures) safe.closures;
    waiting =
        subst (λ (frames : List (List Value)). AreWaiting fs frame.landing (reverse old.below.items) (below frames)) (sym placed.frames)
        (subst (λ landing. AreWaiting fs landing (reverse old.below.items) (below old.stack.frames)) (sym same) safe.waiting);
  }

  -- where its registers begin as they do by themselves, it begins in the machine
  pub begins_in_place : (c : Chunk) (a : Around) (number : ℕ) (closure : ClosureId) (f : Function) (args extra : List Value) → IsLoadedAs old.heap (all_functions c) (numbered c number) f → AreOf old.heap extra → data_of old.heap extra ≡ extra_of (is_vararg f.vararg) f.params (data_of old.heap args) → BeginAlone f args extra (top stack.frames) old.heap heap → begin (record (close_from (seen c a old) 0) { top = frame_of (record { function = numbered c number; cells = cells_in old.heap (Some closure) }) (data_of old.heap args) (landing_of old.top.landing) old.top.protections }) ≡ Goes (seen c a (record old { heap = heap; stack = stack; top = made_frame number closure extra old.top.landing old.top.protections }))
  begins_in_place c a number closure f args extra loaded known extra_is begins =
      begins_made c (close_from (seen c a old) 0) old.heap heap (top stack.frames) number closure f args extra old.top.landing old.top.protections placed.keeps placed.closures loaded known extra_is begins
      ∙ ap Goes (sym (seen_in_place c a (made_frame number closure extra old.top.landing old.top.protections)))
