-- What a machine runs, as a state of the rules: it shows its own registers and heap, after a word those behind it, and all is safe behind a change.
use Rattle.std.proofs.Common.{◌≡◌, ℕ, Vec, Global, ◌<◌, suc, List, [], ◌∷◌, ◌++◌, length, map, reverse, Option, None, Some, refl, sym, ap, subst, ◌∙◌, arith, length-set}
use Rattle.std.specs.List.{All}
use Rattle.std.proofs.lemmas.List.{length-map, length-reverse}
use Rattle.std.proofs.lemmas.List.Elements.{All-drop, All-take, All-head, All-tail, All-weaker}
use Rattle.std.proofs.Math.Seq.{take-append_seam, drop-append_seam}
use Rattle.std.specs.Prelude.{get_or, slice_get, slice_set}
use Rattle.proto.specs.Chunk.{Chunk}
use Rattle.lua_model.specs.declared.ClosureId.{ClosureId}
use Rattle.lua_model.specs.declared.Value.{Value}
use Rattle.lua_heap.specs.State.{HeapState, CellState, ClosureState, in_stack, held, datum, IsOf, AreOf, Keeps, no_closure}
use Rattle.lua_heap.proofs.Callers.{keeps_itself, data_are_kept, values_are_kept}
use Rattle.rules.specs.State.{State, Effect, Goes, set}
use Rattle.upvalue.specs.State.{StackState, top, below, with_top, in_a_row, size, cells_of, cell_of}
use Rattle.upvalue.specs.Shared.{Shares}
use Rattle.machine.specs.declared.function.Function.{Function}
use Rattle.machine.specs.declared.frame.Frame.{Frame}
use Rattle.machine.specs.declared.running.Running.{Running}
use Rattle.machine.specs.declared.did.Landing.{Landing}
use Rattle.machine.specs.declared.did.OpenResults.{OpenResults}
use Rattle.machine.specs.declared.did.Did.{Did}
use Rattle.machine.specs.Frames.{data_of, showing, effect_of}
use Rattle.machine.specs.Seen.{Around, frame_seen, frames_seen, cells_in, closure_seen, seen}
use Rattle.machine.specs.Loaded.{all_functions, AreLoaded}
use Rattle.machine.specs.Whole.{IsClosureOf, IsFrameOf, IsWaiting, AreWaiting, IsSafe, IsWhole}
use Rattle.machine.specs.Words.{AreThere, IsLanding, AreResultsOf, Runs, Does}
use Rattle.machine.proofs.Items.{results_are_kept}
use Rattle.machine.proofs.LentRegisters.{top-with_top}
use Rattle.machine.proofs.Showing.{set_is}

pub shows_itself : (c : Chunk) (a : Around) (k : Running) → showing (seen c a k) k.heap (top k.stack.frames) ≡ seen c a k
shows_itself c a k = refl

-- ---- a later heap with the same cells and closures

pub same_upvalues : (new old : HeapState) (closure : Option ClosureId) → new.closures ≡ old.closures → cells_in new closure ≡ cells_in old closure
same_upvalues new old None same = refl
same_upvalues new old (Some id) same = ap (λ closures. (get_or closures id.index no_closure).cells) same

pub frame_kept : (c : Chunk) (old new : HeapState) (fs : List Function) (x : Frame) (registers : List Value) → Keeps old new → new.closures ≡ old.closures → IsFrameOf old fs x → AreOf old registers → frame_seen c new x registers ≡ frame_seen c old x registers
frame_kept c old new fs x registers keeps same known registers_known i = record (frame_seen c old x registers) {
  cells = same_upvalues new old x.closure same i;
  registers = data_are_kept old new keeps registers registers_known i;
  extra = data_are_kept old new keeps x.extra known.extra i;
  results = (results_are_kept old new keeps x.results known.results).1 i;
}

pub top_known : (h : HeapState) (frames : List (List Value)) → AreOf h (in_a_row frames) → AreOf h (top frames)
top_known h [] known = known
top_known h (x ∷ rest) known = subst (λ (vs : List Value). AreOf h vs) (drop-append_seam (in_a_row rest) x) (All-drop (IsOf h) (size rest) (in_a_row rest ++ x) known)

pub below_known : (h : HeapState) (frames : List (List Value)) → AreOf h (in_a_row frames) → AreOf h (in_a_row (below frames))
below_known h [] known = known
below_known h (x ∷ rest) known = subst (λ (vs : List Value). AreOf h vs) (take-append_seam (in_a_row rest) x) (All-take (IsOf h) (size rest) (in_a_row rest ++ x) known)

pub frames_kept : (c : Chunk) (old new : HeapState) (fs : List Function) (xs : List Frame) (frames : List (List Value)) → Keeps old new → new.closures ≡ old.closures → All (IsFrameOf old fs) xs → AreOf old (in_a_row frames) → frames_seen c new xs frames ≡ frames_seen c old xs frames
frames_kept c old new fs [] frames keeps same known row = refl
frames_kept c old new fs (x ∷ xs) frames keeps same known row =
    let head = frame_kept c old new fs x (top frames) keeps same (All-head (IsFrameOf old fs) x xs known) (top_known old frames row) in
    let tail = frames_kept c old new fs xs (below frames) keeps same (All-tail (IsFrameOf old fs) x xs known) (below_known old frames row) in
    λ i. head i ∷ tail i

pub cells_with_top : (frames : List (List Value)) (now : List Value) (h : HeapState) → cells_of (with_top frames now) h ≡ cells_of frames h
cells_with_top [] now h = refl
cells_with_top (x ∷ rest) now h = each h.cells
  where
    one : (cell : CellState) → cell_of (now ∷ rest) cell ≡ cell_of (x ∷ rest) cell
    one (in_stack place) = refl
    one (held v) = refl

    each : (cells : List CellState) → map (cell_of (now ∷ rest)) cells ≡ map (cell_of (x ∷ rest)) cells
    each [] = refl
    each (cell ∷ cells) = λ i. one cell i ∷ each cells i

pub sizes-with_top : (frames : List (List Value)) (now : List Value) → length now ≡ length (top frames) → map (λ (vs : List Value). length vs) frames ≡ map (λ (vs : List Value). length vs) (with_top frames now)
sizes-with_top [] now same = refl
sizes-with_top (x ∷ rest) now same = ap (λ n. n ∷ map (λ (vs : List Value). length vs) rest) (sym same)

below-with_top : (frames : List (List Value)) (now : List Value) → below (with_top frames now) ≡ below frames
below-with_top [] now = refl
below-with_top (x ∷ rest) now = refl

pub same_top : (frames : List (List Value)) → frames ≡ with_top frames (top frames)
same_top [] = refl
same_top (x ∷ rest) = refl

-- ---- a word

-- the state behind a change of the heap and the stack that leaves closures and the registers of the frames below
pub behind_change : (c : Chunk) (a : Around) (fs : List Function) (old : Running) (heap : HeapState) (stack : StackState) → IsSafe fs old → Keeps old.heap heap → heap.closures ≡ old.heap.closures → below stack.frames ≡ below old.stack.frames → seen c a (record old { heap = heap; stack = stack }) ≡ record (showing (seen c a old) heap (top stack.frames)) { cells = cells_of stack.frames heap }
behind_change c a fs old heap stack safe keeps closures lower i = record (showing (seen c a old) heap (top stack.frames)) {
  top = record (frame_seen c old.heap old.top (top old.stack.frames)) {
    cells = upvalues i;
    registers = data_of heap (top stack.frames);
    extra = data_are_kept old.heap heap keeps old.top.extra safe.top_frame.extra i;
    results = (results_are_kept old.heap heap keeps old.top.results safe.top_frame.results).1 i;
  };
  below = below_is i;
  cells = cells_of stack.frames heap;
  closures = map (closure_seen c) (closures i);
}
  where
    upvalues : cells_in heap old.top.closure ≡ cells_in old.heap old.top.closure
    upvalues = same_upvalues heap old.heap old.top.closure closures

    below_is : frames_seen c heap (reverse old.below.items) (below stack.frames) ≡ frames_seen c old.heap (reverse old.below.items) (below old.stack.frames)
    below_is =
        ap (frames_seen c heap (reverse old.below.items)) lower
        ∙ frames_kept c old.heap heap fs (reverse old.below.items) (below old.stack.frames) keeps closures safe.lower (below_known old.heap old.stack.frames safe.shares.known)

-- the state behind a word that worked on the registers of the topmost frame and the heap
pub behind_word : (c : Chunk) (a : Around) (fs : List Function) (old : Running) (heap : HeapState) (stack : StackState) → IsSafe fs old → Keeps old.heap heap → heap.closures ≡ old.heap.closures → heap.cells ≡ old.heap.cells → stack.frames ≡ with_top old.stack.frames (top stack.frames) → seen c a (record old { heap = heap; stack = stack }) ≡ showing (seen c a old) heap (top stack.frames)
behind_word c a fs old heap stack safe keeps closures cells frames =
    behind_change c a fs old heap stack safe keeps closures (ap below frames ∙ below-with_top old.stack.frames (top stack.frames))
    ∙ ap (λ cs. record (showing (seen c a old) heap (top stack.frames)) { cells = cs }) cells_are
  where
    cells_are : cells_of stack.frames heap ≡ cells_of old.stack.frames old.heap
    cells_are =
        ap (λ fs. cells_of fs heap) frames ∙ cells_with_top old.stack.frames (top stack.frames) heap ∙ ap (map (cell_of old.stack.frames)) cells

-- a value to a register
pub set_seen : (c : Chunk) (a : Around) (fs : List Function) (old : Running) (stack : StackState) (r : ℕ) (v : Value) → IsSafe fs old → r < length (top old.stack.frames) → stack ≡ record old.stack { frames = with_top old.stack.frames (slice_set (top old.stack.frames) r v) } → set (seen c a old) r (datum old.heap v) ≡ Goes (seen c a (record old { stack = stack }))
set_seen c a fs old stack r v safe within written =
    let values = top old.stack.frames in
    let frames = ap (λ (s : StackState). s.frames) written in
    let top_is : top stack.frames ≡ slice_set values r v = ap top frames ∙ top-with_top old.stack.frames (slice_set values r v) (length-set values r v) in
    set_is (seen c a old) old.heap values r v within
    ∙ ap (λ registers. Goes (showing (seen c a old) old.heap registers)) (sym top_is)
    ∙ ap Goes (sym (behind_word c a fs old old.heap stack safe (keeps_itself old.heap) refl refl (frames ∙ ap (with_top old.stack.frames) (sym top_is))))

-- ---- how many frames there are

pub length-frames_seen : (c : Chunk) (h : HeapState) (xs : List Frame) (frames : List (List Value)) → length (frames_seen c h xs frames) ≡ length xs
length-frames_seen c h [] frames = refl
length-frames_seen c h (x ∷ xs) frames = ap suc (length-frames_seen c h xs (below frames))

pub length-below : (frames : List (List Value)) (n : ℕ) → length frames ≡ suc n → length (below frames) ≡ n
length-below [] n e = absurd (omega (arith, e))
length-below (x ∷ rest) n e = omega (arith, e)

pub depth_is : (c : Chunk) (a : Around) (fs : List Function) (k : Running) → IsSafe fs k → length (seen c a k).below ≡ length (below k.stack.frames)
depth_is c a fs k safe =
    length-frames_seen c k.heap (reverse k.below.items) (below k.stack.frames)
    ∙ length-reverse k.below.items
    ∙ sym (length-below k.stack.frames (length k.below.items) safe.depth)

-- a word's effect, in the state that is seen
pub word_is : (c : Chunk) (a : Around) (fs : List Function) (old : Running) (heap : HeapState) (stack : StackState) (f : Function) (effect : State → Effect) (pc : ℕ) (did : Did) → IsSafe fs old → Runs (seen c a old) old.heap f pc → Does effect old.heap heap f (top old.stack.frames) (top stack.frames) pc did → stack.frames ≡ with_top old.stack.frames (top stack.frames) → effect (seen c a old) ≡ effect_of heap did (seen c a (record old { heap = heap; stack = stack }))
word_is c a fs old heap stack f effect pc did safe runs does frames =
    let only = does.only_store in
    does.is (seen c a old) runs
    ∙ ap (effect_of heap did) (sym (behind_word c a fs old heap stack safe does.keeps (ap (λ (h : HeapState). h.closures) only) (ap (λ (h : HeapState). h.cells) only) frames))

-- ---- all is safe in a later heap with the same closures

pub closure_stays : (old new : HeapState) (closure : Option ClosureId) → new.closures ≡ old.closures → IsClosureOf old closure → IsClosureOf new closure
closure_stays old new None same known = tt
closure_stays old new (Some id) same known = subst (λ (closures : List ClosureState). id.index < length closures) (sym same) known

pub frame_stays : (old new : HeapState) (fs : List Function) (x : Frame) → Keeps old new → new.closures ≡ old.closures → IsFrameOf old fs x → IsFrameOf new fs x
frame_stays old new fs x keeps same known = record {
  function = known.function;
  closure = closure_stays old new x.closure same known.closure;
  extra = values_are_kept old new keeps x.extra known.extra;
  results = (results_are_kept old new keeps x.results known.results).0;
}

pub loaded_stays : (old new : HeapState) (all : List Chunk) (fs : List Function) → Keeps old new → AreLoaded old all fs → AreLoaded new all fs
loaded_stays old new all fs keeps loaded = record {
  count = loaded.count;
  each = λ n c f at_chunk at_function.
      let one = loaded.each n c f at_chunk at_function in
      record {
        code = one.code;
        room = one.room;
        words = one.words;
        constants = one.constants ∙ sym (data_are_kept old new keeps f.constants.items one.known);
        known = values_are_kept old new keeps f.constants.items one.known;
        inner = one.inner;
        upvalues = one.upvalues;
        params = one.params;
        vararg = one.vararg;
        registers = one.registers;
      };
}

-- all is whole in a later heap where all is safe
pub whole_later : (c : Chunk) (fs : List Function) (old new : Running) → IsWhole c fs old → Keeps old.heap new.heap → IsSafe fs new → IsWhole c fs new
whole_later c fs old new whole keeps safe = record { safe = safe; loaded = loaded_stays old.heap new.heap (all_functions c) fs keeps whole.loaded }

pub constants_stay : (old new : HeapState) (fs : List Function) → Keeps old new → ((n : ℕ) (f : Function) → slice_get fs n ≡ Some f → AreOf old f.constants.items) → (n : ℕ) (f : Function) → slice_get fs n ≡ Some f → AreOf new f.constants.items
constants_stay old new fs keeps known n f at = values_are_kept old new keeps f.constants.items (known n f at)

-- ---- landings that are awaited, in registers of which there are as many

there_by_size : (vs ws : List Value) (first count : ℕ) → length vs ≡ length ws → AreThere vs first count → AreThere ws first count
there_by_size vs ws first count same there some = omega (arith, same, there some)

pub landing_by_size : (f : Function) (vs ws : List Value) (pc : ℕ) (landing : Landing) → length vs ≡ length ws → IsLanding f vs pc landing → IsLanding f ws pc landing
landing_by_size f vs ws pc (Landing.Into a) same fits = omega (arith, same, fits)
landing_by_size f vs ws pc (Landing.Test a negated) same fits = fits
landing_by_size f vs ws pc (Landing.Pairs a first count) same fits = (omega (arith, same, fits.0), omega (arith, same, fits.1), fits.2)
landing_by_size f vs ws pc (Landing.Fixed a count) same fits = there_by_size vs ws a count same fits
landing_by_size f vs ws pc (Landing.Open a) same fits = tt
landing_by_size f vs ws pc (Landing.Turn a count) same fits = (fits.0, omega (arith, same, fits.1), omega (arith, same, fits.2), fits.3)
landing_by_size f vs ws pc Landing.Nowhere same fits = tt

abbrev sizes : List (List Value) → List ℕ
sizes frames = map (λ (vs : List Value). length vs) frames

top_size : (frames now : List (List Value)) → sizes frames ≡ sizes now → length (top frames) ≡ length (top now)
top_size [] [] same = refl
top_size [] (w ∷ ws) same = cc
top_size (v ∷ vs) [] same = cc
top_size (v ∷ vs) (w ∷ ws) same = cc

below_sizes : (frames now : List (List Value)) → sizes frames ≡ sizes now → sizes (below frames) ≡ sizes (below now)
below_sizes [] [] same = refl
below_sizes [] (w ∷ ws) same = cc
below_sizes (v ∷ vs) [] same = cc
below_sizes (v ∷ vs) (w ∷ ws) same = cc

waiting_by_sizes : (fs : List Function) (landing : Landing) (xs : List Frame) (frames now : List (List Value)) → sizes frames ≡ sizes now → AreWaiting fs landing xs frames → AreWaiting fs landing xs now
waiting_by_sizes fs landing [] frames now same waiting = tt
waiting_by_sizes fs landing (x ∷ xs) frames now same waiting = (
  λ f at. landing_by_size f (top frames) (top now) x.pc landing (top_size frames now same) (waiting.0 f at),
  waiting_by_sizes fs x.landing xs (below frames) (below now) (below_sizes frames now same) waiting.1,
)

-- ---- all is safe

-- behind a change of the heap and the stack that leaves closures and how many registers each frame has
pub safe_behind : (fs : List Function) (old : Running) (heap : HeapState) (stack : StackState) → IsSafe fs old → Shares stack heap → Keeps old.heap heap → heap.closures ≡ old.heap.closures → map (λ (vs : List Value). length vs) old.stack.frames ≡ map (λ (vs : List Value). length vs) stack.frames → IsSafe fs (record old { heap = heap; stack = stack })
safe_behind fs old heap stack safe shares keeps closures as_many = record {
  shares = shares;
  depth = sym (length-map stack.frames (λ (vs : List Value). length vs)) ∙ sym (ap length as_many) ∙ length-map old.stack.frames (λ (vs : List Value). length vs) ∙ safe.depth;
  constants = constants_stay old.heap heap fs keeps safe.constants;
  room = safe.room;
  top_frame = frame_stays old.heap heap fs old.top keeps closures safe.top_frame;
  lower = All-weaker (IsFrameOf old.heap fs) (IsFrameOf heap fs) (λ x known. frame_stays old.heap heap fs x keeps closures known) (reverse old.below.items) safe.lower;
  closures = subst (λ (cs : List ClosureState). All (λ f. f.function < length fs) cs) (sym closures) safe.closures;
  waiting = waiting_by_sizes fs old.top.landing (reverse old.below.items) (below old.stack.frames) (below stack.frames) (below_sizes old.stack.frames stack.frames as_many) safe.waiting;
}

-- at another pc of the topmost frame, with other open results
pub safe_at : (fs : List Function) (k : Running) (pc : ℕ) (results : Option OpenResults) → IsSafe fs k → AreResultsOf k.heap results → IsSafe fs (record k { top = record k.top { pc = pc; results = results } })
safe_at fs k pc results safe known = record {
  shares = safe.shares;
  depth = safe.depth;
  constants = safe.constants;
  room = safe.room;
  top_frame = record { function = safe.top_frame.function; closure = safe.top_frame.closure; extra = safe.top_frame.extra; results = known };
  lower = safe.lower;
  closures = safe.closures;
  waiting = safe.waiting;
}

-- when the topmost frame was taken off: the last of those below it is the topmost one then, and awaits the landing
module _ (fs : List Function) (old : Running) (heap : HeapState) (stack : StackState) (frame : Frame) (rest : Vec Frame Global) (safe : IsSafe fs old) (frames : stack.frames ≡ below old.stack.frames) (last : reverse old.below.items ≡ frame ∷ reverse rest.items) where
  lower_known : All (IsFrameOf old.heap fs) (frame ∷ reverse rest.items)
  lower_known = subst (All (IsFrameOf old.heap fs)) last safe.lower

  one_more : length old.below.items ≡ suc (length rest.items)
  one_more = sym (length-reverse old.below.items) ∙ ap length last ∙ ap suc (length-reverse rest.items)

  waiting_left : AreWaiting fs old.top.landing (frame ∷ reverse rest.items) stack.frames
  waiting_left =
      subst (λ (values : List (List Value)). AreWaiting fs old.top.landing (frame ∷ reverse rest.items) values) (sym frames) (subst (λ (xs : List Frame). AreWaiting fs old.top.landing xs (below old.stack.frames)) last safe.waiting)

  pub landing_left : IsWaiting fs old.top.landing frame (top stack.frames)
  landing_left = waiting_left.0

  pub safe_left : Shares stack heap → Keeps old.heap heap → heap.closures ≡ old.heap.closures → IsSafe fs (record old { heap = heap; stack = stack; top = frame; below = rest })
  safe_left shares keeps closures = record {
    shares = shares;
    depth = ap length frames ∙ length-below old.stack.frames (suc (length rest.items)) (safe.depth ∙ ap suc one_more);
    constants = constants_stay old.heap heap fs keeps safe.constants;
    room = safe.room;
    top_frame = frame_stays old.heap heap fs frame keeps closures (All-head (IsFrameOf old.heap fs) frame (reverse rest.items) lower_known);
    lower = All-weaker (IsFrameOf old.heap fs) (IsFrameOf heap fs) (λ x known. frame_stays old.heap heap fs x keeps closures known) (reverse rest.items) (All-tail (IsFrameOf old.heap fs) frame (reverse rest.items) lower_known);
    closures = subst (λ (cs : List ClosureState). All (λ f. f.function < length fs) cs) (sym closures) safe.closures;
    waiting = waiting_left.1;
  }
