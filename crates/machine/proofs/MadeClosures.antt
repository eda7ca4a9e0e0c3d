-- A closure that is made: what is seen of a machine with one closure more, and that CLOSURE does what the rules say.
use Rattle.std.proofs.Common.{◌≡◌, ℕ, ◌+◌, ◌<◌, List, [], ◌∷◌, ◌++◌, length, take, drop, map, reverse, Option, None, Some, refl, sym, ap, subst, ◌∙◌, arith, length-set}
use Rattle.std.specs.Prelude.{slice_get, slice_set, nat_eq, option_and_then}
use Rattle.std.specs.List.{All}
use Rattle.std.proofs.Math.ListN.{get_or-append}
use Rattle.std.proofs.lemmas.Bool.{eq-eqb}
use Rattle.std.proofs.lemmas.List.{length-append, length-map, map-append}
use Rattle.std.proofs.lemmas.List.Elements.{All-nil, All-cons, All-head, All-tail, All-append, All-weaker}
use Rattle.std.proofs.lemmas.Option.{slice_get-get_or, slice_get_within}
use Rattle.opcode.specs.declared.op.Op.{Op}
use Rattle.opcode.specs.declared.word.Instr.{Instr}
use Rattle.proto.specs.Chunk.{Chunk, own, functions, function_at}
use Rattle.lua_model.specs.declared.ClosureId.{ClosureId}
use Rattle.lua_model.specs.declared.Value.{Value}
use Rattle.lua_model.specs.Datum.{closure}
use Rattle.lua_heap.specs.declared.cells.CellId.{CellId}
use Rattle.lua_heap.specs.State.{HeapState, ClosureState, IsOf, Keeps, no_closure}
use Rattle.lua_heap.proofs.Callers.{keeps_itself, keeps_both, values_are_kept}
use Rattle.rules.specs.State.{State, Effect, Goes, need, check, at_pc, set}
use Rattle.rules.specs.Cells.{take_cells}
use Rattle.rules.specs.Step.{add_closure, effect}
use Rattle.upvalue.specs.State.{StackState, top, below, with_top}
use Rattle.upvalue.specs.Shared.{Shares}
use Rattle.machine.specs.declared.function.Function.{Function}
use Rattle.machine.specs.declared.frame.Frame.{Frame}
use Rattle.machine.specs.declared.running.Running.{Running}
use Rattle.machine.specs.declared.did.Did.{Did}
use Rattle.machine.specs.Captures.{TakesCells}
use Rattle.machine.specs.Loaded.{all_functions}
use Rattle.machine.specs.Seen.{Around, numbered, cells_in, frame_seen, frames_seen, closure_seen, seen}
use Rattle.machine.specs.Whole.{IsClosureOf, IsFrameOf, IsSafe, IsWhole, DoesSeen}
use Rattle.machine.proofs.CapturedCells.{safe_only}
use Rattle.machine.proofs.FramesAbove.{loaded_at}
use Rattle.machine.proofs.Items.{results_are_kept}
use Rattle.machine.proofs.LentRegisters.{shares_on}
use Rattle.machine.proofs.SeenStates.{safe_at, sizes-with_top, set_seen, constants_stay, safe_behind}

-- ---- one closure more

abbrev pub with_closure : HeapState → (number : ℕ) → (cells : List ℕ) → HeapState
with_closure h number cells = record h { closures = h.closures ++ record { function = number; cells = cells } ∷ [] }

cells_stay : (h : HeapState) (number : ℕ) (cells : List ℕ) (id : Option ClosureId) → IsClosureOf h id → cells_in (with_closure h number cells) id ≡ cells_in h id
cells_stay h number cells None known = refl
cells_stay h number cells (Some id) known =
    ap (λ (f : ClosureState). f.cells) (get_or-append h.closures (record { function = number; cells = cells } ∷ []) no_closure id.index known)

frames_stay : (c : Chunk) (h : HeapState) (number : ℕ) (cells : List ℕ) (fs : List Function) (xs : List Frame) (frames : List (List Value)) → All (IsFrameOf h fs) xs → frames_seen c (with_closure h number cells) xs frames ≡ frames_seen c h xs frames
frames_stay c h number cells fs [] frames known = refl
frames_stay c h number cells fs (x ∷ xs) frames known =
    let upvalues = cells_stay h number cells x.closure (All-head (IsFrameOf h fs) x xs known).closure in
    let rest = frames_stay c h number cells fs xs (below frames) (All-tail (IsFrameOf h fs) x xs known) in
    λ i. record (frame_seen c h x (top frames)) { cells = upvalues i } ∷ rest i

closure_known : (h : HeapState) (number : ℕ) (cells : List ℕ) (id : Option ClosureId) → IsClosureOf h id → IsClosureOf (with_closure h number cells) id
closure_known h number cells None known = tt
closure_known h number cells (Some id) known = omega (arith, known, length-append h.closures (record { function = number; cells = cells } ∷ []))

frame_known : (h : HeapState) (number : ℕ) (cells : List ℕ) (fs : List Function) (x : Frame) → Keeps h (with_closure h number cells) → IsFrameOf h fs x → IsFrameOf (with_closure h number cells) fs x
frame_known h number cells fs x keeps known = record {
  function = known.function;
  closure = closure_known h number cells x.closure known.closure;
  extra = values_are_kept h (with_closure h number cells) keeps x.extra known.extra;
  results = (results_are_kept h (with_closure h number cells) keeps x.results known.results).0;
}

module _ (fs : List Function) (k : Running) (number : ℕ) (cells : List ℕ) (safe : IsSafe fs k) where
  abbrev more : HeapState
  more = with_closure k.heap number cells

  seen_with : (c : Chunk) (a : Around) → seen c a (record k { heap = more }) ≡ record (seen c a k) { closures = (seen c a k).closures ++ record { function = numbered c number; cells = cells } ∷ [] }
  seen_with c a i = record (seen c a k) {
    top = record (seen c a k).top { cells = cells_stay k.heap number cells k.top.closure safe.top_frame.closure i };
    below = frames_stay c k.heap number cells fs (reverse k.below.items) (below k.stack.frames) safe.lower i;
    closures = map-append (closure_seen c) k.heap.closures (record { function = number; cells = cells } ∷ []) i;
  }

  safe_with : Keeps k.heap more → number < length fs → IsSafe fs (record k { heap = more })
  safe_with keeps within = record {
    shares = shares_on k.stack k.heap more keeps refl safe.shares;
    depth = safe.depth;
    constants = constants_stay k.heap more fs keeps safe.constants;
    room = safe.room;
    top_frame = frame_known k.heap number cells fs k.top keeps safe.top_frame;
    lower = All-weaker (IsFrameOf k.heap fs) (IsFrameOf more fs) (λ x known. frame_known k.heap number cells fs x keeps known) (reverse k.below.items) safe.lower;
    closures = All-append (λ (f : ClosureState). f.function < length fs) k.heap.closures (record { function = number; cells = cells } ∷ []) safe.closures (All-cons (λ (f : ClosureState). f.function < length fs) (record { function = number; cells = cells }) [] within (All-nil (λ (f : ClosureState). f.function < length fs)));
    waiting = safe.waiting;
  }

-- ---- CLOSURE

-- a closure with these cells was added to this machine, and its value put into a register
pub record Adds (k : Running) (number : ℕ) (cells : List ℕ) (a : ℕ) (heap : HeapState) (stack : StackState) (id : ClosureId) : Type 0 where
  pub last : id.index ≡ length k.heap.closures
  pub state : heap ≡ with_closure k.heap number cells
  pub keeps : Keeps k.heap heap
  pub there : a < length (top k.stack.frames)
  pub written : stack ≡ record k.stack { frames = with_top k.stack.frames (slice_set (top k.stack.frames) a (Value.Closure id)) }
  pub shares : Shares stack heap

-- the value of a closure that was added is one of the heap
pub last_known : (k : Running) (heap : HeapState) (number : ℕ) (cells : List ℕ) (id : ClosureId) → id.index ≡ length k.heap.closures → heap ≡ with_closure k.heap number cells → IsOf heap (Value.Closure id)
last_known k heap number cells id last state = omega (arith, last, ap (λ (h : HeapState). length h.closures) state, length-append k.heap.closures (record { function = number; cells = cells } ∷ []))

module _ (fs : List Function) (k : Running) (number : ℕ) (cells : List ℕ) (a : ℕ) (heap : HeapState) (stack : StackState) (id : ClosureId) (adds : Adds k number cells a heap stack id) (within : number < length fs) where
  kept : Keeps k.heap (with_closure k.heap number cells)
  kept = subst (Keeps k.heap) adds.state adds.keeps

  with_heap : IsSafe fs k → IsSafe fs (record k { heap = heap })
  with_heap safe = subst (λ (h : HeapState). IsSafe fs (record k { heap = h })) (sym adds.state) (safe_with fs k number cells safe kept within)

  safe_adds : IsSafe fs k → IsSafe fs (record k { heap = heap; stack = stack })
  safe_adds safe =
      let values = top k.stack.frames in
      let put = slice_set values a (Value.Closure id) in
      let as_many = sizes-with_top k.stack.frames put (length-set values a (Value.Closure id)) ∙ sym (ap (λ (s : StackState). map (λ (vs : List Value). length vs) s.frames) adds.written) in
      safe_behind fs (record k { heap = heap }) heap stack (with_heap safe) adds.shares (keeps_itself heap) refl as_many

  adds_seen : (c : Chunk) (around : Around) → IsSafe fs k → add_closure (seen c around k) a (numbered c number) cells ≡ Goes (seen c around (record k { heap = heap; stack = stack }))
  adds_seen c around safe =
      let m = seen c around k in
      let more : record m { closures = m.closures ++ record { function = numbered c number; cells = cells } ∷ [] } ≡ seen c around (record k { heap = heap }) =
      sym (seen_with fs k number cells safe c around) ∙ ap (λ (h : HeapState). seen c around (record k { heap = h })) (sym adds.state) in
      let last : length m.closures ≡ id.index = length-map k.heap.closures (closure_seen c) ∙ sym adds.last in
      (λ i. set (more i) a (closure (last i)))
      ∙ set_seen c around fs (record k { heap = heap }) stack a (Value.Closure id) (with_heap safe) adds.there adds.written

-- so many words from the pc on gave the cells of the inner function's closure, which was added at the pc behind them
module _ (fs : List Function) (old now : Running) (f g : Function) (i : Instr) (number : ℕ) (cells : List CellId) (heap : HeapState) (stack : StackState) (id : ClosureId) (at : slice_get fs old.top.function ≡ Some f) (at_inner : slice_get f.inner.items i.bx ≡ Some number) (at_made : slice_get fs number ≡ Some g) (takes : TakesCells (take g.upvalues (drop old.top.pc f.code.items)) old now cells) where
  abbrev words : List ℕ
  words = take g.upvalues (drop old.top.pc f.code.items)

  abbrev indices : List ℕ
  indices = map (λ (cell : CellId). cell.index) cells

  abbrev moved : Running
  moved = record now { top = record now.top { pc = old.top.pc + g.upvalues } }

  module _ (long : length words ≡ g.upvalues) (adds : Adds moved number indices i.a heap stack id) where
    within : number < length fs
    within = slice_get_within fs number g at_made

    safe_moved : IsSafe fs old → IsSafe fs moved
    safe_moved safe = (let there = safe_only fs old now takes.only_cells safe in safe_at fs now (old.top.pc + g.upvalues) now.top.results there there.top_frame.results)

    is_closure : (c : Chunk) (a : Around) → IsWhole c fs old → effect Op.Closure (seen c a old) i ≡ Goes (seen c a (record moved { heap = heap; stack = stack }))
    is_closure c a whole =
        let m = seen c a old in
        let loaded = loaded_at c old.heap fs old.top.function f whole.loaded whole.safe.top_frame.function at in
        let made = loaded_at c old.heap fs number g whole.loaded within at_made in
        let function : function_at (functions m.top.function) i.bx ≡ Some (numbered c number) =
        sym (loaded.inner i.bx)
        ∙ ap (option_and_then (slice_get (all_functions c))) at_inner
        ∙ slice_get-get_or (all_functions c) number c (omega (arith, within, whole.loaded.count)) in
        let next : ℕ → Chunk → State → List ℕ → Effect = λ n inner m1 cs. add_closure (at_pc m1 (m1.top.pc + n)) i.a inner cs in
        let by_words : ℕ → List ℕ → Chunk → Effect = λ n code inner. check (nat_eq (length (take n (drop m.top.pc code))) n) (take_cells m (take n (drop m.top.pc code)) (next n inner)) in
        let pc : now.top.pc ≡ old.top.pc = ap (λ (k : Running). k.top.pc) takes.only_cells.machine in
        ap (λ o. need o (λ inner. by_words (own inner).upvalues (own m.top.function).code inner)) function
        ∙ (λ j. by_words (sym made.upvalues j) (sym loaded.code j) (numbered c number))
        ∙ ap (λ b. check b (take_cells m words (next g.upvalues (numbered c number)))) (eq-eqb (length words) g.upvalues long)
        ∙ takes.is c a fs whole.safe (next g.upvalues (numbered c number))
        ∙ ap (λ n. add_closure (at_pc (seen c a now) (n + g.upvalues)) i.a (numbered c number) indices) pc
        ∙ adds_seen fs moved number indices i.a heap stack id adds within c a (safe_moved whole.safe)

    pub closure_made : DoesSeen fs (λ m. effect Op.Closure m i) old (record moved { heap = heap; stack = stack }) Did.Next
    closure_made = record {
      is = is_closure;
      safe = λ safe. safe_adds fs moved number indices i.a heap stack id adds within (safe_moved safe);
      known = tt;
      awaited = λ x at_x. tt;
      keeps = keeps_both old.heap now.heap heap takes.only_cells.keeps adds.keeps;
      named = ap (λ (h : HeapState). h.host_names) adds.state ∙ ap (λ (h : HeapState). h.host_names) takes.only_cells.heap;
      pieces = ap (λ (k : Running). k.pieces) takes.only_cells.machine;
    }
