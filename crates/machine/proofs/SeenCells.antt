-- The cells of the rules against the cells of the heap: closed, also where their frame is left, read and written.
use Rattle.std.proofs.Common.{◌≡◌, ◌<◌, ℕ, Vec, Global, subst, Bool, true, false, List, [], ◌∷◌, length, map, reverse, get_or, Option, Some, refl, sym, ap, ◌∙◌, arith, length-set}
use Rattle.std.specs.Prelude.{nat_eq, slice_get, slice_set, option_map, option_and_then, if◌then◌else◌}
use Rattle.std.specs.List.{All}
use Rattle.std.proofs.lemmas.Option.{slice_get-map, slice_get-get_or}
use Rattle.std.proofs.lemmas.List.{map-set, length-reverse}
use Rattle.proto.specs.Chunk.{Chunk}
use Rattle.lua_model.specs.declared.Value.{Value}
use Rattle.lua_model.specs.declared.Value.TheVariants.{Nil}
use Rattle.lua_model.specs.Datum.{Datum}
use Rattle.lua_heap.specs.State.{HeapState, CellState, in_stack, held, no_cell, datum, Keeps, store_of}
use Rattle.lua_heap.proofs.Callers.{data_are_kept}
use Rattle.rules.specs.State as rules
use Rattle.rules.specs.State.{State, Effect, Cell, Open, Closed, Goes, need}
use Rattle.rules.specs.Cells.{close_one, close_from, cell_value, read_cell, write_register, with_frames, with_cell, write_cell}
use Rattle.rules.specs.Cells as by_rules
use Rattle.upvalue.specs.State.{StackState, top, below, in_a_row, cells_of, cell_of, frame_at, value_of, with_register, with_value, with_held}
use Rattle.upvalue.specs.Captured.{closed_from}
use Rattle.upvalue.specs.Shared.{Shares}
use Rattle.upvalue.proofs.Rows.{stands_there}
use Rattle.upvalue.proofs.Places.{value_at}
use Rattle.machine.specs.declared.function.Function.{Function}
use Rattle.machine.specs.declared.frame.Frame.{Frame}
use Rattle.machine.specs.declared.running.Running.{Running}
use Rattle.machine.specs.Frames.{data_of}
use Rattle.machine.specs.Seen.{Around, frame_seen, frames_seen, closure_seen, seen}
use Rattle.machine.specs.Whole.{IsFrameOf, IsSafe}
use Rattle.machine.proofs.SeenStates.{behind_change, depth_is, top_known, below_known, frames_kept, length-frames_seen}

-- ---- closed

-- the cells of the running frame's registers from one on are closed, and nothing else changes
pub closed_is : (c : Chunk) (a : Around) (fs : List Function) (old : Running) (heap : HeapState) (stack : StackState) (from : ℕ) → IsSafe fs old → Keeps old.heap heap → heap ≡ record old.heap { cells = heap.cells } → stack.frames ≡ old.stack.frames → cells_of stack.frames heap ≡ closed_from old.heap old.stack.frames from (cells_of old.stack.frames old.heap) → close_from (seen c a old) from ≡ seen c a (record old { heap = heap; stack = stack })
closed_is c a fs old heap stack from safe keeps only frames cells =
    let m = seen c a old in
    let registers : data_of heap (top stack.frames) ≡ data_of old.heap (top old.stack.frames) =
    ap (λ frames. data_of heap (top frames)) frames ∙ data_are_kept old.heap heap keeps (top old.stack.frames) (top_known old.heap old.stack.frames safe.shares.known) in
    let cells_are : cells_of stack.frames heap ≡ (close_from m from).cells =
    cells ∙ ap (λ n. map (close_one n from m.top.registers) m.cells) (sym (depth_is c a fs old safe)) in
    sym (behind_change c a fs old heap stack safe keeps (ap (λ (h : HeapState). h.closures) only) (ap below frames)
    ∙ (λ i. record m { top = record m.top { registers = registers i }; cells = cells_are i; store = store_of (only i) a.hosts }))

-- the topmost frame is taken off, its cells are closed, and the last of the frames below it is the topmost one then
pub left_is : (c : Chunk) (a : Around) (fs : List Function) (old : Running) (heap : HeapState) (stack : StackState) (frame : Frame) (rest : Vec Frame Global) (x : rules.Frame) (xs : List rules.Frame) → IsSafe fs old → Keeps old.heap heap → heap ≡ record old.heap { cells = heap.cells } → stack.frames ≡ below old.stack.frames → reverse old.below.items ≡ frame ∷ reverse rest.items → cells_of stack.frames heap ≡ closed_from old.heap old.stack.frames 0 (cells_of old.stack.frames old.heap) → (seen c a old).below ≡ x ∷ xs → seen c a (record old { heap = heap; stack = stack; top = frame; below = rest }) ≡ record (close_from (seen c a old) 0) { top = x; below = xs }
left_is c a fs old heap stack frame rest x xs safe keeps only frames last cells below_is =
    let m = seen c a old in
    let under = below old.stack.frames in
    let known = subst (All (IsFrameOf old.heap fs)) last safe.lower in
    let frames_are : frames_seen c heap (frame ∷ reverse rest.items) stack.frames ≡ x ∷ xs =
    ap (frames_seen c heap (frame ∷ reverse rest.items)) frames
    ∙ frames_kept c old.heap heap fs (frame ∷ reverse rest.items) under keeps (ap (λ (h : HeapState). h.closures) only) known (below_known old.heap old.stack.frames safe.shares.known)
    ∙ sym (ap (λ ys. frames_seen c old.heap ys under) last)
    ∙ below_is in
    let cells_are : cells_of stack.frames heap ≡ (close_from m 0).cells =
    cells ∙ ap (λ n. map (close_one n 0 m.top.registers) m.cells) (sym (depth_is c a fs old safe)) in
    λ i. with_frames (record m { cells = cells_are i; closures = map (closure_seen c) (only i).closures; store = store_of (only i) a.hosts }) (frames_are i)

-- ---- read

-- the register of the frame with a number
register_is : (c : Chunk) (h : HeapState) (xs : List Frame) (frames : List (List Value)) (k r : ℕ) → length xs ≡ length frames → option_and_then (λ x. slice_get x.registers r) (by_rules.frame_at (frames_seen c h xs frames) k) ≡ slice_get (data_of h (frame_at frames k)) r
register_is c h [] [] k r long = refl
register_is c h [] (values ∷ frames) k r long = absurd (omega (arith, long))
register_is c h (x ∷ xs) [] k r long = absurd (omega (arith, long))
register_is c h (x ∷ xs) (values ∷ frames) k r long =
    let rest : length xs ≡ length frames = omega (arith, long) in
    ap (λ n. option_and_then (λ y. slice_get y.registers r) (if nat_eq k n then Some (frame_seen c h x values) else by_rules.frame_at (frames_seen c h xs frames) k)) (length-frames_seen c h xs frames ∙ rest)
    ∙ by (nat_eq k (length frames)) (register_is c h xs frames k r rest)
  where
    by : (here : Bool) → option_and_then (λ y. slice_get y.registers r) (by_rules.frame_at (frames_seen c h xs frames) k) ≡ slice_get (data_of h (frame_at frames k)) r → option_and_then (λ y. slice_get y.registers r) (if here then Some (frame_seen c h x values) else by_rules.frame_at (frames_seen c h xs frames) k) ≡ slice_get (data_of h (if here then values else frame_at frames k)) r
    by true so = refl
    by false so = so

-- as many frames as there are registers of frames
frames_match : (c : Chunk) (fs : List Function) (k : Running) → IsSafe fs k → length (k.top ∷ reverse k.below.items) ≡ length k.stack.frames
frames_match c fs k safe = omega (arith, safe.depth, length-reverse k.below.items)

value_is : (c : Chunk) (a : Around) (fs : List Function) (k : Running) (cell : Cell) → IsSafe fs k → cell_value (seen c a k) cell ≡ value_of k.heap k.stack.frames cell
value_is c a fs k (Open frame r) safe = register_is c k.heap (k.top ∷ reverse k.below.items) k.stack.frames frame r (frames_match c fs k safe)
value_is c a fs k (Closed v) safe = refl

-- the cell with a number
cell_is : (c : Chunk) (a : Around) (k : Running) (number : ℕ) → number < length k.heap.cells → slice_get (seen c a k).cells number ≡ Some (cell_of k.stack.frames (get_or k.heap.cells number no_cell))
cell_is c a k number within =
    slice_get-map (cell_of k.stack.frames) k.heap.cells number
    ∙ ap (option_map (cell_of k.stack.frames)) (slice_get-get_or k.heap.cells number no_cell within)

-- and its value
pub read_is : (c : Chunk) (a : Around) (fs : List Function) (k : Running) (number : ℕ) → IsSafe fs k → number < length k.heap.cells → read_cell (seen c a k) number ≡ value_of k.heap k.stack.frames (cell_of k.stack.frames (get_or k.heap.cells number no_cell))
read_is c a fs k number safe within =
    ap (option_and_then (cell_value (seen c a k))) (cell_is c a k number within)
    ∙ value_is c a fs k (cell_of k.stack.frames (get_or k.heap.cells number no_cell)) safe

-- a cell that is there has a value
value_there : (stack : StackState) (h : HeapState) (number : ℕ) (cell : CellState) → Shares stack h → slice_get h.cells number ≡ Some cell → (d : Datum) × (value_of h stack.frames (cell_of stack.frames cell) ≡ Some d)
value_there stack h number (held v) shares at = (v, refl)
value_there stack h number (in_stack place) shares at =
    let row = in_a_row stack.frames in
    let within = stands_there stack h shares number place at in (
      _,
      value_at h stack.frames place within ∙ slice_get-map (datum h) row place ∙ ap (option_map (datum h)) (slice_get-get_or row place Nil within),
    )

-- ---- written

-- a value in a register of the frame with a number
written_is : (c : Chunk) (h : HeapState) (xs : List Frame) (frames : List (List Value)) (k r : ℕ) (v : Value) → length xs ≡ length frames → write_register (frames_seen c h xs frames) k r (datum h v) ≡ frames_seen c h xs (with_register frames k r v)
written_is c h [] frames k r v long = refl
written_is c h (x ∷ xs) [] k r v long = absurd (omega (arith, long))
written_is c h (x ∷ xs) (values ∷ frames) k r v long =
    let rest : length xs ≡ length frames = omega (arith, long) in
    let lower = frames_seen c h xs frames in
    ap (λ n. if nat_eq k n then record (frame_seen c h x values) { registers = slice_set (data_of h values) r (datum h v) } ∷ lower else frame_seen c h x values ∷ write_register lower k r (datum h v)) (length-frames_seen c h xs frames ∙ rest)
    ∙ by (nat_eq k (length frames)) (written_is c h xs frames k r v rest)
  where
    by : (here : Bool) → write_register (frames_seen c h xs frames) k r (datum h v) ≡ frames_seen c h xs (with_register frames k r v) → (if here then record (frame_seen c h x values) { registers = slice_set (data_of h values) r (datum h v) } ∷ frames_seen c h xs frames else frame_seen c h x values ∷ write_register (frames_seen c h xs frames) k r (datum h v)) ≡ frames_seen c h (x ∷ xs) (if here then slice_set values r v ∷ frames else values ∷ with_register frames k r v)
    by true so i = record (frame_seen c h x values) { registers = sym (map-set (datum h) values r v) i } ∷ frames_seen c h xs frames
    by false so i = frame_seen c h x values ∷ so i

sizes-with_register : (frames : List (List Value)) (n r : ℕ) (v : Value) → map (λ (vs : List Value). length vs) (with_register frames n r v) ≡ map (λ (vs : List Value). length vs) frames
sizes-with_register [] n r v = refl
sizes-with_register (values ∷ rest) n r v = by (nat_eq n (length rest)) (sizes-with_register rest n r v)
  where
    size : List Value → ℕ
    size vs = length vs

    by : (here : Bool) → map size (with_register rest n r v) ≡ map size rest → map size (if here then slice_set values r v ∷ rest else values ∷ with_register rest n r v) ≡ length values ∷ map size rest
    by true so = ap (λ k. k ∷ map size rest) (length-set values r v)
    by false so = ap (λ ks. length values ∷ ks) so

-- each frame has as many registers as before, and the closures are the same
pub with_value_stays : (frames : List (List Value)) (h : HeapState) (number : ℕ) (cell : Cell) (v : Value) → (map (λ (vs : List Value). length vs) frames ≡ map (λ (vs : List Value). length vs) (with_value frames h number cell v).0) × ((with_value frames h number cell v).1.closures ≡ h.closures)
with_value_stays frames h number (Open n r) v = (sym (sizes-with_register frames n r v), refl)
with_value_stays frames h number (Closed d) v = (refl, refl)

pub with_value_names : (frames : List (List Value)) (h : HeapState) (number : ℕ) (cell : Cell) (v : Value) → (with_value frames h number cell v).1.host_names ≡ h.host_names
with_value_names frames h number (Open n r) v = refl
with_value_names frames h number (Closed d) v = refl

module _ (c : Chunk) (a : Around) (fs : List Function) (old : Running) (heap : HeapState) (stack : StackState) (number : ℕ) (v : Value) (safe : IsSafe fs old) where
  -- the state behind a change of the stack and the heap
  behind : (frames : List (List Value)) (h : HeapState) (cells : List Cell) → ◌≡◌ {A = List (List Value) × HeapState} (stack.frames, heap) (frames, h) → cells_of stack.frames heap ≡ cells → seen c a (record old { heap = heap; stack = stack }) ≡ record { top = frame_seen c h old.top (top frames); below = frames_seen c h (reverse old.below.items) (below frames); cells = cells; closures = map (closure_seen c) h.closures; store = store_of h a.hosts; outside = a.outside }
  behind frames h cells written cells_are i =
      let now = written i in
      record {
        top = frame_seen c now.1 old.top (top now.0);
        below = frames_seen c now.1 (reverse old.below.items) (below now.0);
        cells = cells_are i;
        closures = map (closure_seen c) now.1.closures;
        store = store_of now.1 a.hosts;
        outside = a.outside;
      }

  put : (cell : Cell) → (stack.frames, heap) ≡ with_value old.stack.frames old.heap number cell v → cells_of stack.frames heap ≡ with_held (cells_of old.stack.frames old.heap) number cell (datum old.heap v) → with_cell (seen c a old) number (datum old.heap v) cell ≡ seen c a (record old { heap = heap; stack = stack })
  put (Open n r) written cells =
      let frames = with_register old.stack.frames n r v in
      ap (with_frames (seen c a old)) (written_is c old.heap (old.top ∷ reverse old.below.items) old.stack.frames n r v (frames_match c fs old safe))
      ∙ sym (behind frames old.heap (cells_of old.stack.frames old.heap) written cells)
  put (Closed d) written cells =
      let h = record old.heap { cells = slice_set old.heap.cells number (held (datum old.heap v)) } in
      sym (behind old.stack.frames h (slice_set (cells_of old.stack.frames old.heap) number (Closed (datum old.heap v))) written cells)

  abbrev cell : Cell
  cell = cell_of old.stack.frames (get_or old.heap.cells number no_cell)

  -- a value in a cell
  pub write_seen : number < length old.heap.cells → (stack.frames, heap) ≡ with_value old.stack.frames old.heap number cell v → cells_of stack.frames heap ≡ with_held (cells_of old.stack.frames old.heap) number cell (datum old.heap v) → write_cell (seen c a old) number (datum old.heap v) ≡ Goes (seen c a (record old { heap = heap; stack = stack }))
  write_seen within written cells =
      let m = seen c a old in
      let d = datum old.heap v in
      let value = value_there old.stack old.heap number (get_or old.heap.cells number no_cell) safe.shares (slice_get-get_or old.heap.cells number no_cell within) in
      let next : Effect = need (slice_get m.cells number) (λ x. Goes (with_cell m number d x)) in
      ap (λ (o : Option Datum). need o (λ was. next)) (read_is c a fs old number safe within ∙ value.1)
      ∙ ap (λ (o : Option Cell). need o (λ x. Goes (with_cell m number d x))) (cell_is c a old number within)
      ∙ ap Goes (put cell written cells)
