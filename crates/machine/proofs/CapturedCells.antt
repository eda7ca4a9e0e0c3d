-- The cells that further words of a CLOSURE name: by the rules, one word after another, and all is safe behind them.
use Rattle.std.proofs.Common.{◌≡◌, ℕ, zero, suc, ◌+◌, ◌-◌, ◌<◌, List, [], ◌∷◌, ◌++◌, length, take, drop, map, get_or, Option, None, Some, inl, inr, refl, sym, ap, subst, ◌∙◌, arith, add-one}
use Rattle.std.specs.Prelude.{slice_get, option_and_then}
use Rattle.std.proofs.lemmas.List.{length-map, length-drop, length-take-le, get_or-drop, map-append}
use Rattle.std.proofs.lemmas.List.Elements.{All-nil, All-cons, All-append, All-weaker}
use Rattle.std.proofs.lemmas.Option.{slice_get-get_or, slice_get_within}
use Rattle.std.proofs.Math.Seq.{take-suc}
use Rattle.opcode.specs.declared.op.Op.{Op}
use Rattle.opcode.specs.declared.word.Instr.{Instr}
use Rattle.opcode.specs.Reading.{instr_of}
use Rattle.proto.specs.Chunk.{Chunk}
use Rattle.lua_model.specs.declared.Value.{Value}
use Rattle.lua_model.specs.Datum.{Datum}
use Rattle.lua_heap.specs.declared.cells.CellId.{CellId}
use Rattle.lua_heap.specs.State.{HeapState, in_stack}
use Rattle.lua_heap.proofs.Callers.{keeps_itself, keeps_both}
use Rattle.rules.specs.State.{State, Effect, Open, need}
use Rattle.rules.specs.Cells.{find_open, capture_as, capture, take_cell_by, take_cells}
use Rattle.upvalue.specs.State.{StackState, top, below, size, place_of, register_at, cell_of, cells_of}
use Rattle.upvalue.specs.Captured.{captured}
use Rattle.upvalue.specs.Shared.{Shares}
use Rattle.upvalue.proofs.Places.{at_top}
use Rattle.machine.specs.declared.function.Function.{Function}
use Rattle.machine.specs.declared.running.Running.{Running}
use Rattle.machine.specs.Captures.{OnlyCells, TakesCells}
use Rattle.machine.specs.Fits.{IsCapture, AreCaptures}
use Rattle.machine.specs.Seen.{Around, cells_in, seen}
use Rattle.machine.specs.Whole.{IsSafe}
use Rattle.machine.proofs.SeenStates.{safe_behind, depth_is, same_upvalues}
use Rattle.machine.proofs.Showing.{there}

-- ---- words

-- some words, and others behind them
take_both : (ws vs : List ℕ) (m : State) (next : State → List ℕ → Effect) → take_cells m (ws ++ vs) next ≡ take_cells m ws (λ m1 cs. take_cells m1 vs (λ m2 ds. next m2 (cs ++ ds)))
take_both [] vs m next i = take_cells m vs next
take_both (w ∷ ws) vs m next i =
    need (instr_of w) (λ x. take_cell_by x.op m x (λ m1 c. take_both ws vs m1 (λ m2 cs. next m2 (c ∷ cs)) i))

-- a word that names a cell is there
capture_there : (registers cells : ℕ) (o : Option ℕ) → IsCapture registers cells (option_and_then instr_of o) → (w : ℕ) × (o ≡ Some w)
capture_there registers cells None names = absurd names
capture_there registers cells (Some w) names = (w, refl)

-- what it names is there
pub names_register : (registers cells : ℕ) (o : Option Instr) (i : Instr) → o ≡ Some i → i.op ≡ Op.Move → IsCapture registers cells o → i.b < registers
names_register registers cells o i is op names = elim (subst (IsCapture registers cells) is names) [ inl here ↦ here.1 | inr other ↦ let wrong = other.0 in absurd (cc) ]

pub names_upvalue : (registers cells : ℕ) (o : Option Instr) (i : Instr) → o ≡ Some i → i.op ≡ Op.GetUpval → IsCapture registers cells o → i.b < cells
names_upvalue registers cells o i is op names = elim (subst (IsCapture registers cells) is names) [ inl other ↦ let wrong = other.0 in absurd (cc) | inr here ↦ here.1 ]

-- ---- machines

only_none : (k : Running) → Shares k.stack k.heap → OnlyCells k k
only_none k shares = record { machine = refl; heap = refl; frames = refl; shares = shares; keeps = keeps_itself k.heap; no_fewer = omega arith }

only_both : (x y z : Running) → OnlyCells x y → OnlyCells y z → OnlyCells x z
only_both x y z first second = record {
  machine = second.machine ∙ (λ i. record (first.machine i) { heap = z.heap; stack = z.stack });
  heap = second.heap ∙ (λ i. record (first.heap i) { cells = z.heap.cells });
  frames = second.frames ∙ first.frames;
  shares = second.shares;
  keeps = keeps_both x.heap y.heap z.heap first.keeps second.keeps;
  no_fewer = omega (arith, first.no_fewer, second.no_fewer);
}

pub safe_only : (fs : List Function) (old new : Running) → OnlyCells old new → IsSafe fs old → IsSafe fs new
safe_only fs old new only safe =
    subst (IsSafe fs) (sym only.machine)
    (safe_behind fs old new.heap new.stack safe only.shares only.keeps (ap (λ (h : HeapState). h.closures) only.heap) (ap (λ frames. map (λ (vs : List Value). length vs) frames) (sym only.frames)))

-- the upvalues of the running function stay
same_cells : (old new : Running) → OnlyCells old new → cells_in new.heap new.top.closure ≡ cells_in old.heap old.top.closure
same_cells old new only =
    ap (λ (k : Running). cells_in new.heap k.top.closure) only.machine
    ∙ same_upvalues new.heap old.heap old.top.closure (ap (λ (h : HeapState). h.closures) only.heap)

-- ---- the cells of words

takes_both : (ws vs : List ℕ) (x y z : Running) (cells further : List CellId) → TakesCells ws x y cells → TakesCells vs y z further → TakesCells (ws ++ vs) x z (cells ++ further)
takes_both ws vs x y z cells further first second =
    let index : CellId → ℕ = λ cell. cell.index in
    record {
      is = λ c a fs safe next.
          take_both ws vs (seen c a x) next
          ∙ first.is c a fs safe (λ m1 cs. take_cells m1 vs (λ m2 ds. next m2 (cs ++ ds)))
          ∙ second.is c a fs (safe_only fs x y first.only_cells safe) (λ m2 ds. next m2 (map index cells ++ ds))
          ∙ ap (next (seen c a z)) (sym (map-append index cells further));
      known = All-append (λ (cell : CellId). cell.index < length z.heap.cells) cells further (All-weaker (λ (cell : CellId). cell.index < length y.heap.cells) (λ (cell : CellId). cell.index < length z.heap.cells) (λ cell within. omega (arith, within, second.only_cells.no_fewer)) cells first.known) second.known;
      only_cells = only_both x y z first.only_cells second.only_cells;
    }

-- ---- so many words from a pc on

pub captures_within : (f : Function) (registers cells pc count k : ℕ) → AreCaptures f registers cells pc count → k < count → pc + k < length f.code.items
captures_within f registers cells pc count k captures less =
    let word = capture_there registers cells (slice_get f.code.items (pc + k)) (captures k less) in
    slice_get_within f.code.items (pc + k) word.0 word.1

-- the pc behind them is below what bounds the words
pub room_for : (f : Function) (registers cells pc count bound : ℕ) → AreCaptures f registers cells pc count → pc < bound → length f.code.items < bound → pc + count < bound
room_for f registers cells pc zero bound captures here long = omega arith
room_for f registers cells pc (suc n) bound captures here long =
    let within = captures_within f registers cells pc (suc n) n captures (omega arith) in
    omega (arith, within)

-- there are so many words
pub words_long : (f : Function) (registers cells pc count : ℕ) → AreCaptures f registers cells pc count → length (take count (drop pc f.code.items)) ≡ count
words_long f registers cells pc zero captures = refl
words_long f registers cells pc (suc n) captures =
    let within = captures_within f registers cells pc (suc n) n captures (omega arith) in
    length-take-le (suc n) (drop pc f.code.items) (omega (arith, within, length-drop pc f.code.items))

-- what a word names is there, also when others before it were done
pub capture_later : (old now : Running) (f : Function) (pc count k w : ℕ) → OnlyCells old now → AreCaptures f (length (top old.stack.frames)) (length (cells_in old.heap old.top.closure)) pc count → k < count → slice_get f.code.items (pc + k) ≡ Some w → IsCapture (length (top now.stack.frames)) (length (cells_in now.heap now.top.closure)) (instr_of w)
capture_later old now f pc count k w only captures less at =
    let registers : length (top old.stack.frames) ≡ length (top now.stack.frames) = ap (λ frames. length (top frames)) (sym only.frames) in
    let cells : length (cells_in old.heap old.top.closure) ≡ length (cells_in now.heap now.top.closure) = ap length (sym (same_cells old now only)) in
    subst (λ n. IsCapture n (length (cells_in now.heap now.top.closure)) (instr_of w)) registers
    (subst (λ n. IsCapture (length (top old.stack.frames)) n (instr_of w)) cells
    (subst (λ (o : Option ℕ). IsCapture (length (top old.stack.frames)) (length (cells_in old.heap old.top.closure)) (option_and_then instr_of o)) at (captures k less)))

-- one word more
pub takes_next : (old now new : Running) (code : List ℕ) (pc k w : ℕ) (cells all : List CellId) (cell : CellId) → pc + k < length code → w ≡ get_or code (pc + k) w → TakesCells (take k (drop pc code)) old now cells → TakesCells (w ∷ []) now new (cell ∷ []) → all ≡ cells ++ cell ∷ [] → TakesCells (take (k + 1) (drop pc code)) old new all
takes_next old now new code pc k w cells all cell within is so_far next all_is =
    let words : take (k + 1) (drop pc code) ≡ take k (drop pc code) ++ w ∷ [] =
    ap (λ n. take n (drop pc code)) (add-one k)
    ∙ take-suc (drop pc code) k w (omega (arith, length-drop pc code))
    ∙ ap (λ v. take k (drop pc code) ++ v ∷ []) (get_or-drop pc code k w ∙ sym is) in
    subst (λ (ws : List ℕ). TakesCells ws old new all) (sym words)
    (subst (λ (cs : List CellId). TakesCells (take k (drop pc code) ++ w ∷ []) old new cs) (sym all_is)
    (takes_both (take k (drop pc code)) (w ∷ []) old now new cells (cell ∷ []) so_far next))

-- ---- MOVE

new_is : (frames : List (List Value)) (r : ℕ) → r < length (top frames) → register_at frames (place_of frames r) ≡ Open (length (below frames)) r
new_is [] r within = absurd (omega arith)
new_is (x ∷ rest) r within =
    let same : size rest + r - size rest ≡ r = omega arith in
    at_top x rest (size rest + r) (omega arith) ∙ ap (Open (length rest)) same

module _ (c : Chunk) (a : Around) (fs : List Function) (old : Running) (heap : HeapState) (stack : StackState) (r number : ℕ) (safe : IsSafe fs old) (within : r < length (top old.stack.frames)) (frames : stack.frames ≡ old.stack.frames) (next : State → ℕ → Effect) where
  abbrev outcome : Option ℕ → ℕ × HeapState
  outcome o = elim o [ None ↦ (length old.heap.cells, record old.heap { cells = old.heap.cells ++ in_stack (place_of old.stack.frames r) ∷ [] }) | Some n ↦ (n, old.heap) ]

  behind : (o : Option ℕ) → (number, heap) ≡ outcome o → next (seen c a (record old { heap = (outcome o).1 })) (outcome o).0 ≡ next (seen c a (record old { heap = heap; stack = stack })) number
  behind o is i =
      let now = sym is i in
      next (seen c a (record old { heap = now.1; stack = record stack { frames = sym frames i } })) now.0

  by : (o : Option ℕ) → (number, heap) ≡ outcome o → capture_as (seen c a old) r o next ≡ next (seen c a (record old { heap = heap; stack = stack })) number
  by (Some n) is = behind (Some n) is
  by None is =
      let m = seen c a old in
      let cells = old.heap.cells in
      let place = place_of old.stack.frames r in
      let added : Open (length m.below) r ≡ register_at old.stack.frames place = ap (λ n. Open n r) (depth_is c a fs old safe) ∙ sym (new_is old.stack.frames r within) in
      let all : m.cells ++ Open (length m.below) r ∷ [] ≡ map (cell_of old.stack.frames) (cells ++ in_stack place ∷ []) = ap (λ cell. m.cells ++ cell ∷ []) added ∙ sym (map-append (cell_of old.stack.frames) cells (in_stack place ∷ [])) in
      (λ i. next (record m { cells = all i }) (length-map cells (cell_of old.stack.frames) i))
      ∙ behind None is

  -- a register's cell
  capture_seen : (number, heap) ≡ captured old.stack.frames r old.heap → capture (seen c a old) r next ≡ next (seen c a (record old { heap = heap; stack = stack })) number
  capture_seen is =
      let m = seen c a old in
      ap (λ n. capture_as m r (find_open n r 0 m.cells) next) (depth_is c a fs old safe)
      ∙ by (find_open (length (below old.stack.frames)) r 0 (cells_of old.stack.frames old.heap)) is

pub move_takes : (old : Running) (heap : HeapState) (stack : StackState) (word : ℕ) (i : Instr) (cell : CellId) → instr_of word ≡ Some i → i.op ≡ Op.Move → i.b < length (top old.stack.frames) → (cell.index, heap) ≡ captured old.stack.frames i.b old.heap → cell.index < length heap.cells → OnlyCells old (record old { heap = heap; stack = stack }) → TakesCells (word ∷ []) old (record old { heap = heap; stack = stack }) (cell ∷ [])
move_takes old heap stack word i cell reading op within is known only = record {
  is = λ c a fs safe next.
      let m = seen c a old in
      let after : State → ℕ → Effect = λ m1 n. next m1 (n ∷ []) in
      ap (λ o. need o (λ w. take_cell_by w.op m w after)) reading
      ∙ ap (λ op. take_cell_by op m i after) op
      ∙ ap (λ (o : Option Datum). need o (λ v. capture m i.b after)) (there m old.heap (top old.stack.frames) i.b within).1
      ∙ capture_seen c a fs old heap stack i.b cell.index safe within only.frames after is;
  known = All-cons (λ (cell : CellId). cell.index < length heap.cells) cell [] known (All-nil (λ (cell : CellId). cell.index < length heap.cells));
  only_cells = only;
}

-- the heap that a capture leaves
pub captured_heap : (frames : List (List Value)) (r number : ℕ) (old heap : HeapState) → (number, heap) ≡ captured frames r old → heap ≡ record old { cells = heap.cells }
captured_heap frames r number old heap is = by (find_open (length (below frames)) r 0 (cells_of frames old)) is
  where
    by : (o : Option ℕ) → ◌≡◌ {A = ℕ × HeapState} (number, heap) (elim o [ None ↦ (length old.cells, record old { cells = old.cells ++ in_stack (place_of frames r) ∷ [] }) | Some n ↦ (n, old) ]) → heap ≡ record old { cells = heap.cells }
    by None e = ap (λ p. p.1) e ∙ (λ i. record old { cells = (sym e i).1.cells })
    by (Some n) e = ap (λ p. p.1) e ∙ (λ i. record old { cells = (sym e i).1.cells })

-- ---- GETUPVAL

pub upvalue_takes : (k : Running) (word : ℕ) (i : Instr) (cell : CellId) → instr_of word ≡ Some i → i.op ≡ Op.GetUpval → i.b < length (cells_in k.heap k.top.closure) → cell.index ≡ get_or (cells_in k.heap k.top.closure) i.b 0 → cell.index < length k.heap.cells → Shares k.stack k.heap → TakesCells (word ∷ []) k k (cell ∷ [])
upvalue_takes k word i cell reading op within is known shares = record {
  is = λ c a fs safe next.
      let m = seen c a k in
      let after : State → ℕ → Effect = λ m1 n. next m1 (n ∷ []) in
      ap (λ o. need o (λ w. take_cell_by w.op m w after)) reading
      ∙ ap (λ op. take_cell_by op m i after) op
      ∙ ap (λ (o : Option ℕ). need o (λ n. after m n)) (slice_get-get_or (cells_in k.heap k.top.closure) i.b 0 within ∙ ap Some (sym is));
  known = All-cons (λ (cell : CellId). cell.index < length k.heap.cells) cell [] known (All-nil (λ (cell : CellId). cell.index < length k.heap.cells));
  only_cells = only_none k shares;
}
