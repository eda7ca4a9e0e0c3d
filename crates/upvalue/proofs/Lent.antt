-- Frames with a row of as many values in their registers: the cells are the same, and are shared as before.
use Rattle.std.proofs.Common.{◌≡◌, ℕ, suc, ◌-◌, List, [], ◌∷◌, ◌++◌, length, take, drop, reverse, refl, sym, ap, subst, ◌∙◌, arith}
use Rattle.std.specs.Prelude.{nat_le, if◌then◌else◌}
use Rattle.std.specs.List.{refill}
use Rattle.std.proofs.lemmas.List.{length-append, length-take-le, take-append-drop, take_at, nil_from_length}
use Rattle.lua_model.specs.declared.Value.{Value}
use Rattle.lua_heap.specs.State.{HeapState, CellState, in_stack, held, AreOf}
use Rattle.rules.specs.State.{Cell, Open}
use Rattle.upvalue.specs.declared.stack.ValueStack.TheInside.{Inside}
use Rattle.upvalue.specs.State.{StackState, in_a_row, size, register_at, cell_of, cells_of, with_row, fitted}
use Rattle.upvalue.specs.Shared.{Shares}
use Rattle.upvalue.specs.Inside.{cut, AreLaid, view_of, IsLaid}
use Rattle.upvalue.proofs.Lists.{images_agree}
use Rattle.upvalue.proofs.Rows.{stack_of, laid_below, size-below, row_is}

row_below : (top : List Value) (rest : List (List Value)) (row : List Value) → length row ≡ size (top ∷ rest) → length (take (size rest) row) ≡ size rest
row_below top rest row long = length-take-le (size rest) row (omega (arith, long, length-append (in_a_row rest) top))

pub row-with_row : (frames : List (List Value)) (row : List Value) → length row ≡ size frames → in_a_row (with_row frames row) ≡ row
row-with_row [] row long = sym (nil_from_length row long)
row-with_row (top ∷ rest) row long =
    ap (λ under. under ++ drop (size rest) row) (row-with_row rest (take (size rest) row) (row_below top rest row long)) ∙ take-append-drop (size rest) row

length-with_row : (frames : List (List Value)) (row : List Value) → length (with_row frames row) ≡ length frames
length-with_row [] row = refl
length-with_row (top ∷ rest) row = ap suc (length-with_row rest (take (size rest) row))

register-with_row : (frames : List (List Value)) (row : List Value) (place : ℕ) → length row ≡ size frames → register_at (with_row frames row) place ≡ register_at frames place
register-with_row [] row place long = refl
register-with_row (top ∷ rest) row place long =
    let of_parts : ℕ → ℕ → Cell → Cell = λ begins count under. if nat_le begins place then Open count (place - begins) else under in
    let left = take (size rest) row in
    let now = with_row rest left in
    let long_left = row_below top rest row long in
    ap (λ n. of_parts n (length now) (register_at now place)) (ap length (row-with_row rest left long_left) ∙ long_left)
    ∙ ap (λ n. of_parts (size rest) n (register_at now place)) (length-with_row rest left)
    ∙ ap (of_parts (size rest) (length rest)) (register-with_row rest left place long_left)

cell-with_row : (frames : List (List Value)) (row : List Value) (c : CellState) → length row ≡ size frames → cell_of (with_row frames row) c ≡ cell_of frames c
cell-with_row frames row (in_stack place) long = register-with_row frames row place long
cell-with_row frames row (held v) long = refl

pub cells-with_row : (frames : List (List Value)) (row : List Value) (h : HeapState) → length row ≡ size frames → cells_of (with_row frames row) h ≡ cells_of frames h
cells-with_row frames row h long =
    images_agree (cell_of (with_row frames row)) (cell_of frames) h.cells (λ k c e. cell-with_row frames row c long)

pub shares-with_row : (self : StackState) (row : List Value) (h : HeapState) → length row ≡ size self.frames → AreOf h row → Shares self h → Shares (record self { frames = with_row self.frames row }) h
shares-with_row self row h long known shares =
    let now = row-with_row self.frames row long in
    record {
      known = subst (AreOf h) (sym now) known;
      stands = shares.stands;
      there = λ i o e. let low = shares.there i o e in omega (arith, low, long, ap length now);
      all = shares.all;
      in_order = shares.in_order;
    }

pub fitted_is : (frames : List (List Value)) (row : List Value) → length row ≡ size frames → fitted frames row ≡ row
fitted_is frames row long = take_at row (drop (length row) (in_a_row frames)) (size frames) long

-- ---- the fields of a stack

-- a row that is cut as the values were
with_row-cut : (bases : List ℕ) (values row : List Value) → AreLaid bases (length values) → cut bases row ≡ with_row (cut bases values) row
with_row-cut [] values row laid = refl
with_row-cut (base ∷ bases) values row laid =
    let rest = cut bases (take base values) in
    ap (λ frames. drop base row ∷ frames) (with_row-cut bases (take base values) (take base row) (laid_below base bases values laid))
    ∙ ap (λ n. drop n row ∷ with_row rest (take n row)) (sym (size-below (base ∷ bases) values laid))

pub with_row_is : (s : Inside) (self : StackState) → view_of s ≡ self → IsLaid s → (row : List Value) → stack_of s.bases.items row s.shared.items ≡ record self { frames = with_row self.frames row }
with_row_is s self is laid row =
    ap (λ frames. record (view_of s) { frames = frames }) (with_row-cut (reverse s.bases.items) s.values.items row laid.laid)
    ∙ ap (λ (u : StackState). record u { frames = with_row u.frames row }) is

-- with what is left in the place of the values
pub lent_is : (s : Inside) (self : StackState) → view_of s ≡ self → IsLaid s → (row : List Value) → stack_of s.bases.items (refill s.values.len s.values.items row) s.shared.items ≡ record self { frames = with_row self.frames (fitted self.frames row) }
lent_is s self is laid row =
    with_row_is s self is laid (refill s.values.len s.values.items row)
    ∙ ap (λ n. record self { frames = with_row self.frames (refill n s.values.items row) }) (s.values.ok.0 ∙ sym (ap length (row_is s self is laid)))
    ∙ ap (λ values. record self { frames = with_row self.frames (refill (size self.frames) values row) }) (sym (row_is s self is laid))
