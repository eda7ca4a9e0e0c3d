-- The registers of the topmost frame, lent among those of all frames, and what is left in them.
use Rattle.std.proofs.Common.{◌≡◌, ℕ, ◌+◌, ◌-◌, List, [], ◌∷◌, ◌++◌, length, take, drop, refl, sym, ap, subst, ◌∙◌, arith}
use Rattle.std.proofs.lemmas.List.{length-append, append-nil, take_all, drop_all, nil_from_length}
use Rattle.std.specs.Prelude.{slice_get}
use Rattle.std.proofs.lemmas.List.Elements.{All-append, All-take}
use Rattle.std.proofs.Math.Seq.{take-append_seam, drop-append_seam}
use Rattle.lua_model.specs.declared.Value.{Value}
use Rattle.lua_heap.specs.State.{HeapState, IsOf, AreOf, Keeps}
use Rattle.lua_heap.proofs.Callers.{values_are_kept}
use Rattle.upvalue.specs.State.{StackState, top, below, with_top, in_a_row, size, with_row, fitted}
use Rattle.upvalue.specs.Shared.{Shares}
use Rattle.upvalue.proofs.Lent.{fitted_is, shares-with_row}

-- those of the topmost frame
pub lent_top : (frames : List (List Value)) → take (size frames - size (below frames)) (drop (size (below frames)) (in_a_row frames)) ≡ top frames
lent_top [] = refl
lent_top (x ∷ rest) =
    let b = drop-append_seam (in_a_row rest) x in
    ap (take (size (x ∷ rest) - size rest)) b ∙ take_all (size (x ∷ rest) - size rest) x (omega (arith, length-append (in_a_row rest) x))

-- the row when these are left in them
pub left_row : (frames : List (List Value)) (now : List Value) → take (size (below frames)) (in_a_row frames) ++ (now ++ drop (size frames - size (below frames)) (drop (size (below frames)) (in_a_row frames))) ≡ in_a_row (below frames) ++ now
left_row [] now = append-nil now
left_row (x ∷ rest) now =
    let n = size (x ∷ rest) - size rest in
    let none : drop n (drop (size rest) (in_a_row rest ++ x)) ≡ [] = ap (drop n) (drop-append_seam (in_a_row rest) x) ∙ drop_all n x (omega (arith, length-append (in_a_row rest) x)) in
    (λ i. take-append_seam (in_a_row rest) x i ++ (now ++ none i)) ∙ ap (λ l. in_a_row rest ++ l) (append-nil now)

-- the registers that were lent are the topmost frame's
pub part_is : (frames : List (List Value)) (base : ℕ) (row : List Value) → base ≡ size (below frames) → row ≡ in_a_row frames → take (length row - base) (drop base row) ≡ top frames
part_is frames base row b r = (λ i. take (length (r i) - b i) (drop (b i) (r i))) ∙ lent_top frames

-- the row when a word left these in them
pub row_is : (frames : List (List Value)) (base : ℕ) (row now : List Value) → base ≡ size (below frames) → row ≡ in_a_row frames → take base row ++ (now ++ drop (length row - base) (drop base row)) ≡ in_a_row (below frames) ++ now
row_is frames base row now b r = (λ i. take (b i) (r i) ++ (now ++ drop (length (r i) - b i) (drop (b i) (r i)))) ∙ left_row frames now

same_row : (frames : List (List Value)) → with_row frames (in_a_row frames) ≡ frames
same_row [] = refl
same_row (x ∷ rest) = (λ i. drop-append_seam (in_a_row rest) x i ∷ with_row rest (take-append_seam (in_a_row rest) x i)) ∙ ap (λ l. x ∷ l) (same_row rest)

size_is : (frames : List (List Value)) → size frames ≡ size (below frames) + length (top frames)
size_is [] = omega arith
size_is (x ∷ rest) = length-append (in_a_row rest) x

-- as many left as there were, in the topmost frame
pub left_frames : (frames : List (List Value)) (now : List Value) → length now ≡ length (top frames) → with_row frames (fitted frames (in_a_row (below frames) ++ now)) ≡ with_top frames now
left_frames [] now long = refl
left_frames (x ∷ rest) now long =
    ap (with_row (x ∷ rest)) (fitted_is (x ∷ rest) (in_a_row rest ++ now) (omega (arith, long, length-append (in_a_row rest) now, length-append (in_a_row rest) x)))
    ∙ (λ i. drop-append_seam (in_a_row rest) now i ∷ with_row rest (take-append_seam (in_a_row rest) now i))
    ∙ ap (λ l. now ∷ l) (same_row rest)

pub top-with_top : (frames : List (List Value)) (now : List Value) → length now ≡ length (top frames) → top (with_top frames now) ≡ now
top-with_top [] now long = sym (nil_from_length now long)
top-with_top (x ∷ rest) now long = refl

-- ---- a later heap

pub shares_on : (stack : StackState) (old new : HeapState) → Keeps old new → new.cells ≡ old.cells → Shares stack old → Shares stack new
shares_on stack old new keeps same shares = record {
  known = values_are_kept old new keeps (in_a_row stack.frames) shares.known;
  stands = λ i o e. ap (λ cells. slice_get cells o.cell.index) same ∙ shares.stands i o e;
  there = shares.there;
  all = λ number place e. shares.all number place (sym (ap (λ cells. slice_get cells number) same) ∙ e);
  in_order = shares.in_order;
}

row_known : (h : HeapState) (frames : List (List Value)) (now : List Value) → AreOf h (in_a_row frames) → AreOf h now → AreOf h (in_a_row (below frames) ++ now)
row_known h [] now known now_known = now_known
row_known h (x ∷ rest) now known now_known =
    All-append (IsOf h) (in_a_row rest) now (subst (λ (vs : List Value). AreOf h vs) (take-append_seam (in_a_row rest) x) (All-take (IsOf h) (size rest) (in_a_row rest ++ x) known)) now_known

-- where these are left in the registers of the topmost frame, a word's heap is shared as before
pub left_shares : (stack : StackState) (old new : HeapState) (now : List Value) → Keeps old new → new.cells ≡ old.cells → length now ≡ length (top stack.frames) → AreOf new now → Shares stack old → Shares (record stack { frames = with_row stack.frames (fitted stack.frames (in_a_row (below stack.frames) ++ now)) }) new
left_shares stack old new now keeps same long known shares =
    let frames = stack.frames in
    let on = shares_on stack old new keeps same shares in
    let row = in_a_row (below frames) ++ now in
    let row_long : length row ≡ size frames = omega (arith, long, length-append (in_a_row (below frames)) now, size_is frames) in
    let fit : fitted frames row ≡ row = fitted_is frames row row_long in
    subst (λ (r : List Value). Shares (record stack { frames = with_row frames r }) new) (sym fit)
    (shares-with_row stack row new row_long (row_known new frames now on.known known) on)
