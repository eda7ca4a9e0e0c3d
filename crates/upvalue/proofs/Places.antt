-- The register at a place: whose frame it is of, what its value is, and what a value put there changes.
use Rattle.std.proofs.Common.{◌≡◌, ℕ, suc, ◌+◌, ◌-◌, ◌<◌, ◌≤◌, Bool, List, [], ◌∷◌, ◌++◌, length, map, take, drop, set, ◌⊎◌, inl, inr, refl, sym, ap, subst, ◌∙◌, arith}
use Rattle.std.specs.Prelude.{slice_get, slice_set, if◌then◌else◌}
use Rattle.std.proofs.lemmas.Bool.{le-leb, lt-leb, eq-eqb, ne_eqb, cases_lt}
use Rattle.std.proofs.Math.Seq.{take-set-lt}
use Rattle.std.proofs.lemmas.List.{length-take-le, length-map, map-append, take-set-le, drop-set-lt, drop-set-add}
use Rattle.lua_model.specs.declared.Value.{Value}
use Rattle.lua_heap.specs.State.{HeapState, datum}
use Rattle.rules.specs.State.{Cell, Open, Closed}
use Rattle.upvalue.specs.State.{in_a_row, size, register_at, frame_at, value_of, with_register, with_value}
use Rattle.upvalue.specs.Inside.{cut, AreLaid}
use Rattle.upvalue.proofs.Lists.{get_left, get_right}
use Rattle.upvalue.proofs.Rows.{row-cut, laid_below}

-- a register of one of so many frames
abbrev pub IsWithin : ℕ → Cell → Type 0
IsWithin n (Open frame register) = frame < n
IsWithin n (Closed v) = ⊥

within_more : (n : ℕ) (c : Cell) → IsWithin n c → IsWithin (suc n) c
within_more n (Open frame register) h = omega arith
within_more n (Closed v) h = absurd h

module _ (top : List Value) (rest : List (List Value)) (place : ℕ) where
  abbrev chosen : Bool → Cell
  chosen b = if b then Open (length rest) (place - size rest) else register_at rest place

  pub at_top : size rest ≤ place → register_at (top ∷ rest) place ≡ Open (length rest) (place - size rest)
  at_top high = ap chosen (le-leb (size rest) place high)

  pub at_rest : place < size rest → register_at (top ∷ rest) place ≡ register_at rest place
  at_rest low = ap chosen (lt-leb (size rest) place low)

pub at_is_within : (frames : List (List Value)) (place : ℕ) → place < size frames → IsWithin (length frames) (register_at frames place)
at_is_within [] place h = absurd (omega arith)
at_is_within (top ∷ rest) place h = by (cases_lt place (size rest)) (at_is_within rest place)
  where
    by : (place < size rest) ⊎ (size rest ≤ place) → (place < size rest → IsWithin (length rest) (register_at rest place)) → IsWithin (suc (length rest)) (register_at (top ∷ rest) place)
    by (inl low) so = subst (IsWithin (suc (length rest))) (sym (at_rest top rest place low)) (within_more (length rest) (register_at rest place) (so low))
    by (inr high) so = subst (IsWithin (suc (length rest))) (sym (at_top top rest place high)) (omega arith)

-- ---- its value

frame_of_rest : (top : List Value) (rest : List (List Value)) (n : ℕ) → n < length rest → frame_at (top ∷ rest) n ≡ frame_at rest n
frame_of_rest top rest n h =
    ap (λ b. if b then top else frame_at rest n) (ne_eqb n (length rest) (λ same. omega arith))

module _ (h : HeapState) where
  value_of_rest : (top : List Value) (rest : List (List Value)) (c : Cell) → IsWithin (length rest) c → value_of h (top ∷ rest) c ≡ value_of h rest c
  value_of_rest top rest (Open n register) w = ap (λ registers. slice_get (map (datum h) registers) register) (frame_of_rest top rest n w)
  value_of_rest top rest (Closed v) w = absurd w

  value_of_top : (top : List Value) (rest : List (List Value)) (register : ℕ) → value_of h (top ∷ rest) (Open (length rest) register) ≡ slice_get (map (datum h) top) register
  value_of_top top rest register =
      ap (λ b. slice_get (map (datum h) (if b then top else frame_at rest (length rest))) register) (eq-eqb (length rest) (length rest) refl)

  -- of a place in the row below the topmost frame, and in the topmost frame
  row_below : (top : List Value) (rest : List (List Value)) (place : ℕ) → place < size rest → slice_get (map (datum h) (in_a_row (top ∷ rest))) place ≡ slice_get (map (datum h) (in_a_row rest)) place
  row_below top rest place low =
      let long = length-map (in_a_row rest) (datum h) in
      ap (λ row. slice_get row place) (map-append (datum h) (in_a_row rest) top) ∙ get_left (map (datum h) (in_a_row rest)) (map (datum h) top) place (omega (arith, long))

  row_top : (top : List Value) (rest : List (List Value)) (place : ℕ) → size rest ≤ place → slice_get (map (datum h) (in_a_row (top ∷ rest))) place ≡ slice_get (map (datum h) top) (place - size rest)
  row_top top rest place high =
      let long = length-map (in_a_row rest) (datum h) in
      let there : place ≡ length (map (datum h) (in_a_row rest)) + (place - size rest) = omega (arith, long) in
      ap (λ row. slice_get row place) (map-append (datum h) (in_a_row rest) top)
      ∙ ap (slice_get (map (datum h) (in_a_row rest) ++ map (datum h) top)) there
      ∙ get_right (map (datum h) (in_a_row rest)) (map (datum h) top) (place - size rest)

  pub value_at : (frames : List (List Value)) (place : ℕ) → place < size frames → value_of h frames (register_at frames place) ≡ slice_get (map (datum h) (in_a_row frames)) place
  value_at [] place l = absurd (omega arith)
  value_at (top ∷ rest) place l = by (cases_lt place (size rest)) (value_at rest place)
    where
      by : (place < size rest) ⊎ (size rest ≤ place) → (place < size rest → value_of h rest (register_at rest place) ≡ slice_get (map (datum h) (in_a_row rest)) place) → value_of h (top ∷ rest) (register_at (top ∷ rest) place) ≡ slice_get (map (datum h) (in_a_row (top ∷ rest))) place
      by (inl low) so =
          ap (value_of h (top ∷ rest)) (at_rest top rest place low)
          ∙ value_of_rest top rest (register_at rest place) (at_is_within rest place low)
          ∙ so low
          ∙ sym (row_below top rest place low)
      by (inr high) so =
          ap (value_of h (top ∷ rest)) (at_top top rest place high) ∙ value_of_top top rest (place - size rest) ∙ sym (row_top top rest place high)

-- ---- a value put there

module _ (h : HeapState) (number : ℕ) (v : Value) where
  put_in_rest : (top : List Value) (rest : List (List Value)) (c : Cell) → IsWithin (length rest) c → with_value (top ∷ rest) h number c v ≡ (top ∷ (with_value rest h number c v).0, h)
  put_in_rest top rest (Open n register) w =
      ap (λ b. (if b then slice_set top register v ∷ rest else top ∷ with_register rest n register v, h)) (ne_eqb n (length rest) (λ same. omega arith))
  put_in_rest top rest (Closed old) w = absurd w

  put_in_top : (top : List Value) (rest : List (List Value)) (register : ℕ) → with_value (top ∷ rest) h number (Open (length rest) register) v ≡ (slice_set top register v ∷ rest, h)
  put_in_top top rest register =
      ap (λ b. (if b then slice_set top register v ∷ rest else top ∷ with_register rest (length rest) register v, h)) (eq-eqb (length rest) (length rest) refl)

  abbrev IsPut : List ℕ → List Value → ℕ → Type 0
  IsPut bases values place = (cut bases (set values place v), h) ≡ with_value (cut bases values) h number (register_at (cut bases values) place) v

  put_low : (base : ℕ) (bases : List ℕ) (values : List Value) (place : ℕ) → size (cut bases (take base values)) ≡ base → place < base → IsPut bases (take base values) place → IsPut (base ∷ bases) values place
  put_low base bases values place begins low so =
      let top = drop base values in
      let rest = cut bases (take base values) in
      let under : place < size rest = omega (arith, low, begins) in
      ap (λ registers. (registers ∷ cut bases (take base (set values place v)), h)) (drop-set-lt base values place v low)
      ∙ ap (λ row. (top ∷ cut bases row, h)) (take-set-lt base values place v low)
      ∙ ap (λ p. (top ∷ p.0, h)) so
      ∙ sym (put_in_rest top rest (register_at rest place) (at_is_within rest place under))
      ∙ sym (ap (λ c. with_value (top ∷ rest) h number c v) (at_rest top rest place under))

  put_high : (base : ℕ) (bases : List ℕ) (values : List Value) (place : ℕ) → size (cut bases (take base values)) ≡ base → base ≤ place → IsPut (base ∷ bases) values place
  put_high base bases values place begins high =
      let top = drop base values in
      let rest = cut bases (take base values) in
      let register = place - size rest in
      let there : place ≡ base + register = omega (arith, high, begins) in
      ap (λ row. (drop base (set values place v) ∷ cut bases row, h)) (take-set-le base values place v high)
      ∙ ap (λ registers. (registers ∷ rest, h)) (ap (λ p. drop base (set values p v)) there ∙ drop-set-add base values register v)
      ∙ sym (put_in_top top rest register)
      ∙ sym (ap (λ c. with_value (top ∷ rest) h number c v) (at_top top rest place (omega (arith, high, begins))))

  pub put_at : (bases : List ℕ) (values : List Value) (place : ℕ) → AreLaid bases (length values) → place < length values → IsPut bases values place
  put_at [] values place laid l = absurd (omega (arith, laid))
  put_at (base ∷ bases) values place laid l =
      let laid_rest = laid_below base bases values laid in
      let long = length-take-le base values laid.0 in
      by (cases_lt place base) (ap length (row-cut bases (take base values) laid_rest) ∙ long) (λ low. put_at bases (take base values) place laid_rest (omega (arith, low, long)))
    where
      by : (place < base) ⊎ (base ≤ place) → size (cut bases (take base values)) ≡ base → (place < base → IsPut bases (take base values) place) → IsPut (base ∷ bases) values place
      by (inl low) begins so = put_low base bases values place begins low (so low)
      by (inr high) begins so = put_high base bases values place begins high
