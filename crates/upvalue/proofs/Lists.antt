-- Elements of lists, by their places, and images of lists that agree place by place.
use Rattle.std.proofs.Common.{◌≡◌, ℕ, zero, suc, ◌+◌, ◌<◌, ◌≤◌, List, [], ◌∷◌, ◌++◌, length, map, take, set, ◌⊎◌, inl, inr, Some, refl, sym, ap, ◌∙◌, arith}
use Rattle.std.specs.Prelude.{slice_get}
use Rattle.std.specs.List.{insert}
use Rattle.std.proofs.lemmas.Bool.{cases_lt}
use Rattle.std.proofs.lemmas.Option.{same_Some}

-- ---- elements

pub get_take : {X : Type 0} (n : ℕ) (xs : List X) (i : ℕ) → i < n → slice_get (take n xs) i ≡ slice_get xs i
get_take zero xs i h = absurd (omega arith)
get_take (suc n) [] i h = refl
get_take (suc n) (x ∷ xs) zero h = refl
get_take (suc n) (x ∷ xs) (suc i) h = get_take n xs i (omega arith)

pub taken_from : {X : Type 0} (n : ℕ) (xs : List X) (i : ℕ) (x : X) → slice_get (take n xs) i ≡ Some x → (i < n) × (slice_get xs i ≡ Some x)
taken_from zero xs i x e = cc
taken_from (suc n) [] i x e = cc
taken_from (suc n) (y ∷ xs) zero x e = (omega arith, e)
taken_from (suc n) (y ∷ xs) (suc i) x e =
    let h = taken_from n xs i x e in (omega (arith, h.0), h.1)

pub get_left : {X : Type 0} (xs ys : List X) (i : ℕ) → i < length xs → slice_get (xs ++ ys) i ≡ slice_get xs i
get_left [] ys i h = absurd (omega arith)
get_left (x ∷ xs) ys zero h = refl
get_left (x ∷ xs) ys (suc i) h = get_left xs ys i (omega arith)

pub get_right : {X : Type 0} (xs ys : List X) (i : ℕ) → slice_get (xs ++ ys) (length xs + i) ≡ slice_get ys i
get_right [] ys i = let e : 0 + i ≡ i = omega arith in ap (slice_get ys) e
get_right (x ∷ xs) ys i = let e : suc (length xs) + i ≡ suc (length xs + i) = omega arith in ap (slice_get (x ∷ (xs ++ ys))) e ∙ get_right xs ys i

-- ---- one more element at a place

put_below : {X : Type 0} (xs : List X) (at : ℕ) (y : X) (i : ℕ) (x : X) → i < at → slice_get xs i ≡ Some x → slice_get (insert xs at y) i ≡ Some x
put_below [] at y i x h e = cc
put_below (z ∷ xs) zero y i x h e = absurd (omega arith)
put_below (z ∷ xs) (suc at) y zero x h e = e
put_below (z ∷ xs) (suc at) y (suc i) x h e = put_below xs at y i x (omega arith) e

pub put_there : {X : Type 0} (xs : List X) (at : ℕ) (y : X) → at ≤ length xs → slice_get (insert xs at y) at ≡ Some y
put_there xs zero y h = refl
put_there [] (suc at) y h = absurd (omega arith)
put_there (z ∷ xs) (suc at) y h = put_there xs at y (omega arith)

put_above : {X : Type 0} (xs : List X) (at : ℕ) (y : X) (i : ℕ) (x : X) → at ≤ i → slice_get xs i ≡ Some x → slice_get (insert xs at y) (suc i) ≡ Some x
put_above xs zero y i x h e = e
put_above [] (suc at) y i x h e = cc
put_above (z ∷ xs) (suc at) y zero x h e = absurd (omega arith)
put_above (z ∷ xs) (suc at) y (suc i) x h e = put_above xs at y i x (omega arith) e

pub still_there : {X : Type 0} (xs : List X) (at : ℕ) (y : X) (i : ℕ) (x : X) → slice_get xs i ≡ Some x → (j : ℕ) × (slice_get (insert xs at y) j ≡ Some x)
still_there xs at y i x e = by (cases_lt i at)
  where
    by : (i < at) ⊎ (at ≤ i) → (j : ℕ) × (slice_get (insert xs at y) j ≡ Some x)
    by (inl low) = (i, put_below xs at y i x low e)
    by (inr high) = (suc i, put_above xs at y i x high e)

-- where the element at a place stood before, or that it is the new one
abbrev pub WasAt : {X : Type 0} → List X → ℕ → X → ℕ → X → Type 0
WasAt xs at y i x = ((i < at) × (slice_get xs i ≡ Some x)) ⊎ (((i ≡ at) × (y ≡ x)) ⊎ ((j : ℕ) × (at ≤ j) × (i ≡ suc j) × (slice_get xs j ≡ Some x)))

was_next : {X : Type 0} (z : X) (xs : List X) (at : ℕ) (y : X) (i : ℕ) (x : X) → WasAt xs at y i x → WasAt (z ∷ xs) (suc at) y (suc i) x
was_next z xs at y i x (inl h) = inl (omega (arith, h.0), h.1)
was_next z xs at y i x (inr (inl h)) = inr (inl (ap suc h.0, h.1))
was_next z xs at y i x (inr (inr h)) = inr (inr (suc h.0, omega (arith, h.1), ap suc h.2, h.3))

pub was_at : {X : Type 0} (xs : List X) (at : ℕ) (y : X) (i : ℕ) (x : X) → at ≤ length xs → slice_get (insert xs at y) i ≡ Some x → WasAt xs at y i x
was_at xs zero y zero x h e = inr (inl (refl, same_Some y x e))
was_at xs zero y (suc i) x h e = inr (inr (i, omega arith, refl, e))
was_at [] (suc at) y i x h e = absurd (omega arith)
was_at (z ∷ xs) (suc at) y zero x h e = inl (omega arith, e)
was_at (z ∷ xs) (suc at) y (suc i) x h e = was_next z xs at y i x (was_at xs at y i x (omega arith) e)

-- ---- images

pub images_agree : {X Y : Type 0} (f g : X → Y) (xs : List X) → ((k : ℕ) (x : X) → slice_get xs k ≡ Some x → f x ≡ g x) → map f xs ≡ map g xs
images_agree f g [] h = refl
images_agree f g (x ∷ xs) h = ap (λ y. y ∷ map f xs) (h 0 x refl) ∙ ap (λ ys. g x ∷ ys) (images_agree f g xs (λ k y e. h (suc k) y e))

-- another element with the same image
pub image_of_set : {X Y : Type 0} (f : X → Y) (xs : List X) (i : ℕ) (old new : X) → slice_get xs i ≡ Some old → f new ≡ f old → map f (set xs i new) ≡ map f xs
image_of_set f [] i old new e h = refl
image_of_set f (x ∷ xs) zero old new e h = ap (λ y. y ∷ map f xs) (h ∙ ap f (sym (same_Some x old e)))
image_of_set f (x ∷ xs) (suc i) old new e h = ap (λ ys. f x ∷ ys) (image_of_set f xs i old new e h)
