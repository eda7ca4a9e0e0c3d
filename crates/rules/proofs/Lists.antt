-- Facts of lists and tests.
use Rattle.std.proofs.Common.{◌≡◌, ◌⊎◌, inl, inr, ℕ, zero, suc, ◌+◌, ◌<◌, ◌≤◌, Bool, true, false, ◌&&◌, ◌||◌, ◌==◌, not, List, [], ◌∷◌, ◌++◌, length, None, Some, refl, sym, ap, ◌∙◌, true≢false, arith, not-suc-le-zero, le_of_suc-le-suc, leb-false, nat_le, length-set}
use Rattle.std.specs.Prelude.{slice_get, slice_set}
use Rattle.lua_model.specs.Datum.{Datum, adjusted}
use Rattle.std.specs.List.{list_any}
use Rattle.rules.specs.Breaks.{reaches}
use Rattle.rules.specs.State.{spliced}

pub get_some : {A : Type 0} (xs : List A) (i : ℕ) → i < length xs → (x : A) × (slice_get xs i ≡ Some x)
get_some [] i h = absurd (not-suc-le-zero h)
get_some (x ∷ xs) zero h = (x, refl)
get_some (x ∷ xs) (suc i) h = get_some xs i (le_of_suc-le-suc h)

pub set_other : {A : Type 0} (xs : List A) (a r : ℕ) (v : A) → (a ≡ r → ⊥) → slice_get (slice_set xs a v) r ≡ slice_get xs r
set_other [] a r v h = refl
set_other (x ∷ xs) zero zero v h = absurd (h refl)
set_other (x ∷ xs) zero (suc r) v h = refl
set_other (x ∷ xs) (suc a) zero v h = refl
set_other (x ∷ xs) (suc a) (suc r) v h = set_other xs a r v (λ e. h (ap suc e))

pub set_same : {A : Type 0} (xs : List A) (a : ℕ) (v : A) → a < length xs → slice_get (slice_set xs a v) a ≡ Some v
set_same [] a v h = absurd (not-suc-le-zero h)
set_same (x ∷ xs) zero v h = refl
set_same (x ∷ xs) (suc a) v h = set_same xs a v (le_of_suc-le-suc h)

pub length-spliced : (registers : List Datum) (a : ℕ) (vs : List Datum) → length (spliced registers a vs) ≡ length registers
length-spliced registers a [] = refl
length-spliced registers a (v ∷ vs) = length-spliced (slice_set registers a v) (suc a) vs ∙ length-set registers a v

pub spliced_other : (registers : List Datum) (a : ℕ) (vs : List Datum) (r : ℕ) → (a ≤ r → r < a + length vs → ⊥) → slice_get (spliced registers a vs) r ≡ slice_get registers r
spliced_other registers a [] r h = refl
spliced_other registers a (v ∷ vs) r h =
    spliced_other (slice_set registers a v) (suc a) vs r (λ low high. h (omega arith) (omega arith)) ∙ set_other registers a r v (λ e. h (omega arith) (omega arith))

pub length-adjusted : (n : ℕ) (vs : List Datum) → length (adjusted n vs) ≡ n
length-adjusted zero vs = refl
length-adjusted (suc n) [] = ap suc (length-adjusted n [])
length-adjusted (suc n) (v ∷ vs) = ap suc (length-adjusted n vs)

pub get_front : {A : Type 0} (xs ys : List A) (i : ℕ) (x : A) → slice_get xs i ≡ Some x → slice_get (xs ++ ys) i ≡ Some x
get_front [] ys i x e = absurd (true≢false (ap (λ o. elim o [ None ↦ true | Some y ↦ false ]) e))
get_front (y ∷ xs) ys zero x e = e
get_front (y ∷ xs) ys (suc i) x e = get_front xs ys i x e

pub get_last : {A : Type 0} (xs : List A) (y : A) → slice_get (xs ++ y ∷ []) (length xs) ≡ Some y
get_last [] y = refl
get_last (x ∷ xs) y = get_last xs y

-- what is behind a list with one more element
pub get_pushed : {A : Type 0} (xs : List A) (y : A) (i : ℕ) (x : A) → slice_get (xs ++ y ∷ []) i ≡ Some x → (slice_get xs i ≡ Some x) ⊎ (y ≡ x)
get_pushed [] y zero x e = inr (ap (λ o. elim o [ None ↦ y | Some z ↦ z ]) e)
get_pushed [] y (suc i) x e = inl e
get_pushed (z ∷ xs) y zero x e = inl e
get_pushed (z ∷ xs) y (suc i) x e = get_pushed xs y i x e

pub none_some : {A : Type 0} {B : Type 0} (x : B) → None ≡ Some x → A
none_some {A} x e = absurd (true≢false (ap (λ o. elim o [ None ↦ true | Some y ↦ false ]) e))

pub some_one : {A : Type 0} (x y : A) → Some x ≡ Some y → x ≡ y
some_one x y e = ap (λ o. elim o [ None ↦ x | Some z ↦ z ]) e

-- Tests.
pub or_first_false : (a b : Bool) → (a || b) ≡ false → a ≡ false
or_first_false true b e = e
or_first_false false b e = refl

pub or_second_false : (a b : Bool) → (a || b) ≡ false → b ≡ false
or_second_false true b e = absurd (true≢false e)
or_second_false false b e = e

pub and_first : (a b : Bool) → (a && b) ≡ true → a ≡ true
and_first true b e = refl
and_first false b e = e

pub and_second : (a b : Bool) → (a && b) ≡ true → b ≡ true
and_second true b e = e
and_second false b e = absurd (true≢false (sym e))

pub and_true : (a b : Bool) → a ≡ true → b ≡ true → (a && b) ≡ true
and_true true b e h = h
and_true false b e h = absurd (true≢false (sym e))

-- where both are not, and the first is, the second is not
pub and_not : (a b : Bool) → (a && b) ≡ false → a ≡ true → b ≡ false
and_not true b e h = e
and_not false b e h = absurd (true≢false (sym h))

pub not_false : (a : Bool) → not a ≡ false → a ≡ true
not_false true e = refl
not_false false e = absurd (true≢false e)

pub not_true : (a : Bool) → not a ≡ true → a ≡ false
not_true true e = absurd (true≢false (sym e))
not_true false e = refl

pub or_cases : (a b : Bool) → (a || b) ≡ true → (a ≡ true) ⊎ (b ≡ true)
or_cases true b e = inl refl
or_cases false b e = inr e

pub or_left : (a b : Bool) → a ≡ true → (a || b) ≡ true
or_left true b e = refl
or_left false b e = absurd (true≢false (sym e))

pub or_right : (a b : Bool) → b ≡ true → (a || b) ≡ true
or_right true b e = refl
or_right false b e = e

pub both_false : (a b : Bool) → a ≡ false → b ≡ false → (a || b) ≡ false
both_false true b e h = absurd (true≢false e)
both_false false b e h = h

pub clash : {A : Type 0} {b : Bool} → b ≡ true → b ≡ false → A
clash e h = absurd (true≢false (sym e ∙ h))

pub some_head : {A : Type 0} (t : A → Bool) (x : A) (xs : List A) → list_any t (x ∷ xs) ≡ false → t x ≡ false
some_head t x xs = or_first_false (t x) (list_any t xs)

pub some_tail : {A : Type 0} (t : A → Bool) (x : A) (xs : List A) → list_any t (x ∷ xs) ≡ false → list_any t xs ≡ false
some_tail t x xs = or_second_false (t x) (list_any t xs)

pub reach_head : (limit x : ℕ) (xs : List ℕ) → reaches limit (x ∷ xs) ≡ false → x < limit
reach_head limit x xs e = leb-false limit x (some_head (λ n. nat_le limit n) x xs e)

pub reach_tail : (limit x : ℕ) (xs : List ℕ) → reaches limit (x ∷ xs) ≡ false → reaches limit xs ≡ false
reach_tail limit x xs e = some_tail (λ n. nat_le limit n) x xs e

-- a register is among some
abbrev pub member : List ℕ → ℕ → Bool
member xs r = list_any (λ x. x == r) xs
