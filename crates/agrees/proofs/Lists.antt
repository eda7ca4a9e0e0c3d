-- Facts of lists.
use Rattle.std.proofs.Common.{◌≡◌, ◌≢◌, ◌≤◌, ◌<◌, ℕ, zero, suc, ◌+◌, Bool, true, false, ◌⊎◌, inl, inr, List, [], ◌∷◌, ◌++◌, map, length, Some, None, refl, sym, ap, ◌∙◌, arith, nat_eq, nat_le, drop}
use Rattle.std.specs.Prelude.{slice_get, slice_set}
use Rattle.std.proofs.lemmas.Bool.Decides.{nat_tests}

pub nat_cases : (a b : ℕ) → ((nat_eq a b ≡ true) × (a ≡ b)) ⊎ ((nat_eq a b ≡ false) × (a ≢ b))
nat_cases a b = by (nat_eq a b) refl
  where
    by : (t : Bool) → nat_eq a b ≡ t → ((t ≡ true) × (a ≡ b)) ⊎ ((t ≡ false) × (a ≢ b))
    by true e = inl (refl, grind (arith, nat_tests))
    by false e = inr (refl, λ q. grind (arith, nat_tests))

pub eq_yes : (a b : ℕ) → a ≡ b → nat_eq a b ≡ true
eq_yes a b e = grind (arith, nat_tests)

pub eq_no : (a b : ℕ) → a ≢ b → nat_eq a b ≡ false
eq_no a b e = grind (arith, nat_tests)

pub le_cases : (a b : ℕ) → ((nat_le a b ≡ true) × (a ≤ b)) ⊎ ((nat_le a b ≡ false) × (b < a))
le_cases a b = by (nat_le a b) refl
  where
    by : (t : Bool) → nat_le a b ≡ t → ((t ≡ true) × (a ≤ b)) ⊎ ((t ≡ false) × (b < a))
    by true e = inl (refl, grind (arith, nat_tests))
    by false e = inr (refl, grind (arith, nat_tests))

pub some_same : {A : Type 0} (x y : A) → Some x ≡ Some y → x ≡ y
some_same x y e = ap (λ o. elim o [ None ↦ x | Some z ↦ z ]) e

pub within : {A : Type 0} (xs : List A) (i : ℕ) (x : A) → slice_get xs i ≡ Some x → i < length xs
within [] i x e = cc
within (y ∷ ys) zero x e = omega arith
within (y ∷ ys) (suc i) x e = let l = within ys i x e in omega arith

pub get_within : {A : Type 0} (xs : List A) (i : ℕ) → i < length xs → (x : A) × (slice_get xs i ≡ Some x)
get_within [] i l = absurd (omega arith)
get_within (y ∷ ys) zero l = (y, refl)
get_within (y ∷ ys) (suc i) l = get_within ys i (omega arith)

pub get_map : {A B : Type 0} (f : A → B) (xs : List A) (i : ℕ) (x : A) → slice_get xs i ≡ Some x → slice_get (map f xs) i ≡ Some (f x)
get_map f [] i x e = cc
get_map f (y ∷ ys) zero x e = ap (λ z. Some (f z)) (some_same y x e)
get_map f (y ∷ ys) (suc i) x e = get_map f ys i x e

pub get_app : {A : Type 0} (xs ys : List A) (i : ℕ) (x : A) → slice_get xs i ≡ Some x → slice_get (xs ++ ys) i ≡ Some x
get_app [] ys i x e = cc
get_app (y ∷ xs) ys zero x e = e
get_app (y ∷ xs) ys (suc i) x e = get_app xs ys i x e

pub get_app_right : {A : Type 0} (xs ys : List A) (i m : ℕ) → i ≡ length xs + m → slice_get (xs ++ ys) i ≡ slice_get ys m
get_app_right [] ys i m e = ap (slice_get ys) (let q : i ≡ m = omega arith in q)
get_app_right (x ∷ xs) ys zero m e = absurd (omega arith)
get_app_right (x ∷ xs) ys (suc i) m e = get_app_right xs ys i m (omega arith)

pub set_app_left : {A : Type 0} (xs ys : List A) (i : ℕ) (v : A) → i < length xs → slice_set (xs ++ ys) i v ≡ slice_set xs i v ++ ys
set_app_left [] ys i v l = absurd (omega arith)
set_app_left (x ∷ xs) ys zero v l = refl
set_app_left (x ∷ xs) ys (suc i) v l = ap (λ r. x ∷ r) (set_app_left xs ys i v (omega arith))

pub set_app_right : {A : Type 0} (xs ys : List A) (i m : ℕ) (v : A) → i ≡ length xs + m → slice_set (xs ++ ys) i v ≡ xs ++ slice_set ys m v
set_app_right [] ys i m v e = ap (λ n. slice_set ys n v) (let q : i ≡ m = omega arith in q)
set_app_right (x ∷ xs) ys zero m v e = absurd (omega arith)
set_app_right (x ∷ xs) ys (suc i) m v e = ap (λ r. x ∷ r) (set_app_right xs ys i m v (omega arith))

pub get_set : {A : Type 0} (xs : List A) (i : ℕ) (v : A) → i < length xs → slice_get (slice_set xs i v) i ≡ Some v
get_set [] i v l = absurd (omega arith)
get_set (x ∷ xs) zero v l = refl
get_set (x ∷ xs) (suc i) v l = get_set xs i v (omega arith)

pub get_set_other : {A : Type 0} (xs : List A) (i j : ℕ) (v : A) → (i ≡ j → ⊥) → slice_get (slice_set xs i v) j ≡ slice_get xs j
get_set_other [] i j v h = refl
get_set_other (x ∷ xs) zero zero v h = absurd (h refl)
get_set_other (x ∷ xs) zero (suc j) v h = refl
get_set_other (x ∷ xs) (suc i) zero v h = refl
get_set_other (x ∷ xs) (suc i) (suc j) v h = get_set_other xs i j v (λ e. h (ap suc e))

pub length_set : {A : Type 0} (xs : List A) (i : ℕ) (v : A) → length (slice_set xs i v) ≡ length xs
length_set [] i v = refl
length_set (x ∷ xs) zero v = refl
length_set (x ∷ xs) (suc i) v = ap suc (length_set xs i v)

pub get_snoc : {A : Type 0} (xs : List A) (y : A) (i : ℕ) (x : A) → slice_get (xs ++ y ∷ []) i ≡ Some x → (slice_get xs i ≡ Some x) ⊎ ((i ≡ length xs) × (x ≡ y))
get_snoc [] y zero x e = inr (refl, sym (some_same y x e))
get_snoc [] y (suc i) x e = cc
get_snoc (z ∷ xs) y zero x e = inl e
get_snoc (z ∷ xs) y (suc i) x e = by (get_snoc xs y i x e)
  where
    by : (slice_get xs i ≡ Some x) ⊎ ((i ≡ length xs) × (x ≡ y)) → (slice_get (z ∷ xs) (suc i) ≡ Some x) ⊎ ((suc i ≡ length (z ∷ xs)) × (x ≡ y))
    by (inl h) = inl h
    by (inr h) = inr (ap suc h.0, h.1)

pub get_last : {A : Type 0} (xs : List A) (y : A) (i : ℕ) → i ≡ length xs → slice_get (xs ++ y ∷ []) i ≡ Some y
get_last [] y zero e = refl
get_last [] y (suc i) e = absurd (omega arith)
get_last (x ∷ xs) y zero e = absurd (omega arith)
get_last (x ∷ xs) y (suc i) e = get_last xs y i (omega arith)

-- two maps that agree on what is in a list
pub map_same : {A B : Type 0} (f h : A → B) (xs : List A) → ((i : ℕ) (x : A) → slice_get xs i ≡ Some x → f x ≡ h x) → map f xs ≡ map h xs
map_same f h [] e = refl
map_same f h (x ∷ xs) e = ap (λ y. y ∷ map f xs) (e 0 x refl) ∙ ap (λ r. h x ∷ r) (map_same f h xs (λ i y q. e (suc i) y q))

pub map_map_same : {A B C : Type 0} (f : A → B) (h : B → C) (k : A → C) (xs : List A) → ((i : ℕ) (x : A) → slice_get xs i ≡ Some x → h (f x) ≡ k x) → map h (map f xs) ≡ map k xs
map_map_same f h k [] e = refl
map_map_same f h k (x ∷ xs) e = ap (λ y. y ∷ map h (map f xs)) (e 0 x refl) ∙ ap (λ r. k x ∷ r) (map_map_same f h k xs (λ i y q. e (suc i) y q))

pub map_append : {A B : Type 0} (f : A → B) (xs ys : List A) → map f (xs ++ ys) ≡ map f xs ++ map f ys
map_append f [] ys = refl
map_append f (x ∷ xs) ys = ap (λ r. f x ∷ r) (map_append f xs ys)

pub length_map : {A B : Type 0} (f : A → B) (xs : List A) → length (map f xs) ≡ length xs
length_map f [] = refl
length_map f (x ∷ xs) = ap suc (length_map f xs)

pub drop_get : {A : Type 0} (xs : List A) (k : ℕ) (v : A) → slice_get xs k ≡ Some v → drop k xs ≡ v ∷ drop (suc k) xs
drop_get [] k v e = cc
drop_get (x ∷ xs) zero v e = ap (λ y. y ∷ xs) (some_same x v e)
drop_get (x ∷ xs) (suc k) v e = drop_get xs k v e

-- a list of values of which one is changed
pub map_change : {A B : Type 0} (f h : A → B) (xs : List A) (r : ℕ) (x : A) (v : B) → slice_get xs r ≡ Some x → h x ≡ v → ((i : ℕ) (y : A) → slice_get xs i ≡ Some y → i ≢ r → f y ≡ h y) → slice_set (map f xs) r v ≡ map h xs
map_change f h [] r x v e q o = cc
map_change f h (y ∷ ys) zero x v e q o =
    ap (λ w. w ∷ map f ys) (sym q ∙ ap h (sym (some_same y x e))) ∙ ap (λ l. h y ∷ l) (map_same f h ys (λ i w p. o (suc i) w p (λ z. let k : suc i ≡ 0 = z in cc)))
map_change f h (y ∷ ys) (suc r) x v e q o =
    ap (λ w. w ∷ slice_set (map f ys) r v) (o 0 y refl (λ z. let k : 0 ≡ suc r = z in cc)) ∙ ap (λ l. h y ∷ l) (map_change f h ys r x v e q (λ i w p n. o (suc i) w p (λ z. n (suc_same i r z))))
  where
    suc_same : (a b : ℕ) → suc a ≡ suc b → a ≡ b
    suc_same a b z = omega arith
