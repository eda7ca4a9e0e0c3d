-- Places of names in a list, and lists of names that differ.
use Rattle.std.proofs.Common.{◌≡◌, nat_lt, refl, ap, sym, ◌∙◌, ℕ, ◌+◌, ◌<◌, inl, inr, Bool, true, false, cond, ◌||◌, List, [], ◌∷◌, ◌++◌, Some, None, length, map, get_or, is_some, position, arith, length-append}
use Rattle.std.specs.List.{list_any, position_or_len}
use Rattle.std.specs.Str.{bytes_eq}
use Rattle.std.proofs.lemmas.List.Sums.{position_or_len_is}
use Rattle.std.proofs.Math.ListN.{set, get_or-append}
use Rattle.std.proofs.Math.Seq.{get_or-append_seam}
use Rattle.std.proofs.lemmas.Bool.{cases_lt}
use Rattle.std.proofs.lemmas.Bool.Decides.{nat_tests}
use Rattle.std.proofs.lemmas.List.{get_or-map, length-map, map-set}
use Rattle.std.proofs.lemmas.List.Folds.{list_any_at}
use Rattle.std.proofs.lemmas.Slice.Eq.{bytes_eq-Decides}
use Rattle.host.specs.Hosts.{NamesDiffer}
use Rattle.std.proofs.lemmas.Grind.{common_steps}

-- the first place that passes
pub position_is : {A : Type 0} (p : A → Bool) (xs : List A) (i : ℕ) (d : A) → ((k : ℕ) → k < i → p (get_or xs k d) ≡ false) → i < length xs → p (get_or xs i d) ≡ true → position p xs ≡ Some i
position_is p xs i d below within here =
    let first : position_or_len p xs ≡ i = position_or_len_is p xs i d (omega arith) below (λ _. here) in
    rw first (grind arith)

pub position_none : {A : Type 0} (p : A → Bool) (xs : List A) (d : A) → ((k : ℕ) → k < length xs → p (get_or xs k d) ≡ false) → position p xs ≡ None
position_none p xs d fails =
    let none : position_or_len p xs ≡ length xs = position_or_len_is p xs (length xs) d (omega arith) fails (λ within. absurd (omega arith)) in
    rw none (grind arith)

-- what a test says of what a function gives of an element
pub test_at : {A : Type 0} (xs : List A) (f : A → List ℕ) (t : List ℕ → Bool) (i : ℕ) (x : A) (b : Bool) → i < length xs → x ≡ get_or xs i x → t (f x) ≡ b → t (get_or (map f xs) i []) ≡ b
test_at xs f t i x b within is holds = ap t (get_or-map f xs i x [] within ∙ ap f (sym is)) ∙ holds

-- a walk over what a function gives of each
pub list_any-map : {A B : Type 0} (p : B → Bool) (f : A → B) (xs : List A) → list_any p (map f xs) ≡ list_any (λ x. p (f x)) xs
list_any-map p f [] = refl
list_any-map p f (x ∷ xs) = ap (λ rest. p (f x) || rest) (list_any-map p f xs)

pub position_or_len-map : {A B : Type 0} (p : B → Bool) (f : A → B) (xs : List A) → position_or_len p (map f xs) ≡ position_or_len (λ x. p (f x)) xs
position_or_len-map p f [] = refl
position_or_len-map p f (x ∷ xs) = grind (arith, common_steps, position_or_len-map p f xs)

pub position-map : {A B : Type 0} (p : B → Bool) (f : A → B) (xs : List A) → position p (map f xs) ≡ position (λ x. p (f x)) xs
position-map p f xs = rw (position_or_len-map p f xs, length-map xs f) refl

is_some_if : {A : Type 0} (b : Bool) (x : A) → is_some (cond b (Some x) None) ≡ b
is_some_if true x = refl
is_some_if false x = refl

-- some element passes exactly where there is a first one
within_first : {A : Type 0} (p : A → Bool) (xs : List A) → nat_lt (position_or_len p xs) (length xs) ≡ list_any p xs
within_first p [] = refl
within_first p (x ∷ xs) = grind (arith, common_steps, nat_tests, within_first p xs)

pub is_some-position : {A : Type 0} (p : A → Bool) (xs : List A) → is_some (position p xs) ≡ list_any p xs
is_some-position p xs = is_some_if (nat_lt (position_or_len p xs) (length xs)) (position_or_len p xs) ∙ within_first p xs

-- a name that none of them has goes behind names that differ
pub NamesDiffer-push : (names : List (List ℕ)) (name : List ℕ) → NamesDiffer names → list_any (λ other. bytes_eq other name) names ≡ false → NamesDiffer (names ++ name ∷ [])
NamesDiffer-push names name differ new i j before within =
    let count : length (names ++ name ∷ []) ≡ length names + 1 = length-append names (name ∷ []) in
    let low : i < length names = omega arith in
    let left : get_or (names ++ name ∷ []) i [] ≡ get_or names i [] = get_or-append names (name ∷ []) [] i low in
    elim (cases_lt j (length names)) [
      | inl inside ↦ λ same. differ i j before inside (sym left ∙ same ∙ get_or-append names (name ∷ []) [] j inside)
      | inr outside ↦ λ same.
          let last : j ≡ length names = omega arith in
          let is : get_or names i [] ≡ name = sym left ∙ same ∙ ap (λ n. get_or (names ++ name ∷ []) n []) last ∙ get_or-append_seam names name [] [] in
          let found : list_any (λ other. bytes_eq other name) names ≡ true = list_any_at (λ other. bytes_eq other name) names i [] low ((bytes_eq-Decides (get_or names i []) name).1 is) in
          cc
    ]

-- an element is changed, as a function of it shows
pub map-set_changed : {A B : Type 0} (f : A → B) (change : B → B) (xs : List A) (i : ℕ) (x new : A) (d : B) → i < length xs → x ≡ get_or xs i x → f new ≡ change (f x) → map f (set xs i new) ≡ set (map f xs) i (change (get_or (map f xs) i d))
map-set_changed f change xs i x new d within is changed =
    let here : f x ≡ get_or (map f xs) i d = ap f is ∙ sym (get_or-map f xs i x d within) in
    map-set f xs i new ∙ ap (set (map f xs) i) (changed ∙ ap change here)
