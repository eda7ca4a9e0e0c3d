-- Places in lists.
use Rattle.std.proofs.Common.{◌≡◌, ℕ, zero, ◌+◌, ◌≤◌, Bool, true, false, not, cond, List, [], ◌∷◌, length, drop, get_or, suc, refl, sym, ap, ◌∙◌, arith}
use Rattle.std.specs.Prelude.{Some, None}
use Rattle.std.specs.List.{position_from, position_or_len}
use Rattle.std.proofs.lemmas.List.{drop_all}
use Rattle.scheme.specs.Making.{head_or}

pub none_is_len : {A : Type 0} (p : A → Bool) (i : ℕ) (xs : List A) → position_from p i xs ≡ None → position_or_len p xs ≡ length xs
none_is_len p i [] h = refl
none_is_len p i (x ∷ xs) h = go (p x) refl h (none_is_len p (i + 1) xs)
  where
    go : (b : Bool) → p x ≡ b → cond b (Some i) (position_from p (i + 1) xs) ≡ None → (position_from p (i + 1) xs ≡ None → position_or_len p xs ≡ length xs) → cond (not b) (1 + position_or_len p xs) 0 ≡ suc (length xs)
    go true e h next = absurd (cc)
    go false e h next = let same = next h in omega (arith, same)

pub drop_one_more : {A : Type 0} (i : ℕ) (xs : List A) → drop 1 (drop i xs) ≡ drop (suc i) xs
drop_one_more zero xs = refl
drop_one_more (suc i) [] = refl
drop_one_more (suc i) (x ∷ xs) = drop_one_more i xs

pub drop_next : {A : Type 0} (i : ℕ) (xs : List A) → drop (i + 1) xs ≡ drop 1 (drop i xs)
drop_next i xs = let e : i + 1 ≡ suc i = omega arith in ap (λ n. drop n xs) e ∙ sym (drop_one_more i xs)

pub drop_past : {A : Type 0} (i : ℕ) (xs : List A) → length xs ≤ i → drop i xs ≡ drop 1 (drop i xs)
drop_past i xs h = drop_all i xs h ∙ ap (λ l. drop 1 l) (sym (drop_all i xs h))

-- what is next, behind so many
pub head_drop : {A : Type 0} (other : A) (i : ℕ) (xs : List A) → head_or other (drop i xs) ≡ get_or xs i other
head_drop other zero [] = refl
head_drop other (suc i) [] = refl
head_drop other zero (x ∷ xs) = refl
head_drop other (suc i) (x ∷ xs) = head_drop other i xs
