-- Texts of a list that are joined by a byte, one text more.
use Rattle.std.proofs.Common.{◌≡◌, ℕ, ◌+◌, ◌<◌, List, [], ◌∷◌, ◌++◌, length, map, take, get_or, refl, sym, append_assoc, arith}
use Rattle.std.proofs.lemmas.List.{map_more, length-map, length-take}
use Rattle.std.specs.List.{join_with_byte}

-- with one text more behind the first
pub join-more : (c : ℕ) (x : List ℕ) (xs : List (List ℕ)) (y : List ℕ) → join_with_byte c ((x ∷ xs) ++ y ∷ []) ≡ (join_with_byte c (x ∷ xs) ++ c ∷ []) ++ y
join-more c x [] y = sym (append_assoc x (c ∷ []) y)
join-more c x (z ∷ zs) y = rw (join-more c z zs y) (simp append_assoc)

pub join-next : (c : ℕ) (xs : List (List ℕ)) (y : List ℕ) → 0 < length xs → join_with_byte c (xs ++ y ∷ []) ≡ (join_with_byte c xs ++ c ∷ []) ++ y
join-next c [] y h = absurd (omega arith)
join-next c (x ∷ xs) y h = join-more c x xs y

-- the turn of a loop at the first element and at another one
pub joined_first : {X : Type 0} (f : X → List ℕ) (c : ℕ) (xs : List X) (i : ℕ) (d : X) → i < length xs → i ≡ 0 → join_with_byte c (map f (take i xs)) ++ f (get_or xs i d) ≡ join_with_byte c (map f (take (i + 1) xs))
joined_first f c xs i d h e = rw (map_more f xs i d h, e) refl

pub joined_next : {X : Type 0} (f : X → List ℕ) (c : ℕ) (xs : List X) (i : ℕ) (d : X) → i < length xs → 0 < i → (join_with_byte c (map f (take i xs)) ++ c ∷ []) ++ f (get_or xs i d) ≡ join_with_byte c (map f (take (i + 1) xs))
joined_next f c xs i d h l =
    let some : 0 < length (map f (take i xs)) = simp (length-map, length-take) (omega arith) in
    rw (map_more f xs i d h) (sym (join-next c (map f (take i xs)) (f (get_or xs i d)) some))
