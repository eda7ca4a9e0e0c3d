-- The raw entries of a table from a number on, and what `unpack` gives.
use Rattle.std.proofs.Common.{◌≡◌, ℕ, zero, suc, ◌+◌, ℤ, pos, ◌+ℤ◌, ◌-ℤ◌, ◌≤ℤ◌, false, List, [], ◌∷◌, ◌++◌, refl, ap, ◌∙◌, add-one, arith}
use Rattle.std.proofs.lemmas.Int.{ints}
use Rattle.std.specs.Prelude.{int_lt}
use Rattle.lua_model.specs.Datum.{Datum, number}
use Rattle.lua_model.specs.Acts.{results}
use Rattle.lua_model.specs.Store.{Store, raw_get}
use Rattle.lua_model.specs.Builtins.{entries, natural, unpacked}

one_later : (i : ℤ) (k : ℕ) → (i +ℤ pos 1) +ℤ pos k ≡ i +ℤ pos (suc k)
one_later i k = omega (arith, ints)

none_later : (i : ℤ) → i ≡ i +ℤ pos 0
none_later i = omega (arith, ints)

entries-suc : (s : Store) (t : ℕ) (i : ℤ) (k : ℕ) → entries s t i (suc k) ≡ entries s t i k ++ raw_get s t (number (i +ℤ pos k)) ∷ []
entries-suc s t i zero = ap (λ n. raw_get s t (number n) ∷ []) (none_later i)
entries-suc s t i (suc k) =
    ap (λ vs. raw_get s t (number i) ∷ vs) (entries-suc s t (i +ℤ pos 1) k ∙ ap (λ n. entries s t (i +ℤ pos 1) k ++ raw_get s t (number n) ∷ []) (one_later i k))

pub entries_more : (s : Store) (t : ℕ) (i : ℤ) (k : ℕ) → entries s t i (k + 1) ≡ entries s t i k ++ raw_get s t (number (i +ℤ pos k)) ∷ []
entries_more s t i k = rw (add-one k) (entries-suc s t i k)

pub unpacked_within : (s : Store) (t : ℕ) (first last : ℤ) (count : ℕ) (values : List Datum) → (last -ℤ first +ℤ pos 1) ≤ℤ pos 8000 → count ≡ natural (last -ℤ first +ℤ pos 1) → values ≡ entries s t first count → unpacked s t first last ≡ results values s
unpacked_within s t first last count values few e read =
    let fit : int_lt (pos 8000) (last -ℤ first +ℤ pos 1) ≡ false = grind (arith, ints) in
    rw (fit, ← e, ← read) refl
