-- The functions of a function, and those of them that are left where so many were made.
use Rattle.std.proofs.Common.{◌≡◌, ℕ, zero, suc, ◌+◌, ◌<◌, List, [], ◌∷◌, length, Option, Some, None, refl, ap, subst, arith}
use Rattle.std.specs.Prelude.{slice_get, slice_set}
use Rattle.core_expr.specs.Values.{Inner}
use Rattle.core_expr.specs.Writing.{function_left}
use Rattle.reads_back.proofs.FunctionsLeft.{EachLeft}

-- the functions of a list that are left where the first so many were made
abbrev pub left_behind : (made : ℕ) → List Inner → List (Option Inner)
left_behind made [] = []
left_behind zero (found ∷ founds) = Some found ∷ left_behind zero founds
left_behind (suc made) (found ∷ founds) = None ∷ left_behind made founds

-- the next one that is made is left
pub next_left : (founds : List Inner) (made : ℕ) (found : Inner) → slice_get founds made ≡ Some found → function_left (left_behind made founds) made ≡ Some found
next_left [] made found there = cc
next_left (first ∷ founds) zero found there = there
next_left (first ∷ founds) (suc made) found there = next_left founds made found there

-- behind it the others are
pub others_left : (founds : List Inner) (made : ℕ) → made < length founds → slice_set (left_behind made founds) made None ≡ left_behind (suc made) founds
others_left [] made below = absurd (omega (arith, below))
others_left (first ∷ founds) zero below = refl
others_left (first ∷ founds) (suc made) below = ap (λ (left : List (Option Inner)). None ∷ left) (others_left founds made (omega (arith, below)))

module _ (Holds : ℕ → Inner → Type 0) where
  -- the same of each function of a list, the first of which has this number
  abbrev AllHold : (number : ℕ) → List Inner → Type 0
  AllHold number founds = (place : ℕ) (found : Inner) → slice_get founds place ≡ Some found → Holds (number + place) found

  hold_behind : (number : ℕ) (first : Inner) (founds : List Inner) → AllHold number (first ∷ founds) → AllHold (suc number) founds
  hold_behind number first founds every place found there =
      let next : number + suc place ≡ suc number + place = omega arith in
      subst (λ n. Holds n found) next (every (suc place) found there)

  each_from : (number : ℕ) (founds : List Inner) → AllHold number founds → (made : ℕ) → EachLeft Holds number (left_behind made founds)
  each_from number [] every made = tt
  each_from number (first ∷ founds) every zero =
      let same : number + 0 ≡ number = omega arith in
      (subst (λ n. Holds n first) same (every 0 first refl), each_from (suc number) founds (hold_behind number first founds every) 0)
  each_from number (first ∷ founds) every (suc made) = each_from (suc number) founds (hold_behind number first founds every) made

-- what holds of each function of the list, and its number, holds of each that is left
pub each_left : (Holds : ℕ → Inner → Type 0) (founds : List Inner) → ((number : ℕ) (found : Inner) → slice_get founds number ≡ Some found → Holds number found) → (made : ℕ) → EachLeft Holds 0 (left_behind made founds)
each_left Holds founds every made = each_from Holds 0 founds at made
  where
    at : (place : ℕ) (found : Inner) → slice_get founds place ≡ Some found → Holds (0 + place) found
    at place found there =
        let same : place ≡ 0 + place = omega arith in
        subst (λ n. Holds n found) same (every place found there)
