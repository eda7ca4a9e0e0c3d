-- Reading items one after the other, each by a state that is told in another way.
use Rattle.std.proofs.Common.{◌≡◌, ℕ, ◌-◌, ◌+◌, ◌<◌, List, [], ◌∷◌, ◌++◌, Result, Ok, subst}
use Rattle.asm_text.specs.declared.miss.Miss.{Miss}
use Rattle.asm_text.specs.Reading.{Read, many_at}
use Rattle.asm_text.proofs.Loop.{with_front, goes_on}

pub goes_to : {S A : Type 0} (one : S → Read A) (next : S → A → S) (s t : S) (front : List A) (count i : ℕ) (bytes : List ℕ) (n : A) (after : List ℕ) (total : Result (List A × List ℕ) Miss) → next s n ≡ t → i < count → one s bytes ≡ Ok (n, after)
    → with_front front (many_at one next s (count - i) bytes) ≡ total → with_front (front ++ n ∷ []) (many_at one next t (count - (i + 1)) after) ≡ total
goes_to one next s t front count i bytes n after total e lt h so_far =
    subst (λ t. with_front (front ++ n ∷ []) (many_at one next t (count - (i + 1)) after) ≡ total) e (goes_on one next s front count i bytes n after total lt h so_far)
