-- Reading items one after the other, as a loop does.
use Rattle.std.proofs.Common.{◌≡◌, ℕ, suc, ◌-◌, ◌+◌, ◌≤◌, ◌<◌, List, [], ◌∷◌, ◌++◌, Result, Ok, Err, refl, sym, ap, ◌∙◌, append_assoc, arith}
use Rattle.std.proofs.lemmas.List.{append-nil}
use Rattle.asm_text.specs.declared.miss.Miss.{Miss}
use Rattle.asm_text.specs.declared.miss.ReadError.{ReadError}
use Rattle.asm_text.specs.declared.miss.ReadError.TheVariants as errors
use Rattle.asm_text.specs.Reading.{Read, ◌>>=◌, Fails, many_at}

-- what was read before, and what is still read
abbrev pub with_front : {A : Type 0} → List A → Result (List A × List ℕ) Miss → Result (List A × List ℕ) Miss
with_front front read = read >>= λ x. Ok (front ++ x.0, x.1)

regroup : {A : Type 0} (front : List A) (n : A) (read : Result (List A × List ℕ) Miss) → with_front front (read >>= λ x. Ok (n ∷ x.0, x.1)) ≡ with_front (front ++ n ∷ []) read
regroup {A} front n (Ok x) = ap (λ (ns : List A). Ok (ns, x.1)) (simp append_assoc)
regroup front n (Err f) = refl

module _ {S A : Type 0} (one : S → Read A) (next : S → A → S) (s : S) where
  pub goes_on : (front : List A) (count i : ℕ) (bytes : List ℕ) (n : A) (after : List ℕ) (total : Result (List A × List ℕ) Miss) → i < count → one s bytes ≡ Ok (n, after)
      → with_front front (many_at one next s (count - i) bytes) ≡ total → with_front (front ++ n ∷ []) (many_at one next (next s n) (count - (i + 1)) after) ≡ total
  unfolding many_at
  goes_on front count i bytes n after total lt h so_far =
      let k : count - i ≡ suc (count - (i + 1)) = omega arith in
      let step : with_front front (many_at one next s (count - i) bytes) ≡ with_front (front ++ n ∷ []) (many_at one next (next s n) (count - (i + 1)) after) = rw (k, h) (regroup front n (many_at one next (next s n) (count - (i + 1)) after)) in
      sym step ∙ so_far

  pub ends : (e : ReadError) (front : List A) (count i : ℕ) (bytes : List ℕ) (total : Result (List A × List ℕ) Miss) → i < count → Fails e (one s bytes)
      → with_front front (many_at one next s (count - i) bytes) ≡ total → Fails e total
  unfolding many_at
  ends errors.Memory front count i bytes total lt h so_far = tt
  ends (errors.Miss f) front count i bytes total lt h so_far =
      let k : count - i ≡ suc (count - (i + 1)) = omega arith in
      let step : with_front front (many_at one next s (count - i) bytes) ≡ Err f = rw (k, h) refl in
      sym so_far ∙ step

  pub is_done : (front : List A) (count i : ℕ) (bytes : List ℕ) (total : Result (List A × List ℕ) Miss) → count ≤ i → with_front front (many_at one next s (count - i) bytes) ≡ total → total ≡ Ok (front, bytes)
  unfolding many_at
  is_done front count i bytes total le so_far =
      let k : count - i ≡ 0 = omega arith in
      let step : with_front front (many_at one next s (count - i) bytes) ≡ Ok (front, bytes) = rw k (ap (λ (ns : List A). Ok (ns, bytes)) (append-nil front)) in
      sym so_far ∙ step
