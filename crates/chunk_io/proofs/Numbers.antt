-- Numbers of 4 or 8 bytes in an order: what is read is what was written, and what was written is read again.
use Rattle.std.proofs.Common.{◌≡◌, ℕ, ◌+◌, ◌^◌, ◌<◌, ◌≤◌, Bool, true, false, cond, List, ◌++◌, length, get_or, take, refl, arith, inl, inr}
use Rattle.std.specs.Int.{Width, w32, w64, to_le_bytes, to_be_bytes}
use Rattle.std.proofs.lemmas.Bool.{cases_lt}
use Rattle.std.proofs.lemmas.List.{get_or-append-add, get_or-take, get_or_past, length-take}
use Rattle.std.proofs.lemmas.Nat.{be_bytes_4, be_bytes_8, le_bytes_4, le_bytes_8, from_be_bytes-to_be_bytes_4, from_be_bytes-to_be_bytes_8, from_le_bytes-to_le_bytes_4, from_le_bytes-to_le_bytes_8}
use Rattle.byteorder.specs.Endian.{little_number, big_number}

abbrev pub IsBytes : List ℕ → Type 0
IsBytes bytes = (i : ℕ) → get_or bytes i 0 < 256

pub IsBytes-take : (n : ℕ) (bytes : List ℕ) → IsBytes bytes → IsBytes (take n bytes)
IsBytes-take n bytes h i =
    elim (cases_lt i n) [
      | inl lt ↦ rw (get_or-take n bytes i 0 lt) (h i)
      | inr le ↦ rw (get_or_past (take n bytes) i 0 (omega (arith, length-take n bytes))) (omega arith)
    ]

pub IsBytes-append : (xs ys : List ℕ) → IsBytes (xs ++ ys) → IsBytes ys
IsBytes-append xs ys h i = rw get_or-append-add at (h (length xs + i))

abbrev pub bytes_in : (little : Bool) → Width → ℕ → List ℕ
bytes_in little w x = cond little (to_le_bytes w x) (to_be_bytes w x)

abbrev pub number_in : (little : Bool) → ℕ → List ℕ → ℕ
number_in little k bytes = cond little (little_number k bytes) (big_number k bytes)

-- numbers of k bytes
pub record IsWide (little : Bool) (k : ℕ) (w : Width) (limit : ℕ) : Type 0 where
  pub long : (x : ℕ) → length (bytes_in little w x) ≡ k
  pub back : (bytes : List ℕ) → k ≤ length bytes → IsBytes bytes → bytes_in little w (number_in little k bytes) ≡ take k bytes
  pub again : (x : ℕ) (rest : List ℕ) → x < limit → number_in little k (bytes_in little w x ++ rest) ≡ x
  pub below : (bytes : List ℕ) → IsBytes bytes → number_in little k bytes < limit

pub wide32 : (little : Bool) → IsWide little 4 w32 (2 ^ 32)
wide32 true = record {
  long = λ x. refl;
  back = λ bytes len fits. le_bytes_4 (take 4 bytes) _ (omega (arith, length-take 4 bytes)) (IsBytes-take 4 bytes fits) (omega (arith, get_or-take 4 bytes 0 0 (omega arith), get_or-take 4 bytes 1 0 (omega arith), get_or-take 4 bytes 2 0 (omega arith), get_or-take 4 bytes 3 0 (omega arith)));
  again = λ x rest lt. omega (arith, from_le_bytes-to_le_bytes_4 x lt);
  below = λ bytes fits. omega (arith, fits 0, fits 1, fits 2, fits 3);
}
wide32 false = record {
  long = λ x. refl;
  back = λ bytes len fits. be_bytes_4 (take 4 bytes) _ (omega (arith, length-take 4 bytes)) (IsBytes-take 4 bytes fits) (omega (arith, get_or-take 4 bytes 0 0 (omega arith), get_or-take 4 bytes 1 0 (omega arith), get_or-take 4 bytes 2 0 (omega arith), get_or-take 4 bytes 3 0 (omega arith)));
  again = λ x rest lt. omega (arith, from_be_bytes-to_be_bytes_4 x lt);
  below = λ bytes fits. omega (arith, fits 0, fits 1, fits 2, fits 3);
}

pub wide64 : (little : Bool) → IsWide little 8 w64 (2 ^ 64)
wide64 true = record {
  long = λ x. refl;
  back = λ bytes len fits. le_bytes_8 (take 8 bytes) _ (omega (arith, length-take 8 bytes)) (IsBytes-take 8 bytes fits) (omega (arith, get_or-take 8 bytes 0 0 (omega arith), get_or-take 8 bytes 1 0 (omega arith), get_or-take 8 bytes 2 0 (omega arith), get_or-take 8 bytes 3 0 (omega arith), get_or-take 8 bytes 4 0 (omega arith), get_or-take 8 bytes 5 0 (omega arith), get_or-take 8 bytes 6 0 (omega arith), get_or-take 8 bytes 7 0 (omega arith)));
  again = λ x rest lt. omega (arith, from_le_bytes-to_le_bytes_8 x lt);
  below = λ bytes fits. omega (arith, fits 0, fits 1, fits 2, fits 3, fits 4, fits 5, fits 6, fits 7);
}
wide64 false = record {
  long = λ x. refl;
  back = λ bytes len fits. be_bytes_8 (take 8 bytes) _ (omega (arith, length-take 8 bytes)) (IsBytes-take 8 bytes fits) (omega (arith, get_or-take 8 bytes 0 0 (omega arith), get_or-take 8 bytes 1 0 (omega arith), get_or-take 8 bytes 2 0 (omega arith), get_or-take 8 bytes 3 0 (omega arith), get_or-take 8 bytes 4 0 (omega arith), get_or-take 8 bytes 5 0 (omega arith), get_or-take 8 bytes 6 0 (omega arith), get_or-take 8 bytes 7 0 (omega arith)));
  again = λ x rest lt. omega (arith, from_be_bytes-to_be_bytes_8 x lt);
  below = λ bytes fits. omega (arith, fits 0, fits 1, fits 2, fits 3, fits 4, fits 5, fits 6, fits 7);
}
