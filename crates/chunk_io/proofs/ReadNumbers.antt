-- Readers of numbers: an int, an instruction, a number, sizes; and the bytes of a text.
use Rattle.std.proofs.Common.{◌≡◌, ℕ, ◌^◌, ◌<◌, Bool, true, false, cond, ltb, eqb, List, ◌++◌, length, drop, Result, Ok, Err, refl, sym, ap, ◌∙◌, arith}
use Rattle.std.specs.Int.{Width, w32, w64}
use Rattle.std.proofs.lemmas.Bool.{ltb-true, ltb-false, lt-ltb, le-ltb}
use Rattle.std.proofs.lemmas.List.{drop_at, take-append-drop, length-append}
use Rattle.chunk_io.specs.declared.layout.Layout.{Layout}
use Rattle.chunk_io.specs.declared.miss.Miss.{Miss}
use Rattle.chunk_io.specs.Items.{number_bytes, size_bytes, size_limit}
use Rattle.chunk_io.specs.Reading.{Read, number_at, size_at}
use Rattle.chunk_io.proofs.Numbers.{IsBytes, number_in, IsWide, wide32, wide64}

abbrev pub SeesNumber : (spell : ℕ → List ℕ) → (width limit : ℕ) → List ℕ → Result (ℕ × List ℕ) Miss → Type 0
SeesNumber spell width limit bytes (Ok x) = (bytes ≡ spell x.0 ++ x.1) × (x.0 < limit)
SeesNumber spell width limit bytes (Err m) = (Miss.Truncated ≡ m) × (length bytes < width)

-- a reader of numbers with so many bytes, below a limit
pub record ReadsNumber (read : Read ℕ) (spell : ℕ → List ℕ) (width limit : ℕ) : Type 0 where
  pub long : (x : ℕ) → length (spell x) ≡ width
  pub some : 1 < limit
  pub sees : (bytes : List ℕ) → IsBytes bytes → SeesNumber spell width limit bytes (read bytes)
  pub takes : (x : ℕ × List ℕ) → x.0 < limit → read (spell x.0 ++ x.1) ≡ Ok x
  pub misses : (bytes : List ℕ) → length bytes < width → read bytes ≡ Err Miss.Truncated

number_tested : (l : Layout) (k : ℕ) (w : Width) (limit : ℕ) → IsWide l.little k w limit → (bytes : List ℕ) → IsBytes bytes → (short : Bool) → ltb (length bytes) k ≡ short
    → SeesNumber (number_bytes l w) k limit bytes (cond short (Err Miss.Truncated) (Ok (number_in l.little k bytes, drop k bytes)))
number_tested l k w limit wide bytes fits true e = (refl, ltb-true (length bytes) k e)
number_tested l k w limit wide bytes fits false e =
    let back = wide.back bytes (ltb-false (length bytes) k e) fits in
    (sym (take-append-drop k bytes) ∙ ap (λ b. b ++ drop k bytes) (sym back), wide.below bytes fits)

number_takes : (l : Layout) (k : ℕ) (w : Width) (limit : ℕ) → IsWide l.little k w limit → (x : ℕ × List ℕ) → x.0 < limit → number_at l k (number_bytes l w x.0 ++ x.1) ≡ Ok x
unfolding number_at
number_takes l k w limit wide x lt =
    let len = wide.long x.0 in
    let long : ltb (length (number_bytes l w x.0 ++ x.1)) k ≡ false = le-ltb _ _ (omega (arith, length-append (number_bytes l w x.0) x.1)) in
    rw (long, drop_at (number_bytes l w x.0) x.1 k len, wide.again x.0 x.1 lt) refl

number_misses : (l : Layout) (k : ℕ) (bytes : List ℕ) → length bytes < k → number_at l k bytes ≡ Err Miss.Truncated
unfolding number_at
number_misses l k bytes lt = rw (lt-ltb (length bytes) k lt)

reads_number : (l : Layout) (k : ℕ) (w : Width) (limit : ℕ) → IsWide l.little k w limit → 1 < limit → ReadsNumber (number_at l k) (number_bytes l w) k limit
unfolding number_at
reads_number l k w limit wide some = record {
  long = wide.long;
  some = some;
  sees = λ bytes fits. number_tested l k w limit wide bytes fits (ltb (length bytes) k) refl;
  takes = number_takes l k w limit wide;
  misses = number_misses l k;
}

pub number32 : (l : Layout) → ReadsNumber (number_at l 4) (number_bytes l w32) 4 (2 ^ 32)
number32 l = reads_number l 4 w32 (2 ^ 32) (wide32 l.little) (omega arith)

pub number64 : (l : Layout) → ReadsNumber (number_at l 8) (number_bytes l w64) 8 (2 ^ 64)
number64 l = reads_number l 8 w64 (2 ^ 64) (wide64 l.little) (omega arith)

sized : (l : Layout) (wide : Bool) → ReadsNumber (λ bytes. cond wide (number_at l 8 bytes) (number_at l 4 bytes)) (λ n. cond wide (number_bytes l w64 n) (number_bytes l w32 n)) (cond wide 8 4) (cond wide (2 ^ 64) (2 ^ 32))
sized l true = number64 l
sized l false = number32 l

pub size_number : (l : Layout) → ReadsNumber (size_at l) (size_bytes l) (cond (eqb l.size 8) 8 4) (size_limit l)
unfolding size_at
size_number l = sized l (eqb l.size 8)
