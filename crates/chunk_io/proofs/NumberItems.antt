-- Items that are numbers, and the bytes of a text.
use Rattle.std.proofs.Common.{◌≡◌, ℕ, ◌^◌, ◌<◌, ◌≤◌, Bool, true, false, cond, ltb, eqb, List, ◌++◌, length, take, drop, replicate, Result, Ok, Err, refl, sym, ap, subst, ◌∙◌, arith}
use Rattle.std.specs.Prelude.{ℤ, FitsSigned}
use Rattle.std.specs.Int.{w32, w64, cast_signed, cast_unsigned}
use Rattle.std.proofs.lemmas.Bool.{ltb-true, ltb-false, lt-ltb, le-ltb, eqb-true, eqb-false, ne_eqb}
use Rattle.std.proofs.lemmas.Int.{of_z-to_z, to_z-of_z}
use Rattle.std.proofs.Math.Facts.{Fits-lt-pow, Fits-of_lt, Fits-of_z, sfits_to_z}
use Rattle.std.proofs.lemmas.List.{take_at, drop_at, take-append-drop, length-append, length-take, length-replicate}
use Rattle.lua_num.specs.Bytes.{Text}
use Rattle.chunk_io.specs.declared.layout.Layout.{Layout}
use Rattle.chunk_io.specs.declared.miss.Miss.{Miss}
use Rattle.chunk_io.specs.Items.{int, instruction, number, any_size, some_size, text, number_bytes, size_bytes, size_limit}
use Rattle.chunk_io.specs.Reading.{◌>>=◌, number_at, int_at, size_at, some_size_at, whole_at, bytes_at}
use Rattle.chunk_io.proofs.Phrases.{MissesLeft, SeesItem, ReadsItem}
use Rattle.chunk_io.proofs.ReadNumbers.{SeesNumber, number32, number64, size_number}

-- ---- an instruction

instruction_sees : (l : Layout) (bytes : List ℕ) (r : Result (ℕ × List ℕ) Miss) → SeesNumber (number_bytes l w32) 4 (2 ^ 32) bytes r → SeesItem (instruction l) (λ x. Unit {0}) 0 bytes r
instruction_sees l bytes (Ok x) s = (s.0, s.1, tt)
instruction_sees l bytes (Err m) s = subst (MissesLeft (instruction l 0) bytes) s.0 (rw ((number32 l).long 0) s.1)

instruction_misses : (l : Layout) (x : ℕ) (bytes : List ℕ) (m : Miss) → MissesLeft (instruction l x) bytes m → number_at l 4 bytes ≡ Err m
instruction_misses l x bytes Miss.Truncated h = (number32 l).misses bytes (rw ((number32 l).long x) at h)
instruction_misses l x bytes m h = absurd h

pub instruction_item : (l : Layout) → ReadsItem (number_at l 4) (instruction l) (λ x. Unit {0})
instruction_item l = record {
  some = 0;
  some_is = tt;
  sees = λ bytes fits. instruction_sees l bytes (number_at l 4 bytes) ((number32 l).sees bytes fits);
  takes = λ x is lt. (number32 l).takes x lt;
  misses = λ x bytes m is. instruction_misses l x bytes m;
}

-- ---- the size of a string that may be none

any_size_sees : (l : Layout) (bytes : List ℕ) (r : Result (ℕ × List ℕ) Miss) → SeesNumber (size_bytes l) (cond (eqb l.size 8) 8 4) (size_limit l) bytes r → SeesItem (any_size l) (λ x. Unit {0}) 0 bytes r
any_size_sees l bytes (Ok x) s = (s.0, s.1, tt)
any_size_sees l bytes (Err m) s = subst (MissesLeft (any_size l 0) bytes) s.0 (rw ((size_number l).long 0) s.1)

any_size_misses : (l : Layout) (x : ℕ) (bytes : List ℕ) (m : Miss) → MissesLeft (any_size l x) bytes m → size_at l bytes ≡ Err m
any_size_misses l x bytes Miss.Truncated h = (size_number l).misses bytes (rw ((size_number l).long x) at h)
any_size_misses l x bytes m h = absurd h

pub any_size_item : (l : Layout) → ReadsItem (size_at l) (any_size l) (λ x. Unit {0})
any_size_item l = record {
  some = 0;
  some_is = tt;
  sees = λ bytes fits. any_size_sees l bytes (size_at l bytes) ((size_number l).sees bytes fits);
  takes = λ x is lt. (size_number l).takes x lt;
  misses = λ x bytes m is. any_size_misses l x bytes m;
}

-- ---- an int

int_tested : (l : Layout) (bytes : List ℕ) (x : ℕ × List ℕ) → bytes ≡ number_bytes l w32 x.0 ++ x.1 → x.0 < 2 ^ 32 → (low : Bool) → ltb x.0 2147483648 ≡ low
    → SeesItem (int l) (λ n. Unit {0}) 0 bytes (cond low (Ok x) (Err (Miss.BadCount (length bytes))))
int_tested l bytes x here lt true e = (here, ltb-true x.0 2147483648 e, tt)
int_tested l bytes x here lt false e = (refl, (x.0, ltb-false x.0 2147483648 e, lt, ap (take 4) here ∙ take_at (number_bytes l w32 x.0) x.1 4 ((number32 l).long x.0)))

int_sees : (l : Layout) (bytes : List ℕ) (r : Result (ℕ × List ℕ) Miss) → SeesNumber (number_bytes l w32) 4 (2 ^ 32) bytes r
    → SeesItem (int l) (λ n. Unit {0}) 0 bytes (r >>= λ n. cond (ltb n.0 2147483648) (Ok n) (Err (Miss.BadCount (length bytes))))
int_sees l bytes (Ok x) s = int_tested l bytes x s.0 s.1 (ltb x.0 2147483648) refl
int_sees l bytes (Err m) s = subst (MissesLeft (int l 0) bytes) s.0 (rw ((number32 l).long 0) s.1)

int_takes : (l : Layout) (x : ℕ × List ℕ) → x.0 < 2 ^ 31 → int_at l (number_bytes l w32 x.0 ++ x.1) ≡ Ok x
unfolding int_at
int_takes l x lt =
    let low : ltb x.0 2147483648 ≡ true = lt-ltb x.0 2147483648 lt in
    rw ((number32 l).takes x (omega (arith, lt)), low) refl

int_misses : (l : Layout) (x : ℕ) (bytes : List ℕ) (m : Miss) → MissesLeft (int l x) bytes m → int_at l bytes ≡ Err m
unfolding int_at
int_misses l x bytes Miss.Truncated h = rw ((number32 l).misses bytes (rw ((number32 l).long x) at h))
int_misses l x bytes (Miss.BadCount n) h =
    let k = h.1.0 in
    let here : bytes ≡ number_bytes l w32 k ++ drop 4 bytes = sym (take-append-drop 4 bytes) ∙ ap (λ b. b ++ drop 4 bytes) h.1.3 in
    let read : number_at l 4 bytes ≡ Ok (k, drop 4 bytes) = ap (number_at l 4) here ∙ (number32 l).takes (k, drop 4 bytes) h.1.2 in
    let high : ltb k 2147483648 ≡ false = le-ltb k 2147483648 h.1.1 in
    rw (read, high, h.0)
int_misses l x bytes m h = absurd h

pub int_item : (l : Layout) → ReadsItem (int_at l) (int l) (λ n. Unit {0})
unfolding int_at
int_item l = record {
  some = 0;
  some_is = tt;
  sees = λ bytes fits. int_sees l bytes (number_at l 4 bytes) ((number32 l).sees bytes fits);
  takes = λ x is lt. int_takes l x lt;
  misses = λ x bytes m is. int_misses l x bytes m;
}

-- ---- the size of a string that must be there

some_size_tested : (l : Layout) (bytes : List ℕ) (x : ℕ × List ℕ) → bytes ≡ size_bytes l x.0 ++ x.1 → x.0 < size_limit l → (none : Bool) → eqb x.0 0 ≡ none
    → SeesItem (some_size l) (λ n. 0 < n) 1 bytes (cond none (Err (Miss.BadString (length bytes))) (Ok x))
some_size_tested l bytes x here lt true e =
    let from_zero : bytes ≡ size_bytes l 0 ++ x.1 = here ∙ ap (λ n. size_bytes l n ++ x.1) (eqb-true x.0 0 e) in
    (refl, ap (take (length (size_bytes l 0))) from_zero ∙ take_at (size_bytes l 0) x.1 (length (size_bytes l 0)) refl)
some_size_tested l bytes x here lt false e =
    let other : x.0 ≡ 0 → ⊥ = eqb-false x.0 0 e in
    (here, lt, omega arith)

some_size_sees : (l : Layout) (bytes : List ℕ) (r : Result (ℕ × List ℕ) Miss) → SeesNumber (size_bytes l) (cond (eqb l.size 8) 8 4) (size_limit l) bytes r
    → SeesItem (some_size l) (λ n. 0 < n) 1 bytes (r >>= λ n. cond (eqb n.0 0) (Err (Miss.BadString (length bytes))) (Ok n))
some_size_sees l bytes (Ok x) s = some_size_tested l bytes x s.0 s.1 (eqb x.0 0) refl
some_size_sees l bytes (Err m) s = subst (MissesLeft (some_size l 1) bytes) s.0 (rw ((size_number l).long 1) s.1)

some_size_takes : (l : Layout) (x : ℕ × List ℕ) → 0 < x.0 → x.0 < size_limit l → some_size_at l (size_bytes l x.0 ++ x.1) ≡ Ok x
unfolding some_size_at
some_size_takes l x is lt =
    let other : eqb x.0 0 ≡ false = ne_eqb x.0 0 (λ e. omega (arith, e)) in
    rw ((size_number l).takes x lt, other) refl

some_size_misses : (l : Layout) (x : ℕ) (bytes : List ℕ) (m : Miss) → MissesLeft (some_size l x) bytes m → some_size_at l bytes ≡ Err m
unfolding some_size_at
some_size_misses l x bytes Miss.Truncated h = rw ((size_number l).misses bytes (rw ((size_number l).long x) at h))
some_size_misses l x bytes (Miss.BadString n) h =
    let k = length (size_bytes l 0) in
    let here : bytes ≡ size_bytes l 0 ++ drop k bytes = sym (take-append-drop k bytes) ∙ ap (λ b. b ++ drop k bytes) h.1 in
    let limit : 1 < size_limit l = (size_number l).some in
    let read : size_at l bytes ≡ Ok (0, drop k bytes) = ap (size_at l) here ∙ (size_number l).takes (0, drop k bytes) (omega (arith, limit)) in
    rw (read, h.0)
some_size_misses l x bytes m h = absurd h

pub some_size_item : (l : Layout) → ReadsItem (some_size_at l) (some_size l) (λ n. 0 < n)
unfolding some_size_at
some_size_item l = record {
  some = 1;
  some_is = omega arith;
  sees = λ bytes fits. some_size_sees l bytes (size_at l bytes) ((size_number l).sees bytes fits);
  takes = λ x is lt. some_size_takes l x is lt;
  misses = λ x bytes m is. some_size_misses l x bytes m;
}

-- ---- the number of a constant

number_sees : (l : Layout) (bytes : List ℕ) (r : Result (ℕ × List ℕ) Miss) → SeesNumber (number_bytes l w64) 8 (2 ^ 64) bytes r
    → SeesItem (number l) (λ z. Unit {0}) (cast_signed w64 0) bytes (r >>= λ n. Ok (cast_signed w64 n.0, n.1))
number_sees l bytes (Ok x) s =
    let same : cast_unsigned w64 (cast_signed w64 x.0) ≡ x.0 = of_z-to_z w64 x.0 s.1 in
    (s.0 ∙ ap (λ n. number_bytes l w64 n ++ x.1) (sym same), sfits_to_z (Fits-of_lt {w = w64} s.1), tt)
number_sees l bytes (Err m) s = subst (MissesLeft (number l (cast_signed w64 0)) bytes) s.0 (rw ((number64 l).long (cast_unsigned w64 (cast_signed w64 0))) s.1)

number_takes : (l : Layout) (x : ℤ × List ℕ) → FitsSigned w64 x.0 → whole_at l (number_bytes l w64 (cast_unsigned w64 x.0) ++ x.1) ≡ Ok x
unfolding whole_at
number_takes l x fits =
    let same : cast_signed w64 (cast_unsigned w64 x.0) ≡ x.0 = to_z-of_z w64 x.0 fits in
    rw ((number64 l).takes (cast_unsigned w64 x.0, x.1) (Fits-lt-pow (Fits-of_z fits)), same) refl

number_misses : (l : Layout) (z : ℤ) (bytes : List ℕ) (m : Miss) → MissesLeft (number l z) bytes m → whole_at l bytes ≡ Err m
unfolding whole_at
number_misses l z bytes Miss.Truncated h = rw ((number64 l).misses bytes (rw ((number64 l).long (cast_unsigned w64 z)) at h))
number_misses l z bytes m h = absurd h

pub number_item : (l : Layout) → ReadsItem (whole_at l) (number l) (λ z. Unit {0})
unfolding whole_at
number_item l = record {
  some = cast_signed w64 0;
  some_is = tt;
  sees = λ bytes fits. number_sees l bytes (number_at l 8 bytes) ((number64 l).sees bytes fits);
  takes = λ x is fits. number_takes l x fits;
  misses = λ z bytes m is. number_misses l z bytes m;
}

-- ---- the bytes of a text

text_tested : (n : ℕ) (bytes : List ℕ) (short : Bool) → ltb (length bytes) n ≡ short
    → SeesItem text (λ t. length t ≡ n) (replicate n 0) bytes (cond short (Err Miss.Truncated) (Ok (take n bytes, drop n bytes)))
text_tested n bytes true e = rw (length-replicate {A = ℕ} n 0) (ltb-true (length bytes) n e)
text_tested n bytes false e =
    let long : n ≤ length bytes = ltb-false (length bytes) n e in
    (sym (take-append-drop n bytes), tt, omega (arith, length-take n bytes))

text_takes : (n : ℕ) (x : Text × List ℕ) → length x.0 ≡ n → bytes_at n (x.0 ++ x.1) ≡ Ok x
unfolding bytes_at
text_takes n x is =
    let long : ltb (length (x.0 ++ x.1)) n ≡ false = le-ltb _ _ (omega (arith, length-append x.0 x.1)) in
    rw (long, take_at x.0 x.1 n is, drop_at x.0 x.1 n is) refl

text_misses : (n : ℕ) (t : Text) (bytes : List ℕ) (m : Miss) → length t ≡ n → MissesLeft (text t) bytes m → bytes_at n bytes ≡ Err m
unfolding bytes_at
text_misses n t bytes Miss.Truncated is h = rw (lt-ltb (length bytes) n (omega (arith, is, h)))
text_misses n t bytes m is h = absurd h

pub text_item : (n : ℕ) → ReadsItem (bytes_at n) text (λ t. length t ≡ n)
unfolding bytes_at
text_item n = record {
  some = replicate n 0;
  some_is = length-replicate n 0;
  sees = λ bytes fits. text_tested n bytes (ltb (length bytes) n) refl;
  takes = λ x is allowed. text_takes n x is;
  misses = λ t bytes m is. text_misses n t bytes m is;
}
