-- Items of one byte each.
use Rattle.std.proofs.Common.{◌≡◌, ℕ, zero, suc, Bool, true, false, cond, eqb, List, [], ◌∷◌, ◌++◌, length, Ok, Err, refl, ap, arith}
use Rattle.std.proofs.lemmas.Bool.{eqb-true, eqb-false, eq-eqb, ne_eqb}
use Rattle.chunk_io.specs.declared.miss.Miss.{Miss}
use Rattle.chunk_io.specs.Items.{Item, sign, order, width, integral, shape, flag, ending, bytes_of}
use Rattle.chunk_io.specs.Reading.{byte_at, sign_at, order_at, width_at, integral_at, flag_at, ending_at}
use Rattle.chunk_io.proofs.Numbers.{IsBytes}
use Rattle.chunk_io.proofs.Phrases.{MissesLeft, SeesItem, ReadsItem}

-- ---- a byte that each header has

sign_tested : (b byte : ℕ) (rest : List ℕ) (same : Bool) → eqb byte b ≡ same
    → SeesItem (λ u. sign b) (λ u. Unit {0}) (tt {0}) (byte ∷ rest) (cond same (Ok (tt {0}, rest)) (Err (Miss.Header (suc (length rest)))))
sign_tested b byte rest true e = (ap (λ x. x ∷ rest) (eqb-true byte b e), tt, tt)
sign_tested b byte rest false e = (refl, eqb-false byte b e)

sign_sees : (b : ℕ) (bytes : List ℕ) → SeesItem (λ u. sign b) (λ u. Unit {0}) (tt {0}) bytes (sign_at b bytes)
unfolding sign_at
sign_sees b [] = omega arith
sign_sees b (byte ∷ rest) = sign_tested b byte rest (eqb byte b) refl

sign_misses : (b : ℕ) (bytes : List ℕ) (m : Miss) → MissesLeft (sign b) bytes m → sign_at b bytes ≡ Err m
unfolding sign_at
sign_misses b [] Miss.Truncated h = refl
sign_misses b (byte ∷ left) Miss.Truncated h = absurd (omega arith)
sign_misses b (byte ∷ left) (Miss.Header n) h = rw (ne_eqb byte b h.1, h.0)
sign_misses b bytes m h = absurd h

pub sign_item : (b : ℕ) → ReadsItem (sign_at b) (λ u. sign b) (λ u. Unit {0})
unfolding sign_at
sign_item b = record {
  some = tt;
  some_is = tt;
  sees = λ bytes fits. sign_sees b bytes;
  takes = λ x is allowed. rw (eq-eqb b b refl);
  misses = λ u bytes m is. sign_misses b bytes m;
}

-- ---- the order of a number's bytes

order_sees : (bytes : List ℕ) → SeesItem order (λ b. Unit {0}) true bytes (order_at bytes)
unfolding order_at
order_sees [] = omega arith
order_sees (zero ∷ rest) = (refl, tt, tt)
order_sees (suc zero ∷ rest) = (refl, tt, tt)
order_sees (suc (suc b) ∷ rest) = (refl, omega arith)

order_takes : (b : Bool) (rest : List ℕ) → order_at (bytes_of (order b) ++ rest) ≡ Ok (b, rest)
unfolding order_at
order_takes true rest = refl
order_takes false rest = refl

order_misses : (b : Bool) (bytes : List ℕ) (m : Miss) → MissesLeft (order b) bytes m → order_at bytes ≡ Err m
unfolding order_at
order_misses b [] Miss.Truncated h = refl
order_misses b (byte ∷ left) Miss.Truncated h = absurd (omega arith)
order_misses b (zero ∷ left) (Miss.Header n) h = absurd (omega arith)
order_misses b (suc zero ∷ left) (Miss.Header n) h = absurd (omega arith)
order_misses b (suc (suc byte) ∷ left) (Miss.Header n) h = rw h.0
order_misses b bytes m h = absurd h

pub order_item : ReadsItem order_at order (λ b. Unit {0})
order_item = record {
  some = true;
  some_is = tt;
  sees = λ bytes fits. order_sees bytes;
  takes = λ x is allowed. order_takes x.0 x.1;
  misses = λ b bytes m is. order_misses b bytes m;
}

-- ---- how many bytes a size has

abbrev pub width_of : (wide : Bool) → Item
width_of wide = width (cond wide 8 4)

width_tested : (byte : ℕ) (rest : List ℕ) (is_8 is_4 : Bool) → eqb byte 8 ≡ is_8 → eqb byte 4 ≡ is_4
    → SeesItem width_of (λ w. Unit {0}) true (byte ∷ rest) (cond is_8 (Ok (true, rest)) (cond is_4 (Ok (false, rest)) (Err (Miss.Header (suc (length rest))))))
width_tested byte rest true is_4 e f = (ap (λ x. x ∷ rest) (eqb-true byte 8 e), tt, tt)
width_tested byte rest false true e f = (ap (λ x. x ∷ rest) (eqb-true byte 4 f), tt, tt)
width_tested byte rest false false e f = (refl, eqb-false byte 4 f, eqb-false byte 8 e)

width_sees : (bytes : List ℕ) → SeesItem width_of (λ w. Unit {0}) true bytes (width_at bytes)
unfolding width_at
width_sees [] = omega arith
width_sees (byte ∷ rest) = width_tested byte rest (eqb byte 8) (eqb byte 4) refl refl

width_takes : (wide : Bool) (rest : List ℕ) → width_at (bytes_of (width_of wide) ++ rest) ≡ Ok (wide, rest)
unfolding width_at
width_takes true rest = refl
width_takes false rest = refl

width_misses : (n : ℕ) (bytes : List ℕ) (m : Miss) → MissesLeft (width n) bytes m → width_at bytes ≡ Err m
unfolding width_at
width_misses w [] Miss.Truncated h = refl
width_misses w (byte ∷ left) Miss.Truncated h = absurd (omega arith)
width_misses w (byte ∷ left) (Miss.Header n) h = rw (ne_eqb byte 8 h.2, ne_eqb byte 4 h.1, h.0)
width_misses w bytes m h = absurd h

pub width_item : ReadsItem width_at width_of (λ w. Unit {0})
width_item = record {
  some = true;
  some_is = tt;
  sees = λ bytes fits. width_sees bytes;
  takes = λ x is allowed. width_takes x.0 x.1;
  misses = λ wide bytes m is. width_misses (cond wide 8 4) bytes m;
}

-- ---- the flag that numbers are whole

integral_sees : (bytes : List ℕ) → SeesItem (λ u. integral) (λ u. Unit {0}) (tt {0}) bytes (integral_at bytes)
unfolding integral_at
integral_sees [] = omega arith
integral_sees (zero ∷ rest) = tt
integral_sees (suc zero ∷ rest) = (refl, tt, tt)
integral_sees (suc (suc b) ∷ rest) = (refl, omega arith)

integral_misses : (bytes : List ℕ) (m : Miss) → MissesLeft integral bytes m → integral_at bytes ≡ Err m
unfolding integral_at
integral_misses [] Miss.Truncated h = refl
integral_misses (byte ∷ left) Miss.Truncated h = absurd (omega arith)
integral_misses (zero ∷ left) Miss.Integral h = refl
integral_misses (zero ∷ left) (Miss.Header n) h = absurd (omega arith)
integral_misses (suc zero ∷ left) (Miss.Header n) h = absurd (omega arith)
integral_misses (suc (suc byte) ∷ left) (Miss.Header n) h = rw h.0
integral_misses bytes m h = absurd h

pub integral_item : ReadsItem integral_at (λ u. integral) (λ u. Unit {0})
unfolding integral_at
integral_item = record {
  some = tt;
  some_is = tt;
  sees = λ bytes fits. integral_sees bytes;
  takes = λ x is allowed. refl;
  misses = λ u bytes m is. integral_misses bytes m;
}

-- ---- a byte of a function's shape

byte_sees : (bytes : List ℕ) → IsBytes bytes → SeesItem shape (λ b. Unit {0}) 0 bytes (byte_at bytes)
unfolding byte_at
byte_sees [] fits = omega arith
byte_sees (byte ∷ rest) fits = (refl, fits 0, tt)

byte_misses : (b : ℕ) (bytes : List ℕ) (m : Miss) → MissesLeft (shape b) bytes m → byte_at bytes ≡ Err m
unfolding byte_at
byte_misses b [] Miss.Truncated h = refl
byte_misses b (byte ∷ left) Miss.Truncated h = absurd (omega arith)
byte_misses b bytes m h = absurd h

pub byte_item : ReadsItem byte_at shape (λ b. Unit {0})
unfolding byte_at
byte_item = record {
  some = 0;
  some_is = tt;
  sees = byte_sees;
  takes = λ x is allowed. refl;
  misses = λ b bytes m is. byte_misses b bytes m;
}

-- ---- a boolean

flag_sees : (bytes : List ℕ) → SeesItem flag (λ b. Unit {0}) true bytes (flag_at bytes)
unfolding flag_at
flag_sees [] = omega arith
flag_sees (zero ∷ rest) = (refl, tt, tt)
flag_sees (suc zero ∷ rest) = (refl, tt, tt)
flag_sees (suc (suc b) ∷ rest) = (refl, omega arith)

flag_takes : (b : Bool) (rest : List ℕ) → flag_at (bytes_of (flag b) ++ rest) ≡ Ok (b, rest)
unfolding flag_at
flag_takes true rest = refl
flag_takes false rest = refl

flag_misses : (b : Bool) (bytes : List ℕ) (m : Miss) → MissesLeft (flag b) bytes m → flag_at bytes ≡ Err m
unfolding flag_at
flag_misses b [] Miss.Truncated h = refl
flag_misses b (byte ∷ left) Miss.Truncated h = absurd (omega arith)
flag_misses b (zero ∷ left) (Miss.BadTag n) h = absurd (omega arith)
flag_misses b (suc zero ∷ left) (Miss.BadTag n) h = absurd (omega arith)
flag_misses b (suc (suc byte) ∷ left) (Miss.BadTag n) h = rw h.0
flag_misses b bytes m h = absurd h

pub flag_item : ReadsItem flag_at flag (λ b. Unit {0})
flag_item = record {
  some = true;
  some_is = tt;
  sees = λ bytes fits. flag_sees bytes;
  takes = λ x is allowed. flag_takes x.0 x.1;
  misses = λ b bytes m is. flag_misses b bytes m;
}

-- ---- the 0 behind a text

ending_sees : (bytes : List ℕ) → SeesItem (λ u. ending) (λ u. Unit {0}) (tt {0}) bytes (ending_at bytes)
unfolding ending_at
ending_sees [] = omega arith
ending_sees (zero ∷ rest) = (refl, tt, tt)
ending_sees (suc b ∷ rest) = (refl, omega arith)

ending_misses : (bytes : List ℕ) (m : Miss) → MissesLeft ending bytes m → ending_at bytes ≡ Err m
unfolding ending_at
ending_misses [] Miss.Truncated h = refl
ending_misses (byte ∷ left) Miss.Truncated h = absurd (omega arith)
ending_misses (zero ∷ left) (Miss.BadString n) h = absurd (omega arith)
ending_misses (suc byte ∷ left) (Miss.BadString n) h = rw h.0
ending_misses bytes m h = absurd h

pub ending_item : ReadsItem ending_at (λ u. ending) (λ u. Unit {0})
unfolding ending_at
ending_item = record {
  some = tt;
  some_is = tt;
  sees = λ bytes fits. ending_sees bytes;
  takes = λ x is allowed. refl;
  misses = λ u bytes m is. ending_misses bytes m;
}
