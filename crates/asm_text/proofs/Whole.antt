-- All the lines: they are those of a chunk, or one is missed, just as reading says.
use Rattle.std.proofs.Common.{◌≡◌, ℕ, zero, suc, ◌-◌, cond, eqb, List, [], ◌∷◌, ◌++◌, length, take, Result, Ok, Err, refl, sym, ap, subst, ◌∙◌, append_assoc, arith}
use Rattle.std.specs.List.{AllByRecursion}
use Rattle.std.proofs.lemmas.Bool.{ne_eqb}
use Rattle.std.proofs.lemmas.List.{append-nil, length-append, take-append-le}
use Rattle.lua_num.specs.Bytes.{Text}
use Rattle.lister.specs.Listing.{line}
use Rattle.proto.specs.Chunk.{Chunk}
use Rattle.asm_text.specs.declared.fault.ListFault.{ListFault}
use Rattle.asm_text.specs.declared.miss.Miss.{Miss}
use Rattle.asm_text.specs.Lines.{Place, begin, end, listed, places, IsOneLine, together, Show}
use Rattle.asm_text.specs.Faults.{Misses, IsCutOff}
use Rattle.asm_text.specs.Reading.{◌>>=◌, chunk_at, all_of, line_ends, line_number, fault_of}
use Rattle.asm_text.proofs.Places.{MissesLeft}
use Rattle.asm_text.proofs.Phrases.{Taken, MissIn, Sees, Reads, single_split}
use Rattle.asm_text.proofs.Joined.{Side, in_first, in_second, side}
use Rattle.asm_text.proofs.Functions.{reads_function}

abbrev NoCondition : Chunk → Type 0
NoCondition c = Unit {0}

reads_listed : Reads (chunk_at 200) listed NoCondition
reads_listed = reads_function 200 1 refl

-- the lines of a chunk, and nothing more
pub record AreLines (bytes : List ℕ) (c : Chunk) : Type 0 where
  pub given : List Text
  pub here : bytes ≡ together given
  pub shown : Show (listed c) given

abbrev SeesAll : List ℕ → Result Chunk Miss → Type 0
SeesAll bytes (Ok c) = AreLines bytes c
SeesAll bytes (Err m) = MissIn places NoCondition bytes m

ended : (bytes : List ℕ) (c : Chunk) (rest : List ℕ) → Taken listed NoCondition bytes (c, rest) → SeesAll bytes (cond (eqb (length rest) 0) (Ok c) (Err (Miss.BadLine (length rest))))
ended bytes c [] s = record { given = s.given; here = s.here ∙ append-nil (together s.given); shown = s.shown }
ended bytes c (b ∷ rest) s =
    rw (ne_eqb (suc (length rest)) 0 (λ e. omega (arith, e)))
    (record { value = c; is = tt; before = listed c; due = end; after = []; in_order = refl; given = s.given; shown = s.shown; left = b ∷ rest; here = s.here; miss = (refl, λ e. cc) })

seen : (bytes : List ℕ) (r : Result (Chunk × List ℕ) Miss) → Sees listed NoCondition bytes r → SeesAll bytes (r >>= λ x. cond (eqb (length x.1) 0) (Ok x.0) (Err (Miss.BadLine (length x.1))))
seen bytes (Ok x) s = ended bytes x.0 x.1 s
seen bytes (Err m) s = record {
  value = s.value;
  is = s.is;
  before = s.before;
  due = s.due;
  after = s.after ++ end ∷ [];
  in_order = ap (λ i. i ++ end ∷ []) s.in_order ∙ append_assoc s.before (s.due ∷ s.after) (end ∷ []);
  given = s.given;
  shown = s.shown;
  left = s.left;
  here = s.here;
  miss = s.miss;
}

all_sees : (bytes : List ℕ) → SeesAll bytes (all_of bytes)
unfolding all_of
all_sees bytes = seen bytes (chunk_at 200 bytes) (reads_listed.sees bytes)

-- ---- the other way

end_missed : (bytes : List ℕ) (c : Chunk) (left : List ℕ) (m : Miss) → chunk_at 200 bytes ≡ Ok (c, left) → MissesLeft end left m → all_of bytes ≡ Err m
unfolding all_of
end_missed bytes c [] (Miss.BadLine n) e h = absurd (h.1 refl)
end_missed bytes c (b ∷ left) (Miss.BadLine n) e h = rw (e, ne_eqb (suc (length left)) 0 (λ e. omega (arith, e))) (ap (λ k. Err (Miss.BadLine k)) (sym h.0))
end_missed bytes c left (Miss.TooDeep n) e h = absurd h

given_side : (bytes : List ℕ) (m : Miss) (s : MissIn places NoCondition bytes m) → Side (listed s.value) (end ∷ []) s.before s.due s.after → all_of bytes ≡ Err m
unfolding all_of
given_side bytes m s (in_first behind h) =
    let e : chunk_at 200 bytes ≡ Err m = reads_listed.gives bytes (Err m) (record { value = s.value; is = s.is; before = s.before; due = s.due; after = behind; in_order = h; given = s.given; shown = s.shown; left = s.left; here = s.here; miss = s.miss }) in
    rw e
given_side bytes m s (in_second between h g) =
    let at = single_split end between s.due s.after g in
    let all : s.before ≡ listed s.value = h ∙ ap (λ i. listed s.value ++ i) at.0 ∙ append-nil (listed s.value) in
    let e : chunk_at 200 bytes ≡ Ok (s.value, s.left) = reads_listed.gives bytes (Ok (s.value, s.left)) (record { given = s.given; here = s.here; shown = subst (λ ps. Show ps s.given) all s.shown; is = tt }) in
    end_missed bytes s.value s.left m e (subst (λ i. MissesLeft i s.left m) (sym at.1) s.miss)

all_gives : (bytes : List ℕ) (r : Result Chunk Miss) → SeesAll bytes r → all_of bytes ≡ r
unfolding all_of
all_gives bytes (Ok c) s =
    let e : chunk_at 200 bytes ≡ Ok (c, []) = reads_listed.gives bytes (Ok (c, [])) (record { given = s.given; here = s.here ∙ sym (append-nil (together s.given)); shown = s.shown; is = tt }) in
    rw e refl
all_gives bytes (Err m) s = given_side bytes m s (side (listed s.value) (end ∷ []) s.before s.due s.after s.in_order)

-- ---- numbers of lines

abbrev pub EachOne : List Text → Type 0
EachOne ts = AllByRecursion IsOneLine ts

then_ones : (p : Place) (ps : List Place) (ts : List Text) → ((us : List Text) → Show ps us → EachOne us) → Show (p ∷ ps) ts → EachOne ts
then_ones (begin n) ps ts go h = go ts h.1
then_ones p ps [] go h = tt
then_ones p ps (t ∷ ts) go h = (h.0, go ts h.3)

pub ones : (ps : List Place) (ts : List Text) → Show ps ts → EachOne ts
ones [] [] h = tt
ones [] (t ∷ ts) h = absurd h
ones (p ∷ ps) ts h = then_ones p ps ts (λ us k. ones ps us k) h

line_counted : (t : Text) (rest : List ℕ) → IsOneLine t → line_ends (line t ++ rest) ≡ suc (line_ends rest)
unfolding line_ends
line_counted [] rest h = refl
line_counted (b ∷ t) rest h = rw (ne_eqb b 10 h.0) (line_counted t rest h.1)

lines_counted : (ts : List Text) → EachOne ts → line_ends (together ts) ≡ length ts
unfolding line_ends
lines_counted [] h = refl
lines_counted (t ∷ ts) h = line_counted t (together ts) h.0 ∙ ap suc (lines_counted ts h.1)

take_all : (xs : List ℕ) (n : ℕ) → n ≡ length xs → take n xs ≡ xs
take_all [] zero e = refl
take_all [] (suc n) e = refl
take_all (x ∷ xs) zero e = absurd (omega arith)
take_all (x ∷ xs) (suc n) e = ap (λ t. x ∷ t) (take_all xs n (omega arith))

front_of : (xs ys : List ℕ) → take (length (xs ++ ys) - length ys) (xs ++ ys) ≡ xs
front_of xs ys =
    let n : length (xs ++ ys) - length ys ≡ length xs = omega (arith, length-append xs ys) in
    ap (λ k. take k (xs ++ ys)) n ∙ take-append-le (length xs) xs ys (omega arith) ∙ take_all xs (length xs) refl

number_here : (bytes : List ℕ) (ts : List Text) (left : List ℕ) → EachOne ts → bytes ≡ together ts ++ left → line_number bytes (length left) ≡ suc (length ts)
number_here bytes ts left h here =
    ap (λ (b : List ℕ). line_number b (length left)) here ∙ ap (λ (b : List ℕ). suc (line_ends b)) (front_of (together ts) left) ∙ ap suc (lines_counted ts h)

to_number : (due : Place) (left : List ℕ) (m : Miss) (bytes : List ℕ) (number : ℕ) → line_number bytes (length left) ≡ number → MissesLeft due left m → Misses due number left (fault_of bytes m)
to_number (begin n) left (Miss.TooDeep k) bytes number e h = (ap (line_number bytes) h.0 ∙ e, h.1)
to_number (begin n) left (Miss.BadLine k) bytes number e h = absurd h
to_number end left (Miss.BadLine k) bytes number e h = (ap (line_number bytes) h.0 ∙ e, h.1)
to_number due left (Miss.BadLine k) bytes number e h = (ap (line_number bytes) h.0 ∙ e, h.1)
to_number due left (Miss.TooDeep k) bytes number e h = absurd h

from_number : (due : Place) (left : List ℕ) (fault : ListFault) (bytes : List ℕ) (number : ℕ) → line_number bytes (length left) ≡ number → Misses due number left fault → (m : Miss) × MissesLeft due left m × (fault_of bytes m ≡ fault)
from_number (begin n) left (ListFault.TooDeep at) bytes number e h = (Miss.TooDeep (length left), (refl, h.1), ap (λ k. ListFault.TooDeep k) (e ∙ sym h.0))
from_number (begin n) left fault bytes number e h = absurd h
from_number end left (ListFault.BadLine at) bytes number e h = (Miss.BadLine (length left), (refl, h.1), ap (λ k. ListFault.BadLine k) (e ∙ sym h.0))
from_number due left (ListFault.BadLine at) bytes number e h = (Miss.BadLine (length left), (refl, h.1), ap (λ k. ListFault.BadLine k) (e ∙ sym h.0))
from_number due left fault bytes number e h = absurd h

-- ---- what reading gives is what the text is

pub found : (bytes : List ℕ) (c : Chunk) → all_of bytes ≡ Ok c → AreLines bytes c
found bytes c e = subst (SeesAll bytes) e (all_sees bytes)

pub again : (bytes : List ℕ) (c : Chunk) → AreLines bytes c → all_of bytes ≡ Ok c
again bytes c s = all_gives bytes (Ok c) s

pub missed : (bytes : List ℕ) (m : Miss) → all_of bytes ≡ Err m → IsCutOff bytes (fault_of bytes m)
missed bytes m e =
    let s : MissIn places NoCondition bytes m = subst (SeesAll bytes) e (all_sees bytes) in
    record {
      chunk = s.value;
      before = s.before;
      due = s.due;
      after = s.after;
      in_order = s.in_order;
      given = s.given;
      shown = s.shown;
      left = s.left;
      here = s.here;
      missed = to_number s.due s.left m bytes (suc (length s.given)) (number_here bytes s.given s.left (ones s.before s.given s.shown) s.here) s.miss;
    }

pub missed_again : (bytes : List ℕ) (fault : ListFault) → IsCutOff bytes fault → (m : Miss) × (all_of bytes ≡ Err m) × (fault_of bytes m ≡ fault)
missed_again bytes fault f =
    let at = from_number f.due f.left fault bytes (suc (length f.given)) (number_here bytes f.given f.left (ones f.before f.given f.shown) f.here) f.missed in
    let s : MissIn places NoCondition bytes at.0 = record { value = f.chunk; is = tt; before = f.before; due = f.due; after = f.after; in_order = f.in_order; given = f.given; shown = f.shown; left = f.left; here = f.here; miss = at.1 } in
    (at.0, all_gives bytes (Err at.0) s, at.2)
