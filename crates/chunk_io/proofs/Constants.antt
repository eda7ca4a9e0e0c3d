-- A constant: its tag, and what follows it.
use Rattle.std.proofs.Common.{◌≡◌, ℕ, zero, suc, Bool, true, false, cond, List, [], ◌∷◌, length, Result, Ok, Err, refl, sym, ap, arith}
use Rattle.std.specs.Prelude.{ℤ}
use Rattle.std.proofs.lemmas.Bool.{both_ways, ne_eqb}
use Rattle.lua_num.specs.Bytes.{Text}
use Rattle.proto.specs.declared.parts.Constant.{Constant}
use Rattle.chunk_io.specs.declared.layout.Layout.{Layout}
use Rattle.chunk_io.specs.declared.miss.Miss.{Miss}
use Rattle.chunk_io.specs.Items.{Item, tag, flag, number, string_items, constant_items}
use Rattle.chunk_io.specs.Faults.{is_tag}
use Rattle.chunk_io.specs.Reading.{Read, ◌>>=◌, then_at, as_at, flag_at, whole_at, text_at, constant_at}
use Rattle.chunk_io.proofs.Phrases.{MissesLeft, SeesItem, ReadsItem, Reads, reads_item}
use Rattle.chunk_io.proofs.Joined.{reads_then}
use Rattle.chunk_io.proofs.Renamed.{paired, reads_as, reads_nothing, reads_same}
use Rattle.chunk_io.proofs.SingleBytes.{flag_item}
use Rattle.chunk_io.proofs.NumberItems.{number_item}
use Rattle.chunk_io.proofs.Parts.{reads_string}

beyond_tags : (b : ℕ) → is_tag (suc (suc (suc (suc (suc b))))) ≡ false
beyond_tags b =
    let n = suc (suc (suc (suc (suc b)))) in
    rw (ne_eqb n 0 (λ e. omega (arith, e)), ne_eqb n 1 (λ e. omega (arith, e)), ne_eqb n 3 (λ e. omega (arith, e)), ne_eqb n 4 (λ e. omega (arith, e)))

tag_at : Read ℕ
tag_at [] = Err Miss.Truncated
tag_at (byte ∷ rest) = cond (is_tag byte) (Ok (byte, rest)) (Err (Miss.BadTag (suc (length rest))))

tag_tested : (byte : ℕ) (rest : List ℕ) (known : Bool) → is_tag byte ≡ known → SeesItem tag (λ t. is_tag t ≡ true) 0 (byte ∷ rest) (cond known (Ok (byte, rest)) (Err (Miss.BadTag (suc (length rest)))))
tag_tested byte rest true e = (refl, tt, e)
tag_tested byte rest false e = (refl, e)

tag_sees : (bytes : List ℕ) → SeesItem tag (λ t. is_tag t ≡ true) 0 bytes (tag_at bytes)
unfolding tag_at
tag_sees [] = omega arith
tag_sees (byte ∷ rest) = tag_tested byte rest (is_tag byte) refl

tag_takes : (t : ℕ) (rest : List ℕ) → is_tag t ≡ true → tag_at (t ∷ rest) ≡ Ok (t, rest)
unfolding tag_at
tag_takes t rest is = rw is

tag_misses : (t : ℕ) (bytes : List ℕ) (m : Miss) → MissesLeft (tag t) bytes m → tag_at bytes ≡ Err m
unfolding tag_at
tag_misses t [] Miss.Truncated h = refl
tag_misses t (byte ∷ left) Miss.Truncated h = absurd (omega arith)
tag_misses t (byte ∷ left) (Miss.BadTag n) h = rw (h.1, h.0)
tag_misses t bytes m h = absurd h

tag_item : ReadsItem tag_at tag (λ t. is_tag t ≡ true)
tag_item = record {
  some = 0;
  some_is = refl;
  sees = λ bytes fits. tag_sees bytes;
  takes = λ x is allowed. tag_takes x.0 x.1 is;
  misses = λ t bytes m is. tag_misses t bytes m;
}

-- ---- what follows a tag

abbrev tag_of : Constant → ℕ
tag_of Constant.Nil = 0
tag_of (Constant.Bool b) = 1
tag_of (Constant.Number n) = 3
tag_of (Constant.Text t) = 4

abbrev rest_of_constant_items : Layout → Constant → List Item
rest_of_constant_items l Constant.Nil = []
rest_of_constant_items l (Constant.Bool b) = flag b ∷ []
rest_of_constant_items l (Constant.Number n) = number l n ∷ []
rest_of_constant_items l (Constant.Text t) = string_items l t

rest_of_constant_at : Layout → (tag : ℕ) → Read Constant
rest_of_constant_at l zero bytes = Ok (Constant.Nil, bytes)
rest_of_constant_at l (suc zero) bytes = as_at (λ b. Constant.Bool b) flag_at bytes
rest_of_constant_at l (suc (suc zero)) bytes = Err Miss.Integral
rest_of_constant_at l (suc (suc (suc zero))) bytes = as_at (λ n. Constant.Number n) (whole_at l) bytes
rest_of_constant_at l (suc (suc (suc (suc zero)))) bytes = as_at (λ t. Constant.Text t) (text_at l) bytes
rest_of_constant_at l (suc (suc (suc (suc (suc t))))) bytes = Err Miss.Integral

nil_tagged : (c : Constant) → tag_of c ≡ 0 → Constant.Nil ≡ c
nil_tagged Constant.Nil e = refl
nil_tagged (Constant.Bool b) e = absurd cc
nil_tagged (Constant.Number n) e = absurd cc
nil_tagged (Constant.Text t) e = absurd cc

bool_tagged : (c : Constant) → tag_of c ≡ 1 → (b : Bool) × (Constant.Bool b ≡ c) × Unit {0}
bool_tagged Constant.Nil e = absurd cc
bool_tagged (Constant.Bool b) e = (b, refl, tt)
bool_tagged (Constant.Number n) e = absurd cc
bool_tagged (Constant.Text t) e = absurd cc

number_tagged : (c : Constant) → tag_of c ≡ 3 → (n : ℤ) × (Constant.Number n ≡ c) × Unit {0}
number_tagged Constant.Nil e = absurd cc
number_tagged (Constant.Bool b) e = absurd cc
number_tagged (Constant.Number n) e = (n, refl, tt)
number_tagged (Constant.Text t) e = absurd cc

text_tagged : (c : Constant) → tag_of c ≡ 4 → (t : Text) × (Constant.Text t ≡ c) × Unit {0}
text_tagged Constant.Nil e = absurd cc
text_tagged (Constant.Bool b) e = absurd cc
text_tagged (Constant.Number n) e = absurd cc
text_tagged (Constant.Text t) e = (t, refl, tt)

reads_rest_of_constant : (l : Layout) (t : ℕ) → is_tag t ≡ true → Reads (rest_of_constant_at l t) (rest_of_constant_items l) (λ c. tag_of c ≡ t)
unfolding rest_of_constant_at
reads_rest_of_constant l zero is =
    reads_as (λ (c : Constant). c) (rest_of_constant_items l) (λ c. tag_of c ≡ 0) (reads_nothing {V = Constant} (rest_of_constant_items l) Constant.Nil refl) (λ c is. (refl, ap tag_of (sym is))) (λ c is. (Constant.Nil, nil_tagged c is, refl))
reads_rest_of_constant l (suc zero) is = reads_as (λ (b : Bool). Constant.Bool b) (rest_of_constant_items l) (λ c. tag_of c ≡ 1) (reads_item flag_item) (λ b is. (refl, refl)) bool_tagged
reads_rest_of_constant l (suc (suc zero)) is = absurd cc
reads_rest_of_constant l (suc (suc (suc zero))) is = reads_as (λ (n : ℤ). Constant.Number n) (rest_of_constant_items l) (λ c. tag_of c ≡ 3) (reads_item (number_item l)) (λ n is. (refl, refl)) number_tagged
reads_rest_of_constant l (suc (suc (suc (suc zero)))) is = reads_as (λ (t : Text). Constant.Text t) (rest_of_constant_items l) (λ c. tag_of c ≡ 4) (reads_string l) (λ t is. (refl, refl)) text_tagged
reads_rest_of_constant l (suc (suc (suc (suc (suc t))))) is = absurd (both_ways _ (beyond_tags t) is)

-- ---- the whole constant

abbrev second : (ℕ × Constant) × List ℕ → Result (Constant × List ℕ) Miss
second z = Ok (z.0.1, z.1)

only_second : (t : ℕ) (r : Result (Constant × List ℕ) Miss) → ((r >>= λ y. paired t y) >>= λ z. second z) ≡ r
only_second t (Ok y) = refl
only_second t (Err m) = refl

tagged : (l : Layout) (bytes : List ℕ) → as_at (λ (p : ℕ × Constant). p.1) (then_at tag_at (rest_of_constant_at l)) bytes ≡ constant_at l bytes
unfolding tag_at rest_of_constant_at constant_at
tagged l [] = refl
tagged l (zero ∷ rest) = refl
tagged l (suc zero ∷ rest) = only_second 1 (as_at (λ b. Constant.Bool b) flag_at rest)
tagged l (suc (suc zero) ∷ rest) = refl
tagged l (suc (suc (suc zero)) ∷ rest) = only_second 3 (as_at (λ n. Constant.Number n) (whole_at l) rest)
tagged l (suc (suc (suc (suc zero))) ∷ rest) = only_second 4 (as_at (λ t. Constant.Text t) (text_at l) rest)
tagged l (suc (suc (suc (suc (suc b)))) ∷ rest) = rw (beyond_tags b)

constant_parts : (l : Layout) (t : ℕ) (c : Constant) → tag_of c ≡ t → constant_items l c ≡ tag t ∷ rest_of_constant_items l c
constant_parts l t Constant.Nil e = ap (λ t. tag t ∷ []) e
constant_parts l t (Constant.Bool b) e = ap (λ t. tag t ∷ flag b ∷ []) e
constant_parts l t (Constant.Number n) e = ap (λ t. tag t ∷ number l n ∷ []) e
constant_parts l t (Constant.Text s) e = ap (λ t. tag t ∷ string_items l s) e

is_tag_of : (c : Constant) → is_tag (tag_of c) ≡ true
is_tag_of Constant.Nil = refl
is_tag_of (Constant.Bool b) = refl
is_tag_of (Constant.Number n) = refl
is_tag_of (Constant.Text t) = refl

pub reads_constant : (l : Layout) → Reads (constant_at l) (constant_items l) (λ c. Unit {0})
reads_constant l =
    reads_same (tagged l)
    (reads_as (λ (p : ℕ × Constant). p.1) (constant_items l) (λ c. Unit {0}) (reads_then (reads_item tag_item) (reads_rest_of_constant l))
    (λ p is. (constant_parts l p.0 p.1 is.1, tt)) (λ c is. ((tag_of c, c), refl, (is_tag_of c, refl))))
