-- Counts that stand beside constants.
use Rattle.std.proofs.Common.{◌≡◌, ℕ, zero, suc, ◌+◌, ◌<◌, ◌≤◌, Bool, true, false, cond, ◌&&◌, List, [], ◌∷◌, ◌++◌, length, take, drop, None, Some, refl, sym, ap, ◌∙◌, subst, arith, get_or, not-suc-le-zero, le_of_suc-le-suc}
use Rattle.std.specs.Prelude.{Option, slice_get, slice_set, replicate}
use Rattle.std.proofs.Math.Seq.{drop-cons}
use Rattle.std.proofs.lemmas.List.{length-replicate}
use Rattle.lua_num.specs.Bytes.{Text}
use Rattle.opcode.specs.declared.op.Op.{Op}
use Rattle.opcode.specs.declared.word.Instr.{Instr}
use Rattle.opcode.specs.Reading.{instr_of}
use Rattle.proto.specs.declared.parts.Constant.{Constant}
use Rattle.proto.specs.Chunk.{Chunk, own, functions}
use Rattle.rules.specs.Places.{further_from, further_words}
use Rattle.global_use.specs.declared.counting.Counts.{Counts}
use Rattle.global_use.specs.Uses.{is_name, is_use, uses_in}
use Rattle.global_use.specs.Counts.{Kind, getting, setting, does, count_of, counts_sum, no_counts, counts_of, with_more, with_instr, with_word, left_behind, named_sum}

pub set_more : (counts : List Counts) (k : ℕ) (d more : Counts) → k < length counts → slice_set counts k (counts_sum (get_or counts k d) more) ≡ with_more counts k more
set_more [] k d more within = absurd (not-suc-le-zero within)
set_more (c ∷ counts) zero d more within = refl
set_more (c ∷ counts) (suc k) d more within = ap (λ rest. c ∷ rest) (set_more counts k d more (le_of_suc-le-suc within))

pub more_past : (counts : List Counts) (k : ℕ) (more : Counts) → length counts ≤ k → counts ≡ with_more counts k more
more_past [] k more past = refl
more_past (c ∷ counts) zero more past = absurd (not-suc-le-zero past)
more_past (c ∷ counts) (suc k) more past = ap (λ rest. c ∷ rest) (more_past counts k more (le_of_suc-le-suc past))

-- nothing more
pub none_more : (counts : List Counts) (k : ℕ) (more : Counts) → more.gets + more.sets ≡ 0 → counts ≡ with_more counts k more
none_more [] k more none = refl
none_more (c ∷ counts) zero more none =
    let gets : c.gets ≡ c.gets + more.gets = omega arith in
    let sets : c.sets ≡ c.sets + more.sets = omega arith in
    ap {A = Counts} (λ d. d ∷ counts) (λ i. record { gets = gets i; sets = sets i })
none_more (c ∷ counts) (suc k) more none = ap (λ rest. c ∷ rest) (none_more counts k more none)

length-with_more : (counts : List Counts) (k : ℕ) (more : Counts) → length (with_more counts k more) ≡ length counts
length-with_more [] k more = refl
length-with_more (c ∷ counts) zero more = refl
length-with_more (c ∷ counts) (suc k) more = ap suc (length-with_more counts k more)

-- as many as there were
pub length-with_word : (counts : List Counts) (left word : ℕ) → length (with_word counts left word) ≡ length counts
length-with_word counts zero word = go (instr_of word)
  where
    go : (o : Option Instr) → length (with_instr counts o) ≡ length counts
    go None = refl
    go (Some i) = length-with_more counts i.bx (counts_of i.op)
length-with_word counts (suc n) word = refl

pub count_of-sum : (kind : Kind) (a b : Counts) → count_of kind (counts_sum a b) ≡ count_of kind a + count_of kind b
count_of-sum getting a b = refl
count_of-sum setting a b = refl

count_of-op : (kind : Kind) (op : Op) → count_of kind (counts_of op) ≡ cond (does kind op) 1 0
count_of-op getting op = refl
count_of-op setting op = refl

named_sum-more : (kind : Kind) (name : Text) (constants : List Constant) (counts : List Counts) (k : ℕ) (more : Counts) → length counts ≡ length constants → named_sum kind name constants (with_more counts k more) ≡ named_sum kind name constants counts + cond (is_name name (slice_get constants k)) (count_of kind more) 0
named_sum-more kind name [] [] k more same = refl
named_sum-more kind name [] (n ∷ counts) k more same = absurd (omega arith)
named_sum-more kind name (c ∷ constants) [] k more same = absurd (omega arith)
named_sum-more kind name (c ∷ constants) (n ∷ counts) zero more same = go (is_name name (Some c))
  where
    rest : ℕ
    rest = named_sum kind name constants counts

    go : (b : Bool) → cond b (count_of kind (counts_sum n more)) 0 + named_sum kind name constants counts ≡ cond b (count_of kind n) 0 + named_sum kind name constants counts + cond b (count_of kind more) 0
    go true = let sum = count_of-sum kind n more in omega arith
    go false = omega arith
named_sum-more kind name (c ∷ constants) (n ∷ counts) (suc k) more same =
    let lengths : length counts ≡ length constants = omega arith in
    let rest = named_sum-more kind name constants counts k more lengths in
    omega arith

-- one instruction more
named_sum-instr : (kind : Kind) (name : Text) (constants : List Constant) (counts : List Counts) (o : Option Instr) → length counts ≡ length constants → named_sum kind name constants (with_instr counts o) ≡ named_sum kind name constants counts + cond (is_use (does kind) constants name o) 1 0
named_sum-instr kind name constants counts None same = omega arith
named_sum-instr kind name constants counts (Some i) same =
    named_sum-more kind name constants counts i.bx (counts_of i.op) same
    ∙ ap (λ n. named_sum kind name constants counts + n) (ap (λ n. cond (is_name name (slice_get constants i.bx)) n 0) (count_of-op kind i.op) ∙ both (does kind i.op) (is_name name (slice_get constants i.bx)))
  where
    both : (d b : Bool) → ◌≡◌ {A = ℕ} (cond b (cond d 1 0) 0) (cond (d && b) 1 0)
    both true true = refl
    both true false = refl
    both false true = refl
    both false false = refl

-- counts of the words so far, and the uses in the others, make those of all
pub record Counting (f : Chunk) (counts : List Counts) (left : ℕ) (words : List ℕ) : Type 0 where
  pub lengths : length counts ≡ length (own f).constants
  pub sums : (kind : Kind) (name : Text) → named_sum kind name (own f).constants counts + uses_in (does kind) (own f).constants name (further_from (functions f) left words) words
      ≡ uses_in (does kind) (own f).constants name (further_words f) (own f).code

one_word : (f : Chunk) (counts : List Counts) (left word : ℕ) (words : List ℕ) → Counting f counts left (word ∷ words) → Counting f (with_word counts left word) (left_behind (functions f) left word) words
one_word f counts zero word words so = record {
  lengths = length-with_word counts 0 word ∙ so.lengths;
  sums = λ kind name.
      let one = named_sum-instr kind name (own f).constants counts (instr_of word) so.lengths in
      let all = so.sums kind name in
      omega arith;
}
one_word f counts (suc n) word words so = record { lengths = so.lengths; sums = so.sums }

pub next_word : (f : Chunk) (counts : List Counts) (left k : ℕ) (words : List ℕ) → k < length words → Counting f counts left (drop k words) → Counting f (with_word counts left (get_or words k 0)) (left_behind (functions f) left (get_or words k 0)) (drop (k + 1) words)
next_word f counts left k words low so =
    subst (λ n. Counting f (with_word counts left (get_or words k 0)) (left_behind (functions f) left (get_or words k 0)) (drop n words)) one_more
    (one_word f counts left (get_or words k 0) (drop (suc k) words) (subst (λ ws. Counting f counts left ws) (drop-cons words k 0 low) so))
  where
    one_more : suc k ≡ k + 1
    one_more = omega arith

named_sum-replicate : (kind : Kind) (name : Text) (constants : List Constant) (n : ℕ) → named_sum kind name constants (replicate n no_counts) ≡ 0
named_sum-replicate kind name [] n = refl
named_sum-replicate kind name (c ∷ constants) zero = refl
named_sum-replicate kind name (c ∷ constants) (suc n) = go (is_name name (Some c)) kind (named_sum-replicate kind name constants n)
  where
    go : (b : Bool) (k : Kind) → named_sum kind name constants (replicate n no_counts) ≡ 0 → cond b (count_of k no_counts) 0 + named_sum kind name constants (replicate n no_counts) ≡ 0
    go true getting rest = omega arith
    go true setting rest = omega arith
    go false k rest = omega arith

-- before the first word
pub no_word : (f : Chunk) (n : ℕ) → n ≡ length (own f).constants → length (replicate n no_counts) ≡ n → Counting f (replicate n no_counts) 0 (own f).code
no_word f n is many = record {
  lengths = many ∙ is;
  sums = λ kind name. let none = named_sum-replicate kind name (own f).constants n in omega arith;
}

drop_past : (words : List ℕ) (k : ℕ) → length words ≤ k → drop k words ≡ []
drop_past [] zero past = refl
drop_past [] (suc k) past = refl
drop_past (w ∷ words) zero past = absurd (not-suc-le-zero past)
drop_past (w ∷ words) (suc k) past = drop_past words k (le_of_suc-le-suc past)

take_front : {A : Type 0} (xs more : List A) → take (length xs) (xs ++ more) ≡ xs
take_front [] more = refl
take_front (x ∷ xs) more = ap (λ rest. x ∷ rest) (take_front xs more)

-- a whole slice that was written over is what was written
pub written_back : {A : Type 0} (n : ℕ) (xs ys : List A) → length xs ≡ n → take n (xs ++ drop (length xs) ys) ≡ xs
written_back n xs ys same = ap (λ m. take m (xs ++ drop (length xs) ys)) (sym same) ∙ take_front xs (drop (length xs) ys)

pub counting_begins : (f : Chunk) (counts : List Counts) (words : List ℕ) (constants : List Constant) → counts ≡ replicate (length constants) no_counts → constants ≡ (own f).constants → words ≡ (own f).code → Counting f counts 0 words
counting_begins f counts words constants are is code =
    subst (λ ws. Counting f counts 0 ws) (sym code) (subst (λ cs. Counting f cs 0 (own f).code) (sym are) (no_word f (length constants) (ap length is) (length-replicate (length constants) no_counts)))

pub counting_goes : (f : Chunk) (old lent new : List Counts) (n left next k : ℕ) (words : List ℕ) → lent ≡ old → n ≡ length old → length new ≡ length lent → new ≡ with_word lent left (get_or words k 0) → next ≡ left_behind (functions f) left (get_or words k 0) → k < length words →
    Counting f old left (drop k words) → Counting f (take n (new ++ drop (length new) old)) next (drop (k + 1) words)
counting_goes f old lent new n left next k words lends many as_many is goes low so =
    let whole : take n (new ++ drop (length new) old) ≡ new = written_back n new old (as_many ∙ (ap length lends ∙ sym many)) in
    let word : new ≡ with_word old left (get_or words k 0) = is ∙ ap (λ cs. with_word cs left (get_or words k 0)) lends in
    subst (λ cs. Counting f cs next (drop (k + 1) words)) (sym (whole ∙ word)) (subst (λ m. Counting f (with_word old left (get_or words k 0)) m (drop (k + 1) words)) (sym goes) (next_word f old left k words low so))

-- behind the last word
pub counting_ends : (f : Chunk) (counts : List Counts) (left k : ℕ) (words : List ℕ) → length words ≤ k → Counting f counts left (drop k words) → (kind : Kind) (name : Text) → named_sum kind name (own f).constants counts ≡ uses_in (does kind) (own f).constants name (further_words f) (own f).code
counting_ends f counts left k words past so kind name = go (subst (λ ws. Counting f counts left ws) (drop_past words k past) so)
  where
    go : Counting f counts left [] → named_sum kind name (own f).constants counts ≡ uses_in (does kind) (own f).constants name (further_words f) (own f).code
    go ended = let all = ended.sums kind name in omega arith
