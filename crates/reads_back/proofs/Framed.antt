-- What is made of an expression where one constant more is taken already: the same, where it takes none, or that one first.
use Rattle.std.proofs.Common.{◌≡◌, ℕ, suc, ◌+◌, ◌≤◌, nat_le, Bool, true, false, cond, not, ◌||◌, ◌⊎◌, inl, inr, List, [], ◌∷◌, ◌++◌, length, Some, refl, sym, ap, ◌∙◌, subst, subst₂, arith, append-nil, true≢false}
use Rattle.std.proofs.lemmas.Bool.Decides.{nat_tests}
use Rattle.std.specs.List.{list_any, position_or_len}
use Rattle.std.specs.Prelude.{if◌then◌else◌, slice_get}
use Rattle.proto.proofs.ConstantPool.{same_constant-Decides}
use Rattle.proto.specs.Constants.{constant_number, same_constant, with_constant}
use Rattle.proto.specs.declared.parts.Constant.{Constant}
use Rattle.scheme.specs.Expressions.{is_small, small_constant}
use Rattle.scheme.specs.Making.{Asks, Got, Maker, Part, constant, free_from, freeing, put, take_registers, when}
use Rattle.scheme.specs.declared.making.Piece.{Piece}
use Rattle.scheme_stands.proofs.Growth.{Kept, at_end, length_end, with_kept}

-- ---- two runs, of which the second one has one constant more from the first

-- the same with one constant more
abbrev pub plus : Constant → Maker → Maker
plus k a = record a { constants = a.constants ++ k ∷ [] }

-- the second run has taken a constant with the next number, but for one with the number 256, which is no operand
abbrev pub IsNext : (n : ℕ) → Constant → Maker → Type 0
IsNext n c b = (n ≡ 255) ⊎ (slice_get b.constants (suc n) ≡ Some c)

next_on : (n : ℕ) (c : Constant) (a b : Maker) → Kept a.constants b.constants → IsNext n c a → IsNext n c b
next_on n c a b kept (inl corner) = inl corner
next_on n c a b kept (inr there) = inr (kept (suc n) c there)

-- The first of two makers has so many constants, and the second that one more; or both have taken it, with this number; or the first one took another with that number.
pub data Runs (k : Constant) (n : ℕ) : Maker → Maker → Type 0 where
  not_taken : {a : Maker} → length a.constants ≡ n → list_any (same_constant k) a.constants ≡ false → Runs k n a (plus k a)
  taken_by_both : {a : Maker} → slice_get a.constants n ≡ Some k → Runs k n a a
  taken_another : {a b : Maker} (c : Constant) → slice_get a.constants n ≡ Some c → same_constant k c ≡ false → IsNext n c b → Runs k n a b

-- of what is asked for
pub data Gots {A : Type 0} (k : Constant) (n : ℕ) (x y : Got A) : Type 0 where
  alike : y.value ≡ x.value → Runs k n x.after y.after → Gots k n x y
  apart : (c : Constant) → slice_get x.after.constants n ≡ Some c → same_constant k c ≡ false → IsNext n c y.after → Gots k n x y

module _ (k : Constant) (n : ℕ) where
  -- a part keeps constants, and two runs of it go on as they were
  pub record Framed (part : Part) : Type 0 where
    pub kept : (a : Maker) → Kept a.constants (part a).constants
    pub runs : (a b : Maker) → Runs k n a b → Runs k n (part a) (part b)

  pub record FramedAsk {A : Type 0} (ask : Asks A) : Type 0 where
    pub kept : (a : Maker) → Kept a.constants (ask a).after.constants
    pub gots : (a b : Maker) → Runs k n a b → Gots k n (ask a) (ask b)

module _ {k : Constant} {n : ℕ} where
  -- ---- parts that take no constants

  pub plain_framed : (part : Part) → ((a : Maker) (constants : List Constant) → part (record a { constants = constants }) ≡ record (part a) { constants = constants }) → ((a : Maker) → (part a).constants ≡ a.constants) → Framed k n part
  plain_framed part apart_from same = record {
    kept = λ a i x there. ap (λ constants. slice_get constants i) (same a) ∙ there;
    runs = plain_runs;
  }
    where
      plain_runs : (a b : Maker) → Runs k n a b → Runs k n (part a) (part b)
      plain_runs a b (not_taken counts none) =
          subst (Runs k n (part a)) (ap (λ constants. record (part a) { constants = constants ++ k ∷ [] }) (same a) ∙ sym (apart_from a (a.constants ++ k ∷ []))) (not_taken (ap length (same a) ∙ counts) (ap (list_any (same_constant k)) (same a) ∙ none))
      plain_runs a b (taken_by_both there) = taken_by_both (ap (λ constants. slice_get constants n) (same a) ∙ there)
      plain_runs a b (taken_another c there other next) = taken_another c (ap (λ constants. slice_get constants n) (same a) ∙ there) other (next_on n c b (part b) (λ i x there. ap (λ constants. slice_get constants i) (same b) ∙ there) next)

  pub nothing_framed : Framed k n (λ m. m)
  nothing_framed = record { kept = λ a i x there. there; runs = λ a b runs. runs }

  pub put_framed : (line : ℕ) (piece : Piece) → Framed k n (put line piece)
  put_framed line piece = plain_framed (put line piece) (λ a constants. refl) (λ a. refl)

  pub take_framed : (count : ℕ) → Framed k n (take_registers count)
  take_framed count = plain_framed (take_registers count) (λ a constants. refl) (λ a. refl)

  pub free_framed : (register : ℕ) → Framed k n (free_from register)
  free_framed register = plain_framed (free_from register) (λ a constants. refl) (λ a. refl)

  -- ---- one behind the other

  pub then_framed : {first second : Part} → Framed k n first → Framed k n second → Framed k n (λ m. second (first m))
  then_framed {first} {second} one other = record {
    kept = λ a i x there. other.kept (first a) i x (one.kept a i x there);
    runs = λ a b runs. other.runs (first a) (first b) (one.runs a b runs);
  }

  pub bind_framed : {A : Type 0} {ask : Asks A} {rest : A → Part} → FramedAsk k n ask → ((value : A) → Framed k n (rest value)) → Framed k n (λ m. rest (ask m).value (ask m).after)
  bind_framed {ask = ask} {rest} one other = record {
    kept = λ a i x there. (other (ask a).value).kept (ask a).after i x (one.kept a i x there);
    runs = λ a b runs. by a b (one.gots a b runs);
  }
    where
      by : (a b : Maker) → Gots k n (ask a) (ask b) → Runs k n (rest (ask a).value (ask a).after) (rest (ask b).value (ask b).after)
      by a b (alike same runs) = subst (λ value. Runs k n (rest (ask a).value (ask a).after) (rest value (ask b).after)) (sym same) ((other (ask a).value).runs (ask a).after (ask b).after runs)
      by a b (apart c there not_it next) = taken_another c ((other (ask a).value).kept (ask a).after n c there) not_it (next_on n c (ask b).after (rest (ask b).value (ask b).after) ((other (ask b).value).kept (ask b).after) next)

  pub ask_framed : {A B : Type 0} {ask : Asks A} {rest : A → Asks B} → FramedAsk k n ask → ((value : A) → FramedAsk k n (rest value)) → FramedAsk k n (λ m. rest (ask m).value (ask m).after)
  ask_framed {ask = ask} {rest} one other = record {
    kept = λ a i x there. (other (ask a).value).kept (ask a).after i x (one.kept a i x there);
    gots = λ a b runs. by a b (one.gots a b runs);
  }
    where
      by : (a b : Maker) → Gots k n (ask a) (ask b) → Gots k n (rest (ask a).value (ask a).after) (rest (ask b).value (ask b).after)
      by a b (alike same runs) = subst (λ value. Gots k n (rest (ask a).value (ask a).after) (rest value (ask b).after)) (sym same) ((other (ask a).value).gots (ask a).after (ask b).after runs)
      by a b (apart c there not_it next) = apart c ((other (ask a).value).kept (ask a).after n c there) not_it (next_on n c (ask b).after (rest (ask b).value (ask b).after).after ((other (ask b).value).kept (ask b).after) next)

  -- what is read off does not know of constants
  pub read_framed : {A : Type 0} (of : Maker → A) → ((a : Maker) → of (plus k a) ≡ of a) → FramedAsk k n (λ m. record { value = of m; after = m })
  read_framed of same = record { kept = λ a i x there. there; gots = by }
    where
      by : (a b : Maker) → Runs k n a b → Gots k n (record { value = of a; after = a }) (record { value = of b; after = b })
      by a b (not_taken counts none) = alike (same a) (not_taken counts none)
      by a b (taken_by_both there) = alike refl (taken_by_both there)
      by a b (taken_another c there other next) = apart c there other next

  -- an answer behind a part
  pub after_framed : {part : Part} → Framed k n part → (value : ℕ) → FramedAsk k n (λ m. record { value = value; after = part m })
  after_framed {part} framed value = record { kept = framed.kept; gots = λ a b runs. alike refl (framed.runs a b runs) }

  pub freeing_framed : {part : Part} → Framed k n part → Framed k n (freeing part)
  freeing_framed {part} framed = bind_framed {rest = λ free m. free_from free (part m)} (read_framed (λ m. m.free) (λ a. refl)) (λ free. then_framed framed (free_framed free))

  pub when_framed : (is : Bool) {part : Part} → Framed k n part → Framed k n (when is part)
  when_framed true framed = framed
  when_framed false framed = nothing_framed

  pub cond_framed : (is : Bool) {one other : Part} → Framed k n one → Framed k n other → Framed k n (cond is one other)
  cond_framed true first second = first
  cond_framed false first second = second

-- ---- constants

or_both : (a b c : Bool) → (a || (b || c)) ≡ ((a || b) || c)
or_both true b c = refl
or_both false b c = refl

any_end : (test : Constant → Bool) (xs : List Constant) (x : Constant) → list_any test (xs ++ x ∷ []) ≡ (list_any test xs || test x)
any_end test [] x = or_none (test x)
  where
    or_none : (a : Bool) → (a || false) ≡ a
    or_none true = refl
    or_none false = refl
any_end test (y ∷ ys) x = ap (λ more. test y || more) (any_end test ys x) ∙ or_both (test y) (list_any test ys) (test x)

among_front : (test : Constant → Bool) (xs : List Constant) (x : Constant) → list_any test xs ≡ true → position_or_len test (xs ++ x ∷ []) ≡ position_or_len test xs
among_front test [] x is = cc
among_front test (y ∷ ys) x is = by (test y) is (among_front test ys x)
  where
    by : (b : Bool) → (b || list_any test ys) ≡ true → (list_any test ys ≡ true → position_or_len test (ys ++ x ∷ []) ≡ position_or_len test ys) → cond (not b) (1 + position_or_len test (ys ++ x ∷ [])) 0 ≡ cond (not b) (1 + position_or_len test ys) 0
    by true is rest = refl
    by false is rest = ap (λ n. 1 + n) (rest is)

-- behind all that are no such, one is where they end
among_none : (test : Constant → Bool) (xs more : List Constant) → list_any test xs ≡ false → position_or_len test (xs ++ more) ≡ length xs + position_or_len test more
among_none test [] more is = omega arith
among_none test (y ∷ ys) more is = by (test y) is (among_none test ys more)
  where
    by : (b : Bool) → (b || list_any test ys) ≡ false → (list_any test ys ≡ false → position_or_len test (ys ++ more) ≡ length ys + position_or_len test more) → cond (not b) (1 + position_or_len test (ys ++ more)) 0 ≡ length (y ∷ ys) + position_or_len test more
    by true is rest = cc
    by false is rest = let rest = rest is in omega (arith, rest)

one_there : (test : Constant → Bool) (x : Constant) → test x ≡ true → position_or_len test (x ∷ []) ≡ 0
one_there test x is = ap (λ b. cond (not b) (1 + 0) 0) is

other_there : (test : Constant → Bool) (x : Constant) → test x ≡ false → position_or_len test (x ∷ []) ≡ 1
other_there test x is = ap (λ b. cond (not b) (1 + 0) 0) is

module _ (k other : Constant) (xs : List Constant) where
  -- the numbers of a constant before and behind the one that is taken
  number_kept : list_any (same_constant other) xs ≡ true → constant_number other (xs ++ k ∷ []) ≡ constant_number other xs
  number_kept is = among_front (same_constant other) xs k is

  pub number_ends : list_any (same_constant other) xs ≡ false → constant_number other xs ≡ length xs
  number_ends is = let none = among_none (same_constant other) xs [] is in sym (ap (position_or_len (same_constant other)) (append-nil xs)) ∙ none ∙ end
    where
      end : length xs + 0 ≡ length xs
      end = omega arith

  number_of_it : list_any (same_constant other) xs ≡ false → same_constant other k ≡ true → constant_number other (xs ++ k ∷ []) ≡ length xs
  number_of_it is same = let none = among_none (same_constant other) xs (k ∷ []) is in let zero = one_there (same_constant other) k same in omega (arith, none, zero)

  number_behind : list_any (same_constant other) xs ≡ false → same_constant other k ≡ false → constant_number other (xs ++ k ∷ []) ≡ suc (length xs)
  number_behind is same = let none = among_none (same_constant other) xs (k ∷ []) is in let one = other_there (same_constant other) k same in omega (arith, none, one)

  taken_kept : list_any (same_constant other) xs ≡ true → with_constant other (xs ++ k ∷ []) ≡ with_constant other xs ++ k ∷ []
  taken_kept is =
      ap (λ among. if among then xs ++ k ∷ [] else (xs ++ k ∷ []) ++ other ∷ []) (any_end (same_constant other) xs k ∙ ap (λ among. among || same_constant other k) is)
      ∙ ap (λ (xs : List Constant). xs ++ k ∷ []) (sym (ap (λ among. if among then xs else xs ++ other ∷ []) is))

  pub taken_there : list_any (same_constant other) xs ≡ true → with_constant other xs ≡ xs
  taken_there is = ap (λ among. if among then xs else xs ++ other ∷ []) is

  pub taken_behind_none : list_any (same_constant other) xs ≡ false → with_constant other xs ≡ xs ++ other ∷ []
  taken_behind_none is = ap (λ among. if among then xs else xs ++ other ∷ []) is

  taken_it : list_any (same_constant other) xs ≡ false → same_constant other k ≡ true → with_constant other (xs ++ k ∷ []) ≡ xs ++ k ∷ []
  taken_it is same = ap (λ among. if among then xs ++ k ∷ [] else (xs ++ k ∷ []) ++ other ∷ []) (any_end (same_constant other) xs k ∙ ap (λ among. among || same_constant other k) is ∙ same)

-- how one constant stands to another and to those before
data Stands (k other : Constant) (xs : List Constant) : Type 0 where
  there_before : list_any (same_constant other) xs ≡ true → Stands k other xs
  is_it : list_any (same_constant other) xs ≡ false → other ≡ k → Stands k other xs
  is_new : list_any (same_constant other) xs ≡ false → same_constant other k ≡ false → same_constant k other ≡ false → Stands k other xs

same_back : (k other : Constant) → same_constant other k ≡ false → same_constant k other ≡ false
same_back k other is = by (same_constant k other) refl
  where
    by : (b : Bool) → same_constant k other ≡ b → same_constant k other ≡ false
    by true same = let one = (same_constant-Decides k other).0 same in absurd (true≢false (sym ((same_constant-Decides other k).1 (sym one)) ∙ is))
    by false same = same

stands : (k other : Constant) (xs : List Constant) → Stands k other xs
stands k other xs = by (list_any (same_constant other) xs) (same_constant other k) refl refl
  where
    by : (among same : Bool) → list_any (same_constant other) xs ≡ among → same_constant other k ≡ same → Stands k other xs
    by true same is is_same = there_before is
    by false true is is_same = is_it is ((same_constant-Decides other k).0 is_same)
    by false false is is_same = is_new is is_same (same_back k other is_same)

constant_kept : (other : Constant) (a : Maker) → Kept a.constants (with_constant other a.constants)
constant_kept other a = with_kept (list_any (same_constant other) a.constants) other a.constants

module _ (k : Constant) {n : ℕ} where
  next_there : (other : Constant) (a : Maker) → length a.constants ≡ n → list_any (same_constant k) a.constants ≡ false → list_any (same_constant other) a.constants ≡ false → same_constant other k ≡ false → slice_get (with_constant other (plus k a).constants) (suc n) ≡ Some other
  next_there other a counts none is unlike =
      let size : length (a.constants ++ k ∷ []) ≡ suc n = length_end a.constants k ∙ ap suc counts in
      ap (λ among. slice_get (if among then a.constants ++ k ∷ [] else (a.constants ++ k ∷ []) ++ other ∷ []) (suc n)) (any_end (same_constant other) a.constants k ∙ ap (λ among. among || same_constant other k) is ∙ unlike)
      ∙ subst (λ i. slice_get ((a.constants ++ k ∷ []) ++ other ∷ []) i ≡ Some other) size (at_end (a.constants ++ k ∷ []) other)

  small_next : (other : Constant) (large : Asks ℕ) (a : Maker) → length a.constants ≡ n → list_any (same_constant k) a.constants ≡ false → list_any (same_constant other) a.constants ≡ false → same_constant other k ≡ false → is_small other a ≡ true →
      (small : Bool) → is_small other (plus k a) ≡ small → IsNext n other (cond small (small_constant other) large (plus k a)).after
  small_next other large a counts none is unlike small true next = inr (next_there other a counts none is unlike)
  small_next other large a counts none is unlike small false next =
      let first = number_ends k other a.constants is in
      let behind = number_behind k other a.constants is unlike in
      inl (corner (constant_number other a.constants) (constant_number other (a.constants ++ k ∷ [])) (omega (arith, first, behind)) (omega (arith, first, counts)) small next)
    where
      corner : (one other : ℕ) → other ≡ suc one → one ≡ n → nat_le one 255 ≡ true → nat_le other 255 ≡ false → n ≡ 255
      corner one other up is small large = grind (arith, nat_tests)

module _ {k : Constant} {n : ℕ} where
  -- a constant is taken where one more is there: by its number, which is the same, or it is another with that number
  constant_by : (other : Constant) (a : Maker) → length a.constants ≡ n → list_any (same_constant k) a.constants ≡ false → Stands k other a.constants → Gots k n (constant other a) (constant other (plus k a))
  constant_by other a counts none (there_before is) =
      alike (number_kept k other a.constants is)
      (subst₂ (λ (xs ys : List Constant). Runs k n (record a { constants = xs }) (record a { constants = ys })) (sym (taken_there k other a.constants is)) (sym (taken_kept k other a.constants is ∙ ap (λ (xs : List Constant). xs ++ k ∷ []) (taken_there k other a.constants is))) (not_taken counts none))
  constant_by other a counts none (is_it is same) =
      let there : slice_get (a.constants ++ k ∷ []) n ≡ Some k = subst (λ i. slice_get (a.constants ++ k ∷ []) i ≡ Some k) counts (at_end a.constants k) in
      alike (number_of_it k other a.constants is ((same_constant-Decides other k).1 same) ∙ sym (number_ends k other a.constants is))
      (subst₂ (λ (xs ys : List Constant). Runs k n (record a { constants = xs }) (record a { constants = ys })) (sym (taken_behind_none k other a.constants is ∙ ap (λ other. a.constants ++ other ∷ []) same)) (sym (taken_it k other a.constants is ((same_constant-Decides other k).1 same))) (taken_by_both there))
  constant_by other a counts none (is_new is unlike back) =
      apart other (ap (λ (xs : List Constant). slice_get xs n) (taken_behind_none k other a.constants is) ∙ subst (λ i. slice_get (a.constants ++ other ∷ []) i ≡ Some other) counts (at_end a.constants other)) back (inr (next_there k other a counts none is unlike))

  pub constant_framed : (other : Constant) → FramedAsk k n (constant other)
  constant_framed other = record { kept = constant_kept other; gots = by }
    where
      by : (a b : Maker) → Runs k n a b → Gots k n (constant other a) (constant other b)
      by a b (not_taken counts none) = constant_by other a counts none (stands k other a.constants)
      by a b (taken_by_both there) = alike refl (taken_by_both (constant_kept other a n k there))
      by a b (taken_another c there unlike next) = apart c (constant_kept other a n c there) unlike (next_on n c b (constant other b).after (constant_kept other b) next)

  -- a constant is an operand, or goes to a register
  small_kept : (other : Constant) (large : Asks ℕ) (is : Bool) → FramedAsk k n large → (a : Maker) → Kept a.constants (cond is (small_constant other) large a).after.constants
  small_kept other large true framed a = constant_kept other a
  small_kept other large false framed a = framed.kept a

  small_gots : (other : Constant) (large : Asks ℕ) (is : Bool) → FramedAsk k n large → (a b : Maker) → Runs k n a b → Gots k n (cond is (small_constant other) large a) (cond is (small_constant other) large b)
  small_gots other large true framed a b runs = (bind_number (constant_framed other)).gots a b runs
    where
      bind_number : FramedAsk k n (constant other) → FramedAsk k n (small_constant other)
      bind_number framed = ask_framed {rest = λ number m. record { value = number + 256; after = m }} framed (λ number. after_framed nothing_framed (number + 256))
  small_gots other large false framed a b runs = framed.gots a b runs

  small_by : (other : Constant) (large : Asks ℕ) → FramedAsk k n large → (a : Maker) → length a.constants ≡ n → list_any (same_constant k) a.constants ≡ false → Stands k other a.constants → Gots k n (cond (is_small other a) (small_constant other) large a) (cond (is_small other (plus k a)) (small_constant other) large (plus k a))
  small_by other large framed a counts none (there_before is) =
      subst (λ small. Gots k n (cond (is_small other a) (small_constant other) large a) (cond small (small_constant other) large (plus k a))) (ap (λ number. nat_le number 255) (sym (number_kept k other a.constants is))) (small_gots other large (is_small other a) framed a (plus k a) (not_taken counts none))
  small_by other large framed a counts none (is_it is same) =
      subst (λ small. Gots k n (cond (is_small other a) (small_constant other) large a) (cond small (small_constant other) large (plus k a)))
      (ap (λ number. nat_le number 255) (number_ends k other a.constants is ∙ sym (number_of_it k other a.constants is ((same_constant-Decides other k).1 same)))) (small_gots other large (is_small other a) framed a (plus k a) (not_taken counts none))
  small_by other large framed a counts none (is_new is unlike back) = by (is_small other a) refl
    where
      by : (small : Bool) → is_small other a ≡ small → Gots k n (cond small (small_constant other) large a) (cond (is_small other (plus k a)) (small_constant other) large (plus k a))
      by true small = apart other (ap (λ (xs : List Constant). slice_get xs n) (taken_behind_none k other a.constants is) ∙ subst (λ i. slice_get (a.constants ++ other ∷ []) i ≡ Some other) counts (at_end a.constants other)) back (small_next k other large a counts none is unlike small (is_small other (plus k a)) refl)
      by false small =
          let first = number_ends k other a.constants is in
          let next = number_behind k other a.constants is unlike in
          let large_too : is_small other (plus k a) ≡ false = above (constant_number other a.constants) (constant_number other (a.constants ++ k ∷ [])) (omega (arith, first, next)) small in
          subst (λ small. Gots k n (large a) (cond small (small_constant other) large (plus k a))) (sym large_too) (framed.gots a (plus k a) (not_taken counts none))
        where
          above : (one other : ℕ) → one ≤ other → nat_le one 255 ≡ false → nat_le other 255 ≡ false
          above one other up is = grind (arith, nat_tests)

  pub small_framed : (other : Constant) (large : Asks ℕ) → FramedAsk k n large → FramedAsk k n (λ m. cond (is_small other m) (small_constant other) large m)
  small_framed other large framed = record { kept = λ a. small_kept other large (is_small other a) framed a; gots = by }
    where
      by : (a b : Maker) → Runs k n a b → Gots k n (cond (is_small other a) (small_constant other) large a) (cond (is_small other b) (small_constant other) large b)
      by a b (not_taken counts none) = small_by other large framed a counts none (stands k other a.constants)
      by a b (taken_by_both there) = small_gots other large (is_small other a) framed a a (taken_by_both there)
      by a b (taken_another c there unlike next) = apart c (small_kept other large (is_small other a) framed a n c there) unlike (next_on n c b (cond (is_small other b) (small_constant other) large b).after (small_kept other large (is_small other b) framed b) next)

-- what two runs have come to
pub data Outcome (k : Constant) (n : ℕ) (a b : Maker) : Type 0 where
  untouched : b ≡ plus k a → length a.constants ≡ n → list_any (same_constant k) a.constants ≡ false → Outcome k n a b
  both_took : b ≡ a → slice_get a.constants n ≡ Some k → Outcome k n a b
  another_first : (c : Constant) → slice_get a.constants n ≡ Some c → same_constant k c ≡ false → IsNext n c b → Outcome k n a b

outcome_of : {k : Constant} {n : ℕ} {a b : Maker} → Runs k n a b → Outcome k n a b
outcome_of (not_taken counts none) = untouched refl counts none
outcome_of (taken_by_both there) = both_took refl there
outcome_of (taken_another c there unlike next) = another_first c there unlike next

-- the same value, where no other constant is taken first
pub data GotOutcome {A : Type 0} (k : Constant) (n : ℕ) (x y : Got A) : Type 0 where
  same_value : y.value ≡ x.value → Outcome k n x.after y.after → GotOutcome k n x y
  other_value : (c : Constant) → slice_get x.after.constants n ≡ Some c → same_constant k c ≡ false → IsNext n c y.after → GotOutcome k n x y

pub got_outcome : {A : Type 0} {k : Constant} {n : ℕ} {x y : Got A} → Gots k n x y → GotOutcome k n x y
got_outcome (alike same runs) = same_value same (outcome_of runs)
got_outcome (apart c there unlike next) = other_value c there unlike next
