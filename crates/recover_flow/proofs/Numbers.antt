-- Numbers that pass a test: the last one, whether there is one, and where those below another end in a list of them.
use Rattle.std.proofs.Common.{◌≡◌, refl, sym, ap, subst, ◌∙◌, ⊎_elim, ℕ, zero, suc, ◌-◌, ◌<◌, ◌≤◌, Bool, true, false, ◌&&◌, ◌||◌, nat_le, nat_lt, List, [], ◌∷◌, ◌++◌, length, get_or, slice_get, None, Some, arith, if◌then◌else◌, append-nil, add-one, ltb-true, ltb-false}
use Rattle.std.proofs.lemmas.Bool.Decides.{leb_tells, nat_tests}
use Rattle.std.proofs.lemmas.List.{get_or_push, get_or_append_left, length_push}
use Rattle.std.proofs.lemmas.List.Sorted.{IsNonDecreasingBy-push}
use Rattle.std.proofs.lemmas.Option.{slice_get-get_or, slice_get_past}
use Rattle.std.specs.List.Sorted.{IsNonDecreasing, IsPartitionPoint}
use Rattle.recover_flow.specs.Asked.{any_between, last_below}
use Rattle.recover_flow.specs.Tabled.{AreAll, IsCut, NoneFrom, is_before, is_from, item_before, places_where}

pub at_true : {X : Type 0} (b : Bool) (x y : X) → b ≡ true → (if b then x else y) ≡ x
at_true b x y e = ap (λ t. if t then x else y) e

pub at_false : {X : Type 0} (b : Bool) (x y : X) → b ≡ false → (if b then x else y) ≡ y
at_false b x y e = ap (λ t. if t then x else y) e

pub by_test : {X : Type 0} (b : Bool) → (b ≡ true → X) → (b ≡ false → X) → X
by_test true passes fails = passes refl
by_test false passes fails = fails refl

neither : (b c : Bool) → (b && false) || c ≡ c
neither true c = refl
neither false c = refl

-- ---- the last one

last_one : (holds : ℕ → Bool) (n : ℕ) → holds n ≡ true → last_below holds (suc n) ≡ Some n
last_one holds n passes = at_true (holds n) (Some n) (last_below holds n) passes

last_more : (holds : ℕ → Bool) (n : ℕ) → holds n ≡ false → last_below holds (suc n) ≡ last_below holds n
last_more holds n fails = at_false (holds n) (Some n) (last_below holds n) fails

pub last_past : (holds : ℕ → Bool) (count n : ℕ) → NoneFrom holds count → count ≤ n → last_below holds n ≡ last_below holds count
last_past holds count zero none past = let same : count ≡ 0 = omega arith in ap (last_below holds) (sym same)
last_past holds count (suc n) none past =
    ⊎_elim
    (λ h. last_more holds n (none n h.1) ∙ last_past holds count n none h.1)
    (λ h. let same : suc n ≡ count = omega (arith, h.1) in ap (last_below holds) same)
    (leb_tells count n)

pub last_none : (holds : ℕ → Bool) (n : ℕ) → NoneFrom holds 0 → last_below holds n ≡ None
last_none holds n none = last_past holds 0 n none (omega arith)

-- ---- whether there is one

between_one : (holds : ℕ → Bool) (from n : ℕ) → from ≤ n → holds n ≡ true → any_between holds from (suc n) ≡ true
between_one holds from n fits passes = rw passes (grind (arith, nat_tests))

pub none_passes : (holds : ℕ → Bool) (from n : ℕ) → holds n ≡ false → any_between holds from (suc n) ≡ any_between holds from n
none_passes holds from n fails = ap (λ b. (nat_le from n && b) || any_between holds from n) fails ∙ neither (nat_le from n) (any_between holds from n)

between_before : (holds : ℕ → Bool) (from n : ℕ) → n < from → any_between holds from (suc n) ≡ any_between holds from n
between_before holds from n before = grind (arith, nat_tests)

pub none_between : (holds : ℕ → Bool) (from to : ℕ) → to ≤ from → any_between holds from to ≡ false
none_between holds from zero before = refl
none_between holds from (suc n) before = between_before holds from n (omega arith) ∙ none_between holds from n (omega arith)

pub between_past : (holds : ℕ → Bool) (from count to : ℕ) → NoneFrom holds count → count ≤ to → any_between holds from to ≡ any_between holds from count
between_past holds from count zero none past = let same : count ≡ 0 = omega arith in ap (any_between holds from) (sym same)
between_past holds from count (suc n) none past =
    ⊎_elim
    (λ h. none_passes holds from n (none n h.1) ∙ between_past holds from count n none h.1)
    (λ h. let same : suc n ≡ count = omega (arith, h.1) in ap (any_between holds from) same)
    (leb_tells count n)

-- the last one is from a number on
pub between_last : (holds : ℕ → Bool) (from count : ℕ) → any_between holds from count ≡ is_from from (last_below holds count)
between_last holds from zero = refl
between_last holds from (suc n) = by_test (holds n)
    (λ passes. ⊎_elim
    (λ h. between_one holds from n h.1 passes ∙ sym h.0 ∙ ap (is_from from) (sym (last_one holds n passes)))
    (λ h. between_before holds from n h.1 ∙ none_between holds from n (omega (arith, h.1)) ∙ sym h.0 ∙ ap (is_from from) (sym (last_one holds n passes)))
    (leb_tells from n))
    (λ fails. none_passes holds from n fails ∙ between_last holds from n ∙ ap (is_from from) (sym (last_more holds n fails)))

-- ---- the list of them

listed_one : (holds : ℕ → Bool) (n : ℕ) → holds n ≡ true → places_where holds (suc n) ≡ places_where holds n ++ n ∷ []
listed_one holds n passes = ap (λ xs. places_where holds n ++ xs) (at_true (holds n) (n ∷ []) [] passes)

listed_more : (holds : ℕ → Bool) (n : ℕ) → holds n ≡ false → places_where holds (suc n) ≡ places_where holds n
listed_more holds n fails = ap (λ xs. places_where holds n ++ xs) (at_false (holds n) (n ∷ []) [] fails) ∙ append-nil (places_where holds n)

-- all are below a number
record AreBelow (xs : List ℕ) (n : ℕ) : Type 0 where
  at : (k d : ℕ) → k < length xs → get_or xs k d < n

pushed_below : (xs : List ℕ) (n : ℕ) → AreBelow xs n → AreBelow (xs ++ n ∷ []) (suc n)
pushed_below xs n below = record {
  at = λ k d fits.
      let count = length_push xs n in
      ⊎_elim
      (λ h. let same : k ≡ length xs = omega (arith, h.1) in omega (arith, get_or_push xs n d k (sym same)))
      (λ h. omega (arith, get_or_append_left xs (n ∷ []) d k h.1, below.at k d h.1))
      (leb_tells (length xs) k);
}

below_more : (xs : List ℕ) (n : ℕ) → AreBelow xs n → AreBelow xs (suc n)
below_more xs n below = record { at = λ k d fits. omega (arith, below.at k d fits) }

listed_below : (holds : ℕ → Bool) (count : ℕ) → AreBelow (places_where holds count) count
listed_below holds zero = record { at = λ k d fits. absurd (omega arith) }
listed_below holds (suc n) = by_test (holds n)
    (λ passes. subst (λ xs. AreBelow xs (suc n)) (sym (listed_one holds n passes)) (pushed_below (places_where holds n) n (listed_below holds n)))
    (λ fails. subst (λ xs. AreBelow xs (suc n)) (sym (listed_more holds n fails)) (below_more (places_where holds n) n (listed_below holds n)))

pub listed_rises : (holds : ℕ → Bool) (count : ℕ) → IsNonDecreasing (places_where holds count)
listed_rises holds zero = λ i j d le fits. absurd (omega arith)
listed_rises holds (suc n) = by_test (holds n)
    (λ passes. subst IsNonDecreasing (sym (listed_one holds n passes)) (IsNonDecreasingBy-push (λ x. x) (places_where holds n) n (listed_rises holds n)
    (λ d some. omega (arith, (listed_below holds n).at (length (places_where holds n) - 1) d (omega arith)))))
    (λ fails. subst IsNonDecreasing (sym (listed_more holds n fails)) (listed_rises holds n))

-- ---- where those below another end

-- one that is not below stands last
cut_before : (xs : List ℕ) (n end i : ℕ) → AreBelow xs n → end ≤ n → IsCut (xs ++ n ∷ []) end i → IsCut xs end i
cut_before xs n end i all past cut =
    let count = length_push xs n in
    let fits : i ≤ length xs = ⊎_elim
    (λ h. h.1)
    (λ h. absurd (omega (arith, h.1, get_or_push xs n 0 (length xs) refl, cut.below (length xs) 0 h.1)))
    (leb_tells i (length xs)) in
    record {
      fits = fits;
      below = λ k d lower. omega (arith, get_or_append_left xs (n ∷ []) d k (omega arith), cut.below k d lower);
      behind = λ k d from inside. omega (arith, get_or_append_left xs (n ∷ []) d k inside, cut.behind k d from (omega arith));
    }

-- all are below
cut_whole : (xs : List ℕ) (n end i : ℕ) → AreBelow xs n → n ≤ end → IsCut xs end i → i ≡ length xs
cut_whole xs n end i all past cut = ⊎_elim
    (λ h. omega (arith, h.1, cut.fits))
    (λ h. absurd (omega (arith, cut.behind i 0 (omega arith) h.1, all.at i 0 h.1)))
    (leb_tells (length xs) i)

pub get_pushed : (xs : List ℕ) (n : ℕ) → slice_get (xs ++ n ∷ []) (length xs) ≡ Some n
get_pushed [] n = refl
get_pushed (x ∷ xs) n = get_pushed xs n

pub get_before : (xs : List ℕ) (n k : ℕ) → k < length xs → slice_get (xs ++ n ∷ []) k ≡ slice_get xs k
get_before [] n k fits = absurd (omega arith)
get_before (x ∷ xs) n zero fits = refl
get_before (x ∷ xs) n (suc k) fits = get_before xs n k (omega arith)

item_before_pushed : (xs : List ℕ) (n i : ℕ) → i ≤ length xs → item_before (xs ++ n ∷ []) i ≡ item_before xs i
item_before_pushed xs n zero fits = refl
item_before_pushed xs n (suc k) fits = get_before xs n k (omega arith)

last_listed : (holds : ℕ → Bool) (count : ℕ) → item_before (places_where holds count) (length (places_where holds count)) ≡ last_below holds count
last_listed holds zero = refl
last_listed holds (suc n) = by_test (holds n)
    (λ passes.
    let xs = places_where holds n in
    ap (λ ys. item_before ys (length ys)) (listed_one holds n passes) ∙ ap (item_before (xs ++ n ∷ [])) (length_push xs n ∙ add-one (length xs)) ∙ get_pushed xs n ∙ sym (last_one holds n passes))
    (λ fails. ap (λ ys. item_before ys (length ys)) (listed_more holds n fails) ∙ last_listed holds n ∙ sym (last_more holds n fails))

last_cut_all : (holds : ℕ → Bool) (count end i : ℕ) → count ≤ end → IsCut (places_where holds count) end i → item_before (places_where holds count) i ≡ last_below holds count
last_cut_all holds count end i past cut =
    ap (item_before (places_where holds count)) (cut_whole (places_where holds count) count end i (listed_below holds count) past cut) ∙ last_listed holds count

last_cut_some : (holds : ℕ → Bool) (count end i : ℕ) → end ≤ count → IsCut (places_where holds count) end i → item_before (places_where holds count) i ≡ last_below holds end
last_cut_some holds zero end i within cut = let same : end ≡ 0 = omega arith in last_cut_all holds zero end i (omega arith) cut ∙ ap (last_below holds) (sym same)
last_cut_some holds (suc n) end i within cut =
    ⊎_elim
    (λ h. let xs = places_where holds n in
    by_test (holds n)
    (λ passes.
    let pushed = subst (λ ys. IsCut ys end i) (listed_one holds n passes) cut in
    let before = cut_before xs n end i (listed_below holds n) h.1 pushed in
    ap (λ ys. item_before ys i) (listed_one holds n passes) ∙ item_before_pushed xs n i before.fits ∙ last_cut_some holds n end i h.1 before)
    (λ fails. ap (λ ys. item_before ys i) (listed_more holds n fails) ∙ last_cut_some holds n end i h.1 (subst (λ ys. IsCut ys end i) (listed_more holds n fails) cut)))
    (λ h. let same : suc n ≡ end = omega (arith, h.1) in last_cut_all holds (suc n) end i (omega (arith, h.1)) cut ∙ ap (last_below holds) same)
    (leb_tells end n)

pub last_cut : (holds : ℕ → Bool) (count end i : ℕ) → NoneFrom holds count → IsCut (places_where holds count) end i → item_before (places_where holds count) i ≡ last_below holds end
last_cut holds count end i none cut =
    ⊎_elim
    (λ h. last_cut_some holds count end i h.1 cut)
    (λ h. last_cut_all holds count end i (omega (arith, h.1)) cut ∙ sym (last_past holds count end none (omega (arith, h.1))))
    (leb_tells end count)

-- ---- whether the first one from a number on is below another

-- one that is not before that is added
before_pushed : (xs : List ℕ) (n to i : ℕ) → to ≤ n → i ≤ length xs → is_before to (slice_get (xs ++ n ∷ []) i) ≡ is_before to (slice_get xs i)
before_pushed xs n to i past fits =
    ⊎_elim
    (λ h. let same : i ≡ length xs = omega (arith, h.1) in
    ap (λ k. is_before to (slice_get (xs ++ n ∷ []) k)) same ∙ ap (is_before to) (get_pushed xs n) ∙ grind (arith, nat_tests) ∙ ap (is_before to) (sym (slice_get_past xs i h.1)))
    (λ h. ap (is_before to) (get_before xs n i h.1))
    (leb_tells (length xs) i)

some_before : (xs : List ℕ) (n to i : ℕ) → AreBelow xs n → n ≤ to → i < length xs → is_before to (slice_get xs i) ≡ true
some_before xs n to i all past fits =
    let lower = all.at i 0 fits in
    ap (is_before to) (slice_get-get_or xs i 0 fits) ∙ grind (arith, nat_tests)

none_before : (xs : List ℕ) (to i : ℕ) → length xs ≤ i → is_before to (slice_get xs i) ≡ false
none_before xs to i past = ap (is_before to) (slice_get_past xs i past)

first_cut_all : (holds : ℕ → Bool) (count from to i : ℕ) → count ≤ to → IsCut (places_where holds count) from i → is_before to (slice_get (places_where holds count) i) ≡ any_between holds from count
first_cut_all holds zero from to i past cut = refl
first_cut_all holds (suc n) from to i past cut =
    let xs = places_where holds n in
    let below = listed_below holds n in
    by_test (holds n)
    (λ passes.
    let pushed = subst (λ ys. IsCut ys from i) (listed_one holds n passes) cut in
    ap (λ ys. is_before to (slice_get ys i)) (listed_one holds n passes)
    ∙ ⊎_elim
    (λ h.
    let before = cut_before xs n from i below h.1 pushed in
    some_before (xs ++ n ∷ []) (suc n) to i (pushed_below xs n below) past (omega (arith, before.fits, length_push xs n)) ∙ sym (between_one holds from n h.1 passes))
    (λ h.
    let whole = cut_whole (xs ++ n ∷ []) (suc n) from i (pushed_below xs n below) (omega (arith, h.1)) pushed in
    none_before (xs ++ n ∷ []) to i (omega (arith, whole)) ∙ sym (none_between holds from (suc n) (omega (arith, h.1))))
    (leb_tells from n))
    (λ fails.
    ap (λ ys. is_before to (slice_get ys i)) (listed_more holds n fails)
    ∙ first_cut_all holds n from to i (omega arith) (subst (λ ys. IsCut ys from i) (listed_more holds n fails) cut) ∙ sym (none_passes holds from n fails))

first_cut_some : (holds : ℕ → Bool) (count from to i : ℕ) → to ≤ count → IsCut (places_where holds count) from i → is_before to (slice_get (places_where holds count) i) ≡ any_between holds from to
first_cut_some holds zero from to i within cut = let same : to ≡ 0 = omega arith in ap (any_between holds from) (sym same)
first_cut_some holds (suc n) from to i within cut =
    let xs = places_where holds n in
    let below = listed_below holds n in
    ⊎_elim
    (λ h. by_test (holds n)
    (λ passes.
    let pushed = subst (λ ys. IsCut ys from i) (listed_one holds n passes) cut in
    ap (λ ys. is_before to (slice_get ys i)) (listed_one holds n passes)
    ∙ ⊎_elim
    (λ g.
    let before = cut_before xs n from i below g.1 pushed in
    before_pushed xs n to i h.1 before.fits ∙ first_cut_some holds n from to i h.1 before)
    (λ g.
    let whole = cut_whole (xs ++ n ∷ []) (suc n) from i (pushed_below xs n below) (omega (arith, g.1)) pushed in
    none_before (xs ++ n ∷ []) to i (omega (arith, whole)) ∙ sym (none_between holds from to (omega (arith, g.1, h.1))))
    (leb_tells from n))
    (λ fails.
    ap (λ ys. is_before to (slice_get ys i)) (listed_more holds n fails)
    ∙ first_cut_some holds n from to i h.1 (subst (λ ys. IsCut ys from i) (listed_more holds n fails) cut)))
    (λ h. let same : suc n ≡ to = omega (arith, h.1) in first_cut_all holds (suc n) from to i (omega (arith, h.1)) cut ∙ ap (any_between holds from) same)
    (leb_tells to n)

pub first_cut : (holds : ℕ → Bool) (count from to i : ℕ) → NoneFrom holds count → IsCut (places_where holds count) from i → is_before to (slice_get (places_where holds count) i) ≡ any_between holds from to
first_cut holds count from to i none cut =
    ⊎_elim
    (λ h. first_cut_some holds count from to i h.1 cut)
    (λ h. first_cut_all holds count from to i (omega (arith, h.1)) cut ∙ sym (between_past holds from count to none (omega (arith, h.1))))
    (leb_tells to count)

-- ---- of a list of all

pub cut_is : (xs : List ℕ) (end i : ℕ) → i ≤ length xs → IsPartitionPoint (λ x. nat_lt x end ≡ true) (λ x. nat_lt x end ≡ false) xs i → IsCut xs end i
cut_is xs end i fits point = record {
  fits = fits;
  below = λ k other lower. ltb-true (get_or xs k other) end (point.0 k other (omega arith) lower);
  behind = λ k other from inside. ltb-false (get_or xs k other) end (point.1 k other from inside);
}

pub last_is : (xs : List ℕ) (holds : ℕ → Bool) (end i : ℕ) → (IsNonDecreasing xs → IsCut xs end i) → AreAll xs holds → item_before xs i ≡ last_below holds end
last_is xs holds end i cut all =
    let rises = subst IsNonDecreasing (sym all.are) (listed_rises holds all.count) in
    ap (λ ys. item_before ys i) all.are ∙ last_cut holds all.count end i all.none (subst (λ ys. IsCut ys end i) all.are (cut rises))

pub any_is : (xs : List ℕ) (holds : ℕ → Bool) (from to i : ℕ) → (IsNonDecreasing xs → IsCut xs from i) → AreAll xs holds → is_before to (slice_get xs i) ≡ any_between holds from to
any_is xs holds from to i cut all =
    let rises = subst IsNonDecreasing (sym all.are) (listed_rises holds all.count) in
    ap (λ ys. is_before to (slice_get ys i)) all.are ∙ first_cut holds all.count from to i all.none (subst (λ ys. IsCut ys from i) all.are (cut rises))
