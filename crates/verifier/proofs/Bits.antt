-- Bits of sets that are made and joined.
use Rattle.std.proofs.Common.{◌∙◌, ◌≡◌, ℕ, zero, suc, ◌+◌, ◌-◌, ◌*◌, ◌^◌, ◌<◌, ◌≤◌, Bool, true, false, cond, ◌&&◌, ◌||◌, not, refl, sym, ap, arith, true≢false, min, max, not-suc-le-zero, le_of_suc-le-suc}
use Rattle.std.specs.Prelude.{◌==◌, ◌/◌, ◌%◌, bit_and, bit_or, nat_lt}
use Rattle.std.specs.Int.{bit_at}
use Rattle.std.proofs.lemmas.Bool.{lt-ltb, ltb-true, ltb-false, eqb-true}
use Rattle.std.proofs.Math.Pow.{pow-lt}
use Rattle.std.proofs.Math.Nat.{pow-suc}
use Rattle.std.proofs.lemmas.Nat.Bits.{bit_at_and, bit_at_or, bit_at-lt, bit_at-zero, bit_at-suc, bit_at_lowest, bit_at_ones, bit_at_ones_above, shr_and_one}
use Rattle.verifier.specs.declared.registers.RegisterSet.{RegisterSet}
use Rattle.verifier.specs.Registers.{bits_at, has}

low_and : (p q : ℕ) → p < 2 → q < 2 → (min p q == 1) ≡ ((p == 1) && (q == 1))
low_and zero zero h k = refl
low_and zero (suc zero) h k = refl
low_and (suc zero) zero h k = refl
low_and (suc zero) (suc zero) h k = refl
low_and (suc (suc p)) q h k = absurd (not-suc-le-zero (le_of_suc-le-suc (le_of_suc-le-suc h)))
low_and p (suc (suc q)) h k = absurd (not-suc-le-zero (le_of_suc-le-suc (le_of_suc-le-suc k)))

low_or : (p q : ℕ) → p < 2 → q < 2 → (max p q == 1) ≡ ((p == 1) || (q == 1))
low_or zero zero h k = refl
low_or zero (suc zero) h k = refl
low_or (suc zero) zero h k = refl
low_or (suc zero) (suc zero) h k = refl
low_or (suc (suc p)) q h k = absurd (not-suc-le-zero (le_of_suc-le-suc (le_of_suc-le-suc h)))
low_or p (suc (suc q)) h k = absurd (not-suc-le-zero (le_of_suc-le-suc (le_of_suc-le-suc k)))

low_not : (p : ℕ) → p < 2 → ((1 - p) == 1) ≡ not (p == 1)
low_not zero h = refl
low_not (suc zero) h = refl
low_not (suc (suc p)) h = absurd (not-suc-le-zero (le_of_suc-le-suc (le_of_suc-le-suc h)))

and_bit : (m n i : ℕ) → (bit_at (bit_and m n) i == 1) ≡ ((bit_at m i == 1) && (bit_at n i == 1))
and_bit m n i = ap (λ b. b == 1) (bit_at_and m n i) ∙ low_and (bit_at m i) (bit_at n i) (bit_at-lt m i) (bit_at-lt n i)

or_bit : (m n i : ℕ) → (bit_at (bit_or m n) i == 1) ≡ ((bit_at m i == 1) || (bit_at n i == 1))
or_bit m n i = ap (λ b. b == 1) (bit_at_or m n i) ∙ low_or (bit_at m i) (bit_at n i) (bit_at-lt m i) (bit_at-lt n i)

-- the other bits of a word of k bits
others_bit : (k n i : ℕ) → n < 2 ^ k → i < k → bit_at (2 ^ k - 1 - n) i ≡ 1 - bit_at n i
others_bit zero n i low there = absurd (not-suc-le-zero there)
others_bit (suc k) n zero low there = bit_at_lowest (2 ^ suc k - 1 - n) ∙ turned (2 ^ k) (2 ^ suc k) (omega (arith, pow-suc 2 k)) low ∙ ap (λ b. 1 - b) (sym (bit_at_lowest n))
  where
    turned : (p q : ℕ) → q ≡ 2 * p → n < q → (q - 1 - n) % 2 ≡ 1 - n % 2
    turned p q e h = omega (arith, e, h)
others_bit (suc k) n (suc i) low there = bit_at-suc (2 ^ suc k - 1 - n) i ∙ ap (λ m. bit_at m i) (halved (2 ^ k) (2 ^ suc k) (omega (arith, pow-suc 2 k)) low) ∙ others_bit k (n / 2) i (half (2 ^ k) (2 ^ suc k) (omega (arith, pow-suc 2 k)) low) (le_of_suc-le-suc there) ∙ ap (λ b. 1 - b) (sym (bit_at-suc n i))
  where
    halved : (p q : ℕ) → q ≡ 2 * p → n < q → (q - 1 - n) / 2 ≡ p - 1 - n / 2
    halved p q e h = omega (arith, e, h)

    half : (p q : ℕ) → q ≡ 2 * p → n < q → n / 2 < p
    half p q e h = omega (arith, e, h)

not_bit : (n i : ℕ) → n < 2 ^ 128 → i < 128 → (bit_at (2 ^ 128 - 1 - n) i == 1) ≡ not (bit_at n i == 1)
not_bit n i low there = ap (λ b. b == 1) (others_bit 128 n i low there) ∙ low_not (bit_at n i) (bit_at-lt n i)

pick : (g : ℕ → ℕ → ℕ) (b : Bool) (x x' y y' z : ℕ) → z ≡ g y y' → cond b (g x x') z ≡ g (cond b x y) (cond b x' y')
pick g true x x' y y' z e = refl
pick g false x x' y y' z e = e

abbrev pub each_word : (ℕ → ℕ → ℕ) → RegisterSet → RegisterSet → RegisterSet
each_word g s t = record { at_0 = g s.at_0 t.at_0; at_128 = g s.at_128 t.at_128; at_256 = g s.at_256 t.at_256; at_384 = g s.at_384 t.at_384 }

bits_at_each : (g : ℕ → ℕ → ℕ) → 0 ≡ g 0 0 → (s t : RegisterSet) (k : ℕ) → bits_at (each_word g s t) k ≡ g (bits_at s k) (bits_at t k)
bits_at_each g e s t k =
    pick g (k == 0) _ _ _ _ _ (pick g (k == 1) _ _ _ _ _ (pick g (k == 2) _ _ _ _ _ (pick g (k == 3) _ _ _ _ _ e)))

pub both_has : (s t : RegisterSet) (r : ℕ) → has (each_word bit_and s t) r ≡ (has s r && has t r)
unfolding has
both_has s t r = ap (λ w. bit_at w (r % 128) == 1) (bits_at_each bit_and refl s t (r / 128)) ∙ and_bit (bits_at s (r / 128)) (bits_at t (r / 128)) (r % 128)

pub either_has : (s t : RegisterSet) (r : ℕ) → has (each_word bit_or s t) r ≡ (has s r || has t r)
unfolding has
either_has s t r = ap (λ w. bit_at w (r % 128) == 1) (bits_at_each bit_or refl s t (r / 128)) ∙ or_bit (bits_at s (r / 128)) (bits_at t (r / 128)) (r % 128)

-- a register of a set, by the word that its bit is in
has_at : (s : RegisterSet) (k i r : ℕ) → i < 128 → r ≡ 128 * k + i → has s r ≡ (bit_at (bits_at s k) i == 1)
unfolding has
has_at s k i r low at = ap (λ x. bit_at (bits_at s x) (r % 128) == 1) quotient ∙ ap (λ x. bit_at (bits_at s k) x == 1) rest
  where
    quotient : r / 128 ≡ k
    quotient = omega (arith, low, at)

    rest : r % 128 ≡ i
    rest = omega (arith, low, at)

bits_past : (s : RegisterSet) (k : ℕ) → 4 ≤ k → bits_at s k ≡ 0
bits_past s k high = step (k == 0) _ _ (other 0 (omega (arith, high))) (step (k == 1) _ _ (other 1 (omega (arith, high))) (step (k == 2) _ _ (other 2 (omega (arith, high))) (step (k == 3) _ _ (other 3 (omega (arith, high))) refl)))
  where
    other : (n : ℕ) → (k ≡ n → ⊥) → (k == n) ≡ false
    other n differ = unequal (k == n) refl
      where
        unequal : (b : Bool) → (k == n) ≡ b → b ≡ false
        unequal true e = absurd (differ (eqb-true k n e))
        unequal false e = refl

    step : (b : Bool) (x y : ℕ) → b ≡ false → y ≡ 0 → cond b x y ≡ 0
    step true x y e rest = absurd (true≢false e)
    step false x y e rest = rest

-- a set whose words hold the registers that meet a test, which are below 512
pub has_by_words : (s : RegisterSet) (q : ℕ → Bool) → ((i : ℕ) → i < 128 → (bit_at s.at_0 i == 1) ≡ q i) → ((i : ℕ) → i < 128 → (bit_at s.at_128 i == 1) ≡ q (128 + i)) → ((i : ℕ) → i < 128 → (bit_at s.at_256 i == 1) ≡ q (256 + i)) → ((i : ℕ) → i < 128 → (bit_at s.at_384 i == 1) ≡ q (384 + i)) → ((r : ℕ) → 512 ≤ r → q r ≡ false) → (r : ℕ) → has s r ≡ q r
has_by_words s q f0 f1 f2 f3 high r = has_at s (r / 128) (r % 128) r (omega arith) (omega arith) ∙ go (r / 128) (r % 128) (omega arith) (omega arith)
  where
    go : (k i : ℕ) → i < 128 → r ≡ 128 * k + i → (bit_at (bits_at s k) i == 1) ≡ q r
    go zero i low at = f0 i low ∙ ap q (omega (arith, at))
    go (suc zero) i low at = f1 i low ∙ ap q (omega (arith, at))
    go (suc (suc zero)) i low at = f2 i low ∙ ap q (omega (arith, at))
    go (suc (suc (suc zero))) i low at = f3 i low ∙ ap q (omega (arith, at))
    go (suc (suc (suc (suc k)))) i low at = ap (λ w. bit_at w i == 1) (bits_past s (suc (suc (suc (suc k)))) (omega arith)) ∙ ap (λ b. b == 1) (bit_at-zero i) ∙ sym (high r (omega (arith, at)))

lt_false : (a b : ℕ) → nat_lt a b ≡ false → b ≤ a
lt_false a b e = ltb-false a b e

not_lt : (a b : ℕ) → b ≤ a → nat_lt a b ≡ false
not_lt a b h = go (nat_lt a b) refl
  where
    go : (x : Bool) → nat_lt a b ≡ x → x ≡ false
    go true e = absurd (omega (arith, h, ltb-true a b e))
    go false e = refl

past : (r : ℕ) (b : Bool) → 512 ≤ r → (nat_lt r 512 && b) ≡ false
past r b high = go (nat_lt r 512) refl
  where
    go : (low : Bool) → nat_lt r 512 ≡ low → (low && b) ≡ false
    go true e = absurd (omega (arith, high, ltb-true r 512 e))
    go false e = refl

there : (r : ℕ) (b : Bool) → r < 512 → (nat_lt r 512 && b) ≡ b
there r b low = ap (λ x. x && b) (lt-ltb r 512 low)

pub others_has : (s : RegisterSet) → s.at_0 < 2 ^ 128 → s.at_128 < 2 ^ 128 → s.at_256 < 2 ^ 128 → s.at_384 < 2 ^ 128 → (r : ℕ) → has (record { at_0 = 2 ^ 128 - 1 - s.at_0; at_128 = 2 ^ 128 - 1 - s.at_128; at_256 = 2 ^ 128 - 1 - s.at_256; at_384 = 2 ^ 128 - 1 - s.at_384 }) r ≡ (nat_lt r 512 && not (has s r))
others_has s l0 l1 l2 l3 =
    has_by_words _ (λ r. nat_lt r 512 && not (has s r)) (λ i low. word 0 0 i s.at_0 (omega arith, omega arith) refl l0 low ∙ ap (λ r. nat_lt r 512 && not (has s r)) (from_zero i)) (λ i low. word 1 128 i s.at_128 (omega arith, omega arith) refl l1 low) (λ i low. word 2 256 i s.at_256 (omega arith, omega arith) refl l2 low) (λ i low. word 3 384 i s.at_384 (omega arith, omega arith) refl l3 low) (λ r high. past r _ high)
  where
    from_zero : (i : ℕ) → 0 + i ≡ i
    from_zero i = omega arith

    word : (k base i w : ℕ) → (base ≡ 128 * k) × (k < 4) → bits_at s k ≡ w → w < 2 ^ 128 → i < 128 → (bit_at (2 ^ 128 - 1 - w) i == 1) ≡ (nat_lt (base + i) 512 && not (has s (base + i)))
    word k base i w which is small low = not_bit w i small low ∙ ap (λ x. not (bit_at x i == 1)) (sym is) ∙ ap not (sym (has_at s k i (base + i) low (omega (arith, which.0)))) ∙ sym (there (base + i) _ (omega (arith, which.0, which.1, low)))

below_word : (base i limit : ℕ) → base ≤ 384 → i < 128 → nat_lt i (limit - base) ≡ (nat_lt (base + i) 512 && nat_lt (base + i) limit)
below_word base i limit which low = same (nat_lt i (limit - base)) refl
  where
    same : (b : Bool) → nat_lt i (limit - base) ≡ b → b ≡ (nat_lt (base + i) 512 && nat_lt (base + i) limit)
    same true e = sym (there (base + i) _ (omega (arith, which, low)) ∙ lt-ltb (base + i) limit (omega (arith, ltb-true i (limit - base) e)))
    same false e = sym (there (base + i) _ (omega (arith, which, low)) ∙ not_lt (base + i) limit (omega (arith, lt_false i (limit - base) e)))

pub below_has : (s : RegisterSet) (limit l1 l2 l3 : ℕ) → l1 ≡ limit - 128 → l2 ≡ limit - 256 → l3 ≡ limit - 384 → ((i : ℕ) → i < 128 → (bit_at s.at_0 i == 1) ≡ nat_lt i limit) → ((i : ℕ) → i < 128 → (bit_at s.at_128 i == 1) ≡ nat_lt i l1) → ((i : ℕ) → i < 128 → (bit_at s.at_256 i == 1) ≡ nat_lt i l2) → ((i : ℕ) → i < 128 → (bit_at s.at_384 i == 1) ≡ nat_lt i l3) → (r : ℕ) → has s r ≡ (nat_lt r 512 && nat_lt r limit)
below_has s limit l1 l2 l3 e1 e2 e3 f0 f1 f2 f3 =
    has_by_words s (λ r. nat_lt r 512 && nat_lt r limit) (λ i low. f0 i low ∙ sym (there i (nat_lt i limit) (omega (arith, low)))) (λ i low. f1 i low ∙ ap (nat_lt i) e1 ∙ below_word 128 i limit (omega arith) low) (λ i low. f2 i low ∙ ap (nat_lt i) e2 ∙ below_word 256 i limit (omega arith) low) (λ i low. f3 i low ∙ ap (nat_lt i) e3 ∙ below_word 384 i limit (omega arith) low) (λ r high. past r _ high)

-- a register that is in a set is below 512
has_low : (s : RegisterSet) (k i r : ℕ) → i < 128 → r ≡ 128 * k + i → (bit_at (bits_at s k) i == 1) ≡ true → r < 512
has_low s zero i r low at e = omega (arith, low, at)
has_low s (suc zero) i r low at e = omega (arith, low, at)
has_low s (suc (suc zero)) i r low at e = omega (arith, low, at)
has_low s (suc (suc (suc zero))) i r low at e = omega (arith, low, at)
has_low s (suc (suc (suc (suc k)))) i r low at e = absurd (true≢false (sym e ∙ ap (λ w. bit_at w i == 1) (bits_past s (suc (suc (suc (suc k)))) (omega arith)) ∙ ap (λ b. b == 1) (bit_at-zero i)))

pub in_set_low : (s : RegisterSet) (r : ℕ) → has s r ≡ true → r < 512
in_set_low s r e = has_low s (r / 128) (r % 128) r (omega arith) (omega arith) (sym (has_at s (r / 128) (r % 128) r (omega arith) (omega arith)) ∙ e)

pub without_has : (s t others both : RegisterSet) → ((r : ℕ) → has others r ≡ (nat_lt r 512 && not (has t r))) → ((r : ℕ) → has both r ≡ (has s r && has others r)) → (r : ℕ) → has both r ≡ (has s r && not (has t r))
without_has s t others both f g r = g r ∙ go (has s r) refl
  where
    go : (b : Bool) → has s r ≡ b → (b && has others r) ≡ (b && not (has t r))
    go false e = refl
    go true e = f r ∙ there r (not (has t r)) (in_set_low s r e)

pub holds_has : (s : RegisterSet) (r n : ℕ) → n ≡ bits_at s (r / 128) → (bit_and (n / 2 ^ (r % 128)) 1 == 1) ≡ has s r
unfolding has
holds_has s r n is = ap (λ b. b == 1) (shr_and_one n (r % 128)) ∙ ap (λ m. bit_at m (r % 128) == 1) is

-- the lowest bits of a word
pub low_has : (count i : ℕ) → i < 128 → count < 128 → (bit_at (1 * 2 ^ count % 2 ^ 128 - 1) i == 1) ≡ nat_lt i count
low_has count i low small = ap (λ x. bit_at (x - 1) i == 1) (fits count small) ∙ go (nat_lt i count) refl
  where
    small_rest : (p : ℕ) → p < 2 ^ 128 → 1 * p % 2 ^ 128 ≡ p
    small_rest p h = omega (arith, h)

    fits : (n : ℕ) → n < 128 → 1 * 2 ^ n % 2 ^ 128 ≡ 2 ^ n
    fits n h = small_rest (2 ^ n) (pow-lt h)

    go : (b : Bool) → nat_lt i count ≡ b → (bit_at (2 ^ count - 1) i == 1) ≡ b
    go true e = ap (λ b. b == 1) (bit_at_ones count i (ltb-true i count e))
    go false e = ap (λ b. b == 1) (bit_at_ones_above count i (lt_false i count e))

pub all_has : (count i : ℕ) → i < 128 → 128 ≤ count → (bit_at (2 ^ 128 - 1) i == 1) ≡ nat_lt i count
all_has count i low large = ap (λ b. b == 1) (bit_at_ones 128 i low) ∙ sym (lt-ltb i count (omega (arith, low, large)))
