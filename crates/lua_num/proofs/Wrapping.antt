-- What std's wrapping calls leave is the number, wrapped.
use Rattle.std.proofs.Common.{◌≡◌, ℕ, zero, suc, ◌+◌, ◌-◌, ◌*◌, ◌/◌, ◌%◌, ◌^◌, ◌<◌, ◌≤◌, ℤ, pos, negsuc, neg_ℤ, ◌+ℤ◌, ◌-ℤ◌, ◌*ℤ◌, unsigned_abs, int_div, FitsSigned, w64, refl, sym, ap, subst, ◌∙◌, arith, ◌≢◌, mod-lt, div-add-mod', pow_pos, div-le_self}
use Rattle.std.specs.Int.{cast_signed, cast_unsigned, int_wrap, int_wrapping_add, int_wrapping_sub, int_wrapping_mul, int_wrapping_neg, int_wrapping_div}
use Rattle.std.proofs.lemmas.Int.{ints, int_wrap_fits, to_z-of_z, of_z-to_z, wrapping_mul-bits, wrapping_add_is, wrapping_sub_is, wrapping_mul_is, wrapping_neg_is, int_wrap-mul_left, int_wrap-mul_right}
use borrow.Author.Differences.{up, down, same_in, product_is}
use Rattle.lua_num.specs.Arith.{wrap, power, negation}
use Rattle.lua_num.specs.Meets.{IsWrapped}
use Rattle.lua_num.proofs.Wraps.{wrap_is, wrapped}

-- how many times 2 ^ 64 a number lies below its bits
above : (z : ℤ) (n : ℕ) → FitsSigned w64 z → cast_unsigned w64 z ≡ n → (j : ℕ) × (z +ℤ pos (j * 2 ^ 64) ≡ pos n)
above (pos m) n f e = (0, omega (arith, ints))
above (negsuc m) n f e = (1, let small = f.sfits in omega (arith, ints))

-- the same of the number that bits are cast to
read : (n : ℕ) → n < 2 ^ 64 → (j : ℕ) × (cast_signed w64 n +ℤ pos (j * 2 ^ 64) ≡ pos n)
read n h = above (cast_signed w64 n) n (omega (arith, ints)) (of_z-to_z w64 n h)

-- bits that differ from z by a multiple of 2 ^ 64, as a signed number
wrapped_bits : (z : ℤ) (n k m : ℕ) → n < 2 ^ 64 → pos n +ℤ pos (k * 2 ^ 64) ≡ z +ℤ pos (m * 2 ^ 64) → IsWrapped z (cast_signed w64 n)
wrapped_bits z n k m h e =
    let r = read n h in
    let j = r.0 in
    let lower : cast_signed w64 n +ℤ pos (j * 2 ^ 64) ≡ pos n = r.1 in
    record {
      fits = omega (arith, ints);
      turns = pos (k + j) -ℤ pos m;
      same = omega (arith, ints);
    }

-- std's word for what a wrapping call leaves
is_wrapped : (z : ℤ) → IsWrapped z (int_wrap w64 z)
unfolding int_wrap
is_wrapped (pos a) =
    let small = mod-lt a (pow_pos 64) in
    wrapped_bits (pos a) (a % 2 ^ 64) (a / 2 ^ 64) 0 small (omega (arith, ints, div-add-mod' a (2 ^ 64)))
is_wrapped (negsuc a) =
    let small = mod-lt a (pow_pos 64) in
    wrapped_bits (negsuc a) (2 ^ 64 - 1 - a % 2 ^ 64) 0 (a / 2 ^ 64 + 1) (omega arith) (omega (arith, ints, div-add-mod' a (2 ^ 64)))

wrapped_from : (z : ℤ) {r : ℤ} → r ≡ int_wrap w64 z → r ≡ wrap z
wrapped_from z e = e ∙ wrapped (is_wrapped z)

-- ---- the calls

pub sum_wraps : (a b : ℤ) → FitsSigned w64 a → FitsSigned w64 b → int_wrapping_add w64 a b ≡ wrap (a +ℤ b)
sum_wraps a b f g = wrapped_from _ (wrapping_add_is w64 a b f g)

pub difference_wraps : (a b : ℤ) → FitsSigned w64 a → FitsSigned w64 b → int_wrapping_sub w64 a b ≡ wrap (a -ℤ b)
difference_wraps a b f g = wrapped_from _ (wrapping_sub_is w64 a b f g)

pub product_wraps : (a b : ℤ) → FitsSigned w64 a → FitsSigned w64 b → int_wrapping_mul w64 a b ≡ wrap (a *ℤ b)
product_wraps a b f g = wrapped_from _ (wrapping_mul_is w64 a b f g)

-- a result passes through its bits
recast : (z r : ℤ) → r ≡ wrap z → cast_signed w64 (cast_unsigned w64 r) ≡ wrap z
recast z r e = let is : IsWrapped z r = subst (IsWrapped z) (sym e) (wrap_is z) in to_z-of_z w64 r is.fits ∙ e

pub negation_wraps : (a r : ℤ) → FitsSigned w64 a → r ≡ int_wrapping_neg w64 a → cast_signed w64 (cast_unsigned w64 r) ≡ negation a
negation_wraps a r f e =
    let turned : neg_ℤ a ≡ pos 0 -ℤ a = omega (arith, ints) in
    recast (pos 0 -ℤ a) r (wrapped_from (pos 0 -ℤ a) (e ∙ wrapping_neg_is w64 a f ∙ ap (int_wrap w64) turned))

abs_neg : (n : ℕ) → unsigned_abs (neg_ℤ (pos n)) ≡ n
abs_neg zero = refl
abs_neg (suc n) = refl

-- a quotient is no greater than what is divided
quotient_size : (a b : ℤ) → unsigned_abs (int_div a b) ≤ unsigned_abs a
quotient_size (pos a) (pos b) = div-le_self a b
quotient_size (pos a) (negsuc b) = omega (arith, abs_neg (a / suc b), div-le_self a (suc b))
quotient_size (negsuc a) (pos b) = omega (arith, abs_neg (suc a / b), div-le_self (suc a) b)
quotient_size (negsuc a) (negsuc b) = div-le_self (suc a) (suc b)

-- 2 ^ 63 is the one quotient that does not fit
cast_wraps : (z r : ℤ) → unsigned_abs z ≤ 2 ^ 63 → r ≡ cast_signed w64 (cast_unsigned w64 z) → IsWrapped z r
cast_wraps (pos n) r h e = rw e (wrapped_bits (pos n) n 0 0 (omega arith) refl)
cast_wraps (negsuc n) r h e = rw e (wrapped_bits (negsuc n) (2 ^ 64 - suc n) 0 1 (omega arith) (omega (arith, ints)))

pub quotient_wraps : (a b r : ℤ) → FitsSigned w64 a → r ≡ int_wrapping_div w64 a b → cast_signed w64 (cast_unsigned w64 r) ≡ wrap (int_div a b)
quotient_wraps a b r f e = recast (int_div a b) r (wrapped (cast_wraps (int_div a b) r (omega (arith, ints, quotient_size a b)) e))

-- ---- powers

up_product : (a b : ℤ) → up (a *ℤ b) ≡ up a * up b + down a * down b
up_product a b = (product_is a b).0

down_product : (a b : ℤ) → down (a *ℤ b) ≡ up a * down b + down a * up b
down_product a b = (product_is a b).1

assoc : (a b c : ℤ) → (a *ℤ b) *ℤ c ≡ a *ℤ (b *ℤ c)
assoc a b c = same_in _ _ (simp (up_product, down_product) (omega arith))

power-twice : (a : ℤ) (k : ℕ) → power a (k + k) ≡ power (a *ℤ a) k
power-twice a zero = refl
power-twice a (suc k) =
    let count : suc k + suc k ≡ suc (suc (k + k)) = omega arith in
    ap (power a) count ∙ ap (λ p. a *ℤ (a *ℤ p)) (power-twice a k) ∙ sym (assoc a a (power (a *ℤ a) k))

-- what is wrapped in a factor is wrapped in the product
right_wraps : (a b c : ℤ) → int_wrap w64 b ≡ int_wrap w64 c → int_wrap w64 (a *ℤ b) ≡ int_wrap w64 (a *ℤ c)
right_wraps a b c e = sym (int_wrap-mul_right w64 a b) ∙ ap (λ z. int_wrap w64 (a *ℤ z)) e ∙ int_wrap-mul_right w64 a c

power_of_wrapped : (a : ℤ) (k : ℕ) → int_wrap w64 (power (int_wrap w64 a) k) ≡ int_wrap w64 (power a k)
power_of_wrapped a zero = refl
power_of_wrapped a (suc k) =
    int_wrap-mul_left w64 a (power (int_wrap w64 a) k) ∙ right_wraps a (power (int_wrap w64 a) k) (power a k) (power_of_wrapped a k)

-- the power of a number from that of its square, wrapped
halved : (s : ℤ) (k : ℕ) → int_wrap w64 (power (int_wrap w64 (s *ℤ s)) k) ≡ int_wrap w64 (power s (k + k))
halved s k = power_of_wrapped (s *ℤ s) k ∙ ap (int_wrap w64) (sym (power-twice s k))

even_step : (p s : ℤ) (d : ℕ) → d % 2 ≢ 1 → int_wrap w64 (p *ℤ power (int_wrap w64 (s *ℤ s)) (d / 2)) ≡ int_wrap w64 (p *ℤ power s d)
even_step p s d even =
    let k = d / 2 in
    let count : k + k ≡ d = omega arith in
    right_wraps p _ _ (halved s k ∙ ap (λ n. int_wrap w64 (power s n)) count)

odd_step : (p s : ℤ) (d : ℕ) → d % 2 ≡ 1 → int_wrap w64 (int_wrap w64 (p *ℤ s) *ℤ power (int_wrap w64 (s *ℤ s)) (d / 2)) ≡ int_wrap w64 (p *ℤ power s d)
odd_step p s d odd =
    let k = d / 2 in
    let count : suc (k + k) ≡ d = omega arith in
    int_wrap-mul_left w64 (p *ℤ s) _ ∙ right_wraps (p *ℤ s) _ _ (halved s k) ∙ ap (int_wrap w64) (assoc p s (power s (k + k)))
    ∙ ap (λ n. int_wrap w64 (p *ℤ power s n)) count

-- the loop's steps, at the bits of its numbers: an odd digit, an even one, and the end
squared : (b : ℕ) → b < 2 ^ 64 → cast_signed w64 (b * b % 2 ^ 64) ≡ int_wrap w64 (cast_signed w64 b *ℤ cast_signed w64 b)
squared b h = wrapping_mul-bits w64 b b h h

pub odd_bits : (p s d q : ℕ) (goal : ℤ) → p < 2 ^ 64 → s < 2 ^ 64 → cast_signed w64 q ≡ cast_signed w64 (p * s % 2 ^ 64) → d % 2 ≡ 1
    → int_wrap w64 (cast_signed w64 p *ℤ power (cast_signed w64 s) d) ≡ goal
    → int_wrap w64 (cast_signed w64 q *ℤ power (cast_signed w64 (s * s % 2 ^ 64)) (d / 2)) ≡ goal
odd_bits p s d q goal f g e odd h =
    let product = e ∙ wrapping_mul-bits w64 p s f g in
    let square = squared s g in
    (λ i. int_wrap w64 (product i *ℤ power (square i) (d / 2))) ∙ odd_step (cast_signed w64 p) (cast_signed w64 s) d odd ∙ h

pub even_bits : (p s d q : ℕ) (goal : ℤ) → s < 2 ^ 64 → cast_signed w64 q ≡ cast_signed w64 p → d % 2 ≢ 1
    → int_wrap w64 (cast_signed w64 p *ℤ power (cast_signed w64 s) d) ≡ goal
    → int_wrap w64 (cast_signed w64 q *ℤ power (cast_signed w64 (s * s % 2 ^ 64)) (d / 2)) ≡ goal
even_bits p s d q goal g e even h =
    let square = squared s g in
    (λ i. int_wrap w64 (e i *ℤ power (square i) (d / 2))) ∙ even_step (cast_signed w64 p) (cast_signed w64 s) d even ∙ h

times_one : (z : ℤ) → z *ℤ pos 1 ≡ z
times_one z = omega (arith, ints)

pub end_bits : (p s d n : ℕ) (base : ℤ) → FitsSigned w64 base → d ≤ 0
    → int_wrap w64 (cast_signed w64 p *ℤ power (cast_signed w64 s) d) ≡ int_wrap w64 (power (cast_signed w64 (cast_unsigned w64 base)) n)
    → cast_signed w64 p ≡ wrap (power base n)
end_bits p s d n base f none h =
    let product = cast_signed w64 p in
    let zero_left : 0 ≡ d = omega arith in
    let fits : FitsSigned w64 product = omega (arith, ints) in
    wrapped_from _ (sym (int_wrap_fits w64 product fits) ∙ ap (int_wrap w64) (sym (times_one product)) ∙ ap (λ k. int_wrap w64 (product *ℤ power (cast_signed w64 s) k)) zero_left
    ∙ h ∙ ap (λ b. int_wrap w64 (power b n)) (to_z-of_z w64 base f))
