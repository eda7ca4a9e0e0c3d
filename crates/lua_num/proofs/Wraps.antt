-- The remainder by 2^64, as a signed number, is the number, wrapped; and the remainder by the floor is one. There is one of each.
use Rattle.std.proofs.Common.{◌≡◌, ◌≢◌, ℕ, zero, suc, ◌+◌, ◌-◌, ◌*◌, ◌/◌, ◌%◌, ◌^◌, ◌<◌, ◌≤◌, nat_lt, Bool, true, false, if◌then◌else◌, ℤ, pos, negsuc, ◌+ℤ◌, ◌-ℤ◌, ◌*ℤ◌, unsigned_abs, FitsSigned, w64, refl, sym, ap, ◌∙◌, inl, inr, arith, mod-lt, div-add-mod', pow_pos, mul-suc}
use Rattle.std.proofs.lemmas.Int.{ints}
use Rattle.std.proofs.lemmas.Bool.Decides.{nat_tests}
use Rattle.std.proofs.lemmas.Int.{unsigned_abs-mul}
use borrow.Author.Differences.{up, down}
use Rattle.lua_num.specs.Arith.{of_remainder, wrap, floor_quotient, floor_remainder}
use Rattle.lua_num.specs.Meets.{IsWrapped, IsFloorRemainder, IsBelow}

-- how many times 2^64 the number of a remainder lies below it
record Read (m : ℕ) (z : ℤ) : Type 0 where
  turns : ℕ
  same : z +ℤ pos (turns * 2 ^ 64) ≡ pos m
  fits : FitsSigned w64 z

read : (m : ℕ) → m < 2 ^ 64 → Read m (of_remainder m)
read m h = by (nat_lt m (2 ^ 63)) refl
  where
    by : (b : Bool) → nat_lt m (2 ^ 63) ≡ b → Read m (if b then pos m else negsuc (2 ^ 64 - 1 - m))
    by true e = let small : m < 2 ^ 63 = grind (arith, nat_tests) in record { turns = 0; same = omega (arith, ints); fits = omega (arith, ints) }
    by false e = let large : 2 ^ 63 ≤ m = grind (arith, nat_tests) in record { turns = 1; same = omega (arith, ints); fits = omega (arith, ints) }

wraps : (z : ℤ) (m k l : ℕ) → m < 2 ^ 64 → pos m +ℤ pos (k * 2 ^ 64) ≡ z +ℤ pos (l * 2 ^ 64) → IsWrapped z (of_remainder m)
wraps z m k l h e =
    let r = read m h in
    let j = r.turns in
    let same : of_remainder m +ℤ pos (j * 2 ^ 64) ≡ pos m = r.same in
    record { fits = r.fits; turns = pos (k + j) -ℤ pos l; same = omega (arith, ints) }

pub wrap_is : (z : ℤ) → IsWrapped z (wrap z)
wrap_is (pos a) = let small = mod-lt a (pow_pos 64) in wraps (pos a) (a % 2 ^ 64) (a / 2 ^ 64) 0 small (omega (arith, ints, div-add-mod' a (2 ^ 64)))
wrap_is (negsuc a) =
    let small = mod-lt a (pow_pos 64) in
    wraps (negsuc a) (2 ^ 64 - 1 - a % 2 ^ 64) 0 (a / 2 ^ 64 + 1) (omega arith) (omega (arith, ints, div-add-mod' a (2 ^ 64)))

-- a number has one that it wraps to
pub wrapped_is_one : (z a b : ℤ) → IsWrapped z a → IsWrapped z b → a ≡ b
wrapped_is_one z a b p q = let e = p.same in let f = q.same in omega (arith, ints)

pub wrapped : {z r : ℤ} → IsWrapped z r → r ≡ wrap z
wrapped {z} {r} h = wrapped_is_one z r (wrap z) h (wrap_is z)

-- ---- the remainder by the floor

some : (b : ℕ) → 0 < suc b
some b = omega arith

below : (a b : ℤ) → b ≢ pos 0 → IsBelow b (floor_remainder a b)
below a (pos zero) n = absurd (n refl)
below (pos a) (pos (suc b)) n = let small = mod-lt a (some b) in inl (omega (arith, ints, div-add-mod' a (suc b)), omega (arith, ints, div-add-mod' a (suc b)))
below (negsuc a) (pos (suc b)) n = let small = mod-lt a (some b) in inl (omega (arith, ints, div-add-mod' a (suc b)), omega (arith, ints, div-add-mod' a (suc b)))
below (pos zero) (negsuc b) n = let small = mod-lt 0 (some b) in inr (omega (arith, ints, div-add-mod' 0 (suc b)), omega (arith, ints, div-add-mod' 0 (suc b)))
below (pos (suc a)) (negsuc b) n = let small = mod-lt a (some b) in inr (omega (arith, ints, div-add-mod' a (suc b)), omega (arith, ints, div-add-mod' a (suc b)))
below (negsuc a) (negsuc b) n = let small = mod-lt (suc a) (some b) in inr (omega (arith, ints, div-add-mod' (suc a) (suc b)), omega (arith, ints, div-add-mod' (suc a) (suc b)))

whole : (a b q : ℤ) → a ≡ b *ℤ q +ℤ (a -ℤ b *ℤ q)
whole a b q = omega (arith, ints)

pub remainder_is : (a b : ℤ) → b ≢ pos 0 → IsFloorRemainder a b (floor_remainder a b)
remainder_is a b n = record { quotient = floor_quotient a b; whole = whole a b (floor_quotient a b); below = below a b n }

-- a multiple that is nearer to 0 than the number is 0
near_multiple : (m k n : ℕ) → n ≡ m * k → n < m → n ≡ 0
near_multiple m zero n e h = omega arith
near_multiple m (suc k) n e h = absurd (omega (arith, mul-suc m k))

apart : (b p q r s : ℤ) → b *ℤ p +ℤ r ≡ b *ℤ q +ℤ s → r -ℤ s ≡ b *ℤ (q -ℤ p)
apart b p q r s e =
    let k = q -ℤ p in
    let parts : up k + (up p + down q) ≡ down k + (down p + up q) = omega (arith, ints) in
    omega (arith, ints, ap (λ n. up b * n) parts, ap (λ n. down b * n) parts)

near : (b r s : ℤ) → IsBelow b r → IsBelow b s → unsigned_abs (r -ℤ s) < unsigned_abs b
near b r s (inl p) (inl q) = omega (arith, ints)
near b r s (inl p) (inr q) = absurd (omega (arith, ints))
near b r s (inr p) (inl q) = absurd (omega (arith, ints))
near b r s (inr p) (inr q) = omega (arith, ints)

pub remainder_is_one : (a b r s : ℤ) → IsFloorRemainder a b r → IsFloorRemainder a b s → r ≡ s
remainder_is_one a b r s p q =
    let turns = q.quotient -ℤ p.quotient in
    let multiple : r -ℤ s ≡ b *ℤ turns = apart b p.quotient q.quotient r s (sym p.whole ∙ q.whole) in
    let size : unsigned_abs (r -ℤ s) ≡ unsigned_abs b * unsigned_abs turns = ap unsigned_abs multiple ∙ unsigned_abs-mul b turns in
    let same : unsigned_abs (r -ℤ s) ≡ 0 = near_multiple (unsigned_abs b) (unsigned_abs turns) (unsigned_abs (r -ℤ s)) size (near b r s p.below q.below) in
    omega (arith, ints)

pub remainder : {a b r : ℤ} → b ≢ pos 0 → IsFloorRemainder a b r → r ≡ floor_remainder a b
remainder {a} {b} {r} n h = remainder_is_one a b r (floor_remainder a b) h (remainder_is a b n)
