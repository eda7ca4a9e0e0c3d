-- Tests on the way down a tree, and what they say of it.
use Rattle.std.proofs.Common.{◌≡◌, refl, sym, ap, subst, ◌∙◌, ℕ, ◌+◌, ◌-◌, max, Bool, true, false, ◌&&◌, nat_le, arith}
use Rattle.std.proofs.lemmas.Bool.Decides.{nat_tests}
use Rattle.well_formed.specs.Within.{below}

pub and_assoc : (a b c : Bool) → (a && (b && c)) ≡ ((a && b) && c)
and_assoc true b c = refl
and_assoc false b c = refl

and_false : (a : Bool) → (a && false) ≡ false
and_false true = refl
and_false false = refl

and_swap : (f a g b : Bool) → ((f && a) && (g && b)) ≡ ((f && g) && (a && b))
and_swap false a g b = refl
and_swap true true g b = refl
and_swap true false g b = sym (and_false g)

-- a test that is whether something is formed and lies at most n levels deep
pub record Tests (test formed : Bool) (depth n : ℕ) : Type 0 where
  pub is : test ≡ (formed && nat_le depth n)

deep_max : (x y n : ℕ) → (nat_le x n && nat_le y n) ≡ nat_le (max x y) n
deep_max x y n = grind (arith, nat_tests)

-- what has no parts
pub alone : (q : Bool) (n : ℕ) → Tests q q 0 n
alone true n = record { is = grind (arith, nat_tests) }
alone false n = record { is = refl }

pub only : (p : Bool) {test formed : Bool} {depth n : ℕ} → Tests test formed depth n → Tests (p && test) (p && formed) depth n
only p {test} {formed} {depth} {n} t = record { is = ap (λ b. p && b) t.is ∙ and_assoc p formed (nat_le depth n) }

pub both : {t u f g : Bool} {x y n : ℕ} → Tests t f x n → Tests u g y n → Tests (t && u) (f && g) (max x y) n
both {t} {u} {f} {g} {x} {y} {n} a b = record {
  is = ap (λ s. s && u) a.is ∙ ap (λ s. (f && nat_le x n) && s) b.is ∙ and_swap f (nat_le x n) g (nat_le y n) ∙ ap (λ s. (f && g) && s) (deep_max x y n);
}

pub and_only : (q : Bool) {test formed : Bool} {depth n : ℕ} → Tests test formed depth n → Tests (test && q) (formed && q) depth n
and_only q {test} {formed} {depth} {n} t = record { is = ap (λ b. b && q) t.is ∙ moved formed (nat_le depth n) q } where
  moved : (f a q : Bool) → ((f && a) && q) ≡ ((f && q) && a)
  moved false a q = refl
  moved true true true = refl
  moved true true false = refl
  moved true false true = refl
  moved true false false = refl

pub deeper : {test formed : Bool} {depth n : ℕ} → Tests test formed depth (n - 1) → Tests (below n test) formed (1 + depth) n
deeper {test} {formed} {depth} {n} t = record { is = ap (below n) t.is ∙ of_formed formed } where
  of_formed : (f : Bool) → below n (f && nat_le depth (n - 1)) ≡ (f && nat_le (1 + depth) n)
  of_formed true = grind (arith, nat_tests)
  of_formed false = grind (arith, nat_tests)

pub shifted : {test formed : Bool} {x y n : ℕ} → x ≡ y → Tests test formed x n → Tests test formed y n
shifted {test} {formed} {x} {y} {n} e t = subst (λ d. Tests test formed d n) e t
