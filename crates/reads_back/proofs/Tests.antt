-- Tests that hold together.
use Rattle.std.proofs.Common.{◌≡◌, ℕ, suc, ◌<◌, nat_lt, nat_le, Bool, true, false, Some, None, sym, refl, arith}
use Rattle.std.proofs.lemmas.Bool.Decides.{nat_tests}
use Rattle.std.proofs.lemmas.Option.{same_Some}
use Rattle.std.specs.Prelude.{◌==◌, ◌||◌, ◌&&◌, if◌then◌else◌}

pub first_of_both : (a b : Bool) → (a && b) ≡ true → a ≡ true
first_of_both true b both = refl
first_of_both false b both = both

pub second_of_both : (a b : Bool) → (a && b) ≡ true → b ≡ true
second_of_both true b both = both
second_of_both false b both = cc

pub not_below : (m n : ℕ) → m < n → nat_le n m ≡ false
not_below m n below = grind (arith, nat_tests)

pub not_more : (n : ℕ) → nat_lt n n ≡ false
not_more n = grind (arith, nat_tests)

pub not_zero : (n : ℕ) → (suc n == 0) ≡ false
not_zero n = grind (arith, nat_tests)

pub zero_not : (n : ℕ) → (0 == suc n) ≡ false
zero_not n = grind (arith, nat_tests)

pub both_hold : (a b : Bool) → a ≡ true → b ≡ true → (a && b) ≡ true
both_hold true b first second = second
both_hold false b first second = cc

pub or_first : (a b : Bool) → a ≡ true → (a || b) ≡ true
or_first true b is = refl
or_first false b is = cc

pub or_second : (a b : Bool) → b ≡ true → (a || b) ≡ true
or_second true b is = refl
or_second false b is = is

-- neither of both holds
pub nor : (one other : Bool) → one ≡ false → other ≡ false → (one || other) ≡ false
nor true other first second = first
nor false other first second = second

pub neither : (one other : Bool) → (one || other) ≡ false → (one ≡ false) × (other ≡ false)
neither true other is = absurd cc
neither false other is = (refl, is)

-- what follows from each of two tests follows where one of them holds
pub of_either : {A : Type 0} (a b : Bool) → (a || b) ≡ true → (a ≡ true → A) → (b ≡ true → A) → A
of_either true b is first second = first refl
of_either false b is first second = second is

-- tests that follow from one another
pub same_truth : (a b : Bool) → (a ≡ true → b ≡ true) → (b ≡ true → a ≡ true) → a ≡ b
same_truth true b one other = sym (one refl)
same_truth false true one other = other refl
same_truth false false one other = refl

pub and_not : (a : Bool) → (a && false) ≡ false
and_not true = refl
and_not false = refl

pub not_so : {A : Type 0} → false ≡ true → A
not_so is = absurd cc

-- what a test lets through
pub given_is : {A : Type 0} (holds : Bool) (given some : A) → (if holds then Some given else None) ≡ Some some → given ≡ some
given_is true given some is = same_Some given some is
given_is false given some is = cc

pub test_holds : {A : Type 0} (holds : Bool) (given some : A) → (if holds then Some given else None) ≡ Some some → holds ≡ true
test_holds true given some is = refl
test_holds false given some is = cc
