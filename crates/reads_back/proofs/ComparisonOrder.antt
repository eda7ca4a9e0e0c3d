-- In which order the operands of a comparison are written: in theirs, or the other way round, and why that may be: a constant is one of them, or a local.
use Rattle.std.proofs.Common.{◌≡◌, ℕ, ◌+◌, ◌-◌, ◌<◌, ◌≤◌, ◌⊎◌, inl, inr, max, nat_lt, ◌&&◌, ◌||◌, Bool, true, false, not, refl, sym, ap, ap₂, ◌∙◌, arith, le-leb}
use Rattle.std.proofs.lemmas.Bool.Decides.{nat_tests}
use Rattle.std.specs.Prelude.{◌==◌}
use Rattle.std.proofs.lemmas.Bool.{eqb-true}
use Rattle.core_expr.specs.Counting.{taken_behind, taken_behind_operand}
use Rattle.core_expr.specs.Targets.{is_constant_field, swapped_fields}
use Rattle.core_expr.specs.Values.{OperandValue, Value, constant_operand, value_operand}
use Rattle.reads_back.proofs.Taking.{operand_taken_later}
use Rattle.reads_back.proofs.TestedAs.{IsField}
use Rattle.reads_back.proofs.Tests.{first_of_both, not_below}

-- the first operand is a constant that is taken already; or it is a constant, the second one takes none, and the number that is taken next is not the last that a field has
abbrev IsLateFirst : (n : ℕ) → (first second : OperandValue) → Type 0
IsLateFirst n first second = (number : ℕ) × (first ≡ constant_operand number) × ((number < n) ⊎ ((taken_behind_operand second n ≡ n) × (n ≡ 255 → ⊥)))

-- the second operand is the constant whose number is taken next
abbrev IsEarlySecond : (n : ℕ) → (second : OperandValue) → Type 0
IsEarlySecond n second = (number : ℕ) × (second ≡ constant_operand number) × (number ≡ n)

-- both are in registers, and one of these is a local's
abbrev pub HasLocal : (count x y : ℕ) → (first second : OperandValue) → Type 0
HasLocal count x y first second = (v : Value) × (w : Value) × (first ≡ value_operand v) × (second ≡ value_operand w) × ((x < count) ⊎ (y < count))

-- a constant that is taken next has no number above the count
abbrev pub IsNextNumber : (n : ℕ) → OperandValue → Type 0
IsNextNumber n (constant_operand number) = number ≤ n
IsNextNumber n (value_operand v) = Unit {0}

-- why they may be written the other way round
pub data MayTurn (count n x y : ℕ) (first second : OperandValue) : Type 0 where
  late_first : IsLateFirst n first second → MayTurn count n x y first second
  early_second : IsEarlySecond n second → MayTurn count n x y first second
  has_local : HasLocal count x y first second → MayTurn count n x y first second

-- ---- tests

less_than : (a b : ℕ) → nat_lt a b ≡ true → a < b
less_than a b is = grind (arith, nat_tests)

not_less : (a b : ℕ) → nat_lt a b ≡ false → b ≤ a
not_less a b is = grind (arith, nat_tests)

other_number : (a b : ℕ) → (a == b) ≡ false → a ≡ b → ⊥
other_number a b is same = grind (arith, nat_tests)

below_it : (i n : ℕ) → i ≤ n → (i == n) ≡ false → i < n
below_it i n low other = grind (arith, nat_tests)

no_more : (n t : ℕ) → n ≤ t → nat_lt n t ≡ false → t ≡ n
no_more n t up is = let low = not_less n t is in omega (arith, up, low)

-- what was taken before is no more behind
taken_up : (o : OperandValue) (n : ℕ) → n ≤ taken_behind_operand o n
taken_up o n = let none : max 0 n ≡ n = omega arith in let later = sym (ap (taken_behind_operand o) none) ∙ operand_taken_later o 0 n in omega (arith, later)

-- where a constant is not written first, it is taken already, or the other operand takes none and the next number is not the last
late : (i n t : ℕ) → i ≤ n → (not (i == n) || (not (n == 255) && (t == n))) ≡ true → (i < n) ⊎ ((t ≡ n) × (n ≡ 255 → ⊥))
late i n t low is = by (i == n) (n == 255) (t == n) refl refl refl is
  where
    by : (a b c : Bool) → (i == n) ≡ a → (n == 255) ≡ b → (t == n) ≡ c → (not a || (not b && c)) ≡ true → (i < n) ⊎ ((t ≡ n) × (n ≡ 255 → ⊥))
    by false b c is_a is_b is_c is = inl (below_it i n low is_a)
    by true false true is_a is_b is_c is = inr (eqb-true t n is_c, other_number n 255 is_b)
    by true false false is_a is_b is_c is = cc
    by true true c is_a is_b is_c is = cc

late_too : (i n t : ℕ) → i ≤ n → n ≤ t → ((i == n) && ((n == 255) || nat_lt n t)) ≡ false → (i < n) ⊎ ((t ≡ n) × (n ≡ 255 → ⊥))
late_too i n t low up is = by (i == n) (n == 255) (nat_lt n t) refl refl refl is
  where
    by : (a b c : Bool) → (i == n) ≡ a → (n == 255) ≡ b → nat_lt n t ≡ c → (a && (b || c)) ≡ false → (i < n) ⊎ ((t ≡ n) × (n ≡ 255 → ⊥))
    by false b c is_a is_b is_c is = inl (below_it i n low is_a)
    by true false false is_a is_b is_c is = inr (no_more n t up is_c, other_number n 255 is_b)
    by true false true is_a is_b is_c is = cc
    by true true c is_a is_b is_c is = cc

-- where a constant is not written second, it has the number that is taken next
early : (j n : ℕ) (more : Bool) → (not (j == n) || more) ≡ false → j ≡ n
early j n more is = by (j == n) refl is
  where
    by : (a : Bool) → (j == n) ≡ a → (not a || more) ≡ false → j ≡ n
    by true is_a is = eqb-true j n is_a
    by false is_a is = cc

-- so it is where the second of two constants is written first, or the first one is taken already
early_of_both : (i j n : ℕ) → i ≤ n → (nat_lt n i || ((j == n) && nat_lt i n)) ≡ true → j ≡ n
early_of_both i j n low is = by (nat_lt n i) (j == n) refl refl is
  where
    by : (a b : Bool) → nat_lt n i ≡ a → (j == n) ≡ b → (a || (b && nat_lt i n)) ≡ true → j ≡ n
    by true b is_a is_b is = let above = less_than n i is_a in absurd (omega (arith, low, above))
    by false true is_a is_b is = eqb-true j n is_b
    by false false is_a is_b is = cc

late_or_early : (i j n : ℕ) → i ≤ n → (nat_lt n j || ((i == n) && nat_lt j n)) ≡ false → (i < n) ⊎ (j ≡ n)
late_or_early i j n low is = by (nat_lt n j) (i == n) (nat_lt j n) refl refl refl is
  where
    by : (a b c : Bool) → nat_lt n j ≡ a → (i == n) ≡ b → nat_lt j n ≡ c → (a || (b && c)) ≡ false → (i < n) ⊎ (j ≡ n)
    by true b c is_a is_b is_c is = cc
    by false false c is_a is_b is_c is = inl (below_it i n low is_b)
    by false true false is_a is_b is_c is = let most = not_less n j is_a in let least = not_less j n is_c in inr (omega (arith, most, least))
    by false true true is_a is_b is_c is = cc

module _ (count n x y free1 free2 : ℕ) (few : count ≤ 250) where
  -- a constant's field, and a register's
  constant_field : (field number : ℕ) → field ≡ number + 256 → is_constant_field field ≡ true
  constant_field field number is = le-leb 256 field (omega (arith, is))

  pub register_field : {free behind : ℕ} (field : ℕ) (v : Value) → IsField count free field behind (value_operand v) → is_constant_field field ≡ false
  register_field field v (inl at) = let low = at.0 in not_below field 256 (omega (arith, low, few))
  register_field field v (inr at) = let is = at.0 in let low = at.1 in not_below field 256 (omega (arith, is, low))

  pub fields_are : (b c : ℕ) (left right : OperandValue) (one other : Bool) → is_constant_field b ≡ one → is_constant_field c ≡ other → swapped_fields count n b c left right (is_constant_field b) (is_constant_field c) ≡ swapped_fields count n b c left right one other
  fields_are b c left right one other first second = ap (λ is. swapped_fields count n b c left right is (is_constant_field c)) first ∙ ap (swapped_fields count n b c left right one) second

  -- `<` and `<=`
  pub plain_order : (first second : OperandValue) → IsField count count x free1 first → IsField count free1 y free2 second → IsNextNumber n first →
      (swapped_fields count n x y first second (is_constant_field x) (is_constant_field y) ≡ false) ⊎ ((swapped_fields count n x y first second (is_constant_field x) (is_constant_field y) ≡ true) × MayTurn count n x y first second)
  plain_order (constant_operand i) (constant_operand j) at_x at_y next = by (nat_lt n (x - 256) || ((y - 256 == n) && nat_lt (x - 256) n)) refl
    where
      minus_x : x - 256 ≡ i
      minus_x = let is = at_x.0 in omega (arith, is)

      minus_y : y - 256 ≡ j
      minus_y = let is = at_y.0 in omega (arith, is)

      fields : swapped_fields count n x y (constant_operand i) (constant_operand j) (is_constant_field x) (is_constant_field y) ≡ (nat_lt n (x - 256) || ((y - 256 == n) && nat_lt (x - 256) n))
      fields = fields_are x y (constant_operand i) (constant_operand j) true true (constant_field x i at_x.0) (constant_field y j at_y.0)

      by : (is : Bool) → (nat_lt n (x - 256) || ((y - 256 == n) && nat_lt (x - 256) n)) ≡ is →
          (swapped_fields count n x y (constant_operand i) (constant_operand j) (is_constant_field x) (is_constant_field y) ≡ false) ⊎ ((swapped_fields count n x y (constant_operand i) (constant_operand j) (is_constant_field x) (is_constant_field y) ≡ true) × MayTurn count n x y (constant_operand i) (constant_operand j))
      by false is = inl (fields ∙ is)
      by true is = inr (fields ∙ is, early_second (j, refl, early_of_both i j n next (ap₂ (λ i j. nat_lt n i || ((j == n) && nat_lt i n)) (sym minus_x) (sym minus_y) ∙ is)))
  plain_order (constant_operand i) (value_operand w) at_x at_y next = by (not (x - 256 == n) || (not (n == 255) && (taken_behind w n == n))) refl
    where
      minus : x - 256 ≡ i
      minus = let is = at_x.0 in omega (arith, is)

      fields : swapped_fields count n x y (constant_operand i) (value_operand w) (is_constant_field x) (is_constant_field y) ≡ (not (x - 256 == n) || (not (n == 255) && (taken_behind w n == n)))
      fields = fields_are x y (constant_operand i) (value_operand w) true false (constant_field x i at_x.0) (register_field y w at_y)

      by : (is : Bool) → (not (x - 256 == n) || (not (n == 255) && (taken_behind w n == n))) ≡ is →
          (swapped_fields count n x y (constant_operand i) (value_operand w) (is_constant_field x) (is_constant_field y) ≡ false) ⊎ ((swapped_fields count n x y (constant_operand i) (value_operand w) (is_constant_field x) (is_constant_field y) ≡ true) × MayTurn count n x y (constant_operand i) (value_operand w))
      by false is = inl (fields ∙ is)
      by true is = inr (fields ∙ is, late_first (i, refl, late i n (taken_behind w n) next (ap (λ i. not (i == n) || (not (n == 255) && (taken_behind w n == n))) (sym minus) ∙ is)))
  plain_order (value_operand v) (constant_operand j) at_x at_y next = by ((y - 256 == n) && ((n == 255) || nat_lt n (taken_behind v n))) refl
    where
      minus : y - 256 ≡ j
      minus = let is = at_y.0 in omega (arith, is)

      fields : swapped_fields count n x y (value_operand v) (constant_operand j) (is_constant_field x) (is_constant_field y) ≡ ((y - 256 == n) && ((n == 255) || nat_lt n (taken_behind v n)))
      fields = fields_are x y (value_operand v) (constant_operand j) false true (register_field x v at_x) (constant_field y j at_y.0)

      by : (is : Bool) → ((y - 256 == n) && ((n == 255) || nat_lt n (taken_behind v n))) ≡ is →
          (swapped_fields count n x y (value_operand v) (constant_operand j) (is_constant_field x) (is_constant_field y) ≡ false) ⊎ ((swapped_fields count n x y (value_operand v) (constant_operand j) (is_constant_field x) (is_constant_field y) ≡ true) × MayTurn count n x y (value_operand v) (constant_operand j))
      by false is = inl (fields ∙ is)
      by true is = inr (fields ∙ is, early_second (j, refl, sym minus ∙ eqb-true (y - 256) n (first_of_both (y - 256 == n) _ is)))
  plain_order (value_operand v) (value_operand w) at_x at_y next =
      inl (fields_are x y (value_operand v) (value_operand w) false false (register_field x v at_x) (register_field y w at_y) ∙ by at_x)
    where
      by : IsField count count x free1 (value_operand v) → (not (nat_lt x count) && (not (nat_lt y count) && nat_lt y x)) ≡ false
      by (inl at) = let low = at.0 in grind (arith, nat_tests)
      by (inr at) = let is = at.0 in grind (arith, nat_tests)

  -- `>` and `>=`, whose word has the operands the other way round
  pub turned_order : (first second : OperandValue) → IsField count count x free1 first → IsField count free1 y free2 second → IsNextNumber n first →
      (swapped_fields count n y x second first (is_constant_field y) (is_constant_field x) ≡ true) ⊎ ((swapped_fields count n y x second first (is_constant_field y) (is_constant_field x) ≡ false) × MayTurn count n x y first second)
  turned_order (constant_operand i) (constant_operand j) at_x at_y next = by (nat_lt n (y - 256) || ((x - 256 == n) && nat_lt (y - 256) n)) refl
    where
      minus_x : x - 256 ≡ i
      minus_x = let is = at_x.0 in omega (arith, is)

      minus_y : y - 256 ≡ j
      minus_y = let is = at_y.0 in omega (arith, is)

      may : (i < n) ⊎ (j ≡ n) → MayTurn count n x y (constant_operand i) (constant_operand j)
      may (inl low) = late_first (i, refl, inl low)
      may (inr next) = early_second (j, refl, next)

      fields : swapped_fields count n y x (constant_operand j) (constant_operand i) (is_constant_field y) (is_constant_field x) ≡ (nat_lt n (y - 256) || ((x - 256 == n) && nat_lt (y - 256) n))
      fields = fields_are y x (constant_operand j) (constant_operand i) true true (constant_field y j at_y.0) (constant_field x i at_x.0)

      by : (is : Bool) → (nat_lt n (y - 256) || ((x - 256 == n) && nat_lt (y - 256) n)) ≡ is →
          (swapped_fields count n y x (constant_operand j) (constant_operand i) (is_constant_field y) (is_constant_field x) ≡ true) ⊎ ((swapped_fields count n y x (constant_operand j) (constant_operand i) (is_constant_field y) (is_constant_field x) ≡ false) × MayTurn count n x y (constant_operand i) (constant_operand j))
      by true is = inl (fields ∙ is)
      by false is = inr (fields ∙ is, may (late_or_early i j n next (ap₂ (λ i j. nat_lt n j || ((i == n) && nat_lt j n)) (sym minus_x) (sym minus_y) ∙ is)))
  turned_order (constant_operand i) (value_operand w) at_x at_y next = by ((x - 256 == n) && ((n == 255) || nat_lt n (taken_behind w n))) refl
    where
      minus : x - 256 ≡ i
      minus = let is = at_x.0 in omega (arith, is)

      fields : swapped_fields count n y x (value_operand w) (constant_operand i) (is_constant_field y) (is_constant_field x) ≡ ((x - 256 == n) && ((n == 255) || nat_lt n (taken_behind w n)))
      fields = fields_are y x (value_operand w) (constant_operand i) false true (register_field y w at_y) (constant_field x i at_x.0)

      by : (is : Bool) → ((x - 256 == n) && ((n == 255) || nat_lt n (taken_behind w n))) ≡ is →
          (swapped_fields count n y x (value_operand w) (constant_operand i) (is_constant_field y) (is_constant_field x) ≡ true) ⊎ ((swapped_fields count n y x (value_operand w) (constant_operand i) (is_constant_field y) (is_constant_field x) ≡ false) × MayTurn count n x y (constant_operand i) (value_operand w))
      by true is = inl (fields ∙ is)
      by false is = inr (fields ∙ is, late_first (i, refl, late_too i n (taken_behind w n) next (taken_up (value_operand w) n) (ap (λ i. (i == n) && ((n == 255) || nat_lt n (taken_behind w n))) (sym minus) ∙ is)))
  turned_order (value_operand v) (constant_operand j) at_x at_y next = by (not (y - 256 == n) || (not (n == 255) && (taken_behind v n == n))) refl
    where
      minus : y - 256 ≡ j
      minus = let is = at_y.0 in omega (arith, is)

      fields : swapped_fields count n y x (constant_operand j) (value_operand v) (is_constant_field y) (is_constant_field x) ≡ (not (y - 256 == n) || (not (n == 255) && (taken_behind v n == n)))
      fields = fields_are y x (constant_operand j) (value_operand v) true false (constant_field y j at_y.0) (register_field x v at_x)

      by : (is : Bool) → (not (y - 256 == n) || (not (n == 255) && (taken_behind v n == n))) ≡ is →
          (swapped_fields count n y x (constant_operand j) (value_operand v) (is_constant_field y) (is_constant_field x) ≡ true) ⊎ ((swapped_fields count n y x (constant_operand j) (value_operand v) (is_constant_field y) (is_constant_field x) ≡ false) × MayTurn count n x y (value_operand v) (constant_operand j))
      by true is = inl (fields ∙ is)
      by false is = inr (fields ∙ is, early_second (j, refl, sym minus ∙ early (y - 256) n _ is))
  turned_order (value_operand v) (value_operand w) at_x at_y next = by at_x at_y
    where
      fields : swapped_fields count n y x (value_operand w) (value_operand v) (is_constant_field y) (is_constant_field x) ≡ (not (nat_lt y count) && (not (nat_lt x count) && nat_lt x y))
      fields = fields_are y x (value_operand w) (value_operand v) false false (register_field y w at_y) (register_field x v at_x)

      by : IsField count count x free1 (value_operand v) → IsField count free1 y free2 (value_operand w) →
          (swapped_fields count n y x (value_operand w) (value_operand v) (is_constant_field y) (is_constant_field x) ≡ true) ⊎ ((swapped_fields count n y x (value_operand w) (value_operand v) (is_constant_field y) (is_constant_field x) ≡ false) × MayTurn count n x y (value_operand v) (value_operand w))
      by (inl one) two = let low = one.0 in inr (fields ∙ none low, has_local (v, w, refl, refl, inl low))
        where
          none : x < count → (not (nat_lt y count) && (not (nat_lt x count) && nat_lt x y)) ≡ false
          none low = grind (arith, nat_tests)
      by (inr one) (inl two) = let low = two.0 in inr (fields ∙ none low, has_local (v, w, refl, refl, inr low))
        where
          none : y < count → (not (nat_lt y count) && (not (nat_lt x count) && nat_lt x y)) ≡ false
          none low = grind (arith, nat_tests)
      by (inr one) (inr two) =
          let x_is = one.0 in
          let y_is = two.0 in
          let next = one.2 in
          inl (fields ∙ both (omega (arith, x_is)) (omega (arith, y_is, next)))
        where
          both : x ≡ count → y ≡ count + 1 → (not (nat_lt y count) && (not (nat_lt x count) && nat_lt x y)) ≡ true
          both is next = grind (arith, nat_tests)
