-- Which of the active locals are left.
use Rattle.std.proofs.Common.{◌≡◌, refl, sym, ap, ◌∙◌, ℕ, zero, suc, ◌-◌, Bool, true, false, List, [], ◌∷◌, length, take, arith}
use Rattle.std.proofs.Math.Seq.{take-length}
use Rattle.std.specs.Prelude.{slice_get, option_and_then, if◌then◌else◌}
use Rattle.proto.specs.declared.parts.LocVar.{LocVar}
use Rattle.recover_expr.specs.Locals.{end_of, is_over, left_of}

get_front : (all : List ℕ) (n : ℕ) → slice_get (take (suc n) all) n ≡ slice_get all n
get_front [] n = refl
get_front (x ∷ all) zero = refl
get_front (x ∷ all) (suc n) = get_front all n

take_front : (all : List ℕ) (n : ℕ) → take n (take (suc n) all) ≡ take n all
take_front [] zero = refl
take_front [] (suc n) = refl
take_front (x ∷ all) zero = refl
take_front (x ∷ all) (suc n) = ap (λ xs. x ∷ xs) (take_front all n)

length_front : (xs : List ℕ) (n : ℕ) → length xs ≡ suc n → length (take n xs) ≡ n
length_front [] n is = absurd (omega (arith, is))
length_front (x ∷ xs) zero is = refl
length_front (x ∷ xs) (suc n) is =
    let less : length xs ≡ suc n = omega (arith, is) in
    ap suc (length_front xs n less)

-- the innermost one is over
abbrev ends : List LocVar → (pc : ℕ) → List ℕ → Bool
ends locals pc active = is_over pc (option_and_then (end_of locals) (slice_get active (length active - 1)))

-- so far those that are left are the first of those that were active, and of these as many are left
pub record AreLeft (locals : List LocVar) (pc : ℕ) (all now : List ℕ) : Type 0 where
  pub front : now ≡ take (length now) all
  pub same : left_of locals pc all (length now) ≡ left_of locals pc all (length all)

pub all_left : (locals : List LocVar) (pc : ℕ) (all : List ℕ) → AreLeft locals pc all all
all_left locals pc all = record { front = sym (take-length all); same = refl }

one_of : (locals : List LocVar) (pc : ℕ) (all now next : List ℕ) (n : ℕ) → length now ≡ suc n → AreLeft locals pc all now → ends locals pc now ≡ true → next ≡ take (length now - 1) now → AreLeft locals pc all next
one_of locals pc all now next n e left over is =
    let less : length now - 1 ≡ n = omega (arith, e) in
    let next_is : next ≡ take n now = is ∙ ap (λ k. take k now) less in
    let front : now ≡ take (suc n) all = left.front ∙ ap (λ k. take k all) e in
    let count : length next ≡ n = ap length next_is ∙ length_front now n e in
    let highest : slice_get now (length now - 1) ≡ slice_get all n = ap (slice_get now) less ∙ ap (λ xs. slice_get xs n) front ∙ get_front all n in
    let done : is_over pc (option_and_then (end_of locals) (slice_get all n)) ≡ true = ap (λ x. is_over pc (option_and_then (end_of locals) x)) (sym highest) ∙ over in
    record {
      front = next_is ∙ ap (take n) front ∙ take_front all n ∙ ap (λ k. take k all) (sym count);
      same = ap (left_of locals pc all) count ∙ sym (ap (λ b. if b then left_of locals pc all n else take (suc n) all) done) ∙ ap (left_of locals pc all) (sym e) ∙ left.same;
    }

pub one_less : (locals : List LocVar) (pc : ℕ) (all now next : List ℕ) → AreLeft locals pc all now → ends locals pc now ≡ true → next ≡ take (length now - 1) now → AreLeft locals pc all next
one_less locals pc all [] next left over is = cc
one_less locals pc all (x ∷ now) next left over is = one_of locals pc all (x ∷ now) next (length now) refl left over is

none_at_end : (locals : List LocVar) (pc : ℕ) (all now : List ℕ) (n : ℕ) → length now ≡ suc n → AreLeft locals pc all now → ends locals pc now ≡ false → now ≡ left_of locals pc all (length all)
none_at_end locals pc all now n e left over =
    let less : length now - 1 ≡ n = omega (arith, e) in
    let front : now ≡ take (suc n) all = left.front ∙ ap (λ k. take k all) e in
    let highest : slice_get now (length now - 1) ≡ slice_get all n = ap (slice_get now) less ∙ ap (λ xs. slice_get xs n) front ∙ get_front all n in
    let done : is_over pc (option_and_then (end_of locals) (slice_get all n)) ≡ false = ap (λ x. is_over pc (option_and_then (end_of locals) x)) (sym highest) ∙ over in
    front ∙ sym (ap (λ b. if b then left_of locals pc all n else take (suc n) all) done) ∙ ap (left_of locals pc all) (sym e) ∙ left.same

pub left_at_end : (locals : List LocVar) (pc : ℕ) (all now : List ℕ) → AreLeft locals pc all now → ends locals pc now ≡ false → now ≡ left_of locals pc all (length all)
left_at_end locals pc all [] left over = left.same
left_at_end locals pc all (x ∷ now) left over = none_at_end locals pc all (x ∷ now) (length now) refl left over
