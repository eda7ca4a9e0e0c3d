-- The numbers of constants in the finished function: a constant keeps the first that it gets, and one that does not get a small number has none.
use Rattle.std.proofs.Common.{◌≡◌, ◌≤◌, ◌<◌, ℕ, zero, suc, ◌+◌, Bool, true, false, cond, not, List, [], ◌∷◌, length, get_or, refl, sym, ap, ◌∙◌, arith, inl, inr}
use Rattle.std.specs.List.{list_any}
use Rattle.std.specs.Prelude.{Some, slice_get, nat_le}
use Rattle.std.proofs.lemmas.Bool.{leb-false}
use Rattle.std.proofs.lemmas.Bool.Decides.{leb_tells}
use Rattle.std.proofs.lemmas.List.Sums.{prefix_len-le-length, prefix_len_stops}
use Rattle.std.proofs.lemmas.Option.{slice_get-get_or, slice_get_within, same_Some}
use Rattle.proto.specs.Constants.{constant_number, same_constant}
use Rattle.proto.proofs.ConstantPool.{same_constant-Decides}
use Rattle.proto.specs.declared.parts.Constant.{Constant}
use Rattle.scheme.specs.Expressions.{is_small}
use Rattle.scheme.specs.Making.{Maker, constant}
use Rattle.scheme_stands.specs.Expressions.{IsLarge}
use Rattle.scheme_stands.proofs.Growth.{Kept, Final, constant_at, fn_of, with_kept}

one_more_at_most : (passes : Bool) (n i : ℕ) → n ≤ i → cond passes (1 + n) 0 ≤ suc i
one_more_at_most true n i few = omega (arith, few)
one_more_at_most false n i few = omega arith

numbered_up_to : (k : Constant) (constants : List Constant) (i : ℕ) → slice_get constants i ≡ Some k → constant_number k constants ≤ i
numbered_up_to k [] i there = cc
numbered_up_to k (c ∷ constants) zero there =
    let passes : same_constant k c ≡ true = (same_constant-Decides k c).1 (sym (same_Some c k there)) in
    let first = ap (λ passes. cond (not passes) (1 + constant_number k constants) 0) passes in omega (arith, first)
numbered_up_to k (c ∷ constants) (suc i) there = one_more_at_most (not (same_constant k c)) (constant_number k constants) i (numbered_up_to k constants i there)

large_in : (k : Constant) (constants all : List Constant) → Kept constants all → nat_le (constant_number k constants) 255 ≡ false → (number : ℕ) → slice_get all number ≡ Some k → 255 < number
large_in k constants all kept large number there =
    elim (leb_tells number 255) [ inl small ↦ not_small small.1 | inr more ↦ more.1 ]
  where
    past : 255 < constant_number k constants
    past = leb-false (constant_number k constants) 255 large

    not_small : number ≤ 255 → 255 < number
    not_small small =
        let few = prefix_len-le-length (λ c. not (same_constant k c)) constants in
        let within : number < length constants = omega (arith, small, past, few) in
        let known = slice_get-get_or constants number k within in
        let same : get_or constants number k ≡ k = same_Some _ k (sym (kept number _ known) ∙ there) in
        let up_to = numbered_up_to k constants number (known ∙ ap Some same) in omega (arith, up_to, past, small)

-- a constant stands at its number
number_stands : (k : Constant) (constants : List Constant) → constant_number k constants < length constants → slice_get constants (constant_number k constants) ≡ Some k
number_stands k constants within =
    let stops = prefix_len_stops (λ c. not (same_constant k c)) constants k within in
    let same = (same_constant-Decides k _).0 (by_not _ stops) in
    slice_get-get_or constants (constant_number k constants) k within ∙ ap Some (sym same)
  where
    by_not : (b : Bool) → not b ≡ false → b ≡ true
    by_not true is = refl
    by_not false is = cc

-- where it has the number that it gets among the first of them, that is its first number
first_in : (k : Constant) (constants all : List Constant) → Kept constants all → slice_get all (constant_number k constants) ≡ Some k → constant_number k all ≡ constant_number k constants
first_in k constants all kept there =
    elim (leb_tells (constant_number k constants) (constant_number k all)) [ inl more ↦ omega (arith, more.1, up_to) | inr less ↦ absurd (not_less less.1) ]
  where
    up_to : constant_number k all ≤ constant_number k constants
    up_to = numbered_up_to k all (constant_number k constants) there

    not_less : constant_number k all < constant_number k constants → ⊥
    not_less less =
        let few = prefix_len-le-length (λ c. not (same_constant k c)) constants in
        let inside = slice_get_within all (constant_number k constants) k there in
        let known = slice_get-get_or constants (constant_number k all) k (omega (arith, less, few)) in
        let stands = number_stands k all (omega (arith, less, inside)) in
        let same = same_Some _ k (sym (kept (constant_number k all) _ known) ∙ stands) in
        let before = numbered_up_to k constants (constant_number k all) (known ∙ ap Some same) in omega (arith, before, less)

pub constant_first : {j : ℕ} {z : Maker} (k : Constant) (m : Maker) → Final j (constant k m).after z → constant_number k (fn_of z).constants ≡ (constant k m).value
constant_first {z = z} k m f = first_in k m.constants z.constants (λ i x there. f.constants i x (with_kept (list_any (same_constant k) m.constants) k m.constants i x there)) (constant_at k m f)

pub large_at : {j : ℕ} {z : Maker} (k : Constant) (m : Maker) → is_small k m ≡ false → Final j m z → IsLarge (fn_of z) k
large_at {z = z} k m large f = large_in k m.constants z.constants f.constants large
