-- A text begins with one long bracket at most, and with one longest run.
use Rattle.std.proofs.Common.{◌≡◌, ◌||◌, ℕ, zero, suc, ◌+◌, ◌≤◌, Bool, true, false, List, [], ◌∷◌, ◌++◌, length, replicate, refl, sym, ap, subst, ◌∙◌, append_assoc, length-append, arith}
use Rattle.std.proofs.lemmas.Bool.Decides.{nat_tests}
use Rattle.lua_num.specs.Bytes.{Each, BeginsWithout}
use Rattle.lua_tree.specs.Bytes.{has_front, holds}
use Rattle.lua_tree.specs.Brackets.{opening, closing, almost_closing, IsLong}
use Rattle.lua_tree.proofs.Cuts.{SameFronts}

pub true_false : true ≡ false → ⊥
true_false e = cc

-- the longest run is one
pub one_run : (test : ℕ → Bool) (a r b s : List ℕ) → Each test a → Each test b → BeginsWithout test r → BeginsWithout test s → a ++ r ≡ b ++ s → SameFronts a b r s
one_run test [] r [] s x y n m e = record { fronts = refl; rests = e }
one_run test [] r (q ∷ b) s x y n m e = absurd (let stop : test q ≡ false = subst (BeginsWithout test) e n in true_false (sym y.0 ∙ stop))
one_run test (p ∷ a) r [] s x y n m e = absurd (let stop : test p ≡ false = subst (BeginsWithout test) (sym e) m in true_false (sym x.0 ∙ stop))
one_run test (p ∷ a) r (q ∷ b) s x y n m e =
    let tails : a ++ r ≡ b ++ s = cc in
    let heads : p ≡ q = cc in
    let same : SameFronts a b r s = one_run test a r b s x.1 y.1 n m tails in
    let rest : a ≡ b = same.fronts in
    record { fronts = cc; rests = same.rests }

-- a front is found
front_is_there : (word rest : List ℕ) → has_front word (word ++ rest) ≡ true
front_is_there [] rest = refl
front_is_there (byte ∷ word) rest = let h : has_front word (word ++ rest) ≡ true = front_is_there word rest in grind (arith, nat_tests)

or_right : (a b : Bool) → b ≡ true → (a || b) ≡ true
or_right true b h = refl
or_right false b h = h

pub word_is_there : (front word rest : List ℕ) → holds word (front ++ (word ++ rest)) ≡ true
word_is_there [] [] [] = refl
word_is_there [] [] (byte ∷ rest) = refl
word_is_there [] (byte ∷ word) rest = let h : has_front (byte ∷ word) (byte ∷ (word ++ rest)) ≡ true = front_is_there (byte ∷ word) rest in rw h
word_is_there (byte ∷ front) word rest = let h : holds word (front ++ (word ++ rest)) ≡ true = word_is_there front word rest in or_right (has_front word (byte ∷ (front ++ (word ++ rest)))) (holds word (front ++ (word ++ rest))) h

one_tail : (byte : ℕ) (r s : List ℕ) → byte ∷ r ≡ byte ∷ s → r ≡ s
one_tail byte r s e = cc

-- the opening says its level
pub record SameOpening (a b : ℕ) (r s : List ℕ) : Type 0 where
  pub levels : a ≡ b
  pub rests : r ≡ s

same_levels : (x y a b : ℕ) (r s : List ℕ) → (x ≡ y → ⊥) → replicate a x ++ (y ∷ r) ≡ replicate b x ++ (y ∷ s) → SameOpening a b r s
same_levels x y zero zero r s n e = record { levels = refl; rests = cc }
same_levels x y zero (suc b) r s n e = absurd (n (let heads : y ≡ x = cc in sym heads))
same_levels x y (suc a) zero r s n e = absurd (n (let heads : x ≡ y = cc in heads))
same_levels x y (suc a) (suc b) r s n e =
    let tails : replicate a x ++ (y ∷ r) ≡ replicate b x ++ (y ∷ s) = cc in
    let same : SameOpening a b r s = same_levels x y a b r s n tails in
    record { levels = ap suc same.levels; rests = same.rests }

signs_differ : ◌≡◌ {A = ℕ} 61 91 → ⊥
signs_differ e = omega (arith, e)

opened : (level : ℕ) (rest : List ℕ) → opening level ++ rest ≡ 91 ∷ (replicate level 61 ++ (91 ∷ rest))
opened level rest = ap (λ t. 91 ∷ t) (append_assoc (replicate level 61) (91 ∷ []) rest)

pub same_openings : (a b : ℕ) (r s : List ℕ) → opening a ++ r ≡ opening b ++ s → SameOpening a b r s
same_openings a b r s e = same_levels 61 91 a b r s signs_differ (one_tail 91 _ _ (sym (opened a r) ∙ (e ∙ opened b s)))

-- the first closing is one
pub or_false : (a b : Bool) → (a || b) ≡ false → b ≡ false
or_false true b h = absurd (true_false h)
or_false false b h = h

pub or_left : (a b : Bool) → a ≡ true → (a || b) ≡ false → ⊥
or_left true b h e = true_false e
or_left false b h e = true_false (sym h)

front_within : (word a r s : List ℕ) → word ++ r ≡ a ++ s → length word ≤ length a → has_front word a ≡ true
front_within [] a r s e few = refl
front_within (x ∷ word) [] r s e few = absurd (omega (arith, few))
front_within (x ∷ word) (y ∷ a) r s e few =
    let tails : word ++ r ≡ a ++ s = cc in
    let rest : has_front word a ≡ true = front_within word a r s tails (omega (arith, few)) in
    let heads : x ≡ y = cc in
    grind (arith, nat_tests)

no_earlier : (almost inside after follows : List ℕ) (last byte : ℕ) → (almost ++ (last ∷ [])) ++ after ≡ byte ∷ (inside ++ ((almost ++ (last ∷ [])) ++ follows)) → holds (almost ++ (last ∷ [])) (byte ∷ (inside ++ almost)) ≡ false → ⊥
no_earlier almost inside after follows last byte e none =
    let word : List ℕ = almost ++ (last ∷ []) in
    let whole : word ++ after ≡ (byte ∷ (inside ++ almost)) ++ (last ∷ follows) = e ∙ ap (λ t. byte ∷ t) (ap (λ t. inside ++ t) (append_assoc almost (last ∷ []) follows) ∙ sym (append_assoc inside almost (last ∷ follows))) in
    let sizes : length word ≡ length almost + 1 = length-append almost (last ∷ []) in
    let more : length (inside ++ almost) ≡ length inside + length almost = length-append inside almost in
    let front : has_front word (byte ∷ (inside ++ almost)) ≡ true = front_within word (byte ∷ (inside ++ almost)) after (last ∷ follows) whole (omega (arith, sizes, more)) in
    or_left (has_front word (byte ∷ (inside ++ almost))) (holds word (inside ++ almost)) front none

same_insides : (almost i j r s : List ℕ) (last : ℕ) → holds (almost ++ (last ∷ [])) (i ++ almost) ≡ false → holds (almost ++ (last ∷ [])) (j ++ almost) ≡ false → i ++ ((almost ++ (last ∷ [])) ++ r) ≡ j ++ ((almost ++ (last ∷ [])) ++ s) → i ≡ j
same_insides almost [] [] r s last n m e = refl
same_insides almost [] (y ∷ j) r s last n m e = absurd (no_earlier almost j r s last y e m)
same_insides almost (x ∷ i) [] r s last n m e = absurd (no_earlier almost i s r last x (sym e) n)
same_insides almost (x ∷ i) (y ∷ j) r s last n m e =
    let word : List ℕ = almost ++ (last ∷ []) in
    let tails : i ++ (word ++ r) ≡ j ++ (word ++ s) = cc in
    let rest : i ≡ j = same_insides almost i j r s last (or_false (has_front word (x ∷ (i ++ almost))) (holds word (i ++ almost)) n) (or_false (has_front word (y ∷ (j ++ almost))) (holds word (j ++ almost)) m) tails in
    let heads : x ≡ y = cc in
    cc

pub record SameLong (level other : ℕ) (inside others text texts : List ℕ) : Type 0 where
  pub levels : level ≡ other
  pub insides : inside ≡ others
  pub texts_are : text ≡ texts

long_opened : (level : ℕ) (inside text after : List ℕ) → IsLong level inside text → text ++ after ≡ opening level ++ (inside ++ (closing level ++ after))
long_opened level inside text after x =
    ap (λ t. t ++ after) x.whole ∙ (append_assoc (opening level) (inside ++ closing level) after ∙ ap (λ t. opening level ++ t) (append_assoc inside (closing level) after))

pub longs_are_one : (level other : ℕ) (inside others text texts after follows : List ℕ) → IsLong level inside text → IsLong other others texts → text ++ after ≡ texts ++ follows → SameLong level other inside others text texts
longs_are_one level other inside others text texts after follows x y e =
    let wholes : opening level ++ (inside ++ (closing level ++ after)) ≡ opening other ++ (others ++ (closing other ++ follows)) = sym (long_opened level inside text after x) ∙ (e ∙ long_opened other others texts follows y) in
    let same : SameOpening level other (inside ++ (closing level ++ after)) (others ++ (closing other ++ follows)) = same_openings level other _ _ wholes in
    let first : holds (closing level) (others ++ almost_closing level) ≡ false = subst (λ l. holds (closing l) (others ++ almost_closing l) ≡ false) (sym same.levels) y.first in
    let rests : inside ++ (closing level ++ after) ≡ others ++ (closing level ++ follows) = same.rests ∙ ap (λ l. others ++ (closing l ++ follows)) (sym same.levels) in
    let insides : inside ≡ others = same_insides (almost_closing level) inside others after follows 93 x.first first rests in
    record { levels = same.levels; insides = insides; texts_are = x.whole ∙ (ap (λ i. opening level ++ (i ++ closing level)) insides ∙ (ap (λ l. opening l ++ (others ++ closing l)) same.levels ∙ sym y.whole)) }
