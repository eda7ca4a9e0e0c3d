-- The front of a text, by its length and by its bytes.
use Rattle.std.proofs.Common.{◌≡◌, ◌&&◌, ℕ, ◌+◌, ◌≤◌, Bool, true, false, List, [], ◌∷◌, ◌++◌, length, take, drop, refl, sym, ap, ◌∙◌, ◌==◌, length-append, arith}
use Rattle.std.proofs.Math.Seq.{take-append_seam, drop-append_seam}
use Rattle.std.specs.Prelude.{nat_eq}
use Rattle.std.specs.List.{starts_with}
use Rattle.std.proofs.lemmas.Bool.Decides.{nat_tests}
use Rattle.lua_tree.specs.Bytes.{has_front}
use Rattle.lexer.specs.Fronts.{IsFront}

-- what std's test of a front says
pub front_test : (word text : List ℕ) → starts_with nat_eq text word ≡ has_front word text
front_test [] text = refl
front_test (byte ∷ word) [] = refl
front_test (byte ∷ word) (other ∷ text) = ap (λ b. (byte == other) && b) (front_test word text)

-- a text that begins with a word is the word and what is left
pub front_parts : (word text : List ℕ) → has_front word text ≡ true → text ≡ word ++ drop (length word) text
front_parts [] text h = refl
front_parts (byte ∷ word) [] h = absurd (cc)
front_parts (byte ∷ word) (other ∷ text) h =
    let rest : has_front word text ≡ true = grind (arith, nat_tests) in
    let same : other ≡ byte = grind (arith, nat_tests) in
    let tails : text ≡ word ++ drop (length word) text = front_parts word text rest in
    ap (λ b. b ∷ text) same ∙ ap (λ t. byte ∷ t) tails

-- a front of so many bytes is what is taken of the text, and the rest is what is dropped
pub front_within : (n : ℕ) (text front after : List ℕ) → IsFront n text front after → n ≤ length text
front_within n text front after is =
    let sizes : length text ≡ length front + length after = ap length is.whole ∙ length-append front after in
    let few = is.length_is in
    omega (arith, sizes, few)

pub front_taken : (n : ℕ) (text front after : List ℕ) → IsFront n text front after → take n text ≡ front
front_taken n text front after is = ap (λ m. take m text) (sym is.length_is) ∙ (ap (take (length front)) is.whole ∙ take-append_seam front after)

pub front_dropped : (n : ℕ) (text front after : List ℕ) → IsFront n text front after → drop n text ≡ after
front_dropped n text front after is = ap (λ m. drop m text) (sym is.length_is) ∙ (ap (drop (length front)) is.whole ∙ drop-append_seam front after)

pub and_false : (a : Bool) → (a && false) ≡ false
and_false true = refl
and_false false = refl
