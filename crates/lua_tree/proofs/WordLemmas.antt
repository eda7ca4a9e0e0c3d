-- A word that equals none of the keywords is not among them.
use Rattle.std.proofs.Common.{◌≡◌, ◌||◌, ◌&&◌, ℕ, Bool, false, List, [], ◌∷◌, length, refl, sym, ap, ◌∙◌, ◌==◌, arith}
use Rattle.std.proofs.lemmas.Bool.Decides.{nat_tests}
use Rattle.std.specs.Str.{bytes_eq}
use Rattle.lua_tree.specs.Bytes.{has_front}

-- comparing two texts is looking for one at the front of the other, where they are of one length
same_test : (word text : List ℕ) → bytes_eq text word ≡ (has_front word text && (length word == length text))
same_test [] [] = refl
same_test [] (byte ∷ text) = grind (arith, nat_tests)
same_test (byte ∷ word) [] = refl
same_test (byte ∷ word) (other ∷ text) = let rest = same_test word text in grind (arith, nat_tests)

pub rejects : (word text slice : List ℕ) (others : Bool) → slice ≡ word → false ≡ bytes_eq text slice → others ≡ false → ((has_front word text && (length word == length text)) || others) ≡ false
rejects word text slice others same differs none =
    let no : (has_front word text && (length word == length text)) ≡ false = sym (same_test word text) ∙ (sym (ap (bytes_eq text) same) ∙ sym differs) in
    rw (no, none)
