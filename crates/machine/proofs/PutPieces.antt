-- Texts that a sink takes one after another, as far as it came.
use Rattle.std.proofs.Common.{◌≡◌, ℕ, suc, ◌+◌, ◌<◌, ◌≤◌, List, [], ◌∷◌, ◌++◌, take, drop, length, get_or, Option, sym, ap, subst, ◌∙◌, append_assoc, append-nil, take-append-drop, drop-cons, arith}
use Rattle.std.specs.List.{concat}
use Rattle.std.proofs.lemmas.List.Folds.{concat-append}
use Rattle.std.proofs.lemmas.List.{take_more}
use Rattle.suite_io.specs.Taken.{Takes}
use Rattle.suite_io.specs.Parts.{TakesPart}
use Rattle.suite_io.proofs.TakenPieces.{takes_both}

-- a first part of a text was taken, and so one of a longer text
pub part_first : (x y : List ℕ) (a b : Option (List ℕ)) → TakesPart a b x → TakesPart a b (x ++ y)
part_first x y a b (part, (rest, whole), taken) = (part, (rest ++ y, sym (append_assoc part rest y) ∙ ap (λ l. l ++ y) whole), taken)

-- a text was taken, and then a first part of another
pub part_then : (x y : List ℕ) (a b c : Option (List ℕ)) → Takes a b x → TakesPart b c y → TakesPart a c (x ++ y)
part_then x y a b c before (part, (rest, whole), taken) =
    (x ++ part, (rest, append_assoc x part rest ∙ ap (λ l. x ++ l) whole), takes_both a b c x part before taken)

-- the first of the texts were taken, and the count of faults did not fall
pub record PutSoMany (texts : List (List ℕ)) (n : ℕ) (old now : Option (List ℕ)) (faults_old faults_now : ℕ) : Type 0 where
  pub taken : Takes old now (concat (take n texts))
  pub risen : faults_old ≤ faults_now

one_more : (texts : List (List ℕ)) (n : ℕ) (text : List ℕ) → n < length texts → text ≡ get_or texts n text → concat (take (n + 1) texts) ≡ concat (take n texts) ++ text
one_more texts n text within is =
    ap concat (take_more texts n text within ∙ ap (λ t. take n texts ++ t ∷ []) (sym is))
    ∙ concat-append (take n texts) (text ∷ [])
    ∙ ap (λ t. concat (take n texts) ++ t) (append-nil text)

in_three : (texts : List (List ℕ)) (n : ℕ) (text : List ℕ) → n < length texts → text ≡ get_or texts n text → concat (take n texts) ++ (text ++ concat (drop (suc n) texts)) ≡ concat texts
in_three texts n text within is =
    sym (concat-append (take n texts) (text ∷ drop (suc n) texts))
    ∙ ap (λ t. concat (take n texts ++ t ∷ drop (suc n) texts)) is
    ∙ ap (λ ts. concat (take n texts ++ ts)) (sym (drop-cons texts n text within))
    ∙ ap concat (take-append-drop n texts)

-- one text more
pub put_next : (texts : List (List ℕ)) (n : ℕ) (text : List ℕ) (old mid now : Option (List ℕ)) (f1 f2 f3 : ℕ) → n < length texts → text ≡ get_or texts n text → PutSoMany texts n old mid f1 f2 → Takes mid now text → f2 ≤ f3 → PutSoMany texts (n + 1) old now f1 f3
put_next texts n text old mid now f1 f2 f3 within is so taken rises = record {
  taken = subst (Takes old now) (sym (one_more texts n text within is)) (takes_both old mid now (concat (take n texts)) text so.taken taken);
  risen = omega (arith, so.risen);
}

-- a text was refused
pub put_part : (texts : List (List ℕ)) (n : ℕ) (text : List ℕ) (old mid now : Option (List ℕ)) (f1 f2 : ℕ) → n < length texts → text ≡ get_or texts n text → PutSoMany texts n old mid f1 f2 → TakesPart mid now text → TakesPart old now (concat texts)
put_part texts n text old mid now f1 f2 within is so part =
    subst (TakesPart old now) (in_three texts n text within is) (part_then (concat (take n texts)) (text ++ concat (drop (suc n) texts)) old mid now so.taken (part_first text (concat (drop (suc n) texts)) mid now part))
