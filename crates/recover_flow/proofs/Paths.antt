-- Paths to which a number is put, and from which it is taken again.
use Rattle.std.proofs.Common.{◌≡◌, ℕ, List, [], ◌∷◌, ◌++◌, Option, Some, None, refl, sym, ap, ◌∙◌}
use Rattle.std.specs.Prelude.{IfSome, IfNone}
use Rattle.std.proofs.lemmas.List.{append_assoc}

-- behind a path stands a number, and a path behind it
pub behind : (before pushed after below : List ℕ) (n : ℕ) → pushed ≡ before ++ n ∷ [] → after ≡ pushed ++ below → after ≡ before ++ n ∷ below
behind before pushed after below n p e = e ∙ ap (λ path. path ++ below) p ∙ append_assoc before (n ∷ []) below

abbrev tail : List ℕ → List ℕ
tail [] = []
tail (x ∷ xs) = xs

last_of_more : (xs : List ℕ) (n : ℕ) → xs ++ n ∷ [] ≡ [] → ⊥
last_of_more [] n e = cc e
last_of_more (x ∷ xs) n e = cc e

without_last : (xs ys : List ℕ) (m n : ℕ) → xs ++ m ∷ [] ≡ ys ++ n ∷ [] → xs ≡ ys
without_last [] [] m n e = refl
without_last [] (y ∷ ys) m n e = absurd (last_of_more ys n (sym (ap tail e)))
without_last (x ∷ xs) [] m n e = absurd (last_of_more xs m (ap tail e))
without_last (x ∷ xs) (y ∷ ys) m n e = cc (e, without_last xs ys m n (ap tail e))

-- the number is taken away again
pub popped : (before path after : List ℕ) (n : ℕ) (number : Option ℕ) → path ≡ before ++ n ∷ [] → IfSome number (λ m. path ≡ after ++ m ∷ []) → IfNone number ((path ≡ []) × (after ≡ [])) → after ≡ before
popped before path after n (Some m) e some none = without_last after before m n (sym some ∙ e)
popped before path after n None e some none = absurd (last_of_more before n (sym e ∙ none.0))
