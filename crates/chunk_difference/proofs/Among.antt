-- Lists of functions that are compared one by one, up to the first that differ.
use Rattle.std.proofs.Common.{◌≡◌, ℕ, suc, ◌+◌, List, [], ◌∷◌, ◌++◌, length, Option, Some, None, refl, sym, ap, ◌∙◌, subst, arith}
use Rattle.std.specs.Prelude.{map, IfSome, IfNone}
use Rattle.std.proofs.lemmas.List.{append_assoc}
use Rattle.proto.specs.Chunk.{functions_of, SameButLines}
use Rattle.proto.specs.View.{view_proto}
use Rattle.proto.specs.declared.proto.Proto.{Proto}
use Rattle.proto.proofs.SameFunctions.{SameFunctions, same_both}
use Rattle.chunk_difference.specs.declared.difference.Part.{Part}
use Rattle.chunk_difference.specs.Difference.{DifferAt, DifferAmong}

-- what is known of two lists behind so many functions, when these rests of them are left to compare
pub record AreSoFar (had got had_rest got_rest : List Proto) (number : ℕ) : Type 0 where
  pub lengths : length had_rest ≡ length got_rest
  pub enough : SameFunctions (map view_proto had_rest) (map view_proto got_rest) → SameFunctions (map view_proto had) (map view_proto got)
  pub differ : (n : ℕ) (path : List ℕ) (part : Part) (at : ℕ) (one other : Option ℕ) → DifferAmong (functions_of (map view_proto had_rest)) (functions_of (map view_proto got_rest)) n path part at one other → DifferAmong (functions_of (map view_proto had)) (functions_of (map view_proto got)) (number + n) path part at one other

from_zero : (had got : List Proto) (n : ℕ) (path : List ℕ) (part : Part) (at : ℕ) (one other : Option ℕ) → DifferAmong (functions_of (map view_proto had)) (functions_of (map view_proto got)) n path part at one other → DifferAmong (functions_of (map view_proto had)) (functions_of (map view_proto got)) (0 + n) path part at one other
from_zero had got n path part at one other d =
    let e : n ≡ 0 + n = omega arith in
    subst (λ m. DifferAmong (functions_of (map view_proto had)) (functions_of (map view_proto got)) m path part at one other) e d

pub so_far_start : (had got had_rest got_rest : List Proto) → length had ≡ length got → had_rest ≡ had → got_rest ≡ got → AreSoFar had got had_rest got_rest 0
so_far_start had got had_rest got_rest e p q =
    rw (p, q) (record { lengths = e; enough = λ s. s; differ = λ n path part at one other d. from_zero had got n path part at one other d })

next : (had got had_rest got_rest : List Proto) (number : ℕ) (p q : Proto) → AreSoFar had got (p ∷ had_rest) (q ∷ got_rest) number → SameButLines (view_proto p) (view_proto q) → AreSoFar had got had_rest got_rest (number + 1)
next had got had_rest got_rest number p q a same =
    record {
      lengths = omega (arith, a.lengths);
      enough = λ s. a.enough (same_both (view_proto p) (view_proto q) (map view_proto had_rest) (map view_proto got_rest) same s);
      differ = λ n path part at one other d.
          let e : number + 1 + n ≡ number + suc n = omega arith in
          rw e (a.differ (suc n) path part at one other (same, d));
    }

-- the first of each rest is the same
pub so_far_next : (had got had_now got_now had_rest got_rest : List Proto) (number : ℕ) (p q : Proto) → AreSoFar had got had_now got_now number → had_now ≡ p ∷ had_rest → got_now ≡ q ∷ got_rest → SameButLines (view_proto p) (view_proto q) → AreSoFar had got had_rest got_rest (number + 1)
so_far_next had got had_now got_now had_rest got_rest number p q a h g same = next had got had_rest got_rest number p q (rw (h, g) at a) same

-- or differs
pub found_here : (had got had_now got_now had_rest got_rest : List Proto) (number : ℕ) (p q : Proto) → AreSoFar had got had_now got_now number → had_now ≡ p ∷ had_rest → got_now ≡ q ∷ got_rest → (path : List ℕ) (part : Part) (at : ℕ) (one other : Option ℕ) → DifferAt (view_proto p) (view_proto q) path part at one other → DifferAmong (functions_of (map view_proto had)) (functions_of (map view_proto got)) number path part at one other
found_here had got had_now got_now had_rest got_rest number p q a h g path part at one other d =
    let known : AreSoFar had got (p ∷ had_rest) (q ∷ got_rest) number = rw (h, g) at a in
    let e : number + 0 ≡ number = omega arith in
    subst (λ m. DifferAmong (functions_of (map view_proto had)) (functions_of (map view_proto got)) m path part at one other) e (known.differ 0 path part at one other d)

pub so_far_end : (had got had_rest got_rest : List Proto) (number : ℕ) → AreSoFar had got had_rest got_rest number → length had_rest ≡ 0 → SameFunctions (map view_proto had) (map view_proto got)
so_far_end had got [] [] number a e = a.enough refl
so_far_end had got [] (q ∷ got_rest) number a e = absurd (omega (arith, a.lengths))
so_far_end had got (p ∷ had_rest) got_rest number a e = absurd (omega (arith, e))

-- ---- paths

-- behind a path stands a number, and a path behind it
pub behind : (before pushed after below : List ℕ) (n : ℕ) → pushed ≡ before ++ n ∷ [] → after ≡ pushed ++ below → after ≡ before ++ n ∷ below
behind before pushed after below n p e = e ∙ ap (λ path. path ++ below) p ∙ append_assoc before (n ∷ []) below

abbrev tail : List ℕ → List ℕ
tail [] = []
tail (x ∷ xs) = xs

last_of_more : (xs : List ℕ) (n : ℕ) → xs ++ n ∷ [] ≡ [] → ⊥
last_of_more [] n e = cc e
last_of_more (x ∷ xs) n e = cc e

without_last : (xs ys : List ℕ) (m n : ℕ) → xs ++ m ∷ [] ≡ ys ++ n ∷ [] → xs ≡ ys
without_last [] [] m n e = refl
without_last [] (y ∷ ys) m n e = absurd (last_of_more ys n (sym (ap tail e)))
without_last (x ∷ xs) [] m n e = absurd (last_of_more xs m (ap tail e))
without_last (x ∷ xs) (y ∷ ys) m n e = cc (e, without_last xs ys m n (ap tail e))

-- the number is taken away again
pub popped : (before path after : List ℕ) (n : ℕ) (number : Option ℕ) → path ≡ before ++ n ∷ [] → IfSome number (λ m. path ≡ after ++ m ∷ []) → IfNone number ((path ≡ []) × (after ≡ [])) → after ≡ before
popped before path after n (Some m) e some none = without_last after before m n (sym some ∙ e)
popped before path after n None e some none = absurd (last_of_more before n (sym e ∙ none.0))
