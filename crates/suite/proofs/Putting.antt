-- Pieces that a sink takes one after another, of which one is refused.
use Rattle.std.proofs.Common.{ℕ, List, ◌++◌, Option, Result, Ok, Err, OnErr, sym, ap, ◌∙◌, append_assoc}
use Rattle.suite_io.specs.Taken.{Takes}
use Rattle.suite_io.specs.Parts.{TakesPart}
use Rattle.suite_io.proofs.TakenPieces.{takes_both}

part_first : (x y : List ℕ) (a b : Option (List ℕ)) → TakesPart a b x → TakesPart a b (x ++ y)
part_first x y a b (part, (rest, e), t) = (part, (rest ++ y, sym (append_assoc part rest y) ∙ ap (λ l. l ++ y) e), t)

pub part_then : (x y : List ℕ) (a b c : Option (List ℕ)) → Takes a b x → TakesPart b c y → TakesPart a c (x ++ y)
part_then x y a b c h (part, (rest, e), t) =
    (x ++ part, (rest, append_assoc x part rest ∙ ap (λ l. x ++ l) e), takes_both a b c x part h t)

-- four pieces, of which the first, the second, the third or the last is refused
pub first_refused : (w x y z : List ℕ) (a b : Option (List ℕ)) → TakesPart a b w → TakesPart a b (w ++ (x ++ (y ++ z)))
first_refused w x y z a b p = part_first w (x ++ (y ++ z)) a b p

pub second_refused : (w x y z : List ℕ) (a b c : Option (List ℕ)) → Takes a b w → TakesPart b c x → TakesPart a c (w ++ (x ++ (y ++ z)))
second_refused w x y z a b c h p = part_then w (x ++ (y ++ z)) a b c h (part_first x (y ++ z) b c p)

pub third_refused : (w x y z : List ℕ) (a b c d : Option (List ℕ)) → Takes a b w → Takes b c x → TakesPart c d y → TakesPart a d (w ++ (x ++ (y ++ z)))
third_refused w x y z a b c d h k p = part_then w (x ++ (y ++ z)) a b d h (part_then x (y ++ z) b c d k (part_first y z c d p))

pub last_refused : (w x y z : List ℕ) (a b c d e : Option (List ℕ)) → Takes a b w → Takes b c x → Takes c d y → TakesPart d e z → TakesPart a e (w ++ (x ++ (y ++ z)))
last_refused w x y z a b c d e h k l p =
    part_then w (x ++ (y ++ z)) a b e h (part_then x (y ++ z) b c e k (part_then y z c d e l p))

pub on_err : {T E : Type 0} → (r : Result T E) (P : Type 0) → P → OnErr r P
on_err (Ok x) P p = tt
on_err (Err e) P p = p

pub on_err_then : {T E : Type 0} → (r : Result T E) (P Q : Type 0) → (P → Q) → OnErr r P → OnErr r Q
on_err_then (Ok x) P Q f h = tt
on_err_then (Err e) P Q f h = f h
