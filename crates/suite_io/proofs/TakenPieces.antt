-- Pieces that a sink takes one after another.
use Rattle.std.proofs.Common.{◌≡◌, ℕ, ◌≤◌, inl, inr, List, [], ◌++◌, take, drop, length, ◌-◌, Option, Some, None, refl, sym, ap, subst, ◌∙◌, append_assoc, take-append-drop, arith}
use Rattle.std.proofs.lemmas.Bool.{cases_lt}
use Rattle.std.proofs.lemmas.List.{append-nil, take_all, length-drop}
use Rattle.suite_io.specs.Taken.{Takes, Rises}
use Rattle.suite_io.specs.Parts.{TakesPart}

pub takes_none : (o : Option (List ℕ)) → Takes o o []
takes_none (Some s) = ap Some (sym (append-nil s))
takes_none None = refl

pub takes_same : (o p : Option (List ℕ)) → p ≡ o → Takes o p []
takes_same o p e = subst (λ q. Takes o q []) (sym e) (takes_none o)

pub takes_both : (a b c : Option (List ℕ)) (x y : List ℕ) → Takes a b x → Takes b c y → Takes a c (x ++ y)
takes_both (Some s) b c x y h k = subst (λ o. Takes o c y) h k ∙ ap Some (append_assoc s x y)
takes_both None b c x y h k = subst (λ o. Takes o c y) h k

pub rises_later : (a b c : ℕ) → a ≤ b → b ≤ c → Rises b c → Rises a c
rises_later a b c h k (inl r) = inl (omega arith)
rises_later a b c h k (inr r) = elim (cases_lt a b) [ inl l ↦ inl (omega arith) | inr l ↦ inr (rw (← r) (omega arith)) ]

-- a piece that is partly put: what the sink has taken of it, and what is left
pub record PutSoFar (piece rest : List ℕ) (old now : Option (List ℕ)) (faults_old faults_now : ℕ) : Type 0 where
  pub part : List ℕ
  pub whole : part ++ rest ≡ piece
  pub taken : Takes old now part
  pub risen : faults_old ≤ faults_now

pub put_start : (piece : List ℕ) (o : Option (List ℕ)) (faults : ℕ) → PutSoFar piece piece o o faults faults
put_start piece o faults = record { part = []; whole = refl; taken = takes_none o; risen = omega arith }

pub put_next : (piece rest rest2 : List ℕ) (old mid now : Option (List ℕ)) (f1 f2 f3 n : ℕ) → rest2 ≡ drop n rest → PutSoFar piece rest old mid f1 f2 → Takes mid now (take n rest) → f2 ≤ f3 → PutSoFar piece rest2 old now f1 f3
put_next piece rest rest2 old mid now f1 f2 f3 n e p t h = rw e (record {
  part = p.part ++ take n rest;
  whole = append_assoc p.part (take n rest) (drop n rest) ∙ ap (λ r. p.part ++ r) (take-append-drop n rest) ∙ p.whole;
  taken = takes_both old mid now p.part (take n rest) p.taken t;
  risen = omega (arith, p.risen);
})

-- where nothing is left, the piece was taken whole
pub put_whole : (piece rest : List ℕ) (old now : Option (List ℕ)) (f1 f2 : ℕ) → rest ≡ [] → PutSoFar piece rest old now f1 f2 → Takes old now piece
put_whole piece rest old now f1 f2 e p =
    subst (Takes old now) (sym (append-nil p.part) ∙ ap (λ r. p.part ++ r) (sym e) ∙ p.whole) p.taken

-- where the sink refuses the rest, a first part was taken
pub put_part : (piece rest : List ℕ) (old mid now : Option (List ℕ)) (f1 f2 : ℕ) → PutSoFar piece rest old mid f1 f2 → now ≡ mid → TakesPart old now piece
put_part piece rest old mid now f1 f2 p e = (p.part, (rest, p.whole), subst (λ o. Takes old o p.part) (sym e) p.taken)

-- the rest of a text, as the code cuts it
pub rest_is : (n : ℕ) (text : List ℕ) → take (length text - n) (drop n text) ≡ drop n text
rest_is n text = take_all (length text - n) (drop n text) (omega (arith, length-drop n text))
