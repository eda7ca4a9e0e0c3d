-- `for` loops follow the steps that they stand on, where their heads and blocks do.
use Rattle.std.proofs.Common.{◌≡◌, ℕ, suc, ◌≤◌, List, [], ◌∷◌, ◌++◌, length, map, set, refl, sym, ap, ap₂, ◌∙◌, arith, subst}
use Rattle.std.specs.Prelude.{replicate}
use Rattle.scheme.specs.Making as making
use Rattle.scheme.specs.Making.{Maker, new_label, place, put, jump_to, take_registers, used, declare, activate, captured_from, end_locals, active_count}
use Rattle.scheme.specs.Statements.{settle}
use Rattle.same_flow.specs.Laid.{label_of}
use Rattle.same_flow.proofs.Followed.{Run, pc_of, Follows, nought, Goes, OneStep, EndBy, LastTo, Outer, Tied, last_weaker, append_nothing, length_both, at_pc, relabelled, settling, followed, step_follows, ended_follows}
use Rattle.same_flow.proofs.HeadsFollowed.{Head}

-- where the hidden locals end, and the variables
abbrev pub for_ends : (ends : List ℕ) → (to variables variables_end : ℕ) → List ℕ
for_ends ends to variables variables_end = ends ++ (replicate 3 to ++ replicate variables variables_end)

abbrev pub hidden_to : (ends : List ℕ) → (to : ℕ) → List ℕ
hidden_to ends to = ends ++ replicate 3 to

-- the labels of the foot and of the exit are placed
three_placed : (xs ys : List ℕ) (a b c : ℕ) → set (set ((xs ++ a ∷ 0 ∷ 0 ∷ []) ++ ys) (suc (length xs)) b) (suc (suc (length xs))) c ≡ xs ++ a ∷ b ∷ c ∷ ys
three_placed [] ys a b c = refl
three_placed (x ∷ xs) ys a b c = ap (λ l. x ∷ l) (three_placed xs ys a b c)

pub at_begun : {run : Run} {m begun : Maker} {from label foot to variables_end : ℕ} {ends : List ℕ} (H : Head run m from label foot to variables_end begun) → LastTo (suc from) ends → (f g : ℕ → ℕ) →
    f (suc label) ≡ g foot →
    Follows run f g m ends from → Follows run f g begun (for_ends ends to H.variables variables_end) (suc from)
at_begun {begun = begun} H l f g t F = relabelled begun.labels (step_follows H.step l f g (t, tt) F)

pub three_more : (xs : List ℕ) (a : ℕ) → length (xs ++ a ∷ 0 ∷ 0 ∷ []) ≡ suc (suc (suc (length xs)))
three_more xs a = length_both xs (a ∷ 0 ∷ 0 ∷ []) ∙ (let n = length xs in let e : length (a ∷ 0 ∷ 0 ∷ []) ≡ 3 = refl in omega arith)

module _ {run : Run} (m begun inside : Maker) (foot_part : Maker → Maker) (ends : List ℕ) (n from label foot to variables_end : ℕ) (H : Head run m from label foot to variables_end begun)
    (B : Goes run ((suc (suc label), to) ∷ []) begun (for_ends ends to H.variables variables_end) (suc from) inside (hidden_to ends to) foot)
    (K : OneStep run ((label, suc from) ∷ []) (place (suc label) inside) foot (foot_part (place (suc label) inside)) []) (t : to ≡ suc foot) (h : suc from ≤ to) (l : LastTo to ends)
    (e : length ends ≡ n) where
  hidden_last : LastTo (suc foot) (hidden_to ends to)
  hidden_last = all ends (subst (λ x. LastTo x ends) t l)
    where
      all : (es : List ℕ) → LastTo (suc foot) es → LastTo (suc foot) (hidden_to es to)
      all [] k = (omega arith, (omega arith, (omega arith, tt)))
      all (x ∷ xs) k = (k.0, all xs k.1)

  at_foot : (f g : ℕ → ℕ) → Outer f g ((suc (suc label), to) ∷ []) → Tied f g (label_of begun) B.numbers → Follows run f g begun (for_ends ends to H.variables variables_end) (suc from) →
      Follows run f g inside (hidden_to ends to) foot
  at_foot f g o k F = B.follows f g o k F

  at_exit : (f g : ℕ → ℕ) → f label ≡ g (suc from) → Follows run f g inside (hidden_to ends to) foot → Follows run f g (foot_part (place (suc label) inside)) (hidden_to ends to) to
  at_exit f g o F =
      subst (λ x. Follows run f g (foot_part (place (suc label) inside)) (hidden_to ends to) x) (sym t)
      (subst (λ (es : List ℕ). Follows run f g (foot_part (place (suc label) inside)) es (suc foot)) (append_nothing (hidden_to ends to)) (step_follows K hidden_last f g (o, tt) (relabelled _ F)))

  begun_tied : (f g : ℕ → ℕ) → Tied f g (suc (suc (suc (label_of m)))) B.numbers → Tied f g (label_of begun) B.numbers
  begun_tied f g k = subst (λ x. Tied f g x B.numbers) (sym (ap (λ (ls : List ℕ). length ls) H.labels ∙ three_more m.labels (length begun.items))) k

  last_from : LastTo (suc from) ends
  last_from = last_weaker (suc from) to ends h l

  named : (f g : ℕ → ℕ) (x : ℕ) → f (label_of m) ≡ g x → f label ≡ g x
  named f g x k = ap f H.same_label ∙ k

  named_next : (f g : ℕ → ℕ) (x : ℕ) → f (suc (label_of m)) ≡ g x → f (suc label) ≡ g x
  named_next f g x k = ap (λ y. f (suc y)) H.same_label ∙ k

  named_last : (f g : ℕ → ℕ) (x : ℕ) → f (suc (suc (label_of m))) ≡ g x → f (suc (suc label)) ≡ g x
  named_last f g x k = ap (λ y. f (suc (suc y))) H.same_label ∙ k

  abbrev left : Maker
  left = foot_part (place (suc label) inside)

  all_labels : Follows run nought nought m ends from → set left.labels (suc (suc label)) (length left.items) ≡ m.labels ++ map (pc_of run) (suc from ∷ foot ∷ to ∷ B.numbers)
  all_labels F =
      let a = at_begun H last_from nought nought refl F in
      let b = followed B a in
      let c = at_exit nought nought refl b in
      let ns = map (pc_of run) B.numbers in
      ap (λ (ls : List ℕ). set ls (suc (suc label)) (length left.items)) (K.labels ∙ ap (λ (ls : List ℕ). set ls (suc label) (length inside.items)) (B.labels a ∙ ap (λ (ls : List ℕ). ls ++ ns) H.labels))
      ∙ ap (λ x. set (set ((m.labels ++ length begun.items ∷ 0 ∷ 0 ∷ []) ++ ns) (suc x) (length inside.items)) (suc (suc x)) (length left.items)) H.same_label
      ∙ three_placed m.labels ns (length begun.items) (length inside.items) (length left.items)
      ∙ ap₂ (λ x y. m.labels ++ x ∷ y ∷ length left.items ∷ ns) (at_pc a) (at_pc b) ∙ ap (λ x. m.labels ++ pc_of run (suc from) ∷ pc_of run foot ∷ x ∷ ns) (at_pc c)

  hidden_end : EndBy to (replicate 3 to)
  hidden_end = (omega arith, (omega arith, (omega arith, tt)))

  pub for_goes : {outer : List (ℕ × ℕ)} → Goes run outer m ends from (settle (end_locals n (place (suc (suc label)) (foot_part (place (suc label) inside))))) ends to
  for_goes {outer} = settling whole
    where
      whole : Goes run outer m ends from (making.free_from n (end_locals n (place (suc (suc label)) (foot_part (place (suc label) inside))))) ends to
      whole = record {
        numbers = suc from ∷ foot ∷ to ∷ B.numbers;
        follows = λ f g o k F.
            let a = at_begun H last_from f g (named_next f g foot k.1.0) F in
            let b = at_foot f g (named_last f g to k.1.1.0, tt) (begun_tied f g k.1.1.1) a in
            let c = at_exit f g (named f g (suc from) k.0) b in
            ended_follows n (replicate 3 to) e hidden_end f g (relabelled _ c);
        labels = all_labels;
      }
