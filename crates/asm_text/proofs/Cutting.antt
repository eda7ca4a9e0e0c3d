-- Fronts of texts: what is cut off is what stands there.
use Rattle.std.proofs.Common.{◌≡◌, ◌≢◌, ℕ, Bool, true, false, cond, eqb, [], ◌∷◌, ◌++◌, Option, None, Some, refl, ap, subst, ◌∙◌}
use Rattle.std.specs.List.{AllByRecursion}
use Rattle.std.proofs.lemmas.Bool.{ne_eqb, eq-eqb, eqb-true, eqb-false}
use Rattle.lua_num.specs.Bytes.{Text}
use Rattle.asm_text.specs.Reading.{cut_at, with_byte, after}

pub same_some : {A : Type 0} (x y : A) (o : Option A) → o ≡ Some x → o ≡ Some y → x ≡ y
same_some x y o e f = cc

pub no_some : {A : Type 0} (x : A) (o : Option A) → o ≡ None → o ≡ Some x → ⊥
no_some x o e f = cc

pub the_same : {A : Type 0} (x y : A) → Some x ≡ Some y → x ≡ y
the_same x y e = cc

pub same_pair : {A B : Type 0} (a c : A) (b d : B) → ◌≡◌ {A = A × B} (a, b) (c, d) → (a ≡ c) × (b ≡ d)
same_pair {A = A} {B = B} a c b d e = (ap (λ (p : A × B). p.0) e, ap (λ (p : A × B). p.1) e)

-- no byte of the text is the mark
abbrev pub Lacks : ℕ → Text → Type 0
Lacks mark text = AllByRecursion (λ byte. byte ≢ mark) text

cuts_there : (mark : ℕ) (t rest : Text) → Lacks mark t → cut_at mark ((t ++ mark ∷ []) ++ rest) ≡ Some (t, rest)
unfolding cut_at
cuts_there mark [] rest h = rw (eq-eqb mark mark refl) refl
cuts_there mark (b ∷ t) rest h = rw (ne_eqb b mark h.0, cuts_there mark t rest h.1) refl

pub cut_there : (mark : ℕ) (t rest bytes : Text) → bytes ≡ (t ++ mark ∷ []) ++ rest → Lacks mark t → cut_at mark bytes ≡ Some (t, rest)
cut_there mark t rest bytes here h = ap (cut_at mark) here ∙ cuts_there mark t rest h

pub record IsCut (mark : ℕ) (bytes t rest : Text) : Type 0 where
  pub here : bytes ≡ (t ++ mark ∷ []) ++ rest
  pub lacks : Lacks mark t

cut_more : (mark b : ℕ) (bytes t rest : Text) (r : Option (Text × Text)) → (b ≢ mark) → ((x : Text × Text) → r ≡ Some x → IsCut mark bytes x.0 x.1) → with_byte b r ≡ Some (t, rest) → IsCut mark (b ∷ bytes) t rest
cut_more mark b bytes t rest None other go e = absurd cc
cut_more mark b bytes t rest (Some x) other go e =
    let c = go x refl in
    let p = same_pair (b ∷ x.0) t x.1 rest (the_same (b ∷ x.0, x.1) (t, rest) e) in
    record {
      here = ap (λ (k : Text). b ∷ k) c.here ∙ ap (λ (k : Text). (k ++ mark ∷ []) ++ x.1) p.0 ∙ ap (λ (k : Text). (t ++ mark ∷ []) ++ k) p.1;
      lacks = subst (Lacks mark) p.0 (other, c.lacks);
    }

cut_step : (mark b : ℕ) (bytes t rest : Text) (d : Bool) → eqb b mark ≡ d → ((x : Text × Text) → cut_at mark bytes ≡ Some x → IsCut mark bytes x.0 x.1) → cond d (Some ([], bytes)) (with_byte b (cut_at mark bytes)) ≡ Some (t, rest) → IsCut mark (b ∷ bytes) t rest
cut_step mark b bytes t rest true q go e =
    let p = same_pair {A = Text} {B = Text} [] t bytes rest (the_same {A = Text × Text} ([], bytes) (t, rest) e) in
    let same : b ≡ mark = eqb-true b mark q in
    record {
      here = ap (λ k. k ∷ bytes) same ∙ ap (λ (k : Text). (k ++ mark ∷ []) ++ bytes) p.0 ∙ ap (λ (k : Text). (t ++ mark ∷ []) ++ k) p.1;
      lacks = subst (Lacks mark) p.0 tt;
    }
cut_step mark b bytes t rest false q go e = cut_more mark b bytes t rest (cut_at mark bytes) (eqb-false b mark q) go e

pub cut_back : (mark : ℕ) (bytes : Text) (x : Text × Text) → cut_at mark bytes ≡ Some x → IsCut mark bytes x.0 x.1
unfolding cut_at
cut_back mark [] x e = absurd cc
cut_back mark (b ∷ bytes) x e = cut_step mark b bytes x.0 x.1 (eqb b mark) refl (λ y f. cut_back mark bytes y f) e

-- ---- a text in front

pub after_there : (front rest : Text) → after front (front ++ rest) ≡ Some rest
unfolding after
after_there [] rest = refl
after_there (p ∷ ps) rest = rw (eq-eqb p p refl) (after_there ps rest)

after_step : (p b : ℕ) (ps bytes rest : Text) (d : Bool) → eqb b p ≡ d → ((r : Text) → after ps bytes ≡ Some r → bytes ≡ ps ++ r) → cond d (after ps bytes) None ≡ Some rest → b ∷ bytes ≡ p ∷ (ps ++ rest)
after_step p b ps bytes rest true q go e = ap (λ k. k ∷ bytes) (eqb-true b p q) ∙ ap (λ k. p ∷ k) (go rest e)
after_step p b ps bytes rest false q go e = absurd cc

pub after_back : (front bytes rest : Text) → after front bytes ≡ Some rest → bytes ≡ front ++ rest
unfolding after
after_back [] bytes rest e = cc
after_back (p ∷ ps) [] rest e = absurd cc
after_back (p ∷ ps) (b ∷ bytes) rest e = after_step p b ps bytes rest (eqb b p) refl (λ r f. after_back ps bytes r f) e
