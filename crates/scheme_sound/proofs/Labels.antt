-- Labels are made and placed: what is asked at a label is allowed where it stands.
use Rattle.std.proofs.Common.{◌≡◌, ◌≤◌, ◌<◌, ℕ, List, [], ◌∷◌, length, refl, sym, ap, ◌∙◌, arith, inl, ◌⊎◌, ◌++◌, subst, length-append, inr, get_or, set}
use Rattle.std.specs.Prelude.{Option, None}
use Rattle.std.proofs.lemmas.List.{get_or-set_same, get_or-set_other}
use Rattle.std.proofs.lemmas.Bool.{cases_lt, cases_eq}
use Rattle.scheme.specs.Making.{Maker, new_label, place}
use Rattle.scheme.specs.declared.making.Local.{Local}
use Rattle.scheme.specs.declared.making.Active.{Active}
use Rattle.scheme_stands.proofs.Growth.{calm, get_or_end, length_set, new_step}
use Rattle.scheme_sound.proofs.Ghosts.{locals_of, Below, Ghost, Clear, Ok, IsIn, Placed, Invariant, Grew, Widens}
use Rattle.scheme_sound.proofs.Later.{below_self, placed_later}
use Rattle.scheme_sound.proofs.States.{updated, updated_other, kept_same, grew_by, invariant_more, no_new_word, State, Onward}

-- ---- a new label

-- a label that stands nowhere yet, with what is asked at it
abbrev pub with_need : Ghost → (label : ℕ) → List Local → Ghost
with_need g label xs = record g { need = updated g.need label xs; unplaced = label ∷ g.unplaced }

new_label_grew : (m : Maker) → Grew m (new_label m).after
new_label_grew m = grew_by (new_step {v = calm} m)

new_label_widens : (m : Maker) (g : Ghost) (xs : List Local) → Widens m g (with_need g (length m.labels) xs)
new_label_widens m g xs = record { note = λ i l. refl; last = below_self _; left = λ i l. refl; is_place = λ i l. refl; need = λ l k. updated_other g.need (length m.labels) xs l (λ e. omega (arith, e, k)); size = omega arith; vararg = refl }

new_label_invariant : (m : Maker) (g : Ghost) (xs : List Local) → Invariant m g → Invariant (new_label m).after (with_need g (length m.labels) xs)
new_label_invariant m g xs v =
    invariant_more m (new_label m).after g (with_need g (length m.labels) xs) v (new_label_grew m) (new_label_widens m g xs) (λ l k. go l k (cases_lt l (length m.labels)))
    v.functions (λ i x l a k. no_new_word m (λ i p. Ok (new_label m).after (with_need g (length m.labels) xs) i p) i x l a) v.here
  where
    old : (l : ℕ) → l < length m.labels → IsIn l g.unplaced ⊎ Placed m g l → IsIn l (length m.labels ∷ g.unplaced) ⊎ Placed (new_label m).after (with_need g (length m.labels) xs) l
    old l k (inl a) = inl (inr a)
    old l k (inr p) = inr (placed_later (new_label_grew m) (new_label_widens m g xs) l k (get_or_end m.labels (0 ∷ []) l k) p)

    go : (l : ℕ) → l < length (m.labels ++ 0 ∷ []) → (l < length m.labels) ⊎ (length m.labels ≤ l) → IsIn l (length m.labels ∷ g.unplaced) ⊎ Placed (new_label m).after (with_need g (length m.labels) xs) l
    go l k (inl a) = old l a (v.labels l a)
    go l k (inr a) = inl (inl (omega (arith, a, k, length-append m.labels (0 ∷ []))))

-- a new label, and what is asked at it
pub new_label_state : {m : Maker} {g : Ghost} {o : Option ℕ} (xs : List Local) → State m g o → State (new_label m).after (with_need g (length m.labels) xs) o
new_label_state {m} {g} xs s = record { invariant = new_label_invariant m g xs s.invariant; now = s.now; left = s.left; held = s.held; room = s.room }

pub new_label_onward : (m : Maker) (g : Ghost) (xs : List Local) → Onward m g (new_label m).after (with_need g (length m.labels) xs)
new_label_onward m g xs = record { need = (new_label_widens m g xs).need; labels = (new_label_grew m).labels; high = omega arith; count = omega arith; upvalues = refl; larger = omega arith; size = omega arith; vararg = refl }

-- ---- a label is placed

abbrev placed_at : (label pos : ℕ) → Maker → Maker
placed_at label pos m = record m { labels = set m.labels label pos }

-- other labels stand nowhere yet
abbrev pub with_unplaced : Ghost → List ℕ → Ghost
with_unplaced g unplaced = record g { unplaced = unplaced }

placed_grew : (label pos : ℕ) (m : Maker) → Grew m (placed_at label pos m)
placed_grew label pos m = record { items = kept_same m.items; longer = omega arith; constants = kept_same m.constants; count = omega arith; functions = kept_same m.functions; labels = omega (arith, length_set m.labels label pos); upvalues = refl }

with_unplaced_widens : (m : Maker) (g : Ghost) (os : List ℕ) → Widens m g (with_unplaced g os)
with_unplaced_widens m g os = record { note = λ i l. refl; last = below_self _; left = λ i l. refl; is_place = λ i l. refl; need = λ l k. refl; size = omega arith; vararg = refl }

-- a label stands at a place that allows what is asked there
pub placed_invariant : (label pos : ℕ) (m : Maker) (g : Ghost) (os : List ℕ) → Invariant m g → pos ≤ length m.items → Clear g pos → Below (g.need label) (g.note pos) → ((k : ℕ) → IsIn k g.unplaced → (k ≡ label) ⊎ IsIn k os) → Invariant (placed_at label pos m) (with_unplaced g os)
placed_invariant label pos m g os v l f b w =
    invariant_more m (placed_at label pos m) g (with_unplaced g os) v (placed_grew label pos m) (with_unplaced_widens m g os) (λ k c. go k (omega (arith, c, length_set m.labels label pos)) (cases_eq k label))
    v.functions (λ i x l a k. no_new_word m (λ i p. Ok (placed_at label pos m) (with_unplaced g os) i p) i x l a) v.here
  where
    other : (k : ℕ) → k < length m.labels → ((k ≡ label) → ⊥) → IsIn k g.unplaced ⊎ Placed m g k → IsIn k os ⊎ Placed (placed_at label pos m) (with_unplaced g os) k
    other k c n (inl a) = in_rest (w k a)
      where
        in_rest : (k ≡ label) ⊎ IsIn k os → IsIn k os ⊎ Placed (placed_at label pos m) (with_unplaced g os) k
        in_rest (inl e) = absurd (n e)
        in_rest (inr i) = inl i
    other k c n (inr p) = inr (placed_later (placed_grew label pos m) (with_unplaced_widens m g os) k c (get_or-set_other m.labels label k pos 0 n) p)

    go : (k : ℕ) → k < length m.labels → (k ≡ label) ⊎ ((k ≡ label) → ⊥) → IsIn k os ⊎ Placed (placed_at label pos m) (with_unplaced g os) k
    go k c (inr n) = other k c n (v.labels k c)
    go k c (inl e) =
        let is : get_or (set m.labels label pos) k 0 ≡ pos = subst (λ j. get_or (set m.labels label pos) j 0 ≡ pos) (sym e) (get_or-set_same m.labels label pos 0 (omega (arith, c, e))) in
        inr (record {
          within = subst (λ x. x ≤ length m.items) (sym is) l;
          clear = subst (λ x. Clear (with_unplaced g os) x) (sym is) (record { is_place = f.is_place; left = f.left });
          allows = subst (λ x. Below (g.need k) (g.note x)) (sym is) (subst (λ j. Below (g.need j) (g.note pos)) (sym e) b);
        })

-- it stands here
pub placed_state : (label : ℕ) {m : Maker} {g : Ghost} (os : List ℕ) → State m g None → Below (g.need label) (locals_of m.active) → ((k : ℕ) → IsIn k g.unplaced → (k ≡ label) ⊎ IsIn k os) → State (place label m) (with_unplaced g os) None
placed_state label {m} {g} os s b w = record {
  invariant = placed_invariant label (length m.items) m g os s.invariant (omega arith) (record { is_place = s.invariant.here; left = s.left }) (subst (λ xs. Below (g.need label) xs) (sym s.now) b) w;
  now = s.now;
  left = s.left;
  held = s.held;
  room = s.room;
}

pub placed_onward : (label : ℕ) (m : Maker) (g : Ghost) (os : List ℕ) → Onward m g (place label m) (with_unplaced g os)
placed_onward label m g os = record { need = λ l k. refl; labels = omega (arith, length_set m.labels label (length m.items)); high = omega arith; count = omega arith; upvalues = refl; larger = omega arith; size = omega arith; vararg = refl }

-- ---- what is asked and what is active

-- where as much is asked as is active
pub below_is : (xs ys : List Local) → ys ≡ xs → Below xs ys
below_is xs ys e = subst (λ zs. Below xs zs) (sym e) (below_self xs)

pub to_need : (us ws : List Active) (h : Ghost) (l : ℕ) → us ≡ ws → h.need l ≡ locals_of ws → Below (locals_of us) (h.need l)
to_need us ws h l a e = below_is (locals_of us) (h.need l) (e ∙ ap locals_of (sym a))

pub from_need : (us ws : List Active) (h : Ghost) (l : ℕ) → us ≡ ws → h.need l ≡ locals_of ws → Below (h.need l) (locals_of us)
from_need us ws h l a e = below_is (h.need l) (locals_of us) (ap locals_of a ∙ sym e)
