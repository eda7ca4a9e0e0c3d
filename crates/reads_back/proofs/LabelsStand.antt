-- The labels that a part of a function makes stand, in the function that is made in the end, where they stand when the part is made.
use Rattle.std.proofs.Common.{◌≡◌, ◌≤◌, ◌<◌, ℕ, suc, Bool, true, false, List, length, get_or, refl, ◌∙◌, subst, arith}
use Rattle.std.proofs.lemmas.List.{get_or-set_other, get_or-set_same}
use Rattle.scheme.specs.Making.{Maker, captured_from, end_locals, jump_to, place, when}
use Rattle.scheme.specs.Statements.{close_from, end_block}
use Rattle.scheme_stands.proofs.Growth.{Grown, length_set}
use Rattle.reads_back.specs.Through.{pc_of_label}

-- the labels from the k-th on, of these
pub record Owned (k : ℕ) (labels : List ℕ) (z : Maker) : Type 0 where
  pub stand : (i : ℕ) → k ≤ i → i < length labels → pc_of_label z i ≡ get_or labels i 0

-- all labels are so
pub all_owned : (k : ℕ) (labels : List ℕ) (z : Maker) → z.labels ≡ labels → Owned k labels z
all_owned k labels z e = record { stand = λ i h l. subst (λ (ls : List ℕ). pc_of_label z i ≡ get_or ls i 0) e refl }

-- before a part that keeps the labels
pub owned_before : {v : _} {k : ℕ} {m n z : Maker} → Grown v m n → Owned k n.labels z → Owned k m.labels z
owned_before g o = record { stand = λ i h l. o.stand i h (omega (arith, g.more, l)) ∙ g.labels i l }

-- of fewer labels
pub owned_later : {j k : ℕ} {labels : List ℕ} {z : Maker} → j ≤ k → Owned j labels z → Owned k labels z
owned_later e o = record { stand = λ i h l. o.stand i (omega (arith, e, h)) l }

-- before a label was placed, of those behind it
pub owned_unplaced : {k : ℕ} {z : Maker} (label : ℕ) (m : Maker) → k ≤ label → Owned k (place label m).labels z → Owned (suc label) m.labels z
owned_unplaced label m e o = record {
  stand = λ i h l. o.stand i (omega (arith, e, h)) (omega (arith, l, length_set m.labels label (length m.items))) ∙ get_or-set_other m.labels label i (length m.items) 0 (λ same. omega (arith, same, h));
}

-- before an earlier label was placed
pub owned_unplaced_below : {k : ℕ} {z : Maker} (label : ℕ) (m : Maker) → label < k → Owned k (place label m).labels z → Owned k m.labels z
owned_unplaced_below label m e o = record {
  stand = λ i h l. o.stand i h (omega (arith, l, length_set m.labels label (length m.items))) ∙ get_or-set_other m.labels label i (length m.items) 0 (λ same. omega (arith, same, h, e));
}

-- where a label was placed
pub owned_placed : {k : ℕ} {z : Maker} (label : ℕ) (m : Maker) → k ≤ label → label < length m.labels → Owned k (place label m).labels z → pc_of_label z label ≡ length m.items
owned_placed label m e l o = o.stand label e (omega (arith, l, length_set m.labels label (length m.items))) ∙ get_or-set_same m.labels label (length m.items) 0 l

-- the end of a block and a jump have none
end_labels : (b : Bool) (line n : ℕ) (m : Maker) → (when b (close_from line n) (end_locals n m)).labels ≡ m.labels
end_labels true line n m = refl
end_labels false line n m = refl

pub owned_ends : {k : ℕ} {z : Maker} (line n : ℕ) (m : Maker) → Owned k (end_block line n m).labels z → Owned k m.labels z
owned_ends {k} {z} line n m o = subst (λ (ls : List ℕ). Owned k ls z) (end_labels (captured_from n m) line n m) o

jump_labels : (b : Bool) (line label : ℕ) (m : Maker) → (when b (jump_to line label) m).labels ≡ m.labels
jump_labels true line label m = refl
jump_labels false line label m = refl

pub owned_leaves : {k : ℕ} {z : Maker} (b : Bool) (line label : ℕ) (m : Maker) → Owned k (when b (jump_to line label) m).labels z → Owned k m.labels z
owned_leaves {k} {z} b line label m o = subst (λ (ls : List ℕ). Owned k ls z) (jump_labels b line label m) o

pub count_leaves : (b : Bool) (line label : ℕ) (m : Maker) → length (when b (jump_to line label) m).labels ≡ length m.labels
count_leaves true line label m = refl
count_leaves false line label m = refl

pub ends_keep : (line n : ℕ) (m : Maker) → (end_block line n m).labels ≡ m.labels
ends_keep line n m = end_labels (captured_from n m) line n m
