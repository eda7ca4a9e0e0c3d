-- A row of values among other pairs, against the definitions by recursion.
use Rattle.std.proofs.Common.{◌≡◌, ℕ, zero, suc, ◌+◌, ◌<◌, ◌≤◌, Bool, true, false, List, [], ◌∷◌, ◌++◌, None, Some, length, take, drop, get_or, slice_set, position, if◌then◌else◌, cond, refl, sym, ap, subst, ◌∙◌, arith, true≢false, length-append}
use Rattle.std.proofs.lemmas.List.{take-append-drop, length-take-le}
use Rattle.std.proofs.Math.Seq.{take-append_seam, drop-append_seam, take-length, drop-length}
use Rattle.std.proofs.Math.ListN.{length-set}
use Rattle.std.specs.List.{position_from}
use Rattle.std.proofs.lemmas.Iterator.Adapters.{position_from-zero}
use Rattle.lua_model.specs.declared.Value.{Value}
use Rattle.lua_model.specs.declared.Value.TheVariants.{Nil}
use Rattle.lua_model.specs.Value.{same_value}
use Rattle.lua_table.specs.Entries.{Entries, entry, has_place, with_entry, first_pair, pair_after, number_key, is_nil_value}
use Rattle.lua_table.specs.Rows.{row_pairs, Split, marked, around, IsRowed, IsOutside}
use Rattle.lua_table.proofs.Equality.{same_swap}
use Rattle.lua_table.proofs.Lists.{kept_length}
use Rattle.lua_table.proofs.Places.{found, missing}
use Rattle.lua_table.proofs.Rows.{hit, miss, appended, length_rowed}

-- ---- two lists, one behind the other

pub record Past (xs ys : Entries) (k : Value) : Type 0 where
  pub value : entry (xs ++ ys) k ≡ entry ys k
  pub placed : has_place (xs ++ ys) k ≡ has_place ys k
  pub written : (w : Value) → with_entry (xs ++ ys) k w ≡ xs ++ with_entry ys k w
  pub next : pair_after (xs ++ ys) k ≡ pair_after ys k

pub past_all : (xs ys : Entries) (k : Value) → has_place xs k ≡ false → Past xs ys k
past_all [] ys k h = record { value = refl; placed = refl; written = λ w. refl; next = refl }
past_all (p ∷ xs) ys k h = by (same_value k p.0) refl (λ g. past_all xs ys k g)
  where
    by : (b : Bool) → same_value k p.0 ≡ b → (has_place xs k ≡ false → Past xs ys k) → Past (p ∷ xs) ys k
    by true e r = absurd (true≢false (sym (ap (λ b. if b then true else has_place xs k) e) ∙ h))
    by false e r =
        let g = r (sym (ap (λ b. if b then true else has_place xs k) e) ∙ h) in
        let qs : Entries = xs ++ ys in
        record {
          value = ap (λ b. if b then p.1 else entry qs k) e ∙ g.value;
          placed = ap (λ b. if b then true else has_place qs k) e ∙ g.placed;
          written = λ w. ap (λ b. if b then ((p.0, w) ∷ qs) else (p ∷ with_entry qs k w)) e ∙ ap (λ l. p ∷ l) (g.written w);
          next = ap (λ b. if b then Some (first_pair qs) else pair_after qs k) e ∙ g.next;
        }

pub record Within (xs ys : Entries) (k : Value) : Type 0 where
  pub value : entry (xs ++ ys) k ≡ entry xs k
  pub placed : has_place (xs ++ ys) k ≡ true
  pub written : (w : Value) → with_entry (xs ++ ys) k w ≡ with_entry xs k w ++ ys

pub within_front : (xs ys : Entries) (k : Value) → has_place xs k ≡ true → Within xs ys k
within_front [] ys k h = absurd (true≢false (sym h))
within_front (p ∷ xs) ys k h = by (same_value k p.0) refl (λ g. within_front xs ys k g)
  where
    by : (b : Bool) → same_value k p.0 ≡ b → (has_place xs k ≡ true → Within xs ys k) → Within (p ∷ xs) ys k
    by true e r =
        let qs : Entries = xs ++ ys in
        record {
          value = ap (λ b. if b then p.1 else entry qs k) e ∙ sym (ap (λ b. if b then p.1 else entry xs k) e);
          placed = ap (λ b. if b then true else has_place qs k) e;
          written = λ w. ap (λ b. if b then ((p.0, w) ∷ qs) else (p ∷ with_entry qs k w)) e ∙ sym (ap (λ b. (if b then ((p.0, w) ∷ xs) else (p ∷ with_entry xs k w)) ++ ys) e);
        }
    by false e r =
        let g = r (sym (ap (λ b. if b then true else has_place xs k) e) ∙ h) in
        let qs : Entries = xs ++ ys in
        record {
          value = ap (λ b. if b then p.1 else entry qs k) e ∙ g.value ∙ sym (ap (λ b. if b then p.1 else entry xs k) e);
          placed = ap (λ b. if b then true else has_place qs k) e ∙ g.placed;
          written = λ w. ap (λ b. if b then ((p.0, w) ∷ qs) else (p ∷ with_entry qs k w)) e ∙ ap (λ l. p ∷ l) (g.written w) ∙ sym (ap (λ b. (if b then ((p.0, w) ∷ xs) else (p ∷ with_entry xs k w)) ++ ys) e);
        }

pub first_some : (xs ys : Entries) (p : Value × Value) → first_pair xs ≡ Some p → first_pair (xs ++ ys) ≡ Some p
first_some [] ys p h = cc
first_some (q ∷ xs) ys p h = by (is_nil_value q.1) refl (λ g. first_some xs ys p g)
  where
    by : (b : Bool) → is_nil_value q.1 ≡ b → (first_pair xs ≡ Some p → first_pair (xs ++ ys) ≡ Some p) → first_pair ((q ∷ xs) ++ ys) ≡ Some p
    by true e r = ap (λ b. if b then first_pair (xs ++ ys) else Some q) e ∙ r (sym (ap (λ b. if b then first_pair xs else Some q) e) ∙ h)
    by false e r = ap (λ b. if b then first_pair (xs ++ ys) else Some q) e ∙ (sym (ap (λ b. if b then first_pair xs else Some q) e) ∙ h)

pub first_none : (xs ys : Entries) → first_pair xs ≡ None → first_pair (xs ++ ys) ≡ first_pair ys
first_none [] ys h = refl
first_none (q ∷ xs) ys h = by (is_nil_value q.1) refl (λ g. first_none xs ys g)
  where
    by : (b : Bool) → is_nil_value q.1 ≡ b → (first_pair xs ≡ None → first_pair (xs ++ ys) ≡ first_pair ys) → first_pair ((q ∷ xs) ++ ys) ≡ first_pair ys
    by true e r = ap (λ b. if b then first_pair (xs ++ ys) else Some q) e ∙ r (sym (ap (λ b. if b then first_pair xs else Some q) e) ∙ h)
    by false e r = let g : Some q ≡ None = sym (ap (λ b. if b then first_pair xs else Some q) e) ∙ h in cc

-- ---- places in a front

has_taken : (n : ℕ) (ps : Entries) (k : Value) → has_place ps k ≡ false → has_place (take n ps) k ≡ false
has_taken zero ps k h = refl
has_taken (suc n) [] k h = refl
has_taken (suc n) (p ∷ ps) k h = by (same_value k p.0) refl (λ g. has_taken n ps k g)
  where
    by : (b : Bool) → same_value k p.0 ≡ b → (has_place ps k ≡ false → has_place (take n ps) k ≡ false) → has_place (p ∷ take n ps) k ≡ false
    by true e r = absurd (true≢false (sym (ap (λ b. if b then true else has_place ps k) e) ∙ h))
    by false e r = ap (λ b. if b then true else has_place (take n ps) k) e ∙ r (sym (ap (λ b. if b then true else has_place ps k) e) ∙ h)

-- the first pair of a key is that at a place
abbrev pub Stands : Entries → Value → ℕ → Type 0
Stands [] k i = ⊥
Stands (p ∷ ps) k zero = same_value k p.0 ≡ true
Stands (p ∷ ps) k (suc i) = (same_value k p.0 ≡ false) × Stands ps k i

stands_from : (ps : Entries) (k : Value) (s i : ℕ) → position_from (λ p. same_value k p.0) s ps ≡ Some i → (j : ℕ) × (i ≡ s + j) × Stands ps k j
stands_from [] k s i e = cc
stands_from (p ∷ ps) k s i e = by (same_value k p.0) refl (λ q. stands_from ps k (s + 1) i q)
  where
    by : (b : Bool) → same_value k p.0 ≡ b → (position_from (λ q. same_value k q.0) (s + 1) ps ≡ Some i → (j : ℕ) × (i ≡ (s + 1) + j) × Stands ps k j) → (j : ℕ) × (i ≡ s + j) × Stands (p ∷ ps) k j
    by true t rest =
        let at : Some s ≡ Some i = sym (ap (λ b. cond b (Some s) (position_from (λ q. same_value k q.0) (s + 1) ps)) t) ∙ e in
        let same : s ≡ i = cc in (0, omega arith, t)
    by false t rest =
        let h = rest (sym (ap (λ b. cond b (Some s) (position_from (λ q. same_value k q.0) (s + 1) ps)) t) ∙ e) in
        (suc h.0, omega (arith, h.1), (t, h.2))

pub stands : (ps : Entries) (k : Value) (i : ℕ) → position (λ p. same_value k p.0) ps ≡ Some i → Stands ps k i
stands ps k i e =
    let h = stands_from ps k 0 i (sym (position_from-zero (λ p. same_value k p.0) ps) ∙ e) in
    let at : h.0 ≡ i = omega (arith, h.1) in
    subst (λ j. Stands ps k j) at h.2

after_front : (ps ys : Entries) (k : Value) (n i : ℕ) → Stands ps k i → i < n → pair_after (take n ps ++ ys) k ≡ Some (first_pair (drop (i + 1) (take n ps) ++ ys))
after_front [] ys k n i h l = absurd h
after_front (p ∷ ps) ys k zero i h l = absurd (omega arith)
after_front (p ∷ ps) ys k (suc n) zero h l = ap (λ b. if b then Some (first_pair (take n ps ++ ys)) else pair_after (take n ps ++ ys) k) h
after_front (p ∷ ps) ys k (suc n) (suc i) h l =
    ap (λ b. if b then Some (first_pair (take n ps ++ ys)) else pair_after (take n ps ++ ys) k) h.0
    ∙ after_front ps ys k n i h.1 (omega arith)
    ∙ ap (λ m. Some (first_pair (drop m (p ∷ take n ps) ++ ys))) (let q : suc (i + 1) ≡ suc i + 1 = omega arith in q)

stands_past : (ps : Entries) (k : Value) (n i : ℕ) → Stands ps k i → n ≤ i → has_place (take n ps) k ≡ false
stands_past ps k zero i h l = refl
stands_past [] k (suc n) i h l = refl
stands_past (p ∷ ps) k (suc n) zero h l = absurd (omega arith)
stands_past (p ∷ ps) k (suc n) (suc i) h l = ap (λ b. if b then true else has_place (take n ps) k) h.0 ∙ stands_past ps k n i h.1 (omega arith)

-- ---- a key of the row

pub record RowHit (s : Split) (vs : List Value) (i : ℕ) (k : Value) : Type 0 where
  pub value : (d : Value) → entry (around s vs) k ≡ get_or vs i d
  pub written : (w : Value) → with_entry (around s vs) k w ≡ around s (slice_set vs i w)
  pub next : pair_after (around s vs) k ≡ Some (first_pair (row_pairs (i + 1) (drop (i + 1) vs) ++ drop s.before s.pairs))

pub row_hit : (s : Split) (vs : List Value) (i : ℕ) (k : Value) → IsRowed s vs → i < length vs → k ≡ number_key (i + 1) → RowHit s vs i k
row_hit s vs i k r l e =
    let F : Entries = take s.before s.pairs in
    let B : Entries = drop s.before s.pairs in
    let q : i + 1 ≡ 0 + i + 1 = omega arith in
    let h = hit 0 vs B i k l (e ∙ ap number_key q) in
    let p = past_all F (row_pairs 0 vs ++ B) k (has_taken s.before s.pairs k (ap (has_place s.pairs) e ∙ r.apart i l)) in
    record {
      value = λ d. p.value ∙ h.value d;
      written = λ w. p.written w ∙ ap (λ es. F ++ es) (h.written w);
      next = p.next ∙ h.next ∙ ap (λ m. Some (first_pair (row_pairs m (drop (i + 1) vs) ++ B))) (sym q);
    }

-- ---- another key

record SplitHit (F B : Entries) (vs : List Value) (k : Value) : Type 0 where
  value : entry (F ++ (row_pairs 0 vs ++ B)) k ≡ entry (F ++ B) k
  placed : has_place (F ++ (row_pairs 0 vs ++ B)) k ≡ has_place (F ++ B) k
  written : (w : Value) → with_entry (F ++ (row_pairs 0 vs ++ B)) k w ≡ take (length F) (with_entry (F ++ B) k w) ++ (row_pairs 0 vs ++ drop (length F) (with_entry (F ++ B) k w))

split_hit : (F B : Entries) (vs : List Value) (k : Value) → IsOutside (length vs) k → SplitHit F B vs k
split_hit F B vs k o = by (has_place F k) refl
  where
    by : (b : Bool) → has_place F k ≡ b → SplitHit F B vs k
    by true e =
        let R : Entries = row_pairs 0 vs in
        let far = within_front F (R ++ B) k e in
        let near = within_front F B k e in
        record {
          value = far.value ∙ sym near.value;
          placed = far.placed ∙ sym near.placed;
          written = λ w.
              let W : Entries = with_entry F k w in
              let n : length F ≡ length W = sym (kept_length F k w e) in
              far.written w
              ∙ sym (ap (λ m. take m (W ++ B) ++ (R ++ drop m (W ++ B))) n ∙ ap (λ xs. xs ++ (R ++ drop (length W) (W ++ B))) (take-append_seam W B) ∙ ap (λ xs. W ++ (R ++ xs)) (drop-append_seam W B))
              ∙ sym (ap (λ ps. take (length F) ps ++ (R ++ drop (length F) ps)) (near.written w));
        }
    by false e =
        let R : Entries = row_pairs 0 vs in
        let far = past_all F (R ++ B) k e in
        let near = past_all F B k e in
        let m = miss vs B k o in
        record {
          value = far.value ∙ m.value ∙ sym near.value;
          placed = far.placed ∙ m.placed ∙ sym near.placed;
          written = λ w.
              let W : Entries = with_entry B k w in
              far.written w
              ∙ ap (λ es. F ++ es) (m.written w)
              ∙ sym (ap (λ xs. xs ++ (R ++ drop (length F) (F ++ W))) (take-append_seam F W) ∙ ap (λ xs. F ++ (R ++ xs)) (drop-append_seam F W))
              ∙ sym (ap (λ ps. take (length F) ps ++ (R ++ drop (length F) ps)) (near.written w));
        }

pub record RestHit (s : Split) (vs : List Value) (k : Value) : Type 0 where
  pub value : entry (around s vs) k ≡ entry s.pairs k
  pub placed : has_place (around s vs) k ≡ has_place s.pairs k
  pub written : (w : Value) → with_entry (around s vs) k w ≡ around (record s { pairs = with_entry s.pairs k w }) vs

pub rest_hit : (s : Split) (vs : List Value) (k : Value) → s.before ≤ length s.pairs → IsOutside (length vs) k → RestHit s vs k
rest_hit s vs k l o =
    let F : Entries = take s.before s.pairs in
    let B : Entries = drop s.before s.pairs in
    let R : Entries = row_pairs 0 vs in
    let h = split_hit F B vs k o in
    let all = take-append-drop s.before s.pairs in
    record {
      value = h.value ∙ ap (λ ps. entry ps k) all;
      placed = h.placed ∙ ap (λ ps. has_place ps k) all;
      written = λ w.
          h.written w
          ∙ ap (λ n. take n (with_entry (F ++ B) k w) ++ (R ++ drop n (with_entry (F ++ B) k w))) (length-take-le s.before s.pairs l)
          ∙ ap (λ ps. take s.before (with_entry ps k w) ++ (R ++ drop s.before (with_entry ps k w))) all;
    }

pub next_front : (s : Split) (vs : List Value) (k : Value) (i : ℕ) → position (λ p. same_value k p.0) s.pairs ≡ Some i → i < s.before → pair_after (around s vs) k ≡ Some (first_pair (drop (i + 1) (take s.before s.pairs) ++ (row_pairs 0 vs ++ drop s.before s.pairs)))
next_front s vs k i e l = after_front s.pairs (row_pairs 0 vs ++ drop s.before s.pairs) k s.before i (stands s.pairs k i e) l

same_after : (s : Split) (vs : List Value) (k : Value) → IsOutside (length vs) k → has_place (take s.before s.pairs) k ≡ false → pair_after (around s vs) k ≡ pair_after s.pairs k
same_after s vs k o h =
    let F : Entries = take s.before s.pairs in
    let B : Entries = drop s.before s.pairs in
    (past_all F (row_pairs 0 vs ++ B) k h).next ∙ (miss vs B k o).next ∙ sym (past_all F B k h).next ∙ ap (λ ps. pair_after ps k) (take-append-drop s.before s.pairs)

pub next_back : (s : Split) (vs : List Value) (k : Value) (i : ℕ) → IsOutside (length vs) k → position (λ p. same_value k p.0) s.pairs ≡ Some i → s.before ≤ i → pair_after (around s vs) k ≡ Some (first_pair (drop (i + 1) s.pairs))
next_back s vs k i o e l = same_after s vs k o (stands_past s.pairs k s.before i (stands s.pairs k i e) l) ∙ (found same_value Nil is_nil_value s.pairs k i e).next

pub next_none : (s : Split) (vs : List Value) (k : Value) → IsOutside (length vs) k → position (λ p. same_value k p.0) s.pairs ≡ None → pair_after (around s vs) k ≡ None
next_none s vs k o e =
    let m = missing same_value Nil is_nil_value s.pairs k e in
    same_after s vs k o (has_taken s.before s.pairs k m.has_not) ∙ m.next

-- ---- the row grows

append_nil : (xs : Entries) → xs ++ [] ≡ xs
append_nil [] = refl
append_nil (x ∷ xs) = ap (λ r. x ∷ r) (append_nil xs)

-- the row behind all pairs
behind_all : (ps : Entries) (vs : List Value) → take (length ps) ps ++ (row_pairs 0 vs ++ drop (length ps) ps) ≡ ps ++ (row_pairs 0 vs ++ [])
behind_all ps vs = ap (λ xs. xs ++ (row_pairs 0 vs ++ drop (length ps) ps)) (take-length ps) ∙ ap (λ xs. ps ++ (row_pairs 0 vs ++ xs)) (drop-length ps)

settled : (s : Split) (vs : List Value) → (0 < length vs → s.before ≡ length s.pairs) → around s vs ≡ s.pairs ++ (row_pairs 0 vs ++ [])
settled s [] h = take-append-drop s.before s.pairs ∙ sym (append_nil s.pairs)
settled s (v ∷ vs) h =
    let R : Entries = row_pairs 0 (v ∷ vs) in
    ap (λ n. take n s.pairs ++ (R ++ drop n s.pairs)) (h (omega arith)) ∙ behind_all s.pairs (v ∷ vs)

pub grown : (s : Split) (vs : List Value) (k v : Value) → IsOutside (length vs) k → (0 < length vs → s.before ≡ length s.pairs) → has_place s.pairs k ≡ false → k ≡ number_key (length vs + 1) → is_nil_value v ≡ false → around (marked s) (vs ++ v ∷ []) ≡ with_entry (around s vs) k v
grown s vs k v o b h e n =
    let R : Entries = row_pairs 0 vs ++ [] in
    behind_all s.pairs (vs ++ v ∷ [])
    ∙ ap (λ es. s.pairs ++ es) (appended vs [] k v o refl e n)
    ∙ sym ((past_all s.pairs R k h).written v)
    ∙ ap (λ ps. with_entry ps k v) (sym (settled s vs b))

-- ---- a write among the others

not_shorter : (ps : Entries) (k v : Value) → length ps ≤ length (with_entry ps k v)
not_shorter [] k v = omega arith
not_shorter (p ∷ ps) k v = by (same_value k p.0) refl (not_shorter ps k v)
  where
    by : (b : Bool) → same_value k p.0 ≡ b → length ps ≤ length (with_entry ps k v) → suc (length ps) ≤ length (with_entry (p ∷ ps) k v)
    by true e r = subst (λ b. suc (length ps) ≤ length (if b then ((p.0, v) ∷ ps) else (p ∷ with_entry ps k v))) (sym e) (omega arith)
    by false e r = subst (λ b. suc (length ps) ≤ length (if b then ((p.0, v) ∷ ps) else (p ∷ with_entry ps k v))) (sym e) (omega arith)

no_new_place : (ps : Entries) (k v j : Value) → same_value j k ≡ false → has_place ps j ≡ false → has_place (with_entry ps k v) j ≡ false
no_new_place [] k v j n h = by (is_nil_value v) refl
  where
    by : (b : Bool) → is_nil_value v ≡ b → has_place (with_entry [] k v) j ≡ false
    by true e = ap (λ b. has_place (if b then [] else ((k, v) ∷ [])) j) e
    by false e = ap (λ b. has_place (if b then [] else ((k, v) ∷ [])) j) e ∙ ap (λ b. if b then true else false) n
no_new_place (p ∷ ps) k v j n h = by (same_value k p.0) (same_value j p.0) refl refl (no_new_place ps k v j n)
  where
    by : (b c : Bool) → same_value k p.0 ≡ b → same_value j p.0 ≡ c → (has_place ps j ≡ false → has_place (with_entry ps k v) j ≡ false) → has_place (with_entry (p ∷ ps) k v) j ≡ false
    by b true e f r = absurd (true≢false (sym (ap (λ c. if c then true else has_place ps j) f) ∙ h))
    by true false e f r = ap (λ b. has_place (if b then ((p.0, v) ∷ ps) else (p ∷ with_entry ps k v)) j) e ∙ h
    by false false e f r = ap (λ b. has_place (if b then ((p.0, v) ∷ ps) else (p ∷ with_entry ps k v)) j) e ∙ ap (λ c. if c then true else has_place (with_entry ps k v) j) f ∙ r (sym (ap (λ c. if c then true else has_place ps j) f) ∙ h)

pub written_rowed : (s : Split) (vs : List Value) (k v : Value) → IsRowed s vs → IsOutside (length vs) k → IsRowed (record s { pairs = with_entry s.pairs k v }) vs
written_rowed s vs k v r o = record {
  short = r.short;
  within = omega (arith, r.within, not_shorter s.pairs k v);
  apart = λ i l. no_new_place s.pairs k v (number_key (i + 1)) (same_swap k (number_key (i + 1)) (o i l)) (r.apart i l);
}

pub set_rowed : (s : Split) (vs : List Value) (i : ℕ) (w : Value) → IsRowed s vs → IsRowed s (slice_set vs i w)
set_rowed s vs i w r = record {
  short = omega (arith, r.short, length-set {A = Value});
  within = r.within;
  apart = λ j l. r.apart j (omega (arith, l, length-set {A = Value}));
}

pub length_around : (s : Split) (vs : List Value) → length (around s vs) ≡ length vs + length s.pairs
length_around s vs =
    let F : Entries = take s.before s.pairs in
    let B : Entries = drop s.before s.pairs in
    omega (arith, length-append F (row_pairs 0 vs ++ B), length_rowed vs B, length-append F B, ap length (take-append-drop s.before s.pairs))
