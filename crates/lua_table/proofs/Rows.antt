-- A row of values before other pairs, against the definitions by recursion.
use Rattle.std.proofs.Common.{◌≡◌, ℕ, zero, suc, ◌+◌, ◌<◌, true, false, List, [], ◌∷◌, ◌++◌, Some, length, drop, get_or, slice_set, if◌then◌else◌, refl, sym, ap, ◌∙◌, arith}
use Rattle.lua_model.specs.declared.Value.{Value}
use Rattle.lua_model.specs.Value.{same_value}
use Rattle.lua_table.specs.Entries.{Entries, entry, has_place, with_entry, first_pair, pair_after, number_key, is_nil_value}
use Rattle.lua_table.proofs.Equality.{key_same, key_other}
use Rattle.lua_table.specs.Rows.{row_pairs, IsOutside}

pub record Hit (n : ℕ) (vs : List Value) (es : Entries) (i : ℕ) (k : Value) : Type 0 where
  pub value : (d : Value) → entry (row_pairs n vs ++ es) k ≡ get_or vs i d
  pub placed : has_place (row_pairs n vs ++ es) k ≡ true
  pub written : (w : Value) → with_entry (row_pairs n vs ++ es) k w ≡ row_pairs n (slice_set vs i w) ++ es
  pub next : pair_after (row_pairs n vs ++ es) k ≡ Some (first_pair (row_pairs (n + i + 1) (drop (i + 1) vs) ++ es))

pub hit : (n : ℕ) (vs : List Value) (es : Entries) (i : ℕ) (k : Value) → i < length vs → k ≡ number_key (n + i + 1) → Hit n vs es i k
hit n [] es i k l e = absurd (omega arith)
hit n (v ∷ vs) es zero k l e =
    let t : same_value k (number_key (n + 1)) ≡ true = ap (λ j. same_value j (number_key (n + 1))) e ∙ key_same (n + 0 + 1) (n + 1) (omega arith) in
    let p : Value × Value = (number_key (n + 1), v) in
    let ps : Entries = row_pairs (n + 1) vs ++ es in
    record {
      value = λ d. ap (λ b. if b then v else entry ps k) t;
      placed = ap (λ b. if b then true else has_place ps k) t;
      written = λ w. ap (λ b. if b then ((number_key (n + 1), w) ∷ ps) else (p ∷ with_entry ps k w)) t;
      next = ap (λ b. if b then Some (first_pair ps) else pair_after ps k) t ∙ ap (λ m. Some (first_pair (row_pairs m vs ++ es))) (let q : n + 1 ≡ n + 0 + 1 = omega arith in q);
    }
hit n (v ∷ vs) es (suc i) k l e =
    let t : same_value k (number_key (n + 1)) ≡ false = ap (λ j. same_value j (number_key (n + 1))) e ∙ key_other (n + suc i + 1) (n + 1) (omega arith) in
    let p : Value × Value = (number_key (n + 1), v) in
    let ps : Entries = row_pairs (n + 1) vs ++ es in
    let h = hit (n + 1) vs es i k (omega arith) (e ∙ ap number_key (let q : n + suc i + 1 ≡ n + 1 + i + 1 = omega arith in q)) in
    record {
      value = λ d. ap (λ b. if b then v else entry ps k) t ∙ h.value d;
      placed = ap (λ b. if b then true else has_place ps k) t ∙ h.placed;
      written = λ w. ap (λ b. if b then ((number_key (n + 1), w) ∷ ps) else (p ∷ with_entry ps k w)) t ∙ ap (λ r. p ∷ r) (h.written w);
      next = ap (λ b. if b then Some (first_pair ps) else pair_after ps k) t ∙ h.next ∙ ap (λ m. Some (first_pair (row_pairs m (drop (i + 1) vs) ++ es))) (let q : n + 1 + i + 1 ≡ n + suc i + 1 = omega arith in q) ∙ ap (λ m. Some (first_pair (row_pairs (n + suc i + 1) (drop m (v ∷ vs)) ++ es))) (let q : suc (i + 1) ≡ suc i + 1 = omega arith in q);
    }

pub record Miss (n : ℕ) (vs : List Value) (es : Entries) (k : Value) : Type 0 where
  pub value : entry (row_pairs n vs ++ es) k ≡ entry es k
  pub placed : has_place (row_pairs n vs ++ es) k ≡ has_place es k
  pub written : (w : Value) → with_entry (row_pairs n vs ++ es) k w ≡ row_pairs n vs ++ with_entry es k w
  pub next : pair_after (row_pairs n vs ++ es) k ≡ pair_after es k

miss_from : (n : ℕ) (vs : List Value) (es : Entries) (k : Value) → ((i : ℕ) → i < length vs → same_value k (number_key (n + i + 1)) ≡ false) → Miss n vs es k
miss_from n [] es k h = record { value = refl; placed = refl; written = λ w. refl; next = refl }
miss_from n (v ∷ vs) es k h =
    let t : same_value k (number_key (n + 1)) ≡ false = ap (λ m. same_value k (number_key m)) (let q : n + 1 ≡ n + 0 + 1 = omega arith in q) ∙ h 0 (omega arith) in
    let p : Value × Value = (number_key (n + 1), v) in
    let ps : Entries = row_pairs (n + 1) vs ++ es in
    let r = miss_from (n + 1) vs es k (λ i l. ap (λ m. same_value k (number_key m)) (let q : n + 1 + i + 1 ≡ n + suc i + 1 = omega arith in q) ∙ h (suc i) (omega arith)) in
    record {
      value = ap (λ b. if b then v else entry ps k) t ∙ r.value;
      placed = ap (λ b. if b then true else has_place ps k) t ∙ r.placed;
      written = λ w. ap (λ b. if b then ((number_key (n + 1), w) ∷ ps) else (p ∷ with_entry ps k w)) t ∙ ap (λ r. p ∷ r) (r.written w);
      next = ap (λ b. if b then Some (first_pair ps) else pair_after ps k) t ∙ r.next;
    }

pub miss : (vs : List Value) (es : Entries) (k : Value) → IsOutside (length vs) k → Miss 0 vs es k
miss vs es k h = miss_from 0 vs es k (λ i l. ap (λ m. same_value k (number_key m)) (let q : 0 + i + 1 ≡ i + 1 = omega arith in q) ∙ h i l)

grown_from : (n : ℕ) (vs : List Value) (w : Value) → row_pairs n (vs ++ w ∷ []) ≡ row_pairs n vs ++ (number_key (n + length vs + 1), w) ∷ []
grown_from n [] w = ap (λ m. (number_key m, w) ∷ []) (let q : n + 1 ≡ n + 0 + 1 = omega arith in q)
grown_from n (v ∷ vs) w = ap (λ r. (number_key (n + 1), v) ∷ r) (grown_from (n + 1) vs w ∙ ap (λ m. row_pairs (n + 1) vs ++ (number_key m, w) ∷ []) (let q : n + 1 + length vs + 1 ≡ n + suc (length vs) + 1 = omega arith in q))

pub grown : (vs : List Value) (w : Value) → row_pairs 0 (vs ++ w ∷ []) ≡ row_pairs 0 vs ++ (number_key (length vs + 1), w) ∷ []
grown vs w = grown_from 0 vs w ∙ ap (λ m. row_pairs 0 vs ++ (number_key m, w) ∷ []) (let q : 0 + length vs + 1 ≡ length vs + 1 = omega arith in q)

end : (xs : Entries) (p : Value × Value) → (xs ++ p ∷ []) ++ [] ≡ xs ++ p ∷ []
end [] p = refl
end (x ∷ xs) p = ap (λ r. x ∷ r) (end xs p)

-- the key after the row, where nothing else stands
pub appended : (vs : List Value) (es : Entries) (k v : Value) → IsOutside (length vs) k → es ≡ [] → k ≡ number_key (length vs + 1) → is_nil_value v ≡ false → row_pairs 0 (vs ++ v ∷ []) ++ es ≡ with_entry (row_pairs 0 vs ++ es) k v
appended vs es k v h e q n =
    ap (λ r. row_pairs 0 (vs ++ v ∷ []) ++ r) e
    ∙ ap (λ r. r ++ []) (grown vs v ∙ ap (λ j. row_pairs 0 vs ++ (j, v) ∷ []) (sym q))
    ∙ end (row_pairs 0 vs) (k, v)
    ∙ ap (λ b. row_pairs 0 vs ++ (if b then [] else ((k, v) ∷ []))) (sym n)
    ∙ ap (λ r. row_pairs 0 vs ++ with_entry r k v) (sym e)
    ∙ sym ((miss vs es k h).written v)

length_from : (n : ℕ) (vs : List Value) (es : Entries) → length (row_pairs n vs ++ es) ≡ length vs + length es
length_from n [] es = let q : length es ≡ 0 + length es = omega arith in q
length_from n (v ∷ vs) es = ap suc (length_from (n + 1) vs es) ∙ (let q : suc (length vs + length es) ≡ suc (length vs) + length es = omega arith in q)

pub length_rowed : (vs : List Value) (es : Entries) → length (row_pairs 0 vs ++ es) ≡ length vs + length es
length_rowed vs es = length_from 0 vs es
