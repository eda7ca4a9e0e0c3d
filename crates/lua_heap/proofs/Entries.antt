-- What entries of a table stand for, and that what they give is the heap's.
use Rattle.std.proofs.Common.{◌≡◌, ℕ, suc, ◌+◌, Bool, true, false, [], ◌∷◌, Some, IfSome, option_map, if◌then◌else◌, pos, refl, sym, ap, ◌∙◌, arith, true≢false, inl, inr}
use Rattle.std.proofs.lemmas.Bool.{cases_order}
use Rattle.std.specs.List.{All}
use Rattle.std.proofs.lemmas.List.Elements.{All-nil, All-cons, All-head, All-tail}
use Rattle.lua_model.specs.declared.Value.{Value}
use Rattle.lua_model.specs.declared.Value.TheVariants.{Nil}
use Rattle.lua_model.specs.Datum.{nil, number, is_nil, raw_equal}
use Rattle.lua_model.specs.Laws.{IsBorder}
use Rattle.lua_model.specs.Store.{pair_value, with_pair}
use Rattle.lua_model.specs.Value.{same_value}
use Rattle.lua_table.specs.Entries.{Entries, entry, has_place, with_entry, first_pair, pair_after, next_of as next_entry, is_nil_value, number_key, IsBorder as IsBorderOfEntries}
use Rattle.string_pool.specs.Texts.{TextsDiffer}
use Rattle.lua_heap.specs.State.{HeapState, datum, datum_in, IsOf, ArePairsOf, pair_of, pairs_of, has_key, next_of}
use Rattle.lua_heap.proofs.Mapped.{chosen, get-map, has-map, set-map, first-map, after-map}
use Rattle.lua_heap.proofs.Alike.{alike, nil_datum}

-- ---- what they stand for

module _ (s : HeapState) (differ : TextsDiffer s.texts) (k : Value) (known : IsOf s k) (ps : Entries) (pairs : ArePairsOf s ps) where
  pub entry_means : pair_value (pairs_of s ps) (datum s k) ≡ datum s (entry ps k)
  entry_means = get-map same_value Nil is_nil_value raw_equal nil is_nil (datum_in s.texts) (datum_in s.texts) refl (nil_datum s.texts) ps k (alike s differ k known ps pairs)

  pub place_means : has_key (pairs_of s ps) (datum s k) ≡ has_place ps k
  place_means = has-map same_value Nil is_nil_value raw_equal nil is_nil (datum_in s.texts) (datum_in s.texts) refl (nil_datum s.texts) ps k (alike s differ k known ps pairs)

  pub write_means : (v : Value) → with_pair (pairs_of s ps) (datum s k) (datum s v) ≡ pairs_of s (with_entry ps k v)
  write_means v = set-map same_value Nil is_nil_value raw_equal nil is_nil (datum_in s.texts) (datum_in s.texts) refl (nil_datum s.texts) ps k v (alike s differ k known ps pairs)

  pub next_means : next_of (pairs_of s ps) (datum s k) ≡ option_map (option_map (pair_of s)) (next_entry ps k)
  next_means =
      chosen (option_map (option_map (pair_of s))) _ _ (Some (first_pair ps)) (pair_after ps k) _ _ (nil_datum s.texts k)
      (ap Some (first-map same_value Nil is_nil_value raw_equal nil is_nil (datum_in s.texts) (datum_in s.texts) refl (nil_datum s.texts) ps))
      (after-map same_value Nil is_nil_value raw_equal nil is_nil (datum_in s.texts) (datum_in s.texts) refl (nil_datum s.texts) ps k (alike s differ k known ps pairs))

-- ---- what they give is the heap's

pub entry_known : (s : HeapState) (ps : Entries) (k : Value) → ArePairsOf s ps → IsOf s (entry ps k)
entry_known s [] k h = tt
entry_known s (p ∷ ps) k h =
    by (same_value k p.0) (All-head (λ q. IsOf s q.0 × IsOf s q.1) p ps h).1 (entry_known s ps k (All-tail (λ q. IsOf s q.0 × IsOf s q.1) p ps h))
  where
    by : (b : Bool) → IsOf s p.1 → IsOf s (entry ps k) → IsOf s (if b then p.1 else entry ps k)
    by true l r = l
    by false l r = r

-- a write keeps what holds of each pair
pub write_keeps : (P : Value × Value → Type 0) (ps : Entries) (k v : Value) → All P ps → P (k, v) → ((p : Value × Value) → P p → P (p.0, v)) → All P (with_entry ps k v)
write_keeps P [] k v h new over = by (is_nil_value v)
  where
    by : (b : Bool) → All P (if b then [] else ((k, v) ∷ []))
    by true = All-nil P
    by false = All-cons P (k, v) [] new (All-nil P)
write_keeps P (p ∷ ps) k v h new over = by (same_value k p.0) (write_keeps P ps k v (All-tail P p ps h) new over)
  where
    by : (b : Bool) → All P (with_entry ps k v) → All P (if b then ((p.0, v) ∷ ps) else (p ∷ with_entry ps k v))
    by true r = All-cons P (p.0, v) ps (over p (All-head P p ps h)) (All-tail P p ps h)
    by false r = All-cons P p (with_entry ps k v) (All-head P p ps h) r

pub write_known : (s : HeapState) (ps : Entries) (k v : Value) → ArePairsOf s ps → IsOf s k → IsOf s v → ArePairsOf s (with_entry ps k v)
write_known s ps k v h l m = write_keeps (λ q. IsOf s q.0 × IsOf s q.1) ps k v h (l, m) (λ p q. (q.0, m))

first_known : (P : Value × Value → Type 0) (ps : Entries) → All P ps → IfSome (first_pair ps) P
first_known P [] h = tt
first_known P (p ∷ ps) h = by (is_nil_value p.1) (first_known P ps (All-tail P p ps h))
  where
    by : (b : Bool) → IfSome (first_pair ps) P → IfSome (if b then first_pair ps else Some p) P
    by true r = r
    by false r = All-head P p ps h

after_known : (P : Value × Value → Type 0) (ps : Entries) (k : Value) → All P ps → IfSome (pair_after ps k) (λ r. IfSome r P)
after_known P [] k h = tt
after_known P (p ∷ ps) k h = by (same_value k p.0) (after_known P ps k (All-tail P p ps h))
  where
    by : (b : Bool) → IfSome (pair_after ps k) (λ r. IfSome r P) → IfSome (if b then Some (first_pair ps) else pair_after ps k) (λ r. IfSome r P)
    by true r = first_known P ps (All-tail P p ps h)
    by false r = r

pub next_known : (P : Value × Value → Type 0) (ps : Entries) (k : Value) → All P ps → IfSome (next_entry ps k) (λ r. IfSome r P)
next_known P ps k h = by (is_nil_value k)
  where
    by : (b : Bool) → IfSome (if b then Some (first_pair ps) else pair_after ps k) (λ r. IfSome r P)
    by true = first_known P ps h
    by false = after_known P ps k h

-- ---- borders

pub nil_entry : (s : HeapState) → TextsDiffer s.texts → (ps : Entries) → ArePairsOf s ps → (n : ℕ) → is_nil (pair_value (pairs_of s ps) (number (pos (suc n)))) ≡ is_nil_value (entry ps (number_key (n + 1)))
nil_entry s d ps h n =
    let next : suc n ≡ n + 1 = omega arith in
    ap is_nil (entry_means s d (number_key (suc n)) tt ps h) ∙ nil_datum s.texts (entry ps (number_key (suc n))) ∙ ap (λ m. is_nil_value (entry ps (number_key m))) next

-- two least borders are one
pub border_is : (s : HeapState) → TextsDiffer s.texts → (ps : Entries) → ArePairsOf s ps → (n m : ℕ) → IsBorderOfEntries ps n → IsBorder (pairs_of s ps) m → n ≡ m
border_is s d ps h n m a b =
    elim (cases_order n m) [
      | inl e ↦ e
      | inr (inl l) ↦ absurd (true≢false (sym a.ends ∙ sym (nil_entry s d ps h n) ∙ b.goes n l))
      | inr (inr l) ↦ absurd (true≢false (sym b.ends ∙ nil_entry s d ps h m ∙ a.goes m l))
    ]
