-- Short lists of pairs, and such a list put into a map.
use Rattle.std.proofs.Common.{◌≡◌, ℕ, zero, suc, ◌<◌, Bool, true, false, [], ◌∷◌, ◌++◌, length, take, get_or, if◌then◌else◌, refl, sym, ap, subst, ◌∙◌, arith, true≢false, length-append}
use Rattle.std.specs.List.{IsDistinct, AllByRecursion}
use Rattle.std.specs.Map.{keys_of}
use Rattle.indexmap.specs.IndexMap.{insert_entry}
use Rattle.lua_model.specs.declared.Value.{Value}
use Rattle.lua_model.specs.Value.{same_value}
use Rattle.lua_table.specs.Entries.{Entries, has_place, with_entry, is_nil_value}
use Rattle.lua_table.specs.Rows.{AreFew}
use Rattle.lua_table.proofs.Equality.{same_swap}
use Rattle.lua_table.proofs.Mapped.{eq, value_eq}
use Rattle.lua_table.proofs.Walks.{distinct}

pub one_few : (p : Value × Value) → AreFew (p ∷ [])
unfolding IsDistinct
one_few p = record { few = omega arith; apart = (tt, tt) }

pub last_entry : (ps : Entries) (k v : Value) → has_place ps k ≡ false → is_nil_value v ≡ false → ps ++ (k, v) ∷ [] ≡ with_entry ps k v
last_entry [] k v h n = sym (ap (λ b. if b then [] else ((k, v) ∷ [])) n)
last_entry (p ∷ ps) k v h n = by (same_value k p.0) refl (λ g. last_entry ps k v g n)
  where
    by : (b : Bool) → same_value k p.0 ≡ b → (has_place ps k ≡ false → ps ++ (k, v) ∷ [] ≡ with_entry ps k v) → p ∷ (ps ++ (k, v) ∷ []) ≡ with_entry (p ∷ ps) k v
    by true e r = absurd (true≢false (sym (ap (λ b. if b then true else has_place ps k) e) ∙ h))
    by false e r = ap (λ l. p ∷ l) (r (sym (ap (λ b. if b then true else has_place ps k) e) ∙ h)) ∙ sym (ap (λ b. if b then ((p.0, v) ∷ ps) else (p ∷ with_entry ps k v)) e)

-- a pair whose key has no place comes last
pub few_more : (ps : Entries) (k v : Value) → AreFew ps → length ps < 8 → has_place ps k ≡ false → is_nil_value v ≡ false → AreFew (ps ++ (k, v) ∷ [])
few_more ps k v f l h n = record {
  few = omega (arith, length-append ps ((k, v) ∷ []));
  apart = subst (λ qs. IsDistinct same_value (keys_of qs)) (sym (last_entry ps k v h n)) (distinct ps k v f.apart);
}

-- a key that has a place keeps it
pub kept_length : (ps : Entries) (k v : Value) → has_place ps k ≡ true → length (with_entry ps k v) ≡ length ps
kept_length [] k v h = absurd (true≢false (sym h))
kept_length (p ∷ ps) k v h = by (same_value k p.0) refl (λ g. kept_length ps k v g)
  where
    by : (b : Bool) → same_value k p.0 ≡ b → (has_place ps k ≡ true → length (with_entry ps k v) ≡ length ps) → length (with_entry (p ∷ ps) k v) ≡ suc (length ps)
    by true e r = ap (λ b. length (if b then ((p.0, v) ∷ ps) else (p ∷ with_entry ps k v))) e
    by false e r = ap (λ b. length (if b then ((p.0, v) ∷ ps) else (p ∷ with_entry ps k v))) e ∙ ap suc (r (sym (ap (λ b. if b then true else has_place ps k) e) ∙ h))

pub few_kept : (ps : Entries) (k v : Value) → AreFew ps → has_place ps k ≡ true → AreFew (with_entry ps k v)
few_kept ps k v f h = record {
  few = omega (arith, kept_length ps k v h, f.few);
  apart = distinct ps k v f.apart;
}

-- ---- into a map

unlike_each : (q : Value) (ps : Entries) (i : ℕ) (d : Value × Value) → AllByRecursion (λ y. same_value q y ≡ false) (keys_of ps) → i < length ps → same_value (get_or ps i d).0 q ≡ false
unlike_each q [] i d h l = absurd (omega arith)
unlike_each q (p ∷ ps) zero d h l = same_swap q p.0 h.0
unlike_each q (p ∷ ps) (suc i) d h l = unlike_each q ps i d h.1 (omega arith)

-- the next pair comes last behind those before it
pub inserted : (ps : Entries) (i : ℕ) (d : Value × Value) → IsDistinct same_value (keys_of ps) → i < length ps → insert_entry eq (take i ps) (get_or ps i d).0 (get_or ps i d).1 ≡ take (suc i) ps
unfolding IsDistinct
inserted [] i d h l = absurd (omega arith)
inserted (p ∷ ps) zero d h l = refl
inserted (p ∷ ps) (suc i) d h l =
    let q = get_or ps i d in
    ap (λ b. if b then ((p.0, q.1) ∷ take i ps) else (p ∷ insert_entry eq (take i ps) q.0 q.1)) (value_eq q.0 p.0 ∙ unlike_each p.0 ps i d h.0 (omega arith)) ∙ ap (λ r. p ∷ r) (inserted ps i d h.1 (omega arith))
