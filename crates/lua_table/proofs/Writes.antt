-- A table's entries and places after a write.
use Rattle.std.proofs.Common.{◌≡◌, Bool, true, false, [], ◌∷◌, if◌then◌else◌, refl, sym, ap, ◌∙◌, true≢false}
use Rattle.lua_model.specs.declared.Value.{Value}
use Rattle.lua_model.specs.declared.Value.TheVariants.{Nil}
use Rattle.lua_model.specs.Value.{same_value}
use Rattle.lua_table.specs.Entries.{Entries, entry, has_place, with_entry, is_nil_value}
use Rattle.lua_table.proofs.Equality.{same_self, same_trans, nil_is}

pub set_same : (ps : Entries) (k v : Value) → entry (with_entry ps k v) k ≡ v
set_same [] k v = by (is_nil_value v) refl
  where
    by : (b : Bool) → is_nil_value v ≡ b → entry (with_entry [] k v) k ≡ v
    by true e = ap (λ b. entry (if b then [] else ((k, v) ∷ [])) k) e ∙ sym (nil_is v e)
    by false e = ap (λ b. entry (if b then [] else ((k, v) ∷ [])) k) e ∙ ap (λ b. if b then v else Nil) (same_self k)
set_same (p ∷ ps) k v = by (same_value k p.0) refl (set_same ps k v)
  where
    by : (b : Bool) → same_value k p.0 ≡ b → entry (with_entry ps k v) k ≡ v → entry (with_entry (p ∷ ps) k v) k ≡ v
    by true e r = ap (λ b. entry (if b then ((p.0, v) ∷ ps) else (p ∷ with_entry ps k v)) k) e ∙ ap (λ b. if b then v else entry ps k) e
    by false e r = ap (λ b. entry (if b then ((p.0, v) ∷ ps) else (p ∷ with_entry ps k v)) k) e ∙ ap (λ b. if b then p.1 else entry (with_entry ps k v) k) e ∙ r

pub set_other : (ps : Entries) (k v j : Value) → same_value j k ≡ false → entry (with_entry ps k v) j ≡ entry ps j
set_other [] k v j n = by (is_nil_value v) refl
  where
    by : (b : Bool) → is_nil_value v ≡ b → entry (with_entry [] k v) j ≡ Nil
    by true e = ap (λ b. entry (if b then [] else ((k, v) ∷ [])) j) e
    by false e = ap (λ b. entry (if b then [] else ((k, v) ∷ [])) j) e ∙ ap (λ b. if b then v else Nil) n
set_other (p ∷ ps) k v j n = by (same_value k p.0) (same_value j p.0) refl refl (set_other ps k v j n)
  where
    by : (b c : Bool) → same_value k p.0 ≡ b → same_value j p.0 ≡ c → entry (with_entry ps k v) j ≡ entry ps j → entry (with_entry (p ∷ ps) k v) j ≡ entry (p ∷ ps) j
    by true true e f r = absurd (true≢false (sym (same_trans j k p.0 f e) ∙ n))
    by true false e f r = ap (λ b. entry (if b then ((p.0, v) ∷ ps) else (p ∷ with_entry ps k v)) j) e ∙ ap (λ b. if b then v else entry ps j) f ∙ sym (ap (λ b. if b then p.1 else entry ps j) f)
    by false true e f r = ap (λ b. entry (if b then ((p.0, v) ∷ ps) else (p ∷ with_entry ps k v)) j) e ∙ ap (λ b. if b then p.1 else entry (with_entry ps k v) j) f ∙ sym (ap (λ b. if b then p.1 else entry ps j) f)
    by false false e f r = ap (λ b. entry (if b then ((p.0, v) ∷ ps) else (p ∷ with_entry ps k v)) j) e ∙ ap (λ b. if b then p.1 else entry (with_entry ps k v) j) f ∙ r ∙ sym (ap (λ b. if b then p.1 else entry ps j) f)

pub place_stays : (ps : Entries) (k v j : Value) → has_place ps j ≡ true → has_place (with_entry ps k v) j ≡ true
place_stays [] k v j h = absurd (true≢false (sym h))
place_stays (p ∷ ps) k v j h = by (same_value k p.0) (same_value j p.0) refl refl (place_stays ps k v j)
  where
    by : (b c : Bool) → same_value k p.0 ≡ b → same_value j p.0 ≡ c → (has_place ps j ≡ true → has_place (with_entry ps k v) j ≡ true) → has_place (with_entry (p ∷ ps) k v) j ≡ true
    by true c e f r = ap (λ b. has_place (if b then ((p.0, v) ∷ ps) else (p ∷ with_entry ps k v)) j) e ∙ h
    by false true e f r = ap (λ b. has_place (if b then ((p.0, v) ∷ ps) else (p ∷ with_entry ps k v)) j) e ∙ ap (λ b. if b then true else has_place (with_entry ps k v) j) f
    by false false e f r = ap (λ b. has_place (if b then ((p.0, v) ∷ ps) else (p ∷ with_entry ps k v)) j) e ∙ ap (λ b. if b then true else has_place (with_entry ps k v) j) f ∙ r (sym (ap (λ b. if b then true else has_place ps j) f) ∙ h)
