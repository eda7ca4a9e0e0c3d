-- The entries of the map against the definitions by recursion.
use Rattle.std.proofs.Common.{◌≡◌, Bool, true, false, [], ◌∷◌, Option, None, Some, if◌then◌else◌, cond, is_some, refl, sym, ap, ◌∙◌, true≢false}
use Rattle.lua_model.specs.declared.Value.{Value}
use Rattle.lua_model.specs.declared.Value.TheVariants.{Nil, Bool as Boolean, Number, Text, Table, Closure, Native, Host}
use Rattle.lua_model.specs.Value.{same_value}
use Rattle.lua_model.specs.contracts.ValuePartialEq.TheImpl.{eq-value}
use Rattle.std.specs.Map.{lookup}
use Rattle.indexmap.specs.IndexMap.{insert_entry}
use Rattle.lua_table.specs.Entries.{Entries, entry, has_place, with_entry, is_nil_value}

abbrev pub eq : Value → Value → Bool
eq = eq-value.it

pub value_eq : (a b : Value) → eq a b ≡ same_value a b
value_eq Nil Nil = refl
value_eq (Boolean a) (Boolean b) = refl
value_eq (Number a) (Number b) = refl
value_eq (Text a) (Text b) = refl
value_eq (Table a) (Table b) = refl
value_eq (Closure a) (Closure b) = refl
value_eq (Native a) (Native b) = refl
value_eq (Host a) (Host b) = refl
value_eq _ _ = refl

abbrev pub or_nil : Option Value → Value
or_nil None = Nil
or_nil (Some v) = v

pub entry_lookup : (ps : Entries) (k : Value) → or_nil (lookup (eq k) ps) ≡ entry ps k
entry_lookup [] k = refl
entry_lookup (p ∷ ps) k = by (same_value k p.0) refl (entry_lookup ps k)
  where
    by : (b : Bool) → same_value k p.0 ≡ b → or_nil (lookup (eq k) ps) ≡ entry ps k → or_nil (lookup (eq k) (p ∷ ps)) ≡ entry (p ∷ ps) k
    by true e r = ap (λ b. or_nil (cond b (Some p.1) (lookup (eq k) ps))) (value_eq k p.0 ∙ e) ∙ sym (ap (λ b. if b then p.1 else entry ps k) e)
    by false e r = ap (λ b. or_nil (cond b (Some p.1) (lookup (eq k) ps))) (value_eq k p.0 ∙ e) ∙ r ∙ sym (ap (λ b. if b then p.1 else entry ps k) e)

pub has_lookup : (ps : Entries) (k : Value) → is_some (lookup (eq k) ps) ≡ has_place ps k
has_lookup [] k = refl
has_lookup (p ∷ ps) k = by (same_value k p.0) refl (has_lookup ps k)
  where
    by : (b : Bool) → same_value k p.0 ≡ b → is_some (lookup (eq k) ps) ≡ has_place ps k → is_some (lookup (eq k) (p ∷ ps)) ≡ has_place (p ∷ ps) k
    by true e r = ap (λ b. is_some (cond b (Some p.1) (lookup (eq k) ps))) (value_eq k p.0 ∙ e) ∙ sym (ap (λ b. if b then true else has_place ps k) e)
    by false e r = ap (λ b. is_some (cond b (Some p.1) (lookup (eq k) ps))) (value_eq k p.0 ∙ e) ∙ r ∙ sym (ap (λ b. if b then true else has_place ps k) e)

-- where the key has a place, or the value is one
pub insert_means : (ps : Entries) (k v : Value) → (has_place ps k ≡ false → is_nil_value v ≡ false) → insert_entry eq ps k v ≡ with_entry ps k v
insert_means [] k v h = sym (ap (λ b. if b then [] else ((k, v) ∷ [])) (h refl))
insert_means (p ∷ ps) k v h = by (same_value k p.0) refl (λ g. insert_means ps k v g)
  where
    by : (b : Bool) → same_value k p.0 ≡ b → ((has_place ps k ≡ false → is_nil_value v ≡ false) → insert_entry eq ps k v ≡ with_entry ps k v) → insert_entry eq (p ∷ ps) k v ≡ with_entry (p ∷ ps) k v
    by true e r = ap (λ b. if b then ((p.0, v) ∷ ps) else (p ∷ insert_entry eq ps k v)) (value_eq k p.0 ∙ e) ∙ sym (ap (λ b. if b then ((p.0, v) ∷ ps) else (p ∷ with_entry ps k v)) e)
    by false e r = ap (λ b. if b then ((p.0, v) ∷ ps) else (p ∷ insert_entry eq ps k v)) (value_eq k p.0 ∙ e) ∙ ap (λ l. p ∷ l) (r (λ g. h (ap (λ b. if b then true else has_place ps k) e ∙ g))) ∙ sym (ap (λ b. if b then ((p.0, v) ∷ ps) else (p ∷ with_entry ps k v)) e)

pub nil_kept : (ps : Entries) (k v : Value) → has_place ps k ≡ false → is_nil_value v ≡ true → with_entry ps k v ≡ ps
nil_kept [] k v h n = ap (λ b. if b then [] else ((k, v) ∷ [])) n
nil_kept (p ∷ ps) k v h n = by (same_value k p.0) refl (λ g. nil_kept ps k v g n)
  where
    by : (b : Bool) → same_value k p.0 ≡ b → (has_place ps k ≡ false → with_entry ps k v ≡ ps) → with_entry (p ∷ ps) k v ≡ p ∷ ps
    by true e r = absurd (true≢false (sym (ap (λ b. if b then true else has_place ps k) e) ∙ h))
    by false e r = ap (λ b. if b then ((p.0, v) ∷ ps) else (p ∷ with_entry ps k v)) e ∙ ap (λ l. p ∷ l) (r (sym (ap (λ b. if b then true else has_place ps k) e) ∙ h))
