-- Raw equality of values is equality; keys that are numbers are equal where their numbers are.
use Rattle.std.proofs.Common.{◌≡◌, ◌↔◌, ℕ, ◌<◌, Bool, true, false, nat_eq, refl, sym, ap, ◌∙◌, arith, true≢false}
use Rattle.std.specs.Prelude.{pos}
use Rattle.std.specs.Cmp.{signed_Decides}
use Rattle.std.proofs.lemmas.Bool.{eqb-true}
use Rattle.lua_model.specs.declared.Value.{Value}
use Rattle.lua_model.specs.declared.Value.TheVariants.{Nil, Bool as Boolean, Number, Text, Table, Closure, Native, Host}
use Rattle.lua_model.specs.Value.{same_value}
use Rattle.lua_table.specs.Entries.{is_nil_value, number_key}

itself : (n : ℕ) → nat_eq n n ≡ true
itself n = grind arith

pub same_is : (a b : Value) → same_value a b ≡ true → a ≡ b
same_is Nil Nil e = refl
same_is (Boolean true) (Boolean true) e = refl
same_is (Boolean false) (Boolean false) e = refl
same_is (Number a) (Number b) e = ap Number ((signed_Decides a b).0 e)
same_is (Text a) (Text b) e = ap (λ i. Text (record { index = i })) (eqb-true a.index b.index e)
same_is (Table a) (Table b) e = ap (λ i. Table (record { index = i })) (eqb-true a.index b.index e)
same_is (Closure a) (Closure b) e = ap (λ i. Closure (record { index = i })) (eqb-true a.index b.index e)
same_is (Native a) (Native b) e = ap Native (eqb-true a b e)
same_is (Host a) (Host b) e = ap Host (eqb-true a b e)
same_is _ _ e = absurd (true≢false (sym e))

pub same_self : (a : Value) → same_value a a ≡ true
same_self Nil = refl
same_self (Boolean true) = refl
same_self (Boolean false) = refl
same_self (Number a) = (signed_Decides a a).1 refl
same_self (Text a) = itself a.index
same_self (Table a) = itself a.index
same_self (Closure a) = itself a.index
same_self (Native a) = itself a
same_self (Host a) = itself a

pub same_trans : (a b c : Value) → same_value a c ≡ true → same_value b c ≡ true → same_value a b ≡ true
same_trans a b c e f = ap (same_value a) (same_is b c f ∙ sym (same_is a c e)) ∙ same_self a

pub same_swap : (a b : Value) → same_value a b ≡ false → same_value b a ≡ false
same_swap a b e = by (same_value b a) refl
  where
    by : (c : Bool) → same_value b a ≡ c → same_value b a ≡ false
    by true t = absurd (true≢false (sym (same_trans a b b (ap (same_value a) (same_is b a t) ∙ same_self a) (same_self b)) ∙ e))
    by false t = t

pub same_decides : (a b : Value) → (same_value a b ≡ true) ↔ (a ≡ b)
same_decides a b = (same_is a b, λ e. ap (same_value a) (sym e) ∙ same_self a)

pub nil_is : (v : Value) → is_nil_value v ≡ true → v ≡ Nil
nil_is Nil e = refl
nil_is _ e = absurd (true≢false (sym e))

-- ---- keys that are numbers

pub key_same : (a b : ℕ) → a ≡ b → same_value (number_key a) (number_key b) ≡ true
key_same a b e = (signed_Decides (pos a) (pos b)).1 (ap pos e)

pub key_apart : (a b : ℕ) → same_value (number_key a) (number_key b) ≡ true → a ≡ b
key_apart a b t = let s : pos a ≡ pos b = (signed_Decides (pos a) (pos b)).0 t in let r : a ≡ b = cc in r

pub key_other : (a b : ℕ) → b < a → same_value (number_key a) (number_key b) ≡ false
key_other a b l = by (same_value (number_key a) (number_key b)) refl
  where
    by : (c : Bool) → same_value (number_key a) (number_key b) ≡ c → same_value (number_key a) (number_key b) ≡ false
    by true t = let s : a ≡ b = key_apart a b t in absurd (omega arith)
    by false t = t
