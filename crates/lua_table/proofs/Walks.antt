-- The pairs that `next` gives one after the other; keys stay apart and named as keys are set.
use Rattle.std.proofs.Common.{◌≡◌, Bool, true, false, not, [], ◌∷◌, Some, cond, if◌then◌else◌, refl, sym, ap, subst, ◌∙◌}
use Rattle.std.specs.List.{IsDistinct, AllByRecursion}
use Rattle.std.specs.Map.{keys_of}
use Rattle.lua_model.specs.declared.Value.{Value}
use Rattle.lua_model.specs.declared.Value.TheVariants.{Nil}
use Rattle.lua_model.specs.Value.{same_value}
use Rattle.lua_table.specs.Entries.{Entries, with_entry, first_pair, pair_after, next_of, is_nil_value}
use Rattle.lua_table.specs.Laws.{IsSound, IsWalk, live}
use Rattle.lua_table.proofs.Equality.{same_self, same_swap}

-- ---- keys

-- what holds of each key and of the key that is set holds of each key afterwards
all_keys : (P : Value → Type 0) (ps : Entries) (k v : Value) → AllByRecursion P (keys_of ps) → P k → AllByRecursion P (keys_of (with_entry ps k v))
all_keys P [] k v h l = by (is_nil_value v) refl
  where
    by : (b : Bool) → is_nil_value v ≡ b → AllByRecursion P (keys_of (with_entry [] k v))
    by true e = subst (λ b. AllByRecursion P (keys_of (if b then [] else ((k, v) ∷ [])))) (sym e) tt
    by false e = subst (λ b. AllByRecursion P (keys_of (if b then [] else ((k, v) ∷ [])))) (sym e) (l, tt)
all_keys P (p ∷ ps) k v h l = by (same_value k p.0) refl (all_keys P ps k v h.1 l)
  where
    by : (b : Bool) → same_value k p.0 ≡ b → AllByRecursion P (keys_of (with_entry ps k v)) → AllByRecursion P (keys_of (with_entry (p ∷ ps) k v))
    by true e r = subst (λ b. AllByRecursion P (keys_of (if b then ((p.0, v) ∷ ps) else (p ∷ with_entry ps k v)))) (sym e) h
    by false e r = subst (λ b. AllByRecursion P (keys_of (if b then ((p.0, v) ∷ ps) else (p ∷ with_entry ps k v)))) (sym e) (h.0, r)

pub distinct : (ps : Entries) (k v : Value) → IsDistinct same_value (keys_of ps) → IsDistinct same_value (keys_of (with_entry ps k v))
unfolding IsDistinct
distinct [] k v h = by (is_nil_value v) refl
  where
    by : (b : Bool) → is_nil_value v ≡ b → IsDistinct same_value (keys_of (with_entry [] k v))
    by true e = subst (λ b. IsDistinct same_value (keys_of (if b then [] else ((k, v) ∷ [])))) (sym e) tt
    by false e = subst (λ b. IsDistinct same_value (keys_of (if b then [] else ((k, v) ∷ [])))) (sym e) (tt, tt)
distinct (p ∷ ps) k v h = by (same_value k p.0) refl (distinct ps k v h.1)
  where
    by : (b : Bool) → same_value k p.0 ≡ b → IsDistinct same_value (keys_of (with_entry ps k v)) → IsDistinct same_value (keys_of (with_entry (p ∷ ps) k v))
    by true e r = subst (λ b. IsDistinct same_value (keys_of (if b then ((p.0, v) ∷ ps) else (p ∷ with_entry ps k v)))) (sym e) h
    by false e r = subst (λ b. IsDistinct same_value (keys_of (if b then ((p.0, v) ∷ ps) else (p ∷ with_entry ps k v)))) (sym e) (all_keys (λ y. same_value p.0 y ≡ false) ps k v h.0 (same_swap k p.0 e), r)

pub none_sound : IsSound []
unfolding IsDistinct
none_sound = record { apart = tt; named = tt }

pub set_sound : (ps : Entries) (k v : Value) → IsSound ps → is_nil_value k ≡ false → IsSound (with_entry ps k v)
set_sound ps k v s n = record {
  apart = distinct ps k v s.apart;
  named = all_keys (λ y. is_nil_value y ≡ false) ps k v s.named n;
}

-- ---- walks

-- after each key of the rest comes the first live pair behind it
abbrev Follows : Entries → Entries → Type 0
Follows ps [] = Unit {0}
Follows ps (p ∷ rest) = (pair_after ps p.0 ≡ Some (first_pair rest)) × Follows ps rest

follows_behind : (q : Value × Value) (ps rest : Entries) → AllByRecursion (λ y. same_value q.0 y ≡ false) (keys_of rest) → Follows ps rest → Follows (q ∷ ps) rest
follows_behind q ps [] d f = tt
follows_behind q ps (p ∷ rest) d f = (ap (λ b. if b then Some (first_pair ps) else pair_after ps p.0) (same_swap q.0 p.0 d.0) ∙ f.0, follows_behind q ps rest d.1 f.1)

follows : (ps : Entries) → IsDistinct same_value (keys_of ps) → Follows ps ps
unfolding IsDistinct
follows [] d = tt
follows (p ∷ ps) d = (ap (λ b. if b then Some (first_pair ps) else pair_after ps p.0) (same_self p.0), follows_behind p ps ps d.0 (follows ps d.1))

walk_from : (ps rest : Entries) (k : Value) → AllByRecursion (λ y. is_nil_value y ≡ false) (keys_of rest) → next_of ps k ≡ Some (first_pair rest) → Follows ps rest → IsWalk ps k (live rest)
walk_from ps [] k n e f = e
walk_from ps (p ∷ rest) k n e f = by (is_nil_value p.1) refl (λ g. walk_from ps rest k n.1 g f.1) (λ g. walk_from ps rest p.0 n.1 g f.1)
  where
    by : (b : Bool) → is_nil_value p.1 ≡ b → (next_of ps k ≡ Some (first_pair rest) → IsWalk ps k (live rest)) → (next_of ps p.0 ≡ Some (first_pair rest) → IsWalk ps p.0 (live rest)) → IsWalk ps k (live (p ∷ rest))
    by true t over on = subst (λ b. IsWalk ps k (cond (not b) (p ∷ live rest) (live rest))) (sym t) (over (e ∙ ap (λ b. Some (if b then first_pair rest else Some p)) t))
    by false t over on =
        subst (λ b. IsWalk ps k (cond (not b) (p ∷ live rest) (live rest))) (sym t)
        (e ∙ ap (λ b. Some (if b then first_pair rest else Some p)) t, on (ap (λ b. if b then Some (first_pair ps) else pair_after ps p.0) n.0 ∙ f.0))

pub next_walks : (ps : Entries) → IsSound ps → IsWalk ps Nil (live ps)
next_walks ps s = walk_from ps ps Nil s.named refl (follows ps s.apart)
