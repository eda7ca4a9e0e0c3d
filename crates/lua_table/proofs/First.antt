-- The first pair with a value, from a place on.
use Rattle.std.proofs.Common.{◌≡◌, ℕ, zero, suc, ◌+◌, ◌<◌, ◌≤◌, true, false, List, [], ◌∷◌, ◌++◌, Option, None, Some, length, take, drop, get_or, position, cond, if◌then◌else◌, refl, sym, ap, ◌∙◌, arith}
use Rattle.std.specs.List.{position_from, slice_get}
use Rattle.std.specs.Map.{keys_of}
use Rattle.std.proofs.lemmas.Iterator.Adapters.{position_from-zero}
use Rattle.lua_model.specs.declared.Value.{Value}
use Rattle.lua_model.specs.Value.{same_value}
use Rattle.lua_table.specs.Entries.{Entries, first_pair, number_key, is_nil_value}
use Rattle.lua_table.specs.Rows.{row_pairs}
use Rattle.lua_table.proofs.Mapped.{eq, value_eq}

after_one : (i : ℕ) → suc (i + 1) ≡ suc i + 1
after_one i = omega arith

pub skipped : (ps : Entries) (i : ℕ) (p : Value × Value) → slice_get ps i ≡ Some p → is_nil_value p.1 ≡ true → first_pair (drop (i + 1) ps) ≡ first_pair (drop i ps)
skipped [] i p e n = cc
skipped (x ∷ xs) zero p e n = let s : x ≡ p = cc in sym (ap (λ b. if b then first_pair xs else Some x) (ap (λ q. is_nil_value q.1) s ∙ n))
skipped (x ∷ xs) (suc i) p e n = ap (λ m. first_pair (drop m (x ∷ xs))) (sym (after_one i)) ∙ skipped xs i p e n

pub here : (ps : Entries) (i : ℕ) (p : Value × Value) → slice_get ps i ≡ Some p → is_nil_value p.1 ≡ false → first_pair (drop i ps) ≡ Some p
here [] i p e n = cc
here (x ∷ xs) zero p e n = let s : x ≡ p = cc in ap (λ b. if b then first_pair xs else Some x) (ap (λ q. is_nil_value q.1) s ∙ n) ∙ e
here (x ∷ xs) (suc i) p e n = here xs i p e n

pub past : (ps : Entries) (i : ℕ) → length ps ≤ i → first_pair (drop i ps) ≡ None
past [] zero l = refl
past [] (suc i) l = refl
past (x ∷ xs) zero l = absurd (omega arith)
past (x ∷ xs) (suc i) l = past xs i (omega arith)

-- the part before a place
pub got_taken : {A : Type 0} (n i : ℕ) (xs : List A) → i < n → slice_get (take n xs) i ≡ slice_get xs i
got_taken zero i xs l = absurd (omega arith)
got_taken (suc n) i [] l = refl
got_taken (suc n) zero (x ∷ xs) l = refl
got_taken (suc n) (suc i) (x ∷ xs) l = got_taken n i xs (omega arith)

pub drop_at : {A : Type 0} (vs : List A) (i : ℕ) (d : A) → i < length vs → drop i vs ≡ get_or vs i d ∷ drop (i + 1) vs
drop_at [] i d l = absurd (omega arith)
drop_at (v ∷ vs) zero d l = refl
drop_at (v ∷ vs) (suc i) d l = drop_at vs i d (omega arith) ∙ ap (λ m. get_or vs i d ∷ drop m (v ∷ vs)) (after_one i)

pub drop_past : (vs : List Value) (i : ℕ) → length vs ≤ i → drop i vs ≡ []
drop_past [] zero l = refl
drop_past [] (suc i) l = refl
drop_past (v ∷ vs) zero l = absurd (omega arith)
drop_past (v ∷ vs) (suc i) l = drop_past vs i (omega arith)

-- of a list of pairs, from a place where one stands
pub pair_here : (ps : Entries) (i : ℕ) (d : Value × Value) → i < length ps → is_nil_value (get_or ps i d).1 ≡ false → first_pair (drop i ps) ≡ Some (get_or ps i d)
pair_here ps i d l n = ap first_pair (drop_at ps i d l) ∙ ap (λ b. if b then first_pair (drop (i + 1) ps) else Some (get_or ps i d)) n

pub pair_skipped : (ps : Entries) (i : ℕ) (d : Value × Value) → i < length ps → is_nil_value (get_or ps i d).1 ≡ true → first_pair (drop (i + 1) ps) ≡ first_pair (drop i ps)
pair_skipped ps i d l n = sym (ap first_pair (drop_at ps i d l) ∙ ap (λ b. if b then first_pair (drop (i + 1) ps) else Some (get_or ps i d)) n)

-- of a row and other pairs
abbrev pub first_in : List Value → Entries → ℕ → Option (Value × Value)
first_in vs es i = first_pair (row_pairs i (drop i vs) ++ es)

pub row_here : (vs : List Value) (es : Entries) (i : ℕ) (d : Value) → i < length vs → is_nil_value (get_or vs i d) ≡ false → first_in vs es i ≡ Some (number_key (i + 1), get_or vs i d)
row_here vs es i d l n = ap (λ ws. first_pair (row_pairs i ws ++ es)) (drop_at vs i d l) ∙ ap (λ b. if b then first_in vs es (i + 1) else Some (number_key (i + 1), get_or vs i d)) n

pub row_skipped : (vs : List Value) (es : Entries) (i : ℕ) (d : Value) → i < length vs → is_nil_value (get_or vs i d) ≡ true → first_in vs es (i + 1) ≡ first_in vs es i
row_skipped vs es i d l n = sym (ap (λ ws. first_pair (row_pairs i ws ++ es)) (drop_at vs i d l) ∙ ap (λ b. if b then first_in vs es (i + 1) else Some (number_key (i + 1), get_or vs i d)) n)

pub row_past : (vs : List Value) (es : Entries) (i : ℕ) → length vs ≤ i → first_in vs es i ≡ first_pair es
row_past vs es i l = ap (λ ws. first_pair (row_pairs i ws ++ es)) (drop_past vs i l)

keys_from : (ps : Entries) (k : Value) (s : ℕ) → position_from (eq k) s (keys_of ps) ≡ position_from (λ p. same_value k p.0) s ps
keys_from [] k s = refl
keys_from (p ∷ ps) k s = ap (λ b. cond b (Some s) (position_from (eq k) (s + 1) (keys_of ps))) (value_eq k p.0) ∙ ap (λ r. cond (same_value k p.0) (Some s) r) (keys_from ps k (s + 1))

pub keys_place : (ps : Entries) (k : Value) → position (eq k) (keys_of ps) ≡ position (λ p. same_value k p.0) ps
keys_place ps k = position_from-zero (eq k) (keys_of ps) ∙ keys_from ps k 0 ∙ sym (position_from-zero (λ p. same_value k p.0) ps)
