-- The border of a table: that there is one, and what a write does to it.
use Rattle.std.proofs.Common.{◌≡◌, ◌≢◌, ℕ, zero, suc, ◌+◌, ◌<◌, ◌≤◌, ◌⊎◌, inl, inr, Bool, true, false, [], ◌∷◌, length, nat_eq, if◌then◌else◌, refl, sym, ap, ◌∙◌, arith, true≢false}
use Rattle.std.proofs.lemmas.Bool.{eqb-true, cases_order}
use Rattle.lua_model.specs.declared.Value.{Value}
use Rattle.lua_model.specs.declared.Value.TheVariants.{Nil}
use Rattle.lua_model.specs.Value.{same_value}
use Rattle.lua_model.proofs.Pigeon.{pigeon}
use Rattle.lua_table.specs.Entries.{Entries, entry, has_place, with_entry, number_key, IsBorder, is_nil_value}
use Rattle.lua_table.specs.Rows.{IsOutside, IsFull, IsFullBut}
use Rattle.lua_table.proofs.Equality.{same_is, same_trans, same_swap, key_apart}
use Rattle.lua_table.proofs.Writes.{set_same, set_other}

pub present : (ps : Entries) (k : Value) → is_nil_value (entry ps k) ≡ false → has_place ps k ≡ true
present [] k h = absurd (true≢false h)
present (p ∷ ps) k h = by (same_value k p.0) refl (λ g. present ps k g)
  where
    by : (b : Bool) → same_value k p.0 ≡ b → (is_nil_value (entry ps k) ≡ false → has_place ps k ≡ true) → has_place (p ∷ ps) k ≡ true
    by true e r = ap (λ b. if b then true else has_place ps k) e
    by false e r = ap (λ b. if b then true else has_place ps k) e ∙ r (sym (ap (λ b. is_nil_value (if b then p.1 else entry ps k)) e) ∙ h)

apart : (a b : ℕ) → same_value (number_key (a + 1)) (number_key (b + 1)) ≡ true → a ≡ b
apart a b e = let s : a + 1 ≡ b + 1 = key_apart (a + 1) (b + 1) e in omega arith

pub full_within : (ps : Entries) (n : ℕ) → IsFull ps n → n ≤ length ps
full_within ps n h = pigeon same_value Nil is_nil_value same_trans (λ m. number_key (m + 1)) apart n ps (λ m l. present ps (number_key (m + 1)) (h m l))

pub full_more : (ps : Entries) (n : ℕ) → IsFull ps n → is_nil_value (entry ps (number_key (n + 1))) ≡ false → IsFull ps (n + 1)
full_more ps n h e = λ m l. by m l (nat_eq m n) refl
  where
    by : (m : ℕ) → m < n + 1 → (b : Bool) → nat_eq m n ≡ b → is_nil_value (entry ps (number_key (m + 1))) ≡ false
    by m l true t = ap (λ i. is_nil_value (entry ps (number_key (i + 1)))) (eqb-true m n t) ∙ e
    by m l false t = h m (below t)
      where
        below : nat_eq m n ≡ false → m < n
        below t = grind arith

pub full_border : (ps : Entries) (n : ℕ) → IsFull ps n → length ps ≤ n → IsBorder ps n
full_border ps n h l = record { ends = by (is_nil_value (entry ps (number_key (n + 1)))) refl; goes = h }
  where
    by : (b : Bool) → is_nil_value (entry ps (number_key (n + 1))) ≡ b → is_nil_value (entry ps (number_key (n + 1))) ≡ true
    by true t = t
    by false t = let s = full_within ps (n + 1) (full_more ps n h t) in absurd (omega arith)

unlike : (i m : ℕ) (k : Value) → k ≡ number_key (i + 1) → m ≢ i → same_value (number_key (m + 1)) k ≡ false
unlike i m k e a = ap (same_value (number_key (m + 1))) e ∙ by (same_value (number_key (m + 1)) (number_key (i + 1))) refl
  where
    by : (b : Bool) → same_value (number_key (m + 1)) (number_key (i + 1)) ≡ b → same_value (number_key (m + 1)) (number_key (i + 1)) ≡ false
    by true t = absurd (a (apart m i t))
    by false t = t

other : (i m : ℕ) (k : Value) → k ≡ number_key (i + 1) → m < i → same_value (number_key (m + 1)) k ≡ false
other i m k e l = unlike i m k e (λ s. omega (arith, l, s))

-- nil at a key up to the border
pub lowered : (ps : Entries) (b i : ℕ) (k v : Value) → IsBorder ps b → i < b + 1 → k ≡ number_key (i + 1) → is_nil_value v ≡ true → IsBorder (with_entry ps k v) i
lowered ps b i k v h l e n = record {
  ends = ap (λ j. is_nil_value (entry (with_entry ps k v) j)) (sym e) ∙ ap is_nil_value (set_same ps k v) ∙ n;
  goes = λ m u. ap is_nil_value (set_other ps k v (number_key (m + 1)) (other i m k e u)) ∙ h.goes m (omega (arith, l, u));
}

-- a value inside the border
pub kept_inside : (ps : Entries) (b i : ℕ) (k v : Value) → IsBorder ps b → i < b → k ≡ number_key (i + 1) → is_nil_value v ≡ false → IsBorder (with_entry ps k v) b
kept_inside ps b i k v h l e n = record {
  ends = ap is_nil_value (set_other ps k v (number_key (b + 1)) (same_swap k (number_key (b + 1)) (ap (λ j. same_value j (number_key (b + 1))) e ∙ other b i (number_key (b + 1)) refl l))) ∙ h.ends;
  goes = λ m u. by m u (same_value (number_key (m + 1)) k) refl;
}
  where
    by : (m : ℕ) → m < b → (c : Bool) → same_value (number_key (m + 1)) k ≡ c → is_nil_value (entry (with_entry ps k v) (number_key (m + 1))) ≡ false
    by m u true t = ap (λ j. is_nil_value (entry (with_entry ps k v) j)) (same_is (number_key (m + 1)) k t) ∙ ap is_nil_value (set_same ps k v) ∙ n
    by m u false t = ap is_nil_value (set_other ps k v (number_key (m + 1)) t) ∙ h.goes m u

-- a write elsewhere
pub kept_outside : (ps : Entries) (b : ℕ) (k v : Value) → IsBorder ps b → IsOutside (b + 1) k → IsBorder (with_entry ps k v) b
kept_outside ps b k v h o = record {
  ends = ap is_nil_value (set_other ps k v (number_key (b + 1)) (same_swap k (number_key (b + 1)) (o b (omega arith)))) ∙ h.ends;
  goes = λ m u. ap is_nil_value (set_other ps k v (number_key (m + 1)) (same_swap k (number_key (m + 1)) (o m (omega (arith, u))))) ∙ h.goes m u;
}

-- a key behind the border is elsewhere
pub behind : (b i : ℕ) (k : Value) → b < i → k ≡ number_key (i + 1) → IsOutside (b + 1) k
behind b i k l e = λ m u. same_swap (number_key (m + 1)) k (other i m k e (omega (arith, l, u)))

-- a value at any key but that of the border
pub kept_unless_there : (ps : Entries) (b i : ℕ) (k v : Value) → IsBorder ps b → i ≢ b → k ≡ number_key (i + 1) → is_nil_value v ≡ false → IsBorder (with_entry ps k v) b
kept_unless_there ps b i k v h a e n = by (cases_order i b)
  where
    by : (i ≡ b) ⊎ ((i < b) ⊎ (b < i)) → IsBorder (with_entry ps k v) b
    by (inl s) = absurd (a s)
    by (inr (inl l)) = kept_inside ps b i k v h l e n
    by (inr (inr l)) = kept_outside ps b k v h (behind b i k l e)

-- ---- what is full but for one hole

-- behind a border nothing is known
pub full_but_border : (ps : Entries) (b : ℕ) → IsBorder ps b → IsFullBut ps b (b + 1)
full_but_border ps b h = λ m u a. h.goes m (omega (arith, u, a))

-- nil at a key up to the border: all up to it are full but that one
pub hole_opened : (ps : Entries) (b i : ℕ) (k v : Value) → IsBorder ps b → k ≡ number_key (i + 1) → IsFullBut (with_entry ps k v) i b
hole_opened ps b i k v h e = λ m u a. ap is_nil_value (set_other ps k v (number_key (m + 1)) (unlike i m k e a)) ∙ h.goes m u

-- a write at the hole
pub hole_kept : (ps : Entries) (b n : ℕ) (k v : Value) → IsFullBut ps b n → k ≡ number_key (b + 1) → IsFullBut (with_entry ps k v) b n
hole_kept ps b n k v f e = λ m u a. ap is_nil_value (set_other ps k v (number_key (m + 1)) (unlike b m k e a)) ∙ f m u a

-- a write at a key behind the hole: what stands before it is as it was
pub cut_short : (ps : Entries) (b n i : ℕ) (k v : Value) → IsFullBut ps b n → i < n → k ≡ number_key (i + 1) → IsFullBut (with_entry ps k v) b i
cut_short ps b n i k v f l e = λ m u a. ap is_nil_value (set_other ps k v (number_key (m + 1)) (other i m k e u)) ∙ f m (omega (arith, u, l)) a

-- a write elsewhere
pub kept_beyond : (ps : Entries) (b n : ℕ) (k v : Value) → IsFullBut ps b n → IsOutside n k → IsFullBut (with_entry ps k v) b n
kept_beyond ps b n k v f o = λ m u a. ap is_nil_value (set_other ps k v (number_key (m + 1)) (same_swap k (number_key (m + 1)) (o m u))) ∙ f m u a

-- a value anywhere
pub kept_full : (ps : Entries) (b n : ℕ) (k v : Value) → IsFullBut ps b n → is_nil_value v ≡ false → IsFullBut (with_entry ps k v) b n
kept_full ps b n k v f e = λ m u a. by m u a (same_value (number_key (m + 1)) k) refl
  where
    by : (m : ℕ) → m < n → m ≢ b → (c : Bool) → same_value (number_key (m + 1)) k ≡ c → is_nil_value (entry (with_entry ps k v) (number_key (m + 1))) ≡ false
    by m u a true t = ap (λ j. is_nil_value (entry (with_entry ps k v) j)) (same_is (number_key (m + 1)) k t) ∙ ap is_nil_value (set_same ps k v) ∙ e
    by m u a false t = ap is_nil_value (set_other ps k v (number_key (m + 1)) t) ∙ f m u a

-- a value in the hole
pub hole_filled : (ps : Entries) (b n : ℕ) (k v : Value) → IsFullBut ps b n → k ≡ number_key (b + 1) → is_nil_value v ≡ false → IsFull (with_entry ps k v) n
hole_filled ps b n k v f e t = λ m u. by m u (nat_eq m b) refl
  where
    by : (m : ℕ) → m < n → (c : Bool) → nat_eq m b ≡ c → is_nil_value (entry (with_entry ps k v) (number_key (m + 1))) ≡ false
    by m u true s = ap (λ j. is_nil_value (entry (with_entry ps k v) (number_key (j + 1)))) (eqb-true m b s) ∙ ap (λ j. is_nil_value (entry (with_entry ps k v) j)) (sym e) ∙ ap is_nil_value (set_same ps k v) ∙ t
    by m u false s = ap is_nil_value (set_other ps k v (number_key (m + 1)) (unlike b m k e (λ q. differ q s))) ∙ f m u (λ q. differ q s)
      where
        differ : m ≡ b → nat_eq m b ≡ false → ⊥
        differ q s = grind arith

-- ---- there is one border

pub borders_one : (ps : Entries) (m n : ℕ) → IsBorder ps m → IsBorder ps n → m ≡ n
borders_one ps m n g h = by (cases_order m n)
  where
    by : (m ≡ n) ⊎ ((m < n) ⊎ (n < m)) → m ≡ n
    by (inl e) = e
    by (inr (inl l)) = absurd (true≢false (sym g.ends ∙ h.goes m l))
    by (inr (inr l)) = absurd (true≢false (sym h.ends ∙ g.goes n l))

border_from : (more from : ℕ) (ps : Entries) → length ps ≡ from + more → IsFull ps from → (n : ℕ) × IsBorder ps n
border_from zero from ps e h = (from, full_border ps from h (omega arith))
border_from (suc more) from ps e h = by (is_nil_value (entry ps (number_key (from + 1)))) refl (λ g. border_from more (from + 1) ps (omega arith) g)
  where
    by : (b : Bool) → is_nil_value (entry ps (number_key (from + 1))) ≡ b → (IsFull ps (from + 1) → (n : ℕ) × IsBorder ps n) → (n : ℕ) × IsBorder ps n
    by true t r = (from, record { ends = t; goes = h })
    by false t r = r (full_more ps from h t)

pub one_border : (ps : Entries) → (n : ℕ) × IsBorder ps n × ((m : ℕ) → IsBorder ps m → m ≡ n)
one_border ps =
    let b : (n : ℕ) × IsBorder ps n = border_from (length ps) 0 ps (omega arith) (λ m l. absurd (omega arith)) in
    (b.0, b.1, λ m h. borders_one ps m b.0 h b.1)
