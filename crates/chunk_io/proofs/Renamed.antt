-- Phrases whose values have another name, values with no bytes, phrases of many parts.
use Rattle.std.proofs.Common.{◌≡◌, ℕ, zero, suc, List, [], ◌∷◌, ◌++◌, length, Result, Ok, Err, refl, sym, ap, subst, ◌∙◌, arith}
use Rattle.std.specs.List.{flat_map, AllByRecursion}
use Rattle.chunk_io.specs.declared.miss.Miss.{Miss}
use Rattle.chunk_io.specs.Items.{Item, Allowed, spelling}
use Rattle.chunk_io.specs.Reading.{Read, ◌>>=◌, as_at, many_at}
use Rattle.chunk_io.proofs.Phrases.{Sees, Reads}
use Rattle.chunk_io.proofs.Joined.{reads_then}

-- ---- the same values under another name

module _ {A B : Type 0} (f : A → B) (items : A → List Item) (Is : A → Type 0) (others : B → List Item) (Others : B → Type 0) (to : (a : A) → Is a → (others (f a) ≡ items a) × Others (f a)) where
  as_sees : (bytes : List ℕ) (r : Result (A × List ℕ) Miss) → Sees items Is bytes r → Sees others Others bytes (r >>= λ x. Ok (f x.0, x.1))
  as_sees bytes (Ok x) s =
      let t = to x.0 s.is in
      record { here = s.here ∙ ap (λ (i : List Item). spelling i ++ x.1) (sym t.0); allowed = subst (AllByRecursion Allowed) (sym t.0) s.allowed; is = t.1 }
  as_sees bytes (Err m) s =
      let t = to s.value s.is in
      record { value = f s.value; is = t.1; before = s.before; due = s.due; after = s.after; in_order = t.0 ∙ s.in_order; given = s.given; left = s.left; here = s.here; miss = s.miss }

  as_gives : (read : Read A) → Reads read items Is → ((b : B) → Others b → (a : A) × (f a ≡ b) × Is a) → (bytes : List ℕ) (r : Result (B × List ℕ) Miss) → Sees others Others bytes r → as_at f read bytes ≡ r
  as_gives read p from bytes (Ok x) s =
      let a = from x.0 s.is in
      let same : others x.0 ≡ items a.0 = ap others (sym a.1) ∙ (to a.0 a.2).0 in
      let e : read bytes ≡ Ok (a.0, x.1) = p.gives bytes (Ok (a.0, x.1)) (record { here = s.here ∙ ap (λ (i : List Item). spelling i ++ x.1) same; allowed = subst (AllByRecursion Allowed) same s.allowed; is = a.2 }) in
      rw e (ap (λ (b : B). Ok (b, x.1)) a.1)
  as_gives read p from bytes (Err m) s =
      let a = from s.value s.is in
      let same : others s.value ≡ items a.0 = ap others (sym a.1) ∙ (to a.0 a.2).0 in
      let e : read bytes ≡ Err m = p.gives bytes (Err m) (record { value = a.0; is = a.2; before = s.before; due = s.due; after = s.after; in_order = sym same ∙ s.in_order; given = s.given; left = s.left; here = s.here; miss = s.miss }) in
      rw e

pub reads_as : {A B : Type 0} {read : Read A} {items : A → List Item} {Is : A → Type 0} (f : A → B) (others : B → List Item) (Others : B → Type 0) → Reads read items Is
    → ((a : A) → Is a → (others (f a) ≡ items a) × Others (f a)) → ((b : B) → Others b → (a : A) × (f a ≡ b) × Is a) → Reads (as_at f read) others Others
reads_as {read = read} {items = items} {Is = Is} f others Others p to from = record {
  some = f p.some;
  some_is = (to p.some p.some_is).1;
  sees = λ bytes fits. as_sees f items Is others Others to bytes (read bytes) (p.sees bytes fits);
  gives = as_gives f items Is others Others to read p from;
}

-- a reader with the same answers
pub reads_same : {V : Type 0} {read other : Read V} {items : V → List Item} {Is : V → Type 0} → ((bytes : List ℕ) → read bytes ≡ other bytes) → Reads read items Is → Reads other items Is
reads_same {items = items} {Is = Is} e p = record {
  some = p.some;
  some_is = p.some_is;
  sees = λ bytes fits. subst (Sees items Is bytes) (e bytes) (p.sees bytes fits);
  gives = λ bytes r s. sym (e bytes) ∙ p.gives bytes r s;
}

-- ---- no items

no_due : (before : List Item) (due : Item) (after : List Item) → [] ≡ before ++ due ∷ after → ⊥
no_due [] due after e = cc
no_due (b ∷ before) due after e = cc

nothing_gives : {V : Type 0} (items : V → List Item) (v : V) → items v ≡ [] → (bytes : List ℕ) (r : Result (V × List ℕ) Miss) → Sees items (λ x. v ≡ x) bytes r → Ok (v, bytes) ≡ r
nothing_gives items v none bytes (Ok x) s =
    let same : bytes ≡ x.1 = s.here ∙ ap (λ (i : List Item). spelling i ++ x.1) (ap items (sym s.is) ∙ none) in
    λ i. Ok (s.is i, same i)
nothing_gives items v none bytes (Err m) s = absurd (no_due s.before s.due s.after (sym none ∙ ap items s.is ∙ s.in_order))

-- a value that is there with no bytes
pub reads_nothing : {V : Type 0} (items : V → List Item) (v : V) → items v ≡ [] → Reads (λ bytes. Ok (v, bytes)) items (λ x. v ≡ x)
reads_nothing items v none = record {
  some = v;
  some_is = refl;
  sees = λ bytes fits. record { here = ap (λ (i : List Item). spelling i ++ bytes) (sym none); allowed = subst (AllByRecursion Allowed) (sym none) tt; is = refl };
  gives = nothing_gives items v none;
}

-- ---- many parts

abbrev pub paired : {A B : Type 0} → A → B × List ℕ → Result ((A × B) × List ℕ) Miss
paired x y = Ok ((x, y.0), y.1)

abbrev listed : {A : Type 0} → (A × List A) × List ℕ → Result (List A × List ℕ) Miss
listed z = Ok (z.0.0 ∷ z.0.1, z.1)

inner_step : {A : Type 0} (x : A) (r : Result (List A × List ℕ) Miss) → ((r >>= λ y. paired x y) >>= λ z. listed z) ≡ (r >>= λ y. Ok (x ∷ y.0, y.1))
inner_step x (Ok y) = refl
inner_step x (Err m) = refl

outer_step : {A : Type 0} (r : Result (A × List ℕ) Miss) (next : Read (List A)) → ((r >>= λ x. next x.1 >>= λ y. paired x.0 y) >>= λ z. listed z) ≡ (r >>= λ x. next x.1 >>= λ y. Ok (x.0 ∷ y.0, y.1))
outer_step (Ok x) next = inner_step x.0 (next x.1)
outer_step (Err m) next = refl

more_named : {A : Type 0} (n : ℕ) (xs : List A) → length xs ≡ suc n → (p : A × List A) × (p.0 ∷ p.1 ≡ xs) × (Unit {0} × (length p.1 ≡ n))
more_named n [] e = absurd cc
more_named n (x ∷ xs) e = ((x, xs), refl, (tt, omega arith))

none_named : {A : Type 0} (xs : List A) → length xs ≡ 0 → [] ≡ xs
none_named [] e = refl
none_named (x ∷ xs) e = absurd cc

pub reads_many : {A : Type 0} {one : Read A} {items : A → List Item} → Reads one items (λ x. Unit {0}) → (n : ℕ) → Reads (many_at one n) (flat_map items) (λ xs. length xs ≡ n)
unfolding many_at
reads_many {A} {items = items} p zero = reads_as (λ (xs : List A). xs) (flat_map items) (λ xs. length xs ≡ 0) (reads_nothing {V = List A} (flat_map items) [] refl) (λ xs is. (refl, ap length (sym is))) (λ xs is. ([], none_named xs is, refl))
reads_many {A} {one = one} {items = items} p (suc n) =
    let parts = reads_then p (λ (x : A) (u : Unit {0}). reads_many p n) in
    reads_same (λ bytes. outer_step (one bytes) (many_at one n))
    (reads_as (λ (q : A × List A). q.0 ∷ q.1) (flat_map items) (λ xs. length xs ≡ suc n) parts (λ q is. (refl, ap suc is.1)) (more_named n))
