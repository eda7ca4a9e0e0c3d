-- Phrases whose values have another name, values with no lines, phrases of many parts.
use Rattle.std.proofs.Common.{◌≡◌, ℕ, zero, suc, List, [], ◌∷◌, ◌++◌, length, Result, Ok, Err, refl, sym, ap, subst, ◌∙◌, arith}
use Rattle.lua_num.specs.Bytes.{Text}
use Rattle.asm_text.specs.declared.miss.Miss.{Miss}
use Rattle.asm_text.specs.Lines.{Place, together, Show}
use Rattle.asm_text.specs.Reading.{Read, ◌>>=◌, as_at, many_at}
use Rattle.asm_text.proofs.Places.{no_lines}
use Rattle.asm_text.proofs.Phrases.{Sees, Reads}
use Rattle.asm_text.proofs.Joined.{reads_then}

-- ---- the same values under another name

module _ {A B : Type 0} (f : A → B) (places : A → List Place) (Is : A → Type 0) (others : B → List Place) (Others : B → Type 0) (to : (a : A) → Is a → (others (f a) ≡ places a) × Others (f a)) where
  as_sees : (bytes : List ℕ) (r : Result (A × List ℕ) Miss) → Sees places Is bytes r → Sees others Others bytes (r >>= λ x. Ok (f x.0, x.1))
  as_sees bytes (Ok x) s =
      let t = to x.0 s.is in
      record { given = s.given; here = s.here; shown = subst (λ ps. Show ps s.given) (sym t.0) s.shown; is = t.1 }
  as_sees bytes (Err m) s =
      let t = to s.value s.is in
      record { value = f s.value; is = t.1; before = s.before; due = s.due; after = s.after; in_order = t.0 ∙ s.in_order; given = s.given; shown = s.shown; left = s.left; here = s.here; miss = s.miss }

  as_gives : (read : Read A) → Reads read places Is → ((b : B) → Others b → (a : A) × (f a ≡ b) × Is a) → (bytes : List ℕ) (r : Result (B × List ℕ) Miss) → Sees others Others bytes r → as_at f read bytes ≡ r
  as_gives read p from bytes (Ok x) s =
      let a = from x.0 s.is in
      let same : others x.0 ≡ places a.0 = ap others (sym a.1) ∙ (to a.0 a.2).0 in
      let e : read bytes ≡ Ok (a.0, x.1) = p.gives bytes (Ok (a.0, x.1)) (record { given = s.given; here = s.here; shown = subst (λ ps. Show ps s.given) same s.shown; is = a.2 }) in
      rw e (ap (λ (b : B). Ok (b, x.1)) a.1)
  as_gives read p from bytes (Err m) s =
      let a = from s.value s.is in
      let same : others s.value ≡ places a.0 = ap others (sym a.1) ∙ (to a.0 a.2).0 in
      let e : read bytes ≡ Err m = p.gives bytes (Err m) (record { value = a.0; is = a.2; before = s.before; due = s.due; after = s.after; in_order = sym same ∙ s.in_order; given = s.given; shown = s.shown; left = s.left; here = s.here; miss = s.miss }) in
      rw e

pub reads_as : {A B : Type 0} {read : Read A} {places : A → List Place} {Is : A → Type 0} (f : A → B) (others : B → List Place) (Others : B → Type 0) → Reads read places Is
    → ((a : A) → Is a → (others (f a) ≡ places a) × Others (f a)) → ((b : B) → Others b → (a : A) × (f a ≡ b) × Is a) → Reads (as_at f read) others Others
reads_as {read = read} {places = places} {Is = Is} f others Others p to from = record {
  some = f p.some;
  some_is = (to p.some p.some_is).1;
  sees = λ bytes. as_sees f places Is others Others to bytes (read bytes) (p.sees bytes);
  gives = as_gives f places Is others Others to read p from;
}

-- a reader with the same answers
pub reads_same : {V : Type 0} {read other : Read V} {places : V → List Place} {Is : V → Type 0} → ((bytes : List ℕ) → read bytes ≡ other bytes) → Reads read places Is → Reads other places Is
reads_same {places = places} {Is = Is} e p = record {
  some = p.some;
  some_is = p.some_is;
  sees = λ bytes. subst (Sees places Is bytes) (e bytes) (p.sees bytes);
  gives = λ bytes r s. sym (e bytes) ∙ p.gives bytes r s;
}

-- ---- no places

no_due : (before : List Place) (due : Place) (after : List Place) → [] ≡ before ++ due ∷ after → ⊥
no_due [] due after e = cc
no_due (b ∷ before) due after e = cc

nothing_gives : {V : Type 0} (places : V → List Place) (v : V) → places v ≡ [] → (bytes : List ℕ) (r : Result (V × List ℕ) Miss) → Sees places (λ x. v ≡ x) bytes r → Ok (v, bytes) ≡ r
nothing_gives places v none bytes (Ok x) s =
    let empty : s.given ≡ [] = no_lines s.given (subst (λ ps. Show ps s.given) (ap places (sym s.is) ∙ none) s.shown) in
    let same : bytes ≡ x.1 = s.here ∙ ap (λ (ts : List Text). together ts ++ x.1) empty in
    λ i. Ok (s.is i, same i)
nothing_gives places v none bytes (Err m) s = absurd (no_due s.before s.due s.after (sym none ∙ ap places s.is ∙ s.in_order))

-- a value that is there with no places
pub reads_nothing : {V : Type 0} (places : V → List Place) (v : V) → places v ≡ [] → Reads (λ bytes. Ok (v, bytes)) places (λ x. v ≡ x)
reads_nothing places v none = record {
  some = v;
  some_is = refl;
  sees = λ bytes. record { given = []; here = refl; shown = subst (λ ps. Show ps []) (sym none) tt; is = refl };
  gives = nothing_gives places v none;
}

-- ---- many parts

abbrev pub paired : {A B : Type 0} → A → B × List ℕ → Result ((A × B) × List ℕ) Miss
paired x y = Ok ((x, y.0), y.1)

abbrev listed : {A : Type 0} → (A × List A) × List ℕ → Result (List A × List ℕ) Miss
listed z = Ok (z.0.0 ∷ z.0.1, z.1)

inner_step : {A : Type 0} (x : A) (r : Result (List A × List ℕ) Miss) → ((r >>= λ y. paired x y) >>= λ z. listed z) ≡ (r >>= λ y. Ok (x ∷ y.0, y.1))
inner_step x (Ok y) = refl
inner_step x (Err m) = refl

outer_step : {A : Type 0} (r : Result (A × List ℕ) Miss) (next : A → Read (List A)) → ((r >>= λ x. next x.0 x.1 >>= λ y. paired x.0 y) >>= λ z. listed z) ≡ (r >>= λ x. next x.0 x.1 >>= λ y. Ok (x.0 ∷ y.0, y.1))
outer_step (Ok x) next = inner_step x.0 (next x.0 x.1)
outer_step (Err m) next = refl

more_named : {A : Type 0} (n : ℕ) (xs : List A) → length xs ≡ suc n → (p : A × List A) × (p.0 ∷ p.1 ≡ xs) × (Unit {0} × (length p.1 ≡ n))
more_named n [] e = absurd cc
more_named n (x ∷ xs) e = ((x, xs), refl, (tt, omega arith))

none_named : {A : Type 0} (xs : List A) → length xs ≡ 0 → [] ≡ xs
none_named [] e = refl
none_named (x ∷ xs) e = absurd cc

-- the places of many parts, one after the other
pub record InRow {S A : Type 0} (next : S → A → S) (place : S → A → List Place) (places : S → List A → List Place) : Type 0 where
  pub none : (s : S) → places s [] ≡ []
  pub more : (s : S) (x : A) (xs : List A) → places s (x ∷ xs) ≡ place s x ++ places (next s x) xs

pub reads_many : {S A : Type 0} {one : S → Read A} {place : S → A → List Place} (next : S → A → S) (places : S → List A → List Place) → InRow next place places → ((s : S) → Reads (one s) (place s) (λ x. Unit {0}))
    → (n : ℕ) (s : S) → Reads (many_at one next s n) (places s) (λ xs. length xs ≡ n)
unfolding many_at
reads_many {S} {A} next places row p zero s =
    reads_as (λ (xs : List A). xs) (places s) (λ xs. length xs ≡ 0) (reads_nothing {V = List A} (places s) [] (row.none s)) (λ xs is. (refl, ap length (sym is))) (λ xs is. ([], none_named xs is, refl))
reads_many {S} {A} {one = one} next places row p (suc n) s =
    let parts = reads_then (p s) (λ (x : A) (u : Unit {0}). reads_many next places row p n (next s x)) in
    reads_same (λ bytes. outer_step (one s bytes) (λ x. many_at one next (next s x) n))
    (reads_as (λ (q : A × List A). q.0 ∷ q.1) (places s) (λ xs. length xs ≡ suc n) parts (λ q is. (row.more s q.0 q.1, ap suc is.1)) (more_named n))
