-- Where a function begins: a place with no line, which is missed where functions nest too deep.
use Rattle.std.proofs.Common.{◌≡◌, ℕ, ◌<◌, ◌≤◌, List, [], ◌∷◌, ◌++◌, length, Result, Ok, Err, refl, sym, ap, subst, ◌∙◌, arith}
use Rattle.lua_num.specs.Bytes.{Text}
use Rattle.asm_text.specs.declared.miss.Miss.{Miss}
use Rattle.asm_text.specs.Lines.{Place, begin, together, Show}
use Rattle.asm_text.specs.Reading.{Read}
use Rattle.asm_text.proofs.Places.{MissesLeft}
use Rattle.asm_text.proofs.Phrases.{MissIn, Sees, Reads}
use Rattle.asm_text.proofs.Joined.{heads}

begins : (nesting : ℕ) (left : List ℕ) (m : Miss) → nesting ≤ 200 → MissesLeft (begin nesting) left m → ⊥
begins nesting left (Miss.TooDeep n) le h = omega (arith, le, h.1)
begins nesting left (Miss.BadLine n) le h = h

module _ {V : Type 0} (places : V → List Place) (Is : V → Type 0) (nesting : ℕ) where
  abbrev pub begun : V → List Place
  begun x = begin nesting ∷ places x

  begun_sees : nesting ≤ 200 → (bytes : List ℕ) (r : Result (V × List ℕ) Miss) → Sees places Is bytes r → Sees begun Is bytes r
  begun_sees le bytes (Ok x) s = record { given = s.given; here = s.here; shown = (le, s.shown); is = s.is }
  begun_sees le bytes (Err m) s = record { value = s.value; is = s.is; before = begin nesting ∷ s.before; due = s.due; after = s.after; in_order = ap (λ i. begin nesting ∷ i) s.in_order; given = s.given; shown = (le, s.shown); left = s.left; here = s.here; miss = s.miss }

  behind_begin : nesting ≤ 200 → (bytes : List ℕ) (m : Miss) (value : V) → Is value → (before : List Place) (due : Place) (after : List Place) → begun value ≡ before ++ due ∷ after
      → (given : List Text) → Show before given → (left : List ℕ) → bytes ≡ together given ++ left → MissesLeft due left m → MissIn places Is bytes m
  behind_begin le bytes m value is [] due after in_order given shown left here miss =
      let h = heads (begin nesting) due (places value) after in_order in
      absurd (begins nesting left m le (subst (λ i. MissesLeft i left m) (sym h.0) miss))
  behind_begin le bytes m value is (b ∷ before) due after in_order given shown left here miss =
      let h = heads (begin nesting) b (places value) (before ++ due ∷ after) in_order in
      let begun_shown = subst (λ i. Show (i ∷ before) given) (sym h.0) shown in
      record { value = value; is = is; before = before; due = due; after = after; in_order = h.1; given = given; shown = begun_shown.1; left = left; here = here; miss = miss }

  begun_means : nesting ≤ 200 → (bytes : List ℕ) (r : Result (V × List ℕ) Miss) → Sees begun Is bytes r → Sees places Is bytes r
  begun_means le bytes (Ok x) s = record { given = s.given; here = s.here; shown = s.shown.1; is = s.is }
  begun_means le bytes (Err m) s = behind_begin le bytes m s.value s.is s.before s.due s.after s.in_order s.given s.shown s.left s.here s.miss

  only_deep : (left : List ℕ) (m : Miss) → MissesLeft (begin nesting) left m → Miss.TooDeep (length left) ≡ m
  only_deep left (Miss.TooDeep n) h = ap (λ k. Miss.TooDeep k) (sym h.0)
  only_deep left (Miss.BadLine n) h = absurd h

  too_deep_misses : 200 < nesting → (bytes : List ℕ) (m : Miss) (value : V) (before : List Place) (due : Place) (after : List Place) → begun value ≡ before ++ due ∷ after
      → (given : List Text) → Show before given → (left : List ℕ) → bytes ≡ together given ++ left → MissesLeft due left m → Miss.TooDeep (length bytes) ≡ m
  too_deep_misses deep bytes m value [] due after in_order [] shown left here miss =
      let h = heads (begin nesting) due (places value) after in_order in
      ap (λ (b : List ℕ). Miss.TooDeep (length b)) here ∙ only_deep left m (subst (λ i. MissesLeft i left m) (sym h.0) miss)
  too_deep_misses deep bytes m value [] due after in_order (t ∷ given) shown left here miss = absurd shown
  too_deep_misses deep bytes m value (b ∷ before) due after in_order given shown left here miss =
      let h = heads (begin nesting) b (places value) (before ++ due ∷ after) in_order in
      let begun_shown = subst (λ i. Show (i ∷ before) given) (sym h.0) shown in
      let allowed : nesting ≤ 200 = begun_shown.0 in
      absurd (omega arith)

  too_deep_gives : 200 < nesting → (bytes : List ℕ) (r : Result (V × List ℕ) Miss) → Sees begun Is bytes r → Err (Miss.TooDeep (length bytes)) ≡ r
  too_deep_gives deep bytes (Ok x) s = absurd (omega (arith, s.shown.0))
  too_deep_gives deep bytes (Err m) s = ap (λ k. Err k) (too_deep_misses deep bytes m s.value s.before s.due s.after s.in_order s.given s.shown s.left s.here s.miss)

pub reads_begun : {V : Type 0} {read : Read V} {places : V → List Place} {Is : V → Type 0} (nesting : ℕ) → nesting ≤ 200 → Reads read places Is → Reads read (begun places Is nesting) Is
reads_begun {read = read} {places = places} {Is = Is} nesting le p = record {
  some = p.some;
  some_is = p.some_is;
  sees = λ bytes. begun_sees places Is nesting le bytes (read bytes) (p.sees bytes);
  gives = λ bytes r s. p.gives bytes r (begun_means places Is nesting le bytes r s);
}

pub reads_too_deep : {V : Type 0} (places : V → List Place) (Is : V → Type 0) (nesting : ℕ) → 200 < nesting → (some : V) → Is some → Reads (λ bytes. Err (Miss.TooDeep (length bytes))) (begun places Is nesting) Is
reads_too_deep places Is nesting deep some is = record {
  some = some;
  some_is = is;
  sees = λ bytes. record { value = some; is = is; before = []; due = begin nesting; after = places some; in_order = refl; given = []; shown = tt; left = bytes; here = refl; miss = (refl, deep) };
  gives = λ bytes r s. too_deep_gives places Is nesting deep bytes r s;
}
