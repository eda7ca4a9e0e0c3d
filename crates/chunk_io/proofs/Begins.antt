-- Where a function begins: an item with no bytes, which is missed where functions nest too deep.
use Rattle.std.proofs.Common.{◌≡◌, ℕ, ◌<◌, ◌≤◌, List, [], ◌∷◌, ◌++◌, Result, Ok, Err, refl, sym, ap, subst, ◌∙◌, arith}
use Rattle.std.specs.List.{AllByRecursion}
use Rattle.chunk_io.specs.declared.miss.Miss.{Miss}
use Rattle.chunk_io.specs.Items.{Item, begin, Allowed, spelling}
use Rattle.chunk_io.specs.Reading.{Read}
use Rattle.chunk_io.proofs.Phrases.{MissesLeft, MissIn, Sees, Reads}
use Rattle.chunk_io.proofs.Joined.{heads}

begins : (nesting : ℕ) (left : List ℕ) (m : Miss) → nesting ≤ 200 → MissesLeft (begin nesting) left m → ⊥
begins nesting left Miss.Truncated le h = omega arith
begins nesting left Miss.TooDeep le h = omega arith
begins nesting left m le h = h

module _ {V : Type 0} (items : V → List Item) (Is : V → Type 0) (nesting : ℕ) where
  abbrev pub begun : V → List Item
  begun x = begin nesting ∷ items x

  begun_sees : nesting ≤ 200 → (bytes : List ℕ) (r : Result (V × List ℕ) Miss) → Sees items Is bytes r → Sees begun Is bytes r
  begun_sees le bytes (Ok x) s = record { here = s.here; allowed = (le, s.allowed); is = s.is }
  begun_sees le bytes (Err m) s = record { value = s.value; is = s.is; before = begin nesting ∷ s.before; due = s.due; after = s.after; in_order = ap (λ i. begin nesting ∷ i) s.in_order; given = (le, s.given); left = s.left; here = s.here; miss = s.miss }

  behind_begin : nesting ≤ 200 → (bytes : List ℕ) (m : Miss) (value : V) → Is value → (before : List Item) (due : Item) (after : List Item) → begun value ≡ before ++ due ∷ after
      → AllByRecursion Allowed before → (left : List ℕ) → bytes ≡ spelling before ++ left → MissesLeft due left m → MissIn items Is bytes m
  behind_begin le bytes m value is [] due after in_order given left here miss =
      let h = heads (begin nesting) due (items value) after in_order in
      absurd (begins nesting left m le (subst (λ i. MissesLeft i left m) (sym h.0) miss))
  behind_begin le bytes m value is (b ∷ before) due after in_order given left here miss =
      let h = heads (begin nesting) b (items value) (before ++ due ∷ after) in_order in
      record { value = value; is = is; before = before; due = due; after = after; in_order = h.1; given = given.1; left = left; here = here ∙ ap (λ (i : Item). spelling (i ∷ before) ++ left) (sym h.0); miss = miss }

  begun_means : nesting ≤ 200 → (bytes : List ℕ) (r : Result (V × List ℕ) Miss) → Sees begun Is bytes r → Sees items Is bytes r
  begun_means le bytes (Ok x) s = record { here = s.here; allowed = s.allowed.1; is = s.is }
  begun_means le bytes (Err m) s = behind_begin le bytes m s.value s.is s.before s.due s.after s.in_order s.given s.left s.here s.miss

  too_deep_misses : 200 < nesting → (bytes : List ℕ) (m : Miss) (value : V) (before : List Item) (due : Item) (after : List Item) → begun value ≡ before ++ due ∷ after
      → AllByRecursion Allowed before → (left : List ℕ) → MissesLeft due left m → Miss.TooDeep ≡ m
  too_deep_misses deep bytes m value [] due after in_order given left miss =
      let h = heads (begin nesting) due (items value) after in_order in
      only_deep left m (subst (λ i. MissesLeft i left m) (sym h.0) miss)
    where
      only_deep : (left : List ℕ) (m : Miss) → MissesLeft (begin nesting) left m → Miss.TooDeep ≡ m
      only_deep left Miss.TooDeep h = refl
      only_deep left Miss.Truncated h = absurd (omega arith)
      only_deep left m h = absurd h
  too_deep_misses deep bytes m value (b ∷ before) due after in_order given left miss =
      let h = heads (begin nesting) b (items value) (before ++ due ∷ after) in_order in
      let allowed : nesting ≤ 200 = subst Allowed (sym h.0) given.0 in
      absurd (omega arith)

  too_deep_gives : 200 < nesting → (bytes : List ℕ) (r : Result (V × List ℕ) Miss) → Sees begun Is bytes r → Err Miss.TooDeep ≡ r
  too_deep_gives deep bytes (Ok x) s = absurd (omega (arith, s.allowed.0))
  too_deep_gives deep bytes (Err m) s = ap Err (too_deep_misses deep bytes m s.value s.before s.due s.after s.in_order s.given s.left s.miss)

pub reads_begun : {V : Type 0} {read : Read V} {items : V → List Item} {Is : V → Type 0} (nesting : ℕ) → nesting ≤ 200 → Reads read items Is → Reads read (begun items Is nesting) Is
reads_begun {read = read} {items = items} {Is = Is} nesting le p = record {
  some = p.some;
  some_is = p.some_is;
  sees = λ bytes fits. begun_sees items Is nesting le bytes (read bytes) (p.sees bytes fits);
  gives = λ bytes r s. p.gives bytes r (begun_means items Is nesting le bytes r s);
}

pub reads_too_deep : {V : Type 0} (items : V → List Item) (Is : V → Type 0) (nesting : ℕ) → 200 < nesting → (some : V) → Is some → Reads (λ bytes. Err Miss.TooDeep) (begun items Is nesting) Is
reads_too_deep items Is nesting deep some is = record {
  some = some;
  some_is = is;
  sees = λ bytes fits. record { value = some; is = is; before = []; due = begin nesting; after = items some; in_order = refl; given = tt; left = bytes; here = refl; miss = deep };
  gives = λ bytes r s. too_deep_gives items Is nesting deep bytes r s;
}
