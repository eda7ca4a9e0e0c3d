-- One phrase and then another.
use Rattle.std.proofs.Common.{◌≡◌, ℕ, List, [], ◌∷◌, ◌++◌, Result, Ok, Err, refl, sym, ap, subst, ◌∙◌, append_assoc}
use Rattle.std.specs.List.{AllByRecursion}
use Rattle.std.proofs.lemmas.Grind.{flat_map-append}
use Rattle.chunk_io.specs.declared.miss.Miss.{Miss}
use Rattle.chunk_io.specs.Items.{Item, bytes_of, Allowed, spelling}
use Rattle.chunk_io.specs.Reading.{Read, ◌>>=◌, then_at}
use Rattle.chunk_io.proofs.Numbers.{IsBytes, IsBytes-append}
use Rattle.chunk_io.proofs.Phrases.{Taken, MissIn, Sees, Reads}

pub spelled_both : (xs ys : List Item) (rest : List ℕ) → spelling (xs ++ ys) ++ rest ≡ spelling xs ++ (spelling ys ++ rest)
spelled_both xs ys rest = ap (λ b. b ++ rest) (flat_map-append bytes_of xs ys) ∙ append_assoc (spelling xs) (spelling ys) rest

pub all_both : (xs ys : List Item) → AllByRecursion Allowed xs → AllByRecursion Allowed ys → AllByRecursion Allowed (xs ++ ys)
all_both [] ys a b = b
all_both (x ∷ xs) ys a b = (a.0, all_both xs ys a.1 b)

pub all_first : (xs ys : List Item) → AllByRecursion Allowed (xs ++ ys) → AllByRecursion Allowed xs
all_first [] ys a = tt
all_first (x ∷ xs) ys a = (a.0, all_first xs ys a.1)

pub all_second : (xs ys : List Item) → AllByRecursion Allowed (xs ++ ys) → AllByRecursion Allowed ys
all_second [] ys a = a
all_second (x ∷ xs) ys a = all_second xs ys a.1

-- An item of two lists stands in the first or in the second.
pub data Side (xs ys before : List Item) (due : Item) (after : List Item) : Type 0 where
  in_first : (behind : List Item) → xs ≡ before ++ due ∷ behind → Side xs ys before due after
  in_second : (between : List Item) → before ≡ xs ++ between → ys ≡ between ++ due ∷ after → Side xs ys before due after

one_further : (x b : Item) (xs ys before : List Item) (due : Item) (after : List Item) → x ≡ b → Side xs ys before due after → Side (x ∷ xs) ys (b ∷ before) due after
one_further x b xs ys before due after e (in_first behind h) = in_first behind (cc)
one_further x b xs ys before due after e (in_second between h g) = in_second between (cc) g

pub heads : (x y : Item) (xs ys : List Item) → x ∷ xs ≡ y ∷ ys → (x ≡ y) × (xs ≡ ys)
heads x y xs ys e = (cc, cc)

pub side : (xs ys before : List Item) (due : Item) (after : List Item) → xs ++ ys ≡ before ++ due ∷ after → Side xs ys before due after
side [] ys before due after e = in_second before refl e
side (x ∷ xs) ys [] due after e = in_first xs (ap (λ i. i ∷ xs) (heads x due (xs ++ ys) after e).0)
side (x ∷ xs) ys (b ∷ before) due after e =
    let h = heads x b (xs ++ ys) (before ++ due ∷ after) e in
    one_further x b xs ys before due after h.0 (side xs ys before due after h.1)

-- ---- one part and then another

module _ {A B : Type 0} (items : A → List Item) (Is : A → Type 0) (others : A → B → List Item) (Others : A → B → Type 0) where
  abbrev pub both_items : A × B → List Item
  both_items p = items p.0 ++ others p.0 p.1

  abbrev pub BothAre : A × B → Type 0
  BothAre p = Is p.0 × Others p.0 p.1

  second_sees : (bytes : List ℕ) (x : A × List ℕ) → Taken items Is bytes x → (r : Result (B × List ℕ) Miss) → Sees (others x.0) (Others x.0) x.1 r
      → Sees both_items BothAre bytes (r >>= λ y. Ok ((x.0, y.0), y.1))
  second_sees bytes x t (Ok y) s = record {
    here = t.here ∙ ap (λ b. spelling (items x.0) ++ b) s.here ∙ sym (spelled_both (items x.0) (others x.0 y.0) y.1);
    allowed = all_both (items x.0) (others x.0 y.0) t.allowed s.allowed;
    is = (t.is, s.is);
  }
  second_sees bytes x t (Err m) s = record {
    value = (x.0, s.value);
    is = (t.is, s.is);
    before = items x.0 ++ s.before;
    due = s.due;
    after = s.after;
    in_order = ap (λ i. items x.0 ++ i) s.in_order ∙ sym (append_assoc (items x.0) s.before (s.due ∷ s.after));
    given = all_both (items x.0) s.before t.allowed s.given;
    left = s.left;
    here = t.here ∙ ap (λ b. spelling (items x.0) ++ b) s.here ∙ sym (spelled_both (items x.0) s.before s.left);
    miss = s.miss;
  }

  first_sees : (second : A → Read B) → ((a : A) → Is a → Reads (second a) (others a) (Others a)) → (bytes : List ℕ) → IsBytes bytes → (r : Result (A × List ℕ) Miss) → Sees items Is bytes r
      → Sees both_items BothAre bytes (r >>= λ x. second x.0 x.1 >>= λ y. Ok ((x.0, y.0), y.1))
  first_sees second next bytes fits (Ok x) s =
      let rest_fits : IsBytes x.1 = IsBytes-append (spelling (items x.0)) x.1 (subst IsBytes s.here fits) in
      second_sees bytes x s (second x.0 x.1) ((next x.0 s.is).sees x.1 rest_fits)
  first_sees second next bytes fits (Err m) s =
      let other = next s.value s.is in
      record {
        value = (s.value, other.some);
        is = (s.is, other.some_is);
        before = s.before;
        due = s.due;
        after = s.after ++ others s.value other.some;
        in_order = ap (λ i. i ++ others s.value other.some) s.in_order ∙ append_assoc s.before (s.due ∷ s.after) (others s.value other.some);
        given = s.given;
        left = s.left;
        here = s.here;
        miss = s.miss;
      }

  side_gives : (first : Read A) → Reads first items Is → (second : A → Read B) → ((a : A) → Is a → Reads (second a) (others a) (Others a)) → (bytes : List ℕ) (m : Miss) (s : MissIn both_items BothAre bytes m)
      → Side (items s.value.0) (others s.value.0 s.value.1) s.before s.due s.after → then_at first second bytes ≡ Err m
  side_gives first p second next bytes m s (in_first behind h) =
      let e : first bytes ≡ Err m = p.gives bytes (Err m) (record { value = s.value.0; is = s.is.0; before = s.before; due = s.due; after = behind; in_order = h; given = s.given; left = s.left; here = s.here; miss = s.miss }) in
      rw e
  side_gives first p second next bytes m s (in_second between h g) =
      let a = s.value.0 in
      let given = subst (AllByRecursion Allowed) h s.given in
      let middle = spelling between ++ s.left in
      let e : first bytes ≡ Ok (a, middle) = p.gives bytes (Ok (a, middle)) (record { here = s.here ∙ ap (λ (i : List Item). spelling i ++ s.left) h ∙ spelled_both (items a) between s.left; allowed = all_first (items a) between given; is = s.is.0 }) in
      let f : second a middle ≡ Err m = (next a s.is.0).gives middle (Err m) (record { value = s.value.1; is = s.is.1; before = between; due = s.due; after = s.after; in_order = g; given = all_second (items a) between given; left = s.left; here = refl; miss = s.miss }) in
      rw (e, f)

  both_gives : (first : Read A) → Reads first items Is → (second : A → Read B) → ((a : A) → Is a → Reads (second a) (others a) (Others a)) → (bytes : List ℕ) (r : Result ((A × B) × List ℕ) Miss)
      → Sees both_items BothAre bytes r → then_at first second bytes ≡ r
  both_gives first p second next bytes (Ok x) s =
      let a = x.0.0 in
      let b = x.0.1 in
      let middle = spelling (others a b) ++ x.1 in
      let e : first bytes ≡ Ok (a, middle) = p.gives bytes (Ok (a, middle)) (record { here = s.here ∙ spelled_both (items a) (others a b) x.1; allowed = all_first (items a) (others a b) s.allowed; is = s.is.0 }) in
      let f : second a middle ≡ Ok (b, x.1) = (next a s.is.0).gives middle (Ok (b, x.1)) (record { here = refl; allowed = all_second (items a) (others a b) s.allowed; is = s.is.1 }) in
      rw (e, f)
  both_gives first p second next bytes (Err m) s =
      side_gives first p second next bytes m s (side (items s.value.0) (others s.value.0 s.value.1) s.before s.due s.after s.in_order)

pub reads_then : {A B : Type 0} {first : Read A} {items : A → List Item} {Is : A → Type 0} {second : A → Read B} {others : A → B → List Item} {Others : A → B → Type 0}
    → Reads first items Is → ((a : A) → Is a → Reads (second a) (others a) (Others a)) → Reads (then_at first second) (both_items items Is others Others) (BothAre items Is others Others)
reads_then {first = first} {items = items} {Is = Is} {second = second} {others = others} {Others = Others} p next = record {
  some = (p.some, (next p.some p.some_is).some);
  some_is = (p.some_is, (next p.some p.some_is).some_is);
  sees = λ bytes fits. first_sees items Is others Others second next bytes fits (first bytes) (p.sees bytes fits);
  gives = both_gives items Is others Others first p second next;
}
