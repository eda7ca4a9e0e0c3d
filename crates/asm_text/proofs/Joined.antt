-- One phrase and then another.
use Rattle.std.proofs.Common.{◌≡◌, ℕ, List, [], ◌∷◌, ◌++◌, Result, Ok, Err, refl, sym, ap, subst, ◌∙◌, append_assoc}
use Rattle.lua_num.specs.Bytes.{Text}
use Rattle.asm_text.specs.declared.miss.Miss.{Miss}
use Rattle.asm_text.specs.Lines.{Place, together, Show}
use Rattle.asm_text.specs.Reading.{Read, ◌>>=◌, then_at}
use Rattle.asm_text.proofs.Places.{together_both, show_both, show_split}
use Rattle.asm_text.proofs.Phrases.{Taken, MissIn, Sees, Reads}

-- A place of two lists stands in the first or in the second.
pub data Side (xs ys before : List Place) (due : Place) (after : List Place) : Type 0 where
  in_first : (behind : List Place) → xs ≡ before ++ due ∷ behind → Side xs ys before due after
  in_second : (between : List Place) → before ≡ xs ++ between → ys ≡ between ++ due ∷ after → Side xs ys before due after

one_further : (x b : Place) (xs ys before : List Place) (due : Place) (after : List Place) → x ≡ b → Side xs ys before due after → Side (x ∷ xs) ys (b ∷ before) due after
one_further x b xs ys before due after e (in_first behind h) = in_first behind (cc)
one_further x b xs ys before due after e (in_second between h g) = in_second between (cc) g

pub heads : (x y : Place) (xs ys : List Place) → x ∷ xs ≡ y ∷ ys → (x ≡ y) × (xs ≡ ys)
heads x y xs ys e = (cc, cc)

pub side : (xs ys before : List Place) (due : Place) (after : List Place) → xs ++ ys ≡ before ++ due ∷ after → Side xs ys before due after
side [] ys before due after e = in_second before refl e
side (x ∷ xs) ys [] due after e = in_first xs (ap (λ i. i ∷ xs) (heads x due (xs ++ ys) after e).0)
side (x ∷ xs) ys (b ∷ before) due after e =
    let h = heads x b (xs ++ ys) (before ++ due ∷ after) e in
    one_further x b xs ys before due after h.0 (side xs ys before due after h.1)

-- ---- one part and then another

module _ {A B : Type 0} (places : A → List Place) (Is : A → Type 0) (others : A → B → List Place) (Others : A → B → Type 0) where
  abbrev pub both_places : A × B → List Place
  both_places p = places p.0 ++ others p.0 p.1

  abbrev pub BothAre : A × B → Type 0
  BothAre p = Is p.0 × Others p.0 p.1

  second_sees : (bytes : List ℕ) (x : A × List ℕ) → Taken places Is bytes x → (r : Result (B × List ℕ) Miss) → Sees (others x.0) (Others x.0) x.1 r
      → Sees both_places BothAre bytes (r >>= λ y. Ok ((x.0, y.0), y.1))
  second_sees bytes x t (Ok y) s = record {
    given = t.given ++ s.given;
    here = t.here ∙ ap (λ b. together t.given ++ b) s.here ∙ sym (together_both t.given s.given y.1);
    shown = show_both (places x.0) (others x.0 y.0) t.given s.given t.shown s.shown;
    is = (t.is, s.is);
  }
  second_sees bytes x t (Err m) s = record {
    value = (x.0, s.value);
    is = (t.is, s.is);
    before = places x.0 ++ s.before;
    due = s.due;
    after = s.after;
    in_order = ap (λ i. places x.0 ++ i) s.in_order ∙ sym (append_assoc (places x.0) s.before (s.due ∷ s.after));
    given = t.given ++ s.given;
    shown = show_both (places x.0) s.before t.given s.given t.shown s.shown;
    left = s.left;
    here = t.here ∙ ap (λ b. together t.given ++ b) s.here ∙ sym (together_both t.given s.given s.left);
    miss = s.miss;
  }

  first_sees : (second : A → Read B) → ((a : A) → Is a → Reads (second a) (others a) (Others a)) → (bytes : List ℕ) → (r : Result (A × List ℕ) Miss) → Sees places Is bytes r
      → Sees both_places BothAre bytes (r >>= λ x. second x.0 x.1 >>= λ y. Ok ((x.0, y.0), y.1))
  first_sees second next bytes (Ok x) s = second_sees bytes x s (second x.0 x.1) ((next x.0 s.is).sees x.1)
  first_sees second next bytes (Err m) s =
      let other = next s.value s.is in
      record {
        value = (s.value, other.some);
        is = (s.is, other.some_is);
        before = s.before;
        due = s.due;
        after = s.after ++ others s.value other.some;
        in_order = ap (λ i. i ++ others s.value other.some) s.in_order ∙ append_assoc s.before (s.due ∷ s.after) (others s.value other.some);
        given = s.given;
        shown = s.shown;
        left = s.left;
        here = s.here;
        miss = s.miss;
      }

  side_gives : (first : Read A) → Reads first places Is → (second : A → Read B) → ((a : A) → Is a → Reads (second a) (others a) (Others a)) → (bytes : List ℕ) (m : Miss) (s : MissIn both_places BothAre bytes m)
      → Side (places s.value.0) (others s.value.0 s.value.1) s.before s.due s.after → then_at first second bytes ≡ Err m
  side_gives first p second next bytes m s (in_first behind h) =
      let e : first bytes ≡ Err m = p.gives bytes (Err m) (record { value = s.value.0; is = s.is.0; before = s.before; due = s.due; after = behind; in_order = h; given = s.given; shown = s.shown; left = s.left; here = s.here; miss = s.miss }) in
      rw e
  side_gives first p second next bytes m s (in_second between h g) =
      let a = s.value.0 in
      let split = show_split (places a) between s.given (subst (λ ps. Show ps s.given) h s.shown) in
      let middle = together split.second ++ s.left in
      let e : first bytes ≡ Ok (a, middle) = p.gives bytes (Ok (a, middle)) (record { given = split.first; here = s.here ∙ ap (λ (ts : List Text). together ts ++ s.left) split.is ∙ together_both split.first split.second s.left; shown = split.shows_first; is = s.is.0 }) in
      let f : second a middle ≡ Err m = (next a s.is.0).gives middle (Err m) (record { value = s.value.1; is = s.is.1; before = between; due = s.due; after = s.after; in_order = g; given = split.second; shown = split.shows_second; left = s.left; here = refl; miss = s.miss }) in
      rw (e, f)

  both_gives : (first : Read A) → Reads first places Is → (second : A → Read B) → ((a : A) → Is a → Reads (second a) (others a) (Others a)) → (bytes : List ℕ) (r : Result ((A × B) × List ℕ) Miss)
      → Sees both_places BothAre bytes r → then_at first second bytes ≡ r
  both_gives first p second next bytes (Ok x) s =
      let a = x.0.0 in
      let b = x.0.1 in
      let split = show_split (places a) (others a b) s.given s.shown in
      let middle = together split.second ++ x.1 in
      let e : first bytes ≡ Ok (a, middle) = p.gives bytes (Ok (a, middle)) (record { given = split.first; here = s.here ∙ ap (λ (ts : List Text). together ts ++ x.1) split.is ∙ together_both split.first split.second x.1; shown = split.shows_first; is = s.is.0 }) in
      let f : second a middle ≡ Ok (b, x.1) = (next a s.is.0).gives middle (Ok (b, x.1)) (record { given = split.second; here = refl; shown = split.shows_second; is = s.is.1 }) in
      rw (e, f)
  both_gives first p second next bytes (Err m) s =
      side_gives first p second next bytes m s (side (places s.value.0) (others s.value.0 s.value.1) s.before s.due s.after s.in_order)

pub reads_then : {A B : Type 0} {first : Read A} {places : A → List Place} {Is : A → Type 0} {second : A → Read B} {others : A → B → List Place} {Others : A → B → Type 0}
    → Reads first places Is → ((a : A) → Is a → Reads (second a) (others a) (Others a)) → Reads (then_at first second) (both_places places Is others Others) (BothAre places Is others Others)
reads_then {first = first} {places = places} {Is = Is} {second = second} {others = others} {Others = Others} p next = record {
  some = (p.some, (next p.some p.some_is).some);
  some_is = (p.some_is, (next p.some p.some_is).some_is);
  sees = λ bytes. first_sees places Is others Others second next bytes (first bytes) (p.sees bytes);
  gives = both_gives places Is others Others first p second next;
}
