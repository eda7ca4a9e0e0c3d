-- The copies of an assignment: a local that is the table or the key of a target, and itself a target further right, is read before it is
-- stored to.
use Rattle.std.proofs.Common.{◌≡◌, ◌≢◌, ◌≤◌, ◌<◌, ℕ, zero, suc, ◌+◌, ◌==◌, ◌&&◌, ◌||◌, nat_eq, Bool, true, false, ◌⊎◌, inl, inr, List, [], ◌∷◌, map, length, Some, cond, refl, sym, ap, ◌∙◌, subst, arith}
use Rattle.std.specs.Prelude.{slice_get, if◌then◌else◌}
use Rattle.std.proofs.lemmas.Bool.Decides.{nat_tests}
use Rattle.scheme.specs.Making.{in_register, in_upvalue, in_globals}
use Rattle.scheme.specs.Expressions as scheme
use Rattle.scheme.specs.Expressions.{name_target, part_target}
use Rattle.scheme.specs.Statements.{clashes, with_copy, renamed, is_part_of, is_among}
use Rattle.scheme.specs.Statements as statements
use Rattle.lua_model.specs.Datum.{Datum}
use Rattle.source_meaning.specs.State.{State as SourceState, Taken, taken, late, Target, to_cell, to_global, to_entry, cell}
use Rattle.source_meaning.specs.Meaning.{is_target, copied, with_copies}
use Rattle.rules.proofs.Lists.{or_first_false, or_second_false, and_second, and_not, or_cases, or_left, or_right}
use Rattle.scheme_stands.specs.Words.{is_marked}
use Rattle.agrees.proofs.Posts.{Keeps, InRegister, InOperand, Flag, Stands, AllStand}
use Rattle.agrees.proofs.Lists.{nat_cases, within, get_within, length_map}
use Rattle.agrees.proofs.Picture.{Setup, of_cell, Act, Ghost, Site, Ok, Apart}
use Rattle.agrees.proofs.PictureChanges.{same_home}
use Rattle.agrees.proofs.Operands.{op_keep, rk_keep}
use Rattle.agrees.proofs.AssignStores.{stands_keep}

-- ## how many copies

abbrev pub one_if : Bool → ℕ
one_if true = 1
one_if false = 0

abbrev pub clash_count : ℕ → List scheme.Target → ℕ
clash_count zero ds = 0
clash_count (suc n) ds = clash_count n ds + one_if (clashes n ds)

abbrev among_count : ℕ → List scheme.Target → ℕ
among_count zero ds = 0
among_count (suc n) ds = among_count n ds + one_if (is_among n ds)

abbrev single_count : ℕ → scheme.Target → ℕ
single_count zero d = 0
single_count (suc n) d = single_count n d + one_if (statements.is_target n d)

clash_among : (n : ℕ) (ds : List scheme.Target) → clashes n ds ≡ true → is_among n ds ≡ true
clash_among n [] e = cc
clash_among n (d ∷ ds) e = by (λ h. clash_among n ds h) (or_cases (is_part_of n d && is_among n ds) (clashes n ds) e)
  where
    by : (clashes n ds ≡ true → is_among n ds ≡ true) → ((is_part_of n d && is_among n ds) ≡ true) ⊎ (clashes n ds ≡ true) → (statements.is_target n d || is_among n ds) ≡ true
    by again (inl h) = or_right (statements.is_target n d) (is_among n ds) (and_second (is_part_of n d) (is_among n ds) h)
    by again (inr h) = or_right (statements.is_target n d) (is_among n ds) (again h)

less_if : (a b : Bool) → (a ≡ true → b ≡ true) → one_if a ≤ one_if b
less_if false b h = omega arith
less_if true b h = let e = ap one_if (h refl) in omega (arith, e)

either_if : (a b : Bool) → one_if (a || b) ≤ one_if a + one_if b
either_if true b = omega arith
either_if false b = omega arith

clash_fewer : (n : ℕ) (ds : List scheme.Target) → clash_count n ds ≤ among_count n ds
clash_fewer zero ds = omega arith
clash_fewer (suc n) ds = let a = clash_fewer n ds in let b = less_if (clashes n ds) (is_among n ds) (clash_among n ds) in omega (arith, a, b)

single_none : (n : ℕ) (d : scheme.Target) → ((x : ℕ) → statements.is_target x d ≡ false) → single_count n d ≡ 0
single_none zero d h = refl
single_none (suc n) d h = let a = single_none n d h in let b = ap one_if (h n) in omega (arith, a, b)

single_one : (n y : ℕ) (t : _) → (single_count n (name_target t (in_register y)) ≤ 1) × (n ≤ y → single_count n (name_target t (in_register y)) ≡ 0)
single_one zero y t = (omega arith, λ l. refl)
single_one (suc n) y t = by (single_one n y t) (n == y) refl
  where
    by : (single_count n (name_target t (in_register y)) ≤ 1) × (n ≤ y → single_count n (name_target t (in_register y)) ≡ 0) → (b : Bool) → (n == y) ≡ b → (single_count n (name_target t (in_register y)) + one_if (n == y) ≤ 1) × (suc n ≤ y → single_count n (name_target t (in_register y)) + one_if (n == y) ≡ 0)
    by h true e =
        let same : n ≡ y = grind (arith, nat_tests) in
        let a = h.1 (omega arith) in
        let o = ap one_if e in
        (omega (arith, a, o), λ l. absurd (omega arith))
    by h false e = let a = h.0 in let o = ap one_if e in (omega (arith, a, o), λ l. let c = h.1 (omega arith) in omega (arith, c, o))

single_few : (n : ℕ) (d : scheme.Target) → single_count n d ≤ 1
single_few n (name_target t (in_register y)) = (single_one n y t).0
single_few n (name_target t (in_upvalue i)) = let e = single_none n (name_target t (in_upvalue i)) (λ x. refl) in omega (arith, e)
single_few n (name_target t in_globals) = let e = single_none n (name_target t in_globals) (λ x. refl) in omega (arith, e)
single_few n (part_target i j ol kl) = let e = single_none n (part_target i j ol kl) (λ x. refl) in omega (arith, e)

among_few : (n : ℕ) (ds : List scheme.Target) → among_count n ds ≤ length ds
among_few n [] = none n
  where
    none : (n : ℕ) → among_count n [] ≤ 0
    none zero = omega arith
    none (suc n) = let a = none n in omega (arith, a)
among_few n (d ∷ ds) = let a = among_few n ds in let b = single_few n d in let c = split n in omega (arith, a, b, c)
  where
    split : (n : ℕ) → among_count n (d ∷ ds) ≤ single_count n d + among_count n ds
    split zero = omega arith
    split (suc n) = let a = split n in let b = either_if (statements.is_target n d) (is_among n ds) in omega (arith, a, b)

pub few_copies : (n : ℕ) (ds : List scheme.Target) → clash_count n ds ≤ length ds
few_copies n ds = let a = clash_fewer n ds in let b = among_few n ds in omega (arith, a, b)

-- ## what is copied, on both sides

module _ (z : Setup) (s : SourceState) (g : Ghost) (x : Site) (ok : Ok z s g x) where
  one_slot : (r r1 c : ℕ) → slice_get x.a.slots r ≡ Some (of_cell c) → slice_get x.a.slots r1 ≡ Some (of_cell c) → r ≡ r1
  one_slot r r1 c e e1 =
      let k = ok.acts.0.as_many in
      let l = within x.a.slots r (of_cell c) e in
      let l1 = within x.a.slots r1 (of_cell c) e1 in
      let b = get_within (map is_marked x.a.active) r (omega (arith, l, k, length_map is_marked x.a.active)) in
      let b1 = get_within (map is_marked x.a.active) r1 (omega (arith, l1, k, length_map is_marked x.a.active)) in
      let h = ok.loc (length x.below) r c b.0 (inl (record { at_frame = refl; slot = e; marked = b.1 })) in
      let h1 = ok.loc (length x.below) r1 c b1.0 (inl (record { at_frame = refl; slot = e1; marked = b1.1 })) in
      (same_home (length x.below) r (length x.below) r1 b.0 b1.0 (sym h.1 ∙ h1.1)).1

  same_test : (r r1 c d : ℕ) → slice_get x.a.slots r ≡ Some (of_cell c) → slice_get x.a.slots r1 ≡ Some (of_cell d) → nat_eq c d ≡ (r == r1)
  same_test r r1 c d e e1 = by (nat_cases c d)
    where
      some_cell : Some (of_cell c) ≡ Some (of_cell d) → c ≡ d
      some_cell q = cc

      by : ((nat_eq c d ≡ true) × (c ≡ d)) ⊎ ((nat_eq c d ≡ false) × (c ≢ d)) → nat_eq c d ≡ (r == r1)
      by (inl h) = let q : r ≡ r1 = one_slot r r1 c e (e1 ∙ ap (λ y. Some (of_cell y)) (sym h.1)) in let t : (r == r1) ≡ true = grind (arith, nat_tests) in h.0 ∙ sym t
      by (inr h) =
          let n : r ≢ r1 = λ q. h.1 (some_cell (sym e ∙ ap (slice_get x.a.slots) q ∙ e1)) in
          let t : (r == r1) ≡ false = grind (arith, nat_tests) in h.0 ∙ sym t

  -- a local is a target further right, or is not
  pub among_is : Apart x.a → (high : List Datum) (k : ℕ) (ts : List Target) (ds : List scheme.Target) → AllStand x.a high k ts ds → (r c : ℕ) → slice_get x.a.slots r ≡ Some (of_cell c) → is_target c ts ≡ is_among r ds
  among_is apart high k [] [] st r c e = refl
  among_is apart high k [] (d ∷ ds) st r c e = absurd st
  among_is apart high k (t ∷ ts) [] st r c e = absurd st
  among_is apart high k (to_cell d ∷ ts) (name_target n (in_register r1) ∷ ds) st r c e =
      ap (λ b. b || is_target c ts) (same_test r r1 c d e st.0) ∙ ap (λ b. (r == r1) || b) (among_is apart high k ts ds st.1 r c e)
  among_is apart high k (to_cell d ∷ ts) (name_target n (in_upvalue i) ∷ ds) st r c e =
      ap (λ b. b || is_target c ts) (let f : nat_eq c d ≡ false = by (nat_cases c d) in f) ∙ among_is apart high k ts ds st.1 r c e
    where
      by : ((nat_eq c d ≡ true) × (c ≡ d)) ⊎ ((nat_eq c d ≡ false) × (c ≢ d)) → nat_eq c d ≡ false
      by (inl h) = absurd (apart i r c (st.0 ∙ ap Some (sym h.1)) e)
      by (inr h) = h.0
  among_is apart high k (to_cell d ∷ ts) (name_target n in_globals ∷ ds) st r c e = absurd st.0
  among_is apart high k (to_cell d ∷ ts) (part_target i j ol kl ∷ ds) st r c e = absurd st.0
  among_is apart high k (to_global n ∷ ts) (name_target m (in_register r1) ∷ ds) st r c e = absurd st.0
  among_is apart high k (to_global n ∷ ts) (name_target m (in_upvalue i) ∷ ds) st r c e = absurd st.0
  among_is apart high k (to_global n ∷ ts) (name_target m in_globals ∷ ds) st r c e = among_is apart high k ts ds st.1 r c e
  among_is apart high k (to_global n ∷ ts) (part_target i j ol kl ∷ ds) st r c e = absurd st.0
  among_is apart high k (to_entry on key ∷ ts) (name_target m w ∷ ds) st r c e = absurd st.0
  among_is apart high k (to_entry on key ∷ ts) (part_target i j ol kl ∷ ds) st r c e = among_is apart high k ts ds st.1 r c e

-- ## while copies are made: those of the first n registers are done

abbrev pub Moved : Act → List Datum → ℕ → ℕ → SourceState → Taken → (i i1 : ℕ) → List Target → List scheme.Target → Type 0
Moved a high k n s t i i1 ts ds = ((i1 ≡ i) × ((c : ℕ) → t ≡ late c → i < n → is_among i ds ≡ false)) ⊎ ((v : Datum) × (copied t ts s ≡ taken v) × InRegister a high k (taken v) i1)

pub record MovedEntry (a : Act) (high : List Datum) (k n : ℕ) (s : SourceState) (on key : Taken) (i j : ℕ) (ol kl : Bool) (d1 : scheme.Target) (ts : List Target) (ds : List scheme.Target) : Type 0 where
  pub i1 : ℕ
  pub j1 : ℕ
  pub is : d1 ≡ part_target i1 j1 ol kl
  pub on_moved : Moved a high k n s on i i1 ts ds
  pub key_moved : Moved a high k n s key j j1 ts ds

abbrev pub One : Act → List Datum → ℕ → ℕ → SourceState → Target → (d d1 : scheme.Target) → List Target → List scheme.Target → Type 0
One a high k n s (to_entry on key) (part_target i j ol kl) d1 ts ds = MovedEntry a high k n s on key i j ol kl d1 ts ds
One a high k n s (to_cell c) d d1 ts ds = d1 ≡ d
One a high k n s (to_global m) d d1 ts ds = d1 ≡ d
One a high k n s (to_entry on key) (name_target m w) d1 ts ds = d1 ≡ name_target m w

abbrev pub AllMoved : Act → List Datum → ℕ → ℕ → SourceState → List Target → (ds ds1 : List scheme.Target) → Type 0
AllMoved a high k n s [] [] [] = Unit {0}
AllMoved a high k n s (t ∷ ts) (d ∷ ds) (d1 ∷ ds1) = One a high k n s t d d1 ts ds × AllMoved a high k n s ts ds ds1
AllMoved a high k n s _ _ _ = ⊥

pub all_start : (a : Act) (high : List Datum) (k : ℕ) (s : SourceState) (ts : List Target) (ds : List scheme.Target) → AllStand a high k ts ds → AllMoved a high k 0 s ts ds ds
all_start a high k s [] [] st = tt
all_start a high k s [] (d ∷ ds) st = absurd st
all_start a high k s (t ∷ ts) [] st = absurd st
all_start a high k s (to_cell c ∷ ts) (d ∷ ds) st = (refl, all_start a high k s ts ds st.1)
all_start a high k s (to_global c ∷ ts) (d ∷ ds) st = (refl, all_start a high k s ts ds st.1)
all_start a high k s (to_entry on key ∷ ts) (name_target m w ∷ ds) st = (refl, all_start a high k s ts ds st.1)
all_start a high k s (to_entry on key ∷ ts) (part_target i j ol kl ∷ ds) st =
    (record { i1 = i; j1 = j; is = refl; on_moved = inl (refl, λ c e l. absurd (omega arith)); key_moved = inl (refl, λ c e l. absurd (omega arith)) }, all_start a high k s ts ds st.1)

-- one more register, which is not copied for this operand
moved_stay : (a : Act) (high high1 : List Datum) (k k1 n : ℕ) (s : SourceState) (t : Taken) (fl : Bool) (i i1 : ℕ) (ts : List Target) (ds : List scheme.Target) → k ≤ k1 → Keeps k high high1 → Flag t fl → ((fl && (i == n)) ≡ true → is_among n ds ≡ false) → Moved a high k n s t i i1 ts ds → Moved a high1 k1 (suc n) s t i i1 ts ds
moved_stay a high high1 k k1 n s t fl i i1 ts ds l kp flag part (inr h) = inr (h.0, h.1, op_keep a high high1 k k1 (taken h.0) i1 l kp h.2)
moved_stay a high high1 k k1 n s t fl i i1 ts ds l kp flag part (inl h) = inl (h.0, λ c e less. by c e less (i == n) refl)
  where
    by : (c : ℕ) → t ≡ late c → i < suc n → (b : Bool) → (i == n) ≡ b → is_among i ds ≡ false
    by c e less true q =
        let same : i ≡ n = grind (arith, nat_tests) in
        let on : fl ≡ true = subst (λ u. Flag u fl) e flag in
        ap (λ r. is_among r ds) same ∙ part (ap (λ b. b && (i == n)) on ∙ q)
    by c e less false q = let other : i ≢ n = grind (arith, nat_tests) in h.1 c e (omega (arith, other, less))

and_false : (b : Bool) → (b && false) ≡ false
and_false true = refl
and_false false = refl

-- none of the operands is in this register and a target further right
pub all_stay : (a : Act) (high0 high high1 : List Datum) (k0 k k1 n : ℕ) (s : SourceState) (ts : List Target) (ds ds1 : List scheme.Target) → k ≤ k1 → Keeps k high high1 → AllStand a high0 k0 ts ds → clashes n ds ≡ false → AllMoved a high k n s ts ds ds1 → AllMoved a high1 k1 (suc n) s ts ds ds1
all_stay a high0 high high1 k0 k k1 n s [] [] [] l kp st e m = tt
all_stay a high0 high high1 k0 k k1 n s [] [] (d1 ∷ ds1) l kp st e m = absurd m
all_stay a high0 high high1 k0 k k1 n s [] (d ∷ ds) ds1 l kp st e m = absurd st
all_stay a high0 high high1 k0 k k1 n s (t ∷ ts) [] ds1 l kp st e m = absurd st
all_stay a high0 high high1 k0 k k1 n s (t ∷ ts) (d ∷ ds) [] l kp st e m = absurd m
all_stay a high0 high high1 k0 k k1 n s (to_cell c ∷ ts) (d ∷ ds) (d1 ∷ ds1) l kp st e m = (m.0, all_stay a high0 high high1 k0 k k1 n s ts ds ds1 l kp st.1 (or_second_false (is_part_of n d && is_among n ds) (clashes n ds) e) m.1)
all_stay a high0 high high1 k0 k k1 n s (to_global c ∷ ts) (d ∷ ds) (d1 ∷ ds1) l kp st e m = (m.0, all_stay a high0 high high1 k0 k k1 n s ts ds ds1 l kp st.1 (or_second_false (is_part_of n d && is_among n ds) (clashes n ds) e) m.1)
all_stay a high0 high high1 k0 k k1 n s (to_entry on key ∷ ts) (name_target u w ∷ ds) (d1 ∷ ds1) l kp st e m = absurd st.0
all_stay a high0 high high1 k0 k k1 n s (to_entry on key ∷ ts) (part_target i j ol kl ∷ ds) (d1 ∷ ds1) l kp st e m =
    let none : (((ol && (i == n)) || (kl && (j == n))) && is_among n ds) ≡ false = or_first_false (((ol && (i == n)) || (kl && (j == n))) && is_among n ds) (clashes n ds) e in (
      record {
        i1 = m.0.i1;
        j1 = m.0.j1;
        is = m.0.is;
        on_moved = moved_stay a high high1 k k1 n s on ol i m.0.i1 ts ds l kp st.0.2 (λ h. and_not ((ol && (i == n)) || (kl && (j == n))) (is_among n ds) none (or_left (ol && (i == n)) (kl && (j == n)) h)) m.0.on_moved;
        key_moved = moved_stay a high high1 k k1 n s key kl j m.0.j1 ts ds l kp st.0.3 (λ h. and_not ((ol && (i == n)) || (kl && (j == n))) (is_among n ds) none (or_right (ol && (i == n)) (kl && (j == n)) h)) m.0.key_moved;
      },
      all_stay a high0 high high1 k0 k k1 n s ts ds ds1 l kp st.1 (or_second_false ((((ol && (i == n)) || (kl && (j == n))) && is_among n ds)) (clashes n ds) e) m.1,
    )

-- names stay as they are
among_same : (a : Act) (high0 high : List Datum) (k0 k n r : ℕ) (s : SourceState) (ts : List Target) (ds ds1 : List scheme.Target) → AllStand a high0 k0 ts ds → AllMoved a high k n s ts ds ds1 → is_among r ds1 ≡ is_among r ds
among_same a high0 high k0 k n r s [] [] [] st m = refl
among_same a high0 high k0 k n r s [] [] (d1 ∷ ds1) st m = absurd m
among_same a high0 high k0 k n r s [] (d ∷ ds) ds1 st m = absurd st
among_same a high0 high k0 k n r s (t ∷ ts) [] ds1 st m = absurd st
among_same a high0 high k0 k n r s (t ∷ ts) (d ∷ ds) [] st m = absurd m
among_same a high0 high k0 k n r s (to_cell c ∷ ts) (d ∷ ds) (d1 ∷ ds1) st m = ap (λ y. statements.is_target r y || is_among r ds1) m.0 ∙ ap (λ b. statements.is_target r d || b) (among_same a high0 high k0 k n r s ts ds ds1 st.1 m.1)
among_same a high0 high k0 k n r s (to_global c ∷ ts) (d ∷ ds) (d1 ∷ ds1) st m = ap (λ y. statements.is_target r y || is_among r ds1) m.0 ∙ ap (λ b. statements.is_target r d || b) (among_same a high0 high k0 k n r s ts ds ds1 st.1 m.1)
among_same a high0 high k0 k n r s (to_entry on key ∷ ts) (name_target u w ∷ ds) (d1 ∷ ds1) st m = absurd st.0
among_same a high0 high k0 k n r s (to_entry on key ∷ ts) (part_target i j ol kl ∷ ds) (d1 ∷ ds1) st m = ap (λ y. statements.is_target r y || is_among r ds1) m.0.is ∙ among_same a high0 high k0 k n r s ts ds ds1 st.1 m.1

module _ (z : Setup) (s : SourceState) (g : Ghost) (x : Site) (ok : Ok z s g x) (apart : Apart x.a) where
  abbrev Copied : ℕ → ℕ → ℕ → List Datum → List Datum → Type 0
  Copied n free k high high1 = Keeps k high high1 × (free ≡ length x.a.slots + k) × ((c : ℕ) → slice_get x.a.slots n ≡ Some (of_cell c) → slice_get high1 k ≡ Some (cell s c))

  -- one more register, which is copied
  moved_copy : (high0 high high1 : List Datum) (k0 k n free : ℕ) (t : Taken) (fl : Bool) (i i1 : ℕ) (ts : List Target) (ds : List scheme.Target) → n < length x.a.slots → AllStand x.a high0 k0 ts ds → InOperand x.a high0 k0 t i → Flag t fl → is_among n ds ≡ true → Copied n free k high high1 → Moved x.a high k n s t i i1 ts ds → Moved x.a high1 (suc k) (suc n) s t i (cond (fl && (i1 == n)) free i1) ts ds
  moved_copy high0 high high1 k0 k n free t fl i i1 ts ds l st rk flag among cp (inr h) =
      let op = h.2 in
      let far : i1 ≡ length x.a.slots + op.0 = op.2 in
      let f : (i1 == n) ≡ false = grind (arith, nat_tests, far) in
      subst (λ y. Moved x.a high1 (suc k) (suc n) s t i y ts ds) (sym (ap (λ b. cond (fl && b) free i1) f ∙ ap (λ b. cond b free i1) (and_false fl)))
      (inr (h.0, h.1, op_keep x.a high high1 k (suc k) (taken h.0) i1 (omega arith) cp.0 op))
  moved_copy high0 high high1 k0 k n free t fl i i1 ts ds l st rk flag among cp (inl h) =
      subst (λ y. Moved x.a high1 (suc k) (suc n) s t i (cond (fl && (y == n)) free y) ts ds) (sym h.0) (by (i == n) refl)
    where
      here : (t : Taken) → InOperand x.a high0 k0 t i → Flag t fl → i ≡ n → (i == n) ≡ true → Moved x.a high1 (suc k) (suc n) s t i (cond (fl && true) free i) ts ds
      here (late c) (inl slot) flag same e =
          let test : is_target c ts ≡ true = among_is z s g x ok apart high0 k0 ts ds st i c slot ∙ ap (λ r. is_among r ds) same ∙ among in
          subst (λ b. Moved x.a high1 (suc k) (suc n) s (late c) i (cond (b && true) free i) ts ds) (sym flag)
          (inr (cell s c, ap (λ b. if b then taken (cell s c) else late c) test, (k, omega arith, cp.1, cp.2 c (ap (slice_get x.a.slots) (sym same) ∙ slot))))
      here (late c) (inr none) flag same e = let d = none.4 in cc
      here (taken v) (inl op) flag same e = let far = op.2 in absurd (omega (arith, far, same, l))
      here (taken v) (inr k1) flag same e =
          let far = k1.2 in let r = ok.acts.1 in let few = ok.acts.0.limits.registers in absurd (omega (arith, far, same, l, r, few))

      by : (b : Bool) → (i == n) ≡ b → Moved x.a high1 (suc k) (suc n) s t i (cond (fl && (i == n)) free i) ts ds
      by true e =
          subst (λ b. Moved x.a high1 (suc k) (suc n) s t i (cond (fl && b) free i) ts ds) (sym e) (here t rk flag (grind (arith, nat_tests)) e)
      by false e =
          let other : i ≢ n = grind (arith, nat_tests) in
          subst (λ y. Moved x.a high1 (suc k) (suc n) s t i y ts ds) (sym (ap (λ b. cond (fl && b) free i) e ∙ ap (λ b. cond b free i) (and_false fl)))
          (inl (refl, λ c q less. h.1 c q (omega (arith, other, less))))

  pub all_copy : (high0 high high1 : List Datum) (k0 k n free : ℕ) (ts : List Target) (ds ds1 : List scheme.Target) → n < length x.a.slots → AllStand x.a high0 k0 ts ds → Copied n free k high high1 → AllMoved x.a high k n s ts ds ds1 → AllMoved x.a high1 (suc k) (suc n) s ts ds (with_copy n free ds1)
  all_copy high0 high high1 k0 k n free [] [] [] l st cp m = tt
  all_copy high0 high high1 k0 k n free [] [] (d1 ∷ ds1) l st cp m = absurd m
  all_copy high0 high high1 k0 k n free [] (d ∷ ds) ds1 l st cp m = absurd st
  all_copy high0 high high1 k0 k n free (t ∷ ts) [] ds1 l st cp m = absurd st
  all_copy high0 high high1 k0 k n free (t ∷ ts) (d ∷ ds) [] l st cp m = absurd m
  all_copy high0 high high1 k0 k n free (t ∷ ts) (d ∷ ds) (d1 ∷ ds1) l st cp m =
      (one t d d1 st.0 m.0 (is_among n ds) refl (is_among n ds1) (among_same x.a high0 high k0 k n n s ts ds ds1 st.1 m.1), all_copy high0 high high1 k0 k n free ts ds ds1 l st.1 cp m.1)
    where
      name_stays : (b : Bool) (d1 d : scheme.Target) → d1 ≡ d → renamed n free d ≡ d → cond b (renamed n free d1) d1 ≡ d
      name_stays true d1 d e r = ap (renamed n free) e ∙ r
      name_stays false d1 d e r = e

      one : (t : Target) (d d1 : scheme.Target) → Stands x.a high0 k0 t d → One x.a high k n s t d d1 ts ds → (b : Bool) → is_among n ds ≡ b → (b1 : Bool) → b1 ≡ b → One x.a high1 (suc k) (suc n) s t d (cond b1 (renamed n free d1) d1) ts ds
      one (to_cell c) (name_target u w) d1 st0 o b e b1 e1 = name_stays b1 d1 (name_target u w) o refl
      one (to_cell c) (part_target i j ol kl) d1 st0 o b e b1 e1 = absurd st0
      one (to_global u) (name_target v w) d1 st0 o b e b1 e1 = name_stays b1 d1 (name_target v w) o refl
      one (to_global u) (part_target i j ol kl) d1 st0 o b e b1 e1 = absurd st0
      one (to_entry on key) (name_target u w) d1 st0 o b e b1 e1 = absurd st0
      one (to_entry on key) (part_target i j ol kl) d1 st0 o true e b1 e1 = record {
        i1 = cond (ol && (o.i1 == n)) free o.i1;
        j1 = cond (kl && (o.j1 == n)) free o.j1;
        is = ap (λ b. cond b (renamed n free d1) d1) e1 ∙ ap (renamed n free) o.is;
        on_moved = moved_copy high0 high high1 k0 k n free on ol i o.i1 ts ds l st.1 (inl st0.0) st0.2 e cp o.on_moved;
        key_moved = moved_copy high0 high high1 k0 k n free key kl j o.j1 ts ds l st.1 st0.1 st0.3 e cp o.key_moved;
      }
      one (to_entry on key) (part_target i j ol kl) d1 st0 o false e b1 e1 = record {
        i1 = o.i1;
        j1 = o.j1;
        is = ap (λ b. cond b (renamed n free d1) d1) e1 ∙ o.is;
        on_moved = moved_stay x.a high high1 k (suc k) n s on ol i o.i1 ts ds (omega arith) cp.0 st0.2 (λ h. e) o.on_moved;
        key_moved = moved_stay x.a high high1 k (suc k) n s key kl j o.j1 ts ds (omega arith) cp.0 st0.3 (λ h. e) o.key_moved;
      }

  -- all registers are done
  moved_end : (high0 high : List Datum) (k0 k : ℕ) (t : Taken) (fl : Bool) (i i1 : ℕ) (ts : List Target) (ds : List scheme.Target) → k0 ≤ k → Keeps k0 high0 high → AllStand x.a high0 k0 ts ds → InOperand x.a high0 k0 t i → Moved x.a high k (length x.a.slots) s t i i1 ts ds → InOperand x.a high k (copied t ts s) i1
  moved_end high0 high k0 k t fl i i1 ts ds l kp st rk (inr h) = subst (λ u. InOperand x.a high k u i1) (sym h.1) (inl h.2)
  moved_end high0 high k0 k (taken v) fl i i1 ts ds l kp st rk (inl h) = subst (InOperand x.a high k (taken v)) (sym h.0) (rk_keep x.a high0 high k0 k (taken v) i l kp rk)
  moved_end high0 high k0 k (late c) fl i i1 ts ds l kp st (inr none) (inl h) = let d = none.4 in cc
  moved_end high0 high k0 k (late c) fl i i1 ts ds l kp st (inl slot) (inl h) =
      let test : is_target c ts ≡ false = among_is z s g x ok apart high0 k0 ts ds st i c slot ∙ h.1 c refl (within x.a.slots i (of_cell c) slot) in
      subst (λ u. InOperand x.a high k u i1) (sym (ap (λ b. if b then taken (cell s c) else late c) test)) (inl (ap (slice_get x.a.slots) h.0 ∙ slot))

  moved_table : (high0 high : List Datum) (k0 k : ℕ) (t : Taken) (fl : Bool) (i i1 : ℕ) (ts : List Target) (ds : List scheme.Target) → k0 ≤ k → Keeps k0 high0 high → AllStand x.a high0 k0 ts ds → InRegister x.a high0 k0 t i → Moved x.a high k (length x.a.slots) s t i i1 ts ds → InRegister x.a high k (copied t ts s) i1
  moved_table high0 high k0 k t fl i i1 ts ds l kp st op (inr h) = subst (λ u. InRegister x.a high k u i1) (sym h.1) h.2
  moved_table high0 high k0 k (taken v) fl i i1 ts ds l kp st op (inl h) = subst (InRegister x.a high k (taken v)) (sym h.0) (op_keep x.a high0 high k0 k (taken v) i l kp op)
  moved_table high0 high k0 k (late c) fl i i1 ts ds l kp st slot (inl h) =
      let test : is_target c ts ≡ false = among_is z s g x ok apart high0 k0 ts ds st i c slot ∙ h.1 c refl (within x.a.slots i (of_cell c) slot) in
      subst (λ u. InRegister x.a high k u i1) (sym (ap (λ b. if b then taken (cell s c) else late c) test)) (ap (slice_get x.a.slots) h.0 ∙ slot)

  flag_copied : (t : Taken) (fl : Bool) (ts : List Target) → Flag t fl → Flag (copied t ts s) fl
  flag_copied (taken v) fl ts h = h
  flag_copied (late c) fl ts h = by (is_target c ts)
    where
      by : (b : Bool) → Flag (if b then taken (cell s c) else late c) fl
      by true = tt
      by false = h

  pub all_end : (high0 high : List Datum) (k0 k : ℕ) (ts : List Target) (ds ds1 : List scheme.Target) → k0 ≤ k → Keeps k0 high0 high → AllStand x.a high0 k0 ts ds → AllMoved x.a high k (length x.a.slots) s ts ds ds1 → AllStand x.a high k (with_copies ts s) ds1
  all_end high0 high k0 k [] [] [] l kp st m = tt
  all_end high0 high k0 k [] [] (d1 ∷ ds1) l kp st m = absurd m
  all_end high0 high k0 k [] (d ∷ ds) ds1 l kp st m = absurd st
  all_end high0 high k0 k (t ∷ ts) [] ds1 l kp st m = absurd st
  all_end high0 high k0 k (t ∷ ts) (d ∷ ds) [] l kp st m = absurd m
  all_end high0 high k0 k (to_cell c ∷ ts) (d ∷ ds) (d1 ∷ ds1) l kp st m = (subst (Stands x.a high k (to_cell c)) (sym m.0) (stands_keep x.a high0 high k0 k (to_cell c) d l kp st.0), all_end high0 high k0 k ts ds ds1 l kp st.1 m.1)
  all_end high0 high k0 k (to_global c ∷ ts) (d ∷ ds) (d1 ∷ ds1) l kp st m = (subst (Stands x.a high k (to_global c)) (sym m.0) (stands_keep x.a high0 high k0 k (to_global c) d l kp st.0), all_end high0 high k0 k ts ds ds1 l kp st.1 m.1)
  all_end high0 high k0 k (to_entry on key ∷ ts) (name_target u w ∷ ds) (d1 ∷ ds1) l kp st m = absurd st.0
  all_end high0 high k0 k (to_entry on key ∷ ts) (part_target i j ol kl ∷ ds) (d1 ∷ ds1) l kp st m = (
    subst (Stands x.a high k (to_entry (copied on ts s) (copied key ts s))) (sym m.0.is) (
      moved_table high0 high k0 k on ol i m.0.i1 ts ds l kp st.1 st.0.0 m.0.on_moved,
      moved_end high0 high k0 k key kl j m.0.j1 ts ds l kp st.1 st.0.1 m.0.key_moved,
      flag_copied on ol ts st.0.2,
      flag_copied key kl ts st.0.3,
    ),
    all_end high0 high k0 k ts ds ds1 l kp st.1 m.1,
  )
