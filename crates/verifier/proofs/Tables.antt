-- Tables of notes, with one note joined in.
use Rattle.std.proofs.Common.{◌∙◌, ◌≡◌, inl, inr, ℕ, zero, suc, ◌<◌, List, [], ◌∷◌, ◌++◌, length, None, Some, refl, sym, ap, subst, arith, true≢false, not-suc-le-zero, le_of_suc-le-suc}
use Rattle.std.specs.Prelude.{Option, get_or, slice_set}
use Rattle.std.specs.List.{Contains}
use Rattle.std.proofs.lemmas.Map.Lookups.{exact_unsigned}
use Rattle.std.specs.BTreeSet.{insert_key}
use Rattle.std.specs.Ordering.{nat_cmp, match_ordering}
use Rattle.std.specs.declared.cmp.Ordering.{Ordering}
use Rattle.std.specs.declared.cmp.Ordering.TheVariants.{Less, Equal, Greater}
use Rattle.proto.specs.Chunk.{Chunk}
use Rattle.rules.specs.Notes.{Note as Meant, Notes, Consistent, IsStart}
use Rattle.rules.specs.Common.{AsksLessAt}
use Rattle.rules.proofs.Lists.{none_some}
use Rattle.rules.proofs.LeastNotes.{start_asks_less, empty_note}
use Rattle.verifier.specs.declared.note.Note.{Note}
use Rattle.verifier.specs.Registers.{Adds, Followed, IsEmpty, meant, meant_in, notes_of, room_in, rooms}
use Rattle.verifier.specs.Least.{Flowing, Joins, JoinsIn, Moves}

get_set_same : (table : List (Option Note)) (t : ℕ) (k : Note) → t < length table → get_or (slice_set table t (Some k)) t None ≡ Some k
get_set_same [] t k low = absurd (not-suc-le-zero low)
get_set_same (x ∷ rest) zero k low = refl
get_set_same (x ∷ rest) (suc t) k low = get_set_same rest t k (le_of_suc-le-suc low)

get_set_other : (table : List (Option Note)) (t p : ℕ) (k : Note) → (p ≡ t → ⊥) → get_or (slice_set table t (Some k)) p None ≡ get_or table p None
get_set_other [] t p k differ = refl
get_set_other (x ∷ rest) zero zero k differ = absurd (differ refl)
get_set_other (x ∷ rest) zero (suc p) k differ = refl
get_set_other (x ∷ rest) (suc t) zero k differ = refl
get_set_other (x ∷ rest) (suc t) (suc p) k differ = get_set_other rest t p k (λ e. differ (ap suc e))

-- a place that is set
set_moves : (table : List (Option Note)) (t : ℕ) (k : Note) (m : Meant) → t < length table → Joins (meant_in (get_or table t None)) m (meant k) → Moves (notes_of table) (notes_of (slice_set table t (Some k))) t m
set_moves table t k m low joins = record {
  here = subst (λ x. JoinsIn (meant_in (get_or table t None)) m (meant_in x)) (sym (get_set_same table t k low)) joins;
  others = λ p differ. ap meant_in (get_set_other table t p k differ);
}

-- a place that asks it already
same_moves : (table : List (Option Note)) (t : ℕ) (m : Meant) → JoinsIn (meant_in (get_or table t None)) m (meant_in (get_or table t None)) → Moves (notes_of table) (notes_of table) t m
same_moves table t m joins = record {
  here = joins;
  others = λ p differ. refl;
}

rooms_set : (table : List (Option Note)) (t : ℕ) (k : Note) → t < length table → room_in (Some k) < room_in (get_or table t None) → rooms (slice_set table t (Some k)) < rooms table
rooms_set [] t k low less = absurd (not-suc-le-zero low)
rooms_set (o ∷ rest) zero k low less = omega (arith, less)
rooms_set (o ∷ rest) (suc t) k low less = omega (arith, rooms_set rest t k (le_of_suc-le-suc low) less)

more_contain : (x : ℕ) (xs : List ℕ) (p : ℕ) → Contains xs p → Contains (x ∷ xs) p
more_contain x xs p there = (suc there.0, omega (arith, there.1), there.2)

equal_is : (x t : ℕ) → nat_cmp t x ≡ Equal → x ≡ t
equal_is x t e = sym (exact_unsigned t x e)

adds_behind : (x : ℕ) (rest : List ℕ) (t : ℕ) → Adds rest (insert_key nat_cmp rest t) t → (o : Ordering) → nat_cmp t x ≡ o → Adds (x ∷ rest) (match_ordering o (t ∷ x ∷ rest) (x ∷ rest) (x ∷ insert_key nat_cmp rest t)) t
adds_behind x rest t later Less e = record {
  there = (0, omega arith, refl);
  kept = λ p there. more_contain t (x ∷ rest) p there;
  fewer = omega arith;
}
adds_behind x rest t later Equal e = record {
  there = (0, omega arith, equal_is x t e);
  kept = λ p there. there;
  fewer = omega arith;
}
adds_behind x rest t later Greater e = record {
  there = more_contain x (insert_key nat_cmp rest t) t later.there;
  kept = both;
  fewer = omega (arith, later.fewer);
}
  where
    both : (p : ℕ) → Contains (x ∷ rest) p → Contains (x ∷ insert_key nat_cmp rest t) p
    both p (zero, low, is) = (0, omega arith, is)
    both p (suc k, low, is) = more_contain x (insert_key nat_cmp rest t) p (later.kept p (k, omega (arith, low), is))

-- a place among those that wait, in order
adds_key : (work : List ℕ) (t : ℕ) → Adds work (insert_key nat_cmp work t) t
adds_key [] t = record {
  there = (0, omega arith, refl);
  kept = λ p there. absurd (not-suc-le-zero there.1);
  fewer = omega arith;
}
adds_key (x ∷ rest) t = adds_behind x rest t (adds_key rest t) (nat_cmp t x) refl

-- a way whose note asks more than the one before
pub set_follows : (table : List (Option Note)) (work more : List ℕ) (way : Option ℕ) (t : ℕ) (k m : Note) → way ≡ Some t → more ≡ insert_key nat_cmp work t → t < length table → Joins (meant_in (get_or table t None)) (meant m) (meant k) → room_in (Some k) < room_in (get_or table t None) → Followed table (slice_set table t (Some k)) work more way m
set_follows table work more way t k m is longer low joins less = subst (λ w. Followed table (slice_set table t (Some k)) work more w m) (sym is) (set_moves table t k (meant m) low joins, inr (rooms_set table t k low less, subst (λ w. Adds work w t) (sym longer) (adds_key work t)))

-- a way whose note asks no more
pub same_follows : (table : List (Option Note)) (work : List ℕ) (way : Option ℕ) (t : ℕ) (m : Note) → way ≡ Some t → JoinsIn (meant_in (get_or table t None)) (meant m) (meant_in (get_or table t None)) → Followed table table work work way m
same_follows table work way t m is joins = subst (λ w. Followed table table work work w m) (sym is) (same_moves table t (meant m) joins, inl (refl, refl))

-- a place with no note behind a table
pub get_pushed : (table : List (Option Note)) (p : ℕ) → get_or (table ++ None ∷ []) p None ≡ get_or table p None
get_pushed [] zero = refl
get_pushed [] (suc p) = refl
get_pushed (x ∷ rest) zero = refl
get_pushed (x ∷ rest) (suc p) = get_pushed rest p

-- a table that notes pc 0 alone, which is all the work there is
pub begun : (f : Chunk) (table : List (Option Note)) (n : Note) → IsEmpty n → ((p : ℕ) → get_or table p None ≡ get_or (Some n ∷ []) p None) → Flowing f (notes_of table) (0 ∷ [])
begun f table n empty is = record {
  start = subst (λ o. IsStart o) (sym here) empty.loops;
  least = λ others c p. go others c p;
  kept = λ pc outside t i m at note edge. unnoted pc outside note;
}
  where
    here : notes_of table 0 ≡ Some (meant n)
    here = ap meant_in (is 0)

    later : (p : ℕ) → notes_of table (suc p) ≡ None
    later p = ap meant_in (is (suc p))

    unnoted : (pc : ℕ) {A : Type 0} {m : Meant} → (Contains (0 ∷ []) pc → ⊥) → notes_of table pc ≡ Some m → A
    unnoted zero outside note = absurd (outside (0, omega arith, refl))
    unnoted (suc p) outside note = none_some _ (sym (later p) ∙ note)

    less_at : (o : Option Meant) → AsksLessAt (Some empty_note) o → AsksLessAt (Some (meant n)) o
    less_at None more = more
    less_at (Some m) more = record { captured = λ r e. absurd (true≢false (sym e ∙ empty.captured r)); loops = λ a e. absurd (true≢false (sym (more.loops a e))) }

    go : (others : Notes) → Consistent f others → (p : ℕ) → AsksLessAt (notes_of table p) (others p)
    go others c zero = subst (λ o. AsksLessAt o (others 0)) (sym here) (less_at (others 0) (start_asks_less f others c))
    go others c (suc p) = subst (λ o. AsksLessAt o (others (suc p))) (sym (later p)) tt
