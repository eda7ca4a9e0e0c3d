-- Notes that are listed, and tests that tell whether they are consistent and break nothing.
use Rattle.std.proofs.Common.{◌≡◌, inl, inr, ℕ, zero, suc, ◌<◌, ◌≤◌, Bool, true, false, cond, ◌&&◌, ◌||◌, not, List, [], ◌∷◌, length, None, Some, refl, sym, ap, subst, ◌∙◌, true≢false, arith, not-suc-le-zero, nat_lt, nat_le, eqb-true, ne_eqb, leb-true, leb-false, ltb-true}
use Rattle.std.specs.Prelude.{Option, slice_get, option_map, ◌==◌}
use Rattle.std.proofs.lemmas.Option.{slice_get_past}
use Rattle.opcode.specs.declared.op.Op.{Op}
use Rattle.opcode.specs.declared.word.Instr.{Instr}
use Rattle.proto.specs.Chunk.{Chunk, own}
use Rattle.rules.specs.declared.rule.Rule.{Rule}
use Rattle.rules.specs.Words.{instr_at}
use Rattle.std.specs.List.{list_any}
use Rattle.rules.specs.Places.{words_of, is_place, is_further, is_edge}
use Rattle.rules.specs.Notes.{Note, Notes, Consistent, FollowsIn, IsStart, after, captures, closes}
use Rattle.rules.specs.Places.{named_further}
use Rattle.rules.specs.Breaks.{breaks, breaks_shape, place_breaks, is_shape}
use Rattle.rules.specs.Sound.{Noted}
use Rattle.rules.proofs.Lists.{none_some, some_one, and_first, and_second, and_not, or_cases, or_first_false, or_second_false, not_false, some_head, some_tail, member}
use Rattle.rules.proofs.Checks.{at_or_below, some_place, no_place}

-- for each pc, where it is noted, the registers that may be captured, and the loops
abbrev pub Listed : Type 0
Listed = List (Option (List ℕ × List ℕ))

abbrev pub all_of : (ℕ → Bool) → List ℕ → Bool
all_of t xs = not (list_any (λ x. not (t x)) xs)

abbrev pub note_of : List ℕ × List ℕ → Note
note_of p = record { captured = member p.0; loops = member p.1 }

abbrev pub flat : Option (Option (List ℕ × List ℕ)) → Option (List ℕ × List ℕ)
flat None = None
flat (Some o) = o

abbrev pub listed_at : Listed → ℕ → Option (List ℕ × List ℕ)
listed_at ls pc = flat (slice_get ls pc)

abbrev pub notes_of : Listed → Notes
notes_of ls pc = option_map note_of (listed_at ls pc)

none : (b : Bool) → not b ≡ true → b ≡ false
none true h = absurd (true≢false (sym h))
none false h = refl

-- what holds of each element holds of a member
member_each : (t : ℕ → Bool) (xs : List ℕ) → list_any (λ x. not (t x)) xs ≡ false → (r : ℕ) → member xs r ≡ true → t r ≡ true
member_each t [] e r is = absurd (true≢false (sym is))
member_each t (x ∷ rest) e r is = go (x == r) refl (member_each t rest (some_tail (λ y. not (t y)) x rest e) r) is
  where
    go : (b : Bool) → (x == r) ≡ b → (member rest r ≡ true → t r ≡ true) → (b || member rest r) ≡ true → t r ≡ true
    go true same next h = subst (λ y. t y ≡ true) (eqb-true x r same) (not_false (t x) (some_head (λ y. not (t y)) x rest e))
    go false differ next h = next h

member_all : (t : ℕ → Bool) (xs : List ℕ) → all_of t xs ≡ true → (r : ℕ) → member xs r ≡ true → t r ≡ true
member_all t xs e r is = member_each t xs (none (list_any (λ x. not (t x)) xs) e) r is

-- whether what is listed at the end of an edge follows what is listed at its start
abbrev pub follows_listed : Chunk → ℕ → Instr → List ℕ × List ℕ → Option (List ℕ × List ℕ) → Bool
follows_listed f pc i p None = false
follows_listed f pc i p (Some q) =
    all_of (λ r. closes i.op i r || member q.0 r) p.0 && all_of (member q.0) (named_further Op.Move i.op (words_of f pc i)) && all_of (after f pc i (note_of p)).loops q.1

follows_is : (f : Chunk) (pc : ℕ) (i : Instr) (p : List ℕ × List ℕ) (o : Option (List ℕ × List ℕ)) → follows_listed f pc i p o ≡ true → FollowsIn (after f pc i (note_of p)) (option_map note_of o)
follows_is f pc i p None e = absurd (true≢false (sym e))
follows_is f pc i p (Some q) e = record {
  captured = λ r is. elim (or_cases (member p.0 r && not (closes i.op i r)) (captures f pc i r) is) [
    | inl old ↦ stays r (member_all (λ s. closes i.op i s || member q.0 s) p.0 (and_first _ _ (and_first _ _ e)) r (and_first _ _ old)) (and_second _ _ old)
    | inr new ↦ member_all (member q.0) (named_further Op.Move i.op (words_of f pc i)) (and_second _ _ (and_first _ _ e)) r new
  ];
  loops = λ a is. member_all (after f pc i (note_of p)).loops q.1 (and_second _ _ e) a is;
}
  where
    stays : (r : ℕ) → (closes i.op i r || member q.0 r) ≡ true → not (closes i.op i r) ≡ true → member q.0 r ≡ true
    stays r h free = go (closes i.op i r) h free
      where
        go : (b : Bool) → (b || member q.0 r) ≡ true → not b ≡ true → member q.0 r ≡ true
        go true k l = absurd (true≢false (sym l))
        go false k l = k

abbrev pub some_below : (ℕ → Bool) → ℕ → Bool
some_below t zero = false
some_below t (suc n) = t n || some_below t n

none_below : (t : ℕ → Bool) (n : ℕ) → some_below t n ≡ false → (k : ℕ) → k < n → t k ≡ false
none_below t zero e k h = absurd (not-suc-le-zero h)
none_below t (suc n) e k h =
    elim (at_or_below n k h) [
      | inl same ↦ subst (λ j. t j ≡ false) same (or_first_false _ _ e)
      | inr low ↦ none_below t n (or_second_false _ _ e) k low
    ]

abbrev pub bad_edge : Chunk → Listed → ℕ → Instr → List ℕ × List ℕ → ℕ → Bool
bad_edge f ls pc i p t = is_edge f pc i t && not (follows_listed f pc i p (listed_at ls t))

abbrev pub bad_from : Chunk → Listed → ℕ → Option Instr → Option (List ℕ × List ℕ) → Bool
bad_from f ls pc (Some i) (Some p) = some_below (bad_edge f ls pc i p) (length (own f).code)
bad_from f ls pc _ _ = false

abbrev pub bad_start : Option (List ℕ × List ℕ) → Bool
bad_start (Some (cap, [])) = false
bad_start _ = true

-- whether the listed notes are not consistent
abbrev pub inconsistent : Chunk → Listed → Bool
inconsistent f ls = bad_start (listed_at ls 0) || some_below (λ pc. bad_from f ls pc (instr_at f pc) (listed_at ls pc)) (length ls)

start_is : (o : Option (List ℕ × List ℕ)) → bad_start o ≡ false → IsStart (option_map note_of o)
start_is None e = absurd (true≢false e)
start_is (Some (cap, [])) e = λ a. refl
start_is (Some (cap, x ∷ rest)) e = absurd (true≢false e)

listed_within : (ls : Listed) (pc : ℕ) (p : List ℕ × List ℕ) → listed_at ls pc ≡ Some p → pc < length ls
listed_within ls pc p e = go (nat_le (length ls) pc) refl
  where
    go : (b : Bool) → nat_le (length ls) pc ≡ b → pc < length ls
    go true is = none_some p (sym (ap flat (slice_get_past ls pc (leb-true (length ls) pc is))) ∙ e)
    go false is = leb-false (length ls) pc is

pub listed_consistent : (f : Chunk) (ls : Listed) → inconsistent f ls ≡ false → Consistent f (notes_of ls)
listed_consistent f ls ok = record {
  start = start_is (listed_at ls 0) (or_first_false _ _ ok);
  edges = λ pc t i n at note edge. go pc t i n at edge (listed_at ls pc) refl note;
}
  where
    go : (pc t : ℕ) (i : Instr) (n : Note) → instr_at f pc ≡ Some i → is_edge f pc i t ≡ true → (o : Option (List ℕ × List ℕ)) → listed_at ls pc ≡ o → option_map note_of o ≡ Some n → FollowsIn (after f pc i n) (notes_of ls t)
    go pc t i n at edge None e note = none_some n note
    go pc t i n at edge (Some p) e note =
        let bad : bad_from f ls pc (instr_at f pc) (listed_at ls pc) ≡ false = none_below (λ k. bad_from f ls k (instr_at f k) (listed_at ls k)) (length ls) (or_second_false (bad_start (listed_at ls 0)) (some_below (λ k. bad_from f ls k (instr_at f k) (listed_at ls k)) (length ls)) ok) pc (listed_within ls pc p e) in
        let here : bad_from f ls pc (Some i) (Some p) ≡ false = subst (λ x. bad_from f ls pc (Some i) x ≡ false) e (subst (λ x. bad_from f ls pc x (listed_at ls pc) ≡ false) at bad) in
        let low : t < length (own f).code = ltb-true t (length (own f).code) (and_first (nat_lt t (length (own f).code)) (not (is_further f t)) (and_first (is_place f (Some t)) _ edge)) in
        let fits : follows_listed f pc i p (listed_at ls t) ≡ true = not_false (follows_listed f pc i p (listed_at ls t)) (and_not (is_edge f pc i t) (not (follows_listed f pc i p (listed_at ls t))) (none_below (bad_edge f ls pc i p) (length (own f).code) here t low) edge) in
        subst (λ x. FollowsIn (after f pc i x) (notes_of ls t)) (some_one (note_of p) n note) (follows_is f pc i p (listed_at ls t) fits)

nothing_past : (f : Chunk) (main : Bool) (notes : Notes) (pc : ℕ) (rule : Rule) → length (own f).code < pc → breaks f main notes pc rule ≡ false
nothing_past f main notes pc rule past = go (is_shape rule)
  where
    and_false : (b : Bool) → (b && false) ≡ false
    and_false true = refl
    and_false false = refl

    go : (b : Bool) → cond b (pc == 0 && breaks_shape f main) (not (is_further f pc) && place_breaks f (notes pc) pc (slice_get (own f).code pc) rule) ≡ false
    go true = ap (λ b. b && breaks_shape f main) (ne_eqb pc 0 (λ e. omega arith))
    go false =
        ap (λ o. not (is_further f pc) && place_breaks f (notes pc) pc o rule) (slice_get_past (own f).code pc (omega arith)) ∙ and_false (not (is_further f pc))

-- what is found of a function with listed notes
abbrev pub breaks_some : Chunk → Bool → Listed → Bool
breaks_some f main ls = some_place (breaks f main (notes_of ls)) (suc (length (own f).code))

pub listed_noted : (f : Chunk) (main : Bool) (ls : Listed) → inconsistent f ls ≡ false → breaks_some f main ls ≡ false → Noted f main (notes_of ls)
listed_noted f main ls ok none_broken = record {
  consistent = listed_consistent f ls ok;
  keeps = λ pc rule. go pc rule (nat_le pc (length (own f).code)) refl;
}
  where
    go : (pc : ℕ) (rule : Rule) (b : Bool) → nat_le pc (length (own f).code) ≡ b → breaks f main (notes_of ls) pc rule ≡ false
    go pc rule true is = let low : pc ≤ length (own f).code = leb-true pc (length (own f).code) is in no_place (breaks f main (notes_of ls)) (suc (length (own f).code)) none_broken pc rule (omega arith)
    go pc rule false is = nothing_past f main (notes_of ls) pc rule (leb-false pc (length (own f).code) is)
