-- Turns of the loops that go over a text.
use Rattle.std.proofs.Common.{Bor, ◌≡◌, ◌≢◌, ℕ, zero, suc, ◌+◌, ◌-◌, ◌*◌, ◌<◌, ◌≤◌, true, false, cond, eqb, List, [], ◌∷◌, ◌++◌, length, get_or, take, drop, Option, None, Some, refl, sym, ap, subst, ◌∙◌, append_assoc, arith, add-one, drop-cons}
use Rattle.std.specs.Prelude.{option_map, MatchOption}
use Rattle.std.proofs.lemmas.Bool.{ne_eqb, eq-eqb}
use Rattle.std.proofs.lemmas.List.{append-nil, take-append-drop}
use Rattle.lua_num.specs.Bytes.{Text, is_digit}
use Rattle.asm_text.specs.declared.miss.Unread.{Unread}
use Rattle.asm_text.specs.declared.miss.Unread.TheVariants as unreads
use Rattle.asm_text.specs.declared.quoted.Spot.{Spot}
use Rattle.asm_text.specs.declared.quoted.Step.{Step}
use Rattle.asm_text.specs.Reading.{◌&>=◌, Refuses, with_byte, cut_at, after, if_below, digits_from, spaced_at, spaced_many, step_of, scan_at, line_ends, differing_line}
use Rattle.asm_text.proofs.Cutting.{Lacks, cut_there, after_there, after_back}
use Rattle.asm_text.proofs.LineForms.{lacks_none}

drop_here : (text : Text) (at : ℕ) → at < length text → drop at text ≡ get_or text at 0 ∷ drop (at + 1) text
drop_here text at lt = rw (add-one, drop-cons text at 0)

pub drop_end : (text : Text) (at : ℕ) → length text ≤ at → drop at text ≡ []
drop_end [] zero le = refl
drop_end [] (suc at) le = refl
drop_end (b ∷ text) zero le = absurd (omega arith)
drop_end (b ∷ text) (suc at) le = drop_end text at (omega arith)

-- ---- cutting

lacks_below : (mark n : ℕ) (text : Text) → n ≤ length text → ((k : ℕ) → k < n → get_or text k 0 ≡ mark → ⊥) → Lacks mark (take n text)
lacks_below mark zero text le h = tt
lacks_below mark (suc n) [] le h = absurd (omega arith)
lacks_below mark (suc n) (b ∷ text) le h = (h 0 (omega arith), lacks_below mark n text (omega arith) (λ k lt. h (suc k) (omega arith)))

pub cut_found : (mark at : ℕ) (text : Text) → at < length text → get_or text at 0 ≡ mark → ((k : ℕ) → k < at → get_or text k 0 ≡ mark → ⊥) → cut_at mark text ≡ Some (take at text, drop (at + 1) text)
cut_found mark at text lt is h =
    let here : text ≡ (take at text ++ mark ∷ []) ++ drop (at + 1) text =
    sym (take-append-drop at text) ∙ ap (λ (r : Text). take at text ++ r) (drop_here text at lt ∙ ap (λ b. b ∷ drop (at + 1) text) is) ∙ sym (append_assoc (take at text) (mark ∷ []) (drop (at + 1) text)) in
    cut_there mark (take at text) (drop (at + 1) text) text here (lacks_below mark at text (omega arith) h)

take_whole : (text : Text) → take (length text) text ≡ text
take_whole [] = refl
take_whole (b ∷ text) = ap (λ t. b ∷ t) (take_whole text)

pub cut_nowhere : (mark at : ℕ) (text : Text) → length text ≤ at → ((k : ℕ) → k < at → get_or text k 0 ≡ mark → ⊥) → cut_at mark text ≡ None
cut_nowhere mark at text le h = lacks_none mark text (subst (Lacks mark) (take_whole text) (lacks_below mark (length text) text (omega arith) (λ k lt. h k (omega arith))))

pub after_nothing : (front text : Text) → ((rest : Text) → text ≢ front ++ rest) → after front text ≡ None
after_nothing front text absent = by (after front text) refl where
  by : (r : Option Text) → after front text ≡ r → r ≡ None
  by None e = refl
  by (Some rest) e = absurd (absent rest (after_back front text rest e))

-- ---- digits

pub digits_next : (limit v at : ℕ) (text : Text) (r : Option ℕ) → at < length text → true ≡ is_digit (get_or text at 0) → r ≡ if_below limit (v * 10 + (get_or text at 0 - 48)) → digits_from limit v (drop at text) ≡ (r &>= λ w. digits_from limit w (drop (at + 1) text))
unfolding digits_from
digits_next limit v at text r lt digit e = rw (drop_here text at lt, ← digit, ← e) refl

pub digits_stop : (limit v at : ℕ) (text : Text) → at < length text → false ≡ is_digit (get_or text at 0) → digits_from limit v (drop at text) ≡ Some (v, drop at text)
unfolding digits_from
digits_stop limit v at text lt digit = rw (drop_here text at lt, ← digit) refl

pub digits_end : (limit v at : ℕ) (text : Text) → length text ≤ at → digits_from limit v (drop at text) ≡ Some (v, [])
unfolding digits_from
digits_end limit v at text le = rw (drop_end text at le) refl

-- ---- texts between quotes

-- what was read before, and what is still read
abbrev pub with_text : Text → Option (Text × Text) → Option (Text × Text)
with_text out r = option_map (λ (x : Text × Text). (out ++ x.0, x.1)) r

abbrev pub followed : Step → Text → Option (Text × Text)
followed s rest = elim s [ Step.Close ↦ Some ([], rest) | Step.Byte value ↦ with_byte value (scan_at Spot.Plain rest) | Step.Go next ↦ scan_at next rest | Step.Wrong ↦ None ]

pub scan_next : (spot : Spot) (at : ℕ) (text : Text) (s : Step) → at < length text → s ≡ step_of spot (get_or text at 0) → scan_at spot (drop at text) ≡ followed s (drop (at + 1) text)
unfolding scan_at
scan_next spot at text s lt e = ap (scan_at spot) (drop_here text at lt) ∙ ap (λ (s : Step). followed s (drop (at + 1) text)) (sym e)

pub scan_end : (spot : Spot) (at : ℕ) (text : Text) → length text ≤ at → scan_at spot (drop at text) ≡ None
unfolding scan_at
scan_end spot at text le = rw (drop_end text at le) refl

pub byte_joined : (out : Text) (v : ℕ) (r : Option (Text × Text)) → with_text out (with_byte v r) ≡ with_text (out ++ v ∷ []) r
byte_joined out v None = refl
byte_joined out v (Some x) = ap (λ (t : Text). Some (t, x.1)) (sym (append_assoc out (v ∷ []) x.0))

-- ---- numbers behind spaces

abbrev pub with_numbers : List ℕ → Option (List ℕ × Text) → Option (List ℕ × Text)
with_numbers front r = option_map (λ (x : List ℕ × Text). (front ++ x.0, x.1)) r

number_joined : (front : List ℕ) (n : ℕ) (r : Option (List ℕ × Text)) → with_numbers front (r &>= λ x. Some (n ∷ x.0, x.1)) ≡ with_numbers (front ++ n ∷ []) r
number_joined front n None = refl
number_joined front n (Some x) = ap (λ (t : List ℕ). Some (t, x.1)) (sym (append_assoc front (n ∷ []) x.0))

pub many_next : (limit count i n : ℕ) (front : List ℕ) (text rest : Text) (total : Option (List ℕ × Text)) → i < count → spaced_at limit text ≡ Some (n, rest) → with_numbers front (spaced_many limit (count - i) text) ≡ total → with_numbers (front ++ n ∷ []) (spaced_many limit (count - (i + 1)) rest) ≡ total
unfolding spaced_many
many_next limit count i n front text rest total lt h so_far =
    let k : count - i ≡ suc (count - (i + 1)) = omega arith in
    let step : with_numbers front (spaced_many limit (count - i) text) ≡ with_numbers (front ++ n ∷ []) (spaced_many limit (count - (i + 1)) rest) = rw (k, h) (number_joined front n (spaced_many limit (count - (i + 1)) rest)) in
    sym step ∙ so_far

pub many_stops : (e : Unread) (limit count i : ℕ) (front : List ℕ) (text : Text) (total : Option (List ℕ × Text)) → i < count → Refuses e (spaced_at limit text) → with_numbers front (spaced_many limit (count - i) text) ≡ total → Refuses e total
unfolding spaced_many
many_stops unreads.Memory limit count i front text total lt h so_far = tt
many_stops unreads.BadForm limit count i front text total lt h so_far =
    let k : count - i ≡ suc (count - (i + 1)) = omega arith in
    let step : with_numbers front (spaced_many limit (count - i) text) ≡ None = rw (k, h) refl in
    sym so_far ∙ step

pub many_done : (limit count i : ℕ) (front : List ℕ) (text : Text) (total : Option (List ℕ × Text)) → count ≤ i → with_numbers front (spaced_many limit (count - i) text) ≡ total → total ≡ Some (front, text)
unfolding spaced_many
many_done limit count i front text total le so_far =
    let k : count - i ≡ 0 = omega arith in
    let step : with_numbers front (spaced_many limit (count - i) text) ≡ Some (front, text) = rw k (ap (λ (t : List ℕ). Some (t, text)) (append-nil front)) in
    sym so_far ∙ step

-- ---- lines

pub ends_next : (at : ℕ) (text : Text) → at < length text → line_ends (drop at text) ≡ cond (eqb (get_or text at 0) 10) (suc (line_ends (drop (at + 1) text))) (line_ends (drop (at + 1) text))
unfolding line_ends
ends_next at text lt = ap line_ends (drop_here text at lt)

pub ends_end : (at : ℕ) (text : Text) → length text ≤ at → line_ends (drop at text) ≡ 0
unfolding line_ends
ends_end at text le = rw (drop_end text at le) refl

pub same_next : (at : ℕ) (text other : Text) → at < length text → at < length other → get_or other at 0 ≡ get_or text at 0 → differing_line (drop at text) (drop at other) ≡ cond (eqb (get_or text at 0) 10) (suc (differing_line (drop (at + 1) text) (drop (at + 1) other))) (differing_line (drop (at + 1) text) (drop (at + 1) other))
unfolding differing_line
same_next at text other lt lo e = rw (drop_here text at lt, drop_here other at lo, e, eq-eqb (get_or text at 0) (get_or text at 0) refl) refl

pub other_next : (at : ℕ) (text other : Text) → at < length text → at < length other → get_or other at 0 ≢ get_or text at 0 → differing_line (drop at text) (drop at other) ≡ 1
unfolding differing_line
other_next at text other lt lo ne = rw (drop_here text at lt, drop_here other at lo, ne_eqb (get_or text at 0) (get_or other at 0) (λ e. ne (sym e))) refl

pub other_end : (at : ℕ) (text other : Text) → at < length text → length other ≤ at → differing_line (drop at text) (drop at other) ≡ 1
unfolding differing_line
other_end at text other lt le = rw (drop_here text at lt, drop_end other at le) refl

pub text_end : (at : ℕ) (text other : Text) → length text ≤ at → differing_line (drop at text) (drop at other) ≡ 1
unfolding differing_line
text_end at text other le = rw (drop_end text at le) refl

-- ---- what std's prefixes say

pub after_by : (front text : Text) (r : Option (Bor Text)) → MatchOption r ((rest : Text) → text ≢ front ++ rest) (λ x. text ≡ front ++ x.now) → MatchOption r (after front text ≡ None) (λ x. after front text ≡ Some x.now)
after_by front text None h = after_nothing front text h
after_by front text (Some x) h = ap (after front) h ∙ after_there front x.now

-- ---- turns by what the byte is

pub digits_refused : (e : Unread) (limit v at : ℕ) (text : Text) (total : Option (ℕ × Text)) → at < length text → true ≡ is_digit (get_or text at 0) → Refuses e (if_below limit (v * 10 + (get_or text at 0 - 48))) → digits_from limit v (drop at text) ≡ total → Refuses e total
digits_refused unreads.Memory limit v at text total lt digit h so_far = tt
digits_refused unreads.BadForm limit v at text total lt digit h so_far = sym so_far ∙ digits_next limit v at text None lt digit (sym h)

pub ends_yes : (at : ℕ) (text : Text) → at < length text → get_or text at 0 ≡ 10 → line_ends (drop at text) ≡ suc (line_ends (drop (at + 1) text))
ends_yes at text lt e = ends_next at text lt ∙ ap (λ d. cond d (suc (line_ends (drop (at + 1) text))) (line_ends (drop (at + 1) text))) (eq-eqb (get_or text at 0) 10 e)

pub ends_no : (at : ℕ) (text : Text) → at < length text → get_or text at 0 ≢ 10 → line_ends (drop at text) ≡ line_ends (drop (at + 1) text)
ends_no at text lt e = ends_next at text lt ∙ ap (λ d. cond d (suc (line_ends (drop (at + 1) text))) (line_ends (drop (at + 1) text))) (ne_eqb (get_or text at 0) 10 e)

pub same_yes : (at : ℕ) (text other : Text) → at < length text → at < length other → get_or other at 0 ≡ get_or text at 0 → get_or text at 0 ≡ 10 → differing_line (drop at text) (drop at other) ≡ suc (differing_line (drop (at + 1) text) (drop (at + 1) other))
same_yes at text other lt lo e f = same_next at text other lt lo e ∙ ap (λ d. cond d (suc (differing_line (drop (at + 1) text) (drop (at + 1) other))) (differing_line (drop (at + 1) text) (drop (at + 1) other))) (eq-eqb (get_or text at 0) 10 f)

pub same_no : (at : ℕ) (text other : Text) → at < length text → at < length other → get_or other at 0 ≡ get_or text at 0 → get_or text at 0 ≢ 10 → differing_line (drop at text) (drop at other) ≡ differing_line (drop (at + 1) text) (drop (at + 1) other)
same_no at text other lt lo e f = same_next at text other lt lo e ∙ ap (λ d. cond d (suc (differing_line (drop (at + 1) text) (drop (at + 1) other))) (differing_line (drop (at + 1) text) (drop (at + 1) other))) (ne_eqb (get_or text at 0) 10 f)

module _ (spot : Spot) (at : ℕ) (text out : Text) (total : Option (Text × Text)) (lt : at < length text) (so_far : with_text out (scan_at spot (drop at text)) ≡ total) where
  pub scan_closes : Step.Close ≡ step_of spot (get_or text at 0) → total ≡ Some (out, drop (at + 1) text)
  scan_closes e = sym so_far ∙ ap (with_text out) (scan_next spot at text Step.Close lt e) ∙ ap (λ (t : Text). Some (t, drop (at + 1) text)) (append-nil out)

  pub scan_fails : Step.Wrong ≡ step_of spot (get_or text at 0) → total ≡ None
  scan_fails e = sym so_far ∙ ap (with_text out) (scan_next spot at text Step.Wrong lt e)

  pub scan_gives : (v : ℕ) → Step.Byte v ≡ step_of spot (get_or text at 0) → with_text (out ++ v ∷ []) (scan_at Spot.Plain (drop (at + 1) text)) ≡ total
  scan_gives v e = sym (byte_joined out v (scan_at Spot.Plain (drop (at + 1) text))) ∙ sym (ap (with_text out) (scan_next spot at text (Step.Byte v) lt e)) ∙ so_far

  pub scan_goes : (next : Spot) → Step.Go next ≡ step_of spot (get_or text at 0) → with_text out (scan_at next (drop (at + 1) text)) ≡ total
  scan_goes next e = sym (ap (with_text out) (scan_next spot at text (Step.Go next) lt e)) ∙ so_far

pub scan_done : (spot : Spot) (at : ℕ) (text out : Text) (total : Option (Text × Text)) → length text ≤ at → with_text out (scan_at spot (drop at text)) ≡ total → total ≡ None
scan_done spot at text out total le so_far = sym so_far ∙ ap (with_text out) (scan_end spot at text le)
