-- Openings, closings and comments at the front of a text.
use Rattle.std.proofs.Common.{◌≡◌, ◌==◌, ◌&&◌, ◌||◌, not, ℕ, zero, suc, ◌+◌, ◌-◌, ◌<◌, Bool, true, false, List, [], ◌∷◌, ◌++◌, length, take, drop, replicate, refl, sym, ap, subst, ◌∙◌, inl, inr, append_assoc, length-append, arith}
use Rattle.std.specs.Prelude.{codes}
use Rattle.std.specs.Cmp.Lexicographic.{pointwise}
use Rattle.std.specs.List.{starts_with}
use Rattle.std.proofs.Math.Dec.{eqb-zero-suc, eqb-suc-zero, eqb-suc-suc}
use Rattle.std.proofs.Math.Seq.{drop-append_seam}
use Rattle.std.proofs.lemmas.List.{length-replicate, length-take-le, take-append-drop, take_rest}
use Rattle.std.proofs.lemmas.Bool.Decides.{nat_tests}
use Rattle.lua_num.specs.Bytes.{Each, BeginsWithout}
use Rattle.lua_tree.specs.Bytes.{ends_line, has_front, holds}
use Rattle.lua_tree.specs.Brackets.{opening, closing, almost_closing, ends_opening, opens_long}
use Rattle.lexer.specs.Fronts.{RunFront, LongFront, CommentFront}
use Rattle.lexer.specs.Openings.{is_equals, FirstClosing}
use Rattle.lexer.proofs.FrontLemmas.{and_false, front_parts}

both_false : (a b : Bool) → a ≡ false → b ≡ false → (a || b) ≡ false
both_false a b none others = rw (none, others)

no_front_both : (same a b : Bool) → (same && a) ≡ false → (a ≡ false → b ≡ false) → (same && b) ≡ false
no_front_both true a b h next = next h
no_front_both false a b h next = refl

-- `has_front` in std's words
pub front_pointwise : (word text : List ℕ) → has_front word text ≡ pointwise ◌==◌ word (take (length word) text)
front_pointwise [] text = refl
front_pointwise (byte ∷ word) [] = refl
front_pointwise (byte ∷ word) (other ∷ text) = ap (λ t. (byte == other) && t) (front_pointwise word text)

-- `starts_with` of one byte, behind n bytes
pub byte_stands : (byte n : ℕ) (text : List ℕ) → starts_with ◌==◌ (take (length text - n) (drop n text)) (byte ∷ []) ≡ has_front (byte ∷ []) (drop n text)
byte_stands byte n text = ap (λ t. starts_with ◌==◌ t (byte ∷ [])) (take_rest text n) ∙ sym (front_pointwise (byte ∷ []) (drop n text))

-- a part begins with no word that the whole does not begin with
no_front_longer : (word text after : List ℕ) → has_front word (text ++ after) ≡ false → has_front word text ≡ false
no_front_longer [] text after h = h
no_front_longer (byte ∷ word) [] after h = refl
no_front_longer (byte ∷ word) (other ∷ text) after h = no_front_both (byte == other) (has_front word (text ++ after)) (has_front word text) h (no_front_longer word text after)

-- a text does not hold a word that is longer
no_front_short : (word text : List ℕ) → length text < length word → has_front word text ≡ false
no_front_short [] text short = absurd (omega (arith, short))
no_front_short (byte ∷ word) [] short = refl
no_front_short (byte ∷ word) (other ∷ text) short = let rest : has_front word text ≡ false = no_front_short word text (omega (arith, short)) in rw rest (and_false (byte == other))

no_word_short : (word text : List ℕ) → length text < length word → holds word text ≡ false
no_word_short word [] short = no_front_short word [] short
no_word_short word (byte ∷ text) short = both_false _ _ (no_front_short word (byte ∷ text) short) (no_word_short word text (omega (arith, short)))

-- a text does not hold a word that stands at no place
pub holds_nowhere : (byte : ℕ) (word text : List ℕ) → ((k : ℕ) → k < length text → has_front (byte ∷ word) (drop k text) ≡ false) → holds (byte ∷ word) text ≡ false
holds_nowhere byte word [] none = refl
holds_nowhere byte word (other ∷ text) none =
    both_false _ _ (none 0 (omega arith)) (holds_nowhere byte word text (λ k below. none (suc k) (omega (arith, below))))

-- where a word stands at no earlier place, it ends at no earlier one
pub no_word_before : (almost inside after : List ℕ) (last : ℕ) → ((k : ℕ) → k < length inside → has_front (almost ++ (last ∷ [])) (drop k (inside ++ (almost ++ (last ∷ after)))) ≡ false) → holds (almost ++ (last ∷ [])) (inside ++ almost) ≡ false
no_word_before almost [] after last none = no_word_short (almost ++ (last ∷ [])) almost (omega (arith, length-append almost (last ∷ [])))
no_word_before almost (byte ∷ inside) after last none =
    let whole : has_front (almost ++ (last ∷ [])) ((byte ∷ (inside ++ almost)) ++ (last ∷ after)) ≡ false = rw (append_assoc inside almost (last ∷ after)) (none 0 (omega arith)) in
    both_false _ _ (no_front_longer (almost ++ (last ∷ [])) (byte ∷ (inside ++ almost)) (last ∷ after) whole) (no_word_before almost inside after last (λ k below. none (suc k) (omega (arith, below))))

-- a run of `=` is so many
equals_are : (run : List ℕ) → Each is_equals run → run ≡ replicate (length run) 61
equals_are [] each = refl
equals_are (byte ∷ run) each =
    let same : byte ≡ 61 = grind (arith, nat_tests) in
    ap (λ b. b ∷ run) same ∙ ap (λ t. 61 ∷ t) (equals_are run each.1)

-- so many `=`, and what follows begins with none
pub record BehindEquals (n : ℕ) (text : List ℕ) : Type 0 where
  pub whole : text ≡ replicate n 61 ++ drop n text
  pub ends : BeginsWithout is_equals (drop n text)

pub behind_equals : (n : ℕ) (text : List ℕ) → RunFront is_equals n text → BehindEquals n text
behind_equals n text run =
    let size : length run.front ≡ n = run.is_front.length_is in
    let behind : drop n text ≡ run.after = ap (drop n) run.is_front.whole ∙ (ap (λ k. drop k (run.front ++ run.after)) (sym size) ∙ drop-append_seam run.front run.after) in
    let front : run.front ≡ replicate n 61 = equals_are run.front run.run.each ∙ ap (λ k. replicate k 61) size in
    record {
      whole = run.is_front.whole ∙ (ap (λ f. f ++ run.after) front ∙ ap (λ t. replicate n 61 ++ t) (sym behind));
      ends = subst (BeginsWithout is_equals) (sym behind) run.run.longest;
    }

-- a closing is `]`, a run of `=` of its level, and `]`
closing_behind : (level n : ℕ) (after : List ℕ) → BeginsWithout is_equals after → has_front (replicate level 61 ++ codes "]") (replicate n 61 ++ after) ≡ ((n == level) && has_front (codes "]") after)
closing_behind zero zero after ends = refl
closing_behind zero (suc n) after ends = ap (λ t. t && has_front (codes "]") after) (sym (eqb-suc-zero n))
closing_behind (suc level) zero [] ends = sym (and_false (0 == suc level))
closing_behind (suc level) zero (byte ∷ after) ends = let other : (61 == byte) ≡ false = grind (arith, nat_tests) in rw (other, eqb-zero-suc level)
closing_behind (suc level) (suc n) after ends = closing_behind level n after ends ∙ ap (λ t. t && has_front (codes "]") after) (sym (eqb-suc-suc n level))

pub closing_front : (level n : ℕ) (text after : List ℕ) → text ≡ codes "]" ++ after → RunFront is_equals n after → has_front (closing level) text ≡ ((n == level) && has_front (codes "]") (drop n after))
closing_front level n text after whole run =
    let behind : BehindEquals n after = behind_equals n after run in
    ap (has_front (closing level)) whole ∙ (ap (has_front (replicate level 61 ++ codes "]")) behind.whole ∙ closing_behind level n (drop n after) behind.ends)

pub closes_there : (level n : ℕ) (text after : List ℕ) (stands : Bool) → text ≡ codes "]" ++ after → RunFront is_equals n after → n ≡ level → stands ≡ starts_with ◌==◌ (take (length after - n) (drop n after)) (codes "]") → stands ≡ has_front (closing level) text
closes_there level n text after stands whole run same found =
    let test : (n == level) ≡ true = grind (arith, nat_tests) in
    found ∙ (byte_stands 93 n after ∙ (sym (ap (λ t. t && has_front (codes "]") (drop n after)) test) ∙ sym (closing_front level n text after whole run)))

pub closes_elsewhere : (level n : ℕ) (text after : List ℕ) → text ≡ codes "]" ++ after → RunFront is_equals n after → (n ≡ level → ⊥) → (n == level) ≡ has_front (closing level) text
closes_elsewhere level n text after whole run other =
    let test : (n == level) ≡ false = grind (arith, nat_tests) in
    test ∙ sym (closing_front level n text after whole run ∙ ap (λ t. t && has_front (codes "]") (drop n after)) test)

-- an opening is `[`, a run of `=`, and `[`
opening_behind : (n : ℕ) (after : List ℕ) → BeginsWithout is_equals after → ends_opening (replicate n 61 ++ after) ≡ has_front (codes "[") after
opening_behind zero [] ends = refl
opening_behind zero (byte ∷ after) ends = grind (arith, nat_tests)
opening_behind (suc n) after ends = opening_behind n after ends

pub opens_front : (n : ℕ) (text after : List ℕ) → text ≡ codes "[" ++ after → RunFront is_equals n after → opens_long text ≡ has_front (codes "[") (drop n after)
opens_front n text after whole run =
    let behind : BehindEquals n after = behind_equals n after run in
    ap opens_long whole ∙ (ap ends_opening behind.whole ∙ opening_behind n (drop n after) behind.ends)

pub opening_front : (n : ℕ) (text after : List ℕ) → text ≡ codes "[" ++ after → RunFront is_equals n after → has_front (codes "[") (drop n after) ≡ true → text ≡ opening n ++ drop 1 (drop n after)
opening_front n text after whole run opens =
    let behind : BehindEquals n after = behind_equals n after run in
    let parts : drop n after ≡ codes "[" ++ drop 1 (drop n after) = front_parts (codes "[") (drop n after) opens in
    whole ∙ ap (λ t. 91 ∷ t) (behind.whole ∙ (ap (λ t. replicate n 61 ++ t) parts ∙ sym (append_assoc (replicate n 61) (codes "[") (drop 1 (drop n after)))))

-- sizes
pub opening_length : (level : ℕ) → length (opening level) ≡ level + 2
opening_length level = omega (arith, length-append (replicate level 61) (codes "["), length-replicate {A = ℕ} level 61)

pub closing_length : (level : ℕ) → length (closing level) ≡ level + 2
closing_length level = omega (arith, length-append (replicate level 61) (codes "]"), length-replicate {A = ℕ} level 61)

pub behind_opening : (level : ℕ) (text after : List ℕ) → text ≡ opening level ++ after → text ≡ opening level ++ drop (level + 2) text
behind_opening level text after whole =
    let behind : drop (level + 2) text ≡ after = ap (drop (level + 2)) whole ∙ (ap (λ k. drop k (opening level ++ after)) (sym (opening_length level)) ∙ drop-append_seam (opening level) after) in
    whole ∙ ap (λ t. opening level ++ t) (sym behind)

-- the first closing, found from the left
pub first_closing : (level at : ℕ) (text : List ℕ) → at < length text → ((k : ℕ) → k < at → has_front (closing level) (drop k text) ≡ false) → has_front (closing level) (drop at text) ≡ true → FirstClosing level at text
first_closing level at text within none here =
    let inside : List ℕ = take at text in
    let after : List ℕ = drop (length (closing level)) (drop at text) in
    let parts : drop at text ≡ closing level ++ after = front_parts (closing level) (drop at text) here in
    let whole : text ≡ inside ++ (closing level ++ after) = sym (take-append-drop at text) ∙ ap (λ t. inside ++ t) parts in
    let size : length inside ≡ at = length-take-le at text (omega (arith, within)) in
    let grouped : text ≡ inside ++ (almost_closing level ++ (93 ∷ after)) = whole ∙ ap (λ t. inside ++ t) (append_assoc (almost_closing level) (codes "]") after) in
    record {
      inside = inside;
      after = after;
      whole = whole;
      length_is = size;
      first = no_word_before (almost_closing level) inside after 93 (λ k below. subst (λ t. has_front (closing level) (drop k t) ≡ false) grouped (none k (omega (arith, below, size))));
    }

-- a long bracket is its opening, and all up to the end of the first closing
pub long_front : (level at n : ℕ) (text after : List ℕ) → text ≡ opening level ++ after → n ≡ level + 2 + at + (level + 2) → FirstClosing level at (drop (level + 2) text) → LongFront level n text
long_front level at n text after whole size closed =
    let behind : text ≡ opening level ++ drop (level + 2) text = behind_opening level text after whole in
    let front : List ℕ = opening level ++ (closed.inside ++ closing level) in
    let grouped : text ≡ front ++ closed.after = behind ∙ (ap (λ t. opening level ++ t) (closed.whole ∙ sym (append_assoc closed.inside (closing level) closed.after)) ∙ sym (append_assoc (opening level) (closed.inside ++ closing level) closed.after)) in
    record {
      front = front;
      after = closed.after;
      inside = closed.inside;
      is_front = record {
        whole = grouped;
        length_is = omega (arith, length-append (opening level) (closed.inside ++ closing level), length-append closed.inside (closing level), opening_length level, closing_length level, closed.length_is, size);
      };
      long = record { whole = refl; first = closed.first };
    }

-- comments
pub long_comment : (level n : ℕ) (text body : List ℕ) → text ≡ codes "--" ++ body → LongFront level n body → CommentFront (2 + n) text
long_comment level n text body whole long = record {
  front = codes "--" ++ long.front;
  after = long.after;
  is_front = record {
    whole = whole ∙ ap (λ t. codes "--" ++ t) long.is_front.whole;
    length_is = omega (arith, long.is_front.length_is);
  };
  comment = inr (record { level = level; inside = long.inside; body = long.front; whole = refl; long = long.long });
}

pub short_comment : (n : ℕ) (text body : List ℕ) → text ≡ codes "--" ++ body → opens_long body ≡ false → RunFront (λ byte. not (ends_line byte)) n body → CommentFront (2 + n) text
short_comment n text body whole short line = record {
  front = codes "--" ++ line.front;
  after = line.after;
  is_front = record {
    whole = whole ∙ ap (λ t. codes "--" ++ t) line.is_front.whole;
    length_is = omega (arith, line.is_front.length_is);
  };
  comment = inl (record { body = line.front; whole = refl; no_bracket = subst (λ t. opens_long t ≡ false) line.is_front.whole short; run = line.run });
}
