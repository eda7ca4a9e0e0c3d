-- The first line in which two texts differ.
use Rattle.std.proofs.Common.{◌≡◌, ◌≢◌, ℕ, suc, Bool, true, false, eqb, List, [], ◌∷◌, ◌++◌, length, refl, sym, ap, ◌∙◌, append_assoc, arith}
use Rattle.std.specs.Str.{bytes_eq}
use Rattle.std.proofs.lemmas.Bool.{ne_eqb, eq-eqb, eqb-true, eqb-false}
use Rattle.lua_num.specs.Bytes.{Text}
use Rattle.lister.specs.Listing.{line, listing}
use Rattle.proto.specs.Chunk.{Chunk}
use Rattle.asm_text.specs.Lines.{Place, begin, listed, IsOneLine, together, Show}
use Rattle.asm_text.specs.Faults.{IsDifferent}
use Rattle.asm_text.specs.Reading.{differing_line}
use Rattle.asm_text.proofs.Places.{together_both}
use Rattle.asm_text.proofs.Names.{same_bytes, bytes_same}
use Rattle.asm_text.proofs.Whole.{EachOne, ones, AreLines}
use Rattle.asm_text.proofs.Shown.{InLines}

same_line : (t : Text) (a b : List ℕ) → IsOneLine t → differing_line (line t ++ a) (line t ++ b) ≡ suc (differing_line a b)
unfolding differing_line
same_line [] a b h = refl
same_line (x ∷ t) a b h = rw (eq-eqb x x refl, ne_eqb x 10 h.0) (same_line t a b h.1)

heads_differ : (x y : ℕ) (a b : List ℕ) → x ≢ y → differing_line (x ∷ a) (y ∷ b) ≡ 1
unfolding differing_line
heads_differ x y a b h = rw (ne_eqb x y h) refl

heads_same : (x : ℕ) (a b : List ℕ) → x ≢ 10 → differing_line (x ∷ a) (x ∷ b) ≡ differing_line a b
unfolding differing_line
heads_same x a b h = rw (eq-eqb x x refl, ne_eqb x 10 h) refl

more_differ : (m w : ℕ) (mine wanted : Text) (a b : List ℕ) (d : Bool) → eqb m w ≡ d → m ≢ 10 → (m ∷ mine) ≢ (w ∷ wanted) → (mine ≢ wanted → differing_line (line mine ++ a) (line wanted ++ b) ≡ 1) → differing_line (line (m ∷ mine) ++ a) (line (w ∷ wanted) ++ b) ≡ 1
more_differ m w mine wanted a b true q h ne go =
    let same : m ≡ w = eqb-true m w q in
    ap (λ k. differing_line (m ∷ (line mine ++ a)) (k ∷ (line wanted ++ b))) (sym same) ∙ heads_same m (line mine ++ a) (line wanted ++ b) h ∙ go (λ e. ne (λ i. same i ∷ e i))
more_differ m w mine wanted a b false q h ne go = heads_differ m w (line mine ++ a) (line wanted ++ b) (eqb-false m w q)

lines_differ : (mine wanted : Text) (a b : List ℕ) → IsOneLine mine → IsOneLine wanted → mine ≢ wanted → differing_line (line mine ++ a) (line wanted ++ b) ≡ 1
lines_differ [] [] a b h g ne = absurd (ne refl)
lines_differ [] (w ∷ wanted) a b h g ne = heads_differ 10 w a (line wanted ++ b) (λ e. g.0 (sym e))
lines_differ (m ∷ mine) [] a b h g ne = heads_differ m 10 (line mine ++ a) b h.0
lines_differ (m ∷ mine) (w ∷ wanted) a b h g ne = more_differ m w mine wanted a b (eqb m w) refl h.0 ne (λ f. lines_differ mine wanted a b h.1 g.1 f)

pub differing_there : (same : List Text) (mine wanted : Text) (a b : List ℕ) → EachOne same → IsOneLine mine → IsOneLine wanted → mine ≢ wanted
    → differing_line (together same ++ (line mine ++ a)) (together same ++ (line wanted ++ b)) ≡ suc (length same)
differing_there [] mine wanted a b each h g ne = lines_differ mine wanted a b h g ne
differing_there (t ∷ same) mine wanted a b each h g ne =
    (λ i. differing_line (append_assoc (line t) (together same) (line mine ++ a) i) (append_assoc (line t) (together same) (line wanted ++ b) i))
    ∙ same_line t (together same ++ (line mine ++ a)) (together same ++ (line wanted ++ b)) each.0
    ∙ ap suc (differing_there same mine wanted a b each.1 h g ne)

-- two rows of as many lines that are not the same
record Differ (given others : List Text) : Type 0 where
  same : List Text
  mine : Text
  wanted : Text
  rest : List Text
  more : List Text
  here : given ≡ same ++ mine ∷ rest
  there : others ≡ same ++ wanted ∷ more
  each : EachOne same
  one : IsOneLine mine
  one_wanted : IsOneLine wanted
  differ : mine ≢ wanted

true_no_false : true ≡ false → ⊥
true_no_false e = cc

more_differs : (t o : Text) (given others : List Text) (d : Bool) → bytes_eq t o ≡ d → IsOneLine t → IsOneLine o → (t ∷ given) ≢ (o ∷ others) → (given ≢ others → Differ given others) → Differ (t ∷ given) (o ∷ others)
more_differs t o given others true q h g ne go =
    let e : t ≡ o = same_bytes t o q in
    let s = go (λ f. ne (λ i. e i ∷ f i)) in
    record {
      same = t ∷ s.same;
      mine = s.mine;
      wanted = s.wanted;
      rest = s.rest;
      more = s.more;
      here = ap (λ ts. t ∷ ts) s.here;
      there = λ i. sym e i ∷ s.there i;
      each = (h, s.each);
      one = s.one;
      one_wanted = s.one_wanted;
      differ = s.differ;
    }
more_differs t o given others false q h g ne go = record {
  same = [];
  mine = t;
  wanted = o;
  rest = given;
  more = others;
  here = refl;
  there = refl;
  each = tt;
  one = h;
  one_wanted = g;
  differ = λ e. true_no_false (sym (ap (λ k. bytes_eq k o) e ∙ bytes_same o) ∙ q);
}

first_differ : (given others : List Text) → EachOne given → EachOne others → length given ≡ length others → given ≢ others → Differ given others
first_differ [] [] h g long ne = absurd (ne refl)
first_differ [] (o ∷ others) h g long ne = absurd (omega arith)
first_differ (t ∷ given) [] h g long ne = absurd (omega arith)
first_differ (t ∷ given) (o ∷ others) h g long ne = more_differs t o given others (bytes_eq t o) refl h.0 g.0 ne (λ f. first_differ given others h.1 g.1 (omega arith) f)

then_long : (p : Place) (ps : List Place) (ts others : List Text) → ((us vs : List Text) → Show ps us → Show ps vs → length us ≡ length vs) → Show (p ∷ ps) ts → Show (p ∷ ps) others → length ts ≡ length others
then_long (begin n) ps ts us go h g = go ts us h.1 g.1
then_long p ps [] us go h g = absurd h
then_long p ps (t ∷ ts) [] go h g = absurd g
then_long p ps (t ∷ ts) (u ∷ us) go h g = ap suc (go ts us h.3 g.3)

as_long : (ps : List Place) (ts us : List Text) → Show ps ts → Show ps us → length ts ≡ length us
as_long [] [] [] h g = refl
as_long [] (t ∷ ts) us h g = absurd h
as_long [] [] (u ∷ us) h g = absurd g
as_long (p ∷ ps) ts us h g = then_long p ps ts us (λ vs ws k l. as_long ps vs ws k l) h g

in_lines : (ts same : List Text) (t : Text) (rest : List Text) → ts ≡ same ++ t ∷ rest → together ts ≡ together same ++ (line t ++ together rest)
in_lines ts same t rest e = ap together e ∙ sym (append_nil (together (same ++ t ∷ rest))) ∙ together_both same (t ∷ rest) [] ∙ ap (λ (b : List ℕ). together same ++ b) (append_nil (line t ++ together rest)) where
  append_nil : (xs : List ℕ) → xs ++ [] ≡ xs
  append_nil [] = refl
  append_nil (x ∷ xs) = ap (λ k. x ∷ k) (append_nil xs)

pub is_different : (text : Text) (c : Chunk) → AreLines text c → InLines (listed c) (listing c) → text ≢ listing c → IsDifferent text (differing_line text (listing c))
is_different text c s t ne =
    let long = as_long (listed c) s.given t.texts s.shown t.shows in
    let d = first_differ s.given t.texts (ones (listed c) s.given s.shown) (ones (listed c) t.texts t.shows) long (λ e. ne (s.here ∙ ap together e ∙ sym t.is)) in
    let here : text ≡ together d.same ++ (line d.mine ++ together d.rest) = s.here ∙ in_lines s.given d.same d.mine d.rest d.here in
    let there : listing c ≡ together d.same ++ (line d.wanted ++ together d.more) = t.is ∙ in_lines t.texts d.same d.wanted d.more d.there in
    record {
      chunk = c;
      given = s.given;
      shown = s.shown;
      whole = s.here;
      same = d.same;
      each = d.each;
      mine = d.mine;
      wanted = d.wanted;
      rest = together d.rest;
      others = together d.more;
      here = here;
      there = there;
      one = d.one;
      one_wanted = d.one_wanted;
      differ = d.differ;
      at = (λ i. differing_line (here i) (there i)) ∙ differing_there d.same d.mine d.wanted (together d.rest) (together d.more) d.each d.one d.one_wanted d.differ;
    }

-- the number of the line, and that the texts differ
pub number_of : (text : Text) (number : ℕ) (d : IsDifferent text number) → number ≡ differing_line text (listing d.chunk)
number_of text number d = d.at ∙ sym ((λ i. differing_line (d.here i) (d.there i)) ∙ differing_there d.same d.mine d.wanted d.rest d.others d.each d.one d.one_wanted d.differ)

-- no line is its own end
cut_same : (t u : Text) (a b : List ℕ) → IsOneLine t → IsOneLine u → line t ++ a ≡ line u ++ b → t ≡ u
cut_same [] [] a b h g e = refl
cut_same [] (u ∷ us) a b h g e = absurd (g.0 (sym (head_same 10 u a (line us ++ b) e))) where
  head_same : (x y : ℕ) (xs ys : List ℕ) → x ∷ xs ≡ y ∷ ys → x ≡ y
  head_same x y xs ys e = cc
cut_same (t ∷ ts) [] a b h g e = absurd (h.0 (head_same t 10 (line ts ++ a) b e)) where
  head_same : (x y : ℕ) (xs ys : List ℕ) → x ∷ xs ≡ y ∷ ys → x ≡ y
  head_same x y xs ys e = cc
cut_same (t ∷ ts) (u ∷ us) a b h g e = λ i. p.0 i ∷ cut_same ts us a b h.1 g.1 p.1 i where
  both_same : (x y : ℕ) (xs ys : List ℕ) → x ∷ xs ≡ y ∷ ys → (x ≡ y) × (xs ≡ ys)
  both_same x y xs ys e = (cc, cc)

  p : (t ≡ u) × (line ts ++ a ≡ line us ++ b)
  p = both_same t u (line ts ++ a) (line us ++ b) e

left_same : (xs a b : List ℕ) → xs ++ a ≡ xs ++ b → a ≡ b
left_same [] a b e = e
left_same (x ∷ xs) a b e = left_same xs a b (tail_same x (xs ++ a) (xs ++ b) e) where
  tail_same : (x : ℕ) (xs ys : List ℕ) → x ∷ xs ≡ x ∷ ys → xs ≡ ys
  tail_same x xs ys e = cc

pub really_differs : (text : Text) (number : ℕ) (d : IsDifferent text number) → text ≡ listing d.chunk → ⊥
really_differs text number d e =
    d.differ (cut_same d.mine d.wanted d.rest d.others d.one d.one_wanted (left_same (together d.same) (line d.mine ++ d.rest) (line d.wanted ++ d.others) (sym d.here ∙ e ∙ d.there)))
