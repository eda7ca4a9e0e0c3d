-- Each line of a listing, but for the words of code, is read as what it says.
use Rattle.std.proofs.Common.{◌≡◌, ℕ, zero, suc, ◌<◌, ◌≤◌, ◌^◌, ℤ, pos, negsuc, Bool, true, false, cond, eqb, not, List, [], ◌∷◌, ◌++◌, length, Option, None, Some, refl, sym, ap, subst, ◌∙◌, append_assoc, arith, codes}
use Rattle.std.specs.Str.{bytes_eq}
use Rattle.std.specs.List.{AllByRecursion}
use Rattle.std.specs.Fmt.{decimal}
use Rattle.std.proofs.lemmas.Bool.{ne_eqb, eqb-false}
use Rattle.std.proofs.lemmas.List.{append-nil}
use Rattle.lua_num.specs.Bytes.{Text}
use Rattle.lua_num.specs.Numeral.{decimal_text}
use Rattle.proto.specs.declared.parts.Constant.{Constant}
use Rattle.proto.specs.declared.parts.LocVar.{LocVar}
use Rattle.lister.specs.Listing.{digits, spaced, quoted, constant_text, source_text, local_text}
use Rattle.asm_text.specs.Lines.{Place, name, source, defined, shape, count, word, constant, lines, local, upvalue_name, IsWord, Allowed, AreBytes, IsAlike, Shows}
use Rattle.asm_text.specs.Reading.{◌&>=◌, then_cut, whole, with_byte, cut_at, behind, spaced_at, spaced_many, quoted_at, whole_quoted_at, begins_quote, whole_number_at, constant_at, is_some_cut, is_word, if_word, name_at, source_from, source_at, defined_at, four_at, shape_at, count_at, counted_lines, lines_at, item_at, local_at, word_at}
use Rattle.asm_text.proofs.Cutting.{the_same, Lacks}
use Rattle.asm_text.proofs.Fronts.{NoDigit, Takes, Starts, Wholes, takes_then, takes_as, takes_behind, starts_behind, whole_of, wholes_behind, behind_back, behind_there}
use Rattle.asm_text.proofs.Digits.{takes_number, first_of_decimal}
use Rattle.asm_text.proofs.Quotes.{takes_quoted, whole_quoted}
use Rattle.asm_text.proofs.Signed.{Within, whole_numbers, fits_from, fits_to}
use Rattle.asm_text.proofs.Names.{same_bytes}
use Rattle.asm_text.proofs.Fields.{takes_shown}
use Rattle.asm_text.proofs.Words.{word_sound, word_complete}
use Rattle.asm_text.proofs.Phrases.{Parses}

-- ---- a name

none_more : (mark b : ℕ) (t : Text) (d : Bool) → eqb b mark ≡ d → (cut_at mark t ≡ None → Lacks mark t) → cond d (Some ([], t)) (with_byte b (cut_at mark t)) ≡ None → Lacks mark (b ∷ t)
none_more mark b t true q go e = absurd cc
none_more mark b t false q go e = (eqb-false b mark q, go (by (cut_at mark t) e)) where
  by : (r : Option (Text × Text)) → with_byte b r ≡ None → r ≡ None
  by None f = refl
  by (Some x) f = absurd cc

none_lacks : (mark : ℕ) (t : Text) → cut_at mark t ≡ None → Lacks mark t
unfolding cut_at
none_lacks mark [] e = tt
none_lacks mark (b ∷ t) e = none_more mark b t (eqb b mark) refl (λ f. none_lacks mark t f) e

pub lacks_none : (mark : ℕ) (t : Text) → Lacks mark t → cut_at mark t ≡ None
unfolding cut_at
lacks_none mark [] h = refl
lacks_none mark (b ∷ t) h = rw (ne_eqb b mark h.0, lacks_none mark t h.1) refl

none_if : (r : Option (Text × Text)) → not (is_some_cut r) ≡ true → r ≡ None
none_if None h = refl
none_if (Some x) h = absurd cc

word_back : (t : Text) → is_word t ≡ true → IsWord t
word_back [] h = absurd cc
word_back (b ∷ t) h = (λ e. cc, none_lacks 32 (b ∷ t) (none_if (cut_at 32 (b ∷ t)) h))

word_there : (t : Text) → IsWord t → is_word t ≡ true
word_there [] h = absurd (h.0 refl)
word_there (b ∷ t) h = ap (λ r. not (is_some_cut r)) (lacks_none 32 (b ∷ t) h.1)

if_word_back : (t : Text) (u : Unit {0}) (d : Bool) → is_word t ≡ d → cond d (Some tt) None ≡ Some u → IsWord t
if_word_back t u true q e = word_back t q
if_word_back t u false q e = absurd cc

name_only : (u : Unit {0}) (p : Place) → IsAlike name p → (w : Unit {0}) × (p ≡ name)
name_only u name h = (tt, refl)
name_only u p h = absurd h

name_sound : (t : Text) (u : Unit {0}) → name_at t ≡ Some u → Shows name t
unfolding name_at
name_sound t u e = let b = behind_back (codes "function ") if_word t u e in (b.0, if_word_back b.0 u (is_word b.0) refl b.2, b.1)

name_complete : (t : Text) → Shows name t → name_at t ≡ Some tt
unfolding name_at
name_complete t s = ap (behind (codes "function ") if_word) s.2 ∙ behind_there (codes "function ") if_word s.0 ∙ ap (λ d. cond d (Some tt) None) (word_there s.0 s.1)

pub parses_name : Parses name_at (λ u. name)
parses_name = record {
  some = tt;
  due = λ u. tt;
  sound = λ t u e. (tt, name_sound t u e);
  complete = λ t u allowed s. name_complete t s;
  alike = λ u w. tt;
  only = name_only;
}

-- ---- a source

abbrev SourceGood : Option Text → Type 0
SourceGood s = Allowed (source s)

some_source : (t : Text) (r : Option Text) (s : Option Text) → ((q : Text) → r ≡ Some q → (t ≡ quoted q) × AreBytes q) → (r &>= λ q. Some (Some q)) ≡ Some s → (t ≡ source_text s) × SourceGood s
some_source t None s h e = absurd cc
some_source t (Some q) s h e = subst (λ s. (t ≡ source_text s) × SourceGood s) (the_same {A = Option Text} (Some q) s e) (h q refl)

source_back : (t : Text) (s : Option Text) (d : Bool) → bytes_eq t (codes "none") ≡ d → cond d (Some None) (whole_quoted_at t &>= λ q. Some (Some q)) ≡ Some s → (t ≡ source_text s) × SourceGood s
source_back t s true q e = subst (λ s. (t ≡ source_text s) × SourceGood s) (the_same {A = Option Text} None s e) (same_bytes t (codes "none") q, tt)
source_back t s false q e = some_source t (whole_quoted_at t) s (whole_quoted.sound t) e

source_there : (s : Option Text) → SourceGood s → source_from (source_text s) ≡ Some s
source_there None h = refl
source_there (Some q) h =
    let e : whole_quoted_at (quoted q) ≡ Some q = whole_quoted.complete (quoted q) q h refl in
    rw e refl

source_wholes : Wholes source_at (λ s. codes "source " ++ source_text s) SourceGood
unfolding source_at
source_wholes = wholes_behind (codes "source ") (record {
  sound = λ t s e. source_back t s (bytes_eq t (codes "none")) refl e;
  complete = λ t s good is. ap source_from is ∙ source_there s good;
})

source_only : (s : Option Text) (p : Place) → IsAlike (source s) p → (w : Option Text) × (p ≡ source w)
source_only s (source w) h = (w, refl)
source_only s p h = absurd h

pub parses_source : Parses source_at source
parses_source = record {
  some = None;
  due = λ s. tt;
  sound = λ t s e. let w = source_wholes.sound t s e in (w.1, w.0);
  complete = λ t s allowed shows. source_wholes.complete t s allowed shows;
  alike = λ s w. tt;
  only = source_only;
}

-- ---- numbers behind spaces

abbrev spaced_text : ℕ → Text
spaced_text n = 32 ∷ decimal n

takes_spaced : (limit : ℕ) → 10 ≤ limit → limit ≤ 10 ^ 64 → Takes (spaced_at limit) spaced_text (λ n. n < limit)
unfolding spaced_at
takes_spaced limit big wide = takes_behind (codes " ") (takes_number limit big wide)

starts_spaced : (limit : ℕ) → Starts spaced_text (λ n. n < limit)
starts_spaced limit = record { no_digit = λ n rest good none. refl }

int_spaced : Takes (spaced_at 2147483648) spaced_text (λ n. n < 2147483648)
int_spaced = takes_spaced 2147483648 (omega arith) (omega arith)

byte_spaced : Takes (spaced_at 256) spaced_text (λ n. n < 256)
byte_spaced = takes_spaced 256 (omega arith) (omega arith)

-- ---- `defined` and `shape`

abbrev Pair : Type 0
Pair = ℕ × ℕ

defined_text : (p : Pair) → spaced (p.0 ∷ p.1 ∷ []) ≡ spaced_text p.0 ++ spaced_text p.1
defined_text p = ap (λ (t : Text). spaced_text p.0 ++ t) (append-nil (spaced_text p.1))

defined_wholes : Wholes defined_at (λ (p : Pair). codes "defined" ++ spaced (p.0 ∷ p.1 ∷ [])) (λ p. (p.0 < 2147483648) × (p.1 < 2147483648))
unfolding defined_at
defined_wholes = wholes_behind (codes "defined") (whole_of (takes_shown (λ (p : Pair). spaced (p.0 ∷ p.1 ∷ [])) defined_text (takes_then int_spaced (λ n. int_spaced) (λ n. starts_spaced 2147483648))))

defined_only : (v : Pair) (p : Place) → IsAlike (defined v.0 v.1) p → (w : Pair) × (p ≡ defined w.0 w.1)
defined_only v (defined a b) h = ((a, b), refl)
defined_only v p h = absurd h

pub parses_defined : Parses defined_at (λ (p : Pair). defined p.0 p.1)
parses_defined = record {
  some = (0, 0);
  due = λ v. tt;
  sound = λ t v e. let w = defined_wholes.sound t v e in (w.1, w.0);
  complete = λ t v allowed shows. defined_wholes.complete t v allowed shows;
  alike = λ v w. tt;
  only = defined_only;
}

abbrev Four : Type 0
Four = ℕ × (ℕ × (ℕ × ℕ))

shape_text : (p : Four) → spaced (p.0 ∷ p.1.0 ∷ p.1.1.0 ∷ p.1.1.1 ∷ []) ≡ spaced_text p.0 ++ (spaced_text p.1.0 ++ (spaced_text p.1.1.0 ++ spaced_text p.1.1.1))
shape_text p = ap (λ (t : Text). spaced_text p.0 ++ (spaced_text p.1.0 ++ (spaced_text p.1.1.0 ++ t))) (append-nil (spaced_text p.1.1.1))

takes_two : Takes (then_cut (spaced_at 256) (λ flags. spaced_at 256)) (λ (p : Pair). spaced_text p.0 ++ spaced_text p.1) (λ p. (p.0 < 256) × (p.1 < 256))
takes_two = takes_then byte_spaced (λ n. byte_spaced) (λ n. starts_spaced 256)

starts_two : Starts (λ (p : Pair). spaced_text p.0 ++ spaced_text p.1) (λ p. (p.0 < 256) × (p.1 < 256))
starts_two = record { no_digit = λ n rest good none. refl }

takes_three : Takes (then_cut (spaced_at 256) (λ params. then_cut (spaced_at 256) (λ flags. spaced_at 256))) (λ (p : ℕ × Pair). spaced_text p.0 ++ (spaced_text p.1.0 ++ spaced_text p.1.1)) (λ p. (p.0 < 256) × ((p.1.0 < 256) × (p.1.1 < 256)))
takes_three = takes_then byte_spaced (λ n. takes_two) (λ n. starts_two)

starts_three : Starts (λ (p : ℕ × Pair). spaced_text p.0 ++ (spaced_text p.1.0 ++ spaced_text p.1.1)) (λ p. (p.0 < 256) × ((p.1.0 < 256) × (p.1.1 < 256)))
starts_three = record { no_digit = λ n rest good none. refl }

shape_wholes : Wholes shape_at (λ (p : Four). codes "shape" ++ spaced (p.0 ∷ p.1.0 ∷ p.1.1.0 ∷ p.1.1.1 ∷ [])) (λ p. (p.0 < 256) × ((p.1.0 < 256) × ((p.1.1.0 < 256) × (p.1.1.1 < 256))))
unfolding shape_at four_at
shape_wholes = wholes_behind (codes "shape") (whole_of (takes_shown (λ (p : Four). spaced (p.0 ∷ p.1.0 ∷ p.1.1.0 ∷ p.1.1.1 ∷ [])) shape_text (takes_then byte_spaced (λ n. takes_three) (λ n. starts_three))))

shape_only : (v : Four) (p : Place) → IsAlike (shape v.0 v.1.0 v.1.1.0 v.1.1.1) p → (w : Four) × (p ≡ shape w.0 w.1.0 w.1.1.0 w.1.1.1)
shape_only v (shape a b c d) h = ((a, (b, (c, d))), refl)
shape_only v p h = absurd h

pub parses_shape : Parses shape_at (λ (p : Four). shape p.0 p.1.0 p.1.1.0 p.1.1.1)
parses_shape = record {
  some = (0, (0, (0, 0)));
  due = λ v. tt;
  sound = λ t v e. let w = shape_wholes.sound t v e in ((w.1.0, w.1.1.0, w.1.1.1.0, w.1.1.1.1), w.0);
  complete = λ t v allowed shows. shape_wholes.complete t v (allowed.0, (allowed.1, (allowed.2, allowed.3))) shows;
  alike = λ v w. tt;
  only = shape_only;
}

-- ---- a count

count_wholes : (what : Text) → Wholes (count_at what) (λ n. what ++ spaced_text n) (λ n. n < 2147483648)
unfolding count_at
count_wholes what = wholes_behind what (whole_of int_spaced)

count_only : (what : Text) (v : ℕ) (p : Place) → IsAlike (count what v) p → (w : ℕ) × (p ≡ count what w)
count_only what v (count other m) h = (m, ap (λ o. count o m) (sym h))
count_only what v p h = absurd h

pub parses_count : (what : Text) → Parses (count_at what) (λ n. count what n)
parses_count what = record {
  some = 0;
  due = λ n. tt;
  sound = λ t n e. let w = (count_wholes what).sound t n e in (w.1, w.0);
  complete = λ t n allowed shows. (count_wholes what).complete t n allowed shows;
  alike = λ v w. refl;
  only = count_only what;
}

-- ---- the lines of words

abbrev Below : List ℕ → Type 0
Below ls = AllByRecursion (λ l. l < 2147483648) ls

abbrev IsMany : (n : ℕ) → Text → List ℕ × Text → Type 0
IsMany n text x = (text ≡ spaced x.0 ++ x.1) × ((length x.0 ≡ n) × Below x.0)

many_more : (n : ℕ) (text : Text) (y : ℕ × Text) (x : List ℕ × Text) (r : Option (List ℕ × Text)) → (text ≡ spaced_text y.0 ++ y.1) × (y.0 < 2147483648) → ((z : List ℕ × Text) → r ≡ Some z → IsMany n y.1 z) → (r &>= λ z. Some (y.0 ∷ z.0, z.1)) ≡ Some x → IsMany (suc n) text x
many_more n text y x None h go e = absurd cc
many_more n text y x (Some z) h go e =
    let s = go z refl in
    subst (IsMany (suc n) text) (the_same {A = List ℕ × Text} (y.0 ∷ z.0, z.1) x e)
    (h.0 ∙ ap (λ (t : Text). spaced_text y.0 ++ t) s.0 ∙ sym (append_assoc (spaced_text y.0) (spaced z.0) z.1), (ap suc s.1.0, (h.1, s.1.1)))

many_step : (n : ℕ) (text : Text) (x : List ℕ × Text) (r : Option (ℕ × Text)) → ((y : ℕ × Text) → r ≡ Some y → (text ≡ spaced_text y.0 ++ y.1) × (y.0 < 2147483648)) → ((t : Text) (z : List ℕ × Text) → spaced_many 2147483648 n t ≡ Some z → IsMany n t z) → (r &>= λ y. spaced_many 2147483648 n y.1 &>= λ z. Some (y.0 ∷ z.0, z.1)) ≡ Some x → IsMany (suc n) text x
many_step n text x None h go e = absurd cc
many_step n text x (Some y) h go e = many_more n text y x (spaced_many 2147483648 n y.1) (h y refl) (go y.1) e

many_back : (n : ℕ) (text : Text) (x : List ℕ × Text) → spaced_many 2147483648 n text ≡ Some x → IsMany n text x
unfolding spaced_many
many_back zero text x e = subst (IsMany zero text) (the_same {A = List ℕ × Text} ([], text) x e) (refl, (refl, tt))
many_back (suc n) text x e = many_step n text x (spaced_at 2147483648 text) (int_spaced.sound text) (λ t z f. many_back n t z f) e

spaced_starts : (ls : List ℕ) (rest : Text) → NoDigit rest → NoDigit (spaced ls ++ rest)
spaced_starts [] rest none = none
spaced_starts (l ∷ ls) rest none = refl

many_there : (ls : List ℕ) (rest : Text) → Below ls → NoDigit rest → spaced_many 2147483648 (length ls) (spaced ls ++ rest) ≡ Some (ls, rest)
unfolding spaced_many
many_there [] rest h none = refl
many_there (l ∷ ls) rest h none =
    let one : spaced_at 2147483648 (spaced_text l ++ (spaced ls ++ rest)) ≡ Some (l, spaced ls ++ rest) = int_spaced.complete l (spaced ls ++ rest) h.0 (spaced_starts ls rest none) in
    let more : spaced_many 2147483648 (length ls) (spaced ls ++ rest) ≡ Some (ls, rest) = many_there ls rest h.1 none in
    rw (append_assoc (spaced_text l) (spaced ls) rest, one, more) refl

takes_many : (n : ℕ) → Takes (spaced_many 2147483648 n) spaced (λ ls. (length ls ≡ n) × Below ls)
takes_many n = record {
  sound = λ text x e. many_back n text x e;
  complete = λ ls rest good none. subst (λ k. spaced_many 2147483648 k (spaced ls ++ rest) ≡ Some (ls, rest)) good.0 (many_there ls rest good.1 none);
}

abbrev lines_text : List ℕ → Text
lines_text ls = digits (length ls) ++ (58 ∷ spaced ls)

abbrev LinesGood : List ℕ → Type 0
LinesGood ls = (length ls < 2147483648) × Below ls

takes_lines : Takes counted_lines lines_text LinesGood
unfolding counted_lines
takes_lines =
    takes_as (λ (p : ℕ × List ℕ). p.1) lines_text LinesGood
    (takes_then (takes_number 2147483648 (omega arith) (omega arith)) (λ n. takes_behind (codes ":") (takes_many n)) (λ n. starts_behind 58 [] spaced (λ ls. (length ls ≡ n) × Below ls) refl))
    (λ p good. (ap (λ n. decimal n ++ (58 ∷ spaced p.1)) good.1.0, (subst (λ n. n < 2147483648) (sym good.1.0) good.0, good.1.1)))
    (λ ls good. ((length ls, ls), refl, (good.0, (refl, good.1))))

lines_wholes : Wholes lines_at (λ ls. codes "lines " ++ lines_text ls) LinesGood
unfolding lines_at
lines_wholes = wholes_behind (codes "lines ") (whole_of takes_lines)

lines_only : (v : List ℕ) (p : Place) → IsAlike (lines v) p → (w : List ℕ) × (p ≡ lines w)
lines_only v (lines w) h = (w, refl)
lines_only v p h = absurd h

pub parses_lines : Parses lines_at lines
parses_lines = record {
  some = [];
  due = λ v. tt;
  sound = λ t v e. let w = lines_wholes.sound t v e in (w.1, w.0);
  complete = λ t v allowed shows. lines_wholes.complete t v allowed shows;
  alike = λ v w. tt;
  only = lines_only;
}

-- ---- items behind their numbers

item_wholes : {A : Type 0} {parse : Text → Option A} {show : A → Text} {Good : A → Type 0} (n : ℕ) → Wholes parse show Good → Wholes (item_at parse n) (λ a. digits n ++ (32 ∷ show a)) Good
item_wholes n p = wholes_behind (digits n) (wholes_behind (codes " ") p)

abbrev ConstantGood : Constant → Type 0
ConstantGood c = Allowed (constant 0 c)

abbrev IsConstant : Text → Constant → Type 0
IsConstant t c = (t ≡ constant_text c) × ConstantGood c

text_back : (t : Text) (c : Constant) (r : Option Text) → ((q : Text) → r ≡ Some q → (t ≡ quoted q) × AreBytes q) → (r &>= λ q. Some (Constant.Text q)) ≡ Some c → IsConstant t c
text_back t c None h e = absurd cc
text_back t c (Some q) h e = subst (IsConstant t) (the_same (Constant.Text q) c e) (h q refl)

number_back : (t : Text) (c : Constant) (r : Option ℤ) → ((z : ℤ) → r ≡ Some z → (t ≡ decimal_text z) × Within 9223372036854775809 9223372036854775808 z) → (r &>= λ z. Some (Constant.Number z)) ≡ Some c → IsConstant t c
number_back t c None h e = absurd cc
number_back t c (Some z) h e = let s = h z refl in subst (IsConstant t) (the_same (Constant.Number z) c e) (s.0, fits_from z s.1)

constant_back : (t : Text) (c : Constant) (d e f g : Bool) → bytes_eq t (codes "nil") ≡ d → bytes_eq t (codes "true") ≡ e → bytes_eq t (codes "false") ≡ f
    → cond d (Some Constant.Nil) (cond e (Some (Constant.Bool true)) (cond f (Some (Constant.Bool false)) (cond g (whole_quoted_at t &>= λ q. Some (Constant.Text q)) (whole_number_at t &>= λ z. Some (Constant.Number z))))) ≡ Some c → IsConstant t c
constant_back t c true e f g p q r h = subst (IsConstant t) (the_same Constant.Nil c h) (same_bytes t (codes "nil") p, tt)
constant_back t c false true f g p q r h = subst (IsConstant t) (the_same (Constant.Bool true) c h) (same_bytes t (codes "true") q, tt)
constant_back t c false false true g p q r h = subst (IsConstant t) (the_same (Constant.Bool false) c h) (same_bytes t (codes "false") r, tt)
constant_back t c false false false true p q r h = text_back t c (whole_quoted_at t) (whole_quoted.sound t) h
constant_back t c false false false false p q r h = number_back t c (whole_number_at t) (whole_numbers.sound t) h

number_there : (n : ℕ) → n < 10 ^ 64 → whole_number_at (decimal n) ≡ Some (pos n) → constant_at (decimal n) ≡ Some (Constant.Number (pos n))
unfolding constant_at
number_there n wide e =
    let f = first_of_decimal n wide in
    let no_nil : bytes_eq (decimal n) (codes "nil") ≡ false = rw (f.is, ne_eqb f.digit 110 (omega (arith, f.high))) refl in
    let no_true : bytes_eq (decimal n) (codes "true") ≡ false = rw (f.is, ne_eqb f.digit 116 (omega (arith, f.high))) refl in
    let no_false : bytes_eq (decimal n) (codes "false") ≡ false = rw (f.is, ne_eqb f.digit 102 (omega (arith, f.high))) refl in
    let no_quote : begins_quote (decimal n) ≡ false = rw (f.is, ne_eqb f.digit 34 (omega (arith, f.low))) refl in
    rw (no_nil, no_true, no_false, no_quote, e) refl

constant_there : (c : Constant) → ConstantGood c → constant_at (constant_text c) ≡ Some c
unfolding constant_at
constant_there Constant.Nil h = refl
constant_there (Constant.Bool true) h = refl
constant_there (Constant.Bool false) h = refl
constant_there (Constant.Number (pos n)) h =
    let w : n < 9223372036854775808 = fits_to (pos n) h in
    number_there n (omega arith) (whole_numbers.complete (decimal n) (pos n) w refl)
constant_there (Constant.Number (negsuc n)) h =
    let e : whole_number_at (decimal_text (negsuc n)) ≡ Some (negsuc n) = whole_numbers.complete (decimal_text (negsuc n)) (negsuc n) (fits_to (negsuc n) h) refl in
    rw e refl
constant_there (Constant.Text q) h =
    let e : whole_quoted_at (quoted q) ≡ Some q = whole_quoted.complete (quoted q) q h refl in
    rw e refl

constant_wholes : Wholes constant_at constant_text ConstantGood
unfolding constant_at
constant_wholes = record {
  sound = λ t c e. constant_back t c (bytes_eq t (codes "nil")) (bytes_eq t (codes "true")) (bytes_eq t (codes "false")) (begins_quote t) refl refl refl e;
  complete = λ t c good is. ap constant_at is ∙ constant_there c good;
}

constant_only : (n : ℕ) (v : Constant) (p : Place) → IsAlike (constant n v) p → (w : Constant) × (p ≡ constant n w)
constant_only n v (constant m w) h = (w, ap (λ k. constant k w) (sym h))
constant_only n v p h = absurd h

good_to : (n : ℕ) (c : Constant) → Allowed (constant n c) → ConstantGood c
good_to n Constant.Nil h = tt
good_to n (Constant.Bool b) h = tt
good_to n (Constant.Number z) h = h
good_to n (Constant.Text t) h = h

good_from : (n : ℕ) (c : Constant) → ConstantGood c → Allowed (constant n c)
good_from n Constant.Nil h = tt
good_from n (Constant.Bool b) h = tt
good_from n (Constant.Number z) h = h
good_from n (Constant.Text t) h = h

pub parses_constant : (n : ℕ) → Parses (item_at constant_at n) (λ c. constant n c)
parses_constant n = record {
  some = Constant.Nil;
  due = λ v. tt;
  sound = λ t v e. let w = (item_wholes n constant_wholes).sound t v e in (good_from n v w.1, w.0);
  complete = λ t v allowed shows. (item_wholes n constant_wholes).complete t v (good_to n v allowed) shows;
  alike = λ v w. refl;
  only = constant_only n;
}

-- ---- locals

abbrev LocalParts : Type 0
LocalParts = Text × (ℕ × ℕ)

abbrev local_of : LocalParts → LocVar
local_of p = record { name = p.0; start = p.1.0; end = p.1.1 }

abbrev LocalGood : LocVar → Type 0
LocalGood v = AreBytes v.name × (v.start < 2147483648) × (v.end < 2147483648)

takes_places : Takes (then_cut (spaced_at 2147483648) (λ start. spaced_at 2147483648)) (λ (p : Pair). spaced (p.0 ∷ p.1 ∷ [])) (λ p. (p.0 < 2147483648) × (p.1 < 2147483648))
takes_places = takes_shown (λ (p : Pair). spaced (p.0 ∷ p.1 ∷ [])) defined_text (takes_then int_spaced (λ n. int_spaced) (λ n. starts_spaced 2147483648))

local_parts : Wholes (whole (then_cut quoted_at (λ name. then_cut (spaced_at 2147483648) (λ start. spaced_at 2147483648)))) (λ (p : LocalParts). quoted p.0 ++ spaced (p.1.0 ∷ p.1.1 ∷ [])) (λ p. AreBytes p.0 × ((p.1.0 < 2147483648) × (p.1.1 < 2147483648)))
local_parts = whole_of (takes_then takes_quoted (λ t. takes_places) (λ t. record { no_digit = λ n rest good none. refl }))

local_back : (t : Text) (v : LocVar) (r : Option LocalParts) → ((p : LocalParts) → r ≡ Some p → (t ≡ quoted p.0 ++ spaced (p.1.0 ∷ p.1.1 ∷ [])) × (AreBytes p.0 × ((p.1.0 < 2147483648) × (p.1.1 < 2147483648)))) → (r &>= λ p. Some (local_of p)) ≡ Some v → (t ≡ local_text v) × LocalGood v
local_back t v None h e = absurd cc
local_back t v (Some p) h e = let s = h p refl in subst (λ v. (t ≡ local_text v) × LocalGood v) (the_same (local_of p) v e) (s.0, (s.1.0, s.1.1.0, s.1.1.1))

local_there : (v : LocVar) → LocalGood v → local_at (local_text v) ≡ Some v
unfolding local_at
local_there v good =
    let e = local_parts.complete (local_text v) (v.name, (v.start, v.end)) (good.0, (good.1, good.2)) refl in
    ap (λ (r : Option LocalParts). r &>= λ p. Some (local_of p)) e

local_wholes : Wholes local_at local_text LocalGood
unfolding local_at
local_wholes = record {
  sound = λ t v e. local_back t v (whole (then_cut quoted_at (λ name. then_cut (spaced_at 2147483648) (λ start. spaced_at 2147483648))) t) (local_parts.sound t) e;
  complete = λ t v good is. ap local_at is ∙ local_there v good;
}

local_only : (n : ℕ) (v : LocVar) (p : Place) → IsAlike (local n v) p → (w : LocVar) × (p ≡ local n w)
local_only n v (local m w) h = (w, ap (λ k. local k w) (sym h))
local_only n v p h = absurd h

pub parses_local : (n : ℕ) → Parses (item_at local_at n) (λ v. local n v)
parses_local n = record {
  some = local_of ([], (0, 0));
  due = λ v. tt;
  sound = λ t v e. let w = (item_wholes n local_wholes).sound t v e in (w.1, w.0);
  complete = λ t v allowed shows. (item_wholes n local_wholes).complete t v allowed shows;
  alike = λ v w. refl;
  only = local_only n;
}

upvalue_only : (n : ℕ) (v : Text) (p : Place) → IsAlike (upvalue_name n v) p → (w : Text) × (p ≡ upvalue_name n w)
upvalue_only n v (upvalue_name m w) h = (w, ap (λ k. upvalue_name k w) (sym h))
upvalue_only n v p h = absurd h

pub parses_upvalue : (n : ℕ) → Parses (item_at whole_quoted_at n) (λ t. upvalue_name n t)
parses_upvalue n = record {
  some = [];
  due = λ v. tt;
  sound = λ t v e. let w = (item_wholes n whole_quoted).sound t v e in (w.1, w.0);
  complete = λ t v allowed shows. (item_wholes n whole_quoted).complete t v allowed shows;
  alike = λ v w. refl;
  only = upvalue_only n;
}

-- ---- words

word_only : (raw : Bool) (pc : ℕ) (v : ℕ) (p : Place) → IsAlike (word raw pc v) p → (w : ℕ) × (p ≡ word raw pc w)
word_only raw pc v (word other at w) h = (w, λ i. word (sym h.0 i) (sym h.1 i) w)
word_only raw pc v p h = absurd h

pub parses_word : (raw : Bool) (pc : ℕ) → Parses (word_at raw pc) (λ w. word raw pc w)
parses_word raw pc = record {
  some = 0;
  due = λ v. tt;
  sound = λ t v e. let w = word_sound raw pc t v e in (w.0, w.1);
  complete = λ t v allowed shows. word_complete raw pc t v allowed shows;
  alike = λ v w. (refl, refl);
  only = word_only raw pc;
}
