-- A text has a cut into line ends and other bytes, with as many line ends as are counted byte by byte; what a long string means.
use Rattle.std.proofs.Common.{◌≡◌, ℕ, zero, suc, ◌+◌, ◌-◌, ◌<◌, ◌≤◌, ◌&&◌, not, ◌==◌, Bool, true, false, Option, None, Some, List, [], ◌∷◌, ◌++◌, length, min, take, drop, replicate, length-append, if◌then◌else◌, refl, sym, ap, subst, ◌∙◌, arith}
use Rattle.std.proofs.lemmas.List.{take-append-drop, length-take-le, length-replicate, drop_at, take_at}
use Rattle.lua_tree.specs.Bytes.{ends_line}
use Rattle.lua_tree.specs.Brackets.{opening, closing, IsLong, LongMeans}
use Rattle.lua_tree.specs.Lines.{Part, End, Other, text_of, IsCut, IsCutOf, line_end, end_count, plain, without_first_end, IsLineOf}
use Rattle.lexer.specs.Lines.{begins_end, open_next, open_after, ends_from, IsCounted, IsPlain, BeginsPlain}
use Rattle.lexer.specs.declared.lines.LineCounter.{LineCounter}

-- the text with the line end of one byte that is open before it
abbrev opened : Option ℕ → List ℕ → List ℕ
opened None text = text
opened (Some first) text = first ∷ text

abbrev IsOpen : Option ℕ → Type 0
IsOpen None = Unit {0}
IsOpen (Some first) = ends_line first ≡ true

-- the parts from a byte on: those where it is an open end, if it ends a line, or else the byte and the other parts
abbrev parts_from : Bool → ℕ → List Part → List Part → List Part
parts_from true byte open_parts parts = open_parts
parts_from false byte open_parts parts = Other byte ∷ parts

-- the same behind an open end, with which another byte that ends a line makes a pair
abbrev parts_after : Bool → Bool → ℕ → ℕ → List Part → List Part → List Part
parts_after true true first byte open_parts parts = End (first ∷ []) ∷ open_parts
parts_after true false first byte open_parts parts = End (first ∷ byte ∷ []) ∷ parts
parts_after false same first byte open_parts parts = End (first ∷ []) ∷ Other byte ∷ parts

-- the cut of a text and what is open before it
abbrev cut_from : Option ℕ → List ℕ → List Part
cut_from None [] = []
cut_from (Some first) [] = End (first ∷ []) ∷ []
cut_from None (byte ∷ text) = parts_from (ends_line byte) byte (cut_from (Some byte) text) (cut_from None text)
cut_from (Some first) (byte ∷ text) = parts_after (ends_line byte) (first == byte) first byte (cut_from (Some byte) text) (cut_from None text)

-- the parts make the text
text_of-parts_from : (ends : Bool) (byte : ℕ) (text : List ℕ) (open_parts parts : List Part) → text_of open_parts ≡ byte ∷ text → text_of parts ≡ text → text_of (parts_from ends byte open_parts parts) ≡ byte ∷ text
text_of-parts_from true byte text open_parts parts o p = o
text_of-parts_from false byte text open_parts parts o p = ap (λ t. byte ∷ t) p

text_of-parts_after : (ends same : Bool) (first byte : ℕ) (text : List ℕ) (open_parts parts : List Part) → text_of open_parts ≡ byte ∷ text → text_of parts ≡ text → text_of (parts_after ends same first byte open_parts parts) ≡ first ∷ byte ∷ text
text_of-parts_after true true first byte text open_parts parts o p = ap (λ t. first ∷ t) o
text_of-parts_after true false first byte text open_parts parts o p = ap (λ t. first ∷ byte ∷ t) p
text_of-parts_after false same first byte text open_parts parts o p = ap (λ t. first ∷ byte ∷ t) p

text_of-cut_from : (before : Option ℕ) (text : List ℕ) → text_of (cut_from before text) ≡ opened before text
text_of-cut_from None [] = refl
text_of-cut_from (Some first) [] = refl
text_of-cut_from None (byte ∷ text) = text_of-parts_from (ends_line byte) byte text _ _ (text_of-cut_from (Some byte) text) (text_of-cut_from None text)
text_of-cut_from (Some first) (byte ∷ text) = text_of-parts_after (ends_line byte) (first == byte) first byte text _ _ (text_of-cut_from (Some byte) text) (text_of-cut_from None text)

-- a line end is one byte where the next makes no pair with it, and two where it does
last_byte : (first : ℕ) → ends_line first ≡ true → 1 ≡ line_end (first ∷ [])
last_byte first h = rw h

one_byte : (first byte : ℕ) (text : List ℕ) → ends_line first ≡ true → (ends_line byte && not (first == byte)) ≡ false → 1 ≡ line_end (first ∷ byte ∷ text)
one_byte first byte text h n = rw (h, n)

two_bytes : (first byte : ℕ) (text : List ℕ) → ends_line first ≡ true → (ends_line byte && not (first == byte)) ≡ true → 2 ≡ line_end (first ∷ byte ∷ text)
two_bytes first byte text h n = rw (h, n)

-- the parts are cut from the left
IsCut-parts_from : (ends : Bool) (byte : ℕ) (open_parts parts : List Part) → ends_line byte ≡ ends → (ends_line byte ≡ true → IsCut open_parts) → IsCut parts → IsCut (parts_from ends byte open_parts parts)
IsCut-parts_from true byte open_parts parts e o p = o e
IsCut-parts_from false byte open_parts parts e o p = (e, p)

IsCut-parts_after : (ends same : Bool) (first byte : ℕ) (text : List ℕ) (open_parts parts : List Part) → ends_line first ≡ true → ends_line byte ≡ ends → (first == byte) ≡ same → text_of open_parts ≡ byte ∷ text → text_of parts ≡ text → (ends_line byte ≡ true → IsCut open_parts) → IsCut parts → IsCut (parts_after ends same first byte open_parts parts)
IsCut-parts_after true true first byte text open_parts parts h e s t u o p =
    (omega arith, one_byte first byte text h (rw (e, s)) ∙ ap (λ l. line_end (first ∷ l)) (sym t), o e)
IsCut-parts_after true false first byte text open_parts parts h e s t u o p =
    (omega arith, two_bytes first byte text h (rw (e, s)) ∙ ap (λ l. line_end (first ∷ byte ∷ l)) (sym u), p)
IsCut-parts_after false same first byte text open_parts parts h e s t u o p =
    (omega arith, one_byte first byte text h (rw e) ∙ ap (λ l. line_end (first ∷ byte ∷ l)) (sym u), (e, p))

IsCut-cut_from : (before : Option ℕ) (text : List ℕ) → IsOpen before → IsCut (cut_from before text)
IsCut-cut_from None [] h = tt
IsCut-cut_from (Some first) [] h = (omega arith, last_byte first h, tt)
IsCut-cut_from None (byte ∷ text) h = IsCut-parts_from (ends_line byte) byte _ _ refl (IsCut-cut_from (Some byte) text) (IsCut-cut_from None text tt)
IsCut-cut_from (Some first) (byte ∷ text) h =
    IsCut-parts_after (ends_line byte) (first == byte) first byte text _ _ h refl refl (text_of-cut_from (Some byte) text) (text_of-cut_from None text) (IsCut-cut_from (Some byte) text) (IsCut-cut_from None text tt)

-- the parts have as many line ends as begin in the text, and the open one
count_from : (ends : Bool) (byte : ℕ) (text : List ℕ) (open_parts parts : List Part) → end_count open_parts ≡ ends_from (Some byte) text + 1 → end_count parts ≡ ends_from None text + 0 → end_count (parts_from ends byte open_parts parts) ≡ (if ends then 1 else 0) + ends_from (if ends then Some byte else None) text + 0
count_from true byte text open_parts parts o p = omega (arith, o)
count_from false byte text open_parts parts o p = omega (arith, p)

count_after : (ends same : Bool) (first byte : ℕ) (text : List ℕ) (open_parts parts : List Part) → end_count open_parts ≡ ends_from (Some byte) text + 1 → end_count parts ≡ ends_from None text + 0 → end_count (parts_after ends same first byte open_parts parts) ≡ (if (ends && same) then 1 else 0) + ends_from (if (ends && same) then Some byte else None) text + 1
count_after true true first byte text open_parts parts o p = omega (arith, o)
count_after true false first byte text open_parts parts o p = omega (arith, p)
count_after false same first byte text open_parts parts o p = omega (arith, p)

end_count-cut_from : (before : Option ℕ) (text : List ℕ) → end_count (cut_from before text) ≡ ends_from before text + length (opened before [])
end_count-cut_from None [] = refl
end_count-cut_from (Some first) [] = refl
end_count-cut_from None (byte ∷ text) = count_from (ends_line byte) byte text _ _ (end_count-cut_from (Some byte) text) (end_count-cut_from None text)
end_count-cut_from (Some first) (byte ∷ text) = count_after (ends_line byte) (first == byte) first byte text _ _ (end_count-cut_from (Some byte) text) (end_count-cut_from None text)

abbrev pub cut_of : List ℕ → List Part
cut_of text = cut_from None text

pub cut_is : (text : List ℕ) → IsCutOf (cut_of text) text
cut_is text = record { cut = IsCut-cut_from None text tt; whole = sym (text_of-cut_from None text) }

pub end_count-cut_of : (text : List ℕ) → end_count (cut_of text) ≡ ends_from None text
end_count-cut_of text = omega (arith, end_count-cut_from None text)

-- a text ends on a line, and the inside of a long string means some bytes
pub a_line : (text : List ℕ) → (line : ℕ) × IsLineOf text line
a_line text = (min (end_count (cut_of text) + 1) 2147483647, record { parts = cut_of text; cut = cut_is text; line_is = refl })

pub a_meaning : (inside : List ℕ) → (bytes : List ℕ) × LongMeans inside bytes
a_meaning inside = (plain (without_first_end (cut_of inside)), record { parts = cut_of inside; cut = cut_is inside; bytes_are = refl })

-- what is counted of two texts, one after the other
open_after-append : (before : Option ℕ) (done text : List ℕ) → open_after before (done ++ text) ≡ open_after (open_after before done) text
open_after-append before [] text = refl
open_after-append before (byte ∷ done) text = open_after-append (open_next before byte) done text

ends_from-append : (before : Option ℕ) (done text : List ℕ) → ends_from before (done ++ text) ≡ ends_from before done + ends_from (open_after before done) text
ends_from-append before [] text = omega arith
ends_from-append before (byte ∷ done) text =
    let rest : ends_from (open_next before byte) (done ++ text) ≡ ends_from (open_next before byte) done + ends_from (open_after (open_next before byte) done) text = ends_from-append (open_next before byte) done text in
    omega (arith, rest)

pub counted_line : (counter : LineCounter) (done : List ℕ) → IsCounted done counter → IsLineOf done counter.line
counted_line counter done is = record { parts = cut_of done; cut = cut_is done; line_is = rw (end_count-cut_of done) is.line_is }

-- one byte more
pub counted_end : (counter : LineCounter) (done : List ℕ) (byte line : ℕ) → begins_end counter.open_end byte ≡ true → line ≡ min (counter.line + 1) 2147483647 → IsCounted done counter → IsCounted (done ++ byte ∷ []) (record { line = line; open_end = Some byte })
counted_end counter done byte line begins next is =
    let begins_here : begins_end (open_after None done) byte ≡ true = rw (← is.open_is) begins in
    let open_here : open_after None (done ++ byte ∷ []) ≡ Some byte = open_after-append None done (byte ∷ []) ∙ ap (λ b. if b then Some byte else None) begins_here in
    let ends_here : ends_from None (done ++ byte ∷ []) ≡ ends_from None done + 1 = ends_from-append None done (byte ∷ []) ∙ ap (λ b. ends_from None done + ((if b then 1 else 0) + 0)) begins_here in
    record { line_is = omega (arith, next, is.line_is, ends_here); open_is = sym open_here }

pub counted_other : (counter : LineCounter) (done : List ℕ) (byte : ℕ) → begins_end counter.open_end byte ≡ false → IsCounted done counter → IsCounted (done ++ byte ∷ []) (record { line = counter.line; open_end = None })
counted_other counter done byte begins is =
    let begins_here : begins_end (open_after None done) byte ≡ false = rw (← is.open_is) begins in
    let open_here : open_after None (done ++ byte ∷ []) ≡ None = open_after-append None done (byte ∷ []) ∙ ap (λ b. if b then Some byte else None) begins_here in
    let ends_here : ends_from None (done ++ byte ∷ []) ≡ ends_from None done + 0 = ends_from-append None done (byte ∷ []) ∙ ap (λ b. ends_from None done + ((if b then 1 else 0) + 0)) begins_here in
    record { line_is = omega (arith, is.line_is, ends_here); open_is = sym open_here }

-- texts with each line end as byte 10
pub plain_nothing : (text : List ℕ) → text ≡ [] → IsPlain text []
plain_nothing text empty = record { parts = []; cut = record { cut = tt; whole = empty }; bytes_are = refl }

-- one byte or two where a byte ends a line, and none where it does not
abbrev taken : Bool → Bool → ℕ
taken ends pair = if ends then (if pair then 2 else 1) else 0

none_taken : (ends pair : Bool) → taken ends pair ≡ 0 → ends ≡ false
none_taken true true e = absurd (omega (arith, e))
none_taken true false e = absurd (omega (arith, e))
none_taken false pair e = refl

few_taken : (ends pair : Bool) → taken ends pair ≤ 2
few_taken true true = omega arith
few_taken true false = omega arith
few_taken false pair = omega arith

one_taken : (ends : Bool) → (if ends then 1 else 0) ≤ 1
one_taken true = omega arith
one_taken false = omega arith

no_end : (byte : ℕ) (after : List ℕ) → line_end (byte ∷ after) ≡ 0 → ends_line byte ≡ false
no_end byte [] e = none_taken (ends_line byte) false e
no_end byte (next ∷ after) e = none_taken (ends_line byte) (ends_line next && not (byte == next)) e

pub begins_with_byte : (text : List ℕ) (byte : ℕ) (after : List ℕ) → line_end text ≡ 0 → text ≡ byte ∷ after → BeginsPlain text byte after
begins_with_byte text byte after none whole = λ bytes is. record {
  parts = Other byte ∷ is.parts;
  cut = record {
    cut = (no_end byte after (ap line_end (sym whole) ∙ none), is.cut.cut);
    whole = whole ∙ ap (λ t. byte ∷ t) is.cut.whole;
  };
  bytes_are = ap (λ t. byte ∷ t) is.bytes_are;
}

pub line_end_within : (text : List ℕ) → line_end text ≤ length text
line_end_within [] = omega arith
line_end_within (byte ∷ []) = one_taken (ends_line byte)
line_end_within (byte ∷ next ∷ text) = omega (arith, few_taken (ends_line byte) (ends_line next && not (byte == next)))

-- a line end at the front, before a cut of what follows
end_before : (n : ℕ) (text after : List ℕ) (parts : List Part) → 0 < n → n ≡ line_end text → after ≡ drop n text → IsCutOf parts after → IsCutOf (End (take n text) ∷ parts) text
end_before n text after parts some taken_is rest is =
    let whole : text ≡ take n text ++ text_of parts = sym (take-append-drop n text) ∙ ap (λ t. take n text ++ t) (sym rest ∙ is.whole) in
    let size : length (take n text) ≡ n = length-take-le n text (omega (arith, taken_is, line_end_within text)) in
    record { cut = (omega (arith, size, some), size ∙ (taken_is ∙ ap line_end whole), is.cut); whole = whole }

pub begins_with_end : (n : ℕ) (text after : List ℕ) → 0 < n → n ≡ line_end text → after ≡ drop n text → BeginsPlain text 10 after
begins_with_end n text after some taken_is rest = λ bytes is. record {
  parts = End (take n text) ∷ is.parts;
  cut = end_before n text after is.parts some taken_is rest is.cut;
  bytes_are = ap (λ t. 10 ∷ t) is.bytes_are;
}

-- what a long string means, by the text after a line end right at the front, or after none
no_first_end : (inside : List ℕ) (parts : List Part) → line_end inside ≡ 0 → IsCutOf parts inside → without_first_end parts ≡ parts
no_first_end inside [] none is = refl
no_first_end inside (End bytes ∷ parts) none is = absurd (let size : line_end inside ≡ length bytes = ap line_end is.whole ∙ sym is.cut.1 in omega (arith, size, none, is.cut.0))
no_first_end inside (Other byte ∷ parts) none is = refl

pub plain_meaning : (n : ℕ) (inside after bytes : List ℕ) → n ≡ line_end inside → after ≡ drop n inside → IsPlain after bytes → LongMeans inside bytes
plain_meaning zero inside after bytes none rest is =
    let cut : IsCutOf is.parts inside = record { cut = is.cut.cut; whole = sym rest ∙ is.cut.whole } in
    record { parts = is.parts; cut = cut; bytes_are = is.bytes_are ∙ ap plain (sym (no_first_end inside is.parts (sym none) cut)) }
plain_meaning (suc n) inside after bytes some rest is = record {
  parts = End (take (suc n) inside) ∷ is.parts;
  cut = end_before (suc n) inside after is.parts (omega arith) some rest is.cut;
  bytes_are = is.bytes_are;
}

-- the inside stands between two brackets of one length
length-signs : (level last : ℕ) → length (replicate level 61 ++ last ∷ []) ≡ level + 1
length-signs level last = let signs : List ℕ = replicate level 61 in let few : length signs ≡ level = length-replicate level 61 in omega (arith, length-append signs (last ∷ []), few)

length-opening : (level : ℕ) → length (opening level) ≡ level + 2
length-opening level = omega (arith, length-signs level 91)

length-closing : (level : ℕ) → length (closing level) ≡ level + 2
length-closing level = omega (arith, length-signs level 93)

inside_is : (level : ℕ) (inside text : List ℕ) → IsLong level inside text → take (length text - (level + 2) - (level + 2)) (drop (level + 2) text) ≡ inside
inside_is level inside text is =
    let size : length text ≡ length (opening level) + (length inside + length (closing level)) = ap length is.whole ∙ (length-append (opening level) (inside ++ closing level) ∙ ap (λ n. length (opening level) + n) (length-append inside (closing level))) in
    let taken_is : length inside ≡ length text - (level + 2) - (level + 2) = omega (arith, size, length-opening level, length-closing level) in
    let rest : drop (level + 2) text ≡ inside ++ closing level = ap (λ t. drop (level + 2) t) is.whole ∙ drop_at (opening level) (inside ++ closing level) (level + 2) (length-opening level) in
    ap (λ t. take (length text - (level + 2) - (level + 2)) t) rest ∙ take_at inside (closing level) (length text - (level + 2) - (level + 2)) taken_is

pub long_meaning : (level : ℕ) (inside text bytes : List ℕ) → IsLong level inside text → LongMeans (take (length text - (level + 2) - (level + 2)) (drop (level + 2) text)) bytes → LongMeans inside bytes
long_meaning level inside text bytes is means = subst (λ t. LongMeans t bytes) (inside_is level inside text is) means
