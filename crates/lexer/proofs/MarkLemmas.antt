-- The longest mark at the front of a text, by the marks of one and of two bytes.
use Rattle.std.proofs.Common.{◌≡◌, ℕ, ◌<◌, ◌≤◌, Bool, true, false, List, [], ◌∷◌, ◌++◌, length, max, refl, sym, ap, ◌∙◌, drop, get_or, arith, rules}
use Rattle.std.specs.Prelude.{codes, if◌then◌else◌, nat_eq}
use Rattle.std.specs.List.{starts_with}
use Rattle.lua_tree.specs.Bytes.{has_front, longest}
use Rattle.lua_tree.specs.Tokens.{marks}
use Rattle.lua_tree.specs.declared.token.TokenKind.{TokenKind}
use Rattle.lexer.proofs.FrontLemmas.{and_false, front_test, front_parts}
use Rattle.lexer.specs.Marks.{IsMarkKind, MarkFront, double_marks, single_marks}

longest_both : (words others : List (List ℕ)) (text : List ℕ) → longest (words ++ others) text ≡ max (longest words text) (longest others text)
longest_both [] others text = omega arith
longest_both (word ∷ words) others text = let rest = longest_both words others text in omega (arith, rest)

abbrev first_marks : List (List ℕ)
first_marks = codes "+" ∷ codes "-" ∷ codes "*" ∷ codes "/" ∷ codes "%" ∷ codes "^" ∷ codes "#" ∷ []

abbrev equal_marks : List (List ℕ)
equal_marks = codes "==" ∷ codes "~=" ∷ codes "<=" ∷ codes ">=" ∷ []

abbrev other_marks : List (List ℕ)
other_marks = codes "<" ∷ codes ">" ∷ codes "=" ∷ codes "(" ∷ codes ")" ∷ codes "{" ∷ codes "}" ∷ codes "[" ∷ codes "]" ∷ codes ";" ∷ codes ":" ∷ codes "," ∷ codes "." ∷ []

abbrev dots : List (List ℕ)
dots = codes ".." ∷ []

abbrev triple_marks : List (List ℕ)
triple_marks = codes "..." ∷ []

regroup : (p q r d t : ℕ) → max p (max q (max r (max d t))) ≡ max (max p r) (max (max q d) t)
regroup p q r d t = omega arith

-- the longest mark, by length
by_length : (text : List ℕ) → longest marks text ≡ max (longest single_marks text) (max (longest double_marks text) (longest triple_marks text))
by_length text =
    let p = longest first_marks text in
    let q = longest equal_marks text in
    let r = longest other_marks text in
    let d = longest dots text in
    let t = longest triple_marks text in
    longest_both first_marks (equal_marks ++ (other_marks ++ (dots ++ triple_marks))) text
    ∙ (ap (max p) (longest_both equal_marks (other_marks ++ (dots ++ triple_marks)) text ∙ ap (max q) (longest_both other_marks (dots ++ triple_marks) text ∙ ap (max r) (longest_both dots triple_marks text)))
    ∙ (regroup p q r d t
    ∙ (ap (λ n. max n (max (max q d) t)) (sym (longest_both first_marks other_marks text)) ∙ ap (λ n. max (longest single_marks text) (max n t)) (sym (longest_both equal_marks dots text)))))

-- marks of one byte are short
abbrev AllShort : List (List ℕ) → Type 0
AllShort [] = Unit {0}
AllShort (word ∷ words) = (length word ≤ 1) × AllShort words

short_either : (b : Bool) (n m : ℕ) → n ≤ 1 → m ≤ 1 → max (if b then n else 0) m ≤ 1
short_either true n m x y = omega arith
short_either false n m x y = omega arith

short_longest : (words : List (List ℕ)) (text : List ℕ) → AllShort words → longest words text ≤ 1
short_longest [] text all = omega arith
short_longest (word ∷ words) text all = short_either (has_front word text) (length word) (longest words text) all.0 (short_longest words text all.1)

singles_short : AllShort single_marks
singles_short = search (rules, arith)

no_double : (a : ℕ) → longest double_marks (a ∷ []) ≡ 0
no_double a = simp and_false

no_triple : (a : ℕ) → longest triple_marks (a ∷ []) ≡ 0
no_triple a = simp and_false

triple_of : (text : List ℕ) → has_front (codes "...") text ≡ false → longest triple_marks text ≡ 0
triple_of text h = rw h

-- the longest mark of a text of one byte, and of a text of more that does not begin with `...`
only_one : (all one two three : ℕ) → all ≡ max one (max two three) → two ≡ 0 → three ≡ 0 → all ≡ one
only_one all one two three e x y = omega (arith, e, x, y)

pub one_byte : (a : ℕ) → longest marks (a ∷ []) ≡ longest single_marks (a ∷ [])
one_byte a = only_one _ _ _ _ (by_length (a ∷ [])) (no_double a) (no_triple a)

one_or_two : (all one two three : ℕ) → all ≡ max one (max two three) → three ≡ 0 → all ≡ max one two
one_or_two all one two three e x = omega (arith, e, x)

pub two_bytes : (a b : ℕ) (rest : List ℕ) → has_front (codes "...") (a ∷ b ∷ rest) ≡ false → longest marks (a ∷ b ∷ rest) ≡ max (longest single_marks (a ∷ [])) (longest double_marks (a ∷ b ∷ []))
two_bytes a b rest h = one_or_two _ (longest single_marks (a ∷ [])) (longest double_marks (a ∷ b ∷ [])) _ (by_length (a ∷ b ∷ rest)) (triple_of (a ∷ b ∷ rest) h)

pub one_first : (text : List ℕ) → 1 ≤ length text → text ≡ get_or text 0 0 ∷ drop 1 text
one_first [] h = absurd (omega (arith, h))
one_first (a ∷ text) h = refl

pub only_first : (text : List ℕ) → 1 ≤ length text → length text < 2 → text ≡ get_or text 0 0 ∷ []
only_first [] h l = absurd (omega (arith, h))
only_first (a ∷ []) h l = refl
only_first (a ∷ b ∷ text) h l = absurd (omega (arith, l))

pub two_first : (text : List ℕ) → 2 ≤ length text → text ≡ get_or text 0 0 ∷ get_or text 1 0 ∷ drop 2 text
two_first [] h = absurd (omega (arith, h))
two_first (a ∷ []) h = absurd (omega (arith, h))
two_first (a ∷ b ∷ text) h = refl

-- a mark at the front of a text
mark_front : (kind : TokenKind) (mark text after : List ℕ) → text ≡ mark ++ after → 0 < length mark → IsMarkKind mark kind → longest marks text ≡ length mark → MarkFront kind (length mark) text
mark_front kind mark text after whole some is long = record {
  front = mark;
  after = after;
  is_front = record { whole = whole; length_is = refl };
  some = some;
  mark = λ at place. is at after (record { text_is = refl; place = place; longest_is = ap (longest marks) (sym whole) ∙ long });
}

pub three_dots : (text : List ℕ) (started : Bool) → started ≡ starts_with nat_eq text (codes "...") → started ≡ true → MarkFront TokenKind.DotDotDot 3 text
three_dots text started value is =
    let there : has_front (codes "...") text ≡ true = sym (front_test (codes "...") text) ∙ (sym value ∙ is) in
    let whole : text ≡ codes "..." ++ drop 3 text = front_parts (codes "...") text there in
    mark_front TokenKind.DotDotDot (codes "...") text (drop 3 text) whole (omega arith) (λ at after h. h) (ap (longest marks) whole)

no_dots : (text : List ℕ) (started : Bool) → started ≡ starts_with nat_eq text (codes "...") → started ≡ false → has_front (codes "...") text ≡ false
no_dots text started value is = sym (front_test (codes "...") text) ∙ (sym value ∙ is)

module _ (text : List ℕ) (started : Bool) (value : started ≡ starts_with nat_eq text (codes "...")) (is : started ≡ false) (more : 2 ≤ length text) where
  abbrev a : ℕ
  a = get_or text 0 0

  abbrev b : ℕ
  b = get_or text 1 0

  longest_of : longest marks text ≡ max (longest single_marks (a ∷ [])) (longest double_marks (a ∷ b ∷ []))
  longest_of =
      let whole : text ≡ a ∷ b ∷ drop 2 text = two_first text more in
      let none : has_front (codes "...") (a ∷ b ∷ drop 2 text) ≡ false = ap (has_front (codes "...")) (sym whole) ∙ no_dots text started value is in
      ap (longest marks) whole ∙ two_bytes a b (drop 2 text) none

  pub two_front : (kind : TokenKind) → IsMarkKind (a ∷ b ∷ []) kind → longest double_marks (a ∷ b ∷ []) ≡ 2 → MarkFront kind 2 text
  two_front kind mark long =
      let all = longest_of in
      let few = short_longest single_marks (a ∷ []) singles_short in
      mark_front kind (a ∷ b ∷ []) text (drop 2 text) (two_first text more) (omega arith) mark (omega (arith, all, few, long))

  pub first_front : (kind : TokenKind) → IsMarkKind (a ∷ []) kind → longest single_marks (a ∷ []) ≡ 1 → longest double_marks (a ∷ b ∷ []) ≡ 0 → MarkFront kind 1 text
  first_front kind mark long none =
      let all = longest_of in
      mark_front kind (a ∷ []) text (drop 1 text) (one_first text (omega (arith, more))) (omega arith) mark (omega (arith, all, none, long))

  pub none_front : longest single_marks (a ∷ []) ≡ 0 → longest double_marks (a ∷ b ∷ []) ≡ 0 → longest marks text ≡ 0
  none_front one two = let all = longest_of in omega (arith, all, one, two)

pub none_only : (text : List ℕ) → 1 ≤ length text → length text < 2 → longest single_marks (get_or text 0 0 ∷ []) ≡ 0 → longest marks text ≡ 0
none_only text some few none = ap (longest marks) (only_first text some few) ∙ (one_byte (get_or text 0 0) ∙ none)
