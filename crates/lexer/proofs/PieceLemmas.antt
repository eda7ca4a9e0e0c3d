-- Faults at the front of a text, and its first line.
use Rattle.std.proofs.Common.{◌≡◌, ◌&&◌, ◌||◌, ℕ, suc, ◌+◌, ◌<◌, ◌≤◌, Bool, true, false, not, None, List, [], ◌∷◌, ◌++◌, length, drop, refl, sym, ap, subst, ◌∙◌, ◌==◌, max, inl, inr, length-append, arith}
use Rattle.std.specs.Prelude.{codes, if◌then◌else◌}
use Rattle.std.proofs.lemmas.Bool.Decides.{nat_tests}
use Rattle.lua_num.specs.Numeral.{numeral_number}
use Rattle.lua_num.specs.Bytes.{is_digit, BeginsWith, BeginsWithout}
use Rattle.lua_tree.specs.Bytes.{is_numeral, ends_line, has_front, longest}
use Rattle.lua_tree.specs.Strings.{Item, item_text, items_text}
use Rattle.lua_tree.specs.Tokens.{marks, BeginsNumeral}
use Rattle.lua_tree.specs.Tiling.{IsBadNumber, IsBadByte, IsTooLarge}
use Rattle.lua_tree.proofs.BadBytes.{first_bytes, IsNone, none_passes, passes_not}
use Rattle.lexer.specs.declared.piece.PieceKind.{PieceKind}
use Rattle.lexer.specs.Fronts.{IsFront, RunFront}
use Rattle.lexer.specs.Classes.{begins, begins_numeral, begins_first_line, IsLeft}
use Rattle.lexer.specs.Pieces.{PieceFront}
use Rattle.lexer.proofs.FrontLemmas.{front_parts}

-- numerals
numeral_begins : (text : List ℕ) → begins_numeral text ≡ true → BeginsNumeral text
numeral_begins [] h = let no : false ≡ true = h in cc
numeral_begins (byte ∷ text) h = by (is_digit byte) refl
  where
    point : is_digit byte ≡ false → (byte ≡ 46) × (begins is_digit text ≡ true)
    point none = (grind (arith, nat_tests), grind (arith, nat_tests))

    after_point : (rest : List ℕ) → begins is_digit rest ≡ true → BeginsWith is_digit rest
    after_point [] e = let no : false ≡ true = e in cc
    after_point (next ∷ rest) e = e

    by : (b : Bool) → is_digit byte ≡ b → BeginsNumeral (byte ∷ text)
    by true e = inl e
    by false e = let both = point e in inr (both.0, after_point text both.1)

pub bad_number : (n : ℕ) (text taken : List ℕ) → begins_numeral text ≡ true → RunFront is_numeral n text → None ≡ numeral_number taken → ((front : List ℕ) → (after : List ℕ) → IsFront n text front after → taken ≡ front) → IsBadNumber text
bad_number n text taken first run none same = record {
  run = run.front;
  after = run.after;
  whole = run.is_front.whole;
  begins = numeral_begins text first;
  is_run = run.run;
  no_numeral = ap numeral_number (sym (same run.front run.after run.is_front)) ∙ sym none;
}

items_size : (items : List Item) (rest : List ℕ) → length (items_text items rest) ≡ length (items_text items []) + length rest
items_size [] rest = omega arith
items_size (item ∷ items) rest =
    let more = items_size items rest in
    let one = length-append (item_text item) (items_text items rest) in
    let none = length-append (item_text item) (items_text items []) in
    omega (arith, more, one, none)

-- the digits that are too large stand within the text
pub too_large_within : (text : List ℕ) (distance : ℕ) → IsTooLarge text distance → distance ≤ length text
too_large_within text distance is =
    let rest : List ℕ = codes "\\" ++ (is.digits ++ is.after) in
    let items = items_size is.items rest in
    let whole : length text ≡ suc (length (items_text is.items rest)) = ap length is.whole in
    let place = is.distance_is in
    omega (arith, items, whole, place)

-- the first line of a source
pub first_line_piece : (n : ℕ) (text : List ℕ) → begins_first_line 0 text ≡ true → RunFront (λ byte. not (ends_line byte)) n (drop 1 text) → PieceFront 0 text (record { kind = PieceKind.Comment; length = 1 + n })
first_line_piece n text first run =
    let hash : text ≡ codes "#" ++ drop 1 text = front_parts (codes "#") text first in
    let size = run.is_front.length_is in
    record {
      front = 35 ∷ run.front;
      after = run.after;
      is_front = record { whole = hash ∙ ap (λ t. 35 ∷ t) run.is_front.whole; length_is = omega (arith, size) };
      some = omega arith;
      piece_is = inr (inr (record { first = refl; body = run.front; whole = refl; run = run.run }));
    }

-- a byte that begins nothing
abbrev Avoids : List (List ℕ) → List ℕ → Type 0
Avoids [] text = Unit {0}
Avoids (word ∷ words) text = (0 < length word → has_front word text ≡ false) × Avoids words text

no_front : (front : Bool) (size others : ℕ) → max (if front then size else 0) others ≡ 0 → 0 < size → front ≡ false
no_front true size others none some = absurd (omega (arith, none, some))
no_front false size others none some = refl

no_others : (front : Bool) (size others : ℕ) → max (if front then size else 0) others ≡ 0 → others ≡ 0
no_others true size others none = omega (arith, none)
no_others false size others none = omega (arith, none)

avoids : (words : List (List ℕ)) (text : List ℕ) → longest words text ≡ 0 → Avoids words text
avoids [] text none = tt
avoids (word ∷ words) text none = (no_front (has_front word text) (length word) (longest words text) none, avoids words text (no_others (has_front word text) (length word) (longest words text) none))

differs : (c byte : ℕ) → ((c == byte) && true) ≡ false → byte ≡ c → ⊥
differs c byte h e = grind (arith, nat_tests)

digit_none : (byte : ℕ) (others : Bool) → (is_digit byte || others) ≡ false → is_digit byte ≡ false
digit_none byte others h = grind (arith, nat_tests)

no_equals : (after : List ℕ) → has_front (codes "=") after ≡ false → BeginsWithout (λ next. next == 61) after
no_equals [] h = tt
no_equals (next ∷ after) h = grind (arith, nat_tests)

no_quote_byte : (byte : ℕ) → ((byte == 34) || (byte == 39)) ≡ false → (byte ≡ 34 → ⊥) × (byte ≡ 39 → ⊥)
no_quote_byte byte h = (λ e. grind (arith, nat_tests), λ e. grind (arith, nat_tests))

no_tilde : (byte : ℕ) → (byte == 126) ≡ false → byte ≡ 126 → ⊥
no_tilde byte h e = grind (arith, nat_tests)

other_byte : (at byte : ℕ) (after : List ℕ) → IsLeft at (byte ∷ after) → Avoids marks (byte ∷ after) → (byte ≡ 126 → ⊥) → IsBadByte (byte ∷ after)
other_byte at byte after left none tilde =
    let plus : byte ≡ 43 → ⊥ = differs 43 byte (none.0 (omega arith)) in
    let minus : byte ≡ 45 → ⊥ = differs 45 byte (none.1.0 (omega arith)) in
    let star : byte ≡ 42 → ⊥ = differs 42 byte (none.1.1.0 (omega arith)) in
    let slash : byte ≡ 47 → ⊥ = differs 47 byte (none.1.1.1.0 (omega arith)) in
    let percent : byte ≡ 37 → ⊥ = differs 37 byte (none.1.1.1.1.0 (omega arith)) in
    let caret : byte ≡ 94 → ⊥ = differs 94 byte (none.1.1.1.1.1.0 (omega arith)) in
    let hash : byte ≡ 35 → ⊥ = differs 35 byte (none.1.1.1.1.1.1.0 (omega arith)) in
    let less : byte ≡ 60 → ⊥ = differs 60 byte (none.1.1.1.1.1.1.1.1.1.1.1.0 (omega arith)) in
    let greater : byte ≡ 62 → ⊥ = differs 62 byte (none.1.1.1.1.1.1.1.1.1.1.1.1.0 (omega arith)) in
    let equal : byte ≡ 61 → ⊥ = differs 61 byte (none.1.1.1.1.1.1.1.1.1.1.1.1.1.0 (omega arith)) in
    let open_paren : byte ≡ 40 → ⊥ = differs 40 byte (none.1.1.1.1.1.1.1.1.1.1.1.1.1.1.0 (omega arith)) in
    let close_paren : byte ≡ 41 → ⊥ = differs 41 byte (none.1.1.1.1.1.1.1.1.1.1.1.1.1.1.1.0 (omega arith)) in
    let open_brace : byte ≡ 123 → ⊥ = differs 123 byte (none.1.1.1.1.1.1.1.1.1.1.1.1.1.1.1.1.0 (omega arith)) in
    let close_brace : byte ≡ 125 → ⊥ = differs 125 byte (none.1.1.1.1.1.1.1.1.1.1.1.1.1.1.1.1.1.0 (omega arith)) in
    let open_bracket : byte ≡ 91 → ⊥ = differs 91 byte (none.1.1.1.1.1.1.1.1.1.1.1.1.1.1.1.1.1.1.0 (omega arith)) in
    let close_bracket : byte ≡ 93 → ⊥ = differs 93 byte (none.1.1.1.1.1.1.1.1.1.1.1.1.1.1.1.1.1.1.1.0 (omega arith)) in
    let semicolon : byte ≡ 59 → ⊥ = differs 59 byte (none.1.1.1.1.1.1.1.1.1.1.1.1.1.1.1.1.1.1.1.1.0 (omega arith)) in
    let colon : byte ≡ 58 → ⊥ = differs 58 byte (none.1.1.1.1.1.1.1.1.1.1.1.1.1.1.1.1.1.1.1.1.1.0 (omega arith)) in
    let comma : byte ≡ 44 → ⊥ = differs 44 byte (none.1.1.1.1.1.1.1.1.1.1.1.1.1.1.1.1.1.1.1.1.1.1.0 (omega arith)) in
    let dot : byte ≡ 46 → ⊥ = differs 46 byte (none.1.1.1.1.1.1.1.1.1.1.1.1.1.1.1.1.1.1.1.1.1.1.1.0 (omega arith)) in
    let quotes = no_quote_byte byte left.no_quote in
    let double : byte ≡ 34 → ⊥ = quotes.0 in
    let single : byte ≡ 39 → ⊥ = quotes.1 in
    let digit : is_digit byte ≡ false = digit_none byte _ left.no_numeral in
    let others : IsNone first_bytes byte = (double, (hash, (percent, (single, (open_paren, (close_paren, (star, (plus, (comma, (minus, (dot, (slash, (colon, (semicolon, (less, (equal, (greater, (open_bracket, (close_bracket, (caret, (open_brace, (close_brace, (tilde, tt))))))))))))))))))))))) in
    inl (passes_not byte (none_passes byte left.no_space left.no_word digit others))

tilde_front : (after : List ℕ) → has_front (codes "~=") (126 ∷ after) ≡ false → BeginsWithout (λ next. next == 61) after
tilde_front after h = no_equals after h

bad_byte : (at byte : ℕ) (after : List ℕ) → IsLeft at (byte ∷ after) → Avoids marks (byte ∷ after) → IsBadByte (byte ∷ after)
bad_byte at byte after left none = by (byte == 126) refl
  where
    tilde : (byte == 126) ≡ true → byte ≡ 126
    tilde e = grind (arith, nat_tests)

    by : (b : Bool) → (byte == 126) ≡ b → IsBadByte (byte ∷ after)
    by true e = inr (tilde e, tilde_front after (subst (λ c. has_front (codes "~=") (c ∷ after) ≡ false) (tilde e) (none.1.1.1.1.1.1.1.1.0 (omega arith))))
    by false e = other_byte at byte after left none (no_tilde byte e)

pub bad_byte_here : (at : ℕ) (text : List ℕ) → 0 < length text → IsLeft at text → longest marks text ≡ 0 → IsBadByte text
bad_byte_here at [] some left none = omega (arith, some)
bad_byte_here at (byte ∷ after) some left none = bad_byte at byte after left (avoids marks (byte ∷ after) none)
