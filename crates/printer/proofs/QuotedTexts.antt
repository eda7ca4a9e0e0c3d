-- A quoted text stands as a short string of that text, whatever follows.
use Rattle.std.proofs.Common.{◌≡◌, ℕ, ◌||◌, ◌<◌, ◌≤◌, ◌+◌, ◌/◌, ◌%◌, ◌==◌, nat_lt, nat_le, if◌then◌else◌, codes, flat_map, map, Bool, true, false, List, [], ◌∷◌, ◌++◌, refl, sym, ap, subst, ◌∙◌, inl, arith, append_assoc}
use Rattle.std.proofs.lemmas.Bool.Decides.{nat_tests}
use Rattle.lua_num.specs.Bytes.{is_digit, Each}
use Rattle.lua_num.specs.Numeral.{digits_value}
use Rattle.lua_num.proofs.Bytes.{each_join}
use Rattle.lua_tree.specs.Bytes.{ends_line}
use Rattle.lua_tree.specs.Strings.{Item, Plain, Escaped, Decimal, item_text, item_value, ItemFits, IsCode, items_text, items_value, ItemsFit, IsShort}
use Rattle.lister.specs.Listing.{three_digits, quoted_byte, quoted}

-- how a byte is printed, by what it is
abbrev is_marked : ℕ → Bool
is_marked byte = (byte == 34) || (byte == 92)

abbrev is_hidden : ℕ → Bool
is_hidden byte = nat_lt byte 32 || nat_lt 126 byte

abbrev item_by : (marked ends hidden : Bool) → ℕ → Item
item_by true ends hidden byte = Escaped byte
item_by false true hidden byte = Escaped 110
item_by false false true byte = Decimal (three_digits byte)
item_by false false false byte = Plain byte

abbrev pub item_of : ℕ → Item
item_of byte = item_by (is_marked byte) (byte == 10) (is_hidden byte) byte

text_by : (marked ends hidden : Bool) (byte : ℕ) → item_text (item_by marked ends hidden byte) ≡ (if marked then 92 ∷ byte ∷ [] else (if ends then codes "\\n" else (if hidden then 92 ∷ three_digits byte else byte ∷ [])))
text_by true ends hidden byte = refl
text_by false true hidden byte = refl
text_by false false true byte = refl
text_by false false false byte = refl

text_of_item : (byte : ℕ) → item_text (item_of byte) ≡ quoted_byte byte
text_of_item byte = text_by (is_marked byte) (byte == 10) (is_hidden byte) byte

-- ---- three digits

digit_of : (n : ℕ) → n < 10 → is_digit (48 + n) ≡ true
digit_of n small = grind (arith, nat_tests)

pub digits_of : (byte : ℕ) → byte < 256 → Each is_digit (three_digits byte)
digits_of byte small = (digit_of (byte / 100) (omega (arith, small)), (digit_of (byte / 10 % 10) (omega arith), (digit_of (byte % 10) (omega arith), tt)))

value_of : (byte : ℕ) → byte < 256 → digits_value (three_digits byte) ≡ byte
value_of byte small = omega (arith, small)

code_of : (byte : ℕ) (after : List ℕ) → byte < 256 → IsCode (three_digits byte) after
code_of byte after small = record { digits_are = digits_of byte small; some = omega arith; few = omega arith; all = λ less. absurd (omega (arith, less)) }

-- ---- items

value_by : (marked ends hidden : Bool) (byte : ℕ) → byte < 256 → is_marked byte ≡ marked → (byte == 10) ≡ ends → item_value (item_by marked ends hidden byte) ≡ byte
value_by true ends hidden byte small m e = escaped where
  escaped : item_value (Escaped byte) ≡ byte
  escaped = grind (arith, nat_tests)
value_by false true hidden byte small m e = ten where
  ten : 10 ≡ byte
  ten = grind (arith, nat_tests)
value_by false false true byte small m e = value_of byte small
value_by false false false byte small m e = refl

value_of_item : (byte : ℕ) → byte < 256 → item_value (item_of byte) ≡ byte
value_of_item byte small = value_by (is_marked byte) (byte == 10) (is_hidden byte) byte small refl refl

fits_by : (marked ends hidden : Bool) (byte : ℕ) (after : List ℕ) → byte < 256 → is_marked byte ≡ marked → (byte == 10) ≡ ends → is_hidden byte ≡ hidden → ItemFits 34 (item_by marked ends hidden byte) after
fits_by true ends hidden byte after small m e h = marked m where
  marked : is_marked byte ≡ true → (is_digit byte || ends_line byte) ≡ false
  marked m = grind (arith, nat_tests)
fits_by false true hidden byte after small m e h = refl
fits_by false false true byte after small m e h = (code_of byte after small, subst (λ n. n ≤ 255) (sym (value_of byte small)) (omega (arith, small)))
fits_by false false false byte after small m e h = plain m h where
  plain : is_marked byte ≡ false → is_hidden byte ≡ false → ((byte == 34) || (byte == 92) || ends_line byte) ≡ false
  plain m h = grind (arith, nat_tests)

fits_of_item : (byte : ℕ) (after : List ℕ) → byte < 256 → ItemFits 34 (item_of byte) after
fits_of_item byte after small = fits_by (is_marked byte) (byte == 10) (is_hidden byte) byte after small refl refl refl

below : (byte bound : ℕ) → nat_lt byte bound ≡ true → byte < bound
below byte bound e = grind (arith, nat_tests)

-- ---- the whole text

abbrev pub IsBytes : List ℕ → Type 0
IsBytes text = Each (λ byte. nat_lt byte 256) text

whole_of : (text after : List ℕ) → flat_map quoted_byte text ++ after ≡ items_text (map item_of text) after
whole_of [] after = refl
whole_of (byte ∷ text) after =
    append_assoc (quoted_byte byte) (flat_map quoted_byte text) after ∙ (ap (λ t. t ++ (flat_map quoted_byte text ++ after)) (sym (text_of_item byte)) ∙ ap (λ t. item_text (item_of byte) ++ t) (whole_of text after))

values_of : (text : List ℕ) → IsBytes text → text ≡ items_value (map item_of text)
values_of [] all = refl
values_of (byte ∷ text) all = ap (λ b. b ∷ text) (sym (value_of_item byte (below byte 256 all.0))) ∙ ap (λ t. item_value (item_of byte) ∷ t) (values_of text all.1)

fit_of : (text after : List ℕ) → IsBytes text → ItemsFit 34 (map item_of text) after
fit_of [] after all = tt
fit_of (byte ∷ text) after all = (fits_of_item byte (items_text (map item_of text) after) (below byte 256 all.0), fit_of text after all.1)

pub quoted_stands : (text after : List ℕ) → IsBytes text → IsShort (quoted text) after text
quoted_stands text after all = record {
  quote = 34;
  items = map item_of text;
  quoted = inl refl;
  whole = ap (λ t. 34 ∷ t) (whole_of text (34 ∷ []));
  fit = fit_of text (34 ∷ after) all;
  bytes_are = values_of text all;
}

-- ---- its bytes are visible

digit_visible : (byte : ℕ) → is_digit byte ≡ true → nat_le 32 byte ≡ true
digit_visible byte e = grind (arith, nat_tests)

visible_by : (marked ends hidden : Bool) (byte : ℕ) → byte < 256 → is_marked byte ≡ marked → is_hidden byte ≡ hidden → Each (nat_le 32) (item_text (item_by marked ends hidden byte))
visible_by true ends hidden byte small m h = (refl, (marked m, tt)) where
  marked : is_marked byte ≡ true → nat_le 32 byte ≡ true
  marked m = grind (arith, nat_tests)
visible_by false true hidden byte small m h = (refl, (refl, tt))
visible_by false false true byte small m h =
    let digits = digits_of byte small in
    (refl, (digit_visible (48 + byte / 100) digits.0, (digit_visible (48 + byte / 10 % 10) digits.1.0, (digit_visible (48 + byte % 10) digits.1.1.0, tt))))
visible_by false false false byte small m h = (plain h, tt) where
  plain : is_hidden byte ≡ false → nat_le 32 byte ≡ true
  plain h = grind (arith, nat_tests)

visible_byte : (byte : ℕ) → byte < 256 → Each (nat_le 32) (quoted_byte byte)
visible_byte byte small = subst (Each (nat_le 32)) (text_of_item byte) (visible_by (is_marked byte) (byte == 10) (is_hidden byte) byte small refl refl)

inside_visible : (text : List ℕ) → IsBytes text → Each (nat_le 32) (flat_map quoted_byte text)
inside_visible [] all = tt
inside_visible (byte ∷ text) all = each_join (nat_le 32) (quoted_byte byte) (flat_map quoted_byte text) (visible_byte byte (below byte 256 all.0)) (inside_visible text all.1)

pub quoted_visible : (text : List ℕ) → IsBytes text → Each (nat_le 32) (quoted text)
quoted_visible text all = (refl, each_join (nat_le 32) (flat_map quoted_byte text) (34 ∷ []) (inside_visible text all) (refl, tt))
