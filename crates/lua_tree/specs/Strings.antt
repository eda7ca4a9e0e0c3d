-- To be believed. Short strings and their escapes (manual 2.1).
use Rattle.std.specs.Prelude.{◌≡◌, ◌||◌, ◌⊎◌, ℕ, ◌<◌, ◌≤◌, false, List, [], ◌∷◌, ◌++◌, length, ◌==◌, if◌then◌else◌}
use Rattle.lua_num.specs.Numeral.{digits_value}
use Rattle.lua_num.specs.Bytes.{is_digit, Each, BeginsWithout}
use Rattle.lua_tree.specs.Bytes.{ends_line}
use Rattle.lua_tree.specs.Lines.{line_end}

-- an item between quotes: a byte, an escaped byte, an escaped line end, or a backslash and decimal digits
pub data Item : Type 0 where
  Plain : ℕ → Item
  Escaped : ℕ → Item
  EscapedEnd : List ℕ → Item
  Decimal : List ℕ → Item

abbrev pub item_text : Item → List ℕ
item_text (Plain byte) = byte ∷ []
item_text (Escaped byte) = 92 ∷ byte ∷ []
item_text (EscapedEnd bytes) = 92 ∷ bytes
item_text (Decimal digits) = 92 ∷ digits

-- what an escaped byte stands for: `\a \b \f \n \r \t \v`, and any other for itself
abbrev pub escape_of : ℕ → ℕ
escape_of byte =
    if byte == 97 then 7 else (if byte == 98 then 8 else (if byte == 102 then 12 else (if byte == 110 then 10 else
    (if byte == 114 then 13 else (if byte == 116 then 9 else (if byte == 118 then 11 else byte))))))

abbrev pub item_value : Item → ℕ
item_value (Plain byte) = byte
item_value (Escaped byte) = escape_of byte
item_value (EscapedEnd bytes) = 10
item_value (Decimal digits) = digits_value digits

-- one to three decimal digits, as many as stand there up to three
pub record IsCode (digits after : List ℕ) : Type 0 where
  pub digits_are : Each is_digit digits
  pub some : 0 < length digits
  pub few : length digits ≤ 3
  pub all : length digits < 3 → BeginsWithout is_digit after

-- an item may stand between these quotes, before what follows
abbrev pub ItemFits : ℕ → Item → List ℕ → Type 0
ItemFits quote (Plain byte) after = ((byte == quote) || (byte == 92) || ends_line byte) ≡ false
ItemFits quote (Escaped byte) after = (is_digit byte || ends_line byte) ≡ false
ItemFits quote (EscapedEnd bytes) after = (0 < length bytes) × (length bytes ≡ line_end (bytes ++ after))
ItemFits quote (Decimal digits) after = IsCode digits after × (digits_value digits ≤ 255)

abbrev pub items_text : List Item → List ℕ → List ℕ
items_text [] after = after
items_text (item ∷ items) after = item_text item ++ items_text items after

abbrev pub items_value : List Item → List ℕ
items_value [] = []
items_value (item ∷ items) = item_value item ∷ items_value items

abbrev pub ItemsFit : ℕ → List Item → List ℕ → Type 0
ItemsFit quote [] after = Unit {0}
ItemsFit quote (item ∷ items) after = ItemFits quote item (items_text items after) × ItemsFit quote items after

-- `"` or `'`
abbrev pub IsQuote : ℕ → Type 0
IsQuote byte = (byte ≡ 34) ⊎ (byte ≡ 39)

-- a short string, whole, what follows it, and what it means
pub record IsShort (text after bytes : List ℕ) : Type 0 where
  pub quote : ℕ
  pub items : List Item
  pub quoted : IsQuote quote
  pub whole : text ≡ quote ∷ items_text items (quote ∷ [])
  pub fit : ItemsFit quote items (quote ∷ after)
  pub bytes_are : bytes ≡ items_value items
