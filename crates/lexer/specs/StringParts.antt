-- Serves the bodies. What stands at a place between the quotes of a short string.
use Rattle.std.specs.Prelude.{◌≡◌, ◌⊎◌, ◌||◌, ℕ, ◌<◌, Bool, not, List, ◌∷◌, ◌++◌, length, codes, ◌==◌}
use Rattle.lua_num.specs.Numeral.{digits_value}
use Rattle.lua_num.specs.Bytes.{BeginsWithout}
use Rattle.lua_tree.specs.Bytes.{ends_line}
use Rattle.lua_tree.specs.Strings.{Item, item_text, item_value, ItemFits, IsCode}
use Rattle.lua_tree.specs.Tiling.{IsUnfinished, IsTooLarge}
use Rattle.lexer.specs.declared.strings.StringFault.{StringFault}
use Rattle.lexer.specs.declared.strings.StringPart.{StringPart}

-- `"` or `'`, as a test
abbrev pub is_quote : ℕ → Bool
is_quote byte = (byte == 34) || (byte == 39)

-- what a fault of a short string says of the text from its quote on
abbrev pub StringFails : List ℕ → StringFault → Type 0
StringFails text StringFault.Unfinished = IsUnfinished text
StringFails text (StringFault.TooLarge distance) = IsTooLarge text distance

-- an item stands at the front, of so many bytes and with this value
pub record HasItem (quote value size : ℕ) (text : List ℕ) : Type 0 where
  pub item : Item
  pub after : List ℕ
  pub whole : text ≡ item_text item ++ after
  pub fits : ItemFits quote item after
  pub value_is : value ≡ item_value item
  pub size_is : size ≡ length (item_text item)

-- a backslash and decimal digits above 255 stand at the front
pub record HasLarge (text : List ℕ) : Type 0 where
  pub digits : List ℕ
  pub after : List ℕ
  pub whole : text ≡ codes "\\" ++ (digits ++ after)
  pub code : IsCode digits after
  pub large : 255 < digits_value digits

-- a line end, the end of the text, or a last backslash
abbrev pub IsCutShort : List ℕ → Type 0
IsCutShort text = BeginsWithout (λ byte. not (ends_line byte)) text ⊎ (text ≡ codes "\\")

-- what a part says of the text from its place on
abbrev pub PartIs : ℕ → List ℕ → StringPart → Type 0
PartIs quote text (StringPart.Item value size) = HasItem quote value size text
PartIs quote text StringPart.Closed = (after : List ℕ) × (text ≡ quote ∷ after)
PartIs quote text StringPart.Unfinished = IsCutShort text
PartIs quote text StringPart.TooLarge = HasLarge text
