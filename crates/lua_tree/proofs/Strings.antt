-- A text begins with one string at most.
use Rattle.std.proofs.Common.{◌≡◌, ◌||◌, ℕ, zero, suc, ◌<◌, ◌≤◌, true, false, List, [], ◌∷◌, ◌++◌, length, refl, sym, ap, subst, ◌∙◌, ◌==◌, append_assoc, arith}
use Rattle.std.proofs.lemmas.Bool.Decides.{nat_tests}
use Rattle.lua_num.specs.Numeral.{digits_value}
use Rattle.lua_num.specs.Bytes.{is_digit, Each, BeginsWithout}
use Rattle.lua_tree.specs.Bytes.{ends_line}
use Rattle.lua_tree.specs.Lines.{line_end}
use Rattle.lua_tree.specs.Strings.{Item, Plain, Escaped, EscapedEnd, Decimal, item_text, IsCode, ItemFits, ItemsFit, items_text, items_value, IsQuote, IsShort}
use Rattle.lua_tree.proofs.Cuts.{SameFronts, same_fronts, no_end_here}

-- decimal digits after a backslash are as many as stand there, up to a limit
no_more_digits : (limit : ℕ) (d e r s : List ℕ) → Each is_digit e → length e ≤ limit → (length d < limit → BeginsWithout is_digit r) → d ++ r ≡ e ++ s → length e ≤ length d
no_more_digits limit d [] r s each few all whole = omega arith
no_more_digits limit [] (x ∷ e) r s each few all whole =
    let without : BeginsWithout is_digit (x ∷ (e ++ s)) = subst (BeginsWithout is_digit) whole (all (omega (arith, few))) in
    let digit : is_digit x ≡ true = each.0 in
    let other : is_digit x ≡ false = without in
    absurd (let both : true ≡ false = sym digit ∙ other in cc)
no_more_digits zero (y ∷ d) (x ∷ e) r s each few all whole = absurd (omega (arith, few))
no_more_digits (suc limit) (y ∷ d) (x ∷ e) r s each few all whole =
    let tails : d ++ r ≡ e ++ s = cc in
    let less : length e ≤ length d = no_more_digits limit d e r s each.1 (omega (arith, few)) (λ l. all (omega (arith, l))) tails in
    omega (arith, less)

same_codes : (d e r s : List ℕ) → IsCode d r → IsCode e s → d ++ r ≡ e ++ s → SameFronts d e r s
same_codes d e r s a b whole =
    let x : length e ≤ length d = no_more_digits 3 d e r s b.digits_are b.few a.all whole in
    let y : length d ≤ length e = no_more_digits 3 e d s r a.digits_are a.few b.all (sym whole) in
    same_fronts d e r s whole (omega (arith, x, y))

record SameItem (i j : Item) (r s : List ℕ) : Type 0 where
  pub items : i ≡ j
  pub rests : r ≡ s

no_backslash : (quote byte : ℕ) → ((byte == quote) || (byte == 92) || ends_line byte) ≡ false → byte ≡ 92 → ⊥
no_backslash quote byte h e = grind (arith, nat_tests)

not_itself : (quote : ℕ) → ((quote == quote) || (quote == 92) || ends_line quote) ≡ false → ⊥
not_itself quote h = grind (arith, nat_tests)

digit_ends_no_line : (byte : ℕ) → is_digit byte ≡ true → ends_line byte ≡ false
digit_ends_no_line byte h = grind (arith, nat_tests)

escaped_no_end : (byte : ℕ) → (is_digit byte || ends_line byte) ≡ false → ends_line byte ≡ false
escaped_no_end byte h = grind (arith, nat_tests)

escaped_no_digit : (byte : ℕ) → (is_digit byte || ends_line byte) ≡ false → is_digit byte ≡ true → ⊥
escaped_no_digit byte h d = grind (arith, nat_tests)

pub quote_no_backslash : (quote : ℕ) → IsQuote quote → quote ≡ 92 → ⊥
quote_no_backslash quote is e = grind arith

no_byte : 0 < 0 → ⊥
no_byte h = omega (arith, h)

-- the first digit of a code
no_code : (byte : ℕ) (text d r : List ℕ) → (is_digit byte ≡ true → ⊥) → IsCode d r → byte ∷ text ≡ d ++ r → ⊥
no_code byte text [] r h code e = no_byte code.some
no_code byte text (x ∷ d) r h code e = let same : x ≡ byte = cc in h (subst (λ b. is_digit b ≡ true) same code.digits_are.0)

no_end_code : (bytes r d s : List ℕ) → 0 < length bytes → length bytes ≡ line_end (bytes ++ r) → IsCode d s → bytes ++ r ≡ d ++ s → ⊥
no_end_code bytes r [] s some whole code e = no_byte code.some
no_end_code bytes r (x ∷ d) s some whole code e = no_end_here x (d ++ s) bytes r (digit_ends_no_line x code.digits_are.0) some whole (sym e)

same_item : (quote : ℕ) (i j : Item) (r s : List ℕ) → ItemFits quote i r → ItemFits quote j s → item_text i ++ r ≡ item_text j ++ s → SameItem i j r s
same_item quote (Plain a) (Plain b) r s x y e = let heads : a ≡ b = cc in record { items = ap Plain heads; rests = cc }
same_item quote (Plain a) (Escaped b) r s x y e = absurd (no_backslash quote a x (cc))
same_item quote (Plain a) (EscapedEnd b) r s x y e = absurd (no_backslash quote a x (cc))
same_item quote (Plain a) (Decimal b) r s x y e = absurd (no_backslash quote a x (cc))
same_item quote (Escaped a) (Plain b) r s x y e = absurd (no_backslash quote b y (cc))
same_item quote (Escaped a) (Escaped b) r s x y e = let heads : a ≡ b = cc in record { items = ap Escaped heads; rests = cc }
same_item quote (Escaped a) (EscapedEnd b) r s x y e =
    let tails : a ∷ r ≡ b ++ s = cc in
    absurd (no_end_here a r b s (escaped_no_end a x) y.0 y.1 tails)
same_item quote (Escaped a) (Decimal b) r s x y e =
    let tails : a ∷ r ≡ b ++ s = cc in
    absurd (no_code a r b s (escaped_no_digit a x) y.0 tails)
same_item quote (EscapedEnd a) (Plain b) r s x y e = absurd (no_backslash quote b y (cc))
same_item quote (EscapedEnd a) (Escaped b) r s x y e =
    let tails : b ∷ s ≡ a ++ r = cc in
    absurd (no_end_here b s a r (escaped_no_end b y) x.0 x.1 tails)
same_item quote (EscapedEnd a) (EscapedEnd b) r s x y e =
    let tails : a ++ r ≡ b ++ s = cc in
    let same : SameFronts a b r s = same_fronts a b r s tails (x.1 ∙ (ap line_end tails ∙ sym y.1)) in
    record { items = ap EscapedEnd same.fronts; rests = same.rests }
same_item quote (EscapedEnd a) (Decimal b) r s x y e =
    let tails : a ++ r ≡ b ++ s = cc in
    absurd (no_end_code a r b s x.0 x.1 y.0 tails)
same_item quote (Decimal a) (Plain b) r s x y e = absurd (no_backslash quote b y (cc))
same_item quote (Decimal a) (Escaped b) r s x y e =
    let tails : b ∷ s ≡ a ++ r = cc in
    absurd (no_code b s a r (escaped_no_digit b y) x.0 tails)
same_item quote (Decimal a) (EscapedEnd b) r s x y e =
    let tails : b ++ s ≡ a ++ r = cc in
    absurd (no_end_code b s a r y.0 y.1 x.0 tails)
same_item quote (Decimal a) (Decimal b) r s x y e =
    let tails : a ++ r ≡ b ++ s = cc in
    let same : SameFronts a b r s = same_codes a b r s x.0 y.0 tails in
    record { items = ap Decimal same.fronts; rests = same.rests }

-- no item begins here
abbrev pub IsStop : ℕ → List ℕ → Type 0
IsStop quote r = (item : Item) (s : List ℕ) → ItemFits quote item s → r ≡ item_text item ++ s → ⊥

pub quote_stops : (quote : ℕ) (text : List ℕ) → IsQuote quote → IsStop quote (quote ∷ text)
quote_stops quote text is (Plain a) r x e = let same : a ≡ quote = cc in not_itself quote (subst (λ b. ((b == quote) || (b == 92) || ends_line b) ≡ false) same x)
quote_stops quote text is (Escaped a) r x e = quote_no_backslash quote is (cc)
quote_stops quote text is (EscapedEnd a) r x e = quote_no_backslash quote is (cc)
quote_stops quote text is (Decimal a) r x e = quote_no_backslash quote is (cc)

pub end_stops : (quote : ℕ) → IsStop quote []
end_stops quote (Plain a) r x e = cc
end_stops quote (Escaped a) r x e = cc
end_stops quote (EscapedEnd a) r x e = cc
end_stops quote (Decimal a) r x e = cc

line_end_is_no_backslash : (byte : ℕ) → ends_line byte ≡ true → byte ≡ 92 → ⊥
line_end_is_no_backslash byte h e = grind (arith, nat_tests)

not_plain : (quote byte : ℕ) → ends_line byte ≡ true → ((byte == quote) || (byte == 92) || ends_line byte) ≡ false → ⊥
not_plain quote byte h x = grind (arith, nat_tests)

pub line_end_stops : (quote byte : ℕ) (text : List ℕ) → ends_line byte ≡ true → IsStop quote (byte ∷ text)
line_end_stops quote byte text h (Plain a) r x e = let same : a ≡ byte = cc in not_plain quote byte h (subst (λ b. ((b == quote) || (b == 92) || ends_line b) ≡ false) same x)
line_end_stops quote byte text h (Escaped a) r x e = line_end_is_no_backslash byte h (cc)
line_end_stops quote byte text h (EscapedEnd a) r x e = line_end_is_no_backslash byte h (cc)
line_end_stops quote byte text h (Decimal a) r x e = line_end_is_no_backslash byte h (cc)

pub no_part_of_none : (bytes r : List ℕ) → 0 < length bytes → [] ≡ bytes ++ r → ⊥
no_part_of_none [] r some e = no_byte some
no_part_of_none (byte ∷ bytes) r some e = cc

pub backslash_stops : (quote : ℕ) → IsStop quote (92 ∷ [])
backslash_stops quote (Plain a) r x e = no_backslash quote a x (cc)
backslash_stops quote (Escaped a) r x e = cc
backslash_stops quote (EscapedEnd a) r x e = no_part_of_none a r x.0 (cc)
backslash_stops quote (Decimal a) r x e = no_part_of_none a r x.0.some (cc)

pub large_stops : (quote : ℕ) (d text : List ℕ) → IsCode d text → 255 < digits_value d → IsStop quote (92 ∷ (d ++ text))
large_stops quote d text code large (Plain a) r x e = no_backslash quote a x (cc)
large_stops quote d text code large (Escaped a) r x e =
    let tails : a ∷ r ≡ d ++ text = cc in
    no_code a r d text (escaped_no_digit a x) code tails
large_stops quote d text code large (EscapedEnd a) r x e =
    let tails : a ++ r ≡ d ++ text = cc in
    no_end_code a r d text x.0 x.1 code tails
large_stops quote d text code large (Decimal a) r x e =
    let tails : d ++ text ≡ a ++ r = cc in
    let same : d ≡ a = (same_codes d a text r code x.0 tails).fronts in
    let small : digits_value d ≤ 255 = subst (λ digits. digits_value digits ≤ 255) (sym same) x.1 in
    omega (arith, small, large)

pub record SameItems (i j : List Item) (r s : List ℕ) : Type 0 where
  pub items : i ≡ j
  pub rests : r ≡ s

pub same_items : (quote : ℕ) (i j : List Item) (r s : List ℕ) → IsStop quote r → IsStop quote s → ItemsFit quote i r → ItemsFit quote j s → items_text i r ≡ items_text j s → SameItems i j r s
same_items quote [] [] r s n m x y e = record { items = refl; rests = e }
same_items quote [] (b ∷ j) r s n m x y e = absurd (n b (items_text j s) y.0 e)
same_items quote (a ∷ i) [] r s n m x y e = absurd (m a (items_text i r) x.0 (sym e))
same_items quote (a ∷ i) (b ∷ j) r s n m x y e =
    let one : SameItem a b (items_text i r) (items_text j s) = same_item quote a b _ _ x.0 y.0 e in
    let rest : SameItems i j r s = same_items quote i j r s n m x.1 y.1 one.rests in
    let heads : a ≡ b = one.items in
    let tails : i ≡ j = rest.items in
    record { items = cc; rests = rest.rests }

pub record SameString (text other bytes others : List ℕ) : Type 0 where
  pub texts : text ≡ other
  pub bytes_are : bytes ≡ others

-- what follows the items
items_then : (items : List Item) (front after : List ℕ) → items_text items (front ++ after) ≡ items_text items front ++ after
items_then [] front after = refl
items_then (item ∷ items) front after = ap (λ t. item_text item ++ t) (items_then items front after) ∙ sym (append_assoc (item_text item) (items_text items front) after)

pub short_opened : (text after bytes : List ℕ) (x : IsShort text after bytes) → text ++ after ≡ x.quote ∷ items_text x.items (x.quote ∷ after)
short_opened text after bytes x = ap (λ t. t ++ after) x.whole ∙ sym (ap (λ t. x.quote ∷ t) (items_then x.items (x.quote ∷ []) after))

pub shorts_are_one : (text after bytes other follows others : List ℕ) → IsShort text after bytes → IsShort other follows others → text ++ after ≡ other ++ follows → SameString text other bytes others
shorts_are_one text after bytes other follows others x y e =
    let wholes : x.quote ∷ items_text x.items (x.quote ∷ after) ≡ y.quote ∷ items_text y.items (y.quote ∷ follows) = sym (short_opened text after bytes x) ∙ (e ∙ short_opened other follows others y) in
    let quotes : y.quote ≡ x.quote = cc in
    let tails : items_text x.items (x.quote ∷ after) ≡ items_text y.items (y.quote ∷ follows) = cc in
    let fit : ItemsFit x.quote y.items (x.quote ∷ follows) = subst (λ q. ItemsFit q y.items (q ∷ follows)) quotes y.fit in
    let same : SameItems x.items y.items (x.quote ∷ after) (x.quote ∷ follows) = same_items x.quote x.items y.items _ _ (quote_stops x.quote after x.quoted) (quote_stops x.quote follows x.quoted) x.fit fit (tails ∙ ap (λ q. items_text y.items (q ∷ follows)) quotes) in
    let items : x.items ≡ y.items = same.items in
    record {
      texts = x.whole ∙ (ap (λ i. x.quote ∷ items_text i (x.quote ∷ [])) items ∙ (ap (λ q. q ∷ items_text y.items (q ∷ [])) (sym quotes) ∙ sym y.whole));
      bytes_are = x.bytes_are ∙ (ap items_value items ∙ sym y.bytes_are);
    }
