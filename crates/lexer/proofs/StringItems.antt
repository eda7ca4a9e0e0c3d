-- The items between the quotes of a short string, so far.
use Rattle.std.proofs.Common.{◌≡◌, ℕ, ◌+◌, ◌-◌, ◌≤◌, Bool, true, false, not, List, [], ◌∷◌, ◌++◌, length, get_or, drop, refl, sym, ap, subst, ◌∙◌, inl, inr, append_assoc, arith, length-append}
use Rattle.std.proofs.Math.Seq.{drop-append_seam}
use Rattle.std.proofs.lemmas.Bool.Decides.{nat_tests}
use Rattle.std.proofs.lemmas.List.{append-nil, length-drop, drop-drop}
use Rattle.lua_num.specs.Bytes.{BeginsWith}
use Rattle.lua_tree.specs.Bytes.{ends_line}
use Rattle.lua_tree.specs.Strings.{Item, item_text, item_value, ItemFits, ItemsFit, items_text, items_value, IsQuote, IsShort}
use Rattle.lua_tree.proofs.Strings.{IsStop, quote_stops, end_stops, line_end_stops, backslash_stops, large_stops, SameItems, same_items, short_opened}
use Rattle.lexer.specs.declared.strings.StringPart.{StringPart}
use Rattle.lexer.specs.Fronts.{ShortFront}
use Rattle.lexer.specs.StringParts.{is_quote, HasItem, IsCutShort, PartIs}

-- these items stand before what is left
pub record IsPassed (quote : ℕ) (items : List Item) (text left : List ℕ) : Type 0 where
  pub whole : text ≡ items_text items left
  pub fit : ItemsFit quote items left

items_text_push : (items : List Item) (item : Item) (after : List ℕ) → items_text (items ++ item ∷ []) after ≡ items_text items (item_text item ++ after)
items_text_push [] item after = refl
items_text_push (first ∷ items) item after = ap (λ t. item_text first ++ t) (items_text_push items item after)

items_fit_push : (quote : ℕ) (items : List Item) (item : Item) (after : List ℕ) → ItemsFit quote items (item_text item ++ after) → ItemFits quote item after → ItemsFit quote (items ++ item ∷ []) after
items_fit_push quote [] item after fit fits = (fits, tt)
items_fit_push quote (first ∷ items) item after fit fits =
    (subst (ItemFits quote first) (sym (items_text_push items item after)) fit.0, items_fit_push quote items item after fit.1 fits)

items_value_push : (items : List Item) (item : Item) → items_value (items ++ item ∷ []) ≡ items_value items ++ item_value item ∷ []
items_value_push [] item = refl
items_value_push (first ∷ items) item = ap (λ v. item_value first ∷ v) (items_value_push items item)

-- what follows the items
items_then : (items : List Item) (front after : List ℕ) → items_text items (front ++ after) ≡ items_text items front ++ after
items_then [] front after = refl
items_then (item ∷ items) front after = ap (λ t. item_text item ++ t) (items_then items front after) ∙ sym (append_assoc (item_text item) (items_text items front) after)

passed_more : (quote : ℕ) (items : List Item) (item : Item) (text left after : List ℕ) → IsPassed quote items text left → left ≡ item_text item ++ after → ItemFits quote item after → IsPassed quote (items ++ item ∷ []) text after
passed_more quote items item text left after passed whole fits = record {
  whole = passed.whole ∙ (ap (items_text items) whole ∙ sym (items_text_push items item after));
  fit = items_fit_push quote items item after (subst (ItemsFit quote items) whole passed.fit) fits;
}

-- how far the items reach
pub record Reaches (quote at : ℕ) (text : List ℕ) : Type 0 where
  pub items : List Item
  pub passed : IsPassed quote items (drop 1 text) (drop at text)
  pub at_is : at ≡ 1 + length (items_text items [])
  pub within : at ≤ length text

items_length_push : (items : List Item) (item : Item) → length (items_text (items ++ item ∷ []) []) ≡ length (items_text items []) + length (item_text item)
items_length_push items item =
    let apart : items_text (items ++ item ∷ []) [] ≡ items_text items [] ++ item_text item = items_text_push items item [] ∙ (ap (items_text items) (append-nil (item_text item)) ∙ items_then items [] (item_text item)) in
    ap length apart ∙ length-append (items_text items []) (item_text item)

-- an item more
pub reaches_more : (quote at value size : ℕ) (text : List ℕ) → Reaches quote at text → HasItem quote value size (drop at text) → Reaches quote (at + size) text
reaches_more quote at value size text so_far has =
    let after_is : drop (at + size) text ≡ has.after = sym (drop-drop size at text) ∙ (ap (drop size) has.whole ∙ (ap (λ n. drop n (item_text has.item ++ has.after)) has.size_is ∙ drop-append_seam (item_text has.item) has.after)) in
    let sizes : length text - at ≡ length (item_text has.item) + length has.after = sym (length-drop at text) ∙ (ap length has.whole ∙ length-append (item_text has.item) has.after) in
    record {
      items = so_far.items ++ has.item ∷ [];
      passed = rw after_is (passed_more quote so_far.items has.item (drop 1 text) (drop at text) has.after so_far.passed has.whole has.fits);
      at_is = omega (arith, items_length_push so_far.items has.item, so_far.at_is, has.size_is);
      within = omega (arith, sizes, has.size_is, so_far.within);
    }

quote_is : (byte : ℕ) → is_quote byte ≡ true → IsQuote byte
quote_is byte h = grind (arith, nat_tests)

-- the text from its quote on
pub quoted_text : (text : List ℕ) → BeginsWith is_quote text → (text ≡ get_or text 0 0 ∷ drop 1 text) × IsQuote (get_or text 0 0)
quoted_text [] begins = absurd begins
quoted_text (byte ∷ text) begins = (refl, quote_is byte begins)

-- where the closing quote stands, the string is whole
pub short_closed : (at : ℕ) (text after : List ℕ) → BeginsWith is_quote text → Reaches (get_or text 0 0) at text → drop at text ≡ get_or text 0 0 ∷ after → ShortFront (at + 1) text
short_closed at text after begins so_far closed =
    let quote : ℕ = get_or text 0 0 in
    let items : List Item = so_far.items in
    let quoted = quoted_text text begins in
    let size : length (items_text items (quote ∷ [])) ≡ length (items_text items []) + 1 = ap length (items_then items [] (quote ∷ [])) ∙ length-append (items_text items []) (quote ∷ []) in
    record {
      front = quote ∷ items_text items (quote ∷ []);
      after = after;
      bytes = items_value items;
      is_front = record {
        whole = quoted.0 ∙ ap (λ t. quote ∷ t) (so_far.passed.whole ∙ (ap (items_text items) closed ∙ items_then items (quote ∷ []) after));
        length_is = omega (arith, size, so_far.at_is);
      };
      short = record {
        quote = quote;
        items = items;
        quoted = quoted.1;
        whole = refl;
        fit = subst (ItemsFit quote items) closed so_far.passed.fit;
        bytes_are = refl;
      };
    }

-- what the items so far mean
pub record Means (quote : ℕ) (bytes text left : List ℕ) : Type 0 where
  pub items : List Item
  pub passed : IsPassed quote items text left
  pub bytes_are : bytes ≡ items_value items

-- what follows an item
after_item : (size : ℕ) (left after front : List ℕ) → left ≡ front ++ after → size ≡ length front → drop size left ≡ after
after_item size left after front whole size_is = rw (whole, size_is) (drop-append_seam front after)

pub means_more : (quote value size : ℕ) (bytes text left : List ℕ) → Means quote bytes text left → HasItem quote value size left → Means quote (bytes ++ value ∷ []) text (drop size left)
means_more quote value size bytes text left so_far has = record {
  items = so_far.items ++ has.item ∷ [];
  passed = rw (after_item size left has.after (item_text has.item) has.whole has.size_is) (passed_more quote so_far.items has.item text left has.after so_far.passed has.whole has.fits);
  bytes_are = rw (so_far.bytes_are, has.value_is) (sym (items_value_push so_far.items has.item));
}

-- where no item stands, none begins
line_end_here : (byte : ℕ) → not (ends_line byte) ≡ false → ends_line byte ≡ true
line_end_here byte h = by (ends_line byte) h
  where
    by : (b : Bool) → not b ≡ false → b ≡ true
    by true e = refl
    by false e = cc

cut_short_stops : (quote : ℕ) (text : List ℕ) → IsCutShort text → IsStop quote text
cut_short_stops quote [] (inl h) = end_stops quote
cut_short_stops quote (byte ∷ text) (inl h) = line_end_stops quote byte text (line_end_here byte h)
cut_short_stops quote text (inr e) = subst (λ t. IsStop quote t) (sym e) (backslash_stops quote)

abbrev IsNoItem : StringPart → Type 0
IsNoItem part = (value size : ℕ) → part ≡ StringPart.Item value size → ⊥

pub part_stops : (quote : ℕ) (text : List ℕ) (part : StringPart) → IsQuote quote → PartIs quote text part → IsNoItem part → IsStop quote text
part_stops quote text (StringPart.Item value size) quoted is none = absurd (none value size refl)
part_stops quote text StringPart.Closed quoted is none = subst (λ t. IsStop quote t) (sym is.1) (quote_stops quote is.0 quoted)
part_stops quote text StringPart.Unfinished quoted is none = cut_short_stops quote text is
part_stops quote text StringPart.TooLarge quoted is none = subst (λ t. IsStop quote t) (sym is.whole) (large_stops quote is.digits is.after is.code is.large)

-- the items up to there are those of any short string at the front
pub short_means : (quote : ℕ) (text inside bytes left : List ℕ) (part : StringPart) → text ≡ quote ∷ inside → Means quote bytes inside left → PartIs quote left part → IsNoItem part
    → (front after others : List ℕ) → text ≡ front ++ after → IsShort front after others → bytes ≡ others
short_means quote text inside bytes left part whole so_far is none front after others parted short =
    let opened : quote ∷ inside ≡ short.quote ∷ items_text short.items (short.quote ∷ after) = sym whole ∙ (parted ∙ short_opened front after others short) in
    let quotes : short.quote ≡ quote = cc in
    let tails : inside ≡ items_text short.items (short.quote ∷ after) = cc in
    let quoted : IsQuote quote = subst IsQuote quotes short.quoted in
    let fit : ItemsFit quote short.items (short.quote ∷ after) = subst (λ q. ItemsFit q short.items (short.quote ∷ after)) quotes short.fit in
    let closed : IsStop quote (short.quote ∷ after) = subst (λ q. IsStop q (short.quote ∷ after)) quotes (quote_stops short.quote after short.quoted) in
    let same : SameItems so_far.items short.items left (short.quote ∷ after) = same_items quote so_far.items short.items left (short.quote ∷ after) (part_stops quote left part quoted is none) closed so_far.passed.fit fit (sym so_far.passed.whole ∙ tails) in
    so_far.bytes_are ∙ (ap items_value same.items ∙ sym short.bytes_are)
