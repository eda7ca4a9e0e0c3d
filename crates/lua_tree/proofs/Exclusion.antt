-- No piece begins where a fault stands, one fault stands there, and so a text has tokens or a fault, and never both.
use Rattle.std.proofs.Common.{◌≡◌, ◌<◌, ◌⊎◌, ℕ, ◌+◌, Some, None, Bool, true, false, not, List, [], ◌∷◌, ◌++◌, length, refl, sym, ap, subst, ◌∙◌, append_assoc, inl, inr, arith}
use Rattle.std.specs.Prelude.{codes}
use Rattle.lua_num.specs.Numeral.{numeral_number}
use Rattle.lua_num.specs.Bytes.{BeginsWithout}
use Rattle.lua_tree.specs.declared.token.Token.{Token}
use Rattle.lua_tree.specs.Bytes.{is_numeral, ends_line, holds, longest}
use Rattle.lua_tree.specs.Brackets.{opening, closing, opens_long, IsLong}
use Rattle.lua_tree.specs.Strings.{Item, ItemsFit, IsQuote, IsShort, IsCode, items_text}
use Rattle.lua_tree.specs.Tokens.{marks}
use Rattle.lua_tree.specs.Tiling.{Piece, Comment, IsPiece, Cause, BadByte, UnfinishedString, UnfinishedLong, BadLongOpen, EscapeTooLarge, BadNumber, IsUnclosed, IsUnfinished, IsTooLarge, IsFault, Tile, Tiles, Lexes, Stops}
use Rattle.lua_tree.proofs.Cuts.{same_fronts}
use Rattle.lua_tree.proofs.LongBrackets.{true_false, one_run, SameOpening, same_openings, word_is_there}
use Rattle.lua_tree.proofs.Strings.{IsStop, quote_stops, end_stops, line_end_stops, backslash_stops, large_stops, SameItems, same_items, short_opened, quote_no_backslash, no_part_of_none}
use Rattle.lua_tree.proofs.Pieces.{Class, White, Word, Numeral, Quoted, Bracketed, Commented, Marked, class_of, SeenIn, Seen, piece_seen}
use Rattle.lua_tree.proofs.Tilings.{SamePiece, same_piece, long_opens, ends_opening_there, empty_no_cons, no_empty_piece, first_of}
use Rattle.lua_tree.proofs.Faults.{FaultIn, SeenFault, fault_seen}

-- where the items of an unfinished string end
quote_ends_no_line : (quote : ℕ) → IsQuote quote → ends_line quote ≡ false
quote_ends_no_line quote (inl is) = subst (λ q. ends_line q ≡ false) (sym is) refl
quote_ends_no_line quote (inr is) = subst (λ q. ends_line q ≡ false) (sym is) refl

line_end_here : (byte : ℕ) → not (ends_line byte) ≡ false → ends_line byte ≡ true
line_end_here byte h = by (ends_line byte) h
  where
    by : (b : Bool) → not b ≡ false → b ≡ true
    by true e = refl
    by false e = absurd (true_false e)

abbrev IsEnd : List ℕ → Type 0
IsEnd after = BeginsWithout (λ byte. not (ends_line byte)) after ⊎ (after ≡ codes "\\")

unfinished_stops : (quote : ℕ) (after : List ℕ) → IsEnd after → IsStop quote after
unfinished_stops quote [] (inl h) = end_stops quote
unfinished_stops quote (byte ∷ after) (inl h) = line_end_stops quote byte after (line_end_here byte h)
unfinished_stops quote after (inr e) = subst (λ t. IsStop quote t) (sym e) (backslash_stops quote)

no_quote_there : (quote : ℕ) (after rest : List ℕ) → IsQuote quote → IsEnd after → quote ∷ rest ≡ after → ⊥
no_quote_there quote [] rest is (inl h) e = empty_no_cons _ _ (sym e)
no_quote_there quote (byte ∷ after) rest is (inl h) e =
    let same : quote ≡ byte = first_of quote byte rest after e in
    true_false (sym (line_end_here byte h) ∙ (ap ends_line (sym same) ∙ quote_ends_no_line quote is))
no_quote_there quote after rest is (inr x) e = quote_no_backslash quote is (first_of quote 92 rest [] (e ∙ x))

no_large_there : (after digits rest : List ℕ) → IsCode digits rest → IsEnd after → after ≡ 92 ∷ (digits ++ rest) → ⊥
no_large_there [] digits rest code (inl h) e = empty_no_cons _ _ e
no_large_there (byte ∷ after) digits rest code (inl h) e =
    let same : byte ≡ 92 = first_of byte 92 after (digits ++ rest) e in
    true_false (sym (line_end_here byte h) ∙ ap ends_line same)
no_large_there after digits rest code (inr x) e =
    let whole : 92 ∷ [] ≡ 92 ∷ (digits ++ rest) = sym x ∙ e in
    let none : [] ≡ digits ++ rest = cc in
    no_part_of_none digits rest code.some none

-- items of two strings that begin the text, up to where none goes on
record SameInside (quote other : ℕ) (i j : List Item) (r s : List ℕ) : Type 0 where
  quotes : other ≡ quote
  items : i ≡ j
  rests : r ≡ s

same_inside : (quote other : ℕ) (i j : List Item) (r s : List ℕ) → IsStop quote r → IsStop other s → ItemsFit quote i r → ItemsFit other j s → quote ∷ items_text i r ≡ other ∷ items_text j s → SameInside quote other i j r s
same_inside quote other i j r s n m x y e =
    let quotes : other ≡ quote = sym (first_of quote other (items_text i r) (items_text j s) e) in
    let tails : items_text i r ≡ items_text j s = cc in
    let same : SameItems i j r s = same_items quote i j r s n (subst (λ q. IsStop q s) quotes m) x (subst (λ q. ItemsFit q j s) quotes y) tails in
    record { quotes = quotes; items = same.items; rests = same.rests }

short_no_unfinished : (text after bytes whole : List ℕ) → IsShort text after bytes → IsUnfinished whole → whole ≡ text ++ after → ⊥
short_no_unfinished text after bytes whole x y e =
    let same : SameInside x.quote y.quote x.items y.items (x.quote ∷ after) y.after = same_inside x.quote y.quote x.items y.items (x.quote ∷ after) y.after (quote_stops x.quote after x.quoted) (unfinished_stops y.quote y.after y.ended) x.fit y.fit (sym (short_opened text after bytes x) ∙ (sym e ∙ y.whole)) in
    no_quote_there x.quote y.after after x.quoted y.ended same.rests

short_no_large : (text after bytes whole : List ℕ) (distance : ℕ) → IsShort text after bytes → IsTooLarge whole distance → whole ≡ text ++ after → ⊥
short_no_large text after bytes whole distance x y e =
    let same : SameInside x.quote y.quote x.items y.items (x.quote ∷ after) (92 ∷ (y.digits ++ y.after)) = same_inside x.quote y.quote x.items y.items (x.quote ∷ after) (92 ∷ (y.digits ++ y.after)) (quote_stops x.quote after x.quoted) (large_stops y.quote y.digits y.after y.code y.large) x.fit y.fit (sym (short_opened text after bytes x) ∙ (sym e ∙ y.whole)) in
    quote_no_backslash x.quote x.quoted (first_of x.quote 92 after (y.digits ++ y.after) same.rests)

unfinished_no_large : (text : List ℕ) (distance : ℕ) → IsUnfinished text → IsTooLarge text distance → ⊥
unfinished_no_large text distance x y =
    let same : SameInside x.quote y.quote x.items y.items x.after (92 ∷ (y.digits ++ y.after)) = same_inside x.quote y.quote x.items y.items x.after (92 ∷ (y.digits ++ y.after)) (unfinished_stops x.quote x.after x.ended) (large_stops y.quote y.digits y.after y.code y.large) x.fit y.fit (sym x.whole ∙ y.whole) in
    no_large_there x.after y.digits y.after y.code x.ended same.rests

one_distance : (text : List ℕ) (a b : ℕ) → IsTooLarge text a → IsTooLarge text b → a ≡ b
one_distance text a b x y =
    let same : SameInside x.quote y.quote x.items y.items (92 ∷ (x.digits ++ x.after)) (92 ∷ (y.digits ++ y.after)) = same_inside x.quote y.quote x.items y.items (92 ∷ (x.digits ++ x.after)) (92 ∷ (y.digits ++ y.after)) (large_stops x.quote x.digits x.after x.code x.large) (large_stops y.quote y.digits y.after y.code y.large) x.fit y.fit (sym x.whole ∙ y.whole) in
    x.distance_is ∙ (ap (λ items. 1 + length (items_text items [])) same.items ∙ sym y.distance_is)

-- long brackets
long_no_unclosed : (level : ℕ) (inside text after whole : List ℕ) → IsLong level inside text → IsUnclosed [] whole → whole ≡ text ++ after → ⊥
long_no_unclosed level inside text after whole x y e =
    let opened : text ++ after ≡ opening level ++ (inside ++ (closing level ++ after)) = ap (λ t. t ++ after) x.whole ∙ (append_assoc (opening level) (inside ++ closing level) after ∙ ap (λ t. opening level ++ t) (append_assoc inside (closing level) after)) in
    let same : SameOpening level y.level (inside ++ (closing level ++ after)) y.after = same_openings level y.level _ _ (sym opened ∙ (sym e ∙ y.whole)) in
    let there : holds (closing level) y.after ≡ true = ap (holds (closing level)) (sym same.rests) ∙ word_is_there inside (closing level) after in
    let none : holds (closing level) y.after ≡ false = subst (λ l. holds (closing l) y.after ≡ false) (sym same.levels) y.no_closing in
    true_false (sym there ∙ none)

unclosed_opens : (level : ℕ) (after : List ℕ) → opens_long (opening level ++ after) ≡ true
unclosed_opens level after = ends_opening_there level after

minus_no_sign : ◌≡◌ {A = ℕ} 45 35 → ⊥
minus_no_sign e = omega (arith, e)

comment_no_unclosed : (at : ℕ) (text after whole : List ℕ) → IsPiece Comment at text after → IsUnclosed (codes "--") whole → whole ≡ text ++ after → ⊥
comment_no_unclosed at text after whole (inl x) y e =
    let bodies : 45 ∷ 45 ∷ (x.body ++ after) ≡ 45 ∷ 45 ∷ (opening y.level ++ y.after) = sym (ap (λ t. t ++ after) x.whole) ∙ (sym e ∙ y.whole) in
    let same : x.body ++ after ≡ opening y.level ++ y.after = cc in
    true_false (sym (ap opens_long same ∙ unclosed_opens y.level y.after) ∙ x.no_bracket)
comment_no_unclosed at text after whole (inr (inl x)) y e =
    let bodies : 45 ∷ 45 ∷ (x.body ++ after) ≡ 45 ∷ 45 ∷ (opening y.level ++ y.after) = sym (ap (λ t. t ++ after) x.whole) ∙ (sym e ∙ y.whole) in
    let same : opening y.level ++ y.after ≡ x.body ++ after = cc in
    long_no_unclosed x.level x.inside x.body after (opening y.level ++ y.after) x.long (record { level = y.level; after = y.after; whole = refl; no_closing = y.no_closing }) same
comment_no_unclosed at text after whole (inr (inr x)) y e =
    minus_no_sign (first_of 45 35 _ _ (sym y.whole ∙ (e ∙ ap (λ t. t ++ after) x.whole)))

-- no piece begins where a fault stands
stuck_in : (class : Class) (piece : Piece) (cause : Cause) (at : ℕ) (text after whole : List ℕ) (distance : ℕ) → SeenIn class piece at text after → FaultIn class cause whole distance → whole ≡ text ++ after → ⊥
stuck_in White piece cause at text after whole distance x y e = y
stuck_in Word piece cause at text after whole distance x y e = y
stuck_in Numeral piece cause at text after whole distance x y e =
    let same : y.0.run ≡ text = (one_run is_numeral y.0.run y.0.after text after y.0.is_run.each x.1.each y.0.is_run.longest x.1.longest (sym y.0.whole ∙ e)).fronts in
    let both : None ≡ Some x.0 = sym y.0.no_numeral ∙ (ap numeral_number same ∙ x.2) in
    cc
stuck_in Quoted piece cause at text after whole distance x (inl y) e = short_no_unfinished text after x.0 whole x.1 y.0 e
stuck_in Quoted piece cause at text after whole distance x (inr y) e = short_no_large text after x.0 whole distance x.1 y.0 e
stuck_in Bracketed piece cause at text after whole distance x (inl y) e = true_false (sym (ap opens_long e ∙ long_opens x.1 x.2 text after x.3) ∙ y.0.no_bracket)
stuck_in Bracketed piece cause at text after whole distance x (inr y) e = long_no_unclosed x.1 x.2 text after whole x.3 y.0 e
stuck_in Commented piece cause at text after whole distance x y e = comment_no_unclosed at text after whole x.0 y.0 e
stuck_in Marked piece cause at text after whole distance x y e =
    let none : length text ≡ 0 = sym x.1 ∙ (ap (longest marks) (sym e) ∙ y.0) in
    let some : 0 < length text = x.0 in
    omega (arith, none, some)

abbrev IsStuck : List ℕ → Type 0
IsStuck whole = (piece : Piece) (at : ℕ) (text after : List ℕ) → IsPiece piece at text after → whole ≡ text ++ after → ⊥

fault_is_stuck : (cause : Cause) (whole : List ℕ) (distance : ℕ) → IsFault cause whole distance → IsStuck whole
fault_is_stuck cause whole distance fault piece at text after is e =
    let one : Seen piece at text after = piece_seen piece text after at is in
    let two : SeenFault cause at whole distance = fault_seen cause at whole distance fault in
    let classes : two.class ≡ one.class = sym two.class_is ∙ (ap (class_of at) e ∙ one.class_is) in
    stuck_in one.class piece cause at text after whole distance one.seen (subst (λ c. FaultIn c cause whole distance) classes two.seen) e

end_is_stuck : IsStuck []
end_is_stuck piece at text after is e = no_empty_piece piece at text after is e

-- one fault stands there
record SameFault (cause other : Cause) (a b : ℕ) : Type 0 where
  causes : cause ≡ other
  distances : a ≡ b

same_fault_in : (class : Class) (cause other : Cause) (text : List ℕ) (a b : ℕ) → FaultIn class cause text a → FaultIn class other text b → SameFault cause other a b
same_fault_in White cause other text a b x y = absurd x
same_fault_in Word cause other text a b x y = absurd x
same_fault_in Numeral cause other text a b x y = record { causes = x.1 ∙ sym y.1; distances = x.2 ∙ sym y.2 }
same_fault_in Quoted cause other text a b (inl x) (inl y) = record { causes = x.1 ∙ sym y.1; distances = x.2 ∙ sym y.2 }
same_fault_in Quoted cause other text a b (inl x) (inr y) = absurd (unfinished_no_large text b x.0 y.0)
same_fault_in Quoted cause other text a b (inr x) (inl y) = absurd (unfinished_no_large text a y.0 x.0)
same_fault_in Quoted cause other text a b (inr x) (inr y) = record { causes = x.1 ∙ sym y.1; distances = one_distance text a b x.0 y.0 }
same_fault_in Bracketed cause other text a b (inl x) (inl y) = record { causes = x.1 ∙ sym y.1; distances = x.2 ∙ sym y.2 }
same_fault_in Bracketed cause other text a b (inl x) (inr y) = absurd (true_false (sym (ap opens_long y.0.whole ∙ unclosed_opens y.0.level y.0.after) ∙ x.0.no_bracket))
same_fault_in Bracketed cause other text a b (inr x) (inl y) = absurd (true_false (sym (ap opens_long x.0.whole ∙ unclosed_opens x.0.level x.0.after) ∙ y.0.no_bracket))
same_fault_in Bracketed cause other text a b (inr x) (inr y) = record { causes = x.1 ∙ sym y.1; distances = x.2 ∙ sym y.2 }
same_fault_in Commented cause other text a b x y = record { causes = x.1 ∙ sym y.1; distances = x.2 ∙ sym y.2 }
same_fault_in Marked cause other text a b x y = record { causes = x.1 ∙ sym y.1; distances = x.2 ∙ sym y.2 }

same_fault : (cause other : Cause) (text : List ℕ) (a b : ℕ) → IsFault cause text a → IsFault other text b → SameFault cause other a b
same_fault cause other text a b x y =
    let one : SeenFault cause 0 text a = fault_seen cause 0 text a x in
    let two : SeenFault other 0 text b = fault_seen other 0 text b y in
    let classes : two.class ≡ one.class = sym two.class_is ∙ one.class_is in
    same_fault_in one.class cause other text a b one.seen (subst (λ c. FaultIn c other text b) classes two.seen)

-- two tilings that end where no piece begins end at one place
tiles_meet : (ts us : List Tile) (at : ℕ) (text l m : List ℕ) → IsStuck l → IsStuck m → Tiles ts at text l → Tiles us at text m → l ≡ m
tiles_meet [] [] at text l m n k x y = sym x ∙ y
tiles_meet [] (u ∷ us) at text l m n k x y = absurd (n u.piece at u.text y.after y.is_piece (sym x ∙ y.whole))
tiles_meet (t ∷ ts) [] at text l m n k x y = absurd (k t.piece at t.text x.after x.is_piece (sym y ∙ x.whole))
tiles_meet (t ∷ ts) (u ∷ us) at text l m n k x y =
    let wholes : t.text ++ x.after ≡ u.text ++ y.after = sym x.whole ∙ y.whole in
    let same : SamePiece t.piece u.piece t.text u.text = same_piece t.piece u.piece at t.text x.after u.text y.after x.is_piece y.is_piece wholes in
    let afters : x.after ≡ y.after = (same_fronts t.text u.text x.after y.after wholes (ap length same.texts_are)).rests in
    let rest : Tiles us (at + length t.text) x.after m = subst (λ r. Tiles us (at + length t.text) r m) (sym afters) (subst (λ w. Tiles us (at + length w) y.after m) (sym same.texts_are) y.rest) in
    tiles_meet ts us (at + length t.text) x.after l m n k x.rest rest

no_fault_at_end : (cause : Cause) (distance : ℕ) → IsFault cause [] distance → ⊥
no_fault_at_end BadByte distance is = is.1
no_fault_at_end BadNumber distance is = is.1.begins
no_fault_at_end BadLongOpen distance is = true_false (sym is.1.front)
no_fault_at_end UnfinishedLong distance (inl is) = empty_no_cons _ _ is.1.whole
no_fault_at_end UnfinishedLong distance (inr is) = empty_no_cons _ _ is.1.whole
no_fault_at_end UnfinishedString distance is = empty_no_cons _ _ is.1.whole
no_fault_at_end EscapeTooLarge distance is = empty_no_cons _ _ is.whole

pub not_both : (bytes : List ℕ) (tokens : List Token) (cause : Cause) (at : ℕ) → Lexes bytes tokens → Stops bytes cause at → ⊥
not_both bytes tokens cause at x y =
    let met : y.left ≡ [] = tiles_meet y.tiles x.tiles 0 bytes y.left [] (fault_is_stuck cause y.left y.distance y.fault) end_is_stuck y.tiled x.tiled in
    no_fault_at_end cause y.distance (subst (λ t. IsFault cause t y.distance) met y.fault)

pub record SameStop (cause other : Cause) (a b : ℕ) : Type 0 where
  pub causes : cause ≡ other
  pub places : a ≡ b

pub one_stop : (bytes : List ℕ) (cause other : Cause) (a b : ℕ) → Stops bytes cause a → Stops bytes other b → SameStop cause other a b
one_stop bytes cause other a b x y =
    let met : x.left ≡ y.left = tiles_meet x.tiles y.tiles 0 bytes x.left y.left (fault_is_stuck cause x.left x.distance x.fault) (fault_is_stuck other y.left y.distance y.fault) x.tiled y.tiled in
    let same : SameFault cause other x.distance y.distance = same_fault cause other y.left x.distance y.distance (subst (λ t. IsFault cause t x.distance) met x.fault) y.fault in
    let sizes : length x.left ≡ length y.left = ap length met in
    let distances : x.distance ≡ y.distance = same.distances in
    record { causes = same.causes; places = omega (arith, x.at_is, y.at_is, sizes, distances) }
