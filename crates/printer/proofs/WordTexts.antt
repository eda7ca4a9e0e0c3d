-- Words stand as tokens where no byte of a word follows.
use Rattle.std.proofs.Common.{◌≡◌, ℕ, ◌||◌, ◌&&◌, not, Bool, true, false, List, [], ◌∷◌, refl, sym, ap, true≢false}
use Rattle.std.specs.List.{list_all}
use Rattle.lua_num.specs.Bytes.{is_digit, Each, BeginsWith, BeginsWithout}
use Rattle.lua_num.proofs.Bytes.{each_passed}
use Rattle.lua_tree.specs.Bytes.{is_letter, is_word, is_among}
use Rattle.lua_tree.specs.Names.{is_name}
use Rattle.lua_tree.specs.Tokens.{IsKeyword, IsName, keywords}

pub left_true : (a b : Bool) → (a && b) ≡ true → a ≡ true
left_true true b e = refl
left_true false b e = absurd (true≢false (sym e))

pub right_true : (a b : Bool) → (a && b) ≡ true → b ≡ true
right_true true b e = e
right_true false b e = absurd (true≢false (sym e))

not_true : (a : Bool) → not a ≡ true → a ≡ false
not_true true e = sym e
not_true false e = refl

pub keyword : (word after : List ℕ) → BeginsWith is_letter word → list_all is_word word ≡ true → BeginsWithout is_word after → IsKeyword word word after
keyword word after begins all follows = record { text_is = refl; is_word = record { begins = begins; run = record { each = each_passed is_word word all; longest = follows } } }

-- a name is a word and no keyword
pub record NameParts (byte : ℕ) (text : List ℕ) : Type 0 where
  pub letter : is_letter byte ≡ true
  pub words : list_all is_word text ≡ true
  pub no_keyword : is_among keywords (byte ∷ text) ≡ false

pub name_parts : (byte : ℕ) (text : List ℕ) → is_name (byte ∷ text) ≡ true → NameParts byte text
name_parts byte text e =
    let others = right_true (is_letter byte) (list_all is_word text && not (is_among keywords (byte ∷ text))) e in
    record {
      letter = left_true (is_letter byte) (list_all is_word text && not (is_among keywords (byte ∷ text))) e;
      words = left_true (list_all is_word text) (not (is_among keywords (byte ∷ text))) others;
      no_keyword = not_true (is_among keywords (byte ∷ text)) (right_true (list_all is_word text) (not (is_among keywords (byte ∷ text))) others);
    }

letter_word : (byte : ℕ) → is_letter byte ≡ true → is_word byte ≡ true
letter_word byte e = ap (λ b. b || is_digit byte) e

pub name_words : (name : List ℕ) → is_name name ≡ true → Each is_word name
name_words [] e = tt
name_words (byte ∷ text) e = let parts = name_parts byte text e in (letter_word byte parts.letter, each_passed is_word text parts.words)

pub name_stands : (name after : List ℕ) → is_name name ≡ true → BeginsWithout is_word after → IsName name name after
name_stands [] after e follows = absurd (true≢false (sym e))
name_stands (byte ∷ text) after e follows =
    let parts = name_parts byte text e in
    record {
      text_is = refl;
      is_word = record { begins = parts.letter; run = record { each = name_words (byte ∷ text) e; longest = follows } };
      no_keyword = parts.no_keyword;
    }
