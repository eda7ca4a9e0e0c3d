-- The printed text of each token stands as that token where no byte that is read with it follows; it has visible bytes, at least one.
use Rattle.std.proofs.Common.{◌≡◌, ◌≢◌, ◌≤◌, ◌<◌, ◌^◌, ℕ, nat_le, codes, decimal, true, List, [], refl, sym, ap, subst, ◌∙◌, inl, arith, true≢false}
use Rattle.std.proofs.lemmas.Bool.Decides.{nat_tests}
use Rattle.lua_num.specs.Bytes.{is_digit, Each, BeginsWithout}
use Rattle.lua_num.specs.Numeral.{decimal_text}
use Rattle.lua_num.proofs.Bytes.{each_passed, each_weaker}
use Rattle.lua_tree.specs.Bytes.{is_word}
use Rattle.lua_tree.specs.Names.{is_name}
use Rattle.lua_tree.specs.Tokens.{IsToken, IsNumber}
use Rattle.lua_tree.specs.declared.token.TokenKind.{TokenKind}
use Rattle.printer.specs.Layout.{token_text}
use Rattle.printer.proofs.Gaps.{joins}
use Rattle.printer.proofs.MarkTexts.{lone, minus_mark, hash_mark, bracket_mark, less_mark, greater_mark, equal_mark, dots_mark, point_mark}
use Rattle.printer.proofs.NumberTexts.{decimal_digits, decimal_some, number_stands}
use Rattle.printer.proofs.QuotedTexts.{quoted_stands, quoted_visible}
use Rattle.printer.proofs.Ranges.{IsInRange}
use Rattle.printer.proofs.WordTexts.{keyword, name_words, name_stands}

-- ---- tokens stand

pub stands : (kind : TokenKind) (at : ℕ) (after : List ℕ) → IsInRange kind → (kind ≡ TokenKind.Hash → 1 ≤ at) → BeginsWithout (joins kind) after → IsToken kind at (token_text kind) after
stands TokenKind.And at after range later follows = keyword (codes "and") after refl refl follows
stands TokenKind.Break at after range later follows = keyword (codes "break") after refl refl follows
stands TokenKind.Do at after range later follows = keyword (codes "do") after refl refl follows
stands TokenKind.Else at after range later follows = keyword (codes "else") after refl refl follows
stands TokenKind.Elseif at after range later follows = keyword (codes "elseif") after refl refl follows
stands TokenKind.End at after range later follows = keyword (codes "end") after refl refl follows
stands TokenKind.False at after range later follows = keyword (codes "false") after refl refl follows
stands TokenKind.For at after range later follows = keyword (codes "for") after refl refl follows
stands TokenKind.Function at after range later follows = keyword (codes "function") after refl refl follows
stands TokenKind.If at after range later follows = keyword (codes "if") after refl refl follows
stands TokenKind.In at after range later follows = keyword (codes "in") after refl refl follows
stands TokenKind.Local at after range later follows = keyword (codes "local") after refl refl follows
stands TokenKind.Nil at after range later follows = keyword (codes "nil") after refl refl follows
stands TokenKind.Not at after range later follows = keyword (codes "not") after refl refl follows
stands TokenKind.Or at after range later follows = keyword (codes "or") after refl refl follows
stands TokenKind.Repeat at after range later follows = keyword (codes "repeat") after refl refl follows
stands TokenKind.Return at after range later follows = keyword (codes "return") after refl refl follows
stands TokenKind.Then at after range later follows = keyword (codes "then") after refl refl follows
stands TokenKind.True at after range later follows = keyword (codes "true") after refl refl follows
stands TokenKind.Until at after range later follows = keyword (codes "until") after refl refl follows
stands TokenKind.While at after range later follows = keyword (codes "while") after refl refl follows
stands (TokenKind.Name name) at after range later follows = name_stands name after range follows
stands (TokenKind.Number n) at after range later follows = subst (λ n. IsNumber n (decimal_text n) after) (sym range.1) (number_stands range.0 after range.2 follows)
stands (TokenKind.Text text) at after range later follows = inl (quoted_stands text after range)
stands TokenKind.Plus at after range later follows = lone (codes "+") at after refl refl refl refl refl
stands TokenKind.Minus at after range later follows = minus_mark at after follows
stands TokenKind.Star at after range later follows = lone (codes "*") at after refl refl refl refl refl
stands TokenKind.Slash at after range later follows = lone (codes "/") at after refl refl refl refl refl
stands TokenKind.Percent at after range later follows = lone (codes "%") at after refl refl refl refl refl
stands TokenKind.Caret at after range later follows = lone (codes "^") at after refl refl refl refl refl
stands TokenKind.Hash at after range later follows = hash_mark at after (later refl)
stands TokenKind.EqualEqual at after range later follows = lone (codes "==") at after refl refl refl refl refl
stands TokenKind.TildeEqual at after range later follows = lone (codes "~=") at after refl refl refl refl refl
stands TokenKind.LessEqual at after range later follows = lone (codes "<=") at after refl refl refl refl refl
stands TokenKind.GreaterEqual at after range later follows = lone (codes ">=") at after refl refl refl refl refl
stands TokenKind.Less at after range later follows = less_mark at after follows
stands TokenKind.Greater at after range later follows = greater_mark at after follows
stands TokenKind.Equal at after range later follows = equal_mark at after follows
stands TokenKind.OpenParen at after range later follows = lone (codes "(") at after refl refl refl refl refl
stands TokenKind.CloseParen at after range later follows = lone (codes ")") at after refl refl refl refl refl
stands TokenKind.OpenBrace at after range later follows = lone (codes "{") at after refl refl refl refl refl
stands TokenKind.CloseBrace at after range later follows = lone (codes "}") at after refl refl refl refl refl
stands TokenKind.OpenBracket at after range later follows = bracket_mark at after follows
stands TokenKind.CloseBracket at after range later follows = lone (codes "]") at after refl refl refl refl refl
stands TokenKind.Semicolon at after range later follows = lone (codes ";") at after refl refl refl refl refl
stands TokenKind.Colon at after range later follows = lone (codes ":") at after refl refl refl refl refl
stands TokenKind.Comma at after range later follows = lone (codes ",") at after refl refl refl refl refl
stands TokenKind.Dot at after range later follows = point_mark at after follows
stands TokenKind.DotDot at after range later follows = dots_mark at after follows
stands TokenKind.DotDotDot at after range later follows = lone (codes "...") at after refl refl refl refl refl

-- ---- their bytes are visible

word_visible : (byte : ℕ) → is_word byte ≡ true → nat_le 32 byte ≡ true
word_visible byte e = grind (arith, nat_tests)

digit_visible : (byte : ℕ) → is_digit byte ≡ true → nat_le 32 byte ≡ true
digit_visible byte e = grind (arith, nat_tests)

number_visible : (n : ℕ) → n < 2 ^ 63 → Each (nat_le 32) (decimal n)
number_visible n small = each_weaker is_digit (nat_le 32) digit_visible (decimal n) (decimal_digits n small)

pub visible : (kind : TokenKind) → IsInRange kind → Each (nat_le 32) (token_text kind)
visible (TokenKind.Name name) range = each_weaker is_word (nat_le 32) word_visible name (name_words name range)
visible (TokenKind.Number n) range = subst (λ n. Each (nat_le 32) (decimal_text n)) (sym range.1) (number_visible range.0 range.2)
visible (TokenKind.Text text) range = quoted_visible text range
visible kind range = each_passed (nat_le 32) (token_text kind) refl

-- ---- and there is one at least

named : (name : List ℕ) → is_name name ≡ true → name ≢ []
named name range e = true≢false (sym range ∙ ap is_name e)

pub some : (kind : TokenKind) → IsInRange kind → token_text kind ≢ []
some (TokenKind.Name name) range = named name range
some (TokenKind.Number n) range = subst (λ n. decimal_text n ≢ []) (sym range.1) (decimal_some range.0 range.2)
some (TokenKind.Text text) range = λ e. cc
some kind range = λ e. cc
