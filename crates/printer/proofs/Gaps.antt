-- Where no space stands between two tokens, the next begins with no byte that would be read with the one before it.
use Rattle.std.proofs.Common.{◌≡◌, ◌≢◌, ℕ, ◌||◌, ◌&&◌, ◌==◌, not, decimal, Bool, true, false, List, [], ◌∷◌, ◌++◌, refl, sym, ap, subst, ◌∙◌, arith, true≢false}
use Rattle.std.proofs.lemmas.Bool.Decides.{nat_tests}
use Rattle.lua_num.specs.Bytes.{is_digit, Each, BeginsWithout}
use Rattle.lua_num.specs.Numeral.{decimal_text}
use Rattle.lua_tree.specs.Bytes.{is_letter, is_word, is_numeral}
use Rattle.lua_tree.specs.Names.{is_name}
use Rattle.lua_tree.specs.declared.token.TokenKind.{TokenKind}
use Rattle.printer.specs.Layout.{token_text, is_close_behind, is_close_before, takes_bracket, is_bracket, run_together, has_space}
use Rattle.printer.proofs.MarkTexts.{is_byte, opens_bracket, goes_on_point}
use Rattle.printer.proofs.NumberTexts.{decimal_digits, decimal_some}
use Rattle.printer.proofs.Ranges.{IsInRange}
use Rattle.printer.proofs.WordTexts.{NameParts, name_parts}

abbrev pub nothing : ℕ → Bool
nothing byte = false

-- a byte right behind a token that would be read with it
abbrev pub joins : TokenKind → ℕ → Bool
joins TokenKind.And = is_word
joins TokenKind.Break = is_word
joins TokenKind.Do = is_word
joins TokenKind.Else = is_word
joins TokenKind.Elseif = is_word
joins TokenKind.End = is_word
joins TokenKind.False = is_word
joins TokenKind.For = is_word
joins TokenKind.Function = is_word
joins TokenKind.If = is_word
joins TokenKind.In = is_word
joins TokenKind.Local = is_word
joins TokenKind.Nil = is_word
joins TokenKind.Not = is_word
joins TokenKind.Or = is_word
joins TokenKind.Repeat = is_word
joins TokenKind.Return = is_word
joins TokenKind.Then = is_word
joins TokenKind.True = is_word
joins TokenKind.Until = is_word
joins TokenKind.While = is_word
joins (TokenKind.Name name) = is_word
joins (TokenKind.Number number) = is_numeral
joins TokenKind.Minus = λ byte. byte == 45
joins TokenKind.Less = is_byte 61
joins TokenKind.Greater = is_byte 61
joins TokenKind.Equal = is_byte 61
joins TokenKind.OpenBracket = opens_bracket
joins TokenKind.Dot = goes_on_point
joins TokenKind.DotDot = is_byte 46
joins kind = nothing

-- the bytes that no token is read with: line ends, spaces, and those of `)`, `]`, `}`, `,`, `;` and `:`
pub record IsFree (test : ℕ → Bool) : Type 0 where
  pub line_end : test 10 ≡ false
  pub space : test 32 ≡ false
  pub paren : test 41 ≡ false
  pub bracket : test 93 ≡ false
  pub brace : test 125 ≡ false
  pub comma : test 44 ≡ false
  pub semicolon : test 59 ≡ false
  pub colon : test 58 ≡ false

pub free : (kind : TokenKind) → IsFree (joins kind)
free TokenKind.And = record { line_end = refl; space = refl; paren = refl; bracket = refl; brace = refl; comma = refl; semicolon = refl; colon = refl }
free kind = record { line_end = refl; space = refl; paren = refl; bracket = refl; brace = refl; comma = refl; semicolon = refl; colon = refl }

none : (text : List ℕ) → BeginsWithout nothing text
none [] = tt
none (byte ∷ text) = refl

-- before a token that stands close before
closed : (test : ℕ → Bool) (next : TokenKind) (more : List ℕ) → IsFree test → is_close_before next ≡ true → (next ≡ TokenKind.Dot → test 46 ≡ false) → BeginsWithout test (token_text next ++ more)
closed test TokenKind.CloseParen more is e point = is.paren
closed test TokenKind.CloseBracket more is e point = is.bracket
closed test TokenKind.CloseBrace more is e point = is.brace
closed test TokenKind.Comma more is e point = is.comma
closed test TokenKind.Semicolon more is e point = is.semicolon
closed test TokenKind.Dot more is e point = point refl
closed test TokenKind.Colon more is e point = is.colon
closed test next more is e point = absurd (true≢false (sym e))

-- and before a bracket
bracketed : (test : ℕ → Bool) (next : TokenKind) (more : List ℕ) → test 40 ≡ false → test 91 ≡ false → is_bracket next ≡ true → BeginsWithout test (token_text next ++ more)
bracketed test TokenKind.OpenParen more paren bracket e = paren
bracketed test TokenKind.OpenBracket more paren bracket e = bracket
bracketed test next more paren bracket e = absurd (true≢false (sym e))

-- what stands close, stands so for one of three reasons
close_by : (run behind before takes bracket : Bool) → behind ≡ false → takes ≡ false → (run || not (behind || before || (takes && bracket))) ≡ false → before ≡ true
close_by true behind before takes bracket b t e = absurd (true≢false e)
close_by false true before takes bracket b t e = absurd (true≢false b)
close_by false false before true bracket b t e = absurd (true≢false t)
close_by false false true false bracket b t e = refl
close_by false false false false bracket b t e = absurd (true≢false e)

plainly : (kind next : TokenKind) (more : List ℕ) → is_close_behind kind ≡ false → takes_bracket kind ≡ false → has_space kind next ≡ false → (next ≡ TokenKind.Dot → joins kind 46 ≡ false) → BeginsWithout (joins kind) (token_text next ++ more)
plainly kind next more behind takes e point =
    closed (joins kind) next more (free kind) (close_by (run_together kind next) (is_close_behind kind) (is_close_before next) (takes_bracket kind) (is_bracket next) behind takes e) point

named : (next : TokenKind) (more : List ℕ) (before bracket : Bool) → is_close_before next ≡ before → is_bracket next ≡ bracket → (before || bracket) ≡ true → BeginsWithout is_word (token_text next ++ more)
named next more true bracket b c e = closed is_word next more (free TokenKind.And) b (λ d. refl)
named next more false true b c e = bracketed is_word next more refl refl c
named next more false false b c e = absurd (true≢false (sym e))

name_close : (before bracket : Bool) → not (before || bracket) ≡ false → (before || bracket) ≡ true
name_close true bracket e = refl
name_close false true e = refl
name_close false false e = absurd (true≢false e)

-- ---- the first bytes of names and numerals

letter_other : (byte : ℕ) → is_letter byte ≡ true → (opens_bracket byte ≡ false) × (goes_on_point byte ≡ false)
letter_other byte e = (grind (arith, nat_tests), grind (arith, nat_tests))

digit_other : (byte : ℕ) → is_digit byte ≡ true → opens_bracket byte ≡ false
digit_other byte e = grind (arith, nat_tests)

name_bracket : (name more : List ℕ) → is_name name ≡ true → BeginsWithout opens_bracket (name ++ more)
name_bracket [] more e = absurd (true≢false (sym e))
name_bracket (byte ∷ text) more e = let parts : NameParts byte text = name_parts byte text e in (letter_other byte parts.letter).0

name_point : (name more : List ℕ) → is_name name ≡ true → BeginsWithout goes_on_point (name ++ more)
name_point [] more e = absurd (true≢false (sym e))
name_point (byte ∷ text) more e = let parts : NameParts byte text = name_parts byte text e in (letter_other byte parts.letter).1

digits_bracket : (text more : List ℕ) → text ≢ [] → Each is_digit text → BeginsWithout opens_bracket (text ++ more)
digits_bracket [] more some digits = absurd (some refl)
digits_bracket (byte ∷ text) more some digits = digit_other byte digits.0

-- ---- behind `[` and behind `.`

bracket_apart : (next : TokenKind) (more : List ℕ) → IsInRange next → has_space TokenKind.OpenBracket next ≡ false → BeginsWithout opens_bracket (token_text next ++ more)
bracket_apart TokenKind.OpenBracket more range e = absurd (true≢false e)
bracket_apart TokenKind.Equal more range e = absurd (true≢false e)
bracket_apart TokenKind.EqualEqual more range e = absurd (true≢false e)
bracket_apart (TokenKind.Name name) more range e = name_bracket name more range
bracket_apart (TokenKind.Number n) more range e =
    subst (λ n. BeginsWithout opens_bracket (decimal_text n ++ more)) (sym range.1) (digits_bracket (decimal range.0) more (decimal_some range.0 range.2) (decimal_digits range.0 range.2))
bracket_apart next more range e = refl

point_apart : (next : TokenKind) (more : List ℕ) → IsInRange next → has_space TokenKind.Dot next ≡ false → BeginsWithout goes_on_point (token_text next ++ more)
point_apart TokenKind.Dot more range e = absurd (true≢false e)
point_apart TokenKind.DotDot more range e = absurd (true≢false e)
point_apart TokenKind.DotDotDot more range e = absurd (true≢false e)
point_apart (TokenKind.Number n) more range e = absurd (true≢false e)
point_apart (TokenKind.Name name) more range e = name_point name more range
point_apart next more range e = refl

-- a point behind these stands apart
no_point : (kind next : TokenKind) → has_space kind TokenKind.Dot ≡ true → has_space kind next ≡ false → next ≡ TokenKind.Dot → ⊥
no_point kind next apart e is = true≢false (sym apart ∙ (sym (ap (has_space kind) is) ∙ e))

pub apart : (kind next : TokenKind) (more : List ℕ) → IsInRange next → has_space kind next ≡ false → BeginsWithout (joins kind) (token_text next ++ more)
apart TokenKind.OpenBracket next more range e = bracket_apart next more range e
apart TokenKind.Dot next more range e = point_apart next more range e
apart (TokenKind.Name name) next more range e = named next more (is_close_before next) (is_bracket next) refl refl (name_close (is_close_before next) (is_bracket next) e)
apart (TokenKind.Number n) next more range e = plainly (TokenKind.Number n) next more refl refl e (λ is. absurd (no_point (TokenKind.Number n) next refl e is))
apart TokenKind.DotDot next more range e = plainly TokenKind.DotDot next more refl refl e (λ is. absurd (no_point TokenKind.DotDot next refl e is))
apart (TokenKind.Text text) next more range e = none (token_text next ++ more)
apart TokenKind.CloseParen next more range e = none (token_text next ++ more)
apart TokenKind.CloseBracket next more range e = none (token_text next ++ more)
apart TokenKind.OpenParen next more range e = none (token_text next ++ more)
apart TokenKind.OpenBrace next more range e = none (token_text next ++ more)
apart TokenKind.Colon next more range e = none (token_text next ++ more)
apart TokenKind.Hash next more range e = none (token_text next ++ more)
apart kind next more range e = plainly kind next more refl refl e (λ is. refl)
