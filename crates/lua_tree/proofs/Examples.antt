-- The definitions of tokens, computed on small texts: each kind, and each fault.
use Rattle.std.proofs.Common.{◌≡◌, ℕ, pos, List, [], ◌∷◌, ◌++◌, ◌+◌, min, refl, sym, ap, inl, inr, rules, arith}
use Rattle.std.specs.Prelude.{codes, true, false}
use Rattle.lua_tree.specs.declared.token.TokenKind.{TokenKind}
use Rattle.lua_tree.specs.Lines.{Part, End, Other, IsCut, text_of, end_count, IsLineOf}
use Rattle.lua_tree.specs.Strings.{Item, Plain, Escaped, EscapedEnd, Decimal, IsCode}
use Rattle.lua_tree.specs.Tokens.{IsToken, IsMarkPlace}
use Rattle.lua_tree.specs.Tiling.{IsPiece, Comment, Tok, IsFault, Lexes, Stops, BadByte, UnfinishedString, UnfinishedLong, BadLongOpen, EscapeTooLarge, BadNumber}
use Rattle.lua_tree.proofs.BadBytes.{passes_not}

-- a name goes to its longest run
print_is_a_name : IsToken (TokenKind.Name (codes "print")) 0 (codes "print") (codes "(3)")
print_is_a_name = record { text_is = refl; is_word = record { begins = refl; run = record { each = search rules; longest = refl } }; no_keyword = refl }

keyword_in_front_is_a_name : IsToken (TokenKind.Name (codes "end_")) 0 (codes "end_") []
keyword_in_front_is_a_name = record { text_is = refl; is_word = record { begins = refl; run = record { each = search rules; longest = search rules } }; no_keyword = refl }

end_is_a_keyword : IsToken TokenKind.End 4 (codes "end") (codes " x")
end_is_a_keyword = record { text_is = refl; is_word = record { begins = refl; run = record { each = search rules; longest = refl } } }

three_is_a_number : IsToken (TokenKind.Number (pos 3)) 6 (codes "3") (codes ")")
three_is_a_number = record { begins = inl refl; run = record { each = search rules; longest = refl }; numeral = refl }

-- the longest mark
three_dots : IsToken TokenKind.DotDotDot 3 (codes "...") (codes ".")
three_dots = record { text_is = refl; place = record { minus = λ e. cc; bracket = λ e. cc; point = λ e. cc; hash = λ e. cc }; longest_is = refl }

no_dots_of_three : IsToken TokenKind.DotDot 3 (codes "..") (codes ".") → ⊥
no_dots_of_three is = omega (arith, is.longest_is)

-- `-` before `-` begins a comment, and `#` stands as a mark anywhere but at the front of all
no_minus : IsToken TokenKind.Minus 3 (codes "-") (codes "-") → ⊥
no_minus is = let e : true ≡ false = is.place.minus refl in cc

no_hash : IsToken TokenKind.Hash 0 (codes "#") (codes "t") → ⊥
no_hash is = omega (arith, is.place.hash refl)

-- escapes: `'a\65\n'` is `a`, `A` and byte 10
short_string : IsToken (TokenKind.Text (97 ∷ 65 ∷ 10 ∷ [])) 0 (39 ∷ 97 ∷ 92 ∷ 54 ∷ 53 ∷ 92 ∷ 110 ∷ 39 ∷ []) []
short_string =
    let code : IsCode (codes "65") (codes "\\n'") = record { digits_are = search rules; some = omega arith; few = omega arith; all = λ less. refl } in
    let items : List Item = Plain 97 ∷ Decimal (codes "65") ∷ Escaped 110 ∷ [] in
    inl (record {
      quote = 39;
      items = items;
      quoted = inr refl;
      whole = refl;
      fit = (refl, ((code, omega arith), (refl, tt)));
      bytes_are = refl;
    })

-- a line end of two bytes, escaped, is byte 10
escaped_pair : IsToken (TokenKind.Text (10 ∷ [])) 0 (34 ∷ 92 ∷ 13 ∷ 10 ∷ 34 ∷ []) []
escaped_pair = inl (record { quote = 34; items = EscapedEnd (13 ∷ 10 ∷ []) ∷ []; quoted = inl refl; whole = refl; fit = ((omega arith, refl), tt); bytes_are = refl })

-- a long string of level 1: the first line end is left out, another of two bytes is byte 10, and `]]` does not close
long_string : IsToken (TokenKind.Text (codes "a]]" ++ (10 ∷ codes "b"))) 0 (codes "[=[" ++ (10 ∷ codes "a]]" ++ (13 ∷ 10 ∷ codes "b]=]"))) []
long_string =
    let inside : List ℕ = 10 ∷ codes "a]]" ++ (13 ∷ 10 ∷ codes "b") in
    let parts : List Part = End (10 ∷ []) ∷ Other 97 ∷ Other 93 ∷ Other 93 ∷ End (13 ∷ 10 ∷ []) ∷ Other 98 ∷ [] in
    inr (1, inside, record { whole = refl; first = refl }, record { parts = parts; cut = record { cut = (omega arith, refl, (refl, (refl, (refl, (omega arith, refl, (refl, tt)))))); whole = refl }; bytes_are = refl })

-- a comment to the end of its line, and a long one
short_comment : IsPiece Comment 0 (codes "--[=x") (10 ∷ [])
short_comment = inl (record { body = codes "[=x"; whole = refl; no_bracket = refl; run = record { each = search rules; longest = refl } })

long_comment : IsPiece Comment 0 (codes "--[[x]]") (codes "y")
long_comment = inr (inl (record { level = 0; inside = codes "x"; body = codes "[[x]]"; whole = refl; long = record { whole = refl; first = refl } }))

-- each fault, with its distance from where the text begins
bad_byte : IsFault BadByte (codes "@") 0
bad_byte = (refl, inl (passes_not 64 refl))

lone_tilde : IsFault BadByte (codes "~1") 0
lone_tilde = (refl, inr (refl, refl))

bad_number : IsFault BadNumber (codes "3x)") 0
bad_number = (refl, record { run = codes "3x"; after = codes ")"; whole = refl; begins = inl refl; is_run = record { each = search rules; longest = refl }; no_numeral = refl })

bad_opening : IsFault BadLongOpen (codes "[=a") 0
bad_opening = (refl, record { front = refl; no_bracket = refl })

unfinished_long : IsFault UnfinishedLong (codes "--[==[") 2
unfinished_long = inr (refl, record { level = 2; after = []; whole = refl; no_closing = refl })

unfinished_string : IsFault UnfinishedString (codes "'a") 0
unfinished_string = (refl, record { quote = 39; items = Plain 97 ∷ []; after = []; quoted = inr refl; whole = refl; fit = (refl, tt); ended = inl tt })

too_large : IsFault EscapeTooLarge (codes "\"\\300\"") 1
too_large =
    let code : IsCode (codes "300") (codes "\"") = record { digits_are = search rules; some = omega arith; few = omega arith; all = λ less. refl } in
    record { quote = 34; items = []; digits = codes "300"; after = codes "\""; quoted = inl refl; whole = refl; fit = tt; code = code; large = omega arith; distance_is = refl }

-- one line of a text without line ends
abbrev each_other : List ℕ → List Part
each_other [] = []
each_other (byte ∷ text) = Other byte ∷ each_other text

on_line_one : (text : List ℕ) → IsCut (each_other text) → text ≡ text_of (each_other text) → end_count (each_other text) ≡ 0 → IsLineOf text 1
on_line_one text cut whole none = record { parts = each_other text; cut = record { cut = cut; whole = whole }; line_is = sym (ap (λ n. min (n + 1) 2147483647) none) }

mark_place : (at : ℕ) → IsMarkPlace at (codes "(") (codes "3)")
mark_place at = record { minus = λ e. cc; bracket = λ e. cc; point = λ e. cc; hash = λ e. cc }

-- `print(3)`, whole
print_three : Lexes (codes "print(3)") (record { kind = TokenKind.Name (codes "print"); at = 0; line = 1 } ∷ record { kind = TokenKind.OpenParen; at = 5; line = 1 } ∷ record { kind = TokenKind.Number (pos 3); at = 6; line = 1 } ∷ record { kind = TokenKind.CloseParen; at = 7; line = 1 } ∷ [])
print_three =
    let closing : IsToken TokenKind.CloseParen 7 (codes ")") [] = record { text_is = refl; place = record { minus = λ e. cc; bracket = λ e. cc; point = λ e. cc; hash = λ e. cc }; longest_is = refl } in
    let opening : IsToken TokenKind.OpenParen 5 (codes "(") (codes "3)") = record { text_is = refl; place = mark_place 5; longest_is = refl } in
    record {
      tiles = record { piece = Tok (TokenKind.Name (codes "print")); text = codes "print" } ∷ record { piece = Tok TokenKind.OpenParen; text = codes "(" } ∷ record { piece = Tok (TokenKind.Number (pos 3)); text = codes "3" } ∷ record { piece = Tok TokenKind.CloseParen; text = codes ")" } ∷ [];
      tiled = record { after = codes "(3)"; whole = refl; is_piece = print_is_a_name; rest = record { after = codes "3)"; whole = refl; is_piece = opening; rest = record { after = codes ")"; whole = refl; is_piece = three_is_a_number; rest = record { after = []; whole = refl; is_piece = closing; rest = refl } } } };
      tokens_are =
          record {
            line = 1;
            line_is = on_line_one (codes "print") (search rules) refl refl;
            others = _;
            tokens_are = refl;
            rest =
                record {
                  line = 1;
                  line_is = on_line_one (codes "print(") (search rules) refl refl;
                  others = _;
                  tokens_are = refl;
                  rest =
                      record {
                        line = 1;
                        line_is = on_line_one (codes "print(3") (search rules) refl refl;
                        others = _;
                        tokens_are = refl;
                        rest =
                            record { line = 1; line_is = on_line_one (codes "print(3)") (search rules) refl refl; others = []; tokens_are = refl; rest = refl };
                      };
                };
          };
    }

-- `print(3) --[==[` stops at offset 11
stops_at_eleven : Stops (codes "--[==[") UnfinishedLong 2
stops_at_eleven = record { tiles = []; left = codes "--[==["; distance = 2; tiled = refl; fault = unfinished_long; at_is = refl }
