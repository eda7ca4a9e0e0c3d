-- What is put on a sheet is what stands on the page, and its tokens are those that a tree of the program may have.
use Rattle.std.proofs.Common.{◌≡◌, Bool, true, false, List, [], ◌∷◌, ◌++◌, Option, Some, None, refl, sym, ap, ◌∙◌}
use Rattle.std.specs.Prelude.{if◌then◌else◌}
use Rattle.lua_tree.specs.Syntax.{Source}
use Rattle.lua_tree.specs.declared.token.TokenKind.{TokenKind}
use Rattle.printer.specs.declared.printing.spacing.Spacing.{Spacing}
use Rattle.printer.specs.Layout.{Piece, token, new_line, Page, token_text, is_close_behind, is_close_before, takes_bracket, is_bracket, run_together, has_space, gap, with_piece, with_pieces, empty_page, source_pieces, finished_text, printed}
use Rattle.printer.specs.Sheets.{Sheet, empty_sheet, spacing_of, runs_together, stands_close_behind, stands_close_before, has_bracket_close, is_open_bracket, stands_apart, is_held, space, with_text, put_pieces}

-- ---- spaces

close_behind : (kind : TokenKind) → stands_close_behind (spacing_of kind) ≡ is_close_behind kind
close_behind TokenKind.And = refl
close_behind kind = refl

close_before : (kind : TokenKind) → stands_close_before (spacing_of kind) ≡ is_close_before kind
close_before TokenKind.And = refl
close_before kind = refl

bracket_close : (kind : TokenKind) → has_bracket_close (spacing_of kind) ≡ takes_bracket kind
bracket_close TokenKind.And = refl
bracket_close kind = refl

open_bracket : (kind : TokenKind) → is_open_bracket (spacing_of kind) ≡ is_bracket kind
open_bracket TokenKind.And = refl
open_bracket kind = refl

bracket_runs : (next : TokenKind) → runs_together Spacing.Bracket (spacing_of next) ≡ run_together TokenKind.OpenBracket next
bracket_runs TokenKind.And = refl
bracket_runs next = refl

dot_runs : (next : TokenKind) → runs_together Spacing.Dot (spacing_of next) ≡ run_together TokenKind.Dot next
dot_runs TokenKind.And = refl
dot_runs next = refl

pointed_runs : (next : TokenKind) → runs_together Spacing.Pointed (spacing_of next) ≡ run_together TokenKind.DotDot next
pointed_runs TokenKind.And = refl
pointed_runs next = refl

points_run : (next : TokenKind) → run_together TokenKind.DotDotDot next ≡ run_together TokenKind.DotDot next
points_run TokenKind.And = refl
points_run next = refl

numeral_runs : (number : _) (next : TokenKind) → run_together (TokenKind.Number number) next ≡ run_together TokenKind.DotDot next
numeral_runs number TokenKind.And = refl
numeral_runs number next = refl

runs : (last next : TokenKind) → runs_together (spacing_of last) (spacing_of next) ≡ run_together last next
runs TokenKind.OpenBracket next = bracket_runs next
runs TokenKind.Dot next = dot_runs next
runs TokenKind.DotDot next = pointed_runs next
runs TokenKind.DotDotDot next = pointed_runs next ∙ sym (points_run next)
runs (TokenKind.Number number) next = pointed_runs next ∙ sym (numeral_runs number next)
runs last next = refl

apart : (last next : TokenKind) → stands_apart (spacing_of last) (spacing_of next) ≡ has_space last next
apart last next = rw (runs last next, close_behind last, close_before next, bracket_close last, open_bracket next) refl

-- ---- sheets and pages

abbrev last_of : Option TokenKind → Option Spacing
last_of None = None
last_of (Some kind) = Some (spacing_of kind)

abbrev sheet_of : Page → Sheet
sheet_of page = record { text = page.text; last = last_of page.last }

gap_is : (last : Option TokenKind) (next : TokenKind) → space (last_of last) (spacing_of next) ≡ gap last next
gap_is None next = refl
gap_is (Some last) next = ap (λ b. if b then 32 ∷ [] else []) (apart last next)

token_is : (kind : TokenKind) (page : Page) → with_text (spacing_of kind) (token_text kind) (sheet_of page) ≡ sheet_of (with_piece (token kind) page)
token_is kind page = ap (λ between. record { text = page.text ++ (between ++ token_text kind); last = Some (spacing_of kind) }) (gap_is page.last kind)

nothing_put : (pieces : List Piece) (sheet : Sheet) → put_pieces pieces None ≡ Some sheet → ⊥
nothing_put [] sheet e = cc
nothing_put (token kind ∷ pieces) sheet e = nothing_put pieces sheet e
nothing_put (new_line n ∷ pieces) sheet e = nothing_put pieces sheet e

-- each token is one that a tree of the program may have
abbrev pub IsHeld : Piece → Type 0
IsHeld (token kind) = is_held kind ≡ true
IsHeld (new_line n) = Unit {0}

abbrev pub AreHeld : List Piece → Type 0
AreHeld [] = Unit {0}
AreHeld (piece ∷ pieces) = IsHeld piece × AreHeld pieces

pub are_held : (pieces : List Piece) (before sheet : Sheet) → put_pieces pieces (Some before) ≡ Some sheet → AreHeld pieces
are_held [] before sheet e = tt
are_held (token kind ∷ pieces) before sheet e = held (is_held kind) refl e (λ e. are_held pieces (with_text (spacing_of kind) (token_text kind) before) sheet e) where
  held : (b : Bool) → is_held kind ≡ b → put_pieces pieces (if b then Some (with_text (spacing_of kind) (token_text kind) before) else None) ≡ Some sheet →
      (put_pieces pieces (Some (with_text (spacing_of kind) (token_text kind) before)) ≡ Some sheet → AreHeld pieces) → AreHeld (token kind ∷ pieces)
  held true is e others = (is, others e)
  held false is e others = absurd (nothing_put pieces sheet e)
are_held (new_line n ∷ pieces) before sheet e = (tt, are_held pieces _ sheet e)

pub sheet_is : (pieces : List Piece) (page : Page) (sheet : Sheet) → put_pieces pieces (Some (sheet_of page)) ≡ Some sheet → sheet ≡ sheet_of (with_pieces pieces page)
sheet_is [] page sheet e = cc
sheet_is (token kind ∷ pieces) page sheet e = put (is_held kind) e (λ e. sheet_is pieces (with_piece (token kind) page) sheet e) where
  put : (b : Bool) → put_pieces pieces (if b then Some (with_text (spacing_of kind) (token_text kind) (sheet_of page)) else None) ≡ Some sheet →
      (put_pieces pieces (Some (sheet_of (with_piece (token kind) page))) ≡ Some sheet → sheet ≡ sheet_of (with_pieces pieces (with_piece (token kind) page))) →
      sheet ≡ sheet_of (with_pieces pieces (with_piece (token kind) page))
  put true e others = others (ap (λ s. put_pieces pieces (Some s)) (sym (token_is kind page)) ∙ e)
  put false e others = absurd (nothing_put pieces sheet e)
sheet_is (new_line n ∷ pieces) page sheet e = sheet_is pieces (with_piece (new_line n) page) sheet e

-- what a source is printed as, and what its tree has
pub text_is : (source : Source) (sheet : Sheet) → Some sheet ≡ put_pieces (source_pieces source) (Some empty_sheet) → finished_text sheet.text ≡ printed source
text_is source sheet e = ap (λ s. finished_text s.text) (sheet_is (source_pieces source) empty_page sheet (sym e))

pub source_held : (source : Source) (sheet : Sheet) → Some sheet ≡ put_pieces (source_pieces source) (Some empty_sheet) → AreHeld (source_pieces source)
source_held source sheet e = are_held (source_pieces source) empty_sheet sheet (sym e)
