-- Serves a body. A page as the code keeps it: of the last token it knows only how it stands beside others. Nothing is put where no tree of the program has the token.
use Rattle.std.specs.Prelude.{ℕ, suc, nat_lt, ◌&&◌, ◌||◌, not, Bool, true, false, List, [], ◌∷◌, ◌++◌, Option, Some, None, if◌then◌else◌}
use Rattle.std.specs.List.{list_all}
use Rattle.lua_num.specs.Bytes.{Text}
use Rattle.lua_num.specs.Arith.{fits}
use Rattle.lua_tree.specs.View.{view_block, view_exp, view_kind}
use Rattle.lua_tree.specs.declared.token.TokenKind.{TokenKind}
use Rattle.lua_tree.specs.declared.tree.Arm.{Arm, Arm'}
use Rattle.lua_tree.specs.declared.tree.Block.{Block}
use Rattle.lua_tree.specs.declared.tree.Exp.{Exp}
use Rattle.lua_tree.specs.declared.tree.ItemKind.{ItemKind, Positional', Named', Keyed'}
use Rattle.printer.specs.declared.printing.spacing.Spacing.{Spacing}
use Rattle.printer.specs.Layout.{Piece, token, new_line, token_text, line_start, statements_pieces, expression_pieces}

-- ---- how tokens stand beside each other

abbrev pub spacing_of : TokenKind → Spacing
spacing_of (TokenKind.Name name) = Spacing.Operand
spacing_of (TokenKind.Text text) = Spacing.Operand
spacing_of TokenKind.CloseParen = Spacing.Closing
spacing_of TokenKind.CloseBracket = Spacing.Closing
spacing_of TokenKind.CloseBrace = Spacing.Separator
spacing_of TokenKind.Comma = Spacing.Separator
spacing_of TokenKind.Semicolon = Spacing.Separator
spacing_of TokenKind.OpenBrace = Spacing.Prefix
spacing_of TokenKind.Hash = Spacing.Prefix
spacing_of TokenKind.OpenParen = Spacing.Paren
spacing_of TokenKind.OpenBracket = Spacing.Bracket
spacing_of TokenKind.Colon = Spacing.Colon
spacing_of TokenKind.Dot = Spacing.Dot
spacing_of (TokenKind.Number number) = Spacing.Pointed
spacing_of TokenKind.DotDot = Spacing.Pointed
spacing_of TokenKind.DotDotDot = Spacing.Pointed
spacing_of TokenKind.Equal = Spacing.Equal
spacing_of TokenKind.EqualEqual = Spacing.Equal
spacing_of kind = Spacing.Word

abbrev pub runs_together : Spacing → Spacing → Bool
runs_together Spacing.Bracket Spacing.Bracket = true
runs_together Spacing.Bracket Spacing.Equal = true
runs_together Spacing.Dot Spacing.Dot = true
runs_together Spacing.Dot Spacing.Pointed = true
runs_together Spacing.Pointed Spacing.Dot = true
runs_together last next = false

abbrev pub stands_close_behind : Spacing → Bool
stands_close_behind Spacing.Prefix = true
stands_close_behind Spacing.Paren = true
stands_close_behind Spacing.Bracket = true
stands_close_behind Spacing.Colon = true
stands_close_behind Spacing.Dot = true
stands_close_behind last = false

abbrev pub stands_close_before : Spacing → Bool
stands_close_before Spacing.Closing = true
stands_close_before Spacing.Separator = true
stands_close_before Spacing.Colon = true
stands_close_before Spacing.Dot = true
stands_close_before next = false

abbrev pub has_bracket_close : Spacing → Bool
has_bracket_close Spacing.Operand = true
has_bracket_close Spacing.Closing = true
has_bracket_close last = false

abbrev pub is_open_bracket : Spacing → Bool
is_open_bracket Spacing.Paren = true
is_open_bracket Spacing.Bracket = true
is_open_bracket next = false

abbrev pub stands_apart : Spacing → Spacing → Bool
stands_apart last next = runs_together last next || not (stands_close_behind last || stands_close_before next || (has_bracket_close last && is_open_bracket next))

-- ---- tokens

-- the text of a keyword or a mark
abbrev pub word_text : TokenKind → Text
word_text (TokenKind.Name name) = []
word_text (TokenKind.Number number) = []
word_text (TokenKind.Text text) = []
word_text kind = token_text kind

-- what a tree of the program may have: numbers of 64 bits, and texts of bytes
abbrev pub is_held : TokenKind → Bool
is_held (TokenKind.Number number) = fits number
is_held (TokenKind.Text text) = list_all (λ byte. nat_lt byte 256) text
is_held kind = true

-- ---- sheets

-- what is printed so far, and how the last token of its line stands beside others
pub record Sheet : Type 0 where
  pub text : Text
  pub last : Option Spacing

abbrev pub empty_sheet : Sheet
empty_sheet = record { text = []; last = None }

abbrev pub space : Option Spacing → Spacing → Text
space None next = []
space (Some last) next = if stands_apart last next then 32 ∷ [] else []

abbrev pub with_text : Spacing → Text → Sheet → Sheet
with_text next text sheet = record { text = sheet.text ++ (space sheet.last next ++ text); last = Some next }

abbrev pub with_line : (blocks : ℕ) → Sheet → Sheet
with_line n sheet = record { text = sheet.text ++ line_start sheet.text n; last = None }

abbrev pub put_piece : Piece → Option Sheet → Option Sheet
put_piece piece None = None
put_piece (token kind) (Some sheet) = if is_held kind then Some (with_text (spacing_of kind) (token_text kind) sheet) else None
put_piece (new_line n) (Some sheet) = Some (with_line n sheet)

abbrev pub put_pieces : List Piece → Option Sheet → Option Sheet
put_pieces [] sheet = sheet
put_pieces (piece ∷ pieces) sheet = put_pieces pieces (put_piece piece sheet)

-- ---- parts of a tree

-- an arm of an `if` behind its word
abbrev pub arm_pieces : (blocks : ℕ) → (word : TokenKind) → Arm → List Piece
arm_pieces n word (Arm' line kind block) = token word ∷ expression_pieces n (view_kind kind line) ++ token TokenKind.Then ∷ statements_pieces (suc n) (view_block block)

-- `else` and its block, where there is one
abbrev pub else_pieces_of : (blocks : ℕ) → Option Block → List Piece
else_pieces_of n None = []
else_pieces_of n (Some block) = new_line n ∷ token TokenKind.Else ∷ statements_pieces (suc n) (view_block block)

-- the step of a numeric `for`, where there is one
abbrev pub step_pieces_of : (blocks : ℕ) → Option Exp → List Piece
step_pieces_of n None = []
step_pieces_of n (Some exp) = token TokenKind.Comma ∷ expression_pieces n (view_exp exp)

-- an item of a constructor, without what separates it from the next
abbrev pub item_pieces : (blocks : ℕ) → ItemKind → List Piece
item_pieces n (Positional' line kind) = expression_pieces n (view_kind kind line)
item_pieces n (Named' name line kind) = token (TokenKind.Name name) ∷ token TokenKind.Equal ∷ expression_pieces n (view_kind kind line)
item_pieces n (Keyed' line kind value_line value) =
    token TokenKind.OpenBracket ∷ expression_pieces n (view_kind kind line) ++ token TokenKind.CloseBracket ∷ token TokenKind.Equal ∷ expression_pieces n (view_kind value value_line)
