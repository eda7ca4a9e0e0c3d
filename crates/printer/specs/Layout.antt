-- To be believed, and this suite's own. The printed source: the tokens of a source with the places where lines begin, and the text that they make.
use Rattle.std.specs.Prelude.{ℕ, suc, ◌*◌, ◌&&◌, ◌||◌, not, Bool, true, false, List, [], ◌∷◌, ◌++◌, map, replicate, Option, Some, None, codes, if◌then◌else◌}
use Rattle.lua_num.specs.Bytes.{Text}
use Rattle.lua_num.specs.Numeral.{decimal_text}
use Rattle.lua_tree.specs.Syntax.{Statements, no_statements, statement, Statement, assignment, call_statement, do_block, while_loop, repeat_loop, if_statement, numeric_for, generic_for, function_statement, local_function, local_statement, return_statement, break_statement, Branches, no_branches, branch, Otherwise, no_otherwise, otherwise, ForStep, no_step, by_step, FunctionBody, function_body, Expressions, no_expressions, expression, Expression, nil_literal, true_literal, false_literal, vararg_expression, number_literal, text_literal, name_expression, function_expression, index_expression, field_expression, call_expression, method_call, and_expression, or_expression, binary_expression, unary_expression, constructor, parenthesized, Arguments, argument_list, text_argument, table_argument, Fields, no_fields, positional, named, keyed, Source}
use Rattle.lua_tree.specs.declared.token.TokenKind.{TokenKind}
use Rattle.lua_tree.specs.Spelling.{Kinds, spell_op, spell_unary, spell_separator, spell_semi, spell_names, spell_method, spell_params}
use Rattle.lister.specs.Listing.{quoted}

-- a token, or a line end and two spaces for each of the blocks around
pub data Piece : Type 0 where
  token : TokenKind → Piece
  new_line : (blocks : ℕ) → Piece

abbrev pub tokens : Kinds → List Piece
tokens kinds = map token kinds

-- ---- a line begins before each statement, and before what ends a block

-- the block of a loop, whose pieces these are
abbrev pub loop_pieces : (blocks : ℕ) → List Piece → List Piece
loop_pieces n inside = token TokenKind.Do ∷ inside ++ new_line n ∷ token TokenKind.End ∷ []

abbrev mutual
  pub statements_pieces : (blocks : ℕ) → Statements → List Piece
  statements_pieces n no_statements = []
  statements_pieces n (statement line semi s rest) = new_line n ∷ statement_pieces n s ++ (tokens (spell_semi semi) ++ statements_pieces n rest)

  pub statement_pieces : (blocks : ℕ) → Statement → List Piece
  statement_pieces n (assignment targets es) = expressions_pieces n targets ++ token TokenKind.Equal ∷ expressions_pieces n es
  statement_pieces n (call_statement e) = expression_pieces n e
  statement_pieces n (do_block block) = loop_pieces n (statements_pieces (suc n) block)
  statement_pieces n (while_loop cond block) = token TokenKind.While ∷ expression_pieces n cond ++ loop_pieces n (statements_pieces (suc n) block)
  statement_pieces n (repeat_loop block cond) = token TokenKind.Repeat ∷ statements_pieces (suc n) block ++ new_line n ∷ token TokenKind.Until ∷ expression_pieces n cond
  statement_pieces n (if_statement branches last) = branches_pieces n branches ++ (else_pieces n last ++ new_line n ∷ token TokenKind.End ∷ [])
  statement_pieces n (numeric_for name first last step block) =
      tokens (TokenKind.For ∷ TokenKind.Name name ∷ TokenKind.Equal ∷ []) ++ (expression_pieces n first ++ token TokenKind.Comma ∷ (expression_pieces n last ++ (step_pieces n step ++ loop_pieces n (statements_pieces (suc n) block))))
  statement_pieces n (generic_for names es block) = tokens (TokenKind.For ∷ spell_names TokenKind.Comma names ++ TokenKind.In ∷ []) ++ (expressions_pieces n es ++ loop_pieces n (statements_pieces (suc n) block))
  statement_pieces n (function_statement path method body) = tokens (TokenKind.Function ∷ spell_names TokenKind.Dot path ++ spell_method method) ++ body_pieces n body
  statement_pieces n (local_function name body) = tokens (TokenKind.Local ∷ TokenKind.Function ∷ TokenKind.Name name ∷ []) ++ body_pieces n body
  statement_pieces n (local_statement names es) = tokens (TokenKind.Local ∷ spell_names TokenKind.Comma names) ++ values_pieces n es
  statement_pieces n (return_statement es) = token TokenKind.Return ∷ expressions_pieces n es
  statement_pieces n break_statement = token TokenKind.Break ∷ []

  pub branches_pieces : (blocks : ℕ) → Branches → List Piece
  branches_pieces n no_branches = []
  branches_pieces n (branch cond block rest) = token TokenKind.If ∷ expression_pieces n cond ++ token TokenKind.Then ∷ (statements_pieces (suc n) block ++ more_branches_pieces n rest)

  pub more_branches_pieces : (blocks : ℕ) → Branches → List Piece
  more_branches_pieces n no_branches = []
  more_branches_pieces n (branch cond block rest) =
      new_line n ∷ token TokenKind.Elseif ∷ expression_pieces n cond ++ token TokenKind.Then ∷ (statements_pieces (suc n) block ++ more_branches_pieces n rest)

  pub else_pieces : (blocks : ℕ) → Otherwise → List Piece
  else_pieces n no_otherwise = []
  else_pieces n (otherwise block) = new_line n ∷ token TokenKind.Else ∷ statements_pieces (suc n) block

  pub step_pieces : (blocks : ℕ) → ForStep → List Piece
  step_pieces n no_step = []
  step_pieces n (by_step e) = token TokenKind.Comma ∷ expression_pieces n e

  pub body_pieces : (blocks : ℕ) → FunctionBody → List Piece
  body_pieces n (function_body params vararg block first last) =
      tokens (TokenKind.OpenParen ∷ spell_params params vararg ++ TokenKind.CloseParen ∷ []) ++ (statements_pieces (suc n) block ++ new_line n ∷ token TokenKind.End ∷ [])

  -- the right sides of a local statement
  pub values_pieces : (blocks : ℕ) → Expressions → List Piece
  values_pieces n no_expressions = []
  values_pieces n (expression e rest) = token TokenKind.Equal ∷ expression_pieces n e ++ more_expressions_pieces n rest

  pub expressions_pieces : (blocks : ℕ) → Expressions → List Piece
  expressions_pieces n no_expressions = []
  expressions_pieces n (expression e rest) = expression_pieces n e ++ more_expressions_pieces n rest

  pub more_expressions_pieces : (blocks : ℕ) → Expressions → List Piece
  more_expressions_pieces n no_expressions = []
  more_expressions_pieces n (expression e rest) = token TokenKind.Comma ∷ expression_pieces n e ++ more_expressions_pieces n rest

  pub expression_pieces : (blocks : ℕ) → Expression → List Piece
  expression_pieces n (nil_literal line) = token TokenKind.Nil ∷ []
  expression_pieces n (true_literal line) = token TokenKind.True ∷ []
  expression_pieces n (false_literal line) = token TokenKind.False ∷ []
  expression_pieces n (vararg_expression line) = token TokenKind.DotDotDot ∷ []
  expression_pieces n (number_literal line number) = token (TokenKind.Number number) ∷ []
  expression_pieces n (text_literal line text) = token (TokenKind.Text text) ∷ []
  expression_pieces n (name_expression line name) = token (TokenKind.Name name) ∷ []
  expression_pieces n (function_expression line body) = token TokenKind.Function ∷ body_pieces n body
  expression_pieces n (index_expression line on key) = expression_pieces n on ++ token TokenKind.OpenBracket ∷ (expression_pieces n key ++ token TokenKind.CloseBracket ∷ [])
  expression_pieces n (field_expression line on name) = expression_pieces n on ++ tokens (TokenKind.Dot ∷ TokenKind.Name name ∷ [])
  expression_pieces n (call_expression line on args on_line) = expression_pieces n on ++ arguments_pieces n args
  expression_pieces n (method_call line on name args on_line) = expression_pieces n on ++ (tokens (TokenKind.Colon ∷ TokenKind.Name name ∷ []) ++ arguments_pieces n args)
  expression_pieces n (and_expression line left right) = expression_pieces n left ++ token TokenKind.And ∷ expression_pieces n right
  expression_pieces n (or_expression line left right) = expression_pieces n left ++ token TokenKind.Or ∷ expression_pieces n right
  expression_pieces n (binary_expression line op left right) = expression_pieces n left ++ token (spell_op op) ∷ expression_pieces n right
  expression_pieces n (unary_expression line op of) = token (spell_unary op) ∷ expression_pieces n of
  expression_pieces n (constructor line fields) = token TokenKind.OpenBrace ∷ fields_pieces n fields ++ token TokenKind.CloseBrace ∷ []
  expression_pieces n (parenthesized line e) = token TokenKind.OpenParen ∷ expression_pieces n e ++ token TokenKind.CloseParen ∷ []

  pub arguments_pieces : (blocks : ℕ) → Arguments → List Piece
  arguments_pieces n (argument_list es) = token TokenKind.OpenParen ∷ expressions_pieces n es ++ token TokenKind.CloseParen ∷ []
  arguments_pieces n (text_argument text) = token (TokenKind.Text text) ∷ []
  arguments_pieces n (table_argument fields) = token TokenKind.OpenBrace ∷ fields_pieces n fields ++ token TokenKind.CloseBrace ∷ []

  pub fields_pieces : (blocks : ℕ) → Fields → List Piece
  fields_pieces n no_fields = []
  fields_pieces n (positional e separator rest) = expression_pieces n e ++ (tokens (spell_separator separator) ++ fields_pieces n rest)
  fields_pieces n (named name e separator rest) = tokens (TokenKind.Name name ∷ TokenKind.Equal ∷ []) ++ (expression_pieces n e ++ (tokens (spell_separator separator) ++ fields_pieces n rest))
  fields_pieces n (keyed key e separator rest) =
      token TokenKind.OpenBracket ∷ expression_pieces n key ++ (tokens (TokenKind.CloseBracket ∷ TokenKind.Equal ∷ []) ++ (expression_pieces n e ++ (tokens (spell_separator separator) ++ fields_pieces n rest)))

abbrev pub source_pieces : Source → List Piece
source_pieces source = statements_pieces 0 source.body

-- ---- tokens as they are printed

-- a text stands between quotes, as a listing has it
abbrev pub token_text : TokenKind → Text
token_text TokenKind.And = codes "and"
token_text TokenKind.Break = codes "break"
token_text TokenKind.Do = codes "do"
token_text TokenKind.Else = codes "else"
token_text TokenKind.Elseif = codes "elseif"
token_text TokenKind.End = codes "end"
token_text TokenKind.False = codes "false"
token_text TokenKind.For = codes "for"
token_text TokenKind.Function = codes "function"
token_text TokenKind.If = codes "if"
token_text TokenKind.In = codes "in"
token_text TokenKind.Local = codes "local"
token_text TokenKind.Nil = codes "nil"
token_text TokenKind.Not = codes "not"
token_text TokenKind.Or = codes "or"
token_text TokenKind.Repeat = codes "repeat"
token_text TokenKind.Return = codes "return"
token_text TokenKind.Then = codes "then"
token_text TokenKind.True = codes "true"
token_text TokenKind.Until = codes "until"
token_text TokenKind.While = codes "while"
token_text (TokenKind.Name name) = name
token_text (TokenKind.Number number) = decimal_text number
token_text (TokenKind.Text text) = quoted text
token_text TokenKind.Plus = codes "+"
token_text TokenKind.Minus = codes "-"
token_text TokenKind.Star = codes "*"
token_text TokenKind.Slash = codes "/"
token_text TokenKind.Percent = codes "%"
token_text TokenKind.Caret = codes "^"
token_text TokenKind.Hash = codes "#"
token_text TokenKind.EqualEqual = codes "=="
token_text TokenKind.TildeEqual = codes "~="
token_text TokenKind.LessEqual = codes "<="
token_text TokenKind.GreaterEqual = codes ">="
token_text TokenKind.Less = codes "<"
token_text TokenKind.Greater = codes ">"
token_text TokenKind.Equal = codes "="
token_text TokenKind.OpenParen = codes "("
token_text TokenKind.CloseParen = codes ")"
token_text TokenKind.OpenBrace = codes "{"
token_text TokenKind.CloseBrace = codes "}"
token_text TokenKind.OpenBracket = codes "["
token_text TokenKind.CloseBracket = codes "]"
token_text TokenKind.Semicolon = codes ";"
token_text TokenKind.Colon = codes ":"
token_text TokenKind.Comma = codes ","
token_text TokenKind.Dot = codes "."
token_text TokenKind.DotDot = codes ".."
token_text TokenKind.DotDotDot = codes "..."

-- ---- where no space stands between two tokens of a line

-- behind `(`, `[`, `{`, `.`, `:` and `#`
abbrev pub is_close_behind : TokenKind → Bool
is_close_behind TokenKind.OpenParen = true
is_close_behind TokenKind.OpenBracket = true
is_close_behind TokenKind.OpenBrace = true
is_close_behind TokenKind.Dot = true
is_close_behind TokenKind.Colon = true
is_close_behind TokenKind.Hash = true
is_close_behind kind = false

-- before `)`, `]`, `}`, `,`, `;`, `.` and `:`
abbrev pub is_close_before : TokenKind → Bool
is_close_before TokenKind.CloseParen = true
is_close_before TokenKind.CloseBracket = true
is_close_before TokenKind.CloseBrace = true
is_close_before TokenKind.Comma = true
is_close_before TokenKind.Semicolon = true
is_close_before TokenKind.Dot = true
is_close_before TokenKind.Colon = true
is_close_before kind = false

-- between a name, a text, `)` or `]`
abbrev pub takes_bracket : TokenKind → Bool
takes_bracket (TokenKind.Name name) = true
takes_bracket (TokenKind.Text text) = true
takes_bracket TokenKind.CloseParen = true
takes_bracket TokenKind.CloseBracket = true
takes_bracket kind = false

-- and `(` or `[`
abbrev pub is_bracket : TokenKind → Bool
is_bracket TokenKind.OpenParen = true
is_bracket TokenKind.OpenBracket = true
is_bracket kind = false

-- A space stands between tokens that would be read as others without it, wherever they stand; in no source do such tokens stand where there is none: `[` before `[` or `=`, and points beside points
-- or numerals.
abbrev pub run_together : TokenKind → TokenKind → Bool
run_together TokenKind.OpenBracket TokenKind.OpenBracket = true
run_together TokenKind.OpenBracket TokenKind.Equal = true
run_together TokenKind.OpenBracket TokenKind.EqualEqual = true
run_together TokenKind.Dot TokenKind.Dot = true
run_together TokenKind.Dot TokenKind.DotDot = true
run_together TokenKind.Dot TokenKind.DotDotDot = true
run_together TokenKind.Dot (TokenKind.Number number) = true
run_together TokenKind.DotDot TokenKind.Dot = true
run_together TokenKind.DotDotDot TokenKind.Dot = true
run_together (TokenKind.Number number) TokenKind.Dot = true
run_together last next = false

abbrev pub has_space : TokenKind → TokenKind → Bool
has_space last next = run_together last next || not (is_close_behind last || is_close_before next || (takes_bracket last && is_bracket next))

-- ---- the text

-- what is printed so far, and the last token of its line
pub record Page : Type 0 where
  pub text : Text
  pub last : Option TokenKind

abbrev pub empty_page : Page
empty_page = record { text = []; last = None }

abbrev pub gap : Option TokenKind → TokenKind → Text
gap None next = []
gap (Some last) next = if has_space last next then 32 ∷ [] else []

-- the first line of a text begins by itself
abbrev pub line_start : Text → (blocks : ℕ) → Text
line_start [] n = []
line_start (byte ∷ text) n = 10 ∷ replicate (2 * n) 32

abbrev pub with_piece : Piece → Page → Page
with_piece (token kind) page = record { text = page.text ++ (gap page.last kind ++ token_text kind); last = Some kind }
with_piece (new_line n) page = record { text = page.text ++ line_start page.text n; last = None }

abbrev pub with_pieces : List Piece → Page → Page
with_pieces [] page = page
with_pieces (piece ∷ pieces) page = with_pieces pieces (with_piece piece page)

-- the text ends with a line end, but for the empty one
abbrev pub finished_text : Text → Text
finished_text [] = []
finished_text (byte ∷ text) = (byte ∷ text) ++ 10 ∷ []

abbrev pub finished : Page → Text
finished page = finished_text page.text

abbrev pub printed : Source → Text
printed source = finished (with_pieces (source_pieces source) empty_page)
