-- To be believed. The tokens of a source, read off the grammar (manual 8).
use Rattle.std.specs.Prelude.{Bool, true, false, List, [], ◌∷◌, ◌++◌, Option, Some, None}
use Rattle.lua_tree.specs.Syntax.{Statements, no_statements, statement, Statement, assignment, call_statement, do_block, while_loop, repeat_loop, if_statement, numeric_for, generic_for, function_statement, local_function, local_statement, return_statement, break_statement, Branches, no_branches, branch, Otherwise, no_otherwise, otherwise, ForStep, no_step, by_step, FunctionBody, function_body, Expressions, no_expressions, expression, Expression, nil_literal, true_literal, false_literal, vararg_expression, number_literal, text_literal, name_expression, function_expression, index_expression, field_expression, call_expression, method_call, and_expression, or_expression, binary_expression, unary_expression, constructor, parenthesized, Arguments, argument_list, text_argument, table_argument, Fields, no_fields, positional, named, keyed, Source}
use Rattle.lua_num.specs.Bytes.{Text}
use Rattle.lua_tree.specs.declared.token.TokenKind.{TokenKind}
use Rattle.lua_tree.specs.declared.tree.BinaryOp.{BinaryOp}
use Rattle.lua_tree.specs.declared.tree.UnaryOp.{UnaryOp}
use Rattle.lua_tree.specs.declared.tree.Separator.{Separator}

abbrev pub Kinds : Type 0
Kinds = List TokenKind

abbrev pub spell_op : BinaryOp → TokenKind
spell_op BinaryOp.Add = TokenKind.Plus
spell_op BinaryOp.Sub = TokenKind.Minus
spell_op BinaryOp.Mul = TokenKind.Star
spell_op BinaryOp.Div = TokenKind.Slash
spell_op BinaryOp.Rem = TokenKind.Percent
spell_op BinaryOp.Pow = TokenKind.Caret
spell_op BinaryOp.Concat = TokenKind.DotDot
spell_op BinaryOp.Eq = TokenKind.EqualEqual
spell_op BinaryOp.Ne = TokenKind.TildeEqual
spell_op BinaryOp.Lt = TokenKind.Less
spell_op BinaryOp.Le = TokenKind.LessEqual
spell_op BinaryOp.Gt = TokenKind.Greater
spell_op BinaryOp.Ge = TokenKind.GreaterEqual

abbrev pub spell_unary : UnaryOp → TokenKind
spell_unary UnaryOp.Neg = TokenKind.Minus
spell_unary UnaryOp.Not = TokenKind.Not
spell_unary UnaryOp.Len = TokenKind.Hash

abbrev pub spell_separator : Separator → Kinds
spell_separator Separator.Comma = TokenKind.Comma ∷ []
spell_separator Separator.Semicolon = TokenKind.Semicolon ∷ []
spell_separator Separator.Missing = []

abbrev pub spell_semi : Bool → Kinds
spell_semi true = TokenKind.Semicolon ∷ []
spell_semi false = []

-- more names, each behind a mark
abbrev pub more_names : TokenKind → List Text → Kinds
more_names mark [] = []
more_names mark (n ∷ ns) = mark ∷ TokenKind.Name n ∷ more_names mark ns

-- names with a mark between them
abbrev pub spell_names : TokenKind → List Text → Kinds
spell_names mark [] = []
spell_names mark (n ∷ ns) = TokenKind.Name n ∷ more_names mark ns

abbrev pub spell_method : Option Text → Kinds
spell_method None = []
spell_method (Some n) = TokenKind.Colon ∷ TokenKind.Name n ∷ []

abbrev pub spell_dots : List Text → Bool → Kinds
spell_dots ns false = []
spell_dots [] true = TokenKind.DotDotDot ∷ []
spell_dots (n ∷ ns) true = TokenKind.Comma ∷ TokenKind.DotDotDot ∷ []

abbrev pub spell_params : List Text → Bool → Kinds
spell_params ns vararg = spell_names TokenKind.Comma ns ++ spell_dots ns vararg

abbrev pub spell_loop : Kinds → Kinds
spell_loop b = TokenKind.Do ∷ b ++ TokenKind.End ∷ []

abbrev mutual
  pub spell_statements : Statements → Kinds
  spell_statements no_statements = []
  spell_statements (statement l semi s rest) = spell_statement s ++ (spell_semi semi ++ spell_statements rest)

  pub spell_statement : Statement → Kinds
  spell_statement (assignment ts es) = spell_expressions ts ++ TokenKind.Equal ∷ spell_expressions es
  spell_statement (call_statement e) = spell_expression e
  spell_statement (do_block b) = TokenKind.Do ∷ spell_statements b ++ TokenKind.End ∷ []
  spell_statement (while_loop e b) = TokenKind.While ∷ spell_expression e ++ TokenKind.Do ∷ (spell_statements b ++ TokenKind.End ∷ [])
  spell_statement (repeat_loop b e) = TokenKind.Repeat ∷ spell_statements b ++ TokenKind.Until ∷ spell_expression e
  spell_statement (if_statement arms last) = spell_arms arms TokenKind.If ++ (spell_else last ++ TokenKind.End ∷ [])
  spell_statement (numeric_for n a z step b) =
      TokenKind.For ∷ TokenKind.Name n ∷ TokenKind.Equal ∷ spell_expression a ++ TokenKind.Comma ∷ (spell_expression z ++ (spell_step step ++ spell_loop (spell_statements b)))
  spell_statement (generic_for ns es b) =
      TokenKind.For ∷ spell_names TokenKind.Comma ns ++ TokenKind.In ∷ (spell_expressions es ++ TokenKind.Do ∷ (spell_statements b ++ TokenKind.End ∷ []))
  spell_statement (function_statement path m f) = TokenKind.Function ∷ spell_names TokenKind.Dot path ++ (spell_method m ++ spell_body f)
  spell_statement (local_function n f) = TokenKind.Local ∷ TokenKind.Function ∷ TokenKind.Name n ∷ spell_body f
  spell_statement (local_statement ns es) = TokenKind.Local ∷ spell_names TokenKind.Comma ns ++ spell_values es
  spell_statement (return_statement es) = TokenKind.Return ∷ spell_expressions es
  spell_statement break_statement = TokenKind.Break ∷ []

  pub spell_arms : Branches → TokenKind → Kinds
  spell_arms no_branches word = []
  spell_arms (branch c b rest) word = word ∷ spell_expression c ++ TokenKind.Then ∷ (spell_statements b ++ spell_arms rest TokenKind.Elseif)

  pub spell_else : Otherwise → Kinds
  spell_else no_otherwise = []
  spell_else (otherwise b) = TokenKind.Else ∷ spell_statements b

  pub spell_step : ForStep → Kinds
  spell_step no_step = []
  spell_step (by_step e) = TokenKind.Comma ∷ spell_expression e

  pub spell_body : FunctionBody → Kinds
  spell_body (function_body ps v b first last) = TokenKind.OpenParen ∷ spell_params ps v ++ TokenKind.CloseParen ∷ (spell_statements b ++ TokenKind.End ∷ [])

  -- the right sides of a local statement
  pub spell_values : Expressions → Kinds
  spell_values no_expressions = []
  spell_values (expression e rest) = TokenKind.Equal ∷ spell_expression e ++ more_expressions rest

  pub spell_expressions : Expressions → Kinds
  spell_expressions no_expressions = []
  spell_expressions (expression e rest) = spell_expression e ++ more_expressions rest

  pub more_expressions : Expressions → Kinds
  more_expressions no_expressions = []
  more_expressions (expression e rest) = TokenKind.Comma ∷ spell_expression e ++ more_expressions rest

  pub spell_expression : Expression → Kinds
  spell_expression (nil_literal l) = TokenKind.Nil ∷ []
  spell_expression (true_literal l) = TokenKind.True ∷ []
  spell_expression (false_literal l) = TokenKind.False ∷ []
  spell_expression (vararg_expression l) = TokenKind.DotDotDot ∷ []
  spell_expression (number_literal l n) = TokenKind.Number n ∷ []
  spell_expression (text_literal l t) = TokenKind.Text t ∷ []
  spell_expression (name_expression l n) = TokenKind.Name n ∷ []
  spell_expression (function_expression l f) = TokenKind.Function ∷ spell_body f
  spell_expression (index_expression l on key) = spell_expression on ++ TokenKind.OpenBracket ∷ (spell_expression key ++ TokenKind.CloseBracket ∷ [])
  spell_expression (field_expression l on n) = spell_expression on ++ TokenKind.Dot ∷ TokenKind.Name n ∷ []
  spell_expression (call_expression l on args ol) = spell_expression on ++ spell_arguments args
  spell_expression (method_call l on n args ol) = spell_expression on ++ TokenKind.Colon ∷ TokenKind.Name n ∷ spell_arguments args
  spell_expression (and_expression l a b) = spell_expression a ++ TokenKind.And ∷ spell_expression b
  spell_expression (or_expression l a b) = spell_expression a ++ TokenKind.Or ∷ spell_expression b
  spell_expression (binary_expression l op a b) = spell_expression a ++ spell_op op ∷ spell_expression b
  spell_expression (unary_expression l op a) = spell_unary op ∷ spell_expression a
  spell_expression (constructor l fs) = TokenKind.OpenBrace ∷ spell_fields fs ++ TokenKind.CloseBrace ∷ []
  spell_expression (parenthesized l e) = TokenKind.OpenParen ∷ spell_expression e ++ TokenKind.CloseParen ∷ []

  pub spell_arguments : Arguments → Kinds
  spell_arguments (argument_list es) = TokenKind.OpenParen ∷ spell_expressions es ++ TokenKind.CloseParen ∷ []
  spell_arguments (text_argument t) = TokenKind.Text t ∷ []
  spell_arguments (table_argument fs) = TokenKind.OpenBrace ∷ spell_fields fs ++ TokenKind.CloseBrace ∷ []

  pub spell_fields : Fields → Kinds
  spell_fields no_fields = []
  spell_fields (positional e s rest) = spell_expression e ++ (spell_separator s ++ spell_fields rest)
  spell_fields (named n e s rest) = TokenKind.Name n ∷ TokenKind.Equal ∷ spell_expression e ++ (spell_separator s ++ spell_fields rest)
  spell_fields (keyed k e s rest) =
      TokenKind.OpenBracket ∷ spell_expression k ++ TokenKind.CloseBracket ∷ TokenKind.Equal ∷ (spell_expression e ++ (spell_separator s ++ spell_fields rest))

-- the tokens of a source
abbrev pub spell_source : Source → Kinds
spell_source source = spell_statements source.body
