-- The tokens of a formed tree are in their ranges, where its numbers have 64 bits and its texts are made of bytes.
use Rattle.std.proofs.Common.{◌≡◌, ℕ, suc, ◌<◌, ◌^◌, nat_lt, Bool, true, false, List, [], ◌∷◌, ◌++◌, Option, Some, None, pos, negsuc, refl, arith}
use Rattle.std.proofs.lemmas.Bool.Decides.{nat_tests}
use Rattle.lua_num.specs.Bytes.{Text}
use Rattle.lua_num.proofs.Bytes.{each_passed}
use Rattle.lua_tree.specs.Syntax.{Statements, no_statements, statement, Statement, assignment, call_statement, do_block, while_loop, repeat_loop, if_statement, numeric_for, generic_for, function_statement, local_function, local_statement, return_statement, break_statement, Branches, no_branches, branch, Otherwise, no_otherwise, otherwise, ForStep, no_step, by_step, FunctionBody, function_body, Expressions, no_expressions, expression, Expression, number_literal, name_expression, function_expression, index_expression, field_expression, call_expression, method_call, and_expression, or_expression, binary_expression, unary_expression, constructor, parenthesized, Arguments, argument_list, text_argument, table_argument, Fields, no_fields, positional, named, keyed, Source}
use Rattle.lua_tree.specs.Names.{is_name, are_names, are_some_names}
use Rattle.lua_tree.specs.Spelling.{Kinds, spell_op, spell_unary, spell_semi, spell_separator, more_names, spell_names, spell_method, spell_dots, spell_params}
use Rattle.lua_tree.specs.WellFormed.{WellFormed, is_numeral_value, is_optional_name, formed_statements, formed_statement, formed_branches, formed_otherwise, formed_step, formed_body, formed_expressions, formed_expression, formed_arguments, formed_fields}
use Rattle.lua_tree.specs.declared.token.TokenKind.{TokenKind}
use Rattle.lua_tree.specs.declared.tree.BinaryOp.{BinaryOp}
use Rattle.lua_tree.specs.declared.tree.UnaryOp.{UnaryOp}
use Rattle.lua_tree.specs.declared.tree.Separator.{Separator}
use Rattle.printer.specs.Layout.{Piece, token, new_line, tokens, loop_pieces, source_pieces, statements_pieces, statement_pieces, branches_pieces, more_branches_pieces, else_pieces, step_pieces, body_pieces, values_pieces, expressions_pieces, more_expressions_pieces, expression_pieces, arguments_pieces, fields_pieces}
use Rattle.printer.specs.Sheets.{is_held}
use Rattle.printer.proofs.Ranges.{IsInRange, AllInRange}
use Rattle.printer.proofs.Sheets.{AreHeld}
use Rattle.printer.proofs.Tests.{and_left, and_right}

-- what a formed tree gives: names are names, and numbers are not below 0
abbrev IsNamed : TokenKind → Type 0
IsNamed (TokenKind.Name name) = is_name name ≡ true
IsNamed (TokenKind.Number n) = is_numeral_value n ≡ true
IsNamed kind = Unit {0}

abbrev PieceNamed : Piece → Type 0
PieceNamed (token kind) = IsNamed kind
PieceNamed (new_line n) = Unit {0}

abbrev AreNamed : List Piece → Type 0
AreNamed [] = Unit {0}
AreNamed (piece ∷ pieces) = PieceNamed piece × AreNamed pieces

join : (p q : List Piece) → AreNamed p → AreNamed q → AreNamed (p ++ q)
join [] q one other = other
join (piece ∷ p) q one other = (one.0, join p q one.1 other)

tokens_join : (a b : Kinds) → AreNamed (tokens a) → AreNamed (tokens b) → AreNamed (tokens (a ++ b))
tokens_join [] b one other = other
tokens_join (kind ∷ a) b one other = (one.0, tokens_join a b one.1 other)

-- ---- names and marks

more_names_named : (mark : TokenKind) (names : List Text) → IsNamed mark → are_names names ≡ true → AreNamed (tokens (more_names mark names))
more_names_named mark [] marked h = tt
more_names_named mark (name ∷ names) marked h = (marked, (and_left _ _ h, more_names_named mark names marked (and_right (is_name name) _ h)))

names_named : (mark : TokenKind) (names : List Text) → IsNamed mark → are_names names ≡ true → AreNamed (tokens (spell_names mark names))
names_named mark [] marked h = tt
names_named mark (name ∷ names) marked h = (and_left _ _ h, more_names_named mark names marked (and_right (is_name name) _ h))

some_are_names : (names : List Text) → are_some_names names ≡ true → are_names names ≡ true
some_are_names [] h = cc
some_are_names (name ∷ names) h = h

dots_named : (names : List Text) (vararg : Bool) → AreNamed (tokens (spell_dots names vararg))
dots_named names false = tt
dots_named [] true = (tt, tt)
dots_named (name ∷ names) true = (tt, (tt, tt))

params_named : (names : List Text) (vararg : Bool) → are_names names ≡ true → AreNamed (tokens (spell_params names vararg))
params_named names vararg h = tokens_join (spell_names TokenKind.Comma names) (spell_dots names vararg) (names_named TokenKind.Comma names tt h) (dots_named names vararg)

method_named : (method : Option Text) → is_optional_name method ≡ true → AreNamed (tokens (spell_method method))
method_named None h = tt
method_named (Some name) h = (tt, (h, tt))

semicolon_named : (semi : Bool) → AreNamed (tokens (spell_semi semi))
semicolon_named true = (tt, tt)
semicolon_named false = tt

separator_named : (separator : Separator) → AreNamed (tokens (spell_separator separator))
separator_named Separator.Comma = (tt, tt)
separator_named Separator.Semicolon = (tt, tt)
separator_named Separator.Missing = tt

op_named : (op : BinaryOp) → IsNamed (spell_op op)
op_named BinaryOp.Add = tt
op_named op = tt

unary_named : (op : UnaryOp) → IsNamed (spell_unary op)
unary_named UnaryOp.Neg = tt
unary_named op = tt

-- ---- the tree

loop_named : (n : ℕ) (inside : List Piece) → AreNamed inside → AreNamed (loop_pieces n inside)
loop_named n inside h = (tt, join inside _ h (tt, (tt, tt)))

mutual
  statements_named : (n : ℕ) (block : Statements) → formed_statements block ≡ true → AreNamed (statements_pieces n block)
  statements_named n no_statements h = tt
  statements_named n (statement line semi s rest) h =
      (tt, join (statement_pieces n s) _ (statement_named n s (and_left _ _ h)) (join (tokens (spell_semi semi)) _ (semicolon_named semi) (statements_named n rest (and_right _ _ (and_right (formed_statement s) _ h)))))

  statement_named : (n : ℕ) (s : Statement) → formed_statement s ≡ true → AreNamed (statement_pieces n s)
  statement_named n (assignment targets es) h =
      let f = and_right _ _ (and_right _ _ h) in
      join (expressions_pieces n targets) _ (expressions_named n targets (and_left _ _ f)) (tt, expressions_named n es (and_right _ _ (and_right _ _ f)))
  statement_named n (call_statement e) h = expression_named n e (and_right _ _ h)
  statement_named n (do_block block) h = loop_named n _ (statements_named (suc n) block h)
  statement_named n (while_loop cond block) h = (tt, join (expression_pieces n cond) _ (expression_named n cond (and_left _ _ h)) (loop_named n _ (statements_named (suc n) block (and_right _ _ h))))
  statement_named n (repeat_loop block cond) h = (tt, join (statements_pieces (suc n) block) _ (statements_named (suc n) block (and_left _ _ h)) (tt, (tt, expression_named n cond (and_right _ _ h))))
  statement_named n (if_statement branches last) h =
      let f = and_right _ _ h in
      join (branches_pieces n branches) _ (branches_named n branches (and_left _ _ f)) (join (else_pieces n last) _ (otherwise_named n last (and_right _ _ f)) (tt, (tt, tt)))
  statement_named n (numeric_for name first last step block) h =
      let f = and_right _ _ h in
      let g = and_right _ _ f in
      let i = and_right _ _ g in (
        tt,
        (
          and_left _ _ h,
          (
            tt,
            join (expression_pieces n first) _ (expression_named n first (and_left _ _ f)) (
              tt,
              join (expression_pieces n last) _ (expression_named n last (and_left _ _ g))
                  (join (step_pieces n step) _ (step_named n step (and_left _ _ i)) (loop_named n _ (statements_named (suc n) block (and_right _ _ i)))),
            ),
          ),
        ),
      )
  statement_named n (generic_for names es block) h =
      let f = and_right _ _ (and_right _ _ h) in
      join (tokens (TokenKind.For ∷ spell_names TokenKind.Comma names ++ TokenKind.In ∷ [])) _
      (tt, tokens_join (spell_names TokenKind.Comma names) (TokenKind.In ∷ []) (names_named TokenKind.Comma names tt (some_are_names names (and_left _ _ h))) (tt, tt))
      (join (expressions_pieces n es) _ (expressions_named n es (and_left _ _ f)) (loop_named n _ (statements_named (suc n) block (and_right _ _ f))))
  statement_named n (function_statement path method body) h =
      let f = and_right _ _ h in
      join (tokens (TokenKind.Function ∷ spell_names TokenKind.Dot path ++ spell_method method)) _
      (tt, tokens_join (spell_names TokenKind.Dot path) (spell_method method) (names_named TokenKind.Dot path tt (some_are_names path (and_left _ _ h))) (method_named method (and_left _ _ f))) (body_named n body (and_right _ _ f))
  statement_named n (local_function name body) h = (tt, (tt, (and_left _ _ h, body_named n body (and_right _ _ h))))
  statement_named n (local_statement names es) h =
      (tt, join (tokens (spell_names TokenKind.Comma names)) _ (names_named TokenKind.Comma names tt (some_are_names names (and_left _ _ h))) (values_named n es (and_right _ _ h)))
  statement_named n (return_statement es) h = (tt, expressions_named n es h)
  statement_named n break_statement h = (tt, tt)

  branches_named : (n : ℕ) (branches : Branches) → formed_branches branches ≡ true → AreNamed (branches_pieces n branches)
  branches_named n no_branches h = tt
  branches_named n (branch cond block rest) h =
      let f = and_right _ _ h in
      (tt, join (expression_pieces n cond) _ (expression_named n cond (and_left _ _ h)) (tt, join (statements_pieces (suc n) block) _ (statements_named (suc n) block (and_left _ _ f)) (more_branches_named n rest (and_right _ _ f))))

  more_branches_named : (n : ℕ) (branches : Branches) → formed_branches branches ≡ true → AreNamed (more_branches_pieces n branches)
  more_branches_named n no_branches h = tt
  more_branches_named n (branch cond block rest) h =
      let f = and_right _ _ h in
      (tt, (tt, join (expression_pieces n cond) _ (expression_named n cond (and_left _ _ h)) (tt, join (statements_pieces (suc n) block) _ (statements_named (suc n) block (and_left _ _ f)) (more_branches_named n rest (and_right _ _ f)))))

  otherwise_named : (n : ℕ) (last : Otherwise) → formed_otherwise last ≡ true → AreNamed (else_pieces n last)
  otherwise_named n no_otherwise h = tt
  otherwise_named n (otherwise block) h = (tt, (tt, statements_named (suc n) block h))

  step_named : (n : ℕ) (step : ForStep) → formed_step step ≡ true → AreNamed (step_pieces n step)
  step_named n no_step h = tt
  step_named n (by_step e) h = (tt, expression_named n e h)

  body_named : (n : ℕ) (body : FunctionBody) → formed_body body ≡ true → AreNamed (body_pieces n body)
  body_named n (function_body params vararg block first last) h =
      join (tokens (TokenKind.OpenParen ∷ spell_params params vararg ++ TokenKind.CloseParen ∷ [])) _
      (tt, tokens_join (spell_params params vararg) (TokenKind.CloseParen ∷ []) (params_named params vararg (and_left _ _ h)) (tt, tt))
      (join (statements_pieces (suc n) block) _ (statements_named (suc n) block (and_right _ _ h)) (tt, (tt, tt)))

  values_named : (n : ℕ) (es : Expressions) → formed_expressions es ≡ true → AreNamed (values_pieces n es)
  values_named n no_expressions h = tt
  values_named n (expression e rest) h = (tt, join (expression_pieces n e) _ (expression_named n e (and_left _ _ h)) (more_named n rest (and_right _ _ h)))

  expressions_named : (n : ℕ) (es : Expressions) → formed_expressions es ≡ true → AreNamed (expressions_pieces n es)
  expressions_named n no_expressions h = tt
  expressions_named n (expression e rest) h = join (expression_pieces n e) _ (expression_named n e (and_left _ _ h)) (more_named n rest (and_right _ _ h))

  more_named : (n : ℕ) (es : Expressions) → formed_expressions es ≡ true → AreNamed (more_expressions_pieces n es)
  more_named n no_expressions h = tt
  more_named n (expression e rest) h = (tt, join (expression_pieces n e) _ (expression_named n e (and_left _ _ h)) (more_named n rest (and_right _ _ h)))

  expression_named : (n : ℕ) (e : Expression) → formed_expression e ≡ true → AreNamed (expression_pieces n e)
  expression_named n (number_literal line number) h = (h, tt)
  expression_named n (name_expression line name) h = (h, tt)
  expression_named n (function_expression line body) h = (tt, body_named n body h)
  expression_named n (index_expression line on key) h =
      let f = and_right _ _ h in
      join (expression_pieces n on) _ (expression_named n on (and_left _ _ f)) (tt, join (expression_pieces n key) _ (expression_named n key (and_right _ _ f)) (tt, tt))
  expression_named n (field_expression line on name) h =
      let f = and_right _ _ h in
      join (expression_pieces n on) _ (expression_named n on (and_left _ _ f)) (tt, (and_right _ _ f, tt))
  expression_named n (call_expression line on args on_line) h =
      let f = and_right _ _ h in
      join (expression_pieces n on) _ (expression_named n on (and_left _ _ f)) (arguments_named n args (and_right _ _ (and_right _ _ f)))
  expression_named n (method_call line on name args on_line) h =
      let f = and_right _ _ h in
      let g = and_right _ _ f in
      join (expression_pieces n on) _ (expression_named n on (and_left _ _ f)) (tt, (and_left _ _ g, arguments_named n args (and_right _ _ (and_right _ _ g))))
  expression_named n (and_expression line left right) h =
      let f = and_right _ _ (and_right _ _ h) in
      join (expression_pieces n left) _ (expression_named n left (and_left _ _ f)) (tt, expression_named n right (and_right _ _ f))
  expression_named n (or_expression line left right) h =
      let f = and_right _ _ (and_right _ _ h) in
      join (expression_pieces n left) _ (expression_named n left (and_left _ _ f)) (tt, expression_named n right (and_right _ _ f))
  expression_named n (binary_expression line op left right) h =
      let f = and_right _ _ (and_right _ _ h) in
      join (expression_pieces n left) _ (expression_named n left (and_left _ _ f)) (op_named op, expression_named n right (and_right _ _ f))
  expression_named n (unary_expression line op operand) h = (unary_named op, expression_named n operand (and_right _ _ h))
  expression_named n (constructor line fields) h = (tt, join (fields_pieces n fields) _ (fields_named n fields h) (tt, tt))
  expression_named n (parenthesized line e) h = (tt, join (expression_pieces n e) _ (expression_named n e h) (tt, tt))
  expression_named n e h = (tt, tt)

  arguments_named : (n : ℕ) (args : Arguments) → formed_arguments args ≡ true → AreNamed (arguments_pieces n args)
  arguments_named n (argument_list es) h = (tt, join (expressions_pieces n es) _ (expressions_named n es h) (tt, tt))
  arguments_named n (text_argument text) h = (tt, tt)
  arguments_named n (table_argument fields) h = (tt, join (fields_pieces n fields) _ (fields_named n fields h) (tt, tt))

  fields_named : (n : ℕ) (fields : Fields) → formed_fields fields ≡ true → AreNamed (fields_pieces n fields)
  fields_named n no_fields h = tt
  fields_named n (positional e separator rest) h =
      let f = and_right _ _ h in
      join (expression_pieces n e) _ (expression_named n e (and_left _ _ f)) (join (tokens (spell_separator separator)) _ (separator_named separator) (fields_named n rest (and_right _ _ f)))
  fields_named n (named name e separator rest) h =
      let f = and_right _ _ h in
      let g = and_right _ _ f in
      (and_left _ _ f, (tt, join (expression_pieces n e) _ (expression_named n e (and_left _ _ g)) (join (tokens (spell_separator separator)) _ (separator_named separator) (fields_named n rest (and_right _ _ g)))))
  fields_named n (keyed key e separator rest) h =
      let f = and_right _ _ h in
      let g = and_right _ _ f in (
        tt,
        join (expression_pieces n key) _ (expression_named n key (and_left _ _ f)) (
          tt,
          (
            tt,
            join (expression_pieces n e) _ (expression_named n e (and_left _ _ g))
                (join (tokens (spell_separator separator)) _ (separator_named separator) (fields_named n rest (and_right _ _ g))),
          ),
        ),
      )

-- ---- ranges

below_limit : (value limit : ℕ) → nat_lt value limit ≡ true → value < limit
below_limit value limit h = grind (arith, nat_tests)

in_range : (kind : TokenKind) → IsNamed kind → is_held kind ≡ true → IsInRange kind
in_range (TokenKind.Name name) good held = good
in_range (TokenKind.Number (pos value)) good held = (value, refl, below_limit value (2 ^ 63) held)
in_range (TokenKind.Number (negsuc value)) good held = cc
in_range (TokenKind.Text text) good held = each_passed (λ byte. nat_lt byte 256) text held
in_range kind good held = tt

all_in_range : (pieces : List Piece) → AreNamed pieces → AreHeld pieces → AllInRange pieces
all_in_range [] good held = tt
all_in_range (token kind ∷ pieces) good held = (in_range kind good.0 held.0, all_in_range pieces good.1 held.1)
all_in_range (new_line n ∷ pieces) good held = (tt, all_in_range pieces good.1 held.1)

pub source_range : (source : Source) → WellFormed source → AreHeld (source_pieces source) → AllInRange (source_pieces source)
source_range source formed held = all_in_range (source_pieces source) (statements_named 0 source.body formed.formed) held
