-- Which tokens spell small sources, with their lines: each construct, and trees that tokens on other lines do not spell.
use Rattle.std.proofs.Common.{◌≡◌, ℕ, pos, List, [], ◌∷◌, ◌++◌, refl, sym, ◌∙◌, arith}
use Rattle.std.specs.Prelude.{codes, true, false, Some}
use Prim.Native.String.{String}
use Rattle.lua_tree.specs.declared.token.TokenKind.{TokenKind}
use Rattle.lua_tree.specs.declared.token.TokenKind.TheVariants.{And, Break, Do, Else, Elseif, End, False, For, Function, If, In, Local, Nil, Not, Or, Repeat, Return, Then, True, Until, While, Name, Number, Text, Plus, Minus, Hash, Equal, OpenParen, CloseParen, OpenBrace, CloseBrace, OpenBracket, CloseBracket, Semicolon, Colon, Comma, Dot, DotDotDot}
use Rattle.lua_tree.specs.declared.token.Token.{Token}
use Rattle.lua_tree.specs.declared.tree.BinaryOp.TheVariants.{Add}
use Rattle.lua_tree.specs.declared.tree.UnaryOp.TheVariants.{Neg, Len, Not as Negation}
use Rattle.lua_tree.specs.declared.tree.Separator.TheVariants.{Comma as ByComma, Semicolon as BySemicolon, Missing}
use Rattle.lua_tree.specs.Syntax.{Statements, no_statements, statement, Statement, assignment, call_statement, do_block, while_loop, repeat_loop, if_statement, numeric_for, generic_for, function_statement, local_function, local_statement, return_statement, break_statement, no_branches, branch, no_otherwise, otherwise, no_step, by_step, function_body, Expressions, no_expressions, expression, Expression, nil_literal, true_literal, false_literal, vararg_expression, number_literal, text_literal, name_expression, function_expression, index_expression, field_expression, call_expression, method_call, and_expression, or_expression, binary_expression, unary_expression, constructor, parenthesized, argument_list, text_argument, table_argument, no_fields, positional, named, keyed, Source}
use Rattle.lua_tree.specs.Spelled.{Phrase, Meant, Part, word as a_word, word_on, from_line, to_line, of, parts, Spelled, no_part, by_word, by_word_on, by_next, by_last, by_phrase, SpellsSource}

-- where the tokens of some parts end and those of other parts begin
record Cut (those others : List Part) (line : ℕ) (tokens : List Token) (last : ℕ) (rest : List Token) : Type 0 where
  between : ℕ
  middle : List Token
  front : Spelled those line tokens between middle
  behind : Spelled others between middle last rest

cut : (those : List Part) {others : List Part} {line last : ℕ} {tokens rest : List Token} → Spelled (those ++ others) line tokens last rest → Cut those others line tokens last rest
cut [] s = record { between = _; middle = _; front = no_part; behind = s }
cut (a_word kind ∷ those) (by_word is s) =
    let c = cut those s in
    record { between = c.between; middle = c.middle; front = by_word is c.front; behind = c.behind }
cut (word_on on kind ∷ those) (by_word_on is where_is s) =
    let c = cut those s in
    record { between = c.between; middle = c.middle; front = by_word_on is where_is c.front; behind = c.behind }
cut (from_line on ∷ those) (by_next where_is s) =
    let c = cut those s in
    record { between = c.between; middle = c.middle; front = by_next where_is c.front; behind = c.behind }
cut (to_line on ∷ those) (by_last where_is s) =
    let c = cut those s in
    record { between = c.between; middle = c.middle; front = by_last where_is c.front; behind = c.behind }
cut (of phrase meant ∷ those) (by_phrase s t) =
    let c = cut those t in
    record { between = c.between; middle = c.middle; front = by_phrase s c.front; behind = c.behind }

-- a phrase is spelled by what spells its parts in its place, so that one token is read after the other
opened : {phrase : Phrase} {meant : Meant phrase} {others : List Part} {line last : ℕ} {tokens rest : List Token} → Spelled (parts phrase meant ++ others) line tokens last rest → Spelled (of phrase meant ∷ others) line tokens last rest
opened {phrase} {meant} s =
    let c = cut (parts phrase meant) s in
    by_phrase c.front c.behind

ruleset spelled = (no_part, by_word, by_word_on, by_next, by_last, opened)

-- a token at an offset on a line, and short words for kinds and parts of trees
abbrev token : TokenKind → (at line : ℕ) → Token
token kind at line = record { kind = kind; at = at; line = line }

abbrev word : String → TokenKind
word name = Name (codes name)

abbrev number : ℕ → TokenKind
number n = Number (pos n)

abbrev quoted : String → TokenKind
quoted text = Text (codes text)

abbrev source : Statements → (last_line : ℕ) → Source
source body last_line = record { body = body; last_line = last_line }

abbrev alone : (line : ℕ) → Statement → Statements
alone line s = statement line false s no_statements

abbrev one : Expression → Expressions
one e = expression e no_expressions

abbrev pair : Expression → Expression → Expressions
pair e d = expression e (one d)

abbrev var : (line : ℕ) → String → Expression
var line name = name_expression line (codes name)

abbrev numeral : (line n : ℕ) → Expression
numeral line n = number_literal line (pos n)

-- `f()`
abbrev f_call : (line : ℕ) → Statement
f_call line = call_statement (call_expression line (var line "f") (argument_list no_expressions) line)

-- no token at all: the last line is 1
empty : SpellsSource (source no_statements 1) []
empty = search spelled depth 100 fits 2000

-- `return nil, true, false, ..., 's'`
literals : SpellsSource (source (alone 1 (return_statement (expression (nil_literal 1) (expression (true_literal 1) (expression (false_literal 1) (expression (vararg_expression 1) (one (text_literal 1 (codes "s"))))))))) 1) (token Return 0 1 ∷ token Nil 7 1 ∷ token Comma 10 1 ∷ token True 12 1 ∷ token Comma 16 1 ∷ token False 18 1 ∷ token Comma 23 1 ∷ token DotDotDot 25 1 ∷ token Comma 28 1 ∷ token (quoted "s") 30 1 ∷ [])
literals = search spelled depth 100 fits 2000

-- lines `a:`, `m(1)`: the name on another line than the mark before it
method_over_two_lines : SpellsSource (source (alone 1 (call_statement (method_call 2 (var 1 "a") (codes "m") (argument_list (one (numeral 2 1))) 2))) 2) (token (word "a") 0 1 ∷ token Colon 1 1 ∷ token (word "m") 3 2 ∷ token OpenParen 4 2 ∷ token (number 1) 5 2 ∷ token CloseParen 6 2 ∷ [])
method_over_two_lines = search spelled depth 100 fits 2000

-- lines `f`, `'s'`: the arguments on another line than what is called
text_on_second_line : SpellsSource (source (alone 1 (call_statement (call_expression 2 (var 1 "f") (text_argument (codes "s")) 1))) 2) (token (word "f") 0 1 ∷ token (quoted "s") 2 2 ∷ [])
text_on_second_line = search spelled depth 100 fits 2000

-- lines `a.f`, `{}`
table_argument_on_second_line : SpellsSource (source (alone 1 (call_statement (call_expression 2 (field_expression 1 (var 1 "a") (codes "f")) (table_argument no_fields) 1))) 2) (token (word "a") 0 1 ∷ token Dot 1 1 ∷ token (word "f") 2 1 ∷ token OpenBrace 4 2 ∷ token CloseBrace 5 2 ∷ [])
table_argument_on_second_line = search spelled depth 100 fits 2000

-- lines `a = b`, `.c`, `[1]`: a field has the line of `.`, an index that of `[`
index_of_field : SpellsSource (source (alone 1 (assignment (one (var 1 "a")) (one (index_expression 3 (field_expression 2 (var 1 "b") (codes "c")) (numeral 3 1))))) 3) (token (word "a") 0 1 ∷ token Equal 2 1 ∷ token (word "b") 4 1 ∷ token Dot 6 2 ∷ token (word "c") 7 2 ∷ token OpenBracket 9 3 ∷ token (number 1) 10 3 ∷ token CloseBracket 11 3 ∷ [])
index_of_field = search spelled depth 100 fits 2000

-- lines `x = a`, `and b`, `or c`: each has the line of its first token
operands_below : SpellsSource (source (alone 1 (assignment (one (var 1 "x")) (one (or_expression 1 (and_expression 1 (var 1 "a") (var 2 "b")) (var 3 "c"))))) 3) (token (word "x") 0 1 ∷ token Equal 2 1 ∷ token (word "a") 4 1 ∷ token And 6 2 ∷ token (word "b") 10 2 ∷ token Or 12 3 ∷ token (word "c") 15 3 ∷ [])
operands_below = search spelled depth 100 fits 2000

-- lines `if a then`, `f()`, `elseif b then`, `return`, `else`, `do end`, `end`
ifs : SpellsSource (source (alone 1 (if_statement (branch (var 1 "a") (alone 2 (f_call 2)) (branch (var 3 "b") (alone 4 (return_statement no_expressions)) no_branches)) (otherwise (alone 6 (do_block no_statements))))) 7) (token If 0 1 ∷ token (word "a") 3 1 ∷ token Then 5 1 ∷ token (word "f") 10 2 ∷ token OpenParen 11 2 ∷ token CloseParen 12 2 ∷ token Elseif 14 3 ∷ token (word "b") 21 3 ∷ token Then 23 3 ∷ token Return 28 4 ∷ token Else 35 5 ∷ token Do 40 6 ∷ token End 43 6 ∷ token End 47 7 ∷ [])
ifs = search spelled depth 100 fits 2000

-- `if a then end`
if_alone : SpellsSource (source (alone 1 (if_statement (branch (var 1 "a") no_statements no_branches) no_otherwise)) 1) (token If 0 1 ∷ token (word "a") 3 1 ∷ token Then 5 1 ∷ token End 10 1 ∷ [])
if_alone = search spelled depth 100 fits 2000

-- lines `for i = 1, 2 do`, `end`, `for i = 3, 1, -1 do f() end`
numeric_fors : SpellsSource (source (statement 1 false (numeric_for (codes "i") (numeral 1 1) (numeral 1 2) no_step no_statements) (alone 3 (numeric_for (codes "i") (numeral 3 3) (numeral 3 1) (by_step (unary_expression 3 Neg (numeral 3 1))) (alone 3 (f_call 3))))) 3) (token For 0 1 ∷ token (word "i") 4 1 ∷ token Equal 6 1 ∷ token (number 1) 8 1 ∷ token Comma 9 1 ∷ token (number 2) 11 1 ∷ token Do 13 1 ∷ token End 16 2 ∷ token For 20 3 ∷ token (word "i") 24 3 ∷ token Equal 26 3 ∷ token (number 3) 28 3 ∷ token Comma 29 3 ∷ token (number 1) 31 3 ∷ token Comma 32 3 ∷ token Minus 34 3 ∷ token (number 1) 35 3 ∷ token Do 37 3 ∷ token (word "f") 40 3 ∷ token OpenParen 41 3 ∷ token CloseParen 42 3 ∷ token End 44 3 ∷ [])
numeric_fors = search spelled depth 100 fits 2000

-- lines `for k, v in f, t do`, `f()`, `end`
generic_for_two : SpellsSource (source (alone 1 (generic_for (codes "k" ∷ codes "v" ∷ []) (pair (var 1 "f") (var 1 "t")) (alone 2 (f_call 2)))) 3) (token For 0 1 ∷ token (word "k") 4 1 ∷ token Comma 5 1 ∷ token (word "v") 7 1 ∷ token In 9 1 ∷ token (word "f") 12 1 ∷ token Comma 13 1 ∷ token (word "t") 15 1 ∷ token Do 17 1 ∷ token (word "f") 20 2 ∷ token OpenParen 21 2 ∷ token CloseParen 22 2 ∷ token End 24 3 ∷ [])
generic_for_two = search spelled depth 100 fits 2000

-- lines `while a do`, `break`, `end`
while_with_break : SpellsSource (source (alone 1 (while_loop (var 1 "a") (alone 2 break_statement))) 3) (token While 0 1 ∷ token (word "a") 6 1 ∷ token Do 8 1 ∷ token Break 11 2 ∷ token End 17 3 ∷ [])
while_with_break = search spelled depth 100 fits 2000

-- lines `repeat`, `f()`, `until a`, `do f() end`
repeat_and_do : SpellsSource (source (statement 1 false (repeat_loop (alone 2 (f_call 2)) (var 3 "a")) (alone 4 (do_block (alone 4 (f_call 4))))) 4) (token Repeat 0 1 ∷ token (word "f") 7 2 ∷ token OpenParen 8 2 ∷ token CloseParen 9 2 ∷ token Until 11 3 ∷ token (word "a") 17 3 ∷ token Do 19 4 ∷ token (word "f") 22 4 ∷ token OpenParen 23 4 ∷ token CloseParen 24 4 ∷ token End 26 4 ∷ [])
repeat_and_do = search spelled depth 100 fits 2000

-- lines `function a.b:c(x, ...)`, `return x`, `end`: a body has the lines of its `function` and its `end`
method_function : SpellsSource (source (alone 1 (function_statement (codes "a" ∷ codes "b" ∷ []) (Some (codes "c")) (function_body (codes "x" ∷ []) true (alone 2 (return_statement (one (var 2 "x")))) 1 3))) 3) (token Function 0 1 ∷ token (word "a") 9 1 ∷ token Dot 10 1 ∷ token (word "b") 11 1 ∷ token Colon 12 1 ∷ token (word "c") 13 1 ∷ token OpenParen 14 1 ∷ token (word "x") 15 1 ∷ token Comma 16 1 ∷ token DotDotDot 18 1 ∷ token CloseParen 21 1 ∷ token Return 23 2 ∷ token (word "x") 30 2 ∷ token End 32 3 ∷ [])
method_function = search spelled depth 100 fits 2000

-- lines `local`, `function f(...)`, `end`: the line of a body is that of `function`, which may stand below `local`
local_function_below : SpellsSource (source (alone 1 (local_function (codes "f") (function_body [] true no_statements 2 3))) 3) (token Local 0 1 ∷ token Function 6 2 ∷ token (word "f") 15 2 ∷ token OpenParen 16 2 ∷ token DotDotDot 17 2 ∷ token CloseParen 20 2 ∷ token End 22 3 ∷ [])
local_function_below = search spelled depth 100 fits 2000

-- lines `x =`, `function(a, b)`, `end`
function_in_expression : SpellsSource (source (alone 1 (assignment (one (var 1 "x")) (one (function_expression 2 (function_body (codes "a" ∷ codes "b" ∷ []) false no_statements 2 3))))) 3) (token (word "x") 0 1 ∷ token Equal 2 1 ∷ token Function 4 2 ∷ token OpenParen 12 2 ∷ token (word "a") 13 2 ∷ token Comma 14 2 ∷ token (word "b") 16 2 ∷ token CloseParen 17 2 ∷ token End 19 3 ∷ [])
function_in_expression = search spelled depth 100 fits 2000

-- lines `local a, b = 1`, `local c`
locals : SpellsSource (source (statement 1 false (local_statement (codes "a" ∷ codes "b" ∷ []) (one (numeral 1 1))) (alone 2 (local_statement (codes "c" ∷ []) no_expressions))) 2) (token Local 0 1 ∷ token (word "a") 6 1 ∷ token Comma 7 1 ∷ token (word "b") 9 1 ∷ token Equal 11 1 ∷ token (number 1) 13 1 ∷ token Local 15 2 ∷ token (word "c") 21 2 ∷ [])
locals = search spelled depth 100 fits 2000

-- lines `f();`, `return 1, 2;`
semicolons : SpellsSource (source (statement 1 true (f_call 1) (statement 2 true (return_statement (pair (numeral 2 1) (numeral 2 2))) no_statements)) 2) (token (word "f") 0 1 ∷ token OpenParen 1 1 ∷ token CloseParen 2 1 ∷ token Semicolon 3 1 ∷ token Return 5 2 ∷ token (number 1) 12 2 ∷ token Comma 13 2 ∷ token (number 2) 15 2 ∷ token Semicolon 16 2 ∷ [])
semicolons = search spelled depth 100 fits 2000

-- lines `t = {1,`, `a = 2;`, `[3] = 4}`: each item, each separator, and none behind the last
items : SpellsSource (source (alone 1 (assignment (one (var 1 "t")) (one (constructor 1 (positional (numeral 1 1) ByComma (named (codes "a") (numeral 2 2) BySemicolon (keyed (numeral 3 3) (numeral 3 4) Missing no_fields))))))) 3) (token (word "t") 0 1 ∷ token Equal 2 1 ∷ token OpenBrace 4 1 ∷ token (number 1) 5 1 ∷ token Comma 6 1 ∷ token (word "a") 8 2 ∷ token Equal 10 2 ∷ token (number 2) 12 2 ∷ token Semicolon 13 2 ∷ token OpenBracket 15 3 ∷ token (number 3) 16 3 ∷ token CloseBracket 17 3 ∷ token Equal 19 3 ∷ token (number 4) 21 3 ∷ token CloseBrace 22 3 ∷ [])
items = search spelled depth 100 fits 2000

-- lines `x = -`, `(not`, `#(a))`: an operator of one operand, and parentheses, have the line of their first token
unaries : SpellsSource (source (alone 1 (assignment (one (var 1 "x")) (one (unary_expression 1 Neg (parenthesized 2 (unary_expression 2 Negation (unary_expression 3 Len (parenthesized 3 (var 3 "a"))))))))) 3) (token (word "x") 0 1 ∷ token Equal 2 1 ∷ token Minus 4 1 ∷ token OpenParen 6 2 ∷ token Not 7 2 ∷ token Hash 11 3 ∷ token OpenParen 12 3 ∷ token (word "a") 13 3 ∷ token CloseParen 14 3 ∷ token CloseParen 15 3 ∷ [])
unaries = search spelled depth 100 fits 2000

-- lines `a, b.y = 1,`, `2`
two_targets : SpellsSource (source (alone 1 (assignment (pair (var 1 "a") (field_expression 1 (var 1 "b") (codes "y"))) (pair (numeral 1 1) (numeral 2 2)))) 2) (token (word "a") 0 1 ∷ token Comma 1 1 ∷ token (word "b") 3 1 ∷ token Dot 4 1 ∷ token (word "y") 5 1 ∷ token Equal 7 1 ∷ token (number 1) 9 1 ∷ token Comma 10 1 ∷ token (number 2) 12 2 ∷ [])
two_targets = search spelled depth 100 fits 2000

-- the line of the last token, or of the token before them where there is none
abbrev last_of : (line : ℕ) → List Token → ℕ
last_of line [] = line
last_of line (token ∷ tokens) = last_of token.line tokens

-- a last line is that of the last token
last_is : {those : List Part} {line last : ℕ} {tokens rest : List Token} → Spelled those line tokens last rest → last_of line tokens ≡ last_of last rest
last_is no_part = refl
last_is (by_word is s) = last_is s
last_is (by_word_on is on s) = last_is s
last_is (by_next on s) = last_is s
last_is (by_last on s) = last_is s
last_is (by_phrase s t) = last_is s ∙ last_is t

-- tokens have one last line, whatever they spell
one_last_line : (tree other : Source) {tokens : List Token} → SpellsSource tree tokens → SpellsSource other tokens → tree.last_line ≡ other.last_line
one_last_line tree other s t = sym (last_is s) ∙ last_is t

-- `print(1)`, where what is called ends on the line of `print`
abbrev print_call : (on_line last_line : ℕ) → Source
print_call on_line last_line = source (alone 1 (call_statement (call_expression 1 (var 1 "print") (argument_list (one (numeral 1 1))) on_line))) last_line

abbrev print_tokens : (line : ℕ) → List Token
print_tokens line = token (word "print") 0 line ∷ token OpenParen 5 1 ∷ token (number 1) 6 1 ∷ token CloseParen 7 1 ∷ []

printed : SpellsSource (print_call 1 1) (print_tokens 1)
printed = search spelled depth 100 fits 2000

called_there : (on_line line : ℕ) → SpellsSource (print_call on_line 1) (print_tokens line) → line ≡ on_line
called_there on_line line (by_next begin (by_phrase (by_phrase (by_phrase (by_word_on is on no_part) (by_last same s)) t) u)) = same

not_called_elsewhere : (SpellsSource (print_call 1 1) (print_tokens 2) → ⊥) × (SpellsSource (print_call 2 1) (print_tokens 1) → ⊥)
not_called_elsewhere = (λ s. omega (arith, called_there 1 2 s), λ s. omega (arith, called_there 2 1 s))

-- `a.f()`: the line of `f` is no line of the field, but that on which what is called ends
abbrev field_call : (on_line : ℕ) → Source
field_call on_line = source (alone 1 (call_statement (call_expression 2 (field_expression 1 (var 1 "a") (codes "f")) (argument_list no_expressions) on_line))) 2

abbrev field_tokens : (line : ℕ) → List Token
field_tokens line = token (word "a") 0 1 ∷ token Dot 1 1 ∷ token (word "f") 3 line ∷ token OpenParen 4 2 ∷ token CloseParen 5 2 ∷ []

field_called : SpellsSource (field_call 2) (field_tokens 2)
field_called = search spelled depth 100 fits 2000

field_called_there : (on_line line : ℕ) → SpellsSource (field_call on_line) (field_tokens line) → line ≡ on_line
field_called_there on_line line (by_next begin (by_phrase (by_phrase (by_phrase (by_phrase (by_word_on a b no_part) (by_word_on c d (by_word is no_part))) (by_last same s)) t) u)) = same

field_not_called_elsewhere : SpellsSource (field_call 2) (field_tokens 1) → ⊥
field_not_called_elsewhere s = omega (arith, field_called_there 2 1 s)

-- no tree with another last line
not_last_on_two : SpellsSource (print_call 1 2) (print_tokens 1) → ⊥
not_last_on_two s = omega (arith, one_last_line (print_call 1 1) (print_call 1 2) printed s)

-- lines `x = 1`, `+ 2`: the line of the tree is that of the operator
abbrev sum : (line : ℕ) → Source
sum line = source (alone 1 (assignment (one (var 1 "x")) (one (binary_expression line Add (numeral 1 1) (numeral 2 2))))) 2

abbrev sum_tokens : (line : ℕ) → List Token
sum_tokens line = token (word "x") 0 1 ∷ token Equal 2 1 ∷ token (number 1) 4 1 ∷ token Plus 6 line ∷ token (number 2) 8 2 ∷ []

added : SpellsSource (sum 2) (sum_tokens 2)
added = search spelled depth 100 fits 2000

added_there : (line other : ℕ) → SpellsSource (sum line) (sum_tokens other) → other ≡ line
added_there line other (by_next begin (by_phrase (by_phrase (by_phrase (by_word_on a b no_part) (by_phrase no_part no_part)) (by_word is (by_phrase (by_phrase (by_phrase (by_word_on c d no_part) (by_word_on plus on right)) more) no_part))) t)) = on

not_added_elsewhere : (SpellsSource (sum 2) (sum_tokens 1) → ⊥) × (SpellsSource (sum 1) (sum_tokens 2) → ⊥)
not_added_elsewhere = (λ s. omega (arith, added_there 2 1 s), λ s. omega (arith, added_there 1 2 s))

-- lines `x = a`, `and b`: the line of the tree is that of its first token, not that of `and`
abbrev conjunction : (line : ℕ) → Source
conjunction line = source (alone 1 (assignment (one (var 1 "x")) (one (and_expression line (var 1 "a") (var 2 "b"))))) 2

abbrev conjunction_tokens : List Token
conjunction_tokens = token (word "x") 0 1 ∷ token Equal 2 1 ∷ token (word "a") 4 1 ∷ token And 6 2 ∷ token (word "b") 10 2 ∷ []

joined : SpellsSource (conjunction 1) conjunction_tokens
joined = search spelled depth 100 fits 2000

not_joined_on_two : SpellsSource (conjunction 2) conjunction_tokens → ⊥
not_joined_on_two (by_next begin (by_phrase (by_phrase (by_phrase (by_word_on a b no_part) (by_phrase no_part no_part)) (by_word is (by_phrase (by_phrase (by_next on s) more) no_part))) t)) = omega arith
