-- The definitions of trees, computed on small sources: each construct, each rule, and how expressions group.
use Rattle.std.proofs.Common.{◌≡◌, ℕ, pos, negsuc, List, [], ◌∷◌, ◌++◌, refl, arith}
use Rattle.std.specs.Prelude.{codes, Bool, true, false, Some, None, nat_le}
use Prim.Native.String.{String}
use Rattle.std.proofs.lemmas.Bool.Decides.{nat_tests}
use Rattle.lua_tree.specs.declared.token.TokenKind.{TokenKind}
use Rattle.lua_tree.specs.declared.token.TokenKind.TheVariants.{And, Break, Do, Else, Elseif, End, False, For, Function, If, In, Local, Nil, Not, Or, Repeat, Return, Then, True, Until, While, Name, Number, Text, Plus, Minus, Star, Slash, Percent, Caret, Hash, EqualEqual, TildeEqual, LessEqual, GreaterEqual, Less, Greater, Equal, OpenParen, CloseParen, OpenBrace, CloseBrace, OpenBracket, CloseBracket, Semicolon, Colon, Comma, Dot, DotDot, DotDotDot}
use Rattle.lua_tree.specs.declared.tree.BinaryOp.{BinaryOp}
use Rattle.lua_tree.specs.declared.tree.BinaryOp.TheVariants.{Add, Sub, Mul, Div, Rem, Pow, Concat, Eq, Ne, Lt, Le, Gt, Ge}
use Rattle.lua_tree.specs.declared.tree.UnaryOp.TheVariants.{Neg, Len, Not as Negation}
use Rattle.lua_tree.specs.declared.tree.Separator.TheVariants.{Comma as ByComma, Semicolon as BySemicolon, Missing}
use Rattle.lua_tree.specs.Syntax.{Statements, no_statements, statement, Statement, assignment, call_statement, do_block, while_loop, repeat_loop, if_statement, numeric_for, generic_for, function_statement, local_function, local_statement, return_statement, break_statement, no_branches, branch, no_otherwise, otherwise, no_step, by_step, FunctionBody, function_body, Expressions, no_expressions, expression, Expression, nil_literal, true_literal, false_literal, vararg_expression, number_literal, text_literal, name_expression, function_expression, index_expression, field_expression, call_expression, method_call, and_expression, or_expression, binary_expression, unary_expression, constructor, parenthesized, argument_list, text_argument, table_argument, no_fields, positional, named, keyed, Source}
use Rattle.lua_tree.specs.Spelling.{spell_source, spell_expression}
use Rattle.lua_tree.specs.Names.{is_name}
use Rattle.lua_tree.specs.WellFormed.{formed_expression, depth_of_statements, is_formed, WellFormed}

abbrev pub source : Statements → Source
source body = record { body = body; last_line = 1 }

-- a well-formed tree that spells these tokens, and a tree that is no source
record Reads (body : Statements) (kinds : List TokenKind) : Type 0 where
  well : WellFormed (source body)
  spelled : spell_source (source body) ≡ kinds

reads : {body : Statements} {kinds : List TokenKind} → is_formed (source body) ≡ true → nat_le (depth_of_statements body) 200 ≡ true → spell_source (source body) ≡ kinds → Reads body kinds
reads formed shallow spelled = record { well = record { formed = formed; shallow = grind (arith, nat_tests) }; spelled = spelled }

abbrev Fails : Statements → Type 0
Fails body = is_formed (source body) ≡ false

-- a statement alone, and two with a semicolon between them or none; one expression, and two
abbrev pub alone : Statement → Statements
alone s = statement 1 false s no_statements

abbrev two : Statement → Bool → Statement → Statements
two s semi t = statement 1 semi s (alone t)

abbrev pub one : Expression → Expressions
one e = expression e no_expressions

abbrev pub pair : Expression → Expression → Expressions
pair e d = expression e (one d)

-- an expression behind `return`, read there, and one that is in no source
abbrev returned : Expression → Statements
returned e = alone (return_statement (one e))

abbrev Expresses : Expression → List TokenKind → Type 0
Expresses e kinds = Reads (returned e) (Return ∷ kinds)

abbrev Wrong : Expression → Type 0
Wrong e = formed_expression e ≡ false

-- a name as a token and as an expression, and other short words for parts of trees
abbrev word : String → TokenKind
word name = Name (codes name)

abbrev pub var : String → Expression
var name = name_expression 1 (codes name)

abbrev pub a : Expression
a = var "a"

abbrev b : Expression
b = var "b"

abbrev pub number : ℕ → Expression
number n = number_literal 1 (pos n)

abbrev pub call : Expression → Expressions → Expression
call f es = call_expression 1 f (argument_list es) 1

abbrev pub binary : BinaryOp → Expression → Expression → Expression
binary = binary_expression 1

abbrev pub minus : Expression → Expression
minus = unary_expression 1 Neg

abbrev pub body_of : Statements → FunctionBody
body_of block = function_body [] false block 1 1

-- `a = e`, `f()`, `(g)()`
abbrev pub assign : Expression → Statement
assign e = assignment (one a) (one e)

abbrev pub f_call : Statement
f_call = call_statement (call (var "f") no_expressions)

abbrev g_call : Statement
g_call = call_statement (call (parenthesized 1 (var "g")) no_expressions)

-- no statement, and `f() f();`
sources : Reads no_statements [] × Reads (statement 1 false f_call (statement 1 true f_call no_statements)) (word "f" ∷ OpenParen ∷ CloseParen ∷ word "f" ∷ OpenParen ∷ CloseParen ∷ Semicolon ∷ [])
sources = (reads refl refl refl, reads refl refl refl)

-- `local a`, `local a, b = 1, 2`
locals : Reads (alone (local_statement (codes "a" ∷ []) no_expressions)) (Local ∷ word "a" ∷ []) × Reads (alone (local_statement (codes "a" ∷ codes "b" ∷ []) (pair (number 1) (number 2)))) (Local ∷ word "a" ∷ Comma ∷ word "b" ∷ Equal ∷ Number (pos 1) ∷ Comma ∷ Number (pos 2) ∷ [])
locals = (reads refl refl refl, reads refl refl refl)

-- `a, b.y = 1, 2`, `a[1] = nil`
assignments : Reads (alone (assignment (pair a (field_expression 1 b (codes "y"))) (pair (number 1) (number 2)))) (word "a" ∷ Comma ∷ word "b" ∷ Dot ∷ word "y" ∷ Equal ∷ Number (pos 1) ∷ Comma ∷ Number (pos 2) ∷ []) × Reads (alone (assignment (one (index_expression 1 a (number 1))) (one (nil_literal 1)))) (word "a" ∷ OpenBracket ∷ Number (pos 1) ∷ CloseBracket ∷ Equal ∷ Nil ∷ [])
assignments = (reads refl refl refl, reads refl refl refl)

-- `do f() end`, `while a do break end`, `repeat f() until a`
blocks : Reads (alone (do_block (alone f_call))) (Do ∷ word "f" ∷ OpenParen ∷ CloseParen ∷ End ∷ []) × Reads (alone (while_loop a (alone break_statement))) (While ∷ word "a" ∷ Do ∷ Break ∷ End ∷ []) × Reads (alone (repeat_loop (alone f_call) a)) (Repeat ∷ word "f" ∷ OpenParen ∷ CloseParen ∷ Until ∷ word "a" ∷ [])
blocks = (reads refl refl refl, reads refl refl refl, reads refl refl refl)

-- `if a then end`, `if a then f() elseif b then return else break end`
ifs : Reads (alone (if_statement (branch a no_statements no_branches) no_otherwise)) (If ∷ word "a" ∷ Then ∷ End ∷ []) × Reads (alone (if_statement (branch a (alone f_call) (branch b (alone (return_statement no_expressions)) no_branches)) (otherwise (alone break_statement)))) (If ∷ word "a" ∷ Then ∷ word "f" ∷ OpenParen ∷ CloseParen ∷ Elseif ∷ word "b" ∷ Then ∷ Return ∷ Else ∷ Break ∷ End ∷ [])
ifs = (reads refl refl refl, reads refl refl refl)

-- `for i = 1, 2 do end`, `for i = 3, 1, -1 do f() end`
numeric_fors : Reads (alone (numeric_for (codes "i") (number 1) (number 2) no_step no_statements)) (For ∷ word "i" ∷ Equal ∷ Number (pos 1) ∷ Comma ∷ Number (pos 2) ∷ Do ∷ End ∷ []) × Reads (alone (numeric_for (codes "i") (number 3) (number 1) (by_step (minus (number 1))) (alone f_call))) (For ∷ word "i" ∷ Equal ∷ Number (pos 3) ∷ Comma ∷ Number (pos 1) ∷ Comma ∷ Minus ∷ Number (pos 1) ∷ Do ∷ word "f" ∷ OpenParen ∷ CloseParen ∷ End ∷ [])
numeric_fors = (reads refl refl refl, reads refl refl refl)

-- `for k, v in a, b do end`
generic_for_is : Reads (alone (generic_for (codes "k" ∷ codes "v" ∷ []) (pair a b) no_statements)) (For ∷ word "k" ∷ Comma ∷ word "v" ∷ In ∷ word "a" ∷ Comma ∷ word "b" ∷ Do ∷ End ∷ [])
generic_for_is = reads refl refl refl

-- `function f() end`, `function a.b.c:m(x) end`
function_statements : Reads (alone (function_statement (codes "f" ∷ []) None (body_of no_statements))) (Function ∷ word "f" ∷ OpenParen ∷ CloseParen ∷ End ∷ []) × Reads (alone (function_statement (codes "a" ∷ codes "b" ∷ codes "c" ∷ []) (Some (codes "m")) (function_body (codes "x" ∷ []) false no_statements 1 1))) (Function ∷ word "a" ∷ Dot ∷ word "b" ∷ Dot ∷ word "c" ∷ Colon ∷ word "m" ∷ OpenParen ∷ word "x" ∷ CloseParen ∷ End ∷ [])
function_statements = (reads refl refl refl, reads refl refl refl)

-- `local function f(...) end`
local_function_is : Reads (alone (local_function (codes "f") (function_body [] true no_statements 1 1))) (Local ∷ Function ∷ word "f" ∷ OpenParen ∷ DotDotDot ∷ CloseParen ∷ End ∷ [])
local_function_is = reads refl refl refl

-- `return`, `return 1, 2;`
returns : Reads (alone (return_statement no_expressions)) (Return ∷ []) × Reads (statement 1 true (return_statement (pair (number 1) (number 2))) no_statements) (Return ∷ Number (pos 1) ∷ Comma ∷ Number (pos 2) ∷ Semicolon ∷ [])
returns = (reads refl refl refl, reads refl refl refl)

-- `nil`, `true`, `false`, `...`, `7`, a string, `a`
literals : Expresses (nil_literal 1) (Nil ∷ []) × Expresses (true_literal 1) (True ∷ []) × Expresses (false_literal 1) (False ∷ []) × Expresses (vararg_expression 1) (DotDotDot ∷ []) × Expresses (number 7) (Number (pos 7) ∷ []) × Expresses (text_literal 1 (codes "s")) (Text (codes "s") ∷ []) × Expresses a (word "a" ∷ [])
literals = (reads refl refl refl, reads refl refl refl, reads refl refl refl, reads refl refl refl, reads refl refl refl, reads refl refl refl, reads refl refl refl)

-- `function(a, b, ...) return a end`
function_value : Expresses (function_expression 1 (function_body (codes "a" ∷ codes "b" ∷ []) true (alone (return_statement (one a))) 1 1)) (Function ∷ OpenParen ∷ word "a" ∷ Comma ∷ word "b" ∷ Comma ∷ DotDotDot ∷ CloseParen ∷ Return ∷ word "a" ∷ End ∷ [])
function_value = reads refl refl refl

-- `a[b].y`, `(a)`, `("s").y`
parts_and_parentheses : Expresses (field_expression 1 (index_expression 1 a b) (codes "y")) (word "a" ∷ OpenBracket ∷ word "b" ∷ CloseBracket ∷ Dot ∷ word "y" ∷ []) × Expresses (parenthesized 1 a) (OpenParen ∷ word "a" ∷ CloseParen ∷ []) × Expresses (field_expression 1 (parenthesized 1 (text_literal 1 (codes "s"))) (codes "y")) (OpenParen ∷ Text (codes "s") ∷ CloseParen ∷ Dot ∷ word "y" ∷ [])
parts_and_parentheses = (reads refl refl refl, reads refl refl refl, reads refl refl refl)

-- `f(1, a)`, `f"s"` and `f{}` on another line, `f()()`
calls : Expresses (call (var "f") (pair (number 1) a)) (word "f" ∷ OpenParen ∷ Number (pos 1) ∷ Comma ∷ word "a" ∷ CloseParen ∷ []) × Expresses (call_expression 2 (var "f") (text_argument (codes "s")) 1) (word "f" ∷ Text (codes "s") ∷ []) × Expresses (call_expression 2 (var "f") (table_argument no_fields) 1) (word "f" ∷ OpenBrace ∷ CloseBrace ∷ []) × Expresses (call (call (var "f") no_expressions) no_expressions) (word "f" ∷ OpenParen ∷ CloseParen ∷ OpenParen ∷ CloseParen ∷ [])
calls = (reads refl refl refl, reads refl refl refl, reads refl refl refl, reads refl refl refl)

-- `a:m(1)`, `a:m"s"` and `a:m{b}` on another line
method_calls : Expresses (method_call 1 a (codes "m") (argument_list (one (number 1))) 1) (word "a" ∷ Colon ∷ word "m" ∷ OpenParen ∷ Number (pos 1) ∷ CloseParen ∷ []) × Expresses (method_call 2 a (codes "m") (text_argument (codes "s")) 1) (word "a" ∷ Colon ∷ word "m" ∷ Text (codes "s") ∷ []) × Expresses (method_call 2 a (codes "m") (table_argument (positional b Missing no_fields)) 1) (word "a" ∷ Colon ∷ word "m" ∷ OpenBrace ∷ word "b" ∷ CloseBrace ∷ [])
method_calls = (reads refl refl refl, reads refl refl refl, reads refl refl refl)

-- `{}`, `{1, x = 2; [3] = 4}`, `{1;}`
constructors : Expresses (constructor 1 no_fields) (OpenBrace ∷ CloseBrace ∷ []) × Expresses (constructor 1 (positional (number 1) ByComma (named (codes "x") (number 2) BySemicolon (keyed (number 3) (number 4) Missing no_fields)))) (OpenBrace ∷ Number (pos 1) ∷ Comma ∷ word "x" ∷ Equal ∷ Number (pos 2) ∷ Semicolon ∷ OpenBracket ∷ Number (pos 3) ∷ CloseBracket ∷ Equal ∷ Number (pos 4) ∷ CloseBrace ∷ []) × Expresses (constructor 1 (positional (number 1) BySemicolon no_fields)) (OpenBrace ∷ Number (pos 1) ∷ Semicolon ∷ CloseBrace ∷ [])
constructors = (reads refl refl refl, reads refl refl refl, reads refl refl refl)

-- of two trees that spell these tokens the first is well formed, the second not
record IsGrouped (right wrong : Expression) (kinds : List TokenKind) : Type 0 where
  reading : Expresses right kinds
  same : spell_expression wrong ≡ kinds
  refused : Wrong wrong

group : {right wrong : Expression} {kinds : List TokenKind} → is_formed (source (returned right)) ≡ true → nat_le (depth_of_statements (returned right)) 200 ≡ true → spell_source (source (returned right)) ≡ Return ∷ kinds → spell_expression wrong ≡ kinds → Wrong wrong → IsGrouped right wrong kinds
group formed shallow spelled same refused = record { reading = reads formed shallow spelled; same = same; refused = refused }

-- `a`, an operator, `b`, an operator and `c` go together as `(a b) c`, or as `a (b c)`
abbrev GoesLeft : (Expression → Expression → Expression) → TokenKind → (Expression → Expression → Expression) → TokenKind → Type 0
GoesLeft p m q n = IsGrouped (q (p a b) (var "c")) (p a (q b (var "c"))) (word "a" ∷ m ∷ word "b" ∷ n ∷ word "c" ∷ [])

abbrev GoesRight : (Expression → Expression → Expression) → TokenKind → (Expression → Expression → Expression) → TokenKind → Type 0
GoesRight p m q n = IsGrouped (p a (q b (var "c"))) (q (p a b) (var "c")) (word "a" ∷ m ∷ word "b" ∷ n ∷ word "c" ∷ [])

-- each operator with itself
left_associative : GoesLeft (or_expression 1) Or (or_expression 1) Or × GoesLeft (and_expression 1) And (and_expression 1) And × GoesLeft (binary Lt) Less (binary Lt) Less × GoesLeft (binary Gt) Greater (binary Gt) Greater × GoesLeft (binary Le) LessEqual (binary Le) LessEqual × GoesLeft (binary Ge) GreaterEqual (binary Ge) GreaterEqual × GoesLeft (binary Ne) TildeEqual (binary Ne) TildeEqual × GoesLeft (binary Eq) EqualEqual (binary Eq) EqualEqual × GoesLeft (binary Add) Plus (binary Add) Plus × GoesLeft (binary Sub) Minus (binary Sub) Minus × GoesLeft (binary Mul) Star (binary Mul) Star × GoesLeft (binary Div) Slash (binary Div) Slash × GoesLeft (binary Rem) Percent (binary Rem) Percent
left_associative = (group refl refl refl refl refl, group refl refl refl refl refl, group refl refl refl refl refl, group refl refl refl refl refl, group refl refl refl refl refl, group refl refl refl refl refl, group refl refl refl refl refl, group refl refl refl refl refl, group refl refl refl refl refl, group refl refl refl refl refl, group refl refl refl refl refl, group refl refl refl refl refl, group refl refl refl refl refl)

right_associative : GoesRight (binary Concat) DotDot (binary Concat) DotDot × GoesRight (binary Pow) Caret (binary Pow) Caret
right_associative = (group refl refl refl refl refl, group refl refl refl refl refl)

-- two of one level
same_level : GoesLeft (binary Sub) Minus (binary Add) Plus × GoesLeft (binary Add) Plus (binary Sub) Minus × GoesLeft (binary Mul) Star (binary Div) Slash × GoesLeft (binary Div) Slash (binary Rem) Percent × GoesLeft (binary Rem) Percent (binary Mul) Star × GoesLeft (binary Lt) Less (binary Eq) EqualEqual × GoesLeft (binary Eq) EqualEqual (binary Gt) Greater × GoesLeft (binary Gt) Greater (binary Le) LessEqual × GoesLeft (binary Le) LessEqual (binary Ne) TildeEqual × GoesLeft (binary Ne) TildeEqual (binary Ge) GreaterEqual × GoesLeft (binary Ge) GreaterEqual (binary Lt) Less
same_level = (group refl refl refl refl refl, group refl refl refl refl refl, group refl refl refl refl refl, group refl refl refl refl refl, group refl refl refl refl refl, group refl refl refl refl refl, group refl refl refl refl refl, group refl refl refl refl refl, group refl refl refl refl refl, group refl refl refl refl refl, group refl refl refl refl refl)

-- a level and the next, in both orders
tighter_behind : GoesRight (or_expression 1) Or (and_expression 1) And × GoesRight (and_expression 1) And (binary Lt) Less × GoesRight (and_expression 1) And (binary Gt) Greater × GoesRight (and_expression 1) And (binary Le) LessEqual × GoesRight (and_expression 1) And (binary Ge) GreaterEqual × GoesRight (and_expression 1) And (binary Ne) TildeEqual × GoesRight (and_expression 1) And (binary Eq) EqualEqual × GoesRight (binary Eq) EqualEqual (binary Concat) DotDot × GoesRight (binary Lt) Less (binary Concat) DotDot × GoesRight (binary Concat) DotDot (binary Add) Plus × GoesRight (binary Concat) DotDot (binary Sub) Minus × GoesRight (binary Add) Plus (binary Mul) Star × GoesRight (binary Sub) Minus (binary Div) Slash × GoesRight (binary Sub) Minus (binary Rem) Percent × GoesRight (binary Mul) Star (binary Pow) Caret × GoesRight (binary Div) Slash (binary Pow) Caret × GoesRight (binary Rem) Percent (binary Pow) Caret
tighter_behind = (group refl refl refl refl refl, group refl refl refl refl refl, group refl refl refl refl refl, group refl refl refl refl refl, group refl refl refl refl refl, group refl refl refl refl refl, group refl refl refl refl refl, group refl refl refl refl refl, group refl refl refl refl refl, group refl refl refl refl refl, group refl refl refl refl refl, group refl refl refl refl refl, group refl refl refl refl refl, group refl refl refl refl refl, group refl refl refl refl refl, group refl refl refl refl refl, group refl refl refl refl refl)

tighter_before : GoesLeft (and_expression 1) And (or_expression 1) Or × GoesLeft (binary Lt) Less (and_expression 1) And × GoesLeft (binary Gt) Greater (and_expression 1) And × GoesLeft (binary Le) LessEqual (and_expression 1) And × GoesLeft (binary Ge) GreaterEqual (and_expression 1) And × GoesLeft (binary Ne) TildeEqual (and_expression 1) And × GoesLeft (binary Eq) EqualEqual (and_expression 1) And × GoesLeft (binary Concat) DotDot (binary Eq) EqualEqual × GoesLeft (binary Concat) DotDot (binary Lt) Less × GoesLeft (binary Add) Plus (binary Concat) DotDot × GoesLeft (binary Sub) Minus (binary Concat) DotDot × GoesLeft (binary Mul) Star (binary Add) Plus × GoesLeft (binary Div) Slash (binary Sub) Minus × GoesLeft (binary Rem) Percent (binary Sub) Minus × GoesLeft (binary Pow) Caret (binary Mul) Star × GoesLeft (binary Pow) Caret (binary Div) Slash × GoesLeft (binary Pow) Caret (binary Rem) Percent
tighter_before = (group refl refl refl refl refl, group refl refl refl refl refl, group refl refl refl refl refl, group refl refl refl refl refl, group refl refl refl refl refl, group refl refl refl refl refl, group refl refl refl refl refl, group refl refl refl refl refl, group refl refl refl refl refl, group refl refl refl refl refl, group refl refl refl refl refl, group refl refl refl refl refl, group refl refl refl refl refl, group refl refl refl refl refl, group refl refl refl refl refl, group refl refl refl refl refl, group refl refl refl refl refl)

-- `-a * b`, `-a ^ b`, `not a == b`, `#a .. b`
unary_in_front : IsGrouped (binary Mul (minus a) b) (minus (binary Mul a b)) (Minus ∷ word "a" ∷ Star ∷ word "b" ∷ []) × IsGrouped (minus (binary Pow a b)) (binary Pow (minus a) b) (Minus ∷ word "a" ∷ Caret ∷ word "b" ∷ []) × IsGrouped (binary Eq (unary_expression 1 Negation a) b) (unary_expression 1 Negation (binary Eq a b)) (Not ∷ word "a" ∷ EqualEqual ∷ word "b" ∷ []) × IsGrouped (binary Concat (unary_expression 1 Len a) b) (unary_expression 1 Len (binary Concat a b)) (Hash ∷ word "a" ∷ DotDot ∷ word "b" ∷ [])
unary_in_front = (group refl refl refl refl refl, group refl refl refl refl refl, group refl refl refl refl refl, group refl refl refl refl refl)

-- `2 ^ -3 * 4` and `2 ^ -3 ^ 4`, each against two other trees
unary_exponent : IsGrouped (binary Mul (binary Pow (number 2) (minus (number 3))) (number 4)) (binary Pow (number 2) (minus (binary Mul (number 3) (number 4)))) (Number (pos 2) ∷ Caret ∷ Minus ∷ Number (pos 3) ∷ Star ∷ Number (pos 4) ∷ []) × IsGrouped (binary Mul (binary Pow (number 2) (minus (number 3))) (number 4)) (binary Pow (number 2) (binary Mul (minus (number 3)) (number 4))) (Number (pos 2) ∷ Caret ∷ Minus ∷ Number (pos 3) ∷ Star ∷ Number (pos 4) ∷ []) × IsGrouped (binary Pow (number 2) (minus (binary Pow (number 3) (number 4)))) (binary Pow (binary Pow (number 2) (minus (number 3))) (number 4)) (Number (pos 2) ∷ Caret ∷ Minus ∷ Number (pos 3) ∷ Caret ∷ Number (pos 4) ∷ []) × IsGrouped (binary Pow (number 2) (minus (binary Pow (number 3) (number 4)))) (binary Pow (number 2) (binary Pow (minus (number 3)) (number 4))) (Number (pos 2) ∷ Caret ∷ Minus ∷ Number (pos 3) ∷ Caret ∷ Number (pos 4) ∷ [])
unary_exponent = (group refl refl refl refl refl, group refl refl refl refl refl, group refl refl refl refl refl, group refl refl refl refl refl)

-- `a == not b == c` and `a .. -b .. c`, each against two other trees
unary_between : IsGrouped (binary Eq (binary Eq a (unary_expression 1 Negation b)) (var "c")) (binary Eq a (unary_expression 1 Negation (binary Eq b (var "c")))) (word "a" ∷ EqualEqual ∷ Not ∷ word "b" ∷ EqualEqual ∷ word "c" ∷ []) × IsGrouped (binary Eq (binary Eq a (unary_expression 1 Negation b)) (var "c")) (binary Eq a (binary Eq (unary_expression 1 Negation b) (var "c"))) (word "a" ∷ EqualEqual ∷ Not ∷ word "b" ∷ EqualEqual ∷ word "c" ∷ []) × IsGrouped (binary Concat a (binary Concat (minus b) (var "c"))) (binary Concat (binary Concat a (minus b)) (var "c")) (word "a" ∷ DotDot ∷ Minus ∷ word "b" ∷ DotDot ∷ word "c" ∷ []) × IsGrouped (binary Concat a (binary Concat (minus b) (var "c"))) (binary Concat a (minus (binary Concat b (var "c")))) (word "a" ∷ DotDot ∷ Minus ∷ word "b" ∷ DotDot ∷ word "c" ∷ [])
unary_between = (group refl refl refl refl refl, group refl refl refl refl refl, group refl refl refl refl refl, group refl refl refl refl refl)

-- a unary operand on the right of each operator
abbrev Behind : (Expression → Expression → Expression) → TokenKind → Type 0
Behind p m = Expresses (p a (minus b)) (word "a" ∷ m ∷ Minus ∷ word "b" ∷ [])

unary_behind : Behind (or_expression 1) Or × Behind (and_expression 1) And × Behind (binary Lt) Less × Behind (binary Gt) Greater × Behind (binary Le) LessEqual × Behind (binary Ge) GreaterEqual × Behind (binary Ne) TildeEqual × Behind (binary Eq) EqualEqual × Behind (binary Concat) DotDot × Behind (binary Add) Plus × Behind (binary Sub) Minus × Behind (binary Mul) Star × Behind (binary Div) Slash × Behind (binary Rem) Percent × Behind (binary Pow) Caret
unary_behind = (reads refl refl refl, reads refl refl refl, reads refl refl refl, reads refl refl refl, reads refl refl refl, reads refl refl refl, reads refl refl refl, reads refl refl refl, reads refl refl refl, reads refl refl refl, reads refl refl refl, reads refl refl refl, reads refl refl refl, reads refl refl refl, reads refl refl refl)

-- `- not #a`, `(a + b) * c`, `a - (b - c)`, `(a .. b) .. c`, `(-a) ^ b`, `-(a * b)`
parentheses_group : Expresses (minus (unary_expression 1 Negation (unary_expression 1 Len a))) (Minus ∷ Not ∷ Hash ∷ word "a" ∷ []) × Expresses (binary Mul (parenthesized 1 (binary Add a b)) (var "c")) (OpenParen ∷ word "a" ∷ Plus ∷ word "b" ∷ CloseParen ∷ Star ∷ word "c" ∷ []) × Expresses (binary Sub a (parenthesized 1 (binary Sub b (var "c")))) (word "a" ∷ Minus ∷ OpenParen ∷ word "b" ∷ Minus ∷ word "c" ∷ CloseParen ∷ []) × Expresses (binary Concat (parenthesized 1 (binary Concat a b)) (var "c")) (OpenParen ∷ word "a" ∷ DotDot ∷ word "b" ∷ CloseParen ∷ DotDot ∷ word "c" ∷ []) × Expresses (binary Pow (parenthesized 1 (minus a)) b) (OpenParen ∷ Minus ∷ word "a" ∷ CloseParen ∷ Caret ∷ word "b" ∷ []) × Expresses (minus (parenthesized 1 (binary Mul a b))) (Minus ∷ OpenParen ∷ word "a" ∷ Star ∷ word "b" ∷ CloseParen ∷ [])
parentheses_group = (reads refl refl refl, reads refl refl refl, reads refl refl refl, reads refl refl refl, reads refl refl refl, reads refl refl refl)

-- no targets: `f()`, `(a)`, `1`, and `f()` behind `a`; no call statements: `a`, `a.y`, `(f())`, `-f()`
no_targets_or_calls : Fails (alone (assignment (one (call (var "f") no_expressions)) (one (number 1)))) × Fails (alone (assignment (one (parenthesized 1 a)) (one (number 1)))) × Fails (alone (assignment (one (number 1)) (one (number 1)))) × Fails (alone (assignment (pair a (call (var "f") no_expressions)) (one (number 1)))) × Fails (alone (call_statement a)) × Fails (alone (call_statement (field_expression 1 a (codes "y")))) × Fails (alone (call_statement (parenthesized 1 (call (var "f") no_expressions)))) × Fails (alone (call_statement (minus (call (var "f") no_expressions))))
no_targets_or_calls = (refl, refl, refl, refl, refl, refl, refl, refl)

-- what may not be indexed, have a field, be called or have a method
no_prefix : Wrong (index_expression 1 (text_literal 1 (codes "s")) a) × Wrong (index_expression 1 (vararg_expression 1) a) × Wrong (field_expression 1 (number 1) (codes "y")) × Wrong (field_expression 1 (binary Add a a) (codes "y")) × Wrong (call (constructor 1 no_fields) no_expressions) × Wrong (call (nil_literal 1) no_expressions) × Wrong (method_call 1 (function_expression 1 (body_of no_statements)) (codes "m") (argument_list no_expressions) 1) × Wrong (method_call 1 (minus a) (codes "m") (argument_list no_expressions) 1)
no_prefix = (refl, refl, refl, refl, refl, refl, refl, refl)

-- a statement behind `return` or `break`
nothing_behind : Fails (two (return_statement no_expressions) false f_call) × Fails (two (return_statement no_expressions) true f_call) × Fails (two break_statement false f_call) × Fails (two break_statement true f_call)
nothing_behind = (refl, refl, refl, refl)

-- lists that may not be empty
empty_lists : Fails (alone (if_statement no_branches no_otherwise)) × Fails (alone (assignment no_expressions (one a))) × Fails (alone (assignment (one a) no_expressions)) × Fails (alone (local_statement [] no_expressions)) × Fails (alone (generic_for [] (one a) no_statements)) × Fails (alone (generic_for (codes "x" ∷ []) no_expressions no_statements)) × Fails (alone (function_statement [] None (body_of no_statements)))
empty_lists = (refl, refl, refl, refl, refl, refl, refl)

-- `{a y = 1}`, `{y = 1 [1] = 1}`, `{[1] = 1 a}`
no_separator : Wrong (constructor 1 (positional a Missing (named (codes "y") (number 1) Missing no_fields))) × Wrong (constructor 1 (named (codes "y") (number 1) Missing (keyed (number 1) (number 1) Missing no_fields))) × Wrong (constructor 1 (keyed (number 1) (number 1) Missing (positional a Missing no_fields)))
no_separator = (refl, refl, refl)

-- names, what are none, and the keywords
abbrev No : String → Type 0
No name = is_name (codes name) ≡ false

names : is_name (codes "_") ≡ true × is_name (codes "x1") ≡ true × is_name (codes "end_") ≡ true × is_name (codes "And") ≡ true × is_name (codes "aZ_9") ≡ true × No "" × No "1x" × No "a-b" × No "a.b" × No "a "
names = (refl, refl, refl, refl, refl, refl, refl, refl, refl, refl)

no_names : No "and" × No "break" × No "do" × No "else" × No "elseif" × No "end" × No "false" × No "for" × No "function" × No "if" × No "in" × No "local" × No "nil" × No "not" × No "or" × No "repeat" × No "return" × No "then" × No "true" × No "until" × No "while"
no_names = (refl, refl, refl, refl, refl, refl, refl, refl, refl, refl, refl, refl, refl, refl, refl, refl, refl, refl, refl, refl, refl)

-- a keyword in each place of a name, and a number below 0
no_name_here : Fails (alone (local_statement (codes "x" ∷ codes "end" ∷ []) no_expressions)) × Fails (alone (local_function (codes "end") (body_of no_statements))) × Fails (alone (local_function (codes "f") (function_body (codes "x" ∷ codes "end" ∷ []) false no_statements 1 1))) × Fails (alone (function_statement (codes "x" ∷ codes "end" ∷ []) None (body_of no_statements))) × Fails (alone (function_statement (codes "f" ∷ []) (Some (codes "end")) (body_of no_statements))) × Fails (alone (numeric_for (codes "end") (number 1) (number 1) no_step no_statements)) × Fails (alone (generic_for (codes "x" ∷ codes "end" ∷ []) (one a) no_statements))
no_name_here = (refl, refl, refl, refl, refl, refl, refl)

no_name_within : Wrong (name_expression 1 (codes "end")) × Wrong (field_expression 1 a (codes "end")) × Wrong (method_call 1 a (codes "end") (argument_list no_expressions) 1) × Wrong (constructor 1 (named (codes "end") a Missing no_fields)) × Wrong (number_literal 1 (negsuc 0))
no_name_within = (refl, refl, refl, refl, refl)

-- the `(` of arguments on another line
call_line : Wrong (call_expression 2 (var "f") (argument_list no_expressions) 1) × Wrong (method_call 2 a (codes "m") (argument_list no_expressions) 1)
call_line = (refl, refl)

-- a mistake in each part of a statement and of an expression: a negative number
abbrev bad : Expression
bad = number_literal 1 (negsuc 0)

abbrev bad_block : Statements
bad_block = alone (assign bad)

bad_part_of_statement : Fails (alone (assignment (pair a (index_expression 1 a bad)) (one a))) × Fails (alone (assignment (one a) (pair a bad))) × Fails (alone (call_statement (call a (one bad)))) × Fails (alone (do_block bad_block)) × Fails (alone (while_loop bad no_statements)) × Fails (alone (while_loop a bad_block)) × Fails (alone (repeat_loop no_statements bad)) × Fails (alone (repeat_loop bad_block a)) × Fails (alone (if_statement (branch bad no_statements no_branches) no_otherwise)) × Fails (alone (if_statement (branch a bad_block no_branches) no_otherwise)) × Fails (alone (if_statement (branch a no_statements (branch bad no_statements no_branches)) no_otherwise)) × Fails (alone (if_statement (branch a no_statements no_branches) (otherwise bad_block)))
bad_part_of_statement = (refl, refl, refl, refl, refl, refl, refl, refl, refl, refl, refl, refl)

bad_part_of_other_statement : Fails (alone (numeric_for (codes "i") bad a no_step no_statements)) × Fails (alone (numeric_for (codes "i") a bad no_step no_statements)) × Fails (alone (numeric_for (codes "i") a a (by_step bad) no_statements)) × Fails (alone (numeric_for (codes "i") a a no_step bad_block)) × Fails (alone (generic_for (codes "i" ∷ []) (pair a bad) no_statements)) × Fails (alone (generic_for (codes "i" ∷ []) (one a) bad_block)) × Fails (alone (function_statement (codes "f" ∷ []) None (body_of bad_block))) × Fails (alone (local_function (codes "f") (body_of bad_block))) × Fails (alone (local_statement (codes "a" ∷ []) (pair a bad))) × Fails (alone (return_statement (pair a bad))) × Fails (two f_call true (assign bad))
bad_part_of_other_statement = (refl, refl, refl, refl, refl, refl, refl, refl, refl, refl, refl)

bad_part_of_expression : Wrong (function_expression 1 (body_of bad_block)) × Wrong (index_expression 1 (parenthesized 1 bad) a) × Wrong (index_expression 1 a bad) × Wrong (field_expression 1 (parenthesized 1 bad) (codes "y")) × Wrong (call (parenthesized 1 bad) no_expressions) × Wrong (call_expression 1 a (table_argument (positional bad Missing no_fields)) 1) × Wrong (method_call 1 (parenthesized 1 bad) (codes "m") (text_argument (codes "s")) 1) × Wrong (method_call 1 a (codes "m") (argument_list (one bad)) 1) × Wrong (and_expression 1 bad a) × Wrong (and_expression 1 a bad) × Wrong (or_expression 1 bad a) × Wrong (or_expression 1 a bad) × Wrong (binary Add bad a) × Wrong (binary Add a bad) × Wrong (minus bad) × Wrong (parenthesized 1 bad) × Wrong (constructor 1 (positional bad ByComma no_fields)) × Wrong (constructor 1 (named (codes "y") bad ByComma no_fields)) × Wrong (constructor 1 (keyed bad a ByComma no_fields)) × Wrong (constructor 1 (keyed a bad ByComma no_fields)) × Wrong (constructor 1 (positional a ByComma (positional bad ByComma no_fields)))
bad_part_of_expression = (refl, refl, refl, refl, refl, refl, refl, refl, refl, refl, refl, refl, refl, refl, refl, refl, refl, refl, refl, refl, refl)

-- `f(); (g)()`, `local a (g)()`, `a = {} (g)()`, `a = 1 (g)()`
parenthesis_behind : Reads (two f_call true g_call) (word "f" ∷ OpenParen ∷ CloseParen ∷ Semicolon ∷ OpenParen ∷ word "g" ∷ CloseParen ∷ OpenParen ∷ CloseParen ∷ []) × Reads (two (local_statement (codes "a" ∷ []) no_expressions) false g_call) (Local ∷ word "a" ∷ OpenParen ∷ word "g" ∷ CloseParen ∷ OpenParen ∷ CloseParen ∷ []) × Reads (two (assign (constructor 1 no_fields)) false g_call) (word "a" ∷ Equal ∷ OpenBrace ∷ CloseBrace ∷ OpenParen ∷ word "g" ∷ CloseParen ∷ OpenParen ∷ CloseParen ∷ []) × Reads (two (assign (number 1)) false g_call) (word "a" ∷ Equal ∷ Number (pos 1) ∷ OpenParen ∷ word "g" ∷ CloseParen ∷ OpenParen ∷ CloseParen ∷ [])
parenthesis_behind = (reads refl refl refl, reads refl refl refl, reads refl refl refl, reads refl refl refl)

-- a statement before `(g)()` that needs its semicolon, and one that does not
abbrev NeedsSemicolon : Statement → List TokenKind → Type 0
NeedsSemicolon s kinds = Fails (two s false g_call) × Reads (two s true g_call) (kinds ++ (Semicolon ∷ OpenParen ∷ word "g" ∷ CloseParen ∷ OpenParen ∷ CloseParen ∷ []))

abbrev NeedsNone : Statement → List TokenKind → Type 0
NeedsNone s kinds = Reads (two s false g_call) (kinds ++ (OpenParen ∷ word "g" ∷ CloseParen ∷ OpenParen ∷ CloseParen ∷ []))

take_arguments : NeedsSemicolon (assign b) (word "a" ∷ Equal ∷ word "b" ∷ []) × NeedsSemicolon (assign (field_expression 1 b (codes "y"))) (word "a" ∷ Equal ∷ word "b" ∷ Dot ∷ word "y" ∷ []) × NeedsSemicolon (assign (index_expression 1 b (number 1))) (word "a" ∷ Equal ∷ word "b" ∷ OpenBracket ∷ Number (pos 1) ∷ CloseBracket ∷ []) × NeedsSemicolon (assign (call (var "f") no_expressions)) (word "a" ∷ Equal ∷ word "f" ∷ OpenParen ∷ CloseParen ∷ []) × NeedsSemicolon (assign (call_expression 1 (var "f") (text_argument (codes "s")) 1)) (word "a" ∷ Equal ∷ word "f" ∷ Text (codes "s") ∷ []) × NeedsSemicolon (assign (method_call 1 b (codes "m") (table_argument no_fields) 1)) (word "a" ∷ Equal ∷ word "b" ∷ Colon ∷ word "m" ∷ OpenBrace ∷ CloseBrace ∷ []) × NeedsSemicolon (assign (parenthesized 1 (number 1))) (word "a" ∷ Equal ∷ OpenParen ∷ Number (pos 1) ∷ CloseParen ∷ []) × NeedsSemicolon (assign (minus b)) (word "a" ∷ Equal ∷ Minus ∷ word "b" ∷ []) × NeedsSemicolon (assign (binary Add (number 1) b)) (word "a" ∷ Equal ∷ Number (pos 1) ∷ Plus ∷ word "b" ∷ []) × NeedsSemicolon (assign (and_expression 1 (number 1) b)) (word "a" ∷ Equal ∷ Number (pos 1) ∷ And ∷ word "b" ∷ []) × NeedsSemicolon (assign (or_expression 1 (number 1) (unary_expression 1 Negation b))) (word "a" ∷ Equal ∷ Number (pos 1) ∷ Or ∷ Not ∷ word "b" ∷ [])
take_arguments = ((refl, reads refl refl refl), (refl, reads refl refl refl), (refl, reads refl refl refl), (refl, reads refl refl refl), (refl, reads refl refl refl), (refl, reads refl refl refl), (refl, reads refl refl refl), (refl, reads refl refl refl), (refl, reads refl refl refl), (refl, reads refl refl refl), (refl, reads refl refl refl))

statements_take_arguments : NeedsSemicolon f_call (word "f" ∷ OpenParen ∷ CloseParen ∷ []) × NeedsSemicolon (call_statement (call_expression 1 (var "f") (text_argument (codes "s")) 1)) (word "f" ∷ Text (codes "s") ∷ []) × NeedsSemicolon (repeat_loop no_statements a) (Repeat ∷ Until ∷ word "a" ∷ []) × NeedsSemicolon (local_statement (codes "a" ∷ []) (pair (number 1) a)) (Local ∷ word "a" ∷ Equal ∷ Number (pos 1) ∷ Comma ∷ word "a" ∷ []) × NeedsSemicolon (assignment (one a) (pair (number 1) a)) (word "a" ∷ Equal ∷ Number (pos 1) ∷ Comma ∷ word "a" ∷ [])
statements_take_arguments = ((refl, reads refl refl refl), (refl, reads refl refl refl), (refl, reads refl refl refl), (refl, reads refl refl refl), (refl, reads refl refl refl))

take_none : NeedsNone (assign (nil_literal 1)) (word "a" ∷ Equal ∷ Nil ∷ []) × NeedsNone (assign (true_literal 1)) (word "a" ∷ Equal ∷ True ∷ []) × NeedsNone (assign (false_literal 1)) (word "a" ∷ Equal ∷ False ∷ []) × NeedsNone (assign (vararg_expression 1)) (word "a" ∷ Equal ∷ DotDotDot ∷ []) × NeedsNone (assign (text_literal 1 (codes "s"))) (word "a" ∷ Equal ∷ Text (codes "s") ∷ []) × NeedsNone (assign (function_expression 1 (body_of no_statements))) (word "a" ∷ Equal ∷ Function ∷ OpenParen ∷ CloseParen ∷ End ∷ []) × NeedsNone (assign (minus (number 1))) (word "a" ∷ Equal ∷ Minus ∷ Number (pos 1) ∷ []) × NeedsNone (assign (binary Add a (number 1))) (word "a" ∷ Equal ∷ word "a" ∷ Plus ∷ Number (pos 1) ∷ []) × NeedsNone (assign (and_expression 1 a (constructor 1 no_fields))) (word "a" ∷ Equal ∷ word "a" ∷ And ∷ OpenBrace ∷ CloseBrace ∷ []) × NeedsNone (assign (or_expression 1 a (text_literal 1 (codes "s")))) (word "a" ∷ Equal ∷ word "a" ∷ Or ∷ Text (codes "s") ∷ [])
take_none = (reads refl refl refl, reads refl refl refl, reads refl refl refl, reads refl refl refl, reads refl refl refl, reads refl refl refl, reads refl refl refl, reads refl refl refl, reads refl refl refl, reads refl refl refl)

statements_take_none : NeedsNone (do_block (alone f_call)) (Do ∷ word "f" ∷ OpenParen ∷ CloseParen ∷ End ∷ []) × NeedsNone (while_loop a (alone f_call)) (While ∷ word "a" ∷ Do ∷ word "f" ∷ OpenParen ∷ CloseParen ∷ End ∷ []) × NeedsNone (repeat_loop (alone f_call) (number 1)) (Repeat ∷ word "f" ∷ OpenParen ∷ CloseParen ∷ Until ∷ Number (pos 1) ∷ []) × NeedsNone (if_statement (branch a (alone f_call) no_branches) no_otherwise) (If ∷ word "a" ∷ Then ∷ word "f" ∷ OpenParen ∷ CloseParen ∷ End ∷ []) × NeedsNone (numeric_for (codes "i") a a no_step no_statements) (For ∷ word "i" ∷ Equal ∷ word "a" ∷ Comma ∷ word "a" ∷ Do ∷ End ∷ []) × NeedsNone (generic_for (codes "i" ∷ []) (one a) no_statements) (For ∷ word "i" ∷ In ∷ word "a" ∷ Do ∷ End ∷ []) × NeedsNone (function_statement (codes "f" ∷ []) None (body_of no_statements)) (Function ∷ word "f" ∷ OpenParen ∷ CloseParen ∷ End ∷ []) × NeedsNone (local_function (codes "f") (body_of no_statements)) (Local ∷ Function ∷ word "f" ∷ OpenParen ∷ CloseParen ∷ End ∷ []) × NeedsNone (local_statement (codes "a" ∷ []) (pair a (number 1))) (Local ∷ word "a" ∷ Equal ∷ word "a" ∷ Comma ∷ Number (pos 1) ∷ [])
statements_take_none = (reads refl refl refl, reads refl refl refl, reads refl refl refl, reads refl refl refl, reads refl refl refl, reads refl refl refl, reads refl refl refl, reads refl refl refl, reads refl refl refl)

-- `(g).y = 1`, `(g)[1] = 1`, `(g).y, a = 1`, `(g):m()`, `(g)()()` begin with `(`, and `a, (g).y = 1`, `f((g))`, `a = (g)` do not
begin_so : Fails (two f_call false (assignment (one (field_expression 1 (parenthesized 1 (var "g")) (codes "y"))) (one (number 1)))) × Fails (two f_call false (assignment (one (index_expression 1 (parenthesized 1 (var "g")) (number 1))) (one (number 1)))) × Fails (two f_call false (assignment (pair (field_expression 1 (parenthesized 1 (var "g")) (codes "y")) a) (one (number 1)))) × Fails (two f_call false (call_statement (method_call 1 (parenthesized 1 (var "g")) (codes "m") (argument_list no_expressions) 1))) × Fails (two f_call false (call_statement (call (call (parenthesized 1 (var "g")) no_expressions) no_expressions)))
begin_so = (refl, refl, refl, refl, refl)

begin_otherwise : Reads (two f_call false (assignment (pair a (field_expression 1 (parenthesized 1 (var "g")) (codes "y"))) (one (number 1)))) (word "f" ∷ OpenParen ∷ CloseParen ∷ word "a" ∷ Comma ∷ OpenParen ∷ word "g" ∷ CloseParen ∷ Dot ∷ word "y" ∷ Equal ∷ Number (pos 1) ∷ []) × Reads (two f_call false (call_statement (call (var "f") (one (parenthesized 1 (var "g")))))) (word "f" ∷ OpenParen ∷ CloseParen ∷ word "f" ∷ OpenParen ∷ OpenParen ∷ word "g" ∷ CloseParen ∷ CloseParen ∷ []) × Reads (two f_call false (assign (parenthesized 1 (var "g")))) (word "f" ∷ OpenParen ∷ CloseParen ∷ word "a" ∷ Equal ∷ OpenParen ∷ word "g" ∷ CloseParen ∷ [])
begin_otherwise = (reads refl refl refl, reads refl refl refl, reads refl refl refl)
