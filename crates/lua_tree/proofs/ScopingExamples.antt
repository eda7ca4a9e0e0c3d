-- Scoping, computed on small sources: every kind of declaration, captures and upvalues, and each rule that is broken.
use Rattle.std.proofs.Common.{◌≡◌, ℕ, zero, suc, Bool, true, false, List, [], ◌∷◌, Option, Some, None, refl}
use Rattle.std.specs.Prelude.{codes}
use Prim.Native.String.{String}
use Rattle.lua_tree.specs.Syntax.{Statements, no_statements, statement, Statement, call_statement, do_block, while_loop, repeat_loop, numeric_for, generic_for, function_statement, local_function, local_statement, return_statement, break_statement, no_step, FunctionBody, function_body, Expressions, no_expressions, expression, Expression, vararg_expression, name_expression, function_expression, call_expression, argument_list, Source}
use Rattle.lua_num.specs.Bytes.{Text}
use Rattle.lua_tree.specs.Outline.{outline}
use Rattle.lua_tree.specs.Scoping.{Use, local_use, upvalue_use, global_use, uses_of, is_captured, sources_of, Breach, no_loop, no_vararg, too_many_locals, too_many_upvalues, breach_of}

abbrev source : Statements → Source
source body = record { body = body; last_line = 1 }

abbrev uses : Statements → List Use
uses body = uses_of (outline (source body))

abbrev captured : ℕ → Statements → Bool
captured declaration body = is_captured declaration (outline (source body))

abbrev sources : ℕ → Statements → List Use
sources f body = sources_of f (outline (source body))

abbrev breach : Statements → Option Breach
breach body = breach_of (source body)

-- statements on lines 1, 2 and 3, a name, a list of names, a call without arguments and one with an argument, a function
abbrev one : Statement → Statements
one s = statement 1 false s no_statements

abbrev two : Statement → Statement → Statements
two s t = statement 1 false s (statement 2 false t no_statements)

abbrev three : Statement → Statement → Statement → Statements
three s t u = statement 1 false s (statement 2 false t (statement 3 false u no_statements))

abbrev name : String → Expression
name text = name_expression 1 (codes text)

abbrev single : Expression → Expressions
single e = expression e no_expressions

abbrev called : String → Expressions → Statement
called text arguments = call_statement (call_expression 1 (name text) (argument_list arguments) 1)

abbrev call : String → Statement
call text = called text no_expressions

abbrev body : List Text → Statements → FunctionBody
body params block = function_body params false block 1 1

abbrev named : String → List Text
named text = codes text ∷ []

-- `local x do local x x() end x()`
shadowed : uses (three (local_statement (named "x") no_expressions) (do_block (two (local_statement (named "x") no_expressions) (call "x"))) (call "x")) ≡ local_use 1 ∷ local_use 0 ∷ []
shadowed = refl

-- the second of two equal names is meant: `local x, x x()`
latest : uses (two (local_statement (codes "x" ∷ codes "x" ∷ []) no_expressions) (call "x")) ≡ local_use 1 ∷ []
latest = refl

-- `local x = x x()`
own_value : uses (two (local_statement (named "x") (single (name "x"))) (call "x")) ≡ global_use ∷ local_use 0 ∷ []
own_value = refl

-- `local function f() f() end` captures its own name, and `local f = function() f() end` does not
recursive : uses (one (local_function (codes "f") (body [] (one (call "f"))))) ≡ upvalue_use 0 ∷ []
recursive = refl

recursive_captured : captured 0 (one (local_function (codes "f") (body [] (one (call "f"))))) ≡ true
recursive_captured = refl

recursive_sources : sources 1 (one (local_function (codes "f") (body [] (one (call "f"))))) ≡ local_use 0 ∷ []
recursive_sources = refl

not_recursive : uses (one (local_statement (named "f") (single (function_expression 1 (body [] (one (call "f"))))))) ≡ global_use ∷ []
not_recursive = refl

-- the condition of `repeat` sees the locals of the block, and what follows does not: `repeat local x until x x()`
condition : uses (two (repeat_loop (one (local_statement (named "x") no_expressions)) (name "x")) (call "x")) ≡ local_use 0 ∷ global_use ∷ []
condition = refl

-- `for i = i, i do i() end i()`
numeric : uses (two (numeric_for (codes "i") (name "i") (name "i") no_step (one (call "i"))) (call "i")) ≡ global_use ∷ global_use ∷ local_use 0 ∷ global_use ∷ []
numeric = refl

-- `for k, v in v do k(v) end`
generic : uses (one (generic_for (codes "k" ∷ codes "v" ∷ []) (single (name "v")) (one (called "k" (single (name "v")))))) ≡ global_use ∷ local_use 0 ∷ local_use 1 ∷ []
generic = refl

-- `function t.a:m(x) self(x) end`: `t` is mentioned, `self` is the first parameter
method : uses (one (function_statement (codes "t" ∷ codes "a" ∷ []) (Some (codes "m")) (body (named "x") (one (called "self" (single (name "x"))))))) ≡ global_use ∷ local_use 0 ∷ local_use 1 ∷ []
method = refl

-- and `function t.m(x) self(x) end` has no `self`
no_method : uses (one (function_statement (codes "t" ∷ codes "m" ∷ []) None (body (named "x") (one (called "self" (single (name "x"))))))) ≡ global_use ∷ global_use ∷ local_use 0 ∷ []
no_method = refl

-- `local x function f() function g() x() end end`: an upvalue of both functions, from the one around
abbrev levels : Statements
levels = two (local_statement (named "x") no_expressions) (function_statement (named "f") None (body [] (one (function_statement (named "g") None (body [] (one (call "x")))))))

through_two : uses levels ≡ global_use ∷ global_use ∷ upvalue_use 0 ∷ []
through_two = refl

inner_source : sources 2 levels ≡ upvalue_use 0 ∷ []
inner_source = refl

outer_source : sources 1 levels ≡ local_use 0 ∷ []
outer_source = refl

main_source : sources 0 levels ≡ []
main_source = refl

through_two_captured : captured 0 levels ≡ true
through_two_captured = refl

-- upvalues are in order of first mention: `local a, b function f() b() a() b() end`
abbrev ordered : Statements
ordered = two (local_statement (codes "a" ∷ codes "b" ∷ []) no_expressions) (function_statement (named "f") None (body [] (three (call "b") (call "a") (call "b"))))

order_of_mention : uses ordered ≡ global_use ∷ upvalue_use 0 ∷ upvalue_use 1 ∷ upvalue_use 0 ∷ []
order_of_mention = refl

order_of_sources : sources 1 ordered ≡ local_use 1 ∷ local_use 0 ∷ []
order_of_sources = refl

-- a local that is mentioned by its own function alone is not captured
not_captured : captured 0 (two (local_statement (named "x") no_expressions) (call "x")) ≡ false
not_captured = refl

-- `break`, in a loop, in a function inside a loop
break_alone : breach (two (call "f") break_statement) ≡ Some (no_loop 2)
break_alone = refl

break_in_loop : breach (one (while_loop (name "x") (one break_statement))) ≡ None
break_in_loop = refl

break_in_function : breach (one (while_loop (name "x") (one (function_statement (named "f") None (body [] (one break_statement)))))) ≡ Some (no_loop 1)
break_in_function = refl

break_behind_loop : breach (two (while_loop (name "x") no_statements) break_statement) ≡ Some (no_loop 2)
break_behind_loop = refl

-- `...` in the main chunk, in a function that takes extra arguments, in one that does not
dots_in_main : breach (one (return_statement (single (vararg_expression 1)))) ≡ None
dots_in_main = refl

dots_in_function : breach (one (function_statement (named "f") None (body [] (one (return_statement (single (vararg_expression 3))))))) ≡ Some (no_vararg 3)
dots_in_function = refl

dots_in_vararg : breach (one (function_statement (named "f") None (function_body [] true (one (return_statement (single (vararg_expression 1)))) 1 1))) ≡ None
dots_in_vararg = refl

dots_in_nested : breach (one (function_statement (named "f") None (function_body [] true (one (return_statement (single (function_expression 1 (body [] (one (return_statement (single (vararg_expression 2))))))))) 1 1))) ≡ Some (no_vararg 2)
dots_in_nested = refl

-- so many different names
abbrev names_below : ℕ → List Text
names_below zero = []
names_below (suc n) = (n ∷ []) ∷ names_below n

two_hundred : breach (one (local_statement (names_below 200) no_expressions)) ≡ None
two_hundred = refl

one_more : breach (one (local_statement (names_below 201) no_expressions)) ≡ Some (too_many_locals 1 201)
one_more = refl

-- the three hidden locals of a loop count, its variable too
loop_locals : breach (two (local_statement (names_below 196) no_expressions) (numeric_for (codes "i") (name "x") (name "x") no_step no_statements)) ≡ None
loop_locals = refl

one_loop_local_more : breach (two (local_statement (names_below 197) no_expressions) (numeric_for (codes "i") (name "x") (name "x") no_step no_statements)) ≡ Some (too_many_locals 2 201)
one_loop_local_more = refl

-- locals whose block has ended do not count
ended : breach (two (do_block (one (local_statement (names_below 150) no_expressions))) (local_statement (names_below 150) no_expressions)) ≡ None
ended = refl

-- a function that mentions so many locals of the main chunk
abbrev all_of : List Text → Expressions
all_of [] = no_expressions
all_of (text ∷ texts) = expression (name_expression 7 text) (all_of texts)

abbrev mentioning : ℕ → Statements
mentioning n = two (local_statement (names_below n) no_expressions) (function_statement (named "f") None (body [] (one (return_statement (all_of (names_below n))))))

sixty : breach (mentioning 60) ≡ None
sixty = refl

sixty_one : breach (mentioning 61) ≡ Some (too_many_upvalues 7 61)
sixty_one = refl

-- the first in the order of the spelling: `local x = ... ` is none of them, and then a break before 201 names
first : breach (two break_statement (local_statement (names_below 201) no_expressions)) ≡ Some (no_loop 1)
first = refl
